-- The bytes that were copied are the next ones, and none only at the end.
use Rattle.std.proofs.Common.{◌≡◌, ℕ, ◌+◌, List, [], ◌++◌, take, drop, length, min, subst, sym, ap, ◌∙◌}
use Rattle.std.proofs.lemmas.List.{take_rest}
use Rattle.dd_lines.specs.Memory.{Feeding}
use Rattle.dd_lines.proofs.Buffer.{copied_front}
use Rattle.dd_lines.proofs.memory.MemSourceSource.take.Goals as goal

pub returns-clause-bytes : goal.returns-clause-bytes
returns-clause-bytes c =
    let at = c.self.inside.at in
    let n = c.min-taken.result in
    let room = c.args.room.now in
    let copy = c.copy_from_slice.new.self in
    let count = c.min-taken.ensures ∙ ap (λ k. min k (length room)) (rw take_rest at c.min.ensures) in
    let front = copied_front at n c.self.inside.piece c.deref.result.now room copy (rw take_rest at c.copy_from_slice.ensures.after) count c.self.invariant.some c.requires in
    let P : List ℕ → Type 0 = λ xs. (drop at xs ≡ take n (copy ++ drop n room) ++ drop (at + n) xs) × (n ≡ 0 → drop at xs ≡ []) in
    let here = subst P c.deref.ensures.value front in
    let seen : drop at c.self.inside.bytes.items ≡ c.args.self.now.left = ap (λ (s : Feeding). s.left) c.self.view_is in
    (sym seen ∙ here.0, λ none. sym seen ∙ here.1 none)
