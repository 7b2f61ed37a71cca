-- The bytes that were taken stand behind the held ones.
use Rattle.std.proofs.Common.{◌≡◌, ◌+◌, ◌-◌, ◌≤◌, ◌++◌, take, drop, length, ap, sym, subst, ◌∙◌, arith}
use Rattle.std.specs.Vec.{with_items}
use Rattle.std.proofs.lemmas.List.{length-take-le, length-drop, with_items_is}
use Rattle.dd_lines.specs.Reading.{Reading}
use Rattle.dd_lines.proofs.Buffer.{held_grows, reading-held-taken}
use Rattle.dd_lines.proofs.Readings.{takes_front}
use Rattle.dd_lines.proofs.reader.LineReader.read.Goals as goal

pub returns-in-Ok-clause-fills : goal.returns-in-Ok-clause-fills
returns-in-Ok-clause-fills g c =
    let inside = c.self.inside in
    let start = c.make_room-self-inside.result in
    let end = start + (inside.end - inside.start) in
    let n = c.in-Ok.taken in
    let buffer = c.take_into.new.buffer in
    let bytes = take n (drop end buffer) in
    let moved = c.make_room-self-inside.new.buffer in
    let first : c.deref_mut.result.now ≡ inside.buffer.items = c.deref_mut.ensures.value in
    let kept : length moved ≡ inside.buffer.len = omega arith in
    let second : c.deref_mut-2.result.now ≡ moved = c.deref_mut-2.ensures.value ∙ with_items_is inside.buffer moved kept in
    let last = with_items (with_items inside.buffer moved) buffer in
    let third : last.items ≡ buffer = with_items_is (with_items inside.buffer moved) buffer (omega arith) in
    let fits : end + n ≤ length buffer = omega (arith, c.in-Ok.ensures.bound) in
    let size : length bytes ≡ n = length-take-le n (drop end buffer) (omega (arith, length-drop end buffer)) in
    let before = drop inside.start (take inside.end inside.buffer.items) in
    let grown : drop start (take (end + n) buffer) ≡ before ++ bytes =
    held_grows start end n moved buffer (omega arith) (omega arith) (c.in-Ok.ensures.kept ∙ ap (take end) second)
    ∙ ap (λ xs. xs ++ bytes) (c.make_room-self-inside.ensures.held ∙ ap (λ xs. drop inside.start (take inside.end xs)) first) in
    let held : drop start (take (end + n) last.items) ≡ before ++ bytes = ap (λ xs. drop start (take (end + n) xs)) third ∙ grown in
    let seen : Reading = record { held = before; taken = inside.taken; too_much = inside.too_much; failed = inside.failed; max_line = inside.max_line; max_bytes = inside.max_bytes } in
    let count : inside.taken + n ≡ inside.taken + length bytes = ap (λ k. inside.taken + k) (sym size) in
    let same = reading-held-taken seen (drop start (take (end + n) last.items)) (before ++ bytes) (inside.taken + n) (inside.taken + length bytes) held count in
    let P : Reading → Type 0 = λ r. record seen { held = drop start (take (end + n) last.items); taken = inside.taken + n } ≡ record r { held = r.held ++ bytes; taken = r.taken + length bytes } in
    let taken : inside.taken ≡ c.args.self.now.taken = ap (λ (r : Reading). r.taken) c.self.view_is in
    let limit : inside.max_bytes ≡ c.args.self.now.max_bytes = ap (λ (r : Reading). r.max_bytes) c.self.view_is in
    let within : n ≤ inside.max_bytes - inside.taken = omega (arith, c.in-Ok.ensures.bound, c.min-wanted.ensures) in
    (bytes, omega arith, omega (arith, c.requires.some), subst P c.self.view_is same, takes_front _ _ n (drop end buffer) c.in-Ok.ensures.bytes)
