-- A session over made requests, line by line.
use Rattle.std.proofs.Common.{◌≡◌, ◌∙◌, ℕ, List, [], ◌∷◌, ◌++◌, map, length, ◌+◌, Result, Ok, Err, OnOk, refl, sym, ap, subst, length-append, arith}
use Rattle.std.proofs.lemmas.List.{map-append}
use Rattle.dd_read.specs.Options.{defaults}
use Rattle.dd_read.specs.declared.options.Options.{Options}
use Rattle.dd_server.specs.Finish.{Entries}
use Rattle.dd_server.specs.Session.{FinishesAt, Standing, Through, opening}
use Rattle.dd_server.specs.Windows.{line_text}
use Rattle.dd_server.proofs.GoesOn.{through-turn}
use Rattle.dd_wire.specs.declared.reply.Reply.{Reply}
use Rattle.dd_words.specs.Numbers.{IsGenerated}
use Rattle.dd_words.specs.declared.command.Generated.{Generated}
use Rattle.dd_gen.specs.Made.{lines_of_make}
use Rattle.drago.specs.Drilled.{IsDrilled, kinds_of}
use Rattle.drago.specs.Drills.{AddsTurn, AddsWindow, AreKinds, HasDrilled}
use Rattle.drago.specs.Summary.{kind_of, summary_text}
use Rattle.drago.specs.declared.summary.Kind.{Kind}
use Rattle.drago.proofs.Cut.{made_lines_cut}

kinds-append : (rs ss : List Reply) → kinds_of (rs ++ ss) ≡ kinds_of rs ++ kinds_of ss
kinds-append rs ss = map-append _ rs ss

-- the lines of the replies tell what the replies tell
by_lines : (rs : List Reply) → map kind_of (map line_text rs) ≡ kinds_of rs
by_lines [] = refl
by_lines (r ∷ rs) = ap (λ (ks : List Kind). kind_of (line_text r) ∷ ks) (by_lines rs)

-- what a window's lines tell is what its replies tell
pub adds_window : {T E : Type 0} (added : Result T E) (options : Options) (at : Standing) (entries : Entries) (texts : List (List ℕ)) (replies : List Reply) (old new : List Kind)
    → options ≡ defaults → FinishesAt options at entries replies → texts ≡ map line_text replies → OnOk added (new ≡ old ++ map kind_of texts) → OnOk added (AddsWindow at entries old new)
adds_window (Err e) options at entries texts replies old new is f t h = tt
adds_window (Ok x) options at entries texts replies old new is f t h =
    (replies, subst (λ (o : Options). FinishesAt o at entries replies) is f, h ∙ ap (λ (ls : List (List ℕ)). old ++ map kind_of ls) t ∙ ap (λ (ks : List Kind). old ++ ks) (by_lines replies))

-- one more item was taken, and one less is left
pub one_more : {X : Type 0} (done : List X) (x : X) (old new : List X) (n : ℕ) → old ≡ x ∷ new → length done + length old ≡ n → length (done ++ x ∷ []) + length new ≡ n
one_more done x old new n is sum =
    let lengths = length-append done (x ∷ []) in
    let left : length old ≡ length (x ∷ new) = ap length is in
    omega (arith, lengths, left, sum)

pub drills_more : (lines : List (List ℕ)) (line : List ℕ) (at next : Standing) (old new : List Kind) → HasDrilled lines at old → AddsTurn at line next old new → HasDrilled (lines ++ line ∷ []) next new
drills_more lines line at next old new h t = record {
  replies = h.replies ++ t.0;
  through = through-turn defaults opening at next lines line h.replies t.0 h.through t.1;
  told = t.2 ∙ ap (λ (ks : List Kind). ks ++ kinds_of t.0) h.told ∙ sym (kinds-append h.replies t.0);
}

-- what was told of all replies is the summary's
pub drilled : (g : Generated) (kinds : List Kind) → IsGenerated g → AreKinds (lines_of_make g.seed g.peers g.size) kinds → IsDrilled g (summary_text kinds ++ 10 ∷ [])
drilled g kinds is h =
    let so_far = h.3 in
    let end = h.4 in
    let told : kinds ≡ kinds_of (so_far.replies ++ end.0) = end.2 ∙ ap (λ (ks : List Kind). ks ++ kinds_of end.0) so_far.told ∙ sym (kinds-append so_far.replies end.0) in
    let through = subst (λ (ls : List (List ℕ)). Through defaults opening ls h.0 so_far.replies) (sym (made_lines_cut g is)) so_far.through in
    (so_far.replies ++ end.0, (h.0, so_far.replies, h.1, end.0, through, end.1, refl), ap (λ (ks : List Kind). summary_text ks ++ 10 ∷ []) told)
