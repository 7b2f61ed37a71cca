-- One line more, and all of them.
use Rattle.std.proofs.Common.{◌≡◌, ◌∙◌, ◌+◌, ◌++◌, ℕ, List, [], ◌∷◌, arith, map, ap, sym}
use Rattle.std.specs.List.{range_with_len}
use Rattle.std.proofs.lemmas.List.{append_assoc, map-append}
use Rattle.std.proofs.lemmas.List.FromFn.{map-range_with_len_more}

pub lines-more : {X : Type 0} (text : X → List ℕ) (f : ℕ → List ℕ) (n : ℕ) (start : List (List ℕ)) (old new : List X) (line : X)
    → map text old ≡ start ++ map f (range_with_len 0 n) → text line ≡ f n → new ≡ old ++ line ∷ [] → map text new ≡ start ++ map f (range_with_len 0 (n + 1))
lines-more text f n start old new line h k e =
    ap (map text) e
    ∙ map-append text old (line ∷ [])
    ∙ ap (λ l. l ++ text line ∷ []) h
    ∙ ap (λ (t : List ℕ). start ++ map f (range_with_len 0 n) ++ t ∷ []) k
    ∙ append_assoc start (map f (range_with_len 0 n)) (f n ∷ [])
    ∙ ap (λ l. start ++ l) (sym (map-range_with_len_more f 0 n n (omega arith)))

pub all-lines : (first : List ℕ) (puts onward backward m1 m2 m3 m4 : List (List ℕ))
    → m1 ≡ first ∷ [] → m2 ≡ m1 ++ puts → m3 ≡ m2 ++ onward → m4 ≡ m3 ++ backward → m4 ≡ first ∷ (puts ++ onward ++ backward)
all-lines first puts onward backward m1 m2 m3 m4 e f g h = h ∙ ap (λ l. l ++ backward) (g ∙ ap (λ l. l ++ onward) (f ∙ ap (λ l. l ++ puts) e))
