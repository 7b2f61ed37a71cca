-- One text more.
use Rattle.std.proofs.Common.{◌≡◌, ◌∙◌, ◌==◌, ◌+◌, ◌++◌, ℕ, suc, false, Bool, List, [], ◌∷◌, arith, codes, cond, length, map, rules, ap, sym}
use Rattle.std.specs.List.{flat_map, range_with_len}
use Rattle.std.proofs.lemmas.List.{append_assoc, append-nil, length-map, map-append}
use Rattle.std.proofs.lemmas.List.FromFn.{length-map-range_with_len, map-range_with_len_more}
use Rattle.std.proofs.lemmas.Grind.{flat_map-append}
use Rattle.dd_gen.specs.Made.{chain}
use Rattle.dd_gen.specs.Written.{comma_after, implies, numbered, quoted, with_commas}

not_zero : (n : ℕ) → (suc n == 0) ≡ false
not_zero n = search rules

one_more : (texts : List (List ℕ)) (text : List ℕ) → with_commas (texts ++ text ∷ []) ≡ with_commas texts ++ comma_after (length texts) ++ text
one_more [] text = append-nil text
one_more (t ∷ ts) text =
    let others = flat_map (λ u. codes "," ++ u) ts in
    ap (λ l. t ++ l) (flat_map-append (λ u. codes "," ++ u) ts (text ∷ []) ∙ ap (λ l. others ++ l) (append-nil (codes "," ++ text)))
    ∙ sym (append_assoc t others (codes "," ++ text))
    ∙ sym (append_assoc (t ++ others) (codes ",") text)
    ∙ ap (λ (b : Bool). t ++ others ++ cond b [] (codes ",") ++ text) (sym (not_zero (length ts)))

-- the texts of the numbers from 0 on, with one number more
pub numbers-more : (f : ℕ → List ℕ) (n : ℕ) → with_commas (map f (range_with_len 0 (n + 1))) ≡ with_commas (map f (range_with_len 0 n)) ++ comma_after n ++ f n
numbers-more f n =
    ap with_commas (map-range_with_len_more f 0 n n (omega arith))
    ∙ one_more (map f (range_with_len 0 n)) (f n)
    ∙ ap (λ k. with_commas (map f (range_with_len 0 n)) ++ comma_after k ++ f n) (length-map-range_with_len f 0 n)

-- quoted texts, with one more
pub quoted-more : (texts : List (List ℕ)) (text : List ℕ) (n : ℕ) → length texts ≡ n
    → with_commas (map quoted (texts ++ text ∷ [])) ≡ with_commas (map quoted texts) ++ comma_after n ++ quoted text
quoted-more texts text n h =
    ap with_commas (map-append quoted texts (text ∷ []))
    ∙ one_more (map quoted texts) (quoted text)
    ∙ ap (λ k. with_commas (map quoted texts) ++ comma_after k ++ quoted text) (length-map texts quoted ∙ h)

pub chain-length : (letter : List ℕ) (n : ℕ) → length (chain letter n) ≡ n
chain-length letter n = length-map-range_with_len (λ t. implies (numbered letter t) (numbered letter (t + 1))) 0 n

pub chain-more : (letter : List ℕ) (n : ℕ)
    → with_commas (map quoted (chain letter (n + 1))) ≡ with_commas (map quoted (chain letter n)) ++ comma_after n ++ quoted (implies (numbered letter n) (numbered letter (n + 1)))
chain-more letter n =
    let f : ℕ → List ℕ = λ t. implies (numbered letter t) (numbered letter (t + 1)) in
    ap (λ ts. with_commas (map quoted ts)) (map-range_with_len_more f 0 n n (omega arith))
    ∙ quoted-more (chain letter n) (f n) n (chain-length letter n)

-- what was written after a beginning, a comma and one text more
pub written-more : (start before comma text after first second third : List ℕ)
    → after ≡ before ++ comma ++ text → first ≡ start ++ before → second ≡ first ++ comma → third ≡ second ++ text → third ≡ start ++ after
written-more start before comma text after first second third h e f g =
    g ∙ ap (λ l. l ++ text) (f ∙ ap (λ l. l ++ comma) e ∙ append_assoc start before comma) ∙ append_assoc start (before ++ comma) text ∙ ap (λ l. start ++ l) (sym h)
