-- What was given so far, and what is given next.
use Rattle.std.proofs.Common.{◌≡◌, ℕ, ◌+◌, ◌<◌, List, [], ◌∷◌, ◌++◌, refl, ap, sym, ◌∙◌, subst, Option, None, Some, Result, Ok, Err, OnErr, take, drop, get_or, length}
use Rattle.std.proofs.lemmas.List.{append_assoc, drop_more, take-append-drop}
use Rattle.dd_lines.specs.Outside.{Gives, GivesFront}
use Rattle.drago.specs.Made.{text_of}

gives_both : (a b c : Option (List ℕ)) (xs ys : List ℕ) → Gives a b xs → Gives b c ys → Gives a c (xs ++ ys)
gives_both None None c xs ys f g = g
gives_both None (Some bs) c xs ys f g = absurd (apart f)
  where
    apart : Some bs ≡ None → ⊥
    apart e = cc e
gives_both (Some as') None c xs ys f g = absurd f
gives_both (Some as') (Some bs) None xs ys f g = absurd g
gives_both (Some as') (Some bs) (Some cs) xs ys f g = g ∙ ap (λ (zs : List ℕ). zs ++ ys) f ∙ append_assoc as' xs ys

-- what was given and a front of what is given next, of a text that begins so
pub front_after : (a b c : Option (List ℕ)) (xs ys : List ℕ) → Gives a b xs → GivesFront b c ys → GivesFront a c (xs ++ ys)
front_after a b c xs ys f g = (xs ++ g.0, g.1, ap (λ (zs : List ℕ). xs ++ zs) g.2 ∙ sym (append_assoc xs g.0 g.1), gives_both a b c xs g.0 f g.3)

pub front_before : (a b : Option (List ℕ)) (xs ys : List ℕ) → GivesFront a b xs → GivesFront a b (xs ++ ys)
front_before a b xs ys g = (g.0, g.1 ++ ys, ap (λ (zs : List ℕ). zs ++ ys) g.2 ∙ append_assoc g.0 g.1 ys, g.3)

text-append : (ls ms : List (List ℕ)) → text_of (ls ++ ms) ≡ text_of ls ++ text_of ms
text-append [] ms = refl
text-append (l ∷ ls) ms = ap (λ (zs : List ℕ). (l ++ 10 ∷ []) ++ zs) (text-append ls ms) ∙ sym (append_assoc (l ++ 10 ∷ []) (text_of ls) (text_of ms))

-- an error comes with what holds
pub with_err : {T E P : Type 0} (r : Result T E) → P → OnErr r P
with_err (Ok x) p = tt
with_err (Err e) p = p

pub on_err : {T E P Q : Type 0} (r : Result T E) → (P → Q) → OnErr r P → OnErr r Q
on_err (Ok x) f h = tt
on_err (Err e) f h = f h

text-split : (done : List (List ℕ)) (line : List ℕ) (rest : List (List ℕ)) → text_of (done ++ line ∷ rest) ≡ (text_of done ++ (line ++ 10 ∷ [])) ++ text_of rest
text-split done line rest = text-append done (line ∷ rest) ∙ sym (append_assoc (text_of done) (line ++ 10 ∷ []) (text_of rest))

-- the lines so far were given, and a front of the next one
pub front_of_lines : (a b c : Option (List ℕ)) (done : List (List ℕ)) (line : List ℕ) (rest : List (List ℕ)) → Gives a b (text_of done) → GivesFront b c (line ++ 10 ∷ [])
    → GivesFront a c (text_of (done ++ line ∷ rest))
front_of_lines a b c done line rest f g =
    subst (GivesFront a c) (sym (text-split done line rest))
    (front_before a c (text_of done ++ (line ++ 10 ∷ [])) (text_of rest) (front_after a b c (text_of done) (line ++ 10 ∷ []) f g))

-- a list is what stands before one of its items, the item, and what stands behind
pub parts_at : {X : Type 0} (xs : List X) (i : ℕ) (x : X) → i < length xs → x ≡ get_or xs i x → xs ≡ take i xs ++ x ∷ drop (i + 1) xs
parts_at {X = X} xs i x lt is =
    sym (take-append-drop i xs) ∙ ap (λ (ys : List X). take i xs ++ ys) (drop_more xs i x lt ∙ ap (λ (y : X). y ∷ drop (i + 1) xs) (sym is))
