-- How pieces that are given one after another join.
use Rattle.std.proofs.Common.{ℕ, ◌≤◌, Option, Some, None, List, [], ◌++◌, refl, sym, ap, ◌∙◌, inl, inr, arith, append_assoc}
use Rattle.std.proofs.lemmas.List.{append-nil}
use Rattle.dd_lines.specs.Outside.{Rose, Gives, TakesFront}

pub gives-nothing : (a : Option (List ℕ)) → Gives a a []
gives-nothing None = refl
gives-nothing (Some xs) = sym (append-nil xs)

pub gives-both : (a b c : Option (List ℕ)) (xs ys : List ℕ) → Gives a b xs → Gives b c ys → Gives a c (xs ++ ys)
gives-both None None c xs ys h k = k
gives-both None (Some zs) c xs ys h k = cc
gives-both (Some us) None c xs ys h k = absurd h
gives-both (Some us) (Some vs) None xs ys h k = absurd k
gives-both (Some us) (Some vs) (Some ws) xs ys h k = k ∙ ap (λ zs. zs ++ ys) h ∙ append_assoc us xs ys

pub takes-both : (a b c : Option (List ℕ)) (xs ys : List ℕ) → TakesFront a b xs → TakesFront b c ys → TakesFront a c (xs ++ ys)
takes-both None None c xs ys h k = k
takes-both None (Some zs) c xs ys h k = cc
takes-both (Some us) None c xs ys h k = absurd h
takes-both (Some us) (Some vs) None xs ys h k = absurd k
takes-both (Some us) (Some vs) (Some ws) xs ys h k = h ∙ ap (λ zs. xs ++ zs) k ∙ sym (append_assoc xs ys ws)

pub rose-after : (a b c : ℕ) → a ≤ b → Rose b c → Rose a c
rose-after a b c h r = elim r [ inl k ↦ inl (omega arith) | inr k ↦ inr k ]

pub rose-before : (a b c : ℕ) → Rose a b → b ≤ c → Rose a c
rose-before a b c r h = elim r [ inl k ↦ inl (omega arith) | inr k ↦ inr (omega arith) ]
