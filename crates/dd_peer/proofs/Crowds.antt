-- Which peer is the first with too many rules.
use Rattle.std.proofs.Common.{◌≡◌, ◌∙◌, ℕ, zero, suc, ◌<◌, None, Some, ap, subst, inl, inr, arith}
use Rattle.std.specs.Option.{option_map, option_or}
use Rattle.std.proofs.lemmas.Bool.{cases_eq}
use Rattle.dd_peer.specs.declared.version.PeerVersion.{PeerVersion}
use Rattle.dd_peer.specs.Refusals.{crowd_of, first_crowd}

module _ (v : PeerVersion) where
  pub first_crowd-at : (f n m : ℕ) → first_crowd v f ≡ None → crowd_of v f ≡ Some n → f < m → first_crowd v m ≡ Some (f, n)
  first_crowd-at f n zero e h lt = absurd (omega arith)
  first_crowd-at f n (suc m) e h lt = elim (cases_eq f m) [
    | inl q ↦ subst (λ k. option_or (first_crowd v k) (option_map (λ count. (k, count)) (crowd_of v k)) ≡ Some (f, n)) q
        (ap (λ o. option_or o (option_map (λ count. (f, count)) (crowd_of v f))) e ∙ ap (option_map (λ count. (f, count))) h)
    | inr ne ↦ ap (λ o. option_or o (option_map (λ count. (m, count)) (crowd_of v m))) (first_crowd-at f n m e h (omega (arith, ne)))
  ]
