-- Lines derive a query exactly where there is no fault, and there is no more than one.
use Rattle.std.proofs.Common.{◌≡◌, ◌∙◌, ◌<◌, ◌↔◌, ℕ, zero, suc, true, List, [], ◌∷◌, length, map, take, slice_get, Some, Result, Ok, Err, IsOk, OnOk, refl, sym, ap, subst, inl, inr, arith}
use Rattle.std.proofs.lemmas.Bool.{false≢true, cases_order}
use Rattle.dd_peer.specs.declared.version.Pinned.{Pinned}
use Rattle.dd_peer.specs.declared.version.Query.{Query}
use Rattle.dd_task.specs.Claims.{claim_of}
use Rattle.dd_task.specs.declared.line.Line.{Line}
use Rattle.dd_task.specs.Derives.{Derives}
use Rattle.dd_task.specs.Lines.{is_there, is_right, AreRight}
use Rattle.dd_world.specs.World.{Follows}
use Rattle.dd_check.specs.declared.check.LineFault.{LineFault}
use Rattle.dd_check.specs.Faults.{is_right_at, IsFirstWrong, IsFault, Judges}
use Rattle.dd_check.proofs.Sound.{derived-follows}

item-there : {A : Type 0} (xs : List A) (k : ℕ) → k < length xs → (x : A) × (slice_get xs k ≡ Some x)
item-there [] k lt = absurd (omega (arith, lt))
item-there (x ∷ xs) zero lt = (x, refl)
item-there (x ∷ xs) (suc k) lt = item-there xs k (omega (arith, lt))

module _ (p : Pinned) (lines : List Line) where
  pub right-at : AreRight p lines → (k : ℕ) → k < length lines → is_right_at p lines k ≡ true
  right-at r k lt = let item = item-there lines k lt in
      ap (λ o. is_there o (is_right p (map claim_of (take k lines)))) item.1 ∙ r k item.0 item.1

module _ (p : Pinned) (q : Query) (lines : List Line) where
  derives-no_fault : Derives p q lines → (at : ℕ) → IsFault p q lines at → ⊥
  derives-no_fault d at (inl w) = false≢true (sym w.wrong ∙ right-at p lines d.right at w.within)
  derives-no_fault d at (inr e) = e.elsewhere d.last

  not-both : (m n : ℕ) → IsFirstWrong p lines m → IsFirstWrong p lines n → m < n → ⊥
  not-both m n a b lt = false≢true (sym a.wrong ∙ b.before m lt)

  one-fault : (m n : ℕ) → IsFault p q lines m → IsFault p q lines n → m ≡ n
  one-fault m n (inl a) (inl b) = elim (cases_order m n) [
    | inl e ↦ e
    | inr apart ↦ elim apart [ inl lt ↦ absurd (not-both m n a b lt) | inr lt ↦ absurd (not-both n m b a lt) ]
  ]
  one-fault m n (inl a) (inr b) = absurd (false≢true (sym a.wrong ∙ right-at p lines b.right m a.within))
  one-fault m n (inr a) (inl b) = absurd (false≢true (sym b.wrong ∙ right-at p lines a.right n b.within))
  one-fault m n (inr a) (inr b) = a.at_end ∙ sym b.at_end

  pub judged-ok : (r : Result (Unit {0}) LineFault) → Judges p q lines r → IsOk r ↔ Derives p q lines
  judged-ok (Ok u) j = (λ h. j, λ d. refl)
  judged-ok (Err f) j = (λ h. absurd (false≢true h), λ d. absurd (derives-no_fault d f.at j))

  same-fault : (f g : LineFault) → f.at ≡ g.at → f ≡ g
  same-fault f g e = ap (λ (n : ℕ). let made : LineFault = record { at = n } in made) e

  abbrev refused : LineFault → Result (Unit {0}) LineFault
  refused f = Err f

  err-is : (f g : LineFault) → refused f ≡ refused g → f ≡ g
  err-is f g e = cc

  pub judged-err : (r : Result (Unit {0}) LineFault) → Judges p q lines r → (f : LineFault) → (r ≡ Err f) ↔ IsFault p q lines f.at
  judged-err (Ok u) j f = (λ e. cc, λ w. absurd (derives-no_fault j f.at w))
  judged-err (Err g) j f = (
    λ e. subst (λ (h : LineFault). IsFault p q lines h.at) (err-is g f e) j,
    λ w. ap Err (same-fault g f (one-fault g.at f.at j w)),
  )

  pub judged-follows : (r : Result (Unit {0}) LineFault) → Judges p q lines r → OnOk r (Follows p q)
  judged-follows (Ok u) j = derived-follows p q lines j
  judged-follows (Err f) j = tt
