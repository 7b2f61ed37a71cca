-- What a line does to where a session stands.
use Rattle.std.proofs.Common.{◌≡◌, ◌==◌, ℕ, ◌+◌, ◌<◌, ◌≤◌, List, [], ◌∷◌, ◌++◌, length, Bool, true, false, refl, ap, sym, ◌∙◌, subst, arith, Result, Ok, Err, IfOk}
use Rattle.dd_read.specs.Read.{Read}
use Rattle.dd_read.specs.Standing.{Standing, TakesBy, TakesLine, and_kept, due_at, is_blank}
use Rattle.dd_read.specs.State.{State}
use Rattle.dd_read.specs.Tests.{longest_line}
use Rattle.dd_read.specs.declared.accepted.Accepted.{Accepted}
use Rattle.dd_read.specs.declared.accepted.Accepted.TheVariants.{Due, More}
use Rattle.dd_read.specs.declared.kept.Kept.{Kept}
use Rattle.dd_read.specs.declared.options.Options.{Options}

pub blank_takes : (o : Options) (s : Standing) (line : List ℕ) → is_blank line ≡ true → TakesLine o s line s Due
blank_takes o s line h = subst (λ (b : Bool). TakesBy b o s line s Due) (sym h) (refl, refl)

pub read_takes : (o : Options) (old new : Standing) (line : List ℕ) (state : State) (kept : Kept) (answer : Accepted) → is_blank line ≡ false → Read o old.state (old.requests + 1) line state kept
    → new ≡ and_kept old state kept → answer ≡ due_at (length new.kept == o.window) → TakesLine o old line new answer
read_takes o old new line state kept answer h read stands due = subst (λ (b : Bool). TakesBy b o old line new answer) (sym h) (state, kept, read, stands, due)

pub long_not_blank : (line : List ℕ) → longest_line < length line → is_blank line ≡ false
long_not_blank [] h = absurd (none h)
  where
    none : longest_line < 0 → ⊥
    none k = omega arith
long_not_blank (b ∷ []) h = absurd (one h)
  where
    one : longest_line < 1 → ⊥
    one k = omega arith
long_not_blank (b ∷ c ∷ bs) h = refl

-- a standing that has been read, and then one more is kept
pub stands_kept : (old mid new : Standing) (kept : Kept) → mid.requests ≡ old.requests → mid.kept ≡ old.kept → new ≡ and_kept mid mid.state kept → new ≡ and_kept old mid.state kept
stands_kept old mid new kept requests window is =
    is ∙ ap (λ (n : ℕ). at n mid.kept) requests ∙ ap (λ (ks : List Kept). at old.requests ks) window
  where
    at : ℕ → List Kept → Standing
    at n ks = record { state = mid.state; requests = n + 1; kept = ks ++ kept ∷ [] }

-- two facts of what a call gives tell a third
pub both_ok : {T E : Type 0} {P Q R : T → Type 0} (r : Result T E) → ((x : T) → P x → Q x → R x) → IfOk r P → IfOk r Q → IfOk r R
both_ok (Ok x) f p q = f x p q
both_ok (Err e) f p q = tt
