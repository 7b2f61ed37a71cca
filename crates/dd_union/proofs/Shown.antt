-- The placed parts and their links show that the query does not follow.
use Rattle.std.proofs.Common.{◌≡◌, ◌∙◌, ℕ, List, length, Option, Some, ap, subst, sym, inl, inr, arith}
use Rattle.std.specs.List.{slice_get}
use Rattle.std.proofs.lemmas.Bool.{cases_lt}
use Rattle.std.proofs.lemmas.Option.{same_Some}
use Rattle.dd_interp.specs.declared.interp.Interp.{Interp}
use Rattle.dd_interp.specs.Satisfies.{IsShaped}
use Rattle.dd_board.specs.declared.event.Outcome.TheVariants.{Quiet}
use Rattle.std.specs.Option.{option_map_or}
use Rattle.dd_board.specs.Boards.{tasks_in}
use Rattle.dd_board.specs.Fit.{IsPlaced}
use Rattle.dd_board.specs.Legal.{IsLegal}
use Rattle.dd_board.specs.Standing.{IsOutcome}
use Rattle.dd_board.specs.View.{SessionView}
use Rattle.dd_union.specs.declared.place.Place.{Place}
use Rattle.dd_union.specs.Evidence.{ShowsNo}
use Rattle.dd_union.specs.Pieces.{Link, ArePlaced, OpenShaped, start_at, all_joined}
use Rattle.dd_union.proofs.Joining.{placed-inverse, union-of}
use Rattle.dd_union.proofs.Quiet.{quiet_counters}
use Rattle.dd_union.proofs.Reading.{legal-part, part-opens}
use Rattle.dd_union.proofs.Written.{written-local}

module _ (v : SessionView) (places : List (Option Place)) (locals : List Interp) (all : ArePlaced v places locals) where
  pub open-shaped : IsLegal v → OpenShaped v places
  open-shaped legal t q o at opens =
      let p = all.placed t q (placed-inverse places t q at) in
      let same : (p.m, p.x) ≡ o = same_Some (p.m, p.x) o (sym (part-opens v t q.peer p.m p.x p.part) ∙ opens) in
      subst (λ (k : Interp × ℕ). IsShaped k.0) same (legal-part v legal t q.peer p.m p.x p.part).shaped

  pub shows-no : IsLegal v → IsPlaced v.job → IsOutcome v Quiet → length places ≡ length v.tasks → (links : List Link) → links ≡ all_joined v places
      → ShowsNo v (record { locals = locals; links = links })
  shows-no legal fit quiet count links is = record {
    counter = quiet_counters v (start_at places) (record { locals = locals; links = links }) legal fit quiet
        (union-of v places locals all count links is);
    empty = λ i local at none. elim (cases_lt 0 local.size) [
      | inl some ↦ let c = all.covers i local 0 at some in absurd (none c.t c.part.task c.part.wanted c.part.at c.part.peer)
      | inr few ↦ omega (arith, few)
    ];
    written = λ i local at. written-local v legal fit (start_at places) (record { locals = locals; links = links }) (union-of v places locals all count links is) i local at;
  }

pub tasks-are : (board : List SessionView) (n : ℕ) (v : SessionView) → slice_get board n ≡ Some v → tasks_in board n ≡ length v.tasks
tasks-are board n v at = ap (λ o. option_map_or (λ (s : SessionView). length s.tasks) o 0) at
