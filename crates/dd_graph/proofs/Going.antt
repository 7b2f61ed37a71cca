-- The relations of the kernel's calls: each holds of no change, and of two changes one after the other.
use Rattle.std.proofs.Common.{◌≡◌, ◌≢◌, ℕ, ◌<◌, ◌≤◌, ◌+◌, ◌*◌, Bool, true, false, ◌||◌, List, length, Option, None, Some, slice_get, slice_set, refl, sym, ap, ap₂, subst, ◌∙◌, arith, inl, inr, ◌⊎◌, vec_len}
use Rattle.std.proofs.lemmas.Bool.{cases_eq, cases_lt, false≢true, or_parts}
use Rattle.std.proofs.lemmas.List.Sums.{sum_by-set}
use Rattle.std.proofs.lemmas.Option.{slice_get_within, get_or_from_slice_get}
use Rattle.std.specs.List.{slice_index_or}
use Rattle.dd_graph.specs.declared.kernel.Kernel.{Kernel}
use Rattle.dd_graph.specs.declared.node.Entry.{Entry}
use Rattle.dd_graph.specs.Goes.{width_in, work, IsBegun, Goes, Lessens, Puts, Sets}
use Rattle.dd_graph.specs.Right.{effort, effort_of, width_of}
use Rattle.dd_graph.specs.View.{kernel_view, rules_at, Keeps, is_settled}
use Rattle.dd_rules.specs.Compiled.{rules_in}
use Rattle.dd_rules.specs.Numbers.{Rules}
use Rattle.dd_table.specs.Labels.{Labels}
use Rattle.dd_graph.proofs.Lists.{same_Some, place_at, get_set_other}

pub goes-refl : (k : Kernel) → IsBegun k → Goes k k
goes-refl k begun = record {
  keeps = record { closure = refl; props = refl; labels = λ n l h. h; settled = λ n e h s. h };
  goal = refl;
  begun = begun;
  room = refl;
  less = omega arith;
  marks = λ n h. h;
  new_marks = λ n h lt. absurd (omega (arith, h, lt));
  work = omega arith;
}

pub goes-trans : (a b c : Kernel) → Goes a b → Goes b c → Goes a c
goes-trans a b c f g = record {
  keeps = record {
    closure = g.keeps.closure ∙ f.keeps.closure;
    props = g.keeps.props ∙ f.keeps.props;
    labels = λ n l h. g.keeps.labels n l (f.keeps.labels n l h);
    settled = λ n e h s. g.keeps.settled n e (f.keeps.settled n e h s) s;
  };
  goal = g.goal ∙ f.goal;
  begun = g.begun;
  room = g.room ∙ f.room;
  less = let one = f.less in let two = g.less in omega (arith, one, two);
  marks = λ n h. g.marks n (f.marks n h);
  new_marks = λ n h lt. elim (cases_lt n (length b.table.list)) [
    | inl below ↦ g.marks n (f.new_marks n h below)
    | inr above ↦ g.new_marks n above lt
  ];
  work = let one = f.work in let two = g.work in omega (arith, one, two);
}

pub puts-refl : (k : Kernel) → IsBegun k → Puts k k
puts-refl k begun = record { goes = goes-refl k begun; entries = λ n e h. h }

pub puts-trans : (a b c : Kernel) → Puts a b → Puts b c → Puts a c
puts-trans a b c f g = record { goes = goes-trans a b c f.goes g.goes; entries = λ n e h. g.entries n e (f.entries n e h) }

-- ---- one entry changes

module _ (id : ℕ) (e o : Entry) (old new : Kernel) (sets : Sets id e old new) (was : slice_get old.entries.items id ≡ Some o) where
  same_rules : rules_at (kernel_view new) ≡ rules_at (kernel_view old)
  same_rules = ap₂ rules_in sets.compiled sets.props

  same_width : width_in new ≡ width_in old
  same_width = ap width_of same_rules

  effort_moves : effort (width_in old) new.entries.items + effort_of (width_in old) o ≡ effort (width_in old) old.entries.items + effort_of (width_in old) e
  effort_moves =
      let within : id < length old.entries.items = slice_get_within old.entries.items id o was in
      let here : slice_index_or old.entries.items id o ≡ o = get_or_from_slice_get old.entries.items id o o was in
      let sums : effort (width_in old) (slice_set old.entries.items id e) + effort_of (width_in old) (slice_index_or old.entries.items id o) ≡ effort (width_in old) old.entries.items + effort_of (width_in old) e =
      sum_by-set (effort_of (width_in old)) old.entries.items id e o within in
      ap (λ es. effort (width_in old) es + effort_of (width_in old) o) sets.entries ∙ ap (λ x. effort (width_in old) (slice_set old.entries.items id e) + effort_of (width_in old) x) (sym here) ∙ sums

  work_new : work new ≡ effort (width_in old) new.entries.items + (width_in old + 2) * old.left
  work_new = ap₂ (λ w n. effort w new.entries.items + (w + 2) * n) same_width sets.left

  less_work : effort_of (width_in old) e < effort_of (width_in old) o → work new < work old
  less_work h = subst (λ n. n < work old) (sym work_new) (let moved = effort_moves in omega (arith, moved, h))

  pub sets-less : effort_of (width_in old) e < effort_of (width_in old) o → Lessens old new
  sets-less h = record { less = less_work h }

  module _ (unsettled : is_settled o ≡ false) (less : effort_of (width_in old) e ≤ effort_of (width_in old) o) (begun : IsBegun old) where
    pub sets-goes : Goes old new
    sets-goes = record {
      keeps = record {
        closure = sets.compiled;
        props = sets.props;
        labels = λ n l h. ap (λ (t : Labels). slice_get t.list n) sets.table ∙ h;
        settled = λ n x h s. ap (λ es. slice_get es n) sets.entries
            ∙ get_set_other old.entries.items id n e (λ here. false≢true (sym unsettled ∙ ap is_settled (same_Some o x (sym was ∙ ap (slice_get old.entries.items) (sym here) ∙ h)) ∙ s))
            ∙ h;
      };
      goal = sets.goal;
      begun = subst (λ n. n < length new.table.list) (sym sets.goal) (subst (λ (t : Labels). old.goal < length t.list) (sym sets.table) begun);
      room = ap₂ (λ (t : Labels) n. length t.list + n) sets.table sets.left;
      less = let is = sets.left in omega (arith, is);
      marks = λ n h. ap (λ ms. slice_get ms n) sets.reached ∙ h;
      new_marks = λ n h lt. absurd (let is : length new.table.list ≡ length old.table.list = ap (λ (t : Labels). length t.list) sets.table in omega (arith, h, lt, is));
      work = subst (λ n. n ≤ work old) (sym work_new) (let moved = effort_moves in omega (arith, moved, less));
    }
