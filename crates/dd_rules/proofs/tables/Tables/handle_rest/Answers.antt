use Rattle.std.proofs.Common.{◌≡◌, ◌∙◌, true, sym, ap, refl, subst, [], List, ℕ, length, arith}
use Rattle.dd_set.specs.Words.{has}
use Rattle.dd_rules.specs.Tables.{tabled_rules}
use Rattle.dd_rules.proofs.Draining.{drained, forced-trans, handled-next}
use Rattle.dd_rules.proofs.Pending.{fewer-left}
use Rattle.dd_rules.proofs.tables.Tables.handle_rest.Goals as goal
use Rattle.dd_rules.proofs.tables.Tables.handle_rest.Goals.{After-next_of}

-- the number that was found is one of the label
there : (c : After-next_of) (n : ℕ) → has c.words.result.now n ≡ true → has c.loop-n.label.words n ≡ true
there c n t = subst (λ (w : List ℕ). has w n ≡ true) c.words.ensures.words t

pub next_of-requires-clause-words : goal.next_of-requires-clause-words
next_of-requires-clause-words c =
    let same = ap length c.words.ensures.words in
    let tight = c.words.ensures.packed.tight in
    omega (arith, c.loop-n.invariant.words, c.loop-n.invariant.width, c.requires.width, c.requires.few)

pub handle-requires-clause-has : goal.handle-requires-clause-has
handle-requires-clause-has c = there (goal.at.handle-requires-clause-has c).After-next_of c.in-Some.n c.in-Some.ensures.some.0

pub handle-requires-clause-below : goal.handle-requires-clause-below
handle-requires-clause-below c = c.words.ensures.packed.within c.in-Some.n (there (goal.at.handle-requires-clause-below c).After-next_of c.in-Some.n c.in-Some.ensures.some.0)

pub put_number-requires : goal.put_number-requires
put_number-requires c =
    let low = c.words.ensures.packed.within c.in-Some.n (there (goal.at.put_number-requires c).After-next_of c.in-Some.n c.in-Some.ensures.some.0) in
    omega (arith, c.loop-n.invariant.words, c.loop-n.invariant.width, c.requires.width, c.requires.few)

pub loop-n-smaller : goal.loop-n-smaller
loop-n-smaller c =
    let low = c.words.ensures.packed.within c.in-Some.n (there (goal.at.loop-n-smaller c).After-next_of c.in-Some.n c.in-Some.ensures.some.0) in
    fewer-left c.loop-n.handled c.put_number.new.words c.in-Some.n 4096 c.put_number.ensures.with c.in-Some.ensures.some.1
    (omega (arith, low, c.loop-n.invariant.width, c.requires.width, c.requires.few))

pub loop-n-preserved : goal.loop-n-preserved
loop-n-preserved c =
    let r = tabled_rules c.args.self.now [] in
    record {
      width = c.handle.ensures.width ∙ c.loop-n.invariant.width;
      words = omega (arith, c.loop-n.invariant.words, c.put_number.auto.words);
      forced = forced-trans r (has c.args.label.now.words) (has c.loop-n.label.words) (has c.handle.new.label.words) c.loop-n.invariant.forced c.handle.ensures.forced;
      handled = handled-next r (has c.loop-n.label.words) (has c.handle.new.label.words) (has c.loop-n.handled) (has c.put_number.new.words) c.in-Some.n c.loop-n.invariant.handled
          (there (goal.at.loop-n-preserved c).After-next_of c.in-Some.n c.in-Some.ensures.some.0) c.handle.ensures.forced.above c.handle.ensures.handled c.put_number.ensures.with;
    }

pub returns-clause-least : goal.returns-clause-least
returns-clause-least c = drained (tabled_rules c.args.self.now []) (has c.args.label.now.words) (has c.loop-n.label.words) (has c.loop-n.handled) c.loop-n.invariant.forced
    c.loop-n.invariant.handled (λ n t. c.in_default.ensures.none refl n (subst (λ (w : List ℕ). has w n ≡ true) (sym c.words.ensures.words) t))
