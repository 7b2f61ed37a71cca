use Rattle.std.proofs.Common.{◌≡◌, ◌∙◌, ◌+◌, ap, sym, arith, get_or, nat_eq, true, eq-eqb}
use Rattle.std.proofs.lemmas.List.Sums.{common_prefix_len-drop_yes}
use Rattle.dd_text.specs.Parts.{axiom_head}
use Rattle.dd_text.proofs.parts.head_len.Goals as goal

pub loop-i-preserved : goal.loop-i-preserved
loop-i-preserved c =
    let i = c.loop-i.i in
    let text = c.args.text.now in
    let same : nat_eq (get_or axiom_head i 0) (get_or text i 0) ≡ true = eq-eqb (get_or axiom_head i 0) (get_or text i 0) (sym c.if-text-i.false) in
    record {
      within = omega (arith, c.loop-i.invariant.within);
      rest = c.loop-i.invariant.rest ∙ ap (λ n. i + n) (common_prefix_len-drop_yes nat_eq axiom_head text i 0 0 (omega arith) (omega (arith, c.loop-i.invariant.within)) same) ∙ omega arith;
    }
