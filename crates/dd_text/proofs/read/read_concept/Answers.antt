use Rattle.std.proofs.Common.{◌≤◌, ◌<◌, ap, sym, subst, refl}
use Rattle.std.specs.Prelude.{Err}
use Rattle.dd_text.specs.Reads.{IsConceptOf, RefusesConcept, told}
use Rattle.dd_text.proofs.WithinLimits.{part_nodes, refuses_concept}
use Rattle.dd_text.proofs.Inverse.{read-depth_of, read-has_symbols, read-node_count}
use Rattle.dd_text.proofs.Restoring.{restored}
use Rattle.dd_text.proofs.read.read_concept.Goals as goal
use Rattle.dd_text.proofs.read.read_concept.Goals.{In-Ok-build_concept}

pub returns-in-Err-clause-reads : goal.returns-in-Err-clause-reads
returns-in-Err-clause-reads c =
    let w = c.in-Ok.ensures.ok in
    let n = part_nodes c.in-Ok.part w.term w.part in (
      refl,
      subst (RefusesConcept c.args.symbols.now c.args.limits c.args.text.now) (sym c.in-Err.ensures.err)
          (w.term, w.spelt, subst (λ k. c.args.limits.nodes < k) n c.in-Err.ensures.over, ap told n),
    )

pub returns-in-Err-check_depth-clause-reads : goal.returns-in-Err-check_depth-clause-reads
returns-in-Err-check_depth-clause-reads c =
    let w = c.in-Ok.ensures.ok in
    let n = part_nodes c.in-Ok.part w.term w.part in (
      refl,
      subst (RefusesConcept c.args.symbols.now c.args.limits c.args.text.now) (sym c.in-Err-check_depth.ensures.err)
          (w.term, w.spelt, subst (λ k. k ≤ c.args.limits.nodes) n c.in_default.ensures.ok, subst (λ k. c.args.limits.depth < k) w.part.depth c.in-Err-check_depth.ensures.over, ap told w.part.depth),
    )

read_is : (c : In-Ok-build_concept) → IsConceptOf c.args.symbols.now c.args.limits c.args.text.now c.build_concept.new.symbols c.in-Ok-build_concept.c
read_is c =
    let w = c.in-Ok.ensures.ok in
    let n = part_nodes c.in-Ok.part w.term w.part in
    let made = c.in-Ok-build_concept.ensures in
    record {
      term = w.term;
      spelt = w.spelt;
      small = record {
        nodes = subst (λ k. k ≤ c.args.limits.nodes) n c.in_default.ensures.ok;
        depth = subst (λ k. k ≤ c.args.limits.depth) w.part.depth c.in_default-check_depth.ensures.ok;
      };
      room = made.few;
      symbols = made.symbols w.term w.part.signs;
      concept = made.concept w.term w.part.signs;
    }

pub returns-in-Err-build_concept-clause-reads : goal.returns-in-Err-build_concept-clause-reads
returns-in-Err-build_concept-clause-reads c =
    let old = c.args.symbols.now in
    let w = c.in-Ok.ensures.ok in
    let n = part_nodes c.in-Ok.part w.term w.part in
    let failed = c.in-Err-build_concept.ensures in (
      restored old c.build_concept.new.symbols c.back.new.self c.mark-mark.result.names c.mark-mark.result.roles failed.grows
          c.mark-mark.ensures.names c.mark-mark.ensures.roles c.back.ensures.names c.back.ensures.roles,
      subst (RefusesConcept old c.args.limits c.args.text.now) (sym c.refusal.ensures)
          (refuses_concept old c.args.limits c.args.text.now c.in-Err-build_concept.e (λ full. (
            w.term,
            w.spelt,
            record {
              nodes = subst (λ k. k ≤ c.args.limits.nodes) n c.in_default.ensures.ok;
              depth = subst (λ k. k ≤ c.args.limits.depth) w.part.depth c.in_default-check_depth.ensures.ok;
            },
            failed.full (ap Err full) w.term w.part.signs,
          ))),
    )

pub returns-in-Ok-build_concept-clause-reads : goal.returns-in-Ok-build_concept-clause-reads
returns-in-Ok-build_concept-clause-reads c = read_is c

pub returns-in-Ok-build_concept-clause-small : goal.returns-in-Ok-build_concept-clause-small
returns-in-Ok-build_concept-clause-small c =
    let h = read_is c in
    record {
      nodes = read-node_count c.args.symbols.now c.build_concept.new.symbols c.args.limits c.args.text.now c.in-Ok-build_concept.c h;
      depth = read-depth_of c.args.symbols.now c.build_concept.new.symbols c.args.limits c.args.text.now c.in-Ok-build_concept.c h;
    }

pub returns-in-Ok-build_concept-clause-numbered : goal.returns-in-Ok-build_concept-clause-numbered
returns-in-Ok-build_concept-clause-numbered c =
    read-has_symbols c.args.symbols.now c.build_concept.new.symbols c.args.limits c.args.text.now c.in-Ok-build_concept.c (read_is c)
