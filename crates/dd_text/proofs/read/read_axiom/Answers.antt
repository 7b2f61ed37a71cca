use Rattle.std.proofs.Common.{ap, refl, subst, sym}
use Rattle.std.specs.Prelude.{Err}
use Rattle.dd_text.proofs.WithinLimits.{left_within, refuses, refuses_axiom, right_within}
use Rattle.dd_text.specs.Reads.{IsAxiomOf, RefusesAxiom}
use Rattle.dd_text.proofs.Inverse.{read-left-depth_of, read-left-has_symbols, read-left-node_count, read-right-depth_of, read-right-has_symbols, read-right-node_count}
use Rattle.dd_text.proofs.Restoring.{restored}
use Rattle.dd_text.proofs.read.read_axiom.Goals as goal
use Rattle.dd_text.proofs.read.read_axiom.Goals.{In-Ok-build_axiom}

pub returns-in-Err-clause-reads : goal.returns-in-Err-clause-reads
returns-in-Err-clause-reads c =
    (refl, refuses c.args.symbols.now c.args.limits c.args.text.now c.in-Ok.sides c.in-Err.e c.in-Ok.ensures.ok c.in-Err.ensures.err)

read_is : (c : In-Ok-build_axiom) → IsAxiomOf c.args.symbols.now c.args.limits c.args.text.now c.build_axiom.new.symbols c.in-Ok-build_axiom.a
read_is c =
    let w = c.in-Ok.ensures.ok in
    let made = c.in-Ok-build_axiom.ensures in
    record {
      left = w.left;
      right = w.right;
      spelt = w.spelt;
      left_small = left_within c.args.limits c.args.text.now c.in-Ok.sides w c.in_default.ensures.ok;
      right_small = right_within c.args.limits c.args.text.now c.in-Ok.sides w c.in_default.ensures.ok;
      room = made.few;
      symbols = made.symbols w.left w.right w.left_part.signs w.right_part.signs;
      sides = made.sides w.left w.right w.left_part.signs w.right_part.signs;
    }

pub returns-in-Err-build_axiom-clause-reads : goal.returns-in-Err-build_axiom-clause-reads
returns-in-Err-build_axiom-clause-reads c =
    let old = c.args.symbols.now in
    let limits = c.args.limits in
    let text = c.args.text.now in
    let w = c.in-Ok.ensures.ok in
    let failed = c.in-Err-build_axiom.ensures in (
      restored old c.build_axiom.new.symbols c.back.new.self c.mark-before.result.names c.mark-before.result.roles failed.grows
          c.mark-before.ensures.names c.mark-before.ensures.roles c.back.ensures.names c.back.ensures.roles,
      subst (RefusesAxiom old limits text) (sym c.refusal.ensures)
          (refuses_axiom old limits text c.in-Err-build_axiom.e (λ full. (
            w.left,
            w.right,
            w.spelt,
            left_within limits text c.in-Ok.sides w c.in_default.ensures.ok,
            right_within limits text c.in-Ok.sides w c.in_default.ensures.ok,
            failed.full (ap Err full) w.left w.right w.left_part.signs w.right_part.signs,
          ))),
    )

pub returns-in-Ok-build_axiom-clause-reads : goal.returns-in-Ok-build_axiom-clause-reads
returns-in-Ok-build_axiom-clause-reads c = read_is c

pub returns-in-Ok-build_axiom-clause-small : goal.returns-in-Ok-build_axiom-clause-small
returns-in-Ok-build_axiom-clause-small c =
    let old = c.args.symbols.now in
    let new = c.build_axiom.new.symbols in
    let limits = c.args.limits in
    let text = c.args.text.now in
    let a = c.in-Ok-build_axiom.a in
    let h = read_is c in (
      record { nodes = read-left-node_count old new limits text a h; depth = read-left-depth_of old new limits text a h },
      record { nodes = read-right-node_count old new limits text a h; depth = read-right-depth_of old new limits text a h },
    )

pub returns-in-Ok-build_axiom-clause-numbered : goal.returns-in-Ok-build_axiom-clause-numbered
returns-in-Ok-build_axiom-clause-numbered c =
    let h = read_is c in (
      read-left-has_symbols c.args.symbols.now c.build_axiom.new.symbols c.args.limits c.args.text.now c.in-Ok-build_axiom.a h,
      read-right-has_symbols c.args.symbols.now c.build_axiom.new.symbols c.args.limits c.args.text.now c.in-Ok-build_axiom.a h,
    )
