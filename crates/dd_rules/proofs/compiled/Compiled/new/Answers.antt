use Rattle.std.proofs.Common.{◌≡◌, ◌∙◌, ap, sym, length, arith}
use Rattle.std.proofs.lemmas.List.{length-map}
use Rattle.dd_rules.specs.Closure.{closure_of}
use Rattle.dd_rules.specs.Compiled.{concept_at}
use Rattle.dd_rules.specs.Trees.{trees}
use Rattle.dd_rules.proofs.Pairing.{sides-below, extra-below, walked-closure}
use Rattle.dd_rules.proofs.compiled.Compiled.new.Goals as goal

pub walked-requires-clause-axioms : goal.walked-requires-clause-axioms
walked-requires-clause-axioms c = sides-below c.in-Ok.sources.rows.keys c.args.axioms.now c.in-Ok.sources.axioms.items c.in-Ok.ensures.axioms

pub walked-requires-clause-extra : goal.walked-requires-clause-extra
walked-requires-clause-extra c = extra-below c.in-Ok.sources.rows.keys c.args.extra.now c.in-Ok.sources.extra.items c.in-Ok.ensures.extra

pub returns-then-count-2-clause-full : goal.returns-then-count-2-clause-full
returns-then-count-2-clause-full c n e =
    let s = c.in-Ok.sources in
    let ts = trees s.rows.keys in
    let is = c.in-Ok-walked.ensures.order ∙ walked-closure ts c.args.axioms.now c.args.extra.now s.axioms.items s.extra.items c.in-Ok.ensures.axioms c.in-Ok.ensures.extra in
    let count : length c.in-Ok-walked.walk.order.items ≡ length (closure_of c.args.axioms.now c.args.extra.now) = sym (length-map c.in-Ok-walked.walk.order.items (concept_at ts)) ∙ ap length is in
    let told : c.len-count.result ≡ n = cc in
    (omega (arith, told, count, c.len-count.ensures), omega (arith, told, c.if-count-2.true))

pub kept-requires-clause-closure : goal.kept-requires-clause-closure
kept-requires-clause-closure c =
    let s = c.in-Ok.sources in
    c.in-Ok-walked.ensures.order ∙ walked-closure (trees s.rows.keys) c.args.axioms.now c.args.extra.now s.axioms.items s.extra.items c.in-Ok.ensures.axioms c.in-Ok.ensures.extra
