use Rattle.std.proofs.lemmas.Result.{IfOk-weaker}
use Rattle.dd_set.specs.Words.{Label}
use Rattle.dd_rules.proofs.Tabled.{successor-seen}
use Rattle.dd_rules.proofs.compiled.Compiled.successor.Goals as goal

pub returns-clause-passed : goal.returns-clause-passed
returns-clause-passed c = IfOk-weaker c.successor.result _ _
    (λ (b : Label) h. successor-seen c.args.self.now c.tables.result.now c.tables.ensures c.args.label.now.words b.words c.args.at h) c.successor.ensures.passed
