use Rattle.std.proofs.Common.{not}
use Rattle.dd_interp.proofs.Charts.{others_fail, all_by_others}
use Rattle.dd_interp.proofs.Results.{if_ok}
use Rattle.dd_interp.proofs.chart.Chart.all_starts.Goals as goal

pub returns : goal.returns
returns c = if_ok c.others-3.result (λ made h test e. all_by_others c.args.self.now c.args.r test c.in_ok-row.row made
    (c.in_ok-row.ensures.starts (λ k. not (test k)) (others_fail c.args.self.now.size test c.args.ends.now c.in_ok-others.others e c.in_ok-others.ensures)) h) c.others-3.ensures
