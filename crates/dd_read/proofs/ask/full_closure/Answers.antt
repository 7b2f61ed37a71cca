use Rattle.std.proofs.Common.{sym, ap, Err}
use Rattle.dd_read.proofs.Asking.{none_full, count_told}
use Rattle.dd_read.proofs.ask.full_closure.Goals as goal

pub returns-in-Ok : goal.returns-in-Ok
returns-in-Ok c = sym (none_full c.args.job.now c.args.job.now.relevant c.in-Ok.ensures.few)

pub returns-in-Err : goal.returns-in-Err
returns-in-Err c = count_told c.count_of.result c.args.job.now c.in-Err.e (λ i n is. c.in-Err.ensures.full i n (ap Err is)) c.count_of.ensures
