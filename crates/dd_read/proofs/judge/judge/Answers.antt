use Rattle.serde_json.specs.View.{view}
use Rattle.dd_interp.proofs.Results.{if_ok}
use Rattle.dd_read.proofs.Judging.{read_judged, unread_judged}
use Rattle.dd_read.proofs.judge.judge.Goals as goal

pub returns-in-Ok-clause-judges : goal.returns-in-Ok-clause-judges
returns-in-Ok-clause-judges c = if_ok c.judge_cert.result (λ given judged. read_judged c.args.id (record { pinned = c.args.pinned.now; query = c.args.query.now }) c.args.symbols.now c.read_cert.new.symbols
    (view c.args.cert.now) c.in-Ok.cert given c.in-Ok.ensures.reads judged) c.judge_cert.ensures

pub returns-in-Err-clause-judges : goal.returns-in-Err-clause-judges
returns-in-Err-clause-judges c = unread_judged c.unread.result c.args.id (record { pinned = c.args.pinned.now; query = c.args.query.now }) c.args.symbols.now
    (view c.args.cert.now) c.in-Err.e (c.in-Err.ensures.reads.1, c.in-Err.ensures.reads.2, c.in-Err.ensures.reads.3) c.unread.ensures.unreads
