use Rattle.dd_set.proofs.Putting.{put-fresh, put-with, put-packed}
use Rattle.dd_set.proofs.words.put_number.Goals as goal

pub returns-clause-fresh : goal.returns-clause-fresh
returns-clause-fresh c = put-fresh c.args.words.now c.args.n

pub returns-clause-with : goal.returns-clause-with
returns-clause-with c = put-with c.args.words.now c.args.n c.requires

pub returns-clause-packed : goal.returns-clause-packed
returns-clause-packed c = put-packed c.args.words.now c.args.n c.requires
