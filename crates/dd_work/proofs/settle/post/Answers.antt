use Rattle.dd_work.proofs.Extending.{extend-both, extend-same}
use Rattle.dd_work.proofs.Posting.{out-again, post-extends, post-fewer, post-free}
use Rattle.dd_work.proofs.settle.post.Goals as goal

pub returns-in-Ok-clause-extends : goal.returns-in-Ok-clause-extends
returns-in-Ok-clause-extends c =
    post-extends c.args.board.now c.post.new.self c.args.ticket c.args.verdict c.requires.out c.in-Ok.field-0 c.in-Ok.ensures.posted

pub returns-in-Ok-clause-free : goal.returns-in-Ok-clause-free
returns-in-Ok-clause-free c =
    post-free c.args.board.now c.post.new.self c.args.ticket c.args.verdict c.requires.out c.in-Ok.field-0 c.in-Ok.ensures.posted

pub returns-in-Ok-clause-fewer : goal.returns-in-Ok-clause-fewer
returns-in-Ok-clause-fewer c =
    post-fewer c.args.board.now c.post.new.self c.args.ticket c.args.verdict c.requires.out c.in-Ok.field-0 c.in-Ok.ensures.posted

pub give_back-requires : goal.give_back-requires
give_back-requires c = record {
  out = out-again c.args.board.now c.post.new.self c.args.ticket c.in-Err.ticket c.in-Err.ensures.kept c.in-Err.ensures.back.0 c.requires.out;
}

pub returns-clause-extends : goal.returns-clause-extends
returns-clause-extends c =
    extend-both c.args.board.now c.post.new.self c.give_back.new.board (extend-same c.args.board.now c.post.new.self c.in-Err.ensures.kept)
    c.give_back.ensures.extends
