use Rattle.std.proofs.Common.{◌∙◌, ap}
use Rattle.std.specs.List.{list_all}
use Rattle.dd_world.specs.Kinds.{keeps_rows}
use Rattle.dd_world.specs.Sketches.{world_of}
use Rattle.dd_world.proofs.Judging.{into_by_rows}
use Rattle.dd_world.proofs.judge.meets_into.Goals as goal

pub returns : goal.returns
returns c = c.do_links_keep.ensures ∙ ap (list_all (keeps_rows c.args.peer c.args.rule.now c.in_ok-source.source.words c.in_ok-target.target.words)) c.as_slice.ensures
    ∙ into_by_rows (world_of c.args.s.now) c.requires c.args.peer c.args.rule.now c.in_ok-source.source c.in_ok-source.ensures c.in_ok-target.target c.in_ok-target.ensures
