use Rattle.std.proofs.Common.{◌∙◌, ap}
use Rattle.std.specs.List.{flat_map, range_with_len}
use Rattle.dd_task.specs.Demands.{without_repeats}
use Rattle.dd_task.specs.Tables.{raised_in}
use Rattle.dd_task.proofs.Tabled.{all-raised}
use Rattle.dd_task.proofs.demands.demands_of.Goals as goal

pub returns : goal.returns
returns c =
    c.into_vec.ensures ∙ c.in_ok-keys.ensures
    ∙ ap (λ tables. without_repeats (flat_map (raised_in tables c.args.peer) (range_with_len 0 c.args.i.now.size))) (c.as_slice.ensures ∙ c.in_ok-tables.ensures)
    ∙ all-raised c.args.p.now c.args.peer c.args.i.now
