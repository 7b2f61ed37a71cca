use Rattle.std.proofs.Common.{false, ◌∙◌, ap, refl}
use Rattle.dd_board.specs.Beginning.{no_props}
use Rattle.dd_board.proofs.Begun.{begun-kept}
use Rattle.dd_board.proofs.beginning.begin.Goals as goal

pub returns-clause-kept : goal.returns-clause-kept
returns-clause-kept c = begun-kept (record {
  job = c.in_ok-new.field-0;
  tasks = c.in_ok-tasks.tasks;
  lines = c.new-2.result;
  props = c.in_ok-props.props;
  journal = c.new-3.result;
  next = 0;
  held = 0;
  posts = 0;
  has_spent = false;
}) c.args.job c.requires c.in_ok-new.ensures c.in_ok-tasks.ensures c.new-2.ensures (c.in_ok-props.ensures ∙ ap no_props c.as_slice.ensures) c.new-3.ensures.items refl refl refl refl
