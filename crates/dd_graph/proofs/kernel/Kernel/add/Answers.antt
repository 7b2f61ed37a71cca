use Rattle.std.proofs.Common.{◌≡◌, true, false}
use Rattle.dd_graph.proofs.Putting.{adds-puts, adds-found, closed-puts, closed-found}
use Rattle.dd_graph.proofs.kernel.Kernel.add.Goals as goal

pub returns-in_ok-id-in-Some-clause-puts : goal.returns-in_ok-id-in-Some-clause-puts
returns-in_ok-id-in-Some-clause-puts c = (
  closed-puts c.args.label.now.words false c.args.self.now c.append.new.self c.in_ok-id-in-Some.id c.in_ok-id-in-Some.ensures.adds.0 c.in_ok-id-in-Some.ensures.adds.1 c.note_clash.new.self c.in-Some.clash c.requires.near c.note_clash.ensures,
  c.in_ok-id-in-Some.ensures.adds.1,
)

pub returns-in_ok-id-in-Some-clause-found : goal.returns-in_ok-id-in-Some-clause-found
returns-in_ok-id-in-Some-clause-found c =
    closed-found c.args.label.now.words false c.args.self.now c.append.new.self c.in_ok-id-in-Some.id c.in_ok-id-in-Some.ensures.adds.0 c.in_ok-id-in-Some.ensures.adds.1 c.note_clash.new.self c.in-Some.clash c.requires.near c.note_clash.ensures

pub returns-in_ok-id-in-None-clause-puts : goal.returns-in_ok-id-in-None-clause-puts
returns-in_ok-id-in-None-clause-puts c =
    (adds-puts c.args.label.now.words c.args.saturated c.args.self.now c.append-in-None.new.self c.in_ok-id-in-None.ensures.adds.0 c.requires.near, c.in_ok-id-in-None.ensures.adds.1)

pub returns-in_ok-id-in-None-clause-found : goal.returns-in_ok-id-in-None-clause-found
returns-in_ok-id-in-None-clause-found c =
    adds-found c.args.label.now.words c.args.saturated c.args.self.now c.append-in-None.new.self c.in_ok-id-in-None.id c.in_ok-id-in-None.ensures.adds.0 c.in_ok-id-in-None.ensures.adds.1
