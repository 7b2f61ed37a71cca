use Rattle.std.proofs.Common.{ap}
use Rattle.std.specs.Option.{option_copied}
use Rattle.dd_wire.specs.Forms.{Written, written_of, peers, put, versions}
use Rattle.dd_wire.proofs.Answering.{ask_answers, ask_numbered, check_answers, check_numbered, of_form}
use Rattle.dd_wire.proofs.lookup.request_of.Goals as goal

pub returns-in-Peers-clause-reads : goal.returns-in-Peers-clause-reads
returns-in-Peers-clause-reads c =
    let s = c.args.symbols.now in
    of_form (option_copied c.args.names) s s (peers c.in-Peers.wanted) (written_of c.args.form) c.peers.result (ap written_of c.in-Peers.is) (c.peers.ensures.reads s c.requires)

pub returns-in-Put-clause-reads : goal.returns-in-Put-clause-reads
returns-in-Put-clause-reads c =
    let said : Written = put c.in-Put.peer c.in-Put.axioms c.in-Put.into c.in-Put.onto in
    of_form (option_copied c.args.names) c.args.symbols.now c.put_of.new.symbols said (written_of c.args.form) c.put_of.result (ap written_of c.in-Put.is) c.put_of.ensures.reads

pub returns-in-Ask-clause-reads : goal.returns-in-Ask-clause-reads
returns-in-Ask-clause-reads c =
    ask_answers (option_copied c.args.names) c.args.symbols.now c.query_of-asked.new.symbols c.in-Ask.peer c.in-Ask.left c.in-Ask.right c.in-Ask.expansions c.in-Ask.verdicts
    c.query_of-asked.result (written_of c.args.form) c.ask.result (ap written_of c.in-Ask.is) c.ask.ensures c.query_of-asked.ensures

pub returns-in-Ask-clause-numbered : goal.returns-in-Ask-clause-numbered
returns-in-Ask-clause-numbered c = ask_numbered c.query_of-asked.result c.in-Ask.expansions c.in-Ask.verdicts c.ask.result c.ask.ensures

pub returns-in-Check-clause-reads : goal.returns-in-Check-clause-reads
returns-in-Check-clause-reads c =
    check_answers (option_copied c.args.names) c.args.symbols.now c.query_of-checked.new.symbols c.in-Check.peer c.in-Check.left c.in-Check.right c.in-Check.pin c.in-Check.cert
    c.query_of-checked.result (written_of c.args.form) c.check.result (ap written_of c.in-Check.is) c.check.ensures c.query_of-checked.ensures

pub returns-in-Check-clause-numbered : goal.returns-in-Check-clause-numbered
returns-in-Check-clause-numbered c = check_numbered c.query_of-checked.result c.in-Check.pin c.in-Check.cert c.check.result c.check.ensures

pub returns-in-Versions-clause-reads : goal.returns-in-Versions-clause-reads
returns-in-Versions-clause-reads c =
    let s = c.args.symbols.now in
    of_form (option_copied c.args.names) s s versions (written_of c.args.form) c.versions.result (ap written_of c.in-Versions.is) (c.versions.ensures.reads s c.requires)
