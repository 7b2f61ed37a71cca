use Rattle.dd_board.specs.Standing.{IsOutcome}
use Rattle.dd_board.proofs.Boarding.{of-session}
use Rattle.dd_board.proofs.board.Board.outcome.Goals as goal

pub outcome_of-requires : goal.outcome_of-requires
outcome_of-requires c = c.self.inside.kept c.args.session c.session_in.result.now c.session_in.ensures

pub returns : goal.returns
returns c = of-session (λ v. IsOutcome v c.outcome_of.result) c.self.inside.sessions.items c.args.self.now c.args.session c.session_in.result.now c.self.view_is c.session_in.ensures c.outcome_of.ensures
