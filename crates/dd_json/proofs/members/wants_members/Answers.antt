use Rattle.std.proofs.Common.{rules}
use Rattle.dd_json.proofs.MemberCounts.{count_of_members}
use Rattle.dd_json.proofs.members.wants_members.Goals as goal

pub returns-then-len-count-clause-gives : goal.returns-then-len-count-clause-gives
returns-then-len-count-clause-gives c = search (rules, count_of_members)
