use Rattle.dd_server.proofs.Relevance.{relevant_versions}
use Rattle.dd_server.proofs.laws.relevant_versions.Goals as goal

pub returns : goal.returns
returns c = relevant_versions
