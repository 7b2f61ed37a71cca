use Rattle.dd_cert.proofs.PrintedReads.{printed-reads}
use Rattle.dd_cert.proofs.laws.printed_certs_read.Goals as goal

pub returns : goal.returns
returns c s a new result = printed-reads s a new result
