use Rattle.dd_cert.proofs.Single.{cert-single}
use Rattle.dd_cert.proofs.laws.certs_are_unique.Goals as goal

pub returns : goal.returns
returns c s d found other = cert-single s d found other
