use Rattle.std.proofs.Common.{refl}
use Rattle.serde_json.specs.View.{view}
use Rattle.dd_cert.proofs.Certifying.{form-told}
use Rattle.dd_cert.proofs.read.read_cert.Goals as goal

pub returns-in-Err-clause-reads : goal.returns-in-Err-clause-reads
returns-in-Err-clause-reads c = let t = form-told c.args.symbols.now (view c.args.v.now) c.in-Err.e c.in-Err.ensures in (refl, t.0, t.1, t.2)
