use Rattle.std.proofs.Common.{◌<◌, List, ℕ, subst}
use Rattle.dd_text.specs.Symbols.{symbol_count}
use Rattle.dd_cert.specs.Steps.{gather, with_name}
use Rattle.dd_cert.proofs.Adding.{full-names}
use Rattle.dd_cert.proofs.add.add_local.Goals as goal

pub returns-in-Err-clause-full : goal.returns-in-Err-clause-full
returns-in-Err-clause-full c e = full-names c.args.symbols.now c.args.local.now
    (subst (λ (ns : List (List ℕ × ℕ)). 65536 < symbol_count (gather with_name c.args.symbols.now ns)) c.as_slice.ensures (c.in-Err.ensures.full e))
