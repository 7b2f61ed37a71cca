-- A line's reason, as it is found.
use Rattle.std.proofs.Common.{◌≡◌, ◌∙◌, sym, ap₂, ℕ, Bool, List}
use Rattle.dd_concept.specs.declared.concept.Concept.{Concept}
use Rattle.dd_peer.specs.declared.version.PeerVersion.{PeerVersion}
use Rattle.dd_peer.specs.declared.version.Pinned.{Pinned}
use Rattle.dd_task.specs.Claims.{Claim}
use Rattle.dd_task.specs.declared.line.Why.{Why}
use Rattle.dd_task.specs.Lines.{gives_reason}

pub reason-at : (p : Pinned) (before : List Claim) (peer : ℕ) (v : PeerVersion) (lent label : List Concept) (found why : Why) (answer : Bool)
    → answer ≡ gives_reason p before peer v lent found → lent ≡ label → why ≡ found → answer ≡ gives_reason p before peer v label why
reason-at p before peer v lent label found why answer e is_label is_why = e ∙ ap₂ (gives_reason p before peer v) is_label (sym is_why)
