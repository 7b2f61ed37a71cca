-- How concepts are written into labels, and which labels lines cite.
use Rattle.std.specs.Prelude.{ℕ, ◌==◌, if◌then◌else◌, List, Option, None, Some, slice_get}
use Rattle.std.specs.Option.{option_and_then}
use Rattle.dd_concept.specs.declared.concept.Concept.{Concept}
use Rattle.dd_concept.specs.Normal.{nnf_of, nnf_not_of}
use Rattle.dd_task.specs.Claims.{Claim}
use Rattle.dd_check.specs.declared.labels.Form.{Form}
use Rattle.dd_check.specs.declared.labels.Form.TheVariants as form

-- the concept as it stands, in normal form, or its complement in normal form
abbrev pub written : Form → Concept → Concept
written form.Plain c = c
written form.Normal c = nnf_of c
written form.Complement c = nnf_not_of c

-- the label of a claim, where it is one of the peer
abbrev pub label_at : ℕ → Claim → Option (List Concept)
label_at peer claim = if claim.peer == peer then Some claim.label else None

-- the label of the claim with this number, where it is there and is one of the peer
abbrev pub label_cited : List Claim → ℕ → ℕ → Option (List Concept)
label_cited before peer n = option_and_then (label_at peer) (slice_get before n)
