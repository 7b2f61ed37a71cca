-- The forms of requests: which JSON values are requests, and what each says before a name or a text is looked at.
use Rattle.std.specs.Prelude.{ℕ, ◌+◌, Bool, false, List, [], ◌∷◌, if◌then◌else◌, is_some, Option, None, Some, option_and_then, option_map, codes}
use Rattle.std.specs.Option.{option_map_or}
use Rattle.std.specs.Str.{bytes_eq}
use Rattle.serde_json.specs.Data.{Data, Items, no_items, item}
use Rattle.serde_json.specs.Find.{get}
use Rattle.serde_json.specs.View.{view}
use Rattle.dd_json.specs.Members.{◌>>=◌, text_at, texts_at, listed_at, maybe_number_at, indexes_at, items_at, presence, sized}
use Rattle.dd_wire.specs.declared.form.Form.{Form}
use Rattle.dd_wire.specs.declared.form.Form.TheVariants.{Peers, Put, Ask, Check, Versions}
use Rattle.dd_wire.specs.declared.form.RuleForm.{RuleForm}

-- a request as it is written; the certificate of a check is any value
pub data Written : Type 0 where
  peers : List (List ℕ) → Written
  put : List ℕ → List (List ℕ) → List RuleForm → List RuleForm → Written
  ask : List ℕ → List ℕ → List ℕ → Option ℕ → Option ℕ → Written
  check : List ℕ → List ℕ → List ℕ → List ℕ → Data → Written
  versions : Written

-- what a form that was read says
abbrev pub written_of : Form → Written
written_of (Peers names) = peers names
written_of (Put peer axioms into onto) = put peer axioms into onto
written_of (Ask peer left right expansions verdicts) = ask peer left right expansions verdicts
written_of (Check peer left right pin cert) = check peer left right pin (view cert)
written_of Versions = versions

-- a member is this string
abbrev pub says : List ℕ → List ℕ → Data → Bool
says key text d = option_map_or (λ said. bytes_eq said text) (text_at key d) false

-- {"from":P,"source":C,"target":C}
unfoldable pub rule_of : Data → Option RuleForm
rule_of d = do
  from ← text_at (codes "from") d
  source ← text_at (codes "source") d
  target ← text_at (codes "target") d
  size ← sized 3 d
  Some (record { from = from; source = source; target = target })

abbrev pub rules_of : Items → Option (List RuleForm)
rules_of no_items = Some []
rules_of (item d ds) = option_and_then (λ r. option_map (λ rs. r ∷ rs) (rules_of ds)) (rule_of d)

-- a member that is a list of rules, or absent, which is the empty list
abbrev pub rules_at : List ℕ → Data → Option (List RuleForm)
rules_at key d = if is_some (get key d) then option_and_then rules_of (items_at key d) else Some []

-- {"op":"peers","names":[..]}
unfoldable pub peers_of : Data → Option Written
peers_of d = do
  names ← texts_at (codes "names") d
  size ← sized 2 d
  Some (peers names)

-- {"op":"put","peer":P}, and lists of axioms, of into rules and of onto rules, each of which may be absent
unfoldable pub put_of : Data → Option Written
put_of d = do
  peer ← text_at (codes "peer") d
  axioms ← listed_at (codes "axioms") d
  into ← rules_at (codes "into") d
  onto ← rules_at (codes "onto") d
  size ← sized (2 + presence (codes "axioms") d + presence (codes "into") d + presence (codes "onto") d) d
  Some (put peer axioms into onto)

-- {"op":"ask","peer":P,"left":C,"right":C}, with or without the two budgets
unfoldable pub ask_of : Data → Option Written
ask_of d = do
  peer ← text_at (codes "peer") d
  left ← text_at (codes "left") d
  right ← text_at (codes "right") d
  expansions ← maybe_number_at (codes "expansions") d
  verdicts ← maybe_number_at (codes "verdicts") d
  size ← sized (4 + presence (codes "expansions") d + presence (codes "verdicts") d) d
  Some (ask peer left right expansions verdicts)

-- {"op":"check","peer":P,"left":C,"right":C,"pin":[..],"cert":V}
unfoldable pub check_of : Data → Option Written
check_of d = do
  peer ← text_at (codes "peer") d
  left ← text_at (codes "left") d
  right ← text_at (codes "right") d
  pin ← indexes_at (codes "pin") d
  size ← sized 6 d
  cert ← get (codes "cert") d
  Some (check peer left right pin cert)

-- {"op":"versions"}
unfoldable pub versions_of : Data → Option Written
versions_of d = do
  size ← sized 1 d
  Some versions

abbrev pub form_by : List ℕ → Data → Option Written
form_by op d =
    if bytes_eq op (codes "peers") then peers_of d
    else if bytes_eq op (codes "put") then put_of d
    else if bytes_eq op (codes "ask") then ask_of d
    else if bytes_eq op (codes "check") then check_of d
    else if bytes_eq op (codes "versions") then versions_of d
    else None

-- the form that a JSON value has, by its member `op`
unfoldable pub form_of : Data → Option Written
form_of d = option_and_then (λ op. form_by op d) (text_at (codes "op") d)
