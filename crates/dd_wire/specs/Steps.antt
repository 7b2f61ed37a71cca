-- For private clauses: the parts of forms that one function reads, and those of replies that one function writes.
use Rattle.std.specs.Prelude.{ℕ, ◌+◌, List, Option, None, Some, codes}
use Rattle.serde_json.specs.Data.{put as member_put}
use Rattle.serde_json.specs.Data.{Data, string, Members, no_members, member}
use Rattle.dd_json.specs.Members.{◌>>=◌, text_at, maybe_number_at, presence, sized}
use Rattle.dd_wire.specs.declared.form.RuleForm.{RuleForm}
use Rattle.dd_wire.specs.Forms.{rules_at}
use Rattle.dd_wire.specs.Replies.{whole_number, numbers, origin_name}
use Rattle.dd_wire.specs.declared.reply.Origin.{Origin}

-- three members that are strings
unfoldable pub three_texts_at : List ℕ → List ℕ → List ℕ → Data → Option (List ℕ × List ℕ × List ℕ)
three_texts_at first second third d = do
  x ← text_at first d
  y ← text_at second d
  z ← text_at third d
  Some (x, y, z)

-- the into rules and the onto rules
unfoldable pub both_rules_of : Data → Option (List RuleForm × List RuleForm)
both_rules_of d = do
  into ← rules_at (codes "into") d
  onto ← rules_at (codes "onto") d
  Some (into, onto)

-- the two budgets of an ask, which has no other members
unfoldable pub budgets_of : Data → Option (Option ℕ × Option ℕ)
budgets_of d = do
  expansions ← maybe_number_at (codes "expansions") d
  verdicts ← maybe_number_at (codes "verdicts") d
  size ← sized (4 + presence (codes "expansions") d + presence (codes "verdicts") d) d
  Some (expansions, verdicts)

-- members with one more, at its place by name, that is there only where it has a value
abbrev pub put_maybe : List ℕ → Option ℕ → Members → Members
put_maybe key None ms = ms
put_maybe key (Some n) ms = member_put key (whole_number n) ms

-- the members of a reply to an ask with this verdict
abbrev pub ask_members : ℕ → Origin → List ℕ → List ℕ → Members
ask_members id from pin verdict = member (codes "from") (string (origin_name from)) (member (codes "id") (whole_number id)
    (member (codes "pin") (numbers pin) (member (codes "verdict") (string verdict) no_members)))

-- the same where something was spent
abbrev pub spent_members : ℕ → Origin → List ℕ → List ℕ → Members
spent_members id from pin what = member (codes "from") (string (origin_name from)) (member (codes "id") (whole_number id)
    (member (codes "pin") (numbers pin) (member (codes "spent") (string what) (member (codes "verdict") (string (codes "spent")) no_members))))

-- the members of a reply to a check with this outcome, to the request with this number
abbrev pub outcome_members : List ℕ → ℕ → Members
outcome_members outcome id = member (codes "check") (string outcome) (member (codes "id") (whole_number id) no_members)
