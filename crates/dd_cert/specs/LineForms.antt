-- The form of the lines of a derivation: {"label":["A",..],"peer":P,"why":WHY}. A reason names its rule, and each rule has members of its own.
use Rattle.std.specs.Prelude.{ℕ, List, if◌then◌else◌, Option, None, Some, option_and_then, codes}
use Rattle.std.specs.Str.{bytes_eq}
use Rattle.serde_json.specs.Data.{Data}
use Rattle.serde_json.specs.Find.{get}
use Rattle.dd_json.specs.Members.{◌>>=◌, text_at, texts_at, number_of, items_at, sized}
use Rattle.dd_cert.specs.declared.form.Rule.{Rule}
use Rattle.dd_cert.specs.declared.form.Rule.TheVariants as rule
use Rattle.dd_cert.specs.declared.form.WhyForm.{WhyForm}
use Rattle.dd_cert.specs.declared.form.WhyForm.TheVariants as why
use Rattle.dd_cert.specs.declared.form.LineForm.{LineForm}
use Rattle.dd_cert.specs.Forms.{each_of}

-- a member that is a number, and one that is a list of numbers
abbrev pub number_at : List ℕ → Data → Option ℕ
number_at key d = option_and_then number_of (get key d)

abbrev pub numbers_at : List ℕ → Data → Option (List ℕ)
numbers_at key d = option_and_then (each_of number_of) (items_at key d)

-- the rule with this name
abbrev pub rule_named : List ℕ → Option Rule
rule_named name =
    if bytes_eq name (codes "bottom") then Some rule.Bottom
    else if bytes_eq name (codes "clash") then Some rule.Clash
    else if bytes_eq name (codes "and") then Some rule.And
    else if bytes_eq name (codes "or") then Some rule.Or
    else if bytes_eq name (codes "axiom") then Some rule.Axiom
    else if bytes_eq name (codes "cut") then Some rule.Cut
    else if bytes_eq name (codes "successor") then Some rule.Successor
    else if bytes_eq name (codes "bridge") then Some rule.Bridge
    else None

-- {"rule":"bottom"}
unfoldable pub bottom_of : Data → Option WhyForm
bottom_of d = do
  members ← sized 1 d
  Some why.Bottom

-- {"name":"A","rule":"clash"}
unfoldable pub clash_of : Data → Option WhyForm
clash_of d = do
  name ← text_at (codes "name") d
  members ← sized 2 d
  Some (why.Clash name)

-- {"at":N,"cite":N,"rule":"and"}
unfoldable pub and_of : Data → Option WhyForm
and_of d = do
  at ← number_at (codes "at") d
  cite ← number_at (codes "cite") d
  members ← sized 3 d
  Some (why.And at cite)

-- {"at":N,"left":N,"right":N,"rule":"or"}
unfoldable pub or_of : Data → Option WhyForm
or_of d = do
  at ← number_at (codes "at") d
  left ← number_at (codes "left") d
  right ← number_at (codes "right") d
  members ← sized 4 d
  Some (why.Or at left right)

-- {"axiom":N,"left":N,"right":N,"rule":"axiom"}
unfoldable pub axiom_of : Data → Option WhyForm
axiom_of d = do
  index ← number_at (codes "axiom") d
  left ← number_at (codes "left") d
  right ← number_at (codes "right") d
  members ← sized 4 d
  Some (why.Axiom index left right)

-- {"no":N,"on":"C","rule":"cut","yes":N}
unfoldable pub cut_of : Data → Option WhyForm
cut_of d = do
  on ← text_at (codes "on") d
  with_it ← number_at (codes "yes") d
  without_it ← number_at (codes "no") d
  members ← sized 4 d
  Some (why.Cut on with_it without_it)

-- {"at":N,"cite":N,"rule":"successor"}
unfoldable pub successor_of : Data → Option WhyForm
successor_of d = do
  at ← number_at (codes "at") d
  cite ← number_at (codes "cite") d
  members ← sized 3 d
  Some (why.Successor at cite)

-- {"cite":N,"each":[N,..],"from":P,"into":[N,..],"onto":N,"rule":"bridge"}
unfoldable pub bridge_of : Data → Option WhyForm
bridge_of d = do
  from ← number_at (codes "from") d
  onto ← number_at (codes "onto") d
  into_set ← numbers_at (codes "into") d
  cite ← number_at (codes "cite") d
  each ← numbers_at (codes "each") d
  members ← sized 6 d
  Some (why.Bridge from onto into_set cite each)

-- a reason by its rule
abbrev pub why_by : Rule → Data → Option WhyForm
why_by rule.Bottom d = bottom_of d
why_by rule.Clash d = clash_of d
why_by rule.And d = and_of d
why_by rule.Or d = or_of d
why_by rule.Axiom d = axiom_of d
why_by rule.Cut d = cut_of d
why_by rule.Successor d = successor_of d
why_by rule.Bridge d = bridge_of d

unfoldable pub why_of : Data → Option WhyForm
why_of d = do
  name ← text_at (codes "rule") d
  named ← rule_named name
  why_by named d

abbrev pub why_at : Data → Option WhyForm
why_at d = option_and_then why_of (get (codes "why") d)

unfoldable pub line_of : Data → Option LineForm
line_of d = do
  label ← texts_at (codes "label") d
  peer ← number_at (codes "peer") d
  reason ← why_at d
  members ← sized 3 d
  Some (record { peer = peer; label = label; why = reason })

abbrev pub lines_at : Data → Option (List LineForm)
lines_at d = option_and_then (each_of line_of) (items_at (codes "lines") d)
