-- The line that sums a session up, by the lines of its replies.
use Rattle.std.specs.Prelude.{ℕ, ◌==◌, Bool, true, false, List, ◌++◌, codes, if◌then◌else◌}
use Rattle.std.specs.Fmt.{decimal}
use Rattle.std.specs.List.{count_by, ends_with, starts_with}
use Rattle.drago.specs.declared.summary.Kind.{Kind}
use Rattle.drago.specs.declared.summary.Kind.TheVariants as kind

-- does the line begin so, or end so
abbrev pub begins : List ℕ → List ℕ → Bool
begins front line = starts_with (λ a b. a == b) line front

abbrev pub ends : List ℕ → List ℕ → Bool
ends back line = ends_with (λ a b. a == b) line back

-- What a reply tells, by its line. The members of a reply stand in the byte order of their names: a refusal begins with its code, and the reply to an
-- ask ends with its verdict.
abbrev pub kind_of : List ℕ → Kind
kind_of line =
    if begins (codes "{\"code\":") line then kind.Refused
    else (if ends (codes "\"verdict\":\"yes\"}\n") line then kind.Yes
    else (if ends (codes "\"verdict\":\"no\"}\n") line then kind.No
    else (if ends (codes "\"verdict\":\"spent\"}\n") line then kind.Spent
    else (if ends (codes "\"verdict\":\"memory\"}\n") line then kind.Memory
    else kind.Other))))

-- does it tell of an ask that was answered
abbrev pub is_of_ask : Kind → Bool
is_of_ask kind.Refused = false
is_of_ask kind.Other = false
is_of_ask _ = true

abbrev pub is_refused : Kind → Bool
is_refused kind.Refused = true
is_refused _ = false

abbrev pub is_memory : Kind → Bool
is_memory kind.Memory = true
is_memory _ = false

abbrev pub is_no : Kind → Bool
is_no kind.No = true
is_no _ = false

abbrev pub is_spent : Kind → Bool
is_spent kind.Spent = true
is_spent _ = false

abbrev pub is_yes : Kind → Bool
is_yes kind.Yes = true
is_yes _ = false

-- how many asks were answered, how many requests were refused, and how many of the answers were of each kind
abbrev pub summary_text : List Kind → List ℕ
summary_text kinds =
    codes "{\"asks\":" ++ decimal (count_by is_of_ask kinds)
    ++ codes ",\"errors\":" ++ decimal (count_by is_refused kinds)
    ++ codes ",\"memory\":" ++ decimal (count_by is_memory kinds)
    ++ codes ",\"no\":" ++ decimal (count_by is_no kinds)
    ++ codes ",\"spent\":" ++ decimal (count_by is_spent kinds)
    ++ codes ",\"yes\":" ++ decimal (count_by is_yes kinds)
    ++ codes "}"
