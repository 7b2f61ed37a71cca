-- The lines that a reason cites, and the same reason under other numbers of lines.
use Rattle.std.specs.Prelude.{ℕ, List, [], ◌∷◌, map}
use Rattle.dd_task.specs.declared.line.Line.{Line}
use Rattle.dd_task.specs.declared.line.Why.{Why}
use Rattle.dd_task.specs.declared.line.Why.TheVariants as why

-- the numbers of the lines that the reason cites
abbrev pub cited_by : Why → List ℕ
cited_by why.Bottom = []
cited_by (why.Clash a) = []
cited_by (why.And at cite) = cite ∷ []
cited_by (why.Or at left right) = left ∷ right ∷ []
cited_by (why.Axiom index left right) = left ∷ right ∷ []
cited_by (why.Cut on has lacks) = has ∷ lacks ∷ []
cited_by (why.Successor at cite) = cite ∷ []
cited_by (why.Bridge from onto set cite each) = cite ∷ each

-- the reason where each cited line has the number that f gives it
abbrev pub renumbered_why : (ℕ → ℕ) → Why → Why
renumbered_why f why.Bottom = why.Bottom
renumbered_why f (why.Clash a) = why.Clash a
renumbered_why f (why.And at cite) = why.And at (f cite)
renumbered_why f (why.Or at left right) = why.Or at (f left) (f right)
renumbered_why f (why.Axiom index left right) = why.Axiom index (f left) (f right)
renumbered_why f (why.Cut on has lacks) = why.Cut on (f has) (f lacks)
renumbered_why f (why.Successor at cite) = why.Successor at (f cite)
renumbered_why f (why.Bridge from onto set cite each) = why.Bridge from onto set (f cite) (map f each)

-- the line with that reason
abbrev pub renumbered : (ℕ → ℕ) → Line → Line
renumbered f line = record line { why = renumbered_why f line.why }
