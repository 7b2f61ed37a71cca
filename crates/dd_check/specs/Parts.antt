-- Parts of concepts as the code holds them: lent, and not taken out.
use Rattle.std.specs.Prelude.{ℕ, ◌==◌, ◌&&◌, Bool, true, false, Option, None, Some}
use Rattle.std.specs.Borrow.{Bor}
use Rattle.dd_concept.specs.declared.concept.Concept.{Concept}
use Rattle.dd_concept.specs.declared.concept.Concept.TheOpen.{Concept-F}
use Rattle.dd_concept.specs.declared.concept.Concept.TheViews.{out-Concept}
use Rattle.dd_concept.specs.Forms.{and_of, or_of, some_of}
use Rattle.dd_concept.specs.Normal.{nnf_of, nnf_not_of}
use Rattle.dd_concept.specs.Same.{is_same}

-- two concepts that are lent, and a number with one
abbrev pub pair_of : Bor Concept × Bor Concept → Concept × Concept
pair_of t = (t.0.now, t.1.now)

abbrev pub along_of : ℕ × Bor Concept → ℕ × Concept
along_of t = (t.0, t.1.now)

abbrev pub all_form : Concept-F Concept → Option (ℕ × Concept)
all_form (Concept-F.HasAll r c) = Some (r, c)
all_form _ = None

-- the role and the part of a universal restriction
abbrev pub all_of : Concept → Option (ℕ × Concept)
all_of c = all_form (out-Concept c)

-- are these the two parts, or this the role and the part
abbrev pub are_parts : Concept → Concept → Concept × Concept → Bool
are_parts x y t = is_same x t.0 && is_same y t.1

abbrev pub is_along : ℕ → Concept → ℕ × Concept → Bool
is_along r x t = (r == t.0) && is_same x t.1

-- ---- normal forms of a concept that is kept, or of its complement

abbrev pub normal_by : Bool → Concept → Concept
normal_by true c = nnf_of c
normal_by false c = nnf_not_of c

abbrev pub joined_of : Bool → Concept → Option (Concept × Concept)
joined_of true c = and_of c
joined_of false c = or_of c

abbrev pub quantified_of : Bool → Concept → Option (ℕ × Concept)
quantified_of true c = some_of c
quantified_of false c = all_of c
