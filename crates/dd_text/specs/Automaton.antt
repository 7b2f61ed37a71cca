-- For private clauses: the automaton with a stack that reads the text of a concept byte by byte. It stops at the first byte with which no text
-- of the grammar goes on, and writes down the signs of the nodes that it passes, in the order of the text.
use Rattle.std.specs.Prelude.{◌≡◌, ℕ, ◌+◌, ◌≤◌, ◌==◌, Bool, true, false, ◌&&◌, ◌||◌, nat_lt, nat_eq, slice_index, List, [], ◌∷◌, ◌++◌, length, drop, max, codes, if◌then◌else◌, Option, Some, None}
use Rattle.std.specs.List.{list_any, starts_with}
use Rattle.std.specs.Str.{bytes_eq}
use Rattle.dd_text.specs.Names.{names_a_thing, is_byte_of_name, begins_with_letter, longest_name}
use Rattle.dd_text.specs.Grammar.{Term, top, bottom, atomic, negation, conjunction, disjunction, existential, universal}
use Rattle.dd_text.specs.declared.grammar.Mode.{Mode}
use Rattle.dd_text.specs.declared.grammar.Mode.TheVariants as mode
use Rattle.dd_text.specs.declared.grammar.Frame.{Frame}
use Rattle.dd_text.specs.declared.grammar.Frame.TheVariants as frame
use Rattle.dd_text.specs.declared.grammar.Sign.{Sign}
use Rattle.dd_text.specs.declared.grammar.Sign.TheVariants as sign
use Rattle.dd_text.specs.declared.grammar.Scan.{Scan}
use Rattle.dd_text.specs.declared.grammar.Scanned.{Scanned}

-- the words after a bracket
abbrev pub keywords : List (List ℕ)
keywords = codes "not" ∷ codes "and" ∷ codes "or" ∷ codes "some" ∷ codes "all" ∷ []

-- whether the keyword begins with this word and goes on with the byte
abbrev pub continues : List ℕ → List ℕ → ℕ → Bool
continues keyword word b = nat_lt (length word) (length keyword) && starts_with nat_eq keyword word && (slice_index keyword (length word) == b)

abbrev pub continues_keyword : List ℕ → ℕ → Bool
continues_keyword word b = list_any (λ k. continues k word b) keywords

-- whether a name that begins with this word may go on with the byte
abbrev pub extends : List ℕ → ℕ → Bool
extends word b = is_byte_of_name b && nat_lt (length word) longest_name && begins_with_letter (word ++ b ∷ [])

-- whether a word is a concept
abbrev pub is_leaf : List ℕ → Bool
is_leaf word = bytes_eq word (codes "top") || bytes_eq word (codes "bottom") || names_a_thing word

abbrev pub leaf_sign : List ℕ → Sign
leaf_sign word = if bytes_eq word (codes "top") then sign.Top else (if bytes_eq word (codes "bottom") then sign.Bottom else sign.Name word)

-- the word was a concept
abbrev pub with_leaf : Scan → Scan
with_leaf s = record s { mode = mode.Done; word = []; signs = s.signs ++ leaf_sign s.word ∷ []; depth = max s.depth (length s.stack + 1) }

abbrev pub finished_in : Mode → Scan → Scan
finished_in mode.Word s = if is_leaf s.word then with_leaf s else s
finished_in m s = s

-- the text ends here, and so does a word
abbrev pub finished : Scan → Scan
finished s = finished_in s.mode s

-- after a concept: a space where another part is to come, a bracket where the form ends
abbrev pub after : Scan → List Frame → ℕ → Option Scan
after s [] b = None
after s (frame.First ∷ fs) b = if b == 32 then Some (record s { mode = mode.Concept; stack = frame.Last ∷ fs }) else None
after s (frame.Last ∷ fs) b = if b == 41 then Some (record s { stack = fs }) else None

-- a form begins, whose first part comes next
abbrev pub with_form : Scan → Sign → Frame → Scan
with_form s form parts = record s { mode = mode.Concept; word = []; stack = parts ∷ s.stack; signs = s.signs ++ form ∷ [] }

-- after the word of a form
abbrev pub after_keyword : Scan → Option Scan
after_keyword s =
    if bytes_eq s.word (codes "not") then Some (with_form s sign.Not frame.Last)
    else (if bytes_eq s.word (codes "and") then Some (with_form s sign.And frame.First)
    else (if bytes_eq s.word (codes "or") then Some (with_form s sign.Or frame.First)
    else (if bytes_eq s.word (codes "some") then Some (record s { mode = mode.SomeRole; word = [] })
    else (if bytes_eq s.word (codes "all") then Some (record s { mode = mode.AllRole; word = [] })
    else None))))

abbrev pub with_byte : Scan → ℕ → Scan
with_byte s b = record s { word = s.word ++ b ∷ [] }

abbrev pub role_sign : Mode → List ℕ → Sign
role_sign mode.AllRole role = sign.HasAll role
role_sign m role = sign.HasSome role

-- in a role
abbrev pub role_step : Scan → ℕ → Option Scan
role_step s b =
    if extends s.word b then Some (with_byte s b)
    else (if (b == 32) && names_a_thing s.word then Some (with_form s (role_sign s.mode s.word) frame.Last) else None)

abbrev pub step_in : Mode → Scan → ℕ → Option Scan
step_in mode.Concept s b =
    if b == 40 then Some (record s { mode = mode.Keyword })
    else (if extends s.word b then Some (record s { mode = mode.Word; word = s.word ++ b ∷ [] }) else None)
step_in mode.Word s b =
    if extends s.word b then Some (with_byte s b)
    else (if is_leaf s.word then after (with_leaf s) s.stack b else None)
step_in mode.Keyword s b =
    if b == 32 then after_keyword s
    else (if continues_keyword s.word b then Some (with_byte s b) else None)
step_in mode.SomeRole s b = role_step s b
step_in mode.AllRole s b = role_step s b
step_in mode.Done s b = after s s.stack b

-- what stands after one more byte, if it fits
abbrev pub step : Scan → ℕ → Option Scan
step s b = step_in s.mode s b

-- whether the byte fitted, and what stands then: a byte that does not fit may end a word all the same
abbrev pub Steps : Option Scan → Scan → Scan → Bool → Type 0
Steps (Some next) old new fits = (fits ≡ true) × (new ≡ next)
Steps None old new fits = (fits ≡ false) × (finished new ≡ finished old)

-- nothing is read
abbrev pub start : Scan
start = record { mode = mode.Concept; word = []; stack = []; signs = []; depth = 0 }

-- what stands after all bytes that fit, and the bytes that are left
abbrev pub reach : Scan → List ℕ → Scan × List ℕ
reach s [] = (finished s, [])
reach s (b ∷ bs) = elim (step s b) [ None ↦ (finished s, b ∷ bs) | Some next ↦ reach next bs ]

abbrev pub is_whole_in : Mode → List Frame → Bool
is_whole_in mode.Done [] = true
is_whole_in m fs = false

-- whether what was read is a concept
abbrev pub is_whole : Scan → Bool
is_whole s = is_whole_in s.mode s.stack

-- the nodes of a term, in the order of its text
abbrev pub signs_of : Term → List Sign
signs_of top = sign.Top ∷ []
signs_of bottom = sign.Bottom ∷ []
signs_of (atomic a) = sign.Name a ∷ []
signs_of (negation c) = sign.Not ∷ signs_of c
signs_of (conjunction c d) = sign.And ∷ (signs_of c ++ signs_of d)
signs_of (disjunction c d) = sign.Or ∷ (signs_of c ++ signs_of d)
signs_of (existential r c) = sign.HasSome r ∷ signs_of c
signs_of (universal r c) = sign.HasAll r ∷ signs_of c

-- a text was read as far as it fits
pub record Scans (text : List ℕ) (r : Scanned) : Type 0 where
  pub within : r.read ≤ length text
  pub rest : drop r.read text ≡ (reach start text).1
  pub whole : r.whole ≡ is_whole (reach start text).0
  pub signs : r.signs ≡ (reach start text).0.signs
  pub depth : r.depth ≡ (reach start text).0.depth
