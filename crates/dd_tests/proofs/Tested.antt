-- What the rows that were tested say of a table.
use Rattle.std.proofs.Common.{◌≡◌, ◌<◌, ◌≤◌, ◌+◌, ℕ, refl, Bool, true, false, List, All, take, length, get_or, subst}
use Rattle.std.proofs.lemmas.List.{take_all}
use Rattle.std.proofs.lemmas.List.Elements.{All-more}
use Rattle.std.proofs.lemmas.Option.{slice_get_read}
use Rattle.dd_tests.specs.Tables.{IsFirstWrong}

pub all_tested : {A : Type 0} (P : A → Type 0) (rows : List A) (i : ℕ) → length rows ≤ i → All P (take i rows) → All P rows
all_tested P rows i past before = subst (All P) (take_all i rows past) before

pub one_more_tested : {A : Type 0} (P : A → Type 0) (rows : List A) (i : ℕ) (row : A) → i < length rows → row ≡ get_or rows i row
    → All P (take i rows) → P row → All P (take (i + 1) rows)
one_more_tested P rows i row less is before holds = All-more P rows i row less before (subst P is holds)

pub first_wrong : {A : Type 0} (Answers : A → Bool → Type 0) (rows : List A) (i : ℕ) (row : A) → i < length rows → row ≡ get_or rows i row
    → All (λ r. Answers r true) (take i rows) → Answers row false → IsFirstWrong Answers rows i
first_wrong Answers rows i row less is before wrong = record { before = before; wrong = (row, slice_get_read rows (length rows) i row refl less is, wrong) }
