-- What a test of a table tells, by how each row may be answered.
use Rattle.std.specs.Prelude.{◌≡◌, ℕ, true, false, Bool, List, Some, take, All, Result, Ok, Err, ⊤}
use Rattle.std.specs.List.{slice_get}
use Rattle.dd_tests.specs.declared.rows.Failure.{Failure}
use Rattle.dd_tests.specs.declared.rows.Failure.TheVariants.{WrongRow, WrongAnswer, NoMemory}

-- the row i is answered wrongly, and each one before it rightly
pub record IsFirstWrong {A : Type 0} (Answers : A → Bool → Type 0) (rows : List A) (i : ℕ) : Type 0 where
  pub before : All (λ row. Answers row true) (take i rows)
  pub wrong : (row : A) × (slice_get rows i ≡ Some row) × Answers row false

-- what the test of a table may tell. Memory may run out at any row.
abbrev pub Tells : {A : Type 0} → (A → Bool → Type 0) → List A → Result (Unit {0}) Failure → Type 0
Tells Answers rows (Ok done) = All (λ row. Answers row true) rows
Tells Answers rows (Err (WrongRow i)) = IsFirstWrong Answers rows i
Tells Answers rows (Err WrongAnswer) = ⊥
Tells Answers rows (Err NoMemory) = ⊤

-- what the test of one answer tells
abbrev pub told : {E : Type 0} → Result Bool E → Result (Unit {0}) Failure
told (Ok true) = Ok tt
told (Ok false) = Err WrongAnswer
told (Err e) = Err NoMemory
