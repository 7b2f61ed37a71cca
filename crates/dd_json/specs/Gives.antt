-- What a reader of a JSON value gives: what its definition finds, or that nothing is found. Memory may be wanting at any time.
use Rattle.std.specs.Prelude.{◌≡◌, Option, None, Some, Result, Ok, Err}
use Rattle.dd_json.specs.declared.shape.ShapeErr.{ShapeErr}
use Rattle.dd_json.specs.declared.shape.ShapeErr.TheVariants.{Shape, NoMemory}

abbrev pub Gives : {X : Type 0} → Result X ShapeErr → Option X → Type 0
Gives (Ok x) found = found ≡ Some x
Gives (Err Shape) found = found ≡ None
Gives (Err NoMemory) found = Unit {0}

-- the same where what is given is seen by a view
abbrev pub GivesSeen : {X Y : Type 0} → (X → Y) → Result X ShapeErr → Option Y → Type 0
GivesSeen see (Ok x) found = found ≡ Some (see x)
GivesSeen see (Err Shape) found = found ≡ None
GivesSeen see (Err NoMemory) found = Unit {0}
