-- Which lines have a form: a line is one JSON value that is text and has one of the forms.
use Rattle.std.specs.Prelude.{◌≡◌, ℕ, List, if◌then◌else◌, Option, None, Err}
use Rattle.std.specs.Str.{is_utf8}
use Rattle.serde_json.specs.Data.{Data}
use Rattle.serde_json.specs.Read.{read}
use Rattle.dd_wire.specs.declared.request.WireErr.{WireErr}
use Rattle.dd_wire.specs.declared.request.WireErr.TheVariants.{Code, NoMemory}
use Rattle.dd_wire.specs.Forms.{Written, form_of}
use Rattle.dd_wire.specs.Refusal.{Tested, ◌>>=◌, or_refuse, bad_json, bad_shape}

-- the JSON value of a line
abbrev pub json_of : List ℕ → Option Data
json_of line = if is_utf8 line then read line else None

-- what a line says, or the first test that it fails
unfoldable pub form_in : List ℕ → Tested Written
form_in line = do
  value ← or_refuse bad_json (json_of line)
  or_refuse bad_shape (form_of value)

-- an error is the refusal that was found, or tells of want of memory
abbrev pub IsRefused : {A : Type 0} → WireErr → Tested A → Type 0
IsRefused (Code code n) found = found ≡ Err (record { code = code; n = n })
IsRefused NoMemory found = Unit {0}
