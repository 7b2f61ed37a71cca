-- The JSON value of a line, from what its reading tells.
use Rattle.std.proofs.Common.{◌≡◌, ℕ, Bool, true, false, List, Some, None, refl, sym}
use Rattle.std.specs.Prelude.{if◌then◌else◌}
use Rattle.std.specs.Str.{IsUtf8, is_utf8}
use Rattle.std.proofs.lemmas.Str.{IsUtf8-from_is_utf8, is_utf8-from_IsUtf8}
use Rattle.serde_json.specs.Data.{Data}
use Rattle.serde_json.specs.Read.{read}
use Rattle.dd_wire.specs.Lines.{json_of}

pub json_there : (line : List ℕ) (d : Data) → IsUtf8 line → read line ≡ Some d → Some d ≡ json_of line
json_there line d text reads = let is : is_utf8 line ≡ true = is_utf8-from_IsUtf8 line text in rw (is, reads)

pub json_missing : (line : List ℕ) → (IsUtf8 line → read line ≡ None) → None ≡ json_of line
json_missing line fails = by_test (is_utf8 line) refl where
  by_test : (b : Bool) → is_utf8 line ≡ b → None ≡ (if b then read line else None)
  by_test true is = sym (fails (IsUtf8-from_is_utf8 line is))
  by_test false is = refl
