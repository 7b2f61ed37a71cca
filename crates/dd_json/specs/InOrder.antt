-- Tests that follow one another: the first that fails decides. An error says which one it was.
use Rattle.std.specs.Prelude.{Bool, if◌then◌else◌, Option, None, Some, Result, Ok, Err}

infixl 10 ◌>>=◌
-- one test, and then the next one with what passed
abbrev pub ◌>>=◌ : {E A B : Type 0} → Result A E → (A → Result B E) → Result B E
(Ok x) >>= f = f x
(Err e) >>= f = Err e

-- a test that asks for a value
abbrev pub wanted : {E A : Type 0} → E → Option A → Result A E
wanted e None = Err e
wanted e (Some x) = Ok x

-- a test that asks for a fact
abbrev pub unless : {E : Type 0} → E → Bool → Result Bool E
unless e holds = if holds then Ok holds else Err e
