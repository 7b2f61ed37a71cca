-- The law of the tests.
use Rattle.std.specs.Prelude.{◌≡◌, ℕ, List}
use Rattle.dd_wire.specs.Refusal.{Tested}
use Rattle.dd_wire.specs.Texts.{Resolved}
use Rattle.dd_read.specs.State.{State}
use Rattle.dd_read.specs.Tests.{Passes}
use Rattle.dd_read.specs.declared.options.Options.{Options}

-- The tests of a line decide: there is one thing that they find, the request or the refusal of the first test that fails.
abbrev pub TestsDecide : Type 0
TestsDecide = (options : Options) (state : State) (line : List ℕ) (one other : Tested Resolved) → Passes options state line one → Passes options state line other → one ≡ other
