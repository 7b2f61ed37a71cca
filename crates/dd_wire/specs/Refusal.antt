-- A refusal, and how tests follow one another: the first that fails refuses.
use Rattle.std.specs.Prelude.{ℕ, List, [], Bool, if◌then◌else◌, Option, None, Some, Result, Ok, Err, ◌==◌, codes, ⊤}
use Rattle.dd_json.specs.InOrder.{wanted, unless}
pub use Rattle.dd_json.specs.InOrder.{◌>>=◌}

-- the code of an error, with a number where the code has one
pub record Refusal : Type 0 where
  pub code : ℕ
  pub n : Option ℕ

-- what passes a test, or the refusal
abbrev pub Tested : Type 0 → Type 0
Tested A = Result A Refusal

-- a code without a number, and one with a number
abbrev pub refused : ℕ → Refusal
refused code = record { code = code; n = None }

abbrev pub refused_at : ℕ → ℕ → Refusal
refused_at code n = record { code = code; n = Some n }

-- a test that asks for a value: without one the line is refused with this code
abbrev pub or_refuse : {A : Type 0} → ℕ → Option A → Tested A
or_refuse code found = wanted (refused code) found

-- a test that asks for a fact
abbrev pub demand : ℕ → Bool → Tested Bool
demand code holds = unless (refused code) holds

-- a test that asks that there be no fault, which has a number
abbrev pub demand_none : ℕ → Option ℕ → Tested ⊤
demand_none code None = Ok tt
demand_none code (Some n) = Err (refused_at code n)

-- the codes, in the order in which they are tested
abbrev pub line_too_long : ℕ
line_too_long = 16

abbrev pub bad_json : ℕ
bad_json = 1

abbrev pub bad_shape : ℕ
bad_shape = 2

abbrev pub no_peers : ℕ
no_peers = 4

abbrev pub peers_twice : ℕ
peers_twice = 5

abbrev pub bad_peers : ℕ
bad_peers = 6

abbrev pub unknown_peer : ℕ
unknown_peer = 7

abbrev pub bad_concept : ℕ
bad_concept = 3

abbrev pub concept_limit : ℕ
concept_limit = 11

abbrev pub symbols_full : ℕ
symbols_full = 12

abbrev pub same_peer : ℕ
same_peer = 8

abbrev pub unknown_source : ℕ
unknown_source = 19

abbrev pub too_many_axioms : ℕ
too_many_axioms = 9

abbrev pub too_many_rules : ℕ
too_many_rules = 10

abbrev pub versions_full : ℕ
versions_full = 13

abbrev pub bad_budget : ℕ
bad_budget = 14

abbrev pub closure_full : ℕ
closure_full = 15

abbrev pub bad_pin : ℕ
bad_pin = 18

-- the name under which a code is printed
abbrev pub error_name : ℕ → List ℕ
error_name code =
    if code == line_too_long then codes "line_too_long"
    else if code == bad_json then codes "bad_json"
    else if code == bad_shape then codes "bad_shape"
    else if code == no_peers then codes "no_peers"
    else if code == peers_twice then codes "peers_twice"
    else if code == bad_peers then codes "bad_peers"
    else if code == unknown_peer then codes "unknown_peer"
    else if code == bad_concept then codes "bad_concept"
    else if code == concept_limit then codes "concept_limit"
    else if code == symbols_full then codes "symbols_full"
    else if code == same_peer then codes "same_peer"
    else if code == unknown_source then codes "unknown_source"
    else if code == too_many_axioms then codes "too_many_axioms"
    else if code == too_many_rules then codes "too_many_rules"
    else if code == versions_full then codes "versions_full"
    else if code == bad_budget then codes "bad_budget"
    else if code == closure_full then codes "closure_full"
    else if code == bad_pin then codes "bad_pin"
    else []
