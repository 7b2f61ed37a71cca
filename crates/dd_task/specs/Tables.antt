-- The targets of a peer's rules as rows of truth values, one for each element of a model.
use Rattle.std.specs.Prelude.{ℕ, Bool, true, false, not, List, [], flat_map, length, map, slice_get}
use Rattle.std.specs.List.{range_with_len}
use Rattle.std.specs.Option.{option_map_or}
use Rattle.dd_interp.specs.declared.interp.Interp.{Interp}
use Rattle.dd_peer.specs.declared.version.Pinned.{Pinned}
use Rattle.dd_peer.specs.declared.version.Rule.{Rule}
use Rattle.dd_task.specs.declared.demands.Table.{Table}
use Rattle.dd_task.specs.declared.job.Key.{Key}
use Rattle.dd_task.specs.declared.job.Key.TheVariants.{Asked}
use Rattle.dd_task.specs.Rules.{into_rules, onto_rules}
use Rattle.dd_task.specs.Targets.{positions, in_target}

-- the elements of the model
abbrev pub elements_of : Interp → List ℕ
elements_of m = range_with_len 0 m.size

-- which of these elements are in the target of the rule
abbrev pub row_at : Interp → List ℕ → Rule → List Bool
row_at m elements r = map (λ x. in_target m x r) elements

abbrev pub row_of : Interp → Rule → List Bool
row_of m r = row_at m (elements_of m) r

-- the rows of the rules that peer i keeps from peer h
abbrev pub table_of : Pinned → ℕ → Interp → ℕ → Table
table_of p i m h = record { into = map (row_of m) (into_rules p h i); onto = map (row_of m) (onto_rules p h i) }

-- the same for each peer, in order
abbrev pub tables_of : Pinned → ℕ → Interp → List Table
tables_of p i m = map (table_of p i m) (range_with_len 0 (length p.peers))

-- ---- what tables say of an element

-- what a row says of the element, and no where it does not go so far
abbrev pub says : ℕ → List Bool → Bool
says x row = option_map_or (λ (b : Bool). b) (slice_get row x) false

-- the truth value, or the other one
abbrev pub taken_as : Bool → Bool → Bool
taken_as true b = b
taken_as false b = not b

-- the places of the rows that say yes of the element, or of those that say no
abbrev pub places_of : Bool → ℕ → List (List Bool) → List ℕ
places_of wanted x rows = positions (λ row. taken_as wanted (says x row)) rows

-- the keys that the element of peer i raises by the rules from peer h
abbrev pub raised_by_table : ℕ → ℕ → ℕ → Table → List Key
raised_by_table h i x t = map (λ o. Asked h i o (places_of false x t.into)) (places_of true x t.onto)

-- those by the rules from each peer
abbrev pub raised_at_table : List Table → ℕ → ℕ → ℕ → List Key
raised_at_table tables i x h = option_map_or (raised_by_table h i x) (slice_get tables h) []

abbrev pub raised_in : List Table → ℕ → ℕ → List Key
raised_in tables i x = flat_map (raised_at_table tables i x) (range_with_len 0 (length tables))
