-- The members of a JSON object, by the kinds of their values. An object has each key once: of equal members the last counts.
use Rattle.std.specs.Prelude.{ℕ, ◌+◌, ◌==◌, nat_le, List, [], ◌∷◌, if◌then◌else◌, Option, None, Some, option_and_then, option_map, is_some, ⊤}
use Rattle.serde_json.specs.Data.{Data, Items, no_items, item, Members, no_members, member}
use Rattle.serde_json.specs.Find.{get, as_str, as_array, as_object, as_number, as_u64}

infixl 10 ◌>>=◌
-- one part, and then the next one with what was found
abbrev pub ◌>>=◌ : {A B : Type 0} → Option A → (A → Option B) → Option B
None >>= f = None
(Some x) >>= f = f x

-- a string
abbrev pub text_of : Data → Option (List ℕ)
text_of d = as_str d

-- a member that is a string
abbrev pub text_at : List ℕ → Data → Option (List ℕ)
text_at key d = option_and_then text_of (get key d)

-- a member that is a list
abbrev pub items_at : List ℕ → Data → Option Items
items_at key d = option_and_then as_array (get key d)

-- the strings of a list, where each item is one
abbrev pub texts_of : Items → Option (List (List ℕ))
texts_of no_items = Some []
texts_of (item d ds) = option_and_then (λ t. option_map (λ ts. t ∷ ts) (texts_of ds)) (text_of d)

-- a member that is a list of strings
abbrev pub texts_at : List ℕ → Data → Option (List (List ℕ))
texts_at key d = option_and_then texts_of (items_at key d)

-- a member that is a list of strings, or absent, which is the empty list
abbrev pub listed_at : List ℕ → Data → Option (List (List ℕ))
listed_at key d = if is_some (get key d) then texts_at key d else Some []

-- a whole number from 0 to 2 ^ 64 - 1 that is written with digits alone
abbrev pub number_of : Data → Option ℕ
number_of d = option_and_then as_u64 (as_number d)

-- such a number in a member, or none where the member is absent
abbrev pub maybe_number_in : Option Data → Option (Option ℕ)
maybe_number_in None = Some None
maybe_number_in (Some d) = option_map (λ n. Some n) (number_of d)

abbrev pub maybe_number_at : List ℕ → Data → Option (Option ℕ)
maybe_number_at key d = maybe_number_in (get key d)

-- the largest number that names a place in a list
abbrev pub largest_index : ℕ
largest_index = 4294967295

-- the numbers of a list, where each item is one and none is too large
abbrev pub index_of : Data → Option ℕ
index_of d = option_and_then (λ n. if nat_le n largest_index then Some n else None) (number_of d)

abbrev pub indexes_of : Items → Option (List ℕ)
indexes_of no_items = Some []
indexes_of (item d ds) = option_and_then (λ n. option_map (λ ns. n ∷ ns) (indexes_of ds)) (index_of d)

-- a member that is a list of such numbers
abbrev pub indexes_at : List ℕ → Data → Option (List ℕ)
indexes_at key d = option_and_then indexes_of (items_at key d)

-- 1 where the member is there
abbrev pub presence : List ℕ → Data → ℕ
presence key d = if is_some (get key d) then 1 else 0

abbrev pub member_count : Members → ℕ
member_count no_members = 0
member_count (member k d ms) = member_count ms + 1

-- exactly so many members, so that with the wanted ones found there is no other
abbrev pub sized : ℕ → Data → Option ⊤
sized n d = option_and_then (λ ms. if member_count ms == n then Some tt else None) (as_object d)
