-- For private clauses alone: the elements of a peer that a world mentions.
use Rattle.std.specs.Prelude.{◌≡◌, ◌≢◌, ℕ, ◌<◌, ◌≤◌, ◌^◌, ◌⊎◌, ◌==◌, ◌++◌, true, false, if◌then◌else◌, List, [], ◌∷◌, length, slice_index}
use Rattle.std.specs.List.{flat_map}
use Rattle.dd_interp.specs.declared.interp.Interp.{Interp}
use Rattle.dd_interp.specs.Places.{is_listed}
use Rattle.dd_set.specs.Sets.{IsRising}

-- the ends of a link that are elements of peer j
abbrev pub link_ends : ℕ → ℕ × ℕ × ℕ × ℕ → List ℕ
link_ends j l = (if l.0 == j then l.2 ∷ [] else []) ++ (if l.1 == j then l.3 ∷ [] else [])

-- the elements that the names, the roles and the links mention
abbrev pub mentions_of : ℕ → Interp → List (ℕ × ℕ × ℕ × ℕ) → List ℕ
mentions_of j i links = (flat_map (λ p. p.1 ∷ []) i.names ++ flat_map (λ t. t.1 ∷ t.2 ∷ []) i.roles) ++ flat_map (link_ends j) links

-- the least number that is not where it would be if no number were left out
pub record IsGap (es : List ℕ) (gap : ℕ) : Type 0 where
  pub within : gap ≤ length es
  pub same : (k : ℕ) → k < gap → slice_index es k ≡ k
  pub next : gap < length es → slice_index es gap ≢ gap

-- There is an element that is not mentioned, and the size, which is none, is in the list for all of those.
pub record HasOther (size : ℕ) (mentions es : List ℕ) : Type 0 where
  pub other : ℕ
  pub within : other < size
  pub unmentioned : is_listed mentions other ≡ false
  pub stands : is_listed es size ≡ true

-- the mentioned elements, rising, and behind them the size, where some element is not mentioned
pub record AreSeen (size : ℕ) (mentions es : List ℕ) : Type 0 where
  pub rising : IsRising es
  pub few : length es < 2 ^ 32
  pub listed : (x : ℕ) → is_listed mentions x ≡ true → is_listed es x ≡ true
  pub covers : (x : ℕ) → x < size → (is_listed mentions x ≡ true) ⊎ HasOther size mentions es
  pub each : (k : ℕ) → k < length es → (slice_index es k < size) ⊎ ((slice_index es k ≡ size) × HasOther size mentions es)
