-- Keys are equal where their contents are.
use Rattle.std.proofs.Common.{rules, ◌≡◌, ℕ, Bool, true, false, List, [], ◌∷◌, refl}
use Rattle.std.specs.Prelude.{◌&&◌, ◌==◌}
use Rattle.std.specs.Str.{bytes_eq}
use Rattle.std.proofs.lemmas.Slice.Eq.{bytes_eq-Decides}
use Rattle.dd_cache.specs.Keys.{Key, same_key, same_versions}

both : (a b : Bool) → a && b ≡ true → (a ≡ true) × (b ≡ true)
both true b h = (refl, h)
both false b h = cc

number : (m n : ℕ) → (m == n) ≡ true → m ≡ n
number m n h = search rules

versions : (vs ws : List (ℕ × ℕ)) → same_versions vs ws ≡ true → vs ≡ ws
versions [] [] h = refl
versions [] (w ∷ ws) h = cc
versions (v ∷ vs) [] h = cc
versions (v ∷ vs) (w ∷ ws) h =
    let split = both ((v.0 == w.0) && (v.1 == w.1)) (same_versions vs ws) h in
    let pair = both (v.0 == w.0) (v.1 == w.1) split.0 in
    let first = number v.0 w.0 pair.0 in
    let second = number v.1 w.1 pair.1 in
    let rest = versions vs ws split.1 in
    λ i. (first i, second i) ∷ rest i

pub one_key : (k s : Key) → same_key k s ≡ true → k ≡ s
one_key k s h =
    let a = both (k.peer == s.peer) (bytes_eq k.left s.left && (bytes_eq k.right s.right && same_versions k.versions s.versions)) h in
    let b = both (bytes_eq k.left s.left) (bytes_eq k.right s.right && same_versions k.versions s.versions) a.1 in
    let c = both (bytes_eq k.right s.right) (same_versions k.versions s.versions) b.1 in
    let peer = number k.peer s.peer a.0 in
    let left = (bytes_eq-Decides k.left s.left).0 b.0 in
    let right = (bytes_eq-Decides k.right s.right).0 c.0 in
    let vs = versions k.versions s.versions c.1 in
    λ i. record { peer = peer i; left = left i; right = right i; versions = vs i }
