-- The marks of a walk from a peer to the peers that are relevant to it. Private clauses alone cite this.
use Rattle.std.specs.Prelude.{ℕ, ◌≡◌, ◌+◌, ◌⊎◌, ◌↔◌, Bool, true, false, IsTrue, List, unwrap_or, slice_get, length, sum_by, map}
use Rattle.dd_peer.specs.declared.version.Pinned.{Pinned}
use Rattle.dd_peer.specs.declared.version.Rule.{Rule}
use Rattle.dd_peer.specs.Relevant.{IsRelevant, is_in, keeps_from}

abbrev pub is_marked : List Bool → ℕ → Bool
is_marked marks i = unwrap_or (slice_get marks i) false

-- how many have no mark
abbrev pub without_mark : Bool → ℕ
without_mark true = 0
without_mark false = 1

abbrev pub unmarked : List Bool → ℕ
unmarked marks = sum_by without_mark marks

-- the peers that rules come from
abbrev pub froms_of : List Rule → List ℕ
froms_of rules = map (λ (r : Rule). r.from) rules

-- the peers of a list are marked beside those that were, and each that is newly marked is to be visited
pub record AreMarked (peers : List ℕ) (marks_old marks_new : List Bool) (todo_old todo_new : List ℕ) : Type 0 where
  pub size : length marks_new ≡ length marks_old
  pub here : (i : ℕ) → IsTrue (is_in peers i) → IsTrue (is_marked marks_new i)
  pub kept : (i : ℕ) → IsTrue (is_marked marks_old i) → IsTrue (is_marked marks_new i)
  pub only : (i : ℕ) → IsTrue (is_marked marks_new i) → IsTrue (is_in peers i) ⊎ IsTrue (is_marked marks_old i)
  pub fresh : (i : ℕ) → IsTrue (is_marked marks_new i) → IsTrue (is_marked marks_old i) ⊎ IsTrue (is_in todo_new i)
  pub stays : (i : ℕ) → IsTrue (is_in todo_old i) → IsTrue (is_in todo_new i)
  pub added : (i : ℕ) → IsTrue (is_in todo_new i) → IsTrue (is_in todo_old i) ⊎ IsTrue (is_marked marks_new i)
  pub count : unmarked marks_new + length todo_new ≡ unmarked marks_old + length todo_old

-- all peers from which rules of peer i come are marked
abbrev pub IsVisited : Pinned → List Bool → ℕ → Type 0
IsVisited p marks i = (h : ℕ) → IsTrue (keeps_from p i h) → IsTrue (is_marked marks h)

-- each marked peer is relevant, and was visited or is to be visited
pub record IsWalk (p : Pinned) (j : ℕ) (marks : List Bool) (todo : List ℕ) : Type 0 where
  pub size : length marks ≡ length p.peers
  pub first : IsTrue (is_marked marks j)
  pub sound : (i : ℕ) → IsTrue (is_marked marks i) → IsRelevant p j i
  pub todo_marked : (i : ℕ) → IsTrue (is_in todo i) → IsTrue (is_marked marks i)
  pub visited : (i : ℕ) → IsTrue (is_marked marks i) → IsTrue (is_in todo i) ⊎ IsVisited p marks i

-- exactly the relevant peers are marked
pub record MarksRelevant (p : Pinned) (j : ℕ) (marks : List Bool) : Type 0 where
  pub size : length marks ≡ length p.peers
  pub exactly : (i : ℕ) → IsTrue (is_marked marks i) ↔ IsRelevant p j i
