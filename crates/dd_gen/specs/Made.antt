-- The requests that are made from a seed, a number of peers and a size. The peers stand in a circle, and each has rules from the one
-- before it. One of them, the head, says that A0 is under A<size> or C<size>. The rules hand this on round the circle as far as the broken
-- peer, which has no rule for C<size>.
use Rattle.std.specs.Prelude.{ℕ, ◌+◌, ◌-◌, ◌%◌, ◌/◌, ◌==◌, Bool, List, [], ◌∷◌, ◌++◌, codes, map, if◌then◌else◌}
use Rattle.std.specs.List.{range_with_len}
use Rattle.dd_gen.specs.Written.{braced, bracketed, either, implies, member, numbered, quoted}

-- the numbers of the head and of the broken peer
abbrev pub head_of : ℕ → ℕ → ℕ
head_of seed peers = seed % peers

abbrev pub broken_of : ℕ → ℕ → ℕ
broken_of seed peers = (seed / peers) % peers

-- the peer before peer i in the circle
abbrev pub before : ℕ → ℕ → ℕ
before peers i = (i + peers - 1) % peers

-- peers are named by their numbers, as p3
abbrev pub peer_name : ℕ → List ℕ
peer_name i = numbered (codes "p") i

-- concepts are named by a letter and a number
abbrev pub in_a : ℕ → List ℕ
in_a t = numbered (codes "A") t

abbrev pub in_b : ℕ → List ℕ
in_b t = numbered (codes "B") t

abbrev pub in_c : ℕ → List ℕ
in_c t = numbered (codes "C") t

-- a chain of so many axioms from 0 on: each concept of this letter is under the next
abbrev pub chain : List ℕ → ℕ → List (List ℕ)
chain letter count = map (λ t. implies (numbered letter t) (numbered letter (t + 1))) (range_with_len 0 count)

-- the last axiom of the head
abbrev pub fork : ℕ → List ℕ
fork size = implies (in_a (size - 1)) (either (in_a size) (in_c size))

-- The head's axioms lead from A0 to A<size> or C<size>, those of any other peer from B0 to B<size>. Each has as many as the size.
abbrev pub axioms_of : Bool → ℕ → List (List ℕ)
axioms_of is_head size = if is_head then chain (codes "A") (size - 1) ++ fork size ∷ [] else chain (codes "B") size

-- a rule between concepts of the same name
abbrev pub rule : ℕ → List ℕ → List ℕ
rule from concept = braced (member (codes "from") (quoted (peer_name from)) ∷ member (codes "source") (quoted concept) ∷ member (codes "target") (quoted concept) ∷ [])

-- the into rules take A<size> and C<size> from the peer before, but at the broken peer A<size> alone
abbrev pub into_of : Bool → ℕ → ℕ → List (List ℕ)
into_of is_broken size from = rule from (in_a size) ∷ (if is_broken then [] else rule from (in_c size) ∷ [])

-- the onto rule takes A0 from the peer before
abbrev pub onto_of : ℕ → List (List ℕ)
onto_of from = rule from (in_a 0) ∷ []

-- the request that declares the peers
abbrev pub peers_line : ℕ → List ℕ
peers_line peers = braced (member (codes "names") (bracketed (map (λ i. quoted (peer_name i)) (range_with_len 0 peers))) ∷ member (codes "op") (quoted (codes "peers")) ∷ [])

-- the request that puts what peer i says, with rules from a peer
abbrev pub put_text : Bool → Bool → ℕ → ℕ → ℕ → List ℕ
put_text is_head is_broken size from i = braced (
    member (codes "axioms") (bracketed (map quoted (axioms_of is_head size)))
    ∷ member (codes "into") (bracketed (into_of is_broken size from))
    ∷ member (codes "onto") (bracketed (onto_of from))
    ∷ member (codes "op") (quoted (codes "put"))
    ∷ member (codes "peer") (quoted (peer_name i))
    ∷ [])

-- each peer has rules from the one before it
abbrev pub put_line : ℕ → ℕ → ℕ → ℕ → List ℕ
put_line seed peers size i = put_text (i == head_of seed peers) (i == broken_of seed peers) size (before peers i) i

-- the request that asks at peer i whether one concept is under the other
abbrev pub ask_line : List ℕ → List ℕ → ℕ → List ℕ
ask_line left right i = braced (
    member (codes "left") (quoted left)
    ∷ member (codes "op") (quoted (codes "ask"))
    ∷ member (codes "peer") (quoted (peer_name i))
    ∷ member (codes "right") (quoted right)
    ∷ [])

-- at each peer: is A0 under A<size> or C<size>? It is from the head on, as far as the broken peer.
abbrev pub onward_line : ℕ → ℕ → List ℕ
onward_line size i = ask_line (in_a 0) (either (in_a size) (in_c size)) i

-- at each peer: is A<size> under A0? It is nowhere.
abbrev pub backward_line : ℕ → ℕ → List ℕ
backward_line size i = ask_line (in_a size) (in_a 0) i

-- All lines: the peers, then a put of each, then the asks onward of each, then those backward.
abbrev pub lines_of_make : ℕ → ℕ → ℕ → List (List ℕ)
lines_of_make seed peers size =
    peers_line peers
    ∷ (map (put_line seed peers size) (range_with_len 0 peers)
    ++ map (onward_line size) (range_with_len 0 peers)
    ++ map (backward_line size) (range_with_len 0 peers))
