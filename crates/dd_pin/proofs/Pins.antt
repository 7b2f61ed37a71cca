-- Pins, what they name, and how a history goes on.
use Rattle.std.proofs.Common.{inl, inr, ◌≡◌, ℕ, zero, suc, ◌+◌, ◌<◌, ◌≤◌, List, [], ◌∷◌, ◌++◌, ◌&&◌, length, get_or, Bool, true, false, cond, nat_eq, nat_le, nat_lt, All, refl, ap, sym, ◌∙◌, subst, arith}
use Rattle.std.proofs.lemmas.List.{map-append, length-append, get_or_append_left, get_or_default}
use Rattle.std.proofs.lemmas.List.Elements.{filter-append, All-nil, All-cons, All-head, All-tail, All-append}
use Rattle.std.proofs.lemmas.List.FromFn.{length-map-range_with_len, get_or-map-range_with_len, map-range_with_len_more}
use Rattle.std.proofs.lemmas.Option.{slice_get_within, slice_get-get_or, get_or_from_slice_get}
use Rattle.std.proofs.lemmas.Bool.{cases_lt, lt-leb, eq-eqb, eqb-true, and_from, and_parts, leb-true, le-leb, lt-ltb, ltb-true, le-ltb}
use Rattle.std.specs.Prelude.{map, filter}
use Rattle.std.specs.List.{list_all, range_with_len}
use Rattle.dd_peer.specs.declared.version.PeerVersion.{PeerVersion}
use Rattle.dd_peer.specs.declared.version.Pinned.{Pinned}
use Rattle.dd_peer.specs.Refusals.{IsAccepted}
use Rattle.dd_peer.specs.Relevant.{AreDeclared}
use Rattle.dd_peer.specs.Versions.{empty_version}
use Rattle.dd_pin.specs.declared.registry.Accepted.{Accepted}
use Rattle.dd_pin.specs.History.{versions_of, last_version, version_at, pin_of, number_for, is_pin, pinned_by, IsHistory, AreAccepted}
use Rattle.dd_pin.specs.Puts.{FitsHistory, are_places, at_places}
use Rattle.dd_pin.specs.Laws.{PinsStay}
use Rattle.dd_pin.proofs.Counted.{all_at, all_from, all_more, all_same, all_stops, map_same}
use Rattle.dd_pin.proofs.Rows.{last_version-le}

-- ---- a history that goes on

pub versions_of-append : (peer : ℕ) (h later : List Accepted) → versions_of peer (h ++ later) ≡ versions_of peer h ++ versions_of peer later
versions_of-append peer h later =
    ap (map (λ (a : Accepted). a.version)) (filter-append (λ (a : Accepted). nat_eq a.peer peer) h later)
    ∙ map-append (λ (a : Accepted). a.version) (filter (λ (a : Accepted). nat_eq a.peer peer) h) (filter (λ (a : Accepted). nat_eq a.peer peer) later)

last_version-stays : (peer n : ℕ) (h later : List Accepted) → n ≤ last_version peer h → n ≤ last_version peer (h ++ later)
last_version-stays peer n h later le =
    let e : last_version peer (h ++ later) ≡ last_version peer h + last_version peer later =
    ap length (versions_of-append peer h later) ∙ length-append (versions_of peer h) (versions_of peer later) in
    omega (arith, le, e)

version_at-stays : (peer n : ℕ) (h later : List Accepted) → n ≤ last_version peer h → version_at peer (h ++ later) n ≡ version_at peer h n
version_at-stays peer n h later le =
    ap (λ vs. get_or (empty_version ∷ vs) n empty_version) (versions_of-append peer h later)
    ∙ get_or_append_left (empty_version ∷ versions_of peer h) (versions_of peer later) empty_version n (let lt : n < suc (last_version peer h) = omega (arith, le) in lt)

abbrev pub is_number : List ℕ → List Accepted → ℕ → Bool
is_number pin h peer = nat_le (number_for peer pin) (last_version peer h)

pub pin_parts : (n : ℕ) (pin : List ℕ) (h : List Accepted) → is_pin n pin h ≡ true
    → (length pin ≡ n) × (list_all (is_number pin h) (range_with_len 0 n) ≡ true)
pin_parts n pin h e =
    let parts = and_parts (nat_eq (length pin) n) (list_all (is_number pin h) (range_with_len 0 n)) e in
    (eqb-true (length pin) n parts.0, parts.1)

pub pin_from : (n : ℕ) (pin : List ℕ) (h : List Accepted) → length pin ≡ n → ((k : ℕ) → k < n → number_for k pin ≤ last_version k h)
    → is_pin n pin h ≡ true
pin_from n pin h size all =
    and_from (nat_eq (length pin) n) (list_all (is_number pin h) (range_with_len 0 n)) (eq-eqb (length pin) n size)
    (all_from (is_number pin h) n (λ k lt. le-leb (number_for k pin) (last_version k h) (all k lt)))

pub number_within : (n : ℕ) (pin : List ℕ) (h : List Accepted) (k : ℕ) → is_pin n pin h ≡ true → k < n → number_for k pin ≤ last_version k h
number_within n pin h k e lt = leb-true (number_for k pin) (last_version k h) (all_at (is_number pin h) n k (pin_parts n pin h e).1 lt)

pub stays : PinsStay
stays n pin h later e =
    let size = (pin_parts n pin h e).0 in (
      pin_from n pin (h ++ later) size (λ k lt. last_version-stays k (number_for k pin) h later (number_within n pin h k e lt)),
      ap (λ vs. record { peers = vs })
          (map_same (λ k. version_at k (h ++ later) (number_for k pin)) (λ k. version_at k h (number_for k pin)) (length pin)
          (λ k lt. version_at-stays k (number_for k pin) h later (number_within n pin h k e (subst (λ m. k < m) size lt)))),
    )

-- the last numbers are a pin
pub pin_of-is_pin : (n : ℕ) (h : List Accepted) → is_pin n (pin_of n h) h ≡ true
pin_of-is_pin n h =
    pin_from n (pin_of n h) h (length-map-range_with_len (λ peer. last_version peer h) 0 n)
    (λ k lt. omega (arith, get_or-map-range_with_len (λ peer. last_version peer h) 0 n k k 0 lt (omega arith)))

-- ---- the versions of a history are accepted

empty-accepted : (n peer : ℕ) → IsAccepted empty_version n peer
empty-accepted n peer = record {
  others = All-nil _;
  declared = All-nil _;
  axioms = omega arith;
  into = λ from. omega arith;
  onto = λ from. omega arith;
}

versions-accepted : (n peer : ℕ) (h : List Accepted) → All (λ a. IsAccepted a.version n a.peer) h → All (λ v. IsAccepted v n peer) (versions_of peer h)
versions-accepted n peer [] all = All-nil (λ v. IsAccepted v n peer)
versions-accepted n peer (a ∷ h) all =
    by_test (nat_eq a.peer peer) refl (versions-accepted n peer h (All-tail (λ b. IsAccepted b.version n b.peer) a h all))
  where
    by_test : (b : Bool) → nat_eq a.peer peer ≡ b → All (λ v. IsAccepted v n peer) (versions_of peer h)
        → All (λ v. IsAccepted v n peer) (map (λ (c : Accepted). c.version) (cond b (a ∷ filter (λ (c : Accepted). nat_eq c.peer peer) h) (filter (λ (c : Accepted). nat_eq c.peer peer) h)))
    by_test true e rest =
        All-cons (λ v. IsAccepted v n peer) a.version (versions_of peer h)
        (subst (IsAccepted a.version n) (eqb-true a.peer peer e) (All-head (λ b. IsAccepted b.version n b.peer) a h all)) rest
    by_test false e rest = rest

get_or-accepted : (n peer : ℕ) (vs : List PeerVersion) (k : ℕ) → All (λ v. IsAccepted v n peer) vs → IsAccepted (get_or vs k empty_version) n peer
get_or-accepted n peer [] k all = empty-accepted n peer
get_or-accepted n peer (v ∷ vs) zero all = All-head (λ w. IsAccepted w n peer) v vs all
get_or-accepted n peer (v ∷ vs) (suc k) all = get_or-accepted n peer vs k (All-tail (λ w. IsAccepted w n peer) v vs all)

pub version_at-accepted : (n peer k : ℕ) (h : List Accepted) → IsHistory n h → IsAccepted (version_at peer h k) n peer
version_at-accepted n peer k h is =
    get_or-accepted n peer (empty_version ∷ versions_of peer h) k
    (All-cons (λ v. IsAccepted v n peer) empty_version (versions_of peer h) (empty-accepted n peer) (versions-accepted n peer h is.accepted))

pub pinned-accepted : (n : ℕ) (pin : List ℕ) (h : List Accepted) → IsHistory n h → is_pin n pin h ≡ true → AreAccepted (pinned_by pin h)
pinned-accepted n pin h is e = λ k v at.
    let size = (pin_parts n pin h e).0 in
    let named = λ (peer : ℕ). version_at peer h (number_for peer pin) in
    let many = length-map-range_with_len named 0 (length pin) in
    let within : k < length pin = omega (arith, slice_get_within (map named (range_with_len 0 (length pin))) k v at, many) in
    let v_is : v ≡ named k =
    sym (get_or_from_slice_get (map named (range_with_len 0 (length pin))) k v v at) ∙ get_or-map-range_with_len named 0 (length pin) k k v within (omega arith) in
    subst (λ w. IsAccepted w (length (map named (range_with_len 0 (length pin)))) k) (sym v_is)
    (subst (λ m. IsAccepted (named k) m k) (sym (many ∙ size)) (version_at-accepted n k (number_for k pin) h is))

pub pinned-size : (n : ℕ) (pin : List ℕ) (h : List Accepted) → is_pin n pin h ≡ true → length (pinned_by pin h).peers ≡ n
pinned-size n pin h e = length-map-range_with_len (λ peer. version_at peer h (number_for peer pin)) 0 (length pin) ∙ (pin_parts n pin h e).0

-- one more accepted put
pub history_step : (n : ℕ) (h : List Accepted) (a : Accepted) → IsHistory n h → a.peer < n → IsAccepted a.version n a.peer → length h < 4096
    → IsHistory n (h ++ a ∷ [])
history_step n h a is lt accepted room = record {
  least = is.least;
  most = is.most;
  declared = All-append (λ b. b.peer < n) h (a ∷ []) is.declared (All-cons (λ b. b.peer < n) a [] lt (All-nil (λ b. b.peer < n)));
  accepted = All-append (λ b. IsAccepted b.version n b.peer) h (a ∷ []) is.accepted
      (All-cons (λ b. IsAccepted b.version n b.peer) a [] accepted (All-nil (λ b. IsAccepted b.version n b.peer)));
  puts = omega (arith, length-append h (a ∷ []), room);
}

-- ---- pins by the rows

lt_suc : (m n : ℕ) → nat_lt m (suc n) ≡ nat_le m n
lt_suc m n = elim (cases_lt n m) [
  | inl gt ↦ le-ltb m (suc n) (omega (arith, gt)) ∙ sym (lt-leb m n gt)
  | inr le ↦ lt-ltb m (suc n) (omega (arith, le)) ∙ sym (le-leb m n le)
]

pub pin_by_rows : (n : ℕ) (pin : List ℕ) (h : List Accepted) (rows : List (List PeerVersion)) → FitsHistory n h rows → length pin ≡ n
    → are_places pin rows ≡ is_pin n pin h
pin_by_rows n pin h rows fits size =
    all_same (λ k. nat_lt (get_or pin k 0) (length (get_or rows k []))) (is_number pin h) (length rows)
    (λ k lt. ap (λ (row : List PeerVersion). nat_lt (get_or pin k 0) (length row)) (fits.row k (subst (λ m. k < m) fits.size lt))
    ∙ lt_suc (get_or pin k 0) (last_version k h))
    ∙ ap (λ m. list_all (is_number pin h) (range_with_len 0 m)) fits.size
    ∙ sym (ap (λ b. b && list_all (is_number pin h) (range_with_len 0 n)) (eq-eqb (length pin) n size))

pub pinned_by_rows : (n : ℕ) (pin : List ℕ) (h : List Accepted) (rows : List (List PeerVersion)) → FitsHistory n h rows → length pin ≡ n
    → at_places pin rows ≡ (pinned_by pin h).peers
pinned_by_rows n pin h rows fits size =
    map_same (λ k. get_or (get_or rows k []) (get_or pin k 0) empty_version) (λ k. version_at k h (number_for k pin)) (length pin)
    (λ k lt. ap (λ row. get_or row (get_or pin k 0) empty_version) (fits.row k (subst (λ m. k < m) size lt)))

pub row-numbers : (n : ℕ) (h : List Accepted) (rows : List (List PeerVersion)) → IsHistory n h → FitsHistory n h rows
    → All (λ row. (1 ≤ length row) × (length row ≤ 4097)) rows
row-numbers n h rows is fits = λ k d lt.
    let within : k < n = subst (λ m. k < m) fits.size lt in
    let e : length (get_or rows k d) ≡ suc (last_version k h) =
    ap length (get_or_default rows k d [] lt ∙ fits.row k within) in
    (omega (arith, e), omega (arith, e, last_version-le k h, is.puts))

-- ---- the loops over rows

pub places-stop : (numbers : List ℕ) (rows : List (List PeerVersion)) (k : ℕ) → k < length rows
    → length (get_or rows k []) ≤ get_or numbers k 0 → false ≡ are_places numbers rows
places-stop numbers rows k lt le =
    sym (all_stops (λ j. nat_lt (get_or numbers j 0) (length (get_or rows j []))) (length rows) k lt
    (le-ltb (get_or numbers k 0) (length (get_or rows k [])) le))

pub places-next : (numbers : List ℕ) (rows : List (List PeerVersion)) (k : ℕ)
    → list_all (λ j. nat_lt (get_or numbers j 0) (length (get_or rows j []))) (range_with_len 0 k) ≡ true
    → get_or numbers k 0 < length (get_or rows k [])
    → list_all (λ j. nat_lt (get_or numbers j 0) (length (get_or rows j []))) (range_with_len 0 (k + 1)) ≡ true
places-next numbers rows k all lt =
    all_more (λ j. nat_lt (get_or numbers j 0) (length (get_or rows j []))) k all (lt-ltb (get_or numbers k 0) (length (get_or rows k [])) lt)

pub place-within : (numbers : List ℕ) (rows : List (List PeerVersion)) (k : ℕ) → are_places numbers rows ≡ true → k < length rows
    → get_or numbers k 0 < length (get_or rows k [])
place-within numbers rows k all lt =
    ltb-true (get_or numbers k 0) (length (get_or rows k [])) (all_at (λ j. nat_lt (get_or numbers j 0) (length (get_or rows j []))) (length rows) k all lt)

pub places-pushed : (numbers : List ℕ) (rows : List (List PeerVersion)) (k : ℕ) (vs more : List PeerVersion) (v : PeerVersion)
    → vs ≡ map (λ j. get_or (get_or rows j []) (get_or numbers j 0) empty_version) (range_with_len 0 k)
    → more ≡ vs ++ v ∷ [] → v ≡ get_or (get_or rows k []) (get_or numbers k 0) empty_version
    → more ≡ map (λ j. get_or (get_or rows j []) (get_or numbers j 0) empty_version) (range_with_len 0 (k + 1))
places-pushed numbers rows k vs more v before pushed is =
    pushed ∙ ap (λ s. s ++ v ∷ []) before
    ∙ ap (λ w. map (λ j. get_or (get_or rows j []) (get_or numbers j 0) empty_version) (range_with_len 0 k) ++ w ∷ []) is
    ∙ sym (map-range_with_len_more (λ j. get_or (get_or rows j []) (get_or numbers j 0) empty_version) 0 k k (omega arith))

-- the rules of accepted versions come from declared peers
pub accepted-declared : (p : Pinned) → AreAccepted p → AreDeclared p
accepted-declared p all = λ k d lt. (all k (get_or p.peers k d) (slice_get-get_or p.peers k d lt)).declared
