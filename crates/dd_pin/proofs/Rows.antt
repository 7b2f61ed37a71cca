-- The rows of versions beside the history.
use Rattle.std.proofs.Common.{inl, inr, ◌≡◌, ℕ, suc, ◌-◌, ◌<◌, ◌≤◌, List, [], ◌∷◌, ◌++◌, length, get_or, Bool, true, false, cond, nat_eq, refl, ap, sym, ◌∙◌, subst, set, arith}
use Rattle.std.proofs.lemmas.List.{append-nil, get_or-set_same, get_or-set_other, map-append, length-map, get_or-map, get_or-replicate, length-replicate, length-set, same_lists}
use Rattle.std.proofs.lemmas.List.Elements.{filter-append}
use Rattle.std.proofs.lemmas.List.Sums.{length-filter, count_by-le-length}
use Rattle.std.proofs.lemmas.List.FromFn.{length-map-range_with_len, get_or-map-range_with_len}
use Rattle.std.proofs.lemmas.Bool.{cases_eq, eq-eqb, ne_eqb}
use Rattle.std.specs.Prelude.{map, filter, replicate}
use Rattle.dd_peer.specs.declared.version.PeerVersion.{PeerVersion}
use Rattle.dd_peer.specs.Versions.{empty_version}
use Rattle.dd_pin.specs.declared.registry.Accepted.{Accepted}
use Rattle.dd_pin.specs.History.{versions_of, last_version, pin_of}
use Rattle.dd_pin.specs.Puts.{FitsHistory}

-- one more put adds a version of its peer
pub versions_of-push : (h : List Accepted) (a : Accepted) (peer : ℕ)
    → versions_of peer (h ++ a ∷ []) ≡ versions_of peer h ++ cond (nat_eq a.peer peer) (a.version ∷ []) []
versions_of-push h a peer =
    ap (map (λ (b : Accepted). b.version)) (filter-append (λ (b : Accepted). nat_eq b.peer peer) h (a ∷ []))
    ∙ map-append (λ (b : Accepted). b.version) (filter (λ (b : Accepted). nat_eq b.peer peer) h) (filter (λ (b : Accepted). nat_eq b.peer peer) (a ∷ []))
    ∙ ap (λ s. versions_of peer h ++ s) (last (nat_eq a.peer peer))
  where
    last : (b : Bool) → map (λ (c : Accepted). c.version) (cond b (a ∷ []) []) ≡ cond b (a.version ∷ []) []
    last true = refl
    last false = refl

pub versions_of-same : (h : List Accepted) (a : Accepted) → versions_of a.peer (h ++ a ∷ []) ≡ versions_of a.peer h ++ a.version ∷ []
versions_of-same h a = versions_of-push h a a.peer ∙ ap (λ b. versions_of a.peer h ++ cond b (a.version ∷ []) []) (eq-eqb a.peer a.peer refl)

pub versions_of-other : (h : List Accepted) (a : Accepted) (peer : ℕ) → (a.peer ≡ peer → ⊥) → versions_of peer (h ++ a ∷ []) ≡ versions_of peer h
versions_of-other h a peer ne =
    versions_of-push h a peer ∙ ap (λ b. versions_of peer h ++ cond b (a.version ∷ []) []) (ne_eqb a.peer peer ne) ∙ append-nil (versions_of peer h)

-- a peer has no more versions than there are puts
pub last_version-le : (peer : ℕ) (h : List Accepted) → last_version peer h ≤ length h
last_version-le peer h =
    let mapped = length-map (filter (λ (a : Accepted). nat_eq a.peer peer) h) (λ (a : Accepted). a.version) in
    let filtered = length-filter (λ (a : Accepted). nat_eq a.peer peer) h in
    let counted = count_by-le-length (λ (a : Accepted). nat_eq a.peer peer) h in
    omega (arith, mapped, filtered, counted)

-- before the first put
pub fits_start : (n : ℕ) → FitsHistory n [] (replicate n (empty_version ∷ []))
fits_start n = record {
  size = length-replicate n (empty_version ∷ []);
  row = λ peer lt. get_or-replicate n peer (empty_version ∷ []) [] lt;
}

-- after one more put of a peer
pub fits_step : (n : ℕ) (h : List Accepted) (rows : List (List PeerVersion)) (a : Accepted) → FitsHistory n h rows → a.peer < n
    → FitsHistory n (h ++ a ∷ []) (set rows a.peer (get_or rows a.peer [] ++ a.version ∷ []))
fits_step n h rows a fits lt = record {
  size = length-set rows a.peer (get_or rows a.peer [] ++ a.version ∷ []) ∙ fits.size;
  row = λ peer within. elim (cases_eq peer a.peer) [
    | inl e ↦ subst (λ b. get_or (set rows a.peer (get_or rows a.peer [] ++ a.version ∷ [])) b [] ≡ empty_version ∷ versions_of b (h ++ a ∷ [])) (sym e)
        (get_or-set_same rows a.peer (get_or rows a.peer [] ++ a.version ∷ []) [] (subst (λ k. a.peer < k) (sym fits.size) lt)
        ∙ ap (λ s. s ++ a.version ∷ []) (fits.row a.peer lt) ∙ ap (λ s. empty_version ∷ s) (sym (versions_of-same h a)))
    | inr ne ↦ get_or-set_other rows a.peer peer (get_or rows a.peer [] ++ a.version ∷ []) [] ne
        ∙ fits.row peer within ∙ ap (λ s. empty_version ∷ s) (sym (versions_of-other h a peer (λ e. ne (sym e))))
  ];
}

-- the last numbers are the pin
pub last_are_pin : (n : ℕ) (h : List Accepted) (rows : List (List PeerVersion)) → FitsHistory n h rows → map (λ row. length row - 1) rows ≡ pin_of n h
last_are_pin n h rows fits =
    same_lists (map (λ row. length row - 1) rows) (pin_of n h)
    (length-map rows (λ (row : List PeerVersion). length row - 1) ∙ fits.size ∙ sym (length-map-range_with_len (λ peer. last_version peer h) 0 n))
    (λ k d lt. let within : k < n = omega (arith, lt, length-map rows (λ (row : List PeerVersion). length row - 1), fits.size) in
    get_or-map (λ (row : List PeerVersion). length row - 1) rows k [] d (subst (λ m. k < m) (sym fits.size) within)
    ∙ ap (λ (row : List PeerVersion). length row - 1) (fits.row k within)
    ∙ (let e : suc (last_version k h) - 1 ≡ last_version k h = omega arith in e)
    ∙ sym (get_or-map-range_with_len (λ peer. last_version peer h) 0 n k k d within (omega arith)))
