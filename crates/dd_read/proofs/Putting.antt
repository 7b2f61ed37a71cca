-- What a put does to the state of a session, by what it does to the accepted puts.
use Rattle.std.proofs.Common.{◌≡◌, ◌∙◌, ◌⊎◌, ℕ, ◌+◌, ◌<◌, ◌≤◌, List, [], ◌∷◌, ◌++◌, length, All, Bool, true, false, Option, None, Some, Result, Ok, Err, IfOk, OnErr, refl, ap, sym, subst, inl, inr}
use Rattle.std.specs.Prelude.{if◌then◌else◌, nat_le, nat_lt, not, option_map, slice_get}
use Rattle.std.proofs.lemmas.Bool.{le-ltb, leb-false, leb-true, lt-ltb}
use Rattle.std.proofs.lemmas.Option.{same_Some}
use Rattle.std.specs.Option.{option_or}
use Rattle.dd_peer.specs.Versions.{IsNumbered}
use Rattle.dd_peer.specs.Refusals.{refusal_of}
use Rattle.dd_peer.specs.declared.check.PeerErr.{PeerErr}
use Rattle.dd_peer.specs.declared.version.PeerVersion.{PeerVersion}
use Rattle.dd_pin.specs.History.{Registered, last_version, most_puts}
use Rattle.dd_pin.specs.Puts.{refusal_at, with_put as with_one}
use Rattle.dd_pin.specs.declared.registry.Accepted.{Accepted}
use Rattle.dd_pin.specs.declared.registry.PutErr.{PutErr}
use Rattle.dd_pin.specs.declared.registry.PutErr.TheVariants as error
use Rattle.dd_text.specs.Symbols.{SymbolLists}
use Rattle.dd_wire.specs.Refusal.{Refusal, Tested, ◌>>=◌, demand, refused, versions_full}
use Rattle.dd_wire.specs.Requests.{IsWritten, concepts_of, declared_names}
use Rattle.dd_wire.specs.declared.reply.Reply.{Reply}
use Rattle.dd_wire.specs.declared.reply.Reply.TheVariants as reply
use Rattle.dd_wire.specs.declared.request.Request.TheVariants as request
use Rattle.dd_read.specs.Does.{DoesRequest, PutsIn}
use Rattle.dd_read.specs.Fit.{IsSound}
use Rattle.dd_read.specs.State.{State, names_of, peer_count, state_by}
use Rattle.dd_read.specs.Tests.{may_be_put, may_be_version, refused_version}
use Rattle.dd_read.specs.Told.{Refuses, RefusesPut}
use Rattle.dd_read.specs.declared.kept.Kept.{Kept}
use Rattle.dd_read.specs.declared.kept.Kept.TheVariants.{Finished}
use Rattle.dd_read.specs.declared.obeyed.Obeyed.{Obeyed}
use Rattle.dd_read.specs.declared.obeyed.Obeyed.TheVariants.{Stays, Cut}
use Rattle.dd_read.specs.declared.options.Options.{Options}
use Rattle.dd_read.proofs.Holding.{put_sound}

-- the accepted puts are of as many peers as are declared
pub counted_some : (names : Option (List (List ℕ))) (k : ℕ) → option_map length names ≡ Some k → length (declared_names names) ≡ k
counted_some None k e = absurd (cc e)
counted_some (Some ns) k e = same_Some (length ns) k e

-- ---- the tests of a put

room_left : (n : ℕ) (b : Bool) → nat_le most_puts n ≡ b → nat_lt n most_puts ≡ not b
room_left n true e = le-ltb n most_puts (leb-true most_puts n e)
room_left n false e = lt-ltb n most_puts (leb-false most_puts n e)

abbrev tests_of : Option PeerErr → Bool → Tested Bool
tests_of o b = may_be_version o >>= (λ is. demand versions_full b)

abbrev cause_of : Option PeerErr → Bool → Option PutErr
cause_of o b = option_or (option_map (λ e. error.Peer e) o) (if b then Some error.VersionsFull else None)

passes : (o : Option PeerErr) (b : Bool) → cause_of o b ≡ None → tests_of o (not b) ≡ Ok true
passes None false e = refl
passes None true e = absurd (cc e)
passes (Some x) b e = absurd (cc e)

fails : (o : Option PeerErr) (b : Bool) (e : PutErr) (id : ℕ) (given : Reply) → cause_of o b ≡ Some e → RefusesPut id e given
    → (f : Refusal) × (tests_of o (not b) ≡ Err f) × Refuses id f given
fails None false e id given is told = absurd (cc is)
fails None true e id given is told = (refused versions_full, refl, subst (λ (x : PutErr). RefusesPut id x given) (sym (same_Some error.VersionsFull e is)) told)
fails (Some x) b e id given is told = (refused_version x, refl, subst (λ (y : PutErr). RefusesPut id y given) (sym (same_Some (error.Peer x) e is)) told)

module _ (s : State) (r : Registered) (n : ℕ) (v : PeerVersion) (count : peer_count s ≡ r.peers) (history : s.history ≡ r.history) where
  tests_are : may_be_put s n v ≡ tests_of (refusal_of v r.peers n) (not (nat_le most_puts (length r.history)))
  tests_are =
      ap (λ k. tests_of (refusal_of v k n) (nat_lt (length s.history) most_puts)) count
      ∙ ap (λ (h : List Accepted). tests_of (refusal_of v r.peers n) (nat_lt (length h) most_puts)) history
      ∙ ap (tests_of (refusal_of v r.peers n)) (room_left (length r.history) (nat_le most_puts (length r.history)) refl)

  put_passes : refusal_at r n v ≡ None → may_be_put s n v ≡ Ok true
  put_passes e = tests_are ∙ passes (refusal_of v r.peers n) (nat_le most_puts (length r.history)) e

  put_fails : (e : PutErr) (id : ℕ) (given : Reply) → refusal_at r n v ≡ Some e → RefusesPut id e given → (f : Refusal) × (may_be_put s n v ≡ Err f) × Refuses id f given
  put_fails e id given is told =
      let f = fails (refusal_of v r.peers n) (nat_le most_puts (length r.history)) e id given is told in
      (f.0, tests_are ∙ f.1, f.2)

-- ---- what a put does

abbrev with_history : State → List Accepted → State
with_history s h = record { peers = s.peers; symbols = s.symbols; history = h }

module _ (options : Options) (s : State) (old new : Registered) (id : ℕ) (name : List ℕ) (n : ℕ) (v : PeerVersion) (count : peer_count s ≡ old.peers) (history : s.history ≡ old.history)
    (named : slice_get (names_of s) n ≡ Some name) where
  pub put_does : (o : Obeyed) → PutsIn old id name n v new o → DoesRequest options s id (request.Put n v) (with_history s new.history) o
  put_does (Stays kept) p = (
    put_passes s old n v count history p.0,
    ap (with_history s) (ap (λ (r : Registered). r.history) p.1 ∙ ap (λ (h : List Accepted). h ++ (record { peer = n; version = v }) ∷ []) (sym history)),
    (name, named, p.2),
  )
  put_does (Cut kept) p =
      let f = put_fails s old n v count history p.1 id p.3 p.2 p.5 in
      (ap (with_history s) (ap (λ (r : Registered). r.history) p.0 ∙ sym history), (f.0, f.1, p.3, p.4, f.2))

-- ---- what is known of the puts stays known

pub put_in_is : {E : Type 0} (r : Result Obeyed E) (id : ℕ) (name : List ℕ) (n : ℕ) (v : PeerVersion) (old new : Registered)
    → IfOk r (λ o. PutsIn old id name n v new o) → OnErr r (new ≡ old) → (new ≡ old) ⊎ (new ≡ with_one old n v)
put_in_is (Ok (Stays kept)) id name n v old new p same = inr p.1
put_in_is (Ok (Cut kept)) id name n v old new p same = inl p.0
put_in_is (Err e) id name n v old new p same = inl same

pub same_peers : (n : ℕ) (v : PeerVersion) (old new : Registered) → (new ≡ old) ⊎ (new ≡ with_one old n v) → old.peers ≡ new.peers
same_peers n v old new (inl e) = sym (ap (λ (r : Registered). r.peers) e)
same_peers n v old new (inr e) = sym (ap (λ (r : Registered). r.peers) e)

pub stays_sound : (names : Option (List (List ℕ))) (symbols : SymbolLists) (n : ℕ) (v : PeerVersion) (old new : Registered) (ks : List Kept)
    → IsNumbered v → All (IsWritten symbols) (concepts_of v) → IsSound (state_by names symbols (Some old)) ks → (new ≡ old) ⊎ (new ≡ with_one old n v)
    → IsSound (state_by names symbols (Some new)) ks
stays_sound names symbols n v old new ks numbered written sound (inl e) = subst (λ (r : Registered). IsSound (state_by names symbols (Some r)) ks) (sym e) sound
stays_sound names symbols n v old new ks numbered written sound (inr e) =
    subst (λ (r : Registered). IsSound (state_by names symbols (Some r)) ks) (sym e) (put_sound (state_by names symbols (Some old)) ks n v sound numbered written)
