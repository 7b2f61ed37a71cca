-- The placed parts and the links between them are the union.
use Rattle.std.proofs.Common.{◌≡◌, ◌∙◌, ◌<◌, ◌+◌, ◌&&◌, ◌==◌, ℕ, zero, suc, Bool, true, false, cond, List, [], ◌∷◌, length, bytes_eq, Option, None, Some, ap, ap₂, refl, subst, sym, arith}
use Rattle.std.specs.List.{slice_get, flat_map, range_with_len}
use Rattle.std.specs.Option.{option_map_or, option_and_then}
use Rattle.std.proofs.lemmas.Bool.{eq-eqb, eqb-true, and_from}
use Rattle.std.proofs.lemmas.Option.{same_Some, slice_get_within, get_or_from_slice_get, slice_get-get_or}
use Rattle.std.proofs.lemmas.Slice.Eq.{bytes_eq-Decides}
use Rattle.dd_concept.specs.declared.concept.Concept.{Concept}
use Rattle.dd_interp.specs.declared.interp.Interp.{Interp}
use Rattle.dd_interp.specs.Meaning.{meaning}
use Rattle.dd_peer.specs.declared.version.Pinned.{Pinned}
use Rattle.dd_task.specs.declared.job.Key.{Key}
use Rattle.dd_task.specs.declared.job.Key.TheVariants.{Root, Asked}
use Rattle.dd_task.specs.Demands.{false_into}
use Rattle.dd_task.specs.Goals.{peer_of}
use Rattle.dd_task.specs.Targets.{in_onto}
use Rattle.dd_task.proofs.Places.{among-at, at-among, at-flat_map, flat_map-at}
use Rattle.dd_board.specs.View.{Task, SessionView}
use Rattle.dd_union.specs.declared.place.Place.{Place}
use Rattle.dd_union.specs.declared.rows.Rows.{Rows}
use Rattle.dd_union.specs.Union.{IsPart, IsJoint, IsUnionOf}
use Rattle.dd_union.specs.Pieces.{Link, IsPlacedIn, ArePlaced, placed_at, start_at, opening_at, raised_at, rows_of, raises_by, joined, joined_by, key_joined, joined_with, joined_from, joined_part, joined_opening, joined_at, all_joined}
use Rattle.dd_union.proofs.Gathered.{there-at}
use Rattle.dd_union.proofs.Raises.{at-first_range, raises-is}
use Rattle.dd_union.proofs.Reading.{part-opens, part-raised, same-part}

-- ---- lists

range-below : (a n k x : ℕ) → slice_get (range_with_len a n) k ≡ Some x → x < a + n
range-below a zero k x e = cc
range-below a (suc n) zero x e = let is : a ≡ x = same_Some a x e in omega (arith, is)
range-below a (suc n) (suc k) x e = let h = range-below (a + 1) n k x e in omega (arith, h)

module _ {A B : Type 0} (f : A → List B) where
  from-option : (o : Option A) (j : ℕ) (y : B) → slice_get (option_map_or f o []) j ≡ Some y → (a : A) × (o ≡ Some a) × (slice_get (f a) j ≡ Some y)
  from-option None j y e = cc
  from-option (Some a) j y e = (a, refl, e)

both : (a b : Bool) → (a && b) ≡ true → (a ≡ true) × (b ≡ true)
both true b e = (refl, e)
both false b e = cc

one-if : {A : Type 0} (b : Bool) (x y : A) (j : ℕ) → slice_get (cond b (x ∷ []) []) j ≡ Some y → (b ≡ true) × (x ≡ y)
one-if true x y zero e = (refl, same_Some x y e)
one-if true x y (suc j) e = cc
one-if false x y j e = cc

some-if : {A : Type 0} (b : Bool) (xs : List A) (j : ℕ) (y : A) → slice_get (cond b xs []) j ≡ Some y → (b ≡ true) × (slice_get xs j ≡ Some y)
some-if true xs j y e = (refl, e)
some-if false xs j y e = cc

pub placed-inverse : (places : List (Option Place)) (t : ℕ) (q : Place) → placed_at places t ≡ Some q → slice_get places t ≡ Some (Some q)
placed-inverse places t q e = by (slice_get places t) e
  where
    by : (o : Option (Option Place)) → option_and_then (λ (x : Option Place). x) o ≡ Some q → o ≡ Some (Some q)
    by None h = cc
    by (Some x) h = ap Some h

module _ (v : SessionView) (places : List (Option Place)) (locals : List Interp) (all : ArePlaced v places locals)
    (count : length places ≡ length v.tasks) where
  abbrev p : Pinned
  p = v.job.pinned

  abbrev start : ℕ → ℕ
  start = start_at places

  placed-is : (t : ℕ) (q : Place) → slice_get places t ≡ Some (Some q) → placed_at places t ≡ Some q
  placed-is t q at = ap (option_and_then (λ (o : Option Place). o)) at

  start-is : (t : ℕ) (q : Place) → slice_get places t ≡ Some (Some q) → start t ≡ q.start
  start-is t q at = ap (λ o. option_map_or (λ (k : Place). k.start) o 0) (placed-is t q at)

  -- a part has a place
  place-of : (t i : ℕ) (m : Interp) (x : ℕ) → IsPart v t i m x → (q : Place) × (slice_get places t ≡ Some (Some q))
  place-of t i m x part =
      let within = slice_get_within v.tasks t part.task part.at in
      let o = there-at places t (omega (arith, count, within)) in
      by o.0 o.1
    where
      by : (o : Option Place) → slice_get places t ≡ Some o → (q : Place) × (slice_get places t ≡ Some (Some q))
      by None at = absurd (all.missing t at i m x part)
      by (Some q) at = (q, at)

  abbrev Stands : ℕ → Interp → Interp → Type 0
  Stands first local m = (y : ℕ) → y < m.size → (first + y < local.size) × ((c : Concept) → meaning local c (first + y) ≡ meaning m c y)

  stands : (t i : ℕ) (m : Interp) (x : ℕ) (local : Interp) → IsPart v t i m x → slice_get locals i ≡ Some local → Stands (start t) local m
  stands t i m x local part at =
      let q = place-of t i m x part in
      let placed = all.placed t q.0 q.1 in
      let same = same-part v t q.0.peer placed.m placed.x placed.part i m x part in
      let one : placed.local ≡ local = same_Some placed.local local (sym placed.at ∙ ap (slice_get locals) same.0 ∙ at) in
      subst (λ n. Stands n local m) (sym (start-is t q.0 q.1))
      (subst (λ (l : Interp). Stands q.0.start l m) one (subst (λ (n : Interp). Stands q.0.start placed.local n) same.1 placed.stands))

  covers : (i : ℕ) (local : Interp) (b : ℕ) → slice_get locals i ≡ Some local → b < local.size
      → (t : ℕ) × (m : Interp) × (x : ℕ) × (y : ℕ) × IsPart v t i m x × (y < m.size) × (b ≡ start t + y)
  covers i local b at lt =
      let c = all.covers i local b at lt in
      (c.t, c.m, c.x, c.y, c.part, c.element, c.is ∙ ap (λ n. n + c.y) (sym (start-is c.t c.place c.at)))

  -- a part of one peer is one of an equal peer
  abbrev moved : (u a b : ℕ) (m : Interp) (x : ℕ) → IsPart v u a m x → a ≡ b → IsPart v u b m x
  moved u a b m x part e = record {
    wanted = part.wanted;
    task = part.task;
    at = part.at;
    peer = part.peer ∙ e;
    event = part.event;
    raised = part.raised;
    seen = part.seen;
    is_open = part.is_open;
    posted = part.posted;
    number = part.number;
    opened = part.opened;
  }

  -- ---- a link is a joint

  module _ (t : ℕ) (to : Place) (at_t : slice_get places t ≡ Some (Some to)) (h : ℕ) (declared : h < length p.peers) (u : ℕ) (from : Place)
      (at_u : slice_get places u ≡ Some (Some from)) (link : Link) where
    abbrev target : IsPlacedIn v locals t to
    target = all.placed t to at_t

    abbrev source : IsPlacedIn v locals u from
    source = all.placed u from at_u

    module _ (among : raised_at v t ≡ target.part.raised) (n : ℕ) (raised : slice_get (raised_at v t) n ≡ Some u) where
      joint-by : (j : ℕ) (key : Key) → source.part.task.key ≡ key
          → slice_get (joined_by (rows_of p to.peer target.m h) h from to key) j ≡ Some link → IsJoint v start link
      joint-by j Root is e = cc
      joint-by j (Asked g i o set) is e =
          let inner = some-if ((from.peer == h) && (i == to.peer)) (flat_map (joined (rows_of p to.peer target.m h) from to o set) (range_with_len 0 to.size)) j link e in
          let from_h : from.peer ≡ h = eqb-true from.peer h ((both (from.peer == h) (i == to.peer) inner.0).0) in
          let to_i : i ≡ to.peer = eqb-true i to.peer ((both (from.peer == h) (i == to.peer) inner.0).1) in
          let one = flat_map-at ℕ Link (joined (rows_of p to.peer target.m h) from to o set) (range_with_len 0 to.size) j link inner.1 in
          let y : ℕ = one.1 in
          let size = target.size in
          let below = range-below 0 to.size one.0 y one.3 in
          let within : y < target.m.size = omega (arith, below, size) in
          let hit = one-if (raises_by (rows_of p to.peer target.m h) o set y) (from.peer, to.peer, from.element, to.start + y) link one.2 one.4 in
          let raises = sym (raises-is p to.peer target.m h y within o set) ∙ hit.0 in
          let in_target : in_onto p h to.peer target.m y o ≡ true =
          (both (in_onto p h to.peer target.m y o) (bytes_eq (false_into p h to.peer target.m y) set) raises).0 in
          let lacks : false_into p h to.peer target.m y ≡ set =
          (bytes_eq-Decides (false_into p h to.peer target.m y) set).0
          ((both (in_onto p h to.peer target.m y o) (bytes_eq (false_into p h to.peer target.m y) set) raises).1) in
          let of_h : g ≡ h = ap (peer_of v.job) (sym is) ∙ source.part.peer ∙ from_h in
          let key : source.part.task.key ≡ Asked h to.peer o (false_into p h to.peer target.m y) =
          is ∙ ap₂ (λ a b. Asked a b o set) of_h to_i ∙ ap (Asked h to.peer o) (sym lacks) in
          subst (IsJoint v start) hit.1 (subst (λ a. IsJoint v start (a, to.peer, from.element, to.start + y)) (sym from_h) (record {
            t = t;
            m = target.m;
            x = target.x;
            part = target.part;
            y = y;
            element = within;
            onto = o;
            key = source.part.task.key;
            raised = record { declared = declared; in_target = in_target; asked = key };
            u = u;
            among = at-among target.part.raised n u (ap (λ l. slice_get l n) (sym among) ∙ raised);
            n = source.m;
            z = source.x;
            other = moved u from.peer h source.m source.x source.part from_h;
            asked = refl;
            from = source.element ∙ ap (λ k. k + source.x) (sym (start-is u from at_u));
            to = ap (λ k. k + y) (sym (start-is t to at_t));
          }))

  link-joint : (link : Link) (q : ℕ) → slice_get (all_joined v places) q ≡ Some link → IsJoint v start link
  link-joint link q e =
      let a = flat_map-at ℕ Link (joined_at v places) (range_with_len 0 (length v.tasks)) q link e in
      let t : ℕ = a.1 in
      let b = from-option (joined_opening v places t) (placed_at places t) a.2 link a.4 in
      let to : Place = b.0 in
      let at_t = placed-inverse places t to b.1 in
      let target = all.placed t to at_t in
      let c = from-option (λ (o : Interp × ℕ). joined_part v places to o.0 (raised_at v t)) (opening_at v t) a.2 link b.2 in
      let same : c.0 ≡ (target.m, target.x) = same_Some c.0 (target.m, target.x) (sym c.1 ∙ part-opens v t to.peer target.m target.x target.part) in
      let inner : slice_get (joined_part v places to target.m (raised_at v t)) a.2 ≡ Some link =
      subst (λ (o : Interp × ℕ). slice_get (joined_part v places to o.0 (raised_at v t)) a.2 ≡ Some link) same c.2 in
      let d = flat_map-at ℕ Link (joined_from v places to target.m (raised_at v t)) (range_with_len 0 (length p.peers)) a.2 link inner in
      let h : ℕ = d.1 in
      let below = range-below 0 (length p.peers) d.0 h d.3 in
      let f = flat_map-at ℕ Link (joined_with v places (rows_of p to.peer target.m h) h to) (raised_at v t) d.2 link d.4 in
      let u : ℕ = f.1 in
      let g = from-option (key_joined v (rows_of p to.peer target.m h) h to u) (placed_at places u) f.2 link f.4 in
      let from : Place = g.0 in
      let at_u = placed-inverse places u from g.1 in
      let source = all.placed u from at_u in
      let k = from-option (λ (task : Task). joined_by (rows_of p to.peer target.m h) h from to task.key) (slice_get v.tasks u) f.2 link g.2 in
      let task : k.0 ≡ source.part.task = same_Some k.0 source.part.task (sym k.1 ∙ source.part.at) in
      joint-by t to at_t h (omega (arith, below)) u from at_u link (part-raised v t to.peer target.m target.x target.part) f.0 f.3 f.2
      source.part.task.key refl
      (subst (λ (x : Task). slice_get (joined_by (rows_of p to.peer target.m h) h from to x.key) f.2 ≡ Some link) task k.2)

  -- ---- a joint is a link

  joint-link : (link : Link) → IsJoint v start link → (q : ℕ) × (slice_get (all_joined v places) q ≡ Some link)
  joint-link link j =
      let to = place-of j.t link.1 j.m j.x j.part in
      let target = all.placed j.t to.0 to.1 in
      let same_t = same-part v j.t to.0.peer target.m target.x target.part link.1 j.m j.x j.part in
      let from = place-of j.u link.0 j.n j.z j.other in
      let source = all.placed j.u from.0 from.1 in
      let same_u = same-part v j.u from.0.peer source.m source.x source.part link.0 j.n j.z j.other in
      let set : List ℕ = false_into p link.0 link.1 j.m j.y in
      let rows : Rows = rows_of p to.0.peer j.m link.0 in
      let size = target.size in
      let sizes : target.m.size ≡ j.m.size = ap (λ (i : Interp). i.size) same_t.1 in
      let element = j.element in
      let raises : raises_by rows j.onto set j.y ≡ true =
      ap (λ i. raises_by (rows_of p i j.m link.0) j.onto set j.y) same_t.0
      ∙ raises-is p link.1 j.m link.0 j.y j.element j.onto set
      ∙ and_from (in_onto p link.0 link.1 j.m j.y j.onto) (bytes_eq set set) j.raised.in_target ((bytes_eq-Decides set set).1 refl) in
      let ends : (from.0.peer, to.0.peer, from.0.element, to.0.start + j.y) ≡ link =
      same-link from.0.peer to.0.peer from.0.element (to.0.start + j.y) link same_u.0 same_t.0
      (source.element ∙ ap₂ (λ a b. a + b) (sym (start-is j.u from.0 from.1)) same_u.2 ∙ sym j.from)
      (ap (λ a. a + j.y) (sym (start-is j.t to.0 to.1)) ∙ sym j.to) in
      let here : slice_get (joined rows from.0 to.0 j.onto set j.y) 0 ≡ Some link =
      ap (λ b. slice_get (cond b ((from.0.peer, to.0.peer, from.0.element, to.0.start + j.y) ∷ []) []) 0) raises ∙ ap Some ends in
      let a = at-flat_map ℕ Link (joined rows from.0 to.0 j.onto set) (range_with_len 0 to.0.size) j.y 0 j.y link
      (at-first_range to.0.size j.y (omega (arith, element, size, sizes))) here in
      let key : j.other.task.key ≡ Asked link.0 link.1 j.onto set = j.asked ∙ j.raised.asked in
      let sides : ((from.0.peer == link.0) && (link.1 == to.0.peer)) ≡ true =
      and_from (from.0.peer == link.0) (link.1 == to.0.peer) (eq-eqb from.0.peer link.0 same_u.0) (eq-eqb link.1 to.0.peer (sym same_t.0)) in
      let b : slice_get (joined_by rows link.0 from.0 to.0 j.other.task.key) a.0 ≡ Some link =
      ap (λ k. slice_get (joined_by rows link.0 from.0 to.0 k) a.0) key
      ∙ ap (λ c. slice_get (cond c (flat_map (joined rows from.0 to.0 j.onto set) (range_with_len 0 to.0.size)) []) a.0) sides ∙ a.1 in
      let c : slice_get (key_joined v rows link.0 to.0 j.u from.0) a.0 ≡ Some link =
      ap (λ o. slice_get (option_map_or (λ (task : Task). joined_by rows link.0 from.0 to.0 task.key) o []) a.0) j.other.at ∙ b in
      let d : slice_get (joined_with v places rows link.0 to.0 j.u) a.0 ≡ Some link =
      ap (λ o. slice_get (option_map_or (key_joined v rows link.0 to.0 j.u) o []) a.0) (placed-is j.u from.0 from.1) ∙ c in
      let n = among-at j.part.raised j.u j.among in
      let e = at-flat_map ℕ Link (joined_with v places rows link.0 to.0) (raised_at v j.t) n.0 a.0 j.u link
      (ap (λ l. slice_get l n.0) (part-raised v j.t link.1 j.m j.x j.part) ∙ n.1) d in
      let f = at-flat_map ℕ Link (joined_from v places to.0 j.m (raised_at v j.t)) (range_with_len 0 (length p.peers)) link.0 e.0 link.0 link
      (at-first_range (length p.peers) link.0 j.raised.declared) e.1 in
      let g : slice_get (joined_opening v places j.t to.0) f.0 ≡ Some link =
      ap (λ o. slice_get (option_map_or (λ (o : Interp × ℕ). joined_part v places to.0 o.0 (raised_at v j.t)) o []) f.0) (part-opens v j.t link.1 j.m j.x j.part) ∙ f.1 in
      let k : slice_get (joined_at v places j.t) f.0 ≡ Some link =
      ap (λ o. slice_get (option_map_or (joined_opening v places j.t) o []) f.0) (placed-is j.t to.0 to.1) ∙ g in
      at-flat_map ℕ Link (joined_at v places) (range_with_len 0 (length v.tasks)) j.t f.0 j.t link
      (at-first_range (length v.tasks) j.t (slice_get_within v.tasks j.t j.part.task j.part.at)) k
    where
      same-link : (a b c d : ℕ) (l : Link) → a ≡ l.0 → b ≡ l.1 → c ≡ l.2 → d ≡ l.3 → (a, b, c, d) ≡ l
      same-link a b c d l e f g h =
          ap₂ (λ (x : ℕ) (y : ℕ × ℕ × ℕ). (x, y.0, y.1, y.2)) e
          (ap₂ (λ (x : ℕ) (y : ℕ × ℕ). (x, y.0, y.1)) f (ap₂ (λ (x y : ℕ). (x, y)) g h))

  pub union-of : (links : List Link) → links ≡ all_joined v places
      → IsUnionOf v start (record { locals = locals; links = links })
  union-of links is = record {
    one_each = all.one_each;
    shaped = all.shaped;
    stands = λ t i m x local part at y lt. stands t i m x local part at y lt;
    covers = covers;
    links = λ link. (
      λ c. link-joint link c.0 (ap (λ l. slice_get l c.0) (sym is) ∙ slice_get-get_or links c.0 link c.1 ∙ ap Some c.2),
      λ j. let q = joint-link link j in
          let at : slice_get links q.0 ≡ Some link = ap (λ l. slice_get l q.0) is ∙ q.1 in
          (q.0, slice_get_within links q.0 link at, get_or_from_slice_get links q.0 link link at),
    );
  }
