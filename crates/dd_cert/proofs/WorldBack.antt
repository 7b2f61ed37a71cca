-- What is printed of a world is read as this world.
use Rattle.std.proofs.Common.{◌≡◌, ℕ, ◌+◌, ◌≤◌, Bool, true, not, cond, ◌&&◌, List, [], ◌∷◌, ◌++◌, length, map, Option, None, Some, Ok, refl, sym, ap, ◌∙◌, subst}
use Rattle.std.specs.Prelude.{nat_lt}
use Rattle.std.specs.List.{flat_map, list_all, position_from}
use Rattle.std.proofs.lemmas.Bool.{and_from}
use Rattle.std.proofs.lemmas.Iterator.Adapters.{position_from-zero}
use Rattle.serde_json.specs.View.{items_of}
use Rattle.dd_json.specs.Members.{◌>>=◌}
use Rattle.dd_text.specs.Names.{names_a_thing}
use Rattle.dd_text.specs.Symbols.{IsNumbering, SymbolLists, has_text, most_symbols, number_of, symbol_count, with_texts}
use Rattle.dd_text.specs.Text.{text_at}
use Rattle.dd_text.proofs.Building.{SymbolLists-eq}
use Rattle.dd_text.proofs.Numbering.{with_text-present}
use Rattle.dd_text.proofs.Reading.{left_of, right_of}
use Rattle.dd_text.proofs.RoundTrip.{has_number}
use Rattle.dd_interp.specs.declared.interp.Interp.{Interp}
use Rattle.dd_world.specs.declared.world.World.{World}
use Rattle.dd_cert.specs.declared.form.CertForm.TheVariants as kinds
use Rattle.dd_cert.specs.declared.form.LocalForm.{LocalForm}
use Rattle.dd_cert.specs.declared.form.WorldForm.{WorldForm}
use Rattle.dd_cert.specs.declared.read.Cert.TheVariants as cert
use Rattle.dd_cert.specs.Forms.{each_of, kind_at, link_of, local_of, name_of, role_of}
use Rattle.dd_cert.specs.Certificates.{Certified, IsCertIn, IsEvidenceOf, Tried, cert_form, certified_world, local_by, names_of_local, numbers_of, numbers_of_link, numbers_of_local, numbers_of_role, roles_of_local, texts_of, with_world, world_by, world_form}
use Rattle.dd_cert.specs.Printed.{is_index, link_data, link_has_indexes, local_data, local_has_indexes, local_has_symbols, name_data, name_has_symbols, role_data, role_has_symbols, world_data}
use Rattle.dd_cert.proofs.Certifying.{world-certified, world_from}
use Rattle.dd_cert.proofs.Listing.{named-at}
use Rattle.dd_cert.proofs.ReadBack.{all-append, all-flat, all-map, each-printed, first-none}

-- ---- the form of a world

abbrev name_form : SymbolLists → ℕ × ℕ → List ℕ × ℕ
name_form s n = (text_at s.names n.0, n.1)

abbrev role_form : SymbolLists → ℕ × ℕ × ℕ → List ℕ × ℕ × ℕ
role_form s r = (text_at s.roles r.0, r.1, r.2)

abbrev local_form : SymbolLists → Interp → LocalForm
local_form s i = record { names = map (name_form s) i.names; roles = map (role_form s) i.roles; size = i.size }

abbrev form_of_world : SymbolLists → World → WorldForm
form_of_world s w = record { links = w.links; locals = map (local_form s) w.locals }

map-same : {A : Type 0} (f : A → A) → ((x : A) → f x ≡ x) → (xs : List A) → map f xs ≡ xs
map-same f h [] = refl
map-same f h (x ∷ xs) = ap (λ z. z ∷ map f xs) (h x) ∙ ap (λ l. x ∷ l) (map-same f h xs)

links-printed : (ls : List (ℕ × ℕ × ℕ × ℕ)) → each_of link_of (items_of (map link_data ls)) ≡ Some ls
links-printed ls = each-printed link_of link_data (λ l. l) (λ l. refl) ls ∙ ap (λ l. Some l) (map-same (λ l. l) (λ l. refl) ls)

abbrev local_from : ℕ → Option (List (List ℕ × ℕ)) → Option (List (List ℕ × ℕ × ℕ)) → Option LocalForm
local_from size names roles = names >>= (λ ns. roles >>= (λ rs. Some (record { names = ns; roles = rs; size = size })))

local-printed : (s : SymbolLists) (i : Interp) → local_of (local_data s i) ≡ Some (local_form s i)
unfolding local_of
local-printed s i =
    ap (λ o. local_from i.size o (each_of role_of (items_of (map (role_data s) i.roles)))) (each-printed name_of (name_data s) (name_form s) (λ n. refl) i.names)
    ∙ ap (local_from i.size (Some (map (name_form s) i.names))) (each-printed role_of (role_data s) (role_form s) (λ r. refl) i.roles)

world-formed : (s : SymbolLists) (w : World) → cert_form (world_data s w) ≡ Ok (kinds.No (form_of_world s w))
unfolding cert_form kind_at world_form
world-formed s w =
    ap (λ o. world_from o (each_of local_of (items_of (map (local_data s) w.locals)))) (links-printed w.links)
    ∙ ap (world_from (Some w.links)) (each-printed local_of (local_data s) (local_form s) (local-printed s) w.locals)

-- ---- numbers

link-indexes : (l : ℕ × ℕ × ℕ × ℕ) → link_has_indexes l ≡ true → list_all is_index (numbers_of_link l) ≡ true
link-indexes l h =
    let abc = left_of (is_index l.0 && is_index l.1 && is_index l.2) (is_index l.3) h in
    let ab = left_of (is_index l.0 && is_index l.1) (is_index l.2) abc in
    and_from (is_index l.0) (list_all is_index (l.1 ∷ l.2 ∷ l.3 ∷ [])) (left_of (is_index l.0) (is_index l.1) ab)
    (and_from (is_index l.1) (list_all is_index (l.2 ∷ l.3 ∷ [])) (right_of (is_index l.0) (is_index l.1) ab)
    (and_from (is_index l.2) (list_all is_index (l.3 ∷ [])) (right_of (is_index l.0 && is_index l.1) (is_index l.2) abc)
    (and_from (is_index l.3) true (right_of (is_index l.0 && is_index l.1 && is_index l.2) (is_index l.3) h) refl)))

abbrev element_is_index : ℕ × ℕ → Bool
element_is_index n = is_index n.1

abbrev ends_are_indexes : ℕ × ℕ × ℕ → Bool
ends_are_indexes r = is_index r.1 && is_index r.2

local-indexes : (s : SymbolLists) (i : Interp) → local_has_indexes i ≡ true → list_all is_index (numbers_of_local (local_form s i)) ≡ true
local-indexes s i h =
    let both = left_of (list_all element_is_index i.names && list_all ends_are_indexes i.roles) (is_index i.size) h in
    let size = right_of (list_all element_is_index i.names && list_all ends_are_indexes i.roles) (is_index i.size) h in
    let elements = left_of (list_all element_is_index i.names) (list_all ends_are_indexes i.roles) both in
    let ends = right_of (list_all element_is_index i.names) (list_all ends_are_indexes i.roles) both in
    all-append is_index (map (λ (n : List ℕ × ℕ). n.1) (map (name_form s) i.names)) (flat_map numbers_of_role (map (role_form s) i.roles) ++ i.size ∷ [])
    (all-map is_index (λ (n : List ℕ × ℕ). n.1) (λ (n : List ℕ × ℕ). is_index n.1) (λ n k. k) (map (name_form s) i.names)
    (all-map (λ (n : List ℕ × ℕ). is_index n.1) (name_form s) element_is_index (λ n k. k) i.names elements))
    (all-append is_index (flat_map numbers_of_role (map (role_form s) i.roles)) (i.size ∷ [])
    (all-flat is_index numbers_of_role (λ r. list_all is_index (numbers_of_role r)) (λ r k. k) (map (role_form s) i.roles)
    (all-map (λ (r : List ℕ × ℕ × ℕ). list_all is_index (numbers_of_role r)) (role_form s) ends_are_indexes
    (λ r k. and_from (is_index r.1) (list_all is_index (r.2 ∷ [])) (left_of (is_index r.1) (is_index r.2) k) (and_from (is_index r.2) true (right_of (is_index r.1) (is_index r.2) k) refl)) i.roles ends))
    (and_from (is_index i.size) true size refl))

world-indexes : (s : SymbolLists) (w : World) → list_all link_has_indexes w.links && list_all local_has_indexes w.locals ≡ true → list_all is_index (numbers_of (form_of_world s w)) ≡ true
world-indexes s w h =
    all-append is_index (flat_map numbers_of_link w.links) (flat_map numbers_of_local (map (local_form s) w.locals))
    (all-flat is_index numbers_of_link link_has_indexes link-indexes w.links (left_of (list_all link_has_indexes w.links) (list_all local_has_indexes w.locals) h))
    (all-flat is_index numbers_of_local (λ l. list_all is_index (numbers_of_local l)) (λ l k. k) (map (local_form s) w.locals)
    (all-map (λ (l : LocalForm). list_all is_index (numbers_of_local l)) (local_form s) local_has_indexes (local-indexes s) w.locals
    (right_of (list_all link_has_indexes w.links) (list_all local_has_indexes w.locals) h)))

-- ---- texts that are all of some kind

-- a test that each text of the symbols passes
module _ (s : SymbolLists) (p : List ℕ → Bool) (named : (n : ℕ) → nat_lt n (length s.names) ≡ true → p (text_at s.names n) ≡ true) where
  pub local-names : (i : Interp) → list_all (name_has_symbols s) i.names ≡ true → list_all p (names_of_local (local_form s i)) ≡ true
  local-names i h =
      all-map p (λ (n : List ℕ × ℕ). n.0) (λ (n : List ℕ × ℕ). p n.0) (λ n k. k) (map (name_form s) i.names)
      (all-map (λ (n : List ℕ × ℕ). p n.0) (name_form s) (name_has_symbols s) (λ n k. named n.0 k) i.names h)

module _ (s : SymbolLists) (p : List ℕ → Bool) (named : (n : ℕ) → nat_lt n (length s.roles) ≡ true → p (text_at s.roles n) ≡ true) where
  pub local-roles : (i : Interp) → list_all (role_has_symbols s) i.roles ≡ true → list_all p (roles_of_local (local_form s i)) ≡ true
  local-roles i h =
      all-map p (λ (r : List ℕ × ℕ × ℕ). r.0) (λ (r : List ℕ × ℕ × ℕ). p r.0) (λ r k. k) (map (role_form s) i.roles)
      (all-map (λ (r : List ℕ × ℕ × ℕ). p r.0) (role_form s) (role_has_symbols s) (λ r k. named r.0 k) i.roles h)

all-present : (xs ts : List (List ℕ)) → list_all (has_text xs) ts ≡ true → with_texts xs ts ≡ xs
all-present xs [] h = refl
all-present xs (t ∷ ts) h =
    ap (λ l. with_texts l ts) (with_text-present xs t (left_of (has_text xs t) (list_all (has_text xs) ts) h)) ∙ all-present xs ts (right_of (has_text xs t) (list_all (has_text xs) ts) h)

no-position : (k : ℕ) (ts : List (List ℕ)) → list_all names_a_thing ts ≡ true → position_from (λ t. not (names_a_thing t)) k ts ≡ None
no-position k [] h = refl
no-position k (t ∷ ts) h =
    ap (λ b. cond (not b) (Some k) (position_from (λ t. not (names_a_thing t)) (k + 1) ts)) (left_of (names_a_thing t) (list_all names_a_thing ts) h)
    ∙ no-position (k + 1) ts (right_of (names_a_thing t) (list_all names_a_thing ts) h)

module _ (s : SymbolLists) (numbering : IsNumbering s) (w : World) (there : list_all (local_has_symbols s) w.locals ≡ true) where
  over-locals : (p : List ℕ → Bool) (texts : LocalForm → List (List ℕ)) → ((i : Interp) → local_has_symbols s i ≡ true → list_all p (texts (local_form s i)) ≡ true)
      → list_all p (flat_map texts (map (local_form s) w.locals)) ≡ true
  over-locals p texts h =
      all-flat p texts (λ l. list_all p (texts l)) (λ l k. k) (map (local_form s) w.locals) (all-map (λ (l : LocalForm). list_all p (texts l)) (local_form s) (local_has_symbols s) h w.locals there)

  names_in : (i : Interp) → local_has_symbols s i ≡ true → list_all (name_has_symbols s) i.names ≡ true
  names_in i h = left_of (list_all (name_has_symbols s) i.names) (list_all (role_has_symbols s) i.roles) h

  roles_in : (i : Interp) → local_has_symbols s i ≡ true → list_all (role_has_symbols s) i.roles ≡ true
  roles_in i h = right_of (list_all (name_has_symbols s) i.names) (list_all (role_has_symbols s) i.roles) h

  name-named : (n : ℕ) → nat_lt n (length s.names) ≡ true → names_a_thing (text_at s.names n) ≡ true
  name-named n h = named-at s.names n (text_at s.names n) numbering.names_named (has_number s.names n h).found

  role-named : (n : ℕ) → nat_lt n (length s.roles) ≡ true → names_a_thing (text_at s.roles n) ≡ true
  role-named n h = named-at s.roles n (text_at s.roles n) numbering.roles_named (has_number s.roles n h).found

  world-named : list_all names_a_thing (texts_of (form_of_world s w)) ≡ true
  world-named = over-locals names_a_thing (λ l. names_of_local l ++ roles_of_local l)
      (λ i h. all-append names_a_thing (names_of_local (local_form s i)) (roles_of_local (local_form s i)) (local-names s names_a_thing name-named i (names_in i h)) (local-roles s names_a_thing role-named i (roles_in i h)))

  world-stays : with_world s (form_of_world s w) ≡ s
  world-stays = SymbolLists-eq (with_world s (form_of_world s w)) s
      (all-present s.names (flat_map names_of_local (map (local_form s) w.locals))
      (over-locals (has_text s.names) names_of_local (λ i h. local-names s (has_text s.names) (λ n k. (has_number s.names n k).there) i (names_in i h))))
      (all-present s.roles (flat_map roles_of_local (map (local_form s) w.locals))
      (over-locals (has_text s.roles) roles_of_local (λ i h. local-roles s (has_text s.roles) (λ n k. (has_number s.roles n k).there) i (roles_in i h))))

  -- ---- the world that the form is

  names-back : (ns : List (ℕ × ℕ)) → list_all (name_has_symbols s) ns ≡ true → map (λ (n : List ℕ × ℕ). (number_of s.names n.0, n.1)) (map (name_form s) ns) ≡ ns
  names-back [] h = refl
  names-back (n ∷ ns) h =
      let same : number_of s.names (text_at s.names n.0) ≡ n.0 = numbering.names n.0 (text_at s.names n.0) (has_number s.names n.0 (left_of (name_has_symbols s n) (list_all (name_has_symbols s) ns) h)).found in
      ap (λ (z : ℕ). (z, n.1) ∷ map (λ (n : List ℕ × ℕ). (number_of s.names n.0, n.1)) (map (name_form s) ns)) same
      ∙ ap (λ (l : List (ℕ × ℕ)). n ∷ l) (names-back ns (right_of (name_has_symbols s n) (list_all (name_has_symbols s) ns) h))

  roles-back : (rs : List (ℕ × ℕ × ℕ)) → list_all (role_has_symbols s) rs ≡ true → map (λ (r : List ℕ × ℕ × ℕ). (number_of s.roles r.0, r.1, r.2)) (map (role_form s) rs) ≡ rs
  roles-back [] h = refl
  roles-back (r ∷ rs) h =
      let same : number_of s.roles (text_at s.roles r.0) ≡ r.0 = numbering.roles r.0 (text_at s.roles r.0) (has_number s.roles r.0 (left_of (role_has_symbols s r) (list_all (role_has_symbols s) rs) h)).found in
      ap (λ (z : ℕ). (z, r.1, r.2) ∷ map (λ (r : List ℕ × ℕ × ℕ). (number_of s.roles r.0, r.1, r.2)) (map (role_form s) rs)) same
      ∙ ap (λ (l : List (ℕ × ℕ × ℕ)). r ∷ l) (roles-back rs (right_of (role_has_symbols s r) (list_all (role_has_symbols s) rs) h))

  abbrev interp_made : ℕ → List (ℕ × ℕ) → List (ℕ × ℕ × ℕ) → Interp
  interp_made size names roles = record { size = size; names = names; roles = roles }

  local-back : (i : Interp) → local_has_symbols s i ≡ true → local_by s (local_form s i) ≡ i
  local-back i h =
      ap (λ ns. interp_made i.size ns (map (λ (r : List ℕ × ℕ × ℕ). (number_of s.roles r.0, r.1, r.2)) (map (role_form s) i.roles))) (names-back i.names (names_in i h))
      ∙ ap (interp_made i.size i.names) (roles-back i.roles (roles_in i h))

  locals-back : (is : List Interp) → list_all (local_has_symbols s) is ≡ true → map (local_by s) (map (local_form s) is) ≡ is
  locals-back [] h = refl
  locals-back (i ∷ is) h =
      ap (λ z. z ∷ map (local_by s) (map (local_form s) is)) (local-back i (left_of (local_has_symbols s i) (list_all (local_has_symbols s) is) h))
      ∙ ap (λ (l : List Interp). i ∷ l) (locals-back is (right_of (local_has_symbols s i) (list_all (local_has_symbols s) is) h))

  abbrev world_made : List Interp → World
  world_made locals = record { locals = locals; links = w.links }

  -- what is printed of the world is read as this world, with no new symbols
  pub world-reads-back : list_all link_has_indexes w.links && list_all local_has_indexes w.locals ≡ true → IsCertIn s (world_data s w) (Ok (record { cert = cert.No w; symbols = s }))
  world-reads-back fit =
      let f = form_of_world s w in
      let found : Tried Certified = Ok (record { cert = cert.No w; symbols = s }) in
      let numbers = first-none 0 (numbers_of f) (world-indexes s w fit) in
      let texts = position_from-zero (λ t. not (names_a_thing t)) (texts_of f) ∙ no-position 0 (texts_of f) world-named in
      let few : symbol_count (with_world s f) ≤ most_symbols = subst (λ z. symbol_count z ≤ most_symbols) (sym world-stays) numbering.few in
      let is : certified_world s f ≡ found =
      world-certified s f numbers texts few
      ∙ ap (λ (z : SymbolLists). let c : Certified = record { cert = cert.No (world_by z f); symbols = z } in Ok c) world-stays
      ∙ ap (λ (l : List Interp). let c : Certified = record { cert = cert.No (world_made l); symbols = s } in Ok c) (locals-back w.locals there) in
      subst (λ g. IsEvidenceOf s g found) (sym (world-formed s w)) (sym is)
