-- The form of certificates by their kinds. One of kind `yes` is a derivation as it is written,
-- {"format":1,"kind":"yes","lines":[{"label":["A",..],"peer":P,"why":{"rule":"..",..}},..]}
-- One of kind `no` is a world as it is written,
-- {"format":1,"kind":"no","links":[[I,J,A,B],..],"locals":[{"names":[["A",X],..],"roles":[["r",X,Y],..],"size":N},..]}
use Rattle.std.specs.Prelude.{ℕ, ◌+◌, ◌==◌, List, [], ◌∷◌, if◌then◌else◌, Option, None, Some, option_and_then, option_map, codes, ⊤}
use Rattle.std.specs.Str.{bytes_eq}
use Rattle.serde_json.specs.Data.{Data, Items, no_items, item}
use Rattle.serde_json.specs.Find.{get, as_array}
use Rattle.dd_json.specs.Members.{◌>>=◌, text_of, text_at, number_of, items_at, presence, sized}
use Rattle.dd_cert.specs.declared.form.Kind.{Kind}
use Rattle.dd_cert.specs.declared.form.Kind.TheVariants as kind
use Rattle.dd_cert.specs.declared.form.LocalForm.{LocalForm}

-- what is found of each item of a list, where there is something of each
abbrev pub each_of : {A : Type 0} → (Data → Option A) → Items → Option (List A)
each_of find no_items = Some []
each_of find (item d ds) = option_and_then (λ x. option_map (λ xs. x ∷ xs) (each_of find ds)) (find d)

-- a list of four numbers, of a text and a number, and of a text and two numbers
abbrev pub link_in : Items → Option (ℕ × ℕ × ℕ × ℕ)
link_in (item i (item j (item a (item b no_items)))) =
    number_of i >>= (λ from. number_of j >>= (λ to. number_of a >>= (λ start. number_of b >>= (λ end. Some (from, to, start, end)))))
link_in items = None

abbrev pub name_in : Items → Option (List ℕ × ℕ)
name_in (item t (item x no_items)) = text_of t >>= (λ name. number_of x >>= (λ element. Some (name, element)))
name_in items = None

abbrev pub role_in : Items → Option (List ℕ × ℕ × ℕ)
role_in (item t (item x (item y no_items))) = text_of t >>= (λ role. number_of x >>= (λ start. number_of y >>= (λ end. Some (role, start, end))))
role_in items = None

abbrev pub link_of : Data → Option (ℕ × ℕ × ℕ × ℕ)
link_of d = option_and_then link_in (as_array d)

abbrev pub name_of : Data → Option (List ℕ × ℕ)
name_of d = option_and_then name_in (as_array d)

abbrev pub role_of : Data → Option (List ℕ × ℕ × ℕ)
role_of d = option_and_then role_in (as_array d)

-- {"names":[["A",X],..],"roles":[["r",X,Y],..],"size":N}
unfoldable pub local_of : Data → Option LocalForm
local_of d = do
  names ← option_and_then (each_of name_of) (items_at (codes "names") d)
  roles ← option_and_then (each_of role_of) (items_at (codes "roles") d)
  size ← option_and_then number_of (get (codes "size") d)
  members ← sized 3 d
  Some (record { names = names; roles = roles; size = size })

-- the number 1
abbrev pub one : ℕ → Option ⊤
one n = if n == 1 then Some tt else None

abbrev pub format_at : Data → Option ⊤
format_at d = option_and_then one (option_and_then number_of (get (codes "format") d))

-- the kind with this name
abbrev pub kind_named : List ℕ → Option Kind
kind_named name = if bytes_eq name (codes "yes") then Some kind.Yes else if bytes_eq name (codes "no") then Some kind.No else None

-- how many members a certificate of this kind has, of those that it may have
abbrev pub members_of : Kind → Data → ℕ
members_of kind.Yes d = 2 + presence (codes "lines") d
members_of kind.No d = 2 + presence (codes "links") d + presence (codes "locals") d

-- the kind of a value that has no member that a certificate of its kind does not have
unfoldable pub kind_at : Data → Option Kind
kind_at d = do
  name ← text_at (codes "kind") d
  kind ← kind_named name
  size ← sized (members_of kind d) d
  Some kind

abbrev pub links_at : Data → Option (List (ℕ × ℕ × ℕ × ℕ))
links_at d = option_and_then (each_of link_of) (items_at (codes "links") d)

abbrev pub locals_at : Data → Option (List LocalForm)
locals_at d = option_and_then (each_of local_of) (items_at (codes "locals") d)
