-- Lists of another length are no links, no names with an element, and no roles with two.
use Rattle.std.proofs.Common.{◌≡◌, ◌≢◌, List, [], ◌∷◌, length, None, refl}
use Rattle.serde_json.specs.View.{items_view}
use Rattle.serde_json.specs.declared.value.Value.{Value}
use Rattle.dd_cert.specs.Forms.{link_in, name_in, role_in}

pub link_other : (vs : List Value) → (length vs ≡ 4 → ⊥) → link_in (items_view vs) ≡ None
link_other [] other = refl
link_other (a ∷ []) other = refl
link_other (a ∷ b ∷ []) other = refl
link_other (a ∷ b ∷ d ∷ []) other = refl
link_other (a ∷ b ∷ d ∷ e ∷ []) other = absurd (other refl)
link_other (a ∷ b ∷ d ∷ e ∷ f ∷ rest) other = refl

pub name_other : (vs : List Value) → length vs ≢ 2 → name_in (items_view vs) ≡ None
name_other [] other = refl
name_other (a ∷ []) other = refl
name_other (a ∷ b ∷ []) other = absurd (other refl)
name_other (a ∷ b ∷ d ∷ rest) other = refl

pub role_other : (vs : List Value) → length vs ≢ 3 → role_in (items_view vs) ≡ None
role_other [] other = refl
role_other (a ∷ []) other = refl
role_other (a ∷ b ∷ []) other = refl
role_other (a ∷ b ∷ d ∷ []) other = absurd (other refl)
role_other (a ∷ b ∷ d ∷ e ∷ rest) other = refl
