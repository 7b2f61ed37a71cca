-- Lists of the right length, whose items are numbers and texts, are links, names with an element, and roles with two.
use Rattle.std.proofs.Common.{◌≡◌, ℕ, List, [], ◌∷◌, length, get_or, Some, sym, ap, ◌∙◌, arith}
use Rattle.serde_json.specs.View.{view, items_view}
use Rattle.serde_json.specs.declared.value.Value.{Value}
use Rattle.dd_json.specs.Members.{◌>>=◌, number_of, text_of}
use Rattle.dd_cert.specs.Forms.{link_in, name_in, role_in}

pub link_found : (vs : List Value) (a b d e : Value) (i j x y : ℕ) → length vs ≡ 4 → a ≡ get_or vs 0 a → b ≡ get_or vs 1 b → d ≡ get_or vs 2 d → e ≡ get_or vs 3 e
    → number_of (view a) ≡ Some i → number_of (view b) ≡ Some j → number_of (view d) ≡ Some x → number_of (view e) ≡ Some y → link_in (items_view vs) ≡ Some (i, j, x, y)
link_found [] a b d e i j x y len ia ib id ie na nb nd ne = absurd (omega (arith, len))
link_found (p ∷ []) a b d e i j x y len ia ib id ie na nb nd ne = absurd (omega (arith, len))
link_found (p ∷ q ∷ []) a b d e i j x y len ia ib id ie na nb nd ne = absurd (omega (arith, len))
link_found (p ∷ q ∷ r ∷ []) a b d e i j x y len ia ib id ie na nb nd ne = absurd (omega (arith, len))
link_found (p ∷ q ∷ r ∷ s ∷ []) a b d e i j x y len ia ib id ie na nb nd ne =
    ap (λ o. o >>= (λ from. number_of (view q) >>= (λ to. number_of (view r) >>= (λ start. number_of (view s) >>= (λ end. Some (from, to, start, end)))))) (ap (λ v. number_of (view v)) (sym ia) ∙ na)
    ∙ ap (λ o. o >>= (λ to. number_of (view r) >>= (λ start. number_of (view s) >>= (λ end. Some (i, to, start, end))))) (ap (λ v. number_of (view v)) (sym ib) ∙ nb)
    ∙ ap (λ o. o >>= (λ start. number_of (view s) >>= (λ end. Some (i, j, start, end)))) (ap (λ v. number_of (view v)) (sym id) ∙ nd)
    ∙ ap (λ o. o >>= (λ end. Some (i, j, x, end))) (ap (λ v. number_of (view v)) (sym ie) ∙ ne)
link_found (p ∷ q ∷ r ∷ s ∷ t ∷ rest) a b d e i j x y len ia ib id ie na nb nd ne = absurd (omega (arith, len))

pub name_found : (vs : List Value) (a b : Value) (t : List ℕ) (x : ℕ) → length vs ≡ 2 → a ≡ get_or vs 0 a → b ≡ get_or vs 1 b
    → text_of (view a) ≡ Some t → number_of (view b) ≡ Some x → name_in (items_view vs) ≡ Some (t, x)
name_found [] a b t x len ia ib ta nb = absurd (omega (arith, len))
name_found (p ∷ []) a b t x len ia ib ta nb = absurd (omega (arith, len))
name_found (p ∷ q ∷ []) a b t x len ia ib ta nb =
    ap (λ o. o >>= (λ name. number_of (view q) >>= (λ element. Some (name, element)))) (ap (λ v. text_of (view v)) (sym ia) ∙ ta)
    ∙ ap (λ o. o >>= (λ element. Some (t, element))) (ap (λ v. number_of (view v)) (sym ib) ∙ nb)
name_found (p ∷ q ∷ r ∷ rest) a b t x len ia ib ta nb = absurd (omega (arith, len))

pub role_found : (vs : List Value) (a b d : Value) (t : List ℕ) (x y : ℕ) → length vs ≡ 3 → a ≡ get_or vs 0 a → b ≡ get_or vs 1 b → d ≡ get_or vs 2 d
    → text_of (view a) ≡ Some t → number_of (view b) ≡ Some x → number_of (view d) ≡ Some y → role_in (items_view vs) ≡ Some (t, x, y)
role_found [] a b d t x y len ia ib id ta nb nd = absurd (omega (arith, len))
role_found (p ∷ []) a b d t x y len ia ib id ta nb nd = absurd (omega (arith, len))
role_found (p ∷ q ∷ []) a b d t x y len ia ib id ta nb nd = absurd (omega (arith, len))
role_found (p ∷ q ∷ r ∷ []) a b d t x y len ia ib id ta nb nd =
    ap (λ o. o >>= (λ role. number_of (view q) >>= (λ start. number_of (view r) >>= (λ end. Some (role, start, end))))) (ap (λ v. text_of (view v)) (sym ia) ∙ ta)
    ∙ ap (λ o. o >>= (λ start. number_of (view r) >>= (λ end. Some (t, start, end)))) (ap (λ v. number_of (view v)) (sym ib) ∙ nb)
    ∙ ap (λ o. o >>= (λ end. Some (t, x, end))) (ap (λ v. number_of (view v)) (sym id) ∙ nd)
role_found (p ∷ q ∷ r ∷ s ∷ rest) a b d t x y len ia ib id ta nb nd = absurd (omega (arith, len))
