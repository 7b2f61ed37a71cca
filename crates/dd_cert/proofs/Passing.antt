-- The passes over the parts of a world are passes over its numbers and over its texts, and tell the first that is wrong.
use Rattle.std.proofs.Common.{◌≡◌, ℕ, ◌+◌, Bool, true, false, not, cond, List, [], ◌∷◌, ◌++◌, map, Option, None, Some, Result, Ok, Err, refl, sym, ap, ◌∙◌, subst, arith}
use Rattle.std.specs.Prelude.{nat_lt, ◌&&◌, position}
use Rattle.std.specs.List.{flat_map, list_all, position_from}
use Rattle.std.proofs.lemmas.Bool.{ltb-false, le-leb, and_from}
use Rattle.std.proofs.lemmas.Iterator.Adapters.{position_from-zero}
use Rattle.dd_json.specs.Members.{largest_index}
use Rattle.dd_text.specs.Names.{names_a_thing}
use Rattle.dd_text.specs.Reads.{told}
use Rattle.dd_cert.specs.declared.form.LineForm.{LineForm}
use Rattle.dd_cert.specs.declared.form.LocalForm.{LocalForm}
use Rattle.dd_cert.specs.declared.form.WhyForm.{WhyForm}
use Rattle.dd_cert.specs.declared.form.WhyForm.TheVariants as why
use Rattle.dd_cert.specs.declared.form.WorldForm.{WorldForm}
use Rattle.dd_cert.specs.declared.read.CertErr.{CertErr}
use Rattle.dd_cert.specs.declared.read.CertErr.TheVariants as err
use Rattle.dd_cert.specs.Certificates.{first_above, numbers_of_link, numbers_of_role, numbers_of_local, numbers_of, names_of_local, roles_of_local, texts_of}
use Rattle.dd_cert.specs.Derivations.{numbers_of_line, numbers_of_why}
use Rattle.dd_cert.specs.Steps.{◌>>=◌, walk, line_fits, past_bridge, past_line, past_number, past_link, past_element, past_ends, past_local, past_numbers, past_text, past_name, past_role, past_symbols, past_texts, fits, link_fits, name_fits, role_fits, local_fits, world_fits, has_name, has_role, has_names}

-- ---- one part after another

joined : (r : Result ℕ CertErr) (f g : ℕ → Result ℕ CertErr) → (r >>= f) >>= g ≡ r >>= (λ n. f n >>= g)
joined (Ok at) f g = refl
joined (Err e) f g = refl

last : (r : Result ℕ CertErr) → r >>= (λ n. Ok n) ≡ r
last (Ok at) = refl
last (Err e) = refl

go_on : (r : Result ℕ CertErr) (f g : ℕ → Result ℕ CertErr) → ((n : ℕ) → f n ≡ g n) → r >>= f ≡ r >>= g
go_on (Ok at) f g same = same at
go_on (Err e) f g same = refl

module _ {A : Type 0} (inner : ℕ → A → Result ℕ CertErr) where
  one : (at : ℕ) (x : A) → walk inner at (x ∷ []) ≡ inner at x
  one at x = last (inner at x)

  walk-append : (at : ℕ) (xs ys : List A) → walk inner at (xs ++ ys) ≡ walk inner at xs >>= (λ next. walk inner next ys)
  walk-append at [] ys = refl
  walk-append at (x ∷ xs) ys = go_on (inner at x) (λ n. walk inner n (xs ++ ys)) (λ n. walk inner n xs >>= (λ next. walk inner next ys)) (λ n. walk-append n xs ys)
      ∙ sym (joined (inner at x) (λ n. walk inner n xs) (λ next. walk inner next ys))

  -- a walk over parts, where each step walks over the items of one part
  walk-flat : {X : Type 0} → (step : ℕ → X → Result ℕ CertErr) (items : X → List A) → ((at : ℕ) (x : X) → step at x ≡ walk inner at (items x))
      → (at : ℕ) (xs : List X) → walk step at xs ≡ walk inner at (flat_map items xs)
  walk-flat step items same at [] = refl
  walk-flat step items same at (x ∷ xs) = ap (λ r. r >>= (λ next. walk step next xs)) (same at x)
      ∙ go_on (walk inner at (items x)) (λ n. walk step n xs) (λ n. walk inner n (flat_map items xs)) (λ n. walk-flat step items same n xs)
      ∙ sym (walk-append at (items x) (flat_map items xs))

  walk-map : {X : Type 0} → (item : X → A) (at : ℕ) (xs : List X) → walk (λ n x. inner n (item x)) at xs ≡ walk inner at (map item xs)
  walk-map item at [] = refl
  walk-map item at (x ∷ xs) = go_on (inner at (item x)) (λ n. walk (λ n x. inner n (item x)) n xs) (λ n. walk inner n (map item xs)) (λ n. walk-map item n xs)

-- ---- the numbers of a world

past_link-is : (at : ℕ) (l : ℕ × ℕ × ℕ × ℕ) → past_link at l ≡ walk past_number at (numbers_of_link l)
past_link-is at l = go_on (past_number at l.0) (λ n. past_number n l.1 >>= (λ m. past_number m l.2 >>= (λ k. past_number k l.3))) (λ n. walk past_number n (l.1 ∷ l.2 ∷ l.3 ∷ []))
    (λ n. go_on (past_number n l.1) (λ m. past_number m l.2 >>= (λ k. past_number k l.3)) (λ m. walk past_number m (l.2 ∷ l.3 ∷ []))
    (λ m. go_on (past_number m l.2) (λ k. past_number k l.3) (λ k. walk past_number k (l.3 ∷ [])) (λ k. sym (one past_number k l.3))))

past_ends-is : (at : ℕ) (r : List ℕ × ℕ × ℕ) → past_ends at r ≡ walk past_number at (numbers_of_role r)
past_ends-is at r = go_on (past_number at r.1) (λ n. past_number n r.2) (λ n. walk past_number n (r.2 ∷ [])) (λ n. sym (one past_number n r.2))

past_local-is : (at : ℕ) (l : LocalForm) → past_local at l ≡ walk past_number at (numbers_of_local l)
past_local-is at l =
    let elements = map (λ (n : List ℕ × ℕ). n.1) l.names in
    let ends = flat_map numbers_of_role l.roles in
    ap (λ r. r >>= (λ next. walk past_ends next l.roles >>= (λ n. past_number n l.size))) (walk-map past_number (λ (n : List ℕ × ℕ). n.1) at l.names)
    ∙ go_on (walk past_number at elements) (λ next. walk past_ends next l.roles >>= (λ n. past_number n l.size)) (λ next. walk past_number next (ends ++ l.size ∷ []))
    (λ next. ap (λ r. r >>= (λ n. past_number n l.size)) (walk-flat past_number past_ends numbers_of_role past_ends-is next l.roles)
    ∙ go_on (walk past_number next ends) (λ n. past_number n l.size) (λ n. walk past_number n (l.size ∷ [])) (λ n. sym (one past_number n l.size))
    ∙ sym (walk-append past_number next ends (l.size ∷ [])))
    ∙ sym (walk-append past_number at elements (ends ++ l.size ∷ []))

past_numbers-is : (w : WorldForm) → past_numbers w ≡ walk past_number 0 (numbers_of w)
past_numbers-is w =
    let links = flat_map numbers_of_link w.links in
    let locals = flat_map numbers_of_local w.locals in
    ap (λ r. r >>= (λ next. walk past_local next w.locals)) (walk-flat past_number past_link numbers_of_link past_link-is 0 w.links)
    ∙ go_on (walk past_number 0 links) (λ next. walk past_local next w.locals) (λ next. walk past_number next locals)
    (λ next. walk-flat past_number past_local numbers_of_local past_local-is next w.locals)
    ∙ sym (walk-append past_number 0 links locals)

-- ---- the numbers of a derivation

pub past_bridge-is : (at from onto : ℕ) (into_set : List ℕ) (cite : ℕ) (each : List ℕ)
    → past_bridge at from onto into_set cite each ≡ walk past_number at (cite ∷ (each ++ from ∷ (into_set ++ onto ∷ [])))
past_bridge-is at from onto into_set cite each =
    let behind : ℕ → Result ℕ CertErr = (λ d. walk past_number d (into_set ++ onto ∷ [])) in
    go_on (past_number at cite)
    (λ a. walk past_number a each >>= (λ b. past_number b from >>= (λ d. walk past_number d into_set >>= (λ e. past_number e onto))))
    (λ a. walk past_number a (each ++ from ∷ (into_set ++ onto ∷ [])))
    (λ a. go_on (walk past_number a each) (λ b. past_number b from >>= (λ d. walk past_number d into_set >>= (λ e. past_number e onto))) (λ b. past_number b from >>= behind)
    (λ b. go_on (past_number b from) (λ d. walk past_number d into_set >>= (λ e. past_number e onto)) behind
    (λ d. go_on (walk past_number d into_set) (λ e. past_number e onto) (λ e. walk past_number e (onto ∷ [])) (λ e. sym (one past_number e onto))
    ∙ sym (walk-append past_number d into_set (onto ∷ []))))
    ∙ sym (walk-append past_number a each (from ∷ (into_set ++ onto ∷ []))))

pub bridge-passes : (r : Result ℕ CertErr) (at from onto : ℕ) (into_set into' : List ℕ) (cite : ℕ) (each each' : List ℕ) (w : WhyForm) → w ≡ why.Bridge from onto into' cite each'
    → into_set ≡ into' → each ≡ each' → r ≡ past_bridge at from onto into_set cite each → r ≡ walk past_number at (numbers_of_why w)
bridge-passes r at from onto into_set into' cite each each' w is i e passed =
    passed ∙ ap (λ l. past_bridge at from onto l cite each) i ∙ ap (past_bridge at from onto into' cite) e ∙ past_bridge-is at from onto into' cite each'
    ∙ ap (λ v. walk past_number at (numbers_of_why v)) (sym is)

past_lines-is : (lines : List LineForm) → walk past_line 0 lines ≡ walk past_number 0 (flat_map numbers_of_line lines)
past_lines-is lines = walk-flat past_number past_line numbers_of_line (λ at l. refl) 0 lines

-- ---- the texts of a world

past_symbols-is : (at : ℕ) (l : LocalForm) → past_symbols at l ≡ walk past_text at (names_of_local l ++ roles_of_local l)
past_symbols-is at l =
    ap (λ r. r >>= (λ next. walk past_role next l.roles)) (walk-map past_text (λ (n : List ℕ × ℕ). n.0) at l.names)
    ∙ go_on (walk past_text at (names_of_local l)) (λ next. walk past_role next l.roles) (λ next. walk past_text next (roles_of_local l))
    (λ next. walk-map past_text (λ (r : List ℕ × ℕ × ℕ). r.0) next l.roles)
    ∙ sym (walk-append past_text at (names_of_local l) (roles_of_local l))

past_texts-is : (w : WorldForm) → past_texts w ≡ walk past_text 0 (texts_of w)
past_texts-is w = walk-flat past_text past_symbols (λ l. names_of_local l ++ roles_of_local l) past_symbols-is 0 w.locals

-- ---- what stops a pass

told-next : (k : ℕ) → told (k + 1) ≡ told (told k + 1)
told-next k = omega arith

-- no number is too large, or this is the first one
abbrev pub StopsAtNumber : Option (ℕ × ℕ) → Result ℕ CertErr → Type 0
StopsAtNumber o (Ok at) = o ≡ None
StopsAtNumber o (Err e) = (k : ℕ) × (n : ℕ) × (o ≡ Some (k, n)) × (e ≡ err.Index (told k) n)

stops-number : (k : ℕ) (ns : List ℕ) → StopsAtNumber (first_above k ns) (walk past_number (told k) ns)
stops-number k [] = refl
stops-number k (n ∷ ns) =
    elim (nat_lt largest_index n) as (λ b. StopsAtNumber (cond b (Some (k, n)) (first_above (k + 1) ns)) (cond b (Err (err.Index (told k) n)) (Ok (told (told k + 1))) >>= (λ next. walk past_number next ns))) [
      | true ↦ (k, n, refl, refl)
      | false ↦ subst (λ at. StopsAtNumber (first_above (k + 1) ns) (walk past_number at ns)) (told-next k) (stops-number (k + 1) ns)
    ]

pub lines-stop : (lines : List LineForm) → StopsAtNumber (first_above 0 (flat_map numbers_of_line lines)) (walk past_line 0 lines)
lines-stop lines = subst (StopsAtNumber (first_above 0 (flat_map numbers_of_line lines))) (sym (past_lines-is lines)) (stops-number 0 (flat_map numbers_of_line lines))

pub numbers-stop : (w : WorldForm) → StopsAtNumber (first_above 0 (numbers_of w)) (past_numbers w)
numbers-stop w = subst (StopsAtNumber (first_above 0 (numbers_of w))) (sym (past_numbers-is w)) (stops-number 0 (numbers_of w))

-- each text is a name, or this is the first one that is none
abbrev pub StopsAtText : Option ℕ → Result ℕ CertErr → Type 0
StopsAtText o (Ok at) = o ≡ None
StopsAtText o (Err e) = (k : ℕ) × (o ≡ Some k) × (e ≡ err.Text (told k))

stops-text : (k : ℕ) (ts : List (List ℕ)) → StopsAtText (position_from (λ t. not (names_a_thing t)) k ts) (walk past_text (told k) ts)
stops-text k [] = refl
stops-text k (t ∷ ts) =
    elim (names_a_thing t) as (λ b. StopsAtText (cond (not b) (Some k) (position_from (λ t. not (names_a_thing t)) (k + 1) ts)) (cond b (Ok (told (told k + 1))) (Err (err.Text (told k))) >>= (λ next. walk past_text next ts))) [
      | true ↦ subst (λ at. StopsAtText (position_from (λ t. not (names_a_thing t)) (k + 1) ts) (walk past_text at ts)) (told-next k) (stops-text (k + 1) ts)
      | false ↦ (k, refl, refl)
    ]

pub texts-stop : (w : WorldForm) → StopsAtText (position (λ t. not (names_a_thing t)) (texts_of w)) (past_texts w)
texts-stop w = subst (λ o. StopsAtText o (past_texts w)) (sym (position_from-zero (λ t. not (names_a_thing t)) (texts_of w)))
    (subst (StopsAtText (position_from (λ t. not (names_a_thing t)) 0 (texts_of w))) (sym (past_texts-is w)) (stops-text 0 (texts_of w)))

-- ---- what has been passed

-- two parts have been passed, one after the other
record Parts (f : ℕ → Result ℕ CertErr) (r : Result ℕ CertErr) (n : ℕ) : Type 0 where
  pub between : ℕ
  pub first : Ok between ≡ r
  pub second : Ok n ≡ f between

parts : (f : ℕ → Result ℕ CertErr) (r : Result ℕ CertErr) (n : ℕ) → Ok n ≡ r >>= f → Parts f r n
parts f (Ok at) n h = record { between = at; first = refl; second = h }
parts f (Err e) n h = cc

passed-all : {X : Type 0} → (step : ℕ → X → Result ℕ CertErr) (p : X → Bool) → ((at : ℕ) (x : X) (n : ℕ) → Ok n ≡ step at x → p x ≡ true)
    → (at : ℕ) (xs : List X) (n : ℕ) → Ok n ≡ walk step at xs → list_all p xs ≡ true
passed-all step p each at [] n h = refl
passed-all step p each at (x ∷ xs) n h =
    let two = parts (λ next. walk step next xs) (step at x) n h in
    and_from (p x) (list_all p xs) (each at x two.between two.first) (passed-all step p each two.between xs n two.second)

number-passed : (at v n : ℕ) → Ok n ≡ past_number at v → fits v ≡ true
number-passed at v n h =
    (elim (nat_lt largest_index v) as (λ b. nat_lt largest_index v ≡ b → Ok n ≡ cond b (Err (err.Index at v)) (Ok (told (at + 1))) → fits v ≡ true) [
      | true ↦ λ _ e. cc
      | false ↦ λ small _. le-leb v largest_index (ltb-false largest_index v small)
    ]) refl h

text-passed : (at : ℕ) (t : List ℕ) (n : ℕ) → Ok n ≡ past_text at t → names_a_thing t ≡ true
text-passed at t n h =
    (elim (names_a_thing t) as (λ b. Ok n ≡ cond b (Ok (told (at + 1))) (Err (err.Text at)) → b ≡ true) [
      | true ↦ λ _. refl
      | false ↦ λ e. cc
    ]) h

link-passed : (at : ℕ) (l : ℕ × ℕ × ℕ × ℕ) (n : ℕ) → Ok n ≡ past_link at l → link_fits l ≡ true
link-passed at l n h =
    let a = parts (λ n. past_number n l.1 >>= (λ m. past_number m l.2 >>= (λ k. past_number k l.3))) (past_number at l.0) n h in
    let b = parts (λ m. past_number m l.2 >>= (λ k. past_number k l.3)) (past_number a.between l.1) n a.second in
    let d = parts (λ k. past_number k l.3) (past_number b.between l.2) n b.second in
    and_from (fits l.0 && fits l.1 && fits l.2) (fits l.3)
    (and_from (fits l.0 && fits l.1) (fits l.2)
    (and_from (fits l.0) (fits l.1) (number-passed at l.0 a.between a.first) (number-passed a.between l.1 b.between b.first))
    (number-passed b.between l.2 d.between d.first))
    (number-passed d.between l.3 n d.second)

ends-passed : (at : ℕ) (r : List ℕ × ℕ × ℕ) (n : ℕ) → Ok n ≡ past_ends at r → role_fits r ≡ true
ends-passed at r n h =
    let a = parts (λ k. past_number k r.2) (past_number at r.1) n h in
    and_from (fits r.1) (fits r.2) (number-passed at r.1 a.between a.first) (number-passed a.between r.2 n a.second)

local-passed : (at : ℕ) (l : LocalForm) (n : ℕ) → Ok n ≡ past_local at l → local_fits l ≡ true
local-passed at l n h =
    let a = parts (λ k. walk past_ends k l.roles >>= (λ m. past_number m l.size)) (walk past_element at l.names) n h in
    let b = parts (λ m. past_number m l.size) (walk past_ends a.between l.roles) n a.second in
    and_from (list_all name_fits l.names && list_all role_fits l.roles) (fits l.size)
    (and_from (list_all name_fits l.names) (list_all role_fits l.roles)
    (passed-all past_element name_fits (λ k x m. number-passed k x.1 m) at l.names a.between a.first)
    (passed-all past_ends role_fits ends-passed a.between l.roles b.between b.first))
    (number-passed b.between l.size n b.second)

-- no number of the world is too large
pub numbers-passed : (w : WorldForm) (n : ℕ) → Ok n ≡ past_numbers w → world_fits w ≡ true
numbers-passed w n h =
    let a = parts (λ k. walk past_local k w.locals) (walk past_link 0 w.links) n h in
    and_from (list_all link_fits w.links) (list_all local_fits w.locals)
    (passed-all past_link link_fits link-passed 0 w.links a.between a.first)
    (passed-all past_local local_fits local-passed a.between w.locals n a.second)

line-passed : (at : ℕ) (l : LineForm) (n : ℕ) → Ok n ≡ past_line at l → line_fits l ≡ true
line-passed at l n h = passed-all past_number fits number-passed at (numbers_of_line l) n h

-- no number of the derivation is too large
pub lines-passed : (lines : List LineForm) (n : ℕ) → Ok n ≡ walk past_line 0 lines → list_all line_fits lines ≡ true
lines-passed lines n h = passed-all past_line line_fits line-passed 0 lines n h

symbols-passed : (at : ℕ) (l : LocalForm) (n : ℕ) → Ok n ≡ past_symbols at l → has_names l ≡ true
symbols-passed at l n h =
    let a = parts (λ k. walk past_role k l.roles) (walk past_name at l.names) n h in
    and_from (list_all has_name l.names) (list_all has_role l.roles)
    (passed-all past_name has_name (λ k x m. text-passed k x.0 m) at l.names a.between a.first)
    (passed-all past_role has_role (λ k x m. text-passed k x.0 m) a.between l.roles n a.second)

-- each text of the world is a name
pub texts-passed : (w : WorldForm) (n : ℕ) → Ok n ≡ past_texts w → list_all has_names w.locals ≡ true
texts-passed w n h = passed-all past_symbols has_names symbols-passed 0 w.locals n h
