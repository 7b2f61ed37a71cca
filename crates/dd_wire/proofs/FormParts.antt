-- The parts of a form, as they are read.
use Rattle.std.proofs.Common.{◌≡◌, ℕ, ◌+◌, Bool, true, false, List, Option, None, Some, refl, sym, ap, ◌∙◌}
use Rattle.std.specs.Prelude.{⊤, codes, if◌then◌else◌, option_and_then}
use Rattle.std.specs.Option.{option_map_or}
use Rattle.std.specs.Str.{bytes_eq}
use Rattle.serde_json.specs.Data.{Data}
use Rattle.serde_json.specs.Find.{get}
use Rattle.dd_json.specs.Members.{◌>>=◌, text_at, listed_at, maybe_number_at, indexes_at, presence, sized}
use Rattle.dd_wire.specs.declared.form.RuleForm.{RuleForm}
use Rattle.dd_wire.specs.Forms.{Written, put, ask, check, says, form_by, form_of, peers_of, versions_of, rule_of, rules_at, put_of, ask_of, check_of}
use Rattle.dd_wire.specs.Steps.{three_texts_at, both_rules_of, budgets_of}

-- ---- parts that are found, or one that is not

module _ {A B X : Type 0} (f : A → B → X) where
  abbrev of_two : Option A → Option B → Option X
  of_two a b = a >>= λ x. b >>= λ y. Some (f x y)

  two_found : (a : Option A) (b : Option B) (x : A) (y : B) → a ≡ Some x → b ≡ Some y → of_two a b ≡ Some (f x y)
  two_found a b x y is also = ap (λ o. of_two o b) is ∙ ap (λ o. of_two (Some x) o) also

  no_first : (a : Option A) (b : Option B) → a ≡ None → of_two a b ≡ None
  no_first a b none = ap (λ o. of_two o b) none

  no_second : (a : Option A) (b : Option B) → b ≡ None → of_two a b ≡ None
  no_second None b none = refl
  no_second (Some x) b none = ap (λ o. of_two (Some x) o) none

module _ {A B C D X : Type 0} (f : A → B → C → D → X) where
  abbrev of_four : Option A → Option B → Option C → Option D → Option X
  of_four a b c d = a >>= λ x. b >>= λ y. c >>= λ z. d >>= λ w. Some (f x y z w)

  four_found : (a : Option A) (b : Option B) (c : Option C) (d : Option D) (x : A) (y : B) (z : C) (w : D) → a ≡ Some x → b ≡ Some y → c ≡ Some z → d ≡ Some w
      → of_four a b c d ≡ Some (f x y z w)
  four_found a b c d x y z w is also third fourth =
      ap (λ o. of_four o b c d) is ∙ ap (λ o. of_four (Some x) o c d) also ∙ ap (λ o. of_four (Some x) (Some y) o d) third ∙ ap (λ o. of_four (Some x) (Some y) (Some z) o) fourth

  no_first_of_four : (a : Option A) (b : Option B) (c : Option C) (d : Option D) → a ≡ None → of_four a b c d ≡ None
  no_first_of_four a b c d none = ap (λ o. of_four o b c d) none

  no_second_of_four : (a : Option A) (b : Option B) (c : Option C) (d : Option D) → b ≡ None → of_four a b c d ≡ None
  no_second_of_four None b c d none = refl
  no_second_of_four (Some x) b c d none = ap (λ o. of_four (Some x) o c d) none

  no_third_of_four : (a : Option A) (b : Option B) (c : Option C) (d : Option D) → c ≡ None → of_four a b c d ≡ None
  no_third_of_four None b c d none = refl
  no_third_of_four (Some x) None c d none = refl
  no_third_of_four (Some x) (Some y) c d none = ap (λ o. of_four (Some x) (Some y) o d) none

  no_fourth_of_four : (a : Option A) (b : Option B) (c : Option C) (d : Option D) → d ≡ None → of_four a b c d ≡ None
  no_fourth_of_four None b c d none = refl
  no_fourth_of_four (Some x) None c d none = refl
  no_fourth_of_four (Some x) (Some y) None d none = refl
  no_fourth_of_four (Some x) (Some y) (Some z) d none = ap (λ o. of_four (Some x) (Some y) (Some z) o) none

-- ---- the form by its member `op`

abbrev form_by_tests : (peers put ask check versions : Bool) → Data → Option Written
form_by_tests true b c e v d = peers_of d
form_by_tests false true c e v d = put_of d
form_by_tests false false true e v d = ask_of d
form_by_tests false false false true v d = check_of d
form_by_tests false false false false true d = versions_of d
form_by_tests false false false false false d = None

form_is : (d : Data) → form_of d
    ≡ form_by_tests (says (codes "op") (codes "peers") d) (says (codes "op") (codes "put") d) (says (codes "op") (codes "ask") d) (says (codes "op") (codes "check") d) (says (codes "op") (codes "versions") d) d
unfolding form_of
form_is d = by_op (text_at (codes "op") d)
  where
    is : List ℕ → Option (List ℕ) → Bool
    is text o = option_map_or (λ said. bytes_eq said text) o false

    tested : (a b c e v : Bool) → (if a then peers_of d else if b then put_of d else if c then ask_of d else if e then check_of d else if v then versions_of d else None) ≡ form_by_tests a b c e v d
    tested true b c e v = refl
    tested false true c e v = refl
    tested false false true e v = refl
    tested false false false true v = refl
    tested false false false false true = refl
    tested false false false false false = refl

    by_op : (o : Option (List ℕ)) → option_and_then (λ op. form_by op d) o ≡ form_by_tests (is (codes "peers") o) (is (codes "put") o) (is (codes "ask") o) (is (codes "check") o) (is (codes "versions") o) d
    by_op None = refl
    by_op (Some op) = tested (bytes_eq op (codes "peers")) (bytes_eq op (codes "put")) (bytes_eq op (codes "ask")) (bytes_eq op (codes "check")) (bytes_eq op (codes "versions"))

pub form_when : (d : Data) (a b c e v : Bool) → a ≡ says (codes "op") (codes "peers") d → b ≡ says (codes "op") (codes "put") d → c ≡ says (codes "op") (codes "ask") d → e ≡ says (codes "op") (codes "check") d
    → v ≡ says (codes "op") (codes "versions") d → form_of d ≡ form_by_tests a b c e v d
form_when d a b c e v first second third fourth fifth = form_is d ∙ sym (cc (first, second, third, fourth, fifth))

-- ---- the parts of each form

abbrev all_three : {A : Type 0} → Option A → Option A → Option A → Option (A × A × A)
all_three a b c = a >>= λ x. b >>= λ y. c >>= λ z. Some (x, y, z)

abbrev Texts : Type 0
Texts = List ℕ × List ℕ × List ℕ

-- a rule: its texts, and how many members it has
abbrev rule_by : Texts → ⊤ → RuleForm
rule_by t size = record { from = t.0; source = t.1; target = t.2 }

rule_parts : (d : Data) → rule_of d ≡ of_two rule_by (three_texts_at (codes "from") (codes "source") (codes "target") d) (sized 3 d)
unfolding rule_of three_texts_at
rule_parts d = parts (text_at (codes "from") d) (text_at (codes "source") d) (text_at (codes "target") d) (sized 3 d)
  where
    parts : (a b c : Option (List ℕ)) (size : Option ⊤) → (a >>= λ x. b >>= λ y. c >>= λ z. size >>= λ s. Some (rule_by (x, y, z) s)) ≡ of_two rule_by (all_three a b c) size
    parts None b c size = refl
    parts (Some x) None c size = refl
    parts (Some x) (Some y) None size = refl
    parts (Some x) (Some y) (Some z) size = refl

pub rule_found : (d : Data) (t : Texts) (size : ⊤) → sized 3 d ≡ Some size → three_texts_at (codes "from") (codes "source") (codes "target") d ≡ Some t → rule_of d ≡ Some (rule_by t size)
rule_found d t size is texts = rule_parts d ∙ two_found rule_by _ _ t size texts is

pub rule_without_texts : (d : Data) → three_texts_at (codes "from") (codes "source") (codes "target") d ≡ None → rule_of d ≡ None
rule_without_texts d none = rule_parts d ∙ no_first rule_by _ (sized 3 d) none

pub rule_of_other_size : (d : Data) → sized 3 d ≡ None → rule_of d ≡ None
rule_of_other_size d none = rule_parts d ∙ no_second rule_by (three_texts_at (codes "from") (codes "source") (codes "target") d) _ none

-- an ask: its texts and its budgets
abbrev ask_by : Texts → Option ℕ × Option ℕ → Written
ask_by t b = ask t.0 t.1 t.2 b.0 b.1

abbrev sized_budgets : Option (Option ℕ) → Option (Option ℕ) → Option ⊤ → Option (Option ℕ × Option ℕ)
sized_budgets e v size = e >>= λ x. v >>= λ y. size >>= λ s. Some (x, y)

ask_parts : (d : Data) → ask_of d ≡ of_two ask_by (three_texts_at (codes "peer") (codes "left") (codes "right") d) (budgets_of d)
unfolding ask_of three_texts_at budgets_of
ask_parts d =
    parts (text_at (codes "peer") d) (text_at (codes "left") d) (text_at (codes "right") d)
    (maybe_number_at (codes "expansions") d) (maybe_number_at (codes "verdicts") d) (sized (4 + presence (codes "expansions") d + presence (codes "verdicts") d) d)
  where
    parts : (a b c : Option (List ℕ)) (e v : Option (Option ℕ)) (size : Option ⊤)
        → (a >>= λ p. b >>= λ l. c >>= λ r. e >>= λ x. v >>= λ y. size >>= λ s. Some (ask p l r x y)) ≡ of_two ask_by (all_three a b c) (sized_budgets e v size)
    parts None b c e v size = refl
    parts (Some p) None c e v size = refl
    parts (Some p) (Some l) None e v size = refl
    parts (Some p) (Some l) (Some r) None v size = refl
    parts (Some p) (Some l) (Some r) (Some x) None size = refl
    parts (Some p) (Some l) (Some r) (Some x) (Some y) None = refl
    parts (Some p) (Some l) (Some r) (Some x) (Some y) (Some s) = refl

pub ask_found : (d : Data) (t : Texts) (b : Option ℕ × Option ℕ) → budgets_of d ≡ Some b → three_texts_at (codes "peer") (codes "left") (codes "right") d ≡ Some t → ask_of d ≡ Some (ask_by t b)
ask_found d t b budgets texts = ask_parts d ∙ two_found ask_by _ _ t b texts budgets

pub ask_without_texts : (d : Data) → three_texts_at (codes "peer") (codes "left") (codes "right") d ≡ None → ask_of d ≡ None
ask_without_texts d none = ask_parts d ∙ no_first ask_by _ (budgets_of d) none

pub ask_without_budgets : (d : Data) → budgets_of d ≡ None → ask_of d ≡ None
ask_without_budgets d none = ask_parts d ∙ no_second ask_by (three_texts_at (codes "peer") (codes "left") (codes "right") d) _ none

-- a check: its texts, its pin, how many members it has, and its certificate
abbrev check_by : Texts → List ℕ → ⊤ → Data → Written
check_by t pin size cert = check t.0 t.1 t.2 pin cert

check_parts : (d : Data) → check_of d ≡ of_four check_by (three_texts_at (codes "peer") (codes "left") (codes "right") d) (indexes_at (codes "pin") d) (sized 6 d) (get (codes "cert") d)
unfolding check_of three_texts_at
check_parts d = parts (text_at (codes "peer") d) (text_at (codes "left") d) (text_at (codes "right") d) (indexes_at (codes "pin") d) (sized 6 d) (get (codes "cert") d)
  where
    parts : (a b c : Option (List ℕ)) (pin : Option (List ℕ)) (size : Option ⊤) (cert : Option Data)
        → (a >>= λ x. b >>= λ y. c >>= λ z. pin >>= λ p. size >>= λ s. cert >>= λ d. Some (check x y z p d)) ≡ of_four check_by (all_three a b c) pin size cert
    parts None b c pin size cert = refl
    parts (Some x) None c pin size cert = refl
    parts (Some x) (Some y) None pin size cert = refl
    parts (Some x) (Some y) (Some z) pin size cert = refl

module _ (d : Data) where
  abbrev check_texts : Option Texts
  check_texts = three_texts_at (codes "peer") (codes "left") (codes "right") d

  pub check_found : (t : Texts) (pin : List ℕ) (size : ⊤) (cert : Data) → sized 6 d ≡ Some size → indexes_at (codes "pin") d ≡ Some pin → check_texts ≡ Some t → get (codes "cert") d ≡ Some cert
      → check_of d ≡ Some (check_by t pin size cert)
  check_found t pin size cert is numbers texts there = check_parts d ∙ four_found check_by _ _ _ _ t pin size cert texts numbers is there

  pub check_without_texts : check_texts ≡ None → check_of d ≡ None
  check_without_texts none = check_parts d ∙ no_first_of_four check_by check_texts (indexes_at (codes "pin") d) (sized 6 d) (get (codes "cert") d) none

  pub check_without_pin : indexes_at (codes "pin") d ≡ None → check_of d ≡ None
  check_without_pin none = check_parts d ∙ no_second_of_four check_by check_texts (indexes_at (codes "pin") d) (sized 6 d) (get (codes "cert") d) none

  pub check_of_other_size : sized 6 d ≡ None → check_of d ≡ None
  check_of_other_size none = check_parts d ∙ no_third_of_four check_by check_texts (indexes_at (codes "pin") d) (sized 6 d) (get (codes "cert") d) none

  pub check_without_cert : get (codes "cert") d ≡ None → check_of d ≡ None
  check_without_cert none = check_parts d ∙ no_fourth_of_four check_by check_texts (indexes_at (codes "pin") d) (sized 6 d) (get (codes "cert") d) none

-- a put: its peer, its axioms, its rules, and how many members it has
abbrev put_by : List ℕ → List (List ℕ) → List RuleForm × List RuleForm → ⊤ → Written
put_by peer axioms rules size = put peer axioms rules.0 rules.1

abbrev put_size : Data → Option ⊤
put_size d = sized (2 + presence (codes "axioms") d + presence (codes "into") d + presence (codes "onto") d) d

abbrev both_in : Option (List RuleForm) → Option (List RuleForm) → Option (List RuleForm × List RuleForm)
both_in into onto = into >>= λ x. onto >>= λ y. Some (x, y)

put_parts : (d : Data) → put_of d ≡ of_four put_by (text_at (codes "peer") d) (listed_at (codes "axioms") d) (both_rules_of d) (put_size d)
unfolding put_of both_rules_of
put_parts d = parts (text_at (codes "peer") d) (listed_at (codes "axioms") d) (rules_at (codes "into") d) (rules_at (codes "onto") d) (put_size d)
  where
    parts : (peer : Option (List ℕ)) (axioms : Option (List (List ℕ))) (into onto : Option (List RuleForm)) (size : Option ⊤)
        → (peer >>= λ p. axioms >>= λ a. into >>= λ x. onto >>= λ y. size >>= λ s. Some (put p a x y)) ≡ of_four put_by peer axioms (both_in into onto) size
    parts None axioms into onto size = refl
    parts (Some p) None into onto size = refl
    parts (Some p) (Some a) None onto size = refl
    parts (Some p) (Some a) (Some x) None size = refl
    parts (Some p) (Some a) (Some x) (Some y) size = refl

module _ (d : Data) where
  pub put_found : (peer : List ℕ) (axioms : List (List ℕ)) (rules : List RuleForm × List RuleForm) (size : ⊤)
      → put_size d ≡ Some size → text_at (codes "peer") d ≡ Some peer → listed_at (codes "axioms") d ≡ Some axioms → both_rules_of d ≡ Some rules
      → put_of d ≡ Some (put_by peer axioms rules size)
  put_found peer axioms rules size is named listed both = put_parts d ∙ four_found put_by _ _ _ _ peer axioms rules size named listed both is

  pub put_without_peer : text_at (codes "peer") d ≡ None → put_of d ≡ None
  put_without_peer none = put_parts d ∙ no_first_of_four put_by (text_at (codes "peer") d) (listed_at (codes "axioms") d) (both_rules_of d) (put_size d) none

  pub put_without_axioms : listed_at (codes "axioms") d ≡ None → put_of d ≡ None
  put_without_axioms none = put_parts d ∙ no_second_of_four put_by (text_at (codes "peer") d) (listed_at (codes "axioms") d) (both_rules_of d) (put_size d) none

  pub put_without_rules : both_rules_of d ≡ None → put_of d ≡ None
  put_without_rules none = put_parts d ∙ no_third_of_four put_by (text_at (codes "peer") d) (listed_at (codes "axioms") d) (both_rules_of d) (put_size d) none

  pub put_of_other_size : put_size d ≡ None → put_of d ≡ None
  put_of_other_size none = put_parts d ∙ no_fourth_of_four put_by (text_at (codes "peer") d) (listed_at (codes "axioms") d) (both_rules_of d) (put_size d) none
