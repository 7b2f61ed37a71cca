-- No certificate has a float.
use Rattle.std.proofs.Common.{◌≡◌, ◌∙◌, ℕ, Bool, false, ◌||◌, List, [], ◌∷◌, ◌++◌, map, ap, refl}
use Rattle.serde_json.specs.Data.{Data}
use Rattle.serde_json.specs.View.{items_of}
use Rattle.serde_json.specs.Written.{has_float, items_have_float}
use Rattle.dd_concept.specs.declared.concept.Concept.{Concept}
use Rattle.dd_interp.specs.declared.interp.Interp.{Interp}
use Rattle.dd_task.specs.declared.line.Line.{Line}
use Rattle.dd_task.specs.declared.line.Why.{Why}
use Rattle.dd_task.specs.declared.line.Why.TheVariants as why
use Rattle.dd_answer.specs.declared.answer.Answer.{Answer}
use Rattle.dd_answer.specs.declared.answer.Answer.TheVariants as answer
use Rattle.dd_cert.specs.Printed.{cert_value, concept_data, line_data, link_data, local_data, name_data, numbers_data, role_data, whole_number, why_data}
use Rattle.dd_text.specs.Symbols.{SymbolLists}

-- a list of values of which none has a float
none-in : {A : Type 0} (f : A → Data) → ((a : A) → has_float (f a) ≡ false) → (xs : List A) → items_have_float (items_of (map f xs)) ≡ false
none-in f none [] = refl
none-in f none (x ∷ xs) = ap (λ b. b || items_have_float (items_of (map f xs))) (none x) ∙ none-in f none xs

numbers : (ns : List ℕ) → has_float (numbers_data ns) ≡ false
numbers ns = none-in whole_number (λ n. refl) ns

module _ (s : SymbolLists) where
  why-none : (y : Why) → has_float (why_data s y) ≡ false
  why-none why.Bottom = refl
  why-none (why.Clash a) = refl
  why-none (why.And at cite) = refl
  why-none (why.Or at left right) = refl
  why-none (why.Axiom index left right) = refl
  why-none (why.Cut on left right) = refl
  why-none (why.Successor at cite) = refl
  why-none (why.Bridge from onto set cite each) = ap (λ b. b || (items_have_float (items_of (map whole_number set)) || false)) (numbers each) ∙ ap (λ b. b || false) (numbers set)

  line-none : (l : Line) → has_float (line_data s l) ≡ false
  line-none l = ap (λ b. b || (has_float (why_data s l.why) || false)) (none-in (concept_data s) (λ c. refl) l.label) ∙ ap (λ b. b || false) (why-none l.why)

  local-none : (m : Interp) → has_float (local_data s m) ≡ false
  local-none m = ap (λ b. b || (items_have_float (items_of (map (role_data s) m.roles)) || false)) (none-in (name_data s) (λ n. refl) m.names)
      ∙ ap (λ b. b || false) (none-in (role_data s) (λ r. refl) m.roles)

  pub cert-none : (a : Answer) → has_float (cert_value s a) ≡ false
  cert-none (answer.Yes lines) = ap (λ b. b || false) (none-in (line_data s) line-none lines)
  cert-none (answer.No w) = ap (λ b. b || (items_have_float (items_of (map (local_data s) w.locals)) || false)) (none-in link_data (λ l. refl) w.links)
      ∙ ap (λ b. b || false) (none-in (local_data s) local-none w.locals)
  cert-none (answer.RunSpent run) = refl
  cert-none (answer.VerdictsSpent n) = refl
  cert-none answer.Memory = refl
