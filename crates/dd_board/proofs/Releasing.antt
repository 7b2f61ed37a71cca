-- All tasks of a session are given back.
use Rattle.std.proofs.Common.{◌≡◌, ◌∙◌, ℕ, zero, suc, ◌+◌, List, [], ◌∷◌, ◌++◌, map, length, fold, Option, None, Some, ap, refl, sym, arith, option_map, option_and_then, add-one}
use Rattle.std.specs.List.{slice_get, range_with_len}
use Rattle.std.specs.Option.{option_map_or}
use Rattle.std.proofs.lemmas.List.{length-map}
use Rattle.dd_board.specs.declared.event.Event.TheVariants as event
use Rattle.dd_board.specs.declared.session.Holding.{Holding}
use Rattle.dd_board.specs.declared.session.Slot.{Slot}
use Rattle.dd_board.specs.declared.session.Session.{Session}
use Rattle.dd_board.specs.View.{Holder, Task, SessionView, change_at}
use Rattle.dd_board.specs.Steps.{given_back, apply}
use Rattle.dd_board.specs.Allowed.{IsHeld}
use Rattle.dd_board.specs.Releases.{give_held, released}
use Rattle.dd_board.specs.Sessions.{holder_of, task_of, session_view}
use Rattle.dd_board.proofs.Changes.{length-changed}
use Rattle.dd_board.proofs.Sitting.{task-at}

module _ (s : Session) (t : ℕ) (slot : Slot) (at : slice_get s.tasks t ≡ Some slot) where
  holder-is : option_and_then (λ (task : Task). task.holder) (slice_get (session_view s).tasks t) ≡ option_map holder_of slot.holder
  holder-is = ap (option_and_then (λ (task : Task). task.holder)) (task-at s t slot at)

  pub give-free : slot.holder ≡ None → session_view s ≡ give_held (session_view s) t
  give-free free = sym (ap (λ o. option_map_or (λ (h : Holder). apply (session_view s) (event.Give t h.number) []) o (session_view s)) (holder-is ∙ ap (option_map holder_of) free))

  pub give-out : (h : Holding) → slot.holder ≡ Some h → apply (session_view s) (event.Give t h.number) [] ≡ give_held (session_view s) t
  give-out h out = sym (ap (λ o. option_map_or (λ (h : Holder). apply (session_view s) (event.Give t h.number) []) o (session_view s)) (holder-is ∙ ap (option_map holder_of) out))

  pub held-so : (h : Holding) → slot.holder ≡ Some h → IsHeld (session_view s) t h.number
  held-so h out = record { task = task_of slot; at = task-at s t slot at; holder = holder_of h; held = ap (option_map holder_of) out; with_number = refl }

fold-end : {A B : Type 0} (f : A → B → A) (a : A) (xs : List B) (x : B) → fold f a (xs ++ x ∷ []) ≡ f (fold f a xs) x
fold-end f a [] x = refl
fold-end f a (y ∷ xs) x = fold-end f (f a y) xs x

range-last : (a n : ℕ) → range_with_len a (suc n) ≡ range_with_len a n ++ (a + n) ∷ []
range-last a zero = ap (λ x. x ∷ []) (omega arith)
range-last a (suc n) = ap (λ xs. a ∷ xs) (range-last (a + 1) n ∙ ap (λ x. range_with_len (a + 1) n ++ x ∷ []) (omega arith))

-- the first n tasks are given back
abbrev pub released_to : ℕ → SessionView → SessionView
released_to n v = fold give_held v (range_with_len 0 n)

pub released-next : (n : ℕ) (v : SessionView) → give_held (released_to n v) n ≡ released_to (n + 1) v
released-next n v = sym (ap (λ m. released_to m v) (add-one n) ∙ (ap (fold give_held v) (range-last 0 n ∙ ap (λ x. range_with_len 0 n ++ x ∷ []) (omega arith)) ∙ fold-end give_held v (range_with_len 0 n) n))

give-length : (v : SessionView) (t : ℕ) → length (give_held v t).tasks ≡ length v.tasks
give-length v t = by (option_and_then (λ (task : Task). task.holder) (slice_get v.tasks t))
  where
    by : (o : Option Holder) → length (option_map_or (λ (h : Holder). apply v (event.Give t h.number) []) o v).tasks ≡ length v.tasks
    by None = refl
    by (Some h) = length-changed Task given_back v.tasks t

fold-length : (v : SessionView) (ts : List ℕ) → length (fold give_held v ts).tasks ≡ length v.tasks
fold-length v [] = refl
fold-length v (t ∷ ts) = fold-length (give_held v t) ts ∙ give-length v t

pub released-length : (s start : Session) (n : ℕ) → session_view s ≡ released_to n (session_view start) → length s.tasks ≡ length start.tasks
released-length s start n e =
    sym (length-map s.tasks task_of) ∙ (ap (λ (v : SessionView). length v.tasks) e ∙ (fold-length (session_view start) (range_with_len 0 n) ∙ length-map start.tasks task_of))

pub released-end : (s start : Session) (n : ℕ) → n ≡ length start.tasks → session_view s ≡ released_to n (session_view start) → session_view s ≡ released (session_view start)
released-end s start n is e = e ∙ ap (λ m. released_to m (session_view start)) (is ∙ sym (length-map start.tasks task_of))

-- ---- several sessions

abbrev pub first_released : ℕ → List SessionView → List SessionView
first_released zero vs = vs
first_released (suc n) [] = []
first_released (suc n) (v ∷ vs) = released v ∷ first_released n vs

pub release-next : (n : ℕ) (vs : List SessionView) → change_at released (first_released n vs) n ≡ first_released (n + 1) vs
release-next n vs = more n vs ∙ ap (λ m. first_released m vs) (sym (add-one n))
  where
    more : (n : ℕ) (vs : List SessionView) → change_at released (first_released n vs) n ≡ first_released (suc n) vs
    more zero [] = refl
    more zero (v ∷ vs) = refl
    more (suc n) [] = refl
    more (suc n) (v ∷ vs) = ap (λ ws. released v ∷ ws) (more n vs)

pub release-all : (vs : List SessionView) (n : ℕ) → n ≡ length vs → first_released n vs ≡ map released vs
release-all vs n e = ap (λ m. first_released m vs) e ∙ all vs
  where
    all : (vs : List SessionView) → first_released (length vs) vs ≡ map released vs
    all [] = refl
    all (v ∷ vs) = ap (λ ws. released v ∷ ws) (all vs)
