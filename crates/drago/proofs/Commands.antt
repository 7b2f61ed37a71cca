-- What is done for the words, by the command that they give.
use Rattle.std.proofs.Common.{◌≡◌, ◌∙◌, ℕ, List, [], ◌∷◌, codes, Option, refl, sym, ap, subst, ◌↔◌, arith}
use Rattle.std.proofs.lemmas.Slice.Eq.{bytes_eq-Decides}
use Rattle.dd_read.specs.declared.options.Options.{Options}
use Rattle.dd_server.specs.Headline.{Output}
use Rattle.dd_server.specs.declared.status.Status.{Status}
use Rattle.dd_server.specs.declared.status.Status.TheVariants as status
use Rattle.dd_server.proofs.Runs.{nothing_yet}
use Rattle.dd_words.specs.Apps.{alone_app, generator_app}
use Rattle.dd_words.specs.Numbers.{generated_of, session_of}
use Rattle.dd_words.specs.Words.{Begins, IsCommand}
use Rattle.dd_words.specs.declared.command.Command.{Command}
use Rattle.dd_words.specs.declared.command.Command.TheVariants as command
use Rattle.dd_words.specs.declared.command.Generated.{Generated}
use Rattle.dd_words.specs.declared.command.Options.{Options as Numbers}
use Rattle.dd_words.specs.declared.command.WordsErr.{WordsErr}
use Rattle.dd_words.specs.declared.command.WordsErr.TheVariants as err
use Rattle.drago.specs.Drilled.{GivesDrilled}
use Rattle.drago.specs.Made.{GivesMade}
use Rattle.drago.specs.Obeys.{Obeys, options_of}

-- the first word has one name
begins_one : (a b : List ℕ) (words : List (List ℕ)) → Begins a words → Begins b words → a ≡ b
begins_one a b [] h k = absurd h
begins_one a b (w ∷ ws) h k = sym ((bytes_eq-Decides w a).0 h) ∙ (bytes_eq-Decides w b).0 k

-- the first letter, by which the names differ
abbrev first : List ℕ → ℕ
first [] = 0
first (x ∷ xs) = x

alone_make : codes "alone" ≡ codes "make" → ⊥
alone_make e = let h : 97 ≡ 109 = ap first e in omega (arith, h)

alone_drill : codes "alone" ≡ codes "drill" → ⊥
alone_drill e = let h : 97 ≡ 100 = ap first e in omega (arith, h)

make_drill : codes "make" ≡ codes "drill" → ⊥
make_drill e = let h : 109 ≡ 100 = ap first e in omega (arith, h)

module _ (words : List (List ℕ)) where
  module _ (s : Status) (old new before given : Option (List ℕ)) where
    pub by_alone : (c : Command) → IsCommand c words → Obeys c s old new before given → Begins (codes "alone") words
        → Output (options_of (session_of alone_app words)) s old new before given
    by_alone (command.Serve n) is o b = absurd o
    by_alone (command.Alone n) is o b = subst (λ (m : Numbers). Output (options_of m) s old new before given) is.2 o
    by_alone (command.Make g) is o b = absurd (alone_make (begins_one (codes "alone") (codes "make") words b is.0))
    by_alone (command.Drill g) is o b = absurd (alone_drill (begins_one (codes "alone") (codes "drill") words b is.0))

    pub by_make : (c : Command) → IsCommand c words → Obeys c s old new before given → Begins (codes "make") words
        → GivesMade (generated_of (generator_app (codes "make")) words) s before given
    by_make (command.Serve n) is o b = absurd o
    by_make (command.Alone n) is o b = absurd (alone_make (begins_one (codes "alone") (codes "make") words is.0 b))
    by_make (command.Make g) is o b = subst (λ (m : Generated). GivesMade m s before given) is.2 o.1
    by_make (command.Drill g) is o b = absurd (make_drill (begins_one (codes "make") (codes "drill") words b is.0))

    pub by_drill : (c : Command) → IsCommand c words → Obeys c s old new before given → Begins (codes "drill") words
        → GivesDrilled (generated_of (generator_app (codes "drill")) words) s before given
    by_drill (command.Serve n) is o b = absurd o
    by_drill (command.Alone n) is o b = absurd (alone_drill (begins_one (codes "alone") (codes "drill") words is.0 b))
    by_drill (command.Make g) is o b = absurd (make_drill (begins_one (codes "make") (codes "drill") words is.0 b))
    by_drill (command.Drill g) is o b = subst (λ (m : Generated). GivesDrilled m s before given) is.2 o.1

-- where there is no command, the words are none or there was no memory, and nothing was read or given
pub without : (o : Options) (e : WordsErr) (s : Status) (old before : Option (List ℕ)) → (s ≡ status.Words) ↔ (e ≡ err.Words) → (s ≡ status.Memory) ↔ (e ≡ err.NoMemory)
    → Output o s old old before before
without o err.Words s old before words memory = subst (λ (t : Status). Output o t old old before before) (sym (words.1 refl)) (refl, refl)
without o err.NoMemory s old before words memory = subst (λ (t : Status). Output o t old old before before) (sym (memory.1 refl)) (nothing_yet o old before)
