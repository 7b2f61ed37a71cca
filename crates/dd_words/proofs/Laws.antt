-- The commands suit clap's definitions, and what it finds are the numbers of the words.
use Rattle.std.proofs.Common.{◌≡◌, ◌∙◌, Bool, true, false, List, refl, ap}
use Rattle.clap.specs.Words.{App, Text, first_of, first_value, matches_of, rows_of}
use Rattle.clap.specs.declared.parser.matches.Found.{Found}
use Rattle.clap.proofs.OnLiterals.{clap_on_literals}
use Rattle.clap.proofs.WalkLemmas.{first_value-rows}
use Rattle.dd_words.specs.Apps.{alone_app, generator_app, serve_app}
use Rattle.dd_words.specs.Numbers.{generated_by, generated_of, session_by, session_of}
use Rattle.dd_words.specs.Suits.{SuitsGenerator, SuitsSession}

pub not_taken : (b : Bool) → (b ≡ true → ⊥) → b ≡ false
not_taken true h = absurd (h refl)
not_taken false h = refl

pub session-rows : (a : App) (f : Found) (words : List Text) → rows_of f ≡ matches_of a words → session_by (first_value f) ≡ session_of a words
session-rows a f words h =
    let value : (id : Text) → first_value f id ≡ first_of id (matches_of a words) = λ id. first_value-rows f id ∙ ap (first_of id) h in
    ap session_by (λ i id. value id i)

pub generated-rows : (a : App) (f : Found) (words : List Text) → rows_of f ≡ matches_of a words → generated_by (first_value f) ≡ generated_of a words
generated-rows a f words h =
    let value : (id : Text) → first_value f id ≡ first_of id (matches_of a words) = λ id. first_value-rows f id ∙ ap (first_of id) h in
    ap generated_by (λ i id. value id i)

pub serve-suits : SuitsSession serve_app
unfolding clap_on_literals serve_app
serve-suits = record { suits = record { simple = refl; free = refl; plain = refl; rules = refl }; workers = refl; window = refl; expansions = refl; verdicts = refl; cache = refl }

pub alone-suits : SuitsSession alone_app
unfolding clap_on_literals alone_app
alone-suits = record { suits = record { simple = refl; free = refl; plain = refl; rules = refl }; workers = refl; window = refl; expansions = refl; verdicts = refl; cache = refl }

pub generator-suits : (name : Text) → SuitsGenerator (generator_app name)
unfolding clap_on_literals generator_app
generator-suits name = record { suits = record { simple = refl; free = refl; plain = refl; rules = refl }; seed = refl; peers = refl; size = refl }
