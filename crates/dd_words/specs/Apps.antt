-- What clap is told of each command: its options, each with the numbers that it takes.
use Rattle.std.specs.Prelude.{ℕ, Bool, true, false, codes, Some}
use Rattle.clap.specs.Words.{App, Rule, Text, new_app, new_rule, with_rule}
use Rattle.clap.specs.declared.builder.action.ArgAction.TheVariants.{Set}
use Rattle.clap.specs.declared.builder.value_parser.ValueParser.TheVariants as vp

-- the option --name, which takes one number from least to most
abbrev pub option_rule : Text → ℕ → ℕ → Bool → Rule
option_rule name least most is_needed = record (new_rule name) {
  long = Some name;
  action = Some Set;
  parser = Some (vp.Unsigned least most);
  required = is_needed;
}

-- a command with the bounds of a session, each of which may be left out
abbrev pub bounded : App → App
bounded a = with_rule (with_rule (with_rule (with_rule a
    (option_rule (codes "window") 1 64 false))
    (option_rule (codes "expansions") 1 200000 false))
    (option_rule (codes "verdicts") 1 20000 false))
    (option_rule (codes "cache") 1 1024 false)

-- serve: how many workers there are, and the bounds of a session
unfoldable pub serve_app : App
serve_app = bounded (with_rule (new_app (codes "serve")) (option_rule (codes "workers") 1 16 false))

-- alone: the bounds of a session
unfoldable pub alone_app : App
alone_app = bounded (new_app (codes "alone"))

-- make and drill: the numbers that requests are made from, each of which is needed
unfoldable pub generator_app : Text → App
generator_app name = with_rule (with_rule (with_rule (new_app name)
    (option_rule (codes "seed") 0 4294967295 true))
    (option_rule (codes "peers") 2 64 true))
    (option_rule (codes "size") 1 1000 true)
