-- For private clauses: what is used of a command that clap reads.
use Rattle.std.specs.Prelude.{ℕ, ◌≡◌, Bool, true, false, ◌&&◌, ◌||◌, ◌==◌, not, codes, Option, Some}
use Rattle.std.specs.List.{list_all}
use Rattle.std.specs.Str.{bytes_eq}
use Rattle.clap.specs.Words.{App, Rule, Text, is_simple, is_simple_and_free}
use Rattle.clap.specs.declared.builder.value_parser.ValueParser.{ValueParser}
use Rattle.clap.specs.declared.builder.value_parser.ValueParser.TheVariants as vp

abbrev pub is_unsigned : ℕ → ℕ → Option ValueParser → Bool
is_unsigned least most (Some (vp.Unsigned a b)) = (a == least) && (b == most)
is_unsigned least most p = false

-- a rule of this name takes the numbers from least to most
abbrev pub is_ranged : Text → ℕ → ℕ → Rule → Bool
is_ranged id least most r = not (bytes_eq r.id id) || is_unsigned least most r.parser

abbrev pub are_ranged : Text → ℕ → ℕ → App → Bool
are_ranged id least most a = list_all (is_ranged id least most) a.top.rules

-- clap reads it as its definitions say
pub record Suits (a : App) : Type 0 where
  pub simple : is_simple a ≡ true
  pub free : is_simple_and_free a ≡ true
  pub plain : a.top.is_plain ≡ true
  pub rules : list_all (λ (r : Rule). r.is_simple) a.top.rules ≡ true

-- the options of a session that it has take the numbers of their ranges
pub record SuitsSession (a : App) : Type 0 where
  pub suits : Suits a
  pub workers : are_ranged (codes "workers") 1 16 a ≡ true
  pub window : are_ranged (codes "window") 1 64 a ≡ true
  pub expansions : are_ranged (codes "expansions") 1 200000 a ≡ true
  pub verdicts : are_ranged (codes "verdicts") 1 20000 a ≡ true
  pub cache : are_ranged (codes "cache") 1 1024 a ≡ true

-- the options of the generator that it has take the numbers of their ranges
pub record SuitsGenerator (a : App) : Type 0 where
  pub suits : Suits a
  pub seed : are_ranged (codes "seed") 0 4294967295 a ≡ true
  pub peers : are_ranged (codes "peers") 2 64 a ≡ true
  pub size : are_ranged (codes "size") 1 1000 a ≡ true
