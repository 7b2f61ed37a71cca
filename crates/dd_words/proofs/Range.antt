-- The values of a parse passed the parsers of the command that was given.
use Rattle.std.proofs.Common.{◌≡◌, ◌∙◌, ◌<◌, ◌&&◌, ◌||◌, not, ◌==◌, ℕ, zero, suc, Bool, true, false, List, [], ◌∷◌, length, map, codes, Option, Some, None, refl, sym, ap, subst, inl, inr, arith, rules, get_or}
use Rattle.std.specs.Prelude.{option_map, option_and_then, slice_get}
use Rattle.std.specs.List.{All, list_all, slice_index_or}
use Rattle.std.specs.Str.{bytes_eq}
use Rattle.std.specs.Borrow.{Bor}
use Rattle.std.proofs.lemmas.Bool.{cases_lt}
use Rattle.std.proofs.lemmas.List.{get_or-map, length-map}
use Rattle.std.proofs.lemmas.List.Elements.{All-get_or}
use Rattle.std.proofs.lemmas.Slice.Eq.{bytes_eq-Decides}
use Rattle.clap.specs.Facts.{Entry, EntryPasses, PassesArg, IsParsed, args_of, groups_of, parser_of, parser_of_value}
use Rattle.clap.specs.Built.{IsAuto, IsParsedFrom, SameRules, NamesNoGroup}
use Rattle.clap.specs.Words.{App, Rule, Text, IsUnsignedIn, app_of, found_of, has_subcommand, matched_of, rule_of, shape_of}
use Rattle.clap.specs.Values.{Accepts}
use Rattle.clap.specs.declared.builder.arg.Arg.{Arg}
use Rattle.clap.specs.declared.builder.command.Command.{Command}
use Rattle.clap.specs.declared.builder.value_parser.ValueParser.{ValueParser}
use Rattle.clap.specs.declared.builder.value_parser.ValueParser.TheVariants as vp
use Rattle.clap.specs.declared.parser.matches.ArgMatches.{ArgMatches}
use Rattle.clap.specs.declared.parser.matches.MatchedArg.{MatchedArg}
use Rattle.clap.proofs.CallerLemmas.{entry_by_id}
use Rattle.clap.proofs.SimpleLemmas.{plain_fields, simple_groups}
use Rattle.dd_words.specs.Numbers.{Fit, FitsGenerator, FitsSession}
use Rattle.dd_words.specs.Suits.{SuitsGenerator, SuitsSession, is_ranged, is_unsigned}

both : (a b : Bool) → a && b ≡ true → (a ≡ true) × (b ≡ true)
both true b h = (refl, h)
both false b h = cc

number : (m n : ℕ) → (m == n) ≡ true → m ≡ n
number m n h = search rules

passed : (lo hi : ℕ) (q : Option ValueParser) (ignore_case : Bool) (t : Text) → is_unsigned lo hi q ≡ true → Accepts ignore_case (parser_of_value q) t → IsUnsignedIn lo hi t
passed lo hi (Some (vp.Unsigned a b)) ignore_case t e h =
    let low = number a lo (both (a == lo) (b == hi) e).0 in
    let high = number b hi (both (a == lo) (b == hi) e).1 in
    subst (λ n. IsUnsignedIn lo n t) high (subst (λ n. IsUnsignedIn n b t) low h)
passed lo hi None ignore_case t e h = cc
passed lo hi (Some q) ignore_case t e h = cc

rule_at : (p : Rule → Bool) (rs : List Rule) (k : ℕ) (d : Rule) → k < length rs → list_all p rs ≡ true → p (get_or rs k d) ≡ true
rule_at p [] k d lt h = absurd (omega arith)
rule_at p (r ∷ rs) zero d lt h = (both (p r) (list_all p rs) h).0
rule_at p (r ∷ rs) (suc k) d lt h = rule_at p rs k d (omega arith) (both (p r) (list_all p rs) h).1

either : (a b : Bool) → a ≡ true → not a || b ≡ true → b ≡ true
either true b e h = h
either false b e h = cc

module _ (c : Command) (m : ArgMatches) (p : IsParsedFrom c m) (a : App) (is : app_of c ≡ a) (plain : a.top.is_plain ≡ true) (simple : list_all (λ (r : Rule). r.is_simple) a.top.rules ≡ true) where
  fields_plain : (shape_of c).is_plain ≡ true
  fields_plain = ap (λ (b : App). b.top.is_plain) is ∙ plain

  no_names : NamesNoGroup c
  no_names = simple_groups c (ap (λ (b : App). list_all (λ (r : Rule). r.is_simple) b.top.rules) is ∙ simple)

  no_groups : groups_of p.built ≡ []
  no_groups = (p.from.same_groups no_names).1 ∙ (plain_fields c fields_plain).groups

  parsed : IsParsed p.built (found_of m) (has_subcommand m)
  parsed = p.parsed (p.from.globals ∙ (plain_fields c fields_plain).globals)

  module _ (id : Text) (lo hi : ℕ) (ranged : list_all (is_ranged id lo hi) a.top.rules ≡ true) (help : bytes_eq (codes "help") id ≡ false) (version : bytes_eq (codes "version") id ≡ false) (some : 0 < length id) where
    -- an argument of the built command
    at : (t : Text) (j : ℕ) (x : Arg) → j < length (args_of p.built) → slice_index_or (args_of p.built) j x ≡ x
        → bytes_eq x.id.now id ≡ true → Accepts x.ignore_case (parser_of x) t → IsUnsignedIn lo hi t
    at t j x high here same taken = elim (cases_lt j (length (args_of c))) [
      | inl under ↦
          let y = slice_index_or (args_of c) j x in
          let s : SameRules y x = subst (λ w. SameRules y w) here (p.from.kept j x under).1 in
          let rule : is_ranged id lo hi (rule_of y) ≡ true =
          subst (λ r. is_ranged id lo hi r ≡ true) (get_or-map rule_of (args_of c) j x (rule_of x) under)
          (rule_at (is_ranged id lo hi) (map rule_of (args_of c)) j (rule_of x) (omega (arith, length-map (args_of c) rule_of))
          (ap (λ (b : App). list_all (is_ranged id lo hi) b.top.rules) is ∙ ranged)) in
          let named : bytes_eq y.id.now id ≡ true = ap (λ i. bytes_eq i.now id) (sym s.id) ∙ same in
          let unsigned = either (bytes_eq y.id.now id) (is_unsigned lo hi y.value_parser) named rule in
          elim y.value_parser as (λ q. y.value_parser ≡ q → is_unsigned lo hi q ≡ true → IsUnsignedIn lo hi t) [
            | None ↦ λ e u. cc
            | Some q ↦ λ e u. passed lo hi (Some q) x.ignore_case t u (subst (λ (o : Option ValueParser). Accepts x.ignore_case (parser_of_value o) t) (s.parser q e) taken)
          ] refl unsigned
      | inr over ↦
          let auto : IsAuto x = subst IsAuto here (p.from.extra j x over high) in
          absurd (elim auto [
            | inl h ↦ let bad : bytes_eq (codes "help") id ≡ true = ap (λ i. bytes_eq i id) (sym h) ∙ same in cc
            | inr h ↦ let bad : bytes_eq (codes "version") id ≡ true = ap (λ i. bytes_eq i id) (sym h) ∙ same in cc
          ])
    ]

    arg : (t : Text) → PassesArg p.built id t → IsUnsignedIn lo hi t
    arg t h = at t h.0 h.1 h.2 h.3 h.4.0 h.4.1

    entry : (x : MatchedArg) (t : Text) → matched_of (found_of m) id ≡ Some x → option_map (λ s. s.now) (slice_get x.vals.items 0) ≡ Some t
        → ((e : Entry) × (e.1 ≡ x) × (bytes_eq e.0.now id ≡ true) × EntryPasses p.built e) → IsUnsignedIn lo hi t
    entry x t found first got =
        let e = got.0 in
        let key : e.0.now ≡ id = (bytes_eq-Decides e.0.now id).0 got.2 in
        elim got.3.0 [
          | inl group ↦ elim (got.3.3 group) [
            | inl empty ↦ let bad : 0 < 0 = subst (λ (l : Text). 0 < length l) (sym key ∙ empty) some in absurd (omega arith)
            | inr groups ↦ let bad : 0 < 0 = rw no_groups at groups in absurd (omega arith)
          ]
          | inr vals ↦ head e.1.vals.items (ap (λ (y : MatchedArg). option_map (λ (s : Bor Text). s.now) (slice_get y.vals.items 0)) got.1 ∙ first)
              (subst (λ (w : Text). All (λ v. PassesArg p.built w v.now) e.1.vals.items) key vals)
        ]
      where
        head : (vs : List (Bor Text)) → option_map (λ s. s.now) (slice_get vs 0) ≡ Some t → All (λ v. PassesArg p.built id v.now) vs → IsUnsignedIn lo hi t
        head [] h all = cc
        head (v ∷ vs) h all =
            let e : v.now ≡ t = cc in
            subst (IsUnsignedIn lo hi) e (arg v.now (All-get_or (λ w. PassesArg p.built id w.now) (v ∷ vs) 0 v (omega arith) all))

    fit : Fit (found_of m) id lo hi
    fit t h = go (matched_of (found_of m) id) refl h
      where
        go : (o : Option MatchedArg) → matched_of (found_of m) id ≡ o → option_and_then (λ x. option_map (λ s. s.now) (slice_get x.vals.items 0)) o ≡ Some t → IsUnsignedIn lo hi t
        go None e h = cc
        go (Some x) e h = entry x t e h (entry_by_id (EntryPasses p.built) (found_of m).entries.items id x parsed.values e)

-- each option of a session that has a value has one of its range
pub session-fits : (c : Command) (m : ArgMatches) → IsParsedFrom c m → SuitsSession (app_of c) → FitsSession (found_of m)
session-fits c m p s =
    let f = fit c m p (app_of c) refl s.suits.plain s.suits.rules in
    (f (codes "workers") 1 16 s.workers refl refl (omega arith), f (codes "window") 1 64 s.window refl refl (omega arith), f (codes "expansions") 1 200000 s.expansions refl refl (omega arith), f (codes "verdicts") 1 20000 s.verdicts refl refl (omega arith), f (codes "cache") 1 1024 s.cache refl refl (omega arith))

-- and so has each option of the generator
pub generator-fits : (c : Command) (m : ArgMatches) → IsParsedFrom c m → SuitsGenerator (app_of c) → FitsGenerator (found_of m)
generator-fits c m p s =
    let f = fit c m p (app_of c) refl s.suits.plain s.suits.rules in
    (f (codes "seed") 0 4294967295 s.seed refl refl (omega arith), f (codes "peers") 2 64 s.peers refl refl (omega arith), f (codes "size") 1 1000 s.size refl refl (omega arith))
