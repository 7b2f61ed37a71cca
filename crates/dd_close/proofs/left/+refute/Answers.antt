use Rattle.std.proofs.Common.{◌≡◌, ◌∙◌, arith, ap, sym, subst, true, Some}
use Rattle.std.proofs.lemmas.Option.{slice_get_within}
use Rattle.dd_concept.specs.Normal.{nnf_not_of}
use Rattle.dd_graph.specs.View.{view_of}
use Rattle.dd_graph.specs.Right.{adding}
use Rattle.dd_rules.specs.Numbers.{has_joined, joined_of}
use Rattle.dd_set.specs.Words.{has}
use Rattle.dd_close.proofs.Books.{line-kept}
use Rattle.dd_close.proofs.Lefts.{count-left, count-right, joined-one, joined-only, joined-parts}
use Rattle.dd_close.proofs.left.+refute.Goals as goal

pub refute_name-requires-clause-name : goal.refute_name-requires-clause-name
refute_name-requires-clause-name t c = joined-one (has c.args.set.now.words) (view_of c.args.g.now).closure.concepts c.in-Name.name
    (subst (λ x. has_joined (has c.args.set.now.words) (joined_of (view_of c.args.g.now).closure.concepts x) ≡ true) c.in-Name.is c.requires.names)

pub refute_or-requires-clause-within : goal.refute_or-requires-clause-within
refute_or-requires-clause-within t c = slice_get_within (view_of c.args.g.now).closure.concepts c.args.n _ c.requires.number

pub refute_or-requires-clause-parts : goal.refute_or-requires-clause-parts
refute_or-requires-clause-parts t c = (
  c.or_parts-x.result.0,
  c.or_parts-x.result.1,
  c.or_parts-x.ensures.shape,
  line-kept c.refute.new.book c.refute-in-And.new.book (adding c.or_parts-x.result.0 (has c.args.set.now.words)) c.in_ok-left-in-And.left c.in_ok-right-in-And.ensures.adds.kept c.in_ok-left-in-And.ensures.line,
  c.in_ok-right-in-And.ensures.line,
)

pub refute-requires : goal.refute-requires
refute-requires t c =
    let cs = (view_of c.args.g.now).closure.concepts in
    let both = joined-parts (has c.args.set.now.words) cs c.in-And.d c.in-And.e (subst (λ x. has_joined (has c.args.set.now.words) (joined_of cs x) ≡ true) c.in-And.is c.requires.names) in (
      omega (arith, c.decreases, count-left c.args.c.now c.in-And.d c.in-And.e c.get-in-And-2.result.now c.in-And.is c.get-in-And-2.ensures),
      (
        c.requires.book,
        (
          c.requires.width,
          (
            c.or_parts-x.ensures.left ∙ ap (λ x. Some (nnf_not_of x)) (c.get.ensures ∙ sym c.get-in-And-2.ensures),
            subst (λ x. has_joined (has c.args.set.now.words) (joined_of cs x) ≡ true) (sym c.get-in-And-2.ensures) both.0,
          ),
        ),
      ),
    )

pub refute-requires-in-And : goal.refute-requires-in-And
refute-requires-in-And t c =
    let cs = (view_of c.args.g.now).closure.concepts in
    let both = joined-parts (has c.args.set.now.words) cs c.in-And.d c.in-And.e (subst (λ x. has_joined (has c.args.set.now.words) (joined_of cs x) ≡ true) c.in-And.is c.requires.names) in (
      omega (arith, c.decreases, count-right c.args.c.now c.in-And.d c.in-And.e c.get-in-And-3.result.now c.in-And.is c.get-in-And-3.ensures),
      (
        c.in_ok-left-in-And.ensures.adds.book,
        (
          c.requires.width,
          (
            c.or_parts-x.ensures.right ∙ ap (λ x. Some (nnf_not_of x)) (c.get-in-And.ensures ∙ sym c.get-in-And-3.ensures),
            subst (λ x. has_joined (has c.args.set.now.words) (joined_of cs x) ≡ true) (sym c.get-in-And-3.ensures) both.1,
          ),
        ),
      ),
    )

pub unreachable-requires : goal.unreachable-requires
unreachable-requires t c = joined-only (has c.args.set.now.words) (view_of c.args.g.now).closure.concepts c.args.c.now c.requires.names c.in_default.not-Top c.in_default.not-Name c.in_default.not-And
