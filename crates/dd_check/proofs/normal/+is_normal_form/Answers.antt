-- Each form by the lemma on its parts.
use Rattle.std.proofs.Common.{not}
use Rattle.dd_concept.specs.Same.{is_same}
use Rattle.dd_check.specs.Parts.{joined_of, normal_by, quantified_of}
use Rattle.dd_check.proofs.NormalWalk.{along-else, along-none, along-then, all-walk, and-walk, both-else, both-none, both-then, or-walk, some-walk}
use Rattle.dd_check.proofs.normal.+is_normal_form.Goals as goal

pub returns-then-is_normal_form : goal.returns-then-is_normal_form
returns-then-is_normal_form t c =
    both-then c.args.kept c.in-And.d c.in-And.e (joined_of c.args.kept c.args.a.now) (is_same (normal_by c.args.kept c.args.c.now) c.args.a.now)
    (and-walk c.args.kept c.in-And.d c.in-And.e c.args.c.now c.args.a.now c.in-And.is) c.joined.result c.joined.ensures c.in-Some.x c.in-Some.y c.in-Some.is
    c.get-in-Some.result.now c.get-then-is_normal_form.result.now c.get-in-Some.ensures c.get-then-is_normal_form.ensures
    c.is_normal_form-in-Some.result c.is_normal_form-then-is_normal_form.result c.is_normal_form-in-Some.ensures c.if-is_normal_form.true c.is_normal_form-then-is_normal_form.ensures

pub returns-else-is_normal_form : goal.returns-else-is_normal_form
returns-else-is_normal_form t c =
    both-else c.args.kept c.in-And.d c.in-And.e (joined_of c.args.kept c.args.a.now) (is_same (normal_by c.args.kept c.args.c.now) c.args.a.now)
    (and-walk c.args.kept c.in-And.d c.in-And.e c.args.c.now c.args.a.now c.in-And.is) c.joined.result c.joined.ensures c.in-Some.x c.in-Some.y c.in-Some.is
    c.get-in-Some.result.now c.get-in-Some.ensures c.is_normal_form-in-Some.result c.is_normal_form-in-Some.ensures c.if-is_normal_form.false

pub returns-in-None : goal.returns-in-None
returns-in-None t c =
    both-none c.args.kept c.in-And.d c.in-And.e (joined_of c.args.kept c.args.a.now) (is_same (normal_by c.args.kept c.args.c.now) c.args.a.now)
    (and-walk c.args.kept c.in-And.d c.in-And.e c.args.c.now c.args.a.now c.in-And.is) c.joined.result c.joined.ensures c.in-None.is

pub returns-then-is_normal_form-2 : goal.returns-then-is_normal_form-2
returns-then-is_normal_form-2 t c =
    both-then c.args.kept c.in-Or.d c.in-Or.e (joined_of (not c.args.kept) c.args.a.now) (is_same (normal_by c.args.kept c.args.c.now) c.args.a.now)
    (or-walk c.args.kept c.in-Or.d c.in-Or.e c.args.c.now c.args.a.now c.in-Or.is) c.joined-in-Or.result c.joined-in-Or.ensures c.in-Some-joined.x c.in-Some-joined.y c.in-Some-joined.is
    c.get-in-Some-joined.result.now c.get-then-is_normal_form-2.result.now c.get-in-Some-joined.ensures c.get-then-is_normal_form-2.ensures
    c.is_normal_form-in-Some-joined.result c.is_normal_form-then-is_normal_form-2.result c.is_normal_form-in-Some-joined.ensures c.if-is_normal_form-2.true c.is_normal_form-then-is_normal_form-2.ensures

pub returns-else-is_normal_form-2 : goal.returns-else-is_normal_form-2
returns-else-is_normal_form-2 t c =
    both-else c.args.kept c.in-Or.d c.in-Or.e (joined_of (not c.args.kept) c.args.a.now) (is_same (normal_by c.args.kept c.args.c.now) c.args.a.now)
    (or-walk c.args.kept c.in-Or.d c.in-Or.e c.args.c.now c.args.a.now c.in-Or.is) c.joined-in-Or.result c.joined-in-Or.ensures c.in-Some-joined.x c.in-Some-joined.y c.in-Some-joined.is
    c.get-in-Some-joined.result.now c.get-in-Some-joined.ensures c.is_normal_form-in-Some-joined.result c.is_normal_form-in-Some-joined.ensures c.if-is_normal_form-2.false

pub returns-in-None-joined : goal.returns-in-None-joined
returns-in-None-joined t c =
    both-none c.args.kept c.in-Or.d c.in-Or.e (joined_of (not c.args.kept) c.args.a.now) (is_same (normal_by c.args.kept c.args.c.now) c.args.a.now)
    (or-walk c.args.kept c.in-Or.d c.in-Or.e c.args.c.now c.args.a.now c.in-Or.is) c.joined-in-Or.result c.joined-in-Or.ensures c.in-None-joined.is

pub returns-then-r-s : goal.returns-then-r-s
returns-then-r-s t c =
    along-then c.args.kept c.in-HasSome.r c.in-HasSome.d (quantified_of c.args.kept c.args.a.now) (is_same (normal_by c.args.kept c.args.c.now) c.args.a.now)
    (some-walk c.args.kept c.in-HasSome.r c.in-HasSome.d c.args.c.now c.args.a.now c.in-HasSome.is) c.quantified.result c.quantified.ensures c.in-Some-quantified.s c.in-Some-quantified.x c.in-Some-quantified.is
    c.get-then-r-s.result.now c.get-then-r-s.ensures c.is_normal_form-then-r-s.result c.if-r-s.true c.is_normal_form-then-r-s.ensures

pub returns-else-r-s : goal.returns-else-r-s
returns-else-r-s t c =
    along-else c.args.kept c.in-HasSome.r c.in-HasSome.d (quantified_of c.args.kept c.args.a.now) (is_same (normal_by c.args.kept c.args.c.now) c.args.a.now)
    (some-walk c.args.kept c.in-HasSome.r c.in-HasSome.d c.args.c.now c.args.a.now c.in-HasSome.is) c.quantified.result c.quantified.ensures c.in-Some-quantified.s c.in-Some-quantified.x c.in-Some-quantified.is c.if-r-s.false

pub returns-in-None-quantified : goal.returns-in-None-quantified
returns-in-None-quantified t c =
    along-none c.args.kept c.in-HasSome.r c.in-HasSome.d (quantified_of c.args.kept c.args.a.now) (is_same (normal_by c.args.kept c.args.c.now) c.args.a.now)
    (some-walk c.args.kept c.in-HasSome.r c.in-HasSome.d c.args.c.now c.args.a.now c.in-HasSome.is) c.quantified.result c.quantified.ensures c.in-None-quantified.is

pub returns-then-r-s-2 : goal.returns-then-r-s-2
returns-then-r-s-2 t c =
    along-then c.args.kept c.in-HasAll.r c.in-HasAll.d (quantified_of (not c.args.kept) c.args.a.now) (is_same (normal_by c.args.kept c.args.c.now) c.args.a.now)
    (all-walk c.args.kept c.in-HasAll.r c.in-HasAll.d c.args.c.now c.args.a.now c.in-HasAll.is) c.quantified-in-HasAll.result c.quantified-in-HasAll.ensures c.in-Some-quantified-2.s c.in-Some-quantified-2.x c.in-Some-quantified-2.is
    c.get-then-r-s-2.result.now c.get-then-r-s-2.ensures c.is_normal_form-then-r-s-2.result c.if-r-s-2.true c.is_normal_form-then-r-s-2.ensures

pub returns-else-r-s-2 : goal.returns-else-r-s-2
returns-else-r-s-2 t c =
    along-else c.args.kept c.in-HasAll.r c.in-HasAll.d (quantified_of (not c.args.kept) c.args.a.now) (is_same (normal_by c.args.kept c.args.c.now) c.args.a.now)
    (all-walk c.args.kept c.in-HasAll.r c.in-HasAll.d c.args.c.now c.args.a.now c.in-HasAll.is) c.quantified-in-HasAll.result c.quantified-in-HasAll.ensures c.in-Some-quantified-2.s c.in-Some-quantified-2.x c.in-Some-quantified-2.is c.if-r-s-2.false

pub returns-in-None-quantified-2 : goal.returns-in-None-quantified-2
returns-in-None-quantified-2 t c =
    along-none c.args.kept c.in-HasAll.r c.in-HasAll.d (quantified_of (not c.args.kept) c.args.a.now) (is_same (normal_by c.args.kept c.args.c.now) c.args.a.now)
    (all-walk c.args.kept c.in-HasAll.r c.in-HasAll.d c.args.c.now c.args.a.now c.in-HasAll.is) c.quantified-in-HasAll.result c.quantified-in-HasAll.ensures c.in-None-quantified-2.is
