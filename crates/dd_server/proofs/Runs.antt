-- Whole runs: the lines so far led to where the session stands, and what was given is the replies of the windows that ended.
use Rattle.std.proofs.Common.{◌≡◌, ℕ, ◌+◌, ◌<◌, ◌≤◌, ◌⊎◌, List, [], ◌∷◌, ◌++◌, length, take, refl, ap, sym, ◌∙◌, subst, inl, inr, arith, Option, None, Some, IfSome, zero, suc, length-append, zero-add}
use Rattle.std.specs.Prelude.{flat_map, map}
use Rattle.std.proofs.Math.Nat.{suc-add}
use Rattle.std.proofs.lemmas.List.{append-nil, append_assoc}
use Rattle.std.proofs.lemmas.Option.{same_Some}
use Rattle.std.specs.List.{slice_get}
use Rattle.std.specs.declared.vec.Vec.{Vec}
use Rattle.dd_text.specs.Symbols.{texts_of}
use Rattle.dd_lines.specs.Lines.{lines_of, ended_lines, IsCut}
use Rattle.dd_lines.specs.NextLine.{StandsFor, IsFirst, Next, Over, TakesNoFeed, TakesTooMuch}
use Rattle.dd_lines.specs.Outside.{Gives, GivesFront, Rose, TakesFront}
use Rattle.dd_lines.specs.Reading.{Reading, room, ahead}
use Rattle.dd_lines.specs.declared.reader.LineStep.{LineStep}
use Rattle.dd_lines.specs.declared.reader.LineStep.TheVariants as step
use Rattle.dd_lines.proofs.Feeds.{ended_lines-feed, ended_lines-none}
use Rattle.dd_wire.specs.Replies.{reply_text}
use Rattle.dd_wire.specs.declared.reply.Reply.{Reply}
use Rattle.dd_read.specs.declared.options.Options.{Options}
use Rattle.dd_read.specs.Standing.{TakesLine}
use Rattle.dd_read.specs.declared.accepted.Accepted.{Accepted}
use Rattle.dd_read.specs.declared.accepted.Accepted.TheVariants.{Due, More}
use Rattle.dd_server.specs.Headline.{most_bytes, Cause, GivesAll, GivesFirst, GivesSome, Limit, Output, WereRead, GivesRead, GivesWithin}
use Rattle.dd_server.specs.Finish.{Entries}
use Rattle.dd_server.specs.Session.{FinishesAt, Session, Standing, Through, Turn, opening, written}
use Rattle.dd_server.specs.Turns.{BreaksOff, EndsAs, IsFinished, IsHalfFinished, IsLine, Turned}
use Rattle.dd_server.specs.Windows.{line_text}
use Rattle.dd_server.specs.declared.status.Status.{Status}
use Rattle.dd_server.specs.declared.status.Status.TheVariants as status
use Rattle.dd_server.proofs.GoesOn.{through-turn, completes}

-- ---- what is given

gives_nothing : (b : Option (List ℕ)) → Gives b b []
gives_nothing None = refl
gives_nothing (Some xs) = sym (append-nil xs)

gives_both : (a b c : Option (List ℕ)) (xs ys : List ℕ) → Gives a b xs → Gives b c ys → Gives a c (xs ++ ys)
gives_both None None c xs ys f g = g
gives_both None (Some bs) c xs ys f g = absurd (apart f)
  where
    apart : Some bs ≡ None → ⊥
    apart e = cc e
gives_both (Some as') None c xs ys f g = absurd f
gives_both (Some as') (Some bs) None xs ys f g = absurd g
gives_both (Some as') (Some bs) (Some cs) xs ys f g = g ∙ ap (λ (zs : List ℕ). zs ++ ys) f ∙ append_assoc as' xs ys

front_after : (a b c : Option (List ℕ)) (xs ys : List ℕ) → Gives a b xs → GivesFront b c ys → GivesFront a c (xs ++ ys)
front_after a b c xs ys f g = (xs ++ g.0, g.1, ap (λ (zs : List ℕ). xs ++ zs) g.2 ∙ sym (append_assoc xs g.0 g.1), gives_both a b c xs g.0 f g.3)

front_before : (a b : Option (List ℕ)) (xs ys : List ℕ) → GivesFront a b xs → GivesFront a b (xs ++ ys)
front_before a b xs ys g = (g.0, g.1 ++ ys, ap (λ (zs : List ℕ). zs ++ ys) g.2 ∙ append_assoc g.0 g.1 ys, g.3)

written-append : (rs ss : List Reply) → written (rs ++ ss) ≡ written rs ++ written ss
written-append [] ss = refl
written-append (r ∷ rs) ss = ap (λ (zs : List ℕ). (reply_text r ++ 10 ∷ []) ++ zs) (written-append rs ss) ∙ sym (append_assoc (reply_text r ++ 10 ∷ []) (written rs) (written ss))

-- the texts of replies with their line feeds, one after another, are what is written of them
pub written-lines : (rs : List Reply) → flat_map (λ line. line) (map line_text rs) ≡ written rs
written-lines [] = refl
written-lines (r ∷ rs) = ap (λ (zs : List ℕ). line_text r ++ zs) (written-lines rs)

-- the lines before one of them, that line, and what is behind it
around : {A : Type 0} (vs : List (Vec ℕ A)) (n : ℕ) (v : Vec ℕ A) → slice_get vs n ≡ Some v
    → (rest : List ℕ) × (flat_map (λ line. line) (texts_of vs) ≡ (flat_map (λ line. line) (texts_of (take n vs)) ++ v.items) ++ rest)
around [] n v is = absurd (cc is)
around (w ∷ vs) zero v is = (flat_map (λ line. line) (texts_of vs), ap (λ (u : Vec ℕ _). u.items ++ flat_map (λ line. line) (texts_of vs)) (same_Some w v is))
around (w ∷ vs) (suc n) v is =
    let more = around vs n v is in
    let before = flat_map (λ line. line) (texts_of (take n vs)) in (
      more.0,
      ap (λ (zs : List ℕ). w.items ++ zs) more.1 ∙ sym (append_assoc w.items (before ++ v.items) more.0) ∙ ap (λ (zs : List ℕ). zs ++ more.0) (sym (append_assoc w.items before v.items)),
    )

-- the lines before one were given, and a front of that one: a front of all was given
pub front-of-lines : {A : Type 0} (vs : List (Vec ℕ A)) (n : ℕ) (v : Vec ℕ A) (a b c : Option (List ℕ)) → slice_get vs n ≡ Some v
    → Gives a b (flat_map (λ line. line) (texts_of (take n vs))) → GivesFront b c v.items → GivesFront a c (flat_map (λ line. line) (texts_of vs))
front-of-lines vs n v a b c is f g =
    let parts = around vs n v is in
    let before = flat_map (λ line. line) (texts_of (take n vs)) in
    subst (GivesFront a c) (sym parts.1) (front_before a c (before ++ v.items) parts.0 (front_after a b c before v.items f g))

-- ---- a window and its lines

-- what was written of a window that was finished
pub finished-of : (o : Options) (at : Standing) (new : Entries) (texts : List (List ℕ)) (before after : Option (List ℕ))
    → ((replies : List Reply) × FinishesAt o at new replies × (texts ≡ map line_text replies)) → Gives before after (flat_map (λ line. line) texts)
    → IsFinished o at new before after
finished-of o at new texts before after h g = (h.0, h.1, subst (Gives before after) (ap (flat_map (λ line. line)) h.2 ∙ written-lines h.0) g)

pub half-finished-of : (o : Options) (at : Standing) (new : Entries) (texts : List (List ℕ)) (before after : Option (List ℕ))
    → ((replies : List Reply) × FinishesAt o at new replies × (texts ≡ map line_text replies)) → GivesFront before after (flat_map (λ line. line) texts)
    → IsHalfFinished o at new before after
half-finished-of o at new texts before after h g = (h.0, h.1, subst (GivesFront before after) (ap (flat_map (λ line. line)) h.2 ∙ written-lines h.0) g)

-- a line was taken, and its window goes on
pub more-turned : (o : Options) (a b : Standing) (answer : Accepted) (line : List ℕ) (given : Option (List ℕ)) → answer ≡ More
    → TakesLine o a.reading line b.reading answer → b.entries ≡ a.entries → Turned o a line b given given
more-turned o a b answer line given is takes same = (
  [],
  (
    b.reading,
    More,
    subst (TakesLine o a.reading line b.reading) is takes,
    (ap (λ (es : Entries). let s : Standing = record { reading = b.reading; entries = es } in s) same, refl),
  ),
  gives_nothing given,
)

-- a line was taken, and its window was finished
due-turn : (o : Options) (a m b : Standing) (answer : Accepted) (line : List ℕ) (replies : List Reply) → answer ≡ Due → TakesLine o a.reading line m.reading answer
    → m.entries ≡ a.entries → FinishesAt o m b.entries replies → b.reading ≡ record m.reading { kept = [] } → Turn o a line b replies
due-turn o a m b answer line replies is takes same finishes empty = (
  m.reading,
  Due,
  subst (TakesLine o a.reading line m.reading) is takes,
  (subst (λ (es : Entries). FinishesAt o (record { reading = m.reading; entries = es }) b.entries replies) same finishes, empty),
)

pub due-turned : (o : Options) (a m b : Standing) (answer : Accepted) (line : List ℕ) (before after : Option (List ℕ)) → answer ≡ Due → TakesLine o a.reading line m.reading answer
    → m.entries ≡ a.entries → IsFinished o m b.entries before after → b.reading ≡ record m.reading { kept = [] } → Turned o a line b before after
due-turned o a m b answer line before after is takes same f empty = (f.0, due-turn o a m b answer line f.0 is takes same f.1 empty, f.2)

pub due-broken : (o : Options) (a m b : Standing) (answer : Accepted) (line : List ℕ) (before after : Option (List ℕ)) → answer ≡ Due → TakesLine o a.reading line m.reading answer
    → m.entries ≡ a.entries → IsHalfFinished o m b.entries before after → b.reading ≡ record m.reading { kept = [] } → BreaksOff o a line b before after
due-broken o a m b answer line before after is takes same f empty = (f.0, due-turn o a m b answer line f.0 is takes same f.1 empty, f.2)

-- ---- a run

-- How far a session over this input has come: these bytes of it are passed and the rest is ahead (`now`), with so much space
-- for bytes; the lines that were passed led to where it stands, and what was given is the replies of the windows that they
-- ended. They are those whose line feed was passed, but for a last one that lacks it.
pub record SoFar (o : Options) (input : List ℕ) (now before given : Option (List ℕ)) (space : ℕ) (at : Standing) : Type 0 where
  pub rest : List ℕ
  pub is_ahead : now ≡ Some rest
  pub sum : most_bytes + length rest ≡ space + length input
  pub passed : List ℕ
  pub input_is : input ≡ passed ++ rest
  pub lines : List (List ℕ)
  pub lines_are : lines_of input ≡ lines ++ lines_of rest
  pub ended : ((more : List ℕ) → ended_lines (passed ++ more) ≡ lines ++ ended_lines more) ⊎ (rest ≡ [])
  pub replies : List Reply
  pub through : Through o opening lines at replies
  pub gives : Gives before given (written replies)

-- the same where the source tells its input
abbrev pub IsSoFar : Options → (old now before given : Option (List ℕ)) → ℕ → Standing → Type 0
IsSoFar o old now before given space at = IfSome old (λ input. SoFar o input now before given space at)

pub reaches_start : (o : Options) (old before : Option (List ℕ)) → IsSoFar o old old before before most_bytes opening
reaches_start o None before = tt
reaches_start o (Some input) before = record {
  rest = input;
  is_ahead = refl;
  sum = refl;
  passed = [];
  input_is = refl;
  lines = [];
  lines_are = refl;
  ended = inl (λ more. refl);
  replies = [];
  through = (refl, refl);
  gives = gives_nothing before;
}

-- what a reader's answer says of what was ahead and is ahead now
abbrev pub Steps : ℕ → LineStep → (now later : Option (List ℕ)) → (space less : ℕ) → Type 0
Steps max s now later space less = IfSome now (λ all. (rest : List ℕ) × (later ≡ Some rest) × Next max s all rest space less)

-- the line of a step, and the rest behind it
pub record Parts (max : ℕ) (s : LineStep) (all : List ℕ) (later : Option (List ℕ)) (space less : ℕ) : Type 0 where
  pub rest : List ℕ
  pub is_ahead : later ≡ Some rest
  pub line : List ℕ
  pub stands : StandsFor max s line
  pub cut : IsCut all line rest
  pub lines : lines_of all ≡ line ∷ lines_of rest
  pub sum : space + length rest ≡ less + length all

parts : (max : ℕ) (s : LineStep) (now later : Option (List ℕ)) (all : List ℕ) (space less : ℕ) → IsLine s → now ≡ Some all → Steps max s now later space less
    → Parts max s all later space less
parts max s now later all space less is e h = at s is (subst (λ (o : Option (List ℕ)). Steps max s o later space less) e h)
  where
    first : (s : LineStep) (rest : List ℕ) → later ≡ Some rest → IsFirst max s all rest space less → Parts max s all later space less
    first s rest ahead f = record { rest = rest; is_ahead = ahead; line = f.0; stands = f.1; cut = f.2; lines = f.3; sum = f.4 }

    at : (s : LineStep) → IsLine s → Steps max s (Some all) later space less → Parts max s all later space less
    at (step.Line v) is h = first (step.Line v) h.0 h.1 h.2
    at step.TooLong is h = first step.TooLong h.0 h.1 h.2
    at step.End is h = absurd is

-- one more line is passed
pub record Longer (passed rest : List ℕ) (input : List ℕ) (lines : List (List ℕ)) : Type 0 where
  pub bytes : List ℕ
  pub input_is : input ≡ bytes ++ rest
  pub ended : ((more : List ℕ) → ended_lines (bytes ++ more) ≡ lines ++ ended_lines more) ⊎ (rest ≡ [])

longer : (passed rest line behind input : List ℕ) (lines : List (List ℕ)) → input ≡ passed ++ rest
    → ((more : List ℕ) → ended_lines (passed ++ more) ≡ lines ++ ended_lines more) ⊎ (rest ≡ [])
    → IsCut rest line behind → Longer passed behind input (lines ++ line ∷ [])
longer passed rest line behind input lines is ended cut = by_cut cut.1
  where
    by_cut : (rest ≡ line ++ 10 ∷ behind) ⊎ ((rest ≡ line) × (behind ≡ []) × (0 < length line)) → Longer passed behind input (lines ++ line ∷ [])
    by_cut (inr last) = record {
      bytes = passed ++ rest;
      input_is = is ∙ sym (append-nil (passed ++ rest)) ∙ ap (λ (v : List ℕ). (passed ++ rest) ++ v) (sym last.1);
      ended = inr last.1;
    }
    by_cut (inl feed) = record {
      bytes = passed ++ (line ++ 10 ∷ []);
      input_is = is ∙ ap (λ (v : List ℕ). passed ++ v) feed ∙ ap (λ (v : List ℕ). passed ++ v) (sym (append_assoc line (10 ∷ []) behind)) ∙ sym (append_assoc passed (line ++ 10 ∷ []) behind);
      ended = inl (by_before ended);
    }
      where
        by_before : ((more : List ℕ) → ended_lines (passed ++ more) ≡ lines ++ ended_lines more) ⊎ (rest ≡ [])
            → (more : List ℕ) → ended_lines ((passed ++ (line ++ 10 ∷ [])) ++ more) ≡ (lines ++ line ∷ []) ++ ended_lines more
        by_before (inl before) more =
            ap ended_lines (append_assoc passed (line ++ 10 ∷ []) more ∙ ap (λ (v : List ℕ). passed ++ v) (append_assoc line (10 ∷ []) more))
            ∙ before (line ++ 10 ∷ more)
            ∙ ap (λ (v : List (List ℕ)). lines ++ v) (ended_lines-feed line more cut.0)
            ∙ sym (append_assoc lines (line ∷ []) (ended_lines more))
        by_before (inr none) more =
            let size : length rest ≡ length line + length (10 ∷ behind) = ap length feed ∙ length-append line (10 ∷ behind) in
            let zero : length rest ≡ 0 = ap length none in
            absurd (omega arith)

pub reaches_turn : (o : Options) (max : ℕ) (s : LineStep) (old now later before given after : Option (List ℕ)) (space less : ℕ) (at next : Standing) → IsLine s
    → IsSoFar o old now before given space at → Steps max s now later space less → ((line : List ℕ) → StandsFor max s line → Turned o at line next given after)
    → IsSoFar o old later before after less next
reaches_turn o max s None now later before given after space less at next is r h turned = tt
reaches_turn o max s (Some input) now later before given after space less at next is r h turned =
    let p = parts max s now later r.rest space less is r.is_ahead h in
    let t = turned p.line p.stands in
    let l = longer r.passed r.rest p.line p.rest input r.lines r.input_is r.ended p.cut in
    record {
      rest = p.rest;
      is_ahead = p.is_ahead;
      sum = omega (arith, r.sum, p.sum);
      passed = l.bytes;
      input_is = l.input_is;
      lines = r.lines ++ p.line ∷ [];
      lines_are = r.lines_are ∙ ap (λ (v : List (List ℕ)). r.lines ++ v) p.lines ∙ sym (append_assoc r.lines (p.line ∷ []) (lines_of p.rest));
      ended = l.ended;
      replies = r.replies ++ t.0;
      through = through-turn o opening at next r.lines p.line r.replies t.0 r.through t.1;
      gives = subst (Gives before after) (sym (written-append r.replies t.0)) (gives_both before given after (written r.replies) (written t.0) r.gives t.2);
    }

-- ---- how a run ends

-- the source has nothing left where nothing is ahead
nothing_left : (r : Reading) (left : Option (List ℕ)) → ahead r left ≡ Some [] → left ≡ Some []
nothing_left r None e = absurd (apart e)
  where
    apart : (let o : Option (List ℕ) = None in o) ≡ Some [] → ⊥
    apart e = cc e
nothing_left r (Some xs) e = ap Some (tail r.held xs (inside e))
  where
    inside : Some (r.held ++ xs) ≡ Some [] → r.held ++ xs ≡ []
    inside e = cc e

    tail : (hs xs : List ℕ) → hs ++ xs ≡ [] → xs ≡ []
    tail [] xs e = e
    tail (h ∷ hs) xs e = absurd (cons e)
      where
        cons : h ∷ (hs ++ xs) ≡ [] → ⊥
        cons e = cc e

-- the last window was finished at the end of the source
module _ (o : Options) (input : List ℕ) (before given after : Option (List ℕ)) (space : ℕ) (at : Standing) (entries : Entries) (more : List Reply) where
  all_lines : (now : Option (List ℕ)) → (reached : SoFar o input now before given space at) → reached.rest ≡ [] → lines_of input ≡ reached.lines
  all_lines now reached none = reached.lines_are ∙ ap (λ (xs : List ℕ). reached.lines ++ lines_of xs) none ∙ append-nil reached.lines

  last_session : (now : Option (List ℕ)) → (reached : SoFar o input now before given space at) → reached.rest ≡ [] → FinishesAt o at entries more → Session o input (reached.replies ++ more)
  last_session now reached none finishes = (
    at,
    reached.replies,
    entries,
    more,
    subst (λ (ls : List (List ℕ)). Through o opening ls at reached.replies) (sym (all_lines now reached none)) reached.through,
    finishes,
    refl,
  )

ends_with : (max : ℕ) (now later : Option (List ℕ)) (rest : List ℕ) (space less : ℕ) → now ≡ Some rest → Steps max step.End now later space less → (rest ≡ []) × (later ≡ Some [])
ends_with max now later rest space less is h =
    let e : Steps max step.End (Some rest) later space less = subst (λ (o : Option (List ℕ)). Steps max step.End o later space less) is h in
    (e.2.0, e.1 ∙ ap Some e.2.1)

pub done : (o : Options) (max : ℕ) (old now before given after left : Option (List ℕ)) (r : Reading) (space less : ℕ) (at : Standing) (entries : Entries)
    → IsSoFar o old now before given space at → Steps max step.End now (ahead r left) space less → IsFinished o at entries given after
    → IfSome old (λ input. (left ≡ Some []) × GivesAll o input before after)
done o max None now before given after left r space less at entries reached h f = tt
done o max (Some input) now before given after left r space less at entries reached h f =
    let e = ends_with max now (ahead r left) reached.rest space less reached.is_ahead h in (
      nothing_left r left e.1,
      (
        reached.replies ++ f.0,
        last_session o input before given after space at entries f.0 now reached e.0 f.1,
        subst (Gives before after) (sym (written-append reached.replies f.0)) (gives_both before given after (written reached.replies) (written f.0) reached.gives f.2),
      ),
    )

-- the sink failed while the last window was written
pub broken_end : (o : Options) (max : ℕ) (old now later before given after : Option (List ℕ)) (space less : ℕ) (at : Standing) (entries : Entries)
    → IsSoFar o old now before given space at → Steps max step.End now later space less → IsHalfFinished o at entries given after
    → IfSome old (λ input. GivesSome o input before after)
broken_end o max None now later before given after space less at entries reached h f = tt
broken_end o max (Some input) now later before given after space less at entries reached h f =
    let e = ends_with max now later reached.rest space less reached.is_ahead h in (
      reached.replies ++ f.0,
      last_session o input before given after space at entries f.0 now reached e.0 f.1,
      subst (GivesFront before after) (sym (written-append reached.replies f.0)) (front_after before given after (written reached.replies) (written f.0) reached.gives f.2),
    )

pub done_limit : (o : Options) (max : ℕ) (old now before given later : Option (List ℕ)) (space less : ℕ) (at : Standing)
    → IsSoFar o old now before given space at → Steps max step.End now later space less → IfSome old (λ input. length input ≤ most_bytes)
done_limit o max None now before given later space less at reached h = tt
done_limit o max (Some input) now before given later space less at reached h =
    let ends : Steps max step.End (Some reached.rest) later space less = subst (λ (o : Option (List ℕ)). Steps max step.End o later space less) reached.is_ahead h in
    omega (arith, reached.sum, ap length ends.2.0)

pub over_limit : (o : Options) (old now before given : Option (List ℕ)) (space : ℕ) (at : Standing)
    → IsSoFar o old now before given space at → IfSome now (Over space) → IfSome old (λ input. most_bytes < length input)
over_limit o None now before given space at reached h = tt
over_limit o (Some input) now before given space at reached h =
    let over : Over space reached.rest = subst (λ (o : Option (List ℕ)). IfSome o (Over space)) reached.is_ahead h in
    omega (arith, reached.sum, over.0)

first_of : (o : Options) (input : List ℕ) (now before given : Option (List ℕ)) (space : ℕ) (at : Standing) → SoFar o input now before given space at → GivesFirst o input before given
first_of o input now before given space at r =
    let more = completes o input r.lines (lines_of r.rest) at r.replies r.lines_are r.through in
    (r.replies, more.0, more.1, r.gives)

pub stopped : (o : Options) (old now before given : Option (List ℕ)) (space : ℕ) (at : Standing) → IsSoFar o old now before given space at
    → IfSome old (λ input. GivesFirst o input before given)
stopped o None now before given space at r = tt
stopped o (Some input) now before given space at r = first_of o input now before given space at r

-- before the first line nothing was given
pub nothing_yet : (o : Options) (old before : Option (List ℕ)) → IfSome old (λ input. GivesFirst o input before before)
nothing_yet o old before = stopped o old old before before most_bytes opening (reaches_start o old before)

-- the bytes that were taken, where the source tells them: those that were passed, those that were held and these
took : (o : Options) (input : List ℕ) (before given : Option (List ℕ)) (r : Reading) (left rest : Option (List ℕ)) (bytes : List ℕ) (space : ℕ) (at : Standing)
    → (reached : SoFar o input (ahead r left) before given space at) → TakesFront left rest bytes
    → (ys : List ℕ) × (rest ≡ Some ys) × (reached.rest ≡ (r.held ++ bytes) ++ ys) × (input ≡ (reached.passed ++ (r.held ++ bytes)) ++ ys)
took o input before given r None rest bytes space at reached t = absurd (apart reached.is_ahead)
  where
    apart : (let o : Option (List ℕ) = None in o) ≡ Some reached.rest → ⊥
    apart e = cc e
took o input before given r (Some xs) None bytes space at reached t = absurd t
took o input before given r (Some xs) (Some ys) bytes space at reached t =
    let rest : reached.rest ≡ (r.held ++ bytes) ++ ys = sym (inside reached.is_ahead) ∙ ap (λ (v : List ℕ). r.held ++ v) t ∙ sym (append_assoc r.held bytes ys) in
    (ys, refl, rest, reached.input_is ∙ ap (λ (v : List ℕ). reached.passed ++ v) rest ∙ sym (append_assoc reached.passed (r.held ++ bytes) ys))
  where
    inside : Some (r.held ++ xs) ≡ Some reached.rest → r.held ++ xs ≡ reached.rest
    inside e = cc e

-- no bytes are all bytes of a list that has none
no_more : (xs ys : List ℕ) → xs ++ ys ≡ [] → ys ≡ []
no_more [] ys e = e
no_more (x ∷ xs) ys e = absurd (cons e)
  where
    cons : x ∷ (xs ++ ys) ≡ [] → ⊥
    cons e = cc e

-- the source failed
pub failed : (o : Options) (old left before given rest : Option (List ℕ)) (r new : Reading) (space : ℕ) (at : Standing)
    → IsSoFar o old (ahead r left) before given space at → TakesNoFeed r left new rest
    → IfSome old (λ input. GivesFirst o input before given × GivesRead o input rest before given)
failed o None left before given rest r new space at reached t = tt
failed o (Some input) left before given rest r new space at reached t =
    let k = took o input before given r left rest t.0 space at reached t.1.0 in
    let taken = reached.passed ++ (r.held ++ t.0) in (
      first_of o input (ahead r left) before given space at reached,
      (taken, k.0, k.3, k.1, reached.lines, were_read taken k.0 k.3 k.2 reached.ended, (at, reached.replies, reached.through, reached.gives)),
    )
  where
    were_read : (taken ys : List ℕ) → input ≡ taken ++ ys → reached.rest ≡ (r.held ++ t.0) ++ ys
        → ((more : List ℕ) → ended_lines (reached.passed ++ more) ≡ reached.lines ++ ended_lines more) ⊎ (reached.rest ≡ [])
        → WereRead (reached.passed ++ (r.held ++ t.0)) ys reached.lines
    were_read taken ys is rest (inl ended) =
        inl (sym (append-nil reached.lines) ∙ ap (λ (v : List (List ℕ)). reached.lines ++ v) (sym (ended_lines-none (r.held ++ t.0) t.2)) ∙ sym (ended (r.held ++ t.0)))
    were_read taken ys is rest (inr none) =
        let empty : ys ≡ [] = no_more (r.held ++ t.0) ys (sym rest ∙ none) in
        let same : reached.passed ++ (r.held ++ t.0) ≡ input = ap (λ (v : List ℕ). reached.passed ++ v) (sym (append-nil (r.held ++ t.0)) ∙ ap (λ (v : List ℕ). (r.held ++ t.0) ++ v) (sym empty) ∙ sym rest) ∙ sym reached.input_is in
        inr (empty, sym (ap lines_of same ∙ reached.lines_are ∙ ap (λ (v : List ℕ). reached.lines ++ lines_of v) none ∙ append-nil reached.lines))

-- the source gave too much
pub too_much : (o : Options) (old left before given rest : Option (List ℕ)) (r new : Reading) (at : Standing)
    → IsSoFar o old (ahead r left) before given (room r) at → IfSome (ahead r left) (Over (room r)) × TakesTooMuch r left new rest
    → IfSome old (λ input. GivesFirst o input before given × GivesWithin o input rest before given)
too_much o None left before given rest r new at reached both = tt
too_much o (Some input) left before given rest r new at reached both =
    let t = both.1 in
    let k = took o input before given r left rest t.0 (room r) at reached t.1.0 in
    let seen = r.held ++ t.0 in
    let taken = reached.passed ++ seen in
    let whole : length input ≡ length reached.passed + length reached.rest = ap length reached.input_is ∙ length-append reached.passed reached.rest in
    let passed : length reached.passed + room r ≡ most_bytes = omega (arith, whole, reached.sum) in
    let count : length taken ≡ most_bytes + 1 = length-append reached.passed seen ∙ omega (arith, passed, t.3) in
    let within : take most_bytes taken ≡ reached.passed ++ take (room r) seen = ap (λ (n : ℕ). take n taken) (sym passed) ∙ take_past reached.passed seen (room r) in (
      first_of o input (ahead r left) before given (room r) at reached,
      (
        taken,
        k.0,
        k.3,
        k.1,
        count,
        (
          at,
          reached.replies,
          subst (λ (ls : List (List ℕ)). Through o opening ls at reached.replies) (by_ended reached.ended ∙ ap ended_lines (sym within)) reached.through,
          reached.gives,
        ),
      ),
    )
  where
    take_past : (xs ys : List ℕ) (n : ℕ) → take (length xs + n) (xs ++ ys) ≡ xs ++ take n ys
    take_past [] ys n = ap (λ (k : ℕ). take k ys) (zero-add n)
    take_past (x ∷ xs) ys n = ap (λ (k : ℕ). take k (x ∷ (xs ++ ys))) (suc-add (length xs) n) ∙ ap (λ (v : List ℕ). x ∷ v) (take_past xs ys n)

    by_ended : ((more : List ℕ) → ended_lines (reached.passed ++ more) ≡ reached.lines ++ ended_lines more) ⊎ (reached.rest ≡ [])
        → reached.lines ≡ ended_lines (reached.passed ++ take (room r) (r.held ++ both.1.0))
    by_ended (inl ended) =
        let front = take (room r) (r.held ++ both.1.0) in
        sym (append-nil reached.lines) ∙ ap (λ (v : List (List ℕ)). reached.lines ++ v) (sym (ended_lines-none front both.1.4)) ∙ sym (ended front)
    by_ended (inr none) =
        let over : Over (room r) reached.rest = subst (λ (o : Option (List ℕ)). IfSome o (Over (room r))) reached.is_ahead both.0 in
        let zero : length reached.rest ≡ 0 = ap length none in
        let more = over.0 in
        absurd (omega (arith, more, zero))

pub broken : (o : Options) (max : ℕ) (s : LineStep) (old now later before given after : Option (List ℕ)) (space less : ℕ) (at next : Standing) → IsLine s
    → IsSoFar o old now before given space at → Steps max s now later space less → ((line : List ℕ) → StandsFor max s line → BreaksOff o at line next given after)
    → IfSome old (λ input. GivesSome o input before after)
broken o max s None now later before given after space less at next is r h breaks = tt
broken o max s (Some input) now later before given after space less at next is r h breaks =
    let p = parts max s now later r.rest space less is r.is_ahead h in
    let t = breaks p.line p.stands in
    let lines : lines_of input ≡ (r.lines ++ p.line ∷ []) ++ lines_of p.rest
    = r.lines_are ∙ ap (λ (v : List (List ℕ)). r.lines ++ v) p.lines ∙ sym (append_assoc r.lines (p.line ∷ []) (lines_of p.rest)) in
    let more = completes o input (r.lines ++ p.line ∷ []) (lines_of p.rest) next (r.replies ++ t.0) lines (through-turn o opening at next r.lines p.line r.replies t.0 r.through t.1) in
    let front = front_before before after (written r.replies ++ written t.0) (written more.0) (front_after before given after (written r.replies) (written t.0) r.gives t.2) in (
      (r.replies ++ t.0) ++ more.0,
      more.1,
      subst (GivesFront before after) (sym (written-append (r.replies ++ t.0) more.0 ∙ ap (λ (zs : List ℕ). zs ++ written more.0) (written-append r.replies t.0))) front,
    )

-- ---- how the last window ended

pub ends_output : (o : Options) (max : ℕ) (s : Status) (old now before given after left : Option (List ℕ)) (r : Reading) (space less write write' : ℕ) (at : Standing)
    → IsSoFar o old now before given space at → Steps max step.End now (ahead r left) space less → EndsAs o at s given after write write'
    → Output o s old left before after
ends_output o max status.Done old now before given after left r space less write write' at reached h e = done o max old now before given after left r space less at e.0 reached h e.1
ends_output o max status.Memory old now before given after left r space less write write' at reached h e =
    subst (λ (x : Option (List ℕ)). IfSome old (λ input. GivesFirst o input before x)) (sym e) (stopped o old now before given space at reached)
ends_output o max status.WriteFault old now before given after left r space less write write' at reached h e =
    broken_end o max old now (ahead r left) before given after space less at e.0 reached h e.1
ends_output o max status.Words old now before given after left r space less write write' at reached h e = absurd e
ends_output o max status.ReadFault old now before given after left r space less write write' at reached h e = absurd e
ends_output o max status.TooMuch old now before given after left r space less write write' at reached h e = absurd e

rose-from : (old mid new : ℕ) → old ≤ mid → Rose mid new → Rose old new
rose-from old mid new le (inl lt) = inl (omega (arith, le, lt))
rose-from old mid new le (inr most) = inr most

pub ends_cause : (o : Options) (s : Status) (given after : Option (List ℕ)) (read read' start write write' : ℕ) (at : Standing)
    → start ≤ write → EndsAs o at s given after write write' → Cause s read read' start write'
ends_cause o status.Done given after read read' start write write' at le e = tt
ends_cause o status.Memory given after read read' start write write' at le e = tt
ends_cause o status.WriteFault given after read read' start write write' at le e = rose-from start write write' le e.2
ends_cause o status.Words given after read read' start write write' at le e = absurd e
ends_cause o status.ReadFault given after read read' start write write' at le e = absurd e
ends_cause o status.TooMuch given after read read' start write write' at le e = absurd e

pub ends_limit : (o : Options) (max : ℕ) (s : Status) (old now before given after later : Option (List ℕ)) (space less write write' : ℕ) (at : Standing)
    → IsSoFar o old now before given space at → Steps max step.End now later space less → EndsAs o at s given after write write' → Limit s old
ends_limit o max status.Done old now before given after later space less write write' at reached h e = done_limit o max old now before given later space less at reached h
ends_limit o max status.Memory old now before given after later space less write write' at reached h e = tt
ends_limit o max status.WriteFault old now before given after later space less write write' at reached h e = tt
ends_limit o max status.Words old now before given after later space less write write' at reached h e = absurd e
ends_limit o max status.ReadFault old now before given after later space less write write' at reached h e = absurd e
ends_limit o max status.TooMuch old now before given after later space less write write' at reached h e = absurd e

pub ends_without_words : (o : Options) (s : Status) (given after : Option (List ℕ)) (write write' : ℕ) (at : Standing) → EndsAs o at s given after write write' → s ≡ status.Words → ⊥
ends_without_words o s given after write write' at e is = subst (λ (x : Status). EndsAs o at x given after write write') is e
