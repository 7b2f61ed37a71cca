-- What a reply decides holds.
use Rattle.std.proofs.Common.{◌≡◌, ◌∙◌, ℕ, zero, suc, Bool, true, false, List, [], ◌∷◌, Some, ap, refl, subst, sym}
use Rattle.std.specs.Prelude.{slice_get}
use Rattle.std.proofs.Math.Logic.{∥∥₁_elim}
use Rattle.std.proofs.Props.{props}
use Rattle.std.proofs.lemmas.Option.{same_Some}
use Rattle.serde_json.specs.declared.value.Value.{Value}
use Rattle.dd_peer.specs.declared.version.Pin.{Pin}
use Rattle.dd_check.proofs.Sound.{derived-follows}
use Rattle.dd_world.specs.World.{Follows}
use Rattle.dd_world.proofs.Refutes.{refutes}
use Rattle.dd_answer.specs.declared.answer.Answer.{Answer}
use Rattle.dd_answer.specs.declared.answer.Answer.TheVariants as answer
use Rattle.dd_outcome.specs.Answers.{Answers}
use Rattle.dd_text.specs.Symbols.{SymbolLists}
use Rattle.dd_wire.specs.declared.reply.Origin.{Origin}
use Rattle.dd_wire.specs.declared.reply.Reply.{Reply}
use Rattle.dd_wire.specs.declared.reply.Reply.TheVariants as reply
use Rattle.dd_read.specs.declared.kept.Ask.{Ask}
use Rattle.dd_read.specs.declared.kept.Kept.{Kept}
use Rattle.dd_read.specs.declared.kept.Kept.TheVariants.{Finished, Asked}
use Rattle.dd_server.specs.Finish.{Answered, Entries, LookUpAll, LooksUpItem, Replies, RepliesItem, ReplyAll, Told}
use Rattle.dd_server.specs.Verdicts.{IsTrueOf, Says, VerdictsHold}

-- what an ask was given, and that the reply tells it
record IsGiven (s : SymbolLists) (ask : Ask) (given : Reply) : Type 0 where
  pub told : Answered
  pub answers : ∥ Answers ask.job told.answer ∥₁
  pub replies : Replies s ask.id ask.pin told.from told.answer given

module _ (s : SymbolLists) (ask : Ask) (given : Reply) where
  at-item : (k : Kept) (t : Told) (r : Reply) (a b : Entries) → LooksUpItem s k a b t → RepliesItem s t r → k ≡ Asked ask → r ≡ given → IsGiven s ask given
  at-item (Finished done) t r a b looks replies is same = absurd (cc is)
  at-item (Asked other) t r a b looks replies is same =
      let one : other ≡ ask = cc is in
      let told : Replies s other.id other.pin looks.0.from looks.0.answer r = subst (λ (x : Told). RepliesItem s x r) looks.1 replies in
      record {
        told = looks.0;
        answers = subst (λ (x : Ask). ∥ Answers x.job looks.0.answer ∥₁) one looks.2.0;
        replies = subst (λ (x : Reply). Replies s ask.id ask.pin looks.0.from looks.0.answer x) same (subst (λ (x : Ask). Replies s x.id x.pin looks.0.from looks.0.answer r) one told);
      }

  given-at : (ks : List Kept) (ts : List Told) (rs : List Reply) (a b : Entries) (n : ℕ) → LookUpAll s ks a b ts → ReplyAll s ts rs
      → slice_get ks n ≡ Some (Asked ask) → slice_get rs n ≡ Some given → IsGiven s ask given
  given-at [] ts rs a b n looks replies is same = absurd (cc is)
  given-at (k ∷ ks) ts rs a b zero looks replies is same =
      let all : ReplyAll s (looks.0 ∷ looks.1) rs = subst (λ (xs : List Told). ReplyAll s xs rs) looks.3 replies in
      at-item k looks.0 all.0 a looks.2 looks.4 all.3 (same_Some k (Asked ask) is) (same_Some all.0 given (ap (λ (xs : List Reply). slice_get xs 0) (sym all.2) ∙ same))
  given-at (k ∷ ks) ts rs a b (suc m) looks replies is same =
      let all : ReplyAll s (looks.0 ∷ looks.1) rs = subst (λ (xs : List Told). ReplyAll s xs rs) looks.3 replies in
      given-at ks looks.1 all.1 looks.2 b m looks.5 all.4 is (ap (λ (xs : List Reply). slice_get xs (suc m)) (sym all.2) ∙ same)

  decides : (x : Answer) (from : Origin) → ∥ Answers ask.job x ∥₁ → Replies s ask.id ask.pin from x given → IsTrueOf ask given
  decides (answer.Yes lines) from h r id verdict origin pin cert is =
      let yes : true ≡ verdict = cc (r.2, is) in
      subst (λ b. Says b (Follows ask.job.pinned ask.job.query)) yes (∥∥₁_elim h (hlevel props) (λ y. derived-follows ask.job.pinned ask.job.query lines y.derives))
  decides (answer.No w) from h r id verdict origin pin cert is =
      let no_is : false ≡ verdict = cc (r.2, is) in
      subst (λ b. Says b (Follows ask.job.pinned ask.job.query)) no_is (∥∥₁_elim h (hlevel props) (λ y. refutes ask.job.pinned ask.job.query w y.counter))
  decides (answer.RunSpent run) from h r id verdict origin pin cert is = absurd (cc (r, is))
  decides (answer.VerdictsSpent n) from h r id verdict origin pin cert is = absurd (cc (r, is))
  decides answer.Memory from h r id verdict origin pin cert is = absurd (cc (r, is))

pub verdicts_hold : VerdictsHold
verdicts_hold capacity s kept old new replies f n ask given asked_at given_at =
    let told = given-at s ask given kept f.0 replies old f.1 n f.2 f.4 asked_at given_at in
    decides s ask given told.told.answer told.told.from told.answers told.replies
