use Rattle.std.proofs.Common.{◌<◌, ℕ, List, length, inl, refl, rules, subst, sym, All}
use Rattle.dd_answer.specs.declared.answer.Answer.TheVariants as answer
use Rattle.dd_wire.specs.declared.reply.Origin.TheVariants.{Search}
use Rattle.dd_read.specs.ReadingState.{state_of}
use Rattle.dd_server.proofs.Looking.{relevant-pinned}
use Rattle.dd_server.proofs.SameAsks.{left-named, right-named}
use Rattle.dd_server.proofs.look.look_up_ask.Goals as goal

pub key_of-key-requires-clause-left : goal.key_of-key-requires-clause-left
key_of-key-requires-clause-left c = left-named c.args.reading.now.symbols c.args.ask.job c.requires.fit.job

pub key_of-key-requires-clause-right : goal.key_of-key-requires-clause-right
key_of-key-requires-clause-right c = right-named c.args.reading.now.symbols c.args.ask.job c.requires.fit.job

pub key_of-key-requires-clause-pinned : goal.key_of-key-requires-clause-pinned
key_of-key-requires-clause-pinned c =
    let count = length c.args.ask.pin.versions in
    subst (λ (peers : List ℕ). All (λ (peer : ℕ). peer < count) peers) (sym c.as_slice.ensures) (relevant-pinned (state_of c.args.reading.now) c.args.ask c.requires.fit)

pub look_up_key-requires-clause-key : goal.look_up_key-requires-clause-key
look_up_key-requires-clause-key c = search rules

pub returns-in-Err-clause-looks : goal.returns-in-Err-clause-looks
returns-in-Err-clause-looks c = inl (record {
  given = record { from = Search; answer = answer.Memory };
  reply = c.want_of_memory.result;
  looked_is = refl;
  looks = (∣ tt ∣₁, inl (refl, refl));
  replies = c.want_of_memory.ensures;
})
