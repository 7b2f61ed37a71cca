use Rattle.std.proofs.Common.{◌∙◌, ◌∷◌, [], ℕ, List, length, length-append, map, sym, subst, arith}
use Rattle.std.proofs.lemmas.List.{map-append}
use Rattle.dd_server.specs.ServerState.{session_of}
use Rattle.drago.specs.Drills.{HasDrilled}
use Rattle.drago.proofs.Drilling.{drills_more, one_more}
use Rattle.drago.proofs.drill.answered.Goals as goal

pub loop-line-preserved : goal.loop-line-preserved
loop-line-preserved c =
    let l = c.loop-line in
    let line = c.in-Some.line in
    let done = c.in_ok-answer_line.ensures in
    let lengths = length-append l.yielded (line ∷ []) in
    let more = drills_more (map (λ l. l.items) l.yielded) line.items (session_of l.server) (session_of c.answer_line.new.server) l.kinds.items c.answer_line.new.kinds.items
    l.invariant.drilled done.adds in
    record {
      drilled = subst (λ (ls : List (List ℕ)). HasDrilled ls (session_of c.answer_line.new.server) c.answer_line.new.kinds.items)
          (sym (map-append (λ l. l.items) l.yielded (line ∷ []))) more;
      room = done.room;
      options = c.answer_line.ensures.options ∙ l.invariant.options;
      count = omega (arith, lengths, done.count, l.invariant.count);
      sum = one_more l.yielded line l.line-iterator.rest.items c.next.new.self.rest.items (length c.args.lines.items) c.in-Some.ensures.steps.0 l.invariant.sum;
    }
