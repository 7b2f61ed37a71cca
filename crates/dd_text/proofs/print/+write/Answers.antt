use Rattle.dd_text.proofs.Printing.{on_ok, prints-And, prints-HasAll, prints-HasSome, prints-Not, prints-Or}
use Rattle.dd_text.proofs.print.+write.Goals as goal

pub write_concept-returns-in-Not : goal.write_concept-returns-in-Not
write_concept-returns-in-Not t c =
    on_ok c.write_part.result (prints-Not c.args.symbols.now c.args.c.now c.args.out.now.items c.in-Not.d c.get.result.now c.write_part.new.out.items c.in-Not.is c.get.ensures) c.write_part.ensures

pub write_concept-returns-in_ok-write_part-in-And : goal.write_concept-returns-in_ok-write_part-in-And
write_concept-returns-in_ok-write_part-in-And t c =
    on_ok c.write_part-in-And-2.result
    (prints-And c.args.symbols.now c.args.c.now c.args.out.now.items c.in-And.d c.in-And.e c.get-in-And.result.now c.get-in-And-2.result.now c.write_part-in-And.new.out.items c.write_part-in-And-2.new.out.items
    c.in-And.is c.get-in-And.ensures c.get-in-And-2.ensures c.in_ok-write_part-in-And.ensures) c.write_part-in-And-2.ensures

pub write_concept-returns-in_ok-write_part-in-Or : goal.write_concept-returns-in_ok-write_part-in-Or
write_concept-returns-in_ok-write_part-in-Or t c =
    on_ok c.write_part-in-Or-2.result
    (prints-Or c.args.symbols.now c.args.c.now c.args.out.now.items c.in-Or.d c.in-Or.e c.get-in-Or.result.now c.get-in-Or-2.result.now c.write_part-in-Or.new.out.items c.write_part-in-Or-2.new.out.items
    c.in-Or.is c.get-in-Or.ensures c.get-in-Or-2.ensures c.in_ok-write_part-in-Or.ensures) c.write_part-in-Or-2.ensures

pub write_concept-returns-in_ok-write_role-in-HasSome : goal.write_concept-returns-in_ok-write_role-in-HasSome
write_concept-returns-in_ok-write_role-in-HasSome t c =
    on_ok c.write_part-in-HasSome.result
    (prints-HasSome c.args.symbols.now c.args.c.now c.args.out.now.items c.in-HasSome.r c.in-HasSome.d c.get-in-HasSome.result.now c.write_role.new.out.items c.write_part-in-HasSome.new.out.items
    c.in-HasSome.is c.get-in-HasSome.ensures c.in_ok-write_role-in-HasSome.ensures) c.write_part-in-HasSome.ensures

pub write_concept-returns-in_ok-write_role-in-HasAll : goal.write_concept-returns-in_ok-write_role-in-HasAll
write_concept-returns-in_ok-write_role-in-HasAll t c =
    on_ok c.write_part-in-HasAll.result
    (prints-HasAll c.args.symbols.now c.args.c.now c.args.out.now.items c.in-HasAll.r c.in-HasAll.d c.get-in-HasAll.result.now c.write_role-in-HasAll.new.out.items c.write_part-in-HasAll.new.out.items
    c.in-HasAll.is c.get-in-HasAll.ensures c.in_ok-write_role-in-HasAll.ensures) c.write_part-in-HasAll.ensures
