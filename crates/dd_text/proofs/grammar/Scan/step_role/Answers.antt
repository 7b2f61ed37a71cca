use Rattle.std.proofs.Common.{◌≡◌, ◌∙◌, ap, false, Bool, true, refl}
use Rattle.std.specs.Prelude.{◌&&◌, ◌==◌}
use Rattle.std.proofs.lemmas.Bool.{ne_eqb}
use Rattle.dd_text.specs.Names.{names_a_thing}
use Rattle.dd_text.specs.Automaton.{extends, role_step}
use Rattle.dd_text.proofs.Steps.{stays, role_stays}
use Rattle.dd_text.proofs.grammar.Scan.step_role.Goals as goal

and-false : (a : Bool) → a && false ≡ false
and-false true = refl
and-false false = refl

pub returns-then-byte-ne32 : goal.returns-then-byte-ne32
returns-then-byte-ne32 c =
    let s = c.args.self.now in
    let short : extends s.word c.args.byte ≡ false = cc in
    stays (role_step s c.args.byte) s (role_stays s c.args.byte short (ap (λ b. b && names_a_thing s.word) (ne_eqb c.args.byte 32 c.if-byte-ne32.true)))

pub returns-then-not-is_name : goal.returns-then-not-is_name
returns-then-not-is_name c =
    let s = c.args.self.now in
    let short : extends s.word c.args.byte ≡ false = cc in
    let no_name : names_a_thing s.word ≡ false = cc in
    stays (role_step s c.args.byte) s (role_stays s c.args.byte short (ap (λ b. (c.args.byte == 32) && b) no_name ∙ and-false (c.args.byte == 32)))
