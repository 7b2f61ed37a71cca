use Rattle.std.proofs.Common.{◌≡◌, ◌∙◌, ◌+◌, ap, sym, subst, arith, drop, refl}
use Rattle.std.specs.List.{list_all}
use Rattle.dd_text.specs.Symbols.{Grows, symbol_count}
use Rattle.dd_text.specs.Build.{is_sign, with_sign}
use Rattle.dd_text.proofs.Reading.{right_of}
use Rattle.dd_text.proofs.Building.{Grows-trans, Grows-with_sign, drop-next, symbol_count-with_signs, with_signs-next}
use Rattle.dd_text.proofs.build.add_signs.Goals as goal

pub returns-in-Err-clause-full : goal.returns-in-Err-clause-full
returns-in-Err-clause-full c e =
    let s = c.loop-sign.symbols in
    let j = c.loop-sign.sign-index in
    let signs = c.args.signs.now in
    let x = c.sign-item.result in
    let next = drop-next signs j x (omega arith) c.sign-item.is in
    let total = c.loop-sign.invariant.same ∙ with_signs-next s (with_sign s x) signs j x next refl in
    omega (arith, c.in-Err.ensures.full e, symbol_count-with_signs (with_sign s x) (drop (j + 1) signs), ap symbol_count total)

pub loop-sign-preserved : goal.loop-sign-preserved
loop-sign-preserved c =
    let s = c.loop-sign.symbols in
    let j = c.loop-sign.sign-index in
    let signs = c.args.signs.now in
    let x = c.sign-item.result in
    let next = drop-next signs j x (omega arith) c.sign-item.is in
    let added : c.add_sign.new.symbols ≡ with_sign s x = c.in_default.ensures.ok in
    record {
      same = c.loop-sign.invariant.same ∙ with_signs-next s c.add_sign.new.symbols signs j x next added;
      signs = right_of (is_sign x) (list_all is_sign (drop (j + 1) signs)) (ap (list_all is_sign) (sym next) ∙ c.loop-sign.invariant.signs);
      few = λ h. c.in_default.ensures.few (c.loop-sign.invariant.few h);
      grows = Grows-trans c.args.symbols.now s c.add_sign.new.symbols c.loop-sign.invariant.grows (subst (Grows s) (sym added) (Grows-with_sign s x));
    }
