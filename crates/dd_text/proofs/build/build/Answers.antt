use Rattle.std.proofs.Common.{◌≡◌, ◌∙◌, ◌+◌, ◌-◌, [], ap, sym, arith, drop}
use Rattle.dd_text.specs.Build.{built, onto}
use Rattle.dd_text.proofs.Building.{drop-next}
use Rattle.dd_text.proofs.build.build.Goals as goal

pub loop-left-preserved : goal.loop-left-preserved
loop-left-preserved c =
    let s = c.args.symbols.now in
    let signs = c.args.signs.now in
    let n = c.loop-left.left in
    let x = c.index-signs-left.result in
    let again : n ≡ n - 1 + 1 = omega arith in
    record {
      within = omega (arith, c.loop-left.invariant.within);
      pile = c.in_ok-put.ensures ∙ ap (onto s x) (c.loop-left.invariant.pile ∙ ap (λ k. built s (drop k signs) []) again)
          ∙ ap (λ l. built s l []) (sym (drop-next signs (n - 1) x (omega (arith, c.loop-left.invariant.within)) c.index-signs-left.is));
    }
