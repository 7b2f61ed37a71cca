use Rattle.std.proofs.Common.{◌≡◌, ◌∙◌, false, codes, ap}
use Rattle.std.proofs.lemmas.Result.{IfOk-weaker}
use Rattle.clap.specs.Words.{App, app_of, with_rule}
use Rattle.dd_words.specs.Apps.{option_rule, bounded}
use Rattle.dd_words.proofs.options.with_bounds.Goals as goal

pub returns : goal.returns
returns c =
    let step : App → App = λ a. with_rule a (option_rule (codes "cache") 1 1024 false) in
    let two : App → App = λ a. step (with_rule a (option_rule (codes "verdicts") 1 20000 false)) in
    let three : App → App = λ a. two (with_rule a (option_rule (codes "expansions") 1 200000 false)) in
    let before : step (app_of c.in_ok-command-3.command) ≡ bounded (app_of c.args.command) =
    ap step c.in_ok-command-3.ensures.app ∙ ap two c.in_ok-command-2.ensures.app ∙ ap three c.in_ok-command.ensures.app in
    record {
      app = IfOk-weaker c.with_option-4.result (λ d. app_of d ≡ step (app_of c.in_ok-command-3.command)) (λ d. app_of d ≡ bounded (app_of c.args.command))
          (λ d e. e ∙ before) c.with_option-4.ensures.app;
    }
