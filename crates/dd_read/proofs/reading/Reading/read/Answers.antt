use Rattle.std.proofs.Common.{◌≡◌, ◌∙◌, ◌≤◌, ℕ, List, Err, Ok, ap, length, subst, sym, take}
use Rattle.std.specs.Option.{option_copied}
use Rattle.dd_text.specs.Symbols.{Grows, SymbolLists}
use Rattle.dd_text.proofs.Building.{Grows-trans}
use Rattle.dd_text.proofs.Numbering.{take-Appends}
use Rattle.dd_wire.specs.declared.request.Request.{Request}
use Rattle.dd_read.specs.Does.{DoesRequest, kept_of}
use Rattle.dd_read.specs.Fit.{IsSound}
use Rattle.dd_read.specs.Read.{Read}
use Rattle.dd_read.specs.ReadingState.{state_of}
use Rattle.dd_read.specs.State.{Later, State, state_by}
use Rattle.dd_read.specs.declared.kept.Kept.{Kept}
use Rattle.dd_read.specs.declared.obeyed.Obeyed.{Obeyed}
use Rattle.dd_read.specs.declared.obeyed.Obeyed.TheVariants.{Cut, Stays}
use Rattle.dd_read.specs.declared.options.Options.{Options}
use Rattle.dd_read.proofs.Holding.{does_later, later_same}
use Rattle.dd_read.proofs.Keeping.{sound_later, with_symbols}
use Rattle.dd_read.proofs.Obeying.{final, line_fits, line_obeyed, line_refused, reads_at}
use Rattle.dd_read.proofs.reading.Reading.read.Goals as goal

-- what is cut back to as many symbols as there were is what there was
back_is : (old mid new : SymbolLists) (m n : ℕ) → m ≡ length old.names → n ≡ length old.roles → Grows old mid → new.names ≡ take m mid.names → new.roles ≡ take n mid.roles
    → new ≡ old
back_is old mid new m n hm hn g names roles =
    let a : new.names ≡ old.names = names ∙ ap (λ (k : ℕ). take k mid.names) hm ∙ take-Appends old.names mid.names g.names in
    let b : new.roles ≡ old.roles = roles ∙ ap (λ (k : ℕ). take k mid.roles) hn ∙ take-Appends old.roles mid.roles g.roles in
    ap (λ (x : List (List ℕ)). with_lists x new.roles) a ∙ ap (λ (x : List (List ℕ)). with_lists old.names x) b
  where
    with_lists : List (List ℕ) → List (List ℕ) → SymbolLists
    with_lists x y = record { names = x; roles = y }

-- where the symbols of a request go, all is as it was before
cut_state : (s new : State) (back y : SymbolLists) → new ≡ with_symbols s new.symbols → back ≡ s.symbols → with_symbols new back ≡ s
cut_state s new back y does cut = ap (λ (n : State). with_symbols n back) does ∙ ap (with_symbols s) cut

pub invariant_of-self : goal.invariant_of-self
invariant_of-self c =
    let r = c.args.self.now in
    record { within = r.within; counted = r.counted; sound = sound_later (state_of r) c.read_request.new.symbols r.kept.items c.read_request.ensures.grows r.sound }

pub obey-requires-clause-fits : goal.obey-requires-clause-fits
obey-requires-clause-fits c =
    let r = c.args.self.now in
    let y = c.read_request.new.symbols in
    line_fits (state_of r) c.args.line.now y c.in-Ok.request
    (reads_at (option_copied c.as_ref.result) r.names r.symbols y c.args.line.now (Ok c.in-Ok.request) c.as_ref.ensures.value c.in-Ok.ensures.reads)

pub invariant_of-self-in-Cut : goal.invariant_of-self-in-Cut
invariant_of-self-in-Cut c =
    let r = c.args.self.now in
    let new = c.obey.new.self in
    let grows = Grows-trans r.symbols c.read_request.new.symbols new.symbols c.in-Ok.ensures.grows c.in_ok-kept-in-Ok.ensures.grows in
    let cut = back_is r.symbols new.symbols c.back.new.self c.mark-mark.result.names c.mark-mark.result.roles c.mark-mark.ensures.names c.mark-mark.ensures.roles grows
    c.back.ensures.names c.back.ensures.roles in
    let y = c.read_request.new.symbols in
    let does = subst (λ (o : Obeyed). DoesRequest r.options (with_symbols (state_of r) y) c.args.id c.in-Ok.request (state_of new) o) c.in-Cut.is c.in_ok-kept-in-Ok.ensures.does in
    let same : state_by new.names c.back.new.self new.registry ≡ state_of r = cut_state (state_of r) (state_of new) c.back.new.self y does.0 cut in
    record {
      within = new.within;
      counted = new.counted;
      sound = subst (λ (s : State). IsSound s new.kept.items) (sym same) (subst (IsSound (state_of r)) (sym c.in_ok-kept-in-Ok.ensures.window) r.sound);
    }

pub returns-in-Stays-clause-reads : goal.returns-in-Stays-clause-reads
returns-in-Stays-clause-reads c =
    let r = c.args.self.now in
    let y = c.read_request.new.symbols in
    let new = c.obey.new.self in
    let reads = reads_at (option_copied c.as_ref.result) r.names r.symbols y c.args.line.now (Ok c.in-Ok.request) c.as_ref.ensures.value c.in-Ok.ensures.reads in
    let does = subst (λ (o : Obeyed). DoesRequest r.options (with_symbols (state_of r) y) c.args.id c.in-Ok.request (state_of new) o) c.in-Stays.is c.in_ok-kept-in-Ok.ensures.does in
    line_obeyed r.options (state_of r) (state_of new) c.args.id c.args.line.now y c.in-Ok.request (Stays c.in-Stays.kept) reads does

pub returns-in-Stays-clause-later : goal.returns-in-Stays-clause-later
returns-in-Stays-clause-later c =
    let r = c.args.self.now in
    let y = c.read_request.new.symbols in
    let new = c.obey.new.self in
    let reads = reads_at (option_copied c.as_ref.result) r.names r.symbols y c.args.line.now (Ok c.in-Ok.request) c.as_ref.ensures.value c.in-Ok.ensures.reads in
    let fits = line_fits (state_of r) c.args.line.now y c.in-Ok.request reads in
    let later = does_later r.options (with_symbols (state_of r) y) (state_of new) c.args.id c.in-Ok.request c.in_ok-kept-in-Ok.field-0 fits c.in_ok-kept-in-Ok.ensures.grows
    c.in_ok-kept-in-Ok.ensures.does in
    record { peers = later.peers; symbols = Grows-trans r.symbols y new.symbols c.in-Ok.ensures.grows later.symbols; history = later.history }

pub returns-in-Cut-clause-reads : goal.returns-in-Cut-clause-reads
returns-in-Cut-clause-reads c =
    let r = c.args.self.now in
    let y = c.read_request.new.symbols in
    let new = c.obey.new.self in
    let reads = reads_at (option_copied c.as_ref.result) r.names r.symbols y c.args.line.now (Ok c.in-Ok.request) c.as_ref.ensures.value c.in-Ok.ensures.reads in
    let grows = Grows-trans r.symbols y new.symbols c.in-Ok.ensures.grows c.in_ok-kept-in-Ok.ensures.grows in
    let cut = back_is r.symbols new.symbols c.back.new.self c.mark-mark.result.names c.mark-mark.result.roles c.mark-mark.ensures.names c.mark-mark.ensures.roles grows
    c.back.ensures.names c.back.ensures.roles in
    let does = subst (λ (o : Obeyed). DoesRequest r.options (with_symbols (state_of r) y) c.args.id c.in-Ok.request (state_of new) o) c.in-Cut.is c.in_ok-kept-in-Ok.ensures.does in
    λ short. subst (λ (z : SymbolLists). Read r.options (state_of r) c.args.id c.args.line.now (with_symbols (state_of new) z) c.in-Cut.kept) (sym cut)
    (line_obeyed r.options (state_of r) (state_of new) c.args.id c.args.line.now y c.in-Ok.request (Cut c.in-Cut.kept) reads does short)

pub returns-in-Cut-clause-later : goal.returns-in-Cut-clause-later
returns-in-Cut-clause-later c =
    let r = c.args.self.now in
    let y = c.read_request.new.symbols in
    let new = c.obey.new.self in
    let grows = Grows-trans r.symbols y new.symbols c.in-Ok.ensures.grows c.in_ok-kept-in-Ok.ensures.grows in
    let cut = back_is r.symbols new.symbols c.back.new.self c.mark-mark.result.names c.mark-mark.result.roles c.mark-mark.ensures.names c.mark-mark.ensures.roles grows
    c.back.ensures.names c.back.ensures.roles in
    let does = subst (λ (o : Obeyed). DoesRequest r.options (with_symbols (state_of r) y) c.args.id c.in-Ok.request (state_of new) o) c.in-Cut.is c.in_ok-kept-in-Ok.ensures.does in
    later_same (state_of r) (with_symbols (state_of new) c.back.new.self) (cut_state (state_of r) (state_of new) c.back.new.self y does.0 cut)

pub returns-in_ok-refused_line-in-Err-clause-reads : goal.returns-in_ok-refused_line-in-Err-clause-reads
returns-in_ok-refused_line-in-Err-clause-reads c =
    let r = c.args.self.now in
    let y = c.read_request.new.symbols in
    let reads = reads_at (option_copied c.as_ref.result) r.names r.symbols y c.args.line.now (Err c.in-Err.e) c.as_ref.ensures.value c.in-Err.ensures.reads in
    line_refused r.options (state_of r) c.args.id c.args.line.now y c.in-Err.e c.in_ok-refused_line-in-Err.field-0 reads c.in_ok-refused_line-in-Err.ensures.refuses
