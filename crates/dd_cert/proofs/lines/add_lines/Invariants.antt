use Rattle.std.proofs.Common.{◌≡◌, drop, take, true}
use Rattle.std.specs.List.{list_all}
use Rattle.dd_text.specs.Symbols.{Grows}
use Rattle.dd_cert.specs.Derivations.{AllReadable, SpellsLine, line_by, pieces_of, with_line}
use Rattle.dd_cert.specs.Steps.{AreBuilt, line_fits}
use Rattle.dd_cert.proofs.lines.add_lines.Given as goal

abbrev pub invariant-loop-form : goal.invariant-loop-form
invariant-loop-form l = record {
  lines : AreBuilt SpellsLine with_line line_by l.initial.symbols (take l.form-index l.forms) l.symbols l.built;
  readable : AllReadable (pieces_of (drop l.form-index l.forms));
  fit : list_all line_fits (drop l.form-index l.forms) ≡ true;
  grows : Grows l.initial.symbols l.symbols;
}
