use Rattle.std.proofs.Common.{drop, map, take}
use Rattle.dd_text.specs.Symbols.{Grows}
use Rattle.dd_text.specs.Text.{concept_of, with_term}
use Rattle.dd_cert.specs.Derivations.{AllReadable, SpellsSmall, concept}
use Rattle.dd_cert.specs.Steps.{AreBuilt}
use Rattle.dd_cert.proofs.lines.add_label.Given as goal

abbrev pub invariant-loop-text : goal.invariant-loop-text
invariant-loop-text l = record {
  label : AreBuilt SpellsSmall with_term concept_of l.initial.symbols (take l.text-index l.texts) l.symbols l.built;
  readable : AllReadable (map concept (drop l.text-index l.texts));
  grows : Grows l.initial.symbols l.symbols;
}
