use Rattle.std.proofs.Common.{◌≡◌, ◌+◌, ◌≤◌, drop, length, nat_eq}
use Rattle.std.specs.List.{common_prefix_len}
use Rattle.dd_text.specs.Parts.{axiom_head}
use Rattle.dd_text.proofs.parts.head_len.Given as goal

abbrev pub invariant-loop-i : goal.invariant-loop-i
invariant-loop-i l = record {
  within : l.i ≤ length l.text;
  rest : common_prefix_len nat_eq axiom_head l.text ≡ l.i + common_prefix_len nat_eq (drop l.i axiom_head) (drop l.i l.text);
}
