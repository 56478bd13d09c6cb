use Rattle.std.proofs.Common.{◌≡◌, ◌+◌, ◌*◌, ◌≤◌, drop}
use Rattle.bl_lsp_text.specs.Positions.{offset_from, offset_of}
use Rattle.bl_lsp_text.proofs.position.offset_of.Given as goal

abbrev pub invariant-loop-i : goal.invariant-loop-i
invariant-loop-i l = record {
  rest : l.i + offset_from l.stand l.target (drop l.i l.text) ≡ offset_of l.text l.target;
  room : l.stand.line + l.stand.unit ≤ 2 * l.i;
}
