use Rattle.std.proofs.Common.{◌≡◌, ◌+◌, ◌-◌, ◌*◌, ◌<◌, ◌≤◌, length, take}
use Rattle.bl_lsp_text.specs.Positions.{at_start, passed_all}
use Rattle.bl_lsp_text.specs.Tables.{AreStands}
use Rattle.bl_lsp_text.proofs.lines.Lines.of.Given as goal

abbrev pub invariant-loop-at : goal.invariant-loop-at
invariant-loop-at l = record {
  within : l.at ≤ l.size;
  behind : l.at ≤ length l.stands.items * 64;
  at_entry : l.at < l.size → l.at ≡ length l.stands.items * 64;
  stand : l.stand ≡ passed_all at_start (take l.at l.text);
  stands : AreStands l.text l.stands.items;
}

abbrev pub decreases-loop-at : goal.decreases-loop-at
decreases-loop-at l = l.size - l.at
