use Rattle.std.proofs.Common.{◌≡◌, ◌+◌, ◌-◌, ◌*◌, ◌≤◌, length, drop}
use Rattle.bl_lsp_text.specs.Positions.{passed_all}
use Rattle.bl_lsp_text.proofs.stand.Stand.passed_all.Given as goal

abbrev pub invariant-loop-byte : goal.invariant-loop-byte
invariant-loop-byte l = record {
  read : passed_all l.stand (drop l.byte-index l.bytes) ≡ passed_all l.fn.self l.bytes;
  room : l.stand.line + l.stand.unit + 2 * (length l.bytes - l.byte-index) ≤ l.fn.self.line + l.fn.self.unit + 2 * length l.bytes;
}
