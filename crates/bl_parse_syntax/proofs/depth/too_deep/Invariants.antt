use Rattle.std.proofs.Common.{◌≡◌, ◌≤◌, take}
use Rattle.std.specs.Prelude.{None}
use Rattle.bl_parse_syntax.specs.Rules.{PassesDepth}
use Rattle.bl_parse_syntax.specs.Depth.{open_after, run_after}
use Rattle.bl_parse_syntax.specs.inner.Depth.{last_kind}
use Rattle.bl_parse_syntax.proofs.depth.too_deep.Given as goal

abbrev pub invariant-loop-token : goal.invariant-loop-token
invariant-loop-token l = record {
  blocks : l.blocks ≡ open_after 0 (take l.token-index l.tokens);
  run : l.run ≡ run_after 0 None (take l.token-index l.tokens);
  before : l.before ≡ last_kind None (take l.token-index l.tokens);
  few : l.blocks ≤ 100;
  short : l.run ≤ 200;
  each : PassesDepth (take l.token-index l.tokens);
}
