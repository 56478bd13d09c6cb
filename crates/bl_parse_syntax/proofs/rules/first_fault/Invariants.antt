use Rattle.std.proofs.Common.{◌≡◌, take, reverse}
use Rattle.std.specs.Prelude.{None}
use Rattle.bl_parse_syntax.specs.Grammar.{views, last_line}
use Rattle.bl_parse_syntax.specs.Stack.{SourceStackCompletes}
use Rattle.bl_parse_syntax.proofs.rules.first_fault.Given as goal

abbrev pub invariant-loop-token : goal.invariant-loop-token
invariant-loop-token l = record {
  line : l.line ≡ last_line None (take l.token-index l.tokens);
  stands : SourceStackCompletes (views (take l.token-index l.tokens)) (reverse l.stack.symbols.items);
}
