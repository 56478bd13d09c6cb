use Rattle.std.proofs.Common.{◌≡◌, ◌++◌, drop, map}
use Rattle.bl_joined.specs.Texts.{moved_token}
use Rattle.bl_joined.proofs.token.push_moved.Given as goal

abbrev pub invariant-loop-token : goal.invariant-loop-token
invariant-loop-token l = l.all.items ++ map (moved_token l.offset l.lines) (drop l.token-index l.tokens)
    ≡ l.initial.all.items ++ map (moved_token l.offset l.lines) l.tokens
