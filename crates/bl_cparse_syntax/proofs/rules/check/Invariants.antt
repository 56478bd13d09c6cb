use Rattle.std.proofs.Common.{◌≡◌, ◌<◌, ◌≤◌, false, List, ◌++◌, map, reverse, length, drop}
use Rattle.std.specs.Prelude.{slice_index}
use Rattle.bl_ctext.specs.Token.{Token, is_blank}
use Rattle.bl_cparse_syntax.specs.Pieces.{pieces, left_of}
use Rattle.bl_cparse_syntax.specs.Stack.{CStackCompletes}
use Rattle.bl_cparse_syntax.specs.inner.Stacks.{shown}
use Rattle.bl_cparse_syntax.proofs.rules.check.Given as goal

abbrev pub invariant-loop-piece : goal.invariant-loop-piece
invariant-loop-piece l = record {
  read : (front : List Token) × (CStackCompletes front (reverse (map shown l.stack.wanted.items))
      × (pieces (drop l.start l.text) ≡ front ++ left_of l.text l.piece.start l.piece.end));
  in_order : l.piece.start ≤ l.piece.end;
  inside : l.piece.end ≤ length l.text;
  at_end : l.piece.start ≡ l.piece.end → l.piece.end ≡ length l.text;
  there : pieces (drop l.piece.start l.text) ≡ left_of l.text l.piece.start l.piece.end;
  no_blank : l.piece.start < length l.text → is_blank (slice_index l.text l.piece.start) ≡ false;
}

abbrev pub decreases-loop-piece : goal.decreases-loop-piece
decreases-loop-piece l = length (left_of l.text l.piece.start l.piece.end)
