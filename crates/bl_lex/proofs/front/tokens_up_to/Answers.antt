use Rattle.std.proofs.Common.{arith}
use Rattle.bl_lex.proofs.FrontLaws.{kept_next, kept_none}
use Rattle.bl_lex.proofs.PieceLaws.{piece_forward, piece_inside}
use Rattle.bl_lex.proofs.front.tokens_up_to.Goals as goal

pub loop-piece-init : goal.loop-piece-init
loop-piece-init c =
    let scanned = c.new-scan.ensures c.args.text.now in
    record { inside = omega arith; short = c.requires.short; scanned = scanned; kept = kept_none c.args.text.now scanned.parts scanned.covers }

pub loop-piece-smaller : goal.loop-piece-smaller
loop-piece-smaller c =
    let forward = piece_forward _ _ c.in-Some.ensures.0.piece in let inside = piece_inside _ _ c.in-Some.ensures.0.piece in omega arith

pub loop-piece-preserved : goal.loop-piece-preserved
loop-piece-preserved c = record {
  inside = piece_inside _ _ c.in-Some.ensures.0.piece;
  short = c.loop-piece.invariant.short;
  scanned = c.in_ok-take.ensures;
  kept = kept_next c.args.text.now c.loop-piece.at c.in-Some.piece.end c.in-Some.piece.form c.loop-piece.invariant.scanned.parts c.in_ok-take.ensures.parts
      c.loop-piece.invariant.scanned.covers c.loop-piece.invariant.kept c.in-Some.ensures.0 c.in-Some.ensures.1 c.in_ok-take.ensures.covers;
}
