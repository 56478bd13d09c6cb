use Rattle.std.proofs.Common.{◌+◌, ◌++◌, arith, ap, ◌∙◌}
use Rattle.bl_tree.specs.declared.place.Place.{Place}
use Rattle.bl_lex.specs.inner.Walk.{earlier, token_with}
use Rattle.bl_lex.proofs.PieceLaws.{piece_forward, piece_inside}
use Rattle.bl_lex.proofs.WalkLaws.{scanned_next}
use Rattle.bl_lex.proofs.scan.Scan.take.Goals as goal

pub place_between-place-requires-clause-start_fits : goal.place_between-place-requires-clause-start_fits
place_between-place-requires-clause-start_fits c = let a = piece_forward _ _ c.requires.longest.piece in let b =
    piece_inside _ _ c.requires.longest.piece in omega arith

pub place_between-place-requires-clause-end_fits : goal.place_between-place-requires-clause-end_fits
place_between-place-requires-clause-end_fits c = let b = piece_inside _ _ c.requires.longest.piece in omega arith

pub slice_bounds-bytes-count : goal.slice_bounds-bytes-count
slice_bounds-bytes-count c = let a = piece_forward _ _ c.requires.longest.piece in omega arith

pub slice_bounds-bytes-start : goal.slice_bounds-bytes-start
slice_bounds-bytes-start c = let a = piece_forward _ _ c.requires.longest.piece in omega arith

pub slice_bounds-bytes-end : goal.slice_bounds-bytes-end
slice_bounds-bytes-end c = let b = piece_inside _ _ c.requires.longest.piece in omega arith

pub returns : goal.returns
returns c =
    let place = c.place_between-place.ensures in
    scanned_next _ _ _ _ c.args.self.now _ c.is_left_out-left_out.result c.requires.scanned c.requires.longest
    (c.in_ok-push_token.ensures ∙ ap (λ (p : Place). c.args.self.now.tokens.items ++ token_with c.args.piece.form p c.args.self.now.line) place)
    (ap (λ n. c.args.self.now.line + n) c.line_feeds.ensures)
    c.before_next-self.ensures
    c.is_left_out-left_out.ensures
    (c.earlier-self.ensures ∙ ap (λ (p : Place). earlier c.args.self.now.left_out c.is_left_out-left_out.result p) place)
