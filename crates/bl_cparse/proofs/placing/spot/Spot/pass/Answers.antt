use Rattle.std.proofs.Common.{ap, ◌+◌, ◌∙◌, arith}
use Rattle.bl_cparse.specs.HasPlaces.{start_of, end_of, next_spot}
use Rattle.bl_cparse_syntax.specs.Pieces.{pieces, first_piece}
use Rattle.std.proofs.Common.{length, drop}
use Rattle.bl_cparse.proofs.SpotLemmas.{starts, ends}
use Rattle.bl_cparse.proofs.placing.spot.Spot.pass.Goals as goal

pub returns : goal.returns
unfolding start_of end_of
returns c =
    ap (λ n. record { text = c.self.inside.text.now; at = n })
    (ends c.self.inside.text.now c.self.inside.at c.next_piece.result.start c.next_piece.result.end c.next_piece.ensures.in_order
    c.next_piece.ensures.inside c.next_piece.ensures.at_end c.next_piece.ensures.left
    ∙ ap (λ n. n + length (first_piece (pieces (drop c.self.inside.at c.self.inside.text.now))))
    (starts c.self.inside.text.now c.self.inside.at c.next_piece.result.start c.self.invariant.0
    (omega (arith, c.next_piece.ensures.in_order, c.next_piece.ensures.inside)) c.next_piece.ensures.starts c.next_piece.ensures.no_blank))
    ∙ ap next_spot c.self.view_is
