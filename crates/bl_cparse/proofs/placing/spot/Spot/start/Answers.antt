use Rattle.std.proofs.Common.{ap, ◌∙◌, arith}
use Rattle.bl_cparse.specs.HasPlaces.{start_of}
use Rattle.bl_cparse.proofs.SpotLemmas.{starts}
use Rattle.bl_cparse.proofs.placing.spot.Spot.start.Goals as goal

pub returns : goal.returns
unfolding start_of
returns c = starts c.self.inside.text.now c.self.inside.at c.next_piece.result.start c.self.invariant.0
    (omega (arith, c.next_piece.ensures.in_order, c.next_piece.ensures.inside)) c.next_piece.ensures.starts
    c.next_piece.ensures.no_blank ∙ ap start_of c.self.view_is
