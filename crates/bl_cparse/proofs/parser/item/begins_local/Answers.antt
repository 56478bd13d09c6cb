use Rattle.bl_cparse_syntax.specs.Pieces.{first_piece}
use Rattle.std.proofs.Common.{refl, sym, ◌∙◌}
use Rattle.bl_cparse.proofs.WordLemmas.{scalar_stands}
use Rattle.bl_cparse.proofs.parser.item.begins_local.Goals as goal

pub returns-in-Some : goal.returns-in-Some
returns-in-Some c = rw (scalar_stands (first_piece c.args.r.now) c.in-Some.field-0
    (sym c.piece.ensures ∙ c.in-Some.ensures.some.0) c.in-Some.ensures.some.1.0) refl
