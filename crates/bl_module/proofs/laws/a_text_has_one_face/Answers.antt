use Rattle.std.proofs.Common.{◌∙◌, ap, sym}
use Rattle.bl_rules.proofs.Layers.{one_tree}
use Rattle.bl_module.specs.Own.{face_items}
use Rattle.bl_module.proofs.laws.a_text_has_one_face.Goals as goal

pub returns : goal.returns
returns c = λ behind text face other one two.
    one.is
    ∙ ap (face_items behind) (one_tree c.tokens_are_one.ensures c.a_text_has_one_tree.ensures text one.raw two.raw one.parses two.parses)
    ∙ sym two.is
