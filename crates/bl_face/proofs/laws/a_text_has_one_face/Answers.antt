use Rattle.std.proofs.Common.{subst}
use Rattle.bl_lex.proofs.FrontLaws.{same_tokens, whole}
use Rattle.bl_face.specs.Lexemes.{lexemes}
use Rattle.bl_face.specs.Spells.{SpellsItems}
use Rattle.bl_face.proofs.Viable.{one_face}
use Rattle.bl_face.proofs.laws.a_text_has_one_face.Goals as goal

pub returns : goal.returns
returns c = λ text face other one two.
    let same = same_tokens text one.tokens two.tokens _ _ (whole text one.tokens one.lexed) (whole text two.tokens two.lexed) in
    one_face (lexemes text two.tokens) face.items other.items
    (subst (λ tokens. SpellsItems face.items (lexemes text tokens)) same one.spelled) two.spelled
