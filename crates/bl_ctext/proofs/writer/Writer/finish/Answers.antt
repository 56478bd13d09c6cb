use Rattle.std.proofs.Common.{◌≡◌, ◌++◌, List, ℕ, subst}
use Rattle.bl_ctext.specs.Prelude.{prelude}
use Rattle.bl_ctext.specs.Token.{SpacedC}
use Rattle.bl_ctext.proofs.Texts.{text_spells}
use Rattle.bl_ctext.proofs.writer.Writer.finish.Goals as goal

pub returns : goal.returns
returns c =
    let P : List (List ℕ) → Type 0 = λ tokens. (text : List ℕ) × ((c.self.inside.text.items ≡ prelude ++ text) × SpacedC tokens text) in
    subst P c.self.view_is (text_spells c.self.inside.text.items c.self.invariant)
