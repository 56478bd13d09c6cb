use Rattle.std.proofs.Common.{subst, sym}
use Rattle.bl_module.specs.declared.taken.Taken.TheVariants.{AsLast}
use Rattle.bl_module.specs.Parts.{IsGoodBehind}
use Rattle.bl_module.proofs.FaceLemmas.{good_alike}
use Rattle.bl_module.proofs.compiled.part_of.Goals as goal

pub new-requires : goal.new-requires
new-requires c =
    subst (λ text. IsGoodBehind c.in_ok-uses.uses (AsLast c.args.last) text c.args.face) (sym c.in_ok-text.ensures)
    (good_alike c.args.uses.now c.in_ok-uses.uses (AsLast c.args.last) c.args.text.now c.args.face c.in_ok-uses.ensures c.requires)
