use Rattle.std.specs.Prelude.{codes}
use Rattle.bl_ctext_semantics.specs.inner.Maps.{text_at}
use Rattle.bl_ctext_semantics.specs.Parts.{parts_from}
use Rattle.bl_ctext_semantics.specs.Sizes.{sizes}
use Rattle.bl_ctext_semantics.proofs.SizeLemmas.{whole}
use Rattle.bl_ctext_semantics.proofs.check.cells_of.Goals as goal

pub returns : goal.returns
returns c =
    let file = parts_from c.args.structs.now c.args.funcs.now in
    let known = text_at c.in_ok-sizes.sizes in
    whole known (sizes file.structs) (codes "bl_state") (codes "bl_in") (codes "bl_out") c.in_ok-chain.chain c.saturating_add-output.result
    c.saturating_add-ports.result _ file c.in_ok-sizes.ensures c.in_ok-chain.ensures
    (rw c.number_of.ensures at c.saturating_add-output.ensures) (rw c.number_of-2.ensures at c.saturating_add-ports.ensures)
    (rw c.number_of-3.ensures at c.saturating_add.ensures)
