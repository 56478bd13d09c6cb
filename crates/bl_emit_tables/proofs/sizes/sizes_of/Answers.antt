use Rattle.std.proofs.Common.{◌≡◌, ℕ, List, IfOk, subst}
use Rattle.bl_machine.specs.Slots.{counters_at}
use Rattle.bl_emit_tables.proofs.GrowLemmas.{counts_are}
use Rattle.bl_emit_tables.proofs.sizes.sizes_of.Goals as goal

pub returns : goal.returns
returns c =
    subst (λ (sizes : List ℕ). IfOk c.counts_of.result (λ made. made ≡ sizes)) (counts_are (counters_at c.args.slots.now)) c.counts_of.ensures
