use Rattle.std.proofs.Common.{List, ℕ, subst, ◌∙◌}
use Rattle.std.specs.Prelude.{option_map}
use Rattle.bl_ctree_store.specs.Glimpse.{Glimpses}
use Rattle.bl_ctree_store.specs.Seen.{seen_by, setting_in, store_of}
use Rattle.bl_ctree_store.proofs.GlimpseLemmas.{value_alone}
use Rattle.bl_ctree_store.proofs.perform.value_there.Goals as goal

pub returns : goal.returns
returns c =
    let w = setting_in c.args.w.now in
    let store = store_of c.args.frames.now in
    let sight = option_map seen_by c.in_ok-seen.seen in
    c.in_ok-got.ensures
    ∙ value_alone w store c.args.i c.args.e.now sight
    (subst (λ (asked : List ℕ). Glimpses asked w store c.args.i sight) (c.deref.ensures ∙ c.in_ok-asked.ensures) c.in_ok-seen.ensures)
