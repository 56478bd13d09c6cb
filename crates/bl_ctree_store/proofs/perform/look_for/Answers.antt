use Rattle.std.proofs.Common.{List, ℕ, subst, ◌∙◌}
use Rattle.std.specs.Prelude.{option_map}
use Rattle.std.proofs.Common.{IfOk}
use Rattle.bl_ctree_store.specs.Glimpse.{Glimpses}
use Rattle.bl_ctree_store.specs.Seen.{seen_by, setting_in, store_of}
use Rattle.bl_ctree_store.proofs.perform.look_for.Goals as goal

pub returns : goal.returns
returns c =
    subst (λ (asked : List ℕ). IfOk c.look.result
    (λ made. Glimpses asked (setting_in c.args.w.now) (store_of c.args.frames.now) c.args.i (option_map seen_by made)))
    (c.deref.ensures ∙ c.in_ok-asked.ensures) c.look.ensures
