-- What is seen of an instance where some of its variables alone are asked for.
use Rattle.std.specs.Prelude.{◌≡◌, ℕ, List, length, Option, Some, None, option_map, slice_get}
use Rattle.bl_ctree.specs.Instances.{Setting}
use Rattle.bl_ctree.specs.Store.{Store, view_at}
use Rattle.bl_ctree_store.specs.Agree.{Same}
use Rattle.bl_ctree_store.specs.Seen.{Sight}
use Rattle.bl_ctree_store.specs.declared.view.InstanceView.{InstanceView as ViewNode}

-- the view has so many values now and so many before
pub record IsRoom (count : ℕ) (v : ViewNode) : Type 0 where
  pub now : length v.now.list ≡ count
  pub before : length v.before.list ≡ count

-- the sight of an instance: its unit and the values of the variables asked for; none without such an instance
abbrev pub Glimpses : List ℕ → Setting → Store → ℕ → Option Sight → Type 0
Glimpses asked w store i None = slice_get w.instances i ≡ None
Glimpses asked w store i (Some sight) =
    (option_map (λ instance. instance.unit) (slice_get w.instances i) ≡ Some sight.unit) × Same asked sight.view (view_at w store i)
