-- An activity that remembers a variable, itself or in what it calls, is told to remember.
use Rattle.std.proofs.Common.{◌≡◌, ℕ, true, Some}
use Rattle.bl_tree.specs.declared.tree.Var.{Var}
use Rattle.bl_tree.specs.Typing.{var_at}
use Rattle.bl_ctext_semantics.specs.Memory.{Location}
use Rattle.bl_ctree.specs.Instances.{Setting}
use Rattle.bl_emit_acts.specs.declared.home.Home.TheVariants.{Held}
use Rattle.bl_emit_acts_laws_simulation.specs.Encodes.{home_at}
use Rattle.bl_emit_spec.specs.Activities.{remembers_any}
use Rattle.bl_emit_spec_laws.specs.Calls.Built.{Activities, activity_at, run_by, site_at}
use Rattle.bl_emit_spec_laws.specs.Calls.Memories as memories
use Rattle.bl_emit_spec_laws.specs.Calls.Memories.{Nests, inner}
use Rattle.bl_emit_spec_laws.proofs.OnActivities.Forgetting.{holder_remembers}
use Rattle.bl_emit_spec_laws_nodes.specs.Views.{CalleesRemember, RememberingStands}

module _ (w : Setting) (activities : Activities) (callees : CalleesRemember w activities) where
  nests_remember : (i k : ℕ) (f m f' m' : Location) (x : ℕ) (var : Var) → Nests w activities i f m k f' m' →
      var_at (site_at w activities k) x ≡ Some var → home_at (site_at w activities k) x ≡ Held → remembers_any (activity_at w activities i) ≡ true
  nests_remember i k f m f' m' x var memories.here there held = holder_remembers (activity_at w activities i) x var there held
  nests_remember i k f m f' m' x var (memories.inside {j =
      j} {unit = unit} {l = l} {at = at} {arguments = arguments} is node called deeper) there held =
      let n = run_by w activities i at in
      callees i j unit l at arguments is node called (nests_remember j k (inner f n) (inner m n) f' m' x var deeper there held)

pub remembering_all : RememberingStands
remembering_all w activities callees =
    record { each = λ i k f m f' m' x var nests there held. nests_remember w activities callees i k f m f' m' x var nests there held }
