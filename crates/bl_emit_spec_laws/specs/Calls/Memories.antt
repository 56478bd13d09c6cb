-- Where the memory of C has what an instance and all that it calls rest at and remember, and when it holds that.
use Rattle.std.specs.Prelude.{◌≡◌, ℕ, pos, ◌<◌, [], ◌∷◌, length, Contains, Some, slice_get}
use Rattle.bl_tree.specs.declared.place.Place.{Place}
use Rattle.bl_tree.specs.declared.tree.Unit.{Unit as UnitDef}
use Rattle.bl_tree.specs.declared.tree.Var.{Var}
use Rattle.bl_tree.specs.declared.value.Value.{Value}
use Rattle.bl_tree.specs.Typing.{var_at}
use Rattle.bl_graph_nodes.specs.Nodes.{Arguments, EnterAt, nodes_in}
use Rattle.bl_graph_nodes.specs.Plain.{Label, plain_body}
use Rattle.bl_ctext_semantics.specs.Meaning.{further}
use Rattle.bl_ctext_semantics.specs.Memory.{Location, Memory, member, scalar_number, value_at}
use Rattle.bl_ctree.specs.Instances.{Setting, callee_of, unit_at}
use Rattle.bl_ctree.specs.Store.{Store, view_at}
use Rattle.bl_emit_acts.specs.declared.home.Home.TheVariants.{Held}
use Rattle.bl_emit_acts.specs.Types.{variable_name}
use Rattle.bl_emit_acts_laws_simulation.specs.Encodes.{Encodes, home_at}
use Rattle.bl_emit_spec.specs.Names.{NumberedWord, callee_name, counter_name}
use Rattle.bl_machine_pass_laws_execution.specs.Frames.{Frames}
use Rattle.bl_emit_spec_laws.specs.Calls.Built.{Activities, activity_at, run_by, site_at}

-- the part of a struct, of counters or of variables, that belongs to the `run`s with this number and word
abbrev pub inner : Location → NumberedWord → Location
inner place n = further place (member (callee_name n) ∷ [])

-- Nests w activities i f m k f' m': in the instance i, counters at f and memory at m; in the instance k, at f' and m'. The instance k is i, or called by it at
-- some depth
pub data Nests (w : Setting) (activities : Activities) : ℕ → Location → Location → ℕ → Location → Location → Type 0 where
  here : {i : ℕ} {f m : Location} → Nests w activities i f m i f m
  inside : {i j k : ℕ} {f m f' m' : Location} {unit : UnitDef} {l : Label} {at : Place} {arguments : Arguments} → unit_at w i ≡ Some unit →
      Contains (nodes_in (plain_body unit.body)) (EnterAt l at arguments) → callee_of w i at ≡ Some j →
      Nests w activities j (inner f (run_by w activities i at)) (inner m (run_by w activities i at)) k f' m' →
      Nests w activities i f m k f' m'

-- memory encodes, at these places, the counters and variables of the instance and of all that it calls
pub record MemoryEncodes (w : Setting) (activities : Activities) (i : ℕ) (f m : Location) (frames : Frames) (store : Store) (here : Memory) : Type 0 where
  pub counters : (k : ℕ) (f' m' : Location) → Nests w activities i f m k f' m' → (c : ℕ) → c < length (activity_at w activities k).sizes →
      scalar_number (value_at here (further f' (member (counter_name c) ∷ []))) ≡ pos (frames k c)
  pub variables : (k : ℕ) (f' m' : Location) → Nests w activities i f m k f' m' → (x : ℕ) (var : Var) (value : Value) →
      var_at (site_at w activities k) x ≡ Some var → home_at (site_at w activities k) x ≡ Held → slice_get (view_at w store k).now x ≡ Some value →
      Encodes w.structs var.ty value (value_at here (further m' (member (variable_name (site_at w activities k).vars x) ∷ [])))
