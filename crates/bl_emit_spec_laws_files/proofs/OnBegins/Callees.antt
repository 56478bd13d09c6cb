-- What an activity keeps of all that it calls, in other words.
use Rattle.std.proofs.Common.{◌≡◌, ℕ, ◌<◌, pos, true, List, [], ◌∷◌, ◌++◌, length, Some}
use Rattle.std.proofs.Common.{refl, ap, ◌∙◌, subst}
use Rattle.std.specs.Prelude.{Contains, slice_get}
use Rattle.bl_tree.specs.declared.place.Place.{Place}
use Rattle.bl_tree.specs.declared.tree.StructDef.{StructDef}
use Rattle.bl_tree.specs.declared.tree.Unit.{Unit as UnitDef}
use Rattle.bl_tree.specs.declared.tree.Var.{Var}
use Rattle.bl_tree.specs.declared.value.Value.{Value}
use Rattle.bl_tree.specs.Typing.{var_at}
use Rattle.bl_graph_nodes.specs.Nodes.{Arguments, EnterAt, nodes_in}
use Rattle.bl_graph_nodes.specs.Plain.{Label, plain_body}
use Rattle.bl_ctext_semantics.specs.Meaning.{further}
use Rattle.bl_ctext_semantics.specs.Memory.{Location, Memory, Projection, Root, member, scalar_number, value_at}
use Rattle.bl_ctree.specs.Instances.{Setting, callee_of, setting_of, unit_at}
use Rattle.bl_ctree.specs.Store.{Store, view_at}
use Rattle.bl_emit_acts.specs.declared.home.Home.TheVariants.{Held}
use Rattle.bl_emit_acts.specs.Types.{variable_name}
use Rattle.bl_emit_acts_laws_simulation.specs.Frames.{is_older}
use Rattle.bl_emit_acts_laws_simulation.specs.Encodes.{Encodes, home_at, way_to}
use Rattle.bl_emit_spec.specs.Activities.{remembers_any}
use Rattle.bl_emit_spec.specs.Names.{NumberedWord, counter_name}
use Rattle.bl_machine.specs.declared.machine.Activity.{Activity as InMachine}
use Rattle.bl_machine_pass_laws_execution.specs.Frames.{Frames}
use Rattle.bl_emit_spec_laws.specs.Calls.Built.{Activities, activity_at, run_by, site_at}
use Rattle.bl_emit_spec_laws.specs.Calls.Laws.{CompilationContext}
use Rattle.bl_emit_spec_laws.specs.Calls.Memories as memories
use Rattle.bl_emit_spec_laws.specs.Calls.Memories.{MemoryEncodes, Nests, inner}
use Rattle.bl_emit_spec_laws.specs.Activities.{CalleesRemember}
use Rattle.bl_emit_spec_laws.proofs.OnActivities.Forgetting.{inner_remembers}

module _ (w : Setting) (activities : Activities) where
  -- what lies inside has the same roots
  nests_roots : {i k : ℕ} {f m f' m' : Location} → Nests w activities i f m k f' m' → (f'.root ≡ f.root) × (m'.root ≡ m.root)
  nests_roots memories.here = (refl, refl)
  nests_roots (memories.inside is within calls rest) = nests_roots rest

  -- counters stand where they do wherever the variables stand
  elsewhere : {i k : ℕ} {f m f' m' : Location} → Nests w activities i f m k f' m' → (m2 : Location) →
      (m2' : Location) × Nests w activities i f m2 k f' m2'
  elsewhere {i} {k} {f} {m} memories.here m2 = (m2, memories.here)
  elsewhere {i} (memories.inside {j = j} {unit = unit} {l = l} {at = at} {arguments = arguments} is within calls rest) m2 =
      let found = elsewhere rest (inner m2 (run_by w activities i at)) in
      (found.0, memories.inside {unit = unit} {l = l} {at = at} {arguments = arguments} is within calls found.1)

module _ (structs : List StructDef) (units : List UnitDef) (entry : ℕ) (machine : List InMachine) (activities : Activities)
    (compiled : CompilationContext structs units entry machine activities) (remember : CalleesRemember structs units entry machine activities) where
  abbrev W : Setting
  W = setting_of structs units entry

  module _ (i : ℕ) (unit : UnitDef) (there : unit_at (setting_of structs units entry) i ≡ Some unit) (depth : ℕ) (frames : Frames)
      (store : Store)
      (here after : Memory) (older : (root : Root) (way : List Projection) → is_older depth root ≡ true → after root way ≡ here root way)
      (f m m2 : Location) (memory : MemoryEncodes (setting_of structs units entry) activities i f m frames store here)
      (is : remembers_any (activity_at (setting_of structs units entry) activities i) ≡ true → m2 ≡ m)
      (frame_older : is_older depth f.root ≡ true)
      (memory_older : remembers_any (activity_at (setting_of structs units entry) activities i) ≡ true → is_older depth m.root ≡ true)
      (l : Label) (at : Place) (arguments : Arguments) (j : ℕ) (within : Contains (nodes_in (plain_body unit.body)) (EnterAt l at arguments))
      (calls : callee_of (setting_of structs units entry) i at ≡ Some j) where
    abbrev n : NumberedWord
    n = run_by W activities i at

    counters_kept : (k : ℕ) (f' m' : Location) → Nests W activities j (inner f n) (inner m2 n) k f' m' → (c : ℕ) → c
        < length (activity_at W activities k).sizes →
        scalar_number (value_at after (further f' (member (counter_name c) ∷ []))) ≡ pos (frames k c)
    counters_kept k f' m' nests c less =
        let moved = elsewhere W activities nests (inner m n) in
        older f'.root ((f'.parts ++ member (counter_name c) ∷ []) ++ [])
        (ap (is_older depth) (nests_roots W activities nests).0 ∙ frame_older)
        ∙ memory.counters k f' moved.0 (memories.inside {unit = unit} {l = l} {at = at} {arguments = arguments} there within calls moved.1) c less

    variables_kept : (k : ℕ) (f' m' : Location) → Nests W activities j (inner f n) (inner m2 n) k f' m' →
        (x : ℕ) (var : Var) (value : Value) →
        var_at (site_at W activities k) x ≡ Some var → home_at (site_at W activities k) x ≡ Held →
        slice_get (view_at W store k).now x ≡ Some value →
        Encodes structs var.ty value (value_at after (further m' (member (variable_name (site_at W activities k).vars x) ∷ [])))
    variables_kept k f' m' nests x var value var_there held known =
        let remembers : remembers_any (activity_at W activities i) ≡ true =
        remember i j unit l at arguments compiled there within calls
        (inner_remembers structs units entry machine activities compiled remember nests x var var_there held) in
        let moved : Nests W activities j (inner f n) (inner m n) k f' m' =
        subst (λ (p : Location). Nests W activities j (inner f n) (inner p n) k f' m') (is remembers) nests in
        let before : Encodes structs var.ty value (value_at here (further m' (member (variable_name (site_at W activities k).vars x) ∷ []))) =
        memory.variables k f' m'
        (memories.inside {unit = unit} {l = l} {at = at} {arguments = arguments} there within calls moved) x var value var_there held known in
        record {
          each = λ ks number number_is.
              older m'.root ((m'.parts ++ member (variable_name (site_at W activities k).vars x) ∷ []) ++ way_to structs ks (Some var.ty))
              (ap (is_older depth) (nests_roots W activities moved).1 ∙ memory_older remembers)
              ∙ before.each ks number number_is;
        }

    pub callee_kept : MemoryEncodes (setting_of structs units entry) activities j
        (inner f (run_by (setting_of structs units entry) activities i at))
        (inner m2 (run_by (setting_of structs units entry) activities i at)) frames store after
    callee_kept = record { counters = counters_kept; variables = variables_kept }
