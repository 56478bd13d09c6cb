-- The structs of the units that the entry of a program needs.
use Rattle.std.proofs.Common.{◌≡◌, ℕ, ◌+◌, arith, Bool, true, ◌&&◌, List, []}
use Rattle.std.proofs.Common.{map, take, length, Option, Some, None, refl, sym, ap, ◌∙◌, subst}
use Rattle.std.specs.List.{list_all}
use Rattle.std.specs.Prelude.{is_none, is_some, slice_get}
use Rattle.bl_tree.proofs.Basics.{and_first}
use Rattle.bl_tree.specs.declared.c.CMember.{CMember}
use Rattle.bl_tree.specs.declared.tree.StructDef.{StructDef}
use Rattle.bl_tree.specs.declared.tree.Unit.{Unit as UnitDef}
use Rattle.bl_tree.specs.declared.tree.Var.{Var}
use Rattle.bl_tree.specs.Program.{IsWellTyped, is_entry, parameters_of}
use Rattle.bl_tree.specs.Types.{scalar_in}
use Rattle.bl_tree.specs.Typing.{is_activity}
use Rattle.bl_eval.proofs.PassLemmas.{all_at}
use Rattle.bl_machine.specs.declared.machine.Activity.{Activity as InMachine}
use Rattle.bl_machine.specs.Machines.{IsActivityOf}
use Rattle.bl_machine.specs.Uses.{Slots}
use Rattle.bl_graph_nodes.specs.Nodes.{nodes_in}
use Rattle.bl_graph_nodes.specs.Plain.{Block}
use Rattle.bl_machine_pass.specs.Transitions.{Transition, rules}
use Rattle.bl_emit_acts.specs.Types.{c_type}
use Rattle.bl_emit_structs_laws_wellformed.specs.Names.{TypesDeclared, is_known}
use Rattle.bl_emit_structs_laws_wellformed.specs.Formed.{OfVariable}
use Rattle.bl_emit_functions_laws_wellformed.specs.Formed.{MemoriesHold}
use Rattle.bl_emit_functions_laws_wellformed.proofs.OnFiles.Growing.{distinct_behind, names}
use Rattle.bl_emit_spec.specs.Programs.{activity_of, needed_units}
use Rattle.bl_emit_spec_laws_wellformed.specs.Closed.{NeededClosed}
use Rattle.bl_emit_spec_laws_wellformed.specs.Names.{FrameDiffers, MemoryDiffers}
use Rattle.bl_emit_spec_laws_wellformed.specs.Machines.{IsModest, MachinesDiffer, MachinesSpell}
use Rattle.bl_emit_spec_laws_wellformed.specs.Needed.{NeededNumbered, NeededSmall}
use Rattle.bl_emit_spec_laws_wellformed_bodies.specs.Structs.Laws.{PartsAreSound, type_names}
use Rattle.bl_emit_spec_laws_wellformed_bodies.proofs.OnStructs.Names.{parts_differ}
use Rattle.bl_emit_spec_laws_wellformed_bodies.proofs.OnStructs.Runs.{runs_fit}
use Rattle.bl_emit_spec_laws_wellformed_bodies.proofs.OnStructs.Walk.{Modest, walk}

-- the type of a variable is known
member_known : (structs : List StructDef) (units : List UnitDef) (entry : ℕ) → IsWellTyped structs units entry → TypesDeclared structs units entry →
    (m : CMember) → OfVariable structs units m → is_known (type_names structs units) m.ty ≡ true
member_known structs units entry keeps declared m v =
    subst (λ ty. is_known (type_names structs units) ty ≡ true) (sym v.is)
    (all_at (λ (var : Var). is_known (type_names structs units) (c_type structs var.ty)) v.unit.vars v.j v.var
    (all_at (λ (unit : UnitDef). list_all (λ (var : Var). is_known (type_names structs units) (c_type structs var.ty)) unit.vars) units v.k v.unit
    (declared keeps) v.unit_there) v.var_there)

entry_active : (o : Option UnitDef) → is_entry o ≡ true → (unit : UnitDef) → o ≡ Some unit → is_activity unit.kind ≡ true
entry_active None entry unit is = absurd (cc)
entry_active (Some first) entry unit is =
    let active : is_activity first.kind ≡ true =
    and_first (is_activity first.kind)
    (is_none first.result && list_all (λ (var : Var). is_some (scalar_in var.ty)) (parameters_of first)) entry in
    ap (λ (u : UnitDef). is_activity u.kind) (same first unit is) ∙ active
  where
    same : (a b : UnitDef) → Some a ≡ Some b → b ≡ a
    same a b is = cc

behind : (i n : ℕ) → n ≡ 0 → i ≡ n + i
behind i n none = omega (arith, none)

pub sound : ((slots : Slots) (body : Block) → map (λ (rule : Transition). rule.node) (rules slots body) ≡ nodes_in body) →
    (structs : List StructDef) (units : List UnitDef) (entry : ℕ) → TypesDeclared structs units entry → MemoriesHold structs units → FrameDiffers →
    MemoryDiffers → MachinesSpell structs units entry → MachinesDiffer structs units entry → NeededSmall structs units entry →
    NeededNumbered structs units entry → NeededClosed structs units entry → PartsAreSound structs units entry
sound nodes structs units entry declared hold frames memories spell differ small numbered closed machine keeps limits agrees =
    let modest : (k : ℕ) (unit : UnitDef) (one : InMachine) (remember : List Bool) → slice_get units k ≡ Some unit → is_activity unit.kind ≡ true →
    slice_get (needed_units units entry) k ≡ Some true → IsActivityOf unit one →
    Modest units entry k (take k units) (activity_of structs (take k units) remember unit one) =
    λ k unit one remember there active need own.
    let is : IsModest structs units k unit one =
    record { there = there; of_unit = own; cells = small k keeps limits need } in
    record {
      numbers = differ k unit one remember keeps is;
      runs = runs_fit nodes structs units entry k (activity_of structs (take k units) remember unit one) keeps closed (spell k unit one remember keeps is);
    } in
    let few = λ (k : ℕ) (unit : UnitDef) (there : slice_get units k ≡ Some unit) (need : slice_get (needed_units units entry) k ≡ Some true).
    (numbered k unit keeps limits there need).variables in
    let known = member_known structs units entry keeps declared in
    let walked = walk structs units entry (type_names structs units) hold frames memories known few modest [] [] units (needed_units units entry)
    machine (type_names structs units) refl (λ i. ap (slice_get (needed_units units entry)) (behind i (length {A = UnitDef} []) refl)) agrees
    (record {
      long = refl;
      of_types = λ ty is. is;
      frames = λ j unit below. absurd (omega (arith, below));
      memories = λ j unit below. absurd (omega (arith, below));
    }) in
    record {
      known = walked.known;
      each = walked.each;
      differ = parts_differ structs [] [] units (needed_units units entry) machine
          (distinct_behind (map (λ (def : StructDef). def.name) structs) (names units) keeps.distinct);
      frame = λ unit there.
          walked.frames entry unit there (closed.entry_is keeps) (entry_active (slice_get units entry) keeps.entry_stands unit there);
      memory = λ unit there tells. walked.memories entry unit there (closed.entry_is keeps) tells;
    }
