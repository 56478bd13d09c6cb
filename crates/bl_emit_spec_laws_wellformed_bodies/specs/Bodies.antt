-- The statements of the C functions of activities, as a text: no clause fails in them.
use Rattle.std.specs.Prelude.{◌≡◌, ℕ, ◌<◌, Bool, true, false, List, [], ◌∷◌, ◌++◌, length, map, Option, Some, None, Contains}
use Rattle.std.specs.Prelude.{is_some, slice_get}
use Rattle.std.specs.List.{list_all}
use Rattle.bl_tree.specs.declared.c.CMember.{CMember}
use Rattle.bl_tree.specs.declared.c.CType.TheVariants.{Scalar as OfScalar, Struct as OfStruct}
use Rattle.bl_tree.specs.declared.scalar.Scalar.{Scalar}
use Rattle.bl_tree.specs.declared.tree.Stmt.{out-Stmt}
use Rattle.bl_tree.specs.declared.tree.StmtKind.{out-StmtKind}
use Rattle.bl_tree.specs.declared.tree.StmtKind.TheOpen.{StmtKind-F}
use Rattle.bl_tree.specs.declared.tree.StructDef.{StructDef}
use Rattle.bl_tree.specs.declared.tree.Unit.{Unit as UnitDef}
use Rattle.bl_tree.specs.declared.tree.Var.{Var}
use Rattle.bl_tree.specs.Program.{IsWellTyped, parameters_of}
use Rattle.bl_tree.specs.Reduce.{all_of}
use Rattle.bl_tree.specs.Types.{scalar_in}
use Rattle.bl_tree.specs.Typing.{is_activity, is_function}
use Rattle.bl_graph_nodes.specs.Nodes.{ActAt, CheckAt, EnterAt, Node, ResumeAt, TestAt, entry}
use Rattle.bl_graph_nodes.specs.Plain.{Block, Plain, Then}
use Rattle.bl_machine_pass.specs.Transitions.{Transition}
use Rattle.bl_ctext_semantics.specs.Faults.{Signature, Variable, bool_type, context_in}
use Rattle.bl_ctext_semantics.specs.Tables.{Table}
use Rattle.bl_emit_acts.specs.Acts.{is_copied}
use Rattle.bl_emit_acts.specs.Types.{c_scalar, unit_name}
use Rattle.bl_emit_structs.specs.Structs.{structs_for}
use Rattle.bl_emit_functions.specs.Functions.{memory_name}
use Rattle.bl_emit_acts_laws_simulation.specs.Acts.{copied_in_layer}
use Rattle.bl_emit_acts_laws_simulation.specs.Encodes.{copied_in}
use Rattle.bl_emit_acts_laws_wellformed.specs.Formed.Declared.{AreDeclared, IsDeclared, parameter_for, signature_for, variable_of}
use Rattle.bl_emit_acts_laws_wellformed.specs.Formed.Formed.{BlockIs}
use Rattle.bl_emit_spec.specs.Activities.{Activity, RunAt, activity_code, activity_function, activity_view, body_of, copies_of, first_rules, frame_struct}
use Rattle.bl_emit_spec.specs.Activities.{remembered_struct, rules_at, runs_in_body}
use Rattle.bl_emit_spec.specs.Blocks.{name_in, unit_may_end}
use Rattle.bl_emit_spec.specs.Names.{frame_name}
use Rattle.bl_emit_spec_laws.specs.Registers.Laws.{asks_its_own, changes_its_own}
use Rattle.bl_emit_spec_laws.specs.Calls.Built.{last_rules, registered}
use Rattle.bl_emit_spec_laws_wellformed.specs.Names.{NumbersDiffer}
use Rattle.bl_emit_spec_laws_wellformed.specs.Numbers.{EachStandsOnce}
use Rattle.bl_emit_spec_laws_wellformed.specs.Spelled.{CanSpell}

-- ---- what a call of an activity's function is given

-- the pointer to what the activity remembers, where it remembers anything
abbrev pub memory_given : UnitDef → Bool → List Variable
memory_given unit true = variable_of true (OfStruct (memory_name unit.name)) ∷ []
memory_given unit false = []

-- the variable of the pointer to the activity's result, where it has one
abbrev pub result_given : Option Scalar → List Variable
result_given (Some s) = variable_of true (OfScalar (c_scalar s)) ∷ []
result_given None = []

-- the variable of the pointer to whether the activity has ended, where the test is true
abbrev pub over_given : Bool → List Variable
over_given true = variable_of true bool_type ∷ []
over_given false = []

-- the parameters of the C function of an activity, which has no result of its own; the test says whether the activity remembers anything
abbrev pub signature_of_activity : List StructDef → UnitDef → Bool → Signature
signature_of_activity structs unit remembers = record {
  widens = false;
  params = variable_of true (OfStruct (frame_name unit.name))
      ∷ (memory_given unit remembers
      ++ (map (parameter_for structs) (parameters_of unit) ++ (result_given unit.result ++ over_given (unit_may_end unit))));
  result = None;
}

-- ---- what stands before the function

-- What stands before the C function of an activity: the structs of the program's types, of where the activity rests, of what it remembers and of
-- where those that it runs rest; and the functions of earlier units
pub record ActivityStands (units : List UnitDef) (a : Activity) (table : Table (Table CMember)) (functions : Table Signature) : Type 0 where
  pub declared : AreDeclared table (structs_for a.structs units)
  pub frame : IsDeclared table (frame_struct a)
  pub memory : AreDeclared table (remembered_struct a)
  pub frames : (run : RunAt) → Contains (runs_in_body a) run → is_some (table (frame_name (name_in (slice_get a.earlier run.unit)))) ≡ true
  pub known : (f : ℕ) (callee : UnitDef) → slice_get a.earlier f ≡ Some callee → is_function callee.kind ≡ true →
      functions (unit_name callee.name) ≡ Some (signature_for a.structs callee)
  pub called : (f : ℕ) (callee : UnitDef) → slice_get a.earlier f ≡ Some callee → is_activity callee.kind ≡ true →
      functions (unit_name callee.name) ≡ Some (signature_of_activity a.structs callee ((activity_view a).remembers f))

-- ---- what is asked of an activity

-- Each node of an activity stands once in its blocks, and there is a counter. The rules of nodes that stand first in their blocks ask for registers that its
-- function has, and those of nodes that stand last change only such
pub record OwnsRules (a : Activity) : Type 0 where
  pub once : EachStandsOnce a
  pub asks : (rule : Transition) → Contains (first_rules a) rule → asks_its_own (activity_view a) (registered a) rule.node rule.condition ≡ true
  pub on_true : (rule : Transition) → Contains (last_rules a) rule → list_all (changes_its_own (activity_view a).number (registered a)) rule.on_true ≡ true
  pub on_false : (rule : Transition) → Contains (last_rules a) rule → list_all (changes_its_own (activity_view a).number (registered a)) rule.on_false ≡ true
  -- the node at which the body begins has a flag
  pub begins : (s : Plain) (rest : Block) → body_of a ≡ Then s rest → (registered a).flags ((activity_view a).number (entry s)) ≡ true
  pub some : 0 < length a.sizes
  pub read : (c : ℕ) → (activity_view a).is_read c ≡ true → c < length a.sizes

-- whether all that an act or a `return` names under a `prev` is copied
abbrev pub act_named : {A B C D : Type 0} → (ℕ → Bool) → StmtKind-F A B C D → Bool
act_named copied (StmtKind-F.Return (Some e)) = copied_in copied e
act_named copied layer = copied_in_layer copied layer

-- whether all that is named under a `prev` at a node is copied. The outputs and the target of a `run` have no index in which one could stand
abbrev pub named_there : (ℕ → Bool) → Node → Bool
named_there copied (ActAt l s) = act_named copied (out-StmtKind (out-Stmt s).what)
named_there copied (TestAt l at e) = copied_in copied e
named_there copied (CheckAt l at e) = copied_in copied e
named_there copied (EnterAt l at arguments) = all_of (map (copied_in copied) arguments.inputs)
named_there copied (ResumeAt l at arguments) = all_of (map (copied_in copied) arguments.inputs)
named_there copied n = true

-- all that the nodes of an activity name under a `prev` is copied, and copies are numbers or bools
pub record CopiesSuffice (a : Activity) : Type 0 where
  pub named : (rule : Transition) → Contains (rules_at a) rule → named_there (is_copied (copies_of a.unit)) rule.node ≡ true
  pub scalars : (x : ℕ) (var : Var) → is_copied (copies_of a.unit) x ≡ true → slice_get a.unit.vars x ≡ Some var →
      is_some (scalar_in var.ty) ≡ true

-- no clause fails in the statements of the C function of an activity
abbrev pub ActivityBodiesWellFormed : List StructDef → List UnitDef → ℕ → Type 0
ActivityBodiesWellFormed structs units entry =
    (k : ℕ) (a : Activity) (table : Table (Table CMember)) (functions : Table Signature) → IsWellTyped structs units entry →
    CanSpell structs units k a → is_activity a.unit.kind ≡ true → NumbersDiffer a → ActivityStands units a table functions → OwnsRules a →
    CopiesSuffice a → BlockIs (context_in table functions (activity_function a)) (activity_code a)
