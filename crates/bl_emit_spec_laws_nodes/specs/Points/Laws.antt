-- What holds of the blocks of a pass at which nothing is done but changes of registers.
use Rattle.std.specs.Prelude.{◌≡◌, ℕ, Bool, true, false, List, Contains, is_some, Some, slice_get, ⊤}
use Rattle.std.specs.List.{list_all, list_any}
use Rattle.bl_tree.specs.declared.tree.Stmt.{out-Stmt}
use Rattle.bl_tree.specs.declared.tree.StmtKind.{out-StmtKind}
use Rattle.bl_tree.specs.declared.tree.StructDef.{StructDef}
use Rattle.bl_tree.specs.declared.tree.Unit.{Unit as UnitDef}
use Rattle.bl_tree.specs.declared.tree.Var.{Var}
use Rattle.bl_tree.specs.declared.value.Value.{Value}
use Rattle.bl_tree.specs.Returns.{is_return_kind}
use Rattle.bl_tree.specs.Typing.{is_activity, var_at}
use Rattle.bl_graph_nodes.specs.Nodes.{ActAt, DepthEndAt, DepthJoinAt, ForkAt, HeadAt, Node, PauseAt, StartAt, SurfaceEndAt, SurfaceJoinAt}
use Rattle.bl_graph_nodes.specs.Plain.{plain_body}
use Rattle.bl_ctext_semantics.specs.Meaning.{Scope, block_c}
use Rattle.bl_ctext_semantics.specs.Memory.{Location, Memory, scalar_number, value_at}
use Rattle.bl_ctree.specs.Actions.{result_at}
use Rattle.bl_ctree.specs.Instances.{Setting, setting_of, unit_at}
use Rattle.bl_ctree.specs.Store.{Store, number_or_zero}
use Rattle.bl_emit_acts.specs.declared.home.Home.TheVariants.{Held}
use Rattle.bl_emit_acts_laws_simulation.specs.Encodes.{home_at}
use Rattle.bl_emit_spec.specs.Activities.{activity_view, first_rules, remembers_any}
use Rattle.bl_emit_spec.specs.Blocks.{changes_code}
use Rattle.bl_emit_spec_laws.specs.Registers.Laws.{asks_its_own, changes_its_own, ends_body}
use Rattle.bl_machine.specs.declared.machine.Activity.{Activity as InMachine}
use Rattle.bl_machine_pass.specs.Registers.{Registers, all_changed}
use Rattle.bl_machine_pass.specs.Transitions.{Change, Transition, rules}
use Rattle.bl_machine_pass_laws_execution.specs.Executes.{HasRule}
use Rattle.bl_machine_pass_laws_execution.specs.Frames.{Frames}
use Rattle.bl_emit_spec_laws.specs.Calls.Built.{Activities, activity_at, rank_by, registered, site_at, slots_by}
use Rattle.bl_emit_spec_laws.specs.Calls.Laws.{BlocksSimulate, CompilationContext, GuardsChoose, HasShownRule, PartSimulates}
use Rattle.bl_emit_spec_laws.specs.Calls.Memories.{Nests}
use Rattle.bl_emit_spec_laws.specs.Calls.Invariant.{FunctionContext, PassRepresents, result_at_c}

-- ---- what is asked of rules

-- all that rules of an instance's activity ask and change in its C are registers that its function has
pub record RulesOwn (w : Setting) (activities : Activities) : Type 0 where
  pub asks : (i : ℕ) (unit : UnitDef) (rule : Transition) → unit_at w i ≡ Some unit → HasRule (slots_by w activities) i unit rule →
      Contains (first_rules (activity_at w activities i)) rule →
      asks_its_own (activity_view (activity_at w activities i)) (registered (activity_at w activities i)) rule.node rule.condition ≡ true
  pub on_true : (i : ℕ) (unit : UnitDef) (rule : Transition) → unit_at w i ≡ Some unit → HasShownRule w activities i unit rule →
      list_all (changes_its_own (rank_by w activities i) (registered (activity_at w activities i))) rule.on_true ≡ true
  pub on_false : (i : ℕ) (unit : UnitDef) (rule : Transition) → unit_at w i ≡ Some unit → HasShownRule w activities i unit rule →
      list_all (changes_its_own (rank_by w activities i) (registered (activity_at w activities i))) rule.on_false ≡ true

-- whether the node is a `return`
abbrev pub is_return_node : Node → Bool
is_return_node (ActAt l s) = is_return_kind (out-StmtKind (out-Stmt s).what)
is_return_node _ = false

-- only a `return` ends the body of an activity with a result
pub record ReturnsEnd (units : List UnitDef) (activities : Activities) : Type 0 where
  pub on_true : (k : ℕ) (unit : UnitDef) (rule : Transition) → slice_get units k ≡ Some unit → is_activity unit.kind ≡ true →
      is_some unit.result ≡ true →
      Contains (rules (activities k).slots (plain_body unit.body)) rule → list_any ends_body rule.on_true ≡ true → is_return_node rule.node ≡ true
  pub on_false : (k : ℕ) (unit : UnitDef) (rule : Transition) → slice_get units k ≡ Some unit → is_activity unit.kind ≡ true →
      is_some unit.result ≡ true → Contains (rules (activities k).slots (plain_body unit.body)) rule →
      list_any ends_body rule.on_false ≡ true → is_return_node rule.node ≡ true

-- ---- what is asked of activities

-- an activity is marked as remembering if it, or what it calls, remembers a variable
pub record Remembering (w : Setting) (activities : Activities) : Type 0 where
  pub each : (i k : ℕ) (f m f' m' : Location) (x : ℕ) (var : Var) → Nests w activities i f m k f' m' →
      var_at (site_at w activities k) x ≡ Some var →
      home_at (site_at w activities k) x ≡ Held → remembers_any (activity_at w activities i) ≡ true

-- ---- changes

-- memory has the result where the registers say that the body has ended
abbrev pub ResultTold : UnitDef → ℕ → Scope → Store → Registers → Memory → Type 0
ResultTold unit i scope store r here =
    (value : Value) → r.over ≡ true → is_some unit.result ≡ true → result_at store i ≡ Some value →
    scalar_number (value_at here (result_at_c scope)) ≡ number_or_zero value

-- the C of changes simulates them in the middle of a pass, and leaves all else
abbrev pub ChangesSimulateInPass : Type 0
ChangesSimulateInPass =
    (structs : List StructDef) (units : List UnitDef) (entry : ℕ) (machine : List InMachine) (activities : Activities) (i : ℕ) (unit : UnitDef)
    (scope : Scope) (frames : Frames) (store : Store) (copies : List Value) (r : Registers) (here : Memory) (changes : List Change) →
    let w = setting_of structs units entry in
    CompilationContext structs units entry machine activities → FunctionContext structs units w activities i unit scope → unit_at w i ≡ Some unit →
    Remembering w activities →
    PassRepresents w activities i unit scope frames store copies r here →
    list_all (changes_its_own (rank_by w activities i) (registered (activity_at w activities i))) changes ≡ true →
    ResultTold unit i scope store (all_changed (rank_by w activities i) changes r) here →
    PartSimulates w activities i unit scope frames store copies (all_changed (rank_by w activities i) changes r) here
    (block_c (changes_code (activity_view (activity_at w activities i)) changes) scope here)

-- ---- blocks

-- an `if` by the guard of a block's first node does what stands in it where the rule of that node is due, and else nothing
abbrev pub GuardsSimulate : Type 0
GuardsSimulate =
    (structs : List StructDef) (units : List UnitDef) (entry : ℕ) (machine : List InMachine) (activities : Activities) →
    RulesOwn (setting_of structs units entry) activities → GuardsChoose structs units entry machine activities

-- nothing is done at the node but changes
abbrev pub IsSilent : Node → Type 0
IsSilent (PauseAt l at) = ⊤
IsSilent (HeadAt l at) = ⊤
IsSilent (StartAt l at) = ⊤
IsSilent (SurfaceEndAt l at) = ⊤
IsSilent (DepthEndAt l at) = ⊤
IsSilent (ForkAt l at) = ⊤
IsSilent (SurfaceJoinAt l at) = ⊤
IsSilent (DepthJoinAt l at) = ⊤
IsSilent _ = ⊥

-- the blocks of nodes with changes alone simulate them
abbrev pub SilentNodesSimulate : Type 0
SilentNodesSimulate =
    (structs : List StructDef) (units : List UnitDef) (entry : ℕ) (machine : List InMachine) (activities : Activities) →
    RulesOwn (setting_of structs units entry) activities →
    ReturnsEnd units activities → Remembering (setting_of structs units entry) activities → BlocksSimulate structs units entry machine activities
    IsSilent
