-- What the text of one call does: a pass by rules over a store, node by node in the order of their numbers.
use Rattle.std.specs.Prelude.{◌≡◌, ◌<◌, ℕ, suc, Bool, true, false, List, Contains, Some, None, ⊤}
use Rattle.std.specs.Prelude.{nat_eq, option_map, slice_get, slice_set, unwrap_or}
use Rattle.std.specs.List.{list_any}
use Rattle.bl_tree.specs.declared.place.Place.{Place}
use Rattle.bl_tree.specs.declared.tree.Stmt.{out-Stmt}
use Rattle.bl_tree.specs.declared.tree.StmtKind.{out-StmtKind}
use Rattle.bl_tree.specs.declared.tree.StmtKind.TheOpen.{StmtKind-F}
use Rattle.bl_tree.specs.declared.tree.Unit.{Unit as UnitDef}
use Rattle.bl_tree.specs.declared.value.Value.{Value}
use Rattle.bl_tree.specs.Rules.{same_place}
use Rattle.bl_graph_nodes.specs.Nodes.{ActAt, Arguments, CheckAt, DepthEndAt, DepthJoinAt, EnterAt, ForkAt, HeadAt, Node, PauseAt, ResumeAt, StartAt}
use Rattle.bl_graph_nodes.specs.Nodes.{SurfaceEndAt, SurfaceJoinAt, TestAt}
use Rattle.bl_graph_nodes.specs.Plain.{Label, plain_body}
use Rattle.bl_machine_prevs.specs.Declared.{prevs_at}
use Rattle.bl_ctree.specs.Actions.{Acts, Asks, Copies, Gives, Silent}
use Rattle.bl_ctree.specs.Instances.{Setting, callee_of, unit_at}
use Rattle.bl_ctree.specs.Store.{Store, view_at}
use Rattle.bl_ctree_laws.specs.Ends.{done_by}
use Rattle.bl_ctree_laws.specs.Pending.{Deed, deed}
use Rattle.bl_ctree_laws_confluence.specs.Deeds.Nesting.{Inside}
use Rattle.bl_machine.specs.Uses.{Slots}
use Rattle.bl_machine_laws.specs.Passes.Follows.{DeedYields}
use Rattle.bl_machine_pass.specs.Registers.{Registers, after_rule, is_due, started, with_at}
use Rattle.bl_machine_pass.specs.Transitions.{Transition, rules}
use Rattle.bl_machine_pass_laws.specs.Turns.Laws.{entry_flag}
use Rattle.bl_machine_pass_laws_execution.specs.Frames.{ChangeOnly, Frames}

-- ---- deeds of nodes

-- the node is none of a `run`
abbrev pub IsPoint : Node → Type 0
IsPoint (EnterAt l at arguments) = ⊥
IsPoint (ResumeAt l at arguments) = ⊥
IsPoint _ = ⊤

-- the deed of a node of the instance; for the nodes of a `run` it is silent
abbrev pub deed_at : ℕ → Node → Deed
deed_at i (ActAt l s) = deed i (out-Stmt s).place (Acts s)
deed_at i (TestAt l at e) = deed i at (Asks e)
deed_at i (PauseAt l at) = deed i at Silent
deed_at i (EnterAt l at arguments) = deed i at Silent
deed_at i (ResumeAt l at arguments) = deed i at Silent
deed_at i (HeadAt l at) = deed i at Silent
deed_at i (StartAt l at) = deed i at Silent
deed_at i (CheckAt l at e) = deed i at (Asks e)
deed_at i (SurfaceEndAt l at) = deed i at Silent
deed_at i (DepthEndAt l at) = deed i at Silent
deed_at i (ForkAt l at) = deed i at Silent
deed_at i (SurfaceJoinAt l at) = deed i at Silent
deed_at i (DepthJoinAt l at) = deed i at Silent

-- ---- registers as a pass begins

-- the registers of an instance that begins: its counters hold 0, and its entry is flagged
abbrev pub begun_registers : (ℕ → Node → ℕ) → ℕ → UnitDef → Registers
begun_registers rank i unit = started (λ k. 0) (entry_flag (rank i) (plain_body unit.body))

-- the registers of an instance that goes on: its counters hold what its frame has
abbrev pub resumed_registers : Frames → ℕ → Registers
resumed_registers frames i = started (frames i) (λ k. false)

-- ---- copies

-- the copies hold the earlier values of the variables for which the node asks
abbrev pub CopiesMatch : Setting → ℕ → Node → Store → List Value → Type 0
CopiesMatch w i n store copies =
    (x : ℕ) → list_any (nat_eq x) (prevs_at n) ≡ true → slice_get copies x ≡ slice_get (view_at w store i).before x

-- the copies after an act of this kind: that of a declared variable holds what the variable has now
abbrev pub recopied_kind : {A B C D : Type 0} → StmtKind-F A B C D → List Value → List Value → List Value
recopied_kind (StmtKind-F.Declare k initial) now copies = unwrap_or (option_map (slice_set copies k) (slice_get now k)) copies
recopied_kind _ now copies = copies

-- the copies after the turn of the node, which left this store
abbrev pub recopied : Setting → ℕ → Node → Store → List Value → List Value
recopied w i (ActAt l s) between copies = recopied_kind (out-StmtKind (out-Stmt s).what) (view_at w between i).now copies
recopied w i _ between copies = copies

-- what a change of frames does as an instance begins: it leaves all that isn't inside the instance
abbrev pub ClearsInside : Setting → (ℕ → Frames → Frames) → Type 0
ClearsInside w clear = (i : ℕ) (frames : Frames) → ChangeOnly (Inside w i) frames (clear i frames)

-- ---- passes by rules

-- the rule is one of the instance, which is one of the unit
abbrev pub HasRule : (ℕ → Slots) → ℕ → UnitDef → Transition → Type 0
HasRule slots i unit rule = Contains (rules (slots i) (plain_body unit.body)) rule

-- the second node goes on with a `run` at the place at which the first one begins one
abbrev pub IsSameRun : Node → Node → Type 0
IsSameRun (EnterAt l at arguments) (ResumeAt l' at' arguments') = same_place at at' ≡ true
IsSameRun _ _ = ⊥

-- where the rule's node begins a `run`, no later node that goes on with a `run` at the same place is due
abbrev pub BeginsAlone : (ℕ → Node → ℕ) → (ℕ → Slots) → ℕ → UnitDef → Transition → Registers → Type 0
BeginsAlone rank slots i unit rule r =
    (other : Transition) → HasRule slots i unit other → IsSameRun rule.node other.node → rank i rule.node < rank i other.node →
    is_due (rank i) other r ≡ false

mutual
  -- Executes w rank slots clear i k frames store copies r frames' left r': the nodes of the instance from the number k on have their turns in order. Each has
  -- its turn where its rule is due, and the copies hold what the node asks for. The store becomes `left`, the registers r', and the frames of called instances
  -- frames'. A `run` that begins clears the frames first
  pub data Executes (w : Setting) (rank : ℕ → Node → ℕ) (slots : ℕ → Slots) (clear : ℕ → Frames → Frames) :
      ℕ → ℕ → Frames → Store → List Value → Registers → Frames → Store → Registers → Type 0 where
    -- no node is left
    ends : {i k : ℕ} {frames : Frames} {store : Store} {copies : List Value} {r : Registers} {unit : UnitDef} → unit_at w i ≡ Some unit →
        ((rule : Transition) → HasRule slots i unit rule → rank i rule.node < k) →
        Executes w rank slots clear i k frames store copies r frames store r
    -- the rule of the node with the number isn't due, or there is no such node
    skips : {i k : ℕ} {frames : Frames} {store : Store} {copies : List Value} {r : Registers} {frames' : Frames} {left : Store} {r' : Registers}
        {unit : UnitDef} → unit_at w i ≡ Some unit →
        ((rule : Transition) → HasRule slots i unit rule → rank i rule.node ≡ k → is_due (rank i) rule r ≡ false) →
        Executes w rank slots clear i (suc k) frames store copies r frames' left r' →
        Executes w rank slots clear i k frames store copies r frames' left r'
    -- the rule of the node is due: its deed is done, and the registers change as the rule says. Where a `run` begins, no later node that goes on with it is due
    acts : {i k : ℕ} {frames : Frames} {store : Store} {copies : List Value} {r : Registers} {answer : Bool} {inner : Frames} {between : Store}
        {frames' : Frames} {left : Store} {r' : Registers} {unit : UnitDef} → unit_at w i ≡ Some unit → (rule : Transition) → HasRule slots i unit rule →
        rank i rule.node ≡ k →
        is_due (rank i) rule r ≡ true → BeginsAlone rank slots i unit rule r → CopiesMatch w i rule.node store copies →
        Performs w rank slots clear i rule.node frames store answer inner between →
        Executes w rank slots clear i (suc k) inner between (recopied w i rule.node between copies) (after_rule (rank i) rule answer r) frames' left r' →
        Executes w rank slots clear i k frames store copies r frames' left r'

  -- Performs w rank slots clear i n frames store answer frames' left: what is to be done at the node is done, with this answer
  pub data Performs (w : Setting) (rank : ℕ → Node → ℕ) (slots : ℕ → Slots) (clear : ℕ → Frames → Frames) :
      ℕ → Node → Frames → Store → Bool → Frames → Store → Type 0 where
    does : {i : ℕ} {n : Node} {frames : Frames} {store : Store} {answer : Bool} {left : Store} → IsPoint n → DeedYields w (deed_at i n) store answer left →
        Performs w rank slots clear i n frames store answer frames left
    -- a `run` begins: the inputs are copied, the frames inside are cleared, and what it calls has its first pass, which doesn't end it
    enters : {i : ℕ} {l : Label} {at : Place} {arguments : Arguments} {frames : Frames} {store given : Store} {frames' : Frames} {left : Store}
        {r' : Registers} {callee : ℕ} {unit : UnitDef} → callee_of w i at ≡ Some callee → unit_at w callee ≡ Some unit →
        DeedYields w (deed i at (Copies callee arguments.inputs)) store true given →
        Executes w rank slots clear callee 0 (clear callee frames) given (view_at w given callee).now (begun_registers rank callee unit) frames' left
        r' → r'.over ≡ false →
        Performs w rank slots clear i (EnterAt l at arguments) frames store true (with_at callee r'.counters frames') left
    -- a `run` goes on if the first counter of the callee isn't 0. The answer says whether the callee's body has ended
    resumes : {i : ℕ} {l : Label} {at : Place} {arguments : Arguments} {frames : Frames} {store given : Store} {frames' : Frames} {left : Store}
        {r' : Registers} {callee : ℕ} → callee_of w i at ≡ Some callee → (frames callee 0 ≡ 0 → ⊥) →
        DeedYields w (deed i at (Copies callee arguments.inputs)) store true given →
        Executes w rank slots clear callee 0 frames given (view_at w given callee).now (resumed_registers frames callee) frames' left r' →
        r'.over ≡ false → Performs w rank slots clear i (ResumeAt l at arguments) frames store false (with_at callee r'.counters frames') left
    -- a `run` goes on, the callee's body ends, and the target gets the result
    returns : {i : ℕ} {l : Label} {at : Place} {arguments : Arguments} {frames : Frames} {store given : Store} {frames' : Frames}
        {ended left : Store} {r' : Registers} {callee : ℕ} → callee_of w i at ≡ Some callee → (frames callee 0 ≡ 0 → ⊥) →
        DeedYields w (deed i at (Copies callee arguments.inputs)) store true given →
        Executes w rank slots clear callee 0 frames given (view_at w given callee).now (resumed_registers frames callee) frames' ended r' →
        r'.over ≡ true → DeedYields w (deed i at (Gives callee arguments.target)) ended true left →
        Performs w rank slots clear i (ResumeAt l at arguments) frames store true (with_at callee r'.counters frames') left

mutual
  -- PassTraps w rank slots clear i k frames store copies r: the nodes of the instance from the number k on have their turns in order, until a deed traps
  pub data PassTraps (w : Setting) (rank : ℕ → Node → ℕ) (slots : ℕ → Slots) (clear : ℕ → Frames → Frames) :
      ℕ → ℕ → Frames → Store → List Value → Registers → Type 0 where
    skips_on : {i k : ℕ} {frames : Frames} {store : Store} {copies : List Value} {r : Registers} {unit : UnitDef} → unit_at w i ≡ Some unit →
        ((rule : Transition) → HasRule slots i unit rule → rank i rule.node ≡ k → is_due (rank i) rule r ≡ false) →
        PassTraps w rank slots clear i (suc k) frames store copies r → PassTraps w rank slots clear i k frames store copies r
    goes_on : {i k : ℕ} {frames : Frames} {store : Store} {copies : List Value} {r : Registers} {answer : Bool} {inner : Frames} {between : Store}
        {unit : UnitDef} → unit_at w i ≡ Some unit → (rule : Transition) → HasRule slots i unit rule → rank i rule.node ≡ k →
        is_due (rank i) rule r ≡ true → BeginsAlone rank slots i unit rule r → CopiesMatch w i rule.node store copies →
        Performs w rank slots clear i rule.node frames store answer inner between →
        PassTraps w rank slots clear i (suc k) inner between (recopied w i rule.node between copies) (after_rule (rank i) rule answer r) →
        PassTraps w rank slots clear i k frames store copies r
    traps : {i k : ℕ} {frames : Frames} {store : Store} {copies : List Value} {r : Registers} {unit : UnitDef} → unit_at w i ≡ Some unit →
        (rule : Transition) → HasRule slots i unit rule → rank i rule.node ≡ k → is_due (rank i) rule r ≡ true → CopiesMatch w i rule.node store copies →
        NodeTraps w rank slots clear i rule.node frames store → PassTraps w rank slots clear i k frames store copies r

  -- NodeTraps w rank slots clear i n frames store: a deed that is to be done at the node traps
  pub data NodeTraps (w : Setting) (rank : ℕ → Node → ℕ) (slots : ℕ → Slots) (clear : ℕ → Frames → Frames) :
      ℕ → Node → Frames → Store → Type 0 where
    point_stops : {i : ℕ} {n : Node} {frames : Frames} {store : Store} → IsPoint n → done_by w (deed_at i n) store ≡ None →
        NodeTraps w rank slots clear i n frames store
    -- the inputs of a `run` do
    inputs_stop : {i : ℕ} {l : Label} {at : Place} {arguments : Arguments} {frames : Frames} {store : Store} {callee : ℕ} →
        callee_of w i at ≡ Some callee → done_by w (deed i at (Copies callee arguments.inputs)) store ≡ None →
        NodeTraps w rank slots clear i (EnterAt l at arguments) frames store
    copies_stop : {i : ℕ} {l : Label} {at : Place} {arguments : Arguments} {frames : Frames} {store : Store} {callee : ℕ} →
        callee_of w i at ≡ Some callee → done_by w (deed i at (Copies callee arguments.inputs)) store ≡ None →
        NodeTraps w rank slots clear i (ResumeAt l at arguments) frames store
    -- a deed in the callee's pass traps
    begun_stops : {i : ℕ} {l : Label} {at : Place} {arguments : Arguments} {frames : Frames} {store given : Store} {callee : ℕ} {unit : UnitDef} →
        callee_of w i at ≡ Some callee → unit_at w callee ≡ Some unit → DeedYields w (deed i at (Copies callee arguments.inputs)) store true given →
        PassTraps w rank slots clear callee 0 (clear callee frames) given (view_at w given callee).now (begun_registers rank callee unit) →
        NodeTraps w rank slots clear i (EnterAt l at arguments) frames store
    resumed_stops : {i : ℕ} {l : Label} {at : Place} {arguments : Arguments} {frames : Frames} {store given : Store} {callee : ℕ} →
        callee_of w i at ≡ Some callee → (frames callee 0 ≡ 0 → ⊥) → DeedYields w (deed i at (Copies callee arguments.inputs)) store true given →
        PassTraps w rank slots clear callee 0 frames given (view_at w given callee).now (resumed_registers frames callee) →
        NodeTraps w rank slots clear i (ResumeAt l at arguments) frames store
