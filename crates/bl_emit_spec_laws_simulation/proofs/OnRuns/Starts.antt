-- A `run` whose start leaves its call to the block that goes on with it.
use Rattle.std.proofs.Common.{◌≡◌, ℕ, Bool, true, false, List, ◌++◌, Some, None, refl, sym, ap, ◌∙◌, subst}
use Rattle.std.proofs.Math.Bool.{Bool-set}
use Rattle.std.proofs.Math.IntN.{ℤ_set}
use Rattle.std.proofs.Math.Logic.{∥∥₁_elim}
use Rattle.std.proofs.lemmas.Option.{same_Some}
use Rattle.std.specs.Prelude.{slice_get}
use Rattle.bl_tree.proofs.Basics.{contains_at}
use Rattle.bl_tree.specs.declared.c.CStmt.{CStmt}
use Rattle.bl_tree.specs.declared.place.Place.{Place}
use Rattle.bl_tree.specs.declared.tree.StructDef.{StructDef}
use Rattle.bl_tree.specs.declared.tree.Unit.{Unit as UnitDef}
use Rattle.bl_tree.specs.declared.value.Value.{Value}
use Rattle.bl_graph_nodes.specs.Nodes.{Arguments, EnterAt, Node, ResumeAt, nodes_in, place_of_node}
use Rattle.bl_graph_nodes.specs.Plain.{Block, Label, plain_body}
use Rattle.bl_ctext_semantics.specs.Course.{End, Outcome, breaks, goes_on, returns, traps}
use Rattle.bl_ctext_semantics.specs.Meaning.{Scope, block_c}
use Rattle.bl_ctext_semantics.specs.Memory.{Memory, Projection, Root}
use Rattle.bl_ctree.specs.Instances.{Setting, callee_of, setting_of}
use Rattle.bl_ctree.specs.Store.{Store}
use Rattle.bl_ctree_laws.specs.Trees.{Call}
use Rattle.bl_ctree_laws_confluence.specs.Deeds.Nesting.{ProgramsNest}
use Rattle.bl_ctree_laws_confluence.specs.Deeds.Orderly.{AcceptedIsOrderly}
use Rattle.bl_ctree_laws_confluence.specs.Deeds.Origins.{InstancesHaveCallers}
use Rattle.bl_emit_acts.specs.Trees.{c_read}
use Rattle.bl_emit_acts_laws_simulation.specs.Laws.{FramesApart, PlacesSimulate, WritesEncode}
use Rattle.bl_emit_functions.specs.Trees.{c_if}
use Rattle.bl_emit_spec.specs.Activities.{activity_view}
use Rattle.bl_emit_spec.specs.Blocks.{ActivityView, changes_code, may_end_in, node_code, resumed_code, stmt_where, target_code, word_at}
use Rattle.bl_emit_spec.specs.Names.{ended_place}
use Rattle.bl_emit_spec_laws.specs.Registers.Laws.{RegistersKeepApart}
use Rattle.bl_machine.specs.declared.machine.Activity.{Activity as InMachine}
use Rattle.bl_machine_pass.specs.Registers.{Registers, after_rule}
use Rattle.bl_machine_pass.specs.Transitions.{Transition}
use Rattle.bl_machine_pass_laws_execution.specs.Executes as executes
use Rattle.bl_machine_pass_laws_execution.specs.Executes.{CopiesMatch, IsPoint, IsSameRun, NodeTraps, Performs, recopied}
use Rattle.bl_machine_pass_laws.specs.Turns.Laws.{StaysPlaced}
use Rattle.bl_machine_pass_laws_typing.specs.Fits.{PassesKeepTypes}
use Rattle.bl_machine_pass_laws_execution.specs.Frames.{Frames}
use Rattle.bl_machine_pass_laws.specs.Keys.{NodesHaveKeys}
use Rattle.bl_machine_transitions.specs.Callees.{callees_in}
use Rattle.bl_emit_spec_laws.specs.Calls.Built.{Activities, activity_at, cleared, rank_by, run_by, slots_by, unit_number}
use Rattle.bl_emit_spec_laws.specs.Calls.Laws.{CallIsLeft, CalledAt, HasShownRule, Midway, PartSimulates, block_done, own_done}
use Rattle.bl_emit_spec_laws.specs.Cleared.{ClearingIsInside}
use Rattle.bl_emit_spec_laws.specs.Within.{AllStayWithin}
use Rattle.bl_emit_spec_laws.proofs.OnPasses.Same.{OneRun, one_run}
use Rattle.bl_emit_spec_laws.proofs.OnRunPlaces.Entered.{call_there, calls_in_are, node_by}
use Rattle.bl_emit_spec_laws.proofs.OnRunPlaces.Words.{run_word}
use Rattle.bl_emit_spec_laws_nodes.specs.Calling.{RunOf, RunsEstablish, RunsLeave, RunsSimulate}
use Rattle.bl_emit_spec_laws_nodes.specs.Points.Laws.{ChangesSimulateInPass}
use Rattle.bl_emit_spec_laws_nodes.specs.Points.Points.{BodiesEnd, PointsStand}
use Rattle.bl_emit_spec_laws_nodes.proofs.OnPoints.Silent.{comes_as}
use Rattle.bl_emit_spec_laws_simulation.proofs.OnRuns.Begun.{first_inputs, first_stops, first_unasked, mid_own, own_comes}
use Rattle.bl_emit_spec_laws_simulation.proofs.OnRuns.Blocks.{blocks_simulate}
use Rattle.bl_emit_spec_laws_simulation.proofs.OnRuns.Running.{CallsUnit, node_calls}
use Rattle.bl_emit_spec_laws_simulation.proofs.OnRuns.Stated.{same_arguments}
use Rattle.bl_tree.proofs.FirstLemmas.{same_true, In}

-- ---- outcomes that are the same for the same arguments

abbrev is_going : End → Bool
is_going goes_on = true
is_going breaks = false
is_going (returns result) = false
is_going traps = false

going_so : (e : End) → is_going e ≡ true → e ≡ goes_on
going_so goes_on is = refl
going_so breaks is = absurd (cc)
going_so (returns result) is = absurd (cc)
going_so traps is = absurd (cc)

abbrev is_trap : End → Bool
is_trap goes_on = false
is_trap breaks = false
is_trap (returns result) = false
is_trap traps = true

trap_so : (e : End) → is_trap e ≡ true → e ≡ traps
trap_so goes_on is = absurd (cc)
trap_so breaks is = absurd (cc)
trap_so (returns result) is = absurd (cc)
trap_so traps is = refl

module _ (F : Arguments → Outcome Memory) (a b : Arguments) (same : ∥ a ≡ b ∥₁) where
  goes_too : (F a).end ≡ goes_on → (F b).end ≡ goes_on
  goes_too goes =
      going_so (F b).end
      (∥∥₁_elim same (Bool-set _ _) (λ is. ap (λ (c : Arguments). is_going (F c).end) (sym is) ∙ ap is_going goes))

  traps_too : (F a).end ≡ traps → (F b).end ≡ traps
  traps_too trapped =
      trap_so (F b).end
      (∥∥₁_elim same (Bool-set _ _) (λ is. ap (λ (c : Arguments). is_trap (F c).end) (sym is) ∙ ap is_trap trapped))

  cells_too : (root : Root) (way : List Projection) → (F b).memory root way ≡ (F a).memory root way
  cells_too root way = ∥∥₁_elim same (ℤ_set _ _) (λ is. ap (λ (c : Arguments). (F c).memory root way) (sym is))

  memory_too : (F b).memory ≡ (F a).memory
  memory_too = λ i root way. cells_too root way i

-- ---- a start and the node that goes on with its `run`

no_point : (n : Node) (l : Label) (at : Place) (arguments : Arguments) → n ≡ EnterAt l at arguments → IsPoint n → ⊥
no_point n l at arguments is point = subst IsPoint is point

no_resume : (l l' : Label) (at at' : Place) (arguments arguments' : Arguments) → ResumeAt l at arguments ≡ EnterAt l' at' arguments' → ⊥
no_resume l l' at at' arguments arguments' is = cc

module _ (orderly : AcceptedIsOrderly) (callers : InstancesHaveCallers) (nests : ProgramsNest) (clearing : ClearingIsInside)
    (stand : ChangesSimulateInPass) (stay : AllStayWithin) (keys : NodesHaveKeys) (placed : StaysPlaced) (structs : List StructDef)
    (units : List UnitDef) (entry : ℕ) (end : BodiesEnd structs units entry) (machine : List InMachine) (activities : Activities)
    (gives : RunsEstablish structs units entry machine activities) (leaves : RunsLeave structs units entry machine activities) (i : ℕ)
    (unit : UnitDef) (scope : Scope) (frames : Frames) (store : Store) (copies : List Value) (r : Registers) (rule other : Transition) (u v : ℕ)
    (here : Memory) (points : PointsStand structs units entry activities)
    (midway : Midway structs units entry machine activities i unit scope frames store copies r here)
    (there : HasShownRule (setting_of structs units entry) activities i unit rule) (same : IsSameRun rule.node other.node)
    (called : CalledAt (plain_body unit.body) rule.node u) (again : CalledAt (plain_body unit.body) other.node v)
    (sees : CopiesMatch (setting_of structs units entry) i rule.node store copies)
  where
    abbrev w : Setting
    w = setting_of structs units entry

    abbrev k : ℕ
    k = unit_number w i

    abbrev body : Block
    body = plain_body unit.body

    abbrev view : ActivityView
    view = activity_view (activity_at w activities i)

    abbrev number : Node → ℕ
    number = rank_by w activities i

    abbrev after : Registers
    after = after_rule number rule true r

    abbrev own : Outcome Memory
    own = own_done w activities i u rule scope here

    -- what is done in the next block
    abbrev last : Outcome Memory
    last = block_done w activities i v other scope own.memory

    abbrev both : OneRun rule.node other.node
    both = one_run rule.node other.node same

    module _ (l : Label) (at : Place) (arguments : Arguments) (j : ℕ) (is : rule.node ≡ EnterAt l at arguments) (begins : callee_of w i at ≡ Some j) where
      abbrev start : Call
      start = record { label = l; place = at; unit = u; arguments = arguments }

      start_node : slice_get (nodes_in body) called.position ≡ Some (node_by false start)
      start_node = called.node ∙ ap Some is

      -- the start calls the instance
      calls : CallsUnit w activities i unit start j
      calls =
          node_calls orderly callers structs units entry machine activities midway.compiled i unit midway.is_there false start called.position j start_node
          called.unit begins

      place_is : both.place ≡ at
      place_is = sym (ap place_of_node (sym is ∙ both.begins) ∙ same_true both.at both.place both.same)

      abbrev next : Call
      next = record { label = both.second; place = at; unit = v; arguments = both.given }

      next_is : other.node ≡ node_by true next
      next_is = both.goes_on ∙ ap (λ (at : Place). ResumeAt both.second at both.given) place_is

      next_node : slice_get (nodes_in body) again.position ≡ Some (node_by true next)
      next_node = again.node ∙ ap Some next_is

      -- so does the other node
      calls_too : CallsUnit w activities i unit next j
      calls_too =
          node_calls orderly callers structs units entry machine activities midway.compiled i unit midway.is_there true next again.position j next_node
          again.unit begins

      unit_is : v ≡ u
      unit_is = sym calls_too.number ∙ calls.number

      word_is : word_at view at u ≡ run_by w activities i at
      word_is = sym (run_word w activities i j at begins ∙ ap (word_at view at) calls.number)

      given_is : ∥ arguments ≡ both.given ∥₁
      given_is =
          same_arguments structs units entry midway.compiled.well_typed unit (contains_at units k unit midway.function.is_there) start next
          (subst (In start) (calls_in_are false body) (call_there false (nodes_in body) (callees_in body) called.position start start_node
          called.unit))
          (subst (In next) (calls_in_are true body) (call_there true (nodes_in body) (callees_in body) again.position next next_node again.unit)) refl

      -- what the next block does with these arguments
      abbrev does : Arguments → Outcome Memory
      does given = block_c (resumed_code view (run_by w activities i at) u given other) scope own.memory

      last_is : last ≡ does both.given
      last_is =
          ap (λ code. block_c code scope own.memory)
          (ap (node_code view v other) next_is
          ∙ (ap (λ v. resumed_code view (word_at view at v) v both.given other) unit_is ∙ ap (λ n. resumed_code view n u both.given other) word_is))

      abbrev told : List CStmt
      told = target_code view (run_by w activities i at) arguments.target ++ changes_code view other.on_true

      abbrev asked : List CStmt
      asked = stmt_where (may_end_in (slice_get view.site.earlier u)) (c_if (c_read ended_place) told None)

      module _ (callee : UnitDef) (run : RunOf w activities i unit l at arguments j callee) where
        left_so : CallIsLeft structs units entry machine activities i unit scope store copies after here own
        left_so =
            let part = own_comes orderly callers nests clearing stand stay keys placed structs units entry end machine activities gives leaves i unit scope
            frames store copies r rule u here points midway there l at arguments j callee run calls.number sees is in
            record {
              ends = part.ends;
              frames = cleared w j frames;
              stands = mid_own orderly callers nests clearing stand stay keys placed structs units entry end machine activities gives leaves i unit scope
                  frames store copies r rule u here points midway there l at arguments j callee run calls.number sees is;
              kept = part.kept;
            }

        trapped : (does arguments).end ≡ traps → last.end ≡ traps
        trapped is = ap (λ (o : Outcome Memory). o.end) last_is ∙ traps_too does arguments both.given given_is is

        comes : (frames' : Frames) (left : Store) → PartSimulates w activities i unit scope frames' left copies after own.memory (does arguments) →
            PartSimulates w activities i unit scope frames' left copies after own.memory last
        comes frames' left part =
            let memory = ap (λ (o : Outcome Memory). o.memory) last_is ∙ memory_too does arguments both.given given_is in
            let ends = goes_too does arguments both.given given_is part.ends in
            comes_as w activities i unit scope frames' left copies after own.memory last (does arguments)
            (ap (λ (o : Outcome Memory). o.end) last_is ∙ (ends ∙ sym part.ends)) memory part

    pub start_comes : {n : Node} {answer : Bool} {frames' : Frames} {left : Store} →
        Performs w (rank_by w activities) (slots_by w activities) (cleared w) i n frames store answer frames' left → rule.node ≡ n →
        CallIsLeft structs units entry machine activities i unit scope store copies (after_rule number rule answer r) here own
        × PartSimulates w activities i unit scope frames' left (recopied w i n left copies) (after_rule number rule answer r) own.memory last
    start_comes {n} (executes.does point did) is = absurd (no_point n both.first both.at both.arguments (sym is ∙ both.begins) point)
    start_comes
        (executes.enters {l = l} {at = at} {arguments = arguments} {given = given} {frames' = frames'} {left = left} {r' = r'} {callee = j} {unit = callee}
        begins of copied executed over) is =
        let calling = calls l at arguments j is begins in
        let callee_is : calling.other ≡ callee = same_Some calling.other callee (sym calling.run.is_there ∙ of) in
        let run = subst (λ callee. RunOf w activities i unit l at arguments j callee) callee_is calling.run in (
          left_so l at arguments j is begins callee run,
          comes l at arguments j is begins callee run _ left
              (first_unasked orderly callers nests clearing stand stay keys placed structs units entry end machine activities gives leaves i unit scope frames
              store copies r rule u here points midway there l at arguments j callee run calling.number sees is given copied frames' left r' executed over
              (told l at arguments j is begins)),
        )
    start_comes (executes.resumes {l = l} {at = at} {arguments = arguments} begins runs copied executed over) is =
        absurd (no_resume l both.first at both.at arguments both.arguments (sym is ∙ both.begins))
    start_comes (executes.returns {l = l} {at = at} {arguments = arguments} begins runs copied executed over did) is =
        absurd (no_resume l both.first at both.at arguments both.arguments (sym is ∙ both.begins))

    pub start_stops : {n : Node} → NodeTraps w (rank_by w activities) (slots_by w activities) (cleared w) i n frames store → rule.node ≡ n →
        CallIsLeft structs units entry machine activities i unit scope store copies after here own × (last.end ≡ traps)
    start_stops {n} (executes.point_stops point did) is = absurd (no_point n both.first both.at both.arguments (sym is ∙ both.begins) point)
    start_stops (executes.inputs_stop {l = l} {at = at} {arguments = arguments} {callee = j} begins did) is =
        let calling = calls l at arguments j is begins in (
          left_so l at arguments j is begins calling.other calling.run,
          trapped l at arguments j is begins calling.other calling.run
              (first_inputs orderly callers nests clearing stand stay keys placed structs units entry end machine activities gives leaves i unit scope frames
              store copies r rule u here points midway there l at arguments j calling.other calling.run calling.number sees is
              (asked l at arguments j is begins) did),
        )
    start_stops (executes.begun_stops {l = l} {at = at} {arguments = arguments} {given = given} {callee = j} {unit = callee} begins of copied cut) is =
        let calling = calls l at arguments j is begins in
        let callee_is : calling.other ≡ callee = same_Some calling.other callee (sym calling.run.is_there ∙ of) in
        let run = subst (λ callee. RunOf w activities i unit l at arguments j callee) callee_is calling.run in (
          left_so l at arguments j is begins callee run,
          trapped l at arguments j is begins callee run
              (first_stops orderly callers nests clearing stand stay keys placed structs units entry end machine activities gives leaves i unit scope frames
              store copies r rule u here points midway there l at arguments j callee run calling.number sees is given copied
              (asked l at arguments j is begins) cut),
        )
    start_stops (executes.copies_stop {l = l} {at = at} {arguments = arguments} begins did) is =
        absurd (no_resume l both.first at both.at arguments both.arguments (sym is ∙ both.begins))
    start_stops (executes.resumed_stops {l = l} {at = at} {arguments = arguments} begins runs copied cut) is =
        absurd (no_resume l both.first at both.at arguments both.arguments (sym is ∙ both.begins))

pub runs_simulate : AcceptedIsOrderly → InstancesHaveCallers → ProgramsNest → FramesApart → RegistersKeepApart → ClearingIsInside →
    ChangesSimulateInPass → PassesKeepTypes → AllStayWithin → NodesHaveKeys → StaysPlaced → (structs : List StructDef) (units : List UnitDef) (entry : ℕ) →
    PlacesSimulate structs units entry → WritesEncode structs units entry → BodiesEnd structs units entry → RunsSimulate structs units entry
runs_simulate orderly callers nests frames_apart keep clearing stand fitting stay keys placed structs units entry lead write end machine activities
    gives leaves seen points = (
      blocks_simulate orderly callers nests frames_apart keep clearing stand fitting stay keys placed structs units entry lead write end machine activities
          gives leaves seen points,
      record {
        acts = λ i unit scope frames store copies r rule other u v answer frames' left here midway there next same called again sees performs.
            start_comes orderly callers nests clearing stand stay keys placed structs units entry end machine activities gives leaves i unit scope frames
            store copies r rule other u v here (points midway.compiled) midway there same called again sees performs refl;
        stops = λ i unit scope frames store copies r rule other u v here midway there next same called again sees stops.
            start_stops orderly callers nests clearing stand stay keys placed structs units entry end machine activities gives leaves i unit scope frames
            store copies r rule other u v here (points midway.compiled) midway there same called again sees stops refl;
      },
    )
