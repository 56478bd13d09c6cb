-- What the node does at which a `run` begins: the callee's counters are cleared, and the changes are made. Then the callee has its first pass, where the call
-- stands, behind that or in the next block.
use Rattle.std.proofs.Common.{◌≡◌, inl, ℕ, true, false, List, [], ◌∷◌, ◌++◌, None, refl, sym, ap, ◌∙◌, subst}
use Rattle.std.specs.Prelude.{slice_get}
use Rattle.bl_tree.specs.declared.c.CStmt.{CStmt}
use Rattle.bl_tree.specs.declared.place.Place.{Place}
use Rattle.bl_tree.specs.declared.tree.StructDef.{StructDef}
use Rattle.bl_tree.specs.declared.tree.Unit.{Unit as UnitDef}
use Rattle.bl_tree.specs.declared.value.Value.{Value}
use Rattle.bl_graph_nodes.specs.Nodes.{Arguments, EnterAt}
use Rattle.bl_graph_nodes.specs.Plain.{Label}
use Rattle.bl_ctext_semantics.specs.Course.{Outcome, traps}
use Rattle.bl_ctext_semantics.specs.Meaning.{Scope, block_c}
use Rattle.bl_ctext_semantics.specs.Memory.{Memory, set_at, zeros}
use Rattle.bl_ctree.specs.Actions.{Copies}
use Rattle.bl_ctree.specs.Instances.{Setting, setting_of}
use Rattle.bl_ctree.specs.Store.{Store, view_at}
use Rattle.bl_ctree_laws.specs.Ends.{done_by}
use Rattle.bl_ctree_laws.specs.Pending.{deed}
use Rattle.bl_ctree_laws_confluence.specs.Deeds.Nesting as nesting
use Rattle.bl_ctree_laws_confluence.specs.Deeds.Nesting.{ProgramsNest}
use Rattle.bl_ctree_laws_confluence.specs.Deeds.Orderly.{AcceptedIsOrderly}
use Rattle.bl_ctree_laws_confluence.specs.Deeds.Origins.{InstancesHaveCallers}
use Rattle.bl_emit_acts.specs.Acts.{c_clear}
use Rattle.bl_emit_acts.specs.Trees.{c_read}
use Rattle.bl_emit_functions.specs.Trees.{c_if}
use Rattle.bl_emit_spec.specs.Activities.{activity_view}
use Rattle.bl_emit_spec.specs.Blocks.{ActivityView, begun_code, changes_code, may_end_in, name_in, own_code, run_code, stmt_where, word_at}
use Rattle.bl_emit_spec.specs.Names.{NumberedWord, callee_frame, ended_place, frame_name}
use Rattle.bl_emit_spec_laws.specs.Registers.Registers.{frame_at}
use Rattle.bl_machine.specs.declared.machine.Activity.{Activity as InMachine}
use Rattle.bl_machine_laws.specs.Passes.Follows.{DeedYields}
use Rattle.bl_machine_pass.specs.Registers.{Registers, after_rule, with_at}
use Rattle.bl_machine_pass.specs.Transitions.{Transition}
use Rattle.bl_machine_pass_laws_execution.specs.Executes.{CopiesMatch, Executes, PassTraps, begun_registers}
use Rattle.bl_machine_pass_laws.specs.Turns.Laws.{StaysPlaced}
use Rattle.bl_machine_pass_laws_execution.specs.Frames.{Frames}
use Rattle.bl_machine_pass_laws.specs.Keys.{NodesHaveKeys}
use Rattle.bl_emit_spec_laws.specs.Calls.Built.{Activities, activity_at, cleared, rank_by, run_by, slots_by, unit_number}
use Rattle.bl_emit_spec_laws.specs.Calls.Calls.{PassStarts}
use Rattle.bl_emit_spec_laws.specs.Calls.Laws.{HasShownRule, Midway, PartSimulates, own_done}
use Rattle.bl_emit_spec_laws.specs.Calls.Memories.{inner}
use Rattle.bl_emit_spec_laws.specs.Cleared.{ClearingIsInside}
use Rattle.bl_emit_spec_laws.specs.Within.{AllStayWithin}
use Rattle.bl_emit_spec_laws_nodes.specs.Calling.{RunOf, RunsEstablish, RunsLeave}
use Rattle.bl_emit_spec_laws_nodes.specs.Points.Laws.{ChangesSimulateInPass, is_return_node}
use Rattle.bl_emit_spec_laws_nodes.specs.Points.Points.{BodiesEnd, PointsStand}
use Rattle.bl_emit_spec_laws_nodes.proofs.OnPoints.Silent.{comes_as}
use Rattle.bl_emit_spec_laws.proofs.OnRunPlaces.Words.{run_word}
use Rattle.bl_emit_spec_laws.proofs.OnPasses.Blocks.{Alike}
use Rattle.bl_emit_spec_laws_simulation.proofs.OnRuns.Called.{call_part, inputs_stop, pass_stops, unasked}
use Rattle.bl_emit_spec_laws_simulation.proofs.OnRuns.Changing.{changes_behind, changes_within}
use Rattle.bl_emit_spec_laws_simulation.proofs.OnRuns.Clearing.{cleared_keeps, cleared_midway}
use Rattle.bl_emit_spec_laws_simulation.proofs.OnRuns.Inner.{cleared_own}
use Rattle.bl_emit_spec_laws_simulation.proofs.OnRuns.Statements.{clear_ends, frame_answer, step_goes}

module _ (orderly : AcceptedIsOrderly) (callers : InstancesHaveCallers) (nests : ProgramsNest) (clearing : ClearingIsInside)
    (stand : ChangesSimulateInPass) (stay : AllStayWithin) (keys : NodesHaveKeys) (placed : StaysPlaced) (structs : List StructDef)
    (units : List UnitDef) (entry : ℕ) (end : BodiesEnd structs units entry) (machine : List InMachine) (activities : Activities)
    (gives : RunsEstablish structs units entry machine activities) (leaves : RunsLeave structs units entry machine activities) (i : ℕ)
    (unit : UnitDef) (scope : Scope) (frames : Frames) (store : Store) (copies : List Value) (r : Registers) (rule : Transition) (u : ℕ) (here : Memory)
    (points : PointsStand structs units entry activities)
    (midway : Midway structs units entry machine activities i unit scope frames store copies r here)
    (there : HasShownRule (setting_of structs units entry) activities i unit rule) (l : Label) (at : Place) (arguments : Arguments) (j : ℕ)
    (other : UnitDef) (run : RunOf (setting_of structs units entry) activities i unit l at arguments j other)
    (is_number : unit_number (setting_of structs units entry) j ≡ u)
    (sees : CopiesMatch (setting_of structs units entry) i rule.node store copies) (is : rule.node ≡ EnterAt l at arguments)
  where
    abbrev w : Setting
    w = setting_of structs units entry

    abbrev view : ActivityView
    view = activity_view (activity_at w activities i)

    abbrev n : NumberedWord
    n = run_by w activities i at

    abbrev pub begun_frames : Frames
    begun_frames = cleared w j frames

    abbrev pub after : Registers
    after = after_rule (rank_by w activities i) rule true r

    abbrev clear : CStmt
    clear = c_clear (callee_frame n) (frame_name (name_in (slice_get view.site.earlier u)))

    abbrev cleared_here : Memory
    cleared_here = set_at here (inner (frame_at scope) n) zeros

    abbrev pub own : Outcome Memory
    own = own_done w activities i u rule scope here

    word : word_at view at u ≡ n
    word = sym (run_word w activities i j at run.callee ∙ ap (word_at view at) is_number)

    own_is : own_code view u rule rule.node ≡ clear ∷ changes_code view rule.on_true
    own_is = ap (own_code view u rule) is ∙ ap (λ k. begun_code view k u rule) word

    own_goes : Alike own (block_c (changes_code view rule.on_true) scope cleared_here)
    own_goes =
        let so = step_goes scope clear (changes_code view rule.on_true) here cleared_here
        (clear_ends scope here (callee_frame n) (frame_name (name_in (slice_get view.site.earlier u))) (inner (frame_at scope) n)
        (frame_answer scope here n)) in
        (ap (λ (code : List CStmt). (block_c code scope here).end) own_is ∙ so.0, ap (λ (code : List CStmt). (block_c code scope here).memory) own_is ∙ so.1)

    mid_cleared : Midway structs units entry machine activities i unit scope begun_frames store copies r cleared_here
    mid_cleared =
        cleared_midway orderly callers clearing keys placed structs units entry (nests structs units entry) machine activities points.remembering i unit
        scope frames store copies r here midway l at arguments j run.node run.callee

    -- it goes on
    pub own_comes : PartSimulates w activities i unit scope begun_frames store copies after here own
    own_comes =
        comes_as w activities i unit scope begun_frames store copies after here own (block_c (changes_code view rule.on_true) scope cleared_here) own_goes.0
        own_goes.1
        (changes_behind stand stay structs units entry end machine activities i unit scope frames store copies r rule here points midway there begun_frames
        store cleared_here (ap is_return_node is)
        (cleared_keeps orderly callers clearing keys placed structs units entry (nests structs units entry) machine activities points.remembering i unit
        scope frames store copies r here midway l at arguments j run.node run.callee)
        mid_cleared.stands)

    -- memory stands for the pass with the changes, over cleared frames
    pub mid_own : Midway structs units entry machine activities i unit scope begun_frames store copies after own.memory
    mid_own = record {
      compiled = midway.compiled;
      is_there = midway.is_there;
      function = midway.function;
      stands = own_comes.stands;
      fits = midway.fits;
      copies_fit = midway.copies_fit;
      frames_within = mid_cleared.frames_within;
      within = changes_within stand stay structs units entry end machine activities i unit scope frames store copies r rule here points midway there;
    }

    -- ---- the call behind it, with this behind that

    sees_own : CopiesMatch w i (EnterAt l at arguments) store copies
    sees_own = subst (λ n. CopiesMatch w i n store copies) is sees

    starts : PassStarts w activities j other begun_frames (begun_registers (rank_by w activities) j other)
    starts = inl (refl, λ c. cleared_own callers clearing structs units entry j frames j nesting.itself c)

    pub first_inputs : (rest : List CStmt) → done_by w (deed i at (Copies j arguments.inputs)) store ≡ None →
        (block_c (run_code view n u arguments ++ rest) scope own.memory).end ≡ traps
    first_inputs rest did =
        inputs_stop orderly callers nests clearing keys placed structs units entry machine activities gives leaves points.remembering i unit scope
        begun_frames store copies after own.memory mid_own l at arguments j other run u is_number sees_own rest did

    module _ (given : Store) (copied : DeedYields w (deed i at (Copies j arguments.inputs)) store true given) where
      pub first_stops : (rest : List CStmt) →
          PassTraps w (rank_by w activities) (slots_by w activities) (cleared w) j 0 begun_frames given (view_at w given j).now
          (begun_registers (rank_by w activities) j other) →
          (block_c (run_code view n u arguments ++ rest) scope own.memory).end ≡ traps
      first_stops rest cut =
          pass_stops orderly callers nests clearing keys placed structs units entry machine activities gives leaves points.remembering i unit scope
          begun_frames store copies after own.memory mid_own l at arguments j other run u is_number sees_own given copied
          (begun_registers (rank_by w activities) j other) starts rest cut

      module _ (frames' : Frames) (left : Store) (r' : Registers)
          (executed : Executes w (rank_by w activities) (slots_by w activities) (cleared w) j 0 begun_frames given (view_at w given j).now
          (begun_registers (rank_by w activities) j other) frames' left r')
        where
          abbrev Comes : List CStmt → Type 0
          Comes rest = PartSimulates w activities i unit scope (with_at j r'.counters frames') left copies after own.memory
              (block_c (run_code view n u arguments ++ rest) scope own.memory)

          pub first_comes : Comes []
          first_comes =
              call_part orderly callers nests clearing keys placed structs units entry machine activities gives leaves points.remembering i unit scope
              begun_frames store copies after own.memory mid_own l at arguments j other run u is_number sees_own given copied
              (begun_registers (rank_by w activities) j other) starts frames' left r' executed [] refl refl

          -- it hasn't ended, so nothing is done that is done where it has
          pub first_unasked : r'.over ≡ false → (told : List CStmt) →
              Comes (stmt_where (may_end_in (slice_get view.site.earlier u)) (c_if (c_read ended_place) told None))
          first_unasked over told =
              let so = unasked orderly callers nests clearing keys placed structs units entry machine activities gives leaves points.remembering i unit scope
              begun_frames store copies after own.memory mid_own l at arguments j other run u is_number sees_own given copied
              (begun_registers (rank_by w activities) j other) starts frames' left r' executed over told in
              call_part orderly callers nests clearing keys placed structs units entry machine activities gives leaves points.remembering i unit scope
              begun_frames store copies after own.memory mid_own l at arguments j other run u is_number sees_own given copied
              (begun_registers (rank_by w activities) j other) starts frames' left r' executed
              (stmt_where (may_end_in (slice_get view.site.earlier u)) (c_if (c_read ended_place) told None)) so.0 so.1
