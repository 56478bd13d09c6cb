-- The code of the call that a `run` makes, and what stands behind it: the end of the last call is forgotten, and the call does what a pass does.
use Rattle.std.proofs.Common.{◌≡◌, ℕ, Bool, true, false, List, [], ◌∷◌, ◌++◌, None, Some, refl, sym, ap, subst, ◌∙◌, append_assoc}
use Rattle.std.specs.Prelude.{slice_get}
use Rattle.bl_tree.proofs.Basics.{get_taken}
use Rattle.bl_tree.specs.declared.c.CStmt.{CStmt}
use Rattle.bl_tree.specs.declared.place.Place.{Place}
use Rattle.bl_tree.specs.declared.tree.StructDef.{StructDef}
use Rattle.bl_tree.specs.declared.tree.Unit.{Unit as UnitDef}
use Rattle.bl_tree.specs.declared.value.Value.{Value}
use Rattle.bl_tree.specs.Numbers.{number_of}
use Rattle.bl_graph_nodes.specs.Nodes.{Arguments, EnterAt}
use Rattle.bl_graph_nodes.specs.Plain.{Label}
use Rattle.bl_ctext_semantics.specs.Course.{goes_on, traps}
use Rattle.bl_ctext_semantics.specs.Meaning.{Scope, block_c}
use Rattle.bl_ctext_semantics.specs.Memory.{Memory}
use Rattle.bl_ctree.specs.Actions.{Copies}
use Rattle.bl_ctree.specs.Instances.{Setting, setting_of}
use Rattle.bl_ctree.specs.Store.{Store, view_at}
use Rattle.bl_ctree_laws.specs.Ends.{done_by}
use Rattle.bl_ctree_laws.specs.Pending.{deed}
use Rattle.bl_ctree_laws_typing.specs.Fits.{StoreFits}
use Rattle.bl_ctree_laws_confluence.specs.Deeds.Nesting.{ProgramsNest}
use Rattle.bl_ctree_laws_confluence.specs.Deeds.Orderly.{AcceptedIsOrderly}
use Rattle.bl_ctree_laws_confluence.specs.Deeds.Origins.{InstancesHaveCallers}
use Rattle.bl_emit_acts.specs.Acts.{c_calling, c_set}
use Rattle.bl_emit_acts.specs.Trees.{c_read}
use Rattle.bl_emit_functions.specs.Trees.{c_if, c_truth}
use Rattle.bl_emit_spec.specs.Activities.{activity_view, remembers_any}
use Rattle.bl_emit_spec.specs.Blocks.{ActivityView, may_end_in, run_code, stmt_where, unit_may_end}
use Rattle.bl_emit_spec.specs.Names.{NumberedWord, ended_place}
use Rattle.bl_machine.specs.declared.machine.Activity.{Activity as InMachine}
use Rattle.bl_machine_laws.specs.Passes.Follows.{DeedYields}
use Rattle.bl_machine_pass.specs.Registers.{Registers, with_at}
use Rattle.bl_machine_pass_laws_execution.specs.Executes.{CopiesMatch, Executes, PassTraps}
use Rattle.bl_machine_pass_laws.specs.Turns.Laws.{StaysPlaced}
use Rattle.bl_machine_pass_laws_execution.specs.Frames.{Frames}
use Rattle.bl_machine_pass_laws.specs.Keys.{NodesHaveKeys}
use Rattle.bl_emit_spec_laws.specs.Calls.Built.{Activities, activity_at, cleared, rank_by, run_by, site_at, slots_by, unit_number}
use Rattle.bl_emit_spec_laws.specs.Calls.Calls.{PassStarts}
use Rattle.bl_emit_spec_laws.specs.Calls.Laws.{Midway, PartSimulates, PassKeepsFrame}
use Rattle.bl_emit_spec_laws.specs.Calls.Invariant.{PassRepresents}
use Rattle.bl_emit_spec_laws.specs.Cleared.{ClearingIsInside}
use Rattle.bl_emit_spec_laws_nodes.specs.Calling.{NotEnded, RunLeaves, RunOf, RunsEstablish, RunsLeave}
use Rattle.bl_emit_spec_laws_nodes.specs.Points.Laws.{Remembering}
use Rattle.bl_emit_spec_laws_nodes.proofs.OnPoints.Choices.{if_alone}
use Rattle.bl_emit_spec_laws_simulation.proofs.OnRuns.Calls.{after_call, call_comes, call_left, given_fits, inputs_trap, pass_traps, written}
use Rattle.bl_emit_spec_laws_simulation.proofs.OnRuns.Clearing.{ended_keeps, ended_midway, not_ended}
use Rattle.bl_emit_spec_laws_simulation.proofs.OnRuns.Statements.{ended_truth, forget_goes, forgotten_by, step_goes, step_traps}
use Rattle.bl_emit_spec_laws.proofs.OnActivities.Nested.{unit_there}
use Rattle.bl_emit_spec_laws.proofs.OnRegisters.Statements.{Chosen}
use Rattle.bl_emit_spec_laws.proofs.OnPasses.Blocks.{Alike}

module _ (orderly : AcceptedIsOrderly) (callers : InstancesHaveCallers) (nests : ProgramsNest) (clearing : ClearingIsInside) (keys : NodesHaveKeys)
    (placed : StaysPlaced) (structs : List StructDef) (units : List UnitDef) (entry : ℕ) (machine : List InMachine) (activities : Activities)
    (gives : RunsEstablish structs units entry machine activities) (leaves : RunsLeave structs units entry machine activities)
    (remembering : Remembering (setting_of structs units entry) activities) (i : ℕ) (unit : UnitDef) (scope : Scope) (frames : Frames) (store : Store)
    (copies : List Value) (r : Registers) (here : Memory) (midway : Midway structs units entry machine activities i unit scope frames store copies r here)
    (l : Label) (at : Place) (arguments : Arguments) (j : ℕ) (other : UnitDef)
    (run : RunOf (setting_of structs units entry) activities i unit l at arguments j other) (u : ℕ)
    (is_number : unit_number (setting_of structs units entry) j ≡ u)
    (sees : CopiesMatch (setting_of structs units entry) i (EnterAt l at arguments) store copies)
  where
    abbrev w : Setting
    w = setting_of structs units entry

    abbrev view : ActivityView
    view = activity_view (activity_at w activities i)

    abbrev n : NumberedWord
    n = run_by w activities i at

    abbrev Keeping : Memory → Memory → Type 0
    Keeping = PassKeepsFrame (site_at w activities i) unit (remembers_any (activity_at w activities i)) scope

    abbrev forget : CStmt
    forget = c_set ended_place (c_truth false)

    -- whether what is called may end
    abbrev pub may : Bool
    may = may_end_in (slice_get view.site.earlier u)

    pub may_is : may ≡ unit_may_end other
    may_is =
        let own = unit_number w i in
        let called = unit_number w j in
        let there : slice_get view.site.earlier called ≡ Some other =
        ap (λ earlier. slice_get earlier called) (midway.compiled.built.earlier own unit midway.function.is_there)
        ∙ (get_taken units own called run.earlier ∙ unit_there w j other run.is_there) in
        ap may_end_in (subst (λ u. slice_get view.site.earlier u ≡ Some other) is_number there)

    abbrev pub forgotten : Memory
    forgotten = forgotten_by may scope here

    pub mid_forgotten : Midway structs units entry machine activities i unit scope frames store copies r forgotten
    mid_forgotten =
        ended_midway orderly callers clearing keys placed structs units entry (nests structs units entry) machine activities remembering i unit scope
        frames store copies r here midway may

    kept_forgotten : Keeping here forgotten
    kept_forgotten =
        ended_keeps orderly callers clearing keys placed structs units entry (nests structs units entry) machine activities remembering i unit scope
        frames store copies r here midway may

    pub none_ended : NotEnded other scope forgotten
    none_ended =
        not_ended orderly callers clearing keys placed structs units entry (nests structs units entry) machine activities remembering i unit scope
        frames store copies r here midway other may may_is

    abbrev calls : CStmt
    calls = c_calling (written structs units entry machine activities gives leaves i unit scope frames store copies r forgotten mid_forgotten l at
        arguments j other run u is_number sees)

    -- the code, with this behind it
    abbrev pub code_before : List CStmt → List CStmt
    code_before rest = run_code view n u arguments ++ rest

    before_call : (rest : List CStmt) → Alike (block_c (code_before rest) scope here) (block_c (calls ∷ rest) scope forgotten)
    before_call rest =
        subst (λ code. Alike (block_c code scope here) (block_c (calls ∷ rest) scope forgotten))
        (sym (append_assoc (stmt_where may forget) (calls ∷ []) rest)) (forget_goes scope here may (calls ∷ rest))

    pub inputs_stop : (rest : List CStmt) → done_by w (deed i at (Copies j arguments.inputs)) store ≡ None →
        (block_c (code_before rest) scope here).end ≡ traps
    inputs_stop rest did =
        (before_call rest).0
        ∙ step_traps scope calls rest forgotten
        (inputs_trap structs units entry machine activities gives leaves i unit scope frames store copies r forgotten mid_forgotten l at arguments j other
        run u is_number sees did)

    module _ (given : Store) (copied : DeedYields w (deed i at (Copies j arguments.inputs)) store true given) (begun : Registers)
        (starts : PassStarts w activities j other frames begun)
      where
        pub pass_stops : (rest : List CStmt) →
            PassTraps w (rank_by w activities) (slots_by w activities) (cleared w) j 0 frames given (view_at w given j).now begun →
            (block_c (code_before rest) scope here).end ≡ traps
        pass_stops rest cut =
            (before_call rest).0
            ∙ step_traps scope calls rest forgotten
            (pass_traps structs units entry machine activities gives leaves i unit scope frames store copies r forgotten mid_forgotten l at arguments j
            other run u is_number sees given none_ended copied begun starts cut)

        pub inputs_fit : StoreFits w given
        inputs_fit =
            given_fits structs units entry machine activities gives leaves i unit scope frames store copies r forgotten mid_forgotten l at arguments j
            other run u is_number sees given none_ended copied begun starts

        module _ (frames' : Frames) (left : Store) (r' : Registers)
            (executed : Executes w (rank_by w activities) (slots_by w activities) (cleared w) j 0 frames given (view_at w given j).now begun frames' left r')
          where
            abbrev pub after : Memory
            after = after_call structs units entry machine activities gives leaves i unit scope frames store copies r forgotten mid_forgotten l at arguments
                j other run u is_number sees given none_ended copied begun starts frames' left r' executed

            pub ended : RunLeaves w activities i unit scope n j other (with_at j r'.counters frames') left copies r r'.over forgotten after
            ended =
                call_left structs units entry machine activities gives leaves i unit scope frames store copies r forgotten mid_forgotten l at arguments j
                other run u is_number sees given none_ended copied begun starts frames' left r' executed

            pub kept_after : Keeping here after
            kept_after root way older outside = ended.kept root way older outside ∙ kept_forgotten root way older outside

            -- what stands behind the call comes next
            pub call_goes_on : (rest : List CStmt) → Alike (block_c (code_before rest) scope here) (block_c rest scope after)
            call_goes_on rest =
                let before = before_call rest in
                let called = step_goes scope calls rest forgotten after
                (call_comes structs units entry machine activities gives leaves i unit scope frames store copies r forgotten mid_forgotten l at arguments j
                other run u is_number sees given none_ended copied begun starts frames' left r' executed) in
                (before.0 ∙ called.0, before.1 ∙ called.1)

            -- where that does nothing, the call is all
            pub call_part : (rest : List CStmt) → (block_c rest scope after).end ≡ goes_on → (block_c rest scope after).memory ≡ after →
                PartSimulates w activities i unit scope (with_at j r'.counters frames') left copies r here (block_c (code_before rest) scope here)
            call_part rest goes stays =
                let so = call_goes_on rest in
                let memory : (block_c (code_before rest) scope here).memory ≡ after = so.1 ∙ stays in
                record {
                  ends = so.0 ∙ goes;
                  stands = subst (PassRepresents w activities i unit scope (with_at j r'.counters frames') left copies r) (sym memory) ended.stands;
                  kept = subst (Keeping here) (sym memory) kept_after;
                }

            -- what is done where it has ended isn't done where it hasn't
            pub unasked : r'.over ≡ false → (told : List CStmt) → let asked = stmt_where may (c_if (c_read ended_place) told None) in
                ((block_c asked scope after).end ≡ goes_on) × ((block_c asked scope after).memory ≡ after)
            unasked over told = by may may_is
              where
                by : (b : Bool) → b ≡ unit_may_end other → let asked = stmt_where b (c_if (c_read ended_place) told None) in
                    ((block_c asked scope after).end ≡ goes_on) × ((block_c asked scope after).memory ≡ after)
                by true same =
                    let truth = ended_truth scope after false (ended.over (sym same) ∙ ap number_of over) in
                    if_alone scope after (λ e m. (e ≡ goes_on) × (m ≡ after)) (c_read ended_place) told None
                    (subst (Chosen scope after (λ e m. (e ≡ goes_on) × (m ≡ after)) told None) (sym truth) (refl, refl))
                by false same = (refl, refl)
