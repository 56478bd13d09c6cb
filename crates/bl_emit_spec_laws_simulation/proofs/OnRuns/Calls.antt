-- The call that a `run` makes does what a pass of the called instance does.
use Rattle.std.proofs.Common.{◌≡◌, ℕ, true, List, Some, None, refl, ap, ◌∙◌, subst}
use Rattle.std.specs.Prelude.{pos, slice_get}
use Rattle.bl_tree.specs.declared.c.CCall.{CCall}
use Rattle.bl_tree.specs.declared.place.Place.{Place}
use Rattle.bl_tree.specs.declared.tree.StructDef.{StructDef}
use Rattle.bl_tree.specs.declared.tree.Unit.{Unit as UnitDef}
use Rattle.bl_tree.specs.declared.value.Value.{Value}
use Rattle.bl_graph_nodes.specs.Nodes.{Arguments, EnterAt}
use Rattle.bl_graph_nodes.specs.Plain.{Label}
use Rattle.bl_ctext_semantics.specs.Course.{traps}
use Rattle.bl_ctext_semantics.specs.Meaning.{CallResult, Scope, call_c, later_call, runs_c}
use Rattle.bl_ctext_semantics.specs.Memory.{Memory}
use Rattle.bl_ctree.specs.Actions.{Copies}
use Rattle.bl_ctree.specs.Instances.{Setting, setting_of}
use Rattle.bl_ctree.specs.Store.{Store, view_at}
use Rattle.bl_ctree_laws.specs.Ends.{done_by}
use Rattle.bl_ctree_laws.specs.Pending.{deed}
use Rattle.bl_ctree_laws_typing.specs.Fits.{StoreFits}
use Rattle.bl_emit_acts.specs.Acts.{c_calling, name_of_callee}
use Rattle.bl_emit_acts.specs.Trees.{c_call}
use Rattle.bl_emit_spec.specs.Activities.{activity_view}
use Rattle.bl_emit_spec.specs.Blocks.{run_args}
use Rattle.bl_machine.specs.declared.machine.Activity.{Activity as InMachine}
use Rattle.bl_machine_laws.specs.Passes.Follows.{DeedYields}
use Rattle.bl_machine_pass.specs.Registers.{Registers, with_at}
use Rattle.bl_machine_pass_laws_execution.specs.Executes.{CopiesMatch, Executes, PassTraps}
use Rattle.bl_machine_pass_laws_execution.specs.Frames.{Frames}
use Rattle.bl_emit_spec_laws.specs.Calls.Built.{Activities, activity_at, cleared, rank_by, run_by, slots_by, unit_number}
use Rattle.bl_emit_spec_laws.specs.Calls.Calls.{ActivitySimulates, CallLeaves, PassStarts}
use Rattle.bl_emit_spec_laws.specs.Calls.Laws.{Midway}
use Rattle.bl_emit_spec_laws_nodes.specs.Calling.{NotEnded, RunEstablishes, RunLeaves, RunOf, RunsEstablish, RunsLeave, call_given, call_written, given_by}
use Rattle.bl_emit_spec_laws_simulation.proofs.OnRuns.Statements.{call_goes, call_traps}
use Rattle.bl_emit_spec.specs.Names.{NumberedWord}
use Rattle.bl_emit_spec_laws.proofs.OnActivities.Nested.{unit_there}
use Rattle.bl_emit_acts_laws_simulation.proofs.Statements.{Ends}

module _ (structs : List StructDef) (units : List UnitDef) (entry : ℕ) (machine : List InMachine) (activities : Activities)
    (gives : RunsEstablish structs units entry machine activities) (leaves : RunsLeave structs units entry machine activities) (i : ℕ) (unit : UnitDef)
    (scope : Scope) (frames : Frames) (store : Store) (copies : List Value) (r : Registers) (here : Memory)
    (midway : Midway structs units entry machine activities i unit scope frames store copies r here) (l : Label) (at : Place)
    (arguments : Arguments) (j : ℕ) (other : UnitDef) (run : RunOf (setting_of structs units entry) activities i unit l at arguments j other)
    (u : ℕ) (number : unit_number (setting_of structs units entry) j ≡ u)
    (sees : CopiesMatch (setting_of structs units entry) i (EnterAt l at arguments) store copies)
  where
    abbrev w : Setting
    w = setting_of structs units entry

    abbrev n : NumberedWord
    n = run_by w activities i at

    -- the call as it is written
    abbrev pub written : CCall
    written =
        let view = activity_view (activity_at w activities i) in c_call (name_of_callee (slice_get view.site.earlier u)) (run_args view n u arguments)

    comes : ActivitySimulates w activities (unit_number w j) scope.known scope.depth
    comes = midway.function.others (unit_number w j) other run.earlier (unit_there w j other run.is_there) run.active

    -- where the inputs trap it does
    pub inputs_trap : done_by w (deed i at (Copies j arguments.inputs)) store ≡ None → (runs_c (c_calling written) scope here).end ≡ traps
    inputs_trap did =
        call_traps scope here written
        (subst (λ u. (call_written w activities i n u arguments scope here).result ≡ None) number
        (gives.stops i unit scope frames store copies r here l at arguments j other midway run sees did))

    module _ (given : Store) (not_ended : NotEnded other scope here) (copied : DeedYields w (deed i at (Copies j arguments.inputs)) store true given)
        (begun : Registers) (starts : PassStarts w activities j other frames begun)
      where
        pub gave : RunEstablishes w activities i scope n arguments j other frames given here
        gave = gives.gives i unit scope frames store copies r here l at arguments j other given midway run not_ended sees copied

        abbrev does : CallResult
        does = call_given w activities j other scope n gave.inputs gave.outputs here

        called_is : call_c written scope here ≡ later_call gave.count does
        called_is = subst (λ u. call_written w activities i n u arguments scope here ≡ later_call gave.count does) number gave.called

        -- the store is typed
        pub given_fits : StoreFits w given
        given_fits = gave.begins.fits

        -- where a deed of the pass traps the call does
        pub pass_traps : PassTraps w (rank_by w activities) (slots_by w activities) (cleared w) j 0 frames given (view_at w given j).now begun →
            (runs_c (c_calling written) scope here).end ≡ traps
        pass_traps cut =
            call_traps scope here written
            (ap (λ (c : CallResult). c.result) called_is
            ∙ comes.cut j other (given_by scope n gave.inputs gave.outputs) frames given begun here refl run.is_there gave.may gave.begins starts cut)

        -- where none does it goes on, and leaves what the pass leaves
        module _ (frames' : Frames) (left : Store) (r' : Registers)
            (executed : Executes w (rank_by w activities) (slots_by w activities) (cleared w) j 0 frames given (view_at w given j).now begun frames' left r')
          where
            pass_left : CallLeaves w activities j other scope.depth (given_by scope n gave.inputs gave.outputs) frames' left r' here does
            pass_left =
                comes.executes j other (given_by scope n gave.inputs gave.outputs) frames given begun frames' left r' here refl run.is_there gave.may
                gave.begins starts executed

            abbrev pub after_call : Memory
            after_call = does.memory

            pub call_left : RunLeaves w activities i unit scope n j other (with_at j r'.counters frames') left copies r r'.over here after_call
            call_left =
                leaves i unit scope frames store copies r here l at arguments j other given begun frames' left r' midway run copied gave starts executed
                pass_left

            pub call_comes : Ends (runs_c (c_calling written) scope here) (Some after_call)
            call_comes =
                call_goes scope here written (pos 0) after_call (ap (λ (c : CallResult). c.result) called_is ∙ pass_left.returned)
                (ap (λ (c : CallResult). c.memory) called_is)
