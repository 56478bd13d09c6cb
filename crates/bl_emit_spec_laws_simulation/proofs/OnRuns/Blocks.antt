-- The blocks of the nodes at which a `run` begins or goes on.
use Rattle.std.proofs.Common.{◌≡◌, inr, ℕ, Bool, true, false, List, [], ◌∷◌, ◌++◌, Option, Some, None, append-nil, refl, sym, ap, ◌∙◌, subst}
use Rattle.std.proofs.lemmas.Option.{same_Some}
use Rattle.std.specs.Prelude.{slice_get, take, if◌then◌else◌}
use Rattle.bl_tree.proofs.Basics.{get_taken, true_not_false}
use Rattle.bl_tree.specs.declared.c.CStmt.{CStmt}
use Rattle.bl_tree.specs.declared.place.Place.{Place}
use Rattle.bl_tree.specs.declared.tree.Path.{Path}
use Rattle.bl_tree.specs.declared.tree.StructDef.{StructDef}
use Rattle.bl_tree.specs.declared.tree.Unit.{Unit as UnitDef}
use Rattle.bl_tree.specs.declared.value.Value.{Value}
use Rattle.bl_tree.specs.Numbers.{number_of}
use Rattle.bl_tree.specs.Typing.{site_of, target_fits}
use Rattle.bl_graph_nodes.specs.Nodes.{Arguments, EnterAt, Node, ResumeAt}
use Rattle.bl_graph_nodes.specs.Plain.{Label, plain_body}
use Rattle.bl_ctext_semantics.specs.Course.{Outcome, goes_on, traps}
use Rattle.bl_ctext_semantics.specs.Meaning.{Scope, block_c}
use Rattle.bl_ctext_semantics.specs.Memory.{Memory}
use Rattle.bl_ctree.specs.Actions.{Copies, Gives, Performed, done, given_to, result_at}
use Rattle.bl_ctree.specs.Instances.{Setting, callee_of, setting_of}
use Rattle.bl_ctree.specs.Store.{Store, view_at}
use Rattle.bl_ctree_laws.specs.Ends.{done_by}
use Rattle.bl_ctree_laws.specs.Pending.{deed}
use Rattle.bl_ctree_laws_confluence.specs.Deeds.Nesting.{ProgramsNest}
use Rattle.bl_ctree_laws_confluence.specs.Deeds.Orderly.{AcceptedIsOrderly}
use Rattle.bl_ctree_laws_confluence.specs.Deeds.Origins.{InstancesHaveCallers}
use Rattle.bl_emit_acts.specs.Trees.{c_read}
use Rattle.bl_emit_acts_laws_simulation.specs.Laws.{FramesApart, PlacesSimulate, WritesEncode}
use Rattle.bl_emit_functions.specs.Trees.{c_if}
use Rattle.bl_emit_spec.specs.Activities.{activity_view, remembers_any}
use Rattle.bl_emit_spec.specs.Blocks.{ActivityView, changes_code, unit_may_end, may_end_in, node_code, own_code}
use Rattle.bl_emit_spec.specs.Blocks.{resumed_code, run_code, stmt_where, target_code, word_at}
use Rattle.bl_emit_spec.specs.Names.{NumberedWord, ended_place}
use Rattle.bl_emit_spec_laws.specs.Registers.Laws.{RegistersKeepApart}
use Rattle.bl_machine.specs.declared.machine.Activity.{Activity as InMachine}
use Rattle.bl_machine_laws.specs.Passes.Follows.{DeedYields}
use Rattle.bl_machine_pass.specs.Registers.{Registers, after_rule, all_changed, with_at}
use Rattle.bl_machine_pass.specs.Transitions.{Change, Transition}
use Rattle.bl_machine_pass_laws_execution.specs.Executes as executes
use Rattle.bl_machine_pass_laws_execution.specs.Executes.{CopiesMatch, Executes, IsPoint, NodeTraps, PassTraps, Performs, begun_registers, recopied}
use Rattle.bl_machine_pass_laws_execution.specs.Executes.{resumed_registers}
use Rattle.bl_machine_pass_laws.specs.Turns.Laws.{StaysPlaced}
use Rattle.bl_machine_pass_laws_typing.specs.Fits.{PassesKeepTypes}
use Rattle.bl_machine_pass_laws_execution.specs.Frames.{Frames}
use Rattle.bl_machine_pass_laws.specs.Keys.{NodesHaveKeys}
use Rattle.bl_emit_spec_laws.specs.Calls.Built.{Activities, activity_at, cleared, rank_by, run_by, site_at, slots_by, unit_number}
use Rattle.bl_emit_spec_laws.specs.Calls.Calls.{FramesWithin, PassStarts}
use Rattle.bl_emit_spec_laws.specs.Calls.Laws.{BlocksSimulate, CalledAt, CompilationContext, HasShownRule, Midway, PartSimulates, PassKeepsFrame, block_done}
use Rattle.bl_emit_spec_laws.specs.Calls.Laws.{own_done}
use Rattle.bl_emit_spec_laws.specs.Calls.Invariant.{PassRepresents}
use Rattle.bl_emit_spec_laws_nodes.specs.Calling.{RunLeaves, RunOf, RunsEstablish, RunsLeave, TargetsSeen}
use Rattle.bl_emit_spec_laws.specs.Cleared.{ClearingIsInside}
use Rattle.bl_emit_spec_laws.specs.Registers.Laws.{RegistersWithin}
use Rattle.bl_emit_spec_laws.specs.Within.{AllStayWithin}
use Rattle.bl_emit_spec_laws.proofs.OnWithin.Passing.{frame_within, resumed_within}
use Rattle.bl_emit_spec_laws_nodes.specs.Points.Laws.{ChangesSimulateInPass, is_return_node}
use Rattle.bl_emit_spec_laws_nodes.specs.Points.Points.{BodiesEnd, PointsStand}
use Rattle.bl_emit_spec_laws_nodes.proofs.OnPoints.ActNodes.{append_goes}
use Rattle.bl_emit_spec_laws_nodes.proofs.OnPoints.Choices.{if_alone}
use Rattle.bl_emit_spec_laws_nodes.proofs.OnPoints.Endless.{pass_open}
use Rattle.bl_emit_spec_laws_nodes.proofs.OnPoints.Silent.{comes_as}
use Rattle.bl_emit_spec_laws.proofs.OnPasses.Asking.{resumes_quiet}
use Rattle.bl_emit_spec_laws_simulation.proofs.OnRuns.Begun.{first_comes, first_inputs, first_stops, own_comes}
use Rattle.bl_emit_spec_laws_simulation.proofs.OnRuns.Called.{after, call_goes_on, ended, forgotten, inputs_fit, inputs_stop, kept_after, pass_stops}
use Rattle.bl_emit_spec_laws_simulation.proofs.OnRuns.Called.{unasked}
use Rattle.bl_emit_spec_laws_simulation.proofs.OnRuns.Changing.{changes_behind, keeping}
use Rattle.bl_emit_spec_laws.proofs.OnRunPlaces.Entered.{node_by}
use Rattle.bl_emit_spec_laws_simulation.proofs.OnRuns.Running.{CallsUnit, node_calls}
use Rattle.bl_emit_spec_laws_simulation.proofs.OnRuns.Statements.{ended_truth, step_goes}
use Rattle.bl_emit_spec_laws_simulation.proofs.OnRuns.Targets.{target_comes, target_typed}
use Rattle.bl_emit_spec_laws.proofs.OnRunPlaces.Words.{run_word}
use Rattle.bl_emit_spec_laws.proofs.OnActivities.Nested.{unit_there}
use Rattle.bl_emit_spec_laws.proofs.OnRegisters.Statements.{Chosen}
use Rattle.bl_emit_spec_laws.proofs.OnPasses.Blocks.{Alike}

-- no changes are none where they are shown
none_shown : (last : Bool) (changes : List Change) → changes ≡ [] → (if last then changes else []) ≡ []
none_shown true changes none = none
none_shown false changes none = refl

module _ (orderly : AcceptedIsOrderly) (callers : InstancesHaveCallers) (nests : ProgramsNest) (frames_apart : FramesApart)
    (keep : RegistersKeepApart) (clearing : ClearingIsInside) (stand : ChangesSimulateInPass) (fitting : PassesKeepTypes)
    (stay : AllStayWithin) (keys : NodesHaveKeys) (placed : StaysPlaced) (structs : List StructDef) (units : List UnitDef) (entry : ℕ)
    (lead : PlacesSimulate structs units entry) (write : WritesEncode structs units entry) (end : BodiesEnd structs units entry)
    (machine : List InMachine) (activities : Activities) (gives : RunsEstablish structs units entry machine activities)
    (leaves : RunsLeave structs units entry machine activities) (seen : TargetsSeen (setting_of structs units entry) activities)
    (i : ℕ) (unit : UnitDef) (scope : Scope) (frames : Frames) (store : Store) (copies : List Value) (r : Registers) (rule : Transition) (u : ℕ)
    (here : Memory) (points : PointsStand structs units entry activities)
    (midway : Midway structs units entry machine activities i unit scope frames store copies r here)
    (there : HasShownRule (setting_of structs units entry) activities i unit rule) (called : CalledAt (plain_body unit.body) rule.node u)
    (sees : CopiesMatch (setting_of structs units entry) i rule.node store copies)
  where
    abbrev w : Setting
    w = setting_of structs units entry

    abbrev k : ℕ
    k = unit_number w i

    abbrev view : ActivityView
    view = activity_view (activity_at w activities i)

    abbrev number : Node → ℕ
    number = rank_by w activities i

    abbrev block : Outcome Memory
    block = block_done w activities i u rule scope here

    abbrev Keeping : Memory → Memory → Type 0
    Keeping = PassKeepsFrame (site_at w activities i) unit (remembers_any (activity_at w activities i)) scope

    -- the block does what the C of its node does
    chosen : (n : Node) → rule.node ≡ n → (block.end ≡ (block_c (node_code view u rule n) scope here).end)
        × (block.memory ≡ (block_c (node_code view u rule n) scope here).memory)
    chosen n is =
        let code = ap (node_code view u rule) is in
        (ap (λ code. (block_c code scope here).end) code, ap (λ code. (block_c code scope here).memory) code)

    -- ---- one `run`

    -- the `run` of the node, which calls an instance of the unit
    run_at : (late : Bool) (l : Label) (at : Place) (arguments : Arguments) (j : ℕ) →
        rule.node ≡ node_by late
        (record { label = l; place = at; unit = u; arguments = arguments }) → callee_of w i at ≡ Some j →
        CallsUnit w activities i unit (record { label = l; place = at; unit = u; arguments = arguments }) j
    run_at late l at arguments j is begins =
        node_calls orderly callers structs units entry machine activities midway.compiled i unit midway.is_there late
        (record { label = l; place = at; unit = u; arguments = arguments }) called.position j (called.node ∙ ap Some is) called.unit begins

    module _ (l : Label) (at : Place) (arguments : Arguments) (j : ℕ) (other : UnitDef) (run : RunOf w activities i unit l at arguments j other)
        (is_number : unit_number w j ≡ u)
      where
        abbrev n : NumberedWord
        n = run_by w activities i at

        word_is : n ≡ word_at view at u
        word_is = run_word w activities i j at run.callee ∙ ap (word_at view at) is_number

        chosen_resumed : (is : rule.node ≡ ResumeAt l at arguments) → (block.end ≡ (block_c (resumed_code view n u arguments rule) scope here).end)
            × (block.memory ≡ (block_c (resumed_code view n u arguments rule) scope here).memory)
        chosen_resumed is =
            subst (λ (k : NumberedWord). (block.end ≡ (block_c (resumed_code view k u arguments rule) scope here).end)
            × (block.memory ≡ (block_c (resumed_code view k u arguments rule) scope here).memory)) (sym word_is) (chosen (ResumeAt l at arguments) is)

        -- whether what is called may end
        abbrev may : Bool
        may = may_end_in (slice_get view.site.earlier u)

        may_is : may ≡ unit_may_end other
        may_is =
            let called = unit_number w j in
            let there : slice_get view.site.earlier called ≡ Some other =
            ap (λ earlier. slice_get earlier called) (midway.compiled.built.earlier k unit midway.function.is_there)
            ∙ (get_taken units k called run.earlier ∙ unit_there w j other run.is_there) in
            ap may_end_in (subst (λ u. slice_get view.site.earlier u ≡ Some other) is_number there)

        -- ---- it begins

        module _ (is : rule.node ≡ EnterAt l at arguments) where
          -- the outcome of what its node does itself
          abbrev own : Outcome Memory
          own = own_done w activities i u rule scope here

          own_part : PartSimulates w activities i unit scope (cleared w j frames) store copies (after_rule number rule true r) here own
          own_part =
              own_comes orderly callers nests clearing stand stay keys placed structs units entry end machine activities gives leaves i unit scope frames
              store copies r rule u here points midway there l at arguments j other run is_number sees is

          -- the call stands behind it
          called_so : Alike block (block_c (run_code view n u arguments ++ []) scope own.memory)
          called_so =
              let so = chosen (EnterAt l at arguments) is in
              let code : node_code view u rule (EnterAt l at arguments) ≡ own_code view u rule rule.node ++ run_code view n u arguments =
              ap (λ own. own ++ run_code view (word_at view at u) u arguments) (ap (own_code view u rule) (sym is))
              ∙ ap (λ k. own_code view u rule rule.node ++ run_code view k u arguments) (sym word_is) in
              let both = append_goes scope (own_code view u rule rule.node) (run_code view n u arguments) here own_part.ends in
              let alone : run_code view n u arguments ≡ run_code view n u arguments ++ [] = sym (append-nil (run_code view n u arguments)) in (
                so.0 ∙ (ap (λ code. (block_c code scope here).end) code ∙ (both.0 ∙ ap (λ code. (block_c code scope own.memory).end) alone)),
                so.1 ∙ (ap (λ code. (block_c code scope here).memory) code ∙ (both.1 ∙ ap (λ code. (block_c code scope own.memory).memory) alone)),
              )

          pub enter_inputs : done_by w (deed i at (Copies j arguments.inputs)) store ≡ None → block.end ≡ traps
          enter_inputs did =
              called_so.0
              ∙ first_inputs orderly callers nests clearing stand stay keys placed structs units entry end machine activities gives leaves i unit scope
              frames store copies r rule u here points midway there l at arguments j other run is_number sees is [] did

          module _ (given : Store) (copied : DeedYields w (deed i at (Copies j arguments.inputs)) store true given) where
            pub enter_cut : PassTraps w (rank_by w activities) (slots_by w activities) (cleared w) j 0 (cleared w j frames) given
                (view_at w given j).now (begun_registers (rank_by w activities) j other) → block.end ≡ traps
            enter_cut cut =
                called_so.0
                ∙ first_stops orderly callers nests clearing stand stay keys placed structs units entry end machine activities gives leaves i unit scope
                frames store copies r rule u here points midway there l at arguments j other run is_number sees is given copied [] cut

            pub enter_comes : (frames' : Frames) (left : Store) (r' : Registers) →
                Executes w (rank_by w activities) (slots_by w activities) (cleared w) j 0 (cleared w j frames) given (view_at w given j).now
                (begun_registers (rank_by w activities) j other) frames' left r' →
                PartSimulates w activities i unit scope (with_at j r'.counters frames') left copies (after_rule number rule true r) here block
            enter_comes frames' left r' executed =
                let part = first_comes orderly callers nests clearing stand stay keys placed structs units entry end machine activities gives leaves i unit
                scope frames store copies r rule u here points midway there l at arguments j other run is_number sees is given copied frames' left r'
                executed in
                let o = block_c (run_code view n u arguments ++ []) scope own.memory in
                comes_as w activities i unit scope (with_at j r'.counters frames') left copies (after_rule number rule true r) here block o called_so.0
                called_so.1
                (record {
                  ends = part.ends;
                  stands = part.stands;
                  kept = λ root way older outside. part.kept root way older outside ∙ own_part.kept root way older outside;
                })

        -- ---- it goes on

        module _ (is : rule.node ≡ ResumeAt l at arguments) where
          sees_resumed : CopiesMatch w i (EnterAt l at arguments) store copies
          sees_resumed = subst (λ n. CopiesMatch w i n store copies) is sees

          abbrev told : List CStmt
          told = target_code view n arguments.target ++ changes_code view rule.on_true

          abbrev asked : CStmt
          asked = c_if (c_read ended_place) told None

          -- what stands behind the call, by whether what is called may end
          abbrev asked_by : Bool → List CStmt
          asked_by may = stmt_where may asked

          pub resume_inputs : done_by w (deed i at (Copies j arguments.inputs)) store ≡ None → block.end ≡ traps
          resume_inputs did =
              (chosen_resumed is).0
              ∙ inputs_stop orderly callers nests clearing keys placed structs units entry machine activities gives leaves points.remembering i unit scope
              frames store copies r here midway l at arguments j other run u is_number sees_resumed (asked_by may) did

          module _ (given : Store) (copied : DeedYields w (deed i at (Copies j arguments.inputs)) store true given) (runs : frames j 0 ≡ 0 → ⊥) where
            starts_resumed : PassStarts w activities j other frames (resumed_registers frames j)
            starts_resumed = inr (refl, runs)

            pub resume_cut : PassTraps w (rank_by w activities) (slots_by w activities) (cleared w) j 0 frames given (view_at w given j).now
                (resumed_registers frames j) → block.end ≡ traps
            resume_cut cut =
                (chosen_resumed is).0
                ∙ pass_stops orderly callers nests clearing keys placed structs units entry machine activities gives leaves points.remembering i unit scope
                frames store copies r here midway l at arguments j other run u is_number sees_resumed given copied (resumed_registers frames j)
                starts_resumed (asked_by may) cut

            module _ (frames' : Frames) (left : Store) (r' : Registers)
                (executed : Executes w (rank_by w activities) (slots_by w activities) (cleared w) j 0 frames given (view_at w given j).now
                (resumed_registers frames j) frames' left r')
              where
                abbrev new_frames : Frames
                new_frames = with_at j r'.counters frames'

                abbrev called_after : Memory
                called_after = after orderly callers nests clearing keys placed structs units entry machine activities gives leaves points.remembering i unit
                    scope frames store copies r here midway l at arguments j other run u is_number sees_resumed given copied
                    (resumed_registers frames j) starts_resumed frames' left r' executed

                call_ended : RunLeaves w activities i unit scope n j other new_frames left copies r r'.over (forgotten orderly callers nests clearing keys
                    placed structs units entry machine activities gives leaves points.remembering i unit scope frames store copies r here midway l at
                    arguments j other run u is_number sees_resumed) called_after
                call_ended =
                    ended orderly callers nests clearing keys placed structs units entry machine activities gives leaves points.remembering i unit scope
                    frames store copies r here midway l at arguments j other run u is_number sees_resumed given copied (resumed_registers frames j)
                    starts_resumed frames' left r' executed

                kept_called : Keeping here called_after
                kept_called =
                    kept_after orderly callers nests clearing keys placed structs units entry machine activities gives leaves points.remembering i unit scope
                    frames store copies r here midway l at arguments j other run u is_number sees_resumed given copied (resumed_registers frames j)
                    starts_resumed frames' left r' executed

                -- what is done behind the call
                asked_so : Alike block (block_c (asked_by may) scope called_after)
                asked_so =
                    let so = chosen_resumed is in
                    let called = call_goes_on orderly callers nests clearing keys placed structs units entry machine activities gives leaves
                    points.remembering i unit scope frames store copies r here midway l at arguments j other run u is_number sees_resumed given copied
                    (resumed_registers frames j) starts_resumed frames' left r' executed (asked_by may) in
                    (so.0 ∙ called.0, so.1 ∙ called.1)

                -- what never ends hasn't ended
                over_asked : r'.over ≡ true → may ≡ true
                over_asked over = by may may_is
                  where
                    by : (b : Bool) → b ≡ unit_may_end other → b ≡ true
                    by true same = refl
                    by false same =
                        absurd (true_not_false
                        (sym over
                        ∙ pass_open w (rank_by w activities) (slots_by w activities) (cleared w) other (sym same) run.is_there executed refl))

                -- the body of what is called hasn't ended
                pub resume_comes : r'.over ≡ false →
                    PartSimulates w activities i unit scope new_frames left copies (after_rule number rule false r) here block
                resume_comes over =
                    let quiet : rule.on_false ≡ [] =
                    ap (λ (t : Transition). t.on_false) there.is
                    ∙ none_shown there.last there.rule.on_false
                    (resumes_quiet (slots_by w activities i) (plain_body unit.body) there.rule there.there l at arguments
                    (sym (ap (λ (t : Transition). t.node) there.is) ∙ is)) in
                    let unchanged : r ≡ all_changed number rule.on_false r = ap (λ changes. all_changed number changes r) (sym quiet) in
                    let rest = unasked orderly callers nests clearing keys placed structs units entry machine activities gives leaves points.remembering i unit
                    scope frames store copies r here midway l at arguments j other run u is_number sees_resumed given copied
                    (resumed_registers frames j) starts_resumed frames' left r' executed over told in
                    let memory : block.memory ≡ called_after = asked_so.1 ∙ rest.1 in
                    record {
                      ends = asked_so.0 ∙ rest.0;
                      stands = subst (PassRepresents w activities i unit scope new_frames left copies (all_changed number rule.on_false r)) (sym memory)
                          (subst (λ r. PassRepresents w activities i unit scope new_frames left copies r called_after) unchanged call_ended.stands);
                      kept = subst (Keeping here) (sym memory) kept_called;
                    }

                -- it has
                record Targeted (last : Store) : Type 0 where
                  memory : Memory
                  goes : (block_c (target_code view n arguments.target) scope called_after).end ≡ goes_on
                  leaves_it : (block_c (target_code view n arguments.target) scope called_after).memory ≡ memory
                  stands : PassRepresents w activities i unit scope new_frames last copies r memory
                  kept : Keeping called_after memory

                within_after : FramesWithin w activities frames' × RegistersWithin (activity_at w activities j).sizes r'
                within_after =
                    (stay structs units entry machine activities).executes j 0 frames given (view_at w given j).now (resumed_registers frames j) frames'
                    left r' midway.compiled midway.frames_within (resumed_within w activities j frames midway.frames_within) executed

                mid_after : Midway structs units entry machine activities i unit scope new_frames left copies r called_after
                mid_after = record {
                  compiled = midway.compiled;
                  is_there = midway.is_there;
                  function = midway.function;
                  stands = call_ended.stands;
                  fits = (fitting structs units entry midway.compiled.well_typed).executes (rank_by w activities) (slots_by w activities) (cleared w) j 0
                      frames given (view_at w given j).now (resumed_registers frames j) frames' left r'
                      (inputs_fit orderly callers nests clearing keys placed structs units entry machine activities gives leaves points.remembering i unit scope
                      frames store copies r here midway l at arguments j other run u is_number sees_resumed given copied (resumed_registers frames j)
                      starts_resumed) executed;
                  copies_fit = midway.copies_fit;
                  frames_within = frame_within w activities j r'.counters frames' within_after.1.counters within_after.0;
                  within = midway.within;
                }

                targeted : r'.over ≡ true → (target : Option Path) → arguments.target ≡ target → (last : Store) →
                    DeedYields w (deed i at (Gives j target)) left true last → Targeted last
                targeted over None none last did =
                    let same : left ≡ last =
                    ap (λ (p : Performed). p.store)
                    (same_Some (done (given_to w i None (result_at left j) left)) (record { answer = true; store = last }) did) in
                    record {
                      memory = called_after;
                      goes = ap (λ target. (block_c (target_code view n target) scope called_after).end) none;
                      leaves_it = ap (λ target. (block_c (target_code view n target) scope called_after).memory) none;
                      stands = subst (λ store. PassRepresents w activities i unit scope new_frames store copies r called_after) same call_ended.stands;
                      kept = λ root way older outside. refl;
                    }
                targeted over (Some path) some last did =
                    let fit = subst (λ target. target_fits
                    (site_of structs (take k units) unit) other.result target ≡ true) some
                    (target_typed callers structs units entry midway.compiled.well_typed activities i unit midway.is_there l at arguments j other run) in
                    let set = target_comes frames_apart keep structs units entry lead write points.views machine activities points.remembering seen i unit
                    scope new_frames left copies r called_after mid_after l at arguments j other run n
                    (λ value one is. call_ended.result value over one is) path last some did fit in
                    let one = step_goes scope _ [] called_after set.after set.ends in
                    record {
                      memory = set.after;
                      goes = ap (λ target. (block_c (target_code view n target) scope called_after).end) some ∙ one.0;
                      leaves_it = ap (λ target. (block_c (target_code view n target) scope called_after).memory) some ∙ one.1;
                      stands = set.stands;
                      kept = set.kept;
                    }

                pub return_comes : r'.over ≡ true → (last : Store) → DeedYields w (deed i at (Gives j arguments.target)) left true last →
                    PartSimulates w activities i unit scope new_frames last copies (after_rule number rule true r) here block
                return_comes over last did =
                    let truth = ended_truth scope called_after true (call_ended.over (sym may_is ∙ over_asked over) ∙ ap number_of over) in
                    let inside = block_c told scope called_after in
                    let asks : Alike (block_c (asked ∷ []) scope called_after) inside =
                    if_alone scope called_after (λ e m. (e ≡ inside.end) × (m ≡ inside.memory)) (c_read ended_place) told None
                    (subst (Chosen scope called_after (λ e m. (e ≡ inside.end) × (m ≡ inside.memory)) told None) (sym truth) (refl, refl)) in
                    let rest =
                    subst (λ b. Alike (block_c (asked_by b) scope called_after) inside)
                    (sym (over_asked over)) asks in
                    let set = targeted over arguments.target refl last did in
                    let changes = changes_code view rule.on_true in
                    let alike = append_goes scope (target_code view n arguments.target) changes called_after set.goes in
                    let end_so = ap (λ (m : Memory). (block_c changes scope m).end) set.leaves_it in
                    let memory_so = ap (λ (m : Memory). (block_c changes scope m).memory) set.leaves_it in
                    comes_as w activities i unit scope new_frames last copies (all_changed number rule.on_true r) here block
                    (block_c changes scope set.memory) (asked_so.0 ∙ (rest.0 ∙ (alike.0 ∙ end_so))) (asked_so.1 ∙ (rest.1 ∙ (alike.1 ∙ memory_so)))
                    (changes_behind stand stay structs units entry end machine activities i unit scope frames store copies r rule here points midway there
                    new_frames last set.memory (ap is_return_node is)
                    (keeping stand stay structs units entry end machine activities i unit scope frames store copies r rule here points midway there here
                    called_after set.memory kept_called set.kept) set.stands)

    -- ---- all nodes of `run`s

    pub turn_comes : {n : Node} {answer : Bool} {frames' : Frames} {left : Store} →
        Performs w (rank_by w activities) (slots_by w activities) (cleared w) i n frames store answer frames' left → rule.node ≡ n →
        (IsPoint n → ⊥) →
        PartSimulates w activities i unit scope frames' left (recopied w i n left copies) (after_rule number rule answer r) here block
    turn_comes (executes.does point did) is none = absurd (none point)
    turn_comes
        (executes.enters {l = l} {at = at} {arguments = arguments} {given = given} {frames' = frames'} {left = left} {r' = r'} {callee = j} {unit = other}
        begins of copied executed over) is none =
        let calls = run_at false l at arguments j is begins in
        let same : calls.other ≡ other = same_Some calls.other other (sym calls.run.is_there ∙ of) in
        enter_comes l at arguments j other (subst (λ other. RunOf w activities i unit l at arguments j other) same calls.run) calls.number is given copied
        frames' left r' executed
    turn_comes
        (executes.resumes {l = l} {at = at} {arguments = arguments} {given = given} {frames' = frames'} {left = left} {r' = r'} {callee = j}
        begins runs copied executed over) is none =
        let calls = run_at true l at arguments j is begins in
        resume_comes l at arguments j calls.other calls.run calls.number is given copied runs frames' left r' executed over
    turn_comes
        (executes.returns {l = l} {at = at} {arguments = arguments} {given = given} {frames' = frames'} {ended = ended} {left = left} {r' = r'} {callee = j}
        begins runs copied executed over did) is none =
        let calls = run_at true l at arguments j is begins in
        return_comes l at arguments j calls.other calls.run calls.number is given copied runs frames' ended r' executed over left did

    pub turn_stops : {n : Node} → NodeTraps w (rank_by w activities) (slots_by w activities) (cleared w) i n frames store → rule.node ≡ n →
        (IsPoint n → ⊥) → block.end ≡ traps
    turn_stops (executes.point_stops point did) is none = absurd (none point)
    turn_stops (executes.inputs_stop {l = l} {at = at} {arguments = arguments} {callee = j} begins did) is none =
        let calls = run_at false l at arguments j is begins in
        enter_inputs l at arguments j calls.other calls.run calls.number is did
    turn_stops (executes.copies_stop {l = l} {at = at} {arguments = arguments} {callee = j} begins did) is none =
        let calls = run_at true l at arguments j is begins in
        resume_inputs l at arguments j calls.other calls.run calls.number is did
    turn_stops (executes.begun_stops {l = l} {at = at} {arguments = arguments} {given = given} {callee = j} {unit = other} begins of copied cut) is none =
        let calls = run_at false l at arguments j is begins in
        let same : calls.other ≡ other = same_Some calls.other other (sym calls.run.is_there ∙ of) in
        enter_cut l at arguments j other (subst (λ other. RunOf w activities i unit l at arguments j other) same calls.run) calls.number is given copied cut
    turn_stops (executes.resumed_stops {l = l} {at = at} {arguments = arguments} {given = given} {callee = j} begins runs copied cut) is none =
        let calls = run_at true l at arguments j is begins in
        resume_cut l at arguments j calls.other calls.run calls.number is given copied runs cut

pub blocks_simulate : AcceptedIsOrderly → InstancesHaveCallers → ProgramsNest → FramesApart → RegistersKeepApart → ClearingIsInside →
    ChangesSimulateInPass → PassesKeepTypes → AllStayWithin → NodesHaveKeys → StaysPlaced → (structs : List StructDef) (units : List UnitDef) (entry : ℕ) →
    PlacesSimulate structs units entry → WritesEncode structs units entry → BodiesEnd structs units entry → (machine : List InMachine)
    (activities : Activities) → RunsEstablish structs units entry machine activities → RunsLeave structs units entry machine activities →
    TargetsSeen (setting_of structs units entry) activities →
    (CompilationContext structs units entry machine activities → PointsStand structs units entry activities) →
    BlocksSimulate structs units entry machine activities (λ n. IsPoint n → ⊥)
blocks_simulate orderly callers nests frames_apart keep clearing stand fitting stay keys placed structs units entry lead write end machine activities
    gives leaves seen points = record {
      acts = λ i unit scope frames store copies r rule u answer frames' left here midway there none called sees performs.
          turn_comes orderly callers nests frames_apart keep clearing stand fitting stay keys placed structs units entry lead write end machine
          activities gives leaves seen i unit scope frames store copies r rule u here (points midway.compiled) midway there called sees performs refl
          none;
      stops = λ i unit scope frames store copies r rule u here midway there none called sees stops.
          turn_stops orderly callers nests frames_apart keep clearing stand fitting stay keys placed structs units entry lead write end machine
          activities gives leaves seen i unit scope frames store copies r rule u here (points midway.compiled) midway there called sees stops refl
          none;
    }
