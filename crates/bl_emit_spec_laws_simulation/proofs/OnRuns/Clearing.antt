-- As a `run` begins the counters of what it calls are cleared, and before each call its end is forgotten: memory stands then in the middle of the
-- same pass, over cleared frames.
use Rattle.std.proofs.Common.{◌≡◌, ℕ, ◌<◌, Bool, true, false, not, ◌&&◌, ◌||◌, List, [], ◌∷◌}
use Rattle.std.proofs.Common.{◌++◌, Contains, length, Some, refl, sym, ap, ◌∙◌, subst}
use Rattle.std.proofs.Common.{append_assoc}
use Rattle.std.proofs.lemmas.List.{append-nil}
use Rattle.std.proofs.lemmas.Option.{same_Some}
use Rattle.std.specs.Prelude.{bytes_eq, is_some, pos, slice_get}
use Rattle.std.proofs.lemmas.Bool.{or_right}
use Rattle.bl_tree.proofs.Basics.{true_not_false}
use Rattle.bl_tree.specs.declared.place.Place.{Place}
use Rattle.bl_tree.specs.declared.tree.StructDef.{StructDef}
use Rattle.bl_tree.specs.declared.tree.Unit.{Unit as UnitDef}
use Rattle.bl_tree.specs.declared.tree.Var.{Var}
use Rattle.bl_tree.specs.declared.value.Value.{Value}
use Rattle.bl_tree.specs.Rules.{same_place}
use Rattle.bl_tree.specs.Typing.{TypingContext, is_activity, var_at}
use Rattle.bl_effects.proofs.EntryLemmas.{same_place_refl}
use Rattle.bl_graph_nodes.specs.Nodes.{Arguments, EnterAt, nodes_in}
use Rattle.bl_graph_nodes.specs.Plain.{Label, plain_body}
use Rattle.bl_ctext_semantics.specs.Meaning.{Scope, further, named_location}
use Rattle.bl_ctext_semantics.specs.Memory.{CValue, Location, Memory, Projection, left_after, member, scalar_number}
use Rattle.bl_ctext_semantics.specs.Memory.{number_or, same_root, scalar, set_at, value_at, zeros}
use Rattle.bl_ctree.specs.Instances.{Setting, callee_of, setting_of}
use Rattle.bl_ctree.specs.Store.{Store, view_at}
use Rattle.bl_ctree_laws_confluence.specs.Deeds.Nesting.{Inside, InstancesNest}
use Rattle.bl_ctree_laws_confluence.specs.Deeds.Orderly.{AcceptedIsOrderly}
use Rattle.bl_ctree_laws_confluence.specs.Deeds.Origins.{InstancesHaveCallers}
use Rattle.bl_emit_acts.specs.declared.home.Home.TheVariants.{Held}
use Rattle.bl_emit_acts.specs.Types.{variable_name}
use Rattle.bl_emit_acts_laws_simulation.specs.Frames.{remembered_at}
use Rattle.bl_emit_acts_laws_simulation.specs.Encodes.{Encodes, are_apart, home_at, ways_part}
use Rattle.bl_emit_spec.specs.Activities.{remembers_any}
use Rattle.bl_emit_spec.specs.Blocks.{unit_may_end}
use Rattle.bl_emit_spec.specs.Names.{NumberedWord, callee_name, counter_name, ended_name}
use Rattle.bl_emit_spec_laws.specs.Registers.Registers.{Registered, frame_at}
use Rattle.bl_machine.specs.declared.machine.Activity.{Activity as InMachine}
use Rattle.bl_machine_pass.specs.Registers.{Registers}
use Rattle.bl_machine_pass_laws.specs.Turns.Laws.{StaysPlaced}
use Rattle.bl_machine_pass_laws_execution.specs.Frames.{Frames}
use Rattle.bl_machine_pass_laws_execution.proofs.OnPerforms.Touching.{one_place}
use Rattle.bl_machine_pass_laws.specs.Keys.{NodesHaveKeys}
use Rattle.bl_emit_spec_laws.specs.Calls.Built.{Activities, activity_at, cleared, registered, run_by, site_at, unit_number}
use Rattle.bl_emit_spec_laws.specs.Calls.Laws.{Midway, PassKeepsFrame}
use Rattle.bl_emit_spec_laws.specs.Calls.Memories as memories
use Rattle.bl_emit_spec_laws.specs.Calls.Memories.{MemoryEncodes, Nests, inner}
use Rattle.bl_emit_spec_laws.specs.Calls.Invariant.{PlacesAreSeparate}
use Rattle.bl_emit_spec_laws_nodes.specs.Calling.{NotEnded}
use Rattle.bl_emit_spec_laws.specs.Cleared.{ClearingIsInside}
use Rattle.bl_emit_spec_laws.proofs.OnWithin.Passing.{clear_within}
use Rattle.bl_emit_spec_laws_nodes.specs.Points.Laws.{Remembering}
use Rattle.bl_emit_spec_laws_nodes.proofs.OnPoints.Apart.{Beyond, first_further, further_twice, inner_is}
use Rattle.bl_emit_spec_laws_nodes.proofs.OnPoints.Apart.{last_further, lies_further, nests_beyond}
use Rattle.bl_emit_spec_laws_nodes.proofs.OnPoints.Cells.{same_object}
use Rattle.bl_emit_spec_laws_nodes.proofs.OnPoints.Changes.{holds_same}
use Rattle.bl_emit_spec_laws_nodes.proofs.OnViews.Leaving.{nests_inside}
use Rattle.bl_emit_spec_laws_simulation.proofs.OnRuns.Inner.{cleared_other, cleared_own}
use Rattle.bl_emit_spec_laws_simulation.proofs.OnRuns.Numbering.{callees_differ}
use Rattle.bl_emit_spec_laws_simulation.proofs.OnRuns.Statements.{forgotten_by}
use Rattle.bl_emit_spec_laws_simulation.proofs.OnRuns.Placing.{OtherName, frame_beside, kept_at, local_beside, local_older, stands_beside}
use Rattle.bl_emit_acts_laws_simulation.proofs.Frames.{older_differs}
use Rattle.bl_emit_acts_laws_simulation.proofs.Cells.{apart_flip, set_elsewhere}
use Rattle.bl_tree.proofs.FirstLemmas.{same_true}
use Rattle.bl_emit_acts_laws_simulation.proofs.Written.{left_behind}
use Rattle.bl_emit_spec_laws.proofs.OnRegisters.Cells.{behind_front}

-- all of a cleared place is 0
own_zero : (here : Memory) (place : Location) (more way : List Projection) → value_at (set_at here place zeros) (further place more) way ≡ pos 0
own_zero here place more way =
    same_object here place zeros ((place.parts ++ more) ++ way)
    ∙ ap (λ left. number_or left zeros (here place.root ((place.parts ++ more) ++ way)))
    (ap (left_after place.parts) (append_assoc place.parts more way)
    ∙ (ap (λ front. left_after front (place.parts ++ (more ++ way))) (sym (append-nil place.parts)) ∙ left_behind place.parts [] (more ++ way)))

module _ (orderly : AcceptedIsOrderly) (callers : InstancesHaveCallers) (clearing : ClearingIsInside) (keys : NodesHaveKeys) (placed : StaysPlaced)
    (structs : List StructDef) (units : List UnitDef) (entry : ℕ) (nest : InstancesNest structs units entry) (machine : List InMachine)
    (activities : Activities) (remembering : Remembering (setting_of structs units entry) activities) (i : ℕ) (unit : UnitDef) (scope : Scope)
    (frames : Frames) (store : Store) (copies : List Value) (r : Registers) (here : Memory)
    (midway : Midway structs units entry machine activities i unit scope frames store copies r here)
  where
    abbrev W : Setting
    W = setting_of structs units entry

    abbrev site : TypingContext
    site = site_at W activities i

    abbrev remembers : Bool
    remembers = remembers_any (activity_at W activities i)

    abbrev places : PlacesAreSeparate site unit remembers scope
    places = midway.function.places

    is_unit : (activity_at W activities i).unit ≡ unit
    is_unit = midway.compiled.built.unit (unit_number W i) unit midway.function.is_there

    pub active_site : is_activity site.kind ≡ true
    active_site = subst (λ (unit : UnitDef). is_activity unit.kind ≡ true) (sym is_unit) midway.function.active

    abbrev has : Registered
    has = registered (activity_at W activities i)

    pub may_end : has.over ≡ unit_may_end unit
    may_end = ap unit_may_end is_unit

    -- ---- what is called, where something is set that is apart from all that

    module _ (place : Location) (held : CValue) (l : Label) (at : Place) (arguments : Arguments) (j : ℕ)
        (there : Contains (nodes_in (plain_body unit.body)) (EnterAt l at arguments)) (called : callee_of W i at ≡ Some j)
      where
        abbrev n : NumberedWord
        n = run_by W activities i at

        abbrev f : Location
        f = inner (frame_at scope) n

        abbrev m : Location
        m = inner (remembered_at scope) n

        beyond_kept : (base p : Location) → Beyond (inner base n) p → (more : List Projection) →
            ((parts : List Projection) → are_apart place (further base (member (callee_name n) ∷ parts)) ≡ true) → (way : List Projection) →
            value_at (set_at here place held) (further p more) way ≡ value_at here (further p more) way
        beyond_kept base p far more apart =
            kept_at here place held (further p more)
            (subst (λ (q : Location). are_apart place q ≡ true) (sym (inner_is base p n far more)) (apart (far.0 ++ more)))

        variables_kept : (remembers ≡ true → are_apart place (remembered_at scope) ≡ true) → (k : ℕ) (f' m' : Location) →
            Nests W activities j f m k f' m' → (x : ℕ) (var : Var) (value : Value) → var_at (site_at W activities k) x ≡ Some var →
            home_at (site_at W activities k) x ≡ Held → slice_get (view_at W store k).now x ≡ Some value →
            Encodes W.structs var.ty value
            (value_at (set_at here place held) (further m' (member (variable_name (site_at W activities k).vars x) ∷ [])))
        variables_kept apart k f' m' nests x var value known is_held is =
            let its = remembering.each i k (frame_at scope) (remembered_at scope) f' m' x var
            (memories.inside midway.is_there there called nests) known is_held in
            holds_same W.structs var.ty value here (set_at here place held) (further m' (member (variable_name (site_at W activities k).vars x) ∷ []))
            (beyond_kept (remembered_at scope) m' (nests_beyond W activities j k f m f' m' nests).1
            (member (variable_name (site_at W activities k).vars x) ∷ [])
            (λ parts. last_further place (remembered_at scope) (member (callee_name n) ∷ parts) (apart its)))
            ((midway.stands.callees l at arguments j there called).variables k f' m' nests x var value known is_held is)

        -- nothing of it changes
        callee_kept : are_apart place (frame_at scope) ≡ true → (remembers ≡ true → are_apart place (remembered_at scope) ≡ true) →
            MemoryEncodes W activities j f m frames store (set_at here place held)
        callee_kept frame_apart apart = record {
          counters = λ k f' m' nests c below.
              beyond_kept (frame_at scope) f' (nests_beyond W activities j k f m f' m' nests).0 (member (counter_name c) ∷ [])
              (λ parts. last_further place (frame_at scope) (member (callee_name n) ∷ parts) frame_apart) []
              ∙ (midway.stands.callees l at arguments j there called).counters k f' m' nests c below;
          variables = variables_kept apart;
        }

    -- ---- a local is set

    module _ (name : List ℕ) (other : OtherName site unit remembers scope places active_site has may_end name) (held : CValue) where
      abbrev local : Location
      local = named_location scope false name

      -- memory stands for the same pass
      pub local_midway : Midway structs units entry machine activities i unit scope frames store copies r (set_at here local held)
      local_midway = record {
        compiled = midway.compiled;
        is_there = midway.is_there;
        function = midway.function;
        stands = stands_beside W activities i unit scope frames frames store copies r here local held
            (local_beside site unit remembers scope places active_site has may_end name other) midway.stands
            (λ l at arguments j there called.
            callee_kept local held l at arguments j there called (local_older scope name (frame_at scope) places.frame.frame_older)
            (λ its. local_older scope name (remembered_at scope) (places.memory its).older));
        fits = midway.fits;
        copies_fit = midway.copies_fit;
        frames_within = midway.frames_within;
        within = midway.within;
      }

      pub local_keeps : PassKeepsFrame site unit remembers scope here (set_at here local held)
      local_keeps root way older outside =
          set_elsewhere here local held root way
          (ap (λ same. same && is_some (left_after [] way)) (older_differs scope.depth name root older))

    -- ---- the local that tells whether what was called last has ended

    abbrev over_local : Location
    over_local = named_location scope false ended_name

    ended_other : OtherName site unit remembers scope places active_site has may_end ended_name
    ended_other = record { rested = λ k. refl; flag = λ k. refl; mark = λ k. refl; variable = λ k. refl; copy = λ k. refl }

    pub ended_midway : (may : Bool) → Midway structs units entry machine activities i unit scope frames store copies r (forgotten_by may scope here)
    ended_midway true = local_midway ended_name ended_other (scalar (pos 0))
    ended_midway false = midway

    pub ended_keeps : (may : Bool) → PassKeepsFrame site unit remembers scope here (forgotten_by may scope here)
    ended_keeps true = local_keeps ended_name ended_other (scalar (pos 0))
    ended_keeps false = λ root way older outside. refl

    pub not_ended : (called : UnitDef) (may : Bool) → may ≡ unit_may_end called → NotEnded called scope (forgotten_by may scope here)
    not_ended called true same ends = same_object here over_local (scalar (pos 0)) []
    not_ended called false same ends = absurd (true_not_false (sym (same ∙ ends)))

    -- ---- the counters of a callee are cleared

    module _ (l : Label) (at : Place) (arguments : Arguments) (j : ℕ)
        (there : Contains (nodes_in (plain_body unit.body)) (EnterAt l at arguments)) (called : callee_of W i at ≡ Some j)
      where
        abbrev own : NumberedWord
        own = run_by W activities i at

        abbrev place : Location
        place = inner (frame_at scope) own

        abbrev after : Memory
        after = set_at here place zeros

        inside_frame : (q : Location) → are_apart (frame_at scope) q ≡ true → are_apart place q ≡ true
        inside_frame q apart = first_further (frame_at scope) q (member (callee_name own) ∷ []) apart

        memory_apart : remembers ≡ true → are_apart place (remembered_at scope) ≡ true
        memory_apart its =
            inside_frame (remembered_at scope) (apart_flip (remembered_at scope) (frame_at scope) (places.memory its).frame)

        module _ (l' : Label) (at' : Place) (arguments' : Arguments) (j' : ℕ)
            (there' : Contains (nodes_in (plain_body unit.body)) (EnterAt l' at' arguments')) (called' : callee_of W i at' ≡ Some j')
          where
            abbrev n2 : NumberedWord
            n2 = run_by W activities i at'

            abbrev f2 : Location
            f2 = inner (frame_at scope) n2

            abbrev m2 : Location
            m2 = inner (remembered_at scope) n2

            -- those of this callee
            own_counter : at ≡ at' → (k : ℕ) (f' m' : Location) → Nests W activities j' f2 m2 k f' m' → (c : ℕ) →
                scalar_number (value_at after (further f' (member (counter_name c) ∷ []))) ≡ pos (cleared W j frames k c)
            own_counter same k f' m' nests c =
                let number : own ≡ n2 = ap (run_by W activities i) same in
                let callee : j' ≡ j = same_Some j' j (sym called' ∙ (ap (callee_of W i) (sym same) ∙ called)) in
                let far = (nests_beyond W activities j' k f2 m2 f' m' nests).0 in
                let where_it_is : further f' (member (counter_name c) ∷ []) ≡ further place (far.0 ++ member (counter_name c) ∷ []) =
                ap (λ (q : Location). further q (member (counter_name c) ∷ []))
                (far.1 ∙ ap (λ n2. further (inner (frame_at scope) n2) far.0) (sym number))
                ∙ further_twice place far.0 (member (counter_name c) ∷ []) in
                ap (λ (q : Location). value_at after q []) where_it_is
                ∙ (own_zero here place (far.0 ++ member (counter_name c) ∷ []) []
                ∙ sym (ap pos (cleared_own callers clearing structs units entry j frames k
                (subst (λ j. Inside W j k) callee (nests_inside W activities j' k f2 m2 f' m' nests)) c)))

            -- those of another one
            other_counter : (at ≡ at' → ⊥) → (k : ℕ) (f' m' : Location) → Nests W activities j' f2 m2 k f' m' → (c : ℕ) →
                c < length (activity_at W activities k).sizes →
                scalar_number (value_at after (further f' (member (counter_name c) ∷ []))) ≡ pos (cleared W j frames k c)
            other_counter differ k f' m' nests c below =
                let names : bytes_eq (callee_name own) (callee_name n2) ≡ false =
                callees_differ keys placed structs units entry machine activities midway.compiled i unit midway.is_there midway.function.active
                l l' at at' arguments arguments' there there' differ in
                let start = frame_at scope in
                let outside : Inside W j k → ⊥ = λ inside.
                (let same : j ≡ j' = nest.apart i j j' k at at' called called' inside (nests_inside W activities j' k f2 m2 f' m' nests) in
                differ (one_place W i j at at' called (called' ∙ ap Some (sym same)))) in
                beyond_kept place zeros l' at' arguments' j' there' called' start f' (nests_beyond W activities j' k f2 m2 f' m' nests).0
                (member (counter_name c) ∷ [])
                (λ parts.
                or_right (not (same_root start.root start.root))
                (ways_part (start.parts ++ member (callee_name own) ∷ []) (start.parts ++ member (callee_name n2) ∷ parts))
                (behind_front start.parts (member (callee_name own) ∷ []) (member (callee_name n2) ∷ parts)
                ∙ ap (λ same. not same || ways_part [] parts) names)) []
                ∙ ((midway.stands.callees l' at' arguments' j' there' called').counters k f' m' nests c below
                ∙ sym (ap pos (cleared_other callers clearing structs units entry j frames k outside c)))

            counter_so : (k : ℕ) (f' m' : Location) → Nests W activities j' f2 m2 k f' m' → (c : ℕ) →
                c < length (activity_at W activities k).sizes →
                scalar_number (value_at after (further f' (member (counter_name c) ∷ []))) ≡ pos (cleared W j frames k c)
            counter_so k f' m' nests c below = by (same_place at at') refl
              where
                by : (b : Bool) → same_place at at' ≡ b →
                    scalar_number (value_at after (further f' (member (counter_name c) ∷ []))) ≡ pos (cleared W j frames k c)
                by true is = own_counter (same_true at at' is) k f' m' nests c
                by false is =
                    other_counter (λ same. true_not_false (sym (same_place_refl at) ∙ (ap (same_place at) same ∙ is))) k f' m' nests c below

            callee_cleared : MemoryEncodes W activities j' f2 m2 (cleared W j frames) store after
            callee_cleared = record {
              counters = counter_so;
              variables = variables_kept place zeros l' at' arguments' j' there' called' memory_apart;
            }

        -- memory stands for the same pass over cleared frames
        pub cleared_midway : Midway structs units entry machine activities i unit scope (cleared W j frames) store copies r after
        cleared_midway = record {
          compiled = midway.compiled;
          is_there = midway.is_there;
          function = midway.function;
          stands = stands_beside W activities i unit scope frames (cleared W j frames) store copies r here place zeros
              (frame_beside site unit remembers scope places active_site has may_end own) midway.stands callee_cleared;
          fits = midway.fits;
          copies_fit = midway.copies_fit;
          frames_within = clear_within W activities j frames midway.frames_within;
          within = midway.within;
        }

        pub cleared_keeps : PassKeepsFrame site unit remembers scope here after
        cleared_keeps root way older outside =
            set_elsewhere here place zeros root way (lies_further (frame_at scope) (member (callee_name own) ∷ []) root way outside.frame)
