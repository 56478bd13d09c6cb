-- What is written to a variable in the middle of a pass leaves the rest of what memory holds.
use Rattle.std.proofs.Common.{◌≡◌, ℕ, Bool, true, false, List, [], ◌∷◌, ◌++◌, Contains, take, Some, sym, ap, ◌∙◌, subst}
use Rattle.std.proofs.lemmas.List.{append-nil}
use Rattle.std.specs.Prelude.{slice_get}
use Rattle.bl_tree.specs.declared.place.Place.{Place}
use Rattle.bl_tree.specs.declared.tree.StructDef.{StructDef}
use Rattle.bl_tree.specs.declared.tree.Unit.{Unit as UnitDef}
use Rattle.bl_tree.specs.declared.tree.Var.{Var}
use Rattle.bl_tree.specs.declared.value.Value.{Value}
use Rattle.bl_tree.specs.Program.{is_input}
use Rattle.bl_tree.specs.Typing.{TypingContext, is_activity, site_of, var_at}
use Rattle.bl_graph_nodes.specs.Nodes.{Arguments, EnterAt, nodes_in}
use Rattle.bl_graph_nodes.specs.Plain.{Label, plain_body}
use Rattle.bl_ctext_semantics.specs.Meaning.{Scope, further}
use Rattle.bl_ctext_semantics.specs.Memory.{CValue, Location, Memory, Projection, Root, member, set_at, value_at}
use Rattle.bl_ctree.specs.Actions.{result_at}
use Rattle.bl_ctree.specs.Instances.{Setting, callee_of, setting_of}
use Rattle.bl_ctree.specs.Store.{Store, view_at}
use Rattle.bl_emit_acts.specs.Acts.{is_copied}
use Rattle.bl_emit_acts.specs.declared.home.Home.TheVariants.{Held}
use Rattle.bl_emit_acts.specs.Types.{variable_name}
use Rattle.bl_emit_acts_laws_simulation.specs.Acts.{Foreign, copy_location, lies_in}
use Rattle.bl_emit_acts_laws_simulation.specs.Frames.{remembered_at}
use Rattle.bl_emit_acts_laws_simulation.specs.Encodes.{CopiesEncoded, VariablesEncoded, are_apart, home_at, lead_in, location_in, start_in}
use Rattle.bl_emit_acts_laws_simulation.specs.Laws.{FramesApart}
use Rattle.bl_emit_spec.specs.Activities.{copies_of, remembers_any}
use Rattle.bl_emit_spec.specs.Names.{NumberedWord, callee_name, counter_name}
use Rattle.bl_emit_spec_laws.specs.Registers.Laws.{RegistersKeepApart}
use Rattle.bl_emit_spec_laws.specs.Registers.Registers.{RegistersApart, RegistersBeside, frame_at, register_at}
use Rattle.bl_machine.specs.declared.machine.Activity.{Activity as InMachine}
use Rattle.bl_machine_pass.specs.Registers.{Registers}
use Rattle.bl_machine_pass_laws_execution.specs.Frames.{Frames}
use Rattle.bl_emit_spec_laws.specs.Calls.Built.{Activities, activity_at, registered, run_by, site_at, unit_number}
use Rattle.bl_emit_spec_laws.specs.Calls.Laws.{Midway, PassKeepsFrame}
use Rattle.bl_emit_spec_laws.specs.Calls.Memories as memories
use Rattle.bl_emit_spec_laws.specs.Calls.Memories.{MemoryEncodes, Nests, inner}
use Rattle.bl_emit_spec_laws.specs.Calls.Invariant.{PassRepresents, PlacesAreSeparate, result_at_c}
use Rattle.bl_emit_spec_laws_nodes.specs.Points.Laws.{Remembering}
use Rattle.bl_emit_spec_laws_nodes.specs.Points.Nodes.{ViewsFit}
use Rattle.bl_emit_spec_laws_nodes.proofs.OnPoints.Apart.{Beyond, first_further, further_twice, inner_is, lies_further, nests_beyond}
use Rattle.bl_emit_spec_laws_nodes.proofs.OnPoints.Besides.{apart, site_is}
use Rattle.bl_emit_spec_laws_nodes.proofs.OnPoints.Changes.{holds_same, registers_keep}
use Rattle.bl_emit_spec_laws_nodes.proofs.OnPoints.Foreign.{foreign_counter, foreign_memory, foreign_outside, foreign_register, foreign_result}
use Rattle.bl_emit_spec_laws_simulation.proofs.OnRuns.Placing.{kept_at}
use Rattle.bl_emit_acts_laws_simulation.proofs.Cells.{set_elsewhere}

-- a part of a variable lies further on than the variable
pub location_more : (scope : Scope) (site : TypingContext) (k : ℕ) (way : List Projection) →
    location_in scope site k way ≡ further (location_in scope site k []) way
location_more scope site k way =
    let start = start_in scope (is_activity site.kind) (home_at site k) site.vars k in
    let lead = lead_in (home_at site k) site.vars k in
    ap (λ front. further start (front ++ way)) (sym (append-nil lead)) ∙ sym (further_twice start (lead ++ []) way)

module _ (frames_apart : FramesApart) (keep : RegistersKeepApart) (structs : List StructDef) (units : List UnitDef) (entry : ℕ)
    (views : ViewsFit structs units entry) (machine : List InMachine) (activities : Activities)
    (remembering : Remembering (setting_of structs units entry) activities) (i : ℕ) (unit : UnitDef) (scope : Scope) (frames : Frames) (store : Store)
    (copies : List Value) (r : Registers) (here : Memory)
    (midway : Midway structs units entry machine activities i unit scope frames store copies r here)
  where
    abbrev w : Setting
    w = setting_of structs units entry

    abbrev k : ℕ
    k = unit_number w i

    abbrev site : TypingContext
    site = site_of structs (take k units) unit

    abbrev copied : ℕ → Bool
    copied = is_copied (copies_of unit)

    abbrev remembers : Bool
    remembers = remembers_any (activity_at w activities i)

    site_same : site_at w activities i ≡ site
    site_same = site_is frames_apart structs units entry views machine activities i unit scope frames store copies r here midway

    places : PlacesAreSeparate site unit remembers scope
    places = subst (λ (site : TypingContext). PlacesAreSeparate site unit remembers scope) site_same midway.function.places

    held_here : (x : ℕ) (var : Var) → var_at site x ≡ Some var → home_at site x ≡ Held → remembers ≡ true
    held_here =
        subst (λ (site : TypingContext). (x : ℕ) (var : Var) → var_at site x ≡ Some var → home_at site x ≡ Held → remembers ≡ true) site_same
        (λ x var there held.
        remembering.each i i (frame_at scope) (remembered_at scope) (frame_at scope) (remembered_at scope) x var memories.here there held)

    registers_stand : RegistersApart (registered (activity_at w activities i)) scope
        × RegistersBeside (registered (activity_at w activities i)) site scope
    registers_stand =
        registers_keep keep site unit remembers scope (activity_at w activities i) (midway.compiled.built.unit k unit midway.function.is_there)
        (midway.compiled.registers k unit midway.function.is_there midway.function.active) places

    module _ (left : Store) (root : ℕ) (var : Var) (way : List Projection) (held : CValue) (known : var_at site root ≡ Some var)
        (open_var : is_input var.role ≡ false)
      where
        abbrev target : Location
        target = location_in scope site root way

        abbrev after : Memory
        after = set_at here target held

        foreign_kept : (at : Root) (to : List Projection) → Foreign site copied scope at to → after at to ≡ here at to
        foreign_kept at to foreign =
            set_elsewhere here target held at to
            (ap (λ (p : Location). lies_in p at to) (location_more scope site root way)
            ∙ lies_further (location_in scope site root []) way at to (foreign.variables root var known open_var))

        same_at : (place : Location) → ((to : List Projection) → Foreign site copied scope place.root (place.parts ++ to)) → (to : List Projection) →
            value_at after place to ≡ value_at here place to
        same_at place foreign to = foreign_kept place.root (place.parts ++ to) (foreign to)

        -- ---- what is called

        module _ (inside : (at : Place) (c k : ℕ) (f m f' m' : Location) (x : ℕ) (var : Var) → callee_of w i at ≡ Some c →
            Nests w activities c f m k f' m' → var_at (site_at w activities k) x ≡ Some var → home_at (site_at w activities k) x ≡ Held →
            slice_get (view_at w left k).now x ≡ slice_get (view_at w store k).now x) (l : Label) (at : Place) (arguments : Arguments) (j : ℕ)
            (there : Contains (nodes_in (plain_body unit.body)) (EnterAt l at arguments)) (called : callee_of w i at ≡ Some j)
          where
            abbrev n : NumberedWord
            n = run_by w activities i at

            abbrev f : Location
            f = inner (frame_at scope) n

            abbrev q : Location
            q = inner (remembered_at scope) n

            counter_same : (f' : Location) → Beyond f f' → (more to : List Projection) →
                value_at after (further f' more) to ≡ value_at here (further f' more) to
            counter_same f' far more =
                same_at (further f' more)
                (subst (λ (place : Location). (to : List Projection) → Foreign site copied scope place.root (place.parts ++ to))
                (sym (inner_is (frame_at scope) f' n far more))
                (foreign_counter site unit remembers scope places midway.function.active held_here copied (member (callee_name n) ∷ (far.0 ++ more))))

            variable_same : remembers ≡ true → (m' : Location) → Beyond q m' → (more to : List Projection) →
                value_at after (further m' more) to ≡ value_at here (further m' more) to
            variable_same its m' far more =
                same_at (further m' more)
                (subst (λ (place : Location). (to : List Projection) → Foreign site copied scope place.root (place.parts ++ to))
                (sym (inner_is (remembered_at scope) m' n far more))
                (foreign_memory site unit remembers scope places midway.function.active held_here copied its n (far.0 ++ more)))

            inner_holds : MemoryEncodes w activities j f q frames left after
            inner_holds = record {
              counters = λ x f' m' nests c below.
                  counter_same f' (nests_beyond w activities j x f q f' m' nests).0 (member (counter_name c) ∷ []) []
                  ∙ (midway.stands.callees l at arguments j there called).counters x f' m' nests c below;
              variables = λ x f' m' nests v var value known held now.
                  holds_same w.structs var.ty value here after (further m' (member (variable_name (site_at w activities x).vars v) ∷ []))
                  (variable_same
                  (remembering.each i x (frame_at scope) (remembered_at scope) f' m' v var
                  (memories.inside midway.is_there there called nests) known held)
                  m' (nests_beyond w activities j x f q f' m' nests).1 (member (variable_name (site_at w activities x).vars v) ∷ []))
                  ((midway.stands.callees l at arguments j there called).variables x f' m' nests v var value known held
                  (sym (inside at j x f q f' m' v var called nests known held) ∙ now));
            }

        -- ---- all of it

        copies_kept : CopiesEncoded site copies copied scope after
        copies_kept =
            let apart_here = apart frames_apart structs units entry views machine activities i unit scope frames store copies r here midway in
            let before = subst (λ (site : TypingContext). CopiesEncoded site copies copied scope here) site_same midway.stands.copied in
            record {
              each = λ x v value its there is.
                  holds_same structs v.ty value here after (copy_location scope site.vars x)
                  (kept_at here target held (copy_location scope site.vars x)
                  (subst (λ (p : Location). are_apart p (copy_location scope site.vars x) ≡ true)
                  (sym (location_more scope site root way))
                  (first_further (location_in scope site root []) (copy_location scope site.vars x) way
                  (apart_here.copies.variables root x var known its))))
                  (before.each x v value its there is);
            }

        -- the store now has other values of the instance's variables, which memory holds, and the rest as it was
        pub written_stands : VariablesEncoded site (view_at w left i).now scope after →
            ((at : Place) (c k : ℕ) (f m f' m' : Location) (x : ℕ) (var : Var) → callee_of w i at ≡ Some c → Nests w activities c f m k f' m' →
            var_at (site_at w activities k) x ≡ Some var → home_at (site_at w activities k) x ≡ Held →
            slice_get (view_at w left k).now x ≡ slice_get (view_at w store k).now x) → result_at left i ≡ result_at store i →
            PassRepresents w activities i unit scope frames left copies r after
        written_stands variables inside result = record {
          registers = record {
            each = λ x its.
                same_at (register_at (registered (activity_at w activities i)) scope x)
                (foreign_register site unit remembers scope places midway.function.active held_here copied
                (registered (activity_at w activities i)) registers_stand.0 registers_stand.1 x its) []
                ∙ midway.stands.registers.each x its;
          };
          variables = subst (λ (site : TypingContext). VariablesEncoded site (view_at w left i).now scope after) (sym site_same) variables;
          copied = subst (λ (site : TypingContext). CopiesEncoded site copies copied scope after) (sym site_same) copies_kept;
          callees = λ l at arguments j there called. inner_holds inside l at arguments j there called;
          result = λ value over one told.
              same_at (result_at_c scope) (foreign_result site unit remembers scope places midway.function.active held_here copied one) []
              ∙ midway.stands.result value over one (sym result ∙ told);
        }

        pub written_keeps : PassKeepsFrame (site_at w activities i) unit remembers scope here after
        written_keeps =
            subst (λ (site : TypingContext). PassKeepsFrame site unit remembers scope here after) (sym site_same)
            (λ at to older outside.
            foreign_kept at to (foreign_outside site unit remembers scope places midway.function.active held_here copied at to older outside))
