-- The target of a `run` gets the result.
use Rattle.std.proofs.Common.{◌≡◌, ◌⊎◌, inl, inr, ℕ, ℤ, Bool, true, false, List, [], ◌∷◌}
use Rattle.std.proofs.Common.{take, Option, Some, None, refl, sym, ap, ◌∙◌, subst}
use Rattle.std.proofs.lemmas.Option.{same_Some}
use Rattle.std.specs.Prelude.{is_some, option_and_then, pos, slice_get, unwrap_or}
use Rattle.bl_tree.proofs.Basics.{and_first, and_second, index_of}
use Rattle.bl_tree.specs.declared.place.Place.{Place}
use Rattle.bl_tree.specs.declared.scalar.Scalar.{Scalar as ScalarType}
use Rattle.bl_tree.specs.declared.tree.Path.{Path}
use Rattle.bl_tree.specs.declared.tree.StructDef.{StructDef}
use Rattle.bl_tree.specs.declared.tree.Ty.{Ty, out-roll-Ty}
use Rattle.bl_tree.specs.declared.tree.Unit.{Unit as UnitDef}
use Rattle.bl_tree.specs.declared.tree.Var.{Var}
use Rattle.bl_tree.specs.declared.value.Value.{Value}
use Rattle.bl_tree.specs.Program.{IsWellTyped, is_input, structs_stand_from}
use Rattle.bl_tree.specs.Static.{static_of}
use Rattle.bl_tree.specs.Types.{scalar}
use Rattle.bl_tree.specs.Typing.{TypingContext, are_same, is_assignable, is_outlet, is_plain, site_of, target_fits, type_of_path, var_at}
use Rattle.bl_graph_nodes.specs.Nodes.{Arguments, EnterAt, nodes_in}
use Rattle.bl_graph_nodes.specs.Plain.{Label, plain_body}
use Rattle.bl_eval.specs.Meaning.{Scope as Sees, View as Sight, path_meaning_of, read_at}
use Rattle.bl_eval.specs.Standing.{scope_of}
use Rattle.bl_eval.specs.Values as values
use Rattle.bl_eval.specs.Values.{value_fits}
use Rattle.bl_eval.proofs.ActFits.{same_found}
use Rattle.bl_eval.proofs.PartFits.{Fits}
use Rattle.bl_eval.proofs.PassLemmas.{pass_at}
use Rattle.bl_ctext_semantics.specs.Meaning.{Scope, location_c, named_location, runs_c}
use Rattle.bl_ctext_semantics.specs.Memory.{CValue, Location, Memory, scalar_number, set_at, value_at}
use Rattle.bl_ctree.specs.Actions.{Gives, result_at}
use Rattle.bl_ctree.specs.Instances.{Setting, setting_of, unit_at}
use Rattle.bl_ctree.specs.Store.{Frame, Store, number_or_zero, view_at}
use Rattle.bl_ctree_laws.specs.Pending.{deed}
use Rattle.bl_ctree_laws_traces.proofs.OnBounded.Callees.{typed_at}
use Rattle.bl_ctree_laws_confluence.specs.Deeds.Origins.{InstancesHaveCallers}
use Rattle.bl_ctree_laws_typing.specs.Fits.{result_fits}
use Rattle.bl_ctree_laws_typing.proofs.OnViews.Along.{along, along_case, along_leads, Leads as LeadsOn}
use Rattle.bl_ctree_laws_typing.proofs.OnViews.Paths.{path_typed}
use Rattle.bl_emit_acts.specs.Acts.{c_set, is_copied}
use Rattle.bl_emit_acts.specs.Expressions.{stands}
use Rattle.bl_emit_acts.specs.Trees.{c_read}
use Rattle.bl_emit_acts_laws_simulation.specs.Encodes.{Encodes, VariablesEncoded, location_in, number_within, type_after, way_to}
use Rattle.bl_emit_acts_laws_simulation.specs.Laws.{FramesApart, PlacesSimulate, WritesEncode}
use Rattle.bl_emit_acts_laws_simulation.specs.Simulation.{PlaceSimulates}
use Rattle.bl_emit_spec.specs.Activities.{activity_view, copies_of, remembers_any}
use Rattle.bl_emit_spec.specs.Names.{NumberedWord, given_name, given_place}
use Rattle.bl_emit_spec_laws.specs.Registers.Laws.{RegistersKeepApart}
use Rattle.bl_machine.specs.declared.machine.Activity.{Activity as InMachine}
use Rattle.bl_machine_laws.specs.Passes.Follows.{DeedYields}
use Rattle.bl_machine_pass.specs.Registers.{Registers}
use Rattle.bl_machine_pass_laws_typing.proofs.OnFits.NodesFit.{NodeFits, RunFits, body_nodes}
use Rattle.bl_machine_pass_laws_execution.specs.Frames.{Frames}
use Rattle.bl_machine_pass_laws_execution.proofs.OnFresh.Naming.{BeginsNamed, body_named}
use Rattle.bl_emit_spec_laws.specs.Calls.Built.{Activities, activity_at, site_at, unit_number}
use Rattle.bl_emit_spec_laws.specs.Calls.Laws.{Midway, PassKeepsFrame}
use Rattle.bl_emit_spec_laws.specs.Calls.Invariant.{PassRepresents}
use Rattle.bl_emit_spec_laws_nodes.specs.Calling.{RunOf, TargetGiven, TargetsSeen}
use Rattle.bl_emit_spec_laws_nodes.specs.Points.Laws.{Remembering}
use Rattle.bl_emit_spec_laws_nodes.specs.Points.Nodes.{ViewsFit}
use Rattle.bl_emit_spec_laws_nodes.proofs.OnPoints.Besides.{apart, beside, site_is}
use Rattle.bl_emit_spec_laws_nodes.proofs.OnPoints.Sets.{set_after, set_ends}
use Rattle.bl_emit_spec_laws_simulation.proofs.OnRuns.Plain.{plain_path, static_root}
use Rattle.bl_emit_spec_laws_simulation.proofs.OnRuns.Statements.{given_value}
use Rattle.bl_emit_spec_laws_simulation.proofs.OnRuns.Written.{written_keeps, written_stands}
use Rattle.bl_ctree_laws_confluence.proofs.OnDeeds.Activities.{all_at, taken}
use Rattle.bl_emit_spec_laws.proofs.OnActivities.Nested.{unit_there}
use Rattle.bl_emit_acts_laws_simulation.proofs.Acts.{assignable_open}
use Rattle.bl_emit_acts_laws_simulation.proofs.Statements.{Ends}

-- ---- what typing tells of a `run`

module _ (callers : InstancesHaveCallers) (structs : List StructDef) (units : List UnitDef) (entry : ℕ) (keeps : IsWellTyped structs units entry)
    (activities : Activities) (i : ℕ) (unit : UnitDef) (is : unit_at (setting_of structs units entry) i ≡ Some unit)
  where
    abbrev W : Setting
    W = setting_of structs units entry

    abbrev own_site : TypingContext
    own_site = site_of structs (take (unit_number W i) units) unit

    -- a target fits the result of what the `run` calls
    pub target_typed : (l : Label) (at : Place) (arguments : Arguments) (j : ℕ) (other : UnitDef) →
        RunOf W activities i unit l at arguments j other → target_fits own_site other.result arguments.target ≡ true
    target_typed l at arguments j other run =
        let k = unit_number W i in
        let position = index_of (nodes_in (plain_body unit.body)) (EnterAt l at arguments) run.node in
        let fit : RunFits own_site (BeginsNamed structs units entry keeps i) at arguments =
        all_at (NodeFits own_site (BeginsNamed structs units entry keeps i)) (nodes_in (plain_body unit.body)) position.0 (EnterAt l at arguments)
        (body_nodes own_site (BeginsNamed structs units entry keeps i) unit.body
        (typed_at structs [] units k unit keeps.units_stand (unit_there W i unit is)) (body_named structs units entry keeps callers i unit is))
        position.1 in
        let same : fit.callee ≡ other =
        same_Some fit.callee other (sym (taken units k fit.named fit.callee fit.there) ∙ fit.holds j other run.callee run.is_there) in
        subst (λ (callee : UnitDef). target_fits own_site callee.result arguments.target ≡ true) same fit.target

-- ---- a number

module _ (structs : List StructDef) (stand : structs_stand_from 0 structs ≡ true) where
  no_part : (s : ScalarType) (k : ℕ) (ks : List ℕ) → along structs (k ∷ ks) (scalar s) ≡ None
  no_part s k ks = rw out-roll-Ty refl

  no_value : (s : ScalarType) (k : ℕ) (ks : List ℕ) (value : Value) → Fits structs (scalar s) value → values.value_at (k ∷ ks) value ≡ None
  no_value s k ks value fit = by (along_case structs stand (k ∷ ks) (scalar s) value fit)
    where
      by : ((along structs (k ∷ ks) (scalar s) ≡ None) × (values.value_at (k ∷ ks) value ≡ None))
          ⊎ ((c : Ty) × (along structs (k ∷ ks) (scalar s) ≡ Some c) × LeadsOn structs stand (scalar s) c (k ∷ ks) value) →
          values.value_at (k ∷ ks) value ≡ None
      by (inl none) = none.1
      by (inr (c, is, leads)) = absurd (let no : None ≡ Some c = sym (no_part s k ks) ∙ is in cc)

  -- a cell with the number of a value holds it
  pub number_holds : (s : ScalarType) (value : Value) (held : CValue) → Fits structs (scalar s) value → scalar_number held ≡ number_or_zero value →
      Encodes structs (scalar s) value held
  number_holds s value held fit same = record { each = by }
    where
      by : (ks : List ℕ) (n : ℤ) → number_within ks value ≡ Some n → held (way_to structs ks (Some (scalar s))) ≡ n
      by [] n is = same ∙ ap (λ o. unwrap_or o (pos 0)) is
      by (k ∷ ks) n is =
          absurd (let no : None ≡ Some n = sym (ap (option_and_then values.number_in) (no_value s k ks value fit)) ∙ is in cc)

-- ---- the target is set

module _ (frames_apart : FramesApart) (keep : RegistersKeepApart) (structs : List StructDef) (units : List UnitDef) (entry : ℕ)
    (lead : PlacesSimulate structs units entry) (write : WritesEncode structs units entry) (views : ViewsFit structs units entry)
    (machine : List InMachine) (activities : Activities) (remembering : Remembering (setting_of structs units entry) activities)
    (seen : TargetsSeen (setting_of structs units entry) activities) (i : ℕ) (unit : UnitDef) (scope : Scope) (frames : Frames) (store : Store)
    (copies : List Value) (r : Registers) (here : Memory)
    (midway : Midway structs units entry machine activities i unit scope frames store copies r here)
    (l : Label) (at : Place) (arguments : Arguments) (j : ℕ) (other : UnitDef)
    (run : RunOf (setting_of structs units entry) activities i unit l at arguments j other) (n : NumberedWord)
    (told : (value : Value) → is_some other.result ≡ true → result_at store j ≡ Some value →
    scalar_number (value_at here (named_location scope false (given_name n))) ≡ number_or_zero value)
  where
    abbrev w : Setting
    w = setting_of structs units entry

    abbrev k : ℕ
    k = unit_number w i

    abbrev site : TypingContext
    site = site_of structs (take k units) unit

    abbrev copied : ℕ → Bool
    copied = is_copied (copies_of unit)

    abbrev sees : Sees
    sees = scope_of site

    abbrev now : List Value
    now = (view_at w store i).now

    abbrev sight : Sight
    sight = record { now = now; before = copies }

    keeps : IsWellTyped structs units entry
    keeps = midway.compiled.well_typed

    site_same : site_at w activities i ≡ site
    site_same = site_is frames_apart structs units entry views machine activities i unit scope frames store copies r here midway

    abbrev held : CValue
    held = value_at here (named_location scope false (given_name n))

    -- what is left once the target is set
    pub record TargetSet (path : Path) (left : Store) : Type 0 where
      pub after : Memory
      pub ends : Ends (runs_c (c_set (stands (activity_view (activity_at w activities i)).site path).place (c_read (given_place n))) scope here)
          (Some after)
      pub stands : PassRepresents w activities i unit scope frames left copies r after
      pub kept : PassKeepsFrame (site_at w activities i) unit (remembers_any (activity_at w activities i)) scope here after

    -- the result is there
    record Resulting (s : ScalarType) : Type 0 where
      value : Value
      is : result_at store j ≡ Some value
      fits : Fits structs (scalar s) value

    resulting : (s : ScalarType) → other.result ≡ Some s → Resulting s
    resulting s has =
        let frame = midway.fits.each j other run.is_there in
        by frame.frame.result (ap (option_and_then (λ (frame : Frame). frame.result)) frame.is)
        (subst (λ o. result_fits structs o frame.frame.result ≡ true) has frame.fits.result)
      where
        by : (o : Option Value) → result_at store j ≡ o → result_fits structs (Some s) o ≡ true → Resulting s
        by None is fit = absurd (cc)
        by (Some value) is fit = record { value = value; is = is; fits = fit }

    module _ (path : Path) (left : Store) (target : arguments.target ≡ Some path) (done : DeedYields w (deed i at (Gives j (Some path))) store true left)
        (s : ScalarType) (has : other.result ≡ Some s) (outlet : is_outlet site path ≡ true) (typed : type_of_path site path ≡ Some (scalar s))
      where
        plain : is_plain path ≡ true
        plain = and_first (is_plain path) (is_assignable site path) outlet

        abbrev root : ℕ
        root = (static_of path).root

        abbrev fields : List ℕ
        fields = (static_of path).fields

        abbrev value : Value
        value = (resulting s has).value

        target_given : TargetGiven w i j path value store left
        target_given = record {
          unit = unit;
          is_there = midway.is_there;
          label = l;
          at = at;
          arguments = arguments;
          node = run.node;
          target = target;
          callee = run.callee;
          fitting = midway.fits;
          result = (resulting s has).is;
          done = done;
        }

        -- there is a value at the path
        found : (old : Value) × (option_and_then (read_at (path_meaning_of sees path).root now) ((path_meaning_of sees path).positions sight) ≡ Some old)
        found =
            let spot = plain_path sees sight copied path plain in
            let leads = path_typed site path (scalar s) plain typed in
            let stored = pass_at (λ (var : Var). value_fits structs var.ty) unit.vars now root leads.var
            (views i unit store midway.is_there midway.fits) leads.root in
            let on = along_leads structs keeps.structs_stand fields leads.var.ty (scalar s) stored.0 stored.2 leads.leads in (
              on.old,
              ap (option_and_then (read_at (path_meaning_of sees path).root now)) spot.positions
                  ∙ (ap (λ root. option_and_then (values.value_at fields) (slice_get now root)) spot.root
                  ∙ (ap (option_and_then (values.value_at fields)) stored.1 ∙ on.at)),
            )

        set_by : (o : Option Location) → (location_c (stands site path).place scope here).answer ≡ o →
            PlaceSimulates site sight scope (scalar s) o (path_meaning_of sees path) → TargetSet path left
        set_by None answer lost = absurd (let no : None ≡ Some found.0 = sym lost ∙ found.1 in cc)
        set_by (Some place) answer r' =
            let spot = plain_path sees sight copied path plain in
            let same_ks : r'.ks ≡ fields = same_Some r'.ks fields (sym r'.are ∙ spot.positions) in
            let known : var_at site root ≡ Some r'.var = ap (var_at site) (sym spot.root) ∙ r'.is_there in
            let open_var : is_input r'.var.role ≡ false =
            assignable_open site path r'.var (and_second (is_plain path) (is_assignable site path) outlet)
            (ap (var_at site) (sym (static_root sees sight copied path)) ∙ known) in
            let way = way_to structs fields (Some r'.var.ty) in
            let is_at : place ≡ location_in scope site root way =
            r'.at ∙ (ap (λ root. location_in scope site root (way_to structs r'.ks (Some r'.var.ty))) spot.root
            ∙ ap (λ ks. location_in scope site root (way_to structs ks (Some r'.var.ty))) same_ks) in
            let variables : VariablesEncoded site now scope here = subst (λ (site : TypingContext). VariablesEncoded site now scope here) site_same midway.stands.variables in
            let apart_here = apart frames_apart structs units entry views machine activities i unit scope frames store copies r here midway in
            let fresh : VariablesEncoded site (view_at w left i).now scope (set_at here (location_in scope site root way) held) =
            write k unit scope here now (view_at w left i).now root r'.var fields (scalar s) value held keeps
            (record {
              is_there = midway.function.is_there;
              fits = views i unit store midway.is_there midway.fits;
              variables = variables;
              apart = apart_here.variables;
              known = known;
              written = open_var;
              typed = ap (λ ks. type_after structs ks (Some r'.var.ty)) (sym same_ks) ∙ r'.typed;
              holds = number_holds structs keeps.structs_stand s value held (resulting s has).fits
                  (told value (ap is_some has) (resulting s has).is);
              put = seen.own i j path value store left target_given;
            }) in
            record {
              after = set_at here (location_in scope site root way) held;
              ends = subst (λ (site : TypingContext). Ends (runs_c (c_set (stands site path).place (c_read (given_place n))) scope here)
                  (Some (set_at here (location_in scope (site_of structs (take k units) unit) root way) held))) (sym site_same)
                  (subst (λ (o : Option Location). Ends (runs_c (c_set (stands site path).place (c_read (given_place n))) scope here)
                  (set_after scope here o (Some held))) (answer ∙ ap Some is_at)
                  (subst (λ (o : Option CValue). Ends (runs_c (c_set (stands site path).place (c_read (given_place n))) scope here)
                  (set_after scope here (location_c (stands site path).place scope here).answer o)) (given_value scope here n)
                  (set_ends scope here (stands site path).place (c_read (given_place n)))));
              stands = written_stands frames_apart keep structs units entry views machine activities remembering i unit scope frames store copies r here
                  midway left root r'.var way held known open_var fresh
                  (λ at c k f m f' m' x var called nests there is_held.
                  seen.inner i j path value store left target_given at c k f m f' m' x var called nests there is_held)
                  (seen.result i j path value store left target_given);
              kept = written_keeps frames_apart keep structs units entry views machine activities remembering i unit scope frames store copies r here
                  midway left root r'.var way held known open_var;
            }

        target_so : TargetSet path left
        target_so =
            let spot = plain_path sees sight copied path plain in
            set_by (location_c (stands site path).place scope here).answer refl
            (lead k unit path (scalar s) sight copied scope here keeps
            (beside frames_apart structs units entry views machine activities i unit scope frames store copies r here midway) typed spot.copies)

    -- so it is where typing tells that the target fits
    pub target_comes : (path : Path) (left : Store) → arguments.target ≡ Some path → DeedYields w (deed i at (Gives j (Some path))) store true left →
        target_fits site other.result (Some path) ≡ true → TargetSet path left
    target_comes path left target done fit = by other.result refl fit
      where
        by : (o : Option ScalarType) → other.result ≡ o → target_fits site o (Some path) ≡ true → TargetSet path left
        by None has fit = absurd (cc)
        by (Some s) has fit =
            let ty = same_found (Some (scalar s)) (type_of_path site path)
            (and_second (is_outlet site path) (are_same (Some (scalar s)) (type_of_path site path)) fit) in
            target_so path left target done s has (and_first (is_outlet site path) (are_same (Some (scalar s)) (type_of_path site path)) fit)
            (ty.2 ∙ sym ty.1)
