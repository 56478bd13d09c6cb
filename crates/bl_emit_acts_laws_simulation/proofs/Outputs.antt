-- The outputs of a call: the places to which their paths lead, what stands there, and how they keep apart.
use Rattle.std.proofs.Common.{◌≡◌, ℕ, Bool, true, false, not, ◌||◌, List, [], ◌∷◌, map, take, Option, Some, None, refl, sym, ap, ap₂}
use Rattle.std.proofs.Common.{◌∙◌, subst, IfSome}
use Rattle.std.proofs.lemmas.Bool.{eqb-true}
use Rattle.std.proofs.lemmas.Option.{same_Some}
use Rattle.std.specs.Prelude.{nat_eq, option_and_then, option_map, slice_get}
use Rattle.std.proofs.lemmas.Bool.{and_from, or_right}
use Rattle.bl_tree.proofs.Basics.{and_first, and_second}
use Rattle.bl_tree.specs.declared.tree.Path.{Path}
use Rattle.bl_tree.specs.declared.tree.StructDef.{StructDef}
use Rattle.bl_tree.specs.declared.tree.Ty.{Ty}
use Rattle.bl_tree.specs.declared.tree.Unit.{Unit as UnitDef}
use Rattle.bl_tree.specs.declared.tree.Var.{Var}
use Rattle.bl_tree.specs.declared.value.Value.{Value}
use Rattle.bl_tree.specs.Program.{IsWellTyped, is_input}
use Rattle.bl_tree.specs.Reduce.{all_of}
use Rattle.bl_tree.specs.Types.{same_type, scalar_in}
use Rattle.bl_tree.specs.Typing.{TypingContext, is_assignable, is_outlet, is_plain, site_of, type_of_path, types_match, var_at}
use Rattle.bl_eval.specs.declared.datum.Datum.{Datum}
use Rattle.bl_eval.specs.Functions.{callees_of, scope_among}
use Rattle.bl_eval.specs.Meaning.{PathMeaning, Scope as Sees, View, datum_of, path_meaning_of, plain, read_at, reading, values_of}
use Rattle.bl_eval.specs.Values.{value_at, value_fits, values_fit}
use Rattle.bl_eval.proofs.ExprFits.{Sound, SpotFits, spot_fits}
use Rattle.bl_eval.proofs.FitLemmas.{same_type_is}
use Rattle.bl_eval.proofs.MeaningLemmas.{spot_out}
use Rattle.bl_eval.proofs.PartFits.{Fits}
use Rattle.bl_eval.proofs.PassLemmas.{Found, pass_at}
use Rattle.bl_eval.proofs.UnitFits.{sound_at}
use Rattle.bl_ctext_semantics.specs.Memory.{Location, Memory, Projection, same_root}
use Rattle.bl_ctext_semantics.specs.Memory as memory
use Rattle.bl_ctext_semantics.specs.Meaning.{ArgumentValue, Scope, by_address, location_c}
use Rattle.bl_emit_acts.specs.Acts.{is_copied, output_arg}
use Rattle.bl_emit_acts.specs.Expressions.{stands}
use Rattle.bl_emit_acts_laws_simulation.specs.Acts.{OutputsEncoded}
use Rattle.bl_emit_acts_laws_simulation.specs.Encodes.{Encodes, are_apart, copied_in_path, location_in, way_to, ways_part}
use Rattle.bl_emit_acts_laws_simulation.specs.Laws.{BesideActs}
use Rattle.bl_emit_acts_laws_simulation.specs.Simulation.{PlaceSimulates}
use Rattle.bl_emit_acts_laws_simulation.proofs.Acts.{assignable_open}
use Rattle.bl_emit_acts_laws_simulation.proofs.Arguments.{pass_all, passes_address}
use Rattle.bl_emit_acts_laws_simulation.proofs.Cells.{apart_flip, apart_inside, location_along}
use Rattle.bl_emit_acts_laws_simulation.proofs.Evaluated.{passes}
use Rattle.bl_emit_acts_laws_simulation.proofs.Expressions.{lies_fit, reached_holds, spot_value}
use Rattle.bl_emit_acts_laws_simulation.proofs.Outlets.{Outlet, behind_front, outlet}
use Rattle.bl_emit_acts_laws_simulation.proofs.Places.{listed-answer}
use Rattle.bl_emit_acts_laws_simulation.proofs.Whole.{places}
use Rattle.bl_eval.proofs.MeaningLemmas.{plain_datum}

module _ (structs : List StructDef) (units : List UnitDef) (entry : ℕ) (k : ℕ) (unit : UnitDef) (view : View) (copies : List Bool) (scope : Scope)
    (here : Memory) (keeps : IsWellTyped structs units entry) (b : BesideActs structs units k unit view (is_copied copies) scope here) where
  abbrev my_site : TypingContext
  my_site = site_of structs (take k units) unit

  abbrev my_sees : Sees
  my_sees = scope_among structs (callees_of structs (take k units)) unit

  abbrev pub spot : Path → PathMeaning
  spot path = path_meaning_of my_sees path

  abbrev pub OutletAt : Path → Ty → Type 0
  OutletAt path ty = Outlet my_site keeps.structs_stand my_sees view path ty

  sound : Sound structs (take k units) unit (callees_of structs (take k units))
  sound = sound_at structs units entry k unit keeps b.beside.is_there

  -- ---- places in variables that keep apart

  pub value_now : (root : ℕ) (var : Var) → var_at my_site root ≡ Some var → Found
      (λ (var : Var). value_fits structs var.ty) var (slice_get view.now root)
  value_now root var there = pass_at (λ (var : Var). value_fits structs var.ty) unit.vars view.now root var b.beside.fitting.now there

  -- two places in variables, of which the first may be written, have nothing in common where the variables differ or the ways part
  pub roots_apart : (r s : ℕ) (a c : Var) (first second : List Projection) → var_at my_site r ≡ Some a → var_at my_site s ≡ Some c →
      is_input a.role ≡ false → (nat_eq r s ≡ true → ways_part first second ≡ true) →
      are_apart (location_in scope my_site r first) (location_in scope my_site s second) ≡ true
  roots_apart r s a c first second there other writable same = by (nat_eq r s) refl
    where
      by : (is : Bool) → nat_eq r s ≡ is → are_apart (location_in scope my_site r first) (location_in scope my_site s second) ≡ true
      by false is =
          apart_flip (location_in scope my_site s second) (location_in scope my_site r first)
          (apart_inside scope my_site s second (location_in scope my_site r first)
          (apart_flip (location_in scope my_site r first) (location_in scope my_site s [])
          (apart_inside scope my_site r first (location_in scope my_site s []) (b.apart.each r s a c there other writable is))))
      by true is =
          let base = location_in scope my_site r [] in
          let parts : ways_part (location_in scope my_site r first).parts (location_in scope my_site r second).parts ≡ true =
          ap₂ ways_part (location_along scope my_site r first) (location_along scope my_site r second)
          ∙ (behind_front base.parts first second ∙ same is) in
          subst (λ s. are_apart (location_in scope my_site r first) (location_in scope my_site s second) ≡ true) (eqb-true r s is)
          (or_right (not (same_root base.root base.root)) (ways_part (location_in scope my_site r first).parts (location_in scope my_site r second).parts) parts)

  -- ---- one output

  pub record OutputAt (path : Path) (var : Var) : Type 0 where
    pub leads : OutletAt path var.ty
    pub writable : is_input leads.var.role ≡ false
    pub path_fits : SpotFits structs unit.vars view var.ty (spot path)
    pub place : Location
    pub answer : (location_c (stands my_site path).place scope here).answer ≡ Some place
    pub at : place ≡ location_in scope my_site (spot path).root (way_to structs leads.ks (Some leads.var.ty))
    pub value : Value
    pub reads : reading (spot path) view ≡ Some (datum_of (scalar_in var.ty) value)
    pub fits : Fits structs var.ty value
    pub holds : Encodes structs var.ty value (memory.value_at here place)

  spot_is : (path : Path) (ty : Ty) → type_of_path my_site path ≡ Some ty → SpotFits structs unit.vars view ty (spot path)
  spot_is = spot_fits structs (take k units) unit (callees_of structs (take k units)) sound view b.beside.fitting.now b.beside.fitting.before

  output_by : (path : Path) (var : Var) (leads : OutletAt path var.ty) → is_input leads.var.role ≡ false → type_of_path my_site path ≡ Some var.ty →
      (at : Option Location) → (location_c (stands my_site path).place scope here).answer ≡ at → PlaceSimulates my_site view scope var.ty at (spot path) →
      OutputAt path var
  output_by path var leads writable typed None is lost =
      let root = (spot path).root in
      let stored = value_now root leads.var leads.is_there in
      let lies = leads.lies stored.0 stored.2 in
      let found : option_and_then (read_at root view.now) ((spot path).positions view) ≡ Some lies.0 =
      ap (option_and_then (read_at root view.now)) leads.positions ∙ (ap (option_and_then (value_at leads.ks)) stored.1 ∙ lies.1) in
      absurd (none_is lies.0 (sym lost ∙ found))
    where
      none_is : (value : Value) → None ≡ Some value → ⊥
      none_is value h = cc
  output_by path var leads writable typed (Some place) is r =
      let same : r.ks ≡ leads.ks = same_Some r.ks leads.ks (sym r.are ∙ leads.positions) in
      let one : r.var ≡ leads.var = same_Some r.var leads.var (sym r.is_there ∙ leads.is_there) in
      let read : option_and_then (read_at (spot path).root view.now) ((spot path).positions view) ≡ Some r.value =
      ap (option_and_then (read_at (spot path).root view.now)) r.are ∙ r.is in
      let stored = value_now (spot path).root leads.var leads.is_there in
      record {
        leads = leads;
        writable = writable;
        path_fits = spot_is path var.ty typed;
        place = place;
        answer = is;
        at = r.at ∙ ap₂ (λ ks (v : Var). location_in scope my_site (spot path).root (way_to structs ks (Some v.ty))) same one;
        value = r.value;
        reads = spot_value structs (take k units) unit (callees_of structs (take k units)) sound view b.beside.fitting.now b.beside.fitting.before
            (is_copied copies) scope here b.beside.variables b.beside.live b.beside.copies b.beside.functions var.ty (spot path) place
            (spot_is path var.ty typed).is_typed r;
        fits = subst (λ o. IfSome o (Fits structs var.ty)) read
            (lies_fit structs (take k units) unit (callees_of structs (take k units)) sound view b.beside.fitting.now b.beside.fitting.before
            (is_copied copies) scope here b.beside.variables b.beside.live b.beside.copies b.beside.functions path var.ty typed);
        holds = reached_holds structs (take k units) unit (callees_of structs (take k units)) sound view b.beside.fitting.now b.beside.fitting.before
            (is_copied copies) scope here b.beside.variables b.beside.live b.beside.copies b.beside.functions var.ty (spot path).root
            ((spot path).positions view) place r;
      }

  output_at : (path : Path) (var : Var) → is_outlet my_site path ≡ true → type_of_path my_site path ≡ Some var.ty →
      copied_in_path (is_copied copies) path ≡ true → OutputAt path var
  output_at path var fits typed named =
      let leads = outlet my_site keeps.structs_stand my_sees view path var.ty (and_first (is_plain path) (is_assignable my_site path) fits) typed in
      output_by path var leads
      (assignable_open my_site path leads.var (and_second (is_plain path) (is_assignable my_site path) fits)
      (sym (ap (λ (spot : PathMeaning). var_at my_site spot.root) (spot_out my_sees path)) ∙ leads.is_there))
      typed (location_c (stands my_site path).place scope here).answer refl
      (places structs units entry k unit path var.ty view (is_copied copies) scope here keeps b.beside typed named)

  -- ---- all of them

  abbrev pub OutputsAt : List Path → List Var → Type 0
  OutputsAt [] [] = Unit {0}
  OutputsAt (path ∷ paths) (var ∷ vars) = OutputAt path var × OutputsAt paths vars
  OutputsAt _ _ = ⊥

  outputs_first : (path : Path) (paths : List Path) (var : Var) (vars : List Var) (typed : Option Ty) → type_of_path my_site path ≡ typed →
      types_match (typed ∷ map (type_of_path my_site) paths) (var ∷ vars) ≡ true →
      (type_of_path my_site path ≡ Some var.ty) × (types_match (map (type_of_path my_site) paths) vars ≡ true)
  outputs_first path paths var vars None is matched = absurd (cc)
  outputs_first path paths var vars (Some ty) is matched = (
    is ∙ ap Some (same_type_is ty var.ty (and_first (same_type ty var.ty) (types_match (map (type_of_path my_site) paths) vars) matched)),
    and_second (same_type ty var.ty) (types_match (map (type_of_path my_site) paths) vars) matched,
  )

  pub outputs_at : (paths : List Path) (vars : List Var) → types_match (map (type_of_path my_site) paths) vars ≡ true →
      all_of (map (is_outlet my_site) paths) ≡ true → all_of (map (copied_in_path (is_copied copies)) paths) ≡ true → OutputsAt paths vars
  outputs_at [] [] matched all named = tt
  outputs_at [] (var ∷ vars) matched all named = absurd (cc)
  outputs_at (path ∷ paths) [] matched all named = absurd (nothing (type_of_path my_site path) matched)
    where
      nothing : (o : Option Ty) → types_match (o ∷ map (type_of_path my_site) paths) [] ≡ true → ⊥
      nothing None h = cc
      nothing (Some ty) h = cc
  outputs_at (path ∷ paths) (var ∷ vars) matched all named =
      let first = outputs_first path paths var vars (type_of_path my_site path) refl matched in (
        output_at path var (and_first (is_outlet my_site path) (all_of (map (is_outlet my_site) paths)) all) first.0
            (and_first (copied_in_path (is_copied copies) path) (all_of (map (copied_in_path (is_copied copies)) paths)) named),
        outputs_at paths vars first.1 (and_second (is_outlet my_site path) (all_of (map (is_outlet my_site) paths)) all)
            (and_second (copied_in_path (is_copied copies) path) (all_of (map (copied_in_path (is_copied copies)) paths)) named),
      )

  abbrev pub places_at : (paths : List Path) (vars : List Var) → OutputsAt paths vars → List Location
  places_at [] [] o = []
  places_at (path ∷ paths) (var ∷ vars) o = o.0.place ∷ places_at paths vars o.1
  places_at [] (var ∷ vars) o = []
  places_at (path ∷ paths) [] o = []

  abbrev pub values_at : (paths : List Path) (vars : List Var) → OutputsAt paths vars → List Value
  values_at [] [] o = []
  values_at (path ∷ paths) (var ∷ vars) o = o.0.value ∷ values_at paths vars o.1
  values_at [] (var ∷ vars) o = []
  values_at (path ∷ paths) [] o = []

  passes_output : (path : Path) (place : Location) → (location_c (stands my_site path).place scope here).answer ≡ Some place →
      (passes (output_arg my_site path) scope here).answer ≡ Some (by_address place)
  passes_output path place is = passes_address structs scope here (stands my_site path).place ∙ ap (option_map by_address) is

  pub pass_outputs : (paths : List Path) (vars : List Var) (o : OutputsAt paths vars) →
      (pass_all structs scope here (map (output_arg my_site) paths)).answer ≡ Some (map by_address (places_at paths vars o))
  pass_outputs [] [] o = refl
  pass_outputs [] (var ∷ vars) o = absurd o
  pass_outputs (path ∷ paths) [] o = absurd o
  pass_outputs (path ∷ paths) (var ∷ vars) o =
      listed-answer (passes (output_arg my_site path) scope here) (pass_all structs scope here (map (output_arg my_site) paths))
      ∙ ap₂ (λ a rest. option_and_then (λ (a : ArgumentValue). option_map (λ others. a ∷ others) rest) a)
      (passes_output path o.0.place o.0.answer) (pass_outputs paths vars o.1)

  pub outputs_read : (paths : List Path) (vars : List Var) (o : OutputsAt paths vars) →
      values_of (map reading (map spot paths)) view ≡ Some (values_at paths vars o)
  outputs_read [] [] o = refl
  outputs_read [] (var ∷ vars) o = absurd o
  outputs_read (path ∷ paths) [] o = absurd o
  outputs_read (path ∷ paths) (var ∷ vars) o =
      ap₂ (λ rest datum. option_and_then (λ (datum : Datum). option_map (λ values. plain datum ∷ values) rest) datum)
      (outputs_read paths vars o.1) o.0.reads
      ∙ ap (λ value. Some (value ∷ values_at paths vars o.1)) (plain_datum (scalar_in var.ty) o.0.value)

  pub outputs_fit : (paths : List Path) (vars : List Var) (o : OutputsAt paths vars) → values_fit structs vars (values_at paths vars o) ≡ true
  outputs_fit [] [] o = refl
  outputs_fit [] (var ∷ vars) o = absurd o
  outputs_fit (path ∷ paths) [] o = absurd o
  outputs_fit (path ∷ paths) (var ∷ vars) o =
      and_from (value_fits structs var.ty o.0.value) (values_fit structs vars (values_at paths vars o.1)) o.0.fits (outputs_fit paths vars o.1)

  pub outputs_hold : (paths : List Path) (vars : List Var) (o : OutputsAt paths vars) →
      OutputsEncoded structs here vars (values_at paths vars o) (places_at paths vars o)
  outputs_hold [] [] o = tt
  outputs_hold [] (var ∷ vars) o = absurd o
  outputs_hold (path ∷ paths) [] o = absurd o
  outputs_hold (path ∷ paths) (var ∷ vars) o = (o.0.holds, outputs_hold paths vars o.1)
