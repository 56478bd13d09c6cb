-- Where the arguments of a call don't overlap, the places that it hands over have nothing in common.
use Rattle.std.proofs.Common.{◌≡◌, ℕ, zero, suc, length, Bool, true, false, ◌&&◌, ◌||◌, List, [], ◌∷◌, ◌++◌, map, take}
use Rattle.std.proofs.Common.{Option, Some, None, refl, sym, ap, ap₂}
use Rattle.std.proofs.Common.{◌∙◌, subst}
use Rattle.std.proofs.lemmas.Bool.{eqb-true}
use Rattle.std.proofs.lemmas.List.Folds.{list_any-append}
use Rattle.std.proofs.lemmas.Option.{same_Some}
use Rattle.std.specs.Prelude.{is_none, is_some, nat_eq, option_and_then, option_map, option_to_list, slice_get, if◌then◌else◌}
use Rattle.std.specs.List.{find, list_all, list_any}
use Rattle.std.proofs.lemmas.Bool.{and_from}
use Rattle.bl_tree.proofs.Basics.{and_first, and_second, both_empty, get_in_front, neither_first, neither_second}
use Rattle.bl_tree.specs.declared.c.CArg.{CArg}
use Rattle.bl_tree.specs.declared.place.Place.{Place}
use Rattle.bl_tree.specs.declared.scalar.Scalar.{Scalar as ScalarType}
use Rattle.bl_tree.specs.declared.static_path.Static.{Static}
use Rattle.bl_tree.specs.declared.tree.Expr.{Expr, fold-roll-Expr, out-Expr, out-roll-Expr, roll-Expr, roll-out-Expr}
use Rattle.bl_tree.specs.declared.tree.ExprKind.{ExprKind, fold-roll-ExprKind, out-ExprKind, out-roll-ExprKind, roll-ExprKind, roll-out-ExprKind}
use Rattle.bl_tree.specs.declared.tree.ExprKind.TheOpen.{ExprKind-F}
use Rattle.bl_tree.specs.declared.tree.Part.{Part}
use Rattle.bl_tree.specs.declared.tree.Path.{Path, fold_out-Path, out-Path}
use Rattle.bl_tree.specs.declared.tree.StructDef.{StructDef}
use Rattle.bl_tree.specs.declared.tree.Ty.{Ty}
use Rattle.bl_tree.specs.declared.tree.Unit.{Unit as UnitDef}
use Rattle.bl_tree.specs.declared.tree.Var.{Var}
use Rattle.bl_tree.specs.declared.value.Value.{Value}
use Rattle.bl_tree.specs.Numbers.{takes_one, takes_two, type_of_result}
use Rattle.bl_tree.specs.Program.{IsWellTyped, is_input}
use Rattle.bl_tree.specs.Reduce.{all_of}
use Rattle.bl_tree.specs.Scalar.{in_range, is_whole}
use Rattle.bl_tree.specs.Static.{is_front, overlaps, static_of}
use Rattle.bl_tree.specs.Types.{same_scalar, same_type, scalar, scalar_in}
use Rattle.bl_tree.specs.Typing.{TypingContext, call_type, cast_type, inputs_of, is_activity, is_function, is_variable, one_type, prev_type, site_of, two_type, type_of}
use Rattle.bl_tree.specs.Typing.{type_of_path, types_match, var_at}
use Rattle.bl_tree.proofs.ExprInduction.{expr}
use Rattle.bl_effects.specs.declared.marked.Marked.{Marked}
use Rattle.bl_effects.specs.Rules.{Aliased, aliased_with, marked_aggregate, marked_input, marked_inputs, marked_path, outputs_aliased}
use Rattle.bl_eval.specs.Functions.{callees_of, scope_among}
use Rattle.bl_eval.specs.Meaning.{PathMeaning, Scope as Sees, View, meaning_of, path_meaning_of, read_at}
use Rattle.bl_eval.specs.Values.{value_at}
use Rattle.bl_eval.proofs.OperatorFits.{scalar_alone, some_found, where_holds}
use Rattle.bl_eval.proofs.PassLemmas.{get_seam}
use Rattle.bl_ctext_semantics.specs.Memory.{CValue, Location, Memory}
use Rattle.bl_ctext_semantics.specs.Meaning.{ArgumentValue, Scope, by_address, by_value, location_c, value_c}
use Rattle.bl_emit_acts.specs.declared.made.Made.{Made}
use Rattle.bl_emit_acts.specs.declared.made.Made.TheVariants.{Number, Whole}
use Rattle.bl_emit_acts.specs.Acts.{is_copied}
use Rattle.bl_emit_acts.specs.Expressions.{PathStepTyping, Stood, arg_of, expr_made, kind_made, made_at, made_of, part_steps, path_stands, stands}
use Rattle.bl_emit_acts.specs.Trees.{c_read}
use Rattle.bl_emit_acts_laws_simulation.specs.Acts.{MayPass, all_apart, place_in_arg, places_in_args}
use Rattle.bl_emit_acts_laws_simulation.specs.Encodes.{are_apart, copied_in, copied_in_path, is_live, location_in, type_after, way_to, ways_part}
use Rattle.bl_emit_acts_laws_simulation.specs.Laws.{BesideActs}
use Rattle.bl_emit_acts_laws_simulation.specs.Simulation.{ExpressionSimulates, PathReaches, PlaceSimulates}
use Rattle.bl_emit_acts_laws_simulation.proofs.Arguments.{pass_all, passes_address, passes_value}
use Rattle.bl_emit_acts_laws_simulation.proofs.Cells.{apart_flip}
use Rattle.bl_emit_acts_laws_simulation.proofs.Evaluated.{passes}
use Rattle.bl_emit_acts_laws_simulation.proofs.Outlets.{front_apart, fronts_part, static_front}
use Rattle.bl_emit_acts_laws_simulation.proofs.Outputs.{OutputAt, OutputsAt, places_at, roots_apart, value_now}
use Rattle.bl_emit_acts_laws_simulation.proofs.Places.{listed-answer}
use Rattle.bl_emit_acts_laws_simulation.proofs.Whole.{expressions, places}
use Rattle.bl_emit_acts_laws_simulation.proofs.Written.{map_found}

-- ---- what doesn't overlap

-- whether what a path leads to overlaps one of these
abbrev pub touches : Path → List Marked → Bool
touches path others = list_any (λ other. overlaps (static_of path) other.path) others

aliased_clear : (others : List Marked) (one : Marked) → aliased_with others one ≡ [] → list_any (λ other. overlaps one.path other.path) others ≡ false
aliased_clear [] one h = refl
aliased_clear (x ∷ xs) one h = by (overlaps one.path x.path) (aliased_clear xs one) h
  where
    by : (b : Bool) → (aliased_with xs one ≡ [] → list_any (λ (other : Marked). overlaps one.path other.path) xs ≡ false)
        → option_to_list {X = Aliased} (option_map (λ (other : Marked). record { at = one.place; also = other.place })
        (if b then Some x else find (λ (other : Marked). overlaps one.path other.path) xs)) ≡ [] →
        (b || list_any (λ (other : Marked). overlaps one.path other.path) xs) ≡ false
    by true again h = absurd (cc)
    by false again h = again h

-- each output touches none of those before it and none of these inputs
abbrev pub Clear : List Marked → List Marked → List Path → Type 0
Clear inputs before [] = Unit {0}
Clear inputs before (path ∷ paths) =
    (touches path before ≡ false) × (touches path inputs ≡ false) × Clear inputs (before ++ marked_path path ∷ []) paths

pub clear_of : (inputs before : List Marked) (paths : List Path) → outputs_aliased inputs before (map marked_path paths) ≡ [] → Clear inputs before paths
clear_of inputs before [] h = tt
clear_of inputs before (path ∷ paths) h =
    let split = both_empty (aliased_with (before ++ inputs) (marked_path path))
    (outputs_aliased inputs (before ++ marked_path path ∷ []) (map marked_path paths)) h in
    let all : (touches path before || touches path inputs) ≡ false =
    sym (list_any-append (λ (other : Marked). overlaps (static_of path) other.path) before inputs) ∙ aliased_clear
    (before ++ inputs) (marked_path path) split.0 in (
      neither_first (touches path before) (touches path inputs) all,
      neither_second (touches path before) (touches path inputs) all,
      clear_of inputs (before ++ marked_path path ∷ []) paths split.1,
    )

any_at : (path : Path) (others : List Marked) (i : ℕ) (other : Marked) → touches path others ≡ false → slice_get others i ≡ Some other →
    overlaps (static_of path) other.path ≡ false
any_at path [] i other h there = absurd (cc)
any_at path (x ∷ xs) zero other h there =
    subst (λ (m : Marked). overlaps (static_of path) m.path ≡ false) (same_Some x other there)
    (neither_first (overlaps (static_of path) x.path) (touches path xs) h)
any_at path (x ∷ xs) (suc i) other h there = any_at path xs i other (neither_second (overlaps (static_of path) x.path) (touches path xs) h) there

module _ (structs : List StructDef) (units : List UnitDef) (entry : ℕ) (k : ℕ) (unit : UnitDef) (view : View) (copies : List Bool) (scope : Scope)
    (here : Memory) (keeps : IsWellTyped structs units entry) (b : BesideActs structs units k unit view (is_copied copies) scope here) where
  abbrev my_site : TypingContext
  my_site = site_of structs (take k units) unit

  abbrev my_sees : Sees
  my_sees = scope_among structs (callees_of structs (take k units)) unit

  abbrev spot : Path → PathMeaning
  spot path = path_meaning_of my_sees path

  abbrev Output : Path → Var → Type 0
  Output = OutputAt structs units entry k unit view copies scope here keeps b

  abbrev Outputs : List Path → List Var → Type 0
  Outputs = OutputsAt structs units entry k unit view copies scope here keeps b

  abbrev all_places : (paths : List Path) (vars : List Var) → Outputs paths vars → List Location
  all_places = places_at structs units entry k unit view copies scope here keeps b

  -- ---- parts of variables, of which neither is in the other

  module _ (r s : ℕ) (a c : Var) (there : var_at my_site r ≡ Some a) (other : var_at my_site s ≡ Some c)
      (writable : is_input a.role ≡ false) (ks js : List ℕ)
      (ty tz : Ty) (typed : type_after structs ks (Some a.ty) ≡ Some ty) (typed' : type_after structs js (Some c.ty) ≡ Some tz) (u v : Value)
      (read : read_at r view.now ks ≡ Some u) (read' : read_at s view.now js ≡ Some v) where
    parted : nat_eq r s ≡ true → (is_front ks js || is_front js ks) ≡ false →
        ways_part (way_to structs ks (Some a.ty)) (way_to structs js (Some c.ty)) ≡ true
    parted same fronts =
        let one : a ≡ c = same_Some a c (sym there ∙ (ap (var_at my_site) (eqb-true r s same) ∙ other)) in
        let stored = value_now structs units entry k unit view copies scope here keeps b r a there in
        let at : slice_get view.now s ≡ Some stored.0 = ap (slice_get view.now) (sym (eqb-true r s same)) ∙ stored.1 in
        subst (λ (c : Var). ways_part (way_to structs ks (Some a.ty)) (way_to structs js (Some c.ty)) ≡ true) one
        (fronts_part structs keeps.structs_stand ks js a.ty ty tz stored.0 u v stored.2 typed
        (subst (λ (c : Var). type_after structs js (Some c.ty) ≡ Some tz) (sym one) typed') (sym (ap (option_and_then (value_at ks)) stored.1) ∙ read)
        (sym (ap (option_and_then (value_at js)) at) ∙ read') (neither_first (is_front ks js) (is_front js ks) fronts)
        (neither_second (is_front ks js) (is_front js ks) fronts))

    pub fronts_apart : (nat_eq r s && (is_front ks js || is_front js ks)) ≡ false →
        are_apart (location_in scope my_site r (way_to structs ks (Some a.ty))) (location_in scope my_site s (way_to structs js (Some c.ty))) ≡ true
    fronts_apart h =
        roots_apart structs units entry k unit view copies scope here keeps b r s a c (way_to structs ks (Some a.ty))
        (way_to structs js (Some c.ty)) there other
        writable (λ same. parted same (sym (ap (λ b. b && (is_front ks js || is_front js ks)) same) ∙ h))

  -- what stands at an output's place
  output_reads : (path : Path) (var : Var) (o : Output path var) → (u : Value) × (read_at (spot path).root view.now o.leads.ks ≡ Some u)
  output_reads path var o =
      let stored = value_now structs units entry k unit view copies scope here keeps b (spot path).root o.leads.var o.leads.is_there in
      let lies = o.leads.lies stored.0 stored.2 in
      (lies.0, ap (option_and_then (value_at o.leads.ks)) stored.1 ∙ lies.1)

  -- ---- outputs among themselves

  outputs_part : (p q : Path) (x y : Var) (o : Output p x) (w : Output q y) → overlaps (static_of q)
      (static_of p) ≡ false → are_apart o.place w.place ≡ true
  outputs_part p q x y o w h =
      let read = output_reads q y w in
      let read' = output_reads p x o in
      apart_flip w.place o.place
      (ap₂ are_apart w.at o.at
      ∙ fronts_apart (spot q).root (spot p).root w.leads.var o.leads.var w.leads.is_there o.leads.is_there w.writable
      w.leads.ks o.leads.ks y.ty x.ty w.leads.typed
      o.leads.typed read.0 read'.0 read.1 read'.1 (sym (ap₂ overlaps w.leads.static o.leads.static) ∙ h))

  later_part : (inputs before : List Marked) (i : ℕ) (p : Path) (x : Var) (o : Output p x) → slice_get before i ≡ Some (marked_path p) →
      (paths : List Path) (vars : List Var) (all : Outputs paths vars) → Clear inputs before paths →
      list_all (are_apart o.place) (all_places paths vars all) ≡ true
  later_part inputs before i p x o there [] [] all clear = refl
  later_part inputs before i p x o there [] (var ∷ vars) all clear = refl
  later_part inputs before i p x o there (q ∷ paths) [] all clear = absurd all
  later_part inputs before i p x o there (q ∷ paths) (var ∷ vars) all clear =
      and_from (are_apart o.place all.0.place) (list_all (are_apart o.place) (all_places paths vars all.1))
      (outputs_part p q x var o all.0 (any_at q before i (marked_path p) clear.0 there))
      (later_part inputs (before ++ marked_path q ∷ []) i p x o (get_in_front before (marked_path q ∷ []) i (marked_path p) there) paths vars all.1 clear.2)

  pub outputs_apart : (inputs before : List Marked) (paths : List Path) (vars : List Var) (all : Outputs paths vars) → Clear inputs before paths →
      all_apart (all_places paths vars all) ≡ true
  outputs_apart inputs before [] [] all clear = refl
  outputs_apart inputs before [] (var ∷ vars) all clear = refl
  outputs_apart inputs before (p ∷ paths) [] all clear = absurd all
  outputs_apart inputs before (p ∷ paths) (var ∷ vars) all clear =
      and_from (list_all (are_apart all.0.place) (all_places paths vars all.1)) (all_apart (all_places paths vars all.1))
      (later_part inputs (before ++ marked_path p ∷ []) (length before) p var all.0 (get_seam before (marked_path p) (length before) refl) paths vars all.1
      clear.2)
      (outputs_apart inputs (before ++ marked_path p ∷ []) paths vars all.1 clear.2)

  -- ---- outputs and inputs

  module _ (q : Path) (y : Var) (w : Output q y) where
    abbrev Kept : ArgumentValue → Type 0
    Kept passed = list_all (are_apart w.place) (place_in_arg passed) ≡ true

    -- an input that touches no output is handed over by value, or by a place that is apart
    abbrev InputApart : Expr → Type 0
    InputApart e = (ty : Ty) (passed : ArgumentValue) → type_of my_site e ≡ Some ty → copied_in
        (is_copied copies) e ≡ true → touches q (marked_input e) ≡ false →
        (passes (arg_of (made_of my_site e)) scope here).answer ≡ Some passed → Kept passed

    number_kept : (passed : ArgumentValue) (o : Option CValue) → option_map by_value o ≡ Some passed → Kept passed
    number_kept passed None is = absurd (cc)
    number_kept passed (Some held) is = subst Kept (same_Some (by_value held) passed is) refl

    -- what is made of a scalar is a number
    scalar_by : (e : Expr) (ty : Ty) (s : ScalarType) (passed : ArgumentValue) → scalar_in ty ≡ Some s → (made : Made) →
        ExpressionSimulates structs ty scope here made (meaning_of my_sees e view) → (passes (arg_of made) scope here).answer ≡ Some passed → Kept passed
    scalar_by e ty s passed is (Number t code) shown h =
        number_kept passed (value_c code scope here).answer (sym (passes_value structs scope here code) ∙ h)
    scalar_by e ty s passed is (Whole place) shown h = absurd (none_is s (sym shown.0 ∙ is))
      where
        none_is : (s : ScalarType) → None ≡ Some s → ⊥
        none_is s h = cc

    scalar_kept : (e : Expr) → ((ty : Ty) → type_of my_site e ≡ Some ty → (s : ScalarType) × (scalar_in ty ≡ Some s)) → InputApart e
    scalar_kept e is ty passed typed named clear h =
        let s = is ty typed in
        scalar_by e ty s.0 passed s.1 (made_of my_site e)
        (expressions structs units entry k unit e ty view (is_copied copies) scope here keeps b.beside typed named) h

    alone : (s : ScalarType) (ty : Ty) → Some (scalar s) ≡ Some ty → (s : ScalarType) × (scalar_in ty ≡ Some s)
    alone s ty is = (s, subst (λ ty. scalar_in ty ≡ Some s) (same_Some (scalar s) ty is) (scalar_alone s))

    -- a part of a variable that was read
    reached_kept : (path : Path) (ty : Ty) (place : Location) (r : PathReaches my_site view.now scope ty (spot path).root ((spot path).positions view) place) →
        overlaps (static_of q) (static_of path) ≡ false → are_apart w.place place ≡ true
    reached_kept path ty place r h =
        let front = static_front my_site keeps.structs_stand my_sees view path r.ks r.are in
        let read = output_reads q y w in
        ap₂ are_apart w.at r.at
        ∙ fronts_apart (spot q).root (spot path).root w.leads.var r.var w.leads.is_there r.is_there w.writable w.leads.ks r.ks y.ty ty w.leads.typed r.typed
        read.0 r.value read.1 r.is
        (by (nat_eq (spot q).root (spot path).root) front.1
        (sym (ap (λ (s : Static). overlaps s (static_of path)) w.leads.static) ∙ h))
      where
        root_same : (ks : List ℕ) → (spot path).positions view ≡ Some ks → (static_of path).root ≡ (spot path).root
        root_same ks is = (static_front my_site keeps.structs_stand my_sees view path ks is).0

        by : (same : Bool) → is_front (static_of path).fields r.ks ≡ true →
            (nat_eq (spot q).root (static_of path).root && (is_front w.leads.ks (static_of path).fields || is_front
            (static_of path).fields w.leads.ks)) ≡ false →
            (nat_eq (spot q).root (spot path).root && (is_front w.leads.ks r.ks || is_front r.ks w.leads.ks)) ≡ false
        by same front h =
            cases (nat_eq (spot q).root (spot path).root)
            (sym (ap (λ root. nat_eq (spot q).root root && (is_front w.leads.ks (static_of path).fields || is_front (static_of path).fields w.leads.ks))
            (root_same r.ks r.are)) ∙ h)
          where
            cases : (same : Bool) → (same && (is_front w.leads.ks (static_of path).fields || is_front (static_of path).fields w.leads.ks)) ≡ false →
                (same && (is_front w.leads.ks r.ks || is_front r.ks w.leads.ks)) ≡ false
            cases false h = refl
            cases true h =
                let parts = front_apart (static_of path).fields r.ks w.leads.ks front
                (neither_second (is_front w.leads.ks (static_of path).fields) (is_front (static_of path).fields w.leads.ks) h)
                (neither_first (is_front w.leads.ks (static_of path).fields) (is_front (static_of path).fields w.leads.ks) h) in
                ap₂ (λ a b. a || b) parts.1 parts.0

    stands_ty : (path : Path) → (stands my_site path).ty ≡ (out-Path path).ty
    stands_ty path =
        ap (λ (s : Stood). s.ty) (fold_out-Path Made PathStepTyping Made Stood (kind_made my_site) (part_steps my_site) expr_made (path_stands my_site) path)

    whole_kept : (path : Path) (ty : Ty) (passed : ArgumentValue) (at : Option Location) → PlaceSimulates my_site view scope ty at (spot path) →
        overlaps (static_of q) (static_of path) ≡ false → option_map by_address at ≡ Some passed → Kept passed
    whole_kept path ty passed None leads clear is = absurd (cc)
    whole_kept path ty passed (Some place) r clear is =
        subst Kept (same_Some (by_address place) passed is)
        (and_from (are_apart w.place place) true (reached_kept path ty place r clear) refl)

    read_by : (at : Place) (path : Path) (ty : Ty) (passed : ArgumentValue) (s : Option ScalarType) → scalar_in (out-Path path).ty ≡ s →
        copied_in_path (is_copied copies) path ≡ true → type_of_path my_site path ≡ Some ty →
        touches q (if is_none (scalar_in (out-Path path).ty) then record { place = at; path = static_of path } ∷ [] else []) ≡ false →
        (passes (arg_of (made_at s (stands my_site path).place)) scope here).answer ≡ Some passed → Kept passed
    read_by at path ty passed (Some s) is named typed clear h =
        number_kept passed (value_c (c_read (stands my_site path).place) scope here).answer
        (sym (passes_value structs scope here (c_read (stands my_site path).place)) ∙ h)
    read_by at path ty passed None is named typed clear h =
        whole_kept path ty passed (location_c (stands my_site path).place scope here).answer
        (places structs units entry k unit path ty view (is_copied copies) scope here keeps b.beside typed named)
        (neither_first (overlaps (static_of q) (static_of path)) false
        (sym (ap (λ s. touches q (if is_none s then record { place = at; path = static_of path } ∷ [] else [])) is) ∙ clear))
        (sym (passes_address structs scope here (stands my_site path).place) ∙ h)

    marked_read : (at : Place) (path : Path) → marked_input (expr at (ExprKind-F.Read path))
        ≡ (if is_none (scalar_in (out-Path path).ty) then record { place = at; path = static_of path } ∷ [] else [])
    marked_read at path =
        ap (λ e. marked_aggregate e.place (out-ExprKind e.what)) (out-roll-Expr (record { place = at; what = roll-ExprKind (ExprKind-F.Read path) }))
        ∙ ap (marked_aggregate at) (out-roll-ExprKind (ExprKind-F.Read path))

    read_kept : (at : Place) (path : Path) → InputApart (expr at (ExprKind-F.Read path))
    read_kept at path ty passed typed named clear h =
        read_by at path ty passed (scalar_in (out-Path path).ty) refl (rw (fold-roll-Expr, fold-roll-ExprKind) at named)
        (rw (fold-roll-Expr, fold-roll-ExprKind) at typed) (sym (ap (touches q) (marked_read at path)) ∙ clear)
        (sym (ap (λ ty. (passes (arg_of (made_at (scalar_in ty) (stands my_site path).place)) scope here).answer) (stands_ty path))
        ∙ (rw (fold-roll-Expr, fold-roll-ExprKind) at h))

    kept_by : (at : Place) (layer : ExprKind-F ExprKind Part Expr Path) → InputApart (expr at layer)
    kept_by at (ExprKind-F.Read path) = read_kept at path
    kept_by at (ExprKind-F.Literal n s) = scalar_kept (expr at (ExprKind-F.Literal n s)) (λ ty typed.
        alone s ty (where_holds (in_range s n) (Some (scalar s)) ty (rw (fold-roll-Expr, fold-roll-ExprKind) at typed)).1)
    kept_by at (ExprKind-F.Prev j) = scalar_kept (expr at (ExprKind-F.Prev j))
        (λ ty typed. prev_scalar j ty (rw (fold-roll-Expr, fold-roll-ExprKind) at typed))
      where
        some_there : (o : Option ScalarType) → is_some o ≡ true → (s : ScalarType) × (o ≡ Some s)
        some_there None h = absurd (cc)
        some_there (Some s) h = (s, refl)

        prev_scalar : (j : ℕ) (ty : Ty) → option_and_then (prev_type unit.kind)
            (var_at my_site j) ≡ Some ty → (s : ScalarType) × (scalar_in ty ≡ Some s)
        prev_scalar j ty typed =
            let found = some_found (prev_type unit.kind) (var_at my_site j) ty typed in
            let var : Var = found.0 in
            let is = where_holds (is_activity unit.kind && (is_variable var.role && is_some (scalar_in var.ty))) (Some var.ty) ty found.2 in
            let there = some_there (scalar_in var.ty)
            (and_second (is_variable var.role) (is_some (scalar_in var.ty)) (and_second (is_activity unit.kind) _ is.0)) in
            (there.0, ap scalar_in (sym (same_Some var.ty ty is.1)) ∙ there.1)
    kept_by at (ExprKind-F.One op a) = scalar_kept (expr at (ExprKind-F.One op a)) (λ ty typed.
        let found = some_found (one_type op) (option_and_then scalar_in (type_of my_site a)) ty (rw (fold-roll-Expr, fold-roll-ExprKind) at typed) in
        alone (type_of_result op found.0) ty (where_holds (takes_one op found.0) (Some (scalar (type_of_result op found.0))) ty found.2).1)
    kept_by at (ExprKind-F.Two op x z) = scalar_kept (expr at (ExprKind-F.Two op x z)) (λ ty typed.
        let found = some_found (λ s. option_and_then (two_type op s) (option_and_then scalar_in (type_of my_site z)))
        (option_and_then scalar_in (type_of my_site x)) ty (rw (fold-roll-Expr, fold-roll-ExprKind) at typed) in
        let right = some_found (two_type op found.0) (option_and_then scalar_in (type_of my_site z)) ty found.2 in
        alone (type_of_result op found.0) ty
        (where_holds (same_scalar found.0 right.0 && takes_two op found.0) (Some (scalar (type_of_result op found.0))) ty right.2).1)
    kept_by at (ExprKind-F.Cast target a) = scalar_kept (expr at (ExprKind-F.Cast target a)) (λ ty typed.
        let found = some_found (cast_type target) (option_and_then scalar_in (type_of my_site a)) ty (rw (fold-roll-Expr, fold-roll-ExprKind) at typed) in
        alone target ty (where_holds (is_whole target && is_whole found.0) (Some (scalar target)) ty found.2).1)
    kept_by at (ExprKind-F.Call f inputs) = scalar_kept (expr at (ExprKind-F.Call f inputs)) (λ ty typed.
        let found = some_found (call_type (map (type_of my_site) inputs)) (slice_get (take k units) f) ty (rw (fold-roll-Expr, fold-roll-ExprKind) at typed) in
        let callee : UnitDef = found.0 in
        let is = where_holds (is_function callee.kind && (nat_eq callee.outputs 0 && types_match (map (type_of my_site) inputs) (inputs_of callee)))
        (option_map scalar callee.result) ty found.2 in
        let result = map_found scalar callee.result ty is.1 in
        alone result.0 ty (ap Some result.2))

    input_apart : (e : Expr) → InputApart e
    input_apart e =
        let at : Place = (out-Expr e).place in
        let whole : expr at (out-ExprKind (out-Expr e).what) ≡ e =
        ap (λ (what : ExprKind). roll-Expr (record { place = at; what = what })) (roll-out-ExprKind (out-Expr e).what) ∙ roll-out-Expr e in
        subst InputApart whole (kept_by at (out-ExprKind (out-Expr e).what))

    both_all : (xs ys : List Location) → list_all (are_apart w.place) xs ≡ true → list_all (are_apart w.place) ys ≡ true →
        list_all (are_apart w.place) (xs ++ ys) ≡ true
    both_all [] ys h i = i
    both_all (x ∷ xs) ys h i =
        and_from (are_apart w.place x) (list_all (are_apart w.place) (xs ++ ys)) (and_first (are_apart w.place x) (list_all (are_apart w.place) xs) h)
        (both_all xs ys (and_second (are_apart w.place x) (list_all (are_apart w.place) xs) h) i)

    abbrev args_of : List Expr → List CArg
    args_of inputs = map arg_of (map (made_of my_site) inputs)

    abbrev Apart : List ArgumentValue → Type 0
    Apart passed = list_all (are_apart w.place) (places_in_args passed) ≡ true

    -- the inputs of a call, of which none touches the output
    pub inputs_kept : (inputs : List Expr) (vars : List Var) (passed : List ArgumentValue) → types_match (map (type_of my_site) inputs) vars ≡ true →
        all_of (map (copied_in (is_copied copies)) inputs) ≡ true → touches q (marked_inputs inputs) ≡ false →
        (pass_all structs scope here (args_of inputs)).answer ≡ Some passed → Apart passed
    inputs_kept [] vars passed matched named clear h = subst Apart (same_Some [] passed h) refl
    inputs_kept (e ∷ inputs) vars passed matched named clear h = by (inputs_kept inputs) (type_of my_site e) refl vars matched
      where
        found : (a : ArgumentValue) × ((passes (arg_of (made_of my_site e)) scope here).answer ≡ Some a)
            × (option_map (λ others. a ∷ others) (pass_all structs scope here (args_of inputs)).answer ≡ Some passed)
        found = some_found (λ a. option_map (λ others. a ∷ others) (pass_all structs scope here (args_of inputs)).answer)
            (passes (arg_of (made_of my_site e)) scope here).answer passed
            (sym (listed-answer (passes (arg_of (made_of my_site e)) scope here) (pass_all structs scope here (args_of inputs))) ∙ h)

        rest : (others : List ArgumentValue) × ((pass_all structs scope here (args_of inputs)).answer ≡ Some others) × (found.0 ∷ others ≡ passed)
        rest = map_found (λ others. found.0 ∷ others) (pass_all structs scope here (args_of inputs)).answer passed found.2

        split : (touches q (marked_input e) || touches q (marked_inputs inputs)) ≡ false
        split = sym (list_any-append (λ (other : Marked). overlaps (static_of q) other.path) (marked_input e) (marked_inputs inputs)) ∙ clear

        by : ((vars : List Var) (passed : List ArgumentValue) → types_match (map (type_of my_site) inputs) vars ≡ true →
            all_of (map (copied_in (is_copied copies)) inputs) ≡ true → touches q (marked_inputs inputs) ≡ false →
            (pass_all structs scope here (args_of inputs)).answer ≡ Some passed → Apart passed) →
            (typed : Option Ty) → type_of my_site e ≡ typed → (vars : List Var) → types_match
            (typed ∷ map (type_of my_site) inputs) vars ≡ true → Apart passed
        by again None is [] matched = absurd (cc)
        by again None is (var ∷ vars) matched = absurd (cc)
        by again (Some ty) is [] matched = absurd (cc)
        by again (Some ty) is (var ∷ vars) matched =
            subst Apart rest.2
            (both_all (place_in_arg found.0) (places_in_args rest.0)
            (input_apart e ty found.0 is (and_first (copied_in (is_copied copies) e) (all_of (map (copied_in (is_copied copies)) inputs)) named)
            (neither_first (touches q (marked_input e)) (touches q (marked_inputs inputs)) split) found.1)
            (again vars rest.0 (and_second (same_type ty var.ty) (types_match (map (type_of my_site) inputs) vars) matched)
            (and_second (copied_in (is_copied copies) e) (all_of (map (copied_in (is_copied copies)) inputs)) named)
            (neither_second (touches q (marked_input e)) (touches q (marked_inputs inputs)) split) rest.1))

  module _ (inputs : List Expr) (ins : List Var) (passed : List ArgumentValue) (matched : types_match (map (type_of my_site) inputs) ins ≡ true)
      (named : all_of (map (copied_in (is_copied copies)) inputs) ≡ true)
      (given : (pass_all structs scope here (map arg_of (map (made_of my_site) inputs))).answer ≡ Some passed) where
    each_apart : (before : List Marked) (paths : List Path) (vars : List Var) (all : Outputs paths vars) → Clear (marked_inputs inputs) before paths →
        list_all (λ output. list_all (are_apart output) (places_in_args passed)) (all_places paths vars all) ≡ true
    each_apart before [] [] all clear = refl
    each_apart before [] (var ∷ vars) all clear = refl
    each_apart before (p ∷ paths) [] all clear = absurd all
    each_apart before (p ∷ paths) (var ∷ vars) all clear =
        and_from (list_all (are_apart all.0.place) (places_in_args passed))
        (list_all (λ output. list_all (are_apart output) (places_in_args passed)) (all_places paths vars all.1))
        (inputs_kept p var all.0 inputs ins passed matched named clear.1 given) (each_apart (before ++ marked_path p ∷ []) paths vars all.1 clear.2)

    each_live : (paths : List Path) (vars : List Var) (all : Outputs paths vars) →
        list_all (λ place. is_live scope.depth place.root) (all_places paths vars all) ≡ true
    each_live [] [] all = refl
    each_live [] (var ∷ vars) all = refl
    each_live (p ∷ paths) [] all = absurd all
    each_live (p ∷ paths) (var ∷ vars) all =
        and_from (is_live scope.depth all.0.place.root) (list_all (λ place. is_live scope.depth place.root) (all_places paths vars all.1))
        (ap (λ (place : Location). is_live scope.depth place.root) all.0.at ∙ b.beside.live.each (spot p).root all.0.leads.var all.0.leads.is_there)
        (each_live paths vars all.1)

    -- a call whose arguments don't overlap may hand over their places
    pub may_pass : (paths : List Path) (vars : List Var) (all : Outputs paths vars) → outputs_aliased
        (marked_inputs inputs) [] (map marked_path paths) ≡ [] →
        MayPass scope.depth passed (all_places paths vars all)
    may_pass paths vars all none =
        let clear = clear_of (marked_inputs inputs) [] paths none in
        record {
          apart = outputs_apart (marked_inputs inputs) [] paths vars all clear;
          inputs_apart = each_apart [] paths vars all clear;
          live = each_live paths vars all;
        }
