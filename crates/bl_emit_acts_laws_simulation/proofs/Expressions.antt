-- What is made of expressions and paths shows what they mean.
use Rattle.std.proofs.Common.{◌≡◌, ℕ, suc, zero, ◌+◌, ℤ, pos, Bool, true, false, ◌&&◌, List, [], ◌∷◌, ◌++◌, map, Option, Some}
use Rattle.std.proofs.Common.{None, refl, sym, ap, ◌∙◌, subst, IfSome}
use Rattle.std.proofs.lemmas.Bool.{eqb-true}
use Rattle.std.proofs.lemmas.List.Elements.{All-head, All-tail}
use Rattle.std.proofs.lemmas.Option.{same_Some}
use Rattle.std.specs.Prelude.{All, is_some, nat_eq, option_and_then, option_map, slice_get, unwrap_or, if◌then◌else◌}
use Rattle.std.specs.List.{AllZip}
use Rattle.bl_tree.proofs.Basics.{and_first, and_second}
use Rattle.bl_tree.specs.declared.c.CArg.{CArg}
use Rattle.bl_tree.specs.declared.c.CExpr.{CExpr}
use Rattle.bl_tree.specs.declared.c.CPlace.{CPlace}
use Rattle.bl_tree.specs.declared.place.Place.{Place}
use Rattle.bl_tree.specs.declared.scalar.Op.{Op}
use Rattle.bl_tree.specs.declared.scalar.Scalar.{Scalar as ScalarType}
use Rattle.bl_tree.specs.declared.scalar.Scalar.TheVariants.{Bool as OfBool}
use Rattle.bl_tree.specs.declared.tree.Expr.{Expr, fold-roll-Expr}
use Rattle.bl_tree.specs.declared.tree.ExprKind.{ExprKind, fold-roll-ExprKind}
use Rattle.bl_tree.specs.declared.tree.ExprKind.TheOpen.{ExprKind-F, Part-F}
use Rattle.bl_tree.specs.declared.tree.Part.{Part, fold-roll-Part, out-Part, out-roll-Part, roll-Part, roll-out-Part}
use Rattle.bl_tree.specs.declared.tree.Path.{Path, fold-roll-Path, roll-Path}
use Rattle.bl_tree.specs.declared.tree.StructDef.{StructDef}
use Rattle.bl_tree.specs.declared.tree.Ty.{Ty, out-Ty}
use Rattle.bl_tree.specs.declared.tree.Ty.TheOpen.{Ty-F}
use Rattle.bl_tree.specs.declared.tree.Unit.{Unit as UnitDef}
use Rattle.bl_tree.specs.declared.tree.Var.{Var}
use Rattle.bl_tree.specs.declared.value.Value.{Value, out-Value}
use Rattle.bl_tree.specs.declared.value.Value.TheOpen.{Value-F}
use Rattle.bl_tree.specs.Numbers.{takes_one, takes_two, type_of_result}
use Rattle.bl_tree.specs.Reduce.{all_of}
use Rattle.bl_tree.specs.Scalar.{in_range, is_int, is_whole}
use Rattle.bl_tree.specs.Types.{same_scalar, same_type, scalar, scalar_in}
use Rattle.bl_tree.specs.Typing.{TypingContext, after_parts, call_type, cast_type, element_in, inputs_of, is_activity, is_function, is_variable, one_type, prev_type}
use Rattle.bl_tree.specs.Typing.{site_of, two_type, type_of, type_of_path, types_match, var_at, where_same, where_whole}
use Rattle.bl_tree.proofs.ExprInduction.{Cases, EachIndex, OfIndex, expr, induct, induct_path}
use Rattle.bl_eval.specs.declared.datum.Datum.{Datum}
use Rattle.bl_eval.specs.declared.datum.Datum.TheVariants.{Scalar as OfScalar, Whole as OfWhole}
use Rattle.bl_eval.specs.Changes.{part_of_path}
use Rattle.bl_eval.specs.Functions.{scope_among}
use Rattle.bl_eval.specs.Meaning.{Callee, Scope as Sees, PathMeaning, View, call_datum, cast_datum, datum_of, level_datum, meaning_of, one_datum, operand}
use Rattle.bl_eval.specs.Meaning.{operand_in, position_in, positions_of, read_at, reading, scalar_of, path_meaning_of, two_datum, values_of}
use Rattle.bl_eval.specs.Values.{number_at as number_level, position_of, value_at, value_fits, values_fit}
use Rattle.bl_eval.proofs.ExprFits.{CalleeFits, GivesFit, Sound, SpotFits, expr_fits, match_fits, spot_fits}
use Rattle.bl_eval.proofs.FitLemmas.{same_scalar_is, same_type_is}
use Rattle.bl_eval.proofs.OperatorFits.{DatumFits, datum_fits, some_found, where_holds}
use Rattle.bl_eval.proofs.PartFits.{Fits, Leads as LeadsIn, if_then, read_fits, type_of_part}
use Rattle.bl_eval.proofs.PassLemmas.{pass_at}
use Rattle.bl_ctext_semantics.specs.Builtin.{index_within}
use Rattle.bl_ctext_semantics.specs.Memory.{CValue, Location, Memory, member}
use Rattle.bl_ctext_semantics.specs.Memory as memory
use Rattle.bl_ctext_semantics.specs.Meaning.{ArgumentValue, Counted, Scope, applied, each_of, element_projection as element_part, further, given, location_c}
use Rattle.bl_ctext_semantics.specs.Meaning.{named_location, next, value_c}
use Rattle.bl_emit_acts.specs.declared.made.Made.{Made}
use Rattle.bl_emit_acts.specs.declared.made.Made.TheVariants.{Number}
use Rattle.bl_emit_acts.specs.Expressions.{arg_of, c_both, c_cast, c_one, code_of, length_in, made_at, made_call, made_of, scalar_at, stands, step_typing}
use Rattle.bl_emit_acts.specs.Expressions.{steps_of, type_at, type_made}
use Rattle.bl_emit_acts.specs.Trees.{c_element, c_index, c_place, c_read}
use Rattle.bl_emit_acts.specs.Types.{copy_name, elements_name, unit_name}
use Rattle.bl_emit_acts_laws_simulation.specs.Encodes.{CopiesEncoded, Encodes, VariablesAllocated, VariablesEncoded, copied_in, copied_in_path, home_at, is_live, lead_in}
use Rattle.bl_emit_acts_laws_simulation.specs.Encodes.{location_in, start_in, way_to}
use Rattle.bl_emit_acts_laws_simulation.specs.inner.Holds.{copied_in_part}
use Rattle.bl_emit_acts_laws_simulation.specs.Simulation.{ExpressionSimulates, FunctionsAgree, PathReaches, PlaceSimulates, PlaceValueSimulates, number_given}
use Rattle.bl_emit_acts_laws_simulation.proofs.Arguments.{ArgsShow, arg_shows, args_show, call_gives, pass_all}
use Rattle.bl_emit_acts_laws_simulation.proofs.Evaluated.{element-way, literal-value, place-location, read-value, step-way, ways}
use Rattle.bl_emit_acts_laws_simulation.proofs.Numbers.{gives, num}
use Rattle.bl_emit_acts_laws_simulation.proofs.Operators.{Known}
use Rattle.bl_emit_acts_laws_simulation.proofs.Parts.{holds_part, holds_same, value_along}
use Rattle.bl_emit_acts_laws_simulation.proofs.Places.{ManySteps, led, listed-answer, mapped-answer, no_steps, one_more, place_answer}
use Rattle.bl_emit_acts_laws_simulation.proofs.Shown.{Operands, both_shows, cast_shows, one_shows, operand_shown, scalar_type}
use Rattle.bl_emit_acts_laws_simulation.proofs.Steps.{OneStep, element_steps, field_steps}

-- ---- numbers at places

-- what stands at a place is the number of the value that it holds
number_held : (structs : List StructDef) (ty : Ty) (s : ScalarType) (value : Value) (held : CValue) (level : Value-F Value) → out-Value value ≡ level →
    scalar_in ty ≡ Some s → Encodes structs ty value held → DatumFits structs ty (level_datum s value level) →
    memory.scalar_number held ≡ number_given (level_datum s value level)
number_held structs ty s value held (Value-F.Number n) is scalar_is holds fit = holds.each [] n (ap number_level is)
number_held structs ty s value held (Value-F.Parts all) is scalar_is holds fit = absurd (let none = fit.0 in cc)

module _ (structs : List StructDef) (scope : Scope) (here : Memory) where
  read_answer : (place : CPlace) → gives scope here (c_read place)
      ≡ option_map (λ p. memory.scalar_number (memory.value_at here p)) (location_c place scope here).answer
  read_answer place =
      ap (λ (c : Counted CValue). num c.answer) (read-value scope here place)
      ∙ (ap num (mapped-answer (memory.value_at here) (location_c place scope here)) ∙ twice (location_c place scope here).answer)
    where
      twice : (o : Option Location) → num (option_map (memory.value_at here) o) ≡ option_map (λ p. memory.scalar_number (memory.value_at here p)) o
      twice None = refl
      twice (Some p) = refl

  -- a place that holds a value of a type shows it
  pub held_shows : (ty : Ty) (place : CPlace) (value : Value) (at : Location) → (location_c place scope here).answer ≡ Some at →
      is_live scope.depth at.root ≡ true → Encodes structs ty value (memory.value_at here at) → Fits structs ty value → (s : Option ScalarType) →
      scalar_in ty ≡ s → ExpressionSimulates structs ty scope here (made_at s place) (Some (datum_of s value))
  held_shows ty place value at is live holds fit None scalar_is =
      (scalar_is, subst (λ o. PlaceValueSimulates structs ty scope.depth here o (Some (OfWhole value))) (sym is) (live, holds))
  held_shows ty place value at is live holds fit (Some s) scalar_is = (
    scalar_is,
    read_answer place ∙ (ap (option_map (λ p. memory.scalar_number (memory.value_at here p))) is
        ∙ ap Some (number_held structs ty s value (memory.value_at here at) (out-Value value) refl scalar_is holds
        (subst (λ o. DatumFits structs ty (datum_of o value)) scalar_is (datum_fits structs ty value fit)))),
  )

  -- and one that traps traps
  pub trapped_shows : (ty : Ty) (place : CPlace) → (location_c place scope here).answer ≡ None → (s : Option ScalarType) → scalar_in ty ≡ s →
      ExpressionSimulates structs ty scope here (made_at s place) None
  trapped_shows ty place is None scalar_is = (scalar_is, subst (λ o. PlaceValueSimulates structs ty scope.depth here o None) (sym is) tt)
  trapped_shows ty place is (Some s) scalar_is =
      (scalar_is, read_answer place ∙ ap (option_map (λ p. memory.scalar_number (memory.value_at here p))) is)

-- ---- callees

pub callee_there : (structs : List StructDef) (units : List UnitDef) (callees : List Callee) (f : ℕ) (unit : UnitDef) →
    AllZip (CalleeFits structs) units callees →
    slice_get units f ≡ Some unit → (callee : Callee) × (slice_get callees f ≡ Some callee)
callee_there structs [] callees f unit all there = absurd (cc)
callee_there structs (first ∷ units) [] f unit all there = absurd all
callee_there structs (first ∷ units) (callee ∷ callees) zero unit all there = (callee, refl)
callee_there structs (first ∷ units) (callee ∷ callees) (suc f) unit all there = callee_there structs units callees f unit all.1 there

module _ (structs : List StructDef) (earlier : List UnitDef) (unit : UnitDef) (callees : List Callee) (sound : Sound structs earlier unit callees) (view : View)
    (now_fits : values_fit structs unit.vars view.now ≡ true) (before_fits : values_fit structs unit.vars view.before ≡ true)
    (copied : ℕ → Bool) (scope : Scope) (here : Memory)
    (variables : VariablesEncoded (site_of structs earlier unit) view.now scope here)
    (live : VariablesAllocated (site_of structs earlier unit) scope)
    (copies : CopiesEncoded (site_of structs earlier unit) view.before copied scope here)
    (functions : FunctionsAgree structs earlier callees scope) where
  abbrev site : TypingContext
  site = site_of structs earlier unit

  abbrev sees : Sees
  sees = scope_among structs callees unit

  abbrev P : Expr → Type 0
  P e = copied_in copied e ≡ true → (ty : Ty) → type_of site e ≡ Some ty → ExpressionSimulates structs ty scope here (made_of site e) (meaning_of sees e view)

  -- a path leads where it should, and its type is known
  abbrev Q : Path → Type 0
  Q path = copied_in_path copied path ≡ true → (ty : Ty) → type_of_path site path ≡ Some ty →
      PlaceSimulates site view scope ty (location_c (stands site path).place scope here).answer (path_meaning_of sees path) × ((stands site path).ty ≡ ty)

  -- what an expression gives is of its type
  fits_of : (e : Expr) (ty : Ty) → type_of site e ≡ Some ty → IfSome (meaning_of sees e view) (DatumFits structs ty)
  fits_of = expr_fits structs earlier unit callees sound view now_fits before_fits

  -- the same in other words
  shows_as : (ty : Ty) (made other : Made) (datum meant : Option Datum) → made ≡ other → datum ≡ meant → ExpressionSimulates structs ty scope here other meant →
      ExpressionSimulates structs ty scope here made datum
  shows_as ty made other datum meant is same shown =
      subst (λ made. ExpressionSimulates structs ty scope here made datum) (sym is) (subst (ExpressionSimulates structs ty scope here other) (sym same) shown)

  literal_shown : (place : Place) (n : ℤ) (s : ScalarType) → P (expr place (ExprKind-F.Literal n s))
  literal_shown place n s copies_named ty typed =
      let found = where_holds (in_range s n) (Some (scalar s)) ty (rw (fold-roll-Expr, fold-roll-ExprKind) at typed) in
      rw (fold-roll-Expr, fold-roll-ExprKind, fold-roll-Expr, fold-roll-ExprKind)
      (scalar_type ty s (sym (same_Some (scalar s) ty found.1)), ap (λ (c : Counted CValue). num c.answer) (literal-value scope here _ n))

  -- ---- what is read

  -- what a place that a path leads to holds
  pub reached_holds : (ty : Ty) (root : ℕ) (positions : Option (List ℕ)) (place : Location) (r : PathReaches site view.now scope ty root positions place) →
      Encodes structs ty r.value (memory.value_at here place)
  reached_holds ty root positions place r =
      let root_value = some_found (value_at r.ks) (slice_get view.now root) r.value r.is in
      let whole : Encodes structs r.var.ty root_value.0 (memory.value_at here (location_in scope site root [])) =
      variables.each root r.var root_value.0 r.is_there root_value.1 in
      let inner = holds_part structs r.var.ty ty root_value.0 r.value (memory.value_at here (location_in scope site root [])) r.ks whole r.typed root_value.2 in
      let start : Location = start_in scope (is_activity site.kind) (home_at site root) site.vars root in
      let lead = lead_in (home_at site root) site.vars root in
      let way = way_to structs r.ks (Some r.var.ty) in
      subst (λ place. Encodes structs ty r.value (memory.value_at here place)) (sym r.at)
      (holds_same structs ty r.value (λ rest. memory.value_at here (location_in scope site root []) (way ++ rest))
      (memory.value_at here (location_in scope site root way))
      (λ rest. value_along here start lead [] (way ++ rest) ∙ sym (value_along here start lead way rest)) inner)

  pub spot_value : (ty : Ty) (spot : PathMeaning) (place : Location) → spot.ty ≡ ty →
      (r : PathReaches site view.now scope ty spot.root (spot.positions view) place) →
      reading spot view ≡ Some (datum_of (scalar_in ty) r.value)
  spot_value ty spot place is r =
      ap (λ ty. option_map (datum_of (scalar_in ty)) (option_and_then (read_at spot.root view.now) (spot.positions view))) is
      ∙ ap (option_map (datum_of (scalar_in ty))) (ap (option_and_then (read_at spot.root view.now)) r.are ∙ r.is)

  -- what lies where a path leads
  abbrev lies : PathMeaning → Option Value
  lies spot = option_and_then (read_at spot.root view.now) (spot.positions view)

  read_by : (ty : Ty) (place : CPlace) (spot : PathMeaning) (answer : Option Location) → (location_c place scope here).answer ≡ answer → spot.ty
      ≡ ty →
      PlaceSimulates site view scope ty answer spot → IfSome (lies spot) (Fits structs ty) →
      ExpressionSimulates structs ty scope here (made_at (scalar_in ty) place) (reading spot view)
  read_by ty place spot None is typed leads fit =
      subst (ExpressionSimulates structs ty scope here (made_at (scalar_in ty) place)) (sym (ap (option_map (datum_of (scalar_in spot.ty))) leads))
      (trapped_shows structs scope here ty place is (scalar_in ty) refl)
  read_by ty place spot (Some at) is typed r fit =
      let there : lies spot ≡ Some r.value = ap (option_and_then (read_at spot.root view.now)) r.are ∙ r.is in
      let fits : Fits structs ty r.value = subst (λ o. IfSome o (Fits structs ty)) there fit in
      subst (ExpressionSimulates structs ty scope here (made_at (scalar_in ty) place)) (sym (spot_value ty spot at typed r))
      (held_shows structs scope here ty place r.value at is
      (ap (λ (place : Location). is_live scope.depth place.root) r.at ∙ live.each spot.root r.var r.is_there)
      (reached_holds ty spot.root (spot.positions view) at r) fits (scalar_in ty) refl)

  spot_is : (path : Path) (ty : Ty) → type_of_path site path ≡ Some ty → SpotFits structs unit.vars view ty (path_meaning_of sees path)
  spot_is = spot_fits structs earlier unit callees sound view now_fits before_fits

  pub lies_fit : (path : Path) (ty : Ty) → type_of_path site path ≡ Some ty → IfSome (lies (path_meaning_of sees path)) (Fits structs ty)
  lies_fit path ty typed =
      let found = spot_is path ty typed in
      if_then (λ ks. LeadsIn structs found.var.ty ks ty) (Fits structs ty) (read_at (path_meaning_of sees path).root view.now)
      ((path_meaning_of sees path).positions view)
      found.leads
      (λ ks leads. read_fits structs unit.vars (path_meaning_of sees path).root found.var ks ty found.is_there leads view.now now_fits)

  read_shown : (place : Place) (path : Path) → Q path → P (expr place (ExprKind-F.Read path))
  read_shown place path shown copies_named ty typed =
      let typed' : type_of_path site path ≡ Some ty = rw (fold-roll-Expr, fold-roll-ExprKind) at typed in
      let found = shown (rw (fold-roll-Expr, fold-roll-ExprKind) at copies_named) ty typed' in
      rw (fold-roll-Expr, fold-roll-ExprKind, fold-roll-Expr, fold-roll-ExprKind)
      (subst (λ t. ExpressionSimulates structs ty scope here (made_at (scalar_in t) (stands site path).place) (reading (path_meaning_of sees path) view)) (sym found.1)
      (read_by ty (stands site path).place (path_meaning_of sees path) (location_c (stands site path).place scope here).answer refl
      (spot_is path ty typed').is_typed found.0 (lies_fit path ty typed')))

  -- ---- what variables were

  copy_answer : (k : ℕ) → gives scope here (c_read (c_place false (copy_name site.vars k) []))
      ≡ Some (memory.scalar_number (memory.value_at here (named_location scope false (copy_name site.vars k))))
  copy_answer k =
      read_answer structs scope here (c_place false (copy_name site.vars k) [])
      ∙ ap (λ (c : Counted Location). option_map (λ p. memory.scalar_number (memory.value_at here p)) c.answer)
      (place-location scope here false (copy_name site.vars k) [])

  prev_by : (k : ℕ) (ty : Ty) → copied k ≡ true → option_and_then (prev_type unit.kind) (var_at site k) ≡ Some ty →
      ExpressionSimulates structs ty scope here (Number (scalar_at (var_at site k)) (c_read (c_place false (copy_name site.vars k) [])))
      (option_map (datum_of (scalar_of (slice_get unit.vars k))) (slice_get view.before k))
  prev_by k ty copied_k typed =
      let found = some_found (prev_type unit.kind) (slice_get unit.vars k) ty typed in
      let var : Var = found.0 in
      let is = where_holds (is_activity unit.kind && (is_variable var.role && is_some (scalar_in var.ty))) (Some var.ty) ty found.2 in
      let same : var.ty ≡ ty = same_Some var.ty ty is.1 in
      let scalar_there = and_second (is_variable var.role) (is_some (scalar_in var.ty)) (and_second (is_activity unit.kind) _ is.0) in
      let stored = pass_at (λ (var : Var). value_fits structs var.ty) unit.vars view.before k var before_fits found.1 in
      let holds : Encodes structs var.ty stored.0 (memory.value_at here (named_location scope false (copy_name site.vars k))) =
      copies.each k var stored.0 copied_k found.1 stored.1 in
      subst (λ (at : Option Var). ExpressionSimulates structs ty scope here (Number (scalar_at at) (c_read (c_place false (copy_name site.vars k) [])))
      (option_map (datum_of (scalar_of at)) (slice_get view.before k))) (sym found.1)
      (subst (λ at. ExpressionSimulates structs ty scope here (Number (scalar_at (Some var)) (c_read (c_place false (copy_name site.vars k) [])))
      (option_map (datum_of (scalar_in var.ty)) at)) (sym stored.1)
      (subst (λ ty. ExpressionSimulates structs ty scope here (Number (scalar_at (Some var)) (c_read (c_place false (copy_name site.vars k) [])))
      (Some (datum_of (scalar_in var.ty) stored.0))) same
      (prev_shown_by k var stored.0 (scalar_in var.ty) refl scalar_there holds stored.2)))
    where
      prev_shown_by : (k : ℕ) (var : Var) (value : Value) (s : Option ScalarType) → scalar_in var.ty ≡ s → is_some (scalar_in var.ty) ≡ true →
          Encodes structs var.ty value (memory.value_at here (named_location scope false (copy_name site.vars k))) → Fits structs var.ty value →
          ExpressionSimulates structs var.ty scope here (Number (scalar_at (Some var)) (c_read (c_place false (copy_name site.vars k) [])))
          (Some (datum_of (scalar_in var.ty) value))
      prev_shown_by k var value None is there holds fit = absurd (let none = sym (ap is_some is) ∙ there in cc)
      prev_shown_by k var value (Some s) is there holds fit =
          subst (λ o. ExpressionSimulates structs var.ty scope here (Number (unwrap_or o OfBool) (c_read (c_place false (copy_name site.vars k) [])))
          (Some (datum_of o value)))
          (sym is) (
            is,
            copy_answer k
                ∙ ap Some (number_held structs var.ty s value (memory.value_at here (named_location scope false (copy_name site.vars k)))
                (out-Value value) refl is holds
                (subst (λ o. DatumFits structs var.ty (datum_of o value)) is (datum_fits structs var.ty value fit))),
          )

  prev_shown : (place : Place) (k : ℕ) → P (expr place (ExprKind-F.Prev k))
  prev_shown place k copies_named ty typed =
      rw (fold-roll-Expr, fold-roll-ExprKind, fold-roll-Expr, fold-roll-ExprKind)
      (prev_by k ty (rw (fold-roll-Expr, fold-roll-ExprKind) at copies_named) (rw (fold-roll-Expr, fold-roll-ExprKind) at typed))

  -- ---- operators

  operands : (a : Expr) (s : ScalarType) → P a → copied_in copied a ≡ true → option_and_then scalar_in (type_of site a) ≡ Some s →
      Operands structs scope here s (made_of site a) (meaning_of sees a view)
  operands a s shown copies_named typed =
      let found = some_found scalar_in (type_of site a) s typed in
      operand_shown structs scope here found.0 s (made_of site a) (meaning_of sees a view) (shown copies_named found.0 found.1) found.2
      (fits_of a found.0 found.1)

  one_shown : (place : Place) (op : Op) (a : Expr) → P a → P (expr place (ExprKind-F.One op a))
  one_shown place op a shown copies_named ty typed =
      let found = some_found (one_type op) (option_and_then scalar_in (type_of site a)) ty (rw (fold-roll-Expr, fold-roll-ExprKind) at typed) in
      let s : ScalarType = found.0 in
      let is = where_holds (takes_one op s) (Some (scalar (type_of_result op s))) ty found.2 in
      let o = operands a s shown (rw (fold-roll-Expr, fold-roll-ExprKind) at copies_named) found.1 in
      shows_as ty (made_of site (expr place (ExprKind-F.One op a))) (c_one op (type_made (made_of site a)) (code_of (made_of site a)))
      (meaning_of sees (expr place (ExprKind-F.One op a)) view) (option_and_then (one_datum op) (operand (meaning_of sees a) view))
      (rw (fold-roll-Expr, fold-roll-ExprKind) refl) (rw (fold-roll-Expr, fold-roll-ExprKind) refl)
      (subst (λ s. ExpressionSimulates structs ty scope here (c_one op s (code_of (made_of site a))) (option_and_then (one_datum op) (operand (meaning_of sees a) view)))
      (sym o.type_is)
      (one_shows structs scope here op s ty (code_of (made_of site a)) (meaning_of sees a view) is.0 (sym (same_Some (scalar (type_of_result op s)) ty is.1))
      o.known))

  two_shown : (place : Place) (op : Op) (a b : Expr) → P a → P b → P (expr place (ExprKind-F.Two op a b))
  two_shown place op a b shown other copies_named ty typed =
      let found = some_found (λ s. option_and_then (two_type op s) (option_and_then scalar_in (type_of site b)))
      (option_and_then scalar_in (type_of site a)) ty (rw (fold-roll-Expr, fold-roll-ExprKind) at typed) in
      let s : ScalarType = found.0 in
      let right = some_found (two_type op s) (option_and_then scalar_in (type_of site b)) ty found.2 in
      let is = where_holds (same_scalar s right.0 && takes_two op s) (Some (scalar (type_of_result op s))) ty right.2 in
      let same : s ≡ right.0 = same_scalar_is s right.0 (and_first (same_scalar s right.0) (takes_two op s) is.0) in
      let all : (copied_in copied a && copied_in copied b) ≡ true = rw (fold-roll-Expr, fold-roll-ExprKind) at copies_named in
      let o = operands a s shown (and_first (copied_in copied a) (copied_in copied b) all) found.1 in
      let p = operands b s other (and_second (copied_in copied a) (copied_in copied b) all) (right.1 ∙ ap Some (sym same)) in
      shows_as ty (made_of site (expr place (ExprKind-F.Two op a b)))
      (c_both op (type_made (made_of site a)) (code_of (made_of site a)) (code_of (made_of site b)))
      (meaning_of sees (expr place (ExprKind-F.Two op a b)) view)
      (option_and_then (two_datum op (operand (meaning_of sees b) view)) (operand (meaning_of sees a) view))
      (rw (fold-roll-Expr, fold-roll-ExprKind) refl) (rw (fold-roll-Expr, fold-roll-ExprKind) refl)
      (subst (λ s. ExpressionSimulates structs ty scope here (c_both op s (code_of (made_of site a)) (code_of (made_of site b)))
      (option_and_then (two_datum op (operand (meaning_of sees b) view)) (operand (meaning_of sees a) view)))
      (sym o.type_is)
      (both_shows structs scope here s (code_of (made_of site a)) (code_of (made_of site b)) (meaning_of sees a view)
      (meaning_of sees b view) o.known p.known op
      ty (and_second (same_scalar s right.0) (takes_two op s) is.0) (sym (same_Some (scalar (type_of_result op s)) ty is.1))))

  cast_shown : (place : Place) (target : ScalarType) (a : Expr) → P a → P (expr place (ExprKind-F.Cast target a))
  cast_shown place target a shown copies_named ty typed =
      let found = some_found (cast_type target) (option_and_then scalar_in (type_of site a)) ty (rw (fold-roll-Expr, fold-roll-ExprKind) at typed) in
      let s : ScalarType = found.0 in
      let is = where_holds (is_whole target && is_whole s) (Some (scalar target)) ty found.2 in
      let o = operands a s shown (rw (fold-roll-Expr, fold-roll-ExprKind) at copies_named) found.1 in
      shows_as ty (made_of site (expr place (ExprKind-F.Cast target a)))
      (Number target (c_cast (type_made (made_of site a)) target (code_of (made_of site a))))
      (meaning_of sees (expr place (ExprKind-F.Cast target a)) view) (option_and_then (cast_datum target) (operand (meaning_of sees a) view))
      (rw (fold-roll-Expr, fold-roll-ExprKind) refl) (rw (fold-roll-Expr, fold-roll-ExprKind) refl)
      (subst (λ s. ExpressionSimulates structs ty scope here (Number target (c_cast s target (code_of (made_of site a))))
      (option_and_then (cast_datum target) (operand (meaning_of sees a) view))) (sym o.type_is)
      (cast_shows structs scope here s target ty (code_of (made_of site a)) (meaning_of sees a view) (and_first (is_whole target) (is_whole s) is.0)
      (sym (same_Some (scalar target) ty is.1)) o.known))

  -- ---- calls

  abbrev pub InputsShown : List Expr → Type 0
  InputsShown inputs = (vars : List Var) → types_match (map (type_of site) inputs) vars ≡ true →
      ArgsShow structs scope here vars (pass_all structs scope here (map arg_of (map (made_of site) inputs))).answer
      (values_of (map (meaning_of sees) inputs) view)

  first_input : (e : Expr) (inputs : List Expr) → P e → all_of (map (copied_in copied) (e ∷ inputs)) ≡ true → InputsShown inputs →
      (t : Option Ty) → type_of site e ≡ t → (vars : List Var) → types_match (t ∷ map (type_of site) inputs) vars ≡ true →
      ArgsShow structs scope here vars (pass_all structs scope here (map arg_of (map (made_of site) (e ∷ inputs)))).answer
      (values_of (map (meaning_of sees) (e ∷ inputs)) view)
  first_input e inputs shown all more None is [] typed = absurd (cc)
  first_input e inputs shown all more (Some t) is [] typed = absurd (cc)
  first_input e inputs shown all more None is (var ∷ vars) typed = absurd (cc)
  first_input e inputs shown all more (Some t) is (var ∷ vars) typed =
      let same : t ≡ var.ty = same_type_is t var.ty (and_first (same_type t var.ty) (types_match (map (type_of site) inputs) vars) typed) in
      let is' : type_of site e ≡ Some var.ty = is ∙ ap Some same in
      let one = shown (and_first (copied_in copied e) (all_of (map (copied_in copied) inputs)) all) var.ty is' in
      args_show structs scope here var vars (arg_of (made_of site e)) (map arg_of (map (made_of site) inputs)) (meaning_of sees e view)
      (values_of (map (meaning_of sees) inputs) view)
      (arg_shows structs scope here var.ty (made_of site e) (meaning_of sees e view) one (fits_of e var.ty is'))
      (more vars (and_second (same_type t var.ty) (types_match (map (type_of site) inputs) vars) typed))

  pub inputs_shown : (inputs : List Expr) → All P inputs → all_of (map (copied_in copied) inputs) ≡ true → InputsShown inputs
  inputs_shown [] each all [] typed = tt
  inputs_shown [] each all (var ∷ vars) typed = absurd (cc)
  inputs_shown (e ∷ inputs) each all vars typed =
      first_input e inputs (All-head P e inputs each) all
      (λ vars typed. inputs_shown inputs (All-tail P e inputs each) (and_second (copied_in copied e) (all_of (map (copied_in copied) inputs)) all) vars typed)
      (type_of site e) refl vars typed

  module _ (f : ℕ) (callee : UnitDef) (means : Callee) (s : ScalarType) (there : slice_get earlier f ≡ Some callee)
      (meant : slice_get callees f ≡ Some means)
      (function : is_function callee.kind ≡ true) (none : callee.outputs ≡ 0) (result : callee.result ≡ Some s) where
    returned_by : (passed : Option (List ArgumentValue)) (values : Option (List Value)) → ArgsShow structs scope here (inputs_of callee) passed values →
        IfSome values (λ values. values_fit structs (inputs_of callee) values ≡ true) →
        option_and_then (λ passed. (applied (scope.known (unit_name callee.name)) (scope.depth + 1) passed here).result) passed
        ≡ option_map number_given (option_and_then (call_datum values) (Some means))
    returned_by None None shown fit = refl
    returned_by None (Some values) shown fit = absurd shown
    returned_by (Some passed) None shown fit = absurd shown
    returned_by (Some passed) (Some values) shown fit =
        functions.each f callee means s values passed here there meant function none result fit shown

  call_by : (f : ℕ) (inputs : List Expr) (ty : Ty) → All P inputs → all_of (map (copied_in copied) inputs) ≡ true →
      option_and_then (call_type (map (type_of site) inputs)) (slice_get earlier f) ≡ Some ty →
      ExpressionSimulates structs ty scope here (made_call (slice_get earlier f) (map arg_of (map (made_of site) inputs)))
      (option_and_then (call_datum (values_of (map (meaning_of sees) inputs) view)) (slice_get callees f))
  call_by f inputs ty each all typed =
      let found = some_found (call_type (map (type_of site) inputs)) (slice_get earlier f) ty typed in
      let callee : UnitDef = found.0 in
      let shape : Bool = nat_eq callee.outputs 0 && types_match (map (type_of site) inputs) (inputs_of callee) in
      let is = where_holds (is_function callee.kind && shape) (option_map scalar callee.result) ty found.2 in
      let fitting : shape ≡ true = and_second (is_function callee.kind) shape is.0 in
      let none : callee.outputs ≡ 0 = eqb-true callee.outputs 0
      (and_first (nat_eq callee.outputs 0) (types_match (map (type_of site) inputs) (inputs_of callee)) fitting) in
      let matched : types_match (map (type_of site) inputs) (inputs_of callee) ≡ true =
      and_second (nat_eq callee.outputs 0) (types_match (map (type_of site) inputs) (inputs_of callee)) fitting in
      let result = result_there callee.result is.1 in
      let means = callee_there structs earlier callees f callee sound.callees_fit found.1 in
      let args : List CArg = map arg_of (map (made_of site) inputs) in
      let shown = inputs_shown inputs each all (inputs_of callee) matched in
      let fit = match_fits structs view (meaning_of sees) (type_of site) inputs (each_fits inputs) (inputs_of callee) matched in
      subst (λ (at : Option UnitDef). ExpressionSimulates structs ty scope here (made_call at args)
      (option_and_then (call_datum (values_of (map (meaning_of sees) inputs) view)) (slice_get callees f))) (sym found.1)
      (subst (λ at. ExpressionSimulates structs ty scope here (made_call (Some callee) args)
      (option_and_then (call_datum (values_of (map (meaning_of sees) inputs) view)) at)) (sym means.1) (
        scalar_type ty (unwrap_or callee.result OfBool) (sym result.2 ∙ ap (λ o. scalar (unwrap_or o OfBool)) (sym result.1)),
        call_gives structs scope here callee.name args
            ∙ returned_by f callee means.0 result.0 found.1 means.1 (and_first (is_function callee.kind) shape is.0) none result.1
            (pass_all structs scope here args).answer (values_of (map (meaning_of sees) inputs) view) shown fit,
      ))
    where
      result_there : (o : Option ScalarType) → option_map scalar o ≡ Some ty → (s : ScalarType) × (o ≡ Some s) × (scalar s ≡ ty)
      result_there None h = absurd (cc)
      result_there (Some s) h = (s, refl, same_Some (scalar s) ty h)

      each_fits : (es : List Expr) → All (λ e. GivesFit structs view (meaning_of sees e) (type_of site e)) es
      each_fits es k d less = fits_of _

  call_shown : (place : Place) (f : ℕ) (inputs : List Expr) → All P inputs → P (expr place (ExprKind-F.Call f inputs))
  call_shown place f inputs each copies_named ty typed =
      shows_as ty (made_of site (expr place (ExprKind-F.Call f inputs))) (made_call (slice_get earlier f) (map arg_of (map (made_of site) inputs)))
      (meaning_of sees (expr place (ExprKind-F.Call f inputs)) view)
      (option_and_then (call_datum (values_of (map (meaning_of sees) inputs) view)) (slice_get callees f))
      (rw (fold-roll-Expr, fold-roll-ExprKind) refl) (rw (fold-roll-Expr, fold-roll-ExprKind) refl)
      (call_by f inputs ty each (rw (fold-roll-Expr, fold-roll-ExprKind) at copies_named) (rw (fold-roll-Expr, fold-roll-ExprKind) at typed))

  -- ---- parts of paths

  element_is : (a c : Ty) (layer : Ty-F Ty) → out-Ty a ≡ layer → element_in layer ≡ Some c → (n : ℕ) × (out-Ty a ≡ Ty-F.Array n c)
  element_is a c (Ty-F.Scalar s) is found = absurd (cc)
  element_is a c (Ty-F.Struct s) is found = absurd (cc)
  element_is a c (Ty-F.Array n inner) is found = (n, is ∙ ap (Ty-F.Array n) (same_Some inner c found))

  -- an index whose type is a whole number
  index_typed : (index : Option Ty) (t : Option Ty) (c : Ty) → where_whole index t ≡ Some c →
      (s : ScalarType) × (option_and_then scalar_in index ≡ Some s) × (t ≡ Some c)
  index_typed None t c is = absurd (cc)
  index_typed (Some ty) t c is = by (scalar_in ty) refl is
    where
      by : (o : Option ScalarType) → scalar_in ty ≡ o → option_and_then (λ s. if is_whole s then t else None) o ≡ Some c →
          (s : ScalarType) × (option_and_then scalar_in (Some ty) ≡ Some s) × (t ≡ Some c)
      by None found h = absurd (cc)
      by (Some s) found h = (s, found, (where_holds (is_whole s) t c h).1)

  -- what the step to an element comes to
  element_answer : (signed : Bool) (code : CExpr) (n : ℕ) → (ways (c_element elements_name (c_index signed code n)) scope here).answer
      ≡ option_map (λ parts. member elements_name ∷ parts) (option_and_then (λ i. element_part (index_within i (pos n))) (gives scope here code))
  element_answer signed code n =
      ap (λ (c : Counted (List memory.Projection)). c.answer) (element-way scope here elements_name signed code n)
      ∙ by (value_c code scope here).count (value_c code scope here).answer
    where
      inner : (m : ℕ) (o : Option (List memory.Projection)) →
          (next (record { count = m; answer = o }) (λ parts. given (Some (member elements_name ∷ parts)))).answer
          ≡ option_map (λ parts. member elements_name ∷ parts) o
      inner m None = refl
      inner m (Some parts) = refl

      by : (m : ℕ) (o : Option CValue) →
          (next (next (record { count = m; answer = o }) (λ i. given (element_part (index_within (memory.scalar_number i) (pos n)))))
          (λ parts. given (Some (member elements_name ∷ parts)))).answer
          ≡ option_map (λ parts. member elements_name ∷ parts) (option_and_then (λ i. element_part (index_within i (pos n))) (num o))
      by m None = refl
      by m (Some v) = inner (m + 0) (element_part (index_within (memory.scalar_number v) (pos n)))

  index_known : (a c : Ty) (n : ℕ) (is : out-Ty a ≡ Ty-F.Array n c) (value : Value) → Fits structs a value → (s : ScalarType) (x : Option ℤ)
      (datum : Option Datum) → Known s x datum →
      OneStep structs a c value (option_map (λ parts. member elements_name ∷ parts) (option_and_then (λ i. element_part (index_within i (pos n))) x))
      (option_and_then position_in (option_and_then operand_in datum))
  index_known a c n is value fit s None None known = refl
  index_known a c n is value fit s None (Some datum) known = absurd known
  index_known a c n is value fit s (Some i) None known = absurd known
  index_known a c n is value fit s (Some i) (Some (OfWhole inner)) known = absurd known
  index_known a c n is value fit s (Some i) (Some (OfScalar t m)) known =
      subst (λ m. OneStep structs a c value (option_map (λ parts. member elements_name ∷ parts) (element_part (index_within i (pos n)))) (position_of m))
      known.1 (element_steps structs sound.structs_stand a c n is value fit s i known.2)

  -- the step of a part, beside the position that the part stands for, and the type behind it
  abbrev PartShows : Part → Ty → Ty → Type 0
  PartShows part a c =
      ((value : Value) → Fits structs a value →
      OneStep structs a c value (ways (step_typing site part (Some a)).step scope here).answer (part_of_path sees part view))
      × ((step_typing site part (Some a)).ty ≡ Some c)

  part_by : (layer : Part-F ExprKind Part Expr Path) (a c : Ty) → OfIndex P layer → copied_in_part copied (roll-Part layer) ≡ true →
      type_of_part site (roll-Part layer) a ≡ Some c → PartShows (roll-Part layer) a c
  part_by (Part-F.Field k) a c shown copies_named typed =
      let steps = field_steps structs sound.structs_stand a c k (rw fold-roll-Part at typed) in
      rw (fold-roll-Part, fold-roll-Part) (
        λ value fit. subst (λ o. OneStep structs a c value o (Some k)) (sym (ap (λ (c : Counted (List memory.Projection)). c.answer) (step-way scope here _)))
            (steps.0 value fit),
        steps.1,
      )
  part_by (Part-F.Index e) a c shown copies_named typed =
      let found = index_typed (type_of site e) (element_in (out-Ty a)) c (rw fold-roll-Part at typed) in
      let o = operands e found.0 shown (rw fold-roll-Part at copies_named) found.1 in
      let inner = element_is a c (out-Ty a) refl found.2 in
      let long : length_in (out-Ty a) ≡ inner.0 = ap length_in inner.1 in
      rw (fold-roll-Part, fold-roll-Part) (
        λ value fit. subst (λ n. OneStep structs a c value
            (ways (c_element elements_name (c_index (is_int (type_made (made_of site e))) (code_of (made_of site e))
            n)) scope here).answer (option_and_then position_in (operand (meaning_of sees e) view))) (sym long)
            (subst (λ answer. OneStep structs a c value answer (option_and_then position_in (operand (meaning_of sees e) view)))
            (sym (element_answer (is_int (type_made (made_of site e))) (code_of (made_of site e)) inner.0))
            (index_known a c inner.0 inner.1 value fit found.0 (gives scope here (code_of (made_of site e))) (meaning_of sees e view) o.known)),
        found.2,
      )

  part_shows : (part : Part) (a c : Ty) → OfIndex P (out-Part part) → copied_in_part copied part ≡ true → type_of_part site part a ≡ Some c →
      PartShows part a c
  part_shows part a c = subst
      (λ part. OfIndex P (out-Part part) → copied_in_part copied part ≡ true → type_of_part site part a ≡ Some c → PartShows part a c)
      (roll-out-Part part)
      (λ shown. part_by (out-Part part) a c (subst (OfIndex P) (out-roll-Part (out-Part part)) shown))

  abbrev walk_of : List Part → Option Ty → Option (List (List memory.Projection))
  walk_of parts ty = (each_of (map ways (steps_of (map (step_typing site) parts) ty)) scope here).answer

  parts_show : (parts : List Part) → EachIndex P parts → all_of (map (copied_in_part copied) parts) ≡ true → (a b : Ty) →
      after_parts (map (type_of_part site) parts) a ≡ Some b → (value : Value) → Fits structs a value →
      ManySteps structs a b value (walk_of parts (Some a)) (positions_of (map (part_of_path sees) parts) view)
  parts_show [] each all a b typed value fit = no_steps structs a b value typed
  parts_show (part ∷ rest) each all a b typed value fit =
      let found = some_found (after_parts (map (type_of_part site) rest)) (type_of_part site part a) b typed in
      let c : Ty = found.0 in
      let one = part_shows part a c (All-head (λ part. OfIndex P (out-Part part)) part rest each)
      (and_first (copied_in_part copied part) (all_of (map (copied_in_part copied) rest)) all) found.1 in
      let more : (inner : Value) → Fits structs c inner →
      ManySteps structs c b inner (walk_of rest (step_typing site part (Some a)).ty) (positions_of (map (part_of_path sees) rest) view) =
      λ inner fits. subst (λ ty. ManySteps structs c b inner (walk_of rest ty) (positions_of (map (part_of_path sees) rest) view)) (sym one.1)
      (parts_show rest (All-tail (λ part. OfIndex P (out-Part part)) part rest each)
      (and_second (copied_in_part copied part) (all_of (map (copied_in_part copied) rest)) all) c b found.2 inner fits) in
      subst (λ o. ManySteps structs a b value o (positions_of (map (part_of_path sees) (part ∷ rest)) view))
      (sym (listed-answer (ways (step_typing site part (Some a)).step scope here)
      (each_of (map ways (steps_of (map (step_typing site) rest) (step_typing site part (Some a)).ty)) scope here)))
      (one_more structs a c b value (ways (step_typing site part (Some a)).step scope here).answer (part_of_path sees part view)
      (walk_of rest (step_typing site part (Some a)).ty) (positions_of (map (part_of_path sees) rest) view) (one.0 value fit)
      (λ way s. more s.has.part s.has.fits))

  -- ---- paths

  abbrev led_to : ℕ → List (List memory.Projection) → Location
  led_to root = led scope here (is_activity site.kind) (home_at site root) site.vars root

  leads_by : (root : ℕ) (var : Var) (written ty : Ty) (value : Value) (walked : Option (List (List memory.Projection))) (positions : View → Option (List ℕ)) →
      var_at site root ≡ Some var → slice_get view.now root ≡ Some value → ManySteps structs var.ty ty value walked (positions view) →
      PlaceSimulates site view scope ty (option_map (led_to root) walked) (record { root = root; ty = written; positions = positions })
  leads_by root var written ty value None positions there stored steps = by (positions view) steps
    where
      by : (o : Option (List ℕ)) → option_and_then (λ ks. value_at ks value) o ≡ None → option_and_then (read_at root view.now) o ≡ None
      by None h = refl
      by (Some ks) h = ap (option_and_then (value_at ks)) stored ∙ h
  leads_by root var written ty value (Some walked) positions there stored w = record {
    var = var;
    is_there = there;
    ks = w.ks;
    are = w.are;
    typed = w.typed;
    at = ap (λ way. further (start_in scope (is_activity site.kind) (home_at site root) site.vars root)
        (lead_in (home_at site root) site.vars root ++ way)) w.at;
    value = w.part;
    is = ap (option_and_then (value_at w.ks)) stored ∙ w.is;
  }

  path_shown : (place : Place) (root : ℕ) (parts : List Part) (written : Ty) → EachIndex P parts →
      Q (roll-Path (record { place = place; root = root; parts = parts; ty = written }))
  path_shown place root parts written each copies_named ty typed =
      let whole = some_found (where_same written) (option_and_then (λ (var : Var). after_parts (map (type_of_part site) parts) var.ty)
      (slice_get unit.vars root)) ty (rw fold-roll-Path at typed) in
      let found = some_found (λ (var : Var). after_parts (map (type_of_part site) parts) var.ty) (slice_get unit.vars root) whole.0 whole.1 in
      let var : Var = found.0 in
      let is = where_holds (same_type written whole.0) (Some whole.0) ty whole.2 in
      let same : whole.0 ≡ ty = same_Some whole.0 ty is.1 in
      let stored = pass_at (λ (var : Var). value_fits structs var.ty) unit.vars view.now root var now_fits found.1 in
      let steps = parts_show parts each (rw fold-roll-Path at copies_named) var.ty ty (found.2 ∙ ap Some same) stored.0 stored.2 in
      rw (fold-roll-Path, fold-roll-Path) (
        subst (λ o. PlaceSimulates site view scope ty o (record { root = root; ty = written; positions = positions_of (map (part_of_path sees) parts) }))
            (sym (place_answer scope here (is_activity site.kind) (home_at site root) site.vars root
            (steps_of (map (step_typing site) parts) (type_at (var_at site root)))
            ∙ ap (λ ty. option_map (led_to root) (walk_of parts ty)) (ap type_at found.1)))
            (leads_by root var written ty stored.0 (walk_of parts (Some var.ty)) (positions_of (map (part_of_path sees) parts)) found.1 stored.1 steps),
        same_type_is written whole.0 is.0 ∙ same,
      )

  cases : Cases P Q
  cases = record {
    literal = literal_shown;
    read = read_shown;
    prev = prev_shown;
    one = one_shown;
    two = two_shown;
    cast = cast_shown;
    call = call_shown;
    path = path_shown;
  }

  -- what is made of an expression shows what it means
  pub made_shows : (e : Expr) → P e
  made_shows = induct P Q cases

  -- and where the place of a path leads
  pub place_leads : (path : Path) → Q path
  place_leads = induct_path P Q cases
