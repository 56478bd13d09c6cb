-- The C of assignments and declarations leaves what they leave.
use Rattle.std.proofs.Common.{◌≡◌, ℕ, zero, suc, pos, Bool, true, false, ◌&&◌, ◌||◌, List, [], ◌∷◌, ◌++◌, take, Option, Some, None}
use Rattle.std.proofs.Common.{refl, sym, ap, ◌∙◌, subst, IfSome}
use Rattle.std.proofs.lemmas.Bool.{eq-eqb, eqb-true}
use Rattle.std.proofs.lemmas.Option.{same_Some}
use Rattle.std.specs.Prelude.{is_some, nat_eq, option_and_then, option_map, slice_get, slice_set, unwrap_or, if◌then◌else◌}
use Rattle.bl_tree.proofs.Basics.{and_first, and_second}
use Rattle.bl_tree.specs.declared.c.CExpr.{CExpr}
use Rattle.bl_tree.specs.declared.c.CStmt.{CStmt}
use Rattle.bl_tree.specs.declared.scalar.Scalar.{Scalar as ScalarType}
use Rattle.bl_tree.specs.declared.tree.Expr.{Expr}
use Rattle.bl_tree.specs.declared.tree.Path.{Path, out-Path}
use Rattle.bl_tree.specs.declared.tree.Role.{Role}
use Rattle.bl_tree.specs.declared.tree.Role.TheVariants.{Input, Output, Variable, Fixed}
use Rattle.bl_tree.specs.declared.tree.StructDef.{StructDef}
use Rattle.bl_tree.specs.declared.tree.Ty.{Ty}
use Rattle.bl_tree.specs.declared.tree.Unit.{Unit as UnitDef}
use Rattle.bl_tree.specs.declared.tree.Var.{Var}
use Rattle.bl_tree.specs.declared.value.Value.{Value}
use Rattle.bl_tree.specs.Program.{IsWellTyped, is_input}
use Rattle.bl_tree.specs.Types.{scalar_in}
use Rattle.bl_tree.specs.Typing.{TypingContext, are_same, declaration_fits, is_activity, is_assignable, is_fixed, is_variable, may_change, site_of, type_of}
use Rattle.bl_tree.specs.Typing.{type_of_path}
use Rattle.bl_tree.specs.Typing.{var_at}
use Rattle.bl_eval.specs.Functions.{assigned, callees_of, declared, initial_value, scope_among}
use Rattle.bl_eval.specs.Changes.{with_element_at}
use Rattle.bl_eval.specs.Meaning.{PathMeaning, Scope as Sees, View, meaning_of, path_meaning_of, read_at, value_in}
use Rattle.bl_eval.specs.Values.{put_at, value_fits, zero_of}
use Rattle.bl_eval.proofs.ActFits.{same_found}
use Rattle.bl_eval.proofs.ExprFits.{Sound, expr_fits}
use Rattle.bl_eval.proofs.MeaningLemmas.{spot_out}
use Rattle.bl_eval.proofs.OperatorFits.{DatumFits}
use Rattle.bl_eval.proofs.PartLemmas.{put_at_is}
use Rattle.bl_eval.proofs.PassLemmas.{pass_at}
use Rattle.bl_eval.proofs.UnitFits.{sound_at}
use Rattle.bl_ctext_semantics.specs.Course.{Outcome}
use Rattle.bl_ctext_semantics.specs.Memory.{CValue, Location, Memory, Projection, scalar, set_at, value_at, zeros}
use Rattle.bl_ctext_semantics.specs.Meaning.{Counted, Scope, block_c, location_c, runs_c, value_c}
use Rattle.bl_emit_acts.specs.Acts.{c_clear, c_copied, c_set, c_zeroed, code_made, copy_code, declared_code, initial_code, is_copied, zeroed}
use Rattle.bl_emit_acts.specs.Expressions.{made_of, stands, type_at}
use Rattle.bl_emit_acts.specs.Places.{place_in}
use Rattle.bl_emit_acts.specs.Trees.{c_literal, c_place, c_read}
use Rattle.bl_emit_acts.specs.Types.{c_scalar, copy_name, type_name}
use Rattle.bl_emit_acts_laws_simulation.specs.Acts.{RepresentsAfter, Simulates, copy_location, remembered}
use Rattle.bl_emit_acts_laws_simulation.specs.Encodes.{Encodes, copied_in, copied_in_path, home_at, location_in, type_after, way_to}
use Rattle.bl_emit_acts_laws_simulation.specs.Laws.{BesideActs}
use Rattle.bl_emit_acts_laws_simulation.specs.Simulation.{PlaceSimulates}
use Rattle.bl_emit_acts_laws_simulation.proofs.Cells.{apart_flip, apart_inside, lies_inside, set_elsewhere}
use Rattle.bl_emit_acts_laws_simulation.proofs.Evaluated.{literal-value, place-location}
use Rattle.bl_emit_acts_laws_simulation.proofs.Parts.{holds_same}
use Rattle.bl_emit_acts_laws_simulation.proofs.Places.{place_answer}
use Rattle.bl_emit_acts_laws_simulation.proofs.Statements.{Ends, clear_ends, one_ends, set_after, set_ends, then_ends}
use Rattle.bl_emit_acts_laws_simulation.proofs.Values.{ValueShows, read_gives, value_shows}
use Rattle.bl_emit_acts_laws_simulation.proofs.Whole.{expressions, places, writes}
use Rattle.bl_emit_acts_laws_simulation.proofs.Writes.{apart_same, same_object}
use Rattle.bl_emit_acts_laws_simulation.proofs.Written.{set_other, set_same}
use Rattle.bl_emit_acts_laws_simulation.proofs.Zeros.{zero_holds}

-- ---- variables that may be written

open_by : (role : Role) (var found : Var) → (if may_change role then Some var else None) ≡ Some found → is_input role ≡ false
open_by Input var found h = absurd (cc)
open_by Output var found h = refl
open_by Variable var found h = refl
open_by Fixed var found h = absurd (cc)

some_there : {A : Type 0} (o : Option A) → is_some o ≡ true → (x : A) × (o ≡ Some x)
some_there None h = absurd (cc)
some_there (Some x) h = (x, refl)

pub assignable_open : (site : TypingContext) (path : Path) (var : Var) → is_assignable site path ≡ true → var_at site (out-Path path).root ≡ Some var →
    is_input var.role ≡ false
assignable_open site path var h there =
    let found = some_there (option_and_then (λ (var : Var). if may_change var.role then Some var else None) (var_at site (out-Path path).root)) h in
    open_by var.role var found.0 (sym (ap (option_and_then (λ (var : Var). if may_change var.role then Some var else None)) there) ∙ found.1)

pub declared_open_by : (role : Role) → (is_variable role || is_fixed role) ≡ true → is_input role ≡ false
declared_open_by Input h = absurd (cc)
declared_open_by Output h = absurd (cc)
declared_open_by Variable h = refl
declared_open_by Fixed h = refl

variable_open : (role : Role) → is_variable role ≡ true → is_input role ≡ false
variable_open Input h = absurd (cc)
variable_open Output h = absurd (cc)
variable_open Variable h = refl
variable_open Fixed h = absurd (cc)

declared_var : (site : TypingContext) (initial : Option Expr) (var : Option Var) → declaration_fits site initial var ≡ true →
    (found : Var) × (var ≡ Some found) × (is_input found.role ≡ false)
declared_var site (Some e) (Some var) h =
    (var, refl, declared_open_by var.role (and_first (is_variable var.role || is_fixed var.role) (are_same (Some var.ty) (type_of site e)) h))
declared_var site None (Some var) h = (var, refl, variable_open var.role h)
declared_var site (Some e) None h = absurd (cc)
declared_var site None None h = absurd (cc)

-- ---- lists that were set

set_is : {A : Type 0} (xs : List A) (k : ℕ) (x y : A) → slice_get (slice_set xs k x) k ≡ Some y → x ≡ y
set_is [] k x y h = absurd (cc)
set_is (z ∷ xs) zero x y h = same_Some x y h
set_is (z ∷ xs) (suc k) x y h = set_is xs k x y h

pub flipped : (j k : ℕ) → nat_eq j k ≡ false → nat_eq k j ≡ false
flipped j k h = by (nat_eq k j) refl
  where
    no_such : true ≡ false → ⊥
    no_such h = cc

    by : (same : Bool) → nat_eq k j ≡ same → same ≡ false
    by true is = absurd (no_such (sym (eq-eqb j k (sym (eqb-true k j is))) ∙ h))
    by false is = refl

no_put : (root : ℕ) (new : Value) (now : List Value) (positions : Option (List ℕ)) → option_and_then (read_at root now) positions ≡ None →
    option_and_then (λ ks. put_at root ks new now) positions ≡ None
no_put root new now None h = refl
no_put root new now (Some ks) h = put_at_is root ks new now ∙ ap (option_map (λ found. with_element_at root ks new now)) h

module _ (structs : List StructDef) (units : List UnitDef) (entry : ℕ) (k : ℕ) (unit : UnitDef) (view : View) (copies : List Bool) (scope : Scope)
    (here : Memory) (keeps : IsWellTyped structs units entry) (b : BesideActs structs units k unit view (is_copied copies) scope here) where
  abbrev pub site : TypingContext
  site = site_of structs (take k units) unit

  abbrev pub sees : Sees
  sees = scope_among structs (callees_of structs (take k units)) unit

  abbrev copied : ℕ → Bool
  copied = is_copied copies

  sound : Sound structs (take k units) unit (callees_of structs (take k units))
  sound = sound_at structs units entry k unit keeps b.beside.is_there

  pub fits_of : (e : Expr) (ty : Ty) → type_of site e ≡ Some ty → IfSome (meaning_of sees e view) (DatumFits structs ty)
  fits_of = expr_fits structs (take k units) unit (callees_of structs (take k units)) sound view b.beside.fitting.now b.beside.fitting.before

  -- what an expression gives in C
  gives_value : (e : Expr) (ty : Ty) → type_of site e ≡ Some ty → copied_in copied e ≡ true →
      ValueShows structs ty (value_c (code_made site e) scope here).answer (value_in sees e view)
  gives_value e ty typed named =
      value_shows structs scope here ty (made_of site e) (meaning_of sees e view)
      (expressions structs units entry k unit e ty view copied scope here keeps b.beside typed named) (fits_of e ty typed)

  -- ---- a part of a variable is set

  wrote : (root : ℕ) (var : Var) (ks : List ℕ) (ty : Ty) (new : Value) (held : CValue) (made : List Value) → var_at site root ≡ Some var →
      is_input var.role ≡ false → type_after structs ks (Some var.ty) ≡ Some ty
      → Encodes structs ty new held → put_at root ks new view.now ≡ Some made →
      RepresentsAfter site copied scope here made view.before (set_at here (location_in scope site root (way_to structs ks (Some var.ty))) held)
  wrote root var ks ty new held made known writable typed holds put =
      let way = way_to structs ks (Some var.ty) in
      let place = location_in scope site root way in
      record {
        variables = writes structs units entry k unit scope here view.now made root var ks ty new held keeps (record {
          is_there = b.beside.is_there;
          fits = b.beside.fitting.now;
          variables = b.beside.variables;
          apart = b.apart;
          known = known;
          written = writable;
          typed = typed;
          holds = holds;
          put = put;
        });
        copies = record {
          each = λ j other value copied_j there stored.
              holds_same structs other.ty value (value_at here (copy_location scope site.vars j))
              (value_at (set_at here place held) (copy_location scope site.vars j))
              (λ rest. sym (apart_same here place held (copy_location scope site.vars j)
              (apart_inside scope site root way (copy_location scope site.vars j) (b.copies_apart.variables root j var known copied_j)) rest))
              (b.beside.copies.each j other value copied_j there stored);
        };
        kept = λ at rest foreign. set_elsewhere here place held at rest (lies_inside scope site root way at rest (foreign.variables root var known writable));
      }

  -- ---- assignments

  module _ (ty : Ty) (spot : PathMeaning) (writable : (var : Var) → var_at site spot.root ≡ Some var → is_input var.role ≡ false) where
    assigned_by : (at : Option Location) (held : Option CValue) (value : Option Value) (o : Outcome Memory) → ValueShows structs ty held value →
        PlaceSimulates site view scope ty at spot → Ends o (set_after scope here at held) →
        Simulates site copied scope here (λ now. view.before) (assigned spot value view) o
    assigned_by None None None o shown leads h = h
    assigned_by (Some p) None None o shown leads h = h
    assigned_by at None (Some new) o shown leads h = absurd shown
    assigned_by at (Some held) None o shown leads h = absurd shown
    assigned_by None (Some held) (Some new) o shown leads h =
        subst (λ made. Simulates site copied scope here (λ now. view.before) made o) (sym (no_put spot.root new view.now (spot.positions view) leads)) h
    assigned_by (Some p) (Some held) (Some new) o shown r h =
        let made : List Value = with_element_at spot.root r.ks new view.now in
        let put : put_at spot.root r.ks new view.now ≡ Some made =
        put_at_is spot.root r.ks new view.now ∙ ap (option_map (λ found. with_element_at spot.root r.ks new view.now)) r.is in
        subst (λ made. Simulates site copied scope here (λ now. view.before) made o)
        (sym (ap (option_and_then (λ ks. put_at spot.root ks new view.now)) r.are ∙ put)) (
          h.0,
          subst (RepresentsAfter site copied scope here made view.before) (sym (h.1 ∙ ap (λ p. set_at here p held) r.at))
              (wrote spot.root r.var r.ks ty new held made r.is_there (writable r.var r.is_there) r.typed shown put),
        )

  pub assign_comes : (path : Path) (e : Expr) → (is_assignable site path && are_same (type_of_path site path) (type_of site e)) ≡ true →
      copied_in_path copied path ≡ true → copied_in copied e ≡ true →
      Simulates site copied scope here (λ now. view.before) (assigned (path_meaning_of sees path) (value_in sees e view) view)
      (block_c (c_set (stands site path).place (code_made site e) ∷ []) scope here)
  assign_comes path e fitted path_named named =
      let same = and_second (is_assignable site path) (are_same (type_of_path site path) (type_of site e)) fitted in
      let found = same_found (type_of_path site path) (type_of site e) same in
      let place = (stands site path).place in
      assigned_by found.0 (path_meaning_of sees path)
      (λ var there. assignable_open site path var (and_first (is_assignable site path) (are_same (type_of_path site path) (type_of site e)) fitted)
      (sym (ap (λ (spot : PathMeaning). var_at site spot.root) (spot_out sees path)) ∙ there))
      (location_c place scope here).answer (value_c (code_made site e) scope here).answer (value_in sees e view)
      (block_c (c_set place (code_made site e) ∷ []) scope here)
      (gives_value e found.0 found.2 named)
      (places structs units entry k unit path found.0 view copied scope here keeps b.beside found.1 path_named)
      (one_ends scope here (c_set place (code_made site e)) (set_after scope here (location_c place scope here).answer
      (value_c (code_made site e) scope here).answer) (set_ends scope here place (code_made site e)))

  -- ---- declarations

  -- where a variable stands
  variable_answer : (m : Memory) (j : ℕ) → (location_c (place_in site j []) scope m).answer ≡ Some (location_in scope site j [])
  variable_answer m j = place_answer scope m (is_activity site.kind) (home_at site j) site.vars j []

  copy_answer : (m : Memory) (j : ℕ) → (location_c (c_place false (copy_name site.vars j) []) scope m).answer ≡ Some (copy_location scope site.vars j)
  copy_answer m j = ap (λ (c : Counted Location). c.answer) (place-location scope m false (copy_name site.vars j) [])

  -- the statement that sets a variable to its initial value
  record Begins (j : ℕ) (var : Var) (initial : Option Expr) : Type 0 where
    first : CStmt
    is : initial_code site j initial ≡ first ∷ []
    held : Option CValue
    shown : ValueShows structs var.ty held (initial_value sees j initial view)
    ends : Ends (runs_c first scope here) (option_map (set_at here (location_in scope site j [])) held)

  set_there : (j : ℕ) (e : CExpr) → Ends (runs_c (c_set (place_in site j []) e) scope here)
      (option_map (set_at here (location_in scope site j [])) (value_c e scope here).answer)
  set_there j e =
      subst (λ at. Ends (runs_c (c_set (place_in site j []) e) scope here) (set_after scope here at (value_c e scope here).answer))
      (variable_answer here j) (set_ends scope here (place_in site j []) e)

  zero_everywhere : (way : List Projection) → scalar (pos 0) way ≡ pos 0
  zero_everywhere [] = refl
  zero_everywhere (p ∷ way) = refl

  record Zeroed (j : ℕ) (var : Var) (s : CStmt) : Type 0 where
    held : CValue
    holds : Encodes structs var.ty (zero_of structs var.ty) held
    ends : Ends (runs_c s scope here) (Some (set_at here (location_in scope site j []) held))

  zeroed_by : (j : ℕ) (var : Var) (s : Option ScalarType) → Zeroed j var (c_zeroed structs (place_in site j []) var.ty s)
  zeroed_by j var (Some s) = record {
    held = scalar (pos 0);
    holds = zero_holds structs var.ty (scalar (pos 0)) zero_everywhere;
    ends = subst (λ (c : Counted CValue). Ends (runs_c (c_set (place_in site j []) (c_literal (c_scalar s) (pos 0))) scope here)
        (option_map (set_at here (location_in scope site j [])) c.answer))
        (literal-value scope here (c_scalar s) (pos 0)) (set_there j (c_literal (c_scalar s) (pos 0)));
  }
  zeroed_by j var None = record {
    held = zeros;
    holds = zero_holds structs var.ty zeros (λ way. refl);
    ends = subst (λ at. Ends (runs_c (c_clear (place_in site j []) (type_name structs var.ty)) scope here) (option_map (λ p. set_at here p zeros) at))
        (variable_answer here j) (clear_ends scope here (place_in site j []) (type_name structs var.ty));
  }

  begins : (j : ℕ) (var : Var) (initial : Option Expr) → var_at site j ≡ Some var → declaration_fits site initial (Some var) ≡ true →
      ((e : Expr) → initial ≡ Some e → copied_in copied e ≡ true) → Begins j var initial
  begins j var (Some e) there fitted named =
      let found = same_found (Some var.ty) (type_of site e)
      (and_second (is_variable var.role || is_fixed var.role) (are_same (Some var.ty) (type_of site e)) fitted) in
      record {
        first = c_set (place_in site j []) (code_made site e);
        is = refl;
        held = (value_c (code_made site e) scope here).answer;
        shown = gives_value e var.ty (found.2 ∙ sym found.1) (named e refl);
        ends = set_there j (code_made site e);
      }
  begins j var None there fitted named =
      let z = zeroed_by j var (scalar_in var.ty) in
      record {
        first = c_zeroed structs (place_in site j []) var.ty (scalar_in var.ty);
        is = ap (λ at. zeroed structs (place_in site j []) (type_at at)) there;
        held = Some z.held;
        shown = subst (ValueShows structs var.ty (Some z.held)) (sym (ap (option_map (λ (var : Var). zero_of structs var.ty)) there)) z.holds;
        ends = z.ends;
      }

  module _ (j : ℕ) (var : Var) (there : var_at site j ≡ Some var) (made : List Value) (value : Value) (found : slice_get made j ≡ Some value)
      (m : Memory) (left : RepresentsAfter site copied scope here made view.before m) where
    abbrev before : List Value
    before = remembered j made view.before

    before_is : before ≡ slice_set view.before j value
    before_is = ap (λ o. unwrap_or (option_map (slice_set view.before j) o) view.before) found

    abbrev at : Location
    at = location_in scope site j []

    abbrev copy : Location
    copy = copy_location scope site.vars j

    abbrev recalled : Memory
    recalled = set_at m copy (value_at m at)

    -- what was before, of another variable
    other_before : (i : ℕ) (v : Value) → nat_eq j i ≡ false → slice_get before i ≡ Some v → slice_get view.before i ≡ Some v
    other_before i v differ stored =
        sym (set_other view.before i j value (flipped j i differ)) ∙ (sym (ap (λ before. slice_get before i) before_is) ∙ stored)

    own_copy : (v : Value) → slice_get before j ≡ Some v → Encodes structs var.ty v (value_at recalled copy)
    own_copy v stored =
        let same : value ≡ v = set_is view.before j value v (sym (ap (λ before. slice_get before j) before_is) ∙ stored) in
        subst (λ v. Encodes structs var.ty v (value_at recalled copy)) same
        (holds_same structs var.ty value (value_at m at) (value_at recalled copy) (λ way. sym (same_object m copy (value_at m at) way))
        (left.variables.each j var value there found))

    copy_by : (copied j ≡ true) → (i : ℕ) (same : Bool) → nat_eq j i ≡ same → (other : Var)
        (v : Value) → copied i ≡ true → var_at site i ≡ Some other →
        slice_get before i ≡ Some v → Encodes structs other.ty v (value_at recalled (copy_location scope site.vars i))
    copy_by has i true is other v copied_i known stored =
        let i_is : j ≡ i = eqb-true j i is in
        let one : var ≡ other = same_Some var other (sym there ∙ (ap (var_at site) i_is ∙ known)) in
        subst (λ i. Encodes structs other.ty v (value_at recalled (copy_location scope site.vars i))) i_is
        (subst (λ (other : Var). Encodes structs other.ty v (value_at recalled copy)) one (own_copy v (ap (slice_get before) i_is ∙ stored)))
    copy_by has i false is other v copied_i known stored =
        holds_same structs other.ty v (value_at m (copy_location scope site.vars i)) (value_at recalled (copy_location scope site.vars i))
        (λ way. sym (apart_same m copy (value_at m at) (copy_location scope site.vars i) (b.copies_apart.others j i var other there known has copied_i is) way))
        (left.copies.each i other v copied_i known (other_before i v is stored))

    pub recalls : copied j ≡ true → RepresentsAfter site copied scope here made before recalled
    recalls has = record {
      variables = record {
        each = λ i other v known stored.
            holds_same structs other.ty v (value_at m (location_in scope site i [])) (value_at recalled (location_in scope site i []))
            (λ way. sym (apart_same m copy (value_at m at) (location_in scope site i [])
            (apart_flip (location_in scope site i []) copy (b.copies_apart.variables i j other known has)) way))
            (left.variables.each i other v known stored);
      };
      copies = record { each = λ i other v copied_i known stored. copy_by has i (nat_eq j i) refl other v copied_i known stored };
      kept = λ root way foreign. set_elsewhere m copy (value_at m at) root way (foreign.copies j has) ∙ left.kept root way foreign;
    }

    stays_by : copied j ≡ false → (i : ℕ) (same : Bool) → nat_eq j i ≡ same → (other : Var)
        (v : Value) → copied i ≡ true → var_at site i ≡ Some other →
        slice_get before i ≡ Some v → Encodes structs other.ty v (value_at m (copy_location scope site.vars i))
    stays_by has i true is other v copied_i known stored =
        absurd (let no = sym has ∙ (ap copied (eqb-true j i is) ∙ copied_i) in cc)
    stays_by has i false is other v copied_i known stored = left.copies.each i other v copied_i known (other_before i v is stored)

    pub stays : copied j ≡ false → RepresentsAfter site copied scope here made before m
    stays has = record {
      variables = left.variables;
      copies = record { each = λ i other v copied_i known stored. stays_by has i (nat_eq j i) refl other v copied_i known stored };
      kept = left.kept;
    }

    -- the copy is set where there is one
    pub remembers : (has : Bool) → copied j ≡ has → Ends (block_c (copy_code site has j) scope m)
        (Some (if has then recalled else m)) × RepresentsAfter site copied scope here made before (if has then recalled else m)
    remembers true is = (
      one_ends scope m (c_copied site j) (Some recalled)
          (subst (λ value. Ends (runs_c (c_copied site j) scope m) (set_after scope m (Some copy) value))
          (read_gives structs scope m (place_in site j []) at (variable_answer m j))
          (subst (λ place. Ends (runs_c (c_copied site j) scope m) (set_after scope m place (value_c (c_read (place_in site j [])) scope m).answer))
          (copy_answer m j) (set_ends scope m (c_place false (copy_name site.vars j) []) (c_read (place_in site j []))))),
      recalls is,
    )
    remembers false is = ((refl, refl), stays is)

  comes_by : (j : ℕ) (var : Var) (there : var_at site j ≡ Some var) (writable : is_input var.role ≡ false) (first : CStmt) (held : Option CValue)
      (value : Option Value) → ValueShows structs var.ty held value →
      Ends (runs_c first scope here) (option_map (set_at here (location_in scope site j [])) held) →
      Simulates site copied scope here (λ now. remembered j now view.before) (option_and_then (λ value. put_at j [] value view.now) value)
      (block_c (first ∷ copy_code site (copied j) j) scope here)
  comes_by j var there writable first None None shown ends =
      then_ends scope here first (copy_code site (copied j) j) None Some ends (λ m is. absurd (cc))
  comes_by j var there writable first None (Some new) shown ends = absurd shown
  comes_by j var there writable first (Some held) None shown ends = absurd shown
  comes_by j var there writable first (Some held) (Some new) shown ends =
      let stored = pass_at (λ (var : Var). value_fits structs var.ty) unit.vars view.now j var b.beside.fitting.now there in
      let made : List Value = slice_set view.now j new in
      let put : put_at j [] new view.now ≡ Some made = ap (option_and_then (λ old. Some (slice_set view.now j new))) stored.1 in
      let at = location_in scope site j [] in
      let m : Memory = set_at here at held in
      let left : RepresentsAfter site copied scope here made view.before m = wrote j var [] var.ty new held made there writable refl shown put in
      let last = remembers j var there made new (set_same view.now j new stored.0 stored.1) m left (copied j) refl in
      let final : Memory = if copied j then set_at m (copy_location scope site.vars j) (value_at m at) else m in
      let h : Ends (block_c (first ∷ copy_code site (copied j) j) scope here) (Some final) =
      then_ends scope here first (copy_code site (copied j) j) (Some m) (λ k. Some final) ends
      (λ n is. subst (λ n. Ends (block_c (copy_code site (copied j) j) scope n) (Some final)) (same_Some m n is) last.0) in
      subst (λ made. Simulates site copied scope here (λ now. remembered j now view.before) made (block_c (first ∷ copy_code site (copied j) j) scope here))
      (sym put) (h.0, subst (RepresentsAfter site copied scope here made (remembered j made view.before)) (sym h.1) last.1)

  pub declare_comes : (j : ℕ) (initial : Option Expr) → declaration_fits site initial (var_at site j) ≡ true →
      ((e : Expr) → initial ≡ Some e → copied_in copied e ≡ true) →
      Simulates site copied scope here (λ now. remembered j now view.before) (declared sees j initial view)
      (block_c (declared_code site copies j initial) scope here)
  declare_comes j initial fitted named =
      let found = declared_var site initial (var_at site j) fitted in
      let var : Var = found.0 in
      let fitting : declaration_fits site initial (Some var) ≡ true = subst (λ at. declaration_fits site initial at ≡ true) found.1 fitted in
      let first = begins j var initial found.1 fitting named in
      subst (λ code. Simulates site copied scope here (λ now. remembered j now view.before) (declared sees j initial view)
      (block_c (code ++ copy_code site (copied j) j) scope here)) (sym first.is)
      (comes_by j var found.1 found.2 first.first first.held (initial_value sees j initial view) first.shown first.ends)
