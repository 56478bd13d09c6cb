-- Types that are written or that expressions have name structs that are declared, and have lengths.
use Rattle.std.proofs.Common.{◌≡◌, ℕ, suc, ◌≤◌, List, [], ◌∷◌, ◌++◌, map, length, nat_lt, Option, Some, None, refl, ap, sym, subst, ◌∙◌, arith}
use Rattle.std.specs.Prelude.{is_some, Bool, true, ◌&&◌, nat_le, option_and_then, option_map, slice_get, if◌then◌else◌}
use Rattle.std.specs.List.{cons_option, list_all}
use Rattle.bl_types.specs.declared.environment.Variable.{Variable}
use Rattle.bl_types.specs.Units.{is_scalar, is_scalar_level, var_typed, vars_of}
use Rattle.std.proofs.lemmas.Option.{same_Some, slice_get_within}
use Rattle.std.proofs.lemmas.Bool.{and_from}
use Rattle.bl_tree.proofs.Basics.{and_first, and_second, first_empty, second_empty}
use Rattle.bl_tree.specs.declared.place.Place.{Place}
use Rattle.bl_tree.specs.declared.scalar.Op.{Op}
use Rattle.bl_tree.specs.declared.scalar.Scalar.{Scalar as ScalarType}
use Rattle.bl_tree.specs.declared.tree.Expr.{Expr}
use Rattle.bl_tree.specs.declared.tree.ExprKind.{out-roll-ExprKind, roll-ExprKind}
use Rattle.bl_tree.specs.declared.tree.ExprKind.TheOpen.{ExprKind-F, Part-F}
use Rattle.bl_tree.specs.declared.tree.Field.{Field}
use Rattle.bl_tree.specs.declared.tree.Part.{Part, out-Part}
use Rattle.bl_tree.specs.declared.tree.Path.{Path, fold-roll-Path, roll-Path}
use Rattle.bl_tree.specs.declared.tree.StructDef.{StructDef}
use Rattle.bl_tree.specs.declared.tree.Ty.{Ty, fold_out-Ty, fold-roll-Ty, ind-Ty, map-Ty, out-Ty, roll-Ty}
use Rattle.bl_tree.specs.declared.tree.Ty.TheOpen.{Ty-F}
use Rattle.bl_tree.specs.declared.tree.Ty.TheVariants as type
use Rattle.bl_tree.specs.declared.tree.Var.{Var}
use Rattle.bl_tree.specs.Numbers.{takes_one, takes_two, type_of_result}
use Rattle.bl_tree.specs.Reduce.{joined}
use Rattle.bl_tree.specs.Scalar.{in_range, is_whole}
use Rattle.bl_tree.specs.Types.{scalar_at, same_scalar, same_type, scalar, scalar_in, type_stands, type_stands_level}
use Rattle.bl_tree.specs.Typing.{TypingContext, after_parts, call_type, cast_type, element_in, field_in, one_type, prev_type, two_type, type_of, type_of_path}
use Rattle.bl_tree.specs.Typing.{var_at, where_same, where_whole}
use Rattle.bl_tree.proofs.ExprInduction.{Cases, induct}
use Rattle.bl_eval.proofs.OperatorFits.{some_found, where_holds}
use Rattle.bl_eval.proofs.PartFits.{type_of_part}
use Rattle.bl_eval.proofs.PassLemmas.{all_at}
use Rattle.bl_names_tree.specs.declared.item.NamedField.{NamedField}
use Rattle.bl_names_tree.specs.declared.item.NamedStruct.{NamedStruct}
use Rattle.bl_names_tree.specs.declared.types.NamedLength.{NamedLength}
use Rattle.bl_names_tree.specs.declared.types.NamedLength.TheVariants as length_of
use Rattle.bl_names_tree.specs.declared.types.NamedType.{NamedType, fold_out-NamedType, out-NamedType, fold-roll-NamedType, ind-NamedType, map-NamedType}
use Rattle.bl_names_tree.specs.declared.types.NamedType.{roll-NamedType}
use Rattle.bl_names_tree.specs.declared.types.NamedType.TheOpen.{NamedType-F}
use Rattle.bl_names_tree.specs.Placed.{DeclaredBefore, length_placed, struct_placed, type_placed}
use Rattle.bl_types.specs.declared.environment.Constant.{Constant}
use Rattle.bl_types.specs.declared.environment.Environment.{Environment}
use Rattle.bl_names_tree.specs.declared.expr.NamedExpr.{NamedExpr}
use Rattle.bl_types.specs.Declarations.{initial, after_struct, field_lengths, field_of, struct_of}
use Rattle.bl_types.specs.Written.{type_level, as_length, bad_length, bad_lengths, constant_length, is_whole_type, natural, or_zero, place_of_length}
use Rattle.bl_types.specs.Written.{written_length, written_type}
use Rattle.bl_types_laws.specs.Standing.{FieldsStand, VariableKnown}
use Rattle.bl_types_laws.specs.Within.{known_in}
use Rattle.bl_types_laws.specs.inner.Named.{has_scalar}
use Rattle.bl_types_laws.proofs.Forms.{map_found}
use Rattle.bl_types_laws.proofs.MorePlaced.{more_below}
use Rattle.bl_types_laws.proofs.Typed.{kind_at, part_at}

-- ---- written types

abbrev has_length : ℕ → Bool
has_length n = nat_le 1 n && nat_le n 65536

as_length_in : (n m : ℕ) → as_length n ≡ Some m → has_length m ≡ true
as_length_in n m is =
    let holds = where_holds (has_length n) (Some n) m is in
    ap has_length (sym (same_Some n m holds.1)) ∙ holds.0

length_in : (constants : List Constant) (n : NamedLength) (m : ℕ) → written_length constants n ≡ Some m → has_length m ≡ true
length_in constants (length_of.Number n) m is = as_length_in n.value m is
length_in constants (length_of.Constant at k) m is =
    let found = some_found constant_length (slice_get constants k) m is in
    let holds = where_holds (is_whole_type found.0.ty) (option_and_then as_length (natural found.0.value)) m found.2 in
    let number = some_found as_length (natural found.0.value) m holds.1 in
    as_length_in number.0 m number.2

length_stands : (at : Place) (found : Option ℕ) → ((m : ℕ) → found ≡ Some m → has_length m ≡ true) → bad_length at found ≡ [] →
    has_length (or_zero found) ≡ true
length_stands at None each none = absurd (cc)
length_stands at (Some m) each none = each m refl

stands_at : (n : ℕ) (ty : Ty) (layer : Ty-F Ty) → out-Ty ty ≡ layer → type_stands n ty ≡ type_stands_level n (map-Ty Ty Bool (type_stands n) layer)
stands_at n ty layer is = fold_out-Ty Bool (type_stands_level n) ty ∙ ap (λ layer. type_stands_level n (map-Ty Ty Bool (type_stands n) layer)) is

module _ (earlier : DeclaredBefore) (constants : List Constant) where
  abbrev Stands : NamedType → Type 0
  Stands ty = type_placed earlier ty ≡ true → bad_lengths constants ty ≡ [] → type_stands earlier.structs (written_type constants ty) ≡ true

  stands_by : (level : NamedType-F ((ty : NamedType) × Stands ty)) → Stands
      (roll-NamedType (map-NamedType ((ty : NamedType) × Stands ty) NamedType (λ e. e.0) level))
  stands_by (NamedType-F.Scalar s) placed none = rw fold-roll-NamedType (stands_at earlier.structs (type.Scalar s) (Ty-F.Scalar s) (type.outs-Scalar s))
  stands_by (NamedType-F.Struct k) placed none =
      let at : nat_lt k earlier.structs ≡ true = rw fold-roll-NamedType at placed in
      rw fold-roll-NamedType (stands_at earlier.structs (type.Struct k) (Ty-F.Struct k) (type.outs-Struct k) ∙ at)
  stands_by (NamedType-F.Array n element) placed none =
      let at : (length_placed earlier n && type_placed earlier element.0) ≡ true = rw fold-roll-NamedType at placed in
      let good : bad_length (place_of_length n) (written_length constants n) ++ bad_lengths constants element.0 ≡ [] = rw fold-roll-NamedType at none in
      let inner : Ty = written_type constants element.0 in
      let count : ℕ = or_zero (written_length constants n) in
      rw fold-roll-NamedType
      (stands_at earlier.structs (type.Array count inner) (Ty-F.Array count inner) (type.outs-Array count inner)
      ∙ and_from (has_length count) (type_stands earlier.structs inner)
      (length_stands (place_of_length n) (written_length constants n) (length_in constants n)
      (first_empty (bad_length (place_of_length n) (written_length constants n)) (bad_lengths constants element.0) good))
      (element.1 (and_second (length_placed earlier n) (type_placed earlier element.0) at)
      (second_empty (bad_length (place_of_length n) (written_length constants n)) (bad_lengths constants element.0) good)))

  -- a written type stands, where none of its lengths fails
  pub written_stands : (ty : NamedType) → type_placed earlier ty ≡ true → bad_lengths constants ty ≡ [] →
      type_stands earlier.structs (written_type constants ty) ≡ true
  written_stands = ind-NamedType Stands (λ x y is. subst (λ level. Stands (roll-NamedType level)) is (stands_by y))

-- and so do those of the fields of a struct
pub fields_stand : (earlier : DeclaredBefore) (env : Environment) (fields : List NamedField) →
    list_all (λ (field : NamedField). type_placed earlier field.ty) fields ≡ true → joined (map (field_lengths env) fields) ≡ [] →
    list_all (λ (field : Field). type_stands earlier.structs field.ty) (map (field_of env) fields) ≡ true
fields_stand earlier env [] placed none = refl
fields_stand earlier env (field ∷ rest) placed none =
    and_from (type_stands earlier.structs (written_type env.constants field.ty)) _
    (written_stands earlier env.constants field.ty (and_first (type_placed earlier field.ty)
    (list_all (λ (field : NamedField). type_placed earlier field.ty) rest) placed)
    (first_empty (bad_lengths env.constants field.ty) (joined (map (field_lengths env) rest)) none))
    (fields_stand earlier env rest (and_second (type_placed earlier field.ty) (list_all (λ (field : NamedField). type_placed earlier field.ty) rest) placed)
    (second_empty (bad_lengths env.constants field.ty) (joined (map (field_lengths env) rest)) none))

-- ---- types of expressions

pub scalar_stands : (n : ℕ) (s : ScalarType) → type_stands n (scalar s) ≡ true
scalar_stands n s = rw fold-roll-Ty refl

module _ (n m : ℕ) (less : n ≤ m) where
  abbrev More : Ty → Type 0
  More ty = type_stands n ty ≡ true → type_stands m ty ≡ true

  more_by : (layer : Ty-F ((ty : Ty) × More ty)) → More (roll-Ty (map-Ty ((ty : Ty) × More ty) Ty (λ e. e.0) layer))
  more_by (Ty-F.Scalar s) is = rw fold-roll-Ty refl
  more_by (Ty-F.Struct k) is =
      let at : nat_lt k n ≡ true = rw fold-roll-Ty at is in
      rw fold-roll-Ty (more_below k n m less at)
  more_by (Ty-F.Array count element) is =
      let at : (has_length count && type_stands n element.0) ≡ true = rw fold-roll-Ty at is in
      rw fold-roll-Ty (and_from (has_length count) (type_stands m element.0) (and_first (has_length count) (type_stands n element.0) at)
      (element.1 (and_second (has_length count) (type_stands n element.0) at)))

  pub stands_more : (ty : Ty) → type_stands n ty ≡ true → type_stands m ty ≡ true
  stands_more = ind-Ty More (λ x y is. subst (λ layer. More (roll-Ty layer)) is (more_by y))

module _ (site : TypingContext) (fields : FieldsStand site.structs) (vars : list_all (λ (var : Var). type_stands (length site.structs) var.ty) site.vars ≡ true) where
  abbrev stands : Ty → Bool
  stands = type_stands (length site.structs)

  abbrev P : Expr → Type 0
  P e = (ty : Ty) → type_of site e ≡ Some ty → stands ty ≡ true

  abbrev Q : Path → Type 0
  Q path = (ty : Ty) → type_of_path site path ≡ Some ty → stands ty ≡ true

  scalar_of : (s : ScalarType) (ty : Ty) → Some (scalar s) ≡ Some ty → stands ty ≡ true
  scalar_of s ty is = ap stands (sym (same_Some (scalar s) ty is)) ∙ scalar_stands (length site.structs) s

  field_stands : (k : ℕ) (layer : Ty-F Ty) (ty : Ty) → field_in site.structs k layer ≡ Some ty → stands ty ≡ true
  field_stands k (Ty-F.Scalar s) ty is = absurd (cc)
  field_stands k (Ty-F.Array count element) ty is = absurd (cc)
  field_stands k (Ty-F.Struct s) ty is =
      let found = some_found (λ (def : StructDef). option_map (λ (field : Field). field.ty) (slice_get def.fields k)) (slice_get site.structs s) ty is in
      let field = map_found (λ (field : Field). field.ty) (slice_get found.0.fields k) ty found.2 in
      let below : s ≤ length site.structs = let less = slice_get_within site.structs s found.0 found.1 in omega arith in
      ap stands (sym field.2) ∙ stands_more s (length site.structs) below field.0.ty
      (all_at (λ (field : Field). type_stands s field.ty) found.0.fields k field.0 (fields s found.0 found.1) field.1)

  element_stands : (layer ty : _) → (type_stands_level (length site.structs) (map-Ty Ty Bool stands layer)) ≡ true → element_in layer ≡ Some ty →
      stands ty ≡ true
  element_stands (Ty-F.Scalar s) ty whole is = absurd (cc)
  element_stands (Ty-F.Struct s) ty whole is = absurd (cc)
  element_stands (Ty-F.Array count element) ty whole is = ap stands (sym (same_Some element ty is)) ∙ and_second (has_length count) (stands element) whole

  where_true : (holds : Bool) (t : Option Ty) (ty : Ty) → (if holds then t else None) ≡ Some ty → t ≡ Some ty
  where_true holds t ty is = (where_holds holds t ty is).1

  whole_is : (index t : Option Ty) (ty : Ty) → where_whole index t ≡ Some ty → t ≡ Some ty
  whole_is index t ty is =
      let found = some_found (λ ty. option_and_then (λ s. if is_whole s then t else None) (scalar_in ty)) index ty is in
      let number = some_found (λ s. if is_whole s then t else None) (scalar_in found.0) ty found.2 in
      where_true (is_whole number.0) t ty number.2

  part_by : (layer : Part-F _ _ _ _) (part : Part) (from ty : Ty) → out-Part part ≡ layer → stands from ≡ true →
      type_of_part site part from ≡ Some ty →
      stands ty ≡ true
  part_by (Part-F.Field k) part from ty is whole leads = field_stands k (out-Ty from) ty (sym (part_at site part (Part-F.Field k) from is) ∙ leads)
  part_by (Part-F.Index e) part from ty is whole leads =
      element_stands (out-Ty from) ty (sym (stands_at (length site.structs) from (out-Ty from) refl) ∙ whole)
      (whole_is (type_of site e) (element_in (out-Ty from)) ty (sym (part_at site part (Part-F.Index e) from is) ∙ leads))

  parts_stand : (parts : List Part) (from ty : Ty) → stands from ≡ true →
      after_parts (map (type_of_part site) parts) from ≡ Some ty → stands ty ≡ true
  parts_stand [] from ty whole is = ap stands (sym (same_Some from ty is)) ∙ whole
  parts_stand (part ∷ rest) from ty whole is =
      let found = some_found (after_parts (map (type_of_part site) rest)) (type_of_part site part from) ty is in
      parts_stand rest found.0 ty (part_by (out-Part part) part from found.0 refl whole found.1) found.2

  two_stands : (op : Op) (s t : ScalarType) (ty : Ty) → two_type op s t ≡ Some ty → stands ty ≡ true
  two_stands op s t ty is = scalar_of (type_of_result op s) ty (where_true (same_scalar s t && takes_two op s) (Some (scalar (type_of_result op s))) ty is)

  path_case : (place : Place) (root : ℕ) (parts : List Part) (ty : Ty) → Q (roll-Path (record { place = place; root = root; parts = parts; ty = ty }))
  path_case place root parts written ty is =
      let whole = some_found (where_same written) (option_and_then (λ (var : Var). after_parts (map (type_of_part site) parts) var.ty)
      (slice_get site.vars root)) ty (rw fold-roll-Path at is) in
      let found = some_found (λ (var : Var). after_parts (map (type_of_part site) parts) var.ty) (slice_get site.vars root) whole.0 whole.1 in
      let same : whole.0 ≡ ty = same_Some whole.0 ty (where_true (same_type written whole.0) (Some whole.0) ty whole.2) in
      ap stands (sym same) ∙ parts_stand parts found.0.ty whole.0 (all_at (λ (var : Var). stands var.ty) site.vars root found.0 vars found.1) found.2

  stand_cases : Cases P Q
  stand_cases = record {
    literal = λ place n s ty is. scalar_of s ty (where_true (in_range s n) (Some (scalar s)) ty
        (sym (kind_at site place (roll-ExprKind (ExprKind-F.Literal n s)) (ExprKind-F.Literal n s) (out-roll-ExprKind (ExprKind-F.Literal n s))) ∙ is));
    read = λ place path leads ty is. leads ty (sym (kind_at site place (roll-ExprKind (ExprKind-F.Read path)) (ExprKind-F.Read path)
        (out-roll-ExprKind (ExprKind-F.Read path))) ∙ is);
    prev = λ place k ty is.
        let found = some_found (prev_type site.kind) (var_at site k) ty (sym
        (kind_at site place (roll-ExprKind (ExprKind-F.Prev k)) (ExprKind-F.Prev k) (out-roll-ExprKind (ExprKind-F.Prev k))) ∙ is) in
        ap stands (sym (same_Some found.0.ty ty (where_true _ (Some found.0.ty) ty found.2)))
        ∙ all_at (λ (var : Var). stands var.ty) site.vars k found.0 vars found.1;
    one = λ place op a fit ty is.
        let found = some_found (one_type op) (option_and_then scalar_in (type_of site a)) ty
        (sym (kind_at site place (roll-ExprKind (ExprKind-F.One op a)) (ExprKind-F.One op a) (out-roll-ExprKind (ExprKind-F.One op a))) ∙ is) in
        scalar_of (type_of_result op found.0) ty (where_true (takes_one op found.0) (Some (scalar (type_of_result op found.0))) ty found.2);
    two = λ place op a b fit other ty is.
        let found = some_found (λ s. option_and_then (two_type op s) (option_and_then scalar_in (type_of site b))) (option_and_then scalar_in (type_of site a))
        ty
        (sym (kind_at site place (roll-ExprKind (ExprKind-F.Two op a b)) (ExprKind-F.Two op a b) (out-roll-ExprKind (ExprKind-F.Two op a b))) ∙ is) in
        let right = some_found (two_type op found.0) (option_and_then scalar_in (type_of site b)) ty found.2 in
        two_stands op found.0 right.0 ty right.2;
    cast = λ place target a fit ty is.
        let found = some_found (cast_type target) (option_and_then scalar_in (type_of site a)) ty
        (sym (kind_at site place (roll-ExprKind (ExprKind-F.Cast target a)) (ExprKind-F.Cast target a)
        (out-roll-ExprKind (ExprKind-F.Cast target a))) ∙ is) in
        scalar_of target ty (where_true (is_whole target && is_whole found.0) (Some (scalar target)) ty found.2);
    call = λ place f inputs each ty is.
        let found = some_found (call_type (map (type_of site) inputs)) (slice_get site.earlier f) ty
        (sym (kind_at site place (roll-ExprKind (ExprKind-F.Call f inputs)) (ExprKind-F.Call f inputs)
        (out-roll-ExprKind (ExprKind-F.Call f inputs))) ∙ is) in
        let result = map_found scalar found.0.result ty (where_true _ (option_map scalar found.0.result) ty found.2) in
        scalar_of result.0 ty (ap Some result.2);
    path = λ place root parts ty each. path_case place root parts ty;
  }

  -- the type of an expression stands, where those of fields and variables do
  pub typed_stands : (e : Expr) (ty : Ty) → type_of site e ≡ Some ty → type_stands (length site.structs) ty ≡ true
  typed_stands = induct P Q stand_cases

pub struct_stands : (def : NamedStruct) (env : Environment) → struct_placed (known_in env) def ≡ true → (after_struct def env).failures ≡ [] →
    list_all (λ (field : Field). type_stands (length env.structs) field.ty) (struct_of env def).fields ≡ true
struct_stands def env placed none = fields_stand (known_in env) env def.fields placed none

-- the types of variables that stand do so in the site of what is known
pub vars_stand : (n : ℕ) (xs : List Variable) → ((k : ℕ) (known : Variable) → slice_get xs k ≡ Some known → VariableKnown n known) →
    list_all (λ (var : Var). type_stands n var.ty) (vars_of xs) ≡ true
vars_stand n [] each = refl
vars_stand n (x ∷ xs) each =
    let first = each 0 x refl in
    ap (λ found. list_all (λ (var : Var). type_stands n var.ty) (cons_option (option_map (var_typed x) found) (vars_of xs))) first.is_typed
    ∙ and_from (type_stands n first.ty) (list_all (λ (var : Var). type_stands n var.ty) (vars_of xs)) first.stands
    (vars_stand n xs (λ k known is. each (suc k) known is))

-- ---- scalar types

scalar_level : (constants : List Constant) (ty : NamedType) (layer : NamedType-F NamedType) → out-NamedType ty ≡ layer →
    is_scalar_level layer ≡ true →
    is_some (scalar_in (written_type constants ty)) ≡ true
scalar_level constants ty (NamedType-F.Scalar s) is whole =
    ap (λ ty. is_some (scalar_in ty)) (fold_out-NamedType Ty (type_level constants) ty
    ∙ ap (λ layer. type_level constants (map-NamedType NamedType Ty (written_type constants) layer)) is)
    ∙ ap (λ layer. is_some (scalar_at layer)) (type.outs-Scalar s)
scalar_level constants ty (NamedType-F.Struct k) is whole = absurd (cc)
scalar_level constants ty (NamedType-F.Array n element) is whole = absurd (cc)

-- what is written as a scalar type is one
pub scalar_written : (constants : List Constant) (ty : NamedType) → is_scalar (Some ty) ≡ true → is_some (scalar_in (written_type constants ty)) ≡ true
scalar_written constants ty = scalar_level constants ty (out-NamedType ty) refl

pub scalar_optional : (constants : List Constant) (ty : Option NamedType) → is_scalar ty ≡ true →
    has_scalar (option_map (written_type constants) ty) ≡ true
scalar_optional constants None is = absurd (cc)
scalar_optional constants (Some ty) is = scalar_written constants ty is

pub scalar_initial : (env : Environment) (ty : Option NamedType) (e : NamedExpr) → is_scalar ty ≡ true → has_scalar (initial env ty e).valued.ty ≡ true
scalar_initial env None e is = absurd (cc)
scalar_initial env (Some ty) e is = scalar_written env.constants ty is
