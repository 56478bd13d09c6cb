-- Every name that is spelled in a type, an expression or a path is one.
use Rattle.std.proofs.Common.{◌≡◌, ℕ, Bool, true, ◌&&◌, List, map, refl, ap, sym, ◌∙◌}
use Rattle.bl_tree.specs.declared.place.Place.{Place}
use Rattle.bl_tree.specs.declared.scalar.Op.{Op}
use Rattle.bl_tree.specs.declared.scalar.Scalar.{Scalar as ScalarType}
use Rattle.bl_tree.specs.declared.token.Token.{Token}
use Rattle.bl_tree.specs.Reduce.{all_of}
use Rattle.bl_parse_tree.specs.declared.expr.RawExpr.{RawExpr, fold-roll-RawExpr}
use Rattle.bl_parse_tree.specs.declared.expr.RawExprKind.{RawExprKind, fold-RawExprKind, fold-roll-RawExprKind}
use Rattle.bl_parse_tree.specs.declared.expr.RawExprKind.TheVariants.{rolls-Number, rolls-Truth, rolls-Read, rolls-Prev, rolls-One, rolls-Two, rolls-Cast, rolls-Call}
use Rattle.bl_parse_tree.specs.declared.expr.RawExprKind as kind
use Rattle.bl_parse_tree.specs.declared.expr.RawPart.{RawPart, fold-RawPart, fold-roll-RawPart}
use Rattle.bl_parse_tree.specs.declared.expr.RawPart as step
use Rattle.bl_parse_tree.specs.declared.expr.RawPart.TheVariants.{rolls-Field, rolls-Index}
use Rattle.bl_parse_tree.specs.declared.expr.RawTarget.{RawTarget, fold-roll-RawTarget}
use Rattle.bl_parse_tree.specs.declared.name.Name.{Name}
use Rattle.bl_parse_tree.specs.declared.stmt.RawPath.{RawPath}
use Rattle.bl_parse_tree.specs.declared.types.RawLength.{RawLength}
use Rattle.bl_parse_tree.specs.declared.types.RawType.{RawType, fold-roll-RawType}
use Rattle.bl_parse_tree.specs.declared.types.RawType as form
use Rattle.bl_parse_tree.specs.declared.types.RawType.TheVariants.{rolls-Scalar, rolls-Struct, rolls-Array}
use Rattle.bl_parse_tree.specs.Names.{named, length_named, type_named, kind_named, part_named, expr_layer_named, target_layer_named, expr_named, target_named}
use Rattle.bl_parse_tree.specs.Names.{path_named}
use Rattle.bl_parse.specs.At.{SpellsName}
use Rattle.bl_parse.specs.Expressions.{expr, target, SpellsExpr, SpellsTarget, SpellsPart, SpellsParts, SpellsInputs, SpellsExprs}
use Rattle.bl_parse.specs.inner.Reading.{NamesStand}
use Rattle.bl_parse.specs.Statements.{SpellsFields, SpellsPath, SpellsPaths, SpellsOutputs}
use Rattle.bl_parse.specs.Types.{SpellsLength, SpellsType}
use Rattle.bl_parse_laws.proofs.Tests.{Each, both, one_holds, none_hold, more_hold, listed}

-- whether every name in a part is one
abbrev step_named : RawPart → Bool
step_named = fold-RawPart Bool Bool Bool Bool kind_named part_named expr_layer_named target_layer_named

-- whether every name in what an expression says is one
abbrev kind_stands : RawExprKind → Bool
kind_stands = fold-RawExprKind Bool Bool Bool Bool kind_named part_named expr_layer_named target_layer_named

-- ---- the test at what is made

expr_is : (at : Place) (what : RawExprKind) → expr_named (expr at what) ≡ kind_stands what
expr_is at what = rw fold-roll-RawExpr refl

number_is : (minus : Bool) (n : ℕ) → kind_stands (kind.Number minus n) ≡ true
number_is minus n = ap kind_stands (sym (rolls-Number minus n)) ∙ rw fold-roll-RawExprKind refl

truth_is : (b : Bool) → kind_stands (kind.Truth b) ≡ true
truth_is b = ap kind_stands (sym (rolls-Truth b)) ∙ rw fold-roll-RawExprKind refl

read_is : (from : RawTarget) → kind_stands (kind.Read from) ≡ target_named from
read_is from = ap kind_stands (sym (rolls-Read from)) ∙ rw fold-roll-RawExprKind refl

before_is : (n : Name) → kind_stands (kind.Prev n) ≡ named n
before_is n = ap kind_stands (sym (rolls-Prev n)) ∙ rw fold-roll-RawExprKind refl

one_is : (op : Op) (a : RawExpr) → kind_stands (kind.One op a) ≡ expr_named a
one_is op a = ap kind_stands (sym (rolls-One op a)) ∙ rw fold-roll-RawExprKind refl

two_is : (op : Op) (a b : RawExpr) → kind_stands (kind.Two op a b) ≡ (expr_named a && expr_named b)
two_is op a b = ap kind_stands (sym (rolls-Two op a b)) ∙ rw fold-roll-RawExprKind refl

cast_is : (s : ScalarType) (a : RawExpr) → kind_stands (kind.Cast s a) ≡ expr_named a
cast_is s a = ap kind_stands (sym (rolls-Cast s a)) ∙ rw fold-roll-RawExprKind refl

call_is : (n : Name) (inputs : List RawExpr) → kind_stands (kind.Call n inputs) ≡ (named n && all_of (map expr_named inputs))
call_is n inputs = ap kind_stands (sym (rolls-Call n inputs)) ∙ rw fold-roll-RawExprKind refl

target_is : (place : Place) (root : Name) (parts : List RawPart) → target_named (target place root parts) ≡ (named root && all_of (map step_named parts))
target_is place root parts = rw fold-roll-RawTarget refl

field_is : (n : Name) → step_named (step.Field n) ≡ named n
field_is n = ap step_named (sym (rolls-Field n)) ∙ rw fold-roll-RawPart refl

index_is : (e : RawExpr) → step_named (step.Index e) ≡ expr_named e
index_is e = ap step_named (sym (rolls-Index e)) ∙ rw fold-roll-RawPart refl

scalar_is : (s : ScalarType) → type_named (form.Scalar s) ≡ true
scalar_is s = ap type_named (sym (rolls-Scalar s)) ∙ rw fold-roll-RawType refl

struct_is : (n : Name) → type_named (form.Struct n) ≡ named n
struct_is n = ap type_named (sym (rolls-Struct n)) ∙ rw fold-roll-RawType refl

array_is : (length : RawLength) (element : RawType) → type_named (form.Array length element) ≡ (length_named length && type_named element)
array_is length element = ap type_named (sym (rolls-Array length element)) ∙ rw fold-roll-RawType refl

module _ (text : List ℕ) (tokens : List Token) (stand : NamesStand text tokens) where
  pub name : {n : Name} {from to : ℕ} → SpellsName text tokens n from to → named n ≡ true
  name {from = from} h = ap named h.is ∙ stand.named from h.token.stands

  -- ---- types

  length : {n : RawLength} {from to : ℕ} → SpellsLength text tokens n from to → length_named n ≡ true
  length (SpellsLength.number t is) = ap length_named is
  length (SpellsLength.constant n is) = ap length_named is ∙ name n

  pub ty : {t : RawType} {from to : ℕ} → SpellsType text tokens t from to → type_named t ≡ true
  ty (SpellsType.scalar s is) = ap type_named is ∙ scalar_is _
  ty (SpellsType.named n is) = ap type_named is ∙ (struct_is _ ∙ name n)
  ty (SpellsType.array opens n closes element is) = ap type_named is ∙ (array_is _ _ ∙ both (length n) (ty element))

  -- ---- expressions

  made : {e : RawExpr} {at : Place} {what : RawExprKind} → e ≡ expr at what → expr_named e ≡ kind_stands what
  made {at = at} {what = what} is = ap expr_named is ∙ expr_is at what

  mutual
    pub expression : {level : ℕ} {e : RawExpr} {from to : ℕ} → SpellsExpr text tokens level e from to → expr_named e ≡ true
    expression (SpellsExpr.two le a op b is) = made is ∙ (two_is _ _ _ ∙ both (expression a) (expression b))
    expression (SpellsExpr.cast le a word s is) = made is ∙ (cast_is _ _ ∙ expression a)
    expression (SpellsExpr.negative le minus n is) = made is ∙ number_is _ _
    expression (SpellsExpr.one le op no_number a is) = made is ∙ (one_is _ _ ∙ expression a)
    expression (SpellsExpr.number n is) = made is ∙ number_is _ _
    expression (SpellsExpr.truth t is) = made is ∙ truth_is _
    expression (SpellsExpr.before word n is) = made is ∙ (before_is _ ∙ name n)
    expression (SpellsExpr.read from is) = made is ∙ (read_is _ ∙ place from)
    expression (SpellsExpr.call n given none is) = made is ∙ (call_is _ _ ∙ both (name n) (inputs given).hold)
    expression (SpellsExpr.parentheses opens e closes) = expression e

    pub place : {t : RawTarget} {from to : ℕ} → SpellsTarget text tokens t from to → target_named t ≡ true
    place (SpellsTarget.parted n behind is) = ap target_named is ∙ (target_is _ _ _ ∙ both (name n) (parts behind).hold)

    part : {one : RawPart} {from to : ℕ} → SpellsPart text tokens one from to → step_named one ≡ true
    part (SpellsPart.field dot n is) = ap step_named is ∙ (field_is _ ∙ name n)
    part (SpellsPart.index opens e closes is) = ap step_named is ∙ (index_is _ ∙ expression e)

    parts : {all : List RawPart} {from to : ℕ} → SpellsParts text tokens all from to → Each step_named all
    parts (SpellsParts.no_parts none is) = none_hold step_named none
    parts (SpellsParts.more_parts others one is) = more_hold step_named _ (parts others) (part one) is

    pub inputs : {all : List RawExpr} {from to : ℕ} → SpellsInputs text tokens all from to → Each expr_named all
    inputs (SpellsInputs.no_inputs opens closes none) = none_hold expr_named none
    inputs (SpellsInputs.some_inputs opens es closes) = expressions es

    expressions : {all : List RawExpr} {from to : ℕ} → SpellsExprs text tokens all from to → Each expr_named all
    expressions (SpellsExprs.first_expr e is) = one_holds expr_named (expression e) is
    expressions (SpellsExprs.more_exprs es comma e is) = more_hold expr_named _ (expressions es) (expression e) is

  -- ---- paths

  fields : {all : List Name} {from to : ℕ} → SpellsFields text tokens all from to → Each named all
  fields (SpellsFields.none none is) = none_hold named none
  fields (SpellsFields.more others dot n is) = more_hold named _ (fields others) (name n) is

  pub path : {one : RawPath} {from to : ℕ} → SpellsPath text tokens one from to → path_named one ≡ true
  path {one} h = both (name h.root) (listed named (fields h.fields))

  paths : {all : List RawPath} {from to : ℕ} → SpellsPaths text tokens all from to → Each path_named all
  paths (SpellsPaths.first one is) = one_holds path_named (path one) is
  paths (SpellsPaths.more others comma one is) = more_hold path_named _ (paths others) (path one) is

  pub outputs : {all : List RawPath} {from to : ℕ} → SpellsOutputs text tokens all from to → Each path_named all
  outputs (SpellsOutputs.absent none is) = none_hold path_named none
  outputs (SpellsOutputs.none opens closes none) = none_hold path_named none
  outputs (SpellsOutputs.some opens all closes) = paths all
