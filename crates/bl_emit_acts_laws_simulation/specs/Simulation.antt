-- What the C of an expression or a path does, beside what it means.
use Rattle.std.specs.Prelude.{◌≡◌, ℕ, ℤ, pos, ◌+◌, true, List, [], ◌∷◌, Option, Some, None, option_and_then, option_map, slice_get}
use Rattle.bl_tree.specs.declared.scalar.Scalar.{Scalar as ScalarType}
use Rattle.bl_tree.specs.declared.tree.StructDef.{StructDef}
use Rattle.bl_tree.specs.declared.tree.Ty.{Ty}
use Rattle.bl_tree.specs.declared.tree.Unit.{Unit as UnitDef}
use Rattle.bl_tree.specs.declared.tree.Var.{Var}
use Rattle.bl_tree.specs.declared.value.Value.{Value}
use Rattle.bl_tree.specs.Types.{scalar_in}
use Rattle.bl_tree.specs.Typing.{TypingContext, inputs_of, is_function, var_at}
use Rattle.bl_eval.specs.declared.datum.Datum.{Datum}
use Rattle.bl_eval.specs.declared.datum.Datum.TheVariants.{Scalar as OfScalar, Whole as OfWhole}
use Rattle.bl_eval.specs.declared.datum.Left.{Left}
use Rattle.bl_eval.specs.Meaning.{Callee, PathMeaning, View, read_at}
use Rattle.bl_eval.specs.Values.{number_in, values_fit}
use Rattle.bl_ctext_semantics.specs.Meaning.{ArgumentValue, by_address, by_value, Scope, applied, location_c, value_c}
use Rattle.bl_ctext_semantics.specs.Memory.{Location, Memory}
use Rattle.bl_ctext_semantics.specs.Memory as memory
use Rattle.bl_emit_acts.specs.declared.made.Made.{Made}
use Rattle.bl_emit_acts.specs.declared.made.Made.TheVariants.{Number, Whole}
use Rattle.bl_emit_acts.specs.Types.{unit_name}
use Rattle.bl_emit_acts_laws_simulation.specs.Encodes.{Encodes, is_live, location_in, type_after, way_to}

-- the number that an expression gives
abbrev pub number_given : Datum → ℤ
number_given (OfScalar s n) = n
number_given (OfWhole value) = pos 0

-- a place, which is there, with what an expression gives, where neither traps
abbrev pub PlaceValueSimulates : List StructDef → Ty → ℕ → Memory → Option Location → Option Datum → Type 0
PlaceValueSimulates structs ty depth here None None = Unit {0}
PlaceValueSimulates structs ty depth here (Some place) (Some (OfWhole value)) =
    (is_live depth place.root ≡ true) × Encodes structs ty value (memory.value_at here place)
PlaceValueSimulates structs ty depth here _ _ = ⊥

-- C simulates an expression of a type: it has the expression's number, or a place with its value, or it traps iff the expression does
abbrev pub ExpressionSimulates : List StructDef → Ty → Scope → Memory → Made → Option Datum → Type 0
ExpressionSimulates structs ty scope here (Number s code) datum =
    (scalar_in ty ≡ Some s) × (option_map memory.scalar_number (value_c code scope here).answer ≡ option_map number_given datum)
ExpressionSimulates structs ty scope here (Whole place) datum =
    (scalar_in ty ≡ None) × PlaceValueSimulates structs ty scope.depth here (location_c place scope here).answer datum

-- a C location stands for a path of the program: it is that of the part of the path's variable at these positions
pub record PathReaches (site : TypingContext) (now : List Value) (scope : Scope) (ty : Ty) (root : ℕ) (positions : Option (List ℕ)) (place : Location) : Type 0 where
  pub var : Var
  pub is_there : var_at site root ≡ Some var
  pub ks : List ℕ
  pub are : positions ≡ Some ks
  pub typed : type_after site.structs ks (Some var.ty) ≡ Some ty
  pub at : place ≡ location_in scope site root (way_to site.structs ks (Some var.ty))
  pub value : Value
  pub is : read_at root now ks ≡ Some value

-- a C place simulates a path: it is where the path leads, or traps iff the path leads to no value
abbrev pub PlaceSimulates : TypingContext → View → Scope → Ty → Option Location → PathMeaning → Type 0
PlaceSimulates site view scope ty None spot = option_and_then (read_at spot.root view.now) (spot.positions view) ≡ None
PlaceSimulates site view scope ty (Some place) spot = PathReaches site view.now scope ty spot.root (spot.positions view) place

-- ---- functions

-- an argument has the value: a number by value, a struct or an array by its place, which is there while a function runs at this depth
abbrev pub ArgumentEncoded : List StructDef → ℕ → Memory → Ty → Value → ArgumentValue → Type 0
ArgumentEncoded structs depth here ty value (by_value held) = (s : ScalarType) × (scalar_in ty ≡ Some s) × (number_in value ≡ Some (memory.scalar_number held))
ArgumentEncoded structs depth here ty value (by_address place) =
    (scalar_in ty ≡ None) × (is_live depth place.root ≡ true) × Encodes structs ty value (memory.value_at here place)

-- each argument encodes its value
abbrev pub ArgumentsEncoded : List StructDef → ℕ → Memory → List Var → List Value → List ArgumentValue → Type 0
ArgumentsEncoded structs depth here [] [] [] = Unit {0}
ArgumentsEncoded structs depth here (var ∷ vars) (value ∷ values) (arg ∷ args) =
    ArgumentEncoded structs depth here var.ty value arg × ArgumentsEncoded structs depth here vars values args
ArgumentsEncoded structs depth here _ _ _ = ⊥

-- the number that a function returns
abbrev pub number_returned : Option Left → Option ℤ
number_returned left = option_map number_given (option_and_then (λ left. left.result) left)

-- C functions agree with those of the program: each returns what the program's returns, or traps iff it does
pub record FunctionsAgree (structs : List StructDef) (earlier : List UnitDef) (callees : List Callee) (scope : Scope) : Type 0 where
  pub each : (f : ℕ) (unit : UnitDef) (callee : Callee) (s : ScalarType) (values : List Value) (passed : List ArgumentValue) (here : Memory) →
      slice_get earlier f ≡ Some unit → slice_get callees f ≡ Some callee → is_function unit.kind ≡ true → unit.outputs ≡ 0 → unit.result
      ≡ Some s →
      values_fit structs (inputs_of unit) values ≡ true → ArgumentsEncoded structs scope.depth here (inputs_of unit) values passed →
      (applied (scope.known (unit_name unit.name)) (scope.depth + 1) passed here).result ≡ number_returned (callee values)
