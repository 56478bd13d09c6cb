-- What environments that agree know of variables, constants, structs and units.
use Rattle.std.proofs.Common.{◌≡◌, ⊎_elim, ℕ, ◌+◌, ◌-◌, ◌<◌, ◌≤◌, List, length, refl, ap, subst, sym, ◌∙◌, arith}
use Rattle.std.specs.Prelude.{Option, Some, None, option_and_then, option_map, slice_get}
use Rattle.std.proofs.lemmas.Bool.{cases_lt}
use Rattle.std.proofs.lemmas.Option.{slice_get-map, slice_get_past}
use Rattle.bl_tree.specs.declared.place.Place.{Place}
use Rattle.bl_tree.specs.declared.tree.StructDef.{StructDef}
use Rattle.bl_tree.specs.declared.tree.Ty.{Ty}
use Rattle.bl_tree.specs.declared.tree.Ty.TheOpen.{Ty-F}
use Rattle.bl_tree.specs.declared.tree.Unit.{Unit as UnitDef}
use Rattle.bl_tree_laws_places.specs.Placed.{placed_struct}
use Rattle.bl_names_laws_places.specs.Renamed.{Renaming}
use Rattle.bl_types.specs.declared.environment.Constant.{Constant}
use Rattle.bl_types.specs.declared.environment.Environment.{Environment}
use Rattle.bl_types.specs.declared.environment.Variable.{Variable}
use Rattle.bl_types.specs.Expressions.{field_among, field_in, type_of_variable}
use Rattle.bl_types_laws_places.specs.Agree.{EnvironmentsAgree, SameHeads, SameStructs, UnitHead, head_of_unit, placed_variable, unplaced}

-- ---- constants

module _ (constant : ℕ → ℕ) (near far : List Constant) (known : (k : ℕ) → k < length near → slice_get far (constant k) ≡ slice_get near k)
    (next : (j : ℕ) → constant (length near + j) ≡ length far + j) where
  past_far : (k : ℕ) → length near ≤ k → length far ≤ constant k
  past_far k past =
      let sum : length near + (k - length near) ≡ k = omega (arith, past) in
      let least : length far ≤ length far + (k - length near) = omega arith in
      subst (λ x. length far ≤ constant x) sum (subst (λ x. length far ≤ x) (sym (next (k - length near))) least)

  -- constants correspond at all positions where the known ones and the next ones do
  pub constants_alike : (k : ℕ) → slice_get far (constant k) ≡ slice_get near k
  constants_alike k =
      ⊎_elim (known k) (λ past. slice_get_past far (constant k) (past_far k past) ∙ sym (slice_get_past near k past)) (cases_lt k (length near))

-- ---- structs

-- the field of a name in a struct, where there is one, doesn't hang on where the struct stands
field_unplaced : (name : List ℕ) (def : Option StructDef) →
    option_and_then (λ def. field_among name def.fields 0) def
    ≡ option_and_then (λ def. field_among name def.fields 0) (option_map (placed_struct unplaced) def)
field_unplaced name (Some def) = refl
field_unplaced name None = refl

struct_same : (near far : List StructDef) → SameStructs near far → (k : ℕ) →
    option_map (placed_struct unplaced) (slice_get far k) ≡ option_map (placed_struct unplaced) (slice_get near k)
struct_same near far same k =
    sym (slice_get-map (placed_struct unplaced) far k) ∙ ap (λ structs. slice_get structs k) same ∙ slice_get-map (placed_struct unplaced) near k

pub field_same : (near far : List StructDef) → SameStructs near far → (name : List ℕ) (level : Ty-F Ty) →
    field_in far name level ≡ field_in near name level
field_same near far same name (Ty-F.Struct k) =
    field_unplaced name (slice_get far k)
    ∙ ap (option_and_then (λ def. field_among name def.fields 0)) (struct_same near far same k)
    ∙ sym (field_unplaced name (slice_get near k))
field_same near far same name (Ty-F.Scalar s) = refl
field_same near far same name (Ty-F.Array n element) = refl

-- ---- units

pub callee_same : (near far : List UnitDef) → SameHeads near far → (k : ℕ) →
    option_map head_of_unit (slice_get far k) ≡ option_map head_of_unit (slice_get near k)
callee_same near far same k =
    sym (slice_get-map head_of_unit far k) ∙ ap (λ heads. slice_get heads k) same ∙ slice_get-map head_of_unit near k

-- what hangs on heads alone is one for units with equal heads
pub by_head : {X : Type 0} (of : Option UnitDef → X) (of_head : Option UnitHead → X) →
    ((unit : Option UnitDef) → of unit ≡ of_head (option_map head_of_unit unit)) → (near far : Option UnitDef) →
    option_map head_of_unit far ≡ option_map head_of_unit near → of far ≡ of near
by_head of of_head is near far same = is far ∙ ap of_head same ∙ sym (is near)

-- ---- variables

pub variable_type : (f : Place → Place) (var : Option Variable) → type_of_variable (option_map (placed_variable f) var) ≡ type_of_variable var
variable_type f (Some var) = refl
variable_type f None = refl

module _ (by : Renaming) (near far : Environment) (agree : EnvironmentsAgree by near far) where
  pub variable_same : (k : ℕ) → slice_get far.vars k ≡ option_map (placed_variable by.place) (slice_get near.vars k)
  variable_same k = ap (λ vars. slice_get vars k) agree.vars ∙ slice_get-map (placed_variable by.place) near.vars k

  pub type_same : (k : ℕ) → type_of_variable (slice_get far.vars k) ≡ type_of_variable (slice_get near.vars k)
  type_same k = ap type_of_variable (variable_same k) ∙ variable_type by.place (slice_get near.vars k)
