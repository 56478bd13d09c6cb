-- The head of a unit in a face is that of the unit.
use Rattle.std.proofs.Common.{◌≡◌, ℕ, true, false, List, [], ◌∷◌, ◌++◌, length, map, drop, take, Option, Some, None, refl, sym, ap, ◌∙◌, arith}
use Rattle.std.specs.Prelude.{Bool, ◌&&◌, ◌||◌, is_none, nat_eq, if◌then◌else◌}
use Rattle.std.proofs.Math.Seq.{drop-append_seam, take-append_seam}
use Rattle.std.proofs.lemmas.Bool.{eqb-true}
use Rattle.bl_tree.proofs.Basics.{and_first}
use Rattle.bl_face.specs.declared.item.FaceField.{FaceField}
use Rattle.bl_module.specs.Behind.{gives_once}
use Rattle.bl_tree.specs.declared.scalar.Scalar.{Scalar as ScalarType}
use Rattle.bl_tree.specs.declared.tree.Unit.{Unit as UnitDef}
use Rattle.bl_tree.specs.declared.tree.UnitKind.{UnitKind}
use Rattle.bl_tree.specs.declared.tree.UnitKind.TheVariants.{Function, Activity}
use Rattle.bl_tree.specs.declared.tree.Var.{Var}
use Rattle.bl_tree.specs.Returns.{unit_returns}
use Rattle.bl_tree.specs.Typing.{is_activity}
use Rattle.bl_tree_laws_places.specs.Placed.{placed_var}
use Rattle.bl_types_laws_places.specs.Agree.{head_of_unit, unplaced}

pub placed_again : (vars : List Var) → map (placed_var unplaced) (map (placed_var unplaced) vars) ≡ map (placed_var unplaced) vars
placed_again [] = refl
placed_again (var ∷ vars) = ap (λ rest. placed_var unplaced var ∷ rest) (placed_again vars)

-- the first of a list, and those behind them
first_of_list : {A : Type 0} (xs ys : List A) (n : ℕ) → length xs ≡ n → take n (xs ++ ys) ≡ xs
first_of_list xs ys n is = ap (λ n. take n (xs ++ ys)) (sym is) ∙ take-append_seam xs ys

second_of_list : {A : Type 0} (xs ys zs : List A) (n m : ℕ) → length xs ≡ n → length ys ≡ m → take m (drop n (xs ++ (ys ++ zs))) ≡ ys
second_of_list xs ys zs n m one two =
    ap (λ n. take m (drop n (xs ++ (ys ++ zs)))) (sym one) ∙ ap (take m) (drop-append_seam xs (ys ++ zs)) ∙ first_of_list ys zs m two

-- what a unit shows, whose variables begin with these
pub head_is : (unit : UnitDef) (ins outs more : List Var) → unit.vars ≡ ins ++ (outs ++ more) → length ins ≡ unit.inputs → length outs ≡ unit.outputs →
    head_of_unit unit ≡ record {
      name = unit.name;
      kind = unit.kind;
      inputs = map (placed_var unplaced) ins;
      outputs = map (placed_var unplaced) outs;
      input_count = unit.inputs;
      output_count = unit.outputs;
      result = unit.result;
    }
head_is unit ins outs more are one two = λ i. record {
  name = unit.name;
  kind = unit.kind;
  inputs = map (placed_var unplaced) ((ap (take unit.inputs) are ∙ first_of_list ins (outs ++ more) unit.inputs one) i);
  outputs = map (placed_var unplaced)
      ((ap (λ vars. take unit.outputs (drop unit.inputs vars)) are ∙ second_of_list ins outs more unit.inputs unit.outputs one two) i);
  input_count = unit.inputs;
  output_count = unit.outputs;
  result = unit.result;
}

-- ---- a function with a result has no outputs

without_outputs : (n : ℕ) (out : FaceField) (outs : List FaceField) (b : Bool) → (nat_eq n 0 && b) ≡ true → n ≡ length (out ∷ outs) → false ≡ true
without_outputs n out outs b holds is =
    absurd (let none : n ≡ 0 = eqb-true n 0 (and_first (nat_eq n 0) b holds) in omega (arith, none, is))

once : (kind : UnitKind) (outs : List FaceField) (result : Option ScalarType) (n : ℕ) (a b : Bool) →
    (if is_activity kind then a else (is_none result || (nat_eq n 0 && b))) ≡ true → n ≡ length outs → gives_once kind outs result ≡ true
once Function [] result n a b holds is = refl
once Function (out ∷ outs) None n a b holds is = refl
once Function (out ∷ outs) (Some of) n a b holds is = without_outputs n out outs b holds is
once Activity outs result n a b holds is = refl

pub gives_once_is : (unit : UnitDef) (outs : List FaceField) → unit_returns unit ≡ true → unit.outputs ≡ length outs →
    gives_once unit.kind outs unit.result ≡ true
gives_once_is unit outs returns is = once unit.kind outs unit.result unit.outputs _ _ returns is
