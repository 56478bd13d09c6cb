-- What holds of each unit of a typed program.
use Rattle.std.proofs.Common.{◌≡◌, ℕ, zero, suc, true, List, [], ◌∷◌, ◌++◌, take, length, Some}
use Rattle.std.specs.Prelude.{slice_get}
use Rattle.std.specs.List.{list_all}
use Rattle.bl_tree.proofs.Basics.{and_first, and_second}
use Rattle.bl_tree.specs.declared.tree.StructDef.{StructDef}
use Rattle.bl_tree.specs.declared.tree.Unit.{Unit as UnitDef}
use Rattle.bl_tree.specs.declared.tree.Var.{Var}
use Rattle.bl_tree.specs.Program.{IsWellTyped, is_input, is_output, names_of, roles_stand, unit_stands}
use Rattle.bl_tree.specs.Types.{type_stands}
use Rattle.bl_tree.specs.Typing.{fits, inputs_of, outputs_of, site_of}
use Rattle.bl_tree.specs.Words.{is_name}
use Rattle.bl_eval.proofs.UnitFits.{unit_at as unit_after}

-- what stands among the first of a list stands in the list
pub taken_there : {A : Type 0} (xs : List A) (k f : ℕ) (x : A) → slice_get (take k xs) f ≡ Some x → slice_get xs f ≡ Some x
taken_there xs zero f x there = absurd (cc)
taken_there [] (suc k) f x there = there
taken_there (y ∷ xs) (suc k) zero x there = there
taken_there (y ∷ xs) (suc k) (suc f) x there = taken_there xs k f x there

module _ (structs : List StructDef) (units : List UnitDef) (entry : ℕ) (keeps : IsWellTyped structs units entry) where
  pub unit_at : (k : ℕ) (unit : UnitDef) → slice_get units k ≡ Some unit → unit_stands structs (take k units) unit ≡ true
  unit_at k unit there = unit_after structs [] units k unit keeps.units_stand there

  pub roles_at : (k : ℕ) (unit : UnitDef) → slice_get units k ≡ Some unit → roles_stand unit ≡ true
  roles_at k unit there = and_first _ _ (and_first _ _ (unit_at k unit there))

  pub vars_named : (k : ℕ) (unit : UnitDef) → slice_get units k ≡ Some unit → list_all is_name (names_of unit.vars) ≡ true
  vars_named k unit there = and_first _ _ (and_second _ _ (and_first _ _ (unit_at k unit there)))

  pub inputs_stand : (k : ℕ) (unit : UnitDef) → slice_get units k ≡ Some unit → list_all (λ (var : Var). is_input var.role) (inputs_of unit) ≡ true
  inputs_stand k unit there = and_first _ _ (and_second _ _ (roles_at k unit there))

  pub outputs_stand : (k : ℕ) (unit : UnitDef) → slice_get units k ≡ Some unit → list_all
      (λ (var : Var). is_output var.role) (outputs_of unit) ≡ true
  outputs_stand k unit there = and_first _ _ (and_second _ _ (and_second _ _ (roles_at k unit there)))

  pub body_stands : (k : ℕ) (unit : UnitDef) → slice_get units k ≡ Some unit → list_all (fits (site_of structs (take k units) unit)) unit.body ≡ true
  body_stands k unit there = and_first _ _ (and_second _ _ (and_second _ _ (unit_at k unit there)))

  pub vars_stand : (k : ℕ) (unit : UnitDef) → slice_get units k ≡ Some unit →
      list_all (λ (var : Var). type_stands (length structs) var.ty) unit.vars ≡ true
  vars_stand k unit there = and_first _ _ (and_second _ _ (unit_at k unit there))
