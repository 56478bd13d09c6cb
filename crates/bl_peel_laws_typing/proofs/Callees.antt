-- What a statement fits asks nothing of the bodies of units before its own.
use Rattle.std.proofs.Common.{◌≡◌, Bool, ◌&&◌, ◌||◌, List, [], ◌∷◌, map, Option, Some, None, refl, ap, sym, ◌∙◌}
use Rattle.std.specs.Prelude.{option_and_then, option_map, slice_get}
use Rattle.std.proofs.lemmas.Option.{slice_get-map}
use Rattle.bl_tree.specs.declared.scalar.Scalar.{Scalar as ScalarType}
use Rattle.bl_tree.specs.declared.tree.Expr.{Expr, fold-Expr}
use Rattle.bl_tree.specs.declared.tree.ExprKind.TheOpen.{ExprKind-F, Part-F}
use Rattle.bl_tree.specs.declared.tree.Path.{Path, fold-Path}
use Rattle.bl_tree.specs.declared.tree.Stmt.{fold-Stmt}
use Rattle.bl_tree.specs.declared.tree.StmtKind.TheOpen.{StmtKind-F, Arm-F}
use Rattle.bl_tree.specs.declared.tree.StructDef.{StructDef}
use Rattle.bl_tree.specs.declared.tree.Ty.{Ty}
use Rattle.bl_tree.specs.declared.tree.Unit.{Unit as UnitDef}
use Rattle.bl_tree.specs.declared.tree.UnitKind.{UnitKind}
use Rattle.bl_tree.specs.declared.tree.Var.{Var}
use Rattle.bl_tree.specs.Reduce.{all_of}
use Rattle.bl_tree.specs.Types.{scalar}
use Rattle.bl_tree.specs.Typing.{TypingContext, are_same, arm_fits, branch_fits, call_fits, call_type, declaration_fits, expr_type, fits, inputs_of}
use Rattle.bl_tree.specs.Typing.{is_activity, is_assignable, is_fixed, is_outlet, is_procedure, is_truth, is_variable, kind_fits, kind_type, outputs_of}
use Rattle.bl_tree.specs.Typing.{part_type, path_type, return_fits, run_fits, site_of, stmt_fits, target_fits, type_of, type_of_path, types_match}
use Rattle.bl_peel.specs.Units.{UnitPeels, UnitsPeel, is_peeled, kept, more_units, no_units}
use Rattle.bl_peel_laws_typing.specs.Typing.{FitsAsksNoBodies}

-- a unit with nothing in its body
abbrev pub bare : UnitDef → UnitDef
bare unit = record unit { body = [] }

pub bare_one : {unit peeled_unit : UnitDef} → UnitPeels unit peeled_unit → bare unit ≡ bare peeled_unit
bare_one kept = refl
bare_one (is_peeled activity) = refl

pub all_bare : {units peeled_units : List UnitDef} → UnitsPeel units peeled_units → map bare units ≡ map bare peeled_units
all_bare no_units = refl
all_bare (more_units one more) = λ i. bare_one one i ∷ all_bare more i

module _ (structs : List StructDef) (kind : UnitKind) (vars : List Var) (result : Option ScalarType) (units : List UnitDef) where
  abbrev with_bodies : TypingContext
  with_bodies = record { structs = structs; earlier = units; kind = kind; vars = vars; result = result }

  abbrev without : TypingContext
  without = record { structs = structs; earlier = map bare units; kind = kind; vars = vars; result = result }

  -- ---- expressions

  called : (inputs : List (Option Ty)) (callee : Option UnitDef) → option_and_then (call_type inputs) callee
      ≡ option_and_then (call_type inputs) (option_map bare callee)
  called inputs (Some unit) = refl
  called inputs None = refl

  kind_is : (layer : ExprKind-F (Option Ty) (Ty → Option Ty) (Option Ty) (Option Ty)) → kind_type with_bodies layer ≡ kind_type without layer
  kind_is (ExprKind-F.Literal n s) = refl
  kind_is (ExprKind-F.Read path) = refl
  kind_is (ExprKind-F.Prev k) = refl
  kind_is (ExprKind-F.One op a) = refl
  kind_is (ExprKind-F.Two op a b) = refl
  kind_is (ExprKind-F.Cast target a) = refl
  kind_is (ExprKind-F.Call f inputs) =
      called inputs (slice_get units f) ∙ ap (option_and_then (call_type inputs)) (sym (slice_get-map bare units f))

  part_is : (part : Part-F (Option Ty) (Ty → Option Ty) (Option Ty) (Option Ty)) → part_type with_bodies part ≡ part_type without part
  part_is (Part-F.Field k) = refl
  part_is (Part-F.Index index) = refl

  types : type_of with_bodies ≡ type_of without
  types = λ i. fold-Expr (Option Ty) (Ty → Option Ty) (Option Ty) (Option Ty) (λ layer. kind_is layer i) (λ part. part_is part i) expr_type
      (path_type with_bodies)

  paths : type_of_path with_bodies ≡ type_of_path without
  paths = λ i. fold-Path (Option Ty) (Ty → Option Ty) (Option Ty) (Option Ty) (λ layer. kind_is layer i) (λ part. part_is part i) expr_type
      (path_type with_bodies)

  -- ---- statements

  declared : (initial : Option Expr) (var : Option Var) → declaration_fits with_bodies initial var ≡ declaration_fits without initial var
  declared (Some e) (Some var) = λ i. (is_variable var.role || is_fixed var.role) && are_same (Some var.ty) (types i e)
  declared (Some e) None = refl
  declared None (Some var) = refl
  declared None None = refl

  returned : (e : Option Expr) (wanted : Option ScalarType) → return_fits with_bodies e wanted ≡ return_fits without e wanted
  returned (Some e) (Some s) = λ i. are_same (Some (scalar s)) (types i e)
  returned (Some e) None = refl
  returned None (Some s) = refl
  returned None None = refl

  targeted : (wanted : Option ScalarType) (target : Option Path) → target_fits with_bodies wanted target ≡ target_fits without wanted target
  targeted (Some s) (Some path) = λ i. is_outlet with_bodies path && are_same (Some (scalar s)) (paths i path)
  targeted (Some s) None = refl
  targeted None (Some path) = refl
  targeted None None = refl

  call_is : (inputs : List Expr) (outputs : List Path) (callee : Option UnitDef) →
      call_fits with_bodies inputs outputs callee ≡ call_fits without inputs outputs (option_map bare callee)
  call_is inputs outputs (Some unit) = λ i. is_procedure unit
      && (types_match (map (types i) inputs) (inputs_of unit)
      && (types_match (map (paths i) outputs) (outputs_of unit) && all_of (map (is_outlet with_bodies) outputs)))
  call_is inputs outputs None = refl

  run_is : (target : Option Path) (inputs : List Expr) (outputs : List Path) (callee : Option UnitDef) →
      run_fits with_bodies target inputs outputs callee ≡ run_fits without target inputs outputs (option_map bare callee)
  run_is target inputs outputs (Some unit) = λ i. (is_activity kind && is_activity unit.kind)
      && (targeted unit.result target i
      && (types_match (map (types i) inputs) (inputs_of unit)
      && (types_match (map (paths i) outputs) (outputs_of unit) && all_of (map (is_outlet with_bodies) outputs))))
  run_is target inputs outputs None = refl

  layer_is : (layer : StmtKind-F Bool Bool Bool Bool) → kind_fits with_bodies layer ≡ kind_fits without layer
  layer_is (StmtKind-F.Declare k initial) = declared initial (slice_get vars k)
  layer_is (StmtKind-F.Assign path e) = λ i. is_assignable with_bodies path && are_same (paths i path) (types i e)
  layer_is (StmtKind-F.Call f inputs outputs) =
      call_is inputs outputs (slice_get units f) ∙ ap (call_fits without inputs outputs) (sym (slice_get-map bare units f))
  layer_is (StmtKind-F.Await e) = λ i. is_activity kind && is_truth (types i e)
  layer_is (StmtKind-F.Run target a inputs outputs) =
      run_is target inputs outputs (slice_get units a) ∙ ap (run_fits without target inputs outputs) (sym (slice_get-map bare units a))
  layer_is (StmtKind-F.If arms other) = refl
  layer_is (StmtKind-F.Cobegin branches) = refl
  layer_is (StmtKind-F.When guard e body) = λ i. is_activity kind && (is_truth (types i e) && all_of body)
  layer_is (StmtKind-F.Repeat body) = refl
  layer_is (StmtKind-F.Until body e) = λ i. all_of body && is_truth (types i e)
  layer_is (StmtKind-F.While e body) = λ i. is_truth (types i e) && all_of body
  layer_is (StmtKind-F.Return e) = returned e result

  arm_is : (arm : Arm-F Bool Bool Bool Bool) → arm_fits with_bodies arm ≡ arm_fits without arm
  arm_is arm = λ i. is_truth (types i arm.test) && all_of arm.body

  fits_bare : fits with_bodies ≡ fits without
  fits_bare = λ i. fold-Stmt Bool Bool Bool Bool (λ layer. layer_is layer i) (λ arm. arm_is arm i) branch_fits stmt_fits

-- units that differ in bodies alone let the same statements stand behind them
pub fits_beside : (structs : List StructDef) (units peeled_units : List UnitDef) (unit : UnitDef) → map bare units ≡ map bare peeled_units →
    fits (site_of structs units unit) ≡ fits (site_of structs peeled_units unit)
fits_beside structs units peeled_units unit same =
    fits_bare structs unit.kind unit.vars unit.result units
    ∙ (λ i. fits (record { structs = structs; earlier = same i; kind = unit.kind; vars = unit.vars; result = unit.result }))
    ∙ sym (fits_bare structs unit.kind unit.vars unit.result peeled_units)

pub fits_asks_no_bodies : FitsAsksNoBodies
fits_asks_no_bodies structs earlier peeled_units unit s peels = ap (λ fit. fit s) (sym (fits_beside structs earlier peeled_units unit (all_bare peels)))
