-- The laws of a whole program.
use Rattle.std.proofs.Common.{◌≡◌, ℕ, ◌+◌, ◌*◌, ◌^◌, ◌≤◌, max, Bool, true, List}
use Rattle.std.proofs.Common.{[], map, take, length, Some, refl, sym, ap, ◌∙◌}
use Rattle.std.proofs.Common.{subst, arith, Option}
use Rattle.std.specs.Prelude.{slice_get}
use Rattle.std.specs.List.{list_all}
use Rattle.bl_tree.specs.declared.place.Place.{Place}
use Rattle.bl_tree.specs.declared.tree.Arm.{Arm}
use Rattle.bl_tree.specs.declared.tree.Branch.{Branch}
use Rattle.bl_tree.specs.declared.tree.Expr.{Expr}
use Rattle.bl_tree.specs.declared.tree.Path.{Path}
use Rattle.bl_tree.specs.declared.tree.Stmt.{Stmt, fold-roll-Stmt, out-Stmt, out-roll-Stmt}
use Rattle.bl_tree.specs.declared.tree.StmtKind.{StmtKind, fold-roll-StmtKind, out-StmtKind, out-roll-StmtKind, roll-StmtKind}
use Rattle.bl_tree.specs.declared.tree.StmtKind.TheOpen.{StmtKind-F}
use Rattle.bl_tree.specs.declared.tree.StructDef.{StructDef}
use Rattle.bl_tree.specs.declared.tree.Ty.{Ty}
use Rattle.bl_tree.specs.declared.tree.Unit.{Unit as UnitDef}
use Rattle.bl_tree.specs.declared.tree.Var.{Var}
use Rattle.bl_tree.specs.Depths.{arguments_depth, depth_of, expr_depth, optional_depth, path_depth}
use Rattle.bl_tree.specs.Program.{IsWellTyped, names_of}
use Rattle.bl_tree.specs.Types.{type_stands}
use Rattle.bl_tree.specs.Typing.{TypingContext, fits, site_of, type_of, type_of_path}
use Rattle.bl_tree.specs.Words as words
use Rattle.bl_tree.proofs.StmtInduction.{Cases, induct, stmt}
use Rattle.bl_ctext.specs.inner.Fits.{expr_fits, place_fits, stmts_fit}
use Rattle.bl_emit_acts.specs.Acts.{act_code, c_calling, c_set, call_made, code_made, layer_code}
use Rattle.bl_emit_acts.specs.Expressions.{stands}
use Rattle.bl_emit_acts_laws_wellformed.specs.Spelled.{ExpressionsFit, PlacesFit}
use Rattle.bl_emit_acts_laws_wellformed.proofs.OnFormed.Units.{vars_named}
use Rattle.bl_emit_acts_laws_wellformed.proofs.OnSpelled.Fits.{room}
use Rattle.bl_emit_functions_laws_wellformed.specs.Spelled.{ActsFit, FunctionsFit, MembersSpelled, MemoriesSpelled, StructsSpelled, TypesSpelled}
use Rattle.bl_emit_functions_laws_wellformed.proofs.OnSpelled.Acts.{assigned-fits, called-fits, declared-fits, one-fits}
use Rattle.bl_emit_functions_laws_wellformed.proofs.OnSpelled.Functions.{earlier_named, function-fits, members-spelled, memory-spelled, names, typed}
use Rattle.bl_emit_functions_laws_wellformed.proofs.OnSpelled.Types.{struct_names, structs-spelled, type-spelled}

pub types : (structs : List StructDef) (units : List UnitDef) (entry : ℕ) → TypesSpelled structs units entry
types structs units entry ty keeps stands =
    let all : length structs ≤ length structs = omega arith in
    type-spelled structs (struct_names structs units entry keeps) (length structs) all ty stands

pub structs_all : (structs : List StructDef) (units : List UnitDef) (entry : ℕ) → StructsSpelled structs units entry
structs_all structs units entry keeps = structs-spelled structs units entry keeps

pub members : (structs : List StructDef) (units : List UnitDef) (entry : ℕ) → MembersSpelled structs units entry
members structs units entry k unit keeps there few = members-spelled structs units entry k unit keeps there few

pub memories : (structs : List StructDef) (units : List UnitDef) (entry : ℕ) → MemoriesSpelled structs units entry
memories structs units entry k unit keeps there few = memory-spelled structs units entry k unit keeps there few

pub functions : (structs : List StructDef) (units : List UnitDef) (entry : ℕ) → ExpressionsFit structs units entry →
    PlacesFit structs units entry →
    FunctionsFit structs units entry
functions structs units entry fit fit_places k unit keeps there numbers =
    function-fits structs units entry k unit keeps there numbers.variables fit fit_places numbers

module _ (structs : List StructDef) (units : List UnitDef) (entry : ℕ) (fit : ExpressionsFit structs units entry)
    (fit_places : PlacesFit structs units entry) (k : ℕ) (unit : UnitDef) (copies : List Bool) (keeps : IsWellTyped structs units entry)
    (there : slice_get units k ≡ Some unit) (few : length unit.vars ≤ 2 ^ 64) where
  abbrev site : TypingContext
  site = site_of structs (take k units) unit

  abbrev P : Stmt → Type 0
  P s = fits site s ≡ true → stmts_fit (2 * (depth_of s).exprs + 3) (act_code site copies s) ≡ true

  abbrev names_here : list_all words.is_name (map (λ (def : StructDef). def.name) structs) ≡ true
  names_here = names structs units entry k unit keeps there few

  layer_at : (place : Place) (layer : StmtKind-F StmtKind Arm Branch Stmt) → out-StmtKind (out-Stmt (stmt place layer)).what ≡ layer
  layer_at place layer = ap (λ s. out-StmtKind s.what) (out-roll-Stmt (record { place = place; what = roll-StmtKind layer }))
      ∙ out-roll-StmtKind layer

  act_is : (place : Place) (layer : StmtKind-F StmtKind Arm Branch Stmt) → act_code site copies (stmt place layer) ≡ layer_code site copies layer
  act_is place layer = ap (layer_code site copies) (layer_at place layer)

  none : (place : Place) (layer : StmtKind-F StmtKind Arm Branch Stmt) → layer_code site copies layer ≡ [] → P (stmt place layer)
  none place layer is fitted =
      subst (λ code. stmts_fit (2 * (depth_of (stmt place layer)).exprs + 3) code ≡ true) (sym (act_is place layer ∙ is)) refl

  exprs_here : (e : Expr) (ty : Ty) → type_of site e ≡ Some ty → expr_fits (room (expr_depth e)) (code_made site e) ≡ true
  exprs_here e ty typed = fit k unit e ty keeps there few typed

  paths_here : (path : Path) (ty : Ty) → type_of_path site path ≡ Some ty →
      place_fits (room (path_depth path)) (stands site path).place ≡ true
  paths_here path ty typed = fit_places k unit path ty keeps there few typed

  named_here : (f : ℕ) (callee : UnitDef) → slice_get (take k units) f ≡ Some callee → words.is_name callee.name ≡ true
  named_here = earlier_named structs units entry k unit keeps there few

  vars_here : list_all words.is_name (names_of unit.vars) ≡ true
  vars_here = vars_named structs units entry keeps k unit there

  typed_here : (j : ℕ) (var : Var) → slice_get unit.vars j ≡ Some var → type_stands (length structs) var.ty ≡ true
  typed_here = typed structs units entry k unit keeps there few

  act_declare : (place : Place) (j : ℕ) (initial : Option Expr) → P (stmt place (StmtKind-F.Declare j initial))
  act_declare place j initial fitted =
      rw (fold-roll-Stmt, fold-roll-StmtKind)
      (subst (λ code. stmts_fit (2 * optional_depth initial + 3) code ≡ true) (sym (act_is place (StmtKind-F.Declare j initial)))
      (declared-fits site few names_here named_here vars_here typed_here exprs_here paths_here (2 * optional_depth initial + 3) copies j initial
      (rw (fold-roll-Stmt, fold-roll-StmtKind) at fitted) (omega arith)))

  act_assign : (place : Place) (path : Path) (e : Expr) → P (stmt place (StmtKind-F.Assign path e))
  act_assign place path e fitted =
      let d : ℕ = 2 * max (path_depth path) (expr_depth e) + 3 in
      rw (fold-roll-Stmt, fold-roll-StmtKind)
      (subst (λ code. stmts_fit (2 * max (path_depth path) (expr_depth e) + 3) code ≡ true) (sym (act_is place (StmtKind-F.Assign path e)))
      (one-fits d (c_set (stands site path).place (code_made site e))
      (assigned-fits site few names_here named_here vars_here typed_here exprs_here paths_here d path e
      (rw (fold-roll-Stmt, fold-roll-StmtKind) at fitted) (omega arith))))

  act_call : (place : Place) (f : ℕ) (inputs : List Expr) (outputs : List Path) → P (stmt place (StmtKind-F.Call f inputs outputs))
  act_call place f inputs outputs fitted =
      let d : ℕ = 2 * arguments_depth inputs outputs + 3 in
      rw (fold-roll-Stmt, fold-roll-StmtKind)
      (subst (λ code. stmts_fit (2 * arguments_depth inputs outputs + 3) code ≡ true) (sym (act_is place (StmtKind-F.Call f inputs outputs)))
      (one-fits d (c_calling (call_made site f inputs outputs))
      (called-fits site few names_here named_here vars_here typed_here exprs_here paths_here d f inputs outputs
      (rw (fold-roll-Stmt, fold-roll-StmtKind) at fitted) (omega arith))))

  cases : Cases P
  cases = record {
    declare = act_declare;
    assign = act_assign;
    call = act_call;
    await = λ place e. none place (StmtKind-F.Await e) refl;
    run = λ place target a inputs outputs. none place (StmtKind-F.Run target a inputs outputs) refl;
    branching = λ place arms other each others. none place (StmtKind-F.If arms other) refl;
    cobegin = λ place branches each. none place (StmtKind-F.Cobegin branches) refl;
    guarded = λ place guard e body each. none place (StmtKind-F.When guard e body) refl;
    repeat = λ place body each. none place (StmtKind-F.Repeat body) refl;
    until = λ place body e each. none place (StmtKind-F.Until body e) refl;
    while = λ place e body each. none place (StmtKind-F.While e body) refl;
    returns = λ place e. none place (StmtKind-F.Return e) refl;
  }

  act_fits : (s : Stmt) → P s
  act_fits = induct P cases

pub acts : (structs : List StructDef) (units : List UnitDef) (entry : ℕ) → ExpressionsFit structs units entry →
    PlacesFit structs units entry →
    ActsFit structs units entry
acts structs units entry fit fit_places k unit copies s keeps there few = act_fits structs units entry fit fit_places k unit copies keeps there few s
