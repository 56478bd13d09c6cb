-- The law of acts of a whole program.
use Rattle.std.proofs.Common.{◌≡◌, ℕ, Bool, true, List, length, map, take, Option, Some, None, ap, ◌∙◌, subst, sym}
use Rattle.std.specs.Prelude.{slice_get}
use Rattle.bl_tree.proofs.Basics.{and_first, and_second}
use Rattle.bl_tree.specs.declared.place.Place.{Place}
use Rattle.bl_tree.specs.declared.tree.Arm.{Arm}
use Rattle.bl_tree.specs.declared.tree.Branch.{Branch}
use Rattle.bl_tree.specs.declared.tree.Expr.{Expr}
use Rattle.bl_tree.specs.declared.tree.Stmt.{Stmt, fold-roll-Stmt, out-Stmt, roll-Stmt, roll-out-Stmt}
use Rattle.bl_tree.specs.declared.tree.StmtKind.{StmtKind, fold-roll-StmtKind, out-StmtKind, roll-out-StmtKind}
use Rattle.bl_tree.specs.declared.tree.StmtKind.TheOpen.{StmtKind-F}
use Rattle.bl_tree.specs.declared.tree.StructDef.{StructDef}
use Rattle.bl_tree.specs.declared.tree.Unit.{Unit as UnitDef}
use Rattle.bl_tree.specs.declared.tree.Var.{Var}
use Rattle.bl_tree.specs.Program.{IsWellTyped}
use Rattle.bl_tree.specs.Reduce.{all_of}
use Rattle.bl_tree.specs.Types.{type_stands}
use Rattle.bl_tree.specs.Typing.{TypingContext, fits, site_of, var_at}
use Rattle.bl_tree.proofs.StmtInduction.{stmt}
use Rattle.bl_eval.proofs.PassLemmas.{all_at}
use Rattle.bl_ctext_semantics.specs.Faults.{Context}
use Rattle.bl_emit_acts.specs.Acts.{c_calling, c_set, call_made, is_copied, layer_code}
use Rattle.bl_emit_acts.specs.Expressions.{code_of, made_of, stands}
use Rattle.bl_emit_acts_laws_simulation.specs.Acts.{copied_in_layer, is_act}
use Rattle.bl_emit_acts_laws_simulation.specs.Encodes.{copied_in, copied_in_path}
use Rattle.bl_emit_acts_laws_wellformed.specs.Formed.Declared.{ChangesNone, Declared, InActivity}
use Rattle.bl_emit_acts_laws_wellformed.specs.Formed.Formed.{BlockIs}
use Rattle.bl_emit_acts_laws_wellformed.specs.Formed.Laws.{ActsWellFormed}
use Rattle.bl_emit_acts_laws_wellformed.proofs.OnFormed.Acts.{block_one}
use Rattle.bl_emit_acts_laws_wellformed.proofs.OnFormed.SiteActs.{EarlierStand, assign_is, call_is, declare_is, named_initial}
use Rattle.bl_emit_acts_laws_wellformed.proofs.OnFormed.Units.{inputs_stand, outputs_stand, taken_there, vars_stand}

module _ (structs : List StructDef) (units : List UnitDef) (entry : ℕ) (k : ℕ) (unit : UnitDef) (copies : List Bool) (context : Context)
    (keeps : IsWellTyped structs units entry) (there : slice_get units k ≡ Some unit)
    (declared : Declared (site_of structs (take k units) unit) (is_copied copies) context)
    (plain : ChangesNone (site_of structs (take k units) unit) context) where
  abbrev my_site : TypingContext
  my_site = site_of structs (take k units) unit

  pub earlier_stand : EarlierStand my_site
  earlier_stand = record {
    inputs = λ f callee earlier. inputs_stand structs units entry keeps f callee (taken_there units k f callee earlier);
    outputs = λ f callee earlier. outputs_stand structs units entry keeps f callee (taken_there units k f callee earlier);
  }

  pub types_stand : (j : ℕ) (var : Var) → var_at my_site j ≡ Some var → type_stands (length structs) var.ty ≡ true
  types_stand j var found =
      all_at (λ (var : Var). type_stands (length structs) var.ty) unit.vars j var (vars_stand structs units entry keeps k unit there) found

  abbrev Layer : Type 0
  Layer = StmtKind-F StmtKind Arm Branch Stmt

  initial_named : (j : ℕ) (initial : Option Expr) → InActivity my_site (copied_in_layer {A = StmtKind} {B = Arm} {C = Branch} {D = Stmt}
      (is_copied copies) (StmtKind-F.Declare j initial)) →
      InActivity my_site (named_initial my_site (is_copied copies) context declared keeps.structs_stand earlier_stand types_stand plain initial)
  initial_named j None named = named
  initial_named j (Some e) named = named

  layer_formed : (place : Place) (layer : Layer) → is_act layer ≡ true → fits my_site (stmt place layer) ≡ true →
      InActivity my_site (copied_in_layer (is_copied copies) layer) → BlockIs context (layer_code my_site copies layer)
  layer_formed place (StmtKind-F.Declare j initial) act fitted named =
      declare_is my_site (is_copied copies) context declared keeps.structs_stand earlier_stand types_stand plain j initial
      (rw (fold-roll-Stmt, fold-roll-StmtKind) at fitted) (initial_named j initial named) (is_copied copies j) (λ is. is)
  layer_formed place (StmtKind-F.Assign path e) act fitted named =
      block_one context (c_set (stands my_site path).place (code_of (made_of my_site e)))
      (assign_is my_site (is_copied copies) context declared keeps.structs_stand earlier_stand types_stand plain path e
      (rw (fold-roll-Stmt, fold-roll-StmtKind) at fitted)
      (λ active. and_first (copied_in_path (is_copied copies) path) (copied_in (is_copied copies) e) (named active))
      (λ active. and_second (copied_in_path (is_copied copies) path) (copied_in (is_copied copies) e) (named active)))
  layer_formed place (StmtKind-F.Call f inputs outputs) act fitted named =
      block_one context (c_calling (call_made my_site f inputs outputs))
      (call_is my_site (is_copied copies) context declared keeps.structs_stand earlier_stand types_stand plain f inputs outputs
      (rw (fold-roll-Stmt, fold-roll-StmtKind) at fitted)
      (λ active. and_first (all_of (map (copied_in (is_copied copies)) inputs)) (all_of (map (copied_in_path (is_copied copies)) outputs)) (named active))
      (λ active. and_second (all_of (map (copied_in (is_copied copies)) inputs)) (all_of (map (copied_in_path (is_copied copies)) outputs)) (named active)))
  layer_formed place _ act fitted named = absurd (cc)

  statement_formed : (s : Stmt) → is_act (out-StmtKind (out-Stmt s).what) ≡ true → fits my_site s ≡ true →
      InActivity my_site (copied_in_layer (is_copied copies) (out-StmtKind (out-Stmt s).what)) →
      BlockIs context (layer_code my_site copies (out-StmtKind (out-Stmt s).what))
  statement_formed s act fitted named =
      let place : Place = (out-Stmt s).place in
      let whole : stmt place (out-StmtKind (out-Stmt s).what) ≡ s =
      ap (λ (what : StmtKind). roll-Stmt (record { place = place; what = what })) (roll-out-StmtKind (out-Stmt s).what) ∙ roll-out-Stmt s in
      layer_formed place (out-StmtKind (out-Stmt s).what) act (subst (λ s. fits my_site s ≡ true) (sym whole) fitted) named

pub acts : (structs : List StructDef) (units : List UnitDef) (entry : ℕ) → ActsWellFormed structs units entry
acts structs units entry k unit s copies context keeps there declared plain act fitted named =
    statement_formed structs units entry k unit copies context keeps there declared plain s act fitted named
