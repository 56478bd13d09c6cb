-- The law of acts of a whole program.
use Rattle.std.proofs.Common.{◌≡◌, ℕ, Bool, true, List, [], map, take, Option, Some, None, refl, sym, ap, ◌∙◌, subst}
use Rattle.std.specs.Prelude.{slice_get}
use Rattle.bl_tree.proofs.Basics.{and_first, and_second}
use Rattle.bl_tree.specs.declared.place.Place.{Place}
use Rattle.bl_tree.specs.declared.tree.Arm.{Arm}
use Rattle.bl_tree.specs.declared.tree.Branch.{Branch}
use Rattle.bl_tree.specs.declared.tree.Expr.{Expr}
use Rattle.bl_tree.specs.declared.tree.Stmt.{Stmt, fold-roll-Stmt, out-Stmt, roll-Stmt, roll-out-Stmt}
use Rattle.bl_tree.specs.declared.tree.StmtKind.{StmtKind, fold-roll-StmtKind, out-StmtKind, roll-out-StmtKind}
use Rattle.bl_tree.specs.declared.tree.StmtKind.TheOpen.{StmtKind-F}
use Rattle.bl_tree.specs.declared.tree.StructDef.{StructDef}
use Rattle.bl_tree.specs.declared.tree.Unit.{Unit as UnitDef}
use Rattle.bl_tree.specs.Program.{IsWellTyped}
use Rattle.bl_tree.specs.Reduce.{all_of}
use Rattle.bl_tree.specs.Typing.{TypingContext, fits, site_of}
use Rattle.bl_tree.proofs.StmtInduction.{stmt}
use Rattle.bl_eval.specs.Functions.{acted, callees_of, scope_among}
use Rattle.bl_eval.specs.Meaning.{View}
use Rattle.bl_ctext_semantics.specs.Memory.{Memory}
use Rattle.bl_ctext_semantics.specs.Meaning.{Scope, block_c}
use Rattle.bl_emit_acts.specs.Acts.{is_copied, layer_code}
use Rattle.bl_emit_acts_laws_simulation.specs.Acts.{Simulates, before_after, copied_in_layer, is_act}
use Rattle.bl_emit_acts_laws_simulation.specs.Encodes.{copied_in, copied_in_path}
use Rattle.bl_emit_acts_laws_simulation.specs.Laws.{ActsSimulate, BesideActs, overlaps_in}
use Rattle.bl_emit_acts_laws_simulation.proofs.Acts.{assign_comes, declare_comes}
use Rattle.bl_emit_acts_laws_simulation.proofs.Calls.{called_comes}

module _ (structs : List StructDef) (units : List UnitDef) (entry : ℕ) (k : ℕ) (unit : UnitDef) (view : View) (copies : List Bool) (scope : Scope)
    (here : Memory) (keeps : IsWellTyped structs units entry) (b : BesideActs structs units k unit view (is_copied copies) scope here) where
  abbrev my_site : TypingContext
  my_site = site_of structs (take k units) unit

  abbrev CameOf : StmtKind-F StmtKind Arm Branch Stmt → Type 0
  CameOf layer = Simulates my_site (is_copied copies) scope here (λ now. before_after layer now view.before)
      (acted (scope_among structs (callees_of structs (take k units)) unit) layer view) (block_c (layer_code my_site copies layer) scope here)

  initial_named : (initial : Option Expr) → copied_in_layer {A = StmtKind} {B = Arm} {C = Branch} {D = Stmt}
      (is_copied copies) (StmtKind-F.Declare 0 initial) ≡ true →
      (e : Expr) → initial ≡ Some e → copied_in (is_copied copies) e ≡ true
  initial_named initial named e is =
      subst (λ initial. copied_in_layer {A = StmtKind} {B = Arm} {C = Branch} {D = Stmt} (is_copied copies) (StmtKind-F.Declare 0 initial) ≡ true) is named

  layer_comes : (place : Place) (layer : StmtKind-F StmtKind Arm Branch Stmt) → is_act layer ≡ true → fits my_site (stmt place layer) ≡ true →
      copied_in_layer (is_copied copies) layer ≡ true → overlaps_in layer ≡ [] → CameOf layer
  layer_comes place (StmtKind-F.Declare j initial) act fitted named clear =
      declare_comes structs units entry k unit view copies scope here keeps b j initial (rw (fold-roll-Stmt, fold-roll-StmtKind) at fitted)
      (initial_named initial (named_again initial named))
    where
      named_again : (initial : Option Expr) →
          copied_in_layer {A = StmtKind} {B = Arm} {C = Branch} {D = Stmt} (is_copied copies) (StmtKind-F.Declare j initial) ≡ true →
          copied_in_layer {A = StmtKind} {B = Arm} {C = Branch} {D = Stmt} (is_copied copies) (StmtKind-F.Declare 0 initial) ≡ true
      named_again None h = h
      named_again (Some e) h = h
  layer_comes place (StmtKind-F.Assign path e) act fitted named clear =
      assign_comes structs units entry k unit view copies scope here keeps b path e (rw (fold-roll-Stmt, fold-roll-StmtKind) at fitted)
      (and_first (copied_in_path (is_copied copies) path) (copied_in (is_copied copies) e) named)
      (and_second (copied_in_path (is_copied copies) path) (copied_in (is_copied copies) e) named)
  layer_comes place (StmtKind-F.Call f inputs outputs) act fitted named clear =
      called_comes structs units entry k unit view copies scope here keeps b f inputs outputs (slice_get (take k units) f) refl
      (rw (fold-roll-Stmt, fold-roll-StmtKind) at fitted)
      (and_first (all_of (map (copied_in (is_copied copies)) inputs)) (all_of (map (copied_in_path (is_copied copies)) outputs)) named)
      (and_second (all_of (map (copied_in (is_copied copies)) inputs)) (all_of (map (copied_in_path (is_copied copies)) outputs)) named) clear
  layer_comes place _ act fitted named clear = absurd (cc)

  pub statement_comes : (s : Stmt) → is_act (out-StmtKind (out-Stmt s).what) ≡ true → fits my_site s ≡ true →
      copied_in_layer (is_copied copies) (out-StmtKind (out-Stmt s).what) ≡ true → overlaps_in (out-StmtKind (out-Stmt s).what) ≡ [] →
      CameOf (out-StmtKind (out-Stmt s).what)
  statement_comes s act fitted named clear =
      let place : Place = (out-Stmt s).place in
      let whole : stmt place (out-StmtKind (out-Stmt s).what) ≡ s =
      ap (λ (what : StmtKind). roll-Stmt (record { place = place; what = what })) (roll-out-StmtKind (out-Stmt s).what) ∙ roll-out-Stmt s in
      layer_comes place (out-StmtKind (out-Stmt s).what) act (subst (λ s. fits my_site s ≡ true) (sym whole) fitted) named clear

pub acts : (structs : List StructDef) (units : List UnitDef) (entry : ℕ) → ActsSimulate structs units entry
acts structs units entry k unit s view copies scope here keeps b act fitted named clear =
    statement_comes structs units entry k unit view copies scope here keeps b s act fitted named clear
