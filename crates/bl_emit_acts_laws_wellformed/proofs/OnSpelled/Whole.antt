-- The laws of a whole program.
use Rattle.std.proofs.Common.{◌≡◌, ℕ, zero, suc, true, List, [], ◌∷◌, map, take, length, Some, ap, ◌∙◌, sym}
use Rattle.std.proofs.lemmas.Option.{same_Some}
use Rattle.std.proofs.lemmas.List.Folds.{list_all-append}
use Rattle.std.specs.Prelude.{slice_get}
use Rattle.std.specs.List.{list_all}
use Rattle.bl_tree.proofs.Basics.{and_first, and_second}
use Rattle.bl_tree.specs.declared.tree.StructDef.{StructDef}
use Rattle.bl_tree.specs.declared.tree.Unit.{Unit as UnitDef}
use Rattle.bl_tree.specs.declared.tree.Var.{Var}
use Rattle.bl_tree.specs.Depths.{expr_depth}
use Rattle.bl_tree.specs.Program.{IsWellTyped}
use Rattle.bl_tree.specs.Types.{type_stands}
use Rattle.bl_tree.specs.Typing.{TypingContext, site_of}
use Rattle.bl_tree.specs.Words as words
use Rattle.bl_eval.proofs.PassLemmas.{all_at}
use Rattle.bl_emit_acts.specs.Expressions.{made_of}
use Rattle.bl_emit_acts_laws_wellformed.proofs.OnFormed.Units.{taken_there, vars_named, vars_stand}
use Rattle.bl_emit_acts_laws_wellformed.specs.Spelled.{ExpressionsFit, PlacesFit}
use Rattle.bl_emit_acts_laws_wellformed.proofs.OnSpelled.Fits.{made_fits, place_fit, room}
use Rattle.bl_emit_acts_laws_wellformed.proofs.OnSpelled.Operators.{code-fits}

module _ (structs : List StructDef) (units : List UnitDef) (entry : ℕ) (keeps : IsWellTyped structs units entry) where
  unit_names : list_all words.is_name (map (λ (unit : UnitDef). unit.name) units) ≡ true
  unit_names =
      and_second (list_all words.is_name (map (λ (def : StructDef). def.name) structs)) (list_all words.is_name (map (λ (unit : UnitDef). unit.name) units))
      (sym (list_all-append words.is_name (map (λ (def : StructDef). def.name) structs) (map (λ (unit : UnitDef). unit.name) units)) ∙ keeps.named)

  named_at : (units : List UnitDef) (k : ℕ) (unit : UnitDef) → list_all words.is_name (map (λ (unit : UnitDef). unit.name) units) ≡ true →
      slice_get units k ≡ Some unit → words.is_name unit.name ≡ true
  named_at [] k unit all there = absurd (cc)
  named_at (first ∷ units) zero unit all there =
      ap (λ (unit : UnitDef). words.is_name unit.name) (sym (same_Some first unit there))
      ∙ and_first (words.is_name first.name) (list_all words.is_name (map (λ (unit : UnitDef). unit.name) units)) all
  named_at (first ∷ units) (suc k) unit all there =
      named_at units k unit (and_second (words.is_name first.name) (list_all words.is_name (map (λ (unit : UnitDef). unit.name) units)) all) there

  pub earlier_named : (k f : ℕ) (callee : UnitDef) → slice_get (take k units) f ≡ Some callee → words.is_name callee.name ≡ true
  earlier_named k f callee there = named_at units f callee unit_names (taken_there units k f callee there)

  pub vars_typed : (k : ℕ) (unit : UnitDef) → slice_get units k ≡ Some unit → (j : ℕ) (var : Var) → slice_get unit.vars j ≡ Some var →
      type_stands (length structs) var.ty ≡ true
  vars_typed k unit there j var found =
      all_at (λ (var : Var). type_stands (length structs) var.ty) unit.vars j var (vars_stand structs units entry keeps k unit there) found

pub expressions : (structs : List StructDef) (units : List UnitDef) (entry : ℕ) → ExpressionsFit structs units entry
expressions structs units entry k unit e ty keeps there few typed =
    let site : TypingContext = site_of structs (take k units) unit in
    code-fits (room (expr_depth e)) ty (made_of site e)
    (made_fits site keeps.structs_stand few (earlier_named structs units entry keeps k) (vars_named structs units entry keeps k unit there)
    (vars_typed structs units entry keeps k unit there) e ty typed)

pub places : (structs : List StructDef) (units : List UnitDef) (entry : ℕ) → PlacesFit structs units entry
places structs units entry k unit path ty keeps there few typed =
    (place_fit (site_of structs (take k units) unit) keeps.structs_stand few (earlier_named structs units entry keeps k)
    (vars_named structs units entry keeps k unit there) (vars_typed structs units entry keeps k unit there) path ty typed).0
