-- The laws of a whole program.
use Rattle.std.proofs.Common.{◌≡◌, ℕ, true, List, take, Some, sym, ◌∙◌, subst}
use Rattle.std.proofs.lemmas.Option.{same_Some}
use Rattle.std.specs.Prelude.{slice_get}
use Rattle.bl_tree.specs.declared.tree.StructDef.{StructDef}
use Rattle.bl_tree.specs.declared.tree.Unit.{Unit as UnitDef}
use Rattle.bl_tree.specs.declared.tree.Var.{Var}
use Rattle.bl_tree.specs.declared.value.Value.{Value}
use Rattle.bl_tree.specs.Typing.{site_of}
use Rattle.bl_eval.specs.Functions.{callees_of}
use Rattle.bl_eval.specs.Values.{value_fits}
use Rattle.bl_eval.proofs.PassLemmas.{Found, pass_at}
use Rattle.bl_eval.proofs.UnitFits.{sound_at}
use Rattle.bl_emit_acts_laws_simulation.specs.Laws.{ExpressionsSimulate, PlacesSimulate, WritesEncode}
use Rattle.bl_emit_acts_laws_simulation.proofs.Expressions.{made_shows, place_leads}
use Rattle.bl_emit_acts_laws_simulation.proofs.Writes.{put_holds}

pub expressions : (structs : List StructDef) (units : List UnitDef) (entry : ℕ) → ExpressionsSimulate structs units entry
expressions structs units entry k unit e ty view copied scope here keeps b typed named =
    made_shows structs (take k units) unit (callees_of structs (take k units)) (sound_at structs units entry k unit keeps b.is_there) view
    b.fitting.now b.fitting.before copied scope here b.variables b.live b.copies b.functions e named ty typed

pub places : (structs : List StructDef) (units : List UnitDef) (entry : ℕ) → PlacesSimulate structs units entry
places structs units entry k unit path ty view copied scope here keeps b typed named =
    (place_leads structs (take k units) unit (callees_of structs (take k units)) (sound_at structs units entry k unit keeps b.is_there) view
    b.fitting.now b.fitting.before copied scope here b.variables b.live b.copies b.functions path named ty typed).0

pub writes : (structs : List StructDef) (units : List UnitDef) (entry : ℕ) → WritesEncode structs units entry
writes structs units entry k unit scope here now made root var ks ty new held keeps w =
    put_holds (site_of structs (take k units) unit) keeps.structs_stand scope here root var w.known w.written ks ty
    w.typed new held w.holds now made w.variables w.apart
    (λ value at. fits_at value at (pass_at (λ (var : Var). value_fits structs var.ty) unit.vars now root var w.fits w.known)) w.put
  where
    fits_at : (value : Value) → slice_get now root ≡ Some value → Found (λ (var : Var). value_fits structs var.ty) var (slice_get now root) →
        value_fits structs var.ty value ≡ true
    fits_at value at found = subst (λ v. value_fits structs var.ty v ≡ true) (same_Some found.0 value (sym found.1 ∙ at)) found.2
