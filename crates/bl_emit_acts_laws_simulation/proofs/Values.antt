-- What is made of an expression gives a C value that holds the expression's value.
use Rattle.std.proofs.Common.{◌≡◌, ℕ, ℤ, List, [], ◌∷◌, Option, Some, None, sym, ap, ◌∙◌, subst, IfSome}
use Rattle.std.proofs.lemmas.Option.{same_Some}
use Rattle.std.specs.Prelude.{option_and_then, option_map, slice_get}
use Rattle.bl_tree.specs.declared.c.CPlace.{CPlace}
use Rattle.bl_tree.specs.declared.scalar.Scalar.{Scalar as ScalarType}
use Rattle.bl_tree.specs.declared.tree.StructDef.{StructDef}
use Rattle.bl_tree.specs.declared.tree.Ty.{Ty}
use Rattle.bl_tree.specs.declared.value.Value.{Value}
use Rattle.bl_tree.specs.declared.value.Value.TheVariants.{Number as Numbered, outs-Number}
use Rattle.bl_tree.specs.Types.{scalar_in}
use Rattle.bl_eval.specs.declared.datum.Datum.{Datum}
use Rattle.bl_eval.specs.declared.datum.Datum.TheVariants.{Scalar as OfScalar, Whole as OfWhole}
use Rattle.bl_eval.specs.Meaning.{plain}
use Rattle.bl_eval.specs.Values.{number_at as number_level, number_in, parts_at, value_at}
use Rattle.bl_eval.proofs.OperatorFits.{DatumFits}
use Rattle.bl_ctext_semantics.specs.Memory.{CValue, Location, Memory}
use Rattle.bl_ctext_semantics.specs.Memory as memory
use Rattle.bl_ctext_semantics.specs.Meaning.{Counted, Scope, location_c, value_c}
use Rattle.bl_emit_acts.specs.declared.made.Made.{Made}
use Rattle.bl_emit_acts.specs.declared.made.Made.TheVariants.{Number, Whole}
use Rattle.bl_emit_acts.specs.Expressions.{code_of}
use Rattle.bl_emit_acts.specs.Trees.{c_read}
use Rattle.bl_emit_acts_laws_simulation.specs.Encodes.{Encodes, number_within, way_to}
use Rattle.bl_emit_acts_laws_simulation.specs.Simulation.{ExpressionSimulates, PlaceValueSimulates, number_given}
use Rattle.bl_emit_acts_laws_simulation.proofs.Evaluated.{read-value}
use Rattle.bl_emit_acts_laws_simulation.proofs.Numbers.{num}
use Rattle.bl_emit_acts_laws_simulation.proofs.Places.{mapped-answer}

-- a C value holds a value, or there is neither
abbrev pub ValueShows : List StructDef → Ty → Option CValue → Option Value → Type 0
ValueShows structs ty None None = Unit {0}
ValueShows structs ty (Some held) (Some value) = Encodes structs ty value held
ValueShows structs ty _ _ = ⊥

-- a C value of this number holds it
pub number_holds : (structs : List StructDef) (ty : Ty) (n : ℤ) (held : CValue) → memory.scalar_number held ≡ n → Encodes structs ty (Numbered n) held
number_holds structs ty n held is = record { each = each }
  where
    each : (ks : List ℕ) (m : ℤ) → number_within ks (Numbered n) ≡ Some m → held (way_to structs ks (Some ty)) ≡ m
    each [] m h = is ∙ same_Some n m (sym (ap number_level (outs-Number n)) ∙ h)
    each (k ∷ ks) m h = absurd (let none = sym (ap (λ layer. option_and_then number_in (option_and_then (value_at ks)
        (option_and_then (λ all. slice_get all k) (parts_at layer)))) (outs-Number n)) ∙ h in cc)

module _ (structs : List StructDef) (scope : Scope) (here : Memory) where
  by_number : (ty : Ty) (s : ScalarType) (o : Option CValue) (datum : Option Datum) → scalar_in ty ≡ Some s → IfSome datum (DatumFits structs ty) →
      num o ≡ option_map number_given datum → ValueShows structs ty o (option_map plain datum)
  by_number ty s None None is fit same = tt
  by_number ty s None (Some datum) is fit same = absurd (cc)
  by_number ty s (Some held) None is fit same = absurd (cc)
  by_number ty s (Some held) (Some (OfScalar t n)) is fit same = number_holds structs ty n held (same_Some (memory.scalar_number held) n same)
  by_number ty s (Some held) (Some (OfWhole value)) is fit same = absurd (let none = fit.0 in cc)

  by_place : (ty : Ty) (o : Option Location) (datum : Option Datum) → PlaceValueSimulates structs ty scope.depth here o datum →
      ValueShows structs ty (option_map (memory.value_at here) o) (option_map plain datum)
  by_place ty None None shown = tt
  by_place ty None (Some (OfScalar t n)) shown = absurd shown
  by_place ty None (Some (OfWhole value)) shown = absurd shown
  by_place ty (Some place) None shown = absurd shown
  by_place ty (Some place) (Some (OfScalar t n)) shown = absurd shown
  by_place ty (Some place) (Some (OfWhole value)) shown = shown.1

  reads : (place : CPlace) → (value_c (c_read place) scope here).answer ≡ option_map (memory.value_at here) (location_c place scope here).answer
  reads place = ap (λ (c : Counted CValue). c.answer) (read-value scope here place) ∙ mapped-answer (memory.value_at here) (location_c place scope here)

  -- what is made of an expression, as a C value
  pub value_shows : (ty : Ty) (made : Made) (datum : Option Datum) → ExpressionSimulates structs ty scope here made datum → IfSome datum (DatumFits structs ty) →
      ValueShows structs ty (value_c (code_of made) scope here).answer (option_map plain datum)
  value_shows ty (Number s code) datum shown fit = by_number ty s (value_c code scope here).answer datum shown.0 fit shown.1
  value_shows ty (Whole place) datum shown fit =
      subst (λ o. ValueShows structs ty o (option_map plain datum)) (sym (reads place)) (by_place ty (location_c place scope here).answer datum shown.1)

  -- what stands at a place is read
  pub read_gives : (place : CPlace) (at : Location) → (location_c place scope here).answer ≡ Some at →
      (value_c (c_read place) scope here).answer ≡ Some (memory.value_at here at)
  read_gives place at is = reads place ∙ ap (option_map (memory.value_at here)) is
