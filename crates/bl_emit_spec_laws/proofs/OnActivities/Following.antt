-- The C functions of all activities, each over those before it.
use Rattle.std.proofs.Common.{◌≡◌, ℕ, zero, suc, ◌<◌, Bool, true, false, List, Option, Some, None, refl, sym, ap, ◌∙◌, subst, arith}
use Rattle.std.proofs.lemmas.Bool.{eq-eqb, eqb-true}
use Rattle.std.proofs.lemmas.Option.{same_Some}
use Rattle.std.specs.Prelude.{◌==◌, slice_get}
use Rattle.bl_tree.proofs.Basics.{true_not_false}
use Rattle.bl_tree.specs.declared.tree.StructDef.{StructDef}
use Rattle.bl_tree.specs.declared.tree.Unit.{Unit as UnitDef}
use Rattle.bl_tree.specs.Typing.{is_activity}
use Rattle.bl_ctext_semantics.specs.Meaning.{Meaning, function_c}
use Rattle.bl_ctext_semantics.specs.Tables.{Table}
use Rattle.bl_ctree.specs.Instances.{Setting, setting_of, unit_at}
use Rattle.bl_ctree_laws_confluence.specs.Deeds.Orderly.{AcceptedIsOrderly}
use Rattle.bl_emit_acts.specs.Types.{unit_name}
use Rattle.bl_emit_functions_laws_simulation.specs.Units.{FunctionsSimulate, KnownUpTo, NoneOverlaps}
use Rattle.bl_emit_spec.specs.Activities.{activity_function}
use Rattle.bl_machine.specs.declared.machine.Activity.{Activity as InMachine}
use Rattle.bl_emit_spec_laws.specs.Calls.Built.{Activities, unit_number}
use Rattle.bl_emit_spec_laws.specs.Calls.Calls.{ActivitySimulates}
use Rattle.bl_emit_spec_laws.specs.Calls.Laws.{ActivityKnown, AllKnownUpTo, CompilationContext, FunctionsBegin, PassesSimulate}
use Rattle.bl_emit_spec_laws.specs.Activities.{AllActivitiesSimulate, CalleesRemember, CallsSimulate, PointersAreGiven, ViewsFit}
use Rattle.bl_emit_spec_laws.proofs.OnActivities.Nested.{unit_there}

-- ---- tables

-- of what a table knows, the functions
pub functions_known : (structs : List StructDef) (units : List UnitDef) (activities : Activities) (k : ℕ) (known : Table Meaning) →
    AllKnownUpTo structs units activities k known → KnownUpTo structs units k known
functions_known structs units activities zero known all = all
functions_known structs units activities (suc k) known all = (
  functions_known structs units activities k known all.0,
  λ unit there is.
      (let one = all.1.0 unit there is in (one.0, one.1, functions_known structs units activities k one.0 one.2)),
)

-- and the activity at a position
pub activity_known : (structs : List StructDef) (units : List UnitDef) (activities : Activities) (k u : ℕ) (known : Table Meaning) → u < k →
    AllKnownUpTo structs units activities k known → ActivityKnown activities units u (AllKnownUpTo structs units activities u) known
activity_known structs units activities zero u known less all = absurd (omega (arith, less))
activity_known structs units activities (suc k) u known less all =
    by (u == k) refl (λ before. activity_known structs units activities k u known before all.0)
  where
    by : (last : Bool) → (u == k) ≡ last →
        (u < k → ActivityKnown activities units u (AllKnownUpTo structs units activities u) known) →
        ActivityKnown activities units u (AllKnownUpTo structs units activities u) known
    by true is earlier =
        subst (λ (n : ℕ). ActivityKnown activities units n (AllKnownUpTo structs units activities n) known) (sym (eqb-true u k is)) all.1.1
    by false is earlier =
        let differ : u ≡ k → ⊥ = λ same. (let both = sym (eq-eqb u k same) ∙ is in cc) in
        earlier (omega (arith, less, differ))

module _ (orderly : AcceptedIsOrderly) (calls : CallsSimulate) (structs : List StructDef) (units : List UnitDef) (entry : ℕ) (machine : List InMachine)
    (activities : Activities) (functions : FunctionsSimulate structs units entry) (begin : FunctionsBegin structs units entry machine activities)
    (pointers : PointersAreGiven structs units entry machine activities) (views : ViewsFit structs units entry machine activities)
    (remember : CalleesRemember structs units entry machine activities) (passes : PassesSimulate structs units entry machine activities)
    (compiled : CompilationContext structs units entry machine activities) (overlaps : NoneOverlaps units) where
  abbrev W : Setting
  W = setting_of structs units entry

  abbrev Comes : ℕ → Table Meaning → ℕ → Type 0
  Comes u known depth = ActivitySimulates W activities u known depth

  -- a position that has no instance
  no_instance : (u : ℕ) (known : Table Meaning) (depth : ℕ) →
      ((i : ℕ) (unit : UnitDef) → unit_number W i ≡ u → unit_at W i ≡ Some unit → ⊥) →
      Comes u known depth
  no_instance u known depth none = record {
    executes = λ i unit given frames store r frames' left r' here is_number is_there. absurd (none i unit is_number is_there);
    cut = λ i unit given frames store r here is_number is_there. absurd (none i unit is_number is_there);
  }

  at_position : (i u : ℕ) (unit : UnitDef) → unit_number W i ≡ u → unit_at W i ≡ Some unit → slice_get units u ≡ Some unit
  at_position i u unit is_number is_there = subst (λ (n : ℕ). slice_get units n ≡ Some unit) is_number (unit_there W i unit is_there)

  active : (i : ℕ) (unit : UnitDef) → unit_at W i ≡ Some unit → is_activity unit.kind ≡ true
  active i unit is_there = ((orderly structs units entry compiled.well_typed compiled.passes).each i unit is_there).activity

  come_below : (n u : ℕ) → u < n → (k : ℕ) (known : Table Meaning) (depth : ℕ) → AllKnownUpTo structs units activities k known → u < k →
      Comes u known depth
  come_below zero u less k known depth all within = absurd (omega (arith, less))
  come_below (suc n) u less k known depth all within =
      by_unit (λ v before. come_below n v before) (slice_get units u) refl
    where
      by_kind : ((v : ℕ) → v < n → (j : ℕ) (table : Table Meaning) (d : ℕ) → AllKnownUpTo structs units activities j table → v < j →
          Comes v table d) →
          (unit : UnitDef) → slice_get units u ≡ Some unit → (b : Bool) → is_activity unit.kind ≡ b → Comes u known depth
      by_kind earlier unit there false kind =
          no_instance u known depth (λ i other is_number is_there.
          (let same = same_Some other unit (sym (at_position i u other is_number is_there) ∙ there) in
          true_not_false (sym (active i other is_there) ∙ ap (λ (x : UnitDef). is_activity x.kind) same ∙ kind)))
      by_kind earlier unit there true kind =
          let one = activity_known structs units activities k u known within all unit there kind in
          let below = one.0 in
          calls structs units entry machine activities begin pointers views remember passes u depth known below compiled
          (λ other is. (let same = same_Some unit other (sym there ∙ is) in
          subst (λ (x : UnitDef). known (unit_name x.name) ≡ Some (function_c below (activity_function (activities u)))) same one.1))
          (λ scope is. functions u scope compiled.well_typed overlaps compiled.names
          (subst (λ (t : Table Meaning). KnownUpTo structs units u t) (sym is) (functions_known structs units activities u below one.2)))
          (λ v d before. earlier v (omega (arith, less, before)) u below d one.2 before)

      by_unit : ((v : ℕ) → v < n → (j : ℕ) (table : Table Meaning) (d : ℕ) → AllKnownUpTo structs units activities j table → v < j →
          Comes v table d) →
          (o : Option UnitDef) → slice_get units u ≡ o → Comes u known depth
      by_unit earlier None there =
          no_instance u known depth (λ i unit is_number is_there. (let both = sym there ∙ at_position i u unit is_number is_there in cc))
      by_unit earlier (Some unit) there = by_kind earlier unit there (is_activity unit.kind) refl

pub compiled_simulate : AcceptedIsOrderly → CallsSimulate → AllActivitiesSimulate
compiled_simulate orderly calls structs units entry machine activities functions begin pointers views remember passes k u known depth compiled overlaps all within =
    come_below orderly calls structs units entry machine activities functions begin pointers views remember passes compiled overlaps (suc u) u
    (omega arith) k known depth all within
