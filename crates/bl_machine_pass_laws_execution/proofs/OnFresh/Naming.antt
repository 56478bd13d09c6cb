-- The instance that a `run` of a body begins is of the unit that it names.
use Rattle.std.proofs.Common.{◌≡◌, ℕ, ◌<◌, Bool, true, List, [], ◌∷◌, ◌++◌, map, get_or, Option, Some, None, refl, sym, ap, ◌∙◌, subst}
use Rattle.std.proofs.Common.{arith, eqb-true}
use Rattle.std.proofs.lemmas.List.Quantifiers.{position-Some}
use Rattle.std.specs.Prelude.{Contains, nat_eq, option_and_then, slice_get}
use Rattle.bl_tree.proofs.Basics.{and_first, and_second, contains_at, get_within, one_some}
use Rattle.bl_tree.specs.declared.place.Place.{Place}
use Rattle.bl_tree.specs.declared.tree.StructDef.{StructDef}
use Rattle.bl_tree.specs.declared.tree.Unit.{Unit as UnitDef}
use Rattle.bl_tree.specs.Program.{IsWellTyped}
use Rattle.bl_tree.specs.Reduce.{joined}
use Rattle.bl_tree.specs.Rules.{same_place}
use Rattle.bl_tree.specs.Within.{StandsIn, place_of}
use Rattle.bl_ctree.specs.declared.instance.Instance.{Instance}
use Rattle.bl_ctree.specs.declared.instance.Origin.{Origin}
use Rattle.bl_ctree.specs.declared.instance.Run.{Run}
use Rattle.bl_ctree.specs.Instances.{Setting, begins_at, callee_of, runs_in, setting_of, unit_at, unit_of}
use Rattle.bl_ctree_laws_confluence.specs.Deeds.Origins.{CalledBy, HasCaller, InstancesHaveCallers}
use Rattle.bl_ctree_laws_confluence.proofs.OnDeeds.Activities.{AllOf}
use Rattle.bl_ctree_laws_confluence.proofs.OnApart.Placed.{RunAs, runs_listed, same_unit, unit_listed}
use Rattle.bl_tree.proofs.FirstLemmas.{same_true}

-- ---- the unit of what a `run` begins

module _ (structs : List StructDef) (units : List UnitDef) (entry : ℕ) (keeps : IsWellTyped structs units entry) where
  abbrev pub W : Setting
  W = setting_of structs units entry

  record Begins (i callee : ℕ) (place : Place) (instance : Instance) (origin : Origin) : Type 0 where
    caller : origin.caller ≡ i
    at : origin.place ≡ place

  begins : (i callee : ℕ) (place : Place) (instance : Instance) (origin : Origin) → callee_of W i place ≡ Some callee →
      slice_get W.instances callee ≡ Some instance → instance.origin ≡ Some origin → Begins i callee place instance origin
  begins i callee place instance origin begun there began =
      let p : Instance → Bool = λ instance. begins_at i place instance.origin in
      let found = position-Some p W.instances callee instance begun in
      let same : get_or W.instances callee instance ≡ instance =
      one_some (get_or W.instances callee instance) instance (slice_get W.instances callee) (get_within W.instances callee instance found.0) there in
      let is : begins_at i place (Some origin) ≡ true =
      subst (λ o. begins_at i place o ≡ true) began (subst (λ instance. begins_at i place instance.origin ≡ true) same found.1) in
      record {
        caller = eqb-true origin.caller i (and_first (nat_eq origin.caller i) (same_place origin.place place) is);
        at = same_true origin.place place (and_second (nat_eq origin.caller i) (same_place origin.place place) is);
      }

  -- the instance that a `run` begins is of the unit that it names
  abbrev pub BeginsNamed : ℕ → Run → Type 0
  BeginsNamed i run =
      (callee : ℕ) (other : UnitDef) → callee_of W i run.place ≡ Some callee → unit_at W callee ≡ Some other →
      slice_get units run.unit ≡ Some other

  module _ (callers : InstancesHaveCallers) (i : ℕ) (unit : UnitDef) (is : unit_at W i ≡ Some unit) where
    -- of an instance with this origin
    of_origin : (run : Run) → RunAs (StandsIn unit.body) run → (callee : ℕ) (other : UnitDef) (instance : Instance) (origin : Origin) →
        callee_of W i run.place ≡ Some callee → slice_get W.instances callee ≡ Some instance → instance.origin ≡ Some origin →
        unit_of W instance ≡ Some other → slice_get units run.unit ≡ Some other
    of_origin run listed callee other instance origin begun there began of =
        let at = begins i callee run.place instance origin begun there began in
        let called : CalledBy units W.instances callee instance origin =
        subst (HasCaller units entry W.instances callee instance) began (callers units entry callee instance there) in
        let caller : unit_at W i ≡ Some called.unit =
        subst (λ i. unit_at W i ≡ Some called.unit) at.caller (ap (option_and_then (unit_of W)) called.there ∙ called.body) in
        let same : called.unit ≡ unit = one_some called.unit unit (unit_at W i) caller is in
        let found : Contains units unit = subst (Contains units) same (contains_at units called.caller.unit called.unit called.body) in
        let first : RunAs (StandsIn unit.body) called.run =
        subst (λ unit. RunAs (StandsIn unit.body) called.run) same (unit_listed called.unit called.run called.runs) in
        let places : place_of listed.statement ≡ place_of first.statement =
        listed.placed ∙ sym at.at ∙ called.place ∙ sym first.placed in
        let number : run.unit ≡ instance.unit =
        sym listed.names ∙ same_unit structs units entry keeps unit listed.statement first.statement found listed.among first.among listed.runs first.runs places
        ∙ first.names ∙ sym called.names in
        ap (slice_get units) number ∙ of

    no_origin : (run : Run) (callee : ℕ) (instance : Instance) → callee_of W i run.place ≡ Some callee →
        slice_get W.instances callee ≡ Some instance → instance.origin ≡ None → ⊥
    no_origin run callee instance begun there began =
        let p : Instance → Bool = λ instance. begins_at i run.place instance.origin in
        let found = position-Some p W.instances callee instance begun in
        let same : get_or W.instances callee instance ≡ instance =
        one_some (get_or W.instances callee instance) instance (slice_get W.instances callee) (get_within W.instances callee instance found.0) there in
        let so : begins_at i run.place None ≡ true =
        subst (λ o. begins_at i run.place o ≡ true) began (subst (λ instance. begins_at i run.place instance.origin ≡ true) same found.1) in
        absurd cc

    by_origin : (run : Run) → RunAs (StandsIn unit.body) run → (callee : ℕ) (other : UnitDef) (instance : Instance) (o : Option Origin) →
        callee_of W i run.place ≡ Some callee → slice_get W.instances callee ≡ Some instance → instance.origin ≡ o →
        unit_of W instance ≡ Some other → slice_get units run.unit ≡ Some other
    by_origin run listed callee other instance None begun there began of = absurd (no_origin run callee instance begun there began)
    by_origin run listed callee other instance (Some origin) begun there began of =
        of_origin run listed callee other instance origin begun there began of

    by_instance : (run : Run) → RunAs (StandsIn unit.body) run → (callee : ℕ) (other : UnitDef) (found : Option Instance) →
        callee_of W i run.place ≡ Some callee → slice_get W.instances callee ≡ found → option_and_then (unit_of W) found ≡ Some other →
        slice_get units run.unit ≡ Some other
    by_instance run listed callee other None begun there of = absurd cc
    by_instance run listed callee other (Some instance) begun there of =
        by_origin run listed callee other instance instance.origin begun there refl of

    begin_named : (run : Run) → RunAs (StandsIn unit.body) run → BeginsNamed i run
    begin_named run listed callee other begun of = by_instance run listed callee other (slice_get W.instances callee) begun refl of

    all_named : (runs : List Run) → AllOf (RunAs (StandsIn unit.body)) runs → AllOf (BeginsNamed i) runs
    all_named [] all = tt
    all_named (run ∷ rest) all = (begin_named run all.0, all_named rest all.1)

    pub body_named : AllOf (BeginsNamed i) (joined (map runs_in unit.body))
    body_named = all_named (joined (map runs_in unit.body)) (runs_listed unit)
