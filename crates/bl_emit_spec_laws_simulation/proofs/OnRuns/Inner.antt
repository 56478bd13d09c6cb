-- What lies inside an instance: its counters hold 0 once it was cleared, and those of all others are as they were.
use Rattle.std.proofs.Common.{◌≡◌, ℕ, zero, suc, ◌<◌, Bool, true, false}
use Rattle.std.proofs.Common.{◌||◌, List, [], ◌∷◌, Option, Some, None}
use Rattle.std.proofs.Common.{get_or, nat_eq, unwrap_or, refl, sym, ap, subst, ◌∙◌, arith, eqb-true, eq-eqb, if◌then◌else◌}
use Rattle.std.proofs.lemmas.List.Quantifiers.{position-Some}
use Rattle.std.specs.Prelude.{option_and_then, option_map, slice_get}
use Rattle.std.proofs.lemmas.Bool.{or_right}
use Rattle.bl_tree.proofs.Basics.{and_first, get_within}
use Rattle.bl_tree.specs.declared.place.Place.{Place}
use Rattle.bl_tree.specs.declared.tree.StructDef.{StructDef}
use Rattle.bl_tree.specs.declared.tree.Unit.{Unit as UnitDef}
use Rattle.bl_tree.specs.Rules.{same_place}
use Rattle.bl_ctree.specs.declared.instance.Instance.{Instance}
use Rattle.bl_ctree.specs.declared.instance.Origin.{Origin}
use Rattle.bl_ctree.specs.Instances.{Setting, begins_at, callee_of, setting_of}
use Rattle.bl_ctree.specs.Store.{depth_at}
use Rattle.bl_ctree_laws_confluence.specs.Deeds.Nesting.{Inside}
use Rattle.bl_ctree_laws_confluence.specs.Deeds.Nesting as nesting
use Rattle.bl_ctree_laws_confluence.specs.Deeds.Origins.{CalledBy, HasCaller, InstancesHaveCallers}
use Rattle.bl_machine_pass_laws_execution.specs.Frames.{Frames}
use Rattle.bl_emit_spec_laws.specs.Calls.Built.{cleared, is_under, origin_at}
use Rattle.bl_emit_spec_laws.specs.Cleared.{ClearingIsInside}

-- ---- places of instances

module _ (callers : InstancesHaveCallers) (clearing : ClearingIsInside) (structs : List StructDef) (units : List UnitDef) (entry : ℕ) where
  abbrev W : Setting
  W = setting_of structs units entry

  -- the instance k was begun by p
  record Begun (p k : ℕ) : Type 0 where
    origin : Origin
    is : origin_at W k ≡ Some origin
    caller : origin.caller ≡ p
    depth : depth_at W k ≡ suc (depth_at W p)

  begun : (p k : ℕ) (place : Place) → callee_of W p place ≡ Some k → Begun p k
  begun p k place begins =
      let d : Instance = record { unit = 0; depth = 0; origin = None } in
      let position = position-Some (λ (instance : Instance). begins_at p place instance.origin) W.instances k d begins in
      by_origin (get_or W.instances k d) (get_within W.instances k d position.0) (get_or W.instances k d).origin refl position.1
    where
      by_origin : (instance : Instance) → slice_get W.instances k ≡ Some instance → (o : Option Origin) → instance.origin ≡ o →
          begins_at p place o ≡ true → Begun p k
      by_origin instance there None of e = absurd (cc)
      by_origin instance there (Some origin) of e =
          let called : CalledBy units W.instances k instance origin =
          subst (HasCaller units entry W.instances k instance) of (callers units entry k instance there) in
          let by : origin.caller ≡ p = eqb-true origin.caller p (and_first (nat_eq origin.caller p) (same_place origin.place place) e) in
          let own : depth_at W k ≡ instance.depth = ap (λ o. unwrap_or (option_map (λ (instance : Instance). instance.depth) o) 0) there in
          let outer : depth_at W origin.caller ≡ called.caller.depth =
          ap (λ o. unwrap_or (option_map (λ (instance : Instance). instance.depth) o) 0) called.there in
          record {
            origin = origin;
            is = ap (option_and_then (λ (instance : Instance). instance.origin)) there ∙ of;
            caller = by;
            depth = own ∙ (called.deeper ∙ ap suc (sym outer ∙ ap (depth_at W) by));
          }

  under_own : (depth k : ℕ) → is_under W depth k k ≡ true
  under_own zero k = eq-eqb k k refl
  under_own (suc depth) k =
      ap (λ b. b || unwrap_or (option_map (λ (origin : Origin). is_under W depth k origin.caller) (origin_at W k)) false) (eq-eqb k k refl)

  -- what is inside an instance is below it
  under_told : (j k : ℕ) → Inside W j k → is_under W (depth_at W k) j k ≡ true
  under_told j k nesting.itself = under_own (depth_at W k) k
  under_told j k (nesting.deeper p place deep begins) =
      let b = begun p k place begins in
      let again : is_under W (depth_at W p) j p ≡ true = under_told j p deep in
      ap (λ depth. is_under W depth j k) b.depth
      ∙ or_right (nat_eq k j) (unwrap_or (option_map (λ (origin : Origin). is_under W (depth_at W p) j origin.caller) (origin_at W k)) false)
      (ap (λ o. unwrap_or (option_map (λ (origin : Origin). is_under W (depth_at W p) j origin.caller) o) false) b.is
      ∙ (ap (is_under W (depth_at W p) j) b.caller ∙ again))

  -- its counters hold 0 once it was cleared
  pub cleared_own : (j : ℕ) (frames : Frames) (k : ℕ) → Inside W j k → (c : ℕ) → cleared W j frames k c ≡ 0
  cleared_own j frames k inside c = ap (λ (b : Bool). if b then 0 else frames k c) (under_told j k inside)

  -- and those of all others are as they were
  pub cleared_other : (j : ℕ) (frames : Frames) (k : ℕ) → (Inside W j k → ⊥) → (c : ℕ) → cleared W j frames k c ≡ frames k c
  cleared_other j frames k outside c = clearing.inside structs units entry j frames k outside c
