-- What is cleared as an instance begins lies inside it.
use Rattle.std.proofs.Common.{◌≡◌, ℕ, zero, suc, ◌+◌, ◌<◌, Bool, true, false, ◌||◌, ◌&&◌, List, [], ◌∷◌, length}
use Rattle.std.proofs.Common.{Option, Some, None, get_or, refl, sym, ap, ◌∙◌, subst, arith, eqb-true, eq-eqb}
use Rattle.std.proofs.lemmas.List.Quantifiers.{position-Some}
use Rattle.std.specs.List.{list_any}
use Rattle.std.specs.Prelude.{if◌then◌else◌, nat_eq, option_and_then, option_map, slice_get, unwrap_or}
use Rattle.std.proofs.lemmas.Bool.{or_right}
use Rattle.bl_tree.specs.declared.tree.StructDef.{StructDef}
use Rattle.bl_tree.specs.declared.tree.Unit.{Unit as UnitDef}
use Rattle.bl_tree.specs.Rules.{same_place}
use Rattle.bl_effects.proofs.EntryLemmas.{same_place_refl}
use Rattle.bl_ctree.specs.declared.instance.Instance.{Instance}
use Rattle.bl_ctree.specs.declared.instance.Origin.{Origin}
use Rattle.bl_ctree.specs.Instances.{Setting, begins_at, callee_of, setting_of}
use Rattle.bl_ctree.specs.Store.{depth_at}
use Rattle.bl_ctree_laws_confluence.specs.Deeds.Nesting.{Inside, deeper, itself}
use Rattle.bl_ctree_laws_traces.proofs.OnProgress.Instances.{first_at}
use Rattle.bl_machine_pass_laws_execution.specs.Frames.{Frames}
use Rattle.bl_emit_spec_laws.specs.Calls.Built.{cleared, is_under, origin_at}
use Rattle.bl_emit_spec_laws.specs.Cleared.{ClearingIsInside}
use Rattle.bl_emit_spec_laws.proofs.OnCleared.Finding.{expanded_told}

any_at : (p : Instance → Bool) (xs : List Instance) (k : ℕ) (x : Instance) → slice_get xs k ≡ Some x → p x ≡ true →
    list_any p xs ≡ true
any_at p [] k x there e = absurd cc
any_at p (y ∷ xs) zero x there e =
    let same : y ≡ x = cc in ap (λ b. b || list_any p xs) (ap p same ∙ e)
any_at p (y ∷ xs) (suc k) x there e = or_right (p y) (list_any p xs) (any_at p xs k x there e)

pub got_or : (xs : List Instance) (k : ℕ) (d : Instance) → k < length xs → slice_get xs k ≡ Some (get_or xs k d)
got_or [] k d within = absurd (omega arith)
got_or (x ∷ xs) zero d within = refl
got_or (x ∷ xs) (suc k) d within = got_or xs k d (omega arith)

begun_itself : (o : Origin) → begins_at o.caller o.place (Some o) ≡ true
begun_itself o = ap (λ b. b && same_place o.place o.place) (eq-eqb o.caller o.caller refl) ∙ same_place_refl o.place

-- whether the instance is begun as this says
abbrev is_begun : Origin → Instance → Bool
is_begun origin instance = begins_at origin.caller origin.place instance.origin

abbrev nothing : Instance
nothing = record { unit = 0; depth = 0; origin = None }

module _ (structs : List StructDef) (units : List UnitDef) (entry : ℕ) where
  abbrev W : Setting
  W = setting_of structs units entry

  -- the caller finds the instance that its `run` began
  pub found : (k : ℕ) (origin : Origin) → origin_at W k ≡ Some origin → callee_of W origin.caller origin.place ≡ Some k
  found k origin e = by_instance (slice_get W.instances k) refl e
    where
      by_instance : (instance : Option Instance) → slice_get W.instances k ≡ instance →
          option_and_then (λ instance. instance.origin) instance ≡ Some origin → callee_of W origin.caller origin.place ≡ Some k
      by_instance None there e = absurd cc
      by_instance (Some instance) there e =
          let begun : is_begun origin instance ≡ true = ap (begins_at origin.caller origin.place) e ∙ begun_itself origin in
          let first = first_at (is_begun origin) W.instances (any_at (is_begun origin) W.instances k instance there begun) in
          let passes = position-Some (is_begun origin) W.instances first.at nothing first.is in
          let same : first.at ≡ k =
          (expanded_told units (entry + 1) entry).one first.at k (get_or W.instances first.at nothing) instance origin.caller origin.place
          (got_or W.instances first.at nothing passes.0) there passes.1 begun in
          first.is ∙ ap (λ k. Some k) same

  -- what is below an instance is inside it
  under_inside : (depth i k : ℕ) → is_under W depth i k ≡ true → Inside W i k
  under_inside zero i k e = subst (λ k. Inside W i k) (sym (eqb-true k i e)) itself
  under_inside (suc depth) i k e =
      by_test (λ k e. under_inside depth i k e) (nat_eq k i) refl (origin_at W k) refl e
    where
      by_test : ((k : ℕ) → is_under W depth i k ≡ true → Inside W i k) → (b : Bool) → nat_eq k i ≡ b → (o : Option Origin) →
          origin_at W k ≡ o →
          (b || unwrap_or (option_map (λ origin. is_under W depth i origin.caller) o) false) ≡ true → Inside W i k
      by_test more true is o at e = subst (λ k. Inside W i k) (sym (eqb-true k i is)) itself
      by_test more false is None at e = absurd cc
      by_test more false is (Some origin) at e = deeper origin.caller origin.place (more origin.caller e) (found k origin at)

  pub inside : (i : ℕ) (frames : Frames) (k : ℕ) → (Inside W i k → ⊥) → (c : ℕ) → cleared W i frames k c ≡ frames k c
  inside i frames k outside c = by_test (is_under W (depth_at W k) i k) refl
    where
      by_test : (b : Bool) → is_under W (depth_at W k) i k ≡ b → (if b then 0 else frames k c) ≡ frames k c
      by_test true e = absurd (outside (under_inside (depth_at W k) i k e))
      by_test false e = refl

pub clearing_is_inside : ClearingIsInside
clearing_is_inside = record {
  found = λ structs units entry k origin e. found structs units entry k origin e;
  inside = λ structs units entry i frames k outside c. inside structs units entry i frames k outside c;
}
