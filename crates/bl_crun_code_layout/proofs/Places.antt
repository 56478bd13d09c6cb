-- Where a place is reached by its steps.
use Rattle.std.proofs.Common.{◌≡◌, ◌≤◌, ◌<◌, ℕ, ◌+◌, get_or, List, [], ◌∷◌, ◌++◌, map, length, drop, Option, Some, None, refl, ap, sym, ◌∙◌, subst}
use Rattle.std.specs.Prelude.{option_map, slice_get, if◌then◌else◌}
use Rattle.std.proofs.lemmas.List.{drop_all}
use Rattle.std.proofs.lemmas.Option.{slice_get_read}
use Rattle.bl_tree.proofs.Basics.{drop_next}
use Rattle.bl_tree.specs.declared.text.Text.{Text}
use Rattle.bl_tree.specs.declared.c.CType.{CType}
use Rattle.bl_tree.specs.declared.c.CIndex.{CIndex, fold-roll-CIndex, out-CIndex, roll-out-CIndex}
use Rattle.bl_tree.specs.declared.c.CStep.{CStep, fold-roll-CStep, out-CStep, roll-CStep, roll-out-CStep}
use Rattle.bl_tree.specs.declared.c.CPlace.{CPlace, fold-roll-CPlace, out-CPlace, roll-CPlace, roll-out-CPlace}
use Rattle.bl_ctext_semantics_laws.specs.Layout.{MemberOffset, capped}
use Rattle.bl_ctext_semantics_laws.specs.Reaching.{Ground, Index, Reach, laid_in, near, onward, reach_along, reach_member, start_of_slot, through}
use Rattle.bl_crun_code.specs.Code.{FunctionEntry, Valued, expr_valued, reach_of_place, start_operand}
use Rattle.bl_crun_code.proofs.Folds.{index_code, step_code}
use Rattle.bl_crun_code_layout.specs.declared.place.Walk.{Walk}
use Rattle.bl_crun_code_layout.specs.declared.place.Way.{Way}
use Rattle.bl_crun_code_layout.specs.Places.{IsWalkTo, cells_before, followed_by, one_step_on, term_if, term_of, type_of_found, reach_so_far}

module _ (here : Ground FunctionEntry) where
  abbrev shown : CIndex → Index Valued
  shown i = record { length = (out-CIndex i).length; index = expr_valued (out-CIndex i).at here }

  index-is : (i : CIndex) → index_code i here ≡ shown i
  index-is i = subst (λ x. index_code x here ≡ shown i) (roll-out-CIndex i) (rw fold-roll-CIndex refl)

  step-of : (member : Text) (index : Option CIndex) (ty : Option CType) →
      step_code (roll-CStep (record { member = member; index = index })) here ty
      ≡ reach_member here (laid_in here ty member) (option_map (λ i. index_code i here) index)
  step-of member None ty = rw fold-roll-CStep refl
  step-of member (Some i) ty = rw fold-roll-CStep refl

  step-is : (s : CStep) (ty : Option CType) →
      step_code s here ty ≡ reach_member here (laid_in here ty (out-CStep s).member) (option_map (λ i. index_code i here) (out-CStep s).index)
  step-is s ty =
      subst (λ x. step_code x here ty ≡ reach_member here (laid_in here ty (out-CStep s).member) (option_map (λ i. index_code i here) (out-CStep s).index))
      (roll-out-CStep s) (step-of (out-CStep s).member (out-CStep s).index ty)

  onward-is : (r : Reach Valued) (found : Option MemberOffset) (index : Option CIndex) →
      onward r (reach_member here found (option_map (λ i. index_code i here) index))
      ≡ record { start = r.start; passed = capped (r.passed + cells_before found); terms = r.terms ++ term_if here found index; ty = type_of_found found }
  onward-is r None index = refl
  onward-is r (Some l) None = refl
  onward-is r (Some l) (Some i) =
      ap (λ (x : Index Valued). onward r (reach_member here (Some l) (Some x))) (index-is i)

  -- what a place comes to by its steps
  walked : (steps : List CStep) (r : Reach Valued) → reach_along (map step_code steps) here r ≡ followed_by here r steps
  walked [] r = refl
  walked (s ∷ steps) r =
      ap (λ x. reach_along (map step_code steps) here (onward r x)) (step-is s r.ty)
      ∙ ap (reach_along (map step_code steps) here) (onward-is r (laid_in here r.ty (out-CStep s).member) (out-CStep s).index)
      ∙ walked steps (one_step_on here r s)

  -- a place that begins so
  pub reach-is : (p : CPlace) → followed_by here (start_of_slot (here.slots (out-CPlace p).name)) (out-CPlace p).steps ≡ reach_of_place p here
  reach-is p =
      let level : reach_of_place (roll-CPlace (out-CPlace p)) here
      ≡ reach_along (map step_code (out-CPlace p).steps) here (start_of_slot (here.slots (out-CPlace p).name)) = rw fold-roll-CPlace refl in
      sym (ap (λ x. reach_of_place x here) (sym (roll-out-CPlace p)) ∙ level ∙ walked (out-CPlace p).steps (start_of_slot (here.slots (out-CPlace p).name)))

  -- behind the last step stands the whole place
  pub walk-is : (p : CPlace) (k : ℕ) (way : Way) (walk : Walk) → length (out-CPlace p).steps ≤ k →
      followed_by here (reach_so_far here (out-CPlace p).steps way) (drop k (out-CPlace p).steps) ≡ reach_of_place p here →
      walk.start ≡ start_operand (if way.pointer then through way.at else near way.at) way.passed →
      map (term_of here (out-CPlace p).steps) walk.terms.items ≡ map (term_of here (out-CPlace p).steps) way.terms.items →
      option_map (λ t. t.now) walk.ty ≡ option_map (λ t. t.now) way.ty → IsWalkTo here p walk
  walk-is p k way walk past h start terms ty =
      let way-is : Reach Valued = reach_so_far here (out-CPlace p).steps way in
      let whole : way-is ≡ reach_of_place p here = subst (λ l. followed_by here way-is l ≡ reach_of_place p here)
      (drop_all k (out-CPlace p).steps past) h in
      record {
        start = start ∙ ap (λ (r : Reach Valued). start_operand r.start r.passed) whole;
        terms = terms ∙ ap (λ (r : Reach Valued). r.terms) whole;
        ty = ty ∙ ap (λ (r : Reach Valued). r.ty) whole;
      }

  -- one step more
  pub step-next : (steps : List CStep) (k : ℕ) (s : CStep) (r more end : Reach Valued) → k < length steps → s ≡ get_or steps k s →
      (slice_get steps k ≡ Some s → more ≡ one_step_on here r s) → followed_by here r (drop k steps) ≡ end →
      followed_by here more (drop (k + 1) steps) ≡ end
  step-next steps k s r more end within is told h =
      ap (λ x. followed_by here x (drop (k + 1) steps)) (told (slice_get_read steps (length steps) k s refl within is))
      ∙ ap (followed_by here r) (sym (drop_next steps k s within is)) ∙ h
