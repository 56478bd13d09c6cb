-- The code of places that were found.
use Rattle.std.proofs.Common.{◌≡◌, ℕ, Bool, true, false, [], ◌∷◌, ◌++◌, map, Option, Some, None, refl, ap, sym}
use Rattle.std.proofs.Common.{◌∙◌, append_assoc}
use Rattle.std.specs.Prelude.{option_map}
use Rattle.bl_tree.specs.declared.c.CPlace.{CPlace, out-CPlace}
use Rattle.bl_tree.specs.declared.c.CType.{CType}
use Rattle.bl_tree.specs.declared.c.CType.TheVariants.{Scalar as OfScalar, Struct as OfStruct}
use Rattle.bl_ctext_semantics_laws.specs.Reaching.{Ground, Reach}
use Rattle.bl_crun_code.specs.declared.instruction.Operand.{Operand}
use Rattle.bl_crun_code.specs.declared.instruction.Act.TheVariants as act
use Rattle.bl_crun_code.specs.Code.{Code, FunctionEntry, Ready, Valued, address_valued, along_ready, depth_behind, reach_of_place, reach_ready, read_valued, start_operand, start_ready, uncounted}
use Rattle.bl_crun_code_layout.specs.declared.place.IndexTerm.{IndexTerm}
use Rattle.bl_crun_code_layout.specs.declared.place.Walk.{Walk}
use Rattle.bl_crun_code_layout.specs.Places.{IsWalkTo, term_of}
use Rattle.bl_crun_code_expressions.specs.Parts.{element_code, is_fetched, seen, taken, taken_code, term_with, walk_ready}

-- ---- what is seen at a place

-- a walk to a place makes it ready
pub walk-is-ready : (here : Ground FunctionEntry) (at : CPlace) (walk : Walk) (late : Bool) (depth : ℕ) → IsWalkTo here at walk →
    walk_ready here at walk late depth ≡ reach_ready (reach_of_place at here) late depth
walk-is-ready here at walk late depth is =
    let reach : Reach Valued = reach_of_place at here in
    ap (λ o. along_ready late depth (start_ready late depth o) (map (term_of here (out-CPlace at).steps) walk.terms.items)) is.start
    ∙ ap (λ ts. along_ready late depth (start_ready late depth (start_operand reach.start reach.passed)) ts) is.terms

-- what is seen at a place of a type
abbrev seen_of : Bool → Option CType → Reach Valued → Valued
seen_of true ty reach = address_valued reach
seen_of false ty reach = read_valued ty reach

seen-is : (address : Bool) (reach : Reach Valued) → seen_of address reach.ty reach ≡ seen address reach
seen-is true reach = refl
seen-is false reach = refl

written-of : (address : Bool) (ty : Option CType) (reach : Reach Valued) (late : Bool) (depth : ℕ) (into : Operand) →
    taken_code (is_fetched address ty) into (reach_ready reach late depth) ≡ (seen_of address ty reach).into late depth into
written-of true (Some (OfScalar s)) reach late depth into = refl
written-of true (Some (OfStruct n)) reach late depth into = refl
written-of true None reach late depth into = refl
written-of false (Some (OfScalar s)) reach late depth into = refl
written-of false (Some (OfStruct n)) reach late depth into = refl
written-of false None reach late depth into = refl

module _ (here : Ground FunctionEntry) (at : CPlace) (walk : Walk) (is : IsWalkTo here at walk) (address : Bool) where
  abbrev fetched : Bool
  fetched = is_fetched address (option_map (λ t. t.now) walk.ty)

  abbrev reach : Reach Valued
  reach = reach_of_place at here

  fetched-so : fetched ≡ is_fetched address reach.ty
  fetched-so = ap (is_fetched address) is.ty

  pub seen-written-is : (late : Bool) (depth : ℕ) (into : Operand) →
      taken_code fetched into (walk_ready here at walk late depth) ≡ (seen address reach).into late depth into
  seen-written-is late depth into =
      ap (taken_code fetched into) (walk-is-ready here at walk late depth is) ∙ ap (λ f. taken_code f into (reach_ready reach late depth)) fetched-so
      ∙ written-of address reach.ty reach late depth into ∙ ap (λ (v : Valued). v.into late depth into) (seen-is address reach)

  -- what is seen is written
  pub seen-done : (late : Bool) (depth : ℕ) (into : Operand) (old put new : Code) →
      put ≡ uncounted (act.Move into (taken fetched (walk_ready here at walk late depth).it)) ∷ old → new ≡ (walk_ready here at walk late depth).code ++ put →
      new ≡ (seen address reach).into late depth into ++ old
  seen-done late depth into old put new put-is new-is =
      let place : Ready = walk_ready here at walk late depth in
      new-is ∙ ap (λ c. place.code ++ c) put-is
      ∙ sym (append_assoc place.code (uncounted (act.Move into (taken fetched place.it)) ∷ []) old)
      ∙ ap (λ c. c ++ old) (seen-written-is late depth into)

-- ---- an index

-- an index whose element is taken
pub element-done : (value : Valued) (term : IndexTerm) (late behind-late : Bool) (depth behind : ℕ) (base : Operand) (old put new : Code) →
    behind-late ≡ late → behind ≡ depth_behind depth base →
    put ≡ uncounted (act.Element depth base (value.ready behind-late behind).it term.length term.size) ∷ old →
    new ≡ (value.ready behind-late behind).code ++ put → new ≡ element_code late depth base (term_with term value) ++ old
element-done value term late behind-late depth behind base old put new same behind-is put-is new-is =
    let with_index : Ready → Code = λ r. r.code ++ uncounted (act.Element depth base r.it term.length term.size) ∷ [] in
    new-is ∙ ap (λ c. (value.ready behind-late behind).code ++ c) put-is
    ∙ sym (append_assoc (value.ready behind-late behind).code
    (uncounted (act.Element depth base (value.ready behind-late behind).it term.length term.size) ∷ []) old)
    ∙ ap (λ l. with_index (value.ready l behind) ++ old) same
    ∙ ap (λ d. with_index (value.ready late d) ++ old) behind-is
