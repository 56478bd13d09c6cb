-- A part of a variable is written in C's memory: the variables hold what the program leaves.
use Rattle.std.proofs.Common.{◌≡◌, ℕ, Bool, true, false, not, ◌&&◌, ◌||◌, List, [], ◌∷◌, ◌++◌, Some, refl, sym}
use Rattle.std.proofs.Common.{ap, ◌∙◌, subst}
use Rattle.std.proofs.lemmas.Bool.{eq-eqb, eqb-true}
use Rattle.std.proofs.lemmas.Cmp.{nat_list_eq_equiv}
use Rattle.std.proofs.lemmas.List.{append-nil, append_assoc}
use Rattle.std.proofs.lemmas.Option.{same_Some}
use Rattle.std.specs.Prelude.{bytes_eq, nat_eq, option_map, slice_get, slice_set, ◌==◌, if◌then◌else◌}
use Rattle.bl_tree.specs.declared.tree.Ty.{Ty}
use Rattle.bl_tree.specs.declared.tree.Var.{Var}
use Rattle.bl_tree.specs.declared.value.Value.{Value}
use Rattle.bl_tree.specs.Program.{is_input, structs_stand_from}
use Rattle.bl_tree.specs.Typing.{TypingContext, is_activity, var_at}
use Rattle.bl_eval.specs.Values.{put_at, with_value_at}
use Rattle.bl_eval.proofs.OperatorFits.{some_found}
use Rattle.bl_eval.proofs.PartFits.{Fits}
use Rattle.bl_ctext_semantics.specs.Memory.{CValue, Location, Memory, Projection, Root, input_object, left_after, number_or, output_object, same_root, set_at}
use Rattle.bl_ctext_semantics.specs.Memory.{state_object, value_at, variable, with_part}
use Rattle.bl_ctext_semantics.specs.Memory as memory
use Rattle.bl_ctext_semantics.specs.Meaning.{Scope}
use Rattle.bl_emit_acts_laws_simulation.specs.Encodes.{Encodes, VariablesApart, VariablesEncoded, are_apart, home_at, lead_in, location_in, start_in}
use Rattle.bl_emit_acts_laws_simulation.specs.Encodes.{type_after, way_to, ways_part}
use Rattle.bl_emit_acts_laws_simulation.proofs.Forks.{forked, parts_fit}
use Rattle.bl_emit_acts_laws_simulation.proofs.Parts.{holds_same}
use Rattle.bl_emit_acts_laws_simulation.proofs.Written.{left_apart, left_behind, map_found, part_written, set_other, set_same}

pub same_root_itself : (root : Root) → same_root root root ≡ true
same_root_itself state_object = refl
same_root_itself input_object = refl
same_root_itself output_object = refl
same_root_itself (variable d name) = ap (λ b. b && bytes_eq name name) (same_number d) ∙ nat_list_eq_equiv.refl name
  where
    same_number : (d : ℕ) → (d == d) ≡ true
    same_number d = eq-eqb d d refl

module _ (here : Memory) (place : Location) (new : CValue) where
  abbrev after : Memory
  after = set_at here place new

  -- what stands at a way from the root of the place that was set
  pub same_object : (parts : List Projection) → after place.root parts ≡ number_or (left_after place.parts parts) new (here place.root parts)
  same_object parts = ap (λ b. (if b then with_part (here place.root) place.parts new else here place.root) parts) (same_root_itself place.root)

  other_by : (root : Root) (parts way : List Projection) (same : Bool) → same_root place.root root ≡ same → (not same || ways_part place.parts parts)
      ≡ true →
      (if same then with_part (here root) place.parts new else here root) (parts ++ way) ≡ here root (parts ++ way)
  other_by root parts way false is apart = refl
  other_by root parts way true is apart =
      ap (λ left. number_or left new (here root (parts ++ way)))
      (ap (λ front. left_after front (parts ++ way)) (sym (append-nil place.parts)) ∙ left_apart place.parts parts [] way apart)

  -- what has nothing in common with the place is as it was
  pub apart_same : (other : Location) → are_apart place other ≡ true → (way : List Projection) → value_at after other way ≡ value_at here other way
  apart_same other apart way = other_by other.root other.parts way (same_root place.root other.root) refl apart

module _ (site : TypingContext) (stand : structs_stand_from 0 site.structs ≡ true) (scope : Scope) (here : Memory) (root : ℕ) (var : Var)
    (there : var_at site root ≡ Some var) (writable : is_input var.role ≡ false) (ks : List ℕ) (ty : Ty)
    (typed : type_after site.structs ks (Some var.ty) ≡ Some ty) (new : Value)
    (held : CValue)
    (holds : Encodes site.structs ty new held) (now made : List Value) (variables : VariablesEncoded site now scope here) (apart : VariablesApart site scope)
    (fits : (value : Value) → slice_get now root ≡ Some value → Fits site.structs var.ty value) (put : put_at root ks new now ≡ Some made) where
  abbrev start : Location
  start = start_in scope (is_activity site.kind) (home_at site root) site.vars root

  abbrev lead : List Projection
  lead = lead_in (home_at site root) site.vars root

  abbrev way : List Projection
  way = way_to site.structs ks (Some var.ty)

  abbrev place : Location
  place = location_in scope site root way

  abbrev base : List Projection
  base = start.parts ++ (lead ++ [])

  abbrev written : Memory
  written = set_at here place held

  -- the parts of a place in the variable
  from_base : (way : List Projection) → start.parts ++ (lead ++ way) ≡ base ++ way
  from_base way = ap (λ rest. start.parts ++ rest) (ap (λ front. front ++ way) (sym (append-nil lead))) ∙ sym (append_assoc start.parts (lead ++ []) way)

  -- ---- the variable that was written

  at_root : (value whole : Value) → slice_get now root ≡ Some value → with_value_at ks new value ≡ Some whole →
      Encodes site.structs var.ty whole (value_at written (location_in scope site root []))
  at_root value whole at made' = record {
    each = λ js n is.
        let to = way_to site.structs js (Some var.ty) in
        same_object here place held (base ++ to)
        ∙ (ap (λ front. number_or (left_after front (base ++ to)) held (here start.root (base ++ to))) (from_base way)
        ∙ (ap (λ left. number_or left held (here start.root (base ++ to))) (left_behind base way to)
        ∙ part_written site.structs (forked site.structs stand) (parts_fit site.structs stand) ks var.ty ty value whole new held
        (λ rest. here start.root (base ++ rest)) (fits value at) typed holds (variables.each root var value there at) made' js n is));
  }

  -- ---- the others

  at_other : (k : ℕ) (other : Var) (value : Value) → nat_eq root k ≡ false → var_at site k ≡ Some other → slice_get now k ≡ Some value →
      Encodes site.structs other.ty value (value_at written (location_in scope site k []))
  at_other k other value differ known at =
      holds_same site.structs other.ty value (value_at here (location_in scope site k [])) (value_at written (location_in scope site k []))
      (λ rest. sym (apart_same here place held (location_in scope site k []) (place_apart k other differ known) rest)) (variables.each k other value known at)
    where
      further_apart : (ps qs more : List Projection) → ways_part ps qs ≡ true → ways_part (ps ++ more) qs ≡ true
      further_apart [] qs more h = absurd (cc)
      further_apart (p ∷ ps) [] more h = absurd (cc)
      further_apart (p ∷ ps) (q ∷ qs) more h = by (memory.same_part p q) (further_apart ps qs more) h
        where
          by : (same : Bool) → (ways_part ps qs ≡ true → ways_part (ps ++ more) qs ≡ true) → (not same || ways_part ps qs) ≡ true →
              (not same || ways_part (ps ++ more) qs) ≡ true
          by true again h = again h
          by false again h = refl

      either : (same : Bool) (ps qs : List Projection) → (not same || ways_part ps qs) ≡ true → (not same || ways_part (ps ++ way) qs) ≡ true
      either true ps qs h = further_apart ps qs way h
      either false ps qs h = refl

      place_apart : (k : ℕ) (other : Var) → nat_eq root k ≡ false → var_at site k ≡ Some other → are_apart place (location_in scope site k [])
          ≡ true
      place_apart k other differ known =
          let goal = location_in scope site k [] in
          ap (λ parts. not (same_root start.root goal.root) || ways_part parts goal.parts) (from_base way)
          ∙ either (same_root start.root goal.root) base goal.parts (apart.each root k var other there known writable differ)

  -- ---- all of them

  after_put : (old : Value) (whole : Value) → slice_get now root ≡ Some old → with_value_at ks new old ≡ Some whole → slice_set now root whole
      ≡ made →
      (k : ℕ) (same : Bool) → nat_eq root k ≡ same → (other : Var) (value : Value) → var_at site k ≡ Some other → slice_get made k
      ≡ Some value →
      Encodes site.structs other.ty value (value_at written (location_in scope site k []))
  after_put old whole at made' set k true is other value known found =
      let k_is : root ≡ k = eqb-true root k is in
      let same : whole ≡ value = same_Some whole value
      (sym (set_same now root whole old at) ∙ (ap (λ now. slice_get now root) set ∙ (ap (slice_get made) k_is ∙ found))) in
      let one : var ≡ other = same_Some var other (sym there ∙ (ap (var_at site) k_is ∙ known)) in
      subst (λ k. Encodes site.structs other.ty value (value_at written (location_in scope site k []))) k_is
      (subst (λ value. Encodes site.structs other.ty value (value_at written (location_in scope site root []))) same
      (subst (λ (v : Var). Encodes site.structs v.ty whole (value_at written (location_in scope site root []))) one (at_root old whole at made')))
  after_put old whole at made' set k false is other value known found =
      at_other k other value is known
      (sym (set_other now k root whole (flipped root k is)) ∙ (ap (λ now. slice_get now k) set ∙ found))
    where
      flipped : (j k : ℕ) → nat_eq j k ≡ false → nat_eq k j ≡ false
      flipped j k h = by (nat_eq k j) refl
        where
          by : (same : Bool) → nat_eq k j ≡ same → same ≡ false
          by true is = absurd (no_such (sym (eq-eqb j k (sym (eqb-true k j is))) ∙ h))
            where
              no_such : true ≡ false → ⊥
              no_such h = cc
          by false is = refl

  -- each variable holds what it has after the put
  pub put_holds : VariablesEncoded site made scope written
  put_holds =
      let old = some_found (λ old. option_map (λ value. slice_set now root value) (with_value_at ks new old)) (slice_get now root) made put in
      let whole = map_found (λ value. slice_set now root value) (with_value_at ks new old.0) made old.2 in
      record { each = λ k other value known found. after_put old.0 whole.0 old.1 whole.1 whole.2 k (nat_eq root k) refl other value known found }
