-- Ways into C values beside paths of names: where paths part, so do their ways, and no path goes on behind a number.
use Rattle.std.proofs.Common.{◌≡◌, ℕ, zero, suc, ℤ, Bool, true, false, not, ◌+◌, ◌&&◌, ◌||◌}
use Rattle.std.proofs.Common.{List, [], ◌∷◌, ◌++◌, Option, Some, None}
use Rattle.std.proofs.Common.{refl, sym, ap, ap₂, ◌∙◌}
use Rattle.std.proofs.lemmas.Bool.{eq-eqb, eqb-true}
use Rattle.std.proofs.lemmas.List.{append-nil, append_assoc}
use Rattle.std.proofs.lemmas.Option.{same_Some}
use Rattle.std.specs.Prelude.{bytes_eq, nat_eq, option_and_then, option_map, slice_get, ◌==◌}
use Rattle.bl_tree.proofs.Basics.{and_first, and_second, get_mapped, number_itself, true_not_false}
use Rattle.bl_tree.specs.declared.tree.Field.{Field}
use Rattle.bl_tree.specs.declared.tree.StructDef.{StructDef}
use Rattle.bl_tree.specs.declared.tree.Ty.{Ty, out-Ty}
use Rattle.bl_tree.specs.declared.tree.Ty.TheOpen.{Ty-F}
use Rattle.bl_tree.specs.declared.value.Value.{Value, out-Value}
use Rattle.bl_tree.specs.declared.value.Value.TheOpen.{Value-F}
use Rattle.bl_tree.specs.Program.{field_names, structs_stand_from}
use Rattle.bl_tree.specs.Static.{is_front}
use Rattle.bl_eval.specs.Values.{number_in, part_of, parts_at, value_at}
use Rattle.bl_eval.specs.Values as values
use Rattle.bl_eval.proofs.OperatorFits.{some_found}
use Rattle.bl_eval.proofs.PartFits.{Fits}
use Rattle.bl_ctext_semantics.specs.Memory.{element, member}
use Rattle.bl_ctree_laws_typing.proofs.OnViews.Along.{along, along_leads, element_at}
use Rattle.bl_ctree_laws_typing.proofs.OnViews.Along as typed
use Rattle.bl_emit_acts.specs.Expressions.{field_of_struct, name_of_field}
use Rattle.bl_emit_acts.specs.Types.{elements_name, field_name}
use Rattle.bl_emit_acts_laws_simulation.specs.Encodes.{lead_level, lead_to, number_within, part_level, part_type, type_after, way_to, ways_part}
use Rattle.bl_machine_pass_laws_execution.proofs.OnFresh.Doing.{found as map_found}
use Rattle.bl_eval_laws.proofs.OnLocal.Locality.{value_within}
use Rattle.bl_ctree_laws_confluence.proofs.OnIndependent.Sides.{front_itself}
use Rattle.bl_emit_acts_laws_simulation.proofs.Forks.{differ_at, distinct_from}
use Rattle.bl_emit_spec_laws.proofs.OnRegisters.Cells.{behind_front, further_both}

-- ---- types behind positions

element_is : (k n : ℕ) (e c : Ty) → element_at k n e ≡ Some c → e ≡ c
element_is k zero e c h = absurd cc
element_is zero (suc n) e c h = same_Some e c h
element_is (suc k) (suc n) e c h = element_is k n e c h

module _ (structs : List StructDef) where
  part_same : (k : ℕ) (layer : Ty-F Ty) (c : Ty) → typed.part_type structs k layer ≡ Some c → part_level structs k layer ≡ Some c
  part_same k (Ty-F.Scalar s) c h = absurd cc
  part_same k (Ty-F.Struct s) c h = h
  part_same k (Ty-F.Array n e) c h = ap Some (element_is k n e c h)

  pub after_along : (ks : List ℕ) (a c : Ty) → along structs ks a ≡ Some c → type_after structs ks (Some a) ≡ Some c
  after_along [] a c h = h
  after_along (k ∷ ks) a c h =
      let found = some_found (along structs ks) (typed.part_type structs k (out-Ty a)) c h in
      ap (type_after structs ks) (part_same k (out-Ty a) found.0 found.1) ∙ after_along ks found.0 c found.2

  no_type : (ks : List ℕ) (b : Ty) → type_after structs ks None ≡ Some b → ⊥
  no_type [] b h = cc
  no_type (k ∷ ks) b h = cc

  type_there : (o : Option Ty) (ks : List ℕ) (b : Ty) → type_after structs ks o ≡ Some b → (c : Ty) × (o ≡ Some c)
  type_there None ks b h = absurd (no_type ks b h)
  type_there (Some c) ks b h = (c, refl)

  -- the way to a part of a part goes on from the way to the part
  pub way_further : (ks js : List ℕ) (a b : Ty) → type_after structs ks (Some a) ≡ Some b →
      way_to structs (ks ++ js) (Some a) ≡ way_to structs ks (Some a) ++ way_to structs js (Some b)
  way_further [] js a b is = ap (way_to structs js) is
  way_further (k ∷ ks) js a b is =
      let inner = type_there (part_type structs k a) ks b is in
      let again = way_further ks js inner.0 b (sym (ap (type_after structs ks) inner.1) ∙ is) in
      ap (λ o. lead_to structs k a ++ way_to structs (ks ++ js) o) inner.1
      ∙ (ap (λ way. lead_to structs k a ++ way) again
      ∙ (sym (append_assoc (lead_to structs k a) (way_to structs ks (Some inner.0)) (way_to structs js (Some b)))
      ∙ ap (λ o. (lead_to structs k a ++ way_to structs ks o) ++ way_to structs js (Some b)) (sym inner.1)))

-- ---- values behind positions

-- a number has no parts
number_alone : (k : ℕ) (value : Value) (n : ℤ) (layer : Value-F Value) → out-Value value ≡ layer → number_in value ≡ Some n →
    part_of k value ≡ None
number_alone k value n (Value-F.Number m) is number = ap (λ (layer : Value-F Value). option_and_then (λ all. slice_get all k) (parts_at layer)) is
number_alone k value n (Value-F.Parts all) is number =
    let none : number_in value ≡ None = ap (λ (layer : Value-F Value). values.number_at layer) is in
    absurd (let no : None ≡ Some n = sym none ∙ number in cc)

-- what follows a front
pub front_split : (ks js : List ℕ) → is_front ks js ≡ true → (rest : List ℕ) × (js ≡ ks ++ rest)
front_split [] js h = (js, refl)
front_split (k ∷ ks) [] h = absurd cc
front_split (k ∷ ks) (j ∷ js) h =
    let more = front_split ks js (and_second (nat_eq k j) (is_front ks js) h) in
    (more.0, ap₂ (λ j js. j ∷ js) (sym (eqb-true k j (and_first (nat_eq k j) (is_front ks js) h))) more.1)

-- where a number stands at a front of a path that leads to a type, it stands at the end
pub number_ends : (structs : List StructDef) → structs_stand_from 0 structs ≡ true → (ks js : List ℕ) (a c : Ty) (value : Value) (n : ℤ) →
    Fits structs a value → along structs js a ≡ Some c → number_within ks value ≡ Some n → is_front ks js ≡ true → is_front js ks ≡ true
number_ends structs stand ks js a c value n fit leads number front =
    let found = some_found number_in (value_at ks value) n number in
    let split = front_split ks js front in
    by found.0 found.1 found.2 split.0 split.1
  where
    by : (u : Value) → value_at ks value ≡ Some u → number_in u ≡ Some n → (rest : List ℕ) → js ≡ ks ++ rest → is_front js ks ≡ true
    by u at is [] whole = ap (λ js. is_front js ks) (whole ∙ append-nil ks) ∙ front_itself ks
    by u at is (k ∷ rest) whole =
        let there = along_leads structs stand js a c value fit leads in
        let none : value_at js value ≡ None =
        ap (λ js. value_at js value) whole
        ∙ (value_within ks (k ∷ rest) value
        ∙ (ap (option_and_then (value_at (k ∷ rest))) at
        ∙ ap (option_and_then (value_at rest)) (number_alone k u n (out-Value u) refl is))) in
        absurd (let no : None ≡ Some there.old = sym none ∙ there.at in cc)

-- ---- names of fields differ

-- ---- ways that part

module _ (structs : List StructDef) (stand : structs_stand_from 0 structs ≡ true) where
  elements_part : (j k : ℕ) → nat_eq j k ≡ false →
      ways_part (member elements_name ∷ element k ∷ []) (member elements_name ∷ element j ∷ []) ≡ true
  elements_part j k other = by (k == j) refl
    where
      by : (same : Bool) → (k == j) ≡ same → (not same || false) ≡ true
      by true h = absurd (true_not_false (sym (eq-eqb j k (sym (eqb-true k j h))) ∙ other))
      by false h = refl

  fields_part : (s : ℕ) (def : StructDef) (a b : Field) (j k : ℕ) → slice_get structs s ≡ Some def → slice_get def.fields j ≡ Some a →
      slice_get def.fields k ≡ Some b → nat_eq j k ≡ false →
      ways_part (lead_level structs k (Ty-F.Struct s)) (lead_level structs j (Ty-F.Struct s)) ≡ true
  fields_part s def a b j k there first second other =
      let names : bytes_eq b.name a.name ≡ false =
      differ_at (field_names def) j k a.name b.name (distinct_from structs 0 s def stand there)
      (get_mapped (λ (field : Field). field.name) def.fields j a first) (get_mapped (λ (field : Field). field.name) def.fields k b second) other in
      let at : (k : ℕ) → field_of_struct structs k (Ty-F.Struct s) ≡ slice_get def.fields k =
      λ k. ap (option_and_then (λ (def : StructDef). slice_get def.fields k)) there in
      ap (λ o. ways_part (member (field_name (name_of_field o)) ∷ []) (lead_level structs j (Ty-F.Struct s))) (at k ∙ second)
      ∙ (ap (λ o. ways_part (member (field_name b.name) ∷ []) (member (field_name (name_of_field o)) ∷ [])) (at j ∙ first)
      ∙ ap (λ same. not same || false) names)

  fork_by : (c d : Ty) (j k : ℕ) (layer : Ty-F Ty) → part_level structs k layer ≡ Some c → part_level structs j layer ≡ Some d →
      nat_eq j k ≡ false → ways_part (lead_level structs k layer) (lead_level structs j layer) ≡ true
  fork_by c d j k (Ty-F.Scalar s) one two other = absurd (cc)
  fork_by c d j k (Ty-F.Array n inner) one two other = elements_part j k other
  fork_by c d j k (Ty-F.Struct s) one two other =
      let def = some_found (λ (def : StructDef). option_map (λ (field : Field). field.ty) (slice_get def.fields k)) (slice_get structs s) c one in
      let field = map_found (λ (field : Field). field.ty) (slice_get def.0.fields k) c def.2 in
      let again : option_map (λ (field : Field). field.ty) (slice_get def.0.fields j) ≡ Some d =
      sym (ap (option_and_then (λ (def : StructDef). option_map (λ (field : Field). field.ty) (slice_get def.fields j))) def.1) ∙ two in
      let own = map_found (λ (field : Field). field.ty) (slice_get def.0.fields j) d again in
      fields_part s def.0 own.0 field.0 j k def.1 own.1 field.1 other

  heads_part : (k j : ℕ) (ks js : List ℕ) (a d e : Ty) → part_type structs k a ≡ Some d → part_type structs j a ≡ Some e →
      (j ≡ k → ways_part (way_to structs ks (Some d)) (way_to structs js (Some d)) ≡ true) →
      ways_part (way_to structs (k ∷ ks) (Some a)) (way_to structs (j ∷ js) (Some a)) ≡ true
  heads_part k j ks js a d e one two again = by (nat_eq j k) refl
    where
      by : (same : Bool) → nat_eq j k ≡ same → ways_part (way_to structs (k ∷ ks) (Some a)) (way_to structs (j ∷ js) (Some a)) ≡ true
      by true is =
          let same : j ≡ k = eqb-true j k is in
          ap₂ (λ o p. ways_part (lead_to structs k a ++ way_to structs ks o) (lead_to structs j a ++ way_to structs js p)) one
          (ap (λ j. part_type structs j a) same ∙ one)
          ∙ (ap (λ j. ways_part (lead_to structs k a ++ way_to structs ks (Some d)) (lead_to structs j a ++ way_to structs js (Some d))) same
          ∙ (behind_front (lead_to structs k a) (way_to structs ks (Some d)) (way_to structs js (Some d)) ∙ again same))
      by false is =
          further_both (lead_to structs k a) (lead_to structs j a) (way_to structs ks (part_type structs k a))
          (way_to structs js (part_type structs j a)) (fork_by d e j k (out-Ty a) one two is)

  -- two ways of which neither is that of a front of the other part
  pub fronts_part : (ks js : List ℕ) (a b c : Ty) → type_after structs ks (Some a) ≡ Some b → type_after structs js (Some a) ≡ Some c →
      is_front ks js ≡ false → is_front js ks ≡ false → ways_part (way_to structs ks (Some a)) (way_to structs js (Some a)) ≡ true
  fronts_part [] js a b c one two h i = absurd (cc)
  fronts_part (k ∷ ks) [] a b c one two h i = absurd (cc)
  fronts_part (k ∷ ks) (j ∷ js) a b c one two h i =
      let inner = type_there structs (part_type structs k a) ks b one in
      let other = type_there structs (part_type structs j a) js c two in
      heads_part k j ks js a inner.0 other.0 inner.1 other.1
      (λ is.
      let left : is_front ks js ≡ false = sym (ap (λ b. b && is_front ks js) (ap (nat_eq k) is ∙ number_itself k)) ∙ h in
      let right : is_front js ks ≡ false = sym (ap (λ b. b && is_front js ks) (ap (λ j. nat_eq j k) is ∙ number_itself k)) ∙ i in
      fronts_part ks js inner.0 b c (sym (ap (type_after structs ks) inner.1) ∙ one)
      (sym (ap (type_after structs js) (ap (λ j. part_type structs j a) is ∙ inner.1)) ∙ two) left right)
