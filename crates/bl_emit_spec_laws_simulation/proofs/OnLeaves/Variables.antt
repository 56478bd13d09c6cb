-- A variable of the caller holds in memory what the call of a `run` left of it: where an output leads what the callee left, and elsewhere what it had.
use Rattle.std.proofs.Common.{◌≡◌, ◌⊎◌, inl, inr, ℕ, zero, suc, ℤ, Bool, true, false}
use Rattle.std.proofs.Common.{◌&&◌, ◌||◌, List, [], ◌∷◌, ◌++◌, Some, None}
use Rattle.std.proofs.Common.{refl, sym, ap, ap₂, ◌∙◌}
use Rattle.std.proofs.lemmas.Bool.{eq-eqb, eqb-true}
use Rattle.std.proofs.lemmas.List.{append-nil, append_assoc}
use Rattle.std.proofs.lemmas.Option.{same_Some}
use Rattle.std.specs.List.{list_any}
use Rattle.std.specs.Prelude.{is_some, nat_eq, slice_get}
use Rattle.std.proofs.lemmas.Bool.{and_parts, or_from}
use Rattle.bl_tree.proofs.Basics.{and_false, true_not_false}
use Rattle.bl_tree.specs.declared.tree.Path.{Path}
use Rattle.bl_tree.specs.declared.tree.Ty.{Ty}
use Rattle.bl_tree.specs.declared.tree.Var.{Var}
use Rattle.bl_tree.specs.declared.value.Value.{Value}
use Rattle.bl_tree.specs.Program.{structs_stand_from}
use Rattle.bl_tree.specs.Static.{is_front, overlaps, static_of}
use Rattle.bl_tree.specs.Typing.{TypingContext, var_at}
use Rattle.bl_eval.specs.Values.{number_in, value_at as part_at}
use Rattle.bl_eval.proofs.OperatorFits.{some_found}
use Rattle.bl_eval.proofs.PartFits.{Fits}
use Rattle.bl_ctext_semantics.specs.Meaning.{Scope}
use Rattle.bl_ctext_semantics.specs.Memory.{Location, Memory, Projection, left_after, same_root, value_at}
use Rattle.bl_ctree_laws_typing.proofs.OnViews.Along.{along, along_there}
use Rattle.bl_emit_acts_laws_simulation.specs.Acts.{lies_in}
use Rattle.bl_emit_acts_laws_simulation.specs.Encodes.{Encodes, VariablesApart, location_in, number_within, type_after, way_to}
use Rattle.bl_emit_acts_laws_simulation.proofs.Cells.{lies_inside, location_along}
use Rattle.bl_emit_spec_laws_simulation.proofs.OnLeaves.Types.{OutputOf}
use Rattle.bl_emit_spec_laws_simulation.proofs.OnLeaves.Ways.{after_along, front_split, fronts_part, number_ends, way_further}
use Rattle.bl_emit_acts_laws_simulation.proofs.Written.{left_apart, left_behind}
use Rattle.bl_emit_acts_laws_simulation.proofs.Calls.{apart_lies}

-- what a call left at an output's place, beside a value of the caller's variable with number k
pub record OutputLeft (site : TypingContext) (scope : Scope) (after : Memory) (k : ℕ) (value : Value) (places : List Location) (o : ℕ) (path : Path) :
    Type 0 where
  pub ty : Ty
  pub out : OutputOf site path ty
  pub place : Location
  pub there : slice_get places o ≡ Some place
  pub is : place ≡ location_in scope site (static_of path).root (way_to site.structs (static_of path).fields (Some out.var.ty))
  pub left : Value
  pub holds : Encodes site.structs ty left (value_at after place)
  pub agrees : (rest : List ℕ) → (static_of path).root ≡ k → number_within ((static_of path).fields ++ rest) value ≡ number_within rest left

-- whether positions of the variable lie in what the path leads to
abbrev pub is_inside : ℕ → List ℕ → Path → Bool
is_inside k ks path = nat_eq (static_of path).root k && is_front (static_of path).fields ks

abbrev Inside : ℕ → List ℕ → List Path → Type 0
Inside k ks paths = (o : ℕ) × (path : Path) × (slice_get paths o ≡ Some path) × (is_inside k ks path ≡ true)

abbrev Outside : ℕ → List ℕ → List Path → Type 0
Outside k ks paths = (o : ℕ) (path : Path) → slice_get paths o ≡ Some path → is_inside k ks path ≡ false

some_path : (p path : Path) → Some p ≡ Some path → p ≡ path
some_path p path is = cc

-- the positions lie in what some path leads to, or in none of these
found : (k : ℕ) (ks : List ℕ) (paths : List Path) → Inside k ks paths ⊎ Outside k ks paths
found k ks [] = inr (λ o path at. absurd cc)
found k ks (p ∷ paths) = by (is_inside k ks p) refl (found k ks paths)
  where
    behind : Outside k ks paths → is_inside k ks p ≡ false → (o : ℕ) (path : Path) → slice_get (p ∷ paths) o ≡ Some path →
        is_inside k ks path ≡ false
    behind none own zero path at = ap (is_inside k ks) (sym (some_path p path at)) ∙ own
    behind none own (suc o) path at = none o path at

    by : (b : Bool) → is_inside k ks p ≡ b → Inside k ks paths ⊎ Outside k ks paths → Inside k ks (p ∷ paths) ⊎ Outside k ks (p ∷ paths)
    by true is rest = inl (zero, p, refl, is)
    by false is (inl one) = inl (suc one.0, one.1, one.2, one.3)
    by false is (inr none) = inr (behind none is)

module _ (site : TypingContext) (stand : structs_stand_from 0 site.structs ≡ true) (scope : Scope) (here after : Memory) (paths : List Path)
    (places : List Location) (apart : VariablesApart site scope) (k : ℕ) (var : Var) (there : var_at site k ≡ Some var) (value old : Value)
    (fit : Fits site.structs var.ty value)
    (was : Encodes site.structs var.ty old (value_at here (location_in scope site k [])))
    (out : (o : ℕ) (path : Path) → slice_get paths o ≡ Some path → OutputLeft site scope after k value places o path)
    (from : (o : ℕ) (place : Location) → slice_get places o ≡ Some place → (path : Path) × (slice_get paths o ≡ Some path))
    (unchanged : (ks : List ℕ) (n : ℤ) → ((o : ℕ) (path : Path) → slice_get paths o ≡ Some path →
    overlaps (record { root = k; fields = ks }) (static_of path) ≡ false) → number_within ks value ≡ Some n → number_within ks old ≡ Some n)
    (same : (way : List Projection) → list_any (λ place. lies_in place (location_in scope site k []).root ((location_in scope site k []).parts ++ way)) places
    ≡ false → value_at after (location_in scope site k []) way ≡ value_at here (location_in scope site k []) way) where
  abbrev base : Location
  base = location_in scope site k []

  abbrev to : List ℕ → List Projection
  to ks = way_to site.structs ks (Some var.ty)

  -- the variable of an output in it is this one
  same_var : (path : Path) (ty : Ty) (one : OutputOf site path ty) → (static_of path).root ≡ k → one.var ≡ var
  same_var path ty one root = same_Some one.var var (sym one.is_there ∙ (ap (var_at site) root ∙ there))

  leads_to : (path : Path) (ty : Ty) (one : OutputOf site path ty) → (static_of path).root ≡ k →
      type_after site.structs (static_of path).fields (Some var.ty) ≡ Some ty
  leads_to path ty one root =
      ap (λ (v : Var). type_after site.structs (static_of path).fields (Some v.ty)) (sym (same_var path ty one root))
      ∙ after_along site.structs (static_of path).fields one.var.ty ty one.leads

  -- the place of such an output
  place_parts : (o : ℕ) (path : Path) (one : OutputLeft site scope after k value places o path) → (static_of path).root ≡ k →
      one.place ≡ record { root = base.root; parts = base.parts ++ to (static_of path).fields }
  place_parts o path one root =
      one.is
      ∙ (ap₂ (λ x (v : Var). location_in scope site x (way_to site.structs (static_of path).fields (Some v.ty))) root
      (same_var path one.ty one.out root)
      ∙ ap (λ (parts : List Projection). record { root = base.root; parts = parts }) (location_along scope site k (to (static_of path).fields)))

  -- ---- in an output

  inside : (ks : List ℕ) (n : ℤ) → number_within ks value ≡ Some n → Inside k ks paths → value_at after base (to ks) ≡ n
  inside ks n number (o, path, at, is) =
      let two = and_parts (nat_eq (static_of path).root k) (is_front (static_of path).fields ks) is in
      let root : (static_of path).root ≡ k = eqb-true (static_of path).root k two.0 in
      let split = front_split (static_of path).fields ks two.1 in
      by (out o path at) root split.0 split.1
    where
      by : (one : OutputLeft site scope after k value places o path) → (static_of path).root ≡ k → (rest : List ℕ) →
          ks ≡ (static_of path).fields ++ rest → value_at after base (to ks) ≡ n
      by one root rest whole =
          let fields = (static_of path).fields in
          let typed = leads_to path one.ty one.out root in
          let way : to ks ≡ to fields ++ way_to site.structs rest (Some one.ty) =
          ap to whole ∙ way_further site.structs fields rest var.ty one.ty typed in
          let held = one.holds.each rest n (sym (one.agrees rest root) ∙ (ap (λ ks. number_within ks value) (sym whole) ∙ number)) in
          ap (λ way. value_at after base way) way
          ∙ (ap (after base.root) (sym (append_assoc base.parts (to fields) (way_to site.structs rest (Some one.ty))))
          ∙ (ap (λ (p : Location). value_at after p (way_to site.structs rest (Some one.ty))) (sym (place_parts o path one root)) ∙ held))

  -- ---- in none

  module _ (ks : List ℕ) (n : ℤ) (number : number_within ks value ≡ Some n) (none : Outside k ks paths) where
    not_front : (o : ℕ) (path : Path) → slice_get paths o ≡ Some path → nat_eq (static_of path).root k ≡ true →
        (is_front (static_of path).fields ks ≡ false) × (is_front ks (static_of path).fields ≡ false)
    not_front o path at same_root =
        let first : is_front (static_of path).fields ks ≡ false =
        sym (ap (λ b. b && is_front (static_of path).fields ks) same_root) ∙ none o path at in
        (first, by first (is_front ks (static_of path).fields) refl)
      where
        by : is_front (static_of path).fields ks ≡ false → (b : Bool) → is_front ks (static_of path).fields ≡ b → b ≡ false
        by first false is = refl
        by first true is =
            let one = out o path at in
            let root : (static_of path).root ≡ k = eqb-true (static_of path).root k same_root in
            absurd (true_not_false (sym (number_ends site.structs stand ks (static_of path).fields var.ty one.ty value n fit
            (ap (λ (v : Var). along site.structs (static_of path).fields v.ty)
            (sym (same_var path one.ty one.out root)) ∙ one.out.leads) number is) ∙ first))

    flip : (path : Path) → nat_eq k (static_of path).root ≡ true → nat_eq (static_of path).root k ≡ true
    flip path is =
        let root : k ≡ (static_of path).root = eqb-true k (static_of path).root is in eq-eqb (static_of path).root k (sym root)

    no_overlap : (o : ℕ) (path : Path) → slice_get paths o ≡ Some path → overlaps (record { root = k; fields = ks }) (static_of path) ≡ false
    no_overlap o path at = by (nat_eq k (static_of path).root) refl
      where
        by : (b : Bool) → nat_eq k (static_of path).root ≡ b →
            (b && (is_front ks (static_of path).fields || is_front (static_of path).fields ks)) ≡ false
        by false is = refl
        by true is =
            let two = not_front o path at (flip path is) in
            or_from (is_front ks (static_of path).fields) (is_front (static_of path).fields ks) two.1 two.0

    -- the number lies in no output's place
    apart_place : (o : ℕ) (path : Path) (at : slice_get paths o ≡ Some path) → lies_in (out o path at).place base.root (base.parts ++ to ks) ≡ false
    apart_place o path at = by (nat_eq (static_of path).root k) refl
      where
        by : (b : Bool) → nat_eq (static_of path).root k ≡ b → lies_in (out o path at).place base.root (base.parts ++ to ks) ≡ false
        by false is =
            let one = out o path at in
            ap (λ (p : Location). lies_in p base.root (base.parts ++ to ks)) one.is
            ∙ lies_inside scope site (static_of path).root (way_to site.structs (static_of path).fields (Some one.out.var.ty)) base.root
            (base.parts ++ to ks)
            (apart_lies (location_in scope site (static_of path).root []) base (to ks)
            (apart.each (static_of path).root k one.out.var var one.out.is_there there one.out.writable is))
        by true is =
            let one = out o path at in
            let fields = (static_of path).fields in
            let root : (static_of path).root ≡ k = eqb-true (static_of path).root k is in
            let two = not_front o path at is in
            let lies = some_found number_in (part_at ks value) n number in
            let typed = along_there site.structs stand ks var.ty value lies.0 fit lies.1 in
            let parted = fronts_part site.structs stand fields ks var.ty one.ty typed.0 (leads_to path one.ty one.out root)
            (after_along site.structs ks var.ty typed.0 typed.1) two.0 two.1 in
            let nothing : left_after (to fields) (to ks) ≡ None =
            ap₂ left_after (sym (append-nil (to fields))) (sym (append-nil (to ks))) ∙ left_apart (to fields) (to ks) [] [] parted in
            ap (λ (p : Location). lies_in p base.root (base.parts ++ to ks)) (place_parts o path one root)
            ∙ (ap (λ left. same_root base.root base.root && is_some left) (left_behind base.parts (to fields) (to ks) ∙ nothing)
            ∙ and_false (same_root base.root base.root))

    no_place : list_any (λ place. lies_in place base.root (base.parts ++ to ks)) places ≡ false
    no_place = each places (λ o place at. one_place o place at)
      where
        one_place : (o : ℕ) (place : Location) → slice_get places o ≡ Some place → lies_in place base.root (base.parts ++ to ks) ≡ false
        one_place o place at =
            let path = from o place at in
            let is : (out o path.0 path.1).place ≡ place =
            same_Some (out o path.0 path.1).place place (sym (out o path.0 path.1).there ∙ at) in
            ap (λ (p : Location). lies_in p base.root (base.parts ++ to ks)) (sym is) ∙ apart_place o path.0 path.1

        each : (rest : List Location) → ((o : ℕ) (place : Location) → slice_get rest o ≡ Some place →
            lies_in place base.root (base.parts ++ to ks) ≡ false) →
            list_any (λ place. lies_in place base.root (base.parts ++ to ks)) rest ≡ false
        each [] all = refl
        each (place ∷ rest) all =
            or_from (lies_in place base.root (base.parts ++ to ks)) (list_any (λ place. lies_in place base.root (base.parts ++ to ks)) rest)
            (all zero place refl) (each rest (λ o place at. all (suc o) place at))

    outside : value_at after base (to ks) ≡ n
    outside = same (to ks) no_place ∙ was.each ks n (unchanged ks n no_overlap number)

  -- so it holds what was left
  pub variable_holds : Encodes site.structs var.ty value (value_at after base)
  variable_holds = record { each = λ ks n number. by ks n number (found k ks paths) }
    where
      by : (ks : List ℕ) (n : ℤ) → number_within ks value ≡ Some n → Inside k ks paths ⊎ Outside k ks paths → value_at after base (to ks) ≡ n
      by ks n number (inl one) = inside ks n number one
      by ks n number (inr none) = outside ks n number none
