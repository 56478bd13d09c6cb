-- What the pass of a callee leaves of what its caller sees, and of what other callees have.
use Rattle.std.proofs.Common.{◌≡◌, ◌⊎◌, inl, inr, ℕ, zero, suc, ◌<◌, ◌≤◌, arith, Bool, true}
use Rattle.std.proofs.Common.{false, ◌&&◌, ◌||◌, List, [], ◌∷◌, ◌++◌, map}
use Rattle.std.proofs.Common.{Some, refl, sym, ap, ap₂, ◌∙◌, subst}
use Rattle.std.specs.Prelude.{nat_eq, option_and_then, slice_get}
use Rattle.std.proofs.lemmas.Bool.{and_parts}
use Rattle.bl_tree.proofs.Basics.{index_of, number_itself as itself, number_test_swap, numbers_differ, true_not_false}
use Rattle.bl_tree.specs.declared.place.Place.{Place}
use Rattle.bl_tree.specs.declared.static_path.Static.{Static}
use Rattle.bl_tree.specs.declared.tree.Expr.{Expr}
use Rattle.bl_tree.specs.declared.tree.Path.{Path}
use Rattle.bl_tree.specs.declared.tree.StructDef.{StructDef}
use Rattle.bl_tree.specs.declared.tree.Unit.{Unit as UnitDef}
use Rattle.bl_tree.specs.Static.{is_front, overlaps, static_of, whole}
use Rattle.bl_eval.specs.Values.{value_at}
use Rattle.bl_ctree.specs.declared.instance.Instance.{Instance}
use Rattle.bl_ctree.specs.declared.instance.Origin.{Origin}
use Rattle.bl_ctree.specs.Actions.{Copies, result_at}
use Rattle.bl_ctree.specs.Instances.{Setting, callee_of, setting_of}
use Rattle.bl_ctree.specs.Store.{Frame, Location, Store, home, overlap, value_among, whole_of}
use Rattle.bl_ctree_laws.specs.Pending.{deed}
use Rattle.bl_ctree_laws_confluence.specs.Deeds.Homes.{HomesAreApart, OutputsAreApart}
use Rattle.bl_ctree_laws_confluence.specs.Deeds.Nesting.{Inside, InstancesNest, IsOutput}
use Rattle.bl_ctree_laws_confluence.specs.Deeds.Nesting as nesting
use Rattle.bl_ctree_laws_confluence.specs.Stores.{now_of}
use Rattle.bl_machine_laws.specs.Passes.Follows.{DeedYields}
use Rattle.bl_machine_pass_laws_execution.specs.Kept.Kept.{StoreKept}
use Rattle.bl_machine_pass_laws_execution.specs.Kept.Laws.{InputsGoIn}

-- ---- fronts

front_cut : (xs ys zs : List ℕ) → is_front xs (ys ++ zs) ≡ true → (is_front xs ys || is_front ys xs) ≡ true
front_cut [] ys zs h = refl
front_cut (x ∷ xs) [] zs h = refl
front_cut (x ∷ xs) (y ∷ ys) zs h =
    let two = and_parts (nat_eq x y) (is_front xs (ys ++ zs)) h in
    let back : nat_eq y x ≡ true = number_test_swap y x ∙ two.0 in
    ap₂ (λ a b. (a && is_front xs ys) || (b && is_front ys xs)) two.0 back ∙ front_cut xs ys zs two.1

front_less : (xs ys zs : List ℕ) → is_front (ys ++ zs) xs ≡ true → is_front ys xs ≡ true
front_less xs [] zs h = refl
front_less [] (y ∷ ys) zs h = absurd cc
front_less (x ∷ xs) (y ∷ ys) zs h =
    let two = and_parts (nat_eq y x) (is_front (ys ++ zs) xs) h in
    ap₂ (λ a b. a && b) two.0 (front_less xs ys zs two.1)

-- what overlaps a longer path overlaps its front
overlaps_less : (path : Static) (root : ℕ) (ys zs : List ℕ) → overlaps path (record { root = root; fields = ys ++ zs }) ≡ true →
    overlaps path (record { root = root; fields = ys }) ≡ true
overlaps_less path root ys zs h =
    let two = and_parts (nat_eq path.root root) (is_front path.fields (ys ++ zs) || is_front (ys ++ zs) path.fields) h in
    ap₂ (λ a b. a && b) two.0 (by (is_front path.fields (ys ++ zs)) (is_front (ys ++ zs) path.fields) refl refl two.1)
  where
    or_last : (a b : Bool) → b ≡ true → (a || b) ≡ true
    or_last true b h = refl
    or_last false b h = h

    by : (a b : Bool) → is_front path.fields (ys ++ zs) ≡ a → is_front (ys ++ zs) path.fields ≡ b → (a || b) ≡ true →
        (is_front path.fields ys || is_front ys path.fields) ≡ true
    by true b one two h = front_cut path.fields ys zs one
    by false true one two h = or_last (is_front path.fields ys) (is_front ys path.fields) (front_less path.fields ys zs two)
    by false false one two h = absurd cc

map_got : (paths : List Path) (k : ℕ) (path : Static) → slice_get (map static_of paths) k ≡ Some path →
    (one : Path) × (slice_get paths k ≡ Some one) × (static_of one ≡ path)
map_got [] k path is = absurd cc
map_got (p ∷ paths) zero path is = let same : static_of p ≡ path = cc in (p, refl, same)
map_got (p ∷ paths) (suc k) path is = map_got paths k path is

-- ---- what a call leaves

module _ (structs : List StructDef) (units : List UnitDef) (entry : ℕ) (nest : InstancesNest structs units entry) (homes : HomesAreApart)
    (parted : OutputsAreApart (setting_of structs units entry)) (inputs : InputsGoIn) (i j : ℕ) (at : Place)
    (called : callee_of (setting_of structs units entry) i at ≡ Some j) (other : UnitDef) (given_inputs : List Expr) (outputs : List Path)
    (begun : (instance : Instance) (origin : Origin) → slice_get (setting_of structs units entry).instances j ≡ Some instance →
    instance.origin ≡ Some origin → origin.outputs ≡ map static_of outputs) (store given left : Store)
    (copied : DeedYields (setting_of structs units entry) (deed i at (Copies j given_inputs)) store true given)
    (kept : StoreKept (setting_of structs units entry) j other given left) where
  abbrev W : Setting
  W = setting_of structs units entry

  abbrev own : Static → Location
  own path = record { instance = i; path = path }

  -- a path that goes on from the path of a `run`'s output
  abbrev longer : Path → List ℕ → Static
  longer one fields = record { root = (static_of one).root; fields = (static_of one).fields ++ fields }

  -- no home of the caller is inside the callee
  not_inside : (path : Static) → Inside W j (home W (own path)).instance → ⊥
  not_inside path inside =
      let k = (home W (own path)).instance in
      true_not_false (sym (itself k) ∙ nest.hidden i j k at path called inside)

  given_same : (b : Location) → (b.instance ≡ j → ⊥) → value_among now_of given b ≡ value_among now_of store b
  given_same b differ =
      ap (option_and_then (λ (frame : Frame). option_and_then (value_at b.path.fields) (slice_get (now_of frame) b.path.root)))
      (inputs.others W i j b.instance at given_inputs store true given copied differ)

  -- the home of an output of the callee is inside it, or that of a path among the outputs
  by_output : (b : Location) (x : ℕ) →
      (Inside W j (home W (whole_of j x)).instance → overlap b (home W (whole_of j x)) ≡ false) →
      ((path : Path) (k : ℕ) (fields : List ℕ) → slice_get outputs k ≡ Some path →
      overlap b (home W (own (longer path fields))) ≡ false) →
      overlap b (home W (whole_of j x)) ≡ false
  by_output b x inner outer = by (nest.homes i j j at (whole x) called nesting.itself)
    where
      by : Inside W j (home W (whole_of j x)).instance ⊎ IsOutput W i j (whole_of j x) → overlap b (home W (whole_of j x)) ≡ false
      by (inl inside) = inner inside
      by (inr out) =
          let paths = begun out.instance out.origin out.there out.began in
          let place = index_of out.origin.outputs out.output out.is_output in
          let one = map_got outputs place.0 out.output (ap (λ ps. slice_get ps place.0) (sym paths) ∙ place.1) in
          ap (overlap b) out.leads
          ∙ (ap (λ (p : Static). overlap b (home W (own (record { root = p.root; fields = p.fields ++ out.fields })))) (sym one.2)
          ∙ outer one.0 place.0 out.fields one.1)

  module _ (path : Static) (clear : (k : ℕ) (one : Path) → slice_get outputs k ≡ Some one → overlaps path (static_of one) ≡ false) where
    outer_clear : (one : Path) (k : ℕ) (fields : List ℕ) → slice_get outputs k ≡ Some one →
        overlap (home W (own path)) (home W (own (longer one fields))) ≡ false
    outer_clear one k fields there = by (overlap (home W (own path)) (home W (own (longer one fields)))) refl
      where
        by : (b : Bool) → overlap (home W (own path)) (home W (own (longer one fields))) ≡ b → b ≡ false
        by false is = refl
        by true is =
            let over = homes structs units entry i path (longer one fields) parted is in
            absurd (true_not_false (sym (overlaps_less path (static_of one).root (static_of one).fields fields over) ∙ clear k one there))

    -- a path of the caller that overlaps no output has what it had
    pub caller_now : value_among now_of left (home W (own path)) ≡ value_among now_of store (home W (own path))
    caller_now =
        let b = home W (own path) in
        kept.now b (not_inside path)
        (λ x least most.
        by_output b x
        (λ inside.
        ap (λ same. same && overlaps b.path (home W (whole_of j x)).path)
        (number_test_swap b.instance (home W (whole_of j x)).instance
        ∙ nest.hidden i j (home W (whole_of j x)).instance at path called inside)) outer_clear)
        ∙ given_same b (λ same. not_inside path (subst (Inside W j) (sym same) nesting.itself))

  -- ---- other callees

  module _ (c : ℕ) (place : Place) (calls : callee_of W i place ≡ Some c) (apart : c ≡ j → ⊥) (k : ℕ) (inside : Inside W c k) where
    -- what is inside another callee isn't inside this one
    pub not_within : Inside W j k → ⊥
    not_within within = apart (nest.apart i c j k place at calls called inside within)

    pub not_itself : k ≡ j → ⊥
    not_itself same = not_within (subst (Inside W j) (sym same) nesting.itself)

    -- so its variables have what they had
    pub inner_now : (x : ℕ) → value_among now_of left (whole_of k x) ≡ value_among now_of store (whole_of k x)
    inner_now x =
        kept.now (whole_of k x) not_within
        (λ y least most.
        by_output (whole_of k x) y
        (λ within.
        ap (λ same. same && overlaps (whole x) (home W (whole_of j y)).path)
        (numbers_differ k (home W (whole_of j y)).instance (λ same. not_within (subst (Inside W j) (sym same) within))))
        (λ one n fields there.
        ap (λ same. same && overlaps (whole x) (home W (own (longer one fields))).path) (nest.hidden i c k place (longer one fields) calls inside)))
        ∙ given_same (whole_of k x) not_itself

  -- ---- the result

  pub result_kept : result_at left i ≡ result_at store i
  result_kept =
      kept.results i
      (λ inside. let less : i < j = nest.later i j at called in let more : j ≤ i = nest.inside j i inside in absurd (omega arith))
      ∙ inputs.results W i j i at given_inputs store true given copied
