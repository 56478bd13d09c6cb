-- How often the instances of a unit are passed, by how often those of the units that it runs are.
use Rattle.std.proofs.Common.{◌≡◌, ℕ, zero, suc, ◌+◌, ◌*◌, List, [], ◌∷◌, ◌++◌, append_assoc, map, length, Option, Some, None, refl, sym, ap, ◌∙◌, subst, arith}
use Rattle.std.specs.Prelude.{option_and_then, option_map, slice_get, unwrap_or}
use Rattle.std.proofs.lemmas.List.{length-append}
use Rattle.std.proofs.Math.Nat.{add-mul, mul-add, mul_assoc}
use Rattle.bl_tree.proofs.Basics.{get_in_front, get_mapped}
use Rattle.bl_tree.specs.declared.tree.StructDef.{StructDef}
use Rattle.bl_tree.specs.declared.tree.Unit.{Unit as UnitDef}
use Rattle.bl_tree.specs.Reduce.{joined, total}
use Rattle.bl_ctree.specs.declared.instance.Instance.{Instance}
use Rattle.bl_ctree.specs.declared.instance.Origin.{Origin}
use Rattle.bl_ctree.specs.declared.instance.Run.{Run}
use Rattle.bl_ctree.specs.Instances.{Setting, called_from, expanded, instances_below, origin_under, runs_in, runs_of, unit_of}
use Rattle.bl_ctree.specs.Measure.{copies, count_at, passes}
use Rattle.bl_ctree_laws_traces.proofs.OnBounded.Lists.{EachOf, each_append, each_map, each_more, total_append, total_of}
use Rattle.bl_ctree_laws_confluence.proofs.OnDeeds.Origins.{get_second}

-- ---- lists

-- ---- sums

in_both : (h more cf cmore call g gmore : ℕ) → h ≡ cf + g → more ≡ cmore + gmore → call ≡ cf + cmore → h + more ≡ call + (g + gmore)
in_both h more cf cmore call g gmore one other both = omega arith

-- a sum of multiples and of further numbers
multiples : {A : Type 0} (c : ℕ) (h f g : A → ℕ) (xs : List A) → EachOf (λ x. h x ≡ c * f x + g x) xs →
    total (map h xs) ≡ c * total (map f xs) + total (map g xs)
multiples c h f g [] each = omega arith
multiples c h f g (x ∷ xs) each =
    in_both (h x) (total (map h xs)) (c * f x) (c * total (map f xs)) (c * (f x + total (map f xs))) (g x) (total (map g xs)) each.0
    (multiples c h f g xs each.1) (mul-add c (f x) (total (map f xs)))

in_all : (h more cf cmore call : ℕ) → h ≡ cf → more ≡ cmore → call ≡ cf + cmore → h + more ≡ call
in_all h more cf cmore call one other both = omega arith

multiples_alone : {A : Type 0} (c : ℕ) (h f : A → ℕ) (xs : List A) → EachOf (λ x. h x ≡ c * f x) xs → total (map h xs) ≡ c * total (map f xs)
multiples_alone c h f [] each = omega arith
multiples_alone c h f (x ∷ xs) each =
    in_all (h x) (total (map h xs)) (c * f x) (c * total (map f xs)) (c * (f x + total (map f xs))) each.0 (multiples_alone c h f xs each.1)
    (mul-add c (f x) (total (map f xs)))

one_first : (n : ℕ) → 1 * n ≡ n * 1
one_first n = omega arith

one_factor : (n : ℕ) → 1 * n ≡ n
one_factor n = omega arith

regrouped : (a b : ℕ) → a + b + 1 ≡ a + (b + 1)
regrouped a b = omega arith

-- ---- instances below others

-- how often an instance is passed by the passes of the first, once for each copy of each `run` on the way
abbrev pub products : Setting → ℕ → Instance → ℕ
products w zero instance = 1
products w (suc depth) instance =
    unwrap_or (option_map (λ (origin : Origin). unwrap_or (option_map (products w depth) (slice_get w.instances origin.caller)) 0 * copies w origin)
    instance.origin) 0

-- so many callers lead from the instance to one without a caller
abbrev pub Chained : List Instance → ℕ → Instance → Type 0
Chained instances zero x = x.origin ≡ None
Chained instances (suc depth) x =
    (origin : Origin) × (x.origin ≡ Some origin) × (caller : Instance) × (slice_get instances origin.caller ≡ Some caller) × Chained instances depth caller

-- the instances of a unit by itself stand among others, below a `run`
abbrev Embedded : List Instance → List Instance → ℕ → Run → Type 0
Embedded instances inner n run = (i : ℕ) (x : Instance) → slice_get inner i ≡ Some x → slice_get instances (n + i) ≡ Some (called_from n run x)

-- the origin of what the `run` begins, and of what lies below
abbrev first_origin : Run → Origin
first_origin run = record { caller = 0; place = run.place; outputs = run.outputs }

abbrev later_origin : ℕ → Origin → Origin
later_origin n origin = record origin { caller = n + origin.caller }

module _ (structs : List StructDef) (units : List UnitDef) where
  -- the program with these instances
  abbrev pub among : List Instance → Setting
  among instances = record { structs = structs; units = units; instances = instances }

  products_at : (instances : List Instance) (depth : ℕ) (x : Instance) (origin : Origin) (caller : Instance) → x.origin ≡ Some origin →
      slice_get instances origin.caller ≡ Some caller →
      products (among instances) (suc depth) x ≡ products (among instances) depth caller * copies (among instances) origin
  products_at instances depth x origin caller is there =
      ap (λ o. unwrap_or (option_map (λ (origin : Origin). unwrap_or (option_map (products (among instances) depth)
      (slice_get instances origin.caller)) 0 * copies (among instances) origin) o) 0) is
      ∙ ap (λ found. unwrap_or (option_map (products (among instances) depth) found) 0 * copies (among instances) origin) there

  passes_at : (instances : List Instance) (depth : ℕ) (x : Instance) (origin : Origin) (caller : Instance) → x.origin ≡ Some origin →
      slice_get instances origin.caller ≡ Some caller →
      passes (among instances) (suc depth) x ≡ passes (among instances) depth caller * copies (among instances) origin + 1
  passes_at instances depth x origin caller is there =
      ap (λ o. unwrap_or (option_map (λ (origin : Origin). unwrap_or (option_map (passes (among instances) depth)
      (slice_get instances origin.caller)) 0 * copies (among instances) origin + 1) o) 1) is
      ∙ ap (λ found. unwrap_or (option_map (passes (among instances) depth) found) 0 * copies (among instances) origin + 1) there

  module _ (all inner : List Instance) (n : ℕ) (run : Run) (root : Instance) (unit : UnitDef) (at_root : slice_get all 0 ≡ Some root)
      (no_origin : root.origin ≡ None) (body : slice_get units root.unit ≡ Some unit) (embedded : Embedded all inner n run) where
    -- how many copies the `run` has
    abbrev C : ℕ
    C = count_at run.place (joined (map runs_in unit.body))

    copies_first : copies (among all) (first_origin run) ≡ C
    copies_first =
        ap (λ found. unwrap_or (option_map (λ (unit : UnitDef). count_at run.place (joined (map runs_in unit.body)))
        (option_and_then (unit_of (among all)) found)) 0) at_root
        ∙ ap (λ found. unwrap_or (option_map (λ (unit : UnitDef). count_at run.place (joined (map runs_in unit.body))) found) 0) body

    copies_later : (origin : Origin) (caller : Instance) → slice_get inner origin.caller ≡ Some caller →
        copies (among all) (later_origin n origin) ≡ copies (among inner) origin
    copies_later origin caller there =
        ap (λ found. unwrap_or (option_map (λ (unit : UnitDef). count_at origin.place (joined (map runs_in unit.body)))
        (option_and_then (unit_of (among all)) found)) 0) (embedded origin.caller caller there)
        ∙ sym (ap (λ found. unwrap_or (option_map (λ (unit : UnitDef). count_at origin.place (joined (map runs_in unit.body)))
        (option_and_then (unit_of (among inner)) found)) 0) there)

    products_below : (depth : ℕ) (x : Instance) → Chained inner depth x →
        products (among all) (suc depth) (called_from n run x) ≡ C * products (among inner) depth x
    products_below zero x none =
        products_at all zero (called_from n run x) (first_origin run) root (ap (origin_under n run) none) at_root
        ∙ ap (λ k. 1 * k) copies_first ∙ one_first C
    products_below (suc depth) x chain =
        let origin = chain.0 in
        let caller = chain.2 in
        let P : ℕ = products (among inner) depth caller in
        let K : ℕ = copies (among inner) origin in
        products_at all (suc depth) (called_from n run x) (later_origin n origin) (called_from n run caller) (ap (origin_under n run) chain.1)
        (embedded origin.caller caller chain.3)
        ∙ (λ i. products_below depth caller chain.4 i * copies_later origin caller chain.3 i)
        ∙ mul_assoc C P K ∙ sym (ap (λ m. C * m) (products_at inner depth x origin caller chain.1 chain.3))

    passes_below : (depth : ℕ) (x : Instance) → Chained inner depth x →
        passes (among all) (suc depth) (called_from n run x) ≡ C * products (among inner) depth x + passes (among inner) depth x
    passes_below zero x none =
        passes_at all zero (called_from n run x) (first_origin run) root (ap (origin_under n run) none) at_root
        ∙ ap (λ k. 1 * k + 1) copies_first ∙ ap (λ m. m + 1) (one_first C)
    passes_below (suc depth) x chain =
        let origin = chain.0 in
        let caller = chain.2 in
        let P : ℕ = products (among inner) depth caller in
        let Q : ℕ = passes (among inner) depth caller in
        let K : ℕ = copies (among inner) origin in
        passes_at all (suc depth) (called_from n run x) (later_origin n origin) (called_from n run caller) (ap (origin_under n run) chain.1)
        (embedded origin.caller caller chain.3)
        ∙ (λ i. passes_below depth caller chain.4 i * copies_later origin caller chain.3 i + 1)
        ∙ ap (λ m. m + 1) (add-mul (C * P) Q K) ∙ ap (λ m. m + Q * K + 1) (mul_assoc C P K) ∙ regrouped (C * (P * K)) (Q * K)
        ∙ (λ i. C * sym (products_at inner depth x origin caller chain.1 chain.3) i + sym (passes_at inner depth x origin caller chain.1 chain.3) i)

    chained_below : (depth : ℕ) (x : Instance) → Chained inner depth x → Chained all (suc depth) (called_from n run x)
    chained_below zero x none = (first_origin run, ap (origin_under n run) none, root, at_root, no_origin)
    chained_below (suc depth) x chain = (
      later_origin n chain.0,
      ap (origin_under n run) chain.1,
      called_from n run chain.2,
      embedded chain.0.caller chain.2 chain.3,
      chained_below depth chain.2 chain.4,
    )

  -- ---- the instances of a unit

  abbrev InChain : List Instance → Instance → Type 0
  InChain instances x = Chained instances x.depth x

  embedded_so : (all pre inner later : List Instance) (n : ℕ) (run : Run) → length pre ≡ n → all ≡ pre ++ (map (called_from n run) inner ++ later) →
      Embedded all inner n run
  embedded_so all pre inner later n run long is i x there =
      subst (λ all. slice_get all (n + i) ≡ Some (called_from n run x)) (sym is)
      (get_second pre (map (called_from n run) inner ++ later) (n + i) i (called_from n run x) (omega arith)
      (get_in_front (map (called_from n run) inner) later i (called_from n run x) (get_mapped (called_from n run) inner i x there)))

  module _ (alone : ℕ → List Instance) (chained : (k : ℕ) → EachOf (InChain (alone k)) (alone k)) (all : List Instance) (root : Instance) (unit : UnitDef)
      (at_root : slice_get all 0 ≡ Some root) (no_origin : root.origin ≡ None) (body : slice_get units root.unit ≡ Some unit) where
    all_chained : (runs : List Run) (pre : List Instance) (n : ℕ) → length pre ≡ n → all ≡ pre ++ instances_below alone n runs →
        EachOf (InChain all) (instances_below alone n runs)
    all_chained [] pre n long is = tt
    all_chained (run ∷ rest) pre n long is =
        let inner : List Instance = map (called_from n run) (alone run.unit) in
        let later : List Instance = instances_below alone (n + length inner) rest in
        let both = length-append pre inner in
        each_append (InChain all) inner later
        (each_map (InChain all) (called_from n run) (alone run.unit)
        (each_more (InChain (alone run.unit)) (λ x. InChain all (called_from n run x)) (λ x chain. chained_below all (alone run.unit) n run root unit at_root
        no_origin body (embedded_so all pre (alone run.unit) later n run long is) x.depth x chain) (alone run.unit) (chained run.unit)))
        (all_chained rest (pre ++ inner) (n + length inner) (omega arith) (is ∙ sym (append_assoc pre inner later)))

    -- a sum over instances, by the sums below each `run`
    below_sum : (value : Instance → ℕ) (each : Run → ℕ) →
        ((n : ℕ) (run : Run) → Embedded all (alone run.unit) n run → total (map value (map (called_from n run) (alone run.unit))) ≡ each run) →
        (runs : List Run) (pre : List Instance) (n : ℕ) → length pre ≡ n → all ≡ pre ++ instances_below alone n runs →
        total (map value (instances_below alone n runs)) ≡ total (map each runs)
    below_sum value each so [] pre n long is = refl
    below_sum value each so (run ∷ rest) pre n long is =
        let inner : List Instance = map (called_from n run) (alone run.unit) in
        let later : List Instance = instances_below alone (n + length inner) rest in
        let both = length-append pre inner in
        total_append value inner later
        ∙ (λ i. so n run (embedded_so all pre (alone run.unit) later n run long is) i
        + below_sum value each so rest (pre ++ inner) (n + length inner) (omega arith) (is ∙ sym (append_assoc pre inner later)) i)

    module _ (weight : ℕ → ℕ) where
      abbrev copies_of : Run → ℕ
      copies_of run = count_at run.place (joined (map runs_in unit.body))

      fresh_block : (n : ℕ) (run : Run) → Embedded all (alone run.unit) n run →
          total (map (λ (x : Instance). products (among all) x.depth x * weight x.unit) (map (called_from n run) (alone run.unit)))
          ≡ copies_of run * total (map (λ (x : Instance). products (among (alone run.unit)) x.depth x * weight x.unit) (alone run.unit))
      fresh_block n run embedded =
          let inner : List Instance = alone run.unit in
          total_of (λ (x : Instance). products (among all) x.depth x * weight x.unit) (called_from n run) inner
          ∙ multiples_alone (copies_of run) (λ (x : Instance). products (among all) (suc x.depth) (called_from n run x) * weight x.unit)
          (λ (x : Instance). products (among inner) x.depth x * weight x.unit) inner
          (each_more (InChain inner) (λ (x : Instance). products (among all) (suc x.depth) (called_from n run x) * weight x.unit
          ≡ copies_of run * (products (among inner) x.depth x * weight x.unit)) (λ x chain.
          ap (λ m. m * weight x.unit) (products_below all inner n run root unit at_root no_origin body embedded x.depth x chain)
          ∙ mul_assoc (copies_of run) (products (among inner) x.depth x) (weight x.unit)) inner (chained run.unit))

      whole_block : (n : ℕ) (run : Run) → Embedded all (alone run.unit) n run →
          total (map (λ (x : Instance). passes (among all) x.depth x * weight x.unit) (map (called_from n run) (alone run.unit)))
          ≡ copies_of run * total (map (λ (x : Instance). products (among (alone run.unit)) x.depth x * weight x.unit) (alone run.unit))
          + total (map (λ (x : Instance). passes (among (alone run.unit)) x.depth x * weight x.unit) (alone run.unit))
      whole_block n run embedded =
          let inner : List Instance = alone run.unit in
          total_of (λ (x : Instance). passes (among all) x.depth x * weight x.unit) (called_from n run) inner
          ∙ multiples (copies_of run) (λ (x : Instance). passes (among all) (suc x.depth) (called_from n run x) * weight x.unit)
          (λ (x : Instance). products (among inner) x.depth x * weight x.unit) (λ (x : Instance). passes (among inner) x.depth x * weight x.unit) inner
          (each_more (InChain inner) (λ (x : Instance). passes (among all) (suc x.depth) (called_from n run x) * weight x.unit
          ≡ copies_of run * (products (among inner) x.depth x * weight x.unit) + passes (among inner) x.depth x * weight x.unit) (λ x chain.
          ap (λ m. m * weight x.unit) (passes_below all inner n run root unit at_root no_origin body embedded x.depth x chain)
          ∙ add-mul (copies_of run * products (among inner) x.depth x) (passes (among inner) x.depth x) (weight x.unit)
          ∙ ap (λ m. m + passes (among inner) x.depth x * weight x.unit)
          (mul_assoc (copies_of run) (products (among inner) x.depth x) (weight x.unit))) inner (chained run.unit))

  -- ---- what a unit expands to

  abbrev root_of : ℕ → Instance
  root_of k = record { unit = k; depth = 0; origin = None }

  -- the instances of a unit that is found
  abbrev pub opened : ℕ → ℕ → UnitDef → List Instance
  opened longest k unit = root_of k ∷ instances_below (expanded units longest) 1 (runs_of unit)

  pub is_opened : (longest k : ℕ) (unit : UnitDef) → slice_get units k ≡ Some unit → expanded units (suc longest) k ≡ opened longest k unit
  is_opened longest k unit is = ap (λ found. unwrap_or (option_map (λ (unit : UnitDef). opened longest k unit) found) []) is

  expanded_chained : (longest k : ℕ) → EachOf (InChain (expanded units longest k)) (expanded units longest k)
  expanded_chained zero k = tt
  expanded_chained (suc longest) k = by_found (λ j. expanded_chained longest j) (slice_get units k) refl
    where
      by_found : ((j : ℕ) → EachOf (InChain (expanded units longest j)) (expanded units longest j)) → (found : Option UnitDef) →
          slice_get units k ≡ found → EachOf (InChain (unwrap_or (option_map (λ (unit : UnitDef). opened longest k unit) found) []))
          (unwrap_or (option_map (λ (unit : UnitDef). opened longest k unit) found) [])
      by_found inner None is = tt
      by_found inner (Some unit) is = (
        refl,
        all_chained (expanded units longest) inner (opened longest k unit) (root_of k) unit refl refl is (runs_of unit) (root_of k ∷ []) 1 refl refl,
      )

  module _ (weight : ℕ → ℕ) where
    -- what instances come to, each as often as it is passed by passes of the first
    abbrev pub fresh_sum : List Instance → ℕ
    fresh_sum instances = total (map (λ (x : Instance). products (among instances) x.depth x * weight x.unit) instances)

    -- and each as often as it is passed
    abbrev pub whole_sum : List Instance → ℕ
    whole_sum instances = total (map (λ (x : Instance). passes (among instances) x.depth x * weight x.unit) instances)

    pub fresh_opened : (longest k : ℕ) (unit : UnitDef) → slice_get units k ≡ Some unit → fresh_sum (opened longest k unit)
        ≡ weight k + total (map (λ (r : Run). count_at r.place (joined (map runs_in unit.body)) * fresh_sum (expanded units longest r.unit)) (runs_of unit))
    fresh_opened longest k unit is =
        (λ i. one_factor (weight k) i + below_sum (expanded units longest) (expanded_chained longest) (opened longest k unit) (root_of k) unit refl refl is
        (λ (x : Instance). products (among (opened longest k unit)) x.depth x * weight x.unit)
        (λ (r : Run). count_at r.place (joined (map runs_in unit.body)) * fresh_sum (expanded units longest r.unit))
        (fresh_block (expanded units longest) (expanded_chained longest) (opened longest k unit) (root_of k) unit refl refl is weight) (runs_of unit)
        (root_of k ∷ []) 1 refl refl i)

    pub whole_opened : (longest k : ℕ) (unit : UnitDef) → slice_get units k ≡ Some unit → whole_sum (opened longest k unit)
        ≡ weight k + total (map (λ (r : Run). count_at r.place (joined (map runs_in unit.body)) * fresh_sum (expanded units longest r.unit)
        + whole_sum (expanded units longest r.unit)) (runs_of unit))
    whole_opened longest k unit is =
        (λ i. one_factor (weight k) i + below_sum (expanded units longest) (expanded_chained longest) (opened longest k unit) (root_of k) unit refl refl is
        (λ (x : Instance). passes (among (opened longest k unit)) x.depth x * weight x.unit)
        (λ (r : Run). count_at r.place (joined (map runs_in unit.body)) * fresh_sum (expanded units longest r.unit)
        + whole_sum (expanded units longest r.unit))
        (whole_block (expanded units longest) (expanded_chained longest) (opened longest k unit) (root_of k) unit refl refl is weight) (runs_of unit)
        (root_of k ∷ []) 1 refl refl i)
