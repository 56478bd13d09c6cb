-- Shown units have the instances of the program, and stores are seen alike.
use Rattle.std.proofs.Common.{◌≡◌, ◌⊎◌, ⊎_elim, inl, inr, ℕ, zero, suc, ◌+◌, ◌<◌, ◌≤◌, arith, Bool, true, false, ◌||◌, List, [], ◌∷◌, ◌++◌, Contains, map, length}
use Rattle.std.proofs.Common.{Option, Some, None, refl, sym, ap, ◌∙◌, subst}
use Rattle.std.proofs.lemmas.Option.{same_Some}
use Rattle.std.specs.Prelude.{nat_eq, option_and_then, option_map, slice_get, unwrap_or, if◌then◌else◌}
use Rattle.std.specs.List.{list_any, range_with_len}
use Rattle.std.proofs.lemmas.List.Elements.{All-contains}
use Rattle.bl_tree.proofs.Basics.{contains_first, contains_further, less_or_not, same_number}
use Rattle.bl_tree.specs.declared.tree.StructDef.{StructDef}
use Rattle.bl_tree.specs.declared.tree.Unit.{Unit as UnitDef}
use Rattle.bl_tree.specs.declared.value.Value.{Value}
use Rattle.bl_tree.specs.declared.value.Value.TheVariants.{Parts}
use Rattle.bl_limits_measures.specs.Runs.{activities_run}
use Rattle.bl_limits_measures.specs.Uses.{UsesEarlier}
use Rattle.bl_ctree.specs.declared.instance.Instance.{Instance}
use Rattle.bl_ctree.specs.declared.instance.Origin.{Origin}
use Rattle.bl_ctree.specs.declared.instance.Run.{Run}
use Rattle.bl_ctree.specs.Instances.{Setting, called_from, expanded, instances_below, instances_of, runs_of, setting_of, unit_at, unit_of}
use Rattle.bl_ctree.specs.Store.{Frame, Location, Store, depth_at, home, home_within, led, led_by, value_among, variable_among, vars_at, view_at, whole_of}
use Rattle.bl_ctree_laws_confluence.specs.Deeds.Origins.{HasCaller, InstancesHaveCallers}
use Rattle.bl_emit_spec.proofs.LentLemmas.{lent_many}
use Rattle.bl_emit_spec.specs.Lent.{lent_unit}
use Rattle.bl_machine_pass_laws_execution.specs.Frames.{Frames}
use Rattle.bl_emit_spec_laws.specs.Calls.Built.{cleared, is_under, origin_at, unit_number}
use Rattle.bl_emit_spec_laws_wellformed.proofs.OnClosed.Running.{run_named}
use Rattle.bl_emit_file.proofs.OnShown.Units.{Shown, ShownAs, shown_before, shown_entry}

-- ---- instances

below_same : (f g : ℕ → List Instance) (n : ℕ) (runs : List Run) → ((run : Run) → Contains runs run → f run.unit ≡ g run.unit) →
    instances_below f n runs ≡ instances_below g n runs
below_same f g n [] each = refl
below_same f g n (run ∷ rest) each =
    (λ i. map (called_from n run) (each run (contains_first run rest) i)
    ++ instances_below f (n + length (map (called_from n run) (each run (contains_first run rest) i))) rest)
    ∙ ap (λ later. map (called_from n run) (g run.unit) ++ later)
    (below_same f g (n + length (map (called_from n run) (g run.unit))) rest (λ other has. each other (contains_further run rest other has)))

any_contains : (xs : List ℕ) (j : ℕ) → list_any (nat_eq j) xs ≡ true → Contains xs j
any_contains [] j any = absurd (cc)
any_contains (x ∷ xs) j any = by (nat_eq j x) refl any (any_contains xs j)
  where
    by : (b : Bool) → nat_eq j x ≡ b → (b || list_any (nat_eq j) xs) ≡ true → (list_any (nat_eq j) xs ≡ true → Contains xs j) → Contains (x ∷ xs) j
    by true is any rest = subst (λ y. Contains (y ∷ xs) j) (same_number j x is) (contains_first j xs)
    by false is any rest = contains_further x xs j (rest any)

module _ (structs : List StructDef) (units : List UnitDef) (entry : ℕ) (unit : UnitDef) (there : slice_get units entry ≡ Some unit)
    (shown : List UnitDef) (are : Shown units entry shown) (uses : UsesEarlier units) (callers : InstancesHaveCallers) where
  abbrev pub W : Setting
  W = setting_of structs units entry

  abbrev pub W' : Setting
  W' = setting_of structs shown entry

  run_earlier : (k : ℕ) (one : UnitDef) → slice_get units k ≡ Some one → (run : Run) → Contains (runs_of one) run → run.unit < k
  run_earlier k one at run has =
      All-contains (λ j. j < k) (activities_run one) run.unit (uses k one at).runs
      (any_contains (activities_run one) run.unit (run_named one run has))

  abbrev root : ℕ → Instance
  root k = record { unit = k; depth = 0; origin = None }

  abbrev opened : (ℕ → List Instance) → ℕ → Option UnitDef → List Instance
  opened alone k o = unwrap_or (option_map (λ (one : UnitDef). root k ∷ instances_below alone 1 (runs_of one)) o) []

  abbrev Deeper : ℕ → Type 0
  Deeper longest = (k : ℕ) → k ≤ entry → expanded shown longest k ≡ expanded units longest k

  inner_same : (longest k : ℕ) → k ≤ entry → Deeper longest → (one : UnitDef) → slice_get units k ≡ Some one →
      instances_below (expanded shown longest) 1 (runs_of one) ≡ instances_below (expanded units longest) 1 (runs_of one)
  inner_same longest k few deeper one at =
      below_same (expanded shown longest) (expanded units longest) 1 (runs_of one)
      (λ run has. let less = run_earlier k one at run has in deeper run.unit (omega (arith, less, few)))

  opened_same : (longest k : ℕ) → k ≤ entry → Deeper longest → (o : Option UnitDef) → slice_get units k ≡ o →
      opened (expanded shown longest) k o ≡ opened (expanded units longest) k o
  opened_same longest k few deeper None is = refl
  opened_same longest k few deeper (Some one) is = ap (λ rest. root k ∷ rest) (inner_same longest k few deeper one is)

  step_same : (longest k : ℕ) → k ≤ entry → Deeper longest → expanded shown (suc longest) k ≡ expanded units (suc longest) k
  step_same longest k few deeper = ⊎_elim before at_entry (less_or_not k entry)
    where
      before : k < entry → expanded shown (suc longest) k ≡ expanded units (suc longest) k
      before less =
          ap (opened (expanded shown longest) k) (shown_before are k less) ∙ opened_same longest k few deeper (slice_get units k) refl

      at_entry : entry ≤ k → expanded shown (suc longest) k ≡ expanded units (suc longest) k
      at_entry more =
          let same : k ≡ entry = omega (arith, few, more) in
          ap (λ j. opened (expanded shown longest) k (slice_get shown j)) same
          ∙ ap (opened (expanded shown longest) k) (shown_entry are unit there)
          ∙ ap (λ rest. root k ∷ rest) (inner_same longest k few deeper unit (ap (slice_get units) same ∙ there))
          ∙ sym (ap (λ j. opened (expanded units longest) k (slice_get units j)) same ∙ ap (opened (expanded units longest) k) there)

  expanded_same : (longest : ℕ) → Deeper longest
  expanded_same zero k few = refl
  expanded_same (suc longest) k few = step_same longest k few (expanded_same longest)

  pub instances_same : instances_of shown entry ≡ instances_of units entry
  instances_same = expanded_same (entry + 1) entry (omega arith)

  -- ---- which units have instances

  pub record Low (instance : Instance) : Type 0 where
    pub few : instance.unit ≤ entry
    pub called : (origin : Origin) → instance.origin ≡ Some origin → instance.unit < entry

  abbrev LowBelow : ℕ → Type 0
  LowBelow n = (i : ℕ) (instance : Instance) → i < n → slice_get (instances_of units entry) i ≡ Some instance → Low instance

  low_called : (n i : ℕ) (instance : Instance) → i < suc n → LowBelow n → (o : Option Origin) → instance.origin ≡ o →
      HasCaller units entry (instances_of units entry) i instance o → Low instance
  low_called n i instance less below None is has =
      let same : instance.unit ≡ entry = has.2 in
      record { few = omega (arith, same); called = λ origin other. absurd (let no : None ≡ Some origin = sym is ∙ other in cc) }
  low_called n i instance less below (Some origin) is has =
      let first = has.earlier in
      let caller = below origin.caller has.caller (omega (arith, less, first)) has.there in
      let run = run_earlier has.caller.unit has.unit has.body has.run has.runs in
      let few = caller.few in
      let named = has.names in
      record { few = omega (arith, run, few, named); called = λ other given. omega (arith, run, few, named) }

  low_below : (n : ℕ) → LowBelow n
  low_below zero i instance less at = absurd (omega (arith, less))
  low_below (suc n) i instance less at = low_called n i instance less (low_below n) instance.origin refl (callers units entry i instance at)

  pub low : (i : ℕ) (instance : Instance) → slice_get (instances_of units entry) i ≡ Some instance → Low instance
  low i instance at = low_below (suc i) i instance (omega arith) at

  -- the unit of an instance is shown as it is, or it is the entry
  pub both_units : (i : ℕ) → (unit_at W' i ≡ unit_at W i) ⊎ ((unit_at W i ≡ Some unit) × (unit_at W' i ≡ Some (lent_unit unit)))
  both_units i = by (slice_get (instances_of units entry) i) refl
    where
      at_one : (o : Option Instance) → Type 0
      at_one o = (option_and_then (unit_of W') o ≡ option_and_then (unit_of W) o)
          ⊎ ((option_and_then (unit_of W) o ≡ Some unit) × (option_and_then (unit_of W') o ≡ Some (lent_unit unit)))

      moved : at_one (slice_get (instances_of units entry) i) →
          (unit_at W' i ≡ unit_at W i) ⊎ ((unit_at W i ≡ Some unit) × (unit_at W' i ≡ Some (lent_unit unit)))
      moved one =
          subst (λ instances. (option_and_then (unit_of W') (slice_get instances i) ≡ unit_at W i)
          ⊎ ((unit_at W i ≡ Some unit) × (option_and_then (unit_of W') (slice_get instances i) ≡ Some (lent_unit unit)))) (sym instances_same) one

      by : (o : Option Instance) → slice_get (instances_of units entry) i ≡ o →
          (unit_at W' i ≡ unit_at W i) ⊎ ((unit_at W i ≡ Some unit) × (unit_at W' i ≡ Some (lent_unit unit)))
      by None is = moved (subst at_one (sym is) (inl refl))
      by (Some instance) is = moved (subst at_one (sym is) (⊎_elim before at_entry (less_or_not instance.unit entry)))
        where
          before : instance.unit < entry → at_one (Some instance)
          before less = inl (shown_before are instance.unit less)

          at_entry : entry ≤ instance.unit → at_one (Some instance)
          at_entry more =
              let few = (low i instance is).few in
              let same : instance.unit ≡ entry = omega (arith, few, more) in
              inr (ap (slice_get units) same ∙ there, ap (slice_get shown) same ∙ shown_entry are unit there)

  pub unit_shown : (i : ℕ) (one : UnitDef) → unit_at W i ≡ Some one → (other : UnitDef) × (unit_at W' i ≡ Some other) × ShownAs one other
  unit_shown i one at =
      ⊎_elim (λ same. (one, same ∙ at, ShownAs.as_it_is))
      (λ pair. (lent_unit unit, pair.1, subst (λ u. ShownAs u (lent_unit unit)) (same_Some unit one (sym pair.0 ∙ at)) ShownAs.lent)) (both_units i)

  pub number_same : (i : ℕ) → unit_number W' i ≡ unit_number W i
  number_same i = ap (λ instances. unwrap_or (option_map (λ (instance : Instance). instance.unit) (slice_get instances i)) 0) instances_same

  -- ---- homes

  led_same : (at : Location) → led W' at ≡ led W at
  led_same at =
      ap (λ instances. option_and_then (from W') (slice_get instances at.instance)) instances_same
      ∙ by (slice_get (instances_of units entry) at.instance) refl
    where
      from : Setting → Instance → Option Location
      from w instance = option_and_then (λ origin. option_and_then (led_by at.path origin) (unit_of w instance)) instance.origin

      by_origin : (instance : Instance) → Low instance → (o : Option Origin) → instance.origin ≡ o →
          option_and_then (λ origin. option_and_then (led_by at.path origin) (unit_of W' instance)) o
          ≡ option_and_then (λ origin. option_and_then (led_by at.path origin) (unit_of W instance)) o
      by_origin instance one None is = refl
      by_origin instance one (Some origin) is =
          ap (option_and_then (led_by at.path origin)) (shown_before are instance.unit (one.called origin is))

      by : (o : Option Instance) → slice_get (instances_of units entry) at.instance ≡ o → option_and_then (from W') o ≡ option_and_then (from W) o
      by None is = refl
      by (Some instance) is = by_origin instance (low at.instance instance is) instance.origin refl

  within_next : (d : ℕ) (at : Location) → ((next : Location) → home_within W' d next ≡ home_within W d next) → (o : Option Location) →
      unwrap_or (option_map (home_within W' d) o) at ≡ unwrap_or (option_map (home_within W d) o) at
  within_next d at deeper None = refl
  within_next d at deeper (Some next) = deeper next

  within_same : (d : ℕ) (at : Location) → home_within W' d at ≡ home_within W d at
  within_same zero at = refl
  within_same (suc d) at = ap (λ o. unwrap_or (option_map (home_within W' d) o) at) (led_same at) ∙ within_next d at (within_same d) (led W at)

  depth_same : (i : ℕ) → depth_at W' i ≡ depth_at W i
  depth_same i = ap (λ instances. unwrap_or (option_map (λ (instance : Instance). instance.depth) (slice_get instances i)) 0) instances_same

  pub home_same : (at : Location) → home W' at ≡ home W at
  home_same at = ap (λ d. home_within W' d at) (depth_same at.instance) ∙ within_same (depth_at W at.instance) at

  -- ---- what is seen

  vars_many : (i : ℕ) → length (vars_at W' i) ≡ length (vars_at W i)
  vars_many i = ⊎_elim (λ same. ap many same) (λ pair. ap many pair.1 ∙ lent_many unit.vars ∙ sym (ap many pair.0)) (both_units i)
    where
      many : Option UnitDef → ℕ
      many o = length (unwrap_or (option_map (λ (unit : UnitDef). unit.vars) o) [])

  variable_same : (values : Frame → List Value) (store : Store) (i k : ℕ) → variable_among values W' store i k ≡ variable_among values W store i k
  variable_same values store i k = ap (λ at. unwrap_or (value_among values store at) (Parts [])) (home_same (whole_of i k))

  pub view_same : (store : Store) (i : ℕ) → view_at W' store i ≡ view_at W store i
  view_same store i =
      λ j. record {
        now = map (λ k. variable_same (λ frame. frame.now) store i k j) (range_with_len 0 (vars_many i j));
        before = map (λ k. variable_same (λ frame. frame.before) store i k j) (range_with_len 0 (vars_many i j));
      }

  -- ---- what is cleared

  origin_same : (k : ℕ) → origin_at W' k ≡ origin_at W k
  origin_same k = ap (λ instances. option_and_then (λ (instance : Instance). instance.origin) (slice_get instances k)) instances_same

  under_next : (d j : ℕ) → ((k : ℕ) → is_under W' d j k ≡ is_under W d j k) → (o : Option Origin) →
      unwrap_or (option_map (λ (origin : Origin). is_under W' d j origin.caller) o) false
      ≡ unwrap_or (option_map (λ (origin : Origin). is_under W d j origin.caller) o) false
  under_next d j deeper None = refl
  under_next d j deeper (Some origin) = deeper origin.caller

  under_same : (d j k : ℕ) → is_under W' d j k ≡ is_under W d j k
  under_same zero j k = refl
  under_same (suc d) j k =
      ap (λ o. nat_eq k j || unwrap_or (option_map (λ (origin : Origin). is_under W' d j origin.caller) o) false) (origin_same k)
      ∙ ap (λ b. nat_eq k j || b) (under_next d j (under_same d j) (origin_at W k))

  one_cleared : (j : ℕ) (frames : Frames) (k c : ℕ) → cleared W' j frames k c ≡ cleared W j frames k c
  one_cleared j frames k c =
      ap (λ d. if is_under W' d j k then 0 else frames k c) (depth_same k)
      ∙ ap (λ b. if b then 0 else frames k c) (under_same (depth_at W k) j k)

  pub cleared_same : cleared W' ≡ cleared W
  cleared_same = λ i j frames k c. one_cleared j frames k c i
