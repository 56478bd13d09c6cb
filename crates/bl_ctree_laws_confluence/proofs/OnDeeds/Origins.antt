-- Who called an instance, and that homes lead out to callers.
use Rattle.std.proofs.Common.{◌≡◌, ◌⊎◌, inl, inr, ⊎_elim, ℕ, zero, suc, ◌+◌, ◌<◌, ◌≤◌, Bool, true, false, List, [], ◌∷◌, ◌++◌, map, length, Option, Some, None}
use Rattle.std.proofs.Common.{refl, sym, ap, ◌∙◌, subst, append_assoc, arith}
use Rattle.std.specs.Prelude.{◌-◌, Contains, option_and_then, option_map, slice_get, unwrap_or, if◌then◌else◌}
use Rattle.std.proofs.lemmas.List.{length-append}
use Rattle.bl_tree.proofs.Basics.{get_in_front, get_mapped, get_of_map}
use Rattle.bl_tree.specs.declared.static_path.Static.{Static}
use Rattle.bl_tree.specs.declared.tree.StructDef.{StructDef}
use Rattle.bl_tree.specs.declared.tree.Unit.{Unit as UnitDef}
use Rattle.bl_ctree.specs.declared.instance.Instance.{Instance}
use Rattle.bl_ctree.specs.declared.instance.Origin.{Origin}
use Rattle.bl_ctree.specs.declared.instance.Run.{Run}
use Rattle.bl_ctree.specs.Instances.{Setting, called_from, expanded, instances_below, origin_under, runs_of, setting_of, unit_of}
use Rattle.bl_ctree.specs.Store.{Location, depth_at, home, home_within, is_output_of, led, led_by, under}
use Rattle.bl_ctree_laws_confluence.specs.Deeds.Origins.{CalledBy, HasCaller, HomesLeadOut, InstancesHaveCallers}
use Rattle.bl_ctree_laws_confluence.proofs.OnDeeds.Activities.{AllOf}

-- ---- elements of lists

pub get_split : {A : Type 0} (xs ys : List A) (m : ℕ) (x : A) → slice_get (xs ++ ys) m ≡ Some x →
    (slice_get xs m ≡ Some x) ⊎ ((k : ℕ) × (m ≡ length xs + k) × (slice_get ys k ≡ Some x))
get_split [] ys m x e = inr (m, omega arith, e)
get_split (z ∷ xs) ys zero x e = inl e
get_split (z ∷ xs) ys (suc m) x e =
    ⊎_elim (λ here. inl here) (λ there. let is = there.1 in inr (there.0, omega arith, there.2)) (get_split xs ys m x e)

pub get_second : {A : Type 0} (xs ys : List A) (m k : ℕ) (x : A) → m ≡ length xs + k → slice_get ys k ≡ Some x → slice_get (xs ++ ys) m ≡ Some x
get_second [] ys m k x is e = let same : k ≡ m = omega arith in subst (λ m. slice_get ys m ≡ Some x) same e
get_second (z ∷ xs) ys zero k x is e = absurd (omega arith)
get_second (z ∷ xs) ys (suc m) k x is e = get_second xs ys m k x (omega arith) e

all_members : {A : Type 0} (P : A → Type 0) (xs : List A) → ((x : A) → Contains xs x → P x) → AllOf P xs
all_members P [] each = tt
all_members P (x ∷ xs) each =
    (each x (zero, omega arith, refl), all_members P xs (λ y there. let below = there.1 in each y (suc there.0, omega arith, there.2)))

-- ---- instances

-- each instance of the list is called
abbrev Stands : List UnitDef → ℕ → List Instance → Type 0
Stands units entry instances = (i : ℕ) (instance : Instance) → slice_get instances i ≡ Some instance →
    HasCaller units entry instances i instance instance.origin

module _ (units : List UnitDef) (k : ℕ) (alone : ℕ → List Instance) (inner_stand : (j : ℕ) → Stands units j (alone j)) (root : Instance)
    (unit : UnitDef)
    (shallow : root.depth ≡ 0) (body : slice_get units root.unit ≡ Some unit) (whole : List Instance) (at_root : slice_get whole 0 ≡ Some root) where
  -- an instance that a `run` of the unit begins, or one below it
  called_in : (run : Run) → Contains (runs_of unit) run → (pre later : List Instance) (n m : ℕ) → length pre ≡ n →
      whole ≡ pre ++ (map (called_from n run) (alone run.unit) ++ later) → 0 < n → (y : Instance) (o : Option Origin) →
      HasCaller units run.unit (alone run.unit) m y o → HasCaller units k whole (n + m) (called_from n run y) (origin_under n run o)
  called_in run is_there pre later n m long is some y None called =
      record {
        caller = root;
        unit = unit;
        run = run;
        earlier = omega arith;
        there = at_root;
        deeper = ap suc (called.1 ∙ sym shallow);
        body = body;
        runs = is_there;
        place = refl;
        outputs = refl;
        names = called.2;
      }
  called_in run is_there pre later n m long is some y (Some o) called =
      let below = called.earlier in
      record {
        caller = called_from n run called.caller;
        unit = called.unit;
        run = called.run;
        earlier = omega arith;
        there =
            subst (λ all. slice_get all (n + o.caller) ≡ Some (called_from n run called.caller)) (sym is)
            (get_second pre (map (called_from n run) (alone run.unit) ++ later) (n + o.caller) o.caller (called_from n run called.caller)
            (omega arith)
            (get_in_front (map (called_from n run) (alone run.unit)) later o.caller (called_from n run called.caller)
            (get_mapped (called_from n run) (alone run.unit) o.caller called.caller called.there)));
        deeper = ap suc called.deeper;
        body = called.body;
        runs = called.runs;
        place = called.place;
        outputs = called.outputs;
        names = called.names;
      }

  inner_called : (run : Run) → Contains (runs_of unit) run → (pre later : List Instance) (n m : ℕ) → length pre ≡ n →
      whole ≡ pre ++ (map (called_from n run) (alone run.unit) ++ later) → 0 < n → (x : Instance) →
      slice_get (map (called_from n run) (alone run.unit)) m ≡ Some x → HasCaller units k whole (n + m) x x.origin
  inner_called run is_there pre later n m long is some x e =
      let got = get_of_map (called_from n run) (alone run.unit) m x e in
      subst (λ x. HasCaller units k whole (n + m) x x.origin) got.2
      (called_in run is_there pre later n m long is some got.0 got.0.origin (inner_stand run.unit m got.0 got.1))

  below_called : (runs : List Run) → AllOf (Contains (runs_of unit)) runs → (pre : List Instance) (n m : ℕ) → length pre ≡ n →
      whole ≡ pre ++ instances_below alone n runs → 0 < n → (x : Instance) → slice_get (instances_below alone n runs) m ≡ Some x →
      HasCaller units k whole (n + m) x x.origin
  below_called [] all pre n m long is some x e = absurd cc
  below_called (run ∷ rest) all pre n m long is some x e =
      let inner : List Instance = map (called_from n run) (alone run.unit) in
      let later : List Instance = instances_below alone (n + length inner) rest in
      by_split (λ pre' n' m' long' is' some' x e. below_called rest all.1 pre' n' m' long' is' some' x e) (get_split inner later m x e)
    where
      by_split : ((pre : List Instance) (n m : ℕ) → length pre ≡ n → whole ≡ pre ++ instances_below alone n rest → 0 < n → (x : Instance) →
          slice_get (instances_below alone n rest) m ≡ Some x → HasCaller units k whole (n + m) x x.origin) →
          (slice_get (map (called_from n run) (alone run.unit)) m ≡ Some x)
          ⊎ ((j : ℕ) × (m ≡ length (map (called_from n run) (alone run.unit)) + j)
          × (slice_get (instances_below alone (n + length (map (called_from n run) (alone run.unit))) rest) j ≡ Some x)) →
          HasCaller units k whole (n + m) x x.origin
      by_split more (inl here) =
          inner_called run all.0 pre (instances_below alone (n + length (map (called_from n run) (alone run.unit))) rest) n m long is some x here
      by_split more (inr there) =
          let inner : List Instance = map (called_from n run) (alone run.unit) in
          let later : List Instance = instances_below alone (n + length inner) rest in
          let both = length-append pre inner in
          let split = there.1 in
          let index : n + length inner + there.0 ≡ n + m = omega arith in
          subst (λ i. HasCaller units k whole i x x.origin) index
          (more (pre ++ inner) (n + length inner) there.0 (omega arith) (is ∙ sym (append_assoc pre inner later)) (omega arith) x there.2)

-- the instance of the unit itself
abbrev pub first_of : ℕ → Instance
first_of k = record { unit = k; depth = 0; origin = None }

-- what a unit that is found expands to
abbrev pub opened : List UnitDef → ℕ → ℕ → Option UnitDef → List Instance
opened units longest k found = unwrap_or (option_map (λ unit. first_of k ∷ instances_below (expanded units longest) 1 (runs_of unit)) found) []

expanded_stands : (units : List UnitDef) (longest k : ℕ) → Stands units k (expanded units longest k)
expanded_stands units zero k i x e = absurd cc
expanded_stands units (suc longest) k i x e = by_unit (λ j. expanded_stands units longest j) (slice_get units k) refl i e
  where
    by_unit : ((j : ℕ) → Stands units j (expanded units longest j)) → (found : Option UnitDef) → slice_get units k ≡ found → (i : ℕ) →
        slice_get (opened units longest k found) i ≡ Some x → HasCaller units k (opened units longest k found) i x x.origin
    by_unit inner None is i e = absurd cc
    by_unit inner (Some unit) is zero e =
        let same : first_of k ≡ x = cc in
        subst (λ x. HasCaller units k (opened units longest k (Some unit)) 0 x x.origin) same (refl, refl, refl)
    by_unit inner (Some unit) is (suc i) e =
        let one_more : 1 + i ≡ suc i = omega arith in
        subst (λ i. HasCaller units k (opened units longest k (Some unit)) i x x.origin) one_more
        (below_called units k (expanded units longest) inner (first_of k) unit refl is (opened units longest k (Some unit)) refl (runs_of unit)
        (all_members (Contains (runs_of unit)) (runs_of unit) (λ run there. there)) (first_of k ∷ []) 1 i refl refl (omega arith) x e)

pub instances_have_callers_so : InstancesHaveCallers
instances_have_callers_so units entry i instance e = expanded_stands units (entry + 1) entry i instance e

-- ---- homes

-- why a location stands for another one
pub record LedBy (w : Setting) (at next : Location) : Type 0 where
  pub instance : Instance
  pub origin : Origin
  pub unit : UnitDef
  pub there : slice_get w.instances at.instance ≡ Some instance
  pub began : instance.origin ≡ Some origin
  pub of : unit_of w instance ≡ Some unit
  pub leads : led_by at.path origin unit ≡ Some next

pub led_from : (w : Setting) (at next : Location) → led w at ≡ Some next → LedBy w at next
led_from w at next e = by_instance (slice_get w.instances at.instance) refl e
  where
    by_unit : (instance : Instance) → slice_get w.instances at.instance ≡ Some instance → (origin : Origin) → instance.origin ≡ Some origin →
        (unit : Option UnitDef) → unit_of w instance ≡ unit → option_and_then (led_by at.path origin) unit ≡ Some next → LedBy w at next
    by_unit instance there origin began None of e = absurd cc
    by_unit instance there origin began (Some unit) of e =
        record { instance = instance; origin = origin; unit = unit; there = there; began = began; of = of; leads = e }

    by_origin : (instance : Instance) → slice_get w.instances at.instance ≡ Some instance → (origin : Option Origin) → instance.origin ≡ origin →
        option_and_then (λ origin. option_and_then (led_by at.path origin) (unit_of w instance)) origin ≡ Some next → LedBy w at next
    by_origin instance there None began e = absurd cc
    by_origin instance there (Some origin) began e = by_unit instance there origin began (unit_of w instance) refl e

    by_instance : (instance : Option Instance) → slice_get w.instances at.instance ≡ instance →
        option_and_then (λ instance. option_and_then (λ origin. option_and_then (led_by at.path origin) (unit_of w instance)) instance.origin) instance
        ≡ Some next → LedBy w at next
    by_instance None there e = absurd cc
    by_instance (Some instance) there e = by_origin instance there instance.origin refl e

-- it is the caller's
pub led_to_caller : (path : Static) (origin : Origin) (unit : UnitDef) (next : Location) → led_by path origin unit ≡ Some next →
    next.instance ≡ origin.caller
led_to_caller path origin unit next e = by_test (is_output_of unit path.root) e
  where
    by_output : (o : Option Static) → option_map (under origin.caller path.fields) o ≡ Some next → next.instance ≡ origin.caller
    by_output None e = absurd cc
    by_output (Some o) e = let same : under origin.caller path.fields o ≡ next = cc in sym (ap (λ at. at.instance) same)

    by_test : (b : Bool) →
        (if b then option_map (under origin.caller path.fields) (slice_get origin.outputs (path.root - unit.inputs)) else None) ≡ Some next →
        next.instance ≡ origin.caller
    by_test true e = by_output (slice_get origin.outputs (path.root - unit.inputs)) e
    by_test false e = absurd cc

home_of_own : (w : Setting) (depth : ℕ) (at : Location) → led w at ≡ None → home_within w depth at ≡ at
home_of_own w zero at e = refl
home_of_own w (suc depth) at e = ap (λ next. unwrap_or (option_map (home_within w depth) next) at) e

module _ (structs : List StructDef) (units : List UnitDef) (entry : ℕ) where
  abbrev W : Setting
  W = setting_of structs units entry

  called_at : (at next : Location) (d : LedBy W at next) → CalledBy units W.instances at.instance d.instance d.origin
  called_at at next d =
      subst (HasCaller units entry W.instances at.instance d.instance) d.began (instances_have_callers_so units entry at.instance d.instance d.there)

  leads_earlier : (at next : Location) → led W at ≡ Some next → next.instance < at.instance
  leads_earlier at next e =
      let d = led_from W at next e in
      let same = led_to_caller at.path d.origin d.unit next d.leads in
      let less = (called_at at next d).earlier in
      omega arith

  leads_out : (at next : Location) → led W at ≡ Some next → home W at ≡ home W next
  leads_out at next e =
      let d = led_from W at next e in
      let c = called_at at next d in
      let its : depth_at W at.instance ≡ suc c.caller.depth =
      ap (λ instance. unwrap_or (option_map (λ instance. instance.depth) instance) 0) d.there ∙ c.deeper in
      let callers : depth_at W next.instance ≡ c.caller.depth =
      ap (depth_at W) (led_to_caller at.path d.origin d.unit next d.leads)
      ∙ ap (λ instance. unwrap_or (option_map (λ instance. instance.depth) instance) 0) c.there in
      ap (λ depth. home_within W depth at) its ∙ ap (λ next. unwrap_or (option_map (home_within W c.caller.depth) next) at) e
      ∙ ap (λ depth. home_within W depth next) (sym callers)

  within_no_later : (depth : ℕ) (at : Location) → (home_within W depth at).instance ≤ at.instance
  within_no_later zero at = omega arith
  within_no_later (suc depth) at = by_led (λ next. within_no_later depth next) (led W at) refl
    where
      by_led : ((next : Location) → (home_within W depth next).instance ≤ next.instance) → (next : Option Location) → led W at ≡ next →
          (unwrap_or (option_map (home_within W depth) next) at).instance ≤ at.instance
      by_led inner None e = omega arith
      by_led inner (Some next) e = let less = leads_earlier at next e in let more = inner next in omega arith

pub homes_lead_out : HomesLeadOut
homes_lead_out = record {
  own = λ w at e. home_of_own w (depth_at w at.instance) at e;
  out = leads_out;
  earlier = leads_earlier;
  no_later = λ structs units entry at. within_no_later structs units entry (depth_at (setting_of structs units entry) at.instance) at;
}
