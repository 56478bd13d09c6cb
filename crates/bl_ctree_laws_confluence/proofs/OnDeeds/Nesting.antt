-- What lies inside a call.
use Rattle.std.proofs.Common.{◌≡◌, ◌⊎◌, inl, inr, ℕ, ◌<◌, ◌≤◌, Bool, true, false, List, [], ◌∷◌, get_or, Option, Some, None, refl, sym, ap}
use Rattle.std.proofs.Common.{◌∙◌, subst, arith, eqb-true}
use Rattle.std.specs.Prelude.{◌-◌, Contains, nat_eq, option_map, slice_get, if◌then◌else◌}
use Rattle.std.proofs.lemmas.List.Quantifiers.{position-Some}
use Rattle.bl_tree.proofs.Basics.{and_first, contains_at, get_within, numbers_differ, one_some}
use Rattle.bl_tree.specs.declared.place.Place.{Place}
use Rattle.bl_tree.specs.declared.static_path.Static.{Static}
use Rattle.bl_tree.specs.declared.tree.StructDef.{StructDef}
use Rattle.bl_tree.specs.declared.tree.Unit.{Unit as UnitDef}
use Rattle.bl_tree.specs.Rules.{same_place}
use Rattle.bl_ctree.specs.declared.instance.Instance.{Instance}
use Rattle.bl_ctree.specs.declared.instance.Origin.{Origin}
use Rattle.bl_ctree.specs.Instances.{Setting, begins_at, callee_of, setting_of}
use Rattle.bl_ctree.specs.Store.{Location, home, is_output_of, led, led_by, under}
use Rattle.bl_ctree_laws_confluence.specs.Deeds.Nesting.{BeginsInstance, Inside, IsOutput, ProgramsNest, deeper, itself}
use Rattle.bl_ctree_laws_confluence.specs.Deeds.Origins.{CalledBy, HasCaller}
use Rattle.bl_ctree_laws_confluence.proofs.OnDeeds.Origins.{homes_lead_out, instances_have_callers_so, led_from, led_to_caller}

-- the instance that a `run` begins
record Begun (w : Setting) (i c : ℕ) : Type 0 where
  instance : Instance
  origin : Origin
  there : slice_get w.instances c ≡ Some instance
  began : instance.origin ≡ Some origin
  by : origin.caller ≡ i

begun : (w : Setting) (i c : ℕ) (place : Place) → callee_of w i place ≡ Some c → Begun w i c
begun w i c place e =
    let d : Instance = record { unit = 0; depth = 0; origin = None } in
    let found = position-Some (λ instance. begins_at i place instance.origin) w.instances c d e in
    by_origin (get_or w.instances c d) (get_within w.instances c d found.0) (get_or w.instances c d).origin refl found.1
  where
    by_origin : (instance : Instance) → slice_get w.instances c ≡ Some instance → (o : Option Origin) → instance.origin ≡ o →
        begins_at i place o ≡ true → Begun w i c
    by_origin instance there None is e = absurd cc
    by_origin instance there (Some origin) is e = record {
      instance = instance;
      origin = origin;
      there = there;
      began = is;
      by = eqb-true origin.caller i (and_first (nat_eq origin.caller i) (same_place origin.place place) e);
    }

-- what an output stands for
record Output (origin : Origin) (path : Static) (next : Location) : Type 0 where
  output : Static
  is_output : Contains origin.outputs output
  leads : next ≡ under origin.caller path.fields output

output_of : (path : Static) (origin : Origin) (unit : UnitDef) (next : Location) → led_by path origin unit ≡ Some next → Output origin path next
output_of path origin unit next e = by_test (is_output_of unit path.root) e
  where
    by_output : (o : Option Static) → slice_get origin.outputs (path.root - unit.inputs) ≡ o →
        option_map (under origin.caller path.fields) o ≡ Some next →
        Output origin path next
    by_output None there e = absurd cc
    by_output (Some o) there e =
        let same : under origin.caller path.fields o ≡ next = cc in
        record { output = o; is_output = contains_at origin.outputs (path.root - unit.inputs) o there; leads = sym same }

    by_test : (b : Bool) →
        (if b then option_map (under origin.caller path.fields) (slice_get origin.outputs (path.root - unit.inputs)) else None) ≡ Some next →
        Output origin path next
    by_test true e = by_output (slice_get origin.outputs (path.root - unit.inputs)) refl e
    by_test false e = absurd cc

module _ (structs : List StructDef) (units : List UnitDef) (entry : ℕ) where
  abbrev W : Setting
  W = setting_of structs units entry

  callee_later : (i c : ℕ) (place : Place) → BeginsInstance structs units entry i place c → i < c
  callee_later i c place runs =
      let b = begun W i c place runs in
      let called : CalledBy units W.instances c b.instance b.origin =
      subst (HasCaller units entry W.instances c b.instance) b.began (instances_have_callers_so units entry c b.instance b.there) in
      subst (λ i. i < c) b.by called.earlier

  inside_later : (i j : ℕ) → Inside W i j → i ≤ j
  inside_later i j itself = omega arith
  inside_later i k (deeper j place inner runs) =
      let more = inside_later i j inner in let less = callee_later j k place runs in omega arith

  caller_is_one : (i j c : ℕ) (place other : Place) → BeginsInstance structs units entry i place c → BeginsInstance structs units entry j other c → i ≡ j
  caller_is_one i j c place other one two =
      let b = begun W i c place one in
      let d = begun W j c other two in
      let same : b.instance ≡ d.instance = one_some b.instance d.instance (slice_get W.instances c) b.there d.there in
      let origins : b.origin ≡ d.origin = one_some b.origin d.origin b.instance.origin b.began (ap (λ instance. instance.origin) same ∙ d.began) in
      sym b.by ∙ ap (λ origin. origin.caller) origins ∙ d.by

  -- a callee of what is inside d, itself a callee of i, is no callee of i, but d
  not_both : (i c d k : ℕ) (place other : Place) → BeginsInstance structs units entry i place c → BeginsInstance structs units entry i other d → Inside W c k →
      Inside W d k → c ≡ d
  not_both i c d k place other one two itself itself = refl
  not_both i c d k place other one two itself (deeper j inner more runs) =
      let same = caller_is_one i j c place inner one runs in
      let less = callee_later i d other two in
      let after = inside_later d j more in
      absurd (omega arith)
  not_both i c d k place other one two (deeper j inner more runs) itself =
      let same = caller_is_one i j d other inner two runs in
      let less = callee_later i c place one in
      let after = inside_later c j more in
      absurd (omega arith)
  not_both i c d k place other one two (deeper j inner more runs) (deeper j' inner' more' runs') =
      not_both i c d j place other one two more (subst (Inside W d) (caller_is_one j' j k inner' inner runs' runs) more')

  home_is_hidden : (i c k : ℕ) (place : Place) (path : Static) → BeginsInstance structs units entry i place c → Inside W c k →
      nat_eq k (home W (record { instance = i; path = path })).instance ≡ false
  home_is_hidden i c k place path runs inner =
      let less = callee_later i c place runs in
      let after = inside_later c k inner in
      let before = homes_lead_out.no_later structs units entry (record { instance = i; path = path }) in
      numbers_differ k (home W (record { instance = i; path = path })).instance (λ same. omega arith)

  -- where the home of a callee's path leads
  led_to : (i c : ℕ) (place : Place) (path : Static) → BeginsInstance structs units entry i place c → (next : Location) →
      led W (record { instance = c; path = path }) ≡ Some next → next.instance ≡ i
  led_to i c place path runs next e =
      let b = begun W i c place runs in
      let d = led_from W (record { instance = c; path = path }) next e in
      let same : d.instance ≡ b.instance = one_some d.instance b.instance (slice_get W.instances c) d.there b.there in
      let origins : d.origin ≡ b.origin = one_some d.origin b.origin d.instance.origin d.began (ap (λ instance. instance.origin) same ∙ b.began) in
      led_to_caller path d.origin d.unit next d.leads ∙ ap (λ origin. origin.caller) origins ∙ b.by

  output_home : (i c : ℕ) (place : Place) (path : Static) → BeginsInstance structs units entry i place c → (next : Location) →
      led W (record { instance = c; path = path }) ≡ Some next → IsOutput W i c (record { instance = c; path = path })
  output_home i c place path runs next e =
      let d = led_from W (record { instance = c; path = path }) next e in
      let o = output_of path d.origin d.unit next d.leads in
      let caller : d.origin.caller ≡ i = sym (led_to_caller path d.origin d.unit next d.leads) ∙ led_to i c place path runs next e in
      record {
        instance = d.instance;
        origin = d.origin;
        there = d.there;
        began = d.began;
        output = o.output;
        is_output = o.is_output;
        fields = path.fields;
        leads =
            homes_lead_out.out structs units entry (record { instance = c; path = path }) next e
            ∙ ap (home W) (o.leads ∙ ap (λ caller. under caller path.fields o.output) caller);
      }

  abbrev There : ℕ → ℕ → ℕ → Static → Type 0
  There i c k path =
      Inside W c (home W (record { instance = k; path = path })).instance ⊎ IsOutput W i c (record { instance = k; path = path })

  own_there : (i c k : ℕ) (path : Static) → Inside W c k → led W (record { instance = k; path = path }) ≡ None → There i c k path
  own_there i c k path inner e =
      inl (subst (λ at. Inside W c at.instance) (sym (homes_lead_out.own W (record { instance = k; path = path }) e)) inner)

  -- a home that leads to that of another path of what is inside
  passed_on : (i c k : ℕ) (path : Static) (next : Location) → home W (record { instance = k; path = path }) ≡ home W next →
      There i c next.instance next.path → There i c k path
  passed_on i c k path next same (inl inner) = inl (subst (λ at. Inside W c at.instance) (sym same) inner)
  passed_on i c k path next same (inr out) = inr (record {
    instance = out.instance;
    origin = out.origin;
    there = out.there;
    began = out.began;
    output = out.output;
    is_output = out.is_output;
    fields = out.fields;
    leads = same ∙ out.leads;
  })

  homes_there : (i c k : ℕ) (place : Place) (path : Static) → BeginsInstance structs units entry i place c → Inside W c k → There i c k path
  homes_there i c k place path runs itself = by_led (led W (record { instance = k; path = path })) refl
    where
      by_led : (next : Option Location) → led W (record { instance = k; path = path }) ≡ next → There i k k path
      by_led None e = own_there i k k path itself e
      by_led (Some next) e = inr (output_home i k place path runs next e)
  homes_there i c k place path runs (deeper j inner more began) =
      by_led (λ path. homes_there i c j place path runs more) (led W (record { instance = k; path = path })) refl
    where
      by_led : ((path : Static) → There i c j path) → (next : Option Location) → led W (record { instance = k; path = path }) ≡ next →
          There i c k path
      by_led inside None e = own_there i c k path (deeper j inner more began) e
      by_led inside (Some next) e =
          passed_on i c k path next (homes_lead_out.out structs units entry (record { instance = k; path = path }) next e)
          (subst (λ j. There i c j next.path) (sym (led_to j k inner path began next e)) (inside next.path))

pub programs_nest : ProgramsNest
programs_nest structs units entry = record {
  later = callee_later structs units entry;
  inside = inside_later structs units entry;
  one_caller = caller_is_one structs units entry;
  apart = not_both structs units entry;
  hidden = home_is_hidden structs units entry;
  homes = homes_there structs units entry;
}
