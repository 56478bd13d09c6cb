-- The outputs of what a `run` begins lead to those of the `run`.
use Rattle.std.proofs.Common.{◌≡◌, ℕ, ◌+◌, ◌-◌, ◌<◌, Bool, true, false, ◌&&◌}
use Rattle.std.proofs.Common.{List, [], ◌∷◌, map, get_or}
use Rattle.std.proofs.Common.{Option, Some, None, refl, sym, ap, ◌∙◌, subst, arith, append-nil, eqb-true, eq-eqb}
use Rattle.std.proofs.Math.Logic.{∥∥₁_elim}
use mathlib.Core.Bool.{Bool-set}
use Rattle.std.proofs.lemmas.Bool.{le-leb, lt-ltb}
use Rattle.std.proofs.lemmas.List.Quantifiers.{position-Some}
use Rattle.std.specs.Prelude.{Contains, IsTrue, nat_eq, nat_le, nat_lt, option_and_then, option_map, slice_get, if◌then◌else◌}
use Rattle.std.proofs.lemmas.Bool.{and_from}
use Rattle.bl_tree.proofs.Basics.{and_first, and_second, contains_at, get_within, one_some}
use Rattle.bl_tree.specs.declared.place.Place.{Place}
use Rattle.bl_tree.specs.declared.static_path.Static.{Static}
use Rattle.bl_tree.specs.declared.tree.Path.{Path}
use Rattle.bl_tree.specs.declared.tree.Stmt.{Stmt}
use Rattle.bl_tree.specs.declared.tree.StructDef.{StructDef}
use Rattle.bl_tree.specs.declared.tree.Unit.{Unit as UnitDef}
use Rattle.bl_tree.specs.Program.{IsWellTyped}
use Rattle.bl_tree.specs.Rules.{same_place}
use Rattle.bl_tree.specs.Static.{static_of, whole}
use Rattle.bl_tree.specs.Within.{StandsIn, is_run, place_of}
use Rattle.bl_tree.proofs.FirstLemmas.{same_true}
use Rattle.bl_graph_nodes.specs.Plain.{plain_body}
use Rattle.bl_ctree.specs.declared.instance.Instance.{Instance}
use Rattle.bl_ctree.specs.declared.instance.Origin.{Origin}
use Rattle.bl_ctree.specs.Instances.{Setting, begins_at, callee_of, setting_of, unit_at, unit_of}
use Rattle.bl_ctree.specs.Store.{home, is_output_of, led, led_by, under, whole_of}
use Rattle.bl_ctree_laws_confluence.specs.Deeds.Origins.{CalledBy, HasCaller, HomesLeadOut, InstancesHaveCallers}
use Rattle.bl_ctree_laws_confluence.specs.Apart.Outputs.{RunsWith}
use Rattle.bl_ctree_laws_confluence.specs.Apart.Owned.{SomeIn}
use Rattle.bl_ctree_laws_confluence.proofs.OnApart.Running.{outputs_of, run_found}
use Rattle.bl_ctree_laws_confluence.proofs.OnApart.Outputs.{RunAs, unit_listed}
use Rattle.bl_machine_pass_laws_execution.specs.Kept.Outputs.{OutputsLead, OutputsLeadIn}
use Rattle.bl_machine_pass_laws_execution.proofs.OnFresh.Lists.{get_mapped}
use Rattle.bl_ctree_laws_traces.proofs.OnReady.Numbering.{same_list, lists_same, list_itself}

-- ---- the same paths, as a test

abbrev same_paths : List Static → List Static → Bool
same_paths [] [] = true
same_paths [] (q ∷ qs) = false
same_paths (p ∷ ps) [] = false
same_paths (p ∷ ps) (q ∷ qs) = (nat_eq p.root q.root && same_list p.fields q.fields) && same_paths ps qs

path_so : (p q : Static) → (nat_eq p.root q.root && same_list p.fields q.fields) ≡ true → p ≡ q
path_so p q e =
    let roots = eqb-true p.root q.root (and_first (nat_eq p.root q.root) (same_list p.fields q.fields) e) in
    let fields = lists_same p.fields q.fields (and_second (nat_eq p.root q.root) (same_list p.fields q.fields) e) in
    λ i. record { root = roots i; fields = fields i }

paths_so : (ps qs : List Static) → same_paths ps qs ≡ true → ps ≡ qs
paths_so [] [] e = refl
paths_so [] (q ∷ qs) e = absurd cc
paths_so (p ∷ ps) [] e = absurd cc
paths_so (p ∷ ps) (q ∷ qs) e =
    let one : Bool = nat_eq p.root q.root && same_list p.fields q.fields in
    ap (λ o. o ∷ ps) (path_so p q (and_first one (same_paths ps qs) e))
    ∙ ap (λ os. q ∷ os) (paths_so ps qs (and_second one (same_paths ps qs) e))

paths_same : (ps : List Static) → same_paths ps ps ≡ true
paths_same [] = refl
paths_same (p ∷ ps) =
    and_from (nat_eq p.root p.root && same_list p.fields p.fields) (same_paths ps ps)
    (and_from (nat_eq p.root p.root) (same_list p.fields p.fields) (eq-eqb p.root p.root refl) (list_itself p.fields)) (paths_same ps)

-- ---- what a `run` begins

record Begun (w : Setting) (i c : ℕ) (place : Place) : Type 0 where
  instance : Instance
  origin : Origin
  there : slice_get w.instances c ≡ Some instance
  began : instance.origin ≡ Some origin
  by : origin.caller ≡ i
  at : origin.place ≡ place

begun : (w : Setting) (i c : ℕ) (place : Place) → callee_of w i place ≡ Some c → Begun w i c place
begun w i c place e =
    let d : Instance = record { unit = 0; depth = 0; origin = None } in
    let found = position-Some (λ instance. begins_at i place instance.origin) w.instances c d e in
    by_origin (get_or w.instances c d) (get_within w.instances c d found.0) (get_or w.instances c d).origin refl found.1
  where
    by_origin : (instance : Instance) → slice_get w.instances c ≡ Some instance → (o : Option Origin) → instance.origin ≡ o →
        begins_at i place o ≡ true → Begun w i c place
    by_origin instance there None is e = absurd cc
    by_origin instance there (Some origin) is e = record {
      instance = instance;
      origin = origin;
      there = there;
      began = is;
      by = eqb-true origin.caller i (and_first (nat_eq origin.caller i) (same_place origin.place place) e);
      at = same_true origin.place place (and_second (nat_eq origin.caller i) (same_place origin.place place) e);
    }

module _ (callers : InstancesHaveCallers) (out : HomesLeadOut) (structs : List StructDef) (units : List UnitDef) (entry : ℕ)
    (keeps : IsWellTyped structs units entry) where
  abbrev W : Setting
  W = setting_of structs units entry

  -- `run` statements of one place have the same outputs
  same_outputs : (unit : UnitDef) (s t : Stmt) → Contains units unit → StandsIn unit.body s → StandsIn unit.body t →
      IsTrue (is_run s) → IsTrue (is_run t) → place_of s ≡ place_of t → map static_of (outputs_of s) ≡ map static_of (outputs_of t)
  same_outputs unit s t is_there one two runs runs' places =
      paths_so (map static_of (outputs_of s)) (map static_of (outputs_of t))
      (∥∥₁_elim (keeps.runs_decide.same s t (record { unit = unit; is_there = is_there; stands = one })
      (record { unit = unit; is_there = is_there; stands = two }) runs runs' places) (Bool-set _ _)
      (λ same. ap (λ s. same_paths (map static_of (outputs_of s)) (map static_of (outputs_of t))) same
      ∙ paths_same (map static_of (outputs_of t))))

  begun_outputs : (i j : ℕ) (place : Place) (outputs : List Path) (unit : UnitDef) → unit_at W i ≡ Some unit →
      SomeIn (RunsWith place outputs) (plain_body unit.body) → (b : Begun W i j place) → b.origin.outputs ≡ map static_of outputs
  begun_outputs i j place outputs unit is some b =
      let called : CalledBy units W.instances j b.instance b.origin =
      subst (HasCaller units entry W.instances j b.instance) b.began (callers units entry j b.instance b.there) in
      let caller : unit_at W i ≡ Some called.unit =
      subst (λ i. unit_at W i ≡ Some called.unit) b.by (ap (option_and_then (unit_of W)) called.there ∙ called.body) in
      let same : called.unit ≡ unit = one_some called.unit unit (unit_at W i) caller is in
      let there : Contains units unit = subst (Contains units) same (contains_at units called.caller.unit called.unit called.body) in
      let listed : RunAs (StandsIn unit.body) called.run =
      subst (λ unit. RunAs (StandsIn unit.body) called.run) same (unit_listed called.unit called.run called.runs) in
      let stands = run_found (λ at paths. (at ≡ place) × (paths ≡ outputs)) unit.body [] some in
      let places : place_of listed.statement ≡ place_of stands.statement = listed.placed ∙ sym called.place ∙ b.at ∙ sym stands.holds.0 in
      called.outputs
      ∙ sym listed.outs
      ∙ same_outputs unit listed.statement stands.statement there listed.among stands.stands listed.runs stands.runs places
      ∙ ap (map static_of) stands.holds.1

  is_output : (other : UnitDef) (k : ℕ) → k < other.outputs → is_output_of other (other.inputs + k) ≡ true
  is_output other k less =
      and_from (nat_le other.inputs (other.inputs + k)) (nat_lt (other.inputs + k) (other.inputs + other.outputs))
      (le-leb other.inputs (other.inputs + k) (omega arith))
      (lt-ltb (other.inputs + k) (other.inputs + other.outputs) (omega (arith, less)))

  leads : (i j k : ℕ) (place : Place) (outputs : List Path) (unit other : UnitDef) (path : Path) → unit_at W i ≡ Some unit →
      unit_at W j ≡ Some other → SomeIn (RunsWith place outputs) (plain_body unit.body) → callee_of W i place ≡ Some j →
      k < other.outputs → slice_get outputs k ≡ Some path →
      home W (whole_of j (other.inputs + k)) ≡ home W (record { instance = i; path = static_of path })
  leads i j k place outputs unit other path is called some runs less got =
      out.out structs units entry (whole_of j n) (under b.origin.caller [] (static_of path)) led_so
      ∙ ap (home W) (ap (λ caller. under caller [] (static_of path)) b.by
      ∙ ap (λ fields. record { instance = i; path = record { root = (static_of path).root; fields = fields } })
      (append-nil (static_of path).fields))
    where
      n : ℕ
      n = other.inputs + k

      b : Begun W i j place
      b = begun W i j place runs

      from_first : n - other.inputs ≡ k
      from_first = omega arith

      output : slice_get b.origin.outputs (n - other.inputs) ≡ Some (static_of path)
      output =
          ap (slice_get b.origin.outputs) from_first
          ∙ ap (λ paths. slice_get paths k) (begun_outputs i j place outputs unit is some b)
          ∙ get_mapped static_of outputs k
          ∙ ap (option_map static_of) got

      of_unit : unit_of W b.instance ≡ Some other
      of_unit = sym (ap (option_and_then (unit_of W)) b.there) ∙ called

      by_origin : led_by (whole n) b.origin other ≡ Some (under b.origin.caller [] (static_of path))
      by_origin =
          ap (λ t. if t then option_map (under b.origin.caller []) (slice_get b.origin.outputs (n - other.inputs)) else None)
          (is_output other k less)
          ∙ ap (option_map (under b.origin.caller [])) output

      led_so : led W (whole_of j n) ≡ Some (under b.origin.caller [] (static_of path))
      led_so =
          ap (option_and_then (λ instance. option_and_then (λ origin. option_and_then (led_by (whole n) origin) (unit_of W instance))
          instance.origin)) b.there
          ∙ ap (option_and_then (λ origin. option_and_then (led_by (whole n) origin) (unit_of W b.instance))) b.began
          ∙ ap (option_and_then (led_by (whole n) b.origin)) of_unit
          ∙ by_origin

  pub leads_in : OutputsLeadIn structs units entry
  leads_in = record {
    begun = λ i j place outputs unit instance origin is some runs there began.
        let b = begun W i j place runs in
        let same : b.instance ≡ instance = one_some b.instance instance (slice_get W.instances j) b.there there in
        let origins : b.origin ≡ origin = one_some b.origin origin b.instance.origin b.began (ap (λ instance. instance.origin) same ∙ began) in
        ap (λ origin. origin.outputs) (sym origins) ∙ begun_outputs i j place outputs unit is some b;
    homes = leads;
  }

pub outputs_lead : InstancesHaveCallers → HomesLeadOut → OutputsLead
outputs_lead callers out structs units entry keeps = leads_in callers out structs units entry keeps
