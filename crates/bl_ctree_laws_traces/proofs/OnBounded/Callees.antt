-- The instance that a `run` of a body begins is of the unit that it names, and units run earlier ones.
use Rattle.std.proofs.Common.{◌≡◌, ℕ, zero, suc, ◌<◌, Bool, true, ◌&&◌, inl, inr, List, [], ◌∷◌, ◌++◌, append_assoc, append-nil, map, take, length}
use Rattle.std.proofs.Common.{get_or, Option, Some, None, refl, sym, ap, ◌∙◌, subst, arith, eqb-true}
use Rattle.std.specs.List.{list_all}
use Rattle.std.specs.Prelude.{Contains, nat_eq, option_and_then, slice_get}
use Rattle.std.proofs.lemmas.List.Quantifiers.{position-Some}
use Rattle.bl_tree.proofs.Basics.{all_of_each, and_first, and_second, contains_at, get_within, same_some}
use Rattle.bl_tree.specs.declared.tree.StructDef.{StructDef}
use Rattle.bl_tree.specs.declared.tree.Unit.{Unit as UnitDef}
use Rattle.bl_tree.specs.Apart.{is_apart}
use Rattle.bl_tree.specs.Depths.{is_shallow}
use Rattle.bl_tree.specs.Program.{IsWellTyped, names_of, parameters_of, roles_stand, unit_stands, units_stand_after}
use Rattle.bl_tree.specs.Reduce.{all_of, joined}
use Rattle.bl_tree.specs.Returns.{unit_returns}
use Rattle.bl_tree.specs.Rules.{same_place}
use Rattle.bl_tree.specs.Types.{type_stands}
use Rattle.bl_tree.specs.Typing.{fits, site_of}
use Rattle.bl_tree.specs.Within.{StandsIn}
use Rattle.bl_tree.specs.Words.{are_distinct, is_name}
use Rattle.bl_graph_nodes.specs.Plain.{plain_body}
use Rattle.bl_ctree.specs.declared.instance.Instance.{Instance}
use Rattle.bl_ctree.specs.declared.instance.Origin.{Origin}
use Rattle.bl_ctree.specs.declared.instance.Run.{Run}
use Rattle.bl_ctree.specs.Instances.{Setting, begins_at, runs_in, runs_of, setting_of, unit_at, unit_of}
use Rattle.bl_ctree_laws.specs.Trees.{Call}
use Rattle.bl_ctree_laws_confluence.specs.Deeds.Origins.{CalledBy, HasCaller, InstancesHaveCallers}
use Rattle.bl_ctree_laws_confluence.proofs.OnDeeds.Activities.{AllOf}
use Rattle.bl_ctree_laws_confluence.proofs.OnApart.Placed.{RunAs, runs_listed, same_unit}
use Rattle.bl_ctree_laws_confluence.proofs.OnApart.Members.{in_map}
use Rattle.bl_ctree_laws_traces.proofs.OnProgress.Earlier.{RunsUnit, body_runs}
use Rattle.bl_ctree_laws_traces.proofs.OnBounded.ByPlace.{once_among}
use Rattle.bl_ctree_laws_traces.proofs.OnBounded.Calls.{CalleesAreNamed, calls_in, run_of}
use Rattle.bl_ctree_laws_traces.proofs.OnBounded.Listed.{CallsEarlier}
use Rattle.bl_tree.proofs.FirstLemmas.{same_true, In, contains_in}

-- ---- typed bodies, unit by unit

body_typed : (structs : List StructDef) (earlier : List UnitDef) (unit : UnitDef) → unit_stands structs earlier unit ≡ true →
    all_of (map (fits (site_of structs earlier unit)) unit.body) ≡ true
body_typed structs earlier unit stands =
    let named : Bool = list_all is_name (names_of unit.vars) && are_distinct (names_of (parameters_of unit)) in
    let types : Bool = list_all (λ var. type_stands (length structs) var.ty) unit.vars in
    let fit : Bool = list_all (fits (site_of structs earlier unit)) unit.body in
    let flat : Bool = is_shallow 200 unit.body in
    let apart : Bool = list_all is_apart unit.body in
    all_of_each (fits (site_of structs earlier unit)) unit.body
    (and_first fit (unit_returns unit && (flat && apart))
    (and_second types (fit && (unit_returns unit && (flat && apart)))
    (and_second (roles_stand unit && named) (types && (fit && (unit_returns unit && (flat && apart)))) stands)))

pub typed_at : (structs : List StructDef) (earlier units : List UnitDef) (k : ℕ) (unit : UnitDef) → units_stand_after structs earlier units ≡ true →
    slice_get units k ≡ Some unit → all_of (map (fits (site_of structs (earlier ++ take k units) unit)) unit.body) ≡ true
typed_at structs earlier [] k unit stand there = absurd cc
typed_at structs earlier (first ∷ units) zero unit stand there =
    let same : first ≡ unit = cc in
    subst (λ earlier. all_of (map (fits (site_of structs earlier unit)) unit.body) ≡ true) (sym (append-nil earlier))
    (subst (λ unit. all_of (map (fits (site_of structs earlier unit)) unit.body) ≡ true) same
    (body_typed structs earlier first (and_first (unit_stands structs earlier first) (units_stand_after structs (earlier ++ first ∷ []) units) stand)))
typed_at structs earlier (first ∷ units) (suc k) unit stand there =
    subst (λ earlier. all_of (map (fits (site_of structs earlier unit)) unit.body) ≡ true) (append_assoc earlier (first ∷ []) (take k units))
    (typed_at structs (earlier ++ first ∷ []) units k unit
    (and_second (unit_stands structs earlier first) (units_stand_after structs (earlier ++ first ∷ []) units) stand) there)

-- what is found among the first is before them
pub taken_before : (units : List UnitDef) (n k : ℕ) (unit : UnitDef) → slice_get (take n units) k ≡ Some unit → k < n
taken_before [] zero k unit e = absurd cc
taken_before [] (suc n) k unit e = absurd cc
taken_before (u ∷ units) zero k unit e = absurd cc
taken_before (u ∷ units) (suc n) zero unit e = omega arith
taken_before (u ∷ units) (suc n) (suc k) unit e = let more = taken_before units n k unit e in omega arith

-- ---- `run` statements of one place

-- they run one unit
abbrev pub OneUnitEach : UnitDef → Type 0
OneUnitEach unit =
    (one other : Run) → In one (joined (map runs_in unit.body)) → In other (joined (map runs_in unit.body)) → one.place ≡ other.place →
    one.unit ≡ other.unit

-- ---- instances

pub all_among : {A : Type 0} (P : A → Type 0) (xs : List A) (x : A) → AllOf P xs → In x xs → P x
all_among P [] x all at = elim at [ ]
all_among P (y ∷ xs) x all (inl is) = subst P (sym is) all.0
all_among P (y ∷ xs) x all (inr at) = all_among P xs x all.1 at

-- the calls of the plain body of each unit are its `run` statements
abbrev pub CallsAreRuns : List UnitDef → Type 0
CallsAreRuns units =
    (k : ℕ) (unit : UnitDef) → slice_get units k ≡ Some unit → map run_of (calls_in (plain_body unit.body)) ≡ joined (map runs_in unit.body)

pub calls_earlier : (structs : List StructDef) (units : List UnitDef) → units_stand_after structs [] units ≡ true → CallsAreRuns units →
    CallsEarlier units
calls_earlier structs units stand are k unit s there at =
    let run = all_among (RunsUnit (take k units)) (joined (map runs_in unit.body)) (run_of s)
    (body_runs (site_of structs (take k units) unit) unit.body (typed_at structs [] units k unit stand there))
    (subst (In (run_of s)) (are k unit there) (in_map run_of s (calls_in (plain_body unit.body)) at)) in
    taken_before units k s.unit run.callee run.there

pub one_unit_each : (structs : List StructDef) (units : List UnitDef) (entry : ℕ) → IsWellTyped structs units entry → (k : ℕ) (unit : UnitDef) →
    slice_get units k ≡ Some unit → OneUnitEach unit
one_unit_each structs units entry keeps k unit there one other at at' places =
    let first = all_among (RunAs (StandsIn unit.body)) (joined (map runs_in unit.body)) one (runs_listed unit) at in
    let second = all_among (RunAs (StandsIn unit.body)) (joined (map runs_in unit.body)) other (runs_listed unit) at' in
    sym first.names
    ∙ same_unit structs units entry keeps unit first.statement second.statement (contains_at units k unit there) first.among second.among first.runs
    second.runs (first.placed ∙ places ∙ sym second.placed)
    ∙ second.names

module _ (callers : InstancesHaveCallers) (structs : List StructDef) (units : List UnitDef) (entry : ℕ)
    (one_unit : (k : ℕ) (unit : UnitDef) → slice_get units k ≡ Some unit → OneUnitEach unit) (are : CallsAreRuns units) where
  abbrev W : Setting
  W = setting_of structs units entry

  -- the unit of an instance is one of the program's
  record UnitAt (i : ℕ) (unit : UnitDef) : Type 0 where
    number : ℕ
    there : slice_get units number ≡ Some unit

  unit_found : (i : ℕ) (unit : UnitDef) → unit_at W i ≡ Some unit → UnitAt i unit
  unit_found i unit e = by_instance (slice_get W.instances i) e
    where
      by_instance : (found : Option Instance) → option_and_then (unit_of W) found ≡ Some unit → UnitAt i unit
      by_instance None e = absurd cc
      by_instance (Some instance) e = record { number = instance.unit; there = e }

  by_call : (i : ℕ) (caller : UnitDef) (s : Call) (callee : ℕ) (instance : Instance) (origin : Origin) → unit_at W i ≡ Some caller →
      In s (calls_in (plain_body caller.body)) → slice_get W.instances callee ≡ Some instance → origin.caller ≡ i → origin.place ≡ s.place →
      CalledBy units W.instances callee instance origin → slice_get units s.unit ≡ unit_at W callee
  by_call i caller s callee instance origin found at there by is called =
      let calling : unit_at W origin.caller ≡ Some called.unit = ap (option_and_then (unit_of W)) called.there ∙ called.body in
      let same : called.unit ≡ caller = same_some called.unit caller (sym calling ∙ ap (unit_at W) by ∙ found) in
      let one = unit_found i caller found in
      let runs : List Run = joined (map runs_in caller.body) in
      let run_there : In called.run runs =
      once_among runs called.run (contains_in called.run (runs_of caller) (subst (λ u. Contains (runs_of u) called.run) same called.runs)) in
      let call_there : In (run_of s) runs =
      subst (In (run_of s)) (are one.number caller one.there) (in_map run_of s (calls_in (plain_body caller.body)) at) in
      let equal : s.unit ≡ called.run.unit = one_unit one.number caller one.there (run_of s) called.run call_there run_there (sym is ∙ called.place) in
      ap (slice_get units) (equal ∙ sym called.names) ∙ sym (ap (option_and_then (unit_of W)) there)

  pub callees_are_named : CalleesAreNamed W
  callees_are_named i caller s callee found at begins =
      let d : Instance = record { unit = 0; depth = 0; origin = None } in
      let position = position-Some (λ instance. begins_at i s.place instance.origin) W.instances callee d begins in
      by_origin (get_or W.instances callee d) (get_within W.instances callee d position.0) (get_or W.instances callee d).origin refl position.1
    where
      by_origin : (instance : Instance) → slice_get W.instances callee ≡ Some instance → (o : Option Origin) → instance.origin ≡ o →
          begins_at i s.place o ≡ true → slice_get units s.unit ≡ unit_at W callee
      by_origin instance there None is e = absurd cc
      by_origin instance there (Some origin) is e =
          by_call i caller s callee instance origin found at there
          (eqb-true origin.caller i (and_first (nat_eq origin.caller i) (same_place origin.place s.place) e))
          (same_true origin.place s.place (and_second (nat_eq origin.caller i) (same_place origin.place s.place) e))
          (subst (HasCaller units entry W.instances callee instance) is (callers units entry callee instance there))
