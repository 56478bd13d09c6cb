-- In typed programs each `run` begins an instance.
use Rattle.std.proofs.Common.{◌≡◌, ℕ, zero, suc, ◌+◌, ◌<◌, true, ◌++◌, append_assoc, append-nil, List, [], ◌∷◌, map, take, Option, Some}
use Rattle.std.proofs.Common.{None, refl, sym, ap, ◌∙◌, subst, arith}
use Rattle.std.specs.Prelude.{option_and_then, slice_get}
use Rattle.bl_tree.proofs.Basics.{and_first, and_second}
use Rattle.bl_tree.specs.declared.place.Place.{Place}
use Rattle.bl_tree.specs.declared.tree.StructDef.{StructDef}
use Rattle.bl_tree.specs.declared.tree.Unit.{Unit as UnitDef}
use Rattle.bl_tree.specs.Program.{IsWellTyped, unit_stands, units_stand_after}
use Rattle.bl_tree.specs.Reduce.{all_of, joined}
use Rattle.bl_tree.specs.Typing.{TypingContext, fits, site_of}
use Rattle.bl_ctree.specs.declared.instance.Instance.{Instance}
use Rattle.bl_ctree.specs.Instances.{Setting, begins_at, expanded, runs_in, runs_of, setting_of, unit_of}
use Rattle.bl_ctree_laws_confluence.proofs.OnDeeds.Activities.{AllOf, IsActivity, all_at, expanded_so, one_a_place_so}
use Rattle.bl_ctree_laws_confluence.proofs.OnDeeds.Accepted.{entry_is, standing}
use Rattle.bl_ctree_laws_traces.specs.Progress.Accepted.{ProgramsAreCallable}
use Rattle.bl_ctree_laws_traces.specs.Progress.Places.{AllCallable, Calls}
use Rattle.bl_ctree_laws_traces.proofs.OnProgress.Calling.{body_calls}
use Rattle.bl_ctree_laws_traces.proofs.OnProgress.Earlier.{RunsUnit, body_runs}
use Rattle.bl_ctree_laws_traces.proofs.OnProgress.Instances.{AllBegin, Found, SomeBegins, all_more, all_places, expanded_begin, first_at}

unit_stands_at : (structs : List StructDef) (earlier units : List UnitDef) (k : ℕ) (unit : UnitDef) →
    units_stand_after structs earlier units ≡ true → slice_get units k ≡ Some unit → unit_stands structs (earlier ++ take k units) unit ≡ true
unit_stands_at structs earlier [] k unit stand there = absurd cc
unit_stands_at structs earlier (first ∷ units) zero unit stand there =
    let same : first ≡ unit = cc in
    subst (λ earlier. unit_stands structs earlier unit ≡ true) (sym (append-nil earlier))
    (subst (λ unit. unit_stands structs earlier unit ≡ true) same
    (and_first (unit_stands structs earlier first) (units_stand_after structs (earlier ++ first ∷ []) units) stand))
unit_stands_at structs earlier (first ∷ units) (suc k) unit stand there =
    subst (λ earlier. unit_stands structs earlier unit ≡ true) (append_assoc earlier (first ∷ []) (take k units))
    (unit_stands_at structs (earlier ++ first ∷ []) units k unit
    (and_second (unit_stands structs earlier first) (units_stand_after structs (earlier ++ first ∷ []) units) stand) there)

-- what is found among the first is before them
taken : (units : List UnitDef) (n k : ℕ) (unit : UnitDef) → slice_get (take n units) k ≡ Some unit → (slice_get units k ≡ Some unit) × (k < n)
taken [] zero k unit e = absurd cc
taken [] (suc n) k unit e = absurd cc
taken (u ∷ units) zero k unit e = absurd cc
taken (u ∷ units) (suc n) zero unit e = (e, omega arith)
taken (u ∷ units) (suc n) (suc k) unit e = let more = taken units n k unit e in let less = more.1 in (more.0, omega arith)

module _ (structs : List StructDef) (units : List UnitDef) (entry : ℕ) (keeps : IsWellTyped structs units entry) where
  abbrev W : Setting
  W = setting_of structs units entry

  typed_at : (k : ℕ) (unit : UnitDef) → slice_get units k ≡ Some unit → (site : TypingContext) × (site.earlier ≡ take k units)
      × (all_of (map (fits site) unit.body) ≡ true)
  typed_at k unit there = (
    site_of structs (take k units) unit,
    refl,
    (standing structs (take k units) unit (unit_stands_at structs [] units k unit keeps.units_stand there)).typed,
  )

  earlier_at : (k : ℕ) (unit : UnitDef) → slice_get units k ≡ Some unit → AllOf (Found units k) (runs_of unit)
  earlier_at k unit there =
      let t = typed_at k unit there in
      all_more (RunsUnit (take k units)) (Found units k)
      (λ run h. let before = taken units k run.unit h.callee h.there in (h.callee, before.0, before.1)) (runs_of unit)
      (one_a_place_so (RunsUnit (take k units)) (joined (map runs_in unit.body))
      (subst (λ earlier. AllOf (RunsUnit earlier) (joined (map runs_in unit.body))) t.1 (body_runs t.0 unit.body t.2)))

  entry_there : IsActivity units entry
  entry_there = entry_is units entry (slice_get units entry) refl keeps.entry_stands

  instances_are : AllOf (λ instance. IsActivity units instance.unit) (expanded units (entry + 1) entry)
  instances_are = expanded_so units typed_at (entry + 1) entry entry_there

  all_begin : AllBegin units (expanded units (entry + 1) entry)
  all_begin = expanded_begin units earlier_at (entry + 1) entry (omega arith)

  calls : (i : ℕ) (place : Place) → SomeBegins W.instances i place → Calls W i place
  calls i place some =
      let first = first_at (λ instance. begins_at i place instance.origin) W.instances some in
      let is = all_at (λ instance. IsActivity units instance.unit) W.instances first.at first.one instances_are first.there in
      record { callee = first.at; unit = is.unit; called = first.is; is = ap (option_and_then (unit_of W)) first.there ∙ is.there }

  by_instance : (i : ℕ) (unit : UnitDef) (found : Option Instance) → slice_get W.instances i ≡ found →
      option_and_then (unit_of W) found ≡ Some unit →
      AllOf (λ run. SomeBegins W.instances i run.place) (runs_of unit)
  by_instance i unit None there of = absurd cc
  by_instance i unit (Some x) there of = all_begin i x unit there of

  all_callable : AllCallable W
  all_callable i unit of =
      body_calls W i unit.body (all_places (Calls W i) (joined (map runs_in unit.body))
      (all_more (λ run. SomeBegins W.instances i run.place) (λ run. Calls W i run.place) (λ run h. calls i run.place h) (runs_of unit)
      (by_instance i unit (slice_get W.instances i) refl of)))

pub programs_are_callable : ProgramsAreCallable
programs_are_callable = all_callable
