-- What an activity runs, it runs by the first `run` of some place.
use Rattle.std.proofs.Common.{◌≡◌, inl, inr, ℕ, Bool, true, false, not, cond, ◌||◌, nat_eq, List, [], ◌∷◌, filter, map, Some, refl, sym, ap, ◌∙◌}
use Rattle.std.specs.Prelude.{slice_get}
use Rattle.std.specs.List.{list_any}
use Rattle.bl_tree.proofs.Basics.{contains_at}
use Rattle.bl_tree.specs.declared.place.Place.{Place}
use Rattle.bl_tree.specs.declared.tree.StructDef.{StructDef}
use Rattle.bl_tree.specs.declared.tree.Unit.{Unit as UnitDef}
use Rattle.bl_tree.specs.Program.{IsWellTyped}
use Rattle.bl_tree.specs.Reduce.{joined}
use Rattle.bl_tree.specs.Rules.{same_place}
use Rattle.bl_tree.specs.Within.{StandsIn}
use Rattle.bl_ctree.specs.declared.instance.Run.{Run}
use Rattle.bl_ctree.specs.Instances.{one_a_place, runs_in}
use Rattle.bl_ctree_laws_confluence.proofs.OnApart.Placed.{RunAs, runs_listed, same_unit}
use Rattle.bl_limits_measures.specs.Runs.{activities_by_place, activities_run}
use Rattle.bl_limits_measures_laws.proofs.InstanceLemmas.{all_named, named, units_of}
use Rattle.bl_ctree_laws_traces.proofs.OnBounded.Callees.{all_among}
use Rattle.bl_ctree_laws_traces.proofs.OnBounded.ByPlace.{once_among}
use Rattle.bl_tree.proofs.FirstLemmas.{same_true, In}

-- `run`s of one place run one unit
abbrev Share : List Run → Type 0
Share runs = (s t : Run) → In s runs → In t runs → s.place ≡ t.place → s.unit ≡ t.unit

-- the `run`s of other places
abbrev others : Place → List Run → List Run
others place runs = filter (λ (other : Run). not (same_place place other.place)) runs

module _ (j : ℕ) where
  kept_any : (run : Run) (xs : List Run) → ((x : Run) → In x xs → run.place ≡ x.place → run.unit ≡ x.unit) → nat_eq j run.unit ≡ false →
      list_any (nat_eq j) (units_of xs) ≡ true → list_any (nat_eq j) (units_of (others run.place xs)) ≡ true
  kept_any run [] share other h = h
  kept_any run (x ∷ xs) share other h =
      by (same_place run.place x.place) (nat_eq j x.unit) refl refl (kept_any run xs (λ y at. share y (inr at)) other) h
    where
      by : (b c : Bool) → same_place run.place x.place ≡ b → nat_eq j x.unit ≡ c →
          (list_any (nat_eq j) (units_of xs) ≡ true → list_any (nat_eq j) (units_of (others run.place xs)) ≡ true) →
          (c || list_any (nat_eq j) (units_of xs)) ≡ true →
          list_any (nat_eq j) (units_of (cond (not b) (x ∷ others run.place xs) (others run.place xs))) ≡ true
      by true true is at rest h =
          absurd (let no : true ≡ false =
          sym at ∙ (ap (nat_eq j) (sym (share x (inl refl) (same_true run.place x.place is))) ∙ other) in cc)
      by true false is at rest h = rest h
      by false true is at rest h = ap (λ d. d || list_any (nat_eq j) (units_of (others run.place xs))) at
      by false false is at rest h = ap (λ d. d || list_any (nat_eq j) (units_of (others run.place xs))) at ∙ rest h

  once_any : (runs : List Run) → Share runs → list_any (nat_eq j) (units_of runs) ≡ true →
      list_any (nat_eq j) (units_of (one_a_place runs)) ≡ true
  once_any [] share h = h
  once_any (run ∷ rest) share h = by (nat_eq j run.unit) refl (once_any rest (λ s t one two. share s t (inr one) (inr two))) h
    where
      by : (b : Bool) → nat_eq j run.unit ≡ b →
          (list_any (nat_eq j) (units_of rest) ≡ true → list_any (nat_eq j) (units_of (one_a_place rest)) ≡ true) →
          (b || list_any (nat_eq j) (units_of rest)) ≡ true →
          (nat_eq j run.unit || list_any (nat_eq j) (units_of (others run.place (one_a_place rest)))) ≡ true
      by true is more h = ap (λ d. d || list_any (nat_eq j) (units_of (others run.place (one_a_place rest)))) is
      by false is more h =
          ap (λ d. d || list_any (nat_eq j) (units_of (others run.place (one_a_place rest)))) is
          ∙ kept_any run (one_a_place rest) (λ x at place. share run x (inl refl) (inr (once_among rest x at)) place) is (more h)

-- what a unit of a typed program runs is among what the first `run`s of its places run
pub placed_any : (structs : List StructDef) (units : List UnitDef) (entry : ℕ) → IsWellTyped structs units entry → (k j : ℕ) (unit : UnitDef) →
    slice_get units k ≡ Some unit → list_any (nat_eq j) (activities_run unit) ≡ true → list_any (nat_eq j) (activities_by_place unit) ≡ true
placed_any structs units entry keeps k j unit there h =
    ap (list_any (nat_eq j)) (sym (named unit))
    ∙ once_any j (joined (map runs_in unit.body)) share (ap (list_any (nat_eq j)) (all_named unit) ∙ h)
  where
    share : Share (joined (map runs_in unit.body))
    share s t one two places =
        let first = all_among (RunAs (StandsIn unit.body)) (joined (map runs_in unit.body)) s (runs_listed unit) one in
        let second = all_among (RunAs (StandsIn unit.body)) (joined (map runs_in unit.body)) t (runs_listed unit) two in
        sym first.names
        ∙ (same_unit structs units entry keeps unit first.statement second.statement (contains_at units k unit there) first.among second.among
        first.runs second.runs (first.placed ∙ (places ∙ sym second.placed)) ∙ second.names)
