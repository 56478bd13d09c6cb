-- The units that an activity runs, by its `run` statements.
use Rattle.std.proofs.Common.{◌≡◌, ◌⊎◌, zero, Bool, true, false, cond, ◌||◌, nat_eq, List, [], ◌∷◌}
use Rattle.std.proofs.Common.{map, Contains, inl, inr, sym, ap, ◌∙◌, arith}
use Rattle.std.specs.Prelude.{filter, not}
use Rattle.std.specs.List.{list_any}
use Rattle.std.proofs.lemmas.Bool.{or_right}
use Rattle.bl_tree.proofs.Basics.{contains_further, first_or_further, number_itself}
use Rattle.bl_tree.specs.declared.tree.Unit.{Unit as UnitDef}
use Rattle.bl_tree.specs.Reduce.{joined}
use Rattle.bl_tree.specs.Rules.{same_place}
use Rattle.bl_ctree.specs.declared.instance.Run.{Run}
use Rattle.bl_ctree.specs.Instances.{one_a_place, runs_in, runs_of}
use Rattle.bl_limits_measures.specs.Runs.{activities_run}
use Rattle.bl_limits_measures_laws.proofs.InstanceLemmas.{all_named, units_of}

-- ---- one of them

filtered : {A : Type 0} (f : A → Bool) (xs : List A) (x : A) → Contains (filter f xs) x → Contains xs x
filtered f [] x there = there
filtered f (y ∷ xs) x there = by (f y) there (filtered f xs x)
  where
    each : (y ≡ x) ⊎ Contains (filter f xs) x → (Contains (filter f xs) x → Contains xs x) → Contains (y ∷ xs) x
    each (inl is) rest = (zero, omega arith, is)
    each (inr there) rest = contains_further y xs x (rest there)

    by : (b : Bool) → Contains (cond b (y ∷ filter f xs) (filter f xs)) x → (Contains (filter f xs) x → Contains xs x) → Contains (y ∷ xs) x
    by true there rest = each (first_or_further y (filter f xs) x there) rest
    by false there rest = contains_further y xs x (rest there)

-- the unit of a `run` that counts is among those of all `run`s
named : (runs : List Run) (run : Run) → Contains (one_a_place runs) run → list_any (nat_eq run.unit) (units_of runs) ≡ true
named [] run (k, within, is) = absurd (omega arith)
named (first ∷ runs) run there =
    by (first_or_further first (filter (λ (other : Run). not (same_place first.place other.place)) (one_a_place runs)) run there) (named runs run)
  where
    by : (first ≡ run) ⊎ Contains (filter (λ (other : Run). not (same_place first.place other.place)) (one_a_place runs)) run →
        (Contains (one_a_place runs) run → list_any (nat_eq run.unit) (units_of runs) ≡ true) →
        (nat_eq run.unit first.unit || list_any (nat_eq run.unit) (units_of runs)) ≡ true
    by (inl is) others =
        ap (λ b. b || list_any (nat_eq run.unit) (units_of runs)) (ap (λ (r : Run). nat_eq run.unit r.unit) is ∙ number_itself run.unit)
    by (inr rest) others =
        or_right (nat_eq run.unit first.unit) (list_any (nat_eq run.unit) (units_of runs))
        (others (filtered (λ (other : Run). not (same_place first.place other.place)) (one_a_place runs) run rest))

-- the unit that a `run` of an activity calls is one that the activity runs
pub run_named : (unit : UnitDef) (run : Run) → Contains (runs_of unit) run → list_any (nat_eq run.unit) (activities_run unit) ≡ true
run_named unit run there =
    ap (list_any (nat_eq run.unit)) (sym (all_named unit)) ∙ named (joined (map runs_in unit.body)) run there
