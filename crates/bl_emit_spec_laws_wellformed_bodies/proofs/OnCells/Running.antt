-- The `run`s in the C of an activity call what the activity runs.
use Rattle.std.proofs.Common.{◌≡◌, ℕ, Bool, true, false, cond, filter, not, List, [], ◌∷◌, map, Some, refl, sym, ap, subst, ◌∙◌}
use Rattle.bl_tree.specs.declared.place.Place.{Place}
use Rattle.bl_tree.specs.declared.tree.StructDef.{StructDef}
use Rattle.bl_tree.specs.declared.tree.Unit.{Unit as UnitDef}
use Rattle.bl_tree.specs.Rules.{same_place}
use Rattle.bl_limits_measures.specs.declared.runs.PlacedRun.{PlacedRun}
use Rattle.bl_limits_measures.specs.Runs as placed
use Rattle.bl_limits_measures.specs.Runs.{activities_by_place}
use Rattle.bl_limits_measures_laws.proofs.InstanceLemmas.{all_agree}
use Rattle.bl_graph_nodes.specs.Nodes.{nodes_in}
use Rattle.bl_graph_nodes.specs.Plain.{Block}
use Rattle.bl_machine.specs.Uses.{Slots}
use Rattle.bl_machine_pass.specs.Transitions.{Transition, rules}
use Rattle.bl_machine_transitions.specs.Callees.{callees_in}
use Rattle.bl_emit_spec.specs.Activities.{RunAt, activity_view, body_of, one_a_place, rules_at, runs_at, runs_in_body}
use Rattle.bl_emit_spec_laws.proofs.OnRunPlaces.Sharing.{runs_made}
use Rattle.bl_emit_spec_laws_wellformed_bodies.specs.Cells.{BodiesRun}

-- a `run` without its number
abbrev make : Place → ℕ → PlacedRun
make place unit = record { place = place; unit = unit }

abbrev placed_run : RunAt → PlacedRun
placed_run run = make run.place run.unit

kept_case : (b : Bool) (run : RunAt) (rest : List RunAt) →
    map placed_run (cond b (run ∷ rest) rest) ≡ cond b (placed_run run ∷ map placed_run rest) (map placed_run rest)
kept_case true run rest = refl
kept_case false run rest = refl

kept_placed : (place : Place) (runs : List RunAt) → map placed_run (filter (λ (other : RunAt). not (same_place place other.place)) runs)
    ≡ filter (λ (other : PlacedRun). not (same_place place other.place)) (map placed_run runs)
kept_placed place [] = refl
kept_placed place (run ∷ rest) =
    kept_case (not (same_place place run.place)) run (filter (λ (other : RunAt). not (same_place place other.place)) rest)
    ∙ ap (λ more. cond (not (same_place place run.place)) (placed_run run ∷ more) more) (kept_placed place rest)

once_placed : (runs : List RunAt) → map placed_run (one_a_place runs) ≡ placed.one_a_place (map placed_run runs)
once_placed [] = refl
once_placed (run ∷ rest) =
    ap (λ more. placed_run run ∷ more) (kept_placed run.place (one_a_place rest)
    ∙ ap (filter (λ (other : PlacedRun). not (same_place run.place other.place))) (once_placed rest))

units_placed : (runs : List RunAt) → map (λ (run : RunAt). run.unit) runs ≡ placed.units_of (map placed_run runs)
units_placed [] = refl
units_placed (run ∷ rest) = ap (λ units. run.unit ∷ units) (units_placed rest)

pub bodies : ((slots : Slots) (body : Block) → map (λ (rule : Transition). rule.node) (rules slots body) ≡ nodes_in body) →
    (structs : List StructDef) (units : List UnitDef) (entry : ℕ) → BodiesRun structs units entry
bodies nodes structs units entry k unit a keeps of =
    let every : List RunAt = runs_at (activity_view a).number (callees_in (body_of a)) (rules_at a) in
    subst (λ (u : UnitDef). map (λ (run : RunAt). run.unit) (runs_in_body a) ≡ activities_by_place u) of.is
    (units_placed (runs_in_body a)
    ∙ ap placed.units_of (once_placed every
    ∙ ap placed.one_a_place (runs_made make nodes a structs units entry keeps k (of.there ∙ ap Some (sym of.is)) ∙ all_agree a.unit.body)))
