-- The activities of a machine are built as it says.
use Rattle.std.proofs.Common.{◌≡◌, ⊎_elim, ℕ, zero, suc, ◌<◌, ◌≤◌, Bool, true, ◌&&◌, List, [], ◌∷◌, length}
use Rattle.std.proofs.Common.{Some, refl, ap, ◌∙◌, subst, arith}
use Rattle.std.proofs.lemmas.Bool.{cases_lt}
use Rattle.std.specs.Prelude.{slice_get, unwrap_or}
use Rattle.bl_tree.proofs.Basics.{get_front, get_last, push_length}
use Rattle.bl_tree.specs.declared.tree.StructDef.{StructDef}
use Rattle.bl_tree.specs.declared.tree.Unit.{Unit as UnitDef}
use Rattle.bl_tree.specs.Reduce.{joined}
use Rattle.bl_tree.specs.Typing.{is_activity}
use Rattle.bl_cause.specs.Activities.{activities as activities_in, graph_position}
use Rattle.bl_cause.proofs.PairLemmas.{each_at, filtered_at}
use Rattle.bl_graph_nodes.specs.Plain.{plain_body}
use Rattle.bl_machine.specs.declared.machine.Activity.{Activity as InMachine}
use Rattle.bl_machine.specs.Machines.{AreActivitiesOf, IsActivityOf}
use Rattle.bl_machine_pass.specs.Numbered.{sizes_of, slots_of}
use Rattle.bl_emit_spec.specs.Activities.{remembers_any}
use Rattle.bl_emit_spec_laws.specs.Calls.Built.{AreBuilt, MadeOf}
use Rattle.bl_emit_spec_laws.specs.Tables.Laws.{ActivitiesBuilt}
use Rattle.bl_emit_spec_laws.specs.Tables.Tables.{activities_of, no_part, no_unit, remembered_before, remembers_with}

module _ (structs : List StructDef) (units : List UnitDef) (machine : List InMachine) where
  abbrev told : ℕ → List Bool
  told k = remembered_before structs units machine k

  abbrev flag : ℕ → Bool
  flag k = remembers_with structs units machine k (told k)

  pub told_many : (k : ℕ) → length (told k) ≡ k
  told_many zero = refl
  told_many (suc k) = push_length (told k) (flag k) ∙ ap suc (told_many k)

  pub told_at : (k j : ℕ) → j < k → slice_get (told k) j ≡ Some (flag j)
  told_at zero j less = absurd (omega (arith, less))
  told_at (suc k) j less = ⊎_elim (λ (earlier : j < k). before (told_at k j) earlier) last (cases_lt j k)
    where
      many : length (told k) ≡ k
      many = told_many k

      before : (j < k → slice_get (told k) j ≡ Some (flag j)) → j < k → slice_get (told (suc k)) j ≡ Some (flag j)
      before found earlier = get_front (told k) (flag k ∷ []) j (omega (arith, earlier, many)) ∙ found earlier

      last : k ≤ j → slice_get (told (suc k)) j ≡ Some (flag j)
      last not_before =
          let is : length (told k) ≡ j = omega (arith, less, not_before, many) in
          let same : k ≡ j = omega (arith, less, not_before) in
          subst (λ n. slice_get (told (suc k)) n ≡ Some (flag k)) is (get_last (told k) (flag k)) ∙ ap (λ n. Some (flag n)) same

  -- the part that the machine has for an activity
  pub part_at : AreActivitiesOf units machine → (k : ℕ) (unit : UnitDef) → slice_get units k ≡ Some unit → is_activity unit.kind ≡ true →
      (one : InMachine) × (slice_get machine (graph_position units k) ≡ Some one)
  part_at agrees k unit there active =
      let found = each_at IsActivityOf (activities_in units) machine (graph_position units k) unit agrees
      (filtered_at (λ (it : UnitDef). is_activity it.kind) units k unit there active) in (found.0, found.1)

  built : AreActivitiesOf units machine → AreBuilt structs units machine (activities_of structs units machine)
  built agrees = record {
    structures = λ k unit there. refl;
    earlier = λ k unit there. refl;
    unit = λ k unit there. ap (λ o. unwrap_or o no_unit) there;
    remember = λ k j unit other there found less.
        told_at k j less
        ∙ ap (λ o. Some (is_activity (unwrap_or o no_unit).kind && remembers_any (activities_of structs units machine j))) found;
    made = made;
  }
    where
      made : (k : ℕ) (unit : UnitDef) → slice_get units k ≡ Some unit → is_activity unit.kind ≡ true →
          MadeOf unit (activities_of structs units machine k) (slice_get machine (graph_position units k))
      made k unit there active =
          let found = part_at agrees k unit there active in record {
            one = found.0;
            is = found.1;
            order = ap (λ o. joined (unwrap_or o no_part).blocks) found.1;
            blocks = ap (λ o. (unwrap_or o no_part).blocks) found.1;
            slots = λ i. slots_of (plain_body (unwrap_or (there i) no_unit).body) (unwrap_or (found.1 i) no_part).slots;
            sizes = ap (λ o. sizes_of (unwrap_or o no_part).slots) found.1;
          }

pub all_built : ActivitiesBuilt
all_built structs units machine agrees = built structs units machine agrees
