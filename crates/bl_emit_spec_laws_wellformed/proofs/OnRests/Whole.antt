-- The law of a typed program's activities.
use Rattle.std.proofs.Common.{◌≡◌, ℕ, suc, List}
use Rattle.std.proofs.Common.{length, refl, sym, ◌∙◌, arith, length-append}
use Rattle.bl_tree.specs.declared.tree.StructDef.{StructDef}
use Rattle.bl_tree.specs.declared.tree.Unit.{Unit as UnitDef}
use Rattle.bl_graph_nodes.specs.Plain.{Act, Again, Await, Block, Bodies, Body as BodyOf, Cobegin, Done, If, Label, Last, Plain}
use Rattle.bl_graph_nodes.specs.Plain.{Repeat, Run as RunOf, Then, Until, When, While, plain_body}
use Rattle.bl_machine.specs.Layout.{places_in, places_in_each, resting_places}
use Rattle.bl_machine_pass.specs.SlotLayout.{SlotsAreDistinct, spots_in, spots_in_each, spots_of}
use Rattle.bl_machine_pass.specs.Numbered.{sizes_of, slots_of}
use Rattle.bl_machine_pass.specs.Transitions.{Finishes}
use Rattle.bl_machine_pass_laws.specs.Slots.Laws.{NumbersAreDistinct, TypedHaveBranches}
use Rattle.bl_emit_spec_laws_wellformed.specs.Spelled.{slot_fits}
use Rattle.bl_emit_spec_laws_wellformed.specs.Rests.{RulesStand}
use Rattle.bl_emit_spec_laws_wellformed.proofs.OnRests.Numbers.{number_fits}
use Rattle.bl_emit_spec_laws_wellformed.proofs.OnRests.Rules.{block_fits}
use Rattle.bl_emit_spec_laws_wellformed.proofs.OnRests.Spots.{all_fit}

-- each part has as many resting places as places
mutual
  spots_many : (s : Plain) → length (spots_of s) ≡ resting_places s
  spots_many (Act l s) = refl
  spots_many (Await l at e) = refl
  spots_many (RunOf l at target a inputs outputs) = refl
  spots_many (If l at e body other) =
      let one = spots_in_many body in
      let two = spots_in_many other in let all = length-append (spots_in body) (spots_in other) in omega (arith, one, two, all)
  spots_many (Cobegin l at bodies) = spots_in_each_many l 0 bodies
  spots_many (When l at guard e body) = spots_in_many body
  spots_many (Repeat l at body) = spots_in_many body
  spots_many (Until l at body e) = spots_in_many body
  spots_many (While l at e body) = spots_in_many body
  spots_many (Again l at body e) = spots_in_many body

  spots_in_many : (body : Block) → length (spots_in body) ≡ places_in body
  spots_in_many Done = refl
  spots_in_many (Then s rest) =
      let one = spots_many s in
      let two = spots_in_many rest in let all = length-append (spots_of s) (spots_in rest) in omega (arith, one, two, all)

  spots_in_each_many : (l : Label) (k : ℕ) (bodies : Bodies) → length (spots_in_each l k bodies) ≡ places_in_each bodies
  spots_in_each_many l k Last = refl
  spots_in_each_many l k (BodyOf weak body rest) =
      let one = spots_in_many body in
      let two = spots_in_each_many l (suc k) rest in
      let all = length-append (spots_in body) (spots_in_each l (suc k) rest) in omega (arith, one, two, all)

pub stand : (structs : List StructDef) (units : List UnitDef) (entry : ℕ) → NumbersAreDistinct → TypedHaveBranches →
    RulesStand structs units entry
stand structs units entry laid branches k unit list keeps there counters small few =
    let same : length list ≡ places_in (plain_body unit.body) = counters.one_each in
    let many : length (spots_in (plain_body unit.body)) ≡ places_in (plain_body unit.body) = spots_in_many (plain_body unit.body) in
    let stands : SlotsAreDistinct (slots_of (plain_body unit.body) list) (plain_body unit.body) =
    laid unit.body list counters (branches structs units entry k unit keeps there) in
    block_fits (slots_of (plain_body unit.body) list) (sizes_of list) 0 (plain_body unit.body) Finishes
    (record {
      fit = all_fit (plain_body unit.body) list (same ∙ sym many) (slot_fits (sizes_of list)) (number_fits list counters.values small few);
      few = omega (arith, same, many, small);
    })
    stands.rests refl
