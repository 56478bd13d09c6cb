-- The heads that may fall away in peeled units, and that a source and its peeled program are one program with these heads alone.
use Rattle.std.proofs.Common.{◌≡◌, ℕ, ◌*◌, ◌≤◌, zero, suc, true, List, [], ◌∷◌, map, length, take, Option, Some, None, refl, sym, ap, ◌∙◌, subst, arith}
use Rattle.std.specs.Prelude.{option_and_then, option_map, slice_get, unwrap_or}
use Rattle.std.proofs.Math.Nat.{mul-le-mul_left}
use Rattle.bl_tree.specs.declared.tree.StructDef.{StructDef}
use Rattle.bl_tree.specs.declared.tree.Unit.{Unit as UnitDef}
use Rattle.bl_tree.specs.Program.{units_stand_after}
use Rattle.bl_tree.specs.Reduce.{total}
use Rattle.bl_tree.specs.Typing.{site_of}
use Rattle.bl_graph_nodes.specs.Plain.{plain_body}
use Rattle.bl_ctree.specs.declared.instance.Instance.{Instance}
use Rattle.bl_ctree.specs.Instances.{Setting, instances_of, setting_of, unit_of}
use Rattle.bl_ctree.specs.Measure.{passes, step_statements_of}
use Rattle.bl_ctree_laws_traces.specs.Bounded.Differ.{AllNumbered}
use Rattle.bl_ctree_laws_traces.specs.Bounded.TickPasses.{passed_statements, statements_at}
use Rattle.bl_ctree_laws_traces.proofs.OnBounded.Callees.{typed_at}
use Rattle.bl_peel.specs.Peeled.{peeled}
use Rattle.bl_peel.specs.Units.{UnitsPeel, is_peeled, kept}
use Rattle.bl_ctree_laws_peeled.specs.Settings.{SameProgram, UnitUnrolls, no_unit, one_unit}
use Rattle.bl_ctree_laws_peeled.proofs.Blocks.{block_same}
use Rattle.bl_ctree_laws_peeled.proofs.Peeling.{peeled_unrolls}
use Rattle.bl_ctree_laws_peeled.proofs.Programs.{BothPeel, both, neither, same_program, unit_there}
use Rattle.bl_ctree_laws_peeled_bounds.proofs.Numbers.{unit_number_at, unit_number_of}
use Rattle.bl_ctree_laws_peeled_bounds.proofs.Rising.{turning_in}
use Rattle.bl_ctree_laws_peeled_bounds.proofs.Sizes.{body_size}
use Rattle.bl_ctree_laws_peeled_bounds.proofs.Turns.{TurningIn, MayFall, LoopAt, few_in, full_back, listed_in, falling_in}

-- the heads that may fall away in a unit: none, where its body isn't peeled
abbrev unit_heads : {one other : Option UnitDef} → BothPeel one other → List LoopAt
unit_heads neither = []
unit_heads (both kept) = []
unit_heads (both (is_peeled {unit} activity)) = falling_in (peeled_unrolls 0 unit.body)

-- something stands in the turns of the unit's loops
abbrev FullUnit : Option UnitDef → Type 0
FullUnit other = (peeled_unit : UnitDef) → other ≡ Some peeled_unit → TurningIn (plain_body peeled_unit.body)

heads_alone : {one other : Option UnitDef} (b : BothPeel one other) → FullUnit other → UnitUnrolls (MayFall (unit_heads b)) one other
heads_alone neither full = no_unit
heads_alone (both kept) full = one_unit (block_same _)
heads_alone (both (is_peeled {unit} activity)) full =
    let unrolls = peeled_unrolls 0 unit.body in
    one_unit (listed_in (falling_in unrolls) unrolls (full_back unrolls (full (record unit { body = peeled unit.body }) refl)) (λ x at. at))

module _ (structs : List StructDef) (units peeled_units : List UnitDef) (peels : UnitsPeel units peeled_units) where
  -- by the number of a unit, the heads that may fall away in it
  abbrev pub heads_by_number : ℕ → List LoopAt
  heads_by_number k = unit_heads (unit_there peels k)

  -- they are no more than the statements of the unit, where it is typed
  few_heads : (k : ℕ) {one other : Option UnitDef} (b : BothPeel one other) → slice_get peeled_units k ≡ other →
      units_stand_after structs [] peeled_units ≡ true →
      FullUnit other → length (unit_heads b) ≤ unwrap_or (option_map step_statements_of other) 0
  few_heads k neither there stand full = omega arith
  few_heads k (both kept) there stand full = omega arith
  few_heads k (both (is_peeled {unit} activity)) there stand full =
      let unrolls = peeled_unrolls 0 unit.body in
      let few = few_in unrolls (full_back unrolls (full (record unit { body = peeled unit.body }) refl)) in
      let less = body_size (site_of structs (take k peeled_units) (record unit { body = peeled unit.body })) (peeled unit.body)
      (typed_at structs [] peeled_units k (record unit { body = peeled unit.body }) stand there) in
      omega arith

  module _ (entry : ℕ) (numbered : AllNumbered (setting_of structs peeled_units entry)) where
    abbrev w : Setting
    w = setting_of structs units entry

    abbrev w' : Setting
    w' = setting_of structs peeled_units entry

    full_unit : (i : ℕ) → FullUnit (option_and_then (unit_of w') (slice_get (instances_of peeled_units entry) i))
    full_unit i peeled_unit is = let ranks = numbered i peeled_unit is in turning_in ranks.number (plain_body peeled_unit.body) ranks.rises

    bodies_at : (found : Option Instance) → FullUnit (option_and_then (unit_of w') found) →
        UnitUnrolls (MayFall (heads_by_number (unit_number_of found))) (option_and_then (unit_of w) found) (option_and_then (unit_of w') found)
    bodies_at None full = no_unit
    bodies_at (Some instance) full = heads_alone (unit_there peels instance.unit) full

    pub listed_program : SameProgram (λ i. MayFall (heads_by_number (unit_number_at w' i))) w w'
    listed_program =
        let same = same_program structs units peeled_units peels entry in
        record {
          instances = same.instances;
          homes = same.homes;
          effects = same.effects;
          bodies = λ i.
              subst (λ all. UnitUnrolls (MayFall (heads_by_number (unit_number_at w' i))) (option_and_then (unit_of w) (slice_get all i))
              (option_and_then (unit_of w') (slice_get (instances_of peeled_units entry) i))) (sym same.instances)
              (bodies_at (slice_get (instances_of peeled_units entry) i) (full_unit i));
        }

    -- ---- their number

    abbrev heads_weight : Instance → ℕ
    heads_weight x = passes w' x.depth x * length (heads_by_number x.unit)

    abbrev statements_weight : Instance → ℕ
    statements_weight x = passes w' x.depth x * statements_at w' x.unit

    few_total : (instances : List Instance) →
        ((i : ℕ) (x : Instance) → slice_get instances i ≡ Some x → length (heads_by_number x.unit) ≤ statements_at w' x.unit) →
        total (map heads_weight instances) ≤ total (map statements_weight instances)
    few_total [] each = omega arith
    few_total (x ∷ rest) each =
        let one = mul-le-mul_left (passes w' x.depth x) (each zero x refl) in
        let more = few_total rest (λ i y there. each (suc i) y there) in
        omega (arith, one, more)

    -- the heads of all passes are no more than the statements passed
    pub heads_few : units_stand_after structs [] peeled_units ≡ true → total (map heads_weight w'.instances) ≤ passed_statements w'
    heads_few stand =
        few_total w'.instances (λ i x there.
        few_heads x.unit (unit_there peels x.unit) refl stand
        (λ peeled_unit is. let ranks = numbered i peeled_unit (ap (option_and_then (unit_of w')) there ∙ is) in
        turning_in ranks.number (plain_body peeled_unit.body) ranks.rises))
