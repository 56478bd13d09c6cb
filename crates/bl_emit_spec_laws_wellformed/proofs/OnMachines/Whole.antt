-- The laws of a whole program.
use Rattle.std.proofs.Common.{◌≡◌, ℕ, ◌*◌, ◌<◌, ◌≤◌, ◌^◌, List}
use Rattle.std.proofs.Common.{Some, map, take, length, refl, sym, subst, arith}
use Rattle.std.specs.Prelude.{slice_get}
use Rattle.bl_tree.specs.declared.tree.StructDef.{StructDef}
use Rattle.bl_tree.specs.declared.tree.Unit.{Unit as UnitDef}
use Rattle.bl_tree.specs.Program.{IsWellTyped}
use Rattle.bl_tree.specs.declared.tree.UnitKind.{UnitKind}
use Rattle.bl_tree.specs.declared.tree.UnitKind.TheVariants.{Function, Activity}
use Rattle.bl_tree.specs.Reduce.{greatest, joined, total}
use Rattle.bl_machine.specs.declared.machine.Activity.{Activity as InMachine}
use Rattle.bl_machine.specs.Layout.{places_in}
use Rattle.bl_limits_measures.specs.Calls.{calls_of}
use Rattle.bl_limits_measures.specs.Laws.{CellsAdd}
use Rattle.bl_limits_measures.specs.Runs.{activities_by_place}
use Rattle.bl_limits_measures.specs.Statements.{cell_statements_of}
use Rattle.bl_limits_measures.specs.Units.{cells_at, cells_with, variables_of}
use Rattle.bl_limits_measures_laws.specs.Laws.{UnitsUseEarlierOnes}
use Rattle.bl_machine_pass.specs.Numbered.{sizes_of}
use Rattle.bl_graph_nodes.specs.Nodes.{nodes_in}
use Rattle.bl_graph_nodes.specs.Plain.{plain_body}
use Rattle.bl_emit_functions_laws_wellformed.specs.Formed.{IsNumbered}
use Rattle.bl_emit_functions_laws_wellformed.specs.Numbered.{CellsNumber}
use Rattle.bl_emit_spec.specs.Programs.{activity_of}
use Rattle.bl_emit_spec_laws_wellformed.specs.Counts.{IsFew, NodesCounted}
use Rattle.bl_emit_spec_laws_wellformed.proofs.OnMachines.Counters.{sizes_few}
use Rattle.bl_emit_spec_laws_wellformed.specs.Machines.{IsModest, MachinesDiffer, MachinesSpell}
use Rattle.bl_emit_spec_laws_wellformed.specs.Nodes.{RulesFit}
use Rattle.bl_emit_spec_laws_wellformed.specs.Numbers.{AreNumbered, NodesNumbered, NumbersFollow}
use Rattle.bl_emit_spec_laws_wellformed.specs.Rests.{RulesStand}

nodes_small : (nodes statements cells : ℕ) → nodes ≤ 4 * statements → statements ≤ cells → cells ≤ 1_000_000 → nodes < 2 ^ 64
nodes_small nodes statements cells few more small = omega (arith, few, more, small)

places_small : (slots places statements cells : ℕ) → slots ≡ places → places ≤ statements → statements ≤ cells →
    cells ≤ 1_000_000 →
    slots < 2 ^ 32
places_small slots places statements cells same few more small = omega (arith, same, few, more, small)

counters_small : (counters places statements cells : ℕ) → counters ≤ places → places ≤ statements → statements ≤ cells →
    cells ≤ 1_000_000 →
    counters ≤ 2 ^ 64
counters_small counters places statements cells same few more small = omega (arith, same, few, more, small)

cells_small : (cells : ℕ) → cells ≤ 1_000_000 → cells ≤ 2 ^ 64
cells_small cells small = omega (arith, small)

-- a unit has no fewer cells than statements
pub enough : (kind : UnitKind) (variables statements running calling : ℕ) → statements ≤ cells_with kind variables statements running calling
enough Function variables statements running calling = omega arith
enough Activity variables statements running calling = omega arith

module _ (structs : List StructDef) (units : List UnitDef) (entry : ℕ) (uses : UnitsUseEarlierOnes) (add : CellsAdd)
    (cells : CellsNumber structs units entry) (counted : NodesCounted structs units entry) (numbered : NodesNumbered)
  where
    statements_less : (k : ℕ) (unit : UnitDef) → IsWellTyped structs units entry → slice_get units k ≡ Some unit →
        cell_statements_of unit ≤ cells_at structs units k
    statements_less k unit keeps there =
        subst (λ n. cell_statements_of unit ≤ n) (sym (add structs units k unit (uses structs units keeps.units_stand) there))
        (enough unit.kind (variables_of structs unit) (cell_statements_of unit) (total (map (cells_at structs units) (activities_by_place unit)))
        (greatest (map (cells_at structs units) (calls_of unit))))

    numbers : (k : ℕ) (unit : UnitDef) (one : InMachine) → IsWellTyped structs units entry → IsModest structs units k unit one →
        AreNumbered unit.body (joined one.blocks)
    numbers k unit one keeps modest =
        let few : IsFew unit = counted k unit keeps modest.there in
        numbered unit.body (joined one.blocks) modest.of_unit.order.all
        (nodes_small (length (nodes_in (plain_body unit.body))) (cell_statements_of unit) (cells_at structs units k) few.nodes
        (statements_less k unit keeps modest.there) modest.cells)

    counters : (k : ℕ) (unit : UnitDef) (one : InMachine) → IsWellTyped structs units entry → IsModest structs units k unit one →
        length (sizes_of one.slots) ≤ 2 ^ 64
    counters k unit one keeps modest =
        let few : IsFew unit = counted k unit keeps modest.there in
        counters_small (length (sizes_of one.slots)) (places_in (plain_body unit.body)) (cell_statements_of unit) (cells_at structs units k)
        (sizes_few (plain_body unit.body) one.slots modest.of_unit.slots) few.places (statements_less k unit keeps modest.there) modest.cells

    pub spell : RulesFit structs units entry → RulesStand structs units entry → MachinesSpell structs units entry
    spell fit stand k unit one remember keeps modest =
        let few : IsFew unit = counted k unit keeps modest.there in
        let holds : IsNumbered structs (take k units) unit =
        cells k unit keeps modest.there (cells_small (cells_at structs units k) modest.cells) in
        record {
          structures = refl;
          earlier = refl;
          there = modest.there;
          variables = holds.variables;
          counters = counters k unit one keeps modest;
          numbers = (numbers k unit one keeps modest).few;
          rules = fit k (activity_of structs (take k units) remember unit one) keeps refl refl modest.there
              (stand k unit one.slots keeps modest.there modest.of_unit.counters
              (places_small (length one.slots) (places_in (plain_body unit.body)) (cell_statements_of unit) (cells_at structs units k)
              modest.of_unit.counters.one_each few.places (statements_less k unit keeps modest.there) modest.cells)
              (counters k unit one keeps modest));
        }

    pub differ : NumbersFollow → MachinesDiffer structs units entry
    differ follow k unit one remember keeps modest =
        let holds : IsNumbered structs (take k units) unit =
        cells k unit keeps modest.there (cells_small (cells_at structs units k) modest.cells) in
        follow (activity_of structs (take k units) remember unit one) holds.variables (counters k unit one keeps modest) modest.of_unit.order.all
        (numbers k unit one keeps modest).differ
