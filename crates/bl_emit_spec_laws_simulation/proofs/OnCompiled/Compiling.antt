-- What the laws of passes ask of a program holds of one that passes the rules.
use Rattle.std.proofs.Common.{◌≡◌, ℕ, ◌+◌, ◌*◌, ◌≤◌, ◌^◌, true, List, length, Some, sym, ap, subst, ◌∙◌, arith}
use Rattle.std.proofs.lemmas.List.Sorted.{length_permutation}
use Rattle.std.specs.Prelude.{slice_get}
use Rattle.bl_tree.proofs.Basics.{index_of, same_some}
use Rattle.bl_tree.specs.declared.tree.StructDef.{StructDef}
use Rattle.bl_tree.specs.declared.tree.Unit.{Unit as UnitDef}
use Rattle.bl_tree.specs.Program.{IsWellTyped}
use Rattle.bl_tree.specs.Reduce.{joined}
use Rattle.bl_tree.specs.Typing.{is_activity}
use Rattle.bl_effects.specs.Rules.{Passes}
use Rattle.bl_limits_measures.specs.Statements.{cell_statements_of}
use Rattle.bl_machine_prevs.specs.Declared.{FromText}
use Rattle.bl_cause.specs.Activities.{activities as activities_among, graph_position}
use Rattle.bl_cause.proofs.PairLemmas.{each_at, filtered_at}
use Rattle.bl_graph_nodes.specs.Nodes.{nodes_in}
use Rattle.bl_graph_nodes.specs.Plain.{plain_body}
use Rattle.bl_machine.specs.declared.machine.Activity.{Activity as InMachine}
use Rattle.bl_machine.specs.Blocks.{up_to}
use Rattle.bl_machine.specs.Layout.{places_in}
use Rattle.bl_machine.specs.Machines.{AreActivitiesOf, IsActivityOf}
use Rattle.bl_machine_pass.specs.Numbered.{sizes_of}
use Rattle.bl_emit_functions_laws_wellformed.specs.Numbered.{UnitsCounted}
use Rattle.bl_emit_spec_laws.specs.Registers.Registers.{FewRegisters}
use Rattle.bl_emit_spec_laws.specs.Calls.Built.{Activities, AreBuilt, registered}
use Rattle.bl_emit_spec_laws.specs.Calls.Laws.{CompilationContext}
use Rattle.bl_emit_spec_laws_wellformed.specs.Counts.{NodesCounted}
use Rattle.bl_emit_spec_laws_wellformed.proofs.OnMachines.Counters.{sizes_few}
use Rattle.bl_emit_spec_laws.specs.Own.{NodesAreFew, RegistersAreFew}
use Rattle.bl_emit_spec_laws_simulation.specs.Compiled.{AreCountable, ProgramsCompile}
use Rattle.bl_emit_spec_laws.proofs.OnOwn.Counting.{many_up_to}

flags_few : (flags turns statements : ℕ) → flags + turns ≤ statements → statements ≤ 2 ^ 62 → flags ≤ 2 ^ 64
flags_few flags turns statements few small = omega (arith, few, small)

nodes_few : (order nodes statements : ℕ) → order ≡ nodes → nodes ≤ 4 * statements → statements ≤ 2 ^ 62 → order ≤ 2 ^ 64
nodes_few order nodes statements same few small = omega (arith, same, few, small)

counters_few : (counters places statements : ℕ) → counters ≤ places → places ≤ statements → statements ≤ 2 ^ 62 → counters ≤ 2 ^ 64
counters_few counters places statements few less small = omega (arith, few, less, small)

module _ (structs : List StructDef) (units : List UnitDef) (entry : ℕ) (counted : UnitsCounted structs units entry)
    (nodes : NodesCounted structs units entry) (numbers : NodesAreFew) (few : RegistersAreFew) (machine : List InMachine) (activities : Activities)
    (keeps : IsWellTyped structs units entry) (agrees : AreActivitiesOf units machine)
    (built : AreBuilt structs units machine activities) (countable : AreCountable units)
  where
    ordered : (k : ℕ) (unit : UnitDef) → slice_get units k ≡ Some unit → is_activity unit.kind ≡ true → length (activities k).order ≤ 2 ^ 64
    ordered k unit there active =
        let made = built.made k unit there active in
        let among = filtered_at (λ (it : UnitDef). is_activity it.kind) units k unit there active in
        let own = each_at IsActivityOf (activities_among units) machine (graph_position units k) unit agrees among in
        let of_unit = subst (IsActivityOf unit) (same_some own.0 made.one (sym own.1 ∙ made.is)) own.2 in
        nodes_few (length (activities k).order) (length (nodes_in (plain_body unit.body))) (cell_statements_of unit)
        (ap length made.order
        ∙ length_permutation (up_to (length (nodes_in (plain_body unit.body)))) (joined made.one.blocks) of_unit.order.all
        ∙ many_up_to (length (nodes_in (plain_body unit.body)))) (nodes k unit keeps there).nodes (countable k unit there).statements

    sized : (k : ℕ) (unit : UnitDef) → slice_get units k ≡ Some unit → is_activity unit.kind ≡ true → length (activities k).sizes ≤ 2 ^ 64
    sized k unit there active =
        let made = built.made k unit there active in
        let among = filtered_at (λ (it : UnitDef). is_activity it.kind) units k unit there active in
        let own = each_at IsActivityOf (activities_among units) machine (graph_position units k) unit agrees among in
        let of_unit = subst (IsActivityOf unit) (same_some own.0 made.one (sym own.1 ∙ made.is)) own.2 in
        subst (λ (sizes : List ℕ). length sizes ≤ 2 ^ 64) (sym made.sizes)
        (counters_few (length (sizes_of made.one.slots)) (places_in (plain_body unit.body)) (cell_statements_of unit)
        (sizes_few (plain_body unit.body) made.one.slots of_unit.slots) (nodes k unit keeps there).places (countable k unit there).statements)

    registers : (k : ℕ) (unit : UnitDef) → slice_get units k ≡ Some unit → is_activity unit.kind ≡ true → FewRegisters (registered (activities k))
    registers k unit there active =
        few structs units machine activities k unit (record { agrees = agrees; built = built; is_there = there; activity = active })
        (ordered k unit there active) (sized k unit there active)

    pub compiled : Passes units → FromText units → CompilationContext structs units entry machine activities
    compiled passes text = record {
      well_typed = keeps;
      passes = passes;
      text = text;
      agrees = agrees;
      built = built;
      names = λ k unit there function. record {
        vars = (countable k unit there).variables;
        flags = flags_few _ _ (cell_statements_of unit) (counted k unit keeps there).numbers (countable k unit there).statements;
      };
      vars = λ unit among. let at = index_of units unit among in (countable at.0 unit at.1).variables;
      nodes = λ k unit n there active among. numbers structs units machine activities k unit n
          (record { agrees = agrees; built = built; is_there = there; activity = active }) (ordered k unit there active) among;
      registers = registers;
    }

pub programs_compile : (structs : List StructDef) (units : List UnitDef) (entry : ℕ) → UnitsCounted structs units entry →
    NodesCounted structs units entry → NodesAreFew → RegistersAreFew → ProgramsCompile structs units entry
programs_compile structs units entry counted nodes numbers few machine activities keeps passes text agrees built countable =
    compiled structs units entry counted nodes numbers few machine activities keeps agrees built countable passes text
