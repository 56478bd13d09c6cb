-- The traces of merged machines.
use Rattle.std.specs.Prelude.{ℕ, ℤ, List, ◌↔◌}
use Rattle.bl_tree.specs.declared.program.Program.{Program}
use Rattle.bl_tree.specs.declared.row.Trace.{Trace}
use Rattle.bl_graph_nodes.specs.Nodes.{Node}
use Rattle.bl_ctree.specs.Instances.{Setting, setting_of}
use Rattle.bl_machine.specs.declared.machine.Activity.{Activity}
use Rattle.bl_machine_laws.specs.Traces.Positions.{GoBy}
use Rattle.bl_machine_laws.specs.Traces.Runs.{RunsByPasses}
use Rattle.bl_block.specs.Merged.{AreMergedFrom}

-- the instances of the program, and its units
abbrev pub setting : Program → Setting
setting program = setting_of program.structs program.units program.entry

-- a run of the program over the rows has the trace, and each of its ticks is one pass over the blocks of the machine
pub record ShowsTrace (program : Program) (machine : List Activity) (rows : List (List ℤ)) (trace : Trace) : Type 0 where
  pub rank : ℕ → Node → ℕ
  pub go_by : GoBy (setting program) machine rank
  pub runs : RunsByPasses program.structs program.units program.entry rank rows trace

-- a machine and one merged from it have the same traces, since a pass goes by the same numbers through both
pub record MergedShowTheSame : Type 0 where
  pub numbers : (program : Program) (from to : List Activity) → AreMergedFrom program.units from to → (rank : ℕ → Node → ℕ) →
      GoBy (setting program) from rank ↔ GoBy (setting program) to rank
  pub traces : (program : Program) (from to : List Activity) → AreMergedFrom program.units from to → (rows : List (List ℤ)) (trace : Trace) →
      ShowsTrace program from rows trace ↔ ShowsTrace program to rows trace
