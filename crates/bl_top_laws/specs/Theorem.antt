-- The theorem in one formula: what it is for a C text to be correct for a source text. docs/THEOREM.md explains each word.
use Rattle.std.specs.Prelude.{◌≡◌, ◌↔◌, ℕ, ℤ, List, Some, slice_get}
use Rattle.bl_cause_trees.specs.Peeled.{ArePeeled}
use Rattle.bl_ctext.specs.SpellsC.{SpellsC}
use Rattle.bl_ctext.specs.declared.file.CFile.{CFile}
use Rattle.bl_ctext_semantics.specs.Cells.{inputs_of, outputs_of}
use Rattle.bl_ctext_semantics.specs.Faults.{WellFormed}
use Rattle.bl_ctext_semantics.specs.Parts.{parts_of}
use Rattle.bl_ctext_semantics.specs.Trace.{c_trace}
use Rattle.bl_ctree.specs.Means.{Means, ShownTrace, shown_trace}
use Rattle.bl_ctree.specs.Measure.{steps}
use Rattle.bl_ctree.specs.Reaches.{Bounded, NeverStuck}
use Rattle.bl_ctree_laws_traces.specs.Traces.OneTrace.{OneTrace}
use Rattle.bl_parse_tree.specs.declared.raw.Raw.{Raw}
use Rattle.bl_rules.specs.Rules.{Parses, Passes}
use Rattle.bl_tree.specs.declared.tree.Unit.{Unit as UnitDef}
use Rattle.bl_tree.specs.Ports.{RowsFit, input_columns, output_columns}
use Rattle.bl_types.specs.declared.environment.Typed.{Typed}
use Rattle.bl_types_program.specs.Programs.{typed_of}

-- no rule fails for the source text, and the C text has exactly the trace that the semantics of its program p allows
pub record Correct (source text : List ℕ) : Type 0 where
  -- no rule fails for the source, which spells this tree, and p is the tree's typed program
  pub passes : Passes source
  pub tree : Raw
  pub parses : Parses source tree
  pub p : Typed
  pub is_program : p ≡ typed_of tree
  -- the activity that the environment drives
  pub entry : UnitDef
  pub is_entry : slice_get p.units p.entry ≡ Some entry
  -- the text spells a well-formed C file, whose inputs and outputs are those of the entry
  pub file : CFile
  pub spells : SpellsC file text
  pub well_formed : WellFormed (parts_of file)
  pub inputs : inputs_of (parts_of file) ≡ input_columns entry
  pub outputs : outputs_of (parts_of file) ≡ output_columns entry
  -- over all rows that fit, the semantics of p allows a trace iff it is the trace of the C file, which traps at the same tick
  pub trace : (rows : List (List ℤ)) (shows : ShownTrace) → RowsFit (input_columns entry) rows →
      Means p.structs p.units p.entry rows shows ↔ (shows ≡ shown_trace (c_trace (parts_of file) rows))
  -- over all rows that fit, the semantics allows exactly one trace
  pub one : (rows : List (List ℤ)) → RowsFit (input_columns entry) rows → OneTrace p.structs p.units p.entry rows
  -- p's peeled units: their bodies are those by which the rules Twice to Cells are judged
  pub peeled : List UnitDef
  pub are_peeled : ArePeeled p.units peeled
  -- no tick has more steps than a number that they determine, and none is stuck
  pub bounded : Bounded (steps p.structs peeled p.entry) p.structs p.units p.entry
  pub never_stuck : NeverStuck p.structs p.units p.entry
