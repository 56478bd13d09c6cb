-- A walk before anything of it is written, and then what was written of it.
use Rattle.std.specs.Prelude.{◌≡◌, ℕ, ℤ, List, [], Option, Some, slice_get}
use Rattle.bl_top_commands.specs.Calls.{HasRisen, Output}
use Rattle.bl_top_commands.specs.inner.Outcomes.{IsEndOf}
use Rattle.bl_top_commands.specs.declared.answer.Answer.{Answer}
use Rattle.bl_top_commands.specs.declared.status.Status.TheVariants as status
use Rattle.bl_io.specs.Held.{Appends, AppendsPart}
use Rattle.bl_rows.specs.Text.{text_of}
use Rattle.bl_rows_stream.specs.Gathered.{Gathers, finish_over}
use Rattle.bl_rows_stream.specs.declared.finish.Finish.{Finish}
use Rattle.bl_rows_stream.specs.declared.gathered.RowsEnd.{RowsEnd}
use Rattle.bl_tree.specs.declared.place.Place.{Place}
use Rattle.bl_tree.specs.declared.row.Column.{Column}
use Rattle.bl_tree.specs.declared.row.Trace.{Trace}
use Rattle.bl_tree.specs.declared.tree.StructDef.{StructDef}
use Rattle.bl_tree.specs.declared.tree.Unit.{Unit as UnitDef}
use Rattle.bl_tree.specs.Ports.{input_columns, output_columns}
use Rattle.bl_walk.specs.Lines.{tick_lines_from}
use Rattle.bl_walk.specs.Walks.{HasWalked}

-- the columns of a program's rows of inputs and of outputs
pub record ArePorts (units : List UnitDef) (entry : ℕ) (ins outs : List Column) : Type 0 where
  pub unit : UnitDef
  pub is_entry : slice_get units entry ≡ Some unit
  pub inputs : ins ≡ input_columns unit
  pub outputs : outs ≡ output_columns unit

-- a walk of a program by the seed over rows that came to this end: the text of its trace, the lines of its steps, and how it ends
pub record WalksRows (structs : List StructDef) (units : List UnitDef) (entry seed : ℕ) (rows : List (List ℤ)) (end : RowsEnd)
    (outs : List Column) (text told : List ℕ) (how : Finish) : Type 0 where
  pub trace : Trace
  pub lists : List (List Place)
  pub walked : HasWalked structs units entry seed rows trace lists
  pub text_is : text ≡ text_of trace outs
  pub told_is : told ≡ tick_lines_from 1 lists
  pub how_is : how ≡ finish_over trace.last end

-- a walk of a program by the seed over the rows left of a file: the text of its trace, the lines of its steps, and how it ends
pub record IsWalk (structs : List StructDef) (units : List UnitDef) (entry : ℕ) (left rest : Option (List ℕ)) (seed : ℕ)
    (text told : List ℕ) (how : Finish) : Type 0 where
  pub unit : UnitDef
  pub is_entry : slice_get units entry ≡ Some unit
  pub gathered : List (List ℤ)
  pub end : RowsEnd
  pub gathers : Gathers (input_columns unit) left rest gathered end
  pub walks : WalksRows structs units entry seed gathered end (output_columns unit) text told how

-- the text of a walk was written, or a prefix where a write failed or memory was refused, with the answer for that
pub data WritesWalk (text told : List ℕ) (how : Finish) (out : Output) (answer : Answer) : Type 0 where
  wrote : Appends out.before text out.after → answer.told.items ≡ told → IsEndOf how answer.outcome → WritesWalk text told how out answer
  failed : AppendsPart out.before text out.after → HasRisen out.faults → answer.told.items ≡ [] → answer.outcome.status ≡ status.WriteFault →
      WritesWalk text told how out answer
  refused : AppendsPart out.before text out.after → answer.told.items ≡ [] → answer.outcome.status ≡ status.NoMemory →
      WritesWalk text told how out answer
