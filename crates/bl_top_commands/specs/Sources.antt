-- What is known of the source of a job: its tree, its program, and what is written for it.
use Rattle.std.specs.Prelude.{◌≡◌, ℕ, List, Option}
use Rattle.bl_ctext_semantics_laws_places.specs.Behaviour.{Behaviour}
use Rattle.bl_ctext_semantics_laws_places.specs.Bytes.{Behaves}
use Rattle.bl_top_commands.specs.Traces.{HasCourse, OneTrace}
use Rattle.bl_types_program.specs.Programs.{typed_of}
use Rattle.bl_parse_tree.specs.declared.raw.Raw.{Raw}
use Rattle.bl_rules.specs.Accepted.{HasProgram, HasTree}
use Rattle.bl_rows_stream.specs.Streams.{AreLeft, Course}
use Rattle.bl_tree.specs.declared.program.Program.{Program}
use Rattle.bl_tree.specs.declared.tree.StructDef.{StructDef}
use Rattle.bl_tree.specs.declared.tree.Unit.{Unit as UnitDef}

-- the text of a source, or a C text: what was left of its file, where that is told
abbrev pub IsSource : Option (List ℕ) → List ℕ → Type 0
IsSource = AreLeft

-- no rule fails for a source, and this is its raw tree
pub record IsRawTreeOf (left : Option (List ℕ)) (raw : Raw) : Type 0 where
  pub source : List ℕ
  pub of_source : IsSource left source
  pub has : HasTree source raw

-- no rule fails for a source, and this is its program
pub record IsProgramOfSource (left : Option (List ℕ)) (program : Program) : Type 0 where
  pub source : List ℕ
  pub of_source : IsSource left source
  pub has : HasProgram source program

-- the bytes spell a well-formed C file, behave as it does, and have the one trace of the program with this entry
pub record IsTextOfProgram (structs : List StructDef) (units : List UnitDef) (entry : ℕ) (text : List ℕ) : Type 0 where
  pub behaviour : Behaviour
  pub behaves : Behaves text behaviour
  pub one_trace : OneTrace structs units entry behaviour

-- the bytes are a C text of the program of a source. What `build` writes is one (`IsBuiltOf`); the laws ask for no more
pub record IsTextOf (left : Option (List ℕ)) (text : List ℕ) : Type 0 where
  pub raw : Raw
  pub tree : IsRawTreeOf left raw
  pub is : IsTextOfProgram (typed_of raw).structs (typed_of raw).units (typed_of raw).entry text

-- the course runs the program of a source
pub record RunsAs (left : Option (List ℕ)) (course : Course) : Type 0 where
  pub raw : Raw
  pub tree : IsRawTreeOf left raw
  pub has : HasCourse (typed_of raw).structs (typed_of raw).units (typed_of raw).entry course
