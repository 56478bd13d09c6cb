-- The program of a source text, or of a raw tree, that is accepted.
use Rattle.std.specs.Prelude.{ℕ, List}
use Rattle.bl_cause.specs.Accepted.{AcceptedProgram}
use Rattle.bl_cause_trees.specs.Peeled.{IsPeeled}
use Rattle.bl_types_program.specs.Programs.{IsProgramOf}
use Rattle.bl_parse_tree.specs.declared.raw.Raw.{Raw}
use Rattle.bl_parse_tree.specs.WellFormed.{RawIsWellFormed}
use Rattle.bl_rules.specs.Rules.{Parses, Passes, ProgramPasses, TreePasses}
use Rattle.bl_tree.specs.declared.program.Program.{Program}

-- no rule fails for the text, and this is its tree
pub record HasTree (text : List ℕ) (raw : Raw) : Type 0 where
  pub passes : Passes text
  pub parses : Parses text raw

-- no rule fails for the text, and this is its program
pub record HasProgram (text : List ℕ) (program : Program) : Type 0 where
  pub raw : Raw
  pub has : HasTree text raw
  pub is : IsProgramOf raw program

-- no rule fails for some well-formed tree, and this is its program
pub record IsOfTree (program : Program) : Type 0 where
  pub raw : Raw
  pub well_formed : RawIsWellFormed raw.items
  pub passes : TreePasses raw
  pub is : IsProgramOf raw program

-- what contracts see of an accepted source
pub record SeenSource : Type 0 where
  -- the program of the source
  pub program : Program
  -- its peeled program, accepted by itself: C is made of it
  pub peeled : AcceptedProgram

-- the program of a source is that of a well-formed tree for which no rule fails, and the other program is the peeled one
pub record IsAcceptedSource (source : SeenSource) : Type 0 where
  pub of_tree : IsOfTree source.program
  pub passes : ProgramPasses source.program.structs source.program.units source.program.entry
  pub is_peeled : IsPeeled source.program source.peeled.program
