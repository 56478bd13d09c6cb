-- The typed program of a raw tree.
use Rattle.std.specs.Prelude.{◌≡◌}
use Rattle.bl_tree.specs.declared.program.Program.{Program}
use Rattle.bl_names_tree.specs.declared.named.Named.{Named}
use Rattle.bl_parse_tree.specs.declared.raw.Raw.{Raw}
use Rattle.bl_names.specs.Named.{named_program}
use Rattle.bl_types.specs.declared.environment.Typed.{Typed}
use Rattle.bl_types.specs.Programs.{typed_program}

-- the tree with positions in place of names
abbrev pub named_of : Raw → Named
named_of raw = named_program raw.items raw.bytes

-- the structs and units of a tree with their types, and its entry
abbrev pub typed_of : Raw → Typed
typed_of raw = typed_program (named_of raw)

-- the program has exactly the structs, units and entry of the typed tree
pub record IsProgramOf (raw : Raw) (program : Program) : Type 0 where
  pub structs : program.structs ≡ (typed_of raw).structs
  pub units : program.units ≡ (typed_of raw).units
  pub entry : program.entry ≡ (typed_of raw).entry
