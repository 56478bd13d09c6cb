-- The law of a whole program.
use Rattle.bl_tree.specs.declared.program.Program.{Program}
use Rattle.bl_emit_laws.specs.Formed.{FilesWellFormed}
use Rattle.bl_emit_laws.specs.Forms.{UnitsMeetConditions}
use Rattle.bl_emit_spec_laws_wellformed_bodies.specs.Structs.Laws.{FilesDeclare}
use Rattle.bl_emit_laws.specs.Accepted.{ProgramsWellFormed}

pub formed : (program : Program) → UnitsMeetConditions program.structs program.units program.entry → FilesDeclare program → FilesWellFormed program →
    ProgramsWellFormed program
formed program forms declares files machine unit keeps passes limits agrees there =
    let structs = declares machine unit keeps limits agrees there in
    files machine unit keeps limits there (forms machine keeps passes limits agrees)
    (record { formed = structs.sound; types = structs.types; parts = structs.parts; interface = structs.interface })
