-- What bytes mean as a C text.
use Rattle.std.specs.Prelude.{◌≡◌, ℕ, ℤ, List}
use Rattle.bl_tree.specs.declared.row.Trace.{Trace}
use Rattle.bl_ctext.specs.SpellsC.{SpellsC}
use Rattle.bl_ctext.specs.declared.file.CFile.{CFile}
use Rattle.bl_ctext_semantics.specs.Faults.{WellFormed}
use Rattle.bl_ctext_semantics.specs.Parts.{parts_of}
use Rattle.bl_ctext_semantics_laws_places.specs.Behaviour.{Behaviour, behaviour_of}

-- the bytes spell a well-formed file, which has this behaviour
pub record Behaves (bytes : List ℕ) (behaviour : Behaviour) : Type 0 where
  pub file : CFile
  pub spells : SpellsC file bytes
  pub well_formed : WellFormed (parts_of file)
  pub is : behaviour ≡ behaviour_of (parts_of file)

-- the bytes spell a well-formed file, and this is its trace over rows of inputs
pub record TraceOfBytes (bytes : List ℕ) (rows : List (List ℤ)) (trace : Trace) : Type 0 where
  pub behaviour : Behaviour
  pub behaves : Behaves bytes behaviour
  pub is : trace ≡ behaviour.trace rows
