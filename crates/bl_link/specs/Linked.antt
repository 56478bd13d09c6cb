-- The program of linked parts, and why parts have none.
use Rattle.std.specs.Prelude.{◌≡◌, ℕ, ◌+◌, List, length, ⊤}
use Rattle.bl_joined.specs.Places.{InFile}
use Rattle.bl_joined.specs.Texts.{joined_text}
use Rattle.bl_link.specs.Fits.{FaceFits, FacesFit, IsFirstMisfit, LastFits, PartsFit, part_texts}
use Rattle.bl_link.specs.declared.fault.LinkFault.{LinkFault}
use Rattle.bl_link.specs.declared.fault.LinkFault.TheVariants as fault
use Rattle.bl_module.specs.Parts.{SeenPart}
use Rattle.bl_module_laws.specs.Laws.{IsLimit}
use Rattle.bl_parse_tree.specs.declared.raw.Raw.{Raw}
use Rattle.bl_rules.specs.Rules.{Parses, TreeFails, TreePasses}
use Rattle.bl_tree.specs.declared.place.Place.{Place}
use Rattle.bl_tree.specs.declared.program.Program.{Program}
use Rattle.bl_tree.specs.declared.rule.Rule.{Rule}
use Rattle.bl_tree.specs.Rules.{FailsFirst}
use Rattle.bl_types_program.specs.Programs.{IsProgramOf}

-- the texts, joined, have this tree
abbrev pub HaveTree : List (List ℕ) → Raw → Type 0
HaveTree texts raw = Parses (joined_text texts) raw

-- no rule fails for the tree of the joined texts, and this is its program
pub record HaveProgram (texts : List (List ℕ)) (program : Program) : Type 0 where
  pub raw : Raw
  pub tree : HaveTree texts raw
  pub passes : TreePasses raw
  pub is : IsProgramOf raw program

-- a place of the joined texts begins in the text with this number, counted from 1, and is `own` there
pub record IsPlaceIn (texts : List (List ℕ)) (place : Place) (file : ℕ) (own : Place) : Type 0 where
  pub position : ℕ
  pub counted : file ≡ position + 1
  pub stands : InFile texts place position own

-- the rule is the first that fails for the tree of the joined texts, at this place of the text with the number; it is Frames or Cells
pub record FailJoined (texts : List (List ℕ)) (file : ℕ) (rule : Rule) (own : Place) : Type 0 where
  pub raw : Raw
  pub tree : HaveTree texts raw
  pub place : Place
  pub also : List Place
  pub first : FailsFirst (TreeFails raw) rule place also
  pub in_file : IsPlaceIn texts place file own
  pub limit : IsLimit rule

-- the parts fit together, and their joined texts have this program
pub record AreLinked (parts : List SeenPart) (program : Program) : Type 0 where
  pub fit : PartsFit parts
  pub have : HaveProgram (part_texts parts) program

-- why parts aren't linked: the first that doesn't use the faces before it; else the first that is wrongly judged as the last file, or as an earlier one; else
-- Frames or Cells, which fails for the tree of their joined texts. Want of memory has no cause in them
abbrev pub LinkStops : List SeenPart → LinkFault → Type 0
LinkStops parts (fault.Face part) = IsFirstMisfit (FaceFits parts) (length parts) part
LinkStops parts (fault.Last part) = FacesFit parts × IsFirstMisfit (LastFits parts) (length parts) part
LinkStops parts (fault.Rule file rule place) = PartsFit parts × FailJoined (part_texts parts) file rule place
LinkStops parts fault.NoMemory = ⊤
