-- C texts and saved states on their way through a job.
use Rattle.std.specs.Prelude.{◌≡◌, ℕ, ◌≤◌, ℤ, List, length, Option}
use Rattle.bl_ctext_semantics.specs.Parts.{Parts}
use Rattle.bl_ctext_semantics_laws_places.specs.Behaviour.{behaviour_of}
use Rattle.bl_top_commands.specs.Bound.{TellsBounds}
use Rattle.bl_top_commands.specs.Exec.{Loads}
use Rattle.bl_top_commands.specs.Reads.{longest_text}
use Rattle.bl_top_commands.specs.Save.{HoldsState}
use Rattle.bl_top_commands.specs.Sources.{IsSource}
use Rattle.bl_cparse.specs.HasPlaces.{HasPlaces}
use Rattle.bl_crun.specs.Running.{Running}
use Rattle.bl_ctext.specs.declared.file.CFile.{CFile}
use Rattle.bl_ctext.specs.SpellsC.{SpellsC}
use Rattle.bl_rows_stream_laws.specs.Resumed.{runner_from}

-- a text that isn't too long spells this file, with its places
pub record IsFileIn (text : List ℕ) (file : CFile) : Type 0 where
  pub short : length text ≤ longest_text
  pub spells : SpellsC file text
  pub placed : HasPlaces text file

-- the text that was left of a file spells this C file, with its places
pub record IsFileOf (left : Option (List ℕ)) (file : CFile) : Type 0 where
  pub text : List ℕ
  pub of_source : IsSource left text
  pub is : IsFileIn text file

-- the text that was left of a file has a C file with these parts, which can be loaded
pub record HasLoaded (left : Option (List ℕ)) (parts : Parts) : Type 0 where
  pub text : List ℕ
  pub of_source : IsSource left text
  pub loads : Loads text (behaviour_of parts)
  pub is : loads.file ≡ parts

-- the bytes tell the costs of the functions of the text that was left of a file
pub record HasBounds (left : Option (List ℕ)) (written : List ℕ) : Type 0 where
  pub text : List ℕ
  pub of_source : IsSource left text
  pub tells : TellsBounds text written

-- a runner of a file stands where the saved state says that was left of a file
pub record StandsAt (left : Option (List ℕ)) (file : Parts) (runner : Running) : Type 0 where
  pub numbers : List ℤ
  pub holds : HoldsState file left numbers
  pub is : runner ≡ runner_from file numbers
