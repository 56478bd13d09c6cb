-- How bytes spell a text of the C subset.
use Rattle.std.specs.Prelude.{◌≡◌, ℕ, List, ◌++◌}
use Rattle.bl_ctext.specs.Prelude.{prelude}
use Rattle.bl_ctext.specs.Token.{SpacedC}
use Rattle.bl_ctext.specs.Spelling.{tokens_of}
use Rattle.bl_ctext.specs.declared.file.CFile.{CFile}

-- the bytes spell the file: they are the prelude and then the file's tokens, with any white space between them
abbrev pub SpellsC : CFile → List ℕ → Type 0
SpellsC file bytes = (text : List ℕ) × ((bytes ≡ prelude ++ text) × SpacedC (tokens_of file.structs file.funcs) text)
