-- Where a text shows that it spells no file.
use Rattle.std.specs.Prelude.{◌≡◌, ◌≢◌, ℕ, ◌<◌, ◌≤◌, ⊤, List, length, slice_index}
use Rattle.bl_ctext.specs.Prelude.{prelude}
use Rattle.bl_ctext.specs.SpellsC.{SpellsC}
use Rattle.bl_ctext.specs.declared.file.CFile.{CFile}
use Rattle.bl_cparse_syntax.specs.Rules.{FailsFirst}
use Rattle.bl_cparse.specs.declared.refusal.CRefusal.{CRefusal}
use Rattle.bl_cparse.specs.declared.refusal.CRefusal.TheVariants.{NotSubset, NoMemory}

-- inside the prelude the text first differs from it at this offset, or ends there
pub record LeavesPreludeAt (text : List ℕ) (at : ℕ) : Type 0 where
  pub within : at < length prelude
  pub inside : at ≤ length text
  pub same : (k : ℕ) → k < at → slice_index text k ≡ slice_index prelude k
  pub differs : at < length text → slice_index text at ≢ slice_index prelude at

-- the refusal names that offset
abbrev pub LeavesPrelude : List ℕ → CRefusal → Type 0
LeavesPrelude text (NotSubset at) = LeavesPreludeAt text at
LeavesPrelude text NoMemory = ⊥

-- the bytes spell no file
abbrev pub SpellsNone : List ℕ → Type 0
SpellsNone text = (file : CFile) → SpellsC file text → ⊥

-- the refusal names the place where what stands behind the prelude stops beginning a text, or memory was wanting
abbrev pub RefusesAt : List ℕ → CRefusal → Type 0
RefusesAt text (NotSubset at) = FailsFirst text (length prelude) at
RefusesAt text NoMemory = ⊤

-- the refusal says that the bytes spell no file, and they spell none, or memory was wanting
abbrev pub RefusesNone : List ℕ → CRefusal → Type 0
RefusesNone text (NotSubset at) = SpellsNone text
RefusesNone text NoMemory = ⊤

-- memory was wanting
abbrev pub WantsMemory : CRefusal → Type 0
WantsMemory (NotSubset at) = ⊥
WantsMemory NoMemory = ⊤
