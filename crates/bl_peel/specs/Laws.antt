-- What a body and its copy with first turns have in common.
use Rattle.std.specs.Prelude.{◌≡◌, List, [], ◌∷◌, map}
use Rattle.bl_tree.specs.declared.static_path.Static.{Static}
use Rattle.bl_tree.specs.declared.tree.Stmt.{Stmt}
use Rattle.bl_tree.specs.Effects.{reads, writes}
use Rattle.bl_tree.specs.Instant.{instant, is_instant_block}
use Rattle.bl_tree.specs.Reduce.{joined}
use Rattle.bl_tree.specs.Static.{set_of}
use Rattle.bl_tree.specs.Within.{effect_of}
use Rattle.bl_effects.specs.Surface.{block_surface, surface_of, width}
use Rattle.bl_peel.specs.Peeled.{peeled, peeling}

-- ---- what a block does

-- the set of the static paths that the statements of a block read
abbrev pub block_reads : List Stmt → List Static
block_reads body = set_of (joined (map reads body))

-- the set of the static paths that the statements of a block write
abbrev pub block_writes : List Stmt → List Static
block_writes body = set_of (joined (map writes body))

-- the set of the static paths that a block that begins can write before it pauses
abbrev pub block_surface_writes : List Stmt → List Static
block_surface_writes body = set_of (block_surface (map surface_of body))

-- a block has the effects of another: whether it may end at once, its width, and what it reads and writes, also before it pauses
pub record HasEffectsOf (source made : List Stmt) : Type 0 where
  pub instant : is_instant_block made ≡ is_instant_block source
  pub width : width made ≡ width source
  pub reads : block_reads made ≡ block_reads source
  pub writes : block_writes made ≡ block_writes source
  pub surface : block_surface_writes made ≡ block_surface_writes source

-- ---- the laws

-- each body with first turns has the effects of its source
abbrev pub PeeledHasEffects : Type 0
PeeledHasEffects = (body : List Stmt) → HasEffectsOf body (peeled body)

-- a copy outside of first turns has the place and the effects of its source
abbrev pub DeepHasEffects : Type 0
DeepHasEffects = (s : Stmt) → effect_of (peeling s).deep ≡ effect_of s

-- what a statement becomes where it begins a branch has its effects
abbrev pub FrontHasEffects : Type 0
FrontHasEffects = (s : Stmt) → HasEffectsOf (s ∷ []) (peeling s).front

-- what peeling carries along is whether a statement may end in the tick in which it begins
abbrev pub PeelingTellsInstant : Type 0
PeelingTellsInstant = (s : Stmt) → (peeling s).instant ≡ instant s
