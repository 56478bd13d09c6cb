-- Frames of instances: what the counters of each hold while it isn't passed.
use Rattle.std.specs.Prelude.{◌≡◌, ◌⊎◌, ℕ, ◌<◌, Bool, List, Some, ⊤}
use Rattle.bl_tree.specs.declared.place.Place.{Place as Source}
use Rattle.bl_tree.specs.declared.tree.StructDef.{StructDef}
use Rattle.bl_tree.specs.declared.tree.Unit.{Unit as UnitDef}
use Rattle.bl_graph_nodes.specs.Plain.{Block}
use Rattle.bl_ctree.specs.Instances.{callee_of, setting_of}
use Rattle.bl_ctree_laws.specs.Trees.{Tree, Trees, Nil, Wait, Test, Idle, Do, Seq, Par, Guard, Run, beside, do_block, no_tree, woken}
use Rattle.bl_ctree_laws_confluence.specs.Deeds.Nesting.{Inside}
use Rattle.bl_ctree_laws_confluence.specs.Apart.Seen.{InCall}
use Rattle.bl_ctree_laws_traces.specs.Progress.FitsGraph.{FitsGraph}
use Rattle.bl_ctree_laws_traces.specs.Progress.Places.{whole}
use Rattle.bl_machine.specs.Uses.{Slots}
use Rattle.bl_machine_laws.specs.Numbers.Numbers.{Over, numbers_of}
use Rattle.bl_machine_pass.specs.Registers.{with_at}

-- ---- frames

-- what each counter of each instance holds
abbrev pub Frames : Type 0
Frames = ℕ → ℕ → ℕ

-- the counters hold the numbers of the tree
abbrev pub CountersMatchTree : Slots → (ℕ → ℕ) → Tree → Type 0
CountersMatchTree slots counters c = (j : ℕ) → counters j ≡ numbers_of slots c Over j

abbrev mutual
  -- CallsMatchTree slots frames c: for each `run` in the tree, nested calls included, the callee's frame holds the numbers of what is left of its body. Frames
  -- of instances that aren't called are arbitrary
  pub CallsMatchTree : (ℕ → Slots) → Frames → Tree → Type 0
  CallsMatchTree slots frames Nil = ⊤
  CallsMatchTree slots frames (Wait s) = ⊤
  CallsMatchTree slots frames (Test s) = ⊤
  CallsMatchTree slots frames (Idle body) = ⊤
  CallsMatchTree slots frames (Do s) = ⊤
  CallsMatchTree slots frames (Seq c rest) = CallsMatchTree slots frames c
  CallsMatchTree slots frames (Par s stood branches) = AllCallsMatchTree slots frames branches
  CallsMatchTree slots frames (Guard s phase stood c) = CallsMatchTree slots frames c
  CallsMatchTree slots frames (Run s callee phase stood c) = CountersMatchTree (slots callee) (frames callee) c × CallsMatchTree slots frames c

  -- AllCallsMatchTree slots frames branches: for each `run` in the branches, nested calls included, the callee's frame holds the numbers of what is left of its
  -- body
  pub AllCallsMatchTree : (ℕ → Slots) → Frames → Trees → Type 0
  AllCallsMatchTree slots frames no_tree = ⊤
  AllCallsMatchTree slots frames (beside weak c branches) = CallsMatchTree slots frames c × AllCallsMatchTree slots frames branches

-- the frames match a tree: that of its instance, and those of all that is called in it, have the trees' numbers
abbrev pub FramesMatchTree : (ℕ → Slots) → Frames → ℕ → Tree → Type 0
FramesMatchTree slots frames i c = CountersMatchTree (slots i) (frames i) c × CallsMatchTree slots frames c

-- ---- called instances

abbrev mutual
  -- the instance k is called in the tree, or in what is called there
  pub CalledIn : Tree → ℕ → Type 0
  CalledIn Nil k = ⊥
  CalledIn (Wait s) k = ⊥
  CalledIn (Test s) k = ⊥
  CalledIn (Idle body) k = ⊥
  CalledIn (Do s) k = ⊥
  CalledIn (Seq c rest) k = CalledIn c k
  CalledIn (Par s stood branches) k = OneCalledIn branches k
  CalledIn (Guard s phase stood c) k = CalledIn c k
  CalledIn (Run s callee phase stood c) k = (k ≡ callee) ⊎ CalledIn c k

  -- the instance k is called in one of the branches, or in what is called there
  pub OneCalledIn : Trees → ℕ → Type 0
  OneCalledIn no_tree k = ⊥
  OneCalledIn (beside weak c branches) k = CalledIn c k ⊎ OneCalledIn branches k

-- the frames differ for these instances alone
abbrev pub ChangeOnly : (ℕ → Type 0) → Frames → Frames → Type 0
ChangeOnly These frames frames' = (k : ℕ) → (These k → ⊥) → (j : ℕ) → frames' k j ≡ frames k j

-- ---- laws

-- frames of trees that stand in the tick graph of their unit, in a program with these structures, units and entry
pub record FramesNest (structs : List StructDef) (units : List UnitDef) (entry : ℕ) : Type 0 where
  -- what is called in a tree is inside a call of its instance, and has a greater number
  pub called : (i k : ℕ) (c : Tree) (stood : Bool) (body : Block) → let w = setting_of structs units entry in
      FitsGraph w i c (whole stood body) → CalledIn c k → InCall w i k × (i < k)
  -- frames of instances that aren't called don't matter
  pub others : (slots : ℕ → Slots) (frames frames' : Frames) (c : Tree) → ((k : ℕ) → CalledIn c k → (j : ℕ) → frames' k j ≡ frames k j) →
      CallsMatchTree slots frames c → CallsMatchTree slots frames' c
  -- a new frame for the instance itself keeps the match of the frames of its callees
  pub own : (slots : ℕ → Slots) (frames : Frames) (i : ℕ) (c : Tree) (stood : Bool) (body : Block) (counters : ℕ → ℕ) →
      let w = setting_of structs units entry in
      FitsGraph w i c (whole stood body) → CallsMatchTree slots frames c → CallsMatchTree slots (with_at i counters frames) c
  -- a new frame with the numbers of the tree makes the frames match the tree
  pub holds : (slots : ℕ → Slots) (frames : Frames) (i : ℕ) (c : Tree) (stood : Bool) (body : Block) (counters : ℕ → ℕ) →
      let w = setting_of structs units entry in
      FitsGraph w i c (whole stood body) → CallsMatchTree slots frames c → CountersMatchTree (slots i) counters c →
      FramesMatchTree slots (with_at i counters frames) i c
  -- other frames inside one call of an instance keep what is inside another call
  pub apart : (slots : ℕ → Slots) (frames frames' : Frames) (i one two : ℕ) (place other : Source) (c : Tree) (stood : Bool) (body : Block) →
      let w = setting_of structs units entry in
      callee_of w i place ≡ Some one → callee_of w i other ≡ Some two → (one ≡ two → ⊥) → FitsGraph w two c (whole stood body) →
      ChangeOnly (Inside w one) frames frames' → FramesMatchTree slots frames two c → FramesMatchTree slots frames' two c
  -- a body that begins has called nothing
  pub begins : (slots : ℕ → Slots) (frames : Frames) (body : Block) → CallsMatchTree slots frames (do_block body)
  -- frames that match a tree match it once it is woken in a new tick
  pub wakes : (slots : ℕ → Slots) (frames : Frames) (i : ℕ) (c : Tree) (stood : Bool) (body : Block) → let w = setting_of structs units entry in
      FitsGraph w i c (whole stood body) → FramesMatchTree slots frames i c → FramesMatchTree slots frames i (woken c)

-- frames nest in every program
abbrev pub AllFramesNest : Type 0
AllFramesNest = (structs : List StructDef) (units : List UnitDef) (entry : ℕ) → FramesNest structs units entry
