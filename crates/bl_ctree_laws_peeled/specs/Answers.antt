-- What is asked of a block or a tree has one answer where first turns of loops are unrolled.
use Rattle.std.specs.Prelude.{ℕ, Bool, ◌≡◌}
use Rattle.bl_tree.specs.declared.static_path.Static.{Static}
use Rattle.bl_graph_nodes.specs.Nodes.{are_instant}
use Rattle.bl_graph_nodes.specs.Plain.{Block}
use Rattle.bl_ctree.specs.Instances.{Setting}
use Rattle.bl_ctree_laws.specs.Pending.{Deed, may_end, may_write_path, meets, soon_in}
use Rattle.bl_ctree_laws.specs.Trees.{Tree, before, is_nil, is_settled}
use Rattle.bl_ctree_laws_peeled.specs.Lines.{Related}
use Rattle.bl_ctree_laws_peeled.specs.Settings.{SameProgram}
use Rattle.bl_ctree_laws_peeled.specs.Unrolls.{AnyHead, Unrolls}

-- two blocks may end at once, and may write before the next pause, alike
pub record SameBlockAnswers (body body' : Block) : Type 0 where
  pub instant : are_instant body ≡ are_instant body'
  pub soon : (test : Static → Bool) → soon_in test body ≡ soon_in test body'

-- two trees have ended, are settled, may end and may write alike
pub record SameTreeAnswers (c t : Tree) : Type 0 where
  pub ended : is_nil c ≡ is_nil t
  pub settled : is_settled c ≡ is_settled t
  pub ends : may_end c ≡ may_end t
  pub writes : (test : Static → Bool) → may_write_path test c ≡ may_write_path test t

-- two deeds of one instance with one effect, at whatever places
pub record SameDeed (a b : Deed) : Type 0 where
  pub instance : a.instance ≡ b.instance
  pub effect : a.effect ≡ b.effect

-- each block is itself with no first turn unrolled
abbrev pub BlocksUnrollToThemselves : Type 0
BlocksUnrollToThemselves = (i : ℕ) (body : Block) → Unrolls (AnyHead i) body body

-- first turns are unrolled in a block and in one after it
abbrev pub UnrollingJoins : Type 0
UnrollingJoins =
    (i : ℕ) (body body' after after' : Block) → Unrolls (AnyHead i) body body' → Unrolls (AnyHead i) after after' →
    Unrolls (AnyHead i) (before body after) (before body' after')

-- a block with first turns unrolled has the answers of the block
abbrev pub UnrolledAnswers : Type 0
UnrolledAnswers = (i : ℕ) (body body' : Block) → Unrolls (AnyHead i) body body' → SameBlockAnswers body body'

-- related trees have the same answers
abbrev pub RelatedAnswers : Type 0
RelatedAnswers = (i : ℕ) (c t : Tree) → Related AnyHead i c t → SameTreeAnswers c t

-- related trees meet one deed alike
abbrev pub RelatedMeet : Type 0
RelatedMeet =
    (w w' : Setting) (i : ℕ) (c t : Tree) (a b : Deed) → SameProgram AnyHead w w' → Related AnyHead i c t → SameDeed a b → meets w i c a ≡ meets w' i t b
