-- What a step leaves is no more than what was before: it never lets its branch end or write more.
use Rattle.std.specs.Prelude.{ℕ, Bool, true, false, Some, ◌≡◌}
use Rattle.bl_tree.specs.declared.tree.Unit.{Unit as UnitDef}
use Rattle.bl_graph_nodes.specs.Nodes.{are_instant}
use Rattle.bl_graph_nodes.specs.Plain.{plain_body}
use Rattle.bl_graph_nodes.specs.Steps.{StepLabel}
use Rattle.bl_ctree.specs.Instances.{Setting, unit_at}
use Rattle.bl_ctree.specs.Store.{Location}
use Rattle.bl_ctree_laws.specs.Pending.{Deed, may_end, may_write, meets}
use Rattle.bl_ctree_laws.specs.Steps.{Anyway, Moves, Unmet}
use Rattle.bl_ctree_laws.specs.Trees.{Tree, is_settled}

-- no activity that has an instance can end in the tick in which it begins
abbrev pub Paces : Setting → Type 0
Paces w = (i : ℕ) (unit : UnitDef) → unit_at w i ≡ Some unit → are_instant (plain_body unit.body) ≡ false

-- a step that may act is one that could be taken
abbrev pub MayIsCould : Type 0
MayIsCould = (w : Setting) (i : ℕ) (c : Tree) (d : Bool) (a : Deed) (n : StepLabel) (c' : Tree) → Moves Unmet w i c d a n c' → Moves Anyway w i c d a n c'

-- a tree in which something could act is not settled
abbrev pub MovingIsUnsettled : Type 0
MovingIsUnsettled =
    (w : Setting) (i : ℕ) (c : Tree) (d : Bool) (a : Deed) (n : StepLabel) (c' : Tree) → Moves Anyway w i c d a n c' → is_settled c ≡ false

-- where a tree may end after a step it might before
abbrev pub EndsShrink : Type 0
EndsShrink =
    (w : Setting) (i : ℕ) (c : Tree) (d : Bool) (a : Deed) (n : StepLabel) (c' : Tree) → Paces w → Moves Anyway w i c d a n c' →
    may_end c' ≡ true → may_end c ≡ true

-- what a tree may write after a step it may write before the step
abbrev pub WritesShrink : Type 0
WritesShrink =
    (w : Setting) (i : ℕ) (c : Tree) (d : Bool) (a : Deed) (n : StepLabel) (c' : Tree) (at : Location) → Paces w → Moves Anyway w i c d a n c' →
    may_write w i c' at ≡ true → may_write w i c at ≡ true

-- what a tree does not meet before a step it does not meet after the step
abbrev pub MeetsShrink : Type 0
MeetsShrink =
    (w : Setting) (i : ℕ) (c : Tree) (d : Bool) (a : Deed) (n : StepLabel) (c' : Tree) (other : Deed) → Paces w → Moves Anyway w i c d a n c' →
    meets w i c other ≡ false → meets w i c' other ≡ false
