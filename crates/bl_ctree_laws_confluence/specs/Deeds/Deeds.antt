-- What deeds look at and write, and which of them are done in either order.
use Rattle.std.specs.Prelude.{◌≡◌, ℕ, false, List, [], ◌∷◌, ◌++◌, map, nat_eq, Some, ⊤}
use Rattle.bl_tree.specs.declared.tree.StmtKind.TheOpen.{StmtKind-F}
use Rattle.bl_tree.specs.Apart.{roots_in}
use Rattle.bl_tree.specs.Effects.{reads, target_static, writes}
use Rattle.bl_tree.specs.Reduce.{joined}
use Rattle.bl_tree.specs.Static.{mentions}
use Rattle.bl_ctree.specs.Actions.{Effect, Acts, Asks, Copies, Gives}
use Rattle.bl_ctree.specs.Instances.{Setting}
use Rattle.bl_ctree.specs.Positions.{stmt_kind}
use Rattle.bl_ctree.specs.Store.{Location, homes, overlap, whole_of}
use Rattle.bl_eval_laws.specs.Local.{named_by}
use Rattle.bl_ctree_laws.specs.Ends.{Independent}
use Rattle.bl_ctree_laws.specs.Pending.{Deed}
use Rattle.bl_ctree_laws_confluence.specs.Stores.{homes_of}

-- the homes that it writes
abbrev pub effect_writes : Setting → ℕ → Effect → List Location
effect_writes w i (Acts s) = homes w i (writes s)
effect_writes w i (Gives callee target) = homes w i (target_static target)
effect_writes w i _ = []

-- the homes that an effect reads or writes
abbrev pub effect_looks : Setting → ℕ → Effect → List Location
effect_looks w i (Acts s) = homes w i (reads s ++ writes s)
effect_looks w i (Asks e) = homes w i (mentions e)
effect_looks w i (Copies callee inputs) = homes w i (joined (map mentions inputs))
effect_looks w i (Gives callee target) = homes w i (target_static target)
effect_looks w i _ = []

-- the homes at which it sets what was before to what is now: a declared variable's own
abbrev pub kind_remembers : {A B C D : Type 0} → ℕ → StmtKind-F A B C D → List Location
kind_remembers i (StmtKind-F.Declare k initial) = whole_of i k ∷ []
kind_remembers i _ = []

-- the homes at which the effect sets what was before to what is now
abbrev pub effect_remembers : ℕ → Effect → List Location
effect_remembers i (Acts s) = kind_remembers i (stmt_kind s)
effect_remembers i _ = []

-- the homes whose values before it looks at
abbrev pub effect_names : Setting → ℕ → Effect → List Location
effect_names w i (Acts s) = homes_of w i (named_by s)
effect_names w i (Asks e) = homes_of w i (roots_in e)
effect_names w i (Copies callee inputs) = homes_of w i (joined (map roots_in inputs))
effect_names w i _ = []

-- the instances whose frames it changes as a whole: that of a result, and that of copied inputs
abbrev pub kind_frames : {A B C D : Type 0} → ℕ → StmtKind-F A B C D → List ℕ
kind_frames i (StmtKind-F.Return (Some e)) = i ∷ []
kind_frames i _ = []

-- the instances whose frames the effect changes as a whole
abbrev pub effect_frames : ℕ → Effect → List ℕ
effect_frames i (Acts s) = kind_frames i (stmt_kind s)
effect_frames i (Copies callee inputs) = callee ∷ []
effect_frames i _ = []

-- the instances whose results it looks at
abbrev pub effect_results : Effect → List ℕ
effect_results (Gives callee target) = callee ∷ []
effect_results _ = []

-- the home overlaps none of the homes in the list
abbrev pub ClearOf : Location → List Location → Type 0
ClearOf at [] = ⊤
ClearOf at (other ∷ rest) = (overlap at other ≡ false) × ClearOf at rest

-- no home of the first list overlaps one of the second
abbrev pub Clear : List Location → List Location → Type 0
Clear [] others = ⊤
Clear (at ∷ rest) others = ClearOf at others × Clear rest others

-- the instance is not in the list
abbrev pub NoneOf : ℕ → List ℕ → Type 0
NoneOf i [] = ⊤
NoneOf i (j ∷ rest) = (nat_eq i j ≡ false) × NoneOf i rest

-- the instance is that of none of the homes in the list
abbrev pub NoHome : ℕ → List Location → Type 0
NoHome i [] = ⊤
NoHome i (at ∷ rest) = (nat_eq i at.instance ≡ false) × NoHome i rest

-- a frame that is changed as a whole is not touched by the effect
pub record Untouched (w : Setting) (i : ℕ) (e : Effect) (frame : ℕ) : Type 0 where
  pub looks : NoHome frame (effect_looks w i e)
  pub names : NoHome frame (effect_names w i e)
  pub remembers : NoHome frame (effect_remembers i e)
  pub results : NoneOf frame (effect_results e)
  pub frames : NoneOf frame (effect_frames i e)

-- the effect touches none of the frames in the list
abbrev pub AllUntouched : Setting → ℕ → Effect → List ℕ → Type 0
AllUntouched w i e [] = ⊤
AllUntouched w i e (frame ∷ rest) = Untouched w i e frame × AllUntouched w i e rest

-- the first deed changes nothing that the second looks at: no value, no former value, and no frame
pub record Spares (w : Setting) (a b : Deed) : Type 0 where
  pub looks : Clear (effect_writes w a.instance a.effect) (effect_looks w b.instance b.effect)
  pub remembers : Clear (effect_writes w a.instance a.effect) (effect_remembers b.instance b.effect)
  pub names : Clear (effect_remembers a.instance a.effect) (effect_names w b.instance b.effect)
  pub befores : Clear (effect_remembers a.instance a.effect) (effect_remembers b.instance b.effect)
  pub frames : AllUntouched w b.instance b.effect (effect_frames a.instance a.effect)

-- deeds that spare each other are independent, traps included
abbrev pub DeedsAreIndependent : Type 0
DeedsAreIndependent = (w : Setting) (a b : Deed) → Spares w a b → Spares w b a → Independent w a b
