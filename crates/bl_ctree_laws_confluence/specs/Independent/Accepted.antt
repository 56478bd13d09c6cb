-- In accepted programs branches are independent, so there is at most one trace.
use Rattle.std.specs.Prelude.{◌≡◌, ℕ, ℤ, Bool, List}
use Rattle.bl_tree.specs.declared.tree.StructDef.{StructDef}
use Rattle.bl_tree.specs.declared.tree.Unit.{Unit as UnitDef}
use Rattle.bl_tree.specs.Program.{IsWellTyped}
use Rattle.bl_effects.specs.Rules.{Passes}
use Rattle.bl_ctree.specs.Instances.{setting_of}
use Rattle.bl_ctree.specs.Means.{Means, ShownTrace}
use Rattle.bl_ctree_laws.specs.Ends.{BranchesAreIndependent, Independent}
use Rattle.bl_ctree_laws.specs.Pending.{Deed}
use Rattle.bl_ctree_laws.specs.Runs.{entry_block}
use Rattle.bl_ctree_laws_confluence.specs.Apart.Parted.{TwoBranches}

-- two steps of different branches are independent in an accepted program
abbrev pub TwoAreIndependent : Type 0
TwoAreIndependent =
    (structs : List StructDef) (units : List UnitDef) (entry : ℕ) (a b : Deed) → IsWellTyped structs units entry → Passes units →
    TwoBranches (setting_of structs units entry) a b → Independent (setting_of structs units entry) a b × Independent (setting_of structs units entry) b a

-- in an accepted program steps of different branches are independent in all residuals of the entry's body
abbrev pub AcceptedIsIndependent : Type 0
AcceptedIsIndependent =
    (structs : List StructDef) (units : List UnitDef) (entry : ℕ) (stood : Bool) → IsWellTyped structs units entry → Passes units →
    BranchesAreIndependent (setting_of structs units entry) stood (entry_block (setting_of structs units entry))

-- an accepted program has at most one trace over each list of rows
abbrev pub AcceptedTracesAreOne : Type 0
AcceptedTracesAreOne =
    (structs : List StructDef) (units : List UnitDef) (entry : ℕ) (rows : List (List ℤ)) (one other : ShownTrace) →
    IsWellTyped structs units entry → Passes units →
    Means structs units entry rows one → Means structs units entry rows other → one ≡ other
