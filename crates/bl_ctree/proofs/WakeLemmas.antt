-- Branches as they are woken.
use Rattle.std.proofs.Common.{◌≡◌, Bool, true, List, [], ◌∷◌, map, refl, ap, sym, ◌∙◌, rules}
use Rattle.bl_ctree.specs.declared.node.At.{At}
use Rattle.bl_ctree.specs.declared.node.Branch.{Branch as BranchNode}
use Rattle.bl_ctree.specs.declared.node.Node.{Node, the_lemmas}
use Rattle.bl_ctree.specs.declared.node.Node.TheViews.{Par as ParNode}
use Rattle.bl_ctree.specs.Control.{Par, all_woken, branch, woken}
use Rattle.bl_ctree.specs.Nodes.{Seen, branches_of, control_of, located, seen_of}
use Rattle.bl_ctree.specs.inner.Wakings.{wake_seen}

pub branches_woken : (all : List Seen) → branches_of (map wake_seen all) ≡ all_woken (branches_of all)
branches_woken [] = refl
branches_woken (b ∷ all) = ap (branch b.weak (woken b.tree)) (branches_woken all)

-- the same from a list that is given as an equation
pub woken_branches : (made all : List Seen) → made ≡ map wake_seen all → branches_of made ≡ all_woken (branches_of all)
woken_branches made all e = ap branches_of e ∙ branches_woken all

pub control_of_par : (s : At) (stood : Bool) (all : List BranchNode) → control_of (ParNode s stood all) ≡ Par (located s) stood (branches_of (map seen_of all))
control_of_par s stood all = search (rules, the_lemmas)

-- a `cobegin` as it is woken
pub par_woken : (node : Node) (s made : At) (stood : Bool) (all woken_all : List BranchNode) → node ≡ ParNode s stood all → located made ≡ located s →
    map seen_of woken_all ≡ map wake_seen (map seen_of all) → control_of (ParNode made true woken_all) ≡ woken (control_of node)
par_woken node s made stood all woken_all is same each =
    control_of_par made true woken_all
    ∙ ap (λ at. Par at true (branches_of (map seen_of woken_all))) same
    ∙ ap (Par (located s) true) (woken_branches (map seen_of woken_all) (map seen_of all) each)
    ∙ sym (ap woken (ap control_of is ∙ control_of_par s stood all))
