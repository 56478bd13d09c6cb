-- What nodes and their branches show.
use Rattle.std.proofs.Common.{◌≡◌, ℕ, zero, suc, Bool, List, [], ◌∷◌, map, Some, refl, ap, ◌∙◌}
use Rattle.std.specs.Prelude.{option_map, slice_get, slice_set}
use Rattle.bl_ctree.specs.declared.node.At.{At}
use Rattle.bl_ctree.specs.declared.node.Branch.{Branch as BranchNode, fold_out-Branch, out-Branch}
use Rattle.bl_ctree.specs.declared.node.Node.{Node}
use Rattle.bl_ctree.specs.declared.node.Node.TheViews.{Par as ParNode}
use Rattle.bl_ctree.specs.Control.{Control, Branches, Par, no_branch, branch}
use Rattle.bl_ctree.specs.Nodes.{Seen, branch_seen, branches_of, control_of, located, node_control, seen_of}
use Rattle.bl_ctree_enabled.specs.Listing.{each_branch}
use Rattle.bl_ctree_enabled.specs.Spots.{moved}
use Rattle.bl_ctree.proofs.WakeLemmas.{control_of_par}

pub par_is : (node : Node) (s : At) (stood : Bool) (all : List BranchNode) → node ≡ ParNode s stood all →
    control_of node ≡ Par (located s) stood (branches_of (map seen_of all))
par_is node s stood all is = ap control_of is ∙ control_of_par s stood all

pub seen_out : (b : BranchNode) → seen_of b ≡ record { weak = (out-Branch b).weak; tree = control_of (out-Branch b).tree }
seen_out b = fold_out-Branch Control Seen node_control branch_seen b

pub each_of : (xs : List Seen) → each_branch (branches_of xs) ≡ xs
each_of [] = refl
each_of (b ∷ xs) = ap (λ rest. b ∷ rest) (each_of xs)

pub of_each : (bs : Branches) → branches_of (each_branch bs) ≡ bs
of_each no_branch = refl
of_each (branch weak c rest) = ap (branch weak c) (of_each rest)

-- a branch that is as weak as before
pub moved_set : (bs : List Seen) (k : ℕ) (weak : Bool) (d : Control) → option_map (λ (b : Seen). b.weak) (slice_get bs k) ≡ Some weak →
    slice_set bs k (record { weak = weak; tree = d }) ≡ moved bs k (λ c. d)
moved_set [] k weak d is = refl
moved_set (b ∷ bs) zero weak d is = let same : weak ≡ b.weak = cc in ap (λ (weak : Bool). record { weak = weak; tree = d } ∷ bs) same
moved_set (b ∷ bs) (suc k) weak d is = ap (λ rest. b ∷ rest) (moved_set bs k weak d is)
