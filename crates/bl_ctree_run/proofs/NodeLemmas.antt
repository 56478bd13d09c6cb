-- What nodes with others inside them show.
use Rattle.std.proofs.Common.{◌≡◌, ℕ, Bool, List, map, ap, ◌∙◌, rules}
use Rattle.bl_ctree.specs.declared.node.At.{At}
use Rattle.bl_ctree.specs.declared.node.Branch.{Branch as BranchNode}
use Rattle.bl_ctree.specs.declared.node.Node.{Node, the_lemmas}
use Rattle.bl_ctree.specs.declared.node.Node.TheVariants.{Nil as NilNode}
use Rattle.bl_ctree.specs.declared.node.Node.TheViews.{Seq as SeqNode, Par as ParNode, Guard as GuardNode, Run as RunNode}
use Rattle.bl_ctree.specs.declared.node.Phase.{Phase as PhaseNode}
use Rattle.bl_ctree.specs.declared.node.Phase.TheVariants.{Body as AtBody}
use Rattle.bl_ctree.specs.declared.node.Rest.{Rest}
use Rattle.bl_ctree.specs.Control.{Nil, Seq, Par, Guard, Run, Body}
use Rattle.bl_ctree.specs.Nodes.{branches_of, control_of, items_of, located, phase_of, seen_of}
use Rattle.bl_ctree.proofs.WakeLemmas.{control_of_par}

pub control_of_nil : control_of NilNode ≡ Nil
control_of_nil = search (rules, the_lemmas)

pub control_of_seq : (inner : Node) (rest : Rest) → control_of (SeqNode inner rest) ≡ Seq (control_of inner) (items_of rest)
control_of_seq inner rest = search (rules, the_lemmas)

control_of_guard : (s : At) (phase : PhaseNode) (stood : Bool) (inner : Node) →
    control_of (GuardNode s phase stood inner) ≡ Guard (located s) (phase_of phase) stood (control_of inner)
control_of_guard s phase stood inner = search (rules, the_lemmas)

control_of_run : (s : At) (callee : ℕ) (phase : PhaseNode) (stood : Bool) (inner : Node)
    → control_of (RunNode s callee phase stood inner) ≡ Run (located s) callee (phase_of phase) stood (control_of inner)
control_of_run s callee phase stood inner = search (rules, the_lemmas)

-- a `cobegin` made anew with these branches
pub par_made : (s made : At) (stood : Bool) (all : List BranchNode) → located made ≡ located s →
    control_of (ParNode made stood all) ≡ Par (located s) stood (branches_of (map seen_of all))
par_made s made stood all same = control_of_par made stood all ∙ ap (λ at. Par at stood (branches_of (map seen_of all))) same

-- ---- a node, by its parts

pub seq_is : (node inner : Node) (rest : Rest) → node ≡ SeqNode inner rest → control_of node ≡ Seq (control_of inner) (items_of rest)
seq_is node inner rest is = ap control_of is ∙ control_of_seq inner rest

pub guard_is : (node : Node) (s : At) (phase : PhaseNode) (stood : Bool) (inner : Node) → node ≡ GuardNode s phase stood inner → phase ≡ AtBody
    → control_of node ≡ Guard (located s) Body stood (control_of inner)
guard_is node s phase stood inner is body = ap control_of is ∙ control_of_guard s phase stood inner
    ∙ ap (λ phase. Guard (located s) (phase_of phase) stood (control_of inner)) body

pub run_is : (node : Node) (s : At) (callee : ℕ) (phase : PhaseNode) (stood : Bool) (inner : Node) →
    node ≡ RunNode s callee phase stood inner → phase ≡ AtBody
    → control_of node ≡ Run (located s) callee Body stood (control_of inner)
run_is node s callee phase stood inner is body = ap control_of is ∙ control_of_run s callee phase stood inner
    ∙ ap (λ phase. Run (located s) callee (phase_of phase) stood (control_of inner)) body
