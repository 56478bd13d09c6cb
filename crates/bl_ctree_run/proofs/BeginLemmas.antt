-- What a statement that begins becomes, by its kind.
use Rattle.std.proofs.Common.{◌≡◌, ℕ, suc, Bool, true, false, List, [], ◌∷◌, refl, sym, ap, ◌∙◌}
use Rattle.bl_tree.specs.declared.tree.Arm.{Arm}
use Rattle.bl_tree.specs.declared.tree.Branch.{Branch as BranchOf, out-Branch}
use Rattle.bl_tree.specs.declared.tree.Stmt.{Stmt, out-Stmt}
use Rattle.bl_tree.specs.declared.tree.StmtKind.{StmtKind, out-StmtKind}
use Rattle.bl_tree.specs.declared.tree.StmtKind.TheOpen.{StmtKind-F}
use Rattle.bl_ctree.specs.Control.{Nil, Par, branch, branches_begun, do_all}
use Rattle.bl_ctree.specs.Instances.{Setting}
use Rattle.bl_ctree.specs.Nodes.{Seen, branches_of}
use Rattle.bl_ctree.specs.Points.{begins}
use Rattle.bl_ctree.specs.Positions.{Located, block_items, is_act, kind_of}
use Rattle.bl_ctree_run.specs.inner.Spots.{first_after, seen_begun}

pub begun_at : (w : Setting) (i : ℕ) (s : Located) (d : Bool) (kind : StmtKind) (layer : StmtKind-F StmtKind Arm BranchOf Stmt) →
    (out-Stmt s.stmt).what ≡ kind → out-StmtKind kind ≡ layer
    → first_after (begins w i s (kind_of s)) d ≡ first_after (begins w i s layer) d
begun_at w i s d kind layer is outs = ap (λ k. first_after (begins w i s k) d) (ap out-StmtKind is ∙ outs)

acts_nil : (w : Setting) (i : ℕ) (s : Located) (d : Bool) (k : StmtKind-F StmtKind Arm BranchOf Stmt) → is_act k ≡ true →
    Nil ≡ first_after (begins w i s k) d
acts_nil w i s d (StmtKind-F.Declare k initial) acts = refl
acts_nil w i s d (StmtKind-F.Assign path e) acts = refl
acts_nil w i s d (StmtKind-F.Call f inputs outputs) acts = refl
acts_nil w i s d (StmtKind-F.Return e) acts = refl
acts_nil w i s d (StmtKind-F.Await e) acts = absurd cc
acts_nil w i s d (StmtKind-F.Run target a inputs outputs) acts = absurd cc
acts_nil w i s d (StmtKind-F.If arms other) acts = absurd cc
acts_nil w i s d (StmtKind-F.Cobegin branches) acts = absurd cc
acts_nil w i s d (StmtKind-F.When guard e body) acts = absurd cc
acts_nil w i s d (StmtKind-F.Repeat body) acts = absurd cc
acts_nil w i s d (StmtKind-F.Until body e) acts = absurd cc
acts_nil w i s d (StmtKind-F.While e body) acts = absurd cc

-- an act ends
pub act_ends : (w : Setting) (i : ℕ) (s : Located) (d : Bool) (kind : StmtKind) (layer : StmtKind-F StmtKind Arm BranchOf Stmt) →
    (out-Stmt s.stmt).what ≡ kind → out-StmtKind kind ≡ layer
    → is_act layer ≡ true → Nil ≡ first_after (begins w i s (kind_of s)) d
act_ends w i s d kind layer is outs acts = acts_nil w i s d layer acts ∙ sym (begun_at w i s d kind layer is outs)

-- the branches of a `cobegin` as they begin
pub forked : (s : Located) (k : ℕ) (bs : List BranchOf) → branches_of (seen_begun s.position k bs) ≡ branches_begun s k bs
forked s k [] = refl
forked s k (b ∷ bs) = ap (branch (out-Branch b).weak (do_all (block_items s k (out-Branch b).body))) (forked s (suc k) bs)

pub forks_par : (w : Setting) (i : ℕ) (s : Located) (d : Bool) (kind : StmtKind) (bs made_of : List BranchOf) (position : List ℕ) (made : List Seen)
    → (out-Stmt s.stmt).what ≡ kind → out-StmtKind kind ≡ StmtKind-F.Cobegin bs → position ≡ s.position → made_of ≡ bs →
    made ≡ seen_begun position 0 made_of
    → Par s false (branches_of made) ≡ first_after (begins w i s (kind_of s)) d
forks_par w i s d kind bs made_of position made is outs at same is_made =
    ap (λ all. Par s false (branches_of all)) (is_made ∙ (λ j. seen_begun (at j) 0 (same j)))
    ∙ ap (Par s false) (forked s 0 bs)
    ∙ sym (begun_at w i s d kind (StmtKind-F.Cobegin bs) is outs)
