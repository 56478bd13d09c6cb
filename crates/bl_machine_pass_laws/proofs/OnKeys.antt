-- Label and sort distinguish the nodes of a body: what was proved by another numbering of sorts holds by this one.
use Rattle.std.proofs.Common.{◌≡◌, ℕ, zero, suc, List, [], ◌∷◌, Some, refl, ap, sym, ◌∙◌, subst}
use Rattle.std.specs.Prelude.{slice_get}
use Rattle.bl_graph_nodes.specs.Nodes.{ActAt, CheckAt, DepthEndAt, DepthJoinAt, EnterAt, ForkAt, HeadAt, Node, PauseAt, ResumeAt, StartAt, SurfaceEndAt}
use Rattle.bl_graph_nodes.specs.Nodes.{SurfaceJoinAt, TestAt, nodes_in}
use Rattle.bl_graph_nodes.specs.Plain.{plain_block}
use Rattle.bl_graph_nodes.proofs.Differing.{none_is_some, some_same}
use Rattle.bl_ctree_laws_traces.proofs.OnReady.Keys.{Differ, Same, bodies_differ_so, has_at, itself, one_of_each, sort_of}
use Rattle.bl_ctree_laws_traces.proofs.OnReady.Numbering.{stands_at}
use Rattle.bl_machine_pass.specs.Numbered.{sort}
use Rattle.bl_machine_pass_laws.specs.Keys.{NodesHaveKeys}

sorts_agree : (n : Node) → sort_of n ≡ sort n
sorts_agree (ActAt l s) = refl
sorts_agree (TestAt l at e) = refl
sorts_agree (PauseAt l at) = refl
sorts_agree (EnterAt l at arguments) = refl
sorts_agree (ResumeAt l at arguments) = refl
sorts_agree (HeadAt l at) = refl
sorts_agree (StartAt l at) = refl
sorts_agree (CheckAt l at e) = refl
sorts_agree (SurfaceEndAt l at) = refl
sorts_agree (DepthEndAt l at) = refl
sorts_agree (ForkAt l at) = refl
sorts_agree (SurfaceJoinAt l at) = refl
sorts_agree (DepthJoinAt l at) = refl

same_as : (x n : Node) → x ≡ n → Same x n
same_as x n is = subst (Same x) is (itself x)

-- no node stands twice
one_place : (xs : List Node) → Differ xs → (i j : ℕ) (n : Node) → slice_get xs i ≡ Some n → slice_get xs j ≡ Some n → i ≡ j
one_place [] apart i j n one two = absurd (none_is_some n one)
one_place (x ∷ xs) apart zero zero n one two = refl
one_place (x ∷ xs) apart zero (suc j) n one two = absurd (apart.0 (has_at xs j x n two (same_as x n (some_same x n one))))
one_place (x ∷ xs) apart (suc i) zero n one two = absurd (apart.0 (has_at xs i x n one (same_as x n (some_same x n two))))
one_place (x ∷ xs) apart (suc i) (suc j) n one two = ap suc (one_place xs apart.1 i j n one two)

pub nodes_have_keys : NodesHaveKeys
nodes_have_keys = record {
  keys = λ body at n m one other label sorted.
      (let first = stands_at (nodes_in (plain_block body at)) n one in
      let second = stands_at (nodes_in (plain_block body at)) m other in
      one_of_each (nodes_in (plain_block body at)) (bodies_differ_so body at) first.0 second.0 n m first.1 second.1
      (record { label = label; sort = sorts_agree n ∙ sorted ∙ sym (sorts_agree m) }));
  once = λ body at i j n one two. one_place (nodes_in (plain_block body at)) (bodies_differ_so body at) i j n one two;
}
