-- Where numbers rise along control edges something stands in the turn of each loop.
use Rattle.std.proofs.Common.{◌≡◌, ℕ, Bool, false, inl, inr, refl, arith}
use Rattle.bl_tree.specs.declared.place.Place.{Place}
use Rattle.bl_tree.specs.declared.tree.Expr.{Expr}
use Rattle.bl_graph_nodes.specs.Nodes.{HeadAt, Node, TestAt, is_instant}
use Rattle.bl_graph_nodes.specs.Plain.{Block, Bodies, Label, Plain, Act, Again, Await, Body as BodyOf, Cobegin, Done, If, Last, Repeat, Run as RunOf, Then}
use Rattle.bl_graph_nodes.specs.Plain.{Until, When, While, is_empty}
use Rattle.bl_graph.specs.Edges.{Edge, EdgeAll, EdgeEach}
use Rattle.bl_graph.specs.Walks.{Rises}
use Rattle.bl_ctree_laws_peeled_bounds.proofs.Turns.{Turning, TurningEach, TurningIn}

module _ (number : Node → ℕ) where
  repeat_turns : (l : Label) (at : Place) (body : Block) → Rises number (Edge (Repeat l at body)) → is_empty body ≡ false
  repeat_turns l at Done up = let around = up (HeadAt l at) (HeadAt l at) (inr (inl (refl, inr (refl, refl)))) in absurd (omega arith)
  repeat_turns l at (Then s body) up = refl

  until_turns : (l : Label) (at : Place) (body : Block) (e : Expr) → Rises number (Edge (Until l at body e)) → is_empty body ≡ false
  until_turns l at Done e up =
      let there = up (HeadAt l at) (TestAt l at e) (inr (inl (inl (refl, inr (refl, refl))))) in
      let back = up (TestAt l at e) (HeadAt l at) (inr (inr (refl, refl))) in
      absurd (omega arith)
  until_turns l at (Then s body) e up = refl

  mutual
    pub turning_of : (s : Plain) → Rises number (Edge s) → Turning s
    turning_of (Act l s) up = tt
    turning_of (Await l at e) up = tt
    turning_of (RunOf l at target a inputs outputs) up = tt
    turning_of (If l at e body other) up = (turning_in body (λ n m h. up n m (inl h)), turning_in other (λ n m h. up n m (inr (inl h))))
    turning_of (Cobegin l at bodies) up = full_each bodies l at (is_instant (Cobegin l at bodies)) up
    turning_of (When l at guard e body) up = turning_in body (λ n m h. up n m (inl h))
    turning_of (Repeat l at body) up = (repeat_turns l at body up, turning_in body (λ n m h. up n m (inl h)))
    turning_of (Until l at body e) up = (until_turns l at body e up, turning_in body (λ n m h. up n m (inl h)))
    turning_of (While l at e body) up = turning_in body (λ n m h. up n m (inl h))
    turning_of (Again l at body e) up = (until_turns l at body e up, turning_in body (λ n m h. up n m (inl h)))

    pub turning_in : (body : Block) → Rises number (EdgeAll body) → TurningIn body
    turning_in Done up = tt
    turning_in (Then s rest) up = (turning_of s (λ n m h. up n m (inl h)), turning_in rest (λ n m h. up n m (inr (inl h))))

    full_each : (bodies : Bodies) (l : Label) (at : Place) (so : Bool) → Rises number (EdgeEach bodies l at so) → TurningEach bodies
    full_each Last l at so up = tt
    full_each (BodyOf weak body rest) l at so up =
        (turning_in body (λ n m h. up n m (inl h)), full_each rest l at so (λ n m h. up n m (inr (inr (inr (inr h))))))
