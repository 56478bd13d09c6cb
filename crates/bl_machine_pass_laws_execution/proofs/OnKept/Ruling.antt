-- The rules of a `run` are of one that stands in the body.
use Rattle.std.proofs.Common.{◌≡◌, inl, inr, ℕ, zero, suc, ◌<◌, Bool, true, false}
use Rattle.std.proofs.Common.{List, [], ◌∷◌, ◌++◌, map, length, sym, subst, arith}
use Rattle.std.specs.Prelude.{slice_index_or, ⊤}
use Rattle.bl_tree.specs.declared.place.Place.{Place}
use Rattle.bl_tree.specs.declared.tree.Path.{Path}
use Rattle.bl_graph_nodes.specs.Nodes.{Node, CheckAt, DepthEndAt, DepthJoinAt, SurfaceEndAt, SurfaceJoinAt, are_instant, is_instant}
use Rattle.bl_graph_nodes.specs.Nodes.{nodes_in, nodes_in_each, nodes_of, where_so}
use Rattle.bl_graph_nodes.specs.Plain.{Block, Bodies, Plain, Act, Again, Await, Body as BodyOf, Cobegin, Done, If, Last, Repeat, Run as RunOf, Then, Until}
use Rattle.bl_graph_nodes.specs.Plain.{When, While, plain_body}
use Rattle.bl_ctree_laws_confluence.specs.Apart.Outputs.{RunsWith}
use Rattle.bl_ctree_laws_confluence.specs.Apart.Owned.{SomeIn, SomeInEach, SomeOf}
use Rattle.bl_machine_pass.specs.Transitions.{Transition, rules}
use Rattle.bl_machine_pass_laws.specs.Turns.Laws.{StaysPlaced}
use Rattle.bl_machine_pass_laws_execution.specs.Kept.Outputs.{IsRunNode, RulesRun}

module _ (place : Place) (outputs : List Path) where
  abbrev P : Plain → Type 0
  P = RunsWith place outputs

  -- if one of the nodes is that of a `run` at the place with the outputs, then this holds
  abbrev Each : Type 0 → List Node → Type 0
  Each T [] = ⊤
  Each T (n ∷ ns) = (IsRunNode n place outputs → T) × Each T ns

  both : (T : Type 0) (xs ys : List Node) → Each T xs → Each T ys → Each T (xs ++ ys)
  both T [] ys one other = other
  both T (n ∷ xs) ys one other = (one.0, both T xs ys one.1 other)

  widened : (T U : Type 0) → (T → U) → (xs : List Node) → Each T xs → Each U xs
  widened T U so [] all = tt
  widened T U so (n ∷ xs) all = (λ is. so (all.0 is), widened T U so xs all.1)

  perhaps : (T : Type 0) (b : Bool) (n : Node) → (IsRunNode n place outputs → T) → Each T (where_so b n)
  perhaps T true n so = (so, tt)
  perhaps T false n so = tt

  mutual
    of_stmt : (s : Plain) → Each (SomeOf P s) (nodes_of s)
    of_stmt (Act l s) = (λ is. absurd is, tt)
    of_stmt (Await l at e) = (λ is. absurd is, (λ is. absurd is, tt))
    of_stmt (RunOf l at target a inputs outs) = (λ is. is, (λ is. is, tt))
    of_stmt (If l at e body other) = (
      λ is. absurd is,
      both (SomeOf P (If l at e body other)) (nodes_in body) (nodes_in other)
          (widened (SomeIn P body) (SomeOf P (If l at e body other)) (λ some. inr (inl some)) (nodes_in body) (in_block body))
          (widened (SomeIn P other) (SomeOf P (If l at e body other)) (λ some. inr (inr some)) (nodes_in other) (in_block other)),
    )
    of_stmt (Cobegin l at bodies) = (
      λ is. absurd is,
      both (SomeOf P (Cobegin l at bodies)) (where_so (is_instant (Cobegin l at bodies)) (SurfaceJoinAt l at))
          (DepthJoinAt l at ∷ nodes_in_each bodies)
          (perhaps (SomeOf P (Cobegin l at bodies)) (is_instant (Cobegin l at bodies)) (SurfaceJoinAt l at) (λ is. absurd is)) (
            λ is. absurd is,
            widened (SomeInEach P bodies) (SomeOf P (Cobegin l at bodies)) (λ some. inr some) (nodes_in_each bodies) (in_branches bodies),
          ),
    )
    of_stmt (When l at guard e body) = (
      λ is. absurd is,
      both (SomeOf P (When l at guard e body)) (where_so (are_instant body) (SurfaceEndAt l at))
          (CheckAt l at e ∷ DepthEndAt l at ∷ nodes_in body)
          (perhaps (SomeOf P (When l at guard e body)) (are_instant body) (SurfaceEndAt l at) (λ is. absurd is)) (
            λ is. absurd is,
            (
              λ is. absurd is,
              widened (SomeIn P body) (SomeOf P (When l at guard e body)) (λ some. inr some) (nodes_in body) (in_block body),
            ),
          ),
    )
    of_stmt (Repeat l at body) = (
      λ is. absurd is,
      widened (SomeIn P body) (SomeOf P (Repeat l at body)) (λ some. inr some) (nodes_in body) (in_block body),
    )
    of_stmt (Until l at body e) = (
      λ is. absurd is,
      (λ is. absurd is, widened (SomeIn P body) (SomeOf P (Until l at body e)) (λ some. inr some) (nodes_in body) (in_block body)),
    )
    of_stmt (While l at e body) = (
      λ is. absurd is,
      widened (SomeIn P body) (SomeOf P (While l at e body)) (λ some. inr some) (nodes_in body) (in_block body),
    )
    of_stmt (Again l at body e) = (
      λ is. absurd is,
      (λ is. absurd is, widened (SomeIn P body) (SomeOf P (Again l at body e)) (λ some. inr some) (nodes_in body) (in_block body)),
    )

    in_block : (body : Block) → Each (SomeIn P body) (nodes_in body)
    in_block Done = tt
    in_block (Then s rest) =
        both (SomeIn P (Then s rest)) (nodes_of s) (nodes_in rest)
        (widened (SomeOf P s) (SomeIn P (Then s rest)) (λ some. inl some) (nodes_of s) (of_stmt s))
        (widened (SomeIn P rest) (SomeIn P (Then s rest)) (λ some. inr some) (nodes_in rest) (in_block rest))

    in_branches : (bodies : Bodies) → Each (SomeInEach P bodies) (nodes_in_each bodies)
    in_branches Last = tt
    in_branches (BodyOf weak body rest) =
        both (SomeInEach P (BodyOf weak body rest)) (nodes_in body) (nodes_in_each rest)
        (widened (SomeIn P body) (SomeInEach P (BodyOf weak body rest)) (λ some. inl some) (nodes_in body) (in_block body))
        (widened (SomeInEach P rest) (SomeInEach P (BodyOf weak body rest)) (λ some. inr some) (nodes_in_each rest) (in_branches rest))

  of_rule : (T : Type 0) (rs : List Transition) (k : ℕ) (rule : Transition) → Each T (map (λ rule. rule.node) rs) → k < length rs →
      slice_index_or rs k rule ≡ rule → IsRunNode rule.node place outputs → T
  of_rule T [] k rule all within e is = absurd (omega arith)
  of_rule T (r ∷ rs) zero rule all within e is = all.0 (subst (λ (r : Transition). IsRunNode r.node place outputs) (sym e) is)
  of_rule T (r ∷ rs) (suc k) rule all within e is = of_rule T rs k rule all.1 (omega arith) e is

pub rules_run : StaysPlaced → RulesRun
rules_run placed slots i unit rule place outputs there is =
    let body : Block = plain_body unit.body in
    let within = there.1 in
    of_rule place outputs (SomeIn (RunsWith place outputs) body) (rules (slots i) body) there.0 rule
    (subst (Each place outputs (SomeIn (RunsWith place outputs) body)) (sym (placed.nodes (slots i) body)) (in_block place outputs body))
    within there.2 is
