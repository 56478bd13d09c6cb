-- The rules of a body are those of its nodes.
use Rattle.std.proofs.Common.{◌≡◌, ℕ, suc, Bool, true, false, ◌&&◌, List, [], ◌∷◌, ◌++◌, map, refl, ap, ◌∙◌}
use Rattle.std.proofs.lemmas.List.{map-append}
use Rattle.std.specs.List.{list_all}
use Rattle.std.proofs.lemmas.Bool.{and_from}
use Rattle.bl_tree.proofs.Basics.{and_first, and_second}
use Rattle.bl_tree.specs.declared.place.Place.{Place}
use Rattle.bl_tree.specs.Typing.{TypingContext}
use Rattle.bl_graph_nodes.specs.Nodes.{CheckAt, DepthEndAt, DepthJoinAt, ForkAt, HeadAt, Node, StartAt, SurfaceEndAt, SurfaceJoinAt}
use Rattle.bl_graph_nodes.specs.Nodes.{TestAt, are_instant, is_instant, nodes_in, nodes_in_each, nodes_of, where_so}
use Rattle.bl_graph_nodes.specs.Plain.{Act, Again, Await, Block, Bodies, Body, Cobegin, Done, If, Label, Last, Plain, Repeat, Run, Then, Until, When, While}
use Rattle.bl_machine.specs.Uses.{Slots}
use Rattle.bl_machine_pass.specs.Transitions.{Change, IsNew, SetsCounter, SetsFlag, Transition, body_ends}
use Rattle.bl_machine_pass.specs.Transitions.{enter, flagged, joins, rule_where, rules_in, rules_in_each, rules_of}
use Rattle.bl_emit_spec.specs.Blocks.{Sizes}
use Rattle.bl_emit_spec_laws_wellformed.specs.Spelled.{all_fit, node_fits, rule_fits}
use Rattle.bl_emit_spec_laws_wellformed.specs.Nodes.{nodes_fit}
use Rattle.bl_machine_pass_laws.proofs.OnNumbers.Parts.{check, depth_join}
use Rattle.bl_machine_pass_laws.proofs.OnNumbers.Sitting.{node_of}

abbrev nodes_by : List Transition → List Node
nodes_by rules = map node_of rules

nodes_append : (xs ys : List Transition) → nodes_by (xs ++ ys) ≡ nodes_by xs ++ nodes_by ys
nodes_append xs ys = map-append node_of xs ys

where_is : (test : Bool) (rule : Transition) (n : Node) → rule.node ≡ n → nodes_by (rule_where test rule) ≡ where_so test n
where_is true rule n is = ap (λ n. n ∷ []) is
where_is false rule n is = refl

-- the rules at the ends of a `cobegin`, and behind the start of a `when`
abbrev pub surface_join : Slots → Label → Place → Bodies → Change → Transition
surface_join slots l at bodies next = joins slots l bodies (IsNew (ForkAt l at)) (SurfaceJoinAt l at) next

abbrev pub surface_end : Label → Place → Change → Transition
surface_end l at next = flagged (SurfaceEndAt l at) (next ∷ [])

abbrev pub depth_end : Label → Place → Change → Transition
depth_end l at next = flagged (DepthEndAt l at) (next ∷ [])

mutual
  of_plain : (slots : Slots) (s : Plain) (next : Change) → nodes_by (rules_of slots s next) ≡ nodes_of s
  of_plain slots (Act l s) next = refl
  of_plain slots (Await l at e) next = refl
  of_plain slots (Run l at target a inputs outputs) next = refl
  of_plain slots (If l at e body other) next =
      ap (λ rest. TestAt l at e ∷ rest) (nodes_append (rules_in slots body next) (rules_in slots other next)
      ∙ (λ i. of_block slots body next i ++ of_block slots other next i))
  of_plain slots (Cobegin l at bodies) next =
      ap (λ rest. ForkAt l at ∷ rest)
      (nodes_append (rule_where (is_instant (Cobegin l at bodies)) (surface_join slots l at bodies next))
      (depth_join slots l at bodies next ∷ rules_in_each slots l 0 bodies)
      ∙ (λ i. where_is (is_instant (Cobegin l at bodies)) (surface_join slots l at bodies next) (SurfaceJoinAt l at) refl i
      ++ DepthJoinAt l at ∷ of_bodies slots l 0 bodies i))
  of_plain slots (When l at guard e body) next =
      ap (λ rest. StartAt l at ∷ rest)
      (nodes_append (rule_where (are_instant body) (surface_end l at next))
      (check slots l at guard e body next ∷ depth_end l at next ∷ rules_in slots body (body_ends l at body))
      ∙ (λ i. where_is (are_instant body) (surface_end l at next) (SurfaceEndAt l at) refl i
      ++ CheckAt l at e ∷ DepthEndAt l at ∷ of_block slots body (body_ends l at body) i))
  of_plain slots (Repeat l at body) next = ap (λ rest. HeadAt l at ∷ rest) (of_block slots body (SetsFlag (HeadAt l at)))
  of_plain slots (Until l at body e) next = ap (λ rest. HeadAt l at ∷ TestAt l at e ∷ rest) (of_block slots body (SetsFlag (TestAt l at e)))
  of_plain slots (While l at e body) next = ap (λ rest. TestAt l at e ∷ rest) (of_block slots body (SetsFlag (TestAt l at e)))
  of_plain slots (Again l at body e) next = ap (λ rest. HeadAt l at ∷ TestAt l at e ∷ rest) (of_block slots body (SetsFlag (TestAt l at e)))

  pub of_block : (slots : Slots) (body : Block) (next : Change) → nodes_by (rules_in slots body next) ≡ nodes_in body
  of_block slots Done next = refl
  of_block slots (Then s rest) next =
      nodes_append (rules_of slots s (enter rest next)) (rules_in slots rest next)
      ∙ (λ i. of_plain slots s (enter rest next) i ++ of_block slots rest next i)

  of_bodies : (slots : Slots) (l : Label) (k : ℕ) (bodies : Bodies) → nodes_by (rules_in_each slots l k bodies) ≡ nodes_in_each bodies
  of_bodies slots l k Last = refl
  of_bodies slots l k (Body weak body rest) =
      nodes_append (rules_in slots body (SetsCounter (slots.ending l k))) (rules_in_each slots l (suc k) rest)
      ∙ (λ i. of_block slots body (SetsCounter (slots.ending l k)) i ++ of_bodies slots l (suc k) rest i)

-- and_from kinds of what is asked of rules
pub both-fit : (sizes : Sizes) (site : TypingContext) (callees : List ℕ) (rules : List Transition) → list_all (rule_fits sizes) rules ≡ true →
    nodes_fit site callees (nodes_by rules) ≡ true → all_fit sizes site callees rules ≡ true
both-fit sizes site [] rules one other = refl
both-fit sizes site (a ∷ callees) [] one other = refl
both-fit sizes site (a ∷ callees) (rule ∷ rules) one other =
    and_from (rule_fits sizes rule && node_fits site a rule.node) (all_fit sizes site callees rules)
    (and_from (rule_fits sizes rule) (node_fits site a rule.node) (and_first (rule_fits sizes rule) (list_all (rule_fits sizes) rules) one)
    (and_first (node_fits site a rule.node) (nodes_fit site callees (nodes_by rules)) other))
    (both-fit sizes site callees rules (and_second (rule_fits sizes rule) (list_all (rule_fits sizes) rules) one)
    (and_second (node_fits site a rule.node) (nodes_fit site callees (nodes_by rules)) other))
