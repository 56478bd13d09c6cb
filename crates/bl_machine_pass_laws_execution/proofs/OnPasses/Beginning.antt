-- Two nodes of `run`s at one place that wait at the same time are one node, so a `run` that begins isn't one that goes on.
use Rattle.std.proofs.Common.{◌≡◌, ◌⊎◌, inl, inr, Bool, true, false, Option, Some, None, refl, ◌∙◌, sym, subst}
use Rattle.std.specs.Prelude.{⊤}
use Rattle.bl_tree.specs.declared.place.Place.{Place}
use Rattle.bl_graph_nodes.specs.Nodes.{Arguments, EnterAt, Node, ResumeAt, entry}
use Rattle.bl_graph_nodes.specs.Plain.{Act, Again, Await, Block, Bodies, Body as BodyOf, Cobegin, Done, If, Label, Last, Plain, Repeat, Run as RunOf, Then}
use Rattle.bl_graph_nodes.specs.Plain.{Until, When, While}
use Rattle.bl_graph_nodes.specs.Steps.{end_node, join_node, run_node}
use Rattle.bl_ctree.specs.Control.{Body, Check}
use Rattle.bl_ctree_laws.specs.Trees.{Tree, Trees, Nil, Wait, Test, Idle, Do, Seq, Par, Guard, Run, beside, no_tree}
use Rattle.bl_ctree_laws_confluence.specs.Apart.Owned.{RunsAt, SomeInEach, SomeOf}
use Rattle.bl_ctree_laws_confluence.specs.Apart.Running.{RunApart}
use Rattle.bl_machine_laws.specs.Numbers.Waiting.{Is, SomeWaits, Waits, first_in}
use Rattle.bl_machine_pass_laws_execution.specs.Executes.{IsSameRun}
use Rattle.bl_machine_pass_laws_execution.specs.Passes.Standing.{EachRunsApart, OneRunsIn, RunsApart, RunsIn}
use Rattle.bl_tree.proofs.FirstLemmas.{same_true}

-- the node is one of a `run` at the place
abbrev IsOfRun : Place → Node → Type 0
IsOfRun place (EnterAt l at arguments) = at ≡ place
IsOfRun place (ResumeAt l at arguments) = at ≡ place
IsOfRun place _ = ⊥

no_join : (stood : Bool) (l : Label) (at place : Place) → IsOfRun place (join_node stood l at) → ⊥
no_join true l at place is = is
no_join false l at place is = is

no_end : (stood : Bool) (l : Label) (at place : Place) → IsOfRun place (end_node stood l at) → ⊥
no_end true l at place is = is
no_end false l at place is = is

of_run : (stood : Bool) (l : Label) (at : Place) (arguments : Arguments) (place : Place) → IsOfRun place (run_node stood l at arguments) → at ≡ place
of_run true l at arguments place is = is
of_run false l at arguments place is = is

-- ---- what waits is left in the tree

entered : (s : Plain) (place : Place) → IsOfRun place (entry s) → SomeOf (RunsAt place) s
entered (Act l s) place is = absurd is
entered (Await l at e) place is = absurd is
entered (RunOf l at target a inputs outputs) place is = is
entered (If l at e body other) place is = absurd is
entered (Cobegin l at bodies) place is = absurd is
entered (When l at guard e body) place is = absurd is
entered (Repeat l at body) place is = absurd is
entered (Until l at body e) place is = absurd is
entered (While l at e body) place is = absurd is
entered (Again l at body e) place is = absurd is

module _ (place : Place) where
  abbrev Left : Tree → Option Node → Node → Type 0
  Left c next n = RunsIn place c ⊎ Is next n

  before_end : (stood : Bool) (l : Label) (at : Place) (c : Tree) (n : Node) → IsOfRun place n → Left c (Some (end_node stood l at)) n → RunsIn place c
  before_end stood l at c n is (inl there) = there
  before_end stood l at c n is (inr ends) = absurd (no_end stood l at place (subst (IsOfRun place) ends is))

  alone : (c : Tree) (n : Node) → Left c None n → RunsIn place c
  alone c n (inl there) = there
  alone c n (inr none) = absurd none

  mutual
    -- a node of a `run` waits in a tree where the `run` is left in it, or the node is the next one
    left_in : (c : Tree) (next : Option Node) (n : Node) → IsOfRun place n → Waits c next n → Left c next n
    left_in Nil next n is waits = inr waits
    left_in (Wait s) next n is waits = absurd waits
    left_in (Test s) next n is waits = absurd (subst (IsOfRun place) waits is)
    left_in (Idle body) next n is waits = absurd waits
    left_in (Do s) next n is waits = inl (entered s place (subst (IsOfRun place) waits is))
    left_in (Seq c rest) next n is waits = by_part rest (left_in c (first_in rest next) n is waits)
      where
        by_part : (rest : Block) → Left c (first_in rest next) n → Left (Seq c rest) next n
        by_part rest (inl there) = inl (inl there)
        by_part Done (inr at) = inr at
        by_part (Then s rest) (inr at) = inl (inr (inl (entered s place (subst (IsOfRun place) at is))))
    left_in (Par s stood branches) next n is (inl waits) = inl (inr (one_left branches n is waits))
    left_in (Par s stood branches) next n is (inr joins) = absurd (no_join stood s.label s.place place (subst (IsOfRun place) joins.1 is))
    left_in (Guard s Body stood c) next n is waits =
        inl (inr (before_end stood s.label s.place c n is (left_in c (Some (end_node stood s.label s.place)) n is waits)))
    left_in (Guard s Check stood c) next n is (inl at) = absurd (subst (IsOfRun place) at is)
    left_in (Guard s Check stood c) next n is (inr waits) =
        inl (inr (before_end stood s.label s.place c n is (left_in c (Some (end_node stood s.label s.place)) n is waits)))
    left_in (Run s callee Body stood c) next n is waits = absurd waits
    left_in (Run s callee Check stood c) next n is waits =
        inl (of_run stood s.label s.place s.arguments place (subst (IsOfRun place) waits is))

    one_left : (branches : Trees) (n : Node) → IsOfRun place n → SomeWaits branches n → OneRunsIn place branches
    one_left no_tree n is waits = absurd waits
    one_left (beside weak c branches) n is (inl waits) = inl (alone c n (left_in c None n is waits))
    one_left (beside weak c branches) n is (inr waits) = inr (one_left branches n is waits)

  -- ---- what waits at one place

  runs_in_bodies : (bodies : Bodies) (branches : Trees) → EachRunsApart bodies branches → OneRunsIn place branches → SomeInEach (RunsAt place) bodies
  runs_in_bodies bodies no_tree apart there = absurd there
  runs_in_bodies Last (beside weak c branches) apart there = absurd apart
  runs_in_bodies (BodyOf weak body rest) (beside weak' c branches) apart (inl there) = inl (apart.0 place there)
  runs_in_bodies (BodyOf weak body rest) (beside weak' c branches) apart (inr there) = inr (runs_in_bodies rest branches apart.2 there)

  mutual
    -- two nodes of `run`s at the place that wait in a tree are one
    one_node : (c : Tree) (next : Option Node) (n m : Node) → IsOfRun place n → IsOfRun place m → RunsApart c → Waits c next n → Waits c next m →
        n ≡ m
    one_node Nil None n m is other apart one two = absurd one
    one_node Nil (Some x) n m is other apart one two = one ∙ sym two
    one_node (Wait s) next n m is other apart one two = absurd one
    one_node (Test s) next n m is other apart one two = one ∙ sym two
    one_node (Idle body) next n m is other apart one two = absurd one
    one_node (Do s) next n m is other apart one two = one ∙ sym two
    one_node (Seq c rest) next n m is other apart one two = one_node c (first_in rest next) n m is other apart.0 one two
    one_node (Par s stood branches) next n m is other apart (inl one) (inl two) =
        one_in_branches s.bodies branches n m is other apart.0 apart.2 one two
    one_node (Par s stood branches) next n m is other apart (inl one) (inr two) =
        absurd (no_join stood s.label s.place place (subst (IsOfRun place) two.1 other))
    one_node (Par s stood branches) next n m is other apart (inr one) two = absurd (no_join stood s.label s.place place (subst (IsOfRun place) one.1 is))
    one_node (Guard s Body stood c) next n m is other apart one two = one_node c (Some (end_node stood s.label s.place)) n m is other apart.1 one two
    one_node (Guard s Check stood c) next n m is other apart (inl one) two = absurd (subst (IsOfRun place) one is)
    one_node (Guard s Check stood c) next n m is other apart (inr one) (inl two) = absurd (subst (IsOfRun place) two other)
    one_node (Guard s Check stood c) next n m is other apart (inr one) (inr two) =
        one_node c (Some (end_node stood s.label s.place)) n m is other apart.1 one two
    one_node (Run s callee Body stood c) next n m is other apart one two = absurd one
    one_node (Run s callee Check stood c) next n m is other apart one two = one ∙ sym two

    one_in_branches : (bodies : Bodies) (branches : Trees) (n m : Node) → IsOfRun place n → IsOfRun place m → RunApart bodies →
        EachRunsApart bodies branches → SomeWaits branches n → SomeWaits branches m → n ≡ m
    one_in_branches bodies no_tree n m is other bodies_apart apart one two = absurd one
    one_in_branches Last (beside weak c branches) n m is other bodies_apart apart one two = absurd apart
    one_in_branches (BodyOf weak body rest) (beside weak' c branches) n m is other bodies_apart apart (inl one) (inl two) =
        one_node c None n m is other apart.1 one two
    one_in_branches (BodyOf weak body rest) (beside weak' c branches) n m is other bodies_apart apart (inl one) (inr two) =
        absurd (bodies_apart.0 place (apart.0 place (alone c n (left_in c None n is one)))
        (runs_in_bodies rest branches apart.2 (one_left branches m other two)))
    one_in_branches (BodyOf weak body rest) (beside weak' c branches) n m is other bodies_apart apart (inr one) (inl two) =
        absurd (bodies_apart.0 place (apart.0 place (alone c m (left_in c None m other two)))
        (runs_in_bodies rest branches apart.2 (one_left branches n is one)))
    one_in_branches (BodyOf weak body rest) (beside weak' c branches) n m is other bodies_apart apart (inr one) (inr two) =
        one_in_branches rest branches n m is other bodies_apart.1 apart.2 one two

abbrev IsEntry : Node → Type 0
IsEntry (EnterAt l at arguments) = ⊤
IsEntry _ = ⊥

-- a node that begins a `run` and one that goes on with it don't wait at the same time
pub never_both : (c : Tree) (n m : Node) → RunsApart c → IsSameRun n m → Waits c None n → Waits c None m → ⊥
never_both c (EnterAt l at arguments) (ResumeAt k other others) apart same one two =
    subst IsEntry (one_node at c None (EnterAt l at arguments) (ResumeAt k other others) refl (sym (same_true at other same)) apart one two) tt
never_both c (EnterAt l at arguments) _ apart same one two = absurd same
never_both c _ m apart same one two = absurd same
