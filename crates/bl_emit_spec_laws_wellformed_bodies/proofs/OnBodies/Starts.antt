-- The start of a `run` sets the counter of which its other node asks what it held, and changes nothing else.
use Rattle.std.proofs.Common.{◌≡◌, ℕ, suc, Bool, true, false, List, [], ◌∷◌, ◌++◌, refl}
use Rattle.std.specs.Prelude.{Contains, ⊤}
use Rattle.bl_graph_nodes.specs.Nodes.{EnterAt, Node, are_instant, is_instant}
use Rattle.bl_graph_nodes.specs.Nodes.{ForkAt, HeadAt, SurfaceEndAt, SurfaceJoinAt, TestAt}
use Rattle.bl_graph_nodes.specs.Plain.{Act, Again, Await, Block, Bodies, Body as BodyOf, Cobegin, Done, If, Label, Last, Plain, Repeat, Run as RunOf, Then}
use Rattle.bl_graph_nodes.specs.Plain.{Until, When, While}
use Rattle.bl_machine.specs.declared.slots.Slot.{Slot}
use Rattle.bl_machine.specs.Uses.{Slots}
use Rattle.bl_machine_pass.specs.Transitions.{Change, Finishes, IsNew, Rested, SetsCounter, SetsFlag, Transition}
use Rattle.bl_machine_pass.specs.Transitions.{body_ends, enter, flagged, joins, rule_where, rules, rules_in, rules_in_each, rules_of}
use Rattle.bl_emit_spec_laws.proofs.OnOwn.Members.{Every, every_at, every_both, every_from, every_left, every_right}

module _ (all : List Transition) where
  -- the changes set one counter, to a number at which one of the rules asks whether the instance rested
  pub record SetsAsked (changes : List Change) : Type 0 where
    pub slot : Slot
    pub sets : changes ≡ SetsCounter slot ∷ []
    pub rule : Transition
    pub there : Contains all rule
    pub asks : rule.condition ≡ Rested slot

  -- where the node begins a `run` the changes are such
  abbrev pub NodeSets : Node → List Change → Type 0
  NodeSets (EnterAt l at arguments) changes = SetsAsked changes
  NodeSets _ changes = ⊤

  abbrev RuleSets : Transition → Type 0
  RuleSets rule = NodeSets rule.node rule.on_true

  abbrev AllSet : List Transition → Type 0
  AllSet some = Every RuleSets some

  abbrev There : List Transition → Type 0
  There some = Every (Contains all) some

  both_set : (one other : List Transition) → (There one → AllSet one) → (There other → AllSet other) → There (one ++ other) → AllSet (one ++ other)
  both_set one other sets more there =
      every_both RuleSets one other (sets (every_left (Contains all) one other there)) (more (every_right (Contains all) one other there))

  where_set : (test : Bool) (rule : Transition) (rest : List Transition) → RuleSets rule → (There rest → AllSet rest) →
      There (rule_where test rule ++ rest) → AllSet (rule_where test rule ++ rest)
  where_set true rule rest own more there = (own, more there.1)
  where_set false rule rest own more there = more there

  module _ (slots : Slots) where
    mutual
      of_plain : (s : Plain) (next : Change) → There (rules_of slots s next) → AllSet (rules_of slots s next)
      of_plain (Act l s) next there = (tt, tt)
      of_plain (Await l at e) next there = (tt, (tt, tt))
      of_plain (RunOf l at target a inputs outputs) next there =
          (record { slot = slots.rest l; sets = refl; rule = _; there = there.1.0; asks = refl }, (tt, tt))
      of_plain (If l at e body other) next there =
          (tt, both_set (rules_in slots body next) (rules_in slots other next) (of_block body next) (of_block other next) there.1)
      of_plain (Cobegin l at bodies) next there = (
        tt,
        where_set (is_instant (Cobegin l at bodies)) (joins slots l bodies (IsNew (ForkAt l at)) (SurfaceJoinAt l at) next) _ tt
            (λ more. (tt, of_bodies l 0 bodies more.1)) there.1,
      )
      of_plain (When l at guard e body) next there = (
        tt,
        where_set (are_instant body) (flagged (SurfaceEndAt l at) (next ∷ [])) _ tt
            (λ more. (tt, (tt, of_block body (body_ends l at body) more.1.1))) there.1,
      )
      of_plain (Repeat l at body) next there = (tt, of_block body (SetsFlag (HeadAt l at)) there.1)
      of_plain (Until l at body e) next there = (tt, (tt, of_block body (SetsFlag (TestAt l at e)) there.1.1))
      of_plain (While l at e body) next there = (tt, of_block body (SetsFlag (TestAt l at e)) there.1)
      of_plain (Again l at body e) next there = (tt, (tt, of_block body (SetsFlag (TestAt l at e)) there.1.1))

      of_block : (body : Block) (next : Change) → There (rules_in slots body next) → AllSet (rules_in slots body next)
      of_block Done next there = tt
      of_block (Then s rest) next there =
          both_set (rules_of slots s (enter rest next)) (rules_in slots rest next) (of_plain s (enter rest next)) (of_block rest next) there

      of_bodies : (l : Label) (k : ℕ) (bodies : Bodies) → There (rules_in_each slots l k bodies) → AllSet (rules_in_each slots l k bodies)
      of_bodies l k Last there = tt
      of_bodies l k (BodyOf weak body rest) there =
          both_set (rules_in slots body (SetsCounter (slots.ending l k))) (rules_in_each slots l (suc k) rest)
          (of_block body (SetsCounter (slots.ending l k))) (of_bodies l (suc k) rest) there

pub start-sets : (slots : Slots) (body : Block) (rule : Transition) → Contains (rules slots body) rule →
    NodeSets (rules slots body) rule.node rule.on_true
start-sets slots body rule there =
    let all : List Transition = rules slots body in
    every_at (RuleSets all) all rule (of_block all slots body Finishes (every_from (Contains all) all (λ rule there. there))) there
