-- What one pass does at each node of an activity: what it asks there first, and what changes once the node has acted.
use Rattle.std.specs.List.{list_any}
use Rattle.std.specs.Prelude.{ℕ, suc, Bool, true, false, List, [], ◌∷◌, ◌++◌, if◌then◌else◌, map, nat_eq}
use Rattle.bl_tree.specs.declared.place.Place.{Place}
use Rattle.bl_tree.specs.declared.tree.Expr.{Expr}
use Rattle.bl_tree.specs.declared.tree.Guard.{Guard}
use Rattle.bl_tree.specs.declared.tree.Guard.TheVariants.{Abort, Reset}
use Rattle.bl_graph_nodes.specs.Nodes.{ActAt, CheckAt, DepthEndAt, DepthJoinAt, EnterAt, ForkAt, HeadAt, Node, PauseAt, ResumeAt, StartAt, SurfaceEndAt}
use Rattle.bl_graph_nodes.specs.Nodes.{SurfaceJoinAt, TestAt, are_instant, arguments_of, entry, is_instant, some_strong}
use Rattle.bl_graph_nodes.specs.Plain.{Act, Again, Await, Block, Bodies, Body as BodyOf, Cobegin, Done, If, Label, Last, Plain, Repeat, Run as RunOf, Then}
use Rattle.bl_graph_nodes.specs.Plain.{Until, When, While}
use Rattle.bl_machine.specs.declared.slots.Slot.{Slot}
use Rattle.bl_machine.specs.Uses.{Slots}

-- ---- changes

-- one change of the registers of a pass
pub data Change : Type 0 where
  -- the node waits for its turn
  SetsFlag : Node → Change
  -- the instance rests at the number
  SetsCounter : Slot → Change
  -- the instance no longer rests at the counter
  ClearsCounter : ℕ → Change
  -- the instance no longer rests at the counter, and the copy of the counter from the start of the tick is cleared too
  ClearsBoth : ℕ → Change
  -- the `cobegin` or `when` that begins at the node has begun in this tick
  SetsMark : Node → Change
  -- a `when` that begins at the first node ends: at the second node if it has begun in this tick, else at the third
  EndsWhen : Node → Node → Node → Change
  -- the body of the activity has ended
  Finishes : Change

-- the change where a block is entered: its entry waits, or what follows an empty block happens
abbrev pub enter : Block → Change → Change
enter Done next = next
enter (Then s rest) next = SetsFlag (entry s)

-- ---- what a pass asks at a node

-- when a `cobegin` must have begun so that it ends at a node
pub data Age : Type 0 where
  -- in this tick: the mark of its first node is set
  IsNew : Node → Age
  -- in an earlier tick
  IsOld : Node → Age
  -- at any time, for a `cobegin` that never ends in the tick in which it begins
  IsAny : Age

-- the ends that a `cobegin` waits for: all of these numbers, or one of them
pub record Needed : Type 0 where
  pub all : Bool
  pub slots : List Slot

-- what a pass asks before a node acts
pub data Condition : Type 0 where
  -- whether the node waits
  Flagged : Condition
  -- whether the instance rested at the number when the tick began
  Rested : Slot → Condition
  -- whether the instance rested at one of these numbers, at which the body of a `when` may rest
  RestedIn : List Slot → Condition
  -- whether as many branches of a `cobegin` rest at their ends as are needed
  Ended : Age → Needed → Condition

-- the rule of a node: what it asks, and what changes where the answer is true, and where it is false. A node without a test answers true; a `run` that goes on
-- answers whether the callee's body has ended
pub record Transition : Type 0 where
  pub node : Node
  pub condition : Condition
  pub on_true : List Change
  pub on_false : List Change

-- the rule of a node that waits by its flag and has one way on
abbrev pub flagged : Node → List Change → Transition
flagged n on_true = record { node = n; condition = Flagged; on_true = on_true; on_false = [] }

-- ---- the places of a part

abbrev mutual
  -- the numbers at which a statement rests as long as it is paused: its counter has one of them then. For a `cobegin` they are those of the first branch
  pub rests_of : Slots → Plain → List Slot
  rests_of slots (Act l s) = []
  rests_of slots (Await l at e) = slots.rest l ∷ []
  rests_of slots (RunOf l at target a inputs outputs) = slots.rest l ∷ []
  rests_of slots (If l at e body other) = rests_in slots body ++ rests_in slots other
  rests_of slots (Cobegin l at bodies) = rests_in_first slots l bodies
  rests_of slots (When l at guard e body) = rests_in slots body
  rests_of slots (Repeat l at body) = rests_in slots body
  rests_of slots (Until l at body e) = rests_in slots body
  rests_of slots (While l at e body) = rests_in slots body
  rests_of slots (Again l at body e) = rests_in slots body

  -- the numbers at which a block rests as long as it is paused
  pub rests_in : Slots → Block → List Slot
  rests_in slots Done = []
  rests_in slots (Then s rest) = rests_of slots s ++ rests_in slots rest

  -- the numbers at which a block rests as long as it is paused
  pub rests_in_first : Slots → Label → Bodies → List Slot
  rests_in_first slots l Last = []
  rests_in_first slots l (BodyOf weak body rest) = slots.ending l 0 ∷ rests_in slots body

abbrev mutual
  -- the counters of all places of a statement, in source order
  pub counters_of : Slots → Plain → List ℕ
  counters_of slots (Act l s) = []
  counters_of slots (Await l at e) = (slots.rest l).counter ∷ []
  counters_of slots (RunOf l at target a inputs outputs) = (slots.rest l).counter ∷ []
  counters_of slots (If l at e body other) = counters_in slots body ++ counters_in slots other
  counters_of slots (Cobegin l at bodies) = counters_in_each slots l 0 bodies
  counters_of slots (When l at guard e body) = counters_in slots body
  counters_of slots (Repeat l at body) = counters_in slots body
  counters_of slots (Until l at body e) = counters_in slots body
  counters_of slots (While l at e body) = counters_in slots body
  counters_of slots (Again l at body e) = counters_in slots body

  -- the counters of all places of a block, in source order
  pub counters_in : Slots → Block → List ℕ
  counters_in slots Done = []
  counters_in slots (Then s rest) = counters_of slots s ++ counters_in slots rest

  -- the counters of all places of branches, from the one with this number on, their ends among them
  pub counters_in_each : Slots → Label → ℕ → Bodies → List ℕ
  counters_in_each slots l k Last = []
  counters_in_each slots l k (BodyOf weak body rest) = (slots.ending l k).counter ∷ (counters_in slots body ++ counters_in_each slots l (suc k) rest)

-- each number once, where it stands first, but for those that were seen
abbrev pub once_but : List ℕ → List ℕ → List ℕ
once_but seen [] = []
once_but seen (k ∷ rest) = if list_any (nat_eq k) seen then once_but seen rest else k ∷ once_but (k ∷ seen) rest

-- each number once, where it stands first
abbrev pub once : List ℕ → List ℕ
once = once_but []

-- ---- what changes at the ends of constructs

abbrev mutual
  -- the numbers of the ends of all branches, from the one with this number on
  pub endings : Slots → Label → ℕ → Bodies → List Slot
  endings slots l k Last = []
  endings slots l k (BodyOf weak body rest) = slots.ending l k ∷ endings slots l (suc k) rest

  -- the numbers of the ends of strong branches, from the branch with this number on
  pub strong_endings : Slots → Label → ℕ → Bodies → List Slot
  strong_endings slots l k Last = []
  strong_endings slots l k (BodyOf weak body rest) =
      if weak then strong_endings slots l (suc k) rest else slots.ending l k ∷ strong_endings slots l (suc k) rest

-- the ends that a `cobegin` waits for: those of all strong branches, or any one where none is strong
abbrev pub needed : Slots → Label → Bodies → Needed
needed slots l bodies =
    if some_strong bodies
    then record { all = true; slots = strong_endings slots l 0 bodies }
    else record { all = false; slots = endings slots l 0 bodies }

-- the change where the body of a `when` ends
abbrev pub body_ends : Label → Place → Block → Change
body_ends l at body =
    if are_instant body then EndsWhen (StartAt l at) (SurfaceEndAt l at) (DepthEndAt l at) else SetsFlag (DepthEndAt l at)

-- the changes with the mark that a construct has begun in this tick, for one that may end in the tick in which it begins
abbrev pub marked : Bool → Node → List Change → List Change
marked instant n rest = if instant then SetsMark n ∷ rest else rest

-- the changes by which branches begin, from the one with this number on
abbrev pub enter_each : Slots → Label → ℕ → Bodies → List Change
enter_each slots l k Last = []
enter_each slots l k (BodyOf weak body rest) = enter body (SetsCounter (slots.ending l k)) ∷ enter_each slots l (suc k) rest

-- the change of a condition that was true: `abort` goes on behind the body, and `reset` begins it anew
abbrev pub fires : Guard → Label → Place → Block → Change → Change
fires Abort l at body next = next
fires Reset l at body next = enter body (body_ends l at body)

-- the rule alone where the test is true, else none
abbrev pub rule_where : Bool → Transition → List Transition
rule_where test rule = if test then rule ∷ [] else []

-- the rule of the node at which a `cobegin` ends: it no longer rests anywhere
abbrev pub joins : Slots → Label → Bodies → Age → Node → Change → Transition
joins slots l bodies age n next = record {
  node = n;
  condition = Ended age (needed slots l bodies);
  on_true = map ClearsCounter (once (counters_in_each slots l 0 bodies)) ++ next ∷ [];
  on_false = [];
}

-- the age that a `cobegin` needs at its later join: any, if it can't end in the tick in which it begins
abbrev pub age_of : Bool → Node → Age
age_of instant n = if instant then IsOld n else IsAny

-- ---- rules

abbrev mutual
  -- the rules of a statement's nodes, in their order, where that change follows the statement
  pub rules_of : Slots → Plain → Change → List Transition
  rules_of slots (Act l s) next = flagged (ActAt l s) (next ∷ []) ∷ []
  rules_of slots (Await l at e) next =
      flagged (PauseAt l at) (SetsCounter (slots.rest l) ∷ [])
      ∷ record { node = TestAt l at e; condition = Rested (slots.rest l); on_true = next ∷ []; on_false = [] }
      ∷ []
  rules_of slots (RunOf l at target a inputs outputs) next =
      flagged (EnterAt l at (arguments_of target inputs outputs)) (SetsCounter (slots.rest l) ∷ [])
      ∷ record {
        node = ResumeAt l at (arguments_of target inputs outputs);
        condition = Rested (slots.rest l);
        on_true = next ∷ [];
        on_false = [];
      }
      ∷ []
  rules_of slots (If l at e body other) next =
      record { node = TestAt l at e; condition = Flagged; on_true = enter body next ∷ []; on_false = enter other next ∷ [] }
      ∷ (rules_in slots body next ++ rules_in slots other next)
  rules_of slots (Cobegin l at bodies) next =
      flagged (ForkAt l at) (marked (is_instant (Cobegin l at bodies)) (ForkAt l at) (enter_each slots l 0 bodies))
      ∷ (rule_where (is_instant (Cobegin l at bodies)) (joins slots l bodies (IsNew (ForkAt l at)) (SurfaceJoinAt l at) next)
      ++ joins slots l bodies (age_of (is_instant (Cobegin l at bodies)) (ForkAt l at)) (DepthJoinAt l at) next
      ∷ rules_in_each slots l 0 bodies)
  rules_of slots (When l at guard e body) next =
      flagged (StartAt l at) (marked (are_instant body) (StartAt l at) (enter body (body_ends l at body) ∷ []))
      ∷ (rule_where (are_instant body) (flagged (SurfaceEndAt l at) (next ∷ []))
      ++ record {
        node = CheckAt l at e;
        condition = RestedIn (rests_in slots body);
        on_true = map ClearsBoth (once (counters_in slots body)) ++ fires guard l at body next ∷ [];
        on_false = [];
      }
      ∷ flagged (DepthEndAt l at) (next ∷ [])
      ∷ rules_in slots body (body_ends l at body))
  rules_of slots (Repeat l at body) next =
      flagged (HeadAt l at) (enter body (SetsFlag (HeadAt l at)) ∷ []) ∷ rules_in slots body (SetsFlag (HeadAt l at))
  rules_of slots (Until l at body e) next =
      flagged (HeadAt l at) (enter body (SetsFlag (TestAt l at e)) ∷ [])
      ∷ record { node = TestAt l at e; condition = Flagged; on_true = next ∷ []; on_false = SetsFlag (HeadAt l at) ∷ [] }
      ∷ rules_in slots body (SetsFlag (TestAt l at e))
  rules_of slots (While l at e body) next =
      record { node = TestAt l at e; condition = Flagged; on_true = enter body (SetsFlag (TestAt l at e)) ∷ []; on_false = next ∷ [] }
      ∷ rules_in slots body (SetsFlag (TestAt l at e))
  rules_of slots (Again l at body e) next =
      flagged (HeadAt l at) (enter body (SetsFlag (TestAt l at e)) ∷ [])
      ∷ record { node = TestAt l at e; condition = Flagged; on_true = next ∷ []; on_false = SetsFlag (HeadAt l at) ∷ [] }
      ∷ rules_in slots body (SetsFlag (TestAt l at e))

  -- the rules of the nodes of a block, in their order, where that change follows the block
  pub rules_in : Slots → Block → Change → List Transition
  rules_in slots Done next = []
  rules_in slots (Then s rest) next = rules_of slots s (enter rest next) ++ rules_in slots rest next

  -- the rules of the nodes of branches, from the one with this number on: a branch that has ended rests at its end
  pub rules_in_each : Slots → Label → ℕ → Bodies → List Transition
  rules_in_each slots l k Last = []
  rules_in_each slots l k (BodyOf weak body rest) =
      rules_in slots body (SetsCounter (slots.ending l k)) ++ rules_in_each slots l (suc k) rest

-- the rules of the nodes of an activity's body, in their order
abbrev pub rules : Slots → Block → List Transition
rules slots body = rules_in slots body Finishes
