-- What a turn leaves of what a tree asks for.
use Rattle.std.proofs.Common.{◌≡◌, inl, inr, ℕ, Bool, true, false, ◌&&◌, List, [], ◌++◌, refl}
use Rattle.std.proofs.lemmas.Bool.{and_from}
use Rattle.bl_tree.proofs.Basics.{and_first, and_second}
use Rattle.bl_tree.specs.declared.place.Place.{Place}
use Rattle.bl_tree.specs.declared.tree.Unit.{Unit as UnitDef}
use Rattle.bl_graph_nodes.specs.Nodes.{Node}
use Rattle.bl_graph_nodes.specs.Plain.{Act, Again, Await, Block, Bodies, Body as BodyOf, Cobegin, Done, If, Label, Last, Plain, Repeat, Run as RunOf, Then}
use Rattle.bl_graph_nodes.specs.Plain.{Until, When, While}
use Rattle.bl_graph_nodes.specs.Steps.{end_node, join_node}
use Rattle.bl_machine_prevs.specs.Declared.{are_known, declared_by, prevs_at, prevs_in_inputs, prevs_stand, prevs_stand_in, prevs_stand_in_each}
use Rattle.bl_machine_prevs.specs.Prevs.{prevs_in, prevs_in_expr}
use Rattle.bl_ctree.specs.Instances.{Setting}
use Rattle.bl_ctree_laws.specs.Pending.{Deed}
use Rattle.bl_ctree_laws.specs.Steps.{turn}
use Rattle.bl_ctree_laws.specs.Trees.{Tree, Trees, Nil, Wait, Test, Idle, Do, Seq, Par, Guard, Run, all_woken, before, trees_begun, beside, do_block, no_tree}
use Rattle.bl_ctree_laws.specs.Trees.{seq, woken}
use Rattle.bl_machine_laws.specs.Numbers.Turns as turns
use Rattle.bl_machine_laws.specs.Numbers.Turns.{InstancePoint}
use Rattle.bl_machine_pass_laws_execution.specs.Fresh.Asks.{Asks, BlockAsks, Bounded, BoundedAll, BoundedEach, DueIn, EachAsks, IsAmongVariables, OneDueIn}
use Rattle.bl_machine_pass_laws_execution.specs.Fresh.Asks.{declared_at, next_declared}
use Rattle.bl_machine_pass_laws_execution.specs.Fresh.Fresh.{locals}
use Rattle.bl_machine_pass_laws_execution.specs.Fresh.Laws.{PointAsks, TreesAsk}
use Rattle.bl_machine_pass_laws_execution.proofs.OnFresh.Lists.{among_joined, among_left, among_right, known_more, known_so, none_among}

-- ---- more is known

abbrev Less : List ℕ → List ℕ → Type 0
Less known wider = (x : ℕ) → IsAmongVariables known x → IsAmongVariables wider x

less_behind : (ds known wider : List ℕ) → Less known wider → Less (ds ++ known) (ds ++ wider)
less_behind ds known wider less x at =
    among_joined ds known (ds ++ wider) (λ y h. among_left y ds wider h) (λ y h. among_right y ds wider (less y h)) x at

mutual
  stand_more : (known wider : List ℕ) → Less known wider → (s : Plain) → prevs_stand known s ≡ true → prevs_stand wider s ≡ true
  stand_more known wider less (Act l s) h = known_more known wider (prevs_in s) less h
  stand_more known wider less (Await l at e) h = known_more known wider (prevs_in_expr e) less h
  stand_more known wider less (RunOf l at target a inputs outputs) h = known_more known wider (prevs_in_inputs inputs) less h
  stand_more known wider less (If l at e body other) h =
      let test : Bool = are_known known (prevs_in_expr e) in
      let inner = and_second test (prevs_stand_in known body && prevs_stand_in known other) h in
      and_from (are_known wider (prevs_in_expr e)) (prevs_stand_in wider body && prevs_stand_in wider other)
      (known_more known wider (prevs_in_expr e) less (and_first test (prevs_stand_in known body && prevs_stand_in known other) h))
      (and_from (prevs_stand_in wider body) (prevs_stand_in wider other)
      (stand_more_in known wider less body (and_first (prevs_stand_in known body) (prevs_stand_in known other) inner))
      (stand_more_in known wider less other (and_second (prevs_stand_in known body) (prevs_stand_in known other) inner)))
  stand_more known wider less (Cobegin l at bodies) h = stand_more_each known wider less bodies h
  stand_more known wider less (When l at guard e body) h =
      and_from (are_known wider (prevs_in_expr e)) (prevs_stand_in wider body)
      (known_more known wider (prevs_in_expr e) less (and_first (are_known known (prevs_in_expr e)) (prevs_stand_in known body) h))
      (stand_more_in known wider less body (and_second (are_known known (prevs_in_expr e)) (prevs_stand_in known body) h))
  stand_more known wider less (Repeat l at body) h = stand_more_in known wider less body h
  stand_more known wider less (Until l at body e) h =
      and_from (are_known wider (prevs_in_expr e)) (prevs_stand_in wider body)
      (known_more known wider (prevs_in_expr e) less (and_first (are_known known (prevs_in_expr e)) (prevs_stand_in known body) h))
      (stand_more_in known wider less body (and_second (are_known known (prevs_in_expr e)) (prevs_stand_in known body) h))
  stand_more known wider less (While l at e body) h =
      and_from (are_known wider (prevs_in_expr e)) (prevs_stand_in wider body)
      (known_more known wider (prevs_in_expr e) less (and_first (are_known known (prevs_in_expr e)) (prevs_stand_in known body) h))
      (stand_more_in known wider less body (and_second (are_known known (prevs_in_expr e)) (prevs_stand_in known body) h))
  stand_more known wider less (Again l at body e) h =
      and_from (are_known wider (prevs_in_expr e)) (prevs_stand_in wider body)
      (known_more known wider (prevs_in_expr e) less (and_first (are_known known (prevs_in_expr e)) (prevs_stand_in known body) h))
      (stand_more_in known wider less body (and_second (are_known known (prevs_in_expr e)) (prevs_stand_in known body) h))

  stand_more_in : (known wider : List ℕ) → Less known wider → (body : Block) → prevs_stand_in known body ≡ true →
      prevs_stand_in wider body ≡ true
  stand_more_in known wider less Done h = refl
  stand_more_in known wider less (Then s rest) h =
      and_from (prevs_stand wider s) (prevs_stand_in (declared_by s ++ wider) rest)
      (stand_more known wider less s (and_first (prevs_stand known s) (prevs_stand_in (declared_by s ++ known) rest) h))
      (stand_more_in (declared_by s ++ known) (declared_by s ++ wider) (less_behind (declared_by s) known wider less) rest
      (and_second (prevs_stand known s) (prevs_stand_in (declared_by s ++ known) rest) h))

  stand_more_each : (known wider : List ℕ) → Less known wider → (bodies : Bodies) → prevs_stand_in_each known bodies ≡ true →
      prevs_stand_in_each wider bodies ≡ true
  stand_more_each known wider less Last h = refl
  stand_more_each known wider less (BodyOf weak body rest) h =
      and_from (prevs_stand_in wider body) (prevs_stand_in_each wider rest)
      (stand_more_in known wider less body (and_first (prevs_stand_in known body) (prevs_stand_in_each known rest) h))
      (stand_more_each known wider less rest (and_second (prevs_stand_in known body) (prevs_stand_in_each known rest) h))

block_more : (w : Setting) (i : ℕ) (unit : UnitDef) (known wider : List ℕ) → Less known wider → (body : Block) →
    BlockAsks w i unit known body →
    BlockAsks w i unit wider body
block_more w i unit known wider less body h = (stand_more_in known wider less body h.0, h.1)

mutual
  asks_more : (w : Setting) (i : ℕ) (unit : UnitDef) (known wider : List ℕ) (c : Tree) → Less known wider → Asks w i unit known c →
      Asks w i unit wider c
  asks_more w i unit known wider Nil less h = tt
  asks_more w i unit known wider (Wait s) less h = known_more known wider (prevs_in_expr s.test) less h
  asks_more w i unit known wider (Test s) less h = known_more known wider (prevs_in_expr s.test) less h
  asks_more w i unit known wider (Idle body) less h = block_more w i unit known wider less body h
  asks_more w i unit known wider (Do s) less h = (stand_more known wider less s h.0, h.1)
  asks_more w i unit known wider (Seq c rest) less h = (
    asks_more w i unit known wider c less h.0,
    block_more w i unit (next_declared c ++ known) (next_declared c ++ wider) (less_behind (next_declared c) known wider less) rest h.1,
  )
  asks_more w i unit known wider (Par s stood branches) less h = each_more w i unit known wider branches less h
  asks_more w i unit known wider (Guard s phase stood c) less h = (
    known_more known wider (prevs_in_expr s.test) less h.0,
    (block_more w i unit known wider less s.body h.1.0, asks_more w i unit known wider c less h.1.1),
  )
  asks_more w i unit known wider (Run s callee phase stood c) less h =
      (known_more known wider (prevs_in_inputs s.arguments.inputs) less h.0, h.1)

  each_more : (w : Setting) (i : ℕ) (unit : UnitDef) (known wider : List ℕ) (branches : Trees) → Less known wider →
      EachAsks w i unit known branches → EachAsks w i unit wider branches
  each_more w i unit known wider no_tree less h = tt
  each_more w i unit known wider (beside weak c branches) less h =
      (asks_more w i unit known wider c less h.0, each_more w i unit known wider branches less h.1)

-- ---- blocks that begin

block_begins : (w : Setting) (i : ℕ) (unit : UnitDef) (known : List ℕ) (body : Block) → BlockAsks w i unit known body →
    Asks w i unit known (do_block body)
block_begins w i unit known Done h = tt
block_begins w i unit known (Then s Done) h = (and_first (prevs_stand known s) (prevs_stand_in (declared_by s ++ known) Done) h.0, h.1.0)
block_begins w i unit known (Then s (Then next rest)) h = (
  (and_first (prevs_stand known s) (prevs_stand_in (declared_by s ++ known) (Then next rest)) h.0, h.1.0),
  (and_second (prevs_stand known s) (prevs_stand_in (declared_by s ++ known) (Then next rest)) h.0, h.1.1),
)

none_due : (w : Setting) (body : Block) (j : ℕ) → DueIn w (do_block body) j → ⊥
none_due w Done j h = h
none_due w (Then s Done) j h = h
none_due w (Then s (Then next rest)) j h = h

branches_begin : (w : Setting) (i : ℕ) (unit : UnitDef) (known : List ℕ) (bodies : Bodies) → prevs_stand_in_each known bodies ≡ true →
    BoundedEach w i unit bodies → EachAsks w i unit known (trees_begun bodies)
branches_begin w i unit known Last h bounded = tt
branches_begin w i unit known (BodyOf weak body rest) h bounded = (
  block_begins w i unit known body (and_first (prevs_stand_in known body) (prevs_stand_in_each known rest) h, bounded.0),
  branches_begin w i unit known rest (and_second (prevs_stand_in known body) (prevs_stand_in_each known rest) h) bounded.1,
)

no_branch_due : (w : Setting) (bodies : Bodies) (j : ℕ) → OneDueIn w (trees_begun bodies) j → ⊥
no_branch_due w Last j h = h
no_branch_due w (BodyOf weak body rest) j (inl h) = none_due w body j h
no_branch_due w (BodyOf weak body rest) j (inr h) = no_branch_due w rest j h

-- ---- loops

stand_before : (known : List ℕ) (body after : Block) → prevs_stand_in known body ≡ true → prevs_stand_in known after ≡ true →
    prevs_stand_in known (before body after) ≡ true
stand_before known Done after one other = other
stand_before known (Then s rest) after one other =
    and_from (prevs_stand known s) (prevs_stand_in (declared_by s ++ known) (before rest after))
    (and_first (prevs_stand known s) (prevs_stand_in (declared_by s ++ known) rest) one)
    (stand_before (declared_by s ++ known) rest after (and_second (prevs_stand known s) (prevs_stand_in (declared_by s ++ known) rest) one)
    (stand_more_in known (declared_by s ++ known) (λ x h. among_right x (declared_by s) known h) after other))

bounded_before : (w : Setting) (i : ℕ) (unit : UnitDef) (body after : Block) → BoundedAll w i unit body → BoundedAll w i unit after →
    BoundedAll w i unit (before body after)
bounded_before w i unit Done after one other = other
bounded_before w i unit (Then s rest) after one other = (one.0, bounded_before w i unit rest after one.1 other)

loop_begins : (w : Setting) (i : ℕ) (unit : UnitDef) (known : List ℕ) (body : Block) (next : Plain) → BlockAsks w i unit known body →
    prevs_stand known next ≡ true → Bounded w i unit next → Asks w i unit known (do_block (turn body next))
loop_begins w i unit known body next h stands bounded =
    block_begins w i unit known (turn body next) (
      stand_before known body (Then next Done) h.0
          (and_from (prevs_stand known next) (prevs_stand_in (declared_by next ++ known) Done) stands refl),
      bounded_before w i unit body (Then next Done) h.1 (bounded, tt),
    )

-- ---- points

nothing : (xs : List ℕ) (x : ℕ) → IsAmongVariables [] x → IsAmongVariables xs x
nothing xs x at = absurd (none_among x at)

module _ (w : Setting) (i : ℕ) (unit : UnitDef) (known : List ℕ) where
  abbrev Point_asks : Tree → Node → Tree → Type 0
  Point_asks c n c' = PointAsks w i unit known c n c'

  end_silent : (stood : Bool) (l : Label) (at : Place) → ((x : ℕ) → IsAmongVariables (prevs_at (end_node stood l at)) x → ⊥)
      × ((x : ℕ) → IsAmongVariables (declared_at (end_node stood l at)) x → ⊥)
  end_silent true l at = (λ x h. none_among x h, λ x h. none_among x h)
  end_silent false l at = (λ x h. none_among x h, λ x h. none_among x h)

  join_silent : (stood : Bool) (l : Label) (at : Place) → ((x : ℕ) → IsAmongVariables (prevs_at (join_node stood l at)) x → ⊥)
      × ((x : ℕ) → IsAmongVariables (declared_at (join_node stood l at)) x → ⊥)
  join_silent true l at = (λ x h. none_among x h, λ x h. none_among x h)
  join_silent false l at = (λ x h. none_among x h, λ x h. none_among x h)

  point_asks : {c : Tree} {d : Bool} {a : Deed} {n : Node} {c' : Tree} → InstancePoint w i c d a n c' → Asks w i unit known c → Point_asks c n c'
  point_asks (turns.acts {s = s}) h =
      record { asked = known_so known (prevs_in s) h.0; bound = h.1; next = λ x at. at; asks = tt; due = λ j due. absurd due }
  point_asks (turns.takes {e = e} {body = body} {other = other}) h =
      let test : Bool = are_known known (prevs_in_expr e) in
      let inner = and_second test (prevs_stand_in known body && prevs_stand_in known other) h.0 in record {
        asked = known_so known (prevs_in_expr e) (and_first test (prevs_stand_in known body && prevs_stand_in known other) h.0);
        bound = nothing (locals unit);
        next = nothing [];
        asks = block_begins w i unit known body (and_first (prevs_stand_in known body) (prevs_stand_in known other) inner, h.1.0);
        due = λ j due. absurd (none_due w body j due);
      }
  point_asks (turns.passes {e = e} {body = body} {other = other}) h =
      let test : Bool = are_known known (prevs_in_expr e) in
      let inner = and_second test (prevs_stand_in known body && prevs_stand_in known other) h.0 in record {
        asked = known_so known (prevs_in_expr e) (and_first test (prevs_stand_in known body && prevs_stand_in known other) h.0);
        bound = nothing (locals unit);
        next = nothing [];
        asks = block_begins w i unit known other (and_second (prevs_stand_in known body) (prevs_stand_in known other) inner, h.1.1);
        due = λ j due. absurd (none_due w other j due);
      }
  point_asks turns.pauses h =
      record { asked = nothing known; bound = nothing (locals unit); next = nothing []; asks = h.0; due = λ j due. absurd due }
  point_asks (turns.repeats {l = l} {at = at} {body = body}) h = record {
    asked = nothing known;
    bound = nothing (locals unit);
    next = nothing [];
    asks = loop_begins w i unit known body (Repeat l at body) h h.0 h.1;
    due = λ j due. absurd (none_due w (turn body (Repeat l at body)) j due);
  }
  point_asks (turns.repeats_until {l = l} {at = at} {body = body} {e = e}) h = record {
    asked = nothing known;
    bound = nothing (locals unit);
    next = nothing [];
    asks = loop_begins w i unit known body (Again l at body e)
        (and_second (are_known known (prevs_in_expr e)) (prevs_stand_in known body) h.0, h.1) h.0 h.1;
    due = λ j due. absurd (none_due w (turn body (Again l at body e)) j due);
  }
  point_asks (turns.leaves {body = body} {e = e}) h = record {
    asked = known_so known (prevs_in_expr e) (and_first (are_known known (prevs_in_expr e)) (prevs_stand_in known body) h.0);
    bound = nothing (locals unit);
    next = nothing [];
    asks = tt;
    due = λ j due. absurd due;
  }
  point_asks (turns.turns {body = body} {e = e}) h = record {
    asked = known_so known (prevs_in_expr e) (and_first (are_known known (prevs_in_expr e)) (prevs_stand_in known body) h.0);
    bound = nothing (locals unit);
    next = nothing [];
    asks = h;
    due = λ j due. absurd due;
  }
  point_asks (turns.enters {l = l} {at = at} {e = e} {body = body}) h = record {
    asked = known_so known (prevs_in_expr e) (and_first (are_known known (prevs_in_expr e)) (prevs_stand_in known body) h.0);
    bound = nothing (locals unit);
    next = nothing [];
    asks = loop_begins w i unit known body (While l at e body)
        (and_second (are_known known (prevs_in_expr e)) (prevs_stand_in known body) h.0, h.1) h.0 h.1;
    due = λ j due. absurd (none_due w (turn body (While l at e body)) j due);
  }
  point_asks (turns.skips {e = e} {body = body}) h = record {
    asked = known_so known (prevs_in_expr e) (and_first (are_known known (prevs_in_expr e)) (prevs_stand_in known body) h.0);
    bound = nothing (locals unit);
    next = nothing [];
    asks = tt;
    due = λ j due. absurd due;
  }
  point_asks (turns.forks {bodies = bodies}) h = record {
    asked = nothing known;
    bound = nothing (locals unit);
    next = nothing [];
    asks = branches_begin w i unit known bodies h.0 h.1;
    due = λ j due. absurd (no_branch_due w bodies j due);
  }
  point_asks (turns.guards {e = e} {body = body}) h =
      let inner = and_second (are_known known (prevs_in_expr e)) (prevs_stand_in known body) h.0 in record {
        asked = nothing known;
        bound = nothing (locals unit);
        next = nothing [];
        asks = (
          and_first (are_known known (prevs_in_expr e)) (prevs_stand_in known body) h.0,
          ((inner, h.1), block_begins w i unit known body (inner, h.1)),
        );
        due = λ j due. absurd (none_due w body j due);
      }
  point_asks (turns.goes_on {s = s}) h = record {
    asked = known_so known (prevs_in_expr s.test) h;
    bound = nothing (locals unit);
    next = nothing [];
    asks = tt;
    due = λ j due. absurd due;
  }
  point_asks (turns.waits {s = s}) h = record {
    asked = known_so known (prevs_in_expr s.test) h;
    bound = nothing (locals unit);
    next = nothing [];
    asks = h;
    due = λ j due. absurd due;
  }
  point_asks (turns.lets {s = s}) h = record {
    asked = known_so known (prevs_in_expr s.test) h.0;
    bound = nothing (locals unit);
    next = nothing [];
    asks = h;
    due = λ j due. due;
  }
  point_asks (turns.aborts {s = s} is) h = record {
    asked = known_so known (prevs_in_expr s.test) h.0;
    bound = nothing (locals unit);
    next = nothing [];
    asks = tt;
    due = λ j due. absurd due;
  }
  point_asks (turns.resets {s = s} is) h = record {
    asked = known_so known (prevs_in_expr s.test) h.0;
    bound = nothing (locals unit);
    next = nothing [];
    asks = (h.0, (h.1.0, block_begins w i unit known s.body h.1.0));
    due = λ j due. absurd (none_due w s.body j due);
  }
  point_asks (turns.guard_ends {s = s} {stood = stood}) h =
      let silent = end_silent stood s.label s.place in record {
        asked = λ x at. absurd (silent.0 x at);
        bound = λ x at. absurd (silent.1 x at);
        next = λ x at. absurd (none_among x at);
        asks = tt;
        due = λ j due. absurd due;
      }
  point_asks (turns.joins {s = s} {stood = stood} settled done) h =
      let silent = join_silent stood s.label s.place in record {
        asked = λ x at. absurd (silent.0 x at);
        bound = λ x at. absurd (silent.1 x at);
        next = λ x at. absurd (none_among x at);
        asks = tt;
        due = λ j due. absurd due;
      }

-- ---- before what follows

seq_asks : (w : Setting) (i : ℕ) (unit : UnitDef) (wider : List ℕ) (s : Plain) (rest : Block) → BlockAsks w i unit wider (Then s rest) →
    (c : Tree) →
    Asks w i unit wider c → Asks w i unit wider (seq c (Then s rest))
seq_asks w i unit wider s rest all c h = by_tree c h
  where
    still : (t : Tree) → BlockAsks w i unit (next_declared t ++ wider) (Then s rest)
    still t = block_more w i unit wider (next_declared t ++ wider) (λ x at. among_right x (next_declared t) wider at) (Then s rest) all

    by_tree : (t : Tree) → Asks w i unit wider t → Asks w i unit wider (seq t (Then s rest))
    by_tree Nil a = block_begins w i unit wider (Then s rest) all
    by_tree (Wait x) a = (a, still (Wait x))
    by_tree (Test x) a = (a, still (Test x))
    by_tree (Idle body) a = (a, still (Idle body))
    by_tree (Do x) a = (a, still (Do x))
    by_tree (Seq t more) a = (a, still (Seq t more))
    by_tree (Par x stood branches) a = (a, still (Par x stood branches))
    by_tree (Guard x phase stood t) a = (a, still (Guard x phase stood t))
    by_tree (Run x callee phase stood t) a = (a, still (Run x callee phase stood t))

follows : (w : Setting) (i : ℕ) (unit : UnitDef) (known : List ℕ) (c : Tree) (n : Node) (c' : Tree) (s : Plain) (rest : Block) →
    Less (next_declared c) (declared_at n) → BlockAsks w i unit (next_declared c ++ known) (Then s rest) →
    Asks w i unit (declared_at n ++ known) c' → Asks w i unit (declared_at n ++ known) (seq c' (Then s rest))
follows w i unit known c n c' s rest less all h =
    seq_asks w i unit (declared_at n ++ known) s rest
    (block_more w i unit (next_declared c ++ known) (declared_at n ++ known)
    (among_joined (next_declared c) known (declared_at n ++ known) (λ x at. among_left x (declared_at n) known (less x at))
    (λ x at. among_right x (declared_at n) known at)) (Then s rest) all) c' h

follows_due : (w : Setting) (c : Tree) (s : Plain) (rest : Block) (j : ℕ) → DueIn w (seq c (Then s rest)) j → DueIn w c j
follows_due w Nil s rest j h = absurd (none_due w (Then s rest) j h)
follows_due w (Wait x) s rest j h = h
follows_due w (Test x) s rest j h = h
follows_due w (Idle body) s rest j h = h
follows_due w (Do x) s rest j h = h
follows_due w (Seq t more) s rest j h = h
follows_due w (Par x stood branches) s rest j h = h
follows_due w (Guard x phase stood t) s rest j h = h
follows_due w (Run x callee phase stood t) s rest j h = h

-- ---- the next tick

wake_rest : (w : Setting) (i : ℕ) (unit : UnitDef) (known : List ℕ) (c : Tree) (rest : Block) →
    BlockAsks w i unit (next_declared c ++ known) rest → BlockAsks w i unit (next_declared (woken c) ++ known) rest
wake_rest w i unit known Nil rest h = h
wake_rest w i unit known (Wait s) rest h = h
wake_rest w i unit known (Test s) rest h = h
wake_rest w i unit known (Idle body) rest h =
    block_more w i unit known (next_declared (do_block body) ++ known) (λ x at. among_right x (next_declared (do_block body)) known at) rest h
wake_rest w i unit known (Do s) rest h = h
wake_rest w i unit known (Seq c more) rest h = h
wake_rest w i unit known (Par s stood branches) rest h = h
wake_rest w i unit known (Guard s phase stood c) rest h = h
wake_rest w i unit known (Run s callee phase stood c) rest h = h

mutual
  wake_asks : (w : Setting) (i : ℕ) (unit : UnitDef) (known : List ℕ) (c : Tree) → Asks w i unit known c → Asks w i unit known (woken c)
  wake_asks w i unit known Nil h = tt
  wake_asks w i unit known (Wait s) h = h
  wake_asks w i unit known (Test s) h = h
  wake_asks w i unit known (Idle body) h = block_begins w i unit known body h
  wake_asks w i unit known (Do s) h = h
  wake_asks w i unit known (Seq c rest) h = (wake_asks w i unit known c h.0, wake_rest w i unit known c rest h.1)
  wake_asks w i unit known (Par s stood branches) h = wake_each w i unit known branches h
  wake_asks w i unit known (Guard s phase stood c) h = (h.0, (h.1.0, wake_asks w i unit known c h.1.1))
  wake_asks w i unit known (Run s callee phase stood c) h =
      (h.0, λ other is. ((h.1 other is).0, wake_asks w callee other (locals other) c (h.1 other is).1))

  wake_each : (w : Setting) (i : ℕ) (unit : UnitDef) (known : List ℕ) (branches : Trees) → EachAsks w i unit known branches →
      EachAsks w i unit known (all_woken branches)
  wake_each w i unit known no_tree h = tt
  wake_each w i unit known (beside weak c branches) h = (wake_asks w i unit known c h.0, wake_each w i unit known branches h.1)

pub trees_ask : TreesAsk
trees_ask = record {
  more = λ w i unit known wider c less h. asks_more w i unit known wider c less h;
  begins = block_begins;
  none_due = none_due;
  wakes = wake_asks;
  points = λ w i unit known c d a n c' point h. point_asks w i unit known point h;
  follows = follows;
  follows_due = follows_due;
}
