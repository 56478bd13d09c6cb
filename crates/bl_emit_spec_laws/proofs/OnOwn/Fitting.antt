-- All that the rules of a body ask and change is among their own: numbers of its places, counters of these, nodes that wait by flags, and marks.
use Rattle.std.proofs.Common.{◌≡◌, ℕ, suc, Bool, true, false, List, [], ◌∷◌, ◌++◌, Contains, map, nat_eq, refl}
use Rattle.std.proofs.Common.{if◌then◌else◌}
use Rattle.std.specs.List.{list_any}
use Rattle.std.specs.Prelude.{⊤}
use Rattle.bl_tree.proofs.Basics.{contains_first}
use Rattle.bl_tree.specs.declared.place.Place.{Place}
use Rattle.bl_tree.specs.declared.tree.Expr.{Expr}
use Rattle.bl_tree.specs.declared.tree.Guard.{Guard}
use Rattle.bl_tree.specs.declared.tree.Guard.TheVariants.{Abort, Reset}
use Rattle.bl_graph_nodes.specs.Nodes.{ActAt, CheckAt, DepthEndAt, DepthJoinAt, EnterAt, ForkAt, HeadAt, Node}
use Rattle.bl_graph_nodes.specs.Nodes.{PauseAt, StartAt, SurfaceEndAt, SurfaceJoinAt}
use Rattle.bl_graph_nodes.specs.Nodes.{TestAt, are_instant, arguments_of, entry, is_instant, some_strong}
use Rattle.bl_graph_nodes.specs.Plain.{Act, Again, Await, Block, Bodies, Body as BodyOf, Cobegin, Done, If, Label, Last, Plain, Repeat, Run as RunOf, Then}
use Rattle.bl_graph_nodes.specs.Plain.{Until, When, While}
use Rattle.bl_machine.specs.declared.slots.Slot.{Slot}
use Rattle.bl_machine.specs.Uses.{Slots}
use Rattle.bl_machine_pass.specs.SlotLayout.{Spot, slot_at, spots_in, spots_in_each, spots_of}
use Rattle.bl_machine_pass.specs.Transitions.{Age, Change, Condition, Needed, Transition}
use Rattle.bl_machine_pass.specs.Transitions.{ClearsBoth, ClearsCounter, Ended, EndsWhen, Finishes, Flagged, IsAny, IsNew, IsOld, Rested, RestedIn, SetsCounter, SetsFlag, SetsMark}
use Rattle.bl_machine_pass.specs.Transitions.{age_of, body_ends, counters_in, counters_in_each, counters_of, endings, enter, enter_each, fires, flagged, joins}
use Rattle.bl_machine_pass.specs.Transitions.{marked, needed, once, once_but, rests_in, rests_in_first, rests_of, rule_where, rules_in, rules_in_each, rules_of}
use Rattle.bl_machine_pass.specs.Transitions.{strong_endings}
use Rattle.bl_emit_spec_laws.specs.Registers.Laws.{are_in_a_row}
use Rattle.bl_emit_spec_laws.proofs.OnOwn.Members.{Every, every_both, every_left, every_map, every_right}

-- ---- rows

abbrev mutual
  -- the numbers at which the body of each `when` rests are in a row
  pub RowsOf : Slots → Plain → Type 0
  RowsOf slots (Act l s) = ⊤
  RowsOf slots (Await l at e) = ⊤
  RowsOf slots (RunOf l at target a inputs outputs) = ⊤
  RowsOf slots (If l at e body other) = RowsIn slots body × RowsIn slots other
  RowsOf slots (Cobegin l at bodies) = RowsEach slots bodies
  RowsOf slots (When l at guard e body) = (are_in_a_row (rests_in slots body) ≡ true) × RowsIn slots body
  RowsOf slots (Repeat l at body) = RowsIn slots body
  RowsOf slots (Until l at body e) = RowsIn slots body
  RowsOf slots (While l at e body) = RowsIn slots body
  RowsOf slots (Again l at body e) = RowsIn slots body

  pub RowsIn : Slots → Block → Type 0
  RowsIn slots Done = ⊤
  RowsIn slots (Then s rest) = RowsOf slots s × RowsIn slots rest

  pub RowsEach : Slots → Bodies → Type 0
  RowsEach slots Last = ⊤
  RowsEach slots (BodyOf weak body rest) = RowsIn slots body × RowsEach slots rest

module _ (slots : Slots) (all : List Transition) (S : Slot → Type 0) where
  -- ---- what is among their own

  -- some rule asks for the flag of the node
  pub record HasFlag (n : Node) : Type 0 where
    pub rule : Transition
    pub there : Contains all rule
    pub condition : rule.condition ≡ Flagged
    pub is : rule.node ≡ n

  -- some rule sets its mark
  pub record HasMark (n : Node) : Type 0 where
    pub rule : Transition
    pub there : Contains all rule
    pub marks : Contains rule.on_true (SetsMark n)
    pub is : rule.node ≡ n

  -- it is the counter of a place
  pub record IsCounter (k : ℕ) : Type 0 where
    pub slot : Slot
    pub there : S slot
    pub is : slot.counter ≡ k

  abbrev pub ChangeFits : Change → Type 0
  ChangeFits (SetsFlag n) = HasFlag n
  ChangeFits (SetsCounter slot) = S slot
  ChangeFits (ClearsCounter k) = IsCounter k
  ChangeFits (ClearsBoth k) = IsCounter k
  ChangeFits (SetsMark n) = HasMark n
  ChangeFits (EndsWhen start surface depth) = HasMark start × HasFlag surface × HasFlag depth
  ChangeFits Finishes = ⊤

  abbrev pub AgeFits : Age → Type 0
  AgeFits (IsNew n) = HasMark n
  AgeFits (IsOld n) = HasMark n
  AgeFits IsAny = ⊤

  abbrev pub ConditionFits : Condition → Type 0
  ConditionFits Flagged = ⊤
  ConditionFits (Rested slot) = S slot
  ConditionFits (RestedIn some) = Every S some × (are_in_a_row some ≡ true)
  ConditionFits (Ended age needed) = AgeFits age × Every S needed.slots

  pub record RuleFits (rule : Transition) : Type 0 where
    pub on_true : Every ChangeFits rule.on_true
    pub on_false : Every ChangeFits rule.on_false
    pub condition : ConditionFits rule.condition

  -- these rules are among those of the body
  abbrev pub There : List Transition → Type 0
  There some = Every (Contains all) some

  -- the numbers of these places are
  abbrev pub Placed : List Spot → Type 0
  Placed spots = Every (λ p. S (slot_at slots p)) spots

  there_left : (xs ys : List Transition) → There (xs ++ ys) → There xs
  there_left xs ys there = every_left (Contains all) xs ys there

  there_right : (xs ys : List Transition) → There (xs ++ ys) → There ys
  there_right xs ys there = every_right (Contains all) xs ys there

  placed_left : (xs ys : List Spot) → Placed (xs ++ ys) → Placed xs
  placed_left xs ys placed = every_left (λ p. S (slot_at slots p)) xs ys placed

  placed_right : (xs ys : List Spot) → Placed (xs ++ ys) → Placed ys
  placed_right xs ys placed = every_right (λ p. S (slot_at slots p)) xs ys placed

  -- ---- places of parts

  counter_fits : (slot : Slot) → S slot → IsCounter slot.counter
  counter_fits slot there = record { slot = slot; there = there; is = refl }

  mutual
    counters_of_fit : (s : Plain) → Placed (spots_of s) → Every IsCounter (counters_of slots s)
    counters_of_fit (Act l s) placed = tt
    counters_of_fit (Await l at e) placed = (counter_fits (slots.rest l) placed.0, tt)
    counters_of_fit (RunOf l at target a inputs outputs) placed = (counter_fits (slots.rest l) placed.0, tt)
    counters_of_fit (If l at e body other) placed =
        every_both IsCounter (counters_in slots body) (counters_in slots other)
        (counters_in_fit body (placed_left (spots_in body) (spots_in other) placed))
        (counters_in_fit other (placed_right (spots_in body) (spots_in other) placed))
    counters_of_fit (Cobegin l at bodies) placed = counters_each_fit l 0 bodies placed
    counters_of_fit (When l at guard e body) placed = counters_in_fit body placed
    counters_of_fit (Repeat l at body) placed = counters_in_fit body placed
    counters_of_fit (Until l at body e) placed = counters_in_fit body placed
    counters_of_fit (While l at e body) placed = counters_in_fit body placed
    counters_of_fit (Again l at body e) placed = counters_in_fit body placed

    counters_in_fit : (body : Block) → Placed (spots_in body) → Every IsCounter (counters_in slots body)
    counters_in_fit Done placed = tt
    counters_in_fit (Then s rest) placed =
        every_both IsCounter (counters_of slots s) (counters_in slots rest)
        (counters_of_fit s (placed_left (spots_of s) (spots_in rest) placed))
        (counters_in_fit rest (placed_right (spots_of s) (spots_in rest) placed))

    counters_each_fit : (l : Label) (k : ℕ) (bodies : Bodies) → Placed (spots_in_each l k bodies) →
        Every IsCounter (counters_in_each slots l k bodies)
    counters_each_fit l k Last placed = tt
    counters_each_fit l k (BodyOf weak body rest) placed = (
      counter_fits (slots.ending l k) placed.0,
      every_both IsCounter (counters_in slots body) (counters_in_each slots l (suc k) rest)
          (counters_in_fit body (placed_left (spots_in body) (spots_in_each l (suc k) rest) placed.1))
          (counters_each_fit l (suc k) rest (placed_right (spots_in body) (spots_in_each l (suc k) rest) placed.1)),
    )

  once_fit : (seen xs : List ℕ) → Every IsCounter xs → Every IsCounter (once_but seen xs)
  once_fit seen [] each = tt
  once_fit seen (k ∷ rest) each =
      by_test (list_any (nat_eq k) seen) (once_fit seen rest each.1) (each.0, once_fit (k ∷ seen) rest each.1)
    where
      by_test : (b : Bool) → Every IsCounter (once_but seen rest) → Every IsCounter (k ∷ once_but (k ∷ seen) rest) →
          Every IsCounter (if b then once_but seen rest else k ∷ once_but (k ∷ seen) rest)
      by_test true one two = one
      by_test false one two = two

  mutual
    rests_of_fit : (s : Plain) → Placed (spots_of s) → Every S (rests_of slots s)
    rests_of_fit (Act l s) placed = tt
    rests_of_fit (Await l at e) placed = (placed.0, tt)
    rests_of_fit (RunOf l at target a inputs outputs) placed = (placed.0, tt)
    rests_of_fit (If l at e body other) placed =
        every_both S (rests_in slots body) (rests_in slots other)
        (rests_in_fit body (placed_left (spots_in body) (spots_in other) placed))
        (rests_in_fit other (placed_right (spots_in body) (spots_in other) placed))
    rests_of_fit (Cobegin l at bodies) placed = rests_first_fit l bodies placed
    rests_of_fit (When l at guard e body) placed = rests_in_fit body placed
    rests_of_fit (Repeat l at body) placed = rests_in_fit body placed
    rests_of_fit (Until l at body e) placed = rests_in_fit body placed
    rests_of_fit (While l at e body) placed = rests_in_fit body placed
    rests_of_fit (Again l at body e) placed = rests_in_fit body placed

    rests_in_fit : (body : Block) → Placed (spots_in body) → Every S (rests_in slots body)
    rests_in_fit Done placed = tt
    rests_in_fit (Then s rest) placed =
        every_both S (rests_of slots s) (rests_in slots rest)
        (rests_of_fit s (placed_left (spots_of s) (spots_in rest) placed))
        (rests_in_fit rest (placed_right (spots_of s) (spots_in rest) placed))

    rests_first_fit : (l : Label) (bodies : Bodies) → Placed (spots_in_each l 0 bodies) → Every S (rests_in_first slots l bodies)
    rests_first_fit l Last placed = tt
    rests_first_fit l (BodyOf weak body rest) placed =
        (placed.0, rests_in_fit body (placed_left (spots_in body) (spots_in_each l 1 rest) placed.1))

  endings_fit : (l : Label) (k : ℕ) (bodies : Bodies) → Placed (spots_in_each l k bodies) → Every S (endings slots l k bodies)
  endings_fit l k Last placed = tt
  endings_fit l k (BodyOf weak body rest) placed =
      (placed.0, endings_fit l (suc k) rest (placed_right (spots_in body) (spots_in_each l (suc k) rest) placed.1))

  strong_fit : (l : Label) (k : ℕ) (bodies : Bodies) → Placed (spots_in_each l k bodies) → Every S (strong_endings slots l k bodies)
  strong_fit l k Last placed = tt
  strong_fit l k (BodyOf true body rest) placed =
      strong_fit l (suc k) rest (placed_right (spots_in body) (spots_in_each l (suc k) rest) placed.1)
  strong_fit l k (BodyOf false body rest) placed =
      (placed.0, strong_fit l (suc k) rest (placed_right (spots_in body) (spots_in_each l (suc k) rest) placed.1))

  needed_fits : (l : Label) (bodies : Bodies) → Placed (spots_in_each l 0 bodies) → Every S (needed slots l bodies).slots
  needed_fits l bodies placed = by_test (some_strong bodies)
    where
      needed_by : Bool → Needed
      needed_by b =
          if b then record { all = true; slots = strong_endings slots l 0 bodies } else record { all = false; slots = endings slots l 0 bodies }

      by_test : (b : Bool) → Every S (needed_by b).slots
      by_test true = strong_fit l 0 bodies placed
      by_test false = endings_fit l 0 bodies placed

  -- ---- where statements begin

  flag_of : (n : Node) (on_true : List Change) → Contains all (flagged n on_true) → HasFlag n
  flag_of n on_true there = record { rule = flagged n on_true; there = there; condition = refl; is = refl }

  test_of : (n : Node) (on_true on_false : List Change) → Contains all (record { node = n; condition = Flagged; on_true = on_true; on_false = on_false }) →
      HasFlag n
  test_of n on_true on_false there =
      record { rule = record { node = n; condition = Flagged; on_true = on_true; on_false = on_false }; there = there; condition = refl; is = refl }

  pub entry_flag : (s : Plain) (next : Change) → There (rules_of slots s next) → HasFlag (entry s)
  entry_flag (Act l s) next there = flag_of (ActAt l s) (next ∷ []) there.0
  entry_flag (Await l at e) next there = flag_of (PauseAt l at) (SetsCounter (slots.rest l) ∷ []) there.0
  entry_flag (RunOf l at target a inputs outputs) next there =
      flag_of (EnterAt l at (arguments_of target inputs outputs)) (SetsCounter (slots.rest l) ∷ []) there.0
  entry_flag (If l at e body other) next there = test_of (TestAt l at e) (enter body next ∷ []) (enter other next ∷ []) there.0
  entry_flag (Cobegin l at bodies) next there =
      flag_of (ForkAt l at) (marked (is_instant (Cobegin l at bodies)) (ForkAt l at) (enter_each slots l 0 bodies)) there.0
  entry_flag (When l at guard e body) next there =
      flag_of (StartAt l at) (marked (are_instant body) (StartAt l at) (enter body (body_ends l at body) ∷ [])) there.0
  entry_flag (Repeat l at body) next there = flag_of (HeadAt l at) (enter body (SetsFlag (HeadAt l at)) ∷ []) there.0
  entry_flag (Until l at body e) next there = flag_of (HeadAt l at) (enter body (SetsFlag (TestAt l at e)) ∷ []) there.0
  entry_flag (While l at e body) next there = test_of (TestAt l at e) (enter body (SetsFlag (TestAt l at e)) ∷ []) (next ∷ []) there.0
  entry_flag (Again l at body e) next there = test_of (TestAt l at e) (next ∷ []) (SetsFlag (HeadAt l at) ∷ []) there.1.0

  enter_fits : (body : Block) (inner next : Change) → There (rules_in slots body inner) → ChangeFits next → ChangeFits (enter body next)
  enter_fits Done inner next there fits = fits
  enter_fits (Then s rest) inner next there fits =
      entry_flag s (enter rest inner) (there_left (rules_of slots s (enter rest inner)) (rules_in slots rest inner) there)

  enter_each_fit : (l : Label) (k : ℕ) (bodies : Bodies) → There (rules_in_each slots l k bodies) → Placed (spots_in_each l k bodies) →
      Every ChangeFits (enter_each slots l k bodies)
  enter_each_fit l k Last there placed = tt
  enter_each_fit l k (BodyOf weak body rest) there placed = (
    enter_fits body (SetsCounter (slots.ending l k)) (SetsCounter (slots.ending l k))
        (there_left (rules_in slots body (SetsCounter (slots.ending l k))) (rules_in_each slots l (suc k) rest) there) placed.0,
    enter_each_fit l (suc k) rest (there_right (rules_in slots body (SetsCounter (slots.ending l k))) (rules_in_each slots l (suc k) rest) there)
        (placed_right (spots_in body) (spots_in_each l (suc k) rest) placed.1),
  )

  -- ---- rules

  flagged_fits : (n : Node) (on_true : List Change) → Every ChangeFits on_true → RuleFits (flagged n on_true)
  flagged_fits n on_true fits = record { on_true = fits; on_false = tt; condition = tt }

  -- `cobegin`
  module _ (l : Label) (at : Place) (bodies : Bodies) (next : Change) (entered : List Change) (rs : List Transition) where
    abbrev fork_rules : Bool → List Transition
    fork_rules instant =
        flagged (ForkAt l at) (marked instant (ForkAt l at) entered)
        ∷ (rule_where instant (joins slots l bodies (IsNew (ForkAt l at)) (SurfaceJoinAt l at) next)
        ++ joins slots l bodies (age_of instant (ForkAt l at)) (DepthJoinAt l at) next
        ∷ rs)

    fork_inner : (instant : Bool) → There (fork_rules instant) → There rs
    fork_inner true there = there.1.1.1
    fork_inner false there = there.1.1

    joins_fit : (age : Age) (n : Node) → Placed (spots_in_each l 0 bodies) → ChangeFits next → AgeFits age →
        RuleFits (joins slots l bodies age n next)
    joins_fit age n placed fits aged = record {
      on_true = every_both ChangeFits (map ClearsCounter (once (counters_in_each slots l 0 bodies))) (next ∷ [])
          (every_map IsCounter ChangeFits ClearsCounter (once (counters_in_each slots l 0 bodies)) (λ k is. is)
          (once_fit [] (counters_in_each slots l 0 bodies) (counters_each_fit l 0 bodies placed)))
          (fits, tt);
      on_false = tt;
      condition = (aged, needed_fits l bodies placed);
    }

    fork_fit : (instant : Bool) → There (fork_rules instant) → Placed (spots_in_each l 0 bodies) → ChangeFits next →
        Every ChangeFits entered →
        Every RuleFits rs → Every RuleFits (fork_rules instant)
    fork_fit true there placed fits begin inner =
        let mark : HasMark (ForkAt l at) =
        record {
          rule = flagged (ForkAt l at) (SetsMark (ForkAt l at) ∷ entered);
          there = there.0;
          marks = contains_first (SetsMark (ForkAt l at)) entered;
          is = refl;
        } in (
          flagged_fits (ForkAt l at) (SetsMark (ForkAt l at) ∷ entered) (mark, begin),
          (
            joins_fit (IsNew (ForkAt l at)) (SurfaceJoinAt l at) placed fits mark,
            (joins_fit (IsOld (ForkAt l at)) (DepthJoinAt l at) placed fits mark, inner),
          ),
        )
    fork_fit false there placed fits begin inner =
        (flagged_fits (ForkAt l at) entered begin, (joins_fit IsAny (DepthJoinAt l at) placed fits tt, inner))

  -- `when`
  module _ (l : Label) (at : Place) (next entered : Change) (check : Transition) (rs : List Transition) where
    abbrev guard_rules : Bool → List Transition
    guard_rules instant =
        flagged (StartAt l at) (marked instant (StartAt l at) (entered ∷ []))
        ∷ (rule_where instant (flagged (SurfaceEndAt l at) (next ∷ []))
        ++ check
        ∷ flagged (DepthEndAt l at) (next ∷ [])
        ∷ rs)

    guard_inner : (instant : Bool) → There (guard_rules instant) → There rs
    guard_inner true there = there.1.1.1.1
    guard_inner false there = there.1.1.1

    start_mark : There (guard_rules true) → HasMark (StartAt l at)
    start_mark there = record {
      rule = flagged (StartAt l at) (SetsMark (StartAt l at) ∷ entered ∷ []);
      there = there.0;
      marks = contains_first (SetsMark (StartAt l at)) (entered ∷ []);
      is = refl;
    }

    ends_fit : (instant : Bool) → There (guard_rules instant) →
        ChangeFits (if instant then EndsWhen (StartAt l at) (SurfaceEndAt l at) (DepthEndAt l at) else SetsFlag (DepthEndAt l at))
    ends_fit true there = (
      start_mark there,
      flag_of (SurfaceEndAt l at) (next ∷ []) there.1.0,
      flag_of (DepthEndAt l at) (next ∷ []) there.1.1.1.0,
    )
    ends_fit false there = flag_of (DepthEndAt l at) (next ∷ []) there.1.1.0

    guard_fit : (instant : Bool) → There (guard_rules instant) → ChangeFits next → ChangeFits entered → RuleFits check →
        Every RuleFits rs →
        Every RuleFits (guard_rules instant)
    guard_fit true there fits begin checks inner = (
      flagged_fits (StartAt l at) (SetsMark (StartAt l at) ∷ entered ∷ []) (start_mark there, (begin, tt)),
      (
        flagged_fits (SurfaceEndAt l at) (next ∷ []) (fits, tt),
        (checks, (flagged_fits (DepthEndAt l at) (next ∷ []) (fits, tt), inner)),
      ),
    )
    guard_fit false there fits begin checks inner = (
      flagged_fits (StartAt l at) (entered ∷ []) (begin, tt),
      (checks, (flagged_fits (DepthEndAt l at) (next ∷ []) (fits, tt), inner)),
    )

  -- the check of a `when`
  abbrev check : Label → Place → Guard → Expr → Block → Change → Transition
  check l at guard e body next = record {
    node = CheckAt l at e;
    condition = RestedIn (rests_in slots body);
    on_true = map ClearsBoth (once (counters_in slots body)) ++ fires guard l at body next ∷ [];
    on_false = [];
  }

  fires_fits : (guard : Guard) (l : Label) (at : Place) (body : Block) (next : Change) → ChangeFits next →
      ChangeFits (enter body (body_ends l at body)) → ChangeFits (fires guard l at body next)
  fires_fits Abort l at body next fits again = fits
  fires_fits Reset l at body next fits again = again

  check_fits : (l : Label) (at : Place) (guard : Guard) (e : Expr) (body : Block) (next : Change) → ChangeFits next →
      ChangeFits (enter body (body_ends l at body)) → Placed (spots_in body) → are_in_a_row (rests_in slots body) ≡ true →
      RuleFits (check l at guard e body next)
  check_fits l at guard e body next fits again placed row = record {
    on_true = every_both ChangeFits (map ClearsBoth (once (counters_in slots body))) (fires guard l at body next ∷ [])
        (every_map IsCounter ChangeFits ClearsBoth (once (counters_in slots body)) (λ k is. is)
        (once_fit [] (counters_in slots body) (counters_in_fit body placed)))
        (fires_fits guard l at body next fits again, tt);
    on_false = tt;
    condition = (rests_in_fit body placed, row);
  }

  -- a loop with its test behind
  until_fit : (l : Label) (at : Place) (body : Block) (e : Expr) (next : Change) → There (rules_of slots (Until l at body e) next) →
      ChangeFits next → HasFlag (TestAt l at e) → Every RuleFits (rules_in slots body (SetsFlag (TestAt l at e))) →
      Every RuleFits (rules_of slots (Until l at body e) next)
  until_fit l at body e next there fits test inner =
      let head = flag_of (HeadAt l at) (enter body (SetsFlag (TestAt l at e)) ∷ []) there.0 in (
        flagged_fits (HeadAt l at) (enter body (SetsFlag (TestAt l at e)) ∷ [])
            (enter_fits body (SetsFlag (TestAt l at e)) (SetsFlag (TestAt l at e)) there.1.1 test, tt),
        (record { on_true = (fits, tt); on_false = (head, tt); condition = tt }, inner),
      )

  mutual
    rules_of_fit : (s : Plain) (next : Change) → There (rules_of slots s next) → Placed (spots_of s) → RowsOf slots s → ChangeFits next →
        Every RuleFits (rules_of slots s next)
    rules_of_fit (Act l s) next there placed rows fits = (flagged_fits (ActAt l s) (next ∷ []) (fits, tt), tt)
    rules_of_fit (Await l at e) next there placed rows fits = (
      flagged_fits (PauseAt l at) (SetsCounter (slots.rest l) ∷ []) (placed.0, tt),
      (record { on_true = (fits, tt); on_false = tt; condition = placed.0 }, tt),
    )
    rules_of_fit (RunOf l at target a inputs outputs) next there placed rows fits = (
      flagged_fits (EnterAt l at (arguments_of target inputs outputs)) (SetsCounter (slots.rest l) ∷ []) (placed.0, tt),
      (record { on_true = (fits, tt); on_false = tt; condition = placed.0 }, tt),
    )
    rules_of_fit (If l at e body other) next there placed rows fits =
        let first = there_left (rules_in slots body next) (rules_in slots other next) there.1 in
        let second = there_right (rules_in slots body next) (rules_in slots other next) there.1 in (
          record { on_true = (enter_fits body next next first fits, tt); on_false = (enter_fits other next next second fits, tt); condition = tt },
          every_both RuleFits (rules_in slots body next) (rules_in slots other next)
              (rules_in_fit body next first (placed_left (spots_in body) (spots_in other) placed) rows.0 fits)
              (rules_in_fit other next second (placed_right (spots_in body) (spots_in other) placed) rows.1 fits),
        )
    rules_of_fit (Cobegin l at bodies) next there placed rows fits =
        let inner =
        fork_inner l at bodies next (enter_each slots l 0 bodies) (rules_in_each slots l 0 bodies) (is_instant (Cobegin l at bodies)) there in
        fork_fit l at bodies next (enter_each slots l 0 bodies) (rules_in_each slots l 0 bodies) (is_instant (Cobegin l at bodies)) there placed fits
        (enter_each_fit l 0 bodies inner placed) (rules_each_fit l 0 bodies inner placed rows)
    rules_of_fit (When l at guard e body) next there placed rows fits =
        let ends = body_ends l at body in
        let entered = enter body (body_ends l at body) in
        let checks = check l at guard e body next in
        let inner = guard_inner l at next entered checks (rules_in slots body ends) (are_instant body) there in
        let ended = ends_fit l at next entered checks (rules_in slots body ends) (are_instant body) there in
        let begin = enter_fits body ends ends inner ended in
        guard_fit l at next entered checks (rules_in slots body ends) (are_instant body) there fits begin
        (check_fits l at guard e body next fits begin placed rows.0) (rules_in_fit body ends inner placed rows.1 ended)
    rules_of_fit (Repeat l at body) next there placed rows fits =
        let head = flag_of (HeadAt l at) (enter body (SetsFlag (HeadAt l at)) ∷ []) there.0 in (
          flagged_fits (HeadAt l at) (enter body (SetsFlag (HeadAt l at)) ∷ [])
              (enter_fits body (SetsFlag (HeadAt l at)) (SetsFlag (HeadAt l at)) there.1 head, tt),
          rules_in_fit body (SetsFlag (HeadAt l at)) there.1 placed rows head,
        )
    rules_of_fit (Until l at body e) next there placed rows fits =
        let test = test_of (TestAt l at e) (next ∷ []) (SetsFlag (HeadAt l at) ∷ []) there.1.0 in
        until_fit l at body e next there fits test (rules_in_fit body (SetsFlag (TestAt l at e)) there.1.1 placed rows test)
    rules_of_fit (While l at e body) next there placed rows fits =
        let test = test_of (TestAt l at e) (enter body (SetsFlag (TestAt l at e)) ∷ []) (next ∷ []) there.0 in (
          record {
            on_true = (enter_fits body (SetsFlag (TestAt l at e)) (SetsFlag (TestAt l at e)) there.1 test, tt);
            on_false = (fits, tt);
            condition = tt;
          },
          rules_in_fit body (SetsFlag (TestAt l at e)) there.1 placed rows test,
        )
    rules_of_fit (Again l at body e) next there placed rows fits =
        let test = test_of (TestAt l at e) (next ∷ []) (SetsFlag (HeadAt l at) ∷ []) there.1.0 in
        until_fit l at body e next there fits test (rules_in_fit body (SetsFlag (TestAt l at e)) there.1.1 placed rows test)

    pub rules_in_fit : (body : Block) (next : Change) → There (rules_in slots body next) → Placed (spots_in body) → RowsIn slots body →
        ChangeFits next → Every RuleFits (rules_in slots body next)
    rules_in_fit Done next there placed rows fits = tt
    rules_in_fit (Then s rest) next there placed rows fits =
        let first = there_left (rules_of slots s (enter rest next)) (rules_in slots rest next) there in
        let second = there_right (rules_of slots s (enter rest next)) (rules_in slots rest next) there in
        every_both RuleFits (rules_of slots s (enter rest next)) (rules_in slots rest next)
        (rules_of_fit s (enter rest next) first (placed_left (spots_of s) (spots_in rest) placed) rows.0 (enter_fits rest next next second fits))
        (rules_in_fit rest next second (placed_right (spots_of s) (spots_in rest) placed) rows.1 fits)

    rules_each_fit : (l : Label) (k : ℕ) (bodies : Bodies) → There (rules_in_each slots l k bodies) → Placed (spots_in_each l k bodies) →
        RowsEach slots bodies → Every RuleFits (rules_in_each slots l k bodies)
    rules_each_fit l k Last there placed rows = tt
    rules_each_fit l k (BodyOf weak body rest) there placed rows =
        let first = there_left (rules_in slots body (SetsCounter (slots.ending l k))) (rules_in_each slots l (suc k) rest) there in
        let second = there_right (rules_in slots body (SetsCounter (slots.ending l k))) (rules_in_each slots l (suc k) rest) there in
        every_both RuleFits (rules_in slots body (SetsCounter (slots.ending l k))) (rules_in_each slots l (suc k) rest)
        (rules_in_fit body (SetsCounter (slots.ending l k)) first (placed_left (spots_in body) (spots_in_each l (suc k) rest) placed.1) rows.0 placed.0)
        (rules_each_fit l (suc k) rest second (placed_right (spots_in body) (spots_in_each l (suc k) rest) placed.1) rows.1)
