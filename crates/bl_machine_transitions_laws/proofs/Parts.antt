-- What changes where a block is entered, and the rules of the nodes of a `cobegin` and of a `when` themselves.
use Rattle.std.proofs.Common.{◌≡◌, ℕ, suc, ◌+◌, Bool, true, false, List, [], ◌∷◌, ◌++◌, map, refl, ap, ◌∙◌, arith}
use Rattle.std.proofs.Common.{if◌then◌else◌}
use Rattle.bl_tree.specs.declared.place.Place.{Place}
use Rattle.bl_tree.specs.declared.tree.Expr.{Expr}
use Rattle.bl_tree.specs.declared.tree.Guard.{Guard}
use Rattle.bl_tree.specs.declared.tree.Guard.TheVariants.{Abort, Reset}
use Rattle.bl_graph_nodes.specs.Nodes.{CheckAt, DepthEndAt, DepthJoinAt, ForkAt, Node, StartAt, SurfaceEndAt, SurfaceJoinAt, entry, nodes_in}
use Rattle.bl_graph_nodes.specs.Nodes.{nodes_in_each, nodes_of, where_so}
use Rattle.bl_graph_nodes.specs.Plain.{Act, Again, Await, Block, Bodies, Body as BodyOf, Cobegin, Done, If, Label, Last, Plain, Repeat, Run as RunOf, Then}
use Rattle.bl_graph_nodes.specs.Plain.{Until, When, While}
use Rattle.bl_machine.specs.Uses.{Slots}
use Rattle.bl_machine_pass.specs.SlotLayout.{spots_in, spots_in_each}
use Rattle.bl_machine_pass.specs.Transitions as nodes
use Rattle.bl_machine_pass.specs.Transitions.{ClearsBoth, ClearsCounter, EndsWhen, IsAny, IsNew, IsOld, RestedIn, SetsCounter, SetsFlag, age_of, once, rule_where}
use Rattle.bl_machine_transitions.specs.declared.transition.Age.{Age}
use Rattle.bl_machine_transitions.specs.declared.transition.Age.TheVariants as age
use Rattle.bl_machine_transitions.specs.declared.transition.Condition.TheVariants as condition
use Rattle.bl_machine_transitions.specs.declared.transition.Change.{Change}
use Rattle.bl_machine_transitions.specs.declared.transition.Change.TheVariants as change
use Rattle.bl_machine_transitions.specs.Callees.{zero_where}
use Rattle.bl_machine_transitions.specs.Listed.{Layout, enter_block, enter_each, fires, flagged_rule, forgotten, fork_nodes, freed, guard_nodes, when_body_end}
use Rattle.bl_machine_transitions.specs.Listed.{when_rules}
use Rattle.bl_machine_transitions.specs.Listed.{joining_rule, joins_of, mark_change, needed, node_count, place_count, places_in_branches, rests_in}
use Rattle.bl_machine_transitions.specs.declared.transition.Silent.TheVariants as silent
use Rattle.bl_machine_transitions.specs.Told.{Nothing, NumberedTransition, Task, Tests, task_at, told_age, told_change, told_needed, told_rule}
use Rattle.bl_machine_transitions_laws.proofs.Agreeing.{Agrees, Tells, after, in_first, in_second_at, rule_is}
use Rattle.bl_machine_transitions_laws.proofs.Places.{Placed, cons_is, counters_each_told, counters_told, further, joined_is, needed_told, pair_is}
use Rattle.bl_machine_transitions_laws.proofs.Places.{rests_told, single_is}
use Rattle.bl_machine_transitions_laws.proofs.Written.{WrittenEach, WrittenIn, WrittenOf}

module _ (number : Node → ℕ) (slots : Slots) (layout : Layout) where
  -- the nodes from the position on have the numbers of their positions
  abbrev pub Numbered : ℕ → List Node → Type 0
  Numbered k xs = Agrees number layout.number k xs

  -- ---- blocks that are entered

  pub entry_told : (s : Plain) (k : ℕ) → WrittenOf s → Numbered k (nodes_of s) → number (entry s) ≡ layout.number k
  entry_told (Act l s) k w agrees = agrees.0
  entry_told (Await l at e) k w agrees = agrees.0
  entry_told (RunOf l at target a inputs outputs) k w agrees = agrees.0
  entry_told (If l at e body other) k w agrees = agrees.0
  entry_told (Cobegin l at bodies) k w agrees = agrees.0
  entry_told (When l at guard e body) k w agrees = agrees.0
  entry_told (Repeat l at body) k w agrees = agrees.0
  entry_told (Until l at body e) k w agrees = agrees.0
  entry_told (While l at e body) k w agrees = agrees.0
  entry_told (Again l at body e) k w agrees = absurd w

  pub enter_told : (body : Block) (k : ℕ) (next : nodes.Change) (goes : Change) → WrittenIn body → Numbered k (nodes_in body) →
      told_change number next ≡ goes → told_change number (nodes.enter body next) ≡ enter_block layout k body goes
  enter_told Done k next goes w agrees is = is
  enter_told (Then s rest) k next goes w agrees is =
      ap change.SetFlag (entry_told s k w.0 (in_first number layout.number (nodes_of s) (nodes_in rest) k agrees))

  pub enter_each_told : (l : Label) (j : ℕ) (bodies : Bodies) (k p : ℕ) → WrittenEach bodies → Numbered k (nodes_in_each bodies) →
      Placed slots layout p (spots_in_each l j bodies) →
      map (told_change number) (nodes.enter_each slots l j bodies) ≡ enter_each layout k p bodies
  enter_each_told l j Last k p w agrees placed = refl
  enter_each_told l j (BodyOf weak body rest) k p w agrees placed =
      cons_is (told_change number (nodes.enter body (SetsCounter (slots.ending l j)))) (enter_block layout k body (change.SetCounter (layout.slot p)))
      (map (told_change number) (nodes.enter_each slots l (suc j) rest))
      (enter_each layout (k + node_count body) (suc (p + place_count body)) rest)
      (enter_told body k (SetsCounter (slots.ending l j)) (change.SetCounter (layout.slot p)) w.0
      (in_first number layout.number (nodes_in body) (nodes_in_each rest) k agrees) (ap change.SetCounter placed.0))
      (enter_each_told l (suc j) rest (k + node_count body) (suc (p + place_count body)) w.1
      (in_second_at number layout.number (nodes_in body) (nodes_in_each rest) k (k + node_count body) refl agrees)
      (further slots layout l j body rest weak p placed))

  -- ---- counters that are freed or forgotten

  frees_told : (xs : List ℕ) (next : nodes.Change) → map (told_change number) (map ClearsCounter xs ++ next ∷ [])
      ≡ map change.ClearCounter xs ++ told_change number next ∷ []
  frees_told [] next = refl
  frees_told (x ∷ xs) next = ap (λ ys. change.ClearCounter x ∷ ys) (frees_told xs next)

  forgets_told : (xs : List ℕ) (next : nodes.Change) → map (told_change number) (map ClearsBoth xs ++ next ∷ [])
      ≡ map change.ClearBoth xs ++ told_change number next ∷ []
  forgets_told [] next = refl
  forgets_told (x ∷ xs) next = ap (λ ys. change.ClearBoth x ∷ ys) (forgets_told xs next)

  pub forgotten_told : (body : Block) (p : ℕ) (next : nodes.Change) (goes : Change) → Placed slots layout p (spots_in body) →
      told_change number next ≡ goes → map (told_change number) (map ClearsBoth (once (nodes.counters_in slots body)) ++ next ∷ [])
      ≡ forgotten layout p (place_count body) ++ goes ∷ []
  forgotten_told body p next goes placed is =
      forgets_told (once (nodes.counters_in slots body)) next
      ∙ joined_is (map change.ClearBoth (once (nodes.counters_in slots body))) (forgotten layout p (place_count body))
      (told_change number next ∷ []) (goes ∷ [])
      (ap (λ xs. map change.ClearBoth (once xs)) (counters_told slots layout body p placed))
      (single_is (told_change number next) goes is)

  freed_told : (l : Label) (bodies : Bodies) (p : ℕ) (next : nodes.Change) (goes : Change) → Placed slots layout p (spots_in_each l 0 bodies) →
      told_change number next ≡ goes → map (told_change number) (map ClearsCounter (once (nodes.counters_in_each slots l 0 bodies)) ++ next ∷ [])
      ≡ freed layout p (places_in_branches bodies) ++ goes ∷ []
  freed_told l bodies p next goes placed is =
      frees_told (once (nodes.counters_in_each slots l 0 bodies)) next
      ∙ joined_is (map change.ClearCounter (once (nodes.counters_in_each slots l 0 bodies))) (freed layout p (places_in_branches bodies))
      (told_change number next ∷ [])
      (goes ∷ [])
      (ap (λ xs. map change.ClearCounter (once xs)) (counters_each_told slots layout l bodies p placed))
      (single_is (told_change number next) goes is)

  -- ---- nodes that wait by their flags

  pub flagged_told : (unit : ℕ) (n : Node) (k : ℕ) (on_true : List nodes.Change) (goes : List Change) (task : Task) →
      number n ≡ layout.number k →
      task_at number unit n ≡ task → map (told_change number) on_true ≡ goes → told_rule number unit (nodes.flagged n on_true) ≡ flagged_rule layout k task goes
  flagged_told unit n k on_true goes task is tasks sos =
      rule_is (number n) (layout.number k) condition.Flagged condition.Flagged (task_at number unit n) task
      (map (told_change number) on_true) goes [] [] is refl tasks
      sos refl

  -- ---- `cobegin`

  pub fork_inner : (instant : Bool) (l : Label) (at : Place) (xs : List Node) (k : ℕ) →
      Numbered k (ForkAt l at ∷ (where_so instant (SurfaceJoinAt l at) ++ DepthJoinAt l at ∷ xs)) → Numbered (k + fork_nodes instant) xs
  fork_inner true l at xs k agrees =
      let one : suc k ≡ k + 1 = omega arith in
      let two : suc (k + 1) ≡ k + 2 = omega arith in
      let three : suc (k + 2) ≡ k + 3 = omega arith in
      after number layout.number (DepthJoinAt l at) xs (k + 2) (k + 3) three
      (after number layout.number (SurfaceJoinAt l at) (DepthJoinAt l at ∷ xs) (k + 1) (k + 2) two
      (after number layout.number (ForkAt l at) (SurfaceJoinAt l at ∷ DepthJoinAt l at ∷ xs) k (k + 1) one agrees))
  fork_inner false l at xs k agrees =
      let one : suc k ≡ k + 1 = omega arith in
      let two : suc (k + 1) ≡ k + 2 = omega arith in
      after number layout.number (DepthJoinAt l at) xs (k + 1) (k + 2) two
      (after number layout.number (ForkAt l at) (DepthJoinAt l at ∷ xs) k (k + 1) one agrees)

  joins_told : (l : Label) (bodies : Bodies) (n : Node) (k p : ℕ) (old : nodes.Age) (age : Age) (next : nodes.Change) (goes : Change) →
      number n ≡ layout.number k → task_at number 0 n ≡ Nothing silent.Join → Placed slots layout p (spots_in_each l 0 bodies) →
      told_age number old ≡ age →
      told_change number next ≡ goes → told_rule number 0 (nodes.joins slots l bodies old n next) ≡ joining_rule layout k p bodies age goes
  joins_told l bodies n k p old age next goes is tasks placed aged nexts =
      let ends : told_needed (nodes.needed slots l bodies) ≡ needed layout p bodies = needed_told slots layout l bodies p placed in
      rule_is (number n) (layout.number k) (condition.Ended (told_age number old) (told_needed (nodes.needed slots l bodies)))
      (condition.Ended age (needed layout p bodies)) (task_at number 0 n) (Nothing silent.Join)
      (map (told_change number) (map ClearsCounter (once (nodes.counters_in_each slots l 0 bodies)) ++ next ∷ []))
      (freed layout p (places_in_branches bodies) ++ goes ∷ []) [] [] is
      (ap (λ a. condition.Ended a (told_needed (nodes.needed slots l bodies))) aged ∙ ap (condition.Ended age) ends) tasks
      (freed_told l bodies p next goes placed nexts) refl

  -- the rules of the nodes of a `cobegin`, where the rules of its branches tell those
  pub fork_told : (instant : Bool) (l : Label) (at : Place) (bodies : Bodies) (k p : ℕ) (next : nodes.Change) (goes : Change) (cs : List ℕ)
      (rs : List nodes.Transition) (os : List NumberedTransition) → WrittenEach bodies →
      Numbered k (ForkAt l at ∷ (where_so instant (SurfaceJoinAt l at) ++ DepthJoinAt l at ∷ nodes_in_each bodies)) →
      Placed slots layout p (spots_in_each l 0 bodies) → told_change number next ≡ goes → Tells number cs rs os →
      Tells number (0 ∷ (zero_where instant ++ 0 ∷ cs))
      (nodes.flagged (ForkAt l at) (nodes.marked instant (ForkAt l at) (nodes.enter_each slots l 0 bodies))
      ∷ (rule_where instant (nodes.joins slots l bodies (IsNew (ForkAt l at)) (SurfaceJoinAt l at) next)
      ++ nodes.joins slots l bodies (age_of instant (ForkAt l at)) (DepthJoinAt l at) next
      ∷ rs))
      (flagged_rule layout k (Nothing silent.Fork) (mark_change instant (layout.number k) (enter_each layout (k + fork_nodes instant) p bodies))
      ∷ (joins_of layout instant k p bodies goes ++ os))
  fork_told true l at bodies k p next goes cs rs os w agrees placed is tells =
      let one : suc k ≡ k + 1 = omega arith in
      let two : suc (k + 1) ≡ k + 2 = omega arith in
      let second = after number layout.number (ForkAt l at) (SurfaceJoinAt l at ∷ DepthJoinAt l at ∷ nodes_in_each bodies) k (k + 1) one agrees in
      let third = after number layout.number (SurfaceJoinAt l at) (DepthJoinAt l at ∷ nodes_in_each bodies) (k + 1) (k + 2) two second in
      let entered = enter_each_told l 0 bodies (k + 3) p w (fork_inner true l at (nodes_in_each bodies) k agrees) placed in (
        flagged_told 0 (ForkAt l at) k (nodes.marked true (ForkAt l at) (nodes.enter_each slots l 0 bodies))
            (mark_change true (layout.number k) (enter_each layout (k + 3) p bodies)) (Nothing silent.Fork) agrees.0 refl
            (cons_is (change.SetMark (number (ForkAt l at))) (change.SetMark (layout.number k))
            (map (told_change number) (nodes.enter_each slots l 0 bodies))
            (enter_each layout (k + 3) p bodies) (ap change.SetMark agrees.0) entered),
        (
          joins_told l bodies (SurfaceJoinAt l at) (k + 1) p (IsNew (ForkAt l at)) (age.New (layout.number k)) next goes second.0 refl placed
              (ap age.New agrees.0) is,
          (
            joins_told l bodies (DepthJoinAt l at) (k + 2) p (IsOld (ForkAt l at)) (age.Old (layout.number k)) next goes third.0 refl placed
                (ap age.Old agrees.0) is,
            tells,
          ),
        ),
      )
  fork_told false l at bodies k p next goes cs rs os w agrees placed is tells =
      let one : suc k ≡ k + 1 = omega arith in
      let second = after number layout.number (ForkAt l at) (DepthJoinAt l at ∷ nodes_in_each bodies) k (k + 1) one agrees in
      let entered = enter_each_told l 0 bodies (k + 2) p w (fork_inner false l at (nodes_in_each bodies) k agrees) placed in (
        flagged_told 0 (ForkAt l at) k (nodes.enter_each slots l 0 bodies) (enter_each layout (k + 2) p bodies) (Nothing silent.Fork) agrees.0 refl entered,
        (joins_told l bodies (DepthJoinAt l at) (k + 1) p IsAny age.Any next goes second.0 refl placed refl is, tells),
      )

  -- ---- `when`

  -- its nodes before its body
  abbrev pub guard_list : Bool → Label → Place → Expr → List Node → List Node
  guard_list instant l at e xs = StartAt l at ∷ (where_so instant (SurfaceEndAt l at) ++ CheckAt l at e ∷ DepthEndAt l at ∷ xs)

  pub guard_inner : (instant : Bool) (l : Label) (at : Place) (e : Expr) (xs : List Node) (k : ℕ) → Numbered k (guard_list instant l at e xs) →
      Numbered (k + guard_nodes instant) xs
  guard_inner true l at e xs k agrees =
      let one : suc k ≡ k + 1 = omega arith in
      let two : suc (k + 1) ≡ k + 2 = omega arith in
      let three : suc (k + 2) ≡ k + 3 = omega arith in
      let four : suc (k + 3) ≡ k + 4 = omega arith in
      after number layout.number (DepthEndAt l at) xs (k + 3) (k + 4) four
      (after number layout.number (CheckAt l at e) (DepthEndAt l at ∷ xs) (k + 2) (k + 3) three
      (after number layout.number (SurfaceEndAt l at) (CheckAt l at e ∷ DepthEndAt l at ∷ xs) (k + 1) (k + 2) two
      (after number layout.number (StartAt l at) (SurfaceEndAt l at ∷ CheckAt l at e ∷ DepthEndAt l at ∷ xs) k (k + 1) one agrees)))
  guard_inner false l at e xs k agrees =
      let one : suc k ≡ k + 1 = omega arith in
      let two : suc (k + 1) ≡ k + 2 = omega arith in
      let three : suc (k + 2) ≡ k + 3 = omega arith in
      after number layout.number (DepthEndAt l at) xs (k + 2) (k + 3) three
      (after number layout.number (CheckAt l at e) (DepthEndAt l at ∷ xs) (k + 1) (k + 2) two
      (after number layout.number (StartAt l at) (CheckAt l at e ∷ DepthEndAt l at ∷ xs) k (k + 1) one agrees))

  -- where its body ends
  pub ends_told : (instant : Bool) (l : Label) (at : Place) (e : Expr) (xs : List Node) (k : ℕ) → Numbered k (guard_list instant l at e xs) →
      told_change number (if instant then EndsWhen (StartAt l at) (SurfaceEndAt l at) (DepthEndAt l at) else SetsFlag (DepthEndAt l at))
      ≡ when_body_end layout k instant
  ends_told true l at e xs k agrees =
      let one : suc k ≡ k + 1 = omega arith in
      let two : suc (k + 1) ≡ k + 2 = omega arith in
      let three : suc (k + 2) ≡ k + 3 = omega arith in
      let second = after number layout.number (StartAt l at) (SurfaceEndAt l at ∷ CheckAt l at e ∷ DepthEndAt l at ∷ xs) k (k + 1) one agrees in
      let third = after number layout.number (SurfaceEndAt l at) (CheckAt l at e ∷ DepthEndAt l at ∷ xs) (k + 1) (k + 2) two second in
      let fourth = after number layout.number (CheckAt l at e) (DepthEndAt l at ∷ xs) (k + 2) (k + 3) three third in
      ap (λ a. change.EndWhen a (number (SurfaceEndAt l at)) (number (DepthEndAt l at))) agrees.0
      ∙ ap (λ a. change.EndWhen (layout.number k) a (number (DepthEndAt l at))) second.0
      ∙ ap (λ a. change.EndWhen (layout.number k) (layout.number (k + 1)) a) fourth.0
  ends_told false l at e xs k agrees =
      let one : suc k ≡ k + 1 = omega arith in
      let two : suc (k + 1) ≡ k + 2 = omega arith in
      let second = after number layout.number (StartAt l at) (CheckAt l at e ∷ DepthEndAt l at ∷ xs) k (k + 1) one agrees in
      let third = after number layout.number (CheckAt l at e) (DepthEndAt l at ∷ xs) (k + 1) (k + 2) two second in
      ap change.SetFlag third.0

  -- where its condition was true
  pub fires_told : (guard : Guard) (l : Label) (at : Place) (body : Block) (k : ℕ) (next : nodes.Change) (goes ends : Change) → WrittenIn body →
      Numbered k (nodes_in body) → told_change number (nodes.body_ends l at body) ≡ ends → told_change number next ≡ goes →
      told_change number (nodes.fires guard l at body next) ≡ fires layout k guard body ends goes
  fires_told Abort l at body k next goes ends w agrees ended is = is
  fires_told Reset l at body k next goes ends w agrees ended is = enter_told body k (nodes.body_ends l at body) ends w agrees ended

  -- the rule of its check
  check_told : (l : Label) (at : Place) (e : Expr) (body : Block) (k p : ℕ) (fired : nodes.Change) (goes : Change) →
      number (CheckAt l at e) ≡ layout.number k → Placed slots layout p (spots_in body) → told_change number fired ≡ goes →
      told_rule number 0 (record {
        node = CheckAt l at e;
        condition = RestedIn (nodes.rests_in slots body);
        on_true = map ClearsBoth (once (nodes.counters_in slots body)) ++ fired ∷ [];
        on_false = [];
      })
      ≡ record {
        number = layout.number k;
        condition = condition.RestedIn (rests_in layout p body);
        task = Tests e;
        on_true = forgotten layout p (place_count body) ++ goes ∷ [];
        on_false = [];
      }
  check_told l at e body k p fired goes is placed fires_so =
      rule_is (number (CheckAt l at e)) (layout.number k) (condition.RestedIn (nodes.rests_in slots body)) (condition.RestedIn (rests_in layout p body))
      (Tests e)
      (Tests e) (map (told_change number) (map ClearsBoth (once (nodes.counters_in slots body)) ++ fired ∷ []))
      (forgotten layout p (place_count body) ++ goes ∷ []) [] [] is (ap condition.RestedIn (rests_told slots layout body p placed)) refl
      (forgotten_told body p fired goes placed fires_so) refl

  -- the rules of its nodes, where the rules of its body tell those
  pub guard_told : (instant : Bool) (l : Label) (at : Place) (guard : Guard) (e : Expr) (body : Block) (k p : ℕ) (begun fired next : nodes.Change)
      (goes : Change) (cs : List ℕ) (rs : List nodes.Transition) (os : List NumberedTransition) → Numbered k (guard_list instant l at e (nodes_in body)) →
      Placed slots layout p (spots_in body) →
      told_change number begun ≡ enter_block layout (k + guard_nodes instant) body (when_body_end layout k instant) →
      told_change number fired ≡ fires layout (k + guard_nodes instant) guard body (when_body_end layout k instant) goes →
      told_change number next ≡ goes → Tells number cs rs os →
      Tells number (0 ∷ (zero_where instant ++ 0 ∷ 0 ∷ cs))
      (nodes.flagged (StartAt l at) (nodes.marked instant (StartAt l at) (begun ∷ []))
      ∷ (rule_where instant (nodes.flagged (SurfaceEndAt l at) (next ∷ []))
      ++ record {
        node = CheckAt l at e;
        condition = RestedIn (nodes.rests_in slots body);
        on_true = map ClearsBoth (once (nodes.counters_in slots body)) ++ fired ∷ [];
        on_false = [];
      }
      ∷ nodes.flagged (DepthEndAt l at) (next ∷ [])
      ∷ rs))
      (when_rules layout instant k p guard (Tests e) body goes ++ os)
  guard_told true l at guard e body k p begun fired next goes cs rs os agrees placed begins fires_so is tells =
      let one : suc k ≡ k + 1 = omega arith in
      let two : suc (k + 1) ≡ k + 2 = omega arith in
      let three : suc (k + 2) ≡ k + 3 = omega arith in
      let inner : List Node = nodes_in body in
      let second = after number layout.number (StartAt l at) (SurfaceEndAt l at ∷ CheckAt l at e ∷ DepthEndAt l at ∷ inner) k
      (k + 1) one agrees in
      let third = after number layout.number (SurfaceEndAt l at) (CheckAt l at e ∷ DepthEndAt l at ∷ inner) (k + 1) (k + 2) two second in
      let fourth = after number layout.number (CheckAt l at e) (DepthEndAt l at ∷ inner) (k + 2) (k + 3) three third in (
        flagged_told 0 (StartAt l at) k (nodes.marked true (StartAt l at) (begun ∷ []))
            (change.SetMark (layout.number k) ∷ enter_block layout (k + 4) body (when_body_end layout k true) ∷ []) (Nothing silent.Start) agrees.0 refl
            (pair_is (change.SetMark (number (StartAt l at))) (change.SetMark (layout.number k)) (told_change number begun)
            (enter_block layout (k + 4) body (when_body_end layout k true)) (ap change.SetMark agrees.0) begins),
        (
          flagged_told 0 (SurfaceEndAt l at) (k + 1) (next ∷ []) (goes ∷ []) (Nothing silent.End) second.0 refl (single_is (told_change number next) goes is),
          (
            check_told l at e body (k + 2) p fired (fires layout (k + 4) guard body (when_body_end layout k true) goes) third.0 placed fires_so,
            (
              flagged_told 0 (DepthEndAt l at) (k + 3) (next ∷ []) (goes ∷ []) (Nothing silent.End) fourth.0 refl
                  (single_is (told_change number next) goes is),
              tells,
            ),
          ),
        ),
      )
  guard_told false l at guard e body k p begun fired next goes cs rs os agrees placed begins fires_so is tells =
      let one : suc k ≡ k + 1 = omega arith in
      let two : suc (k + 1) ≡ k + 2 = omega arith in
      let inner : List Node = nodes_in body in
      let second = after number layout.number (StartAt l at) (CheckAt l at e ∷ DepthEndAt l at ∷ inner) k (k + 1) one agrees in
      let third = after number layout.number (CheckAt l at e) (DepthEndAt l at ∷ inner) (k + 1) (k + 2) two second in (
        flagged_told 0 (StartAt l at) k (begun ∷ []) (enter_block layout (k + 3) body (when_body_end layout k false) ∷ []) (Nothing silent.Start) agrees.0 refl
            (single_is (told_change number begun) (enter_block layout (k + 3) body (when_body_end layout k false)) begins),
        (
          check_told l at e body (k + 1) p fired (fires layout (k + 3) guard body (when_body_end layout k false) goes) second.0 placed fires_so,
          (
            flagged_told 0 (DepthEndAt l at) (k + 2) (next ∷ []) (goes ∷ []) (Nothing silent.End) third.0 refl
                (single_is (told_change number next) goes is),
            tells,
          ),
        ),
      )
