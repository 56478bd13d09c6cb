-- The rules of a part by numbers are those of its nodes.
use Rattle.std.proofs.Common.{◌≡◌, ℕ, suc, ◌+◌, Bool, true, false, List, [], ◌∷◌, ◌++◌, map, refl, ap, sym, ◌∙◌, arith}
use Rattle.bl_tree.specs.declared.place.Place.{Place}
use Rattle.bl_tree.specs.declared.tree.Expr.{Expr}
use Rattle.bl_tree.specs.declared.tree.Guard.{Guard}
use Rattle.bl_tree.specs.declared.tree.Stmt.{Stmt}
use Rattle.bl_graph_nodes.specs.Nodes.{EnterAt, HeadAt, Node, PauseAt, ResumeAt, TestAt, are_instant, arguments_of, entry, is_instant, nodes_in, nodes_in_each}
use Rattle.bl_graph_nodes.specs.Nodes.{nodes_of}
use Rattle.bl_graph_nodes.specs.Plain.{Act, Again, Await, Block, Bodies, Body as BodyOf, Cobegin, Done, If, Label, Last, Plain, Repeat, Run as RunOf, Then}
use Rattle.bl_graph_nodes.specs.Plain.{Until, When, While, plain_body}
use Rattle.bl_machine.specs.declared.slots.Slot.{Slot}
use Rattle.bl_machine.specs.Uses.{Slots}
use Rattle.bl_machine_pass.specs.SlotLayout.{slot_at, spots_in, spots_in_each, spots_of}
use Rattle.bl_machine_pass.specs.Numbered.{slots_of}
use Rattle.bl_machine_pass.specs.Transitions as nodes
use Rattle.bl_machine_pass.specs.Transitions.{Finishes, SetsCounter, SetsFlag}
use Rattle.bl_machine_pass_laws.specs.Keys.{NodesHaveKeys}
use Rattle.bl_machine_pass_laws.specs.Spots.{SpotsDiffer}
use Rattle.bl_machine_transitions.specs.declared.transition.Condition.TheVariants as condition
use Rattle.bl_machine_transitions.specs.declared.transition.Change.{Change}
use Rattle.bl_machine_transitions.specs.declared.transition.Change.TheVariants as change
use Rattle.bl_machine_transitions.specs.Callees.{callees_in, callees_in_each, callees_of, node_number}
use Rattle.bl_machine_transitions.specs.Listed.{Layout, enter_block, fork_nodes, guard_nodes, layout_of, listed, node_count, nodes_within, when_body_end}
use Rattle.bl_machine_transitions.specs.Listed.{when_rules}
use Rattle.bl_machine_transitions.specs.Listed.{place_count, places_within, rules_in, rules_in_each, rules_of, tested_rule}
use Rattle.bl_machine_transitions.specs.declared.transition.Silent.TheVariants as silent
use Rattle.bl_machine_transitions.specs.Told.{Acts, Enters, Nothing, NumberedTransition, Resumes, Task, Tests, task_at, told_change, told_rule}
use Rattle.bl_machine_transitions_laws.specs.Laws.{RulesAreListed, entries, first_number}
use Rattle.bl_machine_transitions_laws.proofs.Agreeing.{Tells, after, in_first, in_second_at, rule_is, tells_all, tells_append, tells_each}
use Rattle.bl_machine_transitions_laws.proofs.Parts.{Numbered, ends_told, enter_told, entry_told, fires_told, flagged_told, fork_inner, fork_told}
use Rattle.bl_machine_transitions_laws.proofs.Parts.{guard_inner, guard_told}
use Rattle.bl_machine_transitions_laws.proofs.Places.{Placed, further, single_is}
use Rattle.bl_machine_transitions_laws.proofs.Standing.{nodes_stand, places_stand}
use Rattle.bl_machine_transitions_laws.proofs.Written.{WrittenEach, WrittenIn, WrittenOf, body_written}

module _ (number : Node → ℕ) (slots : Slots) (layout : Layout) where
  -- a change, by numbers
  abbrev change_told : nodes.Change → Change
  change_told next = told_change number next

  -- a node with a test that waits by its flag
  tested_told : (l : Label) (at : Place) (e : Expr) (k : ℕ) (on_true on_false : nodes.Change) (goes other : Change) →
      number (TestAt l at e) ≡ layout.number k → change_told on_true ≡ goes → change_told on_false ≡ other →
      told_rule number 0 (record { node = TestAt l at e; condition = nodes.Flagged; on_true = on_true ∷ []; on_false = on_false ∷ [] })
      ≡ tested_rule layout k (Tests e) (goes ∷ []) (other ∷ [])
  tested_told l at e k on_true on_false goes other is one two =
      rule_is (number (TestAt l at e)) (layout.number k) condition.Flagged condition.Flagged (Tests e) (Tests e) (change_told on_true ∷ []) (goes ∷ [])
      (change_told on_false ∷ []) (other ∷ []) is refl refl (single_is (change_told on_true) goes one) (single_is (change_told on_false) other two)

  -- a node that asks whether the instance rested at the number
  woken_told : (unit : ℕ) (n : Node) (k : ℕ) (slot rest : Slot) (task : Task) (next : nodes.Change) (goes : Change) → number n
      ≡ layout.number k →
      task_at number unit n ≡ task → slot ≡ rest → change_told next ≡ goes →
      told_rule number unit (record { node = n; condition = nodes.Rested slot; on_true = next ∷ []; on_false = [] })
      ≡ record {
        number = layout.number k;
        condition = condition.Rested rest;
        task = task;
        on_true = goes ∷ [];
        on_false = [];
      }
  woken_told unit n k slot rest task next goes is tasks same nexts =
      rule_is (number n) (layout.number k) (condition.Rested slot) (condition.Rested rest) (task_at number unit n) task
      (change_told next ∷ []) (goes ∷ []) [] [] is (ap condition.Rested same) tasks (single_is (change_told next) goes nexts) refl

  -- the nodes of a loop with its test at the end
  turns_told : (l : Label) (at : Place) (e : Expr) (body : Block) (k p : ℕ) (next : nodes.Change) (goes : Change) (cs : List ℕ)
      (rs : List nodes.Transition) (os : List NumberedTransition) → WrittenIn body →
      Numbered number slots layout k (HeadAt l at ∷ TestAt l at e ∷ nodes_in body) → change_told next ≡ goes → Tells number cs rs os →
      Tells number (0 ∷ 0 ∷ cs)
      (nodes.flagged (HeadAt l at) (nodes.enter body (SetsFlag (TestAt l at e)) ∷ [])
      ∷ record { node = TestAt l at e; condition = nodes.Flagged; on_true = next ∷ []; on_false = SetsFlag (HeadAt l at) ∷ [] }
      ∷ rs)
      (record {
        number = layout.number k;
        condition = condition.Flagged;
        task = Nothing silent.Head;
        on_true = enter_block layout (k + 2) body (change.SetFlag (layout.number (k + 1))) ∷ [];
        on_false = [];
      }
      ∷ tested_rule layout (k + 1) (Tests e) (goes ∷ []) (change.SetFlag (layout.number k) ∷ [])
      ∷ os)
  turns_told l at e body k p next goes cs rs os w agrees is tells =
      let one : suc k ≡ k + 1 = omega arith in
      let two : suc (k + 1) ≡ k + 2 = omega arith in
      let second = after number layout.number (HeadAt l at) (TestAt l at e ∷ nodes_in body) k (k + 1) one agrees in
      let inner = after number layout.number (TestAt l at e) (nodes_in body) (k + 1) (k + 2) two second in (
        flagged_told number slots layout 0 (HeadAt l at) k (nodes.enter body (SetsFlag (TestAt l at e)) ∷ [])
            (enter_block layout (k + 2) body (change.SetFlag (layout.number (k + 1))) ∷ []) (Nothing silent.Head) agrees.0 refl
            (single_is (change_told (nodes.enter body (SetsFlag (TestAt l at e)))) (enter_block layout (k + 2) body (change.SetFlag (layout.number (k + 1))))
            (enter_told number slots layout body (k + 2) (SetsFlag (TestAt l at e)) (change.SetFlag (layout.number (k + 1))) w inner
            (ap change.SetFlag second.0))),
        (tested_told l at e (k + 1) next (SetsFlag (HeadAt l at)) goes (change.SetFlag (layout.number k)) second.0 is (ap change.SetFlag agrees.0), tells),
      )

  -- the nodes of the body of such a loop
  turns_inner : (l : Label) (at : Place) (e : Expr) (xs : List Node) (k : ℕ) →
      Numbered number slots layout k (HeadAt l at ∷ TestAt l at e ∷ xs) → Numbered number slots layout (k + 2) xs
  turns_inner l at e xs k agrees =
      let one : suc k ≡ k + 1 = omega arith in
      let two : suc (k + 1) ≡ k + 2 = omega arith in
      after number layout.number (TestAt l at e) xs (k + 1) (k + 2) two
      (after number layout.number (HeadAt l at) (TestAt l at e ∷ xs) k (k + 1) one agrees)

  turns_test : (l : Label) (at : Place) (e : Expr) (xs : List Node) (k : ℕ) →
      Numbered number slots layout k (HeadAt l at ∷ TestAt l at e ∷ xs) → number (TestAt l at e) ≡ layout.number (k + 1)
  turns_test l at e xs k agrees =
      let one : suc k ≡ k + 1 = omega arith in
      let second = after number layout.number (HeadAt l at) (TestAt l at e ∷ xs) k (k + 1) one agrees in second.0

  mutual
    of_statement : (s : Plain) (k p : ℕ) (next : nodes.Change) (goes : Change) → WrittenOf s → Numbered number slots layout k (nodes_of s) →
        Placed slots layout p (spots_of s) → change_told next ≡ goes →
        Tells number (callees_of s) (nodes.rules_of slots s next) (rules_of layout k p s goes)
    of_statement (Act l s) k p next goes w agrees placed is =
        (flagged_told number slots layout 0 _ k (next ∷ []) (goes ∷ []) (Acts s) agrees.0 refl (single_is (change_told next) goes is), tt)
    of_statement (Await l at e) k p next goes w agrees placed is =
        let one : suc k ≡ k + 1 = omega arith in
        let second = after number layout.number (PauseAt l at) (TestAt l at e ∷ []) k (k + 1) one agrees in (
          flagged_told number slots layout 0 (PauseAt l at) k (SetsCounter (slots.rest l) ∷ []) (change.SetCounter (layout.slot p) ∷ [])
              (Nothing silent.Pause) agrees.0 refl
              (single_is (change.SetCounter (slots.rest l)) (change.SetCounter (layout.slot p)) (ap change.SetCounter placed.0)),
          (woken_told 0 (TestAt l at e) (k + 1) (slots.rest l) (layout.slot p) (Tests e) next goes second.0 refl placed.0 is, tt),
        )
    of_statement (RunOf l at target a inputs outputs) k p next goes w agrees placed is =
        let one : suc k ≡ k + 1 = omega arith in
        let first : Node = EnterAt l at (arguments_of target inputs outputs) in
        let last : Node = ResumeAt l at (arguments_of target inputs outputs) in
        let second = after number layout.number first (last ∷ []) k (k + 1) one agrees in (
          flagged_told number slots layout a first k (SetsCounter (slots.rest l) ∷ []) (change.SetCounter (layout.slot p) ∷ [])
              (Enters at a (arguments_of target inputs outputs)) agrees.0 refl
              (single_is (change.SetCounter (slots.rest l)) (change.SetCounter (layout.slot p)) (ap change.SetCounter placed.0)),
          (
            woken_told a last (k + 1) (slots.rest l) (layout.slot p) (Resumes at a (arguments_of target inputs outputs)) next goes
                second.0 refl placed.0 is,
            tt,
          ),
        )
    of_statement (If l at e body other) k p next goes w agrees placed is =
        let one : suc k ≡ k + 1 = omega arith in
        let inner = after number layout.number (TestAt l at e) (nodes_in body ++ nodes_in other) k (k + 1) one agrees in
        let left = in_first number layout.number (nodes_in body) (nodes_in other) (k + 1) inner in
        let right = in_second_at number layout.number (nodes_in body) (nodes_in other) (k + 1) (k + 1 + node_count body) refl inner in
        let left_placed = in_first (slot_at slots) layout.slot (spots_in body) (spots_in other) p placed in
        let right_placed = in_second_at (slot_at slots) layout.slot (spots_in body) (spots_in other) p (p + place_count body) refl placed in (
          tested_told l at e k (nodes.enter body next) (nodes.enter other next) (enter_block layout (k + 1) body goes)
              (enter_block layout (k + 1 + node_count body) other goes) agrees.0
              (enter_told number slots layout body (k + 1) next goes w.0 left is)
              (enter_told number slots layout other (k + 1 + node_count body) next goes w.1 right is),
          tells_append number (callees_in body) (callees_in other) (nodes.rules_in slots body next) (nodes.rules_in slots other next)
              (rules_in layout (k + 1) p body goes) (rules_in layout (k + 1 + node_count body) (p + place_count body) other goes)
              (of_block body (k + 1) p next goes w.0 left left_placed is)
              (of_block other (k + 1 + node_count body) (p + place_count body) next goes w.1 right right_placed is),
        )
    of_statement (Cobegin l at bodies) k p next goes w agrees placed is =
        fork_told number slots layout (is_instant (Cobegin l at bodies)) l at bodies k p next goes (callees_in_each bodies)
        (nodes.rules_in_each slots l 0 bodies)
        (rules_in_each layout (k + fork_nodes (is_instant (Cobegin l at bodies))) p bodies) w agrees placed is
        (of_branches l 0 bodies (k + fork_nodes (is_instant (Cobegin l at bodies))) p w
        (fork_inner number slots layout (is_instant (Cobegin l at bodies)) l at (nodes_in_each bodies) k agrees) placed)
    of_statement (When l at guard e body) k p next goes w agrees placed is =
        let inner = guard_inner number slots layout (are_instant body) l at e (nodes_in body) k agrees in
        let ended = ends_told number slots layout (are_instant body) l at e (nodes_in body) k agrees in
        guard_told number slots layout (are_instant body) l at guard e body k p (nodes.enter body (nodes.body_ends l at body))
        (nodes.fires guard l at body next) next goes (callees_in body) (nodes.rules_in slots body (nodes.body_ends l at body))
        (rules_in layout (k + guard_nodes (are_instant body)) p body (when_body_end layout k (are_instant body))) agrees placed
        (enter_told number slots layout body (k + guard_nodes (are_instant body)) (nodes.body_ends l at body)
        (when_body_end layout k (are_instant body)) w
        inner ended)
        (fires_told number slots layout guard l at body (k + guard_nodes (are_instant body)) next goes (when_body_end layout k (are_instant body)) w inner
        ended is)
        is
        (of_block body (k + guard_nodes (are_instant body)) p (nodes.body_ends l at body)
        (when_body_end layout k (are_instant body)) w inner placed ended)
    of_statement (Repeat l at body) k p next goes w agrees placed is =
        let one : suc k ≡ k + 1 = omega arith in
        let inner = after number layout.number (HeadAt l at) (nodes_in body) k (k + 1) one agrees in (
          flagged_told number slots layout 0 (HeadAt l at) k (nodes.enter body (SetsFlag (HeadAt l at)) ∷ [])
              (enter_block layout (k + 1) body (change.SetFlag (layout.number k)) ∷ []) (Nothing silent.Head) agrees.0 refl
              (single_is (change_told (nodes.enter body (SetsFlag (HeadAt l at)))) (enter_block layout (k + 1) body (change.SetFlag (layout.number k)))
              (enter_told number slots layout body (k + 1) (SetsFlag (HeadAt l at)) (change.SetFlag (layout.number k)) w inner (ap change.SetFlag agrees.0))),
          of_block body (k + 1) p (SetsFlag (HeadAt l at)) (change.SetFlag (layout.number k)) w inner placed (ap change.SetFlag agrees.0),
        )
    of_statement (Until l at body e) k p next goes w agrees placed is =
        turns_told l at e body k p next goes (callees_in body) (nodes.rules_in slots body (SetsFlag (TestAt l at e)))
        (rules_in layout (k + 2) p body (change.SetFlag (layout.number (k + 1)))) w agrees is
        (of_block body (k + 2) p (SetsFlag (TestAt l at e)) (change.SetFlag (layout.number (k + 1))) w (turns_inner l at e (nodes_in body) k agrees) placed
        (ap change.SetFlag (turns_test l at e (nodes_in body) k agrees)))
    of_statement (While l at e body) k p next goes w agrees placed is =
        let one : suc k ≡ k + 1 = omega arith in
        let inner = after number layout.number (TestAt l at e) (nodes_in body) k (k + 1) one agrees in (
          tested_told l at e k (nodes.enter body (SetsFlag (TestAt l at e))) next
              (enter_block layout (k + 1) body (change.SetFlag (layout.number k))) goes agrees.0
              (enter_told number slots layout body (k + 1) (SetsFlag (TestAt l at e)) (change.SetFlag (layout.number k)) w inner
              (ap change.SetFlag agrees.0)) is,
          of_block body (k + 1) p (SetsFlag (TestAt l at e)) (change.SetFlag (layout.number k)) w inner placed (ap change.SetFlag agrees.0),
        )
    of_statement (Again l at body e) k p next goes w agrees placed is = absurd w

    of_block : (body : Block) (k p : ℕ) (next : nodes.Change) (goes : Change) → WrittenIn body →
        Numbered number slots layout k (nodes_in body) →
        Placed slots layout p (spots_in body) → change_told next ≡ goes →
        Tells number (callees_in body) (nodes.rules_in slots body next) (rules_in layout k p body goes)
    of_block Done k p next goes w agrees placed is = tt
    of_block (Then s rest) k p next goes w agrees placed is =
        let right = in_second_at number layout.number (nodes_of s) (nodes_in rest) k (k + nodes_within s) refl agrees in
        let right_placed = in_second_at (slot_at slots) layout.slot (spots_of s) (spots_in rest) p (p + places_within s) refl placed in
        tells_append number (callees_of s) (callees_in rest) (nodes.rules_of slots s (nodes.enter rest next)) (nodes.rules_in slots rest next)
        (rules_of layout k p s (enter_block layout (k + nodes_within s) rest goes)) (rules_in layout (k + nodes_within s) (p + places_within s) rest goes)
        (of_statement s k p (nodes.enter rest next) (enter_block layout (k + nodes_within s) rest goes) w.0
        (in_first number layout.number (nodes_of s) (nodes_in rest) k agrees)
        (in_first (slot_at slots) layout.slot (spots_of s) (spots_in rest) p placed)
        (enter_told number slots layout rest (k + nodes_within s) next goes w.1 right is))
        (of_block rest (k + nodes_within s) (p + places_within s) next goes w.1 right right_placed is)

    of_branches : (l : Label) (j : ℕ) (bodies : Bodies) (k p : ℕ) → WrittenEach bodies →
        Numbered number slots layout k (nodes_in_each bodies) →
        Placed slots layout p (spots_in_each l j bodies) →
        Tells number (callees_in_each bodies) (nodes.rules_in_each slots l j bodies) (rules_in_each layout k p bodies)
    of_branches l j Last k p w agrees placed = tt
    of_branches l j (BodyOf weak body rest) k p w agrees placed =
        let right = in_second_at number layout.number (nodes_in body) (nodes_in_each rest) k (k + node_count body) refl agrees in
        tells_append number (callees_in body) (callees_in_each rest) (nodes.rules_in slots body (SetsCounter (slots.ending l j)))
        (nodes.rules_in_each slots l (suc j) rest) (rules_in layout k (suc p) body (change.SetCounter (layout.slot p)))
        (rules_in_each layout (k + node_count body) (suc (p + place_count body)) rest)
        (of_block body k (suc p) (SetsCounter (slots.ending l j)) (change.SetCounter (layout.slot p)) w.0
        (in_first number layout.number (nodes_in body) (nodes_in_each rest) k agrees)
        (in_first (slot_at slots) layout.slot (spots_in body) (spots_in_each l (suc j) rest) (suc p) placed.1) (ap change.SetCounter placed.0))
        (of_branches l (suc j) rest (k + node_count body) (suc (p + place_count body)) w.1 right (further slots layout l j body rest weak p placed))

  -- ---- the first rule

  guarded_first : (instant : Bool) (k p : ℕ) (guard : Guard) (task : Task) (body : Block) (goes : Change) (os more : List NumberedTransition) →
      first_number ((when_rules layout instant k p guard task body goes ++ os) ++ more) ≡ layout.number k ∷ []
  guarded_first true k p guard task body goes os more = refl
  guarded_first false k p guard task body goes os more = refl

  first_is : (s : Plain) (k p : ℕ) (goes : Change) (more : List NumberedTransition) → first_number (rules_of layout k p s goes ++ more)
      ≡ layout.number k ∷ []
  first_is (Act l s) k p goes more = refl
  first_is (Await l at e) k p goes more = refl
  first_is (RunOf l at target a inputs outputs) k p goes more = refl
  first_is (If l at e body other) k p goes more = refl
  first_is (Cobegin l at bodies) k p goes more = refl
  first_is (When l at guard e body) k p goes more =
      guarded_first (are_instant body) k p guard (Tests e) body goes
      (rules_in layout (k + guard_nodes (are_instant body)) p body (when_body_end layout k (are_instant body))) more
  first_is (Repeat l at body) k p goes more = refl
  first_is (Until l at body e) k p goes more = refl
  first_is (While l at e body) k p goes more = refl
  first_is (Again l at body e) k p goes more = refl

  begins_at : (body : Block) (k p : ℕ) (goes : Change) → WrittenIn body → Numbered number slots layout k (nodes_in body) →
      map number (entries body) ≡ first_number (rules_in layout k p body goes)
  begins_at Done k p goes w agrees = refl
  begins_at (Then s rest) k p goes w agrees =
      single_is (number (entry s)) (layout.number k)
      (entry_told number slots layout s k w.0 (in_first number layout.number (nodes_of s) (nodes_in rest) k agrees))
      ∙ sym (first_is s k p (enter_block layout (k + nodes_within s) rest goes) (rules_in layout (k + nodes_within s) (p + places_within s) rest goes))

-- the rules of a whole body tell those
body_tells : NodesHaveKeys → SpotsDiffer → (body : List Stmt) (order : List ℕ) (list : List Slot) →
    Tells (node_number order (plain_body body)) (callees_in (plain_body body)) (nodes.rules (slots_of (plain_body body) list) (plain_body body))
    (listed (layout_of order list) (plain_body body))
body_tells keys differ body order list =
    of_block (node_number order (plain_body body)) (slots_of (plain_body body) list) (layout_of order list) (plain_body body) 0 0 Finishes change.Finish
    (body_written body) (nodes_stand keys body order list) (places_stand differ body order list) refl

pub rules_are_listed : NodesHaveKeys → SpotsDiffer → RulesAreListed
rules_are_listed keys differ = record {
  told = λ body order list.
      tells_all (node_number order (plain_body body)) (callees_in (plain_body body)) (nodes.rules (slots_of (plain_body body) list) (plain_body body))
      (listed (layout_of order list) (plain_body body)) (body_tells keys differ body order list);
  each = λ body list.
      tells_each (node_number [] (plain_body body)) (callees_in (plain_body body)) (nodes.rules (slots_of (plain_body body) list) (plain_body body))
      (listed (layout_of [] list) (plain_body body)) (body_tells keys differ body [] list);
  begins = λ body order list.
      begins_at (node_number order (plain_body body)) (slots_of (plain_body body) list) (layout_of order list) (plain_body body) 0 0 change.Finish
      (body_written body) (nodes_stand keys body order list);
}
