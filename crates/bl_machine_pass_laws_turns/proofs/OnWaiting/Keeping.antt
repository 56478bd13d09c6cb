-- After a turn the registers tell what waits.
use Rattle.std.proofs.Common.{◌≡◌, ◌⊎◌, inl, inr, ⊎_elim, ℕ, suc, ◌<◌, ◌≤◌, Bool, true, false, nat_eq, List, map, None, refl, sym, ap, subst, ◌∙◌, arith}
use Rattle.std.proofs.Common.{eqb-true}
use Rattle.std.specs.Prelude.{Contains}
use Rattle.bl_tree.proofs.Basics.{contains_mapped}
use Rattle.bl_tree.specs.declared.tree.Unit.{Unit as UnitDef}
use Rattle.bl_graph_nodes.specs.Laws.{EachOnce}
use Rattle.bl_graph_nodes.specs.Nodes.{Node, nodes_in}
use Rattle.bl_graph_nodes.specs.Plain.{Block, plain_body}
use Rattle.bl_graph.specs.Laws.{StaysWithin}
use Rattle.bl_graph.specs.Edges.{EdgeAll, In}
use Rattle.bl_graph.specs.Walks.{After}
use Rattle.bl_ctree.specs.Instances.{Setting}
use Rattle.bl_ctree_laws.specs.Shrinks.{EndsShrink}
use Rattle.bl_ctree_laws.specs.Trees.{Tree}
use Rattle.bl_ctree_laws_traces.specs.Progress.FitsGraph.{FitsGraph}
use Rattle.bl_ctree_laws_traces.specs.Progress.Places.{whole}
use Rattle.bl_ctree_laws_traces.proofs.OnProgress.Beginning.{walks_stay}
use Rattle.bl_ctree_laws_traces.proofs.OnProgress.Keeping.{part_closed}
use Rattle.bl_machine.specs.declared.slots.Slot.{Slot}
use Rattle.bl_machine.specs.Uses.{Slots, uses_in}
use Rattle.bl_machine_laws.specs.Numbers.Sleeping.{SleepersWait, TurnsOnlyWake}
use Rattle.bl_machine_laws.specs.Numbers.Steps.{TurnsAreWalks, TurnsWait}
use Rattle.bl_machine_laws.specs.Numbers.Turns.{AnsweredDeed, Turns}
use Rattle.bl_machine_laws.specs.Numbers.Waiting.{Sleeps, Waits}
use Rattle.bl_machine_laws.specs.Waiting.Laws.{TurnsLeadOn, WaitsInPart}
use Rattle.bl_machine_laws.proofs.OnPasses.Numbers.{after_rises}
use Rattle.bl_machine_pass.specs.SlotLayout.{SlotsAreDistinct, spots_in}
use Rattle.bl_machine_pass.specs.Registers.{Registers, after_rule, all_changed, is_at, is_due}
use Rattle.bl_machine_pass.specs.Transitions.{Change, Condition, Finishes, Transition, rules}
use Rattle.bl_machine_pass_laws.specs.Turns.Invariant.{Exactly, IsFlagged, IsResume, PassInvariant}
use Rattle.bl_machine_pass_laws.specs.Turns.Laws.{StaysPlaced, Turning, answer_of}
use Rattle.bl_machine_pass_laws.proofs.OnNumbers.Acting.{changes_of}
use Rattle.bl_machine_pass_laws_turns.specs.Waiting.{TurnsKeepFlags, TurnsKeepResumes, TurnsLeaveMore}
use Rattle.bl_machine_pass_laws_turns.proofs.OnWaiting.Acting.{Acted, Comes, Dropped, Stays, at_join, dropped, has_acted, is_set, turn_acted, waited, waits_on}
use Rattle.bl_machine_pass_laws_turns.proofs.OnWaiting.Acting.{was_join}
use Rattle.bl_machine_pass_laws_turns.proofs.OnWaiting.Changes.{FlagFrom, Sets, all_either, all_forget, all_has, all_kept, all_set, all_spared, is_of, was_set}
use Rattle.bl_machine_pass_laws_turns.proofs.OnWaiting.Lists.{each_of, one_of_node}
use Rattle.bl_machine_pass_laws_turns.proofs.OnWaiting.Rules.{AsksFor, Known, RuleAt, at_due, due_at, flag_is_due, known_in, no_end, no_join, not_both}
use Rattle.bl_machine_pass_laws_turns.proofs.OnWaiting.Sleeping.{Other, join_ends, waits_other}
use Rattle.bl_graph.proofs.Meeting.{lt_of}

-- ---- the rules of a body

-- a node of a body has one rule
pub one_rule : (nodes : (slots : Slots) (body : Block) → map (λ rule. rule.node) (rules slots body) ≡ nodes_in body) (slots : Slots) (body : Block) →
    EachOnce (nodes_in body) → (a b : Transition) → Contains (rules slots body) a → Contains (rules slots body) b → a.node ≡ b.node → a ≡ b
one_rule nodes slots body once a b one other same =
    one_of_node (λ rule. rule.node) (rules slots body) (subst EachOnce (sym (nodes slots body)) once) a b one other same

-- and it is a node of the body
pub rule_node : (nodes : (slots : Slots) (body : Block) → map (λ rule. rule.node) (rules slots body) ≡ nodes_in body) (slots : Slots) (body : Block)
    (a : Transition) → Contains (rules slots body) a → Contains (nodes_in body) a.node
rule_node nodes slots body a one =
    subst (λ list. Contains list a.node) (nodes slots body) (contains_mapped (λ rule. rule.node) (rules slots body) a one)

-- what is known of it
pub rule_known : (slots : Slots) (body : Block) (a : Transition) → Contains (rules slots body) a → Known slots (spots_in body) a
rule_known slots body a one = each_of (Known slots (spots_in body)) (rules slots body) a (known_in slots (spots_in body) body Finishes (λ p there. there)) one

-- it asks for no number with value 0
pub asks_counted : (slots : Slots) (body : Block) (a : Transition) → SlotsAreDistinct slots body → Contains (rules slots body) a → (slot : Slot) →
    AsksFor a.condition slot →
    slot.value ≡ 0 → ⊥
asks_counted slots body a laid one slot asks none =
    let spot = (rule_known slots body a one).1 slot asks in laid.counted spot.0 spot.1 (ap (λ other. other.value) spot.2 ∙ none)

-- ---- what waits has a greater number

module _ (part : WaitsInPart) (within : (body : Block) → StaysWithin body) (lead : TurnsLeadOn) (waiting : TurnsWait) where
  waits_within : (w : Setting) (i : ℕ) (stood : Bool) (body : Block) (c : Tree) (n : Node) → FitsGraph w i c (whole stood body) → Waits c None n →
      Contains (nodes_in body) n
  waits_within w i true body c n live h = (within body).depth n (part w i true body c n live h)
  waits_within w i false body c n live h = (within body).surface n (part w i false body c n live h)

  pub turns_leave_more : TurnsLeaveMore
  turns_leave_more w rank i slots unit stood c done n c' rule r turn turning keeps y h =
      ⊎_elim
      (λ (old : Waits c None y × (y ≡ n → ⊥)).
      let other : rank i n < rank i y =
      lt_of (rank i n) (rank i y) (keeps.ahead y old.0)
      (λ same. old.1 (sym (turning.orders.apart i unit n y turning.is
      (waits_within w i stood (plain_body unit.body) c n turning.live (waiting w rank i c done n c' None turn))
      (waits_within w i stood (plain_body unit.body) c y turning.live old.0) same))) in
      omega arith)
      (λ after. let more : rank i n < rank i y = after_rises (rank i) (turning.orders.rising.control i unit turning.is) after in omega arith)
      (lead w rank i stood unit c done n c' y turning.paces turning.live turn h)

-- ---- what a turn changes

module _ (shrinks : EndsShrink) (lists : TurnsAreWalks) (waiting : TurnsWait) (part : WaitsInPart) (within : (body : Block) → StaysWithin body)
    (lead : TurnsLeadOn) (once : (unit : UnitDef) → EachOnce (nodes_in (plain_body unit.body))) (placing : StaysPlaced) (w : Setting)
    (rank : ℕ → Node → ℕ) (i : ℕ) (slots : Slots) (unit : UnitDef) (stood : Bool) (c : Tree) (done : List AnsweredDeed) (n : Node) (c' : Tree)
    (rule : Transition) (r : Registers) (turn : Turns w rank i c done n c') (turning : Turning w rank i slots unit stood c n rule)
    (keeps : PassInvariant slots (rank i) (plain_body unit.body) (rank i n) c r) (other : Transition) (there : Contains (rules slots (plain_body unit.body)) other)
    (ahead : suc (rank i n) ≤ rank i other.node) where
  abbrev body : Block
  body = plain_body unit.body

  abbrev all : List Transition
  all = rules slots body

  abbrev answer : Bool
  answer = answer_of turn

  abbrev Acts : Type 0
  Acts = Acted all (rank i) r.marks (uses_in slots body) n answer (Waits c None) (Waits c' None) (Sleeps c')

  acts : Acts
  acts =
      turn_acted slots all (rank i) r.marks rank turning.paces shrinks lists waiting (whole stood body) Finishes None (uses_in slots body) 0 turning.live
      turning.placed.sits turning.placed.uses turning.placed.lies keeps.marks turning.dozes tt (λ e. refl) turn

  -- its rule is the one that is told
  same_rule : (turned : Acts) → turned.rule ≡ rule
  same_rule turned =
      one_rule placing.nodes slots body (once unit) turned.rule rule turned.there turning.there (turned.of_node ∙ sym turning.of_node)

  is_other : {P : Condition → Type 0} (one : RuleAt all other.node P) → P other.condition
  is_other {P} one = subst (λ rule. P rule.condition) (one_rule placing.nodes slots body (once unit) one.rule other one.there there one.of_node) one.is

  at_most : rank i n ≤ rank i other.node
  at_most = let more : suc (rank i n) ≤ rank i other.node = ahead in omega arith

  another : other.node ≡ n → ⊥
  another is = let same : rank i other.node ≡ rank i n = ap (rank i) is in let more : suc (rank i n) ≤ rank i other.node = ahead in omega arith

  known : Known slots (spots_in body) other
  known = rule_known slots body other there

  -- what waits after the turn is a node of the body
  fresh_within : (y : Node) → Waits c' None y → Contains (nodes_in body) y
  fresh_within y h =
      ⊎_elim (λ (old : Waits c None y × (y ≡ n → ⊥)). waits_within part within lead waiting w i stood body c y turning.live old.0)
      (λ (after : After (EdgeAll body) n y).
      in_body (walks_stay (part_closed stood body) (part_closed stood body n after.by
      (part w i stood body c n turning.live (waiting w rank i c done n c' None turn)) after.edge) after.rest))
      (lead w rank i stood unit c done n c' y turning.paces turning.live turn h)
    where
      by_part : (b : Bool) (m : Node) → In b body m → Contains (nodes_in body) m
      by_part true m there = (within body).depth m there
      by_part false m there = (within body).surface m there

      in_body : {m : Node} → In stood body m → Contains (nodes_in body) m
      in_body {m} there = by_part stood m there

  -- ---- flags

  module _ (flag : IsFlagged other.condition) (turned : Acts) where
    abbrev changes : List Change
    changes = changes_of turned.rule answer

    abbrev after : Registers
    after = all_changed (rank i) changes r

    flag_waited : Waits c None other.node → Waits c' None other.node
    flag_waited h = by_stays (turned.stays other.node h)
      where
        by_stays : Stays (Waits c' None) (Dropped all changes) n other.node → Waits c' None other.node
        by_stays (has_acted is) = absurd (another is)
        by_stays (waits_on waits) = waits
        by_stays (was_join join) = absurd (no_join other.condition other.node known.0 flag join)
        by_stays (dropped gone) = absurd (not_both other.condition flag (is_other gone).0)

    flag_first : is_due (rank i) other after ≡ true → Waits c' None other.node
    flag_first due =
        by_set (all_set (rank i) changes r (rank i other.node) (sym (flag_is_due (rank i) after other.node other.condition flag) ∙ due))
      where
        by_set : FlagFrom (rank i) (Sets (rank i) r.marks changes) (r.flags (rank i other.node)) (rank i other.node) → Waits c' None other.node
        by_set (was_set before) =
            flag_waited ((keeps.flags other there flag at_most).0 (flag_is_due (rank i) r other.node other.condition flag ∙ before))
        by_set (is_of y set at) =
            let waits = turned.sets y set in
            subst (Waits c' None) (sym (turning.orders.apart i unit other.node y turning.is (rule_node placing.nodes slots body other there)
            (fresh_within y waits) at)) waits

    flag_second : Waits c' None other.node → is_due (rank i) other after ≡ true
    flag_second h = flag_is_due (rank i) after other.node other.condition flag ∙ by_comes (turned.comes other.node h)
      where
        by_comes : Comes (Waits c None) (Sets (rank i) r.marks changes) other.node → after.flags (rank i other.node) ≡ true
        by_comes (waited old) =
            all_kept (rank i) changes r (rank i other.node)
            (sym (flag_is_due (rank i) r other.node other.condition flag) ∙ (keeps.flags other there flag at_most).1 old)
        by_comes (is_set set) = all_has (rank i) changes r other.node set
        by_comes (at_join join) = absurd (no_join other.condition other.node known.0 flag join)

    flags_exact : Exactly (is_due (rank i) other after) (Waits c' None other.node)
    flags_exact = (flag_first, flag_second)

  pub flags_kept : IsFlagged other.condition → Exactly (is_due (rank i) other (after_rule (rank i) rule answer r)) (Waits c' None other.node)
  flags_kept flag =
      subst (λ one. Exactly (is_due (rank i) other (after_rule (rank i) one answer r)) (Waits c' None other.node)) (same_rule acts) (flags_exact flag acts)

  -- ---- what rested

  module _ (sleepers : SleepersWait) (wakes : TurnsOnlyWake) (resume : IsResume other.condition) (turned : Acts) where
    abbrev changes' : List Change
    changes' = changes_of turned.rule answer

    abbrev after' : Registers
    after' = all_changed (rank i) changes' r

    -- a counter that holds nothing tells no number
    holds_none : (slot : Slot) → AsksFor other.condition slot → is_at after'.rested slot ≡ true → after'.rested slot.counter ≡ 0 → ⊥
    holds_none slot asks at none =
        asks_counted slots body other turning.laid there slot asks (sym (eqb-true (after'.rested slot.counter) slot.value at) ∙ none)

    resume_waited : (slot : Slot) → AsksFor other.condition slot → is_at after'.rested slot ≡ true → Waits c None other.node → Waits c' None other.node
    resume_waited slot asks at h = by_stays (turned.stays other.node h)
      where
        by_stays : Stays (Waits c' None) (Dropped all changes') n other.node → Waits c' None other.node
        by_stays (has_acted is) = absurd (another is)
        by_stays (waits_on waits) = waits
        by_stays (was_join join) = absurd (no_end other.condition other.node known.0 resume (join_ends other.node join))
        by_stays (dropped gone) =
            absurd (holds_none slot asks at (all_forget (rank i) changes' r slot.counter ((is_other gone).1 slot asks)))

    resume_first : is_due (rank i) other after' ≡ true → Waits c' None other.node
    resume_first due =
        let one = due_at (rank i) after' other.node other.condition resume due in
        ⊎_elim (λ (none : after'.rested one.0.counter ≡ 0). absurd (holds_none one.0 one.1 one.2 none))
        (λ (same : after'.rested one.0.counter ≡ r.rested one.0.counter).
        resume_waited one.0 one.1 one.2 ((keeps.resumes other there resume at_most).0
        (at_due (rank i) r other.node other.condition one.0 one.1 (ap (λ held. nat_eq held one.0.value) (sym same) ∙ one.2))))
        (all_either (rank i) changes' r one.0.counter)

    resume_second : Waits c' None other.node → is_due (rank i) other after' ≡ true
    resume_second h =
        by_other (waits_other slots all Finishes c' None other.node (placing.turns w rank i slots body c done n c' turning.laid turn turning.placed).sits
        (λ none. absurd none) h)
      where
        by_sleep : Sleeps c' other.node → is_due (rank i) other after' ≡ true
        by_sleep sleeps =
            let due = (keeps.resumes other there resume at_most).1 (sleepers c None other.node (wakes w rank i c done n c' other.node turn sleeps)) in
            let one = due_at (rank i) r other.node other.condition resume due in
            let spared = is_other (turned.spares other.node sleeps) in
            at_due (rank i) after' other.node other.condition one.0 one.1
            (ap (λ held. nat_eq held one.0.value) (all_spared (rank i) changes' r one.0.counter (λ gone. spared one.0 one.1 gone)) ∙ one.2)

        by_other : Sleeps c' other.node ⊎ Other all other.node → is_due (rank i) other after' ≡ true
        by_other (inl sleeps) = by_sleep sleeps
        by_other (inr (inl flag)) = absurd (not_both other.condition (is_other flag) resume)
        by_other (inr (inr end)) = absurd (no_end other.condition other.node known.0 resume end)

    resumes_exact : Exactly (is_due (rank i) other after') (Waits c' None other.node)
    resumes_exact = (resume_first, resume_second)

  pub resumes_kept : SleepersWait → TurnsOnlyWake → IsResume other.condition →
      Exactly (is_due (rank i) other (after_rule (rank i) rule answer r)) (Waits c' None other.node)
  resumes_kept sleepers wakes resume =
      subst (λ one. Exactly (is_due (rank i) other (after_rule (rank i) one answer r)) (Waits c' None other.node)) (same_rule acts)
      (resumes_exact sleepers wakes resume acts)

module _ (shrinks : EndsShrink) (lists : TurnsAreWalks) (waiting : TurnsWait) (part : WaitsInPart) (within : (body : Block) → StaysWithin body)
    (lead : TurnsLeadOn) (once : (unit : UnitDef) → EachOnce (nodes_in (plain_body unit.body))) where
  pub turns_keep_flags : TurnsKeepFlags
  turns_keep_flags placing w rank i slots unit stood c done n c' rule r turn turning keeps other there flag ahead =
      flags_kept shrinks lists waiting part within lead once placing w rank i slots unit stood c done n c' rule r turn turning keeps other there ahead flag

  pub turns_keep_resumes : SleepersWait → TurnsOnlyWake → TurnsKeepResumes
  turns_keep_resumes sleepers wakes placing w rank i slots unit stood c done n c' rule r turn turning keeps other there resume ahead =
      resumes_kept shrinks lists waiting part within lead once placing w rank i slots unit stood c done n c' rule r turn turning keeps other there ahead
      sleepers wakes resume
