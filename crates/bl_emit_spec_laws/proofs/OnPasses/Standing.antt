-- Where a pass over the blocks of a function stands: the turns that are left, the flags of their nodes, and a call that a block leaves.
use Rattle.std.proofs.Common.{◌≡◌, ◌⊎◌, inl, inr, ℕ, suc, ◌+◌, ◌<◌, ◌≤◌, Bool, true, false, List, []}
use Rattle.std.proofs.Common.{◌∷◌, ◌++◌, Contains, length, map, drop, Option, Some, None, refl, sym, ap, subst}
use Rattle.std.proofs.Common.{◌∙◌, arith, ⊎_elim, if◌then◌else◌}
use Rattle.std.proofs.lemmas.Option.{same_Some}
use Rattle.std.specs.Prelude.{slice_get}
use Rattle.bl_tree.proofs.Basics.{drop_past, less_or_not}
use Rattle.bl_tree.specs.declared.c.CStmt.{CStmt}
use Rattle.bl_tree.specs.declared.tree.StructDef.{StructDef}
use Rattle.bl_tree.specs.declared.tree.Unit.{Unit as UnitDef}
use Rattle.bl_tree.specs.Reduce.{joined}
use Rattle.bl_graph_nodes.specs.Nodes.{Node}
use Rattle.bl_graph_nodes.specs.Plain.{plain_body}
use Rattle.bl_ctree.specs.Instances.{Setting, setting_of, unit_at}
use Rattle.bl_machine.specs.declared.machine.Activity.{Activity as InMachine}
use Rattle.bl_machine.specs.Uses.{Slots}
use Rattle.bl_machine_pass.specs.Registers.{Registers, after_rule, due_by, is_due}
use Rattle.bl_machine_pass.specs.Transitions.{Change, Condition, Transition}
use Rattle.bl_machine_pass_laws_execution.specs.Executes.{HasRule}
use Rattle.bl_machine_pass_laws.specs.Flags.{MayFlag}
use Rattle.bl_machine_pass_laws_execution.specs.Frames.{Frames}
use Rattle.bl_emit_spec.specs.Activities.{Activity, activity_view, first_rules}
use Rattle.bl_emit_spec.specs.Blocks.{NodeCode, all_merged, last_turn, node_turn}
use Rattle.bl_emit_spec_laws.specs.Registers.Laws.{has_left, is_left}
use Rattle.bl_emit_spec_laws.specs.Calls.Built.{Activities, activity_at, last_rules, rank_by, registered, slots_by}
use Rattle.bl_emit_spec_laws.specs.Calls.Calls.{PassStarts}
use Rattle.bl_emit_spec_laws.specs.Calls.Laws.{CalledAt, CompilationContext}
use Rattle.bl_emit_spec_laws.specs.Passes.{BlockAt, BlocksPlaced, GoesStraight, IsBehind, behind_firsts, turns_in_blocks}
use Rattle.bl_emit_spec_laws.proofs.OnPasses.Blocks.{get_drop, get_first, none_before}
use Rattle.bl_emit_spec_laws.proofs.OnPasses.Turns.{Follows, Head, asked_flag, first_own, flags_kept, head_of, leads, left_flag, left_to, nothing, text}
use Rattle.bl_emit_spec_laws.proofs.OnPasses.Turns.{text_alone}

module _ (structs : List StructDef) (units : List UnitDef) (entry : ℕ) (activities : Activities) where
  abbrev W : Setting
  W = setting_of structs units entry

  abbrev R : ℕ → Node → ℕ
  R = rank_by W activities

  abbrev S : ℕ → Slots
  S = slots_by W activities

  abbrev A : ℕ → Activity
  A = activity_at W activities

  -- the turns of the nodes, in the order of their numbers
  abbrev pub all : ℕ → List NodeCode
  all i = joined (turns_in_blocks (A i))

  -- these are the turns from a number on: the rest of a block that has begun, and the blocks behind it
  pub record Place (i k : ℕ) (others : List NodeCode) (rest : List (List NodeCode)) : Type 0 where
    pub turns : drop k (all i) ≡ others ++ joined rest
    pub behind : drop k (behind_firsts (turns_in_blocks (A i))) ≡ map (λ (t : NodeCode). true) others ++ behind_firsts rest

  -- no rule of so many nodes from a number on is due
  abbrev pub NoneDue : ℕ → UnitDef → ℕ → ℕ → Registers → Type 0
  NoneDue i unit k n r =
      (rule : Transition) → HasRule S i unit rule → k ≤ R i rule.node → R i rule.node < k + n → is_due (R i) rule r ≡ false

  -- a block that wasn't entered has no rule that is due
  abbrev pub Asleep : Bool → ℕ → UnitDef → ℕ → List NodeCode → Registers → Type 0
  Asleep entered i unit k others r = entered ≡ false → NoneDue i unit k (length others) r

  -- where a block was entered, the first of its turns that are left is due
  abbrev pub Awake : Bool → ℕ → List NodeCode → Registers → Type 0
  Awake entered k others r = (t : NodeCode) (ts : List NodeCode) → entered ≡ true → others ≡ t ∷ ts → r.flags k ≡ true

  -- no node behind the number waits that stands behind another one in its block
  abbrev pub Unflagged : ℕ → ℕ → Registers → Type 0
  Unflagged i k r = (p : ℕ) → k < p → IsBehind (A i) p → r.flags p ≡ false

  -- The flag of a block that leaves its call tells whether it was entered. A block that was entered and has turns left has that of the start left, with which
  -- the next block goes on. None leaves its call behind that turn
  pub record Leaves (i : ℕ) (entered : Bool) (others : List NodeCode) (before : Option ℕ) (rest : List (List NodeCode)) (r : Registers) : Type 0 where
    pub own : has_left (registered (A i)) before ≡ true
    pub told : (g : ℕ) → before ≡ Some g → r.flags g ≡ entered
    pub follows : (g : ℕ) (t : NodeCode) (ts : List NodeCode) → before ≡ Some g → entered ≡ true → others ≡ t ∷ ts → Follows (last_turn t ts) rest
    pub none : entered ≡ true → others ≡ [] → before ≡ None

  -- what is left of a pass from a number on
  pub record Point (i : ℕ) (unit : UnitDef) (k : ℕ) (r : Registers) : Type 0 where
    pub entered : Bool
    pub others : List NodeCode
    pub before : Option ℕ
    pub rest : List (List NodeCode)
    pub place : Place i k others rest
    pub asleep : Asleep entered i unit k others r
    pub awake : Awake entered k others r
    pub leaves : Leaves i entered others before rest r

  -- what a pass has reached at a number: the C stands there too, or behind it, since it has done the turn of a node that isn't due
  pub data Reached (i : ℕ) (unit : UnitDef) (k : ℕ) (r : Registers) : Type 0 where
    now : Point i unit k r → Reached i unit k r
    later : NoneDue i unit k 1 r → (rule : Transition) → HasRule S i unit rule → R i rule.node ≡ k → Point i unit (suc k) r → Reached i unit k r

  abbrev pub text_at : (i : ℕ) (unit : UnitDef) (k : ℕ) (r : Registers) → Point i unit k r → List CStmt
  text_at i unit k r p = text (activity_view (A i)).word p.entered p.others p.before p.rest

  -- the text that is left
  abbrev pub text_of : (i : ℕ) (unit : UnitDef) (k : ℕ) (r : Registers) → Reached i unit k r → List CStmt
  text_of i unit k r (now p) = text_at i unit k r p
  text_of i unit k r (later none rule has at p) = text_at i unit (suc k) r p

  -- the rule whose node has a number, and its turn
  pub record Due (i k : ℕ) (unit : UnitDef) (t : NodeCode) : Type 0 where
    pub rule : Transition
    pub there : HasRule S i unit rule
    pub numbered : R i rule.node ≡ k
    pub u : ℕ
    pub called : CalledAt (plain_body unit.body) rule.node u
    pub turn : t ≡ node_turn (activity_view (A i)) u rule

  -- no call is left to what stands behind
  not_left : (i : ℕ) (entered : Bool) (before : Option ℕ) (rest : List (List NodeCode)) (r : Registers) → Leaves i entered [] before rest r →
      is_left r before ≡ false
  not_left i entered None rest r leaves = refl
  not_left i false (Some g) rest r leaves = leaves.told g refl
  not_left i true (Some g) rest r leaves = absurd (some_left (leaves.none refl refl))
    where
      some_left : Some g ≡ None → ⊥
      some_left is = cc

  -- the first block behind finds none either
  pub first_left : (i : ℕ) (entered : Bool) (before first : Option ℕ) (rest : List (List NodeCode)) (r : Registers) →
      Leaves i entered [] before rest r → (first ≡ None) ⊎ (first ≡ before) →
      (has_left (registered (A i)) first ≡ true) × (is_left r first ≡ false)
  first_left i entered before first rest r leaves (inl none) = (ap (has_left (registered (A i))) none, ap (is_left r) none)
  first_left i entered before first rest r leaves (inr same) = (
    ap (has_left (registered (A i))) same ∙ leaves.own,
    ap (is_left r) same ∙ not_left i entered before rest r leaves,
  )

  -- the flag of a block whose first node has this rule
  pub leaves_own : (i : ℕ) (t : NodeCode) (ts : List NodeCode) (more : List (List NodeCode)) (rule : Transition) (u : ℕ) →
      t ≡ node_turn (activity_view (A i)) u rule → Contains (first_rules (A i)) rule → has_left (registered (A i)) (left_to t ts more) ≡ true
  leaves_own i t ts more rule u turn first = by (left_to t ts more) refl
    where
      by : (before : Option ℕ) → left_to t ts more ≡ before → has_left (registered (A i)) before ≡ true
      by None is = refl
      by (Some g) is =
          let asked = asked_flag (activity_view (A i)) rule.node rule.condition g (ap (λ (t : NodeCode). t.flag) (sym turn) ∙ left_flag t ts _ g is) in
          subst (λ (g : ℕ). (registered (A i)).flags g ≡ true) asked.1 (first_own (A i) rule first asked.0)

  -- it is set where that rule is due
  pub leaves_told : (i : ℕ) (t : NodeCode) (ts : List NodeCode) (more : List (List NodeCode)) (rule : Transition) (u : ℕ) (r : Registers) →
      t ≡ node_turn (activity_view (A i)) u rule → (g : ℕ) → left_to t ts more ≡ Some g → r.flags g ≡ is_due (R i) rule r
  leaves_told i t ts more rule u r turn g is =
      let asked = asked_flag (activity_view (A i)) rule.node rule.condition g (ap (λ (t : NodeCode). t.flag) (sym turn) ∙ left_flag t ts _ g is) in
      ap r.flags (sym asked.1) ∙ ap (due_by (R i) r rule.node) (sym asked.0)

  -- ---- where blocks stand in order

  module _ (machine : List InMachine) (placed : BlocksPlaced structs units entry machine activities) (i : ℕ) (unit : UnitDef)
      (compiled : CompilationContext structs units entry machine activities) (is_there : unit_at W i ≡ Some unit) where
    -- as a pass starts
    pub unflagged_first : (frames : Frames) (r : Registers) → PassStarts W activities i unit frames r → Unflagged i 0 r
    unflagged_first frames r (inl begun) p less behind =
        ap (λ (s : Registers). s.flags p) begun.0 ∙ placed.begins i unit p compiled is_there behind
    unflagged_first frames r (inr resumed) p less behind = ap (λ (s : Registers). s.flags p) resumed.0

    -- behind a rule's turn
    pub unflagged_next : (k : ℕ) (rule : Transition) (answer : Bool) (r : Registers) → HasRule S i unit rule → R i rule.node ≡ k →
        Unflagged i k r → Unflagged i (suc k) (after_rule (R i) rule answer r)
    unflagged_next k rule answer r has at unflagged p less behind =
        flags_kept (R i) p (if answer then rule.on_true else rule.on_false) r (by answer) (unflagged p (omega (arith, less)) behind)
      where
        none : (change : Change) (m : Node) → Contains rule.on_true change ⊎ Contains rule.on_false change → MayFlag change m → R i m ≡ p → ⊥
        none change m there may is =
            let number = placed.before i unit rule change m compiled is_there has there may
            (subst (λ (n : ℕ). IsBehind (A i) n) (sym is) behind) in
            omega (arith, number, is, at, less)

        by : (b : Bool) (change : Change) (m : Node) → Contains (if b then rule.on_true else rule.on_false) change → MayFlag change m → R i m ≡ p → ⊥
        by true change m there = none change m (inl there)
        by false change m there = none change m (inr there)

    -- a node behind another one in its block isn't due where it isn't flagged
    pub not_due : (r : Registers) (rule : Transition) → HasRule S i unit rule → IsBehind (A i) (R i rule.node) →
        r.flags (R i rule.node) ≡ false → is_due (R i) rule r ≡ false
    not_due r rule has behind unset =
        ap (λ (condition : Condition). due_by (R i) r rule.node condition) (placed.waits i unit rule compiled is_there has behind) ∙ unset

    -- ---- turns

    -- the turn at a number is that of a rule with the number
    pub turn_there : (k : ℕ) (rule : Transition) → R i rule.node ≡ k → (block : BlockAt (A i) unit (R i rule.node) rule) →
        slice_get (all i) k ≡ Some (node_turn (activity_view (A i)) block.u rule)
    turn_there k rule is block =
        subst (λ (n : ℕ). slice_get (all i) n ≡ Some (node_turn (activity_view (A i)) block.u rule)) is block.turn

    -- a number with a turn is within
    within : (k : ℕ) (t : NodeCode) (ts : List NodeCode) → drop k (all i) ≡ t ∷ ts → k < length (all i)
    within k t ts is = by (less_or_not k (length (all i)))
      where
        by : (k < length (all i)) ⊎ (length (all i) ≤ k) → k < length (all i)
        by (inl less) = less
        by (inr past) = let none : t ∷ ts ≡ [] = sym is ∙ drop_past (all i) k past in absurd (cc)

    -- the turn at a number is that of the rule
    pub own_turn : (k : ℕ) (rule : Transition) → R i rule.node ≡ k → (block : BlockAt (A i) unit (R i rule.node) rule) → (t : NodeCode)
        (ts : List NodeCode) → drop k (all i) ≡ t ∷ ts → t ≡ node_turn (activity_view (A i)) block.u rule
    own_turn k rule at block t ts is =
        same_Some t (node_turn (activity_view (A i)) block.u rule) (sym (get_first (all i) k t ts is) ∙ turn_there k rule at block)

    pub rule_there : (k : ℕ) (t : NodeCode) (ts : List NodeCode) → drop k (all i) ≡ t ∷ ts → Due i k unit t
    rule_there k t ts is =
        let at = placed.of_number i unit k compiled is_there (within k t ts is) in
        let block = placed.of_rule i unit at.rule compiled is_there at.there in
        record {
          rule = at.rule;
          there = at.there;
          numbered = at.numbered;
          u = block.u;
          called = block.called;
          turn = own_turn k at.rule at.numbered block t ts is;
        }

    -- nothing is left where all rules have lesser numbers
    pub none_left : (k : ℕ) → ((rule : Transition) → HasRule S i unit rule → R i rule.node < k) → (xs : List NodeCode) → drop k (all i) ≡ xs → xs ≡ []
    none_left k below [] is = refl
    none_left k below (t ∷ ts) is =
        let last = rule_there k t ts is in
        let less = below last.rule last.there in
        let at = last.numbered in
        absurd (omega (arith, less, at))

    pub no_text : (entered : Bool) (others : List NodeCode) (before : Option ℕ) (rest : List (List NodeCode)) → others ++ joined rest ≡ [] →
        text (activity_view (A i)).word entered others before rest ≡ []
    no_text entered (t ∷ ts) before rest is = absurd (cc)
    no_text entered [] before rest is = text_alone (activity_view (A i)).word entered before rest ∙ by (head_of (activity_view (A i)).word before rest)
      where
        by : Head (activity_view (A i)).word before rest → all_merged (activity_view (A i)).word before rest ≡ []
        by (nothing turns code behind) = code
        by (leads first t ts more from turns code behind) = let none : t ∷ (ts ++ joined more) ≡ [] = sym turns ∙ is in absurd (cc)

    -- a node whose mark isn't set stands first in its block
    pub stands_first : (k : ℕ) (rule : Transition) → HasRule S i unit rule → R i rule.node ≡ k → (more : List Bool) →
        drop k (behind_firsts (turns_in_blocks (A i))) ≡ false ∷ more → Contains (first_rules (A i)) rule
    stands_first k rule has at more is =
        placed.first i unit rule compiled is_there has
        (λ behind. unset (sym (get_first (behind_firsts (turns_in_blocks (A i))) k false more is) ∙ subst (λ (n : ℕ). IsBehind (A i) n) at behind))
      where
        unset : Some false ≡ Some true → ⊥
        unset both = cc

    -- a node with another one behind it goes straight, and one with none is the last of its block
    pub goes_to : (k : ℕ) (rule : Transition) → HasRule S i unit rule → R i rule.node ≡ k → (more : List Bool) →
        drop (suc k) (behind_firsts (turns_in_blocks (A i))) ≡ true ∷ more → GoesStraight (R i) rule
    goes_to k rule has at more is =
        placed.straight i unit rule compiled is_there has
        (subst (λ (n : ℕ). IsBehind (A i) (suc n)) (sym at) (get_first (behind_firsts (turns_in_blocks (A i))) (suc k) true more is))

    pub stands_last : (k : ℕ) (rule : Transition) → HasRule S i unit rule → R i rule.node ≡ k → (rest : List (List NodeCode)) →
        drop (suc k) (behind_firsts (turns_in_blocks (A i))) ≡ behind_firsts rest → Contains (last_rules (A i)) rule
    stands_last k rule has at rest is =
        placed.last i unit rule compiled is_there has
        (λ behind. none_before rest
        (sym (get_drop (behind_firsts (turns_in_blocks (A i))) (suc k) (behind_firsts rest) is)
        ∙ subst (λ (n : ℕ). IsBehind (A i) (suc n)) at behind))
