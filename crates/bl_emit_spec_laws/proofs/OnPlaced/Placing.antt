-- The blocks of an activity's function stand in the order of the numbers of their nodes.
use Rattle.std.proofs.Common.{◌≡◌, ◌⊎◌, inl, inr, ℕ, zero, suc, ◌+◌, ◌<◌, Bool, true, false, List, [], ◌∷◌, Contains, Option, Some, None}
use Rattle.std.proofs.Common.{nat_eq, refl, sym, ap, subst, ◌∙◌, arith, eqb-true}
use Rattle.std.proofs.Common.{length, map, unwrap_or}
use Rattle.std.specs.List.{list_any}
use Rattle.std.specs.Prelude.{IsPermutation, option_and_then, option_map, slice_get}
use Rattle.bl_tree.proofs.Basics.{and_second, contains_at, from_false, get_mapped, index_of, map_length, same_some, some_within, within_at}
use Rattle.bl_tree.specs.declared.tree.StructDef.{StructDef}
use Rattle.bl_tree.specs.declared.tree.Unit.{Unit as UnitDef}
use Rattle.bl_tree.specs.Reduce.{joined}
use Rattle.bl_tree.specs.Typing.{is_activity}
use Rattle.bl_cause.specs.Activities.{activities as activities_of, graph_position}
use Rattle.bl_cause.proofs.PairLemmas.{each_at, filtered_at}
use Rattle.bl_graph.specs.Edges.{EdgeAll, Entry, OutAll}
use Rattle.bl_graph.specs.Laws.{StaysWithin}
use Rattle.bl_graph_nodes.specs.Nodes.{Node, entry as first_node, nodes_in}
use Rattle.bl_graph_nodes.specs.Plain.{Block, Done, Then, plain_body}
use Rattle.bl_ctree.specs.declared.instance.Instance.{Instance}
use Rattle.bl_ctree.specs.Instances.{Setting, setting_of, unit_at, unit_of}
use Rattle.bl_ctree_laws_confluence.specs.Deeds.Orderly.{AcceptedIsOrderly}
use Rattle.bl_machine.specs.declared.machine.Activity.{Activity as InMachine}
use Rattle.bl_machine.specs.Blocks.{CouldFollow, Ordered, is_join, up_to}
use Rattle.bl_machine.specs.Machines.{IsActivityOf}
use Rattle.bl_machine_pass.specs.Numbered.{position_where, slots_of}
use Rattle.bl_machine_pass.specs.Transitions.{Change, Finishes, Flagged, SetsFlag, Transition, rules}
use Rattle.bl_machine_pass_laws_execution.specs.Executes.{HasRule, begun_registers}
use Rattle.bl_machine_pass_laws.specs.Turns.Laws.{StaysPlaced, entry_flag}
use Rattle.bl_machine_pass_laws.specs.Flags.{FlagsAreAsked, FlagsAreReached, FlagsComeFromBefore, MayFlag}
use Rattle.bl_machine_pass_laws.specs.Keys.{NodesHaveKeys}
use Rattle.bl_machine_transitions.specs.Callees.{callees_in, node_number}
use Rattle.bl_machine_transitions.specs.Listed.{layout_of}
use Rattle.bl_machine_transitions_laws.specs.Laws.{RulesAreListed}
use Rattle.bl_machine_transitions_laws.proofs.Agreeing.{Agrees}
use Rattle.bl_machine_transitions_laws.proofs.Standing.{nodes_stand}
use Rattle.bl_emit_spec.specs.Activities.{Activity, activity_view, first_rules, first_positions, is_flagged, picked, rules_at, turns_in_source}
use Rattle.bl_emit_spec.specs.Blocks.{ActivityView, NodeCode, node_turn, turns_of}
use Rattle.bl_emit_spec_laws.specs.Calls.Built.{Activities, activity_at, asks_flag, last_rules, last_positions, rank_by, registered, slots_by, unit_number}
use Rattle.bl_emit_spec_laws.specs.Calls.Laws.{CompilationContext}
use Rattle.bl_emit_spec_laws.specs.Passes.{BlockAt, BlocksPlaced, GoesStraight, IsBehind, RuleAt, behind_firsts, turns_in_blocks}
use Rattle.bl_emit_spec_laws.proofs.OnOwn.Members.{any_found}
use Rattle.bl_emit_spec_laws.proofs.OnPlaced.Behind.{first_there, first_unmarked, last_there, last_unmarked, marks_picked, neighbours, picked_joined}
use Rattle.bl_emit_spec_laws.proofs.OnPlaced.Going.{Differ, Leads, all_differ, block_going, going_at, sole, split}
use Rattle.bl_emit_spec_laws.proofs.OnPlaced.Lists.{Within, found_at, number_below, number_once, number_there}
use Rattle.bl_emit_spec_laws.proofs.OnPlaced.Lists.{picked_at, picked_from, picked_has, picked_many}

-- ---- blocks

pub turn_at : (view : ActivityView) (callees : List ℕ) (rs : List Transition) (k u : ℕ) (rule : Transition) → slice_get callees k ≡ Some u → slice_get rs k
    ≡ Some rule →
    slice_get (turns_of view callees rs) k ≡ Some (node_turn view u rule)
turn_at view [] rs k u rule one two = absurd (cc)
turn_at view (c ∷ callees) [] k u rule one two = absurd (cc)
turn_at view (c ∷ callees) (r ∷ rs) zero u rule one two =
    ap (λ a. Some (node_turn view a r)) (same_some c u one) ∙ ap (λ a. Some (node_turn view u a)) (same_some r rule two)
turn_at view (c ∷ callees) (r ∷ rs) (suc k) u rule one two = turn_at view callees rs k u rule one two

pub turns_many : (view : ActivityView) (callees : List ℕ) (rs : List Transition) → length callees ≡ length rs → length (turns_of view callees rs)
    ≡ length rs
turns_many view [] [] is = refl
turns_many view [] (r ∷ rs) is = absurd (omega (arith, is))
turns_many view (c ∷ callees) [] is = refl
turns_many view (c ∷ callees) (r ∷ rs) is = ap suc
    (turns_many view callees rs (let less : length callees ≡ length rs = omega (arith, is) in less))

pub agrees_at : {X Y : Type 0} (f : X → Y) (at : ℕ → Y) (xs : List X) (first k : ℕ) (x : X) → Agrees f at first xs → slice_get xs k
    ≡ Some x →
    f x ≡ at (first + k)
agrees_at f at [] first k x agrees is = absurd (cc)
agrees_at f at (y ∷ xs) first zero x agrees is =
    let same : first ≡ first + 0 = omega arith in ap f (sym (same_some y x is)) ∙ agrees.0 ∙ ap at same
agrees_at f at (y ∷ xs) first (suc k) x agrees is =
    let same : suc first + k ≡ first + suc k = omega arith in agrees_at f at xs (suc first) k x agrees.1 is ∙ ap at same

-- ---- an activity whose unit it is, with its part of the machine

-- the laws of which this is made
pub record Laws : Type 0 where
  pub keys : NodesHaveKeys
  pub placed : StaysPlaced
  pub listed : RulesAreListed
  pub within : (body : Block) → StaysWithin body
  pub before : FlagsComeFromBefore
  pub asked : FlagsAreAsked
  pub reached : FlagsAreReached

module _ (laws : Laws) (a : Activity) (unit : UnitDef) (one : InMachine) (unit_is : a.unit ≡ unit) (order_is : a.order ≡ joined one.blocks)
    (blocks_are : a.blocks ≡ one.blocks) (slots_are : a.slots ≡ slots_of (plain_body unit.body) one.slots)
    (ordered : Ordered (plain_body unit.body) one.blocks)
  where
    abbrev body : Block
    body = plain_body unit.body

    abbrev nodes : List Node
    nodes = nodes_in body

    abbrev rs : List Transition
    rs = rules a.slots body

    abbrev turns : List NodeCode
    turns = turns_in_source a

    nodes_are : map (λ (rule : Transition). rule.node) rs ≡ nodes
    nodes_are = laws.placed.nodes a.slots body

    many_rules : length rs ≡ length nodes
    many_rules = sym (map_length (λ (rule : Transition). rule.node) rs) ∙ ap (λ (xs : List Node). length xs) nodes_are

    many_callees : length (callees_in body) ≡ length rs
    many_callees = laws.listed.each unit.body one.slots ∙ ap (λ slots. length (rules slots body)) (sym slots_are)

    permutes : IsPermutation (up_to (length nodes)) a.order
    permutes = subst (λ order. IsPermutation (up_to (length nodes)) order) (sym order_is) ordered.all

    -- the turns in source order
    turns_are : turns ≡ turns_of (activity_view a) (callees_in body) rs
    turns_are = ap (λ (u : UnitDef). turns_of (activity_view a) (callees_in (plain_body u.body)) (rules a.slots (plain_body u.body))) unit_is

    many_turns : length turns ≡ length nodes
    many_turns = ap (λ (xs : List NodeCode). length xs) turns_are ∙ turns_many (activity_view a) (callees_in body) rs many_callees ∙ many_rules

    within : Within turns a.order
    within k p at = subst (λ n. p < n) (sym many_turns) (number_below (length nodes) a.order permutes p k at)

    in_blocks : a.order ≡ joined a.blocks
    in_blocks = order_is ∙ ap (λ (blocks : List (List ℕ)). joined blocks) (sym blocks_are)

    -- the turns block by block
    all_turns : picked turns a.order ≡ joined (turns_in_blocks a)
    all_turns = ap (λ (order : List ℕ). picked turns order) in_blocks ∙ sym (picked_joined turns a.blocks)

    -- the node of the rule at a position stands at that position
    node_at : (p : ℕ) (rule : Transition) → slice_get rs p ≡ Some rule → slice_get nodes p ≡ Some rule.node
    node_at p rule is = ap (λ (xs : List Node). slice_get xs p) (sym nodes_are) ∙ get_mapped (λ (r : Transition). r.node) rs p rule is

    -- the number of a node is where its position stands in the order
    number_of_node : (p k : ℕ) (n : Node) → slice_get nodes p ≡ Some n → slice_get a.order k ≡ Some p → (activity_view a).number n ≡ k
    number_of_node p k n is at =
        let none : 0 + p ≡ p = omega arith in
        ap (λ (u : UnitDef). node_number a.order (plain_body u.body) n) unit_is
        ∙ agrees_at (node_number a.order body) (layout_of a.order one.slots).number nodes 0 p n (nodes_stand laws.keys unit.body a.order one.slots) is
        ∙ ap (λ q. position_where (nat_eq q) a.order) none
        ∙ found_at p a.order k at (λ j there. number_once (length nodes) a.order permutes p j k there at)

    number_is : (p k : ℕ) (rule : Transition) → slice_get rs p ≡ Some rule → slice_get a.order k ≡ Some p → (activity_view a).number rule.node ≡ k
    number_is p k rule is at = number_of_node p k rule.node (node_at p rule is) at

    pub of_rule : (rule : Transition) → Contains rs rule → BlockAt a unit ((activity_view a).number rule.node) rule
    of_rule rule there =
        let at = index_of rs rule there in
        let below = within_at rs at.0 rule at.1 in
        let many = many_callees in
        let called = some_within (callees_in body) at.0 (omega (arith, below, many)) in
        let all = many_rules in
        let k = number_there (length nodes) a.order permutes at.0 (omega (arith, below, all)) in
        let number = number_is at.0 k.0 rule at.1 k.1 in
        record {
          u = called.0;
          called = record { position = at.0; node = node_at at.0 rule at.1; unit = called.1 };
          turn = ap (λ n. slice_get (joined (turns_in_blocks a)) n) number
              ∙ ap (λ (xs : List NodeCode). slice_get xs k.0) (sym all_turns)
              ∙ picked_at turns a.order within k.0 at.0 (node_turn (activity_view a) called.0 rule) k.1
              (ap (λ (xs : List NodeCode). slice_get xs at.0) turns_are
              ∙ turn_at (activity_view a) (callees_in body) rs at.0 called.0 rule called.1 at.1);
        }

    -- a rule whose node has a number
    pub record Numbered (number : ℕ) : Type 0 where
      pub rule : Transition
      pub there : Contains rs rule
      pub numbered : (activity_view a).number rule.node ≡ number

    pub of_number : (number : ℕ) → number < length (joined (turns_in_blocks a)) → Numbered number
    of_number number below =
        let many = picked_many turns a.order within in
        let all_many : length (picked turns a.order) ≡ length (joined (turns_in_blocks a)) = ap (λ (xs : List NodeCode). length xs) all_turns in
        let at = some_within a.order number (omega (arith, below, many, all_many)) in
        let inside = number_below (length nodes) a.order permutes at.0 number at.1 in
        let all = many_rules in
        let rule = some_within rs at.0 (omega (arith, inside, all)) in
        record { rule = rule.0; there = contains_at rs at.0 rule.0 rule.1; numbered = number_is at.0 number rule.0 rule.1 at.1 }

    -- ---- nodes behind others

    -- the node with the number and the one before it, with which it could stand in one block
    pub record Pair (p : ℕ) : Type 0 where
      pub first : Node
      pub second : Node
      pub numbered : p ≡ suc ((activity_view a).number first)
      pub second_numbered : (activity_view a).number second ≡ p
      pub follow : CouldFollow body first second
      -- no other node has the number, nor that of the first one
      pub only : (m : Node) → Contains nodes m → (activity_view a).number m ≡ p → m ≡ second
      pub only_first : (m : Node) → Contains nodes m → suc ((activity_view a).number m) ≡ p → m ≡ first

    pub pair : (p : ℕ) → IsBehind a p → Pair p
    pair p behind =
        let inside : Within turns (joined a.blocks) = subst (λ (order : List ℕ). Within turns order) in_blocks within in
        let n = neighbours a.blocks p (ap (λ (marks : List Bool). slice_get marks p) (sym (marks_picked turns a.blocks inside)) ∙ behind) in
        let straight = (subst (λ (blocks : List (List ℕ)). Ordered body blocks) (sym blocks_are) ordered).straight n.block n.k n.i n.j n.there n.one n.two
        in
        let before : slice_get a.order n.q ≡ Some n.i = ap (λ (order : List ℕ). slice_get order n.q) in_blocks ∙ n.first in
        let at : slice_get a.order p ≡ Some n.j = ap (λ (order : List ℕ). slice_get order p) in_blocks ∙ n.second in
        record {
          first = straight.first;
          second = straight.second;
          numbered = n.next ∙ ap suc (sym (number_of_node n.i n.q straight.first straight.is_first before));
          second_numbered = number_of_node n.j p straight.second straight.is_second at;
          follow = straight.edge;
          only = λ m there is.
              (let place = index_of nodes m there in
              let k = number_there (length nodes) a.order permutes place.0 (within_at nodes place.0 m place.1) in
              let number = number_of_node place.0 k.0 m place.1 k.1 in
              let same : k.0 ≡ p = sym number ∙ is in
              let position : place.0 ≡ n.j = same_some place.0 n.j (sym k.1 ∙ ap (λ (q : ℕ). slice_get a.order q) same ∙ at) in
              same_some m straight.second (sym place.1 ∙ ap (λ (q : ℕ). slice_get nodes q) position ∙ straight.is_second));
          only_first = λ m there is.
              (let place = index_of nodes m there in
              let k = number_there (length nodes) a.order permutes place.0 (within_at nodes place.0 m place.1) in
              let number = number_of_node place.0 k.0 m place.1 k.1 in
              let next = n.next in
              let same : k.0 ≡ n.q = omega (arith, number, is, next) in
              let position : place.0 ≡ n.i = same_some place.0 n.i (sym k.1 ∙ ap (λ (q : ℕ). slice_get a.order q) same ∙ before) in
              same_some m straight.first (sym place.1 ∙ ap (λ (q : ℕ). slice_get nodes q) position ∙ straight.is_first));
        }

    rule_node : (rule : Transition) → Contains rs rule → Contains nodes rule.node
    rule_node rule there =
        let at = index_of rs rule there in contains_at nodes at.0 rule.node (node_at at.0 rule at.1)

    pub waits : (rule : Transition) → Contains rs rule → IsBehind a ((activity_view a).number rule.node) → rule.condition ≡ Flagged
    waits rule there behind =
        let both = pair ((activity_view a).number rule.node) behind in
        laws.asked a.slots body both.first both.second rule both.follow there (both.only rule.node (rule_node rule there) refl)

    pub before : (rule : Transition) (change : Change) (m : Node) → Contains rs rule → Contains rule.on_true change ⊎ Contains rule.on_false change →
        MayFlag change m → IsBehind a ((activity_view a).number m) → (activity_view a).number m ≡ suc ((activity_view a).number rule.node)
    before rule change m there among may behind =
        let both = pair ((activity_view a).number m) behind in
        let via = laws.reached a.slots body m rule change there among may in
        let is : m ≡ both.second = both.only m ((laws.within body).edges via.0 m via.1).1 refl in
        let own : rule.node ≡ both.first =
        laws.before a.slots body both.first both.second rule change both.follow there among (subst (λ (x : Node). MayFlag change x) is may) in
        both.numbered ∙ ap (λ (x : Node). suc ((activity_view a).number x)) (sym own)

    pub begins : (p : ℕ) → IsBehind a p → entry_flag (activity_view a).number body p ≡ false
    begins p behind = by body refl
      where
        both : Pair p
        both = pair p behind

        by : (b : Block) → body ≡ b → entry_flag (activity_view a).number b p ≡ false
        by Done is = refl
        by (Then s rest) is = unset (nat_eq p ((activity_view a).number (first_node s))) refl
          where
            first : Entry body (first_node s)
            first = subst (λ (b : Block). Entry b (first_node s)) (sym is) refl

            unset : (b : Bool) → nat_eq p ((activity_view a).number (first_node s)) ≡ b → b ≡ false
            unset false equal = refl
            unset true equal =
                let number : p ≡ (activity_view a).number (first_node s) = eqb-true p ((activity_view a).number (first_node s)) equal in
                let same = both.only (first_node s) ((laws.within body).entries (first_node s) first) (sym number) in
                absurd (both.follow.no_entry (subst (λ (n : Node). Entry body n) same first))

    -- ---- first and last nodes of blocks

    marks_are : behind_firsts (turns_in_blocks a) ≡ behind_firsts a.blocks
    marks_are =
        let inside : Within turns (joined a.blocks) = subst (λ (order : List ℕ). Within turns order) in_blocks within in
        marks_picked turns a.blocks inside

    -- a rule stands at a position, which has the number of its node in the order
    record Stood (rule : Transition) : Type 0 where
      p : ℕ
      there : slice_get rs p ≡ Some rule
      at : slice_get (joined a.blocks) ((activity_view a).number rule.node) ≡ Some p

    stood : (rule : Transition) → Contains rs rule → Stood rule
    stood rule there =
        let at = index_of rs rule there in
        let below = within_at rs at.0 rule at.1 in
        let all = many_rules in
        let k = number_there (length nodes) a.order permutes at.0 (omega (arith, below, all)) in
        record {
          p = at.0;
          there = at.1;
          at = ap (λ (n : ℕ). slice_get (joined a.blocks) n) (number_is at.0 k.0 rule at.1 k.1)
              ∙ ap (λ (order : List ℕ). slice_get order k.0) (sym in_blocks) ∙ k.1;
        }

    rules_are : rules_at a ≡ rs
    rules_are = ap (λ (u : UnitDef). rules a.slots (plain_body u.body)) unit_is

    pub first_is : (rule : Transition) → Contains rs rule → (IsBehind a ((activity_view a).number rule.node) → ⊥) → Contains (first_rules a) rule
    first_is rule there alone =
        let at = stood rule there in
        picked_has (rules_at a) (first_positions a.blocks) at.p rule
        (first_there a.blocks ((activity_view a).number rule.node) at.p at.at
        (λ set. alone (ap (λ (marks : List Bool). slice_get marks ((activity_view a).number rule.node)) marks_are ∙ set)))
        (ap (λ (all : List Transition). slice_get all at.p) rules_are ∙ at.there)

    pub last_is : (rule : Transition) → Contains rs rule → (IsBehind a (suc ((activity_view a).number rule.node)) → ⊥) → Contains (last_rules a) rule
    last_is rule there alone =
        let at = stood rule there in
        picked_has (rules_at a) (last_positions a.blocks) at.p rule
        (last_there a.blocks ((activity_view a).number rule.node) at.p at.at
        (λ set. alone (ap (λ (marks : List Bool). slice_get marks (suc ((activity_view a).number rule.node))) marks_are ∙ set)))
        (ap (λ (all : List Transition). slice_get all at.p) rules_are ∙ at.there)

    -- a rule at a position in the order, whose mark at some place isn't set
    number_at : (p k : ℕ) (rule : Transition) → slice_get (rules_at a) p ≡ Some rule → slice_get (joined a.blocks) k ≡ Some p →
        (activity_view a).number rule.node ≡ k
    number_at p k rule there at =
        number_is p k rule (ap (λ (all : List Transition). slice_get all p) (sym rules_are) ∙ there)
        (ap (λ (order : List ℕ). slice_get order k) in_blocks ∙ at)

    -- the first node of a block stands behind no other one
    pub first_alone : (rule : Transition) → Contains (first_rules a) rule → IsBehind a ((activity_view a).number rule.node) → ⊥
    first_alone rule there behind =
        let from = picked_from (rules_at a) (first_positions a.blocks) rule there in
        let found = first_unmarked a.blocks from.0 from.1 in
        let number = number_at from.0 found.k rule from.2 found.at in
        found.unset
        (ap (λ (n : ℕ). slice_get (behind_firsts a.blocks) n) (sym number)
        ∙ ap (λ (marks : List Bool). slice_get marks ((activity_view a).number rule.node)) (sym marks_are) ∙ behind)

    -- the last one has none behind it
    pub last_alone : (rule : Transition) → Contains (last_rules a) rule → IsBehind a (suc ((activity_view a).number rule.node)) → ⊥
    last_alone rule there behind =
        let from = picked_from (rules_at a) (last_positions a.blocks) rule there in
        let found = last_unmarked a.blocks from.0 from.1 in
        let number = number_at from.0 found.k rule from.2 found.at in
        found.unset
        (ap (λ (n : ℕ). slice_get (behind_firsts a.blocks) (suc n)) (sym number)
        ∙ ap (λ (marks : List Bool). slice_get marks (suc ((activity_view a).number rule.node))) (sym marks_are) ∙ behind)

    -- these rules are among all
    picked_rule : (order : List ℕ) (rule : Transition) → Contains (picked (rules_at a) order) rule → Contains rs rule
    picked_rule order rule there =
        let from = picked_from (rules_at a) order rule there in
        contains_at rs from.0 rule (ap (λ (all : List Transition). slice_get all from.0) (sym rules_are) ∙ from.2)

    pub last_among : (rule : Transition) → Contains (last_rules a) rule → Contains rs rule
    last_among rule there = picked_rule (last_positions a.blocks) rule there

    pub first_among : (rule : Transition) → Contains (first_rules a) rule → Contains rs rule
    first_among rule there = picked_rule (first_positions a.blocks) rule there

    -- what the rule of a last node may flag is a first one
    pub flags_first : (rule other : Transition) (change : Change) → Contains (last_rules a) rule →
        Contains rule.on_true change ⊎ Contains rule.on_false change → MayFlag change other.node → Contains rs other → Contains (first_rules a) other
    flags_first rule other change there among may has =
        first_is other has
        (λ behind. last_alone rule there
        (subst (λ (n : ℕ). IsBehind a n) (before rule change other.node (last_among rule there) among may behind) behind))

    -- the node at which the body begins stands first
    pub entry_first : (rule : Transition) → Contains rs rule → Entry body rule.node → Contains (first_rules a) rule
    entry_first rule has begins =
        first_is rule has
        (λ behind. (let both = pair ((activity_view a).number rule.node) behind in
        let same = both.only rule.node ((laws.within body).entries rule.node begins) refl in
        both.follow.no_entry (subst (λ (n : Node). Entry body n) same begins)))

    pub unregistered : (number : ℕ) → IsBehind a number → (registered a).flags number ≡ false
    unregistered number behind = by (list_any (asks_flag (activity_view a).number number) (first_rules a)) refl
      where
        by : (b : Bool) → list_any (asks_flag (activity_view a).number number) (first_rules a) ≡ b → b ≡ false
        by false is = refl
        by true is =
            let found = any_found (asks_flag (activity_view a).number number) (first_rules a) is in
            let same : number ≡ (activity_view a).number found.one.node =
            eqb-true number ((activity_view a).number found.one.node)
            (and_second (is_flagged found.one.condition) (nat_eq number ((activity_view a).number found.one.node)) found.on) in
            absurd (first_alone found.one found.there (subst (λ (n : ℕ). IsBehind a n) same behind))

    -- ---- nodes with others behind them

    once : (i j : ℕ) (n : Node) → slice_get nodes i ≡ Some n → slice_get nodes j ≡ Some n → i ≡ j
    once i j n one two =
        let k = number_there (length nodes) a.order permutes i (within_at nodes i n one) in
        let l = number_there (length nodes) a.order permutes j (within_at nodes j n two) in
        let same : k.0 ≡ l.0 = sym (number_of_node i k.0 n one k.1) ∙ number_of_node j l.0 n two l.1 in
        same_some i j (sym k.1 ∙ ap (λ (q : ℕ). slice_get a.order q) same ∙ l.1)

    differ : Differ nodes
    differ = all_differ nodes once

    pub straight : (rule : Transition) → Contains rs rule → IsBehind a (suc ((activity_view a).number rule.node)) →
        GoesStraight (activity_view a).number rule
    straight rule has behind =
        let both = pair (suc ((activity_view a).number rule.node)) behind in
        let own : rule.node ≡ both.first = both.only_first rule.node (rule_node rule has) refl in
        let follow : CouldFollow body rule.node both.second = subst (λ (n : Node). CouldFollow body n both.second) (sym own) both.follow in
        let going = going_at nodes (EdgeAll body) (OutAll body) Finishes rs rule (block_going a.slots body Finishes differ) has in
        let leads = going.edge follow.straight both.second follow.leads follow.no_join in
        record { goes = follow.straight; to = both.second; sets = by both.second follow leads; next = both.second_numbered }
      where
        by : (m : Node) → CouldFollow body rule.node m → Leads (EdgeAll body) rule m → rule.on_true ≡ SetsFlag m ∷ []
        by m follow (sole is) = is
        by m follow (split k edge join other) = none (follow.nowhere_else k edge)
          where
            none : (is_join k ≡ true) ⊎ (k ≡ m) → rule.on_true ≡ SetsFlag m ∷ []
            none (inl joins) = from_false (sym join ∙ joins)
            none (inr same) = absurd (other same)

-- ---- the activities of a program

-- the unit of an instance
unit_there : (w : Setting) (i : ℕ) (unit : UnitDef) (found : Option Instance) → option_and_then (unit_of w) found ≡ Some unit →
    slice_get w.units (unwrap_or (option_map (λ (instance : Instance). instance.unit) found) 0) ≡ Some unit
unit_there w i unit None is = absurd (cc)
unit_there w i unit (Some instance) is = is

module _ (laws : Laws) (orderly : AcceptedIsOrderly) (structs : List StructDef)
    (units : List UnitDef) (entry : ℕ) (machine : List InMachine) (activities : Activities)
  where
    abbrev w : Setting
    w = setting_of structs units entry

    module _ (i : ℕ) (unit : UnitDef) (compiled : CompilationContext structs units entry machine activities) (is : unit_at w i ≡ Some unit) where
      abbrev a : Activity
      a = activity_at w activities i

      abbrev k : ℕ
      k = unit_number w i

      there : slice_get units k ≡ Some unit
      there = unit_there w i unit (slice_get w.instances i) is

      activity : is_activity unit.kind ≡ true
      activity = ((orderly structs units entry compiled.well_typed compiled.passes).each i unit is).activity

      record Made : Type 0 where
        one : InMachine
        unit_is : a.unit ≡ unit
        order : a.order ≡ joined one.blocks
        blocks : a.blocks ≡ one.blocks
        slots : a.slots ≡ slots_of (plain_body unit.body) one.slots
        ordered : Ordered (plain_body unit.body) one.blocks

      made : Made
      made =
          let own = each_at IsActivityOf (activities_of units) machine (graph_position units k) unit compiled.agrees
          (filtered_at (λ it. is_activity it.kind) units k unit there activity) in
          let parts = compiled.built.made k unit there activity in
          let same : own.0 ≡ parts.one = same_some own.0 parts.one (sym own.1 ∙ parts.is) in
          record {
            one = parts.one;
            unit_is = compiled.built.unit k unit there;
            order = parts.order;
            blocks = parts.blocks;
            slots = parts.slots;
            ordered = subst (λ (one : InMachine). Ordered (plain_body unit.body) one.blocks) same own.2.order;
          }

      instance_rule : (rule : Transition) → HasRule (slots_by w activities) i unit rule → BlockAt a unit (rank_by w activities i rule.node) rule
      instance_rule rule has = of_rule laws a unit made.one made.unit_is made.order made.blocks made.slots made.ordered rule has

      instance_number : (number : ℕ) → number < length (joined (turns_in_blocks a)) → RuleAt w activities i unit number
      instance_number number below =
          let found = of_number laws a unit made.one made.unit_is made.order made.blocks made.slots made.ordered number below in
          record { rule = found.rule; there = found.there; numbered = found.numbered }

      instance_waits : (rule : Transition) → HasRule (slots_by w activities) i unit rule → IsBehind a (rank_by w activities i rule.node) →
          rule.condition ≡ Flagged
      instance_waits rule has behind = waits laws a unit made.one made.unit_is made.order made.blocks made.slots made.ordered rule has behind

      instance_before : (rule : Transition) (change : Change) (m : Node) → HasRule (slots_by w activities) i unit rule →
          Contains rule.on_true change ⊎ Contains rule.on_false change → MayFlag change m → IsBehind a (rank_by w activities i m) →
          rank_by w activities i m ≡ suc (rank_by w activities i rule.node)
      instance_before rule change m has among may behind =
          before laws a unit made.one made.unit_is made.order made.blocks made.slots made.ordered rule change m has among may behind

      instance_first : (rule : Transition) → HasRule (slots_by w activities) i unit rule → (IsBehind a (rank_by w activities i rule.node) → ⊥) →
          Contains (first_rules a) rule
      instance_first rule has alone = first_is laws a unit made.one made.unit_is made.order made.blocks made.slots made.ordered rule has alone

      instance_last : (rule : Transition) → HasRule (slots_by w activities) i unit rule → (IsBehind a (suc (rank_by w activities i rule.node)) → ⊥) →
          Contains (last_rules a) rule
      instance_last rule has alone = last_is laws a unit made.one made.unit_is made.order made.blocks made.slots made.ordered rule has alone

      instance_straight : (rule : Transition) → HasRule (slots_by w activities) i unit rule → IsBehind a (suc (rank_by w activities i rule.node)) →
          GoesStraight (rank_by w activities i) rule
      instance_straight rule has behind = straight laws a unit made.one made.unit_is made.order made.blocks made.slots made.ordered rule has behind

      instance_free : (number : ℕ) → IsBehind a number → (registered a).flags number ≡ false
      instance_free number behind = unregistered laws a unit made.one made.unit_is made.order made.blocks made.slots made.ordered number behind

      instance_begins : (number : ℕ) → IsBehind a number → (begun_registers (rank_by w activities) i unit).flags number ≡ false
      instance_begins number behind = begins laws a unit made.one made.unit_is made.order made.blocks made.slots made.ordered number behind

    pub blocks_placed : BlocksPlaced structs units entry machine activities
    blocks_placed = record {
      of_rule = λ i unit rule compiled is has. instance_rule i unit compiled is rule has;
      of_number = λ i unit number compiled is below. instance_number i unit compiled is number below;
      waits = λ i unit rule compiled is has behind. instance_waits i unit compiled is rule has behind;
      before = λ i unit rule change m compiled is has among may behind. instance_before i unit compiled is rule change m has among may behind;
      begins = λ i unit number compiled is behind. instance_begins i unit compiled is number behind;
      straight = λ i unit rule compiled is has behind. instance_straight i unit compiled is rule has behind;
      first = λ i unit rule compiled is has alone. instance_first i unit compiled is rule has alone;
      last = λ i unit rule compiled is has alone. instance_last i unit compiled is rule has alone;
      free = λ i unit number compiled is behind. instance_free i unit compiled is number behind;
    }
