-- What turns lead to, node by node in the order of their numbers.
use Rattle.std.proofs.Common.{◌≡◌, ℕ, zero, suc, ◌+◌, ◌<◌, ◌≤◌, Bool, true, false, List, [], ◌∷◌, ◌∙◌, None, refl, sym, subst, map, arith}
use Rattle.std.specs.Prelude.{Contains}
use Rattle.std.proofs.lemmas.Bool.{false_from_ne_true}
use Rattle.bl_tree.proofs.Basics.{contains_first, contains_further}
use Rattle.bl_tree.specs.declared.tree.Unit.{Unit as UnitDef}
use Rattle.bl_tree.specs.declared.value.Value.{Value}
use Rattle.bl_graph_nodes.specs.Nodes.{Node, nodes_in}
use Rattle.bl_graph_nodes.specs.Plain.{Block, plain_body}
use Rattle.bl_graph.specs.Laws.{StaysWithin}
use Rattle.bl_ctree.specs.Instances.{Setting}
use Rattle.bl_ctree.specs.Store.{Store}
use Rattle.bl_ctree_laws.specs.Trees.{Tree}
use Rattle.bl_machine.specs.Uses.{Slots}
use Rattle.bl_machine_laws.specs.Numbers.Steps.{TurnsWait}
use Rattle.bl_machine_laws.specs.Numbers.Waiting.{Waits}
use Rattle.bl_machine_laws.specs.Waiting.Laws.{SettledIsQuiet, WaitsInPart}
use Rattle.bl_machine_laws.specs.Passes.Follows as follows
use Rattle.bl_machine_laws.specs.Passes.Follows.{Fails, First, Follows}
use Rattle.bl_machine_pass.specs.Registers.{Registers, after_rule, is_due}
use Rattle.bl_machine_pass.specs.Transitions.{Transition, rules}
use Rattle.bl_machine_pass_laws.specs.Turns.Holds.{CountersLinger}
use Rattle.bl_machine_pass_laws.specs.Turns.Invariant.{PassInvariant}
use Rattle.bl_machine_pass_laws.specs.Turns.Laws.{StaysPlaced, answer_of}
use Rattle.bl_machine_pass_laws_turns.specs.Turns.{DueWaits, FitsBody, NumbersPass, TreesFitBodies, TurnContext, TurnsKeepInvariant}
use Rattle.bl_machine_pass_laws_execution.specs.Frames.{Frames}
use Rattle.bl_machine_pass_laws_execution.specs.Fresh.Fresh.{locals}
use Rattle.bl_machine_pass_laws_execution.specs.Fresh.Laws.{TreesAsk}
use Rattle.bl_machine_pass_laws_execution.specs.Fresh.Senses.{Senses}
use Rattle.bl_machine_pass_laws_execution.specs.Executes as executes
use Rattle.bl_machine_pass_laws_execution.specs.Executes.{BeginsAlone, CopiesMatch, Executes, HasRule, NodeTraps, PassTraps, Performs, recopied}
use Rattle.bl_machine_pass_laws_execution.specs.Passes.Laws.{Executed, PassesExecute, TurnsPerform}
use Rattle.bl_machine_pass_laws_execution.specs.Passes.Standing.{Standing}
use Rattle.bl_machine_pass_laws_execution.proofs.OnPasses.Beginning.{never_both}
use Rattle.bl_machine_laws.proofs.OnPasses.Passing.{within_body}

-- ---- rules of nodes

record OfNode (all : List Transition) (n : Node) : Type 0 where
  rule : Transition
  there : Contains all rule
  of_node : rule.node ≡ n

-- a node has a rule where the rules have all nodes
rule_of : (all : List Transition) (n : Node) → Contains (map (λ (rule : Transition). rule.node) all) n → OfNode all n
rule_of [] n there = let below = there.1 in absurd (omega arith)
rule_of (rule ∷ all) n (zero, within, is) = record { rule = rule; there = contains_first rule all; of_node = is }
rule_of (rule ∷ all) n (suc k, within, is) =
    let rest = rule_of all n (k, omega arith, is) in
    record { rule = rest.rule; there = contains_further rule all rest.rule rest.there; of_node = rest.of_node }

-- a number beyond those of all rules
abbrev top : (Node → ℕ) → List Transition → ℕ
top number [] = 0
top number (rule ∷ all) = suc (number rule.node) + top number all

below_top : (number : Node → ℕ) (all : List Transition) (rule : Transition) → Contains all rule → number rule.node < top number all
below_top number [] rule there = let below = there.1 in absurd (omega arith)
below_top number (first ∷ all) rule (zero, within, is) =
    subst (λ (x : Transition). number x.node < suc (number first.node) + top number all) is (omega arith)
below_top number (first ∷ all) rule (suc k, within, is) = let rest = below_top number all rule (k, omega arith, is) in omega (arith, rest)

-- ---- one instance

module _ (within : (body : Block) → StaysWithin body) (waiting : TurnsWait) (quiet : SettledIsQuiet) (in_part : WaitsInPart) (placed : StaysPlaced)
    (due : DueWaits) (pass : NumbersPass) (trees : TreesFitBodies) (keep : TurnsKeepInvariant) (ask : TreesAsk)
    (linger : CountersLinger) (w : Setting) (rank : ℕ → Node → ℕ)
    (slots : ℕ → Slots) (clear : ℕ → Frames → Frames) (i : ℕ) (unit : UnitDef) (stood : Bool) (given : TurnContext w rank i (slots i) unit)
    (perform : TurnsPerform w rank slots clear i unit stood) where
  abbrev B : Block
  B = plain_body unit.body

  abbrev NoneDue : ℕ → ℕ → Registers → Type 0
  NoneDue k t r = (rule : Transition) → HasRule slots i unit rule → k ≤ rank i rule.node → rank i rule.node < t → is_due (rank i) rule r ≡ false

  -- nodes that aren't due are skipped
  skip_to : (m k t : ℕ) → m + k ≡ t → (frames : Frames) (store : Store) (copies : List Value) (r : Registers) (frames' : Frames)
      (left : Store)
      (r' : Registers) → NoneDue k t r → Executes w rank slots clear i t frames store copies r frames' left r' →
      Executes w rank slots clear i k frames store copies r frames' left r'
  skip_to zero k t is frames store copies r frames' left r' none more =
      let back : t ≡ k = omega (arith, is) in subst (λ x. Executes w rank slots clear i x frames store copies r frames' left r') back more
  skip_to (suc m) k t is frames store copies r frames' left r' none more =
      executes.skips given.is (λ rule there at. none rule there (omega (arith, at)) (omega (arith, at, is)))
      (skip_to m (suc k) t (omega (arith, is)) frames store copies r frames' left r' (λ rule there least. none rule there (omega (arith, least)))
      more)

  skip_on : (m k t : ℕ) → m + k ≡ t → (frames : Frames) (store : Store) (copies : List Value) (r : Registers) → NoneDue k t r →
      PassTraps w rank slots clear i t frames store copies r → PassTraps w rank slots clear i k frames store copies r
  skip_on zero k t is frames store copies r none more =
      let back : t ≡ k = omega (arith, is) in subst (λ x. PassTraps w rank slots clear i x frames store copies r) back more
  skip_on (suc m) k t is frames store copies r none more =
      executes.skips_on given.is (λ rule there at. none rule there (omega (arith, at)) (omega (arith, at, is)))
      (skip_on m (suc k) t (omega (arith, is)) frames store copies r (λ rule there least. none rule there (omega (arith, least))) more)

  -- from one number to another that isn't less
  record Between (k t : ℕ) : Type 0 where
    steps : ℕ
    are : steps + k ≡ t

  between : (k t : ℕ) → k ≤ t → Between k t
  between zero t le = record { steps = t; are = omega arith }
  between (suc k) zero le = absurd (omega (arith, le))
  between (suc k) (suc t) le = let rest = between k t (omega (arith, le)) in
      let are = rest.are in record { steps = rest.steps; are = omega (arith, are) }

  -- nothing is due before the first node that waits
  none_before : (frames : Frames) (k : ℕ) (c : Tree) (n : Node) (r : Registers) → Standing w slots i unit stood frames c →
      FitsBody (slots i) B c →
      PassInvariant (slots i) (rank i) B k c r → First rank i c n → NoneDue k (rank i n) r
  none_before frames k c n r standing stands keeps first rule there least below =
      false_from_ne_true (is_due (rank i) rule r)
      (λ is. (let le = first rule.node ((due w rank i (slots i) unit stood k c rule r given standing.lives stands there keeps least).0 is) in
      absurd (omega (arith, le, below))))

  record Turn (k : ℕ) (c : Tree) (n : Node) (r : Registers) : Type 0 where
    rule : Transition
    there : HasRule slots i unit rule
    of_node : rule.node ≡ n
    due_now : is_due (rank i) rule r ≡ true
    pass_invariant : PassInvariant (slots i) (rank i) B (rank i n) c r

  -- and it is due itself
  turn_at : (frames : Frames) (k : ℕ) (c : Tree) (n : Node) (r : Registers) → Standing w slots i unit stood frames c → FitsBody (slots i) B c →
      PassInvariant (slots i) (rank i) B k c r → k ≤ rank i n → First rank i c n → Waits c None n → Turn k c n r
  turn_at frames k c n r standing stands keeps least first waits =
      let in_body : Contains (nodes_in B) n = within_body within B stood n (in_part w i stood B c n standing.lives waits) in
      let own = rule_of (rules (slots i) B) n (subst (λ xs. Contains xs n) (sym (placed.nodes (slots i) B)) in_body) in
      let now = pass rank i (slots i) B k c n r least first keeps in
      let le : rank i n ≤ rank i own.rule.node = subst (λ x. rank i n ≤ rank i x) (sym own.of_node) (omega arith) in record {
        rule = own.rule;
        there = own.there;
        of_node = own.of_node;
        due_now = (due w rank i (slots i) unit stood (rank i n) c own.rule r given standing.lives stands own.there now le).1
            (subst (λ x. Waits c None x) (sym own.of_node) waits);
        pass_invariant = now;
      }

  -- where something waits at the node, a `run` that begins there isn't one that goes on later in the pass
  alone_at : (frames : Frames) (k : ℕ) (c : Tree) (n : Node) (r : Registers) → Standing w slots i unit stood frames c → FitsBody (slots i) B c →
      Waits c None n → (turn : Turn k c n r) → BeginsAlone rank slots i unit turn.rule r
  alone_at frames k c n r standing stands waits turn = λ other has same later.
      false_from_ne_true (is_due (rank i) other r)
      (λ is. never_both c turn.rule.node other.node standing.apart same (subst (λ x. Waits c None x) (sym turn.of_node) waits)
      ((due w rank i (slots i) unit stood (rank i n) c other r given standing.lives stands has turn.pass_invariant
      (let at : rank i turn.rule.node ≡ rank i n = subst (λ x. rank i turn.rule.node ≡ rank i x) turn.of_node refl in omega (arith, at, later))).0 is))

  rank_is : (n : Node) (rule : Transition) → rule.node ≡ n → rank i rule.node ≡ rank i n
  rank_is n rule is = subst (λ x. rank i rule.node ≡ rank i x) is refl

  pub execute : {k : ℕ} {c : Tree} {store : Store} {c' : Tree} {left : Store} → Follows w rank i k c store c' left → (frames : Frames)
      (known : List ℕ) (copies : List Value) (r : Registers) → FitsBody (slots i) B c → PassInvariant (slots i) (rank i) B k c r →
      Standing w slots i unit stood frames c → Senses w i unit known store copies c →
      Executed w rank slots clear i k unit stood frames store copies r c' left
  execute {k} {c} {store} (follows.rests settled) frames known copies r stands keeps standing senses = record {
    inner = frames;
    registers = r;
    executes = skip_to (top (rank i) (rules (slots i) B)) k (top (rank i) (rules (slots i) B) + k) refl frames store copies r frames store r
        (λ rule there least below. false_from_ne_true (is_due (rank i) rule r)
        (λ is. quiet w i stood B c rule.node standing.lives settled
        ((due w rank i (slots i) unit stood k c rule r given standing.lives stands there keeps least).0 is)))
        (executes.ends given.is (λ rule there. (let lt = below_top (rank i) (rules (slots i) B) rule there in omega (arith, lt))));
    counters = λ unended. linger.settled w i (slots i) stood B r.counters c standing.lives settled unended keeps.counters;
    over = keeps.over;
    change = λ k outside j. refl;
    stands = stands;
    standing = standing;
    asks = ask.more w i unit known (locals unit) c senses.behind senses.asks;
    framed = senses.framed;
    leaves = record { apart = λ j outside unhomed. refl; before = λ j outside. refl };
  }
  execute {k} {c} {store} {left = left}
      (follows.goes {n = n} {c' = after} {between = store'} {c'' = end} least first takes more) frames known copies r
      stands keeps standing senses =
      let one = perform.takes frames c store known copies n after store' standing senses takes in
      let waits = waiting w rank i c one.done n after None one.turn in
      let own = turn_at frames k c n r standing stands keeps least first waits in
      let now = keep w rank i
      (slots i) unit stood c one.done n after own.rule r one.turn given standing.lives stands own.there own.of_node own.pass_invariant in
      let still = trees.turns w rank i (slots i) unit c one.done n after given.laid one.turn stands in
      let sensed : Senses w i unit one.known store' (recopied w i own.rule.node store' copies) after =
      subst (λ x. Senses w i unit one.known store' (recopied w i x store' copies) after) (sym own.of_node) one.senses in
      let rest = execute more one.inner one.known (recopied w i own.rule.node store' copies)
      (after_rule (rank i) own.rule (answer_of one.turn) r) still
      now one.standing sensed in
      let way = between k (rank i n) least in
      let sees : CopiesMatch w i own.rule.node store copies = subst (λ x. CopiesMatch w i x store copies) (sym own.of_node) one.sees in
      let performs : Performs w rank slots clear i own.rule.node frames store (answer_of one.turn) one.inner store' =
      subst (λ x. Performs w rank slots clear i x frames store (answer_of one.turn) one.inner store') (sym own.of_node) one.performs in record {
        inner = rest.inner;
        registers = rest.registers;
        executes = skip_to way.steps k (rank i n) way.are frames store copies r rest.inner left rest.registers
            (none_before frames k c n r standing stands keeps first)
            (executes.acts given.is own.rule own.there (rank_is n own.rule own.of_node) own.due_now
            (alone_at frames k c n r standing stands waits own) sees performs rest.executes);
        counters = rest.counters;
        over = rest.over;
        change = λ k outside j. rest.change k outside j ∙ one.change k outside j;
        stands = rest.stands;
        standing = rest.standing;
        asks = rest.asks;
        framed = rest.framed;
        leaves = record {
          apart = λ j outside unhomed. rest.leaves.apart j outside unhomed ∙ one.leaves.apart j outside unhomed;
          before = λ j outside. rest.leaves.before j outside ∙ one.leaves.before j outside;
        };
      }

  pub cut : {k : ℕ} {c : Tree} {store : Store} → Fails w rank i k c store → (frames : Frames) (known : List ℕ) (copies : List Value)
      (r : Registers) → FitsBody (slots i) B c → PassInvariant (slots i) (rank i) B k c r → Standing w slots i unit stood frames c →
      Senses w i unit known store copies c → PassTraps w rank slots clear i k frames store copies r
  cut {k} {c} {store} (follows.breaks {n = n} least first breaks) frames known copies r stands keeps standing senses =
      let one = perform.breaks frames c store known copies n standing senses breaks in
      let own = turn_at frames k c n r standing stands keeps least first one.0 in
      let way = between k (rank i n) least in
      skip_on way.steps k (rank i n) way.are frames store copies r (none_before frames k c n r standing stands keeps first)
      (executes.traps given.is own.rule own.there (rank_is n own.rule own.of_node) own.due_now
      (subst (λ x. CopiesMatch w i x store copies) (sym own.of_node) one.1.0)
      (subst (λ x. NodeTraps w rank slots clear i x frames store) (sym own.of_node) one.1.1))
  cut {k} {c} {store} (follows.goes_on {n = n} {c' = after} {between = store'} least first takes more) frames known copies r stands keeps standing
      senses =
      let one = perform.takes frames c store known copies n after store' standing senses takes in
      let waits = waiting w rank i c one.done n after None one.turn in
      let own = turn_at frames k c n r standing stands keeps least first waits in
      let now = keep w rank i
      (slots i) unit stood c one.done n after own.rule r one.turn given standing.lives stands own.there own.of_node own.pass_invariant in
      let still = trees.turns w rank i (slots i) unit c one.done n after given.laid one.turn stands in
      let sensed : Senses w i unit one.known store' (recopied w i own.rule.node store' copies) after =
      subst (λ x. Senses w i unit one.known store' (recopied w i x store' copies) after) (sym own.of_node) one.senses in
      let way = between k (rank i n) least in
      let performs : Performs w rank slots clear i own.rule.node frames store (answer_of one.turn) one.inner store' =
      subst (λ x. Performs w rank slots clear i x frames store (answer_of one.turn) one.inner store') (sym own.of_node) one.performs in
      skip_on way.steps k (rank i n) way.are frames store copies r (none_before frames k c n r standing stands keeps first)
      (executes.goes_on given.is own.rule own.there (rank_is n own.rule own.of_node) own.due_now (alone_at frames k c n r standing stands waits own)
      (subst (λ x. CopiesMatch w i x store copies) (sym own.of_node) one.sees) performs
      (cut more one.inner one.known (recopied w i own.rule.node store' copies) (after_rule (rank i) own.rule (answer_of one.turn) r) still now
      one.standing sensed))

pub passes_execute : ((body : Block) → StaysWithin body) → TurnsWait → SettledIsQuiet → WaitsInPart → StaysPlaced → DueWaits →
    NumbersPass →
    TreesFitBodies → TurnsKeepInvariant → TreesAsk → CountersLinger → PassesExecute
passes_execute within waiting quiet in_part placed due pass trees keep ask linger = record {
  follows = λ w rank slots clear i unit stood k frames c store known copies r c' left given perform way stands keeps standing senses.
      execute within waiting quiet in_part placed due pass trees keep ask linger w rank slots clear i unit stood given perform way frames known copies r
      stands keeps standing senses;
  fails = λ w rank slots clear i unit stood k frames c store known copies r given perform way stands keeps standing senses.
      cut within waiting quiet in_part placed due pass trees keep ask linger w rank slots clear i unit stood given perform way frames known copies r
      stands keeps standing senses;
}
