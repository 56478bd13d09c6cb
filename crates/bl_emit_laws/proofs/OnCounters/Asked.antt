-- The `if`s of an activity's function ask for its flags, each for its own, and for that of the block before where this leaves it a call.
use Rattle.std.proofs.Common.{◌≡◌, ℕ, ◌<◌, Bool, true, false, List, [], ◌∷◌, ◌++◌, Contains, map, length}
use Rattle.std.proofs.Common.{Option, Some, None, refl, sym, ap, subst, ◌∙◌, arith}
use Rattle.std.proofs.lemmas.List.{map-append}
use Rattle.std.proofs.lemmas.List.Elements.{Contains-append_left, Contains-append_right, filter-append}
use Rattle.std.proofs.lemmas.List.Folds.{list_all-append}
use Rattle.std.specs.List.{list_all}
use Rattle.std.specs.Prelude.{filter, is_some, if◌then◌else◌}
use Rattle.std.proofs.lemmas.Bool.{and_from}
use Rattle.bl_tree.proofs.Basics.{and_first, and_second, contains_first, contains_further, some_within}
use Rattle.bl_tree.specs.declared.text.Text.{Text}
use Rattle.bl_tree.specs.declared.c.CExpr.{CExpr}
use Rattle.bl_tree.specs.declared.c.CStmt.{CStmt, out-roll-CStmt}
use Rattle.bl_tree.specs.declared.c.CStmtKind.{CStmtKind-F, out-CStmtKind, out-roll-CStmtKind}
use Rattle.bl_tree.specs.declared.c.CStmtKind.TheVariants as statement
use Rattle.bl_tree.specs.declared.scalar.Op.TheVariants.{Or}
use Rattle.bl_tree.specs.Reduce.{joined}
use Rattle.bl_graph_nodes.specs.Nodes.{ActAt, CheckAt, DepthEndAt, DepthJoinAt, EnterAt, ForkAt, HeadAt, Node, PauseAt, ResumeAt, StartAt, SurfaceEndAt}
use Rattle.bl_graph_nodes.specs.Nodes.{SurfaceJoinAt, TestAt}
use Rattle.bl_machine_pass.specs.Transitions.{Condition, Ended, Flagged, Rested, RestedIn, Transition}
use Rattle.bl_emit_acts.specs.Trees.{c_read, nowhere}
use Rattle.bl_emit_functions.specs.Trees.{c_if}
use Rattle.bl_emit_spec.specs.Activities.{blocks_code, first_positions, is_flagged, picked}
use Rattle.bl_emit_spec.specs.Blocks.{ActivityView, NodeCode, Begins, all_merged, entered_by, flag_asked, fused_code, guard_of, last_turn, leaving_flag}
use Rattle.bl_emit_spec.specs.Blocks.{merged_code}
use Rattle.bl_emit_spec.specs.Blocks.{next_turn, node_turn, node_word, run_part, same_run, turns_of}
use Rattle.bl_emit_spec.specs.Names.{flag_name, flag_place, with_word}
use Rattle.bl_emit_spec_laws.proofs.OnPlaced.Lists.{picked_first}
use Rattle.bl_emit_spec_laws_wellformed.proofs.OnNumbers.Firsts.{picked-all}
use Rattle.bl_emit_laws.specs.Counters.Flags.{decides, flags_asked, flags_in_turn, flags_read, goes_on_with, inside, is_flag_name, kind_block, kind_flags}
use Rattle.bl_emit_laws.specs.Counters.Flags.{leaves_call, own_many}
use Rattle.bl_ctext_places.specs.Places.{CPath, places_in}
use Rattle.bl_emit_laws.proofs.OnCounters.Decided.{fused_decides, turn_decides}
use Rattle.bl_emit_laws.proofs.OnCounters.Shapes.{two-names}
use Rattle.bl_emit_laws.proofs.OnCounters.Flags.{asked_by, flag_read, guard_reads}
use Rattle.bl_emit_spec_laws.proofs.OnPlaced.Placing.{turn_at}

-- ---- `if`s

asks_so : (test : CExpr) (block : List CStmt) → flags_asked (c_if test block None) ≡ flags_read test
asks_so test block =
    ap (λ s. kind_flags (out-CStmtKind s.what)) (out-roll-CStmt (record { place = nowhere; what = statement.If test block None }))
    ∙ (ap (λ k. kind_flags (out-CStmtKind k)) (sym (statement.rolls-If test block None))
    ∙ ap kind_flags (out-roll-CStmtKind (CStmtKind-F.If test block None)))

inside_so : (test : CExpr) (block : List CStmt) → inside (c_if test block None) ≡ block
inside_so test block =
    ap (λ s. kind_block (out-CStmtKind s.what)) (out-roll-CStmt (record { place = nowhere; what = statement.If test block None }))
    ∙ (ap (λ k. kind_block (out-CStmtKind k)) (sym (statement.rolls-If test block None))
    ∙ ap kind_block (out-roll-CStmtKind (CStmtKind-F.If test block None)))

-- ---- turns and rules

-- the flags that a block of nodes with these rules has of its own
abbrev pub own_by : ActivityView → List Transition → List Text
own_by view [] = []
own_by view (rule ∷ rest) = asked_by view rule

own_length : (view : ActivityView) (block : List Transition) → length (own_by view block) ≡ own_many block
own_length view [] = refl
own_length view (rule ∷ rest) = by (is_flagged rule.condition)
  where
    by : (b : Bool) → length (if b then flag_name (node_word view rule.node) ∷ [] else []) ≡ (if b then 1 else 0)
    by true = refl
    by false = refl

pub own_lengths : (view : ActivityView) (blocks : List (List Transition)) →
    map (λ (flags : List Text). length flags) (map (own_by view) blocks) ≡ map own_many blocks
own_lengths view [] = refl
own_lengths view (block ∷ rest) = λ i. own_length view block i ∷ own_lengths view rest i

-- two nodes have parts in one `run` where the second goes on with what the first begins
same_run_is : (n m : Node) → same_run (run_part n) (run_part m) ≡ goes_on_with n m
same_run_is (EnterAt l at arguments) m = begun m
  where
    begun : (m : Node) → same_run (Begins at) (run_part m) ≡ goes_on_with (EnterAt l at arguments) m
    begun (ActAt l s) = refl
    begun (TestAt l at e) = refl
    begun (CheckAt l at e) = refl
    begun (EnterAt l at arguments) = refl
    begun (ResumeAt l at arguments) = refl
    begun (PauseAt l at) = refl
    begun (HeadAt l at) = refl
    begun (StartAt l at) = refl
    begun (SurfaceEndAt l at) = refl
    begun (DepthEndAt l at) = refl
    begun (ForkAt l at) = refl
    begun (SurfaceJoinAt l at) = refl
    begun (DepthJoinAt l at) = refl
same_run_is (ActAt l s) m = refl
same_run_is (TestAt l at e) m = refl
same_run_is (CheckAt l at e) m = refl
same_run_is (ResumeAt l at arguments) m = refl
same_run_is (PauseAt l at) m = refl
same_run_is (HeadAt l at) m = refl
same_run_is (StartAt l at) m = refl
same_run_is (SurfaceEndAt l at) m = refl
same_run_is (DepthEndAt l at) m = refl
same_run_is (ForkAt l at) m = refl
same_run_is (SurfaceJoinAt l at) m = refl
same_run_is (DepthJoinAt l at) m = refl

-- the name of the flag with an optional number, where numbers have these words
abbrev name_of : (ℕ → Text) → Option ℕ → List Text
name_of word None = []
name_of word (Some k) = flag_name (with_word word k) ∷ []

module _ (view : ActivityView) where
  -- a turn is that of a rule, up to what its node does
  record IsTurn (turn : NodeCode) (rule : Transition) : Type 0 where
    pub test : turn.test ≡ guard_of view rule.node rule.condition
    pub flag : turn.flag ≡ flag_asked view rule.node rule.condition
    pub run : turn.run ≡ run_part rule.node

  abbrev AreTurns : List NodeCode → List Transition → Type 0
  AreTurns [] [] = Unit {0}
  AreTurns (turn ∷ turns) (rule ∷ rules) = IsTurn turn rule × AreTurns turns rules
  AreTurns _ _ = ⊥

  -- blocks, each with a node at least
  abbrev AreBlocks : List (List NodeCode) → List (List Transition) → Type 0
  AreBlocks [] [] = Unit {0}
  AreBlocks ((turn ∷ turns) ∷ blocks) ((rule ∷ rules) ∷ rest) = AreTurns (turn ∷ turns) (rule ∷ rules) × AreBlocks blocks rest
  AreBlocks _ _ = ⊥

  -- ---- what is left

  flag_of : (n : Node) (condition : Condition) →
      name_of view.word (flag_asked view n condition) ≡ (if is_flagged condition then flag_name (node_word view n) ∷ [] else [])
  flag_of n Flagged = refl
  flag_of n (Rested slot) = refl
  flag_of n (RestedIn slots) = refl
  flag_of n (Ended age needed) = refl

  -- the flags of the block before that the first of some blocks is left
  abbrev due : List Transition → List Text → List (List Transition) → List Text
  due before given [] = []
  due before given (block ∷ rest) = if leaves_call before block then given else []

  leaves_is : (turn : NodeCode) (rule : Transition) (turns : List NodeCode) (rules : List Transition) (next : NodeCode) (first : Transition)
      (rest : List Transition) → IsTurn turn rule → AreTurns turns rules → IsTurn next first →
      same_run (last_turn turn turns).run next.run ≡ leaves_call (rule ∷ rules) (first ∷ rest)
  leaves_is turn rule [] [] next first rest one all other =
      (λ i. same_run (one.run i) (other.run i)) ∙ same_run_is rule.node first.node
  leaves_is turn rule [] (r ∷ rules) next first rest one all other = absurd all
  leaves_is turn rule (t ∷ turns) [] next first rest one all other = absurd all
  leaves_is turn rule (t ∷ turns) (r ∷ rules) next first rest one all other = leaves_is t r turns rules next first rest all.0 all.1 other

  left_is : (turn : NodeCode) (rule : Transition) (turns : List NodeCode) (rules : List Transition) (blocks : List (List NodeCode))
      (rest : List (List Transition)) → IsTurn turn rule → AreTurns turns rules → AreBlocks blocks rest →
      name_of view.word (leaving_flag (turn ∷ turns) (next_turn blocks)) ≡ due (rule ∷ rules) (asked_by view rule) rest
  left_is turn rule turns rules [] [] one all more = refl
  left_is turn rule turns rules [] (r ∷ rest) one all more = absurd more
  left_is turn rule turns rules ([] ∷ blocks) rest one all more = absurd more
  left_is turn rule turns rules ((next ∷ others) ∷ blocks) [] one all more = absurd more
  left_is turn rule turns rules ((next ∷ others) ∷ blocks) ([] ∷ rest) one all more = absurd more
  left_is turn rule turns rules ((next ∷ others) ∷ blocks) ((first ∷ later) ∷ rest) one all more =
      ap (λ (b : Bool). name_of view.word (if b then turn.flag else None)) (leaves_is turn rule turns rules next first later one all more.0.0)
      ∙ by (leaves_call (rule ∷ rules) (first ∷ later))
    where
      by : (b : Bool) → name_of view.word (if b then turn.flag else None) ≡ (if b then asked_by view rule else [])
      by true = ap (name_of view.word) one.flag ∙ flag_of rule.node rule.condition
      by false = refl

  -- ---- what is asked

  entered_reads : (flag : Option ℕ) (test : CExpr) → flags_read (entered_by view.word flag test) ≡ name_of view.word flag ++ flags_read test
  entered_reads None test = refl
  entered_reads (Some k) test =
      let flag : CExpr = c_read (flag_place (with_word view.word k)) in
      ap (filter is_flag_name) (ap (map (λ (path : CPath). path.name)) (two-names Or flag test)
      ∙ map-append (λ (path : CPath). path.name) (places_in flag) (places_in test))
      ∙ filter-append is_flag_name (map (λ (path : CPath). path.name) (places_in flag)) (map (λ (path : CPath). path.name) (places_in test))
      ∙ ap (λ (names : List Text). names ++ flags_read test) (flag_read view (with_word view.word k))

  merged_asks : (flag : Option ℕ) (blocks : List (List NodeCode)) (before : List Transition) (given : List Text) (rest : List (List Transition)) →
      AreBlocks blocks rest → name_of view.word flag ≡ due before given rest →
      map flags_asked (all_merged view.word flag blocks) ≡ flags_in_turn before given rest (map (own_by view) rest)
  merged_asks flag [] before given [] all left = refl
  merged_asks flag [] before given (r ∷ rest) all left = absurd all
  merged_asks flag ([] ∷ blocks) before given rest all left = absurd all
  merged_asks flag ((turn ∷ turns) ∷ blocks) before given [] all left = absurd all
  merged_asks flag ((turn ∷ turns) ∷ blocks) before given ([] ∷ rest) all left = absurd all
  merged_asks flag ((turn ∷ turns) ∷ blocks) before given ((rule ∷ rules) ∷ rest) all left =
      let next : Option ℕ = leaving_flag (turn ∷ turns) (next_turn blocks) in
      let own : flags_read turn.test ≡ asked_by view rule = ap flags_read all.0.0.test ∙ guard_reads view rule.node rule.condition in
      let more = merged_asks next blocks (rule ∷ rules) (asked_by view rule) rest all.1 (left_is turn rule turns rules blocks rest all.0.0 all.0.1 all.1) in
      (λ i. (asks_so (entered_by view.word flag turn.test) (fused_code (is_some next) turn turns) ∙ entered_reads flag turn.test
      ∙ (λ j. left j ++ own j) ∙ by (leaves_call before (rule ∷ rules))) i
      ∷ more i)
    where
      by : (b : Bool) → (if b then given else []) ++ asked_by view rule ≡ (if b then given ++ asked_by view rule else asked_by view rule)
      by true = refl
      by false = refl

module _ (view : ActivityView) (callees : List ℕ) (rules : List Transition) (each : length callees ≡ length rules) where
  abbrev turns : List NodeCode
  turns = turns_of view callees rules

  -- what is picked at a position is the turn of what is picked of rules
  by_first : (P : List NodeCode → List Transition → Type 0) (k : ℕ) (more : List ℕ) → k < length rules →
      ((u : ℕ) (rule : Transition) → P (node_turn view u rule ∷ picked turns more) (rule ∷ picked rules more)) →
      P (picked turns (k ∷ more)) (picked rules (k ∷ more))
  by_first P k more less first =
      let many = each in
      let rule = some_within rules k less in
      let called = some_within callees k (omega (arith, less, many)) in
      let turn : NodeCode = node_turn view called.0 rule.0 in
      subst (λ (some : List NodeCode). P some (picked rules (k ∷ more)))
      (sym (picked_first turns k more turn (turn_at view callees rules k called.0 rule.0 called.1 rule.1)))
      (subst (P (turn ∷ picked turns more)) (sym (picked_first rules k more rule.0 rule.1)) (first called.0 rule.0))

  turn_is : (u : ℕ) (rule : Transition) → IsTurn view (node_turn view u rule) rule
  turn_is u rule = record { test = refl; flag = refl; run = refl }

  are_turns : (block : List ℕ) → ((k : ℕ) → Contains block k → k < length rules) → AreTurns view (picked turns block) (picked rules block)
  are_turns [] within = tt
  are_turns (k ∷ more) within =
      let rest = are_turns more (λ j at. within j (contains_further k more j at)) in
      by_first (AreTurns view) k more (within k (contains_first k more)) (λ u rule. (turn_is u rule, rest))

  are_blocks : (blocks : List (List ℕ)) → ((block : List ℕ) → Contains blocks block → 0 < length block) →
      ((k : ℕ) → Contains (joined blocks) k → k < length rules) → AreBlocks view (map (picked turns) blocks) (map (picked rules) blocks)
  are_blocks [] filled within = tt
  are_blocks ([] ∷ rest) filled within = absurd (let none : 0 < 0 = filled [] (contains_first [] rest) in omega (arith, none))
  are_blocks ((k ∷ more) ∷ rest) filled within =
      let others = are_turns more (λ j at. within j (Contains-append_left (k ∷ more) (joined rest) j (contains_further k more j at))) in
      let later = are_blocks rest (λ block at. filled block (contains_further (k ∷ more) rest block at))
      (λ j at. within j (Contains-append_right (k ∷ more) (joined rest) j at)) in
      by_first (λ some these. AreBlocks view (some ∷ map (picked turns) rest) (these ∷ map (picked rules) rest)) k more
      (within k (contains_first k (more ++ joined rest))) (λ u rule. ((turn_is u rule, others), later))

  -- the `if`s of blocks ask for the flags of first nodes, each for its own, and for that of the block before where that leaves it a call
  pub blocks_ask : (blocks : List (List ℕ)) → ((block : List ℕ) → Contains blocks block → 0 < length block) →
      ((k : ℕ) → Contains (joined blocks) k → k < length rules) →
      map flags_asked (blocks_code view.word turns blocks)
      ≡ flags_in_turn [] [] (map (picked rules) blocks) (map (own_by view) (map (picked rules) blocks))
  blocks_ask blocks filled within =
      merged_asks view None (map (picked turns) blocks) [] [] (map (picked rules) blocks) (are_blocks blocks filled within) (none_due blocks)
    where
      none_due : (blocks : List (List ℕ)) → [] ≡ due view [] [] (map (picked rules) blocks)
      none_due [] = refl
      none_due (block ∷ rest) = refl

  -- the flags of all blocks are those of their first nodes
  pub own_are : (blocks : List (List ℕ)) → ((k : ℕ) → Contains (joined blocks) k → k < length rules) →
      joined (map (own_by view) (map (picked rules) blocks)) ≡ joined (map (asked_by view) (picked rules (first_positions blocks)))
  own_are [] within = refl
  own_are ([] ∷ rest) within = own_are rest within
  own_are ((k ∷ block) ∷ rest) within =
      let rule = some_within rules k (within k (contains_first k (block ++ joined rest))) in
      (λ i. own_by view (picked_first rules k block rule.0 rule.1 i)
      ++ own_are rest (λ j there. within j (Contains-append_right (k ∷ block) (joined rest) j there)) i)
      ∙ sym (ap (λ (some : List Transition). joined (map (asked_by view) some)) (picked_first rules k (first_positions rest) rule.0 rule.1))

-- what stands in the `if`s of blocks decides
merged_decide : (word : ℕ → Text) (all : List NodeCode) (flag : Option ℕ) (blocks : List (List ℕ)) → list_all turn_decides all ≡ true →
    list_all decides (joined (map inside (all_merged word flag (map (picked all) blocks)))) ≡ true
merged_decide word all flag [] own = refl
merged_decide word all flag (block ∷ rest) own =
    let left : Option ℕ = leaving_flag (picked all block) (next_turn (map (picked all) rest)) in
    by (picked all block) (is_some left) (all_merged word left (map (picked all) rest)) (picked-all turn_decides all block own)
    (merged_decide word all left rest own)
  where
    by : (some : List NodeCode) (leaves : Bool) (later : List CStmt) → list_all turn_decides some ≡ true →
        list_all decides (joined (map inside later)) ≡ true →
        list_all decides (joined (map inside (merged_code word flag leaves some ++ later))) ≡ true
    by [] leaves later own more = more
    by (first ∷ others) leaves later own more =
        ap (λ (code : List CStmt). list_all decides (code ++ joined (map inside later)))
        (inside_so (entered_by word flag first.test) (fused_code leaves first others))
        ∙ (list_all-append decides (fused_code leaves first others) (joined (map inside later))
        ∙ and_from (list_all decides (fused_code leaves first others)) (list_all decides (joined (map inside later)))
        (fused_decides leaves first others (and_first (turn_decides first) (list_all turn_decides others) own)
        (and_second (turn_decides first) (list_all turn_decides others) own)) more)

pub blocks_decide : (word : ℕ → Text) (all : List NodeCode) (blocks : List (List ℕ)) → list_all turn_decides all ≡ true →
    list_all decides (joined (map inside (blocks_code word all blocks))) ≡ true
blocks_decide word all = merged_decide word all None
