-- The C of the blocks of a pass: one `if` for each block, with what its nodes do, and what changes behind the last of them.
use Rattle.std.specs.Prelude.{ℕ, zero, suc, pos, Bool, true, false, List, [], ◌∷◌, ◌++◌, map, Option, Some, None, if◌then◌else◌}
use Rattle.std.specs.Prelude.{not, length, is_some, nat_eq, nat_le, slice_get, unwrap_or}
use Rattle.bl_tree.specs.declared.text.Text.{Text}
use Rattle.bl_tree.specs.declared.c.CArg.{CArg}
use Rattle.bl_tree.specs.declared.c.CArg.TheVariants.{Address}
use Rattle.bl_tree.specs.declared.c.CExpr.{CExpr, out-CExpr}
use Rattle.bl_tree.specs.declared.c.CExprKind.{CExprKind-F, out-CExprKind}
use Rattle.bl_tree.specs.declared.c.CStmt.{CStmt}
use Rattle.bl_tree.specs.declared.scalar.Op.{Op}
use Rattle.bl_tree.specs.declared.scalar.Op.TheVariants.{And, Eq, Ge, Le, Ne, Or}
use Rattle.bl_tree.specs.declared.scalar.Scalar.{Scalar}
use Rattle.bl_tree.specs.declared.scalar.Scalar.TheVariants.{Bool as OfBool, Nat}
use Rattle.bl_tree.specs.declared.scalar.Width.TheVariants.{W8, W16, W32}
use Rattle.bl_tree.specs.declared.place.Place.{Place}
use Rattle.bl_tree.specs.declared.tree.Path.{Path}
use Rattle.bl_tree.specs.declared.tree.Stmt.{Stmt, out-Stmt}
use Rattle.bl_tree.specs.declared.tree.StmtKind.{out-StmtKind}
use Rattle.bl_tree.specs.declared.tree.StmtKind.TheOpen.{StmtKind-F}
use Rattle.bl_tree.specs.declared.tree.Unit.{Unit as UnitDef}
use Rattle.bl_tree.specs.Numbers.{is_one}
use Rattle.bl_tree.specs.Returns.{last_of}
use Rattle.bl_tree.specs.Rules.{same_place}
use Rattle.bl_tree.specs.Typing.{TypingContext}
use Rattle.bl_graph_nodes.specs.Nodes.{ActAt, Arguments, CheckAt, EnterAt, Node, ResumeAt, TestAt}
use Rattle.bl_machine.specs.declared.slots.Slot.{Slot}
use Rattle.bl_emit_acts.specs.Acts.{act_code, c_calling, c_clear, c_set, call_args, code_made, name_of_callee}
use Rattle.bl_emit_acts.specs.Expressions.{hidden, stands}
use Rattle.bl_emit_acts.specs.Trees.{c_call, c_literal, c_not, c_read, c_two}
use Rattle.bl_emit_functions.specs.Statements.{else_code}
use Rattle.bl_emit_functions.specs.Trees.{c_if, c_truth}
use Rattle.bl_machine_pass.specs.Transitions.{Age, Change, Condition, Needed, Transition}
use Rattle.bl_machine_pass.specs.Transitions.{ClearsBoth, ClearsCounter, Ended, EndsWhen, Finishes, Flagged, IsAny, IsNew, IsOld, Rested, RestedIn}
use Rattle.bl_machine_pass.specs.Transitions.{SetsCounter, SetsFlag, SetsMark}
use Rattle.bl_emit_spec.specs.Names.{NumberedWord, callee_frame, callee_memory, counter_place, ended_place, flag_place, frame_name, given_place}
use Rattle.bl_emit_spec.specs.Names.{mark_place, over_place, rested_place, result_place, with_word}

-- ---- numbers of counters

-- the narrowest unsigned type for a counter of so many values beside 0
abbrev pub type_for : ℕ → Scalar
type_for n = if nat_le n 255 then Nat W8 else if nat_le n 65535 then Nat W16 else Nat W32

-- how many values each counter has, in the order of counters
abbrev pub Sizes : Type 0
Sizes = List ℕ

-- the type of a counter
abbrev pub counter_type : Sizes → ℕ → Scalar
counter_type sizes k = type_for (unwrap_or (slice_get sizes k) 0)

-- a value of a counter
abbrev pub counter_value : Sizes → ℕ → ℕ → CExpr
counter_value sizes k v = c_literal (counter_type sizes k) (pos v)

-- ---- what the C of a block needs to know

-- the view that blocks have of their activity
pub record ActivityView : Type 0 where
  -- the activity's variables, and the units before it
  pub site : TypingContext
  -- which of the variables have a copy of their values at the start of the tick
  pub copies : List Bool
  -- the numbers of the activity's nodes in C names
  pub number : Node → ℕ
  -- the words of these numbers in C names
  pub word : ℕ → Text
  -- the numbers of its `run`s in C names, by their places
  pub run : Place → ℕ
  -- how many values each counter has
  pub sizes : Sizes
  -- whether a counter has a copy of its value at the start of the tick
  pub is_read : ℕ → Bool
  -- whether a unit before it, an activity, remembers variables
  pub remembers : ℕ → Bool

-- the number and word in the C names of a node's flag and mark
abbrev pub node_word : ActivityView → Node → NumberedWord
node_word view n = with_word view.word (view.number n)

-- ---- guards

-- the answers of many tests, two by two
abbrev pub in_pairs : Op → List CExpr → List CExpr
in_pairs op [] = []
in_pairs op (a ∷ []) = a ∷ []
in_pairs op (a ∷ b ∷ rest) = c_two op a b ∷ in_pairs op rest

-- many tests as one, in a tree whose depth grows logarithmically, with at most so many rounds of pairing. Without tests it is the first argument
abbrev pub in_tree : CExpr → Op → ℕ → List CExpr → CExpr
in_tree none op fuel [] = none
in_tree none op fuel (a ∷ []) = a
in_tree none op zero (a ∷ b ∷ rest) = a
in_tree none op (suc fuel) (a ∷ b ∷ rest) = in_tree none op fuel (in_pairs op (a ∷ b ∷ rest))

-- all of the tests, or some one
abbrev pub all_tests : List CExpr → CExpr
all_tests tests = in_tree (c_truth true) And (length tests) tests

abbrev pub some_test : List CExpr → CExpr
some_test tests = in_tree (c_truth false) Or (length tests) tests

-- whether the instance is at the number
abbrev pub at_slot : ActivityView → Slot → CExpr
at_slot view slot = c_two Eq (c_read (counter_place slot.counter)) (counter_value view.sizes slot.counter slot.value)

-- the greatest value that a counter can hold, which is how many values it has beside 0
abbrev pub greatest_value : Sizes → ℕ → ℕ
greatest_value sizes k = unwrap_or (slice_get sizes k) 0

-- whether the counter can hold no value above this one
abbrev pub is_greatest : Sizes → ℕ → ℕ → Bool
is_greatest sizes k v = nat_le (greatest_value sizes k) v

-- whether what the counter held when the tick began isn't 0, where the test is true, and else whether it was the value or one above it
abbrev pub rested_from : ActivityView → ℕ → ℕ → Bool → CExpr
rested_from view k least true = c_two Ne (c_read (rested_place k)) (counter_value view.sizes k 0)
rested_from view k least false = c_two Ge (c_read (rested_place k)) (counter_value view.sizes k least)

-- whether the counter held the value or one above it when the tick began. Of the value 1 it is asked whether the counter didn't hold 0
abbrev pub rested_since : ActivityView → ℕ → ℕ → CExpr
rested_since view k least = rested_from view k least (nat_eq least 1)

-- whether the counter held the value of the slot or one above it, where the test is true, and else whether it held just the value
abbrev pub rested_by : ActivityView → Slot → Bool → CExpr
rested_by view slot true = rested_since view slot.counter slot.value
rested_by view slot false = c_two Eq (c_read (rested_place slot.counter)) (counter_value view.sizes slot.counter slot.value)

-- the test whether the instance rested at the number when the tick began. At the greatest value of a counter it leaves no greater one out: C compilers see
-- then that no further case exists
abbrev pub rested_at : ActivityView → Slot → CExpr
rested_at view slot = rested_by view slot (is_greatest view.sizes slot.counter slot.value)

-- whether the counter held one of the values from the first to the last. The last one is hidden: compilers join two comparisons with constants into one,
-- and see then no more which values are left
abbrev pub rested_between : ActivityView → ℕ → ℕ → ℕ → CExpr
rested_between view k least greatest =
    c_two And (c_two Ge (c_read (rested_place k)) (counter_value view.sizes k least))
    (c_two Le (c_read (rested_place k)) (hidden (counter_type view.sizes k) (counter_value view.sizes k greatest)))

-- whether the counter held the least value or one above it, where the test is true, and else whether it held one from the least to the greatest
abbrev pub rested_to : ActivityView → ℕ → ℕ → ℕ → Bool → CExpr
rested_to view k least greatest true = rested_since view k least
rested_to view k least greatest false = rested_between view k least greatest

-- whether the counter held one of the values from the least to the greatest. Where it can hold none above the greatest, one comparison asks for this
abbrev pub rested_within : ActivityView → ℕ → ℕ → ℕ → CExpr
rested_within view k least greatest = rested_to view k least greatest (is_greatest view.sizes k greatest)

-- the last of some values
abbrev pub last_value : ℕ → List Slot → ℕ
last_value v [] = v
last_value v (slot ∷ rest) = last_value slot.value rest

-- the test whether the instance rested at one of the numbers, which have one counter and consecutive values
abbrev pub rested_in : ActivityView → List Slot → CExpr
rested_in view [] = c_truth false
rested_in view (slot ∷ []) = rested_at view slot
rested_in view (slot ∷ more ∷ rest) = rested_within view slot.counter slot.value (last_value more.value rest)

-- whether as many branches have ended as are needed
abbrev pub ends_test : ActivityView → Needed → CExpr
ends_test view needed =
    if needed.all then all_tests (map (at_slot view) needed.slots) else some_test (map (at_slot view) needed.slots)

-- the test whether enough branches of a `cobegin` of that age have ended
abbrev pub aged_test : ActivityView → Age → CExpr → CExpr
aged_test view (IsNew n) ends = c_two And (c_read (mark_place (node_word view n))) ends
aged_test view (IsOld n) ends = c_two And (c_not (c_read (mark_place (node_word view n)))) ends
aged_test view IsAny ends = ends

-- what is asked before the node acts
abbrev pub guard_of : ActivityView → Node → Condition → CExpr
guard_of view n Flagged = c_read (flag_place (node_word view n))
guard_of view n (Rested slot) = rested_at view slot
guard_of view n (RestedIn slots) = rested_in view slots
guard_of view n (Ended age needed) = aged_test view age (ends_test view needed)

-- ---- changes

-- a counter gets 0
abbrev pub freed : ActivityView → ℕ → CStmt
freed view k = c_set (counter_place k) (counter_value view.sizes k 0)

-- a counter and its copy, where it has one, get 0
abbrev pub forgotten : ActivityView → ℕ → Bool → List CStmt
forgotten view k true = freed view k ∷ c_set (rested_place k) (counter_value view.sizes k 0) ∷ []
forgotten view k false = freed view k ∷ []

-- a flag or a mark is set
abbrev pub flagged_now : ActivityView → Node → CStmt
flagged_now view n = c_set (flag_place (node_word view n)) (c_truth true)

-- the C of a change
abbrev pub change_code : ActivityView → Change → List CStmt
change_code view (SetsFlag n) = flagged_now view n ∷ []
change_code view (SetsCounter slot) = c_set (counter_place slot.counter) (counter_value view.sizes slot.counter slot.value) ∷ []
change_code view (ClearsCounter k) = freed view k ∷ []
change_code view (ClearsBoth k) = forgotten view k (view.is_read k)
change_code view (SetsMark n) = c_set (mark_place (node_word view n)) (c_truth true) ∷ []
change_code view (EndsWhen start surface depth) =
    c_if (c_read (mark_place (node_word view start))) (flagged_now view surface ∷ []) (Some (flagged_now view depth ∷ [])) ∷ []
change_code view Finishes = c_set over_place (c_truth true) ∷ []

-- the C of changes one after another
abbrev pub changes_code : ActivityView → List Change → List CStmt
changes_code view [] = []
changes_code view (change ∷ rest) = change_code view change ++ changes_code view rest

-- ---- runs

-- whether a unit has a result
abbrev pub has_result : Option UnitDef → Bool
has_result (Some unit) = is_some unit.result
has_result None = false

-- the name that a unit has in the program
abbrev pub name_in : Option UnitDef → Text
name_in (Some unit) = unit.name
name_in None = []

-- the number and word in the C names of a `run`: the number of its place, and the name of the activity that it calls
abbrev pub run_word : List UnitDef → ℕ → ℕ → NumberedWord
run_word earlier number a = record { number = number; word = name_in (slice_get earlier a) }

-- the number and word in the C names of a `run` at the place that calls the activity
abbrev pub word_at : ActivityView → Place → ℕ → NumberedWord
word_at view at a = run_word view.site.earlier (view.run at) a

-- an argument, where the test is true
abbrev pub arg_where : Bool → CArg → List CArg
arg_where true arg = arg ∷ []
arg_where false arg = []

-- whether a kind of statement is a `repeat` without a condition, which never ends
abbrev pub layer_endless : {A B C D : Type 0} → StmtKind-F A B C D → Bool
layer_endless (StmtKind-F.Repeat body) = true
layer_endless _ = false

-- whether a statement is a `repeat` without a condition
abbrev pub is_endless : Stmt → Bool
is_endless s = layer_endless (out-StmtKind (out-Stmt s).what)

-- whether a unit may end: the last statement of its body isn't a `repeat` without a condition
abbrev pub unit_may_end : UnitDef → Bool
unit_may_end unit = not (last_of (map is_endless unit.body))

-- whether the unit may end, where there is one; true where there is none
abbrev pub may_end_in : Option UnitDef → Bool
may_end_in (Some unit) = unit_may_end unit
may_end_in None = true

-- a statement, where the test is true
abbrev pub stmt_where : Bool → CStmt → List CStmt
stmt_where true s = s ∷ []
stmt_where false s = []

-- the arguments of the call of an activity: where it rests, what it remembers, its inputs and outputs, its result, and whether it has ended, where it
-- may end
abbrev pub run_args : ActivityView → NumberedWord → ℕ → Arguments → List CArg
run_args view k a arguments =
    Address (callee_frame k)
    ∷ (arg_where (view.remembers a) (Address (callee_memory k))
    ++ (call_args view.site arguments.inputs arguments.outputs
    ++ (arg_where (has_result (slice_get view.site.earlier a)) (Address (given_place k))
    ++ arg_where (may_end_in (slice_get view.site.earlier a)) (Address ended_place))))

-- the call: an activity that may end hasn't ended before it
abbrev pub run_code : ActivityView → NumberedWord → ℕ → Arguments → List CStmt
run_code view k a arguments =
    stmt_where (may_end_in (slice_get view.site.earlier a)) (c_set ended_place (c_truth false))
    ++ c_calling (c_call (name_of_callee (slice_get view.site.earlier a)) (run_args view k a arguments)) ∷ []

-- the target gets the result
abbrev pub target_code : ActivityView → NumberedWord → Option Path → List CStmt
target_code view k (Some path) = c_set (stands view.site path).place (c_read (given_place k)) ∷ []
target_code view k None = []

-- ---- blocks

-- an act; a `return` sets the result, where it has one
abbrev pub layer_acted : {A B C D : Type 0} → ActivityView → Stmt → StmtKind-F A B C D → List CStmt
layer_acted view s (StmtKind-F.Return (Some e)) = c_set result_place (code_made view.site e) ∷ []
layer_acted view s (StmtKind-F.Return None) = []
layer_acted view s _ = act_code view.site view.copies s

abbrev pub acted : ActivityView → Stmt → List CStmt
acted view s = layer_acted view s (out-StmtKind (out-Stmt s).what)

-- the truth of a kind of expression, where it is a literal of type bool
abbrev pub spelled_in_kind : {A B C D E F G : Type 0} → CExprKind-F A B C D E F G → Option Bool
spelled_in_kind (CExprKind-F.Literal OfBool n) = Some (is_one n)
spelled_in_kind _ = None

-- the truth that an expression spells, where it is a literal of type bool
abbrev pub spelled_truth : CExpr → Option Bool
spelled_truth e = spelled_in_kind (out-CExprKind (out-CExpr e).what)

-- the side that a test takes, where its truth is spelled, and else an `if`
abbrev pub choice_code : CExpr → Option Bool → List CStmt → List CStmt → List CStmt
choice_code test None on_true on_false = c_if test on_true (else_code on_false) ∷ []
choice_code test (Some true) on_true on_false = on_true
choice_code test (Some false) on_true on_false = on_false

-- a test: changes where it is true, and others where it is false. A literal takes its side without an `if`
abbrev pub test_code : ActivityView → CExpr → Transition → List CStmt
test_code view test rule = choice_code test (spelled_truth test) (changes_code view rule.on_true) (changes_code view rule.on_false)

-- what a `run` does where it begins, before its call: the callee's frame is cleared, and the changes are made. Its C names have the number and word
abbrev pub begun_code : ActivityView → NumberedWord → ℕ → Transition → List CStmt
begun_code view k a rule = c_clear (callee_frame k) (frame_name (name_in (slice_get view.site.earlier a))) ∷ changes_code view rule.on_true

-- what a `run` does where it goes on: the call, behind which it is asked whether what it calls has ended. Of an activity that never ends this isn't asked
abbrev pub resumed_code : ActivityView → NumberedWord → ℕ → Arguments → Transition → List CStmt
resumed_code view k a arguments rule =
    run_code view k a arguments
    ++ stmt_where (may_end_in (slice_get view.site.earlier a))
    (c_if (c_read ended_place) (target_code view k arguments.target ++ changes_code view rule.on_true) None)

-- what a node does itself, before it is decided which nodes have their turns next: an act is done, and a `run` is made ready for its first call
abbrev pub own_code : ActivityView → ℕ → Transition → Node → List CStmt
own_code view a rule (ActAt l s) = acted view s
own_code view a rule (EnterAt l at arguments) = begun_code view (word_at view at a) a rule
own_code view a rule n = []

-- how a node goes on, by its rule: changes, a test, or the call of a `run`; of a `run` the number tells the activity that it calls
abbrev pub control_code : ActivityView → ℕ → Transition → Node → List CStmt
control_code view a rule (TestAt l at e) = test_code view (code_made view.site e) rule
control_code view a rule (CheckAt l at e) = test_code view (code_made view.site e) rule
control_code view a rule (EnterAt l at arguments) = run_code view (word_at view at a) a arguments
control_code view a rule (ResumeAt l at arguments) = resumed_code view (word_at view at a) a arguments rule
control_code view a rule n = changes_code view rule.on_true

-- what a node does in its turn, by its rule
abbrev pub node_code : ActivityView → ℕ → Transition → Node → List CStmt
node_code view a rule n = own_code view a rule n ++ control_code view a rule n

-- the part of a node in a `run`: none, or it begins the one at the place, or it goes on with it
pub data RunPart : Type 0 where
  NoRun : RunPart
  Begins : Place → RunPart
  GoesOn : Place → RunPart

-- the part of a node in a `run`
abbrev pub run_part : Node → RunPart
run_part (EnterAt l at arguments) = Begins at
run_part (ResumeAt l at arguments) = GoesOn at
run_part n = NoRun

-- whether the second part goes on with the `run` that the first one begins
abbrev pub same_run : RunPart → RunPart → Bool
same_run (Begins at) (GoesOn other) = same_place at other
same_run _ _ = false

-- the code of a node in C: the test that guards it, its own code, and the control code, which tells what goes on after it
pub record NodeCode : Type 0 where
  pub test : CExpr
  pub own : List CStmt
  pub control : List CStmt
  -- the number of the flag for which the test asks, where it asks for that of the node
  pub flag : Option ℕ
  -- its part in a `run`
  pub run : RunPart

-- all that a node does in its turn
abbrev pub whole_code : NodeCode → List CStmt
whole_code turn = turn.own ++ turn.control

-- the `if` of one turn
abbrev pub turn_code : NodeCode → CStmt
turn_code turn = c_if turn.test (whole_code turn) None

-- the control code of a block's last node, unless the block leaves its call to the next one
abbrev pub control_unless : Bool → NodeCode → List CStmt
control_unless true turn = []
control_unless false turn = turn.control

-- The code of a block from one of its nodes on: the own code of each node, and the control code of the last one, unless the block leaves its call to the next
-- one. The control code of the others is left out, since each of them leads to the node behind it and nowhere else
abbrev pub fused_code : Bool → NodeCode → List NodeCode → List CStmt
fused_code leaves last [] = last.own ++ control_unless leaves last
fused_code leaves turn (next ∷ rest) = turn.own ++ fused_code leaves next rest

-- the test of a block: that of its first node, or where the block before leaves its call, the flag of that block or the test. Numbers have these words
abbrev pub entered_by : (ℕ → Text) → Option ℕ → CExpr → CExpr
entered_by word None test = test
entered_by word (Some k) test = c_two Or (c_read (flag_place (with_word word k))) test

-- The `if` of a block. Its condition is the test of the first node, or also the flag of the block before, if that leaves its call to this one: the number
-- is that of this flag. Its statements are the code of all nodes, without the last call where the test says that this block leaves it
abbrev pub merged_code : (ℕ → Text) → Option ℕ → Bool → List NodeCode → List CStmt
merged_code word before leaves [] = []
merged_code word before leaves (first ∷ rest) = c_if (entered_by word before first.test) (fused_code leaves first rest) None ∷ []

-- the last of some turns
abbrev pub last_turn : NodeCode → List NodeCode → NodeCode
last_turn turn [] = turn
last_turn turn (next ∷ rest) = last_turn next rest

-- the first of some turns
abbrev pub first_turn : List NodeCode → Option NodeCode
first_turn [] = None
first_turn (turn ∷ rest) = Some turn

-- the first turn of the first one of some blocks
abbrev pub next_turn : List (List NodeCode) → Option NodeCode
next_turn [] = None
next_turn (block ∷ rest) = first_turn block

-- The flag of a block that leaves the call of its `run` to the next block: its last node begins the `run`, and the first node of the next block goes on with
-- it. So the call stands there once. A flag has its value in the next block still, and another test may not. So only blocks behind a flag leave their calls
abbrev pub leaving_flag : List NodeCode → Option NodeCode → Option ℕ
leaving_flag (first ∷ rest) (Some next) = if same_run (last_turn first rest).run next.run then first.flag else None
leaving_flag _ _ = None

-- the `if`s of blocks. The number is that of the flag of the block before them, where that leaves its call to the first of them
abbrev pub all_merged : (ℕ → Text) → Option ℕ → List (List NodeCode) → List CStmt
all_merged word before [] = []
all_merged word before (block ∷ rest) =
    let left = leaving_flag block (next_turn rest) in
    merged_code word before (is_some left) block ++ all_merged word left rest

-- the number of the flag of a rule's node, where the rule asks for it
abbrev pub flag_asked : ActivityView → Node → Condition → Option ℕ
flag_asked view n Flagged = Some (view.number n)
flag_asked view n (Rested slot) = None
flag_asked view n (RestedIn slots) = None
flag_asked view n (Ended age needed) = None

-- the turn of a rule's node; of a `run` the number tells the activity that it calls
abbrev pub node_turn : ActivityView → ℕ → Transition → NodeCode
node_turn view a rule = record {
  test = guard_of view rule.node rule.condition;
  own = own_code view a rule rule.node;
  control = control_code view a rule rule.node;
  flag = flag_asked view rule.node rule.condition;
  run = run_part rule.node;
}

-- the `if` of a rule's node
abbrev pub block_code : ActivityView → ℕ → Transition → CStmt
block_code view a rule = turn_code (node_turn view a rule)

-- the turns of nodes that have these rules, each with the activity that it calls
abbrev pub turns_of : ActivityView → List ℕ → List Transition → List NodeCode
turns_of view [] rules = []
turns_of view callees [] = []
turns_of view (a ∷ callees) (rule ∷ rules) = node_turn view a rule ∷ turns_of view callees rules
