-- Which flags the C function of an activity has, and what asks for them.
use Rattle.std.specs.Prelude.{◌≡◌, ℕ, Bool, true, false, ◌&&◌, ◌||◌, ◌==◌, not, List, [], ◌∷◌, ◌++◌, map, Option, Some, None, filter, is_some, length, nat_eq}
use Rattle.std.specs.Prelude.{if◌then◌else◌}
use Rattle.std.specs.Char.{is_ascii_digit}
use Rattle.std.specs.List.{list_all}
use Rattle.bl_tree.specs.declared.text.Text.{Text}
use Rattle.bl_tree.specs.declared.c.CExpr.{CExpr}
use Rattle.bl_tree.specs.declared.c.CFunc.{CFunc}
use Rattle.bl_tree.specs.declared.c.CLocal.{CLocal}
use Rattle.bl_tree.specs.declared.c.CStmt.{CStmt, fold-CStmt, out-CStmt}
use Rattle.bl_tree.specs.declared.c.CStmtKind.{out-CStmtKind}
use Rattle.bl_tree.specs.declared.c.CStmtKind.TheOpen.{CStmtKind-F, CStmt-F}
use Rattle.bl_tree.specs.declared.tree.Unit.{Unit as UnitDef}
use Rattle.bl_tree.specs.Reduce.{joined}
use Rattle.bl_tree.specs.Rules.{same_place}
use Rattle.bl_graph_nodes.specs.Nodes.{EnterAt, Node, ResumeAt}
use Rattle.bl_graph_nodes.specs.Plain.{plain_body}
use Rattle.bl_machine.specs.declared.machine.Activity.{Activity as InMachine}
use Rattle.bl_machine_pass.specs.Numbered.{slots_of}
use Rattle.bl_machine_pass.specs.Transitions.{Transition, rules}
use Rattle.bl_emit_spec.specs.Activities.{first_positions, is_flagged, picked}
use Rattle.bl_emit_spec.specs.Blocks.{spelled_truth}
use Rattle.bl_ctext_places.specs.Places.{CPath, places_in}

-- ---- names of flags

-- whether digits, `_` and a word make a text, where there may be no digits
abbrev pub is_digits_and_word : Text → Bool
is_digits_and_word [] = false
is_digits_and_word (first ∷ rest) = first == 95 || (is_ascii_digit first && is_digits_and_word rest)

-- whether a text is one or more digits, `_`, and a word
abbrev pub is_numbered_word : Text → Bool
is_numbered_word [] = false
is_numbered_word (first ∷ rest) = is_ascii_digit first && is_digits_and_word rest

-- whether a local has the name of a flag: `g`, one or more digits, `_`, and a word
abbrev pub is_flag_name : Text → Bool
is_flag_name [] = false
is_flag_name (first ∷ rest) = first == 103 && is_numbered_word rest

-- the names of the locals that are flags, in order
abbrev pub flags_of : CFunc → List Text
flags_of function = filter is_flag_name (map (λ (local : CLocal). local.name) function.locals)

-- the names of the flags that an expression reads
abbrev pub flags_read : CExpr → List Text
flags_read e = filter is_flag_name (map (λ (path : CPath). path.name) (places_in e))

-- ---- conditions

-- the flags that the condition of a form reads, where that is an `if`
abbrev pub kind_flags : {X Y : Type 0} → CStmtKind-F X Y → List Text
kind_flags (CStmtKind-F.If condition block other) = flags_read condition
kind_flags _ = []

-- the flags that the condition of a statement reads, where that is an `if`
abbrev pub flags_asked : CStmt → List Text
flags_asked s = kind_flags (out-CStmtKind (out-CStmt s).what)

-- whether a condition is no literal, and reads no flag
abbrev pub is_decided_here : CExpr → Bool
is_decided_here condition = not (is_some (spelled_truth condition)) && nat_eq (length (flags_read condition)) 0

-- the answers of an optional block
abbrev pub optional_answers : Option (List Bool) → Bool
optional_answers None = true
optional_answers (Some answers) = list_all (λ answer. answer) answers

-- whether each `if` in a form has a condition that is no literal and reads no flag
abbrev pub kind_decides : CStmtKind-F Bool Bool → Bool
kind_decides (CStmtKind-F.If condition block other) =
    is_decided_here condition && (list_all (λ answer. answer) block && optional_answers other)
kind_decides (CStmtKind-F.Loop turn condition body) = list_all (λ answer. answer) body
kind_decides _ = true

-- the answer for a statement is that for its form
abbrev pub stmt_decides : CStmt-F Bool Bool → Bool
stmt_decides stmt = stmt.what

-- whether each `if` in a statement, itself included, has a condition that is no literal and reads no flag
abbrev pub decides : CStmt → Bool
decides = fold-CStmt Bool Bool kind_decides stmt_decides

-- the statements of an `if` where its condition is true
abbrev pub kind_block : {X : Type 0} → CStmtKind-F X CStmt → List CStmt
kind_block (CStmtKind-F.If condition block other) = block
kind_block _ = []

-- the statements that stand in an `if`, directly
abbrev pub inside : CStmt → List CStmt
inside s = kind_block (out-CStmtKind (out-CStmt s).what)

-- ---- functions

-- the rules of an activity's nodes, by its part of a machine
abbrev pub rules_by : UnitDef → InMachine → List Transition
rules_by unit one = rules (slots_of (plain_body unit.body) one.slots) (plain_body unit.body)

-- the rules of the nodes that stand first in the activity's blocks in a machine
abbrev pub rules_first : UnitDef → InMachine → List Transition
rules_first unit one = picked (rules_by unit one) (first_positions one.blocks)

-- the rules of the nodes of each of the activity's blocks in a machine
abbrev pub rules_in_blocks : UnitDef → InMachine → List (List Transition)
rules_in_blocks unit one = map (picked (rules_by unit one)) one.blocks

-- how many flags a block has of its own: one if its first node waits by a flag
abbrev pub own_many : List Transition → ℕ
own_many [] = 0
own_many (first ∷ rest) = if is_flagged first.condition then 1 else 0

-- whether the second node goes on with the `run` that the first one begins
abbrev pub goes_on_with : Node → Node → Bool
goes_on_with (EnterAt l at arguments) (ResumeAt m place given) = same_place at place
goes_on_with _ _ = false

-- whether a block leaves the call of a `run` to the next one: the last node of the first begins it, and the first node of the second goes on with it
abbrev pub leaves_call : List Transition → List Transition → Bool
leaves_call (last ∷ []) (first ∷ rest) = goes_on_with last.node first.node
leaves_call (rule ∷ more ∷ rest) block = leaves_call (more ∷ rest) block
leaves_call _ _ = false

-- The flags that the conditions of blocks read, block by block: those that the block has of its own, and before them those of the block before it, if that
-- leaves it a call. The first two lists are the rules and the flags of the block before
abbrev pub flags_in_turn : List Transition → List Text → List (List Transition) → List (List Text) → List (List Text)
flags_in_turn before given (block ∷ blocks) (own ∷ rest) =
    (if leaves_call before block then given ++ own else own) ∷ flags_in_turn block own blocks rest
flags_in_turn before given _ _ = []

-- An activity's function has as many flags as there are blocks whose first node waits by a flag. The condition of the `if` of such a block reads that flag. The
-- condition of a block to which the block before leaves a call reads first the flag of that block. No condition reads another flag, and none of an `if` within
-- these `if`s reads one
pub record HasFlagForEach (unit : UnitDef) (one : InMachine) (function : CFunc) (blocks : List CStmt) : Type 0 where
  -- the flags that each block has of its own, which are those of the function, in the order of the locals
  pub own : List (List Text)
  pub each : map (λ (flags : List Text). length flags) own ≡ map own_many (rules_in_blocks unit one)
  pub all : joined own ≡ flags_of function
  -- there are as many flags as nodes that stand first in a block and wait by a flag
  pub many : length (flags_of function) ≡ length (filter (λ (rule : Transition). is_flagged rule.condition) (rules_first unit one))
  -- the conditions of the `if`s read them
  pub asked : map flags_asked blocks ≡ flags_in_turn [] [] (rules_in_blocks unit one) own
  -- the condition of each `if` within them is no literal, and reads no flag
  pub decided : list_all decides (joined (map inside blocks)) ≡ true
