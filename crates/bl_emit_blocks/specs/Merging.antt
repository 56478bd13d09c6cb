-- The `if`s of blocks, whose nodes are told by the positions of their rules.
use Rattle.std.specs.Prelude.{ℕ, Bool, true, false, List, [], ◌∷◌, ◌++◌, Option, Some, None, if◌then◌else◌, is_some, slice_get}
use Rattle.bl_tree.specs.declared.c.CStmt.{CStmt}
use Rattle.bl_emit_functions.specs.Trees.{c_if}
use Rattle.bl_machine_transitions.specs.Told.{NumberedTransition}
use Rattle.bl_emit_spec.specs.Blocks.{ActivityView, entered_by, same_run}
use Rattle.bl_emit_blocks.specs.Numbered.{numbered_control, numbered_flag, numbered_guard, numbered_own, numbered_part}

-- ---- the first and the last node of a block

-- the rule, and where there is none the other one
abbrev pub rule_or : Option NumberedTransition → Option NumberedTransition → Option NumberedTransition
rule_or None other = other
rule_or (Some rule) other = Some rule

-- the first of the rules at these positions
abbrev pub first_at : List NumberedTransition → List ℕ → Option NumberedTransition
first_at rules [] = None
first_at rules (k ∷ block) = rule_or (slice_get rules k) (first_at rules block)

-- the first rule of the first one of some blocks
abbrev pub next_at : List NumberedTransition → List (List ℕ) → Option NumberedTransition
next_at rules [] = None
next_at rules (block ∷ rest) = first_at rules block

-- the last of the rules at these positions, behind a rule that was found before them
abbrev pub last_behind : List NumberedTransition → Option NumberedTransition → List ℕ → Option NumberedTransition
last_behind rules found [] = found
last_behind rules found (k ∷ block) = last_behind rules (rule_or (slice_get rules k) found) block

-- the last of the rules at these positions
abbrev pub last_at : List NumberedTransition → List ℕ → Option NumberedTransition
last_at rules block = last_behind rules None block

-- ---- calls that are left to the next block

-- the number of a block's flag, by its first and its last rule, where it leaves its call to the block that begins with the third rule
abbrev pub left_between : NumberedTransition → NumberedTransition → NumberedTransition → Option ℕ
left_between first last next =
    if same_run (numbered_part last.task) (numbered_part next.task) then numbered_flag first.number first.condition else None

-- the number of that flag by optional rules; there is none where one of the rules is absent
abbrev pub left_where : Option NumberedTransition → Option NumberedTransition → Option NumberedTransition → Option ℕ
left_where (Some first) (Some last) (Some next) = left_between first last next
left_where _ _ _ = None

-- the number of the flag of the block at these positions, where it leaves its call to the block that begins with the rule
abbrev pub left_at : List NumberedTransition → List ℕ → Option NumberedTransition → Option ℕ
left_at rules block next = left_where (first_at rules block) (last_at rules block) next

-- ---- `if`s

-- what the node of an optional rule does itself
abbrev pub own_where : ActivityView → Option NumberedTransition → List CStmt
own_where view None = []
own_where view (Some rule) = numbered_own view rule rule.task

-- what the nodes of the rules at these positions do themselves
abbrev pub own_at : ActivityView → List NumberedTransition → List ℕ → List CStmt
own_at view rules [] = []
own_at view rules (k ∷ block) = own_where view (slice_get rules k) ++ own_at view rules block

-- how a block goes on, whose last node has the optional rule, unless it leaves its call to the next one
abbrev pub control_where : ActivityView → Bool → Option NumberedTransition → List CStmt
control_where view true rule = []
control_where view false None = []
control_where view false (Some rule) = numbered_control view rule rule.task

-- what the nodes of a block do
abbrev pub fused_at : ActivityView → Bool → List NumberedTransition → List ℕ → List CStmt
fused_at view leaves rules block = own_at view rules block ++ control_where view leaves (last_at rules block)

-- the `if` of a block whose first node has the optional rule
abbrev pub merged_where : ActivityView → Option ℕ → Option NumberedTransition → List CStmt → List CStmt
merged_where view before None code = []
merged_where view before (Some rule) code = c_if (entered_by view.word before (numbered_guard view rule.number rule.condition)) code None ∷ []

-- the `if` of a block
abbrev pub merged_at : ActivityView → Option ℕ → Bool → List NumberedTransition → List ℕ → List CStmt
merged_at view before leaves rules block = merged_where view before (first_at rules block) (fused_at view leaves rules block)

-- the `if`s of blocks. The number is that of the flag of the block before them, where that leaves its call to the first of them
abbrev pub all_at : ActivityView → Option ℕ → List NumberedTransition → List (List ℕ) → List CStmt
all_at view before rules [] = []
all_at view before rules (block ∷ rest) =
    let left = left_at rules block (next_at rules rest) in
    merged_at view before (is_some left) rules block ++ all_at view left rules rest
