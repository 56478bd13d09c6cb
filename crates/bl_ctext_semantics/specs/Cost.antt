-- The most statements that a C function can execute.
use Rattle.std.specs.Prelude.{ℕ, ◌+◌, ◌*◌, max, List, [], ◌∷◌, map, Option, Some, None, codes, unwrap_or}
use Rattle.bl_tree.specs.declared.text.Text.{Text}
use Rattle.bl_tree.specs.declared.c.CStmtKind.TheOpen.{CStmtKind-F, CStmt-F}
use Rattle.bl_tree.specs.declared.c.CStmt.{CStmt, fold-CStmt}
use Rattle.bl_tree.specs.declared.c.CFunc.{CFunc}
use Rattle.bl_tree.specs.Reduce.{total}
use Rattle.bl_ctext_semantics.specs.Course.{turn_limit}
use Rattle.bl_ctext_semantics.specs.Parts.{Parts}
use Rattle.bl_ctext_semantics.specs.Tables.{found, Table, no_entries, with_entry, entry_or}
use Rattle.bl_ctext_semantics.specs.Calls.{calls_in, calls_in_place, calls_in_call, calls_or_none}

-- the costs of the earlier functions
abbrev pub Costs : Type 0
Costs = Table ℕ

-- the costs of calls, each counted; the prelude's functions cost nothing
abbrev pub cost_of_calls : Costs → List Text → ℕ
cost_of_calls known names = total (map (entry_or 0 known) names)

-- the cost of a block, statement after statement
abbrev pub block_cost : List (Costs → ℕ) → Costs → ℕ
block_cost block known = total (map (λ cost. cost known) block)

-- the cost of an `else` that may be absent
abbrev pub other_cost : Option (List (Costs → ℕ)) → Costs → ℕ
other_cost None known = 0
other_cost (Some block) known = block_cost block known

-- one step of the fold for statements
abbrev pub stmt_kind_cost : CStmtKind-F (Costs → ℕ) (Costs → ℕ) → Costs → ℕ
stmt_kind_cost (CStmtKind-F.Set place expr) known = 1 + (cost_of_calls known (calls_in_place place) + cost_of_calls known (calls_in expr))
stmt_kind_cost (CStmtKind-F.Clear place struct) known = 1 + cost_of_calls known (calls_in_place place)
stmt_kind_cost (CStmtKind-F.Call call) known = 1 + cost_of_calls known (calls_in_call call)
stmt_kind_cost (CStmtKind-F.If condition block other) known =
    1 + (cost_of_calls known (calls_in condition) + max (block_cost block known) (other_cost other known))
stmt_kind_cost (CStmtKind-F.Loop turn condition body) known =
    1 + (turn_limit + 1) * (1 + (cost_of_calls known (calls_in condition) + block_cost body known))
stmt_kind_cost CStmtKind-F.Break known = 1
stmt_kind_cost (CStmtKind-F.Return expr) known = 1 + cost_of_calls known (calls_or_none expr)

-- the cost of a statement is that of its form
abbrev pub stmt_cost_step : CStmt-F (Costs → ℕ) (Costs → ℕ) → Costs → ℕ
stmt_cost_step stmt = stmt.what

-- the most statements that a statement can execute, itself counted
abbrev pub cost_of_stmt : CStmt → Costs → ℕ
cost_of_stmt = fold-CStmt (Costs → ℕ) (Costs → ℕ) stmt_kind_cost stmt_cost_step

-- the most that a function can execute: the sum over its statements
abbrev pub cost_of_function : Costs → CFunc → ℕ
cost_of_function known function = total (map (λ stmt. cost_of_stmt stmt known) function.body)

-- the functions in order by name, each over those before it
abbrev pub costs_after : Costs → List CFunc → List (Text × ℕ)
costs_after known [] = []
costs_after known (function ∷ rest) =
    (function.name, cost_of_function known function) ∷ costs_after (with_entry known function.name (cost_of_function known function)) rest

-- the cost of each function of a file, in order
abbrev pub costs : List CFunc → List (Text × ℕ)
costs = costs_after no_entries

-- the bound on the statements that a tick executes: the cost of `bl_tick`
abbrev pub tick_bound : Parts → ℕ
tick_bound file = unwrap_or (found (codes "bl_tick") (costs file.funcs)) 0
