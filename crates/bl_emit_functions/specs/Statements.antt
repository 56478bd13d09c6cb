-- The C of the statements of a function.
use Rattle.std.specs.Prelude.{ℕ, ◌+◌, Bool, true, false, not, ◌&&◌, nat_eq, List, [], ◌∷◌, ◌++◌, Option, Some, None, option_map, if◌then◌else◌}
use Rattle.bl_tree.specs.declared.c.CExpr.{CExpr}
use Rattle.bl_tree.specs.declared.c.CStmt.{CStmt}
use Rattle.bl_tree.specs.declared.scalar.Op.TheVariants.{And}
use Rattle.bl_tree.specs.declared.tree.Arm.{Arm, fold-Arm}
use Rattle.bl_tree.specs.declared.tree.Expr.{Expr, out-Expr}
use Rattle.bl_tree.specs.declared.tree.ExprKind.{out-ExprKind}
use Rattle.bl_tree.specs.declared.tree.ExprKind.TheOpen.{ExprKind-F}
use Rattle.bl_tree.specs.declared.tree.Path.{Path, out-Path}
use Rattle.bl_tree.specs.declared.tree.Stmt.{Stmt, fold-Stmt}
use Rattle.bl_tree.specs.declared.tree.StmtKind.TheOpen.{StmtKind-F, Arm-F, Branch-F, Stmt-F}
use Rattle.bl_tree.specs.Typing.{TypingContext}
use Rattle.bl_ctext.specs.Spellable.{has_any}
use Rattle.bl_emit_acts.specs.Acts.{call_made, c_calling, c_set, code_made, declared_code}
use Rattle.bl_emit_acts.specs.Expressions.{stands}
use Rattle.bl_emit_acts.specs.Trees.{c_read, c_two}
use Rattle.bl_emit_functions.specs.declared.coded.ArmsCoded.{ArmsCoded}
use Rattle.bl_emit_functions.specs.declared.coded.ArmsCoded.TheVariants.{One, Two, Several}
use Rattle.bl_emit_functions.specs.declared.coded.Coded.{Coded}
use Rattle.bl_emit_functions.specs.declared.coded.Free.{Free}
use Rattle.bl_emit_functions.specs.Trees.{c_break, c_if, c_loop, c_return, c_truth, flag_place, turn_name}

-- ---- numbers

-- the free numbers after the next flag is taken
abbrev pub flag_taken : Free → Free
flag_taken free = record { flags = free.flags + 1; turns = free.turns }

-- the free numbers after the next turn is taken
abbrev pub turn_taken : Free → Free
turn_taken free = record { flags = free.flags; turns = free.turns + 1 }

-- ---- C by the numbers that are free

-- what C is made, from the numbers that are free before it
abbrev pub Codes : Type 0
Codes = Free → Coded

-- the C of one part, and behind it that of the next
abbrev pub code_then : Coded → Codes → Coded
code_then first next = record { code = first.code ++ (next first.free).code; free = (next first.free).free }

-- C that takes no number
abbrev pub only_code : List CStmt → Codes
only_code code free = record { code = code; free = free }

-- the C of statements in order
abbrev pub block_codes : List Codes → Codes
block_codes [] free = record { code = []; free = free }
block_codes (first ∷ rest) free = code_then (first free) (block_codes rest)

-- ---- choices

-- the C of an arm of an `if`: its condition and its statements
pub record ArmCodes : Type 0 where
  pub test : CExpr
  pub body : Codes

-- an `else`, which is left out where it is empty
abbrev pub else_code : List CStmt → Option (List CStmt)
else_code [] = None
else_code (s ∷ rest) = Some (s ∷ rest)

-- one arm and what is done else, where the C of both is made
abbrev pub either_by : CExpr → Coded → Coded → Coded
either_by test body other = record { code = c_if test body.code (else_code other.code) ∷ []; free = other.free }

-- one arm, and what is done else
abbrev pub either_code : ArmCodes → Codes → Codes
either_code arm other free = either_by arm.test (arm.body free) (other (arm.body free).free)

-- one of several arms: it is taken where none before it was, which a flag tells, and its condition is true
abbrev pub arm_taken : ℕ → ArmCodes → Codes
arm_taken flag arm free = record {
  code = c_if (c_two And (c_read (flag_place flag)) arm.test) (c_set (flag_place flag) (c_truth false) ∷ (arm.body free).code) None ∷ [];
  free = (arm.body free).free;
}

-- the arms one behind the other, since many that nest are too deep for a text
abbrev pub arms_taken : ℕ → List ArmCodes → Codes
arms_taken flag [] free = record { code = []; free = free }
arms_taken flag (arm ∷ rest) free = code_then (arm_taken flag arm free) (arms_taken flag rest)

-- what is done where the flag tells that no arm was taken; nothing where that is empty
abbrev pub untaken_code : ℕ → List CStmt → List CStmt
untaken_code flag [] = []
untaken_code flag (s ∷ rest) = c_if (c_read (flag_place flag)) (s ∷ rest) None ∷ []

-- several arms and what is done else, where the C of both is made: a flag is set, since no arm is taken yet
abbrev pub flagged_by : ℕ → Coded → Coded → Coded
flagged_by flag arms other = record {
  code = c_set (flag_place flag) (c_truth true) ∷ (arms.code ++ untaken_code flag other.code);
  free = other.free;
}

-- what is done else, behind arms
abbrev pub behind_arms : ℕ → Coded → Codes → Coded
behind_arms flag arms other = flagged_by flag arms (other arms.free)

-- several arms, and what is done else
abbrev pub flagged_code : List ArmCodes → Codes → Codes
flagged_code arms other free = behind_arms free.flags (arms_taken free.flags arms (flag_taken free)) other

-- the C of arms, by how many they are
abbrev pub arms_coded : List ArmCodes → Free → ArmsCoded
arms_coded (arm ∷ []) free = One arm.test (arm.body free)
arms_coded (arm ∷ second ∷ []) free = Two arm.test (arm.body free) second.test (second.body (arm.body free).free)
arms_coded arms free = Several free.flags (arms_taken free.flags arms (flag_taken free))

-- the numbers that are free after arms
abbrev pub free_after : ArmsCoded → Free
free_after (One test body) = body.free
free_after (Two test body second inner) = inner.free
free_after (Several flag arms) = arms.free

-- arms, and behind them what is done else. A second arm stands in the `else` of the first; more arms don't nest
abbrev pub closed_by : ArmsCoded → Coded → Coded
closed_by (One test body) other = either_by test body other
closed_by (Two test body second inner) other = either_by test body (either_by second inner other)
closed_by (Several flag arms) other = flagged_by flag arms other

-- an `if`
abbrev pub choice_code : List ArmCodes → Codes → Codes
choice_code arms other free = closed_by (arms_coded arms free) (other (free_after (arms_coded arms free)))

-- ---- loops

-- the C of a loop, by its number, its condition, its body, and what stands behind the body in each turn
abbrev pub loop_code : ℕ → CExpr → List CStmt → Coded → Coded
loop_code turn test last body = record { code = c_loop (turn_name turn) test (body.code ++ last) ∷ []; free = body.free }

-- a loop ends where a condition is true
abbrev pub break_code : CExpr → List CStmt
break_code test = c_if test (c_break ∷ []) None ∷ []

-- ---- all statements

-- whether an expression's kind reads the whole variable at a position
abbrev pub reads_whole : {A B C : Type 0} → ℕ → ExprKind-F A B C Path → Bool
reads_whole k (ExprKind-F.Read path) = nat_eq k (out-Path path).root && not (has_any (out-Path path).parts)
reads_whole k _ = false

-- whether an assignment sets a whole variable to itself
abbrev pub sets_itself : Path → Expr → Bool
sets_itself path e = not (has_any (out-Path path).parts) && reads_whole (out-Path path).root (out-ExprKind (out-Expr e).what)

-- the C of an assignment. One that sets a variable to itself has none, since compilers warn of it where the variable is a local
abbrev pub assigned_code : TypingContext → Path → Expr → List CStmt
assigned_code site path e = if sets_itself path e then [] else c_set (stands site path).place (code_made site e) ∷ []

-- what is made of each kind of statement. `await`, `run`, `cobegin` and `when` stand in no function
abbrev pub kind_codes : TypingContext → StmtKind-F Codes ArmCodes Codes Codes → Codes
kind_codes site (StmtKind-F.If arms other) free = choice_code arms (block_codes other) free
kind_codes site (StmtKind-F.Repeat body) free = loop_code free.turns (c_truth true) [] (block_codes body (turn_taken free))
kind_codes site (StmtKind-F.Until body e) free = loop_code free.turns (c_truth true) (break_code (code_made site e)) (block_codes body (turn_taken free))
kind_codes site (StmtKind-F.While e body) free = loop_code free.turns (code_made site e) [] (block_codes body (turn_taken free))
kind_codes site (StmtKind-F.Return e) free = only_code (c_return (option_map (code_made site) e) ∷ []) free
kind_codes site (StmtKind-F.Declare k initial) free = only_code (declared_code site [] k initial) free
kind_codes site (StmtKind-F.Assign path e) free = only_code (assigned_code site path e) free
kind_codes site (StmtKind-F.Call f inputs outputs) free = only_code (c_calling (call_made site f inputs outputs) ∷ []) free
kind_codes site _ free = only_code [] free

-- an arm: the C of its condition, and that of its statements in order
abbrev pub arm_codes : TypingContext → Arm-F Codes ArmCodes Codes Codes → ArmCodes
arm_codes site arm = record { test = code_made site arm.test; body = block_codes arm.body }

-- a branch: no function has one
abbrev pub branch_codes : Branch-F Codes ArmCodes Codes Codes → Codes
branch_codes branch free = only_code [] free

-- the codes of a statement, by those of its kind
abbrev pub stmt_codes : Stmt-F Codes ArmCodes Codes Codes → Codes
stmt_codes s = s.what

-- the C of a statement of a function
abbrev pub codes_of : TypingContext → Stmt → Codes
codes_of site = fold-Stmt Codes ArmCodes Codes Codes (kind_codes site) (arm_codes site) branch_codes stmt_codes

-- the C of an arm
abbrev pub codes_of_arm : TypingContext → Arm → ArmCodes
codes_of_arm site = fold-Arm Codes ArmCodes Codes Codes (kind_codes site) (arm_codes site) branch_codes stmt_codes
