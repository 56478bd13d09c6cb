-- What stands directly in the body of the C function of an activity.
use Rattle.std.specs.Prelude.{◌≡◌, ℕ, Bool, true, false, List, [], ◌∷◌, ◌++◌, Option, Some, None, filter, length, slice_get}
use Rattle.std.specs.List.{list_all}
use Rattle.bl_tree.specs.declared.c.CFunc.{CFunc}
use Rattle.bl_tree.specs.declared.c.CStmt.{CStmt, fold-CStmt}
use Rattle.bl_tree.specs.declared.c.CStmtKind.TheOpen.{CStmtKind-F, CStmt-F}
use Rattle.bl_tree.specs.declared.tree.StructDef.{StructDef}
use Rattle.bl_tree.specs.declared.tree.Unit.{Unit as UnitDef}
use Rattle.bl_cause.specs.Activities.{graph_position}
use Rattle.bl_ctree.specs.declared.instance.Instance.{Instance}
use Rattle.bl_ctree.specs.Instances.{setting_of}
use Rattle.bl_ctext_semantics.specs.Parts.{Parts}
use Rattle.bl_machine.specs.declared.machine.Activity.{Activity as InMachine}
use Rattle.bl_emit_acts.specs.Types.{unit_name}
use Rattle.bl_emit_laws.specs.Counters.Flags.{HasFlagForEach}
use Rattle.bl_emit_laws.specs.Counters.Own.{functions_named}

-- ---- forms of statements

-- whether a statement's form is an assignment
abbrev pub kind_sets : CStmtKind-F Bool Bool → Bool
kind_sets (CStmtKind-F.Set place expr) = true
kind_sets _ = false

-- whether a statement's form is an `if` without an `else`
abbrev pub kind_asks : CStmtKind-F Bool Bool → Bool
kind_asks (CStmtKind-F.If condition block None) = true
kind_asks _ = false

-- the answer for a statement is that for its form
abbrev pub stmt_answer : CStmt-F Bool Bool → Bool
stmt_answer stmt = stmt.what

-- whether a statement is an assignment
abbrev pub is_setting : CStmt → Bool
is_setting = fold-CStmt Bool Bool kind_sets stmt_answer

-- whether a statement is an `if` without an `else`
abbrev pub is_if : CStmt → Bool
is_if = fold-CStmt Bool Bool kind_asks stmt_answer

-- the `if`s that stand directly in a body
abbrev pub ifs_in : List CStmt → List CStmt
ifs_in body = filter is_if body

-- ---- bodies

-- a body is assignments, and then as many `if`s as there are blocks, and nothing else
pub record HasIfForEach (blocks : List (List ℕ)) (body : List CStmt) : Type 0 where
  pub before : List CStmt
  pub settings : list_all is_setting before ≡ true
  pub is : body ≡ before ++ ifs_in body
  pub many : length (ifs_in body) ≡ length blocks

-- the file has one function `a_A` of the activity A, with one `if` in its body for each block of the machine's part, and one flag for each block whose first
-- node waits by its flag
pub record FunctionHasIfs (activity : UnitDef) (part : Option InMachine) (file : Parts) : Type 0 where
  pub one : InMachine
  pub is : part ≡ Some one
  pub function : CFunc
  pub functions : functions_named (unit_name activity.name) file ≡ function ∷ []
  pub body : HasIfForEach one.blocks function.body
  pub flags : HasFlagForEach activity one function (ifs_in function.body)

-- the activity of each instance has one function in the file, with one `if` in its body for each of the machine's blocks, and the flags that these ask for
abbrev pub EachFunctionHasIfs : List StructDef → List UnitDef → ℕ → List InMachine → Parts → Type 0
EachFunctionHasIfs structs units entry machine file =
    (i : ℕ) (instance : Instance) (activity : UnitDef) → slice_get (setting_of structs units entry).instances i ≡ Some instance →
    slice_get units instance.unit ≡ Some activity →
    FunctionHasIfs activity (slice_get machine (graph_position units instance.unit)) file
