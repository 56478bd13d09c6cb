-- What fails in a block depends on the functions that are called in it alone.
use Rattle.std.specs.Prelude.{◌≡◌, Bool, List, All, map}
use Rattle.bl_tree.specs.declared.text.Text.{Text}
use Rattle.bl_tree.specs.declared.c.CStmt.{CStmt}
use Rattle.bl_ctext_semantics.specs.Calls.{calls_in_block}
use Rattle.bl_ctext_semantics.specs.Faults.{Context, Signature, block_faults, faults_in_stmt}
use Rattle.bl_ctext_semantics.specs.Tables.{Table}

-- what is declared, where these functions stand before
abbrev pub with_functions : Context → Table Signature → Context
with_functions context functions = record {
  structs = context.structs;
  functions = functions;
  variables = context.variables;
  result = context.result;
  is_read_only = context.is_read_only;
}

-- two tables have the same function under a name, or none
abbrev pub KnowAlike : Table Signature → Table Signature → Text → Type 0
KnowAlike one other name = one name ≡ other name

-- the faults of a block are the same over two tables that agree on the functions that it calls
abbrev pub FaultsFollow : Type 0
FaultsFollow =
    (block : List CStmt) (context : Context) (one other : Table Signature) (looped : Bool) →
    All (KnowAlike one other) (calls_in_block block) →
    block_faults (map faults_in_stmt block) (with_functions context one) looped
    ≡ block_faults (map faults_in_stmt block) (with_functions context other) looped
