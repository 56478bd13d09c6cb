-- Parts of the code of statements.
use Rattle.std.specs.Prelude.{ℕ, Bool, pos, [], ◌∷◌, Option, Some, None}
use Rattle.bl_tree.specs.declared.c.CType.{CType}
use Rattle.bl_tree.specs.declared.c.CType.TheVariants.{Struct as OfStruct}
use Rattle.bl_tree.specs.declared.c.CExpr.{CExpr}
use Rattle.bl_ctext_semantics.specs.Sizes.{Sizes}
use Rattle.bl_ctext_semantics.specs.Tables.{entry_or}
use Rattle.bl_ctext_semantics_laws.specs.Reaching.{Ground}
use Rattle.bl_crun_code.specs.declared.instruction.Operand.{Operand}
use Rattle.bl_crun_code.specs.declared.instruction.Operand.TheVariants as op
use Rattle.bl_crun_code.specs.declared.instruction.Act.TheVariants as act
use Rattle.bl_crun_code.specs.Code.{Code, FunctionEntry, Valued, address_in, ending_with, expr_valued, return_code, uncounted}

-- code that writes a value of a type at an operand, or copies a struct there
abbrev pub value_code : Sizes → Option CType → Valued → Bool → ℕ → Operand → Code
value_code known (Some (OfStruct name)) value late depth at =
    ending_with (value.ready late depth) (λ from. act.Copy (address_in at) from (entry_or 0 known name))
value_code known _ value late depth at = value.into late depth at

-- the code of a `return`
abbrev pub returned_code : Option CExpr → ℕ → Ground FunctionEntry → Code
returned_code None depth here = uncounted (act.Return (op.Literal (pos 0))) ∷ []
returned_code (Some value) depth here = return_code (expr_valued value here) depth
