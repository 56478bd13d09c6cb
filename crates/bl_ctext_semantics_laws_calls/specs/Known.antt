-- What a C function does where different functions are known.
use Rattle.std.specs.Prelude.{◌≡◌, ℕ, List, All, None}
use Rattle.bl_tree.specs.declared.text.Text.{Text}
use Rattle.bl_tree.specs.declared.c.CFunc.{CFunc}
use Rattle.bl_ctext_semantics.specs.Builtin.{builtin_of}
use Rattle.bl_ctext_semantics.specs.Calls.{calls_in_block}
use Rattle.bl_ctext_semantics.specs.Meaning.{ArgumentValue, Meaning, applied, function_c}
use Rattle.bl_ctext_semantics.specs.Memory.{Memory}
use Rattle.bl_ctext_semantics.specs.Tables.{Table}

-- a call of the function of this name does the same in both tables, or it is one of the prelude, whatever the tables know
abbrev pub AreAlike : Table Meaning → Table Meaning → Text → Type 0
AreAlike one other name =
    builtin_of name ≡ None → (depth : ℕ) (passed : List ArgumentValue) (memory : Memory) →
    applied (one name) depth passed memory ≡ applied (other name) depth passed memory

-- a C function does the same over two tables where all that its body calls does
abbrev pub CallsDecide : Type 0
CallsDecide =
    (one other : Table Meaning) (function : CFunc) → All (AreAlike one other) (calls_in_block function.body) →
    (depth : ℕ) (passed : List ArgumentValue) (memory : Memory) →
    function_c one function depth passed memory ≡ function_c other function depth passed memory
