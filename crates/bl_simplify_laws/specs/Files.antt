-- Files of which each function does the same but for counts have the same trace.
use Rattle.std.specs.Prelude.{◌≡◌, ℤ, true, List, [], ◌∷◌}
use Rattle.std.specs.List.{list_all}
use Rattle.bl_tree.specs.declared.text.Text.{Text}
use Rattle.bl_tree.specs.declared.c.CFunc.{CFunc}
use Rattle.bl_tree.specs.declared.c.CStruct.{CStruct}
use Rattle.bl_ctext_semantics.specs.Meaning.{Meaning, function_c, meanings}
use Rattle.bl_ctext_semantics.specs.Tables.{Table, found}
use Rattle.bl_ctext_semantics.specs.Trace.{c_trace}
use Rattle.bl_simplify_laws.specs.Frames.{TableKeeps}
use Rattle.bl_simplify_laws.specs.Tables.{CallsAlike, KnownAlike, function_stands}

-- two functions do the same in all calls that may be made, over each table of functions that keep to their pointers
pub record SameFunction (framed : List Text) (f g : CFunc) : Type 0 where
  pub same : (known : Table Meaning) → TableKeeps known → CallsAlike framed f.name (function_c known f) (function_c known g)

-- the functions of two files have the same names and do the same, each the one that stands there in the other
abbrev pub SameFunctions : List Text → List CFunc → List CFunc → Type 0
SameFunctions framed [] [] = Unit {0}
SameFunctions framed (f ∷ fs) (g ∷ gs) = (f.name ≡ g.name) × SameFunction framed f g × SameFunctions framed fs gs
SameFunctions framed [] (g ∷ gs) = ⊥
SameFunctions framed (f ∷ fs) [] = ⊥

-- a function does the same as itself, and what does the same as a function that does the same as another does so too
abbrev pub SameFunctionsChain : Type 0
SameFunctionsChain =
    ((framed : List Text) (f : CFunc) → SameFunction framed f f)
    × ((framed : List Text) (f g h : CFunc) → f.name ≡ g.name → SameFunction framed f g → SameFunction framed g h → SameFunction framed f h)

-- a function of a name does the same in both of two files of which each function does, where all calls in the first may be made
abbrev pub FunctionsOfFilesAlike : Type 0
FunctionsOfFilesAlike =
    (framed : List Text) (fs gs : List CFunc) → list_all (function_stands framed) fs ≡ true → SameFunctions framed fs gs →
    (name : Text) → KnownAlike framed name (found name (meanings fs)) (found name (meanings gs))

-- files with the same structs have the same trace if each function does the same, where all calls in the first may be made
abbrev pub SameTrace : Type 0
SameTrace =
    (framed : List Text) (structs : List CStruct) (fs gs : List CFunc) → list_all (function_stands framed) fs ≡ true → SameFunctions framed fs gs →
    (rows : List (List ℤ)) → c_trace (record { structs = structs; funcs = fs }) rows ≡ c_trace (record { structs = structs; funcs = gs }) rows
