-- The program of a source, and what is written for it.
use Rattle.std.proofs.Common.{◌≡◌, ℕ, List, subst}
use Rattle.std.specs.Prelude.{Option}
use Rattle.bl_top_commands.specs.Sources.{IsProgramOfSource}
use Rattle.bl_types_program.specs.Programs.{typed_of}
use Rattle.bl_rules_laws_sizes.specs.Small.{IsOfSmallTree, TextsAreSmall}
use Rattle.bl_top.specs.Build.{IsBuiltOf, IsBuiltOfProgram}
use Rattle.bl_tree.specs.declared.program.Program.{Program}
use Rattle.bl_tree.specs.declared.tree.StructDef.{StructDef}
use Rattle.bl_tree.specs.declared.tree.Unit.{Unit as UnitDef}
use Rattle.bl_top_commands.proofs.Fronts.{tree_of_program}

pub is_of_small_tree : TextsAreSmall → (left : Option (List ℕ)) (program : Program) → IsProgramOfSource left program → IsOfSmallTree program
is_of_small_tree of left program is = of is.source program is.has

-- what is built of the program is built of the tree
built_of_tree : (text : List ℕ) (structs structs' : List StructDef) (units units' : List UnitDef) (entry entry' : ℕ) →
    structs ≡ structs' → units ≡ units' → entry ≡ entry' →
    IsBuiltOfProgram structs units entry text → IsBuiltOfProgram structs' units' entry' text
built_of_tree text structs structs' units units' entry entry' s u e is =
    subst (λ n. IsBuiltOfProgram structs' units' n text) e
    (subst (λ us. IsBuiltOfProgram structs' us entry text) u (subst (λ ss. IsBuiltOfProgram ss units entry text) s is))

-- and so for the source
pub built_of_source : (left : Option (List ℕ)) (program : Program) (text : List ℕ) → IsProgramOfSource left program →
    IsBuiltOfProgram program.structs program.units program.entry text → IsBuiltOf left text
built_of_source left program text made_of is =
    let made = made_of.has in
    let built : IsBuiltOfProgram (typed_of made.raw).structs (typed_of made.raw).units (typed_of made.raw).entry text =
    built_of_tree text program.structs (typed_of made.raw).structs program.units (typed_of made.raw).units program.entry (typed_of made.raw).entry
    made.is.structs made.is.units made.is.entry is in
    record { raw = made.raw; tree = tree_of_program left program made_of; is = built }
