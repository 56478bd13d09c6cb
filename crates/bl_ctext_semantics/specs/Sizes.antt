-- How many cells a C file needs while it runs.
use Rattle.std.specs.Prelude.{ℕ, ◌+◌, ◌*◌, Bool, true, false, max, List, [], ◌∷◌, ◌++◌, map, length, Option, Some, None, codes, if◌then◌else◌}
use Rattle.bl_tree.specs.declared.c.CType.{CType}
use Rattle.bl_tree.specs.declared.c.CType.TheVariants.{Scalar as OfScalar, Struct as OfStruct}
use Rattle.bl_tree.specs.declared.c.CMember.{CMember}
use Rattle.bl_tree.specs.declared.c.CStruct.{CStruct}
use Rattle.bl_tree.specs.declared.c.CParam.{CParam}
use Rattle.bl_tree.specs.declared.c.CFunc.{CFunc}
use Rattle.bl_tree.specs.Reduce.{total, greatest}
use Rattle.bl_ctext_semantics.specs.Parts.{Parts}
use Rattle.bl_ctext_semantics.specs.Tables.{Table, no_entries, with_entry, entry_or}
use Rattle.bl_ctext_semantics.specs.Loops.{turns_in_block}
use Rattle.bl_ctext_semantics.specs.Calls.{calls_in_block, most}

-- ---- types

-- how many scalars each earlier struct has
abbrev pub Sizes : Type 0
Sizes = Table ℕ

-- how many scalars a value of a type has
abbrev pub size_of_type : Sizes → CType → ℕ
size_of_type known (OfScalar kind) = 1
size_of_type known (OfStruct name) = entry_or 0 known name

-- how many cells an array of such elements has, or one element
abbrev pub size_of_length : Option ℕ → ℕ → ℕ
size_of_length None size = size
size_of_length (Some length) size = length * size

-- how many cells a member has, where those of each struct are known
abbrev pub size_of_member : Sizes → CMember → ℕ
size_of_member known m = size_of_length m.length (size_of_type known m.ty)

-- how many scalars a struct has
abbrev pub size_of_struct : Sizes → CStruct → ℕ
size_of_struct known s = total (map (size_of_member known) s.members)

-- the structs, each over those before it
abbrev pub sizes_after : Sizes → List CStruct → Sizes
sizes_after known [] = known
sizes_after known (s ∷ rest) = sizes_after (with_entry known s.name (size_of_struct known s)) rest

-- how many scalars each struct of a file has
abbrev pub sizes : List CStruct → Sizes
sizes = sizes_after no_entries

-- ---- functions

-- a pointer is one cell, whatever it leads to
abbrev pub size_of_param : Sizes → CParam → ℕ
size_of_param known param = if param.pointer then 1 else size_of_type known param.ty

-- the cells of a function's own parameters and locals; each loop's counter is one local
abbrev pub own_cells : Sizes → CFunc → ℕ
own_cells known function =
    total (map (size_of_param known) function.params)
    + (total (map (λ l. size_of_type known l.ty) function.locals) + length (turns_in_block function.body))

-- the cells of the deepest chain of calls that a function heads: its own, and the most of its callees. Functions of the prelude have none
abbrev pub chain_cells : Sizes → Table ℕ → CFunc → ℕ
chain_cells known earlier function = own_cells known function + most earlier (calls_in_block function.body)

-- the functions in order, each over those before it
abbrev pub chains_after : Sizes → Table ℕ → List CFunc → List ℕ
chains_after known earlier [] = []
chains_after known earlier (function ∷ rest) =
    chain_cells known earlier function ∷ chains_after known (with_entry earlier function.name (chain_cells known earlier function)) rest

-- the cells of the deepest chain over all functions, those too that nobody calls
abbrev pub deepest_chain : Sizes → List CFunc → ℕ
deepest_chain known functions = greatest (chains_after known no_entries functions)

-- how many cells a file needs: its three objects, and its deepest chain of parameters and locals
abbrev pub cells_needed : Parts → ℕ
cells_needed file =
    let known : Sizes = sizes file.structs in
    entry_or 0 known (codes "bl_state") + (entry_or 0 known (codes "bl_in") + (entry_or 0 known (codes "bl_out") + deepest_chain known file.funcs))
