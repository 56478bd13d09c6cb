use Rattle.std.proofs.Common.{◌≡◌, ◌++◌, drop, length}
use Rattle.bl_crun_code.specs.Code.{entries_from, functions_code}
use Rattle.bl_crun_code.specs.Laws.{code_of_file, entry_in_file}
use Rattle.bl_crun_code_layout.specs.Views.{entries_in, sizes_in, structs_in}
use Rattle.bl_crun_code_compiler.proofs.code.compile.Given as goal

abbrev pub invariant-loop-of : goal.invariant-loop-of
invariant-loop-of l =
    (l.code.items ++ functions_code (sizes_in l.around.sizes.now) (structs_in l.around.structs.now) (length l.code.items) (entries_in l.known)
    (drop l.of-index l.funcs) ≡ code_of_file l.structs l.funcs)
    × (entries_from (sizes_in l.around.sizes.now) (structs_in l.around.structs.now) (length l.code.items) (entries_in l.known) (drop l.of-index l.funcs)
    ≡ entry_in_file l.structs l.funcs)
