use Rattle.std.proofs.Common.{◌≡◌, ℕ, List, drop}
use Rattle.std.specs.Option.{option_or}
use Rattle.bl_tree.specs.declared.c.CLocal.{CLocal}
use Rattle.bl_ctext_semantics.specs.Tables.{found}
use Rattle.bl_ctext_semantics_laws.specs.Layout.{params_laid}
use Rattle.bl_crun_code_layout.specs.Views.{sizes_in, slots_known}
use Rattle.bl_crun_code_layout.proofs.layout.add_params.Given as goal

abbrev pub invariant-loop-param : goal.invariant-loop-param
invariant-loop-param l = (locals : List CLocal) (asked : List ℕ) →
    option_or (slots_known l.slots asked) (found asked (params_laid (sizes_in l.sizes) l.at (drop l.param-index l.params) locals))
    ≡ option_or (slots_known l.fn.slots asked) (found asked (params_laid (sizes_in l.sizes) 0 l.params locals))
