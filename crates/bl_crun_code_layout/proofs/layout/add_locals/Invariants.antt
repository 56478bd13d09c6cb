use Rattle.std.proofs.Common.{◌≡◌, ℕ, List, drop}
use Rattle.std.specs.Option.{option_or}
use Rattle.bl_ctext_semantics.specs.Tables.{found}
use Rattle.bl_ctext_semantics_laws.specs.Layout.{locals_laid}
use Rattle.bl_crun_code_layout.specs.Views.{sizes_in, slots_known}
use Rattle.bl_crun_code_layout.proofs.layout.add_locals.Given as goal

abbrev pub invariant-loop-local : goal.invariant-loop-local
invariant-loop-local l = (asked : List ℕ) →
    option_or (slots_known l.slots asked) (found asked (locals_laid (sizes_in l.sizes) l.at (drop l.local-index l.locals)))
    ≡ option_or (slots_known l.fn.slots asked) (found asked (locals_laid (sizes_in l.sizes) l.from l.locals))
