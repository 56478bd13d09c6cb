-- Sites as the code has them.
use Rattle.bl_tree.specs.Typing.{TypingContext}
use Rattle.bl_emit_acts.specs.declared.site.UnitSite.{UnitSite as Declared}

-- the site of a unit's statements: what they see
abbrev pub site_in : Declared → TypingContext
site_in site = record { structs = site.structs.now; earlier = site.earlier.now; kind = site.kind; vars = site.vars.now; result = site.result }
