-- What fails at a mark.
use Rattle.std.specs.Prelude.{Option, Some, None, if◌then◌else◌}
use Rattle.bl_tree.specs.declared.place.Place.{Place}
use Rattle.bl_tree.specs.declared.rule.Failure.{Failure}
use Rattle.bl_tree.specs.declared.rule.Further.{Further}
use Rattle.bl_tree.specs.declared.rule.Further.TheVariants.{Nothing, One}
use Rattle.bl_tree.specs.declared.rule.Rule.{Rule}
use Rattle.bl_tree.specs.declared.rule.Rule.TheVariants as rule
use Rattle.bl_parse_tree.specs.declared.name.Name.{Name}
use Rattle.bl_names_scopes.specs.declared.kind.Wanted.{Wanted}
use Rattle.bl_names_scopes.specs.declared.scopes.Declaration.{Declaration}
use Rattle.bl_names_scopes.specs.Kinds.{suits}
use Rattle.bl_names_scopes.specs.Marks.{Mark, opens, closes, declares, uses}
use Rattle.bl_names_scopes.specs.Scopes.{Scopes, bound, found}

-- the failure of a rule at a place, with further places
abbrev pub failure : Rule → Place → Further → Failure
failure of at further = record { rule = of; at = at; further = further }

-- a declaration of a name that its scope declares earlier
abbrev pub declared_twice : Name → Option Declaration → Option Failure
declared_twice name (Some earlier) = Some (failure rule.Duplicate name.place (One earlier.place))
declared_twice name None = None

-- a use of a name that no open scope declares, or that stands for another kind of thing than is wanted
abbrev pub misused : Name → Wanted → Option Declaration → Option Failure
misused name wanted (Some declaration) = if suits wanted declaration.kind then None else Some (failure rule.Kind name.place (One declaration.place))
misused name wanted None = Some (failure rule.Unknown name.place Nothing)

-- what fails at a mark where these scopes are open
abbrev pub failure_at : Scopes → Mark → Option Failure
failure_at scopes opens = None
failure_at scopes closes = None
failure_at scopes (declares name kind) = declared_twice name (found scopes.inner name.text)
failure_at scopes (uses name wanted) = misused name wanted (bound scopes name.text)
