-- Which declarations the place of a use takes.
use Rattle.std.specs.Prelude.{Bool, true, false}
use Rattle.bl_names_scopes.specs.declared.kind.Kind.{Kind}
use Rattle.bl_names_scopes.specs.declared.kind.Kind.TheVariants as kind
use Rattle.bl_names_scopes.specs.declared.kind.Wanted.{Wanted}
use Rattle.bl_names_scopes.specs.declared.kind.Wanted.TheVariants as wanted

-- whether a kind of declaration fits the place of its use, such as a struct for a type and a constant for a length
abbrev pub suits : Wanted → Kind → Bool
suits wanted.Type kind.Struct = true
suits wanted.Length kind.Constant = true
suits wanted.Function kind.Function = true
suits wanted.Activity kind.Activity = true
suits wanted.Variable kind.Variable = true
suits wanted.Value kind.Variable = true
suits wanted.Value kind.Constant = true
suits _ _ = false
