-- The first rule on names or types that fails is the first of both.
use Rattle.std.proofs.Common.{◌≡◌, subst}
use Rattle.bl_tree.specs.declared.rule.Refusal.{Refusal}
use Rattle.bl_tree.specs.declared.rule.Refusal.TheVariants as refusal
use Rattle.bl_names_tree.specs.declared.named.Named.{Named}
use Rattle.bl_names_scopes.specs.Cause.{IsCause as IsNamesCause}
use Rattle.bl_names_scopes.specs.Rules.{Passes as NamesPass}
use Rattle.bl_types_program.specs.Cause.{IsCause, names, types}
use Rattle.bl_types_program.specs.Programs.{named_of}
use Rattle.bl_parse_tree.specs.declared.raw.Raw.{Raw}
use Rattle.bl_types.specs.Rules.{IsCause as IsTypesCause}

pub names_cause : (raw : Raw) (told : Refusal) → IsNamesCause raw.items told → IsCause raw told
names_cause raw (refusal.Rule rule place also) first = names rule place also first
names_cause raw refusal.NoMemory first = tt

pub types_cause : (raw : Raw) (named : Named) (told : Refusal) → named ≡ named_of raw → NamesPass raw.items →
    IsTypesCause named told → IsCause raw told
types_cause raw named (refusal.Rule rule place also) same passes first =
    types rule place also passes (subst (λ n. IsTypesCause n (refusal.Rule rule place also)) same first)
types_cause raw named refusal.NoMemory same passes first = tt
