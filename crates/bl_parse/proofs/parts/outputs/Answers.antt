use Rattle.std.proofs.Common.{refl, ◌∷◌, []}
use Rattle.bl_parse_syntax.specs.declared.grammar.Part.TheVariants.{Outputs}
use Rattle.bl_parse_syntax.specs.Grammar.{the}
use Rattle.bl_parse.specs.Statements.{SpellsOutputs}
use Rattle.bl_parse.proofs.ReadLemmas.{after, then, opened, omit, no_sign}
use Rattle.bl_parse.proofs.parts.outputs.Goals as goal

pub listed_outputs-requires : goal.listed_outputs-requires
listed_outputs-requires c = record { awaits = after c.requires.awaits (opened (the Outputs ∷ []) (λ v. refl) (c.if-stands.ensures.kind.0 refl) refl) }

pub returns-in_ok-outputs-clause-follows : goal.returns-in_ok-outputs-clause-follows
returns-in_ok-outputs-clause-follows c = then (opened (the Outputs ∷ []) (λ v. refl) (c.if-stands.ensures.kind.0 refl) refl)
    (c.in_ok-outputs.ensures.follows)

pub returns-else-stands-clause-spelled : goal.returns-else-stands-clause-spelled
returns-else-stands-clause-spelled c = SpellsOutputs.absent c.new.ensures refl

pub returns-else-stands-clause-follows : goal.returns-else-stands-clause-follows
returns-else-stands-clause-follows c = omit refl (no_sign (c.if-stands.ensures.not refl))
