use Rattle.std.proofs.Common.{refl, ◌∷◌, []}
use Rattle.bl_parse_syntax.specs.declared.grammar.Part.TheVariants.{Params}
use Rattle.bl_parse_syntax.specs.Grammar.{the}
use Rattle.bl_parse.specs.Programs.{SpellsOutputParams}
use Rattle.bl_parse.proofs.ReadLemmas.{after, then, opened, omit, no_sign}
use Rattle.bl_parse.proofs.item.output_params.Goals as goal

pub params-requires : goal.params-requires
params-requires c = record { awaits = after c.requires.awaits (opened (the Params ∷ []) (λ v. refl) (c.if-stands.ensures.kind.0 refl) refl) }

pub returns-in_ok-params-clause-spelled : goal.returns-in_ok-params-clause-spelled
returns-in_ok-params-clause-spelled c = SpellsOutputParams.written c.in_ok-params.ensures.spelled

pub returns-in_ok-params-clause-follows : goal.returns-in_ok-params-clause-follows
returns-in_ok-params-clause-follows c = then (opened (the Params ∷ []) (λ v. refl) (c.if-stands.ensures.kind.0 refl) refl) (c.in_ok-params.ensures.follows)

pub returns-else-stands-clause-spelled : goal.returns-else-stands-clause-spelled
returns-else-stands-clause-spelled c = SpellsOutputParams.absent c.new.ensures refl

pub returns-else-stands-clause-follows : goal.returns-else-stands-clause-follows
returns-else-stands-clause-follows c = omit refl (no_sign (c.if-stands.ensures.not refl))
