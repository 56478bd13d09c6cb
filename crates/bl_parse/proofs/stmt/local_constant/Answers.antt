use Rattle.std.proofs.Common.{refl, ◌∷◌, []}
use Rattle.bl_parse_syntax.specs.declared.grammar.Part.TheVariants.{Constant}
use Rattle.bl_parse_syntax.specs.Grammar.{the}
use Rattle.bl_parse.specs.Statements.{SpellsKind}
use Rattle.bl_parse.proofs.ReadLemmas.{after, then, opened}
use Rattle.bl_parse.proofs.stmt.local_constant.Goals as goal

pub constant-requires : goal.constant-requires
constant-requires c = record { awaits = after c.requires.awaits (opened (the Constant ∷ []) (λ v. refl) c.requires.stands refl) }

pub returns-clause-spelled : goal.returns-clause-spelled
returns-clause-spelled c = SpellsKind.constant c.in_ok-constant.ensures.spelled refl

pub returns-clause-follows : goal.returns-clause-follows
returns-clause-follows c = then (opened (the Constant ∷ []) (λ v. refl) c.requires.stands refl) (c.in_ok-constant.ensures.follows)
