use Rattle.std.proofs.Common.{refl, arith, ◌∷◌, []}
use Rattle.bl_lex.specs.declared.sign.TheConstants.{COMMA}
use Rattle.bl_parse_syntax.specs.declared.grammar.Part.TheVariants.{ParamRest, Param}
use Rattle.bl_parse_syntax.specs.Grammar.{sign, the}
use Rattle.bl_parse.specs.Programs.{SpellsParamList}
use Rattle.bl_parse.proofs.ExprLemmas.{pushed_first}
use Rattle.bl_parse.proofs.ReadLemmas.{first, after, then, read, pass, opened, omit, no_sign}
use Rattle.bl_parse.proofs.item.listed_params.Goals as goal

pub param-requires : goal.param-requires
param-requires c = record { awaits = first c.requires.awaits }

pub commas-init : goal.commas-init
commas-init c = record {
  params = SpellsParamList.first c.in_ok-param.ensures.spelled
      (pushed_first c.new-params.ensures c.in_ok-push.ensures.ok);
  follows = read c.in_ok-param.ensures.follows;
  ahead = c.in_ok-param.ensures.ahead;
}

pub take-requires : goal.take-requires
take-requires c = record { stands = c.stands.ensures.kind.0 c.commas-test.true }

pub param-requires-in-commas : goal.param-requires-in-commas
param-requires-in-commas c = record {
  awaits = first
      (after c.requires.awaits (then (c.commas.invariant.follows)
      (then (opened (sign COMMA ∷ the Param ∷ the ParamRest ∷ []) (λ v. refl) (c.stands.ensures.kind.0 c.commas-test.true) refl)
      (pass c.take.ensures.next))));
}

pub commas-preserved : goal.commas-preserved
commas-preserved c = record {
  params = SpellsParamList.more c.commas.invariant.params c.take.ensures.taken c.in_ok-param-2.ensures.spelled c.in_ok-push-2.ensures.ok;
  follows = then (c.commas.invariant.follows) (then (opened (sign COMMA ∷ the Param ∷ the ParamRest ∷ []) (λ v. refl)
      (c.stands.ensures.kind.0 c.commas-test.true) refl) (then (pass c.take.ensures.next) (read c.in_ok-param-2.ensures.follows)));
  ahead = omega (arith, c.commas.invariant.ahead, c.take.ensures.next, c.in_ok-param-2.ensures.ahead);
}

pub returns-clause-follows : goal.returns-clause-follows
returns-clause-follows c = then (c.commas.invariant.follows) (omit refl (no_sign (c.stands.ensures.not c.commas-test.false)))
