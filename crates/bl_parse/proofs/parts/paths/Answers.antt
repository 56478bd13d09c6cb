use Rattle.std.proofs.Common.{refl, arith, ◌∷◌, []}
use Rattle.bl_lex.specs.declared.sign.TheConstants.{COMMA}
use Rattle.bl_parse_syntax.specs.declared.grammar.Part.TheVariants.{OutputRest, Path}
use Rattle.bl_parse_syntax.specs.Grammar.{sign, the}
use Rattle.bl_parse.specs.Statements.{SpellsPaths}
use Rattle.bl_parse.proofs.ExprLemmas.{pushed_first}
use Rattle.bl_parse.proofs.ReadLemmas.{first, after, then, read, pass, opened, omit, no_sign}
use Rattle.bl_parse.proofs.parts.paths.Goals as goal

pub path-requires : goal.path-requires
path-requires c = record { awaits = first c.requires.awaits }

pub commas-init : goal.commas-init
commas-init c = record {
  paths = SpellsPaths.first c.in_ok-path.ensures.spelled
      (pushed_first c.new-paths.ensures c.in_ok-push.ensures.ok);
  follows = read c.in_ok-path.ensures.follows;
  ahead = c.in_ok-path.ensures.ahead;
}

pub take-requires : goal.take-requires
take-requires c = record { stands = c.stands.ensures.kind.0 c.commas-test.true }

pub path-requires-in-commas : goal.path-requires-in-commas
path-requires-in-commas c = record {
  awaits = first
      (after c.requires.awaits (then (c.commas.invariant.follows)
      (then (opened (sign COMMA ∷ the Path ∷ the OutputRest ∷ []) (λ v. refl) (c.stands.ensures.kind.0 c.commas-test.true) refl)
      (pass c.take.ensures.next))));
}

pub commas-preserved : goal.commas-preserved
commas-preserved c = record {
  paths = SpellsPaths.more c.commas.invariant.paths c.take.ensures.taken c.in_ok-path-2.ensures.spelled c.in_ok-push-2.ensures.ok;
  follows = then (c.commas.invariant.follows) (then (opened (sign COMMA ∷ the Path ∷ the OutputRest ∷ []) (λ v. refl)
      (c.stands.ensures.kind.0 c.commas-test.true) refl) (then (pass c.take.ensures.next) (read c.in_ok-path-2.ensures.follows)));
  ahead = omega (arith, c.commas.invariant.ahead, c.take.ensures.next, c.in_ok-path-2.ensures.ahead);
}

pub returns-clause-follows : goal.returns-clause-follows
returns-clause-follows c = then (c.commas.invariant.follows) (omit refl (no_sign (c.stands.ensures.not c.commas-test.false)))
