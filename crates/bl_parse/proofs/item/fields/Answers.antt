use Rattle.std.proofs.Common.{refl, arith, ◌∷◌, []}
use Rattle.bl_parse_syntax.specs.declared.grammar.Part.TheVariants.{Field, Fields}
use Rattle.bl_parse_syntax.specs.Grammar.{the}
use Rattle.bl_parse.specs.Programs.{SpellsFieldList}
use Rattle.bl_parse.proofs.ExprLemmas.{pushed_first}
use Rattle.bl_parse.proofs.ReadLemmas.{first, after, then, read, opened, omit, no_word}
use Rattle.bl_parse.proofs.item.fields.Goals as goal

pub field-requires : goal.field-requires
field-requires c = record { awaits = first c.requires.awaits }

pub vars-init : goal.vars-init
vars-init c = record {
  fields = SpellsFieldList.first c.in_ok-field.ensures.spelled
      (pushed_first c.new-fields.ensures c.in_ok-push.ensures.ok);
  follows = read c.in_ok-field.ensures.follows;
  ahead = c.in_ok-field.ensures.ahead;
}

pub field-requires-in-vars : goal.field-requires-in-vars
field-requires-in-vars c = record {
  awaits = first
      (after c.requires.awaits (then (c.vars.invariant.follows)
      (opened (the Field ∷ the Fields ∷ []) (λ v. refl) (c.stands.ensures.kind.0 c.vars-test.true) refl)));
}

pub vars-preserved : goal.vars-preserved
vars-preserved c = record {
  fields = SpellsFieldList.more c.vars.invariant.fields c.in_ok-field-2.ensures.spelled c.in_ok-push-2.ensures.ok;
  follows = then (c.vars.invariant.follows) (then (opened (the Field ∷ the Fields ∷ []) (λ v. refl)
      (c.stands.ensures.kind.0 c.vars-test.true) refl) (read c.in_ok-field-2.ensures.follows));
  ahead = omega (arith, c.vars.invariant.ahead, c.in_ok-field-2.ensures.ahead);
}

pub returns-clause-follows : goal.returns-clause-follows
returns-clause-follows c = then (c.vars.invariant.follows) (omit refl (no_word (c.stands.ensures.not c.vars-test.false)))
