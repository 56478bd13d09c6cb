use Rattle.bl_ctext.specs.Spelling.{param_tokens}
use Rattle.bl_ctext.specs.Spellable.{spells_param}
use Rattle.std.proofs.Common.{rules, sym, ◌∙◌}
use Rattle.bl_cparse.proofs.ItemOpening.{params_some, params_none, param_more, params_end}
use Rattle.bl_cparse.proofs.ListLemmas.{commas_more, any_more}
use Rattle.bl_cparse.proofs.parser.item.params.Goals as goal
use Rattle.bl_cparse_syntax_laws.proofs.Told.{all_more}

pub loop-params-preserved : goal.loop-params-preserved
loop-params-preserved c = record {
  read =
      rw c.in_ok-push-2.ensures.ok (
        commas_more param_tokens _ _ _ _ c.loop-params.params c.in_ok-param-2.field-0 c.loop-params.invariant.read.1.0
            c.loop-params.invariant.read.0 (c.eat.ensures.yes c.loop-params-test.true) c.in_ok-param-2.ensures.read.0,
        (
          any_more c.loop-params.params c.in_ok-param-2.field-0,
          all_more spells_param c.loop-params.params c.in_ok-param-2.field-0 c.loop-params.invariant.read.1.1 c.in_ok-param-2.ensures.read.1,
        ),
      );
  follows = λ room rest e. let o = param_more (sym c.eat.ensures.is ∙ c.loop-params-test.true) (c.loop-params.invariant.follows room rest e) in search rules;
}

pub loop-params-init : goal.loop-params-init
loop-params-init c = record { read = search rules; follows = λ room rest e. let o = params_some (sym c.sees.ensures.is ∙ c.if-sees.false) e in search rules }

pub returns-then-sees-clause-follows : goal.returns-then-sees-clause-follows
returns-then-sees-clause-follows c = λ room rest e. params_none (sym c.sees.ensures.is ∙ c.if-sees.true) e

pub returns-in_err-param-clause-follows : goal.returns-in_err-param-clause-follows
returns-in_err-param-clause-follows c = λ room rest e. let o = params_some (sym c.sees.ensures.is ∙ c.if-sees.false) e in search rules

pub returns-in_err-param-2-clause-follows : goal.returns-in_err-param-2-clause-follows
returns-in_err-param-2-clause-follows c = λ room rest e. let o =
    param_more (sym c.eat.ensures.is ∙ c.loop-params-test.true) (c.loop-params.invariant.follows room rest e) in search rules

pub returns-clause-follows : goal.returns-clause-follows
returns-clause-follows c = λ room rest e. rw (c.eat.ensures.no c.loop-params-test.false)
    (params_end (sym c.eat.ensures.is ∙ c.loop-params-test.false) (c.loop-params.invariant.follows room rest e))
