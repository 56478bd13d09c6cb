use Rattle.bl_ctext.specs.Spelling.{arg_tokens}
use Rattle.bl_ctext.specs.Spellable.{spells_arg}
use Rattle.std.proofs.Common.{rules, sym, ◌∙◌}
use Rattle.bl_cparse.proofs.ExprOpening.{args_some, args_none, arg_more, args_end}
use Rattle.bl_cparse.proofs.ListLemmas.{commas_more, any_more}
use Rattle.bl_cparse.proofs.parser.place.arguments.Goals as goal
use Rattle.bl_cparse_syntax_laws.proofs.Told.{all_more}

pub loop-r-preserved : goal.loop-r-preserved
loop-r-preserved c = record {
  read =
      rw c.in_ok-push-2.ensures.ok (
        commas_more arg_tokens _ _ _ _ c.loop-r.args c.in_ok-next.next c.loop-r.invariant.read.1.0 c.loop-r.invariant.read.0
            (c.eat.ensures.yes c.loop-r-test.true) c.in_ok-next.ensures.read.0,
        (any_more c.loop-r.args c.in_ok-next.next, all_more spells_arg c.loop-r.args c.in_ok-next.next c.loop-r.invariant.read.1.1 c.in_ok-next.ensures.read.1),
      );
  follows = λ rest e. let o = arg_more (sym c.eat.ensures.is ∙ c.loop-r-test.true) (c.loop-r.invariant.follows rest e) in search rules;
}

pub loop-r-init : goal.loop-r-init
loop-r-init c = record { read = search rules; follows = λ rest e. let o = args_some (sym c.sees.ensures.is ∙ c.if-sees.false) e in search rules }

pub returns-then-sees-clause-follows : goal.returns-then-sees-clause-follows
returns-then-sees-clause-follows c = λ rest e. args_none (sym c.sees.ensures.is ∙ c.if-sees.true) e

pub returns-in_err-first-clause-follows : goal.returns-in_err-first-clause-follows
returns-in_err-first-clause-follows c = λ rest e. let o = args_some (sym c.sees.ensures.is ∙ c.if-sees.false) e in search rules

pub returns-in_err-next-clause-follows : goal.returns-in_err-next-clause-follows
returns-in_err-next-clause-follows c = λ rest e. let o =
    arg_more (sym c.eat.ensures.is ∙ c.loop-r-test.true) (c.loop-r.invariant.follows rest e) in search rules

pub returns-clause-follows : goal.returns-clause-follows
returns-clause-follows c = λ rest e. rw (c.eat.ensures.no c.loop-r-test.false)
    (args_end (sym c.eat.ensures.is ∙ c.loop-r-test.false) (c.loop-r.invariant.follows rest e))
