use Rattle.bl_ctext.specs.Spelling.{step_tokens}
use Rattle.bl_ctext.specs.Spellable.{spells_step}
use Rattle.std.proofs.Common.{rules, sym, ◌∙◌}
use Rattle.bl_cparse.proofs.StmtOpening.{tail_more}
use Rattle.bl_cparse.proofs.ListLemmas.{joined_more}
use Rattle.bl_cparse.proofs.parser.place.place.Goals as goal
use Rattle.bl_cparse_syntax_laws.proofs.Told.{all_more}

pub loop-r-preserved : goal.loop-r-preserved
loop-r-preserved c = record {
  read =
      rw c.in_ok-push.ensures.ok (
        joined_more step_tokens _ _ _ c.loop-r.steps c.in_ok-step.step c.loop-r.invariant.read.0 c.in_ok-step.ensures.read.0,
        all_more spells_step c.loop-r.steps c.in_ok-step.step c.loop-r.invariant.read.1 c.in_ok-step.ensures.read.1,
      );
  follows = λ tail is rest e. let o = tail_more tail is (sym c.sees.ensures.is ∙ c.loop-r-test.true)
      (c.loop-r.invariant.follows tail is rest e) in search rules;
}

pub loop-r-init : goal.loop-r-init
loop-r-init c = record { read = search rules; follows = λ tail is rest e. e }

pub returns-in_err-step-clause-follows : goal.returns-in_err-step-clause-follows
returns-in_err-step-clause-follows c = λ tail is rest e. let o =
    tail_more tail is (sym c.sees.ensures.is ∙ c.loop-r-test.true) (c.loop-r.invariant.follows tail is rest e) in search rules

pub returns-clause-follows : goal.returns-clause-follows
returns-clause-follows c = λ tail is rest e. c.loop-r.invariant.follows tail is rest e

pub returns-clause-ends : goal.returns-clause-ends
returns-clause-ends c = sym c.sees.ensures.is ∙ c.loop-r-test.false
