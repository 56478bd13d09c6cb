use Rattle.bl_ctext.specs.Spelling.{func_tokens}
use Rattle.bl_ctext.specs.Spellable.{spells_func}
use Rattle.std.proofs.Common.{rules}
use Rattle.bl_cparse.proofs.ItemOpening.{funcs_more}
use Rattle.bl_cparse.proofs.ReadLemmas.{some_left}
use Rattle.bl_cparse.proofs.ListLemmas.{joined_more, any_more}
use Rattle.bl_cparse.proofs.parser.item.funcs.Goals as goal
use Rattle.bl_cparse_syntax_laws.proofs.Told.{all_more}

pub loop-funcs-preserved : goal.loop-funcs-preserved
loop-funcs-preserved c = record {
  read =
      rw c.in_ok-push-2.ensures.ok (
        joined_more func_tokens _ _ _ c.loop-funcs.funcs c.in_ok-func-2.field-0 c.loop-funcs.invariant.read.0 c.in_ok-func-2.ensures.read.0,
        (
          any_more c.loop-funcs.funcs c.in_ok-func-2.field-0,
          all_more spells_func c.loop-funcs.funcs c.in_ok-func-2.field-0 c.loop-funcs.invariant.read.1.1 c.in_ok-func-2.ensures.read.1,
        ),
      );
  follows = λ e. let o = funcs_more (some_left (c.is_at_end.ensures.no c.loop-funcs-test.true)) (c.loop-funcs.invariant.follows e) in search rules;
}

pub loop-funcs-init : goal.loop-funcs-init
loop-funcs-init c = record { read = search rules; follows = λ e. search rules }

pub returns-in_err-func-2-clause-follows : goal.returns-in_err-func-2-clause-follows
returns-in_err-func-2-clause-follows c = λ e. let o =
    funcs_more (some_left (c.is_at_end.ensures.no c.loop-funcs-test.true)) (c.loop-funcs.invariant.follows e) in search rules
