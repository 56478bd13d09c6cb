use Rattle.bl_ctext.specs.Spelling.{local_tokens}
use Rattle.bl_ctext.specs.Spellable.{spells_local}
use Rattle.std.proofs.Common.{rules, sym, ◌∙◌}
use Rattle.bl_cparse.proofs.ItemOpening.{locals_more, locals_end}
use Rattle.bl_cparse.proofs.ListLemmas.{joined_more}
use Rattle.bl_cparse.proofs.parser.item.locals.Goals as goal
use Rattle.bl_cparse_syntax_laws.proofs.Told.{all_more}

pub loop-locals-preserved : goal.loop-locals-preserved
loop-locals-preserved c = record {
  read =
      rw c.in_ok-push.ensures.ok (
        joined_more local_tokens _ _ _ c.loop-locals.locals c.in_ok-local.field-0 c.loop-locals.invariant.read.0 c.in_ok-local.ensures.read.0,
        all_more spells_local c.loop-locals.locals c.in_ok-local.field-0 c.loop-locals.invariant.read.1 c.in_ok-local.ensures.read.1,
      );
  follows = λ room rest e. let o = locals_more (sym c.begins_local.ensures ∙ c.loop-locals-test.true)
      (c.loop-locals.invariant.follows room rest e) in search rules;
}

pub loop-locals-init : goal.loop-locals-init
loop-locals-init c = record { read = search rules; follows = λ room rest e. e }

pub returns-in_err-local-clause-follows : goal.returns-in_err-local-clause-follows
returns-in_err-local-clause-follows c = λ room rest e. let o =
    locals_more (sym c.begins_local.ensures ∙ c.loop-locals-test.true) (c.loop-locals.invariant.follows room rest e) in search rules

pub returns-clause-follows : goal.returns-clause-follows
returns-clause-follows c = λ room rest e. locals_end (sym c.begins_local.ensures ∙ c.loop-locals-test.false) (c.loop-locals.invariant.follows room rest e)
