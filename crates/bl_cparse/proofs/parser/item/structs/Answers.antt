use Rattle.bl_ctext.specs.Spelling.{struct_tokens}
use Rattle.bl_ctext.specs.Spellable.{spells_struct}
use Rattle.std.proofs.Common.{rules, sym, ◌∙◌}
use Rattle.bl_cparse.proofs.ItemOpening.{structs_more, structs_end}
use Rattle.bl_cparse.proofs.ListLemmas.{joined_more, any_more}
use Rattle.bl_cparse.proofs.parser.item.structs.Goals as goal
use Rattle.bl_cparse_syntax_laws.proofs.Told.{all_more}

pub loop-structs-preserved : goal.loop-structs-preserved
loop-structs-preserved c = record {
  read =
      rw c.in_ok-push-2.ensures.ok (
        joined_more struct_tokens _ _ _ c.loop-structs.structs c.in_ok-structure-2.field-0 c.loop-structs.invariant.read.0 c.in_ok-structure-2.ensures.read.0,
        (
          any_more c.loop-structs.structs c.in_ok-structure-2.field-0,
          all_more spells_struct c.loop-structs.structs c.in_ok-structure-2.field-0 c.loop-structs.invariant.read.1.1 c.in_ok-structure-2.ensures.read.1,
        ),
      );
  follows = λ room rest e. let o = structs_more (sym c.sees.ensures.is ∙ c.loop-structs-test.true)
      (c.loop-structs.invariant.follows room rest e) in search rules;
}

pub loop-structs-init : goal.loop-structs-init
loop-structs-init c = record { read = search rules; follows = λ room rest e. search rules }

pub returns-in_err-structure-2-clause-follows : goal.returns-in_err-structure-2-clause-follows
returns-in_err-structure-2-clause-follows c = λ room rest e. let o =
    structs_more (sym c.sees.ensures.is ∙ c.loop-structs-test.true) (c.loop-structs.invariant.follows room rest e) in search rules

pub returns-clause-follows : goal.returns-clause-follows
returns-clause-follows c = λ room rest e. structs_end (sym c.sees.ensures.is ∙ c.loop-structs-test.false) (c.loop-structs.invariant.follows room rest e)
