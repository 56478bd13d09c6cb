use Rattle.bl_ctext.specs.Spelling.{member_tokens}
use Rattle.bl_ctext.specs.Spellable.{spells_member}
use Rattle.std.proofs.Common.{rules, sym, ◌∙◌}
use Rattle.bl_cparse.proofs.ItemOpening.{members_more, members_end}
use Rattle.bl_cparse.proofs.ListLemmas.{joined_more, any_more}
use Rattle.bl_cparse.proofs.ReadLemmas.{sign_seen}
use Rattle.std.specs.Prelude.{codes}
use Rattle.bl_cparse.proofs.parser.item.members.Goals as goal
use Rattle.bl_cparse_syntax_laws.proofs.Told.{all_more}

pub loop-members-preserved : goal.loop-members-preserved
loop-members-preserved c = record {
  read =
      rw c.in_ok-push-2.ensures.ok (
        joined_more member_tokens _ _ _ c.loop-members.members c.in_ok-member-2.field-0 c.loop-members.invariant.read.0 c.in_ok-member-2.ensures.read.0,
        (
          any_more c.loop-members.members c.in_ok-member-2.field-0,
          all_more spells_member c.loop-members.members c.in_ok-member-2.field-0 c.loop-members.invariant.read.1.1 c.in_ok-member-2.ensures.read.1,
        ),
      );
  follows = λ room rest e. let o = members_more (sym c.sees.ensures.is ∙ c.loop-members-test.true)
      (c.loop-members.invariant.follows room rest e) in search rules;
}

pub loop-members-init : goal.loop-members-init
loop-members-init c = record { read = search rules; follows = λ room rest e. search rules }

pub returns-in_err-member-2-clause-follows : goal.returns-in_err-member-2-clause-follows
returns-in_err-member-2-clause-follows c = λ room rest e. let o =
    members_more (sym c.sees.ensures.is ∙ c.loop-members-test.true) (c.loop-members.invariant.follows room rest e) in search rules

pub returns-clause-follows : goal.returns-clause-follows
returns-clause-follows c = λ room rest e. members_end
    (sign_seen (codes "}") c.loop-members.r (sym c.sees.ensures.is ∙ c.loop-members-test.false)) (c.loop-members.invariant.follows room rest e)
