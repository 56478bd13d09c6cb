use Rattle.std.proofs.Common.{refl, arith}
use Rattle.bl_tree.proofs.Basics.{at_most_itself}
use Rattle.bl_parse.specs.Statements.{SpellsFields}
use Rattle.bl_parse.proofs.PartLemmas.{dotted}
use Rattle.bl_parse.proofs.ReadLemmas.{next_name, after, then, read, pass, stay, no_sign}
use Rattle.bl_parse.proofs.parts.fields.Goals as goal

pub dots-init : goal.dots-init
dots-init c = record { fields = SpellsFields.none c.new-fields.ensures refl; keeps = record { keeps = λ part is. stay }; ahead = at_most_itself c.args.at.now }

pub take-requires : goal.take-requires
take-requires c = record { stands = c.stands.ensures.kind.0 c.dots-test.true }

pub name-requires : goal.name-requires
name-requires c = record {
  stands = next_name (after c.requires.awaits.awaits
      (then (c.dots.invariant.keeps.keeps c.requires.awaits.part c.requires.awaits.is)
      (then (dotted c.requires.awaits.part c.requires.awaits.is (c.stands.ensures.kind.0 c.dots-test.true)) (pass c.take.ensures.next))));
}

pub dots-preserved : goal.dots-preserved
dots-preserved c = record {
  fields = SpellsFields.more c.dots.invariant.fields c.take.ensures.taken c.in_ok-name.ensures.spelled c.in_ok-push.ensures.ok;
  keeps = record {
    keeps = λ part is. then (c.dots.invariant.keeps.keeps part is)
        (then (dotted part is (c.stands.ensures.kind.0 c.dots-test.true)) (then (pass c.take.ensures.next) (read c.in_ok-name.ensures.follows)));
  };
  ahead = omega (arith, c.dots.invariant.ahead, c.take.ensures.next, c.in_ok-name.ensures.next);
}

pub returns-clause-ends : goal.returns-clause-ends
returns-clause-ends c = no_sign (c.stands.ensures.not c.dots-test.false)
