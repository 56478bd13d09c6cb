use Rattle.std.proofs.Common.{[], ap, refl, ◌∷◌}
use Rattle.bl_parse_syntax.specs.Grammar.{name, number, class_of}
use Rattle.bl_parse_tree.specs.declared.types.RawLength.{RawLength}
use Rattle.bl_parse.specs.Types.{SpellsLength}
use Rattle.bl_parse.proofs.PartLemmas.{off_at, no_number, length_name}
use Rattle.bl_parse_syntax.specs.declared.grammar.Class.TheVariants.{AnyNumber}
use Rattle.bl_parse.proofs.ReadLemmas.{next_name, after, then, pass, opened, opened_rest}
use Rattle.bl_parse.proofs.types.read_length.Goals as goal

pub name-requires : goal.name-requires
name-requires c = record {
  stands = next_name (after c.requires.awaits
      (opened_rest (name ∷ []) (λ v. refl) refl (λ kind is. length_name (class_of kind)
      (off_at {tokens = c.args.source.now.tokens.now} {k = c.args.at.now} {classes = AnyNumber ∷ []}
      (record { off = no_number _ (c.in-None.ensures.none refl) }) kind is))));
}

pub returns-in-Some-clause-spelled : goal.returns-in-Some-clause-spelled
returns-in-Some-clause-spelled c = SpellsLength.number {n = c.in-Some.value} (record { stands = c.in-Some.ensures.some; next = refl })
    (ap (λ place. RawLength.Number (record { place = place; value = c.in-Some.value })) c.span-place.ensures)

pub returns-in-Some-clause-follows : goal.returns-in-Some-clause-follows
returns-in-Some-clause-follows c = then (opened (number ∷ []) (λ v. refl) c.in-Some.ensures.some refl) (pass refl)

pub returns-in_ok-name-in-None-clause-spelled : goal.returns-in_ok-name-in-None-clause-spelled
returns-in_ok-name-in-None-clause-spelled c = SpellsLength.constant c.in_ok-name-in-None.ensures.spelled refl

pub returns-in_ok-name-in-None-clause-follows : goal.returns-in_ok-name-in-None-clause-follows
returns-in_ok-name-in-None-clause-follows c = then
    (opened_rest (name ∷ []) (λ v. refl) refl (λ kind is. length_name (class_of kind)
    (off_at {tokens = c.args.source.now.tokens.now} {k = c.args.at.now} {classes = AnyNumber ∷ []}
    (record { off = no_number _ (c.in-None.ensures.none refl) }) kind is))) (c.in_ok-name-in-None.ensures.follows)
