use Rattle.std.proofs.Common.{refl, ◌∷◌, []}
use Rattle.bl_parse_syntax.specs.declared.grammar.Part.TheVariants.{Struct, Constant, Unit}
use Rattle.bl_parse_syntax.specs.Grammar.{the, class_of}
use Rattle.bl_parse.specs.Programs.{SpellsItem}
use Rattle.bl_parse.proofs.PartLemmas.{off_at, item_unit}
use Rattle.bl_parse.proofs.ReadLemmas.{after, then, opened, opened_rest, no_word}
use Rattle.bl_parse.proofs.item.item.Goals as goal

pub structure-requires : goal.structure-requires
structure-requires c = record { awaits = after c.requires.awaits (opened (the Struct ∷ []) (λ v. refl) (c.if-stands.ensures.kind.0 refl) refl) }

pub constant-requires : goal.constant-requires
constant-requires c = record { awaits = after c.requires.awaits (opened (the Constant ∷ []) (λ v. refl) (c.if-stands-2.ensures.kind.0 refl) refl) }

pub unit-requires : goal.unit-requires
unit-requires c = record {
  awaits = after c.requires.awaits
      (opened_rest (the Unit ∷ []) (λ v. refl) refl (λ kind is. item_unit (class_of kind)
      (off_at (no_word (c.if-stands.ensures.not refl)) kind is) (off_at (no_word (c.if-stands-2.ensures.not refl)) kind is)));
}

pub returns-in_ok-structure-clause-spelled : goal.returns-in_ok-structure-clause-spelled
returns-in_ok-structure-clause-spelled c = SpellsItem.structure c.in_ok-structure.ensures.spelled refl

pub returns-in_ok-structure-clause-follows : goal.returns-in_ok-structure-clause-follows
returns-in_ok-structure-clause-follows c = then (opened (the Struct ∷ []) (λ v. refl) (c.if-stands.ensures.kind.0 refl) refl)
    (c.in_ok-structure.ensures.follows)

pub returns-in_ok-constant-clause-spelled : goal.returns-in_ok-constant-clause-spelled
returns-in_ok-constant-clause-spelled c = SpellsItem.constant c.in_ok-constant.ensures.spelled refl

pub returns-in_ok-constant-clause-follows : goal.returns-in_ok-constant-clause-follows
returns-in_ok-constant-clause-follows c = then (opened (the Constant ∷ []) (λ v. refl) (c.if-stands-2.ensures.kind.0 refl) refl)
    (c.in_ok-constant.ensures.follows)

pub returns-in_ok-unit-clause-spelled : goal.returns-in_ok-unit-clause-spelled
returns-in_ok-unit-clause-spelled c = SpellsItem.unit c.in_ok-unit.ensures.spelled refl

pub returns-in_ok-unit-clause-follows : goal.returns-in_ok-unit-clause-follows
returns-in_ok-unit-clause-follows c = then (opened_rest (the Unit ∷ []) (λ v. refl) refl
    (λ kind is. item_unit (class_of kind) (off_at (no_word (c.if-stands.ensures.not refl)) kind is)
    (off_at (no_word (c.if-stands-2.ensures.not refl)) kind is))) (c.in_ok-unit.ensures.follows)
