use Rattle.std.proofs.Common.{refl, ◌∷◌, []}
use Rattle.bl_tree.specs.declared.token.Keyword.TheVariants as keyword
use Rattle.bl_parse_syntax.specs.declared.grammar.Part.TheVariants.{UnitTail}
use Rattle.bl_parse_syntax.specs.Grammar.{name, word, the, class_of}
use Rattle.bl_tree.specs.declared.token.TokenKind.TheVariants.{Word}
use Rattle.bl_parse.specs.Programs.{IsUnit}
use Rattle.bl_parse.proofs.PartLemmas.{off_at, plain_activity}
use Rattle.bl_parse.proofs.ReadLemmas.{next_word, after, then, pass, opened, opened_rest, no_word}
use Rattle.bl_parse.proofs.item.unit_kind.Goals as goal

pub take-requires : goal.take-requires
take-requires c = record { stands = c.if-stands.ensures.kind.0 refl }

pub take-requires-else-stands : goal.take-requires-else-stands
take-requires-else-stands c = record {
  stands = next_word
      (after c.requires.awaits (opened_rest (word keyword.Activity ∷ name ∷ the UnitTail ∷ []) (λ v. refl) refl
      (λ kind is. plain_activity (class_of kind) (off_at (no_word (c.if-stands.ensures.not refl)) kind is))));
}

pub returns-then-stands-clause-spelled : goal.returns-then-stands-clause-spelled
returns-then-stands-clause-spelled c = record { word = Word keyword.Function; token = c.take.ensures.taken; is = IsUnit.function }

pub returns-then-stands-clause-follows : goal.returns-then-stands-clause-follows
returns-then-stands-clause-follows c = then (opened (word keyword.Function ∷ name ∷ the UnitTail ∷ []) (λ v. refl)
    (c.if-stands.ensures.kind.0 refl) refl) (pass c.take.ensures.next)

pub returns-else-stands-clause-spelled : goal.returns-else-stands-clause-spelled
returns-else-stands-clause-spelled c = record { word = Word keyword.Activity; token = c.take-else-stands.ensures.taken; is = IsUnit.activity }

pub returns-else-stands-clause-follows : goal.returns-else-stands-clause-follows
returns-else-stands-clause-follows c = then (opened_rest (word keyword.Activity ∷ name ∷ the UnitTail ∷ []) (λ v. refl) refl
    (λ kind is. plain_activity (class_of kind) (off_at (no_word (c.if-stands.ensures.not refl)) kind is))) (pass c.take-else-stands.ensures.next)
