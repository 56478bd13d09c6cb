use Rattle.std.proofs.Common.{refl, ◌∷◌, []}
use Rattle.bl_lex.specs.declared.sign.TheConstants.{AT, OPEN_BRACKET, CLOSE_BRACKET}
use Rattle.bl_parse_syntax.specs.declared.grammar.Part.TheVariants.{PlainUnit}
use Rattle.bl_parse_syntax.specs.Grammar.{name, sign, the, class_of}
use Rattle.bl_parse.specs.Programs.{SpellsMark}
use Rattle.bl_parse.proofs.PartLemmas.{off_at, unit_plain}
use Rattle.bl_parse.proofs.ReadLemmas.{next_sign, next_name, after, then, pass, opened, opened_rest, no_sign}
use Rattle.bl_parse.proofs.item.mark.Goals as goal

pub take-requires : goal.take-requires
take-requires c = record { stands = c.if-stands.ensures.kind.0 refl }

pub take-requires-then-stands : goal.take-requires-then-stands
take-requires-then-stands c = record {
  stands = next_sign
      (after c.requires.awaits (then (opened (sign AT ∷ sign OPEN_BRACKET ∷ name ∷ sign CLOSE_BRACKET ∷ the PlainUnit ∷ [])
      (λ v. refl) (c.if-stands.ensures.kind.0 refl) refl) (pass c.take.ensures.next)));
}

pub take-requires-then-stands-2 : goal.take-requires-then-stands-2
take-requires-then-stands-2 c = record {
  stands = next_name
      (after c.requires.awaits (then (opened (sign AT ∷ sign OPEN_BRACKET ∷ name ∷ sign CLOSE_BRACKET ∷ the PlainUnit ∷ [])
      (λ v. refl) (c.if-stands.ensures.kind.0 refl) refl) (then (pass c.take.ensures.next) (pass c.take-then-stands.ensures.next))));
}

pub take-requires-then-stands-3 : goal.take-requires-then-stands-3
take-requires-then-stands-3 c = record {
  stands = next_sign
      (after c.requires.awaits (then (opened (sign AT ∷ sign OPEN_BRACKET ∷ name ∷ sign CLOSE_BRACKET ∷ the PlainUnit ∷ [])
      (λ v. refl) (c.if-stands.ensures.kind.0 refl) refl)
      (then (pass c.take.ensures.next) (then (pass c.take-then-stands.ensures.next) (pass c.take-then-stands-2.ensures.next)))));
}

pub returns-then-stands-clause-spelled : goal.returns-then-stands-clause-spelled
returns-then-stands-clause-spelled c = SpellsMark.written refl c.take.ensures.taken c.take-then-stands.ensures.taken
    c.take-then-stands-2.ensures.taken c.take-then-stands-3.ensures.taken

pub returns-then-stands-clause-follows : goal.returns-then-stands-clause-follows
returns-then-stands-clause-follows c = then (opened (sign AT ∷ sign OPEN_BRACKET ∷ name ∷ sign CLOSE_BRACKET ∷ the PlainUnit ∷ [])
    (λ v. refl) (c.if-stands.ensures.kind.0 refl) refl)
    (then (pass c.take.ensures.next) (then (pass c.take-then-stands.ensures.next)
    (then (pass c.take-then-stands-2.ensures.next) (pass c.take-then-stands-3.ensures.next))))

pub returns-else-stands-clause-spelled : goal.returns-else-stands-clause-spelled
returns-else-stands-clause-spelled c = SpellsMark.absent refl refl

pub returns-else-stands-clause-follows : goal.returns-else-stands-clause-follows
returns-else-stands-clause-follows c = opened_rest (the PlainUnit ∷ []) (λ v. refl) refl
    (λ kind is. unit_plain (class_of kind) (off_at (no_sign (c.if-stands.ensures.not refl)) kind is))
