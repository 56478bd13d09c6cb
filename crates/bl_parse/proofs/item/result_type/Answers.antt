use Rattle.std.proofs.Common.{refl, ◌∷◌, []}
use Rattle.bl_tree.specs.declared.token.Keyword.TheVariants as keyword
use Rattle.bl_parse_syntax.specs.declared.grammar.Part.TheVariants.{Ty}
use Rattle.bl_parse_syntax.specs.Grammar.{word, the}
use Rattle.bl_parse.specs.Programs.{SpellsResult}
use Rattle.bl_parse.proofs.ReadLemmas.{after, then, pass, opened, omit, no_word}
use Rattle.bl_parse.proofs.item.result_type.Goals as goal

pub take-requires : goal.take-requires
take-requires c = record { stands = c.if-stands.ensures.kind.0 refl }

pub read_type-requires : goal.read_type-requires
read_type-requires c = record {
  awaits = after c.requires.awaits
      (then (opened (word keyword.Returns ∷ the Ty ∷ []) (λ v. refl) (c.if-stands.ensures.kind.0 refl) refl) (pass c.take.ensures.next));
}

pub returns-in_ok-ty-clause-spelled : goal.returns-in_ok-ty-clause-spelled
returns-in_ok-ty-clause-spelled c = SpellsResult.written c.take.ensures.taken c.in_ok-ty.ensures.spelled refl

pub returns-in_ok-ty-clause-follows : goal.returns-in_ok-ty-clause-follows
returns-in_ok-ty-clause-follows c = then (opened (word keyword.Returns ∷ the Ty ∷ []) (λ v. refl) (c.if-stands.ensures.kind.0 refl) refl)
    (then (pass c.take.ensures.next) (c.in_ok-ty.ensures.follows))

pub returns-else-stands-clause-spelled : goal.returns-else-stands-clause-spelled
returns-else-stands-clause-spelled c = SpellsResult.absent refl refl

pub returns-else-stands-clause-follows : goal.returns-else-stands-clause-follows
returns-else-stands-clause-follows c = omit refl (no_word (c.if-stands.ensures.not refl))
