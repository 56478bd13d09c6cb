use Rattle.std.proofs.Common.{refl, ◌∷◌, []}
use Rattle.bl_tree.specs.declared.token.Keyword.TheVariants as keyword
use Rattle.bl_lex.specs.declared.sign.TheConstants.{COLON}
use Rattle.bl_parse_syntax.specs.declared.grammar.Part.TheVariants.{Ty}
use Rattle.bl_parse_syntax.specs.Grammar.{name, word, sign, the}
use Rattle.bl_parse.proofs.ReadLemmas.{next_word, next_name, after, then, read, pass, opened_one}
use Rattle.bl_parse.proofs.item.field.Goals as goal

pub take-requires : goal.take-requires
take-requires c = record {
  stands = next_word (after c.requires.awaits
      (opened_one (word keyword.Var ∷ name ∷ sign COLON ∷ the Ty ∷ []) (λ v. refl) refl (λ c. (_, refl))));
}

pub name-requires : goal.name-requires
name-requires c = record {
  stands = next_name (after c.requires.awaits
      (then (opened_one (word keyword.Var ∷ name ∷ sign COLON ∷ the Ty ∷ []) (λ v. refl) refl (λ c. (_, refl))) (pass c.take.ensures.next)));
}

pub typing-requires : goal.typing-requires
typing-requires c = record {
  awaits = after c.requires.awaits
      (then (opened_one (word keyword.Var ∷ name ∷ sign COLON ∷ the Ty ∷ []) (λ v. refl) refl (λ c. (_, refl)))
      (then (pass c.take.ensures.next) (read c.in_ok-name.ensures.follows)));
}

pub returns-clause-spelled : goal.returns-clause-spelled
returns-clause-spelled c = record {
  m = c.take.new.at;
  n = c.name.new.at;
  word = c.take.ensures.taken;
  name =
      c.in_ok-name.ensures.spelled;
  ty = c.in_ok-ty.ensures.spelled;
}

pub returns-clause-follows : goal.returns-clause-follows
returns-clause-follows c = then (opened_one (word keyword.Var ∷ name ∷ sign COLON ∷ the Ty ∷ []) (λ v. refl) refl (λ c. (_, refl)))
    (then (pass c.take.ensures.next) (then (read c.in_ok-name.ensures.follows) (c.in_ok-ty.ensures.follows)))
