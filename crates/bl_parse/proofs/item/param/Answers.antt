use Rattle.std.proofs.Common.{refl, ◌∷◌, []}
use Rattle.bl_lex.specs.declared.sign.TheConstants.{COLON}
use Rattle.bl_parse_syntax.specs.declared.grammar.Part.TheVariants.{Ty}
use Rattle.bl_parse_syntax.specs.Grammar.{name, sign, the}
use Rattle.bl_parse.proofs.ReadLemmas.{next_name, after, then, read, opened_one}
use Rattle.bl_parse.proofs.item.param.Goals as goal

pub name-requires : goal.name-requires
name-requires c = record {
  stands = next_name (after c.requires.awaits
      (opened_one (name ∷ sign COLON ∷ the Ty ∷ []) (λ v. refl) refl (λ c. (_, refl))));
}

pub typing-requires : goal.typing-requires
typing-requires c = record {
  awaits = after c.requires.awaits
      (then (opened_one (name ∷ sign COLON ∷ the Ty ∷ []) (λ v. refl) refl (λ c. (_, refl))) (read c.in_ok-name.ensures.follows));
}

pub returns-clause-spelled : goal.returns-clause-spelled
returns-clause-spelled c = record { m = c.name.new.at; name = c.in_ok-name.ensures.spelled; ty = c.in_ok-ty.ensures.spelled }

pub returns-clause-follows : goal.returns-clause-follows
returns-clause-follows c = then (opened_one (name ∷ sign COLON ∷ the Ty ∷ []) (λ v. refl) refl (λ c. (_, refl)))
    (then (read c.in_ok-name.ensures.follows) (c.in_ok-ty.ensures.follows))
