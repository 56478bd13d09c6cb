use Rattle.std.proofs.Common.{refl, ◌∷◌, []}
use Rattle.bl_tree.specs.declared.token.Keyword.TheVariants as keyword
use Rattle.bl_lex.specs.declared.sign.TheConstants.{ASSIGN}
use Rattle.bl_parse_syntax.specs.declared.grammar.Part.TheVariants.{TypeMark, Expr}
use Rattle.bl_parse_syntax.specs.Grammar.{name, word, sign, the}
use Rattle.bl_parse.proofs.ReadLemmas.{next_word, next_name, first, after, then, read, pass, opened_one}
use Rattle.bl_parse.proofs.parts.constant.Goals as goal

pub take-requires : goal.take-requires
take-requires c = record {
  stands = next_word (after c.requires.awaits
      (opened_one (word keyword.Const ∷ name ∷ the TypeMark ∷ sign ASSIGN ∷ the Expr ∷ []) (λ v. refl) refl (λ c. (_, refl))));
}

pub name-requires : goal.name-requires
name-requires c = record {
  stands = next_name (after c.requires.awaits
      (then (opened_one (word keyword.Const ∷ name ∷ the TypeMark ∷ sign ASSIGN ∷ the Expr ∷ []) (λ v. refl) refl (λ c. (_, refl)))
      (pass c.take.ensures.next)));
}

pub maybe_typing-requires : goal.maybe_typing-requires
maybe_typing-requires c = record {
  awaits = first (after c.requires.awaits
      (then (opened_one (word keyword.Const ∷ name ∷ the TypeMark ∷ sign ASSIGN ∷ the Expr ∷ []) (λ v. refl) refl (λ c. (_, refl)))
      (then (pass c.take.ensures.next) (read c.in_ok-name.ensures.follows))));
}

pub value-requires : goal.value-requires
value-requires c = record {
  awaits = after c.requires.awaits
      (then (opened_one (word keyword.Const ∷ name ∷ the TypeMark ∷ sign ASSIGN ∷ the Expr ∷ []) (λ v. refl) refl (λ c. (_, refl)))
      (then (pass c.take.ensures.next) (then (read c.in_ok-name.ensures.follows) (read c.in_ok-ty.ensures.follows))));
}

pub returns-clause-spelled : goal.returns-clause-spelled
returns-clause-spelled c = record {
  m = c.take.new.at;
  n = c.name.new.at;
  o = c.maybe_typing.new.at;
  word =
      c.take.ensures.taken;
  name = c.in_ok-name.ensures.spelled;
  typing = c.in_ok-ty.ensures.spelled;
  value = c.in_ok-value.ensures.spelled;
}

pub returns-clause-follows : goal.returns-clause-follows
returns-clause-follows c = then (opened_one (word keyword.Const ∷ name ∷ the TypeMark ∷ sign ASSIGN ∷ the Expr ∷ []) (λ v. refl) refl
    (λ c. (_, refl))) (then (pass c.take.ensures.next)
    (then (read c.in_ok-name.ensures.follows) (then (read c.in_ok-ty.ensures.follows) (c.in_ok-value.ensures.follows))))
