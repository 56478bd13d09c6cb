use Rattle.std.proofs.Common.{refl, ◌∷◌, []}
use Rattle.bl_tree.specs.declared.token.Keyword.TheVariants as keyword
use Rattle.bl_parse_syntax.specs.declared.grammar.Part.TheVariants.{Field, Fields}
use Rattle.bl_parse_syntax.specs.Grammar.{name, word, the}
use Rattle.bl_parse.proofs.ReadLemmas.{next_word, next_name, first_two, after, then, read, read_two, pass, opened_one}
use Rattle.bl_parse.proofs.item.structure.Goals as goal

pub take-requires : goal.take-requires
take-requires c = record {
  stands = next_word (after c.requires.awaits
      (opened_one (word keyword.Struct ∷ name ∷ the Field ∷ the Fields ∷ word keyword.End ∷ []) (λ v. refl) refl (λ c. (_, refl))));
}

pub name-requires : goal.name-requires
name-requires c = record {
  stands = next_name (after c.requires.awaits
      (then (opened_one (word keyword.Struct ∷ name ∷ the Field ∷ the Fields ∷ word keyword.End ∷ []) (λ v. refl) refl (λ c. (_, refl)))
      (pass c.take.ensures.next)));
}

pub fields-requires : goal.fields-requires
fields-requires c = record {
  awaits = first_two (after c.requires.awaits
      (then (opened_one (word keyword.Struct ∷ name ∷ the Field ∷ the Fields ∷ word keyword.End ∷ []) (λ v. refl) refl (λ c. (_, refl)))
      (then (pass c.take.ensures.next) (read c.in_ok-name.ensures.follows))));
}

pub take-requires-2 : goal.take-requires-2
take-requires-2 c = record {
  stands = next_word (after c.requires.awaits
      (then (opened_one (word keyword.Struct ∷ name ∷ the Field ∷ the Fields ∷ word keyword.End ∷ []) (λ v. refl) refl (λ c. (_, refl)))
      (then (pass c.take.ensures.next) (then (read c.in_ok-name.ensures.follows) (read_two c.in_ok-fields.ensures.follows)))));
}

pub returns-clause-spelled : goal.returns-clause-spelled
returns-clause-spelled c = record {
  m = c.take.new.at;
  n = c.name.new.at;
  o = c.fields.new.at;
  word = c.take.ensures.taken;
  name =
      c.in_ok-name.ensures.spelled;
  fields = c.in_ok-fields.ensures.spelled;
  end = c.take-2.ensures.taken;
}

pub returns-clause-follows : goal.returns-clause-follows
returns-clause-follows c = then (opened_one (word keyword.Struct ∷ name ∷ the Field ∷ the Fields ∷ word keyword.End ∷ []) (λ v. refl) refl
    (λ c. (_, refl))) (then (pass c.take.ensures.next)
    (then (read c.in_ok-name.ensures.follows) (then (read_two c.in_ok-fields.ensures.follows) (pass c.take-2.ensures.next))))
