use Rattle.std.proofs.Common.{refl, ◌∷◌, []}
use Rattle.bl_tree.specs.declared.token.Keyword.TheVariants as keyword
use Rattle.bl_parse_syntax.specs.declared.grammar.Part.TheVariants.{Params, SecondParams, Returns, Block}
use Rattle.bl_parse_syntax.specs.Grammar.{word, the}
use Rattle.bl_parse.proofs.ReadLemmas.{next_word, next_name, first, after, then, read, pass, opened_one}
use Rattle.bl_parse.proofs.item.unit.Goals as goal

pub unit_kind-requires : goal.unit_kind-requires
unit_kind-requires c = record { awaits = after c.requires.awaits (c.in_ok-entry.ensures.follows) }

pub name-requires : goal.name-requires
name-requires c = record { stands = next_name (after c.requires.awaits (then (c.in_ok-entry.ensures.follows) (c.in_ok-kind.ensures.follows))) }

pub params-requires : goal.params-requires
params-requires c = record {
  awaits = first (after c.requires.awaits
      (then (c.in_ok-entry.ensures.follows) (then (c.in_ok-kind.ensures.follows)
      (then (read c.in_ok-name.ensures.follows) (opened_one (the Params ∷ the SecondParams ∷ the Returns ∷ the Block ∷ word keyword.End ∷ [])
      (λ v. refl) refl (λ c. (_, refl)))))));
}

pub output_params-requires : goal.output_params-requires
output_params-requires c = record {
  awaits = first
      (after c.requires.awaits (then (c.in_ok-entry.ensures.follows)
      (then (c.in_ok-kind.ensures.follows) (then (read c.in_ok-name.ensures.follows)
      (then (opened_one (the Params ∷ the SecondParams ∷ the Returns ∷ the Block ∷ word keyword.End ∷ []) (λ v. refl) refl (λ c. (_, refl)))
      (read c.in_ok-inputs.ensures.follows))))));
}

pub result_type-requires : goal.result_type-requires
result_type-requires c = record {
  awaits = first (after c.requires.awaits
      (then (c.in_ok-entry.ensures.follows) (then (c.in_ok-kind.ensures.follows)
      (then (read c.in_ok-name.ensures.follows) (then (opened_one
      (the Params ∷ the SecondParams ∷ the Returns ∷ the Block ∷ word keyword.End ∷ []) (λ v. refl) refl (λ c. (_, refl)))
      (then (read c.in_ok-inputs.ensures.follows) (read c.in_ok-outputs.ensures.follows)))))));
}

pub block-requires : goal.block-requires
block-requires c = record {
  awaits = first (after c.requires.awaits
      (then (c.in_ok-entry.ensures.follows) (then (c.in_ok-kind.ensures.follows)
      (then (read c.in_ok-name.ensures.follows) (then (opened_one
      (the Params ∷ the SecondParams ∷ the Returns ∷ the Block ∷ word keyword.End ∷ []) (λ v. refl) refl (λ c. (_, refl)))
      (then (read c.in_ok-inputs.ensures.follows) (then (read c.in_ok-outputs.ensures.follows) (read c.in_ok-result.ensures.follows))))))));
}

pub take-requires : goal.take-requires
take-requires c = record {
  stands = next_word (after c.requires.awaits
      (then (c.in_ok-entry.ensures.follows) (then (c.in_ok-kind.ensures.follows)
      (then (read c.in_ok-name.ensures.follows) (then (opened_one
      (the Params ∷ the SecondParams ∷ the Returns ∷ the Block ∷ word keyword.End ∷ []) (λ v. refl) refl (λ c. (_, refl)))
      (then (read c.in_ok-inputs.ensures.follows) (then (read c.in_ok-outputs.ensures.follows)
      (then (read c.in_ok-result.ensures.follows) (read c.in_ok-body.ensures.follows)))))))));
}

pub returns-clause-spelled : goal.returns-clause-spelled
returns-clause-spelled c = record {
  m = c.mark.new.at;
  n = c.unit_kind.new.at;
  o = c.name.new.at;
  p = c.params.new.at;
  q = c.output_params.new.at;
  r = c.result_type.new.at;
  s = c.block.new.at;
  mark = c.in_ok-entry.ensures.spelled;
  kind = c.in_ok-kind.ensures.spelled;
  name = c.in_ok-name.ensures.spelled;
  inputs = c.in_ok-inputs.ensures.spelled;
  outputs = c.in_ok-outputs.ensures.spelled;
  result = c.in_ok-result.ensures.spelled;
  body = c.in_ok-body.ensures.spelled;
  end = c.take.ensures.taken;
}

pub returns-clause-follows : goal.returns-clause-follows
returns-clause-follows c = then (c.in_ok-entry.ensures.follows)
    (then (c.in_ok-kind.ensures.follows) (then (read c.in_ok-name.ensures.follows)
    (then (opened_one (the Params ∷ the SecondParams ∷ the Returns ∷ the Block ∷ word keyword.End ∷ []) (λ v. refl) refl (λ c. (_, refl)))
    (then (read c.in_ok-inputs.ensures.follows) (then (read c.in_ok-outputs.ensures.follows)
    (then (read c.in_ok-result.ensures.follows) (then (read c.in_ok-body.ensures.follows) (pass c.take.ensures.next))))))))
