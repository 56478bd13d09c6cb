use Rattle.std.proofs.Common.{refl, ◌∷◌, []}
use Rattle.bl_tree.specs.declared.token.Keyword.TheVariants as keyword
use Rattle.bl_parse_syntax.specs.declared.grammar.Part.TheVariants.{RunTail, Inputs, SecondOutputs}
use Rattle.bl_parse_syntax.specs.Grammar.{name, word, the}
use Rattle.bl_parse.specs.Statements.{SpellsKind}
use Rattle.bl_parse.proofs.ReadLemmas.{first, after, then, read, pass, opened, opened_one}
use Rattle.bl_parse.proofs.stmt.run.Goals as goal

pub start_of_run-requires : goal.start_of_run-requires
start_of_run-requires c = record {
  awaits = after c.requires.awaits
      (then (opened (word keyword.Run ∷ name ∷ the RunTail ∷ []) (λ v. refl) c.requires.stands refl) (pass c.take.ensures.next));
}

pub read_inputs-requires : goal.read_inputs-requires
read_inputs-requires c = record {
  awaits = first (after c.requires.awaits
      (then (opened (word keyword.Run ∷ name ∷ the RunTail ∷ []) (λ v. refl) c.requires.stands refl)
      (then (pass c.take.ensures.next) (then (c.in_ok-started.ensures.follows)
      (opened_one (the Inputs ∷ the SecondOutputs ∷ []) (λ v. refl) refl (λ c. (_, refl)))))));
}

pub outputs-requires : goal.outputs-requires
outputs-requires c = record {
  awaits = after c.requires.awaits
      (then (opened (word keyword.Run ∷ name ∷ the RunTail ∷ []) (λ v. refl) c.requires.stands refl)
      (then (pass c.take.ensures.next) (then (c.in_ok-started.ensures.follows)
      (then (opened_one (the Inputs ∷ the SecondOutputs ∷ []) (λ v. refl) refl (λ c. (_, refl))) (read c.in_ok-inputs.ensures.follows)))));
}

pub returns-clause-spelled : goal.returns-clause-spelled
returns-clause-spelled c = SpellsKind.run c.take.ensures.taken c.in_ok-started.ensures.spelled.receiver
    c.in_ok-started.ensures.spelled.name c.in_ok-inputs.ensures.spelled c.in_ok-outputs.ensures.spelled refl

pub returns-clause-follows : goal.returns-clause-follows
returns-clause-follows c = then (opened (word keyword.Run ∷ name ∷ the RunTail ∷ []) (λ v. refl) c.requires.stands refl)
    (then (pass c.take.ensures.next) (then (c.in_ok-started.ensures.follows)
    (then (opened_one (the Inputs ∷ the SecondOutputs ∷ []) (λ v. refl) refl (λ c. (_, refl)))
    (then (read c.in_ok-inputs.ensures.follows) (c.in_ok-outputs.ensures.follows)))))
