use Rattle.std.proofs.Common.{refl, ◌∷◌, []}
use Rattle.bl_lex.specs.declared.sign.TheConstants.{OPEN_PAREN, CLOSE_PAREN}
use Rattle.bl_parse_syntax.specs.declared.grammar.Part.TheVariants.{OutputList, OutputRest, Path}
use Rattle.bl_parse_syntax.specs.Grammar.{sign, the}
use Rattle.bl_parse.specs.Statements.{SpellsOutputs}
use Rattle.bl_parse.proofs.PartLemmas.{next_other}
use Rattle.bl_parse.proofs.ReadLemmas.{next_sign, first_two, after, then, read_two, pass, opened_one, omit, filled, no_sign}
use Rattle.bl_parse.proofs.parts.listed_outputs.Goals as goal

pub take-requires : goal.take-requires
take-requires c = record {
  stands = next_sign (after c.requires.awaits
      (opened_one (sign OPEN_PAREN ∷ the OutputList ∷ sign CLOSE_PAREN ∷ []) (λ v. refl) refl (λ c. (_, refl))));
}

pub take-requires-then-stands : goal.take-requires-then-stands
take-requires-then-stands c = record { stands = c.if-stands.ensures.kind.0 refl }

pub paths-requires : goal.paths-requires
paths-requires c = record {
  awaits = first_two (after c.requires.awaits
      (then (opened_one (sign OPEN_PAREN ∷ the OutputList ∷ sign CLOSE_PAREN ∷ []) (λ v. refl) refl (λ c. (_, refl)))
      (then (pass c.take.ensures.next) (filled (the Path ∷ the OutputRest ∷ []) (λ v. refl) (λ c. (_, refl)) (no_sign (c.if-stands.ensures.not refl))))));
}

pub take-requires-else-stands : goal.take-requires-else-stands
take-requires-else-stands c = record {
  stands = next_sign
      (after c.requires.awaits (then (opened_one (sign OPEN_PAREN ∷ the OutputList ∷ sign CLOSE_PAREN ∷ []) (λ v. refl) refl
      (λ c. (_, refl))) (then (pass c.take.ensures.next)
      (then (filled (the Path ∷ the OutputRest ∷ []) (λ v. refl) (λ c. (_, refl)) (no_sign (c.if-stands.ensures.not refl)))
      (read_two c.in_ok-outputs.ensures.follows)))));
}

pub returns-then-stands-clause-spelled : goal.returns-then-stands-clause-spelled
returns-then-stands-clause-spelled c = SpellsOutputs.none c.take.ensures.taken c.take-then-stands.ensures.taken c.new.ensures

pub returns-then-stands-clause-follows : goal.returns-then-stands-clause-follows
returns-then-stands-clause-follows c = then (opened_one (sign OPEN_PAREN ∷ the OutputList ∷ sign CLOSE_PAREN ∷ []) (λ v. refl) refl
    (λ c. (_, refl))) (then (pass c.take.ensures.next)
    (then (omit {part = OutputList} refl (next_other (c.if-stands.ensures.kind.0 refl) refl)) (pass c.take-then-stands.ensures.next)))

pub returns-in_ok-outputs-clause-spelled : goal.returns-in_ok-outputs-clause-spelled
returns-in_ok-outputs-clause-spelled c = SpellsOutputs.some c.take.ensures.taken c.in_ok-outputs.ensures.spelled c.take-else-stands.ensures.taken

pub returns-in_ok-outputs-clause-follows : goal.returns-in_ok-outputs-clause-follows
returns-in_ok-outputs-clause-follows c = then (opened_one (sign OPEN_PAREN ∷ the OutputList ∷ sign CLOSE_PAREN ∷ [])
    (λ v. refl) refl (λ c. (_, refl))) (then (pass c.take.ensures.next)
    (then (filled (the Path ∷ the OutputRest ∷ []) (λ v. refl) (λ c. (_, refl)) (no_sign (c.if-stands.ensures.not refl)))
    (then (read_two c.in_ok-outputs.ensures.follows) (pass c.take-else-stands.ensures.next))))
