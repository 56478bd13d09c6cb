use Rattle.std.proofs.Common.{refl, ◌∷◌, []}
use Rattle.bl_lex.specs.declared.sign.TheConstants.{ASSIGN}
use Rattle.bl_parse_syntax.specs.declared.grammar.Part.TheVariants.{AfterName, CallTail, AssignTail, Inputs, SecondOutputs, Expr}
use Rattle.bl_parse_syntax.specs.Grammar.{name, sign, the, class_of}
use Rattle.bl_parse.specs.Statements.{SpellsKind}
use Rattle.bl_parse.specs.inner.Reading.{IsPlaceTail}
use Rattle.bl_parse.proofs.PartLemmas.{off_at, after_assign, assign_value}
use Rattle.bl_parse.proofs.ReadLemmas.{first, after, then, read, opened, opened_one, opened_rest, no_sign}
use Rattle.bl_parse.proofs.stmt.named.Goals as goal

pub read_inputs-requires : goal.read_inputs-requires
read_inputs-requires c = record {
  awaits = first (after c.requires.awaits
      (then (opened (name ∷ the AfterName ∷ []) (λ v. refl) c.requires.stands refl)
      (then (read c.in_ok-root.ensures.follows) (then (opened (the CallTail ∷ []) (λ v. refl) (c.if-stands.ensures.kind.0 refl) refl)
      (opened_one (the Inputs ∷ the SecondOutputs ∷ []) (λ v. refl) refl (λ c. (_, refl)))))));
}

pub outputs-requires : goal.outputs-requires
outputs-requires c = record {
  awaits = after c.requires.awaits
      (then (opened (name ∷ the AfterName ∷ []) (λ v. refl) c.requires.stands refl)
      (then (read c.in_ok-root.ensures.follows) (then (opened (the CallTail ∷ []) (λ v. refl) (c.if-stands.ensures.kind.0 refl) refl)
      (then (opened_one (the Inputs ∷ the SecondOutputs ∷ []) (λ v. refl) refl (λ c. (_, refl))) (read c.in_ok-inputs.ensures.follows)))));
}

pub target_of-requires-clause-awaits : goal.target_of-requires-clause-awaits
target_of-requires-clause-awaits c = record {
  part = AssignTail;
  is = IsPlaceTail.assigned;
  awaits =
      after c.requires.awaits (then (opened (name ∷ the AfterName ∷ []) (λ v. refl) c.requires.stands refl)
      (then (read c.in_ok-root.ensures.follows) (opened_rest (the AssignTail ∷ []) (λ v. refl) refl
      (λ kind is. after_assign (class_of kind) (off_at (no_sign (c.if-stands.ensures.not refl)) kind is)))));
}

pub value-requires : goal.value-requires
value-requires c = record {
  awaits = after c.requires.awaits
      (then (opened (name ∷ the AfterName ∷ []) (λ v. refl) c.requires.stands refl)
      (then (read c.in_ok-root.ensures.follows) (then (opened_rest (the AssignTail ∷ []) (λ v. refl) refl
      (λ kind is. after_assign (class_of kind) (off_at (no_sign (c.if-stands.ensures.not refl)) kind is)))
      (then (c.in_ok-target.ensures.keeps.keeps AssignTail IsPlaceTail.assigned)
      (opened_rest (sign ASSIGN ∷ the Expr ∷ []) (λ v. refl) refl
      (λ kind is. assign_value (class_of kind) (off_at c.in_ok-target.ensures.ends kind is)))))));
}

pub returns-in_ok-outputs-clause-spelled : goal.returns-in_ok-outputs-clause-spelled
returns-in_ok-outputs-clause-spelled c = SpellsKind.call c.in_ok-root.ensures.spelled c.in_ok-inputs.ensures.spelled c.in_ok-outputs.ensures.spelled refl

pub returns-in_ok-outputs-clause-follows : goal.returns-in_ok-outputs-clause-follows
returns-in_ok-outputs-clause-follows c = then (opened (name ∷ the AfterName ∷ []) (λ v. refl) c.requires.stands refl)
    (then (read c.in_ok-root.ensures.follows) (then (opened (the CallTail ∷ []) (λ v. refl) (c.if-stands.ensures.kind.0 refl) refl)
    (then (opened_one (the Inputs ∷ the SecondOutputs ∷ []) (λ v. refl) refl (λ c. (_, refl)))
    (then (read c.in_ok-inputs.ensures.follows) (c.in_ok-outputs.ensures.follows)))))

pub returns-in_ok-value-clause-spelled : goal.returns-in_ok-value-clause-spelled
returns-in_ok-value-clause-spelled c = SpellsKind.assign c.in_ok-target.ensures.spelled c.in_ok-value.ensures.spelled refl

pub returns-in_ok-value-clause-follows : goal.returns-in_ok-value-clause-follows
returns-in_ok-value-clause-follows c = then (opened (name ∷ the AfterName ∷ []) (λ v. refl) c.requires.stands refl)
    (then (read c.in_ok-root.ensures.follows) (then (opened_rest (the AssignTail ∷ []) (λ v. refl) refl
    (λ kind is. after_assign (class_of kind) (off_at (no_sign (c.if-stands.ensures.not refl)) kind is)))
    (then (c.in_ok-target.ensures.keeps.keeps AssignTail IsPlaceTail.assigned)
    (then (opened_rest (sign ASSIGN ∷ the Expr ∷ []) (λ v. refl) refl
    (λ kind is. assign_value (class_of kind) (off_at c.in_ok-target.ensures.ends kind is))) (c.in_ok-value.ensures.follows)))))
