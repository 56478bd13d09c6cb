use Rattle.std.proofs.Common.{refl, ◌∷◌, []}
use Rattle.bl_tree.specs.declared.token.Keyword.TheVariants as keyword
use Rattle.bl_lex.specs.declared.sign.TheConstants.{COLON, ASSIGN}
use Rattle.bl_parse_syntax.specs.declared.grammar.Part.TheVariants.{Ty, VarTail, Initial, Expr}
use Rattle.bl_parse_syntax.specs.Grammar.{name, word, sign, the, class_of}
use Rattle.bl_parse.specs.Statements.{SpellsKind}
use Rattle.bl_parse.proofs.PartLemmas.{off_at, var_value}
use Rattle.bl_parse.proofs.ReadLemmas.{next_name, first_two, after, then, read, read_two, pass, opened, opened_rest, no_sign}
use Rattle.bl_parse.proofs.stmt.variable.Goals as goal

pub name-requires : goal.name-requires
name-requires c = record {
  stands = next_name (after c.requires.awaits
      (then (opened (word keyword.Var ∷ name ∷ the VarTail ∷ []) (λ v. refl) c.requires.stands refl) (pass c.take.ensures.next)));
}

pub typing-requires : goal.typing-requires
typing-requires c = record {
  awaits = first_two (after c.requires.awaits
      (then (opened (word keyword.Var ∷ name ∷ the VarTail ∷ []) (λ v. refl) c.requires.stands refl)
      (then (pass c.take.ensures.next) (then (read c.in_ok-name.ensures.follows)
      (opened (sign COLON ∷ the Ty ∷ the Initial ∷ []) (λ v. refl) (c.if-stands.ensures.kind.0 refl) refl)))));
}

pub initial-requires : goal.initial-requires
initial-requires c = record {
  awaits = after c.requires.awaits
      (then (opened (word keyword.Var ∷ name ∷ the VarTail ∷ []) (λ v. refl) c.requires.stands refl)
      (then (pass c.take.ensures.next) (then (read c.in_ok-name.ensures.follows)
      (then (opened (sign COLON ∷ the Ty ∷ the Initial ∷ []) (λ v. refl) (c.if-stands.ensures.kind.0 refl) refl)
      (read_two c.in_ok-ty.ensures.follows)))));
}

pub value-requires : goal.value-requires
value-requires c = record {
  awaits = after c.requires.awaits
      (then (opened (word keyword.Var ∷ name ∷ the VarTail ∷ []) (λ v. refl) c.requires.stands refl)
      (then (pass c.take.ensures.next) (then (read c.in_ok-name.ensures.follows)
      (opened_rest (sign ASSIGN ∷ the Expr ∷ []) (λ v. refl) refl
      (λ kind is. var_value (class_of kind) (off_at (no_sign (c.if-stands.ensures.not refl)) kind is))))));
}

pub returns-in_ok-initial-clause-spelled : goal.returns-in_ok-initial-clause-spelled
returns-in_ok-initial-clause-spelled c = SpellsKind.typed c.take.ensures.taken c.in_ok-name.ensures.spelled
    c.in_ok-ty.ensures.spelled c.in_ok-initial.ensures.spelled refl

pub returns-in_ok-initial-clause-follows : goal.returns-in_ok-initial-clause-follows
returns-in_ok-initial-clause-follows c = then (opened (word keyword.Var ∷ name ∷ the VarTail ∷ []) (λ v. refl) c.requires.stands refl)
    (then (pass c.take.ensures.next) (then (read c.in_ok-name.ensures.follows)
    (then (opened (sign COLON ∷ the Ty ∷ the Initial ∷ []) (λ v. refl) (c.if-stands.ensures.kind.0 refl) refl)
    (then (read_two c.in_ok-ty.ensures.follows) (c.in_ok-initial.ensures.follows)))))

pub returns-in_ok-value-clause-spelled : goal.returns-in_ok-value-clause-spelled
returns-in_ok-value-clause-spelled c = SpellsKind.inferred c.take.ensures.taken c.in_ok-name.ensures.spelled c.in_ok-value.ensures.spelled refl

pub returns-in_ok-value-clause-follows : goal.returns-in_ok-value-clause-follows
returns-in_ok-value-clause-follows c = then (opened (word keyword.Var ∷ name ∷ the VarTail ∷ []) (λ v. refl) c.requires.stands refl)
    (then (pass c.take.ensures.next) (then (read c.in_ok-name.ensures.follows)
    (then (opened_rest (sign ASSIGN ∷ the Expr ∷ []) (λ v. refl) refl
    (λ kind is. var_value (class_of kind) (off_at (no_sign (c.if-stands.ensures.not refl)) kind is))) (c.in_ok-value.ensures.follows))))
