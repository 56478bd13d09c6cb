use Rattle.std.proofs.Common.{Some, refl, ap, sym, arith, ◌∙◌, ◌∷◌, []}
use Rattle.bl_lex.specs.declared.sign.TheConstants.{OPEN_BRACKET, CLOSE_BRACKET}
use Rattle.bl_parse_syntax.specs.declared.grammar.Part.TheVariants.{Ty, Scalar, Length}
use Rattle.bl_parse_syntax.specs.Grammar.{name, sign, the}
use Rattle.bl_parse_tree.specs.declared.types.RawType as form
use Rattle.bl_parse.specs.Types.{SpellsType}
use Rattle.bl_parse.proofs.ReadLemmas.{next_sign, first, after, then, read, pass, opened, opened_last, never_ends, never}
use Rattle.bl_parse.proofs.types.+types.Goals as goal

pub array-take-requires : goal.array-take-requires
array-take-requires t c = record { stands = next_sign c.requires.awaits }

pub array-read_length-requires : goal.array-read_length-requires
array-read_length-requires t c = record { awaits = first (after c.requires.awaits (pass c.take.ensures.next)) }

pub array-take-requires-2 : goal.array-take-requires-2
array-take-requires-2 t c = record { stands = next_sign (after c.requires.awaits (then (pass c.take.ensures.next) (read c.in_ok-length.ensures.follows))) }

pub array-read_type-requires : goal.array-read_type-requires
array-read_type-requires t c = (
  omega (
    arith,
    c.decreases,
    c.take.ensures.next,
    c.take.ensures.inside,
    c.take-2.ensures.next,
    c.take-2.ensures.inside,
    c.in_ok-length.ensures.next,
    c.in_ok-length.ensures.inside,
  ),
  after c.requires.awaits (then (pass c.take.ensures.next) (then (read c.in_ok-length.ensures.follows) (pass c.take-2.ensures.next))),
)

pub array-returns-clause-spelled : goal.array-returns-clause-spelled
array-returns-clause-spelled t c = SpellsType.array c.take.ensures.taken c.in_ok-length.ensures.spelled c.take-2.ensures.taken c.in_ok-element.ensures.spelled
    (ap (form.Array c.in_ok-length.length) c.in_ok-new.ensures)

pub array-returns-clause-follows : goal.array-returns-clause-follows
array-returns-clause-follows t c = then (pass c.take.ensures.next)
    (then (read c.in_ok-length.ensures.follows) (then (pass c.take-2.ensures.next) (c.in_ok-element.ensures.follows)))

pub read_type-array-requires : goal.read_type-array-requires
read_type-array-requires t c = (
  omega (arith, c.decreases),
  after c.requires.awaits (opened_last (sign OPEN_BRACKET ∷ the Length ∷ sign CLOSE_BRACKET ∷ the Ty ∷ []) _ (λ v. refl)
      (sym c.kind_at.ensures.kind ∙ (c.in-Some-Sign.is ∙ ap Some c.in-Some-Sign.field-0-is)) refl),
)

pub read_type-read_scalar-requires : goal.read_type-read_scalar-requires
read_type-read_scalar-requires t c = record {
  awaits =
      after c.requires.awaits (opened_last (the Scalar ∷ []) _ (λ v. refl)
      (sym c.kind_at.ensures.kind ∙ (c.in-Some-Word.is ∙ ap Some c.in-Some-Word.field-0-is)) refl);
}

pub read_type-unreachable-requires : goal.read_type-unreachable-requires
read_type-unreachable-requires t c = never (λ v. refl)
    (sym c.kind_at.ensures.kind ∙ (c.in-Some-Number.is ∙ ap Some c.in-Some-Number.field-0-is)) refl c.requires.awaits

pub read_type-unreachable-requires-in-None : goal.read_type-unreachable-requires-in-None
read_type-unreachable-requires-in-None t c = never_ends (λ v. refl) refl c.requires.awaits (sym c.kind_at.ensures.kind ∙ c.in-None.is)

pub read_type-returns-in_ok-ty-in-Some-Sign-clause-follows : goal.read_type-returns-in_ok-ty-in-Some-Sign-clause-follows
read_type-returns-in_ok-ty-in-Some-Sign-clause-follows t c =
    then (opened_last (sign OPEN_BRACKET ∷ the Length ∷ sign CLOSE_BRACKET ∷ the Ty ∷ []) _ (λ v. refl)
    (sym c.kind_at.ensures.kind ∙ (c.in-Some-Sign.is ∙ ap Some c.in-Some-Sign.field-0-is)) refl) (c.in_ok-ty-in-Some-Sign.ensures.follows)

pub read_type-returns-in_ok-name-in-Some-Name-clause-spelled : goal.read_type-returns-in_ok-name-in-Some-Name-clause-spelled
read_type-returns-in_ok-name-in-Some-Name-clause-spelled t c = SpellsType.named c.in_ok-name-in-Some-Name.ensures.spelled refl

pub read_type-returns-in_ok-name-in-Some-Name-clause-follows : goal.read_type-returns-in_ok-name-in-Some-Name-clause-follows
read_type-returns-in_ok-name-in-Some-Name-clause-follows t c =
    then (opened (name ∷ []) (λ v. refl) ((sym c.kind_at.ensures.kind ∙ (c.in-Some-Name.is ∙ ap Some c.in-Some-Name.field-0-is)))
    refl) (c.in_ok-name-in-Some-Name.ensures.follows)

pub read_type-returns-in_ok-read_scalar-in-Some-Word-clause-spelled : goal.read_type-returns-in_ok-read_scalar-in-Some-Word-clause-spelled
read_type-returns-in_ok-read_scalar-in-Some-Word-clause-spelled t c = SpellsType.scalar c.in_ok-read_scalar-in-Some-Word.ensures.spelled refl

pub read_type-returns-in_ok-read_scalar-in-Some-Word-clause-follows : goal.read_type-returns-in_ok-read_scalar-in-Some-Word-clause-follows
read_type-returns-in_ok-read_scalar-in-Some-Word-clause-follows t c =
    then (opened_last (the Scalar ∷ []) _ (λ v. refl) (sym c.kind_at.ensures.kind
    ∙ (c.in-Some-Word.is ∙ ap Some c.in-Some-Word.field-0-is)) refl) (c.in_ok-read_scalar-in-Some-Word.ensures.follows)
