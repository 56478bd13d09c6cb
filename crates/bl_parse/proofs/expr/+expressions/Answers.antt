use Rattle.std.proofs.Common.{Some, refl, ap, sym, arith, true, ◌∙◌, ◌∷◌, [], lit≤}
use Rattle.bl_tree.proofs.Basics.{at_most_itself}
use Rattle.bl_tree.specs.declared.token.Keyword.TheVariants as keyword
use Rattle.bl_lex.specs.declared.sign.TheConstants.{OPEN_BRACKET, CLOSE_BRACKET, OPEN_PAREN, CLOSE_PAREN, COMMA, DOT, MINUS, TILDE}
use Rattle.bl_parse_syntax.specs.declared.grammar.Part.TheVariants.{Scalar, Accesses, Inputs, InputList, InputRest, Expr, CastRest, Unary, Primary, NameUse}
use Rattle.bl_parse_syntax.specs.declared.grammar.Part.TheVariants.{NoOutputs}
use Rattle.bl_parse_syntax.specs.Grammar.{name, number, word, sign, the, class_of}
use Rattle.bl_tree.specs.declared.token.TokenKind.TheVariants.{Word, Sign}
use Rattle.bl_parse_tree.specs.declared.expr.RawExprKind as kind
use Rattle.bl_parse.specs.Expressions.{SpellsExpr, SpellsTarget, SpellsPart, SpellsParts, SpellsInputs, SpellsExprs}
use Rattle.bl_parse.specs.Operators.{left_level, IsPrefix}
use Rattle.bl_parse.specs.inner.Reading.{IsPlaceTail}
use Rattle.bl_parse.proofs.ExprLemmas.{placed, placed_by, placed_target, looser, minus_sign, second_next, pushed_first}
use Rattle.bl_parse.proofs.PartLemmas.{off_at, next_other, access_index, unary_primary, accessed, prefixed, minus_is, none_is}
use Rattle.bl_parse.proofs.NameLemmas.{as_accesses}
use Rattle.bl_parse.proofs.OperatorLemmas.{operands, next_operator, no_operator}
use Rattle.bl_parse.proofs.ReadLemmas.{next_sign, next_name, first, first_two, after, then, read, read_two, pass, stay, opened, opened_last, opened_one}
use Rattle.bl_parse.proofs.ReadLemmas.{opened_rest, never_ends, omit, filled, no_word, no_sign}
use Rattle.bl_parse.proofs.expr.+expressions.Goals as goal

pub called-read_inputs-requires : goal.called-read_inputs-requires
called-read_inputs-requires t c = (omega (arith, c.decreases), first c.requires.awaits)

pub called-no_outputs-requires : goal.called-no_outputs-requires
called-no_outputs-requires t c = record { awaits = after c.requires.awaits (read c.in_ok-inputs.ensures.follows) }

pub called-returns-clause-spelled : goal.called-returns-clause-spelled
called-returns-clause-spelled t c = SpellsExpr.call c.requires.name c.in_ok-inputs.ensures.spelled c.in_ok-no_outputs.ensures.spelled
    (placed (kind.Call c.args.function c.in_ok-inputs.inputs) c.span.ensures)

pub called-returns-clause-follows : goal.called-returns-clause-follows
called-returns-clause-follows t c = then (read c.in_ok-inputs.ensures.follows) (c.in_ok-no_outputs.ensures.follows)

pub cast-unary-requires : goal.cast-unary-requires
cast-unary-requires t c = (
  omega (arith, c.decreases),
  first (after c.requires.awaits (opened_one (the Unary ∷ the CastRest ∷ []) (λ v. refl) refl (λ c. (_, refl)))),
)

pub cast-casts-init : goal.cast-casts-init
cast-casts-init t c = record {
  e = looser 9 (lit≤ tt) c.in_ok-e.ensures.spelled;
  follows =
      then (opened_one (the Unary ∷ the CastRest ∷ []) (λ v. refl) refl (λ c. (_, refl))) (read c.in_ok-e.ensures.follows);
  ahead =
      c.in_ok-e.ensures.ahead;
}

pub cast-one_cast-requires : goal.cast-one_cast-requires
cast-one_cast-requires t c = record {
  awaits = first
      (after c.requires.awaits (then (c.casts.invariant.follows)
      (then (opened (word keyword.As ∷ the Scalar ∷ the CastRest ∷ []) (λ v. refl) (c.stands.ensures.kind.0 c.casts-test.true) refl)
      (pass c.take.ensures.next))));
}

pub cast-casts-preserved : goal.cast-casts-preserved
cast-casts-preserved t c = record {
  e = c.in_ok-e-2.ensures.spelled _ c.casts.invariant.e c.take.ensures.taken;
  follows = then (c.casts.invariant.follows) (then (opened (word keyword.As ∷ the Scalar ∷ the CastRest ∷ []) (λ v. refl)
      (c.stands.ensures.kind.0 c.casts-test.true) refl) (then (pass c.take.ensures.next) (read c.in_ok-e-2.ensures.follows)));
  ahead = omega (arith, c.casts.invariant.ahead, c.take.ensures.next, c.in_ok-e-2.ensures.next);
}

pub cast-returns-clause-follows : goal.cast-returns-clause-follows
cast-returns-clause-follows t c = then (c.casts.invariant.follows) (omit refl (no_word (c.stands.ensures.not c.casts-test.false)))

pub expr_of-cast-requires : goal.expr_of-cast-requires
expr_of-cast-requires t c = (omega (arith, c.decreases), first (after c.requires.awaits (operands c.args.level c.requires.known)))

pub expr_of-operators-init : goal.expr_of-operators-init
expr_of-operators-init t c = record {
  left = c.in_ok-left.ensures.spelled;
  follows =
      then (operands c.args.level c.requires.known) (read c.in_ok-left.ensures.follows);
  ahead = c.in_ok-left.ensures.ahead;
  low = c.requires.known;
}

pub expr_of-expr_of-requires : goal.expr_of-expr_of-requires
expr_of-expr_of-requires t c = (
  omega (arith, c.decreases, c.operators.invariant.ahead, c.in-Some.ensures.inside refl),
  (
    omega (arith, c.in-Some.ensures.below),
    first (after c.requires.awaits
        (then (c.operators.invariant.follows) (then (next_operator c.in-Some.ensures.spelled c.in-Some.ensures.below
        c.in-Some.ensures.tight c.in-Some.ensures.left) (pass refl)))),
  ),
)

pub expr_of-operators-preserved : goal.expr_of-operators-preserved
expr_of-operators-preserved t c = record {
  left = SpellsExpr.two (at_most_itself c.in-Some.infix.level) (looser (left_level c.in-Some.infix.level) c.in-Some.ensures.left c.operators.invariant.left)
      c.in-Some.ensures.spelled c.in_ok-right.ensures.spelled c.in_ok-left-2.ensures;
  follows = then (c.operators.invariant.follows) (then
      (next_operator c.in-Some.ensures.spelled c.in-Some.ensures.below c.in-Some.ensures.tight c.in-Some.ensures.left)
      (then (pass refl) (read c.in_ok-right.ensures.follows)));
  ahead = omega (arith, c.operators.invariant.ahead, c.in_ok-right.ensures.ahead);
  low = c.in-Some.ensures.tight;
}

pub expr_of-returns-clause-spelled : goal.expr_of-returns-clause-spelled
expr_of-returns-clause-spelled t c = looser c.args.level c.operators.invariant.low c.operators.invariant.left

pub expr_of-returns-clause-follows : goal.expr_of-returns-clause-follows
expr_of-returns-clause-follows t c = then (c.operators.invariant.follows) (no_operator (c.next_infix.ensures.none (none_is c.in_default.is)))

pub in_parentheses-take-requires : goal.in_parentheses-take-requires
in_parentheses-take-requires t c = record { stands = next_sign c.requires.awaits }

pub in_parentheses-read_expr-requires : goal.in_parentheses-read_expr-requires
in_parentheses-read_expr-requires t c = (
  omega (arith, c.decreases, c.take.ensures.next, c.take.ensures.inside),
  first (after c.requires.awaits (pass c.take.ensures.next)),
)

pub in_parentheses-take-requires-2 : goal.in_parentheses-take-requires-2
in_parentheses-take-requires-2 t c = record { stands = next_sign (after c.requires.awaits (then (pass c.take.ensures.next) (read c.in_ok-e.ensures.follows))) }

pub in_parentheses-returns-clause-spelled : goal.in_parentheses-returns-clause-spelled
in_parentheses-returns-clause-spelled t c = SpellsExpr.parentheses c.take.ensures.taken c.in_ok-e.ensures.spelled c.take-2.ensures.taken

pub in_parentheses-returns-clause-follows : goal.in_parentheses-returns-clause-follows
in_parentheses-returns-clause-follows t c = then (pass c.take.ensures.next) (then (read c.in_ok-e.ensures.follows) (pass c.take-2.ensures.next))

pub index-take-requires : goal.index-take-requires
index-take-requires t c = record { stands = next_sign c.requires.awaits }

pub index-read_expr-requires : goal.index-read_expr-requires
index-read_expr-requires t c = (
  omega (arith, c.decreases, c.take.ensures.next, c.take.ensures.inside),
  first (after c.requires.awaits (pass c.take.ensures.next)),
)

pub index-take-requires-2 : goal.index-take-requires-2
index-take-requires-2 t c = record { stands = next_sign (after c.requires.awaits (then (pass c.take.ensures.next) (read c.in_ok-e.ensures.follows))) }

pub index-returns-clause-spelled : goal.index-returns-clause-spelled
index-returns-clause-spelled t c = SpellsPart.index c.take.ensures.taken c.in_ok-e.ensures.spelled c.take-2.ensures.taken refl

pub index-returns-clause-follows : goal.index-returns-clause-follows
index-returns-clause-follows t c = then (pass c.take.ensures.next) (then (read c.in_ok-e.ensures.follows) (pass c.take-2.ensures.next))

pub named-called-requires : goal.named-called-requires
named-called-requires t c = (
  omega (
    arith,
    c.decreases,
    c.in_ok-root.ensures.next,
    c.in_ok-root.ensures.inside,
    c.if-stands.ensures.inside refl,
  ),
  (
    c.in_ok-root.ensures.spelled,
    (
      c.in_ok-root.ensures.next,
      after c.requires.awaits
          (then (opened (name ∷ the NameUse ∷ []) (λ v. refl) c.requires.stands refl)
          (then (read c.in_ok-root.ensures.follows) (opened (the Inputs ∷ the NoOutputs ∷ []) (λ v. refl) (c.if-stands.ensures.kind.0 refl) refl))),
    ),
  ),
)

pub named-read-requires : goal.named-read-requires
named-read-requires t c = (
  omega (arith, c.decreases, c.in_ok-root.ensures.next, c.in_ok-root.ensures.inside),
  (
    c.in_ok-root.ensures.spelled,
    (
      c.in_ok-root.ensures.next,
      after c.requires.awaits (then (opened (name ∷ the NameUse ∷ []) (λ v. refl) c.requires.stands refl)
          (then (read c.in_ok-root.ensures.follows) (as_accesses (no_sign (c.if-stands.ensures.not refl))))),
    ),
  ),
)

pub named-returns-in_ok-call-clause-follows : goal.named-returns-in_ok-call-clause-follows
named-returns-in_ok-call-clause-follows t c = then (opened (name ∷ the NameUse ∷ []) (λ v. refl) c.requires.stands refl)
    (then (read c.in_ok-root.ensures.follows) (then (opened (the Inputs ∷ the NoOutputs ∷ []) (λ v. refl)
    (c.if-stands.ensures.kind.0 refl) refl) (c.in_ok-call.ensures.follows)))

pub named-returns-in_ok-value-clause-follows : goal.named-returns-in_ok-value-clause-follows
named-returns-in_ok-value-clause-follows t c = then (opened (name ∷ the NameUse ∷ []) (λ v. refl) c.requires.stands refl)
    (then (read c.in_ok-root.ensures.follows) (then (as_accesses (no_sign (c.if-stands.ensures.not refl))) (c.in_ok-value.ensures.follows)))

pub negative-returns-in-Some-clause-spelled : goal.negative-returns-in-Some-clause-spelled
negative-returns-in-Some-clause-spelled t c = SpellsExpr.negative (lit≤ tt) (minus_sign c.requires.minus)
    (record { stands = c.in-Some.ensures.some; next = second_next c.args.at.now }) (placed (kind.Number true c.in-Some.value) c.span.ensures)

pub negative-returns-in-Some-clause-follows : goal.negative-returns-in-Some-clause-follows
negative-returns-in-Some-clause-follows t c = then
    (opened (sign MINUS ∷ the Unary ∷ []) (λ v. refl) (minus_is c.requires.minus) refl)
    (then (pass refl) (then (opened (the Primary ∷ []) (λ v. refl) c.in-Some.ensures.some refl)
    (then (opened (number ∷ []) (λ v. refl) c.in-Some.ensures.some refl) (pass (second_next c.args.at.now)))))

pub one-unary-requires : goal.one-unary-requires
one-unary-requires t c = (omega (arith, c.decreases, c.requires.inside), after c.requires.awaits (then (prefixed c.requires.prefix) (pass refl)))

pub one-returns-clause-spelled : goal.one-returns-clause-spelled
one-returns-clause-spelled t c = SpellsExpr.one (lit≤ tt) c.requires.prefix c.requires.no_number c.in_ok-operand.ensures.spelled
    (placed_by (kind.One c.args.op) c.span-place.ensures c.in_ok-operand-2.ensures)

pub one-returns-clause-follows : goal.one-returns-clause-follows
one-returns-clause-follows t c = then (prefixed c.requires.prefix) (then (pass refl) (c.in_ok-operand.ensures.follows))

pub primary-in_parentheses-requires : goal.primary-in_parentheses-requires
primary-in_parentheses-requires t c = (
  omega (arith, c.decreases),
  after c.requires.awaits (opened_last (sign OPEN_PAREN ∷ the Expr ∷ sign CLOSE_PAREN ∷ []) _ (λ v. refl)
      (sym c.kind_at.ensures.kind ∙ (c.in-Some-Sign.is ∙ ap Some c.in-Some-Sign.field-0-is)) refl),
)

pub primary-returns-in_ok-e-in-Some-Sign-clause-follows : goal.primary-returns-in_ok-e-in-Some-Sign-clause-follows
primary-returns-in_ok-e-in-Some-Sign-clause-follows t c =
    then (opened_last (sign OPEN_PAREN ∷ the Expr ∷ sign CLOSE_PAREN ∷ []) _ (λ v. refl)
    (sym c.kind_at.ensures.kind ∙ (c.in-Some-Sign.is ∙ ap Some c.in-Some-Sign.field-0-is)) refl) (c.in_ok-e-in-Some-Sign.ensures.follows)

pub primary-unreachable-requires : goal.primary-unreachable-requires
primary-unreachable-requires t c = never_ends (λ v. refl) refl c.requires.awaits (sym c.kind_at.ensures.kind ∙ c.in-None.is)

pub read-target_of-requires : goal.read-target_of-requires
read-target_of-requires t c = (
  omega (arith, c.decreases),
  (c.requires.name, (c.requires.next, record { part = Accesses; is = IsPlaceTail.accesses; awaits = c.requires.awaits })),
)

pub read-returns-clause-spelled : goal.read-returns-clause-spelled
read-returns-clause-spelled t c = SpellsExpr.read c.in_ok-target.ensures.spelled (placed (kind.Read c.in_ok-target.target) c.span.ensures)

pub read-returns-clause-follows : goal.read-returns-clause-follows
read-returns-clause-follows t c = then (c.in_ok-target.ensures.keeps.keeps Accesses IsPlaceTail.accesses) (omit refl c.in_ok-target.ensures.ends)

pub read_exprs-read_expr-requires : goal.read_exprs-read_expr-requires
read_exprs-read_expr-requires t c = (omega (arith, c.decreases), first c.requires.awaits)

pub read_exprs-commas-init : goal.read_exprs-commas-init
read_exprs-commas-init t c = record {
  exprs = SpellsExprs.first_expr c.in_ok-read_expr.ensures.spelled (pushed_first c.new-exprs.ensures c.in_ok-push.ensures.ok);
  follows = read c.in_ok-read_expr.ensures.follows;
  ahead = c.in_ok-read_expr.ensures.ahead;
}

pub read_exprs-read_expr-requires-in-commas : goal.read_exprs-read_expr-requires-in-commas
read_exprs-read_expr-requires-in-commas t c = (
  omega (
    arith,
    c.decreases,
    c.take.ensures.next,
    c.take.ensures.inside,
    c.commas.invariant.ahead,
    c.stands.ensures.inside c.commas-test.true,
  ),
  first
      (after c.requires.awaits (then (c.commas.invariant.follows)
      (then (opened (sign COMMA ∷ the Expr ∷ the InputRest ∷ []) (λ v. refl) (c.stands.ensures.kind.0 c.commas-test.true) refl)
      (pass c.take.ensures.next)))),
)

pub read_exprs-commas-preserved : goal.read_exprs-commas-preserved
read_exprs-commas-preserved t c = record {
  exprs = SpellsExprs.more_exprs c.commas.invariant.exprs c.take.ensures.taken c.in_ok-read_expr-2.ensures.spelled c.in_ok-push-2.ensures.ok;
  follows = then (c.commas.invariant.follows) (then (opened (sign COMMA ∷ the Expr ∷ the InputRest ∷ []) (λ v. refl)
      (c.stands.ensures.kind.0 c.commas-test.true) refl) (then (pass c.take.ensures.next) (read c.in_ok-read_expr-2.ensures.follows)));
  ahead = omega (arith, c.commas.invariant.ahead, c.take.ensures.next, c.in_ok-read_expr-2.ensures.ahead);
}

pub read_exprs-returns-clause-follows : goal.read_exprs-returns-clause-follows
read_exprs-returns-clause-follows t c = then (c.commas.invariant.follows) (omit refl (no_sign (c.stands.ensures.not c.commas-test.false)))

pub read_inputs-take-requires : goal.read_inputs-take-requires
read_inputs-take-requires t c = record {
  stands = next_sign
      (after c.requires.awaits (opened_one (sign OPEN_PAREN ∷ the InputList ∷ sign CLOSE_PAREN ∷ []) (λ v. refl) refl (λ c. (_, refl))));
}

pub read_inputs-read_exprs-requires : goal.read_inputs-read_exprs-requires
read_inputs-read_exprs-requires t c = (
  omega (arith, c.decreases, c.take.ensures.next, c.take.ensures.inside),
  first_two (after c.requires.awaits (then (opened_one (sign OPEN_PAREN ∷ the InputList ∷ sign CLOSE_PAREN ∷ []) (λ v. refl) refl
      (λ c. (_, refl))) (then (pass c.take.ensures.next)
      (filled (the Expr ∷ the InputRest ∷ []) (λ v. refl) (λ c. (_, refl)) (no_sign (c.if-stands.ensures.not refl)))))),
)

pub read_inputs-take-requires-else-stands : goal.read_inputs-take-requires-else-stands
read_inputs-take-requires-else-stands t c = record {
  stands =
      next_sign (after c.requires.awaits (then (opened_one (sign OPEN_PAREN ∷ the InputList ∷ sign CLOSE_PAREN ∷ []) (λ v. refl) refl
      (λ c. (_, refl))) (then (pass c.take.ensures.next)
      (then (filled (the Expr ∷ the InputRest ∷ []) (λ v. refl) (λ c. (_, refl)) (no_sign (c.if-stands.ensures.not refl)))
      (read_two c.in_ok-inputs.ensures.follows)))));
}

pub read_inputs-returns-then-stands-clause-spelled : goal.read_inputs-returns-then-stands-clause-spelled
read_inputs-returns-then-stands-clause-spelled t c = SpellsInputs.no_inputs c.take.ensures.taken c.take-then-stands.ensures.taken c.new.ensures

pub read_inputs-returns-then-stands-clause-follows : goal.read_inputs-returns-then-stands-clause-follows
read_inputs-returns-then-stands-clause-follows t c =
    then (opened_one (sign OPEN_PAREN ∷ the InputList ∷ sign CLOSE_PAREN ∷ []) (λ v. refl) refl (λ c. (_, refl)))
    (then (pass c.take.ensures.next) (then (omit {part = InputList} refl (next_other (c.if-stands.ensures.kind.0 refl) refl))
    (pass c.take-then-stands.ensures.next)))

pub read_inputs-returns-in_ok-inputs-clause-spelled : goal.read_inputs-returns-in_ok-inputs-clause-spelled
read_inputs-returns-in_ok-inputs-clause-spelled t c =
    SpellsInputs.some_inputs c.take.ensures.taken c.in_ok-inputs.ensures.spelled c.take-else-stands.ensures.taken

pub read_inputs-returns-in_ok-inputs-clause-follows : goal.read_inputs-returns-in_ok-inputs-clause-follows
read_inputs-returns-in_ok-inputs-clause-follows t c =
    then (opened_one (sign OPEN_PAREN ∷ the InputList ∷ sign CLOSE_PAREN ∷ []) (λ v. refl) refl (λ c. (_, refl)))
    (then (pass c.take.ensures.next) (then (filled (the Expr ∷ the InputRest ∷ []) (λ v. refl) (λ c. (_, refl))
    (no_sign (c.if-stands.ensures.not refl))) (then (read_two c.in_ok-inputs.ensures.follows) (pass c.take-else-stands.ensures.next))))

pub read_part-name-requires : goal.read_part-name-requires
read_part-name-requires t c = record {
  stands = next_name
      (after c.requires.awaits (then (opened (sign DOT ∷ name ∷ []) (λ v. refl) (c.if-stands.ensures.kind.0 refl) refl) (pass c.take.ensures.next)));
}

pub read_part-index-requires : goal.read_part-index-requires
read_part-index-requires t c = (
  omega (arith, c.decreases),
  after c.requires.awaits (opened_rest (sign OPEN_BRACKET ∷ the Expr ∷ sign CLOSE_BRACKET ∷ []) (λ v. refl) refl
      (λ kind is. access_index (class_of kind) (off_at (no_sign (c.if-stands.ensures.not refl)) kind is))),
)

pub read_part-returns-in_ok-name-clause-spelled : goal.read_part-returns-in_ok-name-clause-spelled
read_part-returns-in_ok-name-clause-spelled t c = SpellsPart.field c.take.ensures.taken c.in_ok-name.ensures.spelled refl

pub read_part-returns-in_ok-name-clause-follows : goal.read_part-returns-in_ok-name-clause-follows
read_part-returns-in_ok-name-clause-follows t c = then
    (opened (sign DOT ∷ name ∷ []) (λ v. refl) (c.if-stands.ensures.kind.0 refl) refl) (then (pass c.take.ensures.next) (c.in_ok-name.ensures.follows))

pub read_part-returns-in_ok-part-clause-follows : goal.read_part-returns-in_ok-part-clause-follows
read_part-returns-in_ok-part-clause-follows t c = then
    (opened_rest (sign OPEN_BRACKET ∷ the Expr ∷ sign CLOSE_BRACKET ∷ []) (λ v. refl) refl
    (λ kind is. access_index (class_of kind) (off_at (no_sign (c.if-stands.ensures.not refl)) kind is))) (c.in_ok-part.ensures.follows)

pub read_parts-parts-init : goal.read_parts-parts-init
read_parts-parts-init t c = record {
  parts = SpellsParts.no_parts c.new-parts.ensures refl;
  keeps =
      record { keeps = λ part is. stay };
  ahead = at_most_itself c.args.at.now;
}

pub read_parts-read_part-requires : goal.read_parts-read_part-requires
read_parts-read_part-requires t c = (
  omega (
    arith,
    c.decreases,
    c.parts.invariant.ahead,
    c.is_part.ensures.inside c.parts-test.true,
  ),
  first
      (after c.requires.awaits.awaits (then (c.parts.invariant.keeps.keeps c.requires.awaits.part c.requires.awaits.is)
      (accessed c.requires.awaits.part c.requires.awaits.is (sym c.is_part.ensures.among ∙ c.parts-test.true)))),
)

pub read_parts-parts-preserved : goal.read_parts-parts-preserved
read_parts-parts-preserved t c = record {
  parts = SpellsParts.more_parts c.parts.invariant.parts c.in_ok-read_part.ensures.spelled c.in_ok-push.ensures.ok;
  keeps = record {
    keeps = λ part is. then (c.parts.invariant.keeps.keeps part is)
        (then (accessed part is (sym c.is_part.ensures.among ∙ c.parts-test.true)) (read c.in_ok-read_part.ensures.follows));
  };
  ahead = omega (arith, c.parts.invariant.ahead, c.in_ok-read_part.ensures.ahead);
}

pub read_parts-returns-clause-ends : goal.read_parts-returns-clause-ends
read_parts-returns-clause-ends t c = record { off = sym c.is_part.ensures.among ∙ c.parts-test.false }

pub target_of-returns-clause-spelled : goal.target_of-returns-clause-spelled
target_of-returns-clause-spelled t c = SpellsTarget.parted c.requires.name c.in_ok-parts.ensures.spelled
    (placed_target c.args.root c.in_ok-parts.parts c.span.ensures)

pub unary-negative-requires : goal.unary-negative-requires
unary-negative-requires t c = (
  omega (arith, c.decreases, c.if-stands.ensures.inside refl),
  (
    c.if-stands.ensures.inside refl,
    (
      record {
        kind = Sign MINUS;
        token =
            record { stands = c.if-stands.ensures.kind.0 refl; next = refl };
        is = IsPrefix.negation;
      },
      c.requires.awaits,
    ),
  ),
)

pub unary-one-requires : goal.unary-one-requires
unary-one-requires t c = (
  omega (arith, c.decreases, c.if-stands-2.ensures.inside refl),
  (
    c.if-stands-2.ensures.inside refl,
    (
      record {
        kind = Sign TILDE;
        token =
            record { stands = c.if-stands-2.ensures.kind.0 refl; next = refl };
        is = IsPrefix.complement;
      },
      ((λ e. cc), c.requires.awaits),
    ),
  ),
)

pub unary-one-requires-then-stands-3 : goal.unary-one-requires-then-stands-3
unary-one-requires-then-stands-3 t c = (
  omega (arith, c.decreases, c.if-stands-3.ensures.inside refl),
  (
    c.if-stands-3.ensures.inside refl,
    (
      record {
        kind = Word keyword.Not;
        token =
            record { stands = c.if-stands-3.ensures.kind.0 refl; next = refl };
        is = IsPrefix.denial;
      },
      ((λ e. cc), c.requires.awaits),
    ),
  ),
)

pub unary-primary-requires : goal.unary-primary-requires
unary-primary-requires t c = (
  omega (arith, c.decreases),
  after c.requires.awaits (opened_rest (the Primary ∷ []) (λ v. refl) refl
      (λ kind is. unary_primary (class_of kind) (off_at (no_sign (c.if-stands.ensures.not refl)) kind is)
      (off_at (no_sign (c.if-stands-2.ensures.not refl)) kind is) (off_at (no_word (c.if-stands-3.ensures.not refl)) kind is))),
)

pub unary-returns-in_ok-e-clause-follows : goal.unary-returns-in_ok-e-clause-follows
unary-returns-in_ok-e-clause-follows t c = then (opened_rest (the Primary ∷ []) (λ v. refl) refl
    (λ kind is. unary_primary (class_of kind) (off_at (no_sign (c.if-stands.ensures.not refl)) kind is)
    (off_at (no_sign (c.if-stands-2.ensures.not refl)) kind is) (off_at (no_word (c.if-stands-3.ensures.not refl)) kind is))) (c.in_ok-e.ensures.follows)
