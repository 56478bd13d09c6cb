use Rattle.std.proofs.Common.{Some, refl, ap, sym, arith, ◌∙◌, ◌∷◌, []}
use Rattle.bl_tree.proofs.Basics.{at_most_itself}
use Rattle.bl_tree.specs.declared.token.Keyword.TheVariants as keyword
use Rattle.bl_parse_syntax.specs.declared.grammar.Part.TheVariants.{Block, Weak, Branches, Guard, Until, Elseifs, Else, Expr}
use Rattle.bl_parse_syntax.specs.Grammar.{word, the}
use Rattle.bl_parse.specs.Statements.{SpellsBlock, SpellsStmt, SpellsKind, SpellsBranches, SpellsBranch, SpellsArms, SpellsArm, SpellsElse}
use Rattle.bl_parse.proofs.ExprLemmas.{pushed_first}
use Rattle.bl_parse.proofs.StmtLemmas.{placed_stmt, return_left}
use Rattle.bl_parse.specs.At.{kind_at}
use Rattle.bl_parse.proofs.PartLemmas.{block_opens, other_word}
use Rattle.bl_parse.proofs.ReturnLemmas.{stmt_starts}
use Rattle.bl_parse.proofs.ReadLemmas.{front, read_all, next_word, first, first_two, after, then, read, read_two, pass, stay, opened, never_ends, never, omit}
use Rattle.bl_parse.proofs.ReadLemmas.{no_word}
use Rattle.bl_parse.proofs.stmt.+statements.Goals as goal

pub block-statements-init : goal.block-statements-init
block-statements-init t c = record { body = SpellsBlock.no_stmts c.new-body.ensures refl; follows = stay; ahead = at_most_itself c.args.at.now }

pub block-stmt-requires : goal.block-stmt-requires
block-stmt-requires t c = (
  omega (
    arith,
    c.decreases,
    c.statements.invariant.ahead,
    c.begins_stmt.ensures.inside c.statements-test.true,
  ),
  first (after c.requires.awaits (then (c.statements.invariant.follows)
      (block_opens (sym (stmt_starts (kind_at c.args.source.now.tokens.now c.statements.at))
      ∙ (sym c.begins_stmt.ensures.among ∙ c.statements-test.true))))),
)

pub block-statements-preserved : goal.block-statements-preserved
block-statements-preserved t c = record {
  body = SpellsBlock.more_stmts c.statements.invariant.body c.in_ok-stmt.ensures.spelled c.in_ok-push.ensures.ok;
  follows = then (c.statements.invariant.follows) (then
      (block_opens (sym (stmt_starts (kind_at c.args.source.now.tokens.now c.statements.at))
      ∙ (sym c.begins_stmt.ensures.among ∙ c.statements-test.true))) (read c.in_ok-stmt.ensures.follows));
  ahead = omega (arith, c.statements.invariant.ahead, c.in_ok-stmt.ensures.ahead);
}

pub block-returns-clause-follows : goal.block-returns-clause-follows
block-returns-clause-follows t c = then (c.statements.invariant.follows)
    (omit refl (record {
      off = sym (stmt_starts (kind_at c.args.source.now.tokens.now c.statements.at))
          ∙ (sym c.begins_stmt.ensures.among ∙ c.statements-test.false);
    }))

pub stmt-returns-clause-spelled : goal.stmt-returns-clause-spelled
stmt-returns-clause-spelled t c = SpellsStmt.placed c.in_ok-what.ensures.spelled (placed_stmt c.in_ok-what.what c.span.ensures)

pub kind-unreachable-requires : goal.kind-unreachable-requires
kind-unreachable-requires t c = never (λ v. refl) (sym c.kind_at.ensures.kind
    ∙ (c.in-Some-Number.is ∙ ap Some c.in-Some-Number.field-0-is)) refl c.requires.awaits

pub kind-unreachable-requires-in-Some-Sign : goal.kind-unreachable-requires-in-Some-Sign
kind-unreachable-requires-in-Some-Sign t c = never (λ v. refl)
    (sym c.kind_at.ensures.kind ∙ (c.in-Some-Sign.is ∙ ap Some c.in-Some-Sign.field-0-is)) refl c.requires.awaits

pub kind-unreachable-requires-in-None : goal.kind-unreachable-requires-in-None
kind-unreachable-requires-in-None t c = never_ends (λ v. refl) refl c.requires.awaits (sym c.kind_at.ensures.kind ∙ c.in-None.is)

pub led-returning-requires-clause-stands : goal.led-returning-requires-clause-stands
led-returning-requires-clause-stands t c = return_left c.args.k c.requires.stands c.requires.awaits
    (other_word keyword.Var c.args.k refl (sym c.eq.ensures ∙ c.if-eq.false))
    (other_word keyword.Let c.args.k refl (sym c.eq-else-eq.ensures ∙ c.if-eq-2.false))
    (other_word keyword.Const c.args.k refl (sym c.eq-else-eq-2.ensures ∙ c.if-eq-3.false))
    (other_word keyword.Await c.args.k refl (sym c.eq-else-eq-3.ensures ∙ c.if-eq-4.false))
    (other_word keyword.Run c.args.k refl (sym c.eq-else-eq-4.ensures ∙ c.if-eq-5.false))
    (other_word keyword.Cobegin c.args.k refl (sym c.eq-else-eq-5.ensures ∙ c.if-eq-6.false))
    (other_word keyword.When c.args.k refl (sym c.eq-else-eq-6.ensures ∙ c.if-eq-7.false))
    (other_word keyword.Repeat c.args.k refl (sym c.eq-else-eq-7.ensures ∙ c.if-eq-8.false))
    (other_word keyword.While c.args.k refl (sym c.eq-else-eq-8.ensures ∙ c.if-eq-9.false))
    (other_word keyword.If c.args.k refl (sym c.eq-else-eq-9.ensures ∙ c.if-eq-10.false))

pub cobegin-branches-requires : goal.cobegin-branches-requires
cobegin-branches-requires t c = (
  omega (arith, c.decreases, c.take.ensures.next, c.take.ensures.inside),
  front (the Weak ∷ the Block ∷ the Branches ∷ []) _
      (after c.requires.awaits (then (opened (word keyword.Cobegin ∷ the Weak ∷ the Block ∷ the Branches ∷ word keyword.End ∷ [])
      (λ v. refl) c.requires.stands refl) (pass c.take.ensures.next))),
)

pub cobegin-take-requires-2 : goal.cobegin-take-requires-2
cobegin-take-requires-2 t c = record {
  stands = next_word
      (after c.requires.awaits (then (opened (word keyword.Cobegin ∷ the Weak ∷ the Block ∷ the Branches ∷ word keyword.End ∷ [])
      (λ v. refl) c.requires.stands refl) (then (pass c.take.ensures.next) (read_all c.in_ok-branches.ensures.follows))));
}

pub cobegin-returns-clause-spelled : goal.cobegin-returns-clause-spelled
cobegin-returns-clause-spelled t c = SpellsKind.cobegin c.take.ensures.taken c.in_ok-branches.ensures.spelled c.take-2.ensures.taken refl

pub cobegin-returns-clause-follows : goal.cobegin-returns-clause-follows
cobegin-returns-clause-follows t c = then (opened (word keyword.Cobegin ∷ the Weak ∷ the Block ∷ the Branches ∷ word keyword.End ∷ [])
    (λ v. refl) c.requires.stands refl) (then (pass c.take.ensures.next) (then (read_all c.in_ok-branches.ensures.follows) (pass c.take-2.ensures.next)))

pub branches-branch-source-requires : goal.branches-branch-source-requires
branches-branch-source-requires t c = (omega (arith, c.decreases), first_two c.requires.awaits)

pub branches-withs-init : goal.branches-withs-init
branches-withs-init t c = record {
  branches = SpellsBranches.first_branch c.in_ok-branch.ensures.spelled
      (pushed_first c.new-branches.ensures c.in_ok-push.ensures.ok);
  follows = read_two c.in_ok-branch.ensures.follows;
  ahead = c.in_ok-branch.ensures.ahead;
}

pub branches-branch-source-requires-in-withs : goal.branches-branch-source-requires-in-withs
branches-branch-source-requires-in-withs t c = (
  omega (
    arith,
    c.decreases,
    c.take.ensures.next,
    c.take.ensures.inside,
    c.withs.invariant.ahead,
    c.stands.ensures.inside c.withs-test.true,
  ),
  first_two
      (after c.requires.awaits (then (c.withs.invariant.follows)
      (then (opened (word keyword.With ∷ the Weak ∷ the Block ∷ the Branches ∷ []) (λ v. refl)
      (c.stands.ensures.kind.0 c.withs-test.true) refl) (pass c.take.ensures.next)))),
)

pub branches-withs-preserved : goal.branches-withs-preserved
branches-withs-preserved t c = record {
  branches = SpellsBranches.more_branches c.withs.invariant.branches c.take.ensures.taken c.in_ok-branch-2.ensures.spelled c.in_ok-push-2.ensures.ok;
  follows = then (c.withs.invariant.follows) (then (opened (word keyword.With ∷ the Weak ∷ the Block ∷ the Branches ∷ []) (λ v. refl)
      (c.stands.ensures.kind.0 c.withs-test.true) refl) (then (pass c.take.ensures.next) (read_two c.in_ok-branch-2.ensures.follows)));
  ahead = omega (arith, c.withs.invariant.ahead, c.take.ensures.next, c.in_ok-branch-2.ensures.ahead);
}

pub branches-returns-clause-follows : goal.branches-returns-clause-follows
branches-returns-clause-follows t c = then (c.withs.invariant.follows) (omit refl (no_word (c.stands.ensures.not c.withs-test.false)))

pub branch-weak-requires : goal.branch-weak-requires
branch-weak-requires t c = record { awaits = first c.requires.awaits }

pub branch-block-requires : goal.branch-block-requires
branch-block-requires t c = (omega (arith, c.decreases, c.in_ok-weak.ensures.ahead), after c.requires.awaits (read c.in_ok-weak.ensures.follows))

pub branch-returns-clause-spelled : goal.branch-returns-clause-spelled
branch-returns-clause-spelled t c = SpellsBranch.branched c.in_ok-weak.ensures.spelled c.in_ok-body.ensures.spelled refl

pub branch-returns-clause-follows : goal.branch-returns-clause-follows
branch-returns-clause-follows t c = then (read c.in_ok-weak.ensures.follows) (c.in_ok-body.ensures.follows)

pub guarded-read_expr-requires : goal.guarded-read_expr-requires
guarded-read_expr-requires t c = record {
  awaits =
      first (after c.requires.awaits (then (opened (word keyword.When ∷ the Expr ∷ the Guard ∷ the Block ∷ word keyword.End ∷ [])
      (λ v. refl) c.requires.stands refl) (pass c.take.ensures.next)));
}

pub guarded-guard-requires : goal.guarded-guard-requires
guarded-guard-requires t c = record {
  awaits = first
      (after c.requires.awaits (then (opened (word keyword.When ∷ the Expr ∷ the Guard ∷ the Block ∷ word keyword.End ∷ [])
      (λ v. refl) c.requires.stands refl) (then (pass c.take.ensures.next) (read c.in_ok-test.ensures.follows))));
}

pub guarded-block-requires : goal.guarded-block-requires
guarded-block-requires t c = (
  omega (
    arith,
    c.decreases,
    c.take.ensures.next,
    c.take.ensures.inside,
    c.in_ok-test.ensures.ahead,
    c.in_ok-guard.ensures.ahead,
  ),
  first (after c.requires.awaits
      (then (opened (word keyword.When ∷ the Expr ∷ the Guard ∷ the Block ∷ word keyword.End ∷ []) (λ v. refl) c.requires.stands refl)
      (then (pass c.take.ensures.next) (then (read c.in_ok-test.ensures.follows) (read c.in_ok-guard.ensures.follows))))),
)

pub guarded-take-requires-2 : goal.guarded-take-requires-2
guarded-take-requires-2 t c = record {
  stands = next_word
      (after c.requires.awaits (then (opened (word keyword.When ∷ the Expr ∷ the Guard ∷ the Block ∷ word keyword.End ∷ [])
      (λ v. refl) c.requires.stands refl) (then (pass c.take.ensures.next)
      (then (read c.in_ok-test.ensures.follows) (then (read c.in_ok-guard.ensures.follows) (read c.in_ok-body.ensures.follows))))));
}

pub guarded-returns-clause-spelled : goal.guarded-returns-clause-spelled
guarded-returns-clause-spelled t c = SpellsKind.guarded c.take.ensures.taken c.in_ok-test.ensures.spelled
    c.in_ok-guard.ensures.spelled c.in_ok-body.ensures.spelled c.take-2.ensures.taken refl

pub guarded-returns-clause-follows : goal.guarded-returns-clause-follows
guarded-returns-clause-follows t c = then (opened (word keyword.When ∷ the Expr ∷ the Guard ∷ the Block ∷ word keyword.End ∷ [])
    (λ v. refl) c.requires.stands refl) (then (pass c.take.ensures.next)
    (then (read c.in_ok-test.ensures.follows) (then (read c.in_ok-guard.ensures.follows)
    (then (read c.in_ok-body.ensures.follows) (pass c.take-2.ensures.next)))))

pub while_loop-read_expr-requires : goal.while_loop-read_expr-requires
while_loop-read_expr-requires t c = record {
  awaits =
      first (after c.requires.awaits (then (opened (word keyword.While ∷ the Expr ∷ word keyword.Repeat ∷ the Block ∷ word keyword.End ∷ [])
      (λ v. refl) c.requires.stands refl) (pass c.take.ensures.next)));
}

pub while_loop-take-requires-2 : goal.while_loop-take-requires-2
while_loop-take-requires-2 t c = record {
  stands =
      next_word (after c.requires.awaits (then (opened (word keyword.While ∷ the Expr ∷ word keyword.Repeat ∷ the Block ∷ word keyword.End ∷ [])
      (λ v. refl) c.requires.stands refl) (then (pass c.take.ensures.next) (read c.in_ok-test.ensures.follows))));
}

pub while_loop-block-requires : goal.while_loop-block-requires
while_loop-block-requires t c = (
  omega (
    arith,
    c.decreases,
    c.take.ensures.next,
    c.take.ensures.inside,
    c.take-2.ensures.next,
    c.take-2.ensures.inside,
    c.in_ok-test.ensures.ahead,
  ),
  first (after c.requires.awaits (then (opened (word keyword.While ∷ the Expr ∷ word keyword.Repeat ∷ the Block ∷ word keyword.End ∷ [])
      (λ v. refl) c.requires.stands refl) (then (pass c.take.ensures.next) (then (read c.in_ok-test.ensures.follows) (pass c.take-2.ensures.next))))),
)

pub while_loop-take-requires-3 : goal.while_loop-take-requires-3
while_loop-take-requires-3 t c = record {
  stands =
      next_word (after c.requires.awaits (then (opened (word keyword.While ∷ the Expr ∷ word keyword.Repeat ∷ the Block ∷ word keyword.End ∷ [])
      (λ v. refl) c.requires.stands refl) (then (pass c.take.ensures.next)
      (then (read c.in_ok-test.ensures.follows) (then (pass c.take-2.ensures.next) (read c.in_ok-body.ensures.follows))))));
}

pub while_loop-returns-clause-spelled : goal.while_loop-returns-clause-spelled
while_loop-returns-clause-spelled t c = SpellsKind.while c.take.ensures.taken c.in_ok-test.ensures.spelled c.take-2.ensures.taken
    c.in_ok-body.ensures.spelled c.take-3.ensures.taken refl

pub while_loop-returns-clause-follows : goal.while_loop-returns-clause-follows
while_loop-returns-clause-follows t c = then (opened (word keyword.While ∷ the Expr ∷ word keyword.Repeat ∷ the Block ∷ word keyword.End ∷ [])
    (λ v. refl) c.requires.stands refl) (then (pass c.take.ensures.next)
    (then (read c.in_ok-test.ensures.follows) (then (pass c.take-2.ensures.next) (then (read c.in_ok-body.ensures.follows) (pass c.take-3.ensures.next)))))

pub repeat-block-requires : goal.repeat-block-requires
repeat-block-requires t c = (
  omega (arith, c.decreases, c.take.ensures.next, c.take.ensures.inside),
  first (after c.requires.awaits (then (opened (word keyword.Repeat ∷ the Block ∷ the Until ∷ word keyword.End ∷ [])
      (λ v. refl) c.requires.stands refl) (pass c.take.ensures.next))),
)

pub repeat-read_expr-requires : goal.repeat-read_expr-requires
repeat-read_expr-requires t c = record {
  awaits = first
      (after c.requires.awaits (then (opened (word keyword.Repeat ∷ the Block ∷ the Until ∷ word keyword.End ∷ []) (λ v. refl) c.requires.stands refl)
      (then (pass c.take.ensures.next) (then (read c.in_ok-body.ensures.follows)
      (then (opened (word keyword.Until ∷ the Expr ∷ []) (λ v. refl) (c.if-stands.ensures.kind.0 refl) refl) (pass c.take-then-stands.ensures.next))))));
}

pub repeat-take-requires-then-stands-2 : goal.repeat-take-requires-then-stands-2
repeat-take-requires-then-stands-2 t c = record {
  stands =
      next_word (after c.requires.awaits (then (opened (word keyword.Repeat ∷ the Block ∷ the Until ∷ word keyword.End ∷ [])
      (λ v. refl) c.requires.stands refl) (then (pass c.take.ensures.next)
      (then (read c.in_ok-body.ensures.follows) (then (opened (word keyword.Until ∷ the Expr ∷ []) (λ v. refl)
      (c.if-stands.ensures.kind.0 refl) refl) (then (pass c.take-then-stands.ensures.next) (read c.in_ok-test.ensures.follows)))))));
}

pub repeat-take-requires-else-stands : goal.repeat-take-requires-else-stands
repeat-take-requires-else-stands t c = record {
  stands =
      next_word (after c.requires.awaits (then (opened (word keyword.Repeat ∷ the Block ∷ the Until ∷ word keyword.End ∷ [])
      (λ v. refl) c.requires.stands refl) (then (pass c.take.ensures.next)
      (then (read c.in_ok-body.ensures.follows) (omit refl (no_word (c.if-stands.ensures.not refl)))))));
}

pub repeat-returns-in_ok-test-clause-spelled : goal.repeat-returns-in_ok-test-clause-spelled
repeat-returns-in_ok-test-clause-spelled t c = SpellsKind.until c.take.ensures.taken c.in_ok-body.ensures.spelled
    c.take-then-stands.ensures.taken c.in_ok-test.ensures.spelled c.take-then-stands-2.ensures.taken refl

pub repeat-returns-in_ok-test-clause-follows : goal.repeat-returns-in_ok-test-clause-follows
repeat-returns-in_ok-test-clause-follows t c = then
    (opened (word keyword.Repeat ∷ the Block ∷ the Until ∷ word keyword.End ∷ []) (λ v. refl) c.requires.stands refl)
    (then (pass c.take.ensures.next) (then (read c.in_ok-body.ensures.follows)
    (then (opened (word keyword.Until ∷ the Expr ∷ []) (λ v. refl) (c.if-stands.ensures.kind.0 refl) refl)
    (then (pass c.take-then-stands.ensures.next) (then (read c.in_ok-test.ensures.follows) (pass c.take-then-stands-2.ensures.next))))))

pub repeat-returns-else-stands-clause-spelled : goal.repeat-returns-else-stands-clause-spelled
repeat-returns-else-stands-clause-spelled t c = SpellsKind.repeat c.take.ensures.taken c.in_ok-body.ensures.spelled c.take-else-stands.ensures.taken refl

pub repeat-returns-else-stands-clause-follows : goal.repeat-returns-else-stands-clause-follows
repeat-returns-else-stands-clause-follows t c = then
    (opened (word keyword.Repeat ∷ the Block ∷ the Until ∷ word keyword.End ∷ []) (λ v. refl) c.requires.stands refl)
    (then (pass c.take.ensures.next) (then (read c.in_ok-body.ensures.follows)
    (then (omit refl (no_word (c.if-stands.ensures.not refl))) (pass c.take-else-stands.ensures.next))))

pub branching-arms-requires : goal.branching-arms-requires
branching-arms-requires t c = (
  omega (arith, c.decreases),
  front (word keyword.If ∷ the Expr ∷ word keyword.Then ∷ the Block ∷ the Elseifs ∷ []) _
      (after c.requires.awaits (opened (word keyword.If ∷ the Expr ∷ word keyword.Then ∷ the Block ∷ the Elseifs ∷ the Else ∷ word keyword.End ∷ [])
      (λ v. refl) c.requires.stands refl)),
)

pub branching-otherwise-requires : goal.branching-otherwise-requires
branching-otherwise-requires t c = (
  omega (arith, c.decreases, c.in_ok-arms.ensures.ahead),
  first (after c.requires.awaits (then (opened (word keyword.If ∷ the Expr ∷ word keyword.Then ∷ the Block ∷ the Elseifs ∷ the Else ∷ word keyword.End
      ∷ []) (λ v. refl) c.requires.stands refl) (read_all c.in_ok-arms.ensures.follows))),
)

pub branching-take-requires : goal.branching-take-requires
branching-take-requires t c = record {
  stands = next_word
      (after c.requires.awaits (then (opened (word keyword.If ∷ the Expr ∷ word keyword.Then ∷ the Block ∷ the Elseifs ∷ the Else ∷ word keyword.End ∷ [])
      (λ v. refl) c.requires.stands refl) (then (read_all c.in_ok-arms.ensures.follows) (read c.in_ok-other.ensures.follows))));
}

pub branching-returns-clause-spelled : goal.branching-returns-clause-spelled
branching-returns-clause-spelled t c = SpellsKind.branching c.in_ok-arms.ensures.spelled c.in_ok-other.ensures.spelled c.take.ensures.taken refl

pub branching-returns-clause-follows : goal.branching-returns-clause-follows
branching-returns-clause-follows t c = then (opened
    (word keyword.If ∷ the Expr ∷ word keyword.Then ∷ the Block ∷ the Elseifs ∷ the Else ∷ word keyword.End ∷ []) (λ v. refl) c.requires.stands refl)
    (then (read_all c.in_ok-arms.ensures.follows) (then (read c.in_ok-other.ensures.follows) (pass c.take.ensures.next)))

pub arms-arm-requires : goal.arms-arm-requires
arms-arm-requires t c = (omega (arith, c.decreases), front (word keyword.If ∷ the Expr ∷ word keyword.Then ∷ the Block ∷ []) _ c.requires.awaits)

pub arms-elseifs-init : goal.arms-elseifs-init
arms-elseifs-init t c = record {
  arms = SpellsArms.first_arm c.in_ok-arm.ensures.spelled
      (pushed_first c.new-arms.ensures c.in_ok-push.ensures.ok);
  follows = read_all c.in_ok-arm.ensures.follows;
  ahead = c.in_ok-arm.ensures.ahead;
}

pub arms-arm-requires-in-elseifs : goal.arms-arm-requires-in-elseifs
arms-arm-requires-in-elseifs t c = (
  omega (
    arith,
    c.decreases,
    c.elseifs.invariant.ahead,
    c.stands.ensures.inside c.elseifs-test.true,
  ),
  front (word keyword.Elseif ∷ the Expr ∷ word keyword.Then ∷ the Block ∷ []) _
      (after c.requires.awaits (then (c.elseifs.invariant.follows)
      (opened (word keyword.Elseif ∷ the Expr ∷ word keyword.Then ∷ the Block ∷ the Elseifs ∷ []) (λ v. refl)
      (c.stands.ensures.kind.0 c.elseifs-test.true) refl))),
)

pub arms-elseifs-preserved : goal.arms-elseifs-preserved
arms-elseifs-preserved t c = record {
  arms = SpellsArms.more_arms c.elseifs.invariant.arms c.in_ok-arm-2.ensures.spelled c.in_ok-push-2.ensures.ok;
  follows = then (c.elseifs.invariant.follows) (then
      (opened (word keyword.Elseif ∷ the Expr ∷ word keyword.Then ∷ the Block ∷ the Elseifs ∷ []) (λ v. refl)
      (c.stands.ensures.kind.0 c.elseifs-test.true) refl) (read_all c.in_ok-arm-2.ensures.follows));
  ahead = omega (arith, c.elseifs.invariant.ahead, c.in_ok-arm-2.ensures.ahead);
}

pub arms-returns-clause-follows : goal.arms-returns-clause-follows
arms-returns-clause-follows t c = then (c.elseifs.invariant.follows) (omit refl (no_word (c.stands.ensures.not c.elseifs-test.false)))

pub arm-take-requires : goal.arm-take-requires
arm-take-requires t c = record { stands = next_word c.requires.awaits }

pub arm-read_expr-requires : goal.arm-read_expr-requires
arm-read_expr-requires t c = record { awaits = first (after c.requires.awaits (pass c.take.ensures.next)) }

pub arm-take-requires-2 : goal.arm-take-requires-2
arm-take-requires-2 t c = record { stands = next_word (after c.requires.awaits (then (pass c.take.ensures.next) (read c.in_ok-test.ensures.follows))) }

pub arm-block-requires : goal.arm-block-requires
arm-block-requires t c = (
  omega (
    arith,
    c.decreases,
    c.take.ensures.next,
    c.take.ensures.inside,
    c.take-2.ensures.next,
    c.take-2.ensures.inside,
    c.in_ok-test.ensures.ahead,
  ),
  after c.requires.awaits (then (pass c.take.ensures.next) (then (read c.in_ok-test.ensures.follows) (pass c.take-2.ensures.next))),
)

pub arm-returns-clause-spelled : goal.arm-returns-clause-spelled
arm-returns-clause-spelled t c = SpellsArm.headed c.take.ensures.taken c.in_ok-test.ensures.spelled c.take-2.ensures.taken c.in_ok-body.ensures.spelled refl

pub arm-returns-clause-follows : goal.arm-returns-clause-follows
arm-returns-clause-follows t c = then (pass c.take.ensures.next)
    (then (read c.in_ok-test.ensures.follows) (then (pass c.take-2.ensures.next) (c.in_ok-body.ensures.follows)))

pub otherwise-block-requires : goal.otherwise-block-requires
otherwise-block-requires t c = (
  omega (
    arith,
    c.decreases,
    c.take.ensures.next,
    c.take.ensures.inside,
    c.if-stands.ensures.inside refl,
  ),
  after c.requires.awaits
      (then (opened (word keyword.Else ∷ the Block ∷ []) (λ v. refl) (c.if-stands.ensures.kind.0 refl) refl) (pass c.take.ensures.next)),
)

pub otherwise-returns-in_ok-body-clause-spelled : goal.otherwise-returns-in_ok-body-clause-spelled
otherwise-returns-in_ok-body-clause-spelled t c = SpellsElse.with_else c.take.ensures.taken c.in_ok-body.ensures.spelled

pub otherwise-returns-in_ok-body-clause-follows : goal.otherwise-returns-in_ok-body-clause-follows
otherwise-returns-in_ok-body-clause-follows t c = then
    (opened (word keyword.Else ∷ the Block ∷ []) (λ v. refl) (c.if-stands.ensures.kind.0 refl) refl)
    (then (pass c.take.ensures.next) (c.in_ok-body.ensures.follows))

pub otherwise-returns-else-stands-clause-spelled : goal.otherwise-returns-else-stands-clause-spelled
otherwise-returns-else-stands-clause-spelled t c = SpellsElse.no_else c.new.ensures refl

pub otherwise-returns-else-stands-clause-follows : goal.otherwise-returns-else-stands-clause-follows
otherwise-returns-else-stands-clause-follows t c = omit refl (no_word (c.if-stands.ensures.not refl))
