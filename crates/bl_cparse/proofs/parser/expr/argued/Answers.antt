use Rattle.std.proofs.Common.{map, rules, subst, sym, ◌++◌, ◌∙◌, ◌∷◌}
use Rattle.std.specs.Prelude.{codes, List}
use Rattle.bl_ctext.specs.Spelling.{with_commas, arg_tokens}
use Rattle.bl_cparse.specs.inner.Partial.{on_stack, called_front, args_before, partial_tokens}
use Rattle.bl_cparse.proofs.PartialLemmas.{go_on, argument_on, before_any}
use Rattle.bl_cparse_syntax.specs.Expects.{Expects}
use Rattle.bl_ctext.specs.Token.{Token}
use Rattle.bl_cparse.proofs.ExprOpening.{arg_more, args_end}
use Rattle.bl_cparse.specs.inner.Awaiting.{behind}
use Rattle.bl_cparse.proofs.ReadLemmas.{passed}
use Rattle.bl_cparse.specs.inner.Reading.{sign}
use Rattle.bl_cparse.proofs.parser.expr.argued.Goals as goal

pub returns-then-eat-clause-read : goal.returns-then-eat-clause-read
returns-then-eat-clause-read c = (
  go_on (on_stack c.args.outer.items) (called_front c.in_ok-call.call) (partial_tokens c.awaiting.result) _ _ c.awaiting.ensures.tokens
      (argument_on c.in_ok-call.call.name (codes ",") (called_front c.args.call) (arg_tokens c.args.arg)
      (with_commas (map arg_tokens c.in_ok-call.call.args)) (args_before c.in_ok-call.call.args) _ _
      c.in_ok-call.ensures.tokens (before_any c.in_ok-call.call.args c.in_ok-call.ensures.spells.1) (c.eat.ensures.yes c.if-eat.true)),
  c.awaiting.ensures.spells,
)

pub returns-then-eat-clause-follows : goal.returns-then-eat-clause-follows
returns-then-eat-clause-follows c = λ rest e. let o =
    passed (c.eat.ensures.yes c.if-eat.true) (arg_more (sym c.eat.ensures.is ∙ c.if-eat.true) (c.in_ok-call.ensures.awaits _ _ e)) in search rules

pub returns-in_err-take-clause-follows : goal.returns-in_err-take-clause-follows
returns-in_err-take-clause-follows c = λ rest e. let o =
    args_end (sym c.eat.ensures.is ∙ c.if-eat.false) (c.in_ok-call.ensures.awaits _ _ e) in let q =
    subst (λ (ts : List Token). Expects (sign (codes ")") ∷ (behind c.args.outer.items ++ rest)) ts)
    (sym (c.eat.ensures.no c.if-eat.false)) o in search rules

pub returns-clause-follows : goal.returns-clause-follows
returns-clause-follows c = λ rest e. let o = args_end (sym c.eat.ensures.is ∙ c.if-eat.false) (c.in_ok-call.ensures.awaits _ _ e) in
    let q = subst (λ (ts : List Token). Expects (sign (codes ")") ∷ (behind c.args.outer.items ++ rest)) ts)
    (sym (c.eat.ensures.no c.if-eat.false)) o in search rules
