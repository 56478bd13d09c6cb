use Rattle.std.proofs.Common.{ap, map, sym, [], ◌∷◌, ◌∙◌, rules, subst, ◌++◌}
use Rattle.std.specs.Prelude.{codes, List}
use Rattle.bl_tree.specs.Reduce.{joined}
use Rattle.bl_ctext.specs.Spelling.{stmt_tokens, stmt_kind_tokens, condition_tokens}
use Rattle.bl_cparse.specs.declared.parser.stmt.Opened.TheVariants.{Then, Else}
use Rattle.bl_cparse.specs.inner.Nest.{frame_tokens, opened_tokens, nest_tokens}
use Rattle.bl_cparse.proofs.NestLemmas.{whole, reopened, then_whole, else_open}
use Rattle.bl_cparse_syntax.specs.Expects.{Expects}
use Rattle.bl_cparse_syntax.specs.declared.grammar.Part.TheVariants.{Stmts}
use Rattle.bl_ctext.specs.Token.{Token}
use Rattle.bl_cparse.proofs.StmtOpening.{else_absent, else_stands}
use Rattle.bl_cparse.specs.inner.Awaiting.{outside}
use Rattle.bl_cparse.specs.inner.Reading.{part, sign}
use Rattle.bl_cparse.proofs.ReadLemmas.{passed}
use Rattle.bl_cparse.proofs.parser.stmt.closed_then.Goals as goal

pub returns-then-not-eat-clause-read : goal.returns-then-not-eat-clause-read
returns-then-not-eat-clause-read c = (
  whole (joined (map frame_tokens c.args.outer.items)) (joined (map stmt_tokens c.args.place.before))
      (opened_tokens (Then c.args.test)) (joined (map stmt_tokens c.args.body)) (codes "}" ∷ [])
      (stmt_kind_tokens c.branch-what.result) (nest_tokens c.in_ok-next.next) _ _
      c.in_ok-next.ensures.read.0 (c.branch-what.ensures.tokens
      ∙ then_whole (condition_tokens c.args.test) (joined (map stmt_tokens c.args.body)))
      (c.in_ok-take.ensures.read ∙ ap (λ ts. codes "}" ∷ ts) (sym (c.eat.ensures.no c.if-not-eat.true))),
  c.in_ok-next.ensures.read.1,
)

pub returns-clause-read : goal.returns-clause-read
returns-clause-read c = (
  reopened (joined (map frame_tokens c.args.outer.items)) (joined (map stmt_tokens c.args.place.before))
      (opened_tokens (Then c.args.test)) (joined (map stmt_tokens c.args.body)) (codes "}" ∷ codes "else" ∷ codes "{" ∷ [])
      (opened_tokens (Else c.args.test c.args.body)) (nest_tokens c.in_ok-next-2.next) _ _
      c.in_ok-next-2.ensures.read.1.0 (else_open (condition_tokens c.args.test) (joined (map stmt_tokens c.args.body)))
      (c.in_ok-take.ensures.read ∙ ap (λ ts. codes "}" ∷ ts)
      (c.eat.ensures.yes c.if-not-eat.false ∙ ap (λ ts. codes "else" ∷ ts) c.in_ok-next-2.ensures.read.0)),
  c.in_ok-next-2.ensures.read.1.1,
)

pub returns-in_err-next-clause-follows : goal.returns-in_err-next-clause-follows
returns-in_err-next-clause-follows c = λ rest e. let o =
    subst (λ (ts : List Token). Expects (part Stmts c.args.place.room ∷ sign (codes "}") ∷ (outside c.args.outer.items ++ rest)) ts)
    (sym (c.eat.ensures.no c.if-not-eat.true)) (else_absent (sym c.eat.ensures.is ∙ c.if-not-eat.true) (c.in_ok-take.ensures.follows _ e)) in search rules

pub returns-then-not-eat-clause-follows : goal.returns-then-not-eat-clause-follows
returns-then-not-eat-clause-follows c = λ rest e. let o =
    subst (λ (ts : List Token). Expects (part Stmts c.args.place.room ∷ sign (codes "}") ∷ (outside c.args.outer.items ++ rest)) ts)
    (sym (c.eat.ensures.no c.if-not-eat.true)) (else_absent (sym c.eat.ensures.is ∙ c.if-not-eat.true) (c.in_ok-take.ensures.follows _ e)) in search rules

pub returns-in_err-next-2-clause-follows : goal.returns-in_err-next-2-clause-follows
returns-in_err-next-2-clause-follows c = λ rest e. let o =
    passed (c.eat.ensures.yes c.if-not-eat.false) (else_stands (sym c.eat.ensures.is ∙ c.if-not-eat.false) (c.in_ok-take.ensures.follows _ e)) in search rules

pub returns-clause-follows : goal.returns-clause-follows
returns-clause-follows c = λ rest e. let o = passed (c.eat.ensures.yes c.if-not-eat.false)
    (else_stands (sym c.eat.ensures.is ∙ c.if-not-eat.false) (c.in_ok-take.ensures.follows _ e)) in search rules
