use Rattle.std.proofs.Common.{◌∙◌, rules, subst, ◌++◌}
use Rattle.bl_cparse.specs.inner.Partial.{held_tokens, spells_held}
use Rattle.bl_cparse.proofs.NestLemmas.{all_but}
use Rattle.bl_cparse.proofs.PartialLemmas.{taken_off}
use Rattle.bl_cparse_syntax.specs.Expects.{Expects}
use Rattle.std.specs.Prelude.{List}
use Rattle.bl_cparse_syntax.specs.Grammar.{Wanted}
use Rattle.bl_cparse.specs.inner.Awaiting.{held_wanted}
use Rattle.bl_cparse.proofs.AwaitLemmas.{unwound_off}
use Rattle.bl_cparse.proofs.parser.expr.closed.Goals as goal

pub closed_held-requires-clause-outer : goal.closed_held-requires-clause-outer
closed_held-requires-clause-outer c = (all_but spells_held c.pop.new.self.items c.args.outer.items c.in-Some.held c.in-Some.ensures.items c.requires.outer).0

pub closed_held-requires-clause-held : goal.closed_held-requires-clause-held
closed_held-requires-clause-held c = (all_but spells_held c.pop.new.self.items c.args.outer.items c.in-Some.held c.in-Some.ensures.items c.requires.outer).1

pub returns-clause-read : goal.returns-clause-read
returns-clause-read c = (
  taken_off held_tokens c.pop.new.self.items c.args.outer.items c.in-Some.held _ c.in-Some.ensures.items ∙ c.in_ok-p-in-Some.ensures.read.0,
  c.in_ok-p-in-Some.ensures.read.1,
)

pub returns-in_err-p-in-Some-clause-follows : goal.returns-in_err-p-in-Some-clause-follows
returns-in_err-p-in-Some-clause-follows c = λ rest e. let o =
    subst (λ (w : List Wanted). Expects (w ++ rest) c.args.r.now)
    (unwound_off held_wanted c.pop.new.self.items c.args.outer.items c.in-Some.held c.in-Some.ensures.items) e in search rules

pub returns-clause-follows : goal.returns-clause-follows
returns-clause-follows c = λ rest e. let o = subst (λ (w : List Wanted). Expects (w ++ rest) c.args.r.now)
    (unwound_off held_wanted c.pop.new.self.items c.args.outer.items c.in-Some.held c.in-Some.ensures.items) e in search rules
