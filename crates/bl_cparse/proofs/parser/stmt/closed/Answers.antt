use Rattle.std.proofs.Common.{map, refl, ◌∙◌, rules, subst, ◌++◌, ◌∷◌}
use Rattle.bl_tree.specs.Reduce.{joined}
use Rattle.bl_ctext.specs.Spelling.{stmt_tokens}
use Rattle.bl_cparse.specs.inner.Nest.{frame_tokens, spells_frame}
use Rattle.bl_cparse.proofs.NestLemmas.{all_but, one_more, read_close}
use Rattle.bl_cparse_syntax.specs.Expects.{Expects}
use Rattle.std.specs.Prelude.{List, codes}
use Rattle.bl_tree.proofs.Basics.{and_first}
use Rattle.bl_cparse_syntax.specs.Grammar.{Wanted}
use Rattle.bl_cparse.specs.inner.Awaiting.{frame_wanted}
use Rattle.bl_cparse.specs.inner.Reading.{sign}
use Rattle.bl_cparse.proofs.AwaitLemmas.{unwound_off}
use Rattle.bl_cparse.proofs.parser.stmt.closed.Goals as goal

pub closed_frame-requires-clause-outer : goal.closed_frame-requires-clause-outer
closed_frame-requires-clause-outer c = (all_but spells_frame c.pop.new.self.items c.args.nest.outer.items c.in-Some.frame
    c.in-Some.ensures.items (and_first _ _ c.requires.spells)).0

pub closed_frame-requires-clause-frame : goal.closed_frame-requires-clause-frame
closed_frame-requires-clause-frame c = (all_but spells_frame c.pop.new.self.items c.args.nest.outer.items c.in-Some.frame
    c.in-Some.ensures.items (and_first _ _ c.requires.spells)).1

pub returns-clause-read : goal.returns-clause-read
returns-clause-read c = (
  read_close (joined (map frame_tokens c.args.nest.outer.items)) (joined (map frame_tokens c.pop.new.self.items))
      (frame_tokens c.in-Some.frame) (joined (map stmt_tokens c.args.nest.body)) c.args.r.now
      (one_more frame_tokens c.pop.new.self.items c.args.nest.outer.items c.in-Some.frame (frame_tokens c.in-Some.frame) c.in-Some.ensures.items refl)
      ∙ c.in_ok-next-in-Some.ensures.read.0,
  c.in_ok-next-in-Some.ensures.read.1,
)

pub returns-in_err-next-in-Some-clause-follows : goal.returns-in_err-next-in-Some-clause-follows
returns-in_err-next-in-Some-clause-follows c = λ rest e. let o =
    subst (λ (w : List Wanted). Expects (sign (codes "}") ∷ (w ++ rest)) c.args.r.now)
    (unwound_off frame_wanted c.pop.new.self.items c.args.nest.outer.items c.in-Some.frame c.in-Some.ensures.items) e in search rules

pub returns-clause-follows : goal.returns-clause-follows
returns-clause-follows c = λ rest e. let o = subst (λ (w : List Wanted). Expects (sign (codes "}") ∷ (w ++ rest)) c.args.r.now)
    (unwound_off frame_wanted c.pop.new.self.items c.args.nest.outer.items c.in-Some.frame c.in-Some.ensures.items) e in search rules
