use Rattle.std.proofs.Common.{◌-◌, ◌∷◌, ◌++◌, ap, ◌∙◌}
use Rattle.bl_crun_code.specs.declared.instruction.Act.TheVariants as act
use Rattle.bl_crun_code.specs.Code.{Valued, expr_valued, uncounted}
use Rattle.bl_crun_code_layout.specs.Views.{ground_of}
use Rattle.bl_crun_code_statements.proofs.Turning.{turning-done}
use Rattle.bl_crun_code_statements.proofs.turns.turning.Goals as goal

pub returns : goal.returns
returns c = λ body rest was is long.
    let v : Valued = expr_valued c.args.condition.now (ground_of c.args.here.now) in
    let c1 = c.put_begun.new.self in
    turning-done v c.args.depth c.args.over c.in_ok-passed.passed c.args.code.now c1 c.tested.new.code c.set.new.self c.put_begun-2.new.self
    body rest was c.in_ok-put_begun.ensures (c.in_ok-passed.ensures ∙ ap (λ n. n - c.args.over) c.len.ensures)
    (c.in_ok-tested.ensures ∙ ap (λ l. v.test l c.in_ok-inner.inner 0 c.in_ok-passed.passed ++ c1) c.in_ok-late.ensures
    ∙ ap (λ d. v.test v.calm d 0 c.in_ok-passed.passed ++ c1) c.in_ok-inner.ensures)
    (λ front behind x stands far. c.set.ensures front behind x stands far
    ∙ ap (λ n. front ++ uncounted (act.Again n) ∷ behind) (c.in_ok-back.ensures ∙ ap (λ n. n - c.args.over - 1) c.len-2.ensures))
    c.in_ok-put_begun-2.ensures is long
