use Rattle.bl_ctext_semantics.proofs.FirstLemmas.{first_place-append}
use Rattle.bl_ctext_semantics.proofs.check.functions.judge_function.Goals as goal

pub returns : goal.returns
returns c = rw (c.earlier.ensures, c.judge_head.ensures, c.in_ok-body.ensures) (simp first_place-append)
