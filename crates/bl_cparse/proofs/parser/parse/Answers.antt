use Rattle.std.proofs.Common.{length, drop}
use Rattle.bl_ctext.specs.declared.prelude.TheConstants.{PRELUDE}
use Rattle.bl_cparse.proofs.FileLemmas.{begins, other_front}
use Rattle.bl_cparse.proofs.parser.parse.Goals as goal

pub left_prelude-requires-clause-other : goal.left_prelude-requires-clause-other
left_prelude-requires-clause-other c = other_front c.args.text.now c.starts_with.result c.starts_with.ensures.value c.if-not-starts_with.true

pub behind_prelude-requires-clause-begins : goal.behind_prelude-requires-clause-begins
behind_prelude-requires-clause-begins c = begins c.args.text.now c.starts_with.result c.starts_with.ensures.value c.if-not-starts_with.false

pub returns-then-not-starts_with-clause-place : goal.returns-then-not-starts_with-clause-place
returns-then-not-starts_with-clause-place c = λ rest is none. absurd
    (other_front c.args.text.now c.starts_with.result c.starts_with.ensures.value c.if-not-starts_with.true rest is)

pub returns-in-Ok-clause-prelude : goal.returns-in-Ok-clause-prelude
returns-in-Ok-clause-prelude c = λ other. absurd (other (drop (length PRELUDE.now) c.args.text.now)
    (begins c.args.text.now c.starts_with.result c.starts_with.ensures.value c.if-not-starts_with.false))

pub returns-in-Err-clause-prelude : goal.returns-in-Err-clause-prelude
returns-in-Err-clause-prelude c = λ other. absurd (other (drop (length PRELUDE.now) c.args.text.now)
    (begins c.args.text.now c.starts_with.result c.starts_with.ensures.value c.if-not-starts_with.false))

pub returns-in-Ok-clause-place : goal.returns-in-Ok-clause-place
returns-in-Ok-clause-place c = λ rest is none. c.in-Ok.ensures.place none

pub returns-in-Err-clause-place : goal.returns-in-Err-clause-place
returns-in-Err-clause-place c = λ rest is none. c.in-Err.ensures.place none
