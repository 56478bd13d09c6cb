use Rattle.std.proofs.Common.{length}
use Rattle.bl_ctext.specs.declared.prelude.TheConstants.{PRELUDE}
use Rattle.bl_cparse.proofs.FileLemmas.{passes_some, place_is, failed_at, passed, fails_none, wants_memory}
use Rattle.bl_cparse.proofs.parser.behind_prelude.Goals as goal

pub returns-in-Ok-Some-clause-place : goal.returns-in-Ok-Some-clause-place
returns-in-Ok-Some-clause-place c =
    λ none. place_is c.args.text.now c.in-Ok-Some.at (failed_at c.args.text.now
    (length PRELUDE.now) c.in-Ok-Some.field-0 c.in-Ok-Some.at c.in-Ok-Some.field-0-is c.in-Ok-Some.ensures)

pub returns-in-Err-read-clause-place : goal.returns-in-Err-read-clause-place
returns-in-Err-read-clause-place c =
    λ none. absurd (passes_some c.args.text.now c.requires.begins
    (passed c.args.text.now (length PRELUDE.now) c.in-Ok-None.field-0 c.in-Ok-None.field-0-is c.in-Ok-None.ensures) none)

pub returns-in-Ok-Some-clause-none : goal.returns-in-Ok-Some-clause-none
returns-in-Ok-Some-clause-none c =
    fails_none c.args.text.now c.in-Ok-Some.at (failed_at c.args.text.now
    (length PRELUDE.now) c.in-Ok-Some.field-0 c.in-Ok-Some.at c.in-Ok-Some.field-0-is c.in-Ok-Some.ensures)

pub returns-in-Err-read-clause-none : goal.returns-in-Err-read-clause-none
returns-in-Err-read-clause-none c = wants_memory c.args.text.now c.in-Err-read.refusal c.in-Err-read.ensures.memory
