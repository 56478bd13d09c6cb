-- Each command's end is that of the job; where there is none nothing is written.
use Rattle.std.proofs.Common.{◌≡◌, Some, arith, map, refl, rules, string_bytes}
use Rattle.std.proofs.lemmas.List.{length-map}
use Rattle.bl_top_args.specs.Jobs.{gen, job_of, link}
use Rattle.bl_top.proofs.Ends.{answers_alone, answers_bound, answers_build, answers_check, answers_count, answers_exec, answers_face, answers_gen, answers_link}
use Rattle.bl_top.proofs.Ends.{answers_none, answers_resume}
use Rattle.bl_top.proofs.Ends.{answers_run, answers_save, answers_save_from, answers_short, answers_walk}
use Rattle.bl_top.proofs.Driven.{answers_drive}
use Rattle.bl_top.proofs.Ends.{sources_asked, stages_asked}
use Rattle.bl_top.proofs.call.answer.Goals as goal
use Rattle.bl_rows_stream.proofs.Takings.{kept-same}

pub returns-in-Ok-Some-Check-clause-answers : goal.returns-in-Ok-Some-Check-clause-answers
returns-in-Ok-Some-Check-clause-answers g c = λ notes.
    answers_alone _ _ _ c.alone.result c.check.result c.alone.ensures.outcome c.alone.ensures.lines
    (answers_check _ _ _ _ _ _ (search rules) (c.check.ensures.ends notes))

pub returns-in-Ok-Some-Build-clause-answers : goal.returns-in-Ok-Some-Build-clause-answers
returns-in-Ok-Some-Build-clause-answers g c = λ notes.
    answers_alone _ _ _ c.alone-in-Ok-Some-Build.result c.build.result c.alone-in-Ok-Some-Build.ensures.outcome c.alone-in-Ok-Some-Build.ensures.lines
    (answers_build _ _ _ _ _ _ (search rules) (c.build.ensures.ends notes))

pub returns-in-Ok-Some-Run-clause-answers : goal.returns-in-Ok-Some-Run-clause-answers
returns-in-Ok-Some-Run-clause-answers g c = λ notes.
    answers_alone _ _ _ c.alone-in-Ok-Some-Run.result c.run.result c.alone-in-Ok-Some-Run.ensures.outcome c.alone-in-Ok-Some-Run.ensures.lines
    (answers_run _ _ _ _ _ _ _ (search rules) (c.run.ensures.ends notes))

pub returns-in-Ok-Some-Walk-clause-answers : goal.returns-in-Ok-Some-Walk-clause-answers
returns-in-Ok-Some-Walk-clause-answers g c = λ notes. answers_walk _ _ _ _ _ _ _ _ (search rules) (c.walk.ensures.ends notes)

pub returns-in-Ok-Some-Exec-clause-answers : goal.returns-in-Ok-Some-Exec-clause-answers
returns-in-Ok-Some-Exec-clause-answers g c = λ notes.
    answers_alone _ _ _ c.alone-in-Ok-Some-Exec.result c.exec.result c.alone-in-Ok-Some-Exec.ensures.outcome c.alone-in-Ok-Some-Exec.ensures.lines
    (answers_exec _ _ _ _ _ _ _ (search rules) (c.exec.ensures.ends notes))

pub returns-in-Ok-Some-Drive-clause-answers : goal.returns-in-Ok-Some-Drive-clause-answers
returns-in-Ok-Some-Drive-clause-answers g c = λ notes. answers_drive _ _ _ _ _ _ _ _ (search rules) (c.drive.ensures.ends notes)

pub generate-requires : goal.generate-requires
generate-requires g c =
    let asked : job_of (map string_bytes c.args.words.now) ≡ Some (gen c.in-Ok-Some-Gen.stages) = search rules in
    stages_asked (job_of (map string_bytes c.args.words.now)) c.in-Ok-Some-Gen.stages asked c.jobs_are_counted.ensures

pub returns-in-Ok-Some-Gen-clause-answers : goal.returns-in-Ok-Some-Gen-clause-answers
returns-in-Ok-Some-Gen-clause-answers g c = λ notes.
    answers_alone _ _ _ c.alone-in-Ok-Some-Gen.result c.generate.result c.alone-in-Ok-Some-Gen.ensures.outcome c.alone-in-Ok-Some-Gen.ensures.lines
    (answers_gen _ _ _ _ _ _ (search rules) (c.generate.ensures.ends _ _ _ notes))

pub returns-in-Ok-Some-Gen-clause-reads : goal.returns-in-Ok-Some-Gen-clause-reads
returns-in-Ok-Some-Gen-clause-reads g c = c.kept_files_are_within_limits.ensures _ _

pub returns-in-Ok-Some-Bound-clause-answers : goal.returns-in-Ok-Some-Bound-clause-answers
returns-in-Ok-Some-Bound-clause-answers g c = λ notes.
    answers_alone _ _ _ c.alone-in-Ok-Some-Bound.result c.bound.result c.alone-in-Ok-Some-Bound.ensures.outcome c.alone-in-Ok-Some-Bound.ensures.lines
    (answers_bound _ _ _ _ _ _ (search rules) (c.bound.ensures.ends notes))

pub returns-in-Ok-Some-Count-clause-answers : goal.returns-in-Ok-Some-Count-clause-answers
returns-in-Ok-Some-Count-clause-answers g c = λ notes.
    answers_alone _ _ _ c.alone-in-Ok-Some-Count.result c.count.result c.alone-in-Ok-Some-Count.ensures.outcome c.alone-in-Ok-Some-Count.ensures.lines
    (answers_count _ _ _ _ _ _ _ (search rules) (c.count.ensures.ends notes))

pub returns-in-Ok-Some-Save-clause-answers : goal.returns-in-Ok-Some-Save-clause-answers
returns-in-Ok-Some-Save-clause-answers g c = λ notes.
    answers_alone _ _ _ c.alone-in-Ok-Some-Save.result c.save.result c.alone-in-Ok-Some-Save.ensures.outcome c.alone-in-Ok-Some-Save.ensures.lines
    (answers_save _ _ _ _ _ _ _ (search rules) (c.save.ensures.ends notes))

pub returns-in-Ok-Some-SaveFrom-clause-answers : goal.returns-in-Ok-Some-SaveFrom-clause-answers
returns-in-Ok-Some-SaveFrom-clause-answers g c = λ notes.
    answers_alone _ _ _ c.alone-in-Ok-Some-SaveFrom.result c.save_from.result c.alone-in-Ok-Some-SaveFrom.ensures.outcome
    c.alone-in-Ok-Some-SaveFrom.ensures.lines
    (answers_save_from _ _ _ _ _ _ _ _ (search rules) (c.save_from.ensures.ends notes))

pub returns-in-Ok-Some-Resume-clause-answers : goal.returns-in-Ok-Some-Resume-clause-answers
returns-in-Ok-Some-Resume-clause-answers g c = λ notes.
    answers_alone _ _ _ c.alone-in-Ok-Some-Resume.result c.resume.result c.alone-in-Ok-Some-Resume.ensures.outcome c.alone-in-Ok-Some-Resume.ensures.lines
    (answers_resume _ _ _ _ _ _ _ _ (search rules) (c.resume.ensures.ends notes))

pub returns-in-Ok-Some-Face-clause-answers : goal.returns-in-Ok-Some-Face-clause-answers
returns-in-Ok-Some-Face-clause-answers g c = λ notes.
    answers_alone _ _ _ c.alone-in-Ok-Some-Face.result c.face.result c.alone-in-Ok-Some-Face.ensures.outcome c.alone-in-Ok-Some-Face.ensures.lines
    (answers_face _ _ _ _ _ _ _ (search rules) (c.face.ensures.ends notes))

pub link-requires-clause-some : goal.link-requires-clause-some
link-requires-clause-some g c =
    let asked : job_of (map string_bytes c.args.words.now) ≡ Some (link (map string_bytes c.in-Ok-Some-Link.sources.now)) = search rules in
    let counted =
    sources_asked (job_of (map string_bytes c.args.words.now)) (map string_bytes c.in-Ok-Some-Link.sources.now) asked c.jobs_are_counted.ensures in
    let same = length-map c.in-Ok-Some-Link.sources.now string_bytes in omega (arith, same, counted.0)

pub link-requires-clause-few : goal.link-requires-clause-few
link-requires-clause-few g c =
    let asked : job_of (map string_bytes c.args.words.now) ≡ Some (link (map string_bytes c.in-Ok-Some-Link.sources.now)) = search rules in
    let counted =
    sources_asked (job_of (map string_bytes c.args.words.now)) (map string_bytes c.in-Ok-Some-Link.sources.now) asked c.jobs_are_counted.ensures in
    let same = length-map c.in-Ok-Some-Link.sources.now string_bytes in omega (arith, same, counted.1)

pub returns-in-Ok-Some-Link-clause-answers : goal.returns-in-Ok-Some-Link-clause-answers
returns-in-Ok-Some-Link-clause-answers g c = λ notes.
    answers_alone _ _ _ c.alone-in-Ok-Some-Link.result c.link.result c.alone-in-Ok-Some-Link.ensures.outcome c.alone-in-Ok-Some-Link.ensures.lines
    (answers_link _ _ _ _ _ _ (search rules) (c.link.ensures.ends notes))

pub returns-in-Ok-None-clause-answers : goal.returns-in-Ok-None-clause-answers
returns-in-Ok-None-clause-answers g c = λ notes.
    answers_alone _ _ _ c.alone-in-Ok-None.result c.plain.result c.alone-in-Ok-None.ensures.outcome c.alone-in-Ok-None.ensures.lines
    (answers_none _ _ _ _ _ (search rules) c.plain.ensures (kept-same _))

pub returns-in-Ok-None-clause-reads : goal.returns-in-Ok-None-clause-reads
returns-in-Ok-None-clause-reads g c = c.kept_files_are_within_limits.ensures _ _

pub returns-in-Err-clause-answers : goal.returns-in-Err-clause-answers
returns-in-Err-clause-answers g c = λ notes.
    answers_alone _ _ _ c.alone-in-Err.result c.plain-in-Err.result c.alone-in-Err.ensures.outcome c.alone-in-Err.ensures.lines
    (answers_short _ _ _ _ _ c.plain-in-Err.ensures (kept-same _) refl)

pub returns-in-Err-clause-reads : goal.returns-in-Err-clause-reads
returns-in-Err-clause-reads g c = c.kept_files_are_within_limits.ensures _ _
