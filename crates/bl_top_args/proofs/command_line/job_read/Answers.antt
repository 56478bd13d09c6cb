use Rattle.std.proofs.Common.{◌∙◌, Some, sym, ap, ap₂, codes}
use Rattle.clap.specs.Walk.{rows_of}
use Rattle.clap.specs.Words.{first_of, first_value, found_of}
use Rattle.clap.proofs.WalkLemmas.{first_value-rows}
use Rattle.bl_top_args.specs.inner.CommandLine.{job_read, one_if_read, one_read, three_read, two_or_three_read, two_read}
use Rattle.bl_top_args.specs.Jobs.{bound, build, check, count, exec, resumed, run, save, save_from, seeded, staged}
use Rattle.bl_top_args.proofs.Matches.{command_is, unnamed_read}
use Rattle.bl_top_args.proofs.command_line.job_read.Goals as goal

pub returns-in-check : goal.returns-in-check
returns-in-check c =
    let found = found_of c.in_ok-name.values.now in
    let command = command_is c.args.matches.now c.in_ok-name.name.now (rows_of found) c.in_ok-name.ensures.name c.in_ok-name.ensures.rows in
    c.check_read.ensures ∙ ap (one_read check) (first_value-rows found (codes "first"))
    ∙ sym (ap job_read command ∙ ap (λ name. job_read (Some (name, rows_of found))) c.in-check.is)

pub returns-in-build : goal.returns-in-build
returns-in-build c =
    let found = found_of c.in_ok-name.values.now in
    let command = command_is c.args.matches.now c.in_ok-name.name.now (rows_of found) c.in_ok-name.ensures.name c.in_ok-name.ensures.rows in
    c.build_read.ensures ∙ ap (one_read build) (first_value-rows found (codes "first"))
    ∙ sym (ap job_read command ∙ ap (λ name. job_read (Some (name, rows_of found))) c.in-build.is)

pub returns-in-run : goal.returns-in-run
returns-in-run c =
    let found = found_of c.in_ok-name.values.now in
    let command = command_is c.args.matches.now c.in_ok-name.name.now (rows_of found) c.in_ok-name.ensures.name c.in_ok-name.ensures.rows in
    c.run_read.ensures ∙ ap₂ (two_read run) (first_value-rows found (codes "first")) (first_value-rows found (codes "second"))
    ∙ sym (ap job_read command ∙ ap (λ name. job_read (Some (name, rows_of found))) c.in-run.is)

pub returns-in-walk : goal.returns-in-walk
returns-in-walk c =
    let found = found_of c.in_ok-name.values.now in
    let command = command_is c.args.matches.now c.in_ok-name.name.now (rows_of found) c.in_ok-name.ensures.name c.in_ok-name.ensures.rows in
    c.walk_read.ensures
    ∙ ap₂ (λ a b. three_read seeded a b (first_value found (codes "third"))) (first_value-rows found (codes "first"))
    (first_value-rows found (codes "second"))
    ∙ ap (three_read seeded _ _) (first_value-rows found (codes "third"))
    ∙ sym (ap job_read command ∙ ap (λ name. job_read (Some (name, rows_of found))) c.in-walk.is)

pub returns-in-exec : goal.returns-in-exec
returns-in-exec c =
    let found = found_of c.in_ok-name.values.now in
    let command = command_is c.args.matches.now c.in_ok-name.name.now (rows_of found) c.in_ok-name.ensures.name c.in_ok-name.ensures.rows in
    c.exec_read.ensures ∙ ap₂ (two_read exec) (first_value-rows found (codes "first")) (first_value-rows found (codes "second"))
    ∙ sym (ap job_read command ∙ ap (λ name. job_read (Some (name, rows_of found))) c.in-exec.is)

pub returns-in-gen : goal.returns-in-gen
returns-in-gen c =
    let found = found_of c.in_ok-name.values.now in
    let command = command_is c.args.matches.now c.in_ok-name.name.now (rows_of found) c.in_ok-name.ensures.name c.in_ok-name.ensures.rows in
    c.gen_read.ensures ∙ ap (one_if_read staged) (first_value-rows found (codes "first"))
    ∙ sym (ap job_read command ∙ ap (λ name. job_read (Some (name, rows_of found))) c.in-gen.is)

pub returns-in-bound : goal.returns-in-bound
returns-in-bound c =
    let found = found_of c.in_ok-name.values.now in
    let command = command_is c.args.matches.now c.in_ok-name.name.now (rows_of found) c.in_ok-name.ensures.name c.in_ok-name.ensures.rows in
    c.bound_read.ensures ∙ ap (one_read bound) (first_value-rows found (codes "first"))
    ∙ sym (ap job_read command ∙ ap (λ name. job_read (Some (name, rows_of found))) c.in-bound.is)

pub returns-in-count : goal.returns-in-count
returns-in-count c =
    let found = found_of c.in_ok-name.values.now in
    let command = command_is c.args.matches.now c.in_ok-name.name.now (rows_of found) c.in_ok-name.ensures.name c.in_ok-name.ensures.rows in
    c.count_read.ensures ∙ ap₂ (two_read count) (first_value-rows found (codes "first")) (first_value-rows found (codes "second"))
    ∙ sym (ap job_read command ∙ ap (λ name. job_read (Some (name, rows_of found))) c.in-count.is)

pub returns-in-save : goal.returns-in-save
returns-in-save c =
    let found = found_of c.in_ok-name.values.now in
    let command = command_is c.args.matches.now c.in_ok-name.name.now (rows_of found) c.in_ok-name.ensures.name c.in_ok-name.ensures.rows in
    c.save_read.ensures
    ∙ ap₂ (λ a b. two_or_three_read save save_from a b (first_value found (codes "third"))) (first_value-rows found (codes "first"))
    (first_value-rows found (codes "second"))
    ∙ ap (two_or_three_read save save_from _ _) (first_value-rows found (codes "third"))
    ∙ sym (ap job_read command ∙ ap (λ name. job_read (Some (name, rows_of found))) c.in-save.is)

pub returns-in-resume : goal.returns-in-resume
returns-in-resume c =
    let found = found_of c.in_ok-name.values.now in
    let command = command_is c.args.matches.now c.in_ok-name.name.now (rows_of found) c.in_ok-name.ensures.name c.in_ok-name.ensures.rows in
    c.resume_read.ensures
    ∙ ap₂ (λ a b. three_read resumed a b (first_value found (codes "third"))) (first_value-rows found (codes "first"))
    (first_value-rows found (codes "second"))
    ∙ ap (three_read resumed _ _) (first_value-rows found (codes "third"))
    ∙ sym (ap job_read command ∙ ap (λ name. job_read (Some (name, rows_of found))) c.in-resume.is)

pub returns-in_default : goal.returns-in_default
returns-in_default c =
    let rows = rows_of (found_of c.in_ok-name.values.now) in
    let command = command_is c.args.matches.now c.in_ok-name.name.now rows c.in_ok-name.ensures.name c.in_ok-name.ensures.rows in
    sym (ap job_read command ∙ unnamed_read c.in_ok-name.name.now (first_of (codes "first") rows)
    (first_of (codes "second") rows) (first_of (codes "third") rows)
    c.in_default.not-check c.in_default.not-build c.in_default.not-run c.in_default.not-walk c.in_default.not-exec c.in_default.not-gen
    c.in_default.not-bound c.in_default.not-count c.in_default.not-save c.in_default.not-resume)
