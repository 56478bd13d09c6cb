use Rattle.std.proofs.Common.{◌∙◌, sym, ap, subst, map, string_bytes, List}
use Rattle.clap.specs.Kinds.{HasKind}
use Rattle.clap.specs.Simple.{App, is_simple, subcommand_of}
use Rattle.clap.specs.Walk.{Text}
use Rattle.clap.specs.Faults.{fault_of, is_simple_and_free}
use Rattle.bl_top_args.specs.inner.CommandLine.{job_read}
use Rattle.bl_top_args.proofs.Reading.{refusal_is, result_is}
use Rattle.bl_top_args.proofs.job.other_job.Goals as goal

pub returns-in-Ok : goal.returns-in-Ok
returns-in-Ok c =
    let words : List Text = map string_bytes c.args.words.now in
    let is = c.in_ok-command.ensures in
    let taken = sym (ap (λ (a : App). fault_of a words) is) ∙ c.in-Ok.ensures.kinds (ap is_simple_and_free is) in
    let read = (c.in-Ok.ensures.matches (ap is_simple is)).1 ∙ ap (λ (a : App). subcommand_of a words) is in
    c.job_read.ensures ∙ ap job_read read ∙ result_is words c.requires.plain c.requires.no_drive c.requires.no_face c.requires.no_link taken

pub returns : goal.returns
returns c =
    let words : List Text = map string_bytes c.args.words.now in
    let is = c.in_ok-command.ensures in
    let kinds = subst (λ (a : App). HasKind (fault_of a words) c.in-Err.error) is (c.in-Err.ensures.kinds (ap is_simple_and_free is)) in
    refusal_is words c.in-Err.error c.requires.plain c.requires.no_drive c.requires.no_face c.requires.no_link kinds
    (λ e. c.in_default.not-OutOfMemory (c.kind.ensures ∙ e))
