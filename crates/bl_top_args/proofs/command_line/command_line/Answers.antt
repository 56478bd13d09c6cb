use Rattle.std.proofs.Common.{◌≡◌, ◌∙◌, true, refl, ap, ap₂}
use Rattle.std.proofs.lemmas.Result.{IfOk-weaker}
use Rattle.clap.specs.Simple.{App, on_top}
use Rattle.clap.specs.Words.{app_of, with_subcommand}
use Rattle.clap.specs.declared.builder.command.Command.{Command}
use Rattle.clap.specs.declared.builder.command.Command.TheViews.{out-Command}
use Rattle.bl_top_args.specs.inner.CommandLine.{with_own_words_only}
use Rattle.bl_top_args.proofs.command_line.command_line.Goals as goal

settings_are : (a b c d e f : Command) → out-Command a ≡ record (out-Command b) { subcommand_required = true } →
    out-Command b ≡ record (out-Command c) { disable_version_flag = true }
    → out-Command c ≡ record (out-Command d) { disable_help_subcommand = true } → out-Command d ≡ record (out-Command e) { disable_help_flag = true }
    → out-Command e ≡ record (out-Command f) { no_binary_name = true } → app_of a ≡ on_top with_own_words_only (app_of f)
settings_are a b c d e f p q r s t = rw (p, q, r, s, t) refl

pub returns : goal.returns
returns c =
    let settings = settings_are c.subcommand_required.result c.disable_version_flag.result c.disable_help_subcommand.result
    c.disable_help_flag.result c.no_binary_name.result c.new.result
    c.subcommand_required.ensures c.disable_version_flag.ensures c.disable_help_subcommand.ensures c.disable_help_flag.ensures c.no_binary_name.ensures in
    let top = settings ∙ ap (on_top with_own_words_only) c.new.ensures.app in
    let check = c.in_ok-one_command.ensures in
    let with_check = c.in_ok-subcommand.ensures.shape check.1 ∙ ap₂ with_subcommand top (ap (λ (a : App). a.top) check.0) in
    let build = c.in_ok-one_command-2.ensures in
    let with_build = c.in_ok-subcommand-2.ensures.shape build.1 ∙ ap₂ with_subcommand with_check (ap (λ (a : App). a.top) build.0) in
    let run = c.in_ok-two_command.ensures in
    let with_run = c.in_ok-subcommand-3.ensures.shape run.1 ∙ ap₂ with_subcommand with_build (ap (λ (a : App). a.top) run.0) in
    let walk = c.in_ok-three_command.ensures in
    let with_walk = c.in_ok-subcommand-4.ensures.shape walk.1 ∙ ap₂ with_subcommand with_run (ap (λ (a : App). a.top) walk.0) in
    let exec = c.in_ok-two_command-2.ensures in
    let with_exec = c.in_ok-subcommand-5.ensures.shape exec.1 ∙ ap₂ with_subcommand with_walk (ap (λ (a : App). a.top) exec.0) in
    let gen = c.in_ok-one_command-3.ensures in
    let with_gen = c.in_ok-subcommand-6.ensures.shape gen.1 ∙ ap₂ with_subcommand with_exec (ap (λ (a : App). a.top) gen.0) in
    let bound = c.in_ok-one_command-4.ensures in
    let with_bound = c.in_ok-subcommand-7.ensures.shape bound.1 ∙ ap₂ with_subcommand with_gen (ap (λ (a : App). a.top) bound.0) in
    let count = c.in_ok-two_command-3.ensures in
    let with_count = c.in_ok-subcommand-8.ensures.shape count.1 ∙ ap₂ with_subcommand with_bound (ap (λ (a : App). a.top) count.0) in
    let save = c.in_ok-two_or_three_command.ensures in
    let with_save = c.in_ok-subcommand-9.ensures.shape save.1 ∙ ap₂ with_subcommand with_count (ap (λ (a : App). a.top) save.0) in
    let resume = c.in_ok-three_command-2.ensures in
    IfOk-weaker c.subcommand-10.result _ _ (λ m h. h.shape resume.1 ∙ ap₂ with_subcommand with_save (ap (λ (a : App). a.top) resume.0))
    c.subcommand-10.ensures
