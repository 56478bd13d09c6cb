use Rattle.std.proofs.Common.{◌≡◌, ◌∙◌, ap, sym}
use Rattle.std.specs.Prelude.{is_some}
use Rattle.bl_ctext_semantics.specs.inner.Checked.{functions_of}
use Rattle.bl_ctext_semantics.specs.Faults.{declared_before, distinct_names, returns_result, scalar_parameter, short_chain, signature_in, static_functions}
use Rattle.bl_ctext_semantics.specs.inner.Maps.{text_at}
use Rattle.bl_ctext_semantics.proofs.FirstLemmas.{first_place-append}
use Rattle.bl_ctext_semantics.proofs.MapLemmas.{some_mapped}
use Rattle.bl_ctext_semantics.proofs.check.functions.judge_head.Goals as goal

pub returns : goal.returns
returns c =
    let functions = c.args.known.now.functions.now in
    let known : c.has-new.result ≡ is_some (functions_of functions c.args.of.now.name) =
    c.has-new.ensures ∙ ap (λ n. is_some (text_at functions n)) c.deref.ensures
    ∙ sym (some_mapped (λ f. signature_in f.now) (text_at functions c.args.of.now.name)) in
    rw (
      c.earlier-4.ensures,
      c.earlier-3.ensures,
      c.earlier-middle.ensures,
      c.earlier-2.ensures,
      c.earlier-late.ensures,
      c.earlier.ensures,
      c.unless-6.ensures distinct_names,
      c.unless-7.ensures distinct_names,
      c.unless-4.ensures declared_before,
      c.unless-5.ensures scalar_parameter,
      c.unless.ensures static_functions,
      c.unless-2.ensures short_chain,
      c.unless-3.ensures returns_result,
      known,
      c.requires,
      c.both-declared.ensures,
      c.params_are_declared.ensures,
      c.deref-2.ensures,
      c.locals_are_declared.ensures,
      c.deref-3.ensures,
      c.params_are_scalar.ensures,
      c.deref-5.ensures,
      c.is_fixed_rightly.ensures,
      c.function_depth-shallow.ensures,
      c.either-returns.ensures,
      c.gives_nothing.ensures,
      c.block_returns.ensures,
      c.deref-4.ensures,
    )
    (simp first_place-append)
