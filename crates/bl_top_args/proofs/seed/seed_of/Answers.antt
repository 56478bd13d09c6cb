use Rattle.std.proofs.Common.{◌∙◌, sym, ap}
use Rattle.std.specs.Str.{all_ascii_digits}
use Rattle.bl_top_args.proofs.Seeds.{seed_none, seed_read}
use Rattle.bl_top_args.proofs.seed.seed_of.Goals as goal

pub returns-then-not-are_digits : goal.returns-then-not-are_digits
returns-then-not-are_digits c =
    seed_none c.args.word.now (ap all_ascii_digits (sym c.as_bytes.ensures.value) ∙ sym c.are_digits.ensures ∙ c.if-not-are_digits.true)

pub returns : goal.returns
returns c =
    c.ok.ensures.value
    ∙ seed_read c.args.word.now c.parse.result c.parse.ensures.value.0
    (ap all_ascii_digits (sym c.as_bytes.ensures.value) ∙ sym c.are_digits.ensures ∙ c.if-not-are_digits.false)
