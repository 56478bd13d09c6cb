use Rattle.std.proofs.Common.{◌-◌, ◌∙◌, drop, length, pos, refl, sym, take}
use Rattle.std.proofs.lemmas.List.{take_rest}
use Rattle.std.specs.Str.Parse.{false_text}
use Rattle.bl_rows.proofs.PlainRows.{word_is_value}
use Rattle.bl_rows.proofs.in_place.truth_from.Goals as goal

pub returns-then-starts_with-2 : goal.returns-then-starts_with-2
returns-then-starts_with-2 c = word_is_value c.args.bytes.now c.args.start
    (take (length c.args.bytes.now - c.args.start) (drop c.args.start c.args.bytes.now)) false_text (pos 0) (take_rest c.args.bytes.now c.args.start)
    c.requires (c.if-starts_with-2.ensures.bound refl) (sym c.starts_with-2.ensures.value ∙ c.if-starts_with-2.true) refl refl
