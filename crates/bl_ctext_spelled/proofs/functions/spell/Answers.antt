use Rattle.std.proofs.Common.{◌≡◌, rules, true}
use Rattle.bl_ctext.specs.Spellable.{has_any}
use Rattle.bl_ctext.proofs.TextNesting.{spellable-by}
use Rattle.bl_ctext_spelled.proofs.Depths.{at_most, has_some}
use Rattle.bl_ctext_spelled.proofs.functions.spell.Goals as goal

pub returns-then-not-is_empty : goal.returns-then-not-is_empty
returns-then-not-is_empty c = λ small structs some spelled.
    let any : has_any c.args.functions.now ≡ true = search (rules, has_some) in
    spellable-by structs c.args.functions.now some any spelled c.in-Some.ensures.0 (at_most _ _ c.in-Some.ensures.1 small)
