use Rattle.std.proofs.Common.{◌≡◌, cond, Some, map, subst}
use Rattle.bl_effects.specs.Entries.{effect_at, entry, key_of}
use Rattle.bl_tree.specs.Rules.{same_place}
use Rattle.bl_effects.specs.Table.{found}
use Rattle.bl_effects.proofs.EntryLemmas.{found_inserted}
use Rattle.bl_effects.proofs.table.Effects.insert.Goals as goal

pub returns-in-Ok : goal.returns-in-Ok
returns-in-Ok c q =
    subst (λ old. found (map entry c.insert.new.self.entries) q
    ≡ cond (same_place c.args.at q) (Some (effect_at c.args.at c.args.sets)) (found old q)) c.self.view_is
    (found_inserted c.self.inside.by_place.entries c.insert.new.self.entries c.args.at q c.args.sets (c.in-Ok.ensures.updates.0 (key_of q)))
