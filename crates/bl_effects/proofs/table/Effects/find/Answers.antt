use Rattle.std.proofs.Common.{◌≡◌, ap, sym, ◌∙◌, subst}
use Rattle.std.specs.Prelude.{option_map}
use Rattle.bl_effects.specs.Entries.{effect_at}
use Rattle.bl_effects.specs.Table.{found}
use Rattle.bl_effects.proofs.EntryLemmas.{found_entry, map_copied}
use Rattle.bl_effects.proofs.table.Effects.find.Goals as goal

pub returns : goal.returns
returns c =
    subst (λ table. option_map (λ sets. effect_at c.args.at sets.now) c.get.result ≡ found table c.args.at) c.self.view_is
    (map_copied (effect_at c.args.at) c.get.result ∙ ap (option_map (effect_at c.args.at)) c.get.ensures.value
    ∙ sym (found_entry c.self.inside.by_place.entries c.args.at))
