use Rattle.std.proofs.lemmas.Map.Text.{hash_map_updates_str}
use Rattle.std.proofs.Common.{◌∙◌, sym}
use Rattle.bl_ctext_semantics.specs.inner.Maps.{text_at}
use Rattle.bl_ctext_semantics.proofs.MapLemmas.{inserted}
use Rattle.bl_ctext_semantics.proofs.maps.add.Goals as goal

pub returns-in-Ok : goal.returns-in-Ok
returns-in-Ok g c = λ asked.
    hash_map_updates_str c.args.name.now c.args.map.now c.insert.new.self _ c.in-Ok.ensures.updates asked
    ∙ inserted (text_at c.args.map.now) c.args.name.now c.args.value (sym c.contains_key.ensures ∙ c.if-contains_key.false) asked
