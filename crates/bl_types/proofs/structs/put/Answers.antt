use Rattle.std.proofs.Common.{Some, string_bytes}
use Rattle.std.proofs.lemmas.Map.Text.{hash_map_updates_text}
use Rattle.bl_types.proofs.structs.put.Goals as goal

pub returns-in-Ok : goal.returns-in-Ok
returns-in-Ok c =
    hash_map_updates_text (string_bytes c.args.name) c.args.by_name.now c.insert.new.self (Some c.args.position) c.in-Ok.ensures.updates
