use Rattle.bl_emit_spec_laws_files.proofs.OnEntry.{entry_runs}
use Rattle.bl_emit_spec_laws_files.proofs.entry.entry_runs.Goals as goal

pub returns : goal.returns
returns c =
    entry_runs c.accepted_programs_are_orderly.ensures c.clearing_is_inside.ensures c.nodes_have_keys.ensures c.machines_give_contexts.ensures
    c.runs_go_by_rules.ensures
