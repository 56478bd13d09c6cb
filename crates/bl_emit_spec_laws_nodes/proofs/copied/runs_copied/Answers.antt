use Rattle.bl_emit_spec_laws_nodes.proofs.OnCopied.Copied.{runs_copied}
use Rattle.bl_emit_spec_laws_nodes.proofs.copied.runs_copied.Goals as goal

pub returns : goal.returns
returns c = runs_copied
