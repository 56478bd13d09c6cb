use Rattle.bl_emit_spec_laws_nodes.proofs.OnCopied.Copied.{nodes_copied}
use Rattle.bl_emit_spec_laws_nodes.proofs.copied.nodes_copied.Goals as goal

pub returns : goal.returns
returns c = nodes_copied
