use Rattle.bl_emit_spec_laws.proofs.OnPasses.Passing.{blocks_pass}
use Rattle.bl_emit_spec_laws.proofs.passes.blocks_pass.Goals as goal

pub returns : goal.returns
returns c = λ structs units entry machine activities placed fit stay points runs starts choose.
    blocks_pass structs units entry machine activities placed fit stay points runs starts choose
