use Rattle.std.proofs.Common.{◌∷◌, ap, ◌∙◌}
use Rattle.bl_crun_code_layout.specs.Views.{entries_in, sizes_in, slots_known, structs_in}
use Rattle.bl_crun_code.specs.Code.{uncounted}
use Rattle.bl_crun_code_compiler.proofs.Functions.{function-is}
use Rattle.bl_crun_code_compiler.proofs.code.function.Goals as goal

pub returns : goal.returns
returns c =
    function-is (sizes_in c.args.around.sizes.now) (structs_in c.args.around.structs.now) c.args.at (entries_in c.args.known.now) c.args.of.now
    (slots_known c.in_ok-slots.slots) c.in_ok-frame.frame
    c.deref.result.now c.statements.new.code c.put.new.self c.deref.ensures c.in_ok-slots.ensures (c.in_ok-frame.ensures ∙ c.frame_size.ensures)
    (c.in_ok-put.ensures ∙ ap (λ o. uncounted _ ∷ o) c.new-code.ensures)
    c.in_ok-statements.ensures
