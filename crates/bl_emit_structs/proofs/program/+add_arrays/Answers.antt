use Rattle.std.proofs.Common.{◌≡◌, ap, ◌∙◌}
use Rattle.bl_tree.specs.declared.tree.Ty.{out-Ty}
use Rattle.bl_tree.specs.declared.tree.Ty.TheVariants.{outs-Array}
use Rattle.bl_emit_acts.specs.Structs.{c_array}
use Rattle.bl_emit_structs.specs.Structs.{arrays_of}
use Rattle.bl_emit_structs.specs.inner.Added.{added, all_added}
use Rattle.bl_emit_structs.proofs.Steps.{array_after, on_ok}
use Rattle.bl_emit_structs.proofs.program.+add_arrays.Goals as goal

pub returns-in_ok-array-in-Array : goal.returns-in_ok-array-in-Array
returns-in_ok-array-in-Array t c =
    on_ok (c.add.new.self ≡ added c.add_arrays.new.collected c.in_ok-array-in-Array.field-0)
    (c.add.new.self ≡ all_added c.args.collected.now (arrays_of c.args.structs.now c.args.ty.now)) c.add.result
    (λ own. array_after c.args.structs.now c.args.ty.now c.in-Array.n c.in-Array.element c.args.collected.now c.add_arrays.new.collected c.add.new.self
    (ap out-Ty c.in-Array.is ∙ outs-Array c.in-Array.n c.in-Array.element)
    (c.in_ok-add_arrays-in-Array.ensures ∙ ap (λ e. all_added c.args.collected.now (arrays_of c.args.structs.now e)) c.deref.ensures)
    (own ∙ ap (added c.add_arrays.new.collected)
    (c.in_ok-array-in-Array.ensures ∙ ap (λ e. c_array c.args.structs.now c.in-Array.n e) c.deref-in-Array.ensures)))
    c.add.ensures
