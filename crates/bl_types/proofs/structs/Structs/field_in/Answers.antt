use Rattle.std.proofs.Common.{Some, None, ap, ◌∙◌}
use Rattle.std.specs.Prelude.{slice_get}
use Rattle.bl_tree.specs.declared.tree.Ty.{out-Ty}
use Rattle.bl_tree.specs.declared.tree.Ty.TheVariants.{outs-Struct}
use Rattle.bl_types.proofs.FieldLemmas.{of_struct}
use Rattle.bl_types.proofs.structs.Structs.field_in.Goals as goal

pub returns-in-Some : goal.returns-in-Some
returns-in-Some c =
    c.field.ensures
    ∙ of_struct (λ known. known.def) c.self.inside.all c.args.self.now c.args.name.now (out-Ty c.args.ty.now) c.in-Struct.s (Some c.in-Some.known.now)
    c.self.view_is (c.in-Some.ensures ∙ ap (λ all. slice_get all c.in-Struct.s) c.deref.ensures) (ap out-Ty c.in-Struct.is ∙ outs-Struct c.in-Struct.s)

pub returns-in-None : goal.returns-in-None
returns-in-None c =
    of_struct (λ known. known.def) c.self.inside.all c.args.self.now c.args.name.now (out-Ty c.args.ty.now) c.in-Struct.s None
    c.self.view_is (c.in-None.ensures ∙ ap (λ all. slice_get all c.in-Struct.s) c.deref.ensures) (ap out-Ty c.in-Struct.is ∙ outs-Struct c.in-Struct.s)
