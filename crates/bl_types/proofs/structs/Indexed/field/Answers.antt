use Rattle.std.proofs.Common.{ap, ◌∙◌}
use Rattle.std.specs.Prelude.{slice_get}
use Rattle.bl_types.proofs.FieldLemmas.{missing, past, there}
use Rattle.bl_types.proofs.structs.Indexed.field.Goals as goal

pub returns-in_err-position : goal.returns-in_err-position
returns-in_err-position c =
    let known = c.args.self.now in
    let name = c.args.name.now in
    rw c.from_residual.ensures (missing name known.def.fields _ (known.tells name) c.in_err-position.ensures.value)

pub returns-in_err-field : goal.returns-in_err-field
returns-in_err-field c =
    let known = c.args.self.now in
    let name = c.args.name.now in
    let k = c.in_ok-position.field-0.now in
    rw c.from_residual-in_err-field.ensures (past name known.def.fields k (c.in_ok-position.ensures.value ∙ known.tells name)
    (c.in_err-field.ensures ∙ ap (λ fields. slice_get fields k) c.deref.ensures))

pub returns : goal.returns
returns c =
    let known = c.args.self.now in
    let name = c.args.name.now in
    let k = c.in_ok-position.field-0.now in
    there name known.def.fields k c.in_ok-field.field.now (c.in_ok-position.ensures.value ∙ known.tells name)
    (c.in_ok-field.ensures ∙ ap (λ fields. slice_get fields k) c.deref.ensures)
