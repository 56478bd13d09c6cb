use Rattle.std.proofs.Common.{◌≡◌, IfOk, subst}
use Rattle.bl_emit_spec.specs.Programs.{ProgramParts, where_needed}
use Rattle.bl_emit.specs.Kept.{parts_in}
use Rattle.bl_emit.proofs.PartLemmas.{next_is}
use Rattle.bl_emit.proofs.units.next_parts.Goals as goal

pub returns-in-Some : goal.returns-in-Some
returns-in-Some c =
    subst (λ (p : ProgramParts). IfOk c.machine_parts.result (λ made. parts_in made ≡ where_needed c.args.needed p))
    (next_is c.args.structs.now c.args.earlier.now c.args.remember.now c.args.unit.now c.args.machine.now c.in-Some.one.now c.in-Some.ensures)
    c.machine_parts.ensures
