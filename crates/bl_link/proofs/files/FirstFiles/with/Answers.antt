-- The next file has no other fault than a rule.
use Rattle.std.proofs.Common.{ℕ, List, length, subst}
use Rattle.bl_face.specs.declared.face.Face.{Face}
use Rattle.bl_link.proofs.Adding.{file_stops}
use Rattle.bl_link.specs.Files.{NextStops, SeenFiles}
use Rattle.bl_module.specs.Parts.{PartStops}
use Rattle.bl_module_laws.specs.Files.{taken_at}
use Rattle.bl_link.proofs.files.FirstFiles.with.Goals as goal

pub returns-in-Err-clause-fault : goal.returns-in-Err-clause-fault
returns-in-Err-clause-fault c =
    let stops : PartStops c.self.inside.faces (taken_at c.self.inside.count (length c.self.inside.parts)) c.args.text.now c.in-Err.fault =
    subst (λ (n : ℕ). PartStops c.self.inside.faces (taken_at c.self.inside.count n) c.args.text.now c.in-Err.fault) c.len.ensures
    (subst (λ (them : List Face). PartStops them (taken_at c.self.inside.count c.len.result) c.args.text.now c.in-Err.fault) c.deref.ensures
    c.in-Err.ensures.fault) in
    subst (λ (seen : SeenFiles). NextStops seen.count seen.texts c.args.text.now c.in-Err.fault) c.self.view_is
    (file_stops c.self.inside.count c.self.inside.parts c.self.inside.faces c.self.invariant c.args.text.now c.in-Err.fault stops)
