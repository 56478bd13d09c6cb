use Rattle.std.proofs.Common.{◌∙◌, rules}
use Rattle.std.proofs.lemmas.Int.{to_z-of_z}
use Rattle.std.specs.Int.{w128}
use Rattle.bl_ctext_semantics.specs.Parts.{parts_of}
use Rattle.bl_crun.proofs.Puts.{shown-number, shown-range}
use Rattle.bl_crun.proofs.runner.Runner.cell.Goals as goal

pub returns-clause-number : goal.returns-clause-number
returns-clause-number c =
    shown-number (parts_of c.self.inside.file) c.self.inside.prepared c.self.invariant.prepared c.self.inside.ready c.self.inside.live c.args.self.now c.self.view_is
    c.args.k _ c.requires
    (to_z-of_z w128 c.get.result (search rules) ∙ c.get.ensures)

pub returns-clause-range : goal.returns-clause-range
returns-clause-range c =
    shown-range (parts_of c.self.inside.file) c.self.inside.prepared c.self.invariant.prepared c.self.inside.ready c.self.inside.live c.args.self.now c.self.view_is
    c.args.k _ c.requires
    (to_z-of_z w128 c.get.result (search rules) ∙ c.get.ensures)
