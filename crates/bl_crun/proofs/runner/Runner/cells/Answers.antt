use Rattle.bl_ctext_semantics.specs.Parts.{parts_of}
use Rattle.bl_crun.proofs.Puts.{shown-cells, shown-whole}
use Rattle.bl_crun.proofs.runner.Runner.cells.Goals as goal

pub returns-clause-count : goal.returns-clause-count
returns-clause-count c = shown-cells (parts_of c.self.inside.file) c.self.inside.prepared c.self.invariant.prepared c.self.inside.ready c.self.inside.live c.args.self.now
    c.self.view_is

pub returns-clause-numbers : goal.returns-clause-numbers
returns-clause-numbers c = shown-whole (parts_of c.self.inside.file) c.self.inside.prepared c.self.invariant.prepared c.self.inside.ready c.self.inside.live
    c.args.self.now c.self.view_is
