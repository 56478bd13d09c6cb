use Rattle.std.proofs.Common.{ap, ◌∙◌, rules}
use Rattle.std.specs.Int.{w128}
use Rattle.std.specs.Prelude.{slice_set}
use Rattle.std.proofs.lemmas.Int.{to_z-of_z}
use Rattle.bl_crun_code_vm.specs.Steps.{with_cells}
use Rattle.bl_ctext_semantics.specs.Parts.{parts_of}
use Rattle.bl_crun.proofs.Puts.{shown-keeps, shown-put}
use Rattle.bl_crun.proofs.runner.Runner.put.Goals as goal

pub invariant_of-self : goal.invariant_of-self
invariant_of-self c = record {
  prepared = shown-keeps (parts_of c.self.inside.file) c.self.inside.prepared c.self.invariant.prepared c.self.inside.ready c.self.inside.live c.args.self.now c.self.view_is
      c.args.k c.args.n c.set.new.self c.requires.within c.requires.range
      (c.set.ensures
      ∙ ap (λ x. with_cells c.self.inside.prepared.machine (slice_set c.self.inside.prepared.machine.cells c.args.k x))
      (to_z-of_z w128 c.args.n (search rules)));
  start = c.self.invariant.start;
}

pub returns : goal.returns
returns c =
    shown-put (parts_of c.self.inside.file) c.self.inside.prepared c.self.invariant.prepared c.self.inside.ready c.self.inside.live c.args.self.now c.self.view_is
    c.args.k c.args.n c.set.new.self
    (c.set.ensures
    ∙ ap (λ x. with_cells c.self.inside.prepared.machine (slice_set c.self.inside.prepared.machine.cells c.args.k x))
    (to_z-of_z w128 c.args.n (search rules)))
