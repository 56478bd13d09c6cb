use Rattle.std.proofs.Common.{◌∙◌}
use Rattle.bl_ctext_semantics.specs.Parts.{parts_of}
use Rattle.bl_crun.proofs.Keeping.{start-done, start-keeps, start-numbers, start-ready, start-required}
use Rattle.bl_crun.proofs.prepared.start.Goals as goal

pub call-called-requires : goal.call-called-requires
call-called-requires c = start-required (parts_of c.args.file.now) c.args.prepared.now c.requires.keeps c.deref.result.now c.deref.ensures.value

pub returns-clause-keeps : goal.returns-clause-keeps
returns-clause-keeps c =
    start-keeps (parts_of c.args.file.now) c.args.prepared.now c.requires.keeps c.starts_agree.ensures c.requires.cleared c.call-called.result
    c.call-called.new.machine
    (start-done (parts_of c.args.file.now) c.args.prepared.now c.requires.keeps c.deref.result.now c.deref.ensures.value c.call-called.result
    c.call-called.new.machine c.call-called.ensures)

pub returns-clause-ready : goal.returns-clause-ready
returns-clause-ready c =
    c.is_some.ensures
    ∙ start-ready (parts_of c.args.file.now) c.args.prepared.now c.requires.keeps c.starts_agree.ensures c.requires.cleared c.call-called.result
    c.call-called.new.machine
    (start-done (parts_of c.args.file.now) c.args.prepared.now c.requires.keeps c.deref.result.now c.deref.ensures.value c.call-called.result
    c.call-called.new.machine c.call-called.ensures)

pub returns-clause-cells : goal.returns-clause-cells
returns-clause-cells c =
    start-numbers (parts_of c.args.file.now) c.args.prepared.now c.requires.keeps c.starts_agree.ensures c.requires.cleared c.call-called.result
    c.call-called.new.machine
    (start-done (parts_of c.args.file.now) c.args.prepared.now c.requires.keeps c.deref.result.now c.deref.ensures.value c.call-called.result
    c.call-called.new.machine c.call-called.ensures)
