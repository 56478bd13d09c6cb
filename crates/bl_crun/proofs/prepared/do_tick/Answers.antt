use Rattle.bl_ctext_semantics.specs.Parts.{parts_of}
use Rattle.bl_crun.proofs.Keeping.{set-within, tick-done, tick-keeps, tick-required, tick-ticked}
use Rattle.bl_crun.proofs.prepared.do_tick.Goals as goal

pub set_inputs-requires-clause-within : goal.set_inputs-requires-clause-within
set_inputs-requires-clause-within c =
    set-within (parts_of c.args.file.now) c.args.prepared.now c.args.ins.now c.requires.keeps c.ports_stand.ensures c.requires.fits

pub call-requires : goal.call-requires
call-requires c =
    tick-required (parts_of c.args.file.now) c.args.prepared.now c.set_inputs.new.machine c.args.ins.now c.requires.keeps c.set_inputs.ensures
    c.deref.result.now c.deref.ensures.value c.tick_args-args.result c.tick_args-args.ensures

pub returns-clause-keeps : goal.returns-clause-keeps
returns-clause-keeps c =
    tick-keeps (parts_of c.args.file.now) c.args.prepared.now c.requires.keeps c.ticks_agree.ensures c.ports_stand.ensures c.args.ins.now c.requires.fits
    c.set_inputs.new.machine c.set_inputs.ensures c.call.result c.call.new.machine
    (tick-done (parts_of c.args.file.now) c.args.prepared.now c.set_inputs.new.machine c.args.ins.now c.requires.keeps c.set_inputs.ensures c.deref.result.now
    c.deref.ensures.value c.tick_args-args.result c.tick_args-args.ensures c.call.result
    c.call.new.machine c.call.ensures)

pub returns-clause-ticked : goal.returns-clause-ticked
returns-clause-ticked c =
    tick-ticked (parts_of c.args.file.now) c.args.prepared.now c.requires.keeps c.ticks_agree.ensures c.ports_stand.ensures c.args.ins.now c.requires.fits
    c.set_inputs.new.machine c.set_inputs.ensures c.call.result c.call.new.machine
    (tick-done (parts_of c.args.file.now) c.args.prepared.now c.set_inputs.new.machine c.args.ins.now c.requires.keeps c.set_inputs.ensures c.deref.result.now
    c.deref.ensures.value c.tick_args-args.result c.tick_args-args.ensures c.call.result
    c.call.new.machine c.call.ensures)
