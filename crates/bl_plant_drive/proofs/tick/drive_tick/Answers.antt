use Rattle.std.proofs.Common.{◌<◌, length, map, subst, sym, ◌∙◌}
use Rattle.bl_plant_drive.specs.inner.Ticks.{scene_of}
use Rattle.bl_plant_drive.proofs.Ticking.{close-asked, close-done, close-failed, inputs-few, row-fits, row-stops, same-inputs, seats-wide, short-row}
use Rattle.bl_plant_drive.proofs.tick.drive_tick.Goals as goal

pub ask_row-requires-clause-stands : goal.ask_row-requires-clause-stands
ask_row-requires-clause-stands g c =
    let given = c.requires in
    (scene_of given.0 c.args.into.now, given.2.done, given.2.stands)

pub ask_row-requires-clause-wide : goal.ask_row-requires-clause-wide
ask_row-requires-clause-wide g c =
    let given = c.requires in
    seats-wide given.0 c.args.ticks c.args.runner.now _ c.args.seats.now.items c.args.into.now _ given.2 (c.as_slice-inputs.ensures ∙ c.inputs.ensures)

pub ask_row-requires-clause-few : goal.ask_row-requires-clause-few
ask_row-requires-clause-few g c =
    let given = c.requires in
    inputs-few given.0 c.args.runner.now c.args.into.now _ given.2.runs (c.as_slice-inputs.ensures ∙ c.inputs.ensures)

pub returns-in_err-ins : goal.returns-in_err-ins
returns-in_err-ins g c = λ s low goes.
    row-stops s c.args.ticks c.args.runner.now _ _ c.args.into.now _ _ _ c.from_residual.result c.from_residual.ensures.1 goes.runs
    (subst (λ n. n < s.ticks) (sym goes.done) low)
    (same-inputs s c.args.runner.now c.args.into.now _ goes.runs (c.as_slice-inputs.ensures ∙ c.inputs.ensures))
    (c.in_err-ins.ensures (scene_of s c.args.into.now) goes.done goes.stands)

pub returns-in_err-outs : goal.returns-in_err-outs
returns-in_err-outs g c = λ s low goes.
    short-row s c.args.ticks c.args.runner.now _ _ c.args.into.now _ _ _ c.from_residual-in_err-outs.result c.from_residual-in_err-outs.ensures.1 goes.runs
    (subst (λ n. n < s.ticks) (sym goes.done) low) (c.in_ok-ins.ensures (scene_of s c.args.into.now) goes.done goes.stands)

pub tick-answer-requires-clause-fits : goal.tick-answer-requires-clause-fits
tick-answer-requires-clause-fits g c =
    let given = c.requires in
    row-fits given.0 c.args.runner.now _ _ c.args.into.now _ _ c.in_ok-ins.ins (c.as_slice-inputs.ensures ∙ c.inputs.ensures)
    (c.in_ok-ins.ensures (scene_of given.0 c.args.into.now) given.2.done given.2.stands)

pub close-requires : goal.close-requires
close-requires g c =
    let given = c.requires in (
      given.0,
      c.tick-answer.new.self,
      close-asked given.0 c.args.runner.now c.tick-answer.new.self (map (λ b. (goal.Plant-dyn g (b.vtable, b.value)).shown b.value) c.ask_row.new.plants.items)
          c.ask_row.new.seats.items c.deref.result.now c.args.into.now c.ask_row.new.gone c.as_slice-inputs.result.now c.in_ok-ins.ins c.in_ok-outs.outs
          c.tick-answer.new.outs c.tick-answer.result c.deref.ensures.value given.2.runs (subst (λ n. n < given.0.ticks) (sym given.2.done) given.1)
          (same-inputs given.0 c.args.runner.now c.args.into.now _ given.2.runs (c.as_slice-inputs.ensures ∙ c.inputs.ensures))
          (c.in_ok-ins.ensures (scene_of given.0 c.args.into.now) given.2.done given.2.stands) c.tick-answer.ensures.answer c.tick-answer.ensures.outputs
          c.tick-answer.ensures.after,
    )

pub returns-in_err-close : goal.returns-in_err-close
returns-in_err-close g c = λ s low goes.
    close-failed s (length c.args.into.now.ins) c.args.ticks c.tick-answer.new.self
    (map (λ b. (goal.Plant-dyn g (b.vtable, b.value)).shown b.value) c.close.new.plants.items)
    c.ask_row.new.seats.items c.deref.result.now c.close.new.into c.tick-answer.result _ c.from_residual-in_err-close.result c.deref.ensures.value
    c.from_residual-in_err-close.ensures.1
    (c.in_err-close.ensures s c.tick-answer.new.self
    (close-asked s c.args.runner.now c.tick-answer.new.self (map (λ b. (goal.Plant-dyn g (b.vtable, b.value)).shown b.value) c.ask_row.new.plants.items)
    c.ask_row.new.seats.items c.deref.result.now c.args.into.now c.ask_row.new.gone c.as_slice-inputs.result.now c.in_ok-ins.ins c.in_ok-outs.outs
    c.tick-answer.new.outs c.tick-answer.result c.deref.ensures.value goes.runs (subst (λ n. n < s.ticks) (sym goes.done) low)
    (same-inputs s c.args.runner.now c.args.into.now _ goes.runs (c.as_slice-inputs.ensures ∙ c.inputs.ensures))
    (c.in_ok-ins.ensures (scene_of s c.args.into.now) goes.done goes.stands) c.tick-answer.ensures.answer c.tick-answer.ensures.outputs
    c.tick-answer.ensures.after))

pub returns : goal.returns
returns g c = λ s low goes.
    close-done s (length c.args.into.now.ins) c.args.ticks c.tick-answer.new.self
    (map (λ b. (goal.Plant-dyn g (b.vtable, b.value)).shown b.value) c.close.new.plants.items)
    c.ask_row.new.seats.items c.deref.result.now c.close.new.into c.tick-answer.result tt c.deref.ensures.value goes.done
    (c.in_ok-close.ensures s c.tick-answer.new.self
    (close-asked s c.args.runner.now c.tick-answer.new.self (map (λ b. (goal.Plant-dyn g (b.vtable, b.value)).shown b.value) c.ask_row.new.plants.items)
    c.ask_row.new.seats.items c.deref.result.now c.args.into.now c.ask_row.new.gone c.as_slice-inputs.result.now c.in_ok-ins.ins c.in_ok-outs.outs
    c.tick-answer.new.outs c.tick-answer.result c.deref.ensures.value goes.runs (subst (λ n. n < s.ticks) (sym goes.done) low)
    (same-inputs s c.args.runner.now c.args.into.now _ goes.runs (c.as_slice-inputs.ensures ∙ c.inputs.ensures))
    (c.in_ok-ins.ensures (scene_of s c.args.into.now) goes.done goes.stands) c.tick-answer.ensures.answer c.tick-answer.ensures.outputs
    c.tick-answer.ensures.after))
