use Rattle.bl_crun.proofs.Calls.{call-done}
use Rattle.bl_crun.proofs.call.call.Goals as goal

pub returns-in-Some : goal.returns-in-Some
returns-in-Some g c = λ l h.
    call-done g.steps c.args.code.now c.args.entry c.in-Some.function c.args.base c.args.args.now c.args.machine.now c.run-answer.new.self
    (record { answer = c.run-answer.result; count = c.count.result }) c.in-Some.is c.run-answer.ensures
    c.count.ensures l h
