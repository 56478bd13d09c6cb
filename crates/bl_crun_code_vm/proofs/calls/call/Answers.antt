use Rattle.std.proofs.Common.{◌∷◌, ◌+◌, ◌∙◌, ◌<◌, ℕ, List, ℤ, ap, arith, length}
use Rattle.bl_ctext_semantics_laws.specs.Flat.{frame_begun}
use Rattle.bl_ctext_semantics_laws.specs.Layout.{capped}
use Rattle.bl_crun_code_vm.proofs.Steps.{came_entered, ready_entered}
use Rattle.bl_crun_code_vm.proofs.calls.call.Goals as goal

pub returns : goal.returns
returns c =
    let room : length c.args.waiting.now.callers < c.args.waiting.now.room = omega arith in
    record {
      did = came_entered c.args.registers.now c.enter.new.self c.args.cells.now c.begin.new.cells c.args.temps.now c.args.waiting.now c.push.new.self
          c.args.callee.now c.behind-begins.result c.first-first.result room
          (c.behind-begins.ensures ∙ ap (λ (b : ℕ). capped (b + c.args.callee.now.passed)) c.base-base.ensures)
          (c.begin.ensures
          ∙ ap (λ (x : List ℤ). frame_begun c.args.callee.now.frame c.behind-begins.result x c.args.cells.now) c.numbers-passed.ensures)
          (c.push.ensures
          ∙ ap (λ (b : ℕ). record c.args.waiting.now {
            callers = record { back = b + 1; base = c.base-base.result; into = c.args.callee.now.into } ∷ c.args.waiting.now.callers;
          }) c.at.ensures
          ∙ ap (λ (b : ℕ). record c.args.waiting.now {
            callers = record { back = c.args.registers.now.at + 1; base = b; into = c.args.callee.now.into } ∷ c.args.waiting.now.callers;
          }) c.base-base.ensures)
          c.enter.ensures;
      ready = ready_entered c.args.registers.now c.enter.new.self c.args.cells.now c.begin.new.cells c.args.callee.now.frame c.behind-begins.result
          c.first-first.result c.args.callee.now.entry c.args.registers.now.count c.numbers-passed.result.now c.requires.ready c.begin.ensures
          c.first-first.ensures c.enter.ensures;
    }
