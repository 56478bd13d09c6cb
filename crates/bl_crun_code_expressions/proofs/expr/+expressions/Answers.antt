use Rattle.std.proofs.Common.{◌∙◌, sym}
use Rattle.std.proofs.lemmas.Result.{on_ok_weaker}
use Rattle.bl_crun_code.specs.Code.{expr_valued}
use Rattle.bl_crun_code_layout.specs.Views.{ground_of}
use Rattle.bl_crun_code_expressions.proofs.Calls.{known-done}
use Rattle.bl_crun_code_expressions.proofs.Places.{element-done, seen-done}
use Rattle.bl_crun_code_expressions.proofs.expr.+expressions.Goals as goal

pub call-returns-in_ok-put_call-in-None : goal.call-returns-in_ok-put_call-in-None
call-returns-in_ok-put_call-in-None t c =
    on_ok_weaker c.args_written.result
    (known-done (ground_of c.args.here.now) c.args.called.now c.args.mode.late c.args.mode.depth c.args.into c.deref-in-None.result.now
    c.deref-in-None-2.result.now c.deref.result.now c.in_ok-late-in-None.late c.args.code.now c.put_call.new.code c.args_written.new.code
    (sym c.find.ensures ∙ c.in-None.is) c.deref.ensures c.deref-in-None.ensures c.deref-in-None-2.ensures c.in_ok-late-in-None.ensures
    c.in_ok-put_call-in-None.ensures)
    c.args_written.ensures

pub indexed-returns : goal.indexed-returns
indexed-returns t c =
    on_ok_weaker c.ready.result
    (element-done (expr_valued c.args.e.now (ground_of c.args.here.now)) c.args.term c.args.mode.late c.in_ok-behind.behind.late
    c.args.mode.depth c.in_ok-behind.behind.depth c.args.base c.args.code.now c.put_element.new.code c.ready.new.code
    c.in_ok-behind.ensures.late c.in_ok-behind.ensures.depth c.in_ok-put_element.ensures)
    c.ready.ensures

pub seen_written-returns : goal.seen_written-returns
seen_written-returns t c =
    on_ok_weaker c.place.result
    (seen-done (ground_of c.args.here.now) c.args.at.now c.in_ok-walk.walk c.in_ok-walk.ensures c.args.address
    c.args.mode.late c.args.mode.depth c.args.into c.args.code.now c.put_seen.new.code c.place.new.code
    (c.in_ok-put_seen.ensures (ground_of c.args.here.now) c.args.at.now))
    c.place.ensures
