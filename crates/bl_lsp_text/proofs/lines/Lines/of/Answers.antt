use Rattle.std.proofs.Common.{◌≡◌, ◌+◌, ◌*◌, ◌<◌, ◌≤◌, ◌-◌, length, take, drop, ap, ◌∙◌, sym, arith}
use Rattle.std.proofs.lemmas.List.{length_push}
use Rattle.bl_lsp_text.specs.Positions.{at_start, passed_all}
use Rattle.bl_lsp_text.proofs.Reading.{passed_all-range, reads-on}
use Rattle.bl_lsp_text.proofs.Tables.{finished, pushed}
use Rattle.bl_lsp_text.proofs.lines.Lines.of.Goals as goal

pub passed_all-stand-requires : goal.passed_all-stand-requires
passed_all-stand-requires c =
    reads-on c.args.text.now c.loop-at.stand c.loop-at.at (c.loop-at.at + c.min.result) (omega arith) (omega (arith, c.min.ensures))
    (omega arith) c.loop-at.invariant.stand

pub loop-at-preserved : goal.loop-at-preserved
loop-at-preserved c =
    let here : c.loop-at.at ≡ length c.loop-at.stands.items * 64 = c.loop-at.invariant.at_entry (omega arith) in
    let count : length c.push.new.self.items ≡ length c.loop-at.stands.items + 1 =
    ap length c.in_ok-push.ensures.items ∙ length_push c.loop-at.stands.items c.loop-at.stand in
    record {
      within = omega (arith, c.min.ensures);
      behind = omega (arith, c.min.ensures, count, here);
      at_entry = λ more. omega (arith, c.min.ensures, count, here, more);
      stand = c.passed_all-stand.ensures
          ∙ ap (λ s. passed_all s (take (c.loop-at.at + c.min.result - c.loop-at.at) (drop c.loop-at.at c.args.text.now))) c.loop-at.invariant.stand
          ∙ passed_all-range at_start c.args.text.now c.loop-at.at (c.loop-at.at + c.min.result) (omega arith);
      stands = rw c.in_ok-push.ensures.items (pushed c.args.text.now c.loop-at.stands.items c.loop-at.stand c.loop-at.invariant.stands
          (rw (← here) c.loop-at.invariant.stand));
    }
