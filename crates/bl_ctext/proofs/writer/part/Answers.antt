use Rattle.std.proofs.Common.{rules, ◌≡◌, true, false}
use Rattle.bl_ctext.specs.inner.Cut.{may_merge}
use Rattle.bl_ctext.proofs.Texts.{parted_met, parted_kept}
use Rattle.bl_ctext.proofs.writer.part.Goals as goal

pub returns-in_ok-push-clause-ok : goal.returns-in_ok-push-clause-ok
returns-in_ok-push-clause-ok c =
    let met : may_merge c.args.text.now.items c.args.next.now ≡ true = search rules in
    parted_met c.args.text.now.items c.args.next.now c.push.new.self.items met (search rules)

pub returns-else-is_met-clause-ok : goal.returns-else-is_met-clause-ok
returns-else-is_met-clause-ok c =
    let apart : may_merge c.args.text.now.items c.args.next.now ≡ false = search rules in
    parted_kept c.args.text.now.items c.args.next.now apart
