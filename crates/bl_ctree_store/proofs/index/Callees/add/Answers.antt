use Rattle.std.proofs.Common.{ap, cond, sym, Some, None, ◌∙◌}
use Rattle.std.specs.Option.{option_or}
use Rattle.std.specs.Prelude.{is_some}
use Rattle.bl_ctree.specs.Instances.{begins_at}
use Rattle.bl_ctree_store.specs.Callees.{kept_callee, key_at}
use Rattle.bl_ctree_store.proofs.CalleeLemmas.{begun_before, begun_more}
use Rattle.bl_ctree_store.proofs.index.Callees.add.Goals as goal

pub returns-then-contains_key : goal.returns-then-contains_key
returns-then-contains_key c caller place =
    let o = c.in-Some.origin in
    let there = ap (λ entries. is_some (kept_callee entries o.caller o.place)) (sym c.self.view_is) ∙ sym c.contains_key.ensures ∙ c.if-contains_key.true in
    begun_before c.args.self.now o c.args.k there caller place
    ∙ ap (λ origin. option_or (kept_callee c.args.self.now caller place) (cond (begins_at caller place origin) (Some c.args.k) None)) (sym c.in-Some.is)

pub returns : goal.returns
returns c caller place =
    let o = c.in-Some.origin in
    let absent = ap (λ entries. is_some (kept_callee entries o.caller o.place)) (sym c.self.view_is) ∙ sym c.contains_key.ensures ∙ c.if-contains_key.false in
    begun_more c.args.self.now c.insert.new.self o c.args.k absent caller place (c.in_ok-insert.ensures (key_at caller place))
    ∙ ap (λ origin. option_or (kept_callee c.args.self.now caller place) (cond (begins_at caller place origin) (Some c.args.k) None)) (sym c.in-Some.is)
