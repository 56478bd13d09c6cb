use Rattle.std.proofs.Common.{List, ap, sym, ◌∙◌}
use Rattle.std.specs.Prelude.{slice_get}
use Rattle.bl_ctree.specs.declared.instance.Instance.{Instance}
use Rattle.bl_ctree_store.proofs.GlimpseLemmas.{seen_there}
use Rattle.bl_ctree_store.specs.Seen.{setting_in, store_of}
use Rattle.bl_ctree_store.proofs.view.look.Goals as goal

pub returns-in_ok-before-in-Some : goal.returns-in_ok-before-in-Some
returns-in_ok-before-in-Some c =
    let room = c.in_ok-now-in-Some in
    seen_there (setting_in c.args.w.now) (store_of c.args.frames.now) c.args.i c.args.asked.now c.in-Some.instance.now
    (record { now = room.field-0.now.list; before = room.field-0.before.list })
    (record { now = c.in_ok-now-in-Some-2.now; before = c.in_ok-before-in-Some.before })
    (sym (c.in-Some.ensures ∙ ap (λ (all : List Instance). slice_get all c.args.i) c.deref.ensures))
    (room.ensures.now ∙ c.count.ensures) (room.ensures.before ∙ c.count.ensures) c.in_ok-now-in-Some-2.ensures c.in_ok-before-in-Some.ensures
