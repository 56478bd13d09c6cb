use Rattle.std.proofs.Common.{List, Option, Some, refl, sym, subst, ap, ◌∙◌}
use Rattle.std.specs.Prelude.{option_map}
use Rattle.bl_tree.specs.declared.value.Value.{Value}
use Rattle.bl_ctree.specs.Store.{put_written}
use Rattle.bl_ctree_store.specs.declared.frame.Frame.{Frame}
use Rattle.bl_ctree_store.specs.declared.view.InstanceView.{InstanceView}
use Rattle.bl_ctree_store.specs.Deeds.{LeftBy}
use Rattle.bl_ctree_store.specs.Seen.{setting_in, store_of, values_in}
use Rattle.bl_ctree_store.proofs.GlimpseLemmas.{written_glimpsed}
use Rattle.bl_ctree_store.proofs.perform.writes.Goals as goal

pub returns-in_default : goal.returns-in_default
returns-in_default c =
    let w = setting_in c.args.w.now in
    let store = store_of c.args.frames.now.items in
    let s = c.args.s.now in
    let left = c.in_ok-left.field-0 in
    let by = subst (λ (frames : List Frame). LeftBy w (store_of frames) c.args.i s (option_map values_in left)) c.deref.ensures.value c.in_ok-left.ensures in (
      written_glimpsed w c.args.i s c.args.paths.now store (λ store. store) (option_map values_in left) c.requires by
          ∙ ap (λ (left : Option InstanceView). option_map (λ (values : List Value). put_written w c.args.i values c.args.paths.now store) (option_map values_in left))
          c.in_default.is,
      refl,
    )

pub returns : goal.returns
returns c =
    let w = setting_in c.args.w.now in
    let store = store_of c.args.frames.now.items in
    let s = c.args.s.now in
    let left = c.in_ok-left.field-0 in
    let by = subst (λ (frames : List Frame). LeftBy w (store_of frames) c.args.i s (option_map values_in left)) c.deref.ensures.value c.in_ok-left.ensures in
    written_glimpsed w c.args.i s c.args.paths.now store (λ store. store) (option_map values_in left) c.requires by
    ∙ ap (λ (left : Option InstanceView). option_map (λ (values : List Value). put_written w c.args.i values c.args.paths.now store) (option_map values_in left))
    c.in-Some.is
    ∙ ap Some (sym (c.put_all.ensures ∙ c.in_ok-puts.ensures store
    ∙ ap (λ (values : List Value). put_written w c.args.i values c.args.paths.now store) c.deref-2.ensures))
