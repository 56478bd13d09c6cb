use Rattle.std.proofs.Common.{List, Option, ap, subst, sym, refl, Some, [], ◌∷◌, ◌∙◌}
use Rattle.std.specs.Prelude.{option_map}
use Rattle.bl_tree.specs.declared.value.Value.{Value}
use Rattle.bl_ctree.specs.Store.{Store, home, put_written, remember, with_frame}
use Rattle.bl_tree.specs.Static.{whole}
use Rattle.bl_ctree_store.specs.declared.frame.Frame.{Frame}
use Rattle.bl_ctree_store.specs.declared.view.InstanceView.{InstanceView}
use Rattle.bl_ctree_store.specs.Deeds.{Carried, LeftBy}
use Rattle.bl_ctree_store.specs.Own.{now_there}
use Rattle.bl_ctree_store.specs.Seen.{location_of, setting_in, store_of, values_in}
use Rattle.bl_ctree_store.proofs.GlimpseLemmas.{written_glimpsed}
use Rattle.bl_ctree_store.proofs.PerformLemmas.{nothing_put, one_put, remembered}
use Rattle.bl_ctree_store.proofs.perform.declares.Goals as goal

pub returns-in_default : goal.returns-in_default
returns-in_default c =
    let w = setting_in c.args.w.now in
    let store = store_of c.args.frames.now.items in
    let s = c.args.s.now in
    let left = c.in_ok-left.field-0 in
    let by = subst (λ (frames : List Frame). LeftBy w (store_of frames) c.args.i s (option_map values_in left)) c.deref.ensures.value c.in_ok-left.ensures in (
      written_glimpsed w c.args.i s (whole c.args.k ∷ []) store (with_frame c.args.i (remember c.args.k)) (option_map values_in left) c.requires by
          ∙ ap (λ (left : Option InstanceView). option_map (λ (values : List Value). with_frame c.args.i (remember c.args.k)
          (put_written w c.args.i values (whole c.args.k ∷ []) store)) (option_map values_in left)) c.in_default.is,
      refl,
    )

pub returns-in_ok-before-in-None : goal.returns-in_ok-before-in-None
returns-in_ok-before-in-None c =
    let w = setting_in c.args.w.now in
    let store = store_of c.args.frames.now.items in
    let s = c.args.s.now in
    let left = c.in_ok-left.field-0 in
    let by = subst (λ (frames : List Frame). LeftBy w (store_of frames) c.args.i s (option_map values_in left)) c.deref.ensures.value c.in_ok-left.ensures in
    let none = sym c.in_ok-value.ensures ∙ c.in-None.is in
    written_glimpsed w c.args.i s (whole c.args.k ∷ []) store (with_frame c.args.i (remember c.args.k)) (option_map values_in left) c.requires by
    ∙ ap (λ (left : Option InstanceView). option_map (λ (values : List Value). with_frame c.args.i (remember c.args.k)
    (put_written w c.args.i values (whole c.args.k ∷ []) store)) (option_map values_in left)) c.in-Some.is
    ∙ ap (λ store. Some (with_frame c.args.i (remember c.args.k) store)) (nothing_put w c.args.i c.args.k (values_in c.in-Some.left) store none)
    ∙ ap Some (remembered c.args.i c.args.k store store (store_of c.remember.new.frames.items) c.in_ok-before-in-None.before refl
    (c.in_ok-before-in-None.ensures ∙ ap (λ frames. now_there (store_of frames) c.args.i c.args.k) c.deref-in-None.ensures.value) c.remember.ensures)

pub returns-in_ok-at-in-Some-value : goal.returns-in_ok-at-in-Some-value
returns-in_ok-at-in-Some-value c =
    let w = setting_in c.args.w.now in
    let store = store_of c.args.frames.now.items in
    let s = c.args.s.now in
    let left = c.in_ok-left.field-0 in
    let by = subst (λ (frames : List Frame). LeftBy w (store_of frames) c.args.i s (option_map values_in left)) c.deref.ensures.value c.in_ok-left.ensures in
    let value = c.in-Some-value.value in
    let found = sym c.in_ok-value.ensures ∙ c.in-Some-value.is in
    let outcome =
    written_glimpsed w c.args.i s (whole c.args.k ∷ []) store (with_frame c.args.i (remember c.args.k)) (option_map values_in left) c.requires by
    ∙ ap (λ (left : Option InstanceView). option_map (λ (values : List Value). with_frame c.args.i (remember c.args.k)
    (put_written w c.args.i values (whole c.args.k ∷ []) store)) (option_map values_in left)) c.in-Some.is
    ∙ ap (λ store. Some (with_frame c.args.i (remember c.args.k) store))
    (one_put w c.args.i c.args.k (values_in c.in-Some.left) value (location_of c.in_ok-at-in-Some-value.at) store found
    (c.in_ok-at-in-Some-value.ensures
    ∙ ap (λ fields. home w (record { instance = c.args.i; path = record { root = c.args.k; fields = fields } })) c.new.ensures)) in
    subst (λ (outcome : Option Store). Carried outcome store (store_of c.declare.new.frames.items) c.declare.result) (sym outcome) c.declare.ensures
