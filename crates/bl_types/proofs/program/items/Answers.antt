use Rattle.std.proofs.Common.{◌≡◌, ℕ, ◌∙◌, ◌+◌, ◌<◌, ◌∷◌, ◌++◌, List, add-one, ap, append_assoc, drop, get_or, length, sym}
use Rattle.std.proofs.Math.Seq.{drop-cons}
use Rattle.bl_names_tree.specs.declared.item.Item.{Item}
use Rattle.bl_names_tree.specs.declared.item.Item.TheVariants.{Struct}
use Rattle.bl_names_tree.specs.declared.named.Named.{Named}
use Rattle.bl_types.specs.declared.environment.Constant.{Constant}
use Rattle.bl_types.specs.declared.environment.State.{State}
use Rattle.bl_types.specs.Programs.{after_item, after_items, global_at, globals_of}
use Rattle.bl_types.specs.inner.States.{after}
use Rattle.bl_types.proofs.StateLemmas.{state_next}
use Rattle.bl_types.proofs.program.items.Goals as goal

one_next : (order : List Item) (k : ℕ) → k < length order → drop k order ≡ get_or order k Struct ∷ drop (k + 1) order
one_next order k within = rw add-one (drop-cons order k Struct within)

-- the constants that are kept, with those of the items that follow
global_next : (named : Named) (one : Item) (rest order : List Item) (old middle : State) (kept more found : List Constant) → order ≡ one ∷ rest →
    middle ≡ after old (after_item named one) → more ≡ kept ++ global_at one (length old.env.constants) middle.env.constants →
    kept ++ globals_of named order old.env ≡ found → more ++ globals_of named rest middle.env ≡ found
global_next named one rest order old middle kept more found step is push h =
    ap (λ l. l ++ globals_of named rest middle.env) push
    ∙ append_assoc kept (global_at one (length old.env.constants) middle.env.constants) (globals_of named rest middle.env)
    ∙ ap (λ (s : State). kept ++ (global_at one (length old.env.constants) s.env.constants ++ globals_of named rest s.env)) is
    ∙ ap (λ l. kept ++ globals_of named l old.env) (sym step)
    ∙ h

pub loop-one-preserved : goal.loop-one-preserved
loop-one-preserved c =
    let named = c.args.named.now in
    let order = c.args.order.now in
    let k = c.loop-one.one-index in
    let one = get_or order k Struct in
    let step = one_next order k c.loop-one-test.true in
    record {
      state = state_next (after_item named one) (after_items named (drop (k + 1) order)) c.loop-one.state c.next_item.new.state _
          c.in_ok-next_item.ensures.state
          (sym (ap (λ l. after c.loop-one.state (after_items named l)) step) ∙ c.loop-one.invariant.state);
      globals = global_next named one (drop (k + 1) order) (drop k order) c.loop-one.state c.next_item.new.state c.loop-one.globals c.next_item.new.globals _
          step c.in_ok-next_item.ensures.state c.in_ok-next_item.ensures.globals c.loop-one.invariant.globals;
    }
