use Rattle.std.proofs.Common.{◌≡◌, ◌∷◌, ap, subst, sym, ◌∙◌}
use Rattle.bl_tree.specs.declared.text.Text.{Text}
use Rattle.bl_ctext_semantics.specs.inner.Maps.{text_at}
use Rattle.bl_ctext_semantics.specs.Tables.{with_entry}
use Rattle.bl_simplify_calls.specs.Framed.{HasSomeNames}
use Rattle.bl_simplify_calls.proofs.Standing.{name_added}
use Rattle.bl_simplify_calls.proofs.functions.framed_names.Goals as goal
use Rattle.bl_simplify_calls.proofs.functions.framed_names.Goals.{then-takes_frame+in_ok-add, else-takes_frame}

pub loop-function-preserved : goal.loop-function-preserved
loop-function-preserved c =
    elim c.if-takes_frame.branch [
      | then-takes_frame+in_ok-add w ↦
          let old = text_at c.loop-function.framed in
          let name = c.function-item.result.name in
          let added : (asked : Text) → text_at c.if-takes_frame.framed asked ≡ with_entry old name tt asked =
          λ asked. ap (λ m. text_at m asked) w.framed-is ∙ (w.in_ok-add.ensures asked ∙ ap (λ n. with_entry old n tt asked) w.as_str.ensures) in
          record {
            names = name ∷ c.loop-function.invariant.names;
            has = name_added old (text_at c.if-takes_frame.framed) c.loop-function.invariant.names name tt c.loop-function.invariant.has added;
          }
      | else-takes_frame w ↦ subst (λ m. HasSomeNames (text_at m)) (sym w.framed-is) c.loop-function.invariant
    ]
