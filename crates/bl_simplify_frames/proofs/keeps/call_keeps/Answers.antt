use Rattle.std.proofs.Common.{◌≡◌, ◌&&◌, ◌||◌, not, rules, ap, sym, ◌∙◌}
use Rattle.std.specs.List.{list_all, list_any}
use Rattle.bl_tree.specs.declared.c.CExpr.{the_lemmas}
use Rattle.bl_simplify_laws.specs.Spots.{lent_in}
use Rattle.bl_simplify_laws.specs.Tables.{has_name}
use Rattle.bl_simplify_laws_frames.specs.Reached.{all_apart, call_keeps, frame_spot, framed_names, is_called_with, plain_call}
use Rattle.bl_simplify_frames.specs.Told.{as_frame}
use Rattle.bl_simplify_frames.proofs.OnPlaces.{both}
use Rattle.bl_simplify_frames.proofs.keeps.call_keeps.Goals as goal

pub returns : goal.returns
returns c = λ frames has.
    let names = framed_names frames in
    let call = c.args.call.now in
    let frame = as_frame c.args.frame.now in
    let is : call_keeps frames frame call
    ≡ ((plain_call names call).plain
    && ((not (has_name names call.name) || list_any (is_called_with frame (plain_call names call)) frame.parts)
    && list_all (λ part. is_called_with frame (plain_call names call) part || all_apart (lent_in call) (frame_spot frame part.0)) frame.parts))
    = search (rules, the_lemmas) in
    both _ _ _ _ (c.is_plain_call.ensures names has) (both _ _ _ _ (c.gets_own.ensures names has) (c.leaves_parts.ensures names)) ∙ sym is
