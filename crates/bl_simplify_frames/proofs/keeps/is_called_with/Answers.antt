use Rattle.std.proofs.Common.{◌≡◌, ◌&&◌, map, rules, sym, ◌∙◌}
use Rattle.std.specs.Prelude.{bytes_eq}
use Rattle.bl_tree.specs.declared.c.CExpr.{the_lemmas}
use Rattle.bl_simplify_laws_frames.specs.Reached.{first_exact, frame_spot, is_called_with, is_spot, plain_call}
use Rattle.bl_simplify_frames.specs.Plain.{plain_arg}
use Rattle.bl_simplify_frames.specs.Told.{as_frame, part_of}
use Rattle.bl_simplify_frames.proofs.OnPlaces.{both}
use Rattle.bl_simplify_frames.proofs.keeps.is_called_with.Goals as goal

pub returns : goal.returns
returns c = λ names.
    let frame = as_frame c.args.frame.now in
    let part = c.args.part.now in
    let call = c.args.call.now in
    let is : is_called_with frame (plain_call names call) (part_of part)
    ≡ (bytes_eq part.function call.name && is_spot (first_exact (map (λ a. a.exact) (map (plain_arg names) call.args))) (frame_spot frame part.member))
    = search (rules, the_lemmas) in
    let one : c.eq.result ≡ bytes_eq part.function call.name = search rules in
    let other : c.is_lent_first.result
    ≡ is_spot (first_exact (map (λ a. a.exact) (map (plain_arg names) call.args))) (frame_spot frame part.member)
    = c.is_lent_first.ensures names ∙ search rules in
    both _ _ _ _ one other ∙ sym is
