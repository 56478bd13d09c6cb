use Rattle.std.proofs.Common.{◌≡◌, map, rules, ap, sym, ◌∙◌}
use Rattle.bl_simplify_laws_frames.specs.Reached.{first_exact, frame_spot, is_spot}
use Rattle.bl_simplify_frames.specs.Plain.{plain_arg}
use Rattle.bl_simplify_frames.specs.Told.{as_frame}
use Rattle.bl_simplify_frames.proofs.OnPlaces.{first_told}
use Rattle.bl_simplify_frames.proofs.keeps.is_lent_first.Goals as goal

pub returns-in-len1-up : goal.returns-in-len1-up
returns-in-len1-up c = λ names.
    let spot = frame_spot (as_frame c.args.frame.now) c.args.part.now.member in
    c.is_address_of.ensures names
    ∙ ap (λ exact. is_spot exact spot) (sym (first_told (plain_arg names) c.args.args.now c.first-item.result (search rules) (search rules)))
