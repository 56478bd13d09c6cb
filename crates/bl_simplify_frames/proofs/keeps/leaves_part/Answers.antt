use Rattle.std.proofs.Common.{◌≡◌, map, rules, ap, sym, ◌∙◌}
use Rattle.bl_tree.specs.Reduce.{joined}
use Rattle.bl_tree.specs.declared.c.CExpr.{the_lemmas}
use Rattle.bl_simplify_laws.specs.Spots.{lent_by, lent_in}
use Rattle.bl_simplify_laws_frames.specs.Reached.{all_apart, frame_spot}
use Rattle.bl_simplify_frames.specs.Told.{as_frame}
use Rattle.bl_simplify_frames.proofs.OnPlaces.{either}
use Rattle.bl_simplify_frames.proofs.keeps.leaves_part.Goals as goal

pub returns : goal.returns
returns c = λ names.
    let spot = frame_spot (as_frame c.args.frame.now) c.args.part.now.member in
    let is : lent_in c.args.call.now ≡ joined (map lent_by c.args.call.now.args) = search (rules, the_lemmas) in
    either _ _ _ _ (c.is_called_with.ensures names) (search rules ∙ ap (λ l. all_apart l spot) (sym is))
