use Rattle.std.proofs.Common.{◌≡◌, Some, rules, true}
use Rattle.bl_simplify.specs.Frames.{begins_with_frame}
use Rattle.bl_simplify_frames.specs.Told.{as_frame, as_frames}
use Rattle.bl_simplify_laws_frames.specs.Reached.{first_frame}
use Rattle.bl_simplify.proofs.OnFiles.{new_itself, new_kept}
use Rattle.bl_simplify.proofs.files.new_function.Goals as goal

pub returns-then-branch : goal.returns-then-branch
returns-then-branch c =
    let walked : c.is_walked_in.result ≡ true = search rules in
    let begins : begins_with_frame c.args.function.now.params ≡ true = c.is_walked_in.ensures walked in
    let told : first_frame c.args.function.now.name (as_frames c.args.frames.now) ≡ Some (as_frame c.in-Some.frame.now) = search rules in
    new_kept (as_frames c.args.frames.now) (as_frame c.in-Some.frame.now) c.args.function.now c.in_ok-new.new told begins (search rules)
    (c.in_ok-are_kept.ensures c.if-branch.true)
