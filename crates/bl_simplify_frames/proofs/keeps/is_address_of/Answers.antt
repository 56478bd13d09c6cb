use Rattle.std.proofs.Common.{◌≡◌, None, rules, ap, sym, ◌∙◌}
use Rattle.bl_tree.specs.declared.c.CExpr.{the_lemmas}
use Rattle.bl_simplify_laws_frames.specs.Reached.{frame_spot, is_spot, plain_place}
use Rattle.bl_simplify_frames.specs.Plain.{plain_arg}
use Rattle.bl_simplify_frames.specs.Told.{as_frame}
use Rattle.bl_simplify_frames.proofs.keeps.is_address_of.Goals as goal

pub returns-in-Address : goal.returns-in-Address
returns-in-Address c = λ names.
    let spot = frame_spot (as_frame c.args.frame.now) c.args.part.now.member in
    let is : (plain_arg names c.args.arg.now).exact ≡ (plain_place names c.in-Address.place).exact = search (rules, the_lemmas) in
    c.is_member.ensures names ∙ ap (λ exact. is_spot exact spot) (sym is)

pub returns-in-Value : goal.returns-in-Value
returns-in-Value c = λ names.
    let spot = frame_spot (as_frame c.args.frame.now) c.args.part.now.member in
    let is : (plain_arg names c.args.arg.now).exact ≡ None = search (rules, the_lemmas) in
    ap (λ exact. is_spot exact spot) (sym is)
