use Rattle.std.proofs.Common.{◌≡◌, ◌∙◌, rules, sym}
use Rattle.bl_tree.specs.declared.c.CPlace.{out-CPlace}
use Rattle.bl_simplify_walk.proofs.OnSame.{place_same}
use Rattle.bl_simplify_walk.proofs.same.+comparing.Goals as goal

pub is_same_place-returns-then-a-b : goal.is_same_place-returns-then-a-b
is_same_place-returns-then-a-b t c = λ same.
    let one : c.deref.result.now ≡ (out-CPlace c.args.a.now).steps = search rules in
    let other : c.deref-then-a-b.result.now ≡ (out-CPlace c.args.b.now).steps = search rules in
    place_same c.args.a.now c.args.b.now (search rules) (search rules) (sym one ∙ (c.are_same_steps.ensures same ∙ other))
