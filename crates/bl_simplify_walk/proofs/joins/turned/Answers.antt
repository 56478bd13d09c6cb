use Rattle.std.proofs.Common.{refl}
use Rattle.bl_simplify_walk.specs.Joined.{made_of}
use Rattle.bl_simplify_walk.proofs.OnJoined.{by-turned}
use Rattle.bl_simplify_walk.proofs.joins.turned.Goals as goal

pub returns : goal.returns
returns c =
    by-turned c.join_forms.ensures.turned c.args.it (made_of c.in_ok-test.test c.args.it.other c.args.it.block) c.args.place c.in_ok-test.test c.requires
    c.in_ok-test.ensures refl
