use Rattle.std.proofs.Common.{◌∙◌}
use Rattle.bl_crun_code_expressions.proofs.Emitting.{set-reversed}
use Rattle.bl_crun_code_expressions.proofs.front.Front.set.Goals as goal

pub returns : goal.returns
returns c = λ front rest old is long. set-reversed c.self.inside.reversed.items front rest old _ c.args.behind (c.self.view_is ∙ is) long
