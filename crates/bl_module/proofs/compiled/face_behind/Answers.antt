use Rattle.std.proofs.Common.{subst}
use Rattle.bl_module.specs.declared.behind.Behind.{Behind}
use Rattle.bl_module.specs.Own.{IsFaceOf}
use Rattle.bl_module.specs.Rules.{PassesIn}
use Rattle.bl_module.proofs.compiled.face_behind.Goals as goal

pub returns-in-Ok-judge-clause-good : goal.returns-in-Ok-judge-clause-good
returns-in-Ok-judge-clause-good c = record {
  stand = c.in-Ok.ensures.stand;
  passes = subst (λ (behind : Behind). PassesIn behind c.args.taken c.args.text.now) c.in-Ok.ensures.behind c.in-Ok-judge.ensures.passes;
  is_face = subst (λ (behind : Behind). IsFaceOf behind c.args.text.now c.in-Ok-judge.face) c.in-Ok.ensures.behind c.in-Ok-judge.ensures.face;
}
