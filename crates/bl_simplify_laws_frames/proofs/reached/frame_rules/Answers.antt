use Rattle.bl_simplify_laws_frames.proofs.OnRules.{rule-frame, rule-same-in}
use Rattle.bl_simplify_laws_frames.proofs.reached.frame_rules.Goals as goal

pub returns : goal.returns
returns c = record { frame = rule-frame; same = rule-same-in }
