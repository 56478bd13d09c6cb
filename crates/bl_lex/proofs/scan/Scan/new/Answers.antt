use Rattle.std.proofs.Common.{refl}
use Rattle.bl_lex.proofs.WalkLaws.{scanned_start}
use Rattle.bl_lex.proofs.scan.Scan.new.Goals as goal

pub returns : goal.returns
returns c = λ text. scanned_start text _ c.new.ensures.items refl refl refl
