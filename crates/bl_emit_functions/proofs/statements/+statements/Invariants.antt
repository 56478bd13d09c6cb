use Rattle.std.proofs.Common.{◌≡◌, map, drop}
use Rattle.bl_emit_acts.specs.Sites.{site_in}
use Rattle.bl_emit_functions.specs.Statements.{arms_taken, block_codes, code_then, codes_of, codes_of_arm}
use Rattle.bl_emit_functions.proofs.statements.+statements.Given as goal

abbrev pub invariant-block-loop-s : goal.invariant-block-loop-s
invariant-block-loop-s l =
    code_then (record { code = l.code; free = l.left }) (block_codes (map (codes_of (site_in l.site)) (drop l.s-index l.body)))
    ≡ block_codes (map (codes_of (site_in l.site)) l.body) l.fn.free

abbrev pub invariant-arms_taken-loop-arm : goal.invariant-arms_taken-loop-arm
invariant-arms_taken-loop-arm l =
    code_then (record { code = l.code; free = l.left }) (arms_taken l.flag (map (codes_of_arm (site_in l.site)) (drop l.arm-index l.arms)))
    ≡ arms_taken l.flag (map (codes_of_arm (site_in l.site)) l.arms) l.fn.free
