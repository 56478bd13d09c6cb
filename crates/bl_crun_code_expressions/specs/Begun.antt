-- Where statements begin.
use Rattle.bl_crun_code.specs.declared.instruction.Act.{Act}
use Rattle.bl_crun_code.specs.declared.instruction.Instruction.{Instruction}

-- an instruction with which one statement begins
abbrev pub counted_once : Act → Instruction
counted_once does = record { statements = 1; act = does }
