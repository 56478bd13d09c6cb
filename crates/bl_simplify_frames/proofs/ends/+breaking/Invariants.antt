use Rattle.std.proofs.Common.{◌≡◌, ◌||◌, drop}
use Rattle.std.specs.List.{list_any}
use Rattle.bl_simplify_laws_frames.specs.Reached.{ends_in}
use Rattle.bl_simplify_frames.proofs.ends.+breaking.Given as goal

abbrev pub invariant-have_break-loop-stmt : goal.invariant-have_break-loop-stmt
invariant-have_break-loop-stmt l =
    (l.some || list_any (λ s. (ends_in s).breaks) (drop l.stmt-index l.block)) ≡ list_any (λ s. (ends_in s).breaks) l.block
