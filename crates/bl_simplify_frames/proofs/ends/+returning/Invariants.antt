use Rattle.std.proofs.Common.{◌≡◌, ◌||◌, drop}
use Rattle.std.specs.List.{list_any}
use Rattle.bl_simplify_laws_frames.specs.Reached.{ends_in}
use Rattle.bl_simplify_frames.proofs.ends.+returning.Given as goal

abbrev pub invariant-have_return-loop-stmt : goal.invariant-have_return-loop-stmt
invariant-have_return-loop-stmt l =
    (l.some || list_any (λ s. (ends_in s).returns) (drop l.stmt-index l.block)) ≡ list_any (λ s. (ends_in s).returns) l.block
