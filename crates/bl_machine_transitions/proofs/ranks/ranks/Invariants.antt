use Rattle.std.proofs.Common.{◌≡◌, ℕ, ◌+◌, ◌-◌, length, drop, get_or, nat_eq}
use Rattle.bl_machine_pass.specs.Numbered.{position_where}
use Rattle.bl_machine_transitions.proofs.ranks.ranks.Given as goal

abbrev pub invariant-loop-step : goal.invariant-loop-step
invariant-loop-step l =
    (length l.ranks.items ≡ length l.order)
    × ((k : ℕ) → get_or l.ranks.items k (length l.order) ≡ l.count - l.step + position_where (nat_eq k) (drop (l.count - l.step) l.order))
