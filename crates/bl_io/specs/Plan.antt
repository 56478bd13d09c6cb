-- Which calls of an object over memory fail, and what was counted so far.
use Rattle.std.specs.Prelude.{ℕ, ◌-◌, ◌^◌, Bool, refl}
use Rattle.std.specs.Coded.{Coded, code_by, coded×, coded_ℕ}
use Rattle.std.specs.FinSet as set
use Rattle.std.specs.Ordering.{nat_cmp}
use Rattle.bl_io.specs.Count.{count_up}

-- the numbers of the calls that fail, the calls and the faults so far, and the most bytes of a call
pub record FaultPlan : Type 0 where
  pub failing : set.FinSet nat_cmp
  pub calls : ℕ
  pub most : ℕ
  pub faults : ℕ

-- a plan is stored as the tuple of its fields
abbrev pub plan_code : Coded FaultPlan
plan_code =
    code_by (set.FinSet nat_cmp × (ℕ × (ℕ × ℕ))) (coded× (set.code coded_ℕ) (coded× coded_ℕ (coded× coded_ℕ coded_ℕ)))
    (λ p. (p.failing, (p.calls, (p.most, p.faults))))
    (λ t. record { failing = t.0; calls = t.1.0; most = t.1.1.0; faults = t.1.1.1 })
    (λ _. refl)

-- the most bytes that one call can be asked for
abbrev pub no_limit : ℕ
no_limit = 2 ^ 64 - 1

-- the plan of an object before any call: no call fails, and each moves as much as it is asked for
abbrev pub no_plan : FaultPlan
no_plan = record { failing = set.empty; calls = 0; most = no_limit; faults = 0 }

-- whether the next call is one of those that fail
abbrev pub fails_next : FaultPlan → Bool
fails_next p = set.contains p.failing (count_up p.calls)

-- the plan after a call began
abbrev pub called : FaultPlan → FaultPlan
called p = record p { calls = count_up p.calls }

-- the plan after a fault was counted
abbrev pub faulted : FaultPlan → FaultPlan
faulted p = record p { faults = count_up p.faults }

-- the plan where the call of that number fails too
abbrev pub with_failing : FaultPlan → ℕ → FaultPlan
with_failing p call = record p { failing = set.insert p.failing call }

-- the plan where a call moves at most so many bytes
abbrev pub narrowed : FaultPlan → ℕ → FaultPlan
narrowed p most = record p { most = most }
