-- What contracts see of files and sinks over memory.
use Rattle.std.specs.Prelude.{ℕ, if◌then◌else◌, List, [], drop, Option, None, option_map, refl}
use Rattle.std.specs.Coded.{Coded, code_by, coded×, coded_list, coded_ℕ}
use Rattle.std.specs.FinMap as map
use Rattle.bl_io.specs.Plan.{FaultPlan, plan_code, no_plan, fails_next, called, faulted}
use Rattle.bl_io.specs.Store.{LeftByName, left_code, left_at, handed}

-- files over memory: what is left of each, and which calls fail
pub record MemoryFiles : Type 0 where
  pub files : LeftByName
  pub plan : FaultPlan

-- a sink over memory: what it holds, and which calls fail
pub record MemorySink : Type 0 where
  pub held : List ℕ
  pub plan : FaultPlan

-- files over memory are stored as the pair of their fields
abbrev pub files_code : Coded MemoryFiles
files_code = code_by (LeftByName × FaultPlan) (coded× left_code plan_code) (λ m. (m.files, m.plan)) (λ p. record { files = p.0; plan = p.1 }) (λ _. refl)

-- a sink over memory is stored as the pair of its fields
abbrev pub sink_code : Coded MemorySink
sink_code = code_by (List ℕ × FaultPlan) (coded× (coded_list coded_ℕ) plan_code) (λ s. (s.held, s.plan)) (λ p. record { held = p.0; plan = p.1 })
    (λ _. refl)

-- files over memory to which no file was added
abbrev pub no_files : MemoryFiles
no_files = record { files = map.empty; plan = no_plan }

-- a sink over memory to which nothing was written
abbrev pub nothing_held : MemorySink
nothing_held = record { held = []; plan = no_plan }

-- the number of bytes that the next call gives, none if that call fails or the file is absent
abbrev pub gives : MemoryFiles → List ℕ → ℕ → Option ℕ
gives m name room = if fails_next m.plan then None else option_map (handed room m.plan.most) (map.get m.files name)

-- the files after a call gave the next n bytes of a name
abbrev pub after_giving : MemoryFiles → List ℕ → ℕ → MemoryFiles
after_giving m name n = record { files = map.insert m.files name (drop n (left_at m.files name)); plan = called m.plan }

-- the files after a call that failed
abbrev pub after_failing : MemoryFiles → MemoryFiles
after_failing m = record m { plan = faulted (called m.plan) }
