use Rattle.std.proofs.Common.{◌≡◌, ◌++◌, drop, map, option_map, string_bytes}
use Rattle.bl_top_args.specs.Jobs.{plants_of}
use Rattle.bl_top_args.proofs.driven.plants_of.Given as goal

abbrev pub invariant-loop-k : goal.invariant-loop-k
invariant-loop-k l = option_map (λ rest. l.plants.items ++ rest) (plants_of (map string_bytes (drop l.k l.words))) ≡ plants_of (map string_bytes l.words)
