-- The law of a whole program.
use Rattle.std.proofs.Common.{◌≡◌, ℕ, List, [], ◌∷◌, length, take, ap, arith}
use Rattle.bl_tree.specs.declared.tree.StructDef.{StructDef}
use Rattle.bl_tree.specs.declared.tree.Unit.{Unit as UnitDef}
use Rattle.bl_tree.specs.Typing.{fits, site_of}
use Rattle.bl_limits_measures.proofs.RunLemmas.{activities_are}
use Rattle.bl_emit_acts_laws_wellformed.proofs.OnFormed.Units.{body_stands}
use Rattle.bl_emit_spec_laws_wellformed.specs.Costs.{BodiesCost}
use Rattle.bl_emit_spec_laws_wellformed.proofs.OnCosts.Costs.{body_cheap}
use Rattle.bl_eval.proofs.UnitFits.{all_listed}

pub cost : (structs : List StructDef) (units : List UnitDef) (entry : ℕ) → BodiesCost structs units entry
cost structs units entry k unit slots keeps there =
    let cheap = (body_cheap (site_of structs (take k units) unit) slots unit.body
    (all_listed (fits (site_of structs (take k units) unit)) unit.body (body_stands structs units entry keeps k unit there))).low in
    let same = ap length (activities_are unit) in
    omega (arith, cheap, same)
