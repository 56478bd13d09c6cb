use Rattle.std.proofs.Common.{map, sym, ◌∙◌}
use Rattle.bl_plant_drive.proofs.Lists.{read-again}
use Rattle.bl_plant_drive.proofs.Naming.{absent-found, there-all, there-found}
use Rattle.bl_plant.specs.declared.log.PlantName.{PlantName}
use Rattle.bl_plant_drive.proofs.names.test_meant.Goals as goal

pub returns-in_default : goal.returns-in_default
returns-in_default g c =
    absent-found (λ (n : PlantName). n.number) (map (λ b. (goal.Plant-dyn g (b.vtable, b.value)).shown b.value) c.args.plants.now)
    c.args.names.now c.loop-k.k _ c.loop-k-test.true (read-again c.args.names.now c.loop-k.k (record { number = 0 }) c.loop-k-test.true)
    c.loop-k.invariant (sym c.in_default.is ∙ c.place_of.ensures)

pub loop-k-preserved : goal.loop-k-preserved
loop-k-preserved g c =
    there-found (λ (n : PlantName). n.number) (map (λ b. (goal.Plant-dyn g (b.vtable, b.value)).shown b.value) c.args.plants.now)
    c.args.names.now c.loop-k.k _ c.in-Some._at c.loop-k-test.true
    (read-again c.args.names.now c.loop-k.k (record { number = 0 }) c.loop-k-test.true) c.loop-k.invariant
    (sym c.in-Some.is ∙ c.place_of.ensures)

pub returns : goal.returns
returns g c = there-all _ _ c.args.names.now c.loop-k.k c.loop-k-test.false c.loop-k.invariant
