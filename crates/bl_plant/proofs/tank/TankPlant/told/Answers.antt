use Rattle.std.proofs.Common.{◌∙◌, ap, sym, ℤ, pos, to_z, of_z, ◌+ℤ◌, ◌-ℤ◌, ◌≤ℤ◌, subst, rules}
use Rattle.std.proofs.lemmas.Int.{to_z-of_z}
use Rattle.std.specs.Int.{int_max, int_min, w128}
use Rattle.bl_plant.specs.Kinds.{level_after, level_then}
use Rattle.bl_plant.specs.declared.log.Log.{Log}
use Rattle.bl_plant.proofs.Rules.{level-more}
use Rattle.bl_plant.proofs.tank.TankPlant.told.Goals as goal

abbrev kept : ℤ → ℤ → ℤ → ℤ
kept level inflow drain = int_max (pos 0) (int_min (pos 1000) ((level +ℤ inflow) -ℤ drain))

pub invariant_of-self-2 : goal.invariant_of-self-2
invariant_of-self-2 c =
    let tank = c.args.self.now in
    let same = to_z-of_z w128 c.level_with-self.result (search rules) in
    record {
      level_is =
          same ∙ c.level_with-self.ensures.is
          ∙ ap (λ x. kept x (to_z w128 (of_z w128 c.first_of.result)) (to_z w128 (of_z w128 tank.drain))) (to_z-of_z w128 tank.level (search rules))
          ∙ ap (λ x. kept tank.level x (to_z w128 (of_z w128 tank.drain))) (to_z-of_z w128 c.first_of.result (search rules))
          ∙ ap (λ x. kept tank.level c.first_of.result x) (to_z-of_z w128 tank.drain (search rules))
          ∙ ap (λ x. kept tank.level x tank.drain) c.first_of.ensures
          ∙ ap (λ l. level_then tank.drain l c.args.outs.now) tank.level_is
          ∙ sym (level-more tank.first tank.drain tank.log.told c.args.outs.now)
          ∙ ap (λ (log : Log). level_after tank.first tank.drain log.told) (sym c.in_ok-keep_told.ensures.ok);
      low = subst (λ x. pos 0 ≤ℤ x) (sym same) c.level_with-self.ensures.low;
      high = subst (λ x. x ≤ℤ pos 1000) (sym same) c.level_with-self.ensures.high;
      drain_low = tank.drain_low;
      drain_high = tank.drain_high;
    }
