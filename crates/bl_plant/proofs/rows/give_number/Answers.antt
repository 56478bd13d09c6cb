use Rattle.std.proofs.Common.{◌≡◌, ◌∙◌, ap, [], ◌∷◌, ◌++◌, set, rules}
use Rattle.std.proofs.lemmas.Int.{to_z-of_z}
use Rattle.std.specs.Int.{w128}
use Rattle.bl_plant.specs.declared.log.Log.{Log}
use Rattle.bl_plant.proofs.Rules.{one-set}
use Rattle.bl_plant.proofs.rows.give_number.Goals as goal

pub returns-in-Ok-clause-given : goal.returns-in-Ok-clause-given
returns-in-Ok-clause-given c =
    let is : c.set.new.self ≡ c.args.number ∷ [] =
    c.set.ensures ∙ ap (set c.args.into.now 0) (to_z-of_z w128 c.args.number (search rules)) ∙ one-set c.args.into.now c.args.number c.requires in (
      is,
      ap (λ z. let log : Log = record { given = z; told = c.args.log.now.told } in log)
          (c.in-Ok.ensures.ok ∙ ap (λ z. c.args.log.now.given ++ z ∷ []) is),
    )
