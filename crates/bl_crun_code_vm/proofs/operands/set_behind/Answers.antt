use Rattle.std.proofs.Common.{◌+◌, ◌∙◌, ℤ, ap, rules, sym}
use Rattle.std.proofs.lemmas.Int.{to_z-of_z}
use Rattle.std.specs.Int.{w128}
use Rattle.std.specs.Prelude.{slice_set}
use Rattle.bl_crun_code_vm.proofs.Steps.{set_uncapped}
use Rattle.bl_crun_code_vm.proofs.operands.set_behind.Goals as goal

pub returns : goal.returns
returns c = record {
  cells = c.set.ensures.cells ∙ ap (λ (n : ℤ). slice_set c.args.cells.now (c.args.cell + c.args.k) n) (to_z-of_z w128 c.args.n (search rules))
      ∙ sym (set_uncapped c.args.cells.now (c.args.cell + c.args.k) c.args.n c.requires.few);
  ready = c.set.ensures.ready;
  stays = c.set.ensures.stays;
}
