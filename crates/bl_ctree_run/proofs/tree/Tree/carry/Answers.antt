use Rattle.std.proofs.Common.{◌∙◌, Some, ap, sym, subst}
use Rattle.std.specs.Prelude.{Ok}
use Rattle.bl_eval.specs.declared.values.Did.{Did}
use Rattle.bl_eval.specs.declared.values.Did.TheVariants.{Trap}
use Rattle.bl_ctree.specs.Nodes.{control_of}
use Rattle.bl_ctree_store.specs.Deeds.{Carried, deed_on}
use Rattle.bl_ctree_store.specs.Seen.{setting_in, store_of}
use Rattle.bl_ctree_run.specs.Running.{setting, state}
use Rattle.bl_ctree_run.specs.inner.Spines.{led}
use Rattle.bl_ctree_run.proofs.OutputLemmas.{outputs_carried}
use Rattle.bl_ctree_run.proofs.TreeLemmas.{deed_done, deed_traps}
use Rattle.bl_ctree_run.proofs.tree.Tree.carry.Goals as goal

pub returns-in-Done-clause-step : goal.returns-in-Done-clause-step
returns-in-Done-clause-step c =
    let w = setting c.args.self.now in
    let old = store_of c.args.self.now.frames.items in
    let new = store_of c.carry_out.new.frames.items in
    deed_done w (state c.args.self.now) c.args.i c.args.deed c.args.path.now (led (state c.args.self.now).control c.in_ok-next.next) new
    c.in_ok-next.ensures.leads
    (subst (λ (did : Did). Carried (deed_on w c.args.i c.args.deed old) old new (Ok did)) c.in-Done.is c.in_ok-carry_out.ensures)
    ∙ ap Some (sym c.go.ensures.state)

pub returns-in-Trap-clause-step : goal.returns-in-Trap-clause-step
returns-in-Trap-clause-step c =
    let w = setting c.args.self.now in
    let old = store_of c.args.self.now.frames.items in
    let new = store_of c.carry_out.new.frames.items in
    let carried : Carried (deed_on w c.args.i c.args.deed old) old new (Ok Trap) =
    subst (λ (did : Did). Carried (deed_on w c.args.i c.args.deed old) old new (Ok did)) c.in-Trap.is c.in_ok-carry_out.ensures in (
      deed_traps w (state c.args.self.now) c.args.i c.args.deed c.args.path.now carried.0,
      ap (λ store. record { control = control_of c.args.self.now.node; store = store }) carried.1,
    )

pub invariant_of-self : goal.invariant_of-self
invariant_of-self c = record {
  lists = c.args.self.now.lists;
  outputs = outputs_carried (setting_in c.args.self.now.setting) c.args.i c.args.deed (store_of c.args.self.now.frames.items)
      (store_of c.carry_out.new.frames.items) c.carry_out.result c.carry_out.ensures c.args.self.now.outputs;
}
