use Rattle.std.proofs.Common.{ap, sym, ◌∙◌, refl, ⊎_elim, map}
use Rattle.bl_tree.specs.declared.tree.StmtKind.TheOpen.{StmtKind-F}
use Rattle.bl_tree.specs.declared.tree.StmtKind.TheVariants.{outs-Assign, outs-Call, outs-Cobegin, outs-Declare, outs-Return, outs-While}
use Rattle.bl_ctree.specs.Nodes.{located, seen_of}
use Rattle.bl_ctree.specs.Points.{begins}
use Rattle.bl_ctree_store.specs.Seen.{setting_in}
use Rattle.bl_ctree_run.specs.inner.Spots.{first_after}
use Rattle.bl_ctree_run.proofs.BeginLemmas.{act_ends, begun_at, forks_par}
use Rattle.bl_ctree_run.proofs.NodeLemmas.{control_of_nil, par_made}
use Rattle.bl_ctree_run.proofs.begin.begins.Goals as goal

pub returns-in_ok-at-in-Cobegin : goal.returns-in_ok-at-in-Cobegin
returns-in_ok-at-in-Cobegin c =
    par_made c.args.s.now c.in_ok-at-in-Cobegin.field-0 _ c.in_ok-branches-in-Cobegin.branches c.in_ok-at-in-Cobegin.ensures
    ∙ forks_par (setting_in c.args.w.now) c.args.i (located c.args.s.now) c.args.answer _ c.in-Cobegin.branches
    c.deref-in-Cobegin-2.result.now c.deref-in-Cobegin.result.now
    (map seen_of c.in_ok-branches-in-Cobegin.branches) c.in-Cobegin.is
    (outs-Cobegin c.in-Cobegin.branches) c.deref-in-Cobegin.ensures c.deref-in-Cobegin-2.ensures c.in_ok-branches-in-Cobegin.ensures

pub returns-else-answer : goal.returns-else-answer
returns-else-answer c =
    control_of_nil ∙ sym (begun_at (setting_in c.args.w.now) c.args.i (located c.args.s.now) c.args.answer _ _ c.in-While.is
    (outs-While c.in-While.field-0 c.in-While.body)
    ∙ ap (first_after (begins (setting_in c.args.w.now) c.args.i (located c.args.s.now)
    (StmtKind-F.While c.in-While.field-0 c.in-While.body))) c.if-answer.false)

pub returns-in-Declare : goal.returns-in-Declare
returns-in-Declare c =
    let w = setting_in c.args.w.now in
    let s = located c.args.s.now in
    control_of_nil ∙ ⊎_elim (λ (k, e, is). act_ends w c.args.i s c.args.answer _ _ is (outs-Declare k e) refl)
    (⊎_elim (λ (path, e, is). act_ends w c.args.i s c.args.answer _ _ is (outs-Assign path e) refl)
    (⊎_elim (λ (f, inputs, outputs, is). act_ends w c.args.i s c.args.answer _ _ is (outs-Call f inputs outputs) refl)
    (λ (e, is). act_ends w c.args.i s c.args.answer _ _ is (outs-Return e) refl))) c.in-Declare.is
