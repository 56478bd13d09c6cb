use Rattle.std.proofs.Common.{map, ap, sym, ◌∙◌}
use Rattle.bl_ctree.specs.Control.{Par}
use Rattle.bl_ctree.specs.Nodes.{branches_of, control_of, located, seen_of}
use Rattle.bl_ctree_enabled.specs.Spots.{moved}
use Rattle.bl_ctree_enabled.proofs.NodeLemmas.{each_of}
use Rattle.bl_ctree_enabled.proofs.branch.par.Goals as goal
use Rattle.bl_ctree.proofs.WakeLemmas.{control_of_par}

pub returns : goal.returns
returns c =
    control_of_par c.args.s c.args.stood c.put.new.branches
    ∙ ap (λ bs. Par (located c.args.s) c.args.stood (branches_of bs))
    (c.put.ensures ∙ ap (λ bs. moved bs c.args.k (λ d. control_of c.args.tree)) (sym (each_of (map seen_of c.args.branches))))
