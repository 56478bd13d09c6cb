use Rattle.bl_ctree_laws_traces.proofs.progress.accepted_trees_fit_graphs.Goals as goal
use Rattle.bl_ctree.specs.Instances.{Setting, setting_of}

pub returns : goal.returns
returns c = λ structs units entry keeps passes.
    let w : Setting = setting_of structs units entry in
    let paces = (c.accepted_programs_are_orderly.ensures structs units entry keeps passes).paces in
    let callable = c.programs_are_callable.ensures structs units entry keeps in
    let live = c.reached_trees_fit_graphs.ensures in
    record {
      trees = λ rows c store reaches. live.trees w rows c store paces callable reaches;
      inside = λ rows row actions c store reaches. live.inside w rows row actions c store paces callable reaches;
      could = λ rows row actions c store reaches. live.could w rows row actions c store paces callable reaches;
    }
