use Rattle.std.proofs.Common.{ap, ◌∙◌, ◌++◌, ◌∷◌, [], zero-add}
use Rattle.std.proofs.lemmas.Result.{on_ok_weaker}
use Rattle.bl_graph.specs.declared.accesses.Access.TheVariants.{Write}
use Rattle.bl_graph.proofs.NoteLemmas.{noting_one}
use Rattle.bl_graph.proofs.flow.notes.ByPath.note.Goals as goal

pub returns : goal.returns
returns c =
    on_ok_weaker c.insert.result (λ is. noting_one c.args.accesses.now c.push.new.self c.args.self.now c.insert.new.self c.args.path c.args.node
    c.in_ok-position.position (c.in_ok-position.ensures ∙ zero-add _ ∙ c.len.ensures)
    (c.in_ok-push.ensures.ok ∙ ap (λ found. c.args.accesses.now ++ Write c.args.node found ∷ []) c.at.ensures) is) c.insert.ensures
