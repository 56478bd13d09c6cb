use Rattle.std.proofs.Common.{ap, sym, drop, ◌∙◌, arith}
use Rattle.std.proofs.lemmas.List.{drop-map}
use Rattle.bl_tree.specs.declared.rule.Rule.TheVariants as rule
use Rattle.bl_tree.specs.declared.tree.StructDef.{StructDef}
use Rattle.bl_tree.specs.Rules.{first_of}
use Rattle.bl_limits_measures.specs.Saturated.{saturated}
use Rattle.bl_limits_measures.specs.Types.{struct_nestings}
use Rattle.bl_limits.specs.inner.Failures.{numbered}
use Rattle.bl_limits.proofs.Lists.{numbered-saturated}
use Rattle.bl_limits.proofs.nesting.of_structs.Goals as goal

pub returns : goal.returns
returns c =
    let place = λ (it : StructDef). it.place in
    let all = c.args.structs.now in
    let later = drop c.args.from all in
    c.of_nestings.ensures
    ∙ ap (λ defs. first_of c.args.first (numbered rule.Cells 100 place defs c.behind-nestings.result.now)) c.behind.ensures
    ∙ ap (λ numbers. first_of c.args.first (numbered rule.Cells 100 place later numbers))
    (c.behind-nestings.ensures ∙ ap (drop c.args.from) (c.deref.ensures ∙ c.requires.tells.nestings) ∙ drop-map saturated c.args.from (struct_nestings all))
    ∙ ap (first_of c.args.first) (numbered-saturated rule.Cells 100 place later (drop c.args.from (struct_nestings all)) (omega arith))
