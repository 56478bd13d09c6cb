use Rattle.std.proofs.Common.{◌∙◌, ap, subst, sym}
use Rattle.bl_names_scopes.specs.Cause.{IsCauseBehind}
use Rattle.bl_names_scopes.specs.Marks.{marks_of}
use Rattle.bl_names_scopes.specs.Scopes.{opened_by}
use Rattle.bl_tree.specs.Rules.{FailsFirst}
use Rattle.bl_module.specs.inner.Layers.{NamesFailHere}
use Rattle.bl_module.specs.Rules.{here}
use Rattle.bl_module.proofs.Layers.{first_here}
use Rattle.bl_module.proofs.tree.named_here.Goals as goal

pub returns-in-Ok-here-clause-cause : goal.returns-in-Ok-here-clause-cause
returns-in-Ok-here-clause-cause c =
    let start = opened_by c.args.headings.now in
    let marks = marks_of c.args.raw.now.items in
    subst (FailsFirst (NamesFailHere start marks) c.in-Err-Rule.rule c.in-Err-Rule.place) (sym (c.in-Ok-here.ensures ∙ ap here c.deref.ensures))
    (first_here start marks c.in-Err-Rule.rule c.in-Err-Rule.place c.in-Err-Rule.also
    (subst (IsCauseBehind start marks) c.in-Err-Rule.field-0-is c.in-Err-Rule.ensures.cause))
