-- The first rule that fails of the tree, judge by judge.
use Rattle.std.proofs.Common.{◌∙◌, ap, drop, subst}
use Rattle.bl_names.specs.Named.{named_behind}
use Rattle.bl_names_scopes.specs.Marks.{marks_of}
use Rattle.bl_names_scopes.specs.Rules.{PassesBehind as NamesPass}
use Rattle.bl_names_scopes.specs.Scopes.{opened_by}
use Rattle.bl_tree.specs.Rules.{IsCause}
use Rattle.bl_module.specs.declared.own.Next.{Next}
use Rattle.bl_module.specs.inner.Layers.{NamesFailHere}
use Rattle.bl_module.proofs.Layers.{names_cause, own_told, tree_passed, types_told}
use Rattle.bl_module.proofs.tree.judge_tree.Goals as goal

pub returns-in-Err-clause-cause : goal.returns-in-Err-clause-cause
returns-in-Err-clause-cause c =
    names_cause c.args.behind c.args.last c.args.raw.now c.in-Err.refusal
    (subst (λ headings. IsCause (NamesFailHere (opened_by headings) (marks_of c.args.raw.now.items)) c.in-Err.refusal) c.deref.ensures c.in-Err.ensures.cause)

pub returns-in-Err-judge_behind-clause-cause : goal.returns-in-Err-judge_behind-clause-cause
returns-in-Err-judge_behind-clause-cause c =
    types_told c.args.behind c.args.last c.args.raw.now c.in-Ok.named c.in-Ok-behind.env
    (c.in-Ok.ensures.named ∙ ap (λ headings. named_behind headings c.args.raw.now.items c.args.raw.now.bytes) c.deref.ensures) c.in-Ok-behind.ensures
    (subst (λ headings. NamesPass (opened_by headings) (marks_of c.args.raw.now.items)) c.deref.ensures c.in-Ok.ensures.passes)
    c.in-Err-judge_behind.refusal c.in-Err-judge_behind.ensures.cause

pub returns-in-Err-judge_own-clause-cause : goal.returns-in-Err-judge_own-clause-cause
returns-in-Err-judge_own-clause-cause c =
    own_told c.args.behind c.args.last c.args.raw.now c.in-Ok.named c.in-Ok-behind.env
    (c.in-Ok.ensures.named ∙ ap (λ headings. named_behind headings c.args.raw.now.items c.args.raw.now.bytes) c.deref.ensures) c.in-Ok-behind.ensures
    (subst (λ headings. NamesPass (opened_by headings) (marks_of c.args.raw.now.items)) c.deref.ensures c.in-Ok.ensures.passes)
    c.in-Ok-judge_behind.known c.in-Ok-judge_behind.ensures.known c.in-Ok-judge_behind.ensures.passes
    c.deref-2.result.now c.next_behind-next.result.structs c.own.result.now c.deref-2.ensures
    (ap (λ (next : Next). next.structs) c.next_behind-next.ensures)
    (c.own.ensures ∙ (λ i. drop (c.next_behind-next.ensures i).units (c.deref-3.ensures i)))
    c.in-Err-judge_own.refusal c.in-Err-judge_own.ensures.cause

pub returns-in-Ok-face_of-clause-passes : goal.returns-in-Ok-face_of-clause-passes
returns-in-Ok-face_of-clause-passes c =
    tree_passed c.args.behind c.args.last c.args.raw.now c.in-Ok.named c.in-Ok-behind.env
    (c.in-Ok.ensures.named ∙ ap (λ headings. named_behind headings c.args.raw.now.items c.args.raw.now.bytes) c.deref.ensures) c.in-Ok-behind.ensures
    (subst (λ headings. NamesPass (opened_by headings) (marks_of c.args.raw.now.items)) c.deref.ensures c.in-Ok.ensures.passes)
    c.in-Ok-judge_behind.known c.in-Ok-judge_behind.ensures.known c.in-Ok-judge_behind.ensures.passes
    c.deref-2.result.now c.next_behind-next.result.structs c.own.result.now c.deref-2.ensures
    (ap (λ (next : Next). next.structs) c.next_behind-next.ensures)
    (c.own.ensures ∙ (λ i. drop (c.next_behind-next.ensures i).units (c.deref-3.ensures i)))
    c.in-Ok-judge_own.ensures.passes
