use Rattle.std.proofs.Common.{◌≡◌, List, ap, rules, subst, sym, true}
use Rattle.bl_tree.specs.declared.c.CFunc.{CFunc}
use Rattle.bl_ctext_semantics.specs.Parts.{Parts, parts_from, parts_of}
use Rattle.bl_simplify_frames.specs.Decided.{AreFrames}
use Rattle.bl_simplify_frames.specs.Told.{as_frames}
use Rattle.bl_simplify.specs.Files.{AreNewOf}
use Rattle.bl_simplify.proofs.OnFiles.{simplified_itself, simplified_new}
use Rattle.bl_simplify.proofs.files.simplified.Goals as goal

pub returns-then-not-branch : goal.returns-then-not-branch
returns-then-not-branch c = simplified_itself (parts_of c.args.file) c.requires

pub returns-then-not-is_worth : goal.returns-then-not-is_worth
returns-then-not-is_worth c = simplified_itself (parts_of c.args.file) c.requires

pub returns-in_default : goal.returns-in_default
returns-in_default c = simplified_itself (parts_of c.args.file) c.requires

pub returns-in-Some : goal.returns-in-Some
returns-in-Some c =
    let file = c.args.file in
    let frames = as_frames c.in_ok-frames.frames in
    let made : parts_of c.in-Some.new ≡ parts_from file.structs c.in_ok-funcs.funcs = search rules in
    let held : AreFrames file.structs frames file.funcs = search rules in
    let given : AreNewOf frames file.funcs c.in_ok-funcs.funcs = search rules in
    let are : AreNewOf frames file.funcs c.in-Some.new.funcs = subst (AreNewOf frames file.funcs) (ap (λ (p : Parts). p.funcs) (sym made)) given in
    simplified_new c.same_trace_in.ensures (parts_of file) (parts_of c.in-Some.new) frames c.requires held (ap (λ (p : Parts). p.structs) (sym made)) are
    (c.in_ok-is_kept.ensures c.if-branch.true)
