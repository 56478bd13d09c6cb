-- Functions that do the same where their frame is as it has to be.
use Rattle.std.proofs.Common.{List, refl, ap, sym, subst, ◌∙◌}
use Rattle.bl_tree.specs.declared.c.CParam.{CParam}
use Rattle.bl_ctext_semantics.specs.Course.{Outcome}
use Rattle.bl_ctext_semantics.specs.Meaning.{Scope, block_c, pointers_of, with_params}
use Rattle.bl_ctext_semantics.specs.Memory.{Location, Memory, without_frame}
use Rattle.bl_ctext_semantics.specs.Tables.{Table, table_of}
use Rattle.bl_simplify_laws.specs.Observed.{observed}
use Rattle.bl_simplify_laws.specs.Tables.{Fine}
use Rattle.bl_simplify_laws.proofs.OnTables.{leaving, left-seen, own-apart, point-below}
use Rattle.bl_simplify_laws_frames.specs.Reached.{PassesFrame, RuleFrame, RuleSameIn, framed_names}
use Rattle.bl_simplify_laws_frames.proofs.OnFrames.{frame-taken, known-begins}

pub rule-frame : RuleFrame
rule-frame structs frames fit f g owned framed takes params same = record {
  same = λ known keeps depth passed memory fine passes.
      let pointers : List CParam → Table Location = λ ps. table_of (pointers_of ps passed) in
      let scope : List CParam → Scope = λ ps. record { known = known; depth = depth; pointers = pointers ps } in
      let start : List CParam → Memory = λ ps. with_params depth ps passed (without_frame depth memory) in
      let o : Outcome Memory = block_c f.body (scope f.params) (start f.params) in
      let p : List CParam → Outcome Memory = λ ps. block_c g.body (scope ps) (start ps) in
      left-seen depth o.end o.memory
      ∙ ap (leaving depth)
      (same.same (scope f.params)
      (record {
        keeps = keeps;
        below = point-below depth f.params passed fine.below;
        apart = own-apart (framed_names frames) f.name depth f.params passed owned fine;
      })
      (start f.params)
      (known-begins structs frames fit f (scope f.params) passed memory (frame-taken frames f.name f.params depth passed memory framed takes fine passes) refl)
      ∙ ap (λ ps. observed (p ps)) params)
      ∙ sym (left-seen depth (p g.params).end (p g.params).memory);
}

pub rule-same-in : RuleSameIn
rule-same-in = (
  λ frames f g same. record { same = λ known keeps depth passed memory fine passes. same.same known keeps depth passed memory fine },
  λ frames f g h names one other. record {
    same = λ known keeps depth passed memory fine passes.
        one.same known keeps depth passed memory fine passes
        ∙ other.same known keeps depth passed memory (subst (λ n. Fine (framed_names frames) n depth passed) names fine)
        (subst (λ n. PassesFrame frames n passed memory) names passes);
  },
)
