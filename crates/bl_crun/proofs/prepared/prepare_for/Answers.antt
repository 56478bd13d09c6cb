use Rattle.std.proofs.Common.{◌≡◌, pos, length, replicate, ap, ◌∙◌, arith}
use Rattle.std.specs.Prelude.{codes}
use Rattle.bl_crun_code.specs.Laws.{code_of_file, entry_in_file}
use Rattle.bl_ctext_semantics.specs.Cells.{inputs_of, outputs_of}
use Rattle.bl_ctext_semantics.specs.Parts.{parts_from, parts_of}
use Rattle.bl_crun_ports.specs.Layout.{kinds_of}
use Rattle.bl_crun_ports.specs.Ports.{inputs_start, outputs_start}
use Rattle.bl_crun.proofs.Keeping.{inputs-fit, kinds-base, kinds-fit, outputs-fit}
use Rattle.bl_crun.proofs.Ticks.{zeros-keep}
use Rattle.bl_crun.proofs.prepared.prepare_for.Goals as goal

pub overflow_cast-base : goal.overflow_cast-base
overflow_cast-base c =
    let kinds : c.in_ok-cells_of.cells_of.kinds.items ≡ kinds_of (parts_of c.args.file.now) =
    c.in_ok-cells_of.ensures.kinds c.args.file.now.funcs ∙ ap (λ s. kinds_of (parts_from s c.args.file.now.funcs)) c.deref-3.ensures in
    let long = ap length kinds in
    let len = c.len-base.ensures in
    let fits = kinds-fit (parts_of c.args.file.now) c.requires.runs in
    omega arith

pub overflow_cast-result : goal.overflow_cast-result
overflow_cast-result c =
    let at = c.in_ok-cells_of.ensures.inputs ∙ ap inputs_start c.deref-3.ensures in
    let fits = inputs-fit (parts_of c.args.file.now) c.requires.runs in
    omega arith

pub overflow_cast-result-2 : goal.overflow_cast-result-2
overflow_cast-result-2 c =
    let at = c.in_ok-cells_of.ensures.outputs ∙ ap outputs_start c.deref-3.ensures in
    let fits = outputs-fit (parts_of c.args.file.now) c.requires.runs in
    omega arith

pub returns-clause-keeps : goal.returns-clause-keeps
returns-clause-keeps c =
    let kinds : c.in_ok-cells_of.cells_of.kinds.items ≡ kinds_of (parts_of c.args.file.now) =
    c.in_ok-cells_of.ensures.kinds c.args.file.now.funcs ∙ ap (λ s. kinds_of (parts_from s c.args.file.now.funcs)) c.deref-3.ensures in
    record {
      runs = c.requires.runs;
      code = c.in_ok-code.ensures.code ∙ ap (λ s. code_of_file s c.deref-2.result.now) c.deref.ensures
          ∙ ap (code_of_file c.args.file.now.structs) c.deref-2.ensures;
      init =
          c.in_ok-code.ensures.init ∙ ap (λ s. entry_in_file s c.deref-2.result.now (codes "bl_init")) c.deref.ensures
          ∙ ap (λ f. entry_in_file c.args.file.now.structs f (codes "bl_init")) c.deref-2.ensures;
      tick =
          c.in_ok-code.ensures.tick ∙ ap (λ s. entry_in_file s c.deref-2.result.now (codes "bl_tick")) c.deref.ensures
          ∙ ap (λ f. entry_in_file c.args.file.now.structs f (codes "bl_tick")) c.deref-2.ensures;
      inputs = c.in_ok-inputs.ensures c.args.file.now.funcs ∙ ap (λ s. inputs_of (parts_from s c.args.file.now.funcs)) c.deref-4.ensures;
      outputs = c.in_ok-outputs.ensures c.args.file.now.funcs ∙ ap (λ s. outputs_of (parts_from s c.args.file.now.funcs)) c.deref-5.ensures;
      kinds = kinds;
      input_at = c.in_ok-cells_of.ensures.inputs ∙ ap inputs_start c.deref-3.ensures;
      output_at = c.in_ok-cells_of.ensures.outputs ∙ ap outputs_start c.deref-3.ensures;
      base = let l = c.len-base.ensures in let k = ap length kinds in let b = kinds-base (parts_of c.args.file.now) c.requires.runs in omega arith;
      temps = let m = c.in_ok-machine.ensures.temps in let n = c.len.ensures in omega arith;
      room = let m = c.in_ok-machine.ensures.room in let n = c.len-2.ensures in omega arith;
      cells = zeros-keep (parts_of c.args.file.now) c.requires.runs c.in_ok-machine.machine.cells
          (c.in_ok-machine.ensures.cells ∙ ap (λ n. replicate n (pos 0)) c.requires.cells);
    }
