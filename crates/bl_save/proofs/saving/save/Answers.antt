use Rattle.std.proofs.Common.{◌≡◌, ◌∙◌, ap, sym, ◌++◌, List, ℕ, length}
use Rattle.bl_crun_ports.specs.Layout.{kinds_of}
use Rattle.bl_save.specs.Bytes.{cells_bytes, state_header}
use Rattle.bl_save.proofs.Faults.{count-kinds}
use Rattle.bl_save.proofs.saving.save.Goals as goal

pub returns : goal.returns
returns c =
    let kinds = kinds_of c.args.runner.now.parts in
    let cells = c.args.runner.now.cells in
    let count : c.cells.result ≡ length kinds = c.cells.ensures.count ∙ sym (count-kinds c.args.runner.now.parts) in
    record {
      starts = c.requires;
      fit = c.in_ok-push_cells.ensures.fit;
      written = c.in_ok-push_cells.ensures.written
          ∙ ap (λ (front : List ℕ). front ++ cells_bytes kinds cells)
          (c.in_ok-extend_from_slice.ensures.items ∙ ap (λ (s : List ℕ). s ++ c.header.result) c.new-bytes.ensures.items ∙ c.header.ensures
          ∙ ap state_header count);
    }
