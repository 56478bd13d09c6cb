-- What blocks see of an activity, as the code has it.
use Rattle.std.specs.Prelude.{false, slice_get, unwrap_or}
use Rattle.bl_emit_acts.specs.Sites.{site_in}
use Rattle.bl_machine_transitions.specs.Runs.{kept_number}
use Rattle.bl_emit_spec.specs.Blocks.{ActivityView}
use Rattle.bl_emit_blocks.specs.declared.view.ActivityView.{ActivityView as Kept}
use Rattle.bl_emit_tables.specs.Words.{kept_word}

-- the view that numbered blocks have of their activity; it has no numbers of nodes
abbrev pub view_in : Kept → ActivityView
view_in view = record {
  site = site_in view.site;
  copies = view.copies.now;
  number = λ n. 0;
  word = kept_word view.words.now;
  run = kept_number view.runs.now;
  sizes = view.sizes.now;
  is_read = λ k. unwrap_or (slice_get view.read.now k) false;
  remembers = λ k. unwrap_or (slice_get view.remembers.now k) false;
}
