-- So few ticks are begun that each has a number, and what is told of them is their text and their lines.
use Rattle.bl_top_commands.proofs.Walks.{few_begun, few_shown, walks_rows}
use Rattle.bl_top_commands.proofs.walk.walk_rows.Goals as goal

pub text-requires : goal.text-requires
text-requires c =
    few_shown c.rows_bound_runs.ensures.rows _ _ _ _ _ c.in_ok-trace.trace c.as_slice.ensures.value c.requires.few_rows c.in_ok-trace.ensures.means

pub lines-requires : goal.lines-requires
lines-requires c =
    rw c.as_slice-2.ensures
    (few_begun c.rows_bound_runs.ensures.ticks _ _ _ _ _ _ c.in_ok-trace.trace _ _ c.new-places.ensures c.as_slice.ensures.value c.requires.few_rows
    c.in_ok-trace.ensures.walked)

pub returns : goal.returns
returns c =
    walks_rows _ _ _ _ _ _ _ _ _ _ _ _ _ _ _ c.new-places.ensures c.as_slice.ensures.value c.in_ok-trace.ensures.walked c.in_ok-text.ensures
    c.as_slice-2.ensures c.in_ok-lines.ensures c.finish_over.ensures
