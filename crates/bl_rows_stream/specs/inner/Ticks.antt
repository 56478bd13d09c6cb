-- How a tick leaves a run.
use Rattle.bl_tree.specs.declared.row.Last.{Last}
use Rattle.bl_tree.specs.declared.row.Last.TheVariants as last
use Rattle.bl_crun.specs.declared.tick.TickAnswer.{TickAnswer}
use Rattle.bl_crun.specs.declared.tick.TickAnswer.TheVariants as tick

-- the last state of a trace after a tick with this answer
abbrev pub last_by : TickAnswer → Last
last_by tick.Row = last.Open
last_by tick.Ended = last.Ended
last_by tick.Trap = last.Trap
