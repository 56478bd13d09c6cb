-- Why source files aren't linked.
use Rattle.std.proofs.Common.{◌≡◌, ℕ, List, inl, inr}
use Rattle.bl_link_files.specs.declared.fault.ProgramFault.{ProgramFault}
use Rattle.bl_link_files.specs.declared.fault.ProgramFault.TheVariants as program
use Rattle.bl_link_files.specs.Programs.{HaveNoProgram}
use Rattle.bl_top_args.specs.Jobs.{Word}
use Rattle.bl_top_commands.specs.Calls.{Call}
use Rattle.bl_top_commands.specs.inner.Outcomes.{IsEndAtProgram, chosen_line, line_in}
use Rattle.bl_top_commands.specs.Linked.{AreNotLinked, refused_in, refused_together, short, unread}
use Rattle.bl_top_commands.specs.declared.outcome.Outcome.{Outcome}
use Rattle.bl_top_commands.specs.declared.status.Status.{Status}
use Rattle.bl_top_commands.specs.declared.status.Status.TheVariants as status

module _ (c : Call) (sources : List Word) where
  stops_short : (ended : Status) (own : List ℕ) → ended ≡ status.NoMemory → AreNotLinked c sources ended (chosen_line ended own)
  stops_short ended own none = rw none short

  pub not_linked : (fault : ProgramFault) (outcome : Outcome) →
      HaveNoProgram c.left (λ name. (c.file name).before) (λ name. (c.file name).after) sources fault → IsEndAtProgram fault outcome →
      AreNotLinked c sources outcome.status (line_in outcome)
  not_linked program.Unread outcome why by = rw by (unread why)
  not_linked (program.InTurn file rule place also) outcome why by = elim by [
    | inl is ↦ rw (is.0, is.1) (refused_in file rule place also why)
    | inr none ↦ stops_short outcome.status outcome.line.items none
  ]
  not_linked (program.Together file rule place) outcome why by = elim by [
    | inl is ↦ rw (is.0, is.1) (refused_together file rule place why)
    | inr none ↦ stops_short outcome.status outcome.line.items none
  ]
  not_linked program.NoMemory outcome why by = stops_short outcome.status outcome.line.items by
