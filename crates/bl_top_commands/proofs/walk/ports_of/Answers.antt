-- The entry is there, and the columns are those of its inputs and outputs.
use Rattle.std.proofs.Common.{◌≡◌, ap, arith, get_or, length, subst}
use Rattle.bl_top_commands.proofs.Walks.{are_ports, entry_within}
use Rattle.bl_top_commands.proofs.walk.ports_of.Goals as goal

pub bounds-deref-at : goal.bounds-deref-at
bounds-deref-at c =
    let program = c.args.program.now in
    let within = entry_within program.units program.entry program.well_typed.entry_stands in
    omega (arith, within, ap length c.deref.ensures)

pub returns : goal.returns
returns c =
    let program = c.args.program.now in
    let unit = c.index-deref-at.result in
    are_ports program.units program.entry unit _ _ (entry_within program.units program.entry program.well_typed.entry_stands)
    (subst (λ units. unit ≡ get_or units program.entry unit) c.deref.ensures c.index-deref-at.is)
    c.in_ok-input_columns.ensures c.in_ok-output_columns.ensures
