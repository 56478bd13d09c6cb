use Rattle.std.proofs.Common.{◌≡◌, ◌++◌, drop}
use Rattle.bl_names_scopes.specs.Marks.{marks_of}
use Rattle.bl_names_scopes.specs.Scopes.{after}
use Rattle.bl_names.specs.Named.{along, constants_of, structs_of, units_of}
use Rattle.bl_names.proofs.item.items.Given as goal

abbrev pub invariant-loop-one : goal.invariant-loop-one
invariant-loop-one l = record {
  scopes : after l.state.scopes (marks_of (drop l.one-index l.all)) ≡ after l.initial.state.scopes (marks_of l.all);
  structs : l.state.structs ++ along structs_of l.state.scopes (drop l.one-index l.all)
      ≡ l.initial.state.structs ++ along structs_of l.initial.state.scopes l.all;
  constants : l.state.constants ++ along constants_of l.state.scopes (drop l.one-index l.all)
      ≡ l.initial.state.constants ++ along constants_of l.initial.state.scopes l.all;
  units : l.state.units ++ along units_of l.state.scopes (drop l.one-index l.all) ≡ l.initial.state.units ++ along units_of l.initial.state.scopes l.all;
}
