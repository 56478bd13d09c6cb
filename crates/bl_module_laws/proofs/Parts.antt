-- The laws of which these are put together, as one record.
use Rattle.bl_cause_trees.specs.Laws.{PeeledAreThere}
use Rattle.bl_cause_trees_laws_places.specs.Laws.{PassingStays as GraphsStay}
use Rattle.bl_effects_laws_places.specs.Laws.{PassingStays as UnitsStay}
use Rattle.bl_limits_laws_places.specs.Laws.{NestingStays}
use Rattle.bl_names_laws_files.specs.Laws.{BlanksAreCounted, DeclaredInTurn, DeclaredPlaced, FileNamed, GivenInTurn, GlobalsAreCounted, GlobalsMove}
use Rattle.bl_names_laws_files.specs.Laws.{GlobalsPlaced, HeadingsOpen, ItemsAreCounted, ItemsArePlaced, MarksInTurn, PassingInTurn, RenumberInTurn}
use Rattle.bl_names_laws_files.specs.Laws.{ScopesInTurn}
use Rattle.bl_names_scopes_laws_places.specs.Laws.{MarksMove, PassingAgrees}
use Rattle.bl_types_laws_places_units.specs.Laws.{ItemsAgree, ItemsAreKnown, ItemsFollow}

-- the laws of names
pub record NameLaws : Type 0 where
  pub marks_move : MarksMove
  pub passing_agrees : PassingAgrees
  pub marks_in_turn : MarksInTurn
  pub scopes_in_turn : ScopesInTurn
  pub passing_in_turn : PassingInTurn
  pub given : GivenInTurn
  pub counted : ItemsAreCounted
  pub headings_open : HeadingsOpen
  pub declared : DeclaredInTurn
  pub declared_placed : DeclaredPlaced
  pub blanks : BlanksAreCounted
  pub placed : ItemsArePlaced
  pub file_named : FileNamed
  pub renumber : RenumberInTurn
  pub globals_move : GlobalsMove
  pub globals_placed : GlobalsPlaced
  pub globals_counted : GlobalsAreCounted

-- the laws of types
pub record TypeLaws : Type 0 where
  pub follow : ItemsFollow
  pub known : ItemsAreKnown
  pub agree : ItemsAgree

-- the laws of units
pub record UnitLaws : Type 0 where
  pub units : UnitsStay
  pub graphs : GraphsStay
  pub nesting : NestingStays
  pub peeled : PeeledAreThere
