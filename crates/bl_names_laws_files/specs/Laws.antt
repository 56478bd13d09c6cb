-- How the items of several files are named: behind all items before them, and behind the headings of these alone.
use Rattle.std.specs.Prelude.{◌≡◌, ℕ, ◌+◌, ◌<◌, List, ◌++◌, map, length, Some, ◌↔◌, ◌⊎◌}
use Rattle.bl_tree.specs.declared.place.Place.{Place}
use Rattle.bl_tree.specs.declared.rule.Rule.{Rule}
use Rattle.bl_joined.specs.Trees.{placed_item}
use Rattle.bl_names.specs.Named.{along, blank_constant, blank_struct, blank_unit, blanks, constants_of, structs_of, units_of}
use Rattle.bl_names.specs.Order.{order_of}
use Rattle.bl_names_laws_places.specs.Renamed.{Renaming, renamed_constant, renamed_struct, renamed_unit}
use Rattle.bl_names_scopes.specs.declared.heading.Heading.{Heading}
use Rattle.bl_names_scopes.specs.Marks.{Marks, marks_of}
use Rattle.bl_names_scopes.specs.Rules.{FailsBehind, PassesBehind}
use Rattle.bl_names_scopes.specs.Scopes.{Scopes, after, file_scope, opened_by}
use Rattle.bl_names_scopes_laws_places.specs.Agree.{ScopesAgree}
use Rattle.bl_names_tree.specs.declared.named.Named.{Named}
use Rattle.bl_names_tree.specs.Placed.{DeclaredBefore, in_turn, item_step}
use Rattle.bl_parse_tree.specs.declared.item.RawItem.{RawItem}
use Rattle.bl_names_laws_files.specs.Globals.{DeclareItems, declared_constants, global_positions, renumber, renumber_behind}

-- ---- marks one after another

-- items one after another have the marks of the first and then those of the others
abbrev pub MarksInTurn : Type 0
MarksInTurn = (first second : List RawItem) → marks_of (first ++ second) ≡ marks_of first ++ marks_of second

-- the scopes after marks and then others are those that the others leave behind what the first leave
abbrev pub ScopesInTurn : Type 0
ScopesInTurn = (scopes : Scopes) (first second : Marks) → after scopes (first ++ second) ≡ after (after scopes first) second

-- a rule fails at marks one after another iff it fails at the first, or at the second where the scopes are open that the first leave
abbrev pub FailuresInTurn : Type 0
FailuresInTurn = (start : Scopes) (first second : Marks) (rule : Rule) (at : Place) (also : List Place) →
    FailsBehind start (first ++ second) rule at also
    ↔ (FailsBehind start first rule at also ⊎ FailsBehind (after start first) second rule at also)

-- marks one after another pass iff the first do, and the second where the scopes are open that the first leave
abbrev pub PassingInTurn : Type 0
PassingInTurn = (start : Scopes) (first second : Marks) →
    PassesBehind start (first ++ second) ↔ (PassesBehind start first × PassesBehind (after start first) second)

-- ---- items one after another

-- items one after another give what the first give, and then what the others give in the scopes that the first leave
pub record GivenByBoth (scopes : Scopes) (first second : List RawItem) : Type 0 where
  pub structs :
      along structs_of scopes (first ++ second)
      ≡ along structs_of scopes first ++ along structs_of (after scopes (marks_of first)) second
  pub constants :
      along constants_of scopes (first ++ second)
      ≡ along constants_of scopes first ++ along constants_of (after scopes (marks_of first)) second
  pub units :
      along units_of scopes (first ++ second)
      ≡ along units_of scopes first ++ along units_of (after scopes (marks_of first)) second
  pub order : order_of (first ++ second) ≡ order_of first ++ order_of second

-- items one after another are named part by part
abbrev pub GivenInTurn : Type 0
GivenInTurn = (scopes : Scopes) (first second : List RawItem) → GivenByBoth scopes first second

-- behind items the scopes count what these give in addition, and no variable if there was none. The scopes around them are the same
pub record CountedBehind (scopes : Scopes) (items : List RawItem) : Type 0 where
  pub structs : (after scopes (marks_of items)).counts.structs ≡ scopes.counts.structs + length (along structs_of scopes items)
  pub constants : (after scopes (marks_of items)).counts.constants ≡ scopes.counts.constants + length (along constants_of scopes items)
  pub units : (after scopes (marks_of items)).counts.units ≡ scopes.counts.units + length (along units_of scopes items)
  pub variables : scopes.counts.variables ≡ 0 → (after scopes (marks_of items)).counts.variables ≡ 0
  pub declared : length (along constants_of scopes items) ≡ declared_constants (marks_of items)
  pub outer : (after scopes (marks_of items)).outer ≡ scopes.outer

-- the scopes behind items count what the items give
abbrev pub ItemsAreCounted : Type 0
ItemsAreCounted = (scopes : Scopes) (items : List RawItem) → CountedBehind scopes items

-- ---- headings

-- the scope that headings open has as many structs, constants and units as there are blank items for the headings
pub record BlanksCounted (headings : List Heading) : Type 0 where
  pub structs : length (blanks blank_struct headings) ≡ (opened_by headings).counts.structs
  pub constants : length (blanks blank_constant headings) ≡ (opened_by headings).counts.constants
  pub units : length (blanks blank_unit headings) ≡ (opened_by headings).counts.units

-- blank items are as many as the headings of their kind
abbrev pub BlanksAreCounted : Type 0
BlanksAreCounted = (headings : List Heading) → BlanksCounted headings

-- headings of some items and then of others declare both, one after another
abbrev pub DeclaredInTurn : Type 0
DeclaredInTurn = (one two : List Heading) (first second : List RawItem) → DeclareItems one first → DeclareItems two second →
    DeclareItems (one ++ two) (first ++ second)

-- headings of items declare the items with mapped places too
abbrev pub DeclaredPlaced : Type 0
DeclaredPlaced = (f : Place → Place) (headings : List Heading) (items : List RawItem) → DeclareItems headings items →
    DeclareItems headings (map (placed_item f) items)

-- behind headings that declare the names of items the scope corresponds to that behind the items
abbrev pub HeadingsOpen : Type 0
HeadingsOpen = (items : List RawItem) (headings : List Heading) → DeclareItems headings items →
    ScopesAgree (renumber items) (opened_by headings) (after file_scope (marks_of items))

-- ---- positions of constants

-- the positions of constants in items one after another are those in the first, and those in the others behind what the first declare
abbrev pub GlobalsInTurn : Type 0
GlobalsInTurn = (before : ℕ) (first second : List RawItem) →
    global_positions before (first ++ second)
    ≡ global_positions before first ++ global_positions (before + declared_constants (marks_of first)) second

-- constants of items one after another are renumbered as in the first, and behind as many as the first have as in the second
pub record RenumberedInTurn (before : ℕ) (first second : List RawItem) : Type 0 where
  pub earlier : (k : ℕ) → k < length (global_positions before first) → renumber_behind before (first ++ second) k ≡ renumber_behind before first k
  pub later : (k : ℕ) →
      renumber_behind before (first ++ second) (length (global_positions before first) + k)
      ≡ renumber_behind (before + declared_constants (marks_of first)) second k

-- constants of items one after another are renumbered part by part
abbrev pub RenumberInTurn : Type 0
RenumberInTurn = (before : ℕ) (first second : List RawItem) → RenumberedInTurn before first second

-- the positions of constants in items don't depend on places
abbrev pub GlobalsPlaced : Type 0
GlobalsPlaced = (f : Place → Place) (before : ℕ) (items : List RawItem) →
    global_positions before (map (placed_item f) items) ≡ global_positions before items

-- behind more constants all positions are greater by their number
abbrev pub GlobalsMove : Type 0
GlobalsMove = (more before : ℕ) (items : List RawItem) →
    global_positions (more + before) items ≡ map (λ k. more + k) (global_positions before items)

-- the scope that headings open has as many constants as their items have outside of bodies
abbrev pub GlobalsAreCounted : Type 0
GlobalsAreCounted = (before : ℕ) (items : List RawItem) (headings : List Heading) → DeclareItems headings items →
    (opened_by headings).counts.constants ≡ length (global_positions before items)

-- ---- one file among several

-- the named items of a file with mapped places, between items before and behind it, are those that it has behind a start, renamed
pub record NamedAmong (by : Renaming) (near : Scopes) (before own behind : List RawItem) : Type 0 where
  pub structs :
      along structs_of file_scope (before ++ (map (placed_item by.place) own ++ behind))
      ≡ along structs_of file_scope before
      ++ (map (renamed_struct by) (along structs_of near own)
      ++ along structs_of (after file_scope (marks_of (before ++ map (placed_item by.place) own))) behind)
  pub constants :
      along constants_of file_scope (before ++ (map (placed_item by.place) own ++ behind))
      ≡ along constants_of file_scope before
      ++ (map (renamed_constant by) (along constants_of near own)
      ++ along constants_of (after file_scope (marks_of (before ++ map (placed_item by.place) own))) behind)
  pub units :
      along units_of file_scope (before ++ (map (placed_item by.place) own ++ behind))
      ≡ along units_of file_scope before
      ++ (map (renamed_unit by) (along units_of near own)
      ++ along units_of (after file_scope (marks_of (before ++ map (placed_item by.place) own))) behind)
  pub order : order_of (before ++ (map (placed_item by.place) own ++ behind)) ≡ order_of before ++ (order_of own ++ order_of behind)

-- if the start of a file corresponds to the scopes behind the items before it, and its names pass, its items are named alike
abbrev pub FileNamed : Type 0
FileNamed = (by : Renaming) (near : Scopes) (before own behind : List RawItem) → ScopesAgree by.constant near (after file_scope (marks_of before)) →
    PassesBehind near (marks_of own) → NamedAmong by near before own behind

-- ---- positions behind headings

-- a part of a list begins at a position
pub record StandsFrom {A : Type 0} (xs : List A) (at : ℕ) (part : List A) : Type 0 where
  pub before : List A
  pub rest : List A
  pub there : xs ≡ before ++ (part ++ rest)
  pub is_at : length before ≡ at

-- what items give stands in a program from the next positions on
pub record ItemsStand (named : Named) (scopes : Scopes) (items : List RawItem) : Type 0 where
  pub structs : StandsFrom named.structs scopes.counts.structs (along structs_of scopes items)
  pub constants : StandsFrom named.constants scopes.counts.constants (along constants_of scopes items)
  pub units : StandsFrom named.units scopes.counts.units (along units_of scopes items)

-- the numbers of structs, constants and units that were declared, between items
abbrev pub declared_globals : Scopes → DeclaredBefore
declared_globals scopes = record {
  structs = scopes.counts.structs;
  constants = scopes.counts.constants;
  units = scopes.counts.units;
  variables = 0;
}

-- the numbers of what was declared, and then of what items give
abbrev pub declared_globals_with : Scopes → List RawItem → DeclaredBefore
declared_globals_with scopes items = record {
  structs = scopes.counts.structs + length (along structs_of scopes items);
  constants = scopes.counts.constants + length (along constants_of scopes items);
  units = scopes.counts.units + length (along units_of scopes items);
  variables = 0;
}

-- behind headings and earlier items, the positions in items are those of what is declared before them
abbrev pub ItemsArePlaced : Type 0
ItemsArePlaced = (headings : List Heading) (known before items : List RawItem) (named : Named) → DeclareItems headings known →
    PassesBehind (opened_by headings) (marks_of (before ++ items)) →
    ItemsStand named (after (opened_by headings) (marks_of before)) items →
    in_turn (map (item_step named) (order_of items)) (declared_globals (after (opened_by headings) (marks_of before)))
    ≡ Some (declared_globals_with (after (opened_by headings) (marks_of before)) items)
