-- Places that blocks read, and blocks that do the same but for variables whose names they don't read.
use Rattle.std.specs.Prelude.{◌≡◌, true, List, [], ◌∷◌, ◌++◌, map, Option, Some, None, bytes_eq, is_some}
use Rattle.std.specs.List.{list_any}
use Rattle.bl_tree.specs.declared.text.Text.{Text}
use Rattle.bl_tree.specs.declared.c.CPlace.{CPlace}
use Rattle.bl_tree.specs.declared.c.CStmt.{CStmt, fold-CStmt}
use Rattle.bl_tree.specs.declared.c.CStmtKind.TheOpen.{CStmtKind-F}
use Rattle.bl_tree.specs.Reduce.{joined}
use Rattle.bl_ctext_places.specs.Places.{CPath, CPaths, block_or_none, places_in, places_in_call, places_in_place, places_of_option, stmt_places}
use Rattle.bl_ctext_places.specs.Names.{HasNames}
use Rattle.bl_simplify_laws.specs.Live.{NamesWithin, SameLive, read_by}

-- all paths but the first
abbrev pub rest_paths : CPaths → CPaths
rest_paths [] = []
rest_paths (path ∷ paths) = paths

-- the places in the indices of a place
abbrev pub inside_place : CPlace → CPaths
inside_place place = rest_paths (places_in_place place)

-- the places that a statement's form reads: all but those that it sets
abbrev pub kind_reads : CStmtKind-F CPaths CPaths → CPaths
kind_reads (CStmtKind-F.Set place e) = inside_place place ++ places_in e
kind_reads (CStmtKind-F.Clear place struct) = inside_place place
kind_reads (CStmtKind-F.Call call) = places_in_call call
kind_reads (CStmtKind-F.If condition block other) = places_in condition ++ (joined block ++ block_or_none other)
kind_reads (CStmtKind-F.Loop turn condition body) = places_in condition ++ joined body
kind_reads CStmtKind-F.Break = []
kind_reads (CStmtKind-F.Return e) = places_of_option e

-- the places that a statement reads
abbrev pub reads_of : CStmt → CPaths
reads_of = fold-CStmt CPaths CPaths kind_reads stmt_places

-- the names that the statements of a block read
abbrev pub read_in : List CStmt → List Text
read_in block = joined (map read_by block)

-- two blocks do the same but for variables that have none of some names
pub record SameAside (one other : List CStmt) : Type 0 where
  pub names : List Text
  pub same : SameLive names one other names names

-- a statement that may be absent, as a block
abbrev pub if_there : Option CStmt → List CStmt
if_there None = []
if_there (Some s) = s ∷ []

-- a table has an entry for each of some names
abbrev pub HasAll : (Text → Option (Unit {0})) → List Text → Type 0
HasAll read names = (name : Text) → list_any (λ n. bytes_eq n name) names ≡ true → is_some (read name) ≡ true

-- where a table has some names, and the other block reads no further ones, both do the same but for variables without one of them
pub record LivesAs (read : Text → Option (Unit {0})) (one other : List CStmt) : Type 0 where
  pub same : (names : List Text) → HasNames read names → NamesWithin (read_in other) names → SameLive names one other names names
