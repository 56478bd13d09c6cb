-- Lists of places, and the names that they begin with.
use Rattle.std.specs.Prelude.{false, List, [], ◌∷◌, map}
use Rattle.bl_tree.specs.declared.text.Text.{Text}
use Rattle.bl_tree.specs.declared.c.CPlace.{CPlace}
use Rattle.bl_tree.specs.declared.c.CStep.{CStep}
use Rattle.bl_ctext_places.specs.Places.{CPath, CPaths, parts_of_step, places_in_place}

-- the first of some paths
abbrev pub first_path : CPaths → CPath
first_path [] = record { through = false; name = []; members = [] }
first_path (path ∷ paths) = path

-- the path of a place
abbrev pub path_of : CPlace → CPath
path_of place = first_path (places_in_place place)

-- the places in the index of a step
abbrev pub inside_step : CStep → CPaths
inside_step step = (parts_of_step step).inside

-- the names with which paths begin
abbrev pub path_names : CPaths → List Text
path_names paths = map (λ (path : CPath). path.name) paths
