-- Functions that take a frame first.
use Rattle.std.specs.Prelude.{List, Option}
use Rattle.bl_tree.specs.declared.text.Text.{Text}
use Rattle.bl_ctext_places.specs.Names.{HasNames}

-- the names of a table are those of some list
pub record HasSomeNames {V : Type 0} (table : Text → Option V) : Type 0 where
  pub names : List Text
  pub has : HasNames table names
