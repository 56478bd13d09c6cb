-- What later files know of the items of a file: headings, and the positions of constants among all that were declared.
use Rattle.std.specs.Prelude.{◌≡◌, ℕ, ◌+◌, ◌-◌, Bool, true, false, List, [], ◌∷◌, ◌++◌, count_by, get_or, length, map}
use Rattle.bl_names_scopes.specs.declared.heading.Heading.{Heading}
use Rattle.bl_names_scopes.specs.declared.kind.Kind.{Kind}
use Rattle.bl_names_scopes.specs.declared.kind.Kind.TheVariants as kind
use Rattle.bl_names_scopes.specs.Marks.{Mark, Marks, declares, item_marks, kind_of_unit, marks_of}
use Rattle.bl_parse_tree.specs.declared.item.RawItem.{RawItem}
use Rattle.bl_parse_tree.specs.declared.item.RawItem.TheVariants as item

-- ---- headings

-- the heading of an item: its name, as the kind of thing that it is
abbrev pub item_heading : RawItem → Heading
item_heading (item.Struct def) = record { name = def.name; kind = kind.Struct }
item_heading (item.Constant constant) = record { name = constant.name; kind = kind.Constant }
item_heading (item.Unit def) = record { name = def.name; kind = kind_of_unit def.kind }

-- the headings of items, in order
abbrev pub headings_of : List RawItem → List Heading
headings_of items = map item_heading items

-- the text of the name that a heading declares, and its kind
abbrev pub name_and_kind : Heading → List ℕ × Kind
name_and_kind heading = (heading.name.text, heading.kind)

-- headings declare the names of items, in order, each as the kind of thing that its item is
abbrev pub DeclareItems : List Heading → List RawItem → Type 0
DeclareItems headings items = map name_and_kind headings ≡ map name_and_kind (headings_of items)

-- ---- constants

-- whether a mark declares a constant
abbrev pub declares_constant : Mark → Bool
declares_constant (declares name kind.Constant) = true
declares_constant _ = false

-- the number of constants that marks declare
abbrev pub declared_constants : Marks → ℕ
declared_constants marks = count_by declares_constant marks

-- the position of an item, if it is a constant and so many constants are declared before it
abbrev pub own_position : ℕ → RawItem → List ℕ
own_position before (item.Struct def) = []
own_position before (item.Constant constant) = before ∷ []
own_position before (item.Unit def) = []

-- the positions of constants outside of bodies among all constants that items declare, those in bodies included, behind so many others
abbrev pub global_positions : ℕ → List RawItem → List ℕ
global_positions before [] = []
global_positions before (one ∷ items) = own_position before one ++ global_positions (before + declared_constants (item_marks one)) items

-- the position of the k-th constant outside of bodies. If there are fewer, it is a position behind all constants that items declare
abbrev pub renumber_behind : ℕ → List RawItem → ℕ → ℕ
renumber_behind before items k =
    get_or (global_positions before items) k
    (before + declared_constants (marks_of items) + (k - length (global_positions before items)))

-- from a position among the constants outside of bodies to the position among all constants that items declare
abbrev pub renumber : List RawItem → ℕ → ℕ
renumber items = renumber_behind 0 items
