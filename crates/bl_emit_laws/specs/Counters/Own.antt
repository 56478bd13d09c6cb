-- Which function of a C file stands for an activity, and which names its counters.
use Rattle.std.specs.Prelude.{◌≡◌, ℕ, true, List, [], ◌∷◌, filter, Contains, Option, Some, None}
use Rattle.std.specs.Prelude.{bytes_eq, codes, option_and_then, option_map}
use Rattle.bl_tree.specs.declared.text.Text.{Text}
use Rattle.bl_tree.specs.declared.c.CFunc.{CFunc}
use Rattle.bl_tree.specs.declared.c.CMember.{CMember}
use Rattle.bl_tree.specs.declared.c.CStruct.{CStruct}
use Rattle.bl_tree.specs.declared.c.CType.{CType}
use Rattle.bl_tree.specs.declared.c.CType.TheVariants.{Scalar as OfScalar, Struct as OfStruct}
use Rattle.bl_tree.specs.declared.tree.StructDef.{StructDef}
use Rattle.bl_tree.specs.declared.tree.Unit.{Unit as UnitDef}
use Rattle.bl_tree.specs.Typing.{is_activity}
use Rattle.bl_ctree.specs.Instances.{setting_of, unit_at}
use Rattle.bl_ctext_semantics.specs.Faults.{parameters_and_locals, struct_table}
use Rattle.bl_ctext_semantics.specs.Parts.{Parts}
use Rattle.bl_ctext_semantics.specs.Tables.{Table, table_of}
use Rattle.bl_emit_acts.specs.Types.{unit_name}
use Rattle.bl_emit_spec.specs.Names.{frame_name}
use Rattle.bl_ctext_places.specs.Counters.{is_counter_name, names_counter}
use Rattle.bl_ctext_places.specs.Places.{CPath, places_named}

-- ---- one function for each activity

-- the functions of a file that have this name
abbrev pub functions_named : Text → Parts → List CFunc
functions_named name file = filter (λ (function : CFunc). bytes_eq function.name name) file.funcs

-- the structs of a file that have this name
abbrev pub structs_named : Text → Parts → List CStruct
structs_named name file = filter (λ (struct : CStruct). bytes_eq struct.name name) file.structs

-- an activity A has exactly one function `a_A`, and exactly one struct `f_A`, where it rests
pub record HasOneFunctionAndFrame (activity : UnitDef) (file : Parts) : Type 0 where
  pub function : CFunc
  pub functions : functions_named (unit_name activity.name) file ≡ function ∷ []
  pub frame : CStruct
  pub frames : structs_named (frame_name activity.name) file ≡ frame ∷ []

-- each activity that has an instance has exactly one function and one struct of where it rests
abbrev pub EachHasOneFunctionAndFrame : List StructDef → List UnitDef → ℕ → Parts → Type 0
EachHasOneFunctionAndFrame structs units entry file =
    (i : ℕ) (activity : UnitDef) → unit_at (setting_of structs units entry) i ≡ Some activity → HasOneFunctionAndFrame activity file

-- ---- what a function names

-- the function is `a_A` of an activity A, its `f` points to `struct f_A`, and the place is a member `(*f).cN`: a counter of A's own frame
pub record NamesItsOwn (units : List UnitDef) (function : CFunc) (place : CPath) : Type 0 where
  pub activity : UnitDef
  pub is_there : Contains units activity
  pub active : is_activity activity.kind ≡ true
  pub named : function.name ≡ unit_name activity.name
  pub pointer : table_of (parameters_and_locals function) (codes "f") ≡ Some (record { pointer = true; ty = OfStruct (frame_name activity.name) })
  pub counter : Text
  pub is : place ≡ record { through = true; name = codes "f"; members = counter ∷ [] }

-- each place that names a counter names one of the function's own activity
abbrev pub CountersAreOwn : List UnitDef → Parts → Type 0
CountersAreOwn units file =
    (function : CFunc) (place : CPath) → Contains file.funcs function → Contains (places_named function) place → names_counter place ≡ true →
    NamesItsOwn units function place

-- ---- of which struct a counter is, by the types. What follows from the above

-- a member of the struct of a name
pub record MemberOf : Type 0 where
  pub struct : Text
  pub member : Text

-- the type of a member of the struct of this name, where there is such a member
abbrev pub type_of_member : Table (Table CMember) → Text → Text → Option CType
type_of_member structs struct member =
    option_map (λ (found : CMember). found.ty) (option_and_then (λ (members : Table CMember). members member) (structs struct))

-- the members that steps of these names go through, from something of this type, each with its struct
abbrev pub members_through : Table (Table CMember) → Option CType → List Text → List MemberOf
members_through structs ty [] = []
members_through structs None (member ∷ rest) = []
members_through structs (Some (OfScalar s)) (member ∷ rest) = []
members_through structs (Some (OfStruct struct)) (member ∷ rest) =
    record { struct = struct; member = member } ∷ members_through structs (type_of_member structs struct member) rest

-- the members that a place in a function of a file goes through, from its variable or from what that points to
abbrev pub members_at : Parts → CFunc → CPath → List MemberOf
members_at file function place =
    members_through (struct_table file.structs) (option_map (λ variable. variable.ty) (table_of (parameters_and_locals function) place.name)) place.members

-- a place that goes through a counter of a struct `f_A` stands in the function `a_A`
abbrev pub CountersStandInOne : Parts → Type 0
CountersStandInOne file =
    (function : CFunc) (place : CPath) (name counter : Text) → Contains file.funcs function → Contains (places_named function) place →
    is_counter_name counter ≡ true → Contains (members_at file function place) (record { struct = frame_name name; member = counter }) →
    function.name ≡ unit_name name

-- ---- together

-- each activity that has an instance has one function and one struct, and no other function names its counters
pub record FunctionsOwn (structs : List StructDef) (units : List UnitDef) (entry : ℕ) (file : Parts) : Type 0 where
  pub each : EachHasOneFunctionAndFrame structs units entry file
  pub own : CountersAreOwn units file
  pub alone : CountersStandInOne file
