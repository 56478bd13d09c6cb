-- What the store of the code shows.
use Rattle.std.specs.Prelude.{ℕ, List, [], ◌∷◌, map, length, Option, option_and_then, option_map, slice_get, unwrap_or}
use Rattle.bl_tree.specs.declared.place.Place.{Place}
use Rattle.bl_tree.specs.declared.tree.Unit.{Unit as UnitDef}
use Rattle.bl_tree.specs.declared.value.Value.{Value}
use Rattle.bl_ctree.specs.Instances.{Setting, callee_of, unit_at}
use Rattle.bl_eval.specs.Meaning.{View}
use Rattle.bl_eval.specs.Standing.{view_of}
use Rattle.bl_ctree.specs.Store.{Frame, Location, Store, put}
use Rattle.bl_ctree_store.specs.declared.callee.Callee.{Callee}
use Rattle.bl_ctree_store.specs.declared.frame.Frame.{Frame as FrameNode}
use Rattle.bl_ctree_store.specs.declared.frame.Moment.{Moment}
use Rattle.bl_ctree_store.specs.declared.frame.Moment.TheVariants.{Now, Before}
use Rattle.bl_ctree_store.specs.declared.home.Home.{Home}
use Rattle.bl_ctree_store.specs.declared.setting.Setting.{Setting as SettingNode}
use Rattle.bl_ctree_store.specs.declared.view.InstanceView.{InstanceView as ViewNode}
use Rattle.bl_ctree_store.specs.declared.writing.Put.{Put}

-- the program with its instances
abbrev pub setting_in : SettingNode → Setting
setting_in w = record { structs = w.program.now.structs; units = w.program.now.units; instances = w.instances }

-- a home, as a location
abbrev pub location_of : Home → Location
location_of h = record { instance = h.instance; path = record { root = h.root; fields = h.fields } }

-- the values of one instance
abbrev pub frame_of : FrameNode → Frame
frame_of frame = record { now = frame.now.items; before = frame.before.items; result = frame.result }

-- the store of a list of frames, one for each instance
abbrev pub store_of : List FrameNode → Store
store_of frames = map frame_of frames

-- the values of a frame at a moment
abbrev pub side : Moment → Frame → List Value
side Now frame = frame.now
side Before frame = frame.before

-- ---- what `run` statements begin

-- an instance with its unit
pub record UnitInstance : Type 0 where
  pub instance : ℕ
  pub unit : UnitDef

-- the instance that a `run` statement begins, with its unit
abbrev pub called : Callee → UnitInstance
called c = record { instance = c.instance; unit = c.unit.now }

-- the instance that the `run` statement at the place begins, with its unit
abbrev pub called_at : Setting → ℕ → Place → Option UnitInstance
called_at w caller place = option_and_then (λ callee. option_map (λ unit. record { instance = callee; unit = unit })
    (unit_at w callee)) (callee_of w caller place)

-- ---- what the statements of an instance see

-- how many variables the unit has
abbrev pub count_of : Setting → ℕ → ℕ
count_of w unit = unwrap_or (option_map (λ unit. length unit.vars) (slice_get w.units unit)) 0

-- the unit of an instance, and the values of its variables
pub record Sight : Type 0 where
  pub unit : ℕ
  pub view : View

-- what a view shows of an instance
abbrev pub seen_by : ViewNode → Sight
seen_by v = record { unit = v.now.unit; view = view_of v.now v.before }

-- the values now in a view
abbrev pub values_in : ViewNode → List Value
values_in v = v.now.list

-- ---- what an act writes

-- the store with one value at its home
abbrev pub put_one : Put → Store → Store
put_one p store = put (location_of p.at) p.value store

-- the store with each value at its home, one after another
abbrev pub put_all : List Put → Store → Store
put_all [] store = store
put_all (p ∷ rest) store = put_all rest (put_one p store)
