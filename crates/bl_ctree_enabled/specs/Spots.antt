-- Points, and what other branches may still write of what they read.
use Rattle.std.specs.Prelude.{ℕ, zero, suc, ◌+◌, Bool, not, ◌&&◌, List, [], ◌∷◌, ◌++◌, map, take, drop}
use Rattle.std.specs.List.{list_any}
use Rattle.bl_tree.specs.declared.place.Place.{Place}
use Rattle.bl_ctree.specs.Actions.{Effect, Asks, reads_of}
use Rattle.bl_ctree.specs.Control.{Control}
use Rattle.bl_ctree.specs.Instances.{Setting}
use Rattle.bl_ctree.specs.Nodes.{Seen}
use Rattle.bl_ctree.specs.Points.{Point}
use Rattle.bl_ctree.specs.Store.{Location, homes, overlap}
use Rattle.bl_ctree_pending.specs.Writes.{write_paths}
use Rattle.bl_ctree_store.specs.Deeds.{effect_of}
use Rattle.bl_ctree_store.specs.Seen.{location_of}
use Rattle.bl_ctree_enabled.specs.declared.point.Effect.{Effect as EffectNode}
use Rattle.bl_ctree_enabled.specs.declared.point.Effect.TheVariants.{Asks as IsAsked, Does as IsDone}
use Rattle.bl_ctree_enabled.specs.declared.point.Point.{Point as PointNode}

-- ---- points

-- the view of a point: its statement's place, instance, effect, the homes that it reads, and the path of branches to it
pub record Spot : Type 0 where
  pub place : Place
  pub instance : ℕ
  pub effect : Effect
  pub reads : List Location
  pub path : List ℕ

-- the effect of an action of the code
abbrev pub effect_in : EffectNode → Effect
effect_in (IsAsked e) = Asks e.now
effect_in (IsDone deed) = effect_of deed

-- what a point of the code tells
abbrev pub spot_of : PointNode → Spot
spot_of p = record { place = p.place; instance = p.instance; effect = effect_in p.effect; reads = map location_of p.reads; path = p.path }

-- the view of a point in a part of a tree to which this path of branches leads
abbrev pub spot_below : {A : Type 0} → Setting → List ℕ → Point A → Spot
spot_below w path p = record {
  place = p.action.place;
  instance = p.action.instance;
  effect = p.action.effect;
  reads = reads_of w p.action;
  path = path ++ p.path;
}

-- ---- branches

-- what a branch may still write
abbrev pub homes_seen : Setting → ℕ → Seen → List Location
homes_seen w i b = homes w i (write_paths b.tree)

-- whether one of the lists of homes overlaps the home
abbrev pub meets_one : List (List Location) → Location → Bool
meets_one others at = list_any (λ homes. list_any (overlap at) homes) others

-- whether a location that is read overlaps a home in one of the lists
abbrev pub taken : List (List Location) → List Location → Bool
taken others reads = list_any (meets_one others) reads

-- whether the point of the branch with number k reads nothing that the other branches may still write
abbrev pub is_free_of : List (List Location) → ℕ → Spot → Bool
is_free_of all k spot = not (taken (take k all) spot.reads) && not (taken (drop (k + 1) all) spot.reads)

-- the branches of which the one with number k becomes another tree
abbrev pub moved : List Seen → ℕ → (Control → Control) → List Seen
moved [] k f = []
moved (b ∷ rest) zero f = record { weak = b.weak; tree = f b.tree } ∷ rest
moved (b ∷ rest) (suc k) f = b ∷ moved rest k f
