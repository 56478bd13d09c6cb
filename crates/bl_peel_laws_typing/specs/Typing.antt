-- What a typed program keeps where the bodies of activities are peeled.
use Rattle.std.specs.Prelude.{◌≡◌, ℕ, ◌*◌, Bool, true, false, List, [], IsTrue}
use Rattle.std.specs.List.{list_all}
use Rattle.bl_tree.specs.declared.tree.Stmt.{Stmt}
use Rattle.bl_tree.specs.declared.tree.StructDef.{StructDef}
use Rattle.bl_tree.specs.declared.tree.Unit.{Unit as UnitDef}
use Rattle.bl_tree.specs.Apart.{is_apart}
use Rattle.bl_tree.specs.Depths.{is_shallow}
use Rattle.bl_tree.specs.Program.{IsWellTyped, units_stand_after}
use Rattle.bl_tree.specs.Returns.{unit_returns}
use Rattle.bl_tree.specs.Typing.{TypingContext, fits, is_function, site_of}
use Rattle.bl_tree.specs.Within.{PlacesDecide, RunsDecide}
use Rattle.bl_peel.specs.Peeled.{peeled}
use Rattle.bl_peel.specs.Units.{UnitsPeel}

-- ---- bodies

-- the statements of a peeled body fit at a site exactly where those of the body do
abbrev pub PeeledFits : Type 0
PeeledFits = (site : TypingContext) (body : List Stmt) → list_all (fits site) (peeled body) ≡ list_all (fits site) body

-- a statement fits beside earlier units exactly where it does beside those with activities peeled
abbrev pub FitsAsksNoBodies : Type 0
FitsAsksNoBodies =
    (structs : List StructDef) (earlier peeled_units : List UnitDef) (unit : UnitDef) (s : Stmt) → UnitsPeel earlier peeled_units →
    fits (site_of structs peeled_units unit) s ≡ fits (site_of structs earlier unit) s

-- the `return`s of an activity stand as its kind wants them exactly where those of the peeled activity do
abbrev pub PeeledReturns : Type 0
PeeledReturns = (unit : UnitDef) → is_function unit.kind ≡ false → unit_returns (record unit { body = peeled unit.body }) ≡ unit_returns unit

-- the blocks of a peeled body nest at most twice as deep as those of the body may, and its expressions no deeper
abbrev pub PeeledIsShallow : Type 0
PeeledIsShallow = (most : ℕ) (body : List Stmt) → is_shallow most body ≡ true → is_shallow (2 * most) (peeled body) ≡ true

-- branches keep apart in a peeled body where they do in the body
abbrev pub PeeledIsApart : Type 0
PeeledIsApart = (body : List Stmt) → list_all is_apart body ≡ true → list_all is_apart (peeled body) ≡ true

-- ---- programs

-- whether the blocks of each unit nest at most so deep
abbrev pub bodies_are_shallow : ℕ → List UnitDef → Bool
bodies_are_shallow most units = list_all (λ unit. is_shallow most unit.body) units

-- units that stand, with blocks that nest at most 100 deep, stand with activities peeled
abbrev pub PeeledUnitsStand : Type 0
PeeledUnitsStand =
    (structs : List StructDef) (units peeled_units : List UnitDef) → UnitsPeel units peeled_units → bodies_are_shallow 100 units ≡ true →
    IsTrue (units_stand_after structs [] units) → IsTrue (units_stand_after structs [] peeled_units)

-- a well-typed program, with blocks at most 100 deep, is well-typed with activities peeled if places and `run`s still decide
abbrev pub PeeledKeepsTyping : Type 0
PeeledKeepsTyping =
    (structs : List StructDef) (units peeled_units : List UnitDef) (entry : ℕ) → IsWellTyped structs units entry → bodies_are_shallow 100 units ≡ true →
    UnitsPeel units peeled_units → PlacesDecide peeled_units → RunsDecide peeled_units → IsWellTyped structs peeled_units entry
