-- The first statement of a program stands in it.
use Rattle.std.proofs.Common.{◌≡◌, List, Contains, slice_get, Some, sym, subst}
use Rattle.std.proofs.lemmas.List.Elements.{Contains-get_or}
use Rattle.std.proofs.lemmas.Option.{get_or_from_slice_get, slice_get_within}
use Rattle.bl_tree.specs.declared.tree.Stmt.{Stmt}
use Rattle.bl_tree.specs.declared.tree.Unit.{Unit as UnitDef}
use Rattle.bl_tree.specs.Within.{StandsInUnits, itself}

is_there : {X : Type 0} (xs : List X) (x : X) → Some x ≡ slice_get xs 0 → Contains xs x
is_there xs x is =
    subst (Contains xs) (get_or_from_slice_get xs 0 x x (sym is)) (Contains-get_or xs 0 x (slice_get_within xs 0 x (sym is)))

pub first_stands : (units : List UnitDef) (unit : UnitDef) (s : Stmt) → Some unit ≡ slice_get units 0 → Some s ≡ slice_get unit.body 0
    → StandsInUnits units s
first_stands units unit s unit_is is = record {
  unit = unit;
  is_there = is_there units unit unit_is;
  stands = record { outer = s; is_there = is_there unit.body s is; within = itself };
}
