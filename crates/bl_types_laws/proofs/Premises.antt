-- What is known of a named program beside what it keeps, and of what is made of it.
use Rattle.std.specs.Prelude.{◌≡◌, ℕ, true, List, length, map, take, slice_get, Some}
use Rattle.std.specs.List.{list_all}
use Rattle.bl_tree.specs.Apart.{is_apart}
use Rattle.bl_tree.specs.declared.tree.Unit.{Unit as UnitDef}
use Rattle.bl_tree.specs.Depths.{is_shallow}
use Rattle.bl_names_tree.specs.declared.item.NamedConstant.{NamedConstant}
use Rattle.bl_names_tree.specs.declared.item.NamedUnit.{NamedUnit}
use Rattle.bl_names_tree.specs.declared.item.NamedVar.{NamedVar}
use Rattle.bl_names_tree.specs.declared.named.Named.{Named}
use Rattle.bl_names_tree.specs.declared.stmt.NamedStmt.{NamedStmt}
use Rattle.bl_names_tree.specs.Placed.{DeclaredBefore, expr_placed, unit_step}
use Rattle.bl_names_laws.specs.Apart.{is_apart as names_apart}
use Rattle.bl_names_laws.specs.Depths.{is_shallow as names_shallow}
use Rattle.bl_types.specs.declared.environment.Environment.{Environment}
use Rattle.bl_types.specs.Statements.{walked_block}
use Rattle.bl_types_laws.specs.Standing.{unit_named}
use Rattle.bl_types_laws.specs.Within.{calls_functions}

-- ---- what naming gives beside places: calls name functions, and statements have what the grammar wants

-- a unit at its place, among any units before it of the kinds of the named ones
abbrev pub UnitsSuit : Named → Type 0
UnitsSuit named = (k : ℕ) (unit : NamedUnit) → slice_get named.units k ≡ Some unit → (before : List UnitDef) →
    map (λ (unit : UnitDef). unit.kind) before ≡ map (λ (unit : NamedUnit). unit.kind) (take k named.units) →
    (counts behind : DeclaredBefore) → counts.units ≡ k → unit_step named.constants unit counts ≡ Some behind →
    unit_named named.constants before unit ≡ true

-- the value of a constant, likewise
abbrev pub ConstantsSuit : Named → Type 0
ConstantsSuit named = (k : ℕ) (constant : NamedConstant) → slice_get named.constants k ≡ Some constant → (before : List UnitDef) (counts : DeclaredBefore) →
    counts.units ≡ length before →
    map (λ (unit : UnitDef). unit.kind) before ≡ map (λ (unit : NamedUnit). unit.kind) (take (length before) named.units) →
    expr_placed counts constant.value ≡ true → calls_functions before constant.value ≡ true

pub record Suits (named : Named) : Type 0 where
  pub units : UnitsSuit named
  pub constants : ConstantsSuit named

-- ---- what is made of blocks keeps their shape

abbrev pub ShallowStays : Type 0
ShallowStays = (constants : List NamedConstant) (vars : List NamedVar) (body : List NamedStmt) (env : Environment) → names_shallow body ≡ true →
    is_shallow 100 (walked_block constants vars body env).made ≡ true

abbrev pub ApartStays : Type 0
ApartStays = (constants : List NamedConstant) (vars : List NamedVar) (body : List NamedStmt) (env : Environment) → list_all names_apart body ≡ true →
    list_all is_apart (walked_block constants vars body env).made ≡ true

pub record Shapes : Type 0 where
  pub shallow : ShallowStays
  pub apart : ApartStays
