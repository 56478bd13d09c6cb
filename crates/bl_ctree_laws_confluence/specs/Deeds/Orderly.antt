-- What an accepted program keeps, unit by unit, so that steps of different branches are done in either order.
use Rattle.std.specs.Prelude.{◌≡◌, ℕ, false, true, List, [], map, Contains, slice_get, Some}
use Rattle.std.specs.List.{list_all}
use Rattle.bl_tree.specs.declared.tree.Stmt.{Stmt}
use Rattle.bl_tree.specs.declared.tree.StructDef.{StructDef}
use Rattle.bl_tree.specs.declared.tree.Unit.{Unit as UnitDef}
use Rattle.bl_tree.specs.declared.tree.Var.{Var}
use Rattle.bl_tree.specs.Apart.{is_apart}
use Rattle.bl_tree.specs.Instant.{is_instant_block}
use Rattle.bl_tree.specs.Program.{IsWellTyped, roles_stand}
use Rattle.bl_tree.specs.Reduce.{all_of, joined}
use Rattle.bl_tree.specs.Returns.{activity_returns}
use Rattle.bl_tree.specs.Static.{overlaps}
use Rattle.bl_tree.specs.Typing.{fits, is_activity, site_of}
use Rattle.bl_tree.specs.Within.{RunsIn, StandsIn, place_of}
use Rattle.bl_effects.specs.declared.marked.Marked.{Marked}
use Rattle.bl_effects.specs.Rules.{Passes, Split, aliases_in, splits_of}
use Rattle.bl_ctree.specs.Instances.{Setting, setting_of, unit_at}
use Rattle.bl_ctree_laws.specs.Fitted.{Fitted}
use Rattle.bl_ctree_laws.specs.Shrinks.{Paces}
use Rattle.bl_ctree_laws_confluence.specs.Deeds.Homes.{OutputsAreApart}

-- what holds of a unit that has an instance
pub record OrderlyUnit (structs : List StructDef) (units : List UnitDef) (unit : UnitDef) : Type 0 where
  -- the unit is one of the program
  pub is_there : Contains units unit
  -- the unit is an activity, whose inputs stand first, then its outputs, then what its body declares
  pub activity : is_activity unit.kind ≡ true
  pub roles : roles_stand unit ≡ true
  -- the unit's statements are typed among the units before it
  pub earlier : List UnitDef
  pub typed : all_of (map (fits (site_of structs earlier unit)) unit.body) ≡ true
  -- the unit's body can't end in the tick in which it begins
  pub pauses : is_instant_block unit.body ≡ false
  -- acts of two branches of one `cobegin` write static paths that don't overlap, a `run` its outputs and its target
  pub conflicts : (split : Split) (first second : Marked) (var : Var) → Contains (splits_of unit) split → Contains split.earlier first →
      Contains split.writes second → slice_get unit.vars second.path.root ≡ Some var → overlaps first.path second.path ≡ false
  -- no output of a call or `run` overlaps another one, an aggregate input or the target
  pub aliases : joined (map aliases_in unit.body) ≡ []
  -- variables declared in a branch are named in no other branch, `prev` included
  pub apart : list_all is_apart unit.body ≡ true
  -- a `return` is the last statement of the body, so none stands in a branch
  pub returns : activity_returns unit ≡ true
  -- `run` statements of one place don't stand in two branches of one `cobegin`
  pub runs : (outer s t : Stmt) (j k : ℕ) → StandsIn unit.body outer → RunsIn outer j s → RunsIn outer k t → place_of s ≡ place_of t → j ≡ k

-- what holds of a program's instances
pub record Orderly (structs : List StructDef) (units : List UnitDef) (w : Setting) : Type 0 where
  -- each instance is of an orderly unit
  pub each : (i : ℕ) (unit : UnitDef) → unit_at w i ≡ Some unit → OrderlyUnit structs units unit
  -- no body ends in the tick in which it begins
  pub paces : Paces w
  -- the bodies are typed
  pub fitted : Fitted w
  -- no two outputs of a call overlap
  pub outputs : OutputsAreApart w

-- a typed program that passes the rules on pauses, writes and outputs is orderly
abbrev pub AcceptedIsOrderly : Type 0
AcceptedIsOrderly =
    (structs : List StructDef) (units : List UnitDef) (entry : ℕ) → IsWellTyped structs units entry → Passes units →
    Orderly structs units (setting_of structs units entry)
