-- Runs of two programs, where the second has first turns of the first one's loops unrolled.
use Rattle.std.specs.Prelude.{ℕ, ℤ, List, ◌≡◌}
use Rattle.bl_tree.specs.declared.tree.StructDef.{StructDef}
use Rattle.bl_tree.specs.declared.tree.Unit.{Unit as UnitDef}
use Rattle.bl_ctree.specs.Instances.{Setting, setting_of}
use Rattle.bl_ctree.specs.Means.{Means, ShownTrace}
use Rattle.bl_ctree.specs.Reaches.{NeverStuck}
use Rattle.bl_ctree.specs.Store.{Store, first_store, outputs_row}
use Rattle.bl_ctree_laws.specs.Fitted.{Fitted}
use Rattle.bl_ctree_laws_peeled.specs.Settings.{SameProgram}
use Rattle.bl_ctree_laws_peeled.specs.Unrolls.{AnyHead}

-- two programs whose runs begin with one store and show one row for each store; the bodies of both are typed
pub record SameRuns (w w' : Setting) : Type 0 where
  pub program : SameProgram AnyHead w w'
  pub first : first_store w ≡ first_store w'
  pub rows : (store : Store) → outputs_row w store ≡ outputs_row w' store
  pub source_typed : Fitted w
  pub typed : Fitted w'

-- what a program may show it may show with first turns unrolled
abbrev pub UnrolledMeans : Type 0
UnrolledMeans =
    (structs : List StructDef) (units others : List UnitDef) (entry : ℕ) (rows : List (List ℤ)) (shows : ShownTrace) →
    SameRuns (setting_of structs units entry) (setting_of structs others entry) → Means structs units entry rows shows →
    Means structs others entry rows shows

-- a program that is never stuck with first turns unrolled is never stuck
abbrev pub UnrolledIsNeverStuck : Type 0
UnrolledIsNeverStuck =
    (structs : List StructDef) (units others : List UnitDef) (entry : ℕ) → SameRuns (setting_of structs units entry) (setting_of structs others entry) →
    NeverStuck structs others entry → NeverStuck structs units entry
