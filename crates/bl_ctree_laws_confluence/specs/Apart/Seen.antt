-- What a tree may still write covers what its deeds do write, but for what lies in its calls.
use Rattle.std.specs.Prelude.{◌≡◌, ◌⊎◌, ℕ, Bool, true, List, map, Some, slice_get, ⊤}
use Rattle.std.specs.List.{list_any}
use Rattle.bl_tree.specs.declared.place.Place.{Place}
use Rattle.bl_tree.specs.declared.static_path.Static.{Static}
use Rattle.bl_tree.specs.declared.tree.StructDef.{StructDef}
use Rattle.bl_tree.specs.declared.tree.Unit.{Unit as UnitDef}
use Rattle.bl_tree.specs.Static.{static_of}
use Rattle.bl_graph_nodes.specs.Steps.{StepLabel}
use Rattle.bl_ctree.specs.declared.instance.Instance.{Instance}
use Rattle.bl_ctree.specs.declared.instance.Origin.{Origin}
use Rattle.bl_ctree.specs.Instances.{Setting, callee_of, setting_of}
use Rattle.bl_ctree.specs.Store.{Location, overlap}
use Rattle.bl_ctree_laws.specs.Pending.{Deed, may_write}
use Rattle.bl_ctree_laws.specs.Steps.{Anyway, Moves}
use Rattle.bl_ctree_laws.specs.Trees.{Tree, Trees, Nil, Wait, Test, Idle, Do, Seq, Par, Guard, Run, no_tree, beside}
use Rattle.bl_ctree_laws_confluence.specs.Deeds.Deeds.{effect_writes}
use Rattle.bl_ctree_laws_confluence.specs.Deeds.Nesting.{Inside}

-- each test that an output with which the callee was begun passes is passed by an output in the list
abbrev pub HasOutputs : Setting → ℕ → List Static → Type 0
HasOutputs w callee outputs =
    (instance : Instance) (origin : Origin) (test : Static → Bool) → slice_get w.instances callee ≡ Some instance → instance.origin ≡ Some origin →
    list_any test origin.outputs ≡ true → list_any test outputs ≡ true

abbrev mutual
  -- each `run` in the tree, which stands in the instance, has the callee that its place begins, with its own outputs
  pub CallsMatchCallees : Setting → ℕ → Tree → Type 0
  CallsMatchCallees w i Nil = ⊤
  CallsMatchCallees w i (Wait s) = ⊤
  CallsMatchCallees w i (Test s) = ⊤
  CallsMatchCallees w i (Idle body) = ⊤
  CallsMatchCallees w i (Do s) = ⊤
  CallsMatchCallees w i (Seq c rest) = CallsMatchCallees w i c
  CallsMatchCallees w i (Par s stood branches) = AllCallsMatchCallees w i branches
  CallsMatchCallees w i (Guard s phase stood c) = CallsMatchCallees w i c
  CallsMatchCallees w i (Run s callee phase stood c) =
      (callee_of w i s.place ≡ Some callee) × (HasOutputs w callee (map static_of s.arguments.outputs) × CallsMatchCallees w callee c)

  -- each `run` in the branches has the callee that its place begins, with its own outputs
  pub AllCallsMatchCallees : Setting → ℕ → Trees → Type 0
  AllCallsMatchCallees w i no_tree = ⊤
  AllCallsMatchCallees w i (beside weak c rest) = CallsMatchCallees w i c × AllCallsMatchCallees w i rest

-- the instance k is inside a call of the instance i
pub record InCall (w : Setting) (i k : ℕ) : Type 0 where
  pub place : Place
  pub callee : ℕ
  pub runs : callee_of w i place ≡ Some callee
  pub inside : Inside w callee k

-- a deed's instance is that of its tree, or inside a call of it
abbrev pub DeedsStayInside : Type 0
DeedsStayInside =
    (w : Setting) (i : ℕ) (c : Tree) (d : Bool) (a : Deed) (n : StepLabel) (c' : Tree) → CallsMatchCallees w i c → Moves Anyway w i c d a n c' →
    Inside w i a.instance

-- what overlaps a home that a deed writes is what its tree may still write, or the home lies in a call
abbrev pub WritesAreSeen : Type 0
WritesAreSeen =
    (structs : List StructDef) (units : List UnitDef) (entry i : ℕ) (c : Tree) (d : Bool) (a : Deed) (n : StepLabel) (c' : Tree) (k : ℕ)
    (at over : Location) →
    let w = setting_of structs units entry in
    CallsMatchCallees w i c → Moves Anyway w i c d a n c' → slice_get (effect_writes w a.instance a.effect) k ≡ Some at → overlap over at ≡ true →
    (may_write w i c over ≡ true) ⊎ InCall w i at.instance
