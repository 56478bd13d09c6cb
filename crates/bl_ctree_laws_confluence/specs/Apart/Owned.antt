-- Which statements of a body the deeds of what is left of it are of.
use Rattle.std.specs.Prelude.{◌≡◌, ◌⊎◌, ℕ, Bool, List, Some}
use Rattle.bl_tree.specs.declared.place.Place.{Place}
use Rattle.bl_tree.specs.declared.tree.Path.{Path}
use Rattle.bl_graph_nodes.specs.Plain.{Block, Bodies, Plain, Act, Again, Await, Body as BodyOf, Cobegin, Done, If, Last, Repeat, Run as RunOf, Then, Until}
use Rattle.bl_graph_nodes.specs.Plain.{When, While}
use Rattle.bl_graph_nodes.specs.Steps.{StepLabel}
use Rattle.bl_ctree.specs.Actions.{Effect, Silent, Acts, Asks, Copies, Gives}
use Rattle.bl_ctree.specs.Instances.{Setting, callee_of}
use Rattle.bl_ctree_laws.specs.Residual.{PlainResidual}
use Rattle.bl_ctree_laws.specs.Pending.{Deed}
use Rattle.bl_ctree_laws.specs.Steps.{Anyway, Moves}
use Rattle.bl_ctree_laws.specs.Trees.{Tree}
use Rattle.bl_ctree_laws_confluence.specs.Deeds.Nesting.{Inside}

abbrev mutual
  -- P of the statement, or of one in its blocks. The test at the end of a turn counts as its loop
  pub SomeOf : (Plain → Type 0) → Plain → Type 0
  SomeOf P (Act l s) = P (Act l s)
  SomeOf P (Await l at e) = P (Await l at e)
  SomeOf P (RunOf l at target a inputs outputs) = P (RunOf l at target a inputs outputs)
  SomeOf P (If l at e body other) = P (If l at e body other) ⊎ (SomeIn P body ⊎ SomeIn P other)
  SomeOf P (Cobegin l at bodies) = P (Cobegin l at bodies) ⊎ SomeInEach P bodies
  SomeOf P (When l at guard e body) = P (When l at guard e body) ⊎ SomeIn P body
  SomeOf P (Repeat l at body) = P (Repeat l at body) ⊎ SomeIn P body
  SomeOf P (Until l at body e) = P (Until l at body e) ⊎ SomeIn P body
  SomeOf P (While l at e body) = P (While l at e body) ⊎ SomeIn P body
  SomeOf P (Again l at body e) = P (Until l at body e) ⊎ SomeIn P body

  -- P of some statement in the block, at any depth
  pub SomeIn : (Plain → Type 0) → Block → Type 0
  SomeIn P Done = ⊥
  SomeIn P (Then s rest) = SomeOf P s ⊎ SomeIn P rest

  -- P of some statement in one of the branches
  pub SomeInEach : (Plain → Type 0) → Bodies → Type 0
  SomeInEach P Last = ⊥
  SomeInEach P (BodyOf weak body rest) = SomeIn P body ⊎ SomeInEach P rest

-- the statement, which stands in the instance, has steps with this effect
abbrev pub HasEffect : Setting → ℕ → Effect → Plain → Type 0
HasEffect w i effect (Act l s) = effect ≡ Acts s
HasEffect w i effect (Await l at e) = (effect ≡ Silent) ⊎ (effect ≡ Asks e)
HasEffect w i effect (RunOf l at target a inputs outputs) =
    (callee : ℕ) × ((callee_of w i at ≡ Some callee) × ((effect ≡ Copies callee inputs) ⊎ (effect ≡ Gives callee target)))
HasEffect w i effect (If l at e body other) = effect ≡ Asks e
HasEffect w i effect (Cobegin l at bodies) = effect ≡ Silent
HasEffect w i effect (When l at guard e body) = (effect ≡ Silent) ⊎ (effect ≡ Asks e)
HasEffect w i effect (Repeat l at body) = effect ≡ Silent
HasEffect w i effect (Until l at body e) = (effect ≡ Silent) ⊎ (effect ≡ Asks e)
HasEffect w i effect (While l at e body) = effect ≡ Asks e
HasEffect w i effect (Again l at body e) = (effect ≡ Silent) ⊎ (effect ≡ Asks e)

-- the statement is a `run`, and this holds of its place and its outputs
abbrev pub IsRunWith : (Place → List Path → Type 0) → Plain → Type 0
IsRunWith R (RunOf l at target a inputs outputs) = R at outputs
IsRunWith R _ = ⊥

-- the statement is a `run` at this place
abbrev pub RunsAt : Place → Plain → Type 0
RunsAt place = IsRunWith (λ at outputs. at ≡ place)

-- the deed is one of the instance itself, by a statement of the body
pub record Own (w : Setting) (i : ℕ) (body : Block) (a : Deed) : Type 0 where
  pub instance : a.instance ≡ i
  pub does : SomeIn (HasEffect w i a.effect) body

-- the instance k is inside a call of the instance i, by a `run` of the body
pub record IsInsideCall (w : Setting) (i : ℕ) (body : Block) (k : ℕ) : Type 0 where
  pub place : Place
  pub stands : SomeIn (RunsAt place) body
  pub callee : ℕ
  pub begins : callee_of w i place ≡ Some callee
  pub inside : Inside w callee k

-- a deed of a residual of a body is of a statement of the body, or inside a call by one of its `run`s
abbrev pub DeedsAreOfBodies : Type 0
DeedsAreOfBodies =
    (w : Setting) (stood : Bool) (i : ℕ) (body : Block) (c : Tree) (d : Bool) (a : Deed) (n : StepLabel) (c' : Tree) →
    PlainResidual w stood i body c → Moves Anyway w i c d a n c' → Own w i body a ⊎ IsInsideCall w i body a.instance
