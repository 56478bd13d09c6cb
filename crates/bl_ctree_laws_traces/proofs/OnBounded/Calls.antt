-- The `run` statements of a body.
use Rattle.std.proofs.Common.{◌≡◌, ℕ, List, [], ◌∷◌, ◌++◌, map, Some, ◌⊎◌, inl, inr}
use Rattle.std.specs.Prelude.{slice_get}
use Rattle.bl_tree.specs.declared.tree.Unit.{Unit as UnitDef}
use Rattle.bl_tree.specs.Static.{static_of}
use Rattle.bl_tree.proofs.FirstLemmas.{In}
use Rattle.bl_graph_nodes.specs.Plain.{Act, Again, Await, Block, Bodies, Cobegin, Done, If, Last, Plain, Repeat, Run as RunOf, Then, Until, When, While}
use Rattle.bl_graph_nodes.specs.Plain.{Body as BodyOf, plain_body}
use Rattle.bl_ctree.specs.declared.instance.Run.{Run as RunAt}
use Rattle.bl_ctree.specs.Instances.{Setting, callee_of, unit_at}
use Rattle.bl_ctree_laws.specs.Residual.{BlockSplitsAt, here, there}
use Rattle.bl_ctree_laws.specs.Steps.{call, turn}
use Rattle.bl_ctree_laws.specs.Trees.{Call}
use Rattle.bl_ctree_laws_traces.proofs.OnBounded.Lists.{among_either}
use Rattle.bl_ctree_laws_confluence.proofs.OnApart.Members.{in_left, in_right}

abbrev mutual
  -- the `run` statements in a statement, in source order
  pub calls_of : Plain → List Call
  calls_of (Act l s) = []
  calls_of (Await l at e) = []
  calls_of (RunOf l at target a inputs outputs) = call l at target a inputs outputs ∷ []
  calls_of (If l at e body other) = calls_in body ++ calls_in other
  calls_of (Cobegin l at bodies) = calls_in_each bodies
  calls_of (When l at guard e body) = calls_in body
  calls_of (Repeat l at body) = calls_in body
  calls_of (Until l at body e) = calls_in body
  calls_of (While l at e body) = calls_in body
  calls_of (Again l at body e) = calls_in body

  pub calls_in : Block → List Call
  calls_in Done = []
  calls_in (Then s rest) = calls_of s ++ calls_in rest

  pub calls_in_each : Bodies → List Call
  calls_in_each Last = []
  calls_in_each (BodyOf weak body rest) = calls_in body ++ calls_in_each rest

-- a `run` as the measure of instances sees it
abbrev pub run_of : Call → RunAt
run_of s = record { place = s.place; unit = s.unit; outputs = map static_of s.arguments.outputs }

-- the instance that a `run` of a body begins is of the unit that it names
abbrev pub CalleesAreNamed : Setting → Type 0
CalleesAreNamed w =
    (i : ℕ) (caller : UnitDef) (s : Call) (callee : ℕ) → unit_at w i ≡ Some caller → In s (calls_in (plain_body caller.body)) →
    callee_of w i s.place ≡ Some callee → slice_get w.units s.unit ≡ unit_at w callee

pub stands_calls : {s : Plain} {rest body : Block} → BlockSplitsAt s rest body → (t : Call) → In t (calls_of s) → In t (calls_in body)
stands_calls {s = s} {rest = rest} here t at = in_left t (calls_of s) (calls_in rest) at
stands_calls (there {t = first} {body = body} more) t at = in_right t (calls_of first) (calls_in body) (stands_calls more t at)

-- the calls of a turn are those of the loop's body and of what ends the turn
pub turn_calls : (body : Block) (next : Plain) (t : Call) → In t (calls_in (turn body next)) → In t (calls_in body) ⊎ In t (calls_of next)
turn_calls Done next t at = elim (among_either t (calls_of next) [] at) [
  | inl last ↦ inr last
  | inr none ↦ elim none [ ]
]
turn_calls (Then s rest) next t at = elim (among_either t (calls_of s) (calls_in (turn rest next)) at) [
  | inl one ↦ inl (in_left t (calls_of s) (calls_in rest) one)
  | inr more ↦ elim (turn_calls rest next t more) [
    | inl inside ↦ inl (in_right t (calls_of s) (calls_in rest) inside)
    | inr last ↦ inr last
  ]
]

pub either_same : {A : Type 0} → A ⊎ A → A
either_same (inl a) = a
either_same (inr a) = a
