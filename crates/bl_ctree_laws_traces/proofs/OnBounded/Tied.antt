-- The `run`s of a tree that may be left of a body are of its `run` statements, and no two of them stand at one place.
use Rattle.std.proofs.Common.{◌≡◌, ℕ, Bool, List, Some, inl, inr, refl, sym, ap, ◌∙◌}
use Rattle.std.specs.Prelude.{slice_get, ⊤}
use Rattle.bl_tree.specs.declared.place.Place.{Place}
use Rattle.bl_tree.specs.declared.tree.Unit.{Unit as UnitDef}
use Rattle.bl_tree.proofs.FirstLemmas.{In}
use Rattle.bl_graph_nodes.specs.Plain.{Act, Again, Await, Block, Bodies, Cobegin, Done, If, Last, Plain, Repeat, Run as RunOf, Then, Until, When, While}
use Rattle.bl_graph_nodes.specs.Plain.{Body as BodyOf, plain_body}
use Rattle.bl_ctree.specs.Instances.{Setting, unit_at}
use Rattle.bl_ctree_laws.specs.Residual.{BlockSplitsAt, PlainResidual, PlainResidualEach, PlainResidualOf, ended, here, none_left, nothing, of_again, of_else}
use Rattle.bl_ctree_laws.specs.Residual.{of_guard, of_last, of_one, of_par, of_repeat, of_run, of_then, of_until, of_while, one_left, paused, tested, there}
use Rattle.bl_ctree_laws.specs.Residual.{to_begin}
use Rattle.bl_ctree_laws.specs.Steps.{call, turn}
use Rattle.bl_ctree_laws.specs.Trees.{Call, Tree, Trees, Nil, Wait, Test, Idle, Do, Seq, Par, Guard, Run, beside, no_tree}
use Rattle.bl_ctree_laws_confluence.specs.Apart.Forks.{EachFork, EachForkIn, EachForkInEach}
use Rattle.bl_ctree_laws_confluence.specs.Apart.Owned.{RunsAt, SomeIn, SomeInEach, SomeOf}
use Rattle.bl_ctree_laws_confluence.specs.Apart.Running.{RunApart}
use Rattle.bl_ctree_laws_confluence.proofs.OnApart.Members.{in_left, in_right}
use Rattle.bl_ctree_laws_traces.proofs.OnBounded.Calls.{CalleesAreNamed, calls_in, calls_in_each, calls_of, either_same, stands_calls, turn_calls}
use Rattle.bl_ctree_laws_traces.proofs.OnBounded.Lists.{among_either}
use Rattle.bl_ctree_laws_traces.proofs.OnBounded.Standing.{InnerTree, runs_in_tree, runs_in_trees}

-- no `run` of the first list stands at the place of one of the second
abbrev pub Elsewhere : List InnerTree → List InnerTree → Type 0
Elsewhere xs ys = (a b : InnerTree) → In a xs → In b ys → a.call.place ≡ b.call.place → ⊥

abbrev mutual
  -- each `run` of the tree is one of the body, and runs of different branches stand at different places
  pub Tied : Setting → Block → Tree → Type 0
  Tied w body Nil = ⊤
  Tied w body (Wait s) = ⊤
  Tied w body (Test s) = ⊤
  Tied w body (Idle block) = ⊤
  Tied w body (Do s) = ⊤
  Tied w body (Seq c rest) = Tied w body c
  Tied w body (Par s stood branches) = TiedEach w body branches
  Tied w body (Guard s phase stood c) = Tied w body c
  Tied w body (Run s callee phase stood c) =
      (unit : UnitDef) × (unit_at w callee ≡ Some unit) × (slice_get w.units s.unit ≡ Some unit) × In s (calls_in body)
      × Tied w (plain_body unit.body) c

  pub TiedEach : Setting → Block → Trees → Type 0
  TiedEach w body no_tree = ⊤
  TiedEach w body (beside weak c rest) = Tied w body c × TiedEach w body rest × Elsewhere (runs_in_tree c) (runs_in_trees rest)

-- ---- a `run` statement of a body stands in it

mutual
  run_stands : (s : Plain) (t : Call) (place : Place) → In t (calls_of s) → t.place ≡ place → SomeOf (RunsAt place) s
  run_stands (Act l s) t place among same = elim among [ ]
  run_stands (Await l at e) t place among same = elim among [ ]
  run_stands (RunOf l at target a inputs outputs) t place (inl is) same = sym (ap (λ (t : Call). t.place) is) ∙ same
  run_stands (RunOf l at target a inputs outputs) t place (inr none) same = elim none [ ]
  run_stands (If l at e body other) t place among same = elim (among_either t (calls_in body) (calls_in other) among) [
    | inl one ↦ inr (inl (runs_stand body t place one same))
    | inr more ↦ inr (inr (runs_stand other t place more same))
  ]
  run_stands (Cobegin l at bodies) t place among same = inr (each_stands bodies t place among same)
  run_stands (When l at guard e body) t place among same = inr (runs_stand body t place among same)
  run_stands (Repeat l at body) t place among same = inr (runs_stand body t place among same)
  run_stands (Until l at body e) t place among same = inr (runs_stand body t place among same)
  run_stands (While l at e body) t place among same = inr (runs_stand body t place among same)
  run_stands (Again l at body e) t place among same = inr (runs_stand body t place among same)

  runs_stand : (body : Block) (t : Call) (place : Place) → In t (calls_in body) → t.place ≡ place → SomeIn (RunsAt place) body
  runs_stand Done t place among same = elim among [ ]
  runs_stand (Then s rest) t place among same = elim (among_either t (calls_of s) (calls_in rest) among) [
    | inl one ↦ inl (run_stands s t place one same)
    | inr more ↦ inr (runs_stand rest t place more same)
  ]

  each_stands : (bodies : Bodies) (t : Call) (place : Place) → In t (calls_in_each bodies) → t.place ≡ place → SomeInEach (RunsAt place) bodies
  each_stands Last t place among same = elim among [ ]
  each_stands (BodyOf weak body rest) t place among same = elim (among_either t (calls_in body) (calls_in_each rest) among) [
    | inl one ↦ inl (runs_stand body t place one same)
    | inr more ↦ inr (each_stands rest t place more same)
  ]

-- ---- a `run` of a tree is one of the block that it is left of

module _ {w : Setting} where
  mutual
    inner_calls : {i : ℕ} {stood : Bool} {body : Block} {c : Tree} → PlainResidual w stood i body c → (r : InnerTree) → In r (runs_in_tree c) →
        In r.call (calls_in body)
    inner_calls nothing r among = elim among [ ]
    inner_calls (of_last stands left) r among = stands_calls stands r.call (inner_calls_of left r among)
    inner_calls (of_one stands left unended) r among = stands_calls stands r.call (inner_calls_of left r among)

    inner_calls_of : {i : ℕ} {stood : Bool} {s : Plain} {c : Tree} → PlainResidualOf w stood i s c → (r : InnerTree) → In r (runs_in_tree c) →
        In r.call (calls_of s)
    inner_calls_of to_begin r among = elim among [ ]
    inner_calls_of ended r among = elim among [ ]
    inner_calls_of paused r among = elim among [ ]
    inner_calls_of tested r among = elim among [ ]
    inner_calls_of (of_then {body = body} {other = other} left) r among = in_left r.call (calls_in body) (calls_in other) (inner_calls left r among)
    inner_calls_of (of_else {body = body} {other = other} left) r among = in_right r.call (calls_in body) (calls_in other) (inner_calls left r among)
    inner_calls_of (of_repeat {l = l} {at = place} {body = body} left) r among =
        either_same (turn_calls body (Repeat l place body) r.call (inner_calls left r among))
    inner_calls_of (of_until {l = l} {at = place} {body = body} {e = e} left) r among =
        either_same (turn_calls body (Again l place body e) r.call (inner_calls left r among))
    inner_calls_of (of_while {l = l} {at = place} {e = e} {body = body} left) r among =
        either_same (turn_calls body (While l place e body) r.call (inner_calls left r among))
    inner_calls_of (of_again left) r among = inner_calls_of left r among
    inner_calls_of (of_par flag left) r among = inner_calls_each left r among
    inner_calls_of (of_guard flag checked left) r among = inner_calls left r among
    inner_calls_of (of_run begins found flag checked left) r (inl is) = inl (ap (λ (r : InnerTree). r.call) is)
    inner_calls_of (of_run begins found flag checked left) r (inr none) = elim none [ ]

    inner_calls_each : {i : ℕ} {stood : Bool} {bodies : Bodies} {branches : Trees} → PlainResidualEach w stood i bodies branches → (r : InnerTree) →
        In r (runs_in_trees branches) → In r.call (calls_in_each bodies)
    inner_calls_each none_left r among = elim among [ ]
    inner_calls_each (one_left {body = body} {bodies = bodies} {c = c} {branches = branches} left more) r among =
        elim (among_either r (runs_in_tree c) (runs_in_trees branches) among) [
          | inl one ↦ in_left r.call (calls_in body) (calls_in_each bodies) (inner_calls left r one)
          | inr later ↦ in_right r.call (calls_in body) (calls_in_each bodies) (inner_calls_each more r later)
        ]

-- ---- branches that run at different places

fork_at : {s : Plain} {rest body : Block} → BlockSplitsAt s rest body → EachForkIn RunApart body → EachFork RunApart s
fork_at here forks = forks.0
fork_at (there stands) forks = fork_at stands forks.1

turn_forks : (body : Block) (next : Plain) → EachForkIn RunApart body → EachFork RunApart next → EachForkIn RunApart (turn body next)
turn_forks Done next forks last = (last, tt)
turn_forks (Then s body) next forks last = (forks.0, turn_forks body next forks.1 last)

module _ (w : Setting) (named : CalleesAreNamed w)
    (apart : (i : ℕ) (unit : UnitDef) → unit_at w i ≡ Some unit → EachForkIn RunApart (plain_body unit.body)) where
  mutual
    pub left_tied : {i : ℕ} {stood : Bool} {body : Block} {c : Tree} (caller : UnitDef) → unit_at w i ≡ Some caller →
        PlainResidual w stood i body c → EachForkIn RunApart body →
        ((t : Call) → In t (calls_in body) → In t (calls_in (plain_body caller.body))) → Tied w (plain_body caller.body) c
    left_tied caller is nothing forks within = tt
    left_tied caller is (of_last stands left) forks within =
        left_tied_of caller is left (fork_at stands forks) (λ t at. within t (stands_calls stands t at))
    left_tied caller is (of_one stands left unended) forks within =
        left_tied_of caller is left (fork_at stands forks) (λ t at. within t (stands_calls stands t at))

    left_tied_of : {i : ℕ} {stood : Bool} {s : Plain} {c : Tree} (caller : UnitDef) → unit_at w i ≡ Some caller →
        PlainResidualOf w stood i s c → EachFork RunApart s →
        ((t : Call) → In t (calls_of s) → In t (calls_in (plain_body caller.body))) → Tied w (plain_body caller.body) c
    left_tied_of caller is to_begin forks within = tt
    left_tied_of caller is ended forks within = tt
    left_tied_of caller is paused forks within = tt
    left_tied_of caller is tested forks within = tt
    left_tied_of caller is (of_then {body = body} {other = other} left) forks within =
        left_tied caller is left forks.0 (λ t at. within t (in_left t (calls_in body) (calls_in other) at))
    left_tied_of caller is (of_else {body = body} {other = other} left) forks within =
        left_tied caller is left forks.1 (λ t at. within t (in_right t (calls_in body) (calls_in other) at))
    left_tied_of caller is (of_repeat {l = l} {at = place} {body = body} left) forks within =
        left_tied caller is left (turn_forks body (Repeat l place body) forks forks)
        (λ t at. within t (either_same (turn_calls body (Repeat l place body) t at)))
    left_tied_of caller is (of_until {l = l} {at = place} {body = body} {e = e} left) forks within =
        left_tied caller is left (turn_forks body (Again l place body e) forks forks)
        (λ t at. within t (either_same (turn_calls body (Again l place body e) t at)))
    left_tied_of caller is (of_while {l = l} {at = place} {e = e} {body = body} left) forks within =
        left_tied caller is left (turn_forks body (While l place e body) forks forks)
        (λ t at. within t (either_same (turn_calls body (While l place e body) t at)))
    left_tied_of caller is (of_again left) forks within = left_tied_of caller is left forks within
    left_tied_of caller is (of_par flag left) forks within = each_tied caller is left forks.0 forks.1 within
    left_tied_of caller is (of_guard flag checked left) forks within = left_tied caller is left forks within
    left_tied_of {i = i} caller is (of_run {l = l} {at = place} {target = target} {a = a} {inputs = inputs} {outputs = outputs} {callee = callee}
        {unit = unit} begins found flag checked left) forks within =
        let one = within (call l place target a inputs outputs) (inl refl) in (
          unit,
          found,
          named i caller (call l place target a inputs outputs) callee is one begins ∙ found,
          one,
          left_tied unit found left (apart callee unit found) (λ t at. at),
        )

    each_tied : {i : ℕ} {stood : Bool} {bodies : Bodies} {branches : Trees} (caller : UnitDef) → unit_at w i ≡ Some caller →
        PlainResidualEach w stood i bodies branches → RunApart bodies → EachForkInEach RunApart bodies →
        ((t : Call) → In t (calls_in_each bodies) → In t (calls_in (plain_body caller.body))) → TiedEach w (plain_body caller.body) branches
    each_tied caller is none_left differ forks within = tt
    each_tied caller is (one_left {body = body} {bodies = bodies} left more) differ forks within = (
      left_tied caller is left forks.0 (λ t at. within t (in_left t (calls_in body) (calls_in_each bodies) at)),
      each_tied caller is more differ.1 forks.1 (λ t at. within t (in_right t (calls_in body) (calls_in_each bodies) at)),
      λ a b one other same. differ.0 b.call.place (runs_stand body a.call b.call.place (inner_calls left a one) same)
          (each_stands bodies b.call b.call.place (inner_calls_each more b other) refl),
    )
