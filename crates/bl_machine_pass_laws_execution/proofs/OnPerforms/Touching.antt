-- What a turn touches: what is inside the calls of its tree.
use Rattle.std.proofs.Common.{◌≡◌, ◌⊎◌, inl, inr, ℕ, ◌<◌, Bool, true, false, List, [], Option, Some}
use Rattle.std.proofs.Common.{None, refl, sym, ap, ◌∙◌, subst, get_or}
use Rattle.std.specs.Prelude.{nat_eq, if◌then◌else◌}
use Rattle.std.proofs.lemmas.List.Quantifiers.{position-Some}
use Rattle.bl_tree.proofs.Basics.{and_second, numbers_differ}
use Rattle.bl_tree.specs.declared.place.Place.{Place as Source}
use Rattle.bl_tree.specs.declared.tree.StructDef.{StructDef}
use Rattle.bl_tree.specs.declared.tree.Unit.{Unit as UnitDef}
use Rattle.bl_tree.specs.Rules.{same_place}
use Rattle.bl_graph_nodes.specs.Nodes.{Arguments, are_instant, entry}
use Rattle.bl_graph_nodes.specs.Plain.{Block, Bodies, Body as BodyOf, Done, Label, Last, Then, plain_body}
use Rattle.bl_graph_nodes.specs.Steps.{run_node}
use Rattle.bl_machine_prevs.specs.Declared.{are_known, prevs_at, prevs_in_inputs}
use Rattle.bl_ctree.specs.declared.instance.Instance.{Instance}
use Rattle.bl_ctree.specs.declared.instance.Origin.{Origin}
use Rattle.bl_ctree.specs.Control.{Body, Check}
use Rattle.bl_ctree.specs.Instances.{Setting, begins_at, callee_of, setting_of}
use Rattle.bl_ctree_laws.specs.Trees.{Tree, Trees, Nil, Wait, Test, Idle, Do, Seq, Par, Guard, Run, beside, do_block, is_nil, no_tree}
use Rattle.bl_ctree_laws_confluence.specs.Deeds.Nesting.{Inside, deeper, itself}
use Rattle.bl_ctree_laws_confluence.specs.Apart.Owned.{RunsAt, SomeIn, SomeInEach}
use Rattle.bl_ctree_laws_confluence.specs.Apart.Seen.{InCall}
use Rattle.bl_ctree_laws_traces.specs.Progress.FitsGraph.{AllFitGraph, FitsGraph}
use Rattle.bl_ctree_laws_traces.specs.Progress.Places.{Place, ahead_of, guarded, in_branch, later_on}
use Rattle.bl_machine_pass.specs.Registers.{with_at}
use Rattle.bl_machine_pass_laws_execution.specs.Frames.{CalledIn, ChangeOnly, Frames, FramesNest, OneCalledIn}
use Rattle.bl_machine_pass_laws_execution.specs.Passes.Standing.{EachRunsApart, OneRunsIn, RunsIn}
use Rattle.bl_machine_pass_laws_execution.specs.Fresh.Asks.{DueIn, IsAmongVariables, OneDueIn, declared_at}
use Rattle.bl_machine_pass_laws_execution.proofs.OnFresh.Lists.{known_so}
use Rattle.bl_tree.proofs.FirstLemmas.{same_true}
use Rattle.bl_machine_pass_laws_execution.proofs.OnKept.Homes.{through}

-- ---- numbers and places

pub with_other : (k callee : ℕ) (counters : ℕ → ℕ) (frames : Frames) → (k ≡ callee → ⊥) → (j : ℕ) →
    with_at callee counters frames k j ≡ frames k j
with_other k callee counters frames apart j = ap (λ b. (if b then counters else frames k) j) (numbers_differ k callee apart)

pub one_place : (w : Setting) (i callee : ℕ) (place other : Source) → callee_of w i place ≡ Some callee → callee_of w i other
    ≡ Some callee →
    place ≡ other
one_place w i callee place other one two =
    let d : Instance = record { unit = 0; depth = 0; origin = None } in
    by_origin (get_or w.instances callee d).origin ((position-Some (λ instance. begins_at i place instance.origin) w.instances callee d one).1)
    ((position-Some (λ instance. begins_at i other instance.origin) w.instances callee d two).1)
  where
    by_origin : (o : Option Origin) → begins_at i place o ≡ true → begins_at i other o ≡ true → place ≡ other
    by_origin None e f = absurd cc
    by_origin (Some origin) e f =
        sym (same_true origin.place place (and_second (nat_eq origin.caller i) (same_place origin.place place) e))
        ∙ same_true origin.place other (and_second (nat_eq origin.caller i) (same_place origin.place other) f)

pub body_open : (body : Block) → are_instant body ≡ false → is_nil (do_block body) ≡ false
body_open Done e = absurd cc
body_open (Then s Done) e = refl
body_open (Then s (Then next rest)) e = refl

-- ---- what is touched

pub inside_callee : (w : Setting) (callee k : ℕ) → InCall w callee k → Inside w callee k
inside_callee w callee k call = through w callee call.callee k (deeper callee call.place itself call.runs) call.inside

-- the instance k is inside a call of a `run` that is left in the tree, which stands in the instance i
pub record Touched (w : Setting) (i : ℕ) (Here : Source → Type 0) (k : ℕ) : Type 0 where
  pub place : Source
  pub runs : Here place
  pub callee : ℕ
  pub called : callee_of w i place ≡ Some callee
  pub inside : Inside w callee k

pub touch : (w : Setting) (i : ℕ) (Here There : Source → Type 0) (k : ℕ) → ((place : Source) → Here place → There place) →
    Touched w i Here k →
    Touched w i There k
touch w i Here There k more t =
    record { place = t.place; runs = more t.place t.runs; callee = t.callee; called = t.called; inside = t.inside }

pub in_call : (w : Setting) (i : ℕ) (Here : Source → Type 0) (k : ℕ) → Touched w i Here k → InCall w i k
in_call w i Here k t = record { place = t.place; callee = t.callee; runs = t.called; inside = t.inside }

pub widen : (These Those : ℕ → Type 0) (frames frames' : Frames) → ((k : ℕ) → These k → Those k) → ChangeOnly These frames frames' →
    ChangeOnly Those frames frames'
widen These Those frames frames' more change k outside = change k (λ these. outside (more k these))

-- what is due in a tree is touched by it
mutual
  pub due_touches : (w : Setting) (i : ℕ) (c : Tree) (g : Place) (k : ℕ) → FitsGraph w i c g → DueIn w c k →
      Touched w i (λ place. RunsIn place c) k
  due_touches w i Nil g k live h = absurd h
  due_touches w i (Wait s) g k live h = absurd h
  due_touches w i (Test s) g k live h = absurd h
  due_touches w i (Idle body) g k live h = absurd h
  due_touches w i (Do s) g k live h = absurd h
  due_touches w i (Seq c Done) g k live h = absurd live
  due_touches w i (Seq c (Then s rest)) g k live h =
      touch w i (λ place. RunsIn place c) (λ place. RunsIn place (Seq c (Then s rest))) k (λ place x. inl x)
      (due_touches w i c (ahead_of (entry s) g) k live.0 h)
  due_touches w i (Par s stood branches) g k live h =
      touch w i (λ place. OneRunsIn place branches) (λ place. RunsIn place (Par s stood branches)) k (λ place x. inr x)
      (one_due_touches w i branches s.bodies stood g k live.0 h)
  due_touches w i (Guard s Body stood c) g k live h =
      touch w i (λ place. RunsIn place c) (λ place. RunsIn place (Guard s Body stood c)) k (λ place x. inr x)
      (due_touches w i c (guarded s g) k live.0 h)
  due_touches w i (Guard s Check stood c) g k live h =
      touch w i (λ place. RunsIn place c) (λ place. RunsIn place (Guard s Check stood c)) k (λ place x. inr x)
      (due_touches w i c (later_on (guarded s g)) k live.0 h)
  due_touches w i (Run s callee Body stood c) g k live h = absurd h
  due_touches w i (Run s callee Check stood c) g k live h =
      record { place = s.place; runs = refl; callee = callee; called = live.2.called; inside = h }

  pub one_due_touches : (w : Setting) (i : ℕ) (branches : Trees) (bodies : Bodies) (stood : Bool) (g : Place) (k : ℕ) →
      AllFitGraph w i branches bodies stood g → OneDueIn w branches k → Touched w i (λ place. OneRunsIn place branches) k
  one_due_touches w i no_tree bodies stood g k live h = absurd h
  one_due_touches w i (beside weak c branches) Last stood g k live h = absurd live
  one_due_touches w i (beside weak c branches) (BodyOf weak' body rest) stood g k live (inl h) =
      touch w i (λ place. RunsIn place c) (λ place. OneRunsIn place (beside weak c branches)) k (λ place x. inl x)
      (due_touches w i c (in_branch stood body g) k live.0 h)
  one_due_touches w i (beside weak c branches) (BodyOf weak' body rest) stood g k live (inr h) =
      touch w i (λ place. OneRunsIn place branches) (λ place. OneRunsIn place (beside weak c branches)) k (λ place x. inr x)
      (one_due_touches w i branches rest stood g k live.2 h)

-- ---- frames of calls

module _ (structs : List StructDef) (units : List UnitDef) (program : ℕ) (nested : FramesNest structs units program) (i : ℕ) where
  abbrev w : Setting
  w = setting_of structs units program

  -- what is called in a tree is touched by it
  mutual
    pub calls_touch : (c : Tree) (g : Place) (k : ℕ) → FitsGraph w i c g → CalledIn c k → Touched w i (λ place. RunsIn place c) k
    calls_touch Nil g k live h = absurd h
    calls_touch (Wait s) g k live h = absurd h
    calls_touch (Test s) g k live h = absurd h
    calls_touch (Idle body) g k live h = absurd h
    calls_touch (Do s) g k live h = absurd h
    calls_touch (Seq c Done) g k live h = absurd live
    calls_touch (Seq c (Then s rest)) g k live h =
        touch w i (λ place. RunsIn place c) (λ place. RunsIn place (Seq c (Then s rest))) k (λ place x. inl x)
        (calls_touch c (ahead_of (entry s) g) k live.0 h)
    calls_touch (Par s stood branches) g k live h =
        touch w i (λ place. OneRunsIn place branches) (λ place. RunsIn place (Par s stood branches)) k (λ place x. inr x)
        (each_touch branches s.bodies stood g k live.0 h)
    calls_touch (Guard s Body stood c) g k live h =
        touch w i (λ place. RunsIn place c) (λ place. RunsIn place (Guard s Body stood c)) k (λ place x. inr x)
        (calls_touch c (guarded s g) k live.0 h)
    calls_touch (Guard s Check stood c) g k live h =
        touch w i (λ place. RunsIn place c) (λ place. RunsIn place (Guard s Check stood c)) k (λ place x. inr x)
        (calls_touch c (later_on (guarded s g)) k live.0 h)
    calls_touch (Run s callee Body stood c) g k live (inl is) = record {
      place = s.place;
      runs = refl;
      callee = callee;
      called = live.2.called;
      inside = subst (λ x. Inside w callee x) (sym is) itself;
    }
    calls_touch (Run s callee Body stood c) g k live (inr h) = record {
      place = s.place;
      runs = refl;
      callee = callee;
      called = live.2.called;
      inside = inside_callee w callee k ((nested.called callee k c stood (plain_body live.0.body) live.1 h).0);
    }
    calls_touch (Run s callee Check stood c) g k live (inl is) = record {
      place = s.place;
      runs = refl;
      callee = callee;
      called = live.2.called;
      inside = subst (λ x. Inside w callee x) (sym is) itself;
    }
    calls_touch (Run s callee Check stood c) g k live (inr h) = record {
      place = s.place;
      runs = refl;
      callee = callee;
      called = live.2.called;
      inside = inside_callee w callee k ((nested.called callee k c stood (plain_body live.0.body) live.1 h).0);
    }

    pub each_touch : (branches : Trees) (bodies : Bodies) (stood : Bool) (g : Place) (k : ℕ) → AllFitGraph w i branches bodies stood g →
        OneCalledIn branches k → Touched w i (λ place. OneRunsIn place branches) k
    each_touch no_tree bodies stood g k live h = absurd h
    each_touch (beside weak c branches) Last stood g k live h = absurd live
    each_touch (beside weak c branches) (BodyOf weak' body rest) stood g k live (inl h) =
        touch w i (λ place. RunsIn place c) (λ place. OneRunsIn place (beside weak c branches)) k (λ place x. inl x)
        (calls_touch c (in_branch stood body g) k live.0 h)
    each_touch (beside weak c branches) (BodyOf weak' body rest) stood g k live (inr h) =
        touch w i (λ place. OneRunsIn place branches) (λ place. OneRunsIn place (beside weak c branches)) k (λ place x. inr x)
        (each_touch branches rest stood g k live.2 h)

-- ---- where `run`s are left

pub branch_runs : (bodies : Bodies) (branches : Trees) (place : Source) → EachRunsApart bodies branches → OneRunsIn place branches →
    SomeInEach (RunsAt place) bodies
branch_runs bodies no_tree place each h = absurd h
branch_runs Last (beside weak c branches) place each h = absurd each
branch_runs (BodyOf weak' body rest) (beside weak c branches) place each (inl h) = inl (each.0 place h)
branch_runs (BodyOf weak' body rest) (beside weak c branches) place each (inr h) = inr (branch_runs rest branches place each.2 h)

pub par_runs : (bodies : Bodies) (branches others : Trees) (place : Source) → (OneRunsIn place others → OneRunsIn place branches) →
    SomeInEach (RunsAt place) bodies ⊎ OneRunsIn place others → SomeInEach (RunsAt place) bodies ⊎ OneRunsIn place branches
par_runs bodies branches others place less (inl h) = inl h
par_runs bodies branches others place less (inr h) = inr (less h)

pub guard_runs : (body : Block) (c t : Tree) (place : Source) → (RunsIn place t → RunsIn place c) → SomeIn (RunsAt place) body
    ⊎ RunsIn place t →
    SomeIn (RunsAt place) body ⊎ RunsIn place c
guard_runs body c t place less (inl h) = inl h
guard_runs body c t place less (inr h) = inr (less h)

pub first_runs : (c t : Tree) (others : Trees) (place : Source) → (RunsIn place t → RunsIn place c) → RunsIn place t
    ⊎ OneRunsIn place others →
    RunsIn place c ⊎ OneRunsIn place others
first_runs c t others place less (inl h) = inl (less h)
first_runs c t others place less (inr h) = inr h

pub later_runs : (c : Tree) (others after : Trees) (place : Source) → (OneRunsIn place after → OneRunsIn place others) →
    RunsIn place c ⊎ OneRunsIn place after → RunsIn place c ⊎ OneRunsIn place others
later_runs c others after place less (inl h) = inl h
later_runs c others after place less (inr h) = inr (less h)

-- ---- nodes of calls

pub by_sum : {A B C : Type 0} → A ⊎ B → (A → C) → (B → C) → C
by_sum (inl x) one other = one x
by_sum (inr y) one other = other y

-- a `run` declares nothing, and asks for what its inputs do
pub run_declares : (stood : Bool) (l : Label) (at : Source) (arguments : Arguments) → declared_at (run_node stood l at arguments) ≡ []
run_declares true l at arguments = refl
run_declares false l at arguments = refl

pub run_asked : (stood : Bool) (l : Label) (at : Source) (arguments : Arguments) (known : List ℕ) →
    are_known known (prevs_in_inputs arguments.inputs) ≡ true → (x : ℕ) → IsAmongVariables (prevs_at (run_node stood l at arguments)) x → IsAmongVariables known x
run_asked true l at arguments known all = known_so known (prevs_in_inputs arguments.inputs) all
run_asked false l at arguments known all = known_so known (prevs_in_inputs arguments.inputs) all
