-- Whose frames and results the deeds of a body touch.
use Rattle.std.proofs.Common.{◌≡◌, ◌⊎◌, inl, inr, ℕ, zero, suc, true, [], ◌∷◌, Some, None, refl, sym, subst, arith}
use Rattle.std.specs.Prelude.{Contains}
use Rattle.bl_tree.specs.declared.place.Place.{Place}
use Rattle.bl_tree.specs.declared.tree.Arm.{Arm}
use Rattle.bl_tree.specs.declared.tree.Branch.{Branch}
use Rattle.bl_tree.specs.declared.tree.Expr.{Expr}
use Rattle.bl_tree.specs.declared.tree.Stmt.{Stmt}
use Rattle.bl_tree.specs.declared.tree.StmtKind.{StmtKind}
use Rattle.bl_tree.specs.declared.tree.StmtKind.TheOpen.{StmtKind-F}
use Rattle.bl_tree.specs.Returns.{is_return_kind}
use Rattle.bl_graph_nodes.specs.Plain.{Block, Bodies, Plain, Act, Again, Await, Body as BodyOf, Cobegin, Done, If, Last, Repeat, Run as RunOf, Then, Until}
use Rattle.bl_graph_nodes.specs.Plain.{When, While}
use Rattle.bl_ctree.specs.Actions.{Effect, Silent, Acts, Asks, Copies, Gives}
use Rattle.bl_ctree.specs.Instances.{Setting, callee_of}
use Rattle.bl_ctree.specs.Positions.{stmt_kind}
use Rattle.bl_ctree_laws_confluence.specs.Deeds.Deeds.{effect_frames, effect_results, kind_frames}
use Rattle.bl_ctree_laws_confluence.specs.Deeds.Nesting.{itself}
use Rattle.bl_ctree_laws_confluence.specs.Apart.Frames.{FramesAreOfCalls, ResultsAreOfCalls}
use Rattle.bl_ctree_laws_confluence.specs.Apart.Owned.{HasEffect, IsInsideCall, RunsAt, SomeIn, SomeInEach, SomeOf}
use Rattle.bl_ctree_laws_confluence.specs.Apart.Returns.{Returns}

-- ---- what is known of some statement is known of it in its body

module _ {K : Type 0} (P : Plain → Type 0) (R : K → Plain → Type 0) (so : (s : Plain) → P s → (k : K) × R k s) where
  moved : {C D : K → Type 0} → ((k : K) → C k → D k) → (k : K) × C k → (k : K) × D k
  moved f one = (one.0, f one.0 one.1)

  mutual
    picked_of : (p : Plain) → SomeOf P p → (k : K) × SomeOf (R k) p
    picked_of (Act l s) own = so (Act l s) own
    picked_of (Await l at e) own = so (Await l at e) own
    picked_of (RunOf l at target a inputs outputs) own = so (RunOf l at target a inputs outputs) own
    picked_of (If l at e body other) (inl own) = moved (λ k one. inl one) (so (If l at e body other) own)
    picked_of (If l at e body other) (inr (inl some)) = moved (λ k one. inr (inl one)) (picked body some)
    picked_of (If l at e body other) (inr (inr some)) = moved (λ k one. inr (inr one)) (picked other some)
    picked_of (Cobegin l at bodies) (inl own) = moved (λ k one. inl one) (so (Cobegin l at bodies) own)
    picked_of (Cobegin l at bodies) (inr some) = moved (λ k one. inr one) (picked_in bodies some)
    picked_of (When l at guard e body) (inl own) = moved (λ k one. inl one) (so (When l at guard e body) own)
    picked_of (When l at guard e body) (inr some) = moved (λ k one. inr one) (picked body some)
    picked_of (Repeat l at body) (inl own) = moved (λ k one. inl one) (so (Repeat l at body) own)
    picked_of (Repeat l at body) (inr some) = moved (λ k one. inr one) (picked body some)
    picked_of (Until l at body e) (inl own) = moved (λ k one. inl one) (so (Until l at body e) own)
    picked_of (Until l at body e) (inr some) = moved (λ k one. inr one) (picked body some)
    picked_of (While l at e body) (inl own) = moved (λ k one. inl one) (so (While l at e body) own)
    picked_of (While l at e body) (inr some) = moved (λ k one. inr one) (picked body some)
    picked_of (Again l at body e) (inl own) = moved (λ k one. inl one) (so (Until l at body e) own)
    picked_of (Again l at body e) (inr some) = moved (λ k one. inr one) (picked body some)

    pub picked : (body : Block) → SomeIn P body → (k : K) × SomeIn (R k) body
    picked Done some = absurd some
    picked (Then s rest) (inl some) = moved (λ k one. inl one) (picked_of s some)
    picked (Then s rest) (inr some) = moved (λ k one. inr one) (picked rest some)

    picked_in : (bodies : Bodies) → SomeInEach P bodies → (k : K) × SomeInEach (R k) bodies
    picked_in Last some = absurd some
    picked_in (BodyOf weak body rest) (inl some) = moved (λ k one. inl one) (picked body some)
    picked_in (BodyOf weak body rest) (inr some) = moved (λ k one. inr one) (picked_in rest some)

-- ---- what touches a frame

pub none_of : {A : Type 0} (k : ℕ) → Contains [] k → A
none_of k there = let below = there.1 in absurd (omega arith)

pub sole : (j k : ℕ) → Contains (j ∷ []) k → j ≡ k
sole j k (zero, below, is) = is
sole j k (suc n, below, is) = absurd (omega arith)

-- a `return`, or a `run` at a place that begins the instance
data Touch (w : Setting) (i frame : ℕ) : Type 0 where
  returning : frame ≡ i → Touch w i frame
  calling : (place : Place) → callee_of w i place ≡ Some frame → Touch w i frame

abbrev By : {w : Setting} {i frame : ℕ} → Touch w i frame → Plain → Type 0
By (returning is) s = Returns s
By (calling place begins) s = RunsAt place s

pub returned : (i frame : ℕ) (layer : StmtKind-F StmtKind Arm Branch Stmt) → Contains (kind_frames i layer) frame →
    (frame ≡ i) × (is_return_kind layer ≡ true)
returned i frame (StmtKind-F.Return (Some e)) there = (sym (sole i frame there), refl)
returned i frame (StmtKind-F.Return None) there = none_of frame there
returned i frame (StmtKind-F.Declare n initial) there = none_of frame there
returned i frame (StmtKind-F.Assign path e) there = none_of frame there
returned i frame (StmtKind-F.Call f inputs outputs) there = none_of frame there
returned i frame (StmtKind-F.Await e) there = none_of frame there
returned i frame (StmtKind-F.Run target a inputs outputs) there = none_of frame there
returned i frame (StmtKind-F.If arms other) there = none_of frame there
returned i frame (StmtKind-F.Cobegin branches) there = none_of frame there
returned i frame (StmtKind-F.When guard e body) there = none_of frame there
returned i frame (StmtKind-F.Repeat body) there = none_of frame there
returned i frame (StmtKind-F.Until body e) there = none_of frame there
returned i frame (StmtKind-F.While e body) there = none_of frame there

module _ (w : Setting) (i : ℕ) (effect : Effect) (frame : ℕ) where
  begun : (at : Place) (callee : ℕ) → callee_of w i at ≡ Some callee → callee ≡ frame → callee_of w i at ≡ Some frame
  begun at callee begins is = subst (λ k. callee_of w i at ≡ Some k) is begins

  module _ (has : Contains (effect_frames i effect) frame) where
    frames_of : (other : Effect) → effect ≡ other → Contains (effect_frames i other) frame
    frames_of other is = subst (λ effect. Contains (effect_frames i effect) frame) is has

    silent : {A : Type 0} → effect ≡ Silent → A
    silent is = none_of frame (frames_of Silent is)

    asks : {A : Type 0} (e : Expr) → effect ≡ Asks e → A
    asks e is = none_of frame (frames_of (Asks e) is)

    touches : (s : Plain) → HasEffect w i effect s → (k : Touch w i frame) × By k s
    touches (Act l s) is = let found = returned i frame (stmt_kind s) (frames_of (Acts s) is) in (returning found.0, found.1)
    touches (Await l at e) (inl is) = silent is
    touches (Await l at e) (inr is) = asks e is
    touches (RunOf l at target a inputs outputs) (callee, (begins, inl is)) =
        (calling at (begun at callee begins (sole callee frame (frames_of (Copies callee inputs) is))), refl)
    touches (RunOf l at target a inputs outputs) (callee, (begins, inr is)) = none_of frame (frames_of (Gives callee target) is)
    touches (If l at e body other) is = asks e is
    touches (Cobegin l at bodies) is = silent is
    touches (When l at guard e body) (inl is) = silent is
    touches (When l at guard e body) (inr is) = asks e is
    touches (Repeat l at body) is = silent is
    touches (Until l at body e) (inl is) = silent is
    touches (Until l at body e) (inr is) = asks e is
    touches (While l at e body) is = asks e is
    touches (Again l at body e) (inl is) = silent is
    touches (Again l at body e) (inr is) = asks e is

  module _ (has : Contains (effect_results effect) frame) where
    results_of : (other : Effect) → effect ≡ other → Contains (effect_results other) frame
    results_of other is = subst (λ effect. Contains (effect_results effect) frame) is has

    no_result : {A : Type 0} → effect ≡ Silent → A
    no_result is = none_of frame (results_of Silent is)

    no_answer : {A : Type 0} (e : Expr) → effect ≡ Asks e → A
    no_answer e is = none_of frame (results_of (Asks e) is)

    gives : (s : Plain) → HasEffect w i effect s → (k : (place : Place) × (callee_of w i place ≡ Some frame)) × RunsAt k.0 s
    gives (Act l s) is = none_of frame (results_of (Acts s) is)
    gives (Await l at e) (inl is) = no_result is
    gives (Await l at e) (inr is) = no_answer e is
    gives (RunOf l at target a inputs outputs) (callee, (begins, inl is)) = none_of frame (results_of (Copies callee inputs) is)
    gives (RunOf l at target a inputs outputs) (callee, (begins, inr is)) =
        ((at, begun at callee begins (sole callee frame (results_of (Gives callee target) is))), refl)
    gives (If l at e body other) is = no_answer e is
    gives (Cobegin l at bodies) is = no_result is
    gives (When l at guard e body) (inl is) = no_result is
    gives (When l at guard e body) (inr is) = no_answer e is
    gives (Repeat l at body) is = no_result is
    gives (Until l at body e) (inl is) = no_result is
    gives (Until l at body e) (inr is) = no_answer e is
    gives (While l at e body) is = no_answer e is
    gives (Again l at body e) (inl is) = no_result is
    gives (Again l at body e) (inr is) = no_answer e is

called_at : {w : Setting} {i : ℕ} {body : Block} {frame : ℕ} (place : Place) → callee_of w i place ≡ Some frame → SomeIn (RunsAt place) body →
    IsInsideCall w i body frame
called_at {frame = frame} place begins stands = record { place = place; stands = stands; callee = frame; begins = begins; inside = itself }

pub frames_are_of_calls_so : FramesAreOfCalls
frames_are_of_calls_so w i body effect frame some has = by_touch (picked (HasEffect w i effect) By (touches w i effect frame has) body some)
  where
    by_touch : (k : Touch w i frame) × SomeIn (By k) body → ((frame ≡ i) × SomeIn Returns body) ⊎ IsInsideCall w i body frame
    by_touch (returning is, some) = inl (is, some)
    by_touch (calling place begins, some) = inr (called_at place begins some)

pub results_are_of_calls_so : ResultsAreOfCalls
results_are_of_calls_so w i body effect frame some has =
    let one = picked (HasEffect w i effect) (λ k s. RunsAt k.0 s) (gives w i effect frame has) body some in
    called_at one.0.0 one.0.1 one.1
