-- What copies hold after a turn.
use Rattle.std.proofs.Common.{◌≡◌, ◌⊎◌, inl, inr, ℕ, ◌<◌, List, [], ◌∷◌, length, Option}
use Rattle.std.proofs.Common.{Some, None, refl, sym, ap, subst, arith}
use Rattle.std.specs.Prelude.{option_map, slice_get, slice_set, unwrap_or}
use Rattle.std.proofs.lemmas.List.FromFn.{length-map-range_with_len}
use Rattle.bl_tree.proofs.Basics.{none_within}
use Rattle.bl_tree.specs.declared.tree.Stmt.{out-Stmt}
use Rattle.bl_tree.specs.declared.tree.StmtKind.{out-StmtKind}
use Rattle.bl_tree.specs.declared.tree.StmtKind.TheOpen.{StmtKind-F}
use Rattle.bl_tree.specs.declared.value.Value.{Value}
use Rattle.bl_graph_nodes.specs.Nodes.{ActAt, CheckAt, DepthEndAt, DepthJoinAt, EnterAt, ForkAt, HeadAt, Node, PauseAt, ResumeAt, StartAt, SurfaceEndAt}
use Rattle.bl_graph_nodes.specs.Nodes.{SurfaceJoinAt, TestAt}
use Rattle.bl_machine_prevs.specs.Declared.{declared_kind}
use Rattle.bl_ctree.specs.Instances.{Setting}
use Rattle.bl_ctree.specs.Store.{Frame, Store, variable_among, vars_at, view_at}
use Rattle.bl_machine_pass_laws_execution.specs.Executes.{recopied, recopied_kind}
use Rattle.bl_machine_pass_laws_execution.specs.Fresh.Asks.{IsAmongVariables, declared_at}
use Rattle.bl_machine_pass_laws_execution.proofs.OnFresh.Lists.{among_by, among_first, get_other, get_set, none_among, set_length}
use Rattle.bl_ctree_laws_confluence.proofs.OnDeeds.Plans.{Kind}

pub view_length : (w : Setting) (store : Store) (i : ℕ) → length (view_at w store i).now ≡ length (vars_at w i)
view_length w store i = length-map-range_with_len (variable_among (λ (frame : Frame). frame.now) w store i) 0 (length (vars_at w i))

set_there : (x : ℕ) (now copies : List Value) → x < length now → x < length copies →
    slice_get (unwrap_or (option_map (slice_set copies x) (slice_get now x)) copies) x ≡ slice_get now x
set_there x now copies one two = by_value (slice_get now x) refl
  where
    by_value : (o : Option Value) → slice_get now x ≡ o → slice_get (unwrap_or (option_map (slice_set copies x) o) copies) x ≡ o
    by_value None e = absurd (none_within now x one e)
    by_value (Some v) e = get_set copies x v two

kind_at : (kind : Kind) (x : ℕ) (now copies : List Value) → IsAmongVariables (declared_kind kind) x → x < length now → x < length copies →
    slice_get (recopied_kind kind now copies) x ≡ slice_get now x
kind_at (StmtKind-F.Declare k initial) x now copies at one two = by_part (among_by k x [] at)
  where
    by_part : (x ≡ k) ⊎ IsAmongVariables [] x → slice_get (unwrap_or (option_map (slice_set copies k) (slice_get now k)) copies) x ≡ slice_get now x
    by_part (inl is) =
        subst (λ n. slice_get (unwrap_or (option_map (slice_set copies n) (slice_get now n)) copies) x ≡ slice_get now x) is
        (set_there x now copies one two)
    by_part (inr none) = absurd (none_among x none)
kind_at (StmtKind-F.Assign path e) x now copies at one two = absurd (none_among x at)
kind_at (StmtKind-F.Call f inputs outputs) x now copies at one two = absurd (none_among x at)
kind_at (StmtKind-F.Await e) x now copies at one two = absurd (none_among x at)
kind_at (StmtKind-F.Run target a inputs outputs) x now copies at one two = absurd (none_among x at)
kind_at (StmtKind-F.If arms other) x now copies at one two = absurd (none_among x at)
kind_at (StmtKind-F.Cobegin branches) x now copies at one two = absurd (none_among x at)
kind_at (StmtKind-F.When guard e body) x now copies at one two = absurd (none_among x at)
kind_at (StmtKind-F.Repeat body) x now copies at one two = absurd (none_among x at)
kind_at (StmtKind-F.Until body e) x now copies at one two = absurd (none_among x at)
kind_at (StmtKind-F.While e body) x now copies at one two = absurd (none_among x at)
kind_at (StmtKind-F.Return e) x now copies at one two = absurd (none_among x at)

set_elsewhere : (k x : ℕ) (now copies : List Value) → (x ≡ k → ⊥) →
    slice_get (unwrap_or (option_map (slice_set copies k) (slice_get now k)) copies) x ≡ slice_get copies x
set_elsewhere k x now copies other = by_value (slice_get now k)
  where
    by_value : (o : Option Value) → slice_get (unwrap_or (option_map (slice_set copies k) o) copies) x ≡ slice_get copies x
    by_value None = refl
    by_value (Some v) = get_other copies k x v other

kind_elsewhere : (kind : Kind) (x : ℕ) (now copies : List Value) → (IsAmongVariables (declared_kind kind) x → ⊥) →
    slice_get (recopied_kind kind now copies) x ≡ slice_get copies x
kind_elsewhere (StmtKind-F.Declare k initial) x now copies other =
    set_elsewhere k x now copies (λ is. other (subst (IsAmongVariables (k ∷ [])) (sym is) (among_first k [])))
kind_elsewhere (StmtKind-F.Assign path e) x now copies other = refl
kind_elsewhere (StmtKind-F.Call f inputs outputs) x now copies other = refl
kind_elsewhere (StmtKind-F.Await e) x now copies other = refl
kind_elsewhere (StmtKind-F.Run target a inputs outputs) x now copies other = refl
kind_elsewhere (StmtKind-F.If arms others) x now copies other = refl
kind_elsewhere (StmtKind-F.Cobegin branches) x now copies other = refl
kind_elsewhere (StmtKind-F.When guard e body) x now copies other = refl
kind_elsewhere (StmtKind-F.Repeat body) x now copies other = refl
kind_elsewhere (StmtKind-F.Until body e) x now copies other = refl
kind_elsewhere (StmtKind-F.While e body) x now copies other = refl
kind_elsewhere (StmtKind-F.Return e) x now copies other = refl

kind_length : (kind : Kind) (now copies : List Value) → length (recopied_kind kind now copies) ≡ length copies
kind_length (StmtKind-F.Declare k initial) now copies = by_value (slice_get now k)
  where
    by_value : (o : Option Value) → length (unwrap_or (option_map (slice_set copies k) o) copies) ≡ length copies
    by_value None = refl
    by_value (Some v) = set_length copies k v
kind_length (StmtKind-F.Assign path e) now copies = refl
kind_length (StmtKind-F.Call f inputs outputs) now copies = refl
kind_length (StmtKind-F.Await e) now copies = refl
kind_length (StmtKind-F.Run target a inputs outputs) now copies = refl
kind_length (StmtKind-F.If arms others) now copies = refl
kind_length (StmtKind-F.Cobegin branches) now copies = refl
kind_length (StmtKind-F.When guard e body) now copies = refl
kind_length (StmtKind-F.Repeat body) now copies = refl
kind_length (StmtKind-F.Until body e) now copies = refl
kind_length (StmtKind-F.While e body) now copies = refl
kind_length (StmtKind-F.Return e) now copies = refl

-- ---- nodes

-- what a turn of the node leaves of the copies
pub record Recopied (w : Setting) (i : ℕ) (n : Node) (left : Store) (copies : List Value) : Type 0 where
  -- that of a declared variable holds what the variable is
  pub there : (x : ℕ) → IsAmongVariables (declared_at n) x → x < length (vars_at w i) →
      slice_get (recopied w i n left copies) x ≡ slice_get (view_at w left i).now x
  pub elsewhere : (x : ℕ) → (IsAmongVariables (declared_at n) x → ⊥) → slice_get (recopied w i n left copies) x ≡ slice_get copies x
  pub long : length (recopied w i n left copies) ≡ length copies

-- a node that declares nothing
kept : (w : Setting) (i : ℕ) (n : Node) (left : Store) (copies : List Value) → declared_at n ≡ [] → recopied w i n left copies ≡ copies →
    Recopied w i n left copies
kept w i n left copies none same = record {
  there = λ x at below. absurd (none_among x (subst (λ xs. IsAmongVariables xs x) none at));
  elsewhere = λ x other. ap (λ xs. slice_get xs x) same;
  long = ap length same;
}

pub recopies : (w : Setting) (i : ℕ) (n : Node) (left : Store) (copies : List Value) → length copies ≡ length (vars_at w i) →
    Recopied w i n left copies
recopies w i (ActAt l s) left copies long = record {
  there = λ x at below. (let now = view_length w left i in
      kind_at (out-StmtKind (out-Stmt s).what) x (view_at w left i).now copies at (omega (arith, below, now)) (omega (arith, below, long)));
  elsewhere = λ x other. kind_elsewhere (out-StmtKind (out-Stmt s).what) x (view_at w left i).now copies other;
  long = kind_length (out-StmtKind (out-Stmt s).what) (view_at w left i).now copies;
}
recopies w i (TestAt l at e) left copies long = kept w i (TestAt l at e) left copies refl refl
recopies w i (PauseAt l at) left copies long = kept w i (PauseAt l at) left copies refl refl
recopies w i (EnterAt l at arguments) left copies long = kept w i (EnterAt l at arguments) left copies refl refl
recopies w i (ResumeAt l at arguments) left copies long = kept w i (ResumeAt l at arguments) left copies refl refl
recopies w i (HeadAt l at) left copies long = kept w i (HeadAt l at) left copies refl refl
recopies w i (StartAt l at) left copies long = kept w i (StartAt l at) left copies refl refl
recopies w i (CheckAt l at e) left copies long = kept w i (CheckAt l at e) left copies refl refl
recopies w i (SurfaceEndAt l at) left copies long = kept w i (SurfaceEndAt l at) left copies refl refl
recopies w i (DepthEndAt l at) left copies long = kept w i (DepthEndAt l at) left copies refl refl
recopies w i (ForkAt l at) left copies long = kept w i (ForkAt l at) left copies refl refl
recopies w i (SurfaceJoinAt l at) left copies long = kept w i (SurfaceJoinAt l at) left copies refl refl
recopies w i (DepthJoinAt l at) left copies long = kept w i (DepthJoinAt l at) left copies refl refl
