-- Acts ask for no value before but those that they name under a `prev`.
use Rattle.std.proofs.Common.{◌≡◌, ℕ, true, List, [], ◌∷◌, ◌++◌, map, Option, Some, None, refl, ap, ◌∙◌, subst}
use Rattle.std.specs.Prelude.{option_and_then, option_map, slice_get, unwrap_or}
use Rattle.bl_tree.specs.declared.place.Place.{Place}
use Rattle.bl_tree.specs.declared.tree.Arm.{Arm}
use Rattle.bl_tree.specs.declared.tree.Branch.{Branch}
use Rattle.bl_tree.specs.declared.tree.Expr.{Expr}
use Rattle.bl_tree.specs.declared.tree.Path.{Path}
use Rattle.bl_tree.specs.declared.tree.Stmt.{Stmt, fold-roll-Stmt, out-Stmt}
use Rattle.bl_tree.specs.declared.tree.StmtKind.{StmtKind, fold-roll-StmtKind, out-StmtKind}
use Rattle.bl_tree.specs.declared.tree.StmtKind.TheOpen.{StmtKind-F}
use Rattle.bl_tree.specs.declared.value.Value.{Value}
use Rattle.bl_tree.specs.Reduce.{joined}
use Rattle.bl_tree.proofs.StmtInduction.{stmt}
use Rattle.bl_machine_prevs.specs.Prevs.{argument_prevs, optional_prevs, prevs_in, prevs_in_expr, prevs_in_path}
use Rattle.bl_eval.specs.Functions.{acted, initial_value, outcome_of_call, put_all, put_back}
use Rattle.bl_eval.specs.Meaning.{Callee, Scope, View, meaning_of, path_meaning_of, plain, reading, values_of}
use Rattle.bl_eval.specs.Standing.{scope_of}
use Rattle.bl_eval.specs.Values.{put_at}
use Rattle.bl_emit_acts_laws_simulation.specs.Acts.{is_act}
use Rattle.bl_emit_spec_laws_nodes.specs.Points.Nodes.{AgreeAt}
use Rattle.bl_emit_spec_laws_nodes.specs.Prevs.{PrevsTell}
use Rattle.bl_emit_spec_laws_nodes.proofs.OnPrevs.Prevs.{agree_first, agree_second, local, local_path, reading_same}
use Rattle.bl_emit_spec_laws_nodes.proofs.OnPoints.ReturnBlocks.{made_is}

declare_prevs : (place : Place) (k : ℕ) (initial : Option Expr) → prevs_in (stmt place (StmtKind-F.Declare k initial)) ≡ optional_prevs initial
declare_prevs place k initial = rw (fold-roll-Stmt, fold-roll-StmtKind) refl

assign_prevs : (place : Place) (path : Path) (e : Expr) →
    prevs_in (stmt place (StmtKind-F.Assign path e)) ≡ prevs_in_path path ++ prevs_in_expr e
assign_prevs place path e = rw (fold-roll-Stmt, fold-roll-StmtKind) refl

call_prevs : (place : Place) (f : ℕ) (inputs : List Expr) (outputs : List Path) →
    prevs_in (stmt place (StmtKind-F.Call f inputs outputs)) ≡ argument_prevs inputs outputs
call_prevs place f inputs outputs = rw (fold-roll-Stmt, fold-roll-StmtKind) refl

module _ (scope : Scope) (now before other : List Value) where
  abbrev v : View
  v = record { now = now; before = before }

  abbrev u : View
  u = record { now = now; before = other }

  initial_same : (k : ℕ) (initial : Option Expr) → AgreeAt (optional_prevs initial) before other →
      initial_value scope k initial v ≡ initial_value scope k initial u
  initial_same k (Some e) near = ap (option_map plain) (local scope now before other e near)
  initial_same k None near = refl

  outputs_same : (outputs : List Path) → AgreeAt (joined (map prevs_in_path outputs)) before other →
      values_of (map reading (map (path_meaning_of scope) outputs)) v ≡ values_of (map reading (map (path_meaning_of scope) outputs)) u
  outputs_same [] near = refl
  outputs_same (path ∷ rest) near =
      let one = reading_same scope now before other path (local_path scope now before other path)
      (agree_first (prevs_in_path path) (joined (map prevs_in_path rest)) before other near) in
      let others = outputs_same rest (agree_second (prevs_in_path path) (joined (map prevs_in_path rest)) before other near) in
      λ i. option_and_then (λ datum. option_map (λ values. plain datum ∷ values) (others i)) (one i)

  arguments_same : (inputs : List Expr) (outputs : List Path) → AgreeAt (joined (map prevs_in_expr inputs)) before other →
      AgreeAt (joined (map prevs_in_path outputs)) before other →
      values_of (map (meaning_of scope) inputs ++ map reading (map (path_meaning_of scope) outputs)) v
      ≡ values_of (map (meaning_of scope) inputs ++ map reading (map (path_meaning_of scope) outputs)) u
  arguments_same [] outputs near there = outputs_same outputs there
  arguments_same (e ∷ rest) outputs near there =
      let one = local scope now before other e (agree_first (prevs_in_expr e) (joined (map prevs_in_expr rest)) before other near) in
      let others = arguments_same rest outputs (agree_second (prevs_in_expr e) (joined (map prevs_in_expr rest)) before other near) there in
      λ i. option_and_then (λ datum. option_map (λ values. plain datum ∷ values) (others i)) (one i)

  all_same : (outputs : List Path) (values us : List Value) → AgreeAt (joined (map prevs_in_path outputs)) before other →
      put_all (map (path_meaning_of scope) outputs) values v us ≡ put_all (map (path_meaning_of scope) outputs) values u us
  all_same [] values us near = refl
  all_same (path ∷ rest) [] us near = refl
  all_same (path ∷ rest) (value ∷ values) us near =
      let spot = path_meaning_of scope path in
      let leads = local_path scope now before other path (agree_first (prevs_in_path path) (joined (map prevs_in_path rest)) before other near) in
      let back : put_back spot value v us ≡ put_back spot value u us =
      ap (λ positions. unwrap_or (option_and_then (λ ks. put_at spot.root ks value us) positions) us) leads in
      ap (put_all (map (path_meaning_of scope) rest) values v) back
      ∙ all_same rest values (put_back spot value u us) (agree_second (prevs_in_path path) (joined (map prevs_in_path rest)) before other near)

  call_same : (callee : Option Callee) (inputs : List Expr) (outputs : List Path) → AgreeAt (argument_prevs inputs outputs) before other →
      option_and_then (outcome_of_call (map (meaning_of scope) inputs) (map (path_meaning_of scope) outputs) v) callee
      ≡ option_and_then (outcome_of_call (map (meaning_of scope) inputs) (map (path_meaning_of scope) outputs) u) callee
  call_same None inputs outputs near = refl
  call_same (Some callee) inputs outputs near =
      let ins = agree_first (joined (map prevs_in_expr inputs)) (joined (map prevs_in_path outputs)) before other near in
      let outs = agree_second (joined (map prevs_in_expr inputs)) (joined (map prevs_in_path outputs)) before other near in
      let given = arguments_same inputs outputs ins outs in
      λ i. option_and_then (λ values. option_map (λ left. all_same outputs left.outputs now outs i) (callee values)) (given i)

  act_same : (place : Place) (layer : StmtKind-F StmtKind Arm Branch Stmt) → is_act layer ≡ true →
      AgreeAt (prevs_in (stmt place layer)) before other →
      acted scope layer v ≡ acted scope layer u
  act_same place (StmtKind-F.Declare k initial) act near =
      ap (option_and_then (λ value. put_at k [] value now))
      (initial_same k initial (subst (λ ks. AgreeAt ks before other) (declare_prevs place k initial) near))
  act_same place (StmtKind-F.Assign path e) act near =
      let all = subst (λ ks. AgreeAt ks before other) (assign_prevs place path e) near in
      let spot = path_meaning_of scope path in
      let leads = local_path scope now before other path (agree_first (prevs_in_path path) (prevs_in_expr e) before other all) in
      let value = local scope now before other e (agree_second (prevs_in_path path) (prevs_in_expr e) before other all) in
      λ i. option_and_then (λ value. option_and_then (λ ks. put_at spot.root ks value now) (leads i)) (option_map plain (value i))
  act_same place (StmtKind-F.Call f inputs outputs) act near =
      call_same (slice_get scope.callees f) inputs outputs (subst (λ ks. AgreeAt ks before other) (call_prevs place f inputs outputs) near)
  act_same place (StmtKind-F.Await e) act near = absurd (cc)
  act_same place (StmtKind-F.Run target a inputs outputs) act near = absurd (cc)
  act_same place (StmtKind-F.If arms rest) act near = absurd (cc)
  act_same place (StmtKind-F.Cobegin branches) act near = absurd (cc)
  act_same place (StmtKind-F.When guard e body) act near = absurd (cc)
  act_same place (StmtKind-F.Repeat body) act near = absurd (cc)
  act_same place (StmtKind-F.Until body e) act near = absurd (cc)
  act_same place (StmtKind-F.While e body) act near = absurd (cc)
  act_same place (StmtKind-F.Return e) act near = absurd (cc)

pub prevs_tell : PrevsTell
prevs_tell = record {
  values = λ scope e now before other near. local scope now before other e near;
  outcomes = λ site s now before other act near.
      act_same (scope_of site) now before other (out-Stmt s).place (out-StmtKind (out-Stmt s).what) act
      (subst (λ s. AgreeAt (prevs_in s) before other) (made_is s (out-StmtKind (out-Stmt s).what) refl) near);
}
