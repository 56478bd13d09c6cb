-- Nothing fails in the blocks of an activity.
use Rattle.std.proofs.Common.{◌≡◌, ℕ, zero, suc, ◌<◌, Bool, true, false, ◌&&◌, List, [], ◌∷◌, ◌++◌, map, length, Option, Some, None, refl}
use Rattle.std.proofs.Common.{sym, ap, ◌∙◌, subst, arith, eq-eqb, lt-ltb}
use Rattle.std.proofs.lemmas.List.Elements.{Contains-append_left, Contains-append_right}
use Rattle.std.proofs.lemmas.Option.{same_Some}
use Rattle.std.specs.List.{list_all}
use Rattle.std.specs.Prelude.{Contains, is_some, nat_lt, option_and_then, option_to_list, slice_get, ⊤, if◌then◌else◌}
use Rattle.std.proofs.lemmas.Bool.{and_from}
use Rattle.bl_tree.proofs.Basics.{and_first, and_second, any_from, contains_at, contains_first, contains_further, some_within}
use Rattle.bl_tree.specs.declared.text.Text.{Text}
use Rattle.bl_tree.specs.declared.place.Place.{Place}
use Rattle.bl_tree.specs.declared.c.CExpr.{CExpr}
use Rattle.bl_tree.specs.declared.c.CMember.{CMember}
use Rattle.bl_tree.specs.declared.c.CStmt.{CStmt}
use Rattle.bl_tree.specs.declared.c.CType.TheVariants.{Scalar as OfScalar}
use Rattle.bl_tree.specs.declared.scalar.Op.TheVariants.{Or}
use Rattle.bl_tree.specs.declared.scalar.Scalar.{Scalar as ScalarType}
use Rattle.bl_tree.specs.declared.scalar.Scalar.TheVariants.{Bool as OfBool, Int, Nat, Bits}
use Rattle.bl_tree.specs.declared.tree.Arm.{Arm, fold-Arm}
use Rattle.bl_tree.specs.declared.tree.Branch.{Branch, fold-Branch}
use Rattle.bl_tree.specs.declared.tree.Expr.{Expr}
use Rattle.bl_tree.specs.declared.tree.Stmt.{Stmt, fold_out-Stmt, out-Stmt}
use Rattle.bl_tree.specs.declared.tree.StmtKind.{StmtKind, fold-StmtKind, fold_out-StmtKind, map-StmtKind, out-StmtKind}
use Rattle.bl_tree.specs.declared.tree.StmtKind.TheOpen.{StmtKind-F}
use Rattle.bl_tree.specs.declared.tree.Ty.{Ty}
use Rattle.bl_tree.specs.declared.tree.Unit.{Unit as UnitDef}
use Rattle.bl_tree.specs.Reduce.{all_of, joined}
use Rattle.bl_tree.specs.Scalar.{is_bool}
use Rattle.bl_tree.specs.Types.{scalar, scalar_in}
use Rattle.bl_tree.specs.Typing.{TypingContext, arm_fits, branch_fits, fits, is_truth, kind_fits, return_fits, run_fits, stmt_fits, type_of}
use Rattle.bl_eval.proofs.OperatorFits.{scalar_alone}
use Rattle.bl_ctext_semantics.specs.Faults.{Context, Signature, bool_type}
use Rattle.bl_ctext_semantics.specs.Tables.{Table}
use Rattle.bl_graph_nodes.specs.Nodes.{ActAt, Arguments, CheckAt, DepthEndAt, DepthJoinAt, EnterAt, ForkAt, HeadAt, Node, PauseAt}
use Rattle.bl_graph_nodes.specs.Nodes.{ResumeAt, StartAt, SurfaceEndAt, SurfaceJoinAt, TestAt}
use Rattle.bl_machine_pass.specs.Transitions.{Condition, Ended, Flagged, Rested, RestedIn, Transition}
use Rattle.bl_emit_acts.specs.Acts.{act_code, c_clear, c_set, code_made, layer_code}
use Rattle.bl_emit_acts.specs.Trees.{c_read}
use Rattle.bl_emit_acts.specs.Types.{c_scalar, c_type}
use Rattle.bl_emit_functions.specs.Statements.{else_code}
use Rattle.bl_emit_functions.specs.Trees.{c_if}
use Rattle.bl_emit_acts_laws_simulation.specs.Acts.{copied_in_layer, is_act}
use Rattle.bl_emit_acts_laws_simulation.specs.Encodes.{copied_in}
use Rattle.bl_emit_acts_laws_wellformed.specs.Formed.Declared.{InActivity}
use Rattle.bl_emit_acts_laws_wellformed.specs.Formed.Formed.{BlockIs, ExprIs, StmtIs}
use Rattle.bl_emit_acts_laws_wellformed.proofs.OnFormed.Acts.{block_append, block_cons, block_nil, block_one, clear-is}
use Rattle.bl_emit_acts_laws_wellformed.proofs.OnFormed.Judged.{read-is, two-is}
use Rattle.bl_emit_acts_laws_wellformed.proofs.OnFormed.Parts.{c_scalar_type}
use Rattle.bl_emit_acts_laws_wellformed.proofs.OnFormed.SiteActs.{code_typed}
use Rattle.bl_emit_functions_laws_wellformed.proofs.OnFormed.Shapes.{OtherIn, if-is}
use Rattle.bl_emit_spec.specs.Activities.{word_of_run, Activity, RunAt, activity_view, blocks_code}
use Rattle.bl_emit_spec.specs.Activities.{body_of, callees_in, copies_of, first_positions, picked, reads_counter, rules_at}
use Rattle.bl_emit_spec.specs.Activities.{runs_in_body, turns_in_source}
use Rattle.bl_emit_spec.specs.Blocks.{ActivityView, NodeCode, all_merged, begun_code, changes_code, choice_code, control_code, control_unless}
use Rattle.bl_emit_spec.specs.Blocks.{entered_by, flag_asked, fused_code, last_turn, layer_acted, leaving_flag, may_end_in, merged_code, name_in}
use Rattle.bl_emit_spec.specs.Blocks.{next_turn, node_turn, own_code, resumed_code, run_code, run_word, same_run, spelled_truth, stmt_where}
use Rattle.bl_emit_spec.specs.Blocks.{target_code, test_code, turns_of}
use Rattle.bl_emit_spec.specs.Names.{NumberedWord, callee_frame, ended_place, flag_place, frame_name, result_place, with_word}
use Rattle.bl_emit_spec_laws.specs.Registers.Laws.{asks_its_own, changes_its_own}
use Rattle.bl_emit_spec_laws.specs.Calls.Built.{last_of, last_rules, last_positions, registered}
use Rattle.bl_emit_spec_laws.proofs.OnPlaced.Lists.{picked_first}
use Rattle.bl_emit_spec_laws_wellformed.specs.Spelled.{all_fit, node_fits, rule_fits, run_stands}
use Rattle.bl_emit_spec_laws_wellformed_bodies.specs.Bodies.{act_named, named_there}
use Rattle.bl_emit_spec_laws_wellformed_bodies.proofs.OnBodies.Calls.{call-is, target-is, where-is}
use Rattle.bl_emit_spec_laws_wellformed_bodies.proofs.OnBodies.Guards.{changes-are, guard-is, put-is}
use Rattle.bl_emit_spec_laws_wellformed_bodies.proofs.OnBodies.Running.{HasRun, Pairs, RuleRuns}
use Rattle.bl_emit_spec_laws_wellformed_bodies.proofs.OnBodies.Starts.{NodeSets, SetsAsked, start-sets}
use Rattle.bl_emit_spec_laws_wellformed_bodies.proofs.OnBodies.Variables.{Here, context, copied, declared_here, earlier_here, ended-is, frame_at-is, plain_here}
use Rattle.bl_emit_spec_laws_wellformed_bodies.proofs.OnBodies.Variables.{result-is, typed_here}
use Rattle.bl_eval.proofs.ActFits.{same_found}

-- ---- statements by their kinds

module _ (site : TypingContext) where
  abbrev fits_inside : StmtKind-F StmtKind Arm Branch Stmt → StmtKind-F Bool Bool Bool Bool
  fits_inside = map-StmtKind StmtKind Arm Branch Stmt Bool Bool Bool Bool
      (fold-StmtKind Bool Bool Bool Bool (kind_fits site) (arm_fits site) branch_fits stmt_fits)
      (fold-Arm Bool Bool Bool Bool (kind_fits site) (arm_fits site) branch_fits stmt_fits)
      (fold-Branch Bool Bool Bool Bool (kind_fits site) (arm_fits site) branch_fits stmt_fits) (fits site)

  fits_at : (s : Stmt) (layer : StmtKind-F StmtKind Arm Branch Stmt) → out-StmtKind (out-Stmt s).what ≡ layer →
      fits site s ≡ kind_fits site (fits_inside layer)
  fits_at s layer is =
      fold_out-Stmt Bool Bool Bool Bool (kind_fits site) (arm_fits site) branch_fits stmt_fits s
      ∙ fold_out-StmtKind Bool Bool Bool Bool (kind_fits site) (arm_fits site) branch_fits stmt_fits (out-Stmt s).what
      ∙ ap (λ layer. kind_fits site (fits_inside layer)) is

-- a condition is a bool
truth_there : (t : Option Ty) → is_truth t ≡ true → (ty : Ty) × (t ≡ Some ty) × (scalar_in ty ≡ Some OfBool)
truth_there None h = absurd (cc)
truth_there (Some ty) h = (ty, refl, by (scalar_in ty) h)
  where
    by : (o : Option ScalarType) → is_some (option_and_then (λ s. if is_bool s then Some s else None) o) ≡ true → o ≡ Some OfBool
    by None h = absurd (cc)
    by (Some OfBool) h = refl
    by (Some (Int w)) h = absurd (cc)
    by (Some (Nat w)) h = absurd (cc)
    by (Some (Bits w)) h = absurd (cc)

-- ---- turns

picked-has : {A : Type 0} (xs : List A) (ks : List ℕ) (k : ℕ) (x : A) → Contains ks k → slice_get xs k ≡ Some x → Contains (picked xs ks) x
picked-has xs [] k x (i, below, is) at = absurd (omega (arith, below))
picked-has xs (j ∷ ks) k x (zero, below, is) at =
    let found : slice_get xs j ≡ Some x = ap (slice_get xs) is ∙ at in
    subst (λ more. Contains more x) (sym (picked_first xs j ks x found)) (contains_first x (picked xs ks))
picked-has xs (j ∷ ks) k x (suc i, below, is) at =
    Contains-append_right (option_to_list (slice_get xs j)) (picked xs ks) x (picked-has xs ks k x (i, omega (arith, below), is) at)

module _ (here : Context) (word : ℕ → Text) where
  if-alone : (test : CExpr) (code : List CStmt) → ExprIs here bool_type test → BlockIs here code → StmtIs here (c_if test code None)
  if-alone test code is block = if-is here test code None is block (λ looped. refl)

  -- nothing fails in a flag that is asked for, and whose number has its word
  abbrev pub FlagIs : Option ℕ → Type 0
  FlagIs (Some k) = ExprIs here bool_type (c_read (flag_place (with_word word k)))
  FlagIs None = ⊤

  entered-is : (before : Option ℕ) (test : CExpr) → FlagIs before → ExprIs here bool_type test → ExprIs here bool_type (entered_by word before test)
  entered-is None test flag is = is
  entered-is (Some k) test flag is = two-is here Or bool_type (c_read (flag_place (with_word word k))) test refl refl flag is

  unless-is : (leaves : Bool) (turn : NodeCode) → BlockIs here turn.control → BlockIs here (control_unless leaves turn)
  unless-is true turn is = block_nil here
  unless-is false turn is = is

  left-is : (first : NodeCode) (rest : List NodeCode) (next : Option NodeCode) → FlagIs first.flag → FlagIs (leaving_flag (first ∷ rest) next)
  left-is first rest None flag = tt
  left-is first rest (Some next) flag = by (same_run (last_turn first rest).run next.run)
    where
      by : (same : Bool) → FlagIs (if same then first.flag else None)
      by true = flag
      by false = tt

  module _ (turns : List NodeCode) where
    -- the turn at a position has this
    abbrev pub TurnAt : (NodeCode → Type 0) → ℕ → Type 0
    TurnAt P k = (turn : NodeCode) → slice_get turns k ≡ Some turn → P turn

    -- nothing fails in what is asked before a turn
    abbrev pub AskedIs : ℕ → Type 0
    AskedIs = TurnAt (λ (turn : NodeCode). ExprIs here bool_type turn.test × FlagIs turn.flag)

    -- nothing fails in what its node does itself
    abbrev pub OwnIs : ℕ → Type 0
    OwnIs = TurnAt (λ (turn : NodeCode). BlockIs here turn.own)

    -- nothing fails in how its node goes on
    abbrev pub ControlIs : ℕ → Type 0
    ControlIs = TurnAt (λ (turn : NodeCode). BlockIs here turn.control)

    abbrev pub AllWithin : List ℕ → Type 0
    AllWithin ks = (k : ℕ) → Contains ks k → k < length turns

    abbrev blocks_at : List (List ℕ) → List (List NodeCode)
    blocks_at blocks = map (picked turns) blocks

    fused-is : ((k : ℕ) → OwnIs k) → (leaves : Bool) (k : ℕ) (block : List ℕ) (turn : NodeCode) → slice_get turns k ≡ Some turn → AllWithin block →
        ControlIs (last_of k block) → BlockIs here (fused_code leaves turn (picked turns block))
    fused-is own leaves k [] turn at inside last =
        block_append here turn.own (control_unless leaves turn) (own k turn at) (unless-is leaves turn (last turn at))
    fused-is own leaves k (j ∷ block) turn at inside last =
        let next = some_within turns j (inside j (contains_first j block)) in
        subst (λ (more : List NodeCode). BlockIs here (fused_code leaves turn more)) (sym (picked_first turns j block next.0 next.1))
        (block_append here turn.own (fused_code leaves next.0 (picked turns block)) (own k turn at)
        (fused-is own leaves j block next.0 next.1 (λ i there. inside i (contains_further j block i there)) last))

    merged-is : ((k : ℕ) → OwnIs k) → (before : Option ℕ) (leaves : Bool) (k : ℕ) (block : List ℕ) → AllWithin (k ∷ block) → FlagIs before →
        AskedIs k → ControlIs (last_of k block) → BlockIs here (merged_code word before leaves (picked turns (k ∷ block)))
    merged-is own before leaves k block inside flag asked last =
        let first = some_within turns k (inside k (contains_first k block)) in
        let test : CExpr = entered_by word before first.0.test in
        let code : List CStmt = fused_code leaves first.0 (picked turns block) in
        subst (λ (some : List NodeCode). BlockIs here (merged_code word before leaves some)) (sym (picked_first turns k block first.0 first.1))
        (block_one here (c_if test code None)
        (if-alone test code (entered-is before first.0.test flag (asked first.0 first.1).0)
        (fused-is own leaves k block first.0 first.1 (λ i there. inside i (contains_further k block i there)) last)))

    left_at-is : (k : ℕ) (block : List ℕ) (next : Option NodeCode) → AllWithin (k ∷ block) → AskedIs k →
        FlagIs (leaving_flag (picked turns (k ∷ block)) next)
    left_at-is k block next inside asked =
        let first = some_within turns k (inside k (contains_first k block)) in
        subst (λ (some : List NodeCode). FlagIs (leaving_flag some next)) (sym (picked_first turns k block first.0 first.1))
        (left-is first.0 (picked turns block) next (asked first.0 first.1).1)

    all_merged-is : ((k : ℕ) → OwnIs k) → (before : Option ℕ) (blocks : List (List ℕ)) → FlagIs before → AllWithin (joined blocks) →
        ((k : ℕ) → Contains (first_positions blocks) k → AskedIs k) → ((k : ℕ) → Contains (last_positions blocks) k → ControlIs k) →
        BlockIs here (all_merged word before (blocks_at blocks))
    all_merged-is own before [] flag inside asked last = block_nil here
    all_merged-is own before ([] ∷ rest) flag inside asked last = all_merged-is own None rest tt inside asked last
    all_merged-is own before ((k ∷ block) ∷ rest) flag inside asked last =
        let left : Option ℕ = leaving_flag (picked turns (k ∷ block)) (next_turn (blocks_at rest)) in
        let own_inside : AllWithin (k ∷ block) = λ i there. inside i (Contains-append_left (k ∷ block) (joined rest) i there) in
        let own_asked : AskedIs k = asked k (contains_first k (first_positions rest)) in
        block_append here (merged_code word before (is_some left) (picked turns (k ∷ block))) (all_merged word left (blocks_at rest))
        (merged-is own before (is_some left) k block own_inside flag own_asked
        (last (last_of k block) (contains_first (last_of k block) (last_positions rest))))
        (all_merged-is own left rest (left_at-is k block (next_turn (blocks_at rest)) own_inside own_asked)
        (λ i there. inside i (Contains-append_right (k ∷ block) (joined rest) i there))
        (λ i there. asked i (contains_further k (first_positions rest) i there)) (λ i there. last i (contains_further (last_of k block) (last_positions rest) i there)))

    -- nothing fails in blocks of such turns
    pub blocks-are : ((k : ℕ) → OwnIs k) → (blocks : List (List ℕ)) → AllWithin (joined blocks) →
        ((k : ℕ) → Contains (first_positions blocks) k → AskedIs k) → ((k : ℕ) → Contains (last_positions blocks) k → ControlIs k) →
        BlockIs here (blocks_code word turns blocks)
    blocks-are own blocks inside asked last = all_merged-is own None blocks tt inside asked last

other-is : (here : Context) (block : List CStmt) → BlockIs here block → (looped : Bool) → OtherIn here looped (else_code block)
other-is here [] is looped = refl
other-is here (s ∷ rest) is looped = is looped

module _ (units : List UnitDef) (entry k : ℕ) (a : Activity) (table : Table (Table CMember)) (known : Table Signature)
    (h : Here units entry k a table known)
    (acts : (s : Stmt) → is_act (out-StmtKind (out-Stmt s).what) ≡ true → fits (activity_view a).site s ≡ true →
    InActivity (activity_view a).site (copied_in_layer (copied units entry k a table known h) (out-StmtKind (out-Stmt s).what)) →
    BlockIs (context units entry k a table known h) (act_code (activity_view a).site (copies_of a.unit) s)) where
  abbrev here : Context
  here = context units entry k a table known h

  abbrev view : ActivityView
  view = activity_view a

  abbrev mine : ℕ → Bool
  mine = copied units entry k a table known h

  code-is : (e : Expr) (ty : Ty) → copied_in mine e ≡ true → type_of view.site e ≡ Some ty → ExprIs here (c_type a.structs ty) (code_made view.site e)
  code-is e ty named typed =
      code_typed view.site mine here (declared_here units entry k a table known h) h.well_typed.structs_stand (earlier_here units entry k a table known h)
      (typed_here units entry k a table known h) (plain_here units entry k a table known h) e ty (λ active. named) typed

  test-is : (e : Expr) → is_truth (type_of view.site e) ≡ true → copied_in mine e ≡ true → ExprIs here bool_type (code_made view.site e)
  test-is e truth named =
      let found = truth_there (type_of view.site e) truth in
      subst (λ t. ExprIs here t (code_made view.site e)) (c_scalar_type a.structs found.0 OfBool found.2) (code-is e found.0 named found.1)

  -- ---- acts

  returned-is : (e : Expr) → return_fits view.site (Some e) a.unit.result ≡ true → copied_in mine e ≡ true →
      BlockIs here (c_set result_place (code_made view.site e) ∷ [])
  returned-is e fitted named = by a.unit.result refl fitted
    where
      by : (r : Option ScalarType) → a.unit.result ≡ r → return_fits view.site (Some e) r ≡ true →
          BlockIs here (c_set result_place (code_made view.site e) ∷ [])
      by None is fitted = absurd (cc)
      by (Some s) is fitted =
          let same = same_found (Some (scalar s)) (type_of view.site e) fitted in
          let typed : type_of view.site e ≡ Some (scalar s) = same.2 ∙ sym same.1 in
          block_one here (c_set result_place (code_made view.site e))
          (put-is units entry k a table known h true (OfScalar (c_scalar s)) result_place (code_made view.site e)
          (result-is units entry k a table known h s is)
          (subst (λ t. ExprIs here t (code_made view.site e)) (c_scalar_type a.structs (scalar s) s (scalar_alone s)) (code-is e (scalar s) named typed)))

  act-is : (s : Stmt) (layer : StmtKind-F StmtKind Arm Branch Stmt) → out-StmtKind (out-Stmt s).what ≡ layer → is_act layer ≡ true →
      fits view.site s ≡ true → copied_in_layer mine layer ≡ true → BlockIs here (act_code view.site (copies_of a.unit) s)
  act-is s layer is act fitted named = acts s (ap is_act is ∙ act) fitted (λ active. ap (copied_in_layer mine) is ∙ named)

  nothing-is : (s : Stmt) (layer : StmtKind-F StmtKind Arm Branch Stmt) → out-StmtKind (out-Stmt s).what ≡ layer →
      layer_code view.site (copies_of a.unit) layer ≡ [] → BlockIs here (act_code view.site (copies_of a.unit) s)
  nothing-is s layer is none =
      subst (BlockIs here) (sym (ap (layer_code view.site (copies_of a.unit)) is ∙ none)) (block_nil here)

  acted-by : (s : Stmt) (layer : StmtKind-F StmtKind Arm Branch Stmt) → out-StmtKind (out-Stmt s).what ≡ layer → fits view.site s ≡ true →
      act_named mine layer ≡ true → BlockIs here (layer_acted view s layer)
  acted-by s (StmtKind-F.Return (Some e)) is fitted named =
      returned-is e (sym (fits_at view.site s (StmtKind-F.Return (Some e)) is) ∙ fitted) named
  acted-by s (StmtKind-F.Return None) is fitted named = block_nil here
  acted-by s (StmtKind-F.Declare j initial) is fitted named = act-is s (StmtKind-F.Declare j initial) is refl fitted named
  acted-by s (StmtKind-F.Assign path e) is fitted named = act-is s (StmtKind-F.Assign path e) is refl fitted named
  acted-by s (StmtKind-F.Call f inputs outputs) is fitted named = act-is s (StmtKind-F.Call f inputs outputs) is refl fitted named
  acted-by s (StmtKind-F.Await e) is fitted named = nothing-is s (StmtKind-F.Await e) is refl
  acted-by s (StmtKind-F.Run target f inputs outputs) is fitted named = nothing-is s (StmtKind-F.Run target f inputs outputs) is refl
  acted-by s (StmtKind-F.If arms other) is fitted named = nothing-is s (StmtKind-F.If arms other) is refl
  acted-by s (StmtKind-F.Cobegin branches) is fitted named = nothing-is s (StmtKind-F.Cobegin branches) is refl
  acted-by s (StmtKind-F.When guard e body) is fitted named = nothing-is s (StmtKind-F.When guard e body) is refl
  acted-by s (StmtKind-F.Repeat body) is fitted named = nothing-is s (StmtKind-F.Repeat body) is refl
  acted-by s (StmtKind-F.Until body e) is fitted named = nothing-is s (StmtKind-F.Until body e) is refl
  acted-by s (StmtKind-F.While e body) is fitted named = nothing-is s (StmtKind-F.While e body) is refl

  -- ---- nodes

  module _ (rule : Transition) (has : Contains (last_rules a) rule) where
    on_true-is : BlockIs here (changes_code view rule.on_true)
    on_true-is = changes-are units entry k a table known h rule.on_true (h.owns.on_true rule has)

    tested-is : (test : CExpr) → ExprIs here bool_type test → BlockIs here (test_code view test rule)
    tested-is test is =
        by (spelled_truth test)
      where
        others : List CStmt
        others = changes_code view rule.on_false

        other : BlockIs here others
        other = changes-are units entry k a table known h rule.on_false (h.owns.on_false rule has)

        by : (truth : Option Bool) → BlockIs here (choice_code test truth (changes_code view rule.on_true) others)
        by None =
            block_one here (c_if test (changes_code view rule.on_true) (else_code others))
            (if-is here test (changes_code view rule.on_true) (else_code others) is on_true-is (other-is here others other))
        by (Some true) = on_true-is
        by (Some false) = other

    resumed-is : (at : Place) (number u : ℕ) (arguments : Arguments) → Contains (runs_in_body a) (record { place = at; number = number; unit = u }) →
        run_stands view.site u arguments ≡ true → all_of (map (copied_in mine) arguments.inputs) ≡ true →
        BlockIs here (resumed_code view (run_word a.earlier number u) u arguments rule)
    resumed-is at number u arguments runs stand named =
        let run : RunAt = record { place = at; number = number; unit = u } in
        let n : NumberedWord = word_of_run a.earlier run in
        let fitted : run_fits view.site arguments.target arguments.inputs arguments.outputs (slice_get a.earlier u) ≡ true =
        and_first (run_fits view.site arguments.target arguments.inputs arguments.outputs (slice_get a.earlier u)) _ stand in
        let code : List CStmt = target_code view n arguments.target ++ changes_code view rule.on_true in
        let ends : Bool = may_end_in (slice_get a.earlier u) in
        block_append here (run_code view n u arguments) (stmt_where ends (c_if (c_read ended_place) code None))
        (call-is units entry k a table known h at number u runs arguments fitted named)
        (where-is units entry k a table known h ends (c_if (c_read ended_place) code None)
        (λ may. if-is here (c_read ended_place) code None
        (read-is here false bool_type ended_place (ended-is units entry k a table known h run runs may))
        (block_append here (target_code view n arguments.target) (changes_code view rule.on_true)
        (target-is units entry k a table known h at number u runs arguments fitted) on_true-is) (λ looped. refl)))

    control-is : (u : ℕ) (n : Node) → node_fits view.site u n ≡ true → named_there mine n ≡ true → HasRun view.run (runs_in_body a) u n →
        BlockIs here (control_code view u rule n)
    control-is u (ActAt l s) fit named runs = on_true-is
    control-is u (TestAt l at e) fit named runs =
        tested-is (code_made view.site e) (test-is e (and_first (is_truth (type_of view.site e)) _ fit) named)
    control-is u (CheckAt l at e) fit named runs =
        tested-is (code_made view.site e) (test-is e (and_first (is_truth (type_of view.site e)) _ fit) named)
    control-is u (EnterAt l at arguments) fit named runs =
        call-is units entry k a table known h at (view.run at) u runs arguments
        (and_first (run_fits view.site arguments.target arguments.inputs arguments.outputs (slice_get a.earlier u)) _ fit) named
    control-is u (ResumeAt l at arguments) fit named runs = resumed-is at (view.run at) u arguments runs fit named
    control-is u (PauseAt l at) fit named runs = on_true-is
    control-is u (HeadAt l at) fit named runs = on_true-is
    control-is u (StartAt l at) fit named runs = on_true-is
    control-is u (SurfaceEndAt l at) fit named runs = on_true-is
    control-is u (DepthEndAt l at) fit named runs = on_true-is
    control-is u (ForkAt l at) fit named runs = on_true-is
    control-is u (SurfaceJoinAt l at) fit named runs = on_true-is
    control-is u (DepthJoinAt l at) fit named runs = on_true-is

  -- the start of a `run` sets a counter of which a rule asks what it held
  starts-own : (rule : Transition) → SetsAsked (rules_at a) rule.on_true → list_all (changes_its_own view.number (registered a)) rule.on_true ≡ true
  starts-own rule sets =
      let reads : view.is_read sets.slot.counter ≡ true =
      any_from (λ (other : Transition). reads_counter sets.slot.counter other.condition) (rules_at a) sets.rule sets.there
      (ap (reads_counter sets.slot.counter) sets.asks ∙ eq-eqb sets.slot.counter sets.slot.counter refl) in
      ap (list_all (changes_its_own view.number (registered a))) sets.sets
      ∙ and_from (nat_lt sets.slot.counter (length a.sizes)) true (lt-ltb sets.slot.counter (length a.sizes) (h.owns.read sets.slot.counter reads)) refl

  begun-is : (at : Place) (number u : ℕ) (rule : Transition) → Contains (runs_in_body a) (record { place = at; number = number; unit = u }) →
      SetsAsked (rules_at a) rule.on_true → BlockIs here (begun_code view (run_word a.earlier number u) u rule)
  begun-is at number u rule runs sets =
      let run : RunAt = record { place = at; number = number; unit = u } in
      let n : NumberedWord = word_of_run a.earlier run in
      let name : Text = frame_name (name_in (slice_get a.earlier u)) in
      block_cons here (c_clear (callee_frame n) name) (changes_code view rule.on_true)
      (clear-is here true (callee_frame n) name (frame_at-is units entry k a table known h run runs) (h.stands.frames run runs) refl)
      (changes-are units entry k a table known h rule.on_true (starts-own rule sets))

  own-is : (u : ℕ) (rule : Transition) (n : Node) → node_fits view.site u n ≡ true → named_there mine n ≡ true →
      HasRun view.run (runs_in_body a) u n → NodeSets (rules_at a) n rule.on_true → BlockIs here (own_code view u rule n)
  own-is u rule (ActAt l s) fit named runs sets = acted-by s (out-StmtKind (out-Stmt s).what) refl (and_first (fits view.site s) _ fit) named
  own-is u rule (TestAt l at e) fit named runs sets = block_nil here
  own-is u rule (CheckAt l at e) fit named runs sets = block_nil here
  own-is u rule (EnterAt l at arguments) fit named runs sets = begun-is at (view.run at) u rule runs sets
  own-is u rule (ResumeAt l at arguments) fit named runs sets = block_nil here
  own-is u rule (PauseAt l at) fit named runs sets = block_nil here
  own-is u rule (HeadAt l at) fit named runs sets = block_nil here
  own-is u rule (StartAt l at) fit named runs sets = block_nil here
  own-is u rule (SurfaceEndAt l at) fit named runs sets = block_nil here
  own-is u rule (DepthEndAt l at) fit named runs sets = block_nil here
  own-is u rule (ForkAt l at) fit named runs sets = block_nil here
  own-is u rule (SurfaceJoinAt l at) fit named runs sets = block_nil here
  own-is u rule (DepthJoinAt l at) fit named runs sets = block_nil here

  -- ---- turns by their positions

  -- the rule of the turn at a position, and the activity that its node calls
  record RuleOf (rules : List Transition) (p : ℕ) (turn : NodeCode) : Type 0 where
    rule : Transition
    unit : ℕ
    at : slice_get rules p ≡ Some rule
    is : node_turn view unit rule ≡ turn
    fit : node_fits view.site unit rule.node ≡ true
    runs : HasRun view.run (runs_in_body a) unit rule.node

  rule_of : (callees : List ℕ) (rules : List Transition) (p : ℕ) (turn : NodeCode) → all_fit a.sizes view.site callees rules ≡ true →
      Pairs (RuleRuns view.run (runs_in_body a)) callees rules → slice_get (turns_of view callees rules) p ≡ Some turn → RuleOf rules p turn
  rule_of [] rules p turn all runs is = absurd (cc)
  rule_of (u ∷ callees) [] p turn all runs is = absurd (cc)
  rule_of (u ∷ callees) (rule ∷ rules) zero turn all runs is =
      let own = and_first (rule_fits a.sizes rule && node_fits view.site u rule.node) (all_fit a.sizes view.site callees rules) all in
      record {
        rule = rule;
        unit = u;
        at = refl;
        is = same_Some (node_turn view u rule) turn is;
        fit = and_second (rule_fits a.sizes rule) (node_fits view.site u rule.node) own;
        runs = runs.0;
      }
  rule_of (u ∷ callees) (rule ∷ rules) (suc p) turn all runs is =
      let rest = and_second (rule_fits a.sizes rule && node_fits view.site u rule.node) (all_fit a.sizes view.site callees rules) all in
      let found = rule_of callees rules p turn rest runs.1 is in
      record { rule = found.rule; unit = found.unit; at = found.at; is = found.is; fit = found.fit; runs = found.runs }

  module _ (runs : Pairs (RuleRuns view.run (runs_in_body a)) (callees_in (body_of a)) (rules_at a)) where
    abbrev turns : List NodeCode
    turns = turns_in_source a

    of_turn : (p : ℕ) (turn : NodeCode) → slice_get turns p ≡ Some turn → RuleOf (rules_at a) p turn
    of_turn p turn at = rule_of (callees_in (body_of a)) (rules_at a) p turn h.fitted runs at

    named : (rule : Transition) (p : ℕ) → slice_get (rules_at a) p ≡ Some rule → named_there mine rule.node ≡ true
    named rule p at = h.copies.named rule (contains_at (rules_at a) p rule at)

    pub owns-are : (p : ℕ) → OwnIs here view.word turns p
    owns-are p turn at =
        let found = of_turn p turn at in
        subst (λ (turn : NodeCode). BlockIs here turn.own) found.is
        (own-is found.unit found.rule found.rule.node found.fit (named found.rule p found.at) found.runs
        (start-sets a.slots (body_of a) found.rule (contains_at (rules_at a) p found.rule found.at)))

    flag-of : (n : Node) (condition : Condition) → asks_its_own view (registered a) n condition ≡ true → FlagIs here view.word (flag_asked view n condition)
    flag-of n Flagged on = guard-is units entry k a table known h n Flagged on
    flag-of n (Rested slot) on = tt
    flag-of n (RestedIn slots) on = tt
    flag-of n (Ended age needed) on = tt

    pub asked-are : (p : ℕ) → Contains (first_positions a.blocks) p → AskedIs here view.word turns p
    asked-are p first turn at =
        let found = of_turn p turn at in
        let on = h.owns.asks found.rule (picked-has (rules_at a) (first_positions a.blocks) p found.rule first found.at) in
        subst (λ (turn : NodeCode). ExprIs here bool_type turn.test × FlagIs here view.word turn.flag) found.is
        (guard-is units entry k a table known h found.rule.node found.rule.condition on, flag-of found.rule.node found.rule.condition on)

    pub controls-are : (p : ℕ) → Contains (last_positions a.blocks) p → ControlIs here view.word turns p
    controls-are p last turn at =
        let found = of_turn p turn at in
        subst (λ (turn : NodeCode). BlockIs here turn.control) found.is
        (control-is found.rule (picked-has (rules_at a) (last_positions a.blocks) p found.rule last found.at) found.unit found.rule.node found.fit
        (named found.rule p found.at) found.runs)
