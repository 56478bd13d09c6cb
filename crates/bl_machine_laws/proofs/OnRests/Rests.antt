-- A statement that fits, may not end in the tick in which it begins, and has no loop whose body may, has a resting place.
use Rattle.std.proofs.Common.{◌≡◌, ℕ, suc, ◌+◌, ◌<◌, arith, Bool, true, false, ◌&&◌, ◌||◌, List, [], ◌∷◌, ◌++◌, map}
use Rattle.std.proofs.Common.{Option, refl, sym, ap, ◌∙◌, subst}
use Rattle.std.proofs.lemmas.List.Elements.{All-head, All-tail}
use Rattle.std.specs.Prelude.{if◌then◌else◌}
use Rattle.bl_tree.proofs.Basics.{and_first, and_second, both_empty}
use Rattle.bl_tree.specs.declared.place.Place.{Place}
use Rattle.bl_tree.specs.declared.tree.Arm.{Arm, fold-Arm, fold_out-Arm, out-Arm}
use Rattle.bl_tree.specs.declared.tree.Branch.{Branch, fold-Branch}
use Rattle.bl_tree.specs.declared.tree.Expr.{Expr}
use Rattle.bl_tree.specs.declared.tree.Guard.{Guard}
use Rattle.bl_tree.specs.declared.tree.Path.{Path}
use Rattle.bl_tree.specs.declared.tree.Stmt.{Stmt, fold-roll-Stmt}
use Rattle.bl_tree.specs.declared.tree.StmtKind.{fold-roll-StmtKind}
use Rattle.bl_tree.specs.declared.tree.StmtKind.TheOpen.{StmtKind-F}
use Rattle.bl_tree.specs.Instant.{BranchInstant, arm_instant, branch_ends, instant, kind_instant, stmt_instant}
use Rattle.bl_tree.specs.Reduce.{all_of, any_of}
use Rattle.bl_tree.specs.Typing.{TypingContext, arm_fits, branch_fits, fits, is_activity, is_inhabited, is_truth, kind_fits, stmt_fits, type_of}
use Rattle.bl_tree.proofs.StmtInduction.{Cases, Each, EachArm, EachBranch, induct, stmt}
use Rattle.bl_effects.specs.Rules.{BranchLoops, Loops, arm_loops, block_ends, block_loops, branch_loops, kind_loops, loop_places, loops_in, stmt_loops}
use Rattle.bl_graph_nodes.specs.Plain.{Arm as PlainArm, Await, Block, Branch as PlainBranch, Cobegin, Label, Plain, Position, Repeat, Run}
use Rattle.bl_graph_nodes.specs.Plain.{Until, When, arm_plain, block_at, block_from, bodies_from, branch_plain, else_at, if_with, inside, kind_plain}
use Rattle.bl_graph_nodes.specs.Plain.{label_at, passed_one, plain_body, plain_stmt, stmt_plain}
use Rattle.bl_machine.specs.Layout.{places_in, places_in_each, resting_places}

-- ---- answers

both_false : (a b : Bool) → (a || b) ≡ false → (a ≡ false) × (b ≡ false)
both_false false b h = (refl, h)
both_false true b h = absurd (cc)

none_where : {A : Type 0} (test : Bool) (x : A) → (if test then x ∷ [] else []) ≡ [] → test ≡ false
none_where true x h = absurd (cc)
none_where false x h = refl

more_first : (a b : ℕ) → 0 < a → 0 < a + b
more_first a b h = omega (arith, h)

more_second : (a b : ℕ) → 0 < b → 0 < a + b
more_second a b h = omega (arith, h)

abbrev pub plain_arm : Arm → PlainArm
plain_arm = fold-Arm (Place → Position → Plain) PlainArm PlainBranch (Position → Plain) kind_plain arm_plain branch_plain stmt_plain

abbrev pub plain_branch : Branch → PlainBranch
plain_branch = fold-Branch (Place → Position → Plain) PlainArm PlainBranch (Position → Plain) kind_plain arm_plain branch_plain stmt_plain

abbrev loops_of_arm : Arm → Loops
loops_of_arm = fold-Arm (Place → Loops) Loops BranchLoops Loops kind_loops arm_loops branch_loops stmt_loops

abbrev instant_of_arm : Arm → Bool
instant_of_arm = fold-Arm Bool Bool BranchInstant Bool kind_instant arm_instant branch_ends stmt_instant

module _ (agree : (s : Stmt) → (loops_in s).instant ≡ instant s) (site : TypingContext) where
  abbrev S : Stmt → Type 0
  S s = fits site s ≡ true → (loops_in s).places ≡ [] → instant s ≡ false → (at : Position) → 0 < resting_places (plain_stmt s at)

  -- blocks
  abbrev Fitted : List Stmt → Type 0
  Fitted body = all_of (map (fits site) body) ≡ true

  abbrev Paced : List Stmt → Type 0
  Paced body = block_loops (map loops_in body) ≡ []

  abbrev Rests : Block → Type 0
  Rests body = 0 < places_in body

  block_agrees : (body : List Stmt) → block_ends (map loops_in body) ≡ all_of (map instant body)
  block_agrees [] = refl
  block_agrees (s ∷ body) = λ i. agree s i && block_agrees body i

  blocks_rest : (body : List Stmt) → Each S body → Fitted body → Paced body → all_of (map instant body) ≡ false → (k : ℕ) (at : Position) →
      Rests (block_from (map plain_stmt body) k at)
  blocks_rest [] each fitted paced ends k at = absurd (cc)
  blocks_rest (s ∷ body) each fitted paced ends k at =
      let none = both_empty (loops_in s).places (block_loops (map loops_in body)) paced in
      let first : ℕ = resting_places (plain_stmt s (at ++ k ∷ [])) in
      let others : ℕ = places_in (block_from (map plain_stmt body) (suc k) at) in
      by (instant s) refl ends first others
      (λ here. All-head S s body each (and_first (fits site s) (all_of (map (fits site) body)) fitted) none.0 here (at ++ k ∷ []))
      (λ here.
      blocks_rest body (All-tail S s body each) (and_second (fits site s) (all_of (map (fits site) body)) fitted) none.1 here (suc k) at)
    where
      by : (b : Bool) → instant s ≡ b → (b && all_of (map instant body)) ≡ false → (first others : ℕ) → (instant s ≡ false → 0 < first) →
          (all_of (map instant body) ≡ false → 0 < others) → 0 < first + others
      by true is ends first others one rest = more_second first others (rest ends)
      by false is ends first others one rest = more_first first others (one is)

  -- ---- arms

  abbrev arm_fitted : Arm → Bool
  arm_fitted = fold-Arm Bool Bool Bool Bool (kind_fits site) (arm_fits site) branch_fits stmt_fits

  abbrev branch_fitted : Branch → Bool
  branch_fitted = fold-Branch Bool Bool Bool Bool (kind_fits site) (arm_fits site) branch_fits stmt_fits

  abbrev OfArm : Arm → Type 0
  OfArm arm = Each S (out-Arm arm).body

  arm_rests : (arm : Arm) → OfArm arm → arm_fitted arm ≡ true → (loops_of_arm arm).places ≡ [] → instant_of_arm arm ≡ false →
      (at : Position) → Rests ((plain_arm arm).body at)
  arm_rests arm each fitted paced ends at =
      let body : List Stmt = (out-Arm arm).body in
      let fits_so : (is_truth (type_of site (out-Arm arm).test) && all_of (map (fits site) body)) ≡ true =
      sym (fold_out-Arm Bool Bool Bool Bool (kind_fits site) (arm_fits site) branch_fits stmt_fits arm) ∙ fitted in
      let paced_so : Paced body =
      ap (λ (loops : Loops). loops.places)
      (sym (fold_out-Arm (Place → Loops) Loops BranchLoops Loops kind_loops arm_loops branch_loops stmt_loops arm)) ∙ paced in
      let ends_so : all_of (map instant body) ≡ false =
      sym (fold_out-Arm Bool Bool BranchInstant Bool kind_instant arm_instant branch_ends stmt_instant arm) ∙ ends in
      subst (λ (arm : PlainArm). Rests (arm.body at))
      (sym (fold_out-Arm (Place → Position → Plain) PlainArm PlainBranch (Position → Plain) kind_plain arm_plain branch_plain stmt_plain arm))
      (blocks_rest body each (and_second (is_truth (type_of site (out-Arm arm).test)) (all_of (map (fits site) body)) fits_so) paced_so ends_so 0 at)

  with_rests : (l : Label) (place : Place) (arms : List Arm) (other : Position → Block) → EachArm S arms →
      is_inhabited (map arm_fitted arms) ≡ true → all_of (map arm_fitted arms) ≡ true → block_loops (map loops_of_arm arms) ≡ [] →
      any_of (map instant_of_arm arms) ≡ false → 0 < resting_places (if_with l place (map plain_arm arms) other)
  with_rests l place [] other each some fitted paced ends = absurd (cc)
  with_rests l place (arm ∷ arms) other each some fitted paced ends =
      let none = both_empty (loops_of_arm arm).places (block_loops (map loops_of_arm arms)) paced in
      let no = both_false (instant_of_arm arm) (any_of (map instant_of_arm arms)) ends in
      more_first (places_in ((plain_arm arm).body (inside l 0))) (places_in (else_at (passed_one l) (map plain_arm arms) other))
      (arm_rests arm (All-head OfArm arm arms each) (and_first (arm_fitted arm) (all_of (map arm_fitted arms)) fitted) none.0 no.0 (inside l 0))

  branches_rest : (l : Label) (branches : List Branch) → is_inhabited (map branch_fitted branches) ≡ true →
      0 < places_in_each (bodies_from (map plain_branch branches) 0 l)
  branches_rest l [] some = absurd (cc)
  branches_rest l (branch ∷ branches) some =
      first_place (places_in ((plain_branch branch).body (inside l 0))) (places_in_each (bodies_from (map plain_branch branches) 1 l))
    where
      first_place : (a b : ℕ) → 0 < suc a + b
      first_place a b = omega arith

  -- ---- all statements

  as_rests : (s p : Plain) → s ≡ p → 0 < resting_places p → 0 < resting_places s
  as_rests s p is rests = subst (λ p. 0 < resting_places p) (sym is) rests

  -- a statement that may end at once is none that is asked for
  no_case : (s : Stmt) → instant s ≡ true → S s
  no_case s is fitted paced ends at = absurd (by (sym is ∙ ends))
    where
      by : true ≡ false → ⊥
      by h = absurd (cc)

  module _ (place : Place) where
    await_plain : (e : Expr) (at : Position) → plain_stmt (stmt place (StmtKind-F.Await e)) at ≡ Await (label_at at) place e
    await_plain e at = rw (fold-roll-Stmt, fold-roll-StmtKind) refl

    run_plain : (target : Option Path) (a : ℕ) (inputs : List Expr) (outputs : List Path) (at : Position) →
        plain_stmt (stmt place (StmtKind-F.Run target a inputs outputs)) at ≡ Run (label_at at) place target a inputs outputs
    run_plain target a inputs outputs at = rw (fold-roll-Stmt, fold-roll-StmtKind) refl

    if_plain : (arms : List Arm) (other : List Stmt) (at : Position) → plain_stmt (stmt place (StmtKind-F.If arms other)) at
        ≡ if_with (label_at at) place (map plain_arm arms) (block_at (map plain_stmt other))
    if_plain arms other at = rw (fold-roll-Stmt, fold-roll-StmtKind) refl

    cobegin_plain : (branches : List Branch) (at : Position) → plain_stmt (stmt place (StmtKind-F.Cobegin branches)) at
        ≡ Cobegin (label_at at) place (bodies_from (map plain_branch branches) 0 (label_at at))
    cobegin_plain branches at = rw (fold-roll-Stmt, fold-roll-StmtKind) refl

    when_plain : (guard : Guard) (e : Expr) (body : List Stmt) (at : Position) → plain_stmt (stmt place (StmtKind-F.When guard e body)) at
        ≡ When (label_at at) place guard e (block_at (map plain_stmt body) (inside (label_at at) 0))
    when_plain guard e body at = rw (fold-roll-Stmt, fold-roll-StmtKind) refl

    repeat_plain : (body : List Stmt) (at : Position) → plain_stmt (stmt place (StmtKind-F.Repeat body)) at
        ≡ Repeat (label_at at) place (block_at (map plain_stmt body) (inside (label_at at) 0))
    repeat_plain body at = rw (fold-roll-Stmt, fold-roll-StmtKind) refl

    until_plain : (body : List Stmt) (e : Expr) (at : Position) → plain_stmt (stmt place (StmtKind-F.Until body e)) at
        ≡ Until (label_at at) place (block_at (map plain_stmt body) (inside (label_at at) 0)) e
    until_plain body e at = rw (fold-roll-Stmt, fold-roll-StmtKind) refl

    one_place : 0 < 1
    one_place = omega arith

    await_case : (e : Expr) → S (stmt place (StmtKind-F.Await e))
    await_case e fitted paced ends at = as_rests _ _ (await_plain e at) one_place

    run_case : (target : Option Path) (a : ℕ) (inputs : List Expr) (outputs : List Path) → S (stmt place (StmtKind-F.Run target a inputs outputs))
    run_case target a inputs outputs fitted paced ends at = as_rests _ _ (run_plain target a inputs outputs at) one_place

    branching_case : (arms : List Arm) (other : List Stmt) → EachArm S arms → Each S other → S (stmt place (StmtKind-F.If arms other))
    branching_case arms other each others fitted paced ends at =
        let parts : (is_inhabited (map arm_fitted arms) && (all_of (map arm_fitted arms) && all_of (map (fits site) other))) ≡ true =
        rw (fold-roll-Stmt, fold-roll-StmtKind) at fitted in
        let some = and_first (is_inhabited (map arm_fitted arms)) (all_of (map arm_fitted arms) && all_of (map (fits site) other)) parts in
        let more = and_second (is_inhabited (map arm_fitted arms)) (all_of (map arm_fitted arms) && all_of (map (fits site) other)) parts in
        let loops : block_loops (map loops_of_arm arms) ++ block_loops (map loops_in other) ≡ [] =
        rw (fold-roll-Stmt, fold-roll-StmtKind) at paced in
        let no : (any_of (map instant_of_arm arms) || all_of (map instant other)) ≡ false =
        rw (fold-roll-Stmt, fold-roll-StmtKind) at ends in
        as_rests _ _ (if_plain arms other at)
        (with_rests (label_at at) place arms (block_at (map plain_stmt other)) each some
        (and_first (all_of (map arm_fitted arms)) (all_of (map (fits site) other)) more)
        (both_empty (block_loops (map loops_of_arm arms)) (block_loops (map loops_in other)) loops).0
        (both_false (any_of (map instant_of_arm arms)) (all_of (map instant other)) no).0)

    cobegin_case : (branches : List Branch) → EachBranch S branches → S (stmt place (StmtKind-F.Cobegin branches))
    cobegin_case branches each fitted paced ends at =
        let parts : (is_activity site.kind && (is_inhabited (map branch_fitted branches) && all_of (map branch_fitted branches))) ≡ true =
        rw (fold-roll-Stmt, fold-roll-StmtKind) at fitted in
        as_rests _ _ (cobegin_plain branches at)
        (branches_rest (label_at at) branches
        (and_first (is_inhabited (map branch_fitted branches)) (all_of (map branch_fitted branches))
        (and_second (is_activity site.kind) (is_inhabited (map branch_fitted branches) && all_of (map branch_fitted branches)) parts)))

    guarded_case : (guard : Guard) (e : Expr) (body : List Stmt) → Each S body → S (stmt place (StmtKind-F.When guard e body))
    guarded_case guard e body each fitted paced ends at =
        let parts : (is_activity site.kind && (is_truth (type_of site e) && all_of (map (fits site) body))) ≡ true =
        rw (fold-roll-Stmt, fold-roll-StmtKind) at fitted in
        let loops : Paced body = rw (fold-roll-Stmt, fold-roll-StmtKind) at paced in
        let no : all_of (map instant body) ≡ false = rw (fold-roll-Stmt, fold-roll-StmtKind) at ends in
        as_rests _ _ (when_plain guard e body at)
        (blocks_rest body each (and_second (is_truth (type_of site e)) (all_of (map (fits site) body))
        (and_second (is_activity site.kind) (is_truth (type_of site e) && all_of (map (fits site) body)) parts)) loops no 0 (inside (label_at at) 0))

    loop_paced : (body : List Stmt) → loop_places place (map loops_in body) ≡ [] → Paced body × (all_of (map instant body) ≡ false)
    loop_paced body loops =
        let none = both_empty (block_loops (map loops_in body)) (if block_ends (map loops_in body) then place ∷ [] else []) loops in
        (none.0, sym (block_agrees body) ∙ none_where (block_ends (map loops_in body)) place none.1)

    repeat_case : (body : List Stmt) → Each S body → S (stmt place (StmtKind-F.Repeat body))
    repeat_case body each fitted paced ends at =
        let fits_so : Fitted body = rw (fold-roll-Stmt, fold-roll-StmtKind) at fitted in
        let loops : loop_places place (map loops_in body) ≡ [] = rw (fold-roll-Stmt, fold-roll-StmtKind) at paced in
        let own = loop_paced body loops in
        as_rests _ _ (repeat_plain body at) (blocks_rest body each fits_so own.0 own.1 0 (inside (label_at at) 0))

    until_case : (body : List Stmt) (e : Expr) → Each S body → S (stmt place (StmtKind-F.Until body e))
    until_case body e each fitted paced ends at =
        let parts : (all_of (map (fits site) body) && is_truth (type_of site e)) ≡ true = rw (fold-roll-Stmt, fold-roll-StmtKind) at fitted in
        let loops : loop_places place (map loops_in body) ≡ [] = rw (fold-roll-Stmt, fold-roll-StmtKind) at paced in
        let own = loop_paced body loops in
        as_rests _ _ (until_plain body e at)
        (blocks_rest body each (and_first (all_of (map (fits site) body)) (is_truth (type_of site e)) parts) own.0 own.1 0 (inside (label_at at) 0))

    declare_instant : (k : ℕ) (initial : Option Expr) → instant (stmt place (StmtKind-F.Declare k initial)) ≡ true
    declare_instant k initial = rw (fold-roll-Stmt, fold-roll-StmtKind) refl

    assign_instant : (path : Path) (e : Expr) → instant (stmt place (StmtKind-F.Assign path e)) ≡ true
    assign_instant path e = rw (fold-roll-Stmt, fold-roll-StmtKind) refl

    call_instant : (f : ℕ) (inputs : List Expr) (outputs : List Path) → instant (stmt place (StmtKind-F.Call f inputs outputs)) ≡ true
    call_instant f inputs outputs = rw (fold-roll-Stmt, fold-roll-StmtKind) refl

    while_instant : (e : Expr) (body : List Stmt) → instant (stmt place (StmtKind-F.While e body)) ≡ true
    while_instant e body = rw (fold-roll-Stmt, fold-roll-StmtKind) refl

    return_instant : (e : Option Expr) → instant (stmt place (StmtKind-F.Return e)) ≡ true
    return_instant e = rw (fold-roll-Stmt, fold-roll-StmtKind) refl

  cases : Cases S
  cases = record {
    declare = λ place k initial. no_case (stmt place (StmtKind-F.Declare k initial)) (declare_instant place k initial);
    assign = λ place path e. no_case (stmt place (StmtKind-F.Assign path e)) (assign_instant place path e);
    call = λ place f inputs outputs. no_case (stmt place (StmtKind-F.Call f inputs outputs)) (call_instant place f inputs outputs);
    await = await_case;
    run = run_case;
    branching = branching_case;
    cobegin = cobegin_case;
    guarded = guarded_case;
    repeat = repeat_case;
    until = until_case;
    while = λ place e body each. no_case (stmt place (StmtKind-F.While e body)) (while_instant place e body);
    returns = λ place e. no_case (stmt place (StmtKind-F.Return e)) (return_instant place e);
  }

  -- a body that may not end at once, and has no loop whose body may, has a resting place
  pub body_rests : (body : List Stmt) → all_of (map (fits site) body) ≡ true → block_loops (map loops_in body) ≡ [] →
      all_of (map instant body) ≡ false → 0 < places_in (plain_body body)
  body_rests body fitted paced ends = blocks_rest body (λ k d within. induct S cases _) fitted paced ends 0 []
