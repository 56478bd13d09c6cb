-- What is done at the nodes of statements that fit and whose calls don't overlap.
use Rattle.std.proofs.Common.{◌≡◌, ℕ, suc, Bool, true, false, not, ◌&&◌, ◌||◌, List, [], ◌∷◌, ◌++◌, map, Option, None, refl}
use Rattle.std.proofs.Common.{sym, ap, ◌∙◌, subst}
use Rattle.std.proofs.lemmas.List.Elements.{All-head, All-tail}
use Rattle.std.specs.List.{list_all}
use Rattle.std.proofs.lemmas.Bool.{and_from}
use Rattle.bl_tree.proofs.Basics.{and_first, and_second, both_empty}
use Rattle.bl_tree.specs.declared.place.Place.{Place}
use Rattle.bl_tree.specs.declared.tree.Arm.{Arm, fold-Arm, fold_out-Arm, out-Arm}
use Rattle.bl_tree.specs.declared.tree.Branch.{Branch, fold-Branch, fold_out-Branch, out-Branch}
use Rattle.bl_tree.specs.declared.tree.Expr.{Expr}
use Rattle.bl_tree.specs.declared.tree.Guard.{Guard}
use Rattle.bl_tree.specs.declared.tree.Path.{Path}
use Rattle.bl_tree.specs.declared.tree.Stmt.{Stmt, fold-roll-Stmt, out-Stmt, out-roll-Stmt}
use Rattle.bl_tree.specs.declared.tree.StmtKind.{StmtKind, fold-roll-StmtKind, out-StmtKind, out-roll-StmtKind, roll-StmtKind}
use Rattle.bl_tree.specs.declared.tree.StmtKind.TheOpen.{StmtKind-F}
use Rattle.bl_tree.specs.Reduce.{all_of, joined}
use Rattle.bl_tree.specs.Returns.{is_return_kind}
use Rattle.bl_tree.specs.Typing.{TypingContext, arm_fits, branch_fits, fits, is_activity, is_inhabited, is_truth, kind_fits, stmt_fits, type_of}
use Rattle.bl_tree.proofs.StmtInduction.{Cases, Each, EachArm, EachBranch, induct, stmt}
use Rattle.bl_effects.specs.Rules.{Aliased, aliases_in, aliases_of, arm_aliases, branch_aliases, kind_aliases, stmt_aliases}
use Rattle.bl_graph_nodes.specs.Nodes.{ActAt, CheckAt, DepthEndAt, DepthJoinAt, EnterAt, ForkAt, HeadAt, Node, PauseAt, ResumeAt}
use Rattle.bl_graph_nodes.specs.Nodes.{StartAt, SurfaceEndAt, SurfaceJoinAt, TestAt, are_instant, arguments_of, is_instant}
use Rattle.bl_graph_nodes.specs.Nodes.{nodes_in, nodes_in_each, nodes_of, where_so}
use Rattle.bl_graph_nodes.specs.Plain.{Act, Arm as PlainArm, Await, Block, Bodies, Branch as PlainBranch, Cobegin, Done, If}
use Rattle.bl_graph_nodes.specs.Plain.{Label, Plain, Position, Repeat, Run, Then, Until, When}
use Rattle.bl_graph_nodes.specs.Plain.{While, arm_plain, block_at, block_from, bodies_from, branch_plain, else_at, if_with}
use Rattle.bl_graph_nodes.specs.Plain.{inside, kind_plain, label_at, passed_one, place_of_test, plain_body, plain_stmt, stmt_plain}
use Rattle.bl_emit_acts_laws_simulation.specs.Acts.{is_act}
use Rattle.bl_emit_acts_laws_simulation.specs.Laws.{overlaps_in}
use Rattle.bl_emit_spec_laws_nodes.specs.Points.Nodes.{fits_there}
use Rattle.bl_emit_spec_laws_nodes.proofs.OnCopied.Statements.{truth_fine}
use Rattle.bl_machine_laws.proofs.OnRests.Rests.{plain_branch, plain_arm}
use Rattle.bl_ctree_laws_confluence.proofs.OnDeeds.Aliases.{arm_aliased, branch_aliased}

-- whether nothing overlaps in the arguments of what is done at the node
abbrev pub apart_there : Node → Bool
apart_there (ActAt l s) = not (is_inhabited (overlaps_in (out-StmtKind (out-Stmt s).what)))
apart_there n = true

-- whether the node is fine
abbrev pub is_fine : TypingContext → Node → Bool
is_fine site n = fits_there site n && apart_there n

-- all of these are
pub record Fine (site : TypingContext) (nodes : List Node) : Type 0 where
  pub all : list_all (is_fine site) nodes ≡ true

abbrev FinePlain : TypingContext → Plain → Type 0
FinePlain site s = Fine site (nodes_of s)

abbrev FineBlock : TypingContext → Block → Type 0
FineBlock site body = Fine site (nodes_in body)

nothing : (site : TypingContext) → Fine site []
nothing site = record { all = refl }

one_more : (site : TypingContext) (n : Node) (nodes : List Node) → is_fine site n ≡ true → Fine site nodes → Fine site (n ∷ nodes)
one_more site n nodes own rest = record { all = and_from (is_fine site n) (list_all (is_fine site) nodes) own rest.all }

appended : (site : TypingContext) (ms ns : List Node) → list_all (is_fine site) ms ≡ true → list_all (is_fine site) ns ≡ true →
    list_all (is_fine site) (ms ++ ns) ≡ true
appended site [] ns one other = other
appended site (m ∷ ms) ns one other =
    and_from (is_fine site m) (list_all (is_fine site) (ms ++ ns)) (and_first (is_fine site m) (list_all (is_fine site) ms) one)
    (appended site ms ns (and_second (is_fine site m) (list_all (is_fine site) ms) one) other)

append_fine : (site : TypingContext) (ms ns : List Node) → Fine site ms → Fine site ns → Fine site (ms ++ ns)
append_fine site ms ns one other = record { all = appended site ms ns one.all other.all }

where_fine : (site : TypingContext) (test : Bool) (n : Node) → is_fine site n ≡ true → Fine site (where_so test n)
where_fine site true n own = one_more site n [] own (nothing site)
where_fine site false n own = nothing site

module _ (site : TypingContext) where
  abbrev S : Stmt → Type 0
  S s = fits site s ≡ true → aliases_in s ≡ [] → (at : Position) → FinePlain site (plain_stmt s at)

  blocks_fine : (body : List Stmt) → Each S body → all_of (map (fits site) body) ≡ true → joined (map aliases_in body) ≡ [] → (k : ℕ)
      (at : Position) → FineBlock site (block_from (map plain_stmt body) k at)
  blocks_fine [] each fitted apart k at = nothing site
  blocks_fine (s ∷ body) each fitted apart k at =
      let none = both_empty (aliases_in s) (joined (map aliases_in body)) apart in
      append_fine site (nodes_of (plain_stmt s (at ++ k ∷ []))) (nodes_in (block_from (map plain_stmt body) (suc k) at))
      (All-head S s body each (and_first (fits site s) (all_of (map (fits site) body)) fitted) none.0 (at ++ k ∷ []))
      (blocks_fine body (All-tail S s body each) (and_second (fits site s) (all_of (map (fits site) body)) fitted) none.1 (suc k) at)

  -- ---- arms

  abbrev arm_fitted : Arm → Bool
  arm_fitted = fold-Arm Bool Bool Bool Bool (kind_fits site) (arm_fits site) branch_fits stmt_fits

  record FineArm (arm : PlainArm) : Type 0 where
    test : is_truth (type_of site arm.test) ≡ true
    body : (at : Position) → FineBlock site (arm.body at)

  abbrev OfArm : Arm → Type 0
  OfArm arm = Each S (out-Arm arm).body

  arm_fine : (arm : Arm) → OfArm arm → arm_fitted arm ≡ true → arm_aliased arm ≡ [] → FineArm (plain_arm arm)
  arm_fine arm each fitted apart =
      let fits_so = sym (fold_out-Arm Bool Bool Bool Bool (kind_fits site) (arm_fits site) branch_fits stmt_fits arm) ∙ fitted in
      let none = sym (fold_out-Arm (List Aliased) (List Aliased) (List Aliased) (List Aliased) kind_aliases arm_aliases branch_aliases
      stmt_aliases arm)
      ∙ apart in
      subst FineArm
      (sym (fold_out-Arm (Place → Position → Plain) PlainArm PlainBranch (Position → Plain) kind_plain arm_plain branch_plain stmt_plain arm))
      (record {
        test = and_first (is_truth (type_of site (out-Arm arm).test)) (all_of (map (fits site) (out-Arm arm).body)) fits_so;
        body = λ at.
            blocks_fine (out-Arm arm).body each
            (and_second (is_truth (type_of site (out-Arm arm).test)) (all_of (map (fits site) (out-Arm arm).body)) fits_so) none 0 at;
      })

  abbrev FineArms : List PlainArm → Type 0
  FineArms [] = Unit {0}
  FineArms (arm ∷ arms) = FineArm arm × FineArms arms

  arms_fine : (arms : List Arm) → EachArm S arms → all_of (map arm_fitted arms) ≡ true → joined (map arm_aliased arms) ≡ [] →
      FineArms (map plain_arm arms)
  arms_fine [] each fitted apart = tt
  arms_fine (arm ∷ arms) each fitted apart =
      let none = both_empty (arm_aliased arm) (joined (map arm_aliased arms)) apart in (
        arm_fine arm (All-head OfArm arm arms each) (and_first (arm_fitted arm) (all_of (map arm_fitted arms)) fitted) none.0,
        arms_fine arms (All-tail OfArm arm arms each) (and_second (arm_fitted arm) (all_of (map arm_fitted arms)) fitted) none.1,
      )

  if_fine : (l : Label) (at : Place) (e : Expr) (body other : Block) → is_truth (type_of site e) ≡ true → FineBlock site body →
      FineBlock site other → FinePlain site (If l at e body other)
  if_fine l at e body other own one two =
      one_more site (TestAt l at e) (nodes_in body ++ nodes_in other) (truth_fine (is_truth (type_of site e)) own)
      (append_fine site (nodes_in body) (nodes_in other) one two)

  single : (s : Plain) → FinePlain site s → FineBlock site (Then s Done)
  single s fine = append_fine site (nodes_of s) [] fine (nothing site)

  else_fine : (l : Label) (arms : List PlainArm) (other : Position → Block) → FineArms arms → ((at : Position) → FineBlock site (other at)) →
      FineBlock site (else_at l arms other)
  else_fine l [] other all fine = fine (inside l l.passed)
  else_fine l (arm ∷ arms) other all fine =
      single (If l (place_of_test arm) arm.test (arm.body (inside l l.passed)) (else_at (passed_one l) arms other))
      (if_fine l (place_of_test arm) arm.test (arm.body (inside l l.passed)) (else_at (passed_one l) arms other) all.0.test
      (all.0.body (inside l l.passed)) (else_fine (passed_one l) arms other all.1 fine))

  with_fine : (l : Label) (place : Place) (arms : List PlainArm) (other : Position → Block) → is_inhabited arms ≡ true → FineArms arms →
      ((at : Position) → FineBlock site (other at)) → FinePlain site (if_with l place arms other)
  with_fine l place [] other some all fine = absurd (cc)
  with_fine l place (arm ∷ arms) other some all fine =
      if_fine l place arm.test (arm.body (inside l 0)) (else_at (passed_one l) arms other) all.0.test (all.0.body (inside l 0))
      (else_fine (passed_one l) arms other all.1 fine)

  -- ---- branches

  abbrev branch_fitted : Branch → Bool
  branch_fitted = fold-Branch Bool Bool Bool Bool (kind_fits site) (arm_fits site) branch_fits stmt_fits

  abbrev FineBranch : PlainBranch → Type 0
  FineBranch branch = (at : Position) → FineBlock site (branch.body at)

  abbrev OfBranch : Branch → Type 0
  OfBranch branch = Each S (out-Branch branch).body

  branch_fine : (branch : Branch) → OfBranch branch → branch_fitted branch ≡ true → branch_aliased branch ≡ [] → FineBranch (plain_branch branch)
  branch_fine branch each fitted apart =
      let fits_so = sym (fold_out-Branch Bool Bool Bool Bool (kind_fits site) (arm_fits site) branch_fits stmt_fits branch) ∙ fitted in
      let none = sym (fold_out-Branch (List Aliased) (List Aliased) (List Aliased) (List Aliased) kind_aliases arm_aliases branch_aliases
      stmt_aliases
      branch) ∙ apart in
      subst FineBranch
      (sym (fold_out-Branch (Place → Position → Plain) PlainArm PlainBranch
      (Position → Plain) kind_plain arm_plain branch_plain stmt_plain branch))
      (λ at. blocks_fine (out-Branch branch).body each fits_so none 0 at)

  abbrev FineBranches : List PlainBranch → Type 0
  FineBranches [] = Unit {0}
  FineBranches (branch ∷ branches) = FineBranch branch × FineBranches branches

  branches_fine : (branches : List Branch) → EachBranch S branches → all_of (map branch_fitted branches) ≡ true →
      joined (map branch_aliased branches) ≡ [] → FineBranches (map plain_branch branches)
  branches_fine [] each fitted apart = tt
  branches_fine (branch ∷ branches) each fitted apart =
      let none = both_empty (branch_aliased branch) (joined (map branch_aliased branches)) apart in (
        branch_fine branch (All-head OfBranch branch branches each)
            (and_first (branch_fitted branch) (all_of (map branch_fitted branches)) fitted) none.0,
        branches_fine branches (All-tail OfBranch branch branches each)
            (and_second (branch_fitted branch) (all_of (map branch_fitted branches)) fitted) none.1,
      )

  bodies_fine : (branches : List PlainBranch) (k : ℕ) (l : Label) → FineBranches branches →
      Fine site (nodes_in_each (bodies_from branches k l))
  bodies_fine [] k l all = nothing site
  bodies_fine (branch ∷ branches) k l all =
      append_fine site (nodes_in (branch.body (inside l k))) (nodes_in_each (bodies_from branches (suc k) l)) (all.0 (inside l k))
      (bodies_fine branches (suc k) l all.1)

  -- ---- all statements

  kind_made : (place : Place) (layer : StmtKind-F StmtKind Arm Branch Stmt) → out-StmtKind (out-Stmt (stmt place layer)).what ≡ layer
  kind_made place layer =
      ap (λ s. out-StmtKind s.what) (out-roll-Stmt (record { place = place; what = roll-StmtKind layer })) ∙ out-roll-StmtKind layer

  act_fine : (l : Label) (place : Place) (layer : StmtKind-F StmtKind Arm Branch Stmt) → fits site (stmt place layer) ≡ true →
      (is_act layer || is_return_kind layer) ≡ true → not (is_inhabited (overlaps_in layer)) ≡ true → FinePlain site (Act l (stmt place layer))
  act_fine l place layer fitted act apart =
      let s = stmt place layer in
      let kind = kind_made place layer in
      one_more site (ActAt l s) []
      (and_from (fits site s && (is_act (out-StmtKind (out-Stmt s).what) || is_return_kind (out-StmtKind (out-Stmt s).what)))
      (not (is_inhabited (overlaps_in (out-StmtKind (out-Stmt s).what))))
      (and_from (fits site s) (is_act (out-StmtKind (out-Stmt s).what) || is_return_kind (out-StmtKind (out-Stmt s).what)) fitted
      (ap (λ layer. is_act layer || is_return_kind layer) kind ∙ act)) (ap (λ layer. not (is_inhabited (overlaps_in layer))) kind ∙ apart))
      (nothing site)

  as_fine : (s p : Plain) → s ≡ p → FinePlain site p → FinePlain site s
  as_fine s p is fine = subst (FinePlain site) (sym is) fine

  some_there : {A B C : Type 0} (f : A → B) (g : A → C) (xs : List A) → is_inhabited (map f xs) ≡ true → is_inhabited (map g xs) ≡ true
  some_there f g [] h = absurd (cc)
  some_there f g (x ∷ xs) h = refl

  module _ (place : Place) where
    declare_plain : (k : ℕ) (initial : Option Expr) (at : Position) → plain_stmt (stmt place (StmtKind-F.Declare k initial)) at
        ≡ Act (label_at at) (stmt place (StmtKind-F.Declare k initial))
    declare_plain k initial at = rw (fold-roll-Stmt, fold-roll-StmtKind) refl

    assign_plain : (path : Path) (e : Expr) (at : Position) → plain_stmt (stmt place (StmtKind-F.Assign path e)) at
        ≡ Act (label_at at) (stmt place (StmtKind-F.Assign path e))
    assign_plain path e at = rw (fold-roll-Stmt, fold-roll-StmtKind) refl

    call_plain : (f : ℕ) (inputs : List Expr) (outputs : List Path) (at : Position) → plain_stmt (stmt place (StmtKind-F.Call f inputs outputs)) at
        ≡ Act (label_at at) (stmt place (StmtKind-F.Call f inputs outputs))
    call_plain f inputs outputs at = rw (fold-roll-Stmt, fold-roll-StmtKind) refl

    return_plain : (e : Option Expr) (at : Position) →
        plain_stmt (stmt place (StmtKind-F.Return e)) at ≡ Act (label_at at) (stmt place (StmtKind-F.Return e))
    return_plain e at = rw (fold-roll-Stmt, fold-roll-StmtKind) refl

    await_plain : (e : Expr) (at : Position) → plain_stmt (stmt place (StmtKind-F.Await e)) at ≡ Await (label_at at) place e
    await_plain e at = rw (fold-roll-Stmt, fold-roll-StmtKind) refl

    run_plain : (target : Option Path) (a : ℕ) (inputs : List Expr) (outputs : List Path) (at : Position) →
        plain_stmt (stmt place (StmtKind-F.Run target a inputs outputs)) at ≡ Run (label_at at) place target a inputs outputs
    run_plain target a inputs outputs at = rw (fold-roll-Stmt, fold-roll-StmtKind) refl

    if_plain : (arms : List Arm) (other : List Stmt) (at : Position) → plain_stmt (stmt place (StmtKind-F.If arms other)) at
        ≡ if_with (label_at at) place (map plain_arm arms) (block_at (map plain_stmt other))
    if_plain arms other at = rw (fold-roll-Stmt, fold-roll-StmtKind) refl

    cobegin_plain : (branches : List Branch) (at : Position) → plain_stmt (stmt place (StmtKind-F.Cobegin branches)) at
        ≡ Cobegin (label_at at) place (bodies_from (map plain_branch branches) 0 (label_at at))
    cobegin_plain branches at = rw (fold-roll-Stmt, fold-roll-StmtKind) refl

    when_plain : (guard : Guard) (e : Expr) (body : List Stmt) (at : Position) → plain_stmt (stmt place (StmtKind-F.When guard e body)) at
        ≡ When (label_at at) place guard e (block_at (map plain_stmt body) (inside (label_at at) 0))
    when_plain guard e body at = rw (fold-roll-Stmt, fold-roll-StmtKind) refl

    repeat_plain : (body : List Stmt) (at : Position) → plain_stmt (stmt place (StmtKind-F.Repeat body)) at
        ≡ Repeat (label_at at) place (block_at (map plain_stmt body) (inside (label_at at) 0))
    repeat_plain body at = rw (fold-roll-Stmt, fold-roll-StmtKind) refl

    until_plain : (body : List Stmt) (e : Expr) (at : Position) → plain_stmt (stmt place (StmtKind-F.Until body e)) at
        ≡ Until (label_at at) place (block_at (map plain_stmt body) (inside (label_at at) 0)) e
    until_plain body e at = rw (fold-roll-Stmt, fold-roll-StmtKind) refl

    while_plain : (e : Expr) (body : List Stmt) (at : Position) → plain_stmt (stmt place (StmtKind-F.While e body)) at
        ≡ While (label_at at) place e (block_at (map plain_stmt body) (inside (label_at at) 0))
    while_plain e body at = rw (fold-roll-Stmt, fold-roll-StmtKind) refl

    await_case : (e : Expr) → S (stmt place (StmtKind-F.Await e))
    await_case e fitted apart at =
        let truth = and_second (is_activity site.kind) (is_truth (type_of site e)) (rw (fold-roll-Stmt, fold-roll-StmtKind) at fitted) in
        as_fine _ _ (await_plain e at)
        (one_more site (PauseAt (label_at at) place) (TestAt (label_at at) place e ∷ []) refl
        (one_more site (TestAt (label_at at) place e) [] (truth_fine (is_truth (type_of site e)) truth) (nothing site)))

    run_case : (target : Option Path) (a : ℕ) (inputs : List Expr) (outputs : List Path) → S (stmt place (StmtKind-F.Run target a inputs outputs))
    run_case target a inputs outputs fitted apart at =
        as_fine _ _ (run_plain target a inputs outputs at)
        (one_more site (EnterAt (label_at at) place (arguments_of target inputs outputs))
        (ResumeAt (label_at at) place (arguments_of target inputs outputs) ∷ []) refl
        (one_more site (ResumeAt (label_at at) place (arguments_of target inputs outputs)) [] refl (nothing site)))

    branching_case : (arms : List Arm) (other : List Stmt) → EachArm S arms → Each S other → S (stmt place (StmtKind-F.If arms other))
    branching_case arms other each others fitted apart at =
        let parts = rw (fold-roll-Stmt, fold-roll-StmtKind) at fitted in
        let some = and_first (is_inhabited (map arm_fitted arms)) (all_of (map arm_fitted arms) && all_of (map (fits site) other)) parts in
        let more = and_second (is_inhabited (map arm_fitted arms)) (all_of (map arm_fitted arms) && all_of (map (fits site) other)) parts in
        let none = both_empty (joined (map arm_aliased arms)) (joined (map aliases_in other))
        (rw (fold-roll-Stmt, fold-roll-StmtKind) at apart) in
        as_fine _ _ (if_plain arms other at)
        (with_fine (label_at at) place (map plain_arm arms) (block_at (map plain_stmt other)) (some_there arm_fitted plain_arm arms some)
        (arms_fine arms each (and_first (all_of (map arm_fitted arms)) (all_of (map (fits site) other)) more) none.0)
        (λ at. blocks_fine other others (and_second (all_of (map arm_fitted arms)) (all_of (map (fits site) other)) more) none.1 0 at))

    cobegin_case : (branches : List Branch) → EachBranch S branches → S (stmt place (StmtKind-F.Cobegin branches))
    cobegin_case branches each fitted apart at =
        let parts = rw (fold-roll-Stmt, fold-roll-StmtKind) at fitted in
        let all = and_second (is_inhabited (map branch_fitted branches)) (all_of (map branch_fitted branches))
        (and_second (is_activity site.kind) (is_inhabited (map branch_fitted branches) && all_of (map branch_fitted branches)) parts) in
        let none : joined (map branch_aliased branches) ≡ [] = rw (fold-roll-Stmt, fold-roll-StmtKind) at apart in
        let l : Label = label_at at in
        let bodies : Bodies = bodies_from (map plain_branch branches) 0 l in
        as_fine _ _ (cobegin_plain branches at)
        (one_more site (ForkAt l place)
        (where_so (is_instant (Cobegin l place bodies)) (SurfaceJoinAt l place) ++ DepthJoinAt l place ∷ nodes_in_each bodies) refl
        (append_fine site (where_so (is_instant (Cobegin l place bodies)) (SurfaceJoinAt l place)) (DepthJoinAt l place ∷ nodes_in_each bodies)
        (where_fine site (is_instant (Cobegin l place bodies)) (SurfaceJoinAt l place) refl)
        (one_more site (DepthJoinAt l place) (nodes_in_each bodies) refl
        (bodies_fine (map plain_branch branches) 0 l (branches_fine branches each all none)))))

    guarded_case : (guard : Guard) (e : Expr) (body : List Stmt) → Each S body → S (stmt place (StmtKind-F.When guard e body))
    guarded_case guard e body each fitted apart at =
        let parts = and_second (is_activity site.kind) (is_truth (type_of site e) && all_of (map (fits site) body))
        (rw (fold-roll-Stmt, fold-roll-StmtKind) at fitted) in
        let none : joined (map aliases_in body) ≡ [] = rw (fold-roll-Stmt, fold-roll-StmtKind) at apart in
        let l : Label = label_at at in
        let inner : Block = block_at (map plain_stmt body) (inside l 0) in
        as_fine _ _ (when_plain guard e body at)
        (one_more site (StartAt l place)
        (where_so (are_instant inner) (SurfaceEndAt l place) ++ CheckAt l place e ∷ DepthEndAt l place ∷ nodes_in inner) refl
        (append_fine site (where_so (are_instant inner) (SurfaceEndAt l place)) (CheckAt l place e ∷ DepthEndAt l place ∷ nodes_in inner)
        (where_fine site (are_instant inner) (SurfaceEndAt l place) refl)
        (one_more site (CheckAt l place e) (DepthEndAt l place ∷ nodes_in inner)
        (truth_fine (is_truth (type_of site e)) (and_first (is_truth (type_of site e)) (all_of (map (fits site) body)) parts))
        (one_more site (DepthEndAt l place) (nodes_in inner) refl
        (blocks_fine body each (and_second (is_truth (type_of site e)) (all_of (map (fits site) body)) parts) none 0 (inside l 0))))))

    repeat_case : (body : List Stmt) → Each S body → S (stmt place (StmtKind-F.Repeat body))
    repeat_case body each fitted apart at =
        let none : joined (map aliases_in body) ≡ [] = rw (fold-roll-Stmt, fold-roll-StmtKind) at apart in
        let l : Label = label_at at in
        let inner : Block = block_at (map plain_stmt body) (inside l 0) in
        as_fine _ _ (repeat_plain body at)
        (one_more site (HeadAt l place) (nodes_in inner) refl
        (blocks_fine body each (rw (fold-roll-Stmt, fold-roll-StmtKind) at fitted) none 0 (inside l 0)))

    until_case : (body : List Stmt) (e : Expr) → Each S body → S (stmt place (StmtKind-F.Until body e))
    until_case body e each fitted apart at =
        let parts = rw (fold-roll-Stmt, fold-roll-StmtKind) at fitted in
        let none : joined (map aliases_in body) ≡ [] = rw (fold-roll-Stmt, fold-roll-StmtKind) at apart in
        let l : Label = label_at at in
        let inner : Block = block_at (map plain_stmt body) (inside l 0) in
        as_fine _ _ (until_plain body e at)
        (one_more site (HeadAt l place) (TestAt l place e ∷ nodes_in inner) refl
        (one_more site (TestAt l place e) (nodes_in inner)
        (truth_fine (is_truth (type_of site e)) (and_second (all_of (map (fits site) body)) (is_truth (type_of site e)) parts))
        (blocks_fine body each (and_first (all_of (map (fits site) body)) (is_truth (type_of site e)) parts) none 0 (inside l 0))))

    while_case : (e : Expr) (body : List Stmt) → Each S body → S (stmt place (StmtKind-F.While e body))
    while_case e body each fitted apart at =
        let parts = rw (fold-roll-Stmt, fold-roll-StmtKind) at fitted in
        let none : joined (map aliases_in body) ≡ [] = rw (fold-roll-Stmt, fold-roll-StmtKind) at apart in
        let l : Label = label_at at in
        let inner : Block = block_at (map plain_stmt body) (inside l 0) in
        as_fine _ _ (while_plain e body at)
        (one_more site (TestAt l place e) (nodes_in inner)
        (truth_fine (is_truth (type_of site e)) (and_first (is_truth (type_of site e)) (all_of (map (fits site) body)) parts))
        (blocks_fine body each (and_second (is_truth (type_of site e)) (all_of (map (fits site) body)) parts) none 0 (inside l 0)))

    call_case : (f : ℕ) (inputs : List Expr) (outputs : List Path) → S (stmt place (StmtKind-F.Call f inputs outputs))
    call_case f inputs outputs fitted apart at =
        let none : aliases_of None inputs outputs ≡ [] = rw (fold-roll-Stmt, fold-roll-StmtKind) at apart in
        as_fine _ _ (call_plain f inputs outputs at)
        (act_fine (label_at at) place (StmtKind-F.Call f inputs outputs) fitted refl (ap (λ xs. not (is_inhabited xs)) none))

  cases : Cases S
  cases = record {
    declare = λ place k initial fitted apart at. as_fine _ _ (declare_plain place k initial at)
        (act_fine (label_at at) place (StmtKind-F.Declare k initial) fitted refl refl);
    assign = λ place path e fitted apart at. as_fine _ _ (assign_plain place path e at)
        (act_fine (label_at at) place (StmtKind-F.Assign path e) fitted refl refl);
    call = call_case;
    await = await_case;
    run = run_case;
    branching = branching_case;
    cobegin = cobegin_case;
    guarded = guarded_case;
    repeat = repeat_case;
    until = until_case;
    while = while_case;
    returns = λ place e fitted apart at. as_fine _ _ (return_plain place e at)
        (act_fine (label_at at) place (StmtKind-F.Return e) fitted refl refl);
  }

  -- what is done at the nodes of a body is fine
  pub body_fine : (body : List Stmt) → all_of (map (fits site) body) ≡ true → joined (map aliases_in body) ≡ [] →
      list_all (is_fine site) (nodes_in (plain_body body)) ≡ true
  body_fine body fitted apart = (blocks_fine body (λ k d within. induct S cases _) fitted apart 0 []).all
