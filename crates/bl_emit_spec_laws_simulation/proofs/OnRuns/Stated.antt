-- The `run`s of a body are those of its statements, so those of one place have the same arguments.
use Rattle.std.proofs.Common.{◌≡◌, ◌⊎◌, inl, inr, ℕ, suc, true, List, [], ◌∷◌, ◌++◌, map, get_or, None, refl, sym, ap, ◌∙◌, subst}
use Rattle.std.proofs.Math.Logic.{∥∥₁_map}
use Rattle.std.specs.Prelude.{Contains, IsTrue}
use Rattle.std.proofs.lemmas.List.Elements.{All-head, All-tail}
use Rattle.bl_tree.specs.declared.place.Place.{Place}
use Rattle.bl_tree.specs.declared.tree.Arm.{Arm, out-Arm}
use Rattle.bl_tree.specs.declared.tree.Branch.{Branch, out-Branch}
use Rattle.bl_tree.specs.declared.tree.Stmt.{Stmt, fold-roll-Stmt, out-Stmt}
use Rattle.bl_tree.specs.declared.tree.StmtKind.{StmtKind, fold-roll-StmtKind, out-StmtKind}
use Rattle.bl_tree.specs.declared.tree.StmtKind.TheOpen.{StmtKind-F}
use Rattle.bl_tree.specs.declared.tree.StructDef.{StructDef}
use Rattle.bl_tree.specs.declared.tree.Unit.{Unit as UnitDef}
use Rattle.bl_tree.specs.Program.{IsWellTyped}
use Rattle.bl_tree.specs.Reduce.{joined}
use Rattle.bl_tree.specs.Within.{StandsIn, Within, is_run, is_run_kind, itself, kind_children, place_of}
use Rattle.bl_tree.proofs.StmtInduction.{Cases, Each, EachArm, EachBranch, induct, stmt}
use Rattle.bl_tree.proofs.FirstLemmas.{In}
use Rattle.bl_graph_nodes.specs.Laws.{plain_arm, plain_branch}
use Rattle.bl_graph_nodes.specs.Nodes.{Arguments, arguments_of}
use Rattle.bl_graph_nodes.specs.Plain.{Label, Plain, Position, Act, If, block_from, bodies_from, else_at, inside, label_at, never, passed_one, plain_body}
use Rattle.bl_graph_nodes.specs.Plain.{plain_block, plain_stmt}
use Rattle.bl_graph_nodes.proofs.Equations.{plain_statements}
use Rattle.bl_ctree_laws.specs.Steps.{call}
use Rattle.bl_ctree_laws.specs.Trees.{Call}
use Rattle.bl_ctree_laws_confluence.proofs.OnApart.Running.{layer_at, placed_at, stands_below, stands_between, stands_first, stands_left, stands_right}
use Rattle.bl_ctree_laws_confluence.proofs.OnApart.Members.{in_left}
use Rattle.bl_ctree_laws_traces.proofs.OnBounded.Calls.{calls_in, calls_in_each, calls_of}
use Rattle.bl_ctree_laws_traces.proofs.OnBounded.Lists.{among_either}

abbrev kind_arguments : StmtKind-F StmtKind Arm Branch Stmt → Arguments
kind_arguments (StmtKind-F.Run target a inputs outputs) = arguments_of target inputs outputs
kind_arguments _ = arguments_of None [] []

-- the arguments of a `run` statement
abbrev given_at : Stmt → Arguments
given_at s = kind_arguments (out-StmtKind (out-Stmt s).what)

-- the `run` is that of a statement of the body
record Found (c : Call) (body : List Stmt) : Type 0 where
  statement : Stmt
  stands : StandsIn body statement
  runs : IsTrue (is_run statement)
  placed : place_of statement ≡ c.place
  gives : given_at statement ≡ c.arguments

-- it is that of the statement, or of one in it
record FoundIn (c : Call) (s : Stmt) : Type 0 where
  statement : Stmt
  within : Within statement s
  runs : IsTrue (is_run statement)
  placed : place_of statement ≡ c.place
  gives : given_at statement ≡ c.arguments

moved : {c : Call} {body other : List Stmt} → ((s : Stmt) → StandsIn body s → StandsIn other s) → Found c body → Found c other
moved so one = record { statement = one.statement; stands = so one.statement one.stands; runs = one.runs; placed = one.placed; gives = one.gives }

only : (c d : Call) → In c (d ∷ []) → c ≡ d
only c d (inl is) = is
only c d (inr none) = absurd none

module _ (c : Call) where
  abbrev S : Stmt → Type 0
  S s = (at : Position) → In c (calls_of (plain_stmt s at)) → FoundIn c s

  first_so : (s : Stmt) (rest : List Stmt) → FoundIn c s → Found c (s ∷ rest)
  first_so s rest one =
      record { statement = one.statement; stands = stands_first s rest one.within; runs = one.runs; placed = one.placed; gives = one.gives }

  block_so : (body : List Stmt) (n : ℕ) (at : Position) → Each S body → In c (calls_in (block_from (map plain_stmt body) n at)) → Found c body
  block_so [] n at each some = absurd some
  block_so (s ∷ rest) n at each some =
      by (λ more. block_so rest (suc n) at (All-tail S s rest each) more)
      (among_either c (calls_of (plain_stmt s (at ++ n ∷ []))) (calls_in (block_from (map plain_stmt rest) (suc n) at)) some)
    where
      by : (In c (calls_in (block_from (map plain_stmt rest) (suc n) at)) → Found c rest) →
          In c (calls_of (plain_stmt s (at ++ n ∷ []))) ⊎ In c (calls_in (block_from (map plain_stmt rest) (suc n) at)) → Found c (s ∷ rest)
      by again (inl one) = first_so s rest (All-head S s rest each (at ++ n ∷ []) one)
      by again (inr more) = moved (λ inner one. stands_right (s ∷ []) rest one) (again more)

  -- the statements in the blocks of arms, and of branches
  abbrev in_arms : List Arm → List Stmt
  in_arms arms = joined (map (λ arm. (out-Arm arm).body) arms)

  abbrev in_branches : List Branch → List Stmt
  in_branches branches = joined (map (λ branch. (out-Branch branch).body) branches)

  -- the `run`s of an arm, and of what else is done
  abbrev arm_calls : Label → Arm → List Call
  arm_calls l arm = calls_in (plain_block (out-Arm arm).body (inside l l.passed))

  abbrev else_calls : Label → List Arm → List Stmt → List Call
  else_calls l arms other = calls_in (else_at l (map plain_arm arms) (plain_block other))

  arm_so : (l : Label) (arm : Arm) (rest : List Arm) (other : List Stmt) → Each S (out-Arm arm).body →
      (In c (else_calls (passed_one l) rest other) → Found c (in_arms rest ++ other)) →
      In c (arm_calls l arm) ⊎ In c (else_calls (passed_one l) rest other) → Found c (in_arms (arm ∷ rest) ++ other)
  arm_so l arm rest other each again (inl first) =
      moved (λ inner one. stands_left ((out-Arm arm).body ++ in_arms rest) other (stands_left (out-Arm arm).body (in_arms rest) one))
      (block_so (out-Arm arm).body 0 (inside l l.passed) each first)
  arm_so l arm rest other each again (inr more) = moved (λ inner one. stands_between (out-Arm arm).body (in_arms rest) other one) (again more)

  arms_so : (l : Label) (arms : List Arm) (other : List Stmt) → EachArm S arms → Each S other → In c (else_calls l arms other) →
      Found c (in_arms arms ++ other)
  arms_so l [] other each others some = block_so other 0 (inside l l.passed) others some
  arms_so l (arm ∷ rest) other each others some =
      by (among_either c (arm_calls l arm ++ else_calls (passed_one l) rest other) [] some)
      (λ more. arms_so (passed_one l) rest other (All-tail (λ arm. Each S (out-Arm arm).body) arm rest each) others more)
    where
      by : In c (arm_calls l arm ++ else_calls (passed_one l) rest other) ⊎ ⊥ →
          (In c (else_calls (passed_one l) rest other) → Found c (in_arms rest ++ other)) → Found c (in_arms (arm ∷ rest) ++ other)
      by (inl there) again =
          arm_so l arm rest other (All-head (λ arm. Each S (out-Arm arm).body) arm rest each) again
          (among_either c (arm_calls l arm) (else_calls (passed_one l) rest other) there)
      by (inr none) again = absurd none

  branches_so : (branches : List Branch) (n : ℕ) (l : Label) → EachBranch S branches →
      In c (calls_in_each (bodies_from (map plain_branch branches) n l)) → Found c (in_branches branches)
  branches_so [] n l each some = absurd some
  branches_so (branch ∷ rest) n l each some =
      by (λ more. branches_so rest (suc n) l (All-tail (λ branch. Each S (out-Branch branch).body) branch rest each) more)
      (among_either c (calls_in (plain_block (out-Branch branch).body (inside l n))) (calls_in_each (bodies_from (map plain_branch rest) (suc n) l)) some)
    where
      by : (In c (calls_in_each (bodies_from (map plain_branch rest) (suc n) l)) → Found c (in_branches rest)) →
          In c (calls_in (plain_block (out-Branch branch).body (inside l n))) ⊎ In c (calls_in_each (bodies_from (map plain_branch rest) (suc n) l)) →
          Found c (in_branches (branch ∷ rest))
      by again (inl one) =
          moved (λ inner one. stands_left (out-Branch branch).body (in_branches rest) one)
          (block_so (out-Branch branch).body 0 (inside l n) (All-head (λ branch. Each S (out-Branch branch).body) branch rest each) one)
      by again (inr more) = moved (λ inner one. stands_right (out-Branch branch).body (in_branches rest) one) (again more)

  by_parts : (place : Place) (layer : StmtKind-F StmtKind Arm Branch Stmt) (at : Position) (q : Plain) → plain_stmt (stmt place layer) at ≡ q →
      (In c (calls_of q) → Found c (kind_children layer)) → In c (calls_of (plain_stmt (stmt place layer) at)) → FoundIn c (stmt place layer)
  by_parts place layer at q is so some =
      let one = so (subst (λ q. In c (calls_of q)) is some) in
      record { statement = one.statement; within = stands_below place layer one.stands; runs = one.runs; placed = one.placed; gives = one.gives }

  act_so : (place : Place) (layer : StmtKind-F StmtKind Arm Branch Stmt) (at : Position) →
      plain_stmt (stmt place layer) at ≡ Act (label_at at) (stmt place layer) →
      In c (calls_of (plain_stmt (stmt place layer) at)) → FoundIn c (stmt place layer)
  act_so place layer at is = by_parts place layer at (Act (label_at at) (stmt place layer)) is (λ none. absurd none)

  run_so : (place : Place) (layer : StmtKind-F StmtKind Arm Branch Stmt) → is_run_kind layer ≡ true → place ≡ c.place →
      kind_arguments layer ≡ c.arguments → FoundIn c (stmt place layer)
  run_so place layer run at given = record {
    statement = stmt place layer;
    within = itself;
    runs = ap is_run_kind (layer_at place layer) ∙ run;
    placed = placed_at place layer ∙ at;
    gives = ap kind_arguments (layer_at place layer) ∙ given;
  }

  branching_so : (place : Place) (arms : List Arm) (other : List Stmt) → EachArm S arms → Each S other → S (stmt place (StmtKind-F.If arms other))
  branching_so place [] other each others at =
      by_parts place (StmtKind-F.If [] other) at
      (If (label_at at) place (never place) (plain_block other (inside (label_at at) 0)) (plain_block other (inside (label_at at) 1)))
      (rw (fold-roll-Stmt, fold-roll-StmtKind) refl)
      (λ some. either
      (among_either c (calls_in (plain_block other (inside (label_at at) 0))) (calls_in (plain_block other (inside (label_at at) 1))) some))
    where
      either : In c (calls_in (plain_block other (inside (label_at at) 0))) ⊎ In c (calls_in (plain_block other (inside (label_at at) 1))) →
          Found c other
      either (inl one) = block_so other 0 (inside (label_at at) 0) others one
      either (inr two) = block_so other 0 (inside (label_at at) 1) others two
  branching_so place (arm ∷ rest) other each others at =
      by_parts place (StmtKind-F.If (arm ∷ rest) other) at _ (plain_statements.branching place at arm rest other)
      (λ some. arms_so (label_at at) (arm ∷ rest) other each others (in_left c _ [] some))

  stmt_cases : Cases S
  stmt_cases = record {
    declare = λ place n initial at. act_so place (StmtKind-F.Declare n initial) at (plain_statements.declaration place at n initial);
    assign = λ place path e at. act_so place (StmtKind-F.Assign path e) at (plain_statements.assignment place at path e);
    call = λ place f inputs outputs at. act_so place (StmtKind-F.Call f inputs outputs) at (plain_statements.call place at f inputs outputs);
    await = λ place e at. by_parts place (StmtKind-F.Await e) at _ (plain_statements.pause place at e) (λ none. absurd none);
    run = λ place target a inputs outputs at some.
        (let is = only c (call (label_at at) place target a inputs outputs)
        (subst (λ q. In c (calls_of q)) (plain_statements.run place at target a inputs outputs) some) in
        run_so place (StmtKind-F.Run target a inputs outputs) refl (ap (λ (c : Call). c.place) (sym is)) (ap (λ (c : Call). c.arguments) (sym is)));
    branching = branching_so;
    cobegin = λ place branches each at. by_parts place (StmtKind-F.Cobegin branches) at _ (plain_statements.parallel place at branches)
        (branches_so branches 0 (label_at at) each);
    guarded = λ place guard e body each at. by_parts place (StmtKind-F.When guard e body) at _ (plain_statements.guarded place at guard e body)
        (block_so body 0 (inside (label_at at) 0) each);
    repeat = λ place body each at. by_parts place (StmtKind-F.Repeat body) at _ (plain_statements.endless place at body)
        (block_so body 0 (inside (label_at at) 0) each);
    until = λ place body e each at. by_parts place (StmtKind-F.Until body e) at _ (plain_statements.until place at body e)
        (block_so body 0 (inside (label_at at) 0) each);
    while = λ place e body each at. by_parts place (StmtKind-F.While e body) at _ (plain_statements.while place at e body)
        (block_so body 0 (inside (label_at at) 0) each);
    returns = λ place e at. act_so place (StmtKind-F.Return e) at (plain_statements.returns place at e);
  }

  found : (body : List Stmt) → In c (calls_in (plain_block body [])) → Found c body
  found body some = block_so body 0 [] (λ n d within. induct S stmt_cases (get_or body n d)) some

module _ (structs : List StructDef) (units : List UnitDef) (entry : ℕ) (keeps : IsWellTyped structs units entry) (unit : UnitDef)
    (there : Contains units unit) where
  -- `run`s of one place have the same arguments
  pub same_arguments : (s t : Call) → In s (calls_in (plain_body unit.body)) → In t (calls_in (plain_body unit.body)) → s.place ≡ t.place →
      ∥ s.arguments ≡ t.arguments ∥₁
  same_arguments s t one two places =
      let first = found s unit.body one in
      let second = found t unit.body two in
      ∥∥₁_map (keeps.runs_decide.same first.statement second.statement (record { unit = unit; is_there = there; stands = first.stands })
      (record { unit = unit; is_there = there; stands = second.stands }) first.runs second.runs (first.placed ∙ (places ∙ sym second.placed)))
      (λ same. sym first.gives ∙ (ap given_at same ∙ second.gives))
