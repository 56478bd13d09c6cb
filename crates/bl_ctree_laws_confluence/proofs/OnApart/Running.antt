-- No two branches of one `cobegin` run at one place.
use Rattle.std.proofs.Common.{◌≡◌, ◌⊎◌, inl, inr, ℕ, zero, suc, pred, true, List, [], ◌∷◌, ◌++◌, map, get_or, Some, refl, sym, ap, ◌∙◌, subst, append_assoc}
use Rattle.std.proofs.Common.{arith}
use Rattle.std.specs.Prelude.{Contains, IsTrue, slice_get}
use Rattle.std.proofs.lemmas.List.Elements.{All-head, All-tail, Contains-append_left, Contains-append_right}
use Rattle.bl_tree.proofs.Basics.{contains_first}
use Rattle.bl_tree.specs.declared.place.Place.{Place}
use Rattle.bl_tree.specs.declared.tree.Arm.{Arm, out-Arm}
use Rattle.bl_tree.specs.declared.tree.Branch.{Branch, out-Branch}
use Rattle.bl_tree.specs.declared.tree.Path.{Path}
use Rattle.bl_tree.specs.declared.tree.Stmt.{Stmt, fold-roll-Stmt, out-Stmt, out-roll-Stmt}
use Rattle.bl_tree.specs.declared.tree.StmtKind.{StmtKind, fold-roll-StmtKind, out-StmtKind, out-roll-StmtKind, roll-StmtKind}
use Rattle.bl_tree.specs.declared.tree.StmtKind.TheOpen.{StmtKind-F}
use Rattle.bl_tree.specs.Reduce.{joined}
use Rattle.bl_tree.specs.Within.{RunsIn, StandsIn, Within, branches_of, children, deeper, is_run, is_run_kind, itself, kind_branches, kind_children, place_of}
use Rattle.bl_tree.proofs.StmtInduction.{Cases, Each, EachArm, EachBranch, induct, stmt}
use Rattle.bl_graph_nodes.specs.Laws.{plain_arm, plain_branch}
use Rattle.bl_graph_nodes.specs.Plain.{Label, Plain, Position, Act, If, block_from, bodies_from, else_at, inside, label_at, never, passed_one, plain_stmt, plain_block}
use Rattle.bl_graph_nodes.proofs.Equations.{plain_statements}
use Rattle.bl_ctree_laws_confluence.proofs.OnDeeds.Accepted.{accepted_is_orderly}
use Rattle.bl_ctree_laws_confluence.specs.Apart.Forks.{EachFork, EachForkIn, EachForkInEach}
use Rattle.bl_ctree_laws_confluence.specs.Apart.Owned.{IsRunWith, RunsAt, SomeIn, SomeInEach, SomeOf}
use Rattle.bl_ctree_laws_confluence.specs.Apart.Running.{AcceptedRunsApart, BranchesRunApart, RunApart, RunStands, RunsAreOfStatements}

-- ---- the parts of a statement that is made of them

pub layer_at : (place : Place) (layer : StmtKind-F StmtKind Arm Branch Stmt) → out-StmtKind (out-Stmt (stmt place layer)).what ≡ layer
layer_at place layer = ap (λ s. out-StmtKind s.what) (out-roll-Stmt (record { place = place; what = roll-StmtKind layer })) ∙ out-roll-StmtKind layer

pub placed_at : (place : Place) (layer : StmtKind-F StmtKind Arm Branch Stmt) → place_of (stmt place layer) ≡ place
placed_at place layer = ap (λ s. s.place) (out-roll-Stmt (record { place = place; what = roll-StmtKind layer }))

pub children_at : (place : Place) (layer : StmtKind-F StmtKind Arm Branch Stmt) → children (stmt place layer) ≡ kind_children layer
children_at place layer = ap kind_children (layer_at place layer)

-- ---- what stands in blocks

pub stands_left : (xs ys : List Stmt) {s : Stmt} → StandsIn xs s → StandsIn (xs ++ ys) s
stands_left xs ys one = record { outer = one.outer; is_there = Contains-append_left xs ys one.outer one.is_there; within = one.within }

pub stands_right : (xs ys : List Stmt) {s : Stmt} → StandsIn ys s → StandsIn (xs ++ ys) s
stands_right xs ys one = record { outer = one.outer; is_there = Contains-append_right xs ys one.outer one.is_there; within = one.within }

pub stands_between : (xs ys zs : List Stmt) {s : Stmt} → StandsIn (ys ++ zs) s → StandsIn ((xs ++ ys) ++ zs) s
stands_between xs ys zs {s} one = subst (λ body. StandsIn body s) (sym (append_assoc xs ys zs)) (stands_right xs (ys ++ zs) one)

pub stands_first : (s : Stmt) (rest : List Stmt) {inner : Stmt} → Within inner s → StandsIn (s ∷ rest) inner
stands_first s rest within = record { outer = s; is_there = contains_first s rest; within = within }

pub stands_below : (place : Place) (layer : StmtKind-F StmtKind Arm Branch Stmt) {s : Stmt} → StandsIn (kind_children layer) s → Within s (stmt place layer)
stands_below place layer one =
    deeper (stmt place layer) one.outer (subst (λ body. Contains body one.outer) (sym (children_at place layer)) one.is_there) one.within

-- ---- a `run` is that of a statement

abbrev kind_outputs : StmtKind-F StmtKind Arm Branch Stmt → List Path
kind_outputs (StmtKind-F.Run target a inputs outputs) = outputs
kind_outputs _ = []

-- the outputs of a `run` statement
abbrev pub outputs_of : Stmt → List Path
outputs_of s = kind_outputs (out-StmtKind (out-Stmt s).what)

pub outputs_at : (place : Place) (layer : StmtKind-F StmtKind Arm Branch Stmt) → outputs_of (stmt place layer) ≡ kind_outputs layer
outputs_at place layer = ap kind_outputs (layer_at place layer)

-- a `run` statement of which R holds stands in the body
pub record RunFound (R : Place → List Path → Type 0) (body : List Stmt) : Type 0 where
  pub statement : Stmt
  pub stands : StandsIn body statement
  pub runs : IsTrue (is_run statement)
  pub holds : R (place_of statement) (outputs_of statement)

-- it is the statement, or stands in it
record RunWithin (R : Place → List Path → Type 0) (s : Stmt) : Type 0 where
  statement : Stmt
  within : Within statement s
  runs : IsTrue (is_run statement)
  holds : R (place_of statement) (outputs_of statement)

run_moved : {R : Place → List Path → Type 0} {body other : List Stmt} → ((s : Stmt) → StandsIn body s → StandsIn other s) → RunFound R body →
    RunFound R other
run_moved so one = record { statement = one.statement; stands = so one.statement one.stands; runs = one.runs; holds = one.holds }

module _ (R : Place → List Path → Type 0) where
  abbrev S : Stmt → Type 0
  S s = (at : Position) → SomeOf (IsRunWith R) (plain_stmt s at) → RunWithin R s

  first_run : (s : Stmt) (rest : List Stmt) → RunWithin R s → RunFound R (s ∷ rest)
  first_run s rest one = record { statement = one.statement; stands = stands_first s rest one.within; runs = one.runs; holds = one.holds }

  block_so : (body : List Stmt) (n : ℕ) (at : Position) → Each S body → SomeIn (IsRunWith R) (block_from (map plain_stmt body) n at) → RunFound R body
  block_so [] n at each some = absurd some
  block_so (s ∷ rest) n at each (inl some) = first_run s rest (All-head S s rest each (at ++ n ∷ []) some)
  block_so (s ∷ rest) n at each (inr some) =
      run_moved (λ inner one. stands_right (s ∷ []) rest one) (block_so rest (suc n) at (All-tail S s rest each) some)

  arms_so : (l : Label) (arms : List Arm) (other : List Stmt) → EachArm S arms → Each S other →
      SomeIn (IsRunWith R) (else_at l (map plain_arm arms) (plain_block other)) → RunFound R (joined (map (λ arm. (out-Arm arm).body) arms) ++ other)
  arms_so l [] other each others some = block_so other 0 (inside l l.passed) others some
  arms_so l (arm ∷ rest) other each others (inr none) = absurd none
  arms_so l (arm ∷ rest) other each others (inl (inl none)) = absurd none
  arms_so l (arm ∷ rest) other each others (inl (inr (inl some))) =
      let more : List Stmt = joined (map (λ arm. (out-Arm arm).body) rest) in
      run_moved (λ inner one. stands_left ((out-Arm arm).body ++ more) other (stands_left (out-Arm arm).body more one))
      (block_so (out-Arm arm).body 0 (inside l l.passed) (All-head (λ arm. Each S (out-Arm arm).body) arm rest each) some)
  arms_so l (arm ∷ rest) other each others (inl (inr (inr some))) =
      run_moved (λ inner one. stands_between (out-Arm arm).body (joined (map (λ arm. (out-Arm arm).body) rest)) other one)
      (arms_so (passed_one l) rest other (All-tail (λ arm. Each S (out-Arm arm).body) arm rest each) others some)

  branches_so : (branches : List Branch) (n : ℕ) (l : Label) → EachBranch S branches →
      SomeInEach (IsRunWith R) (bodies_from (map plain_branch branches) n l) → RunFound R (joined (map (λ branch. (out-Branch branch).body) branches))
  branches_so [] n l each some = absurd some
  branches_so (branch ∷ rest) n l each (inl some) =
      run_moved (λ inner one. stands_left (out-Branch branch).body (joined (map (λ branch. (out-Branch branch).body) rest)) one)
      (block_so (out-Branch branch).body 0 (inside l n) (All-head (λ branch. Each S (out-Branch branch).body) branch rest each) some)
  branches_so (branch ∷ rest) n l each (inr some) =
      run_moved (λ inner one. stands_right (out-Branch branch).body (joined (map (λ branch. (out-Branch branch).body) rest)) one)
      (branches_so rest (suc n) l (All-tail (λ branch. Each S (out-Branch branch).body) branch rest each) some)

  by_parts : (place : Place) (layer : StmtKind-F StmtKind Arm Branch Stmt) (at : Position) (q : Plain) → plain_stmt (stmt place layer) at ≡ q →
      (SomeOf (IsRunWith R) q → RunFound R (kind_children layer)) → SomeOf (IsRunWith R) (plain_stmt (stmt place layer) at) → RunWithin R (stmt place layer)
  by_parts place layer at q is so some =
      let one = so (subst (SomeOf (IsRunWith R)) is some) in
      record { statement = one.statement; within = stands_below place layer one.stands; runs = one.runs; holds = one.holds }

  act_so : (place : Place) (layer : StmtKind-F StmtKind Arm Branch Stmt) (at : Position) →
      plain_stmt (stmt place layer) at ≡ Act (label_at at) (stmt place layer) →
      SomeOf (IsRunWith R) (plain_stmt (stmt place layer) at) → RunWithin R (stmt place layer)
  act_so place layer at is = by_parts place layer at (Act (label_at at) (stmt place layer)) is (λ none. absurd none)

  run_so : (place : Place) (layer : StmtKind-F StmtKind Arm Branch Stmt) → is_run_kind layer ≡ true → R place (kind_outputs layer) →
      RunWithin R (stmt place layer)
  run_so place layer run is = record {
    statement = stmt place layer;
    within = itself;
    runs = ap is_run_kind (layer_at place layer) ∙ run;
    holds = subst (λ at. R at (outputs_of (stmt place layer))) (sym (placed_at place layer))
        (subst (R place) (sym (outputs_at place layer)) is);
  }

  in_body : (body : List Stmt) (at : Position) → Each S body → ⊥ ⊎ SomeIn (IsRunWith R) (plain_block body at) → RunFound R body
  in_body body at each (inl none) = absurd none
  in_body body at each (inr some) = block_so body 0 at each some

  in_branches : (branches : List Branch) (l : Label) → EachBranch S branches →
      ⊥ ⊎ SomeInEach (IsRunWith R) (bodies_from (map plain_branch branches) 0 l) → RunFound R (joined (map (λ branch. (out-Branch branch).body) branches))
  in_branches branches l each (inl none) = absurd none
  in_branches branches l each (inr some) = branches_so branches 0 l each some

  no_arm_so : (other : List Stmt) (one two : Position) → Each S other →
      ⊥ ⊎ (SomeIn (IsRunWith R) (plain_block other one) ⊎ SomeIn (IsRunWith R) (plain_block other two)) → RunFound R other
  no_arm_so other one two others (inl none) = absurd none
  no_arm_so other one two others (inr (inl some)) = block_so other 0 one others some
  no_arm_so other one two others (inr (inr some)) = block_so other 0 two others some

  branching_so : (place : Place) (arms : List Arm) (other : List Stmt) → EachArm S arms → Each S other → S (stmt place (StmtKind-F.If arms other))
  branching_so place [] other each others at =
      by_parts place (StmtKind-F.If [] other) at
      (If (label_at at) place (never place) (plain_block other (inside (label_at at) 0)) (plain_block other (inside (label_at at) 1)))
      (rw (fold-roll-Stmt, fold-roll-StmtKind) refl)
      (no_arm_so other (inside (label_at at) 0) (inside (label_at at) 1) others)
  branching_so place (arm ∷ rest) other each others at =
      by_parts place (StmtKind-F.If (arm ∷ rest) other) at _ (plain_statements.branching place at arm rest other)
      (λ some. arms_so (label_at at) (arm ∷ rest) other each others (inl some))

  stmt_cases : Cases S
  stmt_cases = record {
    declare = λ place n initial at. act_so place (StmtKind-F.Declare n initial) at (plain_statements.declaration place at n initial);
    assign = λ place path e at. act_so place (StmtKind-F.Assign path e) at (plain_statements.assignment place at path e);
    call = λ place f inputs outputs at. act_so place (StmtKind-F.Call f inputs outputs) at (plain_statements.call place at f inputs outputs);
    await = λ place e at. by_parts place (StmtKind-F.Await e) at _ (plain_statements.pause place at e) (λ none. absurd none);
    run = λ place target a inputs outputs at some. run_so place (StmtKind-F.Run target a inputs outputs) refl
        (subst (SomeOf (IsRunWith R)) (plain_statements.run place at target a inputs outputs) some);
    branching = branching_so;
    cobegin = λ place branches each at. by_parts place (StmtKind-F.Cobegin branches) at _ (plain_statements.parallel place at branches)
        (in_branches branches (label_at at) each);
    guarded = λ place guard e body each at. by_parts place (StmtKind-F.When guard e body) at _ (plain_statements.guarded place at guard e body)
        (in_body body (inside (label_at at) 0) each);
    repeat = λ place body each at. by_parts place (StmtKind-F.Repeat body) at _ (plain_statements.endless place at body)
        (in_body body (inside (label_at at) 0) each);
    until = λ place body e each at. by_parts place (StmtKind-F.Until body e) at _ (plain_statements.until place at body e)
        (in_body body (inside (label_at at) 0) each);
    while = λ place e body each at. by_parts place (StmtKind-F.While e body) at _ (plain_statements.while place at e body)
        (in_body body (inside (label_at at) 0) each);
    returns = λ place e at. act_so place (StmtKind-F.Return e) at (plain_statements.returns place at e);
  }

  pub run_found : (body : List Stmt) (at : Position) → SomeIn (IsRunWith R) (plain_block body at) → RunFound R body
  run_found body at some = block_so body 0 at (λ n d within. induct S stmt_cases (get_or body n d)) some

pub runs_are_of_statements_so : RunsAreOfStatements
runs_are_of_statements_so body at p some =
    let one = run_found (λ at outputs. at ≡ p) body at some in
    record { statement = one.statement; stands = one.stands; runs = one.runs; placed = one.holds }

-- ---- branches

-- a `run` statement with the place stands in the branch with this number
record InBranch (branches : List Branch) (k : ℕ) (place : Place) : Type 0 where
  branch : Branch
  is_there : slice_get branches k ≡ Some branch
  found : RunStands (out-Branch branch).body place

-- no two branches run at one place
abbrev Distinct : List Branch → Type 0
Distinct branches = (place : Place) (j k : ℕ) → InBranch branches j place → InBranch branches k place → j ≡ k

in_one : (branches : List Branch) (n : ℕ) (l : Label) (place : Place) → SomeInEach (RunsAt place) (bodies_from (map plain_branch branches) n l) →
    (k : ℕ) × InBranch branches k place
in_one [] n l place some = absurd some
in_one (branch ∷ rest) n l place (inl some) =
    (zero, record { branch = branch; is_there = refl; found = runs_are_of_statements_so (out-Branch branch).body (inside l n) place some })
in_one (branch ∷ rest) n l place (inr some) =
    let more = in_one rest (suc n) l place some in
    (suc more.0, record { branch = more.1.branch; is_there = more.1.is_there; found = more.1.found })

later_one : (branch : Branch) (rest : List Branch) (k : ℕ) (place : Place) → InBranch rest k place → InBranch (branch ∷ rest) (suc k) place
later_one branch rest k place one = record { branch = one.branch; is_there = one.is_there; found = one.found }

pub not_first : (k : ℕ) → zero ≡ suc k → ⊥
not_first k e = absurd cc

distinct_so : (branches : List Branch) (n : ℕ) (l : Label) → Distinct branches → RunApart (bodies_from (map plain_branch branches) n l)
distinct_so [] n l distinct = tt
distinct_so (branch ∷ rest) n l distinct = (
  λ place one two.
      let other = in_one rest (suc n) l place two in
      not_first other.0 (distinct place zero (suc other.0)
      (record { branch = branch; is_there = refl; found = runs_are_of_statements_so (out-Branch branch).body (inside l n) place one })
      (later_one branch rest other.0 place other.1)),
  distinct_so rest (suc n) l (λ place j k one two. ap pred
      (distinct place (suc j) (suc k) (later_one branch rest j place one) (later_one branch rest k place two))),
)

-- ---- statements whose branches don't run at one place

-- of each statement that is among these
abbrev ApartAmong : (Stmt → Type 0) → Type 0
ApartAmong Among = (outer s t : Stmt) (j k : ℕ) → Among outer → RunsIn outer j s → RunsIn outer k t → place_of s ≡ place_of t → j ≡ k

apart_moved : {P Q : Stmt → Type 0} → ((s : Stmt) → Q s → P s) → ApartAmong P → ApartAmong Q
apart_moved so apart outer s t j k among = apart outer s t j k (so outer among)

abbrev Z : Stmt → Type 0
Z s = (at : Position) → ApartAmong (λ inner. Within inner s) → EachFork RunApart (plain_stmt s at)

forks_in : (body : List Stmt) (n : ℕ) (at : Position) → Each Z body → ApartAmong (StandsIn body) →
    EachForkIn RunApart (block_from (map plain_stmt body) n at)
forks_in [] n at each apart = tt
forks_in (s ∷ rest) n at each apart = (
  All-head Z s rest each (at ++ n ∷ []) (apart_moved {P = StandsIn (s ∷ rest)} (λ inner within. stands_first s rest within) apart),
  forks_in rest (suc n) at (All-tail Z s rest each) (apart_moved {P = StandsIn (s ∷ rest)} (λ inner one. stands_right (s ∷ []) rest one) apart),
)

forks_in_arms : (l : Label) (arms : List Arm) (other : List Stmt) → EachArm Z arms → Each Z other →
    ApartAmong (StandsIn (joined (map (λ arm. (out-Arm arm).body) arms) ++ other)) →
    EachForkIn RunApart (else_at l (map plain_arm arms) (plain_block other))
forks_in_arms l [] other each others apart = forks_in other 0 (inside l l.passed) others apart
forks_in_arms l (arm ∷ rest) other each others apart =
    let more : List Stmt = joined (map (λ arm. (out-Arm arm).body) rest) in (
      (
        forks_in (out-Arm arm).body 0 (inside l l.passed) (All-head (λ arm. Each Z (out-Arm arm).body) arm rest each)
            (apart_moved {P = StandsIn (((out-Arm arm).body ++ more) ++ other)}
            (λ inner one. stands_left ((out-Arm arm).body ++ more) other (stands_left (out-Arm arm).body more one)) apart),
        forks_in_arms (passed_one l) rest other (All-tail (λ arm. Each Z (out-Arm arm).body) arm rest each) others
            (apart_moved {P = StandsIn (((out-Arm arm).body ++ more) ++ other)} (λ inner one. stands_between (out-Arm arm).body more other one) apart),
      ),
      tt,
    )

forks_in_branches : (branches : List Branch) (n : ℕ) (l : Label) → EachBranch Z branches →
    ApartAmong (StandsIn (joined (map (λ branch. (out-Branch branch).body) branches))) →
    EachForkInEach RunApart (bodies_from (map plain_branch branches) n l)
forks_in_branches [] n l each apart = tt
forks_in_branches (branch ∷ rest) n l each apart =
    let more : List Stmt = joined (map (λ branch. (out-Branch branch).body) rest) in (
      forks_in (out-Branch branch).body 0 (inside l n) (All-head (λ branch. Each Z (out-Branch branch).body) branch rest each)
          (apart_moved {P = StandsIn ((out-Branch branch).body ++ more)} (λ inner one. stands_left (out-Branch branch).body more one) apart),
      forks_in_branches rest (suc n) l (All-tail (λ branch. Each Z (out-Branch branch).body) branch rest each)
          (apart_moved {P = StandsIn ((out-Branch branch).body ++ more)} (λ inner one. stands_right (out-Branch branch).body more one) apart),
    )

forks_by_parts : (place : Place) (layer : StmtKind-F StmtKind Arm Branch Stmt) (at : Position) (q : Plain) → plain_stmt (stmt place layer) at ≡ q →
    (ApartAmong (StandsIn (kind_children layer)) → EachFork RunApart q) → ApartAmong (λ inner. Within inner (stmt place layer)) →
    EachFork RunApart (plain_stmt (stmt place layer) at)
forks_by_parts place layer at q is so apart =
    subst (EachFork RunApart) (sym is)
    (so (apart_moved {P = λ inner. Within inner (stmt place layer)} (λ inner one. stands_below place layer one) apart))

branches_at : (place : Place) (branches : List Branch) → branches_of (stmt place (StmtKind-F.Cobegin branches)) ≡ branches
branches_at place branches = ap kind_branches (layer_at place (StmtKind-F.Cobegin branches))

runs_in_one : (place : Place) (branches : List Branch) (k : ℕ) (p : Place) (one : InBranch branches k p) →
    RunsIn (stmt place (StmtKind-F.Cobegin branches)) k one.found.statement
runs_in_one place branches k p one = record {
  branch = one.branch;
  is_there = subst (λ branches. slice_get branches k ≡ Some one.branch) (sym (branches_at place branches)) one.is_there;
  stands = one.found.stands;
  runs = one.found.runs;
}

forked_so : (place : Place) (branches : List Branch) → EachBranch Z branches → Z (stmt place (StmtKind-F.Cobegin branches))
forked_so place branches each at apart =
    subst (EachFork RunApart) (sym (plain_statements.parallel place at branches)) (
      distinct_so branches 0 (label_at at) (λ p j k one two. apart (stmt place (StmtKind-F.Cobegin branches)) one.found.statement two.found.statement j k
          itself (runs_in_one place branches j p one) (runs_in_one place branches k p two) (one.found.placed ∙ sym two.found.placed)),
      forks_in_branches branches 0 (label_at at) each
          (apart_moved {P = λ inner. Within inner (stmt place (StmtKind-F.Cobegin branches))}
          (λ inner one. stands_below place (StmtKind-F.Cobegin branches) one) apart),
    )

forks_of_branching : (place : Place) (arms : List Arm) (other : List Stmt) → EachArm Z arms → Each Z other → Z (stmt place (StmtKind-F.If arms other))
forks_of_branching place [] other each others at =
    forks_by_parts place (StmtKind-F.If [] other) at
    (If (label_at at) place (never place) (plain_block other (inside (label_at at) 0)) (plain_block other (inside (label_at at) 1)))
    (rw (fold-roll-Stmt, fold-roll-StmtKind) refl)
    (λ apart. (forks_in other 0 (inside (label_at at) 0) others apart, forks_in other 0 (inside (label_at at) 1) others apart))
forks_of_branching place (arm ∷ rest) other each others at =
    forks_by_parts place (StmtKind-F.If (arm ∷ rest) other) at _ (plain_statements.branching place at arm rest other)
    (λ apart. (forks_in_arms (label_at at) (arm ∷ rest) other each others apart).0)

fork_cases : Cases Z
fork_cases = record {
  declare = λ place n initial at. forks_by_parts place (StmtKind-F.Declare n initial) at _ (plain_statements.declaration place at n initial) (λ apart. tt);
  assign = λ place path e at. forks_by_parts place (StmtKind-F.Assign path e) at _ (plain_statements.assignment place at path e) (λ apart. tt);
  call = λ place f inputs outputs at.
      forks_by_parts place (StmtKind-F.Call f inputs outputs) at _ (plain_statements.call place at f inputs outputs) (λ apart. tt);
  await = λ place e at. forks_by_parts place (StmtKind-F.Await e) at _ (plain_statements.pause place at e) (λ apart. tt);
  run = λ place target a inputs outputs at.
      forks_by_parts place (StmtKind-F.Run target a inputs outputs) at _ (plain_statements.run place at target a inputs outputs) (λ apart. tt);
  branching = forks_of_branching;
  cobegin = forked_so;
  guarded = λ place guard e body each at. forks_by_parts place (StmtKind-F.When guard e body) at _ (plain_statements.guarded place at guard e body)
      (forks_in body 0 (inside (label_at at) 0) each);
  repeat = λ place body each at. forks_by_parts place (StmtKind-F.Repeat body) at _ (plain_statements.endless place at body)
      (forks_in body 0 (inside (label_at at) 0) each);
  until = λ place body e each at. forks_by_parts place (StmtKind-F.Until body e) at _ (plain_statements.until place at body e)
      (forks_in body 0 (inside (label_at at) 0) each);
  while = λ place e body each at. forks_by_parts place (StmtKind-F.While e body) at _ (plain_statements.while place at e body)
      (forks_in body 0 (inside (label_at at) 0) each);
  returns = λ place e at. forks_by_parts place (StmtKind-F.Return e) at _ (plain_statements.returns place at e) (λ apart. tt);
}

pub branches_run_apart_so : BranchesRunApart
branches_run_apart_so body at apart = forks_in body 0 at (λ n d within. induct Z fork_cases (get_or body n d)) apart

pub accepted_runs_apart_so : AcceptedRunsApart
accepted_runs_apart_so structs units entry i unit keeps passes is =
    branches_run_apart_so unit.body [] ((accepted_is_orderly structs units entry keeps passes).each i unit is).runs
