-- A peeled body has the `run`s of the body, one for each place.
use Rattle.std.proofs.Common.{◌≡◌, Bool, true, false, List, [], ◌∷◌, ◌++◌, map, refl, sym, ap, ◌∙◌, append-nil}
use Rattle.std.specs.Prelude.{if◌then◌else◌}
use Rattle.std.proofs.lemmas.List.{map-append}
use Rattle.std.proofs.lemmas.List.Elements.{All-head, All-tail}
use Rattle.bl_tree.specs.declared.place.Place.{Place}
use Rattle.bl_tree.specs.declared.tree.Arm.{Arm, fold_out-Arm, fold-roll-Arm, out-Arm}
use Rattle.bl_tree.specs.declared.tree.Branch.{Branch, fold_out-Branch, fold-roll-Branch, out-Branch, roll-Branch}
use Rattle.bl_tree.specs.declared.tree.Expr.{Expr}
use Rattle.bl_tree.specs.declared.tree.Stmt.{Stmt, fold-roll-Stmt}
use Rattle.bl_tree.specs.declared.tree.StmtKind.{StmtKind, fold-StmtKind, fold-roll-StmtKind}
use Rattle.bl_tree.specs.declared.tree.StmtKind.TheFolds.{map-StmtKind}
use Rattle.bl_tree.specs.declared.tree.StmtKind.TheOpen.{StmtKind-F}
use Rattle.bl_tree.specs.Reduce.{joined}
use Rattle.bl_tree.proofs.ReduceLemmas.{joined-append}
use Rattle.bl_tree.proofs.StmtInduction.{Cases, Each, EachArm, EachBranch, induct}
use Rattle.bl_graph_nodes.specs.Laws.{stmt}
use Rattle.bl_ctree.specs.Instances.{arm_runs, branch_runs, kind_runs, one_a_place, runs_in, runs_in_arm, runs_in_branch, stmt_layer_runs}
use Rattle.bl_ctree.specs.declared.instance.Run.{Run}
use Rattle.bl_peel.specs.Peeled.{Peeling, deep_of, front_of, kind_peeling, made_arm, made_if, peeled, peeling}
use Rattle.bl_ctree_laws_peeled.proofs.Peeling.{arm_out, branch_out, peeling_at, peeling_of_arm, peeling_of_branch, peeling_parts}
use Rattle.bl_ctree_laws_peeled.proofs.Places.{one_both, one_twice}

-- ---- the `run`s of what is made

abbrev runs_of_kind : StmtKind → Place → List Run
runs_of_kind = fold-StmtKind (Place → List Run) (List Run) (List Run) (List Run) kind_runs arm_runs branch_runs stmt_layer_runs

abbrev run_parts : StmtKind-F StmtKind Arm Branch Stmt → StmtKind-F (Place → List Run) (List Run) (List Run) (List Run)
run_parts = map-StmtKind StmtKind Arm Branch Stmt (Place → List Run) (List Run) (List Run) (List Run) runs_of_kind runs_in_arm runs_in_branch runs_in

runs_at : (place : Place) (layer : StmtKind-F StmtKind Arm Branch Stmt) → runs_in (stmt place layer) ≡ kind_runs (run_parts layer) place
runs_at place layer = rw (fold-roll-Stmt, fold-roll-StmtKind) refl

abbrev block_runs : List Stmt → List Run
block_runs body = joined (map runs_in body)

arm_is : (arm : Arm) → runs_in_arm arm ≡ block_runs (out-Arm arm).body
arm_is = fold_out-Arm (Place → List Run) (List Run) (List Run) (List Run) kind_runs arm_runs branch_runs stmt_layer_runs

branch_is : (branch : Branch) → runs_in_branch branch ≡ block_runs (out-Branch branch).body
branch_is = fold_out-Branch (Place → List Run) (List Run) (List Run) (List Run) kind_runs arm_runs branch_runs stmt_layer_runs

made_arm_is : (e : Expr) (body : List Stmt) → runs_in_arm (made_arm e body) ≡ block_runs body
made_arm_is e body = rw fold-roll-Arm refl

made_branch_is : (weak : Bool) (body : List Stmt) → runs_in_branch (roll-Branch (record { weak = weak; body = body })) ≡ block_runs body
made_branch_is weak body = rw fold-roll-Branch refl

joined_is : (xs ys : List Stmt) → block_runs (xs ++ ys) ≡ block_runs xs ++ block_runs ys
joined_is xs ys = ap joined (map-append runs_in xs ys) ∙ joined-append (map runs_in xs) (map runs_in ys)

made_if_runs : (e : Expr) (body other : List Stmt) → runs_in (made_if e body other) ≡ block_runs body ++ block_runs other
made_if_runs e body other =
    runs_at _ (StmtKind-F.If (made_arm e body ∷ []) other) ∙ ap (λ runs. runs ++ block_runs other) (append-nil (runs_in_arm (made_arm e body)) ∙ made_arm_is e body)

-- ---- what has the same `run`s

-- two lists have the same `run`s, one a place
abbrev Once : List Run → List Run → Type 0
Once made runs = one_a_place made ≡ one_a_place runs

record OnceOf (s : Stmt) (made : Peeling) : Type 0 where
  deep : Once (runs_in made.deep) (runs_in s)
  front : Once (block_runs made.front) (runs_in s)

abbrev P : Stmt → Type 0
P s = OnceOf s (peeling s)

deep_runs : (body : List Stmt) → Each P body → Once (block_runs (deep_of (map peeling body))) (block_runs body)
deep_runs [] each = refl
deep_runs (s ∷ body) each = one_both (runs_in (peeling s).deep) (runs_in s) (block_runs (deep_of (map peeling body))) (block_runs body) (All-head P s body each).deep (deep_runs body (All-tail P s body each))

either : (b : Bool) (one other : List Stmt) (runs : List Run) → Once (block_runs one) runs → Once (block_runs other) runs →
    Once (block_runs (if b then one else other)) runs
either true one other runs first second = first
either false one other runs first second = second

front_runs : (body : List Stmt) → Each P body → Once (block_runs (front_of (map peeling body))) (block_runs body)
front_runs [] each = refl
front_runs (s ∷ body) each =
    ap one_a_place (joined_is (peeling s).front (if (peeling s).instant then front_of (map peeling body) else deep_of (map peeling body)))
    ∙ one_both (block_runs (peeling s).front) (runs_in s)
    (block_runs (if (peeling s).instant then front_of (map peeling body) else deep_of (map peeling body))) (block_runs body) (All-head P s body each).front
    (either (peeling s).instant (front_of (map peeling body)) (deep_of (map peeling body)) (block_runs body) (front_runs body (All-tail P s body each))
    (deep_runs body (All-tail P s body each)))

-- a statement that becomes one statement
lone : (place : Place) (layer deep front : StmtKind-F StmtKind Arm Branch Stmt) →
    (kind_peeling (peeling_parts layer) place).deep ≡ stmt place deep → (kind_peeling (peeling_parts layer) place).front ≡ stmt place front ∷ [] →
    Once (kind_runs (run_parts deep) place) (kind_runs (run_parts layer) place) → Once (kind_runs (run_parts front) place) (kind_runs (run_parts layer) place) →
    P (stmt place layer)
lone place layer deep front is first one other = record {
  deep = ap (λ made. one_a_place (runs_in made.deep)) (peeling_at place layer) ∙ ap (λ s. one_a_place (runs_in s)) is ∙ ap one_a_place (runs_at place deep)
      ∙ one ∙ sym (ap one_a_place (runs_at place layer));
  front = ap (λ made. one_a_place (block_runs made.front)) (peeling_at place layer) ∙ ap (λ body. one_a_place (block_runs body)) first
      ∙ ap one_a_place (append-nil (runs_in (stmt place front)) ∙ runs_at place front) ∙ other ∙ sym (ap one_a_place (runs_at place layer));
}

-- a loop behind its first turn
turned : (place : Place) (layer deep : StmtKind-F StmtKind Arm Branch Stmt) (front : List Stmt) (next : Stmt) (runs : List Run) →
    (kind_peeling (peeling_parts layer) place).deep ≡ stmt place deep → (kind_peeling (peeling_parts layer) place).front ≡ front ++ next ∷ [] →
    kind_runs (run_parts layer) place ≡ runs → Once (kind_runs (run_parts deep) place) runs → Once (block_runs front) runs → Once (runs_in next) runs →
    P (stmt place layer)
turned place layer deep front next runs is first own one turns again = record {
  deep = ap (λ made. one_a_place (runs_in made.deep)) (peeling_at place layer) ∙ ap (λ s. one_a_place (runs_in s)) is ∙ ap one_a_place (runs_at place deep)
      ∙ one ∙ sym (ap one_a_place (runs_at place layer ∙ own));
  front = ap (λ made. one_a_place (block_runs made.front)) (peeling_at place layer) ∙ ap (λ body. one_a_place (block_runs body)) first
      ∙ ap one_a_place (joined_is front (next ∷ []) ∙ ap (λ rest. block_runs front ++ rest) (append-nil (runs_in next)))
      ∙ one_twice (block_runs front) (runs_in next) (turns ∙ sym again) ∙ turns ∙ sym (ap one_a_place (runs_at place layer ∙ own));
}

-- ---- arms and branches

deep_arms : (arms : List Arm) → EachArm P arms →
    Once (joined (map runs_in_arm (map (λ arm. arm.deep) (map peeling_of_arm arms)))) (joined (map runs_in_arm arms))
deep_arms [] each = refl
deep_arms (arm ∷ arms) each =
    one_both (runs_in_arm (peeling_of_arm arm).deep) (runs_in_arm arm)
    (joined (map runs_in_arm (map (λ arm. arm.deep) (map peeling_of_arm arms)))) (joined (map runs_in_arm arms))
    (ap (λ made. one_a_place (runs_in_arm made.deep)) (arm_out arm) ∙ ap one_a_place (made_arm_is (out-Arm arm).test (deep_of (map peeling (out-Arm arm).body)))
    ∙ deep_runs (out-Arm arm).body (All-head (λ arm. Each P (out-Arm arm).body) arm arms each) ∙ sym (ap one_a_place (arm_is arm)))
    (deep_arms arms (All-tail (λ arm. Each P (out-Arm arm).body) arm arms each))

front_arms : (arms : List Arm) → EachArm P arms →
    Once (joined (map runs_in_arm (map (λ arm. arm.front) (map peeling_of_arm arms)))) (joined (map runs_in_arm arms))
front_arms [] each = refl
front_arms (arm ∷ arms) each =
    one_both (runs_in_arm (peeling_of_arm arm).front) (runs_in_arm arm)
    (joined (map runs_in_arm (map (λ arm. arm.front) (map peeling_of_arm arms)))) (joined (map runs_in_arm arms))
    (ap (λ made. one_a_place (runs_in_arm made.front)) (arm_out arm) ∙ ap one_a_place (made_arm_is (out-Arm arm).test (front_of (map peeling (out-Arm arm).body)))
    ∙ front_runs (out-Arm arm).body (All-head (λ arm. Each P (out-Arm arm).body) arm arms each) ∙ sym (ap one_a_place (arm_is arm)))
    (front_arms arms (All-tail (λ arm. Each P (out-Arm arm).body) arm arms each))

all_branches : (branches : List Branch) → EachBranch P branches →
    Once (joined (map runs_in_branch (map (λ branch. branch.branch) (map peeling_of_branch branches)))) (joined (map runs_in_branch branches))
all_branches [] each = refl
all_branches (branch ∷ branches) each =
    one_both (runs_in_branch (peeling_of_branch branch).branch) (runs_in_branch branch)
    (joined (map runs_in_branch (map (λ branch. branch.branch) (map peeling_of_branch branches)))) (joined (map runs_in_branch branches))
    (ap (λ made. one_a_place (runs_in_branch made.branch)) (branch_out branch)
    ∙ ap one_a_place (made_branch_is (out-Branch branch).weak (front_of (map peeling (out-Branch branch).body)))
    ∙ front_runs (out-Branch branch).body (All-head (λ branch. Each P (out-Branch branch).body) branch branches each)
    ∙ sym (ap one_a_place (branch_is branch)))
    (all_branches branches (All-tail (λ branch. Each P (out-Branch branch).body) branch branches each))

-- ---- all statements

cases : Cases P
cases = record {
  declare = λ place k initial. lone place (StmtKind-F.Declare k initial) (StmtKind-F.Declare k initial) (StmtKind-F.Declare k initial) refl refl refl refl;
  assign = λ place path e. lone place (StmtKind-F.Assign path e) (StmtKind-F.Assign path e) (StmtKind-F.Assign path e) refl refl refl refl;
  call = λ place f inputs outputs. lone place (StmtKind-F.Call f inputs outputs) (StmtKind-F.Call f inputs outputs) (StmtKind-F.Call f inputs outputs) refl refl refl refl;
  await = λ place e. lone place (StmtKind-F.Await e) (StmtKind-F.Await e) (StmtKind-F.Await e) refl refl refl refl;
  run = λ place target a inputs outputs. lone place (StmtKind-F.Run target a inputs outputs) (StmtKind-F.Run target a inputs outputs) (StmtKind-F.Run target a inputs outputs) refl refl refl refl;
  branching = λ place arms other each others.
      lone place (StmtKind-F.If arms other) (StmtKind-F.If (map (λ arm. arm.deep) (map peeling_of_arm arms)) (deep_of (map peeling other)))
      (StmtKind-F.If (map (λ arm. arm.front) (map peeling_of_arm arms)) (front_of (map peeling other))) refl refl (one_both (joined (map runs_in_arm (map (λ arm. arm.deep) (map peeling_of_arm arms)))) (joined (map runs_in_arm arms))
      (block_runs (deep_of (map peeling other))) (block_runs other) (deep_arms arms each) (deep_runs other others)) (one_both (joined (map runs_in_arm (map (λ arm. arm.front) (map peeling_of_arm arms)))) (joined (map runs_in_arm arms))
      (block_runs (front_of (map peeling other))) (block_runs other) (front_arms arms each) (front_runs other others));
  cobegin = λ place branches each.
      lone place (StmtKind-F.Cobegin branches) (StmtKind-F.Cobegin (map (λ branch. branch.branch) (map peeling_of_branch branches)))
      (StmtKind-F.Cobegin (map (λ branch. branch.branch) (map peeling_of_branch branches))) refl refl (all_branches branches each) (all_branches branches each);
  guarded = λ place guard e body each.
      lone place (StmtKind-F.When guard e body) (StmtKind-F.When guard e (deep_of (map peeling body)))
      (StmtKind-F.When guard e (front_of (map peeling body))) refl refl (deep_runs body each) (front_runs body each);
  repeat = λ place body each.
      turned place (StmtKind-F.Repeat body) (StmtKind-F.Repeat (deep_of (map peeling body))) (front_of (map peeling body)) (stmt place (StmtKind-F.Repeat (deep_of (map peeling body)))) (block_runs body) refl refl refl (deep_runs body each)
      (front_runs body each) (ap one_a_place (runs_at place (StmtKind-F.Repeat (deep_of (map peeling body)))) ∙ deep_runs body each);
  until = λ place body e each.
      let loop = stmt place (StmtKind-F.Until (deep_of (map peeling body)) e) in
      turned place (StmtKind-F.Until body e) (StmtKind-F.Until (deep_of (map peeling body)) e) (front_of (map peeling body)) (made_if e [] (loop ∷ [])) (block_runs body) refl refl refl (deep_runs body each) (front_runs body each)
      (ap one_a_place (made_if_runs e [] (loop ∷ []) ∙ append-nil (runs_in loop) ∙ runs_at place (StmtKind-F.Until (deep_of (map peeling body)) e))
      ∙ deep_runs body each);
  while = λ place e body each.
      let loop = stmt place (StmtKind-F.While e (deep_of (map peeling body))) in
      record {
        deep = ap (λ made. one_a_place (runs_in made.deep)) (peeling_at place (StmtKind-F.While e body))
            ∙ ap one_a_place (runs_at place (StmtKind-F.While e (deep_of (map peeling body)))) ∙ deep_runs body each
            ∙ sym (ap one_a_place (runs_at place (StmtKind-F.While e body)));
        front = ap (λ made. one_a_place (block_runs made.front)) (peeling_at place (StmtKind-F.While e body))
            ∙ ap one_a_place (append-nil (runs_in (made_if e (front_of (map peeling body) ++ loop ∷ []) []))
            ∙ made_if_runs e (front_of (map peeling body) ++ loop ∷ []) [] ∙ append-nil (block_runs (front_of (map peeling body) ++ loop ∷ []))
            ∙ joined_is (front_of (map peeling body)) (loop ∷ []) ∙ ap (λ rest. block_runs (front_of (map peeling body)) ++ rest) (append-nil (runs_in loop)))
            ∙ one_twice (block_runs (front_of (map peeling body))) (runs_in loop)
            (front_runs body each ∙ sym (ap one_a_place (runs_at place (StmtKind-F.While e (deep_of (map peeling body)))) ∙ deep_runs body each))
            ∙ front_runs body each ∙ sym (ap one_a_place (runs_at place (StmtKind-F.While e body)));
      };
  returns = λ place e. lone place (StmtKind-F.Return e) (StmtKind-F.Return e) (StmtKind-F.Return e) refl refl refl refl;
}

each_once : (body : List Stmt) → Each P body
each_once body k s lt = induct P cases _

-- the `run`s of a peeled body, one a place, are those of the body
pub peeled_runs : (body : List Stmt) → one_a_place (joined (map runs_in (peeled body))) ≡ one_a_place (joined (map runs_in body))
peeled_runs body = deep_runs body (each_once body)
