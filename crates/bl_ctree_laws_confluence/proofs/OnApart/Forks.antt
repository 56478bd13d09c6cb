-- Branches of one `cobegin` keep their variables apart.
use Rattle.std.proofs.Common.{◌≡◌, inl, inr, ℕ, suc, Bool, true, false, not, ◌&&◌, ◌||◌, List, [], ◌∷◌, ◌++◌, map, get_or, refl, sym, ap, ◌∙◌, subst, eqb-true}
use Rattle.std.specs.Prelude.{nat_eq}
use Rattle.std.specs.List.{list_all, list_any}
use Rattle.std.proofs.lemmas.List.Elements.{All-head, All-tail}
use Rattle.std.proofs.lemmas.Bool.{or_left, or_right}
use Rattle.bl_tree.proofs.Basics.{and_first, and_second}
use Rattle.bl_tree.specs.declared.place.Place.{Place}
use Rattle.bl_tree.specs.declared.tree.Arm.{Arm, fold_out-Arm, out-Arm}
use Rattle.bl_tree.specs.declared.tree.Branch.{Branch, fold_out-Branch, out-Branch}
use Rattle.bl_tree.specs.declared.tree.Stmt.{Stmt, fold-roll-Stmt}
use Rattle.bl_tree.specs.declared.tree.StmtKind.{StmtKind, fold-roll-StmtKind}
use Rattle.bl_tree.specs.declared.tree.StmtKind.TheOpen.{StmtKind-F}
use Rattle.bl_tree.specs.Apart.{Naming, Roots, all_apart, arm_naming, branch_naming, is_apart, is_foreign, keep_apart, naming_of, stmt_kind_naming}
use Rattle.bl_tree.specs.Apart.{stmt_layer_naming}
use Rattle.bl_tree.specs.Reduce.{all_of}
use Rattle.bl_tree.proofs.StmtInduction.{Cases, Each, EachArm, EachBranch, induct, stmt}
use Rattle.bl_graph_nodes.specs.Laws.{plain_arm, plain_branch}
use Rattle.bl_graph_nodes.specs.Plain.{Label, Plain, Position, If, block_from, bodies_from, else_at, inside, label_at, never, passed_one, plain_stmt}
use Rattle.bl_graph_nodes.specs.Plain.{plain_block}
use Rattle.bl_graph_nodes.proofs.Equations.{plain_statements}
use Rattle.bl_ctree.specs.Actions.{Effect}
use Rattle.bl_ctree.specs.Instances.{Setting}
use Rattle.bl_ctree_laws_confluence.specs.Apart.Forks.{BranchesKeepApart, EachFork, EachForkIn, EachForkInEach, Foreign, KeepApart}
use Rattle.bl_ctree_laws_confluence.specs.Apart.Named.{OneOf, effect_declares, effect_roots}
use Rattle.bl_ctree_laws_confluence.specs.Apart.Owned.{HasEffect, SomeIn, SomeInEach}
use Rattle.bl_ctree_laws_confluence.proofs.OnApart.Declared.{bodies_declare_so}
use Rattle.bl_ctree_laws_confluence.proofs.OnApart.Named.{bodies_name_so, folded_arm, folded_branch, naming_at, naming_parts}

-- ---- what is foreign

meet : (k : ℕ) (xs ys : Roots) → OneOf k xs → OneOf k ys → list_any (λ j. list_any (nat_eq j) ys) xs ≡ true
meet k [] ys e is = absurd cc
meet k (x ∷ xs) ys e is = by_test (nat_eq k x) refl (λ more. meet k xs ys more is) e
  where
    by_test : (b : Bool) → nat_eq k x ≡ b → (OneOf k xs → list_any (λ j. list_any (nat_eq j) ys) xs ≡ true) →
        (b || list_any (nat_eq k) xs) ≡ true →
        (list_any (nat_eq x) ys || list_any (λ j. list_any (nat_eq j) ys) xs) ≡ true
    by_test true same more e =
        or_left (list_any (nat_eq x) ys) (list_any (λ j. list_any (nat_eq j) ys) xs) (subst (λ k. OneOf k ys) (eqb-true k x same) is)
    by_test false same more e = or_right (list_any (nat_eq x) ys) (list_any (λ j. list_any (nat_eq j) ys) xs) (more e)

not_both : {A : Type 0} (b : Bool) → not b ≡ true → b ≡ true → A
not_both true e f = absurd cc
not_both false e f = absurd cc

pub foreign_so : {A : Type 0} (k : ℕ) (xs ys : Roots) → is_foreign xs ys ≡ true → OneOf k xs → OneOf k ys → A
foreign_so k xs ys e one other = not_both (list_any (λ j. list_any (nat_eq j) ys) xs) e (meet k xs ys one other)

-- what a branch declares and names is known
record Known (e : Effect) (n : Naming) : Type 0 where
  declares : (k : ℕ) → OneOf k (effect_declares e) → OneOf k n.declared
  names : (k : ℕ) → OneOf k (effect_roots e) → OneOf k n.named

apart_so : (e other : Effect) (n m : Naming) → Known e n → Known other m → keep_apart n m ≡ true → Foreign e other × Foreign other e
apart_so e other n m one two apart = (
  λ k declared named. foreign_so k m.declared n.named (and_second (is_foreign n.declared m.named) (is_foreign m.declared n.named) apart)
      (two.declares k declared) (one.names k named),
  λ k declared named. foreign_so k n.declared m.named (and_first (is_foreign n.declared m.named) (is_foreign m.declared n.named) apart)
      (one.declares k declared) (two.names k named),
)

branch_known : (w : Setting) (i : ℕ) (e : Effect) (branch : Branch) (at : Position) → SomeIn (HasEffect w i e) (plain_block (out-Branch branch).body at) →
    Known e (folded_branch branch)
branch_known w i e branch at some =
    subst (Known e) (sym (fold_out-Branch Naming Naming Naming Naming stmt_kind_naming arm_naming branch_naming stmt_layer_naming branch)) (record {
      declares = λ k one. bodies_declare_so w i (out-Branch branch).body at e k some one;
      names = λ k one. bodies_name_so w i (out-Branch branch).body at e k some one;
    })

-- one of the further branches does it
others_apart : (w : Setting) (i : ℕ) (e other : Effect) (n : Naming) (branches : List Branch) (j : ℕ) (l : Label) → Known e n →
    list_all (keep_apart n) (map folded_branch branches) ≡ true → SomeInEach (HasEffect w i other) (bodies_from (map plain_branch branches) j l) →
    Foreign e other × Foreign other e
others_apart w i e other n [] j l known apart some = absurd some
others_apart w i e other n (branch ∷ rest) j l known apart (inl some) =
    apart_so e other n (folded_branch branch) known (branch_known w i other branch (inside l j) some)
    (and_first (keep_apart n (folded_branch branch)) (list_all (keep_apart n) (map folded_branch rest)) apart)
others_apart w i e other n (branch ∷ rest) j l known apart (inr some) =
    others_apart w i e other n rest (suc j) l known
    (and_second (keep_apart n (folded_branch branch)) (list_all (keep_apart n) (map folded_branch rest)) apart) some

bodies_apart : (branches : List Branch) (j : ℕ) (l : Label) → all_apart (map folded_branch branches) ≡ true →
    KeepApart (bodies_from (map plain_branch branches) j l)
bodies_apart [] j l apart = tt
bodies_apart (branch ∷ rest) j l apart = (
  λ w i e other one two. others_apart w i e other (folded_branch branch) rest (suc j) l (branch_known w i e branch (inside l j) one)
      (and_first (list_all (keep_apart (folded_branch branch)) (map folded_branch rest)) (all_apart (map folded_branch rest)) apart) two,
  bodies_apart rest (suc j) l
      (and_second (list_all (keep_apart (folded_branch branch)) (map folded_branch rest)) (all_apart (map folded_branch rest)) apart),
)

-- ---- statements

abbrev S : Stmt → Type 0
S s = (at : Position) → is_apart s ≡ true → EachFork KeepApart (plain_stmt s at)

-- whether these keep apart
abbrev pub each_apart : List Naming → Bool
each_apart namings = all_of (map (λ n. n.apart) namings)

block_so : (body : List Stmt) (n : ℕ) (at : Position) → Each S body → each_apart (map naming_of body) ≡ true →
    EachForkIn KeepApart (block_from (map plain_stmt body) n at)
block_so [] n at each apart = tt
block_so (s ∷ rest) n at each apart = (
  All-head S s rest each (at ++ n ∷ []) (and_first (is_apart s) (each_apart (map naming_of rest)) apart),
  block_so rest (suc n) at (All-tail S s rest each) (and_second (is_apart s) (each_apart (map naming_of rest)) apart),
)

arm_so : (arm : Arm) (at : Position) → Each S (out-Arm arm).body → (folded_arm arm).apart ≡ true →
    EachForkIn KeepApart (plain_block (out-Arm arm).body at)
arm_so arm at each apart =
    block_so (out-Arm arm).body 0 at each
    (sym (ap (λ n. n.apart) (fold_out-Arm Naming Naming Naming Naming stmt_kind_naming arm_naming branch_naming stmt_layer_naming arm)) ∙ apart)

arms_so : (l : Label) (arms : List Arm) (other : List Stmt) → EachArm S arms → Each S other →
    each_apart (map folded_arm arms ++ map naming_of other) ≡ true → EachForkIn KeepApart (else_at l (map plain_arm arms) (plain_block other))
arms_so l [] other each others apart = block_so other 0 (inside l l.passed) others apart
arms_so l (arm ∷ rest) other each others apart = (
  (
    arm_so arm (inside l l.passed) (All-head (λ arm. Each S (out-Arm arm).body) arm rest each)
        (and_first (folded_arm arm).apart (each_apart (map folded_arm rest ++ map naming_of other)) apart),
    arms_so (passed_one l) rest other (All-tail (λ arm. Each S (out-Arm arm).body) arm rest each) others
        (and_second (folded_arm arm).apart (each_apart (map folded_arm rest ++ map naming_of other)) apart),
  ),
  tt,
)

branches_so : (branches : List Branch) (n : ℕ) (l : Label) → EachBranch S branches → each_apart (map folded_branch branches) ≡ true →
    EachForkInEach KeepApart (bodies_from (map plain_branch branches) n l)
branches_so [] n l each apart = tt
branches_so (branch ∷ rest) n l each apart = (
  block_so (out-Branch branch).body 0 (inside l n) (All-head (λ branch. Each S (out-Branch branch).body) branch rest each)
      (sym (ap (λ n. n.apart) (fold_out-Branch Naming Naming Naming Naming stmt_kind_naming arm_naming branch_naming stmt_layer_naming branch))
      ∙ and_first (folded_branch branch).apart (each_apart (map folded_branch rest)) apart),
  branches_so rest (suc n) l (All-tail (λ branch. Each S (out-Branch branch).body) branch rest each)
      (and_second (folded_branch branch).apart (each_apart (map folded_branch rest)) apart),
)

by_parts : (place : Place) (layer : StmtKind-F StmtKind Arm Branch Stmt) (at : Position) (p : Plain) → plain_stmt (stmt place layer) at ≡ p →
    ((stmt_kind_naming (naming_parts layer)).apart ≡ true → EachFork KeepApart p) → is_apart (stmt place layer) ≡ true →
    EachFork KeepApart (plain_stmt (stmt place layer) at)
by_parts place layer at p is so apart = subst (EachFork KeepApart) (sym is) (so (sym (ap (λ n. n.apart) (naming_at place layer)) ∙ apart))

branching_so : (place : Place) (arms : List Arm) (other : List Stmt) → EachArm S arms → Each S other → S (stmt place (StmtKind-F.If arms other))
branching_so place [] other each others at =
    by_parts place (StmtKind-F.If [] other) at
    (If (label_at at) place (never place) (plain_block other (inside (label_at at) 0)) (plain_block other (inside (label_at at) 1)))
    (rw (fold-roll-Stmt, fold-roll-StmtKind) refl)
    (λ apart. (block_so other 0 (inside (label_at at) 0) others apart, block_so other 0 (inside (label_at at) 1) others apart))
branching_so place (arm ∷ rest) other each others at =
    by_parts place (StmtKind-F.If (arm ∷ rest) other) at _ (plain_statements.branching place at arm rest other)
    (λ apart. (arms_so (label_at at) (arm ∷ rest) other each others apart).0)

stmt_cases : Cases S
stmt_cases = record {
  declare = λ place n initial at. by_parts place (StmtKind-F.Declare n initial) at _ (plain_statements.declaration place at n initial) (λ apart. tt);
  assign = λ place path e at. by_parts place (StmtKind-F.Assign path e) at _ (plain_statements.assignment place at path e) (λ apart. tt);
  call = λ place f inputs outputs at. by_parts place (StmtKind-F.Call f inputs outputs) at _ (plain_statements.call place at f inputs outputs) (λ apart. tt);
  await = λ place e at. by_parts place (StmtKind-F.Await e) at _ (plain_statements.pause place at e) (λ apart. tt);
  run = λ place target a inputs outputs at.
      by_parts place (StmtKind-F.Run target a inputs outputs) at _ (plain_statements.run place at target a inputs outputs) (λ apart. tt);
  branching = branching_so;
  cobegin = λ place branches each at. by_parts place (StmtKind-F.Cobegin branches) at _ (plain_statements.parallel place at branches) (λ apart. (
    bodies_apart branches 0 (label_at at) (and_second (each_apart (map folded_branch branches)) (all_apart (map folded_branch branches)) apart),
    branches_so branches 0 (label_at at) each (and_first (each_apart (map folded_branch branches)) (all_apart (map folded_branch branches)) apart),
  ));
  guarded = λ place guard e body each at. by_parts place (StmtKind-F.When guard e body) at _ (plain_statements.guarded place at guard e body)
      (block_so body 0 (inside (label_at at) 0) each);
  repeat = λ place body each at. by_parts place (StmtKind-F.Repeat body) at _ (plain_statements.endless place at body)
      (block_so body 0 (inside (label_at at) 0) each);
  until = λ place body e each at. by_parts place (StmtKind-F.Until body e) at _ (plain_statements.until place at body e)
      (block_so body 0 (inside (label_at at) 0) each);
  while = λ place e body each at. by_parts place (StmtKind-F.While e body) at _ (plain_statements.while place at e body)
      (block_so body 0 (inside (label_at at) 0) each);
  returns = λ place e at. by_parts place (StmtKind-F.Return e) at _ (plain_statements.returns place at e) (λ apart. tt);
}

pub all_true : (body : List Stmt) → list_all is_apart body ≡ true → each_apart (map naming_of body) ≡ true
all_true [] e = refl
all_true (s ∷ rest) e =
    both (is_apart s) (and_first (is_apart s) (list_all is_apart rest) e) (all_true rest (and_second (is_apart s) (list_all is_apart rest) e))
  where
    both : (b : Bool) → b ≡ true → each_apart (map naming_of rest) ≡ true → (b && each_apart (map naming_of rest)) ≡ true
    both true is more = more
    both false is more = is

pub branches_keep_apart_so : BranchesKeepApart
branches_keep_apart_so body at apart = block_so body 0 at (λ n d within. induct S stmt_cases (get_or body n d)) (all_true body apart)
