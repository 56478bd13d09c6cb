-- Bodies name what their statements do.
use Rattle.std.proofs.Common.{◌≡◌, ◌⊎◌, inl, inr, ℕ, suc, Bool, true, false, ◌||◌, List, [], ◌∷◌, ◌++◌, map, get_or, refl, sym, subst}
use Rattle.std.specs.Prelude.{nat_eq}
use Rattle.std.specs.List.{list_any}
use Rattle.std.proofs.lemmas.List.Elements.{All-head, All-tail}
use Rattle.std.proofs.lemmas.Bool.{or_right}
use Rattle.bl_tree.specs.declared.place.Place.{Place}
use Rattle.bl_tree.specs.declared.tree.Arm.{Arm, fold-Arm, fold_out-Arm, out-Arm}
use Rattle.bl_tree.specs.declared.tree.Branch.{Branch, fold-Branch, fold_out-Branch, out-Branch}
use Rattle.bl_tree.specs.declared.tree.Expr.{Expr, fold-roll-Expr}
use Rattle.bl_tree.specs.declared.tree.ExprKind.{fold-roll-ExprKind}
use Rattle.bl_tree.specs.declared.tree.Stmt.{Stmt, fold-roll-Stmt}
use Rattle.bl_tree.specs.declared.tree.StmtKind.{StmtKind, fold-StmtKind, fold-roll-StmtKind, map-StmtKind}
use Rattle.bl_tree.specs.declared.tree.StmtKind.TheOpen.{StmtKind-F}
use Rattle.bl_tree.specs.Apart.{Naming, Roots, arm_naming, branch_naming, naming_of, roots_in, roots_in_path, stmt_kind_naming, stmt_layer_naming, target_roots}
use Rattle.bl_tree.specs.Reduce.{joined}
use Rattle.bl_tree.proofs.StmtInduction.{Cases, Each, EachArm, EachBranch, induct, stmt}
use Rattle.bl_graph_nodes.specs.Laws.{plain_arm, plain_branch}
use Rattle.bl_graph_nodes.specs.Plain.{Label, Plain, Position, Act, If, block_from, bodies_from, else_at, inside, label_at, never, passed_one, plain_stmt, plain_block}
use Rattle.bl_graph_nodes.proofs.Equations.{plain_statements}
use Rattle.bl_ctree.specs.Actions.{Effect, Silent, Acts, Asks, Copies, Gives}
use Rattle.bl_ctree.specs.Instances.{Setting}
use Rattle.bl_ctree_laws_confluence.specs.Apart.Named.{BodiesNameWhatTheyDo, OneOf, effect_roots}
use Rattle.bl_ctree_laws_confluence.specs.Apart.Owned.{HasEffect, SomeIn, SomeInEach, SomeOf}

pub one_left : (k : ℕ) (xs ys : Roots) → OneOf k xs → OneOf k (xs ++ ys)
one_left k [] ys e = absurd cc
one_left k (x ∷ xs) ys e = by_test (nat_eq k x) (one_left k xs ys) e
  where
    by_test : (b : Bool) → (OneOf k xs → OneOf k (xs ++ ys)) → (b || list_any (nat_eq k) xs) ≡ true → (b || list_any (nat_eq k) (xs ++ ys)) ≡ true
    by_test true more e = refl
    by_test false more e = more e

pub one_right : (k : ℕ) (xs ys : Roots) → OneOf k ys → OneOf k (xs ++ ys)
one_right k [] ys e = e
one_right k (x ∷ xs) ys e = or_right (nat_eq k x) (list_any (nat_eq k) (xs ++ ys)) (one_right k xs ys e)

pub not_one : {A : Type 0} (k : ℕ) → OneOf k [] → A
not_one k e = absurd cc

-- the variables that these name
abbrev pub all_named : List Naming → Roots
all_named namings = joined (map (λ n. n.named) namings)

abbrev pub folded_arm : Arm → Naming
folded_arm = fold-Arm Naming Naming Naming Naming stmt_kind_naming arm_naming branch_naming stmt_layer_naming

abbrev pub folded_branch : Branch → Naming
folded_branch = fold-Branch Naming Naming Naming Naming stmt_kind_naming arm_naming branch_naming stmt_layer_naming

abbrev pub naming_parts : StmtKind-F StmtKind Arm Branch Stmt → StmtKind-F Naming Naming Naming Naming
naming_parts = map-StmtKind StmtKind Arm Branch Stmt Naming Naming Naming Naming
    (fold-StmtKind Naming Naming Naming Naming stmt_kind_naming arm_naming branch_naming stmt_layer_naming) folded_arm folded_branch naming_of

pub naming_at : (place : Place) (layer : StmtKind-F StmtKind Arm Branch Stmt) → naming_of (stmt place layer) ≡ stmt_kind_naming (naming_parts layer)
naming_at place layer = rw (fold-roll-Stmt, fold-roll-StmtKind) refl

pub never_names : (place : Place) → roots_in (never place) ≡ []
never_names place = rw (fold-roll-Expr, fold-roll-ExprKind) refl

module _ (w : Setting) (i : ℕ) (effect : Effect) (k : ℕ) (one : OneOf k (effect_roots effect)) where
  abbrev D : Plain → Type 0
  D = HasEffect w i effect

  abbrev S : Stmt → Type 0
  S s = (at : Position) → SomeOf D (plain_stmt s at) → OneOf k (naming_of s).named

  does_so : (other : Effect) → effect ≡ other → OneOf k (effect_roots other)
  does_so other is = subst (λ effect. OneOf k (effect_roots effect)) is one

  silent : {A : Type 0} → effect ≡ Silent → A
  silent is = not_one k (does_so Silent is)

  block_so : (body : List Stmt) (n : ℕ) (at : Position) → Each S body → SomeIn D (block_from (map plain_stmt body) n at) →
      OneOf k (all_named (map naming_of body))
  block_so [] n at each some = absurd some
  block_so (s ∷ rest) n at each (inl some) =
      one_left k (naming_of s).named (all_named (map naming_of rest)) (All-head S s rest each (at ++ n ∷ []) some)
  block_so (s ∷ rest) n at each (inr some) =
      one_right k (naming_of s).named (all_named (map naming_of rest)) (block_so rest (suc n) at (All-tail S s rest each) some)

  arm_so : (arm : Arm) (at : Position) → Each S (out-Arm arm).body →
      (effect ≡ Asks (out-Arm arm).test) ⊎ SomeIn D (plain_block (out-Arm arm).body at) →
      OneOf k (folded_arm arm).named
  arm_so arm at each some =
      subst (λ n. OneOf k n.named) (sym (fold_out-Arm Naming Naming Naming Naming stmt_kind_naming arm_naming branch_naming stmt_layer_naming arm))
      (by_part some)
    where
      by_part : (effect ≡ Asks (out-Arm arm).test) ⊎ SomeIn D (plain_block (out-Arm arm).body at) →
          OneOf k (roots_in (out-Arm arm).test ++ all_named (map naming_of (out-Arm arm).body))
      by_part (inl is) = one_left k (roots_in (out-Arm arm).test) (all_named (map naming_of (out-Arm arm).body)) (does_so (Asks (out-Arm arm).test) is)
      by_part (inr some) =
          one_right k (roots_in (out-Arm arm).test) (all_named (map naming_of (out-Arm arm).body)) (block_so (out-Arm arm).body 0 at each some)

  arms_so : (l : Label) (arms : List Arm) (other : List Stmt) → EachArm S arms → Each S other →
      SomeIn D (else_at l (map plain_arm arms) (plain_block other)) → OneOf k (all_named (map folded_arm arms ++ map naming_of other))
  arms_so l [] other each others some = block_so other 0 (inside l l.passed) others some
  arms_so l (arm ∷ rest) other each others (inr none) = absurd none
  arms_so l (arm ∷ rest) other each others (inl (inl is)) =
      one_left k (folded_arm arm).named (all_named (map folded_arm rest ++ map naming_of other))
      (arm_so arm (inside l l.passed) (All-head (λ arm. Each S (out-Arm arm).body) arm rest each) (inl is))
  arms_so l (arm ∷ rest) other each others (inl (inr (inl some))) =
      one_left k (folded_arm arm).named (all_named (map folded_arm rest ++ map naming_of other))
      (arm_so arm (inside l l.passed) (All-head (λ arm. Each S (out-Arm arm).body) arm rest each) (inr some))
  arms_so l (arm ∷ rest) other each others (inl (inr (inr some))) =
      one_right k (folded_arm arm).named (all_named (map folded_arm rest ++ map naming_of other))
      (arms_so (passed_one l) rest other (All-tail (λ arm. Each S (out-Arm arm).body) arm rest each) others some)

  branches_so : (branches : List Branch) (n : ℕ) (l : Label) → EachBranch S branches → SomeInEach D (bodies_from (map plain_branch branches) n l) →
      OneOf k (all_named (map folded_branch branches))
  branches_so [] n l each some = absurd some
  branches_so (branch ∷ rest) n l each (inl some) =
      one_left k (folded_branch branch).named (all_named (map folded_branch rest))
      (subst (λ n. OneOf k n.named) (sym (fold_out-Branch Naming Naming Naming Naming stmt_kind_naming arm_naming branch_naming stmt_layer_naming branch))
      (block_so (out-Branch branch).body 0 (inside l n) (All-head (λ branch. Each S (out-Branch branch).body) branch rest each) some))
  branches_so (branch ∷ rest) n l each (inr some) =
      one_right k (folded_branch branch).named (all_named (map folded_branch rest))
      (branches_so rest (suc n) l (All-tail (λ branch. Each S (out-Branch branch).body) branch rest each) some)

  by_parts : (place : Place) (layer : StmtKind-F StmtKind Arm Branch Stmt) (at : Position) (p : Plain) → plain_stmt (stmt place layer) at ≡ p →
      (SomeOf D p → OneOf k (stmt_kind_naming (naming_parts layer)).named) → SomeOf D (plain_stmt (stmt place layer) at) →
      OneOf k (naming_of (stmt place layer)).named
  by_parts place layer at p is so some = subst (λ n. OneOf k n.named) (sym (naming_at place layer)) (so (subst (SomeOf D) is some))

  act_so : (s : Stmt) (l : Label) (at : Position) → plain_stmt s at ≡ Act l s → SomeOf D (plain_stmt s at) → OneOf k (naming_of s).named
  act_so s l at is some = does_so (Acts s) (subst (SomeOf D) is some)

  run_so : (target : Roots) (inputs : Roots) (outputs : Roots) → OneOf k inputs ⊎ OneOf k target → OneOf k (target ++ (inputs ++ outputs))
  run_so target inputs outputs (inl input) = one_right k target (inputs ++ outputs) (one_left k inputs outputs input)
  run_so target inputs outputs (inr of) = one_left k target (inputs ++ outputs) of

  run_does : (target : Roots) (inputs : Roots) (copies gives : Effect) → effect_roots copies ≡ inputs → effect_roots gives ≡ target →
      (effect ≡ copies) ⊎ (effect ≡ gives) → OneOf k inputs ⊎ OneOf k target
  run_does target inputs copies gives ins tar (inl is) = inl (subst (OneOf k) ins (does_so copies is))
  run_does target inputs copies gives ins tar (inr is) = inr (subst (OneOf k) tar (does_so gives is))

  await_so : (e : Expr) → (effect ≡ Silent) ⊎ (effect ≡ Asks e) → OneOf k (roots_in e)
  await_so e (inl is) = silent is
  await_so e (inr is) = does_so (Asks e) is

  tested_so : (e : Expr) (body : List Stmt) (at : Position) → Each S body →
      ((effect ≡ Silent) ⊎ (effect ≡ Asks e)) ⊎ SomeIn D (plain_block body at) → OneOf k (roots_in e ++ all_named (map naming_of body))
  tested_so e body at each (inl does) = one_left k (roots_in e) (all_named (map naming_of body)) (await_so e does)
  tested_so e body at each (inr some) = one_right k (roots_in e) (all_named (map naming_of body)) (block_so body 0 at each some)

  while_so : (e : Expr) (body : List Stmt) (at : Position) → Each S body → (effect ≡ Asks e) ⊎ SomeIn D (plain_block body at) →
      OneOf k (roots_in e ++ all_named (map naming_of body))
  while_so e body at each (inl does) = tested_so e body at each (inl (inr does))
  while_so e body at each (inr some) = tested_so e body at each (inr some)

  silent_or : {A B : Type 0} → (A → B) → (effect ≡ Silent) ⊎ A → B
  silent_or so (inl is) = silent is
  silent_or so (inr some) = so some

  none_asks : (place : Place) → effect ≡ Asks (never place) → OneOf k []
  none_asks place is = subst (OneOf k) (never_names place) (does_so (Asks (never place)) is)

  no_arm_so : (place : Place) (other : List Stmt) (one two : Position) → Each S other →
      (effect ≡ Asks (never place)) ⊎ (SomeIn D (plain_block other one) ⊎ SomeIn D (plain_block other two)) → OneOf k (all_named (map naming_of other))
  no_arm_so place other one two others (inl is) = not_one k (none_asks place is)
  no_arm_so place other one two others (inr (inl some)) = block_so other 0 one others some
  no_arm_so place other one two others (inr (inr some)) = block_so other 0 two others some

  branching_so : (place : Place) (arms : List Arm) (other : List Stmt) → EachArm S arms → Each S other → S (stmt place (StmtKind-F.If arms other))
  branching_so place [] other each others at =
      by_parts place (StmtKind-F.If [] other) at
      (If (label_at at) place (never place) (plain_block other (inside (label_at at) 0)) (plain_block other (inside (label_at at) 1)))
      (rw (fold-roll-Stmt, fold-roll-StmtKind) refl)
      (no_arm_so place other (inside (label_at at) 0) (inside (label_at at) 1) others)
  branching_so place (arm ∷ rest) other each others at =
      by_parts place (StmtKind-F.If (arm ∷ rest) other) at _ (plain_statements.branching place at arm rest other)
      (λ some. arms_so (label_at at) (arm ∷ rest) other each others (inl some))

  stmt_cases : Cases S
  stmt_cases = record {
    declare = λ place n initial at. act_so (stmt place (StmtKind-F.Declare n initial)) (label_at at) at (plain_statements.declaration place at n initial);
    assign = λ place path e at. act_so (stmt place (StmtKind-F.Assign path e)) (label_at at) at (plain_statements.assignment place at path e);
    call = λ place f inputs outputs at.
        act_so (stmt place (StmtKind-F.Call f inputs outputs)) (label_at at) at (plain_statements.call place at f inputs outputs);
    await = λ place e at. by_parts place (StmtKind-F.Await e) at _ (plain_statements.pause place at e) (await_so e);
    run = λ place target a inputs outputs at. by_parts place (StmtKind-F.Run target a inputs outputs) at _
        (plain_statements.run place at target a inputs outputs)
        (λ does. run_so (target_roots target) (joined (map roots_in inputs)) (joined (map roots_in_path outputs))
        (run_does (target_roots target) (joined (map roots_in inputs)) (Copies does.0 inputs) (Gives does.0 target) refl refl does.1.1));
    branching = branching_so;
    cobegin = λ place branches each at. by_parts place (StmtKind-F.Cobegin branches) at _ (plain_statements.parallel place at branches)
        (silent_or (branches_so branches 0 (label_at at) each));
    guarded = λ place guard e body each at. by_parts place (StmtKind-F.When guard e body) at _ (plain_statements.guarded place at guard e body)
        (tested_so e body (inside (label_at at) 0) each);
    repeat = λ place body each at. by_parts place (StmtKind-F.Repeat body) at _ (plain_statements.endless place at body)
        (silent_or (block_so body 0 (inside (label_at at) 0) each));
    until = λ place body e each at. by_parts place (StmtKind-F.Until body e) at _ (plain_statements.until place at body e)
        (tested_so e body (inside (label_at at) 0) each);
    while = λ place e body each at. by_parts place (StmtKind-F.While e body) at _ (plain_statements.while place at e body)
        (while_so e body (inside (label_at at) 0) each);
    returns = λ place e at. act_so (stmt place (StmtKind-F.Return e)) (label_at at) at (plain_statements.returns place at e);
  }

  body_so : (body : List Stmt) (at : Position) → SomeIn D (plain_block body at) → OneOf k (all_named (map naming_of body))
  body_so body at some = block_so body 0 at (λ n d within. induct S stmt_cases (get_or body n d)) some

pub bodies_name_so : BodiesNameWhatTheyDo
bodies_name_so w i body at effect k some one = body_so w i effect k one body at some
