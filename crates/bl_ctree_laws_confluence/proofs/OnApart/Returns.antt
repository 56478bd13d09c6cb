-- No `return` stands in a branch.
use Rattle.std.proofs.Common.{◌≡◌, ◌⊎◌, inl, inr, ℕ, suc, Bool, true, false, not, ◌||◌, List, [], ◌∷◌, ◌++◌, map, refl, sym, ap, ◌∙◌, subst}
use Rattle.std.proofs.lemmas.List.Elements.{All-head, All-tail}
use Rattle.std.specs.Prelude.{is_none}
use Rattle.std.proofs.lemmas.Bool.{or_left, or_right}
use Rattle.bl_tree.proofs.Basics.{and_first, and_second}
use Rattle.bl_tree.specs.declared.place.Place.{Place}
use Rattle.bl_tree.specs.declared.tree.Arm.{Arm, fold-Arm, fold_out-Arm, out-Arm}
use Rattle.bl_tree.specs.declared.tree.Branch.{Branch, fold-Branch, fold_out-Branch, out-Branch}
use Rattle.bl_tree.specs.declared.tree.Stmt.{Stmt, fold-roll-Stmt, out-Stmt, out-roll-Stmt}
use Rattle.bl_tree.specs.declared.tree.StmtKind.{StmtKind, fold-StmtKind, fold-roll-StmtKind, map-StmtKind, out-StmtKind, out-roll-StmtKind, roll-StmtKind}
use Rattle.bl_tree.specs.declared.tree.StmtKind.TheOpen.{StmtKind-F}
use Rattle.bl_tree.specs.Reduce.{any_of}
use Rattle.bl_tree.specs.Returns.{arm_has_return, branch_has_return, has_return, is_return, is_return_kind, kind_has_return, last_of, returns_last_alone}
use Rattle.bl_tree.specs.Returns.{stmt_returns}
use Rattle.bl_tree.proofs.StmtInduction.{Cases, Each, EachArm, EachBranch, induct, stmt}
use Rattle.bl_graph_nodes.specs.Laws.{plain_arm, plain_branch}
use Rattle.bl_graph_nodes.specs.Plain.{Block, Bodies, Label, Plain, Position, Act, Again, Await, Body as BodyOf, Cobegin, Done, If, Last, Repeat, Run as RunOf}
use Rattle.bl_graph_nodes.specs.Plain.{Then, Until, When, While, block_from, bodies_from, else_at, inside, label_at, never, passed_one, plain_stmt, plain_block}
use Rattle.bl_graph_nodes.proofs.Equations.{made_of_parts, plain_statements}
use Rattle.bl_ctree_laws_confluence.proofs.OnDeeds.Accepted.{accepted_is_orderly}
use Rattle.bl_ctree_laws_confluence.specs.Apart.Forks.{EachFork, EachForkIn, EachForkInEach}
use Rattle.bl_ctree_laws_confluence.specs.Apart.Owned.{SomeIn, SomeInEach, SomeOf}
use Rattle.bl_ctree_laws_confluence.specs.Apart.Returns.{AcceptedReturnsLast, NoBranchReturns, NoneReturns, Returns}

-- ---- where none returns none does in a branch

mutual
  outside : (p : Plain) → (SomeOf Returns p → ⊥) → EachFork NoneReturns p
  outside (Act l s) none = tt
  outside (Await l at e) none = tt
  outside (RunOf l at target a inputs outputs) none = tt
  outside (If l at e body other) none = (
    outside_in body (λ some. none (inr (inl some))),
    outside_in other (λ some. none (inr (inr some))),
  )
  outside (Cobegin l at bodies) none = (λ some. none (inr some), outside_each bodies (λ some. none (inr some)))
  outside (When l at guard e body) none = outside_in body (λ some. none (inr some))
  outside (Repeat l at body) none = outside_in body (λ some. none (inr some))
  outside (Until l at body e) none = outside_in body (λ some. none (inr some))
  outside (While l at e body) none = outside_in body (λ some. none (inr some))
  outside (Again l at body e) none = outside_in body (λ some. none (inr some))

  outside_in : (body : Block) → (SomeIn Returns body → ⊥) → EachForkIn NoneReturns body
  outside_in Done none = tt
  outside_in (Then s rest) none = (outside s (λ some. none (inl some)), outside_in rest (λ some. none (inr some)))

  outside_each : (bodies : Bodies) → (SomeInEach Returns bodies → ⊥) → EachForkInEach NoneReturns bodies
  outside_each Last none = tt
  outside_each (BodyOf weak body rest) none = (outside_in body (λ some. none (inl some)), outside_each rest (λ some. none (inr some)))

-- ---- a statement in whose plain statement one returns has a `return`

abbrev folded_arm : Arm → Bool
folded_arm = fold-Arm Bool Bool Bool Bool kind_has_return arm_has_return branch_has_return stmt_returns

abbrev folded_branch : Branch → Bool
folded_branch = fold-Branch Bool Bool Bool Bool kind_has_return arm_has_return branch_has_return stmt_returns

abbrev parts : StmtKind-F StmtKind Arm Branch Stmt → StmtKind-F Bool Bool Bool Bool
parts = map-StmtKind StmtKind Arm Branch Stmt Bool Bool Bool Bool
    (fold-StmtKind Bool Bool Bool Bool kind_has_return arm_has_return branch_has_return stmt_returns) folded_arm folded_branch has_return

returning_at : (place : Place) (layer : StmtKind-F StmtKind Arm Branch Stmt) → has_return (stmt place layer) ≡ kind_has_return (parts layer)
returning_at place layer = rw (fold-roll-Stmt, fold-roll-StmtKind) refl

return_at : (place : Place) (layer : StmtKind-F StmtKind Arm Branch Stmt) → is_return (stmt place layer) ≡ is_return_kind layer
return_at place layer =
    ap is_return_kind (ap (λ s. out-StmtKind s.what) (out-roll-Stmt (record { place = place; what = roll-StmtKind layer })) ∙ out-roll-StmtKind layer)

abbrev S : Stmt → Type 0
S s = (at : Position) → SomeOf Returns (plain_stmt s at) → has_return s ≡ true

block_so : (body : List Stmt) (n : ℕ) (at : Position) → Each S body → SomeIn Returns (block_from (map plain_stmt body) n at) →
    any_of (map has_return body) ≡ true
block_so [] n at each some = absurd some
block_so (s ∷ rest) n at each (inl some) = or_left (has_return s) (any_of (map has_return rest)) (All-head S s rest each (at ++ n ∷ []) some)
block_so (s ∷ rest) n at each (inr some) =
    or_right (has_return s) (any_of (map has_return rest)) (block_so rest (suc n) at (All-tail S s rest each) some)

arm_so : (arm : Arm) (at : Position) → Each S (out-Arm arm).body → SomeIn Returns (plain_block (out-Arm arm).body at) → folded_arm arm ≡ true
arm_so arm at each some =
    fold_out-Arm Bool Bool Bool Bool kind_has_return arm_has_return branch_has_return stmt_returns arm ∙ block_so (out-Arm arm).body 0 at each some

arms_so : (l : Label) (arms : List Arm) (other : List Stmt) → EachArm S arms → Each S other →
    SomeIn Returns (else_at l (map plain_arm arms) (plain_block other)) → (any_of (map folded_arm arms) || any_of (map has_return other)) ≡ true
arms_so l [] other each others some = block_so other 0 (inside l l.passed) others some
arms_so l (arm ∷ rest) other each others (inr none) = absurd none
arms_so l (arm ∷ rest) other each others (inl (inl none)) = absurd none
arms_so l (arm ∷ rest) other each others (inl (inr (inl some))) =
    one (folded_arm arm) (any_of (map folded_arm rest)) (any_of (map has_return other))
    (arm_so arm (inside l l.passed) (All-head (λ arm. Each S (out-Arm arm).body) arm rest each) some)
  where
    one : (a b c : Bool) → a ≡ true → ((a || b) || c) ≡ true
    one true b c e = refl
    one false b c e = absurd cc
arms_so l (arm ∷ rest) other each others (inl (inr (inr some))) =
    further (folded_arm arm) (any_of (map folded_arm rest)) (any_of (map has_return other))
    (arms_so (passed_one l) rest other (All-tail (λ arm. Each S (out-Arm arm).body) arm rest each) others some)
  where
    further : (a b c : Bool) → (b || c) ≡ true → ((a || b) || c) ≡ true
    further true b c e = refl
    further false b c e = e

branches_so : (branches : List Branch) (n : ℕ) (l : Label) → EachBranch S branches → SomeInEach Returns (bodies_from (map plain_branch branches) n l) →
    any_of (map folded_branch branches) ≡ true
branches_so [] n l each some = absurd some
branches_so (branch ∷ rest) n l each (inl some) =
    or_left (folded_branch branch) (any_of (map folded_branch rest))
    (fold_out-Branch Bool Bool Bool Bool kind_has_return arm_has_return branch_has_return stmt_returns branch
    ∙ block_so (out-Branch branch).body 0 (inside l n) (All-head (λ branch. Each S (out-Branch branch).body) branch rest each) some)
branches_so (branch ∷ rest) n l each (inr some) =
    or_right (folded_branch branch) (any_of (map folded_branch rest))
    (branches_so rest (suc n) l (All-tail (λ branch. Each S (out-Branch branch).body) branch rest each) some)

by_parts : (place : Place) (layer : StmtKind-F StmtKind Arm Branch Stmt) (at : Position) (p : Plain) → plain_stmt (stmt place layer) at ≡ p →
    (SomeOf Returns p → kind_has_return (parts layer) ≡ true) → SomeOf Returns (plain_stmt (stmt place layer) at) → has_return (stmt place layer) ≡ true
by_parts place layer at p is so some = returning_at place layer ∙ so (subst (SomeOf Returns) is some)

-- what acts returns where it is a `return`
act_so : (place : Place) (layer : StmtKind-F StmtKind Arm Branch Stmt) (at : Position) →
    plain_stmt (stmt place layer) at ≡ Act (label_at at) (stmt place layer) →
    (is_return_kind layer ≡ true → kind_has_return (parts layer) ≡ true) →
    SomeOf Returns (plain_stmt (stmt place layer) at) → has_return (stmt place layer) ≡ true
act_so place layer at is so = by_parts place layer at (Act (label_at at) (stmt place layer)) is (λ some. so (sym (return_at place layer) ∙ some))

in_body : (body : List Stmt) (at : Position) → Each S body → ⊥ ⊎ SomeIn Returns (plain_block body at) → any_of (map has_return body) ≡ true
in_body body at each (inl none) = absurd none
in_body body at each (inr some) = block_so body 0 at each some

in_branches : (branches : List Branch) (l : Label) → EachBranch S branches → ⊥ ⊎ SomeInEach Returns (bodies_from (map plain_branch branches) 0 l) →
    any_of (map folded_branch branches) ≡ true
in_branches branches l each (inl none) = absurd none
in_branches branches l each (inr some) = branches_so branches 0 l each some

no_arm_so : (other : List Stmt) (one two : Position) → Each S other →
    ⊥ ⊎ (SomeIn Returns (plain_block other one) ⊎ SomeIn Returns (plain_block other two)) → any_of (map has_return other) ≡ true
no_arm_so other one two others (inl none) = absurd none
no_arm_so other one two others (inr (inl some)) = block_so other 0 one others some
no_arm_so other one two others (inr (inr some)) = block_so other 0 two others some

branching_so : (place : Place) (arms : List Arm) (other : List Stmt) → EachArm S arms → Each S other → S (stmt place (StmtKind-F.If arms other))
branching_so place [] other each others at =
    by_parts place (StmtKind-F.If [] other) at
    (If (label_at at) place (never place) (plain_block other (inside (label_at at) 0)) (plain_block other (inside (label_at at) 1)))
    (rw (fold-roll-Stmt, fold-roll-StmtKind) refl)
    (no_arm_so other (inside (label_at at) 0) (inside (label_at at) 1) others)
branching_so place (arm ∷ rest) other each others at =
    by_parts place (StmtKind-F.If (arm ∷ rest) other) at _ (plain_statements.branching place at arm rest other)
    (λ some. arms_so (label_at at) (arm ∷ rest) other each others (inl some))

stmt_cases : Cases S
stmt_cases = record {
  declare = λ place n initial at. act_so place (StmtKind-F.Declare n initial) at (plain_statements.declaration place at n initial) (λ e. absurd cc);
  assign = λ place path e at. act_so place (StmtKind-F.Assign path e) at (plain_statements.assignment place at path e) (λ e. absurd cc);
  call = λ place f inputs outputs at.
      act_so place (StmtKind-F.Call f inputs outputs) at (plain_statements.call place at f inputs outputs) (λ e. absurd cc);
  await = λ place e at. by_parts place (StmtKind-F.Await e) at _ (plain_statements.pause place at e) (λ none. absurd none);
  run = λ place target a inputs outputs at.
      by_parts place (StmtKind-F.Run target a inputs outputs) at _ (plain_statements.run place at target a inputs outputs) (λ none. absurd none);
  branching = branching_so;
  cobegin = λ place branches each at. by_parts place (StmtKind-F.Cobegin branches) at _ (plain_statements.parallel place at branches)
      (in_branches branches (label_at at) each);
  guarded = λ place guard e body each at. by_parts place (StmtKind-F.When guard e body) at _ (plain_statements.guarded place at guard e body)
      (in_body body (inside (label_at at) 0) each);
  repeat = λ place body each at. by_parts place (StmtKind-F.Repeat body) at _ (plain_statements.endless place at body)
      (in_body body (inside (label_at at) 0) each);
  until = λ place body e each at. by_parts place (StmtKind-F.Until body e) at _ (plain_statements.until place at body e)
      (in_body body (inside (label_at at) 0) each);
  while = λ place e body each at. by_parts place (StmtKind-F.While e body) at _ (plain_statements.while place at e body)
      (in_body body (inside (label_at at) 0) each);
  returns = λ place e at. act_so place (StmtKind-F.Return e) at (plain_statements.returns place at e) (λ is. refl);
}

-- ---- bodies

without : (s : Stmt) (at : Position) → not (has_return s) ≡ true → EachFork NoneReturns (plain_stmt s at)
without s at none = outside (plain_stmt s at) (λ some. both (has_return s) none (induct S stmt_cases s at some))
  where
    both : (b : Bool) → not b ≡ true → b ≡ true → ⊥
    both true e f = absurd cc
    both false e f = absurd cc

is_last : (place : Place) (layer : StmtKind-F StmtKind Arm Branch Stmt) (at : Position) → is_return_kind layer ≡ true →
    EachFork NoneReturns (plain_stmt (stmt place layer) at)
is_last place (StmtKind-F.Return e) at is = subst (EachFork NoneReturns) (sym (plain_statements.returns place at e)) tt
is_last place (StmtKind-F.Declare n initial) at is = absurd cc
is_last place (StmtKind-F.Assign path e) at is = absurd cc
is_last place (StmtKind-F.Call f inputs outputs) at is = absurd cc
is_last place (StmtKind-F.Await e) at is = absurd cc
is_last place (StmtKind-F.Run target a inputs outputs) at is = absurd cc
is_last place (StmtKind-F.If arms other) at is = absurd cc
is_last place (StmtKind-F.Cobegin branches) at is = absurd cc
is_last place (StmtKind-F.When guard e body) at is = absurd cc
is_last place (StmtKind-F.Repeat body) at is = absurd cc
is_last place (StmtKind-F.Until body e) at is = absurd cc
is_last place (StmtKind-F.While e body) at is = absurd cc

last_so : (s : Stmt) (at : Position) → (not (has_return s) || is_return s) ≡ true → EachFork NoneReturns (plain_stmt s at)
last_so s at e = by_test (not (has_return s)) refl e
  where
    by_test : (b : Bool) → not (has_return s) ≡ b → (b || is_return s) ≡ true → EachFork NoneReturns (plain_stmt s at)
    by_test true none e = without s at none
    by_test false some e =
        subst (λ s. EachFork NoneReturns (plain_stmt s at)) (made_of_parts s) (is_last (out-Stmt s).place (out-StmtKind (out-Stmt s).what) at e)

body_so : (body : List Stmt) (n : ℕ) (at : Position) → returns_last_alone body ≡ true → EachForkIn NoneReturns (block_from (map plain_stmt body) n at)
body_so [] n at last = tt
body_so (s ∷ []) n at last = (last_so s (at ++ n ∷ []) last, tt)
body_so (s ∷ t ∷ rest) n at last = (
  without s (at ++ n ∷ []) (and_first (not (has_return s)) (returns_last_alone (t ∷ rest)) last),
  body_so (t ∷ rest) (suc n) at (and_second (not (has_return s)) (returns_last_alone (t ∷ rest)) last),
)

pub no_branch_returns_so : NoBranchReturns
no_branch_returns_so body at last = body_so body 0 at last

pub accepted_returns_last_so : AcceptedReturnsLast
accepted_returns_last_so structs units entry i unit keeps passes is =
    body_so unit.body 0 []
    (and_first (returns_last_alone unit.body) (is_none unit.result || last_of (map is_return unit.body))
    ((accepted_is_orderly structs units entry keeps passes).each i unit is).returns)
