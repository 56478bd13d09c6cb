-- Where each statement of what is peeled comes from: it is a copy, or the test of a loop behind or around its first turn.
use Rattle.std.proofs.Common.{◌≡◌, ℕ, zero, suc, true, false, List, [], ◌∷◌, ◌++◌, map, Some, refl, ap, sym, subst, ◌∙◌, arith, inl, inr, ⊎_elim, ◌⊎◌}
use Rattle.std.specs.Prelude.{Contains, IsTrue, slice_get}
use Rattle.std.proofs.lemmas.Option.{same_Some}
use Rattle.bl_tree.specs.declared.place.Place.{Place}
use Rattle.bl_tree.specs.declared.tree.Arm.{Arm, out-Arm}
use Rattle.bl_tree.specs.declared.tree.Branch.{Branch, out-Branch}
use Rattle.bl_tree.specs.declared.tree.Expr.{Expr, out-Expr}
use Rattle.bl_tree.specs.declared.tree.Stmt.{Stmt, out-Stmt, out-roll-Stmt}
use Rattle.bl_tree.specs.declared.tree.StmtKind.{StmtKind, out-StmtKind, out-roll-StmtKind, roll-StmtKind}
use Rattle.bl_tree.specs.declared.tree.StmtKind.TheOpen.{StmtKind-F}
use Rattle.bl_tree.specs.Reduce.{joined}
use Rattle.bl_tree.specs.Within.{RunsIn, StandsIn, Within, branches_of, children, deeper, effect_of, is_run, is_run_kind, itself, kind_branches, kind_children}
use Rattle.bl_tree.specs.Within.{place_of}
use Rattle.bl_tree.proofs.FirstLemmas.{In, contains_in, in_contains}
use Rattle.bl_peel.specs.Peeled.{made_arm, made_if, made_stmt, peeled, place_of_expr}
use Rattle.bl_peel.specs.inner.Parts.{kind_has_no_block}
use Rattle.bl_peel_laws.proofs.Effects.{TestOf}
use Rattle.bl_peel_laws.proofs.Inheriting.{ArmsBelow, BranchesBelow, inherited, more_arms, more_branches, no_arms, no_branches}
use Rattle.bl_effects.proofs.GatherLemmas.{stands_cases, stands_left, stands_right, within_cases}
use Rattle.bl_peel_laws.proofs.Effects.{placed}
use Rattle.bl_peel_laws.proofs.Lists.{body_is}

-- ---- the condition of a loop

-- where the condition of a loop begins, and nothing for what is no loop with one
abbrev pub kind_conditions : StmtKind-F StmtKind Arm Branch Stmt → List ℕ
kind_conditions (StmtKind-F.Until body e) = (out-Expr e).place.start ∷ []
kind_conditions (StmtKind-F.While e body) = (out-Expr e).place.start ∷ []
kind_conditions _ = []

abbrev pub conditions_of : Stmt → List ℕ
conditions_of s = kind_conditions (out-StmtKind (out-Stmt s).what)

-- ---- copies and tests

-- a statement that was copied: a `run` is the same, and what runs in a branch runs in that branch of the source
pub record IsCopy (s made : Stmt) : Type 0 where
  pub effect : effect_of made ≡ effect_of s
  pub same_run : IsTrue (is_run made) → made ≡ s
  pub branch_runs : (k : ℕ) (x : Stmt) → RunsIn made k x → RunsIn s k x

-- an `if` that tests the condition of a loop
pub record IsTest (s made : Stmt) : Type 0 where
  pub test : Expr
  pub tests : In (place_of_expr test).start (conditions_of s)
  pub at_test : place_of made ≡ place_of_expr test
  pub has_effect : TestOf s made
  pub no_run : is_run made ≡ false
  pub no_branch : branches_of made ≡ []

-- a statement that stands in a block, of which another was made
pub record OfBlock (body : List Stmt) (made : Stmt) : Type 0 where
  pub source : Stmt
  pub stands : StandsIn body source
  pub origin : IsCopy source made ⊎ IsTest source made

-- each statement that stands in the one block was made of one that stands in the other
abbrev pub Made : List Stmt → List Stmt → Type 0
Made body made = (x : Stmt) → StandsIn made x → OfBlock body x

-- ---- what stands where

layer_at : (place : Place) (layer : StmtKind-F StmtKind Arm Branch Stmt) → out-StmtKind (out-Stmt (made_stmt place layer)).what ≡ layer
layer_at place layer =
    ap (λ s. out-StmtKind s.what) (out-roll-Stmt (record { place = place; what = roll-StmtKind layer })) ∙ out-roll-StmtKind layer

children_at : (place : Place) (layer : StmtKind-F StmtKind Arm Branch Stmt) → children (made_stmt place layer) ≡ kind_children layer
children_at place layer = ap kind_children (layer_at place layer)

run_at : (place : Place) (layer : StmtKind-F StmtKind Arm Branch Stmt) → is_run (made_stmt place layer) ≡ is_run_kind layer
run_at place layer = ap is_run_kind (layer_at place layer)

branches_at : (place : Place) (layer : StmtKind-F StmtKind Arm Branch Stmt) → branches_of (made_stmt place layer) ≡ kind_branches layer
branches_at place layer = ap kind_branches (layer_at place layer)

conditions_at : (place : Place) (layer : StmtKind-F StmtKind Arm Branch Stmt) → conditions_of (made_stmt place layer) ≡ kind_conditions layer
conditions_at place layer = ap kind_conditions (layer_at place layer)

pub none_there : (k : ℕ) (branch : Branch) → slice_get [] k ≡ Some branch → ⊥
none_there k branch is = absurd (cc)

nowhere : (x : Stmt) → StandsIn [] x → ⊥
nowhere x stands = let below = stands.is_there.1 in omega arith

sole_cases : (s x : Stmt) → StandsIn (s ∷ []) x → (x ≡ s) ⊎ StandsIn (children s) x
sole_cases s x stands =
    let is : stands.outer ≡ s = ⊎_elim (λ is. is) (λ later. absurd later) (contains_in stands.outer (s ∷ []) stands.is_there) in
    within_cases x s (subst (Within x) is stands.within)

first_of_one : (s : Stmt) (rest : List Stmt) → Contains (s ∷ rest) s
first_of_one s rest = in_contains s (s ∷ rest) (inl refl)

-- what stands in the blocks of a statement stands in the block that it is alone in
in_sole : (s x : Stmt) → StandsIn (children s) x → StandsIn (s ∷ []) x
in_sole s x stands =
    record { outer = s; is_there = first_of_one s []; within = deeper s stands.outer stands.is_there stands.within }

it_stands : (s : Stmt) → StandsIn (s ∷ []) s
it_stands s = record { outer = s; is_there = first_of_one s []; within = itself }

-- ---- blocks

of_left : (xs ys : List Stmt) (x : Stmt) → OfBlock xs x → OfBlock (xs ++ ys) x
of_left xs ys x of = record { source = of.source; stands = stands_left xs ys of.source of.stands; origin = of.origin }

of_right : (xs ys : List Stmt) (x : Stmt) → OfBlock ys x → OfBlock (xs ++ ys) x
of_right xs ys x of = record { source = of.source; stands = stands_right xs ys of.source of.stands; origin = of.origin }

-- of a block in a statement
of_inner : (place : Place) (layer : StmtKind-F StmtKind Arm Branch Stmt) (x : Stmt) → OfBlock (kind_children layer) x →
    OfBlock (made_stmt place layer ∷ []) x
of_inner place layer x of = record {
  source = of.source;
  stands = in_sole (made_stmt place layer) of.source (subst (λ body. StandsIn body of.source) (sym (children_at place layer)) of.stands);
  origin = of.origin;
}

made_none : Made [] []
made_none x stands = absurd (nowhere x stands)

made_next : (s : Stmt) (body xs ys : List Stmt) → Made (s ∷ []) xs → Made body ys → Made (s ∷ body) (xs ++ ys)
made_next s body xs ys one more x stands =
    ⊎_elim (λ first. of_left (s ∷ []) body x (one x first)) (λ rest. of_right (s ∷ []) body x (more x rest)) (stands_cases xs ys x stands)

made_twice : (body xs ys : List Stmt) → Made body xs → Made body ys → Made body (xs ++ ys)
made_twice body xs ys one more x stands = ⊎_elim (λ first. one x first) (λ rest. more x rest) (stands_cases xs ys x stands)

made_beside : (a b c d : List Stmt) → Made a b → Made c d → Made (a ++ c) (b ++ d)
made_beside a b c d one other x stands =
    ⊎_elim (λ first. of_left a c x (one x first)) (λ rest. of_right a c x (other x rest)) (stands_cases b d x stands)

-- one statement is made of another, and what stands in it of what stands there
made_around : (s t : Stmt) → IsCopy s t ⊎ IsTest s t → Made (s ∷ []) (children t) → Made (s ∷ []) (t ∷ [])
made_around s t origin inner x stands =
    ⊎_elim (λ is. record { source = s; stands = it_stands s; origin = subst (λ x. IsCopy s x ⊎ IsTest s x) (sym is) origin })
    (λ below. inner x below) (sole_cases t x stands)

module _ (place : Place) (layer made : StmtKind-F StmtKind Arm Branch Stmt) where
  -- a copy that is no `run` and no `cobegin`
  copied : effect_of (made_stmt place made) ≡ effect_of (made_stmt place layer) → is_run_kind made ≡ false → kind_branches made ≡ [] →
      IsCopy (made_stmt place layer) (made_stmt place made)
  copied effect no_run no_branch = record {
    effect = effect;
    same_run = λ runs. absurd (let no : is_run (made_stmt place made) ≡ false = run_at place made ∙ no_run in cc);
    branch_runs = λ k x runs. absurd
        (none_there k runs.branch (subst (λ branches. slice_get branches k ≡ Some runs.branch) (branches_at place made ∙ no_branch) runs.is_there));
  }

  copy_around : effect_of (made_stmt place made) ≡ effect_of (made_stmt place layer) → is_run_kind made ≡ false → kind_branches made ≡ [] →
      Made (kind_children layer) (kind_children made) → Made (made_stmt place layer ∷ []) (made_stmt place made ∷ [])
  copy_around effect no_run no_branch inner =
      made_around (made_stmt place layer) (made_stmt place made) (inl (copied effect no_run no_branch))
      (λ x stands. of_inner place layer x (inner x (subst (λ body. StandsIn body x) (children_at place made) stands)))

no_children : (layer : StmtKind-F StmtKind Arm Branch Stmt) → kind_has_no_block layer ≡ true → kind_children layer ≡ []
no_children (StmtKind-F.Declare k initial) none = refl
no_children (StmtKind-F.Assign path e) none = refl
no_children (StmtKind-F.Call f inputs outputs) none = refl
no_children (StmtKind-F.Await e) none = refl
no_children (StmtKind-F.Run target a inputs outputs) none = refl
no_children (StmtKind-F.If arms other) none = absurd (cc)
no_children (StmtKind-F.Cobegin branches) none = absurd (cc)
no_children (StmtKind-F.When guard e body) none = absurd (cc)
no_children (StmtKind-F.Repeat body) none = absurd (cc)
no_children (StmtKind-F.Until body e) none = absurd (cc)
no_children (StmtKind-F.While e body) none = absurd (cc)
no_children (StmtKind-F.Return e) none = refl

made_alone : (place : Place) (layer : StmtKind-F StmtKind Arm Branch Stmt) → kind_has_no_block layer ≡ true →
    Made (made_stmt place layer ∷ []) (made_stmt place layer ∷ [])
made_alone place layer none =
    made_around (made_stmt place layer) (made_stmt place layer)
    (inl (record { effect = refl; same_run = λ runs. refl; branch_runs = λ k x runs. runs }))
    (λ x stands. absurd (nowhere x (subst (λ body. StandsIn body x) (children_at place layer ∙ no_children layer none) stands)))

-- ---- arms and branches

abbrev arm_bodies : List Arm → List Stmt
arm_bodies arms = joined (map (λ arm. (out-Arm arm).body) arms)

abbrev branch_bodies : List Branch → List Stmt
branch_bodies branches = joined (map (λ branch. (out-Branch branch).body) branches)

made_arms : {arms others : List Arm} → ArmsBelow Made arms others → Made (arm_bodies arms) (arm_bodies others)
made_arms no_arms = made_none
made_arms (more_arms {arm} {made} {arms} {others} test inner rest) =
    made_beside (out-Arm arm).body (out-Arm made).body (arm_bodies arms) (arm_bodies others) inner (made_arms rest)

made_branches : {branches others : List Branch} → BranchesBelow Made branches others → Made (branch_bodies branches) (branch_bodies others)
made_branches no_branches = made_none
made_branches (more_branches {branch} {made} {branches} {others} weak inner rest) =
    made_beside (out-Branch branch).body (out-Branch made).body (branch_bodies branches) (branch_bodies others) inner (made_branches rest)

-- the branch of the source at the position
record SameBranch (branches : List Branch) (k : ℕ) (made : Branch) : Type 0 where
  pub branch : Branch
  pub is_there : slice_get branches k ≡ Some branch
  pub inner : Made (out-Branch branch).body (out-Branch made).body

branch_at : {branches others : List Branch} → BranchesBelow Made branches others → (k : ℕ) (made : Branch) → slice_get others k ≡ Some made →
    SameBranch branches k made
branch_at no_branches k made is = absurd (cc)
branch_at (more_branches {branch} {made = first} weak inner rest) zero made is =
    record {
      branch = branch;
      is_there = refl;
      inner = subst (λ (made : Branch). Made (out-Branch branch).body (out-Branch made).body) (same_Some first made is) inner;
    }
branch_at (more_branches weak inner rest) (suc k) made is =
    let at = branch_at rest k made is in record { branch = at.branch; is_there = at.is_there; inner = at.inner }

-- a `run` was copied as it is
run_of : (body : List Stmt) (x : Stmt) → IsTrue (is_run x) → OfBlock body x → StandsIn body x
run_of body x runs of =
    ⊎_elim (λ (copy : IsCopy of.source x). subst (StandsIn body) (sym (copy.same_run runs)) of.stands)
    (λ (test : IsTest of.source x). absurd (let no = test.no_run in cc)) of.origin

made_cobegin : (place : Place) (branches others : List Branch) → BranchesBelow Made branches others →
    effect_of (made_stmt place (StmtKind-F.Cobegin others)) ≡ effect_of (made_stmt place (StmtKind-F.Cobegin branches)) →
    Made (made_stmt place (StmtKind-F.Cobegin branches) ∷ []) (made_stmt place (StmtKind-F.Cobegin others) ∷ [])
made_cobegin place branches others each effect =
    made_around (made_stmt place (StmtKind-F.Cobegin branches)) (made_stmt place (StmtKind-F.Cobegin others))
    (inl (record {
      effect = effect;
      same_run = λ runs. absurd (let no : is_run (made_stmt place (StmtKind-F.Cobegin others)) ≡ false = run_at place (StmtKind-F.Cobegin others) in cc);
      branch_runs = λ k x runs.
          let at : SameBranch branches k runs.branch =
          branch_at each k runs.branch
          (subst (λ all. slice_get all k ≡ Some runs.branch) (branches_at place (StmtKind-F.Cobegin others)) runs.is_there) in
          record {
            branch = at.branch;
            is_there = subst (λ all. slice_get all k ≡ Some at.branch) (sym (branches_at place (StmtKind-F.Cobegin branches))) at.is_there;
            stands = run_of (out-Branch at.branch).body x runs.runs (at.inner x runs.stands);
            runs = runs.runs;
          };
    }))
    (λ x stands. of_inner place (StmtKind-F.Cobegin branches) x
    (made_branches each x (subst (λ body. StandsIn body x) (children_at place (StmtKind-F.Cobegin others)) stands)))

-- ---- tests of loops

made_inside : (place : Place) (layer : StmtKind-F StmtKind Arm Branch Stmt) (made : List Stmt) → Made (kind_children layer) made →
    Made (made_stmt place layer ∷ []) made
made_inside place layer made inner x stands = of_inner place layer x (inner x stands)

made_test : (loop : Stmt) (e : Expr) (a c : List Stmt) → In (place_of_expr e).start (conditions_of loop) → TestOf loop (made_if e a c) →
    Made (loop ∷ []) a → Made (loop ∷ []) c → Made (loop ∷ []) (made_if e a c ∷ [])
made_test loop e a c tests effect first second =
    let layer : StmtKind-F StmtKind Arm Branch Stmt = StmtKind-F.If (made_arm e a ∷ []) c in
    made_around loop (made_if e a c)
    (inr (record {
      test = e;
      tests = tests;
      at_test = placed (place_of_expr e) layer;
      has_effect = effect;
      no_run = run_at (place_of_expr e) layer;
      no_branch = branches_at (place_of_expr e) layer;
    }))
    (subst (λ body. Made (loop ∷ []) body) (sym (children_at (place_of_expr e) layer))
    (made_twice (loop ∷ []) ((out-Arm (made_arm e a)).body ++ []) c
    (made_twice (loop ∷ []) (out-Arm (made_arm e a)).body [] (subst (λ body. Made (loop ∷ []) body) (sym (body_is e a)) first)
    (λ x stands. absurd (nowhere x stands))) second))

-- ---- all statements

pub all_made : (body : List Stmt) → Made body (peeled body)
all_made = inherited Made (record {
  nothing = made_none;
  alone = made_alone;
  next = made_next;
  twice = made_twice;
  branching = λ place arms others a b in_arms in_other effect.
      copy_around place (StmtKind-F.If arms a) (StmtKind-F.If others b) effect refl refl
      (made_beside (arm_bodies arms) (arm_bodies others) a b (made_arms in_arms) in_other);
  cobegin = made_cobegin;
  guarded = λ place guard e a b inner effect.
      copy_around place (StmtKind-F.When guard e a) (StmtKind-F.When guard e b) effect refl refl inner;
  repeat = λ place a b inner effects effect. copy_around place (StmtKind-F.Repeat a) (StmtKind-F.Repeat b) effect refl refl inner;
  until = λ place a b e inner effects effect. copy_around place (StmtKind-F.Until a e) (StmtKind-F.Until b e) effect refl refl inner;
  while = λ place e a b inner effects effect. copy_around place (StmtKind-F.While e a) (StmtKind-F.While e b) effect refl refl inner;
  in_repeat = λ place a b inner. made_inside place (StmtKind-F.Repeat a) b inner;
  in_until = λ place a b e inner. made_inside place (StmtKind-F.Until a e) b inner;
  in_while = λ place e a b inner. made_inside place (StmtKind-F.While e a) b inner;
  until_test = λ place a b e inner test.
      made_test (made_stmt place (StmtKind-F.Until a e)) e [] b
      (subst (In (place_of_expr e).start) (sym (conditions_at place (StmtKind-F.Until a e))) (inl refl)) test
      (λ x stands. absurd (nowhere x stands)) inner;
  while_test = λ place e a b inner test.
      made_test (made_stmt place (StmtKind-F.While e a)) e b []
      (subst (In (place_of_expr e).start) (sym (conditions_at place (StmtKind-F.While e a))) (inl refl)) test inner
      (λ x stands. absurd (nowhere x stands));
})
