-- What peeling keeps in each statement, it keeps in each block.
use Rattle.std.proofs.Common.{◌≡◌, Bool, true, false, List, [], ◌∷◌, ◌++◌, map, refl, ap, sym, subst}
use Rattle.std.specs.Prelude.{if◌then◌else◌}
use Rattle.std.proofs.lemmas.List.Elements.{All-head, All-tail}
use Rattle.bl_tree.specs.declared.place.Place.{Place}
use Rattle.bl_tree.specs.declared.tree.Arm.{Arm, out-Arm, out-roll-Arm}
use Rattle.bl_tree.specs.declared.tree.Branch.{Branch, out-Branch, out-roll-Branch, roll-Branch}
use Rattle.bl_tree.specs.declared.tree.Expr.{Expr}
use Rattle.bl_tree.specs.declared.tree.Guard.{Guard}
use Rattle.bl_tree.specs.declared.tree.Stmt.{Stmt}
use Rattle.bl_tree.specs.declared.tree.StmtKind.{StmtKind}
use Rattle.bl_tree.specs.declared.tree.StmtKind.TheOpen.{StmtKind-F}
use Rattle.bl_tree.specs.Within.{effect_of}
use Rattle.bl_tree.proofs.StmtInduction.{Each, EachArm, EachBranch, induct, stmt}
use Rattle.bl_peel.specs.Laws.{HasEffectsOf}
use Rattle.bl_peel.specs.Peeled.{ArmPeeling, BranchPeeling, Peeling, deep_of, front_of, kind_deep, kind_front, made_arm, made_if, made_stmt, peeled, peeling}
use Rattle.bl_peel.specs.inner.Parts.{kind_has_no_block, peeling_of_arm, peeling_of_branch, peeling_parts}
use Rattle.bl_peel.proofs.Equations.{arm_out, branch_out, peeling_at}
use Rattle.bl_peel.proofs.Keeping.{peeled_keeps}
use Rattle.bl_peel_laws.proofs.Effects.{TestOf, deep_effect_at, front_effect_at, until_test_of, while_test_of}

-- ---- arms and branches

-- the tests of other arms, and blocks that inherit theirs
pub data ArmsBelow (Le : List Stmt → List Stmt → Type 0) : List Arm → List Arm → Type 0 where
  no_arms : ArmsBelow Le [] []
  more_arms : {arm made : Arm} {arms others : List Arm} → (out-Arm made).test ≡ (out-Arm arm).test → Le (out-Arm arm).body (out-Arm made).body →
      ArmsBelow Le arms others → ArmsBelow Le (arm ∷ arms) (made ∷ others)

-- branches that are weak where others are, with blocks that inherit theirs
pub data BranchesBelow (Le : List Stmt → List Stmt → Type 0) : List Branch → List Branch → Type 0 where
  no_branches : BranchesBelow Le [] []
  more_branches : {branch made : Branch} {branches others : List Branch} → (out-Branch made).weak ≡ (out-Branch branch).weak →
      Le (out-Branch branch).body (out-Branch made).body → BranchesBelow Le branches others → BranchesBelow Le (branch ∷ branches) (made ∷ others)

-- ---- what peeling has to keep

-- a relation of a block to one that is made of it: it holds of a whole where it holds of the parts
pub record Inherits (Le : List Stmt → List Stmt → Type 0) : Type 0 where
  pub nothing : Le [] []
  pub alone : (place : Place) (layer : StmtKind-F StmtKind Arm Branch Stmt) → kind_has_no_block layer ≡ true →
      Le (made_stmt place layer ∷ []) (made_stmt place layer ∷ [])
  pub next : (s : Stmt) (body xs ys : List Stmt) → Le (s ∷ []) xs → Le body ys → Le (s ∷ body) (xs ++ ys)
  pub twice : (body xs ys : List Stmt) → Le body xs → Le body ys → Le body (xs ++ ys)
  pub branching : (place : Place) (arms others : List Arm) (a b : List Stmt) → ArmsBelow Le arms others → Le a b →
      effect_of (made_stmt place (StmtKind-F.If others b)) ≡ effect_of (made_stmt place (StmtKind-F.If arms a)) →
      Le (made_stmt place (StmtKind-F.If arms a) ∷ []) (made_stmt place (StmtKind-F.If others b) ∷ [])
  pub cobegin : (place : Place) (branches others : List Branch) → BranchesBelow Le branches others →
      effect_of (made_stmt place (StmtKind-F.Cobegin others)) ≡ effect_of (made_stmt place (StmtKind-F.Cobegin branches)) →
      Le (made_stmt place (StmtKind-F.Cobegin branches) ∷ []) (made_stmt place (StmtKind-F.Cobegin others) ∷ [])
  pub guarded : (place : Place) (guard : Guard) (e : Expr) (a b : List Stmt) → Le a b →
      effect_of (made_stmt place (StmtKind-F.When guard e b)) ≡ effect_of (made_stmt place (StmtKind-F.When guard e a)) →
      Le (made_stmt place (StmtKind-F.When guard e a) ∷ []) (made_stmt place (StmtKind-F.When guard e b) ∷ [])
  pub repeat : (place : Place) (a b : List Stmt) → Le a b → HasEffectsOf a b →
      effect_of (made_stmt place (StmtKind-F.Repeat b)) ≡ effect_of (made_stmt place (StmtKind-F.Repeat a)) →
      Le (made_stmt place (StmtKind-F.Repeat a) ∷ []) (made_stmt place (StmtKind-F.Repeat b) ∷ [])
  pub until : (place : Place) (a b : List Stmt) (e : Expr) → Le a b → HasEffectsOf a b →
      effect_of (made_stmt place (StmtKind-F.Until b e)) ≡ effect_of (made_stmt place (StmtKind-F.Until a e)) →
      Le (made_stmt place (StmtKind-F.Until a e) ∷ []) (made_stmt place (StmtKind-F.Until b e) ∷ [])
  pub while : (place : Place) (e : Expr) (a b : List Stmt) → Le a b → HasEffectsOf a b →
      effect_of (made_stmt place (StmtKind-F.While e b)) ≡ effect_of (made_stmt place (StmtKind-F.While e a)) →
      Le (made_stmt place (StmtKind-F.While e a) ∷ []) (made_stmt place (StmtKind-F.While e b) ∷ [])
  -- what is made of the block of a loop, where it stands in the place of the loop
  pub in_repeat : (place : Place) (a b : List Stmt) → Le a b → Le (made_stmt place (StmtKind-F.Repeat a) ∷ []) b
  pub in_until : (place : Place) (a b : List Stmt) (e : Expr) → Le a b → Le (made_stmt place (StmtKind-F.Until a e) ∷ []) b
  pub in_while : (place : Place) (e : Expr) (a b : List Stmt) → Le a b → Le (made_stmt place (StmtKind-F.While e a) ∷ []) b
  -- the test of a loop, around what stands in the place of the loop
  pub until_test : (place : Place) (a b : List Stmt) (e : Expr) → Le (made_stmt place (StmtKind-F.Until a e) ∷ []) b →
      TestOf (made_stmt place (StmtKind-F.Until a e)) (made_if e [] b) → Le (made_stmt place (StmtKind-F.Until a e) ∷ []) (made_if e [] b ∷ [])
  pub while_test : (place : Place) (e : Expr) (a b : List Stmt) → Le (made_stmt place (StmtKind-F.While e a) ∷ []) b →
      TestOf (made_stmt place (StmtKind-F.While e a)) (made_if e b []) → Le (made_stmt place (StmtKind-F.While e a) ∷ []) (made_if e b [] ∷ [])

-- ---- what a statement becomes

-- what a statement becomes inherits from it
record Peels (Le : List Stmt → List Stmt → Type 0) (s : Stmt) : Type 0 where
  pub deep : Le (s ∷ []) ((peeling s).deep ∷ [])
  pub front : Le (s ∷ []) (peeling s).front

module _ (Le : List Stmt → List Stmt → Type 0) (rules : Inherits Le) where
  -- ---- blocks

  deep_block : (body : List Stmt) → Each (Peels Le) body → Le body (deep_of (map peeling body))
  deep_block [] each = rules.nothing
  deep_block (s ∷ body) each =
      rules.next s body ((peeling s).deep ∷ []) (deep_of (map peeling body)) (All-head (Peels Le) s body each).deep
      (deep_block body (All-tail (Peels Le) s body each))

  by_flag : (c : Bool) (body one other : List Stmt) → Le body one → Le body other → Le body (if c then one else other)
  by_flag true body one other first second = first
  by_flag false body one other first second = second

  front_block : (body : List Stmt) → Each (Peels Le) body → Le body (front_of (map peeling body))
  front_block [] each = rules.nothing
  front_block (s ∷ body) each =
      rules.next s body (peeling s).front (if (peeling s).instant then front_of (map peeling body) else deep_of (map peeling body))
      (All-head (Peels Le) s body each).front
      (by_flag (peeling s).instant body (front_of (map peeling body)) (deep_of (map peeling body))
      (front_block body (All-tail (Peels Le) s body each)) (deep_block body (All-tail (Peels Le) s body each)))

  -- ---- arms and branches

  abbrev ArmPeels : Arm → Type 0
  ArmPeels arm = Each (Peels Le) (out-Arm arm).body

  made_arm_below : (body : List Stmt) (arm made : Arm) (arms others : List Arm) → made ≡ made_arm (out-Arm arm).test body →
      Le (out-Arm arm).body body → ArmsBelow Le arms others → ArmsBelow Le (arm ∷ arms) (made ∷ others)
  made_arm_below body arm made arms others is inner rest =
      subst (λ made. ArmsBelow Le (arm ∷ arms) (made ∷ others)) (sym is)
      (more_arms (ap (λ x. x.test) (out-roll-Arm (record { test = (out-Arm arm).test; body = body })))
      (subst (Le (out-Arm arm).body) (sym (ap (λ x. x.body) (out-roll-Arm (record { test = (out-Arm arm).test; body = body })))) inner) rest)

  deep_arms : (arms : List Arm) → EachArm (Peels Le) arms → ArmsBelow Le arms (map (λ arm. arm.deep) (map peeling_of_arm arms))
  deep_arms [] each = no_arms
  deep_arms (arm ∷ arms) each =
      made_arm_below (deep_of (map peeling (out-Arm arm).body)) arm (peeling_of_arm arm).deep arms (map (λ arm. arm.deep) (map peeling_of_arm arms))
      (ap (λ (made : ArmPeeling). made.deep) (arm_out arm)) (deep_block (out-Arm arm).body (All-head ArmPeels arm arms each))
      (deep_arms arms (All-tail ArmPeels arm arms each))

  front_arms : (arms : List Arm) → EachArm (Peels Le) arms → ArmsBelow Le arms (map (λ arm. arm.front) (map peeling_of_arm arms))
  front_arms [] each = no_arms
  front_arms (arm ∷ arms) each =
      made_arm_below (front_of (map peeling (out-Arm arm).body)) arm (peeling_of_arm arm).front arms (map (λ arm. arm.front) (map peeling_of_arm arms))
      (ap (λ (made : ArmPeeling). made.front) (arm_out arm)) (front_block (out-Arm arm).body (All-head ArmPeels arm arms each))
      (front_arms arms (All-tail ArmPeels arm arms each))

  abbrev BranchPeels : Branch → Type 0
  BranchPeels branch = Each (Peels Le) (out-Branch branch).body

  made_branch_below : (body : List Stmt) (branch made : Branch) (branches others : List Branch) →
      made ≡ roll-Branch (record { weak = (out-Branch branch).weak; body = body }) → Le (out-Branch branch).body body →
      BranchesBelow Le branches others → BranchesBelow Le (branch ∷ branches) (made ∷ others)
  made_branch_below body branch made branches others is inner rest =
      subst (λ made. BranchesBelow Le (branch ∷ branches) (made ∷ others)) (sym is)
      (more_branches (ap (λ x. x.weak) (out-roll-Branch (record { weak = (out-Branch branch).weak; body = body })))
      (subst (Le (out-Branch branch).body)
      (sym (ap (λ x. x.body) (out-roll-Branch (record { weak = (out-Branch branch).weak; body = body })))) inner) rest)

  all_branches : (branches : List Branch) → EachBranch (Peels Le) branches →
      BranchesBelow Le branches (map (λ branch. branch.branch) (map peeling_of_branch branches))
  all_branches [] each = no_branches
  all_branches (branch ∷ branches) each =
      made_branch_below (front_of (map peeling (out-Branch branch).body)) branch (peeling_of_branch branch).branch branches
      (map (λ branch. branch.branch) (map peeling_of_branch branches)) (ap (λ (made : BranchPeeling). made.branch) (branch_out branch))
      (front_block (out-Branch branch).body (All-head BranchPeels branch branches each))
      (all_branches branches (All-tail BranchPeels branch branches each))

  -- ---- statements

  -- a statement by what its kind becomes
  peels_at : (place : Place) (layer : StmtKind-F StmtKind Arm Branch Stmt) →
      Le (stmt place layer ∷ []) (made_stmt place (kind_deep (peeling_parts layer)) ∷ []) →
      Le (stmt place layer ∷ []) (kind_front (peeling_parts layer) place) → Peels Le (stmt place layer)
  peels_at place layer deep front = record {
    deep = subst (λ (made : Peeling). Le (stmt place layer ∷ []) (made.deep ∷ [])) (sym (peeling_at place layer)) deep;
    front = subst (λ (made : Peeling). Le (stmt place layer ∷ []) made.front) (sym (peeling_at place layer)) front;
  }

  -- a statement that stays as it is
  peels_itself : (place : Place) (layer : StmtKind-F StmtKind Arm Branch Stmt) → kind_has_no_block layer ≡ true → kind_deep (peeling_parts layer) ≡ layer →
      kind_front (peeling_parts layer) place ≡ stmt place layer ∷ [] → Peels Le (stmt place layer)
  peels_itself place layer none deep front =
      let same = rules.alone place layer none in
      peels_at place layer
      (subst (λ made. Le (stmt place layer ∷ []) (made_stmt place made ∷ [])) (sym deep) same)
      (subst (λ made. Le (stmt place layer ∷ []) made) (sym front) same)

  peels_if : (place : Place) (arms : List Arm) (other : List Stmt) → EachArm (Peels Le) arms → Each (Peels Le) other →
      Peels Le (stmt place (StmtKind-F.If arms other))
  peels_if place arms other in_arms in_other =
      peels_at place (StmtKind-F.If arms other)
      (rules.branching place arms (map (λ arm. arm.deep) (map peeling_of_arm arms)) other (deep_of (map peeling other))
      (deep_arms arms in_arms) (deep_block other in_other) (deep_effect_at place (StmtKind-F.If arms other)))
      (rules.branching place arms (map (λ arm. arm.front) (map peeling_of_arm arms)) other (front_of (map peeling other))
      (front_arms arms in_arms) (front_block other in_other)
      (front_effect_at place (StmtKind-F.If arms other)
      (StmtKind-F.If (map (λ arm. arm.front) (map peeling_of_arm arms)) (front_of (map peeling other))) refl))

  peels_cobegin : (place : Place) (branches : List Branch) → EachBranch (Peels Le) branches → Peels Le (stmt place (StmtKind-F.Cobegin branches))
  peels_cobegin place branches each =
      let made =
      rules.cobegin place branches (map (λ branch. branch.branch) (map peeling_of_branch branches)) (all_branches branches each)
      (deep_effect_at place (StmtKind-F.Cobegin branches)) in
      peels_at place (StmtKind-F.Cobegin branches) made made

  peels_when : (place : Place) (guard : Guard) (e : Expr) (body : List Stmt) → Each (Peels Le) body → Peels Le (stmt place (StmtKind-F.When guard e body))
  peels_when place guard e body each =
      peels_at place (StmtKind-F.When guard e body)
      (rules.guarded place guard e body (deep_of (map peeling body)) (deep_block body each) (deep_effect_at place (StmtKind-F.When guard e body)))
      (rules.guarded place guard e body (front_of (map peeling body)) (front_block body each)
      (front_effect_at place (StmtKind-F.When guard e body) (StmtKind-F.When guard e (front_of (map peeling body))) refl))

  peels_repeat : (place : Place) (body : List Stmt) → Each (Peels Le) body → Peels Le (stmt place (StmtKind-F.Repeat body))
  peels_repeat place body each =
      let loop =
      rules.repeat place body (deep_of (map peeling body)) (deep_block body each) (peeled_keeps body) (deep_effect_at place (StmtKind-F.Repeat body)) in
      peels_at place (StmtKind-F.Repeat body) loop
      (rules.twice (stmt place (StmtKind-F.Repeat body) ∷ []) (front_of (map peeling body))
      (made_stmt place (StmtKind-F.Repeat (deep_of (map peeling body))) ∷ [])
      (rules.in_repeat place body (front_of (map peeling body)) (front_block body each)) loop)

  peels_until : (place : Place) (body : List Stmt) (e : Expr) → Each (Peels Le) body → Peels Le (stmt place (StmtKind-F.Until body e))
  peels_until place body e each =
      let loop =
      rules.until place body (deep_of (map peeling body)) e (deep_block body each) (peeled_keeps body) (deep_effect_at place (StmtKind-F.Until body e)) in
      peels_at place (StmtKind-F.Until body e) loop
      (rules.twice (stmt place (StmtKind-F.Until body e) ∷ []) (front_of (map peeling body))
      (made_if e [] (made_stmt place (StmtKind-F.Until (deep_of (map peeling body)) e) ∷ []) ∷ [])
      (rules.in_until place body (front_of (map peeling body)) e (front_block body each))
      (rules.until_test place body (made_stmt place (StmtKind-F.Until (deep_of (map peeling body)) e) ∷ []) e loop (until_test_of place body e)))

  peels_while : (place : Place) (e : Expr) (body : List Stmt) → Each (Peels Le) body → Peels Le (stmt place (StmtKind-F.While e body))
  peels_while place e body each =
      let loop =
      rules.while place e body (deep_of (map peeling body)) (deep_block body each) (peeled_keeps body) (deep_effect_at place (StmtKind-F.While e body)) in
      peels_at place (StmtKind-F.While e body) loop
      (rules.while_test place e body (front_of (map peeling body) ++ made_stmt place (StmtKind-F.While e (deep_of (map peeling body))) ∷ [])
      (rules.twice (stmt place (StmtKind-F.While e body) ∷ []) (front_of (map peeling body))
      (made_stmt place (StmtKind-F.While e (deep_of (map peeling body))) ∷ [])
      (rules.in_while place e body (front_of (map peeling body)) (front_block body each)) loop)
      (while_test_of place e body))

  peels : (s : Stmt) → Peels Le s
  peels = induct (Peels Le) (record {
    declare = λ place k initial. peels_itself place (StmtKind-F.Declare k initial) refl refl refl;
    assign = λ place path e. peels_itself place (StmtKind-F.Assign path e) refl refl refl;
    call = λ place f inputs outputs. peels_itself place (StmtKind-F.Call f inputs outputs) refl refl refl;
    await = λ place e. peels_itself place (StmtKind-F.Await e) refl refl refl;
    run = λ place target a inputs outputs. peels_itself place (StmtKind-F.Run target a inputs outputs) refl refl refl;
    branching = peels_if;
    cobegin = peels_cobegin;
    guarded = peels_when;
    repeat = peels_repeat;
    until = peels_until;
    while = peels_while;
    returns = λ place e. peels_itself place (StmtKind-F.Return e) refl refl refl;
  })

  -- what is peeled inherits from its source
  pub inherited : (body : List Stmt) → Le body (peeled body)
  inherited body = deep_block body (λ k d within. peels _)
