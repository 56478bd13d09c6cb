-- Induction over what statements become: a relation between blocks that goes over to what is made of its parts holds of what they become.
use Rattle.std.proofs.Common.{Bool, true, false, List, [], ◌∷◌, ◌++◌, map, sym, subst}
use Rattle.std.specs.Prelude.{if◌then◌else◌}
use Rattle.std.proofs.lemmas.List.Elements.{All-head, All-tail}
use Rattle.bl_tree.specs.declared.place.Place.{Place}
use Rattle.bl_tree.specs.declared.tree.Arm.{Arm, out-Arm, roll-out-Arm}
use Rattle.bl_tree.specs.declared.tree.Branch.{Branch, out-Branch, roll-out-Branch}
use Rattle.bl_tree.specs.declared.tree.Expr.{Expr}
use Rattle.bl_tree.specs.declared.tree.Guard.{Guard}
use Rattle.bl_tree.specs.declared.tree.Stmt.{Stmt}
use Rattle.bl_tree.specs.declared.tree.StmtKind.{StmtKind}
use Rattle.bl_tree.specs.declared.tree.StmtKind.TheOpen.{StmtKind-F}
use Rattle.bl_tree.proofs.StmtInduction.{Each, EachArm, EachBranch, induct, stmt}
use Rattle.bl_peel.specs.Peeled.{ArmPeeling, BranchPeeling, Peeling, deep_of, front_of, kind_deep, kind_front, made_arm, made_if, peeled, peeling}
use Rattle.bl_peel.specs.inner.Parts.{peeling_of_arm, peeling_of_branch, peeling_parts}
use Rattle.bl_peel.proofs.Equations.{arm_out, branch_out, made_branch, peeling_at}

-- arms with equal tests, whose blocks are related
pub data ArmsCopy (Many : List Stmt → List Stmt → Type 0) : List Arm → List Arm → Type 0 where
  no_arms : ArmsCopy Many [] []
  more_arms : (e : Expr) (a b : List Stmt) {arms others : List Arm} → Many a b → ArmsCopy Many arms others →
      ArmsCopy Many (made_arm e a ∷ arms) (made_arm e b ∷ others)

-- branches that are weak alike, whose blocks are related
pub data BranchesCopy (Many : List Stmt → List Stmt → Type 0) : List Branch → List Branch → Type 0 where
  no_branches : BranchesCopy Many [] []
  more_branches : (weak : Bool) (a b : List Stmt) {branches others : List Branch} → Many a b → BranchesCopy Many branches others →
      BranchesCopy Many (made_branch weak a ∷ branches) (made_branch weak b ∷ others)

-- what shows that each block is related to what it becomes
pub record Copies (Many : List Stmt → List Stmt → Type 0) : Type 0 where
  pub same : (body : List Stmt) → Many body body
  pub append : (a b c d : List Stmt) → Many a b → Many c d → Many (a ++ c) (b ++ d)
  pub branching : (place : Place) (arms others : List Arm) (a b : List Stmt) → ArmsCopy Many arms others → Many a b →
      Many (stmt place (StmtKind-F.If arms a) ∷ []) (stmt place (StmtKind-F.If others b) ∷ [])
  pub cobegin : (place : Place) (branches others : List Branch) → BranchesCopy Many branches others →
      Many (stmt place (StmtKind-F.Cobegin branches) ∷ []) (stmt place (StmtKind-F.Cobegin others) ∷ [])
  pub guarded : (place : Place) (guard : Guard) (e : Expr) (a b : List Stmt) → Many a b →
      Many (stmt place (StmtKind-F.When guard e a) ∷ []) (stmt place (StmtKind-F.When guard e b) ∷ [])
  pub repeat : (place : Place) (a b : List Stmt) → Many a b →
      Many (stmt place (StmtKind-F.Repeat a) ∷ []) (stmt place (StmtKind-F.Repeat b) ∷ [])
  pub until : (place : Place) (e : Expr) (a b : List Stmt) → Many a b →
      Many (stmt place (StmtKind-F.Until a e) ∷ []) (stmt place (StmtKind-F.Until b e) ∷ [])
  pub while : (place : Place) (e : Expr) (a b : List Stmt) → Many a b →
      Many (stmt place (StmtKind-F.While e a) ∷ []) (stmt place (StmtKind-F.While e b) ∷ [])
  pub repeat_turn : (place : Place) (a b c : List Stmt) → Many a b → Many a c →
      Many (stmt place (StmtKind-F.Repeat a) ∷ []) (b ++ stmt place (StmtKind-F.Repeat c) ∷ [])
  pub until_turn : (place : Place) (e : Expr) (a b c : List Stmt) → Many a b → Many a c →
      Many (stmt place (StmtKind-F.Until a e) ∷ []) (b ++ made_if e [] (stmt place (StmtKind-F.Until c e) ∷ []) ∷ [])
  pub while_turn : (place : Place) (e : Expr) (a b c : List Stmt) → Many a b → Many a c →
      Many (stmt place (StmtKind-F.While e a) ∷ []) (made_if e (b ++ stmt place (StmtKind-F.While e c) ∷ []) [] ∷ [])

-- a statement is related to what it becomes
pub record Copied (Many : List Stmt → List Stmt → Type 0) (s : Stmt) : Type 0 where
  pub deep : Many (s ∷ []) ((peeling s).deep ∷ [])
  pub front : Many (s ∷ []) (peeling s).front

module _ (Many : List Stmt → List Stmt → Type 0) (copies : Copies Many) where
  abbrev One : Stmt → Type 0
  One s = Copied Many s

  -- ---- blocks

  deep_block : (body : List Stmt) → Each One body → Many body (deep_of (map peeling body))
  deep_block [] each = copies.same []
  deep_block (s ∷ body) each =
      copies.append (s ∷ []) ((peeling s).deep ∷ []) body (deep_of (map peeling body)) (All-head One s body each).deep
      (deep_block body (All-tail One s body each))

  either : (c : Bool) (a b d : List Stmt) → Many a b → Many a d → Many a (if c then b else d)
  either true a b d one other = one
  either false a b d one other = other

  front_block : (body : List Stmt) → Each One body → Many body (front_of (map peeling body))
  front_block [] each = copies.same []
  front_block (s ∷ body) each =
      copies.append (s ∷ []) (peeling s).front body (if (peeling s).instant then front_of (map peeling body) else deep_of (map peeling body))
      (All-head One s body each).front
      (either (peeling s).instant body (front_of (map peeling body)) (deep_of (map peeling body))
      (front_block body (All-tail One s body each)) (deep_block body (All-tail One s body each)))

  -- ---- arms and branches

  abbrev OfArm : Arm → Type 0
  OfArm arm = Each One (out-Arm arm).body

  -- an arm with another block, before others
  arm_with : (arm : Arm) (body : List Stmt) (arms others : List Arm) → Many (out-Arm arm).body body → ArmsCopy Many arms others →
      ArmsCopy Many (arm ∷ arms) (made_arm (out-Arm arm).test body ∷ others)
  arm_with arm body arms others one more =
      subst (λ source. ArmsCopy Many (source ∷ arms) (made_arm (out-Arm arm).test body ∷ others)) (roll-out-Arm arm)
      (more_arms (out-Arm arm).test (out-Arm arm).body body one more)

  deep_arms : (arms : List Arm) → EachArm One arms → ArmsCopy Many arms (map (λ arm. arm.deep) (map peeling_of_arm arms))
  deep_arms [] each = no_arms
  deep_arms (arm ∷ arms) each =
      subst (λ (made : ArmPeeling). ArmsCopy Many (arm ∷ arms) (made.deep ∷ map (λ arm. arm.deep) (map peeling_of_arm arms))) (sym (arm_out arm))
      (arm_with arm (deep_of (map peeling (out-Arm arm).body)) arms (map (λ arm. arm.deep) (map peeling_of_arm arms))
      (deep_block (out-Arm arm).body (All-head OfArm arm arms each)) (deep_arms arms (All-tail OfArm arm arms each)))

  front_arms : (arms : List Arm) → EachArm One arms → ArmsCopy Many arms (map (λ arm. arm.front) (map peeling_of_arm arms))
  front_arms [] each = no_arms
  front_arms (arm ∷ arms) each =
      subst (λ (made : ArmPeeling). ArmsCopy Many (arm ∷ arms) (made.front ∷ map (λ arm. arm.front) (map peeling_of_arm arms))) (sym (arm_out arm))
      (arm_with arm (front_of (map peeling (out-Arm arm).body)) arms (map (λ arm. arm.front) (map peeling_of_arm arms))
      (front_block (out-Arm arm).body (All-head OfArm arm arms each)) (front_arms arms (All-tail OfArm arm arms each)))

  abbrev OfBranch : Branch → Type 0
  OfBranch branch = Each One (out-Branch branch).body

  branch_with : (branch : Branch) (body : List Stmt) (branches others : List Branch) → Many (out-Branch branch).body body →
      BranchesCopy Many branches others → BranchesCopy Many (branch ∷ branches) (made_branch (out-Branch branch).weak body ∷ others)
  branch_with branch body branches others one more =
      subst (λ source. BranchesCopy Many (source ∷ branches) (made_branch (out-Branch branch).weak body ∷ others)) (roll-out-Branch branch)
      (more_branches (out-Branch branch).weak (out-Branch branch).body body one more)

  all_branches : (branches : List Branch) → EachBranch One branches →
      BranchesCopy Many branches (map (λ branch. branch.branch) (map peeling_of_branch branches))
  all_branches [] each = no_branches
  all_branches (branch ∷ branches) each =
      subst (λ (made : BranchPeeling). BranchesCopy Many (branch ∷ branches) (made.branch ∷ map (λ branch. branch.branch) (map peeling_of_branch branches)))
      (sym (branch_out branch))
      (branch_with branch (front_of (map peeling (out-Branch branch).body)) branches (map (λ branch. branch.branch) (map peeling_of_branch branches))
      (front_block (out-Branch branch).body (All-head OfBranch branch branches each)) (all_branches branches (All-tail OfBranch branch branches each)))

  -- ---- statements

  -- a statement by what its kind becomes
  copied_at : (place : Place) (layer : StmtKind-F StmtKind Arm Branch Stmt) →
      Many (stmt place layer ∷ []) (stmt place (kind_deep (peeling_parts layer)) ∷ []) →
      Many (stmt place layer ∷ []) (kind_front (peeling_parts layer) place) → One (stmt place layer)
  copied_at place layer deep front = record {
    deep = subst (λ (made : Peeling). Many (stmt place layer ∷ []) (made.deep ∷ [])) (sym (peeling_at place layer)) deep;
    front = subst (λ (made : Peeling). Many (stmt place layer ∷ []) made.front) (sym (peeling_at place layer)) front;
  }

  copied_if : (place : Place) (arms : List Arm) (other : List Stmt) → EachArm One arms → Each One other → One (stmt place (StmtKind-F.If arms other))
  copied_if place arms other in_arms in_other =
      copied_at place (StmtKind-F.If arms other)
      (copies.branching place arms (map (λ arm. arm.deep) (map peeling_of_arm arms)) other (deep_of (map peeling other))
      (deep_arms arms in_arms) (deep_block other in_other))
      (copies.branching place arms (map (λ arm. arm.front) (map peeling_of_arm arms)) other (front_of (map peeling other))
      (front_arms arms in_arms) (front_block other in_other))

  copied_cobegin : (place : Place) (branches : List Branch) → EachBranch One branches → One (stmt place (StmtKind-F.Cobegin branches))
  copied_cobegin place branches each =
      let same = copies.cobegin place branches (map (λ branch. branch.branch) (map peeling_of_branch branches)) (all_branches branches each) in
      copied_at place (StmtKind-F.Cobegin branches) same same

  copied_when : (place : Place) (guard : Guard) (e : Expr) (body : List Stmt) → Each One body → One (stmt place (StmtKind-F.When guard e body))
  copied_when place guard e body each =
      copied_at place (StmtKind-F.When guard e body)
      (copies.guarded place guard e body (deep_of (map peeling body)) (deep_block body each))
      (copies.guarded place guard e body (front_of (map peeling body)) (front_block body each))

  copied_repeat : (place : Place) (body : List Stmt) → Each One body → One (stmt place (StmtKind-F.Repeat body))
  copied_repeat place body each =
      copied_at place (StmtKind-F.Repeat body)
      (copies.repeat place body (deep_of (map peeling body)) (deep_block body each))
      (copies.repeat_turn place body (front_of (map peeling body)) (deep_of (map peeling body)) (front_block body each) (deep_block body each))

  copied_until : (place : Place) (body : List Stmt) (e : Expr) → Each One body → One (stmt place (StmtKind-F.Until body e))
  copied_until place body e each =
      copied_at place (StmtKind-F.Until body e)
      (copies.until place e body (deep_of (map peeling body)) (deep_block body each))
      (copies.until_turn place e body (front_of (map peeling body)) (deep_of (map peeling body)) (front_block body each) (deep_block body each))

  copied_while : (place : Place) (e : Expr) (body : List Stmt) → Each One body → One (stmt place (StmtKind-F.While e body))
  copied_while place e body each =
      copied_at place (StmtKind-F.While e body)
      (copies.while place e body (deep_of (map peeling body)) (deep_block body each))
      (copies.while_turn place e body (front_of (map peeling body)) (deep_of (map peeling body)) (front_block body each) (deep_block body each))

  -- a statement without blocks stays as it is
  itself : (place : Place) (layer : StmtKind-F StmtKind Arm Branch Stmt) → Many (stmt place layer ∷ []) (stmt place layer ∷ [])
  itself place layer = copies.same (stmt place layer ∷ [])

  pub copied : (s : Stmt) → One s
  copied = induct One (record {
    declare = λ place k initial. let one = itself place (StmtKind-F.Declare k initial) in copied_at place (StmtKind-F.Declare k initial) one one;
    assign = λ place path e. let one = itself place (StmtKind-F.Assign path e) in copied_at place (StmtKind-F.Assign path e) one one;
    call = λ place f inputs outputs.
        let one = itself place (StmtKind-F.Call f inputs outputs) in copied_at place (StmtKind-F.Call f inputs outputs) one one;
    await = λ place e. let one = itself place (StmtKind-F.Await e) in copied_at place (StmtKind-F.Await e) one one;
    run = λ place target a inputs outputs.
        let one = itself place (StmtKind-F.Run target a inputs outputs) in copied_at place (StmtKind-F.Run target a inputs outputs) one one;
    branching = copied_if;
    cobegin = copied_cobegin;
    guarded = copied_when;
    repeat = copied_repeat;
    until = copied_until;
    while = copied_while;
    returns = λ place e. let one = itself place (StmtKind-F.Return e) in copied_at place (StmtKind-F.Return e) one one;
  })

  -- a body is related to the peeled body
  pub body_copied : (body : List Stmt) → Many body (peeled body)
  body_copied body = deep_block body (λ k d within. copied _)
