-- How what is made of parts comes to what is made of the whole.
use Rattle.std.proofs.Common.{◌≡◌, ℕ, ◌+◌, ◌<◌, ◌≤◌, Bool, true, false, ◌&&◌, ◌||◌, List, [], ◌∷◌, ◌++◌, map, length, get_or, drop, refl, ap, sym, ◌∙◌}
use Rattle.std.proofs.Common.{append_assoc}
use Rattle.std.proofs.lemmas.List.{drop_more}
use Rattle.bl_tree.proofs.Basics.{and_assoc, or_assoc}
use Rattle.bl_tree.specs.declared.place.Place.{Place}
use Rattle.bl_tree.specs.declared.tree.Arm.{Arm, out-Arm}
use Rattle.bl_tree.specs.declared.tree.Branch.{Branch, out-Branch}
use Rattle.bl_tree.specs.declared.tree.Expr.{Expr}
use Rattle.bl_tree.specs.declared.tree.Stmt.{Stmt, out-Stmt}
use Rattle.bl_tree.specs.declared.tree.StmtKind.{StmtKind, out-StmtKind, roll-StmtKind}
use Rattle.bl_tree.specs.declared.tree.StmtKind.TheOpen.{StmtKind-F}
use Rattle.bl_tree.specs.declared.tree.StmtKind.TheVariants as kinds
use Rattle.bl_tree.specs.Reduce.{any_of}
use Rattle.bl_peel.specs.declared.turns.FrontArm.{FrontArm}
use Rattle.bl_peel.specs.declared.turns.FrontArms.{FrontArms}
use Rattle.bl_peel.specs.declared.turns.FrontBlock.{FrontBlock}
use Rattle.bl_peel.specs.Peeled.{ArmPeeling, BranchPeeling, Peeling, deep_of, front_ends, front_of, made_arm, peeling}
use Rattle.bl_peel.specs.inner.Parts.{deep_of_kind, front_after, front_arm, front_arms, front_block, fronted, peeling_of_arm, peeling_of_branch}
use Rattle.bl_peel.specs.inner.Parts.{peeling_of_kind, placed_stmt}
use Rattle.bl_peel.proofs.Counting.{kind_is}
use Rattle.bl_peel.proofs.Equations.{arm_out, branch_out, kind_out, made_branch, peeling_out}

-- ---- statements and arms

pub deep_out : (s : Stmt) → (peeling s).deep ≡ placed_stmt (out-Stmt s).place (deep_of_kind (out-Stmt s).what)
deep_out s = ap (λ (made : Peeling). made.deep) (peeling_out s ∙ kind_out (out-Stmt s).what (out-Stmt s).place)

pub arm_made : (arm : Arm) (test : Expr) (body inner : List Stmt) → test ≡ (out-Arm arm).test → body ≡ deep_of (map peeling inner) →
    inner ≡ (out-Arm arm).body → made_arm test body ≡ (peeling_of_arm arm).deep
arm_made arm test body inner tested made is =
    (λ i. made_arm (tested i) (made i)) ∙ ap (λ inner. made_arm (out-Arm arm).test (deep_of (map peeling inner))) is
    ∙ sym (ap (λ (made : ArmPeeling). made.deep) (arm_out arm))

-- a block as it begins an arm
abbrev pub armed : Expr → FrontBlock → FrontArm
armed test block = record { arm = made_arm test block.body; instant = block.instant }

pub front_arm_made : (arm : Arm) (test : Expr) (block : FrontBlock) (inner : List Stmt) → test ≡ (out-Arm arm).test →
    block ≡ front_block (map peeling inner) → inner ≡ (out-Arm arm).body → armed test block ≡ front_arm (peeling_of_arm arm)
front_arm_made arm test block inner tested made is =
    (λ i. armed (tested i) (made i)) ∙ ap (λ inner. armed (out-Arm arm).test (front_block (map peeling inner))) is
    ∙ sym (ap front_arm (arm_out arm))

pub branch_made : (branch : Branch) (weak : Bool) (block : FrontBlock) (inner : List Stmt) → weak ≡ (out-Branch branch).weak →
    block ≡ front_block (map peeling inner) → inner ≡ (out-Branch branch).body → made_branch weak block.body ≡ (peeling_of_branch branch).branch
branch_made branch weak block inner is_weak made is =
    (λ i. made_branch (is_weak i) (made i).body) ∙ ap (λ inner. made_branch (out-Branch branch).weak (front_of (map peeling inner))) is
    ∙ sym (ap (λ (made : BranchPeeling). made.branch) (branch_out branch))

pub block_ends : (block : FrontBlock) (inner body : List Stmt) → block ≡ front_block (map peeling inner) → inner ≡ body →
    block.instant ≡ front_ends (map peeling body)
block_ends block inner body made is = ap (λ (block : FrontBlock). block.instant) made ∙ ap (λ inner. front_ends (map peeling inner)) is

-- ---- an `if` that begins a branch

module _ (what : StmtKind) (place : Place) (arms given_arms : List Arm) (other given : List Stmt) (tested : FrontArms) (otherwise : FrontBlock) where
  abbrev parts_of_if : StmtKind-F StmtKind Arm Branch Stmt
  parts_of_if = StmtKind-F.If arms other

  tested_is : tested ≡ front_arms (map peeling_of_arm given_arms) → given_arms ≡ arms → tested ≡ front_arms (map peeling_of_arm arms)
  tested_is made is = made ∙ ap (λ arms. front_arms (map peeling_of_arm arms)) is

  otherwise_is : otherwise ≡ front_block (map peeling given) → given ≡ other → otherwise ≡ front_block (map peeling other)
  otherwise_is made is = made ∙ ap (λ other. front_block (map peeling other)) is

  pub if_ends : what ≡ kinds.If arms other → tested ≡ front_arms (map peeling_of_arm given_arms) → given_arms ≡ arms →
      otherwise ≡ front_block (map peeling given) → given ≡ other → (tested.instant || otherwise.instant) ≡ (peeling_of_kind what place).instant
  if_ends is made_arms is_arms made_other is_other =
      (λ i. (tested_is made_arms is_arms i).instant || (otherwise_is made_other is_other i).instant)
      ∙ sym (ap (λ (made : Peeling). made.instant) (kind_is what parts_of_if (ap out-StmtKind is ∙ kinds.outs-If arms other) place))

  pub if_made : what ≡ kinds.If arms other → tested ≡ front_arms (map peeling_of_arm given_arms) → given_arms ≡ arms →
      otherwise ≡ front_block (map peeling given) → given ≡ other →
      placed_stmt place (kinds.If tested.arms otherwise.body) ∷ [] ≡ (peeling_of_kind what place).front
  if_made is made_arms is_arms made_other is_other =
      ap (λ made. placed_stmt place made ∷ []) (sym (kinds.rolls-If tested.arms otherwise.body))
      ∙ (λ i. placed_stmt place (roll-StmtKind (StmtKind-F.If (tested_is made_arms is_arms i).arms (otherwise_is made_other is_other i).body)) ∷ [])
      ∙ sym (ap (λ (made : Peeling). made.front) (kind_is what parts_of_if (ap out-StmtKind is ∙ kinds.outs-If arms other) place))

-- ---- loops over parts

dropped : {A B : Type 0} (g : A → B) (xs : List A) (k : ℕ) (x : A) → k < length xs → x ≡ get_or xs k x →
    map g (drop k xs) ≡ g x ∷ map g (drop (k + 1) xs)
dropped g xs k x within is = ap (map g) (drop_more xs k x within) ∙ ap (λ y. g y ∷ map g (drop (k + 1) xs)) (sym is)

-- the parts so far, with one part more
pub mapped_step : {A B C : Type 0} (g : A → B) (f : B → C) (xs : List A) (k : ℕ) (x : A) (before after all : List C) → k < length xs →
    x ≡ get_or xs k x → after ≡ before ++ f (g x) ∷ [] → before ++ map f (map g (drop k xs)) ≡ all → after ++ map f (map g (drop (k + 1) xs)) ≡ all
mapped_step g f xs k x before after all within is made so_far =
    ap (λ list. list ++ map f (map g (drop (k + 1) xs))) made
    ∙ append_assoc before (f (g x) ∷ []) (map f (map g (drop (k + 1) xs)))
    ∙ ap (λ rest. before ++ map f rest) (sym (dropped g xs k x within is)) ∙ so_far

pub any_step : {A B : Type 0} (g : A → B) (f : B → Bool) (xs : List A) (k : ℕ) (x : A) (before after all : Bool) → k < length xs →
    x ≡ get_or xs k x → after ≡ (before || f (g x)) → (before || any_of (map f (map g (drop k xs)))) ≡ all →
    (after || any_of (map f (map g (drop (k + 1) xs)))) ≡ all
any_step g f xs k x before after all within is made so_far =
    ap (λ b. b || any_of (map f (map g (drop (k + 1) xs)))) made
    ∙ or_assoc before (f (g x)) (any_of (map f (map g (drop (k + 1) xs))))
    ∙ ap (λ rest. before || any_of (map f rest)) (sym (dropped g xs k x within is)) ∙ so_far

-- ---- statements that begin a branch

front_more : (begins : Bool) (s : Peeling) (rest : List Peeling) → fronted begins s ++ front_after (begins && s.instant) rest ≡ front_after begins (s ∷ rest)
front_more true s rest = refl
front_more false s rest = refl

pub fronts_end_step : (body : List Stmt) (k : ℕ) (s : Stmt) (begins next all : Bool) → k < length body → s ≡ get_or body k s →
    next ≡ (begins && (peeling s).instant) → (begins && front_ends (map peeling (drop k body))) ≡ all →
    (next && front_ends (map peeling (drop (k + 1) body))) ≡ all
fronts_end_step body k s begins next all within is ends so_far =
    ap (λ b. b && front_ends (map peeling (drop (k + 1) body))) ends
    ∙ and_assoc begins (peeling s).instant (front_ends (map peeling (drop (k + 1) body)))
    ∙ ap (λ rest. begins && front_ends rest) (sym (dropped peeling body k s within is)) ∙ so_far

pub fronts_step : (body : List Stmt) (k : ℕ) (s : Stmt) (begins next : Bool) (before after all : List Stmt) → k < length body → s ≡ get_or body k s →
    next ≡ (begins && (peeling s).instant) → after ≡ before ++ fronted begins (peeling s) →
    before ++ front_after begins (map peeling (drop k body)) ≡ all → after ++ front_after next (map peeling (drop (k + 1) body)) ≡ all
fronts_step body k s begins next before after all within is ends made so_far =
    (λ i. made i ++ front_after (ends i) (map peeling (drop (k + 1) body)))
    ∙ append_assoc before (fronted begins (peeling s)) (front_after (begins && (peeling s).instant) (map peeling (drop (k + 1) body)))
    ∙ ap (λ list. before ++ list) (front_more begins (peeling s) (map peeling (drop (k + 1) body)))
    ∙ ap (λ rest. before ++ front_after begins rest) (sym (dropped peeling body k s within is)) ∙ so_far
