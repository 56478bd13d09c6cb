-- Statements and blocks with first turns have the effects of their sources.
use Rattle.std.proofs.Common.{◌≡◌, Bool, true, false, ◌||◌, List, [], ◌∷◌, ◌++◌, map, refl, ap, sym, subst, ◌∙◌}
use Rattle.std.specs.Prelude.{if◌then◌else◌}
use Rattle.std.proofs.lemmas.List.Elements.{All-head, All-tail}
use Rattle.bl_tree.specs.declared.place.Place.{Place}
use Rattle.bl_tree.specs.declared.tree.Arm.{Arm, out-Arm, roll-out-Arm}
use Rattle.bl_tree.specs.declared.tree.Branch.{Branch, out-Branch, roll-out-Branch}
use Rattle.bl_tree.specs.declared.tree.Expr.{Expr}
use Rattle.bl_tree.specs.declared.tree.Guard.{Guard}
use Rattle.bl_tree.specs.declared.tree.Stmt.{Stmt, out-Stmt, out-roll-Stmt}
use Rattle.bl_tree.specs.declared.tree.StmtKind.{StmtKind, roll-StmtKind}
use Rattle.bl_tree.specs.declared.tree.StmtKind.TheOpen.{StmtKind-F}
use Rattle.bl_tree.specs.Instant.{branches_instant, instant, kind_instant}
use Rattle.bl_tree.specs.Reduce.{all_of, any_of}
use Rattle.bl_tree.specs.Within.{effect_of}
use Rattle.bl_tree.proofs.StmtInduction.{Each, EachArm, EachBranch, induct, stmt}
use Rattle.bl_effects.specs.inner.Gathered.{ends_of_branch, instant_of_arm}
use Rattle.bl_peel.specs.Laws.{HasEffectsOf}
use Rattle.bl_peel.specs.Peeled.{ArmPeeling, BranchPeeling, Peeling, deep_of, front_of, instants_within, kind_deep, kind_front, made_arm, made_if, made_stmt}
use Rattle.bl_peel.specs.Peeled.{peeled, peeling}
use Rattle.bl_peel.specs.inner.Parts.{peeling_of_arm, peeling_of_branch, peeling_parts}
use Rattle.bl_peel.proofs.Alike.{Alike, ArmAlike, ArmsAlike, BranchAlike, BranchesAlike, alike_cobegin, alike_if, alike_repeat, alike_same, alike_test}
use Rattle.bl_peel.proofs.Alike.{alike_until, alike_when, alike_while, arm_alike, branch_alike, effects_alone, effects_append, effects_same, effects_then}
use Rattle.bl_peel.proofs.Alike.{more_arms, more_branches, no_arms, no_branches}
use Rattle.bl_peel.proofs.Equations.{arm_out, branch_out, ends_branch, instant_arm, instant_at, instant_parts, made_branch, peeling_at}
use Rattle.bl_peel.proofs.FirstTurns.{repeat_turn, until_turn, while_turn}

-- a statement and what it becomes
pub record Keeps (s : Stmt) : Type 0 where
  pub deep : Alike s (peeling s).deep
  pub front : HasEffectsOf (s ∷ []) (peeling s).front
  pub tells : (peeling s).instant ≡ instant s
  pub place : (out-Stmt (peeling s).deep).place ≡ (out-Stmt s).place

-- ---- blocks

deep_keeps : (body : List Stmt) → Each Keeps body → HasEffectsOf body (deep_of (map peeling body))
deep_keeps [] each = effects_same []
deep_keeps (s ∷ body) each =
    effects_append (s ∷ []) ((peeling s).deep ∷ []) body (deep_of (map peeling body))
    (effects_alone s (peeling s).deep (All-head Keeps s body each).deep) (deep_keeps body (All-tail Keeps s body each))

by_flag : (c : Bool) (a b d : List Stmt) → HasEffectsOf a b → HasEffectsOf a d → HasEffectsOf a (if c then b else d)
by_flag true a b d one other = one
by_flag false a b d one other = other

front_keeps : (body : List Stmt) → Each Keeps body → HasEffectsOf body (front_of (map peeling body))
front_keeps [] each = effects_same []
front_keeps (s ∷ body) each =
    effects_append (s ∷ []) (peeling s).front body (if (peeling s).instant then front_of (map peeling body) else deep_of (map peeling body))
    (All-head Keeps s body each).front
    (by_flag (peeling s).instant body (front_of (map peeling body)) (deep_of (map peeling body))
    (front_keeps body (All-tail Keeps s body each)) (deep_keeps body (All-tail Keeps s body each)))

block_tells : (body : List Stmt) → Each Keeps body → map (λ s. s.instant) (map peeling body) ≡ map instant body
block_tells [] each = refl
block_tells (s ∷ body) each = λ i. (All-head Keeps s body each).tells i ∷ block_tells body (All-tail Keeps s body each) i

-- ---- arms

abbrev ArmKeeps : Arm → Type 0
ArmKeeps arm = Each Keeps (out-Arm arm).body

-- an arm with another block
arm_with : (arm : Arm) (body : List Stmt) → HasEffectsOf (out-Arm arm).body body → ArmAlike arm (made_arm (out-Arm arm).test body)
arm_with arm body same =
    subst (λ source. ArmAlike source (made_arm (out-Arm arm).test body)) (roll-out-Arm arm)
    (arm_alike (out-Arm arm).test (out-Arm arm).body body same)

deep_arm : (arm : Arm) → ArmKeeps arm → ArmAlike arm (peeling_of_arm arm).deep
deep_arm arm each =
    subst (λ (made : ArmPeeling). ArmAlike arm made.deep) (sym (arm_out arm))
    (arm_with arm (deep_of (map peeling (out-Arm arm).body)) (deep_keeps (out-Arm arm).body each))

front_arm : (arm : Arm) → ArmKeeps arm → ArmAlike arm (peeling_of_arm arm).front
front_arm arm each =
    subst (λ (made : ArmPeeling). ArmAlike arm made.front) (sym (arm_out arm))
    (arm_with arm (front_of (map peeling (out-Arm arm).body)) (front_keeps (out-Arm arm).body each))

arm_tells : (arm : Arm) → ArmKeeps arm → (peeling_of_arm arm).instant ≡ instant_of_arm arm
arm_tells arm each =
    ap (λ (made : ArmPeeling). made.instant) (arm_out arm)
    ∙ ap all_of (block_tells (out-Arm arm).body each)
    ∙ sym (instant_arm (out-Arm arm).test (out-Arm arm).body) ∙ ap instant_of_arm (roll-out-Arm arm)

deep_arms : (arms : List Arm) → EachArm Keeps arms → ArmsAlike arms (map (λ arm. arm.deep) (map peeling_of_arm arms))
deep_arms [] each = no_arms
deep_arms (arm ∷ arms) each =
    more_arms arm (peeling_of_arm arm).deep arms (map (λ arm. arm.deep) (map peeling_of_arm arms))
    (deep_arm arm (All-head ArmKeeps arm arms each)) (deep_arms arms (All-tail ArmKeeps arm arms each))

front_arms : (arms : List Arm) → EachArm Keeps arms → ArmsAlike arms (map (λ arm. arm.front) (map peeling_of_arm arms))
front_arms [] each = no_arms
front_arms (arm ∷ arms) each =
    more_arms arm (peeling_of_arm arm).front arms (map (λ arm. arm.front) (map peeling_of_arm arms))
    (front_arm arm (All-head ArmKeeps arm arms each)) (front_arms arms (All-tail ArmKeeps arm arms each))

arms_tell : (arms : List Arm) → EachArm Keeps arms → map (λ arm. arm.instant) (map peeling_of_arm arms) ≡ map instant_of_arm arms
arms_tell [] each = refl
arms_tell (arm ∷ arms) each = λ i. arm_tells arm (All-head ArmKeeps arm arms each) i ∷ arms_tell arms (All-tail ArmKeeps arm arms each) i

-- ---- branches

abbrev BranchKeeps : Branch → Type 0
BranchKeeps branch = Each Keeps (out-Branch branch).body

one_branch : (branch : Branch) → BranchKeeps branch → BranchAlike branch (peeling_of_branch branch).branch
one_branch branch each =
    subst (λ (made : BranchPeeling). BranchAlike branch made.branch) (sym (branch_out branch))
    (subst (λ source. BranchAlike source (made_branch (out-Branch branch).weak (front_of (map peeling (out-Branch branch).body)))) (roll-out-Branch branch)
    (branch_alike (out-Branch branch).weak (out-Branch branch).body (front_of (map peeling (out-Branch branch).body))
    (front_keeps (out-Branch branch).body each)))

branch_tells : (branch : Branch) → BranchKeeps branch → (peeling_of_branch branch).ends ≡ ends_of_branch branch
branch_tells branch each =
    ap (λ (made : BranchPeeling). made.ends) (branch_out branch)
    ∙ (λ i. record { weak = (out-Branch branch).weak; instant = all_of (block_tells (out-Branch branch).body each i) })
    ∙ sym (ends_branch (out-Branch branch).weak (out-Branch branch).body) ∙ ap ends_of_branch (roll-out-Branch branch)

all_branches : (branches : List Branch) → EachBranch Keeps branches →
    BranchesAlike branches (map (λ branch. branch.branch) (map peeling_of_branch branches))
all_branches [] each = no_branches
all_branches (branch ∷ branches) each =
    more_branches branch (peeling_of_branch branch).branch branches (map (λ branch. branch.branch) (map peeling_of_branch branches))
    (one_branch branch (All-head BranchKeeps branch branches each)) (all_branches branches (All-tail BranchKeeps branch branches each))

branches_tell : (branches : List Branch) → EachBranch Keeps branches →
    map (λ branch. branch.ends) (map peeling_of_branch branches) ≡ map ends_of_branch branches
branches_tell [] each = refl
branches_tell (branch ∷ branches) each =
    λ i. branch_tells branch (All-head BranchKeeps branch branches each) i ∷ branches_tell branches (All-tail BranchKeeps branch branches each) i

-- ---- statements

-- a statement by what its kind becomes
keeps_at : (place : Place) (layer : StmtKind-F StmtKind Arm Branch Stmt) →
    Alike (stmt place layer) (made_stmt place (kind_deep (peeling_parts layer))) →
    HasEffectsOf (stmt place layer ∷ []) (kind_front (peeling_parts layer) place) →
    kind_instant (instants_within (peeling_parts layer)) ≡ kind_instant (instant_parts layer) → Keeps (stmt place layer)
keeps_at place layer deep front tells = record {
  deep = subst (λ (made : Peeling). Alike (stmt place layer) made.deep) (sym (peeling_at place layer)) deep;
  front = subst (λ (made : Peeling). HasEffectsOf (stmt place layer ∷ []) made.front) (sym (peeling_at place layer)) front;
  tells = ap (λ (made : Peeling). made.instant) (peeling_at place layer) ∙ tells ∙ sym (instant_at place layer);
  place = ap (λ (made : Peeling). (out-Stmt made.deep).place) (peeling_at place layer)
      ∙ ap (λ layer. layer.place) (out-roll-Stmt (record { place = place; what = roll-StmtKind (kind_deep (peeling_parts layer)) }))
      ∙ sym (ap (λ layer. layer.place) (out-roll-Stmt (record { place = place; what = roll-StmtKind layer })));
}

-- a statement that stays as it is
keeps_itself : (place : Place) (layer : StmtKind-F StmtKind Arm Branch Stmt) → kind_deep (peeling_parts layer) ≡ layer →
    kind_front (peeling_parts layer) place ≡ stmt place layer ∷ [] →
    kind_instant (instants_within (peeling_parts layer)) ≡ kind_instant (instant_parts layer) → Keeps (stmt place layer)
keeps_itself place layer deep front tells =
    keeps_at place layer
    (subst (λ made. Alike (stmt place layer) (made_stmt place made)) (sym deep) (alike_same (stmt place layer)))
    (subst (λ made. HasEffectsOf (stmt place layer ∷ []) made) (sym front) (effects_same (stmt place layer ∷ []))) tells

keeps_if : (place : Place) (arms : List Arm) (other : List Stmt) → EachArm Keeps arms → Each Keeps other → Keeps (stmt place (StmtKind-F.If arms other))
keeps_if place arms other in_arms in_other =
    keeps_at place (StmtKind-F.If arms other)
    (alike_if place place arms (map (λ arm. arm.deep) (map peeling_of_arm arms)) other (deep_of (map peeling other))
    (deep_arms arms in_arms) (deep_keeps other in_other))
    (effects_alone (stmt place (StmtKind-F.If arms other))
    (made_stmt place (StmtKind-F.If (map (λ arm. arm.front) (map peeling_of_arm arms)) (front_of (map peeling other))))
    (alike_if place place arms (map (λ arm. arm.front) (map peeling_of_arm arms)) other (front_of (map peeling other))
    (front_arms arms in_arms) (front_keeps other in_other)))
    (λ i. any_of (arms_tell arms in_arms i) || all_of (block_tells other in_other i))

keeps_cobegin : (place : Place) (branches : List Branch) → EachBranch Keeps branches → Keeps (stmt place (StmtKind-F.Cobegin branches))
keeps_cobegin place branches each =
    let same = alike_cobegin place branches (map (λ branch. branch.branch) (map peeling_of_branch branches)) (all_branches branches each) in
    keeps_at place (StmtKind-F.Cobegin branches) same
    (effects_alone (stmt place (StmtKind-F.Cobegin branches))
    (made_stmt place (StmtKind-F.Cobegin (map (λ branch. branch.branch) (map peeling_of_branch branches)))) same)
    (ap branches_instant (branches_tell branches each))

keeps_repeat : (place : Place) (body : List Stmt) → Each Keeps body → Keeps (stmt place (StmtKind-F.Repeat body))
keeps_repeat place body each =
    let same = alike_repeat place body (deep_of (map peeling body)) (deep_keeps body each) in
    keeps_at place (StmtKind-F.Repeat body) same
    (effects_then (stmt place (StmtKind-F.Repeat body) ∷ []) (body ++ stmt place (StmtKind-F.Repeat body) ∷ [])
    (front_of (map peeling body) ++ made_stmt place (StmtKind-F.Repeat (deep_of (map peeling body))) ∷ [])
    (repeat_turn place body)
    (effects_append body (front_of (map peeling body)) (stmt place (StmtKind-F.Repeat body) ∷ [])
    (made_stmt place (StmtKind-F.Repeat (deep_of (map peeling body))) ∷ []) (front_keeps body each)
    (effects_alone (stmt place (StmtKind-F.Repeat body)) (made_stmt place (StmtKind-F.Repeat (deep_of (map peeling body)))) same)))
    refl

keeps_until : (place : Place) (body : List Stmt) (e : Expr) → Each Keeps body → Keeps (stmt place (StmtKind-F.Until body e))
keeps_until place body e each =
    let same = alike_until place e body (deep_of (map peeling body)) (deep_keeps body each) in
    let loop = effects_alone (stmt place (StmtKind-F.Until body e)) (made_stmt place (StmtKind-F.Until (deep_of (map peeling body)) e)) same in
    keeps_at place (StmtKind-F.Until body e) same
    (effects_then (stmt place (StmtKind-F.Until body e) ∷ []) (body ++ made_if e [] (stmt place (StmtKind-F.Until body e) ∷ []) ∷ [])
    (front_of (map peeling body) ++ made_if e [] (made_stmt place (StmtKind-F.Until (deep_of (map peeling body)) e) ∷ []) ∷ [])
    (until_turn place e body)
    (effects_append body (front_of (map peeling body)) (made_if e [] (stmt place (StmtKind-F.Until body e) ∷ []) ∷ [])
    (made_if e [] (made_stmt place (StmtKind-F.Until (deep_of (map peeling body)) e) ∷ []) ∷ []) (front_keeps body each)
    (effects_alone (made_if e [] (stmt place (StmtKind-F.Until body e) ∷ []))
    (made_if e [] (made_stmt place (StmtKind-F.Until (deep_of (map peeling body)) e) ∷ []))
    (alike_test e [] [] (stmt place (StmtKind-F.Until body e) ∷ []) (made_stmt place (StmtKind-F.Until (deep_of (map peeling body)) e) ∷ [])
    (effects_same []) loop))))
    (ap all_of (block_tells body each))

keeps_while : (place : Place) (e : Expr) (body : List Stmt) → Each Keeps body → Keeps (stmt place (StmtKind-F.While e body))
keeps_while place e body each =
    let same = alike_while place e body (deep_of (map peeling body)) (deep_keeps body each) in
    let loop = effects_alone (stmt place (StmtKind-F.While e body)) (made_stmt place (StmtKind-F.While e (deep_of (map peeling body)))) same in
    keeps_at place (StmtKind-F.While e body) same
    (effects_then (stmt place (StmtKind-F.While e body) ∷ []) (made_if e (body ++ stmt place (StmtKind-F.While e body) ∷ []) [] ∷ [])
    (made_if e (front_of (map peeling body) ++ made_stmt place (StmtKind-F.While e (deep_of (map peeling body))) ∷ []) [] ∷ [])
    (effects_alone (stmt place (StmtKind-F.While e body)) (made_if e (body ++ stmt place (StmtKind-F.While e body) ∷ []) []) (while_turn place e body))
    (effects_alone (made_if e (body ++ stmt place (StmtKind-F.While e body) ∷ []) [])
    (made_if e (front_of (map peeling body) ++ made_stmt place (StmtKind-F.While e (deep_of (map peeling body))) ∷ []) [])
    (alike_test e (body ++ stmt place (StmtKind-F.While e body) ∷ [])
    (front_of (map peeling body) ++ made_stmt place (StmtKind-F.While e (deep_of (map peeling body))) ∷ []) [] []
    (effects_append body (front_of (map peeling body)) (stmt place (StmtKind-F.While e body) ∷ [])
    (made_stmt place (StmtKind-F.While e (deep_of (map peeling body))) ∷ []) (front_keeps body each) loop)
    (effects_same []))))
    refl

keeps_when : (place : Place) (guard : Guard) (e : Expr) (body : List Stmt) → Each Keeps body → Keeps (stmt place (StmtKind-F.When guard e body))
keeps_when place guard e body each =
    keeps_at place (StmtKind-F.When guard e body)
    (alike_when place guard e body (deep_of (map peeling body)) (deep_keeps body each))
    (effects_alone (stmt place (StmtKind-F.When guard e body)) (made_stmt place (StmtKind-F.When guard e (front_of (map peeling body))))
    (alike_when place guard e body (front_of (map peeling body)) (front_keeps body each)))
    (ap all_of (block_tells body each))

-- what each statement becomes has its effects
pub keeps : (s : Stmt) → Keeps s
keeps = induct Keeps (record {
  declare = λ place k initial. keeps_itself place (StmtKind-F.Declare k initial) refl refl refl;
  assign = λ place path e. keeps_itself place (StmtKind-F.Assign path e) refl refl refl;
  call = λ place f inputs outputs. keeps_itself place (StmtKind-F.Call f inputs outputs) refl refl refl;
  await = λ place e. keeps_itself place (StmtKind-F.Await e) refl refl refl;
  run = λ place target a inputs outputs. keeps_itself place (StmtKind-F.Run target a inputs outputs) refl refl refl;
  branching = keeps_if;
  cobegin = keeps_cobegin;
  guarded = keeps_when;
  repeat = keeps_repeat;
  until = keeps_until;
  while = keeps_while;
  returns = λ place e. keeps_itself place (StmtKind-F.Return e) refl refl refl;
})

pub all_keep : (body : List Stmt) → Each Keeps body
all_keep body = λ k d within. keeps _

pub peeled_keeps : (body : List Stmt) → HasEffectsOf body (peeled body)
peeled_keeps body = deep_keeps body (all_keep body)

pub deep_effect : (s : Stmt) → effect_of (peeling s).deep ≡ effect_of s
deep_effect s =
    let kept = keeps s in
    λ i. record { place = kept.place i; reads = kept.deep.read i; writes = kept.deep.written i; instant = kept.deep.ends i }
