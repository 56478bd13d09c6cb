-- The body of a unit, and the body in which loops that begin branches have first turns: the second is the first one unrolled.
use Rattle.std.proofs.Common.{◌≡◌, ℕ, suc, Bool, true, false, List, [], ◌∷◌, ◌++◌, map, refl, sym, ap, ◌∙◌, subst}
use Rattle.std.specs.Prelude.{if◌then◌else◌}
use Rattle.std.proofs.lemmas.List.Elements.{All-head, All-tail}
use Rattle.bl_tree.specs.declared.place.Place.{Place}
use Rattle.bl_tree.specs.declared.tree.Arm.{Arm, fold-Arm, fold_out-Arm, out-Arm, out-roll-Arm}
use Rattle.bl_tree.specs.declared.tree.Branch.{Branch, fold-Branch, fold_out-Branch, out-Branch, out-roll-Branch, roll-Branch}
use Rattle.bl_tree.specs.declared.tree.Expr.{Expr}
use Rattle.bl_tree.specs.declared.tree.Stmt.{Stmt, fold-roll-Stmt}
use Rattle.bl_tree.specs.declared.tree.StmtKind.{StmtKind, fold-StmtKind, fold-roll-StmtKind}
use Rattle.bl_tree.specs.declared.tree.StmtKind.TheFolds.{map-StmtKind}
use Rattle.bl_tree.specs.declared.tree.StmtKind.TheOpen.{StmtKind-F}
use Rattle.bl_tree.proofs.StmtInduction.{Cases, Each, EachArm, EachBranch, induct}
use Rattle.bl_graph_nodes.specs.Laws.{stmt}
use Rattle.bl_graph_nodes.specs.Nodes.{Node}
use Rattle.bl_graph_nodes.specs.Plain.{Block, Label, Plain, Position, Again, Done, Repeat, Then, Until, While, block_from, inside, label_at, plain_stmt, plain_block}
use Rattle.bl_graph_nodes.proofs.Equations.{plain_statements}
use Rattle.bl_ctree_laws.specs.Trees.{before}
use Rattle.bl_peel.specs.Peeled.{ArmPeeling, BranchPeeling, Peeling, arm_peeling, branch_peeling, deep_of, front_of, kind_peeling, made_arm, made_if, peeled, peeling, stmt_peeling}
use Rattle.bl_ctree_laws_peeled.specs.Bodies.{PeeledUnrolls}
use Rattle.bl_ctree_laws_peeled.specs.Unrolls.{PlainUnrolls, Unrolls, acts_alike, again_if, awaits_alike, first_alike, first_repeat, first_until, no_more}
use Rattle.bl_ctree_laws_peeled.specs.Unrolls.{runs_alike, while_if}
use Rattle.bl_ctree_laws_peeled.proofs.Blocks.{before_assoc, unrolls_before}
use Rattle.bl_ctree_laws_peeled.proofs.Shapes.{ArmsBecome, BlockBecomes, BranchesBecome, alike_by, cobegin_becomes, if_becomes, made_if_is, no_arms}
use Rattle.bl_ctree_laws_peeled.proofs.Shapes.{no_branches, one_arm, one_branch, repeat_becomes, until_becomes, when_becomes, while_becomes}

-- ---- what parts become

abbrev pub peeling_of_kind : StmtKind → Place → Peeling
peeling_of_kind = fold-StmtKind (Place → Peeling) ArmPeeling BranchPeeling Peeling kind_peeling arm_peeling branch_peeling stmt_peeling

abbrev pub peeling_of_arm : Arm → ArmPeeling
peeling_of_arm = fold-Arm (Place → Peeling) ArmPeeling BranchPeeling Peeling kind_peeling arm_peeling branch_peeling stmt_peeling

abbrev pub peeling_of_branch : Branch → BranchPeeling
peeling_of_branch = fold-Branch (Place → Peeling) ArmPeeling BranchPeeling Peeling kind_peeling arm_peeling branch_peeling stmt_peeling

abbrev pub peeling_parts : StmtKind-F StmtKind Arm Branch Stmt → StmtKind-F (Place → Peeling) ArmPeeling BranchPeeling Peeling
peeling_parts =
    map-StmtKind StmtKind Arm Branch Stmt (Place → Peeling) ArmPeeling BranchPeeling Peeling peeling_of_kind peeling_of_arm peeling_of_branch peeling

pub peeling_at : (place : Place) (layer : StmtKind-F StmtKind Arm Branch Stmt) → peeling (stmt place layer) ≡ kind_peeling (peeling_parts layer) place
peeling_at place layer = rw (fold-roll-Stmt, fold-roll-StmtKind) refl

pub arm_out : (arm : Arm) → peeling_of_arm arm ≡ arm_peeling (record { test = (out-Arm arm).test; body = map peeling (out-Arm arm).body })
arm_out = fold_out-Arm (Place → Peeling) ArmPeeling BranchPeeling Peeling kind_peeling arm_peeling branch_peeling stmt_peeling

pub branch_out : (branch : Branch) →
    peeling_of_branch branch ≡ branch_peeling (record { weak = (out-Branch branch).weak; body = map peeling (out-Branch branch).body })
branch_out = fold_out-Branch (Place → Peeling) ArmPeeling BranchPeeling Peeling kind_peeling arm_peeling branch_peeling stmt_peeling

-- ---- lists of statements one after another

abbrev after_all : List Stmt → ℕ → ℕ
after_all [] k = k
after_all (s ∷ body) k = after_all body (suc k)

before_done : (body : Block) → before body Done ≡ body
before_done Done = refl
before_done (Then s rest) = ap (Then s) (before_done rest)

split : (one other : List Stmt) (k : ℕ) (q : Position) (rest : Block) →
    before (block_from (map plain_stmt (one ++ other)) k q) rest
    ≡ before (block_from (map plain_stmt one) k q) (before (block_from (map plain_stmt other) (after_all one k) q) rest)
split [] other k q rest = refl
split (s ∷ one) other k q rest = ap (Then (plain_stmt s (q ++ k ∷ []))) (split one other (suc k) q rest)

-- a statement becomes another outside of first turns, and others where it begins a branch, wherever all stand
pub record Becomes (H : Node → Plain → Type 0) (s : Stmt) (made : Peeling) : Type 0 where
  pub deep : (p q : Position) → PlainUnrolls H (plain_stmt s p) (plain_stmt made.deep q)
  pub front : (p q : Position) (k : ℕ) (rest rest' : Block) → Unrolls H rest rest' →
      Unrolls H (Then (plain_stmt s p) rest) (before (block_from (map plain_stmt made.front) k q) rest')

-- each head may fall away
module _ {H : Node → Plain → Type 0} (any : (n : Node) (s : Plain) → H n s) where
  abbrev P : Stmt → Type 0
  P s = Becomes H s (peeling s)

  -- ---- loops

  repeat_falls : (l : Label) (at : Place) (body rest made : Block) (t : Plain) (rest' : Block) →
      Unrolls H (before body (Then (Repeat l at body) rest)) (before made (Then t rest')) →
      Unrolls H (Then (Repeat l at body) rest) (before made (Then t rest'))
  repeat_falls l at body rest Done t rest' turned =
      first_repeat (any _ _) (subst (λ one. Unrolls H one (Then t rest')) (sym (before_assoc body (Then (Repeat l at body) Done) rest)) turned)
  repeat_falls l at body rest (Then s made) t rest' turned =
      first_repeat (any _ _)
      (subst (λ one. Unrolls H one (Then s (before made (Then t rest')))) (sym (before_assoc body (Then (Repeat l at body) Done) rest)) turned)

  until_falls : (l : Label) (at : Place) (body : Block) (e : Expr) (rest made : Block) (t : Plain) (rest' : Block) →
      Unrolls H (before body (Then (Again l at body e) rest)) (before made (Then t rest')) →
      Unrolls H (Then (Until l at body e) rest) (before made (Then t rest'))
  until_falls l at body e rest Done t rest' turned =
      first_until (any _ _) (subst (λ one. Unrolls H one (Then t rest')) (sym (before_assoc body (Then (Again l at body e) Done) rest)) turned)
  until_falls l at body e rest (Then s made) t rest' turned =
      first_until (any _ _)
      (subst (λ one. Unrolls H one (Then s (before made (Then t rest')))) (sym (before_assoc body (Then (Again l at body e) Done) rest)) turned)

  -- ---- blocks

  deep_block : (body : List Stmt) → Each P body → BlockBecomes H body (deep_of (map peeling body))
  deep_block [] each j k p q = no_more
  deep_block (s ∷ body) each j k p q =
      first_alike ((All-head P s body each).deep (p ++ j ∷ []) (q ++ k ∷ [])) (deep_block body (All-tail P s body each) (suc j) (suc k) p q)

  either : (b : Bool) (one other : List Stmt) (k : ℕ) (q : Position) (body rest' : Block) →
      Unrolls H body (before (block_from (map plain_stmt one) k q) rest') → Unrolls H body (before (block_from (map plain_stmt other) k q) rest') →
      Unrolls H body (before (block_from (map plain_stmt (if b then one else other)) k q) rest')
  either true one other k q body rest' first second = first
  either false one other k q body rest' first second = second

  front_block : (body : List Stmt) → Each P body → (j k : ℕ) (p q : Position) (rest rest' : Block) → Unrolls H rest rest' →
      Unrolls H (before (block_from (map plain_stmt body) j p) rest) (before (block_from (map plain_stmt (front_of (map peeling body))) k q) rest')
  front_block [] each j k p q rest rest' more = more
  front_block (s ∷ body) each j k p q rest rest' more =
      subst (Unrolls H (Then (plain_stmt s (p ++ j ∷ [])) (before (block_from (map plain_stmt body) (suc j) p) rest)))
      (sym (split (peeling s).front (if (peeling s).instant then front_of (map peeling body) else deep_of (map peeling body)) k q rest'))
      ((All-head P s body each).front (p ++ j ∷ []) q k _ _
      (either (peeling s).instant (front_of (map peeling body)) (deep_of (map peeling body)) (after_all (peeling s).front k) q _ rest'
      (front_block body (All-tail P s body each) (suc j) (after_all (peeling s).front k) p q rest rest' more)
      (unrolls_before (deep_block body (All-tail P s body each) (suc j) (after_all (peeling s).front k) p q) more)))

  front_alone : (body : List Stmt) → Each P body → BlockBecomes H body (front_of (map peeling body))
  front_alone body each j k p q =
      subst (λ one. Unrolls H one (block_from (map plain_stmt (front_of (map peeling body))) k q)) (before_done (block_from (map plain_stmt body) j p))
      (subst (Unrolls H (before (block_from (map plain_stmt body) j p) Done)) (before_done (block_from (map plain_stmt (front_of (map peeling body))) k q))
      (front_block body each j k p q Done Done no_more))

  -- ---- statements that become one statement

  lone : {s deep front : Stmt} {made : Peeling} → made.deep ≡ deep → made.front ≡ front ∷ [] →
      ((p q : Position) → PlainUnrolls H (plain_stmt s p) (plain_stmt deep q)) →
      ((p q : Position) → PlainUnrolls H (plain_stmt s p) (plain_stmt front q)) → Becomes H s made
  lone {s} is first alike alike' = record {
    deep = λ p q. subst (λ t. PlainUnrolls H (plain_stmt s p) (plain_stmt t q)) (sym is) (alike p q);
    front = λ p q k rest rest' more.
        subst (λ made. Unrolls H (Then (plain_stmt s p) rest) (before (block_from (map plain_stmt made) k q) rest')) (sym first) (first_alike (alike' p (q ++ k ∷ [])) more);
  }

  -- a statement that becomes itself
  itself : (place : Place) (layer : StmtKind-F StmtKind Arm Branch Stmt) → (kind_peeling (peeling_parts layer) place).deep ≡ stmt place layer →
      (kind_peeling (peeling_parts layer) place).front ≡ stmt place layer ∷ [] →
      ((p q : Position) → PlainUnrolls H (plain_stmt (stmt place layer) p) (plain_stmt (stmt place layer) q)) → P (stmt place layer)
  itself place layer is first alike =
      lone (ap (λ made. made.deep) (peeling_at place layer) ∙ is) (ap (λ made. made.front) (peeling_at place layer) ∙ first) alike alike

  -- ---- arms and branches

  made_arm_becomes : (body : List Stmt) {arm made : Arm} {arms others : List Arm} → made ≡ made_arm (out-Arm arm).test body →
      BlockBecomes H (out-Arm arm).body body → ArmsBecome H arms others → ArmsBecome H (arm ∷ arms) (made ∷ others)
  made_arm_becomes body {arm} {arms = arms} {others} is inner rest =
      subst (λ made. ArmsBecome H (arm ∷ arms) (made ∷ others)) (sym is)
      (one_arm (sym (ap (λ x. x.test) (out-roll-Arm (record { test = (out-Arm arm).test; body = body }))))
      (subst (BlockBecomes H (out-Arm arm).body) (sym (ap (λ x. x.body) (out-roll-Arm (record { test = (out-Arm arm).test; body = body })))) inner) rest)

  deep_arms : (arms : List Arm) → EachArm P arms → ArmsBecome H arms (map (λ arm. arm.deep) (map peeling_of_arm arms))
  deep_arms [] each = no_arms
  deep_arms (arm ∷ arms) each =
      made_arm_becomes (deep_of (map peeling (out-Arm arm).body)) (ap (λ made. made.deep) (arm_out arm))
      (deep_block (out-Arm arm).body (All-head (λ arm. Each P (out-Arm arm).body) arm arms each))
      (deep_arms arms (All-tail (λ arm. Each P (out-Arm arm).body) arm arms each))

  front_arms : (arms : List Arm) → EachArm P arms → ArmsBecome H arms (map (λ arm. arm.front) (map peeling_of_arm arms))
  front_arms [] each = no_arms
  front_arms (arm ∷ arms) each =
      made_arm_becomes (front_of (map peeling (out-Arm arm).body)) (ap (λ made. made.front) (arm_out arm))
      (front_alone (out-Arm arm).body (All-head (λ arm. Each P (out-Arm arm).body) arm arms each))
      (front_arms arms (All-tail (λ arm. Each P (out-Arm arm).body) arm arms each))

  made_branch_becomes : (body : List Stmt) {branch made : Branch} {branches others : List Branch} →
      made ≡ roll-Branch (record { weak = (out-Branch branch).weak; body = body }) → BlockBecomes H (out-Branch branch).body body →
      BranchesBecome H branches others → BranchesBecome H (branch ∷ branches) (made ∷ others)
  made_branch_becomes body {branch} {branches = branches} {others} is inner rest =
      subst (λ made. BranchesBecome H (branch ∷ branches) (made ∷ others)) (sym is)
      (one_branch (sym (ap (λ x. x.weak) (out-roll-Branch (record { weak = (out-Branch branch).weak; body = body }))))
      (subst (BlockBecomes H (out-Branch branch).body)
      (sym (ap (λ x. x.body) (out-roll-Branch (record { weak = (out-Branch branch).weak; body = body })))) inner) rest)

  all_branches : (branches : List Branch) → EachBranch P branches → BranchesBecome H branches (map (λ branch. branch.branch) (map peeling_of_branch branches))
  all_branches [] each = no_branches
  all_branches (branch ∷ branches) each =
      made_branch_becomes (front_of (map peeling (out-Branch branch).body)) (ap (λ made. made.branch) (branch_out branch))
      (front_alone (out-Branch branch).body (All-head (λ branch. Each P (out-Branch branch).body) branch branches each))
      (all_branches branches (All-tail (λ branch. Each P (out-Branch branch).body) branch branches each))

  -- ---- loops and their first turns

  repeat_case : (place : Place) (body : List Stmt) → Each P body → P (stmt place (StmtKind-F.Repeat body))
  repeat_case place body each = record {
    deep = λ p q. subst (λ made. PlainUnrolls H (plain_stmt (stmt place (StmtKind-F.Repeat body)) p) (plain_stmt made q))
        (sym (ap (λ made. made.deep) (peeling_at place (StmtKind-F.Repeat body)))) (alike p q);
    front = λ p q k rest rest' more.
        subst (λ made. Unrolls H (Then (plain_stmt (stmt place (StmtKind-F.Repeat body)) p) rest) (before (block_from (map plain_stmt made) k q) rest'))
        (sym (ap (λ made. made.front) (peeling_at place (StmtKind-F.Repeat body)))) (turned p q k rest rest' more);
  }
    where
      loop : Stmt
      loop = stmt place (StmtKind-F.Repeat (deep_of (map peeling body)))

      alike : (p q : Position) → PlainUnrolls H (plain_stmt (stmt place (StmtKind-F.Repeat body)) p) (plain_stmt loop q)
      alike = repeat_becomes place body (deep_of (map peeling body)) (deep_block body each)

      turned : (p q : Position) (k : ℕ) (rest rest' : Block) → Unrolls H rest rest' →
          Unrolls H (Then (plain_stmt (stmt place (StmtKind-F.Repeat body)) p) rest)
          (before (block_from (map plain_stmt (front_of (map peeling body) ++ loop ∷ [])) k q) rest')
      turned p q k rest rest' more =
          let next = plain_stmt loop (q ++ after_all (front_of (map peeling body)) k ∷ []) in
          subst (Unrolls H (Then (plain_stmt (stmt place (StmtKind-F.Repeat body)) p) rest)) (sym (split (front_of (map peeling body)) (loop ∷ []) k q rest'))
          (subst (λ one. Unrolls H (Then one rest) (before (block_from (map plain_stmt (front_of (map peeling body))) k q) (Then next rest')))
          (sym (plain_statements.endless place p body))
          (repeat_falls (label_at p) place (plain_block body (inside (label_at p) 0)) rest
          (block_from (map plain_stmt (front_of (map peeling body))) k q) next rest'
          (front_block body each 0 k (inside (label_at p) 0) q
          (Then (Repeat (label_at p) place (plain_block body (inside (label_at p) 0))) rest) (Then next rest')
          (first_alike (subst (λ one. PlainUnrolls H one next) (plain_statements.endless place p body)
          (alike p (q ++ after_all (front_of (map peeling body)) k ∷ []))) more))))

  until_case : (place : Place) (body : List Stmt) (e : Expr) → Each P body → P (stmt place (StmtKind-F.Until body e))
  until_case place body e each = record {
    deep = λ p q. subst (λ made. PlainUnrolls H (plain_stmt (stmt place (StmtKind-F.Until body e)) p) (plain_stmt made q))
        (sym (ap (λ made. made.deep) (peeling_at place (StmtKind-F.Until body e)))) (alike p q);
    front = λ p q k rest rest' more.
        subst (λ made. Unrolls H (Then (plain_stmt (stmt place (StmtKind-F.Until body e)) p) rest) (before (block_from (map plain_stmt made) k q) rest'))
        (sym (ap (λ made. made.front) (peeling_at place (StmtKind-F.Until body e)))) (turned p q k rest rest' more);
  }
    where
      loop : Stmt
      loop = stmt place (StmtKind-F.Until (deep_of (map peeling body)) e)

      alike : (p q : Position) → PlainUnrolls H (plain_stmt (stmt place (StmtKind-F.Until body e)) p) (plain_stmt loop q)
      alike = until_becomes place e body (deep_of (map peeling body)) (deep_block body each)

      test_alike : (p q : Position) →
          PlainUnrolls H (Again (label_at p) place (plain_block body (inside (label_at p) 0)) e) (plain_stmt (made_if e [] (loop ∷ [])) q)
      test_alike p q =
          alike_by refl (made_if_is e [] (loop ∷ []) q)
          (again_if (first_alike (subst (λ one. PlainUnrolls H one (plain_stmt loop (inside (label_at q) 1 ++ 0 ∷ []))) (plain_statements.until place p body e)
          (alike p (inside (label_at q) 1 ++ 0 ∷ []))) no_more))

      turned : (p q : Position) (k : ℕ) (rest rest' : Block) → Unrolls H rest rest' →
          Unrolls H (Then (plain_stmt (stmt place (StmtKind-F.Until body e)) p) rest)
          (before (block_from (map plain_stmt (front_of (map peeling body) ++ made_if e [] (loop ∷ []) ∷ [])) k q) rest')
      turned p q k rest rest' more =
          let next = plain_stmt (made_if e [] (loop ∷ [])) (q ++ after_all (front_of (map peeling body)) k ∷ []) in
          subst (Unrolls H (Then (plain_stmt (stmt place (StmtKind-F.Until body e)) p) rest))
          (sym (split (front_of (map peeling body)) (made_if e [] (loop ∷ []) ∷ []) k q rest'))
          (subst (λ one. Unrolls H (Then one rest) (before (block_from (map plain_stmt (front_of (map peeling body))) k q) (Then next rest')))
          (sym (plain_statements.until place p body e))
          (until_falls (label_at p) place (plain_block body (inside (label_at p) 0)) e rest (block_from (map plain_stmt (front_of (map peeling body))) k q) next rest'
          (front_block body each 0 k (inside (label_at p) 0) q
          (Then (Again (label_at p) place (plain_block body (inside (label_at p) 0)) e) rest) (Then next rest')
          (first_alike (test_alike p (q ++ after_all (front_of (map peeling body)) k ∷ [])) more))))

  while_case : (place : Place) (e : Expr) (body : List Stmt) → Each P body → P (stmt place (StmtKind-F.While e body))
  while_case place e body each =
      lone (ap (λ made. made.deep) (peeling_at place (StmtKind-F.While e body))) (ap (λ made. made.front) (peeling_at place (StmtKind-F.While e body)))
      alike test_alike
    where
      loop : Stmt
      loop = stmt place (StmtKind-F.While e (deep_of (map peeling body)))

      alike : (p q : Position) → PlainUnrolls H (plain_stmt (stmt place (StmtKind-F.While e body)) p) (plain_stmt loop q)
      alike = while_becomes place e body (deep_of (map peeling body)) (deep_block body each)

      turned : (p q : Position) →
          Unrolls H (before (plain_block body (inside (label_at p) 0)) (Then (While (label_at p) place e (plain_block body (inside (label_at p) 0))) Done))
          (plain_block (front_of (map peeling body) ++ loop ∷ []) q)
      turned p q =
          let next = plain_stmt loop (q ++ after_all (front_of (map peeling body)) 0 ∷ []) in
          subst (Unrolls H (before (plain_block body (inside (label_at p) 0)) (Then (While (label_at p) place e (plain_block body (inside (label_at p) 0))) Done)))
          (sym (sym (before_done (plain_block (front_of (map peeling body) ++ loop ∷ []) q)) ∙ split (front_of (map peeling body)) (loop ∷ []) 0 q Done))
          (front_block body each 0 0 (inside (label_at p) 0) q
          (Then (While (label_at p) place e (plain_block body (inside (label_at p) 0))) Done) (Then next Done)
          (first_alike (subst (λ one. PlainUnrolls H one next) (plain_statements.while place p e body)
          (alike p (q ++ after_all (front_of (map peeling body)) 0 ∷ []))) no_more))

      test_alike : (p q : Position) →
          PlainUnrolls H (plain_stmt (stmt place (StmtKind-F.While e body)) p) (plain_stmt (made_if e (front_of (map peeling body) ++ loop ∷ []) []) q)
      test_alike p q =
          alike_by (plain_statements.while place p e body) (made_if_is e (front_of (map peeling body) ++ loop ∷ []) [] q)
          (while_if (turned p (inside (label_at q) 0)))

  cases : Cases P
  cases = record {
    declare = λ place k initial. itself place (StmtKind-F.Declare k initial) refl refl
        (λ p q. alike_by (plain_statements.declaration place p k initial) (plain_statements.declaration place q k initial) acts_alike);
    assign = λ place path e. itself place (StmtKind-F.Assign path e) refl refl
        (λ p q. alike_by (plain_statements.assignment place p path e) (plain_statements.assignment place q path e) acts_alike);
    call = λ place f inputs outputs. itself place (StmtKind-F.Call f inputs outputs) refl refl
        (λ p q. alike_by (plain_statements.call place p f inputs outputs) (plain_statements.call place q f inputs outputs) acts_alike);
    await = λ place e. itself place (StmtKind-F.Await e) refl refl
        (λ p q. alike_by (plain_statements.pause place p e) (plain_statements.pause place q e) awaits_alike);
    run = λ place target a inputs outputs. itself place (StmtKind-F.Run target a inputs outputs) refl refl
        (λ p q. alike_by (plain_statements.run place p target a inputs outputs) (plain_statements.run place q target a inputs outputs) runs_alike);
    branching = λ place arms other each others.
        lone (ap (λ made. made.deep) (peeling_at place (StmtKind-F.If arms other))) (ap (λ made. made.front) (peeling_at place (StmtKind-F.If arms other)))
        (if_becomes place other (deep_of (map peeling other)) (deep_arms arms each) (deep_block other others))
        (if_becomes place other (front_of (map peeling other)) (front_arms arms each) (front_alone other others));
    cobegin = λ place branches each.
        lone (ap (λ made. made.deep) (peeling_at place (StmtKind-F.Cobegin branches))) (ap (λ made. made.front) (peeling_at place (StmtKind-F.Cobegin branches)))
        (cobegin_becomes place (all_branches branches each)) (cobegin_becomes place (all_branches branches each));
    guarded = λ place guard e body each.
        lone (ap (λ made. made.deep) (peeling_at place (StmtKind-F.When guard e body))) (ap (λ made. made.front) (peeling_at place (StmtKind-F.When guard e body)))
        (when_becomes place guard e body (deep_of (map peeling body)) (deep_block body each))
        (when_becomes place guard e body (front_of (map peeling body)) (front_alone body each));
    repeat = repeat_case;
    until = until_case;
    while = while_case;
    returns = λ place e. itself place (StmtKind-F.Return e) refl refl
        (λ p q. alike_by (plain_statements.returns place p e) (plain_statements.returns place q e) acts_alike);
  }

  each_becomes : (body : List Stmt) → Each P body
  each_becomes body k s lt = induct P cases _

  pub body_becomes : (body : List Stmt) → BlockBecomes H body (peeled body)
  body_becomes body = deep_block body (each_becomes body)

pub peeled_unrolls : PeeledUnrolls
peeled_unrolls i body = body_becomes (λ n s. tt) body 0 0 [] []
