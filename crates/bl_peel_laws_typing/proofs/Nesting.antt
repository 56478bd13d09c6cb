-- Peeled bodies nest at most twice as deep as their sources.
use Rattle.std.proofs.Common.{◌≡◌, ℕ, ◌+◌, ◌*◌, ◌≤◌, max, Bool, true, List, [], ◌∷◌, ◌++◌, map, refl, ap, ◌∙◌, arith}
use Rattle.std.specs.Prelude.{nat_le}
use Rattle.std.proofs.lemmas.Bool.{le-leb, leb-true}
use Rattle.std.proofs.lemmas.List.{map-append}
use Rattle.std.proofs.lemmas.Bool.{and_from}
use Rattle.bl_tree.proofs.Basics.{and_first, and_second, at_most_itself}
use Rattle.bl_tree.specs.declared.place.Place.{Place}
use Rattle.bl_tree.specs.declared.tree.Arm.{Arm, fold-Arm, fold-roll-Arm}
use Rattle.bl_tree.specs.declared.tree.Branch.{Branch, fold-Branch, fold-roll-Branch}
use Rattle.bl_tree.specs.declared.tree.Expr.{Expr}
use Rattle.bl_tree.specs.declared.tree.Stmt.{Stmt, fold-roll-Stmt}
use Rattle.bl_tree.specs.declared.tree.StmtKind.{StmtKind, fold-StmtKind, fold-roll-StmtKind}
use Rattle.bl_tree.specs.declared.tree.StmtKind.TheFolds.{map-StmtKind}
use Rattle.bl_tree.specs.declared.tree.StmtKind.TheOpen.{StmtKind-F}
use Rattle.bl_tree.specs.Depths.{Depth, arm_depth, branch_depth, depth_of, expr_depth, of_all, stmt_kind_depth, stmt_layer_depth}
use Rattle.bl_tree.specs.Reduce.{greatest}
use Rattle.bl_tree.proofs.ReduceLemmas.{greatest-append}
use Rattle.bl_tree.proofs.StmtInduction.{stmt}
use Rattle.bl_peel.specs.Peeled.{made_arm, made_if, peeled, place_of_expr}
use Rattle.bl_peel.proofs.Equations.{made_branch}
use Rattle.bl_peel_laws_typing.specs.Typing.{PeeledIsShallow}
use Rattle.bl_peel_laws_typing.proofs.Copying.{ArmsCopy, BranchesCopy, Copies, body_copied, more_arms, more_branches, no_arms, no_branches}

-- ---- how deep statements, arms and branches are

abbrev depth_of_kind : StmtKind → Depth
depth_of_kind = fold-StmtKind Depth Depth Depth Depth stmt_kind_depth arm_depth branch_depth stmt_layer_depth

abbrev depth_of_arm : Arm → Depth
depth_of_arm = fold-Arm Depth Depth Depth Depth stmt_kind_depth arm_depth branch_depth stmt_layer_depth

abbrev depth_of_branch : Branch → Depth
depth_of_branch = fold-Branch Depth Depth Depth Depth stmt_kind_depth arm_depth branch_depth stmt_layer_depth

abbrev depth_parts : StmtKind-F StmtKind Arm Branch Stmt → StmtKind-F Depth Depth Depth Depth
depth_parts = map-StmtKind StmtKind Arm Branch Stmt Depth Depth Depth Depth depth_of_kind depth_of_arm depth_of_branch depth_of

depth_at : (place : Place) (layer : StmtKind-F StmtKind Arm Branch Stmt) → depth_of (stmt place layer) ≡ stmt_kind_depth (depth_parts layer)
depth_at place layer = rw (fold-roll-Stmt, fold-roll-StmtKind) refl

abbrev blocks_of : List Stmt → ℕ
blocks_of body = (of_all (map depth_of body)).blocks

abbrev exprs_of : List Stmt → ℕ
exprs_of body = (of_all (map depth_of body)).exprs

arm_is : (e : Expr) (body : List Stmt) → depth_of_arm (made_arm e body)
    ≡ record { blocks = 1 + blocks_of body; exprs = max (expr_depth e) (exprs_of body) }
arm_is e body = rw fold-roll-Arm refl

branch_is : (weak : Bool) (body : List Stmt) → depth_of_branch (made_branch weak body)
    ≡ record { blocks = 1 + blocks_of body; exprs = max 0 (exprs_of body) }
branch_is weak body = rw fold-roll-Branch refl

-- the depths of a block of one statement
blocks_at : (place : Place) (layer : StmtKind-F StmtKind Arm Branch Stmt) →
    blocks_of (stmt place layer ∷ []) ≡ max (stmt_kind_depth (depth_parts layer)).blocks 0
blocks_at place layer = ap (λ (depth : Depth). max depth.blocks 0) (depth_at place layer)

exprs_at : (place : Place) (layer : StmtKind-F StmtKind Arm Branch Stmt) →
    exprs_of (stmt place layer ∷ []) ≡ max (stmt_kind_depth (depth_parts layer)).exprs 0
exprs_at place layer = ap (λ (depth : Depth). max depth.exprs 0) (depth_at place layer)

depths_join : (part : Depth → ℕ) (a b : List Stmt) →
    greatest (map part (map depth_of (a ++ b))) ≡ max (greatest (map part (map depth_of a))) (greatest (map part (map depth_of b)))
depths_join part a b =
    ap (λ depths. greatest (map part depths)) (map-append depth_of a b)
    ∙ ap greatest (map-append part (map depth_of a) (map depth_of b))
    ∙ greatest-append (map part (map depth_of a)) (map part (map depth_of b))

blocks_join : (a b : List Stmt) → blocks_of (a ++ b) ≡ max (blocks_of a) (blocks_of b)
blocks_join = depths_join (λ (depth : Depth). depth.blocks)

exprs_join : (a b : List Stmt) → exprs_of (a ++ b) ≡ max (exprs_of a) (exprs_of b)
exprs_join = depths_join (λ (depth : Depth). depth.exprs)

-- an `if` that is made of the test of a loop
test_blocks : (e : Expr) (body other : List Stmt) → (depth_of (made_if e body other)).blocks ≡ max (1 + blocks_of other) (max (1 + blocks_of body) 0)
test_blocks e body other =
    ap (λ (depth : Depth). depth.blocks) (depth_at (place_of_expr e) (StmtKind-F.If (made_arm e body ∷ []) other))
    ∙ ap (λ (arm : Depth). max (1 + blocks_of other) (max arm.blocks 0)) (arm_is e body)

test_exprs : (e : Expr) (body other : List Stmt) → (depth_of (made_if e body other)).exprs
    ≡ max (max 0 (exprs_of other)) (max (max (expr_depth e) (exprs_of body)) 0)
test_exprs e body other =
    ap (λ (depth : Depth). depth.exprs) (depth_at (place_of_expr e) (StmtKind-F.If (made_arm e body ∷ []) other))
    ∙ ap (λ (arm : Depth). max (max 0 (exprs_of other)) (max arm.exprs 0)) (arm_is e body)

-- ---- numbers

twice_same : (n : ℕ) → n ≤ 2 * n
twice_same n = omega arith

twice_both : (a b c d : ℕ) → b ≤ 2 * a → d ≤ 2 * c → max b d ≤ 2 * max a c
twice_both a b c d one other = grind arith

both_most : (a b c d : ℕ) → b ≤ a → d ≤ c → max b d ≤ max a c
both_most a b c d one other = grind arith

-- one number in place of another, on either side
by_values : (a b c d : ℕ) → a ≡ c → b ≡ d → d ≤ c → b ≤ a
by_values a b c d one other most = omega arith

by_twice : (a b c d : ℕ) → a ≡ c → b ≡ d → d ≤ 2 * c → b ≤ 2 * a
by_twice a b c d one other most = omega arith

twice_block : (a b : ℕ) → b ≤ 2 * a → max (1 + b) 0 ≤ 2 * max (1 + a) 0
twice_block a b most = grind arith

headed : (e a b : ℕ) → b ≤ a → max (max e b) 0 ≤ max (max e a) 0
headed e a b most = grind arith

twice_choice : (a b c d : ℕ) → b ≤ 2 * a → d ≤ 2 * c → max (max (1 + b) d) 0 ≤ 2 * max (max (1 + a) c) 0
twice_choice a b c d one other = grind arith

choice : (a b c d : ℕ) → b ≤ a → d ≤ c → max (max (max 0 b) d) 0 ≤ max (max (max 0 a) c) 0
choice a b c d one other = grind arith

twice_alone : (a b : ℕ) → b ≤ 2 * a → max b 0 ≤ 2 * max a 0
twice_alone a b most = grind arith

alone_most : (a b : ℕ) → b ≤ a → max b 0 ≤ max a 0
alone_most a b most = grind arith

twice_repeat : (a b c : ℕ) → b ≤ 2 * a → c ≤ 2 * a → max b (max (1 + c) 0) ≤ 2 * max (1 + a) 0
twice_repeat a b c first rest = grind arith

repeat_most : (a b c : ℕ) → b ≤ a → c ≤ a → max b (max (max 0 c) 0) ≤ max (max 0 a) 0
repeat_most a b c first rest = grind arith

twice_until : (a b c : ℕ) → b ≤ 2 * a → c ≤ 2 * a → max b (max (max (1 + max (1 + c) 0) (max (1 + 0) 0)) 0) ≤ 2 * max (1 + a) 0
twice_until a b c first rest = grind arith

until_most : (e a b c : ℕ) → b ≤ a → c ≤ a →
    max b (max (max (max 0 (max (max e c) 0)) (max (max e 0) 0)) 0) ≤ max (max e a) 0
until_most e a b c first rest = grind arith

twice_while : (a b c : ℕ) → b ≤ 2 * a → c ≤ 2 * a → max (max (1 + 0) (max (1 + max b (max (1 + c) 0)) 0)) 0 ≤ 2 * max (1 + a) 0
twice_while a b c first rest = grind arith

while_most : (e a b c : ℕ) → b ≤ a → c ≤ a →
    max (max (max 0 0) (max (max e (max b (max (max e c) 0))) 0)) 0 ≤ max (max e a) 0
while_most e a b c first rest = grind arith

-- ---- what nests at most twice as deep

pub record TwiceAsDeep (a b : Depth) : Type 0 where
  pub blocks : b.blocks ≤ 2 * a.blocks
  pub exprs : b.exprs ≤ a.exprs

abbrev NestedTwice : List Stmt → List Stmt → Type 0
NestedTwice a b = TwiceAsDeep (of_all (map depth_of a)) (of_all (map depth_of b))

-- a block of one statement and what it becomes
nested_at : (place : Place) (one other : StmtKind-F StmtKind Arm Branch Stmt) →
    max (stmt_kind_depth (depth_parts other)).blocks 0 ≤ 2 * max (stmt_kind_depth (depth_parts one)).blocks 0 →
    max (stmt_kind_depth (depth_parts other)).exprs 0 ≤ max (stmt_kind_depth (depth_parts one)).exprs 0 →
    NestedTwice (stmt place one ∷ []) (stmt place other ∷ [])
nested_at place one other blocks exprs = record {
  blocks = by_twice _ _ _ _ (blocks_at place one) (blocks_at place other) blocks;
  exprs = by_values _ _ _ _ (exprs_at place one) (exprs_at place other) exprs;
}

arms_nested : {arms others : List Arm} → ArmsCopy NestedTwice arms others →
    TwiceAsDeep (of_all (map depth_of_arm arms)) (of_all (map depth_of_arm others))
arms_nested no_arms = record { blocks = twice_same 0; exprs = at_most_itself 0 }
arms_nested (more_arms e a b {arms} {others} one more) = record {
  blocks = by_twice _ _ _ _
      (ap (λ (arm : Depth). max arm.blocks (of_all (map depth_of_arm arms)).blocks) (arm_is e a))
      (ap (λ (arm : Depth). max arm.blocks (of_all (map depth_of_arm others)).blocks) (arm_is e b))
      (first (blocks_of a) (blocks_of b) (of_all (map depth_of_arm arms)).blocks (of_all (map depth_of_arm others)).blocks one.blocks
      (arms_nested more).blocks);
  exprs = by_values _ _ _ _
      (ap (λ (arm : Depth). max arm.exprs (of_all (map depth_of_arm arms)).exprs) (arm_is e a))
      (ap (λ (arm : Depth). max arm.exprs (of_all (map depth_of_arm others)).exprs) (arm_is e b))
      (both_most _ _ _ _ (both_most _ _ _ _ (at_most_itself (expr_depth e)) one.exprs) (arms_nested more).exprs);
}
  where
    first : (n m k l : ℕ) → m ≤ 2 * n → l ≤ 2 * k → max (1 + m) l ≤ 2 * max (1 + n) k
    first n m k l most rest = grind arith

branches_nested : {branches others : List Branch} → BranchesCopy NestedTwice branches others →
    TwiceAsDeep (of_all (map depth_of_branch branches)) (of_all (map depth_of_branch others))
branches_nested no_branches = record { blocks = twice_same 0; exprs = at_most_itself 0 }
branches_nested (more_branches weak a b {branches} {others} one more) = record {
  blocks = by_twice _ _ _ _
      (ap (λ (branch : Depth). max branch.blocks (of_all (map depth_of_branch branches)).blocks) (branch_is weak a))
      (ap (λ (branch : Depth). max branch.blocks (of_all (map depth_of_branch others)).blocks) (branch_is weak b))
      (first (blocks_of a) (blocks_of b) (of_all (map depth_of_branch branches)).blocks (of_all (map depth_of_branch others)).blocks one.blocks
      (branches_nested more).blocks);
  exprs = by_values _ _ _ _
      (ap (λ (branch : Depth). max branch.exprs (of_all (map depth_of_branch branches)).exprs) (branch_is weak a))
      (ap (λ (branch : Depth). max branch.exprs (of_all (map depth_of_branch others)).exprs) (branch_is weak b))
      (both_most _ _ _ _ (both_most _ _ _ _ (at_most_itself 0) one.exprs) (branches_nested more).exprs);
}
  where
    first : (n m k l : ℕ) → m ≤ 2 * n → l ≤ 2 * k → max (1 + m) l ≤ 2 * max (1 + n) k
    first n m k l most rest = grind arith

repeat_nested : (place : Place) (a b c : List Stmt) → NestedTwice a b → NestedTwice a c →
    NestedTwice (stmt place (StmtKind-F.Repeat a) ∷ []) (b ++ stmt place (StmtKind-F.Repeat c) ∷ [])
repeat_nested place a b c first rest = record {
  blocks = by_twice _ _ _ _ (blocks_at place (StmtKind-F.Repeat a))
      (blocks_join b (stmt place (StmtKind-F.Repeat c) ∷ []) ∙ ap (max (blocks_of b)) (blocks_at place (StmtKind-F.Repeat c)))
      (twice_repeat (blocks_of a) (blocks_of b) (blocks_of c) first.blocks rest.blocks);
  exprs = by_values _ _ _ _ (exprs_at place (StmtKind-F.Repeat a))
      (exprs_join b (stmt place (StmtKind-F.Repeat c) ∷ []) ∙ ap (max (exprs_of b)) (exprs_at place (StmtKind-F.Repeat c)))
      (repeat_most (exprs_of a) (exprs_of b) (exprs_of c) first.exprs rest.exprs);
}

until_nested : (place : Place) (e : Expr) (a b c : List Stmt) → NestedTwice a b → NestedTwice a c →
    NestedTwice (stmt place (StmtKind-F.Until a e) ∷ []) (b ++ made_if e [] (stmt place (StmtKind-F.Until c e) ∷ []) ∷ [])
until_nested place e a b c first rest = record {
  blocks = by_twice _ _ _ _ (blocks_at place (StmtKind-F.Until a e))
      (blocks_join b (made_if e [] (stmt place (StmtKind-F.Until c e) ∷ []) ∷ [])
      ∙ ap (λ n. max (blocks_of b) (max n 0)) (test_blocks e [] (stmt place (StmtKind-F.Until c e) ∷ []))
      ∙ ap (λ n. max (blocks_of b) (max (max (1 + n) (max (1 + 0) 0)) 0)) (blocks_at place (StmtKind-F.Until c e)))
      (twice_until (blocks_of a) (blocks_of b) (blocks_of c) first.blocks rest.blocks);
  exprs = by_values _ _ _ _ (exprs_at place (StmtKind-F.Until a e))
      (exprs_join b (made_if e [] (stmt place (StmtKind-F.Until c e) ∷ []) ∷ [])
      ∙ ap (λ n. max (exprs_of b) (max n 0)) (test_exprs e [] (stmt place (StmtKind-F.Until c e) ∷ []))
      ∙ ap (λ n. max (exprs_of b) (max (max (max 0 n) (max (max (expr_depth e) 0) 0)) 0)) (exprs_at place (StmtKind-F.Until c e)))
      (until_most (expr_depth e) (exprs_of a) (exprs_of b) (exprs_of c) first.exprs rest.exprs);
}

while_nested : (place : Place) (e : Expr) (a b c : List Stmt) → NestedTwice a b → NestedTwice a c →
    NestedTwice (stmt place (StmtKind-F.While e a) ∷ []) (made_if e (b ++ stmt place (StmtKind-F.While e c) ∷ []) [] ∷ [])
while_nested place e a b c first rest = record {
  blocks = by_twice _ _ _ _ (blocks_at place (StmtKind-F.While e a))
      (ap (λ n. max n 0) (test_blocks e (b ++ stmt place (StmtKind-F.While e c) ∷ []) [])
      ∙ ap (λ n. max (max (1 + 0) (max (1 + n) 0)) 0)
      (blocks_join b (stmt place (StmtKind-F.While e c) ∷ []) ∙ ap (max (blocks_of b)) (blocks_at place (StmtKind-F.While e c))))
      (twice_while (blocks_of a) (blocks_of b) (blocks_of c) first.blocks rest.blocks);
  exprs = by_values _ _ _ _ (exprs_at place (StmtKind-F.While e a))
      (ap (λ n. max n 0) (test_exprs e (b ++ stmt place (StmtKind-F.While e c) ∷ []) [])
      ∙ ap (λ n. max (max (max 0 0) (max (max (expr_depth e) n) 0)) 0)
      (exprs_join b (stmt place (StmtKind-F.While e c) ∷ []) ∙ ap (max (exprs_of b)) (exprs_at place (StmtKind-F.While e c))))
      (while_most (expr_depth e) (exprs_of a) (exprs_of b) (exprs_of c) first.exprs rest.exprs);
}

nested_copies : Copies NestedTwice
nested_copies = record {
  same = λ body. record { blocks = twice_same (blocks_of body); exprs = at_most_itself (exprs_of body) };
  append = λ a b c d one other. record {
    blocks = by_twice _ _ _ _ (blocks_join a c) (blocks_join b d) (twice_both (blocks_of a) (blocks_of b) (blocks_of c) (blocks_of d) one.blocks other.blocks);
    exprs = by_values _ _ _ _ (exprs_join a c) (exprs_join b d) (both_most (exprs_of a) (exprs_of b) (exprs_of c) (exprs_of d) one.exprs other.exprs);
  };
  branching = λ place arms others a b in_arms same.
      nested_at place (StmtKind-F.If arms a) (StmtKind-F.If others b)
      (twice_choice (blocks_of a) (blocks_of b) _ _ same.blocks (arms_nested in_arms).blocks)
      (choice (exprs_of a) (exprs_of b) _ _ same.exprs (arms_nested in_arms).exprs);
  cobegin = λ place branches others each.
      nested_at place (StmtKind-F.Cobegin branches) (StmtKind-F.Cobegin others) (twice_alone _ _ (branches_nested each).blocks)
      (alone_most _ _ (branches_nested each).exprs);
  guarded = λ place guard e a b same.
      nested_at place (StmtKind-F.When guard e a) (StmtKind-F.When guard e b) (twice_block (blocks_of a) (blocks_of b) same.blocks)
      (headed (expr_depth e) (exprs_of a) (exprs_of b) same.exprs);
  repeat = λ place a b same.
      nested_at place (StmtKind-F.Repeat a) (StmtKind-F.Repeat b) (twice_block (blocks_of a) (blocks_of b) same.blocks)
      (headed 0 (exprs_of a) (exprs_of b) same.exprs);
  until = λ place e a b same.
      nested_at place (StmtKind-F.Until a e) (StmtKind-F.Until b e) (twice_block (blocks_of a) (blocks_of b) same.blocks)
      (headed (expr_depth e) (exprs_of a) (exprs_of b) same.exprs);
  while = λ place e a b same.
      nested_at place (StmtKind-F.While e a) (StmtKind-F.While e b) (twice_block (blocks_of a) (blocks_of b) same.blocks)
      (headed (expr_depth e) (exprs_of a) (exprs_of b) same.exprs);
  repeat_turn = repeat_nested;
  until_turn = until_nested;
  while_turn = while_nested;
}

-- ---- limits

within_twice : (most a b : ℕ) → b ≤ 2 * a → nat_le (1 + a) most ≡ true → nat_le (1 + b) (2 * most) ≡ true
within_twice most a b deep within = let less : 1 + a ≤ most = leb-true (1 + a) most within in le-leb (1 + b) (2 * most) (omega arith)

within : (most a b : ℕ) → b ≤ a → nat_le a most ≡ true → nat_le b most ≡ true
within most a b deep is = let less : a ≤ most = leb-true a most is in le-leb b most (omega arith)

pub peeled_is_shallow : PeeledIsShallow
peeled_is_shallow most body shallow =
    let deep = body_copied NestedTwice nested_copies body in
    and_from (nat_le (1 + blocks_of (peeled body)) (2 * most)) (nat_le (exprs_of (peeled body)) 200)
    (within_twice most (blocks_of body) (blocks_of (peeled body)) deep.blocks
    (and_first (nat_le (1 + blocks_of body) most) (nat_le (exprs_of body) 200) shallow))
    (within 200 (exprs_of body) (exprs_of (peeled body)) deep.exprs
    (and_second (nat_le (1 + blocks_of body) most) (nat_le (exprs_of body) 200) shallow))
