-- The C of a body has no more flags and turns than the body has statements.
use Rattle.std.proofs.Common.{ℕ, ◌+◌, ◌-◌, ◌≤◌, List, [], ◌∷◌, map, length, sym, subst, arith}
use Rattle.std.proofs.lemmas.List.Elements.{All-head, All-tail}
use Rattle.bl_tree.specs.declared.c.CExpr.{CExpr}
use Rattle.bl_tree.specs.declared.c.CStmt.{CStmt}
use Rattle.bl_tree.specs.declared.place.Place.{Place}
use Rattle.bl_tree.specs.declared.tree.Arm.{Arm, fold_out-Arm, out-Arm}
use Rattle.bl_tree.specs.declared.tree.Expr.{Expr}
use Rattle.bl_tree.specs.declared.tree.Stmt.{Stmt, fold-roll-Stmt}
use Rattle.bl_tree.specs.declared.tree.StmtKind.{fold-roll-StmtKind}
use Rattle.bl_tree.specs.declared.tree.StmtKind.TheOpen.{StmtKind-F}
use Rattle.bl_tree.specs.Reduce.{total}
use Rattle.bl_tree.specs.Typing.{TypingContext}
use Rattle.bl_tree.proofs.StmtInduction.{Cases, Each, EachArm, induct, stmt}
use Rattle.bl_limits_measures.specs.Statements.{cell_statements_in, cell_statements_in_arm, cell_statements_in_block, cell_statements_in_branch}
use Rattle.bl_limits_measures.proofs.StatementLemmas.{arm_out}
use Rattle.bl_emit_functions.specs.declared.coded.Free.{Free}
use Rattle.bl_emit_functions.specs.Statements.{ArmCodes, Codes, arm_codes, arms_taken, block_codes, branch_codes, choice_code, codes_of, codes_of_arm}
use Rattle.bl_emit_functions.specs.Statements.{flag_taken, flagged_code, kind_codes, loop_code, stmt_codes, turn_taken}

-- how many numbers are taken
abbrev pub sum : Free → ℕ
sum free = free.flags + free.turns

-- C takes at most so many flags and turns
pub record Takes (n : ℕ) (codes : Codes) : Type 0 where
  pub most : (free : Free) → sum (codes free).free ≤ sum free + n

only_takes : (n : ℕ) (code : List CStmt) → Takes n (λ free. record { code = code; free = free })
only_takes n code = record { most = λ free. omega arith }

nothing_takes : Takes 0 (block_codes [])
nothing_takes = record { most = λ free. omega arith }

then_takes : (n m : ℕ) (codes : Codes) (rest : List Codes) → Takes n codes → Takes m (block_codes rest) →
    Takes (n + m) (block_codes (codes ∷ rest))
then_takes n m codes rest one more = record {
  most = λ free. let a = one.most free in let b = more.most (codes free).free in omega (arith, a, b);
}

more_takes : (n m : ℕ) (codes : Codes) → n ≤ m → Takes n codes → Takes m codes
more_takes n m codes le one = record {
  most = λ free. let a = one.most free in omega (arith, a, le);
}

-- ---- choices

abbrev AllTake : List ℕ → List ArmCodes → Type 0
AllTake [] [] = Unit {0}
AllTake (n ∷ ns) (arm ∷ arms) = Takes n arm.body × AllTake ns arms
AllTake [] (arm ∷ arms) = ⊥
AllTake (n ∷ ns) [] = ⊥

module _ (flag : ℕ) where
  arms_most : (ns : List ℕ) (arms : List ArmCodes) → AllTake ns arms → (free : Free) →
      sum (arms_taken flag arms free).free ≤ sum free + total ns
  arms_most [] [] all free = omega arith
  arms_most [] (arm ∷ arms) all free = absurd all
  arms_most (n ∷ ns) [] all free = absurd all
  arms_most (n ∷ ns) (arm ∷ arms) all free =
      let a = all.0.most free in
      let b : sum (arms_taken flag arms (arm.body free).free).free ≤ sum (arm.body free).free + total ns =
      arms_most ns arms all.1 (arm.body free).free in
      omega (arith, a, b)

flagged_takes : (ns : List ℕ) (m : ℕ) (arms : List ArmCodes) (other : Codes) → AllTake ns arms → Takes m other →
    Takes (1 + (total ns + m)) (flagged_code arms other)
flagged_takes ns m arms other all one = record {
  most = λ free.
      let a = arms_most free.flags ns arms all (flag_taken free) in
      let b = one.most (arms_taken free.flags arms (flag_taken free)).free in
      omega (arith, a, b);
}

choice_takes : (ns : List ℕ) (m : ℕ) (arms : List ArmCodes) (other : Codes) → AllTake ns arms → Takes m other →
    Takes (1 + (total ns + m)) (choice_code arms other)
choice_takes ns m [] other all one =
    let f = flagged_takes ns m [] other all one in record { most = f.most }
choice_takes [] m (arm ∷ []) other all one = absurd all
choice_takes (n ∷ ns) m (arm ∷ []) other all one = record {
  most = λ free. let a = all.0.most free in let b = one.most (arm.body free).free in omega (arith, a, b);
}
choice_takes [] m (arm ∷ second ∷ []) other all one = absurd all
choice_takes (n ∷ []) m (arm ∷ second ∷ []) other all one = absurd all.1
choice_takes (n ∷ k ∷ ns) m (arm ∷ second ∷ []) other all one = record {
  most = λ free.
      let a = all.0.most free in
      let b = all.1.0.most (arm.body free).free in
      let c = one.most (second.body (arm.body free).free).free in
      omega (arith, a, b, c);
}
choice_takes ns m (arm ∷ second ∷ third ∷ rest) other all one =
    let f = flagged_takes ns m (arm ∷ second ∷ third ∷ rest) other all one in record { most = f.most }

-- ---- loops

loop_takes : (n : ℕ) (test : CExpr) (last : List CStmt) (codes : Codes) → Takes n codes →
    Takes (1 + n) (λ free. loop_code free.turns test last (codes (turn_taken free)))
loop_takes n test last codes one = record {
  most = λ free. let a = one.most (turn_taken free) in omega (arith, a);
}

-- ---- all statements

module _ (site : TypingContext) where
  abbrev S : Stmt → Type 0
  S s = Takes (cell_statements_in s) (codes_of site s)

  all_take : (body : List Stmt) → Each S body → Takes (cell_statements_in_block body) (block_codes (map (codes_of site) body))
  all_take [] each = nothing_takes
  all_take (s ∷ body) each =
      then_takes (cell_statements_in s) (cell_statements_in_block body) (codes_of site s) (map (codes_of site) body) (All-head S s body each)
      (all_take body (All-tail S s body each))

  abbrev OfArm : Arm → Type 0
  OfArm arm = Each S (out-Arm arm).body

  arm_takes : (arm : Arm) → OfArm arm → Takes (cell_statements_in_arm arm) (codes_of_arm site arm).body
  arm_takes arm each =
      subst (λ (codes : ArmCodes). Takes (cell_statements_in_arm arm) codes.body)
      (sym (fold_out-Arm Codes ArmCodes Codes Codes (kind_codes site) (arm_codes site) branch_codes stmt_codes arm))
      (subst (λ n. Takes n (block_codes (map (codes_of site) (out-Arm arm).body))) (sym (arm_out arm)) (all_take (out-Arm arm).body each))

  arms_take : (arms : List Arm) → EachArm S arms → AllTake (map cell_statements_in_arm arms) (map (codes_of_arm site) arms)
  arms_take [] each = tt
  arms_take (arm ∷ arms) each =
      (arm_takes arm (All-head OfArm arm arms each), arms_take arms (All-tail OfArm arm arms each))

  branching_takes : (place : Place) (arms : List Arm) (other : List Stmt) → EachArm S arms → Each S other →
      S (stmt place (StmtKind-F.If arms other))
  branching_takes place arms other each others =
      let all : ℕ = length (map cell_statements_in_arm arms) - 1 in
      rw (fold-roll-Stmt, fold-roll-StmtKind, fold-roll-Stmt, fold-roll-StmtKind)
      (more_takes (1 + (total (map cell_statements_in_arm arms) + cell_statements_in_block other))
      (1 + (length (map cell_statements_in_arm arms) - 1) + total (map cell_statements_in_arm arms) + total (map cell_statements_in other))
      (choice_code (map (codes_of_arm site) arms) (block_codes (map (codes_of site) other))) (roomy all (total (map cell_statements_in_arm arms))
      (cell_statements_in_block other))
      (choice_takes (map cell_statements_in_arm arms) (cell_statements_in_block other) (map (codes_of_arm site) arms) (block_codes (map (codes_of site) other))
      (arms_take arms each) (all_take other others)))
    where
      roomy : (a b c : ℕ) → 1 + (b + c) ≤ 1 + a + b + c
      roomy a b c = omega arith

  repeat_takes : (place : Place) (body : List Stmt) → Each S body → S (stmt place (StmtKind-F.Repeat body))
  repeat_takes place body each =
      rw (fold-roll-Stmt, fold-roll-StmtKind, fold-roll-Stmt, fold-roll-StmtKind)
      (loop_takes (cell_statements_in_block body) _ _ (block_codes (map (codes_of site) body)) (all_take body each))

  until_takes : (place : Place) (body : List Stmt) (e : Expr) → Each S body → S (stmt place (StmtKind-F.Until body e))
  until_takes place body e each =
      rw (fold-roll-Stmt, fold-roll-StmtKind, fold-roll-Stmt, fold-roll-StmtKind)
      (loop_takes (cell_statements_in_block body) _ _ (block_codes (map (codes_of site) body)) (all_take body each))

  while_takes : (place : Place) (e : Expr) (body : List Stmt) → Each S body → S (stmt place (StmtKind-F.While e body))
  while_takes place e body each =
      rw (fold-roll-Stmt, fold-roll-StmtKind, fold-roll-Stmt, fold-roll-StmtKind)
      (loop_takes (cell_statements_in_block body) _ _ (block_codes (map (codes_of site) body)) (all_take body each))

  cases : Cases S
  cases = record {
    declare = λ place k initial. rw (fold-roll-Stmt, fold-roll-StmtKind, fold-roll-Stmt, fold-roll-StmtKind) (only_takes 1 _);
    assign = λ place path e. rw (fold-roll-Stmt, fold-roll-StmtKind, fold-roll-Stmt, fold-roll-StmtKind) (only_takes 1 _);
    call = λ place f inputs outputs. rw (fold-roll-Stmt, fold-roll-StmtKind, fold-roll-Stmt, fold-roll-StmtKind) (only_takes 1 _);
    await = λ place e. rw (fold-roll-Stmt, fold-roll-StmtKind, fold-roll-Stmt, fold-roll-StmtKind) (only_takes 1 _);
    run = λ place target a inputs outputs. rw (fold-roll-Stmt, fold-roll-StmtKind, fold-roll-Stmt, fold-roll-StmtKind) (only_takes 1 _);
    branching = branching_takes;
    cobegin = λ place branches each.
        rw (fold-roll-Stmt, fold-roll-StmtKind, fold-roll-Stmt, fold-roll-StmtKind) (only_takes (1 + total (map cell_statements_in_branch branches)) _);
    guarded = λ place guard e body each.
        rw (fold-roll-Stmt, fold-roll-StmtKind, fold-roll-Stmt, fold-roll-StmtKind) (only_takes (1 + cell_statements_in_block body) _);
    repeat = repeat_takes;
    until = until_takes;
    while = while_takes;
    returns = λ place e. rw (fold-roll-Stmt, fold-roll-StmtKind, fold-roll-Stmt, fold-roll-StmtKind) (only_takes 1 _);
  }

  -- the C of a body takes no more flags and turns than it has statements
  pub body_takes : (body : List Stmt) → Takes (cell_statements_in_block body) (block_codes (map (codes_of site) body))
  body_takes body = all_take body (λ k d within. induct S cases _)
