-- What statements become with first turns, where places are mapped.
use Rattle.std.proofs.Common.{◌≡◌, Bool, true, false, ◌||◌, List, [], ◌∷◌, ◌++◌, map, refl, ap, ap₂, sym, ◌∙◌}
use Rattle.std.proofs.lemmas.List.{map-append}
use Rattle.std.specs.Prelude.{if◌then◌else◌}
use Rattle.bl_tree.specs.declared.place.Place.{Place}
use Rattle.bl_tree.specs.declared.tree.Arm.{Arm, fold-roll-Arm}
use Rattle.bl_tree.specs.declared.tree.Branch.{Branch, fold-roll-Branch, roll-Branch}
use Rattle.bl_tree.specs.declared.tree.Expr.{Expr}
use Rattle.bl_tree.specs.declared.tree.Stmt.{Stmt}
use Rattle.bl_tree.specs.declared.tree.StmtKind.{StmtKind}
use Rattle.bl_tree.specs.declared.tree.StmtKind.TheOpen.{StmtKind-F}
use Rattle.bl_tree.specs.Instant.{branches_instant, kind_instant}
use Rattle.bl_tree.specs.Reduce.{all_of, any_of}
use Rattle.bl_tree_laws_places.specs.Placed.{placed_expr, placed_level, placed_stmt}
use Rattle.bl_tree_laws_places.proofs.Exprs.{expr_out}
use Rattle.bl_tree_laws_places.proofs.Lists.{map-behind, map-twice}
use Rattle.bl_tree_laws_places.proofs.Stmts.{armed, branched, layered, stmt_is, stmts_turn, turned}
use Rattle.bl_peel.specs.Peeled.{ArmPeeling, BranchPeeling, Peeling, arm_peeling, branch_peeling, deep_of, front_ends, front_of, instants_within, kind_deep}
use Rattle.bl_peel.specs.Peeled.{kind_front, kind_peeling, made_arm, made_if, made_stmt, peeling, stmt_peeling}
use Rattle.bl_peel_laws_places.specs.Laws.{PeeledBodiesMove}

module _ (f : Place → Place) where
  abbrev each : List Stmt → List Stmt
  each = map (placed_stmt f)

  -- what a statement becomes, with its places mapped
  abbrev moved : Peeling → Peeling
  moved p = record { deep = placed_stmt f p.deep; front = each p.front; instant = p.instant }

  -- what an arm becomes, with its places mapped
  abbrev moved_arm : ArmPeeling → ArmPeeling
  moved_arm p = record { deep = armed f p.deep; front = armed f p.front; instant = p.instant }

  -- what a branch becomes, with its places mapped
  abbrev moved_branch : BranchPeeling → BranchPeeling
  moved_branch p = record { branch = branched f p.branch; ends = p.ends }

  -- ---- what is made

  arm_moves : (test : Expr) (body : List Stmt) → armed f (made_arm test body) ≡ made_arm (placed_expr f test) (each body)
  arm_moves test body = rw fold-roll-Arm refl

  branch_moves : (weak : Bool) (body : List Stmt) →
      branched f (roll-Branch (record { weak = weak; body = body })) ≡ roll-Branch (record { weak = weak; body = each body })
  branch_moves weak body = rw fold-roll-Branch refl

  if_moves : (e : Expr) (body other : List Stmt) → made_if (placed_expr f e) (each body) (each other) ≡ placed_stmt f (made_if e body other)
  if_moves e body other =
      ap₂ (λ place arm. made_stmt place (StmtKind-F.If (arm ∷ []) (each other))) (ap (λ layer. layer.place) (expr_out f e)) (sym (arm_moves e body))
      ∙ sym (stmt_is f _ (StmtKind-F.If (made_arm e body ∷ []) other))

  -- ---- blocks

  deep_moves : (body : List Peeling) → deep_of (map moved body) ≡ each (deep_of body)
  deep_moves body = map-behind (λ (s : Peeling). s.deep) moved (placed_stmt f) body (λ k d less. refl)

  by_flag : (b : Bool) (xs ys zs ws : List Stmt) → xs ≡ each zs → ys ≡ each ws → (if b then xs else ys) ≡ each (if b then zs else ws)
  by_flag true xs ys zs ws one other = one
  by_flag false xs ys zs ws one other = other

  front_moves : (body : List Peeling) → front_of (map moved body) ≡ each (front_of body)
  front_moves [] = refl
  front_moves (s ∷ rest) =
      ap (λ ys. each s.front ++ ys)
      (by_flag s.instant (front_of (map moved rest)) (deep_of (map moved rest)) (front_of rest) (deep_of rest) (front_moves rest) (deep_moves rest))
      ∙ sym (map-append (placed_stmt f) s.front (if s.instant then front_of rest else deep_of rest))

  flags_stay : (body : List Peeling) → map (λ s. s.instant) (map moved body) ≡ map (λ s. s.instant) body
  flags_stay body = map-twice (λ (s : Peeling). s.instant) moved body

  ends_stay : (body : List Peeling) → front_ends (map moved body) ≡ front_ends body
  ends_stay body = ap all_of (flags_stay body)

  -- ---- arms and branches

  arms_deep : (arms : List ArmPeeling) → map (λ arm. arm.deep) (map moved_arm arms) ≡ map (armed f) (map (λ arm. arm.deep) arms)
  arms_deep arms = map-behind (λ (arm : ArmPeeling). arm.deep) moved_arm (armed f) arms (λ k d less. refl)

  arms_front : (arms : List ArmPeeling) → map (λ arm. arm.front) (map moved_arm arms) ≡ map (armed f) (map (λ arm. arm.front) arms)
  arms_front arms = map-behind (λ (arm : ArmPeeling). arm.front) moved_arm (armed f) arms (λ k d less. refl)

  branches_move : (branches : List BranchPeeling) →
      map (λ branch. branch.branch) (map moved_branch branches) ≡ map (branched f) (map (λ branch. branch.branch) branches)
  branches_move branches = map-behind (λ (branch : BranchPeeling). branch.branch) moved_branch (branched f) branches (λ k d less. refl)

  -- ---- statements

  abbrev Layer : Type 0
  Layer = StmtKind-F (Place → Peeling) ArmPeeling BranchPeeling Peeling

  abbrev turn : Layer → Layer
  turn = turned moved_arm moved_branch moved

  kind_deep_moves : (level : Layer) → kind_deep (placed_level f (turn level)) ≡ layered f (kind_deep level)
  kind_deep_moves (StmtKind-F.Declare k initial) = refl
  kind_deep_moves (StmtKind-F.Assign path e) = refl
  kind_deep_moves (StmtKind-F.Call callee inputs outputs) = refl
  kind_deep_moves (StmtKind-F.Await e) = refl
  kind_deep_moves (StmtKind-F.Run target callee inputs outputs) = refl
  kind_deep_moves (StmtKind-F.If arms other) = ap₂ (λ xs ys. StmtKind-F.If xs ys) (arms_deep arms) (deep_moves other)
  kind_deep_moves (StmtKind-F.Cobegin branches) = ap (λ xs. StmtKind-F.Cobegin xs) (branches_move branches)
  kind_deep_moves (StmtKind-F.When guard e body) = ap (λ xs. StmtKind-F.When guard (placed_expr f e) xs) (deep_moves body)
  kind_deep_moves (StmtKind-F.Repeat body) = ap (λ xs. StmtKind-F.Repeat xs) (deep_moves body)
  kind_deep_moves (StmtKind-F.Until body e) = ap (λ xs. StmtKind-F.Until xs (placed_expr f e)) (deep_moves body)
  kind_deep_moves (StmtKind-F.While e body) = ap (λ xs. StmtKind-F.While (placed_expr f e) xs) (deep_moves body)
  kind_deep_moves (StmtKind-F.Return e) = refl

  -- a statement that is made of a layer at a place
  made_moves : (place : Place) (level layer : StmtKind-F StmtKind Arm Branch Stmt) → level ≡ layered f layer →
      made_stmt (f place) level ≡ placed_stmt f (made_stmt place layer)
  made_moves place level layer is = ap (made_stmt (f place)) is ∙ sym (stmt_is f place layer)

  alone : (s t : Stmt) → s ≡ placed_stmt f t → s ∷ [] ≡ each (t ∷ [])
  alone s t is = ap (λ x. x ∷ []) is

  -- a first turn and a statement behind it
  behind : (body : List Peeling) (s t : Stmt) → s ≡ placed_stmt f t → front_of (map moved body) ++ s ∷ [] ≡ each (front_of body ++ t ∷ [])
  behind body s t is =
      ap₂ (λ xs x. xs ++ x ∷ []) (front_moves body) is ∙ sym (map-append (placed_stmt f) (front_of body) (t ∷ []))

  kind_front_moves : (place : Place) (level : Layer) → kind_front (placed_level f (turn level)) (f place) ≡ each (kind_front level place)
  kind_front_moves place (StmtKind-F.Declare k initial) = alone _ _ (made_moves place _ (StmtKind-F.Declare k initial) refl)
  kind_front_moves place (StmtKind-F.Assign path e) = alone _ _ (made_moves place _ (StmtKind-F.Assign path e) refl)
  kind_front_moves place (StmtKind-F.Call callee inputs outputs) = alone _ _ (made_moves place _ (StmtKind-F.Call callee inputs outputs) refl)
  kind_front_moves place (StmtKind-F.Await e) = alone _ _ (made_moves place _ (StmtKind-F.Await e) refl)
  kind_front_moves place (StmtKind-F.Run target callee inputs outputs) =
      alone _ _ (made_moves place _ (StmtKind-F.Run target callee inputs outputs) refl)
  kind_front_moves place (StmtKind-F.If arms other) =
      alone _ _
      (made_moves place _ (StmtKind-F.If (map (λ arm. arm.front) arms) (front_of other))
      (ap₂ (λ xs ys. StmtKind-F.If xs ys) (arms_front arms) (front_moves other)))
  kind_front_moves place (StmtKind-F.Cobegin branches) =
      alone _ _
      (made_moves place _ (StmtKind-F.Cobegin (map (λ branch. branch.branch) branches))
      (ap (λ xs. StmtKind-F.Cobegin xs) (branches_move branches)))
  kind_front_moves place (StmtKind-F.When guard e body) =
      alone _ _
      (made_moves place _ (StmtKind-F.When guard e (front_of body)) (ap (λ xs. StmtKind-F.When guard (placed_expr f e) xs) (front_moves body)))
  kind_front_moves place (StmtKind-F.Repeat body) =
      behind body _ _ (made_moves place _ (StmtKind-F.Repeat (deep_of body)) (ap (λ xs. StmtKind-F.Repeat xs) (deep_moves body)))
  kind_front_moves place (StmtKind-F.Until body e) =
      behind body _ _
      (ap (λ s. made_if (placed_expr f e) [] (s ∷ []))
      (made_moves place (StmtKind-F.Until (deep_of (map moved body)) (placed_expr f e)) (StmtKind-F.Until (deep_of body) e)
      (ap (λ xs. StmtKind-F.Until xs (placed_expr f e)) (deep_moves body)))
      ∙ if_moves e [] (made_stmt place (StmtKind-F.Until (deep_of body) e) ∷ []))
  kind_front_moves place (StmtKind-F.While e body) =
      alone _ _
      (ap (λ xs. made_if (placed_expr f e) xs [])
      (behind body _ _
      (made_moves place (StmtKind-F.While (placed_expr f e) (deep_of (map moved body))) (StmtKind-F.While e (deep_of body))
      (ap (λ xs. StmtKind-F.While (placed_expr f e) xs) (deep_moves body))))
      ∙ if_moves e (front_of body ++ made_stmt place (StmtKind-F.While e (deep_of body)) ∷ []) [])
  kind_front_moves place (StmtKind-F.Return e) = alone _ _ (made_moves place _ (StmtKind-F.Return e) refl)

  instant_stays : (level : Layer) → kind_instant (instants_within (placed_level f (turn level))) ≡ kind_instant (instants_within level)
  instant_stays (StmtKind-F.Declare k initial) = refl
  instant_stays (StmtKind-F.Assign path e) = refl
  instant_stays (StmtKind-F.Call callee inputs outputs) = refl
  instant_stays (StmtKind-F.Await e) = refl
  instant_stays (StmtKind-F.Run target callee inputs outputs) = refl
  instant_stays (StmtKind-F.If arms other) =
      ap₂ (λ xs ys. any_of xs || all_of ys) (map-twice (λ (arm : ArmPeeling). arm.instant) moved_arm arms) (flags_stay other)
  instant_stays (StmtKind-F.Cobegin branches) = ap branches_instant (map-twice (λ (branch : BranchPeeling). branch.ends) moved_branch branches)
  instant_stays (StmtKind-F.When guard e body) = ap all_of (flags_stay body)
  instant_stays (StmtKind-F.Repeat body) = refl
  instant_stays (StmtKind-F.Until body e) = ap all_of (flags_stay body)
  instant_stays (StmtKind-F.While e body) = refl
  instant_stays (StmtKind-F.Return e) = refl

  by_level : (place : Place) (level : Layer) → kind_peeling (placed_level f (turn level)) (f place) ≡ moved (kind_peeling level place)
  by_level place level = λ i. record {
    deep = made_moves place (kind_deep (placed_level f (turn level))) (kind_deep level) (kind_deep_moves level) i;
    front = kind_front_moves place level i;
    instant = instant_stays level i;
  }

  by_arm : (test : Expr) (body : List Peeling) →
      arm_peeling (record { test = placed_expr f test; body = map moved body }) ≡ moved_arm (arm_peeling (record { test = test; body = body }))
  by_arm test body = λ i. record {
    deep = (ap (made_arm (placed_expr f test)) (deep_moves body) ∙ sym (arm_moves test (deep_of body))) i;
    front = (ap (made_arm (placed_expr f test)) (front_moves body) ∙ sym (arm_moves test (front_of body))) i;
    instant = ends_stay body i;
  }

  by_branch : (weak : Bool) (body : List Peeling) →
      branch_peeling (record { weak = weak; body = map moved body }) ≡ moved_branch (branch_peeling (record { weak = weak; body = body }))
  by_branch weak body = λ i. record {
    branch = (ap (λ xs. roll-Branch (record { weak = weak; body = xs })) (front_moves body) ∙ sym (branch_moves weak (front_of body))) i;
    ends = record { weak = weak; instant = ends_stay body i };
  }

  pub peelings_move : (body : List Stmt) → map peeling (each body) ≡ map moved (map peeling body)
  peelings_move =
      stmts_turn f (Place → Peeling) ArmPeeling BranchPeeling Peeling kind_peeling arm_peeling branch_peeling stmt_peeling moved_arm moved_branch moved
      by_level by_arm by_branch

pub peeled_moves : PeeledBodiesMove
peeled_moves f body = ap deep_of (peelings_move f body) ∙ deep_moves f (map peeling body)
