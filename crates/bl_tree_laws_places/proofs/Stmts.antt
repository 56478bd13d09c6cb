-- What is folded over a statement, by what it is with its places mapped.
use Rattle.std.proofs.Common.{◌≡◌, Bool, List, map, refl, ap, ap₂, sym, ◌∙◌}
use Rattle.std.proofs.lemmas.List.{map-id}
use Rattle.bl_tree.specs.declared.place.Place.{Place}
use Rattle.bl_tree.specs.declared.tree.Arm.{Arm, fold-Arm, fold-roll-Arm, fold_out-Arm, out-Arm}
use Rattle.bl_tree.specs.declared.tree.Branch.{Branch, fold-Branch, fold-roll-Branch, fold_out-Branch, out-Branch, roll-Branch}
use Rattle.bl_tree.specs.declared.tree.Expr.{Expr}
use Rattle.bl_tree.specs.declared.tree.Stmt.{Stmt, fold-Stmt, fold-roll-Stmt, fold_out-Stmt, out-Stmt, out-roll-Stmt}
use Rattle.bl_tree.specs.declared.tree.StmtKind.{StmtKind, fold-StmtKind, fold-roll-StmtKind}
use Rattle.bl_tree.specs.declared.tree.StmtKind.TheOpen.{StmtKind-F, Arm-F, Branch-F, Stmt-F}
use Rattle.bl_tree.proofs.StmtInduction.{Cases, Each, EachArm, EachBranch, induct, stmt}
use Rattle.bl_tree_laws_places.specs.Placed.{placed_arm, placed_expr, placed_kind, placed_level, placed_stmt, placed_stmt_layer}
use Rattle.bl_tree_laws_places.proofs.Lists.{map-behind}

-- a layer of a statement where what stands for arms, branches and statements in it is turned
abbrev pub turned : {K A B S : Type 0} → (A → A) → (B → B) → (S → S) → StmtKind-F K A B S → StmtKind-F K A B S
turned arm branch s (StmtKind-F.Declare k initial) = StmtKind-F.Declare k initial
turned arm branch s (StmtKind-F.Assign path e) = StmtKind-F.Assign path e
turned arm branch s (StmtKind-F.Call callee inputs outputs) = StmtKind-F.Call callee inputs outputs
turned arm branch s (StmtKind-F.Await e) = StmtKind-F.Await e
turned arm branch s (StmtKind-F.Run target callee inputs outputs) = StmtKind-F.Run target callee inputs outputs
turned arm branch s (StmtKind-F.If arms other) = StmtKind-F.If (map arm arms) (map s other)
turned arm branch s (StmtKind-F.Cobegin branches) = StmtKind-F.Cobegin (map branch branches)
turned arm branch s (StmtKind-F.When guard e body) = StmtKind-F.When guard e (map s body)
turned arm branch s (StmtKind-F.Repeat body) = StmtKind-F.Repeat (map s body)
turned arm branch s (StmtKind-F.Until body e) = StmtKind-F.Until (map s body) e
turned arm branch s (StmtKind-F.While e body) = StmtKind-F.While e (map s body)
turned arm branch s (StmtKind-F.Return e) = StmtKind-F.Return e

-- a layer where something stands for the arms, branches and statements in it
abbrev pub filled : {K A B S : Type 0} → (Arm → A) → (Branch → B) → (Stmt → S) → StmtKind-F StmtKind Arm Branch Stmt → StmtKind-F K A B S
filled arm branch s (StmtKind-F.Declare k initial) = StmtKind-F.Declare k initial
filled arm branch s (StmtKind-F.Assign path e) = StmtKind-F.Assign path e
filled arm branch s (StmtKind-F.Call callee inputs outputs) = StmtKind-F.Call callee inputs outputs
filled arm branch s (StmtKind-F.Await e) = StmtKind-F.Await e
filled arm branch s (StmtKind-F.Run target callee inputs outputs) = StmtKind-F.Run target callee inputs outputs
filled arm branch s (StmtKind-F.If arms other) = StmtKind-F.If (map arm arms) (map s other)
filled arm branch s (StmtKind-F.Cobegin branches) = StmtKind-F.Cobegin (map branch branches)
filled arm branch s (StmtKind-F.When guard e body) = StmtKind-F.When guard e (map s body)
filled arm branch s (StmtKind-F.Repeat body) = StmtKind-F.Repeat (map s body)
filled arm branch s (StmtKind-F.Until body e) = StmtKind-F.Until (map s body) e
filled arm branch s (StmtKind-F.While e body) = StmtKind-F.While e (map s body)
filled arm branch s (StmtKind-F.Return e) = StmtKind-F.Return e

module _ (f : Place → Place) where
  -- an arm with all places mapped
  abbrev pub armed : Arm → Arm
  armed = fold-Arm StmtKind Arm Branch Stmt (placed_kind f) (placed_arm f) roll-Branch (placed_stmt_layer f)

  -- a branch with all places mapped
  abbrev pub branched : Branch → Branch
  branched = fold-Branch StmtKind Arm Branch Stmt (placed_kind f) (placed_arm f) roll-Branch (placed_stmt_layer f)

  -- a layer with all places mapped
  abbrev pub layered : StmtKind-F StmtKind Arm Branch Stmt → StmtKind-F StmtKind Arm Branch Stmt
  layered layer = placed_level f (turned armed branched (placed_stmt f) layer)

  -- a statement with its places mapped, by its layer
  pub stmt_is : (at : Place) (layer : StmtKind-F StmtKind Arm Branch Stmt) → placed_stmt f (stmt at layer) ≡ stmt (f at) (layered layer)
  stmt_is at (StmtKind-F.Declare k initial) = simp (fold-roll-Stmt, fold-roll-StmtKind) refl
  stmt_is at (StmtKind-F.Assign path e) = simp (fold-roll-Stmt, fold-roll-StmtKind) refl
  stmt_is at (StmtKind-F.Call callee inputs outputs) = simp (fold-roll-Stmt, fold-roll-StmtKind) refl
  stmt_is at (StmtKind-F.Await e) = simp (fold-roll-Stmt, fold-roll-StmtKind) refl
  stmt_is at (StmtKind-F.Run target callee inputs outputs) = simp (fold-roll-Stmt, fold-roll-StmtKind) refl
  stmt_is at (StmtKind-F.If arms other) = simp (fold-roll-Stmt, fold-roll-StmtKind) refl
  stmt_is at (StmtKind-F.Cobegin branches) = simp (fold-roll-Stmt, fold-roll-StmtKind) refl
  stmt_is at (StmtKind-F.When guard e body) = simp (fold-roll-Stmt, fold-roll-StmtKind) refl
  stmt_is at (StmtKind-F.Repeat body) = simp (fold-roll-Stmt, fold-roll-StmtKind) refl
  stmt_is at (StmtKind-F.Until body e) = simp (fold-roll-Stmt, fold-roll-StmtKind) refl
  stmt_is at (StmtKind-F.While e body) = simp (fold-roll-Stmt, fold-roll-StmtKind) refl
  stmt_is at (StmtKind-F.Return e) = simp (fold-roll-Stmt, fold-roll-StmtKind) refl

  -- what a statement does, with all places mapped
  abbrev pub acted : StmtKind → StmtKind
  acted = fold-StmtKind StmtKind Arm Branch Stmt (placed_kind f) (placed_arm f) roll-Branch (placed_stmt_layer f)

  -- a statement with places mapped, by its place and its kind
  pub stmt_out : (s : Stmt) → out-Stmt (placed_stmt f s) ≡ record { place = f (out-Stmt s).place; what = acted (out-Stmt s).what }
  stmt_out s =
      ap out-Stmt (fold_out-Stmt StmtKind Arm Branch Stmt (placed_kind f) (placed_arm f) roll-Branch (placed_stmt_layer f) s)
      ∙ out-roll-Stmt _

  pub stmt_place : (s : Stmt) → (out-Stmt (placed_stmt f s)).place ≡ f (out-Stmt s).place
  stmt_place s = ap (λ layer. layer.place) (stmt_out s)

module _ (K A B S : Type 0) (kind : StmtKind-F K A B S → K) (arm : Arm-F K A B S → A) (branch : Branch-F K A B S → B)
    (whole : Stmt-F K A B S → S) where
  abbrev folded : Stmt → S
  folded = fold-Stmt K A B S kind arm branch whole

  abbrev of_arm : Arm → A
  of_arm = fold-Arm K A B S kind arm branch whole

  abbrev of_branch : Branch → B
  of_branch = fold-Branch K A B S kind arm branch whole

  -- what a statement comes to, by its layer
  pub folded_is : (at : Place) (layer : StmtKind-F StmtKind Arm Branch Stmt) →
      folded (stmt at layer) ≡ whole (record { place = at; what = kind (filled of_arm of_branch folded layer) })
  folded_is at (StmtKind-F.Declare k initial) = simp (fold-roll-Stmt, fold-roll-StmtKind) refl
  folded_is at (StmtKind-F.Assign path e) = simp (fold-roll-Stmt, fold-roll-StmtKind) refl
  folded_is at (StmtKind-F.Call callee inputs outputs) = simp (fold-roll-Stmt, fold-roll-StmtKind) refl
  folded_is at (StmtKind-F.Await e) = simp (fold-roll-Stmt, fold-roll-StmtKind) refl
  folded_is at (StmtKind-F.Run target callee inputs outputs) = simp (fold-roll-Stmt, fold-roll-StmtKind) refl
  folded_is at (StmtKind-F.If arms other) = simp (fold-roll-Stmt, fold-roll-StmtKind) refl
  folded_is at (StmtKind-F.Cobegin branches) = simp (fold-roll-Stmt, fold-roll-StmtKind) refl
  folded_is at (StmtKind-F.When guard e body) = simp (fold-roll-Stmt, fold-roll-StmtKind) refl
  folded_is at (StmtKind-F.Repeat body) = simp (fold-roll-Stmt, fold-roll-StmtKind) refl
  folded_is at (StmtKind-F.Until body e) = simp (fold-roll-Stmt, fold-roll-StmtKind) refl
  folded_is at (StmtKind-F.While e body) = simp (fold-roll-Stmt, fold-roll-StmtKind) refl
  folded_is at (StmtKind-F.Return e) = simp (fold-roll-Stmt, fold-roll-StmtKind) refl

-- a fold that turns with each layer and each place turns with the whole statement
module _ (f : Place → Place) (K A B S : Type 0) (kind : StmtKind-F K A B S → K) (arm : Arm-F K A B S → A) (branch : Branch-F K A B S → B)
    (whole : Stmt-F K A B S → S) (arm_turn : A → A) (branch_turn : B → B) (turn : S → S)
    (by_level : (at : Place) (level : StmtKind-F K A B S) →
    whole (record { place = f at; what = kind (placed_level f (turned arm_turn branch_turn turn level)) })
    ≡ turn (whole (record { place = at; what = kind level })))
    (by_arm : (test : Expr) (body : List S) →
    arm (record { test = placed_expr f test; body = map turn body }) ≡ arm_turn (arm (record { test = test; body = body })))
    (by_branch : (weak : Bool) (body : List S) →
    branch (record { weak = weak; body = map turn body }) ≡ branch_turn (branch (record { weak = weak; body = body }))) where
  abbrev fold_of : Stmt → S
  fold_of = fold-Stmt K A B S kind arm branch whole

  abbrev arm_of : Arm → A
  arm_of = fold-Arm K A B S kind arm branch whole

  abbrev branch_of : Branch → B
  branch_of = fold-Branch K A B S kind arm branch whole

  abbrev Turns : Stmt → Type 0
  Turns s = fold_of (placed_stmt f s) ≡ turn (fold_of s)

  block_turns : (body : List Stmt) → Each Turns body → map fold_of (map (placed_stmt f) body) ≡ map turn (map fold_of body)
  block_turns body h = map-behind fold_of (placed_stmt f) turn body h

  arm_turns : (a : Arm) → Each Turns (out-Arm a).body → arm_of (armed f a) ≡ arm_turn (arm_of a)
  arm_turns a h =
      ap arm_of (fold_out-Arm StmtKind Arm Branch Stmt (placed_kind f) (placed_arm f) roll-Branch (placed_stmt_layer f) a)
      ∙ fold-roll-Arm K A B S kind arm branch whole
      (record { test = placed_expr f (out-Arm a).test; body = map (placed_stmt f) (out-Arm a).body })
      ∙ ap (λ body. arm (record { test = placed_expr f (out-Arm a).test; body = body })) (block_turns (out-Arm a).body h)
      ∙ by_arm (out-Arm a).test (map fold_of (out-Arm a).body)
      ∙ ap arm_turn (sym (fold_out-Arm K A B S kind arm branch whole a))

  branch_turns : (b : Branch) → Each Turns (out-Branch b).body → branch_of (branched f b) ≡ branch_turn (branch_of b)
  branch_turns b h =
      ap branch_of (fold_out-Branch StmtKind Arm Branch Stmt (placed_kind f) (placed_arm f) roll-Branch (placed_stmt_layer f) b)
      ∙ fold-roll-Branch K A B S kind arm branch whole
      (record { weak = (out-Branch b).weak; body = map (placed_stmt f) (out-Branch b).body })
      ∙ ap (λ body. branch (record { weak = (out-Branch b).weak; body = body })) (block_turns (out-Branch b).body h)
      ∙ by_branch (out-Branch b).weak (map fold_of (out-Branch b).body)
      ∙ ap branch_turn (sym (fold_out-Branch K A B S kind arm branch whole b))

  arms_turn : (arms : List Arm) → EachArm Turns arms → map arm_of (map (armed f) arms) ≡ map arm_turn (map arm_of arms)
  arms_turn arms h = map-behind arm_of (armed f) arm_turn arms (λ k d less. arm_turns _ (h k d less))

  branches_turn : (branches : List Branch) → EachBranch Turns branches →
      map branch_of (map (branched f) branches) ≡ map branch_turn (map branch_of branches)
  branches_turn branches h = map-behind branch_of (branched f) branch_turn branches (λ k d less. branch_turns _ (h k d less))

  -- a layer at a place
  abbrev at_level : Place → StmtKind-F K A B S → S
  at_level at level = whole (record { place = at; what = kind level })

  abbrev fill : StmtKind-F StmtKind Arm Branch Stmt → StmtKind-F K A B S
  fill = filled arm_of branch_of fold_of

  -- a statement turns where its layer does
  by_parts : (at : Place) (layer : StmtKind-F StmtKind Arm Branch Stmt) →
      at_level (f at) (fill (layered f layer)) ≡ at_level (f at) (placed_level f (turned arm_turn branch_turn turn (fill layer))) →
      Turns (stmt at layer)
  by_parts at layer h =
      ap fold_of (stmt_is f at layer) ∙ folded_is K A B S kind arm branch whole (f at) (layered f layer) ∙ h ∙ by_level at (fill layer)
      ∙ ap turn (sym (folded_is K A B S kind arm branch whole at layer))

  cases : Cases Turns
  cases = record {
    declare = λ at k initial. by_parts at (StmtKind-F.Declare k initial) refl;
    assign = λ at path e. by_parts at (StmtKind-F.Assign path e) refl;
    call = λ at callee inputs outputs. by_parts at (StmtKind-F.Call callee inputs outputs) refl;
    await = λ at e. by_parts at (StmtKind-F.Await e) refl;
    run = λ at target callee inputs outputs. by_parts at (StmtKind-F.Run target callee inputs outputs) refl;
    branching = λ at arms other h k.
        by_parts at (StmtKind-F.If arms other)
        (ap₂ (λ xs ys. at_level (f at) (StmtKind-F.If xs ys)) (arms_turn arms h) (block_turns other k));
    cobegin = λ at branches h.
        by_parts at (StmtKind-F.Cobegin branches) (ap (λ xs. at_level (f at) (StmtKind-F.Cobegin xs)) (branches_turn branches h));
    guarded = λ at guard e body h.
        by_parts at (StmtKind-F.When guard e body)
        (ap (λ xs. at_level (f at) (StmtKind-F.When guard (placed_expr f e) xs)) (block_turns body h));
    repeat = λ at body h. by_parts at (StmtKind-F.Repeat body) (ap (λ xs. at_level (f at) (StmtKind-F.Repeat xs)) (block_turns body h));
    until = λ at body e h.
        by_parts at (StmtKind-F.Until body e) (ap (λ xs. at_level (f at) (StmtKind-F.Until xs (placed_expr f e))) (block_turns body h));
    while = λ at e body h.
        by_parts at (StmtKind-F.While e body) (ap (λ xs. at_level (f at) (StmtKind-F.While (placed_expr f e) xs)) (block_turns body h));
    returns = λ at e. by_parts at (StmtKind-F.Return e) refl;
  }

  pub stmt_turns : (s : Stmt) → fold_of (placed_stmt f s) ≡ turn (fold_of s)
  stmt_turns = induct Turns cases

  pub stmts_turn : (body : List Stmt) → map fold_of (map (placed_stmt f) body) ≡ map turn (map fold_of body)
  stmts_turn body = block_turns body (λ k d less. stmt_turns _)

-- what is left as it is isn't turned
pub unturned : {K A B S : Type 0} (level : StmtKind-F K A B S) → turned (λ a. a) (λ b. b) (λ s. s) level ≡ level
unturned (StmtKind-F.Declare k initial) = refl
unturned (StmtKind-F.Assign path e) = refl
unturned (StmtKind-F.Call callee inputs outputs) = refl
unturned (StmtKind-F.Await e) = refl
unturned (StmtKind-F.Run target callee inputs outputs) = refl
unturned (StmtKind-F.If arms other) = ap₂ (λ xs ys. StmtKind-F.If xs ys) (map-id arms) (map-id other)
unturned (StmtKind-F.Cobegin branches) = ap StmtKind-F.Cobegin (map-id branches)
unturned (StmtKind-F.When guard e body) = ap (λ xs. StmtKind-F.When guard e xs) (map-id body)
unturned (StmtKind-F.Repeat body) = ap StmtKind-F.Repeat (map-id body)
unturned (StmtKind-F.Until body e) = ap (λ xs. StmtKind-F.Until xs e) (map-id body)
unturned (StmtKind-F.While e body) = ap (λ xs. StmtKind-F.While e xs) (map-id body)
unturned (StmtKind-F.Return e) = refl

-- a fold that looks at no place, nor at what the map of places changes in expressions, stays
module _ (f : Place → Place) (K A B S : Type 0) (kind : StmtKind-F K A B S → K) (arm : Arm-F K A B S → A) (branch : Branch-F K A B S → B)
    (whole : Stmt-F K A B S → S)
    (blind : (p q : Place) (what : K) → whole (record { place = p; what = what }) ≡ whole (record { place = q; what = what }))
    (by_kind : (level : StmtKind-F K A B S) → kind (placed_level f level) ≡ kind level)
    (by_test : (test : Expr) (body : List S) →
    arm (record { test = placed_expr f test; body = body }) ≡ arm (record { test = test; body = body })) where
  pub stmt_stays : (s : Stmt) → fold-Stmt K A B S kind arm branch whole (placed_stmt f s) ≡ fold-Stmt K A B S kind arm branch whole s
  stmt_stays =
      stmt_turns f K A B S kind arm branch whole (λ a. a) (λ b. b) (λ s. s)
      (λ at level. ap (λ l. whole (record { place = f at; what = kind (placed_level f l) })) (unturned level)
      ∙ ap (λ k. whole (record { place = f at; what = k })) (by_kind level) ∙ blind (f at) at (kind level))
      (λ test body. ap (λ xs. arm (record { test = placed_expr f test; body = xs })) (map-id body) ∙ by_test test body)
      (λ weak body. ap (λ xs. branch (record { weak = weak; body = xs })) (map-id body))
