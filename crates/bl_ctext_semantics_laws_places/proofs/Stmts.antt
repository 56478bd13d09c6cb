-- What is folded over a statement, by what it is without its places.
use Rattle.std.proofs.Common.{◌≡◌, List, [], ◌∷◌, map, Option, Some, None, refl, ap, ap₂, sym, ◌∙◌}
use Rattle.std.specs.Prelude.{All, option_map}
use Rattle.std.proofs.lemmas.List.{map-id}
use Rattle.std.proofs.lemmas.List.Elements.{All-cons, All-nil}
use Rattle.bl_tree.specs.declared.place.Place.{Place}
use Rattle.bl_tree.specs.declared.c.CExpr.{CExpr}
use Rattle.bl_tree.specs.declared.c.CStmt.{CStmt, fold-CStmt, fold-roll-CStmt}
use Rattle.bl_tree.specs.declared.c.CStmtKind.{CStmtKind, fold-roll-CStmtKind}
use Rattle.bl_tree.specs.declared.c.CStmtKind.TheOpen.{CStmtKind-F, CStmt-F}
use Rattle.bl_ctext_semantics.proofs.Induction.{Optional, StmtCases, induct_stmt, stmt}
use Rattle.bl_cparse_syntax_laws.specs.Placeless.{any_place, placeless_call, placeless_expr, placeless_place, placeless_result, placeless_stmt}
use Rattle.bl_ctext_semantics_laws_places.proofs.Lists.{map-behind}

-- a level of a statement without the places of its expressions, where what stands for the statements in it is turned
abbrev pub level_turned : {A B : Type 0} → (B → B) → CStmtKind-F A B → CStmtKind-F A B
level_turned turned (CStmtKind-F.Set p e) = CStmtKind-F.Set (placeless_place p) (placeless_expr e)
level_turned turned (CStmtKind-F.Clear p name) = CStmtKind-F.Clear (placeless_place p) name
level_turned turned (CStmtKind-F.Call call) = CStmtKind-F.Call (placeless_call call)
level_turned turned (CStmtKind-F.If e block other) = CStmtKind-F.If (placeless_expr e) (map turned block) (option_map (map turned) other)
level_turned turned (CStmtKind-F.Loop turn e body) = CStmtKind-F.Loop turn (placeless_expr e) (map turned body)
level_turned turned CStmtKind-F.Break = CStmtKind-F.Break
level_turned turned (CStmtKind-F.Return e) = CStmtKind-F.Return (placeless_result e)

-- a statement without its places, by its level
bare_is : (at : Place) (level : CStmtKind-F CStmtKind CStmt) → placeless_stmt (stmt at level) ≡ stmt any_place (level_turned placeless_stmt level)
bare_is at (CStmtKind-F.Set p e) = simp (fold-roll-CStmt, fold-roll-CStmtKind) refl
bare_is at (CStmtKind-F.Clear p name) = simp (fold-roll-CStmt, fold-roll-CStmtKind) refl
bare_is at (CStmtKind-F.Call call) = simp (fold-roll-CStmt, fold-roll-CStmtKind) refl
bare_is at (CStmtKind-F.If e block None) = simp (fold-roll-CStmt, fold-roll-CStmtKind) refl
bare_is at (CStmtKind-F.If e block (Some other)) = simp (fold-roll-CStmt, fold-roll-CStmtKind) refl
bare_is at (CStmtKind-F.Loop turn e body) = simp (fold-roll-CStmt, fold-roll-CStmtKind) refl
bare_is at CStmtKind-F.Break = simp (fold-roll-CStmt, fold-roll-CStmtKind) refl
bare_is at (CStmtKind-F.Return None) = simp (fold-roll-CStmt, fold-roll-CStmtKind) refl
bare_is at (CStmtKind-F.Return (Some e)) = simp (fold-roll-CStmt, fold-roll-CStmtKind) refl

-- a level where something stands for the statements in it
abbrev level_mapped : {A B : Type 0} → (CStmt → B) → CStmtKind-F CStmtKind CStmt → CStmtKind-F A B
level_mapped of (CStmtKind-F.Set p e) = CStmtKind-F.Set p e
level_mapped of (CStmtKind-F.Clear p name) = CStmtKind-F.Clear p name
level_mapped of (CStmtKind-F.Call call) = CStmtKind-F.Call call
level_mapped of (CStmtKind-F.If e block other) = CStmtKind-F.If e (map of block) (option_map (map of) other)
level_mapped of (CStmtKind-F.Loop turn e body) = CStmtKind-F.Loop turn e (map of body)
level_mapped of CStmtKind-F.Break = CStmtKind-F.Break
level_mapped of (CStmtKind-F.Return e) = CStmtKind-F.Return e

module _ (A B : Type 0) (kind : CStmtKind-F A B → A) (whole : CStmt-F A B → B) (turned : B → B)
    (by_level : (at : Place) (level : CStmtKind-F A B) →
    whole (record { place = any_place; what = kind (level_turned turned level) }) ≡ turned (whole (record { place = at; what = kind level }))) where
  abbrev folded : CStmt → B
  folded = fold-CStmt A B kind whole

  abbrev Turned : CStmt → Type 0
  Turned s = folded (placeless_stmt s) ≡ turned (folded s)

  -- a level at a place
  abbrev at_level : Place → CStmtKind-F A B → B
  at_level at level = whole (record { place = at; what = kind level })

  folded_is : (at : Place) (level : CStmtKind-F CStmtKind CStmt) → folded (stmt at level) ≡ at_level at (level_mapped folded level)
  folded_is at (CStmtKind-F.Set p e) = simp (fold-roll-CStmt, fold-roll-CStmtKind) refl
  folded_is at (CStmtKind-F.Clear p name) = simp (fold-roll-CStmt, fold-roll-CStmtKind) refl
  folded_is at (CStmtKind-F.Call call) = simp (fold-roll-CStmt, fold-roll-CStmtKind) refl
  folded_is at (CStmtKind-F.If e block None) = simp (fold-roll-CStmt, fold-roll-CStmtKind) refl
  folded_is at (CStmtKind-F.If e block (Some other)) = simp (fold-roll-CStmt, fold-roll-CStmtKind) refl
  folded_is at (CStmtKind-F.Loop turn e body) = simp (fold-roll-CStmt, fold-roll-CStmtKind) refl
  folded_is at CStmtKind-F.Break = simp (fold-roll-CStmt, fold-roll-CStmtKind) refl
  folded_is at (CStmtKind-F.Return None) = simp (fold-roll-CStmt, fold-roll-CStmtKind) refl
  folded_is at (CStmtKind-F.Return (Some e)) = simp (fold-roll-CStmt, fold-roll-CStmtKind) refl

  -- a statement is turned where its level is
  by_parts : (at : Place) (level : CStmtKind-F CStmtKind CStmt) →
      at_level any_place (level_mapped folded (level_turned placeless_stmt level)) ≡ at_level any_place (level_turned turned (level_mapped folded level)) →
      Turned (stmt at level)
  by_parts at level h =
      ap folded (bare_is at level) ∙ folded_is any_place (level_turned placeless_stmt level) ∙ h ∙ by_level at (level_mapped folded level)
      ∙ ap turned (sym (folded_is at level))

  block_turned : (block : List CStmt) → All Turned block → map folded (map placeless_stmt block) ≡ map turned (map folded block)
  block_turned block h = map-behind folded placeless_stmt turned block h

  of_if : (at : Place) (e : CExpr) (block : List CStmt) (other : Option (List CStmt)) → All Turned block → Optional (All Turned) other →
      Turned (stmt at (CStmtKind-F.If e block other))
  of_if at e block None h k =
      by_parts at (CStmtKind-F.If e block None)
      (ap (λ b. at_level any_place (CStmtKind-F.If (placeless_expr e) b None)) (block_turned block h))
  of_if at e block (Some other) h k =
      by_parts at (CStmtKind-F.If e block (Some other))
      (ap₂ (λ b o. at_level any_place (CStmtKind-F.If (placeless_expr e) b (Some o))) (block_turned block h) (block_turned other k))

  cases : StmtCases Turned
  cases = record {
    set = λ at p e. by_parts at (CStmtKind-F.Set p e) refl;
    clear = λ at p name. by_parts at (CStmtKind-F.Clear p name) refl;
    call = λ at c. by_parts at (CStmtKind-F.Call c) refl;
    branching = of_if;
    loop = λ at turn e body h.
        by_parts at (CStmtKind-F.Loop turn e body)
        (ap (λ b. at_level any_place (CStmtKind-F.Loop turn (placeless_expr e) b)) (block_turned body h));
    break = λ at. by_parts at CStmtKind-F.Break refl;
    returns = λ at e. by_parts at (CStmtKind-F.Return e) refl;
  }

  pub stmt_turned : (s : CStmt) → folded (placeless_stmt s) ≡ turned (folded s)
  stmt_turned = induct_stmt Turned cases

  each_turned : (stmts : List CStmt) → All Turned stmts
  each_turned [] = All-nil Turned
  each_turned (s ∷ stmts) = All-cons Turned s stmts (stmt_turned s) (each_turned stmts)

  pub stmts_turned : (stmts : List CStmt) → map folded (map placeless_stmt stmts) ≡ map turned (map folded stmts)
  stmts_turned stmts = block_turned stmts (each_turned stmts)

-- a level without the places of its expressions
abbrev pub level_bare : {A B : Type 0} → CStmtKind-F A B → CStmtKind-F A B
level_bare (CStmtKind-F.Set p e) = CStmtKind-F.Set (placeless_place p) (placeless_expr e)
level_bare (CStmtKind-F.Clear p name) = CStmtKind-F.Clear (placeless_place p) name
level_bare (CStmtKind-F.Call call) = CStmtKind-F.Call (placeless_call call)
level_bare (CStmtKind-F.If e block other) = CStmtKind-F.If (placeless_expr e) block other
level_bare (CStmtKind-F.Loop turn e body) = CStmtKind-F.Loop turn (placeless_expr e) body
level_bare CStmtKind-F.Break = CStmtKind-F.Break
level_bare (CStmtKind-F.Return e) = CStmtKind-F.Return (placeless_result e)

level_unturned : {A B : Type 0} (level : CStmtKind-F A B) → level_turned (λ b. b) level ≡ level_bare level
level_unturned (CStmtKind-F.Set p e) = refl
level_unturned (CStmtKind-F.Clear p name) = refl
level_unturned (CStmtKind-F.Call call) = refl
level_unturned (CStmtKind-F.If e block None) = ap (λ b. CStmtKind-F.If (placeless_expr e) b None) (map-id block)
level_unturned (CStmtKind-F.If e block (Some other)) = ap₂ (λ b o. CStmtKind-F.If (placeless_expr e) b (Some o)) (map-id block) (map-id other)
level_unturned (CStmtKind-F.Loop turn e body) = ap (λ b. CStmtKind-F.Loop turn (placeless_expr e) b) (map-id body)
level_unturned CStmtKind-F.Break = refl
level_unturned (CStmtKind-F.Return e) = refl

-- the same of what is folded with no look at places, and the same without them
module _ (A B : Type 0) (kind : CStmtKind-F A B → A) (whole : CStmt-F A B → B)
    (blind : (p q : Place) (what : A) → whole (record { place = p; what = what }) ≡ whole (record { place = q; what = what }))
    (plain : (level : CStmtKind-F A B) → kind (level_bare level) ≡ kind level) where
  pub stmts_same : (stmts : List CStmt) → map (fold-CStmt A B kind whole) (map placeless_stmt stmts) ≡ map (fold-CStmt A B kind whole) stmts
  stmts_same stmts =
      stmts_turned A B kind whole (λ b. b)
      (λ at level. ap (λ l. whole (record { place = any_place; what = kind l })) (level_unturned level)
      ∙ blind any_place at (kind (level_bare level)) ∙ ap (λ k. whole (record { place = at; what = k })) (plain level)) stmts
      ∙ map-id (map (fold-CStmt A B kind whole) stmts)
