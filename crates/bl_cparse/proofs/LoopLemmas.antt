-- Loops whose parts have their places.
use Rattle.std.proofs.Common.{◌≡◌, ℕ, List, [], ◌∷◌, ◌++◌, map, sym, ap, subst, ◌∙◌}
use Rattle.std.specs.Prelude.{codes}
use Rattle.bl_tree.specs.declared.c.CExpr.{CExpr}
use Rattle.bl_tree.specs.declared.c.CStmt.{CStmt}
use Rattle.bl_tree.specs.declared.c.CStmtKind.{CStmtKind, CStmtKind-F, fold-roll-CStmtKind, roll-CStmtKind}
use Rattle.bl_tree.specs.declared.c.CStmtKind.TheVariants.{Loop, rolls-Loop}
use Rattle.bl_ctext.specs.Spelling.{turn_counted, turn_declared}
use Rattle.bl_cparse.specs.HasPlaces.{TextSpot, and_then, behind_tokens, expr_walk, in_turn, made, next_spot, stmt_kind_walk, stmt_walk}

pub counted_walk : (turn : List ℕ) (test : CExpr) (s a b d : TextSpot) → a ≡ behind_tokens (turn_declared turn ++ codes "(" ∷ []) s →
    expr_walk test a ≡ (test, b) → d ≡ behind_tokens (codes ")" ∷ turn_counted turn) b →
    made (λ t. t) (codes ")" ∷ turn_counted turn) (expr_walk test (behind_tokens (turn_declared turn ++ codes "(" ∷ []) s)) ≡ (test, d)
counted_walk turn test s a b d front expr end =
    ap (λ spot. made (λ (t : CExpr). t) (codes ")" ∷ turn_counted turn) (expr_walk test spot)) (sym front)
    ∙ (ap (λ walked. made (λ (t : CExpr). t) (codes ")" ∷ turn_counted turn) walked) expr ∙ ap (λ spot. (test, spot)) (sym end))

rolled_turns : (turn : List ℕ) (test : CExpr) (body : List CStmt) (s a b d : TextSpot) →
    made (λ t. t) (codes ")" ∷ turn_counted turn) (expr_walk test (behind_tokens (turn_declared turn ++ codes "(" ∷ []) s)) ≡ (test, a) →
    made (λ all. all) (codes "}" ∷ []) (in_turn (map stmt_walk body) a) ≡ (body, b) → d ≡ next_spot b →
    stmt_kind_walk (roll-CStmtKind (CStmtKind-F.Loop turn test body)) s ≡ (roll-CStmtKind (CStmtKind-F.Loop turn test body), d)
rolled_turns turn test body s a b d front inside end = rw fold-roll-CStmtKind (
    ap (λ walked. made (λ (k : CStmtKind). k) (codes "}" ∷ codes "}" ∷ [])
    (and_then (λ t all. roll-CStmtKind (CStmtKind-F.Loop turn t all)) walked (in_turn (map stmt_walk body)))) front
    ∙ (ap (λ walked. (roll-CStmtKind (CStmtKind-F.Loop turn test walked.0), next_spot walked.1)) inside
    ∙ ap (λ spot. (roll-CStmtKind (CStmtKind-F.Loop turn test body), spot)) (sym end)))

pub turns_walk : (turn : List ℕ) (test : CExpr) (body : List CStmt) (s a b d : TextSpot) →
    made (λ t. t) (codes ")" ∷ turn_counted turn) (expr_walk test (behind_tokens (turn_declared turn ++ codes "(" ∷ []) s)) ≡ (test, a) →
    made (λ all. all) (codes "}" ∷ []) (in_turn (map stmt_walk body) a) ≡ (body, b) → d ≡ next_spot b →
    stmt_kind_walk (Loop turn test body) s ≡ (Loop turn test body, d)
turns_walk turn test body s a b d front inside end =
    subst (λ k. stmt_kind_walk k s ≡ (k, d)) (rolls-Loop turn test body) (rolled_turns turn test body s a b d front inside end)
