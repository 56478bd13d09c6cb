-- An `if` with an `else` whose parts have their places.
use Rattle.std.proofs.Common.{◌≡◌, List, [], ◌∷◌, ◌++◌, map, Option, Some, refl, sym, ap, subst, ◌∙◌}
use Rattle.std.specs.Prelude.{codes, ◌&&◌}
use Rattle.bl_tree.specs.declared.c.CExpr.{CExpr}
use Rattle.bl_tree.specs.declared.c.CStmt.{CStmt}
use Rattle.bl_tree.specs.declared.c.CStmtKind.{CStmtKind, CStmtKind-F, fold-roll-CStmtKind, roll-CStmtKind}
use Rattle.bl_tree.specs.declared.c.CStmtKind.TheVariants.{If, rolls-If}
use Rattle.bl_tree.specs.Reduce.{all_of}
use Rattle.bl_ctext.specs.Token.{Token}
use Rattle.bl_ctext.specs.Spelling.{braced, expr_tokens, stmt_kind_tokens, stmt_tokens}
use Rattle.bl_ctext.specs.Spellable.{spells_expr, spells_stmt, spells_stmt_kind}
use Rattle.bl_cparse.specs.HasPlaces.{TextSpot, and_then, behind_tokens, else_walk, expr_walk, in_turn, made, next_spot, stmt_kind_walk, stmt_walk}

rolled_walk : (test : CExpr) (block other : List CStmt) (s a b c d e : TextSpot) →
    made (λ t. t) (codes ")" ∷ codes "{" ∷ []) (expr_walk test (behind_tokens (codes "if" ∷ codes "(" ∷ []) s)) ≡ (test, a) →
    made (λ all. all) (codes "}" ∷ []) (in_turn (map stmt_walk block) a) ≡ (block, b) → c ≡ next_spot b → d ≡ next_spot c →
    made (λ all. all) (codes "}" ∷ []) (in_turn (map stmt_walk other) d) ≡ (other, e) →
    stmt_kind_walk (roll-CStmtKind (CStmtKind-F.If test block (Some other))) s ≡ (roll-CStmtKind (CStmtKind-F.If test block (Some other)), e)
rolled_walk test block other s a b c d e front inside first second behind = rw fold-roll-CStmtKind (
    ap (λ walked. and_then (λ (f : CExpr × List CStmt) o. roll-CStmtKind (CStmtKind-F.If f.0 f.1 o))
    (made (λ f. f) (codes "}" ∷ []) (and_then (λ t all. (t, all)) walked (in_turn (map stmt_walk block))))
    (else_walk (Some (map stmt_walk other)))) front
    ∙ (ap (λ walked. and_then (λ (f : CExpr × List CStmt) o. roll-CStmtKind (CStmtKind-F.If f.0 f.1 o)) ((test, walked.0), walked.1)
    (else_walk (Some (map stmt_walk other)))) inside
    ∙ ap (λ walked. (roll-CStmtKind (CStmtKind-F.If test block (Some walked.0)), walked.1))
    (ap (λ spot. made (λ all. all) (codes "}" ∷ []) (in_turn (map stmt_walk other) spot)) (sym (second ∙ ap next_spot first)) ∙ behind)))

pub branches_walk : (test : CExpr) (block other : List CStmt) (s a b c d e : TextSpot) →
    made (λ t. t) (codes ")" ∷ codes "{" ∷ []) (expr_walk test (behind_tokens (codes "if" ∷ codes "(" ∷ []) s)) ≡ (test, a) →
    made (λ all. all) (codes "}" ∷ []) (in_turn (map stmt_walk block) a) ≡ (block, b) → c ≡ next_spot b → d ≡ next_spot c →
    made (λ all. all) (codes "}" ∷ []) (in_turn (map stmt_walk other) d) ≡ (other, e) →
    stmt_kind_walk (If test block (Some other)) s ≡ (If test block (Some other), e)
branches_walk test block other s a b c d e front inside first second behind =
    subst (λ k. stmt_kind_walk k s ≡ (k, e)) (rolls-If test block (Some other)) (rolled_walk test block other s a b c d e front inside first second behind)

abbrev spelled : List Token → List (List Token) → List (List Token) → List Token
spelled test block other = codes "if" ∷ ((codes "(" ∷ (test ++ codes ")" ∷ [])) ++ (braced block ++ codes "else" ∷ braced other))

tokens_level : (test : CExpr) (block other : List CStmt) →
    stmt_kind_tokens (If test block (Some other)) ≡ spelled (expr_tokens test) (map stmt_tokens block) (map stmt_tokens other)
tokens_level test block other = ap stmt_kind_tokens (sym (rolls-If test block (Some other))) ∙ rw fold-roll-CStmtKind refl

spells_level : (test : CExpr) (block other : List CStmt) →
    spells_stmt_kind (If test block (Some other)) ≡ (spells_expr test && (all_of (map spells_stmt block) && all_of (map spells_stmt other)))
spells_level test block other = ap spells_stmt_kind (sym (rolls-If test block (Some other))) ∙ rw fold-roll-CStmtKind refl

module _ (test made_test : CExpr) (block made_block other made_other : List CStmt) (maybe : Option (List CStmt)) (what : CStmtKind)
    (is : what ≡ If test block maybe) (some : maybe ≡ Some other) where
  whole : what ≡ If test block (Some other)
  whole = is ∙ ap (λ o. If test block o) some

  pub branches_tokens : expr_tokens made_test ≡ expr_tokens test → map stmt_tokens made_block ≡ map stmt_tokens block →
      map stmt_tokens made_other ≡ map stmt_tokens other →
      stmt_kind_tokens (If made_test made_block (Some made_other)) ≡ stmt_kind_tokens what
  branches_tokens h k l =
      tokens_level made_test made_block made_other
      ∙ (ap (λ ts. spelled ts (map stmt_tokens made_block) (map stmt_tokens made_other)) h
      ∙ (ap (λ ts. spelled (expr_tokens test) ts (map stmt_tokens made_other)) k
      ∙ (ap (λ ts. spelled (expr_tokens test) (map stmt_tokens block) ts) l ∙ sym (ap stmt_kind_tokens whole ∙ tokens_level test block other))))

  pub branches_spells : spells_expr made_test ≡ spells_expr test → map spells_stmt made_block ≡ map spells_stmt block →
      map spells_stmt made_other ≡ map spells_stmt other →
      spells_stmt_kind (If made_test made_block (Some made_other)) ≡ spells_stmt_kind what
  branches_spells h k l =
      spells_level made_test made_block made_other
      ∙ (ap (λ yes. yes && (all_of (map spells_stmt made_block) && all_of (map spells_stmt made_other))) h
      ∙ (ap (λ answers. spells_expr test && (all_of answers && all_of (map spells_stmt made_other))) k
      ∙ (ap (λ answers. spells_expr test && (all_of (map spells_stmt block) && all_of answers)) l
      ∙ sym (ap spells_stmt_kind whole ∙ spells_level test block other))))
