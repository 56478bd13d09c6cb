-- The forms in which an `if` and what follows it are written anew.
use Rattle.std.proofs.Common.{◌≡◌, true, false, List, [], ◌∷◌, ◌++◌, map, Option, Some, None, refl, sym, subst, ◌∙◌}
use Rattle.bl_tree.specs.declared.text.Text.{Text}
use Rattle.bl_tree.specs.declared.place.Place.{Place}
use Rattle.bl_tree.specs.declared.c.CExpr.{CExpr}
use Rattle.bl_tree.specs.declared.c.CStmt.{CStmt}
use Rattle.bl_ctext_semantics.specs.Meaning.{Scope}
use Rattle.bl_simplify_laws.specs.Conditions.{RuleTest, TestsAlike}
use Rattle.bl_simplify_laws.specs.Joins.{SameBlocks}
use Rattle.bl_simplify_laws.specs.Known.{filtered}
use Rattle.bl_simplify_laws.specs.Rules.{After, AlikeWhere, Facts, RuleChain, RuleEmpty, RuleForget, RuleIf, RuleReplace, RuleSplit, RuleWeaker}
use Rattle.bl_simplify_laws.specs.Rules.{StmtsAlikeWhere, Weaker}
use Rattle.bl_simplify_laws.specs.Splits.{branch, if_stmt}
use Rattle.bl_simplify_laws.specs.Steps.{without_spots}
use Rattle.bl_simplify_laws.specs.Written.{RuleLoop, loop_stmt, written_in}
use Rattle.bl_simplify_walk.specs.Forms.{FormCopied, FormKept, FormKeptSame, FormSplit, FormSplitSame, FormTurns, KeepsTo, SplitsTo, else_of}
use Rattle.bl_simplify_walk.proofs.OnBlocks.{append-nil}

pub form-copied : FormCopied
form-copied facts block = record { same = λ scope running memory holds. refl }

-- a block that ends in nothing is the block itself
whole : (facts : Facts) (block new : List CStmt) → AlikeWhere facts (block ++ []) new → AlikeWhere facts block new
whole facts block new h = subst (λ b. AlikeWhere facts b new) (append-nil block) h

-- one statement for another, and that one for a third
chained : (facts : Facts) (one middle other : CStmt) → StmtsAlikeWhere facts one middle → StmtsAlikeWhere facts middle other → StmtsAlikeWhere facts one other
chained facts one middle other h k =
    record { same = λ scope running memory holds. h.same scope running memory holds ∙ k.same scope running memory holds }

pub branch-is : (others : List CStmt) → branch (else_of others) ≡ others
branch-is [] = refl
branch-is (s ∷ rest) = refl

module _ (split-rule : RuleSplit) (replace : RuleReplace) (chain : RuleChain) (empty : RuleEmpty) (if-rule : RuleIf)
    (forget : RuleForget) (tested : RuleTest) where
  -- an empty `else` may be absent
  tidied : (facts : Facts) (to : Place) (test : CExpr) (new : List CStmt) →
      AlikeWhere facts (if_stmt to test new (Some []) ∷ []) (if_stmt to test new None ∷ [])
  tidied facts to test new =
      replace facts ([] ∷ []) (if_stmt to test new (Some [])) (if_stmt to test new None) [] []
      (if-rule facts to to test new new (Some []) None (form-copied _ new) (form-copied _ [])) (forget facts (if_stmt to test new (Some []))) (empty _)

  parted : (facts : Facts) (at to : Place) (test : CExpr) (block : List CStmt) (other : Option (List CStmt)) (rest new others : List CStmt) →
      AlikeWhere (filtered facts test true) (block ++ rest) new → AlikeWhere (filtered facts test false) (branch other ++ rest) others →
      AlikeWhere facts (if_stmt at test block other ∷ rest) (if_stmt to test new (else_of others) ∷ [])
  parted facts at to test block other rest new [] h k =
      chain facts _ _ _ (split-rule facts at to test block other rest new [] h k) (tidied facts to test new)
  parted facts at to test block other rest new (s ∷ others) h k = split-rule facts at to test block other rest new (s ∷ others) h k

  pub form-split : FormSplit
  form-split to test new others =
      record {
        alike = λ facts at condition block other rest same h k.
            (tested facts at at condition test block other same).1 rest _ (parted facts at to test block other rest new others h k);
      }

module _ (replace : RuleReplace) (if-rule : RuleIf) (tested : RuleTest) where
  pub form-kept : FormKept
  form-kept to test new others following =
      record {
        alike = λ facts exits at condition block other rest same h k after behind.
            replace facts exits (if_stmt at condition block other) (if_stmt to test new (else_of others)) rest following
            (chained facts (if_stmt at condition block other) (if_stmt at test block other) (if_stmt to test new (else_of others))
            (tested facts at at condition test block other same).0
            (if-rule facts at to test block new other (else_of others) (whole _ block new h)
            (subst (λ o. AlikeWhere (filtered facts test false) (branch other) o) (sym (branch-is others)) (whole _ (branch other) others k))))
            after behind;
      }

-- what does the same everywhere does so where some facts hold
anywhere : (facts : Facts) (one made : List CStmt) → SameBlocks one made → AlikeWhere facts one made
anywhere facts one made same = record { same = λ scope running memory holds. same.same scope memory }

module _ (chain : RuleChain) where
  pub form-split-same : FormSplitSame
  form-split-same test new others one made splits same = record {
    alike = λ facts at condition block other rest tests h k.
        chain facts _ one made (splits.alike facts at condition block other rest tests h k) (anywhere facts one made same);
  }

  pub form-kept-same : FormKeptSame
  form-kept-same test new others after one made keeps same = record {
    alike = λ facts exits at condition block other rest tests h k goes later.
        chain facts _ one made (keeps.alike facts exits at condition block other rest tests h k goes later) (anywhere facts one made same);
  }

module _ (weaker : RuleWeaker) (turned : RuleLoop) where
  pub form-turns : FormTurns
  form-turns facts turns at to turn named condition body new weak h =
      turned facts at to turn named condition body new
      (weaker (filtered (map (without_spots (written_in body)) facts) condition true) turns body new weak (whole turns body new h))
