-- Parts of C trees are the same where their own parts are.
use Rattle.std.proofs.Common.{◌≡◌, sym, ◌∙◌}
use Rattle.bl_tree.specs.declared.c.CCall.{CCall, out-CCall, roll-CCall, roll-out-CCall}
use Rattle.bl_tree.specs.declared.c.CExpr.{CExpr, out-CExpr, roll-CExpr, roll-out-CExpr}
use Rattle.bl_tree.specs.declared.c.CIndex.{CIndex, out-CIndex, roll-CIndex, roll-out-CIndex}
use Rattle.bl_tree.specs.declared.c.CPlace.{CPlace, out-CPlace, roll-CPlace, roll-out-CPlace}
use Rattle.bl_tree.specs.declared.c.CStep.{CStep, out-CStep, roll-CStep, roll-out-CStep}
use Rattle.bl_tree.specs.declared.c.CStmt.{CStmt, out-CStmt, roll-CStmt, roll-out-CStmt}

pub expr_same : (a b : CExpr) → (out-CExpr a).place ≡ (out-CExpr b).place → (out-CExpr a).what ≡ (out-CExpr b).what → a ≡ b
expr_same a b places kinds = sym (roll-out-CExpr a) ∙ ((λ i. roll-CExpr (record { place = places i; what = kinds i })) ∙ roll-out-CExpr b)

pub stmt_same : (a b : CStmt) → (out-CStmt a).place ≡ (out-CStmt b).place → (out-CStmt a).what ≡ (out-CStmt b).what → a ≡ b
stmt_same a b places kinds = sym (roll-out-CStmt a) ∙ ((λ i. roll-CStmt (record { place = places i; what = kinds i })) ∙ roll-out-CStmt b)

pub place_same : (a b : CPlace) → (out-CPlace a).through ≡ (out-CPlace b).through → (out-CPlace a).name ≡ (out-CPlace b).name →
    (out-CPlace a).steps ≡ (out-CPlace b).steps → a ≡ b
place_same a b through names steps =
    sym (roll-out-CPlace a) ∙ ((λ i. roll-CPlace (record { through = through i; name = names i; steps = steps i })) ∙ roll-out-CPlace b)

pub step_same : (a b : CStep) → (out-CStep a).member ≡ (out-CStep b).member → (out-CStep a).index ≡ (out-CStep b).index → a ≡ b
step_same a b members indices = sym (roll-out-CStep a) ∙ ((λ i. roll-CStep (record { member = members i; index = indices i })) ∙ roll-out-CStep b)

pub index_same : (a b : CIndex) → (out-CIndex a).signed ≡ (out-CIndex b).signed → (out-CIndex a).at ≡ (out-CIndex b).at →
    (out-CIndex a).length ≡ (out-CIndex b).length → a ≡ b
index_same a b signs at lengths =
    sym (roll-out-CIndex a) ∙ ((λ i. roll-CIndex (record { signed = signs i; at = at i; length = lengths i })) ∙ roll-out-CIndex b)

pub call_same : (a b : CCall) → (out-CCall a).name ≡ (out-CCall b).name → (out-CCall a).args ≡ (out-CCall b).args → a ≡ b
call_same a b names args = sym (roll-out-CCall a) ∙ ((λ i. roll-CCall (record { name = names i; args = args i })) ∙ roll-out-CCall b)
