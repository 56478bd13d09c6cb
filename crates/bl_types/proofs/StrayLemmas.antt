-- The `return` statements of a body, part by part.
use Rattle.std.proofs.Common.{◌≡◌, ℕ, zero, suc, true, false, List, [], ◌∷◌, ◌++◌, map, drop, length, refl, sym, ap, ◌∙◌, arith}
use Rattle.std.specs.Prelude.{nat_lt}
use Rattle.std.proofs.lemmas.Bool.Decides.{nat_tests}
use Rattle.bl_tree.specs.declared.place.Place.{Place}
use Rattle.bl_tree.specs.declared.rule.Failure.{Failure}
use Rattle.bl_tree.specs.Reduce.{joined}
use Rattle.bl_tree.specs.Typing.{is_inhabited}
use Rattle.bl_names_tree.specs.declared.stmt.NamedArm.{NamedArm, fold_out-NamedArm, out-NamedArm}
use Rattle.bl_names_tree.specs.declared.stmt.NamedBranch.{NamedBranch, fold_out-NamedBranch, out-NamedBranch}
use Rattle.bl_names_tree.specs.declared.stmt.NamedStmt.{NamedStmt, fold_out-NamedStmt, out-NamedStmt}
use Rattle.bl_names_tree.specs.declared.stmt.NamedStmtKind.{NamedStmtKind, fold-NamedStmtKind, fold_out-NamedStmtKind, map-NamedStmtKind, out-NamedStmtKind}
use Rattle.bl_names_tree.specs.declared.stmt.NamedStmtKind.TheOpen.{NamedStmtKind-F}
use Rattle.bl_names_tree.specs.declared.stmt.NamedStmtKind.TheVariants.{If, outs-If}
use Rattle.bl_types.specs.Returns.{arm_layer_strays, branch_layer_strays, kind_strays, layer_strays, strays_in, strays_in_arm, strays_in_branch}

abbrev strays_of_kind : NamedStmtKind → Place → List Failure
strays_of_kind = fold-NamedStmtKind (Place → List Failure) (List Failure) (List Failure)
    (List Failure) kind_strays arm_layer_strays branch_layer_strays layer_strays

abbrev parts : NamedStmtKind-F NamedStmtKind NamedArm NamedBranch NamedStmt →
    NamedStmtKind-F (Place → List Failure) (List Failure) (List Failure) (List Failure)
parts = map-NamedStmtKind NamedStmtKind NamedArm NamedBranch NamedStmt (Place → List Failure) (List Failure) (List Failure)
    (List Failure) strays_of_kind strays_in_arm strays_in_branch strays_in

strays_at : (s : NamedStmt) (layer : NamedStmtKind-F NamedStmtKind NamedArm NamedBranch NamedStmt) →
    out-NamedStmtKind (out-NamedStmt s).what ≡ layer → strays_in s ≡ kind_strays (parts layer) (out-NamedStmt s).place
strays_at s layer is =
    fold_out-NamedStmt (Place → List Failure) (List Failure) (List Failure) (List Failure) kind_strays arm_layer_strays branch_layer_strays layer_strays s
    ∙ ap (λ f. f (out-NamedStmt s).place) (fold_out-NamedStmtKind (Place → List Failure) (List Failure) (List Failure)
    (List Failure) kind_strays arm_layer_strays branch_layer_strays layer_strays (out-NamedStmt s).what)
    ∙ ap (λ layer. kind_strays (parts layer) (out-NamedStmt s).place) is

-- the arms, and what is done where no test is true
pub if_strays : (s : NamedStmt) (arms made : List NamedArm) (other rest : List NamedStmt) → (out-NamedStmt s).what ≡ If arms other →
    made ≡ arms → rest ≡ other
    → strays_in s ≡ joined (map strays_in_arm made) ++ joined (map strays_in rest)
if_strays s arms made other rest is same same_rest =
    strays_at s (NamedStmtKind-F.If arms other) (ap out-NamedStmtKind is ∙ outs-If arms other)
    ∙ (λ i. joined (map strays_in_arm (sym same i)) ++ joined (map strays_in (sym same_rest i)))

pub arm_strays : (arm : NamedArm) → strays_in_arm arm ≡ joined (map strays_in (out-NamedArm arm).body)
arm_strays arm = fold_out-NamedArm (Place → List Failure) (List Failure) (List Failure)
    (List Failure) kind_strays arm_layer_strays branch_layer_strays layer_strays arm

pub branch_strays : (branch : NamedBranch) → strays_in_branch branch ≡ joined (map strays_in (out-NamedBranch branch).body)
branch_strays branch = fold_out-NamedBranch (Place → List Failure) (List Failure) (List Failure)
    (List Failure) kind_strays arm_layer_strays branch_layer_strays layer_strays branch

less_next : (n m : ℕ) → nat_lt (suc n) (suc m) ≡ nat_lt n m
less_next n m =
    elim (nat_lt n m) as (λ less. nat_lt n m ≡ less → nat_lt (suc n) (suc m) ≡ less) [
      | true ↦ λ h. grind (arith, nat_tests)
      | false ↦ λ h. grind (arith, nat_tests)
    ] refl

less_first : (m : ℕ) → nat_lt zero (suc m) ≡ true
less_first m = grind (arith, nat_tests)

less_none : (n : ℕ) → nat_lt n zero ≡ false
less_none n = grind (arith, nat_tests)

-- what follows a position
pub is_followed : {A : Type 0} (n : ℕ) (xs : List A) → nat_lt n (length xs) ≡ is_inhabited (drop n xs)
is_followed zero [] = less_none zero
is_followed zero (x ∷ xs) = less_first (length xs)
is_followed (suc n) [] = less_none (suc n)
is_followed (suc n) (x ∷ xs) = less_next n (length xs) ∙ is_followed n xs
