-- What is peeled has the alias failures of its source.
use Rattle.std.proofs.Common.{◌≡◌, Bool, List, [], ◌++◌, map, refl, sym, ◌∙◌}
use Rattle.std.specs.Prelude.{⊤}
use Rattle.std.proofs.lemmas.List.{append-nil}
use Rattle.bl_tree.specs.declared.place.Place.{Place}
use Rattle.bl_tree.specs.declared.tree.Arm.{Arm, fold-Arm, fold_out-Arm, out-Arm}
use Rattle.bl_tree.specs.declared.tree.Branch.{Branch, fold-Branch, fold_out-Branch, out-Branch}
use Rattle.bl_tree.specs.declared.tree.Stmt.{Stmt, fold-roll-Stmt}
use Rattle.bl_tree.specs.declared.tree.StmtKind.{StmtKind, fold-StmtKind, fold-roll-StmtKind}
use Rattle.bl_tree.specs.declared.tree.StmtKind.TheFolds.{map-StmtKind}
use Rattle.bl_tree.specs.declared.tree.StmtKind.TheOpen.{StmtKind-F}
use Rattle.bl_tree.specs.Reduce.{joined}
use Rattle.bl_effects.specs.Rules.{Aliased, aliases_in, arm_aliases, branch_aliases, kind_aliases, stmt_aliases}
use Rattle.bl_peel.specs.Peeled.{made_stmt, peeled}
use Rattle.bl_peel_laws.proofs.Inheriting.{inherited}
use Rattle.bl_peel_laws.proofs.Lists.{Both, Has, Listed, anything, cobegin_covered, with_listed}

abbrev aliases_of_kind : StmtKind → List Aliased
aliases_of_kind = fold-StmtKind (List Aliased) (List Aliased) (List Aliased) (List Aliased) kind_aliases arm_aliases branch_aliases stmt_aliases

abbrev aliases_of_arm : Arm → List Aliased
aliases_of_arm = fold-Arm (List Aliased) (List Aliased) (List Aliased) (List Aliased) kind_aliases arm_aliases branch_aliases stmt_aliases

abbrev aliases_of_branch : Branch → List Aliased
aliases_of_branch = fold-Branch (List Aliased) (List Aliased) (List Aliased) (List Aliased) kind_aliases arm_aliases branch_aliases stmt_aliases

abbrev alias_parts : StmtKind-F StmtKind Arm Branch Stmt → StmtKind-F (List Aliased) (List Aliased) (List Aliased) (List Aliased)
alias_parts = map-StmtKind StmtKind Arm Branch Stmt (List Aliased) (List Aliased) (List Aliased) (List Aliased)
    aliases_of_kind aliases_of_arm aliases_of_branch aliases_in

aliases_at : (place : Place) (layer : StmtKind-F StmtKind Arm Branch Stmt) → aliases_in (made_stmt place layer) ≡ kind_aliases (alias_parts layer)
aliases_at place layer = rw (fold-roll-Stmt, fold-roll-StmtKind) refl

aliases_arm : (arm : Arm) → aliases_of_arm arm ≡ joined (map aliases_in (out-Arm arm).body)
aliases_arm = fold_out-Arm (List Aliased) (List Aliased) (List Aliased) (List Aliased) kind_aliases arm_aliases branch_aliases stmt_aliases

aliases_branch : (branch : Branch) → aliases_of_branch branch ≡ joined (map aliases_in (out-Branch branch).body)
aliases_branch = fold_out-Branch (List Aliased) (List Aliased) (List Aliased) (List Aliased) kind_aliases arm_aliases branch_aliases stmt_aliases

-- loops have none of their own
abbrev no_own : Place → Bool → List Aliased
no_own place ends = []

listed : Listed aliases_in no_own
listed = record {
  if_is = λ place arms other. aliases_at place (StmtKind-F.If arms other)
      ∙ (λ i. joined (map (λ arm. aliases_arm arm i) arms) ++ joined (map aliases_in other));
  when_is = λ place guard e body. aliases_at place (StmtKind-F.When guard e body);
  repeat_is = λ place body. aliases_at place (StmtKind-F.Repeat body) ∙ sym (append-nil (joined (map aliases_in body)));
  until_is = λ place body e. aliases_at place (StmtKind-F.Until body e) ∙ sym (append-nil (joined (map aliases_in body)));
  while_is = λ place e body. aliases_at place (StmtKind-F.While e body) ∙ sym (append-nil (joined (map aliases_in body)));
}

cobegin_is : (place : Place) (branches : List Branch) → aliases_in (made_stmt place (StmtKind-F.Cobegin branches))
    ≡ joined (map (λ branch. joined (map aliases_in (out-Branch branch).body)) branches)
cobegin_is place branches = aliases_at place (StmtKind-F.Cobegin branches) ∙ (λ i. joined (map (λ branch. aliases_branch branch i) branches))

abbrev Same : Aliased → Aliased → Type 0
Same x y = x ≡ y

pub aliases_inherited : (body : List Stmt) → Has (joined (map aliases_in body)) (joined (map aliases_in (peeled body)))
aliases_inherited body =
    (inherited (Both (λ body made. ⊤) Same aliases_in)
    (with_listed (λ body made. ⊤) Same aliases_in (λ x. refl) no_own listed anything
    (λ place branches others each. cobegin_covered (λ body made. ⊤) Same aliases_in cobegin_is place branches others each)) body).1
