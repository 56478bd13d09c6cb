-- What the definitions on calls come to at an arm, a branch, an `if` and an output.
use Rattle.std.proofs.Common.{◌≡◌, true, false, List, [], ◌∷◌, ◌++◌, map, Option, Some, None, refl, ap, sym, ◌∙◌}
use Rattle.std.specs.Prelude.{find, option_map, option_to_list}
use Rattle.bl_tree.specs.declared.place.Place.{Place}
use Rattle.bl_tree.specs.declared.tree.Arm.{Arm, fold_out-Arm, out-Arm}
use Rattle.bl_tree.specs.declared.tree.Branch.{Branch, fold_out-Branch, out-Branch}
use Rattle.bl_tree.specs.declared.tree.Stmt.{Stmt, fold_out-Stmt, out-Stmt}
use Rattle.bl_tree.specs.declared.tree.StmtKind.{StmtKind, fold-StmtKind, fold_out-StmtKind, map-StmtKind, out-StmtKind}
use Rattle.bl_tree.specs.declared.tree.StmtKind.TheOpen.{StmtKind-F}
use Rattle.bl_tree.specs.declared.tree.StmtKind.TheVariants.{If, outs-If}
use Rattle.bl_tree.specs.Reduce.{joined}
use Rattle.bl_effects.specs.declared.marked.Marked.{Marked}
use Rattle.bl_effects.specs.Rules.{Aliased, aliased_with, aliases_in, arm_aliases, branch_aliases, kind_aliases, stmt_aliases}
use Rattle.bl_tree.specs.Static.{overlaps}
use Rattle.bl_tree.specs.declared.rule.Failure.{Failure}
use Rattle.bl_conflict.specs.inner.Failures.{added, aliases_of_arm, aliases_of_branch, least_by, of_alias, place_overlapping}
use Rattle.bl_conflict.proofs.FirstLemmas.{least-append}

pub arm_out : (arm : Arm) → aliases_of_arm arm ≡ joined (map aliases_in (out-Arm arm).body)
arm_out arm = fold_out-Arm (List Aliased) (List Aliased) (List Aliased) (List Aliased) kind_aliases arm_aliases branch_aliases stmt_aliases arm

pub branch_out : (branch : Branch) → aliases_of_branch branch ≡ joined (map aliases_in (out-Branch branch).body)
branch_out branch = fold_out-Branch (List Aliased) (List Aliased) (List Aliased) (List Aliased) kind_aliases arm_aliases branch_aliases stmt_aliases branch

abbrev kind : StmtKind → List Aliased
kind = fold-StmtKind (List Aliased) (List Aliased) (List Aliased) (List Aliased) kind_aliases arm_aliases branch_aliases stmt_aliases

abbrev done : StmtKind-F StmtKind Arm Branch Stmt → StmtKind-F (List Aliased) (List Aliased) (List Aliased) (List Aliased)
done = map-StmtKind StmtKind Arm Branch Stmt (List Aliased) (List Aliased) (List Aliased) (List Aliased) kind aliases_of_arm aliases_of_branch aliases_in

aliases_at : (s : Stmt) (layer : StmtKind-F StmtKind Arm Branch Stmt) → out-StmtKind (out-Stmt s).what ≡ layer →
    aliases_in s ≡ kind_aliases (done layer)
aliases_at s layer is =
    fold_out-Stmt (List Aliased) (List Aliased) (List Aliased) (List Aliased) kind_aliases arm_aliases branch_aliases stmt_aliases s
    ∙ fold_out-StmtKind (List Aliased) (List Aliased) (List Aliased) (List Aliased) kind_aliases arm_aliases branch_aliases stmt_aliases (out-Stmt s).what
    ∙ ap (λ layer. kind_aliases (done layer)) is

pub if_is : (s : Stmt) (best : Option Failure) (made arms : List Arm) (rest other : List Stmt) → (out-Stmt s).what ≡ If arms other →
    made ≡ arms → rest ≡ other
    → least_by of_alias (least_by of_alias best (joined (map aliases_of_arm made))) (joined (map aliases_in rest)) ≡ least_by of_alias best (aliases_in s)
if_is s best made arms rest other is same same_rest =
    ap (λ arms. least_by of_alias (least_by of_alias best (joined (map aliases_of_arm arms))) (joined (map aliases_in rest))) same
    ∙ ap (λ rest. least_by of_alias (least_by of_alias best (joined (map aliases_of_arm arms))) (joined (map aliases_in rest))) same_rest
    ∙ sym (least-append of_alias best (joined (map aliases_of_arm arms)) (joined (map aliases_in other)))
    ∙ sym (ap (least_by of_alias best) (aliases_at s (StmtKind-F.If arms other) (ap out-StmtKind is ∙ outs-If arms other)))

-- ---- outputs

pub none_before : (others more : List Marked) (one : Marked) → place_overlapping others one ≡ None →
    place_overlapping (others ++ more) one ≡ place_overlapping more one
none_before [] more one none = refl
none_before (other ∷ others) more one none =
    elim (overlaps one.path other.path) as (λ test. overlaps one.path other.path ≡ test →
    place_overlapping ((other ∷ others) ++ more) one ≡ place_overlapping more one) [
      | true ↦ λ is. absurd (let found : place_overlapping (other ∷ others) one ≡ Some other.place = rw is refl in cc)
      | false ↦ λ is. rw is (none_before others more one (rw is at none))
    ] refl

pub some_before : (others more : List Marked) (one : Marked) (at : Place) → place_overlapping others one ≡ Some at →
    place_overlapping (others ++ more) one ≡ Some at
some_before [] more one at none = absurd (cc)
some_before (other ∷ others) more one at found =
    elim (overlaps one.path other.path) as (λ test. overlaps one.path other.path ≡ test → place_overlapping ((other ∷ others) ++ more) one ≡ Some at) [
      | true ↦ λ is. rw is (rw is at found)
      | false ↦ λ is. rw is (some_before others more one at (rw is at found))
    ] refl

added_is : (best : Option Failure) (one : Marked) (found : Option Marked) →
    added best one.place (option_map (λ other. other.place) found)
    ≡ least_by of_alias best (option_to_list (option_map (λ other. record { at = one.place; also = other.place }) found))
added_is best one None = refl
added_is best one (Some other) = refl

-- the failure of one, by the place of what it overlaps
pub aliased_is : (best : Option Failure) (others : List Marked) (one : Marked) →
    added best one.place (place_overlapping others one) ≡ least_by of_alias best (aliased_with others one)
aliased_is best others one = added_is best one (find (λ other. overlaps one.path other.path) others)
