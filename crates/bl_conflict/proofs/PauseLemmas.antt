-- What is found of a statement beside its loops is whether it may end in the tick in which it begins.
use Rattle.std.proofs.Common.{◌≡◌, Bool, true, false, ◌&&◌, ◌||◌, List, [], ◌∷◌, map, Option, refl, ap, sym, ◌∙◌}
use Rattle.std.specs.Prelude.{All, if◌then◌else◌}
use Rattle.std.proofs.lemmas.List.Elements.{All-head, All-tail}
use Rattle.bl_tree.proofs.StmtInduction.{Cases, Each, EachArm, EachBranch, induct, stmt}
use Rattle.bl_tree.specs.declared.place.Place.{Place}
use Rattle.bl_tree.specs.declared.tree.Arm.{Arm, fold-Arm, fold_out-Arm, out-Arm}
use Rattle.bl_tree.specs.declared.tree.Branch.{Branch, fold-Branch, fold_out-Branch, out-Branch}
use Rattle.bl_tree.specs.declared.tree.Stmt.{Stmt, fold_out-Stmt, out-Stmt, out-roll-Stmt}
use Rattle.bl_tree.specs.declared.tree.StmtKind.{StmtKind, fold-StmtKind, fold_out-StmtKind, map-StmtKind, out-StmtKind, out-roll-StmtKind, roll-StmtKind}
use Rattle.bl_tree.specs.declared.tree.StmtKind.TheOpen.{StmtKind-F}
use Rattle.bl_tree.specs.declared.tree.Unit.{Unit as UnitDef}
use Rattle.bl_tree.specs.Typing.{is_activity}
use Rattle.bl_tree.specs.declared.rule.Failure.{Failure}
use Rattle.bl_tree.specs.Reduce.{all_of, any_of}
use Rattle.bl_tree.specs.Instant.{BranchInstant, arm_instant, branch_ends, branches_instant, instant, is_instant_block, kind_instant, stmt_instant}
use Rattle.bl_effects.specs.Rules.{block_ends, loop_instants, loops_in}
use Rattle.bl_tree.specs.Rules.{first_of, lesser}
use Rattle.bl_conflict.specs.inner.Failures.{loops_of_arm, loops_of_branch, of_pause, pause_of}
use Rattle.bl_conflict.proofs.LoopLemmas.{arm_out as loops_of_arm_out, branch_out as loops_of_branch_out, done as loops_done, loops_at}

abbrev instant_of_arm : Arm → Bool
instant_of_arm = fold-Arm Bool Bool BranchInstant Bool kind_instant arm_instant branch_ends stmt_instant

abbrev ends_of_branch : Branch → BranchInstant
ends_of_branch = fold-Branch Bool Bool BranchInstant Bool kind_instant arm_instant branch_ends stmt_instant

arm_out : (arm : Arm) → instant_of_arm arm ≡ all_of (map instant (out-Arm arm).body)
arm_out arm = fold_out-Arm Bool Bool BranchInstant Bool kind_instant arm_instant branch_ends stmt_instant arm

branch_out : (branch : Branch) → ends_of_branch branch ≡ record { weak = (out-Branch branch).weak; instant = all_of (map instant (out-Branch branch).body) }
branch_out branch = fold_out-Branch Bool Bool BranchInstant Bool kind_instant arm_instant branch_ends stmt_instant branch

abbrev kind : StmtKind → Bool
kind = fold-StmtKind Bool Bool BranchInstant Bool kind_instant arm_instant branch_ends stmt_instant

abbrev done : StmtKind-F StmtKind Arm Branch Stmt → StmtKind-F Bool Bool BranchInstant Bool
done = map-StmtKind StmtKind Arm Branch Stmt Bool Bool BranchInstant Bool kind instant_of_arm ends_of_branch instant

instant_at : (s : Stmt) (layer : StmtKind-F StmtKind Arm Branch Stmt) → out-StmtKind (out-Stmt s).what ≡ layer → instant s ≡ kind_instant (done layer)
instant_at s layer is =
    fold_out-Stmt Bool Bool BranchInstant Bool kind_instant arm_instant branch_ends stmt_instant s
    ∙ fold_out-StmtKind Bool Bool BranchInstant Bool kind_instant arm_instant branch_ends stmt_instant (out-Stmt s).what
    ∙ ap (λ layer. kind_instant (done layer)) is

layer_of : (place : Place) (layer : StmtKind-F StmtKind Arm Branch Stmt) → out-StmtKind (out-Stmt (stmt place layer)).what ≡ layer
layer_of place layer = ap (λ s. out-StmtKind s.what) (out-roll-Stmt (record { place = place; what = roll-StmtKind layer })) ∙ out-roll-StmtKind layer

abbrev Same : Stmt → Type 0
Same s = (loops_in s).instant ≡ instant s

map_same : {A B C : Type 0} (P : A → Type 0) (f : B → C) (g : A → B) (h : A → C) → ((x : A) → P x → f (g x) ≡ h x) → (xs : List A) →
    All P xs → map f (map g xs) ≡ map h xs
map_same P f g h each [] all = refl
map_same P f g h each (x ∷ xs) all =
    let first = each x (All-head P x xs all) in
    let rest = map_same P f g h each xs (All-tail P x xs all) in
    λ i. first i ∷ rest i

same_block : (body : List Stmt) → Each Same body → block_ends (map loops_in body) ≡ all_of (map instant body)
same_block body each = ap all_of (map_same Same (λ l. l.instant) loops_in instant (λ s is. is) body each)

same_arms : (arms : List Arm) → EachArm Same arms → map (λ l. l.instant) (map loops_of_arm arms) ≡ map instant_of_arm arms
same_arms arms each =
    map_same (λ arm. Each Same (out-Arm arm).body) (λ l. l.instant) loops_of_arm instant_of_arm
    (λ arm body. ap (λ l. l.instant) (loops_of_arm_out arm) ∙ same_block (out-Arm arm).body body ∙ sym (arm_out arm)) arms each

same_branches : (branches : List Branch) → EachBranch Same branches → map (λ l. l.ends) (map loops_of_branch branches) ≡ map ends_of_branch branches
same_branches branches each =
    map_same (λ branch. Each Same (out-Branch branch).body) (λ l. l.ends) loops_of_branch ends_of_branch
    (λ branch body.
    ap (λ l. l.ends) (loops_of_branch_out branch)
    ∙ ap (λ instant. record { weak = (out-Branch branch).weak; instant = instant }) (same_block (out-Branch branch).body body)
    ∙ sym (branch_out branch)) branches each

-- the two answers for a layer, where they agree on it
both : (place : Place) (layer : StmtKind-F StmtKind Arm Branch Stmt) →
    kind_instant (loop_instants (loops_done layer)) ≡ kind_instant (done layer) → Same (stmt place layer)
both place layer is =
    ap (λ l. l.instant) (loops_at (stmt place layer) layer (layer_of place layer)) ∙ is ∙ sym (instant_at (stmt place layer) layer (layer_of place layer))

cases : Cases Same
cases = record {
  declare = λ place k initial. both place (StmtKind-F.Declare k initial) refl;
  assign = λ place path e. both place (StmtKind-F.Assign path e) refl;
  call = λ place f inputs outputs. both place (StmtKind-F.Call f inputs outputs) refl;
  await = λ place e. both place (StmtKind-F.Await e) refl;
  run = λ place target a inputs outputs. both place (StmtKind-F.Run target a inputs outputs) refl;
  branching = λ place arms other each rest.
      both place (StmtKind-F.If arms other) (ap (λ bs. any_of bs || block_ends (map loops_in other)) (same_arms arms each)
      ∙ ap (λ b. any_of (map instant_of_arm arms) || b) (same_block other rest));
  cobegin = λ place branches each. both place (StmtKind-F.Cobegin branches) (ap branches_instant (same_branches branches each));
  guarded = λ place guard e body each. both place (StmtKind-F.When guard e body) (same_block body each);
  repeat = λ place body each. both place (StmtKind-F.Repeat body) refl;
  until = λ place body e each. both place (StmtKind-F.Until body e) (same_block body each);
  while = λ place e body each. both place (StmtKind-F.While e body) refl;
  returns = λ place e. both place (StmtKind-F.Return e) refl;
}

-- what is found of a block
pub block_is : (body : List Stmt) → block_ends (map loops_in body) ≡ all_of (map instant body)
block_is [] = refl
block_is (s ∷ rest) =
    let first = induct Same cases s in
    let later = block_is rest in
    ap (λ b. all_of (b ∷ map (λ l. l.instant) (map loops_in rest))) first ∙ ap (λ b. instant s && b) later

-- ---- activities

abbrev listed : Bool → Bool → Place → List Failure
listed activity ends place = if activity && ends then of_pause place ∷ [] else []

listed_none : (activity : Bool) (place : Place) (best : Option Failure) → best ≡ first_of best (listed activity false place)
listed_none true place best = refl
listed_none false place best = refl

pub pause_none : (unit : UnitDef) (made : List Stmt) (ends : Bool) (best : Option Failure)
    → ends ≡ block_ends (map loops_in made) → made ≡ unit.body → ends ≡ false → best ≡ first_of best (pause_of unit)
pause_none unit made ends best is same none =
    let told : is_instant_block unit.body ≡ false = sym (block_is unit.body)
    ∙ ap (λ body. block_ends (map loops_in body)) (sym same) ∙ sym is ∙ none in
    listed_none (is_activity unit.kind) unit.place best ∙ ap (λ ends. first_of best (listed (is_activity unit.kind) ends unit.place)) (sym told)

pub pause_some : (unit : UnitDef) (made : List Stmt) (activity ends : Bool) (best : Option Failure)
    → activity ≡ is_activity unit.kind → activity ≡ true → ends ≡ block_ends (map loops_in made) → made ≡ unit.body → ends ≡ true
    → lesser best (of_pause unit.place) ≡ first_of best (pause_of unit)
pause_some unit made activity ends best is_kind active_so is same some =
    let told : is_instant_block unit.body ≡ true = sym (block_is unit.body) ∙ ap (λ body. block_ends (map loops_in body)) (sym same) ∙ sym is ∙ some in
    let active : is_activity unit.kind ≡ true = sym is_kind ∙ active_so in
    ap (λ ends. first_of best (listed true ends unit.place)) (sym told)
    ∙ ap (λ activity. first_of best (listed activity (is_instant_block unit.body) unit.place)) (sym active)
