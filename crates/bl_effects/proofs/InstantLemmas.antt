-- The definitions that carry along whether a statement may end at once agree with the one that says it.
use Rattle.std.proofs.Common.{◌≡◌, Bool, List, [], ◌∷◌, ◌||◌, map, refl, sym, ap, ◌∙◌}
use Rattle.std.specs.Prelude.{All}
use Rattle.std.proofs.lemmas.List.Elements.{All-head, All-tail}
use Rattle.bl_tree.specs.declared.place.Place.{Place}
use Rattle.bl_tree.specs.declared.tree.Arm.{Arm, fold-Arm, fold_out-Arm, out-Arm}
use Rattle.bl_tree.specs.declared.tree.Branch.{Branch, fold-Branch, fold_out-Branch, out-Branch}
use Rattle.bl_tree.specs.declared.tree.Stmt.{Stmt, fold-roll-Stmt}
use Rattle.bl_tree.specs.declared.tree.StmtKind.{StmtKind, fold-StmtKind, fold-roll-StmtKind, map-StmtKind}
use Rattle.bl_tree.specs.declared.tree.StmtKind.TheOpen.{StmtKind-F}
use Rattle.bl_tree.specs.Reduce.{all_of, any_of}
use Rattle.bl_tree.proofs.StmtInduction.{Each, induct, stmt}
use Rattle.bl_effects.specs.inner.Gathered.{ends_of_branch, instant_of_arm, instant_of_kind}
use Rattle.bl_tree.specs.Instant.{BranchInstant, instant, kind_instant}
use Rattle.bl_effects.specs.Rules.{BranchLoops, Loops, arm_loops, branch_loops, kind_loops, loop_instants, loops_in, stmt_loops}
use Rattle.bl_effects.specs.Surface.{BranchSurface, Surface, arm_surface, branch_surface, instants_of, kind_surface, stmt_surface, surface_of}
use Rattle.bl_effects.proofs.GatherLemmas.{ends_branch_out, instant_arm_out}

alike : {A B C : Type 0} (f : A → B) (g : B → C) (h : A → C) (xs : List A) → All (λ x. g (f x) ≡ h x) xs → map g (map f xs) ≡ map h xs
alike f g h [] all = refl
alike f g h (x ∷ xs) all = λ i. All-head (λ x. g (f x) ≡ h x) x xs all i ∷ alike f g h xs (All-tail (λ x. g (f x) ≡ h x) x xs all) i

-- from each element what is shown of it
shown : {A : Type 0} (P Q : A → Type 0) → ((x : A) → P x → Q x) → (xs : List A) → All P xs → All Q xs
shown P Q gives xs all = λ k d within. gives _ (all k d within)

abbrev instant_parts : StmtKind-F StmtKind Arm Branch Stmt → StmtKind-F Bool Bool BranchInstant Bool
instant_parts = map-StmtKind StmtKind Arm Branch Stmt Bool Bool BranchInstant Bool instant_of_kind instant_of_arm ends_of_branch instant

instant_at : (place : Place) (layer : StmtKind-F StmtKind Arm Branch Stmt) → instant (stmt place layer) ≡ kind_instant (instant_parts layer)
instant_at place layer = rw (fold-roll-Stmt, fold-roll-StmtKind) refl

-- ---- surfaces

abbrev surface_of_kind : StmtKind → Surface
surface_of_kind = fold-StmtKind Surface Surface BranchSurface Surface kind_surface arm_surface branch_surface stmt_surface

abbrev surface_of_arm : Arm → Surface
surface_of_arm = fold-Arm Surface Surface BranchSurface Surface kind_surface arm_surface branch_surface stmt_surface

abbrev surface_of_branch : Branch → BranchSurface
surface_of_branch = fold-Branch Surface Surface BranchSurface Surface kind_surface arm_surface branch_surface stmt_surface

abbrev surface_parts : StmtKind-F StmtKind Arm Branch Stmt → StmtKind-F Surface Surface BranchSurface Surface
surface_parts = map-StmtKind StmtKind Arm Branch Stmt Surface Surface BranchSurface Surface surface_of_kind surface_of_arm surface_of_branch surface_of

surface_at : (place : Place) (layer : StmtKind-F StmtKind Arm Branch Stmt) → surface_of (stmt place layer) ≡ kind_surface (surface_parts layer)
surface_at place layer = rw (fold-roll-Stmt, fold-roll-StmtKind) refl

abbrev SurfaceAgrees : Stmt → Type 0
SurfaceAgrees s = (surface_of s).instant ≡ instant s

surface_blocks : (body : List Stmt) → All SurfaceAgrees body → map (λ s. s.instant) (map surface_of body) ≡ map instant body
surface_blocks body all = alike surface_of (λ s. s.instant) instant body all

surface_arm : (arm : Arm) → Each SurfaceAgrees (out-Arm arm).body → (surface_of_arm arm).instant ≡ instant_of_arm arm
surface_arm arm each =
    ap (λ s. s.instant) (fold_out-Arm Surface Surface BranchSurface Surface kind_surface arm_surface branch_surface stmt_surface arm)
    ∙ ap all_of (surface_blocks (out-Arm arm).body each) ∙ sym (instant_arm_out arm)

surface_branch : (branch : Branch) → Each SurfaceAgrees (out-Branch branch).body → (surface_of_branch branch).ends ≡ ends_of_branch branch
surface_branch branch each =
    ap (λ s. s.ends) (fold_out-Branch Surface Surface BranchSurface Surface kind_surface arm_surface branch_surface stmt_surface branch)
    ∙ (λ i. record { weak = (out-Branch branch).weak; instant = all_of (surface_blocks (out-Branch branch).body each i) }) ∙ sym (ends_branch_out branch)

surface_same : (place : Place) (layer : StmtKind-F StmtKind Arm Branch Stmt) →
    instants_of (surface_parts layer) ≡ instant_parts layer → SurfaceAgrees (stmt place layer)
surface_same place layer is = ap (λ s. s.instant) (surface_at place layer) ∙ ap kind_instant is ∙ sym (instant_at place layer)

-- what the surface of a statement carries along is whether it may end at once
pub surface_agrees : (s : Stmt) → (surface_of s).instant ≡ instant s
surface_agrees = induct SurfaceAgrees (record {
  declare = λ place k initial. surface_same place (StmtKind-F.Declare k initial) refl;
  assign = λ place path e. surface_same place (StmtKind-F.Assign path e) refl;
  call = λ place f inputs outputs. surface_same place (StmtKind-F.Call f inputs outputs) refl;
  await = λ place e. surface_same place (StmtKind-F.Await e) refl;
  run = λ place target a inputs outputs. surface_same place (StmtKind-F.Run target a inputs outputs) refl;
  branching = λ place arms other in_arms in_other. surface_same place (StmtKind-F.If arms other)
      (λ i. StmtKind-F.If (alike surface_of_arm (λ s. s.instant) instant_of_arm arms
      (shown (λ arm. Each SurfaceAgrees (out-Arm arm).body) _ surface_arm arms in_arms) i) (surface_blocks other in_other i));
  cobegin = λ place branches in_branches. surface_same place (StmtKind-F.Cobegin branches)
      (ap StmtKind-F.Cobegin (alike surface_of_branch (λ s. s.ends) ends_of_branch branches
      (shown (λ branch. Each SurfaceAgrees (out-Branch branch).body) _ surface_branch branches in_branches)));
  guarded = λ place guard e body each. surface_same place (StmtKind-F.When guard e body) (ap (StmtKind-F.When guard e) (surface_blocks body each));
  repeat = λ place body each. surface_same place (StmtKind-F.Repeat body) (ap StmtKind-F.Repeat (surface_blocks body each));
  until = λ place body e each. surface_same place (StmtKind-F.Until body e) (ap (λ body. StmtKind-F.Until body e) (surface_blocks body each));
  while = λ place e body each. surface_same place (StmtKind-F.While e body) (ap (StmtKind-F.While e) (surface_blocks body each));
  returns = λ place e. surface_same place (StmtKind-F.Return e) refl;
})

-- ---- loops

abbrev loops_of_kind : StmtKind → Place → Loops
loops_of_kind = fold-StmtKind (Place → Loops) Loops BranchLoops Loops kind_loops arm_loops branch_loops stmt_loops

abbrev loops_of_arm : Arm → Loops
loops_of_arm = fold-Arm (Place → Loops) Loops BranchLoops Loops kind_loops arm_loops branch_loops stmt_loops

abbrev loops_of_branch : Branch → BranchLoops
loops_of_branch = fold-Branch (Place → Loops) Loops BranchLoops Loops kind_loops arm_loops branch_loops stmt_loops

abbrev loop_parts : StmtKind-F StmtKind Arm Branch Stmt → StmtKind-F (Place → Loops) Loops BranchLoops Loops
loop_parts = map-StmtKind StmtKind Arm Branch Stmt (Place → Loops) Loops BranchLoops Loops loops_of_kind loops_of_arm loops_of_branch loops_in

loops_at : (place : Place) (layer : StmtKind-F StmtKind Arm Branch Stmt) → loops_in (stmt place layer) ≡ kind_loops (loop_parts layer) place
loops_at place layer = rw (fold-roll-Stmt, fold-roll-StmtKind) refl

abbrev LoopsAgree : Stmt → Type 0
LoopsAgree s = (loops_in s).instant ≡ instant s

loop_blocks : (body : List Stmt) → All LoopsAgree body → map (λ s. s.instant) (map loops_in body) ≡ map instant body
loop_blocks body all = alike loops_in (λ s. s.instant) instant body all

loop_arm : (arm : Arm) → Each LoopsAgree (out-Arm arm).body → (loops_of_arm arm).instant ≡ instant_of_arm arm
loop_arm arm each =
    ap (λ s. s.instant) (fold_out-Arm (Place → Loops) Loops BranchLoops Loops kind_loops arm_loops branch_loops stmt_loops arm)
    ∙ ap all_of (loop_blocks (out-Arm arm).body each) ∙ sym (instant_arm_out arm)

loop_branch : (branch : Branch) → Each LoopsAgree (out-Branch branch).body → (loops_of_branch branch).ends ≡ ends_of_branch branch
loop_branch branch each =
    ap (λ s. s.ends) (fold_out-Branch (Place → Loops) Loops BranchLoops Loops kind_loops arm_loops branch_loops stmt_loops branch)
    ∙ (λ i. record { weak = (out-Branch branch).weak; instant = all_of (loop_blocks (out-Branch branch).body each i) }) ∙ sym (ends_branch_out branch)

loop_same : (place : Place) (layer : StmtKind-F StmtKind Arm Branch Stmt) →
    kind_instant (loop_instants (loop_parts layer)) ≡ kind_instant (instant_parts layer) → LoopsAgree (stmt place layer)
loop_same place layer is = ap (λ s. s.instant) (loops_at place layer) ∙ is ∙ sym (instant_at place layer)

-- and so does what is known of its loops
pub loops_agree : (s : Stmt) → (loops_in s).instant ≡ instant s
loops_agree = induct LoopsAgree (record {
  declare = λ place k initial. loop_same place (StmtKind-F.Declare k initial) refl;
  assign = λ place path e. loop_same place (StmtKind-F.Assign path e) refl;
  call = λ place f inputs outputs. loop_same place (StmtKind-F.Call f inputs outputs) refl;
  await = λ place e. loop_same place (StmtKind-F.Await e) refl;
  run = λ place target a inputs outputs. loop_same place (StmtKind-F.Run target a inputs outputs) refl;
  branching = λ place arms other in_arms in_other. loop_same place (StmtKind-F.If arms other)
      (λ i. any_of (alike loops_of_arm (λ s. s.instant) instant_of_arm arms
      (shown (λ arm. Each LoopsAgree (out-Arm arm).body) _ loop_arm arms in_arms) i) || all_of (loop_blocks other in_other i));
  cobegin = λ place branches in_branches. loop_same place (StmtKind-F.Cobegin branches)
      (ap (λ ends. kind_instant (StmtKind-F.Cobegin ends))
      (alike loops_of_branch (λ s. s.ends) ends_of_branch branches
      (shown (λ branch. Each LoopsAgree (out-Branch branch).body) _ loop_branch branches in_branches)));
  guarded = λ place guard e body each. loop_same place (StmtKind-F.When guard e body) (ap all_of (loop_blocks body each));
  repeat = λ place body each. loop_same place (StmtKind-F.Repeat body) refl;
  until = λ place body e each. loop_same place (StmtKind-F.Until body e) (ap all_of (loop_blocks body each));
  while = λ place e body each. loop_same place (StmtKind-F.While e body) refl;
  returns = λ place e. loop_same place (StmtKind-F.Return e) refl;
})
