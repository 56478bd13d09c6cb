-- What surfaces come to at one statement, arm or branch, and one step of each loop over them.
use Rattle.std.proofs.Common.{◌≡◌, ℕ, ◌+◌, ◌<◌, Bool, ◌&&◌, ◌||◌, List, [], ◌∷◌, ◌++◌, map, refl, sym, ap, ◌∙◌, subst}
use Rattle.std.proofs.Common.{append_assoc, if◌then◌else◌}
use Rattle.std.specs.Prelude.{Result, IfOk}
use Rattle.std.proofs.Math.Bool.{and_assoc, or_assoc}
use Rattle.bl_tree.specs.declared.place.Place.{Place}
use Rattle.bl_tree.specs.declared.tree.Arm.{Arm, fold_out-Arm, out-Arm}
use Rattle.bl_tree.specs.declared.tree.Branch.{Branch, fold_out-Branch, out-Branch}
use Rattle.bl_tree.specs.declared.tree.Stmt.{Stmt, fold-roll-Stmt, fold_out-Stmt, out-Stmt, roll-Stmt}
use Rattle.bl_tree.specs.declared.tree.StmtKind.{StmtKind, fold-StmtKind, fold-roll-StmtKind, fold_out-StmtKind, map-StmtKind, out-StmtKind, roll-StmtKind}
use Rattle.bl_tree.specs.declared.tree.StmtKind.TheOpen.{StmtKind-F}
use Rattle.bl_tree.specs.declared.tree.StmtKind.TheVariants.{Cobegin, If, outs-Cobegin, outs-If}
use Rattle.bl_tree.specs.Reduce.{all_of, any_of, joined}
use Rattle.bl_tree.specs.declared.static_path.Static.{Static}
use Rattle.bl_tree.specs.Instant.{branches_instant, instant}
use Rattle.bl_effects.specs.Surface.{BranchSurface, Surface, arm_surface, block_instant, block_surface, branch_surface, kind_surface, stmt_surface, surface_of}
use Rattle.bl_effects.proofs.InstantLemmas.{surface_agrees}
use Rattle.bl_ctree.specs.Positions.{Position, left_of_if}
use Rattle.bl_ctree_pending.specs.inner.Surfaces.{surface_of_arm, surface_of_branch}

pub arm_out : (arm : Arm) → surface_of_arm arm ≡ record {
  instant = block_instant (map surface_of (out-Arm arm).body);
  writes =
      block_surface (map surface_of (out-Arm arm).body);
}
arm_out arm = fold_out-Arm Surface Surface BranchSurface Surface kind_surface arm_surface branch_surface stmt_surface arm

pub branch_out : (branch : Branch) → surface_of_branch branch ≡ record {
  ends = record { weak = (out-Branch branch).weak; instant = block_instant (map surface_of (out-Branch branch).body) };
  writes = block_surface (map surface_of (out-Branch branch).body);
}
branch_out branch = fold_out-Branch Surface Surface BranchSurface Surface kind_surface arm_surface branch_surface stmt_surface branch

abbrev kind : StmtKind → Surface
kind = fold-StmtKind Surface Surface BranchSurface Surface kind_surface arm_surface branch_surface stmt_surface

abbrev parts : StmtKind-F StmtKind Arm Branch Stmt → StmtKind-F Surface Surface BranchSurface Surface
parts = map-StmtKind StmtKind Arm Branch Stmt Surface Surface BranchSurface Surface kind surface_of_arm surface_of_branch surface_of

surface_at : (s : Stmt) (layer : StmtKind-F StmtKind Arm Branch Stmt) → out-StmtKind (out-Stmt s).what ≡ layer →
    surface_of s ≡ kind_surface (parts layer)
surface_at s layer is =
    fold_out-Stmt Surface Surface BranchSurface Surface kind_surface arm_surface branch_surface stmt_surface s
    ∙ fold_out-StmtKind Surface Surface BranchSurface Surface kind_surface arm_surface branch_surface stmt_surface (out-Stmt s).what
    ∙ ap (λ layer. kind_surface (parts layer)) is

surface_made : (place : Place) (layer : StmtKind-F StmtKind Arm Branch Stmt) →
    surface_of (roll-Stmt (record { place = place; what = roll-StmtKind layer })) ≡ kind_surface (parts layer)
surface_made place layer = rw (fold-roll-Stmt, fold-roll-StmtKind) refl

-- ---- a statement

pub if_writes : (s : Stmt) (arms made_arms : List Arm) (other made : List Stmt) → (out-Stmt s).what ≡ If arms other →
    made_arms ≡ arms → made ≡ other
    → (before between after : List Static) → between ≡ before ++ joined (map (λ arm. arm.writes) (map surface_of_arm made_arms))
    → after ≡ between ++ block_surface (map surface_of made) → after ≡ before ++ (surface_of s).writes
if_writes s arms made_arms other made is same_arms same before between after first second =
    second ∙ ap (λ found. found ++ block_surface (map surface_of made)) first
    ∙ append_assoc before (joined (map (λ arm. arm.writes) (map surface_of_arm made_arms))) (block_surface (map surface_of made))
    ∙ (λ i. before ++ (joined (map (λ arm. arm.writes) (map surface_of_arm (same_arms i))) ++ block_surface (map surface_of (same i))))
    ∙ ap (λ surface. before ++ surface.writes) (sym (surface_at s (StmtKind-F.If arms other) (ap out-StmtKind is ∙ outs-If arms other)))

pub cobegin_ends : {E : Type 0} (s : Stmt) (branches made : List Branch) → (out-Stmt s).what ≡ Cobegin branches → made ≡ branches
    → (r : Result Bool E) → IfOk r (λ ends. ends ≡ branches_instant (map (λ branch. branch.ends) (map surface_of_branch made))) →
    IfOk r (λ ends. ends ≡ (surface_of s).instant)
cobegin_ends s branches made is same r told =
    subst (λ all. IfOk r (λ ends. ends ≡ all))
    (ap (λ all. branches_instant (map (λ branch. branch.ends) (map surface_of_branch all))) same
    ∙ ap (λ surface. surface.instant) (sym (surface_at s (StmtKind-F.Cobegin branches) (ap out-StmtKind is ∙ outs-Cobegin branches))))
    told

pub surface_ends : {E : Type 0} (s : Stmt) (r : Result Bool E) → IfOk r (λ ends. ends ≡ (surface_of s).instant) → IfOk r (λ ends. ends ≡ instant s)
surface_ends s r told = subst (λ all. IfOk r (λ ends. ends ≡ all)) (surface_agrees s) told

-- ---- what is left of an `if`

module _ (position : Position) (passed : ℕ) (arm : Arm) (arms : List Arm) (other body : List Stmt) (same : body ≡ (out-Arm arm).body) where
  left_surface : surface_of (left_of_if position passed arm arms other).stmt ≡ kind_surface (parts (StmtKind-F.If (arm ∷ arms) other))
  left_surface = surface_made _ (StmtKind-F.If (arm ∷ arms) other)

  pub left_ends : (first some rest : Bool) → first ≡ block_instant (map surface_of body) →
      some ≡ any_of (map (λ arm. arm.instant) (map surface_of_arm arms))
      → rest ≡ block_instant (map surface_of other) → ((first || some) || rest) ≡ instant (left_of_if position passed arm arms other).stmt
  left_ends first some rest in_first in_some in_rest =
      (λ i. (in_first i || in_some i) || in_rest i)
      ∙ ap (λ b. (b || any_of (map (λ arm. arm.instant) (map surface_of_arm arms))) || block_instant (map surface_of other))
      (ap (λ body. block_instant (map surface_of body)) same ∙ ap (λ surface. surface.instant) (sym (arm_out arm)))
      ∙ ap (λ surface. surface.instant) (sym left_surface) ∙ surface_agrees (left_of_if position passed arm arms other).stmt

  pub left_writes : (before first some after : List Static) → first ≡ before ++ block_surface (map surface_of body)
      → some ≡ first ++ joined (map (λ arm. arm.writes) (map surface_of_arm arms)) → after ≡ some ++ block_surface (map surface_of other)
      → after ≡ before ++ (surface_of (left_of_if position passed arm arms other).stmt).writes
  left_writes before first some after in_first in_some in_after =
      let ws = block_surface (map surface_of (out-Arm arm).body) in
      let further = joined (map (λ arm. arm.writes) (map surface_of_arm arms)) in
      let last = block_surface (map surface_of other) in
      in_after ∙ ap (λ found. found ++ last) (in_some ∙ ap (λ found. found ++ further)
      (in_first ∙ ap (λ body. before ++ block_surface (map surface_of body)) same) ∙ append_assoc before ws further)
      ∙ append_assoc before (ws ++ further) last
      ∙ ap (λ ws. before ++ ((ws ++ further) ++ last)) (ap (λ surface. surface.writes) (sym (arm_out arm)))
      ∙ ap (λ surface. before ++ surface.writes) (sym left_surface)

-- ---- parts one after another: all those that are left are one and the rest

pub all_next : {X : Type 0} (g : X → Bool) (all rest : List X) (x : X) (b done found : Bool) → all ≡ x ∷ rest → b ≡ g x
    → (done && all_of (map g all)) ≡ found → ((done && b) && all_of (map g rest)) ≡ found
all_next g all rest x b done found is told h =
    ap (λ b. (done && b) && all_of (map g rest)) told ∙ and_assoc done (g x) (all_of (map g rest)) ∙ ap (λ l. done && all_of (map g l)) (sym is) ∙ h

pub any_next : {X : Type 0} (g : X → Bool) (all rest : List X) (x : X) (b done found : Bool) → all ≡ x ∷ rest → b ≡ g x
    → (done || any_of (map g all)) ≡ found → ((done || b) || any_of (map g rest)) ≡ found
any_next g all rest x b done found is told h =
    ap (λ b. (done || b) || any_of (map g rest)) told ∙ or_assoc done (g x) (any_of (map g rest)) ∙ ap (λ l. done || any_of (map g l)) (sym is) ∙ h

pub more_next : {X : Type 0} (g : X → List Static) (all rest : List X) (x : X) (ws done made found : List Static) → all ≡ x ∷ rest →
    ws ≡ g x → made ≡ done ++ ws
    → done ++ joined (map g all) ≡ found → made ++ joined (map g rest) ≡ found
more_next g all rest x ws done made found is told is_made h =
    ap (λ made. made ++ joined (map g rest)) (is_made ∙ ap (λ ws. done ++ ws) told) ∙ append_assoc done (g x) (joined (map g rest))
    ∙ ap (λ l. done ++ joined (map g l)) (sym is) ∙ h
