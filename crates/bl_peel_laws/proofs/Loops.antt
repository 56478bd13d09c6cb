-- What is peeled has the loops whose bodies may end at once that its source has.
use Rattle.std.proofs.Common.{◌≡◌, Bool, ◌&&◌, List, [], ◌∷◌, ◌++◌, map, refl, ap, ◌∙◌}
use Rattle.std.specs.Prelude.{if◌then◌else◌, ⊤}
use Rattle.bl_tree.specs.declared.place.Place.{Place}
use Rattle.bl_tree.specs.declared.tree.Arm.{Arm, fold-Arm, fold_out-Arm, out-Arm}
use Rattle.bl_tree.specs.declared.tree.Branch.{Branch, fold-Branch, fold_out-Branch, out-Branch}
use Rattle.bl_tree.specs.declared.tree.Stmt.{Stmt, fold-roll-Stmt}
use Rattle.bl_tree.specs.declared.tree.StmtKind.{StmtKind, fold-StmtKind, fold-roll-StmtKind}
use Rattle.bl_tree.specs.declared.tree.StmtKind.TheFolds.{map-StmtKind}
use Rattle.bl_tree.specs.declared.tree.StmtKind.TheOpen.{StmtKind-F}
use Rattle.bl_tree.specs.Instant.{is_instant_block}
use Rattle.bl_tree.specs.Reduce.{joined}
use Rattle.bl_effects.specs.Rules.{BranchLoops, Loops, arm_loops, block_ends, block_loops, branch_loops, kind_loops, loop_places, loops_in, stmt_loops}
use Rattle.bl_effects.proofs.InstantLemmas.{loops_agree}
use Rattle.bl_peel.specs.Peeled.{made_stmt, peeled}
use Rattle.bl_peel_laws.proofs.Inheriting.{inherited}
use Rattle.bl_peel_laws.proofs.Lists.{Both, Has, Listed, anything, cobegin_covered, fuse, with_listed}

abbrev loops_of_kind : StmtKind → Place → Loops
loops_of_kind = fold-StmtKind (Place → Loops) Loops BranchLoops Loops kind_loops arm_loops branch_loops stmt_loops

abbrev loops_of_arm : Arm → Loops
loops_of_arm = fold-Arm (Place → Loops) Loops BranchLoops Loops kind_loops arm_loops branch_loops stmt_loops

abbrev loops_of_branch : Branch → BranchLoops
loops_of_branch = fold-Branch (Place → Loops) Loops BranchLoops Loops kind_loops arm_loops branch_loops stmt_loops

abbrev loop_parts : StmtKind-F StmtKind Arm Branch Stmt → StmtKind-F (Place → Loops) Loops BranchLoops Loops
loop_parts = map-StmtKind StmtKind Arm Branch Stmt (Place → Loops) Loops BranchLoops Loops loops_of_kind loops_of_arm loops_of_branch loops_in

loops_at : (place : Place) (layer : StmtKind-F StmtKind Arm Branch Stmt) → loops_in (made_stmt place layer) ≡ kind_loops (loop_parts layer) place
loops_at place layer = rw (fold-roll-Stmt, fold-roll-StmtKind) refl

-- the loops in a statement whose bodies may end at once
abbrev pub places_in : Stmt → List Place
places_in s = (loops_in s).places

places_at : (place : Place) (layer : StmtKind-F StmtKind Arm Branch Stmt) → places_in (made_stmt place layer) ≡ (kind_loops (loop_parts layer) place).places
places_at place layer = ap (λ (loops : Loops). loops.places) (loops_at place layer)

-- a loop whose body may end at once is one of them
abbrev own : Place → Bool → List Place
own place ends = if ends then place ∷ [] else []

pub of_block : (body : List Stmt) → block_loops (map loops_in body) ≡ joined (map places_in body)
of_block body = ap joined (fuse (λ (s : Loops). s.places) loops_in body)

ends_of_block : (body : List Stmt) → block_ends (map loops_in body) ≡ is_instant_block body
ends_of_block [] = refl
ends_of_block (s ∷ body) = λ i. loops_agree s i && ends_of_block body i

of_loop : (place : Place) (body : List Stmt) → loop_places place (map loops_in body) ≡ joined (map places_in body) ++ own place (is_instant_block body)
of_loop place body = λ i. of_block body i ++ own place (ends_of_block body i)

places_arm : (arm : Arm) → (loops_of_arm arm).places ≡ joined (map places_in (out-Arm arm).body)
places_arm arm =
    ap (λ (loops : Loops). loops.places) (fold_out-Arm (Place → Loops) Loops BranchLoops Loops kind_loops arm_loops branch_loops stmt_loops arm)
    ∙ of_block (out-Arm arm).body

places_branch : (branch : Branch) → (loops_of_branch branch).places ≡ joined (map places_in (out-Branch branch).body)
places_branch branch =
    ap (λ (loops : BranchLoops). loops.places)
    (fold_out-Branch (Place → Loops) Loops BranchLoops Loops kind_loops arm_loops branch_loops stmt_loops branch)
    ∙ of_block (out-Branch branch).body

of_arms : (arms : List Arm) → block_loops (map loops_of_arm arms) ≡ joined (map (λ arm. joined (map places_in (out-Arm arm).body)) arms)
of_arms arms = ap joined (fuse (λ (s : Loops). s.places) loops_of_arm arms) ∙ (λ i. joined (map (λ arm. places_arm arm i) arms))

listed : Listed places_in own
listed = record {
  if_is = λ place arms other. places_at place (StmtKind-F.If arms other) ∙ (λ i. of_arms arms i ++ of_block other i);
  when_is = λ place guard e body. places_at place (StmtKind-F.When guard e body) ∙ of_block body;
  repeat_is = λ place body. places_at place (StmtKind-F.Repeat body) ∙ of_loop place body;
  until_is = λ place body e. places_at place (StmtKind-F.Until body e) ∙ of_loop place body;
  while_is = λ place e body. places_at place (StmtKind-F.While e body) ∙ of_loop place body;
}

cobegin_is : (place : Place) (branches : List Branch) → places_in (made_stmt place (StmtKind-F.Cobegin branches))
    ≡ joined (map (λ branch. joined (map places_in (out-Branch branch).body)) branches)
cobegin_is place branches =
    places_at place (StmtKind-F.Cobegin branches) ∙ ap joined (fuse (λ (b : BranchLoops). b.places) loops_of_branch branches)
    ∙ (λ i. joined (map (λ branch. places_branch branch i) branches))

abbrev Same : Place → Place → Type 0
Same x y = x ≡ y

pub loops_inherited : (body : List Stmt) → Has (joined (map places_in body)) (joined (map places_in (peeled body)))
loops_inherited body =
    (inherited (Both (λ body made. ⊤) Same places_in)
    (with_listed (λ body made. ⊤) Same places_in (λ x. refl) own listed anything
    (λ place branches others each. cobegin_covered (λ body made. ⊤) Same places_in cobegin_is place branches others each)) body).1
