-- How the parts of a statement are copied and counted.
use Rattle.std.specs.Prelude.{◌<◌, ℕ, ◌+◌, ◌-◌, ◌^◌, min, Bool, true, false, not, ◌&&◌, ◌||◌, List, [], ◌∷◌, map, if◌then◌else◌}
use Rattle.bl_tree.specs.declared.place.Place.{Place}
use Rattle.bl_tree.specs.declared.tree.Arm.{Arm, fold-Arm}
use Rattle.bl_tree.specs.declared.tree.Branch.{Branch, fold-Branch}
use Rattle.bl_tree.specs.declared.tree.Stmt.{Stmt, roll-Stmt}
use Rattle.bl_tree.specs.declared.tree.StmtKind.{StmtKind, fold-StmtKind, out-StmtKind, roll-StmtKind}
use Rattle.bl_tree.specs.declared.tree.StmtKind.TheFolds.{map-StmtKind}
use Rattle.bl_tree.specs.declared.tree.StmtKind.TheOpen.{StmtKind-F}
use Rattle.bl_tree.specs.Instant.{BranchInstant, branches_instant}
use Rattle.bl_tree.specs.Reduce.{all_of, any_of, total}
use Rattle.bl_peel.specs.declared.count.BranchesCount.{BranchesCount}
use Rattle.bl_peel.specs.declared.count.Count.{Count}
use Rattle.bl_peel.specs.declared.ends.Ends.{Ends}
use Rattle.bl_peel.specs.declared.bodies.PeelFault.{PeelFault}
use Rattle.bl_peel.specs.declared.bodies.PeelFault.TheVariants.{TooLarge, NoMemory}
use Rattle.bl_peel.specs.declared.turns.FrontArm.{FrontArm}
use Rattle.bl_peel.specs.declared.turns.FrontArms.{FrontArms}
use Rattle.bl_peel.specs.declared.turns.FrontBlock.{FrontBlock}
use Rattle.bl_peel.specs.declared.turns.FrontBranches.{FrontBranches}
use Rattle.bl_peel.specs.Count.{arm_statement_count, branch_statement_count, kind_statement_count, statement_count, stmt_count, stmt_layer_count}
use Rattle.bl_peel.specs.Peeled.{ArmPeeling, BranchPeeling, Peeling, arm_peeling, branch_peeling, deep_of, front_ends, front_of, kind_deep, kind_peeling}
use Rattle.bl_peel.specs.Peeled.{peeled, peeling, stmt_peeling}

-- ---- the parts of a statement

-- whether what a statement does has no blocks in it
abbrev pub kind_has_no_block : StmtKind-F StmtKind Arm Branch Stmt → Bool
kind_has_no_block (StmtKind-F.If arms other) = false
kind_has_no_block (StmtKind-F.Cobegin branches) = false
kind_has_no_block (StmtKind-F.When guard e body) = false
kind_has_no_block (StmtKind-F.Repeat body) = false
kind_has_no_block (StmtKind-F.Until body e) = false
kind_has_no_block (StmtKind-F.While e body) = false
kind_has_no_block _ = true

-- whether a kind of statement has no blocks in it
abbrev pub has_no_block : StmtKind → Bool
has_no_block what = kind_has_no_block (out-StmtKind what)

-- what a kind of statement becomes at a place
abbrev pub peeling_of_kind : StmtKind → Place → Peeling
peeling_of_kind = fold-StmtKind (Place → Peeling) ArmPeeling BranchPeeling Peeling kind_peeling arm_peeling branch_peeling stmt_peeling

-- what an arm becomes
abbrev pub peeling_of_arm : Arm → ArmPeeling
peeling_of_arm = fold-Arm (Place → Peeling) ArmPeeling BranchPeeling Peeling kind_peeling arm_peeling branch_peeling stmt_peeling

-- what a branch becomes
abbrev pub peeling_of_branch : Branch → BranchPeeling
peeling_of_branch = fold-Branch (Place → Peeling) ArmPeeling BranchPeeling Peeling kind_peeling arm_peeling branch_peeling stmt_peeling

-- a layer of a statement, with what its parts become
abbrev pub peeling_parts : StmtKind-F StmtKind Arm Branch Stmt → StmtKind-F (Place → Peeling) ArmPeeling BranchPeeling Peeling
peeling_parts =
    map-StmtKind StmtKind Arm Branch Stmt (Place → Peeling) ArmPeeling BranchPeeling Peeling peeling_of_kind peeling_of_arm peeling_of_branch peeling

-- a kind of statement outside of first turns
abbrev pub deep_of_kind : StmtKind → StmtKind
deep_of_kind what = roll-StmtKind (kind_deep (peeling_parts (out-StmtKind what)))

-- a statement of the kind at the place
abbrev pub placed_stmt : Place → StmtKind → Stmt
placed_stmt place what = roll-Stmt (record { place = place; what = what })

-- ---- the branches of a `cobegin`

-- what branches say of the end of their `cobegin`: whether one is strong, whether each strong one may end at once, and whether some may
abbrev pub ends_of : List BranchInstant → Ends
ends_of branches =
    record {
      is_strong = any_of (map (λ branch. not branch.weak) branches);
      strong = all_of (map (λ branch. branch.weak || branch.instant) branches);
      some = any_of (map (λ branch. branch.instant) branches);
    }

-- what branches say with one branch more
abbrev pub ends_with : Ends → Bool → Bool → Ends
ends_with ends weak instant =
    record { is_strong = ends.is_strong || not weak; strong = ends.strong && (weak || instant); some = ends.some || instant }

-- whether branches that say this let their `cobegin` end in the tick in which it begins
abbrev pub ends_at_once : Ends → Bool
ends_at_once ends = if ends.is_strong then ends.strong else ends.some

-- ---- statements that are made

-- a statement as it becomes part of a list that begins a branch, by whether each before it may end at once
abbrev pub fronted : Bool → Peeling → List Stmt
fronted begins s = if begins then s.front else s.deep ∷ []

-- the rest of a list that begins a branch, by whether each statement before it may end at once
abbrev pub front_after : Bool → List Peeling → List Stmt
front_after begins rest = if begins then front_of rest else deep_of rest

-- a block as it begins a branch
abbrev pub front_block : List Peeling → FrontBlock
front_block body = record { body = front_of body; instant = front_ends body }

-- an arm as it begins a branch
abbrev pub front_arm : ArmPeeling → FrontArm
front_arm arm = record { arm = arm.front; instant = arm.instant }

-- arms as they begin a branch
abbrev pub front_arms : List ArmPeeling → FrontArms
front_arms arms = record { arms = map (λ arm. arm.front) arms; instant = any_of (map (λ arm. arm.instant) arms) }

-- the branches of a `cobegin`, each of which begins with first turns
abbrev pub front_branches : List BranchPeeling → FrontBranches
front_branches branches =
    record { branches = map (λ branch. branch.branch) branches; instant = branches_instant (map (λ branch. branch.ends) branches) }

-- ---- counts

-- a number; one that 64 bits can't hold counts as the greatest that they can
abbrev pub saturated : ℕ → ℕ
saturated n = min n (2 ^ 64 - 1)

-- the statements of an arm
abbrev pub arm_count : Arm → ℕ
arm_count = fold-Arm ℕ ℕ ℕ ℕ kind_statement_count arm_statement_count branch_statement_count stmt_layer_count

-- the statements of a branch
abbrev pub branch_count : Branch → ℕ
branch_count = fold-Branch ℕ ℕ ℕ ℕ kind_statement_count arm_statement_count branch_statement_count stmt_layer_count

-- how many statements one statement becomes
abbrev pub peeled_count : Peeling → Count
peeled_count s = record { deep = saturated (stmt_count s.deep); front = saturated (statement_count s.front); instant = s.instant }

-- how many statements a block becomes
abbrev pub counted_block : List Peeling → Count
counted_block body =
    record { deep = saturated (statement_count (deep_of body)); front = saturated (statement_count (front_of body)); instant = front_ends body }

-- how many statements an arm becomes
abbrev pub counted_arm : ArmPeeling → Count
counted_arm arm = record { deep = saturated (arm_count arm.deep); front = saturated (arm_count arm.front); instant = arm.instant }

-- how many statements arms become, and whether some arm may end at once
abbrev pub counted_arms : List ArmPeeling → Count
counted_arms arms =
    record {
      deep = saturated (total (map arm_count (map (λ arm. arm.deep) arms)));
      front = saturated (total (map arm_count (map (λ arm. arm.front) arms)));
      instant = any_of (map (λ arm. arm.instant) arms);
    }

-- how many statements the branches of a `cobegin` become, and whether they let it end at once
abbrev pub counted_branches : List BranchPeeling → BranchesCount
counted_branches branches =
    record {
      count = saturated (total (map branch_count (map (λ branch. branch.branch) branches)));
      instant = branches_instant (map (λ branch. branch.ends) branches);
    }

-- a statement behind others: one that ends with them begins a branch still
abbrev pub count_then : Count → Count → Count
count_then before next =
    record {
      deep = saturated (before.deep + next.deep);
      front = saturated (before.front + (if before.instant then next.front else next.deep));
      instant = before.instant && next.instant;
    }

-- an arm beside others
abbrev pub count_beside : Count → Count → Count
count_beside before next =
    record {
      deep = saturated (before.deep + next.deep);
      front = saturated (before.front + next.front);
      instant = before.instant || next.instant;
    }

-- a statement without blocks
abbrev pub count_alone : Bool → Count
count_alone instant = record { deep = 1; front = 1; instant = instant }

-- a statement around a block
abbrev pub count_around : Count → Count
count_around body = record { deep = saturated (body.deep + 1); front = saturated (body.front + 1); instant = body.instant }

-- a `cobegin` of branches
abbrev pub count_cobegin : BranchesCount → Count
count_cobegin branches =
    record { deep = saturated (branches.count + 1); front = saturated (branches.count + 1); instant = branches.instant }

-- a loop without a test, behind its first turn
abbrev pub count_repeated : Count → Count
count_repeated body =
    record { deep = saturated (body.deep + 1); front = saturated (body.front + saturated (body.deep + 1)); instant = false }

-- a loop with a test, which its first turn has too
abbrev pub count_tested : Count → Bool → Count
count_tested body instant =
    record { deep = saturated (body.deep + 1); front = saturated (body.front + saturated (saturated (body.deep + 1) + 1)); instant = instant }

-- ---- what is too large

-- why no copy was made of a body: it has more than 10,000 statements, or memory was refused
abbrev pub IsFaultOf : List Stmt → PeelFault → Type 0
IsFaultOf body TooLarge = 10000 < statement_count (peeled body)
IsFaultOf body NoMemory = Unit {0}
