-- How counts of parts come to the count of the whole.
use Rattle.std.proofs.Common.{◌≡◌, ℕ, ◌+◌, ◌<◌, ◌≤◌, Bool, true, false, not, ◌&&◌, ◌||◌, List, [], ◌∷◌, ◌++◌, map, length, get_or, take, refl, ap, sym, ◌∙◌}
use Rattle.std.proofs.Common.{arith, append_assoc, append-nil}
use Rattle.std.specs.Prelude.{if◌then◌else◌}
use Rattle.std.proofs.lemmas.List.{map-append, take_all, take_more}
use Rattle.bl_tree.proofs.Basics.{and_true, or_false}
use Rattle.bl_tree.specs.declared.place.Place.{Place}
use Rattle.bl_tree.specs.declared.tree.Arm.{Arm, out-Arm}
use Rattle.bl_tree.specs.declared.tree.Branch.{Branch, out-Branch}
use Rattle.bl_tree.specs.declared.tree.Expr.{Expr}
use Rattle.bl_tree.specs.declared.tree.Guard.{Guard}
use Rattle.bl_tree.specs.declared.tree.Stmt.{Stmt}
use Rattle.bl_tree.specs.declared.tree.StmtKind.{StmtKind, out-StmtKind}
use Rattle.bl_tree.specs.declared.tree.StmtKind.TheOpen.{StmtKind-F}
use Rattle.bl_tree.specs.Instant.{BranchInstant, branches_instant, kind_instant}
use Rattle.bl_tree.specs.Reduce.{all_of, any_of, total}
use Rattle.bl_tree.proofs.ReduceLemmas.{all_of-append, any_of-append, total-append}
use Rattle.bl_peel.specs.declared.count.BranchesCount.{BranchesCount}
use Rattle.bl_peel.specs.declared.count.Count.{Count}
use Rattle.bl_peel.specs.declared.ends.Ends.{Ends}
use Rattle.bl_peel.specs.Count.{kind_statement_count, statement_count, stmt_count}
use Rattle.bl_peel.specs.Peeled.{ArmPeeling, BranchPeeling, Peeling, deep_of, front_ends, front_of, instants_within, kind_deep, kind_front, kind_peeling}
use Rattle.bl_peel.specs.Peeled.{made_arm, made_if, made_stmt, peeling, place_of_expr}
use Rattle.bl_peel.specs.inner.Parts.{arm_count, branch_count, count_alone, count_around, count_beside, count_cobegin, count_repeated, count_tested, count_then}
use Rattle.bl_peel.specs.inner.Parts.{counted_arm, counted_arms, counted_block, counted_branches, ends_at_once, ends_of, ends_with, fronted, kind_has_no_block}
use Rattle.bl_peel.specs.inner.Parts.{peeled_count, peeling_of_arm, peeling_of_branch, peeling_of_kind, peeling_parts, saturated}
use Rattle.bl_peel.proofs.Equations.{arm_out, branch_out, count_arm, count_at, count_branch, count_parts, kind_out}

-- ---- lists with one element more

pub mapped_more : {A B : Type 0} (f : A → B) (xs : List A) (k : ℕ) (x : A) → k < length xs → x ≡ get_or xs k x →
    map f (take (k + 1) xs) ≡ map f (take k xs) ++ f x ∷ []
mapped_more f xs k x within is =
    ap (map f) (take_more xs k x within) ∙ map-append f (take k xs) (get_or xs k x ∷ []) ∙ ap (λ y. map f (take k xs) ++ f y ∷ []) (sym is)

total_mapped : {A B : Type 0} (g : A → B) (f : B → ℕ) (xs : List A) (x : A) → total (map f (map g (xs ++ x ∷ []))) ≡ total (map f (map g xs)) + f (g x)
total_mapped g f [] x = omega arith
total_mapped g f (y ∷ xs) x = omega (arith, total_mapped g f xs x)

all_mapped : {A : Type 0} (f : A → Bool) (xs : List A) (x : A) → all_of (map f (xs ++ x ∷ [])) ≡ (all_of (map f xs) && f x)
all_mapped f xs x =
    ap all_of (map-append f xs (x ∷ [])) ∙ all_of-append (map f xs) (f x ∷ []) ∙ ap (λ last. all_of (map f xs) && last) (and_true (f x))

any_mapped : {A : Type 0} (f : A → Bool) (xs : List A) (x : A) → any_of (map f (xs ++ x ∷ [])) ≡ (any_of (map f xs) || f x)
any_mapped f xs x =
    ap any_of (map-append f xs (x ∷ [])) ∙ any_of-append (map f xs) (f x ∷ []) ∙ ap (λ last. any_of (map f xs) || last) (or_false (f x))

pub ends_more : (branches : List BranchInstant) (branch : BranchInstant) →
    ends_of (branches ++ branch ∷ []) ≡ ends_with (ends_of branches) branch.weak branch.instant
ends_more branches branch = λ i. record {
  is_strong = any_mapped (λ branch. not branch.weak) branches branch i;
  strong = all_mapped (λ branch. branch.weak || branch.instant) branches branch i;
  some = any_mapped (λ branch. branch.instant) branches branch i;
}

-- ---- numbers

sum_is : (n a b : ℕ) → n ≡ a + b → saturated n ≡ saturated (saturated a + saturated b)
sum_is n a b is = omega arith

one_more : (n a : ℕ) → n ≡ 1 + a → saturated n ≡ saturated (saturated a + 1)
one_more n a is = omega arith

around_two : (n a b : ℕ) → n ≡ 1 + (a + b) → saturated n ≡ saturated (saturated (saturated a + saturated b) + 1)
around_two n a b is = omega arith

behind_turn : (n a b loop : ℕ) → n ≡ a + (loop + 0) → loop ≡ 1 + b → saturated n ≡ saturated (saturated a + saturated (saturated b + 1))
behind_turn n a b loop is own = omega arith

behind_tested : (n a b loop : ℕ) → n ≡ a + (1 + loop) → loop ≡ 1 + b →
    saturated n ≡ saturated (saturated a + saturated (saturated (saturated b + 1) + 1))
behind_tested n a b loop is own = omega arith

pub counts_both : (xs ys : List Stmt) → statement_count (xs ++ ys) ≡ statement_count xs + statement_count ys
counts_both xs ys = ap total (map-append stmt_count xs ys) ∙ total-append (map stmt_count xs) (map stmt_count ys)

-- ---- blocks

front_one : (c : Bool) (s : Peeling) → s.front ++ (if c then [] else []) ≡ s.front
front_one true s = append-nil s.front
front_one false s = append-nil s.front

front_behind : (c : Bool) (t s : Peeling) (body : List Peeling) → front_of (body ++ s ∷ []) ≡ front_of body ++ fronted (front_ends body) s →
    t.front ++ (if c then front_of (body ++ s ∷ []) else deep_of (body ++ s ∷ []))
    ≡ (t.front ++ (if c then front_of body else deep_of body)) ++ fronted (c && front_ends body) s
front_behind true t s body more =
    ap (λ rest. t.front ++ rest) more ∙ sym (append_assoc t.front (front_of body) (fronted (front_ends body) s))
front_behind false t s body more =
    ap (λ rest. t.front ++ rest) (map-append (λ (s : Peeling). s.deep) body (s ∷ [])) ∙ sym (append_assoc t.front (deep_of body) (s.deep ∷ []))

front_more : (body : List Peeling) (s : Peeling) → front_of (body ++ s ∷ []) ≡ front_of body ++ fronted (front_ends body) s
front_more [] s = front_one s.instant s
front_more (t ∷ body) s = front_behind t.instant t s body (front_more body s)

front_counts : (c : Bool) (s : Peeling) (n a : ℕ) → n ≡ a + statement_count (fronted c s) →
    saturated n ≡ saturated (saturated a + (if c then saturated (statement_count s.front) else saturated (stmt_count s.deep)))
front_counts true s n a is = sum_is n a (statement_count s.front) is
front_counts false s n a is = sum_is n a (stmt_count s.deep) (omega arith)

block_more : (body : List Peeling) (s : Peeling) → counted_block (body ++ s ∷ []) ≡ count_then (counted_block body) (peeled_count s)
block_more body s = λ i. record {
  deep = sum_is (statement_count (deep_of (body ++ s ∷ []))) (statement_count (deep_of body)) (stmt_count s.deep)
      (total_mapped (λ (s : Peeling). s.deep) stmt_count body s) i;
  front = front_counts (front_ends body) s (statement_count (front_of (body ++ s ∷ []))) (statement_count (front_of body))
      (ap statement_count (front_more body s) ∙ counts_both (front_of body) (fronted (front_ends body) s)) i;
  instant = all_mapped (λ (s : Peeling). s.instant) body s i;
}

pub block_step : (body : List Stmt) (k : ℕ) (s : Stmt) (before next after : Count) → k < length body → s ≡ get_or body k s →
    next ≡ peeled_count (peeling s) → after ≡ count_then before next → before ≡ counted_block (map peeling (take k body)) →
    after ≡ counted_block (map peeling (take (k + 1) body))
block_step body k s before next after within is one made so_far =
    made ∙ (λ i. count_then (so_far i) (one i))
    ∙ sym (ap counted_block (mapped_more peeling body k s within is) ∙ block_more (map peeling (take k body)) (peeling s))

pub block_done : (body : List Stmt) (k : ℕ) (all : Count) → length body ≤ k → all ≡ counted_block (map peeling (take k body)) →
    all ≡ counted_block (map peeling body)
block_done body k all over so_far = so_far ∙ ap (λ front. counted_block (map peeling front)) (take_all k body over)

-- ---- arms

arms_more : (arms : List ArmPeeling) (arm : ArmPeeling) → counted_arms (arms ++ arm ∷ []) ≡ count_beside (counted_arms arms) (counted_arm arm)
arms_more arms arm = λ i. record {
  deep = sum_is (total (map arm_count (map (λ (arm : ArmPeeling). arm.deep) (arms ++ arm ∷ []))))
      (total (map arm_count (map (λ (arm : ArmPeeling). arm.deep) arms))) (arm_count arm.deep)
      (total_mapped (λ (arm : ArmPeeling). arm.deep) arm_count arms arm) i;
  front = sum_is (total (map arm_count (map (λ (arm : ArmPeeling). arm.front) (arms ++ arm ∷ []))))
      (total (map arm_count (map (λ (arm : ArmPeeling). arm.front) arms))) (arm_count arm.front)
      (total_mapped (λ (arm : ArmPeeling). arm.front) arm_count arms arm) i;
  instant = any_mapped (λ (arm : ArmPeeling). arm.instant) arms arm i;
}

pub arms_step : (arms : List Arm) (k : ℕ) (arm : Arm) (before next after : Count) → k < length arms → arm ≡ get_or arms k arm →
    next ≡ counted_arm (peeling_of_arm arm) → after ≡ count_beside before next → before ≡ counted_arms (map peeling_of_arm (take k arms)) →
    after ≡ counted_arms (map peeling_of_arm (take (k + 1) arms))
arms_step arms k arm before next after within is one made so_far =
    made ∙ (λ i. count_beside (so_far i) (one i))
    ∙ sym (ap counted_arms (mapped_more peeling_of_arm arms k arm within is) ∙ arms_more (map peeling_of_arm (take k arms)) (peeling_of_arm arm))

pub arms_done : (arms : List Arm) (k : ℕ) (all : Count) → length arms ≤ k → all ≡ counted_arms (map peeling_of_arm (take k arms)) →
    all ≡ counted_arms (map peeling_of_arm arms)
arms_done arms k all over so_far = so_far ∙ ap (λ front. counted_arms (map peeling_of_arm front)) (take_all k arms over)

-- an arm counts as its block does
pub arm_counts : (arm : Arm) → counted_block (map peeling (out-Arm arm).body) ≡ counted_arm (peeling_of_arm arm)
arm_counts arm =
    (λ i. record {
      deep = saturated (sym (count_arm (out-Arm arm).test (deep_of (map peeling (out-Arm arm).body))) i);
      front = saturated (sym (count_arm (out-Arm arm).test (front_of (map peeling (out-Arm arm).body))) i);
      instant = front_ends (map peeling (out-Arm arm).body);
    })
    ∙ sym (ap counted_arm (arm_out arm))

-- ---- branches

abbrev pub branches_so_far : List Branch → ℕ
branches_so_far branches = total (map branch_count (map (λ branch. branch.branch) (map peeling_of_branch branches)))

pub branch_counts : (branch : Branch) → branch_count (peeling_of_branch branch).branch ≡ statement_count (front_of (map peeling (out-Branch branch).body))
branch_counts branch =
    ap (λ (made : BranchPeeling). branch_count made.branch) (branch_out branch) ∙ count_branch (out-Branch branch).weak (front_of (map peeling (out-Branch branch).body))

pub branch_ends : (branch : Branch) →
    (peeling_of_branch branch).ends ≡ record { weak = (out-Branch branch).weak; instant = front_ends (map peeling (out-Branch branch).body) }
branch_ends branch = ap (λ (made : BranchPeeling). made.ends) (branch_out branch)

pub branches_step : (branches : List Branch) (k : ℕ) (branch : Branch) (before here after : ℕ) → k < length branches → branch ≡ get_or branches k branch →
    here ≡ saturated (statement_count (front_of (map peeling (out-Branch branch).body))) → after ≡ saturated (before + here) →
    before ≡ saturated (branches_so_far (take k branches)) → after ≡ saturated (branches_so_far (take (k + 1) branches))
branches_step branches k branch before here after within is one made so_far =
    let more : branches_so_far (take (k + 1) branches) ≡ branches_so_far (take k branches) + branch_count (peeling_of_branch branch).branch =
    ap (λ (made : List BranchPeeling). total (map branch_count (map (λ (branch : BranchPeeling). branch.branch) made))) (mapped_more peeling_of_branch branches k branch within is)
    ∙ total_mapped (λ (branch : BranchPeeling). branch.branch) branch_count (map peeling_of_branch (take k branches)) (peeling_of_branch branch) in
    let counts = branch_counts branch in
    omega arith

abbrev pub ends_so_far : List Branch → Ends
ends_so_far branches = ends_of (map (λ branch. branch.ends) (map peeling_of_branch branches))

pub ends_step : (branches : List Branch) (k : ℕ) (branch : Branch) (weak instant : Bool) (before after : Ends) → k < length branches →
    branch ≡ get_or branches k branch → weak ≡ (out-Branch branch).weak → instant ≡ front_ends (map peeling (out-Branch branch).body) →
    after ≡ ends_with before weak instant → before ≡ ends_so_far (take k branches) → after ≡ ends_so_far (take (k + 1) branches)
ends_step branches k branch weak instant before after within is is_weak is_instant made so_far =
    made ∙ (λ i. ends_with (so_far i) (is_weak i) (is_instant i))
    ∙ (λ i. ends_with (ends_so_far (take k branches)) (sym (branch_ends branch) i).weak (sym (branch_ends branch) i).instant)
    ∙ sym (ap ends_of (ap (map (λ (branch : BranchPeeling). branch.ends)) (mapped_more peeling_of_branch branches k branch within is)
    ∙ map-append (λ (branch : BranchPeeling). branch.ends) (map peeling_of_branch (take k branches)) (peeling_of_branch branch ∷ []))
    ∙ ends_more (map (λ (branch : BranchPeeling). branch.ends) (map peeling_of_branch (take k branches))) (peeling_of_branch branch).ends)

abbrev pub branches_count : ℕ → Bool → BranchesCount
branches_count count instant = record { count = count; instant = instant }

pub branches_done : (branches : List Branch) (k count : ℕ) (ends : Ends) (instant : Bool) → length branches ≤ k →
    count ≡ saturated (branches_so_far (take k branches)) → ends ≡ ends_so_far (take k branches) → instant ≡ ends_at_once ends →
    branches_count count instant ≡ counted_branches (map peeling_of_branch branches)
branches_done branches k count ends instant over counts ending at_once =
    let all = take_all k branches over in
    let counted_is = counts ∙ ap (λ front. saturated (branches_so_far front)) all in
    let instant_is = at_once ∙ ap ends_at_once (ending ∙ ap ends_so_far all) in
    λ i. record { count = counted_is i; instant = instant_is i }

-- ---- kinds of statements

-- what a kind becomes, by its parts
pub kind_is : (what : StmtKind) (layer : StmtKind-F StmtKind Arm Branch Stmt) → out-StmtKind what ≡ layer → (place : Place) →
    peeling_of_kind what place ≡ kind_peeling (peeling_parts layer) place
kind_is what layer is place = kind_out what place ∙ ap (λ layer. kind_peeling (peeling_parts layer) place) is

one_is : (n : ℕ) → n ≡ 1 → 1 ≡ saturated n
one_is n is = omega arith

alone_one : (n m : ℕ) → n ≡ m → n + 0 ≡ m
alone_one n m is = omega arith

alone_counts : (place : Place) (layer : StmtKind-F StmtKind Arm Branch Stmt) (instant : Bool) → kind_deep (peeling_parts layer) ≡ layer →
    kind_front (peeling_parts layer) place ≡ made_stmt place layer ∷ [] → kind_statement_count (count_parts layer) ≡ 1 →
    kind_instant (instants_within (peeling_parts layer)) ≡ instant → count_alone instant ≡ peeled_count (kind_peeling (peeling_parts layer) place)
alone_counts place layer instant deep_is front_is one ends =
    let counts = count_at place layer ∙ one in
    λ i. record {
      deep = (one_is (stmt_count (made_stmt place layer)) counts ∙ ap (λ made. saturated (stmt_count (made_stmt place made))) (sym deep_is)) i;
      front = (one_is (stmt_count (made_stmt place layer) + 0) (alone_one (stmt_count (made_stmt place layer)) 1 counts)
          ∙ ap (λ made. saturated (statement_count made)) (sym front_is)) i;
      instant = sym ends i;
    }

counted_if : (place : Place) (arms : List ArmPeeling) (other : List Peeling) →
    count_around (count_beside (counted_arms arms) (counted_block other)) ≡ peeled_count (kind_peeling (StmtKind-F.If arms other) place)
counted_if place arms other =
    let deep_is = count_at place (StmtKind-F.If (map (λ (arm : ArmPeeling). arm.deep) arms) (deep_of other)) in
    let front_is = count_at place (StmtKind-F.If (map (λ (arm : ArmPeeling). arm.front) arms) (front_of other)) in
    λ i. record {
      deep = sym (around_two (stmt_count (made_stmt place (StmtKind-F.If (map (λ (arm : ArmPeeling). arm.deep) arms) (deep_of other))))
          (total (map arm_count (map (λ (arm : ArmPeeling). arm.deep) arms))) (statement_count (deep_of other)) deep_is) i;
      front = sym (around_two (statement_count (made_stmt place (StmtKind-F.If (map (λ (arm : ArmPeeling). arm.front) arms) (front_of other)) ∷ []))
          (total (map arm_count (map (λ (arm : ArmPeeling). arm.front) arms))) (statement_count (front_of other))
          (alone_one (stmt_count (made_stmt place (StmtKind-F.If (map (λ (arm : ArmPeeling). arm.front) arms) (front_of other)))) _ front_is)) i;
      instant = any_of (map (λ (arm : ArmPeeling). arm.instant) arms) || front_ends other;
    }

counted_cobegin : (place : Place) (branches : List BranchPeeling) →
    count_cobegin (counted_branches branches) ≡ peeled_count (kind_peeling (StmtKind-F.Cobegin branches) place)
counted_cobegin place branches =
    let made = count_at place (StmtKind-F.Cobegin (map (λ (branch : BranchPeeling). branch.branch) branches)) in
    λ i. record {
      deep = sym (one_more (stmt_count (made_stmt place (StmtKind-F.Cobegin (map (λ (branch : BranchPeeling). branch.branch) branches))))
          (total (map branch_count (map (λ (branch : BranchPeeling). branch.branch) branches))) made) i;
      front = sym (one_more (statement_count (made_stmt place (StmtKind-F.Cobegin (map (λ (branch : BranchPeeling). branch.branch) branches)) ∷ []))
          (total (map branch_count (map (λ (branch : BranchPeeling). branch.branch) branches)))
          (alone_one (stmt_count (made_stmt place (StmtKind-F.Cobegin (map (λ (branch : BranchPeeling). branch.branch) branches)))) _ made)) i;
      instant = branches_instant (map (λ (branch : BranchPeeling). branch.ends) branches);
    }

counted_when : (place : Place) (guard : Guard) (e : Expr) (body : List Peeling) →
    count_around (counted_block body) ≡ peeled_count (kind_peeling (StmtKind-F.When guard e body) place)
counted_when place guard e body = λ i. record {
  deep = sym (one_more (stmt_count (made_stmt place (StmtKind-F.When guard e (deep_of body)))) (statement_count (deep_of body))
      (count_at place (StmtKind-F.When guard e (deep_of body)))) i;
  front = sym (one_more (statement_count (made_stmt place (StmtKind-F.When guard e (front_of body)) ∷ [])) (statement_count (front_of body))
      (alone_one (stmt_count (made_stmt place (StmtKind-F.When guard e (front_of body)))) (1 + statement_count (front_of body))
      (count_at place (StmtKind-F.When guard e (front_of body))))) i;
  instant = front_ends body;
}

counted_repeat : (place : Place) (body : List Peeling) → count_repeated (counted_block body) ≡ peeled_count (kind_peeling (StmtKind-F.Repeat body) place)
counted_repeat place body =
    let loop = made_stmt place (StmtKind-F.Repeat (deep_of body)) in
    let own : stmt_count (made_stmt place (StmtKind-F.Repeat (deep_of body))) ≡ 1 + statement_count (deep_of body) =
    count_at place (StmtKind-F.Repeat (deep_of body)) in
    λ i. record {
      deep = sym (one_more (stmt_count loop) (statement_count (deep_of body)) own) i;
      front = sym (behind_turn (statement_count (front_of body ++ loop ∷ [])) (statement_count (front_of body)) (statement_count (deep_of body))
          (stmt_count loop) (counts_both (front_of body) (loop ∷ [])) own) i;
      instant = false;
    }

test_counts : (e : Expr) (body other : List Stmt) → stmt_count (made_if e body other) ≡ 1 + ((statement_count body + 0) + statement_count other)
test_counts e body other =
    count_at (place_of_expr e) (StmtKind-F.If (made_arm e body ∷ []) other) ∙ ap (λ n. 1 + ((n + 0) + statement_count other)) (count_arm e body)

until_counts : (n a test loop : ℕ) → n ≡ a + (test + 0) → test ≡ 1 + ((0 + 0) + (loop + 0)) → n ≡ a + (1 + loop)
until_counts n a test loop is own = omega arith

counted_until : (place : Place) (body : List Peeling) (e : Expr) →
    count_tested (counted_block body) (front_ends body) ≡ peeled_count (kind_peeling (StmtKind-F.Until body e) place)
counted_until place body e =
    let loop = made_stmt place (StmtKind-F.Until (deep_of body) e) in
    let own : stmt_count (made_stmt place (StmtKind-F.Until (deep_of body) e)) ≡ 1 + statement_count (deep_of body) =
    count_at place (StmtKind-F.Until (deep_of body) e) in
    λ i. record {
      deep = sym (one_more (stmt_count loop) (statement_count (deep_of body)) own) i;
      front = sym (behind_tested (statement_count (front_of body ++ made_if e [] (loop ∷ []) ∷ [])) (statement_count (front_of body))
          (statement_count (deep_of body)) (stmt_count loop)
          (until_counts (statement_count (front_of body ++ made_if e [] (loop ∷ []) ∷ [])) (statement_count (front_of body))
          (stmt_count (made_if e [] (loop ∷ []))) (stmt_count loop) (counts_both (front_of body) (made_if e [] (loop ∷ []) ∷ []))
          (test_counts e [] (loop ∷ []))) own) i;
      instant = front_ends body;
    }

while_counts : (turn a test loop : ℕ) → turn ≡ a + (loop + 0) → test ≡ 1 + ((turn + 0) + 0) → test + 0 ≡ a + (1 + loop)
while_counts turn a test loop is own = omega arith

counted_while : (place : Place) (e : Expr) (body : List Peeling) →
    count_tested (counted_block body) true ≡ peeled_count (kind_peeling (StmtKind-F.While e body) place)
counted_while place e body =
    let loop = made_stmt place (StmtKind-F.While e (deep_of body)) in
    let own : stmt_count (made_stmt place (StmtKind-F.While e (deep_of body))) ≡ 1 + statement_count (deep_of body) =
    count_at place (StmtKind-F.While e (deep_of body)) in
    λ i. record {
      deep = sym (one_more (stmt_count loop) (statement_count (deep_of body)) own) i;
      front = sym (behind_tested (stmt_count (made_if e (front_of body ++ loop ∷ []) []) + 0) (statement_count (front_of body))
          (statement_count (deep_of body)) (stmt_count loop)
          (while_counts (statement_count (front_of body ++ loop ∷ [])) (statement_count (front_of body))
          (stmt_count (made_if e (front_of body ++ loop ∷ []) [])) (stmt_count loop) (counts_both (front_of body) (loop ∷ []))
          (test_counts e (front_of body ++ loop ∷ []) [])) own) i;
      instant = true;
    }

-- ---- what a kind of statement counts, by what it is

module _ (what : StmtKind) (place : Place) (made : Count) where
  alone_layer : (layer : StmtKind-F StmtKind Arm Branch Stmt) (instant : Bool) → kind_deep (peeling_parts layer) ≡ layer →
      kind_front (peeling_parts layer) place ≡ made_stmt place layer ∷ [] → kind_statement_count (count_parts layer) ≡ 1 →
      kind_instant (instants_within (peeling_parts layer)) ≡ instant → out-StmtKind what ≡ layer → made ≡ count_alone instant →
      made ≡ peeled_count (peeling_of_kind what place)
  alone_layer layer instant deep front one ends is counts =
      counts ∙ alone_counts place layer instant deep front one ends ∙ sym (ap peeled_count (kind_is what layer is place))

  by_layer : (layer : StmtKind-F StmtKind Arm Branch Stmt) (instant : Bool) → kind_has_no_block layer ≡ true →
      kind_instant (instants_within (peeling_parts layer)) ≡ instant → out-StmtKind what ≡ layer → made ≡ count_alone instant →
      made ≡ peeled_count (peeling_of_kind what place)
  by_layer (StmtKind-F.Declare k initial) instant none = alone_layer (StmtKind-F.Declare k initial) instant refl refl refl
  by_layer (StmtKind-F.Assign path e) instant none = alone_layer (StmtKind-F.Assign path e) instant refl refl refl
  by_layer (StmtKind-F.Call f inputs outputs) instant none = alone_layer (StmtKind-F.Call f inputs outputs) instant refl refl refl
  by_layer (StmtKind-F.Await e) instant none = alone_layer (StmtKind-F.Await e) instant refl refl refl
  by_layer (StmtKind-F.Run target a inputs outputs) instant none = alone_layer (StmtKind-F.Run target a inputs outputs) instant refl refl refl
  by_layer (StmtKind-F.Return e) instant none = alone_layer (StmtKind-F.Return e) instant refl refl refl
  by_layer (StmtKind-F.If arms other) instant none = absurd cc
  by_layer (StmtKind-F.Cobegin branches) instant none = absurd cc
  by_layer (StmtKind-F.When guard e body) instant none = absurd cc
  by_layer (StmtKind-F.Repeat body) instant none = absurd cc
  by_layer (StmtKind-F.Until body e) instant none = absurd cc
  by_layer (StmtKind-F.While e body) instant none = absurd cc

  pub is_alone : (instant : Bool) → kind_has_no_block (out-StmtKind what) ≡ true →
      kind_instant (instants_within (peeling_parts (out-StmtKind what))) ≡ instant → made ≡ count_alone instant →
      made ≡ peeled_count (peeling_of_kind what place)
  is_alone instant none ends counts = by_layer (out-StmtKind what) instant none ends refl counts

  pub is_if : (arms : List Arm) (other : List Stmt) → out-StmtKind what ≡ StmtKind-F.If arms other →
      made ≡ count_around (count_beside (counted_arms (map peeling_of_arm arms)) (counted_block (map peeling other))) →
      made ≡ peeled_count (peeling_of_kind what place)
  is_if arms other is counts =
      counts ∙ counted_if place (map peeling_of_arm arms) (map peeling other) ∙ sym (ap peeled_count (kind_is what (StmtKind-F.If arms other) is place))

  pub is_cobegin : (branches : List Branch) → out-StmtKind what ≡ StmtKind-F.Cobegin branches →
      made ≡ count_cobegin (counted_branches (map peeling_of_branch branches)) → made ≡ peeled_count (peeling_of_kind what place)
  is_cobegin branches is counts =
      counts ∙ counted_cobegin place (map peeling_of_branch branches) ∙ sym (ap peeled_count (kind_is what (StmtKind-F.Cobegin branches) is place))

  pub is_when : (guard : Guard) (e : Expr) (body : List Stmt) → out-StmtKind what ≡ StmtKind-F.When guard e body →
      made ≡ count_around (counted_block (map peeling body)) → made ≡ peeled_count (peeling_of_kind what place)
  is_when guard e body is counts =
      counts ∙ counted_when place guard e (map peeling body) ∙ sym (ap peeled_count (kind_is what (StmtKind-F.When guard e body) is place))

  pub is_repeat : (body : List Stmt) → out-StmtKind what ≡ StmtKind-F.Repeat body →
      made ≡ count_repeated (counted_block (map peeling body)) → made ≡ peeled_count (peeling_of_kind what place)
  is_repeat body is counts =
      counts ∙ counted_repeat place (map peeling body) ∙ sym (ap peeled_count (kind_is what (StmtKind-F.Repeat body) is place))

  pub is_until : (body : List Stmt) (e : Expr) → out-StmtKind what ≡ StmtKind-F.Until body e →
      made ≡ count_tested (counted_block (map peeling body)) (front_ends (map peeling body)) → made ≡ peeled_count (peeling_of_kind what place)
  is_until body e is counts =
      counts ∙ counted_until place (map peeling body) e ∙ sym (ap peeled_count (kind_is what (StmtKind-F.Until body e) is place))

  pub is_while : (e : Expr) (body : List Stmt) → out-StmtKind what ≡ StmtKind-F.While e body →
      made ≡ count_tested (counted_block (map peeling body)) true → made ≡ peeled_count (peeling_of_kind what place)
  is_while e body is counts =
      counts ∙ counted_while place e (map peeling body) ∙ sym (ap peeled_count (kind_is what (StmtKind-F.While e body) is place))
