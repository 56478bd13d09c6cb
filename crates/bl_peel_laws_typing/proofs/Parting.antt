-- Branches of peeled bodies keep apart where those of their sources do.
use Rattle.std.proofs.Common.{◌≡◌, Bool, ◌&&◌, List, [], ◌∷◌, ◌++◌, map, refl, ap, sym, ◌∙◌}
use Rattle.std.specs.List.{list_all}
use Rattle.std.proofs.lemmas.List.{map-append}
use Rattle.bl_tree.specs.declared.place.Place.{Place}
use Rattle.bl_tree.specs.declared.tree.Arm.{Arm, fold-Arm, fold-roll-Arm}
use Rattle.bl_tree.specs.declared.tree.Branch.{Branch, fold-Branch, fold-roll-Branch}
use Rattle.bl_tree.specs.declared.tree.Expr.{Expr}
use Rattle.bl_tree.specs.declared.tree.Stmt.{Stmt, fold-roll-Stmt}
use Rattle.bl_tree.specs.declared.tree.StmtKind.{StmtKind, fold-StmtKind, fold-roll-StmtKind}
use Rattle.bl_tree.specs.declared.tree.StmtKind.TheFolds.{map-StmtKind}
use Rattle.bl_tree.specs.declared.tree.StmtKind.TheOpen.{StmtKind-F}
use Rattle.bl_tree.specs.Apart.{Naming, arm_naming, branch_naming, is_apart, naming, naming_of, roots_in, stmt_kind_naming, stmt_layer_naming, together}
use Rattle.bl_tree.proofs.StmtInduction.{stmt}
use Rattle.bl_peel.specs.Peeled.{made_arm, made_if, peeled, place_of_expr}
use Rattle.bl_peel.proofs.Equations.{made_branch}
use Rattle.bl_peel_laws_typing.specs.Typing.{PeeledIsApart}
use Rattle.bl_peel_laws_typing.proofs.Copying.{ArmsCopy, BranchesCopy, Copies, body_copied, more_arms, more_branches, no_arms, no_branches}
use Rattle.bl_peel_laws_typing.proofs.Namings.{NoMore, NoMoreEach, branches_no_more, each_more, each_none, no_more_behind, no_more_front, no_more_is}
use Rattle.bl_peel_laws_typing.proofs.Namings.{no_more_itself, no_more_joined, no_more_none, no_more_pair, no_more_then, pair, together_joins}

-- ---- what statements, arms and branches declare and name

abbrev naming_of_kind : StmtKind → Naming
naming_of_kind = fold-StmtKind Naming Naming Naming Naming stmt_kind_naming arm_naming branch_naming stmt_layer_naming

abbrev naming_of_arm : Arm → Naming
naming_of_arm = fold-Arm Naming Naming Naming Naming stmt_kind_naming arm_naming branch_naming stmt_layer_naming

abbrev naming_of_branch : Branch → Naming
naming_of_branch = fold-Branch Naming Naming Naming Naming stmt_kind_naming arm_naming branch_naming stmt_layer_naming

abbrev naming_parts : StmtKind-F StmtKind Arm Branch Stmt → StmtKind-F Naming Naming Naming Naming
naming_parts = map-StmtKind StmtKind Arm Branch Stmt Naming Naming Naming Naming naming_of_kind naming_of_arm naming_of_branch naming_of

naming_at : (place : Place) (layer : StmtKind-F StmtKind Arm Branch Stmt) → naming_of (stmt place layer) ≡ stmt_kind_naming (naming_parts layer)
naming_at place layer = rw (fold-roll-Stmt, fold-roll-StmtKind) refl

abbrev block_naming : List Stmt → Naming
block_naming body = together (map naming_of body)

abbrev tested : Expr → Naming → Naming
tested e body = pair (naming (roots_in e)) body

abbrev none : Naming
none = together []

arm_is : (e : Expr) (body : List Stmt) → naming_of_arm (made_arm e body) ≡ tested e (block_naming body)
arm_is e body = rw fold-roll-Arm refl

branch_is : (weak : Bool) (body : List Stmt) → naming_of_branch (made_branch weak body) ≡ block_naming body
branch_is weak body = rw fold-roll-Branch refl

joins : (a b : List Stmt) → block_naming (a ++ b) ≡ pair (block_naming a) (block_naming b)
joins a b = ap together (map-append naming_of a b) ∙ together_joins (map naming_of a) (map naming_of b)

-- an `if` that is made of the test of a loop
test_is : (e : Expr) (body other : List Stmt) → naming_of (made_if e body other) ≡ pair (tested e (block_naming body)) (block_naming other)
test_is e body other =
    naming_at (place_of_expr e) (StmtKind-F.If (made_arm e body ∷ []) other) ∙ ap (λ arm. pair arm (block_naming other)) (arm_is e body)

-- ---- blocks that declare and name no more

abbrev NamedNoMore : List Stmt → List Stmt → Type 0
NamedNoMore a b = NoMore (block_naming b) (block_naming a)

-- two statements by their kinds
no_more_at : (place : Place) (one other : StmtKind-F StmtKind Arm Branch Stmt) →
    NoMore (stmt_kind_naming (naming_parts other)) (stmt_kind_naming (naming_parts one)) → NamedNoMore (stmt place one ∷ []) (stmt place other ∷ [])
no_more_at place one other most =
    no_more_pair (naming_of (stmt place other)) none (naming_of (stmt place one)) none
    (no_more_then (naming_of (stmt place other)) (stmt_kind_naming (naming_parts other)) (naming_of (stmt place one))
    (no_more_is (naming_of (stmt place other)) (stmt_kind_naming (naming_parts other)) (naming_at place other))
    (no_more_then (stmt_kind_naming (naming_parts other)) (stmt_kind_naming (naming_parts one)) (naming_of (stmt place one)) most
    (no_more_is (stmt_kind_naming (naming_parts one)) (naming_of (stmt place one)) (sym (naming_at place one)))))
    (no_more_itself none)

-- a block that is no more than a kind of statement, in place of that statement
in_place : (place : Place) (layer : StmtKind-F StmtKind Arm Branch Stmt) (made : Naming) → NoMore made (stmt_kind_naming (naming_parts layer)) →
    NoMore made (block_naming (stmt place layer ∷ []))
in_place place layer made most =
    no_more_then made (naming_of (stmt place layer)) (block_naming (stmt place layer ∷ []))
    (no_more_then made (stmt_kind_naming (naming_parts layer)) (naming_of (stmt place layer)) most
    (no_more_is (stmt_kind_naming (naming_parts layer)) (naming_of (stmt place layer)) (sym (naming_at place layer))))
    (no_more_front (naming_of (stmt place layer)) none)

-- a block of one statement that is no more
alone : (s : Stmt) (is made : Naming) → naming_of s ≡ is → NoMore is made → NoMore (block_naming (s ∷ [])) made
alone s is made same most =
    no_more_joined (naming_of s) none made (no_more_then (naming_of s) is made (no_more_is (naming_of s) is same) most) (no_more_none made)

-- two blocks, one behind the other
behind : (a b : List Stmt) (whole : Naming) → NoMore (block_naming a) whole → NoMore (block_naming b) whole → NoMore (block_naming (a ++ b)) whole
behind a b whole one other =
    no_more_then (block_naming (a ++ b)) (pair (block_naming a) (block_naming b)) whole
    (no_more_is (block_naming (a ++ b)) (pair (block_naming a) (block_naming b)) (joins a b))
    (no_more_joined (block_naming a) (block_naming b) whole one other)

-- the test of a loop with what is no more than the loop behind it
test_no_more : (e : Expr) (body other : List Stmt) (whole : Naming) → NoMore (naming (roots_in e)) whole → NoMore (block_naming body) whole →
    NoMore (block_naming other) whole → NoMore (block_naming (made_if e body other ∷ [])) whole
test_no_more e body other whole head one more =
    alone (made_if e body other) (pair (tested e (block_naming body)) (block_naming other)) whole (test_is e body other)
    (no_more_joined (tested e (block_naming body)) (block_naming other) whole
    (no_more_joined (naming (roots_in e)) (block_naming body) whole head one) more)

with_test : (e : Expr) (a b : List Stmt) → NamedNoMore a b → NoMore (tested e (block_naming b)) (tested e (block_naming a))
with_test e a b same = no_more_pair (naming (roots_in e)) (block_naming b) (naming (roots_in e)) (block_naming a) (no_more_itself (naming (roots_in e))) same

arms_no_more : {arms others : List Arm} → ArmsCopy NamedNoMore arms others →
    NoMore (together (map naming_of_arm others)) (together (map naming_of_arm arms))
arms_no_more no_arms = no_more_itself none
arms_no_more (more_arms e a b {arms} {others} one more) =
    no_more_pair (naming_of_arm (made_arm e b)) (together (map naming_of_arm others)) (naming_of_arm (made_arm e a)) (together (map naming_of_arm arms))
    (no_more_then (naming_of_arm (made_arm e b)) (tested e (block_naming b)) (naming_of_arm (made_arm e a))
    (no_more_is (naming_of_arm (made_arm e b)) (tested e (block_naming b)) (arm_is e b))
    (no_more_then (tested e (block_naming b)) (tested e (block_naming a)) (naming_of_arm (made_arm e a)) (with_test e a b one)
    (no_more_is (tested e (block_naming a)) (naming_of_arm (made_arm e a)) (sym (arm_is e a)))))
    (arms_no_more more)

branches_each : {branches others : List Branch} → BranchesCopy NamedNoMore branches others →
    NoMoreEach (map naming_of_branch others) (map naming_of_branch branches)
branches_each no_branches = each_none
branches_each (more_branches weak a b {branches} {others} one more) =
    each_more (naming_of_branch (made_branch weak b)) (naming_of_branch (made_branch weak a)) (map naming_of_branch others) (map naming_of_branch branches)
    (no_more_then (naming_of_branch (made_branch weak b)) (block_naming b) (naming_of_branch (made_branch weak a))
    (no_more_is (naming_of_branch (made_branch weak b)) (block_naming b) (branch_is weak b))
    (no_more_then (block_naming b) (block_naming a) (naming_of_branch (made_branch weak a)) one
    (no_more_is (block_naming a) (naming_of_branch (made_branch weak a)) (sym (branch_is weak a)))))
    (branches_each more)

-- arms, and then what stands behind `else`
if_no_more : (place : Place) (arms others : List Arm) (a b : List Stmt) → ArmsCopy NamedNoMore arms others → NamedNoMore a b →
    NamedNoMore (stmt place (StmtKind-F.If arms a) ∷ []) (stmt place (StmtKind-F.If others b) ∷ [])
if_no_more place arms others a b in_arms same =
    no_more_at place (StmtKind-F.If arms a) (StmtKind-F.If others b)
    (no_more_then (together (map naming_of_arm others ++ map naming_of b)) (pair (together (map naming_of_arm others)) (block_naming b))
    (together (map naming_of_arm arms ++ map naming_of a))
    (no_more_is (together (map naming_of_arm others ++ map naming_of b)) (pair (together (map naming_of_arm others)) (block_naming b))
    (together_joins (map naming_of_arm others) (map naming_of b)))
    (no_more_then (pair (together (map naming_of_arm others)) (block_naming b)) (pair (together (map naming_of_arm arms)) (block_naming a))
    (together (map naming_of_arm arms ++ map naming_of a))
    (no_more_pair (together (map naming_of_arm others)) (block_naming b) (together (map naming_of_arm arms)) (block_naming a) (arms_no_more in_arms) same)
    (no_more_is (pair (together (map naming_of_arm arms)) (block_naming a)) (together (map naming_of_arm arms ++ map naming_of a))
    (sym (together_joins (map naming_of_arm arms) (map naming_of a))))))

-- ---- first turns

repeat_no_more : (place : Place) (a b c : List Stmt) → NamedNoMore a b → NamedNoMore a c →
    NamedNoMore (stmt place (StmtKind-F.Repeat a) ∷ []) (b ++ stmt place (StmtKind-F.Repeat c) ∷ [])
repeat_no_more place a b c first rest =
    in_place place (StmtKind-F.Repeat a) (block_naming (b ++ stmt place (StmtKind-F.Repeat c) ∷ []))
    (behind b (stmt place (StmtKind-F.Repeat c) ∷ []) (block_naming a) first
    (alone (stmt place (StmtKind-F.Repeat c)) (block_naming c) (block_naming a) (naming_at place (StmtKind-F.Repeat c)) rest))

until_no_more : (place : Place) (e : Expr) (a b c : List Stmt) → NamedNoMore a b → NamedNoMore a c →
    NamedNoMore (stmt place (StmtKind-F.Until a e) ∷ []) (b ++ made_if e [] (stmt place (StmtKind-F.Until c e) ∷ []) ∷ [])
until_no_more place e a b c first rest =
    let whole = tested e (block_naming a) in
    in_place place (StmtKind-F.Until a e) (block_naming (b ++ made_if e [] (stmt place (StmtKind-F.Until c e) ∷ []) ∷ []))
    (behind b (made_if e [] (stmt place (StmtKind-F.Until c e) ∷ []) ∷ []) whole
    (no_more_then (block_naming b) (block_naming a) whole first (no_more_behind (naming (roots_in e)) (block_naming a)))
    (test_no_more e [] (stmt place (StmtKind-F.Until c e) ∷ []) whole (no_more_front (naming (roots_in e)) (block_naming a)) (no_more_none whole)
    (alone (stmt place (StmtKind-F.Until c e)) (tested e (block_naming c)) whole (naming_at place (StmtKind-F.Until c e)) (with_test e a c rest))))

while_no_more : (place : Place) (e : Expr) (a b c : List Stmt) → NamedNoMore a b → NamedNoMore a c →
    NamedNoMore (stmt place (StmtKind-F.While e a) ∷ []) (made_if e (b ++ stmt place (StmtKind-F.While e c) ∷ []) [] ∷ [])
while_no_more place e a b c first rest =
    let whole = tested e (block_naming a) in
    in_place place (StmtKind-F.While e a) (block_naming (made_if e (b ++ stmt place (StmtKind-F.While e c) ∷ []) [] ∷ []))
    (test_no_more e (b ++ stmt place (StmtKind-F.While e c) ∷ []) [] whole (no_more_front (naming (roots_in e)) (block_naming a))
    (behind b (stmt place (StmtKind-F.While e c) ∷ []) whole
    (no_more_then (block_naming b) (block_naming a) whole first (no_more_behind (naming (roots_in e)) (block_naming a)))
    (alone (stmt place (StmtKind-F.While e c)) (tested e (block_naming c)) whole (naming_at place (StmtKind-F.While e c)) (with_test e a c rest)))
    (no_more_none whole))

naming_copies : Copies NamedNoMore
naming_copies = record {
  same = λ body. no_more_itself (block_naming body);
  append = λ a b c d one other.
      no_more_then (block_naming (b ++ d)) (pair (block_naming b) (block_naming d)) (block_naming (a ++ c))
      (no_more_is (block_naming (b ++ d)) (pair (block_naming b) (block_naming d)) (joins b d))
      (no_more_then (pair (block_naming b) (block_naming d)) (pair (block_naming a) (block_naming c)) (block_naming (a ++ c))
      (no_more_pair (block_naming b) (block_naming d) (block_naming a) (block_naming c) one other)
      (no_more_is (pair (block_naming a) (block_naming c)) (block_naming (a ++ c)) (sym (joins a c))));
  branching = if_no_more;
  cobegin = λ place branches others each.
      no_more_at place (StmtKind-F.Cobegin branches) (StmtKind-F.Cobegin others)
      (branches_no_more (map naming_of_branch others) (map naming_of_branch branches) (branches_each each));
  guarded = λ place guard e a b same. no_more_at place (StmtKind-F.When guard e a) (StmtKind-F.When guard e b) (with_test e a b same);
  repeat = λ place a b same. no_more_at place (StmtKind-F.Repeat a) (StmtKind-F.Repeat b) same;
  until = λ place e a b same. no_more_at place (StmtKind-F.Until a e) (StmtKind-F.Until b e) (with_test e a b same);
  while = λ place e a b same. no_more_at place (StmtKind-F.While e a) (StmtKind-F.While e b) (with_test e a b same);
  repeat_turn = repeat_no_more;
  until_turn = until_no_more;
  while_turn = while_no_more;
}

-- ---- bodies

all_apart_is : (body : List Stmt) → list_all is_apart body ≡ (block_naming body).apart
all_apart_is [] = refl
all_apart_is (s ∷ body) = ap (λ rest. is_apart s && rest) (all_apart_is body)

pub peeled_is_apart : PeeledIsApart
peeled_is_apart body apart =
    all_apart_is (peeled body) ∙ (body_copied NamedNoMore naming_copies body).apart (sym (all_apart_is body) ∙ apart)
