-- Peeled activities return where their sources do.
use Rattle.std.proofs.Common.{◌≡◌, Bool, true, false, not, ◌&&◌, ◌||◌, List, [], ◌∷◌, ◌++◌, map, refl, ap, sym, ◌∙◌}
use Rattle.std.specs.Prelude.{if◌then◌else◌, is_none}
use Rattle.std.proofs.lemmas.List.{map-append}
use Rattle.bl_tree.proofs.Basics.{or_false}
use Rattle.bl_tree.specs.declared.place.Place.{Place}
use Rattle.bl_tree.specs.declared.tree.Arm.{Arm, fold-Arm, fold-roll-Arm}
use Rattle.bl_tree.specs.declared.tree.Branch.{Branch, fold-Branch, fold-roll-Branch}
use Rattle.bl_tree.specs.declared.tree.Expr.{Expr}
use Rattle.bl_tree.specs.declared.tree.Stmt.{Stmt, fold-roll-Stmt, out-Stmt, out-roll-Stmt}
use Rattle.bl_tree.specs.declared.tree.StmtKind.{StmtKind, fold-StmtKind, fold-roll-StmtKind, out-StmtKind, out-roll-StmtKind, roll-StmtKind}
use Rattle.bl_tree.specs.declared.tree.StmtKind.TheFolds.{map-StmtKind}
use Rattle.bl_tree.specs.declared.tree.StmtKind.TheOpen.{StmtKind-F, Stmt-F}
use Rattle.bl_tree.specs.Reduce.{any_of}
use Rattle.bl_tree.specs.Returns.{activity_returns, arm_has_return, branch_has_return, function_returns, has_return, is_return, is_return_kind, kind_has_return}
use Rattle.bl_tree.specs.Returns.{last_of, returns_last_alone, stmt_returns}
use Rattle.bl_tree.specs.Typing.{is_activity}
use Rattle.bl_tree.proofs.ReduceLemmas.{any_of-append}
use Rattle.bl_tree.proofs.StmtInduction.{stmt}
use Rattle.bl_peel.specs.Peeled.{Peeling, deep_of, kind_deep, made_arm, made_if, peeled, peeling, place_of_expr}
use Rattle.bl_peel.specs.inner.Parts.{peeling_parts}
use Rattle.bl_peel.proofs.Equations.{kind_out, made_branch, peeling_out}
use Rattle.bl_peel_laws_typing.specs.Typing.{PeeledReturns}
use Rattle.bl_peel_laws_typing.proofs.Copying.{ArmsCopy, BranchesCopy, Copies, copied, more_arms, more_branches, no_arms, no_branches}

-- ---- whether a `return` stands in a statement

abbrev returns_in_kind : StmtKind → Bool
returns_in_kind = fold-StmtKind Bool Bool Bool Bool kind_has_return arm_has_return branch_has_return stmt_returns

abbrev returns_in_arm : Arm → Bool
returns_in_arm = fold-Arm Bool Bool Bool Bool kind_has_return arm_has_return branch_has_return stmt_returns

abbrev returns_in_branch : Branch → Bool
returns_in_branch = fold-Branch Bool Bool Bool Bool kind_has_return arm_has_return branch_has_return stmt_returns

abbrev return_parts : StmtKind-F StmtKind Arm Branch Stmt → StmtKind-F Bool Bool Bool Bool
return_parts = map-StmtKind StmtKind Arm Branch Stmt Bool Bool Bool Bool returns_in_kind returns_in_arm returns_in_branch has_return

returns_at : (place : Place) (layer : StmtKind-F StmtKind Arm Branch Stmt) → has_return (stmt place layer) ≡ kind_has_return (return_parts layer)
returns_at place layer = rw (fold-roll-Stmt, fold-roll-StmtKind) refl

abbrev some_return : List Stmt → Bool
some_return body = any_of (map has_return body)

arm_is : (e : Expr) (body : List Stmt) → returns_in_arm (made_arm e body) ≡ some_return body
arm_is e body = rw fold-roll-Arm refl

branch_is : (weak : Bool) (body : List Stmt) → returns_in_branch (made_branch weak body) ≡ some_return body
branch_is weak body = rw fold-roll-Branch refl

alone : (place : Place) (layer : StmtKind-F StmtKind Arm Branch Stmt) → some_return (stmt place layer ∷ []) ≡ (kind_has_return (return_parts layer) || false)
alone place layer = ap (λ b. b || false) (returns_at place layer)

joins : (a b : List Stmt) → some_return (a ++ b) ≡ (some_return a || some_return b)
joins a b = ap any_of (map-append has_return a b) ∙ any_of-append (map has_return a) (map has_return b)

test_is : (e : Expr) (body other : List Stmt) → has_return (made_if e body other) ≡ ((some_return body || false) || some_return other)
test_is e body other =
    returns_at (place_of_expr e) (StmtKind-F.If (made_arm e body ∷ []) other) ∙ ap (λ b. (b || false) || some_return other) (arm_is e body)

-- ---- blocks that return alike

again : (a : Bool) → (a || (a || false)) ≡ (a || false)
again true = refl
again false = refl

until_again : (a : Bool) → (a || ((a || false) || false)) ≡ (a || false)
until_again true = refl
until_again false = refl

while_again : (a : Bool) → ((((a || (a || false)) || false) || false) || false) ≡ (a || false)
while_again true = refl
while_again false = refl

abbrev ReturnAlike : List Stmt → List Stmt → Type 0
ReturnAlike a b = some_return b ≡ some_return a

alike : (place : Place) (one other : StmtKind-F StmtKind Arm Branch Stmt) → kind_has_return (return_parts other) ≡ kind_has_return (return_parts one) →
    ReturnAlike (stmt place one ∷ []) (stmt place other ∷ [])
alike place one other same = alone place other ∙ ap (λ b. b || false) same ∙ sym (alone place one)

arms_alike : {arms others : List Arm} → ArmsCopy ReturnAlike arms others → map returns_in_arm others ≡ map returns_in_arm arms
arms_alike no_arms = refl
arms_alike (more_arms e a b one more) = λ i. (arm_is e b ∙ one ∙ sym (arm_is e a)) i ∷ arms_alike more i

branches_alike : {branches others : List Branch} → BranchesCopy ReturnAlike branches others → map returns_in_branch others ≡ map returns_in_branch branches
branches_alike no_branches = refl
branches_alike (more_branches weak a b one more) = λ i. (branch_is weak b ∙ one ∙ sym (branch_is weak a)) i ∷ branches_alike more i

return_copies : Copies ReturnAlike
return_copies = record {
  same = λ body. refl;
  append = λ a b c d one other. joins b d ∙ (λ i. one i || other i) ∙ sym (joins a c);
  branching = λ place arms others a b in_arms same.
      alike place (StmtKind-F.If arms a) (StmtKind-F.If others b) (λ i. any_of (arms_alike in_arms i) || same i);
  cobegin = λ place branches others each. alike place (StmtKind-F.Cobegin branches) (StmtKind-F.Cobegin others) (ap any_of (branches_alike each));
  guarded = λ place guard e a b same. alike place (StmtKind-F.When guard e a) (StmtKind-F.When guard e b) same;
  repeat = λ place a b same. alike place (StmtKind-F.Repeat a) (StmtKind-F.Repeat b) same;
  until = λ place e a b same. alike place (StmtKind-F.Until a e) (StmtKind-F.Until b e) same;
  while = λ place e a b same. alike place (StmtKind-F.While e a) (StmtKind-F.While e b) same;
  repeat_turn = λ place a b c first rest.
      joins b (stmt place (StmtKind-F.Repeat c) ∷ [])
      ∙ ap (λ loop. some_return b || loop) (alone place (StmtKind-F.Repeat c))
      ∙ (λ i. first i || (rest i || false))
      ∙ again (some_return a) ∙ sym (alone place (StmtKind-F.Repeat a));
  until_turn = λ place e a b c first rest.
      joins b (made_if e [] (stmt place (StmtKind-F.Until c e) ∷ []) ∷ [])
      ∙ ap (λ test. some_return b || (test || false)) (test_is e [] (stmt place (StmtKind-F.Until c e) ∷ []))
      ∙ ap (λ loop. some_return b || (loop || false)) (alone place (StmtKind-F.Until c e))
      ∙ (λ i. first i || ((rest i || false) || false))
      ∙ until_again (some_return a) ∙ sym (alone place (StmtKind-F.Until a e));
  while_turn = λ place e a b c first rest.
      ap (λ test. test || false) (test_is e (b ++ stmt place (StmtKind-F.While e c) ∷ []) [])
      ∙ ap (λ turn. ((turn || false) || false) || false) (joins b (stmt place (StmtKind-F.While e c) ∷ []))
      ∙ ap (λ loop. (((some_return b || loop) || false) || false) || false) (alone place (StmtKind-F.While e c))
      ∙ (λ i. (((first i || (rest i || false)) || false) || false) || false)
      ∙ while_again (some_return a) ∙ sym (alone place (StmtKind-F.While e a));
}

-- ---- statements outside of first turns

deep_has : (s : Stmt) → has_return (peeling s).deep ≡ has_return s
deep_has s = sym (or_false (has_return (peeling s).deep)) ∙ (copied ReturnAlike return_copies s).deep ∙ or_false (has_return s)

made_is : (place : Place) (layer : StmtKind-F StmtKind Arm Branch Stmt) → is_return (stmt place layer) ≡ is_return_kind layer
made_is place layer =
    ap (λ (s : Stmt-F StmtKind Arm Branch Stmt). is_return_kind (out-StmtKind s.what)) (out-roll-Stmt (record { place = place; what = roll-StmtKind layer }))
    ∙ ap (λ (kind : StmtKind-F StmtKind Arm Branch Stmt). is_return_kind kind) (out-roll-StmtKind layer)

kind_is : (layer : StmtKind-F StmtKind Arm Branch Stmt) → is_return_kind (kind_deep (peeling_parts layer)) ≡ is_return_kind layer
kind_is (StmtKind-F.Declare k initial) = refl
kind_is (StmtKind-F.Assign path e) = refl
kind_is (StmtKind-F.Call f inputs outputs) = refl
kind_is (StmtKind-F.Await e) = refl
kind_is (StmtKind-F.Run target a inputs outputs) = refl
kind_is (StmtKind-F.If arms other) = refl
kind_is (StmtKind-F.Cobegin branches) = refl
kind_is (StmtKind-F.When guard e body) = refl
kind_is (StmtKind-F.Repeat body) = refl
kind_is (StmtKind-F.Until body e) = refl
kind_is (StmtKind-F.While e body) = refl
kind_is (StmtKind-F.Return e) = refl

deep_is : (s : Stmt) → is_return (peeling s).deep ≡ is_return s
deep_is s =
    ap (λ (made : Peeling). is_return made.deep) (peeling_out s ∙ kind_out (out-Stmt s).what (out-Stmt s).place)
    ∙ made_is (out-Stmt s).place (kind_deep (peeling_parts (out-StmtKind (out-Stmt s).what)))
    ∙ kind_is (out-StmtKind (out-Stmt s).what)

last_alone : (body : List Stmt) → returns_last_alone (deep_of (map peeling body)) ≡ returns_last_alone body
last_alone [] = refl
last_alone (s ∷ []) = λ i. not (deep_has s i) || deep_is s i
last_alone (s ∷ t ∷ rest) = λ i. not (deep_has s i) && last_alone (t ∷ rest) i

all_are : (body : List Stmt) → map is_return (deep_of (map peeling body)) ≡ map is_return body
all_are [] = refl
all_are (s ∷ body) = λ i. deep_is s i ∷ all_are body i

by_kind : (b one other third fourth : Bool) → not b ≡ false → one ≡ third → (if b then one else other) ≡ (if b then third else fourth)
by_kind true one other third fourth activity same = same
by_kind false one other third fourth activity same = absurd (cc)

pub peeled_returns : PeeledReturns
peeled_returns unit activity =
    by_kind (is_activity unit.kind) (activity_returns (record unit { body = peeled unit.body })) (function_returns (record unit { body = peeled unit.body }))
    (activity_returns unit) (function_returns unit) activity
    (λ i. last_alone unit.body i && (is_none unit.result || last_of (all_are unit.body i)))
