-- Statements of peeled bodies fit where their sources do.
use Rattle.std.proofs.Common.{◌≡◌, Bool, true, false, ◌&&◌, List, [], ◌∷◌, ◌++◌, map, refl, ap, sym, ◌∙◌}
use Rattle.std.proofs.lemmas.List.{map-append}
use Rattle.bl_tree.proofs.Basics.{all_is_all_of}
use Rattle.bl_tree.specs.declared.place.Place.{Place}
use Rattle.bl_tree.specs.declared.tree.Arm.{Arm, fold-Arm, fold-roll-Arm}
use Rattle.bl_tree.specs.declared.tree.Branch.{Branch, fold-Branch, fold-roll-Branch}
use Rattle.bl_tree.specs.declared.tree.Expr.{Expr}
use Rattle.bl_tree.specs.declared.tree.Stmt.{Stmt, fold-roll-Stmt}
use Rattle.bl_tree.specs.declared.tree.StmtKind.{StmtKind, fold-StmtKind, fold-roll-StmtKind}
use Rattle.bl_tree.specs.declared.tree.StmtKind.TheFolds.{map-StmtKind}
use Rattle.bl_tree.specs.declared.tree.StmtKind.TheOpen.{StmtKind-F}
use Rattle.bl_tree.specs.Reduce.{all_of}
use Rattle.bl_tree.specs.Typing.{TypingContext, arm_fits, branch_fits, fits, is_activity, is_inhabited, is_truth, kind_fits, stmt_fits, type_of}
use Rattle.bl_tree.proofs.ReduceLemmas.{all_of-append}
use Rattle.bl_tree.proofs.StmtInduction.{stmt}
use Rattle.bl_peel.specs.Peeled.{made_arm, made_if, peeled, place_of_expr}
use Rattle.bl_peel.proofs.Equations.{made_branch}
use Rattle.bl_peel_laws_typing.specs.Typing.{PeeledFits}
use Rattle.bl_peel_laws_typing.proofs.Copying.{ArmsCopy, BranchesCopy, Copies, body_copied, more_arms, more_branches, no_arms, no_branches}

-- ---- answers with first turns

again : (a : Bool) → (a && (a && true)) ≡ (a && true)
again true = refl
again false = refl

until_again : (a t : Bool) → (a && ((((t && true) && true) && ((a && t) && true)) && true)) ≡ ((a && t) && true)
until_again true true = refl
until_again true false = refl
until_again false t = refl

while_again : (a t : Bool) → ((((t && (a && ((t && a) && true))) && true) && true) && true) ≡ ((t && a) && true)
while_again true true = refl
while_again true false = refl
while_again false true = refl
while_again false false = refl

module _ (site : TypingContext) where
  -- ---- what fits is at one statement, arm and branch

  abbrev fits_of_kind : StmtKind → Bool
  fits_of_kind = fold-StmtKind Bool Bool Bool Bool (kind_fits site) (arm_fits site) branch_fits stmt_fits

  abbrev fits_of_arm : Arm → Bool
  fits_of_arm = fold-Arm Bool Bool Bool Bool (kind_fits site) (arm_fits site) branch_fits stmt_fits

  abbrev fits_of_branch : Branch → Bool
  fits_of_branch = fold-Branch Bool Bool Bool Bool (kind_fits site) (arm_fits site) branch_fits stmt_fits

  abbrev fits_parts : StmtKind-F StmtKind Arm Branch Stmt → StmtKind-F Bool Bool Bool Bool
  fits_parts = map-StmtKind StmtKind Arm Branch Stmt Bool Bool Bool Bool fits_of_kind fits_of_arm fits_of_branch (fits site)

  fits_at : (place : Place) (layer : StmtKind-F StmtKind Arm Branch Stmt) → fits site (stmt place layer) ≡ kind_fits site (fits_parts layer)
  fits_at place layer = rw (fold-roll-Stmt, fold-roll-StmtKind) refl

  abbrev all_fit : List Stmt → Bool
  all_fit body = all_of (map (fits site) body)

  abbrev is_test : Expr → Bool
  is_test e = is_truth (type_of site e)

  arm_is : (e : Expr) (body : List Stmt) → fits_of_arm (made_arm e body) ≡ (is_test e && all_fit body)
  arm_is e body = rw fold-roll-Arm refl

  branch_is : (weak : Bool) (body : List Stmt) → fits_of_branch (made_branch weak body) ≡ all_fit body
  branch_is weak body = rw fold-roll-Branch refl

  alone : (place : Place) (layer : StmtKind-F StmtKind Arm Branch Stmt) → all_fit (stmt place layer ∷ []) ≡ (kind_fits site (fits_parts layer) && true)
  alone place layer = ap (λ b. b && true) (fits_at place layer)

  joins : (a b : List Stmt) → all_fit (a ++ b) ≡ (all_fit a && all_fit b)
  joins a b = ap all_of (map-append (fits site) a b) ∙ all_of-append (map (fits site) a) (map (fits site) b)

  -- ---- blocks that fit alike

  abbrev FitAlike : List Stmt → List Stmt → Type 0
  FitAlike a b = all_fit b ≡ all_fit a

  -- two statements of one form
  alike : (place : Place) (one other : StmtKind-F StmtKind Arm Branch Stmt) → kind_fits site (fits_parts other) ≡ kind_fits site (fits_parts one) →
      FitAlike (stmt place one ∷ []) (stmt place other ∷ [])
  alike place one other same = alone place other ∙ ap (λ b. b && true) same ∙ sym (alone place one)

  arms_alike : {arms others : List Arm} → ArmsCopy FitAlike arms others → map fits_of_arm others ≡ map fits_of_arm arms
  arms_alike no_arms = refl
  arms_alike (more_arms e a b one more) =
      λ i. (arm_is e b ∙ ap (λ block. is_test e && block) one ∙ sym (arm_is e a)) i ∷ arms_alike more i

  branches_alike : {branches others : List Branch} → BranchesCopy FitAlike branches others → map fits_of_branch others ≡ map fits_of_branch branches
  branches_alike no_branches = refl
  branches_alike (more_branches weak a b one more) = λ i. (branch_is weak b ∙ one ∙ sym (branch_is weak a)) i ∷ branches_alike more i

  -- an `if` that is made of the test of a loop
  test_is : (e : Expr) (body other : List Stmt) → fits site (made_if e body other) ≡ (((is_test e && all_fit body) && true) && all_fit other)
  test_is e body other =
      fits_at (place_of_expr e) (StmtKind-F.If (made_arm e body ∷ []) other) ∙ ap (λ b. (b && true) && all_fit other) (arm_is e body)

  until_alike : (place : Place) (e : Expr) (a b c : List Stmt) → FitAlike a b → FitAlike a c →
      FitAlike (stmt place (StmtKind-F.Until a e) ∷ []) (b ++ made_if e [] (stmt place (StmtKind-F.Until c e) ∷ []) ∷ [])
  until_alike place e a b c first rest =
      joins b (made_if e [] (stmt place (StmtKind-F.Until c e) ∷ []) ∷ [])
      ∙ ap (λ test. all_fit b && (test && true)) (test_is e [] (stmt place (StmtKind-F.Until c e) ∷ []))
      ∙ ap (λ loop. all_fit b && ((((is_test e && true) && true) && loop) && true)) (alone place (StmtKind-F.Until c e))
      ∙ (λ i. first i && ((((is_test e && true) && true) && ((rest i && is_test e) && true)) && true))
      ∙ until_again (all_fit a) (is_test e) ∙ sym (alone place (StmtKind-F.Until a e))

  while_alike : (place : Place) (e : Expr) (a b c : List Stmt) → FitAlike a b → FitAlike a c →
      FitAlike (stmt place (StmtKind-F.While e a) ∷ []) (made_if e (b ++ stmt place (StmtKind-F.While e c) ∷ []) [] ∷ [])
  while_alike place e a b c first rest =
      ap (λ test. test && true) (test_is e (b ++ stmt place (StmtKind-F.While e c) ∷ []) [])
      ∙ ap (λ turn. (((is_test e && turn) && true) && true) && true) (joins b (stmt place (StmtKind-F.While e c) ∷ []))
      ∙ ap (λ loop. (((is_test e && (all_fit b && loop)) && true) && true) && true) (alone place (StmtKind-F.While e c))
      ∙ (λ i. (((is_test e && (first i && ((is_test e && rest i) && true))) && true) && true) && true)
      ∙ while_again (all_fit a) (is_test e) ∙ sym (alone place (StmtKind-F.While e a))

  fit_copies : Copies FitAlike
  fit_copies = record {
    same = λ body. refl;
    append = λ a b c d one other. joins b d ∙ (λ i. one i && other i) ∙ sym (joins a c);
    branching = λ place arms others a b in_arms same.
        alike place (StmtKind-F.If arms a) (StmtKind-F.If others b)
        (λ i. is_inhabited (arms_alike in_arms i) && (all_of (arms_alike in_arms i) && same i));
    cobegin = λ place branches others each.
        alike place (StmtKind-F.Cobegin branches) (StmtKind-F.Cobegin others)
        (ap (λ all. is_activity site.kind && (is_inhabited all && all_of all)) (branches_alike each));
    guarded = λ place guard e a b same.
        alike place (StmtKind-F.When guard e a) (StmtKind-F.When guard e b) (ap (λ block. is_activity site.kind && (is_test e && block)) same);
    repeat = λ place a b same. alike place (StmtKind-F.Repeat a) (StmtKind-F.Repeat b) same;
    until = λ place e a b same. alike place (StmtKind-F.Until a e) (StmtKind-F.Until b e) (ap (λ block. block && is_test e) same);
    while = λ place e a b same. alike place (StmtKind-F.While e a) (StmtKind-F.While e b) (ap (λ block. is_test e && block) same);
    repeat_turn = λ place a b c first rest.
        joins b (stmt place (StmtKind-F.Repeat c) ∷ [])
        ∙ ap (λ loop. all_fit b && loop) (alone place (StmtKind-F.Repeat c))
        ∙ (λ i. first i && (rest i && true))
        ∙ again (all_fit a) ∙ sym (alone place (StmtKind-F.Repeat a));
    until_turn = until_alike;
    while_turn = while_alike;
  }

pub peeled_fits : PeeledFits
peeled_fits site body =
    all_is_all_of (fits site) (peeled body) ∙ body_copied (FitAlike site) (fit_copies site) body ∙ sym (all_is_all_of (fits site) body)
