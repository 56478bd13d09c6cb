-- Effects of single statements that peeling makes.
use Rattle.std.proofs.Common.{◌≡◌, true, false, ◌&&◌, ◌||◌, List, [], ◌∷◌, ◌++◌, map, ap, sym, subst, ◌∙◌}
use Rattle.bl_tree.proofs.Basics.{and_true}
use Rattle.bl_tree.specs.declared.place.Place.{Place}
use Rattle.bl_tree.specs.declared.static_path.Static.{Static}
use Rattle.bl_tree.specs.declared.tree.Arm.{Arm}
use Rattle.bl_tree.specs.declared.tree.Branch.{Branch}
use Rattle.bl_tree.specs.declared.tree.Expr.{Expr}
use Rattle.bl_tree.specs.declared.tree.Stmt.{Stmt, fold_out-Stmt, out-Stmt, out-roll-Stmt}
use Rattle.bl_tree.specs.declared.tree.StmtKind.{StmtKind, roll-StmtKind}
use Rattle.bl_tree.specs.declared.tree.StmtKind.TheOpen.{StmtKind-F}
use Rattle.bl_tree.specs.Effects.{arm_reads, arm_writes, branch_paths, kind_reads, kind_writes, reads, stmt_set, writes}
use Rattle.bl_tree.specs.Instant.{instant, is_instant_block}
use Rattle.bl_tree.specs.Reduce.{joined}
use Rattle.bl_tree.specs.Static.{mentions, set_of}
use Rattle.bl_tree.specs.Within.{Effect, effect_of, place_of}
use Rattle.bl_effects.specs.inner.Gathered.{reads_of_kind, writes_of_kind}
use Rattle.bl_effects.proofs.SetLemmas.{In, in_set, set_in}
use Rattle.bl_peel.specs.Laws.{HasEffectsOf}
use Rattle.bl_peel.specs.Peeled.{Peeling, deep_of, front_of, kind_deep, kind_front, made_arm, made_if, made_stmt, peeling, place_of_expr}
use Rattle.bl_peel.specs.inner.Parts.{peeling_parts}
use Rattle.bl_peel.proofs.Equations.{instant_arm, instant_at, peeling_at, reads_arm, reads_at, writes_arm, writes_at}
use Rattle.bl_peel.proofs.Keeping.{deep_effect, keeps}
use Rattle.bl_peel.proofs.Sets.{Sub, one_set, sub_both, sub_left, sub_none, sub_right}

-- a made test reads and writes what its loop does, and may end in its first tick
pub record TestOf (loop test : Stmt) : Type 0 where
  pub reads_same : reads test ≡ reads loop
  pub writes_same : writes test ≡ writes loop
  pub ends : instant test ≡ true

-- ---- a statement alone

-- a set beside nothing
set_again : (paths : List Static) → set_of (set_of paths ++ []) ≡ set_of paths
set_again paths =
    one_set (set_of paths ++ []) paths
    (sub_both (set_of paths) [] paths (λ x h. in_set x paths h) (sub_none paths))
    (λ x h. sub_left (set_of paths) [] x (set_in x paths h))

reads_again : (s : Stmt) → set_of (reads s ++ []) ≡ reads s
reads_again s =
    let is : reads s ≡ set_of (reads_of_kind (out-Stmt s).what) =
    fold_out-Stmt (List Static) (List Static) (List Static) (List Static) kind_reads arm_reads branch_paths stmt_set s in
    ap (λ paths. set_of (paths ++ [])) is ∙ set_again (reads_of_kind (out-Stmt s).what) ∙ sym is

writes_again : (s : Stmt) → set_of (writes s ++ []) ≡ writes s
writes_again s =
    let is : writes s ≡ set_of (writes_of_kind (out-Stmt s).what) =
    fold_out-Stmt (List Static) (List Static) (List Static) (List Static) kind_writes arm_writes branch_paths stmt_set s in
    ap (λ paths. set_of (paths ++ [])) is ∙ set_again (writes_of_kind (out-Stmt s).what) ∙ sym is

module _ (s made : Stmt) (same : HasEffectsOf (s ∷ []) (made ∷ [])) where
  reads_alone : reads made ≡ reads s
  reads_alone = sym (reads_again made) ∙ same.reads ∙ reads_again s

  writes_alone : writes made ≡ writes s
  writes_alone = sym (writes_again made) ∙ same.writes ∙ writes_again s

  instant_alone : instant made ≡ instant s
  instant_alone = sym (and_true (instant made)) ∙ same.instant ∙ and_true (instant s)

  effect_alone : place_of made ≡ place_of s → effect_of made ≡ effect_of s
  effect_alone there = λ i. record { place = there i; reads = reads_alone i; writes = writes_alone i; instant = instant_alone i }

-- ---- statements that take the place of another

pub placed : (place : Place) (layer : StmtKind-F StmtKind Arm Branch Stmt) → place_of (made_stmt place layer) ≡ place
placed place layer = ap (λ s. s.place) (out-roll-Stmt (record { place = place; what = roll-StmtKind layer }))

pub deep_effect_at : (place : Place) (layer : StmtKind-F StmtKind Arm Branch Stmt) →
    effect_of (made_stmt place (kind_deep (peeling_parts layer))) ≡ effect_of (made_stmt place layer)
deep_effect_at place layer = sym (ap (λ (made : Peeling). effect_of made.deep) (peeling_at place layer)) ∙ deep_effect (made_stmt place layer)

front_keeps_at : (place : Place) (layer : StmtKind-F StmtKind Arm Branch Stmt) →
    HasEffectsOf (made_stmt place layer ∷ []) (kind_front (peeling_parts layer) place)
front_keeps_at place layer =
    subst (λ (made : Peeling). HasEffectsOf (made_stmt place layer ∷ []) made.front) (peeling_at place layer) (keeps (made_stmt place layer)).front

-- a statement that becomes one of its place where it begins a branch
pub front_effect_at : (place : Place) (layer made : StmtKind-F StmtKind Arm Branch Stmt) →
    kind_front (peeling_parts layer) place ≡ made_stmt place made ∷ [] → effect_of (made_stmt place made) ≡ effect_of (made_stmt place layer)
front_effect_at place layer made is =
    effect_alone (made_stmt place layer) (made_stmt place made)
    (subst (λ front. HasEffectsOf (made_stmt place layer ∷ []) front) is (front_keeps_at place layer))
    (placed place made ∙ sym (placed place layer))

-- ---- tests

pub while_test_of : (place : Place) (e : Expr) (body : List Stmt) →
    TestOf (made_stmt place (StmtKind-F.While e body))
    (made_if e (front_of (map peeling body) ++ made_stmt place (StmtKind-F.While e (deep_of (map peeling body))) ∷ []) [])
while_test_of place e body =
    let loop = made_stmt place (StmtKind-F.While e body) in
    let test = made_if e (front_of (map peeling body) ++ made_stmt place (StmtKind-F.While e (deep_of (map peeling body))) ∷ []) [] in
    let same : HasEffectsOf (loop ∷ []) (test ∷ []) = front_keeps_at place (StmtKind-F.While e body) in
    record {
      reads_same = reads_alone loop test same;
      writes_same = writes_alone loop test same;
      ends = instant_alone loop test same ∙ instant_at place (StmtKind-F.While e body);
    }

-- the test of a loop with its test behind, around a loop with its effects
module _ (place : Place) (e : Expr) (body : List Stmt) (next : Stmt) (same : effect_of next ≡ effect_of (made_stmt place (StmtKind-F.Until body e))) where
  abbrev loop : Stmt
  loop = made_stmt place (StmtKind-F.Until body e)

  abbrev test : Stmt
  test = made_if e [] (next ∷ [])

  abbrev tested : List Static
  tested = ((mentions e ++ []) ++ []) ++ (reads loop ++ [])

  loop_reads : reads loop ≡ set_of (joined (map reads body) ++ mentions e)
  loop_reads = reads_at place (StmtKind-F.Until body e)

  test_reads : reads test ≡ set_of tested
  test_reads =
      reads_at (place_of_expr e) (StmtKind-F.If (made_arm e [] ∷ []) (next ∷ []))
      ∙ ap (λ paths. set_of ((paths ++ []) ++ (reads next ++ []))) (reads_arm e [])
      ∙ ap (λ (effect : Effect). set_of (((mentions e ++ []) ++ []) ++ (effect.reads ++ []))) same

  test_writes : writes test ≡ set_of (writes loop ++ [])
  test_writes =
      writes_at (place_of_expr e) (StmtKind-F.If (made_arm e [] ∷ []) (next ∷ []))
      ∙ ap (λ paths. set_of ((paths ++ []) ++ (writes next ++ []))) (writes_arm e [])
      ∙ ap (λ (effect : Effect). set_of (effect.writes ++ [])) same

  tested_in : Sub tested (joined (map reads body) ++ mentions e)
  tested_in =
      sub_both ((mentions e ++ []) ++ []) (reads loop ++ []) (joined (map reads body) ++ mentions e)
      (sub_both (mentions e ++ []) [] (joined (map reads body) ++ mentions e)
      (sub_both (mentions e) [] (joined (map reads body) ++ mentions e) (sub_right (joined (map reads body)) (mentions e)) (sub_none _)) (sub_none _))
      (sub_both (reads loop) [] (joined (map reads body) ++ mentions e)
      (λ x h. in_set x (joined (map reads body) ++ mentions e) (subst (In x) loop_reads h)) (sub_none _))

  in_tested : Sub (joined (map reads body) ++ mentions e) tested
  in_tested x h =
      sub_right ((mentions e ++ []) ++ []) (reads loop ++ []) x
      (sub_left (reads loop) [] x (subst (In x) (sym loop_reads) (set_in x (joined (map reads body) ++ mentions e) h)))

  test_of : TestOf loop test
  test_of = record {
    reads_same = test_reads ∙ one_set tested (joined (map reads body) ++ mentions e) tested_in in_tested ∙ sym loop_reads;
    writes_same = test_writes ∙ writes_again loop;
    ends = instant_at (place_of_expr e) (StmtKind-F.If (made_arm e [] ∷ []) (next ∷ []))
        ∙ ap (λ b. (b || false) || is_instant_block (next ∷ [])) (instant_arm e []);
  }

pub until_test_of : (place : Place) (body : List Stmt) (e : Expr) →
    TestOf (made_stmt place (StmtKind-F.Until body e)) (made_if e [] (made_stmt place (StmtKind-F.Until (deep_of (map peeling body)) e) ∷ []))
until_test_of place body e =
    test_of place e body (made_stmt place (StmtKind-F.Until (deep_of (map peeling body)) e)) (deep_effect_at place (StmtKind-F.Until body e))
