-- What a body takes, by its statements.
use Rattle.std.proofs.Common.{◌≡◌, ℕ, suc, ◌+◌, ◌-◌, ◌*◌, ◌≤◌, max, Bool, true}
use Rattle.std.proofs.Common.{false, ◌&&◌, List, [], ◌∷◌, ◌++◌, map, length}
use Rattle.std.proofs.Common.{Option, refl, sym, ◌∙◌, subst, append_assoc, arith, length-append}
use Rattle.std.proofs.lemmas.List.{append-nil}
use Rattle.std.proofs.lemmas.List.Elements.{All-head, All-tail}
use Rattle.std.specs.Prelude.{if◌then◌else◌}
use Rattle.bl_tree.proofs.Basics.{and_first, and_second}
use Rattle.bl_tree.specs.declared.place.Place.{Place}
use Rattle.bl_tree.specs.declared.tree.Arm.{Arm, fold-Arm, fold_out-Arm, out-Arm}
use Rattle.bl_tree.specs.declared.tree.Branch.{Branch, fold-Branch, fold_out-Branch, out-Branch}
use Rattle.bl_tree.specs.declared.tree.Expr.{Expr}
use Rattle.bl_tree.specs.declared.tree.Guard.{Guard}
use Rattle.bl_tree.specs.declared.tree.Guard.TheVariants.{Abort, Reset}
use Rattle.bl_tree.specs.declared.tree.Path.{Path}
use Rattle.bl_tree.specs.declared.tree.Stmt.{Stmt, fold-roll-Stmt}
use Rattle.bl_tree.specs.declared.tree.StmtKind.{fold-roll-StmtKind}
use Rattle.bl_tree.specs.declared.tree.StmtKind.TheOpen.{StmtKind-F}
use Rattle.bl_tree.specs.Reduce.{all_of, joined, total}
use Rattle.bl_tree.specs.Typing.{TypingContext, arm_fits, branch_fits, fits, is_activity, is_inhabited, is_truth, kind_fits, stmt_fits, type_of}
use Rattle.bl_tree.proofs.StmtInduction.{Cases, Each, EachArm, EachBranch, induct, stmt}
use Rattle.bl_limits_measures.proofs.RunLemmas.{activities_in as runs_in, activities_in_arm as runs_in_arm, activities_in_branch as runs_in_branch}
use Rattle.bl_limits_measures.proofs.RunLemmas.{arm_activities as arm_runs, branch_activities as branch_runs, kind_activities as kind_runs}
use Rattle.bl_limits_measures.proofs.RunLemmas.{stmt_activities as stmt_layer_runs}
use Rattle.bl_limits_measures.specs.Statements.{arm_cell_statements, branch_cell_statements, cell_statements_in, cell_statements_in_arm, kind_cell_statements}
use Rattle.bl_limits_measures.specs.Statements.{cell_statements_in_block, cell_statements_in_branch, layer_cell_statements}
use Rattle.bl_graph_nodes.specs.Nodes.{CheckAt, DepthEndAt, DepthJoinAt, ForkAt, HeadAt, Node, StartAt, SurfaceEndAt, SurfaceJoinAt, TestAt}
use Rattle.bl_graph_nodes.specs.Nodes.{are_instant, is_instant}
use Rattle.bl_graph_nodes.specs.Plain.{Act, Arm as PlainArm, Await, Block, Bodies, Body as BodyOf, Branch as PlainBranch, Cobegin, Done, If, Last}
use Rattle.bl_graph_nodes.specs.Plain.{Label, Plain, Position, Repeat, Run, Then, Until, When}
use Rattle.bl_graph_nodes.specs.Plain.{While, arm_plain, block_at, block_from, bodies_from, branch_plain, else_at, if_with}
use Rattle.bl_graph_nodes.specs.Plain.{inside, kind_plain, label_at, passed_one, place_of_test, plain_body, plain_stmt, stmt_plain}
use Rattle.bl_machine.specs.Layout.{width_in, width_in_each, width_of}
use Rattle.bl_machine.specs.Uses.{Slots}
use Rattle.bl_machine_pass.specs.Transitions.{Change, ClearsBoth, ClearsCounter, EndsWhen, Finishes, IsNew, RestedIn, SetsCounter, SetsFlag, SetsMark}
use Rattle.bl_machine_pass.specs.Transitions.{Transition, age_of, body_ends, counters_in, counters_in_each, enter, enter_each, fires, flagged, joins, marked}
use Rattle.bl_machine_pass.specs.Transitions.{once, rests_in, rule_where, rules_in, rules_in_each, rules_of}
use Rattle.bl_emit_spec_laws_wellformed.specs.Costs.{extras, marks_in, rule_extras}
use Rattle.bl_emit_spec_laws_wellformed.proofs.OnChains.Nodes.{plain_branch, plain_arm}

-- ---- sums

-- for this many statements there are so few counters, flags and marks, and `run`s
pub record Cheap (n width more runs : ℕ) : Type 0 where
  pub low : 2 * width + more + runs ≤ 4 * n

free : Cheap 0 0 0 0
free = record { low = omega arith }

-- one more statement with at most four flags and marks
grown : (n w c d r : ℕ) → d ≤ 4 + c → Cheap n w c r → Cheap (1 + n) w d r
grown n w c d r few one = let low = one.low in record { low = omega (arith, few, low) }

-- the statements of two parts; a counter serves both
both_cheap : (n m v w c d r s : ℕ) → Cheap n v c r → Cheap m w d s → Cheap (n + m) (max v w) (c + d) (r + s)
both_cheap n m v w c d r s one two = let low = one.low in let more = two.low in record { low = omega (arith, low, more) }

extras_append : (xs ys : List Transition) → extras (xs ++ ys) ≡ extras xs + extras ys
extras_append [] ys = omega arith
extras_append (x ∷ xs) ys = let rest = extras_append xs ys in omega (arith, rest)

append_cheap : (n m v w : ℕ) (xs ys : List Transition) (us bs : List ℕ) → Cheap n v (extras xs) (length us) → Cheap m w (extras ys) (length bs) →
    Cheap (n + m) (max v w) (extras (xs ++ ys)) (length (us ++ bs))
append_cheap n m v w xs ys us bs one two =
    subst (λ k. Cheap (n + m) (max v w) k (length (us ++ bs))) (sym (extras_append xs ys))
    (subst (λ k. Cheap (n + m) (max v w) (extras xs + extras ys) k) (sym (length-append us bs))
    (both_cheap n m v w (extras xs) (extras ys) (length us) (length bs) one two))

-- ---- changes

-- a change that sets no mark
abbrev Unmarked : Change → Type 0
Unmarked change = marks_in (change ∷ []) ≡ 0

entered : (body : Block) (next : Change) → Unmarked next → Unmarked (enter body next)
entered Done next plain = plain
entered (Then s rest) next plain = refl

first_marks : (change : Change) (rest : List Change) → Unmarked change → marks_in (change ∷ rest) ≡ marks_in rest
first_marks (SetsMark n) rest plain = absurd (cc)
first_marks (SetsFlag n) rest plain = refl
first_marks (SetsCounter slot) rest plain = refl
first_marks (ClearsCounter k) rest plain = refl
first_marks (ClearsBoth k) rest plain = refl
first_marks (EndsWhen start surface depth) rest plain = refl
first_marks Finishes rest plain = refl

body_plain : (l : Label) (at : Place) (body : Block) → Unmarked (body_ends l at body)
body_plain l at body = by (are_instant body)
  where
    by : (b : Bool) → Unmarked (if b then EndsWhen (StartAt l at) (SurfaceEndAt l at) (DepthEndAt l at) else SetsFlag (DepthEndAt l at))
    by true = refl
    by false = refl

frees_plain : (ks : List ℕ) (last : Change) → Unmarked last → marks_in (map ClearsCounter ks ++ last ∷ []) ≡ 0
frees_plain [] last plain = plain
frees_plain (k ∷ ks) last plain = frees_plain ks last plain

forgets_plain : (ks : List ℕ) (last : Change) → Unmarked last → marks_in (map ClearsBoth ks ++ last ∷ []) ≡ 0
forgets_plain [] last plain = plain
forgets_plain (k ∷ ks) last plain = forgets_plain ks last plain

each_plain : (slots : Slots) (l : Label) (k : ℕ) (bodies : Bodies) → marks_in (enter_each slots l k bodies) ≡ 0
each_plain slots l k Last = refl
each_plain slots l k (BodyOf weak body rest) =
    first_marks (enter body (SetsCounter (slots.ending l k))) (enter_each slots l (suc k) rest) (entered body (SetsCounter (slots.ending l k)) refl)
    ∙ each_plain slots l (suc k) rest

marked_once : (b : Bool) (n : Node) (rest : List Change) → marks_in rest ≡ 0 → marks_in (marked b n rest) ≤ 1
marked_once true n rest plain = omega (arith, plain)
marked_once false n rest plain = omega (arith, plain)

fires_plain : (guard : Guard) (l : Label) (at : Place) (body : Block) (next : Change) → Unmarked next → Unmarked (fires guard l at body next)
fires_plain Abort l at body next ok = ok
fires_plain Reset l at body next ok = entered body (body_ends l at body) (body_plain l at body)

where_cheap : (b : Bool) (rule : Transition) → extras (rule_where b rule) ≤ rule_extras rule
where_cheap true rule = omega arith
where_cheap false rule = omega arith

module _ (site : TypingContext) (slots : Slots) where
  -- a statement that has this many statements and `run`s is cheap, whatever follows it
  abbrev CheapPlain : ℕ → List ℕ → Plain → Type 0
  CheapPlain n runs s = (next : Change) → Unmarked next → Cheap n (width_of s) (extras (rules_of slots s next)) (length runs)

  abbrev CheapBlock : ℕ → List ℕ → Block → Type 0
  CheapBlock n runs body = (next : Change) → Unmarked next → Cheap n (width_in body) (extras (rules_in slots body next)) (length runs)

  abbrev S : Stmt → Type 0
  S s = fits site s ≡ true → (at : Position) → CheapPlain (cell_statements_in s) (runs_in s) (plain_stmt s at)

  blocks_cheap : (body : List Stmt) → Each S body → all_of (map (fits site) body) ≡ true → (k : ℕ) (at : Position) →
      CheapBlock (cell_statements_in_block body) (joined (map runs_in body)) (block_from (map plain_stmt body) k at)
  blocks_cheap [] each fitted k at next ok = free
  blocks_cheap (s ∷ body) each fitted k at next ok =
      let rest = block_from (map plain_stmt body) (suc k) at in
      append_cheap (cell_statements_in s) (cell_statements_in_block body) (width_of (plain_stmt s (at ++ k ∷ []))) (width_in rest)
      (rules_of slots (plain_stmt s (at ++ k ∷ [])) (enter rest next)) (rules_in slots rest next) (runs_in s) (joined (map runs_in body))
      (All-head S s body each (and_first (fits site s) (all_of (map (fits site) body)) fitted) (at ++ k ∷ []) (enter rest next) (entered rest next ok))
      (blocks_cheap body (All-tail S s body each) (and_second (fits site s) (all_of (map (fits site) body)) fitted) (suc k) at next ok)

  -- ---- arms

  abbrev arm_fitted : Arm → Bool
  arm_fitted = fold-Arm Bool Bool Bool Bool (kind_fits site) (arm_fits site) branch_fits stmt_fits

  abbrev CheapArm : ℕ → List ℕ → PlainArm → Type 0
  CheapArm n runs arm = (at : Position) → CheapBlock n runs (arm.body at)

  abbrev OfArm : Arm → Type 0
  OfArm arm = Each S (out-Arm arm).body

  arm_cheap : (arm : Arm) → OfArm arm → arm_fitted arm ≡ true → CheapArm (cell_statements_in_arm arm) (runs_in_arm arm) (plain_arm arm)
  arm_cheap arm each fitted =
      let fits_so = sym (fold_out-Arm Bool Bool Bool Bool (kind_fits site) (arm_fits site) branch_fits stmt_fits arm) ∙ fitted in
      subst (λ n. CheapArm n (runs_in_arm arm) (plain_arm arm))
      (sym (fold_out-Arm ℕ ℕ ℕ ℕ kind_cell_statements arm_cell_statements branch_cell_statements layer_cell_statements arm))
      (subst (λ runs. CheapArm (cell_statements_in_block (out-Arm arm).body) runs (plain_arm arm))
      (sym (fold_out-Arm (List ℕ) (List ℕ) (List ℕ) (List ℕ) kind_runs arm_runs branch_runs stmt_layer_runs arm))
      (subst (CheapArm (cell_statements_in_block (out-Arm arm).body) (joined (map runs_in (out-Arm arm).body)))
      (sym (fold_out-Arm (Place → Position → Plain) PlainArm PlainBranch (Position → Plain) kind_plain arm_plain branch_plain stmt_plain arm))
      (λ at. blocks_cheap (out-Arm arm).body each
      (and_second (is_truth (type_of site (out-Arm arm).test)) (all_of (map (fits site) (out-Arm arm).body)) fits_so) 0 at)))

  abbrev CheapArms : List ℕ → List (List ℕ) → List PlainArm → Type 0
  CheapArms [] [] [] = Unit {0}
  CheapArms (n ∷ ns) (runs ∷ rs) (arm ∷ arms) = CheapArm n runs arm × CheapArms ns rs arms
  CheapArms _ _ _ = ⊥

  arms_cheap : (arms : List Arm) → EachArm S arms → all_of (map arm_fitted arms) ≡ true →
      CheapArms (map cell_statements_in_arm arms) (map runs_in_arm arms) (map plain_arm arms)
  arms_cheap [] each fitted = tt
  arms_cheap (arm ∷ arms) each fitted = (
    arm_cheap arm (All-head OfArm arm arms each) (and_first (arm_fitted arm) (all_of (map arm_fitted arms)) fitted),
    arms_cheap arms (All-tail OfArm arm arms each) (and_second (arm_fitted arm) (all_of (map arm_fitted arms)) fitted),
  )

  if_cheap : (n m : ℕ) (us bs : List ℕ) (l : Label) (at : Place) (e : Expr) (body other : Block) → CheapBlock n us body → CheapBlock m bs other →
      CheapPlain (1 + (n + m)) (us ++ bs) (If l at e body other)
  if_cheap n m us bs l at e body other one two next ok =
      let all = append_cheap n m (width_in body) (width_in other) (rules_in slots body next) (rules_in slots other next) us bs (one next ok)
      (two next ok) in
      let first : marks_in (enter body next ∷ []) ≡ 0 = entered body next ok in
      grown (n + m) (max (width_in body) (width_in other)) (extras (rules_in slots body next ++ rules_in slots other next))
      (extras (rules_of slots (If l at e body other) next)) (length (us ++ bs)) (omega (arith, first)) all

  single : (n : ℕ) (runs : List ℕ) (s : Plain) → CheapPlain n runs s → CheapBlock (n + 0) (runs ++ []) (Then s Done)
  single n runs s cheap next ok = append_cheap n 0 (width_of s) 0 (rules_of slots s next) [] runs [] (cheap next ok) free

  else_cheap : (l : Label) (ns : List ℕ) (rs : List (List ℕ)) (m : ℕ) (bs : List ℕ) (arms : List PlainArm) (other : Position → Block) →
      CheapArms ns rs arms → ((at : Position) → CheapBlock m bs (other at)) →
      CheapBlock (length ns + total ns + m) (joined rs ++ bs) (else_at l arms other)
  else_cheap l [] [] m bs [] other all cheap =
      subst (λ k. CheapBlock k bs (other (inside l l.passed))) (nothing_more (length {A = ℕ} []) (total []) m refl refl)
      (cheap (inside l l.passed))
    where
      nothing_more : (a b m : ℕ) → a ≡ 0 → b ≡ 0 → m ≡ a + b + m
      nothing_more a b m one two = omega (arith, one, two)
  else_cheap l (n ∷ ns) (runs ∷ rs) m bs (arm ∷ arms) other all cheap =
      subst (λ k. CheapBlock k (joined (runs ∷ rs) ++ bs) (else_at l (arm ∷ arms) other)) (again n (length ns) (total ns) m)
      (subst (λ xs. CheapBlock ((1 + (n + (length ns + total ns + m))) + 0) xs (else_at l (arm ∷ arms) other)) (in_order runs (joined rs) bs)
      (single (1 + (n + (length ns + total ns + m))) (runs ++ (joined rs ++ bs))
      (If l (place_of_test arm) arm.test (arm.body (inside l l.passed)) (else_at (passed_one l) arms other))
      (if_cheap n (length ns + total ns + m) runs (joined rs ++ bs) l (place_of_test arm) arm.test (arm.body (inside l l.passed))
      (else_at (passed_one l) arms other) (all.0 (inside l l.passed)) (else_cheap (passed_one l) ns rs m bs arms other all.1 cheap))))
    where
      again : (n a b m : ℕ) → (1 + (n + (a + b + m))) + 0 ≡ suc a + (n + b) + m
      again n a b m = omega arith

      in_order : (xs ys zs : List ℕ) → (xs ++ (ys ++ zs)) ++ [] ≡ (xs ++ ys) ++ zs
      in_order xs ys zs = append-nil (xs ++ (ys ++ zs)) ∙ sym (append_assoc xs ys zs)
  else_cheap l [] (runs ∷ rs) m bs [] other all cheap = absurd all
  else_cheap l [] [] m bs (arm ∷ arms) other all cheap = absurd all
  else_cheap l [] (runs ∷ rs) m bs (arm ∷ arms) other all cheap = absurd all
  else_cheap l (n ∷ ns) [] m bs arms other all cheap = absurd all
  else_cheap l (n ∷ ns) (runs ∷ rs) m bs [] other all cheap = absurd all

  with_cheap : (l : Label) (place : Place) (ns : List ℕ) (rs : List (List ℕ)) (m : ℕ) (bs : List ℕ) (arms : List PlainArm)
      (other : Position → Block) → is_inhabited arms ≡ true → CheapArms ns rs arms → ((at : Position) → CheapBlock m bs (other at)) →
      CheapPlain (1 + (length ns - 1) + total ns + m) (joined rs ++ bs) (if_with l place arms other)
  with_cheap l place ns rs m bs [] other some all cheap = absurd (cc)
  with_cheap l place [] [] m bs (arm ∷ arms) other some all cheap = absurd all
  with_cheap l place [] (runs ∷ rs) m bs (arm ∷ arms) other some all cheap = absurd all
  with_cheap l place (n ∷ ns) [] m bs (arm ∷ arms) other some all cheap = absurd all
  with_cheap l place (n ∷ ns) (runs ∷ rs) m bs (arm ∷ arms) other some all cheap =
      subst (λ k. CheapPlain k (joined (runs ∷ rs) ++ bs) (if_with l place (arm ∷ arms) other)) (again n (length ns) (total ns) m)
      (subst (λ xs. CheapPlain (1 + (n + (length ns + total ns + m))) xs (if_with l place (arm ∷ arms) other)) (sym (append_assoc runs (joined rs) bs))
      (if_cheap n (length ns + total ns + m) runs (joined rs ++ bs) l place arm.test (arm.body (inside l 0)) (else_at (passed_one l) arms other)
      (all.0 (inside l 0)) (else_cheap (passed_one l) ns rs m bs arms other all.1 cheap)))
    where
      again : (n a b m : ℕ) → 1 + (n + (a + b + m)) ≡ 1 + (suc a - 1) + (n + b) + m
      again n a b m = omega arith

  -- ---- branches

  abbrev branch_fitted : Branch → Bool
  branch_fitted = fold-Branch Bool Bool Bool Bool (kind_fits site) (arm_fits site) branch_fits stmt_fits

  abbrev CheapBranch : ℕ → List ℕ → PlainBranch → Type 0
  CheapBranch n runs branch =
      (at : Position) (next : Change) → Unmarked next →
      Cheap n (max 1 (width_in (branch.body at))) (extras (rules_in slots (branch.body at) next)) (length runs)

  abbrev OfBranch : Branch → Type 0
  OfBranch branch = Each S (out-Branch branch).body

  branch_more : (n w c r : ℕ) → Cheap n w c r → Cheap (1 + n) (max 1 w) c r
  branch_more n w c r one = let low = one.low in record { low = omega (arith, low) }

  branch_cheap : (branch : Branch) → OfBranch branch → branch_fitted branch ≡ true →
      CheapBranch (cell_statements_in_branch branch) (runs_in_branch branch) (plain_branch branch)
  branch_cheap branch each fitted =
      let fits_so = sym (fold_out-Branch Bool Bool Bool Bool (kind_fits site) (arm_fits site) branch_fits stmt_fits branch) ∙ fitted in
      let body = (out-Branch branch).body in
      subst (λ n. CheapBranch n (runs_in_branch branch) (plain_branch branch))
      (sym (fold_out-Branch ℕ ℕ ℕ ℕ kind_cell_statements arm_cell_statements branch_cell_statements layer_cell_statements branch))
      (subst (λ runs. CheapBranch (1 + cell_statements_in_block body) runs (plain_branch branch))
      (sym (fold_out-Branch (List ℕ) (List ℕ) (List ℕ) (List ℕ) kind_runs arm_runs branch_runs stmt_layer_runs branch))
      (subst (CheapBranch (1 + cell_statements_in_block body) (joined (map runs_in body)))
      (sym (fold_out-Branch (Place → Position → Plain) PlainArm PlainBranch (Position → Plain) kind_plain arm_plain branch_plain stmt_plain
      branch))
      (λ at next ok.
      let inner = block_from (map plain_stmt body) 0 at in
      branch_more (cell_statements_in_block body) (width_in inner) (extras (rules_in slots inner next)) (length (joined (map runs_in body)))
      (blocks_cheap body each fits_so 0 at next ok))))

  abbrev CheapBranches : List ℕ → List (List ℕ) → List PlainBranch → Type 0
  CheapBranches [] [] [] = Unit {0}
  CheapBranches (n ∷ ns) (runs ∷ rs) (branch ∷ branches) = CheapBranch n runs branch × CheapBranches ns rs branches
  CheapBranches _ _ _ = ⊥

  branches_cheap : (branches : List Branch) → EachBranch S branches → all_of (map branch_fitted branches) ≡ true →
      CheapBranches (map cell_statements_in_branch branches) (map runs_in_branch branches) (map plain_branch branches)
  branches_cheap [] each fitted = tt
  branches_cheap (branch ∷ branches) each fitted = (
    branch_cheap branch (All-head OfBranch branch branches each)
        (and_first (branch_fitted branch) (all_of (map branch_fitted branches)) fitted),
    branches_cheap branches (All-tail OfBranch branch branches each)
        (and_second (branch_fitted branch) (all_of (map branch_fitted branches)) fitted),
  )

  beside : (n m v w c d r s : ℕ) → Cheap n v c r → Cheap m w d s → Cheap (n + m) (v + w) (c + d) (r + s)
  beside n m v w c d r s one two = let low = one.low in let more = two.low in record { low = omega (arith, low, more) }

  bodies_cheap : (ns : List ℕ) (rs : List (List ℕ)) (branches : List PlainBranch) (k : ℕ) (l : Label) → CheapBranches ns rs branches →
      Cheap (total ns) (width_in_each (bodies_from branches k l)) (extras (rules_in_each slots l k (bodies_from branches k l))) (length (joined rs))
  bodies_cheap [] [] [] k l all = free
  bodies_cheap (n ∷ ns) (runs ∷ rs) (branch ∷ branches) k l all =
      let body = branch.body (inside l k) in
      let others = bodies_from branches (suc k) l in
      let next = SetsCounter (slots.ending l k) in
      subst (λ c. Cheap (total (n ∷ ns)) (max 1 (width_in body) + width_in_each others) c (length (runs ++ joined rs)))
      (sym (extras_append (rules_in slots body next) (rules_in_each slots l (suc k) others)))
      (subst (λ r. Cheap (n + total ns) (max 1 (width_in body) + width_in_each others)
      (extras (rules_in slots body next) + extras (rules_in_each slots l (suc k) others)) r) (sym (length-append runs (joined rs)))
      (beside n (total ns) (max 1 (width_in body)) (width_in_each others) (extras (rules_in slots body next))
      (extras (rules_in_each slots l (suc k) others)) (length runs) (length (joined rs)) (all.0 (inside l k) next refl)
      (bodies_cheap ns rs branches (suc k) l all.1)))
  bodies_cheap [] (runs ∷ rs) [] k l all = absurd all
  bodies_cheap [] [] (branch ∷ branches) k l all = absurd all
  bodies_cheap [] (runs ∷ rs) (branch ∷ branches) k l all = absurd all
  bodies_cheap (n ∷ ns) [] branches k l all = absurd all
  bodies_cheap (n ∷ ns) (runs ∷ rs) [] k l all = absurd all

  -- ---- all statements

  some_there : {A B C : Type 0} (f : A → B) (g : A → C) (xs : List A) → is_inhabited (map f xs) ≡ true → is_inhabited (map g xs) ≡ true
  some_there f g [] h = absurd (cc)
  some_there f g (x ∷ xs) h = refl

  module _ (place : Place) where
    declare_plain : (k : ℕ) (initial : Option Expr) (at : Position) → plain_stmt (stmt place (StmtKind-F.Declare k initial)) at
        ≡ Act (label_at at) (stmt place (StmtKind-F.Declare k initial))
    declare_plain k initial at = rw (fold-roll-Stmt, fold-roll-StmtKind) refl

    assign_plain : (path : Path) (e : Expr) (at : Position) → plain_stmt (stmt place (StmtKind-F.Assign path e)) at
        ≡ Act (label_at at) (stmt place (StmtKind-F.Assign path e))
    assign_plain path e at = rw (fold-roll-Stmt, fold-roll-StmtKind) refl

    call_plain : (f : ℕ) (inputs : List Expr) (outputs : List Path) (at : Position) → plain_stmt (stmt place (StmtKind-F.Call f inputs outputs)) at
        ≡ Act (label_at at) (stmt place (StmtKind-F.Call f inputs outputs))
    call_plain f inputs outputs at = rw (fold-roll-Stmt, fold-roll-StmtKind) refl

    return_plain : (e : Option Expr) (at : Position) →
        plain_stmt (stmt place (StmtKind-F.Return e)) at ≡ Act (label_at at) (stmt place (StmtKind-F.Return e))
    return_plain e at = rw (fold-roll-Stmt, fold-roll-StmtKind) refl

    await_plain : (e : Expr) (at : Position) → plain_stmt (stmt place (StmtKind-F.Await e)) at ≡ Await (label_at at) place e
    await_plain e at = rw (fold-roll-Stmt, fold-roll-StmtKind) refl

    run_plain : (target : Option Path) (a : ℕ) (inputs : List Expr) (outputs : List Path) (at : Position) →
        plain_stmt (stmt place (StmtKind-F.Run target a inputs outputs)) at ≡ Run (label_at at) place target a inputs outputs
    run_plain target a inputs outputs at = rw (fold-roll-Stmt, fold-roll-StmtKind) refl

    if_plain : (arms : List Arm) (other : List Stmt) (at : Position) → plain_stmt (stmt place (StmtKind-F.If arms other)) at
        ≡ if_with (label_at at) place (map plain_arm arms) (block_at (map plain_stmt other))
    if_plain arms other at = rw (fold-roll-Stmt, fold-roll-StmtKind) refl

    cobegin_plain : (branches : List Branch) (at : Position) → plain_stmt (stmt place (StmtKind-F.Cobegin branches)) at
        ≡ Cobegin (label_at at) place (bodies_from (map plain_branch branches) 0 (label_at at))
    cobegin_plain branches at = rw (fold-roll-Stmt, fold-roll-StmtKind) refl

    when_plain : (guard : Guard) (e : Expr) (body : List Stmt) (at : Position) → plain_stmt (stmt place (StmtKind-F.When guard e body)) at
        ≡ When (label_at at) place guard e (block_at (map plain_stmt body) (inside (label_at at) 0))
    when_plain guard e body at = rw (fold-roll-Stmt, fold-roll-StmtKind) refl

    repeat_plain : (body : List Stmt) (at : Position) → plain_stmt (stmt place (StmtKind-F.Repeat body)) at
        ≡ Repeat (label_at at) place (block_at (map plain_stmt body) (inside (label_at at) 0))
    repeat_plain body at = rw (fold-roll-Stmt, fold-roll-StmtKind) refl

    until_plain : (body : List Stmt) (e : Expr) (at : Position) → plain_stmt (stmt place (StmtKind-F.Until body e)) at
        ≡ Until (label_at at) place (block_at (map plain_stmt body) (inside (label_at at) 0)) e
    until_plain body e at = rw (fold-roll-Stmt, fold-roll-StmtKind) refl

    while_plain : (e : Expr) (body : List Stmt) (at : Position) → plain_stmt (stmt place (StmtKind-F.While e body)) at
        ≡ While (label_at at) place e (block_at (map plain_stmt body) (inside (label_at at) 0))
    while_plain e body at = rw (fold-roll-Stmt, fold-roll-StmtKind) refl

    as_cheap : (n m : ℕ) (us bs : List ℕ) (s p : Plain) → n ≡ m → us ≡ bs → s ≡ p → CheapPlain m bs p → CheapPlain n us s
    as_cheap n m us bs s p same runs is cheap =
        subst (λ k. CheapPlain k us s) (sym same) (subst (λ xs. CheapPlain m xs s) (sym runs) (subst (CheapPlain m bs) (sym is) cheap))

    act_cheap : (l : Label) (s : Stmt) → CheapPlain 1 [] (Act l s)
    act_cheap l s next ok = record { low = omega (arith, ok) }

    declare_case : (k : ℕ) (initial : Option Expr) → S (stmt place (StmtKind-F.Declare k initial))
    declare_case k initial fitted at =
        as_cheap _ 1 _ [] _ _ (rw (fold-roll-Stmt, fold-roll-StmtKind) refl) (rw (fold-roll-Stmt, fold-roll-StmtKind) refl)
        (declare_plain k initial at) (act_cheap (label_at at) (stmt place (StmtKind-F.Declare k initial)))

    assign_case : (path : Path) (e : Expr) → S (stmt place (StmtKind-F.Assign path e))
    assign_case path e fitted at =
        as_cheap _ 1 _ [] _ _ (rw (fold-roll-Stmt, fold-roll-StmtKind) refl) (rw (fold-roll-Stmt, fold-roll-StmtKind) refl)
        (assign_plain path e at) (act_cheap (label_at at) (stmt place (StmtKind-F.Assign path e)))

    call_case : (f : ℕ) (inputs : List Expr) (outputs : List Path) → S (stmt place (StmtKind-F.Call f inputs outputs))
    call_case f inputs outputs fitted at =
        as_cheap _ 1 _ [] _ _ (rw (fold-roll-Stmt, fold-roll-StmtKind) refl) (rw (fold-roll-Stmt, fold-roll-StmtKind) refl)
        (call_plain f inputs outputs at) (act_cheap (label_at at) (stmt place (StmtKind-F.Call f inputs outputs)))

    return_case : (e : Option Expr) → S (stmt place (StmtKind-F.Return e))
    return_case e fitted at =
        as_cheap _ 1 _ [] _ _ (rw (fold-roll-Stmt, fold-roll-StmtKind) refl) (rw (fold-roll-Stmt, fold-roll-StmtKind) refl)
        (return_plain e at) (act_cheap (label_at at) (stmt place (StmtKind-F.Return e)))

    await_case : (e : Expr) → S (stmt place (StmtKind-F.Await e))
    await_case e fitted at =
        as_cheap _ 1 _ [] _ _ (rw (fold-roll-Stmt, fold-roll-StmtKind) refl) (rw (fold-roll-Stmt, fold-roll-StmtKind) refl) (await_plain e at)
        (λ next ok. record { low = omega (arith, ok) })

    run_case : (target : Option Path) (a : ℕ) (inputs : List Expr) (outputs : List Path) → S (stmt place (StmtKind-F.Run target a inputs outputs))
    run_case target a inputs outputs fitted at =
        as_cheap _ 1 _ (a ∷ []) _ _ (rw (fold-roll-Stmt, fold-roll-StmtKind) refl) (rw (fold-roll-Stmt, fold-roll-StmtKind) refl)
        (run_plain target a inputs outputs at) (λ next ok. record { low = omega (arith, ok) })

    if_count : (arms : List Arm) (other : List Stmt) → cell_statements_in (stmt place (StmtKind-F.If arms other))
        ≡ 1 + (length (map cell_statements_in_arm arms) - 1) + total (map cell_statements_in_arm arms) + cell_statements_in_block other
    if_count arms other = rw (fold-roll-Stmt, fold-roll-StmtKind) refl

    cobegin_count : (branches : List Branch) → cell_statements_in (stmt place (StmtKind-F.Cobegin branches))
        ≡ 1 + total (map cell_statements_in_branch branches)
    cobegin_count branches = rw (fold-roll-Stmt, fold-roll-StmtKind) refl

    when_count : (guard : Guard) (e : Expr) (body : List Stmt) → cell_statements_in (stmt place (StmtKind-F.When guard e body))
        ≡ 1 + cell_statements_in_block body
    when_count guard e body = rw (fold-roll-Stmt, fold-roll-StmtKind) refl

    repeat_count : (body : List Stmt) → cell_statements_in (stmt place (StmtKind-F.Repeat body)) ≡ 1 + cell_statements_in_block body
    repeat_count body = rw (fold-roll-Stmt, fold-roll-StmtKind) refl

    until_count : (body : List Stmt) (e : Expr) → cell_statements_in (stmt place (StmtKind-F.Until body e)) ≡ 1 + cell_statements_in_block body
    until_count body e = rw (fold-roll-Stmt, fold-roll-StmtKind) refl

    while_count : (e : Expr) (body : List Stmt) → cell_statements_in (stmt place (StmtKind-F.While e body)) ≡ 1 + cell_statements_in_block body
    while_count e body = rw (fold-roll-Stmt, fold-roll-StmtKind) refl

    if_runs : (arms : List Arm) (other : List Stmt) → runs_in (stmt place (StmtKind-F.If arms other))
        ≡ joined (map runs_in_arm arms) ++ joined (map runs_in other)
    if_runs arms other = rw (fold-roll-Stmt, fold-roll-StmtKind) refl

    cobegin_runs : (branches : List Branch) → runs_in (stmt place (StmtKind-F.Cobegin branches)) ≡ joined (map runs_in_branch branches)
    cobegin_runs branches = rw (fold-roll-Stmt, fold-roll-StmtKind) refl

    when_runs : (guard : Guard) (e : Expr) (body : List Stmt) → runs_in (stmt place (StmtKind-F.When guard e body)) ≡ joined (map runs_in body)
    when_runs guard e body = rw (fold-roll-Stmt, fold-roll-StmtKind) refl

    repeat_runs : (body : List Stmt) → runs_in (stmt place (StmtKind-F.Repeat body)) ≡ joined (map runs_in body)
    repeat_runs body = rw (fold-roll-Stmt, fold-roll-StmtKind) refl

    until_runs : (body : List Stmt) (e : Expr) → runs_in (stmt place (StmtKind-F.Until body e)) ≡ joined (map runs_in body)
    until_runs body e = rw (fold-roll-Stmt, fold-roll-StmtKind) refl

    while_runs : (e : Expr) (body : List Stmt) → runs_in (stmt place (StmtKind-F.While e body)) ≡ joined (map runs_in body)
    while_runs e body = rw (fold-roll-Stmt, fold-roll-StmtKind) refl

    branching_case : (arms : List Arm) (other : List Stmt) → EachArm S arms → Each S other → S (stmt place (StmtKind-F.If arms other))
    branching_case arms other each others fitted at =
        let parts = rw (fold-roll-Stmt, fold-roll-StmtKind) at fitted in
        let some = and_first (is_inhabited (map arm_fitted arms)) (all_of (map arm_fitted arms) && all_of (map (fits site) other)) parts in
        let more = and_second (is_inhabited (map arm_fitted arms)) (all_of (map arm_fitted arms) && all_of (map (fits site) other)) parts in
        as_cheap _ _ _ _ _ _ (if_count arms other) (if_runs arms other) (if_plain arms other at)
        (with_cheap (label_at at) place (map cell_statements_in_arm arms) (map runs_in_arm arms) (cell_statements_in_block other) (joined (map runs_in other))
        (map plain_arm arms) (block_at (map plain_stmt other)) (some_there arm_fitted plain_arm arms some)
        (arms_cheap arms each (and_first (all_of (map arm_fitted arms)) (all_of (map (fits site) other)) more))
        (λ at. blocks_cheap other others (and_second (all_of (map arm_fitted arms)) (all_of (map (fits site) other)) more) 0 at))

    fork_cheap : (n w c d r marks : ℕ) → marks ≤ 1 → d ≡ c → Cheap n w c r → Cheap (1 + n) w ((1 + marks) + d) r
    fork_cheap n w c d r marks few same one = let low = one.low in record { low = omega (arith, few, same, low) }

    cobegin_case : (branches : List Branch) → EachBranch S branches → S (stmt place (StmtKind-F.Cobegin branches))
    cobegin_case branches each fitted at =
        let parts = rw (fold-roll-Stmt, fold-roll-StmtKind) at fitted in
        let all = and_second (is_inhabited (map branch_fitted branches)) (all_of (map branch_fitted branches))
        (and_second (is_activity site.kind) (is_inhabited (map branch_fitted branches) && all_of (map branch_fitted branches)) parts) in
        let l : Label = label_at at in
        let bodies : Bodies = bodies_from (map plain_branch branches) 0 l in
        let instant : Bool = is_instant (Cobegin l place bodies) in
        as_cheap _ _ _ _ _ _ (cobegin_count branches) (cobegin_runs branches) (cobegin_plain branches at)
        (λ next ok.
        let surface = joins slots l bodies (IsNew (ForkAt l place)) (SurfaceJoinAt l place) next in
        let depth = joins slots l bodies (age_of instant (ForkAt l place)) (DepthJoinAt l place) next in
        let none : marks_in (map ClearsCounter (once (counters_in_each slots l 0 bodies)) ++ next ∷ []) ≡ 0 =
        frees_plain (once (counters_in_each slots l 0 bodies)) next ok in
        let front : extras (rule_where instant surface) ≤ rule_extras surface = where_cheap instant surface in
        let split = extras_append (rule_where instant surface) (depth ∷ rules_in_each slots l 0 bodies) in
        fork_cheap (total (map cell_statements_in_branch branches)) (width_in_each bodies) (extras (rules_in_each slots l 0 bodies))
        (extras (rule_where instant surface ++ depth ∷ rules_in_each slots l 0 bodies)) (length (joined (map runs_in_branch branches)))
        (marks_in (marked instant (ForkAt l place) (enter_each slots l 0 bodies)))
        (marked_once instant (ForkAt l place) (enter_each slots l 0 bodies) (each_plain slots l 0 bodies)) (omega (arith, front, split, none))
        (bodies_cheap (map cell_statements_in_branch branches) (map runs_in_branch branches) (map plain_branch branches) 0 l
        (branches_cheap branches each all)))

    when_cheap : (n w c d r marks : ℕ) → marks ≤ 1 → d ≤ 2 + c → Cheap n w c r → Cheap (1 + n) w ((1 + marks) + d) r
    when_cheap n w c d r marks few less one = let low = one.low in record { low = omega (arith, few, less, low) }

    guarded_case : (guard : Guard) (e : Expr) (body : List Stmt) → Each S body → S (stmt place (StmtKind-F.When guard e body))
    guarded_case guard e body each fitted at =
        let parts = and_second (is_activity site.kind) (is_truth (type_of site e) && all_of (map (fits site) body))
        (rw (fold-roll-Stmt, fold-roll-StmtKind) at fitted) in
        let l : Label = label_at at in
        let inner : Block = block_at (map plain_stmt body) (inside l 0) in
        let instant : Bool = are_instant inner in
        as_cheap _ _ _ _ _ _ (when_count guard e body) (when_runs guard e body) (when_plain guard e body at)
        (λ next ok.
        let ends = body_ends l place inner in
        let surface = flagged (SurfaceEndAt l place) (next ∷ []) in
        let check : Transition = record {
          node = CheckAt l place e;
          condition = RestedIn (rests_in slots inner);
          on_true = map ClearsBoth (once (counters_in slots inner)) ++ fires guard l place inner next ∷ [];
          on_false = [];
        } in
        let depth = flagged (DepthEndAt l place) (next ∷ []) in
        let fired : marks_in (map ClearsBoth (once (counters_in slots inner)) ++ fires guard l place inner next ∷ []) ≡ 0 =
        forgets_plain (once (counters_in slots inner)) (fires guard l place inner next) (fires_plain guard l place inner next ok) in
        let front : extras (rule_where instant surface) ≤ rule_extras surface = where_cheap instant surface in
        let split = extras_append (rule_where instant surface) (check ∷ depth ∷ rules_in slots inner ends) in
        when_cheap (cell_statements_in_block body) (width_in inner) (extras (rules_in slots inner ends))
        (extras (rule_where instant surface ++ check ∷ depth ∷ rules_in slots inner ends)) (length (joined (map runs_in body)))
        (marks_in (marked instant (StartAt l place) (enter inner ends ∷ [])))
        (marked_once instant (StartAt l place) (enter inner ends ∷ []) (entered inner ends (body_plain l place inner)))
        (omega (arith, front, split, fired, ok))
        (blocks_cheap body each (and_second (is_truth (type_of site e)) (all_of (map (fits site) body)) parts) 0 (inside l 0) ends
        (body_plain l place inner)))

    repeat_case : (body : List Stmt) → Each S body → S (stmt place (StmtKind-F.Repeat body))
    repeat_case body each fitted at =
        let l : Label = label_at at in
        let inner : Block = block_at (map plain_stmt body) (inside l 0) in
        as_cheap _ _ _ _ _ _ (repeat_count body) (repeat_runs body) (repeat_plain body at)
        (λ next ok.
        let again = SetsFlag (HeadAt l place) in
        let first : marks_in (enter inner again ∷ []) ≡ 0 = entered inner again refl in
        grown (cell_statements_in_block body) (width_in inner) (extras (rules_in slots inner again))
        (extras (rules_of slots (Repeat l place inner) next)) (length (joined (map runs_in body))) (omega (arith, first))
        (blocks_cheap body each (rw (fold-roll-Stmt, fold-roll-StmtKind) at fitted) 0 (inside l 0) again refl))

    until_case : (body : List Stmt) (e : Expr) → Each S body → S (stmt place (StmtKind-F.Until body e))
    until_case body e each fitted at =
        let parts = rw (fold-roll-Stmt, fold-roll-StmtKind) at fitted in
        let l : Label = label_at at in
        let inner : Block = block_at (map plain_stmt body) (inside l 0) in
        as_cheap _ _ _ _ _ _ (until_count body e) (until_runs body e) (until_plain body e at)
        (λ next ok.
        let test = SetsFlag (TestAt l place e) in
        let first : marks_in (enter inner test ∷ []) ≡ 0 = entered inner test refl in
        grown (cell_statements_in_block body) (width_in inner) (extras (rules_in slots inner test))
        (extras (rules_of slots (Until l place inner e) next)) (length (joined (map runs_in body))) (omega (arith, first, ok))
        (blocks_cheap body each (and_first (all_of (map (fits site) body)) (is_truth (type_of site e)) parts) 0 (inside l 0) test refl))

    while_case : (e : Expr) (body : List Stmt) → Each S body → S (stmt place (StmtKind-F.While e body))
    while_case e body each fitted at =
        let parts = rw (fold-roll-Stmt, fold-roll-StmtKind) at fitted in
        let l : Label = label_at at in
        let inner : Block = block_at (map plain_stmt body) (inside l 0) in
        as_cheap _ _ _ _ _ _ (while_count e body) (while_runs e body) (while_plain e body at)
        (λ next ok.
        let test = SetsFlag (TestAt l place e) in
        let first : marks_in (enter inner test ∷ []) ≡ 0 = entered inner test refl in
        grown (cell_statements_in_block body) (width_in inner) (extras (rules_in slots inner test))
        (extras (rules_of slots (While l place e inner) next)) (length (joined (map runs_in body))) (omega (arith, first))
        (blocks_cheap body each (and_second (is_truth (type_of site e)) (all_of (map (fits site) body)) parts) 0 (inside l 0) test refl))

  cases : Cases S
  cases = record {
    declare = declare_case;
    assign = assign_case;
    call = call_case;
    await = await_case;
    run = run_case;
    branching = branching_case;
    cobegin = cobegin_case;
    guarded = guarded_case;
    repeat = repeat_case;
    until = until_case;
    while = while_case;
    returns = return_case;
  }

  -- a body is cheap
  pub body_cheap : (body : List Stmt) → all_of (map (fits site) body) ≡ true →
      Cheap (cell_statements_in_block body) (width_in (plain_body body)) (extras (rules_in slots (plain_body body) Finishes))
      (length (joined (map runs_in body)))
  body_cheap body fitted = blocks_cheap body (λ k d within. induct S cases _) fitted 0 [] Finishes refl
