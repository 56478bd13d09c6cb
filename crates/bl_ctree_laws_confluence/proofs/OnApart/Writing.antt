-- No two branches of one `cobegin` write paths that overlap.
use Rattle.std.proofs.Common.{◌≡◌, ◌⊎◌, inl, inr, ℕ, suc, true, false, ◌||◌, List, [], ◌∷◌, ◌++◌, map, get_or, Some, refl, sym, ap, ◌∙◌, subst, eqb-true}
use Rattle.std.specs.Prelude.{nat_eq, slice_get}
use Rattle.std.specs.List.{list_all}
use Rattle.std.proofs.lemmas.List.Elements.{All-head, All-tail}
use Rattle.std.proofs.lemmas.Bool.{false_from_ne_true}
use Rattle.bl_tree.proofs.Basics.{and_first, and_second}
use Rattle.bl_tree.specs.declared.place.Place.{Place}
use Rattle.bl_tree.specs.declared.static_path.Static.{Static}
use Rattle.bl_tree.specs.declared.tree.Arm.{Arm, out-Arm}
use Rattle.bl_tree.specs.declared.tree.Branch.{Branch, out-Branch}
use Rattle.bl_tree.specs.declared.tree.Stmt.{Stmt}
use Rattle.bl_tree.specs.declared.tree.StmtKind.{StmtKind}
use Rattle.bl_tree.specs.declared.tree.StmtKind.TheOpen.{StmtKind-F}
use Rattle.bl_tree.specs.declared.tree.Var.{Var}
use Rattle.bl_tree.specs.Apart.{Naming, all_apart, is_apart, is_foreign, keep_apart, naming_of, stmt_kind_naming}
use Rattle.bl_tree.specs.Reduce.{all_of, joined}
use Rattle.bl_tree.specs.Static.{is_front, overlaps}
use Rattle.bl_tree.specs.Typing.{TypingContext, fits, is_truth, kind_fits, site_of, type_of}
use Rattle.bl_tree.proofs.StmtInduction.{Cases, Each, EachArm, EachBranch, induct, stmt}
use Rattle.bl_tree.proofs.FirstLemmas.{In, in_contains}
use Rattle.bl_effects.specs.declared.marked.Marked.{Marked}
use Rattle.bl_effects.specs.Rules.{Parallel, Split, kind_parallel, parallel_of, splits_after, splits_of}
use Rattle.bl_graph_nodes.specs.Laws.{plain_arm, plain_branch}
use Rattle.bl_graph_nodes.specs.Plain.{Label, Plain, Position, block_from, bodies_from, else_at, inside, label_at, passed_one, plain_block, plain_stmt}
use Rattle.bl_graph_nodes.proofs.Equations.{plain_statements}
use Rattle.bl_ctree_laws_confluence.specs.Deeds.Orderly.{OrderlyUnit}
use Rattle.bl_ctree_laws_confluence.proofs.OnDeeds.Accepted.{accepted_is_orderly}
use Rattle.bl_ctree_laws_confluence.specs.Apart.Forks.{EachFork, EachForkIn, EachForkInEach}
use Rattle.bl_ctree_laws_confluence.specs.Apart.Named.{OneOf}
use Rattle.bl_ctree_laws_confluence.specs.Apart.Owned.{SomeInEach}
use Rattle.bl_ctree_laws_confluence.specs.Apart.Writing.{AcceptedWritesApart, StatementWrites, WriteApart}
use Rattle.bl_ctree_laws_confluence.proofs.OnApart.Forks.{all_true, each_apart, foreign_so}
use Rattle.bl_ctree_laws_confluence.proofs.OnApart.Members.{in_left, in_right}
use Rattle.bl_ctree_laws_confluence.proofs.OnApart.Named.{folded_arm, folded_branch, naming_at, naming_parts}
use Rattle.bl_ctree_laws_confluence.proofs.OnApart.Told.{ArmsFit, BranchesFit, Fit, OneMark, Told, arm_fitted, arm_naming_at, arm_parallel_at, branch_fitted}
use Rattle.bl_ctree_laws_confluence.proofs.OnApart.Told.{branch_naming_at, branch_parallel_at, branch_told, fit_arm, fit_arms, fit_at, fit_branch, fit_branches}
use Rattle.bl_ctree_laws_confluence.proofs.OnApart.Told.{fit_first, fit_guarded, fit_parts, fit_rest, folded_arm_parallel, folded_branch_parallel, parallel_at}
use Rattle.bl_ctree_laws_confluence.proofs.OnApart.Told.{parallel_parts}

-- ---- branches

-- no later branch writes over what an earlier one does
abbrev Clear : List Var → Split → Type 0
Clear vars split =
    (first second : Marked) (var : Var) → In first split.earlier → In second split.writes → slice_get vars second.path.root ≡ Some var →
    overlaps first.path second.path ≡ false

abbrev AllClear : List Var → List Split → Type 0
AllClear vars splits = (split : Split) → In split splits → Clear vars split

module _ (site : TypingContext) where
  abbrev L : Static → Parallel → Naming → Type 0
  L = Told site.vars

  roots_meet : (p q : Static) → overlaps p q ≡ true → p.root ≡ q.root
  roots_meet p q over = eqb-true p.root q.root (and_first (nat_eq p.root q.root) (is_front p.fields q.fields || is_front q.fields p.fields) over)

  -- what is told of two branches that keep apart
  two_apart : (p q : Static) (earlier : List Marked) (one : Parallel) (n : Naming) (other : Parallel) (m : Naming) → L p one n → L q other m →
      ((mark : Marked) → In mark one.writes → In mark earlier) → Clear site.vars (record { earlier = earlier; writes = other.writes }) →
      keep_apart n m ≡ true → overlaps p q ≡ false
  two_apart p q earlier one n other m first second among clear apart = by_both first.written second.written
    where
      by_both : OneMark p one.writes ⊎ OneOf p.root n.declared → OneMark q other.writes ⊎ OneOf q.root m.declared → overlaps p q ≡ false
      by_both (inl (mark, (there, is))) (inl (mark', (there', is'))) =
          sym (λ i. overlaps (is i) (is' i)) ∙ clear mark mark' second.var (among mark there) there'
          (subst (λ path. slice_get site.vars path.root ≡ Some second.var) (sym is') second.there)
      by_both (inr declared) marked =
          false_from_ne_true (overlaps p q) (λ over. foreign_so q.root n.declared m.named
          (and_first (is_foreign n.declared m.named) (is_foreign m.declared n.named) apart)
          (subst (λ k. OneOf k n.declared) (roots_meet p q over) declared) second.names)
      by_both (inl mark) (inr declared) =
          false_from_ne_true (overlaps p q) (λ over. foreign_so q.root m.declared n.named
          (and_second (is_foreign n.declared m.named) (is_foreign m.declared n.named) apart) declared
          (subst (λ k. OneOf k n.named) (roots_meet p q over) first.names))

  others_apart : (p : Static) (one : Parallel) (n : Naming) → L p one n → (earlier : List Marked) (branches : List Branch) (k : ℕ) (l : Label) →
      ((mark : Marked) → In mark one.writes → In mark earlier) → BranchesFit site branches →
      list_all (keep_apart n) (map folded_branch branches) ≡ true → AllClear site.vars (splits_after earlier (map folded_branch_parallel branches)) →
      (q : Static) → SomeInEach (StatementWrites q) (bodies_from (map plain_branch branches) k l) → overlaps p q ≡ false
  others_apart p one n first earlier [] k l among fit apart clear q some = absurd some
  others_apart p one n first earlier (branch ∷ rest) k l among fit apart clear q (inl some) =
      let other : Parallel = folded_branch_parallel branch in
      two_apart p q earlier one n other (folded_branch branch) first
      (branch_told site q branch (inside l k) (and_first (branch_fitted site branch) (all_of (map (branch_fitted site) rest)) fit) some) among
      (clear (record { earlier = earlier; writes = other.writes }) (in_right (record { earlier = earlier; writes = other.writes }) other.splits
      (record { earlier = earlier; writes = other.writes } ∷ splits_after (earlier ++ other.writes) (map folded_branch_parallel rest)) (inl refl)))
      (and_first (keep_apart n (folded_branch branch)) (list_all (keep_apart n) (map folded_branch rest)) apart)
  others_apart p one n first earlier (branch ∷ rest) k l among fit apart clear q (inr some) =
      let other : Parallel = folded_branch_parallel branch in
      others_apart p one n first (earlier ++ other.writes) rest (suc k) l (λ mark there. in_left mark earlier other.writes (among mark there))
      (and_second (branch_fitted site branch) (all_of (map (branch_fitted site) rest)) fit)
      (and_second (keep_apart n (folded_branch branch)) (list_all (keep_apart n) (map folded_branch rest)) apart)
      (λ split there. clear split (in_right split other.splits
      (record { earlier = earlier; writes = other.writes } ∷ splits_after (earlier ++ other.writes) (map folded_branch_parallel rest)) (inr there)))
      q some

  bodies_apart : (earlier : List Marked) (branches : List Branch) (k : ℕ) (l : Label) → BranchesFit site branches →
      all_apart (map folded_branch branches) ≡ true → AllClear site.vars (splits_after earlier (map folded_branch_parallel branches)) →
      WriteApart (bodies_from (map plain_branch branches) k l)
  bodies_apart earlier [] k l fit apart clear = tt
  bodies_apart earlier (branch ∷ rest) k l fit apart clear =
      let one : Parallel = folded_branch_parallel branch in
      let after : (split : Split) → In split (splits_after (earlier ++ one.writes) (map folded_branch_parallel rest)) → Clear site.vars split =
      λ split there. clear split (in_right split one.splits
      (record { earlier = earlier; writes = one.writes } ∷ splits_after (earlier ++ one.writes) (map folded_branch_parallel rest)) (inr there)) in (
        λ p q some others. others_apart p one (folded_branch branch)
            (branch_told site p branch (inside l k) (and_first (branch_fitted site branch) (all_of (map (branch_fitted site) rest)) fit) some)
            (earlier ++ one.writes) rest (suc k) l (λ mark there. in_right mark earlier one.writes there)
            (and_second (branch_fitted site branch) (all_of (map (branch_fitted site) rest)) fit)
            (and_first (list_all (keep_apart (folded_branch branch)) (map folded_branch rest)) (all_apart (map folded_branch rest)) apart) after q others,
        bodies_apart (earlier ++ one.writes) rest (suc k) l
            (and_second (branch_fitted site branch) (all_of (map (branch_fitted site) rest)) fit)
            (and_second (list_all (keep_apart (folded_branch branch)) (map folded_branch rest)) (all_apart (map folded_branch rest)) apart) after,
      )

  -- ---- statements

  abbrev splits_in : List Parallel → List Split
  splits_in parts = joined (map (λ q. q.splits) parts)

  abbrev F : Stmt → Type 0
  F s = (at : Position) → fits site s ≡ true → is_apart s ≡ true → AllClear site.vars (parallel_of s).splits → EachFork WriteApart (plain_stmt s at)

  clear_left : (xs ys : List Split) → AllClear site.vars (xs ++ ys) → AllClear site.vars xs
  clear_left xs ys clear split there = clear split (in_left split xs ys there)

  clear_right : (xs ys : List Split) → AllClear site.vars (xs ++ ys) → AllClear site.vars ys
  clear_right xs ys clear split there = clear split (in_right split xs ys there)

  forks_in : (body : List Stmt) (k : ℕ) (at : Position) → Each F body → Fit site body → each_apart (map naming_of body) ≡ true →
      AllClear site.vars (splits_in (map parallel_of body)) → EachForkIn WriteApart (block_from (map plain_stmt body) k at)
  forks_in [] k at each fit apart clear = tt
  forks_in (s ∷ rest) k at each fit apart clear = (
    All-head F s rest each (at ++ k ∷ []) (fit_first site s rest fit) (and_first (is_apart s) (each_apart (map naming_of rest)) apart)
        (clear_left (parallel_of s).splits (splits_in (map parallel_of rest)) clear),
    forks_in rest (suc k) at (All-tail F s rest each) (fit_rest site s rest fit) (and_second (is_apart s) (each_apart (map naming_of rest)) apart)
        (clear_right (parallel_of s).splits (splits_in (map parallel_of rest)) clear),
  )

  forks_in_arm : (arm : Arm) (at : Position) → Each F (out-Arm arm).body → arm_fitted site arm ≡ true → (folded_arm arm).apart ≡ true →
      AllClear site.vars (folded_arm_parallel arm).splits → EachForkIn WriteApart (plain_block (out-Arm arm).body at)
  forks_in_arm arm at each fit apart clear =
      forks_in (out-Arm arm).body 0 at each (fit_arm site arm fit) (sym (ap (λ n. n.apart) (arm_naming_at arm)) ∙ apart)
      (subst (λ q. AllClear site.vars q.splits) (arm_parallel_at arm) clear)

  forks_in_arms : (l : Label) (arms : List Arm) (other : List Stmt) → EachArm F arms → Each F other → ArmsFit site arms → Fit site other →
      each_apart (map folded_arm arms ++ map naming_of other) ≡ true → AllClear site.vars (splits_in (map folded_arm_parallel arms)) →
      AllClear site.vars (splits_in (map parallel_of other)) → EachForkIn WriteApart (else_at l (map plain_arm arms) (plain_block other))
  forks_in_arms l [] other each others fit fits_other apart clear clears = forks_in other 0 (inside l l.passed) others fits_other apart clears
  forks_in_arms l (arm ∷ rest) other each others fit fits_other apart clear clears = (
    (
      forks_in_arm arm (inside l l.passed) (All-head (λ arm. Each F (out-Arm arm).body) arm rest each)
          (and_first (arm_fitted site arm) (all_of (map (arm_fitted site) rest)) fit)
          (and_first (folded_arm arm).apart (each_apart (map folded_arm rest ++ map naming_of other)) apart)
          (clear_left (folded_arm_parallel arm).splits (splits_in (map folded_arm_parallel rest)) clear),
      forks_in_arms (passed_one l) rest other (All-tail (λ arm. Each F (out-Arm arm).body) arm rest each) others
          (and_second (arm_fitted site arm) (all_of (map (arm_fitted site) rest)) fit) fits_other
          (and_second (folded_arm arm).apart (each_apart (map folded_arm rest ++ map naming_of other)) apart)
          (clear_right (folded_arm_parallel arm).splits (splits_in (map folded_arm_parallel rest)) clear) clears,
    ),
    tt,
  )

  forks_in_branches : (earlier : List Marked) (branches : List Branch) (k : ℕ) (l : Label) → EachBranch F branches → BranchesFit site branches →
      each_apart (map folded_branch branches) ≡ true → AllClear site.vars (splits_after earlier (map folded_branch_parallel branches)) →
      EachForkInEach WriteApart (bodies_from (map plain_branch branches) k l)
  forks_in_branches earlier [] k l each fit apart clear = tt
  forks_in_branches earlier (branch ∷ rest) k l each fit apart clear =
      let one : Parallel = folded_branch_parallel branch in (
        forks_in (out-Branch branch).body 0 (inside l k) (All-head (λ branch. Each F (out-Branch branch).body) branch rest each)
            (fit_branch site branch (and_first (branch_fitted site branch) (all_of (map (branch_fitted site) rest)) fit))
            (sym (ap (λ n. n.apart) (branch_naming_at branch))
            ∙ and_first (folded_branch branch).apart (each_apart (map folded_branch rest)) apart)
            (subst (λ q. AllClear site.vars q.splits) (branch_parallel_at branch) (clear_left one.splits
            (record { earlier = earlier; writes = one.writes } ∷ splits_after (earlier ++ one.writes) (map folded_branch_parallel rest)) clear)),
        forks_in_branches (earlier ++ one.writes) rest (suc k) l (All-tail (λ branch. Each F (out-Branch branch).body) branch rest each)
            (and_second (branch_fitted site branch) (all_of (map (branch_fitted site) rest)) fit)
            (and_second (folded_branch branch).apart (each_apart (map folded_branch rest)) apart)
            (λ split there. clear split (in_right split one.splits
            (record { earlier = earlier; writes = one.writes } ∷ splits_after (earlier ++ one.writes) (map folded_branch_parallel rest)) (inr there))),
      )

  fork_parts : (place : Place) (layer : StmtKind-F StmtKind Arm Branch Stmt) (at : Position) (q : Plain) → plain_stmt (stmt place layer) at ≡ q →
      (kind_fits site (fit_parts site layer) ≡ true → (stmt_kind_naming (naming_parts layer)).apart ≡ true →
      AllClear site.vars (kind_parallel (parallel_parts layer) place).splits → EachFork WriteApart q) →
      fits site (stmt place layer) ≡ true → is_apart (stmt place layer) ≡ true → AllClear site.vars (parallel_of (stmt place layer)).splits →
      EachFork WriteApart (plain_stmt (stmt place layer) at)
  fork_parts place layer at q is so fit apart clear =
      subst (EachFork WriteApart) (sym is)
      (so (sym (fit_at site place layer) ∙ fit) (sym (ap (λ n. n.apart) (naming_at place layer)) ∙ apart)
      (subst (λ q. AllClear site.vars q.splits) (parallel_at place layer) clear))

  branching_forks : (place : Place) (arms : List Arm) (other : List Stmt) → EachArm F arms → Each F other → F (stmt place (StmtKind-F.If arms other))
  branching_forks place [] other each others at = fork_parts place (StmtKind-F.If [] other) at _ refl (λ fit apart clear. absurd cc)
  branching_forks place (arm ∷ rest) other each others at =
      fork_parts place (StmtKind-F.If (arm ∷ rest) other) at _ (plain_statements.branching place at arm rest other)
      (λ fit apart clear.
      let parts = fit_arms site (arm ∷ rest) other fit in
      (forks_in_arms (label_at at) (arm ∷ rest) other each others parts.0 parts.1 apart
      (clear_left (splits_in (map folded_arm_parallel (arm ∷ rest))) (splits_in (map parallel_of other)) clear)
      (clear_right (splits_in (map folded_arm_parallel (arm ∷ rest))) (splits_in (map parallel_of other)) clear)).0)

  fork_cases : Cases F
  fork_cases = record {
    declare = λ place k initial at.
        fork_parts place (StmtKind-F.Declare k initial) at _ (plain_statements.declaration place at k initial) (λ fit apart clear. tt);
    assign = λ place path e at. fork_parts place (StmtKind-F.Assign path e) at _ (plain_statements.assignment place at path e) (λ fit apart clear. tt);
    call = λ place f inputs outputs at.
        fork_parts place (StmtKind-F.Call f inputs outputs) at _ (plain_statements.call place at f inputs outputs) (λ fit apart clear. tt);
    await = λ place e at. fork_parts place (StmtKind-F.Await e) at _ (plain_statements.pause place at e) (λ fit apart clear. tt);
    run = λ place target a inputs outputs at. fork_parts place (StmtKind-F.Run target a inputs outputs) at _
        (plain_statements.run place at target a inputs outputs) (λ fit apart clear. tt);
    branching = branching_forks;
    cobegin = λ place branches each at. fork_parts place (StmtKind-F.Cobegin branches) at _ (plain_statements.parallel place at branches)
        (λ fit apart clear. (
          bodies_apart [] branches 0 (label_at at) (fit_branches site branches fit)
              (and_second (each_apart (map folded_branch branches)) (all_apart (map folded_branch branches)) apart) clear,
          forks_in_branches [] branches 0 (label_at at) each (fit_branches site branches fit)
              (and_first (each_apart (map folded_branch branches)) (all_apart (map folded_branch branches)) apart) clear,
        ));
    guarded = λ place guard e body each at. fork_parts place (StmtKind-F.When guard e body) at _ (plain_statements.guarded place at guard e body)
        (λ fit apart clear. forks_in body 0 (inside (label_at at) 0) each (fit_guarded site e body fit) apart clear);
    repeat = λ place body each at. fork_parts place (StmtKind-F.Repeat body) at _ (plain_statements.endless place at body)
        (λ fit apart clear. forks_in body 0 (inside (label_at at) 0) each fit apart clear);
    until = λ place body e each at. fork_parts place (StmtKind-F.Until body e) at _ (plain_statements.until place at body e)
        (λ fit apart clear. forks_in body 0 (inside (label_at at) 0) each
        (and_first (all_of (map (fits site) body)) (is_truth (type_of site e)) fit) apart clear);
    while = λ place e body each at. fork_parts place (StmtKind-F.While e body) at _ (plain_statements.while place at e body)
        (λ fit apart clear. forks_in body 0 (inside (label_at at) 0) each
        (and_second (is_truth (type_of site e)) (all_of (map (fits site) body)) fit) apart clear);
    returns = λ place e at. fork_parts place (StmtKind-F.Return e) at _ (plain_statements.returns place at e) (λ fit apart clear. tt);
  }

  forks_of_body : (body : List Stmt) (at : Position) → Fit site body → each_apart (map naming_of body) ≡ true →
      AllClear site.vars (splits_in (map parallel_of body)) → EachForkIn WriteApart (plain_block body at)
  forks_of_body body at fit apart clear = forks_in body 0 at (λ n d within. induct F fork_cases (get_or body n d)) fit apart clear

pub accepted_writes_apart_so : AcceptedWritesApart
accepted_writes_apart_so structs units entry i unit keeps passes is =
    let orderly : OrderlyUnit structs units unit = (accepted_is_orderly structs units entry keeps passes).each i unit is in
    forks_of_body (site_of structs orderly.earlier unit) unit.body [] orderly.typed (all_true unit.body orderly.apart)
    (λ split there first second var in_earlier in_later declared. orderly.conflicts split first second var
    (in_contains split (splits_of unit) there) (in_contains first split.earlier in_earlier) (in_contains second split.writes in_later) declared)
