-- The passes of a tick are no more than its instances may be passed.
use Rattle.std.proofs.Common.{◌≡◌, ℕ, zero, suc, ◌+◌, ◌*◌, ◌≤◌, Bool, true, List, [], ◌∷◌, ◌++◌, map, Option, Some, None, inl, inr, refl, sym, ap, ◌∙◌, subst}
use Rattle.std.proofs.Common.{arith}
use Rattle.std.specs.Prelude.{option_map, slice_get, unwrap_or, ⊤}
use Rattle.bl_tree.specs.declared.tree.StructDef.{StructDef}
use Rattle.bl_tree.specs.declared.tree.Unit.{Unit as UnitDef}
use Rattle.bl_tree.specs.Reduce.{joined, total}
use Rattle.bl_graph_nodes.specs.Plain.{Block, plain_body}
use Rattle.bl_ctree.specs.declared.instance.Run.{Run}
use Rattle.bl_ctree.specs.Instances.{Setting, expanded, one_a_place, runs_in, runs_of}
use Rattle.bl_ctree.specs.Measure.{count_at}
use Rattle.bl_ctree_laws.specs.Trees.{Call, Tree, Trees, Nil, Wait, Test, Idle, Do, Seq, Par, Guard, Run as RunTree, beside, no_tree}
use Rattle.bl_ctree_laws_traces.specs.Bounded.TickPasses.{Below, Pass, unit_of_pass}
use Rattle.bl_ctree_laws_traces.proofs.OnBounded.ByPlace.{PlacesDiffer, by_distinct_places, by_places, few_at, once_among, once_placed}
use Rattle.bl_ctree_laws_traces.proofs.OnBounded.Callees.{CallsAreRuns, OneUnitEach}
use Rattle.bl_ctree_laws_traces.proofs.OnBounded.Calls.{calls_in, run_of}
use Rattle.bl_ctree_laws_traces.proofs.OnBounded.Listed.{begun_passes, body_passes, node_at, stood_passes, tick_passes}
use Rattle.bl_ctree_laws_traces.proofs.OnBounded.Lists.{among_either, among_mapped, total_append, total_both, total_of, totals_less}
use Rattle.bl_ctree_laws_traces.proofs.OnBounded.Passing.{fresh_opened, fresh_sum, is_opened, opened, whole_opened, whole_sum}
use Rattle.bl_ctree_laws_traces.proofs.OnBounded.Standing.{InnerTree, inner_tree, runs_in_tree, runs_in_trees}
use Rattle.bl_ctree_laws_traces.proofs.OnBounded.Tied.{Elsewhere, Tied, TiedEach}
use Rattle.bl_tree.proofs.FirstLemmas.{same_true, In}
use Rattle.bl_ctree_laws_confluence.proofs.OnApart.Members.{in_map}

-- ---- the `run`s of a tree

-- the `run` is one of the body, and what is left in it is tied to the body of its unit
record InnerTied (w : Setting) (body : Block) (r : InnerTree) : Type 0 where
  unit : UnitDef
  is : slice_get w.units r.call.unit ≡ Some unit
  call : In r.call (calls_in body)
  tied : Tied w (plain_body unit.body) r.tree

module _ (w : Setting) where
  mutual
    inner_tied : (body : Block) (c : Tree) → Tied w body c → (r : InnerTree) → In r (runs_in_tree c) → InnerTied w body r
    inner_tied body Nil tied r at = elim at [ ]
    inner_tied body (Wait s) tied r at = elim at [ ]
    inner_tied body (Test s) tied r at = elim at [ ]
    inner_tied body (Idle block) tied r at = elim at [ ]
    inner_tied body (Do s) tied r at = elim at [ ]
    inner_tied body (Seq c rest) tied r at = inner_tied body c tied r at
    inner_tied body (Par s stood branches) tied r at = all_inner_tied body branches tied r at
    inner_tied body (Guard s phase stood c) tied r at = inner_tied body c tied r at
    inner_tied body (RunTree s callee phase stood c) tied r (inl same) =
        let one : InnerTied w body (inner_tree s c) = record { unit = tied.0; is = tied.2; call = tied.3; tied = tied.4 } in
        subst (InnerTied w body) (sym same) one
    inner_tied body (RunTree s callee phase stood c) tied r (inr none) = elim none [ ]

    all_inner_tied : (body : Block) (branches : Trees) → TiedEach w body branches → (r : InnerTree) → In r (runs_in_trees branches) →
        InnerTied w body r
    all_inner_tied body no_tree tied r at = elim at [ ]
    all_inner_tied body (beside weak c rest) tied r at = elim (among_either r (runs_in_tree c) (runs_in_trees rest) at) [
      | inl one ↦ inner_tied body c tied.0 r one
      | inr more ↦ all_inner_tied body rest tied.1 r more
    ]

-- no two of them stand at one place
abbrev CallsDiffer : List InnerTree → Type 0
CallsDiffer [] = ⊤
CallsDiffer (r ∷ rest) = ((q : InnerTree) → In q rest → r.call.place ≡ q.call.place → ⊥) × CallsDiffer rest

both_differ : (xs ys : List InnerTree) → CallsDiffer xs → CallsDiffer ys → Elsewhere xs ys → CallsDiffer (xs ++ ys)
both_differ [] ys one other apart = other
both_differ (x ∷ xs) ys one other apart = (
  λ q at same. elim (among_either q xs ys at) [
    | inl here ↦ one.0 q here same
    | inr there ↦ apart x q (inl refl) there same
  ],
  both_differ xs ys one.1 other (λ a b here there. apart a b (inr here) there),
)

module _ (w : Setting) (body : Block) where
  mutual
    calls_differ : (c : Tree) → Tied w body c → CallsDiffer (runs_in_tree c)
    calls_differ Nil tied = tt
    calls_differ (Wait s) tied = tt
    calls_differ (Test s) tied = tt
    calls_differ (Idle block) tied = tt
    calls_differ (Do s) tied = tt
    calls_differ (Seq c rest) tied = calls_differ c tied
    calls_differ (Par s stood branches) tied = all_calls_differ branches tied
    calls_differ (Guard s phase stood c) tied = calls_differ c tied
    calls_differ (RunTree s callee phase stood c) tied = (λ q none same. elim none [ ], tt)

    all_calls_differ : (branches : Trees) → TiedEach w body branches → CallsDiffer (runs_in_trees branches)
    all_calls_differ no_tree tied = tt
    all_calls_differ (beside weak c rest) tied =
        both_differ (runs_in_tree c) (runs_in_trees rest) (calls_differ c tied.0) (all_calls_differ rest tied.1) tied.2

-- a `run` of a tree as the measure of instances sees it
abbrev run_there : InnerTree → Run
run_there r = run_of r.call

places_differ : (rs : List InnerTree) → CallsDiffer rs → PlacesDiffer (map run_there rs)
places_differ [] differ = tt
places_differ (r ∷ rest) differ = (
  λ y at same. let one = among_mapped run_there y rest at in differ.0 one.one one.among (same ∙ ap (λ (run : Run). run.place) one.is),
  places_differ rest differ.1,
)

-- ---- weights

module _ (weight : ℕ → ℕ) where
  -- what passes come to
  abbrev pub weigh : List Pass → ℕ
  weigh passes = total (map (λ pass. weight (unit_of_pass pass)) passes)

  weigh_joined : {A : Type 0} (f : A → List Pass) (g : A → ℕ) → ((x : A) → weigh (f x) ≡ g x) → (xs : List A) →
      weigh (joined (map f xs)) ≡ total (map g xs)
  weigh_joined f g is [] = refl
  weigh_joined f g is (x ∷ xs) =
      total_append (λ pass. weight (unit_of_pass pass)) (f x) (joined (map f xs)) ∙ (λ i. is x i + weigh_joined f g is xs i)

  weigh_body : (alone : ℕ → List Pass) (again : InnerTree → List Pass) (k : ℕ) (body : Block) (old : List InnerTree) →
      weigh (body_passes alone again k body old)
      ≡ weight k + (total (map (λ (s : Call). weigh (alone s.unit)) (calls_in body)) + total (map (λ r. weigh (again r)) old))
  weigh_body alone again k body old =
      ap (λ m. weight k + m)
      (total_append (λ pass. weight (unit_of_pass pass)) (joined (map (begun_passes alone) (calls_in body))) (joined (map (stood_passes again) old))
      ∙ (λ i. weigh_joined (begun_passes alone) (λ (s : Call). weigh (alone s.unit))
      (λ s. total_of (λ pass. weight (unit_of_pass pass)) (Below (node_at Bool.false s) s.unit) (alone s.unit)) (calls_in body) i
      + weigh_joined (stood_passes again) (λ r. weigh (again r))
      (λ r. total_of (λ pass. weight (unit_of_pass pass)) (Below (node_at true r.call) r.call.unit) (again r)) old i))

-- ---- units

module _ (structs : List StructDef) (units : List UnitDef) (are : CallsAreRuns units)
    (one_unit : (k : ℕ) (unit : UnitDef) → slice_get units k ≡ Some unit → OneUnitEach unit) (weight : ℕ → ℕ) where
  abbrev fresh_of : ℕ → ℕ → ℕ
  fresh_of longest k = fresh_sum structs units weight (expanded units longest k)

  abbrev whole_of : ℕ → ℕ → ℕ
  whole_of longest k = whole_sum structs units weight (expanded units longest k)

  -- a sum over the `run` statements of a body, place by place
  calls_by_place : (k : ℕ) (unit : UnitDef) → slice_get units k ≡ Some unit → (g : ℕ → ℕ) →
      total (map (λ (s : Call). g s.unit) (calls_in (plain_body unit.body)))
      ≤ total (map (λ (r : Run). count_at r.place (joined (map runs_in unit.body)) * g r.unit) (runs_of unit))
  calls_by_place k unit is g =
      let runs : List Run = joined (map runs_in unit.body) in
      let first = total_of (λ (x : Run). g x.unit) run_of (calls_in (plain_body unit.body)) in
      let same : total (map (λ (x : Run). g x.unit) (map run_of (calls_in (plain_body unit.body)))) ≡ total (map (λ (x : Run). g x.unit) runs) =
      ap (λ (runs : List Run). total (map (λ (x : Run). g x.unit) runs)) (are k unit is) in
      let less = by_places g runs (one_a_place runs) (once_placed runs)
      (λ x r at at' same. one_unit k unit is x r at (once_among runs r at') (same_true x.place r.place same)) in
      omega (arith, first, same, less)

  -- a sum over the `run`s of a tree
  tree_by_place : (w : Setting) (k : ℕ) (unit : UnitDef) (c : Tree) → slice_get units k ≡ Some unit → Tied w (plain_body unit.body) c → (g : ℕ → ℕ) →
      total (map (λ (r : InnerTree). g r.call.unit) (runs_in_tree c)) ≤ total (map (λ (r : Run). g r.unit) (runs_of unit))
  tree_by_place w k unit c is tied g =
      let runs : List Run = joined (map runs_in unit.body) in
      let first = total_of (λ (x : Run). g x.unit) run_there (runs_in_tree c) in
      let less = by_distinct_places g (map run_there (runs_in_tree c)) (one_a_place runs) (λ x at. once_placed runs x (inside x at))
      (λ x r at at' same. one_unit k unit is x r (inside x at) (once_among runs r at') (same_true x.place r.place same))
      (few_at (map run_there (runs_in_tree c)) (places_differ (runs_in_tree c) (calls_differ w (plain_body unit.body) c tied))) in
      omega (arith, first, less)
    where
      inside : (x : Run) → In x (map run_there (runs_in_tree c)) → In x (joined (map runs_in unit.body))
      inside x at =
          let one = among_mapped run_there x (runs_in_tree c) at in
          subst (In x) (are k unit is)
          (subst (λ x. In x (map run_of (calls_in (plain_body unit.body)))) (sym one.is)
          (in_map run_of one.one.call (calls_in (plain_body unit.body)) (inner_tied w (plain_body unit.body) c tied one.one one.among).call))

  -- what a unit that is found passes
  abbrev passed : ℕ → ℕ → List InnerTree → UnitDef → List Pass
  passed longest k old unit =
      body_passes (λ u. tick_passes units longest u []) (λ (r : InnerTree). tick_passes units longest r.call.unit (runs_in_tree r.tree)) k
      (plain_body unit.body) old

  -- below a unit that begins
  begun_few : (longest k : ℕ) (unit : UnitDef) → slice_get units k ≡ Some unit →
      ((j : ℕ) → weigh weight (tick_passes units longest j []) ≤ fresh_of longest j) →
      total (map (λ (s : Call). weigh weight (tick_passes units longest s.unit [])) (calls_in (plain_body unit.body)))
      ≤ total (map (λ (r : Run). count_at r.place (joined (map runs_in unit.body)) * fresh_of longest r.unit) (runs_of unit))
  begun_few longest k unit is inner =
      let less = totals_less (λ (s : Call). weigh weight (tick_passes units longest s.unit [])) (λ (s : Call). fresh_of longest s.unit)
      (calls_in (plain_body unit.body)) (λ s at. inner s.unit) in
      let more = calls_by_place k unit is (fresh_of longest) in
      omega (arith, less, more)

  fresh_found : (longest k : ℕ) → ((j : ℕ) → weigh weight (tick_passes units longest j []) ≤ fresh_of longest j) → (found : Option UnitDef) →
      slice_get units k ≡ found → weigh weight (unwrap_or (option_map (passed longest k []) found) [])
      ≤ fresh_sum structs units weight (unwrap_or (option_map (opened structs units longest k) found) [])
  fresh_found longest k inner None is = omega arith
  fresh_found longest k inner (Some unit) is =
      let weighed = weigh_body weight (λ u. tick_passes units longest u [])
      (λ (r : InnerTree). tick_passes units longest r.call.unit (runs_in_tree r.tree)) k (plain_body unit.body) [] in
      let below = begun_few longest k unit is inner in
      let all = fresh_opened structs units weight longest k unit is in
      omega (arith, weighed, below, all)

  few_fresh : (longest k : ℕ) → weigh weight (tick_passes units longest k []) ≤ fresh_of longest k
  few_fresh zero k = omega arith
  few_fresh (suc longest) k = fresh_found longest k (λ j. few_fresh longest j) (slice_get units k) refl

  -- the passes of a unit are no more than those of its instances
  pub few_whole : (w : Setting) → w.units ≡ units → (longest k : ℕ) (unit : UnitDef) (c : Tree) → slice_get units k ≡ Some unit →
      Tied w (plain_body unit.body) c → weigh weight (tick_passes units longest k (runs_in_tree c)) ≤ whole_of longest k
  few_whole w its zero k unit c is tied = omega arith
  few_whole w its (suc longest) k unit c is tied =
      let again : InnerTree → List Pass = λ (r : InnerTree). tick_passes units longest r.call.unit (runs_in_tree r.tree) in
      let found : weigh weight (tick_passes units (suc longest) k (runs_in_tree c)) ≡ weigh weight (passed longest k (runs_in_tree c) unit) =
      ap (λ found. weigh weight (unwrap_or (option_map (passed longest k (runs_in_tree c)) found) [])) is in
      let weighed = weigh_body weight (λ u. tick_passes units longest u []) again k (plain_body unit.body) (runs_in_tree c) in
      let below = begun_few longest k unit is (few_fresh longest) in
      let inside = totals_less (λ (r : InnerTree). weigh weight (again r)) (λ (r : InnerTree). whole_of longest r.call.unit) (runs_in_tree c)
      (λ r at. let one = inner_tied w (plain_body unit.body) c tied r at in
      few_whole w its longest r.call.unit one.unit r.tree
      (subst (λ units. slice_get units r.call.unit ≡ Some one.unit) its one.is) one.tied) in
      let places = tree_by_place w k unit c is tied (whole_of longest) in
      let both = total_both (λ (r : Run). count_at r.place (joined (map runs_in unit.body)) * fresh_of longest r.unit)
      (λ (r : Run). whole_of longest r.unit)
      (λ (r : Run). count_at r.place (joined (map runs_in unit.body)) * fresh_of longest r.unit + whole_of longest r.unit) (λ r. refl) (runs_of unit) in
      let all = whole_opened structs units weight longest k unit is in
      let same : whole_of (suc longest) k ≡ whole_sum structs units weight (opened structs units longest k unit) =
      ap (whole_sum structs units weight) (is_opened structs units longest k unit is) in
      omega (arith, found, weighed, below, inside, places, both, all, same)
