-- What writes over what a deed reads writes what its nodes read.
use Rattle.std.proofs.Common.{◌≡◌, ◌⊎◌, inl, inr, ℕ, zero, suc, Bool, true, false, ◌||◌, List, [], ◌∷◌, ◌++◌, map, Option, Some, refl, sym, ap, ◌∙◌}
use Rattle.std.proofs.Common.{subst, arith}
use Rattle.std.specs.List.{list_any}
use Rattle.std.specs.Prelude.{Contains, nat_eq}
use Rattle.std.proofs.lemmas.Bool.{and_from}
use Rattle.bl_tree.proofs.Basics.{and_first, and_second, not_both}
use Rattle.bl_tree.specs.declared.static_path.Static.{Static}
use Rattle.bl_tree.specs.declared.tree.Path.{Path}
use Rattle.bl_tree.specs.declared.tree.StructDef.{StructDef}
use Rattle.bl_tree.specs.declared.tree.Unit.{Unit as UnitDef}
use Rattle.bl_tree.specs.Effects.{argument_mentions, target_mentions}
use Rattle.bl_tree.specs.Reduce.{joined}
use Rattle.bl_tree.specs.Static.{index_mentions, is_front, mentions, overlaps, path_mentions, static_of}
use Rattle.bl_effects.proofs.SetLemmas.{overlaps_symm}
use Rattle.bl_graph_nodes.specs.Nodes.{Node, node_reads, node_writes, place_of_node}
use Rattle.bl_graph_nodes.specs.Steps.{Gives, Here, Inside, StepLabel, leaf_of, run_node}
use Rattle.bl_graph.specs.DataEdges.{Touches}
use Rattle.bl_ctree.specs.Instances.{Setting, callee_of, setting_of}
use Rattle.bl_ctree.specs.Store.{Location, home, overlap}
use Rattle.bl_ctree_laws.specs.Pending.{Deed, deed_reads, leads_over}
use Rattle.bl_ctree_laws.specs.Steps.{Anyway, Moves, OneMoves, acts, takes, passes, pauses, runs, repeats, repeats_until, leaves, turns, enters, skips, forks}
use Rattle.bl_ctree_laws.specs.Steps.{guards, goes_on, waits, lets, aborts, resets, guard_ends, copies, run_ends, joins, in_seq, in_par, in_guard, in_run}
use Rattle.bl_ctree_laws.specs.Steps.{first, later}
use Rattle.bl_ctree_laws.specs.Trees.{Call, Tree, Trees}
use Rattle.bl_ctree_laws.proofs.Tests.{or_le}
use Rattle.bl_ctree_laws_confluence.specs.Deeds.Homes.{HomesAreApart, OutputsAreApart}
use Rattle.bl_ctree_laws_confluence.specs.Deeds.Nesting.{Inside as InCallee, InstancesNest, IsOutput, ProgramsNest}
use Rattle.bl_ctree_laws_confluence.specs.Apart.Seen.{AllCallsMatchCallees, CallsMatchCallees, DeedsStayInside, HasOutputs}
use Rattle.bl_ctree_laws_confluence.proofs.OnApart.Seen.{cut_front, longer}
use Rattle.bl_ctree_laws_traces.specs.Progress.Reading.{DeedsReadAtNodes, IsRead}
use Rattle.bl_ctree_laws_traces.proofs.OnProgress.Paths.{any_right, member, set_passes}
use Rattle.bl_ctree_laws_traces.specs.Ready.Touching.{Touched, TouchesAt, WritersTouchOnTheWay}
use Rattle.bl_ctree_laws.proofs.Surfaces.{passed, passing}

-- ---- paths

-- what overlaps what leads on overlaps what is before
cut_path : (q o : Static) (fields : List ℕ) → overlaps q (longer o fields) ≡ true → overlaps q o ≡ true
cut_path q o fields e =
    let long : List ℕ = o.fields ++ fields in
    let fronts : Bool = is_front q.fields long || is_front long q.fields in
    and_from (nat_eq q.root o.root) (is_front q.fields o.fields || is_front o.fields q.fields) (and_first (nat_eq q.root o.root) fronts e)
    (cut_front q.fields o.fields fields (and_second (nat_eq q.root o.root) fronts e))

-- ---- what a `run` reads

outputs_read : (test : Static → Bool) (outputs : List Path) → list_any test (map static_of outputs) ≡ true →
    list_any test (joined (map path_mentions outputs)) ≡ true
outputs_read test [] e = absurd cc
outputs_read test (path ∷ rest) e = or_le (test (static_of path)) (list_any test (map static_of rest)) (test (static_of path))
    (list_any test (index_mentions path ++ joined (map path_mentions rest))) (λ h. h)
    (λ h. any_right test (index_mentions path) (joined (map path_mentions rest)) (outputs_read test rest h)) e

-- both its nodes read its outputs
run_reads : (test : Static → Bool) (stood : Bool) (s : Call) → list_any test (map static_of s.arguments.outputs) ≡ true →
    list_any test (node_reads (run_node stood s.label s.place s.arguments)) ≡ true
run_reads test stood s e = by_node stood
  where
    arguments : list_any test (argument_mentions s.arguments.inputs s.arguments.outputs) ≡ true
    arguments = any_right test (joined (map mentions s.arguments.inputs)) (joined (map path_mentions s.arguments.outputs))
        (outputs_read test s.arguments.outputs e)

    by_node : (stood : Bool) → list_any test (node_reads (run_node stood s.label s.place s.arguments)) ≡ true
    by_node false = set_passes test (argument_mentions s.arguments.inputs s.arguments.outputs) arguments
    by_node true = set_passes test (target_mentions s.arguments.target ++ argument_mentions s.arguments.inputs s.arguments.outputs)
        (any_right test (target_mentions s.arguments.target) (argument_mentions s.arguments.inputs s.arguments.outputs) arguments)

-- ---- the instances of a label

-- the deed is done in the instance of the node that acts, and what is inside a call in the callee that the call's place begins
abbrev Placed : Setting → ℕ → Deed → StepLabel → Type 0
Placed w i a (Here n) = a.instance ≡ i
Placed w i a (Gives n) = a.instance ≡ i
Placed w i a (Inside n u step) = (s : Call) × (stood : Bool) × (callee : ℕ) × (n ≡ run_node stood s.label s.place s.arguments)
    × (callee_of w i s.place ≡ Some callee) × HasOutputs w callee (map static_of s.arguments.outputs) × InCallee w callee a.instance
    × Placed w callee a step

module _ {w : Setting} (stay : DeedsStayInside) where
  mutual
    placed : {i : ℕ} {c : Tree} {d : Bool} {a : Deed} {n : StepLabel} {c' : Tree} → CallsMatchCallees w i c → Moves Anyway w i c d a n c' → Placed w i a n
    placed stand acts = refl
    placed stand takes = refl
    placed stand passes = refl
    placed stand pauses = refl
    placed stand (runs here there) = refl
    placed stand repeats = refl
    placed stand repeats_until = refl
    placed stand leaves = refl
    placed stand turns = refl
    placed stand enters = refl
    placed stand skips = refl
    placed stand forks = refl
    placed stand guards = refl
    placed stand goes_on = refl
    placed stand waits = refl
    placed stand lets = refl
    placed stand (aborts is) = refl
    placed stand (resets is) = refl
    placed stand guard_ends = refl
    placed stand copies = refl
    placed stand run_ends = refl
    placed stand (joins still done) = refl
    placed stand (in_seq move) = placed stand move
    placed stand (in_par move) = one_placed stand move
    placed stand (in_guard move) = placed stand move
    placed stand (in_run {s = s} {callee = callee} {stood = stood} {c = c} {d = d} {a = a} {n = n} {c' = c'} move) =
        (s, stood, callee, refl, stand.0, stand.1.0, stay w callee c d a n c' stand.1.1 move, placed stand.1.1 move)

    one_placed : {i : ℕ} {branches : Trees} {d : Bool} {a : Deed} {n : StepLabel} {branches' : Trees} → AllCallsMatchCallees w i branches →
        OneMoves Anyway w i branches d a n branches' → Placed w i a n
    one_placed stand (first move free) = placed stand.0 move
    one_placed stand (later move free) = one_placed stand.1 move

-- ---- writers

-- a location that is read, and passes
record Read (test : Location → Bool) (xs : List Location) : Type 0 where
  one : Location
  there : Contains xs one
  is : test one ≡ true

read_in : (test : Location → Bool) (xs : List Location) → list_any test xs ≡ true → Read test xs
read_in test [] e = absurd cc
read_in test (x ∷ xs) e = by_test (test x) refl e (read_in test xs)
  where
    by_test : (b : Bool) → test x ≡ b → (b || list_any test xs) ≡ true → (list_any test xs ≡ true → Read test xs) → Read test (x ∷ xs)
    by_test true is e more = record { one = x; there = (zero, omega arith, refl); is = is }
    by_test false is e more =
        let rest = more e in
        let below = rest.there.1 in
        record { one = rest.one; there = (suc rest.there.0, omega arith, rest.there.2); is = rest.is }

module _ (structs : List StructDef) (units : List UnitDef) (entry : ℕ) (nest : InstancesNest structs units entry) (apart : HomesAreApart)
    (outputs : OutputsAreApart (setting_of structs units entry)) (a : Deed) (leaf : Node)
    (reads : (at : Location) → Contains (deed_reads (setting_of structs units entry) a) at →
    IsRead (setting_of structs units entry) a.instance leaf at) where
  abbrev W : Setting
  W = setting_of structs units entry

  abbrev home_of : ℕ → Static → Location
  home_of i p = home W (record { instance = i; path = p })

  -- in the deed's own instance
  own : (i : ℕ) → a.instance ≡ i → Touched W i a leaf
  own i here writer over =
      let r = read_in (λ at. list_any (leads_over W i at) (node_writes writer)) (deed_reads W a) over in
      let q = passing (leads_over W i r.one) (node_writes writer) r.is in
      let path = reads r.one r.there in
      let same : r.one ≡ home_of i path.path = path.is ∙ ap (λ j. home_of j path.path) here in
      let both = apart structs units entry i path.path q.one outputs (subst (λ at. leads_over W i at q.one ≡ true) same q.passes) in
      passed (λ p. list_any (overlaps p) (node_reads leaf)) (node_writes writer) q.one q.among
      (passed (overlaps q.one) (node_reads leaf) path.path (member (node_reads leaf) path.path path.reads) (overlaps_symm q.one path.path ∙ both))

  -- around a call: what is read in it is hidden there, or an output of it
  around : (i : ℕ) (s : Call) (stood : Bool) (callee : ℕ) → callee_of W i s.place ≡ Some callee →
      HasOutputs W callee (map static_of s.arguments.outputs) →
      InCallee W callee a.instance → Touched W i a (run_node stood s.label s.place s.arguments)
  around i s stood callee begins has inner writer over =
      let r = read_in (λ at. list_any (leads_over W i at) (node_writes writer)) (deed_reads W a) over in
      let q = passing (leads_over W i r.one) (node_writes writer) r.is in
      let path = reads r.one r.there in
      by_home q.one path.path (subst (λ at. overlap at (home_of i q.one) ≡ true) path.is q.passes)
      (λ e. passed (λ p. list_any (overlaps p) (node_reads (run_node stood s.label s.place s.arguments))) (node_writes writer) q.one q.among e)
      (nest.homes i callee a.instance s.place path.path begins inner)
    where
      by_home : (q path : Static) → overlap (home_of a.instance path) (home_of i q) ≡ true →
          (list_any (overlaps q) (node_reads (run_node stood s.label s.place s.arguments)) ≡ true →
          Touches writer (run_node stood s.label s.place s.arguments)) →
          InCallee W callee (home_of a.instance path).instance ⊎ IsOutput W i callee (record { instance = a.instance; path = path }) →
          Touches writer (run_node stood s.label s.place s.arguments)
      by_home q path met gives (inl inside) =
          not_both (nat_eq (home_of a.instance path).instance (home_of i q).instance)
          (nest.hidden i callee (home_of a.instance path).instance s.place q begins inside)
          (and_first (nat_eq (home_of a.instance path).instance (home_of i q).instance)
          (overlaps (home_of a.instance path).path (home_of i q).path) met)
      by_home q path met gives (inr out) =
          let long : Static = longer out.output out.fields in
          let both : overlaps long q ≡ true =
          apart structs units entry i long q outputs (subst (λ at. overlap at (home_of i q) ≡ true) out.leads met) in
          let over : overlaps q out.output ≡ true = cut_path q out.output out.fields (overlaps_symm q long ∙ both) in
          let some : list_any (overlaps q) (map static_of s.arguments.outputs) ≡ true =
          has out.instance out.origin (overlaps q) out.there out.began
          (passed (overlaps q) out.origin.outputs out.output (member out.origin.outputs out.output out.is_output) over) in
          gives (run_reads (overlaps q) stood s some)

  run_place : (stood : Bool) (s : Call) → place_of_node (run_node stood s.label s.place s.arguments) ≡ s.place
  run_place true s = refl
  run_place false s = refl

  some_same : (x : Option ℕ) (j k : ℕ) → x ≡ Some j → x ≡ Some k → j ≡ k
  some_same x j k one other = cc

  on_the_way : (n : StepLabel) (i : ℕ) → leaf_of n ≡ leaf → Placed W i a n → TouchesAt W i a n
  on_the_way (Here n) i is at = subst (Touched W i a) (sym is) (own i at)
  on_the_way (Gives n) i is at = subst (Touched W i a) (sym is) (own i at)
  on_the_way (Inside n u step) i is (s, stood, callee, node, begins, has, inner, more) = (
    subst (Touched W i a) (sym node) (around i s stood callee begins has inner),
    λ other there. subst (λ k. TouchesAt W k a step)
        (some_same (callee_of W i s.place) callee other begins (sym (ap (callee_of W i) (ap place_of_node node ∙ run_place stood s)) ∙ there))
        (on_the_way step callee is more),
  )

pub writers_touch_on_the_way : DeedsStayInside → DeedsReadAtNodes → ProgramsNest → HomesAreApart → WritersTouchOnTheWay
writers_touch_on_the_way stay reads nest apart structs units entry i c d a n c' outputs stand move =
    on_the_way structs units entry (nest structs units entry) apart outputs a (leaf_of n)
    (λ at there. reads (setting_of structs units entry) i c d a n c' at move there) n i refl (placed stay stand move)
