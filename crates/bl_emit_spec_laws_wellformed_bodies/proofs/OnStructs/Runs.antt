-- The activities that an activity runs: they stand before it, are needed with it, and head shorter chains.
use Rattle.std.proofs.Common.{◌≡◌, ⊎_elim, ℕ, ◌+◌, ◌<◌, ◌≤◌, max, arith, Bool, true, false, ◌&&◌, ◌||◌, nat_eq}
use Rattle.std.proofs.Common.{List, [], ◌∷◌, Contains, map, take, Option, Some, None, refl, sym, ap, ◌∙◌, subst}
use Rattle.std.proofs.lemmas.Bool.{eq-eqb}
use Rattle.std.proofs.lemmas.List.{get_or-take}
use Rattle.std.proofs.lemmas.List.Elements.{Contains-append_cases}
use Rattle.std.proofs.lemmas.List.Folds.{list_any-append}
use Rattle.std.specs.List.{list_any}
use Rattle.std.specs.Prelude.{nat_le, slice_get, slice_index, if◌then◌else◌}
use Rattle.std.proofs.lemmas.Bool.{or_left, or_right}
use Rattle.bl_tree.proofs.Basics.{and_first, and_second, contains_none, first_or_further}
use Rattle.bl_tree.specs.declared.place.Place.{Place}
use Rattle.bl_tree.specs.declared.tree.Expr.{Expr}
use Rattle.bl_tree.specs.declared.tree.Path.{Path}
use Rattle.bl_tree.specs.declared.tree.StructDef.{StructDef}
use Rattle.bl_tree.specs.declared.tree.Unit.{Unit as UnitDef}
use Rattle.bl_tree.specs.Depths.{arguments_depth, target_depth}
use Rattle.bl_tree.specs.Program.{IsWellTyped}
use Rattle.bl_tree.specs.Typing.{TypingContext, arguments_fit, is_activity, run_fits, target_fits}
use Rattle.bl_limits_measures.specs.Calls.{calls_of}
use Rattle.bl_limits_measures.specs.Runs.{activities_run}
use Rattle.bl_limits_measures.specs.Units.{all_chains, chain_at, chain_by, greatest_at}
use Rattle.bl_limits_measures.proofs.TableLemmas.{answer_at}
use Rattle.bl_graph_nodes.specs.Nodes.{ActAt, CheckAt, DepthEndAt, DepthJoinAt, EnterAt, ForkAt, HeadAt, Node, PauseAt, ResumeAt, StartAt}
use Rattle.bl_graph_nodes.specs.Nodes.{SurfaceEndAt, SurfaceJoinAt, TestAt, nodes_in}
use Rattle.bl_graph_nodes.specs.Plain.{Block}
use Rattle.bl_machine.specs.Uses.{Slots}
use Rattle.bl_machine_pass.specs.Transitions.{Transition, rules}
use Rattle.bl_machine_transitions.specs.Callees.{callees_in}
use Rattle.bl_emit_functions_laws_wellformed.proofs.OnFiles.Under.{Under, cons-under, head-under, none-under}
use Rattle.bl_emit_spec_laws.proofs.OnRunPlaces.Sharing.{once_in}
use Rattle.bl_emit_spec.specs.Activities.{Activity, RunAt, activity_view, body_of, rules_at, run_at, runs_at, runs_in_body}
use Rattle.bl_emit_spec.specs.Blocks.{Sizes}
use Rattle.bl_emit_spec.specs.Programs.{needs_of}
use Rattle.bl_emit_spec_laws_wellformed.proofs.OnChains.Nodes.{AllUnder, body_under, node_calls}
use Rattle.bl_emit_spec_laws_wellformed.specs.Closed.{NeededClosed}
use Rattle.bl_emit_spec_laws_wellformed.specs.Spelled.{CanSpell, all_fit, node_fits, rule_fits}
use Rattle.bl_emit_spec_laws_wellformed_bodies.proofs.OnStructs.Lists.{get_taken}
use Rattle.bl_emit_spec_laws_wellformed_bodies.proofs.OnStructs.Walk.{RunFits}
use Rattle.bl_emit_spec_laws_wellformed.proofs.OnNeeded.Whole.{among_greatest}

-- 0 for what the unit needs, and 1 for all else
abbrev by : UnitDef → ℕ → ℕ
by unit j = if list_any (nat_eq j) (needs_of unit) then 0 else 1

named_back : (unit : UnitDef) (j : ℕ) → by unit j ≤ 0 → list_any (nat_eq j) (needs_of unit) ≡ true
named_back unit j le = of (list_any (nat_eq j) (needs_of unit)) refl le
  where
    of : (b : Bool) → list_any (nat_eq j) (needs_of unit) ≡ b → (if b then 0 else 1) ≤ 0 → b ≡ true
    of true is le = refl
    of false is le = absurd (omega (arith, le))

few_of : (unit : UnitDef) (xs : List ℕ) → ((j : ℕ) → list_any (nat_eq j) xs ≡ true → list_any (nat_eq j) (needs_of unit) ≡ true) →
    Under (by unit) 0 xs
few_of unit [] all = none-under (by unit) 0
few_of unit (x ∷ xs) all =
    let own : by unit x ≡ 0 = ap (λ (b : Bool). if b then 0 else 1) (all x (or_left (nat_eq x x) (list_any (nat_eq x) xs) (eq-eqb x x refl))) in
    cons-under (by unit) 0 x xs (omega (arith, own)) (few_of unit xs (λ j is. all j (or_right (nat_eq j x) (list_any (nat_eq j) xs) is)))

few_calls : (unit : UnitDef) → Under (by unit) 0 (calls_of unit)
few_calls unit =
    few_of unit (calls_of unit)
    (λ j is. list_any-append (nat_eq j) (calls_of unit) (activities_run unit)
    ∙ or_left (list_any (nat_eq j) (calls_of unit)) (list_any (nat_eq j) (activities_run unit)) is)

few_runs : (unit : UnitDef) → Under (by unit) 0 (activities_run unit)
few_runs unit =
    few_of unit (activities_run unit)
    (λ j is. list_any-append (nat_eq j) (calls_of unit) (activities_run unit)
    ∙ or_right (list_any (nat_eq j) (calls_of unit)) (list_any (nat_eq j) (activities_run unit)) is)

-- ---- what a `run` calls

-- an activity among those before, which the unit needs
record Called (unit : UnitDef) (site : TypingContext) (r : RunAt) : Type 0 where
  callee : UnitDef
  own : slice_get site.earlier r.unit ≡ Some callee
  active : is_activity callee.kind ≡ true
  named : list_any (nat_eq r.unit) (needs_of unit) ≡ true

module _ (unit : UnitDef) (site : TypingContext) (number : Node → ℕ) (sizes : Sizes) where
  callee_of : (at : Place) (c n : ℕ) (target : Option Path) (inputs : List Expr) (outputs : List Path) (o : Option UnitDef) → slice_get site.earlier c ≡ o →
      run_fits site target inputs outputs o ≡ true → by unit c ≤ 0 → Called unit site (record { place = at; number = n; unit = c })
  callee_of at c n target inputs outputs None is fits low = absurd (cc)
  callee_of at c n target inputs outputs (Some callee) is fits low = record {
    callee = callee;
    own = is;
    active = and_second (is_activity site.kind) (is_activity callee.kind)
        (and_first (is_activity site.kind && is_activity callee.kind)
        (target_fits site callee.result target && arguments_fit site inputs outputs callee) fits);
    named = named_back unit c low;
  }

  at_node : (c : ℕ) (n : Node) → node_fits site c n ≡ true → Under (by unit) 0 (node_calls c n) → (r : RunAt) →
      Contains (run_at number c n) r → Called unit site r
  at_node c (EnterAt l at arguments) fits low r has =
      ⊎_elim
      (λ is. subst (Called unit site) is
      (callee_of at c (number (EnterAt l at arguments)) arguments.target arguments.inputs arguments.outputs (slice_get site.earlier c) refl
      (and_first (run_fits site arguments.target arguments.inputs arguments.outputs (slice_get site.earlier c))
      (nat_le (max (target_depth arguments.target) (arguments_depth arguments.inputs arguments.outputs)) 200) fits)
      (head-under (by unit) 0 c _ low)))
      (λ none. absurd (contains_none r none)) (first_or_further _ [] r has)
  at_node c (ActAt l s) fits low r has = absurd (contains_none r has)
  at_node c (TestAt l at e) fits low r has = absurd (contains_none r has)
  at_node c (PauseAt l at) fits low r has = absurd (contains_none r has)
  at_node c (ResumeAt l at arguments) fits low r has = absurd (contains_none r has)
  at_node c (HeadAt l at) fits low r has = absurd (contains_none r has)
  at_node c (StartAt l at) fits low r has = absurd (contains_none r has)
  at_node c (CheckAt l at e) fits low r has = absurd (contains_none r has)
  at_node c (SurfaceEndAt l at) fits low r has = absurd (contains_none r has)
  at_node c (DepthEndAt l at) fits low r has = absurd (contains_none r has)
  at_node c (ForkAt l at) fits low r has = absurd (contains_none r has)
  at_node c (SurfaceJoinAt l at) fits low r has = absurd (contains_none r has)
  at_node c (DepthJoinAt l at) fits low r has = absurd (contains_none r has)

  each_called : (cs : List ℕ) (listed : List Transition) → AllUnder (by unit) 0 cs (map (λ (rule : Transition). rule.node) listed) →
      all_fit sizes site cs listed ≡ true → (r : RunAt) → Contains (runs_at number cs listed) r → Called unit site r
  each_called [] listed low fits r has = absurd (contains_none r has)
  each_called (c ∷ cs) [] low fits r has = absurd (contains_none r has)
  each_called (c ∷ cs) (rule ∷ listed) low fits r has =
      let here = rule_fits sizes rule && node_fits site c rule.node in
      ⊎_elim
      (λ own. at_node c rule.node
      (and_second (rule_fits sizes rule) (node_fits site c rule.node) (and_first here (all_fit sizes site cs listed) fits)) low.0 r own)
      (λ behind. each_called cs listed low.1 (and_second here (all_fit sizes site cs listed) fits) r behind)
      (Contains-append_cases (run_at number c rule.node) (runs_at number cs listed) r has)

-- ---- chains

chain_less : (units : List UnitDef) (k j : ℕ) (unit : UnitDef) → slice_get units k ≡ Some unit → j < k →
    list_any (nat_eq j) (needs_of unit) ≡ true → chain_at units j + 1 ≤ chain_at units k
chain_less units k j unit there less named =
    let known : List ℕ = take k (all_chains units) in
    let is : chain_at units k ≡ chain_by known unit = answer_at chain_by units k unit 0 there in
    let same : slice_index known j ≡ chain_at units j = get_or-take k (all_chains units) j 0 less in
    of (list_any (nat_eq j) (calls_of unit)) refl is same
  where
    of : (b : Bool) → list_any (nat_eq j) (calls_of unit) ≡ b → chain_at units k ≡ chain_by (take k (all_chains units)) unit →
        slice_index (take k (all_chains units)) j ≡ chain_at units j → chain_at units j + 1 ≤ chain_at units k
    of true called is same =
        let low : slice_index (take k (all_chains units)) j ≤ greatest_at (take k (all_chains units)) (calls_of unit) =
        among_greatest (slice_index (take k (all_chains units))) (calls_of unit) j called in
        omega (arith, is, same, low)
    of false called is same =
        let ran : list_any (nat_eq j) (activities_run unit) ≡ true =
        ap (λ b. b || list_any (nat_eq j) (activities_run unit)) (sym called)
        ∙ sym (list_any-append (nat_eq j) (calls_of unit) (activities_run unit)) ∙ named in
        let low : slice_index (take k (all_chains units)) j ≤ greatest_at (take k (all_chains units)) (activities_run unit) =
        among_greatest (slice_index (take k (all_chains units))) (activities_run unit) j ran in
        omega (arith, is, same, low)

-- ---- together

pub runs_fit : ((slots : Slots) (body : Block) → map (λ (rule : Transition). rule.node) (rules slots body) ≡ nodes_in body) →
    (structs : List StructDef) (units : List UnitDef) (entry k : ℕ) (a : Activity) → IsWellTyped structs units entry → NeededClosed structs units entry →
    CanSpell structs units k a → (r : RunAt) → Contains (runs_in_body a) r → RunFits units entry k (take k units) r
runs_fit nodes structs units entry k a keeps closed can r has =
    let low : AllUnder (by a.unit) 0 (callees_in (body_of a)) (map (λ (rule : Transition). rule.node) (rules_at a)) =
    subst (AllUnder (by a.unit) 0 (callees_in (body_of a))) (sym (nodes a.slots (body_of a)))
    (body_under (by a.unit) 0 a.unit (few_calls a.unit) (few_runs a.unit)) in
    let called = each_called a.unit (activity_view a).site (activity_view a).number a.sizes (callees_in (body_of a)) (rules_at a) low can.rules r
    (once_in (runs_at (activity_view a).number (callees_in (body_of a)) (rules_at a)) r has) in
    let own : slice_get (take k units) r.unit ≡ Some called.callee =
    subst (λ (earlier : List UnitDef). slice_get earlier r.unit ≡ Some called.callee) can.earlier called.own in
    let taken = get_taken k units r.unit called.callee own in
    record {
      callee = called.callee;
      own = own;
      is_there = taken.0;
      before = taken.1;
      active = called.active;
      needed = λ need. closed.closed k r.unit a.unit keeps can.there need called.named;
      less = chain_less units k r.unit a.unit can.there taken.1 called.named;
    }
