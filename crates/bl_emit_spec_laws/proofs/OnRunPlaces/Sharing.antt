-- The `run`s of one place call one unit, and have one number in C: that of the first node at which one begins.
use Rattle.std.proofs.Common.{◌≡◌, inl, inr, ℕ, zero, suc, Bool, true, false, List, [], ◌∷◌, ◌++◌, Contains, Some}
use Rattle.std.proofs.Common.{cond, filter, length, map, not, take, refl, sym, ap, ap₂, subst, ◌∙◌, arith, if◌then◌else◌}
use Rattle.std.proofs.lemmas.List.{map-append}
use Rattle.std.proofs.lemmas.Option.{same_Some}
use Rattle.std.specs.Prelude.{slice_get}
use Rattle.bl_tree.proofs.Basics.{contains_at, contains_first, contains_further, get_mapped, get_of_map, index_of, true_not_false}
use Rattle.bl_tree.specs.declared.place.Place.{Place}
use Rattle.bl_tree.specs.declared.tree.StructDef.{StructDef}
use Rattle.bl_tree.specs.declared.tree.Unit.{Unit as UnitDef}
use Rattle.bl_tree.specs.Program.{IsWellTyped}
use Rattle.bl_tree.specs.Reduce.{joined}
use Rattle.bl_tree.specs.Rules.{same_place}
use Rattle.bl_tree.specs.Typing.{site_of}
use Rattle.bl_tree.specs.Within.{StandsIn}
use Rattle.bl_effects.proofs.EntryLemmas.{same_place_refl}
use Rattle.bl_graph_nodes.specs.Nodes.{ActAt, Arguments, CheckAt, DepthEndAt, DepthJoinAt, EnterAt, ForkAt, HeadAt, Node, PauseAt, ResumeAt, StartAt}
use Rattle.bl_graph_nodes.specs.Nodes.{SurfaceEndAt, SurfaceJoinAt, TestAt, nodes_in}
use Rattle.bl_graph_nodes.specs.Plain.{Block, Label, plain_body}
use Rattle.bl_ctree.specs.declared.instance.Run.{Run}
use Rattle.bl_ctree.specs.Instances.{runs_in}
use Rattle.bl_ctree_laws.specs.Trees.{Call}
use Rattle.bl_ctree_laws_confluence.proofs.OnApart.Placed.{RunAs, runs_listed, same_unit}
use Rattle.bl_ctree_laws_traces.proofs.OnBounded.Callees.{typed_at}
use Rattle.bl_ctree_laws_traces.proofs.OnBounded.Calls.{calls_in, run_of}
use Rattle.bl_ctree_laws_traces.proofs.OnBounded.Statements.{body_few}
use Rattle.bl_machine.specs.Uses.{Slots}
use Rattle.bl_machine_pass.specs.Transitions.{Transition, rules}
use Rattle.bl_machine_transitions.specs.Callees.{callees_in}
use Rattle.bl_emit_spec.specs.Activities.{Activity, RunAt, activity_view, body_of, enters_at, one_a_place, rules_at, run_at, run_number_in, runs_at}
use Rattle.bl_emit_spec.specs.Activities.{runs_in_body}
use Rattle.bl_emit_spec_laws.proofs.OnRemember.Entering.{callees_in_many}
use Rattle.bl_emit_spec_laws.proofs.OnRunPlaces.Entered.{call_there, calls_in_are, entered_at, pick, picked_calls}
use Rattle.bl_ctree_laws_traces.proofs.OnBounded.Callees.{all_among}
use Rattle.bl_tree.proofs.FirstLemmas.{same_true, In}

-- ---- lists

image_among : {A B : Type 0} (f : A → B) (xs : List A) (x : A) → In x xs → In (f x) (map f xs)
image_among f [] x at = absurd at
image_among f (y ∷ xs) x (inl is) = inl (ap f is)
image_among f (y ∷ xs) x (inr at) = inr (image_among f xs x at)

-- lists as long as each other have elements at the same positions
beside_at : {A B : Type 0} (xs : List A) (ys : List B) → length ys ≡ length xs → (k : ℕ) (x : A) → slice_get xs k ≡ Some x →
    (y : B) × (slice_get ys k ≡ Some y)
beside_at [] ys same k x is = absurd (cc)
beside_at (z ∷ xs) [] same k x is = absurd (omega (arith, same))
beside_at (z ∷ xs) (y ∷ ys) same zero x is = (y, refl)
beside_at (z ∷ xs) (y ∷ ys) same (suc k) x is = beside_at xs ys (let less : length ys ≡ length xs = omega (arith, same) in less) k x is

-- ---- the first node

-- the node at which a `run` at the place begins
record EntersAt (at : Place) (n : Node) : Type 0 where
  label : Label
  arguments : Arguments
  is : n ≡ EnterAt label at arguments

enters_so : (at : Place) (n : Node) → enters_at at n ≡ true → EntersAt at n
enters_so at (EnterAt l place arguments) h =
    record { label = l; arguments = arguments; is = ap (λ at. EnterAt l at arguments) (same_true place at h) }
enters_so at (ActAt l s) h = absurd (cc)
enters_so at (TestAt l place e) h = absurd (cc)
enters_so at (PauseAt l place) h = absurd (cc)
enters_so at (ResumeAt l place arguments) h = absurd (cc)
enters_so at (HeadAt l place) h = absurd (cc)
enters_so at (StartAt l place) h = absurd (cc)
enters_so at (CheckAt l place e) h = absurd (cc)
enters_so at (SurfaceEndAt l place) h = absurd (cc)
enters_so at (DepthEndAt l place) h = absurd (cc)
enters_so at (ForkAt l place) h = absurd (cc)
enters_so at (SurfaceJoinAt l place) h = absurd (cc)
enters_so at (DepthJoinAt l place) h = absurd (cc)

-- the first rule of whose node a `run` at the place begins
pub record FirstOf (number : Node → ℕ) (rules : List Transition) (at : Place) : Type 0 where
  pub position : ℕ
  pub rule : Transition
  pub label : Label
  pub arguments : Arguments
  pub is_there : slice_get rules position ≡ Some rule
  pub node : rule.node ≡ EnterAt label at arguments
  pub number_is : run_number_in number rules at ≡ number (EnterAt label at arguments)

-- ---- the `run` of a place

-- whether a `run` stands at another place
abbrev elsewhere : Place → RunAt → Bool
elsewhere place other = not (same_place place other.place)

-- what is kept of a list by a test
kept_by : (test : RunAt → Bool) (runs : List RunAt) (run : RunAt) → Contains runs run → test run ≡ true → Contains (filter test runs) run
kept_by test [] run (k, below, is) on = absurd (omega (arith, below))
kept_by test (first ∷ runs) run (zero, below, is) on =
    subst (λ (b : Bool). Contains (cond b (first ∷ filter test runs) (filter test runs)) run) (sym (ap test is ∙ on))
    (subst (λ (r : RunAt). Contains (r ∷ filter test runs) run) (sym is) (contains_first run (filter test runs)))
kept_by test (first ∷ runs) run (suc k, below, is) on = by (test first) (kept_by test runs run (k, omega (arith, below), is) on)
  where
    by : (b : Bool) → Contains (filter test runs) run → Contains (cond b (first ∷ filter test runs) (filter test runs)) run
    by true at = contains_further first (filter test runs) run at
    by false at = at

-- what is kept by a test stood in the list
filtered_in : (test : RunAt → Bool) (runs : List RunAt) (run : RunAt) → Contains (filter test runs) run → Contains runs run
filtered_in test [] run has = has
filtered_in test (first ∷ runs) run has = by (test first) has (filtered_in test runs run)
  where
    by : (b : Bool) → Contains (cond b (first ∷ filter test runs) (filter test runs)) run → (Contains (filter test runs) run → Contains runs run) →
        Contains (first ∷ runs) run
    by true (zero, below, is) rest = (zero, omega arith, is)
    by true (suc k, below, is) rest = contains_further first runs run (rest (k, omega (arith, below), is))
    by false there rest = contains_further first runs run (rest there)

-- the first `run` of a place is one of all
pub once_in : (runs : List RunAt) (run : RunAt) → Contains (one_a_place runs) run → Contains runs run
once_in [] run has = has
once_in (first ∷ runs) run (zero, below, is) = (zero, omega arith, is)
once_in (first ∷ runs) run (suc k, below, is) =
    contains_further first runs run (once_in runs run (filtered_in (elsewhere first.place) (one_a_place runs) run (k, omega (arith, below), is)))

-- the first `run` of a place, behind nodes of other places
kept_behind : (number : Node → ℕ) (u : ℕ) (at : Place) (n : Node) (runs : List RunAt) (run : RunAt) → enters_at at n ≡ false → run.place ≡ at →
    Contains (one_a_place runs) run → Contains (one_a_place (run_at number u n ++ runs)) run
kept_behind number u at (EnterAt l place arguments) runs run other is has =
    let own : RunAt = record { place = place; number = number (EnterAt l place arguments); unit = u } in
    contains_further own (filter (elsewhere place) (one_a_place runs)) run
    (kept_by (elsewhere place) (one_a_place runs) run has (ap (λ q. not (same_place place q)) is ∙ ap not other))
kept_behind number u at (ActAt l s) runs run other is has = has
kept_behind number u at (TestAt l place e) runs run other is has = has
kept_behind number u at (PauseAt l place) runs run other is has = has
kept_behind number u at (ResumeAt l place arguments) runs run other is has = has
kept_behind number u at (HeadAt l place) runs run other is has = has
kept_behind number u at (StartAt l place) runs run other is has = has
kept_behind number u at (CheckAt l place e) runs run other is has = has
kept_behind number u at (SurfaceEndAt l place) runs run other is has = has
kept_behind number u at (DepthEndAt l place) runs run other is has = has
kept_behind number u at (ForkAt l place) runs run other is has = has
kept_behind number u at (SurfaceJoinAt l place) runs run other is has = has
kept_behind number u at (DepthJoinAt l place) runs run other is has = has

-- the first rule of whose node a `run` at the place begins, with the activity that it calls, and the `run` that is kept of the place
record FirstRun (number : Node → ℕ) (callees : List ℕ) (rules : List Transition) (at : Place) : Type 0 where
  first : FirstOf number rules at
  unit : ℕ
  callee : slice_get callees first.position ≡ Some unit
  kept : Contains (one_a_place (runs_at number callees rules)) (record { place = at; number = run_number_in number rules at; unit = unit })

run_there : (number : Node → ℕ) (callees : List ℕ) (rules : List Transition) (at : Place) (p u : ℕ) (rule : Transition) (l : Label)
    (arguments : Arguments) → slice_get callees p ≡ Some u → slice_get rules p ≡ Some rule → rule.node ≡ EnterAt l at arguments →
    FirstRun number callees rules at
run_there number callees [] at p u rule l arguments one is node = absurd (cc)
run_there number [] (r ∷ rules) at p u rule l arguments one is node = absurd (cc)
run_there number (c ∷ callees) (r ∷ rules) at p u rule l arguments one is node =
    by (enters_at at r.node) refl p one is (λ p one is. run_there number callees rules at p u rule l arguments one is node)
  where
    by : (b : Bool) → enters_at at r.node ≡ b → (p : ℕ) → slice_get (c ∷ callees) p ≡ Some u → slice_get (r ∷ rules) p ≡ Some rule →
        ((p : ℕ) → slice_get callees p ≡ Some u → slice_get rules p ≡ Some rule → FirstRun number callees rules at) →
        FirstRun number (c ∷ callees) (r ∷ rules) at
    by true so p one is later =
        let own = enters_so at r.node so in
        let number_is : run_number_in number (r ∷ rules) at ≡ number (EnterAt own.label at own.arguments) =
        ap (λ b. if b then number r.node else run_number_in number rules at) so ∙ ap number own.is in
        let run : RunAt = record { place = at; number = number (EnterAt own.label at own.arguments); unit = c } in
        record {
          first = record {
            position = 0;
            rule = r;
            label = own.label;
            arguments = own.arguments;
            is_there = refl;
            node = own.is;
            number_is = number_is;
          };
          unit = c;
          callee = refl;
          kept = subst (λ (n : ℕ). Contains (one_a_place (run_at number c r.node ++ runs_at number callees rules))
              (record { place = at; number = n; unit = c })) (sym number_is)
              (subst (λ (n : Node). Contains (one_a_place (run_at number c n ++ runs_at number callees rules)) run) (sym own.is)
              (contains_first run (filter (elsewhere at) (one_a_place (runs_at number callees rules)))));
        }
    by false so zero one is later =
        absurd (true_not_false (sym (same_place_refl at) ∙ (ap (enters_at at) (sym (ap (λ (r : Transition). r.node) (same_Some r rule is) ∙ node)) ∙ so)))
    by false so (suc p) one is later =
        let found = later p one is in
        let same : run_number_in number rules at ≡ run_number_in number (r ∷ rules) at =
        sym (ap (λ b. if b then number r.node else run_number_in number rules at) so) in
        record {
          first = record {
            position = suc found.first.position;
            rule = found.first.rule;
            label = found.first.label;
            arguments = found.first.arguments;
            is_there = found.first.is_there;
            node = found.first.node;
            number_is = sym same ∙ found.first.number_is;
          };
          unit = found.unit;
          callee = found.callee;
          kept = subst (λ (n : ℕ). Contains (one_a_place (run_at number c r.node ++ runs_at number callees rules))
              (record { place = at; number = n; unit = found.unit })) same
              (kept_behind number c at r.node (runs_at number callees rules)
              (record { place = at; number = run_number_in number rules at; unit = found.unit }) so refl found.kept);
        }

-- ---- one unit at one place

module _ (structs : List StructDef) (units : List UnitDef) (entry : ℕ) (keeps : IsWellTyped structs units entry) (k : ℕ) (unit : UnitDef)
    (there : slice_get units k ≡ Some unit) where
  abbrev body : Block
  body = plain_body unit.body

  -- `run`s of one place are of one unit
  runs_share : (s t : Run) → In s (joined (map runs_in unit.body)) → In t (joined (map runs_in unit.body)) → s.place ≡ t.place →
      s.unit ≡ t.unit
  runs_share s t one two places =
      let first = all_among (RunAs (StandsIn unit.body)) (joined (map runs_in unit.body)) s (runs_listed unit) one in
      let second = all_among (RunAs (StandsIn unit.body)) (joined (map runs_in unit.body)) t (runs_listed unit) two in
      sym first.names
      ∙ (same_unit structs units entry keeps unit first.statement second.statement (contains_at units k unit there) first.among second.among first.runs
      second.runs (first.placed ∙ (places ∙ sym second.placed)) ∙ second.names)

  pub calls_share : (s t : Call) → In s (calls_in body) → In t (calls_in body) → s.place ≡ t.place → s.unit ≡ t.unit
  calls_share s t one two places =
      let typed = typed_at structs [] units k unit keeps.units_stand there in
      let are : map run_of (calls_in body) ≡ joined (map runs_in unit.body) = (body_few (site_of structs (take k units) unit) unit.body typed).are in
      runs_share (run_of s) (run_of t) (subst (In (run_of s)) are (image_among run_of (calls_in body) s one))
      (subst (In (run_of t)) are (image_among run_of (calls_in body) t two)) places

-- ---- the `run`s of nodes are those of statements

module _ {A : Type 0} (make : Place → ℕ → A) where
  runs_picked : (number : Node → ℕ) (cs : List ℕ) (rules : List Transition) →
      map (λ (run : RunAt). make run.place run.unit) (runs_at number cs rules)
      ≡ map (λ (call : Call). make call.place call.unit) (picked_calls false (map (λ (rule : Transition). rule.node) rules) cs)
  runs_picked number [] [] = refl
  runs_picked number [] (rule ∷ rules) = refl
  runs_picked number (c ∷ cs) [] = refl
  runs_picked number (c ∷ cs) (rule ∷ rules) =
      map-append (λ (run : RunAt). make run.place run.unit) (run_at number c rule.node) (runs_at number cs rules)
      ∙ (ap₂ ◌++◌ (one rule.node) (runs_picked number cs rules)
      ∙ sym (map-append (λ (call : Call). make call.place call.unit) (pick false rule.node c)
      (picked_calls false (map (λ (rule : Transition). rule.node) rules) cs)))
    where
      one : (n : Node) → map (λ (run : RunAt). make run.place run.unit) (run_at number c n)
          ≡ map (λ (call : Call). make call.place call.unit) (pick false n c)
      one (EnterAt l at arguments) = refl
      one (ActAt l s) = refl
      one (TestAt l at e) = refl
      one (PauseAt l at) = refl
      one (ResumeAt l at arguments) = refl
      one (HeadAt l at) = refl
      one (StartAt l at) = refl
      one (CheckAt l at e) = refl
      one (SurfaceEndAt l at) = refl
      one (DepthEndAt l at) = refl
      one (ForkAt l at) = refl
      one (SurfaceJoinAt l at) = refl
      one (DepthJoinAt l at) = refl

  calls_made : (calls : List Call) →
      map (λ (call : Call). make call.place call.unit) calls ≡ map (λ (run : Run). make run.place run.unit) (map run_of calls)
  calls_made [] = refl
  calls_made (call ∷ calls) = ap (λ rest. make call.place call.unit ∷ rest) (calls_made calls)

  -- the `run`s of an activity's nodes stand at the places of those of its statements, and call the same units
  pub runs_made : ((slots : Slots) (body : Block) → map (λ (rule : Transition). rule.node) (rules slots body) ≡ nodes_in body) → (a : Activity)
      (structs : List StructDef) (units : List UnitDef) (entry : ℕ) → IsWellTyped structs units entry → (k : ℕ) →
      slice_get units k ≡ Some a.unit → map (λ (run : RunAt). make run.place run.unit) (runs_at (activity_view a).number (callees_in (body_of a)) (rules_at a))
      ≡ map (λ (run : Run). make run.place run.unit) (joined (map runs_in a.unit.body))
  runs_made nodes a structs units entry keeps k there =
      let typed = typed_at structs [] units k a.unit keeps.units_stand there in
      runs_picked (activity_view a).number (callees_in (body_of a)) (rules_at a)
      ∙ (ap (λ (ns : List Node). map (λ (call : Call). make call.place call.unit) (picked_calls false ns (callees_in (body_of a))))
      (nodes a.slots (body_of a))
      ∙ (ap (map (λ (call : Call). make call.place call.unit)) (calls_in_are false (body_of a))
      ∙ (calls_made (calls_in (body_of a))
      ∙ ap (map (λ (run : Run). make run.place run.unit)) (body_few (site_of structs (take k units) a.unit) a.unit.body typed).are)))

-- ---- in C

module _ (nodes : (slots : Slots) (body : Block) → map (λ (rule : Transition). rule.node) (rules slots body) ≡ nodes_in body) (a : Activity) where
  -- the first node at which a `run` at the place begins
  pub record FirstNode (at : Place) : Type 0 where
    pub position : ℕ
    pub label : Label
    pub arguments : Arguments
    pub is_there : slice_get (nodes_in (body_of a)) position ≡ Some (EnterAt label at arguments)
    pub number_is : (activity_view a).run at ≡ (activity_view a).number (EnterAt label at arguments)

  nodes_are : map (λ (rule : Transition). rule.node) (rules_at a) ≡ nodes_in (body_of a)
  nodes_are = nodes a.slots (body_of a)

  rule_of : (p u : ℕ) (l : Label) (at : Place) (arguments : Arguments) → slice_get (nodes_in (body_of a)) p ≡ Some (EnterAt l at arguments) →
      slice_get (callees_in (body_of a)) p ≡ Some u → FirstRun (activity_view a).number (callees_in (body_of a)) (rules_at a) at
  rule_of p u l at arguments node callee =
      let rule = get_of_map (λ (rule : Transition). rule.node) (rules_at a) p (EnterAt l at arguments)
      (ap (λ (ns : List Node). slice_get ns p) nodes_are ∙ node) in
      run_there (activity_view a).number (callees_in (body_of a)) (rules_at a) at p u rule.0 l arguments callee rule.1 rule.2

  abbrev node_of : (at : Place) → FirstOf (activity_view a).number (rules_at a) at → FirstNode at
  node_of at first = record {
    position = first.position;
    label = first.label;
    arguments = first.arguments;
    is_there = ap (λ (ns : List Node). slice_get ns first.position) (sym nodes_are)
        ∙ (get_mapped (λ (rule : Transition). rule.node) (rules_at a) first.position first.rule first.is_there ∙ ap Some first.node);
    number_is = first.number_is;
  }

  pub first_node : (l : Label) (at : Place) (arguments : Arguments) → Contains (nodes_in (body_of a)) (EnterAt l at arguments) → FirstNode at
  first_node l at arguments within =
      let found = index_of (nodes_in (body_of a)) (EnterAt l at arguments) within in
      let called = beside_at (nodes_in (body_of a)) (callees_in (body_of a)) (callees_in_many (body_of a)) found.0 (EnterAt l at arguments) found.1 in
      node_of at (rule_of found.0 called.0 l at arguments found.1 called.1).first

  module _ (structs : List StructDef) (units : List UnitDef) (entry : ℕ) (keeps : IsWellTyped structs units entry) (k : ℕ)
      (there : slice_get units k ≡ Some a.unit) where
    -- the activity has a `run` of each place at which one begins, with the number of the place and the unit that is called there
    pub run_kept : (p u : ℕ) (l : Label) (at : Place) (arguments : Arguments) → slice_get (nodes_in (body_of a)) p ≡ Some (EnterAt l at arguments) →
        slice_get (callees_in (body_of a)) p ≡ Some u →
        Contains (runs_in_body a) (record { place = at; number = (activity_view a).run at; unit = u })
    run_kept p u l at arguments node callee =
        let found = rule_of p u l at arguments node callee in
        let own = node_of at found.first in
        let s : Call = record { label = own.label; place = at; unit = found.unit; arguments = own.arguments } in
        let t : Call = record { label = l; place = at; unit = u; arguments = arguments } in
        let same : found.unit ≡ u =
        calls_share structs units entry keeps k a.unit there s t
        (subst (In s) (calls_in_are false (body_of a))
        (call_there false (nodes_in (body_of a)) (callees_in (body_of a)) own.position s own.is_there found.callee))
        (subst (In t) (calls_in_are false (body_of a)) (call_there false (nodes_in (body_of a)) (callees_in (body_of a)) p t node callee)) refl in
        subst (λ (v : ℕ). Contains (runs_in_body a) (record { place = at; number = (activity_view a).run at; unit = v })) same found.kept

    -- so it has for a node at which a `run` goes on
    pub resumed_kept : (p u : ℕ) (l : Label) (at : Place) (arguments : Arguments) →
        slice_get (nodes_in (body_of a)) p ≡ Some (ResumeAt l at arguments) → slice_get (callees_in (body_of a)) p ≡ Some u →
        Contains (runs_in_body a) (record { place = at; number = (activity_view a).run at; unit = u })
    resumed_kept p u l at arguments node callee =
        let s : Call = record { label = l; place = at; unit = u; arguments = arguments } in
        let among : In s (calls_in (body_of a)) =
        subst (In s) (calls_in_are true (body_of a)) (call_there true (nodes_in (body_of a)) (callees_in (body_of a)) p s node callee) in
        let first = entered_at (nodes_in (body_of a)) (callees_in (body_of a)) s (subst (In s) (sym (calls_in_are false (body_of a))) among) in
        run_kept first.position u l at arguments first.node first.unit
