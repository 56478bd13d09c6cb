-- The numbers of the units of instances, and that each `run` of a tree names that of the instance that it began.
use Rattle.std.proofs.Common.{◌≡◌, ℕ, ◌<◌, Bool, true, List, [], ◌∷◌, map, get_or, Option, Some, None, inl, refl, sym, ap, ◌∙◌, subst, arith}
use Rattle.std.proofs.Common.{eqb-true}
use Rattle.std.specs.Prelude.{Contains, nat_eq, option_and_then, option_map, slice_get, unwrap_or, ⊤}
use Rattle.std.proofs.lemmas.List.Quantifiers.{position-Some}
use Rattle.bl_tree.proofs.Basics.{and_first, and_second, get_within, same_some}
use Rattle.bl_tree.specs.declared.tree.StructDef.{StructDef}
use Rattle.bl_tree.specs.declared.tree.Unit.{Unit as UnitDef}
use Rattle.bl_tree.specs.Reduce.{joined}
use Rattle.bl_tree.specs.Rules.{same_place}
use Rattle.bl_graph_nodes.specs.Plain.{Again, Block, Bodies, Plain, Repeat, While, plain_body}
use Rattle.bl_ctree.specs.declared.instance.Instance.{Instance}
use Rattle.bl_ctree.specs.declared.instance.Origin.{Origin}
use Rattle.bl_ctree.specs.declared.instance.Run.{Run as RunAt}
use Rattle.bl_ctree.specs.Instances.{Setting, begins_at, callee_of, runs_in, runs_of, setting_of, unit_at, unit_of}
use Rattle.bl_ctree_laws.specs.Residual.{PlainResidual, PlainResidualEach, PlainResidualOf, ended, none_left, nothing, of_again, of_else, of_guard, of_last}
use Rattle.bl_ctree_laws.specs.Residual.{of_one, of_par, of_repeat, of_run, of_then, of_until, of_while, one_left, paused, tested, to_begin}
use Rattle.bl_ctree_laws.specs.Steps.{call}
use Rattle.bl_ctree_laws.specs.Trees.{Call, Tree, Trees, Nil, Wait, Test, Idle, Do, Seq, Par, Guard, Run, beside, no_tree}
use Rattle.bl_ctree_laws_confluence.specs.Deeds.Origins.{CalledBy, HasCaller, InstancesHaveCallers}
use Rattle.bl_ctree_laws_confluence.proofs.OnApart.Members.{in_left, in_right, in_map}
use Rattle.bl_ctree_laws_traces.proofs.OnBounded.ByPlace.{once_among}
use Rattle.bl_ctree_laws_traces.proofs.OnBounded.Callees.{CallsAreRuns, OneUnitEach}
use Rattle.bl_ctree_laws_traces.proofs.OnBounded.Calls.{calls_in, calls_in_each, calls_of, either_same, run_of, stands_calls, turn_calls}
use Rattle.bl_tree.proofs.FirstLemmas.{same_true, In, contains_in}

-- the number of an instance's unit
abbrev pub unit_number_of : Option Instance → ℕ
unit_number_of found = unwrap_or (option_map (λ (instance : Instance). instance.unit) found) 0

abbrev pub unit_number_at : Setting → ℕ → ℕ
unit_number_at w i = unit_number_of (slice_get w.instances i)

-- the instance that a `run` of a body begins has the number that the `run` names
abbrev pub CalleesNumbered : Setting → Type 0
CalleesNumbered w =
    (i : ℕ) (caller : UnitDef) (s : Call) (callee : ℕ) → unit_at w i ≡ Some caller → In s (calls_in (plain_body caller.body)) →
    callee_of w i s.place ≡ Some callee → unit_number_at w callee ≡ s.unit

-- ---- programs

module _ (callers : InstancesHaveCallers) (structs : List StructDef) (units : List UnitDef) (entry : ℕ)
    (one_unit : (k : ℕ) (unit : UnitDef) → slice_get units k ≡ Some unit → OneUnitEach unit) (are : CallsAreRuns units) where
  abbrev W : Setting
  W = setting_of structs units entry

  by_call : (i : ℕ) (caller : UnitDef) (s : Call) (callee : ℕ) (instance : Instance) (origin : Origin) → unit_at W i ≡ Some caller →
      In s (calls_in (plain_body caller.body)) → slice_get W.instances callee ≡ Some instance → origin.caller ≡ i → origin.place ≡ s.place →
      CalledBy units W.instances callee instance origin → unit_number_at W callee ≡ s.unit
  by_call i caller s callee instance origin found at there by is called =
      let calling : unit_at W origin.caller ≡ Some called.unit = ap (option_and_then (unit_of W)) called.there ∙ called.body in
      let same : called.unit ≡ caller = same_some called.unit caller (sym calling ∙ ap (unit_at W) by ∙ found) in
      let body : slice_get units called.caller.unit ≡ Some caller = called.body ∙ ap Some same in
      let runs : List RunAt = joined (map runs_in caller.body) in
      let run_there : In called.run runs =
      once_among runs called.run (contains_in called.run (runs_of caller) (subst (λ u. Contains (runs_of u) called.run) same called.runs)) in
      let call_there : In (run_of s) runs =
      subst (In (run_of s)) (are called.caller.unit caller body) (in_map run_of s (calls_in (plain_body caller.body)) at) in
      let equal : s.unit ≡ called.run.unit =
      one_unit called.caller.unit caller body (run_of s) called.run call_there run_there (sym is ∙ called.place) in
      ap unit_number_of there ∙ called.names ∙ sym equal

  pub callees_numbered : CalleesNumbered W
  callees_numbered i caller s callee found at begins =
      let d : Instance = record { unit = 0; depth = 0; origin = None } in
      let position = position-Some (λ instance. begins_at i s.place instance.origin) W.instances callee d begins in
      by_origin (get_or W.instances callee d) (get_within W.instances callee d position.0) (get_or W.instances callee d).origin refl position.1
    where
      by_origin : (instance : Instance) → slice_get W.instances callee ≡ Some instance → (o : Option Origin) → instance.origin ≡ o →
          begins_at i s.place o ≡ true → unit_number_at W callee ≡ s.unit
      by_origin instance there None is e = absurd cc
      by_origin instance there (Some origin) is e =
          by_call i caller s callee instance origin found at there
          (eqb-true origin.caller i (and_first (nat_eq origin.caller i) (same_place origin.place s.place) e))
          (same_true origin.place s.place (and_second (nat_eq origin.caller i) (same_place origin.place s.place) e))
          (subst (HasCaller units entry W.instances callee instance) is (callers units entry callee instance there))

-- ---- trees

abbrev mutual
  -- each `run` of the tree names the number of the instance that it began
  pub RunsNumbered : Setting → Tree → Type 0
  RunsNumbered w Nil = ⊤
  RunsNumbered w (Wait s) = ⊤
  RunsNumbered w (Test s) = ⊤
  RunsNumbered w (Idle block) = ⊤
  RunsNumbered w (Do s) = ⊤
  RunsNumbered w (Seq c rest) = RunsNumbered w c
  RunsNumbered w (Par s stood branches) = AllNumberedRuns w branches
  RunsNumbered w (Guard s phase stood c) = RunsNumbered w c
  RunsNumbered w (Run s callee phase stood c) = (unit_number_at w callee ≡ s.unit) × RunsNumbered w c

  pub AllNumberedRuns : Setting → Trees → Type 0
  AllNumberedRuns w no_tree = ⊤
  AllNumberedRuns w (beside weak c rest) = RunsNumbered w c × AllNumberedRuns w rest

module _ (w : Setting) (numbers : CalleesNumbered w) where
  mutual
    pub left_numbered : {i : ℕ} {stood : Bool} {body : Block} {c : Tree} (caller : UnitDef) → unit_at w i ≡ Some caller → PlainResidual w stood i body c →
        ((t : Call) → In t (calls_in body) → In t (calls_in (plain_body caller.body))) → RunsNumbered w c
    left_numbered caller is nothing within = tt
    left_numbered caller is (of_last stands left) within = left_numbered_of caller is left (λ t at. within t (stands_calls stands t at))
    left_numbered caller is (of_one stands left unended) within = left_numbered_of caller is left (λ t at. within t (stands_calls stands t at))

    left_numbered_of : {i : ℕ} {stood : Bool} {s : Plain} {c : Tree} (caller : UnitDef) → unit_at w i ≡ Some caller → PlainResidualOf w stood i s c →
        ((t : Call) → In t (calls_of s) → In t (calls_in (plain_body caller.body))) → RunsNumbered w c
    left_numbered_of caller is to_begin within = tt
    left_numbered_of caller is ended within = tt
    left_numbered_of caller is paused within = tt
    left_numbered_of caller is tested within = tt
    left_numbered_of caller is (of_then {body = body} {other = other} left) within =
        left_numbered caller is left (λ t at. within t (in_left t (calls_in body) (calls_in other) at))
    left_numbered_of caller is (of_else {body = body} {other = other} left) within =
        left_numbered caller is left (λ t at. within t (in_right t (calls_in body) (calls_in other) at))
    left_numbered_of caller is (of_repeat {l = l} {at = place} {body = body} left) within =
        left_numbered caller is left (λ t at. within t (either_same (turn_calls body (Repeat l place body) t at)))
    left_numbered_of caller is (of_until {l = l} {at = place} {body = body} {e = e} left) within =
        left_numbered caller is left (λ t at. within t (either_same (turn_calls body (Again l place body e) t at)))
    left_numbered_of caller is (of_while {l = l} {at = place} {e = e} {body = body} left) within =
        left_numbered caller is left (λ t at. within t (either_same (turn_calls body (While l place e body) t at)))
    left_numbered_of caller is (of_again left) within = left_numbered_of caller is left within
    left_numbered_of caller is (of_par flag left) within = each_numbered caller is left within
    left_numbered_of caller is (of_guard flag checked left) within = left_numbered caller is left within
    left_numbered_of {i = i} caller is (of_run {l = l} {at = place} {target = target} {a = a} {inputs = inputs} {outputs = outputs} {callee = callee}
        {unit = unit} begins found flag checked left) within = (
          numbers i caller (call l place target a inputs outputs) callee is (within (call l place target a inputs outputs) (inl refl)) begins,
          left_numbered unit found left (λ t at. at),
        )

    each_numbered : {i : ℕ} {stood : Bool} {bodies : Bodies} {branches : Trees} (caller : UnitDef) → unit_at w i ≡ Some caller →
        PlainResidualEach w stood i bodies branches → ((t : Call) → In t (calls_in_each bodies) → In t (calls_in (plain_body caller.body))) →
        AllNumberedRuns w branches
    each_numbered caller is none_left within = tt
    each_numbered caller is (one_left {body = body} {bodies = bodies} left more) within = (
      left_numbered caller is left (λ t at. within t (in_left t (calls_in body) (calls_in_each bodies) at)),
      each_numbered caller is more (λ t at. within t (in_right t (calls_in body) (calls_in_each bodies) at)),
    )
