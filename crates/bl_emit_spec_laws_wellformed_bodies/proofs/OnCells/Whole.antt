-- The C of an activity needs no more cells than rule Cells counts for the activity.
use Rattle.std.proofs.Common.{◌≡◌, ℕ, zero, suc, ◌+◌, ◌*◌, ◌<◌, ◌≤◌, max, Bool, true, false, nat_eq, List, [], ◌∷◌, ◌++◌, map, length}
use Rattle.std.proofs.Common.{Some, refl, sym, ap, subst, ◌∙◌, arith, length-append}
use Rattle.std.proofs.lemmas.List.{length-map, map-append}
use Rattle.std.proofs.lemmas.List.Elements.{All-contains}
use Rattle.std.specs.Prelude.{Contains, is_some, nat_lt, slice_get}
use Rattle.std.specs.List.{list_all}
use Rattle.bl_tree.proofs.Basics.{any_from, contains_first, contains_further, get_taken, number_itself}
use Rattle.bl_tree.specs.declared.tree.StructDef.{StructDef}
use Rattle.bl_tree.specs.declared.tree.Unit.{Unit as UnitDef}
use Rattle.bl_tree.specs.declared.tree.UnitKind.{UnitKind}
use Rattle.bl_tree.specs.declared.tree.UnitKind.TheVariants.{Activity as OfActivity, Function as OfFunction}
use Rattle.bl_tree.specs.declared.tree.Var.{Var}
use Rattle.bl_tree.specs.Program.{IsWellTyped, parameters_of}
use Rattle.bl_tree.specs.Reduce.{greatest, joined, total}
use Rattle.bl_tree.specs.Types.{type_stands}
use Rattle.bl_tree.specs.Typing.{is_activity}
use Rattle.bl_limits_measures.specs.Calls.{calls_of}
use Rattle.bl_limits_measures.specs.Laws.{CellsAdd}
use Rattle.bl_emit_spec_laws_wellformed.proofs.OnNeeded.Places.{placed_any}
use Rattle.bl_emit_spec_laws_wellformed.proofs.OnNeeded.Whole.{among_total}
use Rattle.bl_limits_measures.specs.Runs.{activities_by_place, activities_run}
use Rattle.bl_limits_measures.proofs.RunLemmas.{placed_all, placed_few}
use Rattle.bl_limits_measures.specs.Statements.{cell_statements_of}
use Rattle.bl_limits_measures.specs.Units.{cells_at, cells_with, variables_of}
use Rattle.bl_limits_measures.specs.Uses.{UsesEarlier}
use Rattle.bl_limits_measures_laws.specs.Laws.{UnitsUseEarlierOnes}
use Rattle.bl_graph_nodes.specs.Plain.{plain_body}
use Rattle.bl_machine.specs.Blocks.{up_to}
use Rattle.bl_machine.specs.Layout.{width_in}
use Rattle.bl_ctext_semantics.specs.Loops.{turns_in_block}
use Rattle.bl_ctext_semantics.specs.Sizes.{Sizes, own_cells, size_of_member}
use Rattle.bl_ctext_semantics.specs.Tables.{entry_or}
use Rattle.bl_emit_acts_laws_wellformed.proofs.OnFormed.Units.{vars_stand}
use Rattle.bl_emit_functions.specs.Functions.{members_of, memory_name, params_from}
use Rattle.bl_emit_functions_laws_wellformed.specs.Numbered.{TypesHaveScalars, UnitsCounted}
use Rattle.bl_emit_spec.specs.Activities.{Activity, RunAt, activity_code, activity_function, counter_member, frame_member, frame_struct, memory_member}
use Rattle.bl_emit_spec.specs.Activities.{remembered, remembers_any, rules_at, runs_in_body}
use Rattle.bl_emit_spec.specs.Blocks.{name_in}
use Rattle.bl_emit_spec.specs.Names.{frame_name}
use Rattle.bl_emit_spec_laws_wellformed.specs.Costs.{BodiesCost, extras}
use Rattle.bl_emit_spec_laws_wellformed_bodies.specs.Signed.{NoneLoops}
use Rattle.bl_emit_spec_laws_wellformed_bodies.specs.Cells.{ActivityCells, BodiesRun, Sized, cells_of_activity, ports_of}
use Rattle.bl_emit_spec_laws_wellformed_bodies.proofs.OnCells.Callees.{Fits, all_such, frame_at, frames-are, got_before, greatest-less}
use Rattle.bl_emit_spec_laws_wellformed_bodies.proofs.OnCells.Callees.{memories-few, memories-less, memory_at, sums-less}
use Rattle.bl_emit_spec_laws_wellformed_bodies.proofs.OnCells.Held.{held, held-apart, members-few, members-less, params-less}
use Rattle.bl_emit_spec_laws_wellformed_bodies.proofs.OnCells.Locals.{cells, counters-are, locals-few, params-few, passed}
use Rattle.bl_emit_spec_laws.proofs.OnOwn.Counting.{many_up_to}
use Rattle.bl_emit_spec_laws_wellformed.proofs.OnTexts.Files.{taken_all}
use Rattle.bl_emit_spec_laws_wellformed.proofs.OnNumbers.Whole.{as_one}
use Rattle.bl_tree.proofs.ReduceLemmas.{greatest-append, total-append}

-- ---- numbers

-- what the parts of an activity take; the names are those of the lemmas below
record Counts (frame memory own deepest counters width more statements runs vars held ports variables params memories result frames kept reached
    all most cells : ℕ) : Type 0 where
  rests : frame ≡ counters + frames
  holds : memory ≤ held + kept
  owns : own ≤ (2 + memories + params + result) + (counters + more + vars + 2 * runs)
  calls : deepest ≤ max most reached
  callees : frames + kept + reached + 4 * runs ≤ all
  costs : 2 * width + more + runs ≤ 4 * statements
  few : counters ≤ width
  scalars : vars ≤ variables
  apart : held + ports ≤ variables
  given : params ≤ ports
  one : memories ≤ 1
  some : memories ≤ held + runs
  is : cells ≡ 4 * variables + 4 * statements + 8 + all + most

less_counts : (frame memory own deepest counters width more statements runs vars held ports variables params memories result frames kept reached
    all most cells : ℕ) → Counts frame memory own deepest counters width more statements runs vars held ports variables params memories result frames
    kept reached all most cells → result ≤ 1 → frame + memory + (own + deepest) + 4 ≤ cells
less_counts frame memory own deepest counters width more statements runs vars held ports variables params memories result frames kept reached all most
    cells counts one =
    let a = counts.rests in
    let b = counts.holds in
    let c = counts.owns in
    let d = counts.calls in
    let e = counts.callees in
    let f = counts.costs in
    let g = counts.few in
    let h = counts.scalars in
    let i = counts.apart in
    let j = counts.given in
    let k = counts.one in
    let l = counts.is in
    omega (arith, a, b, c, d, e, f, g, h, i, j, k, l, one)

outer_counts : (frame memory own deepest counters width more statements runs vars held ports variables params memories result frames kept reached
    all most cells : ℕ) → Counts frame memory own deepest counters width more statements runs vars held ports variables params memories result frames
    kept reached all most cells → result ≡ 0 → frame + memory + (own + deepest) + ports + 6 ≤ cells
outer_counts frame memory own deepest counters width more statements runs vars held ports variables params memories result frames kept reached all most
    cells counts none =
    let a = counts.rests in
    let b = counts.holds in
    let c = counts.owns in
    let d = counts.calls in
    let e = counts.callees in
    let f = counts.costs in
    let g = counts.few in
    let h = counts.scalars in
    let i = counts.apart in
    let j = counts.given in
    let k = counts.some in
    let l = counts.is in
    omega (arith, a, b, c, d, e, f, g, h, i, j, k, l, none)

one_less : (b : Bool) → as_one b ≤ 1
one_less true = omega arith
one_less false = omega arith

some_less : (n : ℕ) → as_one (nat_lt 0 n) ≤ n
some_less zero = omega arith
some_less (suc n) = let less = one_less (nat_lt 0 (suc n)) in omega (arith, less)

none_there : (b : Bool) → b ≡ false → as_one b ≡ 0
none_there true is = absurd (cc)
none_there false is = refl

active_cells : (kind : UnitKind) → is_activity kind ≡ true → (variables statements running calling : ℕ) →
    cells_with kind variables statements running calling ≡ 4 * variables + 4 * statements + 8 + running + calling
active_cells OfFunction is variables statements running calling = absurd (cc)
active_cells OfActivity is variables statements running calling = refl

-- the greatest of numbers that are no more than another is no more
greatest-under : (f : ℕ → ℕ) (n : ℕ) (xs : List ℕ) → ((u : ℕ) → Contains xs u → f u ≤ n) → greatest (map f xs) ≤ n
greatest-under f n [] each = omega arith
greatest-under f n (x ∷ xs) each =
    let own = each x (contains_first x xs) in
    let rest = greatest-under f n xs (λ u has. each u (contains_further x xs u has)) in
    omega (arith, own, rest)

-- ---- an activity

module _ (units : List UnitDef) (entry : ℕ) (a : Activity) (keeps : IsWellTyped a.structs units entry) (have : TypesHaveScalars a.structs units entry)
    (counted : UnitsCounted a.structs units entry) (bodies : BodiesRun a.structs units entry) (costs : BodiesCost a.structs units entry)
    (quiet : NoneLoops) (adds : CellsAdd) (uses : UsesEarlier units) (k : ℕ) (known : Sizes) (reach : ℕ → ℕ)
    (sized : Sized a.structs units k a.unit a known reach) where
  abbrev rs : List ℕ
  rs = activities_by_place a.unit

  abbrev every : List ℕ
  every = activities_run a.unit

  abbrev cs : List ℕ
  cs = calls_of a.unit

  abbrev most : ℕ → ℕ
  most = cells_at a.structs units

  abbrev held_cells : ℕ
  held_cells = total (map (held a.structs units entry keeps have known sized.sizes a.earlier a.unit) a.unit.vars)

  there : slice_get units k ≡ Some a.unit
  there = sized.of_unit.there

  same : map (λ (run : RunAt). run.unit) (runs_in_body a) ≡ rs
  same = bodies k a.unit a keeps sized.of_unit

  many : length (runs_in_body a) ≡ length rs
  many = sym (length-map (runs_in_body a) (λ (run : RunAt). run.unit)) ∙ ap length same

  run_fits : (u : ℕ) → Contains rs u → Fits (frame_at known a) (memory_at known a) reach most u
  run_fits u among =
      let less : u < k = All-contains (λ j. j < k) rs u (placed_all (λ j. j < k) a.unit (uses k a.unit there).runs) among in
      let found = got_before units k u a.unit there less in
      let is : slice_get a.earlier u ≡ Some found.0 =
      ap (λ (earlier : List UnitDef). slice_get earlier u) sized.of_unit.before ∙ get_taken units k u less ∙ found.1 in
      subst (λ o. entry_or 0 known (frame_name (name_in o)) + entry_or 0 known (memory_name (name_in o)) + reach u + 4 ≤ most u) (sym is)
      (sized.runs u found.0 among found.1)

  rests_so : total (map (size_of_member known) (frame_struct a).members) ≡ length a.sizes + total (map (frame_at known a) rs)
  rests_so =
      let split = ap total (map-append (size_of_member known) (map (counter_member a.sizes) (up_to (length a.sizes))) (map (frame_member a) (runs_in_body a)))
      ∙ total-append (map (size_of_member known) (map (counter_member a.sizes) (up_to (length a.sizes))))
      (map (size_of_member known) (map (frame_member a) (runs_in_body a))) in
      let counters = counters-are known a.sizes (up_to (length a.sizes)) in
      let long = many_up_to (length a.sizes) in
      let frames = frames-are known a (runs_in_body a) ∙ ap (λ us. total (map (frame_at known a) us)) same in
      omega (arith, split, counters, long, frames)

  stand : list_all (λ (var : Var). type_stands (length a.structs) var.ty) a.unit.vars ≡ true
  stand = vars_stand a.structs units entry keeps k a.unit there

  holds_so : total (map (size_of_member known) (remembered a)) ≤ held_cells + total (map (memory_at known a) rs)
  holds_so =
      let own = members_of a.structs a.earlier a.unit in
      let others = joined (map (memory_member a) (runs_in_body a)) in
      let split = ap total (map-append (size_of_member known) own others)
      ∙ total-append (map (size_of_member known) own) (map (size_of_member known) others) in
      let members = members-less a.structs units entry keeps have known sized.sizes a.earlier a.unit 0 a.unit.vars stand in
      let callees = memories-less known a (runs_in_body a) in
      let are = ap (λ us. total (map (memory_at known a) us)) same in
      omega (arith, split, members, callees, are)

  some_so : as_one (remembers_any a) ≤ held_cells + length rs
  some_so =
      let own = members_of a.structs a.earlier a.unit in
      let others = joined (map (memory_member a) (runs_in_body a)) in
      let split = length-append own others in
      let members = members-few a.structs units entry keeps have known sized.sizes a.earlier a.unit 0 a.unit.vars stand in
      let callees = memories-few known a (runs_in_body a) in
      let as_many = many in
      let less = some_less (length (remembered a)) in
      omega (arith, split, members, callees, as_many, less)

  owns_so : own_cells known (activity_function a)
      ≤ (2 + as_one (remembers_any a) + passed known (params_from a.structs a.unit.vars 0 (parameters_of a.unit)) + as_one (is_some a.unit.result))
      + (length a.sizes + extras (rules_at a) + length a.unit.vars + 2 * length rs)
  owns_so =
      let params = params-few known a in
      let locals = locals-few known a sized.once in
      let none : length (turns_in_block (activity_code a)) ≡ 0 = ap length (quiet a) in
      let as_many = many in
      omega (arith, params, locals, none, as_many)

  calls_so : greatest (map reach (cs ++ every)) ≤ max (greatest (map most cs)) (total (map reach rs))
  calls_so =
      let split = ap greatest (map-append reach cs every) ∙ greatest-append (map reach cs) (map reach every) in
      let called = greatest-less reach most cs (all_such (λ u. reach u ≤ most u) cs sized.calls) in
      let run = greatest-under reach (total (map reach rs)) every
      (λ u has. among_total reach rs u
      (placed_any a.structs units entry keeps k u a.unit there (any_from (nat_eq u) every u has (number_itself u)))) in
      omega (arith, split, called, run)

  counts : Counts (total (map (size_of_member known) (frame_struct a).members)) (total (map (size_of_member known) (remembered a)))
      (own_cells known (activity_function a)) (greatest (map reach (cs ++ every))) (length a.sizes) (width_in (plain_body a.unit.body)) (extras (rules_at a))
      (cell_statements_of a.unit) (length rs) (length a.unit.vars) held_cells (ports_of a.structs a.unit) (variables_of a.structs a.unit)
      (passed known (params_from a.structs a.unit.vars 0 (parameters_of a.unit))) (as_one (remembers_any a)) (as_one (is_some a.unit.result))
      (total (map (frame_at known a) rs)) (total (map (memory_at known a) rs)) (total (map reach rs)) (total (map most rs)) (greatest (map most cs))
      (cells_at a.structs units k)
  counts = record {
    rests = rests_so;
    holds = holds_so;
    owns = owns_so;
    calls = calls_so;
    callees = sums-less (frame_at known a) (memory_at known a) reach most rs
        (all_such (Fits (frame_at known a) (memory_at known a) reach most) rs run_fits);
    costs = (let all = costs k a.unit a.slots keeps there in let few = placed_few a.unit in omega (arith, all, few));
    few = sized.counters;
    scalars = (counted k a.unit keeps there).variables;
    apart = held-apart a.structs units entry keeps have known sized.sizes a.earlier a.unit sized.active k there;
    given = params-less a.structs units entry keeps have known sized.sizes a.earlier a.unit 0 (parameters_of a.unit)
        (taken_all (λ (var : Var). type_stands (length a.structs) var.ty) (a.unit.inputs + a.unit.outputs) a.unit.vars stand);
    one = one_less (remembers_any a);
    some = some_so;
    is = adds a.structs units k a.unit uses there
        ∙ active_cells a.unit.kind sized.active (variables_of a.structs a.unit) (cell_statements_of a.unit) (total (map most rs)) (greatest (map most cs));
  }

  pub less_so : cells_of_activity known reach a + 4 ≤ cells_at a.structs units k
  less_so = less_counts _ _ _ _ _ _ _ _ _ _ _ _ _ _ _ _ _ _ _ _ _ _ counts (one_less (is_some a.unit.result))

  pub outer_so : is_some a.unit.result ≡ false → cells_of_activity known reach a + ports_of a.structs a.unit + 6 ≤ cells_at a.structs units k
  outer_so none = outer_counts _ _ _ _ _ _ _ _ _ _ _ _ _ _ _ _ _ _ _ _ _ _ counts (none_there (is_some a.unit.result) none)

-- ---- the law

module _ (units : List UnitDef) (entry : ℕ) (quiet : NoneLoops) (adds : CellsAdd) (earlier : UnitsUseEarlierOnes) (k : ℕ) (a : Activity) (known : Sizes)
    (reach : ℕ → ℕ) where
  -- what is shown of an activity of these structs and of this unit
  abbrev Less : List StructDef → UnitDef → Type 0
  Less structs unit =
      TypesHaveScalars structs units entry → UnitsCounted structs units entry → BodiesRun structs units entry → BodiesCost structs units entry →
      IsWellTyped structs units entry → Sized structs units k unit a known reach →
      (cells_of_activity known reach a + 4 ≤ cells_at structs units k)
      × (is_some unit.result ≡ false → cells_of_activity known reach a + ports_of structs unit + 6 ≤ cells_at structs units k)

  own_less : Less a.structs a.unit
  own_less have counted bodies costs keeps sized = (
    less_so units entry a keeps have counted bodies costs quiet adds (earlier a.structs units keeps.units_stand) k known reach sized,
    outer_so units entry a keeps have counted bodies costs quiet adds (earlier a.structs units keeps.units_stand) k known reach sized,
  )

  pub all_less : (structs : List StructDef) (unit : UnitDef) → a.structs ≡ structs → a.unit ≡ unit → Less structs unit
  all_less structs unit structures is = subst (λ structs. Less structs unit) structures (subst (Less a.structs) is own_less)

pub law : (structs : List StructDef) (units : List UnitDef) (entry : ℕ) → BodiesRun structs units entry → TypesHaveScalars structs units entry →
    UnitsCounted structs units entry → BodiesCost structs units entry → NoneLoops → CellsAdd → UnitsUseEarlierOnes →
    ActivityCells structs units entry
law structs units entry bodies have counted costs quiet adds earlier = record {
  less = λ k unit a known reach keeps sized.
      (all_less units entry quiet adds earlier k a known reach structs unit sized.structures sized.of_unit.is have counted bodies costs keeps sized).0;
  outermost = λ k unit a known reach keeps sized none.
      (all_less units entry quiet adds earlier k a known reach structs unit sized.structures sized.of_unit.is have counted bodies costs keeps sized).1
      none;
}
