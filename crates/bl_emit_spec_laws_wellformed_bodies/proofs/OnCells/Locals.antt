-- The cells of the parameters and locals of the C function of an activity.
use Rattle.std.proofs.Common.{◌≡◌, ℕ, suc, ◌+◌, ◌*◌, ◌≤◌, Bool, true, false, List, [], ◌∷◌, ◌++◌, map, length}
use Rattle.std.proofs.Common.{Option, Some, None, refl, sym, ap, ◌∙◌, arith}
use Rattle.std.proofs.lemmas.List.{map-append}
use Rattle.std.proofs.lemmas.List.Sums.{sum_by-cons}
use Rattle.std.specs.Prelude.{filter, is_some, option_and_then, slice_get, sum_by, if◌then◌else◌}
use Rattle.bl_tree.specs.declared.c.CLocal.{CLocal}
use Rattle.bl_tree.specs.declared.c.CParam.{CParam}
use Rattle.bl_tree.specs.declared.scalar.Scalar.{Scalar as ScalarType}
use Rattle.bl_tree.specs.declared.tree.Unit.{Unit as UnitDef}
use Rattle.bl_tree.specs.Program.{parameters_of}
use Rattle.bl_tree.specs.Reduce.{joined, total}
use Rattle.bl_machine.specs.Blocks.{up_to}
use Rattle.bl_machine_pass.specs.Transitions.{Change, ClearsBoth, ClearsCounter, EndsWhen, Finishes, SetsCounter, SetsFlag, SetsMark, Transition}
use Rattle.bl_ctext_semantics.specs.Sizes.{Sizes, size_of_member, size_of_param, size_of_type}
use Rattle.bl_emit_functions.specs.Functions.{params_from}
use Rattle.bl_emit_spec.specs.Blocks.{unit_may_end}
use Rattle.bl_emit_spec.specs.Activities.{Activity, RunAt, activity_locals, activity_params, activity_view, copied_in, copies_of, copy_local, counter_member}
use Rattle.bl_emit_spec.specs.Activities.{counters_read, first_rules, flag_local, given_local, is_flagged, mark_local, mark_locals, memory_params, over_params}
use Rattle.bl_emit_spec.specs.Activities.{remembers_any, rested_local, result_params, rules_at, run_locals, runs_in_body, word_of_run, ended_local, some_ends}
use Rattle.bl_emit_acts.specs.Acts.{is_copied}
use Rattle.bl_emit_spec_laws_wellformed.proofs.OnNumbers.Whole.{first-less, as_one}
use Rattle.bl_emit_spec_laws_wellformed.specs.Costs.{extras, marks_in}
use Rattle.bl_emit_spec_laws_wellformed.specs.Numbers.{EachStandsOnce}
use Rattle.bl_emit_spec.specs.Blocks.{ActivityView}
use Rattle.bl_emit_spec.specs.Names.{NumberedWord}
use Rattle.bl_emit_spec_laws.proofs.OnOwn.Counting.{many_up_to}
use Rattle.bl_tree.proofs.ReduceLemmas.{total-append}

-- ---- sums

module _ (known : Sizes) where
  -- ---- locals

  abbrev pub cells : List CLocal → ℕ
  cells locals = total (map (λ (l : CLocal). size_of_type known l.ty) locals)

  cells-append : (xs ys : List CLocal) → cells (xs ++ ys) ≡ cells xs + cells ys
  cells-append xs ys =
      ap total (map-append (λ (l : CLocal). size_of_type known l.ty) xs ys)
      ∙ total-append (map (λ (l : CLocal). size_of_type known l.ty) xs) (map (λ (l : CLocal). size_of_type known l.ty) ys)

  -- some of these, each of which has one cell
  some-few : (made : ℕ → CLocal) → ((k : ℕ) → size_of_type known (made k).ty ≡ 1) → (test : ℕ → Bool) (ks : List ℕ) →
      cells (map made (filter test ks)) ≤ length ks
  some-few made one test [] = omega arith
  some-few made one test (k ∷ ks) = by (test k) (some-few made one test ks)
    where
      by : (b : Bool) → cells (map made (filter test ks)) ≤ length ks →
          cells (map made (if b then k ∷ filter test ks else filter test ks)) ≤ suc (length ks)
      by true rest = let first = one k in omega (arith, first, rest)
      by false rest = omega (arith, rest)

  flag-one : (view : ActivityView) (rule : Transition) → cells (flag_local view rule) ≡ as_one (is_flagged rule.condition)
  flag-one view rule = by (is_flagged rule.condition) _ refl
    where
      by : (b : Bool) (l : CLocal) → size_of_type known l.ty ≡ 1 → cells (if b then l ∷ [] else []) ≡ as_one b
      by true l one = omega (arith, one)
      by false l one = refl

  marks-many : (view : ActivityView) (changes : List Change) → cells (joined (map (mark_local view) changes)) ≡ marks_in changes
  marks-many view [] = refl
  marks-many view (SetsMark n ∷ rest) = let later = marks-many view rest in omega (arith, later)
  marks-many view (SetsFlag n ∷ rest) = marks-many view rest
  marks-many view (SetsCounter slot ∷ rest) = marks-many view rest
  marks-many view (ClearsCounter k ∷ rest) = marks-many view rest
  marks-many view (ClearsBoth k ∷ rest) = marks-many view rest
  marks-many view (EndsWhen start surface depth ∷ rest) = marks-many view rest
  marks-many view (Finishes ∷ rest) = marks-many view rest

  -- 1 for a rule that asks for its flag
  abbrev flags_in : Transition → ℕ
  flags_in rule = as_one (is_flagged rule.condition)

  flags-many : (view : ActivityView) (listed : List Transition) → cells (joined (map (flag_local view) listed)) ≡ sum_by flags_in listed
  flags-many view [] = refl
  flags-many view (rule ∷ listed) =
      cells-append (flag_local view rule) (joined (map (flag_local view) listed))
      ∙ (λ i. flag-one view rule i + flags-many view listed i) ∙ sym (sum_by-cons flags_in rule listed)

  extras-many : (view : ActivityView) (listed : List Transition) → sum_by flags_in listed + cells (joined (map (mark_locals view) listed)) ≡ extras listed
  extras-many view [] = refl
  extras-many view (rule ∷ listed) =
      let flags = sum_by-cons flags_in rule listed in
      let marks = cells-append (mark_locals view rule) (joined (map (mark_locals view) listed)) in
      let mark = marks-many view rule.on_true in
      let rest = extras-many view listed in
      omega (arith, flags, marks, mark, rest)

  given-one : (k : NumberedWord) (o : Option ScalarType) → cells (given_local k o) ≤ 1
  given-one k (Some s) = omega arith
  given-one k None = omega arith

  results-few : (a : Activity) (runs : List RunAt) → cells (joined (map (run_locals a) runs)) ≤ length runs
  results-few a [] = omega arith
  results-few a (run ∷ runs) =
      let split = cells-append (run_locals a run) (joined (map (run_locals a) runs)) in
      let given = given-one (word_of_run a.earlier run) (option_and_then (λ (unit : UnitDef). unit.result) (slice_get a.earlier run.unit)) in
      let rest = results-few a runs in
      omega (arith, split, given, rest)

  ended-few : (earlier : List UnitDef) (runs : List RunAt) → cells (ended_local (some_ends earlier runs)) ≤ length runs
  ended-few earlier [] = omega arith
  ended-few earlier (run ∷ runs) = by (some_ends earlier (run ∷ runs))
    where
      by : (ends : Bool) → cells (ended_local ends) ≤ suc (length runs)
      by true = omega arith
      by false = omega arith

  runs-few : (a : Activity) (runs : List RunAt) →
      cells (ended_local (some_ends a.earlier runs) ++ joined (map (run_locals a) runs)) ≤ 2 * length runs
  runs-few a runs =
      let split = cells-append (ended_local (some_ends a.earlier runs)) (joined (map (run_locals a) runs)) in
      let ended = ended-few a.earlier runs in
      let results = results-few a runs in
      omega (arith, split, ended, results)

  pub locals-few : (a : Activity) → EachStandsOnce a →
      cells (activity_locals a) ≤ length a.sizes + extras (rules_at a) + length a.unit.vars + 2 * length (runs_in_body a)
  locals-few a once =
      let view = activity_view a in
      let rested = map (rested_local a.sizes) (counters_read a) in
      let flags = joined (map (flag_local view) (first_rules a)) in
      let marks = joined (map (mark_locals view) (rules_at a)) in
      let copies = map (copy_local a) (copied_in a) in
      let runs = ended_local (some_ends a.earlier (runs_in_body a)) ++ joined (map (run_locals a) (runs_in_body a)) in
      let first = cells-append rested (flags ++ (marks ++ (copies ++ runs))) in
      let second = cells-append flags (marks ++ (copies ++ runs)) in
      let third = cells-append marks (copies ++ runs) in
      let fourth = cells-append copies runs in
      let held = some-few (rested_local a.sizes) (λ k. refl) (activity_view a).is_read (up_to (length a.sizes)) in
      let counters = many_up_to (length a.sizes) in
      let flagged = flags-many view (first_rules a) in
      let fewer = first-less flags_in a once in
      let extra = extras-many view (rules_at a) in
      let copied = some-few (copy_local a) (λ k. refl) (is_copied (copies_of a.unit)) (up_to (length a.unit.vars)) in
      let vars = many_up_to (length a.unit.vars) in
      let run = runs-few a (runs_in_body a) in
      omega (arith, first, second, third, fourth, held, counters, flagged, fewer, extra, copied, vars, run)

  -- ---- parameters

  abbrev pub passed : List CParam → ℕ
  passed params = total (map (size_of_param known) params)

  passed-append : (xs ys : List CParam) → passed (xs ++ ys) ≡ passed xs + passed ys
  passed-append xs ys = ap total (map-append (size_of_param known) xs ys) ∙ total-append (map (size_of_param known) xs) (map (size_of_param known) ys)

  memory-one : (a : Activity) (b : Bool) → passed (memory_params a b) ≡ as_one b
  memory-one a true = refl
  memory-one a false = refl

  result-one : (o : Option ScalarType) → passed (result_params o) ≡ as_one (is_some o)
  result-one (Some s) = refl
  result-one None = refl

  over-few : (ends : Bool) → passed (over_params ends) ≤ 1
  over-few true = omega arith
  over-few false = omega arith

  pub params-few : (a : Activity) → passed (activity_params a)
      ≤ 2 + as_one (remembers_any a) + passed (params_from a.structs a.unit.vars 0 (parameters_of a.unit)) + as_one (is_some a.unit.result)
  params-few a =
      let memory = memory_params a (remembers_any a) in
      let ports = params_from a.structs a.unit.vars 0 (parameters_of a.unit) in
      let result = result_params a.unit.result in
      let over = over_params (unit_may_end a.unit) in
      let first = passed-append memory (ports ++ (result ++ over)) in
      let second = passed-append ports (result ++ over) in
      let third = passed-append result over in
      let last = over-few (unit_may_end a.unit) in
      let held = memory-one a (remembers_any a) in
      let given = result-one a.unit.result in
      omega (arith, first, second, third, last, held, given)

  -- ---- counters

  pub counters-are : (sizes : List ℕ) (ks : List ℕ) → total (map (size_of_member known) (map (counter_member sizes) ks)) ≡ length ks
  counters-are sizes [] = refl
  counters-are sizes (k ∷ ks) = let rest = counters-are sizes ks in omega (arith, rest)
