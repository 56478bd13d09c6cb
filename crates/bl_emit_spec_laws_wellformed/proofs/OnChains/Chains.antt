-- How long the chains of calls are that the C functions of activities head.
use Rattle.std.proofs.Common.{◌≡◌, ℕ, ◌+◌, ◌<◌, ◌≤◌, max, List, [], ◌∷◌, ◌++◌, map, take}
use Rattle.std.proofs.Common.{Option, Some, None, refl, sym, subst, arith}
use Rattle.std.proofs.lemmas.List.{get_or-take}
use Rattle.std.specs.Prelude.{slice_get, slice_index, unwrap_or}
use Rattle.bl_tree.specs.declared.scalar.Scalar.{Scalar as ScalarType}
use Rattle.bl_tree.specs.declared.text.Text.{Text}
use Rattle.bl_tree.specs.declared.tree.Unit.{Unit as UnitDef}
use Rattle.bl_tree.specs.Reduce.{greatest}
use Rattle.bl_limits_measures.specs.Calls.{calls_of}
use Rattle.bl_limits_measures.specs.Runs.{activities_run}
use Rattle.bl_limits_measures.specs.Units.{all_chains, chain_at, greatest_at}
use Rattle.bl_graph_nodes.specs.Nodes.{nodes_in}
use Rattle.bl_graph_nodes.specs.Plain.{Block, plain_body}
use Rattle.bl_machine.specs.Uses.{Slots}
use Rattle.bl_machine_pass.specs.Transitions.{Transition, rules}
use Rattle.bl_machine_transitions.specs.Callees.{callees_in}
use Rattle.bl_ctext_semantics.specs.Calls.{calls_in_block, most}
use Rattle.bl_ctext_semantics.specs.Faults.{depth_of_function}
use Rattle.bl_ctext_semantics.specs.Tables.{Table, entry_or}
use Rattle.bl_emit_acts.specs.Acts.{name_of_callee}
use Rattle.bl_emit_acts.specs.Expressions.{function_name}
use Rattle.bl_emit_acts.specs.Types.{unit_name}
use Rattle.bl_emit_functions_laws_wellformed.proofs.OnFiles.Chains.{taken}
use Rattle.bl_emit_functions_laws_wellformed.proofs.OnFiles.Under.{back-under, front-under}
use Rattle.bl_emit_functions_laws_wellformed.specs.Files.Laws.{ChainsKnown}
use Rattle.bl_emit_spec.specs.Activities.{Activity, activity_code, activity_function}
use Rattle.bl_emit_spec.specs.Programs.{needs_of}
use Rattle.bl_emit_spec_laws_wellformed.proofs.OnChains.Called.{activity_few}
use Rattle.bl_emit_spec_laws_wellformed.proofs.OnChains.Nodes.{AllUnder, body_under}
use Rattle.bl_emit_spec_laws_wellformed.specs.Chains.{ActivitiesCallFew, ActivityChainsFollow, IsOfUnit}
use Rattle.bl_emit_functions_laws_wellformed.proofs.OnFiles.Chains.{chain_is}

-- what is called in the C function of an activity is called or run by its unit
pub call_few : ((slots : Slots) (body : Block) → map (λ (rule : Transition). rule.node) (rules slots body) ≡ nodes_in body) → ActivitiesCallFew
call_few nodes a weight by n prelude callees few =
    activity_few weight prelude n a by callees
    (subst (AllUnder by n (callees_in (plain_body a.unit.body))) (sym (nodes a.slots (plain_body a.unit.body)))
    (body_under by n a.unit (front-under by n (calls_of a.unit) (activities_run a.unit) few) (back-under by n (calls_of a.unit) (activities_run a.unit) few)))

-- ---- chains

both_greatest : (by : ℕ → ℕ) (n : ℕ) (xs ys : List ℕ) → greatest (map by xs) ≤ n → greatest (map by ys) ≤ n →
    greatest (map by (xs ++ ys)) ≤ n
both_greatest by n [] ys one two = two
both_greatest by n (x ∷ xs) ys one two =
    let first : by x ≤ n = omega (arith, one) in
    let rest = both_greatest by n xs ys (omega (arith, one)) two in omega (arith, first, rest)

module _ (few : ActivitiesCallFew) (units : List UnitDef) (k : ℕ) (depths : Table ℕ) (known : ChainsKnown units depths) where
  abbrev weight : Text → ℕ
  weight name = entry_or 0 depths name

  abbrev by : ℕ → ℕ
  by f = slice_index (take k (all_chains units)) f

  entry_none : (o : Option ℕ) → o ≡ None → unwrap_or o 0 ≡ 0
  entry_none None is = refl
  entry_none (Some n) is = absurd (cc)

  prelude_none : (word : Text) (s : ScalarType) → weight (function_name word s) ≡ 0
  prelude_none word s = entry_none (depths (function_name word s)) (known.prelude word s)

  callee_by : (f : ℕ) (o : Option UnitDef) → slice_get (take k units) f ≡ o → weight (name_of_callee o) ≤ by f
  callee_by f None there = let none : weight (unit_name []) ≡ 0 = entry_none (depths (unit_name [])) known.unnamed in omega (arith, none)
  callee_by f (Some unit) there =
      let found = taken units k f unit there in
      let less : f < k = found.0 in
      let most : weight (unit_name unit.name) ≤ chain_at units f = known.of_units f unit found.1 in
      let same : by f ≡ chain_at units f = get_or-take k (all_chains units) f 0 less in
      omega (arith, most, same)

  -- the C function of an activity heads no longer chain than the activity
  pub no_longer : (unit : UnitDef) (a : Activity) → IsOfUnit units k unit a → depth_of_function depths (activity_function a) ≤ chain_at units k
  no_longer unit a of =
      let calls : ℕ = greatest (map by (calls_of unit)) in
      let runs : ℕ = greatest (map by (activities_run unit)) in
      let n : ℕ = max calls runs in
      let needs : greatest (map by (needs_of a.unit)) ≤ n =
      subst (λ (u : UnitDef). greatest (map by (needs_of u)) ≤ n) (sym of.is)
      (both_greatest by n (calls_of unit) (activities_run unit) (omega arith) (omega arith)) in
      let all : most depths (calls_in_block (activity_code a)) ≤ n =
      few a weight by n prelude_none
      (λ f. subst (λ (earlier : List UnitDef). weight (name_of_callee (slice_get earlier f)) ≤ by f) (sym of.before)
      (callee_by f (slice_get (take k units) f) refl)) needs in
      let is : chain_at units k ≡ 1 + max calls (greatest_at (take k (all_chains units)) (activities_run unit)) = chain_is units k unit of.there in
      omega (arith, all, is)

pub follow : ActivitiesCallFew → ActivityChainsFollow
follow few units k unit a depths of known = no_longer few units k depths known unit a of
