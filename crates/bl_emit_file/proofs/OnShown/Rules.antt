-- No rule fails for shown units that doesn't fail for a program, and their counts are the program's.
use Rattle.std.proofs.Common.{◌≡◌, inl, inr, ℕ, zero, suc, ◌<◌, ◌≤◌, arith, true, List, [], ◌∷◌, ◌++◌, Contains, map, length}
use Rattle.std.proofs.Common.{Option, Some, None, refl, sym, ap, ◌∙◌, subst, append_assoc}
use Rattle.std.proofs.lemmas.List.{append-nil}
use Rattle.std.proofs.lemmas.Option.{same_Some}
use Rattle.std.specs.Prelude.{IsTrue, option_map, slice_get, slice_index}
use Rattle.bl_tree.proofs.Basics.{contains_at, index_of, within_at}
use Rattle.bl_tree.specs.declared.place.Place.{Place}
use Rattle.bl_tree.specs.declared.rule.Rule.TheVariants as rule
use Rattle.bl_tree.specs.declared.tree.StructDef.{StructDef}
use Rattle.bl_tree.specs.declared.tree.Unit.{Unit as UnitDef}
use Rattle.bl_tree.specs.declared.tree.Var.{Var}
use Rattle.bl_tree.specs.Instant.{is_instant_block}
use Rattle.bl_tree.specs.Reduce.{joined, total}
use Rattle.bl_tree.specs.Typing.{is_activity}
use Rattle.bl_effects.specs.Rules.{FailsAlias, FailsConflict, FailsInstant, FailsPause, Passes, aliases_in, block_loops, loops_in, parallel_of, together}
use Rattle.bl_limits.specs.Rules.{FailsCells, FailsFrames, Passes as KeepsLimits}
use Rattle.bl_limits_measures.specs.Calls.{calls_of}
use Rattle.bl_limits_measures.specs.InOrder.{answers, answers_after}
use Rattle.bl_limits_measures.specs.Runs.{activities_by_place}
use Rattle.bl_limits_measures.specs.Statements.{cell_statements_of}
use Rattle.bl_limits_measures.specs.Types.{nesting, size_by, struct_sizes}
use Rattle.bl_limits_measures.specs.Units.{cells_at, cells_by, cells_with, chain_at, chain_by, greatest_at, instances_at, instances_by, total_at}
use Rattle.bl_limits_measures.proofs.TableLemmas.{length_answers}
use Rattle.bl_machine_prevs.specs.Declared.{FromText, prevs_are_declared}
use Rattle.bl_emit_spec.proofs.LentLemmas.{lent_many, lent_mapped}
use Rattle.bl_emit_spec.specs.Lent.{lent_unit, lent_var}
use Rattle.bl_emit_spec_laws_simulation.specs.Compiled.{AreCountable, IsCountable}
use Rattle.bl_emit_file.proofs.OnShown.Fitting.{lent_get}
use Rattle.bl_emit_file.proofs.OnShown.Units.{Shown, ShownAs, same_body, same_kind, same_place, shown_among, shown_at, shown_many}

-- ---- Pause, Conflict, Alias and Instant

-- a variable of a shown unit is one of the unit, of the same type and place
record VarShown (unit : UnitDef) (k : ℕ) (shown : Var) : Type 0 where
  var : Var
  is_there : slice_get unit.vars k ≡ Some var
  same_place : var.place ≡ shown.place
  same_type : var.ty ≡ shown.ty

lent_found : (o : Option Var) (shown : Var) → option_map lent_var o ≡ Some shown → (var : Var) × (o ≡ Some var) × (lent_var var ≡ shown)
lent_found None shown is = absurd (cc)
lent_found (Some var) shown is = (var, refl, same_Some (lent_var var) shown is)

var_shown : {unit one : UnitDef} → ShownAs unit one → (k : ℕ) (shown : Var) → slice_get one.vars k ≡ Some shown → VarShown unit k shown
var_shown ShownAs.as_it_is k shown there = record { var = shown; is_there = there; same_place = refl; same_type = refl }
var_shown (ShownAs.lent {unit}) k shown there =
    let found = lent_found (slice_get unit.vars k) shown (sym (lent_get unit.vars k) ∙ there) in record {
      var = found.0;
      is_there = found.1;
      same_place = ap (λ (v : Var). v.place) found.2;
      same_type = ap (λ (v : Var). v.ty) found.2;
    }

module _ {units shown : List UnitDef} {n : ℕ} (are : Shown units n shown) where
  pause_too : (at : Place) (also : List Place) → FailsPause shown at also → FailsPause units at also
  pause_too at also fails =
      let found = shown_among are fails.unit fails.is_there in record {
        unit = found.unit;
        is_there = found.is_there;
        activity = subst (λ kind. IsTrue (is_activity kind)) (same_kind found.is) fails.activity;
        ends = subst (λ body. IsTrue (is_instant_block body)) (same_body found.is) fails.ends;
        at_name = fails.at_name ∙ same_place found.is;
        alone = fails.alone;
      }

  conflict_too : (at : Place) (also : List Place) → FailsConflict shown at also → FailsConflict units at also
  conflict_too at also fails =
      let found = shown_among are fails.unit fails.is_there in
      let var = var_shown found.is fails.second.path.root fails.var fails.declared in record {
        unit = found.unit;
        is_there = found.is_there;
        split = fails.split;
        stands = subst (λ body. Contains (together (map parallel_of body)).splits fails.split) (same_body found.is) fails.stands;
        first = fails.first;
        in_earlier = fails.in_earlier;
        second = fails.second;
        in_later = fails.in_later;
        overlap = fails.overlap;
        var = var.var;
        declared = var.is_there;
        at_first = fails.at_first;
        at_second = fails.at_second ∙ ap (λ place. fails.second.place ∷ place ∷ []) (sym var.same_place);
      }

  alias_too : (at : Place) (also : List Place) → FailsAlias shown at also → FailsAlias units at also
  alias_too at also fails =
      let found = shown_among are fails.unit fails.is_there in record {
        unit = found.unit;
        is_there = found.is_there;
        aliased = fails.aliased;
        fails = subst (λ body. Contains (joined (map aliases_in body)) fails.aliased) (same_body found.is) fails.fails;
        at_one = fails.at_one;
        at_other = fails.at_other;
      }

  instant_too : (at : Place) (also : List Place) → FailsInstant shown at also → FailsInstant units at also
  instant_too at also fails =
      let found = shown_among are fails.unit fails.is_there in record {
        unit = found.unit;
        is_there = found.is_there;
        activity = subst (λ kind. IsTrue (is_activity kind)) (same_kind found.is) fails.activity;
        place = fails.place;
        loops = subst (λ body. Contains (block_loops (map loops_in body)) fails.place) (same_body found.is) fails.loops;
        at_loop = fails.at_loop;
        alone = fails.alone;
      }

  pub shown_passes : Passes units → Passes shown
  shown_passes passes rule.Pause at also fails = passes rule.Pause at also (pause_too at also fails)
  shown_passes passes rule.Conflict at also fails = passes rule.Conflict at also (conflict_too at also fails)
  shown_passes passes rule.Alias at also fails = passes rule.Alias at also (alias_too at also fails)
  shown_passes passes rule.Instant at also fails = passes rule.Instant at also (instant_too at also fails)
  shown_passes passes _ at also fails = fails

  -- ---- what a text gives

  pub shown_text : FromText units → FromText shown
  shown_text text = record {
    declared = λ one has.
        let found = shown_among are one has in
        by found.is (text.declared found.unit found.is_there);
  }
    where
      by : {unit one : UnitDef} → ShownAs unit one → prevs_are_declared unit ≡ true → prevs_are_declared one ≡ true
      by ShownAs.as_it_is declared = declared
      by ShownAs.lent declared = declared

  pub shown_countable : AreCountable units → AreCountable shown
  shown_countable countable k one there =
      let found = shown_at are k one there in by found.is (countable k found.unit found.is_there)
    where
      by : {unit one : UnitDef} → ShownAs unit one → IsCountable unit → IsCountable one
      by ShownAs.as_it_is is = is
      by (ShownAs.lent {unit}) is =
          let few = is.variables in
          let same = lent_many unit.vars in record { variables = omega (arith, few, same); statements = is.statements }

-- ---- Frames and Cells

-- answers begin with what is known
extended : {A X : Type 0} (step : List A → X → A) (known : List A) (xs : List X) → (rest : List A) × (answers_after step known xs ≡ known ++ rest)
extended step known [] = ([], sym (append-nil known))
extended step known (x ∷ xs) =
    let further = extended step (known ++ step known x ∷ []) xs in
    (step known x ∷ further.0, further.1 ∙ append_assoc known (step known x ∷ []) further.0)

-- the answers for shown units are the first ones for all
answers_first : {A : Type 0} (step : List A → UnitDef → A) → ((known : List A) (unit : UnitDef) → step known (lent_unit unit) ≡ step known unit) →
    {units shown : List UnitDef} {n : ℕ} → Shown units n shown → (known : List A) →
    (rest : List A) × (answers_after step known units ≡ answers_after step known shown ++ rest)
answers_first step same (Shown.entry {unit} {rest}) known =
    let further = extended step (known ++ step known unit ∷ []) rest in
    (further.0, further.1 ∙ ap (λ answer. (known ++ answer ∷ []) ++ further.0) (sym (same known unit)))
answers_first step same (Shown.before {unit} more) known = answers_first step same more (known ++ step known unit ∷ [])

-- so each has its own answer
module _ (step : List ℕ → UnitDef → ℕ) (same : (known : List ℕ) (unit : UnitDef) → step known (lent_unit unit) ≡ step known unit)
    {units shown : List UnitDef} {n : ℕ} (are : Shown units n shown) where
  pub own_answer : (k : ℕ) → k ≤ n → slice_index (answers step shown) k ≡ slice_index (answers step units) k
  own_answer k few =
      let first = answers_first step same are [] in
      let many = length_answers step [] shown in
      let long = shown_many are in
      sym (ap (λ all. slice_index all k) first.1 ∙ front (answers step shown) first.0 k (omega (arith, few, many, long)))
    where
      front : (xs ys : List ℕ) (k : ℕ) → k < length xs → slice_index (xs ++ ys) k ≡ slice_index xs k
      front [] ys k less = absurd (omega (arith, less))
      front (x ∷ xs) ys zero less = refl
      front (x ∷ xs) ys (suc k) less = front xs ys k (omega (arith, less))

module _ {units shown : List UnitDef} {n : ℕ} (are : Shown units n shown) where
  pub same_instances : instances_at shown n ≡ instances_at units n
  same_instances = own_answer instances_by (λ known unit. refl) are n (omega arith)

  same_chain : (k : ℕ) → k ≤ n → chain_at shown k ≡ chain_at units k
  same_chain k few = own_answer chain_by (λ known unit. refl) are k few

  pub same_cells : (structs : List StructDef) → cells_at structs shown n ≡ cells_at structs units n
  same_cells structs = own_answer (cells_by (struct_sizes structs)) alike are n (omega arith)
    where
      alike : (known : List ℕ) (unit : UnitDef) → cells_by (struct_sizes structs) known (lent_unit unit) ≡ cells_by (struct_sizes structs) known unit
      alike known unit =
          ap (λ sizes. cells_with unit.kind (total sizes) (cell_statements_of unit) (total_at known (activities_by_place unit))
          (greatest_at known (calls_of unit)))
          (lent_mapped (λ (var : Var). size_by (struct_sizes structs) var.ty) (λ var. refl) unit.vars)

  frames_too : (at : Place) → FailsFrames shown n at → FailsFrames units n at
  frames_too at (inl many) =
      let found = shown_at are n many.unit many.is_entry in
      let long = many.many in
      let same = same_instances in
      inl (record { unit = found.unit; is_entry = found.is_there; many = omega (arith, long, same); at_name = many.at_name ∙ same_place found.is })
  frames_too at (inr chain) =
      let found = shown_at are chain.position chain.unit chain.heads in
      let within = within_at shown chain.position chain.unit chain.heads in
      let all = shown_many are in
      let same = same_chain chain.position (omega (arith, within, all)) in
      let long = chain.long in
      inr (record {
        position = chain.position;
        unit = found.unit;
        heads = found.is_there;
        long = omega (arith, long, same);
        at_name = chain.at_name ∙ same_place found.is;
      })

  cells_too : (structs : List StructDef) (at : Place) → FailsCells structs shown n at → FailsCells structs units n at
  cells_too structs at (inl large) =
      let found = shown_at are n large.unit large.is_entry in
      let more = large.large in
      let same = same_cells structs in
      inl (record { unit = found.unit; is_entry = found.is_there; large = omega (arith, more, same); at_name = large.at_name ∙ same_place found.is })
  cells_too structs at (inr (inl deep)) = inr (inl deep)
  cells_too structs at (inr (inr deep)) =
      let found = shown_among are deep.unit deep.of_program in
      let at_var = index_of deep.unit.vars deep.var deep.of_unit in
      let var = var_shown found.is at_var.0 deep.var at_var.1 in
      inr (inr (record {
        unit = found.unit;
        of_program = found.is_there;
        var = var.var;
        of_unit = contains_at found.unit.vars at_var.0 var.var var.is_there;
        deep = subst (λ ty. 100 < nesting structs ty) (sym var.same_type) deep.deep;
        at_name = deep.at_name ∙ sym var.same_place;
      }))

  pub shown_limits : (structs : List StructDef) → KeepsLimits structs units n → KeepsLimits structs shown n
  shown_limits structs limits rule.Frames at also fails = limits rule.Frames at also (frames_too at fails.0, fails.1)
  shown_limits structs limits rule.Cells at also fails = limits rule.Cells at also (cells_too structs at fails.0, fails.1)
  shown_limits structs limits _ at also fails = fails
