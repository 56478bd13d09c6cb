-- The C function of an activity, and its structs, have a spelling.
use Rattle.std.proofs.Common.{◌≡◌, ℕ, zero, suc, ◌+◌, ◌*◌, ◌^◌, ◌<◌, ◌≤◌, Bool, true, false, ◌&&◌}
use Rattle.std.proofs.Common.{List, [], ◌∷◌, ◌++◌, map, take, length, Option, Some, None, refl, sym, ap, ◌∙◌, subst, arith, codes, cond, not}
use Rattle.std.proofs.lemmas.Bool.Decides.{nat_tests}
use Rattle.std.proofs.lemmas.List.Folds.{list_all-append}
use Rattle.std.proofs.lemmas.Option.{same_Some}
use Rattle.std.specs.List.{list_all}
use Rattle.std.specs.Prelude.{filter, nat_lt, option_and_then, slice_get, if◌then◌else◌}
use Rattle.std.proofs.lemmas.Bool.{and_from}
use Rattle.bl_tree.proofs.Basics.{all_append, and_first, and_second, less_test}
use Rattle.bl_tree.specs.declared.text.Text.{Text}
use Rattle.bl_tree.specs.declared.c.CLocal.{CLocal}
use Rattle.bl_tree.specs.declared.c.CMember.{CMember}
use Rattle.bl_tree.specs.declared.c.CPlace.{CPlace}
use Rattle.bl_tree.specs.declared.c.CStmt.{CStmt}
use Rattle.bl_tree.specs.declared.c.CType.TheVariants.{Struct as OfStruct}
use Rattle.bl_tree.specs.declared.scalar.Op.TheVariants.{Eq}
use Rattle.bl_tree.specs.declared.scalar.Scalar.{Scalar as ScalarType}
use Rattle.bl_tree.specs.declared.scalar.Scalar.TheVariants.{Bool as OfBool}
use Rattle.bl_tree.specs.declared.tree.Expr.{Expr}
use Rattle.bl_tree.specs.declared.tree.Path.{Path}
use Rattle.bl_tree.specs.declared.tree.Stmt.{Stmt}
use Rattle.bl_tree.specs.declared.tree.StructDef.{StructDef}
use Rattle.bl_tree.specs.declared.tree.Ty.{Ty}
use Rattle.bl_tree.specs.declared.tree.Unit.{Unit as UnitDef}
use Rattle.bl_tree.specs.declared.tree.Var.{Var}
use Rattle.bl_tree.specs.Depths.{depth_of, expr_depth, path_depth}
use Rattle.bl_tree.specs.Program.{IsWellTyped, names_of, parameters_of}
use Rattle.bl_tree.specs.Reduce.{joined}
use Rattle.bl_tree.specs.Types.{type_stands}
use Rattle.bl_tree.specs.Typing.{TypingContext, fits, site_of, type_of, type_of_path}
use Rattle.bl_tree.specs.Words as words
use Rattle.bl_ctext.specs.Names.{is_name}
use Rattle.bl_ctext.specs.Spellable.{has_any, is_c_scalar, spells_local, spells_member, spells_param, spells_struct, spells_type}
use Rattle.bl_ctext.specs.inner.Fits.{expr_fits, func_fits, place_fits, stmt_fits, stmts_fit}
use Rattle.bl_ctext.proofs.Fitting.{func-fits, place-fits, read-fits, set-fits, stmts_fit-more, struct-spells, two-fits}
use Rattle.bl_ctext.proofs.PrefixedNames.{name-function, name-struct, name-with_prefix}
use Rattle.bl_machine.specs.Blocks.{up_to}
use Rattle.bl_graph_nodes.specs.Nodes.{ActAt, CheckAt, DepthEndAt, DepthJoinAt, EnterAt, ForkAt, HeadAt, Node, PauseAt, entry as entry_node}
use Rattle.bl_graph_nodes.specs.Nodes.{ResumeAt, StartAt, SurfaceEndAt, SurfaceJoinAt, TestAt}
use Rattle.bl_graph_nodes.specs.Plain.{Block, Done, Then}
use Rattle.bl_machine_pass.specs.Transitions.{Change, Transition}
use Rattle.bl_machine_pass.specs.Transitions.{ClearsBoth, ClearsCounter, EndsWhen, Finishes, SetsCounter, SetsFlag, SetsMark}
use Rattle.bl_emit_acts.specs.Acts.{act_code, c_copied, c_set, code_made}
use Rattle.bl_emit_acts.specs.Expressions.{scalar_at, stands}
use Rattle.bl_emit_acts.specs.Places.{place_in}
use Rattle.bl_emit_acts.specs.Trees.{c_place, c_read, c_two, nowhere}
use Rattle.bl_emit_acts.specs.Types.{c_scalar, copy_name, unit_name}
use Rattle.bl_emit_acts_laws_wellformed.specs.Spelled.{ExpressionsFit, PlacesFit}
use Rattle.bl_emit_acts_laws_wellformed.proofs.OnFormed.Units.{vars_named}
use Rattle.bl_emit_acts_laws_wellformed.proofs.OnSpelled.Names.{name_bytes, copy-name, memory-name, numbered-name}
use Rattle.bl_emit_acts_laws_wellformed.proofs.OnSpelled.Fits.{source_name, room}
use Rattle.bl_emit_functions.specs.Functions.{members_of, memory_name, params_from, struct_of}
use Rattle.bl_emit_functions_laws_wellformed.specs.Spelled.{ActsFit, MembersSpelled}
use Rattle.bl_emit_functions_laws_wellformed.proofs.OnSpelled.Acts.{one-fits, own-fits}
use Rattle.bl_emit_functions_laws_wellformed.proofs.OnSpelled.Functions.{memory-named}
use Rattle.bl_emit_functions_laws_wellformed.proofs.OnSpelled.Types.{scalar_spelled, struct_names}
use Rattle.bl_emit_functions_laws_wellformed.proofs.OnSpelled.Functions.{earlier_named, params-spelled, typed}
use Rattle.bl_tree.specs.Rules.{same_place}
use Rattle.bl_tree.specs.declared.place.Place.{Place}
use Rattle.bl_emit_spec.specs.Activities.{Activity, RunAt, activity_code, activity_function, activity_locals, activity_params, activity_view, blocks_code}
use Rattle.bl_emit_spec.specs.Activities.{blocks_in_order, body_of, callees_in, copied_in, copy_local, counter_member, counters_read, enters_at, entry_code}
use Rattle.bl_emit_spec.specs.Activities.{entry_place, first_rules, flag_local, frame_member, frame_struct, given_local, is_flagged, mark_local, mark_locals}
use Rattle.bl_emit_spec.specs.Activities.{memory_member, memory_params, one_a_place, over_params, picked, remembered, remembered_struct, remembers_any}
use Rattle.bl_emit_spec.specs.Activities.{rested_code, rested_local, result_params, rules_at, run_at, run_locals, run_number_in, runs_at, runs_in_body}
use Rattle.bl_emit_spec.specs.Activities.{scalar_local, struct_member, turns_in_source, word_of_run, ended_local, some_ends}
use Rattle.bl_emit_spec.specs.Blocks.{ActivityView, NodeCode, counter_value, name_in, node_word, unit_may_end}
use Rattle.bl_emit_spec.specs.Names.{NumberedWord, callee_name, counter_name, counter_place, ended_name, flag_name, flag_place, frame_name, given_name}
use Rattle.bl_emit_spec.specs.Names.{mark_name, rested_name, rested_place}
use Rattle.bl_emit_spec_laws_wellformed.specs.Spelled.{ActivitiesFit, FramesSpelled, RememberedSpelled, all_fit, node_fits, rule_fits}
use Rattle.bl_emit_spec_laws_wellformed.proofs.OnSpelled.Guards.{Spells, spelled-name, counter-fits, end-letter}
use Rattle.bl_emit_spec_laws_wellformed.proofs.OnSpelled.Guards.{flag-fits, frame-letter, ended-word, nothing-fits, rested-fits, result-letter}
use Rattle.bl_emit_spec_laws_wellformed.proofs.OnSpelled.Guards.{type-spelled}
use Rattle.bl_emit_spec_laws_wellformed.proofs.OnSpelled.Nodes.{all_merged-fit, callee-named, frame-named, run-callee, turn_fits, turns-fit}
use Rattle.bl_emit_spec_laws_wellformed.proofs.OnSpelled.Words.{number-word}
use Rattle.bl_emit_spec_laws_wellformed.proofs.OnNames.Names.{low}
use Rattle.bl_emit_spec_laws_wellformed.proofs.OnNumbers.Firsts.{picked-all}

-- ---- lists

all_below : (p : ℕ → Bool) (n : ℕ) → ((k : ℕ) → k < n → p k ≡ true) → list_all p (up_to n) ≡ true
all_below p zero each = refl
all_below p (suc n) each =
    let last : n < suc n = omega arith in
    all_append p (up_to n) (n ∷ []) (all_below p n (λ k less. let more : k < suc n = omega (arith, less) in each k more))
    (and_from (p n) true (each n last) refl)

all_filtered : (p test : ℕ → Bool) (ks : List ℕ) → list_all p ks ≡ true → list_all p (filter test ks) ≡ true
all_filtered p test [] all = refl
all_filtered p test (k ∷ ks) all =
    by (test k) (and_first (p k) (list_all p ks) all) (all_filtered p test ks (and_second (p k) (list_all p ks) all))
  where
    by : (b : Bool) → p k ≡ true → list_all p (filter test ks) ≡ true →
        list_all p (if b then k ∷ filter test ks else filter test ks) ≡ true
    by true one rest = and_from (p k) (list_all p (filter test ks)) one rest
    by false one rest = rest

all_mapped : {A B : Type 0} (p : B → Bool) (f : A → B) (xs : List A) → list_all (λ x. p (f x)) xs ≡ true → list_all p (map f xs) ≡ true
all_mapped p f [] all = refl
all_mapped p f (x ∷ xs) all =
    and_from (p (f x)) (list_all p (map f xs)) (and_first (p (f x)) (list_all (λ x. p (f x)) xs) all)
    (all_mapped p f xs (and_second (p (f x)) (list_all (λ x. p (f x)) xs) all))

joined_each : {A B : Type 0} (p : B → Bool) (f : A → List B) → ((x : A) → list_all p (f x) ≡ true) → (xs : List A) →
    list_all p (joined (map f xs)) ≡ true
joined_each p f each [] = refl
joined_each p f each (x ∷ xs) = all_append p (f x) (joined (map f xs)) (each x) (joined_each p f each xs)

joined_where : {A B : Type 0} (p : B → Bool) (f : A → List B) (ok : A → Bool) → ((x : A) → ok x ≡ true → list_all p (f x) ≡ true) →
    (xs : List A) →
    list_all ok xs ≡ true → list_all p (joined (map f xs)) ≡ true
joined_where p f ok each [] all = refl
joined_where p f ok each (x ∷ xs) all =
    all_append p (f x) (joined (map f xs)) (each x (and_first (ok x) (list_all ok xs) all))
    (joined_where p f ok each xs (and_second (ok x) (list_all ok xs) all))

blocks-fit : (word : ℕ → Text) (turns : List NodeCode) (blocks : List (List ℕ)) → list_all (turn_fits word) turns ≡ true →
    stmts_fit 405 (blocks_code word turns blocks) ≡ true
blocks-fit word turns blocks all = all_merged-fit word None (map (picked turns) blocks) refl (each blocks)
  where
    each : (blocks : List (List ℕ)) → list_all (list_all (turn_fits word)) (map (picked turns) blocks) ≡ true
    each [] = refl
    each (block ∷ blocks) =
        and_from (list_all (turn_fits word) (picked turns block)) (list_all (list_all (turn_fits word)) (map (picked turns) blocks))
        (picked-all (turn_fits word) turns block all) (each blocks)

-- ---- an activity

module _ (units : List UnitDef) (entry k : ℕ) (a : Activity) (keeps : IsWellTyped a.structs units entry) (there : slice_get units k ≡ Some a.unit)
    (earlier : a.earlier ≡ take k units) (few : length a.unit.vars ≤ 2 ^ 64) (short : length a.sizes ≤ 2 ^ 64)
    (numbers : (n : Node) → (activity_view a).number n < 2 ^ 64)
    (fitted : all_fit a.sizes (activity_view a).site (callees_in (body_of a)) (rules_at a) ≡ true) where
  abbrev site : TypingContext
  site = site_of a.structs a.earlier a.unit

  abbrev number : Node → ℕ
  number = (activity_view a).number

  unit_names : list_all words.is_name (map (λ (unit : UnitDef). unit.name) units) ≡ true
  unit_names =
      and_second (list_all words.is_name (map (λ (def : StructDef). def.name) a.structs))
      (list_all words.is_name (map (λ (unit : UnitDef). unit.name) units))
      (sym (list_all-append words.is_name (map (λ (def : StructDef). def.name) a.structs) (map (λ (unit : UnitDef). unit.name) units))
      ∙ keeps.named)

  own_name : words.is_name a.unit.name ≡ true
  own_name = by units k unit_names there
    where
      by : (units : List UnitDef) (k : ℕ) → list_all words.is_name (map (λ (unit : UnitDef). unit.name) units) ≡ true →
          slice_get units k ≡ Some a.unit → words.is_name a.unit.name ≡ true
      by [] k all there = absurd (cc)
      by (first ∷ units) zero all there =
          ap (λ (unit : UnitDef). words.is_name unit.name) (sym (same_Some first a.unit there))
          ∙ and_first (words.is_name first.name) (list_all words.is_name (map (λ (unit : UnitDef). unit.name) units)) all
      by (first ∷ units) (suc k) all there =
          by units k (and_second (words.is_name first.name) (list_all words.is_name (map (λ (unit : UnitDef). unit.name) units)) all) there

  named : (f : ℕ) (callee : UnitDef) → slice_get a.earlier f ≡ Some callee → words.is_name callee.name ≡ true
  named =
      subst (λ (earlier : List UnitDef). (f : ℕ) (callee : UnitDef) → slice_get earlier f ≡ Some callee → words.is_name callee.name ≡ true)
      (sym earlier) (earlier_named a.structs units entry k a.unit keeps there few)

  -- ---- runs

  run_ok : RunAt → Bool
  run_ok run = nat_lt run.number (2 ^ 64) && words.is_name (name_in (slice_get a.earlier run.unit))

  name_of : (o : Option UnitDef) (f : ℕ) (callee : UnitDef) → slice_get a.earlier f ≡ o → o ≡ Some callee →
      words.is_name (name_in o) ≡ true
  name_of None f callee is some = absurd (cc)
  name_of (Some x) f callee is some = named f x is

  one_run : (f : ℕ) (n : Node) → node_fits site f n ≡ true → list_all run_ok (run_at number f n) ≡ true
  unfolding run_ok
  one_run f (EnterAt l at arguments) h =
      let found = run-callee site arguments.target arguments.inputs arguments.outputs (slice_get a.earlier f) (and_first _ _ h) in
      and_from (nat_lt (number (EnterAt l at arguments)) (2 ^ 64) && words.is_name (name_in (slice_get a.earlier f))) true
      (and_from (nat_lt (number (EnterAt l at arguments)) (2 ^ 64)) (words.is_name (name_in (slice_get a.earlier f)))
      (less_test (number (EnterAt l at arguments)) (2 ^ 64) (numbers (EnterAt l at arguments)))
      (name_of (slice_get a.earlier f) f found.0 refl found.1)) refl
  one_run f (ActAt l s) h = refl
  one_run f (TestAt l at e) h = refl
  one_run f (PauseAt l at) h = refl
  one_run f (ResumeAt l at arguments) h = refl
  one_run f (HeadAt l at) h = refl
  one_run f (StartAt l at) h = refl
  one_run f (CheckAt l at e) h = refl
  one_run f (SurfaceEndAt l at) h = refl
  one_run f (DepthEndAt l at) h = refl
  one_run f (ForkAt l at) h = refl
  one_run f (SurfaceJoinAt l at) h = refl
  one_run f (DepthJoinAt l at) h = refl

  runs_by : (callees : List ℕ) (rules : List Transition) → all_fit a.sizes site callees rules ≡ true →
      list_all run_ok (runs_at number callees rules) ≡ true
  runs_by [] rules all = refl
  runs_by (f ∷ callees) [] all = refl
  runs_by (f ∷ callees) (rule ∷ rules) all =
      let own = and_first (rule_fits a.sizes rule && node_fits site f rule.node) (all_fit a.sizes site callees rules) all in
      all_append run_ok (run_at number f rule.node) (runs_at number callees rules)
      (one_run f rule.node (and_second (rule_fits a.sizes rule) (node_fits site f rule.node) own))
      (runs_by callees rules (and_second (rule_fits a.sizes rule && node_fits site f rule.node) (all_fit a.sizes site callees rules) all))

  kept_ok : (test : RunAt → Bool) (runs : List RunAt) → list_all run_ok runs ≡ true → list_all run_ok (filter test runs) ≡ true
  kept_ok test [] all = refl
  kept_ok test (run ∷ runs) all = by (test run) (kept_ok test runs (and_second (run_ok run) (list_all run_ok runs) all))
    where
      by : (b : Bool) → list_all run_ok (filter test runs) ≡ true → list_all run_ok (cond b (run ∷ filter test runs) (filter test runs)) ≡ true
      by true rest = and_from (run_ok run) (list_all run_ok (filter test runs)) (and_first (run_ok run) (list_all run_ok runs) all) rest
      by false rest = rest

  once_ok : (runs : List RunAt) → list_all run_ok runs ≡ true → list_all run_ok (one_a_place runs) ≡ true
  once_ok [] all = refl
  once_ok (run ∷ runs) all =
      and_from (run_ok run) (list_all run_ok (filter (λ (other : RunAt). not (same_place run.place other.place)) (one_a_place runs)))
      (and_first (run_ok run) (list_all run_ok runs) all)
      (kept_ok (λ (other : RunAt). not (same_place run.place other.place)) (one_a_place runs)
      (once_ok runs (and_second (run_ok run) (list_all run_ok runs) all)))

  runs_ok : list_all run_ok (runs_in_body a) ≡ true
  runs_ok = once_ok (runs_at number (callees_in (body_of a)) (rules_at a)) (runs_by (callees_in (body_of a)) (rules_at a) fitted)

  own_vars : list_all words.is_name (names_of a.unit.vars) ≡ true
  own_vars = vars_named a.structs units entry keeps k a.unit there

  -- the numbers of places are small, as those of nodes
  place_small : (rules : List Transition) (at : Place) → run_number_in number rules at < 2 ^ 64
  place_small [] at = omega arith
  place_small (rule ∷ rules) at = by (enters_at at rule.node) (place_small rules at)
    where
      by : (b : Bool) → run_number_in number rules at < 2 ^ 64 → (if b then number rule.node else run_number_in number rules at) < 2 ^ 64
      by true rest = numbers rule.node
      by false rest = rest

  run_low : (run : RunAt) → run_ok run ≡ true → run.number < 2 ^ 64
  unfolding run_ok
  run_low run h = low run.number (and_first (nat_lt run.number (2 ^ 64)) (words.is_name (name_in (slice_get a.earlier run.unit))) h)

  run_named : (run : RunAt) → run_ok run ≡ true → words.is_name (name_in (slice_get a.earlier run.unit)) ≡ true
  unfolding run_ok
  run_named run h = and_second (nat_lt run.number (2 ^ 64)) (words.is_name (name_in (slice_get a.earlier run.unit))) h

  -- the number and word in the C names of a `run`
  abbrev word : RunAt → NumberedWord
  word run = word_of_run a.earlier run

  run_spells : (run : RunAt) → run_ok run ≡ true → Spells (word run)
  run_spells run ok =
      record { small = run_low run ok; word = name_bytes (name_in (slice_get a.earlier run.unit)) (run_named run ok) }

  -- the view that blocks have of the activity, and the number and word in the C names of a node
  abbrev view : ActivityView
  view = activity_view a

  spells : (n : Node) → Spells (node_word view n)
  spells n = record { small = numbers n; word = number-word site named own_vars number (callees_in (body_of a)) (rules_at a) (number n) }

  -- ---- structs

  struct_type : (name : Text) → is_name name ≡ true → spells_type (OfStruct name) ≡ true
  struct_type name h = name-struct name h

  member_is : (name of : Text) → is_name name ≡ true → is_name of ≡ true → spells_member (struct_member name of) ≡ true
  member_is name of one other =
      and_from (spells_type (OfStruct of)) (is_name name && true) (struct_type of other) (and_from (is_name name) true one refl)

  counter_is : (j : ℕ) → j < length a.sizes → spells_member (counter_member a.sizes j) ≡ true
  counter_is j less =
      let small : j < 2 ^ 64 = omega (arith, less, short) in
      and_from (is_c_scalar _) (is_name (counter_name j) && true) (type-spelled a.sizes j)
      (and_from (is_name (counter_name j)) true (numbered-name 99 j refl refl small) refl)

  frame_members : list_all spells_member (frame_struct a).members ≡ true
  frame_members =
      all_append spells_member (map (counter_member a.sizes) (up_to (length a.sizes))) (map (frame_member a) (runs_in_body a))
      (all_mapped spells_member (counter_member a.sizes) (up_to (length a.sizes))
      (all_below (λ j. spells_member (counter_member a.sizes j)) (length a.sizes) counter_is))
      (by (runs_in_body a) runs_ok)
    where
      by : (runs : List RunAt) → list_all run_ok runs ≡ true → list_all spells_member (map (frame_member a) runs) ≡ true
      by [] all = refl
      by (run ∷ runs) all =
          let own = and_first (run_ok run) (list_all run_ok runs) all in
          and_from (spells_member (frame_member a run)) (list_all spells_member (map (frame_member a) runs))
          (member_is (callee_name (word run)) (frame_name (name_in (slice_get a.earlier run.unit))) (callee-named (word run) (run_spells run own))
          (frame-named (name_in (slice_get a.earlier run.unit)) (run_named run own)))
          (by runs (and_second (run_ok run) (list_all run_ok runs) all))

  pub frame-spelled : has_any (frame_struct a).members ≡ true → spells_struct (frame_struct a) ≡ true
  frame-spelled some =
      struct-spells nowhere (frame_name a.unit.name) (frame_struct a).members
      (name-struct (frame_name a.unit.name) (frame-named a.unit.name own_name)) some frame_members

  memory_is : (run : RunAt) → run_ok run ≡ true → list_all spells_member (memory_member a run) ≡ true
  memory_is run ok = by ((activity_view a).remembers run.unit)
    where
      by : (b : Bool) → list_all spells_member
          (if b then struct_member (callee_name (word run)) (memory_name (name_in (slice_get a.earlier run.unit))) ∷ [] else []) ≡ true
      by true =
          and_from (spells_member (struct_member (callee_name (word run)) (memory_name (name_in (slice_get a.earlier run.unit))))) true
          (member_is (callee_name (word run)) (memory_name (name_in (slice_get a.earlier run.unit))) (callee-named (word run) (run_spells run ok))
          (memory-named (name_in (slice_get a.earlier run.unit)) (run_named run ok))) refl
      by false = refl

  struct_by : (members : List CMember) → list_all spells_member members ≡ true → list_all spells_struct (struct_of a.unit.name members) ≡ true
  struct_by [] h = refl
  struct_by (m ∷ members) h =
      and_from (spells_struct (record { place = nowhere; name = memory_name a.unit.name; members = m ∷ members })) true
      (struct-spells nowhere (memory_name a.unit.name) (m ∷ members)
      (name-struct (memory_name a.unit.name) (memory-named a.unit.name own_name)) refl h) refl

  pub remembered-spelled : list_all spells_member (members_of a.structs a.earlier a.unit) ≡ true →
      list_all spells_struct (remembered_struct a) ≡ true
  remembered-spelled held =
      struct_by (remembered a)
      (all_append spells_member (members_of a.structs a.earlier a.unit) (joined (map (memory_member a) (runs_in_body a))) held
      (joined_where spells_member (memory_member a) run_ok memory_is (runs_in_body a) runs_ok))

  -- ---- parameters and locals

  param_is : (name of : Text) → is_name name ≡ true → is_name of ≡ true →
      spells_param (record { ty = OfStruct of; pointer = true; name = name }) ≡ true
  param_is name of one other = and_from (spells_type (OfStruct of)) (is_name name) (struct_type of other) one

  params_are : list_all spells_param (activity_params a) ≡ true
  params_are =
      and_from (spells_param (record { ty = OfStruct (frame_name a.unit.name); pointer = true; name = codes "f" })) _
      (param_is (codes "f") (frame_name a.unit.name) frame-letter (frame-named a.unit.name own_name))
      (all_append spells_param (memory_params a (remembers_any a))
      (params_from a.structs a.unit.vars 0 (parameters_of a.unit) ++ (result_params a.unit.result ++ over_params (unit_may_end a.unit)))
      (remembers (remembers_any a))
      (all_append spells_param (params_from a.structs a.unit.vars 0 (parameters_of a.unit)) (result_params a.unit.result ++ over_params (unit_may_end a.unit))
      (params-spelled a.structs units entry k a.unit keeps there few)
      (all_append spells_param (result_params a.unit.result) (over_params (unit_may_end a.unit)) (result a.unit.result) (over (unit_may_end a.unit)))))
    where
      over : (ends : Bool) → list_all spells_param (over_params ends) ≡ true
      over true = and_from (is_name (codes "e")) true end-letter refl
      over false = refl

      remembers : (b : Bool) → list_all spells_param (memory_params a b) ≡ true
      remembers true =
          and_from (spells_param (record { ty = OfStruct (memory_name a.unit.name); pointer = true; name = codes "m" })) true
          (param_is (codes "m") (memory_name a.unit.name) memory-name (memory-named a.unit.name own_name)) refl
      remembers false = refl

      result : (o : Option ScalarType) → list_all spells_param (result_params o) ≡ true
      result None = refl
      result (Some s) = and_from (is_c_scalar (c_scalar s) && is_name (codes "r")) true (and_from (is_c_scalar (c_scalar s)) (is_name (codes "r"))
          (scalar_spelled s) result-letter) refl

  local_is : (s : ScalarType) (name : Text) → is_c_scalar s ≡ true → is_name name ≡ true → spells_local (scalar_local s name) ≡ true
  local_is s name one other = and_from (is_c_scalar s) (is_name name) one other

  flag_is : (rule : Transition) → list_all spells_local (flag_local view rule) ≡ true
  flag_is rule = by (is_flagged rule.condition)
    where
      by : (b : Bool) → list_all spells_local (if b then scalar_local OfBool (flag_name (node_word view rule.node)) ∷ [] else []) ≡ true
      by true =
          and_from (spells_local (scalar_local OfBool (flag_name (node_word view rule.node)))) true
          (local_is OfBool (flag_name (node_word view rule.node)) refl (spelled-name 103 (node_word view rule.node) refl refl (spells rule.node))) refl
      by false = refl

  mark_is : (change : Change) → list_all spells_local (mark_local view change) ≡ true
  mark_is (SetsMark n) =
      and_from (spells_local (scalar_local OfBool (mark_name (node_word view n)))) true
      (local_is OfBool (mark_name (node_word view n)) refl (spelled-name 117 (node_word view n) refl refl (spells n))) refl
  mark_is (SetsFlag n) = refl
  mark_is (SetsCounter slot) = refl
  mark_is (ClearsCounter j) = refl
  mark_is (ClearsBoth j) = refl
  mark_is (EndsWhen start surface depth) = refl
  mark_is Finishes = refl

  run_locals_are : (run : RunAt) → run_ok run ≡ true → list_all spells_local (run_locals a run) ≡ true
  run_locals_are run ok = by (option_and_then (λ (unit : UnitDef). unit.result) (slice_get a.earlier run.unit))
    where
      by : (o : Option ScalarType) → list_all spells_local (given_local (word run) o) ≡ true
      by None = refl
      by (Some s) =
          and_from (spells_local (scalar_local (c_scalar s) (given_name (word run)))) true
          (local_is (c_scalar s) (given_name (word run)) (scalar_spelled s) (spelled-name 114 (word run) refl refl (run_spells run ok))) refl

  ended_is : (ends : Bool) → list_all spells_local (ended_local ends) ≡ true
  ended_is false = refl
  ended_is true = and_from (spells_local (scalar_local OfBool ended_name)) true (local_is OfBool ended_name refl ended-word) refl

  locals_are : list_all spells_local (activity_locals a) ≡ true
  locals_are =
      let of_results : List CLocal = joined (map (run_locals a) (runs_in_body a)) in
      let ends : Bool = some_ends a.earlier (runs_in_body a) in
      let of_runs : List CLocal = ended_local ends ++ of_results in
      let of_copies : List CLocal = map (copy_local a) (copied_in a) in
      let of_marks : List CLocal = joined (map (mark_locals view) (rules_at a)) in
      let of_flags : List CLocal = joined (map (flag_local view) (first_rules a)) in
      all_append spells_local (map (rested_local a.sizes) (counters_read a)) (of_flags ++ (of_marks ++ (of_copies ++ of_runs)))
      (all_mapped spells_local (rested_local a.sizes) (counters_read a)
      (all_filtered (λ j. spells_local (rested_local a.sizes j)) (activity_view a).is_read (up_to (length a.sizes))
      (all_below (λ j. spells_local (rested_local a.sizes j)) (length a.sizes) rested_is)))
      (all_append spells_local of_flags (of_marks ++ (of_copies ++ of_runs)) (joined_each spells_local (flag_local view) flag_is (first_rules a))
      (all_append spells_local of_marks (of_copies ++ of_runs)
      (joined_each spells_local (mark_locals view) (λ rule. joined_each spells_local (mark_local view) mark_is rule.on_true) (rules_at a))
      (all_append spells_local of_copies of_runs
      (all_mapped spells_local (copy_local a) (copied_in a)
      (all_filtered (λ j. spells_local (copy_local a j)) _ (up_to (length a.unit.vars))
      (all_below (λ j. spells_local (copy_local a j)) (length a.unit.vars) copy_is)))
      (all_append spells_local (ended_local ends) of_results (ended_is ends)
      (joined_where spells_local (run_locals a) run_ok run_locals_are (runs_in_body a) runs_ok)))))
    where
      rested_is : (j : ℕ) → j < length a.sizes → spells_local (rested_local a.sizes j) ≡ true
      rested_is j less =
          let small : j < 2 ^ 64 = omega (arith, less, short) in
          local_is _ (rested_name j) (type-spelled a.sizes j) (numbered-name 119 j refl refl small)

      copy_is : (j : ℕ) → j < length a.unit.vars → spells_local (copy_local a j) ≡ true
      copy_is j less =
          let small : j < 2 ^ 64 = omega (arith, less, few) in
          local_is (c_scalar (scalar_at (slice_get a.unit.vars j))) (copy_name a.unit.vars j) (scalar_spelled (scalar_at (slice_get a.unit.vars j)))
          (copy-name a.unit.vars j own_vars small)

  -- ---- statements

  module _ (exprs : (e : Expr) (ty : Ty) → type_of site e ≡ Some ty → expr_fits (room (expr_depth e)) (code_made site e) ≡ true)
      (paths : (path : Path) (ty : Ty) → type_of_path site path ≡ Some ty →
      place_fits (room (path_depth path)) (stands site path).place ≡ true)
      (acts : (s : Stmt) → fits site s ≡ true → stmts_fit (2 * (depth_of s).exprs + 3) (act_code site (activity_view a).copies s) ≡ true) where
    names : list_all words.is_name (map (λ (def : StructDef). def.name) a.structs) ≡ true
    names = struct_names a.structs units entry keeps

    typed_here : (j : ℕ) (var : Var) → slice_get a.unit.vars j ≡ Some var → type_stands (length a.structs) var.ty ≡ true
    typed_here = typed a.structs units entry k a.unit keeps there few

    rested_is : (j : ℕ) → j < length a.sizes → stmt_fits 405 (rested_code j) ≡ true
    rested_is j less =
        let small : j < 2 ^ 64 = omega (arith, less, short) in
        set-fits 405 nowhere (rested_place j) (c_read (counter_place j)) (rested-fits 405 j (omega arith) small)
        (read-fits 405 nowhere (counter_place j) (counter-fits 405 j (omega arith) small))

    copied_is : (j : ℕ) → j < length a.unit.vars → stmt_fits 405 (c_copied site j) ≡ true
    copied_is j less =
        let small : j < 2 ^ 64 = omega (arith, less, few) in
        set-fits 405 nowhere (c_place false (copy_name a.unit.vars j) []) (c_read (place_in site j []))
        (place-fits 405 false (copy_name a.unit.vars j) [] (omega arith) (copy-name a.unit.vars j own_vars small) refl)
        (read-fits 405 nowhere (place_in site j []) (own-fits site few names named own_vars typed_here exprs paths 405 j (omega arith) small))

    first_is : (copied : Bool) → place_fits 2 (entry_place copied) ≡ true
    first_is true = rested-fits 2 0 (omega arith) (omega arith)
    first_is false = counter-fits 2 0 (omega arith) (omega arith)

    entry_is : (body : Block) → stmts_fit 405 (entry_code (activity_view a) body) ≡ true
    entry_is Done = refl
    entry_is (Then s rest) =
        let first : CPlace = entry_place ((activity_view a).is_read 0) in
        one-fits 405 (c_set (flag_place (node_word view (entry_node s))) (c_two Eq (c_read first) (counter_value a.sizes 0 0)))
        (set-fits 405 nowhere (flag_place (node_word view (entry_node s))) (c_two Eq (c_read first) (counter_value a.sizes 0 0))
        (flag-fits 405 (node_word view (entry_node s)) (omega arith) (spells (entry_node s)))
        (two-fits 2 405 nowhere Eq (c_read first) (counter_value a.sizes 0 0) (omega arith) refl
        (read-fits 2 nowhere first (first_is ((activity_view a).is_read 0))) (nothing-fits 2 a.sizes 0 (omega arith))))

    code_is : stmts_fit 405 (activity_code a) ≡ true
    code_is =
        let blocks : List CStmt = blocks_in_order a in
        let copies : List CStmt = map (c_copied site) (copied_in a) in
        all_append (stmt_fits 405) (map rested_code (counters_read a)) (entry_code (activity_view a) (body_of a) ++ (copies ++ blocks))
        (all_mapped (stmt_fits 405) rested_code (counters_read a)
        (all_filtered (λ j. stmt_fits 405 (rested_code j)) (activity_view a).is_read (up_to (length a.sizes))
        (all_below (λ j. stmt_fits 405 (rested_code j)) (length a.sizes) rested_is)))
        (all_append (stmt_fits 405) (entry_code (activity_view a) (body_of a)) (copies ++ blocks) (entry_is (body_of a))
        (all_append (stmt_fits 405) copies blocks
        (all_mapped (stmt_fits 405) (c_copied site) (copied_in a)
        (all_filtered (λ j. stmt_fits 405 (c_copied site j)) _ (up_to (length a.unit.vars))
        (all_below (λ j. stmt_fits 405 (c_copied site j)) (length a.unit.vars) copied_is)))
        (blocks-fit (activity_view a).word (turns_in_source a) a.blocks
        (turns-fit (activity_view a) few spells (place_small (rules_at a)) names named own_vars typed_here exprs paths acts (callees_in (body_of a))
        (rules_at a) fitted))))

    pub activity-fits : func_fits 2000 (activity_function a) ≡ true
    activity-fits =
        func-fits 1999 2000 (activity_function a) (omega arith) (omega arith) refl
        (name-function (unit_name a.unit.name)
        (name-with_prefix (codes "a_") a.unit.name refl (source_name a.unit.name own_name))) params_are locals_are
        (stmts_fit-more 405 1999 (activity_code a) (omega arith) code_is)

-- ---- the laws

keeps_of : (structs : List StructDef) (units : List UnitDef) (entry : ℕ) (a : Activity) → a.structs ≡ structs → IsWellTyped structs units entry →
    IsWellTyped a.structs units entry
keeps_of structs units entry a same keeps = subst (λ structs. IsWellTyped structs units entry) (sym same) keeps

pub activities : (structs : List StructDef) (units : List UnitDef) (entry : ℕ) → ExpressionsFit structs units entry →
    PlacesFit structs units entry →
    ActsFit structs units entry → ActivitiesFit structs units entry
activities structs units entry fit fit_places fit_acts k a keeps can =
    let same : structs ≡ a.structs = sym can.structures in
    let own : IsWellTyped a.structs units entry = subst (λ structs. IsWellTyped structs units entry) same keeps in
    let before : take k units ≡ a.earlier = sym can.earlier in
    let exprs = subst (λ structs. ExpressionsFit structs units entry) same fit in
    let paths = subst (λ structs. PlacesFit structs units entry) same fit_places in
    let acts = subst (λ structs. ActsFit structs units entry) same fit_acts in
    activity-fits units entry k a own can.there can.earlier can.variables can.counters can.numbers can.rules
    (subst (λ (earlier : List UnitDef). (e : Expr) (ty : Ty) → type_of (site_of a.structs earlier a.unit) e ≡ Some ty →
    expr_fits (room (expr_depth e)) (code_made (site_of a.structs earlier a.unit) e) ≡ true) before
    (λ e ty typed. exprs k a.unit e ty own can.there can.variables typed))
    (subst (λ (earlier : List UnitDef). (path : Path) (ty : Ty) → type_of_path (site_of a.structs earlier a.unit) path ≡ Some ty →
    place_fits (room (path_depth path)) (stands (site_of a.structs earlier a.unit) path).place ≡ true) before
    (λ path ty typed. paths k a.unit path ty own can.there can.variables typed))
    (subst (λ (earlier : List UnitDef). (s : Stmt) → fits (site_of a.structs earlier a.unit) s ≡ true →
    stmts_fit (2 * (depth_of s).exprs + 3) (act_code (site_of a.structs earlier a.unit) (activity_view a).copies s) ≡ true) before
    (λ s fitted. acts k a.unit (activity_view a).copies s own can.there can.variables fitted))

pub frames : (structs : List StructDef) (units : List UnitDef) (entry : ℕ) → FramesSpelled structs units entry
frames structs units entry k a keeps can some =
    frame-spelled units entry k a (keeps_of structs units entry a can.structures keeps) can.there can.earlier can.variables can.counters can.numbers
    can.rules some

pub memories : (structs : List StructDef) (units : List UnitDef) (entry : ℕ) → MembersSpelled structs units entry →
    RememberedSpelled structs units entry
memories structs units entry members k a keeps can =
    let own : IsWellTyped a.structs units entry = keeps_of structs units entry a can.structures keeps in
    let spelled = subst (λ structs. MembersSpelled structs units entry) (sym can.structures) members in
    remembered-spelled units entry k a own can.there can.earlier can.variables can.counters can.numbers can.rules
    (subst (λ (earlier : List UnitDef). list_all spells_member (members_of a.structs earlier a.unit) ≡ true) (sym can.earlier)
    (spelled k a.unit own can.there can.variables))
