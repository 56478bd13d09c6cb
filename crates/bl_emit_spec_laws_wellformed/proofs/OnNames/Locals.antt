-- No two parameters and locals of the C function of an activity have one name.
use Rattle.std.proofs.Common.{◌≡◌, ℕ, zero, suc, ◌+◌, ◌≤◌, ◌^◌, Bool, true, false}
use Rattle.std.proofs.Common.{◌&&◌, ◌||◌, List, [], ◌∷◌, ◌++◌, map, take}
use Rattle.std.proofs.Common.{length, Option, Some, None, refl, sym, ap, ◌∙◌, arith, codes}
use Rattle.std.proofs.lemmas.List.{append-nil, append_assoc, map-append}
use Rattle.std.specs.Fmt.{decimal}
use Rattle.std.specs.Prelude.{bytes_eq, is_some, nat_eq, option_and_then, slice_get, if◌then◌else◌}
use Rattle.std.proofs.lemmas.Bool.{or_from}
use Rattle.bl_tree.specs.declared.text.Text.{Text}
use Rattle.bl_tree.specs.declared.c.CLocal.{CLocal}
use Rattle.bl_tree.specs.declared.c.CMember.{CMember}
use Rattle.bl_tree.specs.declared.c.CParam.{CParam}
use Rattle.bl_tree.specs.declared.scalar.Scalar.{Scalar as ScalarType}
use Rattle.bl_tree.specs.declared.scalar.Scalar.TheVariants.{Bool as OfBool}
use Rattle.bl_tree.specs.declared.tree.StructDef.{StructDef}
use Rattle.bl_tree.specs.declared.tree.Unit.{Unit as UnitDef}
use Rattle.bl_tree.specs.declared.tree.Var.{Var}
use Rattle.bl_tree.specs.Program.{parameters_of}
use Rattle.bl_tree.specs.Reduce.{joined}
use Rattle.bl_tree.specs.Typing.{TypingContext, site_of}
use Rattle.bl_tree.specs.Words.{are_distinct, is_among}
use Rattle.bl_machine.specs.Blocks.{up_to}
use Rattle.bl_machine_pass.specs.Transitions.{Change, Transition}
use Rattle.bl_machine_pass.specs.Transitions.{ClearsBoth, ClearsCounter, EndsWhen, Finishes, SetsCounter, SetsFlag, SetsMark}
use Rattle.bl_emit_acts.specs.Acts.{is_copied}
use Rattle.bl_emit_acts.specs.Places.{home_of}
use Rattle.bl_emit_acts.specs.Types.{numbered_name}
use Rattle.bl_emit_functions.specs.Functions.{is_held, member_of, members_from, members_of, memory_name, params_from}
use Rattle.bl_emit_spec.specs.Activities.{Activity, RunAt, activity_locals, activity_params, activity_view, copied_in, copies_of, copy_local, counter_member}
use Rattle.bl_emit_spec.specs.Activities.{counters_read, ended_local, some_ends, first_rules, flag_local, frame_member, frame_struct, given_local, is_flagged}
use Rattle.bl_emit_spec.specs.Activities.{mark_local, mark_locals, memory_member, memory_params, over_params, remembered, remembers_any, rested_local}
use Rattle.bl_emit_spec.specs.Activities.{result_params, rules_at, run_locals, runs_in_body, scalar_local, struct_member, word_of_run}
use Rattle.bl_emit_spec.specs.Blocks.{ActivityView, Sizes, name_in, node_word, unit_may_end}
use Rattle.bl_emit_spec.specs.Names.{NumberedWord, callee_name, ended_name, flag_name, numbered_word, with_word}
use Rattle.bl_emit_spec_laws_wellformed.specs.Names.{FrameDiffers, LocalsDiffer, MemoryDiffers, NumbersDiffer}
use Rattle.bl_emit_spec_laws_wellformed.specs.Names.{are_numbers, flag_number, mark_number, mark_numbers}
use Rattle.bl_emit_spec_laws_wellformed.proofs.OnNames.Names.{word_family, word_family-begins, word_family-distinct, word_letter-new}
use Rattle.bl_emit_spec_laws_wellformed.proofs.OnNames.Names.{begins-append}
use Rattle.bl_emit_spec_laws_wellformed.proofs.OnNames.Names.{family, family-begins, family-distinct, named_family, named_family-begins}
use Rattle.bl_emit_spec_laws_wellformed.proofs.OnNames.Names.{named_family-distinct, named_letter-new}
use Rattle.bl_emit_spec_laws_wellformed.proofs.OnNames.Names.{worded_family, worded_family-begins, worded_family-distinct, worded_letter-new}
use Rattle.bl_emit_spec_laws_wellformed.proofs.OnNames.Names.{letter-new, not-among, one-distinct, some_begins}
use Rattle.bl_emit_spec_laws_wellformed.proofs.OnNames.Numbers.{chosen, chosen-numbers, filtered-numbers, first-numbers, position-numbers, positions}
use Rattle.bl_emit_functions_laws_wellformed.proofs.OnFormed.Head.{among_neither}
use Rattle.bl_emit_functions_laws_wellformed.proofs.OnFormed.Memories.{names}

abbrev local_names : List CLocal → List Text
local_names locals = map (λ (l : CLocal). l.name) locals

abbrev param_names : List CParam → List Text
param_names params = map (λ (p : CParam). p.name) params

locals_append : (xs ys : List CLocal) → local_names (xs ++ ys) ≡ local_names xs ++ local_names ys
locals_append xs ys = map-append (λ (l : CLocal). l.name) xs ys

members_append : (xs ys : List CMember) → names (xs ++ ys) ≡ names xs ++ names ys
members_append xs ys = map-append (λ (m : CMember). m.name) xs ys

worded_family_append : (words : ℕ → Text) (b : ℕ) (xs ys : List ℕ) →
    worded_family words b (xs ++ ys) ≡ worded_family words b xs ++ worded_family words b ys
worded_family_append words b xs ys = map-append (λ k. b ∷ numbered_word (with_word words k)) xs ys

named_family_append : (vars : List Var) (b : ℕ) (xs ys : List ℕ) → named_family vars b (xs ++ ys) ≡ named_family vars b xs ++ named_family vars b ys
named_family_append vars b xs ys = map-append (λ k. b ∷ numbered_name vars k) xs ys

-- ---- which names there are

rested_names : (sizes : Sizes) (ks : List ℕ) → local_names (map (rested_local sizes) ks) ≡ family 119 ks
rested_names sizes [] = refl
rested_names sizes (k ∷ ks) = ap (λ rest. (119 ∷ decimal k) ∷ rest) (rested_names sizes ks)

copy_names : (a : Activity) (ks : List ℕ) → local_names (map (copy_local a) ks) ≡ named_family a.unit.vars 112 ks
copy_names a [] = refl
copy_names a (k ∷ ks) = ap (λ rest. (112 ∷ numbered_name a.unit.vars k) ∷ rest) (copy_names a ks)

flag_names : (view : ActivityView) (rules : List Transition) →
    local_names (joined (map (flag_local view) rules)) ≡ worded_family view.word 103 (joined (map (flag_number view.number) rules))
flag_names view [] = refl
flag_names view (rule ∷ rules) =
    locals_append (flag_local view rule) (joined (map (flag_local view) rules))
    ∙ (λ i. one i ++ flag_names view rules i)
    ∙ sym (worded_family_append view.word 103 (flag_number view.number rule) (joined (map (flag_number view.number) rules)))
  where
    one : local_names (flag_local view rule) ≡ worded_family view.word 103 (flag_number view.number rule)
    one = by (is_flagged rule.condition) (scalar_local OfBool (flag_name (node_word view rule.node))) refl
      where
        by : (b : Bool) (l : CLocal) → l.name ≡ 103 ∷ numbered_word (node_word view rule.node) →
            local_names (if b then l ∷ [] else []) ≡ worded_family view.word 103 (if b then view.number rule.node ∷ [] else [])
        by true l is = ap (λ name. name ∷ []) is
        by false l is = refl

change_names : (view : ActivityView) (change : Change) →
    local_names (mark_local view change) ≡ worded_family view.word 117 (mark_number view.number change)
change_names view (SetsFlag n) = refl
change_names view (SetsCounter slot) = refl
change_names view (ClearsCounter k) = refl
change_names view (ClearsBoth k) = refl
change_names view (SetsMark n) = refl
change_names view (EndsWhen start surface depth) = refl
change_names view Finishes = refl

changes_names : (view : ActivityView) (changes : List Change) →
    local_names (joined (map (mark_local view) changes)) ≡ worded_family view.word 117 (joined (map (mark_number view.number) changes))
changes_names view [] = refl
changes_names view (change ∷ changes) =
    locals_append (mark_local view change) (joined (map (mark_local view) changes))
    ∙ (λ i. change_names view change i ++ changes_names view changes i)
    ∙ sym (worded_family_append view.word 117 (mark_number view.number change) (joined (map (mark_number view.number) changes)))

mark_names : (view : ActivityView) (rules : List Transition) →
    local_names (joined (map (mark_locals view) rules)) ≡ worded_family view.word 117 (joined (map (mark_numbers view.number) rules))
mark_names view [] = refl
mark_names view (rule ∷ rules) =
    locals_append (mark_locals view rule) (joined (map (mark_locals view) rules))
    ∙ (λ i. changes_names view rule.on_true i ++ mark_names view rules i)
    ∙ sym (worded_family_append view.word 117 (mark_numbers view.number rule) (joined (map (mark_numbers view.number) rules)))

-- ---- the locals of `run`s

module _ (a : Activity) where
  abbrev result_at : RunAt → Option ScalarType
  result_at run = option_and_then (λ (unit : UnitDef). unit.result) (slice_get a.earlier run.unit)

  abbrev word : RunAt → NumberedWord
  word run = word_of_run a.earlier run

  abbrev run_numbers : List RunAt → List ℕ
  run_numbers runs = map (λ (run : RunAt). run.number) runs

  one_family : (c : ℕ) (runs : List RunAt) → are_numbers (run_numbers runs) ≡ true → are_distinct (word_family word c runs) ≡ true
  one_family c runs all = ap are_distinct (sym (append-nil (word_family word c runs))) ∙ word_family-distinct word c runs [] all refl refl

  -- the `run`s that pass a test
  abbrev those : (RunAt → Bool) → List RunAt → List RunAt
  those test [] = []
  those test (run ∷ runs) = (if test run then run ∷ [] else []) ++ those test runs

  those_chosen : (test : RunAt → Bool) (runs : List RunAt) → run_numbers (those test runs) ≡ chosen test (λ (run : RunAt). run.number) runs
  those_chosen test [] = refl
  those_chosen test (run ∷ runs) = by (test run) (those_chosen test runs)
    where
      by : (b : Bool) → run_numbers (those test runs) ≡ chosen test (λ (run : RunAt). run.number) runs →
          run_numbers ((if b then run ∷ [] else []) ++ those test runs)
          ≡ (if b then run.number ∷ [] else []) ++ chosen test (λ (run : RunAt). run.number) runs
      by true rest = ap (λ numbers. run.number ∷ numbers) rest
      by false rest = rest

  those_numbers : (test : RunAt → Bool) (runs : List RunAt) → are_numbers (run_numbers runs) ≡ true → are_numbers (run_numbers (those test runs)) ≡ true
  those_numbers test runs all = ap are_numbers (those_chosen test runs) ∙ chosen-numbers test (λ (run : RunAt). run.number) runs all

  -- the `run`s of activities with a result
  abbrev with_result : List RunAt → List RunAt
  with_result runs = those (λ run. is_some (result_at run)) runs

  abbrev ended_names : Bool → List Text
  ended_names ends = local_names (ended_local ends)

  abbrev names_of_runs : List RunAt → List Text
  names_of_runs runs = ended_names (some_ends a.earlier runs) ++ word_family word 114 (with_result runs)

  result_names : (runs : List RunAt) → local_names (joined (map (run_locals a) runs)) ≡ word_family word 114 (with_result runs)
  result_names [] = refl
  result_names (run ∷ runs) =
      locals_append (run_locals a run) (joined (map (run_locals a) runs))
      ∙ (λ i. by (result_at run) i ++ result_names runs i)
      ∙ sym (map-append (λ (run : RunAt). 114 ∷ numbered_word (word run)) (if is_some (result_at run) then run ∷ [] else []) (with_result runs))
    where
      by : (o : Option ScalarType) → local_names (given_local (word run) o) ≡ word_family word 114 (if is_some o then run ∷ [] else [])
      by (Some s) = refl
      by None = refl

  run_names : (runs : List RunAt) →
      local_names (ended_local (some_ends a.earlier runs) ++ joined (map (run_locals a) runs)) ≡ names_of_runs runs
  run_names runs =
      let ends : Bool = some_ends a.earlier runs in
      locals_append (ended_local ends) (joined (map (run_locals a) runs)) ∙ ap (λ rest. ended_names ends ++ rest) (result_names runs)

  -- one of other letters
  ended_begins : (b : ℕ) (ends : Bool) → nat_eq b 101 ≡ false → some_begins b (ended_names ends) ≡ false
  ended_begins b false other = refl
  ended_begins b true other = or_from (nat_eq b 101) false other refl

  runs_begin : (b : ℕ) (runs : List RunAt) → nat_eq b 101 ≡ false → nat_eq b 114 ≡ false → some_begins b (names_of_runs runs) ≡ false
  runs_begin b runs one other =
      begins-append b (ended_names (some_ends a.earlier runs)) (word_family word 114 (with_result runs)) (ended_begins b (some_ends a.earlier runs) one)
      (word_family-begins word b 114 (with_result runs) other)

  -- one letter alone
  ended_letter : (b : ℕ) (ends : Bool) → is_among (b ∷ []) (ended_names ends) ≡ false
  ended_letter b false = refl
  ended_letter b true = by (nat_eq b 101)
    where
      by : (t : Bool) → ((t && false) || false) ≡ false
      by true = refl
      by false = refl

  runs_letter : (b : ℕ) (runs : List RunAt) → are_numbers (run_numbers runs) ≡ true → is_among (b ∷ []) (names_of_runs runs) ≡ false
  runs_letter b runs all =
      among_neither (b ∷ []) (ended_names (some_ends a.earlier runs)) (word_family word 114 (with_result runs)) (ended_letter b (some_ends a.earlier runs))
      (word_letter-new word b 114 (with_result runs) (those_numbers (λ run. is_some (result_at run)) runs all))

  -- all differ
  ended_distinct : (ends : Bool) (others : List Text) → some_begins 101 others ≡ false → are_distinct others ≡ true →
      are_distinct (ended_names ends ++ others) ≡ true
  ended_distinct false others none differ = differ
  ended_distinct true others none differ = one-distinct ended_name others (not-among 101 ended_name others refl none) differ

  runs_distinct : (runs : List RunAt) → are_numbers (run_numbers runs) ≡ true → are_distinct (names_of_runs runs) ≡ true
  runs_distinct runs all =
      ended_distinct (some_ends a.earlier runs) (word_family word 114 (with_result runs)) (word_family-begins word 101 114 (with_result runs) refl)
      (one_family 114 (with_result runs) (those_numbers (λ run. is_some (result_at run)) runs all))

  -- ---- all locals

  module _ (differ : NumbersDiffer a) where
    abbrev view : ActivityView
    view = activity_view a

    abbrev flags : List ℕ
    flags = joined (map (flag_number view.number) (first_rules a))

    abbrev marks : List ℕ
    marks = joined (map (mark_numbers view.number) (rules_at a))

    abbrev runs : List RunAt
    runs = runs_in_body a

    abbrev from_copies : List Text
    from_copies = named_family a.unit.vars 112 (copied_in a) ++ names_of_runs runs

    abbrev from_marks : List Text
    from_marks = worded_family view.word 117 marks ++ from_copies

    abbrev from_flags : List Text
    from_flags = worded_family view.word 103 flags ++ from_marks

    abbrev all_locals : List Text
    all_locals = family 119 (counters_read a) ++ from_flags

    locals_are : local_names (activity_locals a) ≡ all_locals
    locals_are =
        let of_runs : List CLocal = ended_local (some_ends a.earlier runs) ++ joined (map (run_locals a) runs) in
        let of_copies : List CLocal = map (copy_local a) (copied_in a) in
        let of_marks : List CLocal = joined (map (mark_locals view) (rules_at a)) in
        let of_flags : List CLocal = joined (map (flag_local view) (first_rules a)) in
        locals_append (map (rested_local a.sizes) (counters_read a)) (of_flags ++ (of_marks ++ (of_copies ++ of_runs)))
        ∙ (λ i. rested_names a.sizes (counters_read a) i ++ locals_append of_flags (of_marks ++ (of_copies ++ of_runs)) i)
        ∙ (λ i. family 119 (counters_read a) ++ (flag_names view (first_rules a) i ++ locals_append of_marks (of_copies ++ of_runs) i))
        ∙ (λ i. family 119 (counters_read a)
        ++ (worded_family view.word 103 flags ++ (mark_names view (rules_at a) i ++ locals_append of_copies of_runs i)))
        ∙ (λ i. family 119 (counters_read a)
        ++ (worded_family view.word 103 flags ++ (worded_family view.word 117 marks ++ (copy_names a (copied_in a) i ++ run_names runs i))))

    copies_numbers : are_numbers (copied_in a) ≡ true
    copies_numbers = filtered-numbers (is_copied (copies_of a.unit)) (length a.unit.vars) differ.variables

    read_numbers : are_numbers (counters_read a) ≡ true
    read_numbers = filtered-numbers (activity_view a).is_read (length a.sizes) differ.counters

    -- a letter that begins no name of a local
    none_begins : (b : ℕ) → nat_eq b 119 ≡ false → nat_eq b 103 ≡ false → nat_eq b 117 ≡ false → nat_eq b 112 ≡ false →
        nat_eq b 101 ≡ false →
        nat_eq b 114 ≡ false → some_begins b all_locals ≡ false
    none_begins b w g u p e r =
        begins-append b (family 119 (counters_read a)) from_flags (family-begins b 119 (counters_read a) w)
        (begins-append b (worded_family view.word 103 flags) from_marks (worded_family-begins view.word b 103 flags g)
        (begins-append b (worded_family view.word 117 marks) from_copies (worded_family-begins view.word b 117 marks u)
        (begins-append b (named_family a.unit.vars 112 (copied_in a)) (names_of_runs runs) (named_family-begins a.unit.vars b 112 (copied_in a) p)
        (runs_begin b runs e r))))

    -- a letter alone is no name of a local
    letter_none : (b : ℕ) → is_among (b ∷ []) all_locals ≡ false
    letter_none b =
        among_neither (b ∷ []) (family 119 (counters_read a)) from_flags (letter-new b 119 (counters_read a) read_numbers)
        (among_neither (b ∷ []) (worded_family view.word 103 flags) from_marks (worded_letter-new view.word b 103 flags differ.flags)
        (among_neither (b ∷ []) (worded_family view.word 117 marks) from_copies (worded_letter-new view.word b 117 marks differ.marks)
        (among_neither (b ∷ []) (named_family a.unit.vars 112 (copied_in a)) (names_of_runs runs) (named_letter-new a.unit.vars b 112 (copied_in a) copies_numbers)
        (runs_letter b runs differ.runs))))

    locals_distinct : are_distinct all_locals ≡ true
    locals_distinct =
        family-distinct 119 (counters_read a) from_flags read_numbers
        (begins-append 119 (worded_family view.word 103 flags) from_marks (worded_family-begins view.word 119 103 flags refl)
        (begins-append 119 (worded_family view.word 117 marks) from_copies (worded_family-begins view.word 119 117 marks refl)
        (begins-append 119 (named_family a.unit.vars 112 (copied_in a)) (names_of_runs runs) (named_family-begins a.unit.vars 119 112 (copied_in a) refl)
        (runs_begin 119 runs refl refl))))
        (worded_family-distinct view.word 103 flags from_marks differ.flags
        (begins-append 103 (worded_family view.word 117 marks) from_copies (worded_family-begins view.word 103 117 marks refl)
        (begins-append 103 (named_family a.unit.vars 112 (copied_in a)) (names_of_runs runs) (named_family-begins a.unit.vars 103 112 (copied_in a) refl)
        (runs_begin 103 runs refl refl)))
        (worded_family-distinct view.word 117 marks from_copies differ.marks
        (begins-append 117 (named_family a.unit.vars 112 (copied_in a)) (names_of_runs runs) (named_family-begins a.unit.vars 117 112 (copied_in a) refl)
        (runs_begin 117 runs refl refl))
        (named_family-distinct a.unit.vars 112 (copied_in a) (names_of_runs runs) copies_numbers (runs_begin 112 runs refl refl)
        (runs_distinct runs differ.runs))))

    -- ---- parameters

    params_names : (structs : List StructDef) (k : ℕ) (vars : List Var) →
        param_names (params_from structs a.unit.vars k vars) ≡ named_family a.unit.vars 118 (positions (λ v. true) k vars)
    params_names structs k [] = refl
    params_names structs k (v ∷ vars) = ap (λ rest. (118 ∷ numbered_name a.unit.vars k) ∷ rest) (params_names structs (k + 1) vars)

    taken_few : {A : Type 0} (n : ℕ) (xs : List A) → length (take n xs) ≤ length xs
    taken_few zero xs = omega arith
    taken_few (suc n) [] = omega arith
    taken_few (suc n) (x ∷ xs) = let rest : length (take n xs) ≤ length xs = taken_few n xs in omega (arith, rest)

    abbrev params : List ℕ
    params = positions (λ v. true) 0 (parameters_of a.unit)

    param_numbers : are_numbers params ≡ true
    param_numbers =
        let few = differ.variables in
        let some : length (parameters_of a.unit) ≤ length a.unit.vars = taken_few (a.unit.inputs + a.unit.outputs) a.unit.vars in
        let room : 0 + length (parameters_of a.unit) ≤ 2 ^ 64 = omega (arith, some, few) in
        position-numbers (λ v. true) 0 (parameters_of a.unit) room

    -- the name of the end, where the test is true
    abbrev end_names : Bool → List Text
    end_names true = codes "e" ∷ []
    end_names false = []

    -- the names behind those of variables: that of the result, where there is one, and that of the end, where the test is true
    abbrev last_names : Option ScalarType → Bool → List Text
    last_names (Some s) ends = codes "r" ∷ end_names ends
    last_names None ends = end_names ends

    abbrev may_end : Bool
    may_end = unit_may_end a.unit

    abbrev first_names : Bool → List Text → List Text
    first_names true rest = codes "m" ∷ rest
    first_names false rest = rest

    abbrev after_variables : List Text
    after_variables = last_names a.unit.result may_end ++ all_locals

    end_distinct : (ends : Bool) → are_distinct (end_names ends ++ all_locals) ≡ true
    end_distinct true = one-distinct (codes "e") all_locals (letter_none 101) locals_distinct
    end_distinct false = locals_distinct

    end_letter : (ends : Bool) → is_among (codes "r") (end_names ends ++ all_locals) ≡ false
    end_letter true = or_from (bytes_eq (codes "r") (codes "e")) (is_among (codes "r") all_locals) refl (letter_none 114)
    end_letter false = letter_none 114

    last_distinct : (o : Option ScalarType) (ends : Bool) → are_distinct (last_names o ends ++ all_locals) ≡ true
    last_distinct None ends = end_distinct ends
    last_distinct (Some s) ends = one-distinct (codes "r") (end_names ends ++ all_locals) (end_letter ends) (end_distinct ends)

    end_begins : (b : ℕ) (ends : Bool) → nat_eq b 101 ≡ false → some_begins b all_locals ≡ false → some_begins b (end_names ends ++ all_locals) ≡ false
    end_begins b true e none = or_from (nat_eq b 101) (some_begins b all_locals) e none
    end_begins b false e none = none

    last_begins : (b : ℕ) (o : Option ScalarType) (ends : Bool) → nat_eq b 101 ≡ false → nat_eq b 114 ≡ false → some_begins b all_locals ≡ false →
        some_begins b (last_names o ends ++ all_locals) ≡ false
    last_begins b None ends e r none = end_begins b ends e none
    last_begins b (Some s) ends e r none =
        or_from (nat_eq b 114) (some_begins b (end_names ends ++ all_locals)) r (end_begins b ends e none)

    abbrev from_variables : List Text
    from_variables = named_family a.unit.vars 118 params ++ after_variables

    variables_distinct : are_distinct from_variables ≡ true
    variables_distinct =
        named_family-distinct a.unit.vars 118 params after_variables param_numbers
        (last_begins 118 a.unit.result may_end refl refl (none_begins 118 refl refl refl refl refl refl)) (last_distinct a.unit.result may_end)

    begin_none : (b : ℕ) → nat_eq b 118 ≡ false → nat_eq b 101 ≡ false → nat_eq b 114 ≡ false → some_begins b all_locals ≡ false →
        some_begins b from_variables ≡ false
    begin_none b v e r none = begins-append b (named_family a.unit.vars 118 params) after_variables (named_family-begins a.unit.vars b 118 params v)
        (last_begins b a.unit.result may_end e r none)

    memory_distinct : (remembers : Bool) → are_distinct (first_names remembers from_variables) ≡ true
    memory_distinct false = variables_distinct
    memory_distinct true =
        one-distinct (codes "m") from_variables
        (not-among 109 (codes "m") from_variables refl
        (begin_none 109 refl refl refl (none_begins 109 refl refl refl refl refl refl))) variables_distinct

    frame_new : (remembers : Bool) → is_among (codes "f") (first_names remembers from_variables) ≡ false
    frame_new false = not-among 102 (codes "f") from_variables refl (begin_none 102 refl refl refl (none_begins 102 refl refl refl refl refl refl))
    frame_new true =
        or_from (bytes_eq (codes "f") (codes "m")) (is_among (codes "f") from_variables) refl
        (not-among 102 (codes "f") from_variables refl (begin_none 102 refl refl refl (none_begins 102 refl refl refl refl refl refl)))

    params_append : (xs ys : List CParam) → param_names (xs ++ ys) ≡ param_names xs ++ param_names ys
    params_append xs ys = map-append (λ (p : CParam). p.name) xs ys

    last_are : (o : Option ScalarType) (ends : Bool) → param_names (result_params o ++ over_params ends) ≡ last_names o ends
    last_are None true = refl
    last_are None false = refl
    last_are (Some s) true = refl
    last_are (Some s) false = refl

    memory_are : (remembers : Bool) (rest : List CParam) →
        param_names (memory_params a remembers ++ rest) ≡ first_names remembers (param_names rest)
    memory_are true rest = refl
    memory_are false rest = refl

    first_append : (remembers : Bool) (xs ys : List Text) → first_names remembers xs ++ ys ≡ first_names remembers (xs ++ ys)
    first_append true xs ys = refl
    first_append false xs ys = refl

    abbrev variable_params : List CParam
    variable_params = params_from a.structs a.unit.vars 0 (parameters_of a.unit)

    params_are : param_names (activity_params a)
        ≡ codes "f" ∷ first_names (remembers_any a) (named_family a.unit.vars 118 params ++ last_names a.unit.result may_end)
    params_are =
        ap (λ rest. codes "f" ∷ rest)
        (memory_are (remembers_any a) (variable_params ++ (result_params a.unit.result ++ over_params may_end))
        ∙ ap (first_names (remembers_any a))
        (params_append variable_params (result_params a.unit.result ++ over_params may_end)
        ∙ (λ i. params_names a.structs 0 (parameters_of a.unit) i ++ last_are a.unit.result may_end i)))

    all_distinct : are_distinct (param_names (activity_params a) ++ local_names (activity_locals a)) ≡ true
    all_distinct =
        ap are_distinct
        ((λ i. params_are i ++ locals_are i)
        ∙ ap (λ rest. codes "f" ∷ rest)
        (first_append (remembers_any a) (named_family a.unit.vars 118 params ++ last_names a.unit.result may_end) all_locals
        ∙ ap (first_names (remembers_any a)) (append_assoc (named_family a.unit.vars 118 params) (last_names a.unit.result may_end) all_locals)))
        ∙ one-distinct (codes "f") (first_names (remembers_any a) from_variables) (frame_new (remembers_any a)) (memory_distinct (remembers_any a))

    -- ---- members

    counter_names : (sizes : Sizes) (ks : List ℕ) → names (map (counter_member sizes) ks) ≡ family 99 ks
    counter_names sizes [] = refl
    counter_names sizes (k ∷ ks) = ap (λ rest. (99 ∷ decimal k) ∷ rest) (counter_names sizes ks)

    frame_names : (runs : List RunAt) → names (map (frame_member a) runs) ≡ word_family word 120 runs
    frame_names [] = refl
    frame_names (run ∷ runs) = ap (λ rest. (120 ∷ numbered_word (word run)) ∷ rest) (frame_names runs)

    frame_distinct : are_distinct (names (frame_struct a).members) ≡ true
    frame_distinct =
        ap are_distinct
        (members_append (map (counter_member a.sizes) (up_to (length a.sizes))) (map (frame_member a) runs)
        ∙ (λ i. counter_names a.sizes (up_to (length a.sizes)) i ++ frame_names runs i))
        ∙ family-distinct 99 (up_to (length a.sizes)) (word_family word 120 runs) (first-numbers (length a.sizes) differ.counters)
        (word_family-begins word 99 120 runs refl) (one_family 120 runs differ.runs)

    held_names : (site : TypingContext) (k : ℕ) (vars : List Var) →
        names (members_from site k vars) ≡ named_family site.vars 118 (positions (λ (v : Var). is_held (home_of site (Some v))) k vars)
    held_names site k [] = refl
    held_names site k (v ∷ vars) =
        members_append (member_of (is_held (home_of site (Some v))) site.structs site.vars k v) (members_from site (k + 1) vars)
        ∙ (λ i. by (is_held (home_of site (Some v))) i ++ held_names site (k + 1) vars i)
        ∙ sym (named_family_append site.vars 118 (if is_held (home_of site (Some v)) then k ∷ [] else [])
        (positions (λ (v : Var). is_held (home_of site (Some v))) (k + 1) vars))
      where
        by : (b : Bool) → names (member_of b site.structs site.vars k v) ≡ named_family site.vars 118 (if b then k ∷ [] else [])
        by true = refl
        by false = refl

    -- the `run`s of activities that remember variables
    abbrev remembering : List RunAt → List RunAt
    remembering runs = those (λ run. (activity_view a).remembers run.unit) runs

    memory_names : (runs : List RunAt) → names (joined (map (memory_member a) runs)) ≡ word_family word 120 (remembering runs)
    memory_names [] = refl
    memory_names (run ∷ runs) =
        members_append (memory_member a run) (joined (map (memory_member a) runs))
        ∙ (λ i. by ((activity_view a).remembers run.unit) i ++ memory_names runs i)
        ∙ sym (map-append (λ (run : RunAt). 120 ∷ numbered_word (word run)) (if (activity_view a).remembers run.unit then run ∷ [] else []) (remembering runs))
      where
        by : (b : Bool) → names (if b then struct_member (callee_name (word run))
            (memory_name (name_in (slice_get a.earlier run.unit))) ∷ [] else [])
            ≡ word_family word 120 (if b then run ∷ [] else [])
        by true = refl
        by false = refl

    remembered_distinct : are_distinct (names (remembered a)) ≡ true
    remembered_distinct =
        let site : TypingContext = site_of a.structs a.earlier a.unit in
        let few = differ.variables in
        let room : 0 + length a.unit.vars ≤ 2 ^ 64 = omega (arith, few) in
        ap are_distinct
        (members_append (members_of a.structs a.earlier a.unit) (joined (map (memory_member a) runs))
        ∙ (λ i. held_names (site_of a.structs a.earlier a.unit) 0 a.unit.vars i ++ memory_names runs i))
        ∙ named_family-distinct a.unit.vars 118 (positions (λ (v : Var). is_held (home_of site (Some v))) 0 a.unit.vars)
        (word_family word 120 (remembering runs))
        (position-numbers (λ (v : Var). is_held (home_of site (Some v))) 0 a.unit.vars room) (word_family-begins word 118 120 (remembering runs) refl)
        (one_family 120 (remembering runs) (those_numbers (λ run. (activity_view a).remembers run.unit) runs differ.runs))

pub locals : LocalsDiffer
locals a differ = all_distinct a differ

pub frame : FrameDiffers
frame a differ = frame_distinct a differ

pub memory : MemoryDiffers
memory a differ = remembered_distinct a differ
