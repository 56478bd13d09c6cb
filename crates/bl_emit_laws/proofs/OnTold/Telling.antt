-- What the list of rules tells of an activity is what the rules of its nodes do.
use Rattle.std.proofs.Common.{◌≡◌, ℕ, zero, suc, Bool, true, false, ◌||◌, List, [], ◌∷◌, ◌++◌, length, map, filter, Option, Some, None}
use Rattle.std.proofs.Common.{append-nil, refl, sym, ap, ap₂, ◌∙◌, arith}
use Rattle.std.specs.Prelude.{codes, if◌then◌else◌, nat_eq, nat_lt, option_to_list, slice_get}
use Rattle.bl_tree.specs.declared.text.Text.{Text}
use Rattle.bl_tree.specs.declared.c.CFunc.{CFunc}
use Rattle.bl_tree.specs.declared.c.CLocal.{CLocal}
use Rattle.bl_tree.specs.declared.c.CMember.{CMember}
use Rattle.bl_tree.specs.declared.c.CParam.{CParam}
use Rattle.bl_tree.specs.declared.c.CStmt.{CStmt}
use Rattle.bl_tree.specs.declared.c.CStruct.{CStruct}
use Rattle.bl_tree.specs.declared.place.Place.{Place}
use Rattle.bl_tree.specs.declared.scalar.Scalar.TheVariants.{Bool as OfBool}
use Rattle.bl_tree.specs.declared.tree.StructDef.{StructDef}
use Rattle.bl_tree.specs.declared.tree.Unit.{Unit as UnitDef}
use Rattle.bl_tree.specs.Program.{parameters_of}
use Rattle.bl_tree.specs.Reduce.{joined}
use Rattle.bl_tree.specs.Typing.{TypingContext, site_of}
use Rattle.bl_graph_nodes.specs.Nodes.{ActAt, CheckAt, EnterAt, Node, ResumeAt, TestAt}
use Rattle.bl_graph_nodes.specs.Plain.{Block, Done, Then, plain_body}
use Rattle.bl_machine.specs.declared.machine.Activity.{Activity as InMachine}
use Rattle.bl_machine.specs.Blocks.{up_to}
use Rattle.bl_machine_pass.specs.Numbered.{slots_of}
use Rattle.bl_machine_pass.specs.Transitions as nodes
use Rattle.bl_machine_pass.specs.Transitions.{ClearsBoth, ClearsCounter, Ended, EndsWhen, Finishes, Flagged, Rested, RestedIn, SetsCounter, SetsFlag, SetsMark}
use Rattle.bl_machine_transitions.specs.Callees.{callees_in, node_number}
use Rattle.bl_machine_transitions.specs.Runs.{begins_run, run_number}
use Rattle.bl_machine_transitions.specs.Told.{NumberedTransition, all_told, task_at, told_change, told_condition}
use Rattle.bl_machine_transitions_laws.specs.Laws.{RulesAreListed, entries, first_number}
use Rattle.bl_emit_functions.specs.Functions.{params_from, struct_of}
use Rattle.bl_emit_spec.specs.Activities.{Activity, RunAt, activity_function, blocks_code, entry_code, first_rules, first_positions, flag_local, is_flagged}
use Rattle.bl_emit_spec.specs.Activities.{is_read_by, mark_local, mark_locals, memory_params, picked, reads_counter, remembered, rested_code}
use Rattle.bl_emit_spec.specs.Activities.{ended_local, enters_at, one_a_place, rested_local, run_at, run_number_in}
use Rattle.bl_emit_spec.specs.Activities.{activity_view, over_params, pointer_param, result_params, runs_at, runs_in_body, scalar_local, some_ends}
use Rattle.bl_emit_spec.specs.Blocks.{ActivityView, NodeCode, node_word, unit_may_end}
use Rattle.bl_emit_spec.specs.Names.{flag_name, frame_name}
use Rattle.bl_emit_spec.specs.Programs.{ProgramParts, activity_of, parts_of_activity}
use Rattle.bl_emit_spec.specs.Words.{word_in, word_of_node}
use Rattle.bl_emit_acts.specs.Acts.{c_copied}
use Rattle.bl_emit_blocks.specs.Laws.{Alike, BlocksAlike}
use Rattle.bl_emit_blocks.specs.Numbered.{numbered_turn}
use Rattle.bl_emit_blocks_laws.specs.Laws.{BodiesAreNumbered}
use Rattle.bl_emit_tables.specs.Told.{asks_counter, asks_flag, flag_where, flags_told, mark_told, marks_told, read_told, run_told}
use Rattle.bl_emit_tables.specs.Told.{all_runs_told, runs_told}
use Rattle.bl_emit_tables.specs.Words.{task_word, word_told}
use Rattle.bl_emit.specs.Activities.{ActivityInput, code_told, copied_told, copy_told, counters_told, entry_at, entry_told, frame_by, function_by}
use Rattle.bl_emit.specs.Activities.{function_told, locals_told, memory_params_told, params_told, remembered_by, remembers_told}
use Rattle.bl_emit.specs.Activities.{run_locals_told, view_told}
use Rattle.bl_emit.specs.Programs.{parts_told, told_of}
use Rattle.bl_emit_laws.specs.Told.{ActivitiesAreComputed}

-- ---- rules, one by one

module _ (number : Node → ℕ) where
  enters_is : (unit : ℕ) (at : Place) (n : Node) → enters_at at n ≡ begins_run at (task_at number unit n)
  enters_is unit at (ActAt l s) = refl
  enters_is unit at (TestAt l place e) = refl
  enters_is unit at (CheckAt l place e) = refl
  enters_is unit at (EnterAt l place arguments) = refl
  enters_is unit at (ResumeAt l place arguments) = refl
  enters_is unit at n = refl

  numbers_are : (units : List ℕ) (rules : List nodes.Transition) → length units ≡ length rules → (at : Place) →
      run_number_in number rules at ≡ run_number (all_told number units rules) at
  numbers_are [] [] same at = refl
  numbers_are [] (rule ∷ rules) same at = absurd (omega (arith, same))
  numbers_are (unit ∷ units) [] same at = refl
  numbers_are (unit ∷ units) (rule ∷ rules) same at =
      ap₂ (λ (b : Bool) (more : ℕ). if b then number rule.node else more) (enters_is unit at rule.node)
      (numbers_are units rules (omega (arith, same)) at)

  run_is : (unit : ℕ) (n : Node) → run_at number unit n ≡ run_told (number n) (task_at number unit n)
  run_is unit (ActAt l s) = refl
  run_is unit (TestAt l at e) = refl
  run_is unit (CheckAt l at e) = refl
  run_is unit (EnterAt l at arguments) = refl
  run_is unit (ResumeAt l at arguments) = refl
  run_is unit n = refl

  runs_are : (units : List ℕ) (rules : List nodes.Transition) → runs_at number units rules ≡ all_runs_told (all_told number units rules)
  runs_are [] rules = refl
  runs_are (unit ∷ units) [] = refl
  runs_are (unit ∷ units) (rule ∷ rules) = ap₂ ◌++◌ (run_is unit rule.node) (runs_are units rules)

  asked_is : (condition : nodes.Condition) → is_flagged condition ≡ asks_flag (told_condition number condition)
  asked_is Flagged = refl
  asked_is (Rested slot) = refl
  asked_is (RestedIn slots) = refl
  asked_is (Ended age needed) = refl

  counter_is : (k : ℕ) (condition : nodes.Condition) → reads_counter k condition ≡ asks_counter k (told_condition number condition)
  counter_is k Flagged = refl
  counter_is k (Rested slot) = refl
  counter_is k (RestedIn slots) = refl
  counter_is k (Ended age needed) = refl

  reads_are : (units : List ℕ) (rules : List nodes.Transition) → length units ≡ length rules → (k : ℕ) →
      is_read_by rules k ≡ read_told (all_told number units rules) k
  reads_are [] [] same k = refl
  reads_are [] (rule ∷ rules) same k = absurd (omega (arith, same))
  reads_are (unit ∷ units) [] same k = refl
  reads_are (unit ∷ units) (rule ∷ rules) same k = ap₂ ◌||◌ (counter_is k rule.condition) (reads_are units rules (omega (arith, same)) k)

  word_is : (site : TypingContext) (unit : ℕ) (n : Node) → word_of_node site unit n ≡ task_word site (task_at number unit n)
  word_is site unit (ActAt l s) = refl
  word_is site unit (TestAt l at e) = refl
  word_is site unit (CheckAt l at e) = refl
  word_is site unit (EnterAt l at arguments) = refl
  word_is site unit (ResumeAt l at arguments) = refl
  word_is site unit n = refl

  words_are : (site : TypingContext) (units : List ℕ) (rules : List nodes.Transition) (k : ℕ) →
      word_in site number units rules k ≡ word_told site (all_told number units rules) k
  words_are site [] rules k = refl
  words_are site (unit ∷ units) [] k = refl
  words_are site (unit ∷ units) (rule ∷ rules) k =
      ap₂ (λ (word more : Text). if nat_eq (number rule.node) k then word else more) (word_is site unit rule.node) (words_are site units rules k)

-- ---- flags and marks

module _ (view : ActivityView) where
  -- the local for the flag of the node at a position
  flag_at : (units : List ℕ) (rules : List nodes.Transition) → length units ≡ length rules → (k : ℕ) →
      joined (map (flag_local view) (option_to_list (slice_get rules k))) ≡ flag_where view.word (slice_get (all_told view.number units rules) k)
  flag_at [] [] same k = refl
  flag_at [] (rule ∷ rules) same k = absurd (omega (arith, same))
  flag_at (unit ∷ units) [] same k = refl
  flag_at (unit ∷ units) (rule ∷ rules) same zero =
      append-nil (flag_local view rule)
      ∙ ap (λ (b : Bool). if b then scalar_local OfBool (flag_name (node_word view rule.node)) ∷ [] else []) (asked_is view.number rule.condition)
  flag_at (unit ∷ units) (rule ∷ rules) same (suc k) = flag_at units rules (omega (arith, same)) k

  flags_both : (found : Option nodes.Transition) (rest : List nodes.Transition) →
      joined (map (flag_local view) (option_to_list found ++ rest))
      ≡ joined (map (flag_local view) (option_to_list found)) ++ joined (map (flag_local view) rest)
  flags_both None rest = refl
  flags_both (Some rule) rest =
      ap (λ (flags : List CLocal). flags ++ joined (map (flag_local view) rest)) (sym (append-nil (flag_local view rule)))

  flags_are : (units : List ℕ) (rules : List nodes.Transition) → length units ≡ length rules → (blocks : List (List ℕ)) →
      joined (map (flag_local view) (picked rules (first_positions blocks))) ≡ flags_told view.word (all_told view.number units rules) blocks
  flags_are units rules same [] = refl
  flags_are units rules same ([] ∷ rest) = flags_are units rules same rest
  flags_are units rules same ((k ∷ block) ∷ rest) =
      flags_both (slice_get rules k) (picked rules (first_positions rest)) ∙ ap₂ ◌++◌ (flag_at units rules same k) (flags_are units rules same rest)

  mark_is : (change : nodes.Change) → mark_local view change ≡ mark_told view.word (told_change view.number change)
  mark_is (SetsFlag n) = refl
  mark_is (SetsCounter slot) = refl
  mark_is (ClearsCounter k) = refl
  mark_is (ClearsBoth k) = refl
  mark_is (SetsMark n) = refl
  mark_is (EndsWhen start surface depth) = refl
  mark_is Finishes = refl

  rule_marks : (changes : List nodes.Change) →
      joined (map (mark_local view) changes) ≡ joined (map (mark_told view.word) (map (told_change view.number) changes))
  rule_marks [] = refl
  rule_marks (change ∷ rest) = ap₂ ◌++◌ (mark_is change) (rule_marks rest)

  marks_are : (units : List ℕ) (rules : List nodes.Transition) → length units ≡ length rules →
      joined (map (mark_locals view) rules) ≡ marks_told view.word (all_told view.number units rules)
  marks_are [] [] same = refl
  marks_are [] (rule ∷ rules) same = absurd (omega (arith, same))
  marks_are (unit ∷ units) [] same = refl
  marks_are (unit ∷ units) (rule ∷ rules) same = ap₂ ◌++◌ (rule_marks rule.on_true) (marks_are units rules (omega (arith, same)))

-- ---- the entry

entries_are : (view : ActivityView) (body : Block) → entry_code view body ≡ map (entry_at view) (map view.number (entries body))
entries_are view Done = refl
entries_are view (Then s rest) = refl

first_is : (view : ActivityView) (rules : List NumberedTransition) → entry_told view rules ≡ map (entry_at view) (first_number rules)
first_is view [] = refl
first_is view (rule ∷ rest) = refl

memory_is : (a : Activity) (remembers : Bool) → memory_params a remembers ≡ memory_params_told a.unit.name remembers
memory_is a true = refl
memory_is a false = refl

-- ---- an activity

module _ (law : RulesAreListed) (bodies : BodiesAreNumbered) (alike : BlocksAlike) (structs : List StructDef) (earlier : List UnitDef)
    (remember : List Bool) (unit : UnitDef) (one : InMachine) where
  abbrev a : Activity
  a = activity_of structs earlier remember unit one

  abbrev t : ActivityInput
  t = told_of structs earlier remember unit one

  abbrev site : TypingContext
  site = site_of structs earlier unit

  abbrev number : Node → ℕ
  number = node_number (joined one.blocks) (plain_body unit.body)

  abbrev calls : List ℕ
  calls = callees_in (plain_body unit.body)

  abbrev rules : List nodes.Transition
  rules = nodes.rules (slots_of (plain_body unit.body) one.slots) (plain_body unit.body)

  told_is : all_told number calls rules ≡ t.rules
  told_is = law.told unit.body (joined one.blocks) one.slots

  each : length calls ≡ length rules
  each = law.each unit.body one.slots

  run_so : run_number_in number rules ≡ run_number t.rules
  run_so = λ i at. (numbers_are number calls rules each at ∙ ap (λ (rules : List NumberedTransition). run_number rules at) told_is) i

  runs_so : runs_told t.rules ≡ runs_in_body a
  runs_so = sym (ap one_a_place (runs_are number calls rules ∙ ap all_runs_told told_is))

  word_at : (k : ℕ) → (view_told t).word k ≡ (activity_view a).word k
  word_at k =
      sym (words_are number site calls rules k ∙ ap (λ (rules : List NumberedTransition). word_told site rules k) told_is)

  word_so : (view_told t).word ≡ (activity_view a).word
  word_so = λ i k. word_at k i

  flags_so : flags_told (view_told t).word t.rules t.blocks ≡ joined (map (flag_local (activity_view a)) (first_rules a))
  flags_so =
      ap (λ (word : ℕ → Text). flags_told word t.rules t.blocks) word_so
      ∙ sym (flags_are (activity_view a) calls rules each t.blocks
      ∙ ap (λ (rules : List NumberedTransition). flags_told (activity_view a).word rules t.blocks) told_is)

  marks_so : marks_told (view_told t).word t.rules ≡ joined (map (mark_locals (activity_view a)) rules)
  marks_so =
      ap (λ (word : ℕ → Text). marks_told word t.rules) word_so
      ∙ sym (marks_are (activity_view a) calls rules each ∙ ap (marks_told (activity_view a).word) told_is)

  read_at : (k : ℕ) → read_told t.rules k ≡ is_read_by rules k
  read_at k = sym (reads_are number calls rules each k ∙ ap (λ (rules : List NumberedTransition). read_told rules k) told_is)

  read_so : read_told t.rules ≡ is_read_by rules
  read_so = λ i k. read_at k i

  counters_so : counters_told t.sizes t.rules ≡ filter (is_read_by rules) (up_to (length t.sizes))
  counters_so = ap (λ (test : ℕ → Bool). filter test (up_to (length t.sizes))) read_so

  remembered_so : remembered_by structs earlier remember unit (runs_told t.rules) ≡ remembered a
  remembered_so = ap (remembered_by structs earlier remember unit) runs_so

  -- the C of an entry, where numbers of nodes have these words, and the first counter has a copy if the test is true
  abbrev entry_with : (ℕ → Text) → Bool → ℕ → CStmt
  entry_with word copied = entry_at (record (view_told t) { word = word; is_read = λ k. copied })

  entry_so : entry_told (view_told t) t.rules ≡ entry_code (activity_view a) (plain_body unit.body)
  entry_so =
      first_is (view_told t) t.rules
      ∙ (ap (map (entry_at (view_told t))) (sym (law.begins unit.body (joined one.blocks) one.slots))
      ∙ (ap (λ (word : ℕ → Text). map (entry_with word (read_told t.rules 0)) (map number (entries (plain_body unit.body)))) word_so
      ∙ (ap (λ (copied : Bool). map (entry_with (activity_view a).word copied) (map number (entries (plain_body unit.body)))) (read_at 0)
      ∙ sym (entries_are (activity_view a) (plain_body unit.body)))))

  views : Alike (view_told t) (activity_view a)
  views = record {
    site = refl;
    copies = refl;
    word = word_at;
    run = λ at. ap (λ (run : Place → ℕ). run at) (sym run_so);
    sizes = refl;
    is_read = read_at;
    remembers = λ k. refl;
  }

  turns_so : map (numbered_turn (view_told t)) t.rules ≡ map (numbered_turn (activity_view a)) t.rules
  turns_so = ap (λ (turn : NumberedTransition → NodeCode). map turn t.rules) (λ i rule. alike (view_told t) (activity_view a) views rule i)

  code_so : code_told t ≡ (activity_function a).body
  code_so =
      ap₂ (λ (counters : List ℕ) (start : List CStmt). map rested_code counters
      ++ (start
      ++ (map (c_copied (activity_view a).site) (copied_told unit) ++ blocks_code (view_told t).word (map (numbered_turn (view_told t)) t.rules) t.blocks)))
      counters_so entry_so
      ∙ ap₂ (λ (word : ℕ → Text) (turns : List NodeCode). map rested_code (filter (is_read_by rules) (up_to (length t.sizes)))
      ++ (entry_code (activity_view a) (plain_body unit.body) ++ (map (c_copied (activity_view a).site) (copied_told unit) ++ blocks_code word turns t.blocks)))
      word_so (turns_so ∙ sym (bodies (activity_view a) unit.body (joined one.blocks) one.slots refl))

  locals_so : locals_told t ≡ (activity_function a).locals
  locals_so =
      ap₂ (λ (counters : List ℕ) (flags : List CLocal). map (rested_local t.sizes) counters
      ++ (flags
      ++ (marks_told (view_told t).word t.rules ++ (map (copy_told unit) (copied_told unit)
      ++ (ended_local (some_ends earlier (runs_told t.rules)) ++ joined (map (run_locals_told earlier) (runs_told t.rules)))))))
      counters_so flags_so
      ∙ ap₂ (λ (marks : List CLocal) (runs : List RunAt). map (rested_local t.sizes) (filter (is_read_by rules) (up_to (length t.sizes)))
      ++ (joined (map (flag_local (activity_view a)) (first_rules a))
      ++ (marks ++ (map (copy_told unit) (copied_told unit) ++ (ended_local (some_ends earlier runs) ++ joined (map (run_locals_told earlier) runs))))))
      marks_so runs_so

  remembers_so : remembers_told t ≡ nat_lt 0 (length (remembered a))
  remembers_so = ap (λ (members : List CMember). nat_lt 0 (length members)) remembered_so

  params_so : params_told structs unit (nat_lt 0 (length (remembered a))) ≡ (activity_function a).params
  params_so =
      ap (λ (memory : List CParam). pointer_param (codes "f") (frame_name unit.name)
      ∷ (memory ++ (params_from structs unit.vars 0 (parameters_of unit) ++ (result_params unit.result ++ over_params (unit_may_end unit)))))
      (sym (memory_is a (nat_lt 0 (length (remembered a)))))

  function_so : function_told t ≡ activity_function a
  function_so =
      ap (λ (remembers : Bool). function_by structs unit remembers (locals_told t) (code_told t)) remembers_so
      ∙ (ap₂ (λ (locals : List CLocal) (code : List CStmt). function_by structs unit (nat_lt 0 (length (remembered a))) locals code)
      locals_so code_so
      ∙ ap (λ (params : List CParam). record (activity_function a) { params = params }) params_so)

  pub parts_so : parts_told t ≡ parts_of_activity a
  parts_so =
      ap₂ (λ (runs : List RunAt) (f : CFunc). made (frame_by earlier unit.name t.sizes runs) (remembered_by structs earlier remember unit runs) f)
      runs_so function_so
    where
      made : CStruct → List CMember → CFunc → ProgramParts
      made frame members f =
          record { structs = frame ∷ struct_of unit.name members; funcs = f ∷ []; remember = nat_lt 0 (length members) ∷ [] }

pub activities_are_told : RulesAreListed → BodiesAreNumbered → BlocksAlike → ActivitiesAreComputed
activities_are_told law bodies alike = λ structs earlier remember unit one. parts_so law bodies alike structs earlier remember unit one
