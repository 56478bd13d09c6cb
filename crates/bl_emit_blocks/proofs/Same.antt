-- Views that differ at most in the numbers of nodes give the same turns.
use Rattle.std.proofs.Common.{◌≡◌, ◌∙◌, ℕ, Bool, true, false, List, [], ◌∷◌, ◌++◌, Option, Some, None}
use Rattle.std.proofs.Common.{map, slice_get, refl, ap, if◌then◌else◌}
use Rattle.bl_tree.specs.declared.text.Text.{Text}
use Rattle.bl_tree.specs.declared.c.CArg.TheVariants.{Address}
use Rattle.bl_tree.specs.declared.c.CExpr.{CExpr}
use Rattle.bl_tree.specs.declared.c.CStmt.{CStmt}
use Rattle.bl_tree.specs.declared.place.Place.{Place}
use Rattle.bl_tree.specs.declared.tree.Path.{Path}
use Rattle.bl_tree.specs.declared.tree.Stmt.{Stmt, out-Stmt}
use Rattle.bl_tree.specs.declared.tree.StmtKind.{out-StmtKind}
use Rattle.bl_tree.specs.declared.tree.StmtKind.TheOpen.{StmtKind-F}
use Rattle.bl_tree.specs.Typing.{TypingContext}
use Rattle.bl_graph_nodes.specs.Nodes.{Arguments, Node}
use Rattle.bl_machine.specs.declared.slots.Slot.{Slot}
use Rattle.bl_emit_acts.specs.Acts.{c_calling, c_clear, c_set, call_args, code_made, name_of_callee}
use Rattle.bl_emit_acts.specs.Trees.{c_call, c_read}
use Rattle.bl_emit_functions.specs.Trees.{c_if, c_truth}
use Rattle.bl_machine_transitions.specs.declared.transition.Age.{Age}
use Rattle.bl_machine_transitions.specs.declared.transition.Age.TheVariants as age
use Rattle.bl_machine_transitions.specs.declared.transition.Condition.{Condition}
use Rattle.bl_machine_transitions.specs.declared.transition.Condition.TheVariants as condition
use Rattle.bl_machine_transitions.specs.declared.transition.Change.{Change}
use Rattle.bl_machine_transitions.specs.declared.transition.Change.TheVariants as change
use Rattle.bl_machine_transitions.specs.Told.{Acts, Enters, Nothing, NumberedTransition, Resumes, Task, Tests}
use Rattle.bl_emit_spec.specs.Blocks.{ActivityView, NodeCode, Sizes, acted, all_tests, arg_where, at_slot, forgotten, has_result, may_end_in}
use Rattle.bl_emit_spec.specs.Blocks.{choice_code, layer_acted, name_in, rested_in, run_code, run_word}
use Rattle.bl_emit_spec.specs.Blocks.{some_test, spelled_truth, stmt_where, target_code, word_at}
use Rattle.bl_emit_spec.specs.Names.{NumberedWord, callee_frame, callee_memory, ended_place, frame_name, given_place}
use Rattle.bl_emit_blocks.specs.Laws.{BlocksAlike}
use Rattle.bl_emit_blocks.specs.Numbered.{numbered_aged, numbered_begun, numbered_change, numbered_changes, numbered_control, numbered_ends, numbered_flag}
use Rattle.bl_emit_blocks.specs.Numbered.{numbered_guard, numbered_own, numbered_part, numbered_resumed, numbered_tested, numbered_turn}

module _ (site : TypingContext) (copies : List Bool) (word : ℕ → Text) (sizes : Sizes) (number other : Node → ℕ) (run same : Place → ℕ)
    (read seen held kept : ℕ → Bool) (runs : (at : Place) → run at ≡ same at) (reads : (k : ℕ) → read k ≡ seen k) (keeps : (k : ℕ) → held k ≡ kept k) where
  abbrev v : ActivityView
  v = record { site = site; copies = copies; number = number; word = word; run = run; sizes = sizes; is_read = read; remembers = held }

  abbrev w : ActivityView
  w = record { site = site; copies = copies; number = other; word = word; run = same; sizes = sizes; is_read = seen; remembers = kept }

  -- ---- guards

  rested_same : (slots : List Slot) → rested_in v slots ≡ rested_in w slots
  rested_same [] = refl
  rested_same (slot ∷ []) = refl
  rested_same (slot ∷ more ∷ rest) = refl

  slots_same : (slots : List Slot) → map (at_slot v) slots ≡ map (at_slot w) slots
  slots_same [] = refl
  slots_same (slot ∷ rest) = ap (λ tests. at_slot w slot ∷ tests) (slots_same rest)

  ends_by : (all : Bool) (slots : List Slot) →
      (if all then all_tests (map (at_slot v) slots) else some_test (map (at_slot v) slots))
      ≡ (if all then all_tests (map (at_slot w) slots) else some_test (map (at_slot w) slots))
  ends_by all slots = ap (λ tests. if all then all_tests tests else some_test tests) (slots_same slots)

  aged_same : (age : Age) (ends : CExpr) → numbered_aged v age ends ≡ numbered_aged w age ends
  aged_same (age.New k) ends = refl
  aged_same (age.Old k) ends = refl
  aged_same age.Any ends = refl

  guard_same : (k : ℕ) (condition : Condition) → numbered_guard v k condition ≡ numbered_guard w k condition
  guard_same k condition.Flagged = refl
  guard_same k (condition.Rested slot) = refl
  guard_same k (condition.RestedIn slots) = rested_same slots
  guard_same k (condition.Ended age needed) =
      ap (numbered_aged v age) (ends_by needed.all needed.slots) ∙ aged_same age (numbered_ends w needed)

  -- ---- changes

  forgotten_same : (k : ℕ) (read : Bool) → forgotten v k read ≡ forgotten w k read
  forgotten_same k true = refl
  forgotten_same k false = refl

  change_same : (change : Change) → numbered_change v change ≡ numbered_change w change
  change_same (change.SetFlag k) = refl
  change_same (change.SetCounter slot) = refl
  change_same (change.ClearCounter k) = refl
  change_same (change.ClearBoth k) = forgotten_same k (read k) ∙ ap (forgotten w k) (reads k)
  change_same (change.SetMark k) = refl
  change_same (change.EndWhen start surface depth) = refl
  change_same change.Finish = refl

  changes_same : (changes : List Change) → numbered_changes v changes ≡ numbered_changes w changes
  changes_same [] = refl
  changes_same (change ∷ rest) =
      ap (λ code. code ++ numbered_changes v rest) (change_same change) ∙ ap (λ code. numbered_change w change ++ code) (changes_same rest)

  -- ---- runs

  run_same : (k : NumberedWord) (a : ℕ) (arguments : Arguments) → run_code v k a arguments ≡ run_code w k a arguments
  run_same k a arguments =
      ap (λ (remembers : Bool).
      stmt_where (may_end_in (slice_get site.earlier a)) (c_set ended_place (c_truth false))
      ++ c_calling (c_call (name_of_callee (slice_get site.earlier a))
      (Address (callee_frame k)
      ∷ (arg_where remembers (Address (callee_memory k))
      ++ (call_args site arguments.inputs arguments.outputs
      ++ (arg_where (has_result (slice_get site.earlier a)) (Address (given_place k))
      ++ arg_where (may_end_in (slice_get site.earlier a)) (Address ended_place)))))) ∷ [])
      (keeps a)

  target_same : (k : NumberedWord) (target : Option Path) → target_code v k target ≡ target_code w k target
  target_same k (Some path) = refl
  target_same k None = refl

  begun_same : (k : NumberedWord) (a : ℕ) (on_true : List Change) → numbered_begun v k a on_true ≡ numbered_begun w k a on_true
  begun_same k a on_true =
      ap (λ code. c_clear (callee_frame k) (frame_name (name_in (slice_get site.earlier a))) ∷ code) (changes_same on_true)

  -- what is done where the activity has ended
  abbrev asked : ℕ → List CStmt → List CStmt
  asked a code = stmt_where (may_end_in (slice_get site.earlier a)) (c_if (c_read ended_place) code None)

  resumed_same : (k : NumberedWord) (a : ℕ) (arguments : Arguments) (on_true : List Change) →
      numbered_resumed v k a arguments on_true ≡ numbered_resumed w k a arguments on_true
  resumed_same k a arguments on_true =
      ap (λ code. code ++ asked a (target_code v k arguments.target ++ numbered_changes v on_true)) (run_same k a arguments)
      ∙ (ap (λ code. run_code w k a arguments ++ asked a (code ++ numbered_changes v on_true)) (target_same k arguments.target)
      ∙ ap (λ code. run_code w k a arguments ++ asked a (target_code w k arguments.target ++ code)) (changes_same on_true))

  -- ---- blocks

  acted_by : {A B C D : Type 0} (s : Stmt) (kind : StmtKind-F A B C D) → layer_acted v s kind ≡ layer_acted w s kind
  acted_by s (StmtKind-F.Declare k initial) = refl
  acted_by s (StmtKind-F.Assign path e) = refl
  acted_by s (StmtKind-F.Call f inputs outputs) = refl
  acted_by s (StmtKind-F.Await e) = refl
  acted_by s (StmtKind-F.Run target a inputs outputs) = refl
  acted_by s (StmtKind-F.If arms other) = refl
  acted_by s (StmtKind-F.Cobegin branches) = refl
  acted_by s (StmtKind-F.When guard e body) = refl
  acted_by s (StmtKind-F.Repeat body) = refl
  acted_by s (StmtKind-F.Until body e) = refl
  acted_by s (StmtKind-F.While e body) = refl
  acted_by s (StmtKind-F.Return (Some e)) = refl
  acted_by s (StmtKind-F.Return None) = refl

  acted_same : (s : Stmt) → acted v s ≡ acted w s
  acted_same s = acted_by s (out-StmtKind (out-Stmt s).what)

  tested_same : (test : CExpr) (rule : NumberedTransition) → numbered_tested v test rule ≡ numbered_tested w test rule
  tested_same test rule =
      ap (λ on_true. choice_code test (spelled_truth test) on_true (numbered_changes v rule.on_false)) (changes_same rule.on_true)
      ∙ ap (λ other. choice_code test (spelled_truth test) (numbered_changes w rule.on_true) other) (changes_same rule.on_false)

  own_same : (rule : NumberedTransition) (task : Task) → numbered_own v rule task ≡ numbered_own w rule task
  own_same rule (Nothing kind) = refl
  own_same rule (Acts s) = acted_same s
  own_same rule (Tests e) = refl
  own_same rule (Enters at a arguments) =
      begun_same (word_at v at a) a rule.on_true ∙ ap (λ n. numbered_begun w (run_word site.earlier n a) a rule.on_true) (runs at)
  own_same rule (Resumes at a arguments) = refl

  control_same : (rule : NumberedTransition) (task : Task) → numbered_control v rule task ≡ numbered_control w rule task
  control_same rule (Nothing kind) = changes_same rule.on_true
  control_same rule (Acts s) = changes_same rule.on_true
  control_same rule (Tests e) = tested_same (code_made site e) rule
  control_same rule (Enters at a arguments) =
      run_same (word_at v at a) a arguments ∙ ap (λ n. run_code w (run_word site.earlier n a) a arguments) (runs at)
  control_same rule (Resumes at a arguments) =
      resumed_same (word_at v at a) a arguments rule.on_true ∙ ap (λ n. numbered_resumed w (run_word site.earlier n a) a arguments rule.on_true) (runs at)

  abbrev turn : NumberedTransition → CExpr → List CStmt → List CStmt → NodeCode
  turn rule test own control = record {
    test = test;
    own = own;
    control = control;
    flag = numbered_flag rule.number rule.condition;
    run = numbered_part rule.task;
  }

  pub turn_same : (rule : NumberedTransition) → numbered_turn v rule ≡ numbered_turn w rule
  turn_same rule =
      ap (λ (test : CExpr). turn rule test (numbered_own v rule rule.task) (numbered_control v rule rule.task)) (guard_same rule.number rule.condition)
      ∙ (ap (λ (own : List CStmt). turn rule (numbered_guard w rule.number rule.condition) own (numbered_control v rule rule.task))
      (own_same rule rule.task)
      ∙ ap (λ (control : List CStmt). turn rule (numbered_guard w rule.number rule.condition) (numbered_own w rule rule.task) control)
      (control_same rule rule.task))

-- the same of any two such views
pub blocks_alike : BlocksAlike
blocks_alike v w alike rule =
    turn_same v.site v.copies v.word v.sizes v.number w.number v.run w.run v.is_read w.is_read v.remembers w.remembers alike.run alike.is_read
    alike.remembers rule
    ∙ (ap (λ (site : TypingContext). numbered_turn (viewed site v.copies v.word v.sizes) rule) alike.site
    ∙ (ap (λ (copies : List Bool). numbered_turn (viewed w.site copies v.word v.sizes) rule) alike.copies
    ∙ (ap (λ (word : ℕ → Text). numbered_turn (viewed w.site w.copies word v.sizes) rule) (λ i k. alike.word k i)
    ∙ ap (λ (sizes : Sizes). numbered_turn (viewed w.site w.copies w.word sizes) rule) alike.sizes))) where
      viewed : TypingContext → List Bool → (ℕ → Text) → Sizes → ActivityView
      viewed site copies word sizes = record {
        site = site;
        copies = copies;
        number = w.number;
        word = word;
        run = w.run;
        sizes = sizes;
        is_read = w.is_read;
        remembers = w.remembers;
      }
