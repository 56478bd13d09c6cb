-- The places of registers keep apart from one another, from variables and from copies.
use Rattle.std.proofs.Common.{◌≡◌, ℕ, ◌<◌, ◌^◌, arith, Bool, true, false, not, ◌&&◌, ◌||◌, List, [], ◌∷◌, ◌++◌}
use Rattle.std.proofs.Common.{drop, Some, refl, sym, ap, ◌∙◌}
use Rattle.std.proofs.lemmas.Bool.{eq-eqb}
use Rattle.std.proofs.lemmas.Fmt.{decimal_injective}
use Rattle.std.proofs.lemmas.Slice.Eq.{bytes_eq-Decides}
use Rattle.std.specs.Prelude.{bytes_eq, codes, nat_eq, ◌==◌}
use Rattle.std.specs.Fmt.{decimal}
use Rattle.std.proofs.lemmas.Bool.{or_right}
use Rattle.bl_tree.proofs.Basics.{at_most_self_test, true_not_false}
use Rattle.bl_tree.specs.declared.text.Text.{Text}
use Rattle.bl_tree.specs.declared.tree.Var.{Var}
use Rattle.bl_tree.specs.Typing.{TypingContext, is_activity, var_at}
use Rattle.bl_ctext_semantics.specs.Meaning.{Scope, further, named_location}
use Rattle.bl_ctext_semantics.specs.Memory.{Location, Projection, member, same_root, variable}
use Rattle.bl_emit_acts.specs.declared.home.Home.{Home}
use Rattle.bl_emit_acts.specs.declared.home.Home.TheVariants.{Held, Local, Lent}
use Rattle.bl_emit_acts.specs.Types.{copy_name, variable_name}
use Rattle.bl_emit_acts_laws_simulation.specs.Acts.{copy_location}
use Rattle.bl_emit_acts_laws_simulation.specs.Frames.{is_older, lent_at, remembered_at}
use Rattle.bl_emit_acts_laws_simulation.specs.Encodes.{are_apart, home_at, is_live, lead_in, start_in, ways_part}
use Rattle.bl_emit_acts_laws_simulation.proofs.NumberedNames.{words_differ}
use Rattle.bl_emit_spec.specs.Names.{counter_name, flag_name, mark_name, numbered_word, rested_name, with_word}
use Rattle.bl_emit_spec_laws.specs.Registers.Registers.{ApartFromPointers, FewRegisters, FramePointersAreValid, PointersOlder, Registered, RegistersApart}
use Rattle.bl_emit_spec_laws.specs.Registers.Registers.{RegistersBeside}
use Rattle.bl_emit_spec_laws.specs.Registers.Registers.{Before, Counter, Flag, Mark, Over, Register, frame_at, has_register, over_at, register_at}
use Rattle.bl_emit_spec_laws.specs.Registers.Registers.{same_register}
use Rattle.bl_emit_spec_laws.proofs.OnRegisters.Cells.{behind_front}
use Rattle.bl_emit_acts_laws_simulation.proofs.Frames.{further_apart, older_differs, older_live, own_differ, roots_differ}
use Rattle.bl_emit_acts_laws_simulation.proofs.Cells.{apart_flip}

-- ---- names and roots

-- names of one letter with different numbers differ
names_differ : (letter : ℕ) (j k : ℕ) → j < 2 ^ 64 → k < 2 ^ 64 → nat_eq j k ≡ false
    → bytes_eq (letter ∷ decimal j) (letter ∷ decimal k) ≡ false
names_differ letter j k less most differ = by (bytes_eq (letter ∷ decimal j) (letter ∷ decimal k)) refl
  where
    by : (same : Bool) → bytes_eq (letter ∷ decimal j) (letter ∷ decimal k) ≡ same → same ≡ false
    by false is = refl
    by true is =
        let text : letter ∷ decimal j ≡ letter ∷ decimal k = (bytes_eq-Decides (letter ∷ decimal j) (letter ∷ decimal k)).0 is in
        absurd (true_not_false (sym (eq-eqb j k (decimal_injective j k less most (ap (drop 1) text))) ∙ differ))

-- so do names with words
worded_differ : (letter : ℕ) (words : ℕ → Text) (j k : ℕ) → j < 2 ^ 64 → k < 2 ^ 64 → nat_eq j k ≡ false →
    bytes_eq (letter ∷ numbered_word (with_word words j)) (letter ∷ numbered_word (with_word words k)) ≡ false
worded_differ letter words j k less most differ =
    words_differ letter j k (words j) (words k) less most (λ same. true_not_false (sym (eq-eqb j k same) ∙ differ))

-- ---- where registers stand

module _ (scope : Scope) (has : Registered) (frame : FramePointersAreValid has.over scope) where
  abbrev local_at : Text → Location
  local_at name = named_location scope false name

  local_older : (name : Text) (place : Location) → is_older scope.depth place.root ≡ true → are_apart (local_at name) place ≡ true
  local_older name place older = roots_differ (local_at name) place (older_differs scope.depth name place.root older)

  local_local : (m n : Text) → bytes_eq m n ≡ false → are_apart (local_at m) (local_at n) ≡ true
  local_local m n differ = roots_differ (local_at m) (local_at n) (own_differ scope.depth m n differ)

  older_local : (place : Location) (name : Text) → is_older scope.depth place.root ≡ true → are_apart place (local_at name) ≡ true
  older_local place name older = apart_flip (local_at name) place (local_older name place older)

  -- the names of the flag and the mark of a number
  abbrev flag : ℕ → Text
  flag k = flag_name (with_word has.words k)

  abbrev mark : ℕ → Text
  mark k = mark_name (with_word has.words k)

  module _ (few : FewRegisters has) where
    abbrev Differ : Register → Register → Type 0
    Differ x y = are_apart (register_at has scope x) (register_at has scope y) ≡ true

    counters_differ : (j k : ℕ) → has.counters j ≡ true → has.counters k ≡ true → nat_eq j k ≡ false → Differ (Counter j) (Counter k)
    counters_differ j k its other differ =
        let start = frame_at scope in
        or_right (not (same_root start.root start.root))
        (ways_part (start.parts ++ member (counter_name j) ∷ []) (start.parts ++ member (counter_name k) ∷ []))
        (behind_front start.parts (member (counter_name j) ∷ []) (member (counter_name k) ∷ [])
        ∙ ap (λ b. not b || false) (names_differ 99 j k (few.counters j its) (few.counters k other) differ))

    counter_local : (k : ℕ) (name : Text) → are_apart (register_at has scope (Counter k)) (local_at name) ≡ true
    counter_local k name = older_local (register_at has scope (Counter k)) name frame.frame_older

    local_counter : (name : Text) (k : ℕ) → are_apart (local_at name) (register_at has scope (Counter k)) ≡ true
    local_counter name k = local_older name (register_at has scope (Counter k)) frame.frame_older

    over_local : (name : Text) → has.over ≡ true → are_apart (register_at has scope Over) (local_at name) ≡ true
    over_local name ends = older_local (register_at has scope Over) name (frame.over_older ends)

    local_over : (name : Text) → has.over ≡ true → are_apart (local_at name) (register_at has scope Over) ≡ true
    local_over name ends = local_older name (register_at has scope Over) (frame.over_older ends)

    counter_over : (k : ℕ) → has.over ≡ true → Differ (Counter k) Over
    counter_over k ends = further_apart (frame_at scope) (over_at scope) (member (counter_name k) ∷ []) [] (frame.apart ends)

    registers_differ : (x y : Register) → has_register has x ≡ true → has_register has y ≡ true → same_register x y ≡ false → Differ x y
    registers_differ (Counter j) (Counter k) its other differ = counters_differ j k its other differ
    registers_differ (Counter j) (Before k) its other differ = counter_local j (rested_name k)
    registers_differ (Counter j) (Flag k) its other differ = counter_local j (flag k)
    registers_differ (Counter j) (Mark k) its other differ = counter_local j (mark k)
    registers_differ (Counter j) Over its other differ = counter_over j other
    registers_differ (Before j) (Counter k) its other differ = local_counter (rested_name j) k
    registers_differ (Before j) (Before k) its other differ =
        local_local (rested_name j) (rested_name k) (names_differ 119 j k (few.copied j its) (few.copied k other) differ)
    registers_differ (Before j) (Flag k) its other differ = local_local (rested_name j) (flag k) refl
    registers_differ (Before j) (Mark k) its other differ = local_local (rested_name j) (mark k) refl
    registers_differ (Before j) Over its other differ = local_over (rested_name j) other
    registers_differ (Flag j) (Counter k) its other differ = local_counter (flag j) k
    registers_differ (Flag j) (Before k) its other differ = local_local (flag j) (rested_name k) refl
    registers_differ (Flag j) (Flag k) its other differ =
        local_local (flag j) (flag k) (worded_differ 103 has.words j k (few.flags j its) (few.flags k other) differ)
    registers_differ (Flag j) (Mark k) its other differ = local_local (flag j) (mark k) refl
    registers_differ (Flag j) Over its other differ = local_over (flag j) other
    registers_differ (Mark j) (Counter k) its other differ = local_counter (mark j) k
    registers_differ (Mark j) (Before k) its other differ = local_local (mark j) (rested_name k) refl
    registers_differ (Mark j) (Flag k) its other differ = local_local (mark j) (flag k) refl
    registers_differ (Mark j) (Mark k) its other differ =
        local_local (mark j) (mark k) (worded_differ 117 has.words j k (few.marks j its) (few.marks k other) differ)
    registers_differ (Mark j) Over its other differ = local_over (mark j) other
    registers_differ Over (Counter k) its other differ =
        apart_flip (register_at has scope (Counter k)) (register_at has scope Over) (counter_over k its)
    registers_differ Over (Before k) its other differ = over_local (rested_name k) its
    registers_differ Over (Flag k) its other differ = over_local (flag k) its
    registers_differ Over (Mark k) its other differ = over_local (mark k) its
    registers_differ Over Over its other differ = absurd (true_not_false differ)

    registers_live : (x : Register) → has_register has x ≡ true → is_live scope.depth (register_at has scope x).root ≡ true
    registers_live (Counter k) its = older_live scope.depth (frame_at scope).root frame.frame_older
    registers_live (Before k) its = at_most_self_test scope.depth
    registers_live (Flag k) its = at_most_self_test scope.depth
    registers_live (Mark k) its = at_most_self_test scope.depth
    registers_live Over its = older_live scope.depth (over_at scope).root (frame.over_older its)

  -- ---- beside variables

  module _ (site : TypingContext) (older : PointersOlder site scope) (from_frame : ApartFromPointers site scope (frame_at scope))
      (from_over : has.over ≡ true → ApartFromPointers site scope (over_at scope)) where
    -- where a variable of a home stands
    abbrev place_of : Bool → Home → ℕ → Location
    place_of activity home k = further (start_in scope activity home site.vars k) (lead_in home site.vars k ++ [])

    -- a local of another name keeps apart from a variable
    local_by : (name : Text) (k : ℕ) (var : Var) → var_at site k ≡ Some var → bytes_eq name (codes "m") ≡ false →
        bytes_eq name (variable_name site.vars k) ≡ false → (activity : Bool) (x : Home) → is_activity site.kind ≡ activity → home_at site k ≡ x →
        are_apart (local_at name) (place_of activity x k) ≡ true
    local_by name k var there no_m no_v false Held kind is =
        roots_differ (local_at name) (place_of false Held k) (own_differ scope.depth name (codes "m") no_m)
    local_by name k var there no_m no_v true Held kind is = local_older name (place_of true Held k) (older.remembered k var there is kind)
    local_by name k var there no_m no_v activity Local kind is =
        roots_differ (local_at name) (place_of activity Local k) (own_differ scope.depth name (variable_name site.vars k) no_v)
    local_by name k var there no_m no_v activity Lent kind is = local_older name (place_of activity Lent k) (older.lent k var there is)

    -- so does what lies behind a pointer that leads elsewhere
    behind_by : (place : Location) (more : List Projection) → is_older scope.depth place.root ≡ true → ApartFromPointers site scope place →
        (k : ℕ) (var : Var) → var_at site k ≡ Some var → (activity : Bool) (x : Home)
        → is_activity site.kind ≡ activity → home_at site k ≡ x →
        are_apart (further place more) (place_of activity x k) ≡ true
    behind_by place more old from k var there false Held kind is =
        apart_flip (place_of false Held k) (further place more)
        (roots_differ (place_of false Held k) (further place more) (older_differs scope.depth (codes "m") place.root old))
    behind_by place more old from k var there true Held kind is =
        further_apart place (remembered_at scope) more (lead_in Held site.vars k ++ []) (from.remembered k var there is kind)
    behind_by place more old from k var there activity Local kind is =
        apart_flip (place_of activity Local k) (further place more)
        (roots_differ (place_of activity Local k) (further place more) (older_differs scope.depth (variable_name site.vars k) place.root old))
    behind_by place more old from k var there activity Lent kind is =
        further_apart place (lent_at scope site.vars k) more (lead_in Lent site.vars k ++ []) (from.lent k var there is)

    variables_apart : (x : Register) (k : ℕ) (var : Var) → has_register has x ≡ true → var_at site k ≡ Some var →
        are_apart (register_at has scope x) (place_of (is_activity site.kind) (home_at site k) k) ≡ true
    variables_apart (Counter j) k var its there =
        behind_by (frame_at scope) (member (counter_name j) ∷ []) frame.frame_older from_frame k var there (is_activity site.kind) (home_at site k)
        refl refl
    variables_apart (Before j) k var its there = local_by (rested_name j) k var there refl refl (is_activity site.kind) (home_at site k) refl refl
    variables_apart (Flag j) k var its there = local_by (flag j) k var there refl refl (is_activity site.kind) (home_at site k) refl refl
    variables_apart (Mark j) k var its there = local_by (mark j) k var there refl refl (is_activity site.kind) (home_at site k) refl refl
    variables_apart Over k var its there =
        behind_by (over_at scope) [] (frame.over_older its) (from_over its) k var there (is_activity site.kind) (home_at site k) refl refl

  copies_apart : (vars : List Var) (x : Register) (k : ℕ) → has_register has x ≡ true →
      are_apart (register_at has scope x) (copy_location scope vars k) ≡ true
  copies_apart vars (Counter j) k its = older_local (register_at has scope (Counter j)) (copy_name vars k) frame.frame_older
  copies_apart vars (Before j) k its = local_local (rested_name j) (copy_name vars k) refl
  copies_apart vars (Flag j) k its = local_local (flag j) (copy_name vars k) refl
  copies_apart vars (Mark j) k its = local_local (mark j) (copy_name vars k) refl
  copies_apart vars Over k its = older_local (register_at has scope Over) (copy_name vars k) (frame.over_older its)

pub keep_apart : (site : TypingContext) (has : Registered) (scope : Scope) → FewRegisters has → FramePointersAreValid has.over scope →
    PointersOlder site scope →
    ApartFromPointers site scope (frame_at scope) → (has.over ≡ true → ApartFromPointers site scope (over_at scope)) →
    RegistersApart has scope × RegistersBeside has site scope
keep_apart site has scope few frame older from_frame from_over = (
  record { each = registers_differ scope has frame few; live = registers_live scope has frame few },
  record { variables = variables_apart scope has frame site older from_frame from_over; copies = copies_apart scope has frame site.vars },
)
