-- The C of changes does to the registers in memory what the changes do to registers.
use Rattle.std.proofs.Common.{◌≡◌, ℕ, pos, Bool, true, false, ◌&&◌, List, [], ◌∷◌, ◌++◌, Some, refl, sym, ap, ◌∙◌, subst}
use Rattle.std.proofs.lemmas.Bool.{eq-eqb, eqb-true}
use Rattle.std.specs.Prelude.{nat_eq, option_map, if◌then◌else◌}
use Rattle.std.specs.List.{list_all}
use Rattle.std.proofs.lemmas.Bool.{and_parts}
use Rattle.bl_tree.specs.Numbers.{is_one, number_of}
use Rattle.bl_tree.specs.declared.c.CExpr.{CExpr}
use Rattle.bl_tree.specs.declared.c.CStmt.{CStmt}
use Rattle.bl_graph_nodes.specs.Nodes.{Node}
use Rattle.bl_ctext_semantics.specs.Course.{End, goes_on}
use Rattle.bl_ctext_semantics.specs.Memory.{CValue, Memory, scalar, scalar_number}
use Rattle.bl_ctext_semantics.specs.Meaning.{Counted, Scope, block_c, runs_c, value_c}
use Rattle.bl_emit_acts.specs.Acts.{c_set}
use Rattle.bl_emit_acts.specs.Trees.{c_read}
use Rattle.bl_emit_functions.specs.Trees.{c_if, c_truth}
use Rattle.bl_emit_spec_laws.proofs.OnRegisters.Evaluated.{literal-value}
use Rattle.bl_emit_spec_laws.proofs.OnRegisters.Statements.{Chosen, alone_alike, if_comes, truth_c}
use Rattle.bl_machine_pass.specs.Registers.{Registers, all_changed, changed, finished, with_at, with_counter, with_flag, with_mark, with_none}
use Rattle.bl_machine_pass.specs.Transitions.{Change}
use Rattle.bl_machine_pass.specs.Transitions.{ClearsBoth, ClearsCounter, EndsWhen, Finishes, SetsCounter, SetsFlag, SetsMark}
use Rattle.bl_emit_spec.specs.Blocks.{ActivityView, change_code, changes_code, counter_value, flagged_now, forgotten, freed, node_word}
use Rattle.bl_emit_spec.specs.Names.{counter_place, flag_place, mark_place, over_place, rested_name, rested_place}
use Rattle.bl_emit_spec_laws.specs.Registers.Laws.{CopiesAgree, WordsAgree, changes_its_own}
use Rattle.bl_emit_spec_laws.specs.Registers.Registers.{Before, Counter, Flag, Mark, Over, Register, Registered, RegistersApart, RegistersEncoded, RegistersEncodedAfter}
use Rattle.bl_emit_spec_laws.specs.Registers.Registers.{has_register, held_in, register_at, same_register}
use Rattle.bl_emit_spec_laws.proofs.OnRegisters.Setting.{GoesTo, SetIn, counter_answer, flag_answer, local_answer, mark_answer, over_answer, read_answer}
use Rattle.bl_emit_spec_laws.proofs.OnRegisters.Setting.{set_comes, then_goes}

-- ---- functions with another value at one number

with_own : {X : Type 0} (k : ℕ) (x : X) (f : ℕ → X) → with_at k x f k ≡ x
with_own k x f = ap (λ b. if b then x else f k) (eq-eqb k k refl)

pub with_other : {X : Type 0} (k : ℕ) (x : X) (f : ℕ → X) (j : ℕ) → nat_eq j k ≡ false → with_at k x f j ≡ f j
with_other k x f j h = ap (λ b. if b then x else f j) h

module _ (has : Registered) where
  flag_in : (k : ℕ) (r : Registers) → SetIn has r (with_flag k r) (Flag k) (pos 1)
  flag_in k r = (ap number_of (with_own k true r.flags), others)
    where
      others : (y : Register) → has_register has y ≡ true → same_register y (Flag k) ≡ false → held_in (with_flag k r) y ≡ held_in r y
      others (Flag j) its h = ap number_of (with_other k true r.flags j h)
      others (Counter j) its h = refl
      others (Before j) its h = refl
      others (Mark j) its h = refl
      others Over its h = refl

  mark_in : (k : ℕ) (r : Registers) → SetIn has r (with_mark k r) (Mark k) (pos 1)
  mark_in k r = (ap number_of (with_own k true r.marks), others)
    where
      others : (y : Register) → has_register has y ≡ true → same_register y (Mark k) ≡ false → held_in (with_mark k r) y ≡ held_in r y
      others (Mark j) its h = ap number_of (with_other k true r.marks j h)
      others (Counter j) its h = refl
      others (Before j) its h = refl
      others (Flag j) its h = refl
      others Over its h = refl

  over_in : (r : Registers) → SetIn has r (finished r) Over (pos 1)
  over_in r = (refl, others)
    where
      others : (y : Register) → has_register has y ≡ true → same_register y Over ≡ false → held_in (finished r) y ≡ held_in r y
      others (Mark j) its h = refl
      others (Counter j) its h = refl
      others (Before j) its h = refl
      others (Flag j) its h = refl
      others Over its h = absurd (cc)

  counter_in : (k v : ℕ) (r : Registers) → SetIn has r (with_counter k v r) (Counter k) (pos v)
  counter_in k v r = (ap pos (with_own k v r.counters), others)
    where
      others : (y : Register) → has_register has y ≡ true → same_register y (Counter k) ≡ false → held_in (with_counter k v r) y ≡ held_in r y
      others (Counter j) its h = ap pos (with_other k v r.counters j h)
      others (Before j) its h = refl
      others (Flag j) its h = refl
      others (Mark j) its h = refl
      others Over its h = refl

  -- the copy of a counter that is 0 becomes 0 too
  copy_in : (k : ℕ) (r : Registers) → SetIn has (with_counter k 0 r) (with_none k r) (Before k) (pos 0)
  copy_in k r = (ap pos (with_own k 0 r.rested), others)
    where
      others : (y : Register) → has_register has y ≡ true → same_register y (Before k) ≡ false →
          held_in (with_none k r) y ≡ held_in (with_counter k 0 r) y
      others (Before j) its h = ap pos (with_other k 0 r.rested j h)
      others (Counter j) its h = refl
      others (Flag j) its h = refl
      others (Mark j) its h = refl
      others Over its h = refl

  -- a counter that has no copy
  alone_in : (k : ℕ) (r : Registers) → has.copied k ≡ false → SetIn has r (with_none k r) (Counter k) (pos 0)
  alone_in k r none = (ap pos (with_own k 0 r.counters), others)
    where
      differs : (j : ℕ) (same : Bool) → nat_eq j k ≡ same → has.copied j ≡ true → same ≡ false
      differs j false is its = refl
      differs j true is its = absurd (let no = sym its ∙ (ap has.copied (eqb-true j k is) ∙ none) in cc)

      others : (y : Register) → has_register has y ≡ true → same_register y (Counter k) ≡ false → held_in (with_none k r) y ≡ held_in r y
      others (Counter j) its h = ap pos (with_other k 0 r.counters j h)
      others (Before j) its h = ap pos (with_other k 0 r.rested j (differs j (nat_eq j k) refl its))
      others (Flag j) its h = refl
      others (Mark j) its h = refl
      others Over its h = refl

-- ---- one change

truth_answer : (scope : Scope) (m : Memory) → (value_c (c_truth true) scope m).answer ≡ Some (scalar (pos 1))
truth_answer scope m = ap (λ (c : Counted CValue). c.answer) (literal-value scope m _ (pos 1))

module _ (view : ActivityView) (has : Registered) (scope : Scope) (agree : CopiesAgree view has) (words : WordsAgree view has)
    (apart : RegistersApart has scope) where
  abbrev Leaves : Registers → Memory → List CStmt → Type 0
  Leaves r m code = GoesTo (RegistersEncodedAfter has scope r m) (block_c code scope m)

  value_answer : (m : Memory) (k v : ℕ) → (value_c (counter_value view.sizes k v) scope m).answer ≡ Some (scalar (pos v))
  value_answer m k v = ap (λ (c : Counted CValue). c.answer) (literal-value scope m _ (pos v))

  -- statements, and others after them
  both_leave : (a b : List CStmt) (m : Memory) (r after : Registers) → Leaves r m a →
      ((k : Memory) → RegistersEncoded has scope r k → Leaves after k b) → Leaves after m (a ++ b)
  both_leave a b m r after first more =
      then_goes scope a b m (RegistersEncodedAfter has scope r m) (RegistersEncodedAfter has scope after m) first
      (λ k left. let rest = more k left.registers in (
        rest.0,
        record { registers = rest.1.registers; kept = λ root way outside. rest.1.kept root way outside ∙ left.kept root way outside },
      ))

  module _ (r : Registers) (m : Memory) (hold : RegistersEncoded has scope r m) where
    flag_comes : (n : Node) → has.flags (view.number n) ≡ true → Leaves (with_flag (view.number n) r) m (flagged_now view n ∷ [])
    flag_comes n its =
        set_comes has scope apart m r (with_flag (view.number n) r) (Flag (view.number n)) (pos 1) (flag_place (node_word view n)) (c_truth true)
        (flag_answer scope m has view.word (view.number n) (words (view.number n))) (truth_answer scope m) its hold (flag_in has (view.number n) r)

    counter_comes : (after : Registers) (k v : ℕ) → has.counters k ≡ true → SetIn has r after (Counter k) (pos v) →
        Leaves after m (c_set (counter_place k) (counter_value view.sizes k v) ∷ [])
    counter_comes after k v its set =
        set_comes has scope apart m r after (Counter k) (pos v) (counter_place k) (counter_value view.sizes k v) (counter_answer scope m k)
        (value_answer m k v) its hold set

    mark_comes : (n : Node) → has.marks (view.number n) ≡ true → Leaves (with_mark (view.number n) r) m
        (c_set (mark_place (node_word view n)) (c_truth true) ∷ [])
    mark_comes n its =
        set_comes has scope apart m r (with_mark (view.number n) r) (Mark (view.number n)) (pos 1) (mark_place (node_word view n)) (c_truth true)
        (mark_answer scope m has view.word (view.number n) (words (view.number n))) (truth_answer scope m) its hold (mark_in has (view.number n) r)

    over_comes : has.over ≡ true → Leaves (finished r) m (c_set over_place (c_truth true) ∷ [])
    over_comes its =
        set_comes has scope apart m r (finished r) Over (pos 1) over_place (c_truth true) (over_answer scope m) (truth_answer scope m) its hold
        (over_in has r)

  copy_comes : (r : Registers) (k : ℕ) (m : Memory) → RegistersEncoded has scope (with_counter k 0 r) m → has.copied k ≡ true →
      Leaves (with_none k r) m (c_set (rested_place k) (counter_value view.sizes k 0) ∷ [])
  copy_comes r k m hold its =
      set_comes has scope apart m (with_counter k 0 r) (with_none k r) (Before k) (pos 0) (rested_place k) (counter_value view.sizes k 0)
      (local_answer scope m (rested_name k)) (value_answer m k 0) its hold (copy_in has k r)

  forgets_come : (r : Registers) (m : Memory) → RegistersEncoded has scope r m → (k : ℕ)
      → has.counters k ≡ true → (copied : Bool) → has.copied k ≡ copied →
      Leaves (with_none k r) m (forgotten view k copied)
  forgets_come r m hold k its true is =
      both_leave (freed view k ∷ []) (c_set (rested_place k) (counter_value view.sizes k 0) ∷ []) m (with_counter k 0 r) (with_none k r)
      (counter_comes r m hold (with_counter k 0 r) k 0 its (counter_in has k 0 r)) (λ later held. copy_comes r k later held is)
  forgets_come r m hold k its false is = counter_comes r m hold (with_none k r) k 0 its (alone_in has k r is)

  -- ---- the ends of a `when`

  module _ (r : Registers) (m : Memory) (hold : RegistersEncoded has scope r m) (start surface depth : Node)
      (marks : has.marks (view.number start) ≡ true) (first : has.flags (view.number surface) ≡ true)
      (last : has.flags (view.number depth) ≡ true) where
    abbrev Left : Registers → End → Memory → Type 0
    Left after e k = (e ≡ goes_on) × RegistersEncodedAfter has scope after m k

    is_bit : (b : Bool) → is_one (number_of b) ≡ b
    is_bit true = refl
    is_bit false = refl

    mark_truth : truth_c scope (c_read (mark_place (node_word view start))) m ≡ Some (r.marks (view.number start))
    mark_truth =
        ap (option_map (λ v. is_one (scalar_number v)))
        (read_answer scope m (mark_place (node_word view start)) (register_at has scope (Mark (view.number start)))
        (mark_answer scope m has view.word (view.number start) (words (view.number start))))
        ∙ ap Some (ap is_one (hold.each (Mark (view.number start)) marks) ∙ is_bit (r.marks (view.number start)))

    ends_by : (begun : Bool) → r.marks (view.number start) ≡ begun →
        Chosen scope m (Left (if begun then with_flag (view.number surface) r else with_flag (view.number depth) r)) (flagged_now view surface ∷ [])
        (Some (flagged_now view depth ∷ [])) (Some begun)
    ends_by true is = flag_comes r m hold surface first
    ends_by false is = flag_comes r m hold depth last

    abbrev test : CExpr
    test = c_read (mark_place (node_word view start))

    ends_come : Leaves (changed view.number (EndsWhen start surface depth) r) m (change_code view (EndsWhen start surface depth))
    ends_come =
        let after = changed view.number (EndsWhen start surface depth) r in
        let code : CStmt = c_if test (flagged_now view surface ∷ []) (Some (flagged_now view depth ∷ [])) in
        let done : Left after (runs_c code scope m).end (runs_c code scope m).memory =
        if_comes scope m (Left after) test (flagged_now view surface ∷ []) (Some (flagged_now view depth ∷ []))
        (subst (Chosen scope m (Left after) (flagged_now view surface ∷ []) (Some (flagged_now view depth ∷ []))) (sym mark_truth)
        (ends_by (r.marks (view.number start)) refl)) in
        let alike = alone_alike scope code m in
        (alike.0 ∙ done.0, subst (RegistersEncodedAfter has scope after m) (sym alike.1) done.1)

  -- ---- changes

  one_comes : (change : Change) (r : Registers) (m : Memory) → RegistersEncoded has scope r m → changes_its_own view.number has change ≡ true →
      Leaves (changed view.number change r) m (change_code view change)
  one_comes (SetsFlag n) r m hold its = flag_comes r m hold n its
  one_comes (SetsCounter slot) r m hold its =
      counter_comes r m hold (with_counter slot.counter slot.value r) slot.counter slot.value its (counter_in has slot.counter slot.value r)
  one_comes (ClearsCounter k) r m hold its = counter_comes r m hold (with_counter k 0 r) k 0 its (counter_in has k 0 r)
  one_comes (ClearsBoth k) r m hold its =
      subst (λ (copied : Bool). Leaves (with_none k r) m (forgotten view k copied)) (sym (agree k))
      (forgets_come r m hold k its (has.copied k) refl)
  one_comes (SetsMark n) r m hold its = mark_comes r m hold n its
  one_comes (EndsWhen start surface depth) r m hold its =
      let found = and_parts (has.marks (view.number start)) (has.flags (view.number surface) && has.flags (view.number depth)) its in
      let flags = and_parts (has.flags (view.number surface)) (has.flags (view.number depth)) found.1 in
      ends_come r m hold start surface depth found.0 flags.0 flags.1
  one_comes Finishes r m hold its = over_comes r m hold its

  pub compiled_simulate : (changes : List Change) (r : Registers) (m : Memory) → RegistersEncoded has scope r m →
      list_all (changes_its_own view.number has) changes ≡ true → Leaves (all_changed view.number changes r) m (changes_code view changes)
  compiled_simulate [] r m hold its = (refl, record { registers = hold; kept = λ root way outside. refl })
  compiled_simulate (change ∷ rest) r m hold its =
      let found = and_parts (changes_its_own view.number has change) (list_all (changes_its_own view.number has) rest) its in
      both_leave (change_code view change) (changes_code view rest) m (changed view.number change r)
      (all_changed view.number (change ∷ rest) r) (one_comes change r m hold found.0)
      (λ k held. compiled_simulate rest (changed view.number change r) k held found.1)
