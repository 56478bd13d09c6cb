-- What the statements before the blocks leave in memory.
use Rattle.std.proofs.Common.{◌≡◌, ℕ, ℤ, pos, Bool, true, false}
use Rattle.std.proofs.Common.{◌&&◌, ◌||◌}
use Rattle.std.proofs.Common.{List, [], ◌∷◌, ◌++◌, map, Option, Some, None, refl, sym, ap, ◌∙◌, subst}
use Rattle.std.proofs.lemmas.Bool.{eqb-true}
use Rattle.std.proofs.lemmas.List.{append-nil}
use Rattle.std.specs.Prelude.{nat_eq, option_map, if◌then◌else◌}
use Rattle.std.specs.List.{list_all, list_any}
use Rattle.bl_tree.proofs.Basics.{and_first, and_second, and_true}
use Rattle.bl_tree.specs.declared.c.CExpr.{CExpr}
use Rattle.bl_tree.specs.declared.c.CPlace.{CPlace}
use Rattle.bl_tree.specs.declared.scalar.Op.TheVariants.{Eq}
use Rattle.bl_tree.specs.declared.value.Value.{Value}
use Rattle.bl_tree.specs.Numbers.{number_of}
use Rattle.bl_tree.specs.Typing.{TypingContext}
use Rattle.bl_graph_nodes.specs.Nodes.{Node, entry}
use Rattle.bl_graph_nodes.specs.Plain.{Block, Done, Plain, Then}
use Rattle.bl_ctext_semantics.specs.Meaning.{Scope, block_c, location_c, named_location, runs_c, value_c}
use Rattle.bl_ctext_semantics.specs.Memory.{CValue, Location, Memory, Projection, Root, left_after, number_or, scalar_number, set_at, value_at}
use Rattle.bl_ctext_semantics.specs.Memory.{with_part}
use Rattle.bl_emit_acts.specs.Acts.{c_set}
use Rattle.bl_emit_acts.specs.Trees.{c_read, c_two}
use Rattle.bl_emit_acts_laws_simulation.specs.Frames.{is_older}
use Rattle.bl_emit_acts_laws_simulation.specs.Encodes.{VariablesEncoded, location_in}
use Rattle.bl_emit_spec.specs.Activities.{entry_code, entry_place, rested_code}
use Rattle.bl_emit_spec.specs.Blocks.{ActivityView, Sizes, counter_value, node_word}
use Rattle.bl_emit_spec.specs.Names.{counter_place, flag_name, flag_place, rested_name, rested_place, with_word}
use Rattle.bl_emit_spec_laws.specs.Registers.Laws.{GuardsEvaluate, RegistersWithin, RestsWithin, WordsAgree}
use Rattle.bl_emit_spec_laws.specs.Registers.Registers.{Before, Counter, Flag, Mark, Over, Register, Registered, RegistersApart, RegistersBeside, RegistersEncoded}
use Rattle.bl_emit_spec_laws.specs.Registers.Registers.{has_register, held_in, register_at, same_register}
use Rattle.bl_machine_pass.specs.Registers.{Registers, with_at}
use Rattle.bl_machine_pass.specs.Transitions.{Condition, Ended, IsAny}
use Rattle.bl_machine_pass_laws.specs.Turns.Laws.{entry_flag}
use Rattle.bl_emit_spec_laws.proofs.OnRegisters.Guards.{eq_shows, literal_gives, rested_gives}
use Rattle.bl_emit_spec_laws.proofs.OnRegisters.Setting.{flag_answer, register_is, SetIn, GoesTo}
use Rattle.bl_emit_spec_laws.proofs.OnWithin.Changing.{with_within}
use Rattle.bl_emit_spec_laws_files.proofs.OnBegins.Cells.{apart_same, same_object}
use Rattle.bl_emit_spec_laws_files.proofs.OnBegins.Setting.{counter_answer, local_answer, read_answer, then_goes}
use Rattle.bl_emit_spec_laws_files.proofs.OnBegins.Statements.{alone_alike, set_after, set_ends}
use Rattle.bl_emit_acts_laws_simulation.proofs.Frames.{older_differs}
use Rattle.bl_emit_acts_laws_simulation.proofs.Cells.{apart_flip}
use Rattle.bl_emit_acts_laws_simulation.proofs.Parts.{holds_same}
use Rattle.bl_emit_acts_laws_simulation.proofs.Written.{left_behind}
use Rattle.bl_emit_acts_laws_simulation.proofs.Statements.{Ends}
use Rattle.bl_machine_pass_laws_turns.proofs.OnWaiting.Changes.{here_is}
use Rattle.bl_emit_spec_laws.proofs.OnRegisters.Changes.{with_other}
use Rattle.bl_emit_spec_laws_nodes.proofs.OnPoints.ReturnBlocks.{held_by}

-- the registers once these copies of counters were made
abbrev pub with_rested : List ℕ → Registers → Registers
with_rested [] r = r
with_rested (k ∷ ks) r = with_rested ks (record {
  counters = r.counters;
  rested = with_at k (r.counters k) r.rested;
  flags = r.flags;
  marks = r.marks;
  over = r.over;
})

-- and once the flag of the entry was set, where there is one
abbrev pub with_entry : ActivityView → Block → Registers → Registers
with_entry view Done r = r
with_entry view (Then s rest) r = record {
  counters = r.counters;
  rested = r.rested;
  flags = with_at (view.number (entry s)) (nat_eq (r.counters 0) 0) r.flags;
  marks = r.marks;
  over = r.over;
}

-- memory in the middle of the start: it holds registers and variables, and what was there before the function began is as it was
pub record Stands (has : Registered) (site : TypingContext) (scope : Scope) (now : List Value) (begun : Memory) (r : Registers) (m : Memory) : Type 0 where
  pub hold : RegistersEncoded has scope r m
  pub older : (root : Root) (way : List Projection) → is_older scope.depth root ≡ true → m root way ≡ begun root way
  pub vars : VariablesEncoded site now scope m

module _ (has : Registered) (site : TypingContext) (scope : Scope) (apart : RegistersApart has scope) (beside : RegistersBeside has site scope)
    (now : List Value) (begun : Memory) where
  abbrev Mid : Registers → Memory → Type 0
  Mid = Stands has site scope now begun

  own_number : (m : Memory) (x : Register) (held : CValue) → scalar_number (value_at (set_at m (register_at has scope x) held) (register_at has scope x))
      ≡ scalar_number held
  own_number m x held =
      let place = register_at has scope x in
      same_object m place held (place.parts ++ [])
      ∙ ap (λ left. number_or left held (m place.root (place.parts ++ [])))
      (ap (λ front. left_after front (place.parts ++ [])) (sym (append-nil place.parts)) ∙ left_behind place.parts [] [])

  -- a register that is a variable of the function is set
  set_stands : (m : Memory) (r after : Registers) (x : Register) (name : List ℕ) (held : CValue) → has_register has x ≡ true →
      register_at has scope x ≡ named_location scope false name → SetIn has r after x (scalar_number held) → Mid r m → Mid after
      (set_at m (register_at has scope x) held)
  set_stands m r after x name held there is set stands = record {
    hold = record { each = λ y its. by y its (same_register y x) refl };
    older = λ root way old.
        subst (λ (p : Location). set_at m p held root way ≡ begun root way) (sym is)
        (ap (λ b. (if b then with_part (m root) [] held else m root) way) (older_differs scope.depth name root old) ∙ stands.older root way old);
    vars = record {
      each = λ k var value at known.
          holds_same site.structs var.ty value (value_at m (location_in scope site k []))
          (value_at (set_at m (register_at has scope x) held) (location_in scope site k []))
          (λ way. sym (apart_same m (register_at has scope x) held (location_in scope site k []) (beside.variables x k var there at) way))
          (stands.vars.each k var value at known);
    };
  }
    where
      by : (y : Register) → has_register has y ≡ true → (same : Bool) → same_register y x ≡ same →
          scalar_number (value_at (set_at m (register_at has scope x) held) (register_at has scope y)) ≡ held_in after y
      by y its true same =
          subst (λ (y : Register). scalar_number (value_at (set_at m (register_at has scope x) held) (register_at has scope y)) ≡ held_in after y)
          (sym (register_is y x same)) (own_number m x held ∙ sym set.0)
      by y its false differ =
          apart_same m (register_at has scope x) held (register_at has scope y)
          (apart_flip (register_at has scope y) (register_at has scope x) (apart.each y x its there differ)) []
          ∙ (stands.hold.each y its ∙ sym (set.1 y its differ))

  -- the C that does that
  set_goes : (m : Memory) (r after : Registers) (x : Register) (name : List ℕ) (held : CValue) (place : CPlace) (value : CExpr) →
      has_register has x ≡ true → register_at has scope x ≡ named_location scope false name →
      (location_c place scope m).answer ≡ Some (register_at has scope x) → (value_c value scope m).answer ≡ Some held →
      SetIn has r after x (scalar_number held) → Mid r m → GoesTo (Mid after) (block_c (c_set place value ∷ []) scope m)
  set_goes m r after x name held place value there local at is set stands =
      let o = runs_c (c_set place value) scope m in
      let alone = alone_alike scope (c_set place value) m in
      let ends : Ends o (Some (set_at m (register_at has scope x) held)) =
      subst (λ (at : Option Location). Ends o (set_after scope m at (Some held))) at
      (subst (λ (is : Option CValue). Ends o (set_after scope m (location_c place scope m).answer is)) is (set_ends scope m place value)) in
      (alone.0 ∙ ends.0, subst (Mid after) (sym (alone.1 ∙ ends.1)) (set_stands m r after x name held there local set stands))

  -- ---- copies of counters

  rested_sets : (k : ℕ) (r : Registers) (n : ℤ) → n ≡ pos (r.counters k) →
      SetIn has r (with_rested (k ∷ []) r) (Before k) n
  rested_sets k r n is = (ap pos (here_is k (r.counters k) r.rested) ∙ sym is, others)
    where
      others : (y : Register) → has_register has y ≡ true → same_register y (Before k) ≡ false →
          held_in (with_rested (k ∷ []) r) y ≡ held_in r y
      others (Counter j) its differ = refl
      others (Before j) its differ = ap pos (with_other k (r.counters k) r.rested j differ)
      others (Flag j) its differ = refl
      others (Mark j) its differ = refl
      others Over its differ = refl

  pub rested_goes : (ks : List ℕ) (r : Registers) (m : Memory) → list_all has.counters ks ≡ true → list_all has.copied ks ≡ true →
      Mid r m →
      GoesTo (Mid (with_rested ks r)) (block_c (map rested_code ks) scope m)
  rested_goes [] r m counters copied stands = (refl, stands)
  rested_goes (k ∷ ks) r m counters copied stands =
      let counted : has.counters k ≡ true = and_first (has.counters k) (list_all has.counters ks) counters in
      then_goes scope (rested_code k ∷ []) (map rested_code ks) m (Mid (with_rested (k ∷ []) r)) (Mid (with_rested (k ∷ ks) r))
      (set_goes m r (with_rested (k ∷ []) r) (Before k) (rested_name k) (value_at m (register_at has scope (Counter k))) (rested_place k)
      (c_read (counter_place k)) (and_first (has.copied k) (list_all has.copied ks) copied) refl (local_answer scope m (rested_name k))
      (read_answer scope m (counter_place k) (register_at has scope (Counter k)) (counter_answer scope m k))
      (rested_sets k r (scalar_number (value_at m (register_at has scope (Counter k)))) (stands.hold.each (Counter k) counted)) stands)
      (λ m' next. rested_goes ks (with_rested (k ∷ []) r) m' (and_second (has.counters k) (list_all has.counters ks) counters)
      (and_second (has.copied k) (list_all has.copied ks) copied) next)

  -- ---- the flag of the entry

  entry_sets : (n : ℕ) (r after : Registers) (b : Bool) → after ≡ record {
    counters = r.counters;
    rested = r.rested;
    flags = with_at n b r.flags;
    marks = r.marks;
    over = r.over;
  } → (x : ℤ) → x ≡ number_of b → SetIn has r after (Flag n) x
  entry_sets n r after b is x held =
      subst (λ (after : Registers). SetIn has r after (Flag n) x) (sym is) (ap number_of (here_is n b r.flags) ∙ sym held, others)
    where
      others : (y : Register) → has_register has y ≡ true → same_register y (Flag n) ≡ false → held_in (record {
        counters = r.counters;
        rested = r.rested;
        flags = with_at n b r.flags;
        marks = r.marks;
        over = r.over;
      }) y ≡ held_in r y
      others (Counter j) its differ = refl
      others (Before j) its differ = refl
      others (Flag j) its differ = ap number_of (with_other n b r.flags j differ)
      others (Mark j) its differ = refl
      others Over its differ = refl

  module _ (view : ActivityView) (words : WordsAgree view has) (guards : GuardsEvaluate) (first : has.counters 0 ≡ true) where
    -- the first number of the first counter, as a guard asks it
    abbrev none_yet : Condition
    none_yet = Ended IsAny (record { all = true; slots = record { counter = 0; value = 0 } ∷ [] })

    -- where the first counter has a copy, that holds what the counter holds
    abbrev FirstCopied : Registers → Type 0
    FirstCopied r = view.is_read 0 ≡ true → (has.copied 0 ≡ true) × (r.rested 0 ≡ r.counters 0)

    first_shows : (n : Node) (r : Registers) (m : Memory) → FirstCopied r → RestsWithin view.sizes r → RegistersEncoded has scope r m →
        option_map scalar_number (value_c (c_two Eq (c_read (entry_place (view.is_read 0))) (counter_value view.sizes 0 0)) scope m).answer
        ≡ Some (number_of (nat_eq (r.counters 0) 0))
    first_shows n r m held within hold = by (view.is_read 0) refl
      where
        by : (copied : Bool) → view.is_read 0 ≡ copied →
            option_map scalar_number (value_c (c_two Eq (c_read (entry_place copied)) (counter_value view.sizes 0 0)) scope m).answer
            ≡ Some (number_of (nat_eq (r.counters 0) 0))
        by true is =
            eq_shows scope m (c_read (rested_place 0)) (counter_value view.sizes 0 0) (r.rested 0) 0
            (rested_gives scope m view has r hold 0 (held is).0) (literal_gives scope m _ (pos 0))
            ∙ ap (λ k. Some (number_of (nat_eq k 0))) (held is).1
        by false is =
            guards view has scope None n none_yet r m words hold within refl (ap (λ b. b && true) first)
            ∙ ap (λ b. Some (number_of b)) (and_true (nat_eq (r.counters 0) 0))

    pub entry_goes : (body : Block) (r : Registers) (m : Memory) →
        ((s : Plain) (rest : Block) → body ≡ Then s rest → has.flags (view.number (entry s)) ≡ true) → FirstCopied r → RestsWithin view.sizes r →
        Mid r m → GoesTo (Mid (with_entry view body r)) (block_c (entry_code view body) scope m)
    entry_goes Done r m flagged held within stands = (refl, stands)
    entry_goes (Then s rest) r m flagged held within stands =
        let test : CExpr = c_two Eq (c_read (entry_place (view.is_read 0))) (counter_value view.sizes 0 0) in
        let found = held_by (value_c test scope m).answer (number_of (nat_eq (r.counters 0) 0))
        (first_shows (entry s) r m held within stands.hold) in
        set_goes m r (with_entry view (Then s rest) r) (Flag (view.number (entry s))) (flag_name (with_word has.words (view.number (entry s)))) found.0
        (flag_place (node_word view (entry s))) test (flagged s rest refl) refl
        (flag_answer scope m has view.word (view.number (entry s)) (words (view.number (entry s)))) found.1
        (entry_sets (view.number (entry s)) r (with_entry view (Then s rest) r) (nat_eq (r.counters 0) 0) refl (scalar_number found.0) found.2) stands

-- ---- what the registers hold then

pub same_parts : (ks : List ℕ) (r : Registers) → ((with_rested ks r).counters ≡ r.counters) × ((with_rested ks r).flags ≡ r.flags)
    × ((with_rested ks r).marks ≡ r.marks) × ((with_rested ks r).over ≡ r.over)
same_parts [] r = (refl, refl, refl, refl)
same_parts (k ∷ ks) r = same_parts ks (with_rested (k ∷ []) r)

-- none of them is greater than its counter's greatest value where no counter holds more
pub copies_within : (sizes : Sizes) (ks : List ℕ) (r : Registers) → RegistersWithin sizes r → RegistersWithin sizes (with_rested ks r)
copies_within sizes [] r within = within
copies_within sizes (k ∷ ks) r within = copies_within sizes ks (with_rested (k ∷ []) r) (record {
  counters = within.counters;
  rested = with_within sizes k (r.counters k) r.rested (within.counters k) within.rested;
})

stays_rested : (ks : List ℕ) (r : Registers) (k : ℕ) → r.rested k ≡ r.counters k → (with_rested ks r).rested k ≡ r.counters k
stays_rested [] r k h = h
stays_rested (j ∷ ks) r k h = stays_rested ks (with_rested (j ∷ []) r) k (by (nat_eq k j) refl)
  where
    by : (b : Bool) → nat_eq k j ≡ b → (if b then r.counters j else r.rested k) ≡ r.counters k
    by true is = ap r.counters (sym (eqb-true k j is))
    by false is = h

pub comes_rested : (ks : List ℕ) (r : Registers) (k : ℕ) → list_any (nat_eq k) ks ≡ true → (with_rested ks r).rested k ≡ r.counters k
comes_rested [] r k h = absurd (cc)
comes_rested (j ∷ ks) r k h = by (nat_eq k j) refl (comes_rested ks (with_rested (j ∷ []) r) k) h
  where
    by : (b : Bool) → nat_eq k j ≡ b → (list_any (nat_eq k) ks ≡ true → (with_rested (j ∷ ks) r).rested k ≡ r.counters k) →
        (b || list_any (nat_eq k) ks) ≡ true → (with_rested (j ∷ ks) r).rested k ≡ r.counters k
    by true is again all =
        stays_rested ks (with_rested (j ∷ []) r) k
        (ap (λ b. if b then r.counters j else r.rested k) is ∙ ap r.counters (sym (eqb-true k j is)))
    by false is again all = again all

-- the flag of the entry
pub entry_begun : (view : ActivityView) (body : Block) (r : Registers) (k : ℕ) → r.counters 0 ≡ 0 → r.flags k ≡ false →
    (with_entry view body r).flags k ≡ entry_flag view.number body k
entry_begun view Done r k first none = none
entry_begun view (Then s rest) r k first none = by (nat_eq k (view.number (entry s)))
  where
    by : (b : Bool) → (if b then nat_eq (r.counters 0) 0 else r.flags k) ≡ b
    by true = ap (λ n. nat_eq n 0) first
    by false = none

pub entry_resumed : (view : ActivityView) (body : Block) (r : Registers) (k : ℕ) → (r.counters 0 ≡ 0 → ⊥) → r.flags k ≡ false →
    (with_entry view body r).flags k ≡ false
entry_resumed view Done r k first none = none
entry_resumed view (Then s rest) r k first none = by (nat_eq k (view.number (entry s)))
  where
    not_first : (b : Bool) → nat_eq (r.counters 0) 0 ≡ b → b ≡ false
    not_first true is = absurd (first (eqb-true (r.counters 0) 0 is))
    not_first false is = refl

    by : (b : Bool) → (if b then nat_eq (r.counters 0) 0 else r.flags k) ≡ false
    by true = not_first (nat_eq (r.counters 0) 0) refl
    by false = none

pub other_parts : (view : ActivityView) (body : Block) (r : Registers) → ((with_entry view body r).counters ≡ r.counters)
    × ((with_entry view body r).rested ≡ r.rested) × ((with_entry view body r).marks ≡ r.marks) × ((with_entry view body r).over ≡ r.over)
other_parts view Done r = (refl, refl, refl, refl)
other_parts view (Then s rest) r = (refl, refl, refl, refl)
