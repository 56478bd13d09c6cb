-- What it is to set a register in memory, and what statements leave there one after another.
use Rattle.std.proofs.Common.{◌≡◌, ℕ, ℤ, Bool, true, false, List, [], ◌∷◌, ◌++◌, Option, Some, None, refl, sym, ap, ◌∙◌, subst}
use Rattle.std.proofs.lemmas.Bool.{eqb-true}
use Rattle.std.proofs.lemmas.List.{append-nil}
use Rattle.std.proofs.lemmas.Option.{same_Some}
use Rattle.bl_tree.specs.declared.text.Text.{Text}
use Rattle.bl_tree.specs.declared.c.CExpr.{CExpr}
use Rattle.bl_tree.specs.declared.c.CPlace.{CPlace}
use Rattle.bl_tree.specs.declared.c.CStmt.{CStmt}
use Rattle.bl_ctext_semantics.specs.Course.{End, Outcome, breaks, following_end, goes_on, returns, traps}
use Rattle.bl_ctext_semantics.specs.Memory.{CValue, Location, Memory, Projection, left_after, member, number_or, scalar, scalar_number, set_at, value_at}
use Rattle.bl_ctext_semantics.specs.Meaning.{Counted, Scope, block_c, each_of, further, given, location_c, named_location, next, runs_c, value_c, way_of}
use Rattle.bl_emit_acts.specs.Acts.{c_set}
use Rattle.bl_emit_acts.specs.Trees.{c_place, c_read, c_step}
use Rattle.bl_machine_pass.specs.Registers.{Registers}
use Rattle.bl_emit_spec.specs.Names.{counter_name, counter_place, flag_name, flag_place, mark_name, mark_place, over_place, with_word}
use Rattle.bl_emit_spec_laws.specs.Registers.Registers.{Before, Counter, Flag, Mark, Over, Register, Registered, RegistersApart, RegistersEncoded}
use Rattle.bl_emit_spec_laws.specs.Registers.Registers.{RegistersEncodedAfter, frame_at, has_register, held_in, over_at, register_at, same_register}
use Rattle.bl_emit_spec_laws.proofs.OnRegisters.Cells.{apart_same, same_object}
use Rattle.bl_emit_spec_laws.proofs.OnRegisters.Evaluated.{place-location, read-value, step-way}
use Rattle.bl_emit_spec_laws.proofs.OnRegisters.Statements.{alone_alike, set_after, set_ends}
use Rattle.bl_emit_acts_laws_simulation.proofs.Cells.{apart_flip, set_elsewhere}
use Rattle.bl_emit_acts_laws_simulation.proofs.Written.{left_behind}
use Rattle.bl_emit_acts_laws_simulation.proofs.Statements.{Ends}

pub register_is : (x y : Register) → same_register x y ≡ true → x ≡ y
register_is (Counter j) (Counter k) h = ap Counter (eqb-true j k h)
register_is (Before j) (Before k) h = ap Before (eqb-true j k h)
register_is (Flag j) (Flag k) h = ap Flag (eqb-true j k h)
register_is (Mark j) (Mark k) h = ap Mark (eqb-true j k h)
register_is Over Over h = refl
register_is (Counter j) (Before k) h = absurd (cc)
register_is (Counter j) (Flag k) h = absurd (cc)
register_is (Counter j) (Mark k) h = absurd (cc)
register_is (Counter j) Over h = absurd (cc)
register_is (Before j) (Counter k) h = absurd (cc)
register_is (Before j) (Flag k) h = absurd (cc)
register_is (Before j) (Mark k) h = absurd (cc)
register_is (Before j) Over h = absurd (cc)
register_is (Flag j) (Counter k) h = absurd (cc)
register_is (Flag j) (Before k) h = absurd (cc)
register_is (Flag j) (Mark k) h = absurd (cc)
register_is (Flag j) Over h = absurd (cc)
register_is (Mark j) (Counter k) h = absurd (cc)
register_is (Mark j) (Before k) h = absurd (cc)
register_is (Mark j) (Flag k) h = absurd (cc)
register_is (Mark j) Over h = absurd (cc)
register_is Over (Counter k) h = absurd (cc)
register_is Over (Before k) h = absurd (cc)
register_is Over (Flag k) h = absurd (cc)
register_is Over (Mark k) h = absurd (cc)

-- ---- places

module _ (scope : Scope) (m : Memory) where
  pub local_answer : (name : Text) → (location_c (c_place false name []) scope m).answer ≡ Some (named_location scope false name)
  local_answer name = ap (λ (c : Counted Location). c.answer) (place-location scope m false name [])

  pub over_answer : (location_c over_place scope m).answer ≡ Some (further (over_at scope) [])
  over_answer = ap (λ (c : Counted Location). c.answer) (place-location scope m true _ [])

  abbrev stepped : Location → Counted (List Projection) → Option Location
  stepped start first =
      (next (next first (λ a. next (each_of [] scope m) (λ others. given (Some (a ∷ others)))))
      (λ ways. given (Some (further start (way_of ways))))).answer

  pub counter_answer : (k : ℕ) → (location_c (counter_place k) scope m).answer ≡ Some (further (frame_at scope) (member (counter_name k) ∷ []))
  counter_answer k =
      ap (λ (c : Counted Location). c.answer) (place-location scope m true _ (c_step (counter_name k) ∷ []))
      ∙ ap (stepped (named_location scope true _)) (step-way scope m (counter_name k))

  -- a flag and a mark have the words that the registers have
  module _ (has : Registered) (word : ℕ → Text) (k : ℕ) (same : word k ≡ has.words k) where
    pub flag_answer : (location_c (flag_place (with_word word k)) scope m).answer ≡ Some (register_at has scope (Flag k))
    flag_answer =
        local_answer (flag_name (with_word word k))
        ∙ ap (λ (own : Text). Some (named_location scope false (flag_name (record { number = k; word = own })))) same

    pub mark_answer : (location_c (mark_place (with_word word k)) scope m).answer ≡ Some (register_at has scope (Mark k))
    mark_answer =
        local_answer (mark_name (with_word word k))
        ∙ ap (λ (own : Text). Some (named_location scope false (mark_name (record { number = k; word = own })))) same

  -- what stands at a place
  pub read_answer : (place : CPlace) (at : Location) → (location_c place scope m).answer ≡ Some at → (value_c (c_read place) scope m).answer
      ≡ Some (value_at m at)
  read_answer place at is =
      ap (λ (c : Counted CValue). c.answer) (read-value scope m place) ∙ by (location_c place scope m).count (location_c place scope m).answer is
    where
      by : (n : ℕ) (o : Option Location) → o ≡ Some at → (next (record { count = n; answer = o }) (λ p. given (Some (value_at m p)))).answer
          ≡ Some (value_at m at)
      by n None h = absurd (cc)
      by n (Some p) h = ap (λ p. Some (value_at m p)) (same_Some p at h)

-- ---- statements one after another

-- statements go on, and leave such memory
abbrev pub GoesTo : (Memory → Type 0) → Outcome Memory → Type 0
GoesTo P o = (o.end ≡ goes_on) × P o.memory

module _ (scope : Scope) where
  pub then_goes : (a b : List CStmt) (m : Memory) (P Q : Memory → Type 0) → GoesTo P (block_c a scope m) →
      ((k : Memory) → P k → GoesTo Q (block_c b scope k)) → GoesTo Q (block_c (a ++ b) scope m)
  then_goes [] b m P Q h more = more m h.1
  then_goes (s ∷ a) b m P Q h more =
      by (λ k first. then_goes a b k P Q first more) (runs_c s scope m).count (runs_c s scope m).memory (runs_c s scope m).end h
    where
      by : ((k : Memory) → GoesTo P (block_c a scope k) → GoesTo Q (block_c (a ++ b) scope k)) → (n : ℕ) (k : Memory) (e : End) →
          GoesTo P (following_end n k e (block_c a scope)) → GoesTo Q (following_end n k e (block_c (a ++ b) scope))
      by further n k goes_on h = further k h
      by further n k breaks h = absurd (let no = h.0 in cc)
      by further n k (returns x) h = absurd (let no = h.0 in cc)
      by further n k traps h = absurd (let no = h.0 in cc)

-- ---- a register is set

-- the registers are as they were but for one, which holds this number
abbrev pub SetIn : Registered → Registers → Registers → Register → ℤ → Type 0
SetIn has r after x n =
    (held_in after x ≡ n) × ((y : Register) → has_register has y ≡ true → same_register y x ≡ false → held_in after y ≡ held_in r y)

module _ (has : Registered) (scope : Scope) (apart : RegistersApart has scope) where
  -- memory once a register is set
  abbrev pub set_to : Memory → Register → ℤ → Memory
  set_to m x n = set_at m (register_at has scope x) (scalar n)

  own_number : (m : Memory) (x : Register) (n : ℤ) → scalar_number (value_at (set_to m x n) (register_at has scope x)) ≡ n
  own_number m x n =
      let place = register_at has scope x in
      same_object m place (scalar n) (place.parts ++ [])
      ∙ ap (λ left. number_or left (scalar n) (m place.root (place.parts ++ [])))
      (ap (λ front. left_after front (place.parts ++ [])) (sym (append-nil place.parts)) ∙ left_behind place.parts [] [])

  pub set_leaves : (m : Memory) (r after : Registers) (x : Register) (n : ℤ) → has_register has x ≡ true → RegistersEncoded has scope r m →
      SetIn has r after x n → RegistersEncodedAfter has scope after m (set_to m x n)
  set_leaves m r after x n there hold set = record {
    registers = record { each = λ y its. by y its (same_register y x) refl };
    kept = λ root way outside. set_elsewhere m (register_at has scope x) (scalar n) root way (outside.each x there);
  }
    where
      by : (y : Register) → has_register has y ≡ true → (same : Bool) → same_register y x ≡ same →
          scalar_number (value_at (set_to m x n) (register_at has scope y)) ≡ held_in after y
      by y its true is =
          subst (λ (y : Register). scalar_number (value_at (set_to m x n) (register_at has scope y)) ≡ held_in after y) (sym (register_is y x is))
          (own_number m x n ∙ sym set.0)
      by y its false is =
          apart_same m (register_at has scope x) (scalar n) (register_at has scope y)
          (apart_flip (register_at has scope y) (register_at has scope x) (apart.each y x its there is)) []
          ∙ (hold.each y its ∙ sym (set.1 y its is))

  -- the C that sets a register
  pub set_comes : (m : Memory) (r after : Registers) (x : Register) (n : ℤ) (place : CPlace) (value : CExpr) →
      (location_c place scope m).answer ≡ Some (register_at has scope x) → (value_c value scope m).answer ≡ Some
      (scalar n) → has_register has x ≡ true →
      RegistersEncoded has scope r m → SetIn has r after x n → GoesTo (RegistersEncodedAfter has scope after m) (block_c (c_set place value ∷ []) scope m)
  set_comes m r after x n place value at is there hold set =
      let o = runs_c (c_set place value) scope m in
      let alone = alone_alike scope (c_set place value) m in
      let ends : Ends o (Some (set_to m x n)) =
      subst (λ (at : Option Location). Ends o (set_after scope m at (Some (scalar n)))) at
      (subst (λ (is : Option CValue). Ends o (set_after scope m (location_c place scope m).answer is)) is
      (set_ends scope m place value)) in
      (alone.0 ∙ ends.0, subst (RegistersEncodedAfter has scope after m) (sym (alone.1 ∙ ends.1)) (set_leaves m r after x n there hold set))
