-- What the C statements of a `run` do: its callee's counters are cleared, and its function is called.
use Rattle.std.proofs.Common.{◌≡◌, ℕ, ℤ, Bool, true, false, List, [], ◌∷◌, ◌++◌, Option, Some, None, refl, sym, ap, ◌∙◌, subst}
use Rattle.std.specs.Prelude.{codes, option_map, pos}
use Rattle.bl_tree.specs.declared.c.CCall.{CCall}
use Rattle.bl_tree.specs.declared.c.CPlace.{CPlace}
use Rattle.bl_tree.specs.declared.c.CStmt.{CStmt, fold-roll-CStmt, roll-CStmt}
use Rattle.bl_tree.specs.declared.c.CStmtKind.{CStmtKind, CStmtKind-F, fold-roll-CStmtKind}
use Rattle.bl_tree.specs.declared.c.CStmtKind.TheVariants as statement
use Rattle.bl_tree.specs.declared.scalar.Scalar.TheVariants.{Bool as OfBool}
use Rattle.bl_tree.specs.declared.text.Text.{Text}
use Rattle.bl_tree.specs.Numbers.{is_one, number_of}
use Rattle.bl_ctext_semantics.specs.Course.{End, Outcome, breaks, following_end, goes_on, going, returns, traps}
use Rattle.bl_ctext_semantics.specs.Meaning.{Counted, Scope, block_c, call_c, call_end, call_outcome, each_of, executed, further, given, location_c, next, runs_c}
use Rattle.bl_ctext_semantics.specs.Meaning.{named_location, value_c, way_of}
use Rattle.bl_ctext_semantics.specs.Memory.{CValue, Location, Memory, Projection, scalar, scalar_number, set_at, value_at, zeros}
use Rattle.bl_emit_acts.specs.Acts.{c_calling, c_clear, c_set}
use Rattle.bl_emit_acts.specs.Trees.{c_read, c_step, nowhere}
use Rattle.bl_emit_functions.specs.Trees.{c_truth}
use Rattle.bl_emit_spec.specs.Blocks.{stmt_where}
use Rattle.bl_emit_spec.specs.Names.{NumberedWord, callee_frame, callee_name, ended_name, ended_place, given_name, given_place}
use Rattle.bl_emit_spec_laws.specs.Registers.Registers.{frame_at}
use Rattle.bl_emit_spec_laws_files.proofs.OnBegins.Evaluated.{literal-value, place-location, step-way}
use Rattle.bl_emit_spec_laws_files.proofs.OnBegins.Setting.{local_answer, read_answer}
use Rattle.bl_emit_spec_laws.specs.Calls.Memories.{inner}
use Rattle.bl_emit_spec_laws.proofs.OnPasses.Blocks.{Alike}
use Rattle.bl_emit_spec_laws.proofs.OnRegisters.Statements.{truth_c}
use Rattle.bl_emit_spec_laws_nodes.proofs.OnPoints.Sets.{set_after, set_ends}
use Rattle.bl_emit_acts_laws_simulation.proofs.Statements.{what, Ends}

-- memory once the local was set that tells that what is called hasn't ended, where the test is true
abbrev pub forgotten_by : Bool → Scope → Memory → Memory
forgotten_by true scope here = set_at here (named_location scope false ended_name) (scalar (pos 0))
forgotten_by false scope here = here

-- ---- one statement after another

module _ (scope : Scope) where
  -- what goes on is followed by the rest
  pub step_goes : (s : CStmt) (rest : List CStmt) (m after : Memory) → Ends (runs_c s scope m) (Some after) →
      Alike (block_c (s ∷ rest) scope m) (block_c rest scope after)
  step_goes s rest m after h = by (runs_c s scope m).count (runs_c s scope m).memory (runs_c s scope m).end h.0 h.1
    where
      by : (n : ℕ) (k : Memory) (e : End) → e ≡ goes_on → k ≡ after →
          Alike (following_end n k e (block_c rest scope)) (block_c rest scope after)
      by n k goes_on is same = (ap (λ (m : Memory). (block_c rest scope m).end) same, ap (λ (m : Memory). (block_c rest scope m).memory) same)
      by n k breaks is same = absurd (cc)
      by n k (returns x) is same = absurd (cc)
      by n k traps is same = absurd (cc)

  -- and what traps isn't
  pub step_traps : (s : CStmt) (rest : List CStmt) (m : Memory) → (runs_c s scope m).end ≡ traps → (block_c (s ∷ rest) scope m).end ≡ traps
  step_traps s rest m h = by (runs_c s scope m).count (runs_c s scope m).memory (runs_c s scope m).end h
    where
      by : (n : ℕ) (k : Memory) (e : End) → e ≡ traps → (following_end n k e (block_c rest scope)).end ≡ traps
      by n k traps is = refl
      by n k goes_on is = absurd (cc)
      by n k breaks is = absurd (cc)
      by n k (returns x) is = absurd (cc)

-- ---- statements

module _ (scope : Scope) (here : Memory) where
  -- a struct is cleared
  abbrev clears : Counted Location → Outcome Memory
  clears at = executed here at (λ p. going (set_at here p zeros))

  clear-open : (place : CPlace) (name : Text) → runs_c (what (CStmtKind-F.Clear place name)) scope here ≡ clears (location_c place scope here)
  clear-open place name = rw (fold-roll-CStmt, fold-roll-CStmtKind) refl

  clear-runs : (place : CPlace) (name : Text) → runs_c (c_clear place name) scope here ≡ clears (location_c place scope here)
  clear-runs place name =
      subst (λ (k : CStmtKind). runs_c (roll-CStmt (record { place = nowhere; what = k })) scope here ≡ clears (location_c place scope here))
      (statement.rolls-Clear place name) (clear-open place name)

  clears_by : (n : ℕ) (o : Option Location) (at : Location) → o ≡ Some at →
      Ends (clears (record { count = n; answer = o })) (Some (set_at here at zeros))
  clears_by n None at is = absurd (cc)
  clears_by n (Some p) at is = (refl, ap (λ (o : Option Location). given_or o) is)
    where
      given_or : Option Location → Memory
      given_or (Some p) = set_at here p zeros
      given_or None = here

  pub clear_ends : (place : CPlace) (name : Text) (at : Location) → (location_c place scope here).answer ≡ Some at →
      Ends (runs_c (c_clear place name) scope here) (Some (set_at here at zeros))
  clear_ends place name at is =
      let found = location_c place scope here in
      subst (λ (o : Outcome Memory). Ends o (Some (set_at here at zeros))) (sym (clear-runs place name))
      (clears_by found.count found.answer at is)

  -- a call
  call-open : (call : CCall) → runs_c (what (CStmtKind-F.Call call)) scope here ≡ call_outcome (call_c call scope here)
  call-open call = rw (fold-roll-CStmt, fold-roll-CStmtKind) refl

  call-runs : (call : CCall) → runs_c (c_calling call) scope here ≡ call_outcome (call_c call scope here)
  call-runs call =
      subst (λ (k : CStmtKind). runs_c (roll-CStmt (record { place = nowhere; what = k })) scope here ≡ call_outcome (call_c call scope here))
      (statement.rolls-Call call) (call-open call)

  pub call_goes : (call : CCall) (n : ℤ) (after : Memory) → (call_c call scope here).result ≡ Some n → (call_c call scope here).memory ≡ after →
      Ends (runs_c (c_calling call) scope here) (Some after)
  call_goes call n after result memory =
      (ap (λ (o : Outcome Memory). o.end) (call-runs call) ∙ ap call_end result, ap (λ (o : Outcome Memory). o.memory) (call-runs call) ∙ memory)

  pub call_traps : (call : CCall) → (call_c call scope here).result ≡ None → (runs_c (c_calling call) scope here).end ≡ traps
  call_traps call result = ap (λ (o : Outcome Memory). o.end) (call-runs call) ∙ ap call_end result

  -- ---- places of a `run`

  abbrev stepped : Location → Counted (List Projection) → Option Location
  stepped start first =
      (next (next first (λ a. next (each_of [] scope here) (λ others. given (Some (a ∷ others)))))
      (λ ways. given (Some (further start (way_of ways))))).answer

  pub frame_answer : (n : NumberedWord) → (location_c (callee_frame n) scope here).answer ≡ Some (inner (frame_at scope) n)
  frame_answer n =
      ap (λ (c : Counted Location). c.answer) (place-location scope here true (codes "f") (c_step (callee_name n) ∷ []))
      ∙ ap (stepped (named_location scope true (codes "f"))) (step-way scope here (callee_name n))

  -- the callee hasn't ended
  pub ended_ends : Ends (runs_c (c_set ended_place (c_truth false)) scope here)
      (Some (set_at here (named_location scope false ended_name) (scalar (pos 0))))
  ended_ends =
      let place = ended_place in
      let o = runs_c (c_set place (c_truth false)) scope here in
      let at : (location_c place scope here).answer ≡ Some (named_location scope false ended_name) = local_answer scope here ended_name in
      let value : (value_c (c_truth false) scope here).answer ≡ Some (scalar (pos 0)) =
      ap (λ (c : Counted CValue). c.answer) (literal-value scope here OfBool (pos 0)) in
      subst (λ (at : Option Location). Ends o (set_after scope here at (Some (scalar (pos 0))))) at
      (subst (λ (is : Option CValue). Ends o (set_after scope here (location_c place scope here).answer is)) value
      (set_ends scope here place (c_truth false)))

  -- where it may end, that is set
  pub forget_goes : (may : Bool) (rest : List CStmt) →
      Alike (block_c (stmt_where may (c_set ended_place (c_truth false)) ++ rest) scope here) (block_c rest scope (forgotten_by may scope here))
  forget_goes true rest =
      step_goes scope (c_set ended_place (c_truth false)) rest here (set_at here (named_location scope false ended_name) (scalar (pos 0))) ended_ends
  forget_goes false rest = (refl, refl)

  -- what is told of its end
  pub ended_value : (value_c (c_read ended_place) scope here).answer ≡ Some (value_at here (named_location scope false ended_name))
  ended_value = read_answer scope here ended_place (named_location scope false ended_name) (local_answer scope here ended_name)

  is_bit : (b : Bool) → is_one (number_of b) ≡ b
  is_bit true = refl
  is_bit false = refl

  pub ended_truth : (over : Bool) → scalar_number (value_at here (named_location scope false ended_name)) ≡ number_of over →
      truth_c scope (c_read ended_place) here ≡ Some over
  ended_truth over is =
      ap (option_map (λ v. is_one (scalar_number v))) ended_value ∙ ap Some (ap is_one is ∙ is_bit over)

  -- its result
  pub given_value : (n : NumberedWord) → (value_c (c_read (given_place n)) scope here).answer ≡ Some (value_at here (named_location scope false (given_name n)))
  given_value n = read_answer scope here (given_place n) (named_location scope false (given_name n)) (local_answer scope here (given_name n))
