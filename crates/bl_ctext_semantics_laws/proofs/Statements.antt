-- Statements in a C text and over numbered cells.
use Rattle.std.proofs.Common.{◌≡◌, ℕ, zero, suc, ◌+◌, ◌≤◌, ℤ, pos, Bool, true, false, not, ◌&&◌, List, [], ◌∷◌, ◌++◌, map, Option, Some, None, refl}
use Rattle.std.proofs.Common.{ap, sym, subst, ◌∙◌, arith}
use Rattle.std.specs.Prelude.{All, is_some, if◌then◌else◌}
use Rattle.std.proofs.lemmas.List.Elements.{All-cons, All-head, All-nil, All-tail}
use Rattle.bl_tree.proofs.Basics.{and_first, and_second, first_empty, second_empty}
use Rattle.bl_tree.specs.declared.text.Text.{Text}
use Rattle.bl_tree.specs.declared.place.Place.{Place}
use Rattle.bl_tree.specs.declared.scalar.Scalar.{Scalar}
use Rattle.bl_tree.specs.declared.c.CType.{CType}
use Rattle.bl_tree.specs.declared.c.CType.TheVariants.{Scalar as OfScalar, Struct as OfStruct}
use Rattle.bl_tree.specs.declared.c.CExpr.{CExpr}
use Rattle.bl_tree.specs.declared.c.CPlace.{CPlace}
use Rattle.bl_tree.specs.declared.c.CStmt.{CStmt, fold-roll-CStmt}
use Rattle.bl_tree.specs.declared.c.CStmtKind.{fold-roll-CStmtKind}
use Rattle.bl_tree.specs.declared.c.CStmtKind.TheOpen.{CStmtKind-F}
use Rattle.bl_tree.specs.Scalar.{in_range}
use Rattle.bl_tree.specs.Numbers.{is_one}
use Rattle.bl_tree.specs.Reduce.{all_of, joined}
use Rattle.bl_ctext.specs.Names.{is_struct_name, is_turn_name}
use Rattle.bl_ctext.specs.Spellable.{spells_expr, spells_place, spells_stmt}
use Rattle.bl_ctext_semantics.specs.Memory.{Location, CValue, Memory, scalar_number, set_at, zeros}
use Rattle.bl_ctext_semantics.specs.Course.{End, Outcome, after_statements, breaks, ended_by, ending, following_end, goes_on, going, returns, traps, turn_end}
use Rattle.bl_ctext_semantics.specs.Course.{loop_with_turns, turn_limit, turn_or_none}
use Rattle.bl_ctext_semantics.specs.Meaning.{CallResult, Counted, Evaluates as EvaluatesC, Scope, CStmtMeaning as RunsC, block_of as block_of_c, call_c, call_end}
use Rattle.bl_ctext_semantics.specs.Meaning.{call_outcome, executed as executed_c, given, going_on as going_on_c, location_c, next as next_c}
use Rattle.bl_ctext_semantics.specs.Meaning.{once_more as once_more_c, runs_c, value_c}
use Rattle.bl_ctext_semantics.specs.Sizes.{Sizes, size_of_type}
use Rattle.bl_ctext_semantics.specs.Tables.{Table, entry_or}
use Rattle.bl_ctext_semantics.specs.Calls.{calls_in, calls_in_place, calls_in_stmt}
use Rattle.bl_ctext_semantics.specs.Faults.{Context, Signature, agree, assigned_type, block_faults, bool_type, changes_nothing, condition_faults}
use Rattle.bl_ctext_semantics.specs.Faults.{condition_type, declared_before, faults_in_stmt, judged_call, judged_expr, judged_place, return_faults}
use Rattle.bl_ctext_semantics.specs.Faults.{returns_result, unless}
use Rattle.bl_ctext_semantics.proofs.Induction.{Optional, StmtCases, induct_stmt, stmt}
use Rattle.bl_ctext_semantics_laws.specs.Reaching.{Ground}
use Rattle.bl_ctext_semantics_laws.specs.Flat.{Cells, Evaluates, FlatAnswer, FlatStmtMeaning, Routine, address_of, block_of, call_flat}
use Rattle.bl_ctext_semantics_laws.specs.Flat.{cell_number, copied, executed, flat_answer, flat_next, going_on, once_more}
use Rattle.bl_ctext_semantics_laws.specs.Flat.{reach_flat, runs_flat, value_flat, written_at, zeroed}
use Rattle.bl_ctext_semantics_laws.proofs.Faultless.{unless-nil}
use Rattle.bl_ctext_semantics_laws.proofs.Ways.{Lists, Shaped, Structs}
use Rattle.bl_ctext_semantics_laws.proofs.Standing.{PlacedAt, Stands, World, clear-stands, copy-stands, placed-below, set-stands, zero-fits}
use Rattle.bl_ctext_semantics_laws.proofs.Evaluations.{Agree, Matches}
use Rattle.bl_ctext_semantics_laws.proofs.Running.{Running, Valued, ValuedAs}
use Rattle.bl_ctext_semantics_laws.proofs.Values.{same-type, value-agrees}
use Rattle.bl_ctext_semantics_laws.proofs.FlatPlaces.{sized-type}
use Rattle.bl_ctext_semantics_laws.proofs.Calls.{CallFacts}
use Rattle.bl_ctext_semantics_laws.proofs.Expressions.{RoomFor, call-facts, expr-agrees, place-facts, room-left, room-right}

-- a number that is returned is one of the function's result
abbrev pub EndRanged : Option Scalar → End → Type 0
EndRanged (Some t) (returns n) = in_range t n ≡ true
EndRanged (Some t) goes_on = Unit {0}
EndRanged (Some t) breaks = Unit {0}
EndRanged (Some t) traps = Unit {0}
EndRanged None end = Unit {0}

no-number : (r : Option Scalar) → EndRanged r traps
no-number None = tt
no-number (Some t) = tt

module _ (known : Sizes) (lists : Lists) (structs : Structs) (shaped : Shaped known lists structs) (limit : ℕ) (context : Context) (scope : Scope)
    (ground : Ground Routine) (chains : Table ℕ)
    (base : ℕ) (w : World) (running : Running known lists structs shaped limit context scope ground chains base w) where
  abbrev Stood : Memory → Cells → Type 0
  Stood memory cells = Stands known lists structs shaped limit w memory cells

  abbrev Alike : Memory → {A B : Type 0} → (A → B → Type 0) → Counted A → FlatAnswer B → Type 0
  Alike memory R c l = Agree known lists structs shaped limit w memory R c l

  abbrev Value : Memory → Option CType → CValue → ℤ → Type 0
  Value memory = Valued known lists structs shaped limit w memory

  abbrev Roomy : List Text → Type 0
  Roomy names = RoomFor chains w.top limit names

  -- a statement in both
  pub record RunAgrees (o : Outcome Memory) (r : Outcome Cells) : Type 0 where
    pub count : o.count ≡ r.count
    pub end : o.end ≡ r.end
    pub stands : Stood o.memory r.memory
    pub range : EndRanged context.result o.end

  -- ---- what comes one after the other

  ended-agrees : {A B : Type 0} (R : A → B → Type 0) (memory : Memory) (n k : ℕ) (cells : Cells) (a : Option A) (b : Option B) (f : A → Outcome Memory)
      (g : B → Outcome Cells) → n ≡ k → Stood memory cells → Matches R a b →
      ((x : A) (y : B) → R x y → RunAgrees (f x) (g y)) → RunAgrees (ended_by memory n a f) (ended_by cells k b g)
  ended-agrees R memory n k cells None None f g same stood h rest = record { count = same; end = refl; stands = stood; range = no-number context.result }
  ended-agrees R memory n k cells None (Some b) f g same stood h rest = absurd h
  ended-agrees R memory n k cells (Some a) None f g same stood h rest = absurd h
  ended-agrees R memory n k cells (Some a) (Some b) f g same stood h rest =
      let r : RunAgrees (f a) (g b) = rest a b h in
      let e = r.count in
      record { count = omega arith; end = r.end; stands = r.stands; range = r.range }

  executed-agrees : {A B : Type 0} (R : A → B → Type 0) (memory : Memory) (c : Counted A) (l : FlatAnswer B) (f : A → Outcome Memory)
      (g : Cells → B → Outcome Cells) →
      Alike memory R c l →
      ((x : A) (y : B) (cells : Cells) → R x y → Stood memory cells → RunAgrees (f x) (g cells y)) → RunAgrees (executed_c memory c f) (executed 1 l g)
  executed-agrees R memory c l f g h rest =
      let e = h.count in
      ended-agrees R memory (1 + c.count) (1 + l.count) l.cells c.answer l.answer f (g l.cells) (omega arith) h.stands h.answer
      (λ x y r. rest x y l.cells r h.stands)

  unending : (r : Option Scalar) (end : End) → end ≡ goes_on → EndRanged r end
  unending None end is = tt
  unending (Some t) end is = subst (EndRanged (Some t)) (sym is) tt

  following-agrees : (n k : ℕ) (memory : Memory) (cells : Cells) (end : End) (f : Memory → Outcome Memory) (g : Cells → Outcome Cells) → n ≡ k →
      Stood memory cells →
      EndRanged context.result end → RunAgrees (f memory) (g cells) →
      RunAgrees (following_end n memory end f) (following_end k cells end g)
  following-agrees n k memory cells goes_on f g same stood range rest = let e = rest.count in
      record { count = omega arith; end = rest.end; stands = rest.stands; range = rest.range }
  following-agrees n k memory cells breaks f g same stood range rest = record { count = same; end = refl; stands = stood; range = range }
  following-agrees n k memory cells (returns r) f g same stood range rest = record { count = same; end = refl; stands = stood; range = range }
  following-agrees n k memory cells traps f g same stood range rest = record { count = same; end = refl; stands = stood; range = range }

  turn-end-agrees : (n k : ℕ) (memory : Memory) (cells : Cells) (end : End) (f : Memory → Outcome Memory) (g : Cells → Outcome Cells) → n ≡ k →
      Stood memory cells →
      EndRanged context.result end → RunAgrees (f memory) (g cells) →
      RunAgrees (turn_end n memory end f) (turn_end k cells end g)
  turn-end-agrees n k memory cells goes_on f g same stood range rest = let e = rest.count in
      record { count = omega arith; end = rest.end; stands = rest.stands; range = rest.range }
  turn-end-agrees n k memory cells breaks f g same stood range rest =
      record { count = same; end = refl; stands = stood; range = unending context.result goes_on refl }
  turn-end-agrees n k memory cells (returns r) f g same stood range rest = record { count = same; end = refl; stands = stood; range = range }
  turn-end-agrees n k memory cells traps f g same stood range rest = record { count = same; end = refl; stands = stood; range = range }

  turn-agrees : (b : Bool) (memory : Memory) (cells : Cells) (f : Memory → Outcome Memory) (g : Cells → Outcome Cells) → Stood memory cells →
      RunAgrees (f memory) (g cells) →
      RunAgrees (turn_or_none b memory f) (turn_or_none b cells g)
  turn-agrees true memory cells f g stood h = let e = h.count in record { count = omega arith; end = h.end; stands = h.stands; range = h.range }
  turn-agrees false memory cells f g stood h = record { count = refl; end = refl; stands = stood; range = unending context.result goes_on refl }

  -- ---- loops

  abbrev Conditions : EvaluatesC CValue → Evaluates ℤ → Type 0
  Conditions condition flat =
      (memory : Memory) (cells : Cells) → Stood memory cells → Alike memory (Value memory (Some bool_type)) (condition scope memory) (flat base cells)

  once-agrees : (condition : EvaluatesC CValue) (flat : Evaluates ℤ) → Conditions condition flat →
      (f : Memory → Outcome Memory) (g : Cells → Outcome Cells) →
      ((memory : Memory) (cells : Cells) → Stood memory cells → RunAgrees (f memory) (g cells)) →
      (memory : Memory) (cells : Cells) → Stood memory cells → RunAgrees (once_more_c condition scope f memory) (once_more flat base g cells)
  once-agrees condition flat h f g turn memory cells stood =
      let c : Alike memory (Value memory (Some bool_type)) (condition scope memory) (flat base cells) = h memory cells stood in
      let e = c.count in
      ended-agrees (Value memory (Some bool_type)) memory (condition scope memory).count (0 + (flat base cells).count) (flat base cells).cells
      (condition scope memory).answer (flat base cells).answer
      (λ v. turn_or_none (is_one (scalar_number v)) memory f) (λ v. turn_or_none (is_one v) (flat base cells).cells g) (omega arith) c.stands c.answer
      (λ v n valued. subst (λ x. RunAgrees (turn_or_none (is_one x) memory f) (turn_or_none (is_one n) (flat base cells).cells g)) (sym valued.0)
      (turn-agrees (is_one n) memory (flat base cells).cells f g c.stands (turn memory (flat base cells).cells c.stands)))

  stopped : (memory : Memory) (cells : Cells) → Stood memory cells → RunAgrees (record { memory = memory; end = traps; count = 0 }) (ending traps cells)
  stopped memory cells stood = record { count = refl; end = refl; stands = stood; range = no-number context.result }

  turns-agree : (n : ℕ) (condition : EvaluatesC CValue) (flat : Evaluates ℤ) (body : RunsC) (run : ℕ → Cells → Outcome Cells) →
      Conditions condition flat →
      ((memory : Memory) (cells : Cells) → Stood memory cells → RunAgrees (body scope memory) (run base cells)) →
      (memory : Memory) (cells : Cells) → Stood memory cells →
      RunAgrees (loop_with_turns n (once_more_c condition scope) (body scope) memory) (loop_with_turns n (once_more flat base) (run base) cells)
  unfolding loop_with_turns
  turns-agree zero condition flat body run h b memory cells stood =
      once-agrees condition flat h (λ m. record { memory = m; end = traps; count = 0 }) (ending traps) stopped memory cells stood
  turns-agree (suc n) condition flat body run h b memory cells stood =
      once-agrees condition flat h (λ m. turn_end (body scope m).count (body scope m).memory (body scope m).end
      (loop_with_turns n (once_more_c condition scope) (body scope)))
      (λ c. turn_end (run base c).count (run base c).memory (run base c).end (loop_with_turns n (once_more flat base) (run base)))
      (λ m c there.
      let r : RunAgrees (body scope m) (run base c) = b m c there in
      subst (λ e. RunAgrees (turn_end (body scope m).count (body scope m).memory (body scope m).end
      (loop_with_turns n (once_more_c condition scope) (body scope)))
      (turn_end (run base c).count (run base c).memory e (loop_with_turns n (once_more flat base) (run base)))) r.end
      (turn-end-agrees (body scope m).count (run base c).count (body scope m).memory (run base c).memory (body scope m).end
      (loop_with_turns n (once_more_c condition scope) (body scope))
      (loop_with_turns n (once_more flat base) (run base)) r.count r.stands r.range
      (turns-agree n condition flat body run h b (body scope m).memory (run base c).memory r.stands)))
      memory cells stood

  -- ---- each kind

  condition-agrees : (e : CExpr) → condition_faults e context ≡ [] → Roomy (calls_in e) → spells_expr e ≡ true →
      Conditions (value_c e) (value_flat e ground)
  condition-agrees e none room spelled memory cells stood =
      let h = expr-agrees known lists structs shaped limit context scope ground chains base w running memory e (first_empty _ _ none) room spelled cells stood in
      record {
        count = h.count;
        stands = h.stands;
        answer = both (value_c e scope memory).answer (value_flat e ground base cells).answer h.answer;
      }
    where
      typed : agree (judged_expr e context).ty (Some bool_type) ≡ true
      typed = unless-nil (agree (judged_expr e context).ty (Some bool_type)) condition_type _ (second_empty (judged_expr e context).faults _ none)

      both : (a : Option CValue) (b : Option ℤ) → Matches (Value memory (judged_expr e context).ty) a b → Matches (Value memory (Some bool_type)) a b
      both None None m = tt
      both None (Some n) m = absurd m
      both (Some v) None m = absurd m
      both (Some v) (Some n) m = value-agrees known lists structs shaped limit w memory (judged_expr e context).ty bool_type v n typed m

  goes : (n k : ℕ) (memory : Memory) (cells : Cells) → n ≡ k → Stood memory cells →
      RunAgrees (record { memory = memory; end = goes_on; count = n }) (record { memory = cells; end = goes_on; count = k })
  goes n k memory cells same stood = record { count = same; end = refl; stands = stood; range = unending context.result goes_on refl }

  -- ---- writing

  -- the type of what is written
  written-as : (goal : CType) (memory : Memory) (l : Location) (k : ℕ) (v : CValue) (n : ℤ) (cells : Cells) →
      PlacedAt known lists structs shaped limit w l goal k → ValuedAs known lists structs shaped limit w memory goal v n →
      Stood memory cells → Stood (set_at memory l v) (written_at ground.sizes (Some goal) k n cells)
  written-as (OfScalar kind) memory l k v n cells placed valued stood =
      set-stands known lists structs shaped limit w running.separate running.low memory cells stood l kind k v n placed valued.0 valued.1
  written-as (OfStruct name) memory l k v n cells placed valued stood =
      let a : k + size_of_type known (OfStruct name) ≤ w.top = placed-below known lists structs shaped limit w l (OfStruct name) k running.separate placed in
      let b : valued.k + size_of_type known (OfStruct name) ≤ w.top =
      placed-below known lists structs shaped limit w valued.place (OfStruct name) valued.k running.separate valued.placed in
      let low = running.low in
      let small = running.small in
      let sized : size_of_type ground.sizes (OfStruct name) ≡ size_of_type known (OfStruct name) =
      sized-type known lists structs shaped limit context scope ground chains base w running memory (OfStruct name) ∙ omega arith in
      let at : cell_number n ≡ valued.k = ap cell_number valued.from ∙ omega arith in
      subst (λ s. Stood (set_at memory l v) (copied s (cell_number n) k cells)) (sym sized)
      (subst (λ f. Stood (set_at memory l v) (copied (size_of_type known (OfStruct name)) f k cells)) (sym at)
      (copy-stands known lists structs shaped limit w running.separate running.low memory cells stood l valued.place (OfStruct name) k valued.k v placed
      valued.placed valued.is))

  written-value : (goal : CType) (reached typed : Option CType) (memory : Memory) (l : Location) (k : ℕ) (v : CValue) (n : ℤ) (cells : Cells) →
      reached ≡ Some goal → agree (Some goal) typed ≡ true →
      PlacedAt known lists structs shaped limit w l goal k → Value memory typed v n → Stood memory cells →
      Stood (set_at memory l v) (written_at ground.sizes reached k n cells)
  written-value goal reached None memory l k v n cells to same placed valued stood = absurd valued
  written-value goal reached (Some ty) memory l k v n cells to same placed valued stood =
      subst (λ o. Stood (set_at memory l v) (written_at ground.sizes o k n cells)) (sym to)
      (written-as goal memory l k v n cells placed
      (subst (λ t. ValuedAs known lists structs shaped limit w memory t v n) (sym (same-type goal ty same)) valued) stood)

  -- what was evaluated and written
  pub record SetAgrees (memory : Memory) (c : Counted Memory) (l : FlatAnswer ℤ) : Type 0 where
    pub count : c.count ≡ l.count
    pub result : RunAgrees (ended_by memory (1 + c.count) c.answer going) (ended_by l.cells (1 + l.count) l.answer (λ v. going l.cells))

  set-value : (memory : Memory) (l : Location) (k n m : ℕ) (cells : Cells) (a : Option CValue) (b : Option ℤ) (goal : CType)
      (reached typed : Option CType) →
      n ≡ m → Stood memory cells → Matches (Value memory typed) a b →
      reached ≡ Some goal → agree (Some goal) typed ≡ true → PlacedAt known lists structs shaped limit w l goal k →
      SetAgrees memory (going_on_c n a (λ v. given (Some (set_at memory l v))))
      (going_on cells m b (λ after v. flat_answer (written_at ground.sizes reached k v after) (Some v)))
  set-value memory l k n m cells None None goal reached typed same stood h to agrees placed =
      record { count = same; result = record { count = omega arith; end = refl; stands = stood; range = no-number context.result } }
  set-value memory l k n m cells None (Some b) goal reached typed same stood h to agrees placed = absurd h
  set-value memory l k n m cells (Some a) None goal reached typed same stood h to agrees placed = absurd h
  set-value memory l k n m cells (Some v) (Some b) goal reached typed same stood h to agrees placed = record {
    count = omega arith;
    result = goes _ _ (set_at memory l v) (written_at ground.sizes reached k b cells) (omega arith)
        (written-value goal reached typed memory l k v b cells to agrees placed h stood);
  }

  set-place : (memory : Memory) (n m : ℕ) (cells : Cells) (a : Option Location) (b : Option ℕ) (goal : CType) (f : Location → Counted Memory)
      (g : Cells → ℕ → FlatAnswer ℤ) → n ≡ m → Stood memory cells →
      Matches (λ l k. PlacedAt known lists structs shaped limit w l goal k) a b →
      ((l : Location) (k : ℕ) → PlacedAt known lists structs shaped limit w l goal k → SetAgrees memory (f l) (g cells k)) →
      SetAgrees memory (going_on_c n a f) (going_on cells m b g)
  set-place memory n m cells None None goal f g same stood h rest =
      record { count = same; result = record { count = omega arith; end = refl; stands = stood; range = no-number context.result } }
  set-place memory n m cells None (Some b) goal f g same stood h rest = absurd h
  set-place memory n m cells (Some a) None goal f g same stood h rest = absurd h
  set-place memory n m cells (Some l) (Some k) goal f g same stood h rest =
      let s : SetAgrees memory (f l) (g cells k) = rest l k h in
      more-set n m (f l) (g cells k) same s
    where
      more-ended : (n m p q : ℕ) (a : Option Memory) (b : Option ℤ) (cells : Cells) → n ≡ m → p ≡ q →
          RunAgrees (ended_by memory (1 + p) a going) (ended_by cells (1 + q) b (λ v. going cells)) →
          RunAgrees (ended_by memory (1 + (n + p)) a going) (ended_by cells (1 + (m + q)) b (λ v. going cells))
      more-ended n m p q None None cells same alike r = record { count = omega arith; end = refl; stands = r.stands; range = r.range }
      more-ended n m p q None (Some b) cells same alike r = record { count = omega arith; end = r.end; stands = r.stands; range = r.range }
      more-ended n m p q (Some a) None cells same alike r = record { count = omega arith; end = r.end; stands = r.stands; range = r.range }
      more-ended n m p q (Some a) (Some b) cells same alike r = record { count = omega arith; end = refl; stands = r.stands; range = r.range }

      more-set : (n m : ℕ) (c : Counted Memory) (l : FlatAnswer ℤ) → n ≡ m → SetAgrees memory c l →
          SetAgrees memory (record { count = n + c.count; answer = c.answer }) (record { cells = l.cells; count = m + l.count; answer = l.answer })
      more-set n m c l same s =
          record { count = let e = s.count in omega arith; result = more-ended n m c.count l.count c.answer l.answer l.cells same s.count s.result }

  -- ---- statements

  abbrev OfStmt : CStmt → Type 0
  OfStmt s = (looped : Bool) → faults_in_stmt s context looped ≡ [] → Roomy (calls_in_stmt s) → spells_stmt s ≡ true →
      (memory : Memory) (cells : Cells) →
      Stood memory cells →
      RunAgrees (runs_c s scope memory) (runs_flat s ground base cells)

  block-agrees : (stmts : List CStmt) → All OfStmt stmts → (looped : Bool) → block_faults (map faults_in_stmt stmts) context looped ≡ [] →
      Roomy (joined (map calls_in_stmt stmts)) →
      all_of (map spells_stmt stmts) ≡ true → (memory : Memory) (cells : Cells) → Stood memory cells →
      RunAgrees (block_of_c (map runs_c stmts) scope memory) (block_of (map runs_flat stmts) ground base cells)
  block-agrees [] h looped none room spelled memory cells stood = goes 0 0 memory cells refl stood
  block-agrees (s ∷ stmts) h looped none room spelled memory cells stood =
      let r : RunAgrees (runs_c s scope memory) (runs_flat s ground base cells) =
      All-head OfStmt s stmts h looped (first_empty _ _ none) (room-left chains w.top limit (calls_in_stmt s) _ room) (and_first _ _ spelled) memory cells stood in
      subst (λ e. RunAgrees (block_of_c (map runs_c (s ∷ stmts)) scope memory)
      (following_end (runs_flat s ground base cells).count (runs_flat s ground base cells).memory e (λ c. block_of (map runs_flat stmts) ground base c)))
      r.end
      (following-agrees (runs_c s scope memory).count (runs_flat s ground base cells).count (runs_c s scope memory).memory
      (runs_flat s ground base cells).memory (runs_c s scope memory).end
      (λ m. block_of_c (map runs_c stmts) scope m) (λ c. block_of (map runs_flat stmts) ground base c) r.count r.stands r.range
      (block-agrees stmts (All-tail OfStmt s stmts h) looped (second_empty (faults_in_stmt s context looped) _ none)
      (room-right chains w.top limit (calls_in_stmt s) _ room) (and_second (spells_stmt s) _ spelled)
      (runs_c s scope memory).memory (runs_flat s ground base cells).memory r.stands))

  set-case : (at : Place) (p : CPlace) (e : CExpr) (looped : Bool) →
      (judged_place p context at).faults
      ++ ((judged_expr e context).faults ++ (unless (agree (judged_place p context at).ty (judged_expr e context).ty) assigned_type at
      ++ unless (not (context.is_read_only && (judged_place p context at).through)) changes_nothing at)) ≡ [] →
      Roomy (calls_in_place p ++ calls_in e) → (spells_place p && spells_expr e) ≡ true → (memory : Memory) (cells : Cells) → Stood memory cells →
      RunAgrees (executed_c memory (next_c (location_c p scope memory)
      (λ l. next_c (value_c e scope memory) (λ v. given (Some (set_at memory l v))))) going)
      (executed 1 (flat_next (address_of (reach_flat p ground) base cells)
      (λ c k. flat_next (value_flat e ground base c) (λ d v. flat_answer (written_at ground.sizes (reach_flat p ground).ty k v d) (Some v)))) (λ c v. going c))
  set-case at p e looped none room spelled memory cells stood =
      let f = place-facts known lists structs shaped limit context scope ground chains base w running memory p at (first_empty _ _ none)
      (room-left chains w.top limit (calls_in_place p) (calls_in e) room) (and_first _ _ spelled) in
      let h1 = second_empty (judged_place p context at).faults _ none in
      let h2 = second_empty (judged_expr e context).faults _ h1 in
      let same = unless-nil (agree (judged_place p context at).ty (judged_expr e context).ty) assigned_type at (first_empty _ _ h2) in
      let typed : agree (Some f.goal) (judged_expr e context).ty ≡ true = ap (λ o. agree o (judged_expr e context).ty) (sym f.is) ∙ same in
      let l = f.moves cells stood in
      (set-place memory (location_c p scope memory).count (address_of (reach_flat p ground) base cells).count
      (address_of (reach_flat p ground) base cells).cells
      (location_c p scope memory).answer (address_of (reach_flat p ground) base cells).answer f.goal
      (λ l. next_c (value_c e scope memory) (λ v. given (Some (set_at memory l v))))
      (λ c k. flat_next (value_flat e ground base c) (λ d v. flat_answer (written_at ground.sizes (reach_flat p ground).ty k v d) (Some v))) l.count l.stands l.answer
      (λ x k placed.
      let v = expr-agrees known lists structs shaped limit context scope ground chains base w running memory e (first_empty _ _ h1)
      (room-right chains w.top limit (calls_in_place p) (calls_in e) room) (and_second (spells_place p) _ spelled)
      (address_of (reach_flat p ground) base cells).cells l.stands in
      set-value memory x k (value_c e scope memory).count (value_flat e ground base (address_of (reach_flat p ground) base cells).cells).count
      (value_flat e ground base (address_of (reach_flat p ground) base cells).cells).cells
      (value_c e scope memory).answer (value_flat e ground base (address_of (reach_flat p ground) base cells).cells).answer f.goal (reach_flat p ground).ty
      (judged_expr e context).ty v.count v.stands v.answer f.reached typed placed)).result

  clear-case : (at : Place) (p : CPlace) (name : Text) (looped : Bool) →
      (judged_place p context at).faults
      ++ (unless (is_some (context.structs name)) declared_before at
      ++ (unless (agree (judged_place p context at).ty (Some (OfStruct name))) assigned_type at
      ++ unless (not (context.is_read_only && (judged_place p context at).through)) changes_nothing at)) ≡ [] →
      Roomy (calls_in_place p) → spells_place p ≡ true → (memory : Memory) (cells : Cells) → Stood memory cells →
      RunAgrees (executed_c memory (location_c p scope memory) (λ l. going (set_at memory l zeros)))
      (executed 1 (address_of (reach_flat p ground) base cells) (λ c k. going (zeroed (entry_or 0 ground.sizes name) k c)))
  clear-case at p name looped none room spelled memory cells stood =
      let f = place-facts known lists structs shaped limit context scope ground chains base w running memory p at (first_empty _ _ none) room spelled in
      let h1 = second_empty (judged_place p context at).faults _ none in
      let h2 = second_empty (unless (is_some (context.structs name)) declared_before at) _ h1 in
      let same = unless-nil (agree (judged_place p context at).ty (Some (OfStruct name))) assigned_type at (first_empty _ _ h2) in
      let goal : f.goal ≡ OfStruct name = same-type f.goal (OfStruct name) (ap (λ o. agree o (Some (OfStruct name))) (sym f.is) ∙ same) in
      executed-agrees (λ l k. PlacedAt known lists structs shaped limit w l f.goal k) memory (location_c p scope memory)
      (address_of (reach_flat p ground) base cells) (λ l. going (set_at memory l zeros))
      (λ c k. going (zeroed (entry_or 0 ground.sizes name) k c)) (f.moves cells stood)
      (λ l k after placed there.
      let here : PlacedAt known lists structs shaped limit w l (OfStruct name) k =
      subst (λ t. PlacedAt known lists structs shaped limit w l t k) goal placed in
      let a : k + size_of_type known (OfStruct name) ≤ w.top = placed-below known lists structs shaped limit w l (OfStruct name) k running.separate here in
      let low = running.low in
      let small = running.small in
      let sized : size_of_type ground.sizes (OfStruct name) ≡ size_of_type known (OfStruct name) =
      sized-type known lists structs shaped limit context scope ground chains base w running memory (OfStruct name) ∙ omega arith in
      goes 0 0 (set_at memory l zeros) (zeroed (entry_or 0 ground.sizes name) k after) refl
      (subst (λ s. Stood (set_at memory l zeros) (zeroed s k after)) (sym sized)
      (clear-stands known lists structs shaped limit w running.separate running.low memory after there l (OfStruct name) k here)))

  call-case : (signature : Option Signature) (memory : Memory) (c : CallResult) (l : FlatAnswer ℤ) →
      CallFacts known lists structs shaped limit context scope ground chains base w running memory signature c l →
      RunAgrees (call_outcome c) (executed 1 l (λ d v. going d))
  call-case signature memory c l facts = ended c.result l.answer facts.agrees.answer
    where
      ended : (a b : Option ℤ) → a ≡ b →
          RunAgrees (record { memory = c.memory; end = call_end a; count = 1 + c.count }) (ended_by l.cells (1 + l.count) b (λ v. going l.cells))
      ended None None is =
          record { count = let e = facts.agrees.count in omega arith; end = refl; stands = facts.agrees.stands; range = no-number context.result }
      ended (Some n) (Some m) is = goes _ _ c.memory l.cells (let e = facts.agrees.count in omega arith) facts.agrees.stands
      ended None (Some m) is = cc
      ended (Some n) None is = cc

  choose-agrees : (b : Bool) (f g : RunsC) (h k : FlatStmtMeaning) (memory : Memory) (cells : Cells) → RunAgrees (f scope memory) (h ground base cells) →
      RunAgrees (g scope memory) (k ground base cells) →
      RunAgrees ((if b then f else g) scope memory) ((if b then h else k) ground base cells)
  choose-agrees true f g h k memory cells x y = x
  choose-agrees false f g h k memory cells x y = y

  if-case : (e : CExpr) (block other : RunsC) (flat-block flat-other : FlatStmtMeaning) → condition_faults e context ≡ [] →
      Roomy (calls_in e) → spells_expr e ≡ true →
      ((memory : Memory) (cells : Cells) → Stood memory cells → RunAgrees (block scope memory) (flat-block ground base cells)) →
      ((memory : Memory) (cells : Cells) → Stood memory cells → RunAgrees (other scope memory) (flat-other ground base cells)) →
      (memory : Memory) (cells : Cells) → Stood memory cells →
      RunAgrees (executed_c memory (value_c e scope memory) (λ v. (if is_one (scalar_number v) then block else other) scope memory))
      (executed 1 (value_flat e ground base cells) (λ c v. (if is_one v then flat-block else flat-other) ground base c))
  if-case e block other flat-block flat-other none room spelled hb ho memory cells stood =
      executed-agrees (Value memory (Some bool_type)) memory (value_c e scope memory) (value_flat e ground base cells)
      (λ v. (if is_one (scalar_number v) then block else other) scope memory)
      (λ c v. (if is_one v then flat-block else flat-other) ground base c) (condition-agrees e none room spelled memory cells stood)
      (λ v n after valued there. subst
      (λ x. RunAgrees ((if is_one x then block else other) scope memory) ((if is_one n then flat-block else flat-other) ground base after)) (sym valued.0)
      (choose-agrees (is_one n) block other flat-block flat-other memory after (hb memory after there) (ho memory after there)))

  return-case : (e : CExpr) (at : Place) (r : Option Scalar) → context.result ≡ r → return_faults (Some e) r context at ≡ [] → Roomy (calls_in e) →
      spells_expr e ≡ true → (memory : Memory) (cells : Cells) → Stood memory cells →
      RunAgrees (executed_c memory (value_c e scope memory) (λ v. ending (returns (scalar_number v)) memory))
      (executed 1 (value_flat e ground base cells) (λ c v. ending (returns v) c))
  return-case e at None is none room spelled memory cells stood =
      absurd (let x : false ≡ true = unless-nil false returns_result at (second_empty (judged_expr e context).faults _ none) in cc)
  return-case e at (Some t) is none room spelled memory cells stood =
      let typed = unless-nil (agree (judged_expr e context).ty (Some (OfScalar t))) returns_result _ (second_empty (judged_expr e context).faults _ none) in
      executed-agrees (Value memory (judged_expr e context).ty) memory (value_c e scope memory) (value_flat e ground base cells)
      (λ v. ending (returns (scalar_number v)) memory) (λ c v. ending (returns v) c)
      (expr-agrees known lists structs shaped limit context scope ground chains base w running memory e (first_empty _ _ none) room spelled cells stood)
      (λ v n after valued there.
      let s = value-agrees known lists structs shaped limit w memory (judged_expr e context).ty (OfScalar t) v n typed valued in
      record {
        count = refl;
        end = ap returns s.0;
        stands = there;
        range = subst (λ o. EndRanged o (returns (scalar_number v))) (sym is)
            (subst (λ x. in_range t x ≡ true) (sym s.0) s.1);
      })

  branching-case : (at : Place) (e : CExpr) (block : List CStmt) (other : Option (List CStmt)) → All OfStmt block → Optional (All OfStmt) other →
      OfStmt (stmt at (CStmtKind-F.If e block other))
  branching-case at e block None h o looped none room spelled memory cells stood =
      let n : condition_faults e context ++ (block_faults (map faults_in_stmt block) context looped ++ []) ≡ [] =
      rw (fold-roll-CStmt, fold-roll-CStmtKind) at none in
      let r : Roomy (calls_in e ++ joined (map calls_in_stmt block) ++ []) = rw (fold-roll-CStmt, fold-roll-CStmtKind) at room in
      let s : (spells_expr e && (all_of (map spells_stmt block) && true)) ≡ true = rw (fold-roll-CStmt, fold-roll-CStmtKind) at spelled in
      rw (fold-roll-CStmt, fold-roll-CStmt, fold-roll-CStmtKind, fold-roll-CStmtKind)
      (if-case e (block_of_c (map runs_c block)) (block_of_c []) (block_of (map runs_flat block)) (block_of []) (first_empty _ _ n)
      (room-left chains w.top limit (calls_in e) (joined (map calls_in_stmt block))
      (room-left chains w.top limit (calls_in e ++ joined (map calls_in_stmt block)) [] r)) (and_first _ _ s)
      (λ m c there. block-agrees block h looped (first_empty _ _ (second_empty (condition_faults e context) _ n))
      (room-right chains w.top limit (calls_in e) (joined (map calls_in_stmt block))
      (room-left chains w.top limit (calls_in e ++ joined (map calls_in_stmt block)) [] r))
      (and_first _ _ (and_second (spells_expr e) _ s)) m c there)
      (λ m c there. goes 0 0 m c refl there) memory cells stood)
  branching-case at e block (Some other) h o looped none room spelled memory cells stood =
      let n : condition_faults e context ++ (block_faults (map faults_in_stmt block) context looped ++ block_faults (map faults_in_stmt other) context looped)
      ≡ [] = rw (fold-roll-CStmt, fold-roll-CStmtKind) at none in
      let r : Roomy (calls_in e ++ joined (map calls_in_stmt block) ++ joined (map calls_in_stmt other)) = rw (fold-roll-CStmt, fold-roll-CStmtKind) at room in
      let s : (spells_expr e && (all_of (map spells_stmt block) && all_of (map spells_stmt other))) ≡ true =
      rw (fold-roll-CStmt, fold-roll-CStmtKind) at spelled in
      let n2 = second_empty (condition_faults e context) _ n in
      let r1 = room-left chains w.top limit (calls_in e ++ joined (map calls_in_stmt block)) (joined (map calls_in_stmt other)) r in
      rw (fold-roll-CStmt, fold-roll-CStmt, fold-roll-CStmtKind, fold-roll-CStmtKind)
      (if-case e (block_of_c (map runs_c block)) (block_of_c (map runs_c other)) (block_of (map runs_flat block))
      (block_of (map runs_flat other)) (first_empty _ _ n)
      (room-left chains w.top limit (calls_in e) (joined (map calls_in_stmt block)) r1) (and_first _ _ s)
      (λ m c there. block-agrees block h looped (first_empty _ _ n2) (room-right chains w.top limit (calls_in e) (joined (map calls_in_stmt block)) r1)
      (and_first _ _ (and_second (spells_expr e) _ s)) m c there)
      (λ m c there. block-agrees other o looped (second_empty (block_faults (map faults_in_stmt block) context looped) _ n2)
      (room-right chains w.top limit (calls_in e ++ joined (map calls_in_stmt block)) (joined (map calls_in_stmt other)) r)
      (and_second (all_of (map spells_stmt block)) _ (and_second (spells_expr e) _ s)) m c there)
      memory cells stood)

  loop-case : (at : Place) (turn : Text) (e : CExpr) (body : List CStmt) → All OfStmt body → OfStmt (stmt at (CStmtKind-F.Loop turn e body))
  loop-case at turn e body h looped none room spelled memory cells stood =
      let n : condition_faults e context ++ block_faults (map faults_in_stmt body) context true ≡ [] = rw (fold-roll-CStmt, fold-roll-CStmtKind) at none in
      let r : Roomy (calls_in e ++ joined (map calls_in_stmt body)) = rw (fold-roll-CStmt, fold-roll-CStmtKind) at room in
      let s : (is_turn_name turn && (spells_expr e && all_of (map spells_stmt body))) ≡ true = rw (fold-roll-CStmt, fold-roll-CStmtKind) at spelled in
      let s2 = and_second (is_turn_name turn) _ s in
      let t : RunAgrees (loop_with_turns turn_limit (once_more_c (value_c e) scope) (block_of_c (map runs_c body) scope) memory)
      (loop_with_turns turn_limit (once_more (value_flat e ground) base) (block_of (map runs_flat body) ground base) cells) =
      turns-agree turn_limit (value_c e) (value_flat e ground) (block_of_c (map runs_c body)) (block_of (map runs_flat body) ground)
      (condition-agrees e (first_empty _ _ n) (room-left chains w.top limit (calls_in e) (joined (map calls_in_stmt body)) r) (and_first _ _ s2))
      (λ m c there. block-agrees body h true (second_empty (condition_faults e context) _ n)
      (room-right chains w.top limit (calls_in e) (joined (map calls_in_stmt body)) r) (and_second (spells_expr e) _ s2) m c there) memory cells stood in
      rw (fold-roll-CStmt, fold-roll-CStmt, fold-roll-CStmtKind, fold-roll-CStmtKind)
      (once-later (loop_with_turns turn_limit (once_more_c (value_c e) scope) (block_of_c (map runs_c body) scope) memory)
      (loop_with_turns turn_limit (once_more (value_flat e ground) base) (block_of (map runs_flat body) ground base) cells) t)
    where
      once-later : (o : Outcome Memory) (r : Outcome Cells) → RunAgrees o r → RunAgrees (after_statements 1 o) (after_statements 1 r)
      once-later o r h = record { count = let e = h.count in omega arith; end = h.end; stands = h.stands; range = h.range }

  returning-case : (at : Place) (e : Option CExpr) → OfStmt (stmt at (CStmtKind-F.Return e))
  returning-case at None looped none room spelled memory cells stood =
      let n : return_faults None context.result context at ≡ [] = rw (fold-roll-CStmt, fold-roll-CStmtKind) at none in
      rw (fold-roll-CStmt, fold-roll-CStmt, fold-roll-CStmtKind, fold-roll-CStmtKind)
      (record { count = refl; end = refl; stands = stood; range = nothing context.result n })
    where
      nothing : (r : Option Scalar) → return_faults None r context at ≡ [] → EndRanged r (returns (pos 0))
      nothing None h = tt
      nothing (Some t) h = zero-fits t
  returning-case at (Some e) looped none room spelled memory cells stood =
      rw (fold-roll-CStmt, fold-roll-CStmt, fold-roll-CStmtKind, fold-roll-CStmtKind)
      (return-case e at context.result refl (rw (fold-roll-CStmt, fold-roll-CStmtKind) at none) (rw (fold-roll-CStmt, fold-roll-CStmtKind) at room)
      (rw (fold-roll-CStmt, fold-roll-CStmtKind) at spelled) memory cells stood)

  stmt_cases : StmtCases OfStmt
  stmt_cases = record {
    set = λ at p e looped none room spelled memory cells stood.
        rw (fold-roll-CStmt, fold-roll-CStmt, fold-roll-CStmtKind, fold-roll-CStmtKind)
        (set-case at p e looped (rw (fold-roll-CStmt, fold-roll-CStmtKind) at none) (rw (fold-roll-CStmt, fold-roll-CStmtKind) at room)
        (rw (fold-roll-CStmt, fold-roll-CStmtKind) at spelled) memory cells stood);
    clear = λ at p name looped none room spelled memory cells stood.
        let s : (spells_place p && is_struct_name name) ≡ true = rw (fold-roll-CStmt, fold-roll-CStmtKind) at spelled in
        rw (fold-roll-CStmt, fold-roll-CStmt, fold-roll-CStmtKind, fold-roll-CStmtKind)
        (clear-case at p name looped (rw (fold-roll-CStmt, fold-roll-CStmtKind) at none) (rw (fold-roll-CStmt, fold-roll-CStmtKind) at room) (and_first _ _ s)
        memory cells stood);
    call = λ at c looped none room spelled memory cells stood.
        rw (fold-roll-CStmt, fold-roll-CStmt, fold-roll-CStmtKind, fold-roll-CStmtKind)
        (call-case (judged_call c context at).signature memory (call_c c scope memory) (call_flat c ground base cells)
        (call-facts known lists structs shaped limit context scope ground chains base w running memory c at (rw (fold-roll-CStmt, fold-roll-CStmtKind) at none)
        (rw (fold-roll-CStmt, fold-roll-CStmtKind) at room)
        (rw (fold-roll-CStmt, fold-roll-CStmtKind) at spelled) cells stood));
    branching = branching-case;
    loop = loop-case;
    break = λ at looped none room spelled memory cells stood. rw (fold-roll-CStmt, fold-roll-CStmt, fold-roll-CStmtKind, fold-roll-CStmtKind)
        (record { count = refl; end = refl; stands = stood; range = unbroken context.result });
    returns = returning-case;
  }
    where
      unbroken : (r : Option Scalar) → EndRanged r breaks
      unbroken None = tt
      unbroken (Some t) = tt

  stmt-agrees : (s : CStmt) → OfStmt s
  stmt-agrees = induct_stmt OfStmt stmt_cases

  every-stmt : (stmts : List CStmt) → All OfStmt stmts
  every-stmt [] = All-nil OfStmt
  every-stmt (s ∷ stmts) = All-cons OfStmt s stmts (stmt-agrees s) (every-stmt stmts)

  -- the statements of a body
  pub body-agrees : (stmts : List CStmt) (looped : Bool) → block_faults (map faults_in_stmt stmts) context looped ≡ [] →
      Roomy (joined (map calls_in_stmt stmts)) → all_of (map spells_stmt stmts) ≡ true →
      (memory : Memory) (cells : Cells) → Stood memory cells →
      RunAgrees (block_of_c (map runs_c stmts) scope memory) (block_of (map runs_flat stmts) ground base cells)
  body-agrees stmts looped none room spelled memory cells stood = block-agrees stmts (every-stmt stmts) looped none room spelled memory cells stood
