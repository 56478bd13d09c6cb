-- The code of statements, functions and files.
use Rattle.std.proofs.Common.{◌≡◌, ◌≤◌, ℕ, suc, ◌+◌, ℤ, pos, Bool, true, false, List, [], ◌∷◌, ◌++◌, map, length, Option, Some, None, refl, sym}
use Rattle.std.proofs.Common.{subst, ◌∙◌, add-zero, append-nil, length-append, le_of_eq, arith}
use Rattle.std.specs.Prelude.{All, ◌&&◌, bytes_eq, if◌then◌else◌}
use Rattle.std.specs.Option.{option_or}
use Rattle.std.proofs.lemmas.List.Elements.{All-cons, All-head, All-nil, All-tail}
use Rattle.bl_tree.specs.declared.text.Text.{Text}
use Rattle.bl_tree.specs.declared.place.Place.{Place}
use Rattle.bl_tree.specs.declared.c.CExpr.{CExpr}
use Rattle.bl_tree.specs.declared.c.CPlace.{CPlace}
use Rattle.bl_tree.specs.declared.c.CStmt.{CStmt, fold-roll-CStmt}
use Rattle.bl_tree.specs.declared.c.CStmtKind.{fold-roll-CStmtKind}
use Rattle.bl_tree.specs.declared.c.CStmtKind.TheOpen.{CStmtKind-F}
use Rattle.bl_tree.specs.declared.c.CFunc.{CFunc}
use Rattle.bl_tree.specs.declared.c.CStruct.{CStruct}
use Rattle.bl_ctext_semantics.specs.Course.{End, Outcome, breaks, goes_on, result_at, returns, traps}
use Rattle.bl_ctext_semantics.specs.Sizes.{Sizes}
use Rattle.bl_ctext_semantics.specs.Tables.{Table, entry_or, found, no_entries, with_entry}
use Rattle.bl_ctext_semantics.proofs.Induction.{Optional, StmtCases, induct_stmt, stmt}
use Rattle.bl_ctext_semantics_laws.specs.Flat.{Cells, Evaluates, FlatAnswer, Routine, address_of, block_of, call_flat, executed, flat_answer, flat_next, reach_flat}
use Rattle.bl_ctext_semantics_laws.specs.Flat.{cell_at, routine_flat, routines_after, runs_flat, value_flat, written_at}
use Rattle.bl_ctext_semantics_laws.specs.Layout.{Layouts, Slot, capped_sizes, frame_cells, layouts, slots_of}
use Rattle.bl_ctext_semantics_laws.specs.Reaching.{Ground, Reach}
use Rattle.bl_ctext_semantics.specs.Course.{going}
use Rattle.bl_crun_code.specs.declared.instruction.Act.TheVariants as act
use Rattle.bl_crun_code.specs.declared.instruction.Operand.TheVariants as op
use Rattle.bl_crun_code.specs.Code.{Code, FunctionEntry, Valued, with_begun, code_of_stmts, expr_valued, code_of_block, code_of_call, code_of_stmt, else_code, entries_from, function_entry, code_of_function}
use Rattle.bl_crun_code.specs.Code.{functions_code, uncounted, reach_calm, reach_of_place, set_code}
use Rattle.bl_crun_code.specs.Vm.{StepResult}
use Rattle.bl_crun_code.specs.Laws.{Arrives, BothDo, ImplementsRoutine, NamedFunctionsRun, code_of_file, vm_ended, entry_in_file, entry_state, routine_in_file}
use Rattle.bl_crun_code.proofs.Runs.{After, Goes, Run, Span, arrives-now, begun-zero, span-back, span-front, span-is, span-none, st}
use Rattle.bl_crun_code.proofs.Parts.{Values}
use Rattle.bl_crun_code.proofs.Places.{Leads, place-spots}
use Rattle.bl_crun_code.proofs.Calls.{BothServe, Knows, Serves, back_with}
use Rattle.bl_crun_code.proofs.Expressions.{by_code, by_value, call-does, expr-does, place-leads}
use Rattle.bl_crun_code.proofs.Statements.{Ends, Performs, bare-return-performs, break-performs, call-performs, clear-performs, empty-performs, if-performs}
use Rattle.bl_crun_code.proofs.Statements.{return-performs, set-performs, then-performs, zero-returned}
use Rattle.bl_crun_code.proofs.Loops.{loop-performs}

module _ (r : Run) (sizes : Sizes) (structs : Layouts) (slots : Table Slot) (frame : ℕ) (entries : Table FunctionEntry) (routines : Table Routine)
    (knows : Knows r entries routines) where
  abbrev Here : Ground FunctionEntry
  Here = by_code r sizes structs slots frame entries routines knows

  abbrev There : Ground Routine
  There = by_value r sizes structs slots frame entries routines knows

  abbrev OfStmt : CStmt → Type 0
  OfStmt s = (depth left : ℕ) → Performs r depth left (code_of_stmt s Here depth left) (runs_flat s There)

  expr-values : (e : CExpr) → Values r (expr_valued e Here) (value_flat e There)
  expr-values = expr-does r sizes structs slots frame entries routines knows

  leads : (p : CPlace) → Leads (Values r) (reach_of_place p Here) (reach_flat p There)
  leads = place-leads r sizes structs slots frame entries routines knows

  block-runs : (stmts : List CStmt) → All OfStmt stmts → (depth left : ℕ) →
      Performs r depth left (code_of_stmts (map code_of_stmt stmts) Here depth left) (block_of (map runs_flat stmts) There)
  block-runs [] h depth left = empty-performs r depth left
  block-runs (stmt ∷ stmts) h depth left =
      let tail : Code = code_of_stmts (map code_of_stmt stmts) Here depth left in
      then-performs r depth left (code_of_stmt stmt Here depth (length tail + left)) tail (runs_flat stmt There) (block_of (map runs_flat stmts) There)
      (All-head OfStmt stmt stmts h depth (length tail + left)) (block-runs stmts (All-tail OfStmt stmt stmts h) depth left)

  if-case : (at : Place) (e : CExpr) (block : List CStmt) (other : Option (List CStmt)) → All OfStmt block → Optional (All OfStmt) other →
      OfStmt (stmt at (CStmtKind-F.If e block other))
  if-case at e block None h k depth left =
      rw (fold-roll-CStmt, fold-roll-CStmt, fold-roll-CStmtKind, fold-roll-CStmtKind)
      (if-performs r depth left (code_of_stmts (map code_of_stmt block) Here depth (0 + left)) [] (block_of (map runs_flat block)) (block_of []) There
      (block-runs block h depth (0 + left)) (empty-performs r depth left) (expr_valued e Here) (value_flat e There) (expr-values e))
  if-case at e block (Some other) h k depth left =
      let o : Code = code_of_stmts (map code_of_stmt other) Here depth left in
      rw (fold-roll-CStmt, fold-roll-CStmt, fold-roll-CStmtKind, fold-roll-CStmtKind)
      (if-performs r depth left (code_of_stmts (map code_of_stmt block) Here depth (length (else_code o) + left)) o (block_of (map runs_flat block))
      (block_of (map runs_flat other)) There
      (block-runs block h depth (length (else_code o) + left)) (block-runs other k depth left) (expr_valued e Here) (value_flat e There) (expr-values e))

  return-case : (at : Place) (e : Option CExpr) → OfStmt (stmt at (CStmtKind-F.Return e))
  return-case at None depth left = rw (fold-roll-CStmt, fold-roll-CStmt, fold-roll-CStmtKind, fold-roll-CStmtKind) (bare-return-performs r depth left)
  return-case at (Some e) depth left =
      rw (fold-roll-CStmt, fold-roll-CStmt, fold-roll-CStmtKind, fold-roll-CStmtKind)
      (return-performs r depth left (expr_valued e Here) (value_flat e There) (expr-values e))

  -- a place has the same type by code and by evaluations
  set-same : (depth left : ℕ) (reach : Reach Valued) (u : Reach (Evaluates ℤ)) → Leads (Values r) reach u → (w : Valued) (g : Evaluates ℤ) → Values r w g →
      Performs r depth left (with_begun 1 (set_code sizes reach.ty reach w (reach_calm reach && w.calm) depth))
      (λ base cells. executed 1 (flat_next (address_of u base cells) (λ c k. flat_next (g base c) (λ d v. flat_answer (written_at sizes u.ty k v d) (Some v))))
      (λ c v. going c))
  set-same depth left reach u (Leads.leads start passed ts us ty terms) w g h =
      set-performs r depth left _ _ (place-spots r _ _ (Leads.leads start passed ts us ty terms)) w g h sizes ty

  stmt-cases : StmtCases OfStmt
  stmt-cases = record {
    set = λ at p e depth left.
        rw (fold-roll-CStmt, fold-roll-CStmt, fold-roll-CStmtKind, fold-roll-CStmtKind)
        (set-same depth left (reach_of_place p Here) (reach_flat p There) (leads p) (expr_valued e Here) (value_flat e There) (expr-values e));
    clear = λ at p name depth left.
        rw (fold-roll-CStmt, fold-roll-CStmt, fold-roll-CStmtKind, fold-roll-CStmtKind)
        (clear-performs r depth left (entry_or 0 sizes name) (reach_of_place p Here) (reach_flat p There)
        (place-spots r (reach_of_place p Here) (reach_flat p There) (leads p)));
    call = λ at c depth left.
        rw (fold-roll-CStmt, fold-roll-CStmt, fold-roll-CStmtKind, fold-roll-CStmtKind)
        (call-performs r depth left (code_of_call c Here) (call_flat c There) (call-does r sizes structs slots frame entries routines knows c));
    branching = if-case;
    loop = λ at name e body h depth left.
        rw (fold-roll-CStmt, fold-roll-CStmt, fold-roll-CStmtKind, fold-roll-CStmtKind)
        (loop-performs r depth (expr_valued e Here) (value_flat e There) (expr-values e) (code_of_stmts (map code_of_stmt body) Here (suc depth) 1)
        (block_of (map runs_flat body) There) (block-runs body h (suc depth) 1) left);
    break = λ at depth left. rw (fold-roll-CStmt, fold-roll-CStmt, fold-roll-CStmtKind, fold-roll-CStmtKind) (break-performs r depth left);
    returns = return-case;
  }

  stmt-runs : (s : CStmt) → OfStmt s
  stmt-runs = induct_stmt OfStmt stmt-cases

  stmts-run : (stmts : List CStmt) → All OfStmt stmts
  stmts-run [] = All-nil OfStmt
  stmts-run (s ∷ rest) = All-cons OfStmt s rest (stmt-runs s) (stmts-run rest)

  -- the statements of a function
  pub body-runs : (stmts : List CStmt) (depth left : ℕ) →
      Performs r depth left (code_of_block stmts Here depth left) (block_of (map runs_flat stmts) There)
  body-runs stmts depth left = block-runs stmts (stmts-run stmts) depth left

-- ---- functions

-- behind its statements a function returns 0
ended-at : (r : Run) (end : StepResult) (depth m q : ℕ) (cells : Cells) (temps : List ℤ) (n : ℕ) (e : End) →
    Span r.code m (uncounted (act.Return (op.Literal (pos 0))) ∷ []) q →
    Goes r.code end (λ c k v. After r.code (back_with c temps r.room k v r.callers) end) cells n (result_at e) → Ends r end m 0 cells temps n e
ended-at r end depth m q cells temps n goes_on span due =
    arrives-now r m cells temps n end
    (zero-returned r depth 0 m 0 q [] cells temps n end (span-is r.code m _ _ q (sym (begun-zero (uncounted (act.Return (op.Literal (pos 0))) ∷ []))) span) due)
ended-at r end depth m q cells temps n breaks span due =
    subst (λ x. Arrives r.code (st r x cells temps n) end) (sym (add-zero m))
    (arrives-now r m cells temps n end
    (zero-returned r depth 0 m 0 q [] cells temps n end (span-is r.code m _ _ q (sym (begun-zero (uncounted (act.Return (op.Literal (pos 0))) ∷ []))) span) due))
ended-at r end depth m q cells temps n (returns result) span due = due
ended-at r end depth m q cells temps n traps span due = due

goes-same : (code : Code) (end : StepResult) (Next First : Cells → ℕ → ℤ → Type 0) (cells : Cells) (n : ℕ) (answer : Option ℤ) →
    ((c : Cells) (k : ℕ) (v : ℤ) → Next c k v → First c k v) → Goes code end Next cells n answer → Goes code end First cells n answer
goes-same code end Next First cells n None f due = due
goes-same code end Next First cells n (Some v) f due = f cells n v due

module _ (code : Code) (sizes : Sizes) (structs : Layouts) where
  -- the same functions, from anywhere in the code
  pub record Known (top calls : ℕ) (entries : Table FunctionEntry) (routines : Table Routine) : Type 0 where
    pub known : (name : Text) → BothServe code top calls (entries name) (routines name)

  function-serves : (top calls : ℕ) (entries : Table FunctionEntry) (routines : Table Routine) → Known top calls entries routines →
      (function : CFunc) (q : ℕ) →
      Span code top (code_of_function sizes structs top entries function) q →
      Serves code q (calls + 1) (function_entry sizes top function) (routine_flat sizes structs routines function)
  function-serves top calls entries routines known function q span = record {
    serves = λ base args cells temps callers room count end numbers chain due.
        let r : Run = record { code = code; base = base; callers = callers; room = room; top = top; temps = q; calls = calls; chain = omega arith } in
        let knows : Knows r entries routines = record { known = known.known } in
        let slots : Table Slot = slots_of sizes function in
        let frame : ℕ = frame_cells sizes function in
        let start : Cells = (entry_state (function_entry sizes top function) base args cells temps callers room count).cells in
        let part : Code = code_of_block function.body (Here r sizes structs slots frame entries routines knows) top 0 in
        let last : Code = uncounted (act.Return (op.Literal (pos 0))) ∷ [] in
        let m : ℕ = top + length part in
        let o : Outcome Cells = block_of (map runs_flat function.body) (There r sizes structs slots frame entries routines knows) base start in
        let long : length (part ++ last) ≡ length part + 1 = length-append part last in
        let ends : top + length (part ++ last) ≡ q = span.ends in
        (body-runs r sizes structs slots frame entries routines knows function.body top 0).runs top m start temps count end
        (span-front code top part last q span) (record { low = omega arith; high = omega arith; long = numbers })
        (λ after kept.
        ended-at r end top m q o.memory after (count + o.count) o.end (span-back code top part last q span)
        (goes-same code end (λ c n v. (after : List ℤ) → length after ≡ length temps → ((j : ℕ) → q ≤ j → cell_at after j ≡ cell_at temps j) →
        After code (back_with c after room n v callers) end) (λ c k v. After code (back_with c after room k v callers) end) o.memory (count + o.count) (result_at o.end)
        (λ c k v due'. due' after kept.long kept.beyond) due));
  }

  serves-more : (numbers calls more chain : ℕ) (entry : FunctionEntry) (routine : Routine) → Serves code numbers calls entry routine → numbers ≤ more →
      calls ≤ chain → Serves code more chain entry routine
  serves-more numbers calls more chain entry routine h le le' = record {
    serves = λ base args cells temps callers room count end n c due.
        h.serves base args cells temps callers room count end (omega arith) (omega arith)
        (goes-same code end (λ c n v. (after : List ℤ) → length after ≡ length temps → ((j : ℕ) → more ≤ j → cell_at after j ≡ cell_at temps j) →
        After code (back_with c after room n v callers) end)
        (λ c n v. (after : List ℤ) → length after ≡ length temps → ((j : ℕ) → numbers ≤ j → cell_at after j ≡ cell_at temps j) →
        After code (back_with c after room n v callers) end) (routine base args cells).cells (count + (routine base args cells).count) (routine base args cells).answer
        (λ c k v due' after long keeps. due' after long (λ j lo. keeps j (omega arith))) due);
  }

  both-more : (top calls more chain : ℕ) (e : Option FunctionEntry) (i : Option Routine) → BothServe code top calls e i → top ≤ more → calls ≤ chain →
      BothServe code more chain e i
  both-more top calls more chain None None h le le' = tt
  both-more top calls more chain (Some e) (Some i) h le le' = serves-more top calls more chain e i h le le'
  both-more top calls more chain None (Some i) h le le' = h
  both-more top calls more chain (Some e) None h le le' = h

  both-one : (top calls : ℕ) (b : Bool) (e : Option FunctionEntry) (i : Option Routine) (entry : FunctionEntry) (routine : Routine) → BothServe code top calls e i →
      Serves code top calls entry routine →
      BothServe code top calls (option_or e (if b then Some entry else None)) (option_or i (if b then Some routine else None))
  both-one top calls true None None entry routine h serves = serves
  both-one top calls false None None entry routine h serves = tt
  both-one top calls b (Some e) (Some i) entry routine h serves = h
  both-one top calls b None (Some i) entry routine h serves = absurd h
  both-one top calls b (Some e) None entry routine h serves = absurd h

  known-one : (top calls more chain : ℕ) (entries : Table FunctionEntry) (routines : Table Routine) → Known top calls entries routines → top ≤ more →
      calls ≤ chain →
      (name : Text) (entry : FunctionEntry) (routine : Routine) → Serves code more chain entry routine →
      Known more chain (with_entry entries name entry) (with_entry routines name routine)
  known-one top calls more chain entries routines h le le' name entry routine serves = record {
    known = λ asked. both-one more chain (bytes_eq name asked) (entries asked) (routines asked) entry routine
        (both-more top calls more chain (entries asked) (routines asked) (h.known asked) le le') serves;
  }

whole : (code : Code) → Span code 0 code (0 + length code)
whole code = record { rest = []; is = sym (append-nil code); ends = refl }

-- ---- by name

-- a table with these functions' routines too
abbrev with_routines : Sizes → Layouts → Table Routine → List CFunc → Table Routine
with_routines sizes structs earlier [] = earlier
with_routines sizes structs earlier (function ∷ rest) =
    with_routines sizes structs (with_entry earlier function.name (routine_flat sizes structs earlier function)) rest

one-more-found : (earlier : Option Routine) (b : Bool) (routine : Routine) (others : Option Routine) →
    option_or (option_or earlier (if b then Some routine else None)) others ≡ option_or earlier (if b then Some routine else others)
one-more-found (Some r) b routine others = refl
one-more-found None true routine others = refl
one-more-found None false routine others = refl

none-more-found : (earlier : Option Routine) → earlier ≡ option_or earlier None
none-more-found None = refl
none-more-found (Some r) = refl

routines-found : (sizes : Sizes) (structs : Layouts) (earlier : Table Routine) (functions : List CFunc) (name : Text) →
    with_routines sizes structs earlier functions name ≡ option_or (earlier name) (found name (routines_after sizes structs earlier functions))
routines-found sizes structs earlier [] name = none-more-found (earlier name)
routines-found sizes structs earlier (function ∷ rest) name =
    let routine : Routine = routine_flat sizes structs earlier function in
    let more : Table Routine = with_entry earlier function.name routine in
    routines-found sizes structs more rest name
    ∙ one-more-found (earlier name) (bytes_eq function.name name) routine (found name (routines_after sizes structs more rest))

module _ (code : Code) (sizes : Sizes) (structs : Layouts) where
  all-known : (functions : List CFunc) (at calls : ℕ) (entries : Table FunctionEntry) (routines : Table Routine) →
      Known code sizes structs at calls entries routines → (q : ℕ) →
      Span code at (functions_code sizes structs at entries functions) q →
      Known code sizes structs q (calls + length functions) (entries_from sizes structs at entries functions) (with_routines sizes structs routines functions)
  all-known [] at calls entries routines known q span =
      record {
        known = λ name. both-more code sizes structs at calls q (calls + 0) (entries name) (routines name) (known.known name)
            (le_of_eq (span-none code at q span)) (omega arith);
      }
  all-known (function ∷ rest) at calls entries routines known q span =
      let first : Code = code_of_function sizes structs at entries function in
      let m : ℕ = at + length first in
      let entry : FunctionEntry = function_entry sizes at function in
      let routine : Routine = routine_flat sizes structs routines function in
      let others : Code = functions_code sizes structs m (with_entry entries function.name entry) rest in
      let serves : Serves code m (calls + 1) entry routine =
      function-serves code sizes structs at calls entries routines known function m (span-front code at first others q span) in
      let more : Known code sizes structs q (calls + 1 + length rest) (entries_from sizes structs m (with_entry entries function.name entry) rest)
      (with_routines sizes structs (with_entry routines function.name routine) rest) =
      all-known rest m (calls + 1) (with_entry entries function.name entry) (with_entry routines function.name routine)
      (known-one code sizes structs at calls m (calls + 1) entries routines known (omega arith) (omega arith) function.name entry routine serves) q
      (span-back code at first others q span) in
      let same : calls + 1 + length rest ≡ calls + suc (length rest) = omega arith in
      subst (λ n. Known code sizes structs q n (entries_from sizes structs m (with_entry entries function.name entry) rest)
      (with_routines sizes structs (with_entry routines function.name routine) rest)) same more

-- nobody waits for the first function
first-ends : (code : Code) (cells : Cells) (n : ℕ) (answer : Option ℤ) (room : ℕ) (temps : List ℤ) (numbers : ℕ) →
    Goes code (vm_ended cells n answer) (λ c k v. (after : List ℤ) → length after ≡ length temps → ((j : ℕ) → numbers ≤ j → cell_at after j ≡ cell_at temps j) →
    After code (back_with c after room k v []) (vm_ended cells n answer)) cells n answer
first-ends code cells n None room temps numbers = refl
first-ends code cells n (Some v) room temps numbers = λ after long keeps. refl

implements : (code : Code) (numbers calls : ℕ) (entry : FunctionEntry) (routine : Routine) → Serves code numbers calls entry routine →
    ImplementsRoutine code numbers calls entry routine
implements code numbers calls entry routine h = record {
  does = λ base args cells temps room enough fits.
      let l : FlatAnswer ℤ = routine base args cells in
      let end : StepResult = vm_ended l.cells l.count l.answer in
      let counts : l.count ≡ 0 + l.count = omega arith in
      h.serves base args cells temps [] room 0 end enough (omega arith)
      (subst (λ n. Goes code end (λ c k v. (after : List ℤ) → length after ≡ length temps → ((j : ℕ) → numbers ≤ j → cell_at after j ≡ cell_at temps j) →
      After code (back_with c after room k v []) end) l.cells n l.answer) counts (first-ends code l.cells l.count l.answer room temps numbers));
}

both-implement : (code : Code) (numbers calls : ℕ) (entry : Option FunctionEntry) (routine : Option Routine) → BothServe code numbers calls entry routine →
    BothDo code numbers calls entry routine
both-implement code numbers calls None None h = tt
both-implement code numbers calls (Some entry) (Some routine) h = implements code numbers calls entry routine h
both-implement code numbers calls None (Some routine) h = h
both-implement code numbers calls (Some entry) None h = h

-- each function of a file by its name
pub named-functions-run : (structs : List CStruct) (functions : List CFunc) → NamedFunctionsRun structs functions
named-functions-run structs functions name =
    let sizes : Sizes = capped_sizes structs in
    let laid : Layouts = layouts structs in
    let code : Code = code_of_file structs functions in
    let all : Known code sizes laid (0 + length code) (0 + length functions) (entry_in_file structs functions) (with_routines sizes laid no_entries functions) =
    all-known code sizes laid functions 0 0 no_entries no_entries (record { known = λ asked. tt }) (0 + length code) (whole code) in
    let entry : Option FunctionEntry = entry_in_file structs functions name in
    let routine : Option Routine = routine_in_file structs functions name in
    let here : BothServe code (0 + length code) (0 + length functions) entry routine =
    subst (BothServe code (0 + length code) (0 + length functions) entry) (routines-found sizes laid no_entries functions name) (all.known name) in
    both-implement code (length code) (length functions) entry routine
    (both-more code sizes laid (0 + length code) (0 + length functions) (length code) (length functions) entry routine here (omega arith) (omega arith))
