-- Files of which each function does the same have the same trace.
use Rattle.std.proofs.Common.{◌≡◌, ℤ, Bool, true, false, List, [], ◌∷◌, Option, Some, None, refl, ap, sym, subst, ◌∙◌}
use Rattle.std.specs.Prelude.{bytes_eq, codes, is_some, if◌then◌else◌}
use Rattle.std.specs.List.{list_all}
use Rattle.std.specs.Option.{option_or}
use Rattle.bl_tree.specs.declared.row.Trace.{Trace}
use Rattle.bl_tree.specs.declared.text.Text.{Text}
use Rattle.bl_tree.specs.declared.c.CFunc.{CFunc}
use Rattle.bl_tree.specs.declared.c.CStruct.{CStruct}
use Rattle.bl_ctext_semantics.specs.Cells.{cells_of, memory_of, numbers_of, outputs_in, ports_of, with_inputs}
use Rattle.bl_ctext_semantics.specs.Meaning.{ArgumentValue, CallResult, Meaning, applied, function_c, meanings, meanings_after}
use Rattle.bl_ctext_semantics.specs.Memory.{Memory, cleared, state_object, input_object, output_object}
use Rattle.bl_ctext_semantics.specs.Parts.{Parts}
use Rattle.bl_ctext_semantics.specs.Tables.{Table, found, no_entries, with_entry}
use Rattle.bl_ctext_semantics.specs.Trace.{c_trace, c_trace_from, call_from_outside, cells_if, object, reply_of, start_c, started, tick_c}
use Rattle.bl_ctext_semantics.specs.Trace.{trace_after, traced}
use Rattle.bl_simplify_laws.specs.Files.{FunctionsOfFilesAlike, SameFunction, SameFunctions, SameFunctionsChain, SameTrace}
use Rattle.bl_simplify_laws.specs.Frames.{DependsOnPassed, LeavesOthers, TableKeeps}
use Rattle.bl_simplify_laws.specs.Observed.{SeenCall, call_seen_at, failed, gave, seen_call}
use Rattle.bl_simplify_laws.specs.Tables.{CallsAlike, Fine, KnownAlike, TablesAlike, function_stands}
use Rattle.bl_simplify_laws.proofs.OnMemories.{functions-keep}
use Rattle.bl_simplify_laws.proofs.OnSpots.{and-left, and-right, same-name, some-of}
use Rattle.bl_simplify_laws.proofs.OnTables.{functions-decided}

-- ---- tables

entry-alike : (framed : List Text) (one other : Table Meaning) (name : Text) (f g : Meaning) → TablesAlike framed one other → CallsAlike framed name f g →
    TablesAlike framed (with_entry one name f) (with_entry other name g)
entry-alike framed one other name f g tables same asked = by (one asked) (other asked) (bytes_eq name asked) refl (tables asked)
  where
    by : (o p : Option Meaning) (b : Bool) → bytes_eq name asked ≡ b → KnownAlike framed asked o p →
        KnownAlike framed asked (option_or o (if b then Some f else None)) (option_or p (if b then Some g else None))
    by (Some o) (Some p) b e h = h
    by None None true e h = subst (λ n. CallsAlike framed n f g) (same-name name asked e) same
    by None None false e h = tt
    by None (Some p) b e h = absurd h
    by (Some o) None b e h = absurd h

-- what holds of known functions and of one more
entry-has : (P : Meaning → Type 0) (known : Table Meaning) (name : Text) (f : Meaning) →
    ((asked : Text) (meaning : Meaning) → known asked ≡ Some meaning → P meaning) → P f →
    (asked : Text) (meaning : Meaning) → with_entry known name f asked ≡ Some meaning → P meaning
entry-has P known name f has own asked meaning is = by (known asked) (bytes_eq name asked) refl is
  where
    by : (o : Option Meaning) (b : Bool) → known asked ≡ o → option_or o (if b then Some f else None) ≡ Some meaning → P meaning
    by (Some o) b e is = has asked meaning (e ∙ is)
    by None true e is = subst P (some-of f meaning is) own
    by None false e is = cc

entry-keeps : (known : Table Meaning) (function : CFunc) → TableKeeps known → TableKeeps (with_entry known function.name (function_c known function))
entry-keeps known function keeps = record {
  leaves = entry-has LeavesOthers known function.name (function_c known function) keeps.leaves (functions-keep known keeps function).0;
  depends = entry-has DependsOnPassed known function.name (function_c known function) keeps.depends (functions-keep known keeps function).1;
}

-- each function of the first file over its own table, and that of the second over the other
both : (framed : List Text) (one other : Table Meaning) (f g : CFunc) → TablesAlike framed one other → TableKeeps other → function_stands framed f ≡ true →
    SameFunction framed f g → CallsAlike framed f.name (function_c one f) (function_c other g)
both framed one other f g tables keeps stands same depth passed memory fine =
    functions-decided framed one other tables f stands depth passed memory fine ∙ same.same other keeps depth passed memory fine

after-alike : (framed : List Text) (one other : Table Meaning) (fs gs : List CFunc) → TablesAlike framed one other → TableKeeps other →
    list_all (function_stands framed) fs ≡ true → SameFunctions framed fs gs → (name : Text) →
    KnownAlike framed name (found name (meanings_after one fs)) (found name (meanings_after other gs))
after-alike framed one other [] [] tables keeps stands same name = tt
after-alike framed one other [] (g ∷ gs) tables keeps stands same name = absurd same
after-alike framed one other (f ∷ fs) [] tables keeps stands same name = absurd same
after-alike framed one other (f ∷ fs) (g ∷ gs) tables keeps stands same name =
    let own : CallsAlike framed f.name (function_c one f) (function_c other g) =
    both framed one other f g tables keeps (and-left (function_stands framed f) (list_all (function_stands framed) fs) stands) same.1 in
    let entries : TablesAlike framed (with_entry one f.name (function_c one f)) (with_entry other g.name (function_c other g)) =
    subst (λ n. TablesAlike framed (with_entry one f.name (function_c one f)) (with_entry other n (function_c other g))) same.0
    (entry-alike framed one other f.name (function_c one f) (function_c other g) tables own) in
    let rest : KnownAlike framed name (found name (meanings_after (with_entry one f.name (function_c one f)) fs))
    (found name (meanings_after (with_entry other g.name (function_c other g)) gs)) =
    after-alike framed (with_entry one f.name (function_c one f)) (with_entry other g.name (function_c other g)) fs gs entries
    (entry-keeps other g keeps) (and-right (function_stands framed f) (list_all (function_stands framed) fs) stands) same.2 name in
    subst
    (λ n. KnownAlike framed name (found name (meanings_after one (f ∷ fs)))
    (if bytes_eq n name then Some (function_c other g) else found name (meanings_after (with_entry other g.name (function_c other g)) gs)))
    same.0
    (by (bytes_eq f.name name) refl (function_c one f) (function_c other g) (found name (meanings_after (with_entry one f.name (function_c one f)) fs))
    (found name (meanings_after (with_entry other g.name (function_c other g)) gs)) own rest)
  where
    by : (b : Bool) → bytes_eq f.name name ≡ b → (m n : Meaning) (o p : Option Meaning) → CallsAlike framed f.name m n → KnownAlike framed name o p →
        KnownAlike framed name (if b then Some m else o) (if b then Some n else p)
    by true e m n o p h k = subst (λ x. CallsAlike framed x m n) (same-name f.name name e) h
    by false e m n o p h k = k

pub files-alike : FunctionsOfFilesAlike
files-alike framed fs gs stands same name =
    after-alike framed no_entries no_entries fs gs (λ n. tt) (record { leaves = λ n meaning is. cc; depends = λ n meaning is. cc }) stands same name

pub functions-chain : SameFunctionsChain
functions-chain = (
  λ framed f. record { same = λ known keeps depth passed memory fine. refl },
  λ framed f g h names one other. record {
    same = λ known keeps depth passed memory fine.
        one.same known keeps depth passed memory fine
        ∙ other.same known keeps depth passed memory (subst (λ n. Fine framed n depth passed) names fine);
  },
)

-- ---- ticks

applied-same : (framed : List Text) (name : Text) (o p : Option Meaning) (passed : List ArgumentValue) (memory : Memory) → KnownAlike framed name o p →
    Fine framed name 0 passed → seen_call (applied o 0 passed memory) ≡ seen_call (applied p 0 passed memory)
applied-same framed name (Some o) (Some p) passed memory h fine = h 0 passed memory fine
applied-same framed name None None passed memory h fine = refl
applied-same framed name None (Some p) passed memory h fine = absurd h
applied-same framed name (Some o) None passed memory h fine = absurd h

-- the cells of the start that are seen
begins : (Memory → List ℤ) → SeenCall → Option (List ℤ)
begins cells failed = None
begins cells (gave n m) = Some (cells m)

begins-seen : (cells : Memory → List ℤ) (o : Option ℤ) (m : Memory) → cells_if (is_some o) (cells m) ≡ begins cells (call_seen_at o m)
unfolding begins
begins-seen cells None m = refl
begins-seen cells (Some n) m = refl

-- the trace that a seen tick begins
goes : (Memory → List ℤ) → (Memory → Trace) → SeenCall → Trace
goes outputs rest failed = traced (reply_of None) [] (rest cleared)
goes outputs rest (gave n m) = traced (reply_of (Some n)) (outputs m) (rest m)

goes-seen : (outputs : Memory → List ℤ) (rest : Memory → Trace) (o : Option ℤ) (m : Memory) →
    traced (reply_of o) (outputs m) (rest m) ≡ goes outputs rest (call_seen_at o m)
unfolding goes
goes-seen outputs rest None m = refl
goes-seen outputs rest (Some n) m = refl

module _ (framed : List Text) (structs : List CStruct) (fs gs : List CFunc) (stands : list_all (function_stands framed) fs ≡ true)
    (same : SameFunctions framed fs gs) where
  abbrev one : Parts
  one = record { structs = structs; funcs = fs }

  abbrev other : Parts
  other = record { structs = structs; funcs = gs }

  outside-same : (name : Text) (passed : List ArgumentValue) (memory : Memory) → Fine framed name 0 passed →
      seen_call (call_from_outside one name passed memory) ≡ seen_call (call_from_outside other name passed memory)
  unfolding call_from_outside
  outside-same name passed memory fine =
      applied-same framed name (found name (meanings fs)) (found name (meanings gs)) passed memory (files-alike framed fs gs stands same name) fine

  from-same : (rows : List (List ℤ)) (cells : List ℤ) → c_trace_from one rows cells ≡ c_trace_from other rows cells
  unfolding tick_c cells_of
  from-same [] cells = refl
  from-same (ins ∷ rows) cells =
      let passed : List ArgumentValue = object state_object ∷ object input_object ∷ object output_object ∷ [] in
      let start : Memory = with_inputs (ports_of (codes "bl_in") one) ins (memory_of (cells_of one) cells) in
      let c : CallResult = call_from_outside one (codes "bl_tick") passed start in
      let d : CallResult = call_from_outside other (codes "bl_tick") passed start in
      let outputs : Memory → List ℤ = outputs_in (ports_of (codes "bl_out") one) in
      goes-seen outputs (λ m. c_trace_from one rows (numbers_of (cells_of one) m)) c.result c.memory
      ∙ (λ i. goes outputs (λ m. from-same rows (numbers_of (cells_of one) m) i) (outside-same (codes "bl_tick") passed start
      (record { below = (tt, (tt, (tt, tt))); apart = λ has. (refl, (refl, tt)) }) i))
      ∙ sym (goes-seen outputs (λ m. c_trace_from other rows (numbers_of (cells_of one) m)) d.result d.memory)

  start-same : start_c one ≡ start_c other
  unfolding started cells_of
  start-same =
      let passed : List ArgumentValue = object state_object ∷ [] in
      let c : CallResult = call_from_outside one (codes "bl_init") passed cleared in
      let d : CallResult = call_from_outside other (codes "bl_init") passed cleared in
      begins-seen (numbers_of (cells_of one)) c.result c.memory
      ∙ ap (begins (numbers_of (cells_of one))) (outside-same (codes "bl_init") passed cleared (record { below = (tt, tt); apart = λ has. tt }))
      ∙ sym (begins-seen (numbers_of (cells_of one)) d.result d.memory)

  after-same : (cells : Option (List ℤ)) (rows : List (List ℤ)) → trace_after one cells rows ≡ trace_after other cells rows
  after-same None rows = refl
  after-same (Some cells) rows = from-same rows cells

  pub trace-same : (rows : List (List ℤ)) → c_trace one rows ≡ c_trace other rows
  trace-same rows = after-same (start_c one) rows ∙ ap (λ o. trace_after other o rows) start-same

pub same-trace : SameTrace
same-trace framed structs fs gs stands same rows = trace-same framed structs fs gs stands same rows
