-- What files do, declare and need without their places.
use Rattle.std.proofs.Common.{◌≡◌, ℕ, ◌+◌, ℤ, List, [], ◌∷◌, ◌++◌, map, length, Option, Some, None, refl, ap, ap₂, sym, ◌∙◌}
use Rattle.std.specs.Prelude.{codes, drop, filter_map, flat_map, is_some, unwrap_or}
use Rattle.std.proofs.lemmas.List.{length-map}
use Rattle.bl_tree.specs.Reduce.{greatest, total}
use Rattle.bl_tree.specs.declared.text.Text.{Text}
use Rattle.bl_tree.specs.declared.c.CFunc.{CFunc}
use Rattle.bl_tree.specs.declared.c.CMember.{CMember}
use Rattle.bl_tree.specs.declared.c.CParam.{CParam}
use Rattle.bl_tree.specs.declared.c.CStruct.{CStruct}
use Rattle.bl_ctext_semantics.specs.Calls.{calls_in_block, most}
use Rattle.bl_ctext_semantics.specs.Cells.{Cell, Inner, cells_at, cells_of, column_of, inner_after, inner_of_member, inputs_of, memory_of, numbers_of}
use Rattle.bl_ctext_semantics.specs.Cells.{outputs_in, outputs_of, ports_of, with_inputs}
use Rattle.bl_ctext_semantics.specs.Cost.{Costs, cost_of_function, cost_of_stmt, costs_after, tick_bound}
use Rattle.bl_ctext_semantics.specs.Loops.{turns_in_block}
use Rattle.bl_ctext_semantics.specs.Course.{Outcome, result_at}
use Rattle.bl_ctext_semantics.specs.Meaning.{ArgumentValue, CStmtMeaning, CallResult, Meaning, Scope, applied, block_of, function_c, meanings_after}
use Rattle.bl_ctext_semantics.specs.Meaning.{pointers_of, with_params}
use Rattle.bl_ctext_semantics.specs.Memory.{Memory, cleared, input_object, output_object, state_object, without_frame}
use Rattle.bl_ctext_semantics.specs.Parts.{Parts}
use Rattle.bl_ctext_semantics.specs.Sizes.{Sizes, cells_needed, chains_after, deepest_chain, own_cells, size_of_param, size_of_struct, size_of_type, sizes}
use Rattle.bl_ctext_semantics.specs.Sizes.{sizes_after}
use Rattle.bl_ctext_semantics.specs.Tables.{Table, found, no_entries, table_of, with_entry, entry_or}
use Rattle.bl_ctext_semantics.specs.Trace.{TickOfFile, c_trace, c_trace_from, call_from_outside, cells_if, object, reply_of, start_c, start_cells, started}
use Rattle.bl_ctext_semantics.specs.Trace.{tick_c, trace_after, traced}
use Rattle.bl_cparse_syntax_laws.specs.Placeless.{placeless_func, placeless_stmt, placeless_struct}
use Rattle.bl_ctext_semantics_laws_places.proofs.Bodies.{bare_turn, calls_same, costs_same, runs_same, turns_bare}
use Rattle.bl_ctext_semantics_laws_places.proofs.Faults.{placeless}
use Rattle.bl_ctext_semantics_laws_places.proofs.Lists.{map-twice}

-- ---- what the functions do

abbrev function_by : Table Meaning → List CParam → List CStmtMeaning → Meaning
function_by known params body depth passed memory =
    let scope : Scope = record { known = known; depth = depth; pointers = table_of (pointers_of params passed) } in
    let o : Outcome Memory = block_of body scope (with_params depth params passed (without_frame depth memory)) in
    record { memory = without_frame depth o.memory; count = o.count; result = result_at o.end }

function-same : (known : Table Meaning) (f : CFunc) → function_c known (placeless_func f) ≡ function_c known f
function-same known f = ap (λ body. function_by known f.params body) (runs_same f.body)

meanings-same : (known : Table Meaning) (fs : List CFunc) → meanings_after known (map placeless_func fs) ≡ meanings_after known fs
meanings-same known [] = refl
meanings-same known (f ∷ fs) =
    ap (λ does. (f.name, does) ∷ meanings_after (with_entry known f.name does) (map placeless_func fs)) (function-same known f)
    ∙ ap (λ rest. (f.name, function_c known f) ∷ rest) (meanings-same (with_entry known f.name (function_c known f)) fs)

-- ---- what they cost

function_cost-same : (known : Costs) (f : CFunc) → cost_of_function known (placeless_func f) ≡ cost_of_function known f
function_cost-same known f =
    ap total
    (sym (map-twice (λ (cost : Costs → ℕ). cost known) cost_of_stmt (map placeless_stmt f.body))
    ∙ ap (λ stmts. map (λ (cost : Costs → ℕ). cost known) stmts) (costs_same f.body)
    ∙ map-twice (λ (cost : Costs → ℕ). cost known) cost_of_stmt f.body)

file_costs-same : (known : Costs) (fs : List CFunc) → costs_after known (map placeless_func fs) ≡ costs_after known fs
file_costs-same known [] = refl
file_costs-same known (f ∷ fs) =
    ap (λ cost. (f.name, cost) ∷ costs_after (with_entry known f.name cost) (map placeless_func fs)) (function_cost-same known f)
    ∙ ap (λ rest. (f.name, cost_of_function known f) ∷ rest) (file_costs-same (with_entry known f.name (cost_of_function known f)) fs)

pub bound-same : (file : Parts) → tick_bound (placeless file) ≡ tick_bound file
bound-same file = ap (λ entries. unwrap_or (found (codes "bl_tick") entries) 0) (file_costs-same no_entries file.funcs)

-- ---- how many cells they need

sizes-same : (known : Sizes) (ss : List CStruct) → sizes_after known (map placeless_struct ss) ≡ sizes_after known ss
sizes-same known [] = refl
sizes-same known (s ∷ ss) = sizes-same (with_entry known s.name (size_of_struct known s)) ss

abbrev own_with : Sizes → CFunc → ℕ → ℕ
own_with known f turns =
    total (map (size_of_param known) f.params) + (total (map (λ l. size_of_type known l.ty) f.locals) + turns)

own-same : (known : Sizes) (f : CFunc) → own_cells known (placeless_func f) ≡ own_cells known f
own-same known f = ap (λ turns. own_with known f turns) (ap length (turns_bare f.body) ∙ length-map (turns_in_block f.body) bare_turn)

abbrev chain_of : Sizes → Table ℕ → CFunc → ℕ
chain_of known earlier f = own_cells known f + most earlier (calls_in_block f.body)

chain-same : (known : Sizes) (earlier : Table ℕ) (f : CFunc) → chain_of known earlier (placeless_func f) ≡ chain_of known earlier f
chain-same known earlier f = ap₂ (λ own calls. own + most earlier calls) (own-same known f) (calls_same f.body)

chains-same : (known : Sizes) (earlier : Table ℕ) (fs : List CFunc) → chains_after known earlier (map placeless_func fs) ≡ chains_after known earlier fs
chains-same known earlier [] = refl
chains-same known earlier (f ∷ fs) =
    ap (λ n. n ∷ chains_after known (with_entry earlier f.name n) (map placeless_func fs)) (chain-same known earlier f)
    ∙ ap (λ rest. chain_of known earlier f ∷ rest) (chains-same known (with_entry earlier f.name (chain_of known earlier f)) fs)

abbrev needed_with : List CFunc → Sizes → ℕ
needed_with fs known =
    entry_or 0 known (codes "bl_state") + (entry_or 0 known (codes "bl_in") + (entry_or 0 known (codes "bl_out") + deepest_chain known fs))

abbrev needed_by : Sizes → ℕ → ℕ
needed_by known deepest =
    entry_or 0 known (codes "bl_state") + (entry_or 0 known (codes "bl_in") + (entry_or 0 known (codes "bl_out") + deepest))

pub needed-same : (file : Parts) → cells_needed (placeless file) ≡ cells_needed file
needed-same file =
    ap (λ known. needed_with (map placeless_func file.funcs) known) (sizes-same no_entries file.structs)
    ∙ ap (λ chains. needed_by (sizes file.structs) (greatest chains)) (chains-same (sizes file.structs) no_entries file.funcs)

-- ---- cells and columns

inner-same : (known : Table (List Inner)) (ss : List CStruct) → inner_after known (map placeless_struct ss) ≡ inner_after known ss
inner-same known [] = refl
inner-same known (s ∷ ss) =
    ap (λ rest. (s.name, flat_map (inner_of_member known) s.members) ∷ rest)
    (inner-same (with_entry known s.name (flat_map (inner_of_member known) s.members)) ss)

abbrev cells_by : List (Text × List Inner) → List Cell
cells_by entries =
    cells_at state_object (unwrap_or (found (codes "bl_state") entries) [])
    ++ cells_at input_object (unwrap_or (found (codes "bl_in") entries) [])
    ++ cells_at output_object (unwrap_or (found (codes "bl_out") entries) [])

pub cells-same : (file : Parts) → cells_of (placeless file) ≡ cells_of file
unfolding cells_of
cells-same file = ap cells_by (inner-same no_entries file.structs)

ports-same : (struct : Text) (file : Parts) → ports_of struct (placeless file) ≡ ports_of struct file
ports-same struct file =
    ap (λ entries. drop 1 (unwrap_or (found struct entries) [])) (map-twice (λ (s : CStruct). (s.name, s.members)) placeless_struct file.structs)

pub inputs-same : (file : Parts) → inputs_of (placeless file) ≡ inputs_of file
unfolding inputs_of
inputs-same file = ap (λ ports. filter_map column_of ports) (ports-same (codes "bl_in") file)

pub outputs-same : (file : Parts) → outputs_of (placeless file) ≡ outputs_of file
unfolding outputs_of
outputs-same file = ap (λ ports. filter_map column_of ports) (ports-same (codes "bl_out") file)

-- ---- ticks and traces

entered-same : (file : Parts) (name : Text) (passed : List ArgumentValue) (memory : Memory) →
    call_from_outside (placeless file) name passed memory ≡ call_from_outside file name passed memory
unfolding call_from_outside
entered-same file name passed memory = ap (λ entries. applied (found name entries) 0 passed memory) (meanings-same no_entries file.funcs)

-- the tick that a call was, by the outputs and the cells
abbrev tick_by : List CMember → List Cell → CallResult → TickOfFile
tick_by outs cells c = record { reply = reply_of c.result; outputs = outputs_in outs c.memory; cells = numbers_of cells c.memory; count = c.count }

abbrev tick_passed : List ArgumentValue
tick_passed = object state_object ∷ object input_object ∷ object output_object ∷ []

abbrev called_tick : Parts → Memory → CallResult
called_tick file memory = call_from_outside file (codes "bl_tick") tick_passed memory

tick-same : (file : Parts) (cells ins : List ℤ) → tick_c (placeless file) cells ins ≡ tick_c file cells ins
unfolding tick_c
tick-same file cells ins =
    ap₂ (λ at ports. tick_by (ports_of (codes "bl_out") (placeless file)) at
    (called_tick (placeless file) (with_inputs ports ins (memory_of at cells))))
    (cells-same file) (ports-same (codes "bl_in") file)
    ∙ ap₂ (λ outs c. tick_by outs (cells_of file) c) (ports-same (codes "bl_out") file)
    (entered-same file (codes "bl_tick") tick_passed (with_inputs (ports_of (codes "bl_in") file) ins (memory_of (cells_of file) cells)))

pub ticks-same : (file : Parts) → tick_c (placeless file) ≡ tick_c file
ticks-same file = λ i cells ins. tick-same file cells ins i

started-same : (file : Parts) → started (placeless file) ≡ started file
unfolding started
started-same file = entered-same file (codes "bl_init") (object state_object ∷ []) cleared

abbrev start_by : List Cell → CallResult → Option (List ℤ)
start_by cells c = cells_if (is_some c.result) (numbers_of cells c.memory)

pub start_cells-same : (file : Parts) → start_cells (placeless file) ≡ start_cells file
start_cells-same file = ap₂ (λ cells (c : CallResult). numbers_of cells c.memory) (cells-same file) (started-same file)

pub start-same : (file : Parts) → start_c (placeless file) ≡ start_c file
start-same file = ap₂ start_by (cells-same file) (started-same file)

from-same : (file : Parts) (rows : List (List ℤ)) (cells : List ℤ) → c_trace_from (placeless file) rows cells ≡ c_trace_from file rows cells
from-same file [] cells = refl
from-same file (ins ∷ rows) cells =
    ap (λ (t : TickOfFile). traced t.reply t.outputs (c_trace_from (placeless file) rows t.cells)) (tick-same file cells ins)
    ∙ ap (λ more. traced (tick_c file cells ins).reply (tick_c file cells ins).outputs more) (from-same file rows (tick_c file cells ins).cells)

after-same : (file : Parts) (start : Option (List ℤ)) (rows : List (List ℤ)) → trace_after (placeless file) start rows ≡ trace_after file start rows
after-same file None rows = refl
after-same file (Some cells) rows = from-same file rows cells

trace-same : (file : Parts) (rows : List (List ℤ)) → c_trace (placeless file) rows ≡ c_trace file rows
trace-same file rows = ap (λ start. trace_after (placeless file) start rows) (start-same file) ∙ after-same file (start_c file) rows

pub traces-same : (file : Parts) → c_trace (placeless file) ≡ c_trace file
traces-same file = λ i rows. trace-same file rows i
