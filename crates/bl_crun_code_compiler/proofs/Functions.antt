-- The code of functions, one by one.
use Rattle.std.proofs.Common.{◌≡◌, ◌≤◌, ℕ, ◌+◌, ◌-◌, drop, pos, List, [], ◌∷◌, ◌++◌, map, length, Option, Some, None, refl, ap, sym}
use Rattle.std.proofs.Common.{◌∙◌, subst, append-nil, append_assoc, length-append, arith}
use Rattle.std.specs.Prelude.{bytes_eq, option_map}
use Rattle.std.proofs.lemmas.List.{drop_all}
use Rattle.bl_tree.specs.declared.text.Text.{Text}
use Rattle.bl_tree.specs.declared.c.CFunc.{CFunc}
use Rattle.bl_tree.specs.declared.c.CStmt.{CStmt}
use Rattle.bl_tree.specs.declared.c.CStruct.{CStruct}
use Rattle.bl_ctext_semantics.specs.Saturated.{AlikeSaturated, saturated}
use Rattle.bl_ctext_semantics.specs.Sizes.{Sizes}
use Rattle.bl_ctext_semantics.specs.Tables.{Table, no_entries, table_of, with_entry}
use Rattle.bl_ctext_semantics.proofs.MapLemmas.{entry_mapped, same_table}
use Rattle.bl_ctext_semantics_laws.specs.Layout.{Layouts, Slot, capped, capped_sizes, frame_cells, layout_of, layouts, slots_of}
use Rattle.bl_crun_code.specs.declared.instruction.Operand.TheVariants as op
use Rattle.bl_crun_code.specs.declared.instruction.Act.TheVariants as act
use Rattle.bl_crun_code.specs.Code.{Code, FunctionEntry, code_of_block, code_of_function, entries_from, function_entry, functions_code, uncounted}

-- ---- sizes

capped-saturated : (n : ℕ) → capped (saturated n) ≡ capped n
capped-saturated n = omega arith

capped-alike : (a b : Option ℕ) → option_map saturated a ≡ option_map saturated b → option_map capped a ≡ option_map capped b
capped-alike None None h = refl
capped-alike None (Some b) h = cc
capped-alike (Some a) None h = cc
capped-alike (Some a) (Some b) h =
    let same : saturated a ≡ saturated b = cc in
    ap Some (sym (capped-saturated a) ∙ ap capped same ∙ capped-saturated b)

-- sizes as far as 64 bits tell them are sizes as far as cells are numbered
pub sizes-capped : (s t : Table ℕ) → AlikeSaturated s t →
    ◌≡◌ {A = Table ℕ} (λ name. option_map capped (s name)) (λ name. option_map capped (t name))
sizes-capped s t h = λ i name. capped-alike (s name) (t name) (h name) i

-- ---- functions

-- an entry was added to a map, and something is made of its entries
pub made-with : {A B : Type 0} (f : A → B) (old new : Table A) (name : Text) (value : A) →
    ((asked : Text) → new asked ≡ with_entry old name value asked) →
    (asked : Text) → option_map f (new asked) ≡ with_entry (λ n. option_map f (old n)) name (f value) asked
made-with f old new name value add asked = ap (option_map f) (add asked) ∙ entry_mapped f (old asked) (bytes_eq name asked) value

pub function-next : (known : Sizes) (structs : Layouts) (code part : Code) (entries more : Table FunctionEntry) (entry : FunctionEntry) (f : CFunc) (all rest : List CFunc)
    (x : Code) → all ≡ f ∷ rest →
    part ≡ code_of_function known structs (length code) entries f → entry ≡ function_entry known (length code) f →
    ((asked : Text) → more asked ≡ with_entry entries f.name entry asked) →
    code ++ functions_code known structs (length code) entries all ≡ x →
    (code ++ part) ++ functions_code known structs (length (code ++ part)) more rest ≡ x
function-next known structs code part entries more entry f all rest x is part-is entry-is add h =
    let first : Code = code_of_function known structs (length code) entries f in
    let later : Table FunctionEntry = with_entry entries f.name (function_entry known (length code) f) in
    let grown : more ≡ later = same_table more later (λ asked. add asked ∙ ap (λ e. with_entry entries f.name e asked) entry-is) in
    ap (λ t. (code ++ part) ++ functions_code known structs (length (code ++ part)) t rest) grown
    ∙ ap (λ p. (code ++ p) ++ functions_code known structs (length (code ++ p)) later rest) part-is
    ∙ ap (λ n. (code ++ first) ++ functions_code known structs n later rest) (length-append code first)
    ∙ append_assoc code first (functions_code known structs (length code + length first) later rest)
    ∙ ap (λ l. code ++ functions_code known structs (length code) entries l) (sym is) ∙ h

-- what is behind the statements of a function
pub function-is : (known : Sizes) (structs : Layouts) (at : ℕ) (entries : Table FunctionEntry) (f : CFunc) (slots : Table Slot) (frame : ℕ) (body : List CStmt)
    (code old : Code) → body ≡ f.body →
    ((asked : Text) → slots asked ≡ slots_of known f asked) → frame ≡ frame_cells known f → old ≡ uncounted (act.Return (op.Literal (pos 0))) ∷ [] →
    code ≡ code_of_block body (record { sizes = known; structs = structs; known = entries; slots = slots; frame = frame }) at (length old - 1) ++ old →
    code ≡ code_of_function known structs at entries f
function-is known structs at entries f slots frame body code old body-is slots-are frame-is last is =
    let back : Code = uncounted (act.Return (op.Literal (pos 0))) ∷ [] in
    is ∙ ap (λ o. code_of_block body (record { sizes = known; structs = structs; known = entries; slots = slots; frame = frame }) at (length o - 1) ++ o) last
    ∙ ap (λ b. code_of_block b (record { sizes = known; structs = structs; known = entries; slots = slots; frame = frame }) at 0 ++ back) body-is
    ∙ ap (λ (s : Table Slot). code_of_block f.body (record { sizes = known; structs = structs; known = entries; slots = s; frame = frame }) at 0
    ++ back) (same_table slots (slots_of known f) slots-are)
    ∙ ap (λ n. code_of_block f.body (record { sizes = known; structs = structs; known = entries; slots = slots_of known f; frame = n }) at 0 ++ back) frame-is

-- where the functions stand that come later
pub entries-next : (known : Sizes) (structs : Layouts) (code part : Code) (entries more : Table FunctionEntry) (entry : FunctionEntry) (f : CFunc) (all rest : List CFunc)
    (x : Table FunctionEntry) → all ≡ f ∷ rest →
    part ≡ code_of_function known structs (length code) entries f → entry ≡ function_entry known (length code) f →
    ((asked : Text) → more asked ≡ with_entry entries f.name entry asked) →
    entries_from known structs (length code) entries all ≡ x → entries_from known structs (length (code ++ part)) more rest ≡ x
entries-next known structs code part entries more entry f all rest x is part-is entry-is add h =
    let first : Code = code_of_function known structs (length code) entries f in
    let later : Table FunctionEntry = with_entry entries f.name (function_entry known (length code) f) in
    let grown : more ≡ later = same_table more later (λ asked. add asked ∙ ap (λ e. with_entry entries f.name e asked) entry-is) in
    ap (λ t. entries_from known structs (length (code ++ part)) t rest) grown
    ∙ ap (λ p. entries_from known structs (length (code ++ p)) later rest) part-is
    ∙ ap (λ n. entries_from known structs n later rest) (length-append code first)
    ∙ ap (λ l. entries_from known structs (length code) entries l) (sym is) ∙ h

-- after the last function
pub functions-done : (known : Sizes) (structs : Layouts) (at k : ℕ) (entries : Table FunctionEntry) (code : Code) (functions : List CFunc) (x : Code) →
    length functions ≤ k →
    code ++ functions_code known structs at entries (drop k functions) ≡ x → code ≡ x
functions-done known structs at k entries code functions x past h =
    sym (append-nil code) ∙ subst (λ l. code ++ functions_code known structs at entries l ≡ x) (drop_all k functions past) h

pub entries-done : (known : Sizes) (structs : Layouts) (at k : ℕ) (entries : Table FunctionEntry) (functions : List CFunc)
    (x : Table FunctionEntry) → length functions ≤ k →
    entries_from known structs at entries (drop k functions) ≡ x → (name : Text) → entries name ≡ x name
entries-done known structs at k entries functions x past h name =
    let last : entries_from known structs at entries [] ≡ x = subst (λ l. entries_from known structs at entries l ≡ x) (drop_all k functions past) h in
    ap (λ (t : Table FunctionEntry). t name) last

-- before the first function, something is made of what is known
pub file-begins : {X : Type 0} (made : Sizes → Layouts → Table FunctionEntry → X) (known : Sizes) (laid : Layouts) (entries : Table FunctionEntry)
    (structs : List CStruct) →
    known ≡ capped_sizes structs →
    ((asked : Text) → laid asked ≡ table_of (map (layout_of known) structs) asked) → ((asked : Text) → entries asked ≡ None) →
    made known laid entries ≡ made (capped_sizes structs) (layouts structs) no_entries
file-begins made known laid entries structs sizes-are laid-is none =
    ap (made known laid) (same_table entries no_entries none)
    ∙ ap (λ l. made known l no_entries) (same_table laid (table_of (map (layout_of known) structs)) laid-is)
    ∙ ap (λ k. made k (table_of (map (layout_of k) structs)) no_entries) sizes-are
