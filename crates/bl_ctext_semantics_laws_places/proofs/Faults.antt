-- What fails in structs, functions and files without their places: the same clauses.
use Rattle.std.proofs.Common.{◌≡◌, ℕ, ◌+◌, ◌-◌, Bool, true, false, not, ◌&&◌, ◌||◌, List, [], ◌∷◌, ◌++◌, map}
use Rattle.std.proofs.Common.{length, drop, refl, ap, ap₂, ◌∙◌}
use Rattle.std.specs.Prelude.{bytes_eq, codes, is_none, is_some, nat_le, nat_lt, if◌then◌else◌}
use Rattle.std.specs.List.{list_all}
use Rattle.std.proofs.lemmas.List.{drop-map, length-map}
use Rattle.bl_tree.specs.declared.text.Text.{Text}
use Rattle.bl_tree.specs.declared.place.Place.{Place}
use Rattle.bl_tree.specs.declared.c.CFunc.{CFunc}
use Rattle.bl_tree.specs.declared.c.CMember.{CMember}
use Rattle.bl_tree.specs.declared.c.CStruct.{CStruct}
use Rattle.bl_tree.specs.declared.scalar.Scalar.TheVariants.{Nat}
use Rattle.bl_tree.specs.declared.scalar.Width.TheVariants.{W32}
use Rattle.bl_ctext_semantics.specs.Calls.{calls_in_block, most}
use Rattle.bl_ctext_semantics.specs.Faults.{Fault, Signature, all_distinct, context_in, declared_before, depth_of_function, depth_of_struct, distinct_names}
use Rattle.bl_ctext_semantics.specs.Faults.{faults_in, faults_in_function, faults_in_head, faults_in_struct, faults_of_two, function_faults_after, gives}
use Rattle.bl_ctext_semantics.specs.Faults.{init_faults, init_params, interface_faults, interface_fits, interface_functions, interface_members}
use Rattle.bl_ctext_semantics.specs.Faults.{interface_structs, is_declared, is_scalar, last_place, last_returns, last_two, limited, member_table, names_table}
use Rattle.bl_ctext_semantics.specs.Faults.{place_of_two, repeated, returns_result, scalar_parameter, short_chain, signature_in, static_functions}
use Rattle.bl_ctext_semantics.specs.Faults.{struct_faults_after, struct_table, surely_returns, tick_faults, tick_params, unless, variable_names}
use Rattle.bl_ctext_semantics.specs.Loops.{turns_in_block}
use Rattle.bl_ctext_semantics.specs.Parts.{Parts}
use Rattle.bl_ctext_semantics.specs.Tables.{Table, no_entries, table_of, with_entry}
use Rattle.bl_cparse_syntax_laws.specs.Placeless.{any_place, placeless_func, placeless_struct}
use Rattle.bl_ctext_semantics_laws_places.proofs.Bodies.{bare_turn, body_bare, calls_same, returns_same, turns_bare}
use Rattle.bl_ctext_semantics_laws_places.proofs.Judged.{bared, both_bare, unless_bare}
use Rattle.bl_ctext_semantics_laws_places.proofs.Lists.{map-twice}

-- ---- names

repeated-bare : (names : Table (Unit {0})) (entries : List (Text × Place)) → repeated names (map bare_turn entries) ≡ bared (repeated names entries)
repeated-bare names [] = refl
repeated-bare names (entry ∷ rest) =
    both_bare _ _ _ _ (unless_bare (is_none (names entry.0)) distinct_names entry.1) (repeated-bare (with_entry names entry.0 tt) rest)

-- ---- structs

struct-bare : (structs : Table (Table CMember)) (depths : Table ℕ) (s : CStruct) →
    faults_in_struct structs depths (placeless_struct s) ≡ bared (faults_in_struct structs depths s)
struct-bare structs depths s =
    both_bare _ _ _ _ (unless_bare (is_none (structs s.name)) distinct_names s.place)
    (both_bare _ _ _ _ (unless_bare (list_all (λ (m : CMember). is_declared structs m.ty) s.members) declared_before s.place)
    (both_bare _ _ _ _ (unless_bare (all_distinct no_entries (map (λ (m : CMember). m.name) s.members)) distinct_names s.place)
    (both_bare _ _ _ _ (unless_bare (nat_le (depth_of_struct depths s) 300) short_chain s.place)
    (unless_bare (interface_fits s) interface_members s.place))))

structs-bare : (structs : Table (Table CMember)) (depths : Table ℕ) (ss : List CStruct) →
    struct_faults_after structs depths (map placeless_struct ss) ≡ bared (struct_faults_after structs depths ss)
structs-bare structs depths [] = refl
structs-bare structs depths (s ∷ ss) =
    both_bare _ _ _ _ (struct-bare structs depths s)
    (structs-bare (with_entry structs s.name (member_table s)) (with_entry depths s.name (depth_of_struct depths s)) ss)

pub struct_table-same : (ss : List CStruct) → struct_table (map placeless_struct ss) ≡ struct_table ss
struct_table-same ss = ap (λ entries. table_of entries) (map-twice (λ (s : CStruct). (s.name, member_table s)) placeless_struct ss)

-- ---- functions

-- what fails before the statements, by the functions that they call and by which of them surely return
abbrev head_at : Table (Table CMember) → Table Signature → Table ℕ → Bool → CFunc → Place → List Text → List Bool → List Fault
head_at structs functions depths last f at calls returning =
    unless (is_none (functions f.name)) distinct_names at
    ++ (unless (all_distinct no_entries (variable_names f)) distinct_names at
    ++ (unless (list_all (λ p. is_declared structs p.ty) f.params && list_all (λ l. is_declared structs l.ty) f.locals) declared_before at
    ++ (unless (list_all (λ p. p.pointer || is_scalar p.ty) f.params) scalar_parameter at
    ++ (unless (if last then not f.fixed else f.fixed) static_functions at
    ++ (unless (nat_le (limited (1 + most depths calls)) 300) short_chain at
    ++ unless (is_none f.result || last_returns returning) returns_result at)))))

head_at-bare : (structs : Table (Table CMember)) (functions : Table Signature) (depths : Table ℕ) (last : Bool) (f : CFunc) (at : Place)
    (calls : List Text) (returning : List Bool) →
    head_at structs functions depths last f any_place calls returning ≡ bared (head_at structs functions depths last f at calls returning)
head_at-bare structs functions depths last f at calls returning =
    both_bare _ _ _ _ (unless_bare (is_none (functions f.name)) distinct_names at)
    (both_bare _ _ _ _ (unless_bare (all_distinct no_entries (variable_names f)) distinct_names at)
    (both_bare _ _ _ _ (unless_bare (list_all (λ p. is_declared structs p.ty) f.params
    && list_all (λ l. is_declared structs l.ty) f.locals) declared_before at)
    (both_bare _ _ _ _ (unless_bare (list_all (λ p. p.pointer || is_scalar p.ty) f.params) scalar_parameter at)
    (both_bare _ _ _ _ (unless_bare (if last then not f.fixed else f.fixed) static_functions at)
    (both_bare _ _ _ _ (unless_bare (nat_le (limited (1 + most depths calls)) 300) short_chain at)
    (unless_bare (is_none f.result || last_returns returning) returns_result at))))))

head-bare : (structs : Table (Table CMember)) (functions : Table Signature) (depths : Table ℕ) (last : Bool) (f : CFunc) →
    faults_in_head structs functions depths last (placeless_func f) ≡ bared (faults_in_head structs functions depths last f)
head-bare structs functions depths last f =
    ap₂ (λ calls returning. head_at structs functions depths last f any_place calls returning) (calls_same f.body) (returns_same f.body)
    ∙ head_at-bare structs functions depths last f f.place (calls_in_block f.body) (map surely_returns f.body)

function-bare : (structs : Table (Table CMember)) (functions : Table Signature) (depths : Table ℕ) (last : Bool) (f : CFunc) →
    faults_in_function structs functions depths last (placeless_func f) ≡ bared (faults_in_function structs functions depths last f)
function-bare structs functions depths last f =
    both_bare _ _ _ _ (head-bare structs functions depths last f)
    (both_bare _ _ _ _
    (ap (λ turns. repeated (names_table (variable_names f)) turns) (turns_bare f.body)
    ∙ repeated-bare (names_table (variable_names f)) (turns_in_block f.body))
    (body_bare f.body (context_in structs functions f)))

functions-bare : (structs : Table (Table CMember)) (functions : Table Signature) (depths : Table ℕ) (fs : List CFunc) →
    function_faults_after structs functions depths (map placeless_func fs) ≡ bared (function_faults_after structs functions depths fs)
functions-bare structs functions depths [] = refl
functions-bare structs functions depths (f ∷ fs) =
    both_bare _ _ _ _
    (ap (λ n. faults_in_function structs functions depths (nat_lt n 2) (placeless_func f)) (length-map fs placeless_func)
    ∙ function-bare structs functions depths (nat_lt (length fs) 2) f)
    (ap (λ calls. function_faults_after structs (with_entry functions f.name (signature_in f))
    (with_entry depths f.name (limited (1 + most depths calls))) (map placeless_func fs))
    (calls_same f.body)
    ∙ functions-bare structs (with_entry functions f.name (signature_in f)) (with_entry depths f.name (depth_of_function depths f)) fs)

-- ---- the interface

last_two-same : (fs : List CFunc) → last_two (map placeless_func fs) ≡ map placeless_func (last_two fs)
last_two-same fs =
    ap (λ n. drop (n - 2) (map placeless_func fs)) (length-map fs placeless_func) ∙ drop-map placeless_func (length fs - 2) fs

place_of_two-same : (fs : List CFunc) → place_of_two (map placeless_func fs) ≡ any_place
place_of_two-same [] = refl
place_of_two-same (f ∷ []) = refl
place_of_two-same (f ∷ last ∷ rest) = refl

last_place-same : (fs : List CFunc) → last_place (map placeless_func fs) ≡ any_place
last_place-same fs = ap place_of_two (last_two-same fs) ∙ place_of_two-same (last_two fs)

abbrev init_at : Bool → Bool → Place → Place → List Fault
init_at named fits at last = if named then unless fits interface_functions at else unless false interface_functions last

init_at-bare : (named fits : Bool) (at last : Place) → init_at named fits any_place any_place ≡ bared (init_at named fits at last)
init_at-bare true fits at last = unless_bare fits interface_functions at
init_at-bare false fits at last = refl

tick-bare : (f : CFunc) → tick_faults (placeless_func f) ≡ bared (tick_faults f)
tick-bare f = unless_bare (bytes_eq f.name (codes "bl_tick") && (gives f.result (Nat W32) && tick_params f.params)) interface_functions f.place

two-bare : (fs : List CFunc) → faults_of_two (map placeless_func fs) ≡ bared (faults_of_two fs)
two-bare [] = refl
two-bare (last ∷ []) =
    both_bare (unless false interface_functions last.place) (tick_faults last) _ _ (unless_bare false interface_functions last.place) (tick-bare last)
two-bare (f ∷ last ∷ rest) =
    both_bare (init_faults f last.place) (tick_faults last) _ _
    (init_at-bare (bytes_eq f.name (codes "bl_init")) (is_none f.result && init_params f.params) f.place last.place) (tick-bare last)

interface-bare : (fs : List CFunc) → interface_faults (map placeless_func fs) ≡ bared (interface_faults fs)
interface-bare fs = ap faults_of_two (last_two-same fs) ∙ two-bare (last_two fs)

-- ---- the file

-- a file without its places
abbrev pub placeless : Parts → Parts
placeless file = record { structs = map placeless_struct file.structs; funcs = map placeless_func file.funcs }

abbrev are_there : Table (Table CMember) → Bool
are_there structs = is_some (structs (codes "bl_state")) && (is_some (structs (codes "bl_in")) && is_some (structs (codes "bl_out")))

abbrev with_structs : Parts → Table (Table CMember) → List Fault
with_structs file structs =
    struct_faults_after no_entries no_entries file.structs
    ++ (function_faults_after structs no_entries no_entries file.funcs
    ++ (unless (are_there structs) interface_structs (last_place file.funcs) ++ interface_faults file.funcs))

pub faults-bare : (file : Parts) → faults_in (placeless file) ≡ bared (faults_in file)
unfolding faults_in
faults-bare file =
    ap (λ structs. with_structs (placeless file) structs) (struct_table-same file.structs)
    ∙ both_bare _ _ _ _ (structs-bare no_entries no_entries file.structs)
    (both_bare _ _ _ _ (functions-bare (struct_table file.structs) no_entries no_entries file.funcs)
    (both_bare _ _ _ _
    (ap (λ at. unless (are_there (struct_table file.structs)) interface_structs at) (last_place-same file.funcs)
    ∙ unless_bare (are_there (struct_table file.structs)) interface_structs (last_place file.funcs))
    (interface-bare file.funcs)))
