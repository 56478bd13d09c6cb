-- What the functions of the interface do where the file is entered.
use Rattle.std.proofs.Common.{◌≡◌, ℕ, suc, Bool, true, false, not, ◌&&◌, List, [], ◌∷◌, ◌++◌, take, Option, Some, None, refl, sym, ap, ◌∙◌, subst, codes}
use Rattle.std.proofs.lemmas.List.Elements.{All-cons, All-nil}
use Rattle.std.proofs.lemmas.Option.{same_Some}
use Rattle.std.specs.List.{list_all}
use Rattle.std.specs.Prelude.{All, bytes_eq, is_none, is_some, slice_get, if◌then◌else◌}
use Rattle.std.proofs.lemmas.Bool.{and_from}
use Rattle.bl_tree.proofs.Basics.{and_first, and_second}
use Rattle.bl_tree.specs.declared.c.CFunc.{CFunc}
use Rattle.bl_tree.specs.declared.text.Text.{Text}
use Rattle.bl_tree.specs.declared.tree.StructDef.{StructDef}
use Rattle.bl_tree.specs.declared.tree.Unit.{Unit as UnitDef}
use Rattle.bl_tree.specs.declared.tree.Var.{Var}
use Rattle.bl_tree.specs.Program.{is_entry, parameters_of}
use Rattle.bl_tree.specs.Types.{scalar_in}
use Rattle.bl_tree.specs.Typing.{is_activity}
use Rattle.bl_ctext_semantics.specs.Calls.{calls_in, calls_in_block, calls_in_stmt}
use Rattle.bl_ctext_semantics.specs.Meaning.{ArgumentValue, Meaning, applied, function_c, meanings_after}
use Rattle.bl_ctext_semantics.specs.Memory.{Memory}
use Rattle.bl_ctext_semantics.specs.Parts.{Parts}
use Rattle.bl_ctext_semantics.specs.Tables.{Table, found, no_entries, with_entry}
use Rattle.bl_ctext_semantics.specs.Trace.{call_from_outside}
use Rattle.bl_ctext_semantics_laws_calls.specs.Known.{AreAlike, CallsDecide}
use Rattle.bl_emit_acts.specs.Acts.{c_calling}
use Rattle.bl_emit_acts.specs.Trees.{c_call, c_place, c_read}
use Rattle.bl_emit_acts.specs.Types.{unit_name}
use Rattle.bl_emit_functions.specs.Functions.{function_code}
use Rattle.bl_emit_functions.specs.Trees.{c_if}
use Rattle.bl_emit_functions_laws_wellformed.proofs.OnFiles.Shapes.{call-calls, calling-calls, if-calls, place-calls, read-calls}
use Rattle.bl_emit_functions_laws_simulation.specs.Units.{known_after}
use Rattle.bl_emit_spec.specs.Activities.{activity_function, remembers_any}
use Rattle.bl_emit_spec.specs.Blocks.{unit_may_end, stmt_where}
use Rattle.bl_emit_spec.specs.Programs.{c_returned, init_function, needed_units, tick_args, tick_function}
use Rattle.bl_emit_spec_laws.specs.Calls.Built.{Activities}
use Rattle.bl_emit_laws.specs.Linked.{FilesEnter, table_of_needed}
use Rattle.bl_emit_laws.proofs.OnLinked.Spared.{other_entry}
use Rattle.bl_emit_spec_laws.specs.Tables.Laws.{WrittenAs, WrittenIsKept}
use Rattle.bl_emit_spec_laws.specs.Tables.Tables.{activities_of, each_from, functions_of_all, kept_where, unit_function}
use Rattle.bl_emit_laws.proofs.OnCells.Interface.{returned_silent, tick_silent}
use Rattle.bl_emit_spec.specs.Lent.{lent_unit}

-- ---- what a tick calls

-- it calls the function of the entry alone
tick_calls : (unit : UnitDef) (remembers : Bool) → calls_in_block (tick_function unit remembers).body ≡ unit_name unit.name ∷ []
tick_calls unit remembers = λ i. called i ++ answered (unit_may_end unit) i
  where
    called : calls_in_stmt (c_calling (c_call (unit_name unit.name) (tick_args unit remembers))) ≡ unit_name unit.name ∷ []
    called =
        calling-calls (c_call (unit_name unit.name) (tick_args unit remembers))
        ∙ (call-calls (unit_name unit.name) (tick_args unit remembers) ∙ (λ i. unit_name unit.name ∷ tick_silent unit remembers i))

    over : calls_in (c_read (c_place false (codes "e") [])) ≡ []
    over = read-calls (c_place false (codes "e") []) ∙ place-calls false (codes "e") []

    tested : calls_in_stmt (c_if (c_read (c_place false (codes "e") [])) (c_returned 1 ∷ []) None) ≡ []
    tested =
        if-calls (c_read (c_place false (codes "e") [])) (c_returned 1 ∷ []) None
        ∙ (λ i. (over i ++ (returned_silent 1 i ++ [])) ++ [])

    answered : (ends : Bool) →
        calls_in_block (stmt_where ends (c_if (c_read (c_place false (codes "e") [])) (c_returned 1 ∷ []) None) ++ c_returned 0 ∷ []) ≡ []
    answered true = λ i. tested i ++ (returned_silent 0 i ++ [])
    answered false = λ i. returned_silent 0 i ++ []

-- ---- what is found in a file

-- no function has the name
abbrev others : Text → List CFunc → Bool
others name functions = list_all (λ (f : CFunc). not (bytes_eq f.name name)) functions

found_behind : (known : Table Meaning) (first rest : List CFunc) (name : Text) → others name first ≡ true →
    found name (meanings_after known (first ++ rest)) ≡ found name (meanings_after (known_after known first) rest)
found_behind known [] rest name other = refl
found_behind known (f ∷ first) rest name other =
    ap (λ b. if b then Some (function_c known f) else found name (meanings_after (with_entry known f.name (function_c known f)) (first ++ rest)))
    (differs (bytes_eq f.name name) (and_first (not (bytes_eq f.name name)) (others name first) other))
    ∙ found_behind (with_entry known f.name (function_c known f)) first rest name
    (and_second (not (bytes_eq f.name name)) (others name first) other)
  where
    differs : (b : Bool) → not b ≡ true → b ≡ false
    differs true h = absurd (cc)
    differs false h = refl

module _ (structs : List StructDef) (units : List UnitDef) (activities : Activities) where
  abbrev code : ℕ → UnitDef → CFunc
  code k unit = unit_function structs units activities k unit

  others_kept : (name : Text) → ((k : ℕ) (unit : UnitDef) → not (bytes_eq (code k unit).name name) ≡ true) → (tests : List Bool) (k : ℕ)
      (xs : List UnitDef) → others name (kept_where tests (each_from code k xs)) ≡ true
  others_kept name differs [] k xs = refl
  others_kept name differs (test ∷ tests) k [] = refl
  others_kept name differs (true ∷ tests) k (unit ∷ xs) =
      and_from (not (bytes_eq (code k unit).name name)) (others name (kept_where tests (each_from code (suc k) xs))) (differs k unit)
      (others_kept name differs tests (suc k) xs)
  others_kept name differs (false ∷ tests) k (unit ∷ xs) = others_kept name differs tests (suc k) xs

  init_differs : (k : ℕ) (unit : UnitDef) → not (bytes_eq (code k unit).name (codes "bl_init")) ≡ true
  init_differs k unit = by (is_activity unit.kind)
    where
      by : (active : Bool) →
          not (bytes_eq (if active then activity_function (activities k) else function_code structs (take k units) unit).name (codes "bl_init")) ≡ true
      by true = refl
      by false = refl

  tick_differs : (k : ℕ) (unit : UnitDef) → not (bytes_eq (code k unit).name (codes "bl_tick")) ≡ true
  tick_differs k unit = by (is_activity unit.kind)
    where
      by : (active : Bool) →
          not (bytes_eq (if active then activity_function (activities k) else function_code structs (take k units) unit).name (codes "bl_tick")) ≡ true
      by true = refl
      by false = refl

-- ---- the interface

-- a tick doesn't call what joins under another name
tick_same : CallsDecide → (known : Table Meaning) (meaning : Meaning) (unit : UnitDef) (remembers : Bool) (passed : List ArgumentValue) (memory : Memory) →
    function_c (with_entry known (codes "bl_init") meaning) (tick_function unit remembers) 0 passed memory
    ≡ function_c known (tick_function unit remembers) 0 passed memory
tick_same decide known meaning unit remembers passed memory =
    decide (with_entry known (codes "bl_init") meaning) known (tick_function unit remembers)
    (subst (All Alike) (sym (tick_calls unit remembers)) (All-cons Alike (unit_name unit.name) [] entry_alike (All-nil Alike))) 0 passed memory
  where
    Alike : Text → Type 0
    Alike name = AreAlike (with_entry known (codes "bl_init") meaning) known name

    entry_alike : AreAlike (with_entry known (codes "bl_init") meaning) known (unit_name unit.name)
    entry_alike builtin depth passed memory =
        ap (λ o. applied o depth passed memory)
        (other_entry (known (unit_name unit.name)) (bytes_eq (codes "bl_init") (unit_name unit.name)) meaning refl)

module _ (decide : CallsDecide) (known : Table Meaning) (functions : List CFunc) (table : known_after no_entries functions ≡ known) (unit : UnitDef)
    (remembers : Bool) where
  abbrev all : List CFunc
  all = functions ++ (init_function ∷ tick_function unit remembers ∷ [])

  init_found : others (codes "bl_init") functions ≡ true → found (codes "bl_init") (meanings_after no_entries all)
      ≡ Some (function_c known init_function)
  init_found other =
      found_behind no_entries functions (init_function ∷ tick_function unit remembers ∷ []) (codes "bl_init") other
      ∙ ap (λ known. Some (function_c known init_function)) table

  tick_found : others (codes "bl_tick") functions ≡ true → found (codes "bl_tick") (meanings_after no_entries all)
      ≡ Some (function_c (with_entry known (codes "bl_init") (function_c known init_function)) (tick_function unit remembers))
  tick_found other =
      found_behind no_entries functions (init_function ∷ tick_function unit remembers ∷ []) (codes "bl_tick") other
      ∙ ap (λ known. Some (function_c (with_entry known (codes "bl_init") (function_c known init_function)) (tick_function unit remembers)))
      table

  pub init_done : (file : Parts) → file.funcs ≡ all → others (codes "bl_init") functions ≡ true → (passed : List ArgumentValue) (memory : Memory) →
      call_from_outside file (codes "bl_init") passed memory ≡ function_c known init_function 0 passed memory
  unfolding call_from_outside
  init_done file is other passed memory =
      ap (λ functions. applied (found (codes "bl_init") (meanings_after no_entries functions)) 0 passed memory) is
      ∙ ap (λ o. applied o 0 passed memory) (init_found other)

  pub tick_done : (file : Parts) → file.funcs ≡ all → others (codes "bl_tick") functions ≡ true → (passed : List ArgumentValue) (memory : Memory) →
      call_from_outside file (codes "bl_tick") passed memory ≡ function_c known (tick_function unit remembers) 0 passed memory
  unfolding call_from_outside
  tick_done file is other passed memory =
      ap (λ functions. applied (found (codes "bl_tick") (meanings_after no_entries functions)) 0 passed memory) is
      ∙ (ap (λ o. applied o 0 passed memory) (tick_found other)
      ∙ tick_same decide known (function_c known init_function) unit remembers passed memory)

-- the entry is an activity
active_entry : (o : Option UnitDef) (unit : UnitDef) → o ≡ Some unit → is_entry o ≡ true → is_activity unit.kind ≡ true
active_entry None unit is stands = absurd (cc)
active_entry (Some other) unit is stands =
    ap (λ (it : UnitDef). is_activity it.kind) (sym (same_Some other unit is))
    ∙ and_first (is_activity other.kind) (is_none other.result && list_all (λ (var : Var). is_some (scalar_in var.ty)) (parameters_of other)) stands

pub all_enter : CallsDecide → WrittenIsKept → FilesEnter
all_enter decide written program machine unit file is = record {
  init = init_done decide known functions refl unit remembers file funcs
      (others_kept program.structs program.units activities (codes "bl_init") (init_differs program.structs program.units activities) needed 0 program.units);
  tick = tick_done decide known functions refl unit remembers file funcs
      (others_kept program.structs program.units activities (codes "bl_tick") (tick_differs program.structs program.units activities) needed 0 program.units);
}
  where
    activities : Activities
    activities = activities_of program.structs program.units machine

    needed : List Bool
    needed = needed_units program.units program.entry

    functions : List CFunc
    functions = kept_where (needed_units program.units program.entry)
        (functions_of_all program.structs program.units (activities_of program.structs program.units machine))

    known : Table Meaning
    known = table_of_needed program.structs program.units program.entry (activities_of program.structs program.units machine)

    remembers : Bool
    remembers = remembers_any (activities_of program.structs program.units machine program.entry)

    written_so : WrittenAs program machine unit
    written_so =
        written program machine unit is.agrees is.there
        (active_entry (slice_get program.units program.entry) (lent_unit unit) is.there is.well_typed.entry_stands)

    funcs : file.funcs ≡ functions ++ (init_function ∷ tick_function unit remembers ∷ [])
    funcs = is.funcs ∙ written_so.funcs
