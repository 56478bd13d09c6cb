-- The table of the C functions of all units knows all of them.
use Rattle.std.proofs.Common.{◌≡◌, ℕ, zero, suc, ◌+◌, Bool, true, false, not, List, [], ◌∷◌, ◌++◌, drop, map, take}
use Rattle.std.proofs.Common.{Option, Some, None, refl, sym, ap, ◌∙◌, subst, arith}
use Rattle.std.proofs.lemmas.Option.{same_Some}
use Rattle.std.specs.List.{list_all}
use Rattle.std.specs.Option.{option_or}
use Rattle.std.specs.Prelude.{bytes_eq, slice_get, if◌then◌else◌}
use Rattle.std.proofs.lemmas.Bool.{and_from}
use Rattle.bl_tree.proofs.Basics.{and_first, and_second, take_next}
use Rattle.bl_tree.specs.declared.text.Text.{Text}
use Rattle.bl_tree.specs.declared.c.CFunc.{CFunc}
use Rattle.bl_tree.specs.declared.tree.StructDef.{StructDef}
use Rattle.bl_tree.specs.declared.tree.Unit.{Unit as UnitDef}
use Rattle.bl_tree.specs.Typing.{is_activity, is_function}
use Rattle.bl_tree.specs.Words.{are_distinct, is_among}
use Rattle.bl_machine.specs.declared.machine.Activity.{Activity as InMachine}
use Rattle.bl_ctext_semantics.specs.Meaning.{Meaning, function_c}
use Rattle.bl_ctext_semantics.specs.Tables.{Table, no_entries, with_entry}
use Rattle.bl_emit_acts.specs.Types.{unit_name}
use Rattle.bl_emit_functions.specs.Functions.{function_code}
use Rattle.bl_emit_functions_laws_simulation.specs.Units.{known_after}
use Rattle.bl_emit_spec.specs.Activities.{activity_function}
use Rattle.bl_emit_spec_laws.specs.Calls.Built.{Activities, AreBuilt}
use Rattle.bl_emit_spec_laws.specs.Calls.Laws.{AllKnownUpTo}
use Rattle.bl_emit_spec_laws.specs.Tables.Laws.{TablesKnowAll}
use Rattle.bl_emit_spec_laws.specs.Tables.Tables.{each_from, functions_of_all, table_of_all, table_up_to, unit_function}
use Rattle.bl_emit_spec_laws.proofs.OnTables.Lists.{drop_next, each_got, each_past, map_take, split_at}
use Rattle.bl_emit_functions_laws_simulation.proofs.OnUnits.Made.{distinct_behind, known_behind, take_past, names, other_name}
use Rattle.bl_emit_functions_laws_simulation.proofs.OnUnits.Growing.{entry_joins, entry_stays}

-- ---- names

-- the names of their C functions
abbrev pub names_c : List UnitDef → List Text
names_c units = map (λ (unit : UnitDef). unit_name unit.name) units

-- whether a name is another one
abbrev is_other : Text → Text → Bool
is_other name other = not (bytes_eq other name)

-- the units before a position have other names than the unit there
all_others : (units : List UnitDef) (k : ℕ) (unit : UnitDef) → are_distinct (names units) ≡ true → slice_get units k ≡ Some unit →
    list_all (is_other (unit_name unit.name)) (take k (names_c units)) ≡ true
all_others [] zero unit distinct there = absurd (cc)
all_others [] (suc k) unit distinct there = absurd (cc)
all_others (first ∷ units) zero unit distinct there = refl
all_others (first ∷ units) (suc k) unit distinct there =
    and_from (is_other (unit_name unit.name) (unit_name first.name)) (list_all (is_other (unit_name unit.name)) (take k (names_c units)))
    (other_name first.name units k unit (and_first (not (is_among first.name (names units))) (are_distinct (names units)) distinct) there)
    (all_others units k unit (and_second (not (is_among first.name (names units))) (are_distinct (names units)) distinct) there)

-- ---- tables

-- a name that no function has stays free
stays_free : (name : Text) (functions : List CFunc) (known : Table Meaning) → known name ≡ None →
    list_all (is_other name) (map (λ (f : CFunc). f.name) functions) ≡ true → known_after known functions name ≡ None
stays_free name [] known free others = free
stays_free name (f ∷ functions) known free others =
    stays_free name functions (with_entry known f.name (function_c known f))
    (ap (λ o. option_or o (if bytes_eq f.name name then Some (function_c known f) else None)) free
    ∙ ap (λ b. option_or None (if b then Some (function_c known f) else None))
    (differs (bytes_eq f.name name)
    (and_first (is_other name f.name) (list_all (is_other name) (map (λ (f : CFunc). f.name) functions)) others)))
    (and_second (is_other name f.name) (list_all (is_other name) (map (λ (f : CFunc). f.name) functions)) others)
  where
    differs : (b : Bool) → not b ≡ true → b ≡ false
    differs true h = absurd (cc)
    differs false h = refl

module _ (structs : List StructDef) (units : List UnitDef) (machine : List InMachine) (activities : Activities)
    (built : AreBuilt structs units machine activities) where
  abbrev Knows : ℕ → Table Meaning → Type 0
  Knows k known = AllKnownUpTo structs units activities k known

  -- what is known stays known when another function joins
  others_join : (k : ℕ) (known : Table Meaning) (name : Text) (meaning : Meaning) → Knows k known → Knows k (with_entry known name meaning)
  others_join zero known name meaning all = tt
  others_join (suc k) known name meaning all = (
    others_join k known name meaning all.0,
    (
      λ unit there function.
          let found = all.1.0 unit there function in (
            found.0,
            entry_stays known name (unit_name unit.name) meaning (function_c found.0 (function_code structs (take k units) unit)) found.1,
            found.2,
          ),
      λ unit there active.
          let found = all.1.1 unit there active in (
            found.0,
            entry_stays known name (unit_name unit.name) meaning (function_c found.0 (activity_function (activities k))) found.1,
            found.2,
          ),
    ),
  )

  all_join : (k : ℕ) (functions : List CFunc) (known : Table Meaning) → Knows k known → Knows k (known_after known functions)
  all_join k [] known all = all
  all_join k (f ∷ functions) known all =
      all_join k functions (with_entry known f.name (function_c known f)) (others_join k known f.name (function_c known f) all)

  abbrev code : ℕ → UnitDef → CFunc
  code k unit = unit_function structs units activities k unit

  -- the C function of a unit has its name
  named : (k : ℕ) (unit : UnitDef) → slice_get units k ≡ Some unit → (code k unit).name ≡ unit_name unit.name
  named k unit there = by (is_activity unit.kind)
    where
      by : (active : Bool) → (if active then activity_function (activities k) else function_code structs (take k units) unit).name ≡ unit_name unit.name
      by true = ap (λ (unit : UnitDef). unit_name unit.name) (built.unit k unit there)
      by false = refl

  names_are : (xs : List UnitDef) (k : ℕ) → drop k units ≡ xs → map (λ (f : CFunc). f.name) (each_from code k xs) ≡ names_c xs
  names_are [] k is = refl
  names_are (unit ∷ xs) k is =
      let found = drop_next units k unit xs is in
      let here = named k unit found.0 in
      let rest = names_are xs (suc k) found.1 in λ i. here i ∷ rest i

  abbrev functions : List CFunc
  functions = functions_of_all structs units activities

  abbrev table : ℕ → Table Meaning
  table k = table_up_to structs units activities k

  -- the function of the next unit joins
  joins : (k : ℕ) (unit : UnitDef) (known : Table Meaning) → slice_get units k ≡ Some unit → known (unit_name unit.name) ≡ None → Knows k known →
      Knows (suc k) (with_entry known (code k unit).name (function_c known (code k unit)))
  joins k unit known there free all =
      subst (λ name. Knows (suc k) (with_entry known name (function_c known (code k unit)))) (sym (named k unit there)) (
        others_join k known (unit_name unit.name) (function_c known (code k unit)) all,
        (
          λ other at function. function_there other (same_Some unit other (sym there ∙ at)) function,
          λ other at active. activity_there other (same_Some unit other (sym there ∙ at)) active,
        ),
      )
    where
      chosen : UnitDef → Bool → Meaning
      chosen unit active = function_c known (if active then activity_function (activities k) else function_code structs (take k units) unit)

      no_active : (b : Bool) → not b ≡ true → b ≡ false
      no_active true h = absurd (cc)
      no_active false h = refl

      own : (other : UnitDef) → unit ≡ other → with_entry known (unit_name unit.name) (function_c known (code k unit)) (unit_name other.name)
          ≡ Some (function_c known (code k other))
      own other same =
          ap (λ (other : UnitDef). with_entry known (unit_name unit.name) (function_c known (code k unit)) (unit_name other.name)) (sym same)
          ∙ (entry_joins known (unit_name unit.name) (function_c known (code k unit)) free
          ∙ ap (λ (other : UnitDef). Some (function_c known (code k other))) same)

      function_there : (other : UnitDef) → unit ≡ other → is_function other.kind ≡ true → (below : Table Meaning)
          × (with_entry known (unit_name unit.name) (function_c known (code k unit)) (unit_name other.name)
          ≡ Some (function_c below (function_code structs (take k units) other))) × Knows k below
      function_there other same function =
          (known, own other same ∙ ap (λ b. Some (chosen other b)) (no_active (is_activity other.kind) function), all)

      activity_there : (other : UnitDef) → unit ≡ other → is_activity other.kind ≡ true → (below : Table Meaning)
          × (with_entry known (unit_name unit.name) (function_c known (code k unit)) (unit_name other.name)
          ≡ Some (function_c below (activity_function (activities k)))) × Knows k below
      activity_there other same active = (known, own other same ∙ ap (λ b. Some (chosen other b)) active, all)

  module _ (distinct : are_distinct (names units) ≡ true) where
    is_free : (k : ℕ) (unit : UnitDef) → slice_get units k ≡ Some unit → table k (unit_name unit.name) ≡ None
    is_free k unit there =
        stays_free (unit_name unit.name) (take k functions) no_entries refl
        (ap (list_all (is_other (unit_name unit.name))) (map_take (λ (f : CFunc). f.name) functions k ∙ ap (take k) (names_are units 0 refl))
        ∙ all_others units k unit distinct there)

    table_next : (k : ℕ) (unit : UnitDef) → slice_get units k ≡ Some unit →
        table (suc k) ≡ with_entry (table k) (code k unit).name (function_c (table k) (code k unit))
    table_next k unit there =
        let same : 0 + k ≡ k = omega arith in
        ap (known_after no_entries)
        (take_next functions k (code k unit) (each_got code units 0 k unit there ∙ ap (λ n. Some (code n unit)) same))
        ∙ known_behind no_entries (take k functions) (code k unit ∷ [])

    pub know : (k : ℕ) → Knows k (table k)
    know zero = tt
    know (suc k) = by (know k) (slice_get units k) refl
      where
        by : Knows k (table k) → (o : Option UnitDef) → slice_get units k ≡ o → Knows (suc k) (table (suc k))
        by before None past = (
          subst (Knows k) (sym (ap (known_after no_entries) (take_past functions k (each_past code units 0 k past)))) before,
          (λ unit there function. absurd (let no = sym there ∙ past in cc), λ unit there active. absurd (let no = sym there ∙ past in cc)),
        )
        by before (Some unit) there =
            subst (Knows (suc k)) (sym (table_next k unit there)) (joins k unit (table k) there (is_free k unit there) before)

    pub know_whole : (k : ℕ) → Knows k (table_of_all structs units activities)
    know_whole k =
        subst (Knows k) (sym (known_behind no_entries (take k functions) (drop k functions)) ∙ ap (known_after no_entries) (split_at functions k))
        (all_join k (drop k functions) (table k) (know k))

pub know_all : TablesKnowAll
know_all structs units entry machine activities k keeps built =
    let distinct = distinct_behind (map (λ (def : StructDef). def.name) structs) (names units) keeps.distinct in
    (know structs units machine activities built distinct k, know_whole structs units machine activities built distinct k)
