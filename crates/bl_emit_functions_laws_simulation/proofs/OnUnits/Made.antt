-- The table of the C functions of a program's functions knows all of them.
use Rattle.std.proofs.Common.{◌≡◌, ℕ, zero, suc, Bool, true, false, not, ◌||◌, List, [], ◌∷◌, ◌++◌, map, take}
use Rattle.std.proofs.Common.{Option, Some, None, refl, sym, ap, ◌∙◌, subst, append_assoc}
use Rattle.std.proofs.lemmas.List.{append-nil}
use Rattle.std.proofs.lemmas.Option.{same_Some}
use Rattle.std.specs.List.{list_all}
use Rattle.std.specs.Option.{option_or}
use Rattle.std.specs.Prelude.{bytes_eq, slice_get, if◌then◌else◌}
use Rattle.std.proofs.lemmas.Bool.{and_from}
use Rattle.bl_tree.proofs.Basics.{and_first, and_second, take_next}
use Rattle.bl_tree.specs.declared.text.Text.{Text}
use Rattle.bl_tree.specs.declared.c.CFunc.{CFunc}
use Rattle.bl_tree.specs.declared.tree.StructDef.{StructDef}
use Rattle.bl_tree.specs.declared.tree.Unit.{Unit as UnitDef}
use Rattle.bl_tree.specs.Typing.{is_function}
use Rattle.bl_tree.specs.Words.{are_distinct, is_among}
use Rattle.bl_ctext_semantics.specs.Meaning.{Meaning, function_c}
use Rattle.bl_ctext_semantics.specs.Tables.{Table, no_entries, with_entry}
use Rattle.bl_emit_acts.specs.Types.{unit_name}
use Rattle.bl_emit_functions.specs.Functions.{function_code}
use Rattle.bl_emit_functions_laws_simulation.specs.Units.{KnownUpTo, TablesKnow, functions_after, known_after, made_table, made_where}
use Rattle.bl_emit_functions_laws_simulation.proofs.OnUnits.Growing.{activity_passes, function_joins}

-- ---- lists

pub take_past : {A : Type 0} (xs : List A) (k : ℕ) → slice_get xs k ≡ None → take (suc k) xs ≡ take k xs
take_past [] zero past = refl
take_past [] (suc k) past = refl
take_past (y ∷ xs) zero past = absurd (cc)
take_past (y ∷ xs) (suc k) past = ap (λ rest. y ∷ rest) (take_past xs k past)

-- ---- names

pub distinct_behind : (xs ys : List (List ℕ)) → are_distinct (xs ++ ys) ≡ true → are_distinct ys ≡ true
distinct_behind [] ys h = h
distinct_behind (x ∷ xs) ys h = distinct_behind xs ys (and_second (not (is_among x (xs ++ ys))) (are_distinct (xs ++ ys)) h)

abbrev pub names : List UnitDef → List (List ℕ)
names units = map (λ (unit : UnitDef). unit.name) units

pub other_name : (text : List ℕ) (units : List UnitDef) (k : ℕ) (unit : UnitDef) → not (is_among text (names units)) ≡ true →
    slice_get units k ≡ Some unit → not (bytes_eq text unit.name) ≡ true
other_name text [] k unit none there = absurd (cc)
other_name text (first ∷ units) zero unit none there =
    ap (λ (unit : UnitDef). not (bytes_eq text unit.name)) (sym (same_Some first unit there))
    ∙ not_first (bytes_eq text first.name) (is_among text (names units)) none
  where
    not_first : (a b : Bool) → not (a || b) ≡ true → not a ≡ true
    not_first true b h = h
    not_first false b h = refl
other_name text (first ∷ units) (suc k) unit none there =
    other_name text units k unit (not_second (bytes_eq text first.name) (is_among text (names units)) none) there
  where
    not_second : (a b : Bool) → not (a || b) ≡ true → not b ≡ true
    not_second true b h = absurd (cc)
    not_second false b h = h

-- whether a unit's C function has another name
abbrev is_other : Text → UnitDef → Bool
is_other name unit = not (bytes_eq (unit_name unit.name) name)

-- the units before a position have other names than the unit there
all_others : (units : List UnitDef) (k : ℕ) (unit : UnitDef) → are_distinct (names units) ≡ true → slice_get units k ≡ Some unit →
    list_all (is_other (unit_name unit.name)) (take k units) ≡ true
all_others [] k unit distinct there = absurd (cc)
all_others (first ∷ units) zero unit distinct there = refl
all_others (first ∷ units) (suc k) unit distinct there =
    and_from (is_other (unit_name unit.name) first) (list_all (is_other (unit_name unit.name)) (take k units))
    (other_name first.name units k unit (and_first (not (is_among first.name (names units))) (are_distinct (names units)) distinct) there)
    (all_others units k unit (and_second (not (is_among first.name (names units))) (are_distinct (names units)) distinct) there)

-- ---- tables

pub known_behind : (known : Table Meaning) (first second : List CFunc) → known_after known (first ++ second) ≡ known_after (known_after known first) second
known_behind known [] second = refl
known_behind known (function ∷ first) second = known_behind (with_entry known function.name (function_c known function)) first second

module _ (structs : List StructDef) where
  functions_behind : (earlier xs ys : List UnitDef) → functions_after structs earlier (xs ++ ys)
      ≡ functions_after structs earlier xs ++ functions_after structs (earlier ++ xs) ys
  functions_behind earlier [] ys = ap (λ earlier. functions_after structs earlier ys) (sym (append-nil earlier))
  functions_behind earlier (unit ∷ xs) ys =
      let made : List CFunc = made_where (is_function unit.kind) structs earlier unit in
      let next : List UnitDef = earlier ++ unit ∷ [] in
      ap (λ rest. made ++ rest) (functions_behind next xs ys)
      ∙ (ap (λ before. made ++ (functions_after structs next xs ++ functions_after structs before ys)) (append_assoc earlier (unit ∷ []) xs)
      ∙ sym (append_assoc made (functions_after structs next xs) (functions_after structs (earlier ++ (unit ∷ xs)) ys)))

  -- a name that no function has stays free
  stays_free : (name : Text) (earlier xs : List UnitDef) (known : Table Meaning) → known name ≡ None → list_all (is_other name) xs ≡ true →
      known_after known (functions_after structs earlier xs) name ≡ None
  stays_free name earlier [] known free others = free
  stays_free name earlier (unit ∷ xs) known free others =
      by (is_function unit.kind)
      (λ known free. stays_free name (earlier ++ unit ∷ []) xs known free (and_second (is_other name unit) (list_all (is_other name) xs) others))
    where
      differs : (b : Bool) → not b ≡ true → b ≡ false
      differs true h = absurd (cc)
      differs false h = refl

      by : (function : Bool) →
          ((known : Table Meaning) → known name ≡ None → known_after known (functions_after structs (earlier ++ unit ∷ []) xs) name ≡ None) →
          known_after known (made_where function structs earlier unit ++ functions_after structs (earlier ++ unit ∷ []) xs) name ≡ None
      by true rest =
          let meaning : Meaning = function_c known (function_code structs earlier unit) in
          rest (with_entry known (unit_name unit.name) meaning)
          (ap (λ o. option_or o (if bytes_eq (unit_name unit.name) name then Some meaning else None)) free
          ∙ ap (λ b. option_or None (if b then Some meaning else None))
          (differs (bytes_eq (unit_name unit.name) name) (and_first (is_other name unit) (list_all (is_other name) xs) others)))
      by false rest = rest known free

  module _ (units : List UnitDef) (distinct : are_distinct (names units) ≡ true) where
    abbrev table : ℕ → Table Meaning
    table k = made_table structs units k

    table_next : (k : ℕ) (unit : UnitDef) → slice_get units k ≡ Some unit →
        table (suc k) ≡ known_after (table k) (made_where (is_function unit.kind) structs (take k units) unit)
    table_next k unit there =
        ap (λ xs. known_after no_entries (functions_after structs [] xs)) (take_next units k unit there)
        ∙ (ap (known_after no_entries) (functions_behind [] (take k units) (unit ∷ []))
        ∙ (known_behind no_entries (functions_after structs [] (take k units)) (functions_after structs (take k units) (unit ∷ []))
        ∙ ap (known_after (table k)) (append-nil (made_where (is_function unit.kind) structs (take k units) unit))))

    pub know : (k : ℕ) → KnownUpTo structs units k (table k)
    know zero = tt
    know (suc k) = by_unit (know k) (slice_get units k) refl
      where
        by_kind : KnownUpTo structs units k (table k) → (unit : UnitDef) → slice_get units k ≡ Some unit → (function : Bool) →
            is_function unit.kind ≡ function → KnownUpTo structs units (suc k) (known_after (table k) (made_where function structs (take k units) unit))
        by_kind before unit there true is =
            function_joins structs units k unit (table k) there
            (stays_free (unit_name unit.name) [] (take k units) no_entries refl (all_others units k unit distinct there)) before
        by_kind before unit there false is = activity_passes structs units k unit (table k) there is before

        by_unit : KnownUpTo structs units k (table k) → (o : Option UnitDef) → slice_get units k ≡ o → KnownUpTo structs units (suc k) (table (suc k))
        by_unit before None past = (
          subst (KnownUpTo structs units k) (sym (ap (λ xs. known_after no_entries (functions_after structs [] xs)) (take_past units k past))) before,
          λ unit there function. absurd (let no = sym there ∙ past in cc),
        )
        by_unit before (Some unit) there =
            subst (KnownUpTo structs units (suc k)) (sym (table_next k unit there)) (by_kind before unit there (is_function unit.kind) refl)

pub know_all : (structs : List StructDef) (units : List UnitDef) (entry : ℕ) → TablesKnow structs units entry
know_all structs units entry k keeps =
    know structs units (distinct_behind (map (λ (def : StructDef). def.name) structs) (names units) keeps.distinct) k
