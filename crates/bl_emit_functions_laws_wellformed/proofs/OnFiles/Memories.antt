-- The structs of the variables of a program's functions: no two have one name.
use Rattle.std.proofs.Common.{◌≡◌, ℕ, suc, ⊎_elim, Bool, true, false, not, ◌&&◌, ◌||◌, List, [], ◌∷◌, ◌++◌}
use Rattle.std.proofs.Common.{map, take, drop}
use Rattle.std.proofs.Common.{Some, refl, subst, arith}
use Rattle.std.proofs.lemmas.List.Elements.{Contains-append_cases}
use Rattle.std.specs.Prelude.{Contains, bytes_eq, slice_get}
use Rattle.std.proofs.lemmas.Bool.{or_from}
use Rattle.bl_tree.proofs.Basics.{and_first, and_second, take_next}
use Rattle.bl_tree.specs.declared.c.CMember.{CMember}
use Rattle.bl_tree.specs.declared.c.CStruct.{CStruct}
use Rattle.bl_tree.specs.declared.text.Text.{Text}
use Rattle.bl_tree.specs.declared.tree.StructDef.{StructDef}
use Rattle.bl_tree.specs.declared.tree.Unit.{Unit as UnitDef}
use Rattle.bl_tree.specs.Typing.{is_function}
use Rattle.bl_tree.specs.Words.{are_distinct, is_among}
use Rattle.bl_emit_structs_laws_wellformed.specs.Names.{names_of}
use Rattle.bl_emit_functions.specs.Functions.{members_of, memory_name, memory_struct, struct_of}
use Rattle.bl_emit_structs_laws_wellformed.specs.Formed.{IsMemory}
use Rattle.bl_emit_functions_laws_wellformed.specs.Formed.{MemoriesHold}
use Rattle.bl_emit_functions_laws_wellformed.specs.Files.List.{AllNumbered, MemoriesStand, memories_after, memory_where}
use Rattle.bl_emit_functions_laws_wellformed.proofs.OnFiles.Growing.{distinct_behind, names}
use Rattle.bl_emit_functions_laws_wellformed.proofs.OnFiles.Walk.{drop_next}

-- ---- names

pub neither : (a b : Bool) → not (a || b) ≡ true → (a ≡ false) × (not b ≡ true)
neither true b h = absurd (cc)
neither false b h = (refl, h)

module _ (structs : List StructDef) where
  -- what isn't the name of a unit isn't that of its struct either
  among_behind : (name : Text) (members : List CMember) (unit : UnitDef) (later : List CStruct) → bytes_eq name unit.name ≡ false →
      is_among (memory_name name) (names_of later) ≡ false → is_among (memory_name name) (names_of (struct_of unit.name members ++ later)) ≡ false
  among_behind name [] unit later other none = none
  among_behind name (m ∷ rest) unit later other none = or_from (bytes_eq name unit.name) (is_among (memory_name name) (names_of later)) other none

  none_among : (name : Text) (earlier xs : List UnitDef) → not (is_among name (names xs)) ≡ true →
      is_among (memory_name name) (names_of (memories_after structs earlier xs)) ≡ false
  none_among name earlier [] none = refl
  none_among name earlier (unit ∷ xs) none = by (is_function unit.kind) (none_among name (earlier ++ unit ∷ []) xs apart.1)
    where
      apart : (bytes_eq name unit.name ≡ false) × (not (is_among name (names xs)) ≡ true)
      apart = neither (bytes_eq name unit.name) (is_among name (names xs)) none

      by : (function : Bool) → is_among (memory_name name) (names_of (memories_after structs (earlier ++ unit ∷ []) xs)) ≡ false →
          is_among (memory_name name) (names_of (memory_where function structs earlier unit ++ memories_after structs (earlier ++ unit ∷ []) xs)) ≡ false
      by true later = among_behind name (members_of structs earlier unit) unit (memories_after structs (earlier ++ unit ∷ []) xs) apart.0 later
      by false later = later

  first_differs : (unit : UnitDef) (members : List CMember) (later : List CStruct) → is_among (memory_name unit.name) (names_of later) ≡ false →
      are_distinct (names_of later) ≡ true → are_distinct (names_of (struct_of unit.name members ++ later)) ≡ true
  first_differs unit [] later none differ = differ
  first_differs unit (m ∷ rest) later none differ = by (is_among (memory_name unit.name) (names_of later)) none
    where
      by : (b : Bool) → b ≡ false → (not b && are_distinct (names_of later)) ≡ true
      by true is = absurd (cc)
      by false is = differ

  names_differ : (earlier xs : List UnitDef) → are_distinct (names xs) ≡ true → are_distinct (names_of (memories_after structs earlier xs)) ≡ true
  names_differ earlier [] differ = refl
  names_differ earlier (unit ∷ xs) differ =
      by (is_function unit.kind)
      (names_differ (earlier ++ unit ∷ []) xs (and_second (not (is_among unit.name (names xs))) (are_distinct (names xs)) differ))
    where
      by : (function : Bool) → are_distinct (names_of (memories_after structs (earlier ++ unit ∷ []) xs)) ≡ true →
          are_distinct (names_of (memory_where function structs earlier unit ++ memories_after structs (earlier ++ unit ∷ []) xs)) ≡ true
      by true rest =
          first_differs unit (members_of structs earlier unit) (memories_after structs (earlier ++ unit ∷ []) xs)
          (none_among unit.name (earlier ++ unit ∷ []) xs (and_first (not (is_among unit.name (names xs))) (are_distinct (names xs)) differ)) rest
      by false rest = rest

-- ---- what the structs are

module _ (structs : List StructDef) (units : List UnitDef) (hold : MemoriesHold structs units) (numbered : AllNumbered structs units) where
  none_has : (s : CStruct) → Contains [] s → ⊥
  none_has s (k, within, is) = omega (arith, within)

  each : (xs : List UnitDef) (k : ℕ) → drop k units ≡ xs → (s : CStruct) → Contains
      (memories_after structs (take k units) xs) s → IsMemory structs units s
  each [] k is s has = absurd (none_has s has)
  each (unit ∷ xs) k is s has = by (is_function unit.kind) refl (each xs (suc k) found.1 s) has
    where
      found : (slice_get units k ≡ Some unit) × (drop (suc k) units ≡ xs)
      found = drop_next units k unit xs is

      behind : (Contains (memories_after structs (take (suc k) units) xs) s → IsMemory structs units s) →
          Contains (memories_after structs (take k units ++ unit ∷ []) xs) s → IsMemory structs units s
      behind = subst (λ earlier. Contains (memories_after structs earlier xs) s → IsMemory structs units s) (take_next units k unit found.0)

      by : (function : Bool) → is_function unit.kind ≡ function
          → (Contains (memories_after structs (take (suc k) units) xs) s → IsMemory structs units s) →
          Contains (memory_where function structs (take k units) unit ++ memories_after structs (take k units ++ unit ∷ []) xs) s → IsMemory structs units s
      by true function later has =
          ⊎_elim
          (λ (first : Contains (memory_struct structs (take k units) unit) s). hold k unit found.0 (numbered k unit found.0 function).variables s first)
          (behind later)
          (Contains-append_cases (memory_struct structs (take k units) unit) (memories_after structs (take k units ++ unit ∷ []) xs) s has)
      by false none later has = behind later has

pub memories : (structs : List StructDef) (units : List UnitDef) (entry : ℕ) → MemoriesHold structs units → MemoriesStand structs units entry
memories structs units entry hold keeps numbered = record {
  each = each structs units hold numbered units 0 refl;
  differ = names_differ structs [] units (distinct_behind (map (λ (def : StructDef). def.name) structs) (names units) keeps.distinct);
}
