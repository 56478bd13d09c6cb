-- Tables that know C functions know them still once others join.
use Rattle.std.proofs.Common.{◌≡◌, ℕ, zero, suc, true, false, List, take, Some, None, refl, sym, ap, ◌∙◌}
use Rattle.std.proofs.lemmas.Option.{same_Some}
use Rattle.std.proofs.lemmas.Slice.Eq.{bytes_eq-Decides}
use Rattle.std.specs.Option.{option_or}
use Rattle.std.specs.Prelude.{bytes_eq, slice_get, if◌then◌else◌}
use Rattle.bl_tree.specs.declared.text.Text.{Text}
use Rattle.bl_tree.specs.declared.tree.StructDef.{StructDef}
use Rattle.bl_tree.specs.declared.tree.Unit.{Unit as UnitDef}
use Rattle.bl_tree.specs.Typing.{is_function}
use Rattle.bl_ctext_semantics.specs.Meaning.{Meaning, function_c}
use Rattle.bl_ctext_semantics.specs.Tables.{Table, with_entry}
use Rattle.bl_emit_acts.specs.Types.{unit_name}
use Rattle.bl_emit_functions.specs.Functions.{function_code}
use Rattle.bl_emit_functions_laws_simulation.specs.Units.{KnownUpTo, TablesGrow}

-- what stands under a name stays
pub entry_stays : (known : Table Meaning) (name asked : Text) (meaning value : Meaning) → known asked ≡ Some value →
    with_entry known name meaning asked ≡ Some value
entry_stays known name asked meaning value is = ap (λ o. option_or o (if bytes_eq name asked then Some meaning else None)) is

-- what joins under a free name stands there
pub entry_joins : (known : Table Meaning) (name : Text) (meaning : Meaning) → known name ≡ None → with_entry known name meaning name ≡ Some meaning
entry_joins known name meaning free =
    ap (λ o. option_or o (if bytes_eq name name then Some meaning else None)) free
    ∙ ap (λ b. option_or None (if b then Some meaning else None)) ((bytes_eq-Decides name name).1 refl)

module _ (structs : List StructDef) (units : List UnitDef) where
  pub others_join : (k : ℕ) (known : Table Meaning) (name : Text) (meaning : Meaning) → KnownUpTo structs units k known →
      KnownUpTo structs units k (with_entry known name meaning)
  others_join zero known name meaning all = tt
  others_join (suc k) known name meaning all = (
    others_join k known name meaning all.0,
    λ unit there function.
        let found = all.1 unit there function in
        (found.0, entry_stays known name (unit_name unit.name) meaning (function_c found.0 (function_code structs (take k units) unit)) found.1, found.2),
  )

  pub function_joins : (k : ℕ) (unit : UnitDef) (known : Table Meaning) → slice_get units k ≡ Some unit → known (unit_name unit.name) ≡ None →
      KnownUpTo structs units k known →
      KnownUpTo structs units (suc k) (with_entry known (unit_name unit.name) (function_c known (function_code structs (take k units) unit)))
  function_joins k unit known there free all = (
    others_join k known (unit_name unit.name) (function_c known (function_code structs (take k units) unit)) all,
    λ other at function. last other (same_Some unit other (sym there ∙ at)),
  )
    where
      meaning : UnitDef → Meaning
      meaning unit = function_c known (function_code structs (take k units) unit)

      last : (other : UnitDef) → unit ≡ other → (below : Table Meaning)
          × (with_entry known (unit_name unit.name) (function_c known (function_code structs (take k units) unit)) (unit_name other.name)
          ≡ Some (function_c below (function_code structs (take k units) other))) × KnownUpTo structs units k below
      last other same = (
        known,
        ap (λ (other : UnitDef). with_entry known (unit_name unit.name) (meaning unit) (unit_name other.name)) (sym same)
            ∙ (entry_joins known (unit_name unit.name) (meaning unit) free ∙ ap (λ (other : UnitDef). Some (meaning other)) same),
        all,
      )

  pub activity_passes : (k : ℕ) (unit : UnitDef) (known : Table Meaning) → slice_get units k ≡ Some unit → is_function unit.kind ≡ false →
      KnownUpTo structs units k known → KnownUpTo structs units (suc k) known
  activity_passes k unit known there activity all = (
    all,
    λ other at function. absurd (no_such (sym function ∙ (ap (λ (unit : UnitDef). is_function unit.kind) (sym (same_Some unit other (sym there ∙ at)))
        ∙ activity))),
  )
    where
      no_such : true ≡ false → ⊥
      no_such h = cc

  pub grow : TablesGrow structs units
  grow = record {
    others = λ k known name meaning all. others_join k known name meaning all;
    function = λ k unit known there free all. function_joins k unit known there free all;
    activity = λ k unit known there activity all. activity_passes k unit known there activity all;
  }
