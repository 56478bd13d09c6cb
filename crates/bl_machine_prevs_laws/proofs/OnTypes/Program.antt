-- What is made of the units of a program in which no rule fails names what is declared before.
use Rattle.std.proofs.Common.{◌≡◌, ℕ, ◌+◌, true, List, [], ◌∷◌, ◌++◌, length, map, take, Option, Some, None, refl}
use Rattle.std.proofs.Common.{ap, sym, ◌∙◌, arith}
use Rattle.std.specs.Prelude.{IsTrue, false, if◌then◌else◌, option_and_then, slice_get}
use Rattle.std.specs.List.{list_all}
use Rattle.std.proofs.lemmas.List.{append-nil, append_assoc, length-append, map-append}
use Rattle.std.proofs.lemmas.List.Folds.{list_all-append}
use Rattle.std.proofs.lemmas.Option.{same_Some}
use Rattle.std.proofs.lemmas.Bool.{and_from}
use Rattle.bl_tree.proofs.Basics.{all_at, and_second, first_empty, push_length, second_empty, take_next}
use Rattle.bl_tree.specs.declared.tree.Unit.{Unit as UnitDef}
use Rattle.bl_tree.specs.declared.tree.UnitKind.{UnitKind}
use Rattle.bl_eval.proofs.OperatorFits.{some_found, where_holds}
use Rattle.bl_names_tree.specs.declared.item.Item.{Item}
use Rattle.bl_names_tree.specs.declared.item.Item.TheVariants as kind
use Rattle.bl_names_tree.specs.declared.item.NamedConstant.{NamedConstant}
use Rattle.bl_names_tree.specs.declared.item.NamedStruct.{NamedStruct}
use Rattle.bl_names_tree.specs.declared.item.NamedUnit.{NamedUnit}
use Rattle.bl_names_tree.specs.declared.named.Named.{Named}
use Rattle.bl_names_tree.specs.Placed.{DeclaredBefore, all_earlier, constant_placed, expr_placed, holds_if, holds_of, in_turn, item_step, struct_placed}
use Rattle.bl_names_tree.specs.Placed.{type_placed, unit_step, with_constant as one_constant}
use Rattle.bl_parse_tree.specs.declared.item.RawItem.{RawItem}
use Rattle.bl_parse_tree.specs.WellFormed.{RawIsWellFormed}
use Rattle.bl_names_scopes.specs.Rules.{Passes as NamesPass}
use Rattle.bl_names.specs.Named.{named_program}
use Rattle.bl_names_laws.specs.WellFormed.{NamedIsWellFormed}
use Rattle.bl_machine_prevs_laws.specs.Names.Declared.{body_declared}
use Rattle.bl_types.specs.declared.environment.Environment.{Environment}
use Rattle.bl_types.specs.Declarations.{Declaring, after_constant, after_struct, constant_of, initial, struct_of}
use Rattle.bl_types.specs.Programs.{after_item, after_items, after_next, after_program, fresh, text_end, typed_program}
use Rattle.bl_types.specs.Rules.{Passes as TypesPass}
use Rattle.bl_types.specs.Units.{after_unit, entries}
use Rattle.bl_types_laws.specs.Standing.{BetweenUnits, UnitPassed, unit_named}
use Rattle.bl_types_laws.specs.Within.{calls_functions, known_in}
use Rattle.bl_types_laws.proofs.Items.{constant_between, struct_between}
use Rattle.bl_types_laws.proofs.ItemTurns.{at_start, no_failure}
use Rattle.bl_types_laws.proofs.Premises.{ConstantsSuit, UnitsSuit}
use Rattle.bl_types_laws.proofs.Standing.{made_of, units_made}
use Rattle.bl_types_laws.proofs.Units.{unit_passes}
use Rattle.bl_machine_prevs_laws.specs.Types.Declared.{unit_declared}
use Rattle.bl_machine_prevs_laws.proofs.OnTypes.Units.{unit_kept}

-- ---- lists

-- ---- what is known between items, and what is made

abbrev kind_made : UnitDef → UnitKind
kind_made unit = unit.kind

abbrev kind_named : NamedUnit → UnitKind
kind_named unit = unit.kind

abbrev SameKinds : Named → Environment → Type 0
SameKinds named env = map kind_made env.units ≡ map kind_named (take (length env.units) named.units)

-- the units that are made of items name what is declared before
record Made (env final : Environment) : Type 0 where
  pub more : List UnitDef
  pub units : final.units ≡ env.units ++ more
  pub declared : list_all unit_declared more ≡ true

-- what is known behind an item, and what is made of it
record Turn (named : Named) (env : Environment) (counts : DeclaredBefore) (after : Environment) : Type 0 where
  pub counts_are : known_in after ≡ counts
  pub between : BetweenUnits after
  pub kinds : SameKinds named after
  pub made : Made env after

made_none : (env final : Environment) → final.units ≡ env.units → Made env final
made_none env final is = record { more = []; units = is ∙ sym (append-nil env.units); declared = refl }

made_then : (a b c : Environment) → Made a b → Made b c → Made a c
made_then a b c one two = record {
  more = one.more ++ two.more;
  units = two.units ∙ ap (λ units. units ++ two.more) one.units ∙ append_assoc a.units one.more two.more;
  declared = list_all-append unit_declared one.more two.more
      ∙ and_from (list_all unit_declared one.more) (list_all unit_declared two.more) one.declared two.declared;
}

module _ (named : Named) (units_suit : UnitsSuit named) (constants_suit : ConstantsSuit named)
    (declared : list_all body_declared named.units ≡ true) where
  struct_turn : (env : Environment) → BetweenUnits env → SameKinds named env → (def : Option NamedStruct) (counts : DeclaredBefore) →
      (if holds_of (struct_placed (known_in env)) def then Some (record (known_in env) { structs = length env.structs + 1 }) else None) ≡ Some
      counts →
      (after_next after_struct def env).failures ≡ [] → Turn named env counts (after_next after_struct def env).env
  struct_turn env between kinds None counts is none = absurd (cc)
  struct_turn env between kinds (Some def) counts is none =
      let holds = where_holds (struct_placed (known_in env) def) (Some (record (known_in env) { structs = length env.structs + 1 })) counts is in
      record {
        counts_are = ap (λ n. record { structs = n; constants = length env.constants; units = length env.units; variables = length env.vars })
            (length-append env.structs (struct_of env def ∷ []))
            ∙ same_Some (record (known_in env) { structs = length env.structs + 1 }) counts holds.1;
        between = struct_between def env between holds.0 none;
        kinds = kinds;
        made = made_none env (after_struct def env).env refl;
      }

  constant_turn : (env : Environment) → BetweenUnits env → SameKinds named env → (def : Option NamedConstant) →
      slice_get named.constants (length env.constants) ≡ def → (counts : DeclaredBefore) →
      (if holds_of (constant_placed (known_in env)) def then Some (one_constant (known_in env)) else None) ≡ Some counts →
      (after_next after_constant def env).failures ≡ [] → Turn named env counts (after_next after_constant def env).env
  constant_turn env between kinds None there counts is none = absurd (cc)
  constant_turn env between kinds (Some def) there counts is none =
      let holds = where_holds (constant_placed (known_in env) def) (Some (one_constant (known_in env))) counts is in
      let placed = and_second (holds_if (type_placed (known_in env)) def.ty) (expr_placed (known_in env) def.value) holds.0 in
      let calls : calls_functions env.units def.value ≡ true = constants_suit (length env.constants) def there env.units
      (known_in env) refl kinds placed in
      record {
        counts_are = ap (λ n. record { structs = length env.structs; constants = n; units = length env.units; variables = length env.vars })
            (length-append env.constants (constant_of def.value (initial env def.ty def.value).valued ∷ []))
            ∙ same_Some (one_constant (known_in env)) counts holds.1;
        between = constant_between def env between holds.0 calls none;
        kinds = kinds;
        made = made_none env (after_constant def env).env refl;
      }

  unit_turn : (env : Environment) → BetweenUnits env → SameKinds named env → (def : Option NamedUnit) →
      slice_get named.units (length env.units) ≡ def → (counts : DeclaredBefore) →
      option_and_then (λ def. unit_step named.constants def (known_in env)) def ≡ Some counts →
      (after_next (after_unit named.constants) def env).failures ≡ [] → Turn named env counts (after_next
      (after_unit named.constants) def env).env
  unit_turn env between kinds None there counts is none = absurd (cc)
  unit_turn env between kinds (Some def) there counts is none =
      let new : Environment = (after_unit named.constants def env).env in
      let made : UnitDef = made_of named.constants def env in
      let suits : unit_named named.constants env.units def ≡ true =
      units_suit (length env.units) def there env.units kinds (known_in env) counts refl is in
      let passed : UnitPassed env.structs def env counts new =
      unit_passes named.constants def env env.structs [] (sym (append-nil env.structs)) between suits counts is none in
      let units : new.units ≡ env.units ++ made ∷ [] = units_made env.structs named.constants def env counts passed in
      record {
        counts_are = passed.counts_are;
        between = passed.between;
        kinds = ap (map kind_made) units ∙ map-append kind_made env.units (made ∷ []) ∙ ap (λ front. front ++ def.kind ∷ []) kinds
            ∙ sym (map-append kind_named (take (length env.units) named.units) (def ∷ []))
            ∙ ap (map kind_named) (sym (take_next named.units (length env.units) def there))
            ∙ ap (λ n. map kind_named (take n named.units)) (sym (push_length env.units made) ∙ ap length (sym units));
        made = record {
          more = made ∷ [];
          units = units;
          declared = and_from (unit_declared made) true
              (unit_kept named.constants def env between suits counts is none (all_at body_declared named.units
              (length env.units) def declared there)) refl;
        };
      }

  one_turn : (one : Item) (env : Environment) → BetweenUnits env → SameKinds named env → (counts : DeclaredBefore) →
      item_step named one (known_in env) ≡ Some counts →
      (after_item named one env).failures ≡ [] → Turn named env counts (after_item named one env).env
  one_turn kind.Struct env between kinds = struct_turn env between kinds (slice_get named.structs (length env.structs))
  one_turn kind.Constant env between kinds = constant_turn env between kinds (slice_get named.constants (length env.constants)) refl
  one_turn kind.Unit env between kinds = unit_turn env between kinds (slice_get named.units (length env.units)) refl

  turns : (items : List Item) (env : Environment) → BetweenUnits env → SameKinds named env → (counts : DeclaredBefore) →
      in_turn (map (item_step named) items) (known_in env) ≡ Some counts → (after_items named items env).failures ≡ [] →
      Made env (after_items named items env).env
  turns [] env between kinds counts is none = made_none env env refl
  turns (one ∷ items) env between kinds counts is none =
      let first : Declaring = after_item named one env in
      let rest : Declaring = after_items named items first.env in
      let found = some_found (in_turn (map (item_step named) items)) (item_step named one (known_in env)) counts is in
      let turn = one_turn one env between kinds found.0 found.1 (first_empty first.failures rest.failures none) in
      made_then env first.env rest.env turn.made
      (turns items first.env turn.between turn.kinds counts (ap (in_turn (map (item_step named) items)) turn.counts_are ∙ found.2)
      (second_empty first.failures rest.failures none))

program_declared : (items : List RawItem) (bytes : ℕ) → UnitsSuit (named_program items bytes) → ConstantsSuit (named_program items bytes) →
    list_all body_declared (named_program items bytes).units ≡ true → NamedIsWellFormed (named_program items bytes) → NamesPass items →
    TypesPass (named_program items bytes) → list_all unit_declared (typed_program (named_program items bytes)).units ≡ true
program_declared items bytes units constants declared keeps names types =
    let named = named_program items bytes in
    let made : Made fresh (after_program named).env = turns named units constants declared named.order fresh (at_start items bytes names).between refl
    (all_earlier named) keeps.placed (first_empty (after_program named).failures (entries false (text_end named) named.units)
    (no_failure named types)) in
    ap (list_all unit_declared) made.units ∙ made.declared

-- the same, of what the laws of the crates below say
pub typed_is_declared : ((items : List RawItem) (bytes : ℕ) → RawIsWellFormed items → NamesPass items → NamedIsWellFormed (named_program items bytes)) →
    ((items : List RawItem) (bytes : ℕ) → RawIsWellFormed items → NamesPass items → UnitsSuit (named_program items bytes)) →
    ((items : List RawItem) (bytes : ℕ) → RawIsWellFormed items → NamesPass items → ConstantsSuit (named_program items bytes)) →
    ((items : List RawItem) (bytes : ℕ) → NamesPass items → IsTrue (list_all body_declared (named_program items bytes).units)) →
    (items : List RawItem) (bytes : ℕ) → RawIsWellFormed items → NamesPass items → TypesPass (named_program items bytes) →
    IsTrue (list_all unit_declared (typed_program (named_program items bytes)).units)
typed_is_declared keeps units constants declared items bytes raw names types =
    program_declared items bytes (units items bytes raw names) (constants items bytes raw names) (declared items bytes names)
    (keeps items bytes raw names)
    names types
