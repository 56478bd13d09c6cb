-- What is known after items.
use Rattle.std.proofs.Common.{◌≡◌, ◌+◌, List, [], ◌∷◌, ◌++◌, map, length, Option, Some, None, refl, ap, sym, ◌∙◌, append-nil, append_assoc}
use Rattle.std.specs.Prelude.{option_and_then, slice_get, if◌then◌else◌}
use Rattle.std.proofs.lemmas.List.{length-append}
use Rattle.std.proofs.lemmas.Option.{same_Some}
use Rattle.bl_tree.specs.declared.rule.Failure.{Failure}
use Rattle.bl_tree.specs.declared.tree.StructDef.{StructDef}
use Rattle.bl_tree.specs.declared.tree.Unit.{Unit as UnitDef}
use Rattle.bl_eval.proofs.OperatorFits.{some_found, where_holds}
use Rattle.bl_names_tree.specs.declared.item.Item.{Item}
use Rattle.bl_names_tree.specs.declared.item.Item.TheVariants as item
use Rattle.bl_names_tree.specs.declared.item.NamedConstant.{NamedConstant}
use Rattle.bl_names_tree.specs.declared.item.NamedStruct.{NamedStruct}
use Rattle.bl_names_tree.specs.declared.item.NamedUnit.{NamedUnit}
use Rattle.bl_names_tree.specs.declared.named.Named.{Named}
use Rattle.bl_names_tree.specs.Placed.{DeclaredBefore, constant_placed, holds_of, in_turn, item_step, struct_placed, unit_step}
use Rattle.bl_names_tree.specs.Placed.{with_constant as constant_counted}
use Rattle.bl_types.specs.declared.environment.Constant.{Constant}
use Rattle.bl_types.specs.declared.environment.Environment.{Environment}
use Rattle.bl_types.specs.Declarations.{Declaring, after_constant, after_struct, and_then, constant_of, initial, struct_of}
use Rattle.bl_types.specs.Programs.{after_item, after_items, after_next}
use Rattle.bl_types.specs.Units.{after_unit}
use Rattle.bl_types_laws.specs.Within.{known_in}
use Rattle.bl_types_laws.proofs.Declared.{constant_counts}
use Rattle.bl_types_laws_places_units.specs.Laws.{KnownAfter}
use Rattle.bl_types_laws_places_units.proofs.Heads.{unit_known}

-- ---- what is known grows

-- structs, constants and units are added to what is known
pub record Extends (env after : Environment) : Type 0 where
  pub structs : List StructDef
  pub has_structs : after.structs ≡ env.structs ++ structs
  pub constants : List Constant
  pub has_constants : after.constants ≡ env.constants ++ constants
  pub units : List UnitDef
  pub has_units : after.units ≡ env.units ++ units
  pub result : env.result ≡ None → after.result ≡ None

extends_self : (env : Environment) → Extends env env
extends_self env = record {
  structs = [];
  has_structs = sym (append-nil env.structs);
  constants = [];
  has_constants = sym (append-nil env.constants);
  units = [];
  has_units = sym (append-nil env.units);
  result = λ is. is;
}

pub further : {A : Type 0} (xs ys zs one two : List A) → ys ≡ xs ++ one → zs ≡ ys ++ two → zs ≡ xs ++ (one ++ two)
further xs ys zs one two is are = are ∙ ap (λ ys. ys ++ two) is ∙ append_assoc xs one two

extends_further : (a b c : Environment) → Extends a b → Extends b c → Extends a c
extends_further a b c one two = record {
  structs = one.structs ++ two.structs;
  has_structs = further a.structs b.structs c.structs one.structs two.structs one.has_structs two.has_structs;
  constants = one.constants ++ two.constants;
  has_constants = further a.constants b.constants c.constants one.constants two.constants one.has_constants two.has_constants;
  units = one.units ++ two.units;
  has_units = further a.units b.units c.units one.units two.units one.has_units two.has_units;
  result = λ is. two.result (one.result is);
}

-- what is known grows in a part of a program; where its positions are in place, it is as much as is counted
pub record ItemGrows (env after : Environment) (reached : Option DeclaredBefore) : Type 0 where
  pub extends : Extends env after
  pub counts_are : (counts : DeclaredBefore) → reached ≡ Some counts → known_in after ≡ counts

struct_grows : (found : Option NamedStruct) (env : Environment) → ItemGrows env (after_next after_struct found env).env
    (if holds_of (struct_placed (known_in env)) found then Some (record (known_in env) { structs = length env.structs + 1 }) else None)
struct_grows None env = record { extends = extends_self env; counts_are = λ counts none. absurd (cc) }
struct_grows (Some def) env = record {
  extends = record {
    structs = struct_of env def ∷ [];
    has_structs = refl;
    constants = [];
    has_constants = sym (append-nil env.constants);
    units = [];
    has_units = sym (append-nil env.units);
    result = λ is. is;
  };
  counts_are = λ counts step.
      ap (λ n. record { structs = n; constants = length env.constants; units = length env.units; variables = length env.vars })
      (length-append env.structs (struct_of env def ∷ []))
      ∙ same_Some (record (known_in env) { structs = length env.structs + 1 }) counts
      (where_holds (struct_placed (known_in env) def) (Some (record (known_in env) { structs = length env.structs + 1 })) counts step).1;
}

constant_grows : (found : Option NamedConstant) (env : Environment) → ItemGrows env (after_next after_constant found env).env
    (if holds_of (constant_placed (known_in env)) found then Some (constant_counted (known_in env)) else None)
constant_grows None env = record { extends = extends_self env; counts_are = λ counts none. absurd (cc) }
constant_grows (Some constant) env =
    let new : Constant = constant_of constant.value (initial env constant.ty constant.value).valued in
    record {
      extends = record {
        structs = [];
        has_structs = sym (append-nil env.structs);
        constants = new ∷ [];
        has_constants = refl;
        units = [];
        has_units = sym (append-nil env.units);
        result = λ is. is;
      };
      counts_are = λ counts step. constant_counts env new counts
          (where_holds (constant_placed (known_in env) constant) (Some (constant_counted (known_in env))) counts step).1;
    }

unit_grows : (constants : List NamedConstant) (found : Option NamedUnit) (env : Environment) →
    ItemGrows env (after_next (after_unit constants) found env).env (option_and_then (λ def. unit_step constants def (known_in env)) found)
unit_grows constants None env = record { extends = extends_self env; counts_are = λ counts none. absurd (cc) }
unit_grows constants (Some unit) env =
    let known = unit_known constants unit env in
    record {
      extends = record {
        structs = [];
        has_structs = known.structs ∙ sym (append-nil env.structs);
        constants = known.more;
        has_constants = known.constants;
        units = _;
        has_units = known.units;
        result = λ is. known.result;
      };
      counts_are = known.counts_are;
    }

module _ (named : Named) where
  pub item_grows : (one : Item) (env : Environment) → ItemGrows env (after_item named one env).env (item_step named one (known_in env))
  item_grows item.Struct env = struct_grows (slice_get named.structs (length env.structs)) env
  item_grows item.Constant env = constant_grows (slice_get named.constants (length env.constants)) env
  item_grows item.Unit env = unit_grows named.constants (slice_get named.units (length env.units)) env

  pub items_grow : (order : List Item) (env : Environment) →
      ItemGrows env (after_items named order env).env (in_turn (map (item_step named) order) (known_in env))
  items_grow [] env = record { extends = extends_self env; counts_are = λ counts is. same_Some (known_in env) counts is }
  items_grow (one ∷ order) env =
      let middle : Environment = (after_item named one env).env in
      let first = item_grows one env in
      let rest = items_grow order middle in
      record {
        extends = extends_further env middle (after_items named order middle).env first.extends rest.extends;
        counts_are = λ counts is.
            let found = some_found (in_turn (map (item_step named) order)) (item_step named one (known_in env)) counts is in
            rest.counts_are counts (ap (in_turn (map (item_step named) order)) (first.counts_are found.0 found.1) ∙ found.2);
      }

-- items declare as much as is counted
pub items_known : (named : Named) (order : List Item) (env : Environment) (counts : DeclaredBefore) →
    in_turn (map (item_step named) order) (known_in env) ≡ Some counts → KnownAfter env (after_items named order env).env counts
items_known named order env counts step =
    let grows = items_grow named order env in
    record {
      structs = grows.extends.structs;
      has_structs = grows.extends.has_structs;
      constants = grows.extends.constants;
      has_constants = grows.extends.has_constants;
      units = grows.extends.units;
      has_units = grows.extends.has_units;
      counts_are = grows.counts_are counts step;
      result = grows.extends.result;
    }

-- ---- items one after another

one_by_one : (first : List Failure) (middle : Environment) (two three : Environment → Declaring) →
    and_then (record { env = middle; failures = first }) (λ env. and_then (two env) three)
    ≡ and_then (and_then (record { env = middle; failures = first }) two) three
one_by_one first middle two three =
    λ i. record {
      env = (three (two middle).env).env;
      failures = sym (append_assoc first (two middle).failures (three (two middle).env).failures) i;
    }

-- what items come to, and then others
pub items_in_turn : (named : Named) (first second : List Item) (env : Environment) →
    after_items named (first ++ second) env ≡ and_then (after_items named first env) (after_items named second)
items_in_turn named [] second env = refl
items_in_turn named (one ∷ first) second env =
    let middle : Declaring = after_item named one env in
    (λ i. record {
      env = (items_in_turn named first second middle.env i).env;
      failures = middle.failures ++ (items_in_turn named first second middle.env i).failures;
    })
    ∙ one_by_one middle.failures middle.env (after_items named first) (after_items named second)
