-- The positions in a program are in place, where the rules on names hold.
use Rattle.std.proofs.Common.{◌≡◌, ℕ, ◌+◌, List, [], ◌∷◌, ◌++◌, map, length, Option, Some, None, refl, sym, ap, subst, ◌∙◌, append-nil, arith}
use Rattle.std.specs.Prelude.{option_and_then, if◌then◌else◌}
use Rattle.bl_tree.proofs.Basics.{none_plus, plus_none}
use Rattle.bl_names_tree.specs.declared.item.Item.TheVariants as next
use Rattle.bl_names_tree.specs.declared.item.NamedConstant.{NamedConstant}
use Rattle.bl_names_tree.specs.declared.item.NamedStruct.{NamedStruct}
use Rattle.bl_names_tree.specs.declared.item.NamedUnit.{NamedUnit}
use Rattle.bl_names_tree.specs.declared.named.Named.{Named}
use Rattle.bl_names_tree.specs.Placed.{DeclaredBefore, IsPlaced, holds_of, in_turn, item_step, struct_placed, unit_step, with_constant}
use Rattle.bl_names_scopes.specs.declared.kind.Kind.TheVariants as kinds
use Rattle.bl_names_scopes.specs.Marks.{constant_marks, declares, expr_marks, item_marks, marks_of, optional, struct_marks, type_marks, unit_marks}
use Rattle.bl_names_scopes.specs.Rules.{Passes}
use Rattle.bl_names_scopes.specs.Scopes.{Scopes, after, file_scope}
use Rattle.bl_parse_tree.specs.declared.item.RawItem.{RawItem}
use Rattle.bl_parse_tree.specs.declared.item.RawItem.TheVariants as item
use Rattle.bl_parse_tree.specs.declared.item.RawStruct.{RawStruct}
use Rattle.bl_parse_tree.specs.declared.item.RawUnit.{RawUnit}
use Rattle.bl_parse_tree.specs.declared.stmt.RawConstant.{RawConstant}
use Rattle.bl_names.specs.Named.{along, constants_in_unit, constants_of, named_constant, named_program, named_struct, named_unit, structs_of, units_of}
use Rattle.bl_names.specs.Order.{kind_of_item}
use Rattle.bl_names.proofs.BelowLemmas.{Below, constant_below, struct_below}
use Rattle.bl_names.proofs.FitLemmas.{Fits, fits_first, fits_second, program_fits}
use Rattle.bl_names.proofs.ItemLemmas.{struct_scopes}
use Rattle.bl_names.proofs.PastLemmas.{enter-behind, more}
use Rattle.bl_names.proofs.PlacedExpr.{earlier}
use Rattle.bl_names.proofs.PlacedItem.{struct_is, unit_holds}
use Rattle.bl_names.proofs.PlacedStmt.{Within, constant_is, within_first, within_one, within_second}
use Rattle.bl_names.proofs.StillLemmas.{after-append, still_value}

-- behind items, which give these structs, constants and units
pub record ItemsHold (reached : Option DeclaredBefore) (scopes new : Scopes) (structs : List NamedStruct) (constants : List NamedConstant)
    (units : List NamedUnit) : Type 0 where
  pub steps : reached ≡ Some (earlier new)
  pub below : Below new
  pub no_variables : new.counts.variables ≡ 0
  pub more_structs : new.counts.structs ≡ scopes.counts.structs + length structs
  pub more_constants : new.counts.constants ≡ scopes.counts.constants + length constants
  pub more_units : new.counts.units ≡ scopes.counts.units + length units

module _ (named : Named) where
  struct_holds : (scopes : Scopes) (def : RawStruct) → Below scopes → scopes.counts.variables ≡ 0 → Fits scopes (struct_marks def) →
      Within named.structs scopes.counts.structs (named_struct scopes def ∷ []) →
      ItemsHold (item_step named next.Struct (earlier scopes)) scopes (after scopes (struct_marks def)) (named_struct scopes def ∷ []) [] []
  struct_holds scopes def below none fits structs =
      subst (λ new. ItemsHold (item_step named next.Struct (earlier scopes)) scopes new (named_struct scopes def ∷ []) [] []) (struct_scopes scopes def)
      (record {
        steps = ap (λ test. if test then Some (record (earlier scopes) { structs = scopes.counts.structs + 1 }) else None)
            (ap (holds_of (struct_placed (earlier scopes))) (within_one named.structs scopes.counts.structs (named_struct scopes def) [] structs)
            ∙ struct_is scopes def below fits);
        below = struct_below scopes def.name below;
        no_variables = none;
        more_structs = refl;
        more_constants = plus_none scopes.counts.constants;
        more_units = plus_none scopes.counts.units;
      })

  constant_holds : (scopes : Scopes) (def : RawConstant) → Below scopes → scopes.counts.variables ≡ 0 → Fits scopes (constant_marks def) →
      Within named.constants scopes.counts.constants (named_constant scopes def ∷ []) →
      ItemsHold (item_step named next.Constant (earlier scopes)) scopes (after scopes (constant_marks def)) [] (named_constant scopes def ∷ []) []
  constant_holds scopes def below none fits constants =
      let marks = optional type_marks def.ty ++ expr_marks def.value in
      subst (λ new. ItemsHold (item_step named next.Constant (earlier scopes)) scopes new [] (named_constant scopes def ∷ []) [])
      (enter-behind scopes marks def.name kinds.Constant (still_value def.ty (Some def.value)))
      (record {
        steps = ap (λ test. if test then Some (with_constant (earlier scopes)) else None)
            (constant_is [] named.constants scopes def below (fits_first scopes marks (declares def.name kinds.Constant ∷ []) fits) constants);
        below = constant_below scopes def.name below;
        no_variables = none;
        more_structs = plus_none scopes.counts.structs;
        more_constants = refl;
        more_units = plus_none scopes.counts.units;
      })

  unit_hold : (scopes : Scopes) (def : RawUnit) → Below scopes → scopes.counts.variables ≡ 0 → Fits scopes (unit_marks def) →
      Within named.constants scopes.counts.constants (constants_in_unit scopes def) →
      Within named.units scopes.counts.units (named_unit scopes def ∷ []) →
      ItemsHold (item_step named next.Unit (earlier scopes)) scopes (after scopes (unit_marks def)) [] (constants_in_unit scopes def)
      (named_unit scopes def ∷ [])
  unit_hold scopes def below none fits constants units =
      let holds = unit_holds scopes def named.constants below none fits constants in
      record {
        steps =
            ap (option_and_then (λ def. unit_step named.constants def (earlier scopes)))
            (within_one named.units scopes.counts.units (named_unit scopes def) [] units) ∙ holds.steps;
        below = holds.below;
        no_variables = holds.no_variables;
        more_structs = holds.same_structs ∙ plus_none scopes.counts.structs;
        more_constants = holds.more_constants;
        more_units = holds.more_units;
      }

  item_holds : (one : RawItem) (scopes : Scopes) → Below scopes → scopes.counts.variables ≡ 0 → Fits scopes (item_marks one) →
      Within named.structs scopes.counts.structs (structs_of scopes one) → Within named.constants scopes.counts.constants (constants_of scopes one)
      → Within named.units scopes.counts.units (units_of scopes one) →
      ItemsHold (item_step named (kind_of_item one) (earlier scopes)) scopes (after scopes (item_marks one)) (structs_of scopes one)
      (constants_of scopes one) (units_of scopes one)
  item_holds (item.Struct def) scopes below none fits structs constants units = struct_holds scopes def below none fits structs
  item_holds (item.Constant def) scopes below none fits structs constants units = constant_holds scopes def below none fits constants
  item_holds (item.Unit def) scopes below none fits structs constants units = unit_hold scopes def below none fits constants units

  items_hold : (items : List RawItem) (scopes : Scopes) → Below scopes → scopes.counts.variables ≡ 0 → Fits scopes (marks_of items) →
      Within named.structs scopes.counts.structs (along structs_of scopes items)
      → Within named.constants scopes.counts.constants (along constants_of scopes items) →
      Within named.units scopes.counts.units (along units_of scopes items) →
      ItemsHold (in_turn (map (item_step named) (map kind_of_item items)) (earlier scopes)) scopes (after scopes (marks_of items))
      (along structs_of scopes items) (along constants_of scopes items) (along units_of scopes items)
  items_hold [] scopes below none fits structs constants units = record {
    steps = refl;
    below = below;
    no_variables = none;
    more_structs = plus_none scopes.counts.structs;
    more_constants = plus_none scopes.counts.constants;
    more_units = plus_none scopes.counts.units;
  }
  items_hold (one ∷ items) scopes below none fits structs constants units =
      let new = after scopes (item_marks one) in
      let first = item_holds one scopes below none (fits_first scopes (item_marks one) (marks_of items) fits)
      (within_first named.structs scopes.counts.structs (structs_of scopes one) (along structs_of new items) structs)
      (within_first named.constants scopes.counts.constants (constants_of scopes one) (along constants_of new items) constants)
      (within_first named.units scopes.counts.units (units_of scopes one) (along units_of new items) units) in
      let later = items_hold items new first.below first.no_variables (fits_second scopes (item_marks one) (marks_of items) fits)
      (subst (λ at. Within named.structs at (along structs_of new items)) (sym first.more_structs)
      (within_second named.structs scopes.counts.structs (structs_of scopes one) (along structs_of new items) structs))
      (subst (λ at. Within named.constants at (along constants_of new items)) (sym first.more_constants)
      (within_second named.constants scopes.counts.constants (constants_of scopes one) (along constants_of new items) constants))
      (subst (λ at. Within named.units at (along units_of new items)) (sym first.more_units)
      (within_second named.units scopes.counts.units (units_of scopes one) (along units_of new items) units)) in
      subst (λ last. ItemsHold (in_turn (map (item_step named) (map kind_of_item (one ∷ items))) (earlier scopes)) scopes last
      (along structs_of scopes (one ∷ items)) (along constants_of scopes (one ∷ items)) (along units_of scopes (one ∷ items)))
      (sym (after-append scopes (item_marks one) (marks_of items)))
      (record {
        steps = ap (option_and_then (in_turn (map (item_step named) (map kind_of_item items)))) first.steps ∙ later.steps;
        below = later.below;
        no_variables = later.no_variables;
        more_structs =
            more (structs_of scopes one) (along structs_of new items) scopes.counts.structs new.counts.structs
            (after new (marks_of items)).counts.structs first.more_structs later.more_structs;
        more_constants =
            more (constants_of scopes one) (along constants_of new items) scopes.counts.constants new.counts.constants
            (after new (marks_of items)).counts.constants first.more_constants later.more_constants;
        more_units =
            more (units_of scopes one) (along units_of new items) scopes.counts.units new.counts.units
            (after new (marks_of items)).counts.units first.more_units later.more_units;
      })

pub whole : {A : Type 0} (xs : List A) → Within xs 0 xs
whole xs = record { before = []; rest = []; there = sym (append-nil xs); is_at = refl }

pub is_placed : (items : List RawItem) (bytes : ℕ) → Passes items → IsPlaced (named_program items bytes)
is_placed items bytes passes =
    let named = named_program items bytes in
    let holds = items_hold named items file_scope (tt, tt) refl (program_fits items passes) (whole named.structs) (whole named.constants) (whole named.units) in
    holds.steps ∙ (λ i. Some (record {
      structs = (holds.more_structs ∙ none_plus (length named.structs)) i;
      constants = (holds.more_constants ∙ none_plus (length named.constants)) i;
      units = (holds.more_units ∙ none_plus (length named.units)) i;
      variables = holds.no_variables i;
    }))
