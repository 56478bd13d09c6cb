-- The positions in items behind headings are of what is declared before them.
use Rattle.std.proofs.Common.{◌≡◌, ℕ, ◌+◌, inr, List, [], ◌∷◌, ◌++◌, length, map, Option, Some, None, refl, sym, ap, subst, ◌∙◌, append-nil, arith}
use Rattle.std.specs.Prelude.{if◌then◌else◌, option_and_then}
use Rattle.bl_tree.specs.declared.tree.UnitKind.{UnitKind}
use Rattle.bl_tree.specs.declared.tree.UnitKind.TheVariants as unit
use Rattle.bl_names.proofs.BelowLemmas.{Below, Grown, constant_below, declare_below, struct_below}
use Rattle.bl_names.proofs.FitLemmas.{Fits, fits_first, fits_second, marks_fit}
use Rattle.bl_names.proofs.ItemLemmas.{struct_scopes}
use Rattle.bl_names.proofs.PastLemmas.{enter-behind}
use Rattle.bl_names.proofs.PlacedExpr.{earlier}
use Rattle.bl_names.proofs.PlacedItem.{struct_is, unit_holds}
use Rattle.bl_names.proofs.PlacedStmt.{Within, constant_is, within_first, within_one, within_second}
use Rattle.bl_names.proofs.StillLemmas.{after-append, still_value}
use Rattle.bl_names.specs.Named.{along, constants_in_unit, constants_of, named_behind, named_constant, named_struct, named_unit, structs_of, units_of}
use Rattle.bl_names.specs.Order.{kind_of_item, order_of}
use Rattle.bl_names_scopes.specs.declared.heading.Heading.{Heading}
use Rattle.bl_names_scopes.specs.declared.kind.Kind.TheVariants as kind
use Rattle.bl_names_scopes.specs.declared.scopes.Counts.{Counts}
use Rattle.bl_names_scopes.specs.Marks.{constant_marks, declares, expr_marks, item_marks, kind_of_unit, marks_of, optional, struct_marks, type_marks}
use Rattle.bl_names_scopes.specs.Marks.{unit_marks}
use Rattle.bl_names_scopes.specs.Scopes.{Scopes, after, counted, enter, file_scope, heading_mark, opened_by}
use Rattle.bl_names_tree.specs.declared.item.Item.TheVariants as next
use Rattle.bl_names_tree.specs.declared.named.Named.{Named}
use Rattle.bl_names_tree.specs.Placed.{DeclaredBefore, holds_of, in_turn, item_step, struct_placed, unit_step, with_constant}
use Rattle.bl_parse_tree.specs.declared.item.RawItem.{RawItem}
use Rattle.bl_parse_tree.specs.declared.item.RawItem.TheVariants as item
use Rattle.bl_parse_tree.specs.declared.item.RawStruct.{RawStruct}
use Rattle.bl_parse_tree.specs.declared.item.RawUnit.{RawUnit}
use Rattle.bl_parse_tree.specs.declared.name.Name.{Name}
use Rattle.bl_parse_tree.specs.declared.stmt.RawConstant.{RawConstant}
use Rattle.bl_names_laws_files.specs.Globals.{DeclareItems, item_heading}
use Rattle.bl_names_laws_files.specs.Laws.{ItemsArePlaced, StandsFrom}
use Rattle.bl_names_laws_files.proofs.Counting.{item_gives, items_give}
use Rattle.bl_names_laws_files.proofs.InTurn.{marks_in_turn}
use Rattle.bl_names_laws_files.proofs.Opening.{blanks_are_counted}
use Rattle.bl_names_laws_files.proofs.Positions.{declares_first}

-- ---- items

-- a walk reaches what is declared in these scopes, whose positions are of what was counted
record Reaches (reached : Option DeclaredBefore) (new : Scopes) : Type 0 where
  steps : reached ≡ Some (earlier new)
  below : Below new

-- what items give stands in a program from the next positions on
record AllWithin (named : Named) (scopes : Scopes) (items : List RawItem) : Type 0 where
  structs : Within named.structs scopes.counts.structs (along structs_of scopes items)
  constants : Within named.constants scopes.counts.constants (along constants_of scopes items)
  units : Within named.units scopes.counts.units (along units_of scopes items)

module _ (named : Named) where
  struct_reaches : (scopes : Scopes) (def : RawStruct) → Below scopes → Fits scopes (struct_marks def) →
      Within named.structs scopes.counts.structs (named_struct scopes def ∷ []) →
      Reaches (item_step named next.Struct (earlier scopes)) (after scopes (struct_marks def))
  struct_reaches scopes def below fits structs =
      subst (Reaches (item_step named next.Struct (earlier scopes))) (struct_scopes scopes def)
      (record {
        steps =
            ap (λ test. if test then Some (record (earlier scopes) { structs = scopes.counts.structs + 1 }) else None)
            (ap (holds_of (struct_placed (earlier scopes))) (within_one named.structs scopes.counts.structs (named_struct scopes def) [] structs)
            ∙ struct_is scopes def below fits);
        below = struct_below scopes def.name below;
      })

  constant_reaches : (scopes : Scopes) (def : RawConstant) → Below scopes → Fits scopes (constant_marks def) →
      Within named.constants scopes.counts.constants (named_constant scopes def ∷ []) →
      Reaches (item_step named next.Constant (earlier scopes)) (after scopes (constant_marks def))
  constant_reaches scopes def below fits constants =
      let marks = optional type_marks def.ty ++ expr_marks def.value in
      subst (Reaches (item_step named next.Constant (earlier scopes)))
      (enter-behind scopes marks def.name kind.Constant (still_value def.ty (Some def.value)))
      (record {
        steps =
            ap (λ test. if test then Some (with_constant (earlier scopes)) else None)
            (constant_is [] named.constants scopes def below (fits_first scopes marks (declares def.name kind.Constant ∷ []) fits) constants);
        below = constant_below scopes def.name below;
      })

  unit_reaches : (scopes : Scopes) (def : RawUnit) → Below scopes → scopes.counts.variables ≡ 0 → Fits scopes (unit_marks def) →
      Within named.constants scopes.counts.constants (constants_in_unit scopes def) →
      Within named.units scopes.counts.units (named_unit scopes def ∷ []) →
      Reaches (item_step named next.Unit (earlier scopes)) (after scopes (unit_marks def))
  unit_reaches scopes def below none fits constants units =
      let holds = unit_holds scopes def named.constants below none fits constants in
      record {
        steps =
            ap (option_and_then (λ def. unit_step named.constants def (earlier scopes)))
            (within_one named.units scopes.counts.units (named_unit scopes def) [] units)
            ∙ holds.steps;
        below = holds.below;
      }

  item_reaches : (one : RawItem) (scopes : Scopes) → Below scopes → scopes.counts.variables ≡ 0 → Fits scopes (item_marks one) →
      Within named.structs scopes.counts.structs (structs_of scopes one) →
      Within named.constants scopes.counts.constants (constants_of scopes one) →
      Within named.units scopes.counts.units (units_of scopes one) →
      Reaches (item_step named (kind_of_item one) (earlier scopes)) (after scopes (item_marks one))
  item_reaches (item.Struct def) scopes below none fits structs constants units = struct_reaches scopes def below fits structs
  item_reaches (item.Constant def) scopes below none fits structs constants units = constant_reaches scopes def below fits constants
  item_reaches (item.Unit def) scopes below none fits structs constants units = unit_reaches scopes def below none fits constants units

  items_reach : (items : List RawItem) (scopes : Scopes) → Below scopes → scopes.counts.variables ≡ 0 → Fits scopes (marks_of items) →
      AllWithin named scopes items →
      Reaches (in_turn (map (item_step named) (order_of items)) (earlier scopes)) (after scopes (marks_of items))
  items_reach [] scopes below none fits within = record { steps = refl; below = below }
  items_reach (one ∷ items) scopes below none fits within =
      let new = after scopes (item_marks one) in
      let gives = item_gives scopes one in
      let first = item_reaches one scopes below none (fits_first scopes (item_marks one) (marks_of items) fits)
      (within_first named.structs scopes.counts.structs (structs_of scopes one) (along structs_of new items) within.structs)
      (within_first named.constants scopes.counts.constants (constants_of scopes one) (along constants_of new items) within.constants)
      (within_first named.units scopes.counts.units (units_of scopes one) (along units_of new items) within.units) in
      let rest = items_reach items new first.below (gives.variables none) (fits_second scopes (item_marks one) (marks_of items) fits)
      (record {
        structs =
            subst (λ at. Within named.structs at (along structs_of new items)) (sym gives.more_structs)
            (within_second named.structs scopes.counts.structs (structs_of scopes one) (along structs_of new items) within.structs);
        constants =
            subst (λ at. Within named.constants at (along constants_of new items)) (sym gives.more_constants)
            (within_second named.constants scopes.counts.constants (constants_of scopes one) (along constants_of new items) within.constants);
        units =
            subst (λ at. Within named.units at (along units_of new items)) (sym gives.more_units)
            (within_second named.units scopes.counts.units (units_of scopes one) (along units_of new items) within.units);
      }) in
      subst (Reaches (in_turn (map (item_step named) (order_of (one ∷ items))) (earlier scopes)))
      (sym (after-append scopes (item_marks one) (marks_of items)))
      (record {
        steps = ap (option_and_then (in_turn (map (item_step named) (order_of items)))) first.steps ∙ rest.steps;
        below = rest.below;
      })

-- ---- headings

grown_function : (counts : Counts) → counts.variables ≡ 0 → Grown counts (counted counts kind.Function)
grown_function counts none kind.Struct = omega arith
grown_function counts none kind.Constant = omega arith
grown_function counts none kind.Variable = omega arith
grown_function counts none kind.Function = omega arith
grown_function counts none kind.Activity = omega arith
grown_function counts none kind.Field = omega arith

grown_activity : (counts : Counts) → counts.variables ≡ 0 → Grown counts (counted counts kind.Activity)
grown_activity counts none kind.Struct = omega arith
grown_activity counts none kind.Constant = omega arith
grown_activity counts none kind.Variable = omega arith
grown_activity counts none kind.Function = omega arith
grown_activity counts none kind.Activity = omega arith
grown_activity counts none kind.Field = omega arith

-- between items: no variable is counted, and positions are of what was
record Between (scopes : Scopes) : Type 0 where
  below : Below scopes
  none : scopes.counts.variables ≡ 0

unit_between : (scopes : Scopes) (name : Name) (of : UnitKind) → Between scopes → Between (enter scopes (declares name (kind_of_unit of)))
unit_between scopes name unit.Function between =
    record {
      below = declare_below scopes name kind.Function (grown_function scopes.counts between.none) (inr (omega arith)) between.below;
      none = refl;
    }
unit_between scopes name unit.Activity between =
    record {
      below = declare_below scopes name kind.Activity (grown_activity scopes.counts between.none) (inr (omega arith)) between.below;
      none = refl;
    }

heading_between : (scopes : Scopes) (name : Name) (one : RawItem) → Between scopes →
    Between (enter scopes (declares name (item_heading one).kind))
heading_between scopes name (item.Struct def) between = record { below = struct_below scopes name between.below; none = between.none }
heading_between scopes name (item.Constant def) between = record { below = constant_below scopes name between.below; none = between.none }
heading_between scopes name (item.Unit def) between = unit_between scopes name def.kind between

headings_between : (headings : List Heading) (items : List RawItem) (scopes : Scopes) → DeclareItems headings items → Between scopes →
    Between (after scopes (map heading_mark headings))
headings_between [] [] scopes same between = between
headings_between [] (one ∷ items) scopes same between = absurd cc
headings_between (heading ∷ headings) [] scopes same between = absurd cc
headings_between (heading ∷ headings) (one ∷ items) scopes same between =
    let first = declares_first heading headings one items same in
    headings_between headings items (enter scopes (heading_mark heading)) first.rest
    (subst (λ of. Between (enter scopes (declares heading.name of))) (sym first.of) (heading_between scopes heading.name one between))

-- ---- items behind headings, and behind items before

within : {A : Type 0} {xs : List A} {at : ℕ} {part : List A} → StandsFrom xs at part → Within xs at part
within stands = record { before = stands.before; rest = stands.rest; there = stands.there; is_at = stands.is_at }

at_end : {A : Type 0} (before part : List A) (at : ℕ) → length before ≡ at → Within (before ++ part) at part
at_end before part at is = record { before = before; rest = []; there = ap (λ list. before ++ list) (sym (append-nil part)); is_at = is }

-- behind items that stand behind headings
items_between : (headings : List Heading) (known items : List RawItem) → DeclareItems headings known →
    Fits (opened_by headings) (marks_of items) → Between (after (opened_by headings) (marks_of items))
items_between headings known items same fits =
    let start = opened_by headings in
    let blanks = blanks_are_counted headings in
    let begun = headings_between headings known file_scope same (record { below = (tt, tt); none = refl }) in
    record {
      below =
          (items_reach (named_behind headings items 0) items start begun.below begun.none fits
          (record {
            structs = at_end _ (along structs_of start items) start.counts.structs blanks.structs;
            constants = at_end _ (along constants_of start items) start.counts.constants blanks.constants;
            units = at_end _ (along units_of start items) start.counts.units blanks.units;
          })).below;
      none = (items_give items start).variables begun.none;
    }

pub items_are_placed : ItemsArePlaced
items_are_placed headings known before items named same passes stand =
    let start = opened_by headings in
    let scopes = after start (marks_of before) in
    let fits : Fits start (marks_of before ++ marks_of items) =
    subst (Fits start) (marks_in_turn before items) (marks_fit start (marks_of (before ++ items)) passes) in
    let here = items_between headings known before same (fits_first start (marks_of before) (marks_of items) fits) in
    let gives = items_give items scopes in
    let reaches = items_reach named items scopes here.below here.none (fits_second start (marks_of before) (marks_of items) fits)
    (record { structs = within stand.structs; constants = within stand.constants; units = within stand.units }) in
    ap (in_turn (map (item_step named) (order_of items))) (λ i. record (earlier scopes) { variables = sym here.none i })
    ∙ reaches.steps
    ∙ (λ i. Some (record {
      structs = gives.more_structs i;
      constants = gives.more_constants i;
      units = gives.more_units i;
      variables = gives.variables here.none i;
    }))
