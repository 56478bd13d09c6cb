-- Items are judged alike in two programs, where what is known before them agrees.
use Rattle.std.proofs.Common.{◌≡◌, ℕ, ◌+◌, ◌-◌, ◌<◌, ◌≤◌, List, [], ◌∷◌, ◌++◌, map, length, Option, Some, None, arith, refl, ap, sym, subst, ◌∙◌, append-nil}
use Rattle.std.specs.Prelude.{option_and_then, slice_get, if◌then◌else◌}
use Rattle.std.proofs.lemmas.List.{length-append, length-map, map-append}
use Rattle.std.proofs.lemmas.Option.{same_Some}
use Rattle.bl_tree.proofs.Basics.{get_behind}
use Rattle.bl_tree.specs.declared.place.Place.{Place}
use Rattle.bl_tree.specs.declared.tree.StructDef.{StructDef}
use Rattle.bl_tree.specs.declared.tree.Unit.{Unit as UnitDef}
use Rattle.bl_tree_laws_places.specs.Placed.{placed_struct, placed_structs, placed_unit, placed_units}
use Rattle.bl_tree_laws_places.proofs.Lists.{map-alike, map-twice}
use Rattle.bl_eval.proofs.OperatorFits.{some_found, where_holds}
use Rattle.bl_names_laws_places.specs.Renamed.{Renaming, renamed_constant, renamed_field, renamed_struct, renamed_unit}
use Rattle.bl_names_tree.specs.declared.item.Item.{Item}
use Rattle.bl_names_tree.specs.declared.item.Item.TheVariants as item
use Rattle.bl_names_tree.specs.declared.item.NamedConstant.{NamedConstant}
use Rattle.bl_names_tree.specs.declared.item.NamedField.{NamedField}
use Rattle.bl_names_tree.specs.declared.item.NamedStruct.{NamedStruct}
use Rattle.bl_names_tree.specs.declared.item.NamedUnit.{NamedUnit}
use Rattle.bl_names_tree.specs.declared.named.Named.{Named}
use Rattle.bl_names_tree.specs.Placed.{DeclaredBefore, constant_placed, holds_of, in_turn, item_step, struct_placed, unit_step}
use Rattle.bl_names_tree.specs.Placed.{with_constant as constant_counted}
use Rattle.bl_types.specs.declared.environment.Constant.{Constant}
use Rattle.bl_types.specs.declared.environment.Environment.{Environment}
use Rattle.bl_types.specs.Declarations.{Declaring, after_constant, after_struct, field_of, struct_of, unchanged}
use Rattle.bl_types.specs.Programs.{after_item, after_items, after_next}
use Rattle.bl_types.specs.Units.{after_unit, unit_of}
use Rattle.bl_types_laws.specs.Within.{known_in}
use Rattle.bl_types_laws_places.specs.Agree.{EnvironmentsAgree, head_of_unit, placed_failures, unplaced}
use Rattle.bl_types_laws_places.specs.Laws.{ArgumentsAgree, DeclarationsAgree, ExpressionsAgree}
use Rattle.bl_types_laws_places_units.specs.Laws.{ComeNext, ItemsAlike, counts_behind}
use Rattle.bl_types_laws_places_units.proofs.Alike.{SameConstants, both_placed}
use Rattle.bl_types_laws_places_units.proofs.Heads.{unit_known}
use Rattle.bl_types_laws_places_units.proofs.Known.{Extends, further, item_grows, items_grow}
use Rattle.bl_types_laws_places_units.proofs.Lists.{same_list, stands_changed}
use Rattle.bl_types_laws_places_units.proofs.Units.{unit_alike}

-- ---- constants that are declared are equal

same_more : (by : Renaming) (near far near_after far_after : Environment) (near_more far_more : List Constant) → EnvironmentsAgree by near far →
    EnvironmentsAgree by near_after far_after → near_after.constants ≡ near.constants ++ near_more →
    far_after.constants ≡ far.constants ++ far_more → far_more ≡ near_more
same_more by near far near_after far_after near_more far_more before behind one two =
    same_list near_more far_more
    (λ k. sym (get_behind far.constants far_more k) ∙ (λ i. slice_get (sym two i) (sym (before.next k) i))
    ∙ behind.constants (length near.constants + k) ∙ ap (λ xs. slice_get xs (length near.constants + k)) one
    ∙ get_behind near.constants near_more k)

-- what items come to, with equal constants where what is known grows
alike_by : (by : Renaming) (near far : Environment) (one two : Declaring) → EnvironmentsAgree by near far → Extends near one.env →
    Extends far two.env → two.failures ≡ placed_failures by.place one.failures → EnvironmentsAgree by one.env two.env →
    (structs : List StructDef) → one.env.structs ≡ near.structs ++ structs → two.env.structs ≡ far.structs ++ placed_structs by.place structs →
    (units : List UnitDef) → one.env.units ≡ near.units ++ units → two.env.units ≡ far.units ++ placed_units by.place units →
    ItemsAlike by near far one two
alike_by by near far one two agree near_grows far_grows failures after structs near_structs far_structs units near_units far_units = record {
  failures = failures;
  agree = after;
  structs = structs;
  near_structs = near_structs;
  far_structs = far_structs;
  constants = near_grows.constants;
  near_constants = near_grows.has_constants;
  far_constants =
      far_grows.has_constants
      ∙ ap (λ xs. far.constants ++ xs)
      (same_more by near far one.env two.env near_grows.constants far_grows.constants agree after near_grows.has_constants
      far_grows.has_constants);
  units = units;
  near_units = near_units;
  far_units = far_units;
}

module _ (by : Renaming) (expressions : ExpressionsAgree) (arguments_agree : ArgumentsAgree) (declarations : DeclarationsAgree) where
  abbrev f : Place → Place
  f = by.place

  -- ---- structs

  field_alike : (near far : Environment) → EnvironmentsAgree by near far → (field : NamedField) →
      field_of far (renamed_field by field) ≡ field_of near field
  field_alike near far agree field = λ i. record { name = field.name.text; ty = (expressions by near far agree).written field.ty i }

  struct_alike : (near far : Environment) → EnvironmentsAgree by near far → (def : NamedStruct) →
      struct_of far (renamed_struct by def) ≡ placed_struct f (struct_of near def)
  struct_alike near far agree def = λ i. record {
    name = def.name.text;
    place = f def.name.place;
    fields =
        (map-twice (field_of far) (renamed_field by) def.fields
        ∙ map-alike (λ field. field_of far (renamed_field by field)) (field_of near) (field_alike near far agree) def.fields) i;
  }

  -- ---- one item

  module _ (one other : Named) (order_from : DeclaredBefore) (order_to : DeclaredBefore)
      (structs_there : (k : ℕ) (def : NamedStruct) → order_from.structs ≤ k → k < order_to.structs → slice_get one.structs k ≡ Some def →
      slice_get other.structs k ≡ Some (renamed_struct by def))
      (constants_there : SameConstants by order_from.constants order_to.constants one.constants other.constants)
      (units_there : (k : ℕ) (unit : NamedUnit) → order_from.units ≤ k → k < order_to.units → slice_get one.units k ≡ Some unit →
      slice_get other.units k ≡ Some (renamed_unit by unit)) where
    -- what is known on both sides agrees, and is between what is known before the items and behind them
    pub record Between (near far : Environment) : Type 0 where
      pub agree : EnvironmentsAgree by near far
      pub structs : order_from.structs ≤ length near.structs
      pub constants : order_from.constants ≤ length near.constants
      pub units : order_from.units ≤ length near.units

    -- the counts are no more than those behind the items
    pub record AtMost (counts : DeclaredBefore) : Type 0 where
      pub structs : counts.structs ≤ order_to.structs
      pub constants : counts.constants ≤ order_to.constants
      pub units : counts.units ≤ order_to.units

    same_structs : (near far : Environment) → EnvironmentsAgree by near far → length far.structs ≡ length near.structs
    same_structs near far agree =
        sym (length-map far.structs (placed_struct unplaced)) ∙ ap length agree.structs ∙ length-map near.structs (placed_struct unplaced)

    same_units : (near far : Environment) → EnvironmentsAgree by near far → length far.units ≡ length near.units
    same_units near far agree = sym (length-map far.units head_of_unit) ∙ ap length agree.units ∙ length-map near.units head_of_unit

    next_constant : (near far : Environment) → EnvironmentsAgree by near far → by.constant (length near.constants) ≡ length far.constants
    next_constant near far agree =
        ap by.constant (none_behind (length near.constants)) ∙ agree.next 0 ∙ sym (none_behind (length far.constants))
      where
        none_behind : (n : ℕ) → n ≡ n + 0
        none_behind n = omega arith

    -- the item grows what is known, in both programs
    grows_near : (it : Item) (near : Environment) → Extends near (after_item one it near).env
    grows_near it near = (item_grows one it near).extends

    grows_far : (it : Item) (far : Environment) → Extends far (after_item other it far).env
    grows_far it far = (item_grows other it far).extends

    struct_item : (near far : Environment) → Between near far → (counts : DeclaredBefore) →
        item_step one item.Struct (known_in near) ≡ Some counts → AtMost counts →
        ItemsAlike by near far (after_item one item.Struct near) (after_item other item.Struct far)
    struct_item near far between counts step less = by_found (slice_get one.structs (length near.structs)) refl step
      where
        by_found : (found : Option NamedStruct) → slice_get one.structs (length near.structs) ≡ found →
            (if holds_of (struct_placed (known_in near)) found then Some (record (known_in near) { structs = length near.structs + 1 }) else None)
            ≡ Some counts →
            ItemsAlike by near far (after_item one item.Struct near) (after_item other item.Struct far)
        by_found None is none = absurd (cc)
        by_found (Some def) is step =
            let holds = where_holds (struct_placed (known_in near) def) (Some (record (known_in near) { structs = length near.structs + 1 })) counts step
            in
            let more : length near.structs + 1 ≡ counts.structs =
            ap (λ (counts : DeclaredBefore). counts.structs)
            (same_Some (record (known_in near) { structs = length near.structs + 1 }) counts holds.1) in
            let there : slice_get other.structs (length far.structs) ≡ Some (renamed_struct by def) =
            ap (slice_get other.structs) (same_structs near far between.agree)
            ∙ structs_there (length near.structs) def between.structs (omega (arith, more, less.structs)) is in
            let near_is : after_item one item.Struct near ≡ after_struct def near = ap (λ found. after_next after_struct found near) is in
            let far_is : after_item other item.Struct far ≡ after_struct (renamed_struct by def) far =
            ap (λ found. after_next after_struct found far) there in
            let after = (declarations by near far between.agree).struct def in
            let near_grows : Extends near (after_struct def near).env =
            subst (λ (after : Declaring). Extends near after.env) near_is (grows_near item.Struct near) in
            let far_grows : Extends far (after_struct (renamed_struct by def) far).env =
            subst (λ (after : Declaring). Extends far after.env) far_is (grows_far item.Struct far) in
            subst (λ (first : Declaring). ItemsAlike by near far first (after_item other item.Struct far)) (sym near_is)
            (subst (λ (second : Declaring). ItemsAlike by near far (after_struct def near) second) (sym far_is)
            (alike_by by near far (after_struct def near) (after_struct (renamed_struct by def) far) between.agree near_grows far_grows after.failures
            after.env (struct_of near def ∷ []) refl (ap (λ def. far.structs ++ def ∷ []) (struct_alike near far between.agree def)) []
            (sym (append-nil near.units)) (sym (append-nil far.units))))

    constant_item : (near far : Environment) → Between near far → (counts : DeclaredBefore) →
        item_step one item.Constant (known_in near) ≡ Some counts → AtMost counts →
        ItemsAlike by near far (after_item one item.Constant near) (after_item other item.Constant far)
    constant_item near far between counts step less = by_found (slice_get one.constants (length near.constants)) refl step
      where
        by_found : (found : Option NamedConstant) → slice_get one.constants (length near.constants) ≡ found →
            (if holds_of (constant_placed (known_in near)) found then Some (constant_counted (known_in near)) else None) ≡ Some counts →
            ItemsAlike by near far (after_item one item.Constant near) (after_item other item.Constant far)
        by_found None is none = absurd (cc)
        by_found (Some constant) is step =
            let holds = where_holds (constant_placed (known_in near) constant) (Some (constant_counted (known_in near))) counts step in
            let more : length near.constants + 1 ≡ counts.constants =
            ap (λ (counts : DeclaredBefore). counts.constants) (same_Some (constant_counted (known_in near)) counts holds.1) in
            let there : slice_get other.constants (length far.constants) ≡ Some (renamed_constant by constant) =
            ap (slice_get other.constants) (sym (next_constant near far between.agree))
            ∙ constants_there (length near.constants) constant between.constants (omega (arith, more, less.constants)) is in
            let near_is : after_item one item.Constant near ≡ after_constant constant near = ap (λ found. after_next after_constant found near) is in
            let far_is : after_item other item.Constant far ≡ after_constant (renamed_constant by constant) far =
            ap (λ found. after_next after_constant found far) there in
            let after = (declarations by near far between.agree).constant constant in
            let near_grows : Extends near (after_constant constant near).env =
            subst (λ (after : Declaring). Extends near after.env) near_is (grows_near item.Constant near) in
            let far_grows : Extends far (after_constant (renamed_constant by constant) far).env =
            subst (λ (after : Declaring). Extends far after.env) far_is (grows_far item.Constant far) in
            subst (λ (first : Declaring). ItemsAlike by near far first (after_item other item.Constant far)) (sym near_is)
            (subst (λ (second : Declaring). ItemsAlike by near far (after_constant constant near) second) (sym far_is)
            (alike_by by near far (after_constant constant near) (after_constant (renamed_constant by constant) far) between.agree near_grows far_grows
            after.failures after.env [] (sym (append-nil near.structs)) (sym (append-nil far.structs)) [] (sym (append-nil near.units))
            (sym (append-nil far.units))))

    unit_item : (near far : Environment) → Between near far → (counts : DeclaredBefore) →
        item_step one item.Unit (known_in near) ≡ Some counts → AtMost counts →
        ItemsAlike by near far (after_item one item.Unit near) (after_item other item.Unit far)
    unit_item near far between counts step less = by_found (slice_get one.units (length near.units)) refl step
      where
        by_found : (found : Option NamedUnit) → slice_get one.units (length near.units) ≡ found →
            option_and_then (λ def. unit_step one.constants def (known_in near)) found ≡ Some counts →
            ItemsAlike by near far (after_item one item.Unit near) (after_item other item.Unit far)
        by_found None is none = absurd (cc)
        by_found (Some unit) is step =
            let counted : known_in (after_unit one.constants unit near).env ≡ counts = (unit_known one.constants unit near).counts_are counts step in
            let known = unit_known one.constants unit near in
            let more : length near.units + 1 ≡ counts.units =
            sym (length-append near.units (unit_of unit known.made known.body ∷ [])) ∙ ap length (sym known.units)
            ∙ ap (λ (counts : DeclaredBefore). counts.units) counted in
            let there : slice_get other.units (length far.units) ≡ Some (renamed_unit by unit) =
            ap (slice_get other.units) (same_units near far between.agree)
            ∙ units_there (length near.units) unit between.units (omega (arith, more, less.units)) is in
            let near_is : after_item one item.Unit near ≡ after_unit one.constants unit near =
            ap (λ found. after_next (after_unit one.constants) found near) is in
            let far_is : after_item other item.Unit far ≡ after_unit other.constants (renamed_unit by unit) far =
            ap (λ found. after_next (after_unit other.constants) found far) there in
            let after = unit_alike by order_from.constants order_to.constants expressions arguments_agree declarations one.constants other.constants
            constants_there unit near far between.agree between.constants counts step less.constants in
            let near_grows : Extends near (after_unit one.constants unit near).env =
            subst (λ (after : Declaring). Extends near after.env) near_is (grows_near item.Unit near) in
            let far_grows : Extends far (after_unit other.constants (renamed_unit by unit) far).env =
            subst (λ (after : Declaring). Extends far after.env) far_is (grows_far item.Unit far) in
            let far_known = unit_known other.constants (renamed_unit by unit) far in
            subst (λ (first : Declaring). ItemsAlike by near far first (after_item other item.Unit far)) (sym near_is)
            (subst (λ (second : Declaring). ItemsAlike by near far (after_unit one.constants unit near) second) (sym far_is)
            (alike_by by near far (after_unit one.constants unit near) (after_unit other.constants (renamed_unit by unit) far) between.agree near_grows
            far_grows after.failures after.agree [] (known.structs ∙ sym (append-nil near.structs))
            (far_known.structs ∙ sym (append-nil far.structs)) (after.made ∷ []) after.near_units after.far_units))

    item_alike : (it : Item) (near far : Environment) → Between near far → (counts : DeclaredBefore) →
        item_step one it (known_in near) ≡ Some counts → AtMost counts → ItemsAlike by near far (after_item one it near) (after_item other it far)
    item_alike item.Struct = struct_item
    item_alike item.Constant = constant_item
    item_alike item.Unit = unit_item

    -- ---- items one after another

    longer : {A : Type 0} (xs ys more : List A) (n : ℕ) → ys ≡ xs ++ more → n ≤ length xs → n ≤ length ys
    longer xs ys more n is enough = let long : length ys ≡ length xs + length more = ap length is ∙ length-append xs more in omega arith

    shorter : {A : Type 0} (xs ys more : List A) (n a b : ℕ) → ys ≡ xs ++ more → length xs ≡ a → length ys ≡ b → b ≤ n → a ≤ n
    shorter xs ys more n a b is here there less =
        let long : length ys ≡ length xs + length more = ap length is ∙ length-append xs more in omega arith

    -- what is known between items is no more than what is known behind them
    earlier_at_most : (middle last : Environment) (between counts : DeclaredBefore) → Extends middle last → known_in middle ≡ between →
        known_in last ≡ counts → AtMost counts → AtMost between
    earlier_at_most middle last between counts grows here there less = record {
      structs = shorter middle.structs last.structs grows.structs order_to.structs between.structs counts.structs grows.has_structs
          (ap (λ (counts : DeclaredBefore). counts.structs) here) (ap (λ (counts : DeclaredBefore). counts.structs) there) less.structs;
      constants = shorter middle.constants last.constants grows.constants order_to.constants between.constants counts.constants grows.has_constants
          (ap (λ (counts : DeclaredBefore). counts.constants) here) (ap (λ (counts : DeclaredBefore). counts.constants) there) less.constants;
      units = shorter middle.units last.units grows.units order_to.units between.units counts.units grows.has_units
          (ap (λ (counts : DeclaredBefore). counts.units) here) (ap (λ (counts : DeclaredBefore). counts.units) there) less.units;
    }

    none_alike : (near far : Environment) → EnvironmentsAgree by near far → ItemsAlike by near far (unchanged near) (unchanged far)
    none_alike near far agree = record {
      failures = refl;
      agree = agree;
      structs = [];
      near_structs = sym (append-nil near.structs);
      far_structs = sym (append-nil far.structs);
      constants = [];
      near_constants = sym (append-nil near.constants);
      far_constants = sym (append-nil far.constants);
      units = [];
      near_units = sym (append-nil near.units);
      far_units = sym (append-nil far.units);
    }

    pub items_alike : (order : List Item) (near far : Environment) → Between near far → (counts : DeclaredBefore) →
        in_turn (map (item_step one) order) (known_in near) ≡ Some counts → AtMost counts →
        ItemsAlike by near far (after_items one order near) (after_items other order far)
    items_alike [] near far between counts step less = none_alike near far between.agree
    items_alike (it ∷ order) near far between counts step less =
        let near_middle : Declaring = after_item one it near in
        let far_middle : Declaring = after_item other it far in
        let near_last : Declaring = after_items one order near_middle.env in
        let far_last : Declaring = after_items other order far_middle.env in
        let found = some_found (in_turn (map (item_step one) order)) (item_step one it (known_in near)) counts step in
        let grows = item_grows one it near in
        let behind = items_grow one order near_middle.env in
        let here : known_in near_middle.env ≡ found.0 = grows.counts_are found.0 found.1 in
        let next : in_turn (map (item_step one) order) (known_in near_middle.env) ≡ Some counts =
        ap (in_turn (map (item_step one) order)) here ∙ found.2 in
        let first = item_alike it near far between found.0 found.1
        (earlier_at_most near_middle.env near_last.env found.0 counts behind.extends here (behind.counts_are counts next) less) in
        let rest = items_alike order near_middle.env far_middle.env
        (record {
          agree = first.agree;
          structs = longer near.structs near_middle.env.structs first.structs order_from.structs first.near_structs between.structs;
          constants = longer near.constants near_middle.env.constants first.constants order_from.constants first.near_constants between.constants;
          units = longer near.units near_middle.env.units first.units order_from.units first.near_units between.units;
        })
        counts next less in
        record {
          failures = both_placed f near_middle.failures near_last.failures far_middle.failures far_last.failures first.failures rest.failures;
          agree = rest.agree;
          structs = first.structs ++ rest.structs;
          near_structs = further near.structs near_middle.env.structs near_last.env.structs first.structs rest.structs first.near_structs
              rest.near_structs;
          far_structs =
              further far.structs far_middle.env.structs far_last.env.structs (placed_structs f first.structs) (placed_structs f rest.structs)
              first.far_structs rest.far_structs
              ∙ ap (λ xs. far.structs ++ xs) (sym (map-append (placed_struct f) first.structs rest.structs));
          constants = first.constants ++ rest.constants;
          near_constants = further near.constants near_middle.env.constants near_last.env.constants first.constants rest.constants
              first.near_constants rest.near_constants;
          far_constants = further far.constants far_middle.env.constants far_last.env.constants first.constants rest.constants
              first.far_constants rest.far_constants;
          units = first.units ++ rest.units;
          near_units = further near.units near_middle.env.units near_last.env.units first.units rest.units first.near_units rest.near_units;
          far_units =
              further far.units far_middle.env.units far_last.env.units (placed_units f first.units) (placed_units f rest.units) first.far_units
              rest.far_units
              ∙ ap (λ xs. far.units ++ xs) (sym (map-append (placed_unit f) first.units rest.units));
        }

  -- ---- items that come next in both programs

  at_itself : (n : ℕ) → n ≤ n
  at_itself n = omega arith

  -- where positions of structs and units are equal
  moved_here : (at from k : ℕ) → from ≡ at → at ≤ k → from + (k - at) ≡ k
  moved_here at from k same behind = omega arith

  pub items_agree : (near far : Environment) (one other : Named) (order : List Item) (structs : List NamedStruct) (constants : List NamedConstant)
      (units : List NamedUnit) → EnvironmentsAgree by near far → ComeNext near one structs constants units →
      ComeNext far other (map (renamed_struct by) structs) (map (renamed_constant by) constants) (map (renamed_unit by) units) →
      in_turn (map (item_step one) order) (known_in near) ≡ Some (counts_behind (known_in near) structs constants units) →
      ItemsAlike by near far (after_items one order near) (after_items other order far)
  items_agree near far one other order structs constants units agree here there step =
      let same_structs : length far.structs ≡ length near.structs =
      sym (length-map far.structs (placed_struct unplaced)) ∙ ap length agree.structs ∙ length-map near.structs (placed_struct unplaced) in
      let same_units : length far.units ≡ length near.units =
      sym (length-map far.units head_of_unit) ∙ ap length agree.units ∙ length-map near.units head_of_unit in
      items_alike one other (known_in near) (counts_behind (known_in near) structs constants units)
      (λ k def behind less is.
      ap (slice_get other.structs) (sym (moved_here (length near.structs) (length far.structs) k same_structs behind))
      ∙ stands_changed (renamed_struct by) one.structs other.structs structs (length near.structs) (length far.structs) here.structs there.structs k
      def behind less is)
      (λ k constant behind less is.
      ap (slice_get other.constants)
      (ap by.constant (sym (moved_here (length near.constants) (length near.constants) k refl behind))
      ∙ agree.next (k - length near.constants))
      ∙ stands_changed (renamed_constant by) one.constants other.constants constants (length near.constants) (length far.constants) here.constants
      there.constants k constant behind less is)
      (λ k unit behind less is.
      ap (slice_get other.units) (sym (moved_here (length near.units) (length far.units) k same_units behind))
      ∙ stands_changed (renamed_unit by) one.units other.units units (length near.units) (length far.units) here.units there.units k unit behind less
      is)
      order near far
      (record {
        agree = agree;
        structs = at_itself (length near.structs);
        constants = at_itself (length near.constants);
        units = at_itself (length near.units);
      })
      (counts_behind (known_in near) structs constants units) step
      (record {
        structs = at_itself (length near.structs + length structs);
        constants = at_itself (length near.constants + length constants);
        units = at_itself (length near.units + length units);
      })
