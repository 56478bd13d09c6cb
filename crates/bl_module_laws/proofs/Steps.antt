-- One file more: it is judged behind faces as among the items of all files.
use Rattle.std.proofs.Common.{◌≡◌, ◌∙◌, Bool, true, not, List, [], ◌∷◌, ◌++◌, length, map, drop, sym, ap, subst}
use Rattle.std.proofs.Math.Seq.{drop-append_seam}
use Rattle.std.proofs.lemmas.List.{append-nil, map-append}
use Rattle.std.specs.Prelude.{Some}
use Rattle.bl_cause_trees.specs.Rules.{Passes as GraphsPass}
use Rattle.bl_effects.specs.Rules.{Passes as UnitsPass}
use Rattle.bl_module.specs.Rules.{known_at, named_in, own_units}
use Rattle.bl_module.specs.declared.behind.Behind.{Behind}
use Rattle.bl_names.specs.Named.{along, blank_constant, blank_struct, blank_unit, blanks, constants_of, structs_of, units_of}
use Rattle.bl_names.specs.Order.{kind_of_item, order_of}
use Rattle.bl_names_laws_files.specs.Globals.{renumber}
use Rattle.bl_names_laws_files.specs.Laws.{NamedAmong, declared_globals}
use Rattle.bl_names_laws_places.specs.Renamed.{renamed_constant, renamed_struct, renamed_unit}
use Rattle.bl_names_scopes.specs.Marks.{marks_of}
use Rattle.bl_names_scopes.specs.Rules.{PassesBehind}
use Rattle.bl_names_scopes.specs.Scopes.{after, file_scope, opened_by}
use Rattle.bl_names_scopes_laws_places.specs.Agree.{ScopesAgree, placed_marks}
use Rattle.bl_names_tree.specs.declared.named.Named.{Named}
use Rattle.bl_names_tree.specs.Placed.{in_turn, item_step}
use Rattle.bl_joined.specs.Trees.{placed_item}
use Rattle.bl_parse_tree.specs.declared.item.RawItem.{RawItem}
use Rattle.bl_parse_tree.specs.declared.raw.Raw.{Raw}
use Rattle.bl_tree.specs.declared.place.Place.{Place}
use Rattle.bl_tree_laws_places.specs.Laws.{BringsBack}
use Rattle.bl_tree_laws_places.specs.Placed.{placed_units}
use Rattle.bl_types.specs.Declarations.{Declaring, and_then}
use Rattle.bl_types.specs.declared.environment.Environment.{Environment}
use Rattle.bl_types.specs.Programs.{after_items, fresh}
use Rattle.bl_types_laws.specs.Within.{known_in}
use Rattle.bl_types_laws_places.specs.Agree.{placed_failures}
use Rattle.bl_types_laws_places_units.specs.Laws.{ComeNext, ItemsAlike, counts_behind}
use Rattle.bl_module_laws.proofs.Borders.{Border, FrontPasses, IsNamedOf, border_counts, border_scopes, changed, counted_none, front_counts, known_behind_items}
use Rattle.bl_module_laws.proofs.Entries.{both_nothing, entries_stand}
use Rattle.bl_module_laws.proofs.Globals.{items_placed}
use Rattle.bl_module_laws.proofs.Parts.{NameLaws, TypeLaws, UnitLaws}
use Rattle.bl_module_laws.proofs.Units.{graphs_both, units_both}
use Rattle.bl_names_laws_files.proofs.Among.{same_order}

-- no rule from Duplicate to Cycle fails for a tree behind faces
pub record NearPasses (behind : Behind) (last : Bool) (raw : Raw) : Type 0 where
  pub names : PassesBehind (opened_by behind.headings) (marks_of raw.items)
  pub none : (after_items (named_in behind raw) (order_of raw.items) (known_at behind)).failures ≡ []
  pub entry : entries_stand (not last) (along units_of (opened_by behind.headings) raw.items) ≡ true
  pub units : UnitsPass (own_units behind raw)
  pub graphs : GraphsPass (own_units behind raw)

-- ---- places and the order of items

module _ (names : NameLaws) (types : TypeLaws) (named : Named) (front : List RawItem) (f : Place → Place) (raw : Raw) (rest : List RawItem)
    (is : IsNamedOf named (front ++ (map (placed_item f) raw.items ++ rest))) (behind : Behind) (border : Border named front behind) where
  abbrev own : List RawItem
  own = map (placed_item f) raw.items

  abbrev near : Environment
  near = known_at behind

  abbrev far : Environment
  far = known_behind_items named front

  abbrev near_after : Declaring
  near_after = after_items (named_in behind raw) (order_of raw.items) near

  abbrev far_after : Declaring
  far_after = after_items named (order_of raw.items) far

  scopes : ScopesAgree (renumber front) (opened_by behind.headings) (after file_scope (marks_of front))
  scopes = border_scopes names types named front (own ++ rest) is behind border

  counts : known_in near ≡ declared_globals (opened_by behind.headings)
  counts = border_counts names types named front (own ++ rest) is behind border

  far_counts : known_in far ≡ declared_globals (after file_scope (marks_of front))
  far_counts = front_counts names types named front (own ++ rest) is border.passes.names

  -- ---- names

  marks : marks_of (front ++ own) ≡ marks_of front ++ placed_marks f (marks_of raw.items)
  marks = names.marks_in_turn front own ∙ ap (λ them. marks_of front ++ them) (names.marks_move f raw.items)

  pub names_far : PassesBehind (opened_by behind.headings) (marks_of raw.items) → PassesBehind file_scope (marks_of (front ++ own))
  names_far passes =
      subst (PassesBehind file_scope) (sym marks)
      ((names.passing_in_turn file_scope (marks_of front) (placed_marks f (marks_of raw.items))).1 (
        border.passes.names,
        (names.passing_agrees f (renumber front) (opened_by behind.headings) (after file_scope (marks_of front)) scopes (marks_of raw.items)).1 passes,
      ))

  pub names_near : PassesBehind file_scope (marks_of (front ++ own)) → PassesBehind (opened_by behind.headings) (marks_of raw.items)
  names_near passes =
      (names.passing_agrees f (renumber front) (opened_by behind.headings) (after file_scope (marks_of front)) scopes (marks_of raw.items)).0
      ((names.passing_in_turn file_scope (marks_of front) (placed_marks f (marks_of raw.items))).0 (subst (PassesBehind file_scope) marks passes)).1

  -- ---- what is known behind the file

  order : order_of (front ++ own) ≡ order_of front ++ order_of raw.items
  order = map-append kind_of_item front own ∙ ap (λ them. order_of front ++ them) (same_order f raw.items)

  behind_both : after_items named (order_of (front ++ own)) fresh ≡ and_then (after_items named (order_of front) fresh) (after_items named (order_of raw.items))
  behind_both = ap (λ items. after_items named items fresh) order ∙ types.follow named (order_of front) (order_of raw.items) fresh

  pub failures_both : (after_items named (order_of (front ++ own)) fresh).failures
      ≡ (after_items named (order_of front) fresh).failures ++ far_after.failures
  failures_both = ap (λ (it : Declaring). it.failures) behind_both

  pub known_both : known_behind_items named (front ++ own) ≡ far_after.env
  known_both = ap (λ (it : Declaring). it.env) behind_both

  module _ (passes : PassesBehind (opened_by behind.headings) (marks_of raw.items)) where
    pub file : NamedAmong (changed f front) (opened_by behind.headings) front raw.items rest
    file = names.file_named (changed f front) (opened_by behind.headings) front raw.items rest scopes passes

    near_next : ComeNext near (named_in behind raw) (along structs_of (opened_by behind.headings) raw.items)
        (along constants_of (opened_by behind.headings) raw.items) (along units_of (opened_by behind.headings) raw.items)
    near_next =
        let blank = names.blanks behind.headings in record {
          structs = record {
            before = blanks blank_struct behind.headings;
            rest = [];
            there = ap (λ them. blanks blank_struct behind.headings ++ them) (sym (append-nil (along structs_of (opened_by behind.headings) raw.items)));
            is_at = blank.structs ∙ ap (λ known. known.structs) (sym counts);
          };
          constants = record {
            before = blanks blank_constant behind.headings;
            rest = [];
            there =
                ap (λ them. blanks blank_constant behind.headings ++ them) (sym (append-nil (along constants_of (opened_by behind.headings) raw.items)));
            is_at = blank.constants ∙ ap (λ known. known.constants) (sym counts);
          };
          units = record {
            before = blanks blank_unit behind.headings;
            rest = [];
            there = ap (λ them. blanks blank_unit behind.headings ++ them) (sym (append-nil (along units_of (opened_by behind.headings) raw.items)));
            is_at = blank.units ∙ ap (λ known. known.units) (sym counts);
          };
        }

    far_next : ComeNext far named (map (renamed_struct (changed f front)) (along structs_of (opened_by behind.headings) raw.items))
        (map (renamed_constant (changed f front)) (along constants_of (opened_by behind.headings) raw.items))
        (map (renamed_unit (changed f front)) (along units_of (opened_by behind.headings) raw.items))
    far_next =
        let counted = names.counted file_scope front in record {
          structs = record {
            before = along structs_of file_scope front;
            rest = along structs_of (after file_scope (marks_of (front ++ own))) rest;
            there = is.structs ∙ file.structs;
            is_at =
                counted_none (length (along structs_of file_scope front)) (length far.structs)
                (ap (λ known. known.structs) far_counts ∙ counted.structs);
          };
          constants = record {
            before = along constants_of file_scope front;
            rest = along constants_of (after file_scope (marks_of (front ++ own))) rest;
            there = is.constants ∙ file.constants;
            is_at =
                counted_none (length (along constants_of file_scope front)) (length far.constants)
                (ap (λ known. known.constants) far_counts ∙ counted.constants);
          };
          units = record {
            before = along units_of file_scope front;
            rest = along units_of (after file_scope (marks_of (front ++ own))) rest;
            there = is.units ∙ file.units;
            is_at =
                counted_none (length (along units_of file_scope front)) (length far.units)
                (ap (λ known. known.units) far_counts ∙ counted.units);
          };
        }

    in_place : in_turn (map (item_step (named_in behind raw)) (order_of raw.items)) (known_in near)
        ≡ Some (counts_behind (known_in near) (along structs_of (opened_by behind.headings) raw.items)
        (along constants_of (opened_by behind.headings) raw.items) (along units_of (opened_by behind.headings) raw.items))
    in_place =
        ap (in_turn (map (item_step (named_in behind raw)) (order_of raw.items))) counts
        ∙ items_placed names types behind.headings front raw.items raw.bytes border.declare passes [] raw.items [] (sym (append-nil raw.items))
        ∙ ap
        (λ known.
        Some (counts_behind known (along structs_of (opened_by behind.headings) raw.items) (along constants_of (opened_by behind.headings) raw.items)
        (along units_of (opened_by behind.headings) raw.items)))
        (sym counts)

    -- the file is judged alike behind faces and among all
    pub alike : ItemsAlike (changed f front) near far near_after far_after
    alike =
        types.agree (changed f front) near far (named_in behind raw) named (order_of raw.items) (along structs_of (opened_by behind.headings) raw.items)
        (along constants_of (opened_by behind.headings) raw.items) (along units_of (opened_by behind.headings) raw.items) (border.agree f) near_next far_next
        in_place

    pub own_are : own_units behind raw ≡ alike.units
    own_are = ap (drop (length behind.units)) alike.near_units ∙ drop-append_seam behind.units alike.units

    pub far_units : (known_behind_items named (front ++ own)).units ≡ far.units ++ placed_units f (own_units behind raw)
    far_units =
        ap (λ (env : Environment). env.units) known_both ∙ alike.far_units ∙ ap (λ units. far.units ++ placed_units f units) (sym own_are)

    -- the units of the items by their names
    pub named_units : along units_of file_scope (front ++ own)
        ≡ along units_of file_scope front ++ map (renamed_unit (changed f front)) (along units_of (opened_by behind.headings) raw.items)
    named_units =
        let alone = names.file_named (changed f front) (opened_by behind.headings) front raw.items [] scopes passes in
        ap (λ items. along units_of file_scope (front ++ items)) (sym (append-nil own))
        ∙ alone.units
        ∙ ap (λ them. along units_of file_scope front ++ them)
        (append-nil (map (renamed_unit (changed f front)) (along units_of (opened_by behind.headings) raw.items)))

  -- ---- a file that passes

  pub front_passes : UnitLaws → (g : Place → Place) → BringsBack g f → (last : Bool) → NearPasses behind last raw → FrontPasses named (front ++ own)
  front_passes laws g back last near_passes =
      let same = alike near_passes.names in record {
        names = names_far near_passes.names;
        none =
            ap (λ (it : Declaring). it.failures) behind_both
            ∙ both_nothing (after_items named (order_of front) fresh).failures far_after.failures border.passes.none
            (same.failures ∙ ap (placed_failures f) near_passes.none);
        units = subst UnitsPass (sym (far_units near_passes.names))
            (units_both far.units (placed_units f (own_units behind raw)) border.passes.units
            ((laws.units f (own_units behind raw)).1 near_passes.units));
        graphs = subst GraphsPass (sym (far_units near_passes.names))
            (graphs_both far.units (placed_units f (own_units behind raw)) border.passes.graphs
            ((laws.graphs f g back (own_units behind raw)).1 near_passes.graphs));
      }
