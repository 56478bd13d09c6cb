-- Files that pass together are good one behind another.
use Rattle.std.proofs.Common.{◌≡◌, ◌∙◌, Bool, true, false, not, ◌||◌, List, [], ◌∷◌, ◌++◌, length, map, refl, sym, ap, subst}
use Rattle.std.proofs.lemmas.List.{append_assoc, map-append}
use Rattle.std.proofs.lemmas.List.Elements.{Contains-append_left, Contains-append_right}
use Rattle.std.specs.Prelude.{Contains}
use Rattle.std.specs.List.{list_any}
use Rattle.bl_tree.proofs.Basics.{neither_first, neither_second}
use Rattle.bl_cause_trees.specs.Rules.{Passes as GraphsPass}
use Rattle.bl_cause_trees.specs.Peeled.{ArePeeled}
use Rattle.bl_effects.specs.Rules.{Passes as UnitsPass}
use Rattle.bl_joined.specs.Trees.{placed_item}
use Rattle.bl_limits.specs.Rules.{NestingPasses}
use Rattle.bl_module.specs.Rules.{TreePasses as TreePassesBehind, is_marked, known_at, known_in as known_in_tree, named_in, own_units}
use Rattle.bl_module.specs.declared.behind.Behind.{Behind}
use Rattle.bl_names.specs.Named.{along, units_of}
use Rattle.bl_names.specs.Order.{kind_of_item, order_of}
use Rattle.bl_names_laws_files.specs.Laws.{declared_globals_with}
use Rattle.bl_names_scopes.specs.Marks.{item_marks, marks_of}
use Rattle.bl_names_scopes.specs.Rules.{PassesBehind as NamesPass}
use Rattle.bl_names_scopes.specs.Scopes.{Scopes, after, file_scope, opened_by}
use Rattle.bl_names_tree.specs.declared.named.Named.{Named}
use Rattle.bl_parse_tree.specs.declared.item.RawItem.{RawItem}
use Rattle.bl_parse_tree.specs.declared.item.RawItem.TheVariants.{Struct, Constant, Unit as UnitItem}
use Rattle.bl_parse_tree.specs.declared.raw.Raw.{Raw}
use Rattle.bl_tree.specs.declared.place.Place.{Place}
use Rattle.bl_tree.specs.declared.rule.Failure.{Failure}
use Rattle.bl_tree.specs.declared.tree.StructDef.{StructDef}
use Rattle.bl_tree.specs.declared.tree.Unit.{Unit as UnitDef}
use Rattle.bl_tree_laws_places.specs.Placed.{placed_structs, placed_units}
use Rattle.bl_types.specs.declared.environment.Environment.{Environment}
use Rattle.bl_types.specs.Declarations.{Declaring}
use Rattle.bl_types.specs.Programs.{after_items, fresh}
use Rattle.bl_types_laws_places.specs.Agree.{placed_failures, unplaced}
use Rattle.bl_types_laws_places_units.specs.Laws.{ItemsAlike, KnownAfter}
use Rattle.bl_module_laws.proofs.Borders.{Border, FrontPasses, IsNamedOf, changed, known_behind_items, rest_known}
use Rattle.bl_module_laws.proofs.Entries.{entries_stand, has_mark, nothing_left, nothing_right}
use Rattle.bl_module_laws.proofs.Nesting.{nesting_alike, nesting_among, peeled_there}
use Rattle.bl_module_laws.proofs.Parts.{NameLaws, TypeLaws, UnitLaws}
use Rattle.bl_module_laws.proofs.Passing.{ItemsPass, to_tree}
use Rattle.bl_module_laws.proofs.Steps.{NearPasses, alike, failures_both, far_units, known_both, names_near}
use Rattle.bl_module_laws.proofs.Units.{graphs_left, graphs_right, units_left, units_right}

-- ---- marks of raw items

-- units of items without marks have none
pub unmarked_named : (scopes : Scopes) (items : List RawItem) → list_any is_marked items ≡ false → list_any has_mark (along units_of scopes items) ≡ false
unmarked_named scopes [] none = refl
unmarked_named scopes (Struct def ∷ items) none = unmarked_named (after scopes (item_marks (Struct def))) items none
unmarked_named scopes (Constant constant ∷ items) none = unmarked_named (after scopes (item_marks (Constant constant))) items none
unmarked_named scopes (UnitItem unit ∷ items) none =
    ap (λ mark. mark || list_any has_mark (along units_of (after scopes (item_marks (UnitItem unit))) items))
    (neither_first unit.entry (list_any is_marked items) none)
    ∙ unmarked_named (after scopes (item_marks (UnitItem unit))) items (neither_second unit.entry (list_any is_marked items) none)

-- ---- lists that are mapped to nothing

none_placed : (f : Place → Place) (failures : List Failure) → placed_failures f failures ≡ [] → failures ≡ []
none_placed f [] is = refl
none_placed f (failure ∷ rest) is = absurd (cc)

bare_structs : (f : Place → Place) (structs : List StructDef) → placed_structs unplaced (placed_structs f structs) ≡ placed_structs unplaced structs
bare_structs f [] = refl
bare_structs f (def ∷ structs) = ap (λ them. record { name = def.name; place = unplaced def.place; fields = def.fields } ∷ them) (bare_structs f structs)

-- what passes of all items: rules by units, and the nesting of types on peeled units
pub record WholePasses (named : Named) (all : List RawItem) : Type 0 where
  pub items : ItemsPass named all
  pub peeled_units : List UnitDef
  pub are : ArePeeled (known_behind_items named all).units peeled_units
  pub nesting : NestingPasses 0 (known_behind_items named all).structs peeled_units

module _ (names : NameLaws) (types : TypeLaws) (laws : UnitLaws) (named : Named) (front : List RawItem) (f : Place → Place) (raw : Raw)
    (rest : List RawItem) (is : IsNamedOf named (front ++ (map (placed_item f) raw.items ++ rest))) (behind : Behind)
    (border : Border named front behind) (whole : WholePasses named (front ++ (map (placed_item f) raw.items ++ rest))) where
  abbrev own : List RawItem
  own = map (placed_item f) raw.items

  abbrev all : List RawItem
  all = (front ++ own) ++ rest

  same : front ++ (own ++ rest) ≡ all
  same = sym (append_assoc front own rest)

  is_all : IsNamedOf named all
  is_all = subst (IsNamedOf named) same is

  all_passes : FrontPasses named all
  all_passes = subst (FrontPasses named) same whole.items.front

  abbrev near : Environment
  near = known_at behind

  abbrev far : Environment
  far = known_behind_items named front

  pub names_here : NamesPass (opened_by behind.headings) (marks_of raw.items)
  names_here =
      names_near names types named front f raw rest is behind border
      ((names.passing_in_turn file_scope (marks_of (front ++ own)) (marks_of rest)).0
      (subst (NamesPass file_scope) (names.marks_in_turn (front ++ own) rest) all_passes.names)).0

  A : ItemsAlike (changed f front) near far (after_items (named_in behind raw) (order_of raw.items) near) (after_items named (order_of raw.items) far)
  A = alike names types named front f raw rest is behind border names_here

  -- what is known behind all items extends what is known behind these
  grown : KnownAfter (known_behind_items named (front ++ own)) (known_behind_items named all)
      (declared_globals_with (after file_scope (marks_of (front ++ own))) rest)
  grown = rest_known names types named (front ++ own) rest is_all all_passes.names

  none_front : (after_items named (order_of (front ++ own)) fresh).failures ≡ []
  none_front =
      nothing_left (after_items named (order_of (front ++ own)) fresh).failures
      (after_items named (order_of rest) (known_behind_items named (front ++ own))).failures
      (sym (ap (λ (it : Declaring). it.failures)
      (ap (λ items. after_items named items fresh) (map-append kind_of_item (front ++ own) rest)
      ∙ types.follow named (order_of (front ++ own)) (order_of rest) fresh))
      ∙ all_passes.none)

  none_near : (after_items (named_in behind raw) (order_of raw.items) near).failures ≡ []
  none_near =
      none_placed f (after_items (named_in behind raw) (order_of raw.items) near).failures
      (sym A.failures
      ∙ nothing_right (after_items named (order_of front) fresh).failures (after_items named (order_of raw.items) far).failures
      (sym (failures_both names types named front f raw rest is behind border) ∙ none_front))

  units_are : (known_behind_items named all).units ≡ (far.units ++ placed_units f (own_units behind raw)) ++ grown.units
  units_are = grown.has_units ∙ ap (λ them. them ++ grown.units) (far_units names types named front f raw rest is behind border names_here)

  units_near : UnitsPass (own_units behind raw)
  units_near =
      (laws.units f (own_units behind raw)).0
      (units_right far.units (placed_units f (own_units behind raw))
      (units_left (far.units ++ placed_units f (own_units behind raw)) grown.units (subst UnitsPass units_are all_passes.units)))

  graphs_near : (g : Place → Place) → ((place : Place) → g (f place) ≡ place) → GraphsPass (own_units behind raw)
  graphs_near g back =
      (laws.graphs f g back (own_units behind raw)).0
      (graphs_right far.units (placed_units f (own_units behind raw))
      (graphs_left (far.units ++ placed_units f (own_units behind raw)) grown.units (subst GraphsPass units_are all_passes.graphs)))

  -- ---- nesting

  abbrev structs : List StructDef
  structs = (known_behind_items named (front ++ own)).structs

  -- a unit of the file has a peeled unit with its variables
  peeled_of_own : (unit : UnitDef) → Contains (placed_units f (own_units behind raw)) unit →
      (peeled_unit : UnitDef) × Contains whole.peeled_units peeled_unit × (peeled_unit.vars ≡ unit.vars)
  peeled_of_own unit there =
      peeled_there (known_behind_items named (front ++ (own ++ rest))).units whole.peeled_units whole.are unit
      (subst (λ units. Contains units unit) (sym (ap (λ items. (known_behind_items named items).units) same ∙ units_are))
      (Contains-append_left (far.units ++ placed_units f (own_units behind raw)) grown.units unit
      (Contains-append_right far.units (placed_units f (own_units behind raw)) unit there)))

  nesting_far : NestingPasses (length behind.structs) structs (placed_units f (own_units behind raw))
  nesting_far =
      nesting_among structs grown.structs (length behind.structs) (placed_units f (own_units behind raw)) whole.peeled_units peeled_of_own
      (subst (λ them. NestingPasses 0 them whole.peeled_units)
      (ap (λ items. (known_behind_items named items).structs) same ∙ grown.has_structs) whole.nesting)

  nesting_near : NestingPasses (length behind.structs) (known_in_tree behind raw).structs (own_units behind raw)
  nesting_near =
      (laws.nesting f (length behind.structs) (known_in_tree behind raw).structs (own_units behind raw)).0
      (nesting_alike laws.nesting unplaced (length behind.structs) (placed_structs f (known_in_tree behind raw).structs) structs
      (placed_units f (own_units behind raw))
      (ap (λ (env : Environment). placed_structs unplaced env.structs) (known_both names types named front f raw rest is behind border)
      ∙ A.agree.structs
      ∙ sym (bare_structs f (known_in_tree behind raw).structs))
      nesting_far)

  -- the file passes by itself where its marks do
  pub near_passes : (g : Place → Place) → ((place : Place) → g (f place) ≡ place) → (last : Bool) →
      entries_stand (not last) (along units_of (opened_by behind.headings) raw.items) ≡ true → NearPasses behind last raw
  near_passes g back last entry = record {
    names = names_here;
    none = none_near;
    entry = entry;
    units = units_near;
    graphs = graphs_near g back;
  }

  pub tree_passes : (g : Place → Place) → ((place : Place) → g (f place) ≡ place) → (last : Bool) →
      entries_stand (not last) (along units_of (opened_by behind.headings) raw.items) ≡ true → TreePassesBehind behind last raw
  tree_passes g back last entry = to_tree behind last raw (near_passes g back last entry) nesting_near
