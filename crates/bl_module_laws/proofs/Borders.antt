-- The border between files: what is known behind the items of the files before it, and behind their faces.
use Rattle.std.proofs.Common.{◌≡◌, ◌∙◌, ℕ, ◌+◌, ◌-◌, false, List, [], ◌∷◌, ◌++◌, length, map, refl, sym, ap, subst, inl, inr, arith}
use Rattle.std.proofs.lemmas.Bool.{cases_lt}
use Rattle.std.proofs.lemmas.List.{append-nil, length-map, map-append}
use Rattle.std.specs.List.{list_any}
use Rattle.bl_cause_trees.specs.Rules.{Passes as GraphsPass}
use Rattle.bl_effects.specs.Rules.{Passes as UnitsPass}
use Rattle.bl_module.specs.Rules.{known_at}
use Rattle.bl_module.specs.declared.behind.Behind.{Behind}
use Rattle.bl_names.specs.Named.{along, blank_unit, blanks, constants_of, structs_of, units_of}
use Rattle.bl_names.specs.Order.{kind_of_item, order_of}
use Rattle.bl_names_laws_files.specs.Globals.{DeclareItems, renumber}
use Rattle.bl_names_laws_files.specs.Laws.{ItemsStand, declared_globals, declared_globals_with}
use Rattle.bl_names_laws_places.specs.Renamed.{Renaming}
use Rattle.bl_names_scopes.specs.Marks.{marks_of}
use Rattle.bl_names_scopes.specs.Rules.{PassesBehind}
use Rattle.bl_names_scopes.specs.Scopes.{after, file_scope, opened_by}
use Rattle.bl_names_scopes.specs.declared.heading.Heading.{Heading}
use Rattle.bl_names_scopes.specs.declared.kind.Kind.{Kind}
use Rattle.bl_names_scopes.specs.declared.kind.Kind.TheVariants as kind
use Rattle.bl_names_scopes_laws_places.specs.Agree.{ScopesAgree}
use Rattle.bl_names_tree.specs.declared.named.Named.{Named}
use Rattle.bl_names_tree.specs.Placed.{in_turn, item_step}
use Rattle.bl_parse_tree.specs.declared.item.RawItem.{RawItem}
use Rattle.bl_parse_tree.specs.declared.name.Name.{Name}
use Rattle.bl_tree.specs.declared.place.Place.{Place}
use Rattle.bl_tree_laws_places.specs.Placed.{placed_struct}
use Rattle.bl_types.specs.declared.environment.Environment.{Environment}
use Rattle.bl_types.specs.Declarations.{Declaring}
use Rattle.bl_types.specs.Programs.{after_items, fresh}
use Rattle.bl_types_laws.specs.Within.{known_in}
use Rattle.bl_types_laws_places.specs.Agree.{EnvironmentsAgree, head_of_unit, unplaced}
use Rattle.bl_types_laws_places_units.specs.Laws.{KnownAfter}
use Rattle.bl_module_laws.proofs.Entries.{has_mark}
use Rattle.bl_module_laws.proofs.Parts.{NameLaws, TypeLaws}

-- the lists of a named program are those of the items
pub record IsNamedOf (named : Named) (items : List RawItem) : Type 0 where
  pub structs : named.structs ≡ along structs_of file_scope items
  pub constants : named.constants ≡ along constants_of file_scope items
  pub units : named.units ≡ along units_of file_scope items

-- what is known after the first items of a program
abbrev pub known_behind_items : Named → List RawItem → Environment
known_behind_items named items = (after_items named (order_of items) fresh).env

-- the names of the first items of a program pass, and no rule from Type to Cycle fails for them
pub record FrontPasses (named : Named) (front : List RawItem) : Type 0 where
  pub names : PassesBehind file_scope (marks_of front)
  pub none : (after_items named (order_of front) fresh).failures ≡ []
  pub units : UnitsPass (known_behind_items named front).units
  pub graphs : GraphsPass (known_behind_items named front).units

-- the positions of constants change as they are renumbered, and places by the map
abbrev pub changed : (Place → Place) → List RawItem → Renaming
changed f items = record { place = f; constant = renumber items }

-- behind the first items of a program the same is known as behind the faces of their files, and no unit has a mark
pub record Border (named : Named) (front : List RawItem) (behind : Behind) : Type 0 where
  pub passes : FrontPasses named front
  pub declare : DeclareItems behind.headings front
  pub agree : (f : Place → Place) → EnvironmentsAgree (changed f front) (known_at behind) (known_behind_items named front)
  pub unmarked : list_any has_mark (along units_of file_scope front) ≡ false

-- ---- counts

-- two counts from which on a function goes on alike are equal
same_count : (r : ℕ → ℕ) (a b c : ℕ) → ((j : ℕ) → r (a + j) ≡ c + j) → ((j : ℕ) → r (b + j) ≡ c + j) → a ≡ b
same_count r a b c first second = elim (cases_lt a b) [
  | inl less ↦
      let there : a + (b - a) ≡ b + 0 = omega (arith, less) in
      let one = first (b - a) in
      let two = second 0 in
      let same : c + (b - a) ≡ c + 0 = sym one ∙ ap r there ∙ two in
      absurd (omega (arith, less, same))
  | inr most ↦
      let there : b + (a - b) ≡ a + 0 = omega (arith, most) in
      let one = second (a - b) in
      let two = first 0 in
      let same : c + (a - b) ≡ c + 0 = sym one ∙ ap r there ∙ two in
      omega (arith, most, same)
]

pub unmarked_blanks : (headings : List Heading) → list_any has_mark (blanks blank_unit headings) ≡ false
unmarked_blanks [] = refl
unmarked_blanks (heading ∷ headings) = by_kind heading.name headings (unmarked_blanks headings) heading.kind
  where
    by_kind : (name : Name) (headings : List Heading) → list_any has_mark (blanks blank_unit headings) ≡ false → (of : Kind) →
        list_any has_mark (blank_unit of name ++ blanks blank_unit headings) ≡ false
    by_kind name headings rest kind.Function = rest
    by_kind name headings rest kind.Activity = rest
    by_kind name headings rest _ = rest

pub counted_none : (n k : ℕ) → k ≡ 0 + n → n ≡ k
counted_none n k is = omega (arith, is)

module _ (names : NameLaws) (types : TypeLaws) where
  module _ (named : Named) (front rest : List RawItem) (is : IsNamedOf named (front ++ rest)) (passes : PassesBehind file_scope (marks_of front)) where
    front_stands : ItemsStand named file_scope front
    front_stands =
        let both = names.given file_scope front rest in record {
          structs = record { before = []; rest = along structs_of (after file_scope (marks_of front)) rest; there = is.structs ∙ both.structs; is_at = refl };
          constants = record {
            before = [];
            rest = along constants_of (after file_scope (marks_of front)) rest;
            there = is.constants ∙ both.constants;
            is_at = refl;
          };
          units = record { before = []; rest = along units_of (after file_scope (marks_of front)) rest; there = is.units ∙ both.units; is_at = refl };
        }

    -- the first items of a program declare as much as is counted
    pub front_known : KnownAfter fresh (known_behind_items named front) (declared_globals_with file_scope front)
    front_known =
        types.known named (order_of front) fresh (declared_globals_with file_scope front) (names.placed [] [] [] front named refl passes front_stands)

    pub front_counts : known_in (known_behind_items named front) ≡ declared_globals (after file_scope (marks_of front))
    front_counts =
        let counted = names.counted file_scope front in
        front_known.counts_are
        ∙ (λ i. record { structs = sym counted.structs i; constants = sym counted.constants i; units = sym counted.units i; variables = 0 })

  module _ (named : Named) (front rest : List RawItem) (is : IsNamedOf named (front ++ rest))
      (passes : PassesBehind file_scope (marks_of (front ++ rest))) where
    front_alone : PassesBehind file_scope (marks_of front)
    front_alone =
        ((names.passing_in_turn file_scope (marks_of front) (marks_of rest)).0 (subst (PassesBehind file_scope) (names.marks_in_turn front rest) passes)).0

    rest_stands : ItemsStand named (after file_scope (marks_of front)) rest
    rest_stands =
        let both = names.given file_scope front rest in
        let counted = names.counted file_scope front in record {
          structs = record {
            before = along structs_of file_scope front;
            rest = [];
            there =
                is.structs ∙ both.structs
                ∙ ap (λ them. along structs_of file_scope front ++ them) (sym (append-nil (along structs_of (after file_scope (marks_of front)) rest)));
            is_at = counted_none (length (along structs_of file_scope front)) _ counted.structs;
          };
          constants = record {
            before = along constants_of file_scope front;
            rest = [];
            there =
                is.constants ∙ both.constants
                ∙ ap (λ them. along constants_of file_scope front ++ them) (sym (append-nil (along constants_of (after file_scope (marks_of front)) rest)));
            is_at = counted_none (length (along constants_of file_scope front)) _ counted.constants;
          };
          units = record {
            before = along units_of file_scope front;
            rest = [];
            there =
                is.units ∙ both.units
                ∙ ap (λ them. along units_of file_scope front ++ them) (sym (append-nil (along units_of (after file_scope (marks_of front)) rest)));
            is_at = counted_none (length (along units_of file_scope front)) _ counted.units;
          };
        }

    -- what is known behind all items extends what is known behind the first
    pub rest_known : KnownAfter (known_behind_items named front) (known_behind_items named (front ++ rest))
        (declared_globals_with (after file_scope (marks_of front)) rest)
    rest_known =
        subst
        (λ env. KnownAfter (known_behind_items named front) env (declared_globals_with (after file_scope (marks_of front)) rest))
        (sym (ap (λ (it : Declaring). it.env)
        (ap (λ items. after_items named items fresh) (map-append kind_of_item front rest) ∙ types.follow named (order_of front) (order_of rest) fresh)))
        (types.known named (order_of rest) (known_behind_items named front) (declared_globals_with (after file_scope (marks_of front)) rest)
        (ap (in_turn (map (item_step named) (order_of rest))) (front_counts named front rest is front_alone)
        ∙ names.placed [] [] front rest named refl passes rest_stands))

  module _ (named : Named) (front rest : List RawItem) (is : IsNamedOf named (front ++ rest)) (behind : Behind) (border : Border named front behind) where
    abbrev far : Environment
    far = known_behind_items named front

    far_counts : known_in far ≡ declared_globals (after file_scope (marks_of front))
    far_counts = front_counts named front rest is border.passes.names

    -- the scopes behind faces and behind items correspond
    pub border_scopes : ScopesAgree (renumber front) (opened_by behind.headings) (after file_scope (marks_of front))
    border_scopes = names.headings_open front behind.headings border.declare

    structs_counted : length behind.structs ≡ (opened_by behind.headings).counts.structs
    structs_counted =
        sym (length-map behind.structs (placed_struct unplaced))
        ∙ ap length (sym (border.agree (λ place. place)).structs)
        ∙ length-map far.structs (placed_struct unplaced)
        ∙ ap (λ counts. counts.structs) far_counts
        ∙ border_scopes.structs

    units_counted : length behind.units ≡ (opened_by behind.headings).counts.units
    units_counted =
        sym (length-map behind.units head_of_unit)
        ∙ ap length (sym (border.agree (λ place. place)).units)
        ∙ length-map far.units head_of_unit
        ∙ ap (λ counts. counts.units) far_counts
        ∙ border_scopes.units

    far_constants : length far.constants ≡ (after file_scope (marks_of front)).counts.constants
    far_constants = ap (λ counts. counts.constants) far_counts

    pub constants_counted : length behind.constants ≡ (opened_by behind.headings).counts.constants
    constants_counted =
        same_count (renumber front) (length behind.constants) (opened_by behind.headings).counts.constants (length far.constants)
        (border.agree (λ place. place)).next
        (λ j. border_scopes.constants j ∙ ap (λ n. n + j) (sym far_constants))

    -- as much is known behind faces as their names are
    pub border_counts : known_in (known_at behind) ≡ declared_globals (opened_by behind.headings)
    border_counts = λ i. record { structs = structs_counted i; constants = constants_counted i; units = units_counted i; variables = 0 }
