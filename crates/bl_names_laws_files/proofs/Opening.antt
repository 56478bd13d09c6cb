-- Headings that declare the names of items open a scope that corresponds to that behind the items.
use Rattle.std.proofs.Common.{◌≡◌, ℕ, ◌+◌, List, [], ◌∷◌, ◌++◌, length, map, refl, sym, ap, ap₂, subst, ◌∙◌, arith}
use Rattle.std.proofs.lemmas.List.{map-append}
use Rattle.std.specs.Prelude.{Option, Some, None}
use Rattle.bl_tree.proofs.Basics.{none_plus, plus_none}
use Rattle.bl_tree.specs.declared.place.Place.{Place}
use Rattle.bl_tree.specs.declared.tree.UnitKind.{UnitKind}
use Rattle.bl_tree.specs.declared.tree.UnitKind.TheVariants as unit
use Rattle.bl_joined.specs.Trees.{placed_item}
use Rattle.bl_names.proofs.PastLemmas.{more}
use Rattle.bl_names.proofs.StillLemmas.{after-append}
use Rattle.bl_names.specs.Named.{blank_constant, blank_struct, blank_unit, blanks}
use Rattle.bl_names_scopes.specs.declared.heading.Heading.{Heading}
use Rattle.bl_names_scopes.specs.declared.kind.Kind.{Kind}
use Rattle.bl_names_scopes.specs.declared.kind.Kind.TheVariants as kind
use Rattle.bl_names_scopes.specs.declared.scopes.Counts.{Counts}
use Rattle.bl_names_scopes.specs.declared.scopes.Declaration.{Declaration}
use Rattle.bl_names_scopes.specs.Marks.{declares, item_marks, kind_of_unit, marks_of}
use Rattle.bl_names_scopes.specs.Scopes.{Declared, Scopes, after, declaration_of, declared, enter, file_scope, found, heading_mark}
use Rattle.bl_names_scopes_laws_places.specs.Agree.{SameAround, SameDeclaration, SameScope, ScopesAgree, other_position}
use Rattle.bl_names_scopes_laws_places.proofs.Agreeing.{SameFound, found_agrees}
use Rattle.bl_parse_tree.specs.declared.item.RawItem.{RawItem}
use Rattle.bl_parse_tree.specs.declared.item.RawItem.TheVariants as item
use Rattle.bl_parse_tree.specs.declared.name.Name.{Name}
use Rattle.bl_names_laws_files.specs.Globals.{DeclareItems, declared_constants, headings_of, item_heading, name_and_kind, own_position, renumber}
use Rattle.bl_names_laws_files.specs.Globals.{renumber_behind}
use Rattle.bl_names_laws_files.specs.Laws.{BlanksAreCounted, DeclaredInTurn, DeclaredPlaced, HeadingsOpen}
use Rattle.bl_names_laws_files.proofs.Counting.{behind_inside, constant_behind, constants_behind, inside_moves, struct_behind, unit_behind}
use Rattle.bl_names_laws_files.proofs.Positions.{constants_entered, declares_first, renumber_next}

-- ---- what headings declare

pub declared_in_turn : DeclaredInTurn
declared_in_turn one two first second same also =
    map-append name_and_kind one two
    ∙ ap₂ (λ xs ys. xs ++ ys) same also
    ∙ sym (map-append name_and_kind (headings_of first) (headings_of second))
    ∙ ap (map name_and_kind) (sym (map-append item_heading first second))

placed_heading : (f : Place → Place) (one : RawItem) → name_and_kind (item_heading (placed_item f one)) ≡ name_and_kind (item_heading one)
placed_heading f (item.Struct def) = refl
placed_heading f (item.Constant constant) = refl
placed_heading f (item.Unit def) = refl

placed_headings : (f : Place → Place) (items : List RawItem) →
    map name_and_kind (headings_of items) ≡ map name_and_kind (headings_of (map (placed_item f) items))
placed_headings f [] = refl
placed_headings f (one ∷ items) = ap₂ (λ x xs. x ∷ xs) (sym (placed_heading f one)) (placed_headings f items)

pub declared_placed : DeclaredPlaced
declared_placed f headings items same = same ∙ placed_headings f items

-- ---- blank items

-- what stands for one heading is counted where the heading is
structs_entered : (of : Kind) (name : Name) (scopes : Scopes) →
    (enter scopes (declares name of)).counts.structs ≡ scopes.counts.structs + length (blank_struct of name)
structs_entered kind.Struct name scopes = refl
structs_entered kind.Constant name scopes = plus_none scopes.counts.structs
structs_entered kind.Variable name scopes = plus_none scopes.counts.structs
structs_entered kind.Function name scopes = plus_none scopes.counts.structs
structs_entered kind.Activity name scopes = plus_none scopes.counts.structs
structs_entered kind.Field name scopes = plus_none scopes.counts.structs

constants_counted : (of : Kind) (name : Name) (scopes : Scopes) →
    (enter scopes (declares name of)).counts.constants ≡ scopes.counts.constants + length (blank_constant of name)
constants_counted kind.Struct name scopes = plus_none scopes.counts.constants
constants_counted kind.Constant name scopes = refl
constants_counted kind.Variable name scopes = plus_none scopes.counts.constants
constants_counted kind.Function name scopes = plus_none scopes.counts.constants
constants_counted kind.Activity name scopes = plus_none scopes.counts.constants
constants_counted kind.Field name scopes = plus_none scopes.counts.constants

units_entered : (of : Kind) (name : Name) (scopes : Scopes) →
    (enter scopes (declares name of)).counts.units ≡ scopes.counts.units + length (blank_unit of name)
units_entered kind.Struct name scopes = plus_none scopes.counts.units
units_entered kind.Constant name scopes = plus_none scopes.counts.units
units_entered kind.Variable name scopes = plus_none scopes.counts.units
units_entered kind.Function name scopes = refl
units_entered kind.Activity name scopes = refl
units_entered kind.Field name scopes = plus_none scopes.counts.units

module _ {A : Type 0} (blank : Kind → Name → List A) (count : Counts → ℕ)
    (one : (of : Kind) (name : Name) (scopes : Scopes) →
    count (enter scopes (declares name of)).counts ≡ count scopes.counts + length (blank of name)) where
  blanks_behind : (headings : List Heading) (scopes : Scopes) →
      count (after scopes (map heading_mark headings)).counts ≡ count scopes.counts + length (blanks blank headings)
  blanks_behind [] scopes = plus_none (count scopes.counts)
  blanks_behind (heading ∷ headings) scopes =
      let new = enter scopes (heading_mark heading) in
      more (blank heading.kind heading.name) (blanks blank headings) (count scopes.counts) (count new.counts)
      (count (after new (map heading_mark headings)).counts) (one heading.kind heading.name scopes) (blanks_behind headings new)

  blanks_opened : (headings : List Heading) → count file_scope.counts ≡ 0 →
      length (blanks blank headings) ≡ count (after file_scope (map heading_mark headings)).counts
  blanks_opened headings none =
      sym (blanks_behind headings file_scope ∙ ap (λ n. n + length (blanks blank headings)) none ∙ none_plus (length (blanks blank headings)))

pub blanks_are_counted : BlanksAreCounted
blanks_are_counted headings = record {
  structs = blanks_opened blank_struct (λ (c : Counts). c.structs) structs_entered headings refl;
  constants = blanks_opened blank_constant (λ (c : Counts). c.constants) constants_counted headings refl;
  units = blanks_opened blank_unit (λ (c : Counts). c.units) units_entered headings refl;
}

-- ---- scopes that correspond, between items

module _ (renumbered : ℕ → ℕ) where
  -- the one scope of a file that is open, and one that corresponds to it
  record Alike (near far : Scopes) : Type 0 where
    inner : SameScope renumbered near.inner far.inner
    near_alone : near.outer ≡ []
    far_alone : far.outer ≡ []
    structs : far.counts.structs ≡ near.counts.structs
    units : far.counts.units ≡ near.counts.units
    near_variables : near.counts.variables ≡ 0
    far_variables : far.counts.variables ≡ 0

  -- constants have other positions, as those of the items that come
  abbrev Positions : List RawItem → Scopes → Scopes → Type 0
  Positions rest near far = (k : ℕ) → renumbered (near.counts.constants + k) ≡ renumber_behind far.counts.constants rest k

  pushed : (one other : Declared) (name text : List ℕ) (d e : Declaration) → text ≡ name → SameScope renumbered one other →
      SameDeclaration renumbered d e → SameScope renumbered (one ++ (name, d) ∷ []) (other ++ (text, e) ∷ [])
  pushed [] [] name text d e is same alike = (is, (alike, tt))
  pushed [] (second ∷ other) name text d e is same alike = absurd same
  pushed (first ∷ one) [] name text d e is same alike = absurd same
  pushed (first ∷ one) (second ∷ other) name text d e is same alike =
      (same.0, (same.1.0, pushed one other name text d e is same.1.1 alike))

  declared_alike : (a b : Option Declaration) (one other : Declared) (name own : Name) (of : Kind) (k m : ℕ) → own.text ≡ name.text →
      SameFound renumbered a b → SameScope renumbered one other → m ≡ other_position renumbered of k →
      SameScope renumbered (declared a one name of k) (declared b other own of m)
  declared_alike None None one other name own of k m is found_so same at =
      pushed one other name.text own.text (declaration_of name of k) (declaration_of own of m) is same (record { kind = refl; position = at })
  declared_alike None (Some e) one other name own of k m is found_so same at = absurd found_so
  declared_alike (Some d) None one other name own of k m is found_so same at = absurd found_so
  declared_alike (Some d) (Some e) one other name own of k m is found_so same at = same

  found_alike : (one other : Declared) (name text : List ℕ) → text ≡ name → SameScope renumbered one other →
      SameFound renumbered (found one name) (found other text)
  found_alike one other name text is same =
      subst (λ t. SameFound renumbered (found one name) (found other t)) (sym is) (found_agrees renumbered name one other same)

  -- a name is declared in both scopes
  name_alike : (near far : Scopes) → Alike near far → (name own : Name) → own.text ≡ name.text → (of : Kind) (k m : ℕ) →
      m ≡ other_position renumbered of k →
      SameScope renumbered (declared (found near.inner name.text) near.inner name of k) (declared (found far.inner own.text) far.inner own of m)
  name_alike near far alike name own is of k m at =
      declared_alike (found near.inner name.text) (found far.inner own.text) near.inner far.inner name own of k m is
      (found_alike near.inner far.inner name.text own.text is alike.inner) alike.inner at

  struct_alike : (near far : Scopes) → Alike near far → (name own : Name) → own.text ≡ name.text →
      Alike (enter near (declares name kind.Struct)) (enter far (declares own kind.Struct))
  struct_alike near far alike name own is = record {
    inner = name_alike near far alike name own is kind.Struct near.counts.structs far.counts.structs alike.structs;
    near_alone = alike.near_alone;
    far_alone = alike.far_alone;
    structs = ap (λ n. n + 1) alike.structs;
    units = alike.units;
    near_variables = alike.near_variables;
    far_variables = alike.far_variables;
  }

  constant_alike : (near far : Scopes) → Alike near far → (name own : Name) → own.text ≡ name.text →
      far.counts.constants ≡ renumbered near.counts.constants →
      Alike (enter near (declares name kind.Constant)) (enter far (declares own kind.Constant))
  constant_alike near far alike name own is at = record {
    inner = name_alike near far alike name own is kind.Constant near.counts.constants far.counts.constants at;
    near_alone = alike.near_alone;
    far_alone = alike.far_alone;
    structs = alike.structs;
    units = alike.units;
    near_variables = alike.near_variables;
    far_variables = alike.far_variables;
  }

  -- a unit, where what stands in it was counted
  unit_alike : (near far : Scopes) → Alike near far → (name own : Name) → own.text ≡ name.text → (of : UnitKind) (counts : Counts) →
      counts.structs ≡ far.counts.structs → counts.units ≡ far.counts.units →
      Alike (enter near (declares name (kind_of_unit of))) (enter (record far { counts = counts }) (declares own (kind_of_unit of)))
  unit_alike near far alike name own is unit.Function counts structs units = record {
    inner = name_alike near far alike name own is kind.Function near.counts.units counts.units (units ∙ alike.units);
    near_alone = alike.near_alone;
    far_alone = alike.far_alone;
    structs = structs ∙ alike.structs;
    units = ap (λ n. n + 1) (units ∙ alike.units);
    near_variables = refl;
    far_variables = refl;
  }
  unit_alike near far alike name own is unit.Activity counts structs units = record {
    inner = name_alike near far alike name own is kind.Activity near.counts.units counts.units (units ∙ alike.units);
    near_alone = alike.near_alone;
    far_alone = alike.far_alone;
    structs = structs ∙ alike.structs;
    units = ap (λ n. n + 1) (units ∙ alike.units);
    near_variables = refl;
    far_variables = refl;
  }

  at_zero : (n : ℕ) → n + 0 ≡ n
  at_zero n = omega arith

  item_alike : (near far : Scopes) → Alike near far → (name : Name) (one : RawItem) (rest : List RawItem) → Positions (one ∷ rest) near far →
      name.text ≡ (item_heading one).name.text →
      Alike (enter near (declares name (item_heading one).kind)) (after far (item_marks one))
  item_alike near far alike name (item.Struct def) rest at is =
      subst (Alike (enter near (declares name kind.Struct))) (sym (struct_behind far def)) (struct_alike near far alike name def.name (sym is))
  item_alike near far alike name (item.Constant constant) rest at is =
      subst (Alike (enter near (declares name kind.Constant))) (sym (constant_behind far constant))
      (constant_alike near far alike name constant.name (sym is)
      (sym (at 0) ∙ ap renumbered (at_zero near.counts.constants)))
  item_alike near far alike name (item.Unit def) rest at is =
      let moves = inside_moves def _ in
      subst (Alike (enter near (declares name (kind_of_unit def.kind)))) (sym (unit_behind far def))
      (unit_alike near far alike name def.name (sym is) def.kind (behind_inside far def).counts moves.structs moves.units)

  sums_to : (n p q k : ℕ) → p ≡ n + q → p + k ≡ n + (q + k)
  sums_to n p q k is = omega arith

  positions_next : (near far new last : Scopes) (one : RawItem) (rest : List RawItem) →
      new.counts.constants ≡ near.counts.constants + length (own_position far.counts.constants one) →
      last.counts.constants ≡ far.counts.constants + declared_constants (item_marks one) →
      Positions (one ∷ rest) near far → Positions rest new last
  positions_next near far new last one rest own all at k =
      let long = length (own_position far.counts.constants one) in
      ap renumbered (sums_to near.counts.constants new.counts.constants long k own)
      ∙ at (long + k)
      ∙ renumber_next far.counts.constants one rest k
      ∙ ap (λ n. renumber_behind n rest k) (sym all)

  -- behind all items and their headings
  record Ends (near far : Scopes) : Type 0 where
    alike : Alike near far
    at : Positions [] near far

  walk : (items : List RawItem) (headings : List Heading) (near far : Scopes) → DeclareItems headings items → Alike near far →
      Positions items near far → Ends (after near (map heading_mark headings)) (after far (marks_of items))
  walk [] [] near far same alike at = record { alike = alike; at = at }
  walk [] (heading ∷ headings) near far same alike at = absurd cc
  walk (one ∷ items) [] near far same alike at = absurd cc
  walk (one ∷ items) (heading ∷ headings) near far same alike at =
      let first = declares_first heading headings one items same in
      let new = enter near (heading_mark heading) in
      let last = after far (item_marks one) in
      subst (Ends (after new (map heading_mark headings))) (sym (after-append far (item_marks one) (marks_of items)))
      (walk items headings new last first.rest
      (subst (λ of. Alike (enter near (declares heading.name of)) last) (sym first.of)
      (item_alike near far alike heading.name one items at first.text))
      (positions_next near far new last one items
      (ap (λ of. (enter near (declares heading.name of)).counts.constants) first.of
      ∙ constants_entered near heading.name far.counts.constants one) (constants_behind (item_marks one) far) at))

  none_around : (one other : List Declared) → one ≡ [] → other ≡ [] → SameAround renumbered one other
  none_around one other near far = subst (λ list. SameAround renumbered list other) (sym near) (subst (SameAround renumbered []) (sym far) tt)

  behind_last : (c k : ℕ) → renumber_behind c [] k ≡ c + k
  behind_last c k = omega arith

  agree : (near far : Scopes) → Ends near far → ScopesAgree renumbered near far
  agree near far ends = record {
    inner = ends.alike.inner;
    outer = none_around near.outer far.outer ends.alike.near_alone ends.alike.far_alone;
    structs = ends.alike.structs;
    units = ends.alike.units;
    variables = ends.alike.far_variables ∙ sym ends.alike.near_variables;
    constants = λ k. ends.at k ∙ behind_last far.counts.constants k;
  }

pub headings_open : HeadingsOpen
headings_open items headings same =
    agree (renumber items) (after file_scope (map heading_mark headings)) (after file_scope (marks_of items))
    (walk (renumber items) items headings file_scope file_scope same
    (record {
      inner = tt;
      near_alone = refl;
      far_alone = refl;
      structs = refl;
      units = refl;
      near_variables = refl;
      far_variables = refl;
    }) (λ k. ap (renumber items) (none_plus k)))
