-- The constants of a file that stand in no body, among all that are known at its end.
use Rattle.std.proofs.Common.{◌≡◌, ◌∙◌, ℕ, ◌+◌, List, [], ◌∷◌, ◌++◌, length, map, Some, refl, sym, ap, subst, arith}
use Rattle.std.proofs.lemmas.List.{append-nil, append_assoc, length-append}
use Rattle.std.specs.List.{cons_option}
use Rattle.std.specs.Prelude.{slice_get, ⊤}
use Rattle.bl_tree.proofs.Basics.{get_behind, get_in_front}
use Rattle.bl_names.specs.Named.{along, blank_constant, blank_struct, blank_unit, blanks, constants_of, named_behind, structs_of, units_of}
use Rattle.bl_names.specs.Order.{kind_of_item, order_of}
use Rattle.bl_names_laws_files.specs.Globals.{DeclareItems, declared_constants, global_positions, own_position}
use Rattle.bl_names_laws_files.specs.Laws.{ItemsStand, declared_globals, declared_globals_with}
use Rattle.bl_names_scopes.specs.Marks.{item_marks, marks_of}
use Rattle.bl_names_scopes.specs.Rules.{PassesBehind}
use Rattle.bl_names_scopes.specs.Scopes.{Scopes, after, opened_by}
use Rattle.bl_names_scopes.specs.declared.heading.Heading.{Heading}
use Rattle.bl_names_tree.specs.declared.named.Named.{Named}
use Rattle.bl_names_tree.specs.Placed.{in_turn, item_step}
use Rattle.bl_parse_tree.specs.declared.item.RawItem.{RawItem}
use Rattle.bl_parse_tree.specs.declared.item.RawItem.TheVariants.{Struct, Constant as ConstantItem, Unit as UnitItem}
use Rattle.bl_types.specs.declared.environment.Constant.{Constant}
use Rattle.bl_types.specs.declared.environment.Environment.{Environment}
use Rattle.bl_types.specs.Programs.{after_item, after_items, global_at, globals_of}
use Rattle.bl_types_laws.specs.Within.{known_in}
use Rattle.bl_types_laws_places_units.specs.Laws.{KnownAfter}
use Rattle.bl_module_laws.proofs.Parts.{NameLaws, TypeLaws}

-- what a list has at positions
abbrev pub HasAt : List Constant → List ℕ → List Constant → Type 0
HasAt all [] [] = ⊤
HasAt all [] (x ∷ xs) = ⊥
HasAt all (k ∷ ks) [] = ⊥
HasAt all (k ∷ ks) (x ∷ xs) = (slice_get all k ≡ Some x) × HasAt all ks xs

one_element : (xs : List Constant) → length xs ≡ 1 → (x : Constant) × (xs ≡ x ∷ [])
one_element [] is = absurd (omega (arith, is))
one_element (x ∷ []) is = (x, refl)
one_element (x ∷ (y ∷ xs)) is = absurd (omega (arith, is))

module _ (names : NameLaws) (types : TypeLaws) where
  module _ (headings : List Heading) (known own : List RawItem) (bytes : ℕ) (declare : DeclareItems headings known)
      (passes : PassesBehind (opened_by headings) (marks_of own)) where
    abbrev N : Named
    N = named_behind headings own bytes

    abbrev S : List RawItem → Scopes
    S before = after (opened_by headings) (marks_of before)

    -- what the rest of the items give comes next
    items_stand : (before items rest : List RawItem) → own ≡ before ++ (items ++ rest) → ItemsStand N (S before) items
    items_stand before items rest is =
        let blank = names.blanks headings in
        let counted = names.counted (opened_by headings) before in
        let first = names.given (opened_by headings) before (items ++ rest) in
        let second = names.given (S before) items rest in
        record {
          structs = record {
            before = blanks blank_struct headings ++ along structs_of (opened_by headings) before;
            rest = along structs_of (after (S before) (marks_of items)) rest;
            there =
                ap (λ them. blanks blank_struct headings ++ them)
                (ap (along structs_of (opened_by headings)) is ∙ first.structs
                ∙ ap (λ them. along structs_of (opened_by headings) before ++ them) second.structs)
                ∙ sym (append_assoc (blanks blank_struct headings) (along structs_of (opened_by headings) before) _);
            is_at =
                length-append (blanks blank_struct headings) (along structs_of (opened_by headings) before)
                ∙ ap (λ n. n + length (along structs_of (opened_by headings) before)) blank.structs
                ∙ sym counted.structs;
          };
          constants = record {
            before = blanks blank_constant headings ++ along constants_of (opened_by headings) before;
            rest = along constants_of (after (S before) (marks_of items)) rest;
            there =
                ap (λ them. blanks blank_constant headings ++ them)
                (ap (along constants_of (opened_by headings)) is ∙ first.constants
                ∙ ap (λ them. along constants_of (opened_by headings) before ++ them) second.constants)
                ∙ sym (append_assoc (blanks blank_constant headings) (along constants_of (opened_by headings) before) _);
            is_at =
                length-append (blanks blank_constant headings) (along constants_of (opened_by headings) before)
                ∙ ap (λ n. n + length (along constants_of (opened_by headings) before)) blank.constants
                ∙ sym counted.constants;
          };
          units = record {
            before = blanks blank_unit headings ++ along units_of (opened_by headings) before;
            rest = along units_of (after (S before) (marks_of items)) rest;
            there =
                ap (λ them. blanks blank_unit headings ++ them)
                (ap (along units_of (opened_by headings)) is ∙ first.units
                ∙ ap (λ them. along units_of (opened_by headings) before ++ them) second.units)
                ∙ sym (append_assoc (blanks blank_unit headings) (along units_of (opened_by headings) before) _);
            is_at =
                length-append (blanks blank_unit headings) (along units_of (opened_by headings) before)
                ∙ ap (λ n. n + length (along units_of (opened_by headings) before)) blank.units
                ∙ sym counted.units;
          };
        }

    -- the names of a front pass
    front_passes : (before items rest : List RawItem) → own ≡ before ++ (items ++ rest) → PassesBehind (opened_by headings) (marks_of (before ++ items))
    front_passes before items rest is =
        ((names.passing_in_turn (opened_by headings) (marks_of (before ++ items)) (marks_of rest)).0
        (subst (PassesBehind (opened_by headings))
        (ap marks_of (is ∙ sym (append_assoc before items rest)) ∙ names.marks_in_turn (before ++ items) rest) passes)).0

    -- the positions of items behind others are in place
    pub items_placed : (before items rest : List RawItem) → own ≡ before ++ (items ++ rest) →
        in_turn (map (item_step N) (order_of items)) (declared_globals (S before)) ≡ Some (declared_globals_with (S before) items)
    items_placed before items rest is =
        names.placed headings known before items N declare (front_passes before items rest is) (items_stand before items rest is)

    -- what is known behind items
    pub items_known : (before items rest : List RawItem) → own ≡ before ++ (items ++ rest) → (env : Environment) →
        known_in env ≡ declared_globals (S before) → KnownAfter env (after_items N (order_of items) env).env (declared_globals_with (S before) items)
    items_known before items rest is env counts =
        types.known N (order_of items) env (declared_globals_with (S before) items)
        (ap (in_turn (map (item_step N) (order_of items))) counts ∙ items_placed before items rest is)

    -- behind an item as much is known as its marks declare
    counts_after : (before : List RawItem) (one : RawItem) (rest : List RawItem) → own ≡ before ++ (one ∷ rest) → (env : Environment) →
        known_in env ≡ declared_globals (S before) → known_in (after_item N (kind_of_item one) env).env ≡ declared_globals (S (before ++ one ∷ []))
    counts_after before one rest is env counts =
        let known_after = items_known before (one ∷ []) rest is env counts in
        let counted = names.counted (S before) (one ∷ []) in
        let scopes : S (before ++ one ∷ []) ≡ after (S before) (marks_of (one ∷ [])) =
        ap (after (opened_by headings)) (names.marks_in_turn before (one ∷ []))
        ∙ names.scopes_in_turn (opened_by headings) (marks_of before) (marks_of (one ∷ [])) in
        known_after.counts_are
        ∙ (λ i. record { structs = sym counted.structs i; constants = sym counted.constants i; units = sym counted.units i; variables = 0 })
        ∙ ap declared_globals (sym scopes)

    constants_after : (before : List RawItem) (one : RawItem) (rest : List RawItem) → own ≡ before ++ (one ∷ rest) → (env : Environment) →
        known_in env ≡ declared_globals (S before) →
        length (after_item N (kind_of_item one) env).env.constants ≡ length env.constants + declared_constants (item_marks one)
    constants_after before one rest is env counts =
        let known_after = items_known before (one ∷ []) rest is env counts in
        let counted = names.counted (S before) (one ∷ []) in
        ap (λ known. known.constants) known_after.counts_are
        ∙ (λ i. sym (ap (λ known. known.constants) counts) i + (counted.declared ∙ ap declared_constants (append-nil (item_marks one))) i)

    -- the constant that an item declares stands at the next position
    global_there : (before : List RawItem) (one : RawItem) (rest : List RawItem) → own ≡ before ++ (one ∷ rest) → (env : Environment) →
        known_in env ≡ declared_globals (S before) → (all : List Constant) →
        ((k : ℕ) (x : Constant) → slice_get (after_item N (kind_of_item one) env).env.constants k ≡ Some x → slice_get all k ≡ Some x) →
        (ks : List ℕ) (xs : List Constant) → HasAt all ks xs →
        HasAt all (own_position (length env.constants) one ++ ks)
        (global_at (kind_of_item one) (length env.constants) (after_item N (kind_of_item one) env).env.constants ++ xs)
    global_there before (Struct def) rest is env counts all stays ks xs has = has
    global_there before (UnitItem def) rest is env counts all stays ks xs has = has
    global_there before (ConstantItem constant) rest is env counts all stays ks xs has =
        let one : RawItem = ConstantItem constant in
        let known_after = items_known before (one ∷ []) rest is env counts in
        let made : List Constant = (after_item N (kind_of_item one) env).env.constants in
        let size : length made ≡ length env.constants + 1 =
        ap (λ known. known.constants) known_after.counts_are ∙ ap (λ n. n + 1) (sym (ap (λ known. known.constants) counts)) in
        let added : length known_after.constants ≡ 1 =
        let lengths : length made ≡ length env.constants + length known_after.constants =
        ap length known_after.has_constants ∙ length-append env.constants known_after.constants in
        omega (arith, size, lengths) in
        let only = one_element known_after.constants added in
        let at : slice_get made (length env.constants) ≡ Some only.0 =
        let none : length env.constants ≡ length env.constants + 0 = omega arith in
        ap (λ them. slice_get them (length env.constants)) known_after.has_constants
        ∙ ap (slice_get (env.constants ++ known_after.constants)) none
        ∙ get_behind env.constants known_after.constants 0
        ∙ ap (λ them. slice_get them 0) only.1 in
        subst (λ found. HasAt all (length env.constants ∷ ks) (cons_option found [] ++ xs)) (sym at)
        (stays (length env.constants) only.0 at, has)

    -- constants of items that stand in no body, by their positions among all
    pub globals_there : (before items : List RawItem) → own ≡ before ++ items → (env : Environment) → known_in env ≡ declared_globals (S before) →
        HasAt (after_items N (order_of items) env).env.constants (global_positions (length env.constants) items) (globals_of N (order_of items) env)
    globals_there before [] is env counts = tt
    globals_there before (one ∷ items) is env counts =
        let next : Environment = (after_item N (kind_of_item one) env).env in
        let behind : own ≡ (before ++ one ∷ []) ++ items = is ∙ sym (append_assoc before (one ∷ []) items) in
        let after_counts = counts_after before one items is env counts in
        let rest = globals_there (before ++ one ∷ []) items behind next after_counts in
        let end : own ≡ (before ++ one ∷ []) ++ (items ++ []) = behind ∙ ap (λ them. (before ++ one ∷ []) ++ them) (sym (append-nil items)) in
        let grown = items_known (before ++ one ∷ []) items [] end next after_counts in
        let final : List Constant = (after_items N (order_of items) next).env.constants in
        global_there before one items is env counts final
        (λ k x there. ap (λ them. slice_get them k) grown.has_constants ∙ get_in_front next.constants grown.constants k x there)
        (global_positions (length env.constants + declared_constants (item_marks one)) items) (globals_of N (order_of items) next)
        (subst (λ n. HasAt final (global_positions n items) (globals_of N (order_of items) next)) (constants_after before one items is env counts) rest)
