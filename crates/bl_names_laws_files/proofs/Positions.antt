-- The positions of constants among all that items declare.
use Rattle.std.proofs.Common.{◌≡◌, ℕ, ◌+◌, ◌-◌, List, [], ◌∷◌, ◌++◌, drop, get_or, length, map, refl, sym, ap, ap₂, ◌∙◌, append_assoc, arith}
use Rattle.std.proofs.lemmas.List.{get_or-append-add, get_or_append_left, get_or_default, length-append, map-append}
use Rattle.bl_tree.proofs.Basics.{none_plus, plus_none, same_heads}
use Rattle.bl_tree.specs.declared.place.Place.{Place}
use Rattle.bl_tree.specs.declared.tree.UnitKind.{UnitKind}
use Rattle.bl_tree.specs.declared.tree.UnitKind.TheVariants as unit
use Rattle.bl_joined.specs.Trees.{placed_item}
use Rattle.bl_names_scopes.specs.declared.heading.Heading.{Heading}
use Rattle.bl_names_scopes.specs.declared.kind.Kind.{Kind}
use Rattle.bl_names_scopes.specs.declared.kind.Kind.TheVariants as kind
use Rattle.bl_names_scopes.specs.Marks.{Mark, Marks, closes, declares, item_marks, kind_of_unit, marks_of, opens, uses}
use Rattle.bl_names_scopes.specs.Scopes.{Scopes, after, enter, file_scope, heading_mark}
use Rattle.bl_names_scopes_laws_places.specs.Agree.{placed_mark, placed_marks}
use Rattle.bl_names_scopes_laws_places.proofs.MarksMoved.{item_moves}
use Rattle.bl_parse_tree.specs.declared.item.RawItem.{RawItem}
use Rattle.bl_parse_tree.specs.declared.item.RawItem.TheVariants as item
use Rattle.bl_parse_tree.specs.declared.name.Name.{Name}
use Rattle.bl_names_laws_files.specs.Globals.{DeclareItems, declared_constants, global_positions, headings_of, item_heading, name_and_kind, own_position, renumber_behind}
use Rattle.bl_names_laws_files.specs.Laws.{GlobalsAreCounted, GlobalsInTurn, GlobalsMove, GlobalsPlaced, RenumberInTurn}
use Rattle.bl_names_laws_files.proofs.Counting.{declared_both, declared_first, one_if}
use Rattle.bl_names_laws_files.proofs.InTurn.{marks_in_turn}
use Rattle.bl_names.proofs.PastLemmas.{sums}

-- ---- items one after another

sums_both : (n a b c : ℕ) → c ≡ a + b → n + c ≡ (n + a) + b
sums_both n a b c is = omega arith

-- behind marks and then others
behind_both : (n : ℕ) (a b : Marks) → n + declared_constants (a ++ b) ≡ (n + declared_constants a) + declared_constants b
behind_both n a b = sums_both n (declared_constants a) (declared_constants b) (declared_constants (a ++ b)) (declared_both a b)

pub globals_in_turn : GlobalsInTurn
globals_in_turn before [] second = ap (λ n. global_positions n second) (plus_none before)
globals_in_turn before (one ∷ first) second =
    let next = before + declared_constants (item_marks one) in
    ap (λ list. own_position before one ++ list)
    (globals_in_turn next first second
    ∙ ap (λ n. global_positions next first ++ global_positions n second) (sym (behind_both before (item_marks one) (marks_of first))))
    ∙ sym (append_assoc (own_position before one) (global_positions next first)
    (global_positions (before + declared_constants (marks_of (one ∷ first))) second))

last_after : (n a b c l m k p : ℕ) → c ≡ a + b → p ≡ l + m → n + c + ((l + k) - p) ≡ (n + a) + b + (k - m)
last_after n a b c l m k p is long = omega arith

pub renumber_in_turn : RenumberInTurn
renumber_in_turn before first second = record {
  earlier = λ k less.
      ap (λ list. get_or list k (behind_all k)) (globals_in_turn before first second)
      ∙ get_or_append_left one two (behind_all k) k less
      ∙ get_or_default one k (behind_all k) (before + declared_constants (marks_of first) + (k - length one)) less;
  later = λ k.
      ap (λ list. get_or list (length one + k) (behind_all (length one + k))) (globals_in_turn before first second)
      ∙ get_or-append-add one two k (behind_all (length one + k))
      ∙ ap (get_or two k)
      (last_after before (declared_constants (marks_of first)) (declared_constants (marks_of second)) (declared_constants (marks_of (first ++ second)))
      (length one) (length two) k (length (global_positions before (first ++ second)))
      (ap declared_constants (marks_in_turn first second) ∙ declared_both (marks_of first) (marks_of second))
      (ap length (globals_in_turn before first second) ∙ length-append one two));
}
  where
    one : List ℕ
    one = global_positions before first

    two : List ℕ
    two = global_positions (before + declared_constants (marks_of first)) second

    behind_all : ℕ → ℕ
    behind_all k = before + declared_constants (marks_of (first ++ second)) + (k - length (global_positions before (first ++ second)))

-- behind an item the others are renumbered
pub renumber_next : (before : ℕ) (one : RawItem) (items : List RawItem) (k : ℕ) →
    renumber_behind before (one ∷ items) (length (own_position before one) + k)
    ≡ renumber_behind (before + declared_constants (item_marks one)) items k
renumber_next before one items k =
    let own = own_position before one in
    let rest = global_positions (before + declared_constants (item_marks one)) items in
    let all = declared_constants (marks_of (one ∷ items)) in
    get_or-append-add own rest k (before + all + ((length own + k) - length (own ++ rest)))
    ∙ ap (get_or rest k)
    (last_after before (declared_constants (item_marks one)) (declared_constants (marks_of items)) all (length own) (length rest) k
    (length (own ++ rest)) (declared_both (item_marks one) (marks_of items)) (length-append own rest))

-- ---- other positions, and other places

sums_more : (m n a : ℕ) → (m + n) + a ≡ m + (n + a)
sums_more m n a = omega arith

own_moves : (more before : ℕ) (one : RawItem) → own_position (more + before) one ≡ map (λ k. more + k) (own_position before one)
own_moves more before (item.Struct def) = refl
own_moves more before (item.Constant constant) = refl
own_moves more before (item.Unit def) = refl

pub globals_move : GlobalsMove
globals_move more before [] = refl
globals_move more before (one ∷ items) =
    let own = declared_constants (item_marks one) in
    ap₂ (λ xs ys. xs ++ ys) (own_moves more before one)
    (ap (λ n. global_positions n items) (sums_more more before own) ∙ globals_move more (before + own) items)
    ∙ sym (map-append (λ k. more + k) (own_position before one) (global_positions (before + own) items))

placed_one : (f : Place → Place) (mark : Mark) → one_if (placed_mark f mark) ≡ one_if mark
placed_one f opens = refl
placed_one f closes = refl
placed_one f (declares name kind.Struct) = refl
placed_one f (declares name kind.Constant) = refl
placed_one f (declares name kind.Variable) = refl
placed_one f (declares name kind.Function) = refl
placed_one f (declares name kind.Activity) = refl
placed_one f (declares name kind.Field) = refl
placed_one f (uses name needed) = refl

placed_count : (f : Place → Place) (marks : Marks) → declared_constants (placed_marks f marks) ≡ declared_constants marks
placed_count f [] = refl
placed_count f (mark ∷ marks) =
    declared_first (placed_mark f mark) (placed_marks f marks)
    ∙ ap₂ (λ a b. a + b) (placed_one f mark) (placed_count f marks)
    ∙ sym (declared_first mark marks)

own_placed : (f : Place → Place) (before : ℕ) (one : RawItem) → own_position before (placed_item f one) ≡ own_position before one
own_placed f before (item.Struct def) = refl
own_placed f before (item.Constant constant) = refl
own_placed f before (item.Unit def) = refl

pub globals_placed : GlobalsPlaced
globals_placed f before [] = refl
globals_placed f before (one ∷ items) =
    ap₂ (λ xs ys. xs ++ ys) (own_placed f before one)
    (ap (λ n. global_positions (before + n) (map (placed_item f) items))
    (ap declared_constants (item_moves f one) ∙ placed_count f (item_marks one))
    ∙ globals_placed f (before + declared_constants (item_marks one)) items)

-- ---- headings

-- where a heading declares an item, one more constant is counted iff the item is one
pub constants_entered : (scopes : Scopes) (name : Name) (before : ℕ) (one : RawItem) →
    (enter scopes (declares name (item_heading one).kind)).counts.constants ≡ scopes.counts.constants + length (own_position before one)
constants_entered scopes name before (item.Struct def) = plus_none scopes.counts.constants
constants_entered scopes name before (item.Constant constant) = refl
constants_entered scopes name before (item.Unit def) = by_kind def.kind
  where
    by_kind : (of : UnitKind) → (enter scopes (declares name (kind_of_unit of))).counts.constants ≡ scopes.counts.constants + 0
    by_kind unit.Function = plus_none scopes.counts.constants
    by_kind unit.Activity = plus_none scopes.counts.constants

-- a heading declares an item, and the others declare the others
pub record DeclaresFirst (heading : Heading) (headings : List Heading) (one : RawItem) (items : List RawItem) : Type 0 where
  pub text : heading.name.text ≡ (item_heading one).name.text
  pub of : heading.kind ≡ (item_heading one).kind
  pub rest : DeclareItems headings items

pub declares_first : (heading : Heading) (headings : List Heading) (one : RawItem) (items : List RawItem) →
    DeclareItems (heading ∷ headings) (one ∷ items) → DeclaresFirst heading headings one items
declares_first heading headings one items same =
    let first : name_and_kind heading ≡ name_and_kind (item_heading one) =
    same_heads (name_and_kind heading) (name_and_kind (item_heading one)) (map name_and_kind headings) (map name_and_kind (headings_of items)) same in
    record {
      text = ap (λ (p : List ℕ × Kind). p.0) first;
      of = ap (λ (p : List ℕ × Kind). p.1) first;
      rest = ap (drop 1) same;
    }

counted_on : (before : ℕ) (items : List RawItem) (headings : List Heading) (scopes : Scopes) → DeclareItems headings items →
    (after scopes (map heading_mark headings)).counts.constants ≡ scopes.counts.constants + length (global_positions before items)
counted_on before [] [] scopes same = plus_none scopes.counts.constants
counted_on before [] (heading ∷ headings) scopes same = absurd cc
counted_on before (one ∷ items) [] scopes same = absurd cc
counted_on before (one ∷ items) (heading ∷ headings) scopes same =
    let first = declares_first heading headings one items same in
    let new = enter scopes (heading_mark heading) in
    let own = own_position before one in
    let rest = global_positions (before + declared_constants (item_marks one)) items in
    sums scopes.counts.constants new.counts.constants (after new (map heading_mark headings)).counts.constants (length own) (length rest)
    (ap (λ of. (enter scopes (declares heading.name of)).counts.constants) first.of ∙ constants_entered scopes heading.name before one)
    (counted_on (before + declared_constants (item_marks one)) items headings new first.rest)
    ∙ ap (λ n. scopes.counts.constants + n) (sym (length-append own rest))

pub globals_are_counted : GlobalsAreCounted
globals_are_counted before items headings same =
    counted_on before items headings file_scope same ∙ none_plus (length (global_positions before items))
