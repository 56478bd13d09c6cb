-- No cell of the three objects lies within another, so each keeps its number while another is set.
use Rattle.std.proofs.Common.{◌≡◌, ℕ, zero, suc, ◌<◌, ℤ, Bool, true, false, not, ◌&&◌, ◌||◌, List, [], ◌∷◌, ◌++◌, length, slice_get, slice_set}
use Rattle.std.proofs.Common.{Option, Some, None, refl, ap, sym, subst, ◌∙◌, arith, append-nil, append_assoc, length-append}
use Rattle.std.specs.Prelude.{is_some, is_none, bytes_eq, codes, ◌==◌, if◌then◌else◌}
use Rattle.std.proofs.lemmas.Grind.{common_steps}
use Rattle.std.proofs.lemmas.Slice.Eq.{bytes_eq-Decides}
use Rattle.std.specs.List.{list_all}
use Rattle.std.proofs.lemmas.Bool.{and_from, or_left, or_right}
use Rattle.bl_tree.proofs.Basics.{all_at, and_first, and_second, first_empty, same_some, second_empty}
use Rattle.bl_tree.specs.declared.text.Text.{Text}
use Rattle.bl_tree.specs.declared.scalar.Scalar.{Scalar}
use Rattle.bl_tree.specs.declared.c.CType.{CType}
use Rattle.bl_tree.specs.declared.c.CType.TheVariants.{Scalar as OfScalar, Struct as OfStruct}
use Rattle.bl_ctext_semantics.specs.Cells.{Cell, Inner, cells_at, cells_of, inner_of, memory_of, numbers_of}
use Rattle.bl_ctext_semantics.specs.Faults.{WellFormed, faults_in, function_faults_after, interface_structs, last_place, struct_faults_after, struct_table}
use Rattle.bl_ctext_semantics.specs.Memory.{Projection, member, element, Root, state_object, input_object, output_object, variable, Location, Memory, CValue}
use Rattle.bl_ctext_semantics.specs.Memory.{left_after, number_or, same_part, same_root, scalar, scalar_number, set_at, value_at, with_part}
use Rattle.bl_ctext_semantics.specs.Parts.{Parts}
use Rattle.bl_ctext_semantics.specs.Sizes.{sizes}
use Rattle.bl_ctext_semantics.specs.Tables.{no_entries}
use Rattle.bl_ctext_semantics_laws.specs.Fitting.{ValueSpot, scalars, whole, walk}
use Rattle.bl_ctext_semantics_laws.proofs.Lists.{all-append}
use Rattle.bl_crun_ports.specs.Ports.{inputs_start, outputs_start}
use Rattle.bl_ctext_semantics_laws.specs.Laws.{behind_objects, input_at, output_at}
use Rattle.bl_ctext_semantics_laws.proofs.Inners.{Led, LedType, led-all}
use Rattle.bl_ctext_semantics_laws.proofs.Faultless.{unless-nil}
use Rattle.bl_ctext_semantics_laws.proofs.Layouts.{entries-all, inner-file, lists_of, shaped-file}
use Rattle.bl_ctext_semantics_laws.proofs.Ways.{Shaped, left-is, walk-append, way_offset}

-- ---- cells that keep their numbers

-- whether a cell keeps its number while a scalar at this place is set
abbrev pub spared : Location → Cell → Bool
spared l c = not (same_root l.root c.location.root) || is_none (left_after l.parts c.location.parts)

-- a scalar's number is its own part
number-kept : (o : Option (List Projection)) (n old : ℤ) → is_none o ≡ true → number_or o (scalar n) old ≡ old
number-kept None n old h = refl
number-kept (Some rest) n old h = cc

way-kept : (value : CValue) (same : Bool) (parts way : List Projection) (n : ℤ) → (not same || is_none (left_after parts way)) ≡ true →
    (if same then with_part value parts (scalar n) else value) way ≡ value way
way-kept value false parts way n h = refl
way-kept value true parts way n h = number-kept (left_after parts way) n (value way) h

set-spares : (memory : Memory) (l : Location) (n : ℤ) (c : Cell) → spared l c ≡ true →
    scalar_number (value_at (set_at memory l (scalar n)) c.location) ≡ scalar_number (value_at memory c.location)
set-spares memory l n c h =
    ap (set_at memory l (scalar n) c.location.root) (append-nil c.location.parts)
    ∙ way-kept (memory c.location.root) (same_root l.root c.location.root) l.parts c.location.parts n h
    ∙ ap (memory c.location.root) (sym (append-nil c.location.parts))

same-part : (p : Projection) → same_part p p ≡ true
same-part (member m) = (bytes_eq-Decides m m).1 refl
same-part (element k) = grind (arith, common_steps)

same-root : (r : Root) → same_root r r ≡ true
same-root state_object = refl
same-root input_object = refl
same-root output_object = refl
same-root (variable d m) = and_from (d == d) (bytes_eq m m) (grind (arith, common_steps)) ((bytes_eq-Decides m m).1 refl)

pub chosen-true : {A : Type 0} (b : Bool) (x y : A) → b ≡ true → (if b then x else y) ≡ x
chosen-true true x y h = refl
chosen-true false x y h = cc

nothing-left : (parts : List Projection) → left_after parts parts ≡ Some []
nothing-left [] = refl
nothing-left (p ∷ ps) = chosen-true (same_part p p) (left_after ps ps) None (same-part p) ∙ nothing-left ps

-- what was set is there
set-there : (memory : Memory) (l : Location) (n : ℤ) → scalar_number (value_at (set_at memory l (scalar n)) l) ≡ n
set-there memory l n =
    ap (set_at memory l (scalar n) l.root) (append-nil l.parts)
    ∙ ap (λ (v : CValue). v l.parts) (chosen-true (same_root l.root l.root) (with_part (memory l.root) l.parts (scalar n))
    (memory l.root) (same-root l.root))
    ∙ ap (λ o. number_or o (scalar n) (memory l.root l.parts)) (nothing-left l.parts)

-- ---- lists of cells

-- each of these cells keeps its number while another of them is set
abbrev pub Separate : List Cell → Type 0
Separate [] = Unit {0}
Separate (c ∷ cs) = (list_all (spared c.location) cs ≡ true) × ((list_all (λ d. spared d.location c) cs ≡ true) × Separate cs)

numbers-spared : (cs : List Cell) (memory : Memory) (l : Location) (n : ℤ) → list_all (spared l) cs ≡ true →
    numbers_of cs (set_at memory l (scalar n)) ≡ numbers_of cs memory
numbers-spared [] memory l n h = refl
numbers-spared (c ∷ cs) memory l n h =
    ap (λ x. x ∷ numbers_of cs (set_at memory l (scalar n))) (set-spares memory l n c (and_first (spared l c) _ h))
    ∙ ap (λ xs. scalar_number (value_at memory c.location) ∷ xs) (numbers-spared cs memory l n (and_second (spared l c) _ h))

-- the numbers with which a memory was made
pub numbers-made : (cs : List Cell) (ns : List ℤ) → Separate cs → length ns ≡ length cs → numbers_of cs (memory_of cs ns) ≡ ns
numbers-made [] [] apart long = refl
numbers-made [] (n ∷ ns) apart long = absurd (omega arith)
numbers-made (c ∷ cs) [] apart long = absurd (omega arith)
numbers-made (c ∷ cs) (n ∷ ns) apart long =
    ap (λ x. x ∷ numbers_of cs (set_at (memory_of cs ns) c.location (scalar n))) (set-there (memory_of cs ns) c.location n)
    ∙ ap (λ xs. n ∷ xs) (numbers-spared cs (memory_of cs ns) c.location n apart.0 ∙ numbers-made cs ns apart.1.1 (omega arith))

-- one cell is set
pub numbers-set : (cs : List Cell) (k : ℕ) (c : Cell) (memory : Memory) (n : ℤ) → Separate cs → slice_get cs k ≡ Some c →
    numbers_of cs (set_at memory c.location (scalar n)) ≡ slice_set (numbers_of cs memory) k n
numbers-set [] k c memory n apart there = cc
numbers-set (d ∷ cs) zero c memory n apart there =
    let same : d ≡ c = same_some d c there in
    ap (λ x. x ∷ numbers_of cs (set_at memory c.location (scalar n)))
    (ap (λ e. scalar_number (value_at (set_at memory c.location (scalar n)) e.location)) same ∙ set-there memory c.location n)
    ∙ ap (λ xs. n ∷ xs) (numbers-spared cs memory c.location n (ap (λ e. list_all (spared e.location) cs) (sym same) ∙ apart.0))
numbers-set (d ∷ cs) (suc k) c memory n apart there =
    ap (λ x. x ∷ numbers_of cs (set_at memory c.location (scalar n)))
    (set-spares memory c.location n d (all_at (λ e. spared e.location d) cs k c apart.1.0 there))
    ∙ ap (λ xs. scalar_number (value_at memory d.location) ∷ xs) (numbers-set cs k c memory n apart.1.1 there)

-- ---- cells of different objects

-- whether a cell lies in another object
abbrev strange : Root → Cell → Bool
strange r c = not (same_root r c.location.root) && not (same_root c.location.root r)

all-strange : (r s : Root) (is : List Inner) → not (same_root r s) ≡ true → not (same_root s r) ≡ true → list_all (strange r) (cells_at s is) ≡ true
all-strange r s [] h k = refl
all-strange r s (i ∷ is) h k = and_from _ _ (and_from _ _ h k) (all-strange r s is h k)

strange-spared : (r : Root) (l : Location) (cs : List Cell) → l.root ≡ r → list_all (strange r) cs ≡ true → list_all (spared l) cs ≡ true
strange-spared r l [] is all = refl
strange-spared r l (c ∷ cs) is all =
    and_from _ _ (or_left _ _ (ap (λ q. not (same_root q c.location.root)) is
    ∙ and_first (not (same_root r c.location.root)) _ (and_first (strange r c) _ all)))
    (strange-spared r l cs is (and_second (strange r c) _ all))

strange-spares : (r : Root) (d : Cell) (cs : List Cell) → d.location.root ≡ r → list_all (strange r) cs ≡ true →
    list_all (λ c. spared c.location d) cs ≡ true
strange-spares r d [] is all = refl
strange-spares r d (c ∷ cs) is all =
    and_from _ _ (or_left _ _
    (ap (λ q. not (same_root c.location.root q)) is ∙ and_second (not (same_root r c.location.root)) _ (and_first (strange r c) _ all)))
    (strange-spares r d cs is (and_second (strange r c) _ all))

separate-append : (r : Root) (is : List Inner) (cs : List Cell) → list_all (strange r) cs ≡ true → Separate (cells_at r is) → Separate cs →
    Separate (cells_at r is ++ cs)
separate-append r [] cs all first second = second
separate-append r (i ∷ is) cs all first second = (
  all-append (spared (record { root = r; parts = i.parts })) (cells_at r is) cs
      ∙ and_from _ _ first.0 (strange-spared r (record { root = r; parts = i.parts }) cs refl all),
  (
    all-append (λ d. spared d.location (record { location = record { root = r; parts = i.parts }; kind = i.kind })) (cells_at r is) cs
        ∙ and_from _ _ first.1.0 (strange-spares r (record { location = record { root = r; parts = i.parts }; kind = i.kind }) cs refl all),
    separate-append r is cs all first.1.1 second,
  ),
)

-- ---- the cells of a file

module _ (file : Parts) (formed : WellFormed file) where
  shaped : Shaped (sizes file.structs) (lists_of file.structs) (struct_table file.structs)
  shaped = shaped-file file formed

  abbrev Leads : ValueSpot → ℕ → List Inner → Type 0
  Leads = Led (sizes file.structs) (lists_of file.structs) (struct_table file.structs) shaped (scalars file.structs) (inner-file file formed)

  abbrev Typed : CType → Type 0
  Typed = LedType (sizes file.structs) (lists_of file.structs) (struct_table file.structs) shaped (scalars file.structs) (inner-file file formed)

  abbrev Offset : ValueSpot → List Projection → ℕ
  Offset spot parts = way_offset (sizes file.structs) (lists_of file.structs) (struct_table file.structs) (Some spot) parts

  -- behind a scalar there is nothing
  scalar-end : (kind other : Scalar) (rest : List Projection) →
      walk (struct_table file.structs) (Some (whole (OfScalar kind))) rest ≡ Some (whole (OfScalar other)) → rest ≡ []
  scalar-end kind other [] h = refl
  scalar-end kind other (q ∷ []) h = cc
  scalar-end kind other (q ∷ r ∷ rest) h = cc

  -- two scalars with different offsets
  none-left : (spot : ValueSpot) (i j : Inner) → walk (struct_table file.structs) (Some spot) i.parts ≡ Some (whole (OfScalar i.kind)) →
      walk (struct_table file.structs) (Some spot) j.parts ≡ Some (whole (OfScalar j.kind)) →
      (Offset spot i.parts ≡ Offset spot j.parts → ⊥) → is_none (left_after i.parts j.parts) ≡ true
  none-left spot i j a b differ = chosen (left_after i.parts j.parts) refl
    where
      chosen : (o : Option (List Projection)) → left_after i.parts j.parts ≡ o → is_none o ≡ true
      chosen None is = refl
      chosen (Some rest) is =
          let way : j.parts ≡ i.parts ++ rest =
          left-is (sizes file.structs) (lists_of file.structs) (struct_table file.structs) shaped i.parts j.parts rest is in
          let last : walk (struct_table file.structs) (Some (whole (OfScalar i.kind))) rest ≡ Some (whole (OfScalar j.kind)) =
          ap (λ o. walk (struct_table file.structs) o rest) (sym a)
          ∙ sym (walk-append (sizes file.structs) (lists_of file.structs) (struct_table file.structs) shaped (Some spot) i.parts rest)
          ∙ ap (walk (struct_table file.structs) (Some spot)) (sym way) ∙ b in
          let same : j.parts ≡ i.parts = way ∙ ap (λ r. i.parts ++ r) (scalar-end i.kind j.kind rest last) ∙ append-nil i.parts in
          absurd (differ (ap (Offset spot) (sym same)))

  first-apart : (root : Root) (spot : ValueSpot) (i : Inner) (at : ℕ) (is : List Inner) →
      walk (struct_table file.structs) (Some spot) i.parts ≡ Some (whole (OfScalar i.kind)) → Offset spot i.parts < at → Leads spot at is →
      (list_all (spared (record { root = root; parts = i.parts })) (cells_at root is) ≡ true)
      × (list_all (λ d. spared d.location (record { location = record { root = root; parts = i.parts }; kind = i.kind })) (cells_at root is) ≡ true)
  first-apart root spot i at [] a low led = (refl, refl)
  first-apart root spot i at (j ∷ is) a low led =
      let rest = first-apart root spot i (suc at) is a (omega arith) led.1 in
      let b = led.0.1 in (
        and_from _ _ (or_right _ _ (none-left spot i j a led.0.0 (λ e. omega arith))) rest.0,
        and_from _ _ (or_right _ _ (none-left spot j i led.0.0 a (λ e. omega arith))) rest.1,
      )

  led-separate : (root : Root) (spot : ValueSpot) (at : ℕ) (is : List Inner) → Leads spot at is → Separate (cells_at root is)
  led-separate root spot at [] led = tt
  led-separate root spot at (i ∷ is) led =
      let e = led.0.1 in
      let f = first-apart root spot i (suc at) is led.0.0 (omega arith) led.1 in
      (f.0, (f.1, led-separate root spot (suc at) is led.1))

  struct-led : (name : Text) → is_some (struct_table file.structs name) ≡ true → Typed (OfStruct name)
  unfolding faults_in
  struct-led name there =
      let none : struct_faults_after no_entries no_entries file.structs ≡ [] =
      first_empty (struct_faults_after no_entries no_entries file.structs) _ formed.none in
      led-all (sizes file.structs) (lists_of file.structs) (struct_table file.structs) shaped (scalars file.structs) (inner-file file formed) no_entries
      no_entries no_entries file.structs (λ n. refl) (λ n. refl)
      (λ n h. cc) none name (ap (λ t. is_some (t name)) (entries-all _ file.structs) ∙ there)

  objects-declared : (is_some (struct_table file.structs (codes "bl_state"))
      && (is_some (struct_table file.structs (codes "bl_in")) && is_some (struct_table file.structs (codes "bl_out")))) ≡ true
  unfolding faults_in
  objects-declared =
      let h1 = second_empty (struct_faults_after no_entries no_entries file.structs) _ formed.none in
      let h2 = second_empty (function_faults_after (struct_table file.structs) no_entries no_entries file.funcs) _ h1 in
      unless-nil (is_some (struct_table file.structs (codes "bl_state"))
      && (is_some (struct_table file.structs (codes "bl_in")) && is_some (struct_table file.structs (codes "bl_out")))) interface_structs
      (last_place file.funcs) (first_empty _ _ h2)

  state-typed : Typed (OfStruct (codes "bl_state"))
  state-typed = struct-led (codes "bl_state") (and_first _ _ objects-declared)

  input-typed : Typed (OfStruct (codes "bl_in"))
  input-typed = struct-led (codes "bl_in") (and_first _ _ (and_second (is_some (struct_table file.structs (codes "bl_state"))) _ objects-declared))

  output-typed : Typed (OfStruct (codes "bl_out"))
  output-typed = struct-led (codes "bl_out")
      (and_second (is_some (struct_table file.structs (codes "bl_in"))) _
      (and_second (is_some (struct_table file.structs (codes "bl_state"))) _ objects-declared))

  pub cells-separate : Separate (cells_of file)
  unfolding cells_of
  cells-separate =
      let first = led-separate state_object (whole (OfStruct (codes "bl_state"))) 0 (inner_of file.structs (codes "bl_state")) state-typed.led in
      let second = led-separate input_object (whole (OfStruct (codes "bl_in"))) 0 (inner_of file.structs (codes "bl_in")) input-typed.led in
      let third = led-separate output_object (whole (OfStruct (codes "bl_out"))) 0 (inner_of file.structs (codes "bl_out")) output-typed.led in
      let a : List Cell = cells_at state_object (inner_of file.structs (codes "bl_state")) in
      let b : List Cell = cells_at input_object (inner_of file.structs (codes "bl_in")) in
      let c : List Cell = cells_at output_object (inner_of file.structs (codes "bl_out")) in
      let later : Separate (b ++ c) =
      separate-append input_object (inner_of file.structs (codes "bl_in")) c
      (all-strange input_object output_object (inner_of file.structs (codes "bl_out")) refl refl) second third in
      let others : list_all (strange state_object) (b ++ c) ≡ true =
      all-append (strange state_object) b c
      ∙ and_from _ _ (all-strange state_object input_object (inner_of file.structs (codes "bl_in")) refl refl)
      (all-strange state_object output_object (inner_of file.structs (codes "bl_out")) refl refl) in
      subst Separate (sym (append_assoc a b c)) (separate-append state_object (inner_of file.structs (codes "bl_state")) (b ++ c) others first later)

  length-at : (root : Root) (is : List Inner) → length (cells_at root is) ≡ length is
  length-at root [] = refl
  length-at root (i ∷ is) = ap suc (length-at root is)

  pub input-start : inputs_start file.structs ≡ input_at file
  input-start = state-typed.long

  pub output-start : outputs_start file.structs ≡ output_at file
  output-start = let a = state-typed.long in let b = input-typed.long in omega arith

  pub cells-long : length (cells_of file) ≡ behind_objects file
  unfolding cells_of
  cells-long =
      let a : List Cell = cells_at state_object (inner_of file.structs (codes "bl_state")) in
      let b : List Cell = cells_at input_object (inner_of file.structs (codes "bl_in")) in
      let c : List Cell = cells_at output_object (inner_of file.structs (codes "bl_out")) in
      let la = length-at state_object (inner_of file.structs (codes "bl_state")) ∙ state-typed.long in
      let lb = length-at input_object (inner_of file.structs (codes "bl_in")) ∙ input-typed.long in
      let lc = length-at output_object (inner_of file.structs (codes "bl_out")) ∙ output-typed.long in
      let whole_long = length-append (a ++ b) c in
      let part_long = length-append a b in
      omega arith
