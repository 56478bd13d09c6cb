-- The numbers to which places of objects lead are cells, and are kept.
use Rattle.std.proofs.Common.{◌≡◌, ◌⊎◌, inl, inr, ⊎_elim, ℕ, suc, ◌+◌, ◌≤◌, ◌<◌, ℤ, Bool, true, false, ◌&&◌, List}
use Rattle.std.proofs.Common.{[], ◌∷◌, ◌++◌, length}
use Rattle.std.proofs.Common.{Option, Some, None, refl, sym, ap, ◌∙◌, arith, append-nil}
use Rattle.std.proofs.lemmas.Grind.{common_steps}
use Rattle.std.specs.Prelude.{is_some, codes, ◌==◌, option_and_then, if◌then◌else◌}
use Rattle.bl_tree.specs.declared.c.CMember.{CMember}
use Rattle.bl_tree.specs.declared.c.CType.TheVariants.{Scalar as OfScalar, Struct as OfStruct}
use Rattle.bl_tree.specs.declared.c.CType.{CType}
use Rattle.bl_tree.specs.declared.scalar.Scalar.{Scalar}
use Rattle.bl_tree.specs.declared.text.Text.{Text}
use Rattle.bl_ctext_semantics.specs.Cells.{Cell, Inner, cells_at, cells_of, inner_of, memory_of, numbers_of}
use Rattle.bl_ctext_semantics.specs.Faults.{WellFormed, struct_table}
use Rattle.bl_ctext_semantics.specs.Memory.{CValue, Memory, Projection, Root, element, input_object, left_after, member, number_or, output_object}
use Rattle.bl_ctext_semantics.specs.Memory.{scalar_number}
use Rattle.bl_ctext_semantics.specs.Memory.{same_root, scalar, set_at, state_object, value_at, variable, with_part}
use Rattle.bl_ctext_semantics.specs.Parts.{Parts}
use Rattle.bl_ctext_semantics.specs.Sizes.{size_of_type, sizes}
use Rattle.bl_ctext_semantics.specs.Tables.{Table}
use Rattle.bl_ctext_semantics_laws.specs.Fitting.{ValueSpot, spot_if, walk, whole, whole_spot, whole_type}
use Rattle.bl_ctext_semantics_laws.proofs.Entry.{Leads, Offset, Typed, shaped, struct-led}
use Rattle.bl_ctext_semantics_laws.proofs.Layouts.{lists_of}
use Rattle.bl_ctext_semantics_laws.proofs.Ways.{left-is, walk-append, walk-nowhere, walk-within, ways-apart}
use Rattle.bl_ctext_semantics_laws_cells.specs.Cells.{AllCellsKept, CellsKept, object_types, regained}

-- ---- lists of cells

module _ (here : Memory) (root : Root) (way : List Projection) where
  -- the cell is the number, or setting it leaves the number
  abbrev Is : Cell → Type 0
  Is cell = (same_root cell.location.root root ≡ true) × (cell.location.root ≡ root) × (left_after cell.location.parts way ≡ Some [])
      × (cell.location.parts ++ [] ≡ way)

  abbrev Misses : Cell → Type 0
  Misses cell = (same_root cell.location.root root && is_some (left_after cell.location.parts way)) ≡ false

  abbrev AllTold : List Cell → Type 0
  AllTold [] = Unit {0}
  AllTold (cell ∷ cells) = (Is cell ⊎ Misses cell) × AllTold cells

  abbrev SomeIs : List Cell → Type 0
  SomeIs [] = ⊥
  SomeIs (cell ∷ cells) = Is cell ⊎ SomeIs cells

  pub told_append : (xs ys : List Cell) → AllTold xs → AllTold ys → AllTold (xs ++ ys)
  told_append [] ys one two = two
  told_append (x ∷ xs) ys one two = (one.0, told_append xs ys one.1 two)

  pub some_left : (xs ys : List Cell) → SomeIs xs → SomeIs (xs ++ ys)
  some_left [] ys some = absurd some
  some_left (x ∷ xs) ys (inl is) = inl is
  some_left (x ∷ xs) ys (inr more) = inr (some_left xs ys more)

  pub some_right : (xs ys : List Cell) → SomeIs ys → SomeIs (xs ++ ys)
  some_right [] ys some = some
  some_right (x ∷ xs) ys some = inr (some_right xs ys some)

  kept_in : (left : Option (List Projection)) (v : CValue) (old : ℤ) → is_some left ≡ false → number_or left v old ≡ old
  kept_in None v old h = refl
  kept_in (Some rest) v old h = absurd (cc)

  missed : (same : Bool) (parts : List Projection) (v value : CValue) → (same && is_some (left_after parts way)) ≡ false →
      (if same then with_part value parts v else value) way ≡ value way
  missed false parts v value h = refl
  missed true parts v value h = kept_in (left_after parts way) v (value way) h

  found : (same : Bool) (parts : List Projection) (v value : CValue) → same ≡ true → left_after parts way ≡ Some [] →
      (if same then with_part value parts v else value) way ≡ scalar_number v
  found true parts v value h i = ap (λ left. number_or left v (value way)) i
  found false parts v value h i = absurd (cc)

  is_hit : (cell : Cell) → Is cell → Misses cell → ⊥
  is_hit cell is misses =
      let hit : (same_root cell.location.root root && is_some (left_after cell.location.parts way)) ≡ true =
      ap (λ b. b && is_some (left_after cell.location.parts way)) is.0 ∙ ap is_some is.2 in
      cc

  pub kept_among : (cells : List Cell) → AllTold cells → SomeIs cells → memory_of cells (numbers_of cells here) root way ≡ here root way
  kept_among [] told some = absurd some
  kept_among (cell ∷ cells) told some = by (λ more. kept_among cells told.1 more) told.0
    where
      rest : Memory
      rest = memory_of cells (numbers_of cells here)

      own : CValue
      own = scalar (scalar_number (value_at here cell.location))

      later : Is cell ⊎ SomeIs cells → Misses cell → SomeIs cells
      later (inl is) misses = absurd (is_hit cell is misses)
      later (inr more) misses = more

      by : (SomeIs cells → rest root way ≡ here root way) → Is cell ⊎ Misses cell → set_at rest cell.location own root way ≡ here root way
      by further (inl is) =
          found (same_root cell.location.root root) cell.location.parts own (rest root) is.0 is.2
          ∙ ap (λ (r : Root). here r (cell.location.parts ++ [])) is.1 ∙ ap (here root) is.3
      by further (inr misses) =
          missed (same_root cell.location.root root) cell.location.parts own (rest root) misses ∙ further (later some misses)

-- ---- the scalars of a struct

module _ (file : Parts) (formed : WellFormed file) where
  abbrev Walks : ValueSpot → List Projection → ValueSpot → Type 0
  Walks spot parts goal = walk (struct_table file.structs) (Some spot) parts ≡ Some goal

  scalar_end : (kind other : Scalar) (rest : List Projection) → Walks (whole (OfScalar kind)) rest (whole (OfScalar other)) → rest ≡ []
  scalar_end kind other [] h = refl
  scalar_end kind other (q ∷ []) h = absurd (cc)
  scalar_end kind other (q ∷ r ∷ rest) h = absurd (cc)

  -- a scalar's way that another way begins with is that way
  begins_with : (spot : ValueSpot) (i : Inner) (parts rest : List Projection) (kind : Scalar) → Walks spot i.parts (whole (OfScalar i.kind)) →
      Walks spot parts (whole (OfScalar kind)) → left_after i.parts parts ≡ Some rest → (rest ≡ []) × (parts ≡ i.parts)
  begins_with spot i parts rest kind a b is =
      let way : parts ≡ i.parts ++ rest =
      left-is (sizes file.structs) (lists_of file.structs) (struct_table file.structs) (shaped file formed) i.parts parts
      rest is in
      let last : Walks (whole (OfScalar i.kind)) rest (whole (OfScalar kind)) =
      ap (λ o. walk (struct_table file.structs) o rest) (sym a)
      ∙ sym (walk-append (sizes file.structs) (lists_of file.structs) (struct_table file.structs) (shaped file formed) (Some spot) i.parts rest)
      ∙ ap (walk (struct_table file.structs) (Some spot)) (sym way) ∙ b in
      let none = scalar_end i.kind kind rest last in
      (none, way ∙ ap (λ r. i.parts ++ r) none ∙ append-nil i.parts)

  same_way : (spot : ValueSpot) (i : Inner) (parts : List Projection) (kind : Scalar) → Walks spot i.parts (whole (OfScalar i.kind)) →
      Walks spot parts (whole (OfScalar kind)) → Offset file formed spot i.parts ≡ Offset file formed spot parts → left_after i.parts parts ≡ Some []
  same_way spot i parts kind a b same = chosen (left_after i.parts parts) refl
    where
      chosen : (o : Option (List Projection)) → left_after i.parts parts ≡ o → left_after i.parts parts ≡ Some []
      chosen None is =
          ⊎_elim (λ (l : Offset file formed spot i.parts + 1 ≤ Offset file formed spot parts). absurd (omega arith))
          (λ (r : Offset file formed spot parts + 1 ≤ Offset file formed spot i.parts). absurd (omega arith))
          (ways-apart (sizes file.structs) (lists_of file.structs) (struct_table file.structs) (shaped file formed) (Some spot) (whole (OfScalar i.kind)) kind
          i.parts parts a b is)
      chosen (Some rest) is = is ∙ ap Some (begins_with spot i parts rest kind a b is).0

  module _ (here : Memory) (root : Root) (parts : List Projection) (kind : Scalar) (spot : ValueSpot) (leads : Walks spot parts (whole (OfScalar kind)))
      (self : same_root root root ≡ true) where
    abbrev cell_for : Inner → Cell
    cell_for i = record { location = record { root = root; parts = i.parts }; kind = i.kind }

    cell_is : (i : Inner) → Walks spot i.parts (whole (OfScalar i.kind)) → (rest : List Projection) → left_after i.parts parts ≡ Some rest →
        Is here root parts (cell_for i)
    cell_is i walks rest is =
        let e = begins_with spot i parts rest kind walks leads is in
        (self, refl, is ∙ ap Some e.0, append-nil i.parts ∙ sym e.1)

    inner_told : (at : ℕ) (is : List Inner) → Leads file formed spot at is → AllTold here root parts (cells_at root is)
    inner_told at [] led = tt
    inner_told at (i ∷ is) led = (by (left_after i.parts parts) refl, inner_told (suc at) is led.1)
      where
        misses : (same : Bool) (o : Option (List Projection)) → o ≡ None → (same && is_some o) ≡ false
        misses true None e = refl
        misses false o e = refl
        misses true (Some rest) e = absurd (cc)

        by : (o : Option (List Projection)) → left_after i.parts parts ≡ o → Is here root parts (cell_for i) ⊎ Misses here root parts (cell_for i)
        by None e = inr (misses (same_root root root) (left_after i.parts parts) e)
        by (Some rest) e = inl (cell_is i led.0.0 rest e)

    some_inner : (at : ℕ) (is : List Inner) → Leads file formed spot at is → at ≤ Offset file formed spot parts →
        Offset file formed spot parts < at + length is → SomeIs here root parts (cells_at root is)
    some_inner at [] led low high = absurd (omega (arith, low, high))
    some_inner at (i ∷ is) led low high =
        chosen (Offset file formed spot parts == at) refl (λ above. some_inner (suc at) is led.1 above (omega (arith, high)))
      where
        chosen : (b : Bool) → (Offset file formed spot parts == at) ≡ b →
            (suc at ≤ Offset file formed spot parts → SomeIs here root parts (cells_at root is)) →
            Is here root parts (cell_for i) ⊎ SomeIs here root parts (cells_at root is)
        chosen true e later =
            let same : Offset file formed spot parts ≡ at = grind (arith, common_steps) in
            inl (cell_is i led.0.0 [] (same_way spot i parts kind led.0.0 leads (led.0.1 ∙ sym same)))
        chosen false e later = inr (later (grind (arith, common_steps)))

  -- ---- objects

  -- the struct of an object is there
  struct_there : (name : Text) (parts : List Projection) (kind : Scalar) → Walks (whole (OfStruct name)) parts (whole (OfScalar kind)) →
      is_some (struct_table file.structs name) ≡ true
  struct_there name [] kind leads = absurd (cc)
  struct_there name (element k ∷ parts) kind leads =
      absurd (let none = sym (walk-nowhere (sizes file.structs) (lists_of file.structs) (struct_table file.structs) (shaped file formed) parts) ∙
      leads in cc)
  struct_there name (member m ∷ parts) kind leads = by (struct_table file.structs name) leads
    where
      by : (o : Option (Table CMember)) →
          walk (struct_table file.structs) (spot_if (option_and_then (λ members. members m) o)) parts ≡ Some (whole (OfScalar kind)) → is_some o ≡ true
      by None h =
          absurd (let none = sym (walk-nowhere (sizes file.structs) (lists_of file.structs) (struct_table file.structs) (shaped file formed) parts)
          ∙ h in cc)
      by (Some members) h = refl

  module _ (here : Memory) (root : Root) (name : Text) (parts : List Projection) (kind : Scalar)
      (leads : Walks (whole (OfStruct name)) parts (whole (OfScalar kind))) (self : same_root root root ≡ true) where
    typed : Typed file formed (OfStruct name)
    typed = struct-led file formed name (struct_there name parts kind leads)

    pub object_told : AllTold here root parts (cells_at root (inner_of file.structs name))
    object_told = inner_told here root parts kind (whole (OfStruct name)) leads self 0 (inner_of file.structs name) typed.led

    pub object_some : SomeIs here root parts (cells_at root (inner_of file.structs name))
    object_some =
        let within : Offset file formed (whole (OfStruct name)) parts + 1 ≤ size_of_type (sizes file.structs) (OfStruct name) =
        walk-within (sizes file.structs) (lists_of file.structs) (struct_table file.structs) (shaped file formed) (Some (whole (OfStruct name)))
        (whole (OfStruct name)) (whole (OfScalar kind)) parts refl leads in
        let long : length (inner_of file.structs name) ≡ size_of_type (sizes file.structs) (OfStruct name) = typed.long in
        some_inner here root parts kind (whole (OfStruct name)) leads self 0 (inner_of file.structs name) typed.led (omega arith)
        (omega (arith, within, long))

  -- cells of another object are others
  others_told : (here : Memory) (root other : Root) (parts : List Projection) → same_root other root ≡ false → (is : List Inner) →
      AllTold here root parts (cells_at other is)
  others_told here root other parts differ [] = tt
  others_told here root other parts differ (i ∷ is) =
      (inr (ap (λ b. b && is_some (left_after i.parts parts)) differ), others_told here root other parts differ is)

  abbrev first : List Cell
  first = cells_at state_object (inner_of file.structs (codes "bl_state"))

  abbrev second : List Cell
  second = cells_at input_object (inner_of file.structs (codes "bl_in"))

  abbrev third : List Cell
  third = cells_at output_object (inner_of file.structs (codes "bl_out"))

  -- a number of an object
  kept_at : (here : Memory) (root : Root) (parts : List Projection) (kind : Scalar) →
      walk (struct_table file.structs) (whole_spot (object_types root)) parts ≡ Some (whole (OfScalar kind)) → regained file here root parts
      ≡ here root parts
  unfolding cells_of
  kept_at here state_object parts kind leads =
      kept_among here state_object parts ((first ++ second) ++ third)
      (told_append here state_object parts (first ++ second) third
      (told_append here state_object parts first second (object_told here state_object (codes "bl_state") parts kind leads refl)
      (others_told here state_object input_object parts refl (inner_of file.structs (codes "bl_in"))))
      (others_told here state_object output_object parts refl (inner_of file.structs (codes "bl_out"))))
      (some_left here state_object parts (first ++ second) third
      (some_left here state_object parts first second (object_some here state_object (codes "bl_state") parts kind leads refl)))
  kept_at here input_object parts kind leads =
      kept_among here input_object parts ((first ++ second) ++ third)
      (told_append here input_object parts (first ++ second) third
      (told_append here input_object parts first second (others_told here input_object state_object parts refl (inner_of file.structs (codes "bl_state")))
      (object_told here input_object (codes "bl_in") parts kind leads refl))
      (others_told here input_object output_object parts refl (inner_of file.structs (codes "bl_out"))))
      (some_left here input_object parts (first ++ second) third
      (some_right here input_object parts first second (object_some here input_object (codes "bl_in") parts kind leads refl)))
  kept_at here output_object parts kind leads =
      kept_among here output_object parts ((first ++ second) ++ third)
      (told_append here output_object parts (first ++ second) third
      (told_append here output_object parts first second (others_told here output_object state_object parts refl (inner_of file.structs (codes "bl_state")))
      (others_told here output_object input_object parts refl (inner_of file.structs (codes "bl_in"))))
      (object_told here output_object (codes "bl_out") parts kind leads refl))
      (some_right here output_object parts (first ++ second) third (object_some here output_object (codes "bl_out") parts kind leads refl))
  kept_at here (variable depth name) parts kind leads =
      absurd (let none = sym (walk-nowhere (sizes file.structs) (lists_of file.structs) (struct_table file.structs) (shaped file formed) parts) ∙
      leads in cc)

  whole_so : (o : Option ValueSpot) (ty : CType) → whole_type o ≡ Some ty → o ≡ Some (whole ty)
  whole_so None ty is = absurd (cc)
  whole_so (Some (whole other)) ty is = ap (λ t. Some (whole t)) (Rattle.std.proofs.lemmas.Option.same_Some other ty is)
  whole_so (Some (Rattle.bl_ctext_semantics_laws.specs.Fitting.row n other)) ty is = absurd (cc)

  pub cells_kept : CellsKept file
  cells_kept here place kind is =
      ap (regained file here place.root) (append-nil place.parts)
      ∙ kept_at here place.root place.parts kind
      (whole_so (walk (struct_table file.structs) (whole_spot (object_types place.root)) place.parts) (OfScalar kind) is)
      ∙ sym (ap (here place.root) (append-nil place.parts))

pub all_kept : AllCellsKept
all_kept file formed = cells_kept file formed
