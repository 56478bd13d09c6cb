-- Numbers of objects in cells, and calls of a file's functions from outside.
use Rattle.std.proofs.Common.{◌≡◌, ℕ, suc, ◌+◌, ◌≤◌, ◌<◌, inl, inr, ⊎_elim, ℤ, pos, Bool, true, false, ◌&&◌, List, [], ◌∷◌, ◌++◌, map, length, take}
use Rattle.std.proofs.Common.{drop, Option, Some, None, refl, ap, sym, subst, ◌∙◌, arith, append-nil, append_assoc, length-append, drop-cons}
use Rattle.std.proofs.Common.{get_or-append-add}
use Rattle.std.specs.Prelude.{bytes_eq, is_some, codes, ◌==◌}
use Rattle.std.specs.List.{list_all}
use Rattle.std.proofs.lemmas.Grind.{common_steps}
use Rattle.std.proofs.lemmas.Bool.{and_from}
use Rattle.bl_tree.proofs.Basics.{and_first, and_second, first_empty, second_empty}
use Rattle.bl_tree.specs.declared.text.Text.{Text}
use Rattle.bl_tree.specs.declared.scalar.Scalar.{Scalar}
use Rattle.bl_tree.specs.declared.c.CType.{CType}
use Rattle.bl_tree.specs.declared.c.CType.TheVariants.{Scalar as OfScalar, Struct as OfStruct}
use Rattle.bl_tree.specs.declared.c.CParam.{CParam}
use Rattle.bl_tree.specs.declared.c.CFunc.{CFunc}
use Rattle.bl_tree.specs.Reduce.{all_of}
use Rattle.bl_tree.specs.Scalar.{in_range}
use Rattle.bl_ctext.specs.Spellable.{has_any, is_spellable, spells_func, spells_struct}
use Rattle.bl_ctext_semantics.specs.Cells.{Cell, Inner, cells_at, cells_of, inner_of, numbers_of}
use Rattle.bl_ctext_semantics.specs.Memory.{Projection, Root, state_object, input_object, output_object, variable, CValue, Memory, left_after, scalar_number}
use Rattle.bl_ctext_semantics.specs.Memory.{same_root, value_at}
use Rattle.bl_ctext_semantics.specs.Meaning.{ArgumentValue, applied as applied_c, meanings}
use Rattle.bl_ctext_semantics.specs.Parts.{Parts}
use Rattle.bl_ctext_semantics.specs.Sizes.{cells_needed, chains_after, size_of_type, sizes}
use Rattle.bl_ctext_semantics.specs.Tables.{found, no_entries}
use Rattle.bl_ctext_semantics.specs.Trace.{call_from_outside, object}
use Rattle.bl_ctext_semantics.specs.Faults.{WellFormed, faults_in, function_faults_after, init_params, interface_structs, last_place, points_to}
use Rattle.bl_ctext_semantics.specs.Faults.{signature_in, struct_faults_after, struct_table, tick_params, unless}
use Rattle.bl_ctext_semantics_laws.specs.Fitting.{ValueSpot, cell_holds, scalars, whole, walk}
use Rattle.bl_ctext_semantics_laws.proofs.Lists.{all-append}
use Rattle.bl_ctext_semantics_laws.specs.Laws.{SameCall, StartsAgree, TicksAgree, behind_objects, cells_in, entered_flat, input_at, output_at, routines}
use Rattle.bl_ctext_semantics_laws.specs.Flat.{Cells, applied, cell_at}
use Rattle.bl_ctext_semantics_laws.proofs.Faultless.{unless-nil}
use Rattle.bl_ctext_semantics_laws.proofs.Entries.{Apart}
use Rattle.bl_ctext_semantics_laws.proofs.Ways.{Shaped, Structs, left-is, walk-append, walk-within, way_offset, ways-apart}
use Rattle.bl_ctext_semantics_laws.proofs.Standing.{Separate, Stand, Stands, World}
use Rattle.bl_ctext_semantics_laws.proofs.Running.{AddressAt, CallAgrees, PassedAll}
use Rattle.bl_ctext_semantics_laws.proofs.Values.{same-type}
use Rattle.bl_ctext_semantics_laws.proofs.Layouts.{entries-all, inner-file, lists_of, shaped-file}
use Rattle.bl_ctext_semantics_laws.proofs.Files.{FoundAs, Interface, functions-found, interface-of, named}
use Rattle.bl_ctext_semantics_laws.proofs.Inners.{Led, LedType, led-all}

-- ---- lists of numbers in cells

-- these numbers stand in the cells from one on
abbrev pub Begins : Cells → ℕ → List ℤ → Type 0
Begins cells at [] = Unit {0}
Begins cells at (n ∷ ns) = (cell_at cells at ≡ n) × Begins cells (suc at) ns

begins-append : (cells : Cells) (at : ℕ) (xs ys : List ℤ) → Begins cells at xs → Begins cells (at + length xs) ys → Begins cells at (xs ++ ys)
begins-append cells at [] ys h k = let e : at + 0 ≡ at = omega arith in subst (λ n. Begins cells n ys) e k
begins-append cells at (x ∷ xs) ys h k =
    let e : at + suc (length xs) ≡ suc at + length xs = omega arith in
    (h.0, begins-append cells (suc at) xs ys h.1 (subst (λ n. Begins cells n ys) e k))

pub begins-taken : (cells : Cells) (at : ℕ) (ns : List ℤ) → at + length ns ≤ length cells → Begins cells at ns →
    take (length ns) (drop at cells) ≡ ns
begins-taken cells at [] fits h = refl
begins-taken cells at (n ∷ ns) fits h =
    ap (take (suc (length ns))) (drop-cons cells at (pos 0) (omega arith)) ∙ ap (λ x. x ∷ take (length ns) (drop (suc at) cells)) h.0
    ∙ ap (λ xs. n ∷ xs) (begins-taken cells (suc at) ns (omega arith) h.1)

-- a value's scalars stand in the cells from one on, each in its range
abbrev ValueIn : Cells → ℕ → CValue → List Inner → Type 0
ValueIn cells at value [] = Unit {0}
ValueIn cells at value (i ∷ is) = ((cell_at cells at ≡ value i.parts) × (in_range i.kind (value i.parts) ≡ true)) × ValueIn cells (suc at) value is

cells-length : (root : Root) (is : List Inner) (memory : Memory) → length (numbers_of (cells_at root is) memory) ≡ length is
cells-length root [] memory = refl
cells-length root (i ∷ is) memory = ap suc (cells-length root is memory)

numbers-append : (xs ys : List Cell) (memory : Memory) → numbers_of (xs ++ ys) memory ≡ numbers_of xs memory ++ numbers_of ys memory
numbers-append [] ys memory = refl
numbers-append (x ∷ xs) ys memory = ap (λ l. scalar_number (value_at memory x.location) ∷ l) (numbers-append xs ys memory)

pub numbers-length : (cells : List Cell) (memory : Memory) → length (numbers_of cells memory) ≡ length cells
numbers-length [] memory = refl
numbers-length (c ∷ cells) memory = ap suc (numbers-length cells memory)

-- numbers that stand in a list, seen as a value in cells
value-in : (root : Root) (memory : Memory) (before : List ℤ) (is : List Inner) (rest : List ℤ) →
    list_all (cell_holds memory) (cells_at root is) ≡ true →
    ValueIn (before ++ (numbers_of (cells_at root is) memory ++ rest)) (length before) (memory root) is
value-in root memory before [] rest all = tt
value-in root memory before (i ∷ is) rest all =
    let n : ℤ = memory root (i.parts ++ []) in
    let z : length before + 0 ≡ length before = omega arith in
    let here : cell_at (before ++ (memory root (i.parts ++ []) ∷ (numbers_of (cells_at root is) memory ++ rest))) (length before)
    ≡ memory root (i.parts ++ []) =
    ap (cell_at (before ++ (memory root (i.parts ++ []) ∷ (numbers_of (cells_at root is) memory ++ rest)))) (sym z)
    ∙ get_or-append-add before (memory root (i.parts ++ []) ∷ (numbers_of (cells_at root is) memory ++ rest)) 0 (pos 0) in
    let same : memory root (i.parts ++ []) ≡ memory root i.parts = ap (memory root) (append-nil i.parts) in
    let next : ValueIn ((before ++ (memory root (i.parts ++ []) ∷ [])) ++ (numbers_of (cells_at root is) memory ++ rest))
    (length (before ++ (memory root (i.parts ++ []) ∷ []))) (memory root) is =
    value-in root memory (before ++ (memory root (i.parts ++ []) ∷ [])) is rest (and_second (in_range i.kind (memory root (i.parts ++ []))) _ all) in
    let long : length (before ++ (memory root (i.parts ++ []) ∷ [])) ≡ suc (length before) =
    length-append before (memory root (i.parts ++ []) ∷ []) ∙ omega arith in (
      (here ∙ same, ap (in_range i.kind) (sym same) ∙ and_first (in_range i.kind (memory root (i.parts ++ []))) _ all),
      subst (λ l. ValueIn l (suc (length before)) (memory root) is)
          (append_assoc before (memory root (i.parts ++ []) ∷ []) (numbers_of (cells_at root is) memory ++ rest))
          (subst (λ k. ValueIn ((before ++ (memory root (i.parts ++ []) ∷ [])) ++ (numbers_of (cells_at root is) memory ++ rest)) k (memory root) is) long
          next),
    )

module _ (file : Parts) (formed : WellFormed file) where
  abbrev structs : Structs
  structs = struct_table file.structs

  pub shaped : Shaped (sizes file.structs) (lists_of file.structs) (struct_table file.structs)
  shaped = shaped-file file formed

  abbrev pub Leads : ValueSpot → ℕ → List Inner → Type 0
  Leads = Led (sizes file.structs) (lists_of file.structs) (struct_table file.structs) shaped (scalars file.structs) (inner-file file formed)

  abbrev pub Typed : CType → Type 0
  Typed = LedType (sizes file.structs) (lists_of file.structs) (struct_table file.structs) shaped (scalars file.structs) (inner-file file formed)

  abbrev pub Offset : ValueSpot → List Projection → ℕ
  Offset spot parts = way_offset (sizes file.structs) (lists_of file.structs) (struct_table file.structs) (Some spot) parts

  pub struct-led : (name : Text) → is_some (struct_table file.structs name) ≡ true → Typed (OfStruct name)
  unfolding faults_in
  struct-led name there =
      let none : struct_faults_after no_entries no_entries file.structs ≡ [] =
      first_empty (struct_faults_after no_entries no_entries file.structs) _ formed.none in
      led-all (sizes file.structs) (lists_of file.structs) (struct_table file.structs) shaped (scalars file.structs) (inner-file file formed) no_entries
      no_entries no_entries file.structs (λ n. refl) (λ n. refl)
      (λ n h. cc) none name (ap (λ t. is_some (t name)) (entries-all _ file.structs) ∙ there)

  -- ---- a way and the scalar that stands at its cell

  scalar-end : (kind other : Scalar) (rest : List Projection) →
      walk (struct_table file.structs) (Some (whole (OfScalar kind))) rest ≡ Some (whole (OfScalar other)) → (rest ≡ []) × (kind ≡ other)
  scalar-end kind other [] h = (refl, same kind other h)
    where
      same : (a b : Scalar) → Some (whole (OfScalar a)) ≡ Some (whole (OfScalar b)) → a ≡ b
      same a b h = cc
  scalar-end kind other (q ∷ []) h = cc
  scalar-end kind other (q ∷ r ∷ rest) h = cc

  same-way : (spot : ValueSpot) (i : Inner) (parts : List Projection) (kind : Scalar) →
      walk (struct_table file.structs) (Some spot) i.parts ≡ Some (whole (OfScalar i.kind)) →
      walk (struct_table file.structs) (Some spot) parts ≡ Some (whole (OfScalar kind)) →
      Offset spot i.parts ≡ Offset spot parts → (parts ≡ i.parts) × (kind ≡ i.kind)
  same-way spot i parts kind a b same = chosen (left_after i.parts parts) refl
    where
      chosen : (o : Option (List Projection)) → left_after i.parts parts ≡ o → (parts ≡ i.parts) × (kind ≡ i.kind)
      chosen None is =
          ⊎_elim (λ (l : Offset spot i.parts + 1 ≤ Offset spot parts). absurd (omega arith))
          (λ (r : Offset spot parts + 1 ≤ Offset spot i.parts). absurd (omega arith))
          (ways-apart (sizes file.structs) (lists_of file.structs) (struct_table file.structs) shaped (Some spot) (whole (OfScalar i.kind)) kind i.parts parts
          a b is)
      chosen (Some rest) is =
          let way : parts ≡ i.parts ++ rest = left-is (sizes file.structs) (lists_of file.structs) (struct_table file.structs) shaped i.parts parts rest is in
          let last : walk (struct_table file.structs) (Some (whole (OfScalar i.kind))) rest ≡ Some (whole (OfScalar kind)) =
          ap (λ o. walk (struct_table file.structs) o rest) (sym a)
          ∙ sym (walk-append (sizes file.structs) (lists_of file.structs) (struct_table file.structs) shaped (Some spot) i.parts rest)
          ∙ ap (walk (struct_table file.structs) (Some spot)) (sym way) ∙ b in
          let e = scalar-end i.kind kind rest last in
          (way ∙ ap (λ r. i.parts ++ r) e.0 ∙ append-nil i.parts, sym e.1)

  found-in : (spot : ValueSpot) (base at : ℕ) (is : List Inner) (cells : Cells) (value : CValue) (parts : List Projection) (kind : Scalar) → Leads spot at is →
      ValueIn cells (base + at) value is →
      walk (struct_table file.structs) (Some spot) parts ≡ Some (whole (OfScalar kind)) → at ≤ Offset spot parts →
      Offset spot parts < at + length is →
      (cell_at cells (base + Offset spot parts) ≡ value parts) × (in_range kind (value parts) ≡ true)
  found-in spot base at [] cells value parts kind led here leads low high = absurd (omega arith)
  found-in spot base at (i ∷ is) cells value parts kind led here leads low high =
      let e : suc (base + at) ≡ base + suc at = omega arith in
      chosen (Offset spot parts == at) refl
      (λ above. found-in spot base (suc at) is cells value parts kind led.1 (subst (λ n. ValueIn cells n value is) e here.1) leads above (omega arith))
    where
      chosen : (b : Bool) → (Offset spot parts == at) ≡ b →
          (suc at ≤ Offset spot parts → (cell_at cells (base + Offset spot parts) ≡ value parts) × (in_range kind (value parts) ≡ true)) →
          (cell_at cells (base + Offset spot parts) ≡ value parts) × (in_range kind (value parts) ≡ true)
      chosen true is later =
          let e : Offset spot parts ≡ at = grind (arith, common_steps) in
          let s = same-way spot i parts kind led.0.0 leads (led.0.1 ∙ sym e) in (
            ap (λ n. cell_at cells (base + n)) e ∙ here.0.0 ∙ ap value (sym s.0),
            ap (λ ps. in_range kind (value ps)) s.0
                ∙ ap (λ k. in_range k (value i.parts)) s.1 ∙ here.0.1,
          )
      chosen false is later = later (grind (arith, common_steps))

  -- ---- the three objects

  abbrev pub stand_of_object : Root → Option Stand
  stand_of_object state_object = Some (record { at = 0; ty = OfStruct (codes "bl_state") })
  stand_of_object input_object = Some (record { at = input_at file; ty = OfStruct (codes "bl_in") })
  stand_of_object output_object = Some (record { at = output_at file; ty = OfStruct (codes "bl_out") })
  stand_of_object (variable d name) = None

  abbrev pub objects : World
  objects = record { stand = stand_of_object; kept = []; top = behind_objects file }

  abbrev pub Standing : Memory → Cells → Type 0
  Standing = Stands (sizes file.structs) (lists_of file.structs) (struct_table file.structs) shaped (cells_needed file) objects

  some_stand : (a b : Stand) → Some a ≡ Some b → a ≡ b
  some_stand a b h = cc

  pub objects-separate : Separate (sizes file.structs) objects
  objects-separate = record { below = below; apart = apart; away = λ root s there. tt; low = tt }
    where
      below : (root : Root) (s : Stand) → stand_of_object root ≡ Some s → s.at + size_of_type (sizes file.structs) s.ty ≤ behind_objects file
      below state_object s h = subst (λ t. t.at + size_of_type (sizes file.structs) t.ty ≤ behind_objects file) (some_stand _ s h) (omega arith)
      below input_object s h = subst (λ t. t.at + size_of_type (sizes file.structs) t.ty ≤ behind_objects file) (some_stand _ s h) (omega arith)
      below output_object s h = subst (λ t. t.at + size_of_type (sizes file.structs) t.ty ≤ behind_objects file) (some_stand _ s h) (omega arith)
      below (variable d name) s h = cc

      both : (x y s t : Stand) → Some x ≡ Some s → Some y ≡ Some t →
          Apart x.at (size_of_type (sizes file.structs) x.ty) y.at (size_of_type (sizes file.structs) y.ty) →
          Apart s.at (size_of_type (sizes file.structs) s.ty) t.at (size_of_type (sizes file.structs) t.ty)
      both x y s t h k d =
          subst (λ u. Apart u.at (size_of_type (sizes file.structs) u.ty) t.at (size_of_type (sizes file.structs) t.ty)) (some_stand x s h)
          (subst (λ u. Apart x.at (size_of_type (sizes file.structs) x.ty) u.at (size_of_type (sizes file.structs) u.ty)) (some_stand y t k) d)

      apart : (root other : Root) (s t : Stand) → stand_of_object root ≡ Some s → stand_of_object other ≡ Some t → same_root root other ≡ false →
          Apart s.at (size_of_type (sizes file.structs) s.ty) t.at (size_of_type (sizes file.structs) t.ty)
      apart state_object state_object s t h k differ = cc
      apart state_object input_object s t h k differ = both _ _ s t h k (inl (omega arith))
      apart state_object output_object s t h k differ = both _ _ s t h k (inl (omega arith))
      apart input_object state_object s t h k differ = both _ _ s t h k (inr (omega arith))
      apart input_object input_object s t h k differ = cc
      apart input_object output_object s t h k differ = both _ _ s t h k (inl (omega arith))
      apart output_object state_object s t h k differ = both _ _ s t h k (inr (omega arith))
      apart output_object input_object s t h k differ = both _ _ s t h k (inr (omega arith))
      apart output_object output_object s t h k differ = cc
      apart (variable d name) other s t h k differ = cc
      apart state_object (variable d name) s t h k differ = cc
      apart input_object (variable d name) s t h k differ = cc
      apart output_object (variable d name) s t h k differ = cc

  module _ (declared : (is_some (struct_table file.structs (codes "bl_state"))
      && (is_some (struct_table file.structs (codes "bl_in")) && is_some (struct_table file.structs (codes "bl_out")))) ≡ true) where
    pub state-typed : Typed (OfStruct (codes "bl_state"))
    state-typed = struct-led (codes "bl_state") (and_first _ _ declared)

    pub input-typed : Typed (OfStruct (codes "bl_in"))
    input-typed = struct-led (codes "bl_in") (and_first _ _ (and_second (is_some (struct_table file.structs (codes "bl_state"))) _ declared))

    pub output-typed : Typed (OfStruct (codes "bl_out"))
    output-typed = struct-led (codes "bl_out")
        (and_second (is_some (struct_table file.structs (codes "bl_in"))) _ (and_second (is_some (struct_table file.structs (codes "bl_state"))) _ declared))

    abbrev inners : Text → List Inner
    inners name = inner_of file.structs name

    abbrev first : List Cell
    first = cells_at state_object (inners (codes "bl_state"))

    abbrev second : List Cell
    second = cells_at input_object (inners (codes "bl_in"))

    abbrev third : List Cell
    third = cells_at output_object (inners (codes "bl_out"))

    -- ---- from the numbers to what stands

    object-reads : (root : Root) (name : Text) (at : ℕ) (memory : Memory) (cells : Cells) → Typed (OfStruct name) →
        ValueIn cells at (memory root) (inner_of file.structs name) → (parts : List Projection) (kind : Scalar) →
        walk (struct_table file.structs) (Some (whole (OfStruct name))) parts ≡ Some (whole (OfScalar kind)) →
        (cell_at cells (at + Offset (whole (OfStruct name)) parts) ≡ memory root parts) × (in_range kind (memory root parts) ≡ true)
    object-reads root name at memory cells typed here parts kind leads =
        let within : Offset (whole (OfStruct name)) parts + 1 ≤ size_of_type (sizes file.structs) (OfStruct name) =
        walk-within (sizes file.structs) (lists_of file.structs) (struct_table file.structs) shaped (Some (whole (OfStruct name))) (whole (OfStruct name))
        (whole (OfScalar kind)) parts refl leads in
        let long : length (inner_of file.structs name) ≡ size_of_type (sizes file.structs) (OfStruct name) = typed.long in
        let z : at ≡ at + 0 = omega arith in
        found-in (whole (OfStruct name)) at 0 (inner_of file.structs name) cells (memory root) parts kind typed.led
        (subst (λ n. ValueIn cells n (memory root) (inner_of file.structs name)) z here) leads (omega arith) (omega arith)

    objects-stand : (memory : Memory) (cells : Cells) → cells_needed file ≤ length cells →
        ValueIn cells 0 (memory state_object) (inners (codes "bl_state")) →
        ValueIn cells (input_at file) (memory input_object) (inners (codes "bl_in")) →
        ValueIn cells (output_at file) (memory output_object) (inners (codes "bl_out")) → Standing memory cells
    objects-stand memory cells room a b c = record {
      room = room;
      reads = λ root s parts kind there leads. (chosen root s parts kind there leads).0;
      ranges = λ root s parts kind there leads. (chosen root s parts kind there leads).1;
      kept = tt;
    }
      where
        of-stand : (root : Root) (x s : Stand) (parts : List Projection) (kind : Scalar) → Some x ≡ Some s →
            (walk (struct_table file.structs) (Some (whole x.ty)) parts ≡ Some (whole (OfScalar kind)) →
            (cell_at cells (x.at + Offset (whole x.ty) parts) ≡ memory root parts) × (in_range kind (memory root parts) ≡ true)) →
            walk (struct_table file.structs) (Some (whole s.ty)) parts ≡ Some (whole (OfScalar kind)) →
            (cell_at cells (s.at + Offset (whole s.ty) parts) ≡ memory root parts) × (in_range kind (memory root parts) ≡ true)
        of-stand root x s parts kind is h leads =
            let e : x ≡ s = some_stand x s is in
            subst (λ t. (cell_at cells (t.at + Offset (whole t.ty) parts) ≡ memory root parts) × (in_range kind (memory root parts) ≡ true)) e
            (h (ap (λ t. walk (struct_table file.structs) (Some (whole t.ty)) parts) e ∙ leads))

        chosen : (root : Root) (s : Stand) (parts : List Projection) (kind : Scalar) → stand_of_object root ≡ Some s →
            walk (struct_table file.structs) (Some (whole s.ty)) parts ≡ Some (whole (OfScalar kind)) →
            (cell_at cells (s.at + Offset (whole s.ty) parts) ≡ memory root parts) × (in_range kind (memory root parts) ≡ true)
        chosen state_object s parts kind there leads =
            of-stand state_object (record { at = 0; ty = OfStruct (codes "bl_state") }) s parts kind there
            (λ l. object-reads state_object (codes "bl_state") 0 memory cells state-typed a parts kind l) leads
        chosen input_object s parts kind there leads =
            of-stand input_object (record { at = input_at file; ty = OfStruct (codes "bl_in") }) s parts kind there
            (λ l. object-reads input_object (codes "bl_in") (input_at file) memory cells input-typed b parts kind l) leads
        chosen output_object s parts kind there leads =
            of-stand output_object (record { at = output_at file; ty = OfStruct (codes "bl_out") }) s parts kind there
            (λ l. object-reads output_object (codes "bl_out") (output_at file) memory cells output-typed c parts kind l) leads
        chosen (variable d name) s parts kind there leads = cc

    input-long : length (inners (codes "bl_state")) ≡ input_at file
    input-long = state-typed.long

    output-long : length (inners (codes "bl_state")) + length (inners (codes "bl_in")) ≡ output_at file
    output-long = let a = input-long in let b : length (inner_of file.structs (codes "bl_in")) ≡ cells_in file (codes "bl_in") =
        input-typed.long in omega arith

    pub begins-standing : (memory : Memory) (others : List ℤ) → list_all (cell_holds memory) (cells_of file) ≡ true →
        cells_needed file ≤ length (numbers_of (cells_of file) memory ++ others) →
        Standing memory (numbers_of (cells_of file) memory ++ others)
    unfolding cells_of
    begins-standing memory others all room =
        let parts : list_all (cell_holds memory) ((first ++ second) ++ third) ≡ true = all in
        let split = sym (all-append (cell_holds memory) (first ++ second) third) ∙ parts in
        let fit-third = and_second (list_all (cell_holds memory) (first ++ second)) _ split in
        let split-two = sym (all-append (cell_holds memory) first second) ∙ and_first _ _ split in
        let numbers : numbers_of ((first ++ second) ++ third) memory ≡ (numbers_of first memory ++ numbers_of second memory) ++ numbers_of third memory =
        numbers-append (first ++ second) third memory ∙ ap (λ l. l ++ numbers_of third memory) (numbers-append first second memory) in
        let whole-is : numbers_of ((first ++ second) ++ third) memory ++ others ≡ numbers_of first memory
        ++ (numbers_of second memory ++ (numbers_of third memory ++ others)) =
        ap (λ l. l ++ others) numbers ∙ append_assoc (numbers_of first memory ++ numbers_of second memory) (numbers_of third memory) others
        ∙ append_assoc (numbers_of first memory) (numbers_of second memory) (numbers_of third memory ++ others) in
        let whole-two : numbers_of ((first ++ second) ++ third) memory ++ others ≡ (numbers_of first memory ++ numbers_of second memory)
        ++ (numbers_of third memory ++ others) =
        ap (λ l. l ++ others) numbers ∙ append_assoc (numbers_of first memory ++ numbers_of second memory) (numbers_of third memory) others in
        let long-one : length (numbers_of first memory) ≡ input_at file = cells-length state_object (inners (codes "bl_state")) memory ∙ input-long in
        let long-two : length (numbers_of first memory ++ numbers_of second memory) ≡ output_at file =
        let la = cells-length state_object (inners (codes "bl_state")) memory in
        let lb = cells-length input_object (inners (codes "bl_in")) memory in
        let lc = output-long in
        length-append (numbers_of first memory) (numbers_of second memory) ∙ omega arith in
        objects-stand memory (numbers_of (cells_of file) memory ++ others) room
        (subst (λ l. ValueIn l 0 (memory state_object) (inners (codes "bl_state"))) (sym whole-is)
        (value-in state_object memory [] (inners (codes "bl_state")) (numbers_of second memory ++ (numbers_of third memory ++ others))
        (and_first _ _ split-two)))
        (subst (λ l. ValueIn l (input_at file) (memory input_object) (inners (codes "bl_in"))) (sym whole-is)
        (subst (λ k. ValueIn (numbers_of first memory ++ (numbers_of second memory ++ (numbers_of third memory ++ others))) k (memory input_object)
        (inners (codes "bl_in"))) long-one
        (value-in input_object memory (numbers_of first memory) (inners (codes "bl_in")) (numbers_of third memory ++ others)
        (and_second (list_all (cell_holds memory) first) _ split-two))))
        (subst (λ l. ValueIn l (output_at file) (memory output_object) (inners (codes "bl_out"))) (sym whole-two)
        (subst (λ k. ValueIn ((numbers_of first memory ++ numbers_of second memory) ++ (numbers_of third memory ++ others)) k (memory output_object)
        (inners (codes "bl_out"))) long-two
        (value-in output_object memory (numbers_of first memory ++ numbers_of second memory) (inners (codes "bl_out")) others fit-third)))

    -- ---- from what stands to the numbers

    object-begins : (root : Root) (s : Stand) (memory : Memory) (cells : Cells) (k at : ℕ) (is : List Inner) → Standing memory cells →
        stand_of_object root ≡ Some s → s.at + k ≡ at → Leads (whole s.ty) k is →
        Begins cells at (numbers_of (cells_at root is) memory) × (list_all (cell_holds memory) (cells_at root is) ≡ true)
    object-begins root s memory cells k at [] stands there is led = (tt, refl)
    object-begins root s memory cells k at (i ∷ is) stands there sum led =
        let rest = object-begins root s memory cells (suc k) (suc at) is stands there (omega arith) led.1 in
        let same : memory root i.parts ≡ memory root (i.parts ++ []) = ap (memory root) (sym (append-nil i.parts)) in (
          (ap (cell_at cells) (sym (ap (λ n. s.at + n) led.0.1 ∙ sum)) ∙ stands.reads root s i.parts i.kind there led.0.0 ∙ same, rest.0),
          and_from _ _ (ap (in_range i.kind) (sym same) ∙ stands.ranges root s i.parts i.kind there led.0.0) rest.1,
        )

    pub ends-standing : (memory : Memory) (cells : Cells) → Standing memory cells →
        (take (length (cells_of file)) cells ≡ numbers_of (cells_of file) memory) × (list_all (cell_holds memory) (cells_of file) ≡ true)
    unfolding cells_of
    ends-standing memory cells stands =
        let z : input_at file + 0 ≡ input_at file = omega arith in
        let y : output_at file + 0 ≡ output_at file = omega arith in
        let a = object-begins state_object (record { at = 0; ty = OfStruct (codes "bl_state") }) memory cells 0 0 (inners (codes "bl_state")) stands refl refl
        state-typed.led in
        let b = object-begins input_object (record { at = input_at file; ty = OfStruct (codes "bl_in") }) memory cells 0 (input_at file)
        (inners (codes "bl_in")) stands refl z input-typed.led in
        let c = object-begins output_object (record { at = output_at file; ty = OfStruct (codes "bl_out") }) memory cells 0 (output_at file)
        (inners (codes "bl_out")) stands refl y output-typed.led in
        let long-one : length (numbers_of first memory) ≡ input_at file = cells-length state_object (inners (codes "bl_state")) memory ∙ input-long in
        let long-two : length (numbers_of first memory ++ numbers_of second memory) ≡ output_at file =
        let la = cells-length state_object (inners (codes "bl_state")) memory in
        let lb = cells-length input_object (inners (codes "bl_in")) memory in
        let lc = output-long in
        length-append (numbers_of first memory) (numbers_of second memory) ∙ omega arith in
        let long-third : length (numbers_of third memory) ≡ cells_in file (codes "bl_out") =
        cells-length output_object (inners (codes "bl_out")) memory ∙ output-typed.long in
        let one-two : Begins cells 0 (numbers_of first memory ++ numbers_of second memory) =
        begins-append cells 0 (numbers_of first memory) (numbers_of second memory) a.0
        (subst (λ n. Begins cells n (numbers_of second memory)) (sym (let e = long-one in omega arith)) b.0) in
        let all-three : Begins cells 0 ((numbers_of first memory ++ numbers_of second memory) ++ numbers_of third memory) =
        begins-append cells 0 (numbers_of first memory ++ numbers_of second memory) (numbers_of third memory) one-two
        (subst (λ n. Begins cells n (numbers_of third memory)) (sym (let e = long-two in omega arith)) c.0) in
        let numbers : numbers_of ((first ++ second) ++ third) memory ≡ (numbers_of first memory ++ numbers_of second memory) ++ numbers_of third memory =
        numbers-append (first ++ second) third memory ∙ ap (λ l. l ++ numbers_of third memory) (numbers-append first second memory) in
        let long : length ((numbers_of first memory ++ numbers_of second memory) ++ numbers_of third memory) ≡ behind_objects file =
        length-append (numbers_of first memory ++ numbers_of second memory) (numbers_of third memory) ∙ omega arith in
        let room = stands.room in
        let counted : length ((first ++ second) ++ third) ≡ length ((numbers_of first memory ++ numbers_of second memory) ++ numbers_of third memory) =
        sym (numbers-length ((first ++ second) ++ third) memory) ∙ ap length numbers in (
          ap (λ n. take n cells) counted
              ∙ begins-taken cells 0 ((numbers_of first memory ++ numbers_of second memory) ++ numbers_of third memory)
              (omega arith) all-three ∙ sym numbers,
          all-append (cell_holds memory) (first ++ second) third ∙ and_from _ _ (all-append (cell_holds memory) first second ∙ and_from _ _ a.1 b.1) c.1,
        )

    -- ---- the calls

    module _ (spelled : is_spellable file.structs file.funcs ≡ true) (small : cells_needed file ≤ 1000000) where
      spelled-functions : all_of (map spells_func file.funcs) ≡ true
      spelled-functions =
          and_first _ _ (and_second (all_of (map spells_struct file.structs)) _ (and_second (has_any file.funcs) _ (and_second (has_any file.structs) _ spelled)))

      faultless : function_faults_after (struct_table file.structs) no_entries no_entries file.funcs ≡ []
      unfolding faults_in
      faultless = first_empty _ _ (second_empty (struct_faults_after no_entries no_entries file.structs) _ formed.none)

      pub interface : Interface file.funcs
      unfolding faults_in
      interface =
          let h1 = second_empty (struct_faults_after no_entries no_entries file.structs) _ formed.none in
          let h2 = second_empty (function_faults_after (struct_table file.structs) no_entries no_entries file.funcs) _ h1 in
          interface-of (struct_table file.structs) no_entries no_entries file.funcs faultless
          (second_empty (unless (is_some (struct_table file.structs (codes "bl_state"))
          && (is_some (struct_table file.structs (codes "bl_in")) && is_some (struct_table file.structs (codes "bl_out")))) interface_structs
          (last_place file.funcs)) _ h2)

      found-as : (name : Text) (g : CFunc) → found name (named file.funcs) ≡ Some g →
          FoundAs file shaped (cells_needed file) small g (found name (meanings file.funcs)) (found name (routines file))
          (chains_after (sizes file.structs) no_entries file.funcs)
      found-as name g there =
          functions-found file shaped (cells_needed file) small no_entries no_entries no_entries no_entries no_entries file.funcs
          (record { a = λ n. refl; b = λ n. refl; c = λ n. refl }) (λ n s h. cc)
          faultless spelled-functions interface.last name g there

      -- a call where memory stands in cells
      pub call-from : (name : Text) (g : CFunc) (passed : List ArgumentValue) (args : List ℤ) → found name (named file.funcs) ≡ Some g →
          (memory : Memory) (cells : Cells) → Standing memory cells →
          PassedAll (sizes file.structs) (lists_of file.structs) (struct_table file.structs) shaped (cells_needed file) objects memory (signature_in g).params
          passed args →
          CallAgrees (sizes file.structs) (lists_of file.structs) (struct_table file.structs) shaped (cells_needed file) objects (signature_in g).result
          (call_from_outside file name passed memory) (entered_flat file name args cells)
      unfolding call_from_outside entered_flat
      call-from name g passed args there memory cells stands passes =
          let f = found-as name g there in
          let l = f.least in
          subst (λ o. CallAgrees (sizes file.structs) (lists_of file.structs) (struct_table file.structs) shaped (cells_needed file) objects
          (signature_in g).result (applied_c o 0 passed memory)
          (applied (found name (routines file)) (behind_objects file) args cells)) (sym f.is)
          (subst (λ o. CallAgrees (sizes file.structs) (lists_of file.structs) (struct_table file.structs) shaped (cells_needed file) objects
          (signature_in g).result (f.c 0 passed memory) (applied o (behind_objects file) args cells)) (sym f.also)
          (f.agrees.agree objects 0 (behind_objects file) passed args memory cells objects-separate (λ d n deep. refl) (omega arith) (omega arith) stands
          passes))

      pub same-call : (name : Text) (g : CFunc) (passed : List ArgumentValue) (args : List ℤ) → found name (named file.funcs) ≡ Some g →
          (memory : Memory) (others : List ℤ) → list_all (cell_holds memory) (cells_of file) ≡ true →
          cells_needed file ≤ length (numbers_of (cells_of file) memory ++ others) →
          PassedAll (sizes file.structs) (lists_of file.structs) (struct_table file.structs) shaped (cells_needed file) objects memory (signature_in g).params
          passed args →
          SameCall file (call_from_outside file name passed memory) (entered_flat file name args (numbers_of (cells_of file) memory ++ others))
      same-call name g passed args there memory others all room passes =
          let agree = call-from name g passed args there memory (numbers_of (cells_of file) memory ++ others) (begins-standing memory others all room) passes in
          let ended = ends-standing (call_from_outside file name passed memory).memory
          (entered_flat file name args (numbers_of (cells_of file) memory ++ others)).cells
          agree.stands in
          record { count = agree.count; answer = agree.answer; cells = ended.0; room = agree.stands.room; fits = ended.1 }

      -- the address of an object
      object-passed : (root : Root) (s : Stand) (struct name : Text) (p : CParam) (memory : Memory) →
          stand_of_object root ≡ Some s → s.ty ≡ OfStruct struct →
          points_to struct name p ≡ true →
          (p.pointer ≡ true) × AddressAt (sizes file.structs) (lists_of file.structs) (struct_table file.structs) shaped (cells_needed file) objects
          (Some p.ty) (record { root = root; parts = [] }) (pos s.at)
      object-passed root s struct name p memory there is h =
          let rest = and_second p.pointer _ h in
          let ty : p.ty ≡ OfStruct struct = same-type p.ty (OfStruct struct) (and_second (bytes_eq p.name name) _ rest) in (
            and_first p.pointer _ h,
            record
                { k = s.at; from = refl; placed = record { it = s; there = there; leads = ap (λ t. Some (whole t)) (is ∙ sym ty); is = omega arith } },
          )

      pub init-passes : (ps : List CParam) (memory : Memory) → init_params ps ≡ true →
          PassedAll (sizes file.structs) (lists_of file.structs) (struct_table file.structs) shaped (cells_needed file) objects memory
          (map (λ p. record { pointer = p.pointer; ty = p.ty }) ps) (object state_object ∷ []) (pos 0 ∷ [])
      init-passes [] memory h = cc
      init-passes (s ∷ i ∷ ps) memory h = cc
      init-passes (s ∷ []) memory h =
          (object-passed state_object (record { at = 0; ty = OfStruct (codes "bl_state") }) (codes "bl_state") (codes "s") s memory refl refl h, tt)

      pub tick-passes : (ps : List CParam) (memory : Memory) → tick_params ps ≡ true →
          PassedAll (sizes file.structs) (lists_of file.structs) (struct_table file.structs) shaped (cells_needed file) objects memory
          (map (λ p. record { pointer = p.pointer; ty = p.ty }) ps)
          (object state_object ∷ object input_object ∷ object output_object ∷ []) (pos 0 ∷ pos (input_at file) ∷ pos (output_at file) ∷ [])
      tick-passes [] memory h = cc
      tick-passes (s ∷ []) memory h = cc
      tick-passes (s ∷ i ∷ []) memory h = cc
      tick-passes (s ∷ i ∷ o ∷ p ∷ ps) memory h = cc
      tick-passes (s ∷ i ∷ o ∷ []) memory h =
          let rest = and_second (points_to (codes "bl_state") (codes "s") s) _ h in (
            object-passed state_object (record { at = 0; ty = OfStruct (codes "bl_state") }) (codes "bl_state") (codes "s") s memory refl refl (and_first _ _ h),
            (
              object-passed input_object (record { at = input_at file; ty = OfStruct (codes "bl_in") }) (codes "bl_in") (codes "i") i memory refl refl
                  (and_first _ _ rest),
              (
                object-passed output_object (record { at = output_at file; ty = OfStruct (codes "bl_out") }) (codes "bl_out") (codes "o") o memory refl refl
                    (and_second (points_to (codes "bl_in") (codes "i") i) _ rest),
                tt,
              ),
            ),
          )

pub objects-declared : (file : Parts) → WellFormed file →
    (is_some (struct_table file.structs (codes "bl_state"))
    && (is_some (struct_table file.structs (codes "bl_in")) && is_some (struct_table file.structs (codes "bl_out")))) ≡ true
unfolding faults_in
objects-declared file formed =
    let h1 = second_empty (struct_faults_after no_entries no_entries file.structs) _ formed.none in
    let h2 = second_empty (function_faults_after (struct_table file.structs) no_entries no_entries file.funcs) _ h1 in
    unless-nil (is_some (struct_table file.structs (codes "bl_state"))
    && (is_some (struct_table file.structs (codes "bl_in")) && is_some (struct_table file.structs (codes "bl_out")))) interface_structs
    (last_place file.funcs) (first_empty _ _ h2)

pub ticks-agree : (file : Parts) → is_spellable file.structs file.funcs ≡ true → TicksAgree file
ticks-agree file spelled formed small memory others all room =
    let declared = objects-declared file formed in
    let i = interface file formed declared spelled small in
    same-call file formed declared spelled small (codes "bl_tick") i.tick (object state_object ∷ object input_object ∷ object output_object ∷ [])
    (pos 0 ∷ pos (input_at file) ∷ pos (output_at file) ∷ []) i.tick-is memory others all room
    (tick-passes file formed declared spelled small i.tick.params memory i.tick-params)

pub starts-agree : (file : Parts) → is_spellable file.structs file.funcs ≡ true → StartsAgree file
starts-agree file spelled formed small memory others all room =
    let declared = objects-declared file formed in
    let i = interface file formed declared spelled small in
    same-call file formed declared spelled small (codes "bl_init") i.init (object state_object ∷ []) (pos 0 ∷ []) i.init-is memory others all room
    (init-passes file formed declared spelled small i.init.params memory i.init-params)
