-- The numbers of the three objects, rows of inputs and of outputs, in cells.
use Rattle.bl_tree.specs.Ports.{in_ranges}
use Rattle.std.proofs.Common.{◌≡◌, ℕ, suc, ◌+◌, ◌≤◌, ℤ, pos, Bool, true, false, ◌&&◌, List, [], ◌∷◌, ◌++◌, map, length, take, drop, replicate, Option}
use Rattle.std.proofs.Common.{Some, None, refl, ap, sym, subst, ◌∙◌, arith, append-nil, append_assoc, length-append}
use Rattle.std.specs.Prelude.{option_map, bytes_eq, is_some, is_none, flat_map, filter_map, unwrap_or, codes, nat_le, slice_set, if◌then◌else◌}
use Rattle.std.specs.List.{cons_option, list_all}
use Rattle.std.proofs.lemmas.Slice.Eq.{bytes_eq-Decides}
use Rattle.std.proofs.lemmas.Bool.{and_from}
use Rattle.bl_tree.proofs.Basics.{and_first, and_second, first_empty, second_empty}
use Rattle.bl_tree.specs.declared.text.Text.{Text}
use Rattle.bl_tree.specs.declared.scalar.Scalar.{Scalar}
use Rattle.bl_tree.specs.declared.scalar.Scalar.TheVariants.{Nat}
use Rattle.bl_tree.specs.declared.scalar.Width.TheVariants.{W8}
use Rattle.bl_tree.specs.declared.c.CType.{CType}
use Rattle.bl_tree.specs.declared.c.CType.TheVariants.{Scalar as OfScalar, Struct as OfStruct}
use Rattle.bl_tree.specs.declared.c.CMember.{CMember}
use Rattle.bl_tree.specs.declared.c.CStruct.{CStruct}
use Rattle.bl_tree.specs.Scalar.{in_range}
use Rattle.bl_ctext_semantics.specs.Cells.{Cell, Inner, cells_at, cells_of, column_of, column_typed, inner_of, inner_of_member, inner_of_length}
use Rattle.bl_ctext_semantics.specs.Cells.{inner_of_type, inputs_of, memory_of, numbers_of, outputs_in, outputs_of, port, ports_of, with_inputs}
use Rattle.bl_ctext_semantics.specs.Memory.{Root, state_object, input_object, output_object, Location, Memory, cleared, member, scalar_number, scalar, set_at, value_at}
use Rattle.bl_ctext_semantics.specs.Parts.{Parts}
use Rattle.bl_ctext_semantics.specs.Sizes.{cells_needed, sizes}
use Rattle.bl_ctext_semantics.specs.Tables.{Table, found, no_entries, table_of, with_entry}
use Rattle.bl_ctext_semantics.specs.Faults.{distinct_names, declared_before, short_chain, interface_members, WellFormed, all_distinct, are_ports}
use Rattle.bl_ctext_semantics.specs.Faults.{depth_of_struct, faults_in, faults_in_struct, interface_fits, is_declared, is_pad, is_port, is_scalar}
use Rattle.bl_ctext_semantics.specs.Faults.{member_table, struct_faults_after, struct_table, unless}
use Rattle.bl_ctext_semantics_laws.specs.Fitting.{ValueSpot, cell_holds, scalars, whole}
use Rattle.bl_ctext_semantics_laws.specs.Laws.{cells_in, input_at, kinds_of, output_at}
use Rattle.bl_ctext_semantics_laws.specs.Flat.{Cells, cell_at, with_args}
use Rattle.bl_ctext_semantics_laws.proofs.Ways.{by_name}
use Rattle.bl_ctext_semantics_laws.proofs.Values.{same-type}
use Rattle.bl_ctext_semantics_laws.proofs.Standing.{PlacedAt, Stand, set-stands, zero-fits}
use Rattle.bl_ctext_semantics_laws.proofs.Faultless.{unless-nil}
use Rattle.bl_ctext_semantics_laws.proofs.Layouts.{inner-file, lists_of}
use Rattle.bl_ctext_semantics_laws.proofs.Entry.{Begins, Leads, Standing, Typed, begins-standing, begins-taken, input-typed, objects, objects-separate}
use Rattle.bl_ctext_semantics_laws.proofs.Entry.{output-typed, shaped, stand_of_object, state-typed}
use Rattle.bl_ctext_semantics_laws.proofs.Entry.{numbers-length}

-- ---- numbers in range

pub ranges-are : (memory : Memory) (cells : List Cell) →
    list_all (cell_holds memory) cells ≡ in_ranges (map (λ cell. cell.kind) cells) (numbers_of cells memory)
ranges-are memory [] = refl
ranges-are memory (c ∷ cells) = ap (λ b. cell_holds memory c && b) (ranges-are memory cells)

pub cleared-fit : (cells : List Cell) → list_all (cell_holds cleared) cells ≡ true
cleared-fit [] = refl
cleared-fit (c ∷ cells) = and_from _ _ (zero-fits c.kind) (cleared-fit cells)

pub cleared-are : (cells : List Cell) → numbers_of cells cleared ≡ replicate (length cells) (pos 0)
cleared-are [] = refl
cleared-are (c ∷ cells) = ap (λ xs. pos 0 ∷ xs) (cleared-are cells)

numbers-more : (xs : List Cell) (y : Cell) (memory : Memory) →
    numbers_of (xs ++ y ∷ []) memory ≡ numbers_of xs memory ++ scalar_number (value_at memory y.location) ∷ []
numbers-more [] y memory = refl
numbers-more (x ∷ xs) y memory = ap (λ l. scalar_number (value_at memory x.location) ∷ l) (numbers-more xs y memory)

set-behind : (xs : List ℤ) (y n : ℤ) (rest : List ℤ) → slice_set (xs ++ y ∷ rest) (length xs) n ≡ xs ++ n ∷ rest
set-behind [] y n rest = refl
set-behind (x ∷ xs) y n rest = ap (λ l. x ∷ l) (set-behind xs y n rest)

module _ (file : Parts) (formed : WellFormed file)
    (declared : (is_some (struct_table file.structs (codes "bl_state"))
    && (is_some (struct_table file.structs (codes "bl_in")) && is_some (struct_table file.structs (codes "bl_out")))) ≡ true) where
  abbrev Stood : Memory → Cells → Type 0
  Stood = Standing file formed

  abbrev PlacedScalar : Location → Scalar → ℕ → Type 0
  PlacedScalar place kind k =
      PlacedAt (sizes file.structs) (lists_of file.structs) (struct_table file.structs) (shaped file formed) (cells_needed file) (objects file formed) place
      (OfScalar kind) k

  -- each of these stands where it is in the list
  abbrev PlacedCells : ℕ → List Cell → Type 0
  PlacedCells k [] = Unit {0}
  PlacedCells k (c ∷ cells) = PlacedScalar c.location c.kind k × PlacedCells (suc k) cells

  placed-object : (root : Root) (s : Stand) (k at : ℕ) (is : List Inner) → stand_of_object file formed root ≡ Some s → s.at + k ≡ at →
      Leads file formed (whole s.ty) k is → PlacedCells at (cells_at root is)
  placed-object root s k at [] there sum led = tt
  placed-object root s k at (i ∷ is) there sum led = (
    record { it = s; there = there; leads = led.0.0; is = sym (ap (λ n. s.at + n) led.0.1 ∙ sum) },
    placed-object root s (suc k) (suc at) is there
        (omega arith) led.1,
  )

  placed-append : (k : ℕ) (xs ys : List Cell) → PlacedCells k xs → PlacedCells (k + length xs) ys → PlacedCells k (xs ++ ys)
  placed-append k [] ys h g = let e : k + 0 ≡ k = omega arith in subst (λ n. PlacedCells n ys) e g
  placed-append k (x ∷ xs) ys h g = let e : k + suc (length xs) ≡ suc k + length xs = omega arith in
      (h.0, placed-append (suc k) xs ys h.1 (subst (λ n. PlacedCells n ys) e g))

  cells-count : (root : Root) (is : List Inner) → length (cells_at root is) ≡ length is
  cells-count root [] = refl
  cells-count root (i ∷ is) = ap suc (cells-count root is)

  placed-all : PlacedCells 0 (cells_of file)
  unfolding cells_of
  placed-all =
      let a : PlacedCells 0 (cells_at state_object (inner_of file.structs (codes "bl_state"))) =
      placed-object state_object (record { at = 0; ty = OfStruct (codes "bl_state") }) 0 0 (inner_of file.structs (codes "bl_state")) refl refl
      (state-typed file formed declared).led in
      let b : PlacedCells (input_at file) (cells_at input_object (inner_of file.structs (codes "bl_in"))) =
      placed-object input_object (record { at = input_at file; ty = OfStruct (codes "bl_in") }) 0 (input_at file) (inner_of file.structs (codes "bl_in")) refl
      (omega arith) (input-typed file formed declared).led in
      let c : PlacedCells (output_at file) (cells_at output_object (inner_of file.structs (codes "bl_out"))) =
      placed-object output_object (record { at = output_at file; ty = OfStruct (codes "bl_out") }) 0 (output_at file) (inner_of file.structs (codes "bl_out"))
      refl (omega arith) (output-typed file formed declared).led in
      let la : length (cells_at state_object (inner_of file.structs (codes "bl_state"))) ≡ input_at file =
      cells-count state_object (inner_of file.structs (codes "bl_state")) ∙ (state-typed file formed declared).long in
      let lb : length (cells_at input_object (inner_of file.structs (codes "bl_in"))) ≡ cells_in file (codes "bl_in") =
      cells-count input_object (inner_of file.structs (codes "bl_in")) ∙ (input-typed file formed declared).long in
      let lab = length-append (cells_at state_object (inner_of file.structs (codes "bl_state")))
      (cells_at input_object (inner_of file.structs (codes "bl_in"))) in
      let ea : input_at file ≡ 0 + length (cells_at state_object (inner_of file.structs (codes "bl_state"))) = omega arith in
      let eb : output_at file
      ≡ 0 + length (cells_at state_object (inner_of file.structs (codes "bl_state")) ++ cells_at input_object (inner_of file.structs (codes "bl_in"))) =
      omega arith in
      placed-append 0 (cells_at state_object (inner_of file.structs (codes "bl_state")) ++ cells_at input_object (inner_of file.structs (codes "bl_in")))
      (cells_at output_object (inner_of file.structs (codes "bl_out")))
      (placed-append 0 (cells_at state_object (inner_of file.structs (codes "bl_state"))) (cells_at input_object (inner_of file.structs (codes "bl_in"))) a
      (subst (λ n. PlacedCells n (cells_at input_object (inner_of file.structs (codes "bl_in")))) ea b))
      (subst (λ n. PlacedCells n (cells_at output_object (inner_of file.structs (codes "bl_out")))) eb c)

  low : (objects file formed).top ≤ cells_needed file
  low = omega arith

  set-one : (memory : Memory) (cells : Cells) (place : Location) (kind : Scalar) (k : ℕ) (n : ℤ) → Stood memory cells → PlacedScalar place kind k →
      in_range kind n ≡ true → Stood (set_at memory place (scalar n)) (slice_set cells k n)
  set-one memory cells place kind k n stands placed fits =
      set-stands (sizes file.structs) (lists_of file.structs) (struct_table file.structs) (shaped file formed) (cells_needed file) (objects file formed)
      (objects-separate file formed) low memory cells stands place kind k (scalar n) n placed refl fits

  -- ---- the memory in which the cells have numbers

  memory-from : (before rest : List Cell) (numbers others : List ℤ) → cells_of file ≡ before ++ rest → PlacedCells (length before) rest →
      in_ranges (map (λ cell. cell.kind) rest) numbers ≡ true →
      cells_needed file ≤ length (numbers_of before cleared ++ (numbers ++ others)) →
      Stood (memory_of rest numbers) (numbers_of before cleared ++ (numbers ++ others))
  memory-from before [] (n ∷ ns) others all placed fits room = cc
  memory-from before (c ∷ rest) [] others all placed fits room = cc
  memory-from before [] [] others all placed fits room =
      let e : cells_of file ≡ before = all ∙ append-nil before in
      subst (λ x. Stood cleared (numbers_of x cleared ++ others)) e
      (begins-standing file formed declared cleared others (cleared-fit (cells_of file))
      (subst (λ x. cells_needed file ≤ length (numbers_of x cleared ++ others)) (sym e) room))
  memory-from before (c ∷ rest) (n ∷ ns) others all placed fits room =
      let e : cells_of file ≡ (before ++ c ∷ []) ++ rest = all ∙ sym (append_assoc before (c ∷ []) rest) in
      let long : length (before ++ c ∷ []) ≡ suc (length before) = length-append before (c ∷ []) ∙ omega arith in
      let split : numbers_of (before ++ c ∷ []) cleared ++ (ns ++ others) ≡ numbers_of before cleared ++ (pos 0 ∷ (ns ++ others)) =
      ap (λ l. l ++ (ns ++ others)) (numbers-more before c cleared) ∙ append_assoc (numbers_of before cleared) (pos 0 ∷ []) (ns ++ others) in
      let la = length-append (numbers_of before cleared) (n ∷ (ns ++ others)) in
      let lb = length-append (numbers_of before cleared) (pos 0 ∷ (ns ++ others)) in
      let lc = ap length split in
      let inner : Stood (memory_of rest ns) (numbers_of (before ++ c ∷ []) cleared ++ (ns ++ others)) =
      memory-from (before ++ c ∷ []) rest ns others e (subst (λ k. PlacedCells k rest) (sym long) placed.1) (and_second (in_range c.kind n) _ fits)
      (omega arith) in
      let there : Stood (memory_of rest ns) (numbers_of before cleared ++ (pos 0 ∷ (ns ++ others))) = subst (λ l. Stood (memory_of rest ns) l) split inner in
      let set : Stood (memory_of (c ∷ rest) (n ∷ ns)) (slice_set (numbers_of before cleared ++ (pos 0 ∷ (ns ++ others))) (length before) n) =
      set-one (memory_of rest ns) (numbers_of before cleared ++ (pos 0 ∷ (ns ++ others))) c.location c.kind (length before) n there placed.0
      (and_first _ _ fits) in
      let at : slice_set (numbers_of before cleared ++ (pos 0 ∷ (ns ++ others))) (length before) n ≡ numbers_of before cleared ++ (n ∷ (ns ++ others)) =
      ap (λ k. slice_set (numbers_of before cleared ++ (pos 0 ∷ (ns ++ others))) k n) (sym (numbers-length before cleared))
      ∙ set-behind (numbers_of before cleared) (pos 0) n (ns ++ others) in
      subst (λ l. Stood (memory_of (c ∷ rest) (n ∷ ns)) l) at set

  pub memory-stands : (numbers others : List ℤ) → in_ranges (kinds_of file) numbers ≡ true → cells_needed file ≤ length (numbers ++ others) →
      Stood (memory_of (cells_of file) numbers) (numbers ++ others)
  memory-stands numbers others fits room = memory-from [] (cells_of file) numbers others refl placed-all fits room

  -- ---- ports

  interface-so : (table : Table (Table CMember)) (depths : Table ℕ) (rest : List CStruct) (name : Text) (ms : List CMember) →
      struct_faults_after table depths rest ≡ [] →
      found name (map (λ s. (s.name, s.members)) rest) ≡ Some ms → (P : List CMember → Bool) →
      ((s : CStruct) → bytes_eq s.name name ≡ true → interface_fits s ≡ true → P s.members ≡ true) → P ms ≡ true
  interface-so table depths [] name ms none there P shows = cc
  interface-so table depths (s ∷ rest) name ms none there P shows =
      chosen (bytes_eq s.name name) refl there
      (λ later. interface-so (with_entry table s.name (member_table s)) (with_entry depths s.name (depth_of_struct depths s)) rest name ms
      (second_empty (faults_in_struct table depths s) _ none) later P shows)
    where
      fits : interface_fits s ≡ true
      fits =
          let here : faults_in_struct table depths s ≡ [] = first_empty (faults_in_struct table depths s) _ none in
          let h1 = second_empty (unless (is_none (table s.name)) distinct_names s.place) _ here in
          let h2 = second_empty (unless (list_all (λ m. is_declared table m.ty) s.members) declared_before s.place) _ h1 in
          let h3 = second_empty (unless (all_distinct no_entries (map (λ m. m.name) s.members)) distinct_names s.place) _ h2 in
          unless-nil (interface_fits s) interface_members s.place (second_empty (unless (nat_le (depth_of_struct depths s) 300) short_chain s.place) _ h3)

      some_list : (a b : List CMember) → Some a ≡ Some b → a ≡ b
      some_list a b h = cc

      chosen : (b : Bool) → bytes_eq s.name name ≡ b → (if b then Some s.members else found name (map (λ t. (t.name, t.members)) rest)) ≡ Some ms →
          (found name (map (λ t. (t.name, t.members)) rest) ≡ Some ms → P ms ≡ true) → P ms ≡ true
      chosen true is h later = subst (λ x. P x ≡ true) (some_list s.members ms h) (shows s is fits)
      chosen false is h later = later h

  -- the scalars of members that are ports, one for each
  abbrev PortsLed : ValueSpot → ℕ → List CMember → Type 0
  PortsLed spot at [] = Unit {0}
  PortsLed spot at (m ∷ ms) =
      ((kind : Scalar) × ((m.ty ≡ OfScalar kind) × Leads file formed spot at (record { parts = member m.name ∷ []; kind = kind } ∷ [])))
      × PortsLed spot (suc at) ms

  ports-led : (spot : ValueSpot) (prefix : Text) (at : ℕ) (ms : List CMember) → list_all (is_port prefix) ms ≡ true →
      Leads file formed spot at (flat_map (inner_of_member (scalars file.structs)) ms) → PortsLed spot at ms
  ports-led spot prefix at [] all led = tt
  ports-led spot prefix at (m ∷ ms) all led =
      let rest = and_second (is_port prefix m) _ all in
      let test = and_second _ _ (and_first (is_port prefix m) _ all) in
      chosen m.ty m.length refl refl test led (λ l. ports-led spot prefix (suc at) ms rest l)
    where
      chosen : (ty : CType) (length : Option ℕ) → m.ty ≡ ty → m.length ≡ length → (is_scalar ty && is_none length) ≡ true →
          Leads file formed spot at
          (inner_of_length m.name length (inner_of_type (scalars file.structs) ty) ++ flat_map (inner_of_member (scalars file.structs)) ms) →
          (Leads file formed spot (suc at) (flat_map (inner_of_member (scalars file.structs)) ms) → PortsLed spot (suc at) ms) → PortsLed spot at (m ∷ ms)
      chosen (OfStruct name) length it il h led later = cc
      chosen (OfScalar kind) (Some n) it il h led later = cc
      chosen (OfScalar kind) None it il h led later = ((kind, (it, (led.0, tt))), later led.1)

  ports-count : (prefix : Text) (ms : List CMember) → list_all (is_port prefix) ms ≡ true →
      length (flat_map (inner_of_member (scalars file.structs)) ms) ≡ length ms
  ports-count prefix [] all = refl
  ports-count prefix (m ∷ ms) all =
      chosen m.ty m.length (and_second _ _ (and_first (is_port prefix m) _ all)) (ports-count prefix ms (and_second (is_port prefix m) _ all))
    where
      chosen : (ty : CType) (l : Option ℕ) → (is_scalar ty && is_none l) ≡ true →
          length (flat_map (inner_of_member (scalars file.structs)) ms) ≡ length ms →
          length (inner_of_length m.name l (inner_of_type (scalars file.structs) ty)
          ++ flat_map (inner_of_member (scalars file.structs)) ms) ≡ suc (length ms)
      chosen (OfStruct name) l h rest = cc
      chosen (OfScalar kind) (Some n) h rest = cc
      chosen (OfScalar kind) None h rest = ap suc rest

  columns-are : (m : CMember) (ms : List CMember) (kind : Scalar) → m.ty ≡ OfScalar kind →
      filter_map column_of (m ∷ ms) ≡ record { name = drop 2 m.name; ty = kind } ∷ filter_map column_of ms
  columns-are m ms kind is = ap (λ t. cons_option (column_typed m.name t) (filter_map column_of ms)) is

  columns-count : (spot : ValueSpot) (at : ℕ) (ms : List CMember) → PortsLed spot at ms → length (filter_map column_of ms) ≡ length ms
  columns-count spot at [] led = refl
  columns-count spot at (m ∷ ms) led = ap length (columns-are m ms led.0.0 led.0.1.0) ∙ ap suc (columns-count spot (suc at) ms led.1)

  -- the inputs are set
  inputs-set : (at k : ℕ) (ms : List CMember) (ins : List ℤ) (memory : Memory) (cells : Cells) → input_at file + at ≡ k →
      PortsLed (whole (OfStruct (codes "bl_in"))) at ms →
      in_ranges (map (λ column. column.ty) (filter_map column_of ms)) ins ≡ true → Stood memory cells →
      Stood (with_inputs ms ins memory) (with_args k ins cells)
  inputs-set at k [] [] memory cells sum led fits stands = stands
  inputs-set at k [] (n ∷ ns) memory cells sum led fits stands = cc
  inputs-set at k (m ∷ ms) [] memory cells sum led fits stands =
      absurd (let x : false ≡ true = sym (ap (λ l. in_ranges (map (λ column. column.ty) l) []) (columns-are m ms led.0.0 led.0.1.0)) ∙ fits in cc)
  inputs-set at k (m ∷ ms) (n ∷ ns) memory cells sum led fits stands =
      let kind : Scalar = led.0.0 in
      let one : (in_range led.0.0 n && in_ranges (map (λ column. column.ty) (filter_map column_of ms)) ns) ≡ true =
      sym (ap (λ l. in_ranges (map (λ column. column.ty) l) (n ∷ ns)) (columns-are m ms led.0.0 led.0.1.0)) ∙ fits in
      let placed : PlacedScalar (port input_object m) led.0.0 k =
      record {
        it = record { at = input_at file; ty = OfStruct (codes "bl_in") };
        there = refl;
        leads = led.0.1.1.0.0;
        is = sym
            (ap (λ o. input_at file + o) led.0.1.1.0.1 ∙ sum);
      } in
      inputs-set (suc at) (suc k) ms ns (set_at memory (port input_object m) (scalar n)) (slice_set cells k n) (omega arith) led.1
      (and_second (in_range led.0.0 n) _ one)
      (set-one memory cells (port input_object m) led.0.0 k n stands placed (and_first _ _ one))

  -- the outputs are read
  outputs-begin : (at k : ℕ) (ms : List CMember) (memory : Memory) (cells : Cells) → output_at file + at ≡ k →
      PortsLed (whole (OfStruct (codes "bl_out"))) at ms → Stood memory cells → Begins cells k (outputs_in ms memory)
  outputs-begin at k [] memory cells sum led stands = tt
  outputs-begin at k (m ∷ ms) memory cells sum led stands = (
    ap (cell_at cells) (sym (ap (λ o. output_at file + o) led.0.1.1.0.1 ∙ sum))
        ∙ stands.reads output_object (record { at = output_at file; ty = OfStruct (codes "bl_out") }) (member m.name ∷ []) led.0.0 refl led.0.1.1.0.0,
    outputs-begin (suc at) (suc k) ms memory cells (omega arith) led.1 stands,
  )

  -- ---- the two interface structs

  -- what is known of the ports of a struct
  pub record Ports (name : Text) (ms : List CMember) : Type 0 where
    pub led : PortsLed (whole (OfStruct name)) 1 ms
    pub size : cells_in file name ≡ 1 + length ms

  some-list : (o : Option (Table CMember)) (l : Option (List CMember)) → o ≡ option_map (λ ms. table_of (by_name ms)) l → is_some o ≡ true →
      (list : List CMember) × (l ≡ Some list)
  some-list o (Some list) is h = (list, refl)
  some-list o None is h = absurd (let x : false ≡ true = sym (ap is_some is) ∙ h in cc)

  struct-ports : (name prefix : Text) → Typed file formed (OfStruct name) → is_some (struct_table file.structs name) ≡ true →
      ((s : CStruct) → bytes_eq s.name name ≡ true → interface_fits s ≡ true → are_ports prefix s.members ≡ true) →
      Ports name (ports_of name file)
  unfolding faults_in
  struct-ports name prefix typed there shows = chosen listed.0 listed.1
    where
      listed : (list : List CMember) × (lists_of file.structs name ≡ Some list)
      listed = some-list (struct_table file.structs name) (lists_of file.structs name) ((shaped file formed).tables name) there

      none : struct_faults_after no_entries no_entries file.structs ≡ []
      none = first_empty (struct_faults_after no_entries no_entries file.structs) _ formed.none

      with-members : (ms : List CMember) → lists_of file.structs name ≡ Some ms → are_ports prefix ms ≡ true → Ports name (drop 1 ms)
      with-members [] is h = cc
      with-members (pad ∷ ms) is h =
          let inners : inner_of file.structs name ≡ inner_of_member (scalars file.structs) pad ++ flat_map (inner_of_member (scalars file.structs)) ms =
          ap (λ o. unwrap_or o []) (inner-file file formed name (pad ∷ ms) is) in
          let ports = and_second (is_pad pad) _ h in
          let shape = and_second (bytes_eq pad.name (codes "pad")) _ (and_first (is_pad pad) _ h) in
          let all : Leads file formed (whole (OfStruct name)) 0
          (inner_of_member (scalars file.structs) pad ++ flat_map (inner_of_member (scalars file.structs)) ms) =
          subst (Leads file formed (whole (OfStruct name)) 0) inners typed.led in
          let count = ports-count prefix ms ports in
          padded pad.ty pad.length (same-type pad.ty (OfScalar (Nat W8)) (and_first _ _ shape)) (and_second _ _ shape) all (sym typed.long ∙ ap length inners)
          ports count
        where
          padded : (ty : CType) (l : Option ℕ) → ty ≡ OfScalar (Nat W8) → is_none l ≡ true →
              Leads file formed (whole (OfStruct name)) 0
              (inner_of_length pad.name l (inner_of_type (scalars file.structs) ty) ++ flat_map (inner_of_member (scalars file.structs)) ms) →
              cells_in file name ≡ length
              (inner_of_length pad.name l (inner_of_type (scalars file.structs) ty) ++ flat_map (inner_of_member (scalars file.structs)) ms) →
              list_all (is_port prefix) ms ≡ true →
              length (flat_map (inner_of_member (scalars file.structs)) ms) ≡ length ms → Ports name ms
          padded (OfStruct n) l is h all size ports count = cc
          padded (OfScalar kind) (Some n) is h all size ports count = cc
          padded (OfScalar kind) None is h all size ports count =
              record { led = ports-led (whole (OfStruct name)) prefix 1 ms ports all.1; size = size ∙ omega arith }

      chosen : (ms : List CMember) → lists_of file.structs name ≡ Some ms → Ports name (ports_of name file)
      chosen ms is =
          subst (λ o. Ports name (drop 1 (unwrap_or o []))) (sym is)
          (with-members ms is (interface-so no_entries no_entries file.structs name ms none is (are_ports prefix) shows))

  in-ports : Ports (codes "bl_in") (ports_of (codes "bl_in") file)
  in-ports =
      struct-ports (codes "bl_in") (codes "i_") (input-typed file formed declared)
      (and_first _ _ (and_second (is_some (struct_table file.structs (codes "bl_state"))) _ declared))
      (λ s same fits. ap (λ b. if b then are_ports (codes "i_")
      s.members else (if bytes_eq s.name (codes "bl_out") then are_ports (codes "o_") s.members else true)) (sym same) ∙ fits)

  out-ports : Ports (codes "bl_out") (ports_of (codes "bl_out") file)
  out-ports =
      struct-ports (codes "bl_out") (codes "o_") (output-typed file formed declared)
      (and_second (is_some (struct_table file.structs (codes "bl_in"))) _ (and_second (is_some (struct_table file.structs (codes "bl_state"))) _ declared))
      (λ s same fits.
      let other : bytes_eq s.name (codes "bl_in") ≡ false = ap (λ n. bytes_eq n (codes "bl_in")) ((bytes_eq-Decides s.name (codes "bl_out")).0 same) in
      ap (λ b. if b then are_ports (codes "o_") s.members else true) (sym same)
      ∙ ap (λ b. if b then are_ports (codes "i_") s.members else (if bytes_eq s.name (codes "bl_out") then are_ports (codes "o_") s.members else true))
      (sym other) ∙ fits)

  -- ---- rows

  pub inputs-stand : (ins : List ℤ) (memory : Memory) (cells : Cells) →
      in_ranges (map (λ column. column.ty) (inputs_of file)) ins ≡ true → Stood memory cells →
      Stood (with_inputs (ports_of (codes "bl_in") file) ins memory) (with_args (input_at file + 1) ins cells)
  unfolding inputs_of
  inputs-stand ins memory cells fits stands = inputs-set 1 (input_at file + 1) (ports_of (codes "bl_in") file) ins memory cells refl in-ports.led fits stands

  outputs-length : (ms : List CMember) (memory : Memory) → length (outputs_in ms memory) ≡ length ms
  outputs-length [] memory = refl
  outputs-length (m ∷ ms) memory = ap suc (outputs-length ms memory)

  pub outputs-stand : (memory : Memory) (cells : Cells) → Stood memory cells →
      take (length (outputs_of file)) (drop (output_at file + 1) cells) ≡ outputs_in (ports_of (codes "bl_out") file) memory
  unfolding outputs_of
  outputs-stand memory cells stands =
      let count : length (filter_map column_of (ports_of (codes "bl_out") file)) ≡ length (outputs_in (ports_of (codes "bl_out") file) memory) =
      columns-count (whole (OfStruct (codes "bl_out"))) 1 (ports_of (codes "bl_out") file) out-ports.led
      ∙ sym (outputs-length (ports_of (codes "bl_out") file) memory) in
      let long = outputs-length (ports_of (codes "bl_out") file) memory in
      let room = stands.room in
      let size = out-ports.size in
      ap (λ n. take n (drop (output_at file + 1) cells)) count
      ∙ begins-taken cells (output_at file + 1) (outputs_in (ports_of (codes "bl_out") file) memory) (omega arith)
      (outputs-begin 1 (output_at file + 1) (ports_of (codes "bl_out") file) memory cells refl out-ports.led stands)
