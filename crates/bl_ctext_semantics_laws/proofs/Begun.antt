-- The memory and the cells as a function begins to run.
use Rattle.std.proofs.Common.{◌≡◌, ℕ, suc, ◌+◌, ◌≤◌, ◌<◌, inl, inr, ⊎_elim, ℤ, pos, Bool, true, false, ◌&&◌, ◌||◌, List, [], ◌∷◌, ◌++◌, map, length}
use Rattle.std.proofs.Common.{Option, Some, None, refl, ap, sym, subst, ◌∙◌, arith, length-set}
use Rattle.std.specs.Prelude.{bytes_eq, ◌==◌, slice_set, if◌then◌else◌}
use Rattle.std.specs.List.{list_all}
use Rattle.std.proofs.lemmas.Grind.{common_steps}
use Rattle.std.proofs.lemmas.Slice.Eq.{bytes_eq-Decides}
use Rattle.bl_tree.proofs.Basics.{and_first, and_second, same_some}
use Rattle.bl_tree.specs.declared.text.Text.{Text}
use Rattle.bl_tree.specs.declared.scalar.Scalar.{Scalar}
use Rattle.bl_tree.specs.declared.c.CType.{CType}
use Rattle.bl_tree.specs.declared.c.CType.TheVariants.{Scalar as OfScalar, Struct as OfStruct}
use Rattle.bl_tree.specs.declared.c.CParam.{CParam}
use Rattle.bl_tree.specs.declared.c.CLocal.{CLocal}
use Rattle.bl_tree.specs.Scalar.{in_range}
use Rattle.bl_ctext_semantics.specs.Memory.{Projection, Root, state_object, input_object, output_object, variable, Location, Memory, in_frame, same_root, set_at}
use Rattle.bl_ctext_semantics.specs.Memory.{without_frame, zeros}
use Rattle.bl_ctext_semantics.specs.Meaning.{ArgumentValue, by_address, by_value, pointers_of, with_params}
use Rattle.bl_ctext_semantics.specs.Sizes.{Sizes, size_of_type}
use Rattle.bl_ctext_semantics.specs.Tables.{found, no_entries}
use Rattle.bl_ctext_semantics.specs.Faults.{Variable, all_distinct, is_scalar, local_variable, param_variable}
use Rattle.bl_ctext_semantics_laws.specs.Fitting.{whole, walk}
use Rattle.bl_ctext_semantics_laws.specs.Layout.{Slot}
use Rattle.bl_ctext_semantics_laws.specs.Flat.{Cells, cell_at, with_args, zeroed}
use Rattle.bl_ctext_semantics_laws.proofs.Entries.{Apart, Positioned, offset-apart, offset-within, offset_of, positioned, sum_of}
use Rattle.bl_ctext_semantics_laws.proofs.Ways.{Lists, Shaped, Structs, walk-within, way_offset}
use Rattle.bl_ctext_semantics_laws.proofs.Spans.{args-elsewhere, length-zeroed, set-elsewhere, set-there, zeroed-elsewhere, zeroed-there}
use Rattle.bl_ctext_semantics_laws.proofs.Standing.{Away, Below, Kept, PlacedAt, Separate, Stand, Stands, World, set-stands, zero-fits}
use Rattle.bl_ctext_semantics_laws.proofs.Running.{PassedAll, Shallow, SlotAs, ValuedAs, VariableAs}
use Rattle.bl_ctext_semantics_laws.proofs.Frames.{SlotFor, entries, variable_size}

-- ---- where the variables of a function stand

abbrev stand_of : Option Variable → ℕ → Option Stand
stand_of None at = None
stand_of (Some v) at = if v.pointer then None else Some (record { at = at; ty = v.ty })

-- the cells of pointers, and what they are given
abbrev pub pointer_cells : ℕ → List CParam → List ℤ → List (ℕ × ℤ)
pointer_cells at [] ns = []
pointer_cells at (p ∷ ps) [] = []
pointer_cells at (p ∷ ps) (n ∷ ns) = if p.pointer then (at, n) ∷ pointer_cells (suc at) ps ns else pointer_cells (suc at) ps ns

abbrev frame_stand : Sizes → ℕ → List (Text × Variable) → Root → Option Stand
frame_stand known base vars (variable d name) = stand_of (found name vars) (base + offset_of (variable_size known) vars name)
frame_stand known base vars _ = None

-- these kept beside those of before
abbrev pub begun_world : Sizes → World → ℕ → ℕ → List (Text × Variable) → List (ℕ × ℤ) → World
begun_world known w depth base vars pointers = record {
  stand = λ root. if in_frame depth root then frame_stand known base vars root else w.stand root;
  kept = pointers ++ w.kept;
  top = base + sum_of (variable_size known) vars;
}

abbrev Between : ℕ → ℕ → List (ℕ × ℤ) → Type 0
Between low high [] = Unit {0}
Between low high (p ∷ ps) = ((low ≤ p.0) × (p.0 < high)) × Between low high ps

away-append : (at n : ℕ) (xs ys : List (ℕ × ℤ)) → Away at n xs → Away at n ys → Away at n (xs ++ ys)
away-append at n [] ys h k = k
away-append at n (x ∷ xs) ys h k = (h.0, away-append at n xs ys h.1 k)

away-above : (at n low high : ℕ) (ps : List (ℕ × ℤ)) → at + n ≤ low → Between low high ps → Away at n ps
away-above at n low high [] h between = tt
away-above at n low high (p ∷ ps) h between = let l = between.0.0 in (inl (omega arith), away-above at n low high ps h between.1)

away-below : (at n top : ℕ) (ps : List (ℕ × ℤ)) → top ≤ at → Below top ps → Away at n ps
away-below at n top [] h below = tt
away-below at n top (p ∷ ps) h below = let l = below.0 in (inr (omega arith), away-below at n top ps h below.1)

below-append : (top : ℕ) (xs ys : List (ℕ × ℤ)) → Below top xs → Below top ys → Below top (xs ++ ys)
below-append top [] ys h k = k
below-append top (x ∷ xs) ys h k = (h.0, below-append top xs ys h.1 k)

below-between : (low high : ℕ) (ps : List (ℕ × ℤ)) → Between low high ps → Below high ps
below-between low high [] h = tt
below-between low high (p ∷ ps) h = (h.0.1, below-between low high ps h.1)

below-higher : (low high : ℕ) (ps : List (ℕ × ℤ)) → low ≤ high → Below low ps → Below high ps
below-higher low high [] h k = tt
below-higher low high (p ∷ ps) h k = let l = k.0 in (omega arith, below-higher low high ps h k.1)

kept-append : (cells : Cells) (xs ys : List (ℕ × ℤ)) → Kept cells xs → Kept cells ys → Kept cells (xs ++ ys)
kept-append cells [] ys h k = k
kept-append cells (x ∷ xs) ys h k = (h.0, kept-append cells xs ys h.1 k)

pub kept-behind : (cells : Cells) (xs ys : List (ℕ × ℤ)) → Kept cells (xs ++ ys) → Kept cells ys
kept-behind cells [] ys h = h
kept-behind cells (x ∷ xs) ys h = kept-behind cells xs ys h.1

pub kept-first : (cells : Cells) (xs ys : List (ℕ × ℤ)) → Kept cells (xs ++ ys) → Kept cells xs
kept-first cells [] ys h = tt
kept-first cells (x ∷ xs) ys h = (h.0, kept-first cells xs ys h.1)

kept-low : (top : ℕ) (cells after : Cells) (ps : List (ℕ × ℤ)) → ((j : ℕ) → j < top → cell_at after j ≡ cell_at cells j) →
    Below top ps → Kept cells ps →
    Kept after ps
kept-low top cells after [] same below h = tt
kept-low top cells after (p ∷ ps) same below h = (same p.0 below.0 ∙ h.0, kept-low top cells after ps same below.1 h.1)

frame-is : (depth d : ℕ) (name : Text) → in_frame depth (variable d name) ≡ true → depth ≡ d
frame-is depth d name h = grind (arith, common_steps)

pub in-own-frame : (depth : ℕ) (name : Text) → in_frame depth (variable depth name) ≡ true
in-own-frame depth name = grind (arith, common_steps)

module _ (known : Sizes) (lists : Lists) (structs : Structs) (shaped : Shaped known lists structs) (limit : ℕ) (w : World) (depth base : ℕ)
    (params : List CParam) (locals : List CLocal)
    (separate : Separate known w) (shallow : Shallow known lists structs shaped limit depth w) (under : w.top ≤ base)
    (room : base + sum_of (variable_size known) (entries params locals) ≤ limit)
    (apart : all_distinct no_entries (map (λ e. e.0) (entries params locals)) ≡ true)
    (single : list_all (λ p. p.pointer || is_scalar p.ty) params ≡ true) where
  abbrev vars : List (Text × Variable)
  vars = entries params locals

  abbrev Offset : Text → ℕ
  Offset name = offset_of (variable_size known) vars name

  abbrev begun : List (ℕ × ℤ) → World
  begun pointers = begun_world known w depth base vars pointers

  -- a variable that stands somewhere
  record Own (name : Text) (s : Stand) : Type 0 where
    v : Variable
    is : found name vars ≡ Some v
    plain : v.pointer ≡ false
    at : s.at ≡ base + Offset name
    ty : s.ty ≡ v.ty

  own-of : (name : Text) (s : Stand) → stand_of (found name vars) (base + Offset name) ≡ Some s → Own name s
  own-of name s h = chosen (found name vars) refl h
    where
      plain-one : (v : Variable) (b : Bool) → found name vars ≡ Some v → v.pointer ≡ b →
          (if b then None else Some (record { at = base + Offset name; ty = v.ty })) ≡ Some s → Own name s
      plain-one v true is p k = cc
      plain-one v false is p k =
          let e : record { at = base + Offset name; ty = v.ty } ≡ s = same_some (record { at = base + Offset name; ty = v.ty }) s k in
          record { v = v; is = is; plain = p; at = sym (ap (λ x. x.at) e); ty = sym (ap (λ x. x.ty) e) }

      chosen : (o : Option Variable) → found name vars ≡ o → stand_of o (base + Offset name) ≡ Some s → Own name s
      chosen None is k = cc
      chosen (Some v) is k = plain-one v v.pointer is refl k

  own-size : (name : Text) (s : Stand) (o : Own name s) → variable_size known o.v ≡ size_of_type known s.ty
  own-size name s o = ap (λ b. if b then 1 else size_of_type known o.v.ty) o.plain ∙ ap (size_of_type known) (sym o.ty)

  own-within : (name : Text) (s : Stand) (o : Own name s) → s.at + size_of_type known s.ty ≤ base + sum_of (variable_size known) vars
  own-within name s o =
      let a = offset-within (variable_size known) vars name o.v o.is in
      let b = own-size name s o in
      let c = o.at in
      omega arith

  -- a thing that stands is of before, or one of these
  stood-where : {B : Type 0} (root : Root) (s : Stand) (b : Bool) → in_frame depth root ≡ b →
      (if b then frame_stand known base vars root else w.stand root) ≡ Some s →
      (w.stand root ≡ Some s → B) → ((name : Text) → root ≡ variable depth name → Own name s → B) → B
  stood-where root s false is h old own = old h
  stood-where (variable d name) s true is h old own = own name (ap (λ x. variable x name) (sym (frame-is depth d name is))) (own-of name s h)
  stood-where state_object s true is h old own = cc
  stood-where input_object s true is h old own = cc
  stood-where output_object s true is h old own = cc

  -- ---- nothing has a cell in common with another

  names-differ : (a b : Text) (root other : Root) → root ≡ variable depth a → other ≡ variable depth b →
      same_root root other ≡ false → bytes_eq a b ≡ false
  names-differ a b root other ia ib differ =
      chosen (bytes_eq a b) refl (ap (λ r. same_root (variable depth a) r) (sym ib) ∙ ap (λ r. same_root r other) (sym ia) ∙ differ)
    where
      itself : (depth == depth) ≡ true
      itself = grind (arith, common_steps)

      chosen : (c : Bool) → bytes_eq a b ≡ c → ((depth == depth) && bytes_eq a b) ≡ false → c ≡ false
      chosen false is h = refl
      chosen true is h = sym is ∙ ap (λ x. x && bytes_eq a b) (sym itself) ∙ h

  begun-separate : (pointers : List (ℕ × ℤ)) → Between base (base + sum_of (variable_size known) vars) pointers →
      ((name : Text) (s : Stand) → Own name s → Away s.at (size_of_type known s.ty) pointers) → Separate known (begun pointers)
  begun-separate pointers between clear = record {
    below = λ root s there. stood-where root s (in_frame depth root) refl there
        (λ old. let a = separate.below root s old in omega arith)
        (λ name is o. own-within name s o);
    apart = λ root other s t there also differ. stood-where root s (in_frame depth root) refl there
        (λ old. stood-where other t (in_frame depth other) refl also
        (λ older. separate.apart root other s t old older differ)
        (λ name is o. let a = separate.below root s old in let b = o.at in inl (omega arith)))
        (λ name is o. stood-where other t (in_frame depth other) refl also
        (λ older. let a = separate.below other t older in let b = o.at in inr (omega arith))
        (λ second same p.
        let a = own-size name s o in
        let b = own-size second t p in
        let c = o.at in
        let d = p.at in
        ⊎_elim (λ (l : Offset name + variable_size known o.v ≤ Offset second). inl (omega arith))
        (λ (r : Offset second + variable_size known p.v ≤ Offset name). inr (omega arith))
        (offset-apart (variable_size known) vars name second o.v p.v (names-differ name second root other is same differ) o.is p.is)));
    away = λ root s there. stood-where root s (in_frame depth root) refl there
        (λ old. let a = separate.below root s old in
        away-append s.at (size_of_type known s.ty) pointers w.kept
        (away-above s.at (size_of_type known s.ty) base (base + sum_of (variable_size known) vars) pointers (omega arith) between)
        (separate.away root s old))
        (λ name is o. let b = o.at in
        away-append s.at (size_of_type known s.ty) pointers w.kept (clear name s o)
        (away-below s.at (size_of_type known s.ty) w.top w.kept (omega arith) separate.low));
    low = below-append (base + sum_of (variable_size known) vars) pointers w.kept
        (below-between base (base + sum_of (variable_size known) vars) pointers between)
        (below-higher w.top (base + sum_of (variable_size known) vars) w.kept (omega arith) separate.low);
  }

  -- ---- the frame, all 0

  zeroed-stands : (memory : Memory) (cells : Cells) → Stands known lists structs shaped limit w memory cells →
      Stands known lists structs shaped limit (begun []) (without_frame depth memory) (zeroed (sum_of (variable_size known) vars) base cells)
  zeroed-stands memory cells stands = record {
    room = let l = length-zeroed (sum_of (variable_size known) vars) base cells in let r = stands.room in omega arith;
    reads = λ root s parts kind there leads. reads-in root s parts kind (in_frame depth root) refl there leads;
    ranges = λ root s parts kind there leads. ranges-in root s parts kind (in_frame depth root) refl there leads;
    kept = kept-low w.top cells (zeroed (sum_of (variable_size known) vars) base cells) w.kept
        (λ j low. zeroed-elsewhere (sum_of (variable_size known) vars) base cells j (inr (omega arith))) separate.low stands.kept;
  }
    where
      within : (s : Stand) (parts : List Projection) (kind : Scalar) → walk structs (Some (whole s.ty)) parts ≡ Some (whole (OfScalar kind)) →
          way_offset known lists structs (Some (whole s.ty)) parts + 1 ≤ size_of_type known s.ty
      within s parts kind leads = walk-within known lists structs shaped (Some (whole s.ty)) (whole s.ty) (whole (OfScalar kind)) parts refl leads

      own-reads : (name : Text) (s : Stand) (parts : List Projection) (kind : Scalar) → Own name s →
          walk structs (Some (whole s.ty)) parts ≡ Some (whole (OfScalar kind)) →
          cell_at (zeroed (sum_of (variable_size known) vars) base cells) (s.at + way_offset known lists structs (Some (whole s.ty)) parts) ≡ pos 0
      own-reads name s parts kind o leads =
          let a = within s parts kind leads in
          let b = own-within name s o in
          let c = o.at in
          let r = stands.room in
          let e : s.at + way_offset known lists structs (Some (whole s.ty)) parts
          ≡ base + (Offset name + way_offset known lists structs (Some (whole s.ty)) parts) = omega arith in
          ap (cell_at (zeroed (sum_of (variable_size known) vars) base cells)) e
          ∙ zeroed-there (sum_of (variable_size known) vars) base cells (Offset name + way_offset known lists structs (Some (whole s.ty)) parts) (omega arith)
          (omega arith)

      reads-in : (root : Root) (s : Stand) (parts : List Projection) (kind : Scalar) (b : Bool) → in_frame depth root ≡ b →
          (if b then frame_stand known base vars root else w.stand root) ≡ Some s →
          walk structs (Some (whole s.ty)) parts ≡ Some (whole (OfScalar kind)) →
          cell_at (zeroed (sum_of (variable_size known) vars) base cells) (s.at + way_offset known lists structs (Some (whole s.ty)) parts)
          ≡ (if b then zeros else memory root) parts
      reads-in root s parts kind false is there leads =
          let a = within s parts kind leads in
          let b = separate.below root s there in
          zeroed-elsewhere (sum_of (variable_size known) vars) base cells (s.at + way_offset known lists structs (Some (whole s.ty)) parts) (inr (omega arith))
          ∙ stands.reads root s parts kind there leads
      reads-in (variable d name) s parts kind true is there leads = own-reads name s parts kind (own-of name s there) leads
      reads-in state_object s parts kind true is there leads = cc
      reads-in input_object s parts kind true is there leads = cc
      reads-in output_object s parts kind true is there leads = cc

      ranges-in : (root : Root) (s : Stand) (parts : List Projection) (kind : Scalar) (b : Bool) → in_frame depth root ≡ b →
          (if b then frame_stand known base vars root else w.stand root) ≡ Some s →
          walk structs (Some (whole s.ty)) parts ≡ Some (whole (OfScalar kind)) → in_range kind ((if b then zeros else memory root) parts) ≡ true
      ranges-in root s parts kind false is there leads = stands.ranges root s parts kind there leads
      ranges-in root s parts kind true is there leads = zero-fits kind

  -- ---- arguments

  -- a cell where nothing stands is written
  free-stands : (memory : Memory) (cells : Cells) (k : ℕ) (n : ℤ) → Stands known lists structs shaped limit (begun []) memory cells → base ≤ k →
      ((name : Text) (s : Stand) → Own name s → Apart s.at (size_of_type known s.ty) k 1) →
      Stands known lists structs shaped limit (begun []) memory (slice_set cells k n)
  free-stands memory cells k n stands high clear = record {
    room = let l = length-set cells k n in let r = stands.room in omega arith;
    reads = λ root s parts kind there leads.
        let a = walk-within known lists structs shaped (Some (whole s.ty)) (whole s.ty) (whole (OfScalar kind)) parts refl leads in
        let off : Apart s.at (size_of_type known s.ty) k 1 =
        stood-where root s (in_frame depth root) refl there (λ old. let b = separate.below root s old in inl (omega arith)) (λ name is o. clear name s o) in
        set-elsewhere cells k (s.at + way_offset known lists structs (Some (whole s.ty)) parts) n
        (away-inside s.at (size_of_type known s.ty) (way_offset known lists structs (Some (whole s.ty)) parts) k off a)
        ∙ stands.reads root s parts kind there leads;
    ranges = stands.ranges;
    kept = kept-low w.top cells (slice_set cells k n) w.kept (λ j low. set-elsewhere cells k j n (inr (omega arith))) separate.low stands.kept;
  }
    where
      away-inside : (at size offset k : ℕ) → Apart at size k 1 → offset + 1 ≤ size → Apart k 1 (at + offset) 1
      away-inside at size offset k h inside = ⊎_elim (λ (l : at + size ≤ k). inr (omega arith)) (λ (r : k + 1 ≤ at). inl (omega arith)) h

  param-one : (p : CParam) → (p.pointer || is_scalar p.ty) ≡ true → variable_size known (param_variable p).1 ≡ 1
  param-one p h = chosen p.pointer p.ty h
    where
      chosen : (b : Bool) (ty : CType) → (b || is_scalar ty) ≡ true → (if b then 1 else size_of_type known ty) ≡ 1
      chosen true ty h = refl
      chosen false (OfScalar kind) h = refl
      chosen false (OfStruct name) h = cc

  -- the cell of a pointer is none of a variable that stands
  pointer-clear : (p : CParam) (behind : ℕ) → p.pointer ≡ true → found p.name vars ≡ Some (param_variable p).1 → Offset p.name ≡ behind →
      (name : Text) (s : Stand) → Own name s → Apart s.at (size_of_type known s.ty) (base + behind) 1
  pointer-clear p behind is there at name s o =
      let a = own-size name s o in
      let b : variable_size known (param_variable p).1 ≡ 1 = ap (λ c. if c then 1 else size_of_type known p.ty) is in
      let c = o.at in
      ⊎_elim (λ (l : Offset name + variable_size known o.v ≤ Offset p.name). inl (omega arith))
      (λ (r : Offset p.name + variable_size known (param_variable p).1 ≤ Offset name). inr (omega arith))
      (offset-apart (variable_size known) vars name p.name o.v (param_variable p).1 (differ (bytes_eq name p.name) refl) o.is there)
    where
      differ : (c : Bool) → bytes_eq name p.name ≡ c → c ≡ false
      differ false same = refl
      differ true same =
          let e : o.v ≡ (param_variable p).1 =
          same_some o.v (param_variable p).1 (sym o.is ∙ ap (λ n. found n vars) ((bytes_eq-Decides name p.name).0 same) ∙ there) in
          absurd (let x : false ≡ true = sym o.plain ∙ ap (λ v. v.pointer) e ∙ is in cc)

  -- the parameters get their values
  args-stand : (ps : List CParam) (behind : ℕ) (passed : List ArgumentValue) (args : List ℤ) (first : Memory) (memory : Memory) (cells : Cells) →
      Positioned (variable_size known) vars behind (entries ps locals) →
      list_all (λ p. p.pointer || is_scalar p.ty) ps ≡ true →
      PassedAll known lists structs shaped limit w first (map (λ p. record { pointer = p.pointer; ty = p.ty }) ps) passed args →
      Stands known lists structs shaped limit (begun []) memory cells →
      Stands known lists structs shaped limit (begun []) (with_params depth ps passed memory) (with_args (base + behind) args cells)
  args-stand [] behind [] [] first memory cells positions fit all stands = stands
  args-stand [] behind (v ∷ vs) ns first memory cells positions fit all stands = absurd all
  args-stand [] behind [] (n ∷ ns) first memory cells positions fit all stands = absurd all
  args-stand (p ∷ ps) behind [] ns first memory cells positions fit all stands = absurd all
  args-stand (p ∷ ps) behind (v ∷ vs) [] first memory cells positions fit all stands = absurd all
  args-stand (p ∷ ps) behind (by_address place ∷ vs) (n ∷ ns) first memory cells positions fit all stands =
      let one = param-one p (and_first (p.pointer || is_scalar p.ty) _ fit) in
      let e : suc (base + behind) ≡ base + (behind + variable_size known (param_variable p).1) = omega arith in
      subst (λ k. Stands known lists structs shaped limit (begun []) (with_params depth ps vs memory) (with_args k ns (slice_set cells (base + behind) n)))
      (sym e)
      (args-stand ps (behind + variable_size known (param_variable p).1) vs ns first memory (slice_set cells (base + behind) n) positions.1
      (and_second (p.pointer || is_scalar p.ty) _ fit) all.1
      (free-stands memory cells (base + behind) n stands (omega arith) (pointer-clear p behind all.0.0 positions.0.0 positions.0.1)))
  args-stand (p ∷ ps) behind (by_value v ∷ vs) (n ∷ ns) first memory cells positions fit all stands =
      let one = param-one p (and_first (p.pointer || is_scalar p.ty) _ fit) in
      let e : suc (base + behind) ≡ base + (behind + variable_size known (param_variable p).1) = omega arith in
      subst (λ k. Stands known lists structs shaped limit (begun [])
      (with_params depth ps vs (set_at memory (record { root = variable depth p.name; parts = [] }) v))
      (with_args k ns (slice_set cells (base + behind) n))) (sym e)
      (args-stand ps (behind + variable_size known (param_variable p).1) vs ns first (set_at memory (record { root = variable depth p.name; parts = [] }) v)
      (slice_set cells (base + behind) n) positions.1 (and_second (p.pointer || is_scalar p.ty) _ fit) all.1
      (value-set p.ty p.pointer refl refl (and_first (p.pointer || is_scalar p.ty) _ fit) all.0.0 all.0.1))
    where
      value-set : (ty : CType) (pointer : Bool) → p.ty ≡ ty → p.pointer ≡ pointer → (pointer || is_scalar ty) ≡ true → pointer ≡ false →
          ValuedAs known lists structs shaped limit w first ty v n →
          Stands known lists structs shaped limit (begun []) (set_at memory (record { root = variable depth p.name; parts = [] }) v)
          (slice_set cells (base + behind) n)
      value-set ty true it is h plain valued = cc
      value-set (OfStruct name) false it is h plain valued = cc
      value-set (OfScalar kind) false it is h plain valued =
          let stand : (begun []).stand (variable depth p.name) ≡ Some (record { at = base + Offset p.name; ty = OfScalar kind }) =
          ap (λ b. if b then stand_of (found p.name vars) (base + Offset p.name) else w.stand (variable depth p.name)) (in-own-frame depth p.name)
          ∙ ap (λ o. stand_of o (base + Offset p.name)) positions.0.0
          ∙ ap (λ b. if b then None else Some (record { at = base + Offset p.name; ty = p.ty })) is
          ∙ ap (λ t. Some (record { at = base + Offset p.name; ty = t })) it in
          let at = positions.0.1 in
          set-stands known lists structs shaped limit (begun []) (begun-separate [] tt (λ name s o. tt)) room memory cells stands
          (record { root = variable depth p.name; parts = [] }) kind (base + behind) v n
          (record { it = record { at = base + Offset p.name; ty = OfScalar kind }; there = stand; leads = refl; is = omega arith }) valued.0 valued.1

  -- ---- pointers

  chosen-cells : (P : List (ℕ × ℤ) → Type 0) (b : Bool) (xs ys : List (ℕ × ℤ)) → (b ≡ true → P xs) → (b ≡ false → P ys) →
      P (if b then xs else ys)
  chosen-cells P true xs ys h k = h refl
  chosen-cells P false xs ys h k = k refl

  pointers-between : (ps : List CParam) (behind at : ℕ) (args : List ℤ) → at ≡ base + behind →
      list_all (λ p. p.pointer || is_scalar p.ty) ps ≡ true →
      behind + sum_of (variable_size known) (entries ps locals) ≡ sum_of (variable_size known) vars →
      Between base (base + sum_of (variable_size known) vars) (pointer_cells at ps args)
  pointers-between [] behind at args is fit all = tt
  pointers-between (p ∷ ps) behind at [] is fit all = tt
  pointers-between (p ∷ ps) behind at (n ∷ ns) is fit all =
      let one = param-one p (and_first (p.pointer || is_scalar p.ty) _ fit) in
      let rest : Between base (base + sum_of (variable_size known) vars) (pointer_cells (suc at) ps ns) =
      pointers-between ps (behind + 1) (suc at) ns (omega arith) (and_second (p.pointer || is_scalar p.ty) _ fit) (omega arith) in
      chosen-cells (Between base (base + sum_of (variable_size known) vars)) p.pointer ((at, n) ∷ pointer_cells (suc at) ps ns) (pointer_cells (suc at) ps ns)
      (λ is-one. ((omega arith, omega arith), rest)) (λ none. rest)

  pointers-clear : (ps : List CParam) (behind at : ℕ) (args : List ℤ) → at ≡ base + behind →
      Positioned (variable_size known) vars behind (entries ps locals) →
      list_all (λ p. p.pointer || is_scalar p.ty) ps ≡ true →
      (name : Text) (s : Stand) → Own name s → Away s.at (size_of_type known s.ty) (pointer_cells at ps args)
  pointers-clear [] behind at args is positions fit name s o = tt
  pointers-clear (p ∷ ps) behind at [] is positions fit name s o = tt
  pointers-clear (p ∷ ps) behind at (n ∷ ns) is positions fit name s o =
      let one = param-one p (and_first (p.pointer || is_scalar p.ty) _ fit) in
      let rest : Away s.at (size_of_type known s.ty) (pointer_cells (suc at) ps ns) =
      pointers-clear ps (behind + variable_size known (param_variable p).1) (suc at) ns (omega arith) positions.1
      (and_second (p.pointer || is_scalar p.ty) _ fit) name s o in
      chosen-cells (Away s.at (size_of_type known s.ty)) p.pointer ((at, n) ∷ pointer_cells (suc at) ps ns) (pointer_cells (suc at) ps ns)
      (λ is-one. (subst (λ k. Apart s.at (size_of_type known s.ty) k 1) (sym is) (pointer-clear p behind is-one positions.0.0 positions.0.1 name s o), rest))
      (λ none. rest)

  pointers-kept : (ps : List CParam) (at : ℕ) (args : List ℤ) (cells : Cells) → at + length args ≤ length cells →
      Kept (with_args at args cells) (pointer_cells at ps args)
  pointers-kept [] at args cells fits = tt
  pointers-kept (p ∷ ps) at [] cells fits = tt
  pointers-kept (p ∷ ps) at (n ∷ ns) cells fits =
      let l = length-set cells at n in
      let rest : Kept (with_args (suc at) ns (slice_set cells at n)) (pointer_cells (suc at) ps ns) =
      pointers-kept ps (suc at) ns (slice_set cells at n) (omega arith) in
      let here : cell_at (with_args (suc at) ns (slice_set cells at n)) at ≡ n =
      args-elsewhere (suc at) ns (slice_set cells at n) at (inr (omega arith)) ∙ set-there cells at n (omega arith) in
      chosen-cells (Kept (with_args (suc at) ns (slice_set cells at n))) p.pointer ((at, n) ∷ pointer_cells (suc at) ps ns) (pointer_cells (suc at) ps ns)
      (λ is-one. (here, rest)) (λ none. rest)

  args-few : (ps : List CParam) (passed : List ArgumentValue) (args : List ℤ) (first : Memory) → list_all (λ p. p.pointer || is_scalar p.ty) ps ≡ true →
      PassedAll known lists structs shaped limit w first (map (λ p. record { pointer = p.pointer; ty = p.ty }) ps) passed args →
      length args ≤ sum_of (variable_size known) (entries ps locals)
  args-few [] [] [] first fit all = omega arith
  args-few [] (v ∷ vs) ns first fit all = absurd all
  args-few [] [] (n ∷ ns) first fit all = absurd all
  args-few (p ∷ ps) [] ns first fit all = absurd all
  args-few (p ∷ ps) (v ∷ vs) [] first fit all = absurd all
  args-few (p ∷ ps) (v ∷ vs) (n ∷ ns) first fit all =
      let one = param-one p (and_first (p.pointer || is_scalar p.ty) _ fit) in
      let rest : length ns ≤ sum_of (variable_size known) (entries ps locals) =
      args-few ps vs ns first (and_second (p.pointer || is_scalar p.ty) _ fit) all.1 in
      omega arith

  -- ---- what the pointers lead to

  record PointerAs (ty : CType) (found : Option Location) (cells : List (ℕ × ℤ)) (at : ℕ) : Type 0 where
    place : Location
    k : ℕ
    is : found ≡ Some place
    placed : PlacedAt known lists structs shaped limit w place ty k
    kept : (c : Cells) → Kept c cells → cell_at c at ≡ pos k

  local-plain : (ls : List CLocal) (name : Text) (v : Variable) → found name (map local_variable ls) ≡ Some v → v.pointer ≡ false
  local-plain [] name v h = cc
  local-plain (l ∷ ls) name v h = chosen (bytes_eq l.name name) h (λ later. local-plain ls name v later)
    where
      chosen : (b : Bool) → (if b then Some (record { pointer = false; ty = l.ty }) else found name (map local_variable ls)) ≡ Some v →
          (found name (map local_variable ls) ≡ Some v → v.pointer ≡ false) → v.pointer ≡ false
      chosen true h rest = sym (ap (λ x. x.pointer) (same_some (record { pointer = false; ty = l.ty }) v h))
      chosen false h rest = rest h

  rest-kept : (b : Bool) (c : Cells) (x : ℕ × ℤ) (xs : List (ℕ × ℤ)) → Kept c (if b then x ∷ xs else xs) → Kept c xs
  rest-kept true c x xs h = h.1
  rest-kept false c x xs h = h

  pointer-as : (ps : List CParam) (passed : List ArgumentValue) (args : List ℤ) (first : Memory) (at : ℕ) →
      list_all (λ p. p.pointer || is_scalar p.ty) ps ≡ true →
      PassedAll known lists structs shaped limit w first (map (λ p. record { pointer = p.pointer; ty = p.ty }) ps) passed args →
      (name : Text) (v : Variable) →
      found name (entries ps locals) ≡ Some v → v.pointer ≡ true →
      PointerAs v.ty (found name (pointers_of ps passed)) (pointer_cells at ps args) (at + offset_of (variable_size known) (entries ps locals) name)
  pointer-as [] [] [] first at fit all name v there is = absurd (let x : false ≡ true = sym (local-plain locals name v there) ∙ is in cc)
  pointer-as [] (u ∷ us) ns first at fit all name v there is = absurd all
  pointer-as [] [] (n ∷ ns) first at fit all name v there is = absurd all
  pointer-as (p ∷ ps) [] ns first at fit all name v there is = absurd all
  pointer-as (p ∷ ps) (u ∷ us) [] first at fit all name v there is = absurd all
  pointer-as (p ∷ ps) (by_value u ∷ us) (n ∷ ns) first at fit all name v there is =
      chosen (bytes_eq p.name name) there (λ later. pointer-as ps us ns first (suc at) (and_second (p.pointer || is_scalar p.ty) _ fit) all.1 name v later is)
    where
      chosen : (b : Bool) → (if b then Some (param_variable p).1 else found name (entries ps locals)) ≡ Some v →
          (found name (entries ps locals) ≡ Some v →
          PointerAs v.ty (found name (pointers_of ps us)) (pointer_cells (suc at) ps ns)
          (suc at + offset_of (variable_size known) (entries ps locals) name)) →
          PointerAs v.ty (found name (pointers_of ps us)) (pointer_cells at (p ∷ ps) (n ∷ ns))
          (at + (if b then 0 else variable_size known (param_variable p).1 + offset_of (variable_size known) (entries ps locals) name))
      chosen true h rest = absurd (let x : false ≡ true = sym all.0.0 ∙ ap (λ y. y.pointer) (same_some (param_variable p).1 v h) ∙ is in cc)
      chosen false h rest =
          let r = rest h in
          let one = param-one p (and_first (p.pointer || is_scalar p.ty) _ fit) in
          let e : at + (variable_size known (param_variable p).1 + offset_of (variable_size known) (entries ps locals) name)
          ≡ suc at + offset_of (variable_size known) (entries ps locals) name = omega arith in
          record {
            place = r.place;
            k = r.k;
            is = r.is;
            placed = r.placed;
            kept = λ c h. ap (cell_at c) e
                ∙ r.kept c (rest-kept p.pointer c (at, n) (pointer_cells (suc at) ps ns) h);
          }
  pointer-as (p ∷ ps) (by_address place ∷ us) (n ∷ ns) first at fit all name v there is =
      chosen (bytes_eq p.name name) refl there
      (λ later. pointer-as ps us ns first (suc at) (and_second (p.pointer || is_scalar p.ty) _ fit) all.1 name v later is)
    where
      chosen : (b : Bool) → bytes_eq p.name name ≡ b → (if b then Some (param_variable p).1 else found name (entries ps locals)) ≡ Some v →
          (found name (entries ps locals) ≡ Some v →
          PointerAs v.ty (found name (pointers_of ps us)) (pointer_cells (suc at) ps ns)
          (suc at + offset_of (variable_size known) (entries ps locals) name)) →
          PointerAs v.ty (if b then Some place else found name (pointers_of ps us)) (pointer_cells at (p ∷ ps) (n ∷ ns))
          (at + (if b then 0 else variable_size known (param_variable p).1 + offset_of (variable_size known) (entries ps locals) name))
      chosen true same h rest =
          let e : (param_variable p).1 ≡ v = same_some (param_variable p).1 v h in
          let z : at + 0 ≡ at = omega arith in
          record {
            place = place;
            k = all.0.1.k;
            is = refl;
            placed = subst (λ t. PlacedAt known lists structs shaped limit w place t all.0.1.k) (ap (λ x. x.ty) e) all.0.1.placed;
            kept = λ c h. ap (cell_at c) z
                ∙ (subst (λ b. Kept c (if b then (at, n) ∷ pointer_cells (suc at) ps ns else pointer_cells (suc at) ps ns)) all.0.0 h).0 ∙ all.0.1.from;
          }
      chosen false same h rest =
          let r = rest h in
          let one = param-one p (and_first (p.pointer || is_scalar p.ty) _ fit) in
          let e : at + (variable_size known (param_variable p).1 + offset_of (variable_size known) (entries ps locals) name)
          ≡ suc at + offset_of (variable_size known) (entries ps locals) name = omega arith in
          record {
            place = r.place;
            k = r.k;
            is = r.is;
            placed = r.placed;
            kept = λ c h. ap (cell_at c) e
                ∙ r.kept c (rest-kept p.pointer c (at, n) (pointer_cells (suc at) ps ns) h);
          }

  -- ---- the whole

  none-is : (o : Option Stand) (s : Stand) → o ≡ Some s → o ≡ None → ⊥
  none-is None s h k = cc
  none-is (Some t) s h k = cc

  old-outside : (root : Root) (s : Stand) → w.stand root ≡ Some s → in_frame depth root ≡ false
  old-outside state_object s h = refl
  old-outside input_object s h = refl
  old-outside output_object s h = refl
  old-outside (variable d name) s h = chosen (in_frame depth (variable d name)) refl
    where
      chosen : (b : Bool) → in_frame depth (variable d name) ≡ b → b ≡ false
      chosen false is = refl
      chosen true is = absurd (none-is (w.stand (variable d name)) s h (shallow d name (let e = frame-is depth d name is in omega arith)))

  old-stands : (pointers : List (ℕ × ℤ)) (root : Root) (s : Stand) → w.stand root ≡ Some s → (begun pointers).stand root ≡ Some s
  old-stands pointers root s h = ap (λ b. if b then frame_stand known base vars root else w.stand root) (old-outside root s h) ∙ h

  pub placed-still : (pointers : List (ℕ × ℤ)) (place : Location) (ty : CType) (k : ℕ) → PlacedAt known lists structs shaped limit w place ty k →
      PlacedAt known lists structs shaped limit (begun pointers) place ty k
  placed-still pointers place ty k p = record { it = p.it; there = old-stands pointers place.root p.it p.there; leads = p.leads; is = p.is }

  pub deeper-shallow : (pointers : List (ℕ × ℤ)) → Shallow known lists structs shaped limit (depth + 1) (begun pointers)
  deeper-shallow pointers d name deep =
      let outside : in_frame depth (variable d name) ≡ false = grind (arith, common_steps) in
      ap (λ b. if b then frame_stand known base vars (variable d name) else w.stand (variable d name)) outside ∙ shallow d name (omega arith)

  -- after the function its variables are gone
  pub ended-stands : (pointers : List (ℕ × ℤ)) (memory : Memory) (cells : Cells) →
      Stands known lists structs shaped limit (begun pointers) memory cells →
      Stands known lists structs shaped limit w (without_frame depth memory) cells
  ended-stands pointers memory cells stands = record {
    room = stands.room;
    reads = λ root s parts kind there leads.
        stands.reads root s parts kind (old-stands pointers root s there) leads
        ∙ ap (λ b. (if b then zeros else memory root) parts) (sym (old-outside root s there));
    ranges = λ root s parts kind there leads.
        ap (λ b. in_range kind ((if b then zeros else memory root) parts)) (old-outside root s there)
        ∙ stands.ranges root s parts kind (old-stands pointers root s there) leads;
    kept = kept-behind cells pointers w.kept stands.kept;
  }

  module _ (passed : List ArgumentValue) (args : List ℤ) (memory : Memory)
      (all : PassedAll known lists structs shaped limit w memory (map (λ p. record { pointer = p.pointer; ty = p.ty }) params) passed args) where
    abbrev pub pointers : List (ℕ × ℤ)
    pointers = pointer_cells base params args

    places : Positioned (variable_size known) vars 0 vars
    places = positioned (variable_size known) no_entries vars apart

    from-base : base ≡ base + 0
    from-base = omega arith

    pub inner-separate : Separate known (begun pointers)
    inner-separate =
        begun-separate pointers (pointers-between params 0 base args from-base single (omega arith))
        (λ name s o. pointers-clear params 0 base args from-base places single name s o)

    pub begun-stands : (cells : Cells) → Stands known lists structs shaped limit w memory cells →
        Stands known lists structs shaped limit (begun pointers) (with_params depth params passed (without_frame depth memory))
        (with_args base args (zeroed (sum_of (variable_size known) vars) base cells))
    begun-stands cells stands =
        let s : Stands known lists structs shaped limit (begun []) (with_params depth params passed (without_frame depth memory))
        (with_args (base + 0) args (zeroed (sum_of (variable_size known) vars) base cells)) =
        args-stand params 0 passed args memory (without_frame depth memory) (zeroed (sum_of (variable_size known) vars) base cells) places single all
        (zeroed-stands memory cells stands) in
        let t : Stands known lists structs shaped limit (begun []) (with_params depth params passed (without_frame depth memory))
        (with_args base args (zeroed (sum_of (variable_size known) vars) base cells)) =
        subst (λ k. Stands known lists structs shaped limit (begun []) (with_params depth params passed (without_frame depth memory))
        (with_args k args (zeroed (sum_of (variable_size known) vars) base cells))) (sym from-base) s in
        let few = args-few params passed args memory single all in
        let l = length-zeroed (sum_of (variable_size known) vars) base cells in
        let r = stands.room in
        record {
          room = t.room;
          reads = t.reads;
          ranges = t.ranges;
          kept = kept-append (with_args base args (zeroed (sum_of (variable_size known) vars) base cells)) pointers w.kept
              (pointers-kept params base args (zeroed (sum_of (variable_size known) vars) base cells) (omega arith)) t.kept;
        }

    -- a variable of the function
    pub variable-as : limit ≤ 1000000 → (name : Text) (v : Variable) (slots : Option Slot) → found name vars ≡ Some v →
        SlotFor slots v (Offset name) →
        VariableAs known lists structs shaped limit (begun pointers) depth base v (found name (pointers_of params passed)) name slots
    variable-as small name v slots there s = record {
      slot = s.slot;
      is = s.is;
      ty = s.ty;
      stands = chosen v.pointer refl;
    }
      where
        at : s.slot.at ≡ Offset name
        at =
            let a = offset-within (variable_size known) vars name v there in
            let b = s.at in
            omega arith

        chosen : (b : Bool) → v.pointer ≡ b →
            SlotAs known lists structs shaped limit (begun pointers) depth base b v.ty (found name (pointers_of params passed)) name s.slot
        chosen false is = record {
          plain = s.pointer ∙ is;
          stands = ap (λ b. if b then stand_of (found name vars) (base + Offset name) else w.stand (variable depth name)) (in-own-frame depth name)
              ∙ ap (λ o. stand_of o (base + Offset name)) there ∙ ap (λ b. if b then None else Some (record { at = base + Offset name; ty = v.ty })) is
              ∙ ap (λ k. Some (record { at = base + k; ty = v.ty })) (sym at);
        }
        chosen true is =
            let p = pointer-as params passed args memory base single all name v there is in
            let a = offset-within (variable_size known) vars name v there in
            let one : variable_size known v ≡ 1 = ap (λ b. if b then 1 else size_of_type known v.ty) is in
            record {
              leads = s.pointer ∙ is;
              place = p.place;
              is = p.is;
              k = p.k;
              placed = placed-still pointers p.place v.ty p.k p.placed;
              kept = λ cells h. ap (λ k. cell_at cells (base + k)) at ∙ p.kept cells (kept-first cells pointers w.kept h);
              low = let e = at in omega arith;
            }
