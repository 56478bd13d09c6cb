-- How the memory of a running C text stands in numbered cells.
use Rattle.std.proofs.Common.{◌≡◌, ℕ, ◌+◌, ◌≤◌, ◌<◌, inl, inr, ⊎_elim, ℤ, pos, Bool, true, false, List, [], ◌∷◌, ◌++◌, length, Option, Some, None}
use Rattle.std.proofs.Common.{refl, ap, sym, ◌∙◌, arith, length-set}
use Rattle.std.specs.Prelude.{slice_set, bytes_eq, ◌==◌, if◌then◌else◌}
use Rattle.std.proofs.lemmas.Grind.{common_steps}
use Rattle.std.proofs.lemmas.Slice.Eq.{bytes_eq-Decides}
use Rattle.bl_tree.proofs.Basics.{and_first, and_second}
use Rattle.bl_tree.specs.declared.scalar.Scalar.{Scalar}
use Rattle.bl_tree.specs.declared.c.CType.{CType}
use Rattle.bl_tree.specs.declared.c.CType.TheVariants.{Scalar as OfScalar}
use Rattle.bl_tree.specs.Scalar.{in_range}
use Rattle.bl_ctext_semantics.specs.Memory.{Projection, Root, state_object, input_object, output_object, variable, Location, CValue, Memory, left_after, scalar_number}
use Rattle.bl_ctext_semantics.specs.Memory.{number_or, same_root, set_at, value_at, zeros, with_part}
use Rattle.bl_ctext_semantics.specs.Sizes.{Sizes, size_of_type}
use Rattle.bl_ctext_semantics.specs.Tables.{no_entries}
use Rattle.bl_ctext_semantics_laws.specs.Fitting.{ValueSpot, whole, walk}
use Rattle.bl_ctext_semantics_laws.proofs.Memories.{zeros-fit}
use Rattle.bl_ctext_semantics_laws.specs.Flat.{Cells, cell_at, copied, zeroed}
use Rattle.bl_ctext_semantics_laws.proofs.Entries.{Apart}
use Rattle.bl_ctext_semantics_laws.proofs.Ways.{Lists, Shaped, Structs, left-is, offset-append, walk-append, walk-within, way_offset, ways-apart}
use Rattle.bl_ctext_semantics_laws.proofs.Spans.{copied-elsewhere, copied-there, length-copied, length-zeroed, set-elsewhere, set-there, zeroed-elsewhere}
use Rattle.bl_ctext_semantics_laws.proofs.Spans.{zeroed-there}

-- ---- where things stand

-- the first cell of an object or variable, and its type
pub record Stand : Type 0 where
  pub at : ℕ
  pub ty : CType

-- where the objects and the variables of the running functions stand, the cells of their pointers with what they have, and how many cells all of these take
pub record World : Type 0 where
  pub stand : Root → Option Stand
  pub kept : List (ℕ × ℤ)
  pub top : ℕ

-- cells that have these numbers
abbrev pub Kept : Cells → List (ℕ × ℤ) → Type 0
Kept cells [] = Unit {0}
Kept cells (p ∷ ps) = (cell_at cells p.0 ≡ p.1) × Kept cells ps

-- cells outside of n from one on
abbrev pub Away : ℕ → ℕ → List (ℕ × ℤ) → Type 0
Away at n [] = Unit {0}
Away at n (p ∷ ps) = Apart at n p.0 1 × Away at n ps

abbrev pub Below : ℕ → List (ℕ × ℤ) → Type 0
Below top [] = Unit {0}
Below top (p ∷ ps) = (p.0 < top) × Below top ps

-- no two things have a cell in common
pub record Separate (known : Sizes) (w : World) : Type 0 where
  pub below : (root : Root) (s : Stand) → w.stand root ≡ Some s → s.at + size_of_type known s.ty ≤ w.top
  pub apart : (root other : Root) (s t : Stand) → w.stand root ≡ Some s → w.stand other ≡ Some t → same_root root other ≡ false →
      Apart s.at (size_of_type known s.ty) t.at (size_of_type known t.ty)
  pub away : (root : Root) (s : Stand) → w.stand root ≡ Some s → Away s.at (size_of_type known s.ty) w.kept
  pub low : Below w.top w.kept

-- ---- roots and numbers

pub root-is : (a b : Root) → same_root a b ≡ true → a ≡ b
root-is state_object state_object h = refl
root-is state_object input_object h = cc
root-is state_object output_object h = cc
root-is state_object (variable e n) h = cc
root-is input_object state_object h = cc
root-is input_object input_object h = refl
root-is input_object output_object h = cc
root-is input_object (variable e n) h = cc
root-is output_object state_object h = cc
root-is output_object input_object h = cc
root-is output_object output_object h = refl
root-is output_object (variable e n) h = cc
root-is (variable d m) state_object h = cc
root-is (variable d m) input_object h = cc
root-is (variable d m) output_object h = cc
root-is (variable d m) (variable e n) h =
    let depth : (d == e) ≡ true = and_first (d == e) (bytes_eq m n) h in
    let same : d ≡ e = grind (arith, common_steps) in
    ap (λ x. variable x m) same ∙ ap (variable e) ((bytes_eq-Decides m n).0 (and_second (d == e) (bytes_eq m n) h))

pub zero-fits : (kind : Scalar) → in_range kind (pos 0) ≡ true
zero-fits kind = and_first (in_range kind (pos 0)) true (zeros-fit no_entries (OfScalar kind))

module _ (known : Sizes) (lists : Lists) (structs : Structs) (shaped : Shaped known lists structs) (limit : ℕ) where
  abbrev Offset : Option ValueSpot → List Projection → ℕ
  Offset = way_offset known lists structs

  -- memory stands in cells
  pub record Stands (w : World) (memory : Memory) (cells : Cells) : Type 0 where
    pub room : limit ≤ length cells
    pub reads : (root : Root) (s : Stand) (parts : List Projection) (kind : Scalar) → w.stand root ≡ Some s →
        walk structs (Some (whole s.ty)) parts ≡ Some (whole (OfScalar kind)) →
        cell_at cells (s.at + Offset (Some (whole s.ty)) parts) ≡ memory root parts
    pub ranges : (root : Root) (s : Stand) (parts : List Projection) (kind : Scalar) → w.stand root ≡ Some s →
        walk structs (Some (whole s.ty)) parts ≡ Some (whole (OfScalar kind)) →
        in_range kind (memory root parts) ≡ true
    pub kept : Kept cells w.kept

  -- a place of a type that begins at a cell
  pub record PlacedAt (w : World) (place : Location) (ty : CType) (k : ℕ) : Type 0 where
    pub it : Stand
    pub there : w.stand place.root ≡ Some it
    pub leads : walk structs (Some (whole it.ty)) place.parts ≡ Some (whole ty)
    pub is : k ≡ it.at + Offset (Some (whole it.ty)) place.parts

  -- ---- reading

  some_stand : (a b : Stand) → Some a ≡ Some b → a ≡ b
  some_stand a b h = cc

  pub part-leads : (w : World) (place : Location) (ty : CType) (k : ℕ) (p : PlacedAt w place ty k) (rest : List Projection) →
      walk structs (Some (whole p.it.ty)) (place.parts ++ rest) ≡ walk structs (Some (whole ty)) rest
  part-leads w place ty k p rest = walk-append known lists structs shaped (Some (whole p.it.ty)) place.parts rest ∙ ap (λ o. walk structs o rest) p.leads

  pub part-offset : (w : World) (place : Location) (ty : CType) (k : ℕ) (p : PlacedAt w place ty k) (rest : List Projection) →
      p.it.at + Offset (Some (whole p.it.ty)) (place.parts ++ rest) ≡ k + Offset (Some (whole ty)) rest
  part-offset w place ty k p rest =
      let a = offset-append known lists structs shaped (Some (whole p.it.ty)) place.parts rest in
      let b : Offset (walk structs (Some (whole p.it.ty)) place.parts) rest ≡ Offset (Some (whole ty)) rest = ap (λ o. Offset o rest) p.leads in
      let c = p.is in
      omega arith

  module _ (w : World) (memory : Memory) (cells : Cells) (stands : Stands w memory cells) where
    pub read-part : (place : Location) (ty : CType) (k : ℕ) → PlacedAt w place ty k → (rest : List Projection) (kind : Scalar) →
        walk structs (Some (whole ty)) rest ≡ Some (whole (OfScalar kind)) →
        cell_at cells (k + Offset (Some (whole ty)) rest) ≡ value_at memory place rest
    read-part place ty k p rest kind leads =
        ap (cell_at cells) (sym (part-offset w place ty k p rest))
        ∙ stands.reads place.root p.it (place.parts ++ rest) kind p.there (part-leads w place ty k p rest ∙ leads)

    pub range-part : (place : Location) (ty : CType) (k : ℕ) → PlacedAt w place ty k → (rest : List Projection) (kind : Scalar) →
        walk structs (Some (whole ty)) rest ≡ Some (whole (OfScalar kind)) →
        in_range kind (value_at memory place rest) ≡ true
    range-part place ty k p rest kind leads = stands.ranges place.root p.it (place.parts ++ rest) kind p.there (part-leads w place ty k p rest ∙ leads)

    pub read-scalar : (place : Location) (kind : Scalar) (k : ℕ) → PlacedAt w place (OfScalar kind) k →
        cell_at cells k ≡ scalar_number (value_at memory place)
    read-scalar place kind k p = let e : k + 0 ≡ k = omega arith in ap (cell_at cells) (sym e) ∙ read-part place (OfScalar kind) k p [] kind refl

  -- memory in which every root that stands somewhere has the same value
  pub same-memory : (w : World) (memory other : Memory) (cells : Cells) →
      ((root : Root) (t : Stand) → w.stand root ≡ Some t → memory root ≡ other root) →
      Stands w memory cells → Stands w other cells
  same-memory w memory other cells same stands = record {
    room = stands.room;
    reads = λ root s parts kind there leads. stands.reads root s parts kind there leads ∙ ap (λ v. v parts) (same root s there);
    ranges = λ root s parts kind there leads. ap (λ v. in_range kind (v parts)) (sym (same root s there)) ∙ stands.ranges root s parts kind there leads;
    kept = stands.kept;
  }

  -- ---- writing

  placed-within : (w : World) (place : Location) (ty : CType) (k : ℕ) (p : PlacedAt w place ty k) →
      Offset (Some (whole p.it.ty)) place.parts + size_of_type known ty ≤ size_of_type known p.it.ty
  placed-within w place ty k p = walk-within known lists structs shaped (Some (whole p.it.ty)) (whole p.it.ty) (whole ty) place.parts refl p.leads

  pub placed-below : (w : World) (place : Location) (ty : CType) (k : ℕ) → Separate known w → PlacedAt w place ty k →
      k + size_of_type known ty ≤ w.top
  placed-below w place ty k separate p =
      let a = placed-within w place ty k p in
      let b = separate.below place.root p.it p.there in
      let c = p.is in
      omega arith

  shrunk : (at n k size : ℕ) (ps : List (ℕ × ℤ)) → at ≤ k → k + size ≤ at + n → Away at n ps → Away k size ps
  shrunk at n k size [] low high away = tt
  shrunk at n k size (p ∷ ps) low high away =
      (⊎_elim (λ (l : at + n ≤ p.0). inl (omega arith)) (λ (r : p.0 + 1 ≤ at). inr (omega arith)) away.0, shrunk at n k size ps low high away.1)

  pub kept-on : (k size : ℕ) (cells after : Cells) (ps : List (ℕ × ℤ)) →
      ((j : ℕ) → Apart k size j 1 → cell_at after j ≡ cell_at cells j) → Away k size ps →
      Kept cells ps → Kept after ps
  kept-on k size cells after [] same away kept = tt
  kept-on k size cells after (p ∷ ps) same away kept = (same p.0 away.0 ∙ kept.0, kept-on k size cells after ps same away.1 kept.1)

  module _ (w : World) (separate : Separate known w) (memory : Memory) (cells after : Cells) (stands : Stands w memory cells)
      (place : Location) (ty : CType) (k : ℕ) (p : PlacedAt w place ty k) (value : CValue)
      (same : (j : ℕ) → Apart k (size_of_type known ty) j 1 → cell_at after j ≡ cell_at cells j)
      (written : (rest : List Projection) (kind : Scalar) → walk structs (Some (whole ty)) rest ≡ Some (whole (OfScalar kind)) →
      cell_at after (k + Offset (Some (whole ty)) rest) ≡ value rest)
      (fits : (rest : List Projection) (kind : Scalar) → walk structs (Some (whole ty)) rest ≡ Some (whole (OfScalar kind)) →
      in_range kind (value rest) ≡ true) where
    within : (root : Root) (s : Stand) (parts : List Projection) (kind : Scalar) → walk structs (Some (whole s.ty)) parts ≡ Some (whole (OfScalar kind)) →
        Offset (Some (whole s.ty)) parts + 1 ≤ size_of_type known s.ty
    within root s parts kind leads = walk-within known lists structs shaped (Some (whole s.ty)) (whole s.ty) (whole (OfScalar kind)) parts refl leads

    other-root : (root : Root) (s : Stand) (parts : List Projection) (kind : Scalar) → w.stand root ≡ Some s →
        walk structs (Some (whole s.ty)) parts ≡ Some (whole (OfScalar kind)) → same_root place.root root ≡ false →
        Apart k (size_of_type known ty) (s.at + Offset (Some (whole s.ty)) parts) 1
    other-root root s parts kind there leads differ =
        let a = placed-within w place ty k p in
        let b = within root s parts kind leads in
        let c = p.is in
        ⊎_elim (λ (l : p.it.at + size_of_type known p.it.ty ≤ s.at). inl (omega arith))
        (λ (r : s.at + size_of_type known s.ty ≤ p.it.at). inr (omega arith))
        (separate.apart place.root root p.it s p.there there differ)

    read-left : (parts : List Projection) (kind : Scalar) (o : Option (List Projection)) → left_after place.parts parts ≡ o →
        walk structs (Some (whole p.it.ty)) parts ≡ Some (whole (OfScalar kind)) →
        cell_at after (p.it.at + Offset (Some (whole p.it.ty)) parts) ≡ number_or o value (memory place.root parts)
    read-left parts kind (Some rest) is leads =
        let way : parts ≡ place.parts ++ rest = left-is known lists structs shaped place.parts parts rest is in
        let inner : walk structs (Some (whole ty)) rest ≡ Some (whole (OfScalar kind)) =
        sym (part-leads w place ty k p rest) ∙ ap (walk structs (Some (whole p.it.ty))) (sym way) ∙ leads in
        ap (λ ps. cell_at after (p.it.at + Offset (Some (whole p.it.ty)) ps)) way ∙ ap (cell_at after) (part-offset w place ty k p rest)
        ∙ written rest kind inner
    read-left parts kind None is leads =
        let c = p.is in
        let apart : Apart k (size_of_type known ty) (p.it.at + Offset (Some (whole p.it.ty)) parts) 1 =
        ⊎_elim (λ (l : Offset (Some (whole p.it.ty)) place.parts + size_of_type known ty ≤ Offset (Some (whole p.it.ty)) parts). inl (omega arith))
        (λ (r : Offset (Some (whole p.it.ty)) parts + 1 ≤ Offset (Some (whole p.it.ty)) place.parts). inr (omega arith))
        (ways-apart known lists structs shaped (Some (whole p.it.ty)) (whole ty) kind place.parts parts p.leads leads is) in
        same (p.it.at + Offset (Some (whole p.it.ty)) parts) apart ∙ stands.reads place.root p.it parts kind p.there leads

    range-left : (parts : List Projection) (kind : Scalar) (o : Option (List Projection)) → left_after place.parts parts ≡ o →
        walk structs (Some (whole p.it.ty)) parts ≡ Some (whole (OfScalar kind)) →
        in_range kind (number_or o value (memory place.root parts)) ≡ true
    range-left parts kind (Some rest) is leads =
        let way : parts ≡ place.parts ++ rest = left-is known lists structs shaped place.parts parts rest is in
        fits rest kind (sym (part-leads w place ty k p rest) ∙ ap (walk structs (Some (whole p.it.ty))) (sym way) ∙ leads)
    range-left parts kind None is leads = stands.ranges place.root p.it parts kind p.there leads

    here-is : (root : Root) (s : Stand) → w.stand root ≡ Some s → same_root place.root root ≡ true → p.it ≡ s
    here-is root s there equal = some_stand p.it s (sym p.there ∙ ap w.stand (root-is place.root root equal) ∙ there)

    reads-after : (root : Root) (s : Stand) (parts : List Projection) (kind : Scalar) (b : Bool) → same_root place.root root ≡ b → w.stand root ≡ Some s →
        walk structs (Some (whole s.ty)) parts ≡ Some (whole (OfScalar kind)) →
        cell_at after (s.at + Offset (Some (whole s.ty)) parts) ≡ (if b then with_part (memory root) place.parts value else memory root) parts
    reads-after root s parts kind false is there leads =
        same (s.at + Offset (Some (whole s.ty)) parts) (other-root root s parts kind there leads is) ∙ stands.reads root s parts kind there leads
    reads-after root s parts kind true is there leads =
        let e : p.it ≡ s = here-is root s there is in
        let inner : walk structs (Some (whole p.it.ty)) parts ≡ Some (whole (OfScalar kind)) =
        ap (λ t. walk structs (Some (whole t.ty)) parts) e ∙ leads in
        ap (λ t. cell_at after (t.at + Offset (Some (whole t.ty)) parts)) (sym e) ∙ read-left parts kind (left_after place.parts parts) refl inner
        ∙ ap (λ r. number_or (left_after place.parts parts) value (memory r parts)) (root-is place.root root is)

    ranges-after : (root : Root) (s : Stand) (parts : List Projection) (kind : Scalar) (b : Bool) → same_root place.root root ≡ b → w.stand root ≡ Some s →
        walk structs (Some (whole s.ty)) parts ≡ Some (whole (OfScalar kind)) →
        in_range kind ((if b then with_part (memory root) place.parts value else memory root) parts) ≡ true
    ranges-after root s parts kind false is there leads = stands.ranges root s parts kind there leads
    ranges-after root s parts kind true is there leads =
        let e : p.it ≡ s = here-is root s there is in
        let inner : walk structs (Some (whole p.it.ty)) parts ≡ Some (whole (OfScalar kind)) =
        ap (λ t. walk structs (Some (whole t.ty)) parts) e ∙ leads in
        ap (λ r. in_range kind (number_or (left_after place.parts parts) value (memory r parts))) (sym (root-is place.root root is))
        ∙ range-left parts kind (left_after place.parts parts) refl inner

    kept-after : Kept after w.kept
    kept-after =
        let a = placed-within w place ty k p in
        let c = p.is in
        kept-on k (size_of_type known ty) cells after w.kept same
        (shrunk p.it.at (size_of_type known p.it.ty) k (size_of_type known ty) w.kept (omega arith) (omega arith) (separate.away place.root p.it p.there))
        stands.kept

    -- a part was written
    pub written-stands : length after ≡ length cells → Stands w (set_at memory place value) after
    written-stands long = record {
      room = let r = stands.room in omega arith;
      reads = λ root s parts kind there leads. reads-after root s parts kind (same_root place.root root) refl there leads;
      ranges = λ root s parts kind there leads. ranges-after root s parts kind (same_root place.root root) refl there leads;
      kept = kept-after;
    }

  module _ (w : World) (separate : Separate known w) (low : w.top ≤ limit) (memory : Memory) (cells : Cells) (stands : Stands w memory cells) where
    scalar-end : (kind other : Scalar) (rest : List Projection) → walk structs (Some (whole (OfScalar kind))) rest ≡ Some (whole (OfScalar other)) → rest ≡ []
    scalar-end kind other [] h = refl
    scalar-end kind other (q ∷ []) h = cc
    scalar-end kind other (q ∷ r ∷ rest) h = cc

    scalar-same : (kind other : Scalar) (rest : List Projection) →
        walk structs (Some (whole (OfScalar kind))) rest ≡ Some (whole (OfScalar other)) → kind ≡ other
    scalar-same kind other [] h = same kind other h
      where
        same : (a b : Scalar) → Some (whole (OfScalar a)) ≡ Some (whole (OfScalar b)) → a ≡ b
        same a b h = cc
    scalar-same kind other (q ∷ []) h = cc
    scalar-same kind other (q ∷ r ∷ rest) h = cc

    -- a scalar was set
    pub set-stands : (place : Location) (kind : Scalar) (k : ℕ) (value : CValue) (n : ℤ) → PlacedAt w place (OfScalar kind) k →
        scalar_number value ≡ n →
        in_range kind n ≡ true →
        Stands w (set_at memory place value) (slice_set cells k n)
    set-stands place kind k value n p is fits =
        let b : k + size_of_type known (OfScalar kind) ≤ w.top = placed-below w place (OfScalar kind) k separate p in
        let r = stands.room in
        let e : k + 0 ≡ k = omega arith in
        written-stands w separate memory cells (slice_set cells k n) stands place (OfScalar kind) k p value
        (λ j apart. set-elsewhere cells k j n apart)
        (λ rest other leads. ap (λ ps. cell_at (slice_set cells k n) (k + Offset (Some (whole (OfScalar kind))) ps)) (scalar-end kind other rest leads)
        ∙ ap (cell_at (slice_set cells k n)) e ∙ set-there cells k n (omega arith) ∙ sym is ∙ ap value (sym (scalar-end kind other rest leads)))
        (λ rest other leads. ap (λ ps. in_range other (value ps)) (scalar-end kind other rest leads) ∙ ap (in_range other) is
        ∙ ap (λ t. in_range t n) (sym (scalar-same kind other rest leads)) ∙ fits)
        (length-set cells k n)

    -- a place was cleared
    pub clear-stands : (place : Location) (ty : CType) (k : ℕ) → PlacedAt w place ty k →
        Stands w (set_at memory place zeros) (zeroed (size_of_type known ty) k cells)
    clear-stands place ty k p =
        let b : k + size_of_type known ty ≤ w.top = placed-below w place ty k separate p in
        let r = stands.room in
        written-stands w separate memory cells (zeroed (size_of_type known ty) k cells) stands place ty k p zeros
        (λ j apart. zeroed-elsewhere (size_of_type known ty) k cells j apart)
        (λ rest other leads. let i : Offset (Some (whole ty)) rest + 1 ≤ size_of_type known ty = walk-within known lists structs shaped (Some (whole ty))
        (whole ty) (whole (OfScalar other)) rest refl leads in
        zeroed-there (size_of_type known ty) k cells (Offset (Some (whole ty)) rest) (omega arith) (omega arith))
        (λ rest other leads. zero-fits other)
        (length-zeroed (size_of_type known ty) k cells)

    -- a struct was copied from another place
    pub copy-stands : (place source : Location) (ty : CType) (k from : ℕ) (value : CValue) → PlacedAt w place ty k → PlacedAt w source ty from →
        value ≡ value_at memory source →
        Stands w (set_at memory place value) (copied (size_of_type known ty) from k cells)
    copy-stands place source ty k from value p q is =
        let b : k + size_of_type known ty ≤ w.top = placed-below w place ty k separate p in
        let c : from + size_of_type known ty ≤ w.top = placed-below w source ty from separate q in
        let r = stands.room in
        let here : k + size_of_type known ty ≤ length cells = omega arith in
        let there : from + size_of_type known ty ≤ length cells = omega arith in
        written-stands w separate memory cells (copied (size_of_type known ty) from k cells) stands place ty k p value
        (λ j apart. copied-elsewhere (size_of_type known ty) from k cells there here j apart)
        (λ rest other leads. let i : Offset (Some (whole ty)) rest + 1 ≤ size_of_type known ty = walk-within known lists structs shaped (Some (whole ty))
        (whole ty) (whole (OfScalar other)) rest refl leads in
        copied-there (size_of_type known ty) from k cells there here (Offset (Some (whole ty)) rest) (omega arith)
        ∙ read-part w memory cells stands source ty from q rest other leads ∙ ap (λ v. v rest) (sym is))
        (λ rest other leads. ap (λ v. in_range other (v rest)) is ∙ range-part w memory cells stands source ty from q rest other leads)
        (length-copied (size_of_type known ty) from k cells there here)
