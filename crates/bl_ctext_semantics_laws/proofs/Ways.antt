-- How many cells stand before a part of a value.
use Rattle.std.proofs.Common.{◌≡◌, ℕ, zero, suc, ◌+◌, ◌*◌, ◌≤◌, ◌<◌, inl, inr, ⊎_elim, Bool, true, false, List, [], ◌∷◌, ◌++◌, map, Option, Some}
use Rattle.std.proofs.Common.{None, refl, ap, sym, ◌∙◌, arith, suc-mul}
use Rattle.std.specs.Prelude.{unwrap_or, option_map, option_and_then, nat_lt, ◌==◌, if◌then◌else◌}
use Rattle.std.proofs.lemmas.Grind.{common_steps}
use Rattle.std.proofs.lemmas.Slice.Eq.{bytes_eq-Decides}
use Rattle.bl_tree.proofs.Basics.{same_some}
use Rattle.bl_tree.specs.declared.text.Text.{Text}
use Rattle.bl_tree.specs.declared.c.CType.{CType}
use Rattle.bl_tree.specs.declared.c.CType.TheVariants.{Scalar as OfScalar, Struct as OfStruct}
use Rattle.bl_tree.specs.declared.c.CMember.{CMember}
use Rattle.bl_tree.specs.declared.scalar.Scalar.{Scalar}
use Rattle.bl_tree.specs.Reduce.{total}
use Rattle.bl_ctext_semantics.specs.Memory.{Projection, member, element, same_part, left_after}
use Rattle.bl_ctext_semantics.specs.Sizes.{Sizes, size_of_length, size_of_member, size_of_type}
use Rattle.bl_ctext_semantics.specs.Tables.{Table, entry_or, found, table_of}
use Rattle.bl_ctext_semantics_laws.proofs.Entries.{Apart, offset-apart, offset-within, offset_of, sum_of}
use Rattle.bl_ctext_semantics_laws.specs.Fitting.{ValueSpot, whole, row, spot_if, spot_of, spot_of_length, step_in, walk}
use Rattle.bl_ctext_semantics_laws.proofs.Places.{some_spot}

-- the members of each struct, by name and in order
abbrev pub Structs : Type 0
Structs = Table (Table CMember)

abbrev pub Lists : Type 0
Lists = Table (List CMember)

abbrev pub by_name : List CMember → List (Text × CMember)
by_name ms = map (λ m. (m.name, m)) ms

-- how many cells stand before the member of a name
abbrev pub offset_in : Sizes → List CMember → Text → ℕ
offset_in known ms name = offset_of (size_of_member known) (by_name ms) name

-- how many cells stand before a part
abbrev pub part_offset : Sizes → Lists → ValueSpot → Projection → ℕ
part_offset known lists (whole (OfStruct struct)) (member name) = offset_in known (entry_or [] lists struct) name
part_offset known lists (row n ty) (element k) = k * size_of_type known ty
part_offset known lists (whole (OfStruct struct)) (element k) = 0
part_offset known lists (whole (OfScalar kind)) part = 0
part_offset known lists (row n ty) (member name) = 0

-- how many cells stand before the end of a way
abbrev pub way_offset : Sizes → Lists → Structs → Option ValueSpot → List Projection → ℕ
way_offset known lists structs o [] = 0
way_offset known lists structs None (p ∷ ps) = 0
way_offset known lists structs (Some spot) (p ∷ ps) = part_offset known lists spot p + way_offset known lists structs (step_in structs spot p) ps

-- how many cells there are at the end of a way
abbrev pub spot_size : Sizes → ValueSpot → ℕ
spot_size known (whole ty) = size_of_type known ty
spot_size known (row n ty) = n * size_of_type known ty

-- what is known of the structs of a file
pub record Shaped (known : Sizes) (lists : Lists) (structs : Structs) : Type 0 where
  pub tables : (name : Text) → structs name ≡ option_map (λ ms. table_of (by_name ms)) (lists name)
  pub sized : (name : Text) (ms : List CMember) → lists name ≡ Some ms → known name ≡ Some (total (map (size_of_member known) ms))

-- ---- what is there

pub spot_size-length : (known : Sizes) (ty : CType) (length : Option ℕ) →
    spot_size known (spot_of_length ty length) ≡ size_of_length length (size_of_type known ty)
spot_size-length known ty None = refl
spot_size-length known ty (Some n) = refl

sum-of-members : (known : Sizes) (ms : List CMember) → sum_of (size_of_member known) (by_name ms) ≡ total (map (size_of_member known) ms)
sum-of-members known [] = refl
sum-of-members known (m ∷ ms) = ap (λ n. size_of_member known m + n) (sum-of-members known ms)

-- a member stands inside its struct
offset-fits : (known : Sizes) (ms : List CMember) (name : Text) (m : CMember) → found name (by_name ms) ≡ Some m →
    offset_in known ms name + size_of_member known m ≤ total (map (size_of_member known) ms)
offset-fits known ms name m h =
    let e = sum-of-members known ms in
    let w = offset-within (size_of_member known) (by_name ms) name m h in
    omega arith

product-within : (k n s : ℕ) → k < n → k * s + s ≤ n * s
product-within k zero s h = omega arith
product-within zero (suc n) s h = rw (suc-mul n s) (omega arith)
product-within (suc k) (suc n) s h =
    let r : k * s + s ≤ n * s = product-within k n s (omega arith) in
    rw (suc-mul k s, suc-mul n s) (omega arith)

product-apart : (j k s : ℕ) → (j == k) ≡ false → Apart (j * s) s (k * s) s
product-apart j k s h = chosen (nat_lt j k) refl
  where
    chosen : (b : Bool) → nat_lt j k ≡ b → Apart (j * s) s (k * s) s
    chosen true is = inl (product-within j k s (grind (arith, common_steps)))
    chosen false is = inr (product-within k j s (grind (arith, common_steps)))

-- ---- one step

pub same-part-is : (p q : Projection) → same_part p q ≡ true → p ≡ q
same-part-is (member m) (member n) h = ap member ((bytes_eq-Decides m n).0 h)
same-part-is (member m) (element k) h = cc
same-part-is (element j) (member n) h = cc
same-part-is (element j) (element k) h = let e : j ≡ k = grind (arith, common_steps) in ap element e

module _ (known : Sizes) (lists : Lists) (structs : Structs) (shaped : Shaped known lists structs) where
  -- what is known of the member that a step leads to
  pub record Stepped (struct name : Text) (next : ValueSpot) : Type 0 where
    pub list : List CMember
    pub is : lists struct ≡ Some list
    pub it : CMember
    pub there : found name (by_name list) ≡ Some it
    pub spot : spot_of it ≡ next

  pub stepped : (struct name : Text) (next : ValueSpot) → step_in structs (whole (OfStruct struct)) (member name) ≡ Some next → Stepped struct name next
  stepped struct name next h = chosen (lists struct) refl (sym (ap (λ o. spot_if (option_and_then (λ members. members name) o)) (shaped.tables struct)) ∙ h)
    where
      with_member : (list : List CMember) → lists struct ≡ Some list → (o : Option CMember) → found name (by_name list) ≡ o →
          spot_if o ≡ Some next →
          Stepped struct name next
      with_member list is None at k = cc
      with_member list is (Some m) at k = record { list = list; is = is; it = m; there = at; spot = some_spot (spot_of m) next k }

      chosen : (o : Option (List CMember)) → lists struct ≡ o →
          spot_if (option_and_then (λ members. members name) (option_map (λ ms. table_of (by_name ms)) o)) ≡ Some next → Stepped struct name next
      chosen None is k = cc
      chosen (Some list) is k = with_member list is (found name (by_name list)) refl k

  element-next : (n k : ℕ) (ty : CType) (next : ValueSpot) (b : Bool) → (if b then Some (whole ty) else None) ≡ Some next → whole ty ≡ next
  element-next n k ty next true h = some_spot (whole ty) next h
  element-next n k ty next false h = cc

  element-within : (k n : ℕ) (ty : CType) (next : ValueSpot) (b : Bool) → nat_lt k n ≡ b → (if b then Some (whole ty) else None) ≡ Some next → k < n
  element-within k n ty next true is h = grind (arith, common_steps)
  element-within k n ty next false is h = cc

  size-of-struct : (struct : Text) (list : List CMember) → lists struct ≡ Some list →
      size_of_type known (OfStruct struct) ≡ total (map (size_of_member known) list)
  size-of-struct struct list is = ap (λ o. unwrap_or o 0) (shaped.sized struct list is)

  offset-of-member : (struct name : Text) (list : List CMember) → lists struct ≡ Some list →
      part_offset known lists (whole (OfStruct struct)) (member name) ≡ offset_in known list name
  offset-of-member struct name list is = ap (λ o. offset_in known (unwrap_or o []) name) is

  size-of-next : (m : CMember) (next : ValueSpot) → spot_of m ≡ next → size_of_member known m ≡ spot_size known next
  size-of-next m next is = sym (spot_size-length known m.ty m.length) ∙ ap (spot_size known) is

  pub step-within : (spot next : ValueSpot) (p : Projection) → step_in structs spot p ≡ Some next →
      part_offset known lists spot p + spot_size known next ≤ spot_size known spot
  step-within (whole (OfStruct struct)) next (member name) h =
      let s : Stepped struct name next = stepped struct name next h in
      let fits : offset_in known s.list name + size_of_member known s.it ≤ total (map (size_of_member known) s.list) =
      offset-fits known s.list name s.it s.there in
      let a = offset-of-member struct name s.list s.is in
      let b = size-of-struct struct s.list s.is in
      let c = size-of-next s.it next s.spot in
      omega arith
  step-within (row n ty) next (element k) h =
      let is : whole ty ≡ next = element-next n k ty next (nat_lt k n) h in
      let e : size_of_type known ty ≡ spot_size known next = ap (spot_size known) is in
      let r : k * size_of_type known ty + size_of_type known ty ≤ n * size_of_type known ty =
      product-within k n (size_of_type known ty) (element-within k n ty next (nat_lt k n) refl h) in
      omega arith
  step-within (whole (OfStruct struct)) next (element k) h = cc
  step-within (whole (OfScalar kind)) next p h = cc
  step-within (row n ty) next (member name) h = cc

  -- different parts have no cell in common
  pub step-apart : (spot a b : ValueSpot) (p q : Projection) → step_in structs spot p ≡ Some a →
      step_in structs spot q ≡ Some b → same_part p q ≡ false →
      Apart (part_offset known lists spot p) (spot_size known a) (part_offset known lists spot q) (spot_size known b)
  step-apart (whole (OfStruct struct)) a b (member m) (member n) h k differ =
      let s : Stepped struct m a = stepped struct m a h in
      let t : Stepped struct n b = stepped struct n b k in
      let same : s.list ≡ t.list = same_some s.list t.list (sym s.is ∙ t.is) in
      let apart : Apart (offset_in known s.list m) (size_of_member known s.it) (offset_in known s.list n) (size_of_member known t.it) =
      offset-apart (size_of_member known) (by_name s.list) m n s.it t.it differ s.there (ap (λ l. found n (by_name l)) same ∙ t.there) in
      let ea = offset-of-member struct m s.list s.is in
      let eb = offset-of-member struct n s.list s.is in
      let ca = size-of-next s.it a s.spot in
      let cb = size-of-next t.it b t.spot in
      ⊎_elim (λ (l : offset_in known s.list m + size_of_member known s.it ≤ offset_in known s.list n). inl (omega arith))
      (λ (r : offset_in known s.list n + size_of_member known t.it ≤ offset_in known s.list m). inr (omega arith)) apart
  step-apart (row n ty) a b (element j) (element k) h l differ =
      let ea : size_of_type known ty ≡ spot_size known a = ap (spot_size known) (element-next n j ty a (nat_lt j n) h) in
      let eb : size_of_type known ty ≡ spot_size known b = ap (spot_size known) (element-next n k ty b (nat_lt k n) l) in
      let size = size_of_type known ty in
      ⊎_elim (λ (x : j * size_of_type known ty + size_of_type known ty ≤ k * size_of_type known ty). inl (omega arith))
      (λ (x : k * size_of_type known ty + size_of_type known ty ≤ j * size_of_type known ty). inr (omega arith))
      (product-apart j k (size_of_type known ty) differ)
  step-apart (whole (OfStruct struct)) a b (member m) (element k) h l differ = cc
  step-apart (whole (OfStruct struct)) a b (element j) q h l differ = cc
  step-apart (whole (OfScalar kind)) a b p q h l differ = cc
  step-apart (row n ty) a b (member m) q h l differ = cc
  step-apart (row n ty) a b (element j) (member m) h l differ = cc

  -- ---- ways

  pub walk-nowhere : (parts : List Projection) → walk structs None parts ≡ None
  walk-nowhere [] = refl
  walk-nowhere (p ∷ ps) = refl

  pub walk-append : (o : Option ValueSpot) (ps qs : List Projection) → walk structs o (ps ++ qs) ≡ walk structs (walk structs o ps) qs
  walk-append o [] qs = refl
  walk-append None (p ∷ ps) qs = sym (walk-nowhere qs)
  walk-append (Some spot) (p ∷ ps) qs = walk-append (step_in structs spot p) ps qs

  nowhere-offset : (qs : List Projection) → way_offset known lists structs None qs ≡ 0
  nowhere-offset [] = refl
  nowhere-offset (q ∷ qs) = refl

  pub offset-append : (o : Option ValueSpot) (ps qs : List Projection) →
      way_offset known lists structs o (ps ++ qs) ≡ way_offset known lists structs o ps + way_offset known lists structs (walk structs o ps) qs
  offset-append o [] qs = omega arith
  offset-append None (p ∷ ps) qs = let e = nowhere-offset qs in omega arith
  offset-append (Some spot) (p ∷ ps) qs = let e = offset-append (step_in structs spot p) ps qs in omega arith

  pub walk-within : (o : Option ValueSpot) (spot goal : ValueSpot) (ps : List Projection) → o ≡ Some spot → walk structs o ps ≡ Some goal →
      way_offset known lists structs o ps + spot_size known goal ≤ spot_size known spot
  walk-within o spot goal [] is h = let e : spot_size known spot ≡ spot_size known goal =
      ap (spot_size known) (some_spot spot goal (sym is ∙ h)) in omega arith
  walk-within None spot goal (p ∷ ps) is h = cc
  walk-within (Some x) spot goal (p ∷ ps) is h =
      through (step_in structs x p) refl h (λ next at k. walk-within (step_in structs x p) next goal ps at (ap (λ o. walk structs o ps) at ∙ k))
    where
      through : (o : Option ValueSpot) → step_in structs x p ≡ o → walk structs o ps ≡ Some goal →
          ((next : ValueSpot) → step_in structs x p ≡ Some next → walk structs (Some next) ps ≡ Some goal →
          way_offset known lists structs (step_in structs x p) ps + spot_size known goal ≤ spot_size known next) →
          part_offset known lists x p + way_offset known lists structs (step_in structs x p) ps + spot_size known goal ≤ spot_size known spot
      through None at k inner = let bad : None ≡ Some goal = sym (walk-nowhere ps) ∙ k in cc
      through (Some next) at k inner =
          let rest : way_offset known lists structs (step_in structs x p) ps + spot_size known goal ≤ spot_size known next = inner next at k in
          let here : part_offset known lists x p + spot_size known next ≤ spot_size known x = step-within x next p at in
          let e : spot_size known x ≡ spot_size known spot = ap (spot_size known) (some_spot x spot is) in
          omega arith

  -- the way that is left after another goes on from its end
  pub left-is : (ps qs rest : List Projection) → left_after ps qs ≡ Some rest → qs ≡ ps ++ rest
  left-is [] qs rest h = some_list qs rest h
    where
      some_list : (a b : List Projection) → Some a ≡ Some b → a ≡ b
      some_list a b h = cc
  left-is (p ∷ ps) [] rest h = cc
  left-is (p ∷ ps) (q ∷ qs) rest h = chosen (same_part p q) refl h (λ k. left-is ps qs rest k)
    where
      chosen : (b : Bool) → same_part p q ≡ b → (if b then left_after ps qs else None) ≡ Some rest →
          (left_after ps qs ≡ Some rest → qs ≡ ps ++ rest) →
          q ∷ qs ≡ (p ∷ ps) ++ rest
      chosen true is k inner = ap (λ x. x ∷ qs) (sym (same-part-is p q is)) ∙ ap (λ xs. p ∷ xs) (inner k)
      chosen false is k inner = cc

  -- a scalar outside of a part has its cell outside of it
  pub ways-apart : (o : Option ValueSpot) (goal : ValueSpot) (kind : Scalar) (ps qs : List Projection) → walk structs o ps ≡ Some goal →
      walk structs o qs ≡ Some (whole (OfScalar kind)) → left_after ps qs ≡ None →
      Apart (way_offset known lists structs o ps) (spot_size known goal) (way_offset known lists structs o qs) 1
  ways-apart o goal kind [] qs h k none = cc
  ways-apart None goal kind (p ∷ ps) qs h k none = cc
  ways-apart (Some spot) goal kind (p ∷ ps) [] h k none =
      let is : spot ≡ whole (OfScalar kind) = some_spot spot (whole (OfScalar kind)) k in
      absurd (nothing-in (step_in structs spot p) (ap (λ s. step_in structs s p) is) h)
    where
      nothing-in : (o : Option ValueSpot) → o ≡ None → walk structs o ps ≡ Some goal → ⊥
      nothing-in None is h = let bad : None ≡ Some goal = sym (walk-nowhere ps) ∙ h in cc
      nothing-in (Some s) is h = cc
  ways-apart (Some spot) goal kind (p ∷ ps) (q ∷ qs) h k none =
      same (same_part p q) refl none (λ there n. ways-apart (step_in structs spot p) goal kind ps qs h there n)
    where
      differ : (a b : Option ValueSpot) → step_in structs spot p ≡ a → step_in structs spot q ≡ b → walk structs a ps ≡ Some goal →
          walk structs b qs ≡ Some (whole (OfScalar kind)) → same_part p q ≡ false →
          Apart (part_offset known lists spot p + way_offset known lists structs (step_in structs spot p) ps) (spot_size known goal)
          (part_offset known lists spot q + way_offset known lists structs (step_in structs spot q) qs) 1
      differ None b ia ib wa wb other = let bad : None ≡ Some goal = sym (walk-nowhere ps) ∙ wa in cc
      differ (Some a) None ia ib wa wb other = let bad : None ≡ Some (whole (OfScalar kind)) = sym (walk-nowhere qs) ∙ wb in cc
      differ (Some a) (Some b) ia ib wa wb other =
          let inner-a : way_offset known lists structs (step_in structs spot p) ps + spot_size known goal ≤ spot_size known a =
          walk-within (step_in structs spot p) a goal ps ia (ap (λ o. walk structs o ps) ia ∙ wa) in
          let inner-b : way_offset known lists structs (step_in structs spot q) qs + 1 ≤ spot_size known b =
          walk-within (step_in structs spot q) b (whole (OfScalar kind)) qs ib (ap (λ o. walk structs o qs) ib ∙ wb) in
          ⊎_elim (λ (l : part_offset known lists spot p + spot_size known a ≤ part_offset known lists spot q). inl (omega arith))
          (λ (r : part_offset known lists spot q + spot_size known b ≤ part_offset known lists spot p). inr (omega arith))
          (step-apart spot a b p q ia ib other)

      same : (b : Bool) → same_part p q ≡ b → (if b then left_after ps qs else None) ≡ None →
          (walk structs (step_in structs spot p) qs ≡ Some (whole (OfScalar kind)) → left_after ps qs ≡ None →
          Apart (way_offset known lists structs (step_in structs spot p) ps) (spot_size known goal)
          (way_offset known lists structs (step_in structs spot p) qs) 1) →
          Apart (part_offset known lists spot p + way_offset known lists structs (step_in structs spot p) ps) (spot_size known goal)
          (part_offset known lists spot q + way_offset known lists structs (step_in structs spot q) qs) 1
      same false is n inner = differ (step_in structs spot p) (step_in structs spot q) refl refl h k is
      same true is n inner =
          let e : p ≡ q = same-part-is p q is in
          let there : walk structs (step_in structs spot p) qs ≡ Some (whole (OfScalar kind)) = ap (λ x. walk structs (step_in structs spot x) qs) e ∙ k in
          let a : part_offset known lists spot p ≡ part_offset known lists spot q = ap (part_offset known lists spot) e in
          let b : way_offset known lists structs (step_in structs spot p) qs ≡ way_offset known lists structs (step_in structs spot q) qs =
          ap (λ x. way_offset known lists structs (step_in structs spot x) qs) e in
          let mine : ℕ = way_offset known lists structs (step_in structs spot p) ps in
          let other : ℕ = way_offset known lists structs (step_in structs spot p) qs in
          ⊎_elim (λ (l : mine + spot_size known goal ≤ other). inl (omega arith)) (λ (r : other + 1 ≤ mine). inr (omega arith))
          (inner there n)
