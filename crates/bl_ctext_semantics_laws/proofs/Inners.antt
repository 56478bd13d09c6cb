-- The scalars of a type in order, and the cells before each.
use Rattle.std.proofs.Common.{◌≡◌, ℕ, zero, suc, ◌+◌, ◌*◌, ◌≤◌, ◌<◌, Bool, true, false, List, [], ◌∷◌, ◌++◌, map, length, Option, Some, None, refl}
use Rattle.std.proofs.Common.{ap, sym, subst, ◌∙◌, arith, append-nil, append_assoc, length-append, suc-mul, zero-mul}
use Rattle.std.specs.Prelude.{flat_map, is_some, is_none, bytes_eq, unwrap_or, option_map, option_and_then, nat_lt, if◌then◌else◌}
use Rattle.std.specs.List.{list_all}
use Rattle.std.specs.Option.{option_or}
use Rattle.std.proofs.lemmas.Grind.{common_steps}
use Rattle.bl_tree.proofs.Basics.{and_first, and_second, first_empty, same_some, second_empty}
use Rattle.bl_tree.specs.declared.text.Text.{Text}
use Rattle.bl_tree.specs.declared.scalar.Scalar.{Scalar}
use Rattle.bl_tree.specs.declared.c.CType.{CType}
use Rattle.bl_tree.specs.declared.c.CType.TheVariants.{Scalar as OfScalar, Struct as OfStruct}
use Rattle.bl_tree.specs.declared.c.CMember.{CMember}
use Rattle.bl_tree.specs.declared.c.CStruct.{CStruct}
use Rattle.bl_tree.specs.Reduce.{total}
use Rattle.bl_ctext_semantics.specs.Cells.{Inner, below, inner_of_length, inner_of_member, inner_of_type, seen_from_outside}
use Rattle.bl_ctext_semantics.specs.Memory.{Projection, member, element}
use Rattle.bl_ctext_semantics.specs.Sizes.{Sizes, size_of_length, size_of_member, size_of_type}
use Rattle.bl_ctext_semantics.specs.Faults.{distinct_names, declared_before, all_distinct, depth_of_struct, faults_in_struct, is_declared, member_table}
use Rattle.bl_ctext_semantics.specs.Faults.{struct_faults_after, unless}
use Rattle.bl_ctext_semantics.specs.Tables.{Table, found, no_entries, table_of, with_entry}
use Rattle.bl_ctext_semantics.proofs.MapLemmas.{next_entry}
use Rattle.bl_ctext_semantics_laws.specs.Fitting.{ValueSpot, whole, row, spot_if, spot_of, spot_of_length, step_in, walk}
use Rattle.bl_ctext_semantics_laws.proofs.Faultless.{unless-nil}
use Rattle.bl_ctext_semantics_laws.proofs.Entries.{Positioned, positioned}
use Rattle.bl_ctext_semantics_laws.proofs.Layouts.{entries_after}
use Rattle.bl_ctext_semantics_laws.proofs.Ways.{Lists, Shaped, Structs, by_name, offset_in, part_offset, way_offset}

-- the tables of a file
abbrev pub Scalars : Type 0
Scalars = Table (List Inner)

length-inside : (parts : List Projection) (is : List Inner) → length (map (seen_from_outside parts) is) ≡ length is
length-inside parts [] = refl
length-inside parts (i ∷ is) = ap suc (length-inside parts is)

flat-append : {A B : Type 0} (f : A → List B) (xs ys : List A) → flat_map f (xs ++ ys) ≡ flat_map f xs ++ flat_map f ys
flat-append f [] ys = refl
flat-append f (x ∷ xs) ys = ap (λ l. f x ++ l) (flat-append f xs ys) ∙ sym (append_assoc (f x) (flat_map f xs) (flat_map f ys))

module _ (known : Sizes) (lists : Lists) (structs : Structs) (shaped : Shaped known lists structs) (scalars : Scalars)
    (inner : (name : Text) (ms : List CMember) → lists name ≡ Some ms → scalars name ≡ Some (flat_map (inner_of_member scalars) ms)) where
  abbrev Offset : Option ValueSpot → List Projection → ℕ
  Offset = way_offset known lists structs

  -- each scalar is led to from a spot, and stands so many cells behind it
  abbrev pub Led : ValueSpot → ℕ → List Inner → Type 0
  Led spot at [] = Unit {0}
  Led spot at (i ∷ is) = ((walk structs (Some spot) i.parts ≡ Some (whole (OfScalar i.kind))) × (Offset (Some spot) i.parts ≡ at))
      × Led spot (suc at) is

  led-append : (spot : ValueSpot) (at : ℕ) (xs ys : List Inner) → Led spot at xs → Led spot (at + length xs) ys → Led spot at (xs ++ ys)
  led-append spot at [] ys h k = let e : at + 0 ≡ at = omega arith in subst (λ n. Led spot n ys) e k
  led-append spot at (x ∷ xs) ys h k =
      let e : at + suc (length xs) ≡ suc at + length xs = omega arith in
      (h.0, led-append spot (suc at) xs ys h.1 (subst (λ n. Led spot n ys) e k))

  led-inside : (spot next : ValueSpot) (p : Projection) (at : ℕ) (is : List Inner) → step_in structs spot p ≡ Some next → Led next at is →
      Led spot (part_offset known lists spot p + at) (map (seen_from_outside (p ∷ [])) is)
  led-inside spot next p at [] steps h = tt
  led-inside spot next p at (i ∷ is) steps h =
      let e : part_offset known lists spot p + suc at ≡ suc (part_offset known lists spot p + at) = omega arith in (
        (
          ap (λ o. walk structs o i.parts) steps ∙ h.0.0,
          ap (λ o. part_offset known lists spot p + Offset o i.parts) steps
              ∙ ap (λ n. part_offset known lists spot p + n) h.0.1,
        ),
        subst (λ n. Led spot n (map (seen_from_outside (p ∷ [])) is)) e (led-inside spot next p (suc at) is steps h.1),
      )

  led-inside-two : (spot mid next : ValueSpot) (p q : Projection) (at : ℕ) (is : List Inner) → step_in structs spot p ≡ Some mid →
      step_in structs mid q ≡ Some next →
      Led next at is →
      Led spot (part_offset known lists spot p + (part_offset known lists mid q + at)) (map (seen_from_outside (p ∷ q ∷ [])) is)
  led-inside-two spot mid next p q at [] first second h = tt
  led-inside-two spot mid next p q at (i ∷ is) first second h =
      let e : part_offset known lists spot p + (part_offset known lists mid q + suc at)
      ≡ suc (part_offset known lists spot p + (part_offset known lists mid q + at)) = omega arith in (
        (
          ap (λ o. walk structs o (q ∷ i.parts)) first ∙ ap (λ o. walk structs o i.parts) second ∙ h.0.0,
          ap (λ o. part_offset known lists spot p + Offset o (q ∷ i.parts)) first
              ∙ ap (λ o. part_offset known lists spot p + (part_offset known lists mid q + Offset o i.parts)) second
              ∙ ap (λ n. part_offset known lists spot p + (part_offset known lists mid q + n)) h.0.1,
        ),
        subst (λ n. Led spot n (map (seen_from_outside (p ∷ q ∷ [])) is)) e (led-inside-two spot mid next p q (suc at) is first second h.1),
      )

  -- what is shown of a type
  pub record LedType (ty : CType) : Type 0 where
    pub led : Led (whole ty) 0 (inner_of_type scalars ty)
    pub long : length (inner_of_type scalars ty) ≡ size_of_type known ty

  within-so : (k n : ℕ) (ty : CType) → k < n → (if nat_lt k n then Some (whole ty) else None) ≡ Some (whole ty)
  within-so k n ty h = chosen (nat_lt k n) refl
    where
      chosen : (b : Bool) → nat_lt k n ≡ b → (if b then Some (whole ty) else None) ≡ Some (whole ty)
      chosen true is = refl
      chosen false is = absurd (grind (arith, common_steps))

  -- the elements of an array, in order
  led-row : (spot : ValueSpot) (name : Text) (n m : ℕ) (ty : CType) → step_in structs spot (member name) ≡ Some (row n ty) → LedType ty → m ≤ n →
      Led spot (part_offset known lists spot (member name))
      (flat_map (λ k. map (seen_from_outside (member name ∷ element k ∷ [])) (inner_of_type scalars ty)) (below m))
      × (length (flat_map (λ k. map (seen_from_outside (member name ∷ element k ∷ [])) (inner_of_type scalars ty)) (below m)) ≡ m * size_of_type known ty)
  led-row spot name n zero ty steps t fits = (tt, sym (zero-mul (size_of_type known ty)))
  led-row spot name n (suc m) ty steps t fits =
      let before = led-row spot name n m ty steps t (omega arith) in
      let split : flat_map (λ k. map (seen_from_outside (member name ∷ element k ∷ [])) (inner_of_type scalars ty)) (below m ++ m ∷ [])
      ≡ flat_map (λ k. map (seen_from_outside (member name ∷ element k ∷ [])) (inner_of_type scalars ty)) (below m)
      ++ (map (seen_from_outside (member name ∷ element m ∷ [])) (inner_of_type scalars ty) ++ []) =
      flat-append (λ k. map (seen_from_outside (member name ∷ element k ∷ [])) (inner_of_type scalars ty)) (below m) (m ∷ []) in
      let here : Led spot (part_offset known lists spot (member name) + (m * size_of_type known ty + 0))
      (map (seen_from_outside (member name ∷ element m ∷ [])) (inner_of_type scalars ty)) =
      led-inside-two spot (row n ty) (whole ty) (member name) (element m) 0 (inner_of_type scalars ty) steps (within-so m n ty (omega arith)) t.led in
      let long = length-inside (member name ∷ element m ∷ []) (inner_of_type scalars ty) in
      let tl = t.long in
      let bl = before.1 in
      let at : part_offset known lists spot (member name) + (m * size_of_type known ty + 0)
      ≡ part_offset known lists spot (member name) + length
      (flat_map (λ k. map (seen_from_outside (member name ∷ element k ∷ [])) (inner_of_type scalars ty)) (below m)) = omega arith in
      let la = length-append (flat_map (λ k. map (seen_from_outside (member name ∷ element k ∷ [])) (inner_of_type scalars ty)) (below m))
      (map (seen_from_outside (member name ∷ element m ∷ [])) (inner_of_type scalars ty) ++ []) in
      let ln = ap length (append-nil (map (seen_from_outside (member name ∷ element m ∷ [])) (inner_of_type scalars ty))) in
      let mul = suc-mul m (size_of_type known ty) in (
        subst (Led spot (part_offset known lists spot (member name))) (sym split)
            (led-append spot (part_offset known lists spot (member name))
            (flat_map (λ k. map (seen_from_outside (member name ∷ element k ∷ [])) (inner_of_type scalars ty)) (below m))
            (map (seen_from_outside (member name ∷ element m ∷ [])) (inner_of_type scalars ty) ++ []) before.0
            (subst (Led spot (part_offset known lists spot (member name) + length
            (flat_map (λ k. map (seen_from_outside (member name ∷ element k ∷ [])) (inner_of_type scalars ty)) (below m))))
            (sym (append-nil (map (seen_from_outside (member name ∷ element m ∷ [])) (inner_of_type scalars ty))))
            (subst (λ k. Led spot k (map (seen_from_outside (member name ∷ element m ∷ [])) (inner_of_type scalars ty))) at here))),
        ap length split ∙ omega arith,
      )

  -- a member
  led-member : (spot : ValueSpot) (m : CMember) → step_in structs spot (member m.name) ≡ Some (spot_of m) → LedType m.ty →
      Led spot (part_offset known lists spot (member m.name)) (inner_of_member scalars m) × (length (inner_of_member scalars m) ≡ size_of_member known m)
  led-member spot m steps t = chosen m.length steps
    where
      chosen : (l : Option ℕ) → step_in structs spot (member m.name) ≡ Some (spot_of_length m.ty l) →
          Led spot (part_offset known lists spot (member m.name)) (inner_of_length m.name l (inner_of_type scalars m.ty))
          × (length (inner_of_length m.name l (inner_of_type scalars m.ty)) ≡ size_of_length l (size_of_type known m.ty))
      chosen None steps =
          let e : part_offset known lists spot (member m.name) + 0 ≡ part_offset known lists spot (member m.name) = omega arith in (
            subst (λ n. Led spot n (map (seen_from_outside (member m.name ∷ [])) (inner_of_type scalars m.ty))) e
                (led-inside spot (whole m.ty) (member m.name) 0 (inner_of_type scalars m.ty) steps t.led),
            length-inside (member m.name ∷ []) (inner_of_type scalars m.ty) ∙ t.long,
          )
      chosen (Some n) steps = led-row spot m.name n n m.ty steps t (omega arith)

  -- the members of a struct, one behind the other
  led-members : (struct : Text) (all : List CMember) (behind : ℕ) (ms : List CMember) → lists struct ≡ Some all →
      Positioned (size_of_member known) (by_name all) behind (by_name ms) →
      ((m : CMember) → found m.name (by_name all) ≡ Some m → step_in structs (whole (OfStruct struct)) (member m.name) ≡ Some (spot_of m)) →
      ((m : CMember) → found m.name (by_name all) ≡ Some m → LedType m.ty) →
      Led (whole (OfStruct struct)) behind (flat_map (inner_of_member scalars) ms)
      × (length (flat_map (inner_of_member scalars) ms) ≡ total (map (size_of_member known) ms))
  led-members struct all behind [] is positions steps types = (tt, refl)
  led-members struct all behind (m ∷ ms) is positions steps types =
      let here = led-member (whole (OfStruct struct)) m (steps m positions.0.0) (types m positions.0.0) in
      let at : part_offset known lists (whole (OfStruct struct)) (member m.name) ≡ behind =
      ap (λ o. offset_in known (unwrap_or o []) m.name) is ∙ positions.0.1 in
      let rest = led-members struct all (behind + size_of_member known m) ms is positions.1 steps types in
      let long = here.1 in
      let more = rest.1 in
      let la = length-append (inner_of_member scalars m) (flat_map (inner_of_member scalars) ms) in (
        led-append (whole (OfStruct struct)) behind (inner_of_member scalars m) (flat_map (inner_of_member scalars) ms)
            (subst (λ n. Led (whole (OfStruct struct)) n (inner_of_member scalars m)) at here.0)
            (subst (λ n. Led (whole (OfStruct struct)) (behind + n) (flat_map (inner_of_member scalars) ms)) (sym long) rest.0),
        omega arith,
      )

  -- ---- all structs

  abbrev Done : Structs → Type 0
  Done table = (name : Text) → is_some (table name) ≡ true → LedType (OfStruct name)

  led-scalar : (kind : Scalar) → LedType (OfScalar kind)
  led-scalar kind = record { led = ((refl, refl), tt); long = refl }

  led-declared : (table : Structs) → Done table → (ty : CType) → is_declared table ty ≡ true → LedType ty
  led-declared table done (OfScalar kind) h = led-scalar kind
  led-declared table done (OfStruct name) h = done name h

  member-names : (ms : List CMember) → map (λ m. m.name) ms ≡ map (λ e. e.0) (by_name ms)
  member-names [] = refl
  member-names (m ∷ ms) = ap (λ ns. m.name ∷ ns) (member-names ms)

  all-so : (p : CMember → Bool) (name : Text) (m : CMember) (ms : List CMember) → found name (by_name ms) ≡ Some m →
      list_all p ms ≡ true → p m ≡ true
  all-so p name m [] h all = cc
  all-so p name m (x ∷ ms) h all = chosen (bytes_eq x.name name) h (λ later. all-so p name m ms later (and_second (p x) _ all))
    where
      chosen : (b : Bool) → (if b then Some x else found name (by_name ms)) ≡ Some m →
          (found name (by_name ms) ≡ Some m → p m ≡ true) → p m ≡ true
      chosen true h rest = ap p (sym (same_some x m h)) ∙ and_first (p x) _ all
      chosen false h rest = rest h

  -- a struct over those before it
  led-struct : (table : Structs) (name : Text) (ms : List CMember) → Done table → lists name ≡ Some ms →
      all_distinct no_entries (map (λ m. m.name) ms) ≡ true → list_all (λ m. is_declared table m.ty) ms ≡ true → LedType (OfStruct name)
  led-struct table name ms done is apart declared =
      let places : Positioned (size_of_member known) (by_name ms) 0 (by_name ms) =
      positioned (size_of_member known) no_entries (by_name ms) (ap (all_distinct no_entries) (sym (member-names ms)) ∙ apart) in
      let steps : (m : CMember) → found m.name (by_name ms) ≡ Some m → step_in structs (whole (OfStruct name)) (member m.name) ≡ Some (spot_of m) =
      λ m there. ap (λ o. spot_if (option_and_then (λ members. members m.name) o)) (shaped.tables name ∙ ap (option_map (λ xs. table_of (by_name xs))) is)
      ∙ ap spot_if there in
      let all = led-members name ms 0 ms is places steps
      (λ m there. led-declared table done m.ty (all-so (λ x. is_declared table x.ty) m.name m ms there declared)) in
      let scalars-are : inner_of_type scalars (OfStruct name) ≡ flat_map (inner_of_member scalars) ms = ap (λ o. unwrap_or o []) (inner name ms is) in
      record {
        led = subst (Led (whole (OfStruct name)) 0) (sym scalars-are) all.0;
        long = ap length scalars-are ∙ all.1 ∙ sym (ap (λ o. unwrap_or o 0) (shaped.sized name ms is));
      }

  first-listed : (o : Option (List CMember)) (b : Bool) (ms : List CMember) (rest : Option (List CMember)) → o ≡ None → b ≡ true →
      option_or o (if b then Some ms else rest) ≡ Some ms
  first-listed None true ms rest h k = refl
  first-listed None false ms rest h k = cc
  first-listed (Some x) b ms rest h k = cc

  none-of : {A : Type 0} (o : Option A) → is_some o ≡ false → o ≡ None
  none-of None h = refl
  none-of (Some x) h = cc

  or-together : {A B : Type 0} (a : Option A) (b : Option B) (same : Bool) (v : A) (u : B) → is_some a ≡ is_some b →
      is_some (option_or a (if same then Some v else None)) ≡ is_some (option_or b (if same then Some u else None))
  or-together (Some a) (Some b) same v u h = refl
  or-together (Some a) None same v u h = cc
  or-together None (Some b) same v u h = cc
  or-together None None true v u h = refl
  or-together None None false v u h = refl

  pub led-all : (table : Structs) (before : Lists) (depths : Table ℕ) (rest : List CStruct) →
      ((name : Text) → is_some (before name) ≡ is_some (table name)) →
      ((name : Text) → lists name ≡ option_or (before name) (found name (map (λ s. (s.name, s.members)) rest))) → Done table →
      struct_faults_after table depths rest ≡ [] → Done (entries_after member_table table rest)
  led-all table before depths [] together all done none = done
  led-all table before depths (s ∷ rest) together all done none =
      let here : faults_in_struct table depths s ≡ [] = first_empty (faults_in_struct table depths s) _ none in
      let h1 = second_empty (unless (is_none (table s.name)) distinct_names s.place) _ here in
      let declared = unless-nil _ declared_before s.place
      (first_empty (unless (list_all (λ m. is_declared table m.ty) s.members) declared_before s.place) _ h1) in
      let h2 = second_empty (unless (list_all (λ m. is_declared table m.ty) s.members) declared_before s.place) _ h1 in
      let apart = unless-nil _ distinct_names s.place (first_empty
      (unless (all_distinct no_entries (map (λ m. m.name) s.members)) distinct_names s.place) _ h2) in
      led-all (with_entry table s.name (member_table s)) (with_entry before s.name s.members) (with_entry depths s.name (depth_of_struct depths s)) rest
      (λ name. or-together (before name) (table name) (bytes_eq s.name name) s.members (member_table s) (together name))
      (λ name. all name ∙ sym (next_entry (before name) (bytes_eq s.name name) s.members (found name (map (λ t. (t.name, t.members)) rest))))
      (λ name h. chosen declared apart name (table name) refl h) (second_empty (faults_in_struct table depths s) _ none)
    where
      chosen : list_all (λ m. is_declared table m.ty) s.members ≡ true → all_distinct no_entries (map (λ m. m.name) s.members) ≡ true →
          (name : Text) (o : Option (Table CMember)) → table name ≡ o →
          is_some (option_or o (if bytes_eq s.name name then Some (member_table s) else None)) ≡ true → LedType (OfStruct name)
      chosen declared apart name (Some x) is h = done name (ap is_some is)
      chosen declared apart name None is h = new (bytes_eq s.name name) refl h
        where
          new : (b : Bool) → bytes_eq s.name name ≡ b → is_some (if b then Some (member_table s) else None) ≡ true → LedType (OfStruct name)
          new false same h = cc
          new true same h =
              led-struct table name s.members done
              (all name ∙ first-listed (before name) (bytes_eq s.name name) s.members (found name (map (λ t. (t.name, t.members)) rest))
              (none-of (before name) (together name ∙ ap is_some is)) same) apart declared
