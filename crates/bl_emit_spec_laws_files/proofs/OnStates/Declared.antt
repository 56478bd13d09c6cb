-- Structs that a well-formed file declares, and their members, are found by their names.
use Rattle.std.proofs.Common.{◌≡◌, ℕ, zero, suc, Bool, true, false, List, [], ◌∷◌, map, Option, Some, None}
use Rattle.std.proofs.Common.{refl, ap, ◌∙◌, subst, arith}
use Rattle.std.proofs.lemmas.Cmp.{nat_list_eq_equiv}
use Rattle.std.proofs.lemmas.Option.{same_Some}
use Rattle.std.specs.List.{list_all}
use Rattle.std.specs.Option.{option_or}
use Rattle.std.specs.Prelude.{bytes_eq, Contains, is_none, option_and_then, slice_get, if◌then◌else◌}
use Rattle.bl_tree.proofs.Basics.{and_first, and_second, first_empty, index_of, none_from, second_empty}
use Rattle.bl_tree.specs.declared.c.CMember.{CMember}
use Rattle.bl_tree.specs.declared.c.CStruct.{CStruct}
use Rattle.bl_tree.specs.declared.c.CType.TheVariants.{Struct as OfStruct}
use Rattle.bl_tree.specs.declared.text.Text.{Text}
use Rattle.bl_ctext_semantics.specs.Faults.{WellFormed, all_distinct, declared_before, depth_of_struct, distinct_names, faults_in, faults_in_struct}
use Rattle.bl_ctext_semantics.specs.Faults.{is_declared, member_table, struct_faults_after, struct_table, unless}
use Rattle.bl_ctext_semantics.specs.Memory.{member}
use Rattle.bl_ctext_semantics.specs.Parts.{Parts}
use Rattle.bl_ctext_semantics.specs.Tables.{Table, found, no_entries, with_entry}
use Rattle.bl_ctext_semantics_laws.specs.Fitting.{spot_if, spot_of, step_in, whole}
use Rattle.bl_ctext_semantics_laws.proofs.Faultless.{unless-nil}
use Rattle.bl_ctext_semantics_laws.proofs.Ways.{by_name}

both_none : {A : Type 0} (o : Option A) (b : Bool) (v : A) → option_or o (if b then Some v else None) ≡ None → (o ≡ None) × (b ≡ false)
both_none (Some x) b v is = absurd (cc)
both_none None true v is = absurd (cc)
both_none None false v is = (refl, refl)

-- ---- members

abbrev names : List CMember → List Text
names ms = map (λ m. m.name) ms

new_name : (table : Table (Unit {0})) (ms : List CMember) (k : ℕ) (m : CMember) → all_distinct table (names ms) ≡ true → slice_get ms k ≡ Some m →
    table m.name ≡ None
new_name table [] k m distinct there = absurd (cc)
new_name table (x ∷ ms) zero m distinct there =
    subst (λ (y : CMember). table y.name ≡ None) (same_Some x m there)
    (none_from (table x.name) (and_first (is_none (table x.name)) (all_distinct (with_entry table x.name tt) (names ms)) distinct))
new_name table (x ∷ ms) (suc k) m distinct there =
    (both_none (table m.name) (bytes_eq x.name m.name) tt
    (new_name (with_entry table x.name tt) ms k m
    (and_second (is_none (table x.name)) (all_distinct (with_entry table x.name tt) (names ms)) distinct) there)).0

found_member : (table : Table (Unit {0})) (ms : List CMember) (k : ℕ) (m : CMember) → all_distinct table (names ms) ≡ true →
    slice_get ms k ≡ Some m →
    found m.name (by_name ms) ≡ Some m
found_member table [] k m distinct there = absurd (cc)
found_member table (x ∷ ms) zero m distinct there =
    let same = same_Some x m there in
    ap (λ (y : CMember). if bytes_eq y.name m.name then Some y else found m.name (by_name ms)) same
    ∙ ap (λ (b : Bool). if b then Some m else found m.name (by_name ms)) (nat_list_eq_equiv.refl m.name)
found_member table (x ∷ ms) (suc k) m distinct there =
    let rest = and_second (is_none (table x.name)) (all_distinct (with_entry table x.name tt) (names ms)) distinct in
    let other = (both_none (table m.name) (bytes_eq x.name m.name) tt (new_name (with_entry table x.name tt) ms k m rest there)).1 in
    ap (λ (b : Bool). if b then Some x else found m.name (by_name ms)) other ∙ found_member (with_entry table x.name tt) ms k m rest there

-- ---- structs

abbrev struct_entries : List CStruct → List (Text × Table CMember)
struct_entries structs = map (λ s. (s.name, member_table s)) structs

module _ (table : Table (Table CMember)) (depths : Table ℕ) (s : CStruct) (none : faults_in_struct table depths s ≡ []) where
  pub new_here : table s.name ≡ None
  new_here = none_from (table s.name) (unless-nil (is_none (table s.name)) distinct_names s.place
      (first_empty (unless (is_none (table s.name)) distinct_names s.place) _ none))

  pub distinct_here : all_distinct no_entries (names s.members) ≡ true
  distinct_here =
      let behind = second_empty (unless (is_none (table s.name)) distinct_names s.place) _ none in
      let members = second_empty (unless (list_all (λ m. is_declared table m.ty) s.members) declared_before s.place) _ behind in
      unless-nil (all_distinct no_entries (names s.members)) distinct_names s.place
      (first_empty (unless (all_distinct no_entries (map (λ m. m.name) s.members)) distinct_names s.place) _ members)

abbrev after_one : Table (Table CMember) → CStruct → Table (Table CMember)
after_one table s = with_entry table s.name (member_table s)

new_struct : (table : Table (Table CMember)) (depths : Table ℕ) (structs : List CStruct) (k : ℕ) (s : CStruct) →
    struct_faults_after table depths structs ≡ [] → slice_get structs k ≡ Some s → table s.name ≡ None
new_struct table depths [] k s none there = absurd (cc)
new_struct table depths (t ∷ structs) zero s none there =
    subst (λ (t : CStruct). table t.name ≡ None) (same_Some t s there) (new_here table depths t (first_empty (faults_in_struct table depths t) _ none))
new_struct table depths (t ∷ structs) (suc k) s none there =
    (both_none (table s.name) (bytes_eq t.name s.name) (member_table t)
    (new_struct (after_one table t) (with_entry depths t.name (depth_of_struct depths t)) structs k s
    (second_empty (faults_in_struct table depths t) _ none) there)).0

found_struct : (table : Table (Table CMember)) (depths : Table ℕ) (structs : List CStruct) (k : ℕ) (s : CStruct) →
    struct_faults_after table depths structs ≡ [] → slice_get structs k ≡ Some s → found s.name (struct_entries structs) ≡ Some (member_table s)
found_struct table depths [] k s none there = absurd (cc)
found_struct table depths (t ∷ structs) zero s none there =
    ap (λ (t : CStruct). if bytes_eq t.name s.name then Some (member_table t) else found s.name (struct_entries structs)) (same_Some t s there)
    ∙ ap (λ (b : Bool). if b then Some (member_table s) else found s.name (struct_entries structs)) (nat_list_eq_equiv.refl s.name)
found_struct table depths (t ∷ structs) (suc k) s none there =
    let rest = second_empty (faults_in_struct table depths t) _ none in
    let other = (both_none (table s.name) (bytes_eq t.name s.name) (member_table t)
    (new_struct (after_one table t) (with_entry depths t.name (depth_of_struct depths t)) structs k s rest there)).1 in
    ap (λ (b : Bool). if b then Some (member_table t) else found s.name (struct_entries structs)) other
    ∙ found_struct (after_one table t) (with_entry depths t.name (depth_of_struct depths t)) structs k s rest there

distinct_struct : (table : Table (Table CMember)) (depths : Table ℕ) (structs : List CStruct) (k : ℕ) (s : CStruct) →
    struct_faults_after table depths structs ≡ [] → slice_get structs k ≡ Some s → all_distinct no_entries (names s.members) ≡ true
distinct_struct table depths [] k s none there = absurd (cc)
distinct_struct table depths (t ∷ structs) zero s none there =
    subst (λ (t : CStruct). all_distinct no_entries (names t.members) ≡ true) (same_Some t s there)
    (distinct_here table depths t (first_empty (faults_in_struct table depths t) _ none))
distinct_struct table depths (t ∷ structs) (suc k) s none there =
    distinct_struct (after_one table t) (with_entry depths t.name (depth_of_struct depths t)) structs k s
    (second_empty (faults_in_struct table depths t) _ none) there

module _ (file : Parts) (formed : WellFormed file) where
  structs_fine : struct_faults_after no_entries no_entries file.structs ≡ []
  unfolding faults_in
  structs_fine = first_empty (struct_faults_after no_entries no_entries file.structs) _ formed.none

  -- a step to a member of a struct that is declared
  pub member_step : (s : CStruct) (m : CMember) → Contains file.structs s → Contains s.members m →
      step_in (struct_table file.structs) (whole (OfStruct s.name)) (member m.name) ≡ Some (spot_of m)
  member_step s m declared within =
      let at = index_of file.structs s declared in
      let of = index_of s.members m within in
      ap (λ (o : Option (Table CMember)). spot_if (option_and_then (λ members. members m.name) o))
      (found_struct no_entries no_entries file.structs at.0 s structs_fine at.1)
      ∙ ap spot_if (found_member no_entries s.members of.0 m (distinct_struct no_entries no_entries file.structs at.0 s structs_fine at.1) of.1)
