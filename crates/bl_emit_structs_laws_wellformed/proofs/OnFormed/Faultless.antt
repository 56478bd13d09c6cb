-- Structs in which no clause fails, one after another.
use Rattle.std.proofs.Common.{◌≡◌, ℕ, suc, ◌+◌, ◌≤◌, Bool, true, false, not, ◌&&◌, ◌||◌, List, []}
use Rattle.std.proofs.Common.{◌∷◌, ◌++◌, map, length, Option, Some, None}
use Rattle.std.proofs.Common.{refl, sym, ap, ◌∙◌, subst, arith}
use Rattle.std.proofs.lemmas.Bool.Decides.{nat_tests}
use Rattle.std.proofs.lemmas.List.Folds.{list_any-append}
use Rattle.std.proofs.lemmas.Slice.Eq.{bytes_eq-Decides}
use Rattle.std.specs.Prelude.{◌-◌, Contains, bytes_eq, is_none, is_some, nat_le, unwrap_or, if◌then◌else◌}
use Rattle.std.specs.List.{list_all, list_any}
use Rattle.std.specs.Option.{option_or}
use Rattle.std.proofs.lemmas.Bool.{and_from}
use Rattle.bl_tree.proofs.Basics.{and_first, and_second}
use Rattle.bl_tree.specs.declared.text.Text.{Text}
use Rattle.bl_tree.specs.declared.c.CMember.{CMember}
use Rattle.bl_tree.specs.declared.c.CStruct.{CStruct}
use Rattle.bl_tree.specs.declared.c.CType.{CType}
use Rattle.bl_tree.specs.declared.c.CType.TheVariants.{Scalar as OfScalar, Struct as OfStruct}
use Rattle.bl_tree.specs.declared.tree.StructDef.{StructDef}
use Rattle.bl_tree.specs.declared.tree.Ty.{Ty, out-Ty}
use Rattle.bl_tree.specs.declared.tree.Ty.TheOpen.{Ty-F}
use Rattle.bl_tree.specs.Reduce.{greatest}
use Rattle.bl_tree.specs.Types.{type_stands}
use Rattle.bl_tree.specs.Words.{are_distinct, is_among}
use Rattle.bl_limits_measures.specs.Types.{nesting}
use Rattle.bl_ctext_semantics.specs.Faults.{all_distinct, declared_before, depth_of_struct, depth_of_type, distinct_names, faults_in_struct}
use Rattle.bl_ctext_semantics.specs.Faults.{interface_fits, interface_members, is_declared, member_table, short_chain, struct_faults_after}
use Rattle.bl_ctext_semantics.specs.Tables.{Table, entry_or, no_entries, with_entry}
use Rattle.bl_emit_acts.specs.Types.{c_type, type_level, type_name}
use Rattle.bl_emit_structs_laws_wellformed.specs.Names.{are_known, is_known, member_names}
use Rattle.bl_emit_acts_laws_wellformed.proofs.OnFormed.Judged.{kept}
use Rattle.bl_emit_structs_laws_wellformed.proofs.OnFormed.Levels.{greatest_most}

abbrev pub has : Text → List Text → Bool
has name names = list_any (bytes_eq name) names

-- ---- tables and the names that they have

-- a table has an entry under just these names
abbrev pub Has : {A : Type 0} → Table A → List Text → Type 0
Has table names = (name : Text) → is_some (table name) ≡ has name names

pub has_nothing : (A : Type 0) → Has (no_entries {A = A}) []
has_nothing A name = refl

swapped : (a b : Text) → bytes_eq a b ≡ bytes_eq b a
swapped a b = by (bytes_eq a b) (bytes_eq b a) refl refl
  where
    by : (x y : Bool) → bytes_eq a b ≡ x → bytes_eq b a ≡ y → x ≡ y
    by true true is other = refl
    by false false is other = refl
    by true false is other = let same = (bytes_eq-Decides a b).0 is in sym ((bytes_eq-Decides b a).1 (sym same)) ∙ other
    by false true is other = let same = (bytes_eq-Decides b a).0 other in sym is ∙ (bytes_eq-Decides a b).1 (sym same)

-- with one more
pub has_more : {A : Type 0} (table : Table A) (names : List Text) (name : Text) (value : A) → Has table names →
    Has (with_entry table name value) (names ++ name ∷ [])
has_more {A = A} table names name value are asked =
    by (table asked) (bytes_eq name asked) refl refl ∙ ap (λ b. b || (bytes_eq name asked || false)) (are asked)
    ∙ ap (λ b. has asked names || (b || false)) (swapped name asked) ∙ sym (list_any-append (bytes_eq asked) names (name ∷ []))
  where
    by : (o : Option A) (b : Bool) → table asked ≡ o → bytes_eq name asked ≡ b →
        is_some (option_or o (if b then Some value else None)) ≡ (is_some o || (b || false))
    by (Some x) b is same = refl
    by None true is same = refl
    by None false is same = refl

-- ---- names that differ

-- none of the names is in the table, and they differ
distinct_in : (seen : List Text) (table : Table (Unit {0})) (names : List Text) → Has table seen → are_distinct names ≡ true →
    ((name : Text) → has name names ≡ true → has name seen ≡ false) → all_distinct table names ≡ true
distinct_in seen table [] are differ new = refl
distinct_in seen table (name ∷ rest) are differ new =
    and_from (is_none (table name)) (all_distinct (with_entry table name tt) rest) (absent (table name) (are name ∙ new name own))
    (distinct_in (seen ++ name ∷ []) (with_entry table name tt) rest (has_more table seen name tt are)
    (and_second (not (is_among name rest)) (are_distinct rest) differ) later)
  where
    absent : (o : Option (Unit {0})) → is_some o ≡ false → is_none o ≡ true
    absent None h = refl
    absent (Some x) h = absurd (cc)

    first_of : (a b : Bool) → a ≡ true → (a || b) ≡ true
    first_of true b h = refl
    first_of false b h = absurd (cc)

    second_of : (a b : Bool) → b ≡ true → (a || b) ≡ true
    second_of true b h = refl
    second_of false b h = h

    own : has name (name ∷ rest) ≡ true
    own = first_of (bytes_eq name name) (has name rest) ((bytes_eq-Decides name name).1 refl)

    neither : (a b : Bool) → a ≡ false → b ≡ false → (a || (b || false)) ≡ false
    neither false false h k = refl
    neither true b h k = absurd (cc)
    neither false true h k = absurd (cc)

    other : (x : Text) (b : Bool) → has x rest ≡ true → bytes_eq x name ≡ b → b ≡ false
    other x false there is = refl
    other x true there is =
        let same : x ≡ name = (bytes_eq-Decides x name).0 is in
        let among : is_among name rest ≡ true = subst (λ n. has n rest ≡ true) same there in
        let none : not (is_among name rest) ≡ true = and_first (not (is_among name rest)) (are_distinct rest) differ in
        absurd (let no : not true ≡ true = ap not (sym among) ∙ none in cc)

    later : (x : Text) → has x rest ≡ true → has x (seen ++ name ∷ []) ≡ false
    later x there =
        list_any-append (bytes_eq x) seen (name ∷ [])
        ∙ neither (has x seen) (bytes_eq x name) (new x (second_of (bytes_eq x name) (has x rest) there)) (other x (bytes_eq x name) there refl)

pub all_differ : (names : List Text) → are_distinct names ≡ true → all_distinct no_entries names ≡ true
all_differ names differ = distinct_in [] no_entries names (has_nothing (Unit {0})) differ (λ name there. refl)

-- none of the structs has a name that is there already
abbrev pub are_new : List Text → List CStruct → Bool
are_new names [] = true
are_new names (s ∷ rest) = not (has s.name names) && are_new (names ++ s.name ∷ []) rest

-- ---- depths

module _ (structs : List StructDef) where
  -- no chain that is known is longer than a type of its name is nested
  abbrev pub Deep : Table ℕ → Type 0
  Deep depths = (ty : Ty) → type_stands (length structs) ty ≡ true → entry_or 0 depths (type_name structs ty) ≤ nesting structs ty

  pub deep_nothing : Deep no_entries
  deep_nothing ty stands = omega arith

  level_deep : (depths : Table ℕ) (name : Text) (n : ℕ) (layer : Ty-F Ty) → entry_or 0 depths name ≤ n →
      depth_of_type depths (type_level name layer) ≤ n
  level_deep depths name n (Ty-F.Scalar s) le = omega arith
  level_deep depths name n (Ty-F.Struct k) le = le
  level_deep depths name n (Ty-F.Array m element) le = le

  type_deep : (depths : Table ℕ) → Deep depths → (ty : Ty) → type_stands (length structs) ty ≡ true → depth_of_type depths
      (c_type structs ty) ≤ nesting structs ty
  type_deep depths deep ty stands = level_deep depths (type_name structs ty) (nesting structs ty) (out-Ty ty) (deep ty stands)

  -- What is asked of a struct: its members are of types that are not nested too deep, and less deep than a type of the struct's name
  pub record Fine (s : CStruct) : Type 0 where
    pub plain : interface_fits s ≡ true
    pub parts : (m : CMember) → Contains s.members m → (part : Ty) × (m.ty ≡ c_type structs part) × (type_stands (length structs) part ≡ true)
        × (nesting structs part ≤ 299) × ((ty : Ty) → type_stands (length structs) ty ≡ true → type_name structs ty ≡ s.name →
        nesting structs part + 1 ≤ nesting structs ty)
    pub some : (ty : Ty) → type_stands (length structs) ty ≡ true → type_name structs ty ≡ s.name → 1 ≤ nesting structs ty

  abbrev longest : Table ℕ → CStruct → ℕ
  longest depths s = greatest (map (λ (m : CMember). depth_of_type depths m.ty) s.members)

  few_deep : (depths : Table ℕ) (s : CStruct) → Deep depths → Fine s → longest depths s ≤ 299
  few_deep depths s deep fine =
      greatest_most (λ (m : CMember). depth_of_type depths m.ty) 299 s.members
      (λ m there. let p = fine.parts m there in
      let own : depth_of_type depths m.ty ≤ nesting structs p.0 =
      subst (λ ty. depth_of_type depths ty ≤ nesting structs p.0) (sym p.1) (type_deep depths deep p.0 p.2) in
      let low : nesting structs p.0 ≤ 299 = p.3 in
      omega (arith, own, low))

  named_deep : (depths : Table ℕ) (s : CStruct) → Deep depths → Fine s → (ty : Ty) → type_stands (length structs) ty ≡ true →
      type_name structs ty ≡ s.name → depth_of_struct depths s ≤ nesting structs ty
  named_deep depths s deep fine ty stands named =
      let most : longest depths s + 1 ≤ nesting structs ty = up in omega (arith, most)
    where
      one : 1 ≤ nesting structs ty
      one = fine.some ty stands named

      le : longest depths s ≤ nesting structs ty - 1
      le = greatest_most (λ (m : CMember). depth_of_type depths m.ty) (nesting structs ty - 1) s.members
          (λ m there. let p = fine.parts m there in
          let own : depth_of_type depths m.ty ≤ nesting structs p.0 =
          subst (λ ty. depth_of_type depths ty ≤ nesting structs p.0) (sym p.1) (type_deep depths deep p.0 p.2) in
          let less : nesting structs p.0 + 1 ≤ nesting structs ty = p.4 ty stands named in
          omega (arith, own, less))

      up : longest depths s + 1 ≤ nesting structs ty
      up = omega (arith, le, one)

  deep_more : (depths : Table ℕ) (s : CStruct) → Deep depths → Fine s → Deep (with_entry depths s.name (depth_of_struct depths s))
  deep_more depths s deep fine ty stands = by (depths (type_name structs ty)) (bytes_eq s.name (type_name structs ty)) refl refl (deep ty stands)
    where
      by : (o : Option ℕ) (b : Bool) → depths (type_name structs ty) ≡ o → bytes_eq s.name (type_name structs ty) ≡ b →
          unwrap_or o 0 ≤ nesting structs ty →
          unwrap_or (option_or o (if b then Some (depth_of_struct depths s) else None)) 0 ≤ nesting structs ty
      by (Some n) b is same le = le
      by None true is same le = named_deep depths s deep fine ty stands (sym ((bytes_eq-Decides s.name (type_name structs ty)).0 same))
      by None false is same le = omega arith

  -- ---- one struct

  known_declared : (names : List Text) (table : Table (Table CMember)) → Has table names → (members : List CMember) →
      list_all (λ (m : CMember). is_known names m.ty) members ≡ true → list_all (λ (m : CMember). is_declared table m.ty) members ≡ true
  known_declared names table are [] h = refl
  known_declared names table are (m ∷ members) h =
      and_from (is_declared table m.ty) (list_all (λ (m : CMember). is_declared table m.ty) members)
      (by m.ty (and_first (is_known names m.ty) (list_all (λ (m : CMember). is_known names m.ty) members) h))
      (known_declared names table are members (and_second (is_known names m.ty) (list_all (λ (m : CMember). is_known names m.ty) members) h))
    where
      by : (ty : CType) → is_known names ty ≡ true → is_declared table ty ≡ true
      by (OfScalar s) h = refl
      by (OfStruct name) h = are name ∙ h

  none_of : {A : Type 0} (o : Option A) (b : Bool) → is_some o ≡ b → not b ≡ true → is_none o ≡ true
  none_of None b is h = refl
  none_of (Some x) true is h = absurd (let no : false ≡ true = h in cc)
  none_of (Some x) false is h = absurd (cc)

  at_most : (n : ℕ) → n ≤ 300 → nat_le n 300 ≡ true
  at_most n le = grind (arith, nat_tests)

  struct_sound : (s : CStruct) (names : List Text) (table : Table (Table CMember)) (depths : Table ℕ) → Has table names → Deep depths →
      not (has s.name names) ≡ true → list_all (λ (m : CMember). is_known names m.ty) s.members ≡ true → are_distinct (member_names s)
      ≡ true → Fine s →
      faults_in_struct table depths s ≡ []
  struct_sound s names table depths are deep new known differ fine =
      let few : longest depths s ≤ 299 = few_deep depths s deep fine in
      let short : depth_of_struct depths s ≤ 300 = omega (arith, few) in
      let one = kept (is_none (table s.name)) distinct_names s.place (none_of (table s.name) (has s.name names) (are s.name) new) in
      let two = kept (list_all (λ (m : CMember). is_declared table m.ty) s.members) declared_before s.place (known_declared names table are s.members known) in
      let three = kept (all_distinct no_entries (map (λ (m : CMember). m.name) s.members)) distinct_names s.place (all_differ (member_names s) differ) in
      let four = kept (nat_le (depth_of_struct depths s) 300) short_chain s.place (at_most (depth_of_struct depths s) short) in
      let five = kept (interface_fits s) interface_members s.place fine.plain in
      (λ i. one i ++ (two i ++ (three i ++ (four i ++ five i))))

  -- ---- all of them

  pub structs_sound : (rest : List CStruct) (names : List Text) (table : Table (Table CMember)) (depths : Table ℕ) → Has table names → Deep depths →
      are_new names rest ≡ true → are_known names rest ≡ true → list_all (λ (s : CStruct). are_distinct (member_names s)) rest ≡ true →
      ((s : CStruct) → Contains rest s → Fine s) → struct_faults_after table depths rest ≡ []
  structs_sound [] names table depths are deep new known differ fine = refl
  structs_sound (s ∷ rest) names table depths are deep new known differ fine =
      let own : Fine s = fine s (0, omega arith, refl) in
      let first = struct_sound s names table depths are deep (and_first (not (has s.name names)) (are_new (names ++ s.name ∷ []) rest) new)
      (and_first (list_all (λ (m : CMember). is_known names m.ty) s.members) (are_known (names ++ s.name ∷ []) rest) known)
      (and_first (are_distinct (member_names s)) (list_all (λ (s : CStruct). are_distinct (member_names s)) rest) differ) own in
      let later = structs_sound rest (names ++ s.name ∷ []) (with_entry table s.name (member_table s)) (with_entry depths s.name (depth_of_struct depths s))
      (has_more table names s.name (member_table s) are) (deep_more depths s deep own)
      (and_second (not (has s.name names)) (are_new (names ++ s.name ∷ []) rest) new)
      (and_second (list_all (λ (m : CMember). is_known names m.ty) s.members) (are_known (names ++ s.name ∷ []) rest) known)
      (and_second (are_distinct (member_names s)) (list_all (λ (s : CStruct). are_distinct (member_names s)) rest) differ)
      (λ x there. fine x (suc there.0, (let lt = there.1 in omega arith), there.2)) in
      (λ i. first i ++ later i)
