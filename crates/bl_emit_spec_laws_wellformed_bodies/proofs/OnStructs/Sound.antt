-- Structs in which no clause fails, one after another, where each is told how deep it may be nested.
use Rattle.std.proofs.Common.{◌≡◌, ℕ, suc, ◌+◌, ◌≤◌, Bool, true, false, not, List, []}
use Rattle.std.proofs.Common.{◌∷◌, ◌++◌, map, Option, Some, None}
use Rattle.std.proofs.Common.{refl, sym, ◌∙◌, subst, arith}
use Rattle.std.proofs.lemmas.Bool.Decides.{nat_tests}
use Rattle.std.proofs.lemmas.Slice.Eq.{bytes_eq-Decides}
use Rattle.std.specs.Prelude.{◌-◌, Contains, bytes_eq, is_none, is_some, nat_le, unwrap_or, if◌then◌else◌}
use Rattle.std.specs.List.{list_all}
use Rattle.std.specs.Option.{option_or}
use Rattle.std.proofs.lemmas.Bool.{and_from}
use Rattle.bl_tree.proofs.Basics.{and_first, and_second}
use Rattle.bl_tree.specs.declared.text.Text.{Text}
use Rattle.bl_tree.specs.declared.c.CMember.{CMember}
use Rattle.bl_tree.specs.declared.c.CStruct.{CStruct}
use Rattle.bl_tree.specs.declared.c.CType.{CType}
use Rattle.bl_tree.specs.declared.c.CType.TheVariants.{Scalar as OfScalar, Struct as OfStruct}
use Rattle.bl_tree.specs.Reduce.{greatest}
use Rattle.bl_tree.specs.Words.{are_distinct}
use Rattle.bl_ctext_semantics.specs.Faults.{all_distinct, declared_before, depth_of_struct, depth_of_type, distinct_names, faults_in_struct, interface_fits}
use Rattle.bl_ctext_semantics.specs.Faults.{interface_members, is_declared, member_table, short_chain, struct_faults_after}
use Rattle.bl_ctext_semantics.specs.Tables.{Table, entry_or, no_entries, with_entry}
use Rattle.bl_emit_structs_laws_wellformed.specs.Names.{are_known, is_known, member_names}
use Rattle.bl_emit_acts_laws_wellformed.proofs.OnFormed.Judged.{kept}
use Rattle.bl_emit_structs_laws_wellformed.proofs.OnFormed.Faultless.{Has, all_differ, are_new, has_more, has}
use Rattle.bl_emit_structs_laws_wellformed.proofs.OnFormed.Levels.{greatest_most}

-- Height name n: a struct of this name may be nested n deep
module _ (Height : Text → ℕ → Type 0) where
  -- no chain that is known is longer than its struct may be nested
  abbrev pub Deep : Table ℕ → Type 0
  Deep depths = (name : Text) (n : ℕ) → Height name n → entry_or 0 depths name ≤ n

  pub deep_nothing : Deep no_entries
  deep_nothing name n height = omega arith

  -- a type is a scalar, or a struct that is nested less deep
  abbrev pub Lower : ℕ → CType → Type 0
  Lower n (OfScalar s) = Unit {0}
  Lower n (OfStruct name) = (k : ℕ) × Height name k × (k + 1 ≤ n)

  -- what is asked of a struct: it may be nested 300 deep at most, and its members are of types that are nested less deep than it may be
  pub record Fine (s : CStruct) : Type 0 where
    pub plain : interface_fits s ≡ true
    pub most : ℕ
    pub stands : Height s.name most
    pub few : most ≤ 300
    pub some : (n : ℕ) → Height s.name n → 1 ≤ n
    pub parts : (n : ℕ) → Height s.name n → (m : CMember) → Contains s.members m → Lower n m.ty

  abbrev longest : Table ℕ → CStruct → ℕ
  longest depths s = greatest (map (λ (m : CMember). depth_of_type depths m.ty) s.members)

  type_low : (depths : Table ℕ) → Deep depths → (n : ℕ) → 1 ≤ n → (ty : CType) → Lower n ty → depth_of_type depths ty ≤ n - 1
  type_low depths deep n some (OfScalar s) low = omega arith
  type_low depths deep n some (OfStruct name) low =
      let own : entry_or 0 depths name ≤ low.0 = deep name low.0 low.1 in
      let less : low.0 + 1 ≤ n = low.2 in
      omega (arith, own, less)

  struct_low : (depths : Table ℕ) (s : CStruct) → Deep depths → Fine s → (n : ℕ) → Height s.name n → depth_of_struct depths s ≤ n
  struct_low depths s deep fine n height =
      let one : 1 ≤ n = fine.some n height in
      let le : longest depths s ≤ n - 1 =
      greatest_most (λ (m : CMember). depth_of_type depths m.ty) (n - 1) s.members
      (λ m there. type_low depths deep n one m.ty (fine.parts n height m there)) in
      omega (arith, le, one)

  deep_more : (depths : Table ℕ) (s : CStruct) → Deep depths → Fine s → Deep (with_entry depths s.name (depth_of_struct depths s))
  deep_more depths s deep fine name n height = by (depths name) (bytes_eq s.name name) refl refl (deep name n height)
    where
      by : (o : Option ℕ) (b : Bool) → depths name ≡ o → bytes_eq s.name name ≡ b → unwrap_or o 0 ≤ n →
          unwrap_or (option_or o (if b then Some (depth_of_struct depths s) else None)) 0 ≤ n
      by (Some m) b is same le = le
      by None true is same le =
          struct_low depths s deep fine n (subst (λ name. Height name n) (sym ((bytes_eq-Decides s.name name).0 same)) height)
      by None false is same le = omega arith

  -- ---- one struct

  known_declared : (names : List Text) (table : Table (Table CMember)) → Has table names → (members : List CMember) →
      list_all (λ (m : CMember). is_known names m.ty) members ≡ true → list_all (λ (m : CMember). is_declared table m.ty) members ≡ true
  known_declared names table are [] h = refl
  known_declared names table are (m ∷ members) h =
      and_from (is_declared table m.ty) (list_all (λ (m : CMember). is_declared table m.ty) members)
      (by m.ty (and_first (is_known names m.ty) (list_all (λ (m : CMember). is_known names m.ty) members) h))
      (known_declared names table are members (and_second (is_known names m.ty) (list_all (λ (m : CMember). is_known names m.ty) members) h))
    where
      by : (ty : CType) → is_known names ty ≡ true → is_declared table ty ≡ true
      by (OfScalar s) h = refl
      by (OfStruct name) h = are name ∙ h

  none_of : {A : Type 0} (o : Option A) (b : Bool) → is_some o ≡ b → not b ≡ true → is_none o ≡ true
  none_of None b is h = refl
  none_of (Some x) true is h = absurd (let no : false ≡ true = h in cc)
  none_of (Some x) false is h = absurd (cc)

  at_most : (n : ℕ) → n ≤ 300 → nat_le n 300 ≡ true
  at_most n le = grind (arith, nat_tests)

  struct_sound : (s : CStruct) (names : List Text) (table : Table (Table CMember)) (depths : Table ℕ) → Has table names → Deep depths →
      not (has s.name names) ≡ true → list_all (λ (m : CMember). is_known names m.ty) s.members ≡ true → are_distinct (member_names s)
      ≡ true → Fine s →
      faults_in_struct table depths s ≡ []
  struct_sound s names table depths are deep new known differ fine =
      let low : depth_of_struct depths s ≤ fine.most = struct_low depths s deep fine fine.most fine.stands in
      let few : fine.most ≤ 300 = fine.few in
      let short : depth_of_struct depths s ≤ 300 = omega (arith, low, few) in
      let one = kept (is_none (table s.name)) distinct_names s.place (none_of (table s.name) (has s.name names) (are s.name) new) in
      let two = kept (list_all (λ (m : CMember). is_declared table m.ty) s.members) declared_before s.place (known_declared names table are s.members known) in
      let three = kept (all_distinct no_entries (map (λ (m : CMember). m.name) s.members)) distinct_names s.place (all_differ (member_names s) differ) in
      let four = kept (nat_le (depth_of_struct depths s) 300) short_chain s.place (at_most (depth_of_struct depths s) short) in
      let five = kept (interface_fits s) interface_members s.place fine.plain in
      (λ i. one i ++ (two i ++ (three i ++ (four i ++ five i))))

  -- ---- all of them

  pub structs_sound : (rest : List CStruct) (names : List Text) (table : Table (Table CMember)) (depths : Table ℕ) → Has table names → Deep depths →
      are_new names rest ≡ true → are_known names rest ≡ true → list_all (λ (s : CStruct). are_distinct (member_names s)) rest ≡ true →
      ((s : CStruct) → Contains rest s → Fine s) → struct_faults_after table depths rest ≡ []
  structs_sound [] names table depths are deep new known differ fine = refl
  structs_sound (s ∷ rest) names table depths are deep new known differ fine =
      let own : Fine s = fine s (0, omega arith, refl) in
      let first = struct_sound s names table depths are deep (and_first (not (has s.name names)) (are_new (names ++ s.name ∷ []) rest) new)
      (and_first (list_all (λ (m : CMember). is_known names m.ty) s.members) (are_known (names ++ s.name ∷ []) rest) known)
      (and_first (are_distinct (member_names s)) (list_all (λ (s : CStruct). are_distinct (member_names s)) rest) differ) own in
      let later = structs_sound rest (names ++ s.name ∷ []) (with_entry table s.name (member_table s)) (with_entry depths s.name (depth_of_struct depths s))
      (has_more table names s.name (member_table s) are) (deep_more depths s deep own)
      (and_second (not (has s.name names)) (are_new (names ++ s.name ∷ []) rest) new)
      (and_second (list_all (λ (m : CMember). is_known names m.ty) s.members) (are_known (names ++ s.name ∷ []) rest) known)
      (and_second (are_distinct (member_names s)) (list_all (λ (s : CStruct). are_distinct (member_names s)) rest) differ)
      (λ x there. fine x (suc there.0, (let lt = there.1 in omega arith), there.2)) in
      (λ i. first i ++ later i)
