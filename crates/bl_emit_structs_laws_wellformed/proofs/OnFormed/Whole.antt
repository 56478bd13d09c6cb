-- The structs of a whole program, and those of variables behind them.
use Rattle.std.proofs.Common.{◌≡◌, ℕ, zero, suc, ◌+◌, ◌<◌, ◌≤◌, Bool, true, false, not, ◌||◌, List}
use Rattle.std.proofs.Common.{[], ◌∷◌, ◌++◌, map, length, Option, Some}
use Rattle.std.proofs.Common.{refl, sym, ap, ◌∙◌, subst, arith, codes, ⊎_elim}
use Rattle.std.proofs.lemmas.List.{append-nil, append_assoc}
use Rattle.std.proofs.lemmas.List.Elements.{Contains-append_cases}
use Rattle.std.proofs.lemmas.List.Folds.{list_all-append, list_any-append}
use Rattle.std.proofs.lemmas.Slice.Eq.{bytes_eq-Decides}
use Rattle.std.specs.Prelude.{Contains, bytes_eq, get_or, nat_eq, if◌then◌else◌}
use Rattle.std.specs.List.{list_all}
use Rattle.std.proofs.lemmas.Bool.{and_from}
use Rattle.bl_tree.proofs.Basics.{and_first, and_second}
use Rattle.bl_tree.specs.declared.text.Text.{Text}
use Rattle.bl_tree.specs.declared.c.CMember.{CMember}
use Rattle.bl_tree.specs.declared.c.CStruct.{CStruct}
use Rattle.bl_tree.specs.declared.c.CType.{CType}
use Rattle.bl_tree.specs.declared.c.CType.TheVariants.{Scalar as OfScalar, Struct as OfStruct}
use Rattle.bl_tree.specs.declared.scalar.Scalar.{Scalar as ScalarType}
use Rattle.bl_tree.specs.declared.scalar.Scalar.TheVariants.{Bool as OfBool, Int, Nat, Bits}
use Rattle.bl_tree.specs.declared.scalar.Width.TheVariants.{W8, W16, W32, W64}
use Rattle.bl_tree.specs.declared.tree.StructDef.{StructDef}
use Rattle.bl_tree.specs.declared.tree.Ty.{Ty, out-Ty}
use Rattle.bl_tree.specs.declared.tree.Ty.TheOpen.{Ty-F}
use Rattle.bl_tree.specs.declared.tree.Unit.{Unit as UnitDef}
use Rattle.bl_tree.specs.declared.tree.Var.{Var}
use Rattle.bl_tree.specs.Program.{IsWellTyped}
use Rattle.bl_tree.specs.Types.{type_stands}
use Rattle.bl_tree.specs.Words.{are_distinct, is_among}
use Rattle.bl_eval.proofs.PassLemmas.{all_at}
use Rattle.bl_limits_measures.specs.Types.{nesting, struct_nestings}
use Rattle.bl_ctext_semantics.specs.Faults.{interface_fits, member_table, struct_faults_after, struct_table}
use Rattle.bl_ctext_semantics.specs.Tables.{Table, found, no_entries}
use Rattle.bl_emit_acts.specs.Types.{array_name, c_type, definition_name, struct_name, type_name, type_word}
use Rattle.bl_emit_structs.specs.Structs.{each_once, structs_for}
use Rattle.bl_emit_structs_laws_wellformed.specs.Names.{MembersDiffer, TypesApart, TypesDeclared, UsesEarlier, are_known, is_known, member_names, names_of}
use Rattle.bl_emit_acts_laws_wellformed.specs.Formed.Declared.{AreDeclared}
use Rattle.bl_emit_acts_laws_wellformed.proofs.OnFormed.Parts.{name_at}
use Rattle.bl_emit_acts_laws_wellformed.proofs.OnFormed.Units.{vars_stand}
use Rattle.bl_emit_structs_laws_wellformed.specs.Formed.{AreMemories, IsMemory, NestsAtMost, OfVariable, StructsThere, StructsWellFormed}
use Rattle.bl_emit_structs_laws_wellformed.proofs.OnFormed.Faultless.{Fine, are_new, deep_nothing, has_nothing, structs_sound, has}
use Rattle.bl_emit_structs_laws_wellformed.proofs.OnFormed.Levels.{nesting_at}
use Rattle.bl_emit_structs_laws_wellformed.proofs.OnFormed.Types.{StructOf, all_are, struct_level}

-- ---- the byte with which a name begins

-- whether it is that of a struct or an array
begins_type : Text → Bool
begins_type [] = false
begins_type (c ∷ rest) = nat_eq c 115 || nat_eq c 114

-- whether it is that of a struct of variables
begins_memory : Text → Bool
begins_memory [] = false
begins_memory (c ∷ rest) = nat_eq c 109

struct_begins : (name : Text) → begins_type (struct_name name) ≡ true
unfolding begins_type
struct_begins name = refl

array_begins : (n : ℕ) (element : Text) → begins_type (array_name n element) ≡ true
unfolding begins_type
array_begins n element = refl

memory_begins : (rest : Text) → begins_type (codes "m_" ++ rest) ≡ false
unfolding begins_type
memory_begins rest = refl

memory_own : (rest : Text) → begins_memory (codes "m_" ++ rest) ≡ true
unfolding begins_memory
memory_own rest = refl

struct_other : (name : Text) → begins_memory (struct_name name) ≡ false
unfolding begins_memory
struct_other name = refl

array_other : (n : ℕ) (element : Text) → begins_memory (array_name n element) ≡ false
unfolding begins_memory
array_other n element = refl

word_other : (s : ScalarType) → begins_memory (type_word s) ≡ false
unfolding begins_memory
word_other OfBool = refl
word_other (Int W8) = refl
word_other (Int W16) = refl
word_other (Int W32) = refl
word_other (Int W64) = refl
word_other (Nat W8) = refl
word_other (Nat W16) = refl
word_other (Nat W32) = refl
word_other (Nat W64) = refl
word_other (Bits W8) = refl
word_other (Bits W16) = refl
word_other (Bits W32) = refl
word_other (Bits W64) = refl

-- ---- no struct of the interface

plain_by : (s : CStruct) (name : Text) → s.name ≡ name → bytes_eq name (codes "bl_in") ≡ false → bytes_eq name (codes "bl_out") ≡ false →
    interface_fits s ≡ true
plain_by s name is first second =
    by _ _ (bytes_eq s.name (codes "bl_in")) (bytes_eq s.name (codes "bl_out")) (ap (λ n. bytes_eq n (codes "bl_in")) is ∙ first)
    (ap (λ n. bytes_eq n (codes "bl_out")) is ∙ second)
  where
    by : (x y a b : Bool) → a ≡ false → b ≡ false → (if a then x else if b then y else true) ≡ true
    by x y false false h k = refl
    by x y true b h k = absurd (cc)
    by x y false true h k = absurd (cc)

-- ---- names that are new

new_append : (names : List Text) (first second : List CStruct) → are_new names first ≡ true → are_new (names ++ names_of first) second ≡ true →
    are_new names (first ++ second) ≡ true
new_append names [] second h k = subst (λ l. are_new l second ≡ true) (append-nil names) k
new_append names (s ∷ first) second h k =
    and_from (not (has s.name names)) (are_new (names ++ s.name ∷ []) (first ++ second))
    (and_first (not (has s.name names)) (are_new (names ++ s.name ∷ []) first) h)
    (new_append (names ++ s.name ∷ []) first second (and_second (not (has s.name names)) (are_new (names ++ s.name ∷ []) first) h)
    (subst (λ l. are_new l second ≡ true) (sym (append_assoc names (s.name ∷ []) (names_of first))) k))

once_new : (taken : List Text) (xs : List CStruct) → are_new taken (each_once taken xs) ≡ true
once_new taken [] = refl
once_new taken (s ∷ rest) = by (has s.name taken) refl (once_new taken rest) (once_new (taken ++ s.name ∷ []) rest)
  where
    by : (b : Bool) → has s.name taken ≡ b → are_new taken (each_once taken rest) ≡ true
        → are_new (taken ++ s.name ∷ []) (each_once (taken ++ s.name ∷ []) rest) ≡ true
        → are_new taken (if b then each_once taken rest else s ∷ each_once (taken ++ s.name ∷ []) rest) ≡ true
    by true is old new = old
    by false is old new = and_from (not (has s.name taken)) (are_new (taken ++ s.name ∷ []) (each_once (taken ++ s.name ∷ []) rest)) (ap not is) new

first_of : (a b : Bool) → a ≡ true → (a || b) ≡ true
first_of true b h = refl
first_of false b h = absurd (cc)

second_of : (a b : Bool) → b ≡ true → (a || b) ≡ true
second_of true b h = refl
second_of false b h = h

-- structs whose names differ, and stand among no others
pub others_new : (seen : List Text) (xs : List CStruct) → are_distinct (names_of xs) ≡ true →
    ((name : Text) → has name (names_of xs) ≡ true → has name seen ≡ false) →
    are_new seen xs ≡ true
others_new seen [] differ new = refl
others_new seen (s ∷ rest) differ new =
    and_from (not (has s.name seen)) (are_new (seen ++ s.name ∷ []) rest)
    (ap not (new s.name (first_of (bytes_eq s.name s.name) (has s.name (names_of rest)) ((bytes_eq-Decides s.name s.name).1 refl))))
    (others_new (seen ++ s.name ∷ []) rest (and_second (not (is_among s.name (names_of rest))) (are_distinct (names_of rest)) differ) later)
  where
    neither : (a b : Bool) → a ≡ false → b ≡ false → (a || (b || false)) ≡ false
    neither false false h k = refl
    neither true b h k = absurd (cc)
    neither false true h k = absurd (cc)

    other : (x : Text) (b : Bool) → has x (names_of rest) ≡ true → bytes_eq x s.name ≡ b → b ≡ false
    other x false there is = refl
    other x true there is =
        let same : x ≡ s.name = (bytes_eq-Decides x s.name).0 is in
        let among : is_among s.name (names_of rest) ≡ true = subst (λ n. has n (names_of rest) ≡ true) same there in
        let none : not (is_among s.name (names_of rest)) ≡ true =
        and_first (not (is_among s.name (names_of rest))) (are_distinct (names_of rest)) differ in
        absurd (let no : not true ≡ true = ap not (sym among) ∙ none in cc)

    later : (x : Text) → has x (names_of rest) ≡ true → has x (seen ++ s.name ∷ []) ≡ false
    later x there =
        list_any-append (bytes_eq x) seen (s.name ∷ [])
        ∙ neither (has x seen) (bytes_eq x s.name) (new x (second_of (bytes_eq x s.name) (has x (names_of rest)) there))
        (other x (bytes_eq x s.name) there refl)

-- ---- what is kept of each name

pub once_has : (taken : List Text) (xs : List CStruct) (s : CStruct) → Contains (each_once taken xs) s → Contains xs s
once_has taken [] s there = there
once_has taken (x ∷ xs) s there = by (has x.name taken) (once_has taken xs s) (once_has (taken ++ x.name ∷ []) xs s) there
  where
    one_further : Contains xs s → Contains (x ∷ xs) s
    one_further at = (suc at.0, (let lt = at.1 in omega arith), at.2)

    at_head : (k : ℕ) → k < length (x ∷ each_once (taken ++ x.name ∷ []) xs) → get_or (x ∷ each_once (taken ++ x.name ∷ []) xs) k s ≡ s →
        (Contains (each_once (taken ++ x.name ∷ []) xs) s → Contains xs s) → Contains (x ∷ xs) s
    at_head zero lt is new = (0, omega arith, is)
    at_head (suc k) lt is new = one_further (new (k, omega (arith, lt), is))

    by : (b : Bool) → (Contains (each_once taken xs) s → Contains xs s) → (Contains (each_once (taken ++ x.name ∷ []) xs) s → Contains xs s) →
        Contains (if b then each_once taken xs else x ∷ each_once (taken ++ x.name ∷ []) xs) s → Contains (x ∷ xs) s
    by true old new at = one_further (old at)
    by false old new at = at_head at.0 at.1 at.2 new

-- the entries of structs by their names
abbrev entries : List CStruct → List (Text × (Text → Option CMember))
entries xs = map (λ (s : CStruct). (s.name, member_table s)) xs

-- each struct is found by its name among those that are kept, where those of one name are one
once_found : (taken : List Text) (xs more : List CStruct) (s : CStruct) → Contains xs s → has s.name taken ≡ false →
    ((x : CStruct) → Contains xs x → x.name ≡ s.name → x ≡ s) → found s.name (entries (each_once taken xs ++ more)) ≡ Some (member_table s)
once_found taken [] more s there new alike = absurd (let lt = there.1 in omega arith)
once_found taken (x ∷ xs) more s there new alike =
    by (has x.name taken) refl (bytes_eq x.name s.name) refl
    (λ here. once_found taken xs more s here new (λ y at. alike y (suc at.0, (let lt = at.1 in omega arith), at.2)))
    (λ here fresh. once_found (taken ++ x.name ∷ []) xs more s here fresh (λ y at. alike y (suc at.0, (let lt = at.1 in omega arith), at.2)))
  where
    behind : (k : ℕ) → k < length (x ∷ xs) → get_or (x ∷ xs) k s ≡ s → bytes_eq x.name s.name ≡ false → Contains xs s
    behind zero lt is other =
        absurd (let same : bytes_eq x.name s.name ≡ true = (bytes_eq-Decides x.name s.name).1 (ap (λ (s : CStruct). s.name) is) in
        let no : false ≡ true = sym other ∙ same in cc)
    behind (suc k) lt is other = (k, omega (arith, lt), is)

    untaken : (b : Bool) → bytes_eq x.name s.name ≡ b → has x.name taken ≡ true → b ≡ false
    untaken false is old = refl
    untaken true is old =
        let same : x.name ≡ s.name = (bytes_eq-Decides x.name s.name).0 is in
        absurd (let no : true ≡ false = sym old ∙ ap (λ n. has n taken) same ∙ new in cc)

    swapped : bytes_eq x.name s.name ≡ false → (b : Bool) → bytes_eq s.name x.name ≡ b → b ≡ false
    swapped other false is = refl
    swapped other true is =
        let same : s.name ≡ x.name = (bytes_eq-Decides s.name x.name).0 is in
        absurd (let no : true ≡ false = sym ((bytes_eq-Decides x.name s.name).1 (sym same)) ∙ other in cc)

    fresh : bytes_eq x.name s.name ≡ false → has s.name (taken ++ x.name ∷ []) ≡ false
    fresh other =
        list_any-append (bytes_eq s.name) taken (x.name ∷ [])
        ∙ (λ i. new i || (swapped other (bytes_eq s.name x.name) refl i || false))

    by : (b : Bool) → has x.name taken ≡ b → (e : Bool) → bytes_eq x.name s.name ≡ e →
        (Contains xs s → found s.name (entries (each_once taken xs ++ more)) ≡ Some (member_table s)) →
        (Contains xs s → has s.name (taken ++ x.name ∷ []) ≡ false →
        found s.name (entries (each_once (taken ++ x.name ∷ []) xs ++ more)) ≡ Some (member_table s)) →
        found s.name (entries ((if b then each_once taken xs else x ∷ each_once (taken ++ x.name ∷ []) xs) ++ more)) ≡ Some (member_table s)
    by true is e same old next = old (behind there.0 there.1 there.2 (same ∙ untaken e same is))
    by false is true same old next =
        ap (λ (t : Bool). if t then Some (member_table x) else found s.name (entries (each_once (taken ++ x.name ∷ []) xs ++ more))) same
        ∙ ap (λ (s : CStruct). Some (member_table s)) (alike x (0, omega arith, refl) ((bytes_eq-Decides x.name s.name).0 same))
    by false is false same old next =
        ap (λ (t : Bool). if t then Some (member_table x) else found s.name (entries (each_once (taken ++ x.name ∷ []) xs ++ more))) same
        ∙ next (behind there.0 there.1 there.2 same) (fresh same)

-- a struct of this name
record Bearer (xs : List CStruct) (name : Text) : Type 0 where
  struct : CStruct
  has : Contains xs struct
  named : name ≡ struct.name

bearer : (xs : List CStruct) (name : Text) → has name (names_of xs) ≡ true → Bearer xs name
bearer [] name h = absurd (cc)
bearer (x ∷ xs) name h = by (bytes_eq name x.name) refl h (bearer xs name)
  where
    by : (b : Bool) → bytes_eq name x.name ≡ b → (b || has name (names_of xs)) ≡ true →
        (has name (names_of xs) ≡ true → Bearer xs name) → Bearer (x ∷ xs) name
    by true is h rest = record { struct = x; has = (0, omega arith, refl); named = (bytes_eq-Decides name x.name).0 is }
    by false is h rest =
        let b = rest h in record { struct = b.struct; has = (suc b.has.0, (let lt = b.has.1 in omega arith), b.has.2); named = b.named }

-- ---- what is known

known_push : (names : List Text) (new : Text) (ty : CType) → is_known names ty ≡ true → is_known (names ++ new ∷ []) ty ≡ true
known_push names new (OfScalar s) h = refl
known_push names new (OfStruct name) h = list_any-append (bytes_eq name) names (new ∷ []) ∙ first_of (has name names) (has name (new ∷ [])) h

pub known_both : (names : List Text) (first second : List CStruct) → are_known names first ≡ true → are_known (names ++ names_of first) second ≡ true →
    are_known names (first ++ second) ≡ true
known_both names [] second h k = subst (λ l. are_known l second ≡ true) (append-nil names) k
known_both names (s ∷ first) second h k =
    and_from (list_all (λ (m : CMember). is_known names m.ty) s.members) (are_known (names ++ s.name ∷ []) (first ++ second))
    (and_first (list_all (λ (m : CMember). is_known names m.ty) s.members) (are_known (names ++ s.name ∷ []) first) h)
    (known_both (names ++ s.name ∷ []) first second
    (and_second (list_all (λ (m : CMember). is_known names m.ty) s.members) (are_known (names ++ s.name ∷ []) first) h)
    (subst (λ l. are_known l second ≡ true) (sym (append_assoc names (s.name ∷ []) (names_of first))) k))

module _ (structs : List StructDef) (units : List UnitDef) (entry : ℕ) (keeps : IsWellTyped structs units entry) (apart : TypesApart structs units entry) where
  -- ---- structs of types

  begins : (ty : Ty) (layer : Ty-F Ty) → out-Ty ty ≡ layer → 1 ≤ nesting structs ty → begins_type (type_name structs ty) ≡ true
  begins ty (Ty-F.Scalar s) is some =
      absurd (let none : nesting structs ty ≡ 0 = nesting_at (struct_nestings structs) ty (Ty-F.Scalar s) is in omega (arith, some, none))
  begins ty (Ty-F.Struct k) is some = ap begins_type (name_at structs ty (Ty-F.Struct k) is) ∙ struct_begins (definition_name structs k)
  begins ty (Ty-F.Array n element) is some =
      ap begins_type (name_at structs ty (Ty-F.Array n element) is) ∙ array_begins n (type_name structs element)

  plain_type : (s : CStruct) (ty : Ty) (layer : Ty-F Ty) → out-Ty ty ≡ layer → s.name ≡ type_name structs ty → 1 ≤ nesting structs ty →
      interface_fits s ≡ true
  plain_type s ty (Ty-F.Scalar t) is named some =
      absurd (let none : nesting structs ty ≡ 0 = nesting_at (struct_nestings structs) ty (Ty-F.Scalar t) is in omega (arith, some, none))
  plain_type s ty (Ty-F.Struct k) is named some =
      plain_by s (struct_name (definition_name structs k)) (named ∙ name_at structs ty (Ty-F.Struct k) is) refl refl
  plain_type s ty (Ty-F.Array n element) is named some =
      plain_by s (array_name n (type_name structs element)) (named ∙ name_at structs ty (Ty-F.Array n element) is) refl refl

  of_type : (s : CStruct) → StructOf structs 299 s → Fine structs s
  of_type s o = record {
    plain = plain_type s o.ty (out-Ty o.ty) refl o.named o.some;
    parts = λ m has.
        let p = o.parts m has in
        let low : nesting structs p.part ≤ 299 = (let deep = p.deep in let few = o.few in omega (arith, deep, few)) in
        (p.part, p.is, p.stands, low, (λ ty stands named. subst (λ t. nesting structs p.part + 1 ≤ nesting structs t) (same ty stands named) p.deep));
    some = λ ty stands named. subst (λ t. 1 ≤ nesting structs t) (same ty stands named) o.some;
  }
    where
      same : (ty : Ty) → type_stands (length structs) ty ≡ true → type_name structs ty ≡ s.name → o.ty ≡ ty
      same ty stands named = apart o.ty ty keeps o.stands stands (sym o.named ∙ sym named)

  -- ---- structs of variables

  no_memory : (ty : Ty) (layer : Ty-F Ty) → out-Ty ty ≡ layer → begins_memory (type_name structs ty) ≡ false
  no_memory ty (Ty-F.Scalar s) is = ap begins_memory (name_at structs ty (Ty-F.Scalar s) is) ∙ word_other s
  no_memory ty (Ty-F.Struct k) is = ap begins_memory (name_at structs ty (Ty-F.Struct k) is) ∙ struct_other (definition_name structs k)
  no_memory ty (Ty-F.Array n element) is = ap begins_memory (name_at structs ty (Ty-F.Array n element) is) ∙ array_other n (type_name structs element)

  of_memory : NestsAtMost 299 structs units → (s : CStruct) → IsMemory structs units s → Fine structs s
  of_memory nests s memory = record {
    plain = plain_by s (codes "m_" ++ memory.rest) memory.named refl refl;
    parts = λ m has.
        let v = memory.members m has in (
          v.var.ty,
          v.is,
          all_at (λ (var : Var). type_stands (length structs) var.ty) v.unit.vars v.j v.var
              (vars_stand structs units entry keeps v.k v.unit v.unit_there) v.var_there,
          nests.variables v.k v.j v.unit v.var v.unit_there v.var_there,
          (λ ty stands named. absurd (never ty named)),
        );
    some = λ ty stands named. absurd (never ty named);
  }
    where
      never : (ty : Ty) → type_name structs ty ≡ s.name → ⊥
      never ty named =
          let no : false ≡ true = sym (no_memory ty (out-Ty ty) refl) ∙ ap begins_memory (named ∙ memory.named) ∙ memory_own memory.rest in cc

  -- ---- all

  abbrev of_program : List CStruct
  of_program = each_once [] (structs_for structs units)

  type_at : NestsAtMost 299 structs units → (s : CStruct) → Contains of_program s → StructOf structs 299 s
  type_at nests s has = all_are structs 299 keeps.structs_stand nests.definitions units entry keeps nests s (once_has [] (structs_for structs units) s has)

  all_fine : NestsAtMost 299 structs units → (memories : List CStruct) → AreMemories structs units memories →
      (s : CStruct) → Contains (of_program ++ memories) s →
      Fine structs s
  all_fine nests memories are s has =
      ⊎_elim (λ own. of_type s (type_at nests s own)) (λ other. of_memory nests s (are.each s other)) (Contains-append_cases of_program memories s has)

  differ_type : NestsAtMost 299 structs units → (memories : List CStruct) → AreMemories structs units memories → (name : Text) →
      has name (names_of memories) ≡ true → has name (names_of of_program) ≡ false
  differ_type nests memories are name there = by (has name (names_of of_program)) refl
    where
      by : (b : Bool) → has name (names_of of_program) ≡ b → b ≡ false
      by false is = refl
      by true is =
          let m = bearer memories name there in
          let s = bearer of_program name is in
          let o = type_at nests s.struct s.has in
          let memory = are.each m.struct m.has in
          let one : begins_type name ≡ true = ap begins_type (s.named ∙ o.named) ∙ begins o.ty (out-Ty o.ty) refl o.some in
          let other : begins_type name ≡ false = ap begins_type (m.named ∙ memory.named) ∙ memory_begins memory.rest in
          absurd (let no : true ≡ false = sym one ∙ other in cc)

  list_known : (names : List Text) (members : List CMember) → ((m : CMember) → Contains members m → is_known names m.ty ≡ true) →
      list_all (λ (m : CMember). is_known names m.ty) members ≡ true
  list_known names [] each = refl
  list_known names (m ∷ members) each =
      and_from (is_known names m.ty) (list_all (λ (m : CMember). is_known names m.ty) members) (each m (0, omega arith, refl))
      (list_known names members (λ x has. each x (suc has.0, (let lt = has.1 in omega arith), has.2)))

  memories_known : TypesDeclared structs units entry → (names : List Text) →
      ((ty : CType) → is_known (names_of of_program) ty ≡ true → is_known names ty ≡ true) →
      (memories : List CStruct) → ((s : CStruct) → Contains memories s → IsMemory structs units s) → are_known names memories ≡ true
  memories_known declared names more [] each = refl
  memories_known declared names more (s ∷ rest) each =
      and_from (list_all (λ (m : CMember). is_known names m.ty) s.members) (are_known (names ++ s.name ∷ []) rest)
      (list_known names s.members (λ m has. more m.ty (member_known m ((each s (0, omega arith, refl)).members m has))))
      (memories_known declared (names ++ s.name ∷ []) (λ ty known. known_push names s.name ty (more ty known)) rest
      (λ x has. each x (suc has.0, (let lt = has.1 in omega arith), has.2)))
    where
      member_known : (m : CMember) → OfVariable structs units m → is_known (names_of of_program) m.ty ≡ true
      member_known m v =
          subst (λ ty. is_known (names_of of_program) ty ≡ true) (sym v.is)
          (all_at (λ (var : Var). is_known (names_of of_program) (c_type structs var.ty)) v.unit.vars v.j v.var
          (all_at (λ (unit : UnitDef). list_all (λ (var : Var). is_known (names_of of_program) (c_type structs var.ty)) unit.vars) units v.k v.unit
          (declared keeps) v.unit_there) v.var_there)

  memories_differ : (memories : List CStruct) → ((s : CStruct) → Contains memories s → IsMemory structs units s) →
      list_all (λ (s : CStruct). are_distinct (member_names s)) memories ≡ true
  memories_differ [] each = refl
  memories_differ (s ∷ rest) each =
      and_from (are_distinct (member_names s)) (list_all (λ (s : CStruct). are_distinct (member_names s)) rest) (each s (0, omega arith, refl)).distinct
      (memories_differ rest (λ x has. each x (suc has.0, (let lt = has.1 in omega arith), has.2)))

  pub formed : MembersDiffer structs units entry → UsesEarlier structs units entry → TypesDeclared structs units entry → (memories : List CStruct) →
      NestsAtMost 299 structs units → AreMemories structs units memories → struct_faults_after no_entries no_entries (of_program ++ memories) ≡ []
  formed differ earlier declared memories nests are =
      structs_sound structs (of_program ++ memories) [] no_entries no_entries (has_nothing (Table CMember)) (deep_nothing structs)
      (new_append [] of_program memories (once_new [] (structs_for structs units))
      (others_new (names_of of_program) memories are.differ (differ_type nests memories are)))
      (known_both [] of_program memories (earlier keeps) (memories_known declared (names_of of_program) (λ ty known. known) memories are.each))
      (list_all-append (λ (s : CStruct). are_distinct (member_names s)) of_program memories
      ∙ and_from (list_all (λ (s : CStruct). are_distinct (member_names s)) of_program) (list_all (λ (s : CStruct). are_distinct (member_names s)) memories)
      (differ keeps) (memories_differ memories are.each))
      (all_fine nests memories are)

  -- ---- every struct is there

  pub there : (most : ℕ) (more : List CStruct) → NestsAtMost most structs units →
      AreDeclared (struct_table (of_program ++ more)) (structs_for structs units)
  there most more nests s has = once_found [] (structs_for structs units) more s has refl alike
    where
      type_of : (x : CStruct) → Contains (structs_for structs units) x → StructOf structs most x
      type_of = all_are structs most keeps.structs_stand nests.definitions units entry keeps nests

      alike : (x : CStruct) → Contains (structs_for structs units) x → x.name ≡ s.name → x ≡ s
      alike x at named =
          let one = type_of x at in
          let other = type_of s has in
          let same : one.ty ≡ other.ty = apart one.ty other.ty keeps one.stands other.stands (sym one.named ∙ named ∙ other.named) in
          one.made ∙ ap (λ ty. struct_level structs (out-Ty ty)) same ∙ sym other.made

pub structs_well_formed : (structs : List StructDef) (units : List UnitDef) (entry : ℕ) → MembersDiffer structs units entry →
    UsesEarlier structs units entry →
    TypesDeclared structs units entry → TypesApart structs units entry → StructsWellFormed structs units entry
structs_well_formed structs units entry differ earlier declared apart memories keeps nests are =
    formed structs units entry keeps apart differ earlier declared memories nests are

pub structs_there : (structs : List StructDef) (units : List UnitDef) (entry : ℕ) → TypesApart structs units entry → StructsThere structs units entry
structs_there structs units entry apart most more keeps nests = there structs units entry keeps apart most more nests
