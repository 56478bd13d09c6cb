-- What is found by the names of a function's parameters, locals and members.
use Rattle.std.proofs.Common.{◌≡◌, ℕ, zero, suc, ◌+◌, ◌<◌, ◌≤◌, ◌^◌, Bool, true, false, ◌||◌, List, [], ◌∷◌}
use Rattle.std.proofs.Common.{◌++◌, map, drop, length, Some, None}
use Rattle.std.proofs.Common.{refl, sym, ap, ◌∙◌, subst, arith, codes}
use Rattle.std.proofs.Common.{◌⊎◌, inl, inr}
use Rattle.std.proofs.lemmas.Bool.{cases_lt}
use Rattle.std.proofs.lemmas.Fmt.{decimal_injective}
use Rattle.std.proofs.lemmas.List.{map-append}
use Rattle.std.proofs.lemmas.Option.{same_Some}
use Rattle.std.proofs.lemmas.Slice.Eq.{bytes_eq-Decides}
use Rattle.std.specs.Fmt.{decimal}
use Rattle.std.specs.Prelude.{bytes_eq, slice_get, if◌then◌else◌}
use Rattle.std.specs.List.{list_any}
use Rattle.bl_tree.specs.declared.text.Text.{Text}
use Rattle.bl_tree.specs.declared.c.CLocal.{CLocal}
use Rattle.bl_tree.specs.declared.c.CMember.{CMember}
use Rattle.bl_tree.specs.declared.c.CType.TheVariants.{Struct as OfStruct}
use Rattle.bl_tree.specs.declared.tree.StructDef.{StructDef}
use Rattle.bl_tree.specs.declared.tree.Unit.{Unit as UnitDef}
use Rattle.bl_tree.specs.declared.tree.Var.{Var}
use Rattle.bl_tree.specs.Typing.{TypingContext}
use Rattle.bl_ctext_semantics.specs.Faults.{Variable, bool_type, local_variable, param_variable}
use Rattle.bl_ctext_semantics.specs.Tables.{found}
use Rattle.bl_emit_acts.specs.Places.{home_of}
use Rattle.bl_emit_acts.specs.Types.{c_type, variable_name}
use Rattle.bl_emit_functions.specs.Functions.{flag_local, flag_locals, has_local, held_member, holds_any, is_held, locals_from, members_from, memory_local}
use Rattle.bl_emit_functions.specs.Functions.{memory_name, param_of, params_from, variable_local, variable_locals}
use Rattle.bl_emit_functions.specs.Trees.{flag_name}
use Rattle.bl_emit_acts_laws_wellformed.specs.Formed.Declared.{parameter_for, variable_of}
use Rattle.bl_emit_functions_laws_wellformed.proofs.OnFormed.Kept.{every, is_held_in, locals_made, made_from, map_made, members_made, one_where, params_made}
use Rattle.bl_emit_functions_laws_wellformed.proofs.OnFormed.Kept.{variables_differ}

-- ---- lists one behind the other

pub found_front : {A : Type 0} (name : Text) (xs ys : List (Text × A)) (x : A) → found name xs ≡ Some x → found name (xs ++ ys) ≡ Some x
found_front name [] ys x there = absurd (cc)
found_front {A = A} name (entry ∷ xs) ys x there = by (bytes_eq entry.0 name) refl (found_front name xs ys x)
  where
    by : (b : Bool) → bytes_eq entry.0 name ≡ b → (found name xs ≡ Some x → found name (xs ++ ys) ≡ Some x) →
        (if bytes_eq entry.0 name then Some entry.1 else found name (xs ++ ys)) ≡ Some x
    by true is rest =
        ap (λ (b : Bool). if b then Some entry.1 else found name (xs ++ ys)) is
        ∙ ap (λ (b : Bool). if b then Some entry.1 else found name xs) (sym is) ∙ there
    by false is rest =
        ap (λ (b : Bool). if b then Some entry.1 else found name (xs ++ ys)) is
        ∙ rest (ap (λ (b : Bool). if b then Some entry.1 else found name xs) (sym is) ∙ there)

-- what is under no name of the first list is looked up in the second
pub found_behind : {A : Type 0} (name : Text) (xs ys : List (Text × A)) → found name xs ≡ None → found name (xs ++ ys) ≡ found name ys
found_behind name [] ys none = refl
found_behind {A = A} name (entry ∷ xs) ys none = by (bytes_eq entry.0 name) refl (found_behind name xs ys)
  where
    by : (b : Bool) → bytes_eq entry.0 name ≡ b → (found name xs ≡ None → found name (xs ++ ys) ≡ found name ys) →
        (if bytes_eq entry.0 name then Some entry.1 else found name (xs ++ ys)) ≡ found name ys
    by true is rest = absurd (let no : Some entry.1 ≡ None = ap (λ (b : Bool). if b then Some entry.1 else found name xs) (sym is) ∙ none in cc)
    by false is rest =
        ap (λ (b : Bool). if b then Some entry.1 else found name (xs ++ ys)) is
        ∙ rest (ap (λ (b : Bool). if b then Some entry.1 else found name xs) (sym is) ∙ none)

-- an entry of another name
pub found_next : {A : Type 0} (name : Text) (entry : Text × A) (rest : List (Text × A)) → bytes_eq entry.0 name
    ≡ false → found name (entry ∷ rest) ≡ found name rest
found_next name entry rest other = ap (λ (b : Bool). if b then Some entry.1 else found name rest) other

pub found_here : {A : Type 0} (name : Text) (entry : Text × A) (rest : List (Text × A)) → bytes_eq entry.0 name ≡ true
    → found name (entry ∷ rest) ≡ Some entry.1
found_here name entry rest same = ap (λ (b : Bool). if b then Some entry.1 else found name rest) same

-- ---- names with numbers

-- names of one letter and different numbers differ
pub numbers_differ : (letter j k : ℕ) → j < k → k < 2 ^ 64 → bytes_eq (letter ∷ decimal j) (letter ∷ decimal k) ≡ false
numbers_differ letter j k less small = by (bytes_eq (letter ∷ decimal j) (letter ∷ decimal k)) refl
  where
    by : (b : Bool) → bytes_eq (letter ∷ decimal j) (letter ∷ decimal k) ≡ b → b ≡ false
    by false is = refl
    by true is =
        let text : letter ∷ decimal j ≡ letter ∷ decimal k = (bytes_eq-Decides (letter ∷ decimal j) (letter ∷ decimal k)).0 is in
        let low : j < 2 ^ 64 = omega (arith, less, small) in
        let equal : j ≡ k = decimal_injective j k low small (ap (drop 1) text) in
        absurd (omega (arith, equal, less))

pub itself : (name : Text) → bytes_eq name name ≡ true
itself name = (bytes_eq-Decides name name).1 refl

-- ---- what is made of variables, under their names

module _ {A : Type 0} (all : List Var) (kept : Var → Bool) (make : ℕ → Var → A) where
  -- what is made of the variables that pass, each under its variable's name
  abbrev entries_from : ℕ → List Var → List (Text × A)
  entries_from = made_from kept (λ k var. (variable_name all k, make k var))

  found_from : (base : ℕ) (vars : List Var) (k : ℕ) (var : Var) → slice_get vars k ≡ Some var → kept var ≡ true → base + k < 2 ^ 64 →
      found (variable_name all (base + k)) (entries_from base vars) ≡ Some (make (base + k) var)
  found_from base [] k var there is small = absurd (cc)
  found_from base (v ∷ vars) zero var there is small =
      let none : base ≡ base + 0 = omega arith in
      subst (λ n. found (variable_name all n) (entries_from base (v ∷ vars)) ≡ Some (make n var)) none
      (ap (λ (b : Bool). found (variable_name all base) (one_where b (variable_name all base, make base v) ++ entries_from (base + 1) vars))
      (ap kept (same_Some v var there) ∙ is)
      ∙ found_here (variable_name all base) (variable_name all base, make base v) (entries_from (base + 1) vars) (itself (variable_name all base))
      ∙ ap (λ (v : Var). Some (make base v)) (same_Some v var there))
  found_from base (v ∷ vars) (suc k) var there is small =
      let less : base < base + suc k = omega arith in
      let same : (base + 1) + k ≡ base + suc k = omega arith in
      let low : (base + 1) + k < 2 ^ 64 = omega (arith, small) in
      by (kept v) less
      (subst (λ n. found (variable_name all n) (entries_from (base + 1) vars) ≡ Some (make n var)) same (found_from (base + 1) vars k var there is low))
    where
      by : (b : Bool) → base < base + suc k → found (variable_name all (base + suc k)) (entries_from (base + 1) vars) ≡ Some (make (base + suc k) var) →
          found (variable_name all (base + suc k)) (one_where b (variable_name all base, make base v) ++ entries_from (base + 1) vars)
          ≡ Some (make (base + suc k) var)
      by true less later =
          found_next (variable_name all (base + suc k)) (variable_name all base, make base v) (entries_from (base + 1) vars)
          (variables_differ all base (base + suc k) less small) ∙ later
      by false less later = later

  -- what is made of a variable is under its name
  found_made : (vars : List Var) (k : ℕ) (var : Var) → slice_get vars k ≡ Some var → kept var ≡ true → k < 2 ^ 64 →
      found (variable_name all k) (entries_from 0 vars) ≡ Some (make k var)
  found_made vars k var there is small =
      let none : 0 + k ≡ k = omega arith in
      subst (λ n. found (variable_name all n) (entries_from 0 vars) ≡ Some (make n var)) none (found_from 0 vars k var there is (omega (arith, small)))

  -- nothing is under a name other than those of these variables
  none_made : (base : ℕ) (vars : List Var) (name : Text) →
      ((k : ℕ) → k < base + length vars → bytes_eq (variable_name all k) name ≡ false) → found name (entries_from base vars) ≡ None
  none_made base [] name other = refl
  none_made base (v ∷ vars) name other =
      by (kept v) (other base (omega arith))
      (none_made (base + 1) vars name (λ k less. other k (omega (arith, less))))
    where
      by : (b : Bool) → bytes_eq (variable_name all base) name ≡ false → found name (entries_from (base + 1) vars) ≡ None →
          found name (one_where b (variable_name all base, make base v) ++ entries_from (base + 1) vars) ≡ None
      by true differs later = found_next name (variable_name all base, make base v) (entries_from (base + 1) vars) differs ∙ later
      by false differs later = later

-- ---- parameters

module _ (structs : List StructDef) (all : List Var) where
  abbrev pub param_entries : List Var → List (Text × Variable)
  param_entries vars = map param_variable (params_from structs all 0 vars)

  params_are : (vars : List Var) → param_entries vars ≡ entries_from all every (λ k var. parameter_for structs var) 0 vars
  params_are vars = ap (map param_variable) (params_made structs all 0 vars) ∙ map_made param_variable every (param_of structs all) 0 vars

  pub found_param : (vars : List Var) (k : ℕ) (var : Var) → slice_get vars k ≡ Some var → k < 2 ^ 64 →
      found (variable_name all k) (param_entries vars) ≡ Some (parameter_for structs var)
  found_param vars k var there small =
      ap (found (variable_name all k)) (params_are vars) ∙ found_made all every (λ k var. parameter_for structs var) vars k var there refl small

  -- no parameter has a name other than theirs
  pub no_param : (vars : List Var) (name : Text) → ((k : ℕ) → k < length vars → bytes_eq (variable_name all k) name ≡ false) →
      found name (param_entries vars) ≡ None
  no_param vars name other =
      ap (found name) (params_are vars)
      ∙ none_made all every (λ k var. parameter_for structs var) 0 vars name (λ k less. other k (omega (arith, less)))

-- ---- locals

abbrev pub local_entries : List CLocal → List (Text × Variable)
local_entries locals = map local_variable locals

entries_append : (first second : List CLocal) → local_entries (first ++ second) ≡ local_entries first ++ local_entries second
entries_append first second = map-append local_variable first second

no_flag : (n k : ℕ) → n ≤ k → k < 2 ^ 64 → found (flag_name k) (local_entries (flag_locals n)) ≡ None
no_flag zero k low small = refl
no_flag (suc n) k low small =
    let less : n < k = omega (arith, low) in
    let le : n ≤ k = omega (arith, low) in
    ap (found (flag_name k)) (entries_append (flag_locals n) (flag_local n ∷ []))
    ∙ found_behind (flag_name k) (local_entries (flag_locals n)) (local_entries (flag_local n ∷ [])) (no_flag n k le small)
    ∙ found_next (flag_name k) (local_variable (flag_local n)) [] (numbers_differ 113 n k less small)

found_flag : (n k : ℕ) → k < n → n ≤ 2 ^ 64 → found (flag_name k) (local_entries (flag_locals n)) ≡ Some (variable_of false bool_type)
found_flag zero k less few = absurd (omega arith)
found_flag (suc n) k less few =
    ap (found (flag_name k)) (entries_append (flag_locals n) (flag_local n ∷ [])) ∙ by (cases_lt k n) (found_flag n k)
  where
    by : (k < n) ⊎ (n ≤ k) → (k < n → n ≤ 2 ^ 64 → found (flag_name k) (local_entries (flag_locals n)) ≡ Some (variable_of false bool_type))
        → found (flag_name k) (local_entries (flag_locals n) ++ local_entries (flag_local n ∷ [])) ≡ Some (variable_of false bool_type)
    by (inl low) rest =
        let fewer : n ≤ 2 ^ 64 = omega (arith, few) in
        found_front (flag_name k) (local_entries (flag_locals n)) (local_entries (flag_local n ∷ [])) (variable_of false bool_type) (rest low fewer)
    by (inr high) rest =
        let same : n ≡ k = omega (arith, less, high) in
        let small : k < 2 ^ 64 = omega (arith, less, few) in
        found_behind (flag_name k) (local_entries (flag_locals n)) (local_entries (flag_local n ∷ [])) (no_flag n k high small)
        ∙ ap (λ m. found (flag_name k) (local_entries (flag_local m ∷ []))) same
        ∙ found_here (flag_name k) (local_variable (flag_local k)) [] (itself (flag_name k))

-- the locals of variables
module _ (site : TypingContext) where
  locals_are : (vars : List Var) → local_entries (locals_from site 0 vars)
      ≡ entries_from site.vars (has_local site) (λ k var. variable_of false (c_type site.structs var.ty)) 0 vars
  locals_are vars =
      ap local_entries (locals_made site 0 vars) ∙ map_made local_variable (has_local site) (variable_local site.structs site.vars) 0 vars

  -- what has another name than the struct of variables is found behind it
  behind_memory : (name : Text) (locals : List CLocal) (other : Text) → bytes_eq (codes "m") other ≡ false → (holds : Bool) →
      found other (local_entries (memory_local name holds ++ locals)) ≡ found other (local_entries locals)
  behind_memory name locals other differs true =
      found_next other (codes "m", variable_of false (OfStruct (memory_name name))) (local_entries locals) differs
  behind_memory name locals other differs false = refl

  module _ (unit : UnitDef) (n : ℕ) where
    -- the entries of all locals
    abbrev pub all_entries : List (Text × Variable)
    all_entries = local_entries (variable_locals site unit ++ flag_locals n)

    split : all_entries ≡ local_entries (variable_locals site unit) ++ local_entries (flag_locals n)
    split = entries_append (variable_locals site unit) (flag_locals n)

    -- a variable that is a local by itself, among all locals
    pub variable_found : (k : ℕ) (var : Var) → slice_get unit.vars k ≡ Some var → has_local site var ≡ true → k < 2 ^ 64 →
        found (variable_name site.vars k) all_entries ≡ Some (variable_of false (c_type site.structs var.ty))
    variable_found k var there local small =
        ap (found (variable_name site.vars k)) split
        ∙ found_front (variable_name site.vars k) (local_entries (variable_locals site unit)) (local_entries (flag_locals n))
        (variable_of false (c_type site.structs var.ty))
        (behind_memory unit.name (locals_from site 0 unit.vars) (variable_name site.vars k) refl (holds_any site unit.vars)
        ∙ ap (found (variable_name site.vars k)) (locals_are unit.vars)
        ∙ found_made site.vars (has_local site) (λ k var. variable_of false (c_type site.structs var.ty)) unit.vars k var there local small)

    no_flag_before : (k : ℕ) → found (flag_name k) (local_entries (variable_locals site unit)) ≡ None
    no_flag_before k =
        behind_memory unit.name (locals_from site 0 unit.vars) (flag_name k) refl (holds_any site unit.vars)
        ∙ ap (found (flag_name k)) (locals_are unit.vars)
        ∙ none_made site.vars (has_local site) (λ k var. variable_of false (c_type site.structs var.ty)) 0 unit.vars (flag_name k) (λ j less. refl)

    -- a flag among all locals
    pub flag_found : (k : ℕ) → k < n → n ≤ 2 ^ 64 → found (flag_name k) all_entries ≡ Some (variable_of false bool_type)
    flag_found k less few =
        ap (found (flag_name k)) split
        ∙ found_behind (flag_name k) (local_entries (variable_locals site unit)) (local_entries (flag_locals n)) (no_flag_before k)
        ∙ found_flag n k less few

-- the local that has the variables
pub memory_found : (name : Text) (locals : List CLocal) →
    found (codes "m") (local_entries (memory_local name true ++ locals)) ≡ Some (variable_of false (OfStruct (memory_name name)))
memory_found name locals = refl

-- ---- members

module _ (site : TypingContext) where
  abbrev pub member_entries : List CMember → List (Text × CMember)
  member_entries members = map (λ (m : CMember). (m.name, m)) members

  pub found_member : (vars : List Var) (k : ℕ) (var : Var) → slice_get vars k ≡ Some var → is_held (home_of site (Some var)) ≡ true → k < 2 ^ 64 →
      found (variable_name site.vars k) (member_entries (members_from site 0 vars)) ≡ Some (held_member site.structs site.vars k var)
  found_member vars k var there held small =
      ap (λ members. found (variable_name site.vars k) (member_entries members)) (members_made site 0 vars)
      ∙ ap (found (variable_name site.vars k))
      (map_made (λ (m : CMember). (m.name, m)) (is_held_in site) (held_member site.structs site.vars) 0 vars)
      ∙ found_made site.vars (is_held_in site) (held_member site.structs site.vars) vars k var there held small

  -- a unit that holds one holds any
  pub any_held : (vars : List Var) (k : ℕ) (var : Var) → slice_get vars k ≡ Some var → is_held (home_of site (Some var)) ≡ true →
      list_any (λ (var : Var). is_held (home_of site (Some var))) vars ≡ true
  any_held [] k var there held = absurd (cc)
  any_held (v ∷ vars) zero var there held = first_of _ _ (ap (λ (v : Var). is_held (home_of site (Some v))) (same_Some v var there) ∙ held)
    where
      first_of : (a b : Bool) → a ≡ true → (a || b) ≡ true
      first_of true b h = refl
      first_of false b h = absurd (cc)
  any_held (v ∷ vars) (suc k) var there held = second_of _ _ (any_held vars k var there held)
    where
      second_of : (a b : Bool) → b ≡ true → (a || b) ≡ true
      second_of true b h = refl
      second_of false b h = h
