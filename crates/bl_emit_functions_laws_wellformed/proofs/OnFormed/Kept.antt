-- What is made of the variables of a list that pass a test: parameters, members of the struct of variables, and locals.
use Rattle.std.proofs.Common.{◌≡◌, ℕ, zero, suc, ◌+◌, ◌<◌, ◌≤◌, ◌^◌, Bool, true, false, not, ◌||◌, List, [], ◌∷◌, ◌++◌}
use Rattle.std.proofs.Common.{map, drop, length, Some, refl, ap, ◌∙◌, arith}
use Rattle.std.proofs.lemmas.List.{map-append}
use Rattle.std.proofs.lemmas.List.Folds.{list_all-append}
use Rattle.std.specs.List.{list_all}
use Rattle.std.specs.Prelude.{bytes_eq, slice_get}
use Rattle.std.proofs.lemmas.Bool.{and_from, or_from}
use Rattle.bl_tree.specs.declared.text.Text.{Text}
use Rattle.bl_tree.specs.declared.tree.StructDef.{StructDef}
use Rattle.bl_tree.specs.declared.tree.Var.{Var}
use Rattle.bl_tree.specs.Typing.{TypingContext}
use Rattle.bl_tree.specs.Words.{are_distinct, is_among}
use Rattle.bl_emit_acts.specs.Places.{home_of}
use Rattle.bl_emit_acts.specs.Types.{variable_name}
use Rattle.bl_emit_functions.specs.Functions.{has_local, held_member, is_held, local_of, locals_from, member_of, members_from, param_of, params_from}
use Rattle.bl_emit_functions.specs.Functions.{variable_local}
use Rattle.bl_emit_acts_laws_simulation.proofs.NumberedNames.{names_differ}

-- one thing (true), or none
abbrev pub one_where : {A : Type 0} → Bool → A → List A
one_where true x = x ∷ []
one_where false x = []

-- what is made of each variable that passes a test, of those from this position on
abbrev pub made_from : {A : Type 0} → (Var → Bool) → (ℕ → Var → A) → ℕ → List Var → List A
made_from kept make k [] = []
made_from kept make k (var ∷ rest) = one_where (kept var) (make k var) ++ made_from kept make (k + 1) rest

-- every variable passes
abbrev pub every : Var → Bool
every var = true

-- ---- parameters, members and locals

pub params_made : (structs : List StructDef) (all : List Var) (k : ℕ) (vars : List Var) →
    params_from structs all k vars ≡ made_from every (param_of structs all) k vars
params_made structs all k [] = refl
params_made structs all k (var ∷ rest) = ap (λ later. param_of structs all k var ∷ later) (params_made structs all (k + 1) rest)

module _ (site : TypingContext) where
  -- whether the unit holds a variable
  abbrev pub is_held_in : Var → Bool
  is_held_in var = is_held (home_of site (Some var))

  pub members_made : (k : ℕ) (vars : List Var) → members_from site k vars ≡ made_from is_held_in (held_member site.structs site.vars) k vars
  members_made k [] = refl
  members_made k (var ∷ rest) = (λ i. by (is_held_in var) i ++ members_made (k + 1) rest i)
    where
      by : (held : Bool) → member_of held site.structs site.vars k var ≡ one_where held (held_member site.structs site.vars k var)
      by true = refl
      by false = refl

  pub locals_made : (k : ℕ) (vars : List Var) → locals_from site k vars ≡ made_from (has_local site) (variable_local site.structs site.vars) k vars
  locals_made k [] = refl
  locals_made k (var ∷ rest) = (λ i. by (has_local site var) i ++ locals_made (k + 1) rest i)
    where
      by : (local : Bool) → local_of local site.structs site.vars k var ≡ one_where local (variable_local site.structs site.vars k var)
      by true = refl
      by false = refl

-- ---- all of them

pub map_made : {A B : Type 0} (f : A → B) (kept : Var → Bool) (make : ℕ → Var → A) (k : ℕ) (vars : List Var) →
    map f (made_from kept make k vars) ≡ made_from kept (λ k var. f (make k var)) k vars
map_made f kept make k [] = refl
map_made {A = A} {B = B} f kept make k (var ∷ rest) =
    map-append f (one_where (kept var) (make k var)) (made_from kept make (k + 1) rest)
    ∙ (λ i. by (kept var) i ++ map_made f kept make (k + 1) rest i)
  where
    by : (b : Bool) → map f (one_where b (make k var)) ≡ one_where b (f (make k var))
    by true = refl
    by false = refl

-- a test that each of these passes
pub all_made : {A : Type 0} (test : A → Bool) (kept : Var → Bool) (make : ℕ → Var → A) (base : ℕ) (vars : List Var) →
    ((k j : ℕ) (var : Var) → k ≡ base + j → slice_get vars j ≡ Some var → test (make k var) ≡ true) →
    list_all test (made_from kept make base vars) ≡ true
all_made test kept make base [] each = refl
all_made test kept make base (var ∷ rest) each =
    list_all-append test (one_where (kept var) (make base var)) (made_from kept make (base + 1) rest)
    ∙ and_from (list_all test (one_where (kept var) (make base var))) (list_all test (made_from kept make (base + 1) rest)) (by (kept var))
    (all_made test kept make (base + 1) rest (λ k j v at found. each k (suc j) v (omega (arith, at)) found))
  where
    by : (b : Bool) → list_all test (one_where b (make base var)) ≡ true
    by true = and_from (test (make base var)) true (each base 0 var (omega arith) refl) refl
    by false = refl

-- nothing is made of the first variables where none of them passes
pub made_behind : {A : Type 0} (kept : Var → Bool) (make : ℕ → Var → A) (n base : ℕ) (vars : List Var) →
    ((j : ℕ) (var : Var) → j < n → slice_get vars j ≡ Some var → kept var ≡ false) →
    made_from kept make base vars ≡ made_from kept make (base + n) (drop n vars)
made_behind kept make zero base vars none = let same : base ≡ base + 0 = omega arith in ap (λ k. made_from kept make k vars) same
made_behind kept make (suc n) base [] none = refl
made_behind kept make (suc n) base (var ∷ rest) none =
    let same : (base + 1) + n ≡ base + suc n = omega arith in
    by (kept var) (none 0 var (omega arith) refl)
    (made_behind kept make n (base + 1) rest (λ j v less found. none (suc j) v (omega (arith, less)) found)
    ∙ ap (λ k. made_from kept make k (drop n rest)) same)
  where
    by : (b : Bool) → b ≡ false → made_from kept make (base + 1) rest ≡ made_from kept make (base + suc n) (drop n rest) →
        one_where b (make base var) ++ made_from kept make (base + 1) rest ≡ made_from kept make (base + suc n) (drop n rest)
    by true is later = absurd (cc)
    by false is later = later

-- ---- their names

-- names of variables at different positions differ
pub variables_differ : (vars : List Var) (j k : ℕ) → j < k → k < 2 ^ 64 → bytes_eq (variable_name vars j) (variable_name vars k) ≡ false
variables_differ vars j k less small =
    let low : j < 2 ^ 64 = omega (arith, less, small) in names_differ 118 vars j k low small (λ same. omega (arith, same, less))

module _ (all : List Var) (kept : Var → Bool) where
  abbrev pub names_from : ℕ → List Var → List Text
  names_from = made_from kept (λ k var. variable_name all k)

  -- a name other than those of these variables is none of them
  pub other_name : (x : Text) (base : ℕ) (vars : List Var) →
      ((k : ℕ) → base ≤ k → k < base + length vars → bytes_eq x (variable_name all k) ≡ false) → is_among x (names_from base vars) ≡ false
  other_name x base [] other = refl
  other_name x base (v ∷ vars) other =
      by (kept v) (other base (omega arith) (omega arith))
      (other_name x (base + 1) vars (λ k low high. other k (omega (arith, low)) (omega (arith, high))))
    where
      by : (b : Bool) → bytes_eq x (variable_name all base) ≡ false → is_among x (names_from (base + 1) vars) ≡ false →
          is_among x (one_where b (variable_name all base) ++ names_from (base + 1) vars) ≡ false
      by true one rest = or_from (bytes_eq x (variable_name all base)) (is_among x (names_from (base + 1) vars)) one rest
      by false one rest = rest

  -- nor is that of an earlier variable
  earlier_name : (j base : ℕ) (vars : List Var) → j < base → base + length vars ≤ 2 ^ 64 →
      is_among (variable_name all j) (names_from base vars) ≡ false
  earlier_name j base vars less few =
      other_name (variable_name all j) base vars
      (λ k low high. variables_differ all j k (omega (arith, less, low)) (omega (arith, few, high)))

  pub kept_differ : (base : ℕ) (vars : List Var) → base + length vars ≤ 2 ^ 64 → are_distinct (names_from base vars) ≡ true
  kept_differ base [] few = refl
  kept_differ base (v ∷ vars) few =
      let own : base < base + 1 = omega arith in
      let room : (base + 1) + length vars ≤ 2 ^ 64 = omega (arith, few) in
      by (kept v) (earlier_name base (base + 1) vars own room) (kept_differ (base + 1) vars room)
    where
      by : (b : Bool) → is_among (variable_name all base) (names_from (base + 1) vars) ≡ false → are_distinct (names_from (base + 1) vars) ≡ true →
          are_distinct (one_where b (variable_name all base) ++ names_from (base + 1) vars) ≡ true
      by true new rest =
          and_from (not (is_among (variable_name all base) (names_from (base + 1) vars))) (are_distinct (names_from (base + 1) vars)) (ap not new) rest
      by false new rest = rest
