-- Each `run` of an instance's unit begins an instance.
use Rattle.std.proofs.Common.{◌≡◌, ◌⊎◌, inl, inr, ℕ, zero, suc, ◌+◌, ◌<◌, Bool, true, false, ◌||◌, ◌&&◌, not, cond, List, [], ◌∷◌, ◌++◌, map, length, Option}
use Rattle.std.proofs.Common.{Some, None, refl, sym, ap, ◌∙◌, subst, arith, eqb-true, eq-eqb}
use Rattle.std.proofs.lemmas.Bool.{lt-ltb}
use Rattle.std.specs.List.{list_any, position, position_or_len}
use Rattle.std.specs.Prelude.{filter, nat_eq, slice_get}
use Rattle.bl_tree.proofs.Basics.{get_of_map, or_true, some_within}
use Rattle.bl_tree.specs.declared.place.Place.{Place}
use Rattle.bl_tree.specs.declared.tree.Unit.{Unit as UnitDef}
use Rattle.bl_tree.specs.Rules.{same_place}
use Rattle.bl_effects.proofs.EntryLemmas.{same_place_refl}
use Rattle.bl_ctree.specs.declared.instance.Instance.{Instance}
use Rattle.bl_ctree.specs.declared.instance.Origin.{Origin}
use Rattle.bl_ctree.specs.declared.instance.Run.{Run}
use Rattle.bl_ctree.specs.Instances.{begins_at, called_from, expanded, instances_below, one_a_place, origin_under, runs_of}
use Rattle.bl_ctree_laws_confluence.proofs.OnDeeds.Activities.{AllOf}
use Rattle.bl_ctree_laws_confluence.proofs.OnDeeds.Origins.{first_of, opened}
use Rattle.bl_tree.proofs.FirstLemmas.{same_true}

any_first : {A : Type 0} (p : A → Bool) (xs ys : List A) → list_any p xs ≡ true → list_any p (xs ++ ys) ≡ true
any_first p [] ys e = absurd cc
any_first p (x ∷ xs) ys e = by_test (p x) e (any_first p xs ys)
  where
    by_test : (b : Bool) → (b || list_any p xs) ≡ true → (list_any p xs ≡ true → list_any p (xs ++ ys) ≡ true) →
        (b || list_any p (xs ++ ys)) ≡ true
    by_test true e more = refl
    by_test false e more = more e

any_second : {A : Type 0} (p : A → Bool) (xs ys : List A) → list_any p ys ≡ true → list_any p (xs ++ ys) ≡ true
any_second p [] ys e = e
any_second p (x ∷ xs) ys e = ap (λ b. p x || b) (any_second p xs ys e) ∙ or_true (p x)

-- the first index at which a test that some element passes is passed
pub record First {A : Type 0} (p : A → Bool) (xs : List A) : Type 0 where
  pub at : ℕ
  pub one : A
  pub is : position p xs ≡ Some at
  pub there : slice_get xs at ≡ Some one

first_len : {A : Type 0} (p : A → Bool) (xs : List A) → list_any p xs ≡ true → position_or_len p xs < length xs
first_len p [] e = absurd cc
first_len p (x ∷ xs) e = by_test (p x) refl e (first_len p xs)
  where
    by_test : (b : Bool) → p x ≡ b → (b || list_any p xs) ≡ true → (list_any p xs ≡ true → position_or_len p xs < length xs) →
        position_or_len p (x ∷ xs) < length (x ∷ xs)
    by_test true is e more = rw is (omega arith)
    by_test false is e more = let rest = more e in rw is (omega arith)

pub first_at : {A : Type 0} (p : A → Bool) (xs : List A) → list_any p xs ≡ true → First p xs
first_at p xs e =
    let less = first_len p xs e in
    let one = some_within xs (position_or_len p xs) less in
    record {
      at = position_or_len p xs;
      one = one.0;
      is = ap (λ b. cond b (Some (position_or_len p xs)) None) (lt-ltb (position_or_len p xs) (length xs) less);
      there = one.1;
    }

-- some instance is begun at the place of the caller
abbrev pub SomeBegins : List Instance → ℕ → Place → Type 0
SomeBegins instances i place = list_any (λ instance. begins_at i place instance.origin) instances ≡ true

-- begun below, begun with other numbers
renumbered : (n j : ℕ) (place : Place) (run : Run) (o : Option Origin) → begins_at j place o ≡ true →
    begins_at (n + j) place (origin_under n run o) ≡ true
renumbered n j place run None e = absurd cc
renumbered n j place run (Some origin) e = by_tests (nat_eq origin.caller j) refl (same_place origin.place place) refl e
  where
    by_tests : (a : Bool) → nat_eq origin.caller j ≡ a → (b : Bool) → same_place origin.place place ≡ b → (a && b) ≡ true →
        (nat_eq (n + origin.caller) (n + j) && same_place origin.place place) ≡ true
    by_tests true is true same e =
        let one : origin.caller ≡ j = eqb-true origin.caller j is in
        ap (λ b. b && same_place origin.place place) (eq-eqb (n + origin.caller) (n + j) (ap (λ k. n + k) one)) ∙ same
    by_tests true is false same e = absurd cc
    by_tests false is b same e = absurd cc

begun_inside : (n j : ℕ) (place : Place) (run : Run) (xs : List Instance) → SomeBegins xs j place → SomeBegins (map (called_from n run) xs) (n + j) place
begun_inside n j place run [] e = absurd cc
begun_inside n j place run (x ∷ xs) e = by_test (begins_at j place x.origin) refl e (begun_inside n j place run xs)
  where
    by_test : (b : Bool) → begins_at j place x.origin ≡ b → (b || list_any (λ instance. begins_at j place instance.origin) xs) ≡ true →
        (SomeBegins xs j place → SomeBegins (map (called_from n run) xs) (n + j) place) →
        SomeBegins (map (called_from n run) (x ∷ xs)) (n + j) place
    by_test true is e more =
        ap (λ b. b || list_any (λ instance. begins_at (n + j) place instance.origin) (map (called_from n run) xs))
        (renumbered n j place run x.origin is)
    by_test false is e more =
        ap (λ b. begins_at (n + j) place (origin_under n run x.origin) || b) (more e) ∙ or_true (begins_at (n + j) place (origin_under n run x.origin))

record Split {A : Type 0} (xs ys : List A) (m : ℕ) (x : A) : Type 0 where
  after : ℕ
  is : m ≡ length xs + after
  there : slice_get ys after ≡ Some x

get_split : {A : Type 0} (xs ys : List A) (m : ℕ) (x : A) → slice_get (xs ++ ys) m ≡ Some x → (slice_get xs m ≡ Some x) ⊎ Split xs ys m x
get_split [] ys m x e = inr (record { after = m; is = omega arith; there = e })
get_split (z ∷ xs) ys zero x e = inl e
get_split (z ∷ xs) ys (suc m) x e = elim (get_split xs ys m x e) [
  | inl here ↦ inl here
  | inr later ↦ let is = later.is in inr (record { after = later.after; is = omega arith; there = later.there })
]

-- each `run` of the unit of each instance in the list begins one
abbrev pub AllBegin : List UnitDef → List Instance → Type 0
AllBegin units instances = (i : ℕ) (x : Instance) (unit : UnitDef) → slice_get instances i ≡ Some x → slice_get units x.unit ≡ Some unit →
    AllOf (λ run. SomeBegins instances i run.place) (runs_of unit)

pub all_more : {A : Type 0} (P Q : A → Type 0) → ((x : A) → P x → Q x) → (xs : List A) → AllOf P xs → AllOf Q xs
all_more P Q more [] all = tt
all_more P Q more (x ∷ xs) all = (more x all.0, all_more P Q more xs all.1)

-- a run of a unit that is found before the position
abbrev pub Found : List UnitDef → ℕ → Run → Type 0
Found units k run = (callee : UnitDef) × (slice_get units run.unit ≡ Some callee) × (run.unit < k)

module _ (units : List UnitDef) (earlier : (k : ℕ) (unit : UnitDef) → slice_get units k ≡ Some unit → AllOf (Found units k) (runs_of unit)) where
  abbrev Of : ℕ → ℕ → Type 0
  Of longest k = k < longest → AllBegin units (expanded units longest k)

  -- the root begins its own
  root_begins : (longest n : ℕ) (runs : List Run) → AllOf (Found units longest) runs →
      AllOf (λ run. SomeBegins (instances_below (expanded units longest) n runs) 0 run.place) runs
  root_begins longest n [] all = tt
  root_begins longest n (run ∷ rest) all =
      let inner : List Instance = map (called_from n run) (expanded units longest run.unit) in
      let later : List Instance = instances_below (expanded units longest) (n + length inner) rest in (
        any_first (λ instance. begins_at 0 run.place instance.origin) inner later
            (opens longest n run all.0),
        all_more (λ other. SomeBegins later 0 other.place) (λ other. SomeBegins (inner ++ later) 0 other.place)
            (λ other h. any_second (λ instance. begins_at 0 other.place instance.origin) inner later h) rest
            (root_begins longest (n + length inner) rest all.1),
      )
    where
      by_unit : (longest n : ℕ) (run : Run) (callee : UnitDef) (found : Option UnitDef) → found ≡ Some callee →
          SomeBegins (map (called_from n run) (opened units longest run.unit found)) 0 run.place
      by_unit longest n run callee None is = absurd cc
      by_unit longest n run callee (Some unit) is = rw (same_place_refl run.place) refl

      opens : (longest n : ℕ) (run : Run) → Found units longest run → SomeBegins (map (called_from n run) (expanded units longest run.unit)) 0 run.place
      opens zero n run found = let none = found.2 in absurd (omega arith)
      opens (suc longest) n run found = by_unit longest n run found.0 (slice_get units run.unit) found.1

  -- the instances of a `run`, and those of what follows it
  abbrev of_it : ℕ → ℕ → Run → List Instance
  of_it longest n run = map (called_from n run) (expanded units longest run.unit)

  abbrev after_it : ℕ → ℕ → Run → List Run → List Instance
  after_it longest n run rest = instances_below (expanded units longest) (n + length (of_it longest n run)) rest

  below_begin : (longest n : ℕ) (runs : List Run) → ((j : ℕ) → Of longest j) → AllOf (Found units longest) runs →
      (m : ℕ) (x : Instance) (unit : UnitDef) →
      slice_get (instances_below (expanded units longest) n runs) m ≡ Some x → slice_get units x.unit ≡ Some unit →
      AllOf (λ run. SomeBegins (instances_below (expanded units longest) n runs) (n + m) run.place) (runs_of unit)
  below_begin longest n [] inner all m x unit there of = absurd cc
  below_begin longest n (run ∷ rest) inner all m x unit there of =
      by_split (λ m there. below_begin longest (n + length (of_it longest n run)) rest inner all.1 m x unit there of) (get_split _ _ m x there)
    where
      by_split : ((m : ℕ) → slice_get (after_it longest n run rest) m ≡ Some x → AllOf
          (λ other. SomeBegins (after_it longest n run rest) (n + length (of_it longest n run) + m) other.place) (runs_of unit)) →
          (slice_get (of_it longest n run) m ≡ Some x) ⊎ Split (of_it longest n run) (after_it longest n run rest) m x → AllOf
          (λ other. SomeBegins ((of_it longest n run) ++ (after_it longest n run rest)) (n + m) other.place) (runs_of unit)
      by_split more (inl here) =
          let caller = get_of_map (called_from n run) (expanded units longest run.unit) m x here in
          let same : caller.0.unit ≡ x.unit = ap (λ x. x.unit) caller.2 in
          all_more (λ other. SomeBegins (expanded units longest run.unit) m other.place)
          (λ other. SomeBegins ((of_it longest n run) ++ (after_it longest n run rest)) (n + m) other.place)
          (λ other h. any_first (λ instance. begins_at (n + m) other.place instance.origin) (of_it longest n run) (after_it longest n run rest)
          (begun_inside n m other.place run (expanded units longest run.unit) h)) (runs_of unit)
          (inner run.unit all.0.2 m caller.0 unit caller.1 (subst (λ k. slice_get units k ≡ Some unit) (sym same) of))
      by_split more (inr split) =
          let is = split.is in
          let index : n + length (of_it longest n run) + split.after ≡ n + m = omega arith in
          all_more (λ other. SomeBegins (after_it longest n run rest) (n + length (of_it longest n run) + split.after) other.place)
          (λ other. SomeBegins ((of_it longest n run) ++ (after_it longest n run rest)) (n + m) other.place)
          (λ other h. any_second (λ instance. begins_at (n + m) other.place instance.origin) (of_it longest n run) (after_it longest n run rest)
          (subst (λ k. SomeBegins (after_it longest n run rest) k other.place) index h)) (runs_of unit) (more split.after split.there)

  module _ (longest : ℕ) (inner : (j : ℕ) → Of longest j) where
    found_below : (k : ℕ) → k < suc longest → (body : UnitDef) → slice_get units k ≡ Some body → AllOf (Found units longest) (runs_of body)
    found_below k less body is = all_more (Found units k) (Found units longest)
        (λ run h. let before = h.2 in (h.0, h.1, omega arith)) (runs_of body) (earlier k body is)

    by_found : (k : ℕ) → k < suc longest → (found : Option UnitDef) → slice_get units k ≡ found → AllBegin units (opened units longest k found)
    by_found k less None is i x unit there of = absurd cc
    by_found k less (Some body) is zero x unit there of =
        let same : first_of k ≡ x = cc in
        let both : Some body ≡ Some unit = sym is ∙ (ap (λ x. slice_get units x.unit) same ∙ of) in
        let one : body ≡ unit = cc in
        let below : List Instance = instances_below (expanded units longest) 1 (runs_of body) in
        subst (λ unit. AllOf (λ run. SomeBegins (first_of k ∷ below) 0 run.place) (runs_of unit)) one
        (root_begins longest 1 (runs_of body) (found_below k less body is))
    by_found k less (Some body) is (suc i) x unit there of =
        let one_more : 1 + i ≡ suc i = omega arith in
        subst (λ m. AllOf (λ run. SomeBegins (instances_below (expanded units longest) 1 (runs_of body)) m run.place) (runs_of unit)) one_more
        (below_begin longest 1 (runs_of body) inner (found_below k less body is) i x unit there of)

  pub expanded_begin : (longest k : ℕ) → k < longest → AllBegin units (expanded units longest k)
  expanded_begin zero k less = absurd (omega arith)
  expanded_begin (suc longest) k less = by_found longest (λ j. expanded_begin longest j) k less (slice_get units k) refl

-- what holds of the first of each place holds of all, where it is of places
pub all_places : (P : Place → Type 0) (runs : List Run) → AllOf (λ run. P run.place) (one_a_place runs) → AllOf (λ run. P run.place) runs
all_places P [] all = tt
all_places P (run ∷ rest) all = (all.0, all_places P rest (unfiltered (one_a_place rest) all.1))
  where
    unfiltered : (xs : List Run) → AllOf (λ run. P run.place) (filter (λ other. not (same_place run.place other.place)) xs) →
        AllOf (λ run. P run.place) xs
    unfiltered [] all' = tt
    unfiltered (x ∷ xs) all' = by_test (same_place run.place x.place) refl all' (unfiltered xs)
      where
        by_test : (b : Bool) → same_place run.place x.place ≡ b →
            AllOf (λ run. P run.place) (cond (not b) (x ∷ filter (λ other. not (same_place run.place other.place)) xs)
            (filter (λ other. not (same_place run.place other.place)) xs)) →
            (AllOf (λ run. P run.place) (filter (λ other. not (same_place run.place other.place)) xs) → AllOf (λ run. P run.place) xs) →
            AllOf (λ run. P run.place) (x ∷ xs)
        by_test true is kept more = (subst P (same_true run.place x.place is) all.0, more kept)
        by_test false is kept more = (kept.0, more kept.1)
