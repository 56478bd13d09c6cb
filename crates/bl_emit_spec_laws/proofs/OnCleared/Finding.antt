-- No two instances of a program have and_parts one caller and one place.
use Rattle.std.proofs.Common.{◌≡◌, ◌⊎◌, inl, inr, ℕ, zero, suc, ◌+◌, ◌<◌, ◌≤◌, Bool, true, false, ◌||◌, ◌&&◌, not, cond, List, [], ◌∷◌, ◌++◌, map, length}
use Rattle.std.proofs.Common.{Option, Some, None, refl, sym, ap, ◌∙◌, subst, arith, eqb-true, eq-eqb}
use Rattle.std.proofs.lemmas.List.{length-append, length-map}
use Rattle.std.specs.List.{list_any}
use Rattle.std.specs.Prelude.{filter, nat_eq, option_map, slice_get, unwrap_or, ⊤}
use Rattle.std.proofs.lemmas.Bool.{and_parts, or_left, or_right}
use Rattle.bl_tree.proofs.Basics.{either_of, get_of_map}
use Rattle.bl_tree.specs.declared.place.Place.{Place}
use Rattle.bl_tree.specs.declared.tree.Unit.{Unit as UnitDef}
use Rattle.bl_tree.specs.Reduce.{joined}
use Rattle.bl_tree.specs.Rules.{same_place}
use Rattle.bl_ctree.specs.declared.instance.Instance.{Instance}
use Rattle.bl_ctree.specs.declared.instance.Origin.{Origin}
use Rattle.bl_ctree.specs.declared.instance.Run.{Run}
use Rattle.bl_ctree.specs.Instances.{begins_at, called_from, expanded, instances_below, one_a_place, origin_under, runs_in, runs_of}
use Rattle.bl_tree.proofs.FirstLemmas.{same_true}
use Rattle.bl_ctree_laws_confluence.proofs.OnDeeds.Origins.{get_split, first_of}

-- ---- places of `run` statements

-- one of them stands at the place
abbrev AnyAt : List Run → Place → Type 0
AnyAt runs place = list_any (λ (run : Run). same_place run.place place) runs ≡ true

-- no two stand at one place
abbrev Differ : List Run → Type 0
Differ [] = ⊤
Differ (run ∷ rest) = ((place : Place) → same_place run.place place ≡ true → AnyAt rest place → ⊥) × Differ rest

module _ (p : Run → Bool) where
  filtered_at : (runs : List Run) (place : Place) → AnyAt (filter p runs) place → AnyAt runs place
  filtered_at [] place e = e
  filtered_at (run ∷ rest) place e = by_test (p run) e (filtered_at rest place)
    where
      by_test : (b : Bool) → AnyAt (cond b (run ∷ filter p rest) (filter p rest)) place → (AnyAt (filter p rest) place → AnyAt rest place) →
          AnyAt (run ∷ rest) place
      by_test true e more = elim (either_of (same_place run.place place) (list_any (λ (run : Run). same_place run.place place) (filter p rest)) e) [
        | inl here ↦ or_left (same_place run.place place) (list_any (λ (run : Run). same_place run.place place) rest) here
        | inr later ↦ or_right (same_place run.place place) (list_any (λ (run : Run). same_place run.place place) rest) (more later)
      ]
      by_test false e more = or_right (same_place run.place place) (list_any (λ (run : Run). same_place run.place place) rest) (more e)

  filtered_differ : (runs : List Run) → Differ runs → Differ (filter p runs)
  filtered_differ [] differ = tt
  filtered_differ (run ∷ rest) differ = by_test (p run) (filtered_differ rest differ.1)
    where
      by_test : (b : Bool) → Differ (filter p rest) → Differ (cond b (run ∷ filter p rest) (filter p rest))
      by_test true more = (λ place here later. differ.0 place here (filtered_at rest place later), more)
      by_test false more = more

pub clash : (b : Bool) → b ≡ true → not b ≡ true → ⊥
clash true e f = absurd cc
clash false e f = absurd cc

-- whether a `run` stands at another place than this one
abbrev is_elsewhere : Run → Run → Bool
is_elsewhere run other = not (same_place run.place other.place)

-- none that is left stands at the place of the first
none_left : (run : Run) (runs : List Run) (place : Place) → same_place run.place place ≡ true →
    AnyAt (filter (is_elsewhere run) runs) place → ⊥
none_left run [] place here e = absurd cc
none_left run (x ∷ rest) place here e = by_test (not (same_place run.place x.place)) refl e (none_left run rest place here)
  where
    by_test : (b : Bool) → not (same_place run.place x.place) ≡ b →
        AnyAt (cond b (x ∷ filter (is_elsewhere run) rest) (filter (is_elsewhere run) rest)) place →
        (AnyAt (filter (is_elsewhere run) rest) place → ⊥) → ⊥
    by_test true is e more =
        elim (either_of (same_place x.place place) (list_any (λ (other : Run). same_place other.place place) (filter (is_elsewhere run) rest)) e) [
          | inl at ↦ clash (same_place run.place x.place) (ap (same_place run.place) (same_true x.place place at) ∙ here) is
          | inr later ↦ more later
        ]
    by_test false is e more = more e

one_a_place_differ : (runs : List Run) → Differ (one_a_place runs)
one_a_place_differ [] = tt
one_a_place_differ (run ∷ rest) = (
  λ place here later. none_left run (one_a_place rest) place here later,
  filtered_differ (is_elsewhere run) (one_a_place rest) (one_a_place_differ rest),
)

-- ---- instances

-- the first alone has no caller, callers are of the list, and no two have and_parts one caller and one place
pub record Told (xs : List Instance) : Type 0 where
  pub first : (a : ℕ) (x : Instance) → slice_get xs a ≡ Some x → x.origin ≡ None → a ≡ 0
  pub within : (a : ℕ) (x : Instance) (j : ℕ) (place : Place) → slice_get xs a ≡ Some x → begins_at j place x.origin ≡ true →
      j < length xs
  pub one : (a b : ℕ) (x y : Instance) (j : ℕ) (place : Place) → slice_get xs a ≡ Some x → slice_get xs b ≡ Some y →
      begins_at j place x.origin ≡ true → begins_at j place y.origin ≡ true → a ≡ b

-- where one below is begun: by the instance itself, or by one of those before
data From (xs : List Instance) (run : Run) (n a j : ℕ) (place : Place) : Type 0 where
  by_root : a ≡ 0 → j ≡ 0 → same_place run.place place ≡ true → From xs run n a j place
  by_inner : (c : ℕ) (x : Instance) → j ≡ n + c → c < length xs → slice_get xs a ≡ Some x → begins_at c place x.origin ≡ true →
      From xs run n a j place

module _ (alone : ℕ → List Instance) (told : (u : ℕ) → Told (alone u)) where
  abbrev chunk : ℕ → Run → List Instance
  chunk n run = map (called_from n run) (alone run.unit)

  abbrev after : ℕ → Run → List Run → List Instance
  after n run rest = instances_below alone (n + length (chunk n run)) rest

  from_chunk : (n : ℕ) (run : Run) (a : ℕ) (y : Instance) (j : ℕ) (place : Place) → slice_get (chunk n run) a ≡ Some y →
      begins_at j place y.origin ≡ true → From (alone run.unit) run n a j place
  from_chunk n run a y j place there e =
      let got = get_of_map (called_from n run) (alone run.unit) a y there in
      by_origin got.0 got.1 got.0.origin refl
      (subst (λ (z : Instance). begins_at j place z.origin ≡ true) (sym got.2) e)
    where
      by_origin : (x : Instance) → slice_get (alone run.unit) a ≡ Some x → (o : Option Origin) → x.origin ≡ o →
          begins_at j place (origin_under n run o) ≡ true → From (alone run.unit) run n a j place
      by_origin x at None is e =
          let parts = and_parts (nat_eq 0 j) (same_place run.place place) e in
          by_root ((told run.unit).first a x at is) (sym (eqb-true 0 j parts.0)) parts.1
      by_origin x at (Some o) is e =
          let parts = and_parts (nat_eq (n + o.caller) j) (same_place o.place place) e in
          let begun : begins_at o.caller place x.origin ≡ true =
          ap (begins_at o.caller place) is ∙ (ap (λ b. b && same_place o.place place) (eq-eqb o.caller o.caller refl) ∙ parts.1) in
          by_inner o.caller x (sym (eqb-true (n + o.caller) j parts.0)) ((told run.unit).within a x o.caller place at begun) at begun

  chunk_long : (n : ℕ) (run : Run) → length (chunk n run) ≡ length (alone run.unit)
  chunk_long n run = length-map (alone run.unit) (called_from n run)

  abbrev Where : ℕ → List Run → ℕ → Place → Type 0
  Where n runs j place = ((j ≡ 0) × AnyAt runs place) ⊎ ((n ≤ j) × (j < n + length (instances_below alone n runs)))

  -- what is begun below is begun by the instance itself at the place of one of its `run` statements, or by one below
  where_begun : (n : ℕ) (runs : List Run) (m : ℕ) (y : Instance) (j : ℕ) (place : Place) →
      slice_get (instances_below alone n runs) m ≡ Some y →
      begins_at j place y.origin ≡ true → Where n runs j place
  where_begun n [] m y j place there e = absurd cc
  where_begun n (run ∷ rest) m y j place there e =
      by_split (get_split (chunk n run) (after n run rest) m y there) (λ k at. where_begun (n + length (chunk n run)) rest k y j place at e)
    where
      total : length (chunk n run ++ after n run rest) ≡ length (chunk n run) + length (after n run rest)
      total = length-append (chunk n run) (after n run rest)

      by_from : From (alone run.unit) run n m j place → Where n (run ∷ rest) j place
      by_from (by_root first nil at) =
          inl (nil, or_left (same_place run.place place) (list_any (λ (run : Run). same_place run.place place) rest) at)
      by_from (by_inner c x is less at begun) =
          let long = chunk_long n run in
          let all = total in
          let before : j < n + length (chunk n run ++ after n run rest) = omega arith in inr (omega arith, before)

      by_later : Where (n + length (chunk n run)) rest j place → Where n (run ∷ rest) j place
      by_later (inl own) = inl (own.0, or_right (same_place run.place place) (list_any (λ (run : Run). same_place run.place place) rest) own.1)
      by_later (inr below) =
          let least = below.0 in
          let less : j < n + length (chunk n run) + length (after n run rest) = below.1 in
          let all = total in
          let before : j < n + length (chunk n run ++ after n run rest) = omega arith in inr (omega arith, before)

      by_split : (slice_get (chunk n run) m ≡ Some y)
          ⊎ ((k : ℕ) × (m ≡ length (chunk n run) + k) × (slice_get (after n run rest) k ≡ Some y)) →
          ((k : ℕ) → slice_get (after n run rest) k ≡ Some y → Where (n + length (chunk n run)) rest j place) →
          Where n (run ∷ rest) j place
      by_split (inl here) more = by_from (from_chunk n run m y j place here e)
      by_split (inr later) more = by_later (more later.0 later.2)

  begun_within : (runs : List Run) (m : ℕ) (y : Instance) (j : ℕ) (place : Place) → slice_get (instances_below alone 1 runs) m ≡ Some y →
      begins_at j place y.origin ≡ true → j < suc (length (instances_below alone 1 runs))
  begun_within runs m y j place there e = by_where (where_begun 1 runs m y j place there e)
    where
      by_where : Where 1 runs j place → j < suc (length (instances_below alone 1 runs))
      by_where (inl own) = let nil = own.0 in omega arith
      by_where (inr below) = let less = below.1 in omega arith

  -- two in what one `run` begins
  in_one : (n : ℕ) (run : Run) (a b j : ℕ) (place : Place) → 0 < n → From (alone run.unit) run n a j place →
      From (alone run.unit) run n b j place →
      a ≡ b
  in_one n run a b j place some (by_root first nil at) (by_root first' nil' at') = first ∙ sym first'
  in_one n run a b j place some (by_root first nil at) (by_inner c x is less there begun) = absurd (omega arith)
  in_one n run a b j place some (by_inner c x is less there begun) (by_root first nil at) = absurd (omega arith)
  in_one n run a b j place some (by_inner c x is less there begun) (by_inner c' x' is' less' there' begun') =
      let same : c' ≡ c = omega arith in
      (told run.unit).one a b x x' c place there there' begun (subst (λ c. begins_at c place x'.origin ≡ true) same begun')

  -- one in what a `run` begins and one in what a later one does
  in_two : (n : ℕ) (run : Run) (rest : List Run) (a j : ℕ) (place : Place) → 0 < n → Differ (run ∷ rest) →
      From (alone run.unit) run n a j place →
      Where (n + length (chunk n run)) rest j place → ⊥
  in_two n run rest a j place some differ (by_root first nil at) (inl own) = differ.0 place at own.1
  in_two n run rest a j place some differ (by_root first nil at) (inr below) = let least = below.0 in omega arith
  in_two n run rest a j place some differ (by_inner c x is less there begun) (inl own) = let nil = own.0 in omega arith
  in_two n run rest a j place some differ (by_inner c x is less there begun) (inr below) =
      let least = below.0 in let long = chunk_long n run in omega arith

  abbrev Alike : List Instance → Type 0
  Alike xs = (a b : ℕ) (x y : Instance) (j : ℕ) (place : Place) → slice_get xs a ≡ Some x → slice_get xs b ≡ Some y →
      begins_at j place x.origin ≡ true → begins_at j place y.origin ≡ true → a ≡ b

  abbrev Piece : ℕ → Run → List Run → ℕ → Instance → Type 0
  Piece n run rest a x = (slice_get (chunk n run) a ≡ Some x)
      ⊎ ((k : ℕ) × (a ≡ length (chunk n run) + k) × (slice_get (after n run rest) k ≡ Some x))

  below_one : (n : ℕ) (runs : List Run) → 0 < n → Differ runs → Alike (instances_below alone n runs)
  below_one n [] some differ a b x y j place there there' e e' = absurd cc
  below_one n (run ∷ rest) some differ a b x y j place there there' e e' =
      by_splits (below_one (n + length (chunk n run)) rest (omega arith) differ.1)
      (get_split (chunk n run) (after n run rest) a x there) (get_split (chunk n run) (after n run rest) b y there')
    where
      by_splits : Alike (after n run rest) → Piece n run rest a x → Piece n run rest b y → a ≡ b
      by_splits more (inl here) (inl here') =
          in_one n run a b j place some (from_chunk n run a x j place here e) (from_chunk n run b y j place here' e')
      by_splits more (inl here) (inr later) =
          absurd (in_two n run rest a j place some differ (from_chunk n run a x j place here e)
          (where_begun (n + length (chunk n run)) rest later.0 y j place later.2 e'))
      by_splits more (inr later) (inl here) =
          absurd (in_two n run rest b j place some differ (from_chunk n run b y j place here e')
          (where_begun (n + length (chunk n run)) rest later.0 x j place later.2 e))
      by_splits more (inr later) (inr later') =
          let same = more later.0 later'.0 x y j place later.2 later'.2 e e' in
          let is = later.1 in let is' = later'.1 in omega arith

  -- each below has a caller
  below_begun : (n : ℕ) (runs : List Run) (m : ℕ) (y : Instance) → slice_get (instances_below alone n runs) m ≡ Some y →
      y.origin ≡ None → ⊥
  below_begun n [] m y there e = absurd cc
  below_begun n (run ∷ rest) m y there e =
      by_split (λ k at. below_begun (n + length (chunk n run)) rest k y at e) (get_split (chunk n run) (after n run rest) m y there)
    where
      by_origin : (o : Option Origin) → origin_under n run o ≡ None → ⊥
      by_origin None e = absurd cc
      by_origin (Some o) e = absurd cc

      by_split : ((k : ℕ) → slice_get (after n run rest) k ≡ Some y → ⊥) → Piece n run rest m y → ⊥
      by_split more (inl here) =
          let got = get_of_map (called_from n run) (alone run.unit) m y here in
          by_origin got.0.origin (ap (λ (z : Instance). z.origin) got.2 ∙ e)
      by_split more (inr later) = more later.0 later.2

no_instance : Told []
no_instance = record {
  first = λ a x there e. absurd cc;
  within = λ a x j place there e. absurd cc;
  one = λ a b x y j place there there' e e'. absurd cc;
}

-- the root has no caller
root_begun : {A : Type 0} (k j : ℕ) (place : Place) (x : Instance) → Some (first_of k) ≡ Some x → begins_at j place x.origin ≡ true → A
root_begun k j place x is e =
    let same : first_of k ≡ x = cc in
    let no_one : false ≡ true = ap (λ (z : Instance). begins_at j place z.origin) same ∙ e in absurd cc

module _ (alone : ℕ → List Instance) (told : (u : ℕ) → Told (alone u)) (k : ℕ) (runs : List Run) (differ : Differ runs) where
  abbrev All : List Instance
  All = first_of k ∷ instances_below alone 1 runs

  opened_first : (a : ℕ) (x : Instance) → slice_get All a ≡ Some x → x.origin ≡ None → a ≡ 0
  opened_first zero x there e = refl
  opened_first (suc a) x there e = absurd (below_begun alone told 1 runs a x there e)

  opened_within : (a : ℕ) (x : Instance) (j : ℕ) (place : Place) → slice_get All a ≡ Some x → begins_at j place x.origin ≡ true →
      j < length All
  opened_within zero x j place there e = root_begun k j place x there e
  opened_within (suc a) x j place there e = begun_within alone told runs a x j place there e

  opened_one : (a b : ℕ) (x y : Instance) (j : ℕ) (place : Place) → slice_get All a ≡ Some x → slice_get All b ≡ Some y →
      begins_at j place x.origin ≡ true → begins_at j place y.origin ≡ true → a ≡ b
  opened_one zero b x y j place there there' e e' = root_begun k j place x there e
  opened_one (suc a) zero x y j place there there' e e' = root_begun k j place y there' e'
  opened_one (suc a) (suc b) x y j place there there' e e' =
      ap suc (below_one alone told 1 runs (omega arith) differ a b x y j place there there' e e')

  opened_told : Told All
  opened_told = record { first = opened_first; within = opened_within; one = opened_one }

pub expanded_told : (units : List UnitDef) (longest k : ℕ) → Told (expanded units longest k)
expanded_told units zero k = no_instance
expanded_told units (suc longest) k = by_unit (λ u. expanded_told units longest u) (slice_get units k)
  where
    by_unit : ((u : ℕ) → Told (expanded units longest u)) → (found : Option UnitDef) →
        Told (unwrap_or (option_map (λ unit. first_of k ∷ instances_below (expanded units longest) 1 (runs_of unit)) found) [])
    by_unit inner None = no_instance
    by_unit inner (Some unit) =
        opened_told (expanded units longest) inner k (runs_of unit)
        (one_a_place_differ (joined (map runs_in unit.body)))
