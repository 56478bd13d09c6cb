-- The first of several failures is one of them, and comes no later than each; so it is the first rule that fails.
use Rattle.std.proofs.Common.{◌≡◌, ℕ, ◌<◌, zero, suc, true, false, ◌&&◌, ◌||◌, cond, List, [], ◌∷◌, ◌⊎◌, inl, inr, ⊎_elim, Option, Some, None, refl, sym}
use Rattle.std.proofs.Common.{ap, ◌∙◌, subst, arith}
use Rattle.std.specs.Prelude.{Contains, nat_eq, nat_lt, slice_get}
use Rattle.std.proofs.lemmas.Bool.Decides.{nat_tests}
use Rattle.std.proofs.lemmas.Bool.{and_parts}
use Rattle.bl_tree.proofs.Basics.{same_some}
use Rattle.bl_tree.specs.declared.place.Place.{Place}
use Rattle.bl_tree.specs.declared.rule.Failure.{Failure}
use Rattle.bl_tree.specs.declared.rule.Refusal.{Refusal}
use Rattle.bl_tree.specs.declared.rule.Refusal.TheVariants as refusal
use Rattle.bl_tree.specs.declared.rule.Rule.{Rule}
use Rattle.bl_tree.specs.declared.rule.Rule.TheVariants as rule
use Rattle.bl_tree.specs.Rules.{AreNoLater, FailsAmong, FailsFirst, IsBefore, IsCause, Passes, Refuses, come_before, comes_before, compared, first_of}
use Rattle.bl_tree.specs.Rules.{further_places, is_before, number_of, places_of, same_place, tells_walk}

-- ---- rules by number

-- the rules at their numbers; none has 0
abbrev rules : List Rule
rules =
    rule.Size ∷
    rule.Size ∷ rule.Lex ∷ rule.Profile ∷ rule.Depth ∷ rule.Syntax ∷ rule.Duplicate ∷ rule.Unknown ∷
    rule.Kind ∷ rule.Type ∷ rule.Literal ∷ rule.Immutable ∷ rule.Constant ∷ rule.Arity ∷ rule.Prev ∷
    rule.Return ∷ rule.Where ∷ rule.Entry ∷ rule.Pause ∷ rule.Conflict ∷ rule.Alias ∷ rule.Instant ∷
    rule.Twice ∷ rule.Cycle ∷ rule.Frames ∷ rule.Cells ∷ []

abbrev rule_at : ℕ → Option Rule
rule_at n = slice_get rules n

rule_back : (r : Rule) → rule_at (number_of r) ≡ Some r
rule_back rule.Size = refl
rule_back rule.Lex = refl
rule_back rule.Profile = refl
rule_back rule.Depth = refl
rule_back rule.Syntax = refl
rule_back rule.Duplicate = refl
rule_back rule.Unknown = refl
rule_back rule.Kind = refl
rule_back rule.Type = refl
rule_back rule.Literal = refl
rule_back rule.Immutable = refl
rule_back rule.Constant = refl
rule_back rule.Arity = refl
rule_back rule.Prev = refl
rule_back rule.Return = refl
rule_back rule.Where = refl
rule_back rule.Entry = refl
rule_back rule.Pause = refl
rule_back rule.Conflict = refl
rule_back rule.Alias = refl
rule_back rule.Instant = refl
rule_back rule.Twice = refl
rule_back rule.Cycle = refl
rule_back rule.Frames = refl
rule_back rule.Cells = refl

-- rules of one number are one
pub same_rule : (r s : Rule) → number_of r ≡ number_of s → r ≡ s
same_rule r s is = same_some r s (sym (rule_back r) ∙ ap rule_at is ∙ rule_back s)

-- ---- places

pub same_true : (a b : Place) → same_place a b ≡ true → a ≡ b
same_true a b is =
    let both = and_parts (nat_eq a.start b.start) (nat_eq a.end b.end) is in
    let e1 = both.0 in let e2 = both.1 in
    let start : a.start ≡ b.start = grind (arith, nat_tests) in
    let end : a.end ≡ b.end = grind (arith, nat_tests) in
    λ i. record { start = start i; end = end i }

pub before_true : (a b : Place) → is_before a b ≡ true → IsBefore a b
before_true a b is =
    elim (nat_lt a.start b.start) as
    (λ less. nat_lt a.start b.start ≡ less → (less || (nat_eq a.start b.start && nat_lt a.end b.end)) ≡ true → IsBefore a b) [
      | true ↦ λ less h. inl (grind (arith, nat_tests))
      | false ↦ λ less h.
          let both = and_parts (nat_eq a.start b.start) (nat_lt a.end b.end) h in
          let e1 = both.0 in let e2 = both.1 in inr (grind (arith, nat_tests), grind (arith, nat_tests))
    ] refl is

before_false : (a b : Place) → same_place a b ≡ false → is_before a b ≡ false → IsBefore b a
before_false a b apart is =
    elim (nat_lt b.start a.start) as (λ less. nat_lt b.start a.start ≡ less → IsBefore b a) [
      | true ↦ λ less. inl (grind (arith, nat_tests))
      | false ↦ λ less.
          let start : b.start ≡ a.start = grind (arith, nat_tests) in
          let end : b.end < a.end = grind (arith, nat_tests) in inr (start, end)
    ] refl

pub before_trans : (a b c : Place) → IsBefore a b → IsBefore b c → IsBefore a c
before_trans a b c one two =
    ⊎_elim
    (λ (p : a.start < b.start).
    ⊎_elim (λ (q : b.start < c.start). inl (omega arith)) (λ (q : (b.start ≡ c.start) × (b.end < c.end)). let e = q.0 in inl (omega arith)) two)
    (λ (p : (a.start ≡ b.start) × (a.end < b.end)). let e = p.0 in let l = p.1 in
    ⊎_elim (λ (q : b.start < c.start). inl (omega arith))
    (λ (q : (b.start ≡ c.start) × (b.end < c.end)). let f = q.0 in let m = q.1 in inr (omega arith, omega arith)) two) one

before_not : (a b : Place) → IsBefore a b → IsBefore b a → ⊥
before_not a b one two =
    ⊎_elim
    (λ (p : a.start < b.start). ⊎_elim (λ (q : b.start < a.start). omega arith)
    (λ (q : (b.start ≡ a.start) × (b.end < a.end)). let e = q.0 in omega arith) two)
    (λ (p : (a.start ≡ b.start) × (a.end < b.end)). let e = p.0 in let l = p.1 in
    ⊎_elim (λ (q : b.start < a.start). omega arith) (λ (q : (b.start ≡ a.start) × (b.end < a.end)). let m = q.1 in omega arith) two) one

before_self : (a : Place) → IsBefore a a → ⊥
before_self a is = before_not a a is is

pub no_later_same : (xs : List Place) → AreNoLater xs xs
no_later_same [] = tt
no_later_same (x ∷ xs) = inr (refl, no_later_same xs)

no_later_then : (xs ys zs : List Place) → AreNoLater xs ys → AreNoLater ys zs → AreNoLater xs zs
no_later_then [] ys zs one two = tt
no_later_then (x ∷ xs) [] zs one two = absurd one
no_later_then (x ∷ xs) (y ∷ ys) [] one two = absurd two
no_later_then (x ∷ xs) (y ∷ ys) (z ∷ zs) one two =
    ⊎_elim
    (λ (p : IsBefore x y).
    ⊎_elim (λ (q : IsBefore y z). inl (before_trans x y z p q)) (λ (q : (y ≡ z) × AreNoLater ys zs). inl (subst (IsBefore x) q.0 p)) two)
    (λ (p : (x ≡ y) × AreNoLater xs ys).
    ⊎_elim (λ (q : IsBefore y z). inl (subst (λ a. IsBefore a z) (sym p.0) q))
    (λ (q : (y ≡ z) × AreNoLater ys zs). inr (p.0 ∙ q.0, no_later_then xs ys zs p.1 q.1)) two) one

-- places that come no later than each other are the same
pub no_later_both : (xs ys : List Place) → AreNoLater xs ys → AreNoLater ys xs → xs ≡ ys
no_later_both [] [] one two = refl
no_later_both [] (y ∷ ys) one two = absurd two
no_later_both (x ∷ xs) [] one two = absurd one
no_later_both (x ∷ xs) (y ∷ ys) one two =
    ⊎_elim
    (λ (p : IsBefore x y).
    ⊎_elim (λ (q : IsBefore y x). absurd (before_not x y p q))
    (λ (q : (y ≡ x) × AreNoLater ys xs). absurd (before_self x (subst (IsBefore x) q.0 p))) two)
    (λ (p : (x ≡ y) × AreNoLater xs ys).
    ⊎_elim (λ (q : IsBefore y x). absurd (before_self y (subst (IsBefore y) p.0 q)))
    (λ (q : (y ≡ x) × AreNoLater ys xs). let rest = no_later_both xs ys p.1 q.1 in λ i. p.0 i ∷ rest i) two) one

come_before_is : (xs ys : List Place) → come_before xs ys ≡ true → AreNoLater xs ys
come_before_is [] ys is = tt
come_before_is (x ∷ xs) [] is = absurd (cc)
come_before_is (x ∷ xs) (y ∷ ys) is =
    elim (same_place x y) as
    (λ test. same_place x y ≡ test → cond test (come_before xs ys) (is_before x y) ≡ true → AreNoLater (x ∷ xs) (y ∷ ys)) [
      | false ↦ λ apart h. inl (before_true x y h)
      | true ↦ λ same h. inr (same_true x y same, come_before_is xs ys h)
    ] refl is

come_before_not : (xs ys : List Place) → come_before xs ys ≡ false → AreNoLater ys xs
come_before_not xs [] is = tt
come_before_not [] (y ∷ ys) is = absurd (cc)
come_before_not (x ∷ xs) (y ∷ ys) is =
    elim (same_place x y) as
    (λ test. same_place x y ≡ test → cond test (come_before xs ys) (is_before x y) ≡ false → AreNoLater (y ∷ ys) (x ∷ xs)) [
      | false ↦ λ apart h. inl (before_false x y apart h)
      | true ↦ λ same h. inr (sym (same_true x y same), come_before_not xs ys h)
    ] refl is

-- ---- failures

-- the failure is of a lesser rule, or of the same one at places that come no later
abbrev pub NoLater : Failure → Failure → Type 0
NoLater f g = (number_of f.rule < number_of g.rule) ⊎ ((f.rule ≡ g.rule) × AreNoLater (places_of f) (places_of g))

earlier_is : (f g : Failure) → comes_before f g ≡ true → NoLater f g
earlier_is f g is =
    let m = number_of f.rule in let n = number_of g.rule in
    elim (nat_eq m n) as (λ test. nat_eq m n ≡ test → cond test (come_before (places_of f) (places_of g)) (nat_lt m n) ≡ true → NoLater f g) [
      | false ↦ λ apart h. inl (grind (arith, nat_tests))
      | true ↦ λ same h. inr (same_rule f.rule g.rule (grind (arith, nat_tests)), come_before_is (places_of f) (places_of g) h)
    ] refl is

else_no_later : (f g : Failure) → comes_before f g ≡ false → NoLater g f
else_no_later f g is =
    let m = number_of f.rule in let n = number_of g.rule in
    elim (nat_eq m n) as (λ test. nat_eq m n ≡ test → cond test (come_before (places_of f) (places_of g)) (nat_lt m n) ≡ false → NoLater g f) [
      | false ↦ λ apart h. inl (grind (arith, nat_tests))
      | true ↦ λ same h. inr (sym (same_rule f.rule g.rule (grind (arith, nat_tests))), come_before_not (places_of f) (places_of g) h)
    ] refl is

same_no_later : (f : Failure) → NoLater f f
same_no_later f = inr (refl, no_later_same (places_of f))

then_no_later : (f g h : Failure) → NoLater f g → NoLater g h → NoLater f h
then_no_later f g h one two =
    ⊎_elim
    (λ (p : number_of f.rule < number_of g.rule).
    ⊎_elim (λ (q : number_of g.rule < number_of h.rule). inl (omega arith))
    (λ (q : (g.rule ≡ h.rule) × AreNoLater (places_of g) (places_of h)). let e = ap number_of q.0 in inl (omega arith)) two)
    (λ (p : (f.rule ≡ g.rule) × AreNoLater (places_of f) (places_of g)).
    let d = ap number_of p.0 in
    ⊎_elim (λ (q : number_of g.rule < number_of h.rule). inl (omega arith))
    (λ (q : (g.rule ≡ h.rule) × AreNoLater (places_of g) (places_of h)).
    inr (p.0 ∙ q.0, no_later_then (places_of f) (places_of g) (places_of h) p.1 q.1)) two) one

-- ---- the first of several

abbrev pub In : {A : Type 0} → A → List A → Type 0
In x [] = ⊥
In x (y ∷ ys) = (x ≡ y) ⊎ In x ys

pub contains_in : {A : Type 0} (x : A) (xs : List A) → Contains xs x → In x xs
contains_in x [] h = absurd (let below = h.1 in omega arith)
contains_in x (y ∷ xs) (zero, below, is) = inl (sym is)
contains_in x (y ∷ xs) (suc k, below, is) = inr (contains_in x xs (k, omega arith, is))

pub in_contains : {A : Type 0} (x : A) (xs : List A) → In x xs → Contains xs x
in_contains x [] h = absurd h
in_contains x (y ∷ xs) h =
    ⊎_elim (λ is. (zero, omega arith, sym is))
    (λ later. let there = in_contains x xs later in let below = there.1 in (suc there.0, omega arith, there.2)) h

-- one of these, and no later than each
pub record IsFirst (xs : List Failure) (found : Failure) : Type 0 where
  pub is_there : In found xs
  pub earliest : (y : Failure) → In y xs → NoLater found y

record FromFirst (first : Failure) (xs : List Failure) (found : Failure) : Type 0 where
  pub which : (found ≡ first) ⊎ In found xs
  pub no_later : NoLater found first
  pub earliest : (y : Failure) → In y xs → NoLater found y

from_first : (first : Failure) (xs : List Failure) (found : Failure) → first_of (Some first) xs ≡ Some found → FromFirst first xs found
from_first first [] found is =
    let same : found ≡ first = cc in
    record { which = inl same; no_later = subst (λ x. NoLater x first) (sym same) (same_no_later first); earliest = λ y none. absurd none }
from_first first (x ∷ xs) found is =
    elim (comes_before x first) as (λ test. comes_before x first ≡ test → first_of (cond test (Some x) (Some first)) xs ≡ Some found →
    FromFirst first (x ∷ xs) found) [
      | true ↦ λ before h.
          let rest = from_first x xs found h in
          record {
            which = ⊎_elim (λ same. inr (inl same)) (λ later. inr (inr later)) rest.which;
            no_later = then_no_later found x first rest.no_later (earlier_is x first before);
            earliest = λ y there. ⊎_elim (λ same. subst (λ z. NoLater found z) (sym same) rest.no_later) (λ later. rest.earliest y later) there;
          }
      | false ↦ λ after h.
          let rest = from_first first xs found h in
          record {
            which = ⊎_elim (λ same. inl same) (λ later. inr (inr later)) rest.which;
            no_later = rest.no_later;
            earliest = λ y there.
                ⊎_elim (λ same. subst (λ z. NoLater found z) (sym same) (then_no_later found first x rest.no_later (else_no_later x first after)))
                (λ later. rest.earliest y later) there;
          }
    ] refl is

pub first_is : (xs : List Failure) (found : Failure) → first_of None xs ≡ Some found → IsFirst xs found
first_is [] found is = absurd (cc)
first_is (x ∷ xs) found is =
    let from = from_first x xs found is in
    record {
      is_there = ⊎_elim (λ same. inl same) (λ later. inr later) from.which;
      earliest = λ y there. ⊎_elim (λ same. subst (λ z. NoLater found z) (sym same) from.no_later) (λ later. from.earliest y later) there;
    }

some_stays : (first : Failure) (xs : List Failure) → first_of (Some first) xs ≡ None → ⊥
some_stays first [] is = cc
some_stays first (x ∷ xs) is =
    elim (comes_before x first) as (λ test. first_of (cond test (Some x) (Some first)) xs ≡ None → ⊥) [
      | true ↦ λ h. some_stays x xs h
      | false ↦ λ h. some_stays first xs h
    ] is

pub none_is : (xs : List Failure) → first_of None xs ≡ None → (x : Failure) → In x xs → ⊥
none_is [] is x there = there
none_is (y ∷ xs) is x there = some_stays y xs is

-- ---- the first rule that fails

-- what holds of all places holds of those that are compared
no_later_compared : (r : Rule) (p q : Place) (a b : List Place) → AreNoLater (p ∷ a) (q ∷ b) → AreNoLater (compared r p a) (compared r q b)
no_later_compared r p q a b h =
    elim (tells_walk r) as (λ walk. AreNoLater (cond walk (p ∷ []) (p ∷ a)) (cond walk (q ∷ []) (q ∷ b))) [
      | false ↦ h
      | true ↦ ⊎_elim (λ before. inl before) (λ same. inr (same.0, tt)) h
    ]

-- where no walk is told, all places are compared
pub all_compared : (r : Rule) (p : Place) (a : List Place) → tells_walk r ≡ false → compared r p a ≡ p ∷ a
all_compared r p a no_walk = ap (λ walk. cond walk (p ∷ []) (p ∷ a)) no_walk

-- where nothing comes first, no rule fails
pub none_passes : (failures : List Failure) → first_of None failures ≡ None → Passes (FailsAmong failures)
none_passes failures is rule at also fails = none_is failures is fails.failure (contains_in fails.failure failures fails.is_there)

-- what comes first is the first rule that fails
pub first_fails : (failures : List Failure) (first : Failure) → first_of None failures ≡ Some first
    → FailsFirst (FailsAmong failures) first.rule first.at (further_places first.further)
first_fails failures first is =
    let found = first_is failures first is in
    record {
      fails = record { failure = first; is_there = in_contains first failures found.is_there; of_rule = refl; at_place = refl; further = refl };
      least_rule = λ other elsewhere further fails.
          let e = ap number_of fails.of_rule in
          ⊎_elim (λ (p : number_of first.rule < number_of fails.failure.rule). omega arith)
          (λ (p : (first.rule ≡ fails.failure.rule) × AreNoLater (places_of first) (places_of fails.failure)). let d = ap number_of p.0 in omega arith)
          (found.earliest fails.failure (contains_in fails.failure failures fails.is_there));
      least_places = λ elsewhere further fails.
          let e = ap number_of fails.of_rule in
          no_later_compared first.rule first.at elsewhere (further_places first.further) further
          (subst (λ l. AreNoLater (places_of first) (elsewhere ∷ l)) (sym fails.further)
          (subst (λ p. AreNoLater (places_of first) (p ∷ further_places fails.failure.further)) (sym fails.at_place)
          (⊎_elim (λ (p : number_of first.rule < number_of fails.failure.rule). absurd (omega arith))
          (λ (p : (first.rule ≡ fails.failure.rule) × AreNoLater (places_of first) (places_of fails.failure)). p.1)
          (found.earliest fails.failure (contains_in fails.failure failures fails.is_there)))));
    }

-- what is refused by the first failure has its cause
pub is_cause : (Fails : Rule → Place → List Place → Type 0) (first : Failure) (told : Refusal)
    → FailsFirst Fails first.rule first.at (further_places first.further) → Refuses first told → IsCause Fails told
is_cause Fails first (refusal.Rule rule place also) fails h =
    subst (λ r. FailsFirst Fails r place also) (sym h.0)
    (subst (λ p. FailsFirst Fails first.rule p also) (sym h.1.0) (subst (λ l. FailsFirst Fails first.rule first.at l) (sym h.1.1) fails))
is_cause Fails first refusal.NoMemory fails h = tt

-- rules that fail alike fail first alike, and pass alike
module _ (F G : Rule → Place → List Place → Type 0)
    (to : (r : Rule) (p : Place) (a : List Place) → F r p a → G r p a) (from : (r : Rule) (p : Place) (a : List Place) → G r p a → F r p a) where
  pub alike_first : (r : Rule) (p : Place) (a : List Place) → FailsFirst F r p a → FailsFirst G r p a
  alike_first r p a first = record {
    fails = to r p a first.fails;
    least_rule = λ other elsewhere further fails. first.least_rule other elsewhere further (from other elsewhere further fails);
    least_places = λ elsewhere further fails. first.least_places elsewhere further (from r elsewhere further fails);
  }

  pub alike_passes : Passes F → Passes G
  alike_passes passes r p a fails = passes r p a (from r p a fails)

-- there is one first failure; where it tells a walk, of its places the first is determined
pub record Same (r s : Rule) (p q : Place) (a b : List Place) : Type 0 where
  pub rule : r ≡ s
  pub places : compared r p a ≡ compared r q b

pub first_is_one : (Fails : Rule → Place → List Place → Type 0) (r s : Rule) (p q : Place) (a b : List Place)
    → FailsFirst Fails r p a → FailsFirst Fails s q b → Same r s p q a b
first_is_one Fails r s p q a b one two =
    let le = one.least_rule s q b two.fails in
    let ge = two.least_rule r p a one.fails in
    let same : r ≡ s = same_rule r s (omega arith) in
    record {
      rule = same;
      places = no_later_both (compared r p a) (compared r q b)
          (one.least_places q b (subst (λ t. Fails t q b) (sym same) two.fails))
          (subst (λ t. AreNoLater (compared t q b) (compared t p a)) (sym same)
          (two.least_places p a (subst (λ t. Fails t p a) same one.fails)));
    }

-- and where it tells none, all places are
pub first_and_places_are_one : (Fails : Rule → Place → List Place → Type 0) (r s : Rule) (p q : Place) (a b : List Place)
    → tells_walk r ≡ false → FailsFirst Fails r p a → FailsFirst Fails s q b → (r ≡ s) × ((p ∷ a) ≡ (q ∷ b))
first_and_places_are_one Fails r s p q a b no_walk one two =
    let same = first_is_one Fails r s p q a b one two in
    (same.rule, sym (all_compared r p a no_walk) ∙ same.places ∙ all_compared r q b no_walk)
