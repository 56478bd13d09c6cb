-- The first place at which a closed walk begins with an edge of one kind.
--
-- The candidates are those edges of the kind at whose ends the numbers are the same. The numbers never fall along an edge, and
-- so along no walk; along a closed walk they are all the same. So every edge of the kind that begins a closed walk is a
-- candidate at first. The least candidate is taken out, and a walk back is looked for from its end, by a search that ends with
-- all that it leads to. Without a walk back it begins no closed walk, and those that are left still have all that do. With one,
-- the closed walk is shown by its edges, and no closed walk begins earlier: it would begin with a candidate, and this one is
-- the least. Nowhere is it used that nodes of one number lead to each other.
use Rattle.std.proofs.Common.{◌≡◌, ℕ, zero, suc, ◌+◌, ◌<◌, ◌≤◌, Bool, true, false, not, ◌&&◌, Option, Some, None, Result, Ok, Err, ◌||◌, List, [], ◌∷◌, ◌⊎◌}
use Rattle.std.proofs.Common.{inl, inr, ⊎_elim, length, get_or, take, drop, refl, sym, ap, subst, ◌∙◌, arith}
use Rattle.std.specs.Prelude.{Contains, IfOk, MatchOption, OnOk, nat_eq, nat_lt, remove, slice_index, ⊤}
use Rattle.std.proofs.lemmas.Bool.{cases_lt}
use Rattle.std.proofs.lemmas.Bool.Decides.{nat_tests}
use Rattle.std.proofs.lemmas.List.{get_or_default}
use Rattle.std.proofs.lemmas.List.Elements.{All-append, All-drop, All-take}
use Rattle.std.proofs.lemmas.Bool.{and_from, and_parts}
use Rattle.bl_tree.proofs.Basics.{contains_first, contains_further, contains_none, first_or_further, true_false_any}
use Rattle.bl_tree.specs.declared.graph.Edge.{Edge}
use Rattle.bl_tree.specs.declared.graph.Node.{Node}
use Rattle.bl_tree.specs.declared.place.Place.{Place}
use Rattle.bl_tree.specs.Rules.{AreNoLater, IsBefore, is_before}
use Rattle.bl_cause.specs.Fails.{BeginsWalk, IsFirst, Never, place_at}
use Rattle.bl_cause.specs.Walks.{ClosedWalk}
use Rattle.bl_cause.specs.inner.Lists.{Candidates, Within, level_edges, same_kind}
use Rattle.bl_cause.specs.inner.Numbers.{NeverFall}
use Rattle.bl_cause.proofs.ListLemmas.{filter_keeps, filter_there, filter_true}
use Rattle.bl_cause.proofs.WalkLemmas.{closed_is_level}
use Rattle.bl_tree.proofs.FirstLemmas.{before_trans, before_true}

-- ---- places

true_before : (a b : Place) → IsBefore a b → is_before a b ≡ true
true_before a b h =
    ⊎_elim
    (λ (less : a.start < b.start). let e : nat_lt a.start b.start ≡ true = grind (arith, nat_tests) in
    ap (λ t. t || (nat_eq a.start b.start && nat_lt a.end b.end)) e)
    (λ (p : (a.start ≡ b.start) × (a.end < b.end)).
    let same = p.0 in let less = p.1 in
    let e : nat_eq a.start b.start ≡ true = grind (arith, nat_tests) in
    let f : nat_lt a.end b.end ≡ true = grind (arith, nat_tests) in
    or_true (nat_lt a.start b.start) (nat_eq a.start b.start && nat_lt a.end b.end) (and_from (nat_eq a.start b.start) (nat_lt a.end b.end) e f))
    h
  where
    or_true : (a b : Bool) → b ≡ true → (a || b) ≡ true
    or_true true b is = refl
    or_true false b is = is

-- what isn't before a place isn't before an earlier one
pub not_before_then : (x y b : Place) → is_before x b ≡ false → is_before y b ≡ true → is_before x y ≡ false
not_before_then x y b never is =
    elim (is_before x y) as (λ t. is_before x y ≡ t → t ≡ false) [
      | true ↦ λ one. true_false_any (is_before x b) (true_before x b (before_trans x y b (before_true x y one) (before_true y b is))) never
      | false ↦ λ one. refl
    ] refl

pub not_before_itself : (a : Place) → is_before a a ≡ false
not_before_itself a =
    elim (is_before a a) as (λ t. is_before a a ≡ t → t ≡ false) [
      | true ↦ λ one.
          ⊎_elim (λ (less : a.start < a.start). absurd (omega arith))
          (λ (p : (a.start ≡ a.start) × (a.end < a.end)). let less = p.1 in absurd (omega arith))
          (before_true a a one)
      | false ↦ λ one. refl
    ] refl

-- of two places the one that the other isn't before is no later
pub no_later : (at elsewhere : Place) → is_before elsewhere at ≡ false → AreNoLater (at ∷ []) (elsewhere ∷ [])
no_later at elsewhere never =
    ⊎_elim
    (λ (less : at.start < elsewhere.start). inl (inl less))
    (λ (ge : elsewhere.start ≤ at.start).
    ⊎_elim
    (λ (more : elsewhere.start < at.start). true_false_any (is_before elsewhere at) (true_before elsewhere at (inl more)) never)
    (λ (le : at.start ≤ elsewhere.start).
    let start : at.start ≡ elsewhere.start = omega arith in
    ⊎_elim
    (λ (less : at.end < elsewhere.end). inl (inr (start, less)))
    (λ (ends : elsewhere.end ≤ at.end).
    ⊎_elim
    (λ (more : elsewhere.end < at.end). true_false_any (is_before elsewhere at) (true_before elsewhere at (inr (sym start, more))) never)
    (λ (last : at.end ≤ elsewhere.end).
    let end : at.end ≡ elsewhere.end = omega arith in
    inr ((λ i. record { start = start i; end = end i }), tt))
    (cases_lt elsewhere.end at.end))
    (cases_lt at.end elsewhere.end))
    (cases_lt elsewhere.start at.start))
    (cases_lt at.start elsewhere.start)

-- the edge at the position begins at the least place of so many
pub record Least (nodes : List Node) (edges : List Edge) (k best : ℕ) : Type 0 where
  pub inside : best < length edges
  pub least : (j : ℕ) (d : Edge) → j < k → is_before (place_at nodes (get_or edges j d).from) (place_at nodes (get_or edges best d).from) ≡ false

pub least_better : (nodes : List Node) (edges : List Edge) (k best : ℕ) (d : Edge) → k < length edges →
    is_before (place_at nodes (get_or edges k d).from) (place_at nodes (get_or edges best d).from) ≡ true → Least nodes edges k best →
    Least nodes edges (k + 1) k
least_better nodes edges k best d lt is h = record {
  inside = lt;
  least = λ j e below.
      ⊎_elim
      (λ (old : j < k).
      not_before_then (place_at nodes (get_or edges j e).from) (place_at nodes (get_or edges k e).from) (place_at nodes (get_or edges best e).from)
      (h.least j e old)
      (ap (λ a. is_before (place_at nodes a.from) (place_at nodes (get_or edges best e).from)) (get_or_default edges k e d lt)
      ∙ ap (λ a. is_before (place_at nodes (get_or edges k d).from) (place_at nodes a.from)) (get_or_default edges best e d h.inside) ∙ is)
      )
      (λ (new : k ≤ j).
      let this : k ≡ j = omega arith in
      subst (λ n. is_before (place_at nodes (get_or edges n e).from) (place_at nodes (get_or edges k e).from) ≡ false) this
      (not_before_itself (place_at nodes (get_or edges k e).from)))
      (cases_lt j k);
}

pub least_same : (nodes : List Node) (edges : List Edge) (k best : ℕ) (d : Edge) → k < length edges →
    is_before (place_at nodes (get_or edges k d).from) (place_at nodes (get_or edges best d).from) ≡ false → Least nodes edges k best →
    Least nodes edges (k + 1) best
least_same nodes edges k best d lt is h = record {
  inside = h.inside;
  least = λ j e below.
      ⊎_elim (λ (old : j < k). h.least j e old)
      (λ (new : k ≤ j).
      let this : k ≡ j = omega arith in
      subst (λ n. is_before (place_at nodes (get_or edges n e).from) (place_at nodes (get_or edges best e).from) ≡ false) this
      (ap (λ a. is_before (place_at nodes a.from) (place_at nodes (get_or edges best e).from)) (get_or_default edges k e d lt)
      ∙ ap (λ a. is_before (place_at nodes (get_or edges k d).from) (place_at nodes a.from)) (get_or_default edges best e d h.inside) ∙ is))
      (cases_lt j k);
}

-- what a test of two places that were read tells of them
pub test_is : (a b x y : Place) (r t : Bool) → r ≡ is_before a b → a ≡ x → b ≡ y → r ≡ t → is_before x y ≡ t
test_is a b x y r t is one two told = sym (ap (λ p. is_before p b) one ∙ ap (is_before x) two) ∙ sym is ∙ told

-- ---- what is left after one is taken out

pub remove_there : {X : Type 0} (xs : List X) (k : ℕ) (x : X) → Contains (remove xs k) x → Contains xs x
remove_there [] zero x h = h
remove_there [] (suc k) x h = h
remove_there (y ∷ xs) zero x h = contains_further y xs x h
remove_there (y ∷ xs) (suc k) x h =
    ⊎_elim (λ (is : y ≡ x). subst (λ z. Contains (z ∷ xs) x) (sym is) (contains_first x xs)) (λ (later : Contains (remove xs k) x).
    contains_further y xs x (remove_there xs k x later))
    (first_or_further y (remove xs k) x h)

pub remove_kept : {X : Type 0} (xs : List X) (k : ℕ) (x : X) → Contains xs x → (get_or xs k x ≡ x) ⊎ Contains (remove xs k) x
remove_kept [] k x h = absurd (contains_none x h)
remove_kept (y ∷ xs) zero x h = first_or_further y xs x h
remove_kept (y ∷ xs) (suc k) x h =
    ⊎_elim
    (λ (is : y ≡ x). inr (subst (λ z. Contains (z ∷ remove xs k) x) (sym is) (contains_first x (remove xs k))))
    (λ (later : Contains xs x).
    ⊎_elim (λ (this : get_or xs k x ≡ x). inl this) (λ (other : Contains (remove xs k) x).
    inr (contains_further y (remove xs k) x other)) (remove_kept xs k x later))
    (first_or_further y xs x h)

pub remove_within : (count : ℕ) (edges : List Edge) (k : ℕ) → Within count edges → Within count (remove edges k)
remove_within count edges k h =
    All-append (λ edge. (edge.from < count) × (edge.to < count)) (take k edges) (drop (suc k) edges)
    (All-take (λ edge. (edge.from < count) × (edge.to < count)) k edges h)
    (All-drop (λ edge. (edge.from < count) × (edge.to < count)) (suc k) edges h)

-- ---- candidates

kind_is : (a b : Bool) → same_kind a b ≡ true → a ≡ b
kind_is true true is = refl
kind_is true false is = absurd (cc)
kind_is false true is = absurd (cc)
kind_is false false is = refl

is_kind : (a b : Bool) → a ≡ b → same_kind a b ≡ true
is_kind true b is = sym is
is_kind false b is = ap not (sym is)

-- where the numbers never fall, the edges that begin a closed walk are level
pub candidates_first : (edges : List Edge) (numbers : List ℕ) (by_data : Bool) → NeverFall edges numbers →
    Candidates edges by_data (level_edges numbers by_data edges)
candidates_first edges numbers by_data keep = record {
  there = λ edge h. (
    filter_there (λ it. same_kind it.by_data by_data && nat_eq (slice_index numbers it.from) (slice_index numbers it.to)) edges edge h,
    kind_is edge.by_data by_data
        (and_parts (same_kind edge.by_data by_data) (nat_eq (slice_index numbers edge.from) (slice_index numbers edge.to))
        (filter_true (λ it. same_kind it.by_data by_data && nat_eq (slice_index numbers it.from) (slice_index numbers it.to)) edges edge h)).0,
  );
  all = λ edge rest kind closed.
      let level = closed_is_level edges numbers keep edge rest closed in
      filter_keeps (λ it. same_kind it.by_data by_data && nat_eq (slice_index numbers it.from) (slice_index numbers it.to)) edges edge closed.0
      (and_from (same_kind edge.by_data by_data) (nat_eq (slice_index numbers edge.from) (slice_index numbers edge.to))
      (is_kind edge.by_data by_data kind) (same_test (slice_index numbers edge.from) (slice_index numbers edge.to) level));
}
  where
    same_test : (a b : ℕ) → a ≡ b → nat_eq a b ≡ true
    same_test a b is = grind (arith, nat_tests)

-- an edge without a way back is no candidate
pub candidates_removed : (edges : List Edge) (by_data : Bool) (left : List Edge) (k : ℕ) (gone : Edge) → gone ≡ get_or left k gone →
    k < length left → ((rest : List Edge) → ClosedWalk edges (gone ∷ rest) → ⊥) → Candidates edges by_data left →
    Candidates edges by_data (remove left k)
candidates_removed edges by_data left k gone is lt none h = record {
  there = λ edge inside. h.there edge (remove_there left k edge inside);
  all = λ edge rest kind closed.
      ⊎_elim
      (λ (this : get_or left k edge ≡ edge).
      let same : gone ≡ edge = is ∙ get_or_default left k gone edge lt ∙ this in
      absurd (none rest (subst (λ it. ClosedWalk edges (it ∷ rest)) (sym same) closed)))
      (λ (other : Contains (remove left k) edge). other)
      (remove_kept left k edge (h.all edge rest kind closed));
}

-- a walk that begins with the candidate at the least place begins first
pub first_is_least : (nodes : List Node) (edges : List Edge) (by_data : Bool) (left : List Edge) (k : ℕ) (this : Edge) → this ≡ get_or left k this →
    k < length left →
    ((j : ℕ) (d : Edge) → j < length left → is_before (place_at nodes (get_or left j d).from) (place_at nodes (get_or left k d).from) ≡ false) →
    Candidates edges by_data left → (at : Place) (also : List Place) → at ≡ place_at nodes this.from → BeginsWalk nodes edges by_data at also →
    IsFirst (BeginsWalk nodes edges by_data) at also
first_is_least nodes edges by_data left k this is lt least h at also here begins = (
  begins,
  λ elsewhere further other.
      let inside = h.all other.edge other.rest other.kind other.closed in
      let not_less = least inside.0 other.edge inside.1 in
      let one : place_at nodes (get_or left inside.0 other.edge).from ≡ elsewhere = ap (λ it. place_at nodes it.from) inside.2 ∙ sym other.at_place in
      let two : place_at nodes (get_or left k other.edge).from ≡ at =
      ap (λ it. place_at nodes it.from) (get_or_default left k other.edge this lt ∙ sym is) ∙ sym here in
      no_later at elsewhere
      (ap (λ a. is_before a at) (sym one) ∙ ap (is_before (place_at nodes (get_or left inside.0 other.edge).from)) (sym two) ∙ not_less),
)

-- ---- in the search

-- the walk that was found from the least candidate
pub first_found : (nodes : List Node) (edges : List Edge) (by_data : Bool) (left view : List Edge) (k : ℕ) (this : Edge) → view ≡ left →
    k < length view →
    ((j : ℕ) (d : Edge) → j < length view → is_before (place_at nodes (get_or view j d).from) (place_at nodes (get_or view k d).from) ≡ false) →
    this ≡ get_or left k this → Candidates edges by_data left → (at : Place) (also : List Place) →
    (Contains edges this → BeginsWalk nodes edges this.by_data at also) → at ≡ place_at nodes this.from →
    IsFirst (BeginsWalk nodes edges by_data) at also
first_found nodes edges by_data left view k this same lt least is h at also begins here =
    let inside : k < length left = (let e = ap length same in omega (arith, lt, e)) in
    let there = h.there this (k, inside, sym is) in
    first_is_least nodes edges by_data left k this is inside
    (subst (λ it. (j : ℕ) (d : Edge) → j < length it → is_before (place_at nodes (get_or it j d).from) (place_at nodes
    (get_or it k d).from) ≡ false) same least)
    h at also here (subst (λ b. BeginsWalk nodes edges b at also) there.1 (begins there.0))

-- the least candidate begins no closed walk
pub next_candidates : (edges : List Edge) (by_data : Bool) (left view : List Edge) (k : ℕ) (this : Edge) → view ≡ left → k < length view →
    this ≡ get_or left k this → (Contains edges this → (rest : List Edge) → ClosedWalk edges (this ∷ rest) → ⊥) →
    Candidates edges by_data left →
    Candidates edges by_data (remove left k)
next_candidates edges by_data left view k this same lt is none h =
    let inside : k < length left = (let e = ap length same in omega (arith, lt, e)) in
    let there = h.there this (k, inside, sym is) in
    candidates_removed edges by_data left k this is inside (none there.0) h

-- an answer's clause that follows from a callee's
pub ok_none : {T E : Type 0} (r : Result (Option T) E) (P Q : Type 0) → (P → Q) → IfOk r (λ found. MatchOption found P (λ _. ⊤)) →
    IfOk r (λ found. MatchOption found Q (λ _. ⊤))
ok_none (Ok None) P Q f h = f h
ok_none (Ok (Some x)) P Q f h = tt
ok_none (Err e) P Q f h = tt

pub ok_some : {T E : Type 0} (r : Result (Option T) E) (P Q : T → Type 0) → ((x : T) → P x → Q x) → IfOk r (λ found. MatchOption found ⊤ P) →
    IfOk r (λ found. MatchOption found ⊤ Q)
ok_some (Ok None) P Q f h = tt
ok_some (Ok (Some x)) P Q f h = f x h
ok_some (Err e) P Q f h = tt

pub on_ok : {T E : Type 0} (r : Result T E) (P : Type 0) → P → OnOk r P
on_ok (Ok x) P h = h
on_ok (Err e) P h = tt

-- the rule that was judged over lists that were lent
pub never_view : (nodes nodes' : List Node) (edges edges' : List Edge) (by_data : Bool) → nodes' ≡ nodes → edges' ≡ edges →
    Never (BeginsWalk nodes' edges' by_data) → Never (BeginsWalk nodes edges by_data)
never_view nodes nodes' edges edges' by_data one two never =
    subst (λ it. Never (BeginsWalk it edges by_data)) one (subst (λ it. Never (BeginsWalk nodes' it by_data)) two never)

pub first_view : (nodes nodes' : List Node) (edges edges' : List Edge) (by_data : Bool) (at : Place) (also : List Place) → nodes' ≡ nodes →
    edges' ≡ edges →
    IsFirst (BeginsWalk nodes' edges' by_data) at also → IsFirst (BeginsWalk nodes edges by_data) at also
first_view nodes nodes' edges edges' by_data at also one two first =
    subst (λ it. IsFirst (BeginsWalk it edges by_data) at also) one (subst (λ it. IsFirst (BeginsWalk nodes' it by_data) at also) two first)
