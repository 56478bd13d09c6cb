-- Outcomes that are alike: what that says, and what keeps it.
use Rattle.std.proofs.Common.{◌≡◌, ℕ, zero, suc, ◌+◌, List, [], ◌∷◌, ◌++◌, Option, Some, None, refl, ap, sym, ◌∙◌}
use Rattle.bl_ctext_semantics.specs.Course.{End, goes_on, breaks, returns, traps, Outcome, ended_by, ending, following, following_end}
use Rattle.bl_ctext_semantics.specs.Course.{in_order, loop_with_turns, turn_end}
use Rattle.bl_ctext_semantics.specs.Meaning.{Counted, going_on, next}
use Rattle.bl_simplify_laws.specs.Observed.{AlikeSays, AlikeIs, Observed, SameUnless, observed, observed_at, trapped, went_on, broke, returned}

-- ---- what it says

-- the end that is seen
end_of : {M : Type 0} → Observed M → End
end_of trapped = traps
end_of (went_on m) = goes_on
end_of (broke m) = breaks
end_of (returned r m) = returns r

-- the memory that is seen, else the other
memory_of : {M : Type 0} → M → Observed M → M
memory_of n trapped = n
memory_of n (went_on m) = m
memory_of n (broke m) = m
memory_of n (returned r m) = m

end-seen : {M : Type 0} (e : End) (m : M) → end_of (observed_at e m) ≡ e
unfolding end_of
end-seen goes_on m = refl
end-seen breaks m = refl
end-seen (returns r) m = refl
end-seen traps m = refl

same-memory : {M : Type 0} (e f : End) (m n : M) → observed_at e m ≡ observed_at f n → SameUnless e m n
unfolding memory_of
same-memory goes_on goes_on m n h = ap (memory_of m) h
same-memory breaks breaks m n h = ap (memory_of m) h
same-memory (returns r) (returns t) m n h = ap (memory_of m) h
same-memory traps f m n h = tt
same-memory goes_on breaks m n h = cc
same-memory goes_on (returns t) m n h = cc
same-memory goes_on traps m n h = cc
same-memory breaks goes_on m n h = cc
same-memory breaks (returns t) m n h = cc
same-memory breaks traps m n h = cc
same-memory (returns r) goes_on m n h = cc
same-memory (returns r) breaks m n h = cc
same-memory (returns r) traps m n h = cc

pub says : AlikeSays
says o p h =
    (sym (end-seen o.end o.memory) ∙ ap end_of h ∙ end-seen p.end p.memory, same-memory o.end p.end o.memory p.memory h)

with-memory : {M : Type 0} (e : End) (m n : M) → SameUnless e m n → observed_at e m ≡ observed_at e n
with-memory goes_on m n h = ap (observed_at goes_on) h
with-memory breaks m n h = ap (observed_at breaks) h
with-memory (returns r) m n h = ap (observed_at (returns r)) h
with-memory traps m n h = refl

pub is_said : AlikeIs
is_said o p e h = with-memory o.end o.memory p.memory h ∙ ap (λ x. observed_at x p.memory) e

-- ---- evaluations

-- an evaluation and what follows it
pub next-same : {A B : Type 0} (c d : Counted A) (f g : A → Counted B) → c.answer ≡ d.answer → ((a : A) → (f a).answer ≡ (g a).answer) →
    (next c f).answer ≡ (next d g).answer
next-same {A} {B} c d f g h k = by c.count d.count c.answer ∙ ap (λ o. (going_on d.count o g).answer) h
  where
    by : (m n : ℕ) (o : Option A) → (going_on m o f).answer ≡ (going_on n o g).answer
    by m n None = refl
    by m n (Some a) = k a

-- a statement that first evaluates something
pub ended-same : {M A : Type 0} (memory : M) (m n : ℕ) (o p : Option A) (f g : A → Outcome M) → o ≡ p → ((a : A) → observed (f a) ≡ observed (g a)) →
    observed (ended_by memory m o f) ≡ observed (ended_by memory n p g)
ended-same {M} {A} memory m n o p f g h k = by o ∙ ap (λ o. observed (ended_by memory n o g)) h
  where
    by : (o : Option A) → observed (ended_by memory m o f) ≡ observed (ended_by memory n o g)
    by None = refl
    by (Some a) = k a

-- ---- statements one after the other

-- what is seen of what follows
abbrev pub then_seen : {M : Type 0} → Observed M → (M → Observed M) → Observed M
then_seen trapped rest = trapped
then_seen (went_on m) rest = rest m
then_seen (broke m) rest = broke m
then_seen (returned r m) rest = returned r m

pub following-seen : {M : Type 0} (n : ℕ) (m : M) (e : End) (rest : M → Outcome M) →
    observed (following_end n m e rest) ≡ then_seen (observed_at e m) (λ m. observed (rest m))
following-seen n m goes_on rest = refl
following-seen n m breaks rest = refl
following-seen n m (returns r) rest = refl
following-seen n m traps rest = refl

-- each of these does what the other does, but for counts
abbrev pub RunAlike : {M : Type 0} → (M → Outcome M) → (M → Outcome M) → Type 0
RunAlike {M} f g = (m : M) → observed (f m) ≡ observed (g m)

pub following-same : {M : Type 0} (o p : Outcome M) (f g : M → Outcome M) → observed o ≡ observed p → RunAlike f g →
    observed (following o f) ≡ observed (following p g)
following-same o p f g h k =
    following-seen o.count o.memory o.end f ∙ (λ i. then_seen (h i) (λ m. k m i)) ∙ sym (following-seen p.count p.memory p.end g)

-- each of these, in order
abbrev pub EachAlike : {M : Type 0} → List (M → Outcome M) → List (M → Outcome M) → Type 0
EachAlike [] [] = Unit {0}
EachAlike (f ∷ fs) (g ∷ gs) = RunAlike f g × EachAlike fs gs
EachAlike [] (g ∷ gs) = ⊥
EachAlike (f ∷ fs) [] = ⊥

pub order-same : {M : Type 0} (fs gs : List (M → Outcome M)) → EachAlike fs gs → RunAlike (in_order fs) (in_order gs)
order-same [] [] h m = refl
order-same (f ∷ fs) (g ∷ gs) h m = following-same (f m) (g m) (in_order fs) (in_order gs) (h.0 m) (order-same fs gs h.1)
order-same [] (g ∷ gs) h m = absurd h
order-same (f ∷ fs) [] h m = absurd h

following-more : {M : Type 0} (n k : ℕ) (m : M) (e : End) (rest : M → Outcome M) →
    observed (following_end n m e rest) ≡ observed (following_end k m e rest)
following-more n k m goes_on rest = refl
following-more n k m breaks rest = refl
following-more n k m (returns r) rest = refl
following-more n k m traps rest = refl

pub append-by : {M : Type 0} (n : ℕ) (m : M) (e : End) (whole_name first rest : M → Outcome M) → RunAlike whole_name (λ m. following (first m) rest) →
    observed (following_end n m e whole_name) ≡ observed (following (following_end n m e first) rest)
append-by n m goes_on whole_name first rest h =
    h m ∙ following-more (first m).count (n + (first m).count) (first m).memory (first m).end rest
append-by n m breaks whole_name first rest h = refl
append-by n m (returns r) whole_name first rest h = refl
append-by n m traps whole_name first rest h = refl

-- statements and further ones
pub order-append : {M : Type 0} (fs gs : List (M → Outcome M)) →
    RunAlike (in_order (fs ++ gs)) (λ m. following (in_order fs m) (in_order gs))
order-append [] gs m = refl
order-append (f ∷ fs) gs m = append-by (f m).count (f m).memory (f m).end (in_order (fs ++ gs)) (in_order fs) (in_order gs) (order-append fs gs)

-- what is chosen by a value, and further statements, which may stand in what is chosen
pub split-by : {M A : Type 0} (memory : M) (n k : ℕ) (o : Option A) (chosen whole_name : A → Outcome M) (rest : M → Outcome M) →
    ((a : A) → observed (whole_name a) ≡ observed (following (chosen a) rest)) →
    observed (ended_by memory k o whole_name) ≡ observed (following (ended_by memory n o chosen) rest)
split-by memory n k None chosen whole_name rest h = refl
split-by memory n k (Some a) chosen whole_name rest h =
    h a ∙ following-more (chosen a).count (n + (chosen a).count) (chosen a).memory (chosen a).end rest

-- ---- loops

-- what is seen of a turn and what follows it
abbrev pub turn_seen : {M : Type 0} → Observed M → (M → Observed M) → Observed M
turn_seen trapped again = trapped
turn_seen (went_on m) again = again m
turn_seen (broke m) again = went_on m
turn_seen (returned r m) again = returned r m

pub turn-seen : {M : Type 0} (n : ℕ) (m : M) (e : End) (again : M → Outcome M) → observed (turn_end n m e again) ≡ turn_seen (observed_at e m)
    (λ m. observed (again m))
turn-seen n m goes_on again = refl
turn-seen n m breaks again = refl
turn-seen n m (returns r) again = refl
turn-seen n m traps again = refl

-- what asks the condition of a loop before a turn does the same before turns that do the same
abbrev pub AsksAlike : {M : Type 0} → ((M → Outcome M) → M → Outcome M) → ((M → Outcome M) → M → Outcome M) → Type 0
AsksAlike {M} once again = (f g : M → Outcome M) → RunAlike f g → RunAlike (once f) (again g)

pub loop-same : {M : Type 0} (n : ℕ) (once again : (M → Outcome M) → M → Outcome M) (f g : M → Outcome M) → AsksAlike once again → RunAlike f g →
    RunAlike (loop_with_turns n once f) (loop_with_turns n again g)
unfolding loop_with_turns
loop-same zero once again f g asks h m = asks (ending traps) (ending traps) (λ m. refl) m
loop-same (suc n) once again f g asks h m =
    asks (λ m. let o = f m in turn_end o.count o.memory o.end (loop_with_turns n once f))
    (λ m. let o = g m in turn_end o.count o.memory o.end (loop_with_turns n again g))
    (λ m. turn-seen (f m).count (f m).memory (f m).end (loop_with_turns n once f)
    ∙ (λ i. turn_seen (h m i) (λ k. loop-same n once again f g asks h k i))
    ∙ sym (turn-seen (g m).count (g m).memory (g m).end (loop_with_turns n again g)))
    m
