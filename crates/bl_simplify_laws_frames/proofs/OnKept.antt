-- Outcomes that are alike where something holds of memory, and leave it so.
use Rattle.std.proofs.Common.{◌≡◌, ℕ, zero, suc, List, [], ◌∷◌, Option, Some, None, refl, ap, sym, ◌∙◌}
use Rattle.bl_ctext_semantics.specs.Course.{End, goes_on, breaks, returns, traps, Outcome, ended_by, ending, following, following_end}
use Rattle.bl_ctext_semantics.specs.Course.{in_order, loop_with_turns, turn_end}
use Rattle.bl_ctext_semantics.proofs.Induction.{Optional}
use Rattle.bl_simplify_laws.specs.Observed.{Observed, observed, observed_at}
use Rattle.bl_simplify_laws.proofs.OnOutcomes.{following-seen, then_seen, turn-seen, turn_seen}

-- J holds of the memory that an end leaves, unless that is a trap
abbrev pub KeptAt : {M : Type 0} → (M → Type 0) → End → M → Type 0
KeptAt J goes_on m = J m
KeptAt J breaks m = J m
KeptAt J (returns n) m = J m
KeptAt J traps m = Unit {0}

-- two outcomes are alike, and the first leaves J
abbrev pub AlikeKept : {M : Type 0} → (M → Type 0) → Outcome M → Outcome M → Type 0
AlikeKept J o p = (observed o ≡ observed p) × KeptAt J o.end o.memory

-- each of these does what the other does where J holds, and leaves it so
abbrev pub RunKept : {M : Type 0} → (M → Type 0) → (M → Outcome M) → (M → Outcome M) → Type 0
RunKept {M} J f g = (m : M) → J m → AlikeKept J (f m) (g m)

-- each of these, in order
abbrev pub EachKept : {M : Type 0} → (M → Type 0) → List (M → Outcome M) → List (M → Outcome M) → Type 0
EachKept J [] [] = Unit {0}
EachKept J (f ∷ fs) (g ∷ gs) = RunKept J f g × EachKept J fs gs
EachKept J [] (g ∷ gs) = ⊥
EachKept J (f ∷ fs) [] = ⊥

module _ {M : Type 0} (J : M → Type 0) where
  -- what is seen of what follows an outcome
  seen-then : (s : Observed M) (p : Outcome M) (g : M → Outcome M) → s ≡ observed p → then_seen s (λ m. observed (g m)) ≡ observed (following p g)
  seen-then s p g h = ap (λ s. then_seen s (λ m. observed (g m))) h ∙ sym (following-seen p.count p.memory p.end g)

  following-kept : (n : ℕ) (m : M) (e : End) (p : Outcome M) (f g : M → Outcome M) → observed_at e m ≡ observed p → KeptAt J e m → RunKept J f g →
      AlikeKept J (following_end n m e f) (following p g)
  following-kept n m goes_on p f g same kept k = ((k m kept).0 ∙ seen-then (observed_at goes_on m) p g same, (k m kept).1)
  following-kept n m breaks p f g same kept k = (seen-then (observed_at breaks m) p g same, kept)
  following-kept n m (returns r) p f g same kept k = (seen-then (observed_at (returns r) m) p g same, kept)
  following-kept n m traps p f g same kept k = (seen-then (observed_at traps m) p g same, tt)

  pub order-kept : (fs gs : List (M → Outcome M)) → EachKept J fs gs → RunKept J (in_order fs) (in_order gs)
  order-kept [] [] h m holds = (refl, holds)
  order-kept (f ∷ fs) (g ∷ gs) h m holds =
      following-kept (f m).count (f m).memory (f m).end (g m) (in_order fs) (in_order gs) (h.0 m holds).0 (h.0 m holds).1 (order-kept fs gs h.1)
  order-kept [] (g ∷ gs) h m holds = absurd h
  order-kept (f ∷ fs) [] h m holds = absurd h

  -- what is seen of a turn that follows
  seen-turn : (s : Observed M) (p : Outcome M) (g : M → Outcome M) → s ≡ observed p →
      turn_seen s (λ m. observed (g m)) ≡ observed (turn_end p.count p.memory p.end g)
  seen-turn s p g h = ap (λ s. turn_seen s (λ m. observed (g m))) h ∙ sym (turn-seen p.count p.memory p.end g)

  turn-kept : (n : ℕ) (m : M) (e : End) (p : Outcome M) (f g : M → Outcome M) → observed_at e m ≡ observed p → KeptAt J e m → RunKept J f g →
      AlikeKept J (turn_end n m e f) (turn_end p.count p.memory p.end g)
  turn-kept n m goes_on p f g same kept k = ((k m kept).0 ∙ seen-turn (observed_at goes_on m) p g same, (k m kept).1)
  turn-kept n m breaks p f g same kept k = (seen-turn (observed_at breaks m) p g same, kept)
  turn-kept n m (returns r) p f g same kept k = (seen-turn (observed_at (returns r) m) p g same, kept)
  turn-kept n m traps p f g same kept k = (seen-turn (observed_at traps m) p g same, tt)

  -- what asks the condition of a loop before a turn keeps J before turns that do
  abbrev pub AsksKept : ((M → Outcome M) → M → Outcome M) → ((M → Outcome M) → M → Outcome M) → Type 0
  AsksKept once again = (f g : M → Outcome M) → RunKept J f g → RunKept J (once f) (again g)

  pub loop-kept : (n : ℕ) (once again : (M → Outcome M) → M → Outcome M) (f g : M → Outcome M) → AsksKept once again → RunKept J f g →
      RunKept J (loop_with_turns n once f) (loop_with_turns n again g)
  unfolding loop_with_turns
  loop-kept zero once again f g asks h m holds = asks (ending traps) (ending traps) (λ m holds. (refl, tt)) m holds
  loop-kept (suc n) once again f g asks h m holds =
      asks (λ m. let o = f m in turn_end o.count o.memory o.end (loop_with_turns n once f))
      (λ m. let o = g m in turn_end o.count o.memory o.end (loop_with_turns n again g))
      (λ m holds. turn-kept (f m).count (f m).memory (f m).end (g m) (loop_with_turns n once f) (loop_with_turns n again g) (h m holds).0 (h m holds).1
      (loop-kept n once again f g asks h)) m holds

  -- a statement that first evaluates something
  pub ended-kept : {A : Type 0} (m : M) (j k : ℕ) (o p : Option A) (f g : A → Outcome M) → o ≡ p → Optional (λ a. AlikeKept J (f a) (g a)) o →
      AlikeKept J (ended_by m j o f) (ended_by m k p g)
  ended-kept {A} m j k o p f g same each = ((by o each).0 ∙ ap (λ o. observed (ended_by m k o g)) same, (by o each).1)
    where
      by : (o : Option A) → Optional (λ a. AlikeKept J (f a) (g a)) o → AlikeKept J (ended_by m j o f) (ended_by m k o g)
      by None each = (refl, tt)
      by (Some a) each = each
