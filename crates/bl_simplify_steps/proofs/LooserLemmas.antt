-- What is enough to know.
use Rattle.std.proofs.Common.{◌≡◌, ℕ, zero, suc, ◌+◌, ◌<◌, ◌⊎◌, inl, inr, List, [], ◌∷◌, ◌++◌, drop, length, get_or, map, Result, sym, subst, ap, ◌∙◌, arith}
use Rattle.std.proofs.lemmas.Result.{IfOk-weaker}
use Rattle.std.specs.Prelude.{IfOk}
use Rattle.bl_tree.proofs.Basics.{drop_next}
use Rattle.bl_ctext_semantics.specs.Meaning.{Scope}
use Rattle.bl_ctext_semantics.specs.Memory.{Memory}
use Rattle.bl_simplify_laws.specs.declared.facts.CSpot.{CSpot}
use Rattle.bl_simplify_laws.specs.declared.facts.Fact.{Fact}
use Rattle.bl_simplify_laws.specs.Known.{Agrees, Holds}
use Rattle.bl_simplify_laws.specs.Rules.{Facts, RuleCut, RuleForgotten, Weaker, classes}
use Rattle.bl_simplify_laws.specs.Steps.{without_spots}
use Rattle.bl_simplify_facts.specs.declared.entries.Entry.{Entry}
use Rattle.bl_simplify_facts.specs.Entries.{facts_of, valuation}
use Rattle.bl_simplify_steps.specs.inner.Begin.{parted}
use Rattle.bl_simplify_steps.specs.inner.Looser.{Looser}

-- ---- one of several cases

holds-left : (one other : Facts) (scope : Scope) (memory : Memory) → Holds one scope memory → Holds (one ++ other) scope memory
holds-left [] other scope memory h = absurd h
holds-left (known ∷ one) other scope memory (inl agrees) = inl agrees
holds-left (known ∷ one) other scope memory (inr h) = inr (holds-left one other scope memory h)

holds-right : (one other : Facts) (scope : Scope) (memory : Memory) → Holds other scope memory → Holds (one ++ other) scope memory
holds-right [] other scope memory h = h
holds-right (known ∷ one) other scope memory h = inr (holds-right one other scope memory h)

holds-either : (one other : Facts) (scope : Scope) (memory : Memory) → Holds (one ++ other) scope memory →
    Holds one scope memory ⊎ Holds other scope memory
holds-either [] other scope memory h = inr h
holds-either (known ∷ one) other scope memory (inl agrees) = inl (inl agrees)
holds-either (known ∷ one) other scope memory (inr h) = by (holds-either one other scope memory h)
  where
    by : (Holds one scope memory ⊎ Holds other scope memory) → Holds (known ∷ one) scope memory ⊎ Holds other scope memory
    by (inl h) = inl (inr h)
    by (inr h) = inr h

-- ---- cases that are there

there : (cases : List (List Entry)) (k : ℕ) (case : List Entry) (scope : Scope) (memory : Memory) → k < length cases →
    case ≡ get_or cases k case → Agrees (valuation case) scope memory → Holds (facts_of cases) scope memory
there [] k case scope memory h is agrees = absurd (omega arith)
there (first ∷ cases) zero case scope memory h is agrees = inl (subst (λ x. Agrees (valuation x) scope memory) is agrees)
there (first ∷ cases) (suc k) case scope memory h is agrees = inr (there cases k case scope memory (omega arith) is agrees)

-- a case that is one of some
pub is-there : (cases : List (List Entry)) (k : ℕ) (case asked : List Entry) → k < length cases → case ≡ get_or cases k case → asked ≡ case →
    Looser (valuation asked ∷ []) (facts_of cases)
is-there cases k case asked h is same = record {
  holds = λ scope memory held. by scope memory held;
}
  where
    by : (scope : Scope) (memory : Memory) → Holds (valuation asked ∷ []) scope memory → Holds (facts_of cases) scope memory
    by scope memory (inl agrees) = there cases k case scope memory h is (subst (λ x. Agrees (valuation x) scope memory) same agrees)
    by scope memory (inr none) = absurd none

-- what is there need not be added
pub no-more : (facts more : Facts) → Looser more facts → Looser (facts ++ more) facts
no-more facts more there_is = record {
  holds = λ scope memory held. by scope memory (holds-either facts more scope memory held);
}
  where
    by : (scope : Scope) (memory : Memory) → (Holds facts scope memory ⊎ Holds more scope memory) → Holds facts scope memory
    by scope memory (inl h) = h
    by scope memory (inr h) = there_is.holds scope memory h

-- one more case
pub case-next : (whole all new : Facts) (others : List (List Entry)) (k : ℕ) (case : List Entry) → k < length others →
    case ≡ get_or others k case → Looser (all ++ valuation case ∷ []) new → Looser whole (all ++ facts_of (drop k others)) →
    Looser whole (new ++ facts_of (drop (k + 1) others))
case-next whole all new others k case h is added now = record {
  holds = λ scope memory held.
      by scope memory (holds-either all (valuation case ∷ facts_of (drop (k + 1) others)) scope memory
      (subst (λ l. Holds (all ++ facts_of l) scope memory) (drop_next others k case h is) (now.holds scope memory held)));
}
  where
    rest : Facts
    rest = facts_of (drop (k + 1) others)

    by : (scope : Scope) (memory : Memory) → (Holds all scope memory ⊎ Holds (valuation case ∷ rest) scope memory) → Holds (new ++ rest) scope memory
    by scope memory (inl h) = holds-left new rest scope memory (added.holds scope memory (holds-left all (valuation case ∷ []) scope memory h))
    by scope memory (inr (inl agrees)) =
        holds-left new rest scope memory (added.holds scope memory (holds-right all (valuation case ∷ []) scope memory (inl agrees)))
    by scope memory (inr (inr h)) = holds-right new rest scope memory h

-- ---- spots of which nothing need be known

-- less is known where something is forgotten
pub forgotten : {E : Type 0} (r : Result (List (List Entry)) E) (none left : List (List Entry)) (gone : List CSpot) (facts : Facts) → RuleForgotten →
    none ≡ [] → facts_of left ≡ map (without_spots gone) facts → IfOk r (λ all. Looser (facts_of none ++ facts_of left) (facts_of all)) →
    IfOk r (λ all. Weaker facts (facts_of all))
forgotten r none left gone facts rule empty is = IfOk-weaker r _ _ (λ all looser. λ scope memory held.
    looser.holds scope memory (subst (λ l. Holds (facts_of l ++ facts_of left) scope memory) (sym empty)
    (subst (λ f. Holds f scope memory) (sym is) (rule gone facts scope memory held))))

-- ---- where functions begin

pub cut-looser : {E : Type 0} (r : Result (List (List Entry)) E) (spot : CSpot) (n : ℕ) (parts : List Fact) (facts : Facts) → RuleCut →
    parts ≡ classes n → IfOk r (λ all. facts_of all ≡ parted spot parts facts) → IfOk r (λ all. Looser facts (facts_of all))
cut-looser r spot n parts facts rule is = IfOk-weaker r _ _ (λ all made. record {
  holds = λ scope memory held.
      subst (λ f. Holds f scope memory) (sym (made ∙ ap (λ p. parted spot p facts) is)) (rule spot n facts scope memory held);
})

pub from-entry : {E : Type 0} (r : Result (List (List Entry)) E) (known start : Facts) → start ≡ known →
    IfOk r (λ all. Looser start (facts_of all)) → IfOk r (λ all. Weaker known (facts_of all))
from-entry r known start is = IfOk-weaker r _ _ (λ all looser. λ scope memory held. looser.holds scope memory (subst (λ f. Holds f scope memory) (sym is) held))
