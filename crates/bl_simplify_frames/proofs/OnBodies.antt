-- What holds after a function's body.
use Rattle.std.proofs.Common.{◌≡◌, ℕ, ◌+◌, ◌<◌, ◌≤◌, ◌⊎◌, inl, inr, true, false, List, [], ◌∷◌, ◌++◌, map, drop, length, get_or, Option, Some, None, ℤ, refl, ap, sym, subst, ◌∙◌}
use Rattle.std.specs.Prelude.{Bool, option_and_then, if◌then◌else◌, ◌&&◌}
use Rattle.std.proofs.lemmas.List.{drop_all}
use Rattle.bl_tree.proofs.Basics.{and_first, and_second, drop_next}
use Rattle.bl_tree.specs.declared.c.CFunc.{CFunc}
use Rattle.bl_tree.specs.declared.c.CStmt.{CStmt}
use Rattle.bl_ctext_semantics.specs.Course.{goes_on}
use Rattle.bl_ctext_semantics.specs.Meaning.{Scope, block_c}
use Rattle.bl_ctext_semantics.specs.Memory.{CValue, Memory, scalar_number, value_at}
use Rattle.bl_simplify_laws.specs.declared.facts.CSpot.{CSpot}
use Rattle.bl_simplify_laws.specs.declared.facts.Fact.{Fact}
use Rattle.bl_simplify_laws.specs.declared.facts.Fact.TheVariants.{AtLeast, AtMost, Is, Number}
use Rattle.bl_simplify_laws.specs.Frames.{Running}
use Rattle.bl_simplify_laws.specs.Known.{Agrees, Holds, Says, Valuation, exact, fact_in}
use Rattle.bl_simplify_laws.specs.Rules.{AfterBlock, Facts}
use Rattle.bl_simplify_laws.specs.Spots.{same_spot, spot_location}
use Rattle.bl_simplify_laws.proofs.OnSpots.{spot-is}
use Rattle.bl_simplify_facts.specs.declared.entries.Entry.{Entry}
use Rattle.bl_simplify_facts.specs.Entries.{facts_of, valuation}
use Rattle.bl_simplify_steps.specs.Entry.{known_from}
use Rattle.bl_simplify_steps.specs.inner.Looser.{Looser}

-- ---- numbers of a case

-- nothing need be known
pub nothing : (known : Valuation) → Looser (known ∷ []) ([] ∷ [])
nothing known = record { holds = λ scope memory held. inl (λ spot fact is. absurd (cc)) }

some-is : (k n : ℤ) → Some k ≡ Some n → k ≡ n
some-is k n is = cc

some-fact : (a b : Fact) → Some a ≡ Some b → a ≡ b
some-fact a b is = cc

-- a fact that tells a number says that a value has it
says-number : (fact : Fact) (n : ℤ) (value : CValue) → exact fact ≡ Some n → Says fact value → Says (Number n) value
says-number (Is k) n value is says = ap scalar_number says ∙ some-is k n is
says-number (Number k) n value is says = says ∙ some-is k n is
says-number (AtMost k) n value is says = absurd (cc)
says-number (AtLeast k) n value is says = absurd (cc)

-- one more number, where it is told
pub number-before : (known told new : Valuation) (spot : CSpot) (n : ℤ) → option_and_then exact (fact_in spot known) ≡ Some n →
    new ≡ (spot, Number n) ∷ told → Looser (known ∷ []) (told ∷ []) → Looser (known ∷ []) (new ∷ [])
number-before known told new spot n is made looser = record { holds = λ scope memory held. by scope memory held }
  where
    here : (scope : Scope) (memory : Memory) → Agrees known scope memory → (o : Option Fact) → fact_in spot known ≡ o → option_and_then exact o ≡ Some n →
        Says (Number n) (value_at memory (spot_location scope spot))
    here scope memory agrees None at h = absurd (cc)
    here scope memory agrees (Some fact) at h = says-number fact n _ h (agrees spot fact at)

    both : (scope : Scope) (memory : Memory) → Agrees known scope memory → Agrees told scope memory → Agrees ((spot, Number n) ∷ told) scope memory
    both scope memory agrees others asked fact h = pick (same_spot spot asked) refl h
      where
        pick : (b : Bool) → same_spot spot asked ≡ b → (if b then Some (Number n) else fact_in asked told) ≡ Some fact →
            Says fact (value_at memory (spot_location scope asked))
        pick true same h =
            subst (λ f. Says f (value_at memory (spot_location scope asked))) (some-fact _ _ h)
            (subst (λ s. Says (Number n) (value_at memory (spot_location scope s))) (spot-is spot asked same) (here scope memory agrees (fact_in spot known) refl is))
        pick false same h = others asked fact h

    of : (scope : Scope) (memory : Memory) → Agrees known scope memory → Holds (told ∷ []) scope memory → Holds (new ∷ []) scope memory
    of scope memory agrees (inl others) = inl (subst (λ k. Agrees k scope memory) (sym made) (both scope memory agrees others))
    of scope memory agrees (inr none) = absurd none

    by : (scope : Scope) (memory : Memory) → Holds (known ∷ []) scope memory → Holds (new ∷ []) scope memory
    by scope memory (inl agrees) = of scope memory agrees (looser.holds scope memory (inl agrees))
    by scope memory (inr none) = absurd none

-- ---- one of several cases

pub looser-chain : (one middle other : Facts) → Looser one middle → Looser middle other → Looser one other
looser-chain one middle other first second = record { holds = λ scope memory held. second.holds scope memory (first.holds scope memory held) }

-- one more case that is looser
pub looser-next : (cases : List (List Entry)) (k : ℕ) (case : List Entry) (so_far here : Bool) (facts : Facts) → k < length cases →
    case ≡ get_or cases k case → (here ≡ true → Looser (valuation case ∷ []) facts) →
    (so_far ≡ true → Looser (facts_of (drop k cases)) facts → Looser (facts_of cases) facts) →
    (so_far && here) ≡ true → Looser (facts_of (drop (k + 1) cases)) facts → Looser (facts_of cases) facts
looser-next cases k case so_far here facts small is told h both rest =
    h (and_first _ _ both) (subst (λ l. Looser (facts_of l) facts) (sym (drop_next cases k case small is)) (record { holds = λ scope memory held. by scope memory held }))
  where
    first : Looser (valuation case ∷ []) facts
    first = told (and_second so_far _ both)

    by : (scope : Scope) (memory : Memory) → Holds (valuation case ∷ facts_of (drop (k + 1) cases)) scope memory → Holds facts scope memory
    by scope memory (inl agrees) = first.holds scope memory (inl agrees)
    by scope memory (inr held) = rest.holds scope memory held

-- all cases
pub looser-done : (cases : List (List Entry)) (k : ℕ) (so_far : Bool) (facts : Facts) → length cases ≤ k →
    (so_far ≡ true → Looser (facts_of (drop k cases)) facts → Looser (facts_of cases) facts) → so_far ≡ true → Looser (facts_of cases) facts
looser-done cases k so_far facts over h is =
    h is (subst (λ l. Looser (facts_of l) facts) (sym (drop_all k cases over)) (record { holds = λ scope memory held. absurd held }))

-- ---- what a body leaves

-- less may be known after a body
pub after-looser : (facts exits looser : Facts) (body : List CStmt) → AfterBlock facts body exits → Looser exits looser → AfterBlock facts body looser
after-looser facts exits looser body after less = record {
  hold = λ scope running memory held goes. less.holds scope _ (after.hold scope running memory held goes);
}

-- one more case before a body
pub after-next : (cases : List (List Entry)) (k : ℕ) (case : List Entry) (so_far here : Bool) (f : CFunc) (facts : Facts) → k < length cases →
    case ≡ get_or cases k case → (here ≡ true → AfterBlock (known_from (valuation case ∷ []) f) f.body facts) →
    (so_far ≡ true → AfterBlock (known_from (facts_of (drop k cases)) f) f.body facts → AfterBlock (known_from (facts_of cases) f) f.body facts) →
    (so_far && here) ≡ true → AfterBlock (known_from (facts_of (drop (k + 1) cases)) f) f.body facts → AfterBlock (known_from (facts_of cases) f) f.body facts
after-next cases k case so_far here f facts small is told h both rest =
    h (and_first _ _ both) (subst (λ l. AfterBlock (known_from (facts_of l) f) f.body facts) (sym (drop_next cases k case small is))
    (record { hold = λ scope running memory held goes. by scope running memory held goes }))
  where
    first : AfterBlock (known_from (valuation case ∷ []) f) f.body facts
    first = told (and_second so_far _ both)

    by : (scope : Scope) → Running scope → (memory : Memory) → Holds (known_from (valuation case ∷ facts_of (drop (k + 1) cases)) f) scope memory →
        (block_c f.body scope memory).end ≡ goes_on → Holds facts scope (block_c f.body scope memory).memory
    by scope running memory (inl agrees) goes = first.hold scope running memory (inl agrees) goes
    by scope running memory (inr held) goes = rest.hold scope running memory held goes

-- all cases before a body
pub after-done : (cases : List (List Entry)) (k : ℕ) (so_far : Bool) (f : CFunc) (facts : Facts) → length cases ≤ k →
    (so_far ≡ true → AfterBlock (known_from (facts_of (drop k cases)) f) f.body facts → AfterBlock (known_from (facts_of cases) f) f.body facts) →
    so_far ≡ true → AfterBlock (known_from (facts_of cases) f) f.body facts
after-done cases k so_far f facts over h is =
    h is (subst (λ l. AfterBlock (known_from (facts_of l) f) f.body facts) (sym (drop_all k cases over))
    (record { hold = λ scope running memory held goes. absurd held }))
