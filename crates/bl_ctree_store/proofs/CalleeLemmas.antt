-- What is kept of the instances that `run` statements begin.
use Rattle.std.proofs.Common.{◌≡◌, ℕ, Bool, true, false, cond, ◌&&◌, List, Option, Some, None, refl, sym, ap, ◌∙◌, nat_cmp, nat_eq}
use Rattle.std.specs.BTreeMap.{is_at}
use Rattle.std.specs.Cmp.{unsigned_tied}
use Rattle.std.specs.Option.{option_or}
use Rattle.std.specs.Ordering.{ordering_then}
use Rattle.std.specs.Prelude.{is_some}
use Rattle.std.proofs.lemmas.Bool.{and_parts}
use Rattle.bl_tree.proofs.Basics.{same_number}
use Rattle.bl_tree.specs.declared.place.Place.{Place}
use Rattle.bl_tree.specs.Rules.{same_place}
use Rattle.bl_ctree.specs.declared.instance.Origin.{Origin}
use Rattle.bl_ctree.specs.Instances.{begins_at}
use Rattle.bl_ctree_store.specs.Callees.{kept_callee, key_at, key_cmp}
use Rattle.bl_effects.proofs.EntryLemmas.{both_equal}
use Rattle.bl_tree.proofs.FirstLemmas.{same_true}

-- a key is that of an origin where the `run` statement begins it
same_key : (caller : ℕ) (place : Place) (o : Origin) → is_at (key_cmp (key_at o.caller o.place)) (key_at caller place) ≡ begins_at caller place (Some o)
same_key caller place o =
    both_equal (nat_cmp o.caller caller) (ordering_then (nat_cmp o.place.start place.start) (nat_cmp o.place.end place.end))
    ∙ (λ i. unsigned_tied o.caller caller i && both_equal (nat_cmp o.place.start place.start) (nat_cmp o.place.end place.end) i)
    ∙ (λ i. nat_eq o.caller caller && (unsigned_tied o.place.start place.start i && unsigned_tied o.place.end place.end i))

-- where it does, it is the `run` statement at the origin's place in its caller
begun_same : (entries : List ((ℕ × (ℕ × ℕ)) × ℕ)) (caller : ℕ) (place : Place) (o : Origin) →
    begins_at caller place (Some o) ≡ true → kept_callee entries caller place ≡ kept_callee entries o.caller o.place
begun_same entries caller place o is =
    let both = and_parts (nat_eq o.caller caller) (same_place o.place place) is in
    sym (ap (λ caller. kept_callee entries caller o.place) (same_number o.caller caller both.0) ∙ ap (kept_callee entries caller) (same_true o.place place both.1))

-- ---- one more instance

kept_all : (found : Option ℕ) (b : Bool) (k : ℕ) → (b ≡ true → is_some found ≡ true) → found ≡ option_or found (cond b (Some k) None)
kept_all (Some n) b k there = refl
kept_all None true k there = let none : false ≡ true = there refl in absurd cc
kept_all None false k there = refl

kept_more : (found after : Option ℕ) (b : Bool) (k : ℕ) → (b ≡ true → is_some found ≡ false) → after ≡ cond b (Some k) found →
    after ≡ option_or found (cond b (Some k) None)
kept_more (Some n) after true k absent is = let some : true ≡ false = absent refl in absurd cc
kept_more None after true k absent is = is
kept_more (Some n) after false k absent is = is
kept_more None after false k absent is = is

-- where one is kept for its `run` statement nothing changes
pub begun_before : (entries : List ((ℕ × (ℕ × ℕ)) × ℕ)) (o : Origin) (k : ℕ) → is_some (kept_callee entries o.caller o.place) ≡ true →
    (caller : ℕ) (place : Place)
    → kept_callee entries caller place ≡ option_or (kept_callee entries caller place) (cond (begins_at caller place (Some o)) (Some k) None)
begun_before entries o k there caller place =
    kept_all (kept_callee entries caller place) (begins_at caller place (Some o)) k (λ is. ap is_some (begun_same entries caller place o is) ∙ there)

-- and else it is kept
pub begun_more : (old new : List ((ℕ × (ℕ × ℕ)) × ℕ)) (o : Origin) (k : ℕ) → is_some (kept_callee old o.caller o.place) ≡ false →
    (caller : ℕ) (place : Place)
    → kept_callee new caller place ≡ cond (is_at (key_cmp (key_at o.caller o.place)) (key_at caller place)) (Some k) (kept_callee old caller place)
    → kept_callee new caller place ≡ option_or (kept_callee old caller place) (cond (begins_at caller place (Some o)) (Some k) None)
begun_more old new o k absent caller place is =
    kept_more (kept_callee old caller place) (kept_callee new caller place) (begins_at caller place (Some o)) k
    (λ b. ap is_some (begun_same old caller place o b) ∙ absent)
    (is ∙ ap (λ b. cond b (Some k) (kept_callee old caller place)) (same_key caller place o))
