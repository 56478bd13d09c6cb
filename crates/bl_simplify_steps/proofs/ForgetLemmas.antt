-- What is still known after something in several spots may have changed, entry by entry.
use Rattle.std.proofs.Common.{◌≡◌, ℕ, ◌+◌, ◌<◌, ◌≤◌, Bool, true, false, ◌&&◌, List, [], ◌∷◌, ◌++◌, drop, length, get_or, map, refl, sym, ap, ◌∙◌, append_assoc}
use Rattle.std.specs.List.{list_all}
use Rattle.std.proofs.lemmas.List.{append-nil, drop_all, map-append}
use Rattle.bl_tree.proofs.Basics.{and_first, and_second, drop_next}
use Rattle.std.specs.Prelude.{if◌then◌else◌}
use Rattle.bl_simplify_laws.specs.declared.facts.CSpot.{CSpot}
use Rattle.bl_simplify_laws.specs.declared.facts.Fact.{Fact}
use Rattle.bl_simplify_laws.specs.Known.{Valuation}
use Rattle.bl_simplify_laws.specs.Spots.{spots_apart}
use Rattle.bl_simplify_laws.specs.Steps.{without_spot, without_spots}
use Rattle.bl_simplify_facts.specs.declared.entries.Entry.{Entry}
use Rattle.bl_simplify_facts.specs.Entries.{facts_of, valuation}

-- nothing is left of nothing
pub without-none : (gone : List CSpot) → without_spots gone [] ≡ []
without-none [] = refl
without-none (spot ∷ gone) = ap (without_spot spot) (without-none gone)

both-kept : (b : Bool) (x y : Valuation) → (if b then x else y) ≡ (if b && true then x else y)
both-kept true x y = refl
both-kept false x y = refl

one-gone : (b : Bool) (x y : Valuation) → y ≡ (if b && false then x else y)
one-gone true x y = refl
one-gone false x y = refl

-- an entry stays if its spot is apart from all
pub without-next : (gone : List CSpot) (spot : CSpot) (fact : Fact) (rest : Valuation) →
    without_spots gone ((spot, fact) ∷ rest)
    ≡ (if list_all (λ other. spots_apart other spot) gone then (spot, fact) ∷ without_spots gone rest else without_spots gone rest)
without-next [] spot fact rest = refl
without-next (first ∷ gone) spot fact rest =
    ap (without_spot first) (without-next gone spot fact rest) ∙ by (list_all (λ other. spots_apart other spot) gone)
  where
    left : Valuation
    left = without_spots gone rest

    by : (all : Bool) → without_spot first (if all then (spot, fact) ∷ left else left)
        ≡ (if spots_apart first spot && all then (spot, fact) ∷ without_spot first left else without_spot first left)
    by true = both-kept (spots_apart first spot) _ _
    by false = one-gone (spots_apart first spot) _ _

pub stays : (gone : List CSpot) (spot : CSpot) (fact : Fact) (rest : Valuation) → list_all (λ other. spots_apart other spot) gone ≡ true →
    without_spots gone ((spot, fact) ∷ rest) ≡ (spot, fact) ∷ without_spots gone rest
stays gone spot fact rest h =
    without-next gone spot fact rest ∙ ap (λ b. if b then (spot, fact) ∷ without_spots gone rest else without_spots gone rest) h

pub goes : (gone : List CSpot) (spot : CSpot) (fact : Fact) (rest : Valuation) → list_all (λ other. spots_apart other spot) gone ≡ false →
    without_spots gone ((spot, fact) ∷ rest) ≡ without_spots gone rest
goes gone spot fact rest h =
    without-next gone spot fact rest ∙ ap (λ b. if b then (spot, fact) ∷ without_spots gone rest else without_spots gone rest) h

-- what is left of an entry stands before what is left of the others
pub without-both : (gone : List CSpot) (spot : CSpot) (fact : Fact) (rest : Valuation) →
    without_spots gone ((spot, fact) ∷ rest) ≡ without_spots gone ((spot, fact) ∷ []) ++ without_spots gone rest
without-both gone spot fact rest = by (list_all (λ other. spots_apart other spot) gone) refl
  where
    by : (b : Bool) → list_all (λ other. spots_apart other spot) gone ≡ b →
        without_spots gone ((spot, fact) ∷ rest) ≡ without_spots gone ((spot, fact) ∷ []) ++ without_spots gone rest
    by true h =
        stays gone spot fact rest h
        ∙ sym (ap (λ v. v ++ without_spots gone rest) (stays gone spot fact [] h ∙ ap (λ v. (spot, fact) ∷ v) (without-none gone)))
    by false h = goes gone spot fact rest h ∙ sym (ap (λ v. v ++ without_spots gone rest) (goes gone spot fact [] h ∙ without-none gone))

-- the entry that stays, and that which goes
pub one-stays : (gone : List CSpot) (spot : CSpot) (fact : Fact) → list_all (λ other. spots_apart other spot) gone ≡ true →
    without_spots gone ((spot, fact) ∷ []) ≡ (spot, fact) ∷ []
one-stays gone spot fact h = stays gone spot fact [] h ∙ ap (λ v. (spot, fact) ∷ v) (without-none gone)

pub one-goes : (gone : List CSpot) (spot : CSpot) (fact : Fact) → list_all (λ other. spots_apart other spot) gone ≡ false →
    without_spots gone ((spot, fact) ∷ []) ≡ []
one-goes gone spot fact h = goes gone spot fact [] h ∙ without-none gone

-- one more entry, and all of them
pub entry-next : (gone : List CSpot) (all : List Entry) (k : ℕ) (entry : Entry) (left next whole : Valuation) → k < length all →
    entry ≡ get_or all k entry → next ≡ left ++ without_spots gone ((entry.spot, entry.fact) ∷ []) →
    left ++ without_spots gone (valuation (drop k all)) ≡ whole → next ++ without_spots gone (valuation (drop (k + 1) all)) ≡ whole
entry-next gone all k entry left next whole h is added now =
    let rest = valuation (drop (k + 1) all) in
    ap (λ v. v ++ without_spots gone rest) added
    ∙ (append_assoc left (without_spots gone ((entry.spot, entry.fact) ∷ [])) (without_spots gone rest)
    ∙ (ap (λ v. left ++ v) (sym (without-both gone entry.spot entry.fact rest))
    ∙ (ap (λ v. left ++ without_spots gone (valuation v)) (sym (drop_next all k entry h is)) ∙ now)))

pub entries-done : (gone : List CSpot) (all : List Entry) (k : ℕ) (left whole : Valuation) → length all ≤ k →
    left ++ without_spots gone (valuation (drop k all)) ≡ whole → left ≡ whole
entries-done gone all k left whole past now =
    sym (append-nil left) ∙ (ap (λ v. left ++ v) (sym (without-none gone)) ∙ (ap (λ v. left ++ without_spots gone (valuation v)) (sym (drop_all k all past)) ∙ now))

-- where all spots are apart nothing is forgotten
pub all-stay : (gone : List CSpot) (case : List Entry) → list_all (λ entry. list_all (λ other. spots_apart other entry.spot) gone) case ≡ true →
    without_spots gone (valuation case) ≡ valuation case
all-stay gone [] h = without-none gone
all-stay gone (entry ∷ case) h =
    stays gone entry.spot entry.fact (valuation case) (and_first _ _ h)
    ∙ ap (λ v. (entry.spot, entry.fact) ∷ v) (all-stay gone case (and_second (list_all (λ other. spots_apart other entry.spot) gone) _ h))

pub cases-stay : (gone : List CSpot) (cases : List (List Entry)) →
    list_all (λ case. list_all (λ entry. list_all (λ other. spots_apart other entry.spot) gone) case) cases ≡ true →
    map (without_spots gone) (facts_of cases) ≡ facts_of cases
cases-stay gone [] h = refl
cases-stay gone (case ∷ cases) h =
    ap (λ v. v ∷ map (without_spots gone) (facts_of cases)) (all-stay gone case (and_first _ _ h))
    ∙ ap (λ l. valuation case ∷ l)
    (cases-stay gone cases (and_second (list_all (λ entry. list_all (λ other. spots_apart other entry.spot) gone) case) _ h))

-- an entry that stays is added, and one that goes is not
pub entry-added : (gone : List CSpot) (left new : List Entry) (entry copy : Entry) → new ≡ left ++ copy ∷ [] → copy ≡ entry →
    list_all (λ other. spots_apart other entry.spot) gone ≡ true →
    valuation new ≡ valuation left ++ without_spots gone ((entry.spot, entry.fact) ∷ [])
entry-added gone left new entry copy pushed is apart =
    ap valuation (pushed ∙ ap (λ e. left ++ e ∷ []) is)
    ∙ (map-append (λ e. (e.spot, e.fact)) left (entry ∷ [])
    ∙ ap (λ v. valuation left ++ v) (sym (one-stays gone entry.spot entry.fact apart)))

pub entry-left : (gone : List CSpot) (left : List Entry) (entry : Entry) → list_all (λ other. spots_apart other entry.spot) gone ≡ false →
    valuation left ≡ valuation left ++ without_spots gone ((entry.spot, entry.fact) ∷ [])
entry-left gone left entry near = sym (ap (λ v. valuation left ++ v) (one-goes gone entry.spot entry.fact near) ∙ append-nil (valuation left))
