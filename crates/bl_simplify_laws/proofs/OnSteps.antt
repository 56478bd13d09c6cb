-- What is known after assignments and calls.
use Rattle.std.proofs.Common.{◌≡◌, ℕ, ◌+◌, ℤ, Bool, true, false, inl, inr, List, [], ◌∷◌, ◌++◌, map, Option, Some, None}
use Rattle.std.proofs.Common.{refl, ap, sym, subst, ◌∙◌, arith}
use Rattle.std.proofs.lemmas.Bool.Decides.{Decides-int_eq}
use Rattle.std.proofs.lemmas.List.Elements.{All-cons, All-head, All-nil, All-tail}
use Rattle.std.specs.Prelude.{All, unwrap_or, if◌then◌else◌}
use Rattle.bl_tree.specs.declared.place.Place.{Place}
use Rattle.bl_tree.specs.declared.c.CExpr.{CExpr}
use Rattle.bl_tree.specs.declared.c.CPlace.{CPlace}
use Rattle.bl_tree.specs.declared.c.CStmt.{fold-roll-CStmt}
use Rattle.bl_tree.specs.declared.c.CStmtKind.{fold-roll-CStmtKind}
use Rattle.bl_ctext_semantics.specs.Course.{goes_on, Outcome, going}
use Rattle.bl_ctext_semantics.specs.Meaning.{Counted, Scope, call_c, executed, given, location_c, named_location, next, runs_c, value_c}
use Rattle.bl_ctext_semantics.specs.Memory.{CValue, Location, Memory, Projection, Root, left_after, number_or, same_root, scalar, set_at}
use Rattle.bl_ctext_semantics.specs.Memory.{value_at, variable, with_part}
use Rattle.bl_ctext_semantics.proofs.Induction.{Optional}
use Rattle.bl_simplify_laws.specs.declared.facts.CSpot.{CSpot}
use Rattle.bl_simplify_laws.specs.declared.facts.Fact.{Fact}
use Rattle.bl_simplify_laws.specs.declared.facts.Fact.TheVariants.{AtLeast, AtMost, Is, Number}
use Rattle.bl_simplify_laws.specs.Frames.{Running, SpotApart}
use Rattle.bl_simplify_laws.specs.Known.{Agrees, HasFact, Holds, Says, Valuation, fact_in, told}
use Rattle.bl_simplify_laws.specs.Known.{place_is as told_of_place}
use Rattle.bl_simplify_laws.specs.Observed.{PointBelow, RootBelow, observed, went_on}
use Rattle.bl_simplify_laws.specs.Spots.{lent_in, same_spot, spot_location, spot_of_place, spots_apart}
use Rattle.bl_simplify_laws.specs.Steps.{CallSteps, SameSteps, SetSteps, after_set, without_spots, all_same, without_spot, same_whole, set_known, set_stmt}
use Rattle.bl_simplify_laws.specs.Steps.{with_fact}
use Rattle.bl_simplify_laws.proofs.OnFrames.{calls-leave, set-leaves}
use Rattle.bl_simplify_laws.proofs.OnKnown.{expr-sound, place-sound}
use Rattle.bl_simplify_laws.proofs.OnSpots.{InSpot, and-left, and-right, apart-lies, left-is, left-whole, place-in-spot, root-is, root-itself, some-of}
use Rattle.bl_simplify_laws.proofs.OnSpots.{spot-is, spot-itself, spot-lies, spots-apart}
use Rattle.bl_simplify_laws.proofs.OnTables.{below-more}

-- ---- what isn't forgotten

-- a spot of which something is known after another was forgotten is apart from that, and had this number
kept : (gone spot : CSpot) (known : Valuation) (n : Fact) → fact_in spot (without_spot gone known) ≡ Some n →
    (spots_apart gone spot ≡ true) × (fact_in spot known ≡ Some n)
kept gone spot [] n h = cc
kept gone spot (entry ∷ rest) n h = by (spots_apart gone entry.0) (same_spot entry.0 spot) refl refl (kept gone spot rest n) h
  where
    by : (b c : Bool) → spots_apart gone entry.0 ≡ b → same_spot entry.0 spot ≡ c →
        (fact_in spot (without_spot gone rest) ≡ Some n → (spots_apart gone spot ≡ true) × (fact_in spot rest ≡ Some n)) →
        fact_in spot (if b then entry ∷ without_spot gone rest else without_spot gone rest) ≡ Some n →
        (spots_apart gone spot ≡ true) × ((if c then Some entry.1 else fact_in spot rest) ≡ Some n)
    by true true e f later h =
        (ap (spots_apart gone) (sym (spot-is entry.0 spot f)) ∙ e, sym (ap (λ c. if c then Some entry.1 else fact_in spot (without_spot gone rest)) f) ∙ h)
    by true false e f later h = later (sym (ap (λ c. if c then Some entry.1 else fact_in spot (without_spot gone rest)) f) ∙ h)
    by false true e f later h =
        let apart : spots_apart gone spot ≡ true = (later h).0 in
        absurd (no (sym e ∙ ap (spots_apart gone) (spot-is entry.0 spot f) ∙ apart))
      where
        no : false ≡ true → ⊥
        no h = cc
    by false false e f later h = later h

-- what is known after spots are forgotten is known of spots apart from them, and was known
pub all-kept : (spots : List CSpot) (spot : CSpot) (known : Valuation) (n : Fact) → fact_in spot (without_spots spots known) ≡ Some n →
    All (λ gone. spots_apart gone spot ≡ true) spots × (fact_in spot known ≡ Some n)
all-kept [] spot known n h = (All-nil (λ gone. spots_apart gone spot ≡ true), h)
all-kept (gone ∷ spots) spot known n h =
    let own : (spots_apart gone spot ≡ true) × (fact_in spot (without_spots spots known) ≡ Some n) = kept gone spot (without_spots spots known) n h in
    let rest : All (λ gone. spots_apart gone spot ≡ true) spots × (fact_in spot known ≡ Some n) = all-kept spots spot known n own.1 in
    (All-cons (λ gone. spots_apart gone spot ≡ true) gone spots own.0 rest.0, rest.1)

pub all-map : {A : Type 0} (P Q : A → Type 0) → ((a : A) → P a → Q a) → (xs : List A) → All P xs → All Q xs
all-map P Q f [] h = All-nil Q
all-map P Q f (x ∷ xs) h = All-cons Q x xs (f x (All-head P x xs h)) (all-map P Q f xs (All-tail P x xs h))

-- ---- numbers of spots

pub below-spot : (scope : Scope) → PointBelow scope.depth scope.pointers → (spot : CSpot) → RootBelow (scope.depth + 1) (spot_location scope spot).root
below-spot scope below spot = by spot.through
  where
    by : (through : Bool) → RootBelow (scope.depth + 1) (named_location scope through spot.name).root
    by false = omega arith
    by true = at (scope.pointers spot.name) refl
      where
        at : (o : Option Location) → scope.pointers spot.name ≡ o →
            RootBelow (scope.depth + 1) (unwrap_or o (record { root = variable scope.depth spot.name; parts = [] })).root
        at None h = omega arith
        at (Some place) h = below-more scope.depth place.root (below spot.name place h)

-- no number of a spot lies in one apart from it
pub apart-spot : (scope : Scope) → Running scope → (gone spot : CSpot) (way : List Projection) → spots_apart gone spot ≡ true →
    SpotApart scope (spot_location scope spot).root ((spot_location scope spot).parts ++ way) gone
apart-spot scope running gone spot way apart =
    apart-lies (spot_location scope gone) (spot_location scope spot) way
    (spots-apart scope running.below running.apart gone spot (spot_location scope gone) (spot_location scope spot) apart (spot-itself scope gone)
    (spot-itself scope spot))

-- each number is as before that lies in none of some spots
abbrev pub KeptBut : Scope → List CSpot → Memory → Memory → Type 0
KeptBut scope spots before after =
    (root : Root) (way : List Projection) → RootBelow (scope.depth + 1) root → All (SpotApart scope root way) spots → after root way ≡ before root way

-- what is known of spots apart from these still holds
pub stay-agrees : (scope : Scope) → Running scope → (spots : List CSpot) (known : Valuation) (before after : Memory) → KeptBut scope spots before after →
    Agrees (without_spots spots known) scope before → Agrees (without_spots spots known) scope after
stay-agrees scope running spots known before after leaves agrees spot n is =
    let own = all-kept spots spot known n is in
    let kept_value : value_at after (spot_location scope spot) ≡ value_at before (spot_location scope spot) =
    (λ i way. leaves (spot_location scope spot).root ((spot_location scope spot).parts ++ way) (below-spot scope running.below spot)
    (all-map (λ gone. spots_apart gone spot ≡ true) (SpotApart scope (spot_location scope spot).root ((spot_location scope spot).parts ++ way))
    (λ gone. apart-spot scope running gone spot way) spots own.0) i) in
    subst (Says n) (sym kept_value) (agrees spot n is)

pub stay-holds : (scope : Scope) → Running scope → (spots : List CSpot) (facts : List Valuation) (before after : Memory) → KeptBut scope spots before after →
    Holds (map (without_spots spots) facts) scope before → Holds (map (without_spots spots) facts) scope after
stay-holds scope running spots [] before after leaves h = absurd h
stay-holds scope running spots (known ∷ rest) before after leaves (inr h) = inr (stay-holds scope running spots rest before after leaves h)
stay-holds scope running spots (known ∷ rest) before after leaves (inl agrees) = inl (stay-agrees scope running spots known before after leaves agrees)

-- less is known where something is forgotten
pub forgotten-holds : (spots : List CSpot) (facts : List Valuation) (scope : Scope) (memory : Memory) → Holds facts scope memory →
    Holds (map (without_spots spots) facts) scope memory
forgotten-holds spots [] scope memory h = absurd h
forgotten-holds spots (known ∷ rest) scope memory (inl agrees) = inl (λ spot n is. agrees spot n (all-kept spots spot known n is).1)
forgotten-holds spots (known ∷ rest) scope memory (inr h) = inr (forgotten-holds spots rest scope memory h)

pub kept-holds : (scope : Scope) → Running scope → (spots : List CSpot) (facts : List Valuation) (before after : Memory) → KeptBut scope spots before after →
    Holds facts scope before → Holds (map (without_spots spots) facts) scope after
kept-holds scope running spots facts before after leaves h =
    stay-holds scope running spots facts before after leaves (forgotten-holds spots facts scope before h)

-- ---- calls

pub call-steps : CallSteps
call-steps scope running memory facts h call =
    kept-holds scope running (lent_in call) facts memory (call_c call scope memory).memory
    (λ root way below spots. calls-leave scope running.keeps.leaves root way below call spots memory) h

-- ---- assignments

-- the value of a place that was set
pub set-value : (memory : Memory) (l : Location) (v : CValue) → value_at (set_at memory l v) l ≡ v
set-value memory l v = λ i way. each way i
  where
    each : (way : List Projection) → set_at memory l v l.root (l.parts ++ way) ≡ v way
    each way =
        ap (λ b. (if b then with_part (memory l.root) l.parts v else memory l.root) (l.parts ++ way)) (root-itself l.root)
        ∙ ap (λ o. number_or o v (memory l.root (l.parts ++ way))) (left-whole l.parts way)

-- an assignment by what its place and its value give
abbrev set_by : Memory → Counted Location → Counted CValue → Outcome Memory
set_by memory place value = executed memory (next place (λ p. next value (λ v. given (Some (set_at memory p v))))) going

set-is : (scope : Scope) (memory : Memory) (at : Place) (place : CPlace) (e : CExpr) →
    runs_c (set_stmt at place e) scope memory ≡ set_by memory (location_c place scope memory) (value_c e scope memory)
set-is scope memory at place e = rw (fold-roll-CStmt, fold-roll-CStmtKind) refl

-- an assignment that goes on has a place and a value
record HasSet (memory : Memory) (place : Option Location) (value : Option CValue) (after : Memory) : Type 0 where
  pub at : Location
  pub number : CValue
  pub place_is : place ≡ Some at
  pub value_is : value ≡ Some number
  pub after_is : after ≡ set_at memory at number

has-set : (memory : Memory) (j k : ℕ) (place : Option Location) (value : Option CValue) →
    (set_by memory (record { count = j; answer = place }) (record { count = k; answer = value })).end ≡ goes_on →
    HasSet memory place value (set_by memory (record { count = j; answer = place }) (record { count = k; answer = value })).memory
has-set memory j k (Some l) (Some v) h = record { at = l; number = v; place_is = refl; value_is = refl; after_is = refl }
has-set memory j k (Some l) None h = cc
has-set memory j k None value h = cc

-- what is known of spots apart from that in which a place was set
others-agree : (scope : Scope) → Running scope → (memory : Memory) (known : Valuation) → Agrees known scope memory →
    (gone : CSpot) (l : Location) (v : CValue) →
    InSpot scope gone l → Agrees (without_spot gone known) scope (set_at memory l v)
others-agree scope running memory known agrees gone l v inside =
    stay-agrees scope running (gone ∷ []) known memory (set_at memory l v)
    (λ root way below spots. set-leaves memory l v root way
    (spot-lies scope gone l root way inside (All-head (SpotApart scope root way) gone [] spots)))
    (λ spot n is. agrees spot n (kept gone spot known n is).1)

-- what is known after a spot was set
spot-agrees : (scope : Scope) → Running scope → (memory : Memory) (known : Valuation) → Agrees known scope memory →
    (spot : CSpot) (v : CValue) (o : Option Fact) →
    ((fact : Fact) → o ≡ Some fact → Says fact v) → Agrees (with_fact spot o known) scope (set_at memory (spot_location scope spot) v)
spot-agrees scope running memory known agrees spot v None h asked n is =
    others-agree scope running memory known agrees spot (spot_location scope spot) v (spot-itself scope spot) asked n is
spot-agrees scope running memory known agrees spot v (Some x) h asked n is = by (same_spot spot asked) refl is
  where
    by : (b : Bool) → same_spot spot asked ≡ b → (if b then Some x else fact_in asked (without_spot spot known)) ≡ Some n →
        Says n (value_at (set_at memory (spot_location scope spot) v) (spot_location scope asked))
    by true e is =
        subst (λ s. Says n (value_at (set_at memory (spot_location scope spot) v) (spot_location scope s))) (spot-is spot asked e)
        (subst (Says n) (sym (set-value memory (spot_location scope spot) v)) (subst (λ f. Says f v) (some-of x n is) (h x refl)))
    by false e is =
        others-agree scope running memory known agrees spot (spot_location scope spot) v (spot-itself scope spot) asked n is

set-agrees : (scope : Scope) → Running scope → (memory : Memory) (place : CPlace) (e : CExpr) (known : Valuation) → Agrees known scope memory →
    (l : Location) (v : CValue) → (location_c place scope memory).answer ≡ Some l → (value_c e scope memory).answer ≡ Some v →
    Agrees (after_set place e known) scope (set_at memory l v)
set-agrees scope running memory place e known agrees l v leads is = by (told_of_place place).spot refl
  where
    says : (fact : Fact) → (told e).fact known ≡ Some fact → Says fact v
    says fact h = subst (HasFact fact) is ((expr-sound scope memory e).1 known agrees fact h)

    by : (o : Option CSpot) → (told_of_place place).spot ≡ o →
        Agrees (set_known o (spot_of_place place) ((told e).fact known) known) scope (set_at memory l v)
    by (Some spot) h =
        let same : l ≡ spot_location scope spot = some-of l (spot_location scope spot) (sym leads ∙ (place-sound scope memory place).1 spot h) in
        subst (λ x. Agrees (with_fact spot ((told e).fact known) known) scope (set_at memory x v)) (sym same)
        (spot-agrees scope running memory known agrees spot v ((told e).fact known) says)
    by None h =
        others-agree scope running memory known agrees (spot_of_place place) l v
        (subst (Optional (InSpot scope (spot_of_place place))) leads (place-in-spot scope place memory))

pub set-steps : SetSteps
set-steps scope running memory facts holds at place e goes =
    let is : runs_c (set_stmt at place e) scope memory ≡ set_by memory (location_c place scope memory) (value_c e scope memory) =
    set-is scope memory at place e in
    let done : HasSet memory (location_c place scope memory).answer (value_c e scope memory).answer
    (set_by memory (location_c place scope memory) (value_c e scope memory)).memory =
    has-set memory (location_c place scope memory).count (value_c e scope memory).count (location_c place scope memory).answer
    (value_c e scope memory).answer (sym (ap (λ o. o.end) is) ∙ goes) in
    subst (Holds (map (after_set place e) facts) scope) (sym (ap (λ o. o.memory) is ∙ done.after_is))
    (each facts holds done.at done.number done.place_is done.value_is)
  where
    each : (facts : List Valuation) → Holds facts scope memory → (l : Location) (v : CValue) → (location_c place scope memory).answer ≡ Some l →
        (value_c e scope memory).answer ≡ Some v → Holds (map (after_set place e) facts) scope (set_at memory l v)
    each [] h l v leads is = absurd h
    each (known ∷ rest) (inl agrees) l v leads is = inl (set-agrees scope running memory place e known agrees l v leads is)
    each (known ∷ rest) (inr holds) l v leads is = inr (each rest holds l v leads is)

-- ---- assignments that change nothing

-- a place that has this value already
pub set-same : (memory : Memory) (l : Location) (v : CValue) → value_at memory l ≡ v → set_at memory l v ≡ memory
set-same memory l v is = λ i root way. each root way i
  where
    part : (root : Root) (way : List Projection) → l.root ≡ root → (o : Option (List Projection)) → left_after l.parts way ≡ o →
        number_or o v (memory root way) ≡ memory root way
    part root way same None e = refl
    part root way same (Some rest) e =
        ap (λ (u : CValue). u rest) (sym is)
        ∙ (λ i. memory (same i) (sym (left-is l.parts way rest e) i))

    each : (root : Root) (way : List Projection) → set_at memory l v root way ≡ memory root way
    each root way = by (same_root l.root root) refl
      where
        by : (b : Bool) → same_root l.root root ≡ b → (if b then with_part (memory root) l.parts v else memory root) way ≡ memory root way
        by true h = part root way (root-is l.root root h) (left_after l.parts way) refl
        by false h = refl

set-seen : (memory : Memory) (place : Counted Location) (value : Counted CValue) (l : Location) (v : CValue) → place.answer ≡ Some l →
    value.answer ≡ Some v → observed (set_by memory place value) ≡ went_on (set_at memory l v)
set-seen memory place value l v h k =
    λ i. observed (set_by memory (record { count = place.count; answer = h i }) (record { count = value.count; answer = k i }))

value-is : (n : ℤ) (o : Option CValue) → HasFact (Is n) o → o ≡ Some (scalar n)
value-is n None h = absurd h
value-is n (Some v) h = ap Some h

same-whole-is : (o p : Option Fact) → same_whole o p ≡ true → (n : ℤ) × ((o ≡ Some (Is n)) × (p ≡ Some (Is n)))
same-whole-is (Some (Is a)) (Some (Is b)) h = (a, (refl, ap (λ n. Some (Is n)) (sym ((Decides-int_eq a b).0 h))))
same-whole-is (Some (Is a)) (Some (Number b)) h = cc
same-whole-is (Some (Is a)) (Some (AtMost b)) h = cc
same-whole-is (Some (Is a)) (Some (AtLeast b)) h = cc
same-whole-is (Some (Is a)) None h = cc
same-whole-is (Some (Number a)) p h = cc
same-whole-is (Some (AtMost a)) p h = cc
same-whole-is (Some (AtLeast a)) p h = cc
same-whole-is None p h = cc

-- a spot that has the number of what is assigned
pub same-steps : SameSteps
same-steps scope memory facts holds at place e spot is all =
    ap observed (set-is scope memory at place e) ∙ each facts holds all
  where
    each : (facts : List Valuation) → Holds facts scope memory → all_same facts spot e ≡ true →
        observed (set_by memory (location_c place scope memory) (value_c e scope memory)) ≡ went_on memory
    each [] h all = absurd h
    each (known ∷ rest) (inr h) all = each rest h (and-right (same_whole ((told e).fact known) (fact_in spot known)) (all_same rest spot e) all)
    each (known ∷ rest) (inl agrees) all =
        let own = same-whole-is ((told e).fact known) (fact_in spot known)
        (and-left (same_whole ((told e).fact known) (fact_in spot known)) (all_same rest spot e) all) in
        set-seen memory (location_c place scope memory) (value_c e scope memory) (spot_location scope spot) (scalar own.0)
        ((place-sound scope memory place).1 spot is)
        (value-is own.0 (value_c e scope memory).answer ((expr-sound scope memory e).1 known agrees (Is own.0) own.1.0))
        ∙ ap went_on (set-same memory (spot_location scope spot) (scalar own.0) (agrees spot (Is own.0) own.1.1))
