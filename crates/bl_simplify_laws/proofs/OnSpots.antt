-- Spots: where places lead, and which spots have nothing in common.
use Rattle.std.proofs.Common.{◌≡◌, ℕ, Bool, true, false, not, ◌==◌, ◌&&◌, ◌||◌, List, [], ◌∷◌, ◌++◌, map, Option, Some, None}
use Rattle.std.proofs.Common.{refl, ap, sym, ◌∙◌, arith}
use Rattle.std.proofs.lemmas.Grind.{common_steps}
use Rattle.std.proofs.lemmas.List.Elements.{All-head}
use Rattle.std.proofs.lemmas.Slice.Eq.{bytes_eq-Decides}
use Rattle.std.specs.Prelude.{All, bytes_eq, is_some, unwrap_or, if◌then◌else◌}
use Rattle.bl_tree.specs.declared.text.Text.{Text}
use Rattle.bl_tree.specs.declared.c.CIndex.{CIndex}
use Rattle.bl_tree.specs.declared.c.CPlace.{CPlace, fold-roll-CPlace, roll-CPlace}
use Rattle.bl_tree.specs.declared.c.CStep.{CStep, fold-roll-CStep, roll-CStep}
use Rattle.bl_ctext_semantics.specs.Meaning.{Counted, Scope, each_of, location_c, named_location, next, way_of}
use Rattle.bl_ctext_semantics.specs.Memory.{Location, Memory, Projection, Root, element, input_object, left_after, member, output_object}
use Rattle.bl_ctext_semantics.specs.Memory.{same_part, same_root, state_object, variable}
use Rattle.bl_ctext_semantics.proofs.Folds.{index_c, step_c}
use Rattle.bl_ctext_semantics.proofs.Induction.{ExprCases, Optional, induct_place}
use Rattle.bl_simplify_laws.specs.declared.facts.CSpot.{CSpot}
use Rattle.bl_simplify_laws.specs.Frames.{lies_in}
use Rattle.bl_simplify_laws.specs.Observed.{PointBelow, RootBelow}
use Rattle.bl_simplify_laws.specs.Spots.{OwnApart, are_apart, first_of, first_part, firsts_differ, is_own, member_of_step}
use Rattle.bl_simplify_laws.specs.Spots.{same_first, same_spot, same_truth, spot_location, spot_of_place, spots_apart, ways_part}

-- ---- what an evaluation gives

-- what an evaluation gives has P where what follows gives it
pub next-has : {A B : Type 0} (P : B → Type 0) (c : Counted A) (f : A → Counted B) → ((a : A) → Optional P (f a).answer) → Optional P (next c f).answer
next-has {A} {B} P c f h = by c.answer
  where
    by : (o : Option A) → Optional P (next (record { count = c.count; answer = o }) f).answer
    by None = tt
    by (Some a) = h a

-- what an evaluation gives has P where what follows gives it for what has Q
pub next-with : {A B : Type 0} (Q : A → Type 0) (P : B → Type 0) (c : Counted A) (f : A → Counted B) → Optional Q c.answer →
    ((a : A) → Q a → Optional P (f a).answer) → Optional P (next c f).answer
next-with {A} {B} Q P c f q h = by c.answer q
  where
    by : (o : Option A) → Optional Q o → Optional P (next (record { count = c.count; answer = o }) f).answer
    by None q = tt
    by (Some a) q = h a q

-- whatever it gives
pub any : {A : Type 0} (P : A → Type 0) → ((a : A) → P a) → (o : Option A) → Optional P o
any P h None = tt
any P h (Some a) = h a

pub some-of : {A : Type 0} (a b : A) → Some a ≡ Some b → a ≡ b
some-of a b h = cc

pub and-left : (a b : Bool) → (a && b) ≡ true → a ≡ true
and-left true b h = refl
and-left false b h = cc

pub and-right : (a b : Bool) → (a && b) ≡ true → b ≡ true
and-right true b h = h
and-right false b h = cc

-- ---- names and parts

pub same-name : (m n : Text) → bytes_eq m n ≡ true → m ≡ n
same-name m n h = (bytes_eq-Decides m n).0 h

pub name-itself : (n : Text) → bytes_eq n n ≡ true
name-itself n = (bytes_eq-Decides n n).1 refl

pub depth-itself : (d : ℕ) → (d == d) ≡ true
depth-itself d = grind (arith, common_steps)

name-swaps : (m n : Text) → bytes_eq m n ≡ bytes_eq n m
name-swaps m n = by (bytes_eq m n) (bytes_eq n m) refl refl
  where
    by : (b c : Bool) → bytes_eq m n ≡ b → bytes_eq n m ≡ c → b ≡ c
    by true true h k = refl
    by false false h k = refl
    by true false h k = sym (name-itself n) ∙ ap (λ x. bytes_eq n x) (sym (same-name m n h)) ∙ k
    by false true h k = sym h ∙ ap (λ x. bytes_eq x n) (sym (same-name n m k)) ∙ name-itself n

number-swaps : (d e : ℕ) → (d == e) ≡ (e == d)
number-swaps d e = by (d == e) (e == d) refl refl
  where
    by : (b c : Bool) → (d == e) ≡ b → (e == d) ≡ c → b ≡ c
    by true true h k = refl
    by false false h k = refl
    by true false h k = let same : d ≡ e = grind (arith, common_steps) in sym (depth-itself e) ∙ ap (λ x. e == x) (sym same) ∙ k
    by false true h k = let same : e ≡ d = grind (arith, common_steps) in sym h ∙ ap (λ x. x == e) (sym same) ∙ depth-itself e

pub part-itself : (p : Projection) → same_part p p ≡ true
part-itself (member m) = name-itself m
part-itself (element k) = depth-itself k

pub part-is : (p q : Projection) → same_part p q ≡ true → p ≡ q
part-is (member m) (member n) h = ap member (same-name m n h)
part-is (element j) (element k) h = let same : j ≡ k = grind (arith, common_steps) in ap element same
part-is (member m) (element k) h = cc
part-is (element j) (member n) h = cc

part-swaps : (p q : Projection) → same_part p q ≡ same_part q p
part-swaps (member m) (member n) = name-swaps m n
part-swaps (element j) (element k) = number-swaps j k
part-swaps (member m) (element k) = refl
part-swaps (element j) (member n) = refl

-- ---- roots

pub root-is : (a b : Root) → same_root a b ≡ true → a ≡ b
root-is state_object state_object h = refl
root-is state_object input_object h = cc
root-is state_object output_object h = cc
root-is state_object (variable e n) h = cc
root-is input_object state_object h = cc
root-is input_object input_object h = refl
root-is input_object output_object h = cc
root-is input_object (variable e n) h = cc
root-is output_object state_object h = cc
root-is output_object input_object h = cc
root-is output_object output_object h = refl
root-is output_object (variable e n) h = cc
root-is (variable d m) state_object h = cc
root-is (variable d m) input_object h = cc
root-is (variable d m) output_object h = cc
root-is (variable d m) (variable e n) h = by (d == e) refl h
  where
    by : (b : Bool) → (d == e) ≡ b → (b && bytes_eq m n) ≡ true → variable d m ≡ variable e n
    by true same h =
        let depth : d ≡ e = grind (arith, common_steps) in
        ap (λ x. variable x m) depth ∙ ap (variable e) (same-name m n h)
    by false same h = cc

pub root-itself : (a : Root) → same_root a a ≡ true
root-itself state_object = refl
root-itself input_object = refl
root-itself output_object = refl
root-itself (variable d n) = ap (λ b. b && bytes_eq n n) (depth-itself d) ∙ name-itself n

root-swaps : (a b : Root) → same_root a b ≡ same_root b a
root-swaps a b = by (same_root a b) (same_root b a) refl refl
  where
    by : (c d : Bool) → same_root a b ≡ c → same_root b a ≡ d → c ≡ d
    by true true h k = refl
    by false false h k = refl
    by true false h k = sym (root-itself b) ∙ ap (same_root b) (sym (root-is a b h)) ∙ k
    by false true h k = sym h ∙ ap (λ x. same_root x b) (sym (root-is b a k)) ∙ root-itself b

-- ---- ways

-- ways that part do so also with more behind them
part-further : (a b v w : List Projection) → ways_part a b ≡ true → ways_part (a ++ v) (b ++ w) ≡ true
part-further [] b v w h = cc
part-further (p ∷ ps) [] v w h = cc
part-further (p ∷ ps) (q ∷ qs) v w h = by (same_part p q) (part-further ps qs v w) h
  where
    by : (c : Bool) → (ways_part ps qs ≡ true → ways_part (ps ++ v) (qs ++ w) ≡ true) → (if c then ways_part ps qs else true) ≡ true →
        (if c then ways_part (ps ++ v) (qs ++ w) else true) ≡ true
    by true later h = later h
    by false later h = refl

-- ways that part do so also behind a common one
part-behind : (c a b : List Projection) → ways_part a b ≡ true → ways_part (c ++ a) (c ++ b) ≡ true
part-behind [] a b h = h
part-behind (p ∷ c) a b h = ap (λ x. if x then ways_part (c ++ a) (c ++ b) else true) (part-itself p) ∙ part-behind c a b h

ways-swap : (a b : List Projection) → ways_part a b ≡ true → ways_part b a ≡ true
ways-swap [] b h = cc
ways-swap (p ∷ ps) [] h = cc
ways-swap (p ∷ ps) (q ∷ qs) h =
    by (same_part q p) (ways-swap ps qs) (ap (λ c. if c then ways_part ps qs else true) (part-swaps q p) ∙ h)
  where
    by : (c : Bool) → (ways_part ps qs ≡ true → ways_part qs ps ≡ true) → (if c then ways_part ps qs else true) ≡ true →
        (if c then ways_part qs ps else true) ≡ true
    by true later h = later h
    by false later h = refl

pub apart-swaps : (a b : Location) → are_apart a b ≡ true → are_apart b a ≡ true
apart-swaps a b h = by (same_root b.root a.root) (ap (λ c. if c then ways_part a.parts b.parts else true) (root-swaps b.root a.root) ∙ h)
  where
    by : (c : Bool) → (if c then ways_part a.parts b.parts else true) ≡ true → (if c then ways_part b.parts a.parts else true) ≡ true
    by true h = ways-swap a.parts b.parts h
    by false h = refl

-- nothing is left of a way that parts from another after that
part-left : (ps qs w : List Projection) → ways_part ps qs ≡ true → is_some (left_after ps (qs ++ w)) ≡ false
part-left [] qs w h = cc
part-left (p ∷ ps) [] w h = cc
part-left (p ∷ ps) (q ∷ qs) w h = by (same_part p q) (part-left ps qs w) h
  where
    by : (c : Bool) → (ways_part ps qs ≡ true → is_some (left_after ps (qs ++ w)) ≡ false) → (if c then ways_part ps qs else true) ≡ true →
        is_some (if c then left_after ps (qs ++ w) else None) ≡ false
    by true later h = later h
    by false later h = refl

-- no number of a location lies in one apart from it
pub apart-lies : (a b : Location) (w : List Projection) → are_apart a b ≡ true → lies_in a b.root (b.parts ++ w) ≡ false
apart-lies a b w h = by (same_root a.root b.root) h
  where
    by : (c : Bool) → (if c then ways_part a.parts b.parts else true) ≡ true → (c && is_some (left_after a.parts (b.parts ++ w))) ≡ false
    by true h = part-left a.parts b.parts w h
    by false h = refl

-- nothing is left after a longer way where nothing is after its beginning
left-further : (a b way : List Projection) → is_some (left_after a way) ≡ false → is_some (left_after (a ++ b) way) ≡ false
left-further [] b way h = cc
left-further (p ∷ ps) b [] h = refl
left-further (p ∷ ps) b (q ∷ way) h = by (same_part p q) (left-further ps b way) h
  where
    by : (c : Bool) → (is_some (left_after ps way) ≡ false → is_some (left_after (ps ++ b) way) ≡ false) →
        is_some (if c then left_after ps way else None) ≡ false → is_some (if c then left_after (ps ++ b) way else None) ≡ false
    by true later h = later h
    by false later h = refl

-- a number that doesn't lie in a location lies in no part of it
pub lies-further : (root at : Root) (a b way : List Projection) → lies_in (record { root = root; parts = a }) at way ≡ false →
    lies_in (record { root = root; parts = a ++ b }) at way ≡ false
lies-further root at a b way h = by (same_root root at) h
  where
    by : (c : Bool) → (c && is_some (left_after a way)) ≡ false → (c && is_some (left_after (a ++ b) way)) ≡ false
    by true h = left-further a b way h
    by false h = refl

-- what is left of a way after another, behind that
pub left-is : (a way rest : List Projection) → left_after a way ≡ Some rest → way ≡ a ++ rest
left-is [] way rest h = some-of way rest h
left-is (p ∷ ps) [] rest h = cc
left-is (p ∷ ps) (q ∷ way) rest h = by (same_part p q) refl (left-is ps way rest) h
  where
    by : (c : Bool) → same_part p q ≡ c → (left_after ps way ≡ Some rest → way ≡ ps ++ rest) → (if c then left_after ps way else None) ≡ Some rest →
        q ∷ way ≡ p ∷ (ps ++ rest)
    by true e later h = ap (λ x. x ∷ way) (sym (part-is p q e)) ∙ ap (λ x. p ∷ x) (later h)
    by false e later h = cc

pub left-whole : (a rest : List Projection) → left_after a (a ++ rest) ≡ Some rest
left-whole [] rest = refl
left-whole (p ∷ ps) rest = ap (λ c. if c then left_after ps (ps ++ rest) else None) (part-itself p) ∙ left-whole ps rest

pub append-assoc : (a b c : List Projection) → (a ++ b) ++ c ≡ a ++ (b ++ c)
append-assoc [] b c = refl
append-assoc (p ∷ a) b c = ap (λ x. p ∷ x) (append-assoc a b c)

-- ---- where places lead

-- a location lies in a spot
pub record InSpot (scope : Scope) (spot : CSpot) (l : Location) : Type 0 where
  pub rest : List Projection
  pub is : l ≡ record {
    root = (named_location scope spot.through spot.name).root;
    parts = (named_location scope spot.through spot.name).parts ++ (first_part spot.first ++ rest);
  }

-- a way begins with a member
record BeginsWith (m : Text) (way : List Projection) : Type 0 where
  pub rest : List Projection
  pub is : way ≡ member m ∷ rest

module _ (scope : Scope) where
  abbrev OfStep : CStep → Type 0
  OfStep s = (m : Memory) → Optional (BeginsWith (member_of_step s)) (step_c s scope m).answer

  abbrev OfPlace : CPlace → Type 0
  OfPlace p = (m : Memory) → Optional (InSpot scope (spot_of_place p)) (location_c p scope m).answer

  abbrev Nothing : {A : Type 0} → A → Type 0
  Nothing a = Unit {0}

  step-begins : (name : Text) (i : Option CIndex) → OfStep (roll-CStep (record { member = name; index = i }))
  step-begins name None m = rw (fold-roll-CStep, fold-roll-CStep) (record { rest = []; is = refl })
  step-begins name (Some i) m =
      rw (fold-roll-CStep, fold-roll-CStep)
      (next-has (BeginsWith name) (index_c i scope m) _ (λ parts. record { rest = parts; is = refl }))

  -- a way of steps begins with the member of the first
  abbrev BeginsAt : Option Text → List Projection → Type 0
  BeginsAt first way = (rest : List Projection) × (way ≡ first_part first ++ rest)

  steps-begin : (steps : List CStep) → All OfStep steps → (m : Memory) →
      Optional (λ ways. BeginsAt (first_of (map member_of_step steps)) (way_of ways)) (each_of (map step_c steps) scope m).answer
  steps-begin [] h m = ([], refl)
  steps-begin (s ∷ steps) h m =
      next-with (BeginsWith (member_of_step s)) (λ ways. BeginsAt (Some (member_of_step s)) (way_of ways)) (step_c s scope m) _ (All-head OfStep s steps h m)
      (λ way begins. next-has (λ ways. BeginsAt (Some (member_of_step s)) (way_of ways)) (each_of (map step_c steps) scope m) _
      (λ others. (begins.rest ++ way_of others, ap (λ x. x ++ way_of others) begins.is)))

  place-leads : (through : Bool) (name : Text) (steps : List CStep) → All OfStep steps →
      OfPlace (roll-CPlace (record { through = through; name = name; steps = steps }))
  place-leads through name steps h m =
      rw (fold-roll-CPlace, fold-roll-CPlace)
      (next-with (λ ways. BeginsAt (first_of (map member_of_step steps)) (way_of ways))
      (InSpot scope (record { through = through; name = name; first = first_of (map member_of_step steps) })) (each_of (map step_c steps) scope m) _
      (steps-begin steps h m)
      (λ ways begins. record {
        rest = begins.0;
        is = ap (λ x. record { root = (named_location scope through name).root; parts = (named_location scope through name).parts ++ x }) begins.1;
      }))

  expr_cases : ExprCases Nothing Nothing Nothing Nothing Nothing OfPlace OfStep
  expr_cases = record {
    value = λ e h. tt;
    address = λ p h. tt;
    literal = λ t n. tt;
    read = λ p h. tt;
    call = λ c h. tt;
    negation = λ e h. tt;
    two = λ op a b h k. tt;
    calling = λ name args h. tt;
    expr = λ place what h. tt;
    index = λ signed at length h. tt;
    place = place-leads;
    step = λ name i h. step-begins name i;
  }

  -- the location of a place lies in the place's spot
  pub place-in-spot : (p : CPlace) → OfPlace p
  place-in-spot = induct_place Nothing Nothing Nothing Nothing Nothing OfPlace OfStep expr_cases

-- ---- spots that have nothing in common

pub no-variable : (depth : ℕ) (name : Text) (root : Root) → RootBelow depth root → same_root root (variable depth name) ≡ false
no-variable depth name state_object h = refl
no-variable depth name input_object h = refl
no-variable depth name output_object h = refl
no-variable depth name (variable d n) h = by (d == depth) refl
  where
    by : (b : Bool) → (d == depth) ≡ b → (b && bytes_eq n name) ≡ false
    by true e = let same : d ≡ depth = grind (arith, common_steps) in let no : ⊥ = omega arith in absurd no
    by false e = refl

pub not-here : (depth : ℕ) (name : Text) (root : Root) → RootBelow depth root → same_root (variable depth name) root ≡ false
not-here depth name root h = root-swaps (variable depth name) root ∙ no-variable depth name root h

pub other-variable : (depth : ℕ) (m n : Text) → bytes_eq m n ≡ false → same_root (variable depth m) (variable depth n) ≡ false
other-variable depth m n h = ap (λ b. (depth == depth) && b) h ∙ by (depth == depth)
  where
    by : (b : Bool) → (b && false) ≡ false
    by true = refl
    by false = refl

-- roots that differ
roots-apart : (r s : Root) (v w : List Projection) → same_root r s ≡ false →
    are_apart (record { root = r; parts = v }) (record { root = s; parts = w }) ≡ true
roots-apart r s v w h = ap (λ c. if c then ways_part v w else true) h

-- the same root, and ways that part
parts-apart : (r : Root) (v w : List Projection) → ways_part v w ≡ true →
    are_apart (record { root = r; parts = v }) (record { root = r; parts = w }) ≡ true
parts-apart r v w h = by (same_root r r)
  where
    by : (c : Bool) → (if c then ways_part v w else true) ≡ true
    by true = h
    by false = refl

-- locations with nothing in common, and further on
further-apart : (a b : Location) (v w : List Projection) → are_apart a b ≡ true →
    are_apart (record { root = a.root; parts = a.parts ++ v }) (record { root = b.root; parts = b.parts ++ w }) ≡ true
further-apart a b v w h = by (same_root a.root b.root) h
  where
    by : (c : Bool) → (if c then ways_part a.parts b.parts else true) ≡ true → (if c then ways_part (a.parts ++ v) (b.parts ++ w) else true) ≡ true
    by true h = part-further a.parts b.parts v w h
    by false h = refl

-- first members that differ
firsts-part : (a b : Option Text) (v w : List Projection) → firsts_differ a b ≡ true → ways_part (first_part a ++ v) (first_part b ++ w) ≡ true
firsts-part (Some m) (Some n) v w h = by (bytes_eq m n) h
  where
    by : (c : Bool) → not c ≡ true → (if c then ways_part v w else true) ≡ true
    by true h = cc
    by false h = refl
firsts-part (Some m) None v w h = cc
firsts-part None b v w h = cc

module _ (scope : Scope) (below : PointBelow scope.depth scope.pointers) (own : OwnApart scope.pointers) where
  -- the bases of spots of different names
  abbrev Bases : Bool → Bool → Text → Text → Type 0
  Bases s t m n = are_apart (named_location scope s m) (named_location scope t n) ≡ true

  variable-through : (m n : Text) → bytes_eq m n ≡ false → Bases false true m n
  variable-through m n other = by (scope.pointers n) refl
    where
      by : (o : Option Location) → scope.pointers n ≡ o →
          are_apart (record { root = variable scope.depth m; parts = [] }) (unwrap_or o (record { root = variable scope.depth n; parts = [] })) ≡ true
      by None is = roots-apart (variable scope.depth m) (variable scope.depth n) [] [] (other-variable scope.depth m n other)
      by (Some l) is = roots-apart (variable scope.depth m) l.root [] l.parts (not-here scope.depth m l.root (below n l is))

  through-variable : (m n : Text) → bytes_eq m n ≡ false → Bases true false m n
  through-variable m n other =
      apart-swaps (named_location scope false n) (named_location scope true m) (variable-through n m (name-swaps n m ∙ other))

  through-both : (m n : Text) → bytes_eq m n ≡ false → (is_own m || is_own n) ≡ true → Bases true true m n
  through-both m n other owned = by (scope.pointers m) (scope.pointers n) refl refl
    where
      chosen : (k l : Location) → scope.pointers m ≡ Some k → scope.pointers n ≡ Some l → (b : Bool) → is_own m ≡ b → (b || is_own n) ≡ true →
          are_apart k l ≡ true
      chosen k l is are true e h = own m n k l e other is are
      chosen k l is are false e h = apart-swaps l k (own n m l k h (name-swaps n m ∙ other) are is)

      by : (o p : Option Location) → scope.pointers m ≡ o → scope.pointers n ≡ p →
          are_apart (unwrap_or o (record { root = variable scope.depth m; parts = [] })) (unwrap_or p (record { root = variable scope.depth n; parts = [] }))
          ≡ true
      by None None is are = roots-apart (variable scope.depth m) (variable scope.depth n) [] [] (other-variable scope.depth m n other)
      by None (Some l) is are = roots-apart (variable scope.depth m) l.root [] l.parts (not-here scope.depth m l.root (below n l are))
      by (Some k) None is are = roots-apart k.root (variable scope.depth n) k.parts [] (no-variable scope.depth n k.root (below m k is))
      by (Some k) (Some l) is are = chosen k l is are (is_own m) refl owned

  bases-apart : (s t : Bool) (m n : Text) → bytes_eq m n ≡ false → (not (s && t) || (is_own m || is_own n)) ≡ true → Bases s t m n
  bases-apart false false m n other h = roots-apart (variable scope.depth m) (variable scope.depth n) [] [] (other-variable scope.depth m n other)
  bases-apart false true m n other h = variable-through m n other
  bases-apart true false m n other h = through-variable m n other
  bases-apart true true m n other h = through-both m n other h

  truth-is : (s t : Bool) → same_truth s t ≡ true → s ≡ t
  truth-is true true h = refl
  truth-is false false h = refl
  truth-is true false h = cc
  truth-is false true h = cc

  -- what stands behind the base of a spot
  abbrev at_base : Bool → Text → List Projection → Location
  at_base through name way = record { root = (named_location scope through name).root; parts = (named_location scope through name).parts ++ way }

  -- locations in parts of spots that have nothing in common
  parts-of-spots : (a b : CSpot) (v w : List Projection) → spots_apart a b ≡ true →
      are_apart (at_base a.through a.name (first_part a.first ++ v)) (at_base b.through b.name (first_part b.first ++ w)) ≡ true
  parts-of-spots a b v w h = by (bytes_eq a.name b.name) refl h
    where
      same : bytes_eq a.name b.name ≡ true → same_truth a.through b.through ≡ true → firsts_differ a.first b.first ≡ true →
          are_apart (at_base a.through a.name (first_part a.first ++ v)) (at_base b.through b.name (first_part b.first ++ w)) ≡ true
      same names truths differ =
          ap (are_apart (at_base a.through a.name (first_part a.first ++ v)))
          (λ i. at_base (sym (truth-is a.through b.through truths) i) (sym (same-name a.name b.name names) i) (first_part b.first ++ w))
          ∙ parts-apart (named_location scope a.through a.name).root ((named_location scope a.through a.name).parts ++ (first_part a.first ++ v))
          ((named_location scope a.through a.name).parts ++ (first_part b.first ++ w))
          (part-behind (named_location scope a.through a.name).parts (first_part a.first ++ v) (first_part b.first ++ w)
          (firsts-part a.first b.first v w differ))

      by : (c : Bool) → bytes_eq a.name b.name ≡ c →
          (if c then same_truth a.through b.through && firsts_differ a.first b.first else not (a.through && b.through) || (is_own a.name || is_own b.name))
          ≡ true →
          are_apart (at_base a.through a.name (first_part a.first ++ v)) (at_base b.through b.name (first_part b.first ++ w)) ≡ true
      by true e h =
          same e (and-left (same_truth a.through b.through) (firsts_differ a.first b.first) h)
          (and-right (same_truth a.through b.through) (firsts_differ a.first b.first) h)
      by false e h =
          further-apart (named_location scope a.through a.name) (named_location scope b.through b.name) (first_part a.first ++ v) (first_part b.first ++ w)
          (bases-apart a.through b.through a.name b.name e h)

  -- locations in spots that have nothing in common
  pub spots-apart : (a b : CSpot) (k l : Location) → spots_apart a b ≡ true → InSpot scope a k → InSpot scope b l → are_apart k l ≡ true
  spots-apart a b k l h left right = (λ i. are_apart (left.is i) (right.is i)) ∙ parts-of-spots a b left.rest right.rest h

-- the location of a spot lies in it
pub spot-itself : (scope : Scope) (spot : CSpot) → InSpot scope spot (spot_location scope spot)
spot-itself scope spot = record {
  rest = [];
  is = ap (λ x. record {
    root = (named_location scope spot.through spot.name).root;
    parts =
        (named_location scope spot.through spot.name).parts ++ x;
  }) (append-nil (first_part spot.first));
}
  where
    append-nil : (a : List Projection) → a ≡ a ++ []
    append-nil [] = refl
    append-nil (p ∷ a) = ap (λ x. p ∷ x) (append-nil a)

-- a number that lies in no spot lies in no location in it
pub spot-lies : (scope : Scope) (spot : CSpot) (l : Location) (at : Root) (way : List Projection) → InSpot scope spot l →
    lies_in (spot_location scope spot) at way ≡ false → lies_in l at way ≡ false
spot-lies scope spot l at way inside h =
    let base : Location = named_location scope spot.through spot.name in
    ap (λ x. lies_in x at way) inside.is
    ∙ ap (λ x. lies_in (record { root = base.root; parts = x }) at way) (sym (append-assoc base.parts (first_part spot.first) inside.rest))
    ∙ lies-further base.root at (base.parts ++ first_part spot.first) inside.rest way h

-- the same spot
pub spot-is : (a b : CSpot) → same_spot a b ≡ true → a ≡ b
spot-is a b h =
    let through : same_truth a.through b.through ≡ true = and-left (same_truth a.through b.through) (bytes_eq a.name b.name && same_first a.first b.first) h in
    let rest : (bytes_eq a.name b.name && same_first a.first b.first) ≡ true =
    and-right (same_truth a.through b.through) (bytes_eq a.name b.name && same_first a.first b.first) h in
    let name : a.name ≡ b.name = same-name a.name b.name (and-left (bytes_eq a.name b.name) (same_first a.first b.first) rest) in
    let first : a.first ≡ b.first = first-is a.first b.first (and-right (bytes_eq a.name b.name) (same_first a.first b.first) rest) in
    (λ i. record { through = truth a.through b.through through i; name = name i; first = first i })
  where
    truth : (s t : Bool) → same_truth s t ≡ true → s ≡ t
    truth true true h = refl
    truth false false h = refl
    truth true false h = cc
    truth false true h = cc

    first-is : (m n : Option Text) → same_first m n ≡ true → m ≡ n
    first-is (Some m) (Some n) h = ap Some (same-name m n h)
    first-is (Some m) None h = cc
    first-is None (Some n) h = cc
    first-is None None h = refl
