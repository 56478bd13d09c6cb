-- Roles by their names, and what is left of a list.
use Rattle.std.proofs.Common.{◌≡◌, ℕ, Bool, true, false, ◌||◌, cond, List, [], ◌∷◌, ◌++◌, map, Option, Some, None, nat_eq, refl, ap, sym, subst, ◌∙◌}
use Rattle.std.proofs.Common.{append_assoc, if◌then◌else◌}
use Rattle.std.specs.List.{AllByRecursion, IsDistinct, list_any}
use Rattle.std.proofs.lemmas.Bool.{eq-eqb}
use Rattle.std.proofs.lemmas.List.Folds.{list_any-append}
use Rattle.std.proofs.lemmas.Bool.{or_from}
use Rattle.bl_tree.proofs.Basics.{number_itself, same_number, same_some}
use Rattle.bl_plant.specs.Plants.{PlantView}
use Rattle.bl_plant_drive.specs.Roles.{IsCast, PlantRecord, Role, after_part, first_named, left_by, left_in, left_of, role_of}
use Rattle.bl_crun.proofs.Cells.{chosen-true}

-- whether a test passes is known
pub split : {P : Type 0} (b : Bool) → (b ≡ true → P) → (b ≡ false → P) → P
split true at_true at_false = at_true refl
split false at_true at_false = at_false refl

-- ---- names

pub eq-flip : (a b : ℕ) → nat_eq a b ≡ false → nat_eq b a ≡ false
eq-flip a b e = split (nat_eq b a) (λ t. t ∙ sym (number_itself b) ∙ subst (λ n. nat_eq n b ≡ false) (sym (same_number b a t)) e) (λ f. f)

if-false : {A : Type 0} (b : Bool) (x y : A) → b ≡ false → (if b then x else y) ≡ y
if-false b x y e = ap (λ (z : Bool). if z then x else y) e

-- ---- the role of a name

pub role-skip : (n : ℕ) (done : List Role) (r : Role) (rest : List Role) → nat_eq r.plant.name n ≡ false →
    role_of n (done ++ r ∷ rest) ≡ role_of n (done ++ rest)
role-skip n [] r rest other = if-false (nat_eq r.plant.name n) (Some r) (role_of n rest) other
role-skip n (d ∷ done) r rest other = ap (λ z. if nat_eq d.plant.name n then Some d else z) (role-skip n done r rest other)

pub role-here : (n : ℕ) (done : List Role) (r : Role) (rest : List Role) → r.plant.name ≡ n → role_of n done ≡ None →
    role_of n (done ++ r ∷ rest) ≡ Some r
role-here n [] r rest is none = chosen-true (nat_eq r.plant.name n) (Some r) (role_of n rest) (eq-eqb r.plant.name n is)
role-here n (d ∷ done) r rest is none = split (nat_eq d.plant.name n)
    (λ holds. let bad = sym none ∙ chosen-true (nat_eq d.plant.name n) (Some d) (role_of n done) holds in cc)
    (λ fails.
    if-false (nat_eq d.plant.name n) (Some d) (role_of n (done ++ r ∷ rest)) fails
    ∙ role-here n done r rest is (sym (if-false (nat_eq d.plant.name n) (Some d) (role_of n done) fails) ∙ none))

pub role-name : (n : ℕ) (cast : List Role) (r : Role) → role_of n cast ≡ Some r → r.plant.name ≡ n
role-name n [] r e = cc
role-name n (d ∷ cast) r e = split (nat_eq d.plant.name n)
    (λ holds. let is = same_some d r (sym (chosen-true (nat_eq d.plant.name n) (Some d) (role_of n cast) holds) ∙ e) in
    ap (λ (x : Role). x.plant.name) (sym is) ∙ same_number d.plant.name n holds)
    (λ fails. role-name n cast r (sym (if-false (nat_eq d.plant.name n) (Some d) (role_of n cast) fails) ∙ e))

all-seam : {A : Type 0} (P : ℕ → Type 0) (f : A → ℕ) (xs : List A) (y : A) (ys : List A) → AllByRecursion P (map f (xs ++ y ∷ ys)) → P (f y)
all-seam P f [] y ys all = all.0
all-seam P f (x ∷ xs) y ys all = all-seam P f xs y ys all.1

-- no other role has the name of one
pub role-none : (done : List Role) (r : Role) (rest : List Role) → IsDistinct nat_eq (map (λ (x : Role). x.plant.name) (done ++ r ∷ rest)) →
    role_of r.plant.name done ≡ None
unfolding IsDistinct
role-none [] r rest apart = refl
role-none (d ∷ done) r rest apart =
    if-false (nat_eq d.plant.name r.plant.name) (Some d) (role_of r.plant.name done)
    (all-seam (λ y. nat_eq d.plant.name y ≡ false) (λ (x : Role). x.plant.name) done r rest apart.0)
    ∙ role-none done r rest apart.1

-- ---- around one plant

-- a plant with a part
abbrev pub playing : PlantView → PlantRecord → Role
playing p part = record { plant = p; part = part }

-- a name that is an earlier one has no role any more
pub left-dropped : (done rest : List Role) (p : PlantView) (part : PlantRecord) (earlier : List ℕ) (ps : List PlantView) →
    list_any (nat_eq p.name) earlier ≡ true →
    left_in (done ++ playing p part ∷ rest) earlier ps ≡ left_in (done ++ rest) earlier ps
left-dropped done rest p part earlier [] is = refl
left-dropped done rest p part earlier (q ∷ ps) is =
    let tail = left-dropped done rest p part (q.name ∷ earlier) ps (ap (λ z. nat_eq p.name q.name || z) is ∙ or-true (nat_eq p.name q.name)) in
    split (list_any (nat_eq q.name) earlier)
    (λ holds.
    ap (λ z. z ++ left_in (done ++ playing p part ∷ rest) (q.name ∷ earlier) ps)
    (chosen-true (list_any (nat_eq q.name) earlier) (q ∷ []) (left_by (role_of q.name (done ++ playing p part ∷ rest)) q) holds
    ∙ sym (chosen-true (list_any (nat_eq q.name) earlier) (q ∷ []) (left_by (role_of q.name (done ++ rest)) q) holds))
    ∙ ap (λ z. (if list_any (nat_eq q.name) earlier then q ∷ [] else left_by (role_of q.name (done ++ rest)) q) ++ z) tail)
    (λ fails.
    ap (λ z. (if list_any (nat_eq q.name) earlier then q ∷ [] else left_by z q) ++ left_in (done ++ playing p part ∷ rest) (q.name ∷ earlier) ps)
    (role-skip q.name done (playing p part) rest (differs p.name q.name earlier is fails))
    ∙ ap (λ z. (if list_any (nat_eq q.name) earlier then q ∷ [] else left_by (role_of q.name (done ++ rest)) q) ++ z) tail)
  where
    or-true : (b : Bool) → (b || true) ≡ true
    or-true true = refl
    or-true false = refl

    differs : (a b : ℕ) (names : List ℕ) → list_any (nat_eq a) names ≡ true → list_any (nat_eq b) names ≡ false → nat_eq a b ≡ false
    differs a b names here apart = split (nat_eq a b)
        (λ e. let bad = sym apart ∙ ap (λ n. list_any (nat_eq n) names) (sym (same_number a b e)) ∙ here in cc) (λ f. f)

-- the plants around a named one, whatever its part is
pub record Around (done rest : List Role) (p : PlantView) (earlier : List ℕ) (ps : List PlantView) : Type 0 where
  pub before : List PlantView
  pub after : List PlantView
  pub none : list_any (λ (q : PlantView). nat_eq q.name p.name) before ≡ false
  pub is : (part : PlantRecord) → left_in (done ++ playing p part ∷ rest) earlier ps ≡ before ++ (left_of (playing p part) ++ after)

left-none : (n : ℕ) (o : Option Role) (q : PlantView) → nat_eq q.name n ≡ false → ((r : Role) → o ≡ Some r → r.plant.name ≡ q.name) →
    list_any (λ (x : PlantView). nat_eq x.name n) (left_by o q) ≡ false
left-none n None q other named = or_from (nat_eq q.name n) false other refl
left-none n (Some r) q other named = left-none-by r.part.gone
  where
    left-none-by : (b : Bool) → list_any (λ (x : PlantView). nat_eq x.name n) (if b then [] else after_part r ∷ []) ≡ false
    left-none-by true = refl
    left-none-by false = or_from (nat_eq r.plant.name n) false (ap (λ m. nat_eq m n) (named r refl) ∙ other) refl

head-none : (n : ℕ) (b : Bool) (o : Option Role) (q : PlantView) → nat_eq q.name n ≡ false → ((r : Role) → o ≡ Some r → r.plant.name ≡ q.name) →
    list_any (λ (x : PlantView). nat_eq x.name n) (if b then q ∷ [] else left_by o q) ≡ false
head-none n true o q other named = or_from (nat_eq q.name n) false other refl
head-none n false o q other named = left-none n o q other named

pub around : (done rest : List Role) (p : PlantView) (earlier : List ℕ) (ps : List PlantView) → role_of p.name done ≡ None →
    list_any (nat_eq p.name) earlier ≡ false → first_named p.name ps ≡ Some p → Around done rest p earlier ps
around done rest p earlier [] none fresh found = absurd (no-some p found)
  where
    no-some : (x : PlantView) → None ≡ Some x → ⊥
    no-some x e = cc
around done rest p earlier (q ∷ ps) none fresh found = split (nat_eq q.name p.name)
    (λ holds.
    let is-p : q ≡ p = same_some q p (sym (ap (λ z. cond z (Some q) (first_named p.name ps)) holds) ∙ found) in
    record {
      before = [];
      after = left_in (done ++ rest) (q.name ∷ earlier) ps;
      none = refl;
      is = λ part.
          let fresh-q : list_any (nat_eq q.name) earlier ≡ false = ap (λ (x : PlantView). list_any (nat_eq x.name) earlier) is-p ∙ fresh in
          ap (λ z. z ++ left_in (done ++ playing p part ∷ rest) (q.name ∷ earlier) ps)
          (if-false (list_any (nat_eq q.name) earlier) (q ∷ []) (left_by (role_of q.name (done ++ playing p part ∷ rest)) q) fresh-q
          ∙ ap (λ z. left_by z q)
          (role-here q.name done (playing p part) rest (ap (λ (x : PlantView). x.name) (sym is-p))
          (ap (λ (x : PlantView). role_of x.name done) is-p ∙ none)))
          ∙ ap (λ z. left_of (playing p part) ++ z)
          (left-dropped done rest p part (q.name ∷ earlier) ps
          (ap (λ z. z || list_any (nat_eq p.name) earlier) (eq-eqb p.name q.name (ap (λ (x : PlantView). x.name) (sym is-p)))));
    })
    (λ fails.
    let found-later : first_named p.name ps ≡ Some p = sym (ap (λ z. cond z (Some q) (first_named p.name ps)) fails) ∙ found in
    let further =
    around done rest p (q.name ∷ earlier) ps none
    (or_from (nat_eq p.name q.name) (list_any (nat_eq p.name) earlier) (eq-flip q.name p.name fails) fresh) found-later in
    let head : List PlantView = if list_any (nat_eq q.name) earlier then q ∷ [] else left_by (role_of q.name (done ++ rest)) q in
    record {
      before = head ++ further.before;
      after = further.after;
      none =
          list_any-append (λ (x : PlantView). nat_eq x.name p.name) head further.before
          ∙ or_from (list_any (λ (x : PlantView). nat_eq x.name p.name) head) (list_any (λ (x : PlantView). nat_eq x.name p.name) further.before)
          (head-none p.name (list_any (nat_eq q.name) earlier) (role_of q.name (done ++ rest)) q fails (role-name q.name (done ++ rest)))
          further.none;
      is = λ part.
          ap (λ z. (if list_any (nat_eq q.name) earlier then q ∷ [] else left_by z q) ++ left_in (done ++ playing p part ∷ rest) (q.name ∷ earlier) ps)
          (role-skip q.name done (playing p part) rest (eq-flip q.name p.name fails))
          ∙ ap (λ z. head ++ z) (further.is part)
          ∙ sym (append_assoc head further.before (left_of (playing p part) ++ further.after));
    })

-- the role that comes next
pub around-role : (plants : List PlantView) (names : List ℕ) (done : List Role) (r : Role) (rest : List Role) → IsCast plants names (done ++ r ∷ rest) →
    Around done rest r.plant [] plants
around-role plants names done r rest cast =
    around done rest r.plant [] plants (role-none done r rest (subst (IsDistinct nat_eq) (sym cast.named) cast.distinct)) refl
    (meant-seam done r rest cast.meant)
  where
    meant-seam : (done : List Role) (r : Role) (rest : List Role) →
        AllByRecursion (λ (x : Role). first_named x.plant.name plants ≡ Some x.plant) (done ++ r ∷ rest) → first_named r.plant.name plants
        ≡ Some r.plant
    meant-seam [] r rest all = all.0
    meant-seam (d ∷ done) r rest all = meant-seam done r rest all.1

-- a cast in which one plant has another part is the cast of the same names
pub recast : (plants : List PlantView) (names : List ℕ) (done : List Role) (r : Role) (rest : List Role) (part : PlantRecord) →
    IsCast plants names (done ++ r ∷ rest) → IsCast plants names (done ++ playing r.plant part ∷ rest)
recast plants names done r rest part cast = record {
  named = names-same done ∙ cast.named;
  meant = meant-same done cast.meant;
  distinct = cast.distinct;
}
  where
    names-same : (done : List Role) → map (λ (x : Role). x.plant.name) (done ++ playing r.plant part ∷ rest)
        ≡ map (λ (x : Role). x.plant.name) (done ++ r ∷ rest)
    names-same [] = refl
    names-same (d ∷ done) = ap (λ z. d.plant.name ∷ z) (names-same done)

    meant-same : (done : List Role) → AllByRecursion (λ (x : Role). first_named x.plant.name plants ≡ Some x.plant) (done ++ r ∷ rest) →
        AllByRecursion (λ (x : Role). first_named x.plant.name plants ≡ Some x.plant) (done ++ playing r.plant part ∷ rest)
    meant-same [] all = all
    meant-same (d ∷ done) all = (all.0, meant-same done all.1)
