-- Where a drive stands before its first tick.
use Rattle.std.proofs.Common.{◌≡◌, ℕ, ◌+◌, ◌<◌, ◌≤◌, ℤ, pos, Bool, true, false, ◌||◌, cond}
use Rattle.std.proofs.Common.{List, [], ◌∷◌, ◌++◌, length, map}
use Rattle.std.proofs.Common.{get_or, take, replicate, Option, Some, None, is_some, IfSome, nat_eq, if◌then◌else◌, refl, ap, sym, subst, ◌∙◌}
use Rattle.std.proofs.Common.{append_assoc, le_refl}
use Rattle.std.specs.List.{AllByRecursion, IsDistinct, find, list_any, slice_get}
use Rattle.std.proofs.lemmas.List.{append-nil, map-append}
use Rattle.std.proofs.lemmas.List.Folds.{list_any-append}
use Rattle.std.proofs.lemmas.Bool.{or_from}
use Rattle.bl_tree.proofs.Basics.{neither_first, neither_second, number_itself, same_number, same_some}
use Rattle.bl_plant_drive.specs.Roles.{IsCast, Plays, Role, after_part, first_named, left_by, left_in, left_of, log_at, role_of}
use Rattle.bl_plant_drive.specs.declared.seat.Seat.{Seat}
use Rattle.bl_plant_drive.specs.Drives.{AreThere, plant_width}
use Rattle.bl_plant_drive.specs.inner.Stands.{AskedSoFar, Scene, seat_of}
use Rattle.bl_plant_drive.specs.inner.Ticks.{new_seat}
use Rattle.bl_plant_drive.proofs.Casts.{eq-flip, split}
use Rattle.bl_plant_drive.proofs.Naming.{all-names, next-name}
use Rattle.bl_plant.specs.Plants.{PlantView}
use Rattle.bl_plant.specs.declared.log.Log.{Log}

-- a plant that did nothing yet
abbrev new_role : PlantView → Role
new_role p = record { plant = p; part = record { given = []; told = []; faults = p.faults; gone = false } }

abbrev new_by : Option PlantView → List Role
new_by None = []
new_by (Some p) = new_role p ∷ []

abbrev new_cast : List PlantView → List ℕ → List Role
new_cast plants [] = []
new_cast plants (name ∷ names) = new_by (first_named name plants) ++ new_cast plants names

-- ---- the plant of a name

found-passes : {A : Type 0} (t : A → Bool) (xs : List A) (x : A) → find t xs ≡ Some x → t x ≡ true
found-passes t [] x e = cc
found-passes t (y ∷ xs) x e = split (t y)
    (λ passes. ap t (sym (same_some y x (sym (ap (λ b. cond b (Some y) (find t xs)) passes) ∙ e))) ∙ passes)
    (λ fails. found-passes t xs x (sym (ap (λ b. cond b (Some y) (find t xs)) fails) ∙ e))

named-is : (name : ℕ) (plants : List PlantView) (p : PlantView) → first_named name plants ≡ Some p → p.name ≡ name
named-is name plants p e = same_number p.name name (found-passes (λ (q : PlantView). nat_eq q.name name) plants p e)

-- a plant that a name means, or there is none
data Means (name : ℕ) (plants : List PlantView) : Type 0 where
  means : (p : PlantView) → first_named name plants ≡ Some p → Means name plants

means-by : (name : ℕ) (plants : List PlantView) (o : Option PlantView) → first_named name plants ≡ o → is_some o ≡ true → Means name plants
means-by name plants None is some = cc
means-by name plants (Some p) is some = means p is

-- what holds of the role of each name, where it means a plant
each-new : (plants : List PlantView) (P : Role → Type 0) → ((p : PlantView) (name : ℕ) → first_named name plants ≡ Some p → P (new_role p)) →
    (names : List ℕ) → AreThere plants names → AllByRecursion P (new_cast plants names)
each-new plants P holds [] there = tt
each-new plants P holds (name ∷ names) there = elim (means-by name plants (first_named name plants) refl there.0) [
  | means p is ↦
      subst (λ o. AllByRecursion P (new_by o ++ new_cast plants names)) (sym is)
      (holds p name is, each-new plants P holds names there.1)
]

-- a list that is made of the roles is made of the names
list-new : {A : Type 0} (plants : List PlantView) (f : Role → A) (g : ℕ → A) →
    ((p : PlantView) (name : ℕ) → first_named name plants ≡ Some p → f (new_role p) ≡ g name) →
    (names : List ℕ) → AreThere plants names → map f (new_cast plants names) ≡ map g names
list-new plants f g same [] there = refl
list-new plants f g same (name ∷ names) there = elim (means-by name plants (first_named name plants) refl there.0) [
  | means p is ↦
      ap (λ o. map f (new_by o ++ new_cast plants names)) is
      ∙ ap (λ z. z ∷ map f (new_cast plants names)) (same p name is)
      ∙ ap (λ z. g name ∷ z) (list-new plants f g same names there.1)
]

map-same : (names : List ℕ) → map (λ n. n) names ≡ names
map-same [] = refl
map-same (n ∷ names) = ap (λ z. n ∷ z) (map-same names)

new-is-cast : (plants : List PlantView) (names : List ℕ) → AreThere plants names → IsDistinct nat_eq names → IsCast plants names (new_cast plants names)
new-is-cast plants names there apart = record {
  named =
      list-new plants (λ r. r.plant.name) (λ n. n) (λ p name is. named-is name plants p is) names there ∙ map-same names;
  meant =
      each-new plants (λ r. first_named r.plant.name plants ≡ Some r.plant)
      (λ p name is. ap (λ n. first_named n plants) (named-is name plants p is) ∙ is) names there;
  distinct = apart;
}

new-seats : (plants : List PlantView) (names : List ℕ) → AreThere plants names → map (new_seat plants) names ≡ map seat_of (new_cast plants names)
new-seats plants names there =
    sym (list-new plants seat_of (new_seat plants)
    (λ p name is. seat-same p name (plant_width (first_named name plants)) (named-is name plants p is) (sym (ap plant_width is))) names there)
  where
    seat-same : (p : PlantView) (name width : ℕ) → p.name ≡ name → p.width ≡ width →
        seat_of (new_role p) ≡ record { name = record { number = name }; columns = replicate width (pos 0); finished = false }
    seat-same p name width same wide =
        ap (λ n. record { name = record { number = n }; columns = replicate p.width (pos 0); finished = false }) same
        ∙ ap (λ w. record { name = record { number = name }; columns = replicate w (pos 0); finished = false }) wide

given-none : {A : Type 0} (o : Option A) (P : A → ℕ → List ℤ → Type 0) →
    IfSome o (λ a. (k : ℕ) (row : List ℤ) → slice_get [] k ≡ Some row → P a k row)
given-none None P = tt
given-none (Some a) P = λ k row e. cc

new-plays : (p : PlantView) → Plays [] [] 0 (new_role p)
new-plays p = record {
  rule = given-none p.rule (λ rule k row. rule (log_at (new_role p) [] k) ≡ Some row);
  widths = tt;
  faults = le_refl p.faults;
  there = λ e. record { given = refl; told = refl };
  gone = λ e. cc;
}

-- one more seat
pub seats-more : {A : Type 0} (f : A → ℕ) (plants : List PlantView) (xs : List A) (k : ℕ) (x : A) (seats : List Seat) (seat : Seat) → k < length xs →
    x ≡ get_or xs k x → seats ≡ map (new_seat plants) (take k (map f xs)) → seat ≡ new_seat plants (f x) →
    seats ++ seat ∷ [] ≡ map (new_seat plants) (take (k + 1) (map f xs))
seats-more f plants xs k x seats seat low is so_far own =
    ap (λ z. z ++ seat ∷ []) so_far ∙ ap (λ z. map (new_seat plants) (take k (map f xs)) ++ z ∷ []) own
    ∙ sym (map-append (new_seat plants) (take k (map f xs)) (f x ∷ []))
    ∙ ap (map (new_seat plants)) (sym (next-name f xs k x low is))

pub seats-all : {A : Type 0} (f : A → ℕ) (plants : List PlantView) (xs : List A) (k : ℕ) (seats : List Seat) → length xs ≤ k →
    seats ≡ map (new_seat plants) (take k (map f xs)) → seats ≡ map (new_seat plants) (map f xs)
seats-all f plants xs k seats past so_far = so_far ∙ ap (map (new_seat plants)) (all-names f xs k past)

-- ---- the list of plants

role-holds : (P : Role → Type 0) (n : ℕ) (cast : List Role) (r : Role) → AllByRecursion P cast → role_of n cast ≡ Some r → P r
    × (r.plant.name ≡ n)
role-holds P n [] r all e = cc
role-holds P n (d ∷ cast) r all e = split (nat_eq d.plant.name n)
    (λ holds.
    let is : d ≡ r = same_some d r (sym (ap (λ (b : Bool). if b then Some d else role_of n cast) holds) ∙ e) in
    (subst P is all.0, ap (λ (x : Role). x.plant.name) (sym is) ∙ same_number d.plant.name n holds))
    (λ fails. role-holds P n cast r all.1 (sym (ap (λ (b : Bool). if b then Some d else role_of n cast) fails) ∙ e))

-- a role of a plant that did nothing yet
record IsNew (plants : List PlantView) (r : Role) : Type 0 where
  meant : first_named r.plant.name plants ≡ Some r.plant
  new : r ≡ new_role r.plant

after-new : (p : PlantView) → after_part (new_role p) ≡ p
after-new p =
    ap (λ z. with_log (record { given = z; told = p.log.told ++ [] })) (append-nil p.log.given)
    ∙ ap (λ z. with_log (record { given = p.log.given; told = z })) (append-nil p.log.told)
  where
    with_log : Log → PlantView
    with_log log = record { name = p.name; width = p.width; log = log; faults = p.faults; rule = p.rule }

find-behind : (t : PlantView → Bool) (before : List PlantView) (p : PlantView) (after : List PlantView) → list_any t before ≡ false → t p ≡ true →
    find t (before ++ p ∷ after) ≡ Some p
find-behind t [] p after none passes = ap (λ b. cond b (Some p) (find t after)) passes
find-behind t (x ∷ before) p after none passes =
    ap (λ b. cond b (Some x) (find t (before ++ p ∷ after))) (neither_first (t x) (list_any t before) none)
    ∙ find-behind t before p after (neither_second (t x) (list_any t before) none) passes

left-one : (plants : List PlantView) (cast : List Role) (before after : List PlantView) (p : PlantView) → AllByRecursion (IsNew plants) cast →
    plants ≡ before ++ p ∷ after → list_any (λ (q : PlantView). nat_eq q.name p.name) before ≡ false → (o : Option Role) → role_of p.name cast
    ≡ o →
    left_by o p ≡ p ∷ []
left-one plants cast before after p all are none None is = refl
left-one plants cast before after p all are none (Some r) is =
    let holds = role-holds (IsNew plants) p.name cast r all is in
    let found : first_named p.name plants ≡ Some p =
    ap (first_named p.name) are ∙ find-behind (λ (q : PlantView). nat_eq q.name p.name) before p after none (number_itself p.name) in
    let same : r.plant ≡ p =
    same_some r.plant p (sym holds.0.meant ∙ ap (λ n. first_named n plants) holds.1 ∙ found) in
    ap left_of (holds.0.new ∙ ap new_role same) ∙ ap (λ q. q ∷ []) (after-new p)

-- nothing of the list has changed
left-new : (plants : List PlantView) (cast : List Role) → AllByRecursion (IsNew plants) cast → (before ps : List PlantView) → plants ≡ before ++ ps →
    (earlier : List ℕ) →
    ((n : ℕ) → list_any (nat_eq n) earlier ≡ false → list_any (λ (q : PlantView). nat_eq q.name n) before ≡ false) →
    left_in cast earlier ps ≡ ps
left-new plants cast all before [] are earlier none = refl
left-new plants cast all before (p ∷ ps) are earlier none =
    ap (λ z. z ++ left_in cast (p.name ∷ earlier) ps)
    (split (list_any (nat_eq p.name) earlier)
    (λ holds. ap (λ (b : Bool). if b then p ∷ [] else left_by (role_of p.name cast) p) holds)
    (λ fails.
    ap (λ (b : Bool). if b then p ∷ [] else left_by (role_of p.name cast) p) fails
    ∙ left-one plants cast before ps p all are (none p.name fails) (role_of p.name cast) refl))
    ∙ ap (λ z. p ∷ z)
    (left-new plants cast all (before ++ p ∷ []) ps (are ∙ sym (append_assoc before (p ∷ []) ps)) (p.name ∷ earlier)
    (λ n apart.
    list_any-append (λ (q : PlantView). nat_eq q.name n) before (p ∷ [])
    ∙ or_from (list_any (λ (q : PlantView). nat_eq q.name n) before) (nat_eq p.name n || false)
    (none n (neither_second (nat_eq n p.name) (list_any (nat_eq n) earlier) apart))
    (or_from (nat_eq p.name n) false (eq-flip n p.name (neither_first (nat_eq n p.name) (list_any (nat_eq n) earlier) apart)) refl)))

-- ---- the first tick

abbrev pub first_scene : List PlantView → List ℕ → Scene
first_scene plants names = record { plants = plants; names = names; ins = []; outs = [] }

pub starts : (plants : List PlantView) (names : List ℕ) (seats : List Seat) → AreThere plants names → IsDistinct nat_eq names →
    seats ≡ map (new_seat plants) names → AskedSoFar (first_scene plants names) 0 plants seats []
starts plants names seats there apart are =
    let cast : List Role = new_cast plants names in
    record {
      done = [];
      rest = cast;
      asked = refl;
      cast = new-is-cast plants names there apart;
      left =
          sym (left-new plants cast
          (each-new plants (IsNew plants)
          (λ p name is. record { meant = ap (λ n. first_named n plants) (named-is name plants p is) ∙ is; new = refl }) names there)
          [] plants refl [] (λ n e. refl));
      seats_are = are ∙ new-seats plants names there;
      earlier = tt;
      later = each-new plants (Plays [] [] 0) (λ p name is. new-plays p) names there;
      ins = refl;
      gone = refl;
      long = refl;
    }
