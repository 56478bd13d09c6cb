-- What a drive that was stopped shows of its plants.
use Rattle.std.proofs.Common.{◌≡◌, ◌∙◌, ℕ, zero, suc, ◌+◌, ℤ, pos, Bool, true, false, ◌||◌, if◌then◌else◌, List, [], ◌∷◌, ◌++◌, length, map, take}
use Rattle.std.proofs.Common.{replicate, nat_eq, Option, Some, None, is_some, refl, sym, ap, subst, append_assoc, arith, length-append, take_all}
use Rattle.std.specs.List.{AllByRecursion, IsDistinct, list_any, slice_get}
use Rattle.std.proofs.lemmas.Bool.{eq-eqb}
use Rattle.std.proofs.lemmas.List.{length-replicate, map-append}
use Rattle.bl_tree.proofs.Basics.{same_number, same_some}
use Rattle.bl_plant.specs.Plants.{PlantView}
use Rattle.bl_plant_drive.specs.Drives.{AreThere, DriveSetting, HasFailed, HasGivenOutside, IsFirstAbsent, IsFirstTwice, Outcome, columns_in, plant_width}
use Rattle.bl_plant_drive.specs.Drives.{widths_of}
use Rattle.bl_plant_drive.specs.Roles.{IsCast, Plays, Role, after_part, first_named, inputs_at, last_row, left_by, left_in, numbers_at, role_of}
use Rattle.bl_plant_drive.proofs.Asking.{last-snoc, left-there}
use Rattle.bl_plant_drive.proofs.Casts.{around-role, role-here, role-name, role-none, split}
use Rattle.bl_top.specs.Drive.{Plants}
use Rattle.bl_top_laws.specs.Driven.{AreAgreed, HasOutsideRow, HasRisenPlant, IsKeptPlant, count_named}
use Rattle.bl_tree.specs.declared.row.Column.{Column}
use Rattle.bl_plant_drive.proofs.Outside.{last-wide}
use Rattle.bl_top.proofs.Plants.{first-behind}

abbrev name_of : Role → ℕ
name_of r = r.plant.name

-- ---- lists

all-at : {A : Type 0} (P : A → Type 0) (xs : List A) (y : A) (ys : List A) → AllByRecursion P (xs ++ y ∷ ys) → P y
all-at P [] y ys all = all.0
all-at P (x ∷ xs) y ys all = all-at P xs y ys all.1

all-front : {A : Type 0} (P : A → Type 0) (xs ys : List A) → AllByRecursion P (xs ++ ys) → AllByRecursion P xs
all-front P [] ys all = tt
all-front P (x ∷ xs) ys all = (all.0, all-front P xs ys all.1)

all-take : {A : Type 0} (P : A → Type 0) (k : ℕ) (xs : List A) → AllByRecursion P xs → AllByRecursion P (take k xs)
all-take P zero xs all = tt
all-take P (suc k) [] all = tt
all-take P (suc k) (x ∷ xs) all = (all.0, all-take P k xs all.1)

-- a list of rows that isn't empty, from its last row
record HasLast (rows : List (List ℤ)) : Type 0 where
  front : List (List ℤ)
  last : List ℤ
  is : rows ≡ front ++ last ∷ []

has-last : (rows : List (List ℤ)) (n : ℕ) → length rows ≡ suc n → HasLast rows
has-last [] n long = absurd (omega (arith, long))
has-last (row ∷ []) n long = record { front = []; last = row; is = refl }
has-last (row ∷ next ∷ rows) n long =
    let later = has-last (next ∷ rows) (length rows) refl in
    record { front = row ∷ later.front; last = later.last; is = ap (λ z. row ∷ z) later.is }

-- ---- names that agree

there-by : (plants : List PlantView) (cast : List Role) → AllByRecursion (λ (r : Role). first_named r.plant.name plants ≡ Some r.plant) cast →
    AreThere plants (map name_of cast)
there-by plants [] meant = tt
there-by plants (r ∷ cast) meant = (ap is_some meant.0, there-by plants cast meant.1)

pub agreed-by : (inputs columns : List Column) (plants : List PlantView) (names : List ℕ) (cast : List Role) → columns ≡ inputs →
    IsCast plants names cast → widths_of plants names ≡ length columns → AreAgreed inputs plants names
agreed-by inputs columns plants names cast same is wide = record {
  there = subst (AreThere plants) is.named (there-by plants cast is.meant);
  distinct = is.distinct;
  wide = wide ∙ ap length same;
}

pub never-absent : (s : DriveSetting) (name : ℕ) → AreThere s.plants s.names → IsFirstAbsent s name → ⊥
never-absent s name there is =
    let found = all-at (λ n. is_some (first_named n s.plants) ≡ true) is.earlier name is.later (subst (AreThere s.plants) is.names there) in
    let none = ap is_some is.none in
    let bad = sym none ∙ found in cc

twice-never : (earlier : List ℕ) (n : ℕ) (later : List ℕ) → IsDistinct nat_eq (earlier ++ n ∷ later) → list_any (nat_eq n) earlier ≡ true → ⊥
unfolding IsDistinct
twice-never [] n later apart again = cc
twice-never (m ∷ earlier) n later apart again = split (nat_eq n m)
    (λ same.
    let other = all-at (λ y. nat_eq m y ≡ false) earlier n later apart.0 in
    let bad = sym other ∙ eq-eqb m n (sym (same_number n m same)) in cc)
    (λ differs. twice-never earlier n later apart.1 (sym (ap (λ b. b || list_any (nat_eq n) earlier) differs) ∙ again))

pub never-twice : (s : DriveSetting) (name : ℕ) → IsDistinct nat_eq s.names → IsFirstTwice s name → ⊥
never-twice s name apart is = twice-never is.earlier name is.later (subst (IsDistinct nat_eq) is.names apart) is.again

-- ---- plants that are kept

count-append : (n : ℕ) (before after : List PlantView) → count_named n (before ++ after) ≡ count_named n before + count_named n after
count-append n [] after = omega arith
count-append n (p ∷ before) after = let more = count-append n before after in omega (arith, more)

-- where a role isn't that of a dropped plant of the name, as many of the name are left of its plant
count-part : (n : ℕ) (o : Option Role) (p : PlantView) → ((r : Role) → o ≡ Some r → r.plant.name ≡ p.name) →
    ((r : Role) → o ≡ Some r → p.name ≡ n → r.part.gone ≡ false) → count_named n (left_by o p) ≡ count_named n (p ∷ [])
count-part n None p named stays = refl
count-part n (Some r) p named stays = by-gone r.part.gone refl
  where
    by-gone : (b : Bool) → r.part.gone ≡ b → count_named n (if b then [] else after_part r ∷ []) ≡ count_named n (p ∷ [])
    by-gone false e = ap (λ m. (if nat_eq m n then 1 else 0) + 0) (named r refl)
    by-gone true e = split (nat_eq p.name n)
        (λ same. let bad = sym e ∙ stays r refl (same_number p.name n same) in cc)
        (λ differs. sym (ap (λ (z : Bool). (if z then 1 else 0) + 0) differs))

count-left : (n : ℕ) (cast : List Role) (earlier : List ℕ) (plants : List PlantView) → ((r : Role) → role_of n cast ≡ Some r → r.part.gone ≡ false) →
    count_named n (left_in cast earlier plants) ≡ count_named n plants
count-left n cast earlier [] stays = refl
count-left n cast earlier (p ∷ plants) stays =
    let head = by-name (list_any (nat_eq p.name) earlier) in
    let tail = count-left n cast (p.name ∷ earlier) plants stays in
    let both = count-append n (if list_any (nat_eq p.name) earlier then p ∷ [] else left_by (role_of p.name cast) p) (left_in cast (p.name ∷ earlier) plants) in
    both ∙ ap (λ k. k + count_named n (left_in cast (p.name ∷ earlier) plants)) head ∙ ap (λ k. count_named n (p ∷ []) + k) tail
    ∙ one-more (if nat_eq p.name n then 1 else 0) (count_named n plants)
  where
    by-name : (b : Bool) → count_named n (if b then p ∷ [] else left_by (role_of p.name cast) p) ≡ count_named n (p ∷ [])
    by-name true = refl
    by-name false = count-part n (role_of p.name cast) p (role-name p.name cast) (λ r is same. stays r (ap (λ m. role_of m cast) (sym same) ∙ is))

    one-more : (a b : ℕ) → (a + 0) + b ≡ a + b
    one-more a b = omega arith

-- a plant of a cast that wasn't dropped
pub kept-plant : (plants : Plants) (names : List ℕ) (done : List Role) (r : Role) (rest : List Role) → IsCast plants.before names (done ++ r ∷ rest) →
    plants.after ≡ left_in (done ++ r ∷ rest) [] plants.before → r.part.gone ≡ false → IsKeptPlant plants r.plant.name r.plant (after_part r)
kept-plant plants names done r rest cast after_is stays =
    let around = around-role plants.before names done r rest cast in
    let none = role-none done r rest (subst (IsDistinct nat_eq) (sym cast.named) cast.distinct) in
    let here : role_of r.plant.name (done ++ r ∷ rest) ≡ Some r = role-here r.plant.name done r rest refl none in
    let left : plants.after ≡ around.before ++ after_part r ∷ around.after =
    after_is ∙ around.is r.part ∙ ap (λ z. around.before ++ (z ++ around.after)) (left-there r stays) in
    record {
      found_is = all-at (λ (x : Role). first_named x.plant.name plants.before ≡ Some x.plant) done r rest cast.meant;
      left_is =
          ap (first_named r.plant.name) left
          ∙ first-behind r.plant.name around.before (after_part r) around.after around.none refl;
      as_many =
          ap (count_named r.plant.name) after_is
          ∙ count-left r.plant.name (done ++ r ∷ rest) [] plants.before
          (λ other is. ap (λ (x : Role). x.part.gone) (same_some other r (sym is ∙ here)) ∙ stays);
    }

names-around : (names : List ℕ) (done : List Role) (r : Role) (rest : List Role) → map name_of (done ++ r ∷ rest) ≡ names →
    names ≡ map name_of done ++ r.plant.name ∷ map name_of rest
names-around names done r rest named = sym named ∙ map-append name_of done (r ∷ rest)

-- ---- a plant that has failed

module _ (plants : Plants) (s : DriveSetting) (o : Outcome) (found_is : s.plants ≡ plants.before) (left_is : o.plants ≡ plants.after) where
  pub failed-rises : (name : ℕ) → HasFailed s o name → HasRisenPlant plants s.names
  failed-rises name failed =
      let r : Role = failed.role in
      let cast = subst (λ ps. IsCast ps s.names (failed.asked ++ r ∷ failed.others)) found_is failed.stopped.driven.is_cast in
      let left = sym left_is ∙ failed.stopped.plants ∙ ap (left_in (failed.asked ++ r ∷ failed.others) []) found_is in
      record {
        earlier = map name_of failed.asked;
        name = r.plant.name;
        later = map name_of failed.others;
        names_are = names-around s.names failed.asked r failed.others cast.named;
        found = r.plant;
        left = after_part r;
        kept = kept-plant plants s.names failed.asked r failed.others cast left failed.there;
        rose = failed.rose;
      }

-- ---- a plant whose number is outside its range

asked-wide : (plants : List PlantView) (outs : List (List ℤ)) (n : ℕ) (asked : List Role) →
    AllByRecursion (λ (r : Role). first_named r.plant.name plants ≡ Some r.plant) asked → AllByRecursion (Plays outs outs (suc n)) asked →
    length (inputs_at n asked) ≡ widths_of plants (map name_of asked)
asked-wide plants outs n [] meant plays = refl
asked-wide plants outs n (r ∷ asked) meant plays =
    length-append (numbers_at n r) (inputs_at n asked)
    ∙ ap (λ k. k + length (inputs_at n asked))
    (last-wide r.plant.width (replicate r.plant.width (pos 0)) (take (suc n) r.part.given) (length-replicate r.plant.width (pos 0))
    (all-take (λ row. length row ≡ r.plant.width) (suc n) r.part.given plays.0.widths)
    ∙ sym (ap plant_width meant.0))
    ∙ ap (λ k. plant_width (first_named r.plant.name plants) + k) (asked-wide plants outs n asked meant.1 plays.1)

-- the numbers of a plant are those of the last row that it gave
last-numbers : (r : Role) (n : ℕ) → length r.part.given ≡ suc n → (last : HasLast r.part.given) → numbers_at n r ≡ last.last
last-numbers r n long last =
    ap (last_row (replicate r.plant.width (pos 0))) (take_all (suc n) r.part.given (omega (arith, long)) ∙ last.is)
    ∙ last-snoc (replicate r.plant.width (pos 0)) last.front last.last

module _ (inputs : List Column) (plants : Plants) (s : DriveSetting) (o : Outcome) (found_is : s.plants ≡ plants.before)
    (left_is : o.plants ≡ plants.after) (columns_are : columns_in s ≡ inputs) where
  pub outside-shows : (column : ℕ) (number : ℤ) → HasGivenOutside s o column number → HasOutsideRow inputs plants s.names
  outside-shows column number given =
      let r : Role = given.role in
      let n : ℕ = length o.driven.ins in
      let same : (given.asked ++ r ∷ []) ++ given.others ≡ given.asked ++ r ∷ given.others = append_assoc given.asked (r ∷ []) given.others in
      let cast : IsCast plants.before s.names (given.asked ++ r ∷ given.others) =
      subst (IsCast plants.before s.names) same
      (subst (λ ps. IsCast ps s.names ((given.asked ++ r ∷ []) ++ given.others)) found_is given.stopped.driven.is_cast) in
      let left : plants.after ≡ left_in (given.asked ++ r ∷ given.others) [] plants.before =
      sym left_is ∙ given.stopped.plants ∙ ap (left_in ((given.asked ++ r ∷ []) ++ given.others) []) found_is
      ∙ ap (λ z. left_in z [] plants.before) same in
      let plays = all-at (Plays o.driven.trace.rows o.driven.trace.rows (suc n)) given.asked r [] given.stopped.earlier in
      let long : length r.part.given ≡ suc n = (plays.there given.there).given in
      let last = has-last r.part.given n long in
      let wide =
      asked-wide plants.before o.driven.trace.rows n given.asked
      (all-front (λ (x : Role). first_named x.plant.name plants.before ≡ Some x.plant) given.asked (r ∷ given.others) cast.meant)
      (all-front (Plays o.driven.trace.rows o.driven.trace.rows (suc n)) given.asked (r ∷ []) given.stopped.earlier) in
      record {
        earlier = map name_of given.asked;
        name = r.plant.name;
        later = map name_of given.others;
        names_are = names-around s.names given.asked r given.others cast.named;
        found = r.plant;
        left = after_part r;
        kept = kept-plant plants s.names given.asked r given.others cast left given.there;
        rows = last.front;
        last = last.last;
        gave = ap (λ z. r.plant.log.given ++ z) last.is;
        at = given.outside.at;
        number = number;
        number_is = sym (ap (λ row. slice_get row given.outside.at) (last-numbers r n long last)) ∙ given.outside.is;
        input = given.outside.input;
        input_is =
            sym (ap (λ columns. slice_get columns (widths_of plants.before (map name_of given.asked) + given.outside.at)) columns_are)
            ∙ sym (ap (λ k. slice_get (columns_in s) (k + given.outside.at)) wide) ∙ given.outside.input_is;
        outside = given.outside.outside;
      }
