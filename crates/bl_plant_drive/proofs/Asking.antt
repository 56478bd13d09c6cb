-- Where a drive stands once one more plant was asked.
use Rattle.std.proofs.Common.{◌≡◌, ℕ, zero, suc, ◌<◌, ℤ, pos, Bool, true, false, ◌&&◌, List, [], ◌∷◌, ◌++◌}
use Rattle.std.proofs.Common.{length, map, set, replicate, nat_eq, if◌then◌else◌, refl, ap, sym, subst}
use Rattle.std.proofs.Common.{◌∙◌, append_assoc, arith, add-one, length-append}
use Rattle.std.specs.List.{AllByRecursion, flat_map}
use Rattle.std.proofs.Math.Seq.{set-append_seam}
use Rattle.std.proofs.lemmas.Bool.{eq-eqb}
use Rattle.std.proofs.lemmas.List.{length-map}
use Rattle.std.proofs.lemmas.Grind.{flat_map-append}
use Rattle.std.proofs.lemmas.List.{append-nil, map-append, take-append-le}
use Rattle.bl_tree.proofs.Basics.{same_number}
use Rattle.bl_plant.specs.Plants.{Gives, PlantView}
use Rattle.bl_plant_drive.specs.Roles.{IsCast, PlantRecord, Plays, Role, after_part, gone_at, gone_before}
use Rattle.bl_plant_drive.specs.Roles.{gone_in, inputs_at, inputs_before, last_row, left_in, left_of, numbers_at}
use Rattle.bl_plant_drive.specs.declared.driven.Gone.{Gone}
use Rattle.bl_plant.specs.declared.plant.Give.TheVariants as give
use Rattle.bl_plant_drive.specs.declared.seat.Seat.{Seat}
use Rattle.bl_plant_drive.specs.inner.Stands.{AskedSoFar, Scene, gone_from, over, seat_of, with_columns}
use Rattle.bl_plant_drive.proofs.Casts.{Around, playing, recast, split}
use Rattle.bl_plant_drive.proofs.Playing.{after-gave, all-snoc, dropped, gave, plays-finished, plays-gave, plays-over}

-- ---- a list of roles in which one is another

pub flat-change : {A : Type 0} (f : Role → List A) (done : List Role) (r s : Role) (rest : List Role) → f s ≡ f r →
    flat_map f (done ++ s ∷ rest) ≡ flat_map f (done ++ r ∷ rest)
flat-change f [] r s rest e = ap (λ z. z ++ flat_map f rest) e
flat-change f (d ∷ done) r s rest e = ap (λ z. f d ++ z) (flat-change f done r s rest e)

pub inputs-change : (done : List Role) (r s : Role) (rest : List Role) (n : ℕ) → ((k : ℕ) → k < n → numbers_at k s ≡ numbers_at k r) →
    inputs_before (done ++ s ∷ rest) n ≡ inputs_before (done ++ r ∷ rest) n
inputs-change done r s rest zero same = refl
inputs-change done r s rest (suc n) same =
    ap (λ z. z ++ inputs_at n (done ++ s ∷ rest) ∷ []) (inputs-change done r s rest n (λ k low. same k (omega (arith, low))))
    ∙ ap (λ z. inputs_before (done ++ r ∷ rest) n ++ z ∷ []) (flat-change (numbers_at n) done r s rest (same n (omega arith)))

pub gone-change : (done : List Role) (r s : Role) (rest : List Role) (n : ℕ) → ((k : ℕ) → k < n → gone_in k s ≡ gone_in k r) →
    gone_before (done ++ s ∷ rest) n ≡ gone_before (done ++ r ∷ rest) n
gone-change done r s rest zero same = refl
gone-change done r s rest (suc n) same =
    ap (λ z. z ++ gone_at n (done ++ s ∷ rest)) (gone-change done r s rest n (λ k low. same k (omega (arith, low))))
    ∙ ap (λ z. gone_before (done ++ r ∷ rest) n ++ z) (flat-change (gone_in n) done r s rest (same n (omega arith)))

pub seats-change : (done : List Role) (r s : Role) (rest : List Role) →
    set (map seat_of (done ++ r ∷ rest)) (length done) (seat_of s) ≡ map seat_of (done ++ s ∷ rest)
seats-change done r s rest =
    ap (λ z. set z (length done) (seat_of s)) (map-append seat_of done (r ∷ rest))
    ∙ ap (λ n. set (map seat_of done ++ seat_of r ∷ map seat_of rest) n (seat_of s)) (sym (length-map done seat_of))
    ∙ set-append_seam (map seat_of done) (seat_of r) (map seat_of rest) (seat_of s)
    ∙ sym (map-append seat_of done (s ∷ rest))

-- ---- numbers and records of one role

pub gone-not : (k : ℕ) (r : Role) → r.part.gone ≡ false → gone_in k r ≡ []
gone-not k r stays =
    ap (λ (b : Bool). if b && nat_eq (length r.part.given) k then record { name = record { number = r.plant.name }; rows = k } ∷ [] else []) stays

pub gone-by : (k : ℕ) (r : Role) (b c : Bool) → r.part.gone ≡ b → nat_eq (length r.part.given) k ≡ c →
    gone_in k r ≡ (if b && c then record { name = record { number = r.plant.name }; rows = k } ∷ [] else [])
gone-by k r b c e f =
    ap (λ (z : Bool). if z && nat_eq (length r.part.given) k then record { name = record { number = r.plant.name }; rows = k } ∷ [] else []) e
    ∙ ap (λ (z : Bool). if b && z then record { name = record { number = r.plant.name }; rows = k } ∷ [] else []) f

other-tick : (a k : ℕ) → k < a → nat_eq a k ≡ false
other-tick a k low = split (nat_eq a k) (λ same. let e : a ≡ k = same_number a k same in absurd (omega (arith, e, low))) (λ fails. fails)

pub gone-later : (k : ℕ) (r : Role) (faults : ℕ) → k < length r.part.given → gone_in k (dropped r faults) ≡ []
gone-later k r faults low = gone-by k (dropped r faults) true false refl (other-tick (length r.part.given) k low)

pub gone-now : (k : ℕ) (r : Role) (faults : ℕ) → length r.part.given ≡ k → gone_in k (dropped r faults) ≡ gone_from (seat_of r) k ∷ []
gone-now k r faults is = gone-by k (dropped r faults) true true refl (eq-eqb (length r.part.given) k is)

pub numbers-gave : (k : ℕ) (r : Role) (row : List ℤ) (faults : ℕ) → k < length r.part.given → numbers_at k (gave r row faults) ≡ numbers_at k r
numbers-gave k r row faults low = ap (last_row (replicate r.plant.width (pos 0))) (take-append-le (suc k) r.part.given (row ∷ []) (omega (arith, low)))

pub last-snoc : (first : List ℤ) (rows : List (List ℤ)) (row : List ℤ) → last_row first (rows ++ row ∷ []) ≡ row
last-snoc first [] row = refl
last-snoc first (x ∷ rows) row = last-snoc x rows row

-- the seat of a plant that gave a row, and of one that was dropped
pub seat-gave : (r : Role) (row : List ℤ) (faults : ℕ) → with_columns (seat_of r) row ≡ seat_of (gave r row faults)
seat-gave r row faults =
    ap (λ z. record { name = record { number = r.plant.name }; columns = z; finished = r.part.gone })
    (sym (last-snoc (replicate r.plant.width (pos 0)) r.part.given row))

-- ---- one step

-- the next role has played in this tick, too: where the drive stands then
pub stands-on : (s : Scene) (done : List Role) (r : Role) (part : PlantRecord) (rest : List Role) (plants : List PlantView) (seats : List Seat)
    (gone : List Gone) →
    IsCast s.plants s.names (done ++ r ∷ rest) → plants ≡ left_in (done ++ playing r.plant part ∷ rest) [] s.plants →
    seats ≡ map seat_of (done ++ playing r.plant part ∷ rest) → AllByRecursion (Plays s.outs s.outs (suc (length s.ins))) done →
    Plays s.outs s.outs (suc (length s.ins)) (playing r.plant part) → AllByRecursion (Plays s.outs s.outs (length s.ins)) rest →
    s.ins ≡ inputs_before (done ++ playing r.plant part ∷ rest) (length s.ins) →
    gone ≡ gone_before (done ++ playing r.plant part ∷ rest) (length s.ins) ++
    (gone_at (length s.ins) done ++ gone_in (length s.ins) (playing r.plant part)) →
    length s.outs ≡ length s.ins → AskedSoFar s (suc (length done)) plants seats gone
stands-on s done r part rest plants seats gone cast left seats_are earlier now later ins gone_is long =
    let t : Role = playing r.plant part in
    let same : (done ++ t ∷ []) ++ rest ≡ done ++ t ∷ rest = append_assoc done (t ∷ []) rest in
    record {
      done = done ++ t ∷ [];
      rest = rest;
      asked = length-append done (t ∷ []) ∙ add-one (length done);
      cast = subst (IsCast s.plants s.names) (sym same) (recast s.plants s.names done r rest part cast);
      left = left ∙ ap (λ z. left_in z [] s.plants) (sym same);
      seats_are = seats_are ∙ ap (map seat_of) (sym same);
      earlier = all-snoc (Plays s.outs s.outs (suc (length s.ins))) done t earlier now;
      later = later;
      ins = ins ∙ ap (λ z. inputs_before z (length s.ins)) (sym same);
      gone =
          gone_is ∙ ap (λ z. gone_before z (length s.ins) ++ (gone_at (length s.ins) done ++ gone_in (length s.ins) t)) (sym same)
          ∙ ap (λ z. gone_before ((done ++ t ∷ []) ++ rest) (length s.ins) ++ (gone_at (length s.ins) done ++ z))
          (sym (append-nil (gone_in (length s.ins) t)))
          ∙ ap (λ z. gone_before ((done ++ t ∷ []) ++ rest) (length s.ins) ++ z) (sym (flat_map-append (gone_in (length s.ins)) done (t ∷ [])));
      long = long;
    }

pub left-there : (t : Role) → t.part.gone ≡ false → left_of t ≡ after_part t ∷ []
left-there t stays = ap (λ (b : Bool). if b then [] else after_part t ∷ []) stays

none-gone : (cast other : List Role) (done : List Role) (n : ℕ) (t : Role) → gone_before cast n ≡ gone_before other n → gone_in n t ≡ [] →
    gone_before other n ++ gone_at n done ≡ gone_before cast n ++ (gone_at n done ++ gone_in n t)
none-gone cast other done n t same none =
    ap (λ z. z ++ gone_at n done) (sym same) ∙ ap (λ z. gone_before cast n ++ z) (sym (append-nil (gone_at n done)))
    ∙ ap (λ z. gone_before cast n ++ (gone_at n done ++ z)) (sym none)

-- the role is that of a plant which gave a row
pub asked-gave : (s : Scene) (done : List Role) (r : Role) (rest : List Role) (plants : List PlantView) (seats : List Seat) (gone : List Gone)
    (a : Around done rest r.plant [] s.plants) (q : PlantView) (row : List ℤ) → r.part.gone ≡ false →
    IsCast s.plants s.names (done ++ r ∷ rest) → AllByRecursion (Plays s.outs s.outs (suc (length s.ins))) done →
    Plays s.outs s.outs (length s.ins) r → AllByRecursion (Plays s.outs s.outs (length s.ins)) rest →
    s.ins ≡ inputs_before (done ++ r ∷ rest) (length s.ins) →
    gone ≡ gone_before (done ++ r ∷ rest) (length s.ins) ++ gone_at (length s.ins) done → length s.outs ≡ length s.ins →
    Gives (after_part r) give.Gave row q → length row ≡ r.plant.width → plants ≡ a.before ++ q ∷ a.after →
    seats ≡ set (map seat_of (done ++ r ∷ rest)) (length done) (with_columns (seat_of r) row) →
    AskedSoFar s (suc (length done)) plants seats gone
asked-gave s done r rest plants seats gone a q row stays cast earlier plays later ins gone_is long gives wide plants_are seats_are =
    let t : Role = gave r row q.faults in
    let n : ℕ = length s.ins in
    let by_outs : Plays s.outs s.outs (length s.outs) r = subst (λ m. Plays s.outs s.outs m r) (sym long) plays in
    let before : (k : ℕ) → k < n → k < length r.part.given = λ k low. omega (arith, low, (plays.there stays).given) in
    stands-on s done r t.part rest plants seats gone cast
    (plants_are ∙ ap (λ z. a.before ++ z ∷ a.after) (after-gave r row q gives.same gives.answered.0)
    ∙ ap (λ z. a.before ++ (z ++ a.after)) (sym (left-there t stays)) ∙ sym (a.is t.part))
    (seats_are ∙ ap (set (map seat_of (done ++ r ∷ rest)) (length done)) (seat-gave r row q.faults) ∙ seats-change done r t rest)
    earlier (subst (λ m. Plays s.outs s.outs (suc m) t) long (plays-gave r s.outs row q stays by_outs gives wide)) later
    (ins ∙ sym (inputs-change done r t rest n (λ k low. numbers-gave k r row q.faults (before k low))))
    (gone_is ∙ none-gone (done ++ t ∷ rest) (done ++ r ∷ rest) done n t
    (gone-change done r t rest n (λ k low. gone-not k t stays ∙ sym (gone-not k r stays))) (gone-not n t stays))
    long

-- the role is that of a plant which has finished
pub asked-finished : (s : Scene) (done : List Role) (r : Role) (rest : List Role) (plants : List PlantView) (seats : List Seat) (gone now : List Gone)
    (a : Around done rest r.plant [] s.plants) (q : PlantView) (row : List ℤ) → r.part.gone ≡ false →
    IsCast s.plants s.names (done ++ r ∷ rest) → AllByRecursion (Plays s.outs s.outs (suc (length s.ins))) done →
    Plays s.outs s.outs (length s.ins) r → AllByRecursion (Plays s.outs s.outs (length s.ins)) rest →
    s.ins ≡ inputs_before (done ++ r ∷ rest) (length s.ins) →
    gone ≡ gone_before (done ++ r ∷ rest) (length s.ins) ++ gone_at (length s.ins) done → length s.outs ≡ length s.ins →
    Gives (after_part r) give.Finished row q → plants ≡ a.before ++ a.after →
    seats ≡ set (map seat_of (done ++ r ∷ rest)) (length done) (over (seat_of r)) → now ≡ gone ++ gone_from (seat_of r) (length s.ins) ∷ [] →
    AskedSoFar s (suc (length done)) plants seats now
asked-finished s done r rest plants seats gone now a q row stays cast earlier plays later ins gone_is long gives plants_are seats_are now_is =
    let t : Role = dropped r q.faults in
    let n : ℕ = length s.ins in
    let by_outs : Plays s.outs s.outs (length s.outs) r = subst (λ m. Plays s.outs s.outs m r) (sym long) plays in
    let here : length r.part.given ≡ n = (plays.there stays).given in
    let before : (k : ℕ) → k < n → k < length r.part.given = λ k low. omega (arith, low, here) in
    stands-on s done r t.part rest plants seats now cast (plants_are ∙ sym (a.is t.part)) (seats_are ∙ seats-change done r t rest) earlier
    (subst (λ m. Plays s.outs s.outs (suc m) t) long (plays-finished r s.outs row q stays by_outs gives)) later
    (ins ∙ sym (inputs-change done r t rest n (λ k low. refl)))
    (now_is ∙ ap (λ z. z ++ gone_from (seat_of r) n ∷ []) gone_is
    ∙ append_assoc (gone_before (done ++ r ∷ rest) n) (gone_at n done) (gone_from (seat_of r) n ∷ [])
    ∙ ap (λ z. z ++ (gone_at n done ++ gone_from (seat_of r) n ∷ []))
    (sym (gone-change done r t rest n (λ k low. gone-later k r q.faults (before k low) ∙ sym (gone-not k r stays))))
    ∙ ap (λ z. gone_before (done ++ t ∷ rest) n ++ (gone_at n done ++ z)) (sym (gone-now n r q.faults here)))
    long

-- the role is that of a plant which was dropped before this tick
pub asked-over : (s : Scene) (done : List Role) (r : Role) (rest : List Role) (plants : List PlantView) (seats : List Seat) (gone : List Gone) →
    r.part.gone ≡ true → IsCast s.plants s.names (done ++ r ∷ rest) → plants ≡ left_in (done ++ r ∷ rest) [] s.plants →
    seats ≡ map seat_of (done ++ r ∷ rest) → AllByRecursion (Plays s.outs s.outs (suc (length s.ins))) done →
    Plays s.outs s.outs (length s.ins) r → AllByRecursion (Plays s.outs s.outs (length s.ins)) rest →
    s.ins ≡ inputs_before (done ++ r ∷ rest) (length s.ins) →
    gone ≡ gone_before (done ++ r ∷ rest) (length s.ins) ++ gone_at (length s.ins) done → length s.outs ≡ length s.ins →
    AskedSoFar s (suc (length done)) plants seats gone
asked-over s done r rest plants seats gone over_now cast left seats_are earlier plays later ins gone_is long =
    let n : ℕ = length s.ins in
    let earlier_tick : length r.part.given < n = (plays.gone over_now).earlier in
    stands-on s done r r.part rest plants seats gone cast left seats_are earlier (plays-over r s.outs s.outs n over_now plays) later ins
    (gone_is ∙ none-gone (done ++ r ∷ rest) (done ++ r ∷ rest) done n r refl
    (gone-by n r true false over_now
    (split (nat_eq (length r.part.given) n)
    (λ same. let e : length r.part.given ≡ n = same_number (length r.part.given) n same in absurd (omega (arith, e, earlier_tick)))
    (λ fails. fails))))
    long
