-- The plant that is asked next, and where a drive stands once it was.
use Rattle.std.proofs.Common.{◌≡◌, ℕ, suc, ◌+◌, ◌<◌, ◌≤◌, true, false, List, [], ◌∷◌, ◌++◌, length}
use Rattle.std.proofs.Common.{map, set, get_or, Some, Result, refl, ap, sym, subst, ◌∙◌, arith, length-append}
use Rattle.std.specs.List.{AllByRecursion, slice_get}
use Rattle.std.proofs.lemmas.List.{length-map}
use Rattle.std.proofs.lemmas.Option.{get_or_from_slice_get}
use Rattle.bl_io.specs.Count.{Rose}
use Rattle.bl_plant.specs.Plants.{IsSame, PlantView}
use Rattle.bl_plant_drive.specs.Roles.{IsCast, Plays, Role, after_part, gone_at, gone_before, inputs_before, left_in}
use Rattle.bl_plant_drive.specs.declared.driven.Gone.{Gone}
use Rattle.bl_plant_drive.specs.declared.fault.DriveFault.{DriveFault}
use Rattle.bl_plant_drive.specs.declared.seat.Seat.{Seat}
use Rattle.bl_plant_drive.specs.inner.Round.{IsAsked}
use Rattle.bl_plant_drive.specs.inner.Stands.{Asked, AskedSoFar, IsAround, IsThere, Scene, failed, finished, gave, seat_of, short}
use Rattle.bl_plant_drive.proofs.Asking.{asked-finished, asked-gave, asked-over, gone-change, inputs-change, left-there, seats-change}
use Rattle.bl_plant_drive.proofs.Casts.{Around, around-role, recast}
use Rattle.bl_plant_drive.proofs.Playing.{after-counted, counted, plays-counted}

-- where a drive stands, and the role of the plant that is asked next
pub record Next (s : Scene) (k : ℕ) (plants : List PlantView) (seats : List Seat) (gone : List Gone) : Type 0 where
  pub done : List Role
  pub role : Role
  pub rest : List Role
  pub asked : length done ≡ k
  pub cast : IsCast s.plants s.names (done ++ role ∷ rest)
  pub left : plants ≡ left_in (done ++ role ∷ rest) [] s.plants
  pub seats_are : seats ≡ map seat_of (done ++ role ∷ rest)
  pub earlier : AllByRecursion (Plays s.outs s.outs (suc (length s.ins))) done
  pub now : Plays s.outs s.outs (length s.ins) role
  pub later : AllByRecursion (Plays s.outs s.outs (length s.ins)) rest
  pub ins : s.ins ≡ inputs_before (done ++ role ∷ rest) (length s.ins)
  pub dropped : gone ≡ gone_before (done ++ role ∷ rest) (length s.ins) ++ gone_at (length s.ins) done
  pub long : length s.outs ≡ length s.ins

next-by : (s : Scene) (k : ℕ) (plants : List PlantView) (seats : List Seat) (gone : List Gone) (done rest : List Role) → length done ≡ k →
    IsCast s.plants s.names (done ++ rest) → plants ≡ left_in (done ++ rest) [] s.plants → seats ≡ map seat_of (done ++ rest) →
    AllByRecursion (Plays s.outs s.outs (suc (length s.ins))) done → AllByRecursion (Plays s.outs s.outs (length s.ins)) rest →
    s.ins ≡ inputs_before (done ++ rest) (length s.ins) → gone ≡ gone_before (done ++ rest) (length s.ins) ++ gone_at (length s.ins) done →
    length s.outs ≡ length s.ins → k < length seats → Next s k plants seats gone
next-by s k plants seats gone done [] asked cast left seats_are earlier later ins gone_is long low =
    let whole : length seats ≡ length done + 0 = ap length seats_are ∙ length-map (done ++ []) seat_of ∙ length-append done [] in
    absurd (omega (arith, whole, low, asked))
next-by s k plants seats gone done (r ∷ rest) asked cast left seats_are earlier later ins gone_is long low = record {
  done = done;
  role = r;
  rest = rest;
  asked = asked;
  cast = cast;
  left = left;
  seats_are = seats_are;
  earlier = earlier;
  now = later.0;
  later = later.1;
  ins = ins;
  dropped = gone_is;
  long = long;
}

pub next : (s : Scene) (k : ℕ) (plants : List PlantView) (seats : List Seat) (gone : List Gone) → AskedSoFar s k plants seats gone → k < length seats →
    Next s k plants seats gone
next s k plants seats gone st low =
    next-by s k plants seats gone st.done st.rest st.asked st.cast st.left st.seats_are st.earlier st.later st.ins st.gone st.long low

pub get-mid : (done : List Role) (r : Role) (rest : List Role) → slice_get (map seat_of (done ++ r ∷ rest)) (length done) ≡ Some (seat_of r)
get-mid [] r rest = refl
get-mid (d ∷ done) r rest = get-mid done r rest

-- its seat
pub seat-is : (s : Scene) (k : ℕ) (plants : List PlantView) (seats : List Seat) (gone : List Gone) (n : Next s k plants seats gone) (seat : Seat) →
    seat ≡ get_or seats k seat → seat ≡ seat_of n.role
seat-is s k plants seats gone n seat is =
    is
    ∙ get_or_from_slice_get seats k (seat_of n.role) seat
    (ap (slice_get seats) (sym n.asked) ∙ ap (λ z. slice_get z (length n.done)) n.seats_are ∙ get-mid n.done n.role n.rest)

-- the plants around it
pub around-next : (s : Scene) (k : ℕ) (plants : List PlantView) (seats : List Seat) (gone : List Gone) (n : Next s k plants seats gone) →
    Around n.done n.rest n.role.plant [] s.plants
around-next s k plants seats gone n = around-role s.plants s.names n.done n.role n.rest n.cast

pub is-around : (s : Scene) (k : ℕ) (plants : List PlantView) (seats : List Seat) (gone : List Gone) (n : Next s k plants seats gone) →
    n.role.part.gone ≡ false →
    IsAround plants n.role.plant.name (around-next s k plants seats gone n).before (after_part n.role) (around-next s k plants seats gone n).after
is-around s k plants seats gone n stays =
    let a = around-next s k plants seats gone n in
    record {
      list = n.left ∙ a.is n.role.part ∙ ap (λ z. a.before ++ (z ++ a.after)) (left-there n.role stays);
      none = a.none;
      name = refl;
    }

-- a plant that has finished isn't asked
pub over-next : (s : Scene) (k : ℕ) (plants : List PlantView) (seats : List Seat) (gone : List Gone) (n : Next s k plants seats gone) →
    n.role.part.gone ≡ true → AskedSoFar s (suc k) plants seats gone
over-next s k plants seats gone n over =
    subst (λ m. AskedSoFar s (suc m) plants seats gone) n.asked
    (asked-over s n.done n.role n.rest plants seats gone over n.cast n.left n.seats_are n.earlier n.now n.later n.ins n.dropped n.long)

-- where a drive stands once a plant has another count of faults
pub counted-next : (s : Scene) (k : ℕ) (plants now : List PlantView) (seats changed : List Seat) (gone later : List Gone) (n : Next s k plants seats gone)
    (q : PlantView) → n.role.part.gone ≡ false → IsSame (after_part n.role) q → q.log ≡ (after_part n.role).log →
    now ≡ (around-next s k plants seats gone n).before ++ q ∷ (around-next s k plants seats gone n).after →
    changed ≡ set seats k (seat_of n.role) → later ≡ gone →
    (st : AskedSoFar s k now changed later) × (st.rest ≡ counted n.role q.faults ∷ n.rest)
counted-next s k plants now seats changed gone later n q stays same log now_is changed_is later_is =
    let a = around-next s k plants seats gone n in
    let t : Role = counted n.role q.faults in
    let m : ℕ = length s.ins in (
      record {
        done = n.done;
        rest = t ∷ n.rest;
        asked = n.asked;
        cast = recast s.plants s.names n.done n.role n.rest t.part n.cast;
        left =
            now_is ∙ ap (λ z. a.before ++ z ∷ a.after) (after-counted n.role q same log)
            ∙ ap (λ z. a.before ++ (z ++ a.after)) (sym (left-there t stays)) ∙ sym (a.is t.part);
        seats_are =
            changed_is ∙ ap (λ z. set z k (seat_of n.role)) n.seats_are
            ∙ ap (λ i. set (map seat_of (n.done ++ n.role ∷ n.rest)) i (seat_of n.role)) (sym n.asked)
            ∙ seats-change n.done n.role t n.rest;
        earlier = n.earlier;
        later = (plays-counted n.role s.outs s.outs m q.faults same.faults n.now, n.later);
        ins = n.ins ∙ sym (inputs-change n.done n.role t n.rest m (λ j low. refl));
        gone =
            later_is ∙ n.dropped
            ∙ ap (λ z. z ++ gone_at m n.done) (sym (gone-change n.done n.role t n.rest m (λ j low. refl)));
        long = n.long;
      },
      refl,
    )

-- where a drive stands once the plant was asked
pub asked-next : (s : Scene) (k : ℕ) (plants now : List PlantView) (seats : List Seat) (seat : Seat) (gone later : List Gone)
    (n : Next s k plants seats gone) (result : Result (Unit {0}) DriveFault) → n.role.part.gone ≡ false →
    Asked (around-next s k plants seats gone n).before (after_part n.role) (around-next s k plants seats gone n).after (seat_of n.role)
    (length s.ins) gone now seat later result → IsAsked s k now (set seats k seat) later result
asked-next s k plants now seats seat gone later n result stays asked = elim asked [
  | gave q row e gives wide now_is seat_is later_is ↦
      subst (IsAsked s k now (set seats k seat) later) (sym e)
      (subst (λ m. AskedSoFar s (suc m) now (set seats k seat) later) n.asked
      (asked-gave s n.done n.role n.rest now (set seats k seat) later a q row stays n.cast n.earlier n.now n.later n.ins (later_is ∙ n.dropped) n.long
      gives wide now_is (seats-set seat_is)))
  | finished q row e gives now_is seat_is later_is ↦
      subst (IsAsked s k now (set seats k seat) later) (sym e)
      (subst (λ m. AskedSoFar s (suc m) now (set seats k seat) later) n.asked
      (asked-finished s n.done n.role n.rest now (set seats k seat) gone later a q row stays n.cast n.earlier n.now n.later n.ins n.dropped n.long
      gives now_is (seats-set seat_is) later_is))
  | failed q row e gives now_is seat_is later_is ↦
      subst (IsAsked s k now (set seats k seat) later) (sym e)
      (let st = counted-next s k plants now seats (set seats k seat) gone later n q stays gives.same gives.answered.0 now_is
      (ap (set seats k) seat_is) later_is in
      record {
        stands = st.0;
        role = counted n.role q.faults;
        later = n.rest;
        next = st.1;
        there = stays;
        name_is = refl;
        rose = rises n.now.faults gives.answered.1;
      })
  | short q e same log now_is seat_is later_is ↦
      subst (IsAsked s k now (set seats k seat) later) (sym e)
      (counted-next s k plants now seats (set seats k seat) gone later n q stays same log now_is (ap (set seats k) seat_is) later_is).0
]
  where
    a : Around n.done n.rest n.role.plant [] s.plants
    a = around-next s k plants seats gone n

    seats-set : {x : Seat} → seat ≡ x → set seats k seat ≡ set (map seat_of (n.done ++ n.role ∷ n.rest)) (length n.done) x
    seats-set {x} is =
        ap (set seats k) is ∙ ap (λ z. set z k x) n.seats_are ∙ ap (λ i. set (map seat_of (n.done ++ n.role ∷ n.rest)) i x) (sym n.asked)

    rises : {old mid new : ℕ} → old ≤ mid → Rose mid new → Rose old new
    rises low rose = λ ne. let more = rose ne in omega (arith, low, more)

-- it is in the list
pub there-next : (s : Scene) (k : ℕ) (plants : List PlantView) (seats : List Seat) (gone : List Gone) (n : Next s k plants seats gone) (seat : Seat) →
    seat ≡ get_or seats k seat → n.role.part.gone ≡ false → IsThere plants seat.name.number
there-next s k plants seats gone n seat is stays =
    subst (λ (x : Seat). IsThere plants x.name.number) (sym (seat-is s k plants seats gone n seat is))
    (record {
      before = (around-next s k plants seats gone n).before;
      plant = after_part n.role;
      after = (around-next s k plants seats gone n).after;
      around = is-around s k plants seats gone n stays;
    })

-- the plant of a seat was asked
pub asked-seat : (s : Scene) (k ticks : ℕ) (plants now : List PlantView) (seats : List Seat) (seat then : Seat) (gone later : List Gone)
    (n : Next s k plants seats gone) (result : Result (Unit {0}) DriveFault) → length s.ins ≡ ticks → seat ≡ get_or seats k seat →
    n.role.part.gone ≡ false →
    ((before : List PlantView) (p : PlantView) (after : List PlantView) → IsAround plants seat.name.number before p after →
    Asked before p after seat ticks gone now then later result) →
    IsAsked s k now (set seats k then) later result
asked-seat s k ticks plants now seats seat then gone later n result long is stays asked =
    let a = around-next s k plants seats gone n in
    let same = seat-is s k plants seats gone n seat is in
    asked-next s k plants now seats then gone later n result stays
    (subst (λ (x : Seat). Asked a.before (after_part n.role) a.after x (length s.ins) gone now then later result) same
    (subst (λ m. Asked a.before (after_part n.role) a.after seat m gone now then later result) (sym long)
    (asked a.before (after_part n.role) a.after
    (subst (λ (x : Seat). IsAround plants x.name.number a.before (after_part n.role) a.after) (sym same) (is-around s k plants seats gone n stays)))))
