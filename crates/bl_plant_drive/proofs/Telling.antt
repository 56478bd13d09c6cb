-- What being told a row makes of a part, and where a drive stands then.
use Rattle.std.proofs.Common.{◌≡◌, ℕ, suc, ◌<◌, ◌≤◌, ◌+◌, ℤ, true, false, List, [], ◌∷◌, ◌++◌, length, map, take}
use Rattle.std.proofs.Common.{get_or, Option, Some, None, IfSome, refl, ap, sym, subst, ◌∙◌, append_assoc, arith, add-one, length-append}
use Rattle.std.proofs.Common.{Result, Ok, Err}
use Rattle.std.specs.List.{AllByRecursion, slice_get}
use Rattle.std.specs.Result.{IsErrAnd}
use Rattle.std.proofs.lemmas.List.{length-map, take-append-le}
use Rattle.std.proofs.lemmas.Option.{get_or_from_slice_get, slice_get_within}
use Rattle.bl_plant_drive.specs.Roles.{IsCast, IsGone, IsThere, Plays, Role, after_part, gone_before, inputs_before, left_in, log_at}
use Rattle.bl_plant_drive.specs.declared.seat.Seat.{Seat}
use Rattle.bl_plant_drive.specs.inner.Stands.{IsAround, IsThere as IsListed, seat_of}
use Rattle.bl_plant_drive.specs.inner.Ticks.{AreTold, Hearing, IsToldNext, ToldSoFar, outs_now}
use Rattle.bl_plant_drive.proofs.Asking.{gone-change, inputs-change, left-there}
use Rattle.bl_plant_drive.proofs.Casts.{Around, around-role, playing, recast, split}
use Rattle.bl_plant_drive.proofs.Playing.{after-counted, all-snoc, counted, heard, plays-counted, same-shown}
use Rattle.bl_plant.specs.Plants.{IsSame, IsTold, LogTold, PlantView, with_told}
use Rattle.bl_plant.specs.declared.log.Log.{Log}
use Rattle.bl_tree.specs.declared.memory.NoMemory.{NoMemory}
use Rattle.bl_plant_drive.proofs.Rounds.{get-mid}

-- ---- one part

some-on : {A : Type 0} (o : Option A) (P Q : A → Type 0) → ((a : A) → P a → Q a) → IfSome o P → IfSome o Q
some-on None P Q on p = tt
some-on (Some a) P Q on p = on a p

-- a plant gave no more rows than it was asked for
pub given-low : (r : Role) (outs told : List (List ℤ)) (asked : ℕ) → Plays outs told asked r → length r.part.given ≤ asked
given-low r outs told asked plays = split r.part.gone
    (λ over. let was : IsGone outs asked r = plays.gone over in let low = was.earlier in omega (arith, low))
    (λ stays. let was : IsThere told asked r = plays.there stays in let is = was.given in omega (arith, is))

-- the rows of outputs matter only as far as the plant was asked
pub plays-same : (r : Role) (outs later told : List (List ℤ)) (asked : ℕ) → ((k : ℕ) → k < asked → take k outs ≡ take k later) →
    Plays outs told asked r → Plays later told asked r
plays-same r outs later told asked same plays =
    let low = given-low r outs told asked plays in
    record {
      rule =
          some-on r.plant.rule (λ rule. (k : ℕ) (row : List ℤ) → slice_get r.part.given k ≡ Some row → rule (log_at r outs k) ≡ Some row)
          (λ rule. (k : ℕ) (row : List ℤ) → slice_get r.part.given k ≡ Some row → rule (log_at r later k) ≡ Some row)
          (λ rule old k row e.
          let within = slice_get_within r.part.given k row e in
          ap (λ z. rule (log_by (take k r.part.given) z)) (sym (same k (omega (arith, within, low)))) ∙ old k row e)
          plays.rule;
      widths = plays.widths;
      faults = plays.faults;
      there = plays.there;
      gone = λ over. let was : IsGone outs asked r = plays.gone over in record {
        earlier = was.earlier;
        rule =
            some-on r.plant.rule (λ rule. rule (log_at r outs (length r.part.given)) ≡ None) (λ rule. rule (log_at r later (length r.part.given)) ≡ None)
            (λ rule old.
            ap (λ z. rule (log_by (take (length r.part.given) r.part.given) z)) (sym (same (length r.part.given) was.earlier)) ∙ old)
            was.rule;
      };
    }
  where
    log_by : List (List ℤ) → List (List ℤ) → Log
    log_by given told = record { given = r.plant.log.given ++ given; told = r.plant.log.told ++ told }

pub take-front : (outs : List (List ℤ)) (row : List ℤ) (n k : ℕ) → n ≡ suc (length outs) → k < n → take k outs ≡ take k (outs ++ row ∷ [])
take-front outs row n k long low = sym (take-append-le k outs (row ∷ []) (omega (arith, long, low)))

pub all-map : {A : Type 0} (P Q : A → Type 0) → ((a : A) → P a → Q a) → (xs : List A) → AllByRecursion P xs → AllByRecursion Q xs
all-map P Q on [] all = tt
all-map P Q on (x ∷ xs) all = (on x all.0, all-map P Q on xs all.1)

pub all-both : {A : Type 0} (P : A → Type 0) (xs ys : List A) → AllByRecursion P xs → AllByRecursion P ys → AllByRecursion P (xs ++ ys)
all-both P [] ys first rest = rest
all-both P (x ∷ xs) ys first rest = (first.0, all-both P xs ys first.1 rest)

-- a plant was told the row
plays-heard : (r : Role) (outs : List (List ℤ)) (row : List ℤ) (n faults : ℕ) → r.part.gone ≡ false → r.part.faults ≤ faults →
    Plays (outs ++ row ∷ []) outs n r → Plays (outs ++ row ∷ []) (outs ++ row ∷ []) n (heard r row faults)
plays-heard r outs row n faults stays more plays =
    let was : IsThere outs n r = plays.there stays in
    record {
      rule = plays.rule;
      widths = plays.widths;
      faults = omega (arith, plays.faults, more);
      there = λ e. record { given = was.given; told = ap (λ z. z ++ row ∷ []) was.told };
      gone = λ e. let bad = sym stays ∙ e in cc;
    }

-- a plant that was dropped is told nothing
plays-deaf : (r : Role) (outs told later : List (List ℤ)) (n : ℕ) → r.part.gone ≡ true → Plays outs told n r → Plays outs later n r
plays-deaf r outs told later n over plays = record {
  rule = plays.rule;
  widths = plays.widths;
  faults = plays.faults;
  there = λ e. let bad = sym over ∙ e in cc;
  gone = plays.gone;
}

after-heard : (r : Role) (row : List ℤ) (q : PlantView) → IsSame (after_part r) q → q.log ≡ with_told (after_part r).log row →
    q ≡ after_part (heard r row q.faults)
after-heard r row q same is =
    same-shown (after_part r) q (with_told (after_part r).log row) same is
    ∙ ap (λ z. shown_with (record { given = r.plant.log.given ++ r.part.given; told = z }))
    (append_assoc r.plant.log.told r.part.told (row ∷ []))
  where
    shown_with : Log → PlantView
    shown_with log = record { name = r.plant.name; width = r.plant.width; log = log; faults = q.faults; rule = r.plant.rule }

-- ---- the plant that is told next

-- where a drive stands, and the role of the plant that is told next
pub record NextTold (h : Hearing) (k : ℕ) (plants : List PlantView) (seats : List Seat) : Type 0 where
  pub done : List Role
  pub role : Role
  pub rest : List Role
  pub told : length done ≡ k
  pub cast : IsCast h.plants h.names (done ++ role ∷ rest)
  pub left : plants ≡ left_in (done ++ role ∷ rest) [] h.plants
  pub seats_are : seats ≡ map seat_of (done ++ role ∷ rest)
  pub earlier : AllByRecursion (Plays (outs_now h) (outs_now h) (length h.ins)) done
  pub now : Plays (outs_now h) h.outs (length h.ins) role
  pub later : AllByRecursion (Plays (outs_now h) h.outs (length h.ins)) rest
  pub ins : h.ins ≡ inputs_before (done ++ role ∷ rest) (length h.ins)
  pub gone : h.dropped ≡ gone_before (done ++ role ∷ rest) (length h.ins)
  pub long : length h.ins ≡ suc (length h.outs)

next-by : (h : Hearing) (k : ℕ) (plants : List PlantView) (seats : List Seat) (done rest : List Role) → length done ≡ k →
    IsCast h.plants h.names (done ++ rest) → plants ≡ left_in (done ++ rest) [] h.plants → seats ≡ map seat_of (done ++ rest) →
    AllByRecursion (Plays (outs_now h) (outs_now h) (length h.ins)) done → AllByRecursion (Plays (outs_now h) h.outs (length h.ins)) rest →
    h.ins ≡ inputs_before (done ++ rest) (length h.ins) → h.dropped ≡ gone_before (done ++ rest) (length h.ins) →
    length h.ins ≡ suc (length h.outs) → k < length seats → NextTold h k plants seats
next-by h k plants seats done [] told cast left seats_are earlier later ins gone long low =
    let whole : length seats ≡ length done + 0 = ap length seats_are ∙ length-map (done ++ []) seat_of ∙ length-append done [] in
    absurd (omega (arith, whole, low, told))
next-by h k plants seats done (r ∷ rest) told cast left seats_are earlier later ins gone long low = record {
  done = done;
  role = r;
  rest = rest;
  told = told;
  cast = cast;
  left = left;
  seats_are = seats_are;
  earlier = earlier;
  now = later.0;
  later = later.1;
  ins = ins;
  gone = gone;
  long = long;
}

pub next-told : (h : Hearing) (k : ℕ) (plants : List PlantView) (seats : List Seat) → ToldSoFar h k plants seats → k < length seats →
    NextTold h k plants seats
next-told h k plants seats t low =
    next-by h k plants seats t.done t.rest t.told t.cast t.left t.seats_are t.earlier t.later t.ins t.gone t.long low

-- its seat
pub seat-told : (h : Hearing) (k : ℕ) (plants : List PlantView) (seats : List Seat) (n : NextTold h k plants seats) (seat : Seat) →
    seat ≡ get_or seats k seat → seat ≡ seat_of n.role
seat-told h k plants seats n seat is =
    is
    ∙ get_or_from_slice_get seats k (seat_of n.role) seat
    (ap (slice_get seats) (sym n.told) ∙ ap (λ z. slice_get z (length n.done)) n.seats_are ∙ get-mid n.done n.role n.rest)

around-told : (h : Hearing) (k : ℕ) (plants : List PlantView) (seats : List Seat) (n : NextTold h k plants seats) →
    Around n.done n.rest n.role.plant [] h.plants
around-told h k plants seats n = around-role h.plants h.names n.done n.role n.rest n.cast

is-around : (h : Hearing) (k : ℕ) (plants : List PlantView) (seats : List Seat) (n : NextTold h k plants seats) → n.role.part.gone ≡ false →
    IsAround plants n.role.plant.name (around-told h k plants seats n).before (after_part n.role) (around-told h k plants seats n).after
is-around h k plants seats n stays =
    let a = around-told h k plants seats n in
    record {
      list = n.left ∙ a.is n.role.part ∙ ap (λ z. a.before ++ (z ++ a.after)) (left-there n.role stays);
      none = a.none;
      name = refl;
    }

-- it is in the list, whichever way its seat was read
pub told-there : (h : Hearing) (k : ℕ) (plants : List PlantView) (seats : List Seat) (n : NextTold h k plants seats) (seat again : Seat) →
    seat ≡ get_or seats k seat → again ≡ get_or seats k again → seat.finished ≡ false → IsListed plants again.name.number
told-there h k plants seats n seat again is is_too stays =
    let same = seat-told h k plants seats n seat is in
    subst (λ (x : Seat). IsListed plants x.name.number) (sym (seat-told h k plants seats n again is_too))
    (record {
      before = (around-told h k plants seats n).before;
      plant = after_part n.role;
      after = (around-told h k plants seats n).after;
      around = is-around h k plants seats n (ap (λ (x : Seat). x.finished) (sym same) ∙ stays);
    })

map-change : {A B : Type 0} (f : A → B) (done : List A) (r t : A) (rest : List A) → f t ≡ f r → map f (done ++ r ∷ rest)
    ≡ map f (done ++ t ∷ rest)
map-change f [] r t rest e = ap (λ z. z ∷ map f rest) (sym e)
map-change f (d ∷ done) r t rest e = ap (λ z. f d ∷ z) (map-change f done r t rest e)

-- where the drive stands once it was told
tells-on : (h : Hearing) (k : ℕ) (plants now : List PlantView) (seats : List Seat) (n : NextTold h k plants seats) (faults : ℕ)
    (told : List (List ℤ)) →
    let t : Role = playing n.role.plant (record { given = n.role.part.given; told = told; faults = faults; gone = n.role.part.gone }) in
    now ≡ left_in (n.done ++ t ∷ n.rest) [] h.plants → Plays (outs_now h) (outs_now h) (length h.ins) t → ToldSoFar h (suc k) now seats
tells-on h k plants now seats n faults told left plays =
    let t : Role = playing n.role.plant (record { given = n.role.part.given; told = told; faults = faults; gone = n.role.part.gone }) in
    let same : (n.done ++ t ∷ []) ++ n.rest ≡ n.done ++ t ∷ n.rest = append_assoc n.done (t ∷ []) n.rest in
    record {
      done = n.done ++ t ∷ [];
      rest = n.rest;
      told = length-append n.done (t ∷ []) ∙ add-one (length n.done) ∙ ap suc n.told;
      cast = subst (IsCast h.plants h.names) (sym same) (recast h.plants h.names n.done n.role n.rest t.part n.cast);
      left = left ∙ ap (λ z. left_in z [] h.plants) (sym same);
      seats_are = n.seats_are ∙ map-change seat_of n.done n.role t n.rest refl ∙ ap (map seat_of) (sym same);
      earlier = all-snoc (Plays (outs_now h) (outs_now h) (length h.ins)) n.done t n.earlier plays;
      later = n.later;
      ins =
          n.ins ∙ sym (inputs-change n.done n.role t n.rest (length h.ins) (λ j low. refl))
          ∙ ap (λ z. inputs_before z (length h.ins)) (sym same);
      gone =
          n.gone ∙ sym (gone-change n.done n.role t n.rest (length h.ins) (λ j low. refl))
          ∙ ap (λ z. gone_before z (length h.ins)) (sym same);
      long = n.long;
    }

-- a plant that has finished isn't told
pub deaf-next : (h : Hearing) (k : ℕ) (plants : List PlantView) (seats : List Seat) (n : NextTold h k plants seats) (seat : Seat) →
    seat ≡ get_or seats k seat → seat.finished ≡ true → ToldSoFar h (suc k) plants seats
deaf-next h k plants seats n seat is over =
    let gone = ap (λ (x : Seat). x.finished) (sym (seat-told h k plants seats n seat is)) ∙ over in
    tells-on h k plants plants seats n n.role.part.faults n.role.part.told n.left
    (plays-deaf n.role (outs_now h) h.outs (outs_now h) (length h.ins) gone n.now)

-- the plant has another count of faults, for memory was refused
short-next : (h : Hearing) (k : ℕ) (plants now : List PlantView) (seats : List Seat) (n : NextTold h k plants seats) (q : PlantView) →
    n.role.part.gone ≡ false → IsSame (after_part n.role) q → q.log ≡ (after_part n.role).log →
    now ≡ (around-told h k plants seats n).before ++ q ∷ (around-told h k plants seats n).after → ToldSoFar h k now seats
short-next h k plants now seats n q stays same log now_is =
    let a = around-told h k plants seats n in
    let t : Role = counted n.role q.faults in
    record {
      done = n.done;
      rest = t ∷ n.rest;
      told = n.told;
      cast = recast h.plants h.names n.done n.role n.rest t.part n.cast;
      left =
          now_is ∙ ap (λ z. a.before ++ z ∷ a.after) (after-counted n.role q same log)
          ∙ ap (λ z. a.before ++ (z ++ a.after)) (sym (left-there t stays)) ∙ sym (a.is t.part);
      seats_are = n.seats_are ∙ map-change seat_of n.done n.role t n.rest refl;
      earlier = n.earlier;
      later = (plays-counted n.role (outs_now h) h.outs (length h.ins) q.faults same.faults n.now, n.later);
      ins = n.ins ∙ sym (inputs-change n.done n.role t n.rest (length h.ins) (λ j low. refl));
      gone = n.gone ∙ sym (gone-change n.done n.role t n.rest (length h.ins) (λ j low. refl));
      long = n.long;
    }

heard-by : (h : Hearing) (k : ℕ) (plants now : List PlantView) (seats : List Seat) (n : NextTold h k plants seats) (q : PlantView)
    (result : Result (Unit {0}) NoMemory) → n.role.part.gone ≡ false → IsSame (after_part n.role) q →
    LogTold (after_part n.role).log h.row result q.log →
    now ≡ (around-told h k plants seats n).before ++ q ∷ (around-told h k plants seats n).after → IsToldNext h k now seats result
heard-by h k plants now seats n q (Ok done) stays same log now_is =
    let a = around-told h k plants seats n in
    let t : Role = heard n.role h.row q.faults in
    tells-on h k plants now seats n q.faults (n.role.part.told ++ h.row ∷ [])
    (now_is ∙ ap (λ z. a.before ++ z ∷ a.after) (after-heard n.role h.row q same log)
    ∙ ap (λ z. a.before ++ (z ++ a.after)) (sym (left-there t stays)) ∙ sym (a.is t.part))
    (plays-heard n.role h.outs h.row (length h.ins) q.faults stays same.faults n.now)
heard-by h k plants now seats n q (Err e) stays same log now_is = short-next h k plants now seats n q stays same log now_is

-- the plant of a seat was told
pub heard-next : (h : Hearing) (k : ℕ) (plants now : List PlantView) (seats : List Seat) (row : List ℤ) (n : NextTold h k plants seats)
    (seat again : Seat) (result : Result (Unit {0}) NoMemory) → h.row ≡ row → seat ≡ get_or seats k seat → again ≡ get_or seats k again →
    seat.finished ≡ false →
    ((before : List PlantView) (p : PlantView) (after : List PlantView) → IsAround plants again.name.number before p after →
    (q : PlantView) × IsTold p row result q × (now ≡ before ++ q ∷ after)) →
    IsToldNext h k now seats result
heard-next h k plants now seats row n seat again result same_row is is_too stays told =
    let a = around-told h k plants seats n in
    let there = ap (λ (x : Seat). x.finished) (sym (seat-told h k plants seats n seat is)) ∙ stays in
    let got = told a.before (after_part n.role) a.after
    (subst (λ (x : Seat). IsAround plants x.name.number a.before (after_part n.role) a.after) (sym (seat-told h k plants seats n again is_too))
    (is-around h k plants seats n there)) in
    heard-by h k plants now seats n got.0 result there got.1.same
    (subst (λ x. LogTold (after_part n.role).log x result got.0.log) (sym same_row) got.1.told) got.2

-- ---- all plants

pub tells-step : (h : Hearing) (k : ℕ) (plants : List PlantView) (seats : List Seat) → ToldSoFar h (suc k) plants seats → ToldSoFar h (k + 1) plants seats
tells-step h k plants seats t = subst (λ m. ToldSoFar h m plants seats) (sym (add-one k)) t

-- want of memory that is passed on
pub told-short : (h : Hearing) (k : ℕ) (plants : List PlantView) (seats : List Seat) (e : NoMemory) (r : Result (Unit {0}) NoMemory) →
    IsErrAnd r (λ x. x ≡ e) → ToldSoFar h k plants seats → AreTold h plants seats r
told-short h k plants seats e (Ok u) is t = absurd is
told-short h k plants seats e (Err x) is t = (k, t)

-- all were told
tells-all-by : (h : Hearing) (k : ℕ) (plants : List PlantView) (seats : List Seat) (done rest : List Role) → length done ≡ k →
    seats ≡ map seat_of (done ++ rest) → length seats ≤ k → k ≡ length seats
tells-all-by h k plants seats done rest told are past =
    let whole : length seats ≡ length done + length rest = ap length are ∙ length-map (done ++ rest) seat_of ∙ length-append done rest in
    omega (arith, whole, told, past)

pub tells-all : (h : Hearing) (k : ℕ) (plants : List PlantView) (seats : List Seat) → length seats ≤ k → ToldSoFar h k plants seats →
    ToldSoFar h (length seats) plants seats
tells-all h k plants seats past t =
    subst (λ m. ToldSoFar h m plants seats) (tells-all-by h k plants seats t.done t.rest t.told t.seats_are past) t
