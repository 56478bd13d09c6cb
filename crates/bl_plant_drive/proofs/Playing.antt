-- What a plant's answer makes of its part.
use Rattle.std.proofs.Common.{◌≡◌, ◌⊎◌, ℕ, zero, suc, ◌<◌, ◌≤◌, ℤ, true, false, List, [], ◌∷◌, ◌++◌, length}
use Rattle.std.proofs.Common.{take, Option, Some, None, IfSome, inl, inr, refl, ap, sym, ◌∙◌, append_assoc, arith, add-one, length-append}
use Rattle.std.specs.List.{AllByRecursion, slice_get}
use Rattle.std.proofs.lemmas.List.{take-append-le}
use Rattle.std.proofs.Math.Seq.{take-append_seam, take-length}
use Rattle.bl_tree.proofs.Basics.{same_some}
use Rattle.bl_plant.specs.Plants.{Gives, IsSame, PlantView, with_given}
use Rattle.bl_plant_drive.specs.Roles.{IsGone, IsThere, Plays, Role, after_part, log_at}
use Rattle.bl_plant.specs.declared.log.Log.{Log}
use Rattle.bl_plant.specs.declared.plant.Give.TheVariants as give
use Rattle.bl_plant_drive.proofs.Casts.{playing}

-- ---- parts after an answer

-- a plant gave one more row
abbrev pub gave : Role → List ℤ → ℕ → Role
gave r row faults = playing r.plant (record { given = r.part.given ++ row ∷ []; told = r.part.told; faults = faults; gone = r.part.gone })

-- a plant was dropped
abbrev pub dropped : Role → ℕ → Role
dropped r faults = playing r.plant (record { given = r.part.given; told = r.part.told; faults = faults; gone = true })

-- a plant has another count of faults
abbrev pub counted : Role → ℕ → Role
counted r faults = playing r.plant (record { given = r.part.given; told = r.part.told; faults = faults; gone = r.part.gone })

-- a plant was told one more row
abbrev pub heard : Role → List ℤ → ℕ → Role
heard r row faults = playing r.plant (record { given = r.part.given; told = r.part.told ++ row ∷ []; faults = faults; gone = r.part.gone })

-- ---- plants that show the same

abbrev pub shown_by : ℕ → ℕ → Log → ℕ → Option (Log → Option (List ℤ)) → PlantView
shown_by name width log faults rule = record { name = name; width = width; log = log; faults = faults; rule = rule }

-- a plant that is the same but for its log and its count of faults
pub same-shown : (p q : PlantView) (log : Log) → IsSame p q → q.log ≡ log → q ≡ shown_by p.name p.width log q.faults p.rule
same-shown p q log same is =
    ap (λ n. shown_by n q.width q.log q.faults q.rule) same.name
    ∙ ap (λ n. shown_by p.name n q.log q.faults q.rule) same.width
    ∙ ap (λ l. shown_by p.name p.width l q.faults q.rule) is
    ∙ ap (λ z. shown_by p.name p.width log q.faults z) same.rule

pub after-gave : (r : Role) (row : List ℤ) (q : PlantView) → IsSame (after_part r) q → q.log ≡ with_given (after_part r).log row →
    q ≡ after_part (gave r row q.faults)
after-gave r row q same is =
    same-shown (after_part r) q (with_given (after_part r).log row) same is
    ∙ ap (λ z. shown_by r.plant.name r.plant.width (record { given = z; told = r.plant.log.told ++ r.part.told }) q.faults r.plant.rule)
    (append_assoc r.plant.log.given r.part.given (row ∷ []))

pub after-counted : (r : Role) (q : PlantView) → IsSame (after_part r) q → q.log ≡ (after_part r).log → q ≡ after_part (counted r q.faults)
after-counted r q same is = same-shown (after_part r) q (after_part r).log same is

-- ---- lists

pub snoc-get : {A : Type 0} (xs : List A) (y x : A) (k : ℕ) → slice_get (xs ++ y ∷ []) k ≡ Some x →
    ((k < length xs) × (slice_get xs k ≡ Some x)) ⊎ ((k ≡ length xs) × (y ≡ x))
snoc-get [] y x zero e = inr (refl, same_some y x e)
snoc-get [] y x (suc k) e = absurd (no-some x e)
  where
    no-some : {A : Type 0} (x : A) → None ≡ Some x → ⊥
    no-some x e = cc
snoc-get (z ∷ xs) y x zero e = inl (omega arith, e)
snoc-get (z ∷ xs) y x (suc k) e = elim (snoc-get xs y x k e) [
  | inl both ↦ inl (omega (arith, both.0), both.1)
  | inr both ↦ inr (ap suc both.0, both.1)
]

pub all-snoc : {A : Type 0} (P : A → Type 0) (xs : List A) (y : A) → AllByRecursion P xs → P y → AllByRecursion P (xs ++ y ∷ [])
all-snoc P [] y all one = (one, all)
all-snoc P (x ∷ xs) y all one = (all.0, all-snoc P xs y all.1 one)

-- ---- rules

-- what holds of a rule where it is told
both-some : {A : Type 0} (o : Option A) (P Q R : A → Type 0) → ((a : A) → P a → Q a → R a) → IfSome o P → IfSome o Q → IfSome o R
both-some None P Q R on p q = tt
both-some (Some a) P Q R on p q = on a p q

abbrev log_by : Role → List (List ℤ) → List (List ℤ) → Log
log_by r given told = record { given = r.plant.log.given ++ given; told = r.plant.log.told ++ told }

-- the log of a plant that is asked in the tick after all of these
log-now : (r : Role) (outs : List (List ℤ)) (more : List (List ℤ)) → r.part.told ≡ outs → length r.part.given ≡ length outs →
    log_by r (take (length r.part.given) (r.part.given ++ more)) (take (length r.part.given) outs) ≡ (after_part r).log
log-now r outs more told long =
    ap (λ z. log_by r z (take (length r.part.given) outs)) (take-append_seam r.part.given more)
    ∙ ap (λ z. log_by r r.part.given z) (ap (λ n. take n outs) long ∙ take-length outs ∙ sym told)

rule-more : (r : Role) (outs : List (List ℤ)) (row : List ℤ) (faults : ℕ) → r.part.told ≡ outs → length r.part.given ≡ length outs →
    (rule : Log → Option (List ℤ)) → ((k : ℕ) (x : List ℤ) → slice_get r.part.given k ≡ Some x → rule (log_at r outs k) ≡ Some x) →
    rule (after_part r).log ≡ Some row →
    (k : ℕ) (x : List ℤ) → slice_get (r.part.given ++ row ∷ []) k ≡ Some x → rule (log_at (gave r row faults) outs k) ≡ Some x
rule-more r outs row faults told long rule old new k x e = elim (snoc-get r.part.given row x k e) [
  | inl both ↦
      ap (λ z. rule (log_by r z (take k outs))) (take-append-le k r.part.given (row ∷ []) (omega (arith, both.0))) ∙ old k x both.1
  | inr both ↦
      ap (λ n. rule (log_by r (take n (r.part.given ++ row ∷ [])) (take n outs))) both.0
      ∙ ap rule (log-now r outs (row ∷ []) told long) ∙ new ∙ ap Some both.1
]

-- a plant that gave a row
pub plays-gave : (r : Role) (outs : List (List ℤ)) (row : List ℤ) (q : PlantView) → r.part.gone ≡ false → Plays outs outs (length outs) r →
    Gives (after_part r) give.Gave row q → length row ≡ r.plant.width → Plays outs outs (suc (length outs)) (gave r row q.faults)
plays-gave r outs row q stays plays gives wide =
    let here : IsThere outs (length outs) r = plays.there stays in
    record {
      rule =
          both-some r.plant.rule
          (λ rule. (k : ℕ) (x : List ℤ) → slice_get r.part.given k ≡ Some x → rule (log_at r outs k) ≡ Some x)
          (λ rule. rule (after_part r).log ≡ Some row)
          (λ rule. (k : ℕ) (x : List ℤ) → slice_get (r.part.given ++ row ∷ []) k ≡ Some x → rule (log_at (gave r row q.faults) outs k) ≡ Some x)
          (rule-more r outs row q.faults here.told here.given) plays.rule gives.answered.1;
      widths = all-snoc (λ x. length x ≡ r.plant.width) r.part.given row plays.widths wide;
      faults = omega (arith, plays.faults, gives.same.faults);
      there = λ e. record { given = length-append r.part.given (row ∷ []) ∙ add-one (length r.part.given) ∙ ap suc here.given; told = here.told };
      gone = λ e. let bad = sym stays ∙ e in cc;
    }

-- a plant that has finished now
pub plays-finished : (r : Role) (outs : List (List ℤ)) (row : List ℤ) (q : PlantView) → r.part.gone ≡ false → Plays outs outs (length outs) r →
    Gives (after_part r) give.Finished row q → Plays outs outs (suc (length outs)) (dropped r q.faults)
plays-finished r outs row q stays plays gives =
    let here : IsThere outs (length outs) r = plays.there stays in
    record {
      rule = plays.rule;
      widths = plays.widths;
      faults = omega (arith, plays.faults, gives.same.faults);
      there = λ e. cc;
      gone = λ e. record {
        earlier = omega (arith, here.given);
        rule =
            both-some r.plant.rule (λ rule. rule (after_part r).log ≡ None) (λ rule. Unit {0})
            (λ rule. rule (log_at r outs (length r.part.given)) ≡ None)
            (λ rule new u.
            ap (λ z. rule (log_by r z (take (length r.part.given) outs))) (take-length r.part.given)
            ∙ ap (λ z. rule (log_by r r.part.given z)) (ap (λ n. take n outs) here.given ∙ take-length outs ∙ sym here.told) ∙ new)
            gives.answered.1 (no-fact r.plant.rule);
      };
    }
  where
    no-fact : {A : Type 0} (o : Option A) → IfSome o (λ a. Unit {0})
    no-fact None = tt
    no-fact (Some a) = tt

-- a plant that was dropped before this tick
pub plays-over : (r : Role) (outs told : List (List ℤ)) (n : ℕ) → r.part.gone ≡ true → Plays outs told n r → Plays outs told (suc n) r
plays-over r outs told n over plays = record {
  rule = plays.rule;
  widths = plays.widths;
  faults = plays.faults;
  there = λ e. let bad = sym over ∙ e in cc;
  gone = λ e. let was : IsGone outs n r = plays.gone e in record { earlier = omega (arith, was.earlier); rule = was.rule };
}

-- a plant with another count of faults
pub plays-counted : (r : Role) (outs told : List (List ℤ)) (n faults : ℕ) → r.part.faults ≤ faults → Plays outs told n r →
    Plays outs told n (counted r faults)
plays-counted r outs told n faults more plays = record {
  rule = plays.rule;
  widths = plays.widths;
  faults = omega (arith, plays.faults, more);
  there = λ e. let was : IsThere told n r = plays.there e in record { given = was.given; told = was.told };
  gone = λ e. let was : IsGone outs n r = plays.gone e in record { earlier = was.earlier; rule = was.rule };
}
