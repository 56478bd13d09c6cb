-- Plants that answer by their rules.
use Rattle.std.proofs.Common.{◌≡◌, ℕ, zero, suc, ◌+◌, ◌<◌, ◌≤◌, ℤ, if◌then◌else◌, List, [], ◌∷◌, ◌++◌, length, take, set, fold, Some}
use Rattle.std.proofs.Common.{refl, ap, sym, ◌∙◌, arith, get_or, le_refl}
use Rattle.std.proofs.lemmas.Option.{slice_get_read}
use Rattle.std.specs.List.{slice_get}
use Rattle.bl_plant.specs.Kinds.{level_after, level_then, rows_in, script}
use Rattle.bl_plant.specs.Plants.{Gives, with_given}
use Rattle.bl_plant.specs.declared.log.Log.{Log}
use Rattle.bl_plant.specs.declared.plant.Give.{Give}
use Rattle.bl_plant.specs.declared.plant.Give.TheVariants as give
use Rattle.bl_plant.specs.declared.script.Turn.{Turn}
use Rattle.bl_plant.specs.declared.script.Turn.TheVariants as turn
use Rattle.bl_plant.specs.inner.Given.{IsGiven}

-- a row of one number
pub one-set : (row : List ℤ) (x : ℤ) → length row ≡ 1 → set row 0 x ≡ x ∷ []
one-set [] x long = cc
one-set (y ∷ []) x long = refl
one-set (y ∷ z ∷ row) x long = absurd (omega (arith, long))

fold-snoc : {A B : Type 0} (f : B → A → B) (b : B) (xs : List A) (x : A) → fold f b (xs ++ x ∷ []) ≡ f (fold f b xs) x
fold-snoc f b [] x = refl
fold-snoc f b (y ∷ xs) x = fold-snoc f (f b y) xs x

-- the level after one more row of outputs, and the number of a ramp after one more row
pub level-more : (first drain : ℤ) (told : List (List ℤ)) (outs : List ℤ) →
    level_after first drain (told ++ outs ∷ []) ≡ level_then drain (level_after first drain told) outs
level-more first drain told outs = fold-snoc (level_then drain) first told outs

-- ---- scripts

pub script-gives : (name width : ℕ) (turns : List Turn) (faults : ℕ) (log now : Log) (answer : Give) (into row : List ℤ) →
    slice_get (rows_in turns) (length log.given) ≡ Some row → IsGiven log row answer into now →
    Gives (script name width turns log faults) answer into (script name width turns now faults)
script-gives name width turns faults log now give.Gave into row next given = record {
  same = record { name = refl; width = refl; rule = refl; faults = le_refl faults };
  answered = (given.1 ∙ ap (with_given log) (sym given.0), next ∙ ap Some (sym given.0));
}
script-gives name width turns faults log now give.Finished into row next given = absurd given
script-gives name width turns faults log now give.Failed into row next given = absurd given
script-gives name width turns faults log now give.NoMemory into row next given = record {
  same = record { name = refl; width = refl; rule = refl; faults = le_refl faults };
  answered = given;
}

-- the row of the next turn is the next row
pub next-row : (turns : List Turn) (k : ℕ) (row : List ℤ) → slice_get turns k ≡ Some (turn.Give row) →
    slice_get (rows_in turns) (length (rows_in (take k turns))) ≡ Some row
next-row [] k row is = cc
next-row (turn.Give x ∷ turns) zero row is = ap Some (same-give x row is)
  where
    same-give : (x y : List ℤ) → Some (turn.Give x) ≡ Some (turn.Give y) → x ≡ y
    same-give x y e = cc
next-row (turn.Fail ∷ turns) zero row is = cc
next-row (turn.Give x ∷ turns) (suc k) row is = next-row turns k row is
next-row (turn.Fail ∷ turns) (suc k) row is = next-row turns k row is

-- how many rows there are after one more turn
pub rows-given : (turns : List Turn) (k : ℕ) (row : List ℤ) → slice_get turns k ≡ Some (turn.Give row) →
    length (rows_in (take (suc k) turns)) ≡ suc (length (rows_in (take k turns)))
rows-given [] k row is = cc
rows-given (turn.Give x ∷ turns) zero row is = refl
rows-given (turn.Fail ∷ turns) zero row is = cc
rows-given (turn.Give x ∷ turns) (suc k) row is = ap suc (rows-given turns k row is)
rows-given (turn.Fail ∷ turns) (suc k) row is = rows-given turns k row is

pub rows-failed : (turns : List Turn) (k : ℕ) → slice_get turns k ≡ Some turn.Fail → length (rows_in (take (suc k) turns))
    ≡ length (rows_in (take k turns))
rows-failed [] k is = cc
rows-failed (turn.Give x ∷ turns) zero is = cc
rows-failed (turn.Fail ∷ turns) zero is = refl
rows-failed (turn.Give x ∷ turns) (suc k) is = ap suc (rows-failed turns k is)
rows-failed (turn.Fail ∷ turns) (suc k) is = rows-failed turns k is

-- the turn at a place
pub turn-is : (turns seen : List Turn) (k : ℕ) (t u : Turn) → seen ≡ turns → k < length turns → t ≡ get_or seen k t → t ≡ u →
    slice_get turns k ≡ Some u
turn-is turns seen k t u same low at is =
    slice_get_read turns (length turns) k t refl low (at ∙ ap (λ z. get_or z k t) same) ∙ ap Some is
