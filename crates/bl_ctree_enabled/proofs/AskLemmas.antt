-- The flags of points that are asked again.
use Rattle.std.proofs.Common.{◌≡◌, ◌⊎◌, ⊎_elim, inl, inr, ℕ, zero, suc, ◌+◌, ◌<◌, ◌≤◌, Bool, true, false, cond, ◌||◌, List, [], ◌∷◌, ◌++◌, map, take, drop}
use Rattle.std.proofs.Common.{length, refl, sym, ap, ◌∙◌, arith, nat_eq, eq-eqb}
use Rattle.std.specs.Prelude.{Option, Some, None, option_map, slice_get, slice_set}
use Rattle.std.specs.List.{list_any}
use Rattle.std.proofs.lemmas.List.Folds.{list_any-append}
use Rattle.bl_tree.proofs.Basics.{drop_at, drop_past, same_number, same_some}
use Rattle.bl_ctree.specs.Store.{Location, overlap}
use Rattle.bl_ctree_store.specs.declared.home.Home.{Home}
use Rattle.bl_ctree_store.specs.Seen.{location_of}
use Rattle.bl_ctree_enabled.specs.declared.table.Table.{Table}
use Rattle.bl_ctree_enabled.specs.Listing.{flags_from, flags_of, list_at, touches}
use Rattle.bl_ctree_enabled.specs.Spots.{Spot, is_free_of}
use Rattle.bl_ctree_enabled.specs.inner.Asked.{DecidedBy, asked_flags, asked_from}
use Rattle.bl_ctree_enabled.specs.inner.Tables.{AllNoted, Key, near, reads_in}
use Rattle.bl_ctree_enabled.proofs.ChangeLemmas.{touches-append, touches_nothing}
use Rattle.bl_ctree_enabled.proofs.FlagLemmas.{flag_same}
use Rattle.bl_ctree_enabled.proofs.ListLemmas.{list_get, list_past, map_get, mixed_more, mixed_same, set_other}
use Rattle.bl_ctree_enabled.proofs.TableLemmas.{near_hits, touches_noted}

-- ---- the points of one branch

pub flags_length : (hs : List (List Location)) (j : ℕ) (changed : List Location) (spots : List Spot) (flags : List Bool) →
    length (asked_flags hs j changed spots flags) ≡ length flags
flags_length hs j changed [] flags = refl
flags_length hs j changed (spot ∷ spots) [] = refl
flags_length hs j changed (spot ∷ spots) (flag ∷ flags) = ap suc (flags_length hs j changed spots flags)

flags_here : (hs : List (List Location)) (j : ℕ) (changed : List Location) (spots : List Spot) (flags : List Bool) (m : ℕ) (spot : Spot) (flag : Bool) →
    slice_get spots m ≡ Some spot → slice_get flags m ≡ Some flag
    → slice_get (asked_flags hs j changed spots flags) m ≡ Some (cond (touches changed spot.reads) (is_free_of hs j spot) flag)
flags_here hs j changed [] flags m spot flag is here = absurd cc
flags_here hs j changed (x ∷ spots) [] m spot flag is here = absurd cc
flags_here hs j changed (x ∷ spots) (f ∷ flags) zero spot flag is here =
    let first : x ≡ spot = cc in
    let same : f ≡ flag = cc in
    λ i. Some (cond (touches changed (first i).reads) (is_free_of hs j (first i)) (same i))
flags_here hs j changed (x ∷ spots) (f ∷ flags) (suc m) spot flag is here = flags_here hs j changed spots flags m spot flag is here

flags_past : (hs : List (List Location)) (j : ℕ) (changed : List Location) (spots : List Spot) (flags : List Bool) (m : ℕ) → length spots ≤ m →
    slice_get (asked_flags hs j changed spots flags) m ≡ slice_get flags m
flags_past hs j changed [] flags m past = refl
flags_past hs j changed (x ∷ spots) [] m past = refl
flags_past hs j changed (x ∷ spots) (f ∷ flags) zero past = absurd (omega (arith, past))
flags_past hs j changed (x ∷ spots) (f ∷ flags) (suc m) past = flags_past hs j changed spots flags m (omega (arith, past))

module _ (hs : List (List Location)) (j : ℕ) (changed : List Location) (spots : List Spot) (was : List Bool) where
  abbrev now : List Bool
  now = asked_flags hs j changed spots was

  at_flag : (m : ℕ) → m < length was → (flag : Bool) × (slice_get was m ≡ Some flag)
  at_flag m within = get was m within
    where
      get : (flags : List Bool) (m : ℕ) → m < length flags → (flag : Bool) × (slice_get flags m ≡ Some flag)
      get [] m within = absurd (omega (arith, within))
      get (f ∷ flags) zero within = (f, refl)
      get (f ∷ flags) (suc m) within = get flags m (omega (arith, within))

  -- a flag that is asked again
  pub flag_asked : (m : ℕ) (spot : Spot) (free new : List Bool) (b : Bool) → m < length was → slice_get spots m ≡ Some spot
      → touches changed spot.reads ≡ true → b ≡ is_free_of hs j spot → new ≡ slice_set free m b → free ≡ take m now ++ drop m was
      → new ≡ take (suc m) now ++ drop (suc m) was
  flag_asked m spot free new b within here meets is_b is_new before =
      let old = at_flag m within in
      is_new ∙ ap (λ free. slice_set free m b) before
      ∙ mixed_more now was m b (sym (flags_length hs j changed spots was))
      (flags_here hs j changed spots was m spot old.0 here old.1
      ∙ ap (λ meets. Some (cond meets (is_free_of hs j spot) old.0)) meets ∙ ap Some (sym is_b))

  -- a flag that is as it was
  pub flag_left : (m : ℕ) (spot : Spot) (free : List Bool) → m < length was → slice_get spots m ≡ Some spot → touches changed spot.reads ≡ false
      → free ≡ take m now ++ drop m was → free ≡ take (suc m) now ++ drop (suc m) was
  flag_left m spot free within here meets before =
      let old = at_flag m within in
      before
      ∙ mixed_same now was m old.0
      (flags_here hs j changed spots was m spot old.0 here old.1 ∙ ap (λ meets. Some (cond meets (is_free_of hs j spot) old.0)) meets) old.1

  -- a flag of no point
  pub flag_past : (m : ℕ) (free : List Bool) → m < length was → length spots ≤ m → free ≡ take m now ++ drop m was
      → free ≡ take (suc m) now ++ drop (suc m) was
  flag_past m free within past before =
      let old = at_flag m within in
      before ∙ mixed_same now was m old.0 (flags_past hs j changed spots was m past ∙ old.1) old.1

cond_both : {A : Type 0} (b c : Bool) (x y : A) → cond c x (cond b x y) ≡ cond (b || c) x y
cond_both true true x y = refl
cond_both true false x y = refl
cond_both false true x y = refl
cond_both false false x y = refl

-- nothing has changed
flags_rest : (hs : List (List Location)) (j : ℕ) (spots : List Spot) (flags : List Bool) → asked_flags hs j [] spots flags ≡ flags
flags_rest hs j [] flags = refl
flags_rest hs j (spot ∷ spots) [] = refl
flags_rest hs j (spot ∷ spots) (flag ∷ flags) =
    λ i. cond (touches_nothing spot.reads i) (is_free_of hs j spot) flag ∷ flags_rest hs j spots flags i

-- no point reads what has changed
flags_off : (hs : List (List Location)) (j : ℕ) (changed : List Location) (spots : List Spot) (flags : List Bool) →
    touches changed (reads_in spots) ≡ false → asked_flags hs j changed spots flags ≡ flags
flags_off hs j changed [] flags off = refl
flags_off hs j changed (spot ∷ spots) [] off = refl
flags_off hs j changed (spot ∷ spots) (flag ∷ flags) off =
    let both = both_false (touches changed spot.reads) (touches changed (reads_in spots))
    (sym (list_any-append (λ at. list_any (overlap at) changed) spot.reads (reads_in spots)) ∙ off) in
    λ i. cond (both.0 i) (is_free_of hs j spot) flag ∷ flags_off hs j changed spots flags both.1 i
  where
    both_false : (a b : Bool) → (a || b) ≡ false → (a ≡ false) × (b ≡ false)
    both_false true b is = absurd cc
    both_false false b is = (refl, is)

-- what is asked at once is asked one after another
flags_both : (hs : List (List Location)) (j : ℕ) (first second : List Location) (spots : List Spot) (flags : List Bool) →
    asked_flags hs j second spots (asked_flags hs j first spots flags) ≡ asked_flags hs j (first ++ second) spots flags
flags_both hs j first second [] flags = refl
flags_both hs j first second (spot ∷ spots) [] = refl
flags_both hs j first second (spot ∷ spots) (flag ∷ flags) =
    let new = is_free_of hs j spot in
    λ i. (cond_both (touches first spot.reads) (touches second spot.reads) new flag
    ∙ ap (λ b. cond b new flag) (sym (touches-append first second spot.reads))) i ∷ flags_both hs j first second spots flags i

-- to ask once more tells nothing new
flags_again : (hs : List (List Location)) (j : ℕ) (changed : List Location) (spots : List Spot) (flags : List Bool) →
    asked_flags hs j changed spots (asked_flags hs j changed spots flags) ≡ asked_flags hs j changed spots flags
flags_again hs j changed [] flags = refl
flags_again hs j changed (spot ∷ spots) [] = refl
flags_again hs j changed (spot ∷ spots) (flag ∷ flags) =
    let new = is_free_of hs j spot in
    λ i. (cond_both (touches changed spot.reads) (touches changed spot.reads) new flag
    ∙ ap (λ b. cond b new flag) (twice (touches changed spot.reads))) i ∷ flags_again hs j changed spots flags i
  where
    twice : (a : Bool) → (a || a) ≡ a
    twice true = refl
    twice false = refl

-- ---- all branches

pub from_rest : (hs : List (List Location)) (j : ℕ) (ms : List (List Spot)) (free : List (List Bool)) → asked_from hs j [] ms free ≡ free
from_rest hs j [] free = refl
from_rest hs j (m ∷ ms) [] = refl
from_rest hs j (m ∷ ms) (f ∷ free) = λ i. flags_rest hs j m f i ∷ from_rest hs (suc j) ms free i

pub from_both : (hs : List (List Location)) (j : ℕ) (first second : List Location) (ms : List (List Spot)) (free : List (List Bool)) →
    asked_from hs j second ms (asked_from hs j first ms free) ≡ asked_from hs j (first ++ second) ms free
from_both hs j first second [] free = refl
from_both hs j first second (m ∷ ms) [] = refl
from_both hs j first second (m ∷ ms) (f ∷ free) = λ i. flags_both hs j first second m f i ∷ from_both hs (suc j) first second ms free i

-- one more home is asked of
pub asked_more : (hs : List (List Location)) (ms : List (List Spot)) (changed : List Home) (k next : ℕ) (x : Home) (old new : List (List Bool)) →
    next ≡ suc k → slice_get changed k ≡ Some x → new ≡ asked_from hs 0 (location_of x ∷ []) ms old
    → asked_from hs 0 (map location_of (drop next changed)) ms new ≡ asked_from hs 0 (map location_of (drop k changed)) ms old
asked_more hs ms changed k next x old new is_next here is_new =
    ap (λ n. asked_from hs 0 (map location_of (drop n changed)) ms new) is_next
    ∙ ap (asked_from hs 0 (map location_of (drop (suc k) changed)) ms) is_new
    ∙ from_both hs 0 (location_of x ∷ []) (map location_of (drop (suc k) changed)) ms old
    ∙ ap (λ xs. asked_from hs 0 (map location_of xs) ms old) (sym (drop_at changed k x here))

pub asked_end : (hs : List (List Location)) (ms : List (List Spot)) (changed : List Home) (k : ℕ) (free : List (List Bool)) → length changed ≤ k →
    free ≡ asked_from hs 0 (map location_of (drop k changed)) ms free
asked_end hs ms changed k free past =
    sym (ap (λ xs. asked_from hs 0 (map location_of xs) ms free) (drop_past changed k past) ∙ from_rest hs 0 ms free)

none_asked : (hs : List (List Location)) (j : ℕ) (changed : List Location) (found : Option (List Bool)) →
    found ≡ option_map (asked_flags hs j changed []) found
none_asked hs j changed None = refl
none_asked hs j changed (Some flags) = refl

-- the flags of the branch with number k
from_get : (hs : List (List Location)) (j k n : ℕ) (changed : List Location) (ms : List (List Spot)) (free : List (List Bool)) → n ≡ j + k →
    slice_get (asked_from hs j changed ms free) k ≡ option_map (asked_flags hs n changed (list_at ms k)) (slice_get free k)
from_get hs j k n changed [] free is = none_asked hs n changed (slice_get free k)
from_get hs j k n changed (m ∷ ms) [] is = refl
from_get hs j zero n changed (m ∷ ms) (f ∷ free) is = let same : j ≡ n = omega (arith, is) in ap (λ j. Some (asked_flags hs j changed m f)) same
from_get hs j (suc k) n changed (m ∷ ms) (f ∷ free) is = from_get hs (suc j) k n changed ms free (omega (arith, is))

set_asked : {A : Type 0} (ask : A → A) (lists : List A) (k : ℕ) (x : A) → ((y : A) → slice_get lists k ≡ Some y → x ≡ ask y) →
    slice_get (slice_set lists k x) k ≡ option_map ask (slice_get lists k)
set_asked ask [] k x is = refl
set_asked ask (y ∷ lists) zero x is = ap Some (is y refl)
set_asked ask (y ∷ lists) (suc k) x is = set_asked ask lists k x is

pub all_same : {A : Type 0} (xs ys : List A) → ((k : ℕ) → slice_get xs k ≡ slice_get ys k) → xs ≡ ys
all_same [] [] same = refl
all_same [] (y ∷ ys) same = let e : None ≡ Some y = same 0 in absurd cc
all_same (x ∷ xs) [] same = let e : Some x ≡ None = same 0 in absurd cc
all_same (x ∷ xs) (y ∷ ys) same = λ i. same_some x y (same 0) i ∷ all_same xs ys (λ k. same (suc k)) i

-- the branch is one of those that are left
abbrev pub is_left : ℕ → List Key → Bool
is_left k keys = list_any (λ key. nat_eq key.2 k) keys

-- each branch has been asked again, or is as it was and still left
abbrev pub Reached : List (List Location) → Location → List (List Spot) → List (List Bool) → List (List Bool) → List Key → Type 0
Reached hs changed ms was free keys =
    (k : ℕ) → (slice_get free k ≡ slice_get (asked_from hs 0 (changed ∷ []) ms was) k)
    ⊎ ((slice_get free k ≡ slice_get was k) × (is_left k keys ≡ true))

reads_within : (changed : List Location) (ms : List (List Spot)) (k : ℕ) → touches changed (reads_in (list_at ms k)) ≡ true → k < length ms
reads_within changed [] k is = absurd cc
reads_within changed (m ∷ ms) zero is = omega arith
reads_within changed (m ∷ ms) (suc k) is = let rest = reads_within changed ms k is in omega (arith, rest)

list_same : {A : Type 0} (lists : List (List A)) (k : ℕ) (x : List A) → slice_get lists k ≡ Some x → list_at lists k ≡ x
list_same [] k x is = absurd cc
list_same (y ∷ lists) zero x is = cc
list_same (y ∷ lists) (suc k) x is = list_same lists k x is

module _ (hs : List (List Location)) (changed : Location) (ms : List (List Spot)) (was : List (List Bool)) where
  abbrev ask : ℕ → List Bool → List Bool
  ask k flags = asked_flags hs k (changed ∷ []) (list_at ms k) flags

  get_asked : (k : ℕ) → slice_get (asked_from hs 0 (changed ∷ []) ms was) k ≡ option_map (ask k) (slice_get was k)
  get_asked k = let start : k ≡ 0 + k = omega arith in from_get hs 0 k k (changed ∷ []) ms was start

  asked_twice : (k : ℕ) (found : Option (List Bool)) → option_map (ask k) (option_map (ask k) found) ≡ option_map (ask k) found
  asked_twice k None = refl
  asked_twice k (Some flags) = ap Some (flags_again hs k (changed ∷ []) (list_at ms k) flags)

  asked_off : (k : ℕ) (found : Option (List Bool)) → touches (changed ∷ []) (reads_in (list_at ms k)) ≡ false → found ≡ option_map (ask k) found
  asked_off k None off = refl
  asked_off k (Some flags) off = ap Some (sym (flags_off hs k (changed ∷ []) (list_at ms k) flags off))

  -- a branch that isn't noted reads nothing that overlaps the home
  off_unless_left : (readers : Table) → AllNoted readers (map reads_in ms) → (k : ℕ) → is_left k (near readers changed (length ms)) ≡ false →
      touches (changed ∷ []) (reads_in (list_at ms k)) ≡ false
  off_unless_left readers noted k is = by (touches (changed ∷ []) (reads_in (list_at ms k))) refl
    where
      by : (b : Bool) → touches (changed ∷ []) (reads_in (list_at ms k)) ≡ b → b ≡ false
      by false meets = refl
      by true meets =
          let within = reads_within (changed ∷ []) ms k meets in
          let here = noted k (reads_in (list_at ms k)) (map_get reads_in ms k ∙ ap (option_map reads_in) (list_get ms k within)) in
          let found = near_hits readers changed (length ms) k (λ key. nat_eq key.2 k) (touches_noted readers k changed (reads_in (list_at ms k)) here meets)
          within (eq-eqb k k refl) in
          sym found ∙ is

  pub reached_start : (readers : Table) → AllNoted readers (map reads_in ms) → Reached hs changed ms was was (near readers changed (length ms))
  reached_start readers noted k = by (is_left k (near readers changed (length ms))) refl
    where
      by : (b : Bool) → is_left k (near readers changed (length ms)) ≡ b
          → (slice_get was k ≡ slice_get (asked_from hs 0 (changed ∷ []) ms was) k)
          ⊎ ((slice_get was k ≡ slice_get was k) × (is_left k (near readers changed (length ms)) ≡ true))
      by true is = inr (refl, is)
      by false is = inl (asked_off k (slice_get was k) (off_unless_left readers noted k is) ∙ sym (get_asked k))

  -- one more branch is asked again
  pub reached_more : (free new : List (List Bool)) (key : Key) (keys : List Key) → new ≡ slice_set free key.2 (ask key.2 (list_at free key.2))
      → Reached hs changed ms was free (key ∷ keys) → Reached hs changed ms was new keys
  reached_more free new key keys is before k = by (nat_eq key.2 k) refl (before k)
    where
      by : (b : Bool) → nat_eq key.2 k ≡ b
          → (slice_get free k ≡ slice_get (asked_from hs 0 (changed ∷ []) ms was) k)
          ⊎ ((slice_get free k ≡ slice_get was k) × (is_left k (key ∷ keys) ≡ true))
          → (slice_get new k ≡ slice_get (asked_from hs 0 (changed ∷ []) ms was) k)
          ⊎ ((slice_get new k ≡ slice_get was k) × (is_left k keys ≡ true))
      by true same found =
          let now : slice_get new k ≡ option_map (ask k) (slice_get free k) =
          ap (λ free. slice_get free k) (is ∙ ap (λ n. slice_set free n (ask n (list_at free n))) (same_number key.2 k same))
          ∙ set_asked (ask k) free k (ask k (list_at free k)) (λ y here. ap (ask k) (list_same free k y here)) in
          inl (now ∙ ⊎_elim (λ e. ap (option_map (ask k)) (e ∙ get_asked k) ∙ asked_twice k (slice_get was k) ∙ sym (get_asked k))
          (λ e. ap (option_map (ask k)) e.0 ∙ sym (get_asked k)) found)
      by false other found =
          let as_before : slice_get new k ≡ slice_get free k =
          ap (λ free. slice_get free k) is
          ∙ set_other free key.2 k (ask key.2 (list_at free key.2))
          (λ same. let e : true ≡ false = sym (eq-eqb key.2 k (sym same)) ∙ other in absurd cc) in
          ⊎_elim (λ e. inl (as_before ∙ e)) (λ e. inr (as_before ∙ e.0, sym (ap (λ b. b || is_left k keys) other) ∙ e.1)) found

  pub reached_end : (free : List (List Bool)) → Reached hs changed ms was free [] → free ≡ asked_from hs 0 (changed ∷ []) ms was
  reached_end free reached =
      all_same free (asked_from hs 0 (changed ∷ []) ms was) (λ k. ⊎_elim (λ e. e) (λ e. let none : false ≡ true = e.1 in absurd cc) (reached k))

-- ---- where there is no such branch

set_itself : {A : Type 0} (lists : List (List A)) (k : ℕ) → slice_set lists k (list_at lists k) ≡ lists
set_itself [] k = refl
set_itself (x ∷ lists) zero = refl
set_itself (x ∷ lists) (suc k) = ap (λ rest. x ∷ rest) (set_itself lists k)

set_past : {A : Type 0} (xs : List A) (k : ℕ) (x : A) → length xs ≤ k → slice_set xs k x ≡ xs
set_past [] k x past = refl
set_past (y ∷ xs) zero x past = absurd (omega (arith, past))
set_past (y ∷ xs) (suc k) x past = ap (λ rest. y ∷ rest) (set_past xs k x (omega (arith, past)))

pub no_points : (hs : List (List Location)) (j : ℕ) (changed : List Location) (ms : List (List Spot)) (free : List (List Bool)) → length ms ≤ j →
    free ≡ slice_set free j (asked_flags hs j changed (list_at ms j) (list_at free j))
no_points hs j changed ms free past =
    sym (ap (λ spots. slice_set free j (asked_flags hs j changed spots (list_at free j))) (list_past ms j past) ∙ set_itself free j)

pub no_flags : (hs : List (List Location)) (j : ℕ) (changed : List Location) (ms : List (List Spot)) (free : List (List Bool)) → length free ≤ j →
    free ≡ slice_set free j (asked_flags hs j changed (list_at ms j) (list_at free j))
no_flags hs j changed ms free past = sym (set_past free j (asked_flags hs j changed (list_at ms j) (list_at free j)) past)

-- ---- what is asked tells all

module _ (hs : List (List Location)) (k : ℕ) (before now gone come : List Location) (here : slice_get hs k ≡ Some now)
    (decided : DecidedBy gone come before now) where
  abbrev old : List (List Location)
  old = slice_set hs k before

  flag_settled : (j : ℕ) (spot : Spot) →
      cond (touches come spot.reads) (is_free_of hs j spot) (cond (touches gone spot.reads) (is_free_of hs j spot) (is_free_of old j spot))
      ≡ is_free_of hs j spot
  flag_settled j spot = by (touches gone spot.reads) (touches come spot.reads) refl refl
    where
      by : (g c : Bool) → touches gone spot.reads ≡ g → touches come spot.reads ≡ c →
          cond c (is_free_of hs j spot) (cond g (is_free_of hs j spot) (is_free_of old j spot)) ≡ is_free_of hs j spot
      by g true is_g is_c = refl
      by true false is_g is_c = refl
      by false false is_g is_c =
          flag_same hs k j before spot
          (λ h is. decided spot.reads (is_g ∙ sym is_c) ∙ ap (λ h. touches h spot.reads) (same_some now h (sym here ∙ is)))

  flags_settled : (j : ℕ) (spots : List Spot) → asked_flags hs j come spots (asked_flags hs j gone spots (flags_of old j spots)) ≡ flags_of hs j spots
  flags_settled j [] = refl
  flags_settled j (spot ∷ spots) = λ i. flag_settled j spot i ∷ flags_settled j spots i

  pub all_settled : (j : ℕ) (ms : List (List Spot)) → asked_from hs j come ms (asked_from hs j gone ms (flags_from old j ms)) ≡ flags_from hs j ms
  all_settled j [] = refl
  all_settled j (m ∷ ms) = λ i. flags_settled j m i ∷ all_settled (suc j) ms i
