-- Going into a value part by part, and changing one there.
use Rattle.std.proofs.Common.{◌≡◌, ℕ, suc, zero, ◌+◌, ◌-◌, ◌<◌, ◌≤◌, List, [], ◌∷◌, ◌++◌, length, get_or, take, drop, arith, refl, sym, ap, ◌∙◌, Option, Some}
use Rattle.std.proofs.Common.{None, Bool, true, false, not, add-one, drop-cons, set-set}
use Rattle.std.proofs.lemmas.List.{take_all}
use Rattle.std.specs.Prelude.{is_some, option_and_then, option_map, slice_get, slice_set, unwrap_or}
use Rattle.bl_tree.specs.declared.value.Value.{Value}
use Rattle.bl_tree.specs.declared.value.Value.TheVariants.{Parts, outs-Parts}
use Rattle.bl_eval.specs.Changes.{all_changed, changed, replaced, with_element_at}
use Rattle.bl_eval.specs.declared.datum.Put.{Put}
use Rattle.bl_eval.specs.Meaning.{read_at}
use Rattle.bl_eval.specs.Values.{part_of, parts_in, put_at, value_at, with_value_at}

pub value_step : (ps : List ℕ) (i : ℕ) (v w : Value) → i < length ps → part_of (get_or ps i 0) v ≡ Some w →
    value_at (drop i ps) v ≡ value_at (drop (i + 1) ps) w
value_step ps i v w within is = rw (add-one, drop-cons ps i 0 within, is)

pub value_stop : (ps : List ℕ) (i : ℕ) (v : Value) → i < length ps → part_of (get_or ps i 0) v ≡ None → value_at (drop i ps) v ≡ None
value_stop ps i v within is = rw (drop-cons ps i 0 within, is)

pub part_of_parts : (v : Value) (all : List Value) (k : ℕ) → v ≡ Parts all → part_of k v ≡ slice_get all k
part_of_parts v all k is = rw (is, outs-Parts all)

-- a list with its own element put in place is as before
pub set_own : (all : List Value) (k : ℕ) (v : Value) → slice_get all k ≡ Some v → slice_set all k v ≡ all
set_own [] k v is = refl
set_own (w ∷ all) zero v is = let e : w ≡ v = cc in rw (← e)
set_own (w ∷ all) (suc k) v is = ap (λ rest. w ∷ rest) (set_own all k v is)

replaced_in : (all : List Value) (k : ℕ) (old : Value) (made : Option Value) → slice_get all k ≡ Some old
    → unwrap_or (option_map (λ part. Parts (slice_set all k part)) made) (Parts all) ≡ Parts (slice_set all k (unwrap_or made old))
replaced_in all k old None is = ap Parts (sym (set_own all k old is))
replaced_in all k old (Some part) is = refl

replaced_at : (all : List Value) (k : ℕ) (rest : List ℕ) (new : Value) (found : Option Value) → slice_get all k ≡ found
    → unwrap_or (option_and_then (λ old. option_map (λ part. Parts (slice_set all k part)) (with_value_at rest new old)) found) (Parts all)
    ≡ Parts (unwrap_or (option_map (λ old. slice_set all k (replaced rest new old)) found) all)
replaced_at all k rest new None is = refl
replaced_at all k rest new (Some old) is = replaced_in all k old (with_value_at rest new old) is

pub replaced_parts : (k : ℕ) (rest : List ℕ) (new : Value) (all : List Value) →
    replaced (k ∷ rest) new (Parts all) ≡ Parts (with_element_at k rest new all)
replaced_parts k rest new all = rw (outs-Parts all) (replaced_at all k rest new (slice_get all k) refl)

-- where something lies at the positions, something can be put there, and nowhere else
abbrev Matches : Option Value → Option Value → Type 0
Matches None made = made ≡ None
Matches (Some found) made = (new : Value) × (made ≡ Some new)

matches_map : (f : Value → Value) (found made : Option Value) → Matches found made → Matches found (option_map f made)
matches_map f None made m = ap (option_map f) m
matches_map f (Some found) made m = (f m.0, ap (option_map f) m.1)

matches_element : (k : ℕ) (ps : List ℕ) (new : Value) (all : List Value)
    (inner : (v : Value) → Matches (value_at ps v) (with_value_at ps new v)) (found : Option Value)
    → Matches (option_and_then (value_at ps) found) (option_and_then
    (λ old. option_map (λ part. Parts (slice_set all k part)) (with_value_at ps new old)) found)
matches_element k ps new all inner None = refl
matches_element k ps new all inner (Some old) = matches_map (λ part. Parts (slice_set all k part)) (value_at ps old) (with_value_at ps new old) (inner old)

matches_parts : (k : ℕ) (ps : List ℕ) (new : Value) (inner : (v : Value) → Matches (value_at ps v) (with_value_at ps new v)) (all : Option (List Value))
    → Matches (option_and_then (value_at ps) (option_and_then (λ all. slice_get all k) all))
    (option_and_then (λ all. option_and_then (λ old. option_map (λ part. Parts (slice_set all k part)) (with_value_at ps new old)) (slice_get all k)) all)
matches_parts k ps new inner None = refl
matches_parts k ps new inner (Some all) = matches_element k ps new all inner (slice_get all k)

pub matches : (ps : List ℕ) (new v : Value) → Matches (value_at ps v) (with_value_at ps new v)
matches [] new v = (new, refl)
matches (k ∷ ps) new v = matches_parts k ps new (matches ps new) (parts_in v)

-- a change of a variable: none where nothing lies there, and else what `put` makes
put_found : (root : ℕ) (ps : List ℕ) (new : Value) (now : List Value) (old : Value) (found : Option Value) (made : Option Value)
    → Matches found made → slice_get now root ≡ Some old →
    option_map (λ value. slice_set now root value) made ≡ option_map (λ found. slice_set now root (unwrap_or made old)) found
put_found root ps new now old None made m is = ap (option_map (λ value. slice_set now root value)) m
put_found root ps new now old (Some found) made m is = rw m.1

put_at_root : (root : ℕ) (ps : List ℕ) (new : Value) (now : List Value) (at : Option Value) → slice_get now root ≡ at
    → option_and_then (λ old. option_map (λ value. slice_set now root value) (with_value_at ps new old)) at
    ≡ option_map (λ found. unwrap_or (option_map (λ old. slice_set now root (replaced ps new old)) at) now) (option_and_then (value_at ps) at)
put_at_root root ps new now None is = refl
put_at_root root ps new now (Some old) is = put_found root ps new now old (value_at ps old) (with_value_at ps new old) (matches ps new old) is

pub put_at_is : (root : ℕ) (ps : List ℕ) (new : Value) (now : List Value) →
    put_at root ps new now ≡ option_map (λ found. with_element_at root ps new now) (read_at root now ps)
put_at_is root ps new now = put_at_root root ps new now (slice_get now root) refl

pub put_made : (all : List Value) (k : ℕ) (rest : List ℕ) (new old mid made : Value) → slice_get all k ≡ Some old → made ≡ replaced rest new old
    → slice_set (slice_set all k mid) k made ≡ with_element_at k rest new all
put_made all k rest new old mid made is is_made = rw (is, set-set, is_made)

-- the positions behind the first, as a pattern of a slice gives them
rest_of : (ps : List ℕ) → take (length ps - 1) (drop 1 ps) ≡ drop 1 ps
rest_of [] = refl
rest_of (k ∷ rest) = let enough : length rest ≤ length (k ∷ rest) - 1 = omega arith in take_all (length (k ∷ rest) - 1) rest enough

replaced_first : (ps : List ℕ) (new v : Value) (all : List Value) → 1 ≤ length ps → v ≡ Parts all
    → replaced ps new v ≡ Parts (with_element_at (get_or ps 0 0) (drop 1 ps) new all)
replaced_first [] new v all some is = absurd (omega arith)
replaced_first (k ∷ rest) new v all some is = ap (replaced (k ∷ rest) new) is ∙ replaced_parts k rest new all

pub replaced_made : (ps : List ℕ) (new v : Value) (all before after made : List Value) → 1 ≤ length ps → v ≡ Parts all → before ≡ all
    → after ≡ with_element_at (get_or ps 0 0) (take (length ps - 1) (drop 1 ps)) new before → made ≡ after → Parts made ≡ replaced ps new v
replaced_made ps new v all before after made some is is_before is_after is_made =
    ap Parts (is_made ∙ is_after ∙ ap (λ rest. with_element_at (get_or ps 0 0) rest new before) (rest_of ps)
    ∙ ap (with_element_at (get_or ps 0 0) (drop 1 ps) new) is_before) ∙ sym (replaced_first ps new v all some is)

pub single_none : {A : Type 0} (f : A → Value) (o : Option A) (root : ℕ) (ps qs : List ℕ) (new : Value) (now : List Value) (none : Bool)
    → option_map f o ≡ read_at root now qs → qs ≡ ps → is_some o ≡ not none → none ≡ true → None ≡ put_at root ps new now
single_none f None root ps qs new now none reads same is was =
    sym (put_at_is root ps new now ∙ ap (option_map (λ found. with_element_at root ps new now)) (sym (reads ∙ ap (read_at root now) same)))
single_none f (Some a) root ps qs new now none reads same is was = absurd (cc)

pub single_some : {A : Type 0} (f : A → Value) (o : Option A) (root : ℕ) (ps qs : List ℕ) (new : Value) (now : List Value) (none : Bool)
    (before made : List Put)
    → option_map f o ≡ read_at root now qs → qs ≡ ps → is_some o ≡ not none → none ≡ false → before ≡ []
    → made ≡ before ++ record { root = root; positions = ps; value = new } ∷ [] → Some (all_changed made now) ≡ put_at root ps new now
single_some f None root ps qs new now none before made reads same is was is_before is_made = absurd (cc)
single_some f (Some a) root ps qs new now none before made reads same is was is_before is_made =
    let puts : List Put = record { root = root; positions = ps; value = new } ∷ [] in
    ap (λ puts. Some (all_changed puts now)) (is_made ∙ ap (λ before. before ++ puts) is_before)
    ∙ sym (put_at_is root ps new now ∙ ap (option_map (λ found. with_element_at root ps new now)) (sym (reads ∙ ap (read_at root now) same)))

pub all_changed-append : (xs ys : List Put) (now : List Value) → all_changed (xs ++ ys) now ≡ all_changed ys (all_changed xs now)
all_changed-append [] ys now = refl
all_changed-append (put ∷ xs) ys now = all_changed-append xs ys (changed now put)

pub change_made : (before after now : List Value) (puts : List Put) (put : Put) (ps : List ℕ) → before ≡ all_changed puts now → ps ≡ put.positions
    → after ≡ with_element_at put.root ps put.value before → after ≡ all_changed (puts ++ put ∷ []) now
change_made before after now puts put ps is_before same is_after =
    is_after ∙ ap (λ ps. with_element_at put.root ps put.value before) same ∙ ap (with_element_at put.root put.positions put.value) is_before
    ∙ sym (all_changed-append puts (put ∷ []) now)

-- a change that leads outside is none
outside : (ps : List ℕ) (new old : Value) (found made : Option Value) → Matches found made → found ≡ None → unwrap_or made old ≡ old
outside ps new old None made m none = ap (λ made. unwrap_or made old) m
outside ps new old (Some found) made m none = absurd (cc)

element_outside : (root : ℕ) (ps : List ℕ) (new : Value) (now : List Value) (at : Option Value) → slice_get now root ≡ at →
    option_and_then (value_at ps) at ≡ None
    → unwrap_or (option_map (λ old. slice_set now root (replaced ps new old)) at) now ≡ now
element_outside root ps new now None is none = refl
element_outside root ps new now (Some old) is none =
    ap (slice_set now root) (outside ps new old (value_at ps old) (with_value_at ps new old) (matches ps new old) none) ∙ set_own now root old is

unwrapped : (root : ℕ) (ps : List ℕ) (new : Value) (now : List Value) (read : Option Value) → read_at root now ps ≡ read
    → unwrap_or (option_map (λ found. with_element_at root ps new now) read) now ≡ with_element_at root ps new now
unwrapped root ps new now None is = sym (element_outside root ps new now (slice_get now root) refl is)
unwrapped root ps new now (Some found) is = refl

pub put_unwrapped : (root : ℕ) (ps : List ℕ) (new : Value) (now : List Value) → unwrap_or (put_at root ps new now) now ≡ with_element_at root ps new now
put_unwrapped root ps new now = ap (λ made. unwrap_or made now) (put_at_is root ps new now) ∙ unwrapped root ps new now (read_at root now ps) refl
