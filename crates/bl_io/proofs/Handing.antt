-- Files over memory after a call handed over the front of one of them.
use Rattle.std.proofs.Common.{◌≡◌, ◌≢◌, ℕ, ◌<◌, ◌≤◌, false, cond, List, [], ◌++◌, length, take, drop, Option, Some, None, option_map, unwrap_or, ap, ◌∙◌, arith}
use Rattle.std.proofs.lemmas.Bool.{false_from_ne_true}
use Rattle.std.proofs.lemmas.List.{nil_from_length, take-append-le, take-take, length-take-le}
use Rattle.std.proofs.lemmas.Map.Text.{is_eq-slice_cmp}
use Rattle.std.proofs.lemmas.Slice.Eq.{bytes_eq-Decides}
use Rattle.std.specs.Cmp.{eq_by_cmp_equiv}
use Rattle.std.specs.Cmp.Lexicographic.{slice_cmp, nat_list_cmp_total}
use Rattle.std.specs.FinMap as map
use Rattle.std.specs.Ordering.{nat_cmp, eq_by_cmp}
use Rattle.bl_io.specs.Left.{IsNext, HandsOver, IsKept, KeepsOthers}
use Rattle.bl_io.specs.Store.{LeftByName, handed, left_at}

-- two different names are told apart
apart : (q name : List ℕ) → q ≢ name → eq_by_cmp (slice_cmp nat_cmp) q name ≡ false
apart q name differ = is_eq-slice_cmp q name ∙ false_from_ne_true _ (λ e. differ ((bytes_eq-Decides q name).0 e))

pub get-insert-same : (files : LeftByName) (name bytes : List ℕ) → map.get (map.insert files name bytes) name ≡ Some bytes
get-insert-same files name bytes =
    map.get-insert nat_list_cmp_total files name bytes name
    ∙ ap (λ b. cond b (Some bytes) (map.get files name)) ((eq_by_cmp_equiv nat_list_cmp_total).refl name)

pub get-insert-other : (files : LeftByName) (name bytes q : List ℕ) → q ≢ name → map.get (map.insert files name bytes) q ≡ map.get files q
get-insert-other files name bytes q differ =
    map.get-insert nat_list_cmp_total files name bytes q
    ∙ ap (λ b. cond b (Some bytes) (map.get files q)) (apart q name differ)

IsKept-same : (a b : Option (List ℕ)) → b ≡ a → IsKept a b
IsKept-same None b e = tt
IsKept-same (Some bytes) b e = e

pub KeepsOthers-insert : (files new : LeftByName) (name bytes : List ℕ) → new ≡ map.insert files name bytes →
    KeepsOthers name (map.get files) (map.get new)
KeepsOthers-insert files new name bytes e = λ q differ. IsKept-same _ _ (rw e (get-insert-other files name bytes q differ))

front_back : (n : ℕ) (bytes rest : List ℕ) → n ≤ length bytes → take n (take n bytes ++ rest) ≡ take n bytes
front_back n bytes rest fits =
    take-append-le n (take n bytes) rest (omega (arith, length-take-le n bytes fits)) ∙ take-take n n bytes (omega arith)

-- a call moved the next n bytes of a name to the front of the room
pub IsNext-moved : (left after : Option (List ℕ)) (room new : List ℕ) (n most : ℕ) → 0 < length room → 0 < most →
    Some n ≡ option_map (handed (length room) most) left → new ≡ take n (unwrap_or left []) ++ drop n room →
    after ≡ Some (drop n (unwrap_or left [])) → IsNext (unwrap_or left []) n new after
IsNext-moved None after room new n most some wide count moved rest = absurd (cc)
IsNext-moved (Some bytes) after room new n most some wide count moved rest =
    let is : n ≡ handed (length room) most bytes = ap (λ o. unwrap_or o 0) count in
    let fits : n ≤ length bytes = omega arith in
    record {
      within = fits;
      front = rw moved (front_back n bytes (drop n room) fits);
      rest = rest;
      at_end = λ none. nil_from_length bytes (omega arith);
    }

IsNext-told : (left after : Option (List ℕ)) (new : List ℕ) (n : ℕ) → IsNext (unwrap_or left []) n new after → HandsOver left n new after
IsNext-told None after new n next = tt
IsNext-told (Some bytes) after new n next = next

pub HandsOver-moved : (files later : LeftByName) (name room new : List ℕ) (n most : ℕ) → 0 < length room → 0 < most →
    Some n ≡ option_map (handed (length room) most) (map.get files name) → new ≡ take n (left_at files name) ++ drop n room →
    later ≡ map.insert files name (drop n (left_at files name)) → HandsOver (map.get files name) n new (map.get later name)
HandsOver-moved files later name room new n most some wide count moved rest =
    IsNext-told _ _ _ _ (IsNext-moved _ _ room _ _ most some wide count moved (rw rest (get-insert-same files name _)))
