-- Numbers as costs tell them: sums, products, lists and tables.
use Rattle.std.proofs.Common.{◌≡◌, ℕ, ◌+◌, ◌*◌, ◌^◌, ◌<◌, ◌≤◌, Bool, true, false, max, List, [], ◌∷◌, ◌++◌, map, length, get_or, drop, Option, Some, None}
use Rattle.std.proofs.Common.{refl, ap, sym, subst, ◌∙◌, arith}
use Rattle.std.specs.Prelude.{bytes_eq, option_map, unwrap_or, if◌then◌else◌}
use Rattle.std.specs.Option.{option_or}
use Rattle.std.proofs.lemmas.List.{drop_all}
use Rattle.bl_tree.proofs.Basics.{drop_next, same_some}
use Rattle.bl_tree.specs.declared.text.Text.{Text}
use Rattle.bl_tree.specs.Reduce.{joined, total}
use Rattle.bl_ctext_semantics.specs.Cost.{Costs, cost_of_calls}
use Rattle.bl_ctext_semantics.specs.Course.{turn_limit}
use Rattle.bl_ctext_semantics.specs.Tables.{entry_or, with_entry}
use Rattle.bl_bound.specs.declared.cost.Cost.{Cost}
use Rattle.bl_bound.specs.declared.cost.Cost.TheVariants.{Number, Over}
use Rattle.bl_bound.specs.inner.Capped.{amount, capped}
use Rattle.bl_ctext_semantics.proofs.BoundLemmas.{cost-append}

-- ---- numbers

pub amount-capped : (cost : Cost) → capped (amount cost) ≡ amount cost
amount-capped (Number n) = omega arith
amount-capped Over = omega arith

pub capped-twice : (n : ℕ) → capped (capped n) ≡ capped n
capped-twice n = omega arith

-- what statements cost, by what their parts tell
pub tell-one : (x a r cost : ℕ) → a ≡ capped x → r ≡ capped (1 + a) → cost ≡ 1 + x → r ≡ capped cost
tell-one x a r cost ha hr is = omega arith

pub tell-both : (x y a b p r cost : ℕ) → a ≡ capped x → b ≡ capped y → p ≡ capped (a + b) → r ≡ capped (1 + p) → cost ≡ 1 + (x + y) →
    r ≡ capped cost
tell-both x y a b p r cost ha hb hp hr is = omega arith

pub tell-if : (x y a b p r cost : ℕ) → a ≡ capped x → b ≡ capped y → p ≡ capped (a + b) → r ≡ capped (1 + p) →
    cost ≡ 1 + (x + max y 0) → r ≡ capped cost
tell-if x y a b p r cost ha hb hp hr is = omega arith

pub tell-else : (x y z a b o m p r cost : ℕ) → a ≡ capped x → b ≡ capped y → o ≡ capped z → m ≡ max b o → p ≡ capped (a + m) →
    r ≡ capped (1 + p) → cost ≡ 1 + (x + max y z) → r ≡ capped cost
tell-else x y z a b o m p r cost ha hb ho hm hp hr is =
    let inside : m ≡ capped (max y z) = omega arith in
    tell-both x (max y z) a m p r cost ha inside hp hr is

pub tell-loop : (x y a b p q w r cost : ℕ) → a ≡ capped x → b ≡ capped y → p ≡ capped (a + b) → q ≡ capped (1 + p) →
    w ≡ capped (65537 * q) → r ≡ capped (1 + w) → cost ≡ 1 + (turn_limit + 1) * (1 + (x + y)) → r ≡ capped cost
unfolding turn_limit
tell-loop x y a b p q w r cost ha hb hp hq hw hr is =
    let turn : q ≡ capped (1 + (x + y)) = omega (arith, ha, hb, hp, hq) in
    let turns : w ≡ capped (65537 * (1 + (x + y))) = omega (arith, turn, hw) in
    omega (arith, turns, hr, is)

pub sum-alike : (a b c d : ℕ) → capped a ≡ capped b → capped c ≡ capped d → capped (a + c) ≡ capped (b + d)
sum-alike a b c d e f = omega arith

pub max-alike : (a b c d : ℕ) → capped a ≡ capped b → capped c ≡ capped d → capped (max a c) ≡ capped (max b d)
max-alike a b c d e f = omega arith

-- ---- lists

pub total-alike : {X : Type 0} (f g : X → ℕ) → ((x : X) → capped (f x) ≡ capped (g x)) → (xs : List X) →
    capped (total (map f xs)) ≡ capped (total (map g xs))
total-alike f g h [] = refl
total-alike f g h (x ∷ xs) = sum-alike (f x) (g x) (total (map f xs)) (total (map g xs)) (h x) (total-alike f g h xs)

-- two lists of calls, told one by one
pub cap-calls : (known : Costs) (xs ys : List Text) →
    capped (capped (cost_of_calls known xs) + capped (cost_of_calls known ys)) ≡ capped (cost_of_calls known (xs ++ ys))
cap-calls known xs ys = omega (arith, cost-append known xs ys)

-- one more number of a sum
pub sum-next : (so_far here more n rest all : ℕ) → here ≡ capped n → more ≡ capped (so_far + here) → capped (so_far + (n + rest)) ≡ all →
    capped (more + rest) ≡ all
sum-next so_far here more n rest all e told h = omega arith

-- one more list of calls
pub calls-next : {X : Type 0} (known : Costs) (names : X → List Text) (xs : List X) (k : ℕ) (x : X) (so_far here more all : ℕ) → k < length xs →
    x ≡ get_or xs k x → here ≡ capped (cost_of_calls known (names x)) → more ≡ capped (so_far + here) →
    capped (so_far + cost_of_calls known (joined (map names (drop k xs)))) ≡ all →
    capped (more + cost_of_calls known (joined (map names (drop (k + 1) xs)))) ≡ all
calls-next known names xs k x so_far here more all within is e told h =
    let rest = joined (map names (drop (k + 1) xs)) in
    let whole : capped (so_far + cost_of_calls known (names x ++ rest)) ≡ all =
    subst (λ l. capped (so_far + cost_of_calls known (joined (map names l))) ≡ all) (drop_next xs k x within is) h in
    sum-next so_far here more (cost_of_calls known (names x)) (cost_of_calls known rest) all e told
    (ap (λ n. capped (so_far + n)) (sym (cost-append known (names x) rest)) ∙ whole)

-- all of them
pub calls-done : {X : Type 0} (known : Costs) (names : X → List Text) (xs : List X) (k : ℕ) (cost : Cost) (all : ℕ) → length xs ≤ k →
    capped (amount cost + cost_of_calls known (joined (map names (drop k xs)))) ≡ all → amount cost ≡ all
calls-done known names xs k cost all past h =
    let last : capped (amount cost + 0) ≡ all =
    subst (λ l. capped (amount cost + cost_of_calls known (joined (map names l))) ≡ all) (drop_all k xs past) h in
    omega (arith, amount-capped cost)

-- ---- tables

-- two tables have the same under each name, as far as costs tell
abbrev pub AlikeCapped : Costs → Costs → Type 0
AlikeCapped s t = (asked : Text) → option_map capped (s asked) ≡ option_map capped (t asked)

alike-or : (a b : Option ℕ) → option_map capped a ≡ option_map capped b → capped (unwrap_or a 0) ≡ capped (unwrap_or b 0)
alike-or None None h = refl
alike-or None (Some b) h = cc
alike-or (Some a) None h = cc
alike-or (Some a) (Some b) h = same_some (capped a) (capped b) h

pub calls-alike : (s t : Costs) → AlikeCapped s t → (names : List Text) → capped (cost_of_calls s names) ≡ capped (cost_of_calls t names)
calls-alike s t h names = total-alike (entry_or 0 s) (entry_or 0 t) (λ name. alike-or (s name) (t name) (h name)) names

alike-with : (a b : Option ℕ) (same : Bool) (v w : ℕ) → option_map capped a ≡ option_map capped b → capped v ≡ capped w →
    option_map capped (option_or a (if same then Some v else None)) ≡ option_map capped (option_or b (if same then Some w else None))
alike-with None None true v w h e = ap Some e
alike-with None None false v w h e = refl
alike-with None (Some b) same v w h e = cc
alike-with (Some a) None same v w h e = cc
alike-with (Some a) (Some b) same v w h e = h

pub with-alike : (s t : Costs) (name : Text) (v w : ℕ) → AlikeCapped s t → capped v ≡ capped w →
    AlikeCapped (with_entry s name v) (with_entry t name w)
with-alike s t name v w h e asked = alike-with (s asked) (t asked) (bytes_eq name asked) v w (h asked) e
