-- Counters that places name, and those that are kept.
use Rattle.std.proofs.Common.{◌≡◌, ℕ, ◌+◌, ◌<◌, ◌≤◌, Bool, true, false, not, ◌&&◌, ◌||◌, List, [], ◌∷◌, map, length, get_or, drop}
use Rattle.std.proofs.Common.{◌⊎◌, inl, inr, refl, ap, sym, subst, ◌∙◌, arith}
use Rattle.std.proofs.lemmas.List.{drop_all}
use Rattle.std.proofs.lemmas.List.Folds.{Any-from_list_any}
use Rattle.std.proofs.lemmas.Slice.Eq.{bytes_eq-Decides}
use Rattle.std.specs.Prelude.{Contains, bytes_eq, codes}
use Rattle.std.specs.List.{Any, list_any}
use Rattle.bl_tree.proofs.Basics.{and_first, and_second, any_from, contains_none, drop_next, first_or_further, or_assoc, or_false}
use Rattle.bl_tree.specs.declared.c.CArg.{CArg}
use Rattle.bl_tree.specs.declared.c.CArg.TheOpen.{CPlace-F, CStep-F}
use Rattle.bl_tree.specs.declared.c.CCall.{CCall}
use Rattle.bl_tree.specs.declared.c.CExpr.{CExpr}
use Rattle.bl_tree.specs.declared.c.CExprKind.{CExprKind}
use Rattle.bl_tree.specs.declared.c.CFunc.{CFunc}
use Rattle.bl_tree.specs.declared.c.CIndex.{CIndex}
use Rattle.bl_tree.specs.declared.c.CPlace.{CPlace, fold-roll-CPlace, out-CPlace, out-roll-CPlace, roll-CPlace, roll-out-CPlace}
use Rattle.bl_tree.specs.declared.c.CStep.{CStep, fold-roll-CStep, out-CStep, out-roll-CStep, roll-CStep, roll-out-CStep}
use Rattle.bl_ctext_places.specs.Counters.{is_counter_name, names_counter}
use Rattle.bl_ctext_places.specs.Lists.{path_of}
use Rattle.bl_ctext_places.specs.Places.{CPath, CPaths, StepParts, parts_of_step, places_named}
use Rattle.bl_simplify.specs.Counters.{AreOwn, CountersKept, IsOwn}
use Rattle.bl_simplify.specs.Simplified.{CounterFrom}
use Rattle.bl_simplify.specs.Simplified.CounterFrom.{owned}

-- ---- lists

-- one more element of a list
pub any_next : {X : Type 0} (f : X → Bool) (xs : List X) (k : ℕ) (x : X) (so_far here all : Bool) → k < length xs → x ≡ get_or xs k x →
    here ≡ f x → (so_far || list_any f (drop k xs)) ≡ all → ((so_far || here) || list_any f (drop (k + 1) xs)) ≡ all
any_next f xs k x so_far here all within is told h =
    let rest = list_any f (drop (k + 1) xs) in
    ap (λ b. (so_far || b) || rest) told
    ∙ (or_assoc so_far (f x) rest ∙ (ap (λ l. so_far || list_any f l) (sym (drop_next xs k x within is)) ∙ h))

-- the whole list
pub any_done : {X : Type 0} (f : X → Bool) (xs : List X) (k : ℕ) (so_far all : Bool) → length xs ≤ k → (so_far || list_any f (drop k xs)) ≡ all → so_far ≡ all
any_done f xs k so_far all over h = sym (or_false so_far) ∙ (ap (λ l. so_far || list_any f l) (sym (drop_all k xs over)) ∙ h)

any_mapped : {X Y : Type 0} (f : X → Y) (g : Y → Bool) (xs : List X) → list_any g (map f xs) ≡ list_any (λ x. g (f x)) xs
any_mapped f g [] = refl
any_mapped f g (x ∷ xs) = ap (λ b. g (f x) || b) (any_mapped f g xs)

-- the whole of a list that is made of another one
pub any_mapped_done : {X Y : Type 0} (f : X → Y) (g : Y → Bool) (xs : List X) (k : ℕ) (so_far : Bool) → length xs ≤ k →
    (so_far || list_any (λ x. g (f x)) (drop k xs)) ≡ list_any (λ x. g (f x)) xs → so_far ≡ list_any g (map f xs)
any_mapped_done f g xs k so_far over h = any_done (λ x. g (f x)) xs k so_far _ over h ∙ sym (any_mapped f g xs)

-- ---- members

abbrev pub member_of : CStep → List ℕ
member_of step = (out-CStep step).member

rolled_step : (layer : CStep-F CArg CExprKind CCall CExpr CIndex CPlace CStep) → (parts_of_step (roll-CStep layer)).member ≡ layer.member
rolled_step layer = rw fold-roll-CStep refl

step_member : (s : CStep) → (parts_of_step s).member ≡ member_of s
step_member s =
    subst (λ (q : CStep). (parts_of_step q).member ≡ member_of q) (roll-out-CStep s)
    (rolled_step (out-CStep s)
    ∙ ap (λ (l : CStep-F CArg CExprKind CCall CExpr CIndex CPlace CStep). l.member) (sym (out-roll-CStep (out-CStep s))))

same_members : (steps : List CStep) → map (λ (s : StepParts). s.member) (map parts_of_step steps) ≡ map member_of steps
same_members [] = refl
same_members (s ∷ steps) = (λ i. step_member s i ∷ same_members steps i)

-- the path of a layer
abbrev layer_path : CPlace-F CArg CExprKind CCall CExpr CIndex CPlace CStep → CPath
layer_path layer = record { through = layer.through; name = layer.name; members = map member_of layer.steps }

rolled_place : (layer : CPlace-F CArg CExprKind CCall CExpr CIndex CPlace CStep) → path_of (roll-CPlace layer) ≡ layer_path layer
rolled_place layer =
    rw fold-roll-CPlace
    (ap (λ (members : List (List ℕ)). record { through = layer.through; name = layer.name; members = members }) (same_members layer.steps))

-- the path of a place, by its parts
place_path : (p : CPlace) → path_of p ≡ layer_path (out-CPlace p)
place_path p =
    subst (λ (q : CPlace). path_of q ≡ layer_path (out-CPlace q)) (roll-out-CPlace p)
    (rolled_place (out-CPlace p) ∙ ap layer_path (sym (out-roll-CPlace (out-CPlace p))))

-- whether a place names a counter, by its steps
pub names_one : (p : CPlace) (steps : List CStep) → steps ≡ (out-CPlace p).steps → list_any (λ s. is_counter_name (member_of s)) steps ≡ names_counter (path_of p)
names_one p steps same =
    ap (λ (l : List CStep). list_any (λ s. is_counter_name (member_of s)) l) same
    ∙ (sym (any_mapped member_of is_counter_name (out-CPlace p).steps) ∙ ap names_counter (sym (place_path p)))

-- ---- own counters

implied : (b c : Bool) → (not b || c) ≡ true → b ≡ true → c ≡ true
implied true c h is = h
implied false c h is = cc

-- one more place
own_first : (place : CPath) (places : CPaths) → (names_counter place ≡ true → IsOwn place) → AreOwn places → AreOwn (place ∷ places)
own_first place places h rest other has names = by (first_or_further place places other has)
  where
    by : (place ≡ other) ⊎ Contains places other → IsOwn other
    by (inl same) = subst IsOwn same (h (ap names_counter same ∙ names))
    by (inr further) = rest other further names

own_none : AreOwn []
own_none place has = absurd (contains_none place has)

-- one more place of a list
pub own_next : {X : Type 0} (path : X → CPath) (xs : List X) (k : ℕ) (x : X) (so_far here counts : Bool) → k < length xs → x ≡ get_or xs k x →
    names_counter (path x) ≡ counts → (here ≡ true → IsOwn (path x)) →
    (so_far ≡ true → AreOwn (map path (drop k xs)) → AreOwn (map path xs)) →
    (so_far && (not counts || here)) ≡ true → AreOwn (map path (drop (k + 1) xs)) → AreOwn (map path xs)
own_next path xs k x so_far here counts within is told mine h more rest =
    h (and_first so_far (not counts || here) more)
    (subst (λ l. AreOwn (map path l)) (sym (drop_next xs k x within is))
    (own_first (path x) (map path (drop (k + 1) xs)) (λ names. mine (implied counts here (and_second so_far (not counts || here) more) (sym told ∙ names))) rest))

-- the whole list
pub own_done : {X : Type 0} (path : X → CPath) (xs : List X) (k : ℕ) (so_far : Bool) → length xs ≤ k →
    (so_far ≡ true → AreOwn (map path (drop k xs)) → AreOwn (map path xs)) → so_far ≡ true → AreOwn (map path xs)
own_done path xs k so_far over h is = h is (subst (λ l. AreOwn (map path l)) (sym (drop_all k xs over)) own_none)

-- a place of one step that begins with `(*f)`
pub own_of : (p : CPlace) (steps : List CStep) → steps ≡ (out-CPlace p).steps → 1 ≤ length steps → length steps < 2 → (out-CPlace p).through ≡ true →
    bytes_eq (out-CPlace p).name (codes "f") ≡ true → IsOwn (path_of p)
own_of p [] same some few through named = let no : ⊥ = omega (arith, some) in absurd no
own_of p (s ∷ t ∷ steps) same some few through named = let no : ⊥ = omega (arith, few) in absurd no
own_of p (s ∷ []) same some few through named = record {
  counter = member_of s;
  is = place_path p ∙ (λ i. record {
    through = through i;
    name = (bytes_eq-Decides (out-CPlace p).name (codes "f")).0 named i;
    members = map member_of (sym same i);
  });
}

-- a function that names counters only where another one does, and only its own
counters_kept : (old new : CFunc) → AreOwn (places_named new) →
    (list_any names_counter (places_named new) ≡ true → list_any names_counter (places_named old) ≡ true) → CountersKept old new
counters_kept old new are some place has names =
    by (are place has names)
    (Any-from_list_any names_counter (places_named old) (some (any_from names_counter (places_named new) place has names)))
  where
    by : IsOwn place → Any (λ of. names_counter of ≡ true) (places_named old) → CounterFrom old place
    by mine (k, of, within, is, counts) = owned of (k, within, is) counts mine.counter mine.is

kept_where : (b c : Bool) → (b || not c) ≡ true → c ≡ true → b ≡ true
kept_where true c h is = refl
kept_where false true h is = h
kept_where false false h is = is

-- the same, by what is told of both functions' places
pub kept_told : (old new : CFunc) (before after : CPaths) (own some any : Bool) → before ≡ places_named old → after ≡ places_named new →
    (own ≡ true → AreOwn after) → some ≡ list_any names_counter before → any ≡ list_any names_counter after → (own && (some || not any)) ≡ true →
    CountersKept old new
kept_told old new before after own some any one other mine told further h =
    counters_kept old new (subst AreOwn other (mine (and_first own (some || not any) h)))
    (λ names. ap (list_any names_counter) (sym one) ∙ (sym told
    ∙ kept_where some any (and_second own (some || not any) h) (further ∙ (ap (list_any names_counter) other ∙ names))))
