-- Truths of lists, one element after the other, and what is found of parts of expressions.
use Rattle.std.proofs.Common.{◌≡◌, ℕ, ◌+◌, ◌<◌, ◌≤◌, Bool, true, false, ◌&&◌, ◌||◌, List, [], ◌∷◌, map, length, get_or, drop, Option, Some, None}
use Rattle.std.proofs.Common.{refl, ap, sym, subst, ◌∙◌}
use Rattle.std.specs.Prelude.{bytes_eq, is_some, if◌then◌else◌}
use Rattle.std.specs.List.{list_all}
use Rattle.std.specs.Option.{option_or}
use Rattle.std.proofs.lemmas.List.{drop_all}
use Rattle.std.proofs.lemmas.List.Folds.{list_all-map}
use Rattle.bl_tree.proofs.Basics.{and_assoc, and_true, drop_next}
use Rattle.bl_tree.specs.declared.text.Text.{Text}
use Rattle.bl_tree.specs.declared.c.CArg.{CArg}
use Rattle.bl_tree.specs.declared.c.CArg.TheOpen.{CPlace-F, CStep-F}
use Rattle.bl_tree.specs.declared.c.CCall.{CCall}
use Rattle.bl_tree.specs.declared.c.CExpr.{CExpr}
use Rattle.bl_tree.specs.declared.c.CExprKind.{CExprKind}
use Rattle.bl_tree.specs.declared.c.CIndex.{CIndex}
use Rattle.bl_tree.specs.declared.c.CPlace.{CPlace, fold-roll-CPlace, out-CPlace, roll-CPlace, roll-out-CPlace}
use Rattle.bl_tree.specs.declared.c.CStmt.{CStmt}
use Rattle.bl_tree.specs.declared.c.CStep.{CStep, fold-roll-CStep, out-CStep, roll-CStep, roll-out-CStep}
use Rattle.bl_ctext_semantics.specs.Tables.{with_entry}
use Rattle.bl_simplify_laws.specs.Spots.{first_of, member_of_step, spot_of_place}
use Rattle.bl_simplify_laws.specs.Tables.{StepStands, calls_stand_in, calls_stand_in_expr, calls_stand_in_place, has_name}
use Rattle.bl_simplify_calls.specs.Checks.{step_check}
use Rattle.bl_ctext_places.specs.Names.{HasNames}

-- ---- lists

-- one more element of a list
pub all_next : {X : Type 0} (f : X → Bool) (xs : List X) (k : ℕ) (x : X) (so_far here all : Bool) → k < length xs → x ≡ get_or xs k x →
    here ≡ f x → (so_far && list_all f (drop k xs)) ≡ all → ((so_far && here) && list_all f (drop (k + 1) xs)) ≡ all
all_next f xs k x so_far here all within is told h =
    let rest = list_all f (drop (k + 1) xs) in
    ap (λ b. (so_far && b) && rest) told
    ∙ (and_assoc so_far (f x) rest ∙ (ap (λ l. so_far && list_all f l) (sym (drop_next xs k x within is)) ∙ h))

-- the whole list
pub all_done : {X : Type 0} (f : X → Bool) (xs : List X) (k : ℕ) (so_far all : Bool) → length xs ≤ k → (so_far && list_all f (drop k xs)) ≡ all → so_far ≡ all
all_done f xs k so_far all over h = sym (and_true so_far) ∙ (ap (λ l. so_far && list_all f l) (sym (drop_all k xs over)) ∙ h)

-- the whole of a list that is made of another one
pub mapped_done : {X Y : Type 0} (f : X → Y) (g : Y → Bool) (xs : List X) (k : ℕ) (so_far : Bool) → length xs ≤ k →
    (so_far && list_all (λ x. g (f x)) (drop k xs)) ≡ list_all (λ x. g (f x)) xs → so_far ≡ list_all g (map f xs)
mapped_done f g xs k so_far over h = all_done (λ x. g (f x)) xs k so_far _ over h ∙ sym (list_all-map g f xs)

-- ---- names

added_at : {V : Type 0} (same old : Bool) (entry : Option V) (value : V) → old ≡ is_some entry →
    (same || old) ≡ is_some (option_or entry (if same then Some value else None))
added_at true old (Some x) value h = refl
added_at true old None value h = refl
added_at false old (Some x) value h = h
added_at false old None value h = h

-- a table with one more name
pub name_added : {V : Type 0} (old new : Text → Option V) (names : List Text) (name : Text) (value : V) → HasNames old names →
    ((asked : Text) → new asked ≡ with_entry old name value asked) → HasNames new (name ∷ names)
name_added old new names name value has add asked =
    added_at (bytes_eq name asked) (has_name names asked) (old asked) value (has asked) ∙ ap is_some (sym (add asked))

-- ---- places

rolled_step : (names : List Text) (layer : CStep-F CArg CExprKind CCall CExpr CIndex CPlace CStep) →
    (step_check names (roll-CStep layer)).member ≡ member_of_step (roll-CStep layer)
rolled_step names layer = rw (fold-roll-CStep, fold-roll-CStep) refl

step_member : (names : List Text) (s : CStep) → (step_check names s).member ≡ member_of_step s
step_member names s = subst (λ (q : CStep). (step_check names q).member ≡ member_of_step q) (roll-out-CStep s) (rolled_step names (out-CStep s))

same_members : (names : List Text) (steps : List CStep) → map (λ (s : StepStands). s.member) (map (step_check names) steps) ≡ map member_of_step steps
same_members names [] = refl
same_members names (s ∷ steps) = (λ i. step_member names s i ∷ same_members names steps i)

rolled_place : (names : List Text) (layer : CPlace-F CArg CExprKind CCall CExpr CIndex CPlace CStep) →
    (calls_stand_in_place names (roll-CPlace layer)).spot ≡ spot_of_place (roll-CPlace layer)
rolled_place names layer =
    rw (fold-roll-CPlace, fold-roll-CPlace)
    (ap (λ (members : List Text). record { through = layer.through; name = layer.name; first = first_of members }) (same_members names layer.steps))

-- what is found of a place has its spot
pub place_spot : (names : List Text) (p : CPlace) → (calls_stand_in_place names p).spot ≡ spot_of_place p
place_spot names p =
    subst (λ (q : CPlace). (calls_stand_in_place names q).spot ≡ spot_of_place q) (roll-out-CPlace p) (rolled_place names (out-CPlace p))

-- ---- parts put together

-- both of two truths
pub both_told : (one other a b all : Bool) → one ≡ a → other ≡ b → all ≡ (a && b) → (one && other) ≡ all
both_told one other a b all first second whole = (λ i. first i && second i) ∙ sym whole

-- what is told of an expression in a box, of a place, and of a block in a list
pub of_boxed : (names : List Text) (told : Bool) (inner boxed : CExpr) → told ≡ calls_stand_in_expr names inner → inner ≡ boxed →
    told ≡ calls_stand_in_expr names boxed
of_boxed names told inner boxed h same = h ∙ ap (calls_stand_in_expr names) same

pub of_lying : (names : List Text) (told : Bool) (inner boxed : CPlace) → told ≡ (calls_stand_in_place names inner).stands → inner ≡ boxed →
    told ≡ (calls_stand_in_place names boxed).stands
of_lying names told inner boxed h same = h ∙ ap (λ p. (calls_stand_in_place names p).stands) same

pub of_listed : (names : List Text) (told : Bool) (inner listed : List CStmt) → told ≡ list_all (calls_stand_in names) inner → inner ≡ listed →
    told ≡ list_all (λ b. b) (map (calls_stand_in names) listed)
of_listed names told inner listed h same =
    h ∙ (ap (λ block. list_all (calls_stand_in names) block) same ∙ sym (list_all-map (λ b. b) (calls_stand_in names) listed))
