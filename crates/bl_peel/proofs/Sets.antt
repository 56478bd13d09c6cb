-- Sets of static paths that are made from lists, joined and repeated.
use Rattle.std.proofs.Common.{◌≡◌, Bool, true, false, List, [], ◌∷◌, ◌++◌, inl, inr, ⊎_elim, sym, subst}
use Rattle.std.specs.Prelude.{if◌then◌else◌}
use Rattle.bl_tree.specs.declared.static_path.Static.{Static}
use Rattle.bl_tree.specs.Static.{set_of}
use Rattle.bl_effects.proofs.SetLemmas.{In, ascending_set, in_set, one_ascending, set_in}

-- each member of the one list is one of the other
abbrev pub Sub : List Static → List Static → Type 0
Sub xs ys = (x : Static) → In x xs → In x ys

-- lists with the same members give one set
pub one_set : (xs ys : List Static) → Sub xs ys → Sub ys xs → set_of xs ≡ set_of ys
one_set xs ys there back =
    one_ascending (set_of xs) (set_of ys) (ascending_set xs) (ascending_set ys)
    (λ x h. set_in x ys (there x (in_set x xs h)))
    (λ x h. set_in x xs (back x (in_set x ys h)))

-- lists that give one set have the same members
pub set_sub : (xs ys : List Static) → set_of xs ≡ set_of ys → Sub xs ys
set_sub xs ys same x h = in_set x ys (subst (In x) same (set_in x xs h))

pub sub_itself : (xs : List Static) → Sub xs xs
sub_itself xs x h = h

pub sub_none : (xs : List Static) → Sub [] xs
sub_none xs x h = absurd h

pub sub_left : (xs ys : List Static) → Sub xs (xs ++ ys)
sub_left [] ys x h = absurd h
sub_left (a ∷ xs) ys x h = ⊎_elim (λ is. inl is) (λ later. inr (sub_left xs ys x later)) h

pub sub_right : (xs ys : List Static) → Sub ys (xs ++ ys)
sub_right [] ys x h = h
sub_right (a ∷ xs) ys x h = inr (sub_right xs ys x h)

pub sub_both : (xs ys zs : List Static) → Sub xs zs → Sub ys zs → Sub (xs ++ ys) zs
sub_both [] ys zs first second x h = second x h
sub_both (a ∷ xs) ys zs first second x h =
    ⊎_elim (λ is. first x (inl is)) (λ later. sub_both xs ys zs (λ y there. first y (inr there)) second x later) h

pub sub_if : (c : Bool) (xs ys : List Static) → Sub xs ys → Sub (if c then xs else []) ys
sub_if true xs ys sub x h = sub x h
sub_if false xs ys sub x h = absurd h

-- a list that is the set of another has its members
pub of_set : (xs ys zs : List Static) → xs ≡ set_of ys → Sub ys zs → Sub xs zs
of_set xs ys zs is sub x h = sub x (in_set x ys (subst (In x) is h))

pub to_set : (xs ys : List Static) → xs ≡ set_of ys → Sub ys xs
to_set xs ys is x h = subst (In x) (sym is) (set_in x ys h)

-- ---- lists beside others

pub set_append : (a b c d : List Static) → set_of a ≡ set_of b → set_of c ≡ set_of d → set_of (a ++ c) ≡ set_of (b ++ d)
set_append a b c d first second =
    one_set (a ++ c) (b ++ d)
    (sub_both a c (b ++ d) (λ x h. sub_left b d x (set_sub a b first x h)) (λ x h. sub_right b d x (set_sub c d second x h)))
    (sub_both b d (a ++ c) (λ x h. sub_left a c x (set_sub b a (sym first) x h)) (λ x h. sub_right a c x (set_sub d c (sym second) x h)))

pub set_if : (c : Bool) (a b : List Static) → set_of a ≡ set_of b → set_of (if c then a else []) ≡ set_of (if c then b else [])
set_if true a b same = same
set_if false a b same = λ i. []

-- what a single statement writes before it pauses, followed by nothing
pub set_alone : (i j : Bool) (a b : List Static) → set_of a ≡ set_of b → set_of (a ++ (if i then [] else [])) ≡ set_of (b ++ (if j then [] else []))
set_alone i j a b same =
    one_set (a ++ (if i then [] else [])) (b ++ (if j then [] else []))
    (sub_both a (if i then [] else []) (b ++ (if j then [] else []))
    (λ x h. sub_left b (if j then [] else []) x (set_sub a b same x h)) (sub_if i [] (b ++ (if j then [] else [])) (sub_none _)))
    (sub_both b (if j then [] else []) (a ++ (if i then [] else []))
    (λ x h. sub_left a (if i then [] else []) x (set_sub b a (sym same) x h)) (sub_if j [] (a ++ (if i then [] else [])) (sub_none _)))

-- ---- a first turn before what it is a turn of

-- the turn adds nothing, and what follows it has the members of the whole
pub set_turn : (turn rest whole : List Static) → Sub turn whole → Sub rest whole → Sub whole rest →
    set_of (turn ++ (rest ++ [])) ≡ set_of (whole ++ [])
set_turn turn rest whole first second back =
    one_set (turn ++ (rest ++ [])) (whole ++ [])
    (sub_both turn (rest ++ []) (whole ++ []) (λ x h. sub_left whole [] x (first x h))
    (sub_both rest [] (whole ++ []) (λ x h. sub_left whole [] x (second x h)) (sub_none _)))
    (sub_both whole [] (turn ++ (rest ++ [])) (λ x h. sub_right turn (rest ++ []) x (sub_left rest [] x (back x h))) (sub_none _))

-- the same of what is written before a pause: the turn writes what the whole does, and what follows it no more
pub surface_turn : (c i j : Bool) (turn rest whole : List Static) → Sub turn whole → Sub whole turn → Sub rest whole →
    set_of (turn ++ (if c then rest ++ (if i then [] else []) else [])) ≡ set_of (whole ++ (if j then [] else []))
surface_turn c i j turn rest whole there back more =
    one_set (turn ++ (if c then rest ++ (if i then [] else []) else [])) (whole ++ (if j then [] else []))
    (sub_both turn (if c then rest ++ (if i then [] else []) else []) (whole ++ (if j then [] else []))
    (λ x h. sub_left whole (if j then [] else []) x (there x h))
    (sub_if c (rest ++ (if i then [] else [])) (whole ++ (if j then [] else []))
    (sub_both rest (if i then [] else []) (whole ++ (if j then [] else []))
    (λ x h. sub_left whole (if j then [] else []) x (more x h)) (sub_if i [] (whole ++ (if j then [] else [])) (sub_none _)))))
    (sub_both whole (if j then [] else []) (turn ++ (if c then rest ++ (if i then [] else []) else []))
    (λ x h. sub_left turn (if c then rest ++ (if i then [] else []) else []) x (back x h))
    (sub_if j [] (turn ++ (if c then rest ++ (if i then [] else []) else [])) (sub_none _)))
