-- Depths of lists of parts, one part after the other.
use Rattle.std.proofs.Common.{◌≡◌, ℕ, ◌+◌, ◌<◌, ◌≤◌, max, Bool, true, false, ◌&&◌, List, [], ◌∷◌, map, length, get_or, drop, Option, Some, None}
use Rattle.std.proofs.Common.{refl, ap, sym, subst, ◌∙◌, arith}
use Rattle.std.proofs.lemmas.Bool.Decides.{nat_tests}
use Rattle.std.specs.Prelude.{nat_le}
use Rattle.std.proofs.lemmas.List.{drop_all}
use Rattle.bl_tree.proofs.Basics.{drop_next}
use Rattle.bl_tree.specs.Reduce.{all_of, greatest}
use Rattle.bl_tree.specs.declared.c.CStmt.{CStmt}
use Rattle.bl_ctext.specs.Spellable.{has_any, spells_stmt}
use Rattle.bl_ctext.specs.inner.Depths.{stmt_depth}
use Rattle.bl_ctext_spelled.specs.Deep.{Spelled}

-- what was told so far, with what is left, tells the whole
abbrev pub Towards : Option ℕ → Bool → ℕ → Bool → ℕ → Type 0
Towards None rest left whole all = Unit {0}
Towards (Some told) rest left whole all = (rest ≡ whole) × (max told left ≡ all)

-- the depth of two parts, by those of each
abbrev pub Both : Option ℕ → Option ℕ → Option ℕ → Type 0
Both one other both = (s t : Bool) (d e : ℕ) → Spelled s d one → Spelled t e other → Spelled (s && t) (max d e) both

-- a part that is the same as one that is told
pub spelled_as : (s t : Bool) (d e : ℕ) (told : Option ℕ) → s ≡ t → d ≡ e → Spelled t e told → Spelled s d told
spelled_as s t d e None same deep h = tt
spelled_as s t d e (Some told) same deep h = (same ∙ h.0, deep ∙ h.1)

-- a part that has a spelling where another one has
pub spelled_if : (a b : Bool) (d : ℕ) (told : Option ℕ) → (a ≡ true → b ≡ true) → Spelled a d told → Spelled b d told
spelled_if a b d None f h = tt
spelled_if a b d (Some told) f h = (f h.0, h.1)

-- truths in another order of brackets
pub and_true : (a b : Bool) → (a && (b && true)) ≡ (a && b)
and_true true true = refl
and_true true false = refl
and_true false b = refl

pub and_three : (a b c : Bool) → (a && (b && c)) ≡ ((a && b) && c)
and_three true b c = refl
and_three false b c = refl

pub and_five : (a b c d e : Bool) → (a && (b && (c && (d && e)))) ≡ (((a && b) && (c && d)) && e)
and_five true true true d e = refl
and_five true true false d e = refl
and_five true false c d e = refl
and_five false b c d e = refl

-- the same part
pub moved : {X : Type 0} (spells : X → Bool) (depth : X → ℕ) (a b : X) (told : Option ℕ) → a ≡ b → Spelled (spells a) (depth a) told →
    Spelled (spells b) (depth b) told
moved spells depth a b told same h = spelled_as _ _ _ _ told (ap spells (sym same)) (ap depth (sym same)) h

-- nothing was told, so nothing is
none_told : (here more : Option ℕ) (t : Bool) (e : ℕ) → Both None here more → Spelled t e here → (rest whole : Bool) (left all : ℕ) →
    Towards more rest left whole all
none_told here None t e both h rest whole left all = tt
none_told here (Some m) t e both h rest whole left all =
    let wrong : false ≡ true = (both false t 0 e tt h).0 in absurd (cc (wrong))

one_told : (a b : ℕ) (t : Bool) (e : ℕ) (more : Option ℕ) → Both (Some a) (Some b) more → Spelled t e (Some b) → (rest whole : Bool) (left all : ℕ) →
    (t && rest) ≡ whole → max a (max e left) ≡ all → Towards more rest left whole all
one_told a b t e None both h rest whole left all same deep = tt
one_told a b true e (Some m) both h rest whole left all same deep =
    let told : max a b ≡ m = (both true true a b (refl, refl) (refl, refl)).1 in
    let own : e ≡ b = h.1 in
    (same, omega (arith, told, own, deep))
one_told a b false e (Some m) both h rest whole left all same deep = let wrong : false ≡ true = h.0 in absurd (cc (wrong))

not_told : (a : ℕ) (more : Option ℕ) → Both (Some a) None more → (rest whole : Bool) (left all : ℕ) → Towards more rest left whole all
not_told a None both rest whole left all = tt
not_told a (Some m) both rest whole left all =
    let wrong : (true && false) ≡ true = (both true false a 0 (refl, refl) tt).0 in absurd (cc (wrong))

one_more : (found here more : Option ℕ) (t : Bool) (e : ℕ) → Both found here more → Spelled t e here → (rest whole : Bool) (left all : ℕ) →
    Towards found (t && rest) (max e left) whole all → Towards more rest left whole all
one_more None here more t e both h rest whole left all so_far = none_told here more t e both h rest whole left all
one_more (Some a) None more t e both h rest whole left all so_far = not_told a more both rest whole left all
one_more (Some a) (Some b) more t e both h rest whole left all so_far = one_told a b t e more both h rest whole left all so_far.0 so_far.1

-- one part of a list
pub parts_next : {X : Type 0} (spells : X → Bool) (depth : X → ℕ) (xs : List X) (k : ℕ) (x : X) (found here more : Option ℕ) (whole : Bool) (all : ℕ) →
    k < length xs → x ≡ get_or xs k x → Spelled (spells x) (depth x) here → Both found here more →
    Towards found (all_of (map spells (drop k xs))) (greatest (map depth (drop k xs))) whole all →
    Towards more (all_of (map spells (drop (k + 1) xs))) (greatest (map depth (drop (k + 1) xs))) whole all
parts_next spells depth xs k x found here more whole all small is own both so_far =
    let split : drop k xs ≡ x ∷ drop (k + 1) xs = drop_next xs k x small is in
    one_more found here more (spells x) (depth x) both own _ whole _ all
    (subst (λ (l : List _). Towards found (all_of (map spells l)) (greatest (map depth l)) whole all) split so_far)

-- the whole list
pub parts_done : {X : Type 0} (spells : X → Bool) (depth : X → ℕ) (xs : List X) (k : ℕ) (found : Option ℕ) → length xs ≤ k →
    Towards found (all_of (map spells (drop k xs))) (greatest (map depth (drop k xs))) (all_of (map spells xs)) (greatest (map depth xs)) →
    Spelled (all_of (map spells xs)) (greatest (map depth xs)) found
parts_done spells depth xs k None over so_far = tt
parts_done spells depth xs k (Some told) over so_far =
    let nothing : drop k xs ≡ [] = drop_all k xs over in
    let same : all_of (map spells (drop k xs)) ≡ true = ap (λ (l : List _). all_of (map spells l)) nothing in
    let deep : greatest (map depth (drop k xs)) ≡ 0 = ap (λ (l : List _). greatest (map depth l)) nothing in
    (sym so_far.0 ∙ same, omega (arith, so_far.1, deep))

-- the same block
pub spelled_blocks : (inner listed : List CStmt) (told : Option ℕ) → inner ≡ listed → Spelled (all_of (map spells_stmt inner)) (greatest (map stmt_depth inner)) told →
    Spelled (all_of (map spells_stmt listed)) (greatest (map stmt_depth listed)) told
spelled_blocks inner listed told same h =
    moved (λ (b : List CStmt). all_of (map spells_stmt b)) (λ (b : List CStmt). greatest (map stmt_depth b)) inner listed told same h

-- a list of some length has something
pub has_some : {X : Type 0} (xs : List X) → 0 < length xs → has_any xs ≡ true
has_some [] some = let no : ⊥ = omega (arith, some) in absurd no
has_some (x ∷ xs) some = refl

-- a depth that was told, and is small
pub at_most : (depth told : ℕ) → depth ≡ told → nat_le told 2000 ≡ true → depth ≤ 2000
at_most depth told is small = grind (arith, nat_tests, is, small)
