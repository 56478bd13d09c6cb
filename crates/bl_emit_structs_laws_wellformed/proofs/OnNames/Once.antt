-- What holds where of structs of one name the first alone stands.
use Rattle.std.proofs.Common.{◌≡◌, Bool, true, false, not, if◌then◌else◌, ◌||◌, List, [], ◌∷◌, ◌++◌, refl, sym, ap, subst, ◌∙◌}
use Rattle.std.proofs.lemmas.List.Folds.{list_any-append}
use Rattle.std.proofs.lemmas.Slice.Eq.{bytes_eq-Decides}
use Rattle.std.specs.Prelude.{bytes_eq}
use Rattle.std.proofs.lemmas.Bool.{and_from}
use Rattle.bl_tree.proofs.Basics.{and_first, and_second}
use Rattle.bl_tree.specs.declared.text.Text.{Text}
use Rattle.bl_tree.specs.declared.c.CStruct.{CStruct}
use Rattle.bl_tree.specs.Words.{are_distinct}
use Rattle.bl_emit_structs.specs.Structs.{each_once}
use Rattle.bl_emit_structs_laws_wellformed.specs.Names.{are_known, names_of}
use Rattle.bl_emit_structs_laws_wellformed.proofs.OnNames.Known.{has_front, has_last, structs_more, within_again, members_known}
use Rattle.bl_emit_structs_laws_wellformed.proofs.OnFormed.Faultless.{has}

-- each uses earlier ones as before
pub once_known : (taken : List Text) (structs : List CStruct) → are_known taken structs ≡ true → are_known taken (each_once taken structs) ≡ true
once_known taken [] h = refl
once_known taken (s ∷ rest) h =
    let own : members_known taken s ≡ true = and_first (members_known taken s) (are_known (taken ++ s.name ∷ []) rest) h in
    let later : are_known (taken ++ s.name ∷ []) rest ≡ true = and_second (members_known taken s) (are_known (taken ++ s.name ∷ []) rest) h in
    by (has s.name taken) (λ there. once_known taken rest (structs_more (taken ++ s.name ∷ []) taken rest (within_again taken s.name there) later))
    (and_from (members_known taken s) (are_known (taken ++ s.name ∷ []) (each_once (taken ++ s.name ∷ []) rest)) own
    (once_known (taken ++ s.name ∷ []) rest later)) refl
  where
    by : (b : Bool) → (has s.name taken ≡ true → are_known taken (each_once taken rest) ≡ true)
        → are_known taken (s ∷ each_once (taken ++ s.name ∷ []) rest) ≡ true → has s.name taken ≡ b
        → are_known taken (if b then each_once taken rest else s ∷ each_once (taken ++ s.name ∷ []) rest) ≡ true
    by true old new is = old is
    by false old new is = new

-- a name of the structs is taken, or stands among those that are kept
abbrev Stays : Text → List Text → List CStruct → Type 0
Stays name taken structs = (has name taken || has name (names_of (each_once taken structs))) ≡ true

pub once_has : (name : Text) (taken : List Text) (structs : List CStruct) → (has name taken || has name (names_of structs)) ≡ true
    → Stays name taken structs
once_has name taken [] h = h
once_has name taken (s ∷ rest) h =
    by (has s.name taken) (once_has name taken rest) (once_has name (taken ++ s.name ∷ []) rest) refl
  where
    or_true : (a b c : Bool) → (a || (b || c)) ≡ true → (b ≡ true → a ≡ true) → (a || c) ≡ true
    or_true true b c h f = refl
    or_true false true c h f = absurd (let x : false ≡ true = f refl in cc)
    or_true false false c h f = h

    same_taken : bytes_eq name s.name ≡ true → has s.name taken ≡ true → has name taken ≡ true
    same_taken same there = subst (λ n. has n taken ≡ true) (sym ((bytes_eq-Decides name s.name).0 same)) there

    moved : (a b c : Bool) → (a || (b || c)) ≡ ((a || (b || false)) || c)
    moved true b c = refl
    moved false true c = refl
    moved false false c = refl

    pushed : has name (taken ++ s.name ∷ []) ≡ (has name taken || (bytes_eq name s.name || false))
    pushed = list_any-append (bytes_eq name) taken (s.name ∷ [])

    by : (b : Bool) → ((has name taken || has name (names_of rest)) ≡ true → Stays name taken rest)
        → ((has name (taken ++ s.name ∷ []) || has name (names_of rest)) ≡ true → Stays name (taken ++ s.name ∷ []) rest) → has s.name taken ≡ b
        → (has name taken || has name (names_of (if b then each_once taken rest else s ∷ each_once (taken ++ s.name ∷ []) rest))) ≡ true
    by true old new is = old (or_true (has name taken) (bytes_eq name s.name) (has name (names_of rest)) h (λ same. same_taken same is))
    by false old new is =
        moved (has name taken) (bytes_eq name s.name) (has name (names_of (each_once (taken ++ s.name ∷ []) rest)))
        ∙ ap (λ b. b || has name (names_of (each_once (taken ++ s.name ∷ []) rest))) (sym pushed)
        ∙ new (ap (λ b. b || has name (names_of rest)) pushed ∙ sym (moved (has name taken) (bytes_eq name s.name) (has name (names_of rest))) ∙ h)

-- none of the structs that are kept has a name that is taken
pub once_new : (name : Text) (taken : List Text) (structs : List CStruct) → has name taken ≡ true → has name (names_of (each_once taken structs))
    ≡ false
once_new name taken [] there = refl
once_new name taken (s ∷ rest) there =
    by (has s.name taken) (once_new name taken rest there) (once_new name (taken ++ s.name ∷ []) rest (has_front name taken (s.name ∷ []) there)) refl
  where
    differs : (b : Bool) → bytes_eq name s.name ≡ b → has s.name taken ≡ false → b ≡ false
    differs false is absent = refl
    differs true is absent =
        let own : has s.name taken ≡ true = subst (λ n. has n taken ≡ true) ((bytes_eq-Decides name s.name).0 is) there in
        sym own ∙ absent

    neither : (a b : Bool) → a ≡ false → b ≡ false → (a || b) ≡ false
    neither true b one other = one
    neither false b one other = other

    by : (b : Bool) → has name (names_of (each_once taken rest)) ≡ false → has name (names_of (each_once (taken ++ s.name ∷ []) rest)) ≡ false
        → has s.name taken ≡ b
        → has name (names_of (if b then each_once taken rest else s ∷ each_once (taken ++ s.name ∷ []) rest)) ≡ false
    by true old new is = old
    by false old new is =
        neither (bytes_eq name s.name) (has name (names_of (each_once (taken ++ s.name ∷ []) rest))) (differs (bytes_eq name s.name) refl is) new

-- no two that are kept have one name
pub once_distinct : (taken : List Text) (structs : List CStruct) → are_distinct (names_of (each_once taken structs)) ≡ true
once_distinct taken [] = refl
once_distinct taken (s ∷ rest) =
    by (has s.name taken) (once_distinct taken rest) (once_distinct (taken ++ s.name ∷ []) rest)
  where
    alone : has s.name (names_of (each_once (taken ++ s.name ∷ []) rest)) ≡ false
    alone = once_new s.name (taken ++ s.name ∷ []) rest (has_last s.name taken)

    by : (b : Bool) → are_distinct (names_of (each_once taken rest)) ≡ true → are_distinct (names_of (each_once (taken ++ s.name ∷ []) rest)) ≡ true
        → are_distinct (names_of (if b then each_once taken rest else s ∷ each_once (taken ++ s.name ∷ []) rest)) ≡ true
    by true old new = old
    by false old new = and_from (not (has s.name (names_of (each_once (taken ++ s.name ∷ []) rest)))) _ (ap not alone) new
