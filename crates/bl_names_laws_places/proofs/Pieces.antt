-- Parts of a text that are named alike in scopes that correspond.
use Rattle.std.proofs.Common.{◌≡◌, ℕ, List, [], ◌∷◌, ◌++◌, map, refl, ap, ap₂, subst, sym, ◌∙◌}
use Rattle.std.proofs.lemmas.List.{map-append}
use Rattle.std.proofs.lemmas.List.Elements.{All-head, All-tail}
use Rattle.std.specs.Prelude.{All}
use Rattle.bl_names.proofs.FitLemmas.{Fits, fits_first, fits_second}
use Rattle.bl_names.proofs.StillLemmas.{Still, after-append}
use Rattle.bl_names.specs.Named.{Piece, all, constants_of_all, made_of_all, marks_of_all, none, opened, plain, scoped, vars_of_all}
use Rattle.bl_names_scopes.specs.Marks.{Marks, closes, in_scope, opens}
use Rattle.bl_names_scopes.specs.Scopes.{Scopes, after, enter, scopes_outside}
use Rattle.bl_names_scopes_laws_places.specs.Agree.{ScopesAgree, placed_marks}
use Rattle.bl_names_scopes_laws_places.proofs.Agreeing.{after_agrees, enter_agrees}
use Rattle.bl_names_scopes_laws_places.proofs.MarksMoved.{both, scope_moves}
use Rattle.bl_names_tree.specs.declared.item.NamedConstant.{NamedConstant}
use Rattle.bl_names_tree.specs.declared.item.NamedVar.{NamedVar}
use Rattle.bl_names_laws_places.specs.Renamed.{Renaming, renamed_constant, renamed_var}

-- marks leave the scopes around the innermost as they are
abbrev pub Keeps : Marks → Type 0
Keeps marks = (scopes : Scopes) → (after scopes marks).outer ≡ scopes.outer

pub keeps_still : (marks : Marks) → Still marks → Keeps marks
keeps_still marks still scopes = ap (λ (s : Scopes). s.outer) (still scopes)

pub keeps_append : (first second : Marks) → Keeps first → Keeps second → Keeps (first ++ second)
keeps_append first second one two scopes =
    ap (λ (s : Scopes). s.outer) (after-append scopes first second) ∙ two (after scopes first) ∙ one scopes

-- behind a scope of its own all is as before but what was counted
pub scope_closed : (scopes : Scopes) (marks : Marks) → Keeps marks →
    after scopes (in_scope marks) ≡ record scopes { counts = (after (opened scopes) marks).counts }
scope_closed scopes marks keeps =
    after-append (opened scopes) marks (closes ∷ [])
    ∙ ap (λ outer. scopes_outside outer (after (opened scopes) marks).counts) (keeps (opened scopes))

pub keeps_scope : (marks : Marks) → Keeps marks → Keeps (in_scope marks)
keeps_scope marks keeps scopes = ap (λ (s : Scopes). s.outer) (scope_closed scopes marks keeps)

-- a part of one text, and the part with mapped places of another
pub record PieceAgrees (by : Renaming) {A : Type 0} (renamed : A → A) (near far : Piece A) : Type 0 where
  pub marks : far.marks ≡ placed_marks by.place near.marks
  pub keeps : Keeps near.marks
  pub made : (one other : Scopes) → ScopesAgree by.constant one other → Fits one near.marks → far.made other ≡ renamed (near.made one)
  pub vars : (one other : Scopes) → ScopesAgree by.constant one other → Fits one near.marks →
      far.vars other ≡ map (renamed_var by) (near.vars one)
  pub constants : (one other : Scopes) → ScopesAgree by.constant one other → Fits one near.marks →
      far.constants other ≡ map (renamed_constant by) (near.constants one)

module _ (by : Renaming) where
  -- scopes that correspond do so behind marks of the one and their images
  pub onward : (one other : Scopes) → ScopesAgree by.constant one other → (near far : Marks) → far ≡ placed_marks by.place near →
      ScopesAgree by.constant (after one near) (after other far)
  onward one other agree near far is =
      subst (λ marks. ScopesAgree by.constant (after one near) (after other marks)) (sym is) (after_agrees by.constant by.place one other agree near)

  pub inward : (one other : Scopes) → ScopesAgree by.constant one other → ScopesAgree by.constant (opened one) (opened other)
  inward one other agree = enter_agrees by.constant by.place one other agree opens

  -- a part that declares nothing
  pub plain_agrees : {A : Type 0} (renamed : A → A) (near far : Marks) (near_made far_made : Scopes → A) → far ≡ placed_marks by.place near →
      Still near →
      ((one other : Scopes) → ScopesAgree by.constant one other → Fits one near → far_made other ≡ renamed (near_made one)) →
      PieceAgrees by renamed (plain near near_made) (plain far far_made)
  plain_agrees renamed near far near_made far_made marks still made = record {
    marks = marks;
    keeps = keeps_still near still;
    made = made;
    vars = λ one other agree fits. refl;
    constants = λ one other agree fits. refl;
  }

  -- ---- parts in a list

  module _ {X A : Type 0} (piece : X → Piece A) (placed : X → X) (renamed : A → A) where
    abbrev pub Each : List X → Type 0
    Each xs = All (λ x. PieceAgrees by renamed (piece x) (piece (placed x))) xs

    abbrev near : List X → List (Piece A)
    near xs = map piece xs

    abbrev far : List X → List (Piece A)
    far xs = map piece (map placed xs)

    first_of : (x : X) (xs : List X) → Each (x ∷ xs) → PieceAgrees by renamed (piece x) (piece (placed x))
    first_of x xs each = All-head (λ x. PieceAgrees by renamed (piece x) (piece (placed x))) x xs each

    rest_of : (x : X) (xs : List X) → Each (x ∷ xs) → Each xs
    rest_of x xs each = All-tail (λ x. PieceAgrees by renamed (piece x) (piece (placed x))) x xs each

    pub all_marks_agree : (xs : List X) → Each xs → marks_of_all (far xs) ≡ placed_marks by.place (marks_of_all (near xs))
    all_marks_agree [] each = refl
    all_marks_agree (x ∷ xs) each =
        both by.place (piece (placed x)).marks (marks_of_all (far xs)) (piece x).marks (marks_of_all (near xs)) (first_of x xs each).marks
        (all_marks_agree xs (rest_of x xs each))

    pub all_keep : (xs : List X) → Each xs → Keeps (marks_of_all (near xs))
    all_keep [] each = λ scopes. refl
    all_keep (x ∷ xs) each =
        keeps_append (piece x).marks (marks_of_all (near xs)) (first_of x xs each).keeps (all_keep xs (rest_of x xs each))

    next : (x : X) (xs : List X) (each : Each (x ∷ xs)) (one other : Scopes) → ScopesAgree by.constant one other →
        ScopesAgree by.constant (after one (piece x).marks) (after other (piece (placed x)).marks)
    next x xs each one other agree = onward one other agree (piece x).marks (piece (placed x)).marks (first_of x xs each).marks

    pub all_made_agree : (xs : List X) → Each xs → (one other : Scopes) → ScopesAgree by.constant one other → Fits one (marks_of_all (near xs)) →
        made_of_all (far xs) other ≡ map renamed (made_of_all (near xs) one)
    all_made_agree [] each one other agree fits = refl
    all_made_agree (x ∷ xs) each one other agree fits =
        ap₂ (λ y ys. y ∷ ys) ((first_of x xs each).made one other agree (fits_first one (piece x).marks (marks_of_all (near xs)) fits))
        (all_made_agree xs (rest_of x xs each) (after one (piece x).marks) (after other (piece (placed x)).marks) (next x xs each one other agree)
        (fits_second one (piece x).marks (marks_of_all (near xs)) fits))

    pub all_vars_agree : (xs : List X) → Each xs → (one other : Scopes) → ScopesAgree by.constant one other → Fits one (marks_of_all (near xs)) →
        vars_of_all (far xs) other ≡ map (renamed_var by) (vars_of_all (near xs) one)
    all_vars_agree [] each one other agree fits = refl
    all_vars_agree (x ∷ xs) each one other agree fits =
        ap₂ (λ ys zs. ys ++ zs) ((first_of x xs each).vars one other agree (fits_first one (piece x).marks (marks_of_all (near xs)) fits))
        (all_vars_agree xs (rest_of x xs each) (after one (piece x).marks) (after other (piece (placed x)).marks) (next x xs each one other agree)
        (fits_second one (piece x).marks (marks_of_all (near xs)) fits))
        ∙ sym (map-append (renamed_var by) ((piece x).vars one) (vars_of_all (near xs) (after one (piece x).marks)))

    pub all_constants_agree : (xs : List X) → Each xs → (one other : Scopes) → ScopesAgree by.constant one other →
        Fits one (marks_of_all (near xs)) → constants_of_all (far xs) other ≡ map (renamed_constant by) (constants_of_all (near xs) one)
    all_constants_agree [] each one other agree fits = refl
    all_constants_agree (x ∷ xs) each one other agree fits =
        ap₂ (λ ys zs. ys ++ zs) ((first_of x xs each).constants one other agree (fits_first one (piece x).marks (marks_of_all (near xs)) fits))
        (all_constants_agree xs (rest_of x xs each) (after one (piece x).marks) (after other (piece (placed x)).marks)
        (next x xs each one other agree) (fits_second one (piece x).marks (marks_of_all (near xs)) fits))
        ∙ sym (map-append (renamed_constant by) ((piece x).constants one) (constants_of_all (near xs) (after one (piece x).marks)))

    pub all_agree : (xs : List X) → Each xs → PieceAgrees by (map renamed) (all (near xs)) (all (far xs))
    all_agree xs each = record {
      marks = all_marks_agree xs each;
      keeps = all_keep xs each;
      made = all_made_agree xs each;
      vars = all_vars_agree xs each;
      constants = all_constants_agree xs each;
    }
