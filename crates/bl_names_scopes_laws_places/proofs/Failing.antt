-- The rules Duplicate, Unknown and Kind fail at the images of places, behind starts whose scopes correspond.
use Rattle.std.proofs.Common.{◌≡◌, ◌⊎◌, inl, inr, ℕ, Bool, true, false, List, [], ◌∷◌, ◌++◌, map, refl, ap, ap₂, sym, subst, ◌∙◌}
use Rattle.std.proofs.lemmas.List.{map-append}
use Rattle.std.proofs.lemmas.Option.{same_Some}
use Rattle.std.specs.Prelude.{◌↔◌, Option, Some, None}
use Rattle.bl_tree.proofs.Basics.{same_heads, same_tails}
use Rattle.bl_tree.specs.declared.place.Place.{Place}
use Rattle.bl_tree.specs.declared.rule.Rule.{Rule}
use Rattle.bl_tree.specs.declared.rule.Rule.TheVariants as rules
use Rattle.bl_joined.specs.Trees.{placed_name}
use Rattle.bl_names_scopes.specs.declared.kind.Kind.{Kind}
use Rattle.bl_names_scopes.specs.declared.kind.Wanted.{Wanted}
use Rattle.bl_names_scopes.specs.declared.scopes.Declaration.{Declaration}
use Rattle.bl_names_scopes.specs.Kinds.{suits}
use Rattle.bl_names_scopes.specs.Marks.{Mark, Marks, closes, declares, opens, uses}
use Rattle.bl_names_scopes.specs.Rules.{FailsBehind, FailsDuplicate, FailsKind, FailsUnknown, MarkStands}
use Rattle.bl_names_scopes.specs.Scopes.{Scopes, after, bound, found}
use Rattle.bl_parse_tree.specs.declared.name.Name.{Name}
use Rattle.bl_names_scopes_laws_places.specs.Agree.{SameDeclaration, ScopesAgree, placed_mark, placed_marks}
use Rattle.bl_names_scopes_laws_places.specs.Laws.{FailsAt, FailsAtImage, FailuresAgree, PassingAgrees}
use Rattle.bl_names_scopes_laws_places.proofs.Agreeing.{SameFound, after_agrees, bound_agrees, found_agrees}

-- ---- lists that are split

-- a mapped list that is split is a split list that is mapped
record Split {A B : Type 0} (g : A → B) (xs : List A) (before : List B) (y : B) (rest : List B) : Type 0 where
  first : List A
  at : A
  last : List A
  is : xs ≡ first ++ (at ∷ last)
  is_first : before ≡ map g first
  is_at : y ≡ g at

split_map : {A B : Type 0} (g : A → B) (xs : List A) (before : List B) (y : B) (rest : List B) → map g xs ≡ before ++ (y ∷ rest) →
    Split g xs before y rest
split_map g [] [] y rest is = absurd cc
split_map g [] (z ∷ before) y rest is = absurd cc
split_map g (x ∷ xs) [] y rest is =
    record { first = []; at = x; last = xs; is = refl; is_first = refl; is_at = sym (same_heads (g x) y (map g xs) rest is) }
split_map g (x ∷ xs) (z ∷ before) y rest is =
    let more = split_map g xs before y rest (same_tails (g x) z (map g xs) (before ++ (y ∷ rest)) is) in
    record {
      first = x ∷ more.first;
      at = more.at;
      last = more.last;
      is = ap (λ list. x ∷ list) more.is;
      is_first = ap₂ (λ b bs. b ∷ bs) (sym (same_heads (g x) z (map g xs) (before ++ (y ∷ rest)) is)) more.is_first;
      is_at = more.is_at;
    }

-- ---- marks that are mapped

-- a declaration is the image of one
record Declares (f : Place → Place) (mark : Mark) (name : Name) (of : Kind) : Type 0 where
  source : Name
  is : mark ≡ declares source of
  is_name : name ≡ placed_name f source

-- a use is the image of one
record Uses (f : Place → Place) (mark : Mark) (name : Name) (wanted : Wanted) : Type 0 where
  source : Name
  is : mark ≡ uses source wanted
  is_name : name ≡ placed_name f source

-- what a mark is: the name and the kind of a declaration
abbrev declared_name : Name → Mark → Name
declared_name name (declares other of) = other
declared_name name _ = name

abbrev declared_kind : Kind → Mark → Kind
declared_kind of (declares name other) = other
declared_kind of _ = of

abbrev used_name : Name → Mark → Name
used_name name (uses other wanted) = other
used_name name _ = name

abbrev used_as : Wanted → Mark → Wanted
used_as wanted (uses name other) = other
used_as wanted _ = wanted

abbrev is_declaration : Mark → Bool
is_declaration (declares name of) = true
is_declaration _ = false

abbrev is_use : Mark → Bool
is_use (uses name wanted) = true
is_use _ = false

declares_from : (f : Place → Place) (mark : Mark) (name : Name) (of : Kind) → declares name of ≡ placed_mark f mark → Declares f mark name of
declares_from f opens name of is = absurd (let no : true ≡ false = ap is_declaration is in cc)
declares_from f closes name of is = absurd (let no : true ≡ false = ap is_declaration is in cc)
declares_from f (declares other kind) name of is = record {
  source = other;
  is = ap (declares other) (sym (ap (declared_kind of) is));
  is_name = ap (declared_name name) is;
}
declares_from f (uses other wanted) name of is = absurd (let no : true ≡ false = ap is_declaration is in cc)

uses_from : (f : Place → Place) (mark : Mark) (name : Name) (wanted : Wanted) → uses name wanted ≡ placed_mark f mark → Uses f mark name wanted
uses_from f opens name wanted is = absurd (let no : true ≡ false = ap is_use is in cc)
uses_from f closes name wanted is = absurd (let no : true ≡ false = ap is_use is in cc)
uses_from f (declares other kind) name wanted is = absurd (let no : true ≡ false = ap is_use is in cc)
uses_from f (uses other own) name wanted is = record {
  source = other;
  is = ap (uses other) (sym (ap (used_as wanted) is));
  is_name = ap (used_name name) is;
}

module _ (f : Place → Place) (renumber : ℕ → ℕ) (one other : Scopes) (agree : ScopesAgree renumber one other) (marks : Marks) where
  -- ---- where a mark stands

  -- where an image stands, its mark does, in corresponding scopes
  record StandsFrom (mark : Mark) (scopes : Scopes) : Type 0 where
    source : Mark
    near : Scopes
    stands : MarkStands one marks source near
    is : mark ≡ placed_mark f source
    still_agree : ScopesAgree renumber near scopes

  stands_from : (mark : Mark) (scopes : Scopes) → MarkStands other (placed_marks f marks) mark scopes → StandsFrom mark scopes
  stands_from mark scopes h =
      let split = split_map (placed_mark f) marks h.before mark h.rest h.there in
      record {
        source = split.at;
        near = after one split.first;
        stands = record { before = split.first; rest = split.last; there = split.is; are_open = refl };
        is = split.is_at;
        still_agree =
            subst (ScopesAgree renumber (after one split.first)) (sym (h.are_open ∙ ap (after other) split.is_first))
            (after_agrees renumber f one other agree split.first);
      }

  -- where a mark stands, its image does, in corresponding scopes
  record StandsTo (mark : Mark) (scopes : Scopes) : Type 0 where
    far : Scopes
    stands : MarkStands other (placed_marks f marks) (placed_mark f mark) far
    still_agree : ScopesAgree renumber scopes far

  stands_to : (mark : Mark) (scopes : Scopes) → MarkStands one marks mark scopes → StandsTo mark scopes
  stands_to mark scopes h = record {
    far = after other (placed_marks f h.before);
    stands = record {
      before = placed_marks f h.before;
      rest = placed_marks f h.rest;
      there = ap (placed_marks f) h.there ∙ map-append (placed_mark f) h.before (mark ∷ h.rest);
      are_open = refl;
    };
    still_agree =
        subst (λ near. ScopesAgree renumber near (after other (placed_marks f h.before))) (sym h.are_open)
        (after_agrees renumber f one other agree h.before);
  }

  -- ---- what is found

  -- a declaration that corresponds to another
  record Found (near : Option Declaration) (far : Declaration) : Type 0 where
    source : Declaration
    is : near ≡ Some source
    same : SameDeclaration renumber source far

  some_from : (near far : Option Declaration) (e : Declaration) → SameFound renumber near far → far ≡ Some e → Found near e
  some_from None None e same is = absurd cc
  some_from None (Some d) e same is = absurd same
  some_from (Some d) None e same is = absurd same
  some_from (Some d) (Some other_one) e same is =
      record { source = d; is = refl; same = subst (SameDeclaration renumber d) (same_Some other_one e is) same }

  -- a declaration to which another corresponds
  record FoundTo (near : Declaration) (far : Option Declaration) : Type 0 where
    image : Declaration
    is : far ≡ Some image
    same : SameDeclaration renumber near image

  some_to : (near far : Option Declaration) (d : Declaration) → SameFound renumber near far → near ≡ Some d → FoundTo d far
  some_to None None d same is = absurd cc
  some_to None (Some e) d same is = absurd same
  some_to (Some own) None d same is = absurd same
  some_to (Some own) (Some e) d same is =
      record { image = e; is = refl; same = subst (λ x. SameDeclaration renumber x e) (same_Some own d is) same }

  none_from : (near far : Option Declaration) → SameFound renumber near far → far ≡ None → near ≡ None
  none_from None None same is = refl
  none_from None (Some e) same is = absurd same
  none_from (Some d) None same is = absurd same
  none_from (Some d) (Some e) same is = absurd cc

  none_to : (near far : Option Declaration) → SameFound renumber near far → near ≡ None → far ≡ None
  none_to None None same is = refl
  none_to None (Some e) same is = absurd same
  none_to (Some d) None same is = absurd same
  none_to (Some d) (Some e) same is = absurd cc

  -- ---- Duplicate

  abbrev Near : Rule → Place → Type 0
  Near rule at = FailsAtImage f (FailsBehind one marks) rule at

  abbrev Far : Rule → Place → Type 0
  Far rule at = FailsAt (FailsBehind other (placed_marks f marks)) rule at

  duplicate_from : (rule : Rule) (at : Place) (also : List Place) → rule ≡ rules.Duplicate → FailsDuplicate other (placed_marks f marks) at also →
      Near rule at
  duplicate_from rule at also is h =
      let stands = stands_from (declares h.name h.kind) h.scopes h.stands in
      let mark = declares_from f stands.source h.name h.kind stands.is in
      let name_is : h.name.text ≡ mark.source.text = ap (λ (n : Name). n.text) mark.is_name in
      let earlier = some_from (found stands.near.inner mark.source.text) (found h.scopes.inner mark.source.text) h.earlier
      (found_agrees renumber mark.source.text stands.near.inner h.scopes.inner stands.still_agree.inner)
      (ap (found h.scopes.inner) (sym name_is) ∙ h.twice) in
      record {
        source = mark.source.place;
        fails = record {
          further = earlier.source.place ∷ [];
          fails = inl (
            is,
            record {
              name = mark.source;
              kind = h.kind;
              scopes = stands.near;
              stands = subst (λ m. MarkStands one marks m stands.near) mark.is stands.stands;
              earlier = earlier.source;
              twice = earlier.is;
              at_later = refl;
              at_earlier = refl;
            },
          );
        };
        is_at = h.at_later ∙ ap (λ (n : Name). n.place) mark.is_name;
      }

  duplicate_to : (rule : Rule) (source : Place) (also : List Place) → rule ≡ rules.Duplicate → FailsDuplicate one marks source also →
      Far rule (f source)
  duplicate_to rule source also is h =
      let stands = stands_to (declares h.name h.kind) h.scopes h.stands in
      let earlier = some_to (found h.scopes.inner h.name.text) (found stands.far.inner h.name.text) h.earlier
      (found_agrees renumber h.name.text h.scopes.inner stands.far.inner stands.still_agree.inner) h.twice in
      record {
        further = earlier.image.place ∷ [];
        fails = inl (
          is,
          record {
            name = placed_name f h.name;
            kind = h.kind;
            scopes = stands.far;
            stands = stands.stands;
            earlier = earlier.image;
            twice = earlier.is;
            at_later = ap f h.at_later;
            at_earlier = refl;
          },
        );
      }

  -- ---- Unknown

  unknown_from : (rule : Rule) (at : Place) (also : List Place) → rule ≡ rules.Unknown → FailsUnknown other (placed_marks f marks) at also →
      Near rule at
  unknown_from rule at also is h =
      let stands = stands_from (uses h.name h.wanted) h.scopes h.stands in
      let mark = uses_from f stands.source h.name h.wanted stands.is in
      let name_is : h.name.text ≡ mark.source.text = ap (λ (n : Name). n.text) mark.is_name in
      record {
        source = mark.source.place;
        fails = record {
          further = [];
          fails = inr (inl (
            is,
            record {
              name = mark.source;
              wanted = h.wanted;
              scopes = stands.near;
              stands = subst (λ m. MarkStands one marks m stands.near) mark.is stands.stands;
              unbound = none_from (bound stands.near mark.source.text) (bound h.scopes mark.source.text)
                  (bound_agrees renumber mark.source.text stands.near h.scopes stands.still_agree)
                  (ap (bound h.scopes) (sym name_is) ∙ h.unbound);
              at_use = refl;
              alone = refl;
            },
          ));
        };
        is_at = h.at_use ∙ ap (λ (n : Name). n.place) mark.is_name;
      }

  unknown_to : (rule : Rule) (source : Place) (also : List Place) → rule ≡ rules.Unknown → FailsUnknown one marks source also →
      Far rule (f source)
  unknown_to rule source also is h =
      let stands = stands_to (uses h.name h.wanted) h.scopes h.stands in
      record {
        further = [];
        fails = inr (inl (
          is,
          record {
            name = placed_name f h.name;
            wanted = h.wanted;
            scopes = stands.far;
            stands = stands.stands;
            unbound = none_to (bound h.scopes h.name.text) (bound stands.far h.name.text)
                (bound_agrees renumber h.name.text h.scopes stands.far stands.still_agree) h.unbound;
            at_use = ap f h.at_use;
            alone = refl;
          },
        ));
      }

  -- ---- Kind

  kind_from : (rule : Rule) (at : Place) (also : List Place) → rule ≡ rules.Kind → FailsKind other (placed_marks f marks) at also → Near rule at
  kind_from rule at also is h =
      let stands = stands_from (uses h.name h.wanted) h.binds.scopes h.binds.stands in
      let mark = uses_from f stands.source h.name h.wanted stands.is in
      let name_is : h.name.text ≡ mark.source.text = ap (λ (n : Name). n.text) mark.is_name in
      let declaration = some_from (bound stands.near mark.source.text) (bound h.binds.scopes mark.source.text) h.declaration
      (bound_agrees renumber mark.source.text stands.near h.binds.scopes stands.still_agree)
      (ap (bound h.binds.scopes) (sym name_is) ∙ h.binds.is_bound) in
      record {
        source = mark.source.place;
        fails = record {
          further = declaration.source.place ∷ [];
          fails = inr (inr (
            is,
            record {
              name = mark.source;
              wanted = h.wanted;
              declaration = declaration.source;
              binds = record {
                scopes = stands.near;
                stands = subst (λ m. MarkStands one marks m stands.near) mark.is stands.stands;
                is_bound = declaration.is;
              };
              unfit = ap (suits h.wanted) (sym declaration.same.kind) ∙ h.unfit;
              at_use = refl;
              at_declaration = refl;
            },
          ));
        };
        is_at = h.at_use ∙ ap (λ (n : Name). n.place) mark.is_name;
      }

  kind_to : (rule : Rule) (source : Place) (also : List Place) → rule ≡ rules.Kind → FailsKind one marks source also → Far rule (f source)
  kind_to rule source also is h =
      let stands = stands_to (uses h.name h.wanted) h.binds.scopes h.binds.stands in
      let declaration = some_to (bound h.binds.scopes h.name.text) (bound stands.far h.name.text) h.declaration
      (bound_agrees renumber h.name.text h.binds.scopes stands.far stands.still_agree) h.binds.is_bound in
      record {
        further = declaration.image.place ∷ [];
        fails = inr (inr (
          is,
          record {
            name = placed_name f h.name;
            wanted = h.wanted;
            declaration = declaration.image;
            binds = record { scopes = stands.far; stands = stands.stands; is_bound = declaration.is };
            unfit = ap (suits h.wanted) declaration.same.kind ∙ h.unfit;
            at_use = ap f h.at_use;
            at_declaration = refl;
          },
        ));
      }

  -- ---- all three

  fails_from : (rule : Rule) (at : Place) (also : List Place) → FailsBehind other (placed_marks f marks) rule at also → Near rule at
  fails_from rule at also (inl h) = duplicate_from rule at also h.0 h.1
  fails_from rule at also (inr (inl h)) = unknown_from rule at also h.0 h.1
  fails_from rule at also (inr (inr h)) = kind_from rule at also h.0 h.1

  fails_to : (rule : Rule) (source : Place) (also : List Place) → FailsBehind one marks rule source also → Far rule (f source)
  fails_to rule source also (inl h) = duplicate_to rule source also h.0 h.1
  fails_to rule source also (inr (inl h)) = unknown_to rule source also h.0 h.1
  fails_to rule source also (inr (inr h)) = kind_to rule source also h.0 h.1

  image_to : (rule : Rule) (at : Place) → Near rule at → Far rule at
  image_to rule at h = subst (Far rule) (sym h.is_at) (fails_to rule h.source h.fails.further h.fails.fails)

pub failures_agree : FailuresAgree
failures_agree f renumber one other agree marks rule at = (
  λ h. fails_from f renumber one other agree marks rule at h.further h.fails,
  λ h. image_to f renumber one other agree marks rule at h,
)

pub passing_agrees : PassingAgrees
passing_agrees f renumber one other agree marks = (
  λ passes rule source also fails.
      let far = fails_to f renumber one other agree marks rule source also fails in passes rule (f source) far.further far.fails,
  λ passes rule at also fails.
      let near = fails_from f renumber one other agree marks rule at also fails in passes rule near.source near.fails.further near.fails.fails,
)
