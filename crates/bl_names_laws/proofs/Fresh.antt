-- Where rule Duplicate holds, each name is declared where its scope does not have it yet.
use Rattle.std.proofs.Common.{◌≡◌, ℕ, Bool, true, false, cond, not, ◌||◌, List, [], ◌∷◌, ◌++◌, inl, Some, None, refl, sym, ap, subst, ◌∙◌, append_assoc}
use Rattle.std.specs.Prelude.{bytes_eq, is_none, ⊤}
use Rattle.std.specs.List.{list_all}
use Rattle.std.proofs.lemmas.Bool.{not-true}
use Rattle.std.proofs.lemmas.Bool.{and_from}
use Rattle.bl_tree.proofs.Basics.{and_first, and_second, bytes_differ_swap, neither_first, neither_second}
use Rattle.bl_tree.specs.declared.rule.Rule.TheVariants as rule
use Rattle.bl_tree.specs.Words.{are_distinct, is_among}
use Rattle.bl_parse_tree.specs.declared.item.RawItem.{RawItem}
use Rattle.bl_parse_tree.specs.declared.name.Name.{Name}
use Rattle.bl_names_scopes.specs.declared.kind.Kind.{Kind}
use Rattle.bl_names_scopes.specs.declared.scopes.Declaration.{Declaration}
use Rattle.bl_names_scopes.specs.Marks.{Mark, Marks, closes, declared_after, declares, marks_of, opens, uses}
use Rattle.bl_names_scopes.specs.Rules.{Passes}
use Rattle.bl_names_scopes.specs.Scopes.{Declared, Scopes, after, count_of, declaration_of, declared, enter, file_scope, found}
use Rattle.bl_names.proofs.StillLemmas.{after-append}

abbrev pub FreshAt : Scopes → Mark → Type 0
FreshAt scopes opens = ⊤
FreshAt scopes closes = ⊤
FreshAt scopes (declares name kind) = found scopes.inner name.text ≡ None
FreshAt scopes (uses name wanted) = ⊤

-- each name that the marks declare is new in its scope
abbrev pub Fresh : Scopes → Marks → Type 0
Fresh scopes [] = ⊤
Fresh scopes (mark ∷ rest) = FreshAt scopes mark × Fresh (enter scopes mark) rest

pub fresh_first : (scopes : Scopes) (first second : Marks) → Fresh scopes (first ++ second) → Fresh scopes first
fresh_first scopes [] second fresh = tt
fresh_first scopes (mark ∷ first) second fresh = (fresh.0, fresh_first (enter scopes mark) first second fresh.1)

pub fresh_second : (scopes : Scopes) (first second : Marks) → Fresh scopes (first ++ second) → Fresh (after scopes first) second
fresh_second scopes [] second fresh = fresh
fresh_second scopes (mark ∷ first) second fresh = fresh_second (enter scopes mark) first second fresh.1

module _ (items : List RawItem) (passes : Passes items) where
  declares_fresh : (before : Marks) (name : Name) (kind : Kind) (rest : Marks) → marks_of items ≡ before ++ (declares name kind ∷ rest)
      → found (after file_scope before).inner name.text ≡ None
  declares_fresh before name kind rest there =
      elim (found (after file_scope before).inner name.text) as (λ earlier. found (after file_scope before).inner name.text ≡ earlier → earlier ≡ None) [
        | None ↦ λ is. refl
        | Some d ↦ λ is. absurd (passes rule.Duplicate name.place (d.place ∷ []) (inl (
          refl,
          record {
            name = name;
            kind = kind;
            scopes = after file_scope before;
            stands = record { before = before; rest = rest; there = there; are_open = refl };
            earlier = d;
            twice = is;
            at_later = refl;
            at_earlier = refl;
          },
        )))
      ] refl

  mark_fresh : (before : Marks) (mark : Mark) (rest : Marks) → marks_of items ≡ before ++ (mark ∷ rest) → FreshAt (after file_scope before) mark
  mark_fresh before opens rest there = tt
  mark_fresh before closes rest there = tt
  mark_fresh before (declares name kind) rest there = declares_fresh before name kind rest there
  mark_fresh before (uses name wanted) rest there = tt

  rest_fresh : (before rest : Marks) → marks_of items ≡ before ++ rest → Fresh (after file_scope before) rest
  rest_fresh before [] there = tt
  rest_fresh before (mark ∷ rest) there = (
    mark_fresh before mark rest there,
    subst (λ s. Fresh s rest) (after-append file_scope before (mark ∷ []))
        (rest_fresh (before ++ (mark ∷ [])) rest (there ∙ sym (append_assoc before (mark ∷ []) rest))),
  )

  pub program_fresh : Fresh file_scope (marks_of items)
  program_fresh = rest_fresh [] (marks_of items) refl

-- ---- names that a scope does not have

abbrev pub unseen : Declared → List ℕ → Bool
unseen scope name = is_none (found scope name)

-- one more name is declared in the innermost scope, which did not have it
pub record Adds (scopes new : Scopes) (text : List ℕ) : Type 0 where
  pub entry : Declaration
  pub absent : found scopes.inner text ≡ None
  pub inner : new.inner ≡ scopes.inner ++ ((text, entry) ∷ [])

pub adds : (scopes : Scopes) (marks : Marks) (name : Name) (kind : Kind) → (after scopes marks).inner ≡ scopes.inner
    → Fresh scopes (declared_after marks name kind) →
    Adds scopes (after scopes (declared_after marks name kind)) name.text
adds scopes marks name kind same fresh =
    let behind = after scopes marks in
    let here : found behind.inner name.text ≡ None = (fresh_second scopes marks (declares name kind ∷ []) fresh).0 in
    let position = count_of behind.counts kind in
    record {
      entry = declaration_of name kind position;
      absent = ap (λ scope. found scope name.text) (sym same) ∙ here;
      inner = ap (λ s. s.inner) (after-append scopes marks (declares name kind ∷ []))
          ∙ ap (λ earlier. declared earlier behind.inner name kind position) here
          ∙ ap (λ scope. scope ++ ((name.text, declaration_of name kind position) ∷ [])) same;
    }

-- ---- names that differ

-- the names differ, and the scope has none of them
pub record Differ (scope : Declared) (names : List (List ℕ)) : Type 0 where
  pub unseen : list_all (unseen scope) names ≡ true
  pub distinct : are_distinct names ≡ true

pub none_differ : (scope : Declared) → Differ scope []
none_differ scope = record { unseen = refl; distinct = refl }

-- what a longer scope does not have
module _ (text : List ℕ) (entry : Declaration) where
  abbrev longer : Declared → Declared
  longer scope = scope ++ ((text, entry) ∷ [])

  last_differs : (name : List ℕ) → is_none (cond (bytes_eq name text) (Some entry) None) ≡ true → bytes_eq name text ≡ false
  last_differs name none =
      elim (bytes_eq name text) as (λ same. is_none (cond same (Some entry) None) ≡ true → same ≡ false) [
        | true ↦ λ is. absurd (cc)
        | false ↦ λ is. refl
      ] none

  -- the shorter scope does not have it either, and it is not the last
  unseen_before : (scope : Declared) (name : List ℕ) → unseen (longer scope) name ≡ true →
      (unseen scope name ≡ true) × (bytes_eq text name ≡ false)
  unseen_before [] name none = (refl, bytes_differ_swap name text (last_differs name none))
  unseen_before (first ∷ scope) name none =
      elim (bytes_eq name first.0) as (λ same. is_none (cond same (Some first.1) (found (longer scope) name)) ≡ true →
      (is_none (cond same (Some first.1) (found scope name)) ≡ true) × (bytes_eq text name ≡ false)) [
        | true ↦ λ is. absurd (cc)
        | false ↦ λ is. unseen_before scope name is
      ] none

  all_before : (scope : Declared) (names : List (List ℕ)) → list_all (unseen (longer scope)) names ≡ true
      → (list_all (unseen scope) names ≡ true) × (is_among text names ≡ false)
  all_before scope [] none = (refl, refl)
  all_before scope (name ∷ names) none =
      let here = unseen_before scope name (and_first (unseen (longer scope) name) (list_all (unseen (longer scope)) names) none) in
      let rest = all_before scope names (and_second (unseen (longer scope) name) (list_all (unseen (longer scope)) names) none) in
      (and_from (unseen scope name) (list_all (unseen scope) names) here.0 rest.0, (λ i. here.1 i || rest.1 i))

-- names behind one that is declared
module _ (scopes new : Scopes) (text : List ℕ) (names : List (List ℕ)) (one : Adds scopes new text) (rest : Differ new.inner names) where
  before : (list_all (unseen scopes.inner) names ≡ true) × (is_among text names ≡ false)
  before = all_before text one.entry scopes.inner names (ap (λ scope. list_all (unseen scope) names) (sym one.inner) ∙ rest.unseen)

  pub differ_skip : Differ scopes.inner names
  differ_skip = record { unseen = before.0; distinct = rest.distinct }

  pub differ_first : Differ scopes.inner (text ∷ names)
  differ_first = record {
    unseen = and_from (unseen scopes.inner text) (list_all (unseen scopes.inner) names) (ap is_none one.absent) before.0;
    distinct = and_from (not (is_among text names)) (are_distinct names) (ap not before.1) rest.distinct;
  }

-- a name between others
module _ (text : List ℕ) (after : List (List ℕ)) where
  all_middle : (test : List ℕ → Bool) (before : List (List ℕ)) → test text ≡ true → list_all test (before ++ after) ≡ true
      → list_all test (before ++ (text ∷ after)) ≡ true
  all_middle test [] here all = and_from (test text) (list_all test after) here all
  all_middle test (name ∷ before) here all =
      and_from (test name) (list_all test (before ++ (text ∷ after))) (and_first (test name) (list_all test (before ++ after)) all)
      (all_middle test before here (and_second (test name) (list_all test (before ++ after)) all))

  among_middle : (name : List ℕ) (before : List (List ℕ)) → bytes_eq name text ≡ false → is_among name (before ++ after) ≡ false
      → is_among name (before ++ (text ∷ after)) ≡ false
  among_middle name [] here all = λ i. here i || all i
  among_middle name (one ∷ before) here all =
      λ i. neither_first (bytes_eq name one) (is_among name (before ++ after)) all i || among_middle name before here
      (neither_second (bytes_eq name one) (is_among name (before ++ after)) all) i

  distinct_middle : (before : List (List ℕ)) → is_among text (before ++ after) ≡ false → are_distinct (before ++ after) ≡ true
      → are_distinct (before ++ (text ∷ after)) ≡ true
  distinct_middle [] new distinct = and_from (not (is_among text after)) (are_distinct after) (ap not new) distinct
  distinct_middle (name ∷ before) new distinct =
      let others = before ++ after in
      and_from (not (is_among name (before ++ (text ∷ after)))) (are_distinct (before ++ (text ∷ after)))
      (ap not (among_middle name before (bytes_differ_swap text name (neither_first (bytes_eq text name) (is_among text others) new))
      (not-true (is_among name others) (and_first (not (is_among name others)) (are_distinct others) distinct))))
      (distinct_middle before (neither_second (bytes_eq text name) (is_among text others) new)
      (and_second (not (is_among name others)) (are_distinct others) distinct))

pub differ_middle : (scopes new : Scopes) (text : List ℕ) (first second : List (List ℕ)) → Adds scopes new text → Differ new.inner (first ++ second)
    → Differ scopes.inner (first ++ (text ∷ second))
differ_middle scopes new text first second one rest =
    let known = before scopes new text (first ++ second) one rest in
    record {
      unseen = all_middle text second (unseen scopes.inner) first (ap is_none one.absent) known.0;
      distinct = distinct_middle text second first known.1 rest.distinct;
    }
