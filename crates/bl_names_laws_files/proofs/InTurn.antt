-- Marks and items one after another.
use Rattle.std.proofs.Common.{◌≡◌, ◌⊎◌, inl, inr, List, [], ◌∷◌, ◌++◌, drop, get_or, refl, sym, ap, ap₂, ◌∙◌, append_assoc}
use Rattle.std.proofs.lemmas.List.{map-append}
use Rattle.bl_tree.specs.declared.place.Place.{Place}
use Rattle.bl_tree.specs.declared.rule.Rule.{Rule}
use Rattle.bl_names.proofs.StillLemmas.{after-append}
use Rattle.bl_names.specs.Named.{along, constants_of, structs_of, units_of}
use Rattle.bl_names.specs.Order.{kind_of_item}
use Rattle.bl_names_scopes.specs.Marks.{Mark, Marks, item_marks, marks_of}
use Rattle.bl_names_scopes.specs.Rules.{FailsBehind, MarkStands, PassesBehind}
use Rattle.bl_names_scopes.specs.Scopes.{Scopes, after}
use Rattle.bl_parse_tree.specs.declared.item.RawItem.{RawItem}
use Rattle.bl_names_laws_files.specs.Laws.{FailuresInTurn, GivenInTurn, MarksInTurn, PassingInTurn, ScopesInTurn}

pub marks_in_turn : MarksInTurn
marks_in_turn [] second = refl
marks_in_turn (item ∷ first) second =
    ap (λ marks. item_marks item ++ marks) (marks_in_turn first second) ∙ sym (append_assoc (item_marks item) (marks_of first) (marks_of second))

pub scopes_in_turn : ScopesInTurn
scopes_in_turn = after-append

-- ---- where a mark stands among others

heads : (a b : Mark) (xs ys : Marks) → a ∷ xs ≡ b ∷ ys → a ≡ b
heads a b xs ys same = ap (λ list. get_or list 0 a) same

tails : (a b : Mark) (xs ys : Marks) → a ∷ xs ≡ b ∷ ys → xs ≡ ys
tails a b xs ys same = ap (drop 1) same

-- a mark of the first marks
record InFirst (first before : Marks) (mark : Mark) : Type 0 where
  rest : Marks
  there : first ≡ before ++ (mark ∷ rest)

-- a mark of the second marks
record InSecond (first second before : Marks) (mark : Mark) (rest : Marks) : Type 0 where
  own : Marks
  split : before ≡ first ++ own
  there : second ≡ own ++ (mark ∷ rest)

parted : (first second before : Marks) (mark : Mark) (rest : Marks) → first ++ second ≡ before ++ (mark ∷ rest) →
    InFirst first before mark ⊎ InSecond first second before mark rest
parted [] second before mark rest is = inr (record { own = before; split = refl; there = is })
parted (one ∷ first) second [] mark rest is =
    inl (record { rest = first; there = ap (λ m. m ∷ first) (heads one mark (first ++ second) rest is) })
parted (one ∷ first) second (other ∷ before) mark rest is =
    onward (parted first second before mark rest (tails one other (first ++ second) (before ++ (mark ∷ rest)) is))
  where
    same : one ≡ other
    same = heads one other (first ++ second) (before ++ (mark ∷ rest)) is

    onward : InFirst first before mark ⊎ InSecond first second before mark rest →
        InFirst (one ∷ first) (other ∷ before) mark ⊎ InSecond (one ∷ first) second (other ∷ before) mark rest
    onward (inl h) = inl (record { rest = h.rest; there = ap₂ (λ m ms. m ∷ ms) same h.there })
    onward (inr h) = inr (record { own = h.own; split = ap₂ (λ m ms. m ∷ ms) (sym same) h.split; there = h.there })

module _ (start : Scopes) (first second : Marks) where
  stands_first : (mark : Mark) (scopes : Scopes) → MarkStands start first mark scopes → MarkStands start (first ++ second) mark scopes
  stands_first mark scopes h = record {
    before = h.before;
    rest = h.rest ++ second;
    there = ap (λ marks. marks ++ second) h.there ∙ append_assoc h.before (mark ∷ h.rest) second;
    are_open = h.are_open;
  }

  stands_second : (mark : Mark) (scopes : Scopes) → MarkStands (after start first) second mark scopes →
      MarkStands start (first ++ second) mark scopes
  stands_second mark scopes h = record {
    before = first ++ h.before;
    rest = h.rest;
    there = ap (λ marks. first ++ marks) h.there ∙ sym (append_assoc first h.before (mark ∷ h.rest));
    are_open = h.are_open ∙ sym (after-append start first h.before);
  }

  stands_in : (mark : Mark) (scopes : Scopes) → MarkStands start (first ++ second) mark scopes →
      MarkStands start first mark scopes ⊎ MarkStands (after start first) second mark scopes
  stands_in mark scopes h = by_part (parted first second h.before mark h.rest h.there)
    where
      by_part : InFirst first h.before mark ⊎ InSecond first second h.before mark h.rest →
          MarkStands start first mark scopes ⊎ MarkStands (after start first) second mark scopes
      by_part (inl part) = inl (record { before = h.before; rest = part.rest; there = part.there; are_open = h.are_open })
      by_part (inr part) = inr (record {
        before = part.own;
        rest = h.rest;
        there = part.there;
        are_open = h.are_open ∙ ap (after start) part.split ∙ after-append start first part.own;
      })

-- ---- failures

-- a failure at a mark, which fails wherever the mark stands in these scopes
record FailsHere (start : Scopes) (marks : Marks) (rule : Rule) (at : Place) (also : List Place) : Type 0 where
  mark : Mark
  scopes : Scopes
  stands : MarkStands start marks mark scopes
  elsewhere : (other : Scopes) (others : Marks) → MarkStands other others mark scopes → FailsBehind other others rule at also

fails_here : (start : Scopes) (marks : Marks) (rule : Rule) (at : Place) (also : List Place) → FailsBehind start marks rule at also →
    FailsHere start marks rule at also
fails_here start marks rule at also (inl h) = record {
  mark = _;
  scopes = h.1.scopes;
  stands = h.1.stands;
  elsewhere = λ other others stands.
      inl (
        h.0,
        record {
          name = h.1.name;
          kind = h.1.kind;
          scopes = h.1.scopes;
          stands = stands;
          earlier = h.1.earlier;
          twice = h.1.twice;
          at_later = h.1.at_later;
          at_earlier = h.1.at_earlier;
        },
      );
}
fails_here start marks rule at also (inr (inl h)) = record {
  mark = _;
  scopes = h.1.scopes;
  stands = h.1.stands;
  elsewhere = λ other others stands.
      inr (inl (
        h.0,
        record {
          name = h.1.name;
          wanted = h.1.wanted;
          scopes = h.1.scopes;
          stands = stands;
          unbound = h.1.unbound;
          at_use = h.1.at_use;
          alone = h.1.alone;
        },
      ));
}
fails_here start marks rule at also (inr (inr h)) = record {
  mark = _;
  scopes = h.1.binds.scopes;
  stands = h.1.binds.stands;
  elsewhere = λ other others stands.
      inr (inr (
        h.0,
        record {
          name = h.1.name;
          wanted = h.1.wanted;
          declaration = h.1.declaration;
          binds = record { scopes = h.1.binds.scopes; stands = stands; is_bound = h.1.binds.is_bound };
          unfit = h.1.unfit;
          at_use = h.1.at_use;
          at_declaration = h.1.at_declaration;
        },
      ));
}

module _ (start : Scopes) (first second : Marks) (rule : Rule) (at : Place) (also : List Place) where
  fails_first : FailsBehind start first rule at also → FailsBehind start (first ++ second) rule at also
  fails_first h =
      let here = fails_here start first rule at also h in
      here.elsewhere start (first ++ second) (stands_first start first second here.mark here.scopes here.stands)

  fails_second : FailsBehind (after start first) second rule at also → FailsBehind start (first ++ second) rule at also
  fails_second h =
      let here = fails_here (after start first) second rule at also h in
      here.elsewhere start (first ++ second) (stands_second start first second here.mark here.scopes here.stands)

  fails_in : FailsBehind start (first ++ second) rule at also →
      FailsBehind start first rule at also ⊎ FailsBehind (after start first) second rule at also
  fails_in h = by_part (stands_in start first second here.mark here.scopes here.stands)
    where
      here : FailsHere start (first ++ second) rule at also
      here = fails_here start (first ++ second) rule at also h

      by_part : MarkStands start first here.mark here.scopes ⊎ MarkStands (after start first) second here.mark here.scopes →
          FailsBehind start first rule at also ⊎ FailsBehind (after start first) second rule at also
      by_part (inl stands) = inl (here.elsewhere start first stands)
      by_part (inr stands) = inr (here.elsewhere (after start first) second stands)

  either : FailsBehind start first rule at also ⊎ FailsBehind (after start first) second rule at also →
      FailsBehind start (first ++ second) rule at also
  either (inl h) = fails_first h
  either (inr h) = fails_second h

pub failures_in_turn : FailuresInTurn
failures_in_turn start first second rule at also =
    (fails_in start first second rule at also, either start first second rule at also)

pub passing_in_turn : PassingInTurn
passing_in_turn start first second = (
  λ passes. (
    λ rule at also fails. passes rule at also (fails_first start first second rule at also fails),
    λ rule at also fails. passes rule at also (fails_second start first second rule at also fails),
  ),
  λ passes rule at also fails. neither passes rule at also (fails_in start first second rule at also fails),
)
  where
    neither : PassesBehind start first × PassesBehind (after start first) second → (rule : Rule) (at : Place) (also : List Place) →
        FailsBehind start first rule at also ⊎ FailsBehind (after start first) second rule at also → ⊥
    neither passes rule at also (inl h) = passes.0 rule at also h
    neither passes rule at also (inr h) = passes.1 rule at also h

-- ---- items

-- what items one after another give
pub along_both : {A : Type 0} (gives : Scopes → RawItem → List A) (scopes : Scopes) (first second : List RawItem) →
    along gives scopes (first ++ second) ≡ along gives scopes first ++ along gives (after scopes (marks_of first)) second
along_both gives scopes [] second = refl
along_both gives scopes (item ∷ first) second =
    ap (λ list. gives scopes item ++ list)
    (along_both gives (after scopes (item_marks item)) first second
    ∙ ap (λ new. along gives (after scopes (item_marks item)) first ++ along gives new second)
    (sym (after-append scopes (item_marks item) (marks_of first))))
    ∙ sym (append_assoc (gives scopes item) (along gives (after scopes (item_marks item)) first)
    (along gives (after scopes (item_marks item ++ marks_of first)) second))

pub given_in_turn : GivenInTurn
given_in_turn scopes first second = record {
  structs = along_both structs_of scopes first second;
  constants = along_both constants_of scopes first second;
  units = along_both units_of scopes first second;
  order = map-append kind_of_item first second;
}
