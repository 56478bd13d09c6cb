-- What fails first in its layer, where the layers before it pass, fails first of all rules.
use Rattle.std.proofs.Common.{◌≡◌, ℕ, ◌∙◌, ◌<◌, ◌^◌, Bool, true, false, ◌&&◌, not, cond, drop, List, [], ◌∷◌, ◌⊎◌, ⊎_elim, length, inl, inr, refl, sym, ap}
use Rattle.std.proofs.Common.{subst, arith}
use Rattle.std.specs.Prelude.{⊤, nat_eq}
use Rattle.std.proofs.lemmas.Bool.Decides.{nat_tests}
use Rattle.bl_tree.proofs.Basics.{and_first, and_second}
use Rattle.bl_lex.specs.Rules.{Passes as TextPasses}
use Rattle.bl_lex.specs.Tokens.{Lexes}
use Rattle.bl_names_scopes.specs.Marks.{Marks, marks_of}
use Rattle.bl_names_scopes.specs.Rules.{FailsBehind as NamesFail, FailsDuplicate, FailsKind, FailsUnknown, PassesBehind as NamesPass}
use Rattle.bl_names_scopes.specs.Scopes.{Scopes, opened_by}
use Rattle.bl_names_tree.specs.declared.named.Named.{Named}
use Rattle.bl_parse_syntax.specs.Rules.{Fails as TokensFail, Passes as TokensPass}
use Rattle.bl_parse_tree.specs.declared.raw.Raw.{Raw}
use Rattle.bl_rules.proofs.Layers.{TokensAreOne, TokensThatPass, TreesAreOne, one_tree}
use Rattle.bl_rules.specs.Rules.{Parses}
use Rattle.bl_tree.proofs.FirstLemmas.{alike_first}
use Rattle.bl_tree.specs.declared.place.Place.{Place}
use Rattle.bl_tree.specs.declared.rule.Refusal.{Refusal}
use Rattle.bl_tree.specs.declared.rule.Refusal.TheVariants as refusal
use Rattle.bl_tree.specs.declared.rule.Rule.{Rule}
use Rattle.bl_tree.specs.declared.rule.Rule.TheVariants as rule
use Rattle.bl_tree.specs.declared.token.Token.{Token}
use Rattle.bl_tree.specs.declared.tree.StructDef.{StructDef}
use Rattle.bl_tree.specs.declared.tree.Unit.{Unit as UnitDef}
use Rattle.bl_tree.specs.Rules.{AreNoLater, FailsFirst, IsBefore, IsCause, compared, same_place, tells_walk}
use Rattle.bl_types.specs.declared.environment.Environment.{Environment}
use Rattle.bl_types.specs.declared.environment.Known.{Known}
use Rattle.bl_types.specs.Programs.{known_behind}
use Rattle.bl_types.specs.Rules.{FailsBehind as TypesFail, PassesBehind as TypesPass}
use Rattle.bl_module.specs.Behind.{outside_text}
use Rattle.bl_module.specs.declared.behind.Behind.{Behind}
use Rattle.bl_module.specs.declared.taken.Taken.{Taken}
use Rattle.bl_module.specs.inner.Layers.{NamesFailHere, OwnPasses}
use Rattle.bl_module.specs.Rules.{FailsIn, OwnFails, PassesIn, TreeFails, TreePasses, here, in_bytes, in_names, in_own, in_tokens}
use Rattle.bl_module.specs.Rules.{in_tree, in_types, is_last, known_at, known_in, named_in, own_units}
use Rattle.bl_tree.proofs.FirstLemmas.{all_compared}

-- ---- own units and structs

-- ---- names: further places in other texts are left out

-- there is one place at most
abbrev IsShort : List Place → Type 0
IsShort [] = ⊤
IsShort (place ∷ []) = ⊤
IsShort (place ∷ other ∷ places) = ⊥

-- nothing comes before what stands in no text
none_before : (place : Place) → IsBefore place outside_text → ⊥
none_before place is = ⊎_elim (λ (less : place.start < 0). omega arith) (λ (p : (place.start ≡ 0) × (place.end < 0)). let less = p.1 in omega arith) is

is_nowhere : (place : Place) → same_place place outside_text ≡ true → place ≡ outside_text
is_nowhere place is =
    let start : place.start ≡ 0 = starts place.start (nat_eq place.end 0) is in
    let end : place.end ≡ 0 = ends (nat_eq place.start 0) place.end is in
    λ i. record { start = start i; end = end i }
  where
    starts : (n : ℕ) (other : Bool) → (nat_eq n 0 && other) ≡ true → n ≡ 0
    starts n other both = let e : nat_eq n 0 ≡ true = and_first (nat_eq n 0) other both in grind (arith, nat_tests)

    ends : (other : Bool) (n : ℕ) → (other && nat_eq n 0) ≡ true → n ≡ 0
    ends other n both = let e : nat_eq n 0 ≡ true = and_second other (nat_eq n 0) both in grind (arith, nat_tests)

-- of two lists with one place at most, the one that comes no later does so where places elsewhere are left out
kept_no_later : (xs ys : List Place) → IsShort xs → IsShort ys → AreNoLater xs ys → AreNoLater (here xs) (here ys)
kept_no_later [] ys short other h = tt
kept_no_later (x ∷ []) [] short other h = absurd h
kept_no_later (x ∷ []) (y ∷ []) short other h =
    elim (same_place x outside_text) as (λ test. same_place x outside_text ≡ test →
    AreNoLater (cond (not test) (x ∷ []) []) (here (y ∷ []))) [
      | true ↦ λ there. tt
      | false ↦ λ apart.
          elim (same_place y outside_text) as (λ test. same_place y outside_text ≡ test → AreNoLater (x ∷ []) (cond (not test) (y ∷ []) [])) [
            | false ↦ λ other_apart. h
            | true ↦ λ there. absurd (left_behind there apart)
          ] refl
    ] refl
  where
    left_behind : same_place y outside_text ≡ true → same_place x outside_text ≡ false → ⊥
    left_behind there apart =
        let is : y ≡ outside_text = is_nowhere y there in
        ⊎_elim (λ (before : IsBefore x y). none_before x (subst (IsBefore x) is before))
        (λ (p : (x ≡ y) × AreNoLater [] []). let e : same_place x outside_text ≡ true = ap (λ z. same_place z outside_text) p.0 ∙ there in cc) h
kept_no_later (x ∷ []) (y ∷ z ∷ ys) short other h = absurd other
kept_no_later (x ∷ z ∷ xs) ys short other h = absurd short

-- a rule on names tells no walk, and one further place at most
record Told (rule : Rule) (also : List Place) : Type 0 where
  no_walk : tells_walk rule ≡ false
  short : IsShort also

told_here : (start : Scopes) (marks : Marks) (r : Rule) (at : Place) (also : List Place) → NamesFail start marks r at also → Told r also
told_here start marks r at also fails =
    ⊎_elim
    (λ (p : (r ≡ rule.Duplicate) × FailsDuplicate start marks at also).
    record { no_walk = ap tells_walk p.0; short = subst IsShort (sym p.1.at_earlier) tt })
    (λ rest. ⊎_elim
    (λ (p : (r ≡ rule.Unknown) × FailsUnknown start marks at also). record { no_walk = ap tells_walk p.0; short = subst IsShort (sym p.1.alone) tt })
    (λ (p : (r ≡ rule.Kind) × FailsKind start marks at also).
    record { no_walk = ap tells_walk p.0; short = subst IsShort (sym p.1.at_declaration) tt }) rest) fails

-- the first place decides, and else the further ones
first_kept : (at other : Place) (xs ys : List Place) → IsShort xs → IsShort ys → AreNoLater (at ∷ xs) (other ∷ ys) →
    AreNoLater (at ∷ here xs) (other ∷ here ys)
first_kept at other xs ys short few h =
    ⊎_elim (λ before. inl before) (λ (p : (at ≡ other) × AreNoLater xs ys). inr (p.0, kept_no_later xs ys short few p.1)) h

pub first_here : (start : Scopes) (marks : Marks) (r : Rule) (at : Place) (further : List Place) →
    FailsFirst (NamesFail start marks) r at further → FailsFirst (NamesFailHere start marks) r at (here further)
first_here start marks r at further first =
    let mine = told_here start marks r at further first.fails in
    record {
      fails = record { further = further; fails = first.fails; kept = refl };
      least_rule = λ other elsewhere also fails. first.least_rule other elsewhere fails.further fails.fails;
      least_places = λ elsewhere also fails.
          let others = told_here start marks r elsewhere fails.further fails.fails in
          let h : AreNoLater (at ∷ further) (elsewhere ∷ fails.further) =
          subst (λ places. AreNoLater places (elsewhere ∷ fails.further)) (all_compared r at further mine.no_walk)
          (subst (AreNoLater (compared r at further)) (all_compared r elsewhere fails.further mine.no_walk)
          (first.least_places elsewhere fails.further fails.fails)) in
          subst (λ places. AreNoLater places (compared r elsewhere also)) (sym (all_compared r at (here further) mine.no_walk))
          (subst (AreNoLater (at ∷ here further)) (sym (all_compared r elsewhere also mine.no_walk))
          (subst (λ them. AreNoLater (at ∷ here further) (elsewhere ∷ them)) (sym fails.kept)
          (first_kept at elsewhere further fails.further mine.short others.short h)));
    }

-- ---- trees

module _ (behind : Behind) (last : Bool) (raw : Raw) where
  pub names_cause : (told : Refusal) → IsCause (NamesFailHere (opened_by behind.headings) (marks_of raw.items)) told →
      IsCause (TreeFails behind last raw) told
  names_cause (refusal.Rule rule at also) first =
      alike_first (NamesFailHere (opened_by behind.headings) (marks_of raw.items)) (TreeFails behind last raw)
      (λ r p a f. in_names f.further f.fails f.kept) back rule at also first
    where
      back : (r : Rule) (p : Place) (a : List Place) → TreeFails behind last raw r p a →
          NamesFailHere (opened_by behind.headings) (marks_of raw.items) r p a
      back r p a (in_names further f kept) = record { further = further; fails = f; kept = kept }
      back r p a (in_types passes f) = absurd (passes rule at first.fails.further first.fails.fails)
      back r p a (in_own passes others f) = absurd (passes rule at first.fails.further first.fails.fails)
  names_cause refusal.NoMemory first = tt

  pub types_cause : NamesPass (opened_by behind.headings) (marks_of raw.items) → (told : Refusal) →
      IsCause (TypesFail last (known_at behind) (named_in behind raw)) told → IsCause (TreeFails behind last raw) told
  types_cause pass (refusal.Rule rule at also) first =
      alike_first (TypesFail last (known_at behind) (named_in behind raw)) (TreeFails behind last raw) (λ r p a f. in_types pass f) back rule at also first
    where
      back : (r : Rule) (p : Place) (a : List Place) → TreeFails behind last raw r p a → TypesFail last (known_at behind) (named_in behind raw) r p a
      back r p a (in_names further f kept) = absurd (pass r p further f)
      back r p a (in_types passes f) = f
      back r p a (in_own passes others f) = absurd (others rule at also first.fails)
  types_cause pass refusal.NoMemory first = tt

  pub own_cause : NamesPass (opened_by behind.headings) (marks_of raw.items) → TypesPass last (known_at behind) (named_in behind raw) →
      (told : Refusal) → IsCause (OwnFails (known_in behind raw).structs (length behind.structs) (own_units behind raw)) told →
      IsCause (TreeFails behind last raw) told
  own_cause pass more (refusal.Rule rule at also) first =
      alike_first (OwnFails (known_in behind raw).structs (length behind.structs) (own_units behind raw)) (TreeFails behind last raw)
      (λ r p a f. in_own pass more f) back rule at also first
    where
      back : (r : Rule) (p : Place) (a : List Place) → TreeFails behind last raw r p a →
          OwnFails (known_in behind raw).structs (length behind.structs) (own_units behind raw) r p a
      back r p a (in_names further f kept) = absurd (pass r p further f)
      back r p a (in_types passes f) = absurd (more r p a f)
      back r p a (in_own passes others f) = f
  own_cause pass more refusal.NoMemory first = tt

  pub tree_passes : NamesPass (opened_by behind.headings) (marks_of raw.items) → TypesPass last (known_at behind) (named_in behind raw) →
      OwnPasses (known_in behind raw).structs (length behind.structs) (own_units behind raw) → TreePasses behind last raw
  tree_passes pass more most r p a (in_names further f kept) = pass r p further f
  tree_passes pass more most r p a (in_types passes f) = more r p a f
  tree_passes pass more most r p a (in_own passes others f) = most r p a f

-- ---- what the judges know is what the definitions say

module _ (behind : Behind) (last : Bool) (raw : Raw) (named : Named) (env : Environment) (named_is : named ≡ named_in behind raw)
    (env_is : env ≡ known_at behind) (pass : NamesPass (opened_by behind.headings) (marks_of raw.items)) where
  pub types_told : (told : Refusal) → IsCause (TypesFail last env named) told → IsCause (TreeFails behind last raw) told
  types_told told cause =
      types_cause behind last raw pass told
      (subst (λ n. IsCause (TypesFail last (known_at behind) n) told) named_is (subst (λ e. IsCause (TypesFail last e named) told) env_is cause))

  module _ (known : Known) (known_is : known ≡ known_behind env named) (passes : TypesPass last env named) (structs : List StructDef) (from : ℕ)
      (units : List UnitDef) (structs_are : structs ≡ known.structs) (from_is : from ≡ length behind.structs)
      (units_are : units ≡ drop (length behind.units) known.units) where
    all_known : known ≡ known_in behind raw
    all_known = known_is ∙ (λ i. known_behind (env_is i) (named_is i))

    types_pass : TypesPass last (known_at behind) (named_in behind raw)
    types_pass = subst (λ n. TypesPass last (known_at behind) n) named_is (subst (λ e. TypesPass last e named) env_is passes)

    -- the judged structs and units are those of the tree
    same_structs : structs ≡ (known_in behind raw).structs
    same_structs = structs_are ∙ ap (λ (k : Known). k.structs) all_known

    same_units : units ≡ own_units behind raw
    same_units = units_are ∙ ap (λ (k : Known). drop (length behind.units) k.units) all_known

    pub own_told : (told : Refusal) → IsCause (OwnFails structs from units) told → IsCause (TreeFails behind last raw) told
    own_told told cause =
        own_cause behind last raw pass types_pass told
        (subst (λ us. IsCause (OwnFails (known_in behind raw).structs (length behind.structs) us) told) same_units
        (subst (λ n. IsCause (OwnFails (known_in behind raw).structs n units) told) from_is
        (subst (λ ss. IsCause (OwnFails ss from units) told) same_structs cause)))

    pub tree_passed : OwnPasses structs from units → TreePasses behind last raw
    tree_passed own =
        tree_passes behind last raw pass types_pass
        (subst (λ us. OwnPasses (known_in behind raw).structs (length behind.structs) us) same_units
        (subst (λ n. OwnPasses (known_in behind raw).structs n units) from_is (subst (λ ss. OwnPasses ss from units) same_structs own)))

-- ---- texts

module _ (one : TokensAreOne) (trees : TreesAreOne) (none : TokensThatPass) (behind : Behind) (taken : Taken) (text : List ℕ) where
  -- tokens that pass fail outside_text
  tokens_pass : (raw : Raw) → Parses text raw → (tokens : List Token) → Lexes text tokens → (r : Rule) (p : Place) (a : List Place) →
      TokensFail (length text) tokens r p a → ⊥
  tokens_pass raw parses tokens lexes r p a f =
      none (length text) tokens r p a (subst TokensPass (one text parses.tokens tokens parses.lexes lexes) parses.passes) f

  pub tokens_cause : (tokens : List Token) → TextPasses text → Lexes text tokens → (told : Refusal) →
      IsCause (TokensFail (length text) tokens) told → IsCause (FailsIn behind taken text) told
  tokens_cause tokens pass lexed (refusal.Rule rule at also) first =
      alike_first (TokensFail (length text) tokens) (FailsIn behind taken text) (λ r p a f. in_tokens tokens pass lexed f) back rule at also first
    where
      back : (r : Rule) (p : Place) (a : List Place) → FailsIn behind taken text r p a → TokensFail (length text) tokens r p a
      back r p a (in_bytes f) = absurd (pass r p a f)
      back r p a (in_tokens others passes lexes f) = subst (λ l. TokensFail (length text) l r p a) (one text others tokens lexes lexed) f
      back r p a (in_tree raw passes parses f) = absurd (tokens_pass raw parses tokens lexed rule at also first.fails)
  tokens_cause tokens pass lexed refusal.NoMemory first = tt

  -- what fails on a tree of the text fails on this one
  on_this : (raw other : Raw) → Parses text raw → Parses text other → (r : Rule) (p : Place) (a : List Place) →
      TreeFails behind (is_last taken other) other r p a → TreeFails behind (is_last taken raw) raw r p a
  on_this raw other parsed parses r p a f =
      subst (λ tree. TreeFails behind (is_last taken tree) tree r p a) (one_tree one trees text other raw parses parsed) f

  pub tree_cause : (raw : Raw) → TextPasses text → Parses text raw → (told : Refusal) →
      IsCause (TreeFails behind (is_last taken raw) raw) told → IsCause (FailsIn behind taken text) told
  tree_cause raw pass parsed (refusal.Rule rule at also) first =
      alike_first (TreeFails behind (is_last taken raw) raw) (FailsIn behind taken text) (λ r p a f. in_tree raw pass parsed f) back rule at also first
    where
      back : (r : Rule) (p : Place) (a : List Place) → FailsIn behind taken text r p a → TreeFails behind (is_last taken raw) raw r p a
      back r p a (in_bytes f) = absurd (pass r p a f)
      back r p a (in_tokens tokens passes lexes f) = absurd (tokens_pass raw parsed tokens lexes r p a f)
      back r p a (in_tree other passes parses f) = on_this raw other parsed parses r p a f
  tree_cause raw pass parsed refusal.NoMemory first = tt

  pub text_passes : (raw : Raw) → TextPasses text → Parses text raw → TreePasses behind (is_last taken raw) raw → PassesIn behind taken text
  text_passes raw pass parsed most r p a (in_bytes f) = pass r p a f
  text_passes raw pass parsed most r p a (in_tokens tokens passes lexes f) = tokens_pass raw parsed tokens lexes r p a f
  text_passes raw pass parsed most r p a (in_tree other passes parses f) = most r p a (on_this raw other parsed parses r p a f)
