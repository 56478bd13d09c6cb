-- How a reader knows what stands next.
use Rattle.std.proofs.Common.{◌≡◌, ℕ, zero, suc, ◌+◌, ◌<◌, ◌≤◌, Bool, true, false, cond, ◌||◌, List, [], ◌∷◌, ◌++◌, drop, length, refl, ap, sym, ◌∙◌, subst}
use Rattle.std.proofs.Common.{arith}
use Rattle.std.specs.Prelude.{Option, Some, None, slice_get, option_map}
use Rattle.std.proofs.lemmas.Bool.{eq-eqb}
use Rattle.std.proofs.lemmas.Option.{slice_get_within}
use Rattle.bl_tree.proofs.Basics.{plus_one, true_not_false}
use Rattle.bl_tree.proofs.KeywordLemmas.{same_word_self}
use Rattle.bl_tree.specs.declared.token.Keyword.{Keyword as AnyKeyword}
use Rattle.bl_tree.specs.declared.token.Token.{Token}
use Rattle.bl_tree.specs.declared.token.TokenKind.{TokenKind}
use Rattle.bl_tree.specs.declared.token.TokenKind.TheVariants.{Name, Number, Word, Sign}
use Rattle.bl_grammar.specs.declared.symbol.Symbol.TheVariants.{Terminal}
use Rattle.bl_parse_syntax.specs.declared.grammar.Class.{Class}
use Rattle.bl_parse_syntax.specs.declared.grammar.Class.TheVariants.{AnyName, AnyNumber, Keyword, Mark}
use Rattle.bl_parse_syntax.specs.declared.grammar.TokenView.{TokenView}
use Rattle.bl_parse_syntax.specs.declared.grammar.Part.{Part}
use Rattle.bl_parse_syntax.specs.declared.grammar.Part.TheVariants.{Program, Item}
use Rattle.bl_parse_syntax.specs.Grammar.{Piece, the, name, word, sign, class_of, view_of, views_after, views, same_class, productions}
use Rattle.bl_parse_syntax.specs.Tables.{has, firsts, starts_within, starts, absent, has_empty, choices_of, choices, chosen, permits, or_absent, pick}
use Rattle.bl_parse_syntax.specs.Expects.{Expects, SourceContinuesWith}
use Rattle.bl_parse_syntax.proofs.Right.{same_is, unpicked}
use Rattle.bl_parse_syntax.proofs.Expecting.{expects_production, expects_absent, expects_token, expects_nothing}
use Rattle.bl_parse.specs.At.{kind_at}
use Rattle.bl_parse.specs.inner.Reading.{left, next_among, Here, NotNext, NoneNext, Awaits, Turns}

-- ---- positions

drop_next : {A : Type 0} (k : ℕ) (xs : List A) {y : A} {ys : List A} → drop k xs ≡ y ∷ ys → drop (suc k) xs ≡ ys
drop_next zero [] e = cc
drop_next zero (x ∷ xs) e = cc
drop_next (suc k) [] e = cc
drop_next (suc k) (x ∷ xs) e = drop_next k xs e

-- what a position has, in the tokens and in what the grammar sees of them
pub record Stands (found : Option Token) (views : List TokenView) : Type 0 where
  pub some : (token : Token) → found ≡ Some token → (view : TokenView) × (after : List TokenView) × (views ≡ view ∷ after)
      × (view.class ≡ class_of token.kind)
  pub none : found ≡ None → views ≡ []

stands_after : (before : Option ℕ) (tokens : List Token) (k : ℕ) → Stands (slice_get tokens k) (drop k (views_after before tokens))
stands_after before [] k = record { some = λ token e. cc; none = λ e. nothing k }
  where
    nothing : (k : ℕ) → drop k (views_after before []) ≡ []
    nothing zero = refl
    nothing (suc k) = refl
stands_after before (x ∷ xs) zero = record { some = λ token e. (view_of before x, views_after (Some x.line) xs, refl, by_token token e); none = λ e. cc }
  where
    by_token : (token : Token) → Some x ≡ Some token → class_of x.kind ≡ class_of token.kind
    by_token token e = cc
stands_after before (x ∷ xs) (suc k) = stands_after (Some x.line) xs k

-- ---- productions

-- the first of the productions that the class decides on
abbrev pub chosen_in : List (List Piece) → Class → Option (List Piece)
chosen_in [] c = None
chosen_in ([] ∷ others) c = chosen_in others c
chosen_in ((x ∷ q) ∷ others) c = cond (has (firsts (starts_within 20) (x ∷ q)) c) (Some (x ∷ q)) (chosen_in others c)

-- the production that a token of the class decides on
abbrev pub picks : Part → Class → Option (List Piece)
picks part c = or_absent (has_empty (productions part)) (chosen_in (productions part) c)

pub chosen_is : (ps : List (List Piece)) (c : Class) → chosen (choices_of ps) c ≡ chosen_in ps c
unfolding starts
chosen_is [] c = refl
chosen_is ([] ∷ ps) c = chosen_is ps c
chosen_is ((x ∷ q) ∷ ps) c = ap (cond (has (firsts (starts_within 20) (x ∷ q)) c) (Some (x ∷ q))) (chosen_is ps c)

pub pick_is : (part : Part) (view : TokenView) → permits part view ≡ true → pick part view ≡ picks part view.class
unfolding pick absent choices
pick_is part view may = rw (may, chosen_is (productions part) view.class) refl

pub same_some : {A : Type 0} {a b : A} → Some a ≡ Some b → a ≡ b
same_some e = cc

no_some : {A : Type 0} {a : A} → None ≡ Some a → ⊥
no_some e = cc

-- what is picked for a token that may stand there
abbrev picks_at : Part → Option TokenKind → Option (List Piece)
picks_at part None = None
picks_at part (Some kind) = picks part (class_of kind)

pub class_word : (kind : TokenKind) (w : AnyKeyword) → Keyword w ≡ class_of kind → kind ≡ Word w
class_word Name w e = cc
class_word (Number n) w e = cc
class_word (Word v) w e = cc
class_word (Sign v) w e = cc

pub class_sign : (kind : TokenKind) (w : ℕ) → Mark w ≡ class_of kind → kind ≡ Sign w
class_sign Name w e = cc
class_sign (Number n) w e = cc
class_sign (Word v) w e = cc
class_sign (Sign v) w e = cc

class_name : (kind : TokenKind) → AnyName ≡ class_of kind → kind ≡ Name
class_name Name e = refl
class_name (Number n) e = cc
class_name (Word v) e = cc
class_name (Sign v) e = cc

no_views : {v : TokenView} {vs : List TokenView} → [] ≡ v ∷ vs → ⊥
no_views e = cc

class_same : {v w : TokenView} {vs ws : List TokenView} → v ∷ vs ≡ w ∷ ws → v.class ≡ w.class
class_same e = cc

own_class : (c : Class) → has (c ∷ []) c ≡ true
own_class AnyName = refl
own_class AnyNumber = refl
own_class (Keyword k) = rw (same_word_self k) refl
own_class (Mark k) = rw (eq-eqb k k refl) refl

append_assoc : {A : Type 0} (xs ys zs : List A) → (xs ++ ys) ++ zs ≡ xs ++ (ys ++ zs)
append_assoc [] ys zs = refl
append_assoc (x ∷ xs) ys zs = ap (λ l. x ∷ l) (append_assoc xs ys zs)

not_same : (b : Bool) → (b ≡ true → ⊥) → b || false ≡ false
not_same true none = absurd (none refl)
not_same false none = refl

unpicked_here : (part : Part) (view : TokenView) → has_empty (productions part) ≡ true → has (starts_within 20 part) view.class ≡ false →
    pick part view ≡ Some []
unfolding absent starts
unpicked_here part view may off = unpicked part view may off

none_within : (tokens : List Token) (k : ℕ) → k < length tokens → slice_get tokens k ≡ None → ⊥
none_within [] k h e = absurd (omega (arith, h))
none_within (x ∷ xs) zero h e = cc
none_within (x ∷ xs) (suc k) h e = none_within xs k (omega (arith, h)) e

kind_inside : (tokens : List Token) (k : ℕ) → k < length tokens → kind_at tokens k ≡ None → ⊥
kind_inside tokens k inside none = by_token (slice_get tokens k) refl none
  where
    by_token : (o : Option Token) → slice_get tokens k ≡ o → option_map (λ token. token.kind) o ≡ None → ⊥
    by_token None at e = none_within tokens k inside at
    by_token (Some one) at e = cc

some_left : (tokens : List Token) (k : ℕ) → k < length tokens → left tokens k ≡ [] → ⊥
some_left tokens k inside nothing = by_token (slice_get tokens k) refl
  where
    by_token : (o : Option Token) → slice_get tokens k ≡ o → ⊥
    by_token None at = none_within tokens k inside at
    by_token (Some one) at = let s = (stands_after None tokens k).some one at in no_views (sym nothing ∙ s.2)

-- behind a token the text goes on or ends
token_within : (tokens : List Token) (k : ℕ) {to : ℕ} {kind : TokenKind} → to ≡ k + 1 → kind_at tokens k ≡ Some kind → to ≤ length tokens
token_within tokens k {to} {kind} next is = by_token (slice_get tokens k) refl is
  where
    by_token : (o : Option Token) → slice_get tokens k ≡ o → option_map (λ token. token.kind) o ≡ Some kind → to ≤ length tokens
    by_token None at e = absurd (no_some e)
    by_token (Some one) at e = let h = slice_get_within tokens k one at in omega (arith, h, next)

module _ (tokens : List Token) (k : ℕ) where
  -- what the grammar sees at a position
  pub stands_at : Stands (slice_get tokens k) (left tokens k)
  stands_at = stands_after None tokens k

  -- with an expectation of a part, either the text ends, and it is absent, or the next token decides on a production
  decided : {part : Part} {rest : List Piece} → Expects (the part ∷ rest) (left tokens k) → ((view : TokenView) → permits part view ≡ true)
      → (goal : Type 0)
      → (kind_at tokens k ≡ None → has_empty (productions part) ≡ true → Expects rest (left tokens k) → goal)
      → ((kind : TokenKind) (p : List Piece) → kind_at tokens k ≡ Some kind → picks part (class_of kind) ≡ Some p →
      Expects (p ++ rest) (left tokens k) → goal)
      → goal
  unfolding absent
  decided {part} {rest} e may goal at_end at_token = by_token (slice_get tokens k) refl
    where
      by_token : (found : Option Token) → slice_get tokens k ≡ found → goal
      by_token None is =
          let nothing = stands_at.none is in
          let h = expects_absent part rest (subst (Expects (the part ∷ rest)) nothing e) in
          at_end (ap (option_map (λ token. token.kind)) is) h.0 (subst (Expects rest) (sym nothing) h.1)
      by_token (Some token) is =
          let s = stands_at.some token is in
          let h = expects_production part rest s.0 s.1 (subst (Expects (the part ∷ rest)) s.2 e) in
          at_token token.kind h.0 (ap (option_map (λ token. token.kind)) is)
          (ap (picks part) (sym s.3) ∙ (sym (pick_is part s.0 (may s.0)) ∙ h.1))
          (subst (Expects (h.0 ++ rest)) (sym s.2) h.2)

  -- of a part whose production the next token decides on, that is expected
  opens : {part : Part} {p rest : List Piece} {kind : TokenKind} → ((view : TokenView) → permits part view ≡ true) → kind_at tokens k ≡ Some kind
      → picks part (class_of kind) ≡ Some p → Expects (the part ∷ rest) (left tokens k) → Expects (p ++ rest) (left tokens k)
  opens {part} {p} {rest} {kind} may is picked e = decided e may (Expects (p ++ rest) (left tokens k)) (λ none. cc)
      (λ other q at on expects. subst (λ r. Expects (r ++ rest) (left tokens k)) (same_production other q at on) expects)
    where
      same_production : (other : TokenKind) (q : List Piece) → kind_at tokens k ≡ Some other → picks part (class_of other) ≡ Some q → q ≡ p
      same_production other q at on = same_some (sym on ∙ (ap (λ o. picks_at part o) (sym at ∙ is) ∙ picked))

  -- the same where one production is left
  opens_last : {part : Part} (p : List Piece) {rest : List Piece} {kind : TokenKind} (b : Bool) →
      ((view : TokenView) → permits part view ≡ true) → kind_at tokens k ≡ Some kind
      → picks part (class_of kind) ≡ or_absent false (cond b (Some p) None) → Expects (the part ∷ rest) (left tokens k) →
      Expects (p ++ rest) (left tokens k)
  opens_last {part} p {rest} {kind} b may is picked e = by_rest b picked
    where
      by_rest : (b : Bool) → picks part (class_of kind) ≡ or_absent false (cond b (Some p) None) → Expects (p ++ rest) (left tokens k)
      by_rest true picked = opens may is picked e
      by_rest false picked = decided e may (Expects (p ++ rest) (left tokens k)) (λ none. cc)
          (λ other q at on expects. absurd (no_some (sym picked ∙ (ap (λ o. picks_at part o) (sym is ∙ at) ∙ on))))

  -- a part is absent where the next token begins nothing of it
  omits : {part : Part} {rest : List Piece} → has_empty (productions part) ≡ true → next_among (starts_within 20 part) (kind_at tokens k) ≡ false
      → Expects (the part ∷ rest) (left tokens k) → Expects rest (left tokens k)
  omits {part} {rest} may_end off e = by_token (slice_get tokens k) refl
    where
      among : (o : Option Token) → slice_get tokens k ≡ o → next_among (starts_within 20 part) (option_map (λ token. token.kind) o) ≡ false
      among o is = subst (λ o. next_among (starts_within 20 part) (option_map (λ token. token.kind) o) ≡ false) is off

      by_token : (found : Option Token) → slice_get tokens k ≡ found → Expects rest (left tokens k)
      by_token None is = let nothing = stands_at.none is in
          subst (Expects rest) (sym nothing) (expects_absent part rest (subst (Expects (the part ∷ rest)) nothing e)).1
      by_token (Some token) is =
          let s = stands_at.some token is in
          let h = expects_production part rest s.0 s.1 (subst (Expects (the part ∷ rest)) s.2 e) in
          subst (λ r. Expects (r ++ rest) (left tokens k)) (same_some
          (sym h.1 ∙ unpicked_here part s.0 may_end (subst (λ c. has (starts_within 20 part) c ≡ false) (sym s.3) (among (Some token) is))))
          (subst (Expects (h.0 ++ rest)) (sym s.2) h.2)

  -- the kind of the next token
  kind_next : {class : Class} {rest : List Piece} → Expects (Terminal class ∷ rest) (left tokens k) →
      (kind : TokenKind) × (kind_at tokens k ≡ Some kind) × (class ≡ class_of kind)
  kind_next {class} {rest} e = by_token (slice_get tokens k) refl
    where
      next : SourceContinuesWith class rest (left tokens k)
      next = expects_token class rest (left tokens k) e

      by_token : (found : Option Token) → slice_get tokens k ≡ found → (kind : TokenKind) × (kind_at tokens k ≡ Some kind) × (class ≡ class_of kind)
      by_token None is = absurd (no_views (sym (stands_at.none is) ∙ next.stands))
      by_token (Some token) is = let s = stands_at.some token is in
          (token.kind, ap (option_map (λ token. token.kind)) is, same_is class next.next.class next.is ∙ (class_same (sym next.stands ∙ s.2) ∙ s.3))

module _ {tokens : List Token} {k : ℕ} where
  pub no_word : {w : AnyKeyword} → NotNext tokens k (Word w) → NoneNext (Keyword w ∷ []) tokens k
  no_word {w} none = record { off = by_kind (kind_at tokens k) refl }
    where
      by_kind : (o : Option TokenKind) → kind_at tokens k ≡ o → next_among (Keyword w ∷ []) o ≡ false
      by_kind None is = refl
      by_kind (Some kind) is = not_same (same_class (Keyword w) (class_of kind)) (λ same. none.not (is ∙ ap Some (class_word kind w (same_is _ _ same))))

  pub no_sign : {w : ℕ} → NotNext tokens k (Sign w) → NoneNext (Mark w ∷ []) tokens k
  no_sign {w} none = record { off = by_kind (kind_at tokens k) refl }
    where
      by_kind : (o : Option TokenKind) → kind_at tokens k ≡ o → next_among (Mark w ∷ []) o ≡ false
      by_kind None is = refl
      by_kind (Some kind) is = not_same (same_class (Mark w) (class_of kind)) (λ same. none.not (is ∙ ap Some (class_sign kind w (same_is _ _ same))))

  -- ---- what stands next

  pub next_word : {w : AnyKeyword} {b : List Piece} → Awaits (word w ∷ b) tokens k → kind_at tokens k ≡ Some (Word w)
  next_word {w} a = let h = kind_next tokens k a.here.expects in h.1 ∙ ap Some (class_word h.0 w h.2)

  pub next_sign : {w : ℕ} {b : List Piece} → Awaits (sign w ∷ b) tokens k → kind_at tokens k ≡ Some (Sign w)
  next_sign {w} a = let h = kind_next tokens k a.here.expects in h.1 ∙ ap Some (class_sign h.0 w h.2)

  pub next_name : {b : List Piece} → Awaits (name ∷ b) tokens k → kind_at tokens k ≡ Some Name
  next_name a = let h = kind_next tokens k a.here.expects in h.1 ∙ ap Some (class_name h.0 h.2)

  -- ---- steps of a reader

  -- the first of what is awaited
  pub first : {x : Piece} {b : List Piece} → Awaits (x ∷ b) tokens k → Awaits (x ∷ []) tokens k
  first {b = b} a = record { rest = b ++ a.rest; here = a.here }

  -- the first two
  pub first_two : {x y : Piece} {b : List Piece} → Awaits (x ∷ y ∷ b) tokens k → Awaits (x ∷ y ∷ []) tokens k
  first_two {b = b} a = record { rest = b ++ a.rest; here = a.here }

  -- the beginning of what is awaited
  pub front : (a b : List Piece) → Awaits (a ++ b) tokens k → Awaits a tokens k
  front a b is = record { rest = b ++ is.rest; here = subst (λ s. Here s tokens k) (append_assoc a b is.rest) is.here }

  -- what is awaited after a step
  pub after : {to : ℕ} {a b : List Piece} → Awaits a tokens k → Turns a tokens k b to → Awaits b tokens to
  after is f = record { rest = is.rest; here = f.goes is.rest is.here }

  -- two steps in turn
  pub then : {m to : ℕ} {a b c : List Piece} → Turns a tokens k b m → Turns b tokens m c to → Turns a tokens k c to
  then f g = record { goes = λ rest e. g.goes rest (f.goes rest e) }

  -- a step beside what is expected after it
  pub beside : {to : ℕ} {a b : List Piece} (c : List Piece) → Turns a tokens k b to → Turns (a ++ c) tokens k (b ++ c) to
  beside {to} {a} {b} c f = record {
    goes = λ rest e. subst (λ s. Here s tokens to) (sym (append_assoc b c rest))
        (f.goes (c ++ rest) (subst (λ s. Here s tokens k) (append_assoc a c rest) e));
  }

  -- a part was read
  pub read : {to : ℕ} {x : Piece} {b : List Piece} → Turns (x ∷ []) tokens k [] to → Turns (x ∷ b) tokens k b to
  read {b = b} f = record { goes = λ rest e. f.goes (b ++ rest) e }

  pub read_two : {to : ℕ} {x y : Piece} {b : List Piece} → Turns (x ∷ y ∷ []) tokens k [] to → Turns (x ∷ y ∷ b) tokens k b to
  read_two {b = b} f = record { goes = λ rest e. f.goes (b ++ rest) e }

  pub read_all : {to : ℕ} {a b : List Piece} → Turns a tokens k [] to → Turns (a ++ b) tokens k b to
  read_all {to} {a} {b} f = record { goes = λ rest e. f.goes (b ++ rest) (subst (λ s. Here s tokens k) (append_assoc a b rest) e) }

  -- a token was passed
  pub pass : {class : Class} {b : List Piece} {to : ℕ} → to ≡ k + 1 → Turns (Terminal class ∷ b) tokens k b to
  pass {class} {b} {to} next = record {
    goes = λ rest e. let n = expects_token class (b ++ rest) (left tokens k) e.expects in
        record {
          within = token_within tokens k next (kind_next tokens k e.expects).1;
          expects = subst (Expects (b ++ rest)) (sym (ap (left tokens) (next ∙ plus_one k) ∙ drop_next k (views tokens) n.stands)) n.expects;
        };
  }

  -- nothing was read
  pub stay : {a : List Piece} → Turns a tokens k a k
  stay = record { goes = λ rest e. e }

  -- the production that the next token decides on is expected
  pub opened : {part : Part} {b : List Piece} (p : List Piece) {kind : TokenKind} → ((view : TokenView) → permits part view ≡ true) →
      kind_at tokens k ≡ Some kind
      → picks part (class_of kind) ≡ Some p → Turns (the part ∷ b) tokens k (p ++ b) k
  opened {b = b} p may is picked = record {
    goes = λ rest e.
        record { within = e.within; expects = subst (λ s. Expects s (left tokens k)) (sym (append_assoc p b rest)) (opens tokens k may is picked e.expects) };
  }

  -- the same where one production is left
  pub opened_last : {part : Part} {b : List Piece} (p : List Piece) (on : Bool) {kind : TokenKind} →
      ((view : TokenView) → permits part view ≡ true) → kind_at tokens k ≡ Some kind
      → picks part (class_of kind) ≡ or_absent false (cond on (Some p) None) → Turns (the part ∷ b) tokens k (p ++ b) k
  opened_last {b = b} p on may is picked = record {
    goes =
        λ rest e. record {
          within = e.within;
          expects = subst (λ s. Expects s (left tokens k)) (sym (append_assoc p b rest))
              (opens_last tokens k p on may is picked e.expects);
        };
  }

  -- one production is left, whatever the token
  pub opened_rest : {part : Part} {b : List Piece} (p : List Piece) → ((view : TokenView) → permits part view ≡ true) →
      has_empty (productions part) ≡ false
      → ((kind : TokenKind) → kind_at tokens k ≡ Some kind →
      (on : Bool) × (picks part (class_of kind) ≡ or_absent false (cond on (Some p) None))) → Turns (the part ∷ b) tokens k (p ++ b) k
  opened_rest {part} {b} p may never each = record {
    goes =
        λ rest e. record { within = e.within; expects = subst (λ s. Expects s (left tokens k)) (sym (append_assoc p b rest)) (opens_one rest e.expects) };
  }
    where
      opens_one : (rest : List Piece) → Expects (the part ∷ b ++ rest) (left tokens k) → Expects (p ++ (b ++ rest)) (left tokens k)
      opens_one rest e = decided tokens k e may (Expects (p ++ (b ++ rest)) (left tokens k))
          (λ none may_end expects. absurd (true_not_false (sym may_end ∙ never)))
          (λ kind q at on expects. opens_last tokens k p (each kind at).0 may at (each kind at).1 e)

  -- a part has one production
  pub opened_one : {part : Part} {b : List Piece} (p : List Piece) → ((view : TokenView) → permits part view ≡ true) → has_empty (productions part) ≡ false
      → ((c : Class) → (on : Bool) × (picks part c ≡ or_absent false (cond on (Some p) None))) → Turns (the part ∷ b) tokens k (p ++ b) k
  opened_one p may never each = opened_rest p may never (λ kind is. each (class_of kind))

  -- a part that isn't absent doesn't begin at the end
  pub never_ends : {part : Part} {b : List Piece} → ((view : TokenView) → permits part view ≡ true) →
      has_empty (productions part) ≡ false → Awaits (the part ∷ b) tokens k → kind_at tokens k ≡ None → ⊥
  never_ends may never a is = decided tokens k a.here.expects may ⊥ (λ none may_end expects. true_not_false (sym may_end ∙ never))
      (λ kind q at on expects. no_some (sym is ∙ at))

  -- nor at a token that decides on no production
  pub never : {part : Part} {b : List Piece} {kind : TokenKind} → ((view : TokenView) → permits part view ≡ true) →
      kind_at tokens k ≡ Some kind → picks part (class_of kind) ≡ None → Awaits (the part ∷ b) tokens k → ⊥
  never {part} may is picked a = decided tokens k a.here.expects may ⊥ (λ none may_end expects. no_some (sym none ∙ is))
      (λ kind q at on expects. no_some (sym picked ∙ (ap (λ o. picks_at part o) (sym is ∙ at) ∙ on)))

  -- nothing was read of a part that the next token doesn't begin
  pub omit : {part : Part} {b : List Piece} → has_empty (productions part) ≡ true → NoneNext (starts_within 20 part) tokens k
      → Turns (the part ∷ b) tokens k b k
  omit {b = b} may off = record { goes = λ rest e. record { within = e.within; expects = omits tokens k may off.off e.expects } }

  -- a part that may be absent isn't, where what follows it doesn't stand next
  pub filled : {part : Part} {class : Class} {b : List Piece} (p : List Piece) → ((view : TokenView) → permits part view ≡ true) →
      ((c : Class) → (on : Bool) × (picks part c ≡ or_absent true (cond on (Some p) None)))
      → NoneNext (class ∷ []) tokens k → Turns (the part ∷ Terminal class ∷ b) tokens k (p ++ Terminal class ∷ b) k
  filled {part} {class} {b} p may each off = record {
    goes =
        λ rest e. record {
          within = e.within;
          expects = subst (λ s. Expects s (left tokens k))
              (sym (append_assoc p (Terminal class ∷ b) rest)) (fills rest e.expects);
        };
  }
    where
      stuck : (rest : List Piece) → Expects (Terminal class ∷ b ++ rest) (left tokens k) → ⊥
      stuck rest e = let h = kind_next tokens k e in true_not_false
          (sym (subst (λ c. has (c ∷ []) (class_of h.0) ≡ true) (sym h.2) (own_class (class_of h.0)))
          ∙ subst (λ o. next_among (class ∷ []) o ≡ false) h.1 off.off)

      by_test : (rest : List Piece) (on : Bool) (q : List Piece) → or_absent true (cond on (Some p) None) ≡ Some q →
          Expects (q ++ (Terminal class ∷ b ++ rest)) (left tokens k) → Expects (p ++ (Terminal class ∷ b ++ rest)) (left tokens k)
      by_test rest true q is e = subst (λ s. Expects (s ++ (Terminal class ∷ b ++ rest)) (left tokens k)) (sym (same_some is)) e
      by_test rest false q is e = absurd (stuck rest (subst (λ s. Expects (s ++ (Terminal class ∷ b ++ rest)) (left tokens k)) (sym (same_some is)) e))

      fills : (rest : List Piece) → Expects (the part ∷ (Terminal class ∷ b ++ rest)) (left tokens k) →
          Expects (p ++ (Terminal class ∷ b ++ rest)) (left tokens k)
      fills rest e = decided tokens k e may (Expects (p ++ (Terminal class ∷ b ++ rest)) (left tokens k))
          (λ none may_end expects. absurd (stuck rest expects))
          (λ kind q at on expects. by_test rest (each (class_of kind)).0 q (sym (each (class_of kind)).1 ∙ on) expects)

  -- at a token, a program goes on with an item
  pub item_next : k < length tokens → Here (the Program ∷ []) tokens k → Here (the Item ∷ the Program ∷ []) tokens k
  item_next inside here = record {
    within = here.within;
    expects = decided tokens k here.expects (λ v. refl) (Expects (the Item ∷ the Program ∷ []) (left tokens k))
        (λ none may_end e. absurd (kind_inside tokens k inside none))
        (λ kind q at on e. by_test (has (starts_within 20 Item) (class_of kind)) q on e);
  }
    where
      by_test : (on : Bool) (q : List Piece) → or_absent true (cond on (Some (the Item ∷ the Program ∷ [])) None) ≡ Some q →
          Expects (q ++ []) (left tokens k) → Expects (the Item ∷ the Program ∷ []) (left tokens k)
      by_test true q e expects = subst (λ q. Expects (q ++ []) (left tokens k)) (sym (same_some e)) expects
      by_test false q e expects = absurd (some_left tokens k inside
          (expects_nothing (left tokens k) (subst (λ q. Expects (q ++ []) (left tokens k)) (sym (same_some e)) expects)))
