-- What is spelled from a position on is one, where nothing goes on with it.
use Rattle.std.proofs.Common.{◌≡◌, ℕ, ◌+◌, Bool, true, false, List, [], ◌∷◌, ◌++◌, refl, ap, sym, ◌∙◌, subst}
use Rattle.std.specs.Prelude.{Option, Some, None}
use Rattle.bl_tree.proofs.Basics.{true_not_false}
use Rattle.bl_tree.specs.declared.token.Token.{Token}
use Rattle.bl_tree.specs.declared.token.TokenKind.{TokenKind}
use Rattle.bl_parse_syntax.specs.declared.grammar.Class.{Class}
use Rattle.bl_parse_syntax.specs.Grammar.{class_of, same_class}
use Rattle.bl_parse_syntax.specs.Tables.{has}
use Rattle.bl_parse_syntax.proofs.Checks.{are_apart, are_within}
use Rattle.bl_parse_syntax.proofs.Right.{all_has, apart}
use Rattle.bl_parse_tree.specs.declared.name.Name.{Name}
use Rattle.bl_parse.specs.At.{kind_at, Takes, SpellsName}
use Rattle.bl_parse.specs.inner.Reading.{next_among, NoneNext}
use Rattle.bl_parse.proofs.ReadLemmas.{same_some}
use Rattle.bl_parse_syntax.proofs.Predictive.{same_self}

-- a token of one of the classes stands next
pub record Begun (classes : List Class) (tokens : List Token) (k : ℕ) : Type 0 where
  pub on : next_among classes (kind_at tokens k) ≡ true

there : {tokens : List Token} {kind : TokenKind} {k j m : ℕ} → k ≡ j → Takes tokens kind j m → kind_at tokens k ≡ Some kind
there {tokens} e t = ap (kind_at tokens) e ∙ t.stands

-- a position has one token
pub same_kind : {tokens : List Token} {a b : TokenKind} {k j m n : ℕ} → Takes tokens a k m → k ≡ j → Takes tokens b j n → a ≡ b
same_kind t e u = same_some (sym t.stands ∙ there e u)

pub clash : {P : Type 0} {tokens : List Token} {a b : TokenKind} {k j m n : ℕ} → Takes tokens a k m → k ≡ j → Takes tokens b j n →
    same_class (class_of a) (class_of b) ≡ false → P
clash {a = a} t e u differ = absurd (true_not_false (sym (same_self (class_of a))
    ∙ (ap (λ kind. same_class (class_of a) (class_of kind)) (same_kind t e u) ∙ differ)))

pub next_same : {tokens : List Token} {kind other : TokenKind} {a b c d : ℕ} → a ≡ c → Takes tokens kind a b → Takes tokens other c d → b ≡ d
next_same e t u = t.next ∙ (ap (λ n. n + 1) e ∙ sym u.next)

-- what doesn't stand next
pub among_none : {P : Type 0} {tokens : List Token} {k : ℕ} {classes : List Class} → Begun classes tokens k → NoneNext classes tokens k → P
among_none h none = absurd (true_not_false (sym h.on ∙ none.off))

pub token_none : {P : Type 0} {tokens : List Token} {kind : TokenKind} {k j m : ℕ} {classes : List Class} → Takes tokens kind j m →
    k ≡ j → has classes (class_of kind) ≡ true → NoneNext classes tokens k → P
token_none {classes = classes} t e on none = absurd (true_not_false (sym on ∙ (ap (next_among classes) (sym (there e t)) ∙ none.off)))

pub stops : {tokens : List Token} {kind : TokenKind} {k m : ℕ} {classes : List Class} → Takes tokens kind k m →
    has classes (class_of kind) ≡ false → NoneNext classes tokens k
stops {classes = classes} t off = record { off = ap (next_among classes) t.stands ∙ off }

pub fewer : {tokens : List Token} {k : ℕ} (small big : List Class) → are_within small big ≡ true → NoneNext big tokens k → NoneNext small tokens k
fewer {tokens} {k} small big within none = record { off = by_kind (kind_at tokens k) none.off }
  where
    by_kind : (o : Option TokenKind) → next_among big o ≡ false → next_among small o ≡ false
    by_kind None off = refl
    by_kind (Some kind) off = by_test (has small (class_of kind)) refl
      where
        by_test : (b : Bool) → has small (class_of kind) ≡ b → b ≡ false
        by_test true e = sym (all_has (has big) small (class_of kind) within e) ∙ off
        by_test false e = refl

pub begun_stops : {tokens : List Token} {k : ℕ} (begins stop : List Class) → are_apart begins stop ≡ true → Begun begins tokens k →
    NoneNext stop tokens k
begun_stops {tokens} {k} begins stop off h = record { off = by_kind (kind_at tokens k) h.on }
  where
    by_kind : (o : Option TokenKind) → next_among begins o ≡ true → next_among stop o ≡ false
    by_kind None on = refl
    by_kind (Some kind) on = apart begins stop (class_of kind) off on

pub begun_within : {tokens : List Token} {k : ℕ} (begins all : List Class) → are_within begins all ≡ true → Begun begins tokens k → Begun all tokens k
begun_within {tokens} {k} begins all within h = record { on = by_kind (kind_at tokens k) h.on }
  where
    by_kind : (o : Option TokenKind) → next_among begins o ≡ true → next_among all o ≡ true
    by_kind None on = on
    by_kind (Some kind) on = all_has (has all) begins (class_of kind) within on

pub anywhere : {tokens : List Token} {k : ℕ} → NoneNext [] tokens k
anywhere {tokens} {k} = record { off = by_kind (kind_at tokens k) }
  where
    by_kind : (o : Option TokenKind) → next_among [] o ≡ false
    by_kind None = refl
    by_kind (Some kind) = refl

-- ---- one thing

-- whatever is spelled from the position on is this, and ends here, if neither is followed by one of the classes
pub record One {A : Type 0} (Q : A → ℕ → ℕ → Type 0) (off : List Class) (tokens : List Token) (x : A) (from to : ℕ) : Type 0 where
  pub only : (y : A) (end : ℕ) → Q y from end → NoneNext off tokens to → NoneNext off tokens end → (x ≡ y) × (to ≡ end)

pub meets : {A : Type 0} {Q : A → ℕ → ℕ → Type 0} {off : List Class} {tokens : List Token} {x y : A} {a b c d : ℕ} →
    One Q off tokens x a b → a ≡ c → Q y c d
    → NoneNext off tokens b → NoneNext off tokens d → (x ≡ y) × (b ≡ d)
meets {Q = Q} {y = y} {d = d} one e q s r = one.only y d (subst (λ k. Q y k d) (sym e) q) s r

-- the same of what ends by itself
pub meets_free : {A : Type 0} {Q : A → ℕ → ℕ → Type 0} {tokens : List Token} {x y : A} {a b c d : ℕ} → One Q [] tokens x a b →
    a ≡ c → Q y c d → (x ≡ y) × (b ≡ d)
meets_free one e q = meets one e q anywhere anywhere

pub one_name : {text : List ℕ} {tokens : List Token} {n : Name} {from to : ℕ} → SpellsName text tokens n from to →
    One (SpellsName text tokens) [] tokens n from to
one_name n = record { only = λ m end h s r. (n.is ∙ sym h.is, n.token.next ∙ sym h.token.next) }

-- ---- rows

-- one after the other, as many as there are
pub data Row {A : Type 0} (P : A → ℕ → ℕ → Type 0) : List A → ℕ → ℕ → Type 0 where
  over : {xs : List A} {from to : ℕ} → xs ≡ [] → to ≡ from → Row P xs from to
  more : {all xs : List A} {x : A} {from m to : ℕ} → P x from m → Row P xs m to → all ≡ x ∷ xs → Row P all from to

pub add_row : {A : Type 0} {P : A → ℕ → ℕ → Type 0} {all xs : List A} {x : A} {from m to : ℕ} → Row P xs from m → P x m to →
    all ≡ xs ++ x ∷ [] → Row P all from to
add_row {P = P} {x = x} {to = to} (Row.over none is) p e = Row.more (subst (λ k. P x k to) is p) (Row.over refl refl) (e ∙ ap (λ xs. xs ++ x ∷ []) none)
add_row {x = x} (Row.more h rest is) p e = Row.more h (add_row rest p refl) (e ∙ ap (λ xs. xs ++ x ∷ []) is)

-- an element that begins with one of the classes
pub record Elem {A : Type 0} (Q : A → ℕ → ℕ → Type 0) (on off : List Class) (tokens : List Token) (x : A) (from to : ℕ) : Type 0 where
  pub begins : Begun on tokens from
  pub one : One Q off tokens x from to

-- every element begins with one of the classes
abbrev pub Begin : {A : Type 0} → (A → ℕ → ℕ → Type 0) → List Class → List Token → Type 0
Begin {A} Q on tokens = (y : A) (a b : ℕ) → Q y a b → Begun on tokens a

module _ {A : Type 0} (Q : A → ℕ → ℕ → Type 0) (on off all : List Class) (tokens : List Token) (each : Begin Q on tokens)
    (on_off : are_apart on off ≡ true) (off_all : are_within off all ≡ true) (on_all : are_within on all ≡ true) where
  -- what follows an element, where a row follows it
  pub follows : {xs : List A} {m to : ℕ} → Row (Elem Q on off tokens) xs m to → NoneNext all tokens to → NoneNext off tokens m
  follows (Row.over none is) s = fewer off all off_all (subst (λ k. NoneNext all tokens k) is s)
  follows (Row.more h rest e) s = begun_stops on off on_off h.begins

  pub follows_plain : {xs : List A} {m to : ℕ} → Row Q xs m to → NoneNext all tokens to → NoneNext off tokens m
  follows_plain (Row.over none is) s = fewer off all off_all (subst (λ k. NoneNext all tokens k) is s)
  follows_plain (Row.more h rest e) s = begun_stops on off on_off (each _ _ _ h)

  cons_same : {x y : A} {xs ys all others : List A} → x ≡ y → xs ≡ ys → all ≡ x ∷ xs → others ≡ y ∷ ys → all ≡ others
  cons_same e f g h = cc

  pub rows_same : {xs : List A} {from to : ℕ} → Row (Elem Q on off tokens) xs from to → (ys : List A) (start end : ℕ) →
      from ≡ start → Row Q ys start end
      → NoneNext all tokens to → NoneNext all tokens end → (xs ≡ ys) × (to ≡ end)
  rows_same (Row.over none is) ys start end e (Row.over no_ys at) s r = (none ∙ sym no_ys, is ∙ (e ∙ sym at))
  rows_same (Row.over none is) ys start end e (Row.more h rest f) s r =
      among_none (begun_within on all on_all (each _ _ _ h)) (subst (λ k. NoneNext all tokens k) (is ∙ e) s)
  rows_same (Row.more h rest f) ys start end e (Row.over no_ys at) s r =
      among_none (begun_within on all on_all h.begins) (subst (λ k. NoneNext all tokens k) (at ∙ sym e) r)
  rows_same (Row.more h rest f) ys start end e (Row.more g others i) s r =
      let m = meets h.one e g (follows rest s) (follows_plain others r) in
      let t = rows_same rest _ _ end m.1 others s r in
      (cons_same m.0 t.0 f i, t.1)

pub begun : {tokens : List Token} {kind : TokenKind} {k m : ℕ} → Takes tokens kind k m → Begun (class_of kind ∷ []) tokens k
begun {kind = kind} t = record { on = ap (next_among (class_of kind ∷ [])) t.stands ∙ rw (same_self (class_of kind)) refl }

-- a first element, and a row behind it
pub record Lined {A : Type 0} (P L : A → ℕ → ℕ → Type 0) (all : List A) (from to : ℕ) : Type 0 where
  pub x : A
  pub xs : List A
  pub m : ℕ
  pub head : P x from m
  pub rest : Row L xs m to
  pub is : all ≡ x ∷ xs

pub line_one : {A : Type 0} {P L : A → ℕ → ℕ → Type 0} {all : List A} {x : A} {from to : ℕ} → P x from to → all ≡ x ∷ [] →
    Lined P L all from to
line_one p e = record { x = _; xs = []; m = _; head = p; rest = Row.over refl refl; is = e }

pub line_more : {A : Type 0} {P L : A → ℕ → ℕ → Type 0} {all xs : List A} {x : A} {from m to : ℕ} → Lined P L xs from m → L x m to →
    all ≡ xs ++ x ∷ [] → Lined P L all from to
line_more {x = x} l p e = record {
  x = l.x;
  xs = l.xs ++ x ∷ [];
  m = l.m;
  head = l.head;
  rest = add_row l.rest p refl;
  is =
      e ∙ ap (λ xs. xs ++ x ∷ []) l.is;
}

pub lines_same : {A : Type 0} (F Q : A → ℕ → ℕ → Type 0) (on off all : List Class) (tokens : List Token) → Begin Q on tokens →
    are_apart on off ≡ true → are_within off all ≡ true → are_within on all ≡ true
    → {xs ys : List A} {from start to end : ℕ} → Lined (One F off tokens) (Elem Q on off tokens) xs from to → from ≡ start →
    Lined F Q ys start end → NoneNext all tokens to → NoneNext all tokens end → (xs ≡ ys) × (to ≡ end)
lines_same F Q on off all tokens each a b c {end = end} l e k s r =
    let m = meets l.head e k.head (follows Q on off all tokens each a b c l.rest s) (follows_plain Q on off all tokens each a b c k.rest r) in
    let t = rows_same Q on off all tokens each a b c l.rest _ _ end m.1 k.rest s r in
    (both m.0 t.0 l.is k.is, t.1)
  where
    both : {A : Type 0} {x y : A} {xs ys all others : List A} → x ≡ y → xs ≡ ys → all ≡ x ∷ xs → others ≡ y ∷ ys → all ≡ others
    both e f g h = cc

-- an element behind a sign or word
pub record Linked {A : Type 0} (sep : TokenKind) (tokens : List Token) (Q : A → ℕ → ℕ → Type 0) (x : A) (from to : ℕ) : Type 0 where
  pub m : ℕ
  pub by : Takes tokens sep from m
  pub elem : Q x m to

pub linked : {A : Type 0} {sep : TokenKind} {Q : A → ℕ → ℕ → Type 0} {off : List Class} {tokens : List Token} {x : A} {from m to : ℕ}
    → Takes tokens sep from m → One Q off tokens x m to → Elem (Linked sep tokens Q) (class_of sep ∷ []) off tokens x from to
linked {sep = sep} {tokens = tokens} t one = record {
  begins = begun t;
  one = record { only = λ y end q s r. meets one (next_same refl t q.by) q.elem s r };
}

pub linked_begin : {A : Type 0} (sep : TokenKind) (tokens : List Token) (Q : A → ℕ → ℕ → Type 0) →
    Begin (Linked sep tokens Q) (class_of sep ∷ []) tokens
linked_begin sep tokens Q y a b q = begun q.by
