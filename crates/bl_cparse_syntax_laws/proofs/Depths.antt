-- The pieces of a text that derives are tokens, and no more brackets are open at once than there is room for.
use Rattle.std.proofs.Common.{◌≡◌, ℕ, suc, ◌+◌, ◌-◌, ◌^◌, ◌≤◌, ◌<◌, max, cond, Bool, true, false, not, ◌&&◌, nat_eq, nat_le, List, [], ◌∷◌, ◌++◌, map, refl}
use Rattle.std.proofs.Common.{sym, ap, ◌∙◌, subst, append_assoc, append-nil, arith, Option}
use Rattle.std.specs.Fmt.{decimal}
use Rattle.std.specs.List.{list_all}
use Rattle.std.proofs.lemmas.Bool.Decides.{nat_tests}
use Rattle.std.proofs.lemmas.Bool.{and_from, not-true}
use Rattle.bl_tree.proofs.Basics.{and_first, and_second, at_most_from as at_most, at_most_itself, not_of_false, same_number}
use Rattle.bl_tree.specs.Reduce.{all_of}
use Rattle.bl_ctext.specs.Token.{Token, is_token}
use Rattle.bl_ctext.specs.inner.Cut.{are_tokens}
use Rattle.bl_ctext.specs.Names.{is_turn_name}
use Rattle.bl_ctext.specs.Spellable.{is_opening, is_closing, most_open}
use Rattle.bl_ctext.proofs.Nesting.{is_bracket, Closes, closes-nil, closes-open, closes-close, closes-plain, closes-append, nests-most_open}
use Rattle.bl_ctext.proofs.PlainWords.{name-plain, turn_name-plain, decimal-plain}
use Rattle.bl_ctext.proofs.Words.{name-token, turn_name-token, decimal-token}
use Rattle.bl_grammar.specs.declared.symbol.Symbol.TheVariants.{Terminal, Nonterminal}
use Rattle.bl_grammar.specs.Derivations.Derives.{done, terminal, part}
use Rattle.bl_cparse_syntax.specs.declared.grammar.Group.{Group}
use Rattle.bl_cparse_syntax.specs.declared.grammar.Group.TheVariants.{ScalarTypes, PlainLiterals, Operators, IndexFunctions, StructWords, FunctionWords}
use Rattle.bl_cparse_syntax.specs.declared.grammar.Group.TheVariants.{PreludeFunctions}
use Rattle.bl_cparse_syntax.specs.declared.grammar.Digits.{Digits}
use Rattle.bl_cparse_syntax.specs.declared.grammar.Part.{Part}
use Rattle.bl_cparse_syntax.specs.declared.grammar.Part.TheVariants.{File, Structs, Struct, StructName, Members, Member, TypeName, Length, Funcs, Func}
use Rattle.bl_cparse_syntax.specs.declared.grammar.Part.TheVariants.{PlainFunc, FuncRest, FuncName, Params, ParamRest, Param, Star, Locals, Local, Stmts, Stmt}
use Rattle.bl_cparse_syntax.specs.declared.grammar.Part.TheVariants.{Else, Turns, AfterName, AssignTail, Value, AfterOpen, Result, Expr, Simple, Constant}
use Rattle.bl_cparse_syntax.specs.declared.grammar.Part.TheVariants.{Inside, Negative, NameUse, Steps, Index, Args, ArgRest, Arg, Place}
use Rattle.bl_cparse_syntax.specs.declared.grammar.Roomed.{Roomed}
use Rattle.bl_cparse_syntax.specs.declared.grammar.Within.{Within}
use Rattle.bl_cparse_syntax.specs.Classes.{Class, words_of, digits_bound, matches}
use Rattle.bl_cparse_syntax.specs.Classes.Class.{exactly, one_of, a_name, number, turn}
use Rattle.bl_cparse_syntax.specs.Grammar.{Shape, Wanted, Production, productions, wanted_for, IsAmong, Produces, CDerives, SpellText, whole_text}
use Rattle.bl_cparse_syntax.specs.Grammar.IsAmong.{here, later}
use Rattle.bl_cparse_syntax.proofs.ClassLemmas.{among_all}
use Rattle.bl_cparse_syntax_laws.proofs.Pieces.{word_is, name_is, number_is, bound_le, Spelled}
use Rattle.bl_cparse_syntax_laws.proofs.Pieces.{wide}
use Rattle.bl_ctext.proofs.Texts.{are_tokens-append}

-- ---- what is asked of the productions

-- how many brackets that stand open before a part are closed in it
abbrev inner : Part → ℕ
inner Inside = 1
inner AfterOpen = 1
inner Turns = 1
inner _ = 0

-- a constant or the name of a struct, which open so many brackets wherever they stand
abbrev is_constant : Part → Bool
is_constant Constant = true
is_constant Negative = true
is_constant StructName = true
is_constant _ = false

abbrev own_depth : Part → ℕ
own_depth StructName = 0
own_depth _ = 1

-- how many brackets may at least be opened where the part stands
abbrev least_room : Part → ℕ
least_room File = 3
least_room Structs = 3
least_room Struct = 3
least_room Members = 2
least_room Member = 2
least_room Length = 1
least_room Funcs = 3
least_room Func = 3
least_room PlainFunc = 3
least_room FuncRest = 3
least_room Locals = 1
least_room Local = 1
least_room Else = 1
least_room Turns = 3
least_room AfterOpen = 1
least_room Inside = 1
least_room _ = 0

abbrev is_last : List Shape → Bool
is_last [] = true
is_last (shape ∷ shapes) = false

-- The brackets of the shapes are closed, where so many of them are open and at least so many may be; each part has the room
-- that it needs at least, and no more than there is.
abbrev sound : ℕ → ℕ → List Shape → Bool
sound m opened [] = nat_eq opened 0
sound m opened (Terminal (exactly w) ∷ shapes) =
    is_token w && cond (is_opening w) (nat_le (suc opened) m && sound m (suc opened) shapes)
    (cond (is_closing w) (nat_le 1 opened && sound m (opened - 1) shapes) (sound m opened shapes))
sound m opened (Terminal _ ∷ shapes) = sound m opened shapes
sound m opened (Nonterminal within ∷ shapes) =
    nat_le (within.around + least_room within.part) m && cond (nat_eq (inner within.part) 0)
    (cond (is_constant within.part) (nat_le (opened + own_depth within.part) m)
    (nat_le opened within.around && nat_le within.around m) && sound m opened shapes)
    (nat_eq opened (inner within.part) && (nat_eq within.around 0 && (not (is_constant within.part) && is_last shapes)))

-- the room that a production has at least
abbrev room_of : Part → ℕ → ℕ
room_of of needs = cond (is_constant of) (own_depth of) (max needs (least_room of))

abbrev sound_in : Part → Production → Bool
sound_in of production = sound (room_of of production.needs) (inner of) production.shapes

all_sound : (part : Part) → all_of (map (sound_in part) (productions part)) ≡ true
all_sound File = refl
all_sound Structs = refl
all_sound Struct = refl
all_sound StructName = refl
all_sound Members = refl
all_sound Member = refl
all_sound TypeName = refl
all_sound Length = refl
all_sound Funcs = refl
all_sound Func = refl
all_sound PlainFunc = refl
all_sound FuncRest = refl
all_sound FuncName = refl
all_sound Params = refl
all_sound ParamRest = refl
all_sound Param = refl
all_sound Star = refl
all_sound Locals = refl
all_sound Local = refl
all_sound Stmts = refl
all_sound Stmt = refl
all_sound Else = refl
all_sound Turns = refl
all_sound AfterName = refl
all_sound AssignTail = refl
all_sound Value = refl
all_sound AfterOpen = refl
all_sound Result = refl
all_sound Expr = refl
all_sound Simple = refl
all_sound Constant = refl
all_sound Inside = refl
all_sound Negative = refl
all_sound NameUse = refl
all_sound Steps = refl
all_sound Index = refl
all_sound Args = refl
all_sound ArgRest = refl
all_sound Arg = refl
all_sound Place = refl

one_of_all : (test : Production → Bool) (p : Production) (ps : List Production) → IsAmong p ps → all_of (map test ps) ≡ true → test p ≡ true
one_of_all test p [] one h = elim one [ ]
one_of_all test p (q ∷ qs) here h = and_first _ _ h
one_of_all test p (q ∷ qs) (later one) h = one_of_all test p qs one (and_second _ _ h)

-- ---- pieces that are no brackets

abbrev plain : Token → Bool
plain t = is_token t && not (is_bracket t)

group_plain : (g : Group) → list_all plain (words_of g) ≡ true
group_plain ScalarTypes = refl
group_plain PlainLiterals = refl
group_plain Operators = refl
group_plain IndexFunctions = refl
group_plain StructWords = refl
group_plain FunctionWords = refl
group_plain PreludeFunctions = refl

one_plain : (g : Group) (t : Token) → matches (one_of g) t ≡ true → plain t ≡ true
unfolding matches
one_plain g t m = among_all plain (words_of g) t (group_plain g) m

by_both : (t : Token) → is_token t ≡ true → is_bracket t ≡ false → plain t ≡ true
by_both t h k = and_from (is_token t) (not (is_bracket t)) h (not_of_false (is_bracket t) k)

name_plain : (t : Token) → matches a_name t ≡ true → plain t ≡ true
name_plain t m = by_both t (name-token t (name_is t m)) (name-plain t (name_is t m))

number_plain : (of : Digits) (t : Token) → matches (number of) t ≡ true → plain t ≡ true
number_plain of t m = by_spelled (number_is of t m)
  where
    by_spelled : Spelled of t → plain t ≡ true
    by_spelled s = subst (λ t. plain t ≡ true) (sym s.is)
        (by_both (decimal s.n) (decimal-token s.n (wide s.n (digits_bound of) s.high (bound_le of)))
        (decimal-plain s.n (wide s.n (digits_bound of) s.high (bound_le of))))

turn_plain : (own t : Token) → is_turn_name own ≡ true → matches (exactly own) t ≡ true → plain t ≡ true
turn_plain own t h m = subst (λ t. plain t ≡ true) (word_is m) (by_both own (turn_name-token own h) (turn_name-plain own h))

-- ---- what is derived

-- the tokens close so many open brackets, open no more than there is room for, and are all tokens
pub record Kept (opened room : ℕ) (ts : List Token) : Type 0 where
  pub closes : Closes opened room ts
  pub tokens : are_tokens ts ≡ true

-- how many brackets a part may open at once
abbrev depth_in : Roomed → ℕ
depth_in whole = cond (is_constant whole.part) (own_depth whole.part) whole.room

-- the same of a part that has the room that it needs
abbrev Held : Roomed → List Token → Type 0
Held whole ts = least_room whole.part ≤ whole.room → Kept (inner whole.part) (depth_in whole) ts

-- the tokens that some symbols stand for, one after the other
abbrev Marks : List Wanted → List Token → Type 0
Marks [] ts = ts ≡ []
Marks (Terminal class ∷ wanted) ts = (t : Token) × ((b : List Token) × ((ts ≡ t ∷ b) × ((matches class t ≡ true) × Marks wanted b)))
Marks (Nonterminal whole ∷ wanted) ts = (a : List Token) × ((b : List Token) × ((ts ≡ a ++ b) × (Held whole a × Marks wanted b)))

kept_as : {opened room : ℕ} {ts us : List Token} → ts ≡ us → Kept opened room us → Kept opened room ts
kept_as {opened} {room} e k = subst (λ ts. Kept opened room ts) (sym e) k

keep_open : (opened room : ℕ) (t : Token) (b : List Token) → is_opening t ≡ true → is_token t ≡ true → opened ≤ room →
    Kept (suc opened) room b → Kept opened room (t ∷ b)
keep_open opened room t b h one le k = record {
  closes =
      closes-open opened room t b h le (subst (λ n. Closes n room b) (after opened) k.closes);
  tokens = and_from (is_token t) (are_tokens b) one k.tokens;
}
  where
    after : (n : ℕ) → suc n ≡ n + 1
    after n = omega arith

keep_close : (opened room : ℕ) (t : Token) (b : List Token) → is_opening t ≡ false → is_closing t ≡ true → is_token t ≡ true →
    1 ≤ opened → opened ≤ room → Kept (opened - 1) room b → Kept opened room (t ∷ b)
keep_close opened room t b h i one some le k =
    record {
      closes = subst (λ n. Closes n room (t ∷ b)) (back opened some) (closes-close (opened - 1) room t b h i (at_most opened room some le) k.closes);
      tokens = and_from (is_token t) (are_tokens b) one k.tokens;
    }
  where
    back : (n : ℕ) → 1 ≤ n → n - 1 + 1 ≡ n
    back n h = omega (arith, h)

    at_most : (n m : ℕ) → 1 ≤ n → n ≤ m → n - 1 + 1 ≤ m
    at_most n m h k = omega (arith, h, k)

keep_plain : (opened room : ℕ) (t : Token) (b : List Token) → plain t ≡ true → opened ≤ room → Kept opened room b → Kept opened room (t ∷ b)
keep_plain opened room t b h le k =
    record {
      closes = closes-plain opened room t b (not-true (is_bracket t) (and_second (is_token t) (not (is_bracket t)) h)) le k.closes;
      tokens = and_from (is_token t) (are_tokens b) (and_first (is_token t) (not (is_bracket t)) h) k.tokens;
    }

keep_part : (opened room e : ℕ) (a b : List Token) → Kept 0 e a → opened + e ≤ room → Kept opened room b → Kept opened room (a ++ b)
keep_part opened room e a b h le k = record { closes = closes-append opened room e a b h.closes le k.closes; tokens = are_tokens-append a b h.tokens k.tokens }

-- what the check says of a class
abbrev Checked : ℕ → ℕ → Class → List Shape → Type 0
Checked m opened class shapes = sound m opened (Terminal class ∷ shapes) ≡ true

bracket_of : (t : Token) → is_opening t ≡ false → is_closing t ≡ false → not (is_bracket t) ≡ true
bracket_of t h k = rw (h, k) refl

module _ (m room : ℕ) (le : m ≤ room) where
  -- what is known of the tokens of shapes that are checked
  abbrev Closed : ℕ → List Shape → List Token → Type 0
  Closed opened shapes b = sound m opened shapes ≡ true → opened ≤ m → Kept opened room b

  by_word : (w : Token) (opened : ℕ) (shapes : List Shape) (b : List Token) → ((n : ℕ) → Closed n shapes b) →
      Checked m opened (exactly w) shapes → opened ≤ m → Kept opened room (w ∷ b)
  by_word w opened shapes b rest h k = by_test (is_opening w) (is_closing w) refl refl
    where
      one : is_token w ≡ true
      one = and_first (is_token w) _ h

      by_test : (o c : Bool) → is_opening w ≡ o → is_closing w ≡ c → Kept opened room (w ∷ b)
      by_test true c e f =
          let now : (nat_le (suc opened) m && sound m (suc opened) shapes) ≡ true = rw e at (and_second (is_token w) _ h) in
          let more : suc opened ≤ m = at_most (suc opened) m (and_first (nat_le (suc opened) m) _ now) in
          keep_open opened room w b e one (omega (arith, k, le)) (rest (suc opened) (and_second (nat_le (suc opened) m) _ now) more)
      by_test false true e f =
          let now : (nat_le 1 opened && sound m (opened - 1) shapes) ≡ true = rw f at (rw e at (and_second (is_token w) _ h)) in
          let some : 1 ≤ opened = at_most 1 opened (and_first (nat_le 1 opened) _ now) in
          keep_close opened room w b e f one some (omega (arith, k, le)) (rest (opened - 1) (and_second (nat_le 1 opened) _ now) (omega (arith, k)))
      by_test false false e f =
          let now : sound m opened shapes ≡ true = rw f at (rw e at (and_second (is_token w) _ h)) in
          keep_plain opened room w b (and_from (is_token w) (not (is_bracket w)) one (bracket_of w e f)) (omega (arith, k, le)) (rest opened now k)

abbrev in_room : ℕ → Within → Roomed
in_room room within = record { part = within.part; room = room - within.around }

-- a part that closes what it opens
by_part : (m room opened : ℕ) (within : Within) (a b : List Token) → m ≤ room → opened ≤ m → inner within.part ≡ 0
    → cond (is_constant within.part) (nat_le (opened + own_depth within.part) m) (nat_le opened within.around && nat_le within.around m) ≡ true
    → Kept (inner within.part) (depth_in (in_room room within)) a → Kept opened room b → Kept opened room (a ++ b)
by_part m room opened within a b le k none h kept rest = by_test (is_constant within.part) refl
  where
    closing : Kept 0 (depth_in (in_room room within)) a
    closing = subst (λ n. Kept n (depth_in (in_room room within)) a) none kept

    fits : (o around : ℕ) → o ≤ around → around ≤ m → o + (room - around) ≤ room
    fits o around p q = omega (arith, p, q, le)

    small : (o e : ℕ) → o + e ≤ m → o + e ≤ room
    small o e p = omega (arith, p, le)

    by_test : (c : Bool) → is_constant within.part ≡ c → Kept opened room (a ++ b)
    by_test true e =
        let now : nat_le (opened + own_depth within.part) m ≡ true = rw e at h in
        let kept_own : Kept 0 (own_depth within.part) a = rw e at closing in
        keep_part opened room (own_depth within.part) a b kept_own (small opened (own_depth within.part) (at_most (opened + own_depth within.part) m now)) rest
    by_test false e =
        let now : (nat_le opened within.around && nat_le within.around m) ≡ true = rw e at h in
        let kept_room : Kept 0 (room - within.around) a = rw e at closing in
        keep_part opened room (room - within.around) a b kept_room
        (fits opened within.around (at_most opened within.around (and_first _ _ now)) (at_most within.around m (and_second _ _ now))) rest

-- a part that closes what is open, at the end
by_last : (room opened : ℕ) (within : Within) (a : List Token) → opened ≡ inner within.part → within.around ≡ 0 → is_constant within.part ≡ false
    → Kept (inner within.part) (depth_in (in_room room within)) a → Kept opened room a
by_last room opened within a same none other kept =
    let kept_room : Kept (inner within.part) (room - within.around) a = rw other at kept in
    subst (λ n. Kept n room a) (sym same) (subst (λ n. Kept (inner within.part) n a) (no_less within.around none) kept_room)
  where
    no_less : (n : ℕ) → n ≡ 0 → room - n ≡ room
    no_less n e = omega (arith, e)

last_is : (shapes : List Shape) (room : ℕ) (own : Token) (b : List Token) → is_last shapes ≡ true → Marks (map (wanted_for room own) shapes) b → b ≡ []
last_is [] room own b h r = r
last_is (shape ∷ shapes) room own b h r = cc

kept_shapes : (m room : ℕ) → m ≤ room → (own : Token) → is_turn_name own ≡ true → (shapes : List Shape) (opened : ℕ) →
    sound m opened shapes ≡ true → opened ≤ m → (ts : List Token)
    → Marks (map (wanted_for room own) shapes) ts → Kept opened room ts
kept_shapes m room le own turned [] opened h k ts r =
    subst (λ n. Kept n room ts) (sym (same_number opened 0 h)) (kept_as r (record { closes = closes-nil room; tokens = refl }))
kept_shapes m room le own turned (Terminal (exactly w) ∷ shapes) opened h k ts (t, (b, (e, (is, r)))) =
    kept_as (e ∙ ap (λ u. u ∷ b) (sym (word_is is))) (by_word m room le w opened shapes b
    (λ n h k. kept_shapes m room le own turned shapes n h k b r) h k)
kept_shapes m room le own turned (Terminal (one_of g) ∷ shapes) opened h k ts (t, (b, (e, (is, r)))) =
    kept_as e (keep_plain opened room t b (one_plain g t is) (omega (arith, k, le)) (kept_shapes m room le own turned shapes opened h k b r))
kept_shapes m room le own turned (Terminal a_name ∷ shapes) opened h k ts (t, (b, (e, (is, r)))) =
    kept_as e (keep_plain opened room t b (name_plain t is) (omega (arith, k, le)) (kept_shapes m room le own turned shapes opened h k b r))
kept_shapes m room le own turned (Terminal (number of) ∷ shapes) opened h k ts (t, (b, (e, (is, r)))) =
    kept_as e (keep_plain opened room t b (number_plain of t is) (omega (arith, k, le)) (kept_shapes m room le own turned shapes opened h k b r))
kept_shapes m room le own turned (Terminal turn ∷ shapes) opened h k ts (t, (b, (e, (is, r)))) =
    kept_as e (keep_plain opened room t b (turn_plain own t turned is) (omega (arith, k, le)) (kept_shapes m room le own turned shapes opened h k b r))
kept_shapes m room le own turned (Nonterminal within ∷ shapes) opened h k ts (a, (b, (e, (held, r)))) =
    by_test (nat_eq (inner within.part) 0) refl (λ now. kept_shapes m room le own turned shapes opened now k b r)
  where
    roomy : (around least : ℕ) → around + least ≤ m → least ≤ room - around
    roomy around least p = omega (arith, p, le)

    kept : Kept (inner within.part) (depth_in (in_room room within)) a
    kept = held (roomy within.around (least_room within.part) (at_most (within.around + least_room within.part) m (and_first _ _ h)))

    by_test : (c : Bool) → nat_eq (inner within.part) 0 ≡ c → (sound m opened shapes ≡ true → Kept opened room b) → Kept opened room ts
    by_test true f rest =
        let now = rw f at (and_second (nat_le (within.around + least_room within.part) m) _ h) in
        kept_as e (by_part m room opened within a b le k (same_number (inner within.part) 0 f) (and_first _ _ now) kept (rest (and_second _ _ now)))
    by_test false f rest =
        let now : (nat_eq opened (inner within.part) && (nat_eq within.around 0
        && (not (is_constant within.part) && is_last shapes))) ≡ true = rw f at (and_second (nat_le (within.around + least_room within.part) m) _ h) in
        let more = and_second (nat_eq within.around 0) _ (and_second (nat_eq opened (inner within.part)) _ now) in
        kept_as (e ∙ (ap (λ b. a ++ b) (last_is shapes room own b (and_second (not (is_constant within.part)) (is_last shapes) more) r) ∙ append-nil a))
        (by_last room opened within a (same_number opened (inner within.part) (and_first _ _ now))
        (same_number within.around 0 (and_first _ _ (and_second (nat_eq opened (inner within.part)) _ now)))
        (not-true (is_constant within.part) (and_first (not (is_constant within.part)) (is_last shapes) more)) kept)

-- ---- productions

abbrev are_terminals : List Shape → Bool
are_terminals [] = true
are_terminals (Terminal class ∷ shapes) = are_terminals shapes
are_terminals (Nonterminal within ∷ shapes) = false

-- the shapes of constants are terminals
abbrev bare_in : Part → Production → Bool
bare_in of production = cond (is_constant of) (are_terminals production.shapes) true

all_bare : (of : Part) → all_of (map (bare_in of) (productions of)) ≡ true
all_bare File = refl
all_bare Structs = refl
all_bare Struct = refl
all_bare StructName = refl
all_bare Members = refl
all_bare Member = refl
all_bare TypeName = refl
all_bare Length = refl
all_bare Funcs = refl
all_bare Func = refl
all_bare PlainFunc = refl
all_bare FuncRest = refl
all_bare FuncName = refl
all_bare Params = refl
all_bare ParamRest = refl
all_bare Param = refl
all_bare Star = refl
all_bare Locals = refl
all_bare Local = refl
all_bare Stmts = refl
all_bare Stmt = refl
all_bare Else = refl
all_bare Turns = refl
all_bare AfterName = refl
all_bare AssignTail = refl
all_bare Value = refl
all_bare AfterOpen = refl
all_bare Result = refl
all_bare Expr = refl
all_bare Simple = refl
all_bare Constant = refl
all_bare Inside = refl
all_bare Negative = refl
all_bare NameUse = refl
all_bare Steps = refl
all_bare Index = refl
all_bare Args = refl
all_bare ArgRest = refl
all_bare Arg = refl
all_bare Place = refl

terminals_alike : (room other : ℕ) (own : Token) (shapes : List Shape) → are_terminals shapes ≡ true →
    map (wanted_for room own) shapes ≡ map (wanted_for other own) shapes
terminals_alike room other own [] h = refl
terminals_alike room other own (Terminal class ∷ shapes) h = ap (λ ws. wanted_for other own (Terminal class) ∷ ws) (terminals_alike room other own shapes h)
terminals_alike room other own (Nonterminal within ∷ shapes) h = cc

inner_le : (of : Part) → nat_le (inner of) (cond (is_constant of) (own_depth of) (least_room of)) ≡ true
inner_le File = refl
inner_le Structs = refl
inner_le Struct = refl
inner_le StructName = refl
inner_le Members = refl
inner_le Member = refl
inner_le TypeName = refl
inner_le Length = refl
inner_le Funcs = refl
inner_le Func = refl
inner_le PlainFunc = refl
inner_le FuncRest = refl
inner_le FuncName = refl
inner_le Params = refl
inner_le ParamRest = refl
inner_le Param = refl
inner_le Star = refl
inner_le Locals = refl
inner_le Local = refl
inner_le Stmts = refl
inner_le Stmt = refl
inner_le Else = refl
inner_le Turns = refl
inner_le AfterName = refl
inner_le AssignTail = refl
inner_le Value = refl
inner_le AfterOpen = refl
inner_le Result = refl
inner_le Expr = refl
inner_le Simple = refl
inner_le Constant = refl
inner_le Inside = refl
inner_le Negative = refl
inner_le NameUse = refl
inner_le Steps = refl
inner_le Index = refl
inner_le Args = refl
inner_le ArgRest = refl
inner_le Arg = refl
inner_le Place = refl

both_le : (a b c : ℕ) → a ≤ c → b ≤ c → max a b ≤ c
both_le a b c h k = omega (arith, h, k)

right_le : (a b c : ℕ) → c ≤ b → c ≤ max a b
right_le a b c h = omega (arith, h)

kept_production : (whole : Roomed) (p : Production) → IsAmong p (productions whole.part) → p.needs ≤ whole.room → (own : Token) →
    is_turn_name own ≡ true → (ts : List Token)
    → Marks (map (wanted_for whole.room own) p.shapes) ts → Held whole ts
kept_production whole p one needs own turned ts marks room = by_test (is_constant whole.part) refl
  where
    checked : sound_in whole.part p ≡ true
    checked = one_of_all (sound_in whole.part) p (productions whole.part) one (all_sound whole.part)

    bared : bare_in whole.part p ≡ true
    bared = one_of_all (bare_in whole.part) p (productions whole.part) one (all_bare whole.part)

    by_test : (c : Bool) → is_constant whole.part ≡ c → Kept (inner whole.part) (depth_in whole) ts
    by_test true e =
        let now : sound (own_depth whole.part) (inner whole.part) p.shapes ≡ true = rw e at checked in
        let few : nat_le (inner whole.part) (own_depth whole.part) ≡ true = rw e at (inner_le whole.part) in
        let terminals : are_terminals p.shapes ≡ true = rw e at bared in
        rw e (kept_shapes (own_depth whole.part) (own_depth whole.part) (at_most_itself (own_depth whole.part)) own turned p.shapes
        (inner whole.part) now (at_most (inner whole.part) (own_depth whole.part) few) ts
        (subst (λ ws. Marks ws ts) (terminals_alike whole.room (own_depth whole.part) own p.shapes terminals) marks))
    by_test false e =
        let now : sound (max p.needs (least_room whole.part)) (inner whole.part) p.shapes ≡ true = rw e at checked in
        let few : nat_le (inner whole.part) (least_room whole.part) ≡ true = rw e at (inner_le whole.part) in
        rw e (kept_shapes (max p.needs (least_room whole.part)) whole.room
        (both_le p.needs (least_room whole.part) whole.room needs room) own turned p.shapes (inner whole.part) now
        (right_le p.needs (least_room whole.part) (inner whole.part) (at_most (inner whole.part) (least_room whole.part) few)) ts marks)

held : (whole : Roomed) (next : Option Token) (wanted : List Wanted) → Produces whole next wanted → (ts : List Token) → Marks wanted ts → Held whole ts
held whole next wanted made ts marks =
    kept_production whole made.production made.is_one made.has_room made.name made.is_turn ts (subst (λ ws. Marks ws ts) made.made marks)

pub marks : {wanted : List Wanted} {pieces left : List Token} → CDerives wanted pieces left →
    (ts : List Token) × ((pieces ≡ ts ++ left) × Marks wanted ts)
marks done = ([], (refl, refl))
marks (terminal {token = t} m r) = let h = marks r in (t ∷ h.0, (ap (λ us. t ∷ us) h.1.0, (t, (h.0, (refl, (m, h.1.1))))))
marks (part {A = whole_text} {production = production} {symbols = wanted} {tokens = pieces} {between = between} {left = left} made inner r) =
    let h = marks inner in
    let k = marks r in (
      h.0 ++ k.0,
      (
        h.1.0 ∙ (ap (λ us. h.0 ++ us) k.1.0 ∙ sym (append_assoc h.0 k.0 left)),
        (h.0, (k.0, (refl, (held whole_text _ production made h.0 h.1.1, k.1.1)))),
      ),
    )

-- the pieces of a text are tokens that open at most 2,000 brackets at once
pub text_kept : (pieces : List Token) → SpellText pieces → (are_tokens pieces ≡ true) × (most_open 0 pieces ≤ 2000)
text_kept pieces spells = by_marks (marks spells)
  where
    by_marks : (ts : List Token) × ((pieces ≡ ts ++ []) × Marks (whole_text ∷ []) ts) → (are_tokens pieces ≡ true) × (most_open 0 pieces ≤ 2000)
    by_marks (ts, (e, (a, (b, (f, (held, r)))))) =
        let kept : Kept 0 2000 a = held (omega arith) in
        let same : pieces ≡ a = e ∙ (append-nil ts ∙ (f ∙ (ap (λ b. a ++ b) r ∙ append-nil a))) in
        (subst (λ ts. are_tokens ts ≡ true) (sym same) kept.tokens, subst (λ ts. most_open 0 ts ≤ 2000) (sym same) (nests-most_open 2000 a kept.closes))
