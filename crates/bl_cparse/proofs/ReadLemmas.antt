-- How a reader knows what stands next.
use Rattle.std.proofs.Common.{◌≡◌, ℕ, zero, suc, ◌-◌, ◌≤◌, Bool, true, false, cond, List, [], ◌∷◌, ◌++◌, map, refl, ap, sym, ◌∙◌, subst, arith}
use Rattle.std.specs.Prelude.{Option, Some, None, nat_le, Result, Ok, Err, IsErrAnd, MatchOption, MatchResult}
use Rattle.std.proofs.lemmas.Bool.{leb-true}
use Rattle.bl_ctext.specs.Token.{Token}
use Rattle.bl_ctext.specs.Names.{is_turn_name}
use Rattle.bl_ctext.specs.Spellable.{has_any}
use Rattle.bl_grammar.specs.declared.symbol.Symbol.TheVariants.{Terminal, Nonterminal}
use Rattle.bl_grammar.specs.Derivations.Derives.{terminal}
use Rattle.bl_grammar.proofs.Predictive.{same_some, no_some, not_both, expansion, good_expand, join}
use Rattle.bl_cparse_syntax.specs.declared.grammar.Part.{Part}
use Rattle.bl_cparse_syntax.specs.Pieces.{first_piece}
use Rattle.bl_cparse_syntax.specs.Classes.{Class, matches}
use Rattle.bl_cparse_syntax.specs.Classes.Class.{exactly}
use Rattle.bl_cparse_syntax.specs.Grammar.{Shape, Wanted, Production, Produces, IsAmong, productions, with_turn_name, wanted_for}
use Rattle.bl_cparse_syntax.specs.Tables.{has, firsts, starts, absent, decided, pick, turn_name_for, wanted_of}
use Rattle.bl_cparse_syntax.specs.Stack.{tables}
use Rattle.bl_cparse_syntax.specs.Expects.{Expects}
use Rattle.bl_cparse_syntax.proofs.Right.{chosen_of, unpicked}
use Rattle.bl_cparse_syntax.proofs.ClassLemmas.{exactly_is}
use Rattle.bl_cparse_syntax.proofs.Predictive.{predictive}
use Rattle.bl_cparse_syntax.proofs.Expecting.{expects_production, expects_absent, expects_token}
use Rattle.bl_cparse.specs.declared.refusal.CRefusal.{CRefusal}
use Rattle.bl_cparse.specs.inner.Reading.{sign, part}
use Rattle.bl_cparse.specs.Places.{WantsMemory}

-- ---- pieces

-- the piece of a class that is expected stands first
pub record Next (class : Class) (rest : List Wanted) (pieces : List Token) : Type 0 where
  pub left : List Token
  pub is : pieces ≡ first_piece pieces ∷ left
  pub matched : matches class (first_piece pieces) ≡ true
  pub expects : Expects rest left

pub next : {class : Class} {rest : List Wanted} {pieces : List Token} → Expects (Terminal class ∷ rest) pieces → Next class rest pieces
next {class} {rest} {pieces} e =
    let s = expects_token class rest pieces e in
    let first : first_piece pieces ≡ s.next = ap first_piece s.stands in
    record {
      left = s.left;
      is = s.stands ∙ ap (λ t. t ∷ s.left) (sym first);
      matched =
          subst (λ t. matches class t ≡ true) (sym first) s.is;
      expects = s.expects;
    }

same_tail : {a b : Token} {xs ys : List Token} → a ∷ xs ≡ b ∷ ys → xs ≡ ys
same_tail e = cc

-- what follows a piece that was passed
pub passed : {class : Class} {rest : List Wanted} {old new : List Token} {t : Token} → old ≡ t ∷ new →
    Expects (Terminal class ∷ rest) old → Expects rest new
passed {rest = rest} is e = let n = next e in subst (λ (ts : List Token). Expects rest ts) (same_tail (sym n.is ∙ is)) n.expects

-- where a piece of another class stands, none of this one is expected
pub other_next : {class : Class} {rest : List Wanted} {pieces : List Token} → matches class (first_piece pieces) ≡ false →
    Expects (Terminal class ∷ rest) pieces → ⊥
other_next off e = not_both _ (next e).matched off

pub sign_next : {word : Token} {rest : List Wanted} {pieces : List Token} → Expects (sign word ∷ rest) pieces → first_piece pieces ≡ word
sign_next {word} {rest} {pieces} e = sym (exactly_is word (first_piece pieces) (next e).matched)

-- ---- parts

abbrev under : ℕ → ℕ → ℕ
under room zero = room
under room (suc around) = room - suc around

-- what stands in a production, in the room that it has there
abbrev pub seated : ℕ → Token → Shape → Wanted
seated room own (Terminal class) = Terminal (with_turn_name own class)
seated room own (Nonterminal within) = Nonterminal (record { part = within.part; room = under room within.around })

under_is : (room around : ℕ) → room - around ≡ under room around
under_is room zero = omega arith
under_is room (suc around) = refl

seated_is : (room : ℕ) (own : Token) (shape : Shape) → wanted_for room own shape ≡ seated room own shape
seated_is room own (Terminal class) = refl
seated_is room own (Nonterminal within) = ap (λ n. Nonterminal (record { part = within.part; room = n })) (under_is room within.around)

all_seated : (room : ℕ) (own : Token) (shapes : List Shape) → map (wanted_for room own) shapes ≡ map (seated room own) shapes
all_seated room own [] = refl
all_seated room own (x ∷ xs) = ap (λ w. w ∷ map (wanted_for room own) xs) (seated_is room own x)
    ∙ ap (λ ws. seated room own x ∷ ws) (all_seated room own xs)

-- of a part one of its productions is expected
pub record Opened (what : Part) (room : ℕ) (rest : List Wanted) (pieces : List Token) : Type 0 where
  pub production : Production
  pub is_one : IsAmong production (productions what)
  pub has_room : production.needs ≤ room
  pub name : Token
  pub is_turn : is_turn_name name ≡ true
  pub expects : Expects (map (seated room name) production.shapes ++ rest) pieces

pub opened : {what : Part} {room : ℕ} {rest : List Wanted} {pieces : List Token} → Expects (part what room ∷ rest) pieces → Opened what room rest pieces
opened {what} {room} {rest} {pieces} e =
    let h = expansion Produces matches e.spells in
    record {
      production = h.made.production;
      is_one = h.made.is_one;
      has_room = h.made.has_room;
      name = h.made.name;
      is_turn = h.made.is_turn;
      expects = subst (λ (w : List Wanted). Expects (w ++ rest) pieces) (h.made.made ∙ all_seated room h.made.name h.made.production.shapes) (record {
        good = good_expand Produces matches tables predictive (record { part = what; room = room }) rest _ h.production e.good h.made;
        spells = join Produces matches h.first h.rest;
      });
    }

decided_is : (room : ℕ) (t : Token) (may : Bool) (p : Production) (wanted : List Wanted) →
    decided room t may (Some p) ≡ Some wanted → (p.needs ≤ room) × (wanted_of room t p ≡ wanted)
decided_is room t may p wanted e = by_room (nat_le p.needs room) refl e
  where
    by_room : (b : Bool) → nat_le p.needs room ≡ b → cond b (Some (wanted_of room t p)) None ≡ Some wanted →
        (p.needs ≤ room) × (wanted_of room t p ≡ wanted)
    by_room true is e = (leb-true p.needs room is, same_some _ _ e)
    by_room false is e = absurd (no_some wanted e)

-- the production that the next piece begins
pub begun : {what : Part} {room : ℕ} {rest : List Wanted} {pieces : List Token} (p : Production) → IsAmong p (productions what) →
    has (firsts starts p.shapes) [] ≡ false
    → has (firsts starts p.shapes) (first_piece pieces) ≡ true → Expects (part what room ∷ rest) pieces →
    (p.needs ≤ room) × Expects (map (seated room (turn_name_for (first_piece pieces))) p.shapes ++ rest) pieces
unfolding pick
begun {pieces = []} p among some is e = absurd (not_both _ is some)
begun {what = what} {room = room} {rest = rest} {pieces = t ∷ ts} p among some is e =
    let h = expects_production (record { part = what; room = room }) rest t ts e in
    let d = decided_is room t (absent what) p h.0 (ap (decided room t (absent what)) (sym (chosen_of what p t among is)) ∙ h.1) in
    (d.0, subst (λ (w : List Wanted). Expects (w ++ rest) (t ∷ ts)) (sym d.1 ∙ all_seated room (turn_name_for t) p.shapes) h.2)

-- a part that the next piece doesn't begin is absent
pub omitted : {what : Part} {room : ℕ} {rest : List Wanted} {pieces : List Token} → absent what ≡ true →
    has (starts what) (first_piece pieces) ≡ false → Expects (part what room ∷ rest) pieces → Expects rest pieces
omitted {what = what} {room = room} {rest = rest} {pieces = []} may off e = (expects_absent (record { part = what; room = room }) rest e).1
omitted {what = what} {room = room} {rest = rest} {pieces = t ∷ ts} may off e =
    let h = expects_production (record { part = what; room = room }) rest t ts e in
    subst (λ (w : List Wanted). Expects (w ++ rest) (t ∷ ts)) (same_some _ _ (sym h.1 ∙ unpicked (record { part = what; room = room }) t may off)) h.2

-- the error of a `?` is the one that came
pub wanting : {A : Type 0} (P : A → Type 0) (r : Result A CRefusal) (e : CRefusal) → IsErrAnd r (λ x. x ≡ e) → WantsMemory e →
    MatchResult r P WantsMemory
wanting P (Ok x) e is w = elim is [ ]
wanting P (Err x) e is w = subst WantsMemory (sym is) w

pub some_left : {ts : List Token} → has_any ts ≡ true → ts ≡ [] → ⊥
some_left h e = not_both _ h (ap has_any e)

pub sign_seen : (word : Token) (pieces : List Token) → matches (exactly word) (first_piece pieces) ≡ true → first_piece pieces ≡ word
sign_seen word pieces m = sym (exactly_is word (first_piece pieces) m)

-- what is known where nothing is found, made weaker
pub widened : {A E : Type 0} {P P' : Type 0} (Q : A → Type 0) (W : E → Type 0) (r : Result (Option A) E) → (P → P') →
    MatchResult r (λ found. MatchOption found P Q) W → MatchResult r (λ found. MatchOption found P' Q) W
widened Q W (Ok None) f h = f h
widened Q W (Ok (Some x)) f h = h
widened Q W (Err e) f h = h

-- what stands next is of another class too
pub retold : {class other : Class} {rest : List Wanted} {pieces : List Token} → matches other (first_piece pieces) ≡ true →
    Expects (Terminal class ∷ rest) pieces → Expects (Terminal other ∷ rest) pieces
retold {other = other} {rest = rest} is e =
    let n = next e in
    subst (λ (ts : List Token). Expects (Terminal other ∷ rest) ts) (sym n.is) (record { good = n.expects.good; spells = terminal is n.expects.spells })

-- a test of the next piece, where no piece was passed before it
pub at_same : {old new : List Token} → new ≡ old → (word : Token) → matches (exactly word) (first_piece old) ≡ false →
    matches (exactly word) (first_piece new) ≡ false
at_same same word off = ap (λ (ts : List Token). matches (exactly word) (first_piece ts)) same ∙ off
