-- Pieces that spell what is wanted of them, while no more brackets are open at once than may be.
use Rattle.std.proofs.Common.{◌≡◌, ℕ, zero, suc, ◌+◌, ◌-◌, ◌≤◌, true, false, ◌||◌, List, [], ◌∷◌, ◌++◌, map, refl, ap, sym, ◌∙◌, subst, arith, codes}
use Rattle.bl_tree.proofs.Basics.{neither_first, neither_second}
use Rattle.bl_ctext.specs.Token.{Token}
use Rattle.bl_ctext.specs.Names.{is_turn_name}
use Rattle.bl_ctext.specs.Spellable.{is_opening, is_closing, open_behind, most_open}
use Rattle.bl_ctext.proofs.Nesting.{is_bracket, most_open-first}
use Rattle.bl_grammar.specs.declared.symbol.Symbol.TheVariants.{Terminal, Nonterminal}
use Rattle.bl_grammar.specs.Derivations.Derives.{terminal}
use Rattle.bl_grammar.proofs.Predictive.{fold_in}
use Rattle.bl_cparse_syntax.specs.declared.grammar.Part.{Part}
use Rattle.bl_cparse_syntax.specs.Classes.{Class, matches}
use Rattle.bl_cparse_syntax.specs.Classes.Class.{exactly}
use Rattle.bl_cparse_syntax.specs.Grammar.{Shape, Wanted, Production, productions, with_turn_name, wanted_for, IsAmong, Produces, CDerives}
use Rattle.bl_cparse_syntax.proofs.ClassLemmas.{is_same-self}
use Rattle.bl_ctext.proofs.Nesting.{opened}

-- the pieces spell what is wanted, up to the end
abbrev pub Spells : List Wanted → List Token → Type 0
Spells wanted pieces = CDerives wanted pieces []

-- they do, where so many brackets are open before them and no more than may be at once
abbrev pub Goes : ℕ → List Wanted → List Token → Type 0
Goes k wanted pieces = most_open k pieces ≤ 2000 → Spells wanted pieces

-- a part before which so many brackets are open
abbrev pub at : ℕ → Part → Wanted
at k part = Nonterminal (record { part = part; room = 2000 - k })

-- so many brackets further
abbrev pub deeper : ℕ → ℕ → ℕ
deeper zero k = k
deeper (suc a) k = deeper a (k + 1)

-- what stands in a production before which so many brackets are open
abbrev pub put : ℕ → Token → Shape → Wanted
put k own (Terminal class) = Terminal (with_turn_name own class)
put k own (Nonterminal within) = at (deeper within.around k) within.part

deeper_is : (a k : ℕ) → 2000 - deeper a k ≡ 2000 - k - a
deeper_is zero k = omega arith
deeper_is (suc a) k = let e : 2000 - (k + 1) - a ≡ 2000 - k - suc a = omega arith in deeper_is a (k + 1) ∙ e

put_is : (k : ℕ) (own : Token) (shapes : List Shape) → map (wanted_for (2000 - k) own) shapes ≡ map (put k own) shapes
put_is k own [] = refl
put_is k own (Terminal class ∷ rest) = ap (λ (ws : List Wanted). Terminal (with_turn_name own class) ∷ ws) (put_is k own rest)
put_is k own (Nonterminal within ∷ rest) =
    ap (λ n. Nonterminal (record { part = within.part; room = n }) ∷ map (wanted_for (2000 - k) own) rest) (sym (deeper_is within.around k))
    ∙ ap (λ (ws : List Wanted). at (deeper within.around k) within.part ∷ ws) (put_is k own rest)

-- a production of a part
pub by_production : {p : Production} (k j : ℕ) (part : Part) (own : Token) (ss : List Wanted) (ts : List Token) →
    IsAmong p (productions part) → is_turn_name own ≡ true
    → (most_open k ts ≤ 2000 → p.needs ≤ 2000 - j) → Goes k (map (put j own) p.shapes ++ ss) ts → Goes k (at j part ∷ ss) ts
by_production {p = p} k j part own ss ts among turn needs go few =
    fold_in Produces matches (map (put j own) p.shapes)
    (record { production = p; is_one = among; has_room = needs few; name = own; is_turn = turn; made = sym (put_is j own p.shapes) }) (go few)

first_turn : is_turn_name (codes "t0") ≡ true
unfolding is_turn_name
first_turn = refl

-- a production that names no turns, and needs this much room
pub roomed : {p : Production} (k j : ℕ) (part : Part) (ss : List Wanted) (ts : List Token) → IsAmong p (productions part)
    → (most_open k ts ≤ 2000 → p.needs ≤ 2000 - j) → Goes k (map (put j (codes "t0")) p.shapes ++ ss) ts → Goes k (at j part ∷ ss) ts
roomed k j part ss ts among needs go = by_production k j part (codes "t0") ss ts among first_turn needs go

-- a production that needs no room
pub free : {p : Production} (k j : ℕ) (part : Part) (ss : List Wanted) (ts : List Token) → IsAmong p (productions part) → p.needs ≤ 0
    → Goes k (map (put j (codes "t0")) p.shapes ++ ss) ts → Goes k (at j part ∷ ss) ts
free k j part ss ts among none go = roomed k j part ss ts among (λ few. omega (arith, none)) go

exact : (w : Token) → matches (exactly w) w ≡ true
unfolding matches
exact w = is_same-self w

pub closed : (k : ℕ) (w : Token) → is_opening w ≡ false → is_closing w ≡ true → open_behind (k + 1) w ≡ k
closed k w h i = rw (h, i) (omega arith)

pub stays : (k : ℕ) (w : Token) → is_bracket w ≡ false → open_behind k w ≡ k
stays k w h = let a : is_opening w ≡ false = neither_first _ _ h in let b : is_closing w ≡ false = neither_second _ _ h in rw (a, b) refl

pub behind : (k n : ℕ) (w : Token) (ts : List Token) → open_behind k w ≡ n → most_open k (w ∷ ts) ≤ 2000 → most_open n ts ≤ 2000
behind k n w ts e few = subst (λ i. most_open i ts ≤ 2000) e (omega (arith, few))

-- an opening bracket, a closing one, and another piece of a class
pub open_then : (k : ℕ) (w : Token) (ss : List Wanted) (ts : List Token) → is_opening w ≡ true → Goes (k + 1) ss ts →
    Goes k (Terminal (exactly w) ∷ ss) (w ∷ ts)
open_then k w ss ts h go few = terminal (exact w) (go (behind k (k + 1) w ts (opened k w h) few))

pub close_then : (k : ℕ) (w : Token) (ss : List Wanted) (ts : List Token) → is_opening w ≡ false → is_closing w ≡ true →
    Goes k ss ts → Goes (k + 1) (Terminal (exactly w) ∷ ss) (w ∷ ts)
close_then k w ss ts h i go few = terminal (exact w) (go (behind (k + 1) k w ts (closed k w h i) few))

pub class_then : (class : Class) (k : ℕ) (w : Token) (ss : List Wanted) (ts : List Token) → matches class w ≡ true →
    is_bracket w ≡ false → Goes k ss ts → Goes k (Terminal class ∷ ss) (w ∷ ts)
class_then class k w ss ts m h go few = terminal m (go (behind k k w ts (stays k w h) few))

pub word_then : (k : ℕ) (w : Token) (ss : List Wanted) (ts : List Token) → is_bracket w ≡ false → Goes k ss ts →
    Goes k (Terminal (exactly w) ∷ ss) (w ∷ ts)
word_then k w ss ts h go = class_then (exactly w) k w ss ts (exact w) h go

-- the room that brackets show
pub one_open : (k : ℕ) (ts : List Token) → most_open k (codes "(" ∷ ts) ≤ 2000 → 1 ≤ 2000 - k
one_open k ts few = omega (arith, few, most_open-first (k + 1) ts)

pub one_behind : (k : ℕ) (w : Token) (ts : List Token) → is_bracket w ≡ false → most_open k (w ∷ codes "(" ∷ ts) ≤ 2000 → 1 ≤ 2000 - k
one_behind k w ts h few = one_open k ts (behind k k w (codes "(" ∷ ts) (stays k w h) few)
