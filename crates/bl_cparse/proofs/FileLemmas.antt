-- From the pieces of a text to the file that it spells.
use Rattle.std.proofs.Common.{◌≡◌, ◌≢◌, ℕ, ◌≤◌, ◌<◌, ◌^◌, Bool, true, false, ◌==◌, List, [], ◌∷◌, ◌++◌, length, map, drop, refl, sym, ap, ◌∙◌, subst}
use Rattle.std.proofs.Common.{arith}
use Rattle.std.specs.Prelude.{Option, Some, None, MatchOption}
use Rattle.std.specs.List.{starts_with}
use Rattle.std.proofs.lemmas.Slice.Eq.{starts_is}
use Rattle.std.proofs.lemmas.Bool.Decides.{nat_tests, Decides-eqb}
use Rattle.std.proofs.lemmas.Bool.{and_from}
use Rattle.bl_tree.proofs.Basics.{at_most_test}
use Rattle.bl_tree.specs.declared.c.CStruct.{CStruct}
use Rattle.bl_tree.specs.declared.c.CFunc.{CFunc}
use Rattle.bl_tree.specs.Reduce.{all_of, joined}
use Rattle.bl_ctext.specs.Prelude.{prelude}
use Rattle.bl_ctext.specs.declared.prelude.TheConstants.{PRELUDE}
use Rattle.bl_ctext.specs.Token.{Token, SpacedC}
use Rattle.bl_ctext.specs.inner.Cut.{are_tokens}
use Rattle.bl_ctext.specs.Spelling.{struct_tokens, func_tokens, tokens_of}
use Rattle.bl_ctext.specs.Spellable.{has_any, is_spellable, most_open, spells_func, spells_struct}
use Rattle.bl_cparse_syntax.specs.Pieces.{pieces}
use Rattle.bl_ctext.specs.declared.file.CFile.{CFile}
use Rattle.bl_cparse_syntax.specs.Rules.{Passes, FailsFirst}
use Rattle.bl_cparse_syntax_laws.proofs.Depths.{text_kept}
use Rattle.bl_cparse_syntax_laws.proofs.Passing.{spells_some, spelled_passing}
use Rattle.bl_cparse_syntax_laws.proofs.Spaced.{spaced}
use Rattle.bl_cparse_syntax.specs.declared.grammar.Part.TheVariants.{File, Struct, Structs, Func, Funcs}
use Rattle.bl_cparse_syntax.specs.Grammar as grammar
use Rattle.bl_cparse_syntax.specs.Expects.{Expects}
use Rattle.bl_cparse_syntax.proofs.Expecting.{expects_text}
use Rattle.bl_cparse_syntax.proofs.Once.{no_failure}
use Rattle.bl_cparse.specs.declared.refusal.CRefusal.{CRefusal}
use Rattle.bl_cparse.specs.declared.refusal.CRefusal.TheVariants.{NotSubset, NoMemory}
use Rattle.bl_cparse.specs.Places.{SpellsNone, RefusesNone}
use Rattle.bl_cparse.specs.inner.Reading.{part}
use Rattle.bl_cparse.specs.Places.{WantsMemory}
use Rattle.bl_cparse.proofs.ItemOpening.{file_opens}

pub whole_tokens : (structs : List CStruct) (funcs : List CFunc) (all rest : List Token) →
    all ≡ joined (map struct_tokens structs) ++ rest → rest ≡ joined (map func_tokens funcs) → all ≡ tokens_of structs funcs
whole_tokens structs funcs all rest h k = h ∙ ap (λ ts. joined (map struct_tokens structs) ++ ts) k

pub is_file : (structs : List CStruct) (funcs : List CFunc) (all : List Token) → all ≡ tokens_of structs funcs →
    has_any structs ≡ true → has_any funcs ≡ true → all_of (map spells_struct structs) ≡ true →
    all_of (map spells_func funcs) ≡ true → most_open 0 all ≤ 2000 → is_spellable structs funcs ≡ true
is_file structs funcs all e s f ss fs flat =
    let low : most_open 0 (tokens_of structs funcs) ≤ 2000 = subst (λ ts. most_open 0 ts ≤ 2000) e flat in
    and_from _ _ s (and_from _ _ f (and_from _ _ ss (and_from _ _ fs (at_most_test (most_open 0 (tokens_of structs funcs)) 2000 low))))

pub spells_file : (structs : List CStruct) (funcs : List CFunc) (text : List ℕ) → pieces text ≡ tokens_of structs funcs →
    are_tokens (pieces text) ≡ true → SpacedC (tokens_of structs funcs) text
spells_file structs funcs text e h = subst (λ ts. SpacedC ts text) e (spaced text h)

pub prelude_is : PRELUDE.now ≡ prelude
unfolding prelude
prelude_is = refl

-- what begins with the prelude goes on behind it
pub begins : (text : List ℕ) (r : Bool) → r ≡ starts_with (◌==◌) text PRELUDE.now → r ≡ true →
    text ≡ prelude ++ drop (length PRELUDE.now) text
begins text r h k = (starts_is Decides-eqb text PRELUDE.now r h).0 k ∙ ap (λ p. p ++ drop (length PRELUDE.now) text) prelude_is

-- the file that the pieces behind the prelude are read as
pub spells : (structs : List CStruct) (funcs : List CFunc) (text rest : List ℕ) (left : List Token) → text ≡ prelude ++ rest →
    pieces rest ≡ joined (map struct_tokens structs) ++ left → left ≡ joined (map func_tokens funcs) → are_tokens (pieces rest) ≡ true →
    (x : List ℕ) × ((text ≡ prelude ++ x) × SpacedC (tokens_of structs funcs) x)
spells structs funcs text rest left h s f k = (rest, (h, spells_file structs funcs rest (whole_tokens structs funcs (pieces rest) left s f) k))

-- what doesn't begin with the prelude has nothing behind it
pub other_front : (text : List ℕ) (r : Bool) → r ≡ starts_with (◌==◌) text PRELUDE.now → r ≡ false → (rest : List ℕ) →
    text ≢ prelude ++ rest
other_front text r h k rest e =
    let front : text ≡ PRELUDE.now ++ rest = e ∙ ap (λ (p : List ℕ). p ++ rest) (sym prelude_is) in
    let yes : r ≡ true = (starts_is Decides-eqb text PRELUDE.now r h).1 rest front in
    cc

-- the pieces of a text that passes are tokens, and few enough brackets are open
pub passes_tokens : (text : List ℕ) (start : ℕ) → Passes text start → are_tokens (pieces (drop start text)) ≡ true
passes_tokens text start passes = (text_kept (pieces (drop start text)) passes).0

pub passes_flat : (text : List ℕ) (start : ℕ) → Passes text start → most_open 0 (pieces (drop start text)) ≤ 2000
passes_flat text start passes = (text_kept (pieces (drop start text)) passes).1

-- a text that passes spells a file
pub passes_some : (text : List ℕ) → text ≡ prelude ++ drop (length PRELUDE.now) text → Passes text (length PRELUDE.now) → SpellsNone text → ⊥
passes_some text front passes none = by_file (spells_some (drop (length PRELUDE.now) text) passes)
  where
    by_file : (file : CFile) × SpacedC (tokens_of file.structs file.funcs) (drop (length PRELUDE.now) text) → ⊥
    by_file (file, spaced) = none file (drop (length PRELUDE.now) text, (front, spaced))

pub place_is : (text : List ℕ) (at : ℕ) → FailsFirst text (length PRELUDE.now) at → FailsFirst text (length prelude) at
place_is text at fails = subst (λ (p : List ℕ). FailsFirst text (length p) at) prelude_is fails

-- what the test of the pieces says, by its answer
pub failed_at : (text : List ℕ) (start : ℕ) (fault : Option ℕ) (at : ℕ) → fault ≡ Some at →
    MatchOption fault (Passes text start) (FailsFirst text start) → FailsFirst text start at
failed_at text start None at e h = cc
failed_at text start (Some found) at e h = subst (FailsFirst text start) (some_same e) h
  where
    some_same : {a b : ℕ} → Some a ≡ Some b → a ≡ b
    some_same e = cc

pub passed : (text : List ℕ) (start : ℕ) (fault : Option ℕ) → fault ≡ None →
    MatchOption fault (Passes text start) (FailsFirst text start) → Passes text start
passed text start None e h = h
passed text start (Some found) e h = cc

-- a text that fails spells no file
pub fails_none : (text : List ℕ) (at : ℕ) → FailsFirst text (length PRELUDE.now) at → SpellsNone text
fails_none text at fails file spelled = no_failure text (length prelude) at (spelled_passing file text spelled) (place_is text at fails)

-- nor does one that doesn't begin with the prelude
pub other_none : (text : List ℕ) → ((rest : List ℕ) → text ≢ prelude ++ rest) → SpellsNone text
other_none text other file (rest, (begins, spaced)) = other rest begins

-- what is expected of a text that passes
pub expected : (ts : List Token) (text : List ℕ) → ts ≡ pieces (drop (length PRELUDE.now) text) → Passes text (length PRELUDE.now)
    → Expects (part Struct grammar.most_open ∷ part Structs grammar.most_open ∷ part Func grammar.most_open ∷ part Funcs grammar.most_open ∷ []) ts
expected ts text is passes = file_opens (subst (λ (us : List Token). Expects (part File grammar.most_open ∷ []) us) (sym is)
    (expects_text (pieces (drop (length PRELUDE.now) text)) passes))

pub wants_memory : (text : List ℕ) (r : CRefusal) → WantsMemory r → RefusesNone text r
wants_memory text (NotSubset at) w = absurd w
wants_memory text NoMemory w = tt
