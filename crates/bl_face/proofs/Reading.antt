-- What a reader of tokens knows behind the first of them.
use Rattle.std.proofs.Common.{◌≡◌, ℕ, suc, ◌+◌, ◌<◌, ◌≤◌, Bool, true, false, List, [], ◌∷◌, ◌++◌, length, get_or, take, drop, drop-cons, add-one, refl, ap, sym}
use Rattle.std.proofs.Common.{◌∙◌, subst, arith, inl, inr}
use Rattle.std.specs.Prelude.{Some, None}
use Rattle.std.proofs.lemmas.List.{take-append-drop}
use Rattle.std.proofs.Math.Seq.{take-suc}
use Rattle.bl_tree.proofs.Basics.{true_not_false}
use Rattle.bl_tree.specs.declared.token.Token.{Token}
use Rattle.bl_lex.specs.Tokens.{FrontOf}
use Rattle.bl_lex.proofs.FrontLaws as fronts
use Rattle.bl_face.specs.declared.face.Face.{Face}
use Rattle.bl_face.specs.declared.reader.Reader.{Reader}
use Rattle.bl_face.specs.Lexemes.{Lexeme, lexeme_at, lexemes}
use Rattle.bl_face.specs.Reading.{ReadsAs, BeginsFace, StopsAtToken, NotFaceAt}
use Rattle.bl_face.specs.inner.Reader.{nothing_read, run, step, Steps, read_items}
use Rattle.bl_face.proofs.Viable as viable

pub lexemes_append : (text : List ℕ) (xs ys : List Token) → lexemes text (xs ++ ys) ≡ lexemes text xs ++ lexemes text ys
lexemes_append text [] ys = refl
lexemes_append text (x ∷ xs) ys = ap (λ (ls : List Lexeme). lexeme_at text x ∷ ls) (lexemes_append text xs ys)

one_more : (tokens : List Token) (i : ℕ) (d : Token) → i < length tokens → take (i + 1) tokens ≡ take i tokens ++ get_or tokens i d ∷ []
one_more tokens i d inside = ap (λ n. take n tokens) (add-one i) ∙ take-suc tokens i d inside

module _ (text : List ℕ) (tokens : List Token) (i : ℕ) (d : Token) (inside : i < length tokens) (r after : Reader)
    (known : run (Some nothing_read) (lexemes text (take i tokens)) ≡ Some r) where
  next : Steps (step r (lexeme_at text (get_or tokens i d))) true after → run (Some nothing_read) (lexemes text (take (i + 1) tokens)) ≡ Some after
  next steps = ap (λ (ts : List Token). run (Some nothing_read) (lexemes text ts)) (one_more tokens i d inside)
      ∙ ap (run (Some nothing_read)) (lexemes_append text (take i tokens) (get_or tokens i d ∷ []))
      ∙ viable.one_more (lexemes text (take i tokens)) (lexeme_at text (get_or tokens i d)) r after known steps

  pub next_if : (taken : Bool) → Steps (step r (lexeme_at text (get_or tokens i d))) taken after → taken ≡ true →
      run (Some nothing_read) (lexemes text (take (i + 1) tokens)) ≡ Some after
  next_if true steps e = next steps
  next_if false steps e = absurd (true_not_false (sym e))

  stops_here : Steps (step r (lexeme_at text (get_or tokens i d))) false after → StopsAtToken text tokens (get_or tokens i d).place.start
  stops_here none = record {
    before = take i tokens;
    token = get_or tokens i d;
    after = drop (suc i) tokens;
    stands = sym (take-append-drop i tokens) ∙ ap (λ ys. take i tokens ++ ys) (drop-cons tokens i d inside);
    begins = viable.begins_face (lexemes text (take i tokens)) r known;
    ends = subst (λ (ls : List Lexeme). ¬ BeginsFace ls) (sym (lexemes_append text (take i tokens) (get_or tokens i d ∷ [])))
        (viable.begins_none (lexemes text (take i tokens)) (lexeme_at text (get_or tokens i d)) r known none);
    is = refl;
  }

  pub stops_if : (taken : Bool) → Steps (step r (lexeme_at text (get_or tokens i d))) taken after → taken ≡ false →
      StopsAtToken text tokens (get_or tokens i d).place.start
  stops_if true steps e = absurd (true_not_false e)
  stops_if false none e = stops_here none

module _ (text : List ℕ) (tokens : List Token) (stop : ℕ) (short : length text ≤ 1048576) (front : FrontOf text tokens stop) where
  module _ (r : Reader) (known : run (Some nothing_read) (lexemes text tokens) ≡ Some r) where
    pub byte_fault : stop < length text → NotFaceAt text stop
    byte_fault before = NotFaceAt.stops short (record {
      tokens = tokens;
      stop = stop;
      front = front;
      stops = inr (record { begins = viable.begins_face (lexemes text tokens) r known; ends = inl before; is = refl });
    })

    pub end_fault : read_items r ≡ None → NotFaceAt text stop
    end_fault none = NotFaceAt.stops short (record {
      tokens = tokens;
      stop = stop;
      front = front;
      stops = inr (record { begins = viable.begins_face (lexemes text tokens) r known; ends = inr (viable.no_face (lexemes text tokens) r known none); is = refl });
    })

    pub reads : (face : Face) → length text ≤ stop → read_items r ≡ Some face.items → ReadsAs text face
    reads face end done = record {
      short = short;
      tokens = tokens;
      lexed = fronts.lexed text tokens (subst (λ s. FrontOf text tokens s) same front);
      spelled = viable.is_face (lexemes text tokens) r face.items known done;
    }
      where
        same : stop ≡ length text
        same = omega (arith, end, fronts.inside text tokens stop front)
