-- Which lexemes may follow one another, told by states alone.
use Rattle.std.proofs.Common.{◌≡◌, Bool, true, false, cond, List, [], ◌∷◌, ◌++◌, refl, ap, ◌∙◌}
use Rattle.std.specs.Prelude.{Option, Some, None}
use Rattle.bl_face.specs.declared.item.FaceItem.{FaceItem}
use Rattle.bl_face.specs.declared.reader.Reader.{Reader}
use Rattle.bl_face.specs.declared.state.State.{State}
use Rattle.bl_face.specs.Lexemes.{Lexeme}
use Rattle.bl_face.specs.inner.States.{next_lexeme, is_end}
use Rattle.bl_face.specs.inner.Reader.{after_lexeme, with_state, step, run, read_items, at_end}

-- the state behind lexemes
abbrev pub travel : Option State → List Lexeme → Option State
travel None whole = None
travel (Some state) [] = Some state
travel (Some state) (lexeme ∷ rest) = travel (next_lexeme state lexeme) rest

abbrev pub may_end : Option State → Bool
may_end None = false
may_end (Some state) = is_end state

-- the text may go on so and end
abbrev pub accepts : State → List Lexeme → Bool
accepts state whole = may_end (travel (Some state) whole)

abbrev pub state_of : Option Reader → Option State
state_of None = None
state_of (Some r) = Some r.state

-- the items behind the lexemes, if the text may end there
abbrev pub finish : Option Reader → Option (List FaceItem)
finish None = None
finish (Some r) = read_items r

abbrev pub read : Option Reader → List Lexeme → Option (List FaceItem)
read behind whole = finish (run behind whole)

stepped : (o : Option State) (r : Reader) → state_of (with_state o r) ≡ o
stepped None r = refl
stepped (Some state) r = refl

pub run_travels : (o : Option Reader) (whole : List Lexeme) → state_of (run o whole) ≡ travel (state_of o) whole
run_travels None whole = refl
run_travels (Some r) [] = refl
run_travels (Some r) (lexeme ∷ rest) = run_travels (step r lexeme) rest
    ∙ ap (λ o. travel o rest) (stepped (next_lexeme r.state lexeme) (after_lexeme r.state r lexeme))

pub travel_append : (o : Option State) (xs ys : List Lexeme) → travel o (xs ++ ys) ≡ travel (travel o xs) ys
travel_append None xs ys = refl
travel_append (Some state) [] ys = refl
travel_append (Some state) (x ∷ xs) ys = travel_append (next_lexeme state x) xs ys

pub run_append : (o : Option Reader) (xs ys : List Lexeme) → run o (xs ++ ys) ≡ run (run o xs) ys
run_append None xs ys = refl
run_append (Some r) [] ys = refl
run_append (Some r) (x ∷ xs) ys = run_append (step r x) xs ys

-- what ends with items may end
pub finished_ends : (o : Option Reader) (items : List FaceItem) → finish o ≡ Some items → may_end (state_of o) ≡ true
finished_ends None items is = cc
finished_ends (Some r) items is = by_end (is_end r.state) refl is
  where
    by_end : (b : Bool) → is_end r.state ≡ b → cond b (Some (at_end r.state r).items) None ≡ Some items → is_end r.state ≡ true
    by_end true e is = e
    by_end false e is = cc
