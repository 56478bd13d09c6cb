-- What can be read goes on to a face, and what can't doesn't.
use Rattle.std.proofs.Common.{◌≡◌, true, List, [], ◌∷◌, ◌++◌, refl, ap, sym, ◌∙◌, subst}
use Rattle.std.specs.Prelude.{Option, Some, None}
use Rattle.bl_tree.specs.declared.scalar.Scalar.TheVariants.{Bool as OfBool}
use Rattle.bl_face.specs.declared.class.Mark.TheVariants as mark
use Rattle.bl_face.specs.declared.item.FaceItem.{FaceItem}
use Rattle.bl_face.specs.declared.reader.Reader.{Reader}
use Rattle.bl_face.specs.declared.state.Slot.{Slot}
use Rattle.bl_face.specs.declared.state.Slot.TheVariants.{Field, Input, Output}
use Rattle.bl_face.specs.declared.state.State.{State}
use Rattle.bl_face.specs.declared.state.State.TheVariants as at
use Rattle.bl_face.specs.Lexemes.{Lexeme}
use Rattle.bl_face.specs.Lexemes.Lexeme.{named, marked}
use Rattle.bl_face.specs.Reading.{BeginsFace, IsNoFace}
use Rattle.bl_face.specs.Spells.{SpellsItems}
use Rattle.bl_face.specs.inner.Reader.{nothing_read, run, step, read_items}
use Rattle.bl_face.proofs.Accepting.{travel, may_end, accepts, state_of, finish, run_travels, travel_append, run_append, finished_ends}
use Rattle.bl_face.proofs.Completing.{accepted_spells}
use Rattle.bl_face.proofs.Running.{all_read}

-- ---- lexemes that end what is begun

abbrev type_ended : Slot → List Lexeme
type_ended Field = marked mark.End ∷ []
type_ended Input = marked mark.CloseParen ∷ marked mark.OpenParen ∷ marked mark.CloseParen ∷ []
type_ended Output = marked mark.CloseParen ∷ []

abbrev typed : Slot → List Lexeme
typed slot = marked (mark.Scalar OfBool) ∷ type_ended slot

abbrev part : Slot → List Lexeme
part slot = named [] ∷ marked mark.Colon ∷ typed slot

abbrev first : Slot → List Lexeme
first Field = marked mark.Var ∷ part Field
first Input = marked mark.CloseParen ∷ marked mark.OpenParen ∷ marked mark.CloseParen ∷ []
first Output = marked mark.CloseParen ∷ []

abbrev value : List Lexeme
value = marked (mark.Number 0) ∷ []

abbrev const_end : List Lexeme
const_end = marked mark.Assign ∷ value

abbrev ending : State → List Lexeme
ending at.Items = []
ending at.Struct = named [] ∷ first Field
ending at.Unit = named [] ∷ marked mark.OpenParen ∷ first Input
ending (at.Params slot) = marked mark.OpenParen ∷ first slot
ending (at.First slot) = first slot
ending (at.Part slot) = part slot
ending (at.PartName slot) = marked mark.Colon ∷ typed slot
ending (at.Type slot) = typed slot
ending (at.Length slot) = marked (mark.Number 0) ∷ marked mark.CloseBracket ∷ typed slot
ending (at.LengthEnd slot) = marked mark.CloseBracket ∷ typed slot
ending (at.TypeEnd slot) = type_ended slot
ending at.Outputs = []
ending at.Returns = marked (mark.Scalar OfBool) ∷ []
ending at.Const = named [] ∷ marked mark.Colon ∷ marked (mark.Scalar OfBool) ∷ const_end
ending at.ConstName = marked mark.Colon ∷ marked (mark.Scalar OfBool) ∷ const_end
ending at.ConstType = marked (mark.Scalar OfBool) ∷ const_end
ending at.ConstTypeEnd = const_end
ending at.Value = value
ending at.Minus = value

type_ends : (slot : Slot) → accepts (at.TypeEnd slot) (type_ended slot) ≡ true
type_ends Field = refl
type_ends Input = refl
type_ends Output = refl

first_ends : (slot : Slot) → accepts (at.First slot) (first slot) ≡ true
first_ends Field = refl
first_ends Input = refl
first_ends Output = refl

ends : (state : State) → accepts state (ending state) ≡ true
ends at.Items = refl
ends at.Struct = refl
ends at.Unit = refl
ends (at.Params slot) = first_ends slot
ends (at.First slot) = first_ends slot
ends (at.Part slot) = type_ends slot
ends (at.PartName slot) = type_ends slot
ends (at.Type slot) = type_ends slot
ends (at.Length slot) = type_ends slot
ends (at.LengthEnd slot) = type_ends slot
ends (at.TypeEnd slot) = type_ends slot
ends at.Outputs = refl
ends at.Returns = refl
ends at.Const = refl
ends at.ConstName = refl
ends at.ConstType = refl
ends at.ConstTypeEnd = refl
ends at.Value = refl
ends at.Minus = refl

-- ---- what a reader knows

no_some : {A : Type 0} (a : A) → ◌≡◌ {A = Option A} None (Some a) → ⊥
no_some a e = cc

same_some : {A : Type 0} (a b : A) → Some a ≡ Some b → a ≡ b
same_some a b e = cc

-- the state behind lexemes that were read
reached : (front : List Lexeme) (r : Reader) → run (Some nothing_read) front ≡ Some r → travel (Some at.Items) front ≡ Some r.state
reached front r is = sym (run_travels (Some nothing_read) front) ∙ ap state_of is

pub begins_face : (front : List Lexeme) (r : Reader) → run (Some nothing_read) front ≡ Some r → BeginsFace front
begins_face front r is =
    let on : accepts at.Items (front ++ ending r.state) ≡ true =
    ap may_end (travel_append (Some at.Items) front (ending r.state) ∙ ap (λ (o : Option State). travel o (ending r.state)) (reached front r is)) ∙ ends r.state in
    let h = accepted_spells (front ++ ending r.state) on in
    (ending r.state, h.0, h.1)

pub begins_none : (front : List Lexeme) (l : Lexeme) (r : Reader) → run (Some nothing_read) front ≡ Some r → step r l ≡ None →
    ¬ BeginsFace (front ++ l ∷ [])
begins_none front l r is none b =
    let over : run (Some nothing_read) ((front ++ l ∷ []) ++ b.0) ≡ None =
    run_append (Some nothing_read) (front ++ l ∷ []) b.0
    ∙ ap (λ (o : Option Reader). run o b.0) (run_append (Some nothing_read) front (l ∷ []) ∙ ap (λ (o : Option Reader). run o (l ∷ [])) is ∙ gone)
    in
    no_some b.1 (sym (ap finish over) ∙ all_read b.2)
  where
    gone : run (Some r) (l ∷ []) ≡ None
    gone = ap (λ (o : Option Reader). run o []) none

pub one_more : (front : List Lexeme) (l : Lexeme) (r next : Reader) → run (Some nothing_read) front ≡ Some r → step r l ≡ Some next →
    run (Some nothing_read) (front ++ l ∷ []) ≡ Some next
one_more front l r next is steps = run_append (Some nothing_read) front (l ∷ [])
    ∙ ap (λ (o : Option Reader). run o (l ∷ [])) is ∙ ap (λ (o : Option Reader). run o []) steps

pub no_face : (whole : List Lexeme) (r : Reader) → run (Some nothing_read) whole ≡ Some r → read_items r ≡ None → IsNoFace whole
no_face whole r is none items spelled = no_some items (sym none ∙ sym (ap finish is) ∙ all_read spelled)

pub is_face : (whole : List Lexeme) (r : Reader) (items : List FaceItem) → run (Some nothing_read) whole ≡ Some r → read_items r ≡ Some items →
    SpellsItems items whole
is_face whole r items is done =
    let on : accepts at.Items whole ≡ true =
    ap may_end (sym (run_travels (Some nothing_read) whole)) ∙ finished_ends (run (Some nothing_read) whole) items (ap finish is ∙ done) in
    let h = accepted_spells whole on in
    subst (λ (its : List FaceItem). SpellsItems its whole) (same_some h.0 items (sym (all_read h.1) ∙ ap finish is ∙ done)) h.1

-- lexemes spell one list of items
pub one_face : (whole : List Lexeme) (items others : List FaceItem) → SpellsItems items whole → SpellsItems others whole → items ≡ others
one_face whole items others a b = same_some items others (sym (all_read a) ∙ all_read b)
