use Rattle.std.proofs.Common.{◌≡◌, ◌∙◌, Bool, false, refl, subst, sym}
use Rattle.std.proofs.lemmas.Bool.{true≢false}
use Rattle.std.specs.Prelude.{IfOk, IsTrue, Ok, Err, Result, ◌↔◌}
use Rattle.serde_json.specs.View.{view}
use Rattle.bl_lsp.specs.Written.{IsMessage}
use Rattle.bl_lsp_session.proofs.OnHearing.{heard_garbled, heard_told}
use Rattle.bl_lsp_session.proofs.hearing.hear.Goals as goal

-- three facts of what a call returns are one
of-three : {T E : Type 0} (r : Result T E) (A B C D : T → Type 0) → ((x : T) → A x → B x → C x → D x) → IfOk r A → IfOk r B → IfOk r C → IfOk r D
of-three (Ok x) A B C D f a b c = f x a b c
of-three (Err e) A B C D f a b c = tt

-- a test that is false
not-so : (b : Bool) (A : Type 0) → (IsTrue b ↔ A) → b ≡ false → ¬ A
not-so b A is fails = λ a. true≢false (sym (is.1 a) ∙ fails)

pub returns-in-Ok : goal.returns-in-Ok
returns-in-Ok c =
    of-three c.hear_message.result _ _ _ _
    (λ heard sent phase left. heard_told c.args.phase c.args.content.now (view c.in-Ok.message) heard c.in-Ok.ensures.ok.1 sent phase left)
    c.hear_message.ensures.sent c.hear_message.ensures.phase c.hear_message.ensures.left

pub returns-in_ok-sent-in-Err : goal.returns-in_ok-sent-in-Err
returns-in_ok-sent-in-Err c =
    heard_garbled c.args.phase c.args.content.now _ (c.in-Err.ensures.err (not-so c.is_memory.result _ c.is_memory.ensures c.if-is_memory.false))
    (subst (λ message. IsMessage message c.in_ok-sent-in-Err.sent.items) c.in_ok-refusal-in-Err.ensures c.in_ok-sent-in-Err.ensures) refl refl
