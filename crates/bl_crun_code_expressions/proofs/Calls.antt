-- The code of calls of functions of the file.
use Rattle.std.proofs.Common.{◌≡◌, ℕ, Bool, List, [], ◌∷◌, ◌++◌, map, length, Option, None, refl, ap, sym}
use Rattle.std.proofs.Common.{◌∙◌, append_assoc}
use Rattle.std.proofs.lemmas.List.{length-map}
use Rattle.bl_tree.specs.declared.text.Text.{Text}
use Rattle.bl_tree.specs.declared.c.CArg.{CArg}
use Rattle.bl_tree.specs.declared.c.CCall.{CCall, fold-roll-CCall, out-CCall, roll-CCall, roll-out-CCall}
use Rattle.bl_ctext_semantics.specs.Builtin.{builtin_of}
use Rattle.bl_ctext_semantics_laws.specs.Reaching.{Ground}
use Rattle.bl_crun_code.specs.declared.instruction.Operand.{Operand}
use Rattle.bl_crun_code.specs.Code.{Code, FunctionEntry, Valued, arg_code, args_calm, args_code, call_into, call_valued, code_of_call, known_call, uncounted}
use Rattle.bl_crun_code_expressions.specs.Parts.{args_of}

call-is : (here : Ground FunctionEntry) (called : CCall) → code_of_call called here
    ≡ call_valued here (builtin_of (out-CCall called).name) (here.known (out-CCall called).name) (args_of here (out-CCall called).args)
call-is here called =
    let args : List CArg = (out-CCall called).args in
    let name : Text = (out-CCall called).name in
    let level : code_of_call (roll-CCall (out-CCall called)) here ≡ call_valued here (builtin_of name) (here.known name) (args_of here args) =
    rw fold-roll-CCall refl in
    ap (λ x. code_of_call x here) (sym (roll-out-CCall called)) ∙ level

module _ (here : Ground FunctionEntry) (called : CCall) (late : Bool) (depth : ℕ) (into : Operand) where
  abbrev given : List Valued
  given = args_of here (out-CCall called).args

  -- a call of a function of the file
  known-called : builtin_of (out-CCall called).name ≡ None →
      args_code (args_calm given) depth given
      ++ uncounted (known_call here depth (length (out-CCall called).args) into (here.known (out-CCall called).name)) ∷ []
      ≡ (code_of_call called here).into late depth into
  known-called is =
      let known : Option FunctionEntry = here.known (out-CCall called).name in
      let args : List CArg = (out-CCall called).args in
      let long : length args ≡ length given =
      sym (length-map args arg_code) ∙ sym (length-map (map arg_code args) (λ arg. arg here)) in
      ap (λ n. args_code (args_calm given) depth given ++ uncounted (known_call here depth n into known) ∷ []) long
      ∙ ap (λ b. call_into here b known given late depth into) (sym is)
      ∙ ap (λ (v : Valued). v.into late depth into) (sym (call-is here called))

  -- a call of a function of the file is over
  pub known-done : (asked args : List CArg) (found : Text) (calm : Bool) (old put new : Code) → builtin_of found ≡ None →
      found ≡ (out-CCall called).name → asked ≡ (out-CCall called).args → args ≡ (out-CCall called).args → calm ≡ args_calm (args_of here asked) →
      put ≡ uncounted (known_call here depth (length (out-CCall called).args) into (here.known (out-CCall called).name)) ∷ old →
      new ≡ args_code calm depth (args_of here args) ++ put → new ≡ (code_of_call called here).into late depth into ++ old
  known-done asked args found calm old put new none found-is asked-are args-are calm-is put-is new-is =
      let last : Code = uncounted (known_call here depth (length (out-CCall called).args) into (here.known (out-CCall called).name)) ∷ [] in
      new-is ∙ ap (λ l. args_code calm depth (args_of here l) ++ put) args-are
      ∙ ap (λ b. args_code b depth given ++ put) (calm-is ∙ ap (λ l. args_calm (args_of here l)) asked-are)
      ∙ ap (λ c. args_code (args_calm given) depth given ++ c) put-is
      ∙ sym (append_assoc (args_code (args_calm given) depth given) last old)
      ∙ ap (λ c. c ++ old) (known-called (sym (ap builtin_of found-is) ∙ none))
