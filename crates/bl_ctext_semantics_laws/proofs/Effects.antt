-- What functions of a C text change.
use Rattle.std.proofs.Common.{◌≡◌, ℕ, zero, suc, ◌+◌, Bool, true, false, not, ◌&&◌, ◌||◌, List, [], ◌∷◌, ◌++◌, map, Option, Some, None, refl, ap, sym}
use Rattle.std.proofs.Common.{subst, ◌∙◌, arith}
use Rattle.std.specs.Prelude.{All, is_some, is_none, unwrap_or, if◌then◌else◌}
use Rattle.std.proofs.lemmas.List.Elements.{All-cons, All-head, All-nil, All-tail}
use Rattle.std.proofs.lemmas.Bool.{not-true}
use Rattle.bl_tree.proofs.Basics.{first_empty, second_empty}
use Rattle.bl_tree.specs.declared.text.Text.{Text}
use Rattle.bl_tree.specs.declared.place.Place.{Place}
use Rattle.bl_tree.specs.declared.scalar.Scalar.{Scalar}
use Rattle.bl_tree.specs.declared.c.CType.TheVariants.{Struct as OfStruct}
use Rattle.bl_tree.specs.declared.c.CArg.{CArg, fold-roll-CArg}
use Rattle.bl_tree.specs.declared.c.CCall.{CCall, fold-roll-CCall}
use Rattle.bl_tree.specs.declared.c.CExpr.{CExpr}
use Rattle.bl_tree.specs.declared.c.CPlace.{CPlace, fold-roll-CPlace}
use Rattle.bl_tree.specs.declared.c.CStmt.{CStmt, fold-roll-CStmt}
use Rattle.bl_tree.specs.declared.c.CStmtKind.{fold-roll-CStmtKind}
use Rattle.bl_tree.specs.declared.c.CStmtKind.TheOpen.{CStmtKind-F}
use Rattle.bl_tree.specs.Numbers.{is_one}
use Rattle.bl_tree.specs.Reduce.{any_of, joined}
use Rattle.bl_ctext.specs.declared.builtin.Builtin.{Builtin}
use Rattle.bl_ctext_semantics.specs.Builtin.{builtin_of}
use Rattle.bl_ctext_semantics.specs.Memory.{Projection, Root, variable, Location, CValue, Memory, scalar_number, same_root, set_at, with_part, zeros}
use Rattle.bl_ctext_semantics.specs.Course.{End, Outcome, breaks, ended_by, ending, following_end, goes_on, going, returns, traps, turn_end}
use Rattle.bl_ctext_semantics.specs.Course.{loop_with_turns, turn_limit, turn_or_none}
use Rattle.bl_ctext_semantics.specs.Meaning.{Counted, Evaluates, Meaning, ArgumentValue, by_address, by_value, Scope}
use Rattle.bl_ctext_semantics.specs.Meaning.{CStmtMeaning, block_c, block_of, call_c, called_after, called_as, each_of, executed}
use Rattle.bl_ctext_semantics.specs.Meaning.{further, given, going_on, location_c, named_location, next, once_more, runs_c, value_c, way_of}
use Rattle.bl_ctext_semantics.specs.Faults.{Context, JudgedArg, Signature, agree, arguments, assigned_type, block_faults, changes_nothing, condition_faults}
use Rattle.bl_ctext_semantics.specs.Faults.{declared_before, faults_in_stmt, fit_args, hands_on, judged_arg, judged_call, judged_expr, judged_place}
use Rattle.bl_ctext_semantics.specs.Faults.{signature_as, signature_of, unless}
use Rattle.bl_ctext_semantics.proofs.Folds.{arg_c, step_c}
use Rattle.bl_ctext_semantics.proofs.Induction.{ExprCases, Optional, StmtCases, induct_call, induct_place, induct_stmt, stmt}
use Rattle.bl_ctext_semantics_laws.proofs.Faultless.{unless-nil}
use Rattle.bl_ctext_semantics_laws.proofs.Running.{Ends, Keeps, Unsafe}
use Rattle.bl_ctext_semantics_laws.proofs.Standing.{root-is}

-- ---- answers

next-so : {A B : Type 0} (P : Option B → Type 0) (n : ℕ) (a : Option A) (f : A → Counted B) → P None →
    ((x : A) → a ≡ Some x → P (f x).answer) →
    P (going_on n a f).answer
next-so P n None f none rest = none
next-so P n (Some x) f none rest = rest x refl

module _ (safe : Root → Bool) where
  -- what isn't changed stays
  abbrev pub Stays : Memory → Memory → Type 0
  Stays memory after = (root : Root) → safe root ≡ true → after root ≡ memory root

  pub set-stays : (memory : Memory) (l : Location) (v : CValue) → safe l.root ≡ false → Stays memory (set_at memory l v)
  set-stays memory l v unsafe root is = chosen (same_root l.root root) refl
    where
      chosen : (b : Bool) → same_root l.root root ≡ b → (if b then with_part (memory root) l.parts v else memory root) ≡ memory root
      chosen false same = refl
      chosen true same = absurd (let x : true ≡ false = sym is ∙ ap safe (sym (root-is l.root root same)) ∙ unsafe in cc)

  -- a place that may change
  abbrev Leads : Option Location → Type 0
  Leads None = Unit {0}
  Leads (Some l) = safe l.root ≡ false

  abbrev LeadsArg : Option ArgumentValue → Type 0
  LeadsArg None = Unit {0}
  LeadsArg (Some (by_value v)) = Unit {0}
  LeadsArg (Some (by_address l)) = safe l.root ≡ false

  abbrev LeadsAll : Option (List ArgumentValue) → Type 0
  LeadsAll None = Unit {0}
  LeadsAll (Some passed) = Unsafe safe passed

  module _ (context : Context) (scope : Scope) (own : Ends safe scope.depth)
      (pointers : context.is_read_only ≡ false → (name : Text) (l : Location) → scope.pointers name ≡ Some l → safe l.root ≡ false)
      (functions : (name : Text) (s : Signature) (meaning : Meaning) → context.functions name ≡ Some s →
      scope.known name ≡ Some meaning → Keeps meaning s)
    where
      start-leads : (through : Bool) (name : Text) → (context.is_read_only && through) ≡ false → safe (named_location scope through name).root ≡ false
      start-leads false name h = own scope.depth name (omega arith)
      start-leads true name h = chosen (scope.pointers name) refl
        where
          plain : (b : Bool) → (b && true) ≡ false → b ≡ false
          plain true h = cc
          plain false h = refl

          chosen : (o : Option Location) → scope.pointers name ≡ o →
              safe (unwrap_or o (record { root = variable scope.depth name; parts = [] })).root ≡ false
          chosen None is = own scope.depth name (omega arith)
          chosen (Some l) is = pointers (plain context.is_read_only h) name l is

      abbrev Nothing : {X : Type 0} → X → Type 0
      Nothing x = Unit {0}

      abbrev OfPlace : CPlace → Type 0
      OfPlace p = (at : Place) → (context.is_read_only && (judged_place p context at).through) ≡ false → (memory : Memory) →
          Leads (location_c p scope memory).answer

      abbrev OfArg : CArg → Type 0
      OfArg a = (at : Place) → (context.is_read_only && ((judged_arg a context at).address && (judged_arg a context at).through)) ≡ false → (memory : Memory) →
          LeadsArg (arg_c a scope memory).answer

      abbrev OfCall : CCall → Type 0
      OfCall c = (at : Place) → (judged_call c context at).faults ≡ [] → (memory : Memory) → Stays memory (call_c c scope memory).memory

      place-leads : (through : Bool) (name : Text) (ways : Counted (List (List Projection))) → (context.is_read_only && through) ≡ false →
          Leads (next ways (λ w. given (Some (further (named_location scope through name) (way_of w))))).answer
      place-leads through name ways h =
          next-so Leads ways.count ways.answer (λ w. given (Some (further (named_location scope through name) (way_of w)))) tt
          (λ w is. start-leads through name h)

      value-leads : (v : Counted CValue) → LeadsArg (next v (λ x. given (Some (by_value x)))).answer
      value-leads v = next-so LeadsArg v.count v.answer (λ x. given (Some (by_value x))) tt (λ x is. tt)

      address-leads : (l : Counted Location) → Leads l.answer → LeadsArg (next l (λ x. given (Some (by_address x)))).answer
      address-leads l h = next-so LeadsArg l.count l.answer (λ x. given (Some (by_address x))) tt (λ x is. subst Leads is h)

      -- whether some argument is handed on
      abbrev Handed : List JudgedArg → Bool
      Handed js = any_of (map (λ a. a.address && a.through) js)

      no-first : (is_read_only a b : Bool) → (is_read_only && (a || b)) ≡ false → (is_read_only && a) ≡ false
      no-first true true b h = cc
      no-first true false b h = refl
      no-first false a b h = refl

      no-rest : (is_read_only a b : Bool) → (is_read_only && (a || b)) ≡ false → (is_read_only && b) ≡ false
      no-rest true true b h = cc
      no-rest true false b h = h
      no-rest false a b h = refl

      args-lead : (args : List CArg) → All OfArg args → (at : Place) →
          (context.is_read_only && Handed (map (λ judge. judge context at) (map judged_arg args))) ≡ false → (memory : Memory) →
          LeadsAll (each_of (map arg_c args) scope memory).answer
      args-lead [] h at none memory = tt
      args-lead (a ∷ args) h at none memory =
          let first = All-head OfArg a args h at (no-first context.is_read_only ((judged_arg a context at).address && (judged_arg a context at).through) _ none) memory
          in
          let rest = args-lead args (All-tail OfArg a args h) at
          (no-rest context.is_read_only ((judged_arg a context at).address && (judged_arg a context at).through) _ none) memory in
          next-so LeadsAll (arg_c a scope memory).count (arg_c a scope memory).answer
          (λ x. next (each_of (map arg_c args) scope memory) (λ others. given (Some (x ∷ others)))) tt
          (λ x is. next-so LeadsAll (each_of (map arg_c args) scope memory).count (each_of (map arg_c args) scope memory).answer
          (λ others. given (Some (x ∷ others))) tt
          (λ others at. both x others (subst LeadsArg is first) (subst LeadsAll at rest)))
        where
          both : (x : ArgumentValue) (others : List ArgumentValue) → LeadsArg (Some x) → Unsafe safe others → Unsafe safe (x ∷ others)
          both (by_value v) others h k = k
          both (by_address l) others h k = (h, k)

      called-stays : (name : Text) (s : Signature) (passed : List ArgumentValue) (memory : Memory) (b : Option Builtin)
          (o : Option Meaning) → scope.known name ≡ o →
          builtin_of name ≡ b → (b ≡ None → context.functions name ≡ Some s) →
          (is_some s.result ≡ false → Unsafe safe passed) → Stays memory (called_as b o (scope.depth + 1) passed memory).memory
      called-stays name s passed memory (Some b) o known is own-is handed root safe-root = refl
      called-stays name s passed memory None None known is own-is handed root safe-root = refl
      called-stays name s passed memory None (Some meaning) known is own-is handed root safe-root =
          (functions name s meaning (own-is refl) known).stay safe (scope.depth + 1) passed memory (λ d n deep. own d n (omega arith)) handed root safe-root

      signed : (b : Option Builtin) (o : Option Signature) (s : Signature) → signature_as b o ≡ Some s → b ≡ None → o ≡ Some s
      signed None o s h is = h
      signed (Some b) o s h is = cc

      after-stays : (name : Text) (s : Signature) (n : ℕ) (o : Option (List ArgumentValue)) (memory : Memory) → signature_of context name ≡ Some s →
          (is_some s.result ≡ false → LeadsAll o) →
          Stays memory (called_after scope memory name n o).memory
      after-stays name s n None memory is handed root safe-root = refl
      after-stays name s n (Some passed) memory is handed root safe-root =
          called-stays name s passed memory (builtin_of name) (scope.known name) refl refl (signed (builtin_of name) (context.functions name) s is) handed root
          safe-root

      void-handed : (is_read_only : Bool) (r : Option Scalar) (handed : Bool) → not (is_read_only && (is_none r && handed)) ≡ true → is_some r ≡ false →
          (is_read_only && handed) ≡ false
      void-handed false r handed h k = refl
      void-handed true None handed h k = not-true handed h
      void-handed true (Some t) handed h k = cc

      calling-stays : (name : Text) (args : List CArg) → All OfArg args → (at : Place) →
          unless (is_some (signature_of context name)) declared_before at
          ++ (joined (map (λ a. a.faults) (map (λ judge. judge context at) (map judged_arg args)))
          ++ (unless (fit_args (signature_of context name) (map (λ judge. judge context at) (map judged_arg args))) arguments at
          ++ unless (not (context.is_read_only && hands_on (signature_of context name) (map (λ judge. judge context at) (map judged_arg args)))) changes_nothing at))
          ≡ [] →
          (memory : Memory) → Stays memory
          (called_after scope memory name (each_of (map arg_c args) scope memory).count (each_of (map arg_c args) scope memory).answer).memory
      calling-stays name args h at none memory =
          chosen (signature_of context name) refl (unless-nil (is_some (signature_of context name)) declared_before at (first_empty _ _ none)) quiet
        where
          quiet : not (context.is_read_only && hands_on (signature_of context name) (map (λ judge. judge context at) (map judged_arg args))) ≡ true
          quiet =
              let h2 = second_empty (joined (map (λ a. a.faults) (map (λ judge. judge context at) (map judged_arg args)))) _
              (second_empty (unless (is_some (signature_of context name)) declared_before at) _ none) in
              unless-nil (not (context.is_read_only && hands_on (signature_of context name) (map (λ judge. judge context at) (map judged_arg args)))) changes_nothing
              at
              (second_empty (unless (fit_args (signature_of context name) (map (λ judge. judge context at) (map judged_arg args))) arguments at) _ h2)

          chosen : (o : Option Signature) → signature_of context name ≡ o → is_some o ≡ true →
              not (context.is_read_only && hands_on (signature_of context name) (map (λ judge. judge context at) (map judged_arg args))) ≡ true →
              Stays memory (called_after scope memory name (each_of (map arg_c args) scope memory).count (each_of (map arg_c args) scope memory).answer).memory
          chosen None is there q = cc
          chosen (Some s) is there q =
              after-stays name s (each_of (map arg_c args) scope memory).count (each_of (map arg_c args) scope memory).answer memory is
              (λ void. args-lead args h at
              (void-handed context.is_read_only s.result (Handed (map (λ judge. judge context at) (map judged_arg args)))
              (subst (λ o. not (context.is_read_only && hands_on o (map (λ judge. judge context at) (map judged_arg args))) ≡ true) is q) void) memory)

      effect_cases : ExprCases OfArg Nothing OfCall Nothing Nothing OfPlace Nothing
      effect_cases = record {
        value = λ e h at none memory. rw (fold-roll-CArg) (value-leads (value_c e scope memory));
        address = λ p h at none memory. rw (fold-roll-CArg) (address-leads (location_c p scope memory) (h at (rw (fold-roll-CArg) at none) memory));
        literal = λ t n. tt;
        read = λ p h. tt;
        call = λ c h. tt;
        negation = λ e h. tt;
        two = λ op a b h k. tt;
        calling = λ name args h at none memory. rw (fold-roll-CCall) (calling-stays name args h at (rw (fold-roll-CCall) at none) memory);
        expr = λ place what h. tt;
        index = λ signed e length h. tt;
        place = λ through name steps h at none memory. rw (fold-roll-CPlace)
            (place-leads through name (each_of (map step_c steps) scope memory) (rw (fold-roll-CPlace) at none));
        step = λ name i h. tt;
      }

      place-changes : (p : CPlace) → OfPlace p
      place-changes = induct_place OfArg Nothing OfCall Nothing Nothing OfPlace Nothing effect_cases

      call-stays : (c : CCall) → OfCall c
      call-stays = induct_call OfArg Nothing OfCall Nothing Nothing OfPlace Nothing effect_cases

      -- ---- statements

      abbrev OfStmt : CStmt → Type 0
      OfStmt s = (looped : Bool) → faults_in_stmt s context looped ≡ [] → (memory : Memory) → Stays memory (runs_c s scope memory).memory

      ended-stays : {A : Type 0} (first memory : Memory) (n : ℕ) (a : Option A) (f : A → Outcome Memory) → Stays first memory →
          ((x : A) → a ≡ Some x → Stays first (f x).memory) → Stays first (ended_by memory n a f).memory
      ended-stays first memory n None f h rest = h
      ended-stays first memory n (Some x) f h rest = rest x refl

      itself : (memory : Memory) → Stays memory memory
      itself memory root is = refl

      then-stays : (first memory after : Memory) → Stays first memory → Stays memory after → Stays first after
      then-stays first memory after h k root is = k root is ∙ h root is

      following-stays : (first : Memory) (n : ℕ) (memory : Memory) (end : End) (rest : Memory → Outcome Memory) → Stays first memory →
          Stays memory (rest memory).memory → Stays first (following_end n memory end rest).memory
      following-stays first n memory goes_on rest h k = then-stays first memory (rest memory).memory h k
      following-stays first n memory breaks rest h k = h
      following-stays first n memory (returns v) rest h k = h
      following-stays first n memory traps rest h k = h

      turn-end-stays : (first : Memory) (n : ℕ) (memory : Memory) (end : End) (again : Memory → Outcome Memory) → Stays first memory →
          Stays memory (again memory).memory → Stays first (turn_end n memory end again).memory
      turn-end-stays first n memory goes_on again h k = then-stays first memory (again memory).memory h k
      turn-end-stays first n memory breaks again h k = h
      turn-end-stays first n memory (returns v) again h k = h
      turn-end-stays first n memory traps again h k = h

      turn-stays : (b : Bool) (memory : Memory) (turn : Memory → Outcome Memory) → Stays memory (turn memory).memory →
          Stays memory (turn_or_none b memory turn).memory
      turn-stays true memory turn h = h
      turn-stays false memory turn h = itself memory

      turns-stay : (n : ℕ) (condition : Evaluates CValue) (body : CStmtMeaning) → ((m : Memory) → Stays m (body scope m).memory) → (memory : Memory) →
          Stays memory (loop_with_turns n (once_more condition scope) (body scope) memory).memory
      unfolding loop_with_turns
      turns-stay zero condition body h memory =
          ended-stays memory memory (condition scope memory).count (condition scope memory).answer
          (λ v. turn_or_none (is_one (scalar_number v)) memory (λ m. record { memory = m; end = traps; count = 0 })) (itself memory)
          (λ v is. turn-stays (is_one (scalar_number v)) memory (λ m. record { memory = m; end = traps; count = 0 }) (itself memory))
      turns-stay (suc n) condition body h memory =
          ended-stays memory memory (condition scope memory).count (condition scope memory).answer
          (λ v. turn_or_none (is_one (scalar_number v)) memory
          (λ m. turn_end (body scope m).count (body scope m).memory (body scope m).end (loop_with_turns n (once_more condition scope) (body scope))))
          (itself memory)
          (λ v is. turn-stays (is_one (scalar_number v)) memory
          (λ m. turn_end (body scope m).count (body scope m).memory (body scope m).end (loop_with_turns n (once_more condition scope) (body scope)))
          (turn-end-stays memory (body scope memory).count (body scope memory).memory (body scope memory).end
          (loop_with_turns n (once_more condition scope) (body scope))
          (h memory)
          (turns-stay n condition body h (body scope memory).memory)))

      block-stays : (stmts : List CStmt) → All OfStmt stmts → (looped : Bool) → block_faults (map faults_in_stmt stmts) context looped ≡ [] →
          (memory : Memory) →
          Stays memory (block_of (map runs_c stmts) scope memory).memory
      block-stays [] h looped none memory = itself memory
      block-stays (s ∷ stmts) h looped none memory =
          following-stays memory (runs_c s scope memory).count (runs_c s scope memory).memory (runs_c s scope memory).end
          (λ m. block_of (map runs_c stmts) scope m)
          (All-head OfStmt s stmts h looped (first_empty _ _ none) memory)
          (block-stays stmts (All-tail OfStmt s stmts h) looped (second_empty (faults_in_stmt s context looped) _ none) (runs_c s scope memory).memory)

      place-unsafe : (p : CPlace) (at : Place) → not (context.is_read_only && (judged_place p context at).through) ≡ true → (memory : Memory) (l : Location) →
          (location_c p scope memory).answer ≡ Some l → safe l.root ≡ false
      place-unsafe p at quiet memory l is = subst Leads is (place-changes p at (not-true (context.is_read_only && (judged_place p context at).through) quiet) memory)

      written-so : (memory : Memory) (l : Location) (n : ℕ) (a : Option CValue) (after : Memory) → safe l.root ≡ false →
          (going_on n a (λ v. given (Some (set_at memory l v)))).answer ≡ Some after → Stays memory after
      written-so memory l n None after unsafe h = cc
      written-so memory l n (Some v) after unsafe h = subst (Stays memory) (some_memory (set_at memory l v) after h) (set-stays memory l v unsafe)
        where
          some_memory : (a b : Memory) → Some a ≡ Some b → a ≡ b
          some_memory a b h = cc

      set-so : (memory : Memory) (n : ℕ) (o : Option Location) (v : Counted CValue) (after : Memory) →
          ((l : Location) → o ≡ Some l → safe l.root ≡ false) →
          (going_on n o (λ l. next v (λ x. given (Some (set_at memory l x))))).answer ≡ Some after → Stays memory after
      set-so memory n None v after unsafe h = cc
      set-so memory n (Some l) v after unsafe h = written-so memory l v.count v.answer after (unsafe l refl) h

      set-case : (at : Place) (p : CPlace) (e : CExpr) →
          (judged_place p context at).faults
          ++ ((judged_expr e context).faults ++ (unless (agree (judged_place p context at).ty (judged_expr e context).ty) assigned_type at
          ++ unless (not (context.is_read_only && (judged_place p context at).through)) changes_nothing at)) ≡ [] →
          (memory : Memory) → Stays memory
          (executed memory (next (location_c p scope memory) (λ l. next (value_c e scope memory) (λ v. given (Some (set_at memory l v))))) going).memory
      set-case at p e none memory =
          let h1 = second_empty (judged_place p context at).faults _ none in
          let h2 = second_empty (judged_expr e context).faults _ h1 in
          let quiet = unless-nil (not (context.is_read_only && (judged_place p context at).through)) changes_nothing at
          (second_empty (unless (agree (judged_place p context at).ty (judged_expr e context).ty) assigned_type at) _ h2) in
          ended-stays memory memory (1 + (next (location_c p scope memory)
          (λ l. next (value_c e scope memory) (λ v. given (Some (set_at memory l v))))).count)
          (next (location_c p scope memory) (λ l. next (value_c e scope memory) (λ v. given (Some (set_at memory l v))))).answer going (itself memory)
          (λ after is. set-so memory (location_c p scope memory).count (location_c p scope memory).answer (value_c e scope memory) after
          (λ l at-l. place-unsafe p at quiet memory l at-l) is)

      clear-case : (at : Place) (p : CPlace) (name : Text) →
          (judged_place p context at).faults
          ++ (unless (is_some (context.structs name)) declared_before at
          ++ (unless (agree (judged_place p context at).ty (Some (OfStruct name))) assigned_type at
          ++ unless (not (context.is_read_only && (judged_place p context at).through)) changes_nothing at)) ≡ [] →
          (memory : Memory) → Stays memory (executed memory (location_c p scope memory) (λ l. going (set_at memory l zeros))).memory
      clear-case at p name none memory =
          let h1 = second_empty (judged_place p context at).faults _ none in
          let h2 = second_empty (unless (is_some (context.structs name)) declared_before at) _ h1 in
          let quiet = unless-nil (not (context.is_read_only && (judged_place p context at).through)) changes_nothing at
          (second_empty (unless (agree (judged_place p context at).ty (Some (OfStruct name))) assigned_type at) _ h2) in
          ended-stays memory memory (1 + (location_c p scope memory).count) (location_c p scope memory).answer (λ l. going (set_at memory l zeros))
          (itself memory)
          (λ l is. set-stays memory l zeros (place-unsafe p at quiet memory l is))

      choose-stays : (b : Bool) (f g : CStmtMeaning) (memory : Memory) → Stays memory (f scope memory).memory → Stays memory (g scope memory).memory →
          Stays memory ((if b then f else g) scope memory).memory
      choose-stays true f g memory h k = h
      choose-stays false f g memory h k = k

      if-stays : (e : CExpr) (block other : CStmtMeaning) (memory : Memory) → Stays memory (block scope memory).memory →
          Stays memory (other scope memory).memory →
          Stays memory (executed memory (value_c e scope memory) (λ v. (if is_one (scalar_number v) then block else other) scope memory)).memory
      if-stays e block other memory h k =
          ended-stays memory memory (1 + (value_c e scope memory).count) (value_c e scope memory).answer
          (λ v. (if is_one (scalar_number v) then block else other) scope memory) (itself memory)
          (λ v is. choose-stays (is_one (scalar_number v)) block other memory h k)

      branching-case : (at : Place) (e : CExpr) (block : List CStmt) (other : Option (List CStmt)) → All OfStmt block → Optional (All OfStmt) other →
          OfStmt (stmt at (CStmtKind-F.If e block other))
      branching-case at e block None h o looped none memory =
          let n : condition_faults e context ++ (block_faults (map faults_in_stmt block) context looped ++ []) ≡ [] =
          rw (fold-roll-CStmt, fold-roll-CStmtKind) at none in
          rw (fold-roll-CStmt, fold-roll-CStmtKind)
          (if-stays e (block_of (map runs_c block)) (block_of []) memory
          (block-stays block h looped (first_empty _ _ (second_empty (condition_faults e context) _ n)) memory) (itself memory))
      branching-case at e block (Some other) h o looped none memory =
          let n : condition_faults e context
          ++ (block_faults (map faults_in_stmt block) context looped ++ block_faults (map faults_in_stmt other) context looped) ≡ [] =
          rw (fold-roll-CStmt, fold-roll-CStmtKind) at none in
          let n2 = second_empty (condition_faults e context) _ n in
          rw (fold-roll-CStmt, fold-roll-CStmtKind)
          (if-stays e (block_of (map runs_c block)) (block_of (map runs_c other)) memory (block-stays block h looped (first_empty _ _ n2) memory)
          (block-stays other o looped (second_empty (block_faults (map faults_in_stmt block) context looped) _ n2) memory))

      returning-case : (at : Place) (e : Option CExpr) → OfStmt (stmt at (CStmtKind-F.Return e))
      returning-case at None looped none memory = rw (fold-roll-CStmt, fold-roll-CStmtKind) (itself memory)
      returning-case at (Some e) looped none memory =
          rw (fold-roll-CStmt, fold-roll-CStmtKind)
          (ended-stays memory memory (1 + (value_c e scope memory).count) (value_c e scope memory).answer (λ v. ending (returns (scalar_number v)) memory)
          (itself memory)
          (λ v is. itself memory))

      stmt_cases : StmtCases OfStmt
      stmt_cases = record {
        set = λ at p e looped none memory. rw (fold-roll-CStmt, fold-roll-CStmtKind)
            (set-case at p e (rw (fold-roll-CStmt, fold-roll-CStmtKind) at none) memory);
        clear = λ at p name looped none memory. rw (fold-roll-CStmt, fold-roll-CStmtKind)
            (clear-case at p name (rw (fold-roll-CStmt, fold-roll-CStmtKind) at none) memory);
        call = λ at c looped none memory. rw (fold-roll-CStmt, fold-roll-CStmtKind)
            (call-stays c at (rw (fold-roll-CStmt, fold-roll-CStmtKind) at none) memory);
        branching = branching-case;
        loop = λ at turn e body h looped none memory.
            let n : condition_faults e context ++ block_faults (map faults_in_stmt body) context true ≡ [] =
            rw (fold-roll-CStmt, fold-roll-CStmtKind) at none in
            rw (fold-roll-CStmt, fold-roll-CStmtKind)
            (turns-stay turn_limit (value_c e) (block_of (map runs_c body)) (λ m. block-stays body h true (second_empty (condition_faults e context) _ n) m)
            memory);
        break = λ at looped none memory. rw (fold-roll-CStmt, fold-roll-CStmtKind) (itself memory);
        returns = returning-case;
      }

      stmt-stays : (s : CStmt) → OfStmt s
      stmt-stays = induct_stmt OfStmt stmt_cases

      every-stmt : (stmts : List CStmt) → All OfStmt stmts
      every-stmt [] = All-nil OfStmt
      every-stmt (s ∷ stmts) = All-cons OfStmt s stmts (stmt-stays s) (every-stmt stmts)

      -- a body changes nothing but what may change
      pub body-stays : (stmts : List CStmt) (looped : Bool) → block_faults (map faults_in_stmt stmts) context looped ≡ [] → (memory : Memory) →
          Stays memory (block_c stmts scope memory).memory
      body-stays stmts looped none memory = block-stays stmts (every-stmt stmts) looped none memory
