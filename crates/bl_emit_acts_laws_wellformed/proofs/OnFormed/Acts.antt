-- The statements of acts: nothing fails in them.
use Rattle.std.proofs.Common.{◌≡◌, Bool, true, false, not, ◌&&◌, List, [], ◌∷◌, ◌++◌, map, Some}
use Rattle.std.proofs.Common.{refl, ap, ◌∙◌, subst}
use Rattle.std.specs.Prelude.{is_none, is_some}
use Rattle.bl_tree.specs.declared.text.Text.{Text}
use Rattle.bl_tree.specs.declared.c.CArg.{CArg}
use Rattle.bl_tree.specs.declared.c.CCall.{CCall}
use Rattle.bl_tree.specs.declared.c.CExpr.{CExpr}
use Rattle.bl_tree.specs.declared.c.CPlace.{CPlace}
use Rattle.bl_tree.specs.declared.c.CStmt.{CStmt, fold-roll-CStmt, roll-CStmt}
use Rattle.bl_tree.specs.declared.c.CStmtKind.{CStmtKind, CStmtKind-F, fold-roll-CStmtKind}
use Rattle.bl_tree.specs.declared.c.CStmtKind.TheVariants as statement
use Rattle.bl_tree.specs.declared.c.CType.{CType}
use Rattle.bl_tree.specs.declared.c.CType.TheVariants.{Struct as OfStruct}
use Rattle.bl_tree.specs.Reduce.{any_of}
use Rattle.bl_ctext_semantics.specs.Faults.{Context, Fault, Judged, JudgedArg, JudgedCall, JudgedPlace, Signature, agree, arguments, assigned_type}
use Rattle.bl_ctext_semantics.specs.Faults.{block_faults, changes_nothing, declared_before, faults_in_stmt, fit_each, judged_call, judged_expr, judged_place}
use Rattle.bl_ctext_semantics.specs.Faults.{same_type, signature_of, unless}
use Rattle.bl_emit_acts.specs.Acts.{c_calling, c_clear, c_set}
use Rattle.bl_emit_acts.specs.Trees.{c_call, nowhere}
use Rattle.bl_emit_acts_laws_wellformed.specs.Formed.Formed.{BlockIs, ExprIs, PlaceIs, StmtIs}
use Rattle.bl_emit_acts_laws_wellformed.proofs.OnFormed.Judged.{call-judged, call_of, faults_of_args, judged_args, kept}
use Rattle.bl_emit_acts_laws_wellformed.proofs.OnFormed.Prelude.{type_same}
use Rattle.bl_emit_acts_laws_simulation.proofs.Statements.{what}

pub block_nil : (context : Context) → BlockIs context []
block_nil context looped = refl

pub block_cons : (context : Context) (s : CStmt) (rest : List CStmt) → StmtIs context s → BlockIs context rest → BlockIs context (s ∷ rest)
block_cons context s rest one more looped = (λ i. one looped i ++ more looped i)

pub block_one : (context : Context) (s : CStmt) → StmtIs context s → BlockIs context (s ∷ [])
block_one context s one = block_cons context s [] one (block_nil context)

pub block_append : (context : Context) (first second : List CStmt) → BlockIs context first → BlockIs context second → BlockIs context (first ++ second)
block_append context first second one other looped = appended first (one looped)
  where
    none_front : {A : Type 0} (xs ys : List A) → xs ++ ys ≡ [] → (xs ≡ []) × (ys ≡ [])
    none_front [] ys is = (refl, is)
    none_front (x ∷ xs) ys is = absurd (cc)

    appended : (first : List CStmt) → block_faults (map faults_in_stmt first) context looped ≡ [] →
        block_faults (map faults_in_stmt (first ++ second)) context looped ≡ []
    appended [] none = other looped
    appended (s ∷ rest) none =
        let both = none_front (faults_in_stmt s context looped) (block_faults (map faults_in_stmt rest) context looped) none in
        (λ i. both.0 i ++ appended rest both.1 i)

-- what begins with a pointer isn't written where nothing may be changed
abbrev pub Allowed : Context → Bool → Type 0
Allowed context through = (context.is_read_only && through) ≡ false

module _ (context : Context) where
  -- ---- an assignment

  abbrev set_faults : JudgedPlace → Judged → List Fault
  set_faults p e =
      p.faults ++ (e.faults ++ (unless (agree p.ty e.ty) assigned_type nowhere ++ unless (not (context.is_read_only && p.through)) changes_nothing nowhere))

  set-open : (place : CPlace) (value : CExpr) (looped : Bool) →
      faults_in_stmt (what (CStmtKind-F.Set place value)) context looped ≡ set_faults (judged_place place context nowhere) (judged_expr value context)
  set-open place value looped = rw (fold-roll-CStmt, fold-roll-CStmtKind) refl

  set-judged : (place : CPlace) (value : CExpr) (looped : Bool) →
      faults_in_stmt (c_set place value) context looped ≡ set_faults (judged_place place context nowhere) (judged_expr value context)
  set-judged place value looped =
      subst (λ (k : CStmtKind). faults_in_stmt (roll-CStmt (record { place = nowhere; what = k })) context looped
      ≡ set_faults (judged_place place context nowhere) (judged_expr value context))
      (statement.rolls-Set place value) (set-open place value looped)

  allowed_kept : (through : Bool) → Allowed context through → unless (not (context.is_read_only && through)) changes_nothing nowhere ≡ []
  allowed_kept through allowed = kept (not (context.is_read_only && through)) changes_nothing nowhere (ap not allowed)

  pub set-is : (through : Bool) (ty : CType) (place : CPlace) (value : CExpr) → PlaceIs context through ty place → ExprIs context ty value →
      Allowed context through → StmtIs context (c_set place value)
  set-is through ty place value at is allowed looped =
      set-judged place value looped ∙ (λ i. set_faults (at nowhere i) (is i))
      ∙ (λ i. kept (same_type ty ty) assigned_type nowhere (type_same ty) i ++ allowed_kept through allowed i)

  -- ---- a struct of zeros

  abbrev clear_faults : Text → JudgedPlace → List Fault
  clear_faults name p =
      p.faults ++ (unless (is_some (context.structs name)) declared_before nowhere
      ++ (unless (agree p.ty (Some (OfStruct name))) assigned_type nowhere
      ++ unless (not (context.is_read_only && p.through)) changes_nothing nowhere))

  clear-open : (place : CPlace) (name : Text) (looped : Bool) →
      faults_in_stmt (what (CStmtKind-F.Clear place name)) context looped ≡ clear_faults name (judged_place place context nowhere)
  clear-open place name looped = rw (fold-roll-CStmt, fold-roll-CStmtKind) refl

  clear-judged : (place : CPlace) (name : Text) (looped : Bool) →
      faults_in_stmt (c_clear place name) context looped ≡ clear_faults name (judged_place place context nowhere)
  clear-judged place name looped =
      subst (λ (k : CStmtKind). faults_in_stmt (roll-CStmt (record { place = nowhere; what = k })) context looped
      ≡ clear_faults name (judged_place place context nowhere))
      (statement.rolls-Clear place name) (clear-open place name looped)

  pub clear-is : (through : Bool) (place : CPlace) (name : Text) → PlaceIs context through
      (OfStruct name) place → is_some (context.structs name) ≡ true →
      Allowed context through → StmtIs context (c_clear place name)
  clear-is through place name at there allowed looped =
      clear-judged place name looped ∙ ap (clear_faults name) (at nowhere)
      ∙ (λ i. kept (is_some (context.structs name)) declared_before nowhere there i
      ++ (kept (same_type (OfStruct name) (OfStruct name)) assigned_type nowhere (type_same (OfStruct name)) i ++ allowed_kept through allowed i))

  -- ---- a call

  calling-open : (call : CCall) (looped : Bool) → faults_in_stmt (what (CStmtKind-F.Call call)) context looped ≡ (judged_call call context nowhere).faults
  calling-open call looped = rw (fold-roll-CStmt, fold-roll-CStmtKind) refl

  calling-judged : (call : CCall) (looped : Bool) → faults_in_stmt (c_calling call) context looped ≡ (judged_call call context nowhere).faults
  calling-judged call looped =
      subst (λ (k : CStmtKind). faults_in_stmt (roll-CStmt (record { place = nowhere; what = k })) context looped ≡
      (judged_call call context nowhere).faults)
      (statement.rolls-Call call) (calling-open call looped)

  -- no argument hands on a pointer where nothing may be changed
  abbrev pub NoneHanded : List JudgedArg → Type 0
  NoneHanded args = (context.is_read_only && any_of (map (λ (a : JudgedArg). a.address && a.through) args)) ≡ false

  handed : (void is_read_only any : Bool) → (is_read_only && any) ≡ false → not (is_read_only && (void && any)) ≡ true
  handed true is_read_only any h = ap not h
  handed false true any h = refl
  handed false false any h = refl

  call_faults : (s : Signature) (args : List JudgedArg) → fit_each s.widens s.params args ≡ true → faults_of_args args ≡ [] → NoneHanded args →
      (call_of context (Some s) args nowhere).faults ≡ []
  call_faults s args fit none plain =
      (λ i. none i ++ (kept (fit_each s.widens s.params args) arguments nowhere fit i
      ++ kept (not (context.is_read_only && (is_none s.result && any_of (map (λ (a : JudgedArg). a.address && a.through) args)))) changes_nothing nowhere
      (handed (is_none s.result) context.is_read_only (any_of (map (λ (a : JudgedArg). a.address && a.through) args)) plain) i))

  pub calling-is : (name : Text) (args : List CArg) (s : Signature) → signature_of context name ≡ Some s →
      fit_each s.widens s.params (judged_args context args nowhere) ≡ true → faults_of_args (judged_args context args nowhere) ≡ [] →
      NoneHanded (judged_args context args nowhere) → StmtIs context (c_calling (c_call name args))
  calling-is name args s known fit none plain looped =
      calling-judged (c_call name args) looped ∙ ap (λ (c : JudgedCall). c.faults) (call-judged context name args nowhere)
      ∙ ap (λ o. (call_of context o (judged_args context args nowhere) nowhere).faults) known
      ∙ call_faults s (judged_args context args nowhere) fit none plain
