-- A unit returns as its result asks, where rule Return doesn't fail.
use Rattle.std.proofs.Common.{◌≡◌, List, [], ◌∷◌, ◌++◌, map, Option, Some, None, refl, ap, sym, ◌∙◌}
use Rattle.std.specs.Prelude.{Bool, true, false, ◌&&◌, ◌||◌, is_none, nat_eq, if◌then◌else◌}
use Rattle.std.specs.List.{cons_option}
use Rattle.std.proofs.lemmas.Bool.{and_from}
use Rattle.bl_tree.proofs.Basics.{and_first, and_second, first_empty, second_empty}
use Rattle.bl_tree.specs.declared.rule.Rule.TheVariants as rule
use Rattle.bl_tree.specs.declared.tree.Stmt.{Stmt}
use Rattle.bl_tree.specs.declared.tree.Unit.{Unit as UnitDef}
use Rattle.bl_tree.specs.Reduce.{all_of}
use Rattle.bl_tree.specs.Returns.{activity_returns, function_returns, is_return, last_of, returns_last_alone, surely_returns, unit_returns}
use Rattle.bl_tree.specs.Typing.{TypingContext, is_activity}
use Rattle.bl_eval.proofs.OperatorFits.{some_found}
use Rattle.bl_names_tree.specs.declared.item.NamedConstant.{NamedConstant}
use Rattle.bl_names_tree.specs.declared.item.NamedUnit.{NamedUnit}
use Rattle.bl_names_tree.specs.declared.item.NamedVar.{NamedVar}
use Rattle.bl_names_tree.specs.declared.stmt.NamedStmt.{NamedStmt, out-NamedStmt}
use Rattle.bl_names_tree.specs.declared.stmt.NamedStmtKind.{out-NamedStmtKind}
use Rattle.bl_names_tree.specs.declared.stmt.NamedStmtKind.TheOpen.{NamedStmtKind-F}
use Rattle.bl_names_tree.specs.Placed.{DeclaredBefore, in_turn, stmt_step}
use Rattle.bl_types.specs.declared.environment.Environment.{Environment}
use Rattle.bl_types.specs.Failures.{unless}
use Rattle.bl_types.specs.Returns.{activity_returns as named_activity_returns, function_returns as named_function_returns, is_return as named_is_return}
use Rattle.bl_types.specs.Returns.{is_return_kind as named_return_kind, return_failures, strays, surely_returns as named_surely_returns}
use Rattle.bl_types.specs.Statements.{Block, in_order, walked_stmt}
use Rattle.bl_types_laws.specs.Standing.{Around, Known, stmt_named}
use Rattle.bl_types_laws.specs.Within.{known_in}
use Rattle.bl_types_laws.proofs.Blocks.{statement_fits}
use Rattle.bl_types_laws.proofs.Forms.{unless_holds}
use Rattle.bl_types_laws.proofs.LastReturns.{body_alone, return_returned, stmt_whole}
use Rattle.bl_types_laws.proofs.Returning.{bodies_return, named_kind_surely, named_surely_is, statement_returns}
use Rattle.bl_types_laws.proofs.StmtLayers.{Layer}
use Rattle.bl_types_laws.proofs.Walks.{grown_around}

kind_surely : (layer : Layer) → named_return_kind layer ≡ true → named_kind_surely layer ≡ true
kind_surely (NamedStmtKind-F.Return e) is = refl
kind_surely _ is = absurd (cc)

-- a `return` surely returns
return_surely : (s : NamedStmt) → named_is_return s ≡ true → named_surely_returns s ≡ true
return_surely s is =
    ap named_surely_returns (sym (stmt_whole s)) ∙ named_surely_is (out-NamedStmt s).place (out-NamedStmtKind (out-NamedStmt s).what)
    ∙ kind_surely (out-NamedStmtKind (out-NamedStmt s).what) is

last_front : (made : Option Stmt) (rest : List Stmt) → last_of (map is_return rest) ≡ true → last_of (map is_return (cons_option made rest)) ≡ true
last_front None rest is = is
last_front (Some a) [] is = absurd (cc)
last_front (Some a) (b ∷ rest) is = is

either_by : (a b c d : Bool) → (a || b) ≡ true → (a ≡ true → c ≡ true) → (b ≡ true → d ≡ true) → (c || d) ≡ true
either_by true b c d is one other = ap (λ c. c || d) (one refl)
either_by false b c d is one other = ap (λ d. c || d) (other is) ∙ or_true c
  where
    or_true : (c : Bool) → (c || true) ≡ true
    or_true true = refl
    or_true false = refl

module _ (constants : List NamedConstant) (vars : List NamedVar) (site : TypingContext) where
  -- a body whose last statement is a `return` is made one
  body_last : (body : List NamedStmt) → all_of (map (stmt_named constants vars site.earlier) body) ≡ true →
      last_of (map named_is_return body) ≡ true →
      (env : Environment) → Around env site → Known env → (counts : DeclaredBefore) →
      in_turn (map (stmt_step vars constants) body) (known_in env) ≡ Some counts →
      (in_order (map (walked_stmt constants vars) body) env).failures ≡ [] →
      last_of (map is_return (in_order (map (walked_stmt constants vars) body) env).made) ≡ true
  body_last [] named last env around known counts step none = absurd (cc)
  body_last (s ∷ []) named last env around known counts step none =
      let found = some_found (in_turn []) (stmt_step vars constants s (known_in env)) counts step in
      let one = statement_returns constants vars site s (and_first (stmt_named constants vars site.earlier s) true named) (return_surely s last) env around known
      found.0 found.1 (first_empty (walked_stmt constants vars s env).failures [] none) in
      ap (λ made. last_of (map is_return (cons_option made []))) one.is ∙ return_returned constants vars s env one.it last one.is
  body_last (s ∷ t ∷ rest) named last env around known counts step none =
      let next : Environment = (walked_stmt constants vars s env).env in
      let further : Block Stmt = in_order (map (walked_stmt constants vars) (t ∷ rest)) next in
      let found = some_found (in_turn (map (stmt_step vars constants) (t ∷ rest))) (stmt_step vars constants s (known_in env)) counts step in
      let passed = statement_fits constants vars site s (and_first (stmt_named constants vars site.earlier s)
      (all_of (map (stmt_named constants vars site.earlier) (t ∷ rest))) named) env around known found.0 found.1
      (first_empty (walked_stmt constants vars s env).failures further.failures none) in
      last_front (walked_stmt constants vars s env).made further.made
      (body_last (t ∷ rest) (and_second (stmt_named constants vars site.earlier s)
      (all_of (map (stmt_named constants vars site.earlier) (t ∷ rest))) named) last
      next
      (grown_around env next site passed.grown around) passed.known counts
      (ap (in_turn (map (stmt_step vars constants) (t ∷ rest))) passed.counts_are ∙ found.2)
      (second_empty (walked_stmt constants vars s env).failures further.failures none))

  module _ (unit : NamedUnit) (made : UnitDef) (env : Environment) (counts : DeclaredBefore) (kind : made.kind ≡ unit.kind) (outputs : made.outputs ≡ unit.outputs)
      (result : is_none unit.result ≡ true → is_none made.result ≡ true)
      (body : made.body ≡ (in_order (map (walked_stmt constants vars) unit.body) env).made)
      (named : all_of (map (stmt_named constants vars site.earlier) unit.body) ≡ true) (around : Around env site) (known : Known env)
      (step : in_turn (map (stmt_step vars constants) unit.body) (known_in env) ≡ Some counts)
      (none : (in_order (map (walked_stmt constants vars) unit.body) env).failures ≡ []) where
    function_by : named_function_returns unit ≡ true → function_returns made ≡ true
    function_by returns =
        either_by (is_none unit.result) (nat_eq unit.outputs 0 && last_of (map named_surely_returns unit.body)) (is_none made.result)
        (nat_eq made.outputs 0 && last_of (map surely_returns made.body)) returns result
        (λ both_hold. and_from (nat_eq made.outputs 0) (last_of (map surely_returns made.body))
        (ap (λ n. nat_eq n 0) outputs ∙ and_first (nat_eq unit.outputs 0) (last_of (map named_surely_returns unit.body)) both_hold)
        (ap (λ body. last_of (map surely_returns body)) body
        ∙ bodies_return constants vars site unit.body named (and_second (nat_eq unit.outputs 0) (last_of (map named_surely_returns unit.body)) both_hold) env
        around known counts step none))

    activity_by : named_activity_returns unit ≡ true → strays unit.body ≡ [] → activity_returns made ≡ true
    activity_by returns straying =
        and_from (returns_last_alone made.body) (is_none made.result || last_of (map is_return made.body))
        (ap returns_last_alone body ∙ body_alone constants vars unit.body straying env)
        (either_by (is_none unit.result) (last_of (map named_is_return unit.body)) (is_none made.result) (last_of (map is_return made.body)) returns result
        (λ last. ap (λ body. last_of (map is_return body)) body ∙ body_last unit.body named last env around known counts step none))

    returns_by : (activity : Bool) → (if activity then unless (named_activity_returns unit) rule.Return unit.name.place
        ++ strays unit.body else unless (named_function_returns unit) rule.Return unit.name.place) ≡ [] →
        (if activity then activity_returns made else function_returns made) ≡ true
    returns_by true fine =
        activity_by (unless_holds (named_activity_returns unit) rule.Return unit.name.place
        (first_empty (unless (named_activity_returns unit) rule.Return unit.name.place) (strays unit.body) fine))
        (second_empty (unless (named_activity_returns unit) rule.Return unit.name.place) (strays unit.body) fine)
    returns_by false fine = function_by (unless_holds (named_function_returns unit) rule.Return unit.name.place fine)

    pub unit_made_returns : return_failures unit ≡ [] → unit_returns made ≡ true
    unit_made_returns fine = ap (λ kind. if is_activity kind then activity_returns made else function_returns made) kind
        ∙ returns_by (is_activity unit.kind) fine
