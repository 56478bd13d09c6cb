-- A statement is read in one way.
use Rattle.std.proofs.Common.{◌≡◌, ℕ, true, cond, List, [], ◌∷◌, refl, ap, sym, ◌∙◌}
use Rattle.std.specs.Prelude.{Option, Some}
use Rattle.bl_tree.specs.declared.scalar.Scalar.{Scalar as ScalarType}
use Rattle.bl_tree.specs.declared.token.Token.{Token}
use Rattle.bl_tree.specs.declared.token.TokenKind.{TokenKind}
use Rattle.bl_tree.specs.declared.token.TokenKind.TheVariants.{Word, Sign}
use Rattle.bl_tree.specs.declared.tree.Guard.{Guard as GuardKind}
use Rattle.bl_tree.specs.declared.token.Keyword.TheVariants as keyword
use Rattle.bl_tree.specs.Keywords.{same_word}
use Rattle.bl_lex.specs.declared.sign.TheConstants.{OPEN_PAREN, CLOSE_PAREN, OPEN_BRACKET, COMMA, DOT, COLON, ASSIGN}
use Rattle.bl_parse_syntax.specs.declared.grammar.Class.TheVariants.{AnyName, Mark}
use Rattle.bl_parse_syntax.specs.Grammar.{class_of}
use Rattle.bl_parse_syntax.specs.Follow.{after_expression, after_statement}
use Rattle.bl_parse_syntax.proofs.Checks.{are_within}
use Rattle.bl_parse_tree.specs.declared.expr.RawExpr.{RawExpr}
use Rattle.bl_parse_tree.specs.declared.name.Name.{Name}
use Rattle.bl_parse_tree.specs.declared.stmt.RawConstant.{RawConstant}
use Rattle.bl_parse_tree.specs.declared.stmt.RawPath.{RawPath}
use Rattle.bl_parse_tree.specs.declared.types.RawLength.{RawLength}
use Rattle.bl_parse_tree.specs.declared.types.RawType.{RawType}
use Rattle.bl_parse_tree.specs.declared.types.RawType as form
use Rattle.bl_tree.specs.declared.place.Place.{Place}
use Rattle.bl_parse.specs.At.{span, Takes, SpellsName}
use Rattle.bl_parse.specs.Expressions.{SpellsInputs}
use Rattle.bl_parse.specs.Operators.{IsScalar, SpellsScalar, scalar_classes}
use Rattle.bl_parse.specs.inner.Reading.{NoneNext}
use Rattle.bl_parse.specs.Types.{SpellsLength, SpellsType}
use Rattle.bl_parse.specs.Statements.{SpellsTyping, SpellsMaybeTyping, SpellsValue, SpellsInitial, SpellsConstant, SpellsFields, SpellsPath, SpellsPaths}
use Rattle.bl_parse.specs.Statements.{SpellsOutputs, SpellsReceiver, IsGuard, SpellsGuard}
use Rattle.bl_parse_laws.proofs.Only.{One, Elem, Row, Lined, Linked, Begun, meets, meets_free, one_name, begun, same_kind, next_same, clash, token_none, stops}
use Rattle.bl_parse_laws.proofs.Only.{fewer, add_row, line_one, line_more, rows_same, lines_same, follows_plain, linked, linked_begin}
use Rattle.bl_parse_laws.proofs.Chains.{same_scalar}
use Rattle.bl_parse_laws.proofs.OnlyExpr.{differ, begun_in, same_number, no_paren, only_inputs, only_expr}

-- ---- equal parts make equal trees

pub by1 : {A K : Type 0} {a b : A} {x y : K} (f : A → K) → a ≡ b → x ≡ f a → y ≡ f b → x ≡ y
by1 f e is also = is ∙ (ap f e ∙ sym also)

pub by2 : {A B K : Type 0} {a c : A} {b d : B} {x y : K} (f : A → B → K) → a ≡ c → b ≡ d → x ≡ f a b → y ≡ f c d → x ≡ y
by2 {c = c} {b = b} f e g is also = is ∙ (ap (λ u. f u b) e ∙ (ap (f c) g ∙ sym also))

pub by3 : {A B C K : Type 0} {a a' : A} {b b' : B} {c c' : C} {x y : K} (f : A → B → C → K) → a ≡ a' → b ≡ b' → c ≡ c' →
    x ≡ f a b c → y ≡ f a' b' c' → x ≡ y
by3 {a' = a'} {b = b} {b' = b'} {c = c} f e g h is also = is ∙ (ap (λ u. f u b c) e ∙ (ap (λ u. f a' u c) g ∙ (ap (f a' b') h ∙ sym also)))

pub by4 : {A B C D K : Type 0} {a a' : A} {b b' : B} {c c' : C} {d d' : D} {x y : K} (f : A → B → C → D → K) → a ≡ a' → b ≡ b' →
    c ≡ c' → d ≡ d' → x ≡ f a b c d → y ≡ f a' b' c' d' → x ≡ y
by4 {a' = a'} {b = b} {b' = b'} {c = c} {c' = c'} {d = d} f e g h i is also =
    is ∙ (ap (λ u. f u b c d) e ∙ (ap (λ u. f a' u c d) g ∙ (ap (λ u. f a' b' u d) h ∙ (ap (f a' b' c') i ∙ sym also))))

-- ---- types

scalar_within : {kind : TokenKind} {s : ScalarType} → IsScalar kind s → are_within (class_of kind ∷ []) scalar_classes ≡ true
scalar_within IsScalar.bool = refl
scalar_within IsScalar.int8 = refl
scalar_within IsScalar.int16 = refl
scalar_within IsScalar.int32 = refl
scalar_within IsScalar.int64 = refl
scalar_within IsScalar.nat8 = refl
scalar_within IsScalar.nat16 = refl
scalar_within IsScalar.nat32 = refl
scalar_within IsScalar.nat64 = refl
scalar_within IsScalar.bits8 = refl
scalar_within IsScalar.bits16 = refl
scalar_within IsScalar.bits32 = refl
scalar_within IsScalar.bits64 = refl

begun_scalar : {tokens : List Token} {s : ScalarType} {k m : ℕ} → SpellsScalar tokens s k m → Begun scalar_classes tokens k
begun_scalar h = begun_in scalar_classes h.token (scalar_within h.is)

number_at : (tokens : List Token) → ℕ → ℕ → ℕ → RawLength
number_at tokens from to n = RawLength.Number (record { place = span tokens from to; value = n })

same_length : {text : List ℕ} {tokens : List Token} {l r : RawLength} {a b c d : ℕ} → SpellsLength text tokens l a b → a ≡ c →
    SpellsLength text tokens r c d → (l ≡ r) × (b ≡ d)
unfolding number_at
same_length {tokens = tokens} (SpellsLength.number t is) e (SpellsLength.number u also) = let b = next_same e t u in
    (by3 (number_at tokens) e b (same_number t e u) is also, b)
same_length (SpellsLength.number t is) e (SpellsLength.constant n also) = clash t e n.token refl
same_length (SpellsLength.constant n is) e (SpellsLength.number u also) = clash n.token e u refl
same_length (SpellsLength.constant n is) e (SpellsLength.constant m also) = let x = meets_free (one_name n) e m in (by1 RawLength.Constant x.0 is also, x.1)

pub same_type : {text : List ℕ} {tokens : List Token} {ty : RawType} {a b : ℕ} → SpellsType text tokens ty a b →
    {r : RawType} {c d : ℕ} → a ≡ c → SpellsType text tokens r c d → (ty ≡ r) × (b ≡ d)
same_type (SpellsType.scalar s is) e (SpellsType.scalar r also) = let x = same_scalar s e r in (by1 form.Scalar x.0 is also, x.1)
same_type (SpellsType.scalar s is) e (SpellsType.named n also) = differ scalar_classes (AnyName ∷ []) (begun_scalar s) e (begun n.token) refl
same_type (SpellsType.scalar s is) e (SpellsType.array u l v f also) = differ scalar_classes (Mark OPEN_BRACKET ∷ []) (begun_scalar s) e (begun u) refl
same_type (SpellsType.named n is) e (SpellsType.scalar r also) = differ (AnyName ∷ []) scalar_classes (begun n.token) e (begun_scalar r) refl
same_type (SpellsType.named n is) e (SpellsType.named m also) = let x = meets_free (one_name n) e m in (by1 form.Struct x.0 is also, x.1)
same_type (SpellsType.named n is) e (SpellsType.array u l v f also) = clash n.token e u refl
same_type (SpellsType.array t l c f is) e (SpellsType.scalar r also) = differ (Mark OPEN_BRACKET ∷ []) scalar_classes (begun t) e (begun_scalar r) refl
same_type (SpellsType.array t l c f is) e (SpellsType.named m also) = clash t e m.token refl
same_type (SpellsType.array t l c f is) e (SpellsType.array u k v g also) =
    let x = same_length l (next_same e t u) k in let y = same_type f (next_same x.1 c v) g in (by2 form.Array x.0 y.0 is also, y.1)

-- ---- parts of statements

pub same_typing : {text : List ℕ} {tokens : List Token} {ty r : RawType} {a b c d : ℕ} → SpellsTyping text tokens ty a b → a ≡ c →
    SpellsTyping text tokens r c d → (ty ≡ r) × (b ≡ d)
same_typing h e g = same_type h.ty_at (next_same e h.sign g.sign) g.ty_at

pub same_maybe : {text : List ℕ} {tokens : List Token} {ty r : Option RawType} {a b c d : ℕ} →
    SpellsMaybeTyping text tokens ty a b → a ≡ c → SpellsMaybeTyping text tokens r c d
    → NoneNext (Mark COLON ∷ []) tokens b → NoneNext (Mark COLON ∷ []) tokens d → (ty ≡ r) × (b ≡ d)
same_maybe (SpellsMaybeTyping.absent none is) e (SpellsMaybeTyping.absent nil also) s r = (none ∙ sym nil, is ∙ (e ∙ sym also))
same_maybe (SpellsMaybeTyping.absent none is) e (SpellsMaybeTyping.written g also) s r = token_none g.sign (is ∙ e) refl s
same_maybe (SpellsMaybeTyping.written h is) e (SpellsMaybeTyping.absent nil also) s r = token_none h.sign (also ∙ sym e) refl r
same_maybe (SpellsMaybeTyping.written h is) e (SpellsMaybeTyping.written g also) s r = let x = same_typing h e g in
    (by1 (λ (t : RawType). Some t) x.0 is also, x.1)

pub same_value : {text : List ℕ} {tokens : List Token} {v r : RawExpr} {a b c d : ℕ} → SpellsValue text tokens v a b → a ≡ c →
    SpellsValue text tokens r c d
    → NoneNext after_expression tokens b → NoneNext after_expression tokens d → (v ≡ r) × (b ≡ d)
same_value h e g s r = meets (only_expr h.expr) (next_same e h.sign g.sign) g.expr s r

pub same_initial : {text : List ℕ} {tokens : List Token} {v r : Option RawExpr} {a b c d : ℕ} → SpellsInitial text tokens v a b →
    a ≡ c → SpellsInitial text tokens r c d
    → NoneNext after_statement tokens b → NoneNext after_statement tokens d → (v ≡ r) × (b ≡ d)
same_initial (SpellsInitial.absent none is) e (SpellsInitial.absent nil also) s r = (none ∙ sym nil, is ∙ (e ∙ sym also))
same_initial (SpellsInitial.absent none is) e (SpellsInitial.given g also) s r = token_none g.sign (is ∙ e) refl s
same_initial (SpellsInitial.given h is) e (SpellsInitial.absent nil also) s r = token_none h.sign (also ∙ sym e) refl r
same_initial (SpellsInitial.given h is) e (SpellsInitial.given g also) s r =
    let x = same_value h e g (fewer after_expression after_statement refl s) (fewer after_expression after_statement refl r) in
    (by1 (λ (t : RawExpr). Some t) x.0 is also, x.1)

constant_of : Name → Option RawType → RawExpr → RawConstant
constant_of n t v = record { name = n; ty = t; value = v }

pub same_constant : {text : List ℕ} {tokens : List Token} {v r : RawConstant} {a b c d : ℕ} → SpellsConstant text tokens v a b →
    a ≡ c → SpellsConstant text tokens r c d
    → NoneNext after_expression tokens b → NoneNext after_expression tokens d → (v ≡ r) × (b ≡ d)
unfolding constant_of
same_constant h e g s r =
    let x = meets_free (one_name h.name) (next_same e h.word g.word) g.name in
    let y = same_maybe h.typing x.1 g.typing (stops h.value.sign refl) (stops g.value.sign refl) in
    let z = same_value h.value y.1 g.value s r in
    (by3 constant_of x.0 y.0 z.0 refl refl, z.1)

-- fields behind a path's name
abbrev Dotted : List ℕ → List Token → Name → ℕ → ℕ → Type 0
Dotted text tokens = Linked (Sign DOT) tokens (SpellsName text tokens)

row_of_fields : {text : List ℕ} {tokens : List Token} {fields : List Name} {from to : ℕ} → SpellsFields text tokens fields from to →
    Row (Dotted text tokens) fields from to
row_of_fields (SpellsFields.none none is) = Row.over none is
row_of_fields (SpellsFields.more fields dot n is) = add_row (row_of_fields fields) (record { m = _; by = dot; elem = n }) is

only_fields : {text : List ℕ} {tokens : List Token} {fields : List Name} {from to : ℕ} → SpellsFields text tokens fields from to →
    Row (Elem (Dotted text tokens) (Mark DOT ∷ []) [] tokens) fields from to
only_fields (SpellsFields.none none is) = Row.over none is
only_fields (SpellsFields.more fields dot n is) = add_row (only_fields fields) (linked dot (one_name n)) is

path_of : Place → Name → List Name → RawPath
path_of p n fields = record { place = p; root = n; fields = fields }

pub same_path : {text : List ℕ} {tokens : List Token} {v r : RawPath} {a b c d : ℕ} → SpellsPath text tokens v a b → a ≡ c →
    SpellsPath text tokens r c d
    → NoneNext (Mark DOT ∷ []) tokens b → NoneNext (Mark DOT ∷ []) tokens d → (v ≡ r) × (b ≡ d)
unfolding path_of
same_path {text} {tokens} {a = a} {b = b} {c = c} {d = d} h e g s r =
    let x = meets_free (one_name h.root) e g.root in
    let y = rows_same (Dotted text tokens) (Mark DOT ∷ []) [] (Mark DOT ∷ []) tokens
    (linked_begin (Sign DOT) tokens (SpellsName text tokens)) refl refl refl (only_fields h.fields) _ _ _ x.1 (row_of_fields g.fields) s r in
    (by3 path_of (h.place ∙ (ap (λ k. span tokens k b) e ∙ (ap (span tokens c) y.1 ∙ sym g.place))) x.0 y.0 refl refl, y.1)

one_path : {text : List ℕ} {tokens : List Token} {v : RawPath} {a b : ℕ} → SpellsPath text tokens v a b →
    One (SpellsPath text tokens) (Mark DOT ∷ []) tokens v a b
one_path h = record { only = λ y end q s r. same_path h refl q s r }

abbrev PathLink : List ℕ → List Token → RawPath → ℕ → ℕ → Type 0
PathLink text tokens = Linked (Sign COMMA) tokens (SpellsPath text tokens)

line_of_paths : {text : List ℕ} {tokens : List Token} {ps : List RawPath} {from to : ℕ} → SpellsPaths text tokens ps from to →
    Lined (SpellsPath text tokens) (PathLink text tokens) ps from to
line_of_paths (SpellsPaths.first p is) = line_one p is
line_of_paths (SpellsPaths.more ps comma p is) = line_more (line_of_paths ps) (record { m = _; by = comma; elem = p }) is

only_paths : {text : List ℕ} {tokens : List Token} {ps : List RawPath} {from to : ℕ} → SpellsPaths text tokens ps from to
    → Lined (One (SpellsPath text tokens) (Mark DOT ∷ []) tokens) (Elem (PathLink text tokens) (Mark COMMA ∷ []) (Mark DOT ∷ []) tokens) ps from to
only_paths (SpellsPaths.first p is) = line_one (one_path p) is
only_paths (SpellsPaths.more ps comma p is) = line_more (only_paths ps) (linked comma (one_path p)) is

begun_paths : {text : List ℕ} {tokens : List Token} {ps : List RawPath} {from to : ℕ} → SpellsPaths text tokens ps from to →
    Begun (AnyName ∷ []) tokens from
begun_paths (SpellsPaths.first p is) = begun p.root.token
begun_paths (SpellsPaths.more ps comma p is) = begun_paths ps

pub same_outputs : {text : List ℕ} {tokens : List Token} {v r : List RawPath} {a b c d : ℕ} → SpellsOutputs text tokens v a b →
    a ≡ c → SpellsOutputs text tokens r c d
    → NoneNext after_statement tokens b → NoneNext after_statement tokens d → (v ≡ r) × (b ≡ d)
same_outputs (SpellsOutputs.absent none is) e (SpellsOutputs.absent nil also) s r = (none ∙ sym nil, is ∙ (e ∙ sym also))
same_outputs (SpellsOutputs.absent none is) e (SpellsOutputs.none u v also) s r = token_none u (is ∙ e) refl s
same_outputs (SpellsOutputs.absent none is) e (SpellsOutputs.some u ps v) s r = token_none u (is ∙ e) refl s
same_outputs (SpellsOutputs.none t w is) e (SpellsOutputs.absent nil also) s r = token_none t (also ∙ sym e) refl r
same_outputs (SpellsOutputs.none t w is) e (SpellsOutputs.none u v also) s r = (is ∙ sym also, next_same (next_same e t u) w v)
same_outputs (SpellsOutputs.none t w is) e (SpellsOutputs.some u ps v) s r =
    differ (Mark CLOSE_PAREN ∷ []) (AnyName ∷ []) (begun w) (next_same e t u) (begun_paths ps) refl
same_outputs (SpellsOutputs.some t qs w) e (SpellsOutputs.absent nil also) s r = token_none t (also ∙ sym e) refl r
same_outputs (SpellsOutputs.some t qs w) e (SpellsOutputs.none u v also) s r =
    differ (AnyName ∷ []) (Mark CLOSE_PAREN ∷ []) (begun_paths qs) (next_same e t u) (begun v) refl
same_outputs {text} {tokens} (SpellsOutputs.some t qs w) e (SpellsOutputs.some u ps v) s r =
    let x = lines_same (SpellsPath text tokens) (PathLink text tokens) (Mark COMMA ∷ []) (Mark DOT ∷ [])
    (Mark COMMA ∷ Mark DOT ∷ []) tokens (linked_begin (Sign COMMA) tokens (SpellsPath text tokens)) refl refl refl
    (only_paths qs) (next_same e t u) (line_of_paths ps) (stops w refl) (stops v refl) in
    (x.0, next_same x.1 w v)

-- behind the name of what receives no `(` stands
behind_path : {text : List ℕ} {tokens : List Token} {path : RawPath} {from to m : ℕ} (h : SpellsPath text tokens path from to) →
    Takes tokens (Sign ASSIGN) to m → NoneNext (Mark OPEN_PAREN ∷ []) tokens h.m
behind_path {text} {tokens} h t = follows_plain (Dotted text tokens) (Mark DOT ∷ []) (Mark OPEN_PAREN ∷ [])
    (Mark DOT ∷ Mark OPEN_PAREN ∷ []) tokens (linked_begin (Sign DOT) tokens (SpellsName text tokens)) refl refl refl
    (row_of_fields h.fields) (stops t refl)

-- what receives, a name and its inputs
pub record Started (a c : Option RawPath) (n m : Name) (i j : List RawExpr) (b d : ℕ) : Type 0 where
  pub receiver : a ≡ c
  pub name : n ≡ m
  pub inputs : i ≡ j
  pub at : b ≡ d

pub same_start : {text : List ℕ} {tokens : List Token} {p q : Option RawPath} {n m : Name} {i j : List RawExpr}
    {a a' b b' c c' d d' : ℕ} → SpellsReceiver text tokens p a b → SpellsName text tokens n b c → SpellsInputs text tokens i c d
    → a ≡ a' → SpellsReceiver text tokens q a' b' → SpellsName text tokens m b' c' → SpellsInputs text tokens j c' d' → Started p q n m i j d d'
same_start (SpellsReceiver.absent none is) n i e (SpellsReceiver.absent nil also) m j =
    let x = meets_free (one_name n) (is ∙ (e ∙ sym also)) m in let y = meets_free (only_inputs i) x.1 j in
    record { receiver = none ∙ sym nil; name = x.0; inputs = y.0; at = y.1 }
same_start (SpellsReceiver.absent none is) n i e (SpellsReceiver.given h t also) m j =
    no_paren (next_same (sym (is ∙ e)) h.root.token n.token) (behind_path h t) i
same_start (SpellsReceiver.given h t is) n i e (SpellsReceiver.absent nil also) m j =
    no_paren (next_same (e ∙ sym also) h.root.token m.token) (behind_path h t) j
same_start (SpellsReceiver.given h t is) n i e (SpellsReceiver.given g u also) m j =
    let w = same_path h e g (stops t refl) (stops u refl) in
    let x = meets_free (one_name n) (next_same w.1 t u) m in let y = meets_free (only_inputs i) x.1 j in
    record { receiver = by1 (λ (t : RawPath). Some t) w.0 is also; name = x.0; inputs = y.0; at = y.1 }

guard_of : TokenKind → GuardKind
guard_of (Word w) = cond (same_word w keyword.Abort) GuardKind.Abort GuardKind.Reset
guard_of _ = GuardKind.Abort

guard_as : {kind : TokenKind} {guard : GuardKind} → IsGuard kind guard → guard_of kind ≡ guard
unfolding guard_of
guard_as IsGuard.abort = refl
guard_as IsGuard.reset = refl

pub same_guard : {tokens : List Token} {g h : GuardKind} {a b c d : ℕ} → SpellsGuard tokens g a b → a ≡ c →
    SpellsGuard tokens h c d → (g ≡ h) × (b ≡ d)
same_guard h e g = (sym (guard_as h.is) ∙ (ap guard_of (same_kind h.token e g.token) ∙ guard_as g.is), next_same e h.token g.token)

pub guard_stops : {tokens : List Token} {g : GuardKind} {a b : ℕ} → SpellsGuard tokens g a b → NoneNext after_expression tokens a
guard_stops h = by_guard h.is h.token
  where
    by_guard : {kind : TokenKind} {g : GuardKind} {tokens : List Token} {a b : ℕ} → IsGuard kind g → Takes tokens kind a b →
        NoneNext after_expression tokens a
    by_guard IsGuard.abort t = stops t refl
    by_guard IsGuard.reset t = stops t refl
