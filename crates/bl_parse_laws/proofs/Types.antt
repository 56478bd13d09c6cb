-- What is spelled as a type derives one.
use Rattle.std.proofs.Common.{ℕ, List, [], ◌∷◌, refl}
use Rattle.bl_tree.specs.declared.scalar.Scalar.{Scalar as ScalarType}
use Rattle.bl_tree.specs.declared.token.Token.{Token}
use Rattle.bl_tree.specs.declared.token.TokenKind.{TokenKind}
use Rattle.bl_grammar.specs.declared.symbol.Symbol.TheVariants.{Terminal}
use Rattle.bl_parse_syntax.specs.declared.grammar.Part.TheVariants.{Ty, Scalar, Length}
use Rattle.bl_parse_syntax.specs.Grammar.{the, name, class_of, productions, IsAmong}
use Rattle.bl_parse_syntax.specs.Grammar.IsAmong.{here, later}
use Rattle.bl_parse_tree.specs.declared.name.Name.{Name}
use Rattle.bl_parse_tree.specs.declared.types.RawLength.{RawLength}
use Rattle.bl_parse_tree.specs.declared.types.RawType.{RawType}
use Rattle.bl_parse.specs.At.{SpellsName}
use Rattle.bl_parse.specs.Operators.{IsScalar, SpellsScalar}
use Rattle.bl_parse.specs.Types.{SpellsLength, SpellsType}
use Rattle.bl_parse_laws.proofs.Spans.{Spans, token, then, made}

pub a_name : {text : List ℕ} {tokens : List Token} {n : Name} {from to : ℕ} → SpellsName text tokens n from to → Spans (name ∷ []) tokens from to
a_name n = token n.token

among_scalar : {kind : TokenKind} {s : ScalarType} → IsScalar kind s → IsAmong (Terminal (class_of kind) ∷ []) (productions Scalar)
among_scalar IsScalar.bool = here
among_scalar IsScalar.int8 = later here
among_scalar IsScalar.int16 = later (later here)
among_scalar IsScalar.int32 = later (later (later here))
among_scalar IsScalar.int64 = later (later (later (later here)))
among_scalar IsScalar.nat8 = later (later (later (later (later here))))
among_scalar IsScalar.nat16 = later (later (later (later (later (later here)))))
among_scalar IsScalar.nat32 = later (later (later (later (later (later (later here))))))
among_scalar IsScalar.nat64 = later (later (later (later (later (later (later (later here)))))))
among_scalar IsScalar.bits8 = later (later (later (later (later (later (later (later (later here))))))))
among_scalar IsScalar.bits16 = later (later (later (later (later (later (later (later (later (later here)))))))))
among_scalar IsScalar.bits32 = later (later (later (later (later (later (later (later (later (later (later here))))))))))
among_scalar IsScalar.bits64 = later (later (later (later (later (later (later (later (later (later (later (later here)))))))))))

pub scalar : {tokens : List Token} {s : ScalarType} {from to : ℕ} → SpellsScalar tokens s from to → Spans (the Scalar ∷ []) tokens from to
scalar h = made Scalar (among_scalar h.is) (λ n. refl) (token h.token)

a_length : {text : List ℕ} {tokens : List Token} {length : RawLength} {from to : ℕ} → SpellsLength text tokens length from to →
    Spans (the Length ∷ []) tokens from to
a_length (SpellsLength.number t is) = made Length here (λ n. refl) (token t)
a_length (SpellsLength.constant n is) = made Length (later here) (λ n. refl) (a_name n)

pub a_type : {text : List ℕ} {tokens : List Token} {ty : RawType} {from to : ℕ} → SpellsType text tokens ty from to →
    Spans (the Ty ∷ []) tokens from to
a_type (SpellsType.scalar s is) = made Ty here (λ n. refl) (scalar s)
a_type (SpellsType.named n is) = made Ty (later here) (λ n. refl) (a_name n)
a_type (SpellsType.array opens length closes element is) =
    made Ty (later (later here)) (λ n. refl) (then (token opens) (then (a_length length) (then (token closes) (a_type element))))
