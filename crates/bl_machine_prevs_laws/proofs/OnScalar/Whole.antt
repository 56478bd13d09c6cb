-- The law of a whole program.
use Rattle.std.proofs.Common.{◌≡◌, ℕ, Bool, true, false, ◌&&◌, ◌||◌, List, [], ◌∷◌, ◌++◌, map, take, length, refl}
use Rattle.std.proofs.Common.{sym, subst, eqb-true}
use Rattle.std.specs.List.{list_all, list_any}
use Rattle.std.specs.Prelude.{nat_eq}
use Rattle.bl_tree.proofs.Basics.{and_first, and_second}
use Rattle.bl_tree.specs.declared.tree.StructDef.{StructDef}
use Rattle.bl_tree.specs.declared.tree.Unit.{Unit as UnitDef}
use Rattle.bl_tree.specs.Apart.{is_apart}
use Rattle.bl_tree.specs.Depths.{is_shallow}
use Rattle.bl_tree.specs.Program.{names_of, parameters_of, roles_stand, unit_stands}
use Rattle.bl_tree.specs.Reduce.{all_of}
use Rattle.bl_tree.specs.Returns.{unit_returns}
use Rattle.bl_tree.specs.Types.{type_stands}
use Rattle.bl_tree.specs.Typing.{TypingContext, fits, site_of}
use Rattle.bl_tree.specs.Words.{are_distinct, is_name}
use Rattle.bl_machine_prevs.specs.Prevs.{prevs_of}
use Rattle.bl_machine_prevs_laws.specs.Scalar.{PrevsAreScalar}
use Rattle.bl_machine_prevs_laws.proofs.OnScalar.Expressions.{is_scalar}
use Rattle.bl_machine_prevs_laws.proofs.OnScalar.Statements.{body_scalar}
use Rattle.bl_eval.proofs.UnitFits.{all_listed, unit_at}

-- ---- units

body_fits : (structs : List StructDef) (earlier : List UnitDef) (unit : UnitDef) → unit_stands structs earlier unit ≡ true →
    all_of (map (fits (site_of structs earlier unit)) unit.body) ≡ true
body_fits structs earlier unit stands =
    let last : Bool = unit_returns unit && (is_shallow 200 unit.body && list_all is_apart unit.body) in
    let fitted : Bool = list_all (fits (site_of structs earlier unit)) unit.body in
    let typed : Bool = list_all (λ var. type_stands (length structs) var.ty) unit.vars in
    let named : Bool = roles_stand unit && (list_all is_name (names_of unit.vars) && are_distinct (names_of (parameters_of unit))) in
    all_listed (fits (site_of structs earlier unit)) unit.body
    (and_first fitted last (and_second typed (fitted && last) (and_second named (typed && (fitted && last)) stands)))

-- ---- what is named

one_holds : (test : ℕ → Bool) (ks : List ℕ) (x : ℕ) → list_all test ks ≡ true → list_any (nat_eq x) ks ≡ true → test x ≡ true
one_holds test [] x all among = absurd (cc)
one_holds test (k ∷ ks) x all among = by (nat_eq x k) refl among (one_holds test ks x (and_second (test k) (list_all test ks) all))
  where
    by : (b : Bool) → nat_eq x k ≡ b → (b || list_any (nat_eq x) ks) ≡ true → (list_any (nat_eq x) ks ≡ true → test x ≡ true) →
        test x ≡ true
    by true is among later =
        let same : x ≡ k = eqb-true x k is in subst (λ y. test y ≡ true) (sym same) (and_first (test k) (list_all test ks) all)
    by false is among later = later among

pub prevs_are_scalar : PrevsAreScalar
prevs_are_scalar structs units entry k x unit keeps there named =
    let site : TypingContext = site_of structs (take k units) unit in
    one_holds (is_scalar site) (prevs_of unit) x
    (body_scalar site unit.body (body_fits structs (take k units) unit (unit_at structs [] units k unit keeps.units_stand there))) named
